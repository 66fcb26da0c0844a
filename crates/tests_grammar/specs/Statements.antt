-- Examples of the grammar of statements: for each rule a program that it is the
-- point of, with its section, its tree, and a change after which it is at fault.
use Rattle.std.specs.Prelude.{List, [], ◌∷◌, Some, None}
use Rattle.ada_base.specs.Kinds.{and_word, arrow, assign, bar, begin_word, case_word, close_round, colon, declare_word, do_word, dots, else_word, elsif_word, end_word, exception_word, exit_word, for_word, identifier, if_word, in_word, is_word, loop_word, null_word, numeral, of_word, open_round, others_word, parallel_word, point, raise_word, range_word, return_word, reverse_word, semicolon, then_word, when_word, while_word}
use Rattle.syntax_tree.specs.Syntax.{AbsentExpr, PresentExpr, name, Call, NoPart, AlsoPart, arg, NoArg, Bounded, Constrained, Value, Span, Others, Chunked, InRange, OfName, Mark, Indicated, ObjectDecl, While, For, AnyOther, These, Null, Assign, Exit, Return, Raise, IfStmt, Case, Loop, Block, ParallelBlock, stmts, NoStmt, AlsoStmt, AbsentStmts, PresentStmts, arm, NoArm, AlsoArm, alt, NoAlt, AlsoAlt, NoBranch, body, handler, NoHandler, AlsoHandler}
use Rattle.tests_grammar.specs.Rows.{Example, example, Another, LeftOut, simple, expr, number, variable, named, ids, pack, declares, program_of, kinds_of_stmts, doing}

abbrev pub rows : List Example
rows =
    -- body (11.2): procedure P is begin null; exception when others => null; end;
    -- "when" left out
    example (kinds_of_stmts (null_word ∷ semicolon ∷ exception_word ∷ when_word ∷ others_word ∷ arrow
    ∷ null_word ∷ semicolon ∷ []))
    (program_of [] (body (stmts (Null 4) NoStmt) (AlsoHandler (handler 7 (AnyOther 8) (stmts (Null 10) NoStmt))
    NoHandler)))
    (LeftOut 7) 7
    ∷
    -- handler (11.2): procedure P is begin null; exception when A.B | C => null; end;
    -- "others" in place of the second choice
    example (kinds_of_stmts (null_word ∷ semicolon ∷ exception_word ∷ when_word ∷ identifier ∷ point
    ∷ identifier ∷ bar ∷ identifier ∷ arrow ∷ null_word ∷ semicolon ∷ []))
    (program_of [] (body (stmts (Null 4) NoStmt) (AlsoHandler
    (handler 7 (These (pack 8 (10 ∷ [])) ((pack 12 []) ∷ [])) (stmts (Null 14) NoStmt)) NoHandler)))
    (Another 12 others_word) 12
    ∷
    -- stmts (5.1): procedure P is begin null; return; end;
    -- the first semicolon left out
    example (kinds_of_stmts (null_word ∷ semicolon ∷ return_word ∷ semicolon ∷ []))
    (program_of [] (body (stmts (Null 4) (AlsoStmt (Return 6 None) NoStmt)) NoHandler))
    (LeftOut 5) 5
    ∷
    -- stmt (5): procedure P is begin if B then null; else A := 1; end if; end;
    -- "if" left out at the end
    example (kinds_of_stmts (if_word ∷ identifier ∷ then_word ∷ null_word ∷ semicolon ∷ else_word ∷ identifier
    ∷ assign ∷ numeral ∷ semicolon ∷ end_word ∷ if_word ∷ semicolon ∷ []))
    (doing (IfStmt 4 (expr (variable 5)) (stmts (Null 7) NoStmt) NoArm
    (PresentStmts (stmts (Assign (named 10) (expr (number 12))) NoStmt))))
    (LeftOut 15) 15
    ∷
    -- alt (5.4): procedure P is begin case B is when 1 => null; when 2 | others => return; end case; end;
    -- the second "when" left out
    example (kinds_of_stmts (case_word ∷ identifier ∷ is_word ∷ when_word ∷ numeral ∷ arrow ∷ null_word
    ∷ semicolon ∷ when_word ∷ numeral ∷ bar ∷ others_word ∷ arrow ∷ return_word ∷ semicolon ∷ end_word
    ∷ case_word ∷ semicolon ∷ []))
    (doing (Case 4 (expr (variable 5)) (alt 7 (Value (simple (number 8))) [] (stmts (Null 10) NoStmt))
    (AlsoAlt (alt 12 (Value (simple (number 13))) ((Others 15) ∷ []) (stmts (Return 17 None) NoStmt)) NoAlt)))
    (LeftOut 12) 12
    ∷
    -- choice (3.8.1): procedure P is begin case B is when 1 .. 2 => null; end case; end;
    -- "others" in place of the lower bound
    example (kinds_of_stmts (case_word ∷ identifier ∷ is_word ∷ when_word ∷ numeral ∷ dots ∷ numeral ∷ arrow
    ∷ null_word ∷ semicolon ∷ end_word ∷ case_word ∷ semicolon ∷ []))
    (doing (Case 4 (expr (variable 5)) (alt 7 (Span (simple (number 8)) (simple (number 10))) []
    (stmts (Null 12) NoStmt)) NoAlt))
    (Another 8 others_word) 9
    ∷
    -- scheme (5.5): procedure P is begin while B loop null; end loop; end;
    -- the condition left out
    example (kinds_of_stmts (while_word ∷ identifier ∷ loop_word ∷ null_word ∷ semicolon ∷ end_word ∷ loop_word
    ∷ semicolon ∷ []))
    (doing (Loop None (Some (While 4 (expr (variable 5)))) 6 (stmts (Null 7) NoStmt) 9 None))
    (LeftOut 5) 5
    ∷
    -- chunk (5.5): procedure P is begin parallel (C in 1 .. 4) for I in 1 .. 9 loop null; end loop; end;
    -- a number in place of the chunk parameter
    example (kinds_of_stmts (parallel_word ∷ open_round ∷ identifier ∷ in_word ∷ numeral ∷ dots ∷ numeral
    ∷ close_round ∷ for_word ∷ identifier ∷ in_word ∷ numeral ∷ dots ∷ numeral ∷ loop_word ∷ null_word
    ∷ semicolon ∷ end_word ∷ loop_word ∷ semicolon ∷ []))
    (doing (Loop None (Some (For (Some (Chunked 4 6 (Bounded (simple (number 8)) (simple (number 10))))) 12
    (InRange 13 None (Bounded (simple (number 15)) (simple (number 17))) AbsentExpr))) 18
    (stmts (Null 19) NoStmt) 21 None))
    (Another 6 numeral) 7
    ∷
    -- iter (5.5): procedure P is begin for I in reverse 1 .. 9 when B loop null; end loop; end;
    -- "of" in place of "in"
    example (kinds_of_stmts (for_word ∷ identifier ∷ in_word ∷ reverse_word ∷ numeral ∷ dots ∷ numeral
    ∷ when_word ∷ identifier ∷ loop_word ∷ null_word ∷ semicolon ∷ end_word ∷ loop_word ∷ semicolon ∷ []))
    (doing (Loop None (Some (For None 4 (InRange 5 (Some 7) (Bounded (simple (number 8)) (simple (number 10)))
    (PresentExpr (expr (variable 12)))))) 13 (stmts (Null 14) NoStmt) 16 None))
    (Another 6 of_word) 7
    ∷
    -- range (3.5): procedure P is begin for I in T range 1 .. 9 loop null; end loop; end;
    -- a number in place of the name
    example (kinds_of_stmts (for_word ∷ identifier ∷ in_word ∷ identifier ∷ range_word ∷ numeral ∷ dots
    ∷ numeral ∷ loop_word ∷ null_word ∷ semicolon ∷ end_word ∷ loop_word ∷ semicolon ∷ []))
    (doing (Loop None (Some (For None 4 (InRange 5 None
    (Constrained (named 7) (simple (number 9)) (simple (number 11))) AbsentExpr))) 12 (stmts (Null 13) NoStmt)
    15 None))
    (Another 7 numeral) 8
    ∷
    -- stmt (5): procedure P is begin exit L when B; end;
    -- "when" left out
    example (kinds_of_stmts (exit_word ∷ identifier ∷ when_word ∷ identifier ∷ semicolon ∷ []))
    (doing (Exit 4 (Some 5) (Some (expr (variable 7)))))
    (LeftOut 6) 6
    ∷
    -- stmt (5): procedure P is begin raise A.B; end;
    -- a number in place of the first identifier
    example (kinds_of_stmts (raise_word ∷ identifier ∷ point ∷ identifier ∷ semicolon ∷ []))
    (doing (Raise 4 (Some (pack 5 (7 ∷ [])))))
    (Another 5 numeral) 5
    ∷
    -- stmt (5): procedure P is begin if B then null; elsif C then return; end if; end;
    -- the second "then" left out
    example (kinds_of_stmts (if_word ∷ identifier ∷ then_word ∷ null_word ∷ semicolon ∷ elsif_word ∷ identifier
    ∷ then_word ∷ return_word ∷ semicolon ∷ end_word ∷ if_word ∷ semicolon ∷ []))
    (doing (IfStmt 4 (expr (variable 5)) (stmts (Null 7) NoStmt)
    (AlsoArm (arm 9 (expr (variable 10)) (stmts (Return 12 None) NoStmt)) NoArm) AbsentStmts))
    (LeftOut 11) 11
    ∷
    -- stmt (5): procedure P is begin L : loop exit; end loop L; end;
    -- the colon left out
    example (kinds_of_stmts (identifier ∷ colon ∷ loop_word ∷ exit_word ∷ semicolon ∷ end_word ∷ loop_word
    ∷ identifier ∷ semicolon ∷ []))
    (doing (Loop (Some 4) None 6 (stmts (Exit 7 None None) NoStmt) 9 (Some 11)))
    (LeftOut 5) 5
    ∷
    -- stmt (5): procedure P is begin declare A : Integer; begin null; end; end;
    -- the first semicolon left out
    example (kinds_of_stmts (declare_word ∷ identifier ∷ colon ∷ identifier ∷ semicolon ∷ begin_word ∷ null_word
    ∷ semicolon ∷ end_word ∷ semicolon ∷ []))
    (doing (Block (Some (declares 4 ((ObjectDecl (ids 5 []) None (Indicated (Mark 7)) None) ∷ []))) 9
    (body (stmts (Null 10) NoStmt) NoHandler)))
    (LeftOut 8) 8
    ∷
    -- stmt (5): procedure P is begin parallel (2) do null; and return; end do; end;
    -- "and" left out
    example (kinds_of_stmts (parallel_word ∷ open_round ∷ numeral ∷ close_round ∷ do_word ∷ null_word
    ∷ semicolon ∷ and_word ∷ return_word ∷ semicolon ∷ end_word ∷ do_word ∷ semicolon ∷ []))
    (doing (ParallelBlock 4 (Some (simple (number 6))) (stmts (Null 9) NoStmt) (stmts (Return 12 None) NoStmt)
    NoBranch))
    (LeftOut 11) 13
    ∷
    -- iter (5.5): procedure P is begin for X of A (1) when B loop null; end loop; end;
    -- "when" left out
    example (kinds_of_stmts (for_word ∷ identifier ∷ of_word ∷ identifier ∷ open_round ∷ numeral ∷ close_round
    ∷ when_word ∷ identifier ∷ loop_word ∷ null_word ∷ semicolon ∷ end_word ∷ loop_word ∷ semicolon ∷ []))
    (doing (Loop None (Some (For None 4 (OfName 5 (name 7
    (AlsoPart (Call 8 (arg None (expr (number 9))) NoArg) NoPart)) (PresentExpr (expr (variable 12)))))) 13
    (stmts (Null 14) NoStmt) 16 None))
    (LeftOut 11) 11
    ∷ []
