-- Examples of the grammar of programs and subprograms: for each rule a program that it is the
-- point of, with its section, its tree, and a change after which it is at fault.
use Rattle.std.specs.Prelude.{List, [], ◌∷◌, Some, None}
use Rattle.ada_base.specs.Kinds.{arrow, begin_word, close_round, colon, comma, end_word, function_word, identifier, is_word, null_word, numeral, open_round, point, pragma_word, procedure_word, return_word, semicolon, use_word, with_word}
use Rattle.syntax_tree.specs.Syntax.{Mark, Indicated, ObjectDecl, Null, stmts, NoStmt, body, NoHandler, Procedure, ExprFunction, DeclUnit, SubUnit}
use Rattle.syntax_tree.specs.declared.operators.ClauseWord.TheVariants as word
use Rattle.tests_grammar.specs.Rows.{Example, example, Another, Added, LeftOut, expr, number, ids, pack, aspect, clause, policy, main, program, program_of, kinds_of_unit}

abbrev pub rows : List Example
rows =
    -- program (10.1): with A; use A, B; procedure P is begin null; end;
    -- a semicolon after its end
    example (with_word ∷ identifier ∷ semicolon ∷ use_word ∷ identifier ∷ comma ∷ identifier ∷ semicolon
    ∷ procedure_word ∷ identifier ∷ is_word ∷ begin_word ∷ null_word ∷ semicolon ∷ end_word ∷ semicolon ∷ [])
    (program None ((clause 0 word.With (pack 1 []) []) ∷ (clause 3 word.Use (pack 4 []) ((pack 6 []) ∷ []))
    ∷ []) (main 8 9 None [] (body (stmts (Null 12) NoStmt) NoHandler) None))
    (Added 16 semicolon) 16
    ∷
    -- policy (9.10.1): pragma Conflict_Check_Policy (No_Conflict_Checks); procedure P is begin null; end;
    -- nothing in the brackets
    example (pragma_word ∷ identifier ∷ open_round ∷ identifier ∷ close_round ∷ semicolon ∷ procedure_word
    ∷ identifier ∷ is_word ∷ begin_word ∷ null_word ∷ semicolon ∷ end_word ∷ semicolon ∷ [])
    (program (Some (policy 0 1 3)) [] (main 6 7 None [] (body (stmts (Null 10) NoStmt) NoHandler) None))
    (LeftOut 3) 3
    ∷
    -- pack (4.1): with Ada.Text_IO; procedure P is begin null; end;
    -- the identifier after the point left out
    example (with_word ∷ identifier ∷ point ∷ identifier ∷ semicolon ∷ procedure_word ∷ identifier ∷ is_word
    ∷ begin_word ∷ null_word ∷ semicolon ∷ end_word ∷ semicolon ∷ [])
    (program None ((clause 0 word.With (pack 1 (3 ∷ [])) []) ∷ [])
    (main 5 6 None [] (body (stmts (Null 9) NoStmt) NoHandler) None))
    (LeftOut 3) 3
    ∷
    -- main (10.2): procedure P is A : Integer; begin null; end P;
    -- the last semicolon left out
    example (procedure_word ∷ identifier ∷ is_word ∷ identifier ∷ colon ∷ identifier ∷ semicolon ∷ begin_word
    ∷ null_word ∷ semicolon ∷ end_word ∷ identifier ∷ semicolon ∷ [])
    (program None [] (main 0 1 None ((DeclUnit (ObjectDecl (ids 3 []) None (Indicated (Mark 5)) None)) ∷ [])
    (body (stmts (Null 8) NoStmt) NoHandler) (Some 11)))
    (LeftOut 12) 12
    ∷
    -- aspect (13.1.1): procedure P with Nonblocking => True is begin null; end;
    -- the value left out
    example (procedure_word ∷ identifier ∷ with_word ∷ identifier ∷ arrow ∷ identifier ∷ is_word ∷ begin_word
    ∷ null_word ∷ semicolon ∷ end_word ∷ semicolon ∷ [])
    (program None [] (main 0 1 (Some (aspect 2 3 (Some 5))) [] (body (stmts (Null 8) NoStmt) NoHandler) None))
    (LeftOut 5) 5
    ∷
    -- sub (6.1): procedure P is function F return Integer is (1); begin null; end;
    -- "procedure" in place of "function"
    example (kinds_of_unit (function_word ∷ identifier ∷ return_word ∷ identifier ∷ is_word ∷ open_round
    ∷ numeral ∷ close_round ∷ semicolon ∷ []))
    (program_of ((SubUnit (ExprFunction 3 4 None 6 8 (expr (number 9)) None)) ∷ [])
    (body (stmts (Null 13) NoStmt) NoHandler))
    (Another 3 procedure_word) 5
    ∷
    -- sub (6.1): procedure P is procedure Q with Nonblocking is A : Integer; begin null; end Q; begin null; end;
    -- a subprogram in a subprogram
    example (kinds_of_unit (procedure_word ∷ identifier ∷ with_word ∷ identifier ∷ is_word ∷ identifier ∷ colon
    ∷ identifier ∷ semicolon ∷ begin_word ∷ null_word ∷ semicolon ∷ end_word ∷ identifier ∷ semicolon ∷ []))
    (program_of ((SubUnit (Procedure 3 4 None (Some (aspect 5 6 None))
    ((ObjectDecl (ids 8 []) None (Indicated (Mark 10)) None) ∷ []) (body (stmts (Null 13) NoStmt) NoHandler)
    (Some 16))) ∷ []) (body (stmts (Null 19) NoStmt) NoHandler))
    (Another 8 procedure_word) 8
    ∷ []
