-- Programs that go one level too deep. Subprograms, statements and brackets each open a level, and what is around
-- them counts: a statement of the main procedure is at depth 1, a bracket in it at depth 2.
use Rattle.std.specs.Prelude.{ℕ, List, [], ◌∷◌}
use Rattle.ada_base.specs.Derivations.{DerivesWithin}
use Rattle.syntax_tree.specs.Grammar.{ProgramWords, IsFirstTooDeep}
use Rattle.ada_base.specs.Kinds.{identifier, numeral, string, null_word, exit_word, return_word, if_word, then_word, else_word, loop_word, case_word, is_word, when_word, others_word, parallel_word, for_word, in_word, do_word, and_word, end_word, begin_word, declare_word, function_word, procedure_word, type_word, array_word, of_word, pragma_word, arrow, dots, colon, assign, semicolon, open_round, close_round, open_square, close_square, tick, comma}
use Rattle.syntax_tree.specs.Syntax.{Program}
use Rattle.tests_grammar.specs.Rows.{kinds_of_stmts, kinds_of_value, kinds_of_unit}

-- a limit of depth, a program's kinds, the place of the first token that is too deep, and a limit that is enough
pub record DepthRow : Type 0 where
  pub limit : ℕ
  pub kinds : List ℕ
  pub place : ℕ
  pub enough : ℕ

-- the first token that stands deeper than the limit is at the place
abbrev pub IsTooDeepAt : DepthRow → Type 0
IsTooDeepAt r = IsFirstTooDeep r.limit r.kinds r.place

-- within the limit that is enough there is a tree
abbrev pub IsReadWithin : DepthRow → Type 0
IsReadWithin r = (tree : Program) × DerivesWithin r.enough ProgramWords r.kinds tree

abbrev pub row : ℕ → List ℕ → ℕ → ℕ → DepthRow
row limit kinds place enough = record { limit = limit; kinds = kinds; place = place; enough = enough }

abbrev pub rows : List DepthRow
rows =
    -- a statement: procedure P is begin null; end;
    row 0 (kinds_of_stmts (null_word ∷ semicolon ∷ [])) 4 1
    ∷
    -- a statement in a statement: if B then null; end if;
    row 1 (kinds_of_stmts (if_word ∷ identifier ∷ then_word ∷ null_word ∷ semicolon ∷ end_word ∷ if_word
    ∷ semicolon ∷ [])) 7 2
    ∷
    -- three statements, each in the one before: loop begin exit; end; end loop;
    row 2 (kinds_of_stmts (loop_word ∷ begin_word ∷ exit_word ∷ semicolon ∷ end_word ∷ semicolon ∷ end_word
    ∷ loop_word ∷ semicolon ∷ [])) 6 3
    ∷
    -- a statement of an alternative: case B is when others => null; end case;
    row 1 (kinds_of_stmts (case_word ∷ identifier ∷ is_word ∷ when_word ∷ others_word ∷ arrow ∷ null_word
    ∷ semicolon ∷ end_word ∷ case_word ∷ semicolon ∷ [])) 10 2
    ∷
    -- of two that are too deep the first: if B then null; else return; end if;
    row 1 (kinds_of_stmts (if_word ∷ identifier ∷ then_word ∷ null_word ∷ semicolon ∷ else_word ∷ return_word
    ∷ semicolon ∷ end_word ∷ if_word ∷ semicolon ∷ [])) 7 2
    ∷
    -- a branch of a parallel block: parallel do null; and null; end do;
    row 1 (kinds_of_stmts (parallel_word ∷ do_word ∷ null_word ∷ semicolon ∷ and_word ∷ null_word ∷ semicolon
    ∷ end_word ∷ do_word ∷ semicolon ∷ [])) 6 2
    ∷
    -- a subprogram: procedure Q is begin null; end;
    row 0 (kinds_of_unit (procedure_word ∷ identifier ∷ is_word ∷ begin_word ∷ null_word ∷ semicolon ∷ end_word
    ∷ semicolon ∷ [])) 3 2
    ∷
    -- a statement of a subprogram
    row 1 (kinds_of_unit (procedure_word ∷ identifier ∷ is_word ∷ begin_word ∷ null_word ∷ semicolon ∷ end_word
    ∷ semicolon ∷ [])) 7 2
    ∷
    -- the bracket of formal parameters: procedure Q (A : T) is begin null; end;
    row 1 (kinds_of_unit (procedure_word ∷ identifier ∷ open_round ∷ identifier ∷ colon ∷ identifier
    ∷ close_round ∷ is_word ∷ begin_word ∷ null_word ∷ semicolon ∷ end_word ∷ semicolon ∷ [])) 5 2
    ∷
    -- the bracket of an expression function: function F return T is (1);
    row 1 (kinds_of_unit (function_word ∷ identifier ∷ return_word ∷ identifier ∷ is_word ∷ open_round ∷ numeral
    ∷ close_round ∷ semicolon ∷ [])) 8 2
    ∷
    -- a round bracket in another one: A := ((B));
    row 2 (kinds_of_value (open_round ∷ open_round ∷ identifier ∷ close_round ∷ close_round ∷ [])) 7 3
    ∷
    -- a square bracket: A := [1];
    row 1 (kinds_of_value (open_square ∷ numeral ∷ close_square ∷ [])) 6 2
    ∷
    -- the round bracket of a call in that of another one: Q (B (1));
    row 2 (kinds_of_stmts (identifier ∷ open_round ∷ identifier ∷ open_round ∷ numeral ∷ close_round
    ∷ close_round ∷ semicolon ∷ [])) 7 3
    ∷
    -- a bracket among the initial values of a reduction: A := [for I in 1 .. 5 => I]'Reduce ("+", (0));
    row 2 (kinds_of_value (open_square ∷ for_word ∷ identifier ∷ in_word ∷ numeral ∷ dots ∷ numeral ∷ arrow
    ∷ identifier ∷ close_square ∷ tick ∷ identifier ∷ open_round ∷ string ∷ comma ∷ open_round ∷ numeral
    ∷ close_round ∷ close_round ∷ [])) 21 3
    ∷
    -- the bracket of a chunk specification: parallel (2) do null; and null; end do;
    row 1 (kinds_of_stmts (parallel_word ∷ open_round ∷ numeral ∷ close_round ∷ do_word ∷ null_word ∷ semicolon
    ∷ and_word ∷ null_word ∷ semicolon ∷ end_word ∷ do_word ∷ semicolon ∷ [])) 5 2
    ∷
    -- the bracket of index ranges: type T is array (1 .. 9) of U;
    row 0 (kinds_of_unit (type_word ∷ identifier ∷ is_word ∷ array_word ∷ open_round ∷ numeral ∷ dots ∷ numeral
    ∷ close_round ∷ of_word ∷ identifier ∷ semicolon ∷ [])) 7 1
    ∷
    -- a bracket in a declaration of a block: declare A : T := (1); begin null; end;
    row 1 (kinds_of_stmts (declare_word ∷ identifier ∷ colon ∷ identifier ∷ assign ∷ open_round ∷ numeral
    ∷ close_round ∷ semicolon ∷ begin_word ∷ null_word ∷ semicolon ∷ end_word ∷ semicolon ∷ [])) 9 2
    ∷
    -- the bracket of a policy: pragma P (Q);
    row 0 (pragma_word ∷ identifier ∷ open_round ∷ identifier ∷ close_round ∷ semicolon ∷ procedure_word
    ∷ identifier ∷ is_word ∷ begin_word ∷ null_word ∷ semicolon ∷ end_word ∷ semicolon ∷ []) 2 1
    ∷ []
