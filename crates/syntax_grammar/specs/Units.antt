-- The readers of programs (10.1) and subprograms (6.1, 6.3, 6.8), where so many levels may still open.
use Rattle.std.specs.Prelude.{ℕ, zero, suc, List, [], ◌∷◌, Option, Some, None}
use Rattle.syntax_readers.specs.Readers.{Reader, ◌>>=◌, ◌>>◌, pure, symbol, by_next, too_deep}
use Rattle.syntax_readers.specs.Loops.{grown}
use Rattle.syntax_tree.specs.Joining.{list_and}
use Rattle.ada_base.specs.Kinds as kind
use Rattle.syntax_tree.specs.Syntax.{Formals, Aspect, Sub, Procedure, Function, ExprFunction, Unit', DeclUnit, SubUnit, Pack, Policy, Clause, Main, Program}
use Rattle.syntax_tree.specs.declared.operators.ClauseWord.{ClauseWord}
use Rattle.syntax_tree.specs.declared.operators.ClauseWord.TheVariants as word
use Rattle.syntax_grammar.specs.Declarations.{decl_kinds, decl, decls, maybe_formals}
use Rattle.syntax_grammar.specs.Expressions.{expr}
use Rattle.syntax_grammar.specs.Levels.{levels}
use Rattle.syntax_grammar.specs.Read.{Ended, Valued}
use Rattle.syntax_grammar.specs.Statements.{pack, maybe_identifier, body, stmt}

-- the kinds with which a subprogram begins, and a unit
abbrev pub sub_kinds : List ℕ
sub_kinds = kind.procedure_word ∷ kind.function_word ∷ []

abbrev pub unit_kinds : List ℕ
unit_kinds = kind.procedure_word ∷ kind.function_word ∷ decl_kinds

abbrev pub clause_kinds : List ℕ
clause_kinds = kind.with_word ∷ kind.use_word ∷ []

-- ---- policy and clauses

unfoldable pub open_policy_name : Reader ℕ
open_policy_name = symbol kind.open_round >> (symbol kind.identifier >>= λ p. symbol kind.close_round >> pure p)

unfoldable pub policy_name : ℕ → Reader ℕ
policy_name zero = too_deep (kind.open_round ∷ [])
policy_name (suc n) = open_policy_name

unfoldable pub policy : ℕ → Reader Policy
policy n = symbol kind.pragma_word >>= λ at. symbol kind.identifier >>= λ m. policy_name n >>= λ p. symbol kind.semicolon >> pure (record { at = at; mark = m; policy = p })

unfoldable pub maybe_policy : ℕ → Reader (Option Policy)
maybe_policy n = by_next (kind.pragma_word ∷ []) (policy n >>= λ p. pure (Some p)) (pure None)

unfoldable pub clause_word : Reader (ClauseWord × ℕ)
clause_word = by_next (kind.with_word ∷ []) (symbol kind.with_word >>= λ at. pure (word.With, at)) (symbol kind.use_word >>= λ at. pure (word.Use, at))

unfoldable pub next_pack : Reader Pack
next_pack = symbol kind.comma >> pack

unfoldable pub clause : Reader Clause
clause = clause_word >>= λ w. pack >>= λ p. grown list_and [] (kind.comma ∷ []) next_pack >>= λ ps.
    symbol kind.semicolon >> pure (record { at = w.1; word = w.0; first = p; more = ps })

unfoldable pub clauses : Reader (List Clause)
clauses = grown list_and [] clause_kinds clause

-- ---- aspects

unfoldable pub aspect_value : Reader (Option ℕ)
aspect_value = by_next (kind.arrow ∷ []) (symbol kind.arrow >> (symbol kind.identifier >>= λ v. pure (Some v))) (pure None)

unfoldable pub aspect : Reader Aspect
aspect = symbol kind.with_word >>= λ at. symbol kind.identifier >>= λ m. aspect_value >>= λ v. pure (record { at = at; mark = m; value = v })

unfoldable pub maybe_aspect : Reader (Option Aspect)
maybe_aspect = by_next (kind.with_word ∷ []) (aspect >>= λ a. pure (Some a)) (pure None)

-- ---- subprograms

-- the value of an expression function in its brackets
unfoldable pub open_value : ℕ → Reader Valued
open_value n = symbol kind.open_round >>= λ b. expr (levels n) >>= λ e. symbol kind.close_round >> pure (record { bracket = b; value = e })

unfoldable pub function_value : ℕ → Reader Valued
function_value zero = too_deep (kind.open_round ∷ [])
function_value (suc n) = open_value n

module _ (n : ℕ) where
  -- from `begin` to the end of a subprogram
  unfoldable pub ended : Reader Ended
  ended = symbol kind.begin_word >> (body n (stmt n) >>= λ b. symbol kind.end_word >> (maybe_identifier >>= λ e. symbol kind.semicolon >> pure (record { body = b; last_name = e })))

  unfoldable pub procedure_is : ℕ → ℕ → Option Formals → Option Aspect → Reader Sub
  procedure_is at m f a = symbol kind.is_word >> (decls n >>= λ ds. ended >>= λ e. pure (Procedure at m f a ds e.body e.last_name))

  unfoldable pub procedure : Reader Sub
  procedure = symbol kind.procedure_word >>= λ at. symbol kind.identifier >>= λ m. maybe_formals n >>= λ f. maybe_aspect >>= λ a. procedure_is at m f a

  -- a function, after `is`
  unfoldable pub function_body : ℕ → ℕ → Option Formals → ℕ → Option Aspect → Reader Sub
  function_body at m f r a = decls n >>= λ ds. ended >>= λ e. pure (Function at m f r a ds e.body e.last_name)

  unfoldable pub expression_function : ℕ → ℕ → Option Formals → ℕ → Reader Sub
  expression_function at m f r = function_value n >>= λ v. maybe_aspect >>= λ a. symbol kind.semicolon >> pure (ExprFunction at m f r v.bracket v.value a)

  -- a function, after the mark of its result
  unfoldable pub function_from : ℕ → ℕ → Option Formals → ℕ → Reader Sub
  function_from at m f r =
      by_next (kind.with_word ∷ []) (aspect >>= λ a. symbol kind.is_word >> function_body at m f r (Some a))
      (symbol kind.is_word >> by_next (kind.open_round ∷ []) (expression_function at m f r) (function_body at m f r None))

  unfoldable pub function : Reader Sub
  function = symbol kind.function_word >>= λ at. symbol kind.identifier >>= λ m. maybe_formals n >>= λ f.
      symbol kind.return_word >> (symbol kind.identifier >>= λ r. function_from at m f r)

  unfoldable pub open_sub : Reader Sub
  open_sub = by_next (kind.procedure_word ∷ []) procedure function

unfoldable pub sub : ℕ → Reader Sub
sub zero = too_deep sub_kinds
sub (suc n) = open_sub n

-- ---- programs

unfoldable pub unit : ℕ → Reader Unit'
unit n = by_next sub_kinds (sub n >>= λ s. pure (SubUnit s)) (decl n >>= λ d. pure (DeclUnit d))

unfoldable pub units : ℕ → Reader (List Unit')
units n = grown list_and [] unit_kinds (unit n)

unfoldable pub main_is : ℕ → ℕ → ℕ → Option Aspect → Reader Main
main_is n at m a = symbol kind.is_word >> (units n >>= λ us. ended n >>= λ e.
    pure (record { at = at; defined = m; aspect = a; units = us; body = e.body; last_name = e.last_name }))

unfoldable pub main : ℕ → Reader Main
main n = symbol kind.procedure_word >>= λ at. symbol kind.identifier >>= λ m. maybe_aspect >>= λ a. main_is n at m a

unfoldable pub program : ℕ → Reader Program
program n = maybe_policy n >>= λ p. clauses >>= λ cs. main n >>= λ m. pure (record { policy = p; clauses = cs; main = m })
