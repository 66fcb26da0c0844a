-- What the examples of the grammar are made of.
use Rattle.std.specs.Prelude.{ℕ, suc, List, [], ◌∷◌, ◌++◌, take, drop, Option, None}
use Rattle.ada_base.specs.Kinds.{identifier, procedure_word, is_word, begin_word, null_word, end_word, assign, semicolon}
use Rattle.syntax_tree.specs.Syntax as syntax
use Rattle.syntax_tree.specs.Syntax.{Expr, Single, Rel, Alone, Simple, Sum, NoAdding, Term, Product, NoMultiplying, Operand, Primary, Number, Named, Name, NoPart, Ids, Range, Indic, Array, Comp, Decl, Formal, Formals, Pack, Declare, Stmt, Null, Assign, NoStmt, Body, NoHandler, Aspect, Unit', DeclUnit, Policy, Clause, Main, Program}
use Rattle.syntax_tree.specs.declared.operators.ClauseWord.{ClauseWord}
use Rattle.syntax_tree.specs.declared.operators.Mode.{Mode}

-- a change of one kind in a list of them, at a place: it is another, or added, or left out
pub data Change : Type 0 where
  Another : ℕ → ℕ → Change
  Added : ℕ → ℕ → Change
  LeftOut : ℕ → Change

abbrev pub changed : Change → List ℕ → List ℕ
changed (Another place kind) kinds = take place kinds ++ kind ∷ drop (suc place) kinds
changed (Added place kind) kinds = take place kinds ++ kind ∷ drop place kinds
changed (LeftOut place) kinds = take place kinds ++ drop (suc place) kinds

-- a program's kinds with its tree, and a change after which they are no program's, with the place of the first fault
pub record Example : Type 0 where
  pub kinds : List ℕ
  pub tree : Program
  pub change : Change
  pub fault : ℕ

abbrev pub example : List ℕ → Program → Change → ℕ → Example
example kinds tree change fault = record { kinds = kinds; tree = tree; change = change; fault = fault }

-- ---- parts that have no other

abbrev pub named : ℕ → Name
named n = syntax.name n NoPart

abbrev pub number : ℕ → Primary
number n = Number n

abbrev pub variable : ℕ → Primary
variable n = Named (named n)

abbrev pub term : Primary → Term
term p = Product (Operand p) NoMultiplying

abbrev pub simple : Primary → Simple
simple p = Sum None (term p) NoAdding

abbrev pub rel : Primary → Rel
rel p = Alone (simple p)

abbrev pub expr : Primary → Expr
expr p = Single (rel p)

abbrev pub ids : ℕ → List ℕ → Ids
ids first more = record { first = first; more = more }

-- ---- parts with names for their fields

abbrev pub pack : ℕ → List ℕ → Pack
pack first more = record { first = first; more = more }

abbrev pub array : ℕ → Range → List Range → Indic → Array
array at first more component = record { at = at; first = first; more = more; component = component }

abbrev pub component : Ids → Indic → Comp
component names subtype = record { names = names; component = subtype }

abbrev pub declares : ℕ → List Decl → Declare
declares at decls = record { at = at; decls = decls }

abbrev pub aspect : ℕ → ℕ → Option ℕ → Aspect
aspect at mark value = record { at = at; mark = mark; value = value }

abbrev pub formal : Ids → Option Mode → ℕ → Formal
formal names mode mark = record { names = names; mode = mode; mark = mark }

abbrev pub formals : ℕ → Formal → List Formal → Formals
formals bracket first more = record { bracket = bracket; first = first; more = more }

abbrev pub clause : ℕ → ClauseWord → Pack → List Pack → Clause
clause at word first more = record { at = at; word = word; first = first; more = more }

abbrev pub policy : ℕ → ℕ → ℕ → Policy
policy at mark chosen = record { at = at; mark = mark; policy = chosen }

abbrev pub main : ℕ → ℕ → Option Aspect → List Unit' → Body → Option ℕ → Main
main at defined marked units statements last_name = record { at = at; defined = defined; aspect = marked; units = units; body = statements; last_name = last_name }

abbrev pub program : Option Policy → List Clause → Main → Program
program chosen clauses whole = record { policy = chosen; clauses = clauses; main = whole }

-- ---- programs of one part

-- procedure P is .. begin .. end;
abbrev pub program_of : List Unit' → Body → Program
program_of units statements = program None [] (main 0 1 None units statements None)

-- procedure P is begin .. end;
abbrev pub kinds_of_stmts : List ℕ → List ℕ
kinds_of_stmts kinds = procedure_word ∷ identifier ∷ is_word ∷ begin_word ∷ (kinds ++ end_word ∷ semicolon ∷ [])

abbrev pub doing : Stmt → Program
doing s = program_of [] (syntax.body (syntax.stmts s NoStmt) NoHandler)

-- procedure P is begin A := ..; end;
abbrev pub kinds_of_value : List ℕ → List ℕ
kinds_of_value kinds = kinds_of_stmts (identifier ∷ assign ∷ (kinds ++ semicolon ∷ []))

abbrev pub doing_value : Expr → Program
doing_value e = doing (Assign (named 4) e)

-- procedure P is .. begin null; end;
abbrev pub kinds_of_unit : List ℕ → List ℕ
kinds_of_unit kinds = procedure_word ∷ identifier ∷ is_word ∷ (kinds ++ begin_word ∷ null_word ∷ semicolon ∷ end_word ∷ semicolon ∷ [])

-- with the token of null
abbrev pub declaring : Decl → ℕ → Program
declaring d null = program_of (DeclUnit d ∷ []) (syntax.body (syntax.stmts (Null null) NoStmt) NoHandler)
