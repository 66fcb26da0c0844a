-- What programs by hand are made of, and their faults.
use Rattle.std.proofs.Common.{ℕ, List, [], ◌∷◌, Option, None, pos, map}
use Rattle.syntax_tree.specs.Syntax as s
use Rattle.syntax_tree.specs.declared.operators.Additive.TheVariants as additive
use Rattle.ada_base.specs.declared.operation.Comparison.TheVariants as comparison
use Rattle.name_rules.specs.Resolved.{judged}
use Rattle.name_rules.specs.declared.log.Fault.{Fault}
use Rattle.name_rules.specs.declared.log.Rule.{Rule}
use Rattle.name_rules.specs.declared.scope.Names.{Names}

abbrev pub term : s.Primary → s.Term
term p = s.Product (s.Operand p) s.NoMultiplying

abbrev pub simple : s.Primary → s.Simple
simple p = s.Sum None (term p) s.NoAdding

abbrev pub whole : s.Primary → s.Expr
whole p = s.Single (s.Alone (simple p))

abbrev pub name : ℕ → s.Name
name t = s.name t s.NoPart

abbrev pub ident : ℕ → s.Primary
ident t = s.Named (name t)

abbrev pub num : ℕ → s.Primary
num t = s.Number t

-- A + B, with the operator at a token
abbrev pub plus : s.Primary → ℕ → s.Primary → s.Expr
plus a at b = s.Single (s.Alone (s.Sum None (term a) (s.AlsoAdding (s.adding additive.Plus at (term b)) s.NoAdding)))

abbrev pub equal : s.Primary → ℕ → s.Primary → s.Expr
equal a at b = s.Single (s.Compared (simple a) comparison.Equal at (simple b))

abbrev pub one : s.Stmt → s.Stmts
one t = s.stmts t s.NoStmt

abbrev pub tree : List s.Decl → s.Stmt → s.Program
tree ds t = record { policy = None; clauses = []; main = record { at = 0; defined = 1; aspect = None; units = map s.DeclUnit ds; body = s.body (one t) s.NoHandler; last_name = None } }

abbrev pub variable : ℕ → ℕ → Option s.Expr → s.Decl
variable x mark e = s.ObjectDecl (record { first = x; more = [] }) None (s.Indicated (s.Mark mark)) e

-- X : array (a range) of Integer, with or without a value
abbrev pub row : s.Range → Option s.Expr → s.Decl
row r e = s.ObjectDecl (record { first = 10; more = [] }) None (s.Anonymous (record { at = 66; first = r; more = []; component = s.Mark 20 })) e

abbrev pub span : ℕ → ℕ → s.Range
span low high = s.Bounded (simple (num low)) (simple (num high))

-- tokens 10 .. 18 are X, Y, Z, T, U, F, G, P, A; 19 is True; 20 .. 26 are Integer, Boolean, Natural, Ada, Text_IO,
-- Put_Line, Image; 27 is F again; 30 .. 39 are the numbers 0 .. 9; 40 is a large one
abbrev pub names : Names
names = record {
  symbols = 90 ∷ 91 ∷ 92 ∷ 93 ∷ 94 ∷ 95 ∷ 96 ∷ 97 ∷ 98 ∷ 99 ∷ 100 ∷ 101 ∷ 102 ∷ 103 ∷ 104 ∷ 105 ∷ 106 ∷ 107 ∷ 108 ∷ 1 ∷ 3 ∷ 0 ∷ 4 ∷ 9 ∷ 10 ∷ 13 ∷ 21 ∷ 105 ∷ [];
  values = pos 0 ∷ pos 0 ∷ pos 0 ∷ pos 0 ∷ pos 0 ∷ pos 0 ∷ pos 0 ∷ pos 0 ∷ pos 0 ∷ pos 0 ∷ pos 0 ∷ pos 0 ∷ pos 0 ∷ pos 0 ∷ pos 0 ∷ pos 0 ∷ pos 0 ∷ pos 0 ∷ pos 0 ∷ pos 0 ∷ pos 0 ∷ pos 0 ∷ pos 0 ∷ pos 0 ∷ pos 0 ∷ pos 0 ∷ pos 0 ∷ pos 0 ∷ pos 0 ∷ pos 0 ∷ pos 0 ∷ pos 1 ∷ pos 2 ∷ pos 3 ∷ pos 4 ∷ pos 5 ∷ pos 6 ∷ pos 7 ∷ pos 8 ∷ pos 9 ∷ pos 3000000000 ∷ [];
  texts = [];
  subs = 0;
}

unfoldable pub faults : s.Program → List Fault
faults t = (judged names t).1.faults

abbrev pub at : ℕ → Rule → Fault
at token r = record { at = token; rule = r }
