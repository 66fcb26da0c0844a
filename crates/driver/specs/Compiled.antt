-- What a text is compiled to.
use Rattle.std.specs.Prelude.{ℕ, List, [], ◌∷◌, ◌++◌, map, slice_get, Option, Some, None}
use Rattle.ada_base.specs.Tokens.{Tokenized, slice_at}
use Rattle.ada_base.specs.declared.operation.Base.TheVariants.{Modulo}
use Rattle.ada_meaning.specs.Meaning.{object_layout}
use Rattle.typed_tree.specs.Programs as typed
use Rattle.typed_tree.specs.Syntax.{Program, Decls, NoDecl, DeclareDefault, DeclareVariable, DeclareConstant, Mentions}
use Rattle.typed_tree.specs.declared.program.Declared.{Declared}
use Rattle.typed_tree.specs.declared.program.Object.{Object}
use Rattle.typed_tree.specs.declared.statements.Decl.{Decl}
use Rattle.typed_tree.specs.declared.statements.Decl.TheVariants as decl
use Rattle.typed_tree.specs.declared.scalars.Class.{Class}
use Rattle.typed_tree.specs.declared.scalars.Class.TheVariants as class
use Rattle.typed_tree.specs.declared.scalars.Scalar.{Scalar}
use Rattle.run_reports.specs.declared.ends.CellKind.{CellKind}
use Rattle.run_reports.specs.declared.ends.CellKind.TheVariants as kind
use Rattle.run_reports.specs.declared.ends.Final.{Final}
use Rattle.driver.specs.declared.unit.Unit.{Unit}

-- the program; the variables of the main procedure's declarative part in order; the names of the declared exceptions
pub record Compiled : Type 0 where
  pub program : Program
  pub finals : List Final
  pub exceptions : List (List ℕ)

-- what a cell of a class keeps
abbrev pub kind_of : Class → CellKind
kind_of class.Boolean = kind.Truth
kind_of (class.Integer (Modulo k)) = kind.Digits
kind_of c = kind.Number

abbrev pub scalar_kind : Scalar → CellKind
scalar_kind s = kind_of s.class

abbrev pub kinds_of : List Scalar → List CellKind
kinds_of cells = map scalar_kind cells

-- the name of an object as it is declared
abbrev pub name_of : Tokenized → Option Object → List ℕ
name_of t None = []
name_of t (Some o) = slice_at t o.name

abbrev pub final_of : Tokenized → Program → ℕ → Final
final_of t p x = record { name = name_of t (slice_get p.objects x); kinds = kinds_of (object_layout p x) }

-- the variables that are declared, behind others
abbrev pub finals_behind : Tokenized → Program → List Final → Decls → List Final
finals_behind t p done NoDecl = done
finals_behind t p done (DeclareDefault x more) = finals_behind t p (done ++ final_of t p x ∷ []) more
finals_behind t p done (DeclareVariable x initial more) = finals_behind t p (done ++ final_of t p x ∷ []) more
finals_behind t p done (DeclareConstant x initial more) = finals_behind t p done more
finals_behind t p done (Mentions es more) = finals_behind t p done more

-- the variable that a node declares, and the variables with one more
abbrev pub declared_variable : Option Decl → Option ℕ
declared_variable None = None
declared_variable (Some (decl.Default x)) = Some x
declared_variable (Some (decl.Variable x initial)) = Some x
declared_variable (Some (decl.Constant x initial)) = None
declared_variable (Some (decl.Mentions es)) = None

abbrev pub also_final : Tokenized → Program → List Final → Option ℕ → List Final
also_final t p done None = done
also_final t p done (Some x) = done ++ final_of t p x ∷ []

abbrev pub exception_names : Tokenized → List Declared → List (List ℕ)
exception_names t ds = map (λ (d : Declared). slice_at t d.name) ds

abbrev pub compiled : Tokenized → Program → Compiled
compiled t p = record { program = p; finals = finals_behind t p [] p.body.decls; exceptions = exception_names t p.exceptions }

abbrev pub compiled_of : Unit → Compiled
compiled_of unit = record { program = typed.program unit.typed; finals = unit.finals; exceptions = unit.exceptions }
