-- The code of bodies: the main procedure, and behind it the subprograms in order (6).
use Rattle.std.specs.Prelude.{ℕ, ◌+◌, List, [], ◌∷◌, length, Option, Some, None, false}
use Rattle.ada_base.specs.declared.reason.Reason.TheVariants as reason
use Rattle.behaviours.specs.Paths.{Entity, VariableOf, ConstantOf}
use Rattle.typed_tree.specs.declared.scalars.Scalar.{Scalar}
use Rattle.typed_tree.specs.Syntax.{Block, Sub, Program, Decls, NoDecl, DeclareDefault, DeclareVariable, DeclareConstant, Mentions}
use Rattle.ada_meaning.specs.Meaning.{object_layout}
use Rattle.stack_code.specs.declared.code.Around.TheVariants as body
use Rattle.stack_code.specs.declared.instr.Instr.TheVariants as i
use Rattle.lower_emission.specs.declared.types.Named.{Named}
use Rattle.lower_emission.specs.declared.types.Level.TheVariants.{Main}
use Rattle.lower_emission.specs.declared.types.Leaving.{Leaving}
use Rattle.lower_emission.specs.declared.types.Leaving.TheVariants.{ByReturn, ByValue, ByEnd}
use Rattle.lower_emission.specs.Emits.{Emit}
use Rattle.lower_emission.specs.Scope.{Scope, own, taking, with_object, none, one, ◌⨟◌}
use Rattle.lower_emission.specs.Emission.{Shape, lead, shapes, shapes_cells, put_into, width}
use Rattle.lower_emission.specs.Statements.{stmt, defaulted}

-- formals in the first cells of the frame, from one on
abbrev pub placed : List Shape → ℕ → Scope → Scope
placed [] n s = s
placed (h ∷ hs) n s = placed hs (n + lead h.back + h.cells) (with_object h.formal (record { through = false; place = own (n + lead h.back); cells = h.cells }) s)

abbrev pub leaving_of : Option Scalar → Leaving
leaving_of None = ByReturn
leaving_of (Some k) = ByValue

-- a function that reaches its end raises Program_Error (6.5)
abbrev pub ending : Scope → Option Scalar → Emit
ending s None = one s 0 i.Ret
ending s (Some k) = one s 0 (i.Raise reason.ProgramError)

-- an object of the main procedure
abbrev pub main_named : ℕ → ℕ → Named
main_named n cells = record { through = false; place = record { level = Main; cell = n }; cells = cells }

abbrev pub main_object : Scope → Entity → ℕ → Scope
main_object s x cells = taking cells (with_object x (main_named s.free cells) s)

-- where nothing is around
abbrev pub main_scope : (text : List ℕ → ℕ) → Scope
main_scope text = record {
  object = λ x. None;
  parameter = λ k. None;
  item = λ k. None;
  constant_item = λ k. None;
  target = None;
  handled = None;
  exits = λ n. None;
  text = text;
  free = 0;
  entry = None;
  leaving = ByEnd;
  body = body.Sub 0;
  nest = 0;
}

module _ (program : Program) where
  -- a subprogram of that number, in the scope of the main procedure's objects
  abbrev pub sub_scope : Scope → ℕ → Sub → Scope
  sub_scope t k unit = placed (shapes program unit.formals) 0 (record t { free = shapes_cells (shapes program unit.formals); leaving = leaving_of unit.result; body = body.Sub (k + 1) })

  abbrev pub sub_code : Scope → Sub → Emit
  sub_code s unit = stmt program s (Block unit.body.decls unit.body.stmts unit.body.handlers) ⨟ ending s unit.result

  -- those from a number on
  abbrev pub subs_code : Scope → ℕ → List Sub → Emit
  subs_code t k [] = none
  subs_code t k (unit ∷ more) = sub_code (sub_scope t k unit) unit ⨟ subs_code t (k + 1) more

  -- the main procedure's declarations, and what follows in their scope
  abbrev pub main_declared : Scope → Decls → (Scope → Emit) → Emit
  main_declared s NoDecl rest = rest s
  main_declared s (DeclareDefault x more) rest = defaulted program s s.free x ⨟ main_declared (main_object s (VariableOf x) (length (object_layout program x))) more rest
  main_declared s (DeclareVariable x initial more) rest = put_into program (taking (width program initial) s) 0 s.free initial ⨟ main_declared (main_object s (VariableOf x) (width program initial)) more rest
  main_declared s (DeclareConstant x initial more) rest = put_into program (taking (width program initial) s) 0 s.free initial ⨟ main_declared (main_object s (ConstantOf x) (width program initial)) more rest
  main_declared s (Mentions es more) rest = main_declared s more rest

  abbrev pub behind_main : Scope → Emit
  behind_main t = (stmt program t (Block NoDecl program.body.stmts program.body.handlers) ⨟ one t 0 i.Halt) ⨟ subs_code t 0 program.subs

  abbrev pub program_code : (text : List ℕ → ℕ) → Emit
  program_code text = main_declared (main_scope text) program.body.decls behind_main
