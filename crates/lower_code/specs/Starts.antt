-- Where the code of subprograms begins, behind other code.
use Rattle.std.specs.Prelude.{◌≡◌, ℕ, ◌+◌, List, [], ◌∷◌, ◌++◌, length, IsTrue}
use Rattle.behaviours.specs.Paths.{VariableOf, ConstantOf}
use Rattle.typed_tree.specs.Syntax.{Sub, Program, Decls, NoDecl, DeclareDefault, DeclareVariable, DeclareConstant, Mentions}
use Rattle.ada_meaning.specs.Meaning.{object_layout}
use Rattle.lower_emission.specs.declared.types.Placed.{Placed}
use Rattle.lower_emission.specs.Emits.{Emit, written}
use Rattle.lower_emission.specs.Scope.{Scope, taking}
use Rattle.lower_emission.specs.Emission.{put_into, shapes, shapes_cells, width}
use Rattle.lower_emission.specs.Statements.{defaulted}
use Rattle.lower_emission.specs.Bodies.{main_object, sub_code, sub_scope}
use Rattle.lower_emission.specs.Programs.{at_least, has_result, main_halts}
use Rattle.lower_code.specs.declared.body_tables.Start.{Start}
use Rattle.lower_values.specs.declared.types.Emitter.{Emitter}

module _ (program : Program) where
  abbrev pub sub_start : Sub → List Placed → Start
  sub_start unit c = record { entry = length c; need = at_least (shapes_cells (shapes program unit.formals)); gives = has_result unit.result }

  abbrev pub subs_starts : Scope → ℕ → List Sub → List Placed → List Start
  subs_starts t k [] c = []
  subs_starts t k (unit ∷ more) c = sub_start unit c ∷ subs_starts t (k + 1) more (written (sub_code program (sub_scope program t k unit) unit) c)

  abbrev pub main_starts : Scope → Decls → List Placed → List Start
  main_starts s NoDecl c = subs_starts s 0 program.subs (written (main_halts program s) c)
  main_starts s (DeclareDefault x more) c = main_starts (main_object s (VariableOf x) (length (object_layout program x))) more (written (defaulted program s s.free x) c)
  main_starts s (DeclareVariable x initial more) c = main_starts (main_object s (VariableOf x) (width program initial)) more (written (put_into program (taking (width program initial) s) 0 s.free initial) c)
  main_starts s (DeclareConstant x initial more) c = main_starts (main_object s (ConstantOf x) (width program initial)) more (written (put_into program (taking (width program initial) s) 0 s.free initial) c)
  main_starts s (Mentions es more) c = main_starts s more c

-- if the code is whole, this was done to it, and these subprograms begin in it
abbrev pub Begins : Emit → (List Placed → List Start) → Emitter → Emitter → List Start → List Start → Type 0
Begins e f before after old new = IsTrue after.whole → IsTrue before.whole × ((after.code ≡ written e before.code) × (new ≡ old ++ f before.code))
