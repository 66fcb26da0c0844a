-- The code of a unit stands for its program.
use Rattle.std.proofs.Common.{Result, Ok, Err, ℕ}
use Rattle.std.specs.Prelude.{IfOk}
use Rattle.ada_lower.proofs.WholeLaws.{forward_law}
use Rattle.name_scopes.specs.Law.{NamedProgramsLaw}
use Rattle.run_loaded.specs.Law.{AcceptedLaw}
use Rattle.run_machine_laws.specs.Programs.{IsLoaded}
use Rattle.run_machine_laws.specs.Telling.{TellLaw}
use Rattle.stack_code.specs.declared.code.Code.{Code}
use Rattle.typed_tree.specs.Programs.{program}
use Rattle.typed_tree.specs.Syntax.{Program}
use Rattle.driver.specs.Coded.{BuiltStands, IsBuilt, StandsFor}
use Rattle.driver.specs.Kept.{main_frame}
use Rattle.driver.specs.declared.refusal.Refusal.{Refusal}
use Rattle.driver.specs.declared.unit.Unit.{Unit}
use Rattle.driver.proofs.Loads.{code_loaded}

loaded_stands : TellLaw → (p : Program) (c : Code) (slots : ℕ) → IsLoaded p c (main_frame c) slots → StandsFor p c
loaded_stands tell p c slots loaded = record {
  valid = loaded.valid;
  forward = forward_law p loaded.text c loaded.lowered.code;
  slots = slots;
  loaded = loaded;
  tells = λ set plan input before told ending output taken cells ends. tell p set c (main_frame c) slots loaded plan input before told ending output taken cells ends;
}

pub stands_by : NamedProgramsLaw → AcceptedLaw → TellLaw → BuiltStands
stands_by names loads tell unit built =
    let loaded = code_loaded names loads (program unit.typed) unit.code built.accepted built.named built.coded in
    loaded_stands tell (program unit.typed) unit.code loaded.0 loaded.1

pub unit_stands : BuiltStands → (r : Result Unit Refusal) → IfOk r IsBuilt → IfOk r (λ (unit : Unit). StandsFor (program unit.typed) unit.code)
unit_stands stands (Ok unit) built = stands unit built
unit_stands stands (Err refusal) built = tt
