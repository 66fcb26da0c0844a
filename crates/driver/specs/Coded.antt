-- The code of a typed program, whose parallel constructs lend what their threads may write (9.10.1), and what a unit has.
use Rattle.std.specs.Prelude.{◌≡◌, ℕ, List, Some}
use Rattle.ada_base.specs.Cells.{Cell}
use Rattle.ada_base.specs.Notes.{ConstructNote}
use Rattle.ada_meaning.specs.Law.{Ending, IsPlan}
use Rattle.ada_meaning.specs.Programs.{Setting}
use Rattle.typed_tree.specs.Programs as typed
use Rattle.typed_tree.specs.Syntax.{Program}
use Rattle.syntax_tree.specs.Syntax as syntax
use Rattle.name_rules.specs.Resolved.{TypedOf}
use Rattle.name_rules.specs.declared.scope.Names.{Names}
use Rattle.check_clashes.specs.declared.granted.Grants.{Grants}
use Rattle.check_conflicts.specs.Answer.{AreGrants}
use Rattle.check_effects.specs.Accepted.{IsAccepted}
use Rattle.stack_code.specs.Stands.{IsForward}
use Rattle.stack_code.specs.Valid.{IsCountable, IsValid}
use Rattle.stack_code.specs.declared.code.Code.{Code}
use Rattle.lower_emission.specs.Programs.{code_of}
use Rattle.ada_lower.specs.Homes.{main_variables}
use Rattle.ada_lower.specs.Places.{leases_at}
use Rattle.lower_leases.specs.Grants.{granted_by}
use Rattle.run_machine_laws.specs.Programs.{IsLoaded}
use Rattle.run_machine_laws.specs.Telling.{EndsBy, Tells}
use Rattle.driver.specs.Kept.{main_frame}
use Rattle.driver.specs.declared.unit.Unit.{Unit}

-- It is that of the definition. A path may be granted more than once, so the text doesn't tell how often a lease is there.
-- No part of it is repeated too often for numbers of 64 bits.
pub record HasCode (program : Program) (code : Code) : Type 0 where
  pub grants : Grants
  pub granted : AreGrants program grants
  pub is : code ≡ code_of program (leases_at program (granted_by grants.owned))
  pub countable : IsCountable code.instrs

-- Code that stands for a program. It is valid and forward, so the machine on it is never stuck and comes to an end. It fits the
-- program as the laws of the machine ask (`loaded`), and so a run of the machine on it, under whatever plan, number of workers
-- and limit, on whatever input, and by whatever notes of its threads, tells of a run of the program that is permitted there:
-- the same ending, output and bytes taken, with the final variables in its cells.
pub record StandsFor (program : Program) (code : Code) : Type 0 where
  pub valid : IsValid code
  pub forward : IsForward code
  pub slots : ℕ
  pub loaded : IsLoaded program code (main_frame code) slots
  pub tells : (set : Setting) → IsPlan set.plan → (input before : List ℕ) (told : List ConstructNote) (ending : Ending) (output : List ℕ) (taken : ℕ) (cells : List Cell)
      → EndsBy set code (main_frame code) input before told ending output taken cells → Tells program set input ending output taken cells

-- it is the typed program of some text without a fault
abbrev pub IsTyped : Program → Type 0
IsTyped program = (names : Names) × ((text : syntax.Program) × (TypedOf names text ≡ Some program))

-- A unit that was built of an accepted text: names give its program, which is accepted; its code is the program's; and its
-- variables are the main procedure's, each with its place in the main frame.
pub record IsBuilt (unit : Unit) : Type 0 where
  pub named : IsTyped (typed.program unit.typed)
  pub accepted : IsAccepted (typed.program unit.typed)
  pub coded : HasCode (typed.program unit.typed) unit.code
  pub placed : unit.variables ≡ main_variables (typed.program unit.typed) 0 (typed.program unit.typed).body.decls

-- So each unit that was built has code that stands for its program.
abbrev pub BuiltStands : Type 0
BuiltStands = (unit : Unit) → IsBuilt unit → StandsFor (typed.program unit.typed) unit.code
