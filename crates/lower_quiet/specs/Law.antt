-- The code of a program that keeps the rule on nonblocking text.
use Rattle.std.specs.Prelude.{ℕ, zero, suc, List, Bool, false}
use Rattle.typed_tree.specs.Syntax.{Program}
use Rattle.ada_meaning.specs.Nonblocking.{KeepsRule, nonblocking_of}
use Rattle.stack_code.specs.declared.code.Code.{Code}
use Rattle.ada_lower.specs.HasTables.{HasTables}
use Rattle.ada_lower.specs.ProgramCode.{IsCodeOf}
use Rattle.machine_paths.specs.Hushed.{BeginsLater, IsHushed}

-- the nonblocking subprograms of the code; the first of it is the main procedure, which nothing calls
abbrev pub quiet_in : Program → ℕ → Bool
quiet_in program zero = false
quiet_in program (suc k) = nonblocking_of program.subs k

-- They ask for no input or output, and neither do threads (9.5). Threads begin behind their forks.
abbrev pub QuietLaw : Type 0
QuietLaw = (program : Program) (text : List ℕ → ℕ) (c : Code) → IsCodeOf program text c → HasTables program text c → KeepsRule program → IsHushed c (quiet_in program) × BeginsLater c
