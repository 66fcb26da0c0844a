-- The lines that the program writes.
use Rattle.std.specs.Prelude.{ℕ, List, [], ◌∷◌, ◌++◌, codes, decimal, slice_get, Option, Some, None}
use Rattle.ada_base.specs.declared.reason.Reason.{Reason}
use Rattle.ada_base.specs.declared.reason.Reason.TheVariants as reason

-- a line, ended by a line feed
abbrev pub ended : List ℕ → List ℕ
ended line = line ++ 10 ∷ []

abbrev pub usage_line : List ℕ
usage_line = ended (codes "usage: ada_cmd MODE FILE [--workers N] [--chunks PLAN] [--turns K] [--vars]")

abbrev pub unreadable_line : List ℕ → List ℕ
unreadable_line file = file ++ ended (codes ": cannot be read")

abbrev pub accepted_line : List ℕ
accepted_line = ended (codes "accepted")

abbrev pub read_fault_line : List ℕ
read_fault_line = ended (codes "read fault")

abbrev pub write_fault_line : List ℕ
write_fault_line = ended (codes "write fault")

abbrev pub memory_line : List ℕ
memory_line = ended (codes "out of memory")

abbrev pub spent_line : ℕ → List ℕ
spent_line turns = codes "turns spent: " ++ ended (decimal turns)

abbrev pub name_or_none : Option (List ℕ) → List ℕ
name_or_none None = []
name_or_none (Some name) = name

-- an exception's name: in upper case where it is predefined (11.1), and else as declared
abbrev pub exception_name : List (List ℕ) → Reason → List ℕ
exception_name names reason.ConstraintError = codes "CONSTRAINT_ERROR"
exception_name names reason.ProgramError = codes "PROGRAM_ERROR"
exception_name names reason.StorageError = codes "STORAGE_ERROR"
exception_name names reason.DataError = codes "DATA_ERROR"
exception_name names reason.EndError = codes "END_ERROR"
exception_name names (reason.Declared n) = name_or_none (slice_get names n)

abbrev pub unhandled_line : List (List ℕ) → Reason → List ℕ
unhandled_line names why = codes "unhandled " ++ ended (exception_name names why)
