-- The status that a call of the program ends with, and its line on err.
use Rattle.std.specs.Prelude.{◌≡◌, ◌⊎◌, ℕ, List}
use Rattle.ada_port.specs.Ports.{Stream, Grows, Breaks}
use Rattle.run_reports.specs.Lines.{memory_line}
use Rattle.run_reports.specs.declared.status.Status.{Status}
use Rattle.run_reports.specs.declared.status.Status.TheVariants as status

abbrev pub number_of : Status → ℕ
number_of status.Done = 0
number_of status.Refused = 1
number_of status.Usage = 2
number_of status.ShelfFault = 3
number_of status.Raised = 4
number_of status.Spent = 5
number_of status.ReadFault = 6
number_of status.WriteFault = 7
number_of status.OutOfMemory = 8

-- the status comes with its line on err; where err fails in the line, the status is that of a write fault
abbrev pub Says : Status → List ℕ → Status → Stream → Stream → Type 0
Says due line given old new = ((given ≡ due) × Grows old new line) ⊎ ((given ≡ status.WriteFault) × Breaks old new line)

abbrev pub SaysNoMemory : Status → Stream → Stream → Type 0
SaysNoMemory given old new = Says status.OutOfMemory memory_line given old new

-- memory may run out before a line is there
abbrev pub SaysOrLacks : Status → List ℕ → Status → Stream → Stream → Type 0
SaysOrLacks due line given old new = Says due line given old new ⊎ SaysNoMemory given old new
