-- What a function that reads ensures.
use Rattle.std.specs.Prelude.{◌≡◌, List, Result, Ok, Err}
use Rattle.ada_base.specs.Symbols.{Symbol}
use Rattle.syntax_readers.specs.Readers.{Answer, Found, Refused, TooDeep}
use Rattle.syntax_readers.specs.declared.failure.Failure.{Failure}
use Rattle.syntax_readers.specs.declared.failure.Failure.TheVariants as failure

-- the function gave what the reader gives, and left what it leaves, unless memory failed
abbrev pub Computes : {A : Type 0} → Answer A × List Symbol → Result A Failure → List Symbol → Type 0
Computes answer (Ok a) new = answer ≡ (Found a, new)
Computes answer (Err failure.Unexpected) new = answer ≡ (Refused, new)
Computes answer (Err failure.TooDeep) new = answer ≡ (TooDeep, new)
Computes answer (Err failure.OutOfMemory) new = Unit {0}
