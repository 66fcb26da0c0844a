-- What a Get answers, of what the source gave it.
use Rattle.std.specs.Prelude.{◌≡◌, ◌⊎◌, ℕ, ◌+◌, ◌-◌, ◌≤◌, List, [], ◌++◌, length, Some, None, Bool, true, false, cond, ℤ, Result, Ok, Err}
use Rattle.ada_base.specs.Input.{Held, Nothing, Symbol}
use Rattle.ada_base.specs.Input as input
use Rattle.ada_io.specs.declared.input.GetEnd.{GetEnd}
use Rattle.ada_io.specs.declared.input.Got.{Got}
use Rattle.ada_io.specs.declared.input.GetEnd.TheVariants.{Number, Raise, ReadFault, Spent}
use Rattle.ada_io.specs.Plain.{Feed, End, Fault, fed, Stop, Raised, Failed, TurnsSpent, at, plain}
use Rattle.ada_port.specs.Ports.{Stream, Gives, GivesAll, GivesUntil}

-- what a reader holds for the next Get, and the bytes that came of its sources so far
pub record ReaderState : Type 0 where
  pub held : Held
  pub came : List ℕ

-- how the asking of a source ended: with a byte or before any was asked, with its end, or with a fault
pub data Last : Type 0 where
  Open : Last
  AtEnd : Last
  Broken : Last

-- the source gave these bytes, and ended so
abbrev pub Gave : Last → Stream → Stream → List ℕ → Type 0
Gave Open old new bytes = Gives old new bytes
Gave AtEnd old new bytes = GivesAll old new bytes
Gave Broken old new bytes = GivesUntil old new bytes

-- what the source may give after that
abbrev pub MayFollow : Last → Feed → Type 0
MayFollow Open more = Unit {0}
MayFollow AtEnd more = more ≡ End
MayFollow Broken more = more ≡ Fault

-- how often it was asked
abbrev pub askings : Last → List ℕ → ℕ
askings Open bytes = length bytes
askings AtEnd bytes = length bytes + 1
askings Broken bytes = length bytes + 1

-- a read fault comes exactly from a source that failed
abbrev pub last_of : GetEnd → Bool → Last
last_of ReadFault ended = Broken
last_of _ ended = cond ended AtEnd Open

-- the turns are spent where all were taken
abbrev pub SpendsAll : ℕ → GetEnd → ℕ → Type 0
SpendsAll turns (Number value) n = Unit {0}
SpendsAll turns (Raise reason) n = Unit {0}
SpendsAll turns ReadFault n = Unit {0}
SpendsAll turns Spent n = n ≡ turns

abbrev pub answer_of : GetEnd → Result ℤ Stop
answer_of (Number value) = Ok value
answer_of (Raise reason) = Err (Raised reason)
answer_of ReadFault = Err Failed
answer_of Spent = Err TurnsSpent

-- the end of the input was met
abbrev pub met_end : Held → Bool
met_end Nothing = false
met_end (Symbol None) = true
met_end (Symbol (Some b)) = false

-- where the source told its end, that is held
abbrev pub EndsHeld : Last → Held → Type 0
EndsHeld Open after = Unit {0}
EndsHeld AtEnd after = met_end after ≡ true
EndsHeld Broken after = Unit {0}

-- where the end was held, no byte came, and it still is
abbrev pub AtEndHeld : Held → Held → List ℕ → Type 0
AtEndHeld before after bytes = met_end before ≡ true → (bytes ≡ []) × (met_end after ≡ true)

-- where the end is held, it was before, or the source told it
abbrev pub MeetsEnd : Held → Held → Last → Type 0
MeetsEnd before after last = met_end after ≡ true → (met_end before ≡ true) ⊎ (last ≡ AtEnd)

-- the answer is the one of the language's Get on the bytes that the source gave, whatever may follow, where so many turns
-- were left; and so is what is held then. These bytes, and no others, are added to those that came before
pub record Gets (old new : Stream) (before after : ReaderState) (turns : ℕ) (result : Got) : Type 0 where
  pub bytes : List ℕ
  pub ended : Bool
  pub gave : Gave (last_of result.end ended) old new bytes
  pub within : result.took ≤ turns
  pub took : result.took ≡ askings (last_of result.end ended) bytes
  pub came : result.came ≡ length bytes
  pub log : after.came ≡ before.came ++ bytes
  pub spends : SpendsAll turns result.end result.took
  pub ends : EndsHeld (last_of result.end ended) after.held
  pub kept : AtEndHeld before.held after.held bytes
  pub meets : MeetsEnd before.held after.held (last_of result.end ended)
  pub same : (more : Feed) → MayFollow (last_of result.end ended) more → (taken : ℕ)
      → input.got plain turns (record { held = before.held; feed = fed bytes more; turns = turns; taken = taken })
      ≡ at (record { held = after.held; feed = more; turns = turns - result.took; taken = taken + result.came }) (answer_of result.end)
