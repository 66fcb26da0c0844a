-- The plain reading of a Get (A.10.8): what the source gives is known, and so is how many turns are left (3.11).
use Rattle.std.specs.Prelude.{ℕ, zero, suc, ◌+◌, List, [], ◌∷◌, Option, Some, None, Result, Ok, Err}
use Rattle.ada_base.specs.declared.reason.Reason.{Reason}
use Rattle.ada_base.specs.Input.{Held, Reading}

-- what a source gives from some point on: bytes, and then it is at its end, or it fails
pub data Feed : Type 0 where
  Byte : ℕ → Feed → Feed
  End : Feed
  Fault : Feed

-- these bytes, and then more
abbrev pub fed : List ℕ → Feed → Feed
fed [] more = more
fed (b ∷ bs) more = Byte b (fed bs more)

-- what is held, what the source gives, the turns that are left, and how many bytes were taken
pub record State : Type 0 where
  pub held : Held
  pub feed : Feed
  pub turns : ℕ
  pub taken : ℕ

-- why there is no value: an exception, a fault of the source, or one more turn is needed than are left
pub data Stop : Type 0 where
  Raised : Reason → Stop
  Failed : Stop
  TurnsSpent : Stop

pub record After (A : Type 0) : Type 0 where
  pub state : State
  pub answer : Result A Stop

abbrev pub at : {A : Type 0} → State → Result A Stop → After A
at s answer = record { state = s; answer = answer }

abbrev pub Doing : Type 0 → Type 0
Doing A = State → After A

-- what comes next where there is a value
abbrev pub next : {A B : Type 0} → State → Result A Stop → (A → Doing B) → After B
next s (Ok a) k = k a s
next s (Err stop) k = at s (Err stop)

abbrev pub given : State → Feed → After (Option ℕ)
given s (Byte b more) = at (record s { feed = more; taken = s.taken + 1 }) (Ok (Some b))
given s End = at s (Ok None)
given s Fault = at s (Err Failed)

-- where so many turns are left
abbrev pub asked : State → ℕ → After (Option ℕ)
asked s zero = at s (Err TurnsSpent)
asked s (suc n) = given (record s { turns = n }) s.feed

abbrev pub then : {A B : Type 0} → Doing A → (A → Doing B) → Doing B
then m k s = let r = m s in next r.state r.answer k

abbrev pub plain : Reading {0}
plain = record {
  Doing = Doing;
  ret = λ a s. at s (Ok a);
  ◌>>=◌ = then;
  asks = λ s. asked s s.turns;
  recalls = λ s. at s (Ok s.held);
  keeps = λ h s. at (record s { held = h }) (Ok tt);
  raises = λ r s. at s (Err (Raised r));
  spent = λ s. at s (Err TurnsSpent);
}
