-- What comes of looking at a byte: it is the one that is held, or the source is asked for it and a turn is taken.
use Rattle.std.specs.Prelude.{◌≡◌, ℕ, ◌+◌, ◌<◌, List, [], ◌∷◌, ◌++◌, Option, Some, None, Ok}
use Rattle.ada_io.specs.declared.input.Holding.{Holding}
use Rattle.ada_io.specs.declared.input.Holding.TheVariants.{Nothing, Symbol}
use Rattle.ada_io.specs.declared.asking.Looked.{Looked}
use Rattle.ada_io.specs.declared.asking.Looked.TheVariants.{At, ReadFault, Spent}
use Rattle.ada_port.specs.Ports.{Stream, Takes, GivesUntil}

-- the bytes that came, and one more where it is a byte
abbrev pub came_with : ℕ → Option ℕ → ℕ
came_with n None = n
came_with n (Some b) = n + 1

-- the log of them
abbrev pub log_with : List ℕ → Option ℕ → List ℕ
log_with log None = log
log_with log (Some b) = log ++ b ∷ []

-- it is held
pub record IsHeld (old new : Stream) (before now had has : ℕ) (log logged : List ℕ) (held looked : Option ℕ) : Type 0 where
  pub source : new ≡ old
  pub took : now ≡ before
  pub came : has ≡ had
  pub bytes : logged ≡ log
  pub symbol : looked ≡ held

-- the source was asked for it
pub record IsAsked (old new : Stream) (turns before now had has : ℕ) (log logged : List ℕ) (looked : Option ℕ) : Type 0 where
  pub left : before < turns
  pub took : now ≡ before + 1
  pub came : has ≡ came_with had looked
  pub bytes : logged ≡ log_with log looked
  pub takes : Takes old new (Ok looked)

-- the source was asked, and failed
pub record IsFault (old new : Stream) (turns before now had has : ℕ) (log logged : List ℕ) : Type 0 where
  pub left : before < turns
  pub took : now ≡ before + 1
  pub came : has ≡ had
  pub bytes : logged ≡ log
  pub fails : GivesUntil old new []

-- the turns were spent before
pub record IsSpent (old new : Stream) (turns before now had has : ℕ) (log logged : List ℕ) : Type 0 where
  pub source : new ≡ old
  pub took : now ≡ before
  pub came : has ≡ had
  pub bytes : logged ≡ log
  pub spent : before ≡ turns

abbrev pub Looks : Stream → Stream → Holding → ℕ → ℕ → ℕ → ℕ → ℕ → List ℕ → List ℕ → Looked → Type 0
Looks old new (Symbol s) turns before now had has log logged (At looked) = IsHeld old new before now had has log logged s looked
Looks old new (Symbol s) turns before now had has log logged ReadFault = ⊥
Looks old new (Symbol s) turns before now had has log logged Spent = ⊥
Looks old new Nothing turns before now had has log logged (At looked) = IsAsked old new turns before now had has log logged looked
Looks old new Nothing turns before now had has log logged ReadFault = IsFault old new turns before now had has log logged
Looks old new Nothing turns before now had has log logged Spent = IsSpent old new turns before now had has log logged
