-- Which duties are dealt to which workers.
use Rattle.std.specs.Prelude.{◌≡◌, ℕ, ◌+◌, ◌<◌, ◌≤◌, List, length, get_or}
use Rattle.run_plan.specs.Even.{even_of}
use Rattle.run_plan.specs.declared.even_division.Range.{Range}
use Rattle.ada_workers.specs.declared.dealing.Deal.{Deal}

module _ {T : Type 0} where
  abbrev pub AllReady : (T → Type 0) → List T → Type 0
  AllReady ready ts = (k : ℕ) (d : T) → k < length ts → ready (get_or ts k d)

  abbrev pub AllRan : (T → T → Type 0) → List T → List T → Type 0
  AllRan ran ts us = (k : ℕ) (d : T) → k < length ts → ran (get_or ts k d) (get_or us k d)

  -- they are those from number n on, in order
  abbrev pub AreNumbered : (T → ℕ) → ℕ → List T → Type 0
  AreNumbered number n ts = (k : ℕ) (d : T) → k < length ts → number (get_or ts k d) ≡ n + k

  -- they are those of the range, in order
  abbrev pub IsShare : (T → ℕ) → Range → List T → Type 0
  IsShare number r ts = (length ts ≡ r.len) × AreNumbered number r.first ts

  -- they are those that even division gives to the workers, in order
  pub record AreDealt (number : T → ℕ) (d : Deal) (ts : List T) : Type 0 where
    pub some : d.from < d.to
    pub most : d.to ≤ d.workers
    pub first : AreNumbered number (even_of d.duties d.workers d.from).first ts
    pub long : (even_of d.duties d.workers d.from).first + length ts ≡ (even_of d.duties d.workers d.to).first
