-- What is left of a Get after its first bytes, in the plain reading: a Get as its code takes it, byte by byte.
use Rattle.std.specs.Prelude.{◌≡◌, ℕ, suc, Bool, true, false, cond, Option, Some, None, is_some, ℤ, Ok, Err}
use Rattle.ada_base.specs.declared.reason.Reason.TheVariants as reason
use Rattle.ada_base.specs.Input.{Held, Nothing, Symbol, is_digit, is_byte, digit_of}
use Rattle.ada_base.specs.Input as input
use Rattle.ada_io.specs.declared.input.Holding.{Holding}
use Rattle.ada_io.specs.declared.input.Holding.TheVariants as holding
use Rattle.ada_io.specs.declared.phases.Phase.{Phase}
use Rattle.ada_io.specs.declared.phases.Phase.TheVariants.{Blanks, NeedsDigit, Digits}
use Rattle.ada_io.specs.declared.phases.Next.{Next}
use Rattle.ada_io.specs.declared.phases.Next.TheVariants.{Asks, Gives, Raises}
use Rattle.ada_io.specs.Plain.{State, Raised, at, Doing, asked, then, plain}

-- a digit has to follow: after a sign or an underscore
abbrev pub needs_digit : ℕ → Bool → ℕ → Option ℕ → Doing ℤ
needs_digit more negative n s = cond (is_digit s) (input.digits plain more negative n s) (input.fails_at plain s reason.DataError)

-- after a digit
abbrev pub after_digit : ℕ → Bool → ℕ → Option ℕ → Doing ℤ
after_digit more negative n s =
    cond (is_digit s) (input.digits plain more negative n s)
    (cond (is_byte 95 s) (then (λ t. asked t t.turns) (needs_digit more negative n))
    (input.number_ends plain negative n s))

-- the rest of a Get in each phase, from what is looked at
abbrev pub rest : Phase → Option ℕ → Doing ℤ
rest Blanks s t = then (input.skip_blanks plain (suc t.turns) s) (input.number_read plain (suc t.turns)) t
rest (NeedsDigit negative magnitude) s t = needs_digit (suc t.turns) negative magnitude s t
rest (Digits negative magnitude) s t = after_digit (suc t.turns) negative magnitude s t

-- a byte is asked for, and then goes on so
pub record AsksFor (p : Doing ℤ) (k : Option ℕ → Doing ℤ) : Type 0 where
  pub same : (s : State) → p s ≡ then (λ t. asked t t.turns) k s

-- what the code does with what is looked at: nothing is asked for after the end
abbrev pub Takes : Phase → Option ℕ → Next → Type 0
Takes phase s (Asks later) = (is_some s ≡ true) × AsksFor (rest phase s) (rest later)
Takes phase s (Gives v) = (t : State) → rest phase s t ≡ at (record t { held = Symbol s }) (Ok v)
Takes phase s (Raises r) = (t : State) → rest phase s t ≡ at (record t { held = Symbol s }) (Err (Raised r))

-- the value of a digit, where there is one
abbrev pub HasDigit : Option ℕ → Option ℕ → Type 0
HasDigit s None = is_digit s ≡ false
HasDigit s (Some d) = (is_digit s ≡ true) × (d ≡ digit_of s)

abbrev pub held_of : Holding → Held
held_of holding.Nothing = Nothing
held_of (holding.Symbol s) = Symbol s
