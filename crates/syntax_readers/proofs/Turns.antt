-- A turn of a loop that computes a chain.
use Rattle.std.proofs.Common.{◌≡◌, ℕ, suc, ◌+◌, ◌-◌, ◌<◌, Bool, true, if◌then◌else◌, ap, ◌∙◌, arith, List}
use Rattle.ada_base.specs.Symbols.{Symbol, next_kind, is_member}
use Rattle.syntax_readers.specs.Loops.{turns}
use Rattle.syntax_readers.specs.Readers.{Reader, Answer, Found, read_on}

module _ {A : Type 0} (ks : List ℕ) (p : A → Reader A) (end turn : ℕ) (a : A) (ts : List Symbol) where
  abbrev one_turn : Bool → Answer A × List Symbol → Answer A × List Symbol
  one_turn b x = if b then read_on x.0 (turns (end - (turn + 1)) ks p) x.1 else (Found a, ts)

  this_turn : turn < end → turns (end - turn) ks p a ts ≡ one_turn (is_member ks (next_kind ts)) (p a ts)
  this_turn lt = ap (λ n. turns n ks p a ts) (let e : end - turn ≡ suc (end - (turn + 1)) = omega (arith, lt) in e)

  -- what the turn found is what the later ones read on from
  pub turn_found : turn < end → is_member ks (next_kind ts) ≡ true → (x : A) (us : List Symbol) → p a ts ≡ (Found x, us) → turns (end - turn) ks p a ts ≡ turns (end - (turn + 1)) ks p x us
  turn_found lt on x us e = this_turn lt ∙ ap (λ b. one_turn b (p a ts)) on ∙ ap (one_turn true) e
