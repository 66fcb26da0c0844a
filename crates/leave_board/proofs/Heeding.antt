-- Who is told, and how many looks were passed since.
use Rattle.std.proofs.Common.{◌≡◌, ℕ, sym, ◌∙◌}
use Rattle.leave_board.specs.Halts.{Heeds}

-- nobody was asked
pub heeds_same : (told : Type 0) (looks looks' : ℕ) → looks' ≡ looks → Heeds told told looks looks'
heeds_same told looks looks' e = λ t. (t, sym e)

-- nobody told
pub heeds_none : (told told' : Type 0) (looks looks' : ℕ) → (told' → ⊥) → Heeds told told' looks looks'
heeds_none told told' looks looks' n = λ t. absurd (n t)

pub heeds_on : (a b c : Type 0) (m n o : ℕ) → Heeds a b m n → Heeds b c n o → Heeds a c m o
heeds_on a b c m n o f g = λ t. let h = g t in let k = f h.0 in (k.0, k.1 ∙ h.1)
