-- One slot more.
use Rattle.std.proofs.Common.{◌≡◌, suc, ◌+◌, ◌-◌, ◌≤◌, ℕ, List, [], ◌∷◌, ◌++◌, replicate, ap, sym, ◌∙◌, arith, append_assoc}

pub slots_more : {A : Type 0} (x : A) (vs ws : List A) (n k : ℕ) → suc k ≤ n → vs ++ replicate (n - k) x ≡ replicate n x → ws ≡ vs ++ x ∷ [] → ws ++ replicate (n - (k + 1)) x ≡ replicate n x
slots_more x vs ws n k h e f = let m : n - k ≡ suc (n - (k + 1)) = omega arith in rw f (append_assoc vs (x ∷ []) (replicate (n - (k + 1)) x) ∙ (rw m at e))
