-- Ways that end at cells side by side.
use Rattle.std.proofs.Common.{◌≡◌, ℕ, nat_eq, eqb-true, eq-eqb, List, [], ◌∷◌, Bool, true, false, ◌&&◌, refl, sym, ap, ◌∙◌, true≢false}
use Rattle.ada_lower.specs.Leases.{Place, Way, is_last, is_row}

both : (a b : Bool) → (a && b) ≡ true → (a ≡ true) × (b ≡ true)
both true b e = (refl, e)
both false b e = absurd (true≢false (sym e))

no_more : (ps : List Place) → is_last ps ≡ true → ps ≡ []
no_more [] e = refl
no_more (p ∷ ps) e = absurd (true≢false (sym e))

pub row_is : (size : ℕ) (w : Way) → is_row size w ≡ true → (w.places ≡ []) × (w.run ≡ size)
row_is size w e = let is = both (is_last w.places) (nat_eq w.run size) e in (no_more w.places is.0, eqb-true w.run size is.1)

pub is_row_of : (size : ℕ) (w : Way) → w.places ≡ [] → w.run ≡ size → is_row size w ≡ true
is_row_of size w none e = ap (λ (ps : List Place). is_last ps && nat_eq w.run size) none ∙ eq-eqb w.run size e
