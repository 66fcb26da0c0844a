-- What is covered by effects fits the leases.
use Rattle.std.proofs.Common.{◌≡◌, ℕ, List, [], ◌∷◌, slice_get, nat_eq, Option, Some, Bool, true, false, refl, sym, ◌∙◌, subst, true≢false, eqb-true}
use Rattle.std.proofs.lemmas.Bool.{eqb-false}
use Rattle.behaviours.specs.Paths.{Entity, VariableOf, ConstantOf}
use Rattle.ada_meaning.specs.Stored as stored
use Rattle.ada_meaning.specs.Stored.{Touch, Address}
use Rattle.ada_lower.specs.Driven.{Dyn}
use Rattle.ada_lower.specs.Fits.{Access, Ghost, Fit, Right, Stands as StandsFor}
use Rattle.ada_lower.proofs.ForkViews.{TouchesFit, There, Owned, TouchedAs, AllCovered}

module _ (g : Ghost) (owner : ℕ → Option ℕ) (Lies : Entity → ℕ → Address → Type 0) (Has : (thread object offset : ℕ) → Type 0) (Under : (thread : ℕ) → (writes : Bool) → (object offset : ℕ) → Type 0) (by : Owned g owner Lies Has Under) where
  variable_is : (x y : ℕ) → ◌≡◌ {A = Entity} (VariableOf x) (VariableOf y) → x ≡ y
  variable_is x y e = cc

  fits_by : (j : ℕ) (t : Touch) (a : ℕ) (y : Access) → g.what a ≡ StandsFor y t.place → (x : Entity) (n : ℕ) → Lies x n t.place → TouchedAs g owner Lies Has Under j t.writes x n
      → (t.writes ≡ true → owner a ≡ Some j) × (t.writes ≡ false → (l : ℕ) → owner a ≡ Some l → l ≡ j)
  fits_by j t a y e (VariableOf x) n lies under = (
    (λ w. by.owned a j x n y t.place e lies (by.writes j x n (subst (λ b. Under j b x n) w under))),
    (λ w l own.
        let (x', n', y', p', e', lies', has) = by.granted a l own in
        let place : p' ≡ t.place = (let h : StandsFor y' p' ≡ StandsFor y t.place = sym e' ∙ e in cc) in
        let (same, at) = by.one (VariableOf x') (VariableOf x) n' n t.place (subst (λ p. Lies (VariableOf x') n' p) place lies') lies in
        go l (nat_eq l j) refl (subst (λ m. Has l m n) (variable_is x' x same) (subst (λ m. Has l x' m) at has))),
  )
    where
      go : (l : ℕ) (b : Bool) → nat_eq l j ≡ b → Has l x n → l ≡ j
      go l true e has = eqb-true l j e
      go l false e has = absurd (by.apart l j (eqb-false l j e) t.writes x n has under)
  fits_by j t a y e (ConstantOf x) n lies w = (
    (λ h. absurd (true≢false (sym h ∙ w))),
    (λ h l own.
        let (x', n', y', p', e', lies', has) = by.granted a l own in
        let place : p' ≡ t.place = (let h : StandsFor y' p' ≡ StandsFor y t.place = sym e' ∙ e in cc) in
        let (same, at) = by.one (VariableOf x') (ConstantOf x) n' n t.place (subst (λ p. Lies (VariableOf x') n' p) place lies') lies in
        absurd (let z : ◌≡◌ {A = Entity} (VariableOf x') (ConstantOf x) = same in cc)),
  )

  there : (s : stored.State) (d : Dyn) (a : ℕ) (y : Access) (p : Address) → Fit g s d → g.what a ≡ StandsFor y p → There s p
  there s d a y p w e = let (v, cell, b) = subst (λ z. Right z s (slice_get d.cells a)) e (w.cells a) in (v, cell)

  pub touches_fit : (s : stored.State) (d : Dyn) → Fit g s d → (j : ℕ) (ts : List Touch) → AllCovered g owner Lies Has Under s j ts → TouchesFit g owner j ts
  touches_fit s d w j [] h = tt
  touches_fit s d w j (t ∷ ts) h = ((λ a y e. let (x, n, lies, under) = h.0 (there s d a y t.place w e) in fits_by j t a y e x n lies under), touches_fit s d w j ts h.1)
