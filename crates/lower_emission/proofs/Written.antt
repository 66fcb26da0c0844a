-- What is written behind other code is what stands there.
use Rattle.std.proofs.Common.{◌≡◌, ℕ, suc, ◌+◌, List, [], ◌∷◌, ◌++◌, length, refl, append_assoc, arith, length-append}
use Rattle.std.specs.Prelude.{true, false, slice_set}
use Rattle.std.proofs.Math.Seq.{set-append_seam}
use Rattle.std.proofs.lemmas.Grind.{common_steps}
use Rattle.lower_emission.specs.declared.types.Placed.{Placed}
use Rattle.lower_emission.specs.Emits.{Emit, Nothing, One, Seq, Choose, When, Looped, Guarded, Aside, From, listed, written}

jump : (c xs : List Placed) (g y : Placed) → slice_set ((c ++ g ∷ []) ++ xs) (length c) y ≡ (c ++ y ∷ []) ++ xs
jump c xs g y = search (common_steps, set-append_seam)

grown : (c : List Placed) (g : Placed) → length (c ++ g ∷ []) ≡ length c + 1
grown c g = search common_steps

asc : (a b c : ℕ) → a + b + c ≡ a + (b + c)
asc a b c = omega arith

sucs : (n : ℕ) → suc n ≡ 1 + n
sucs n = omega arith

seam : (c : List Placed) (j : Placed) (xs : List Placed) (g : Placed) (ys : List Placed) (y : Placed) →
    slice_set (c ++ (j ∷ (xs ++ (g ∷ ys)))) (length c + (1 + length xs)) y ≡ c ++ (j ∷ (xs ++ (y ∷ ys)))
seam c j xs g ys y = simp (append_assoc, length-append, asc, sucs) at (set-append_seam (c ++ (j ∷ xs)) g ys y)

seam_two : (c : List Placed) (j k : Placed) (xs : List Placed) (g : Placed) (ys : List Placed) (y : Placed) →
    slice_set (c ++ (j ∷ (k ∷ (xs ++ (g ∷ ys))))) (length c + (1 + (1 + length xs))) y ≡ c ++ (j ∷ (k ∷ (xs ++ (y ∷ ys))))
seam_two c j k xs g ys y = simp (append_assoc, length-append, asc, sucs) at (set-append_seam (c ++ (j ∷ (k ∷ xs))) g ys y)

seam_next : (c : List Placed) (j g : Placed) (ys : List Placed) (y : Placed) →
    slice_set (c ++ (j ∷ (g ∷ ys))) (length c + 1) y ≡ c ++ (j ∷ (y ∷ ys))
seam_next c j g ys y = simp (append_assoc, length-append, asc, sucs) at (set-append_seam (c ++ (j ∷ [])) g ys y)

pub written_law : (e : Emit) (c : List Placed) → written e c ≡ c ++ listed e (length c)
written_law Nothing c = search common_steps
written_law (One m h i) c = refl
written_law (Seq a b) c = simp (written_law a, written_law b, length-append, append_assoc) refl
written_law (Choose m h k a b) c = simp (written_law a, written_law b, length-append, append_assoc, set-append_seam, seam, asc, sucs) refl
written_law (When m h a) c = simp (written_law a, length-append, append_assoc, set-append_seam, asc, sucs) refl
written_law (Looped m h true body test) c = simp ((λ (n : ℕ). written_law (body n)), (λ (n : ℕ). written_law (test n)), length-append, append_assoc, set-append_seam, seam_next, asc, sucs) refl
written_law (Looped m h false body test) c = simp ((λ (n : ℕ). written_law (body n)), (λ (n : ℕ). written_law (test n)), length-append, append_assoc, set-append_seam, seam_next, asc, sucs) refl
written_law (Guarded m handlers body) c = simp (written_law handlers, (λ (n : ℕ). written_law (body n)), length-append, append_assoc, set-append_seam, seam_next, asc, sucs) (seam_two c _ _ _ _ _ _)
written_law (Aside m h a) c = simp (written_law a, length-append, append_assoc, set-append_seam, asc, sucs) refl
written_law (From a) c = written_law (a (length c)) c
