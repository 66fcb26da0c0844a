-- Steps through placed instructions.
use Rattle.std.proofs.Common.{◌≡◌, ◌+◌, ◌∙◌, ◌≤◌, ℕ, List, [], ◌∷◌, ◌++◌, length, drop, refl, sym, ap, arith}
use Rattle.std.specs.Prelude.{true, false, cond, slice_get, Option, Some}
use Rattle.std.proofs.lemmas.List.{drop_more, append_assoc, append-nil}
use Rattle.std.proofs.lemmas.Option.{slice_get_within, get_or_from_slice_get}
use Rattle.std.proofs.Math.ListN.{drop_of_length-le}
use Rattle.stack_code.specs.declared.code.Spot.{Spot}
use Rattle.stack_code.specs.declared.code.Unwind.{Unwind}
use Rattle.stack_code.specs.declared.instr.Instr.{Instr}
use Rattle.stack_code.specs.declared.instr.Instr.TheVariants.{Jump}
use Rattle.lower_emission.specs.declared.types.Placed.{Placed}
use Rattle.lower_emission.specs.Tables.{led, instrs_from, resolved, spots_from, spot_of, begun_by, stretch, is_entry, unwinds_from, unwind_at, begins}

pub drop_at : {X : Type 0} (xs : List X) (k : ℕ) (x : X) → slice_get xs k ≡ Some x → drop k xs ≡ x ∷ drop (k + 1) xs
drop_at xs k x e = drop_more xs k x (slice_get_within xs k x e) ∙ ap (λ z. z ∷ drop (k + 1) xs) (get_or_from_slice_get xs k x x e)

-- ---- where an instruction leads

pub led_by : (i : Instr) (t u : ℕ) → i ≡ Jump u → led i t ≡ u
led_by i t u e = ap (λ x. led x t) e

pub led_other : (i : Instr) (t : ℕ) → ((u : ℕ) → i ≡ Jump u → ⊥) → led i t ≡ t
led_other (Jump u) t h = absurd (h u refl)
led_other i t h = refl

-- ---- what is put at the end of a list and what is still to come are the whole

pub appended : {Y : Type 0} (all new xs rest before whole : List Y) → new ≡ all ++ xs → before ≡ xs ++ rest → all ++ before ≡ whole → new ++ rest ≡ whole
appended all new xs rest before whole e f g = ap (λ l. l ++ rest) e ∙ (append_assoc all xs rest ∙ (ap (λ l. all ++ l) (sym f) ∙ g))

pub pushed : {Y : Type 0} (all new : List Y) (x y : Y) (rest before whole : List Y) → x ≡ y → new ≡ all ++ (x ∷ []) → before ≡ y ∷ rest → all ++ before ≡ whole → new ++ rest ≡ whole
pushed all new x y rest before whole d e f g = appended all new (y ∷ []) rest before whole (e ∙ ap (λ z. all ++ (z ∷ [])) d) f g

pub ended : {X Y : Type 0} (f : List X → List Y) (xs : List X) (k : ℕ) (all whole : List Y) → f [] ≡ [] → length xs ≤ k → all ++ f (drop k xs) ≡ whole → all ≡ whole
ended f xs k all whole e l g = sym (append-nil all) ∙ (ap (λ ys. all ++ ys) (sym (ap f (drop_of_length-le xs l) ∙ e)) ∙ g)

-- ---- one more instruction

pub instrs_kept : (c : List Placed) (at : ℕ) (p : Placed) (i : Instr) (all new whole : List Instr) → slice_get c at ≡ Some p → i ≡ resolved c at p.instr → new ≡ all ++ (i ∷ []) →
    all ++ instrs_from c at (drop at c) ≡ whole → new ++ instrs_from c (at + 1) (drop (at + 1) c) ≡ whole
instrs_kept c at p i all new whole e d f g = pushed all new i (resolved c at p.instr) (instrs_from c (at + 1) (drop (at + 1) c)) (instrs_from c at (drop at c)) whole d f (ap (instrs_from c at) (drop_at c at p e)) g

pub spots_kept : (c : List Placed) (before : Option ℕ) (k next at : ℕ) (p : Placed) (s : Spot) (all new whole : List Spot) → drop at c ≡ p ∷ drop (at + 1) c → next ≡ begun_by before p.entry k → s ≡ spot_of p next → new ≡ all ++ (s ∷ []) →
    all ++ spots_from before k (drop at c) ≡ whole → new ++ spots_from p.entry next (drop (at + 1) c) ≡ whole
spots_kept c before k next at p s all new whole e n d f g =
    ap (λ m. new ++ spots_from p.entry m (drop (at + 1) c)) n
    ∙ pushed all new s (spot_of p (begun_by before p.entry k)) (spots_from p.entry (begun_by before p.entry k) (drop (at + 1) c)) (spots_from before k (drop at c)) whole (d ∙ ap (spot_of p) n) f (ap (spots_from before k) e) g

pub unwinds_kept : (c : List Placed) (before : Option ℕ) (at next : ℕ) (p : Placed) (all new whole : List Unwind) → slice_get c at ≡ Some p → next ≡ at + 1 → new ≡ all ++ cond (begins before p.entry) (unwind_at c at p.entry (drop (at + 1) c)) [] →
    all ++ unwinds_from c before at (drop at c) ≡ whole → new ++ unwinds_from c p.entry next (drop next c) ≡ whole
unwinds_kept c before at next p all new whole e n f g =
    ap (λ m. new ++ unwinds_from c p.entry m (drop m c)) n
    ∙ appended all new (cond (begins before p.entry) (unwind_at c at p.entry (drop (at + 1) c)) []) (unwinds_from c p.entry (at + 1) (drop (at + 1) c)) (unwinds_from c before at (drop at c)) whole f (ap (unwinds_from c before at) (drop_at c at p e)) g

pub stretch_goes : (c : List Placed) (l at next : ℕ) (p : Placed) → slice_get c at ≡ Some p → is_entry l p.entry ≡ true → next ≡ at + 1 → at + stretch l (drop at c) ≡ next + stretch l (drop next c)
stretch_goes c l at next p e f n =
    let g : stretch l (drop at c) ≡ stretch l (drop (at + 1) c) + 1 = ap (stretch l) (drop_at c at p e) ∙ ap (λ b. cond b (stretch l (drop (at + 1) c) + 1) 0) f in
    let h : at + stretch l (drop at c) ≡ at + 1 + stretch l (drop (at + 1) c) = omega (arith, g) in
    h ∙ ap (λ m. m + stretch l (drop m c)) (sym n)

pub stretch_stops : (c : List Placed) (l at : ℕ) (p : Placed) → slice_get c at ≡ Some p → is_entry l p.entry ≡ false → at + stretch l (drop at c) ≡ at
stretch_stops c l at p e f =
    let g : stretch l (drop at c) ≡ 0 = ap (stretch l) (drop_at c at p e) ∙ ap (λ b. cond b (stretch l (drop (at + 1) c) + 1) 0) f in
    omega (arith, g)

pub stretch_end : (c : List Placed) (l at : ℕ) → length c ≤ at → at + stretch l (drop at c) ≡ at
stretch_end c l at e = let g : stretch l (drop at c) ≡ 0 = ap (stretch l) (drop_of_length-le c e) in omega (arith, g)

pub none_more : (all : List Unwind) → all ≡ all ++ []
none_more all = sym (append-nil all)
