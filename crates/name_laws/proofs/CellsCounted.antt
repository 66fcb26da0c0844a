-- Counts of cells: those of the table of subtypes stand still at the greatest number of 64 bits, those of the layout don't.
use Rattle.std.proofs.Common.{◌≡◌, ℕ, suc, ◌+◌, ◌*◌, ◌-◌, ◌<◌, ◌≤◌, nat_le, ℤ, pos, negsuc, neg_ℤ, ◌+ℤ◌, ◌-ℤ◌, int_le, List, [], ◌∷◌, ◌++◌, length, length-append, Bool, true, false, true≢false, refl, sym, ap, subst, ◌∙◌, arith, map, leb-true, leb-false}
use Rattle.std.proofs.Math.IntN.{neg_ℤ-+ℤ, +ℤ_assoc, +ℤ_invl, +ℤ_idl, +ℤ-neg_ℤ_cancel, -ℤ-+ℤ_cancel, +ℤ_comm, pos-+ℤ-pos}
use Rattle.std.proofs.Math.ListN.{get_or, get_or-append}
use Rattle.std.proofs.Math.Nat.{le-mul_of_pos_right, mul_comm, mul_assoc}
use Rattle.std.proofs.Math.Seq.{get_or-append_seam}
use Rattle.std.specs.Prelude.{unsigned_abs}
use Rattle.typed_tree.specs.Layout.{cells_of, components, count, fields_cells, sizes_from, subtype_cells, to_nat}
use Rattle.typed_tree.specs.Syntax.{Subtype}
use Rattle.typed_tree.specs.declared.program.Field.{Field}
use Rattle.name_rules.specs.Resolved.{dimension_bounds}
use Rattle.name_rules.specs.Types.{array_cells, extent, saturated}
use Rattle.name_rules.specs.Limits.{most_cells}
use Rattle.name_rules.specs.declared.log.Dimension.{Dimension}

-- ---- counts that stand still

pub saturated_sum : (a b : ℕ) → saturated (saturated a + saturated b) ≡ saturated (a + b)
saturated_sum a b = omega arith

pub saturated_least : (a : ℕ) → saturated a ≤ most_cells → saturated a ≡ a
saturated_least a h = omega (arith, h)

no_less : (e c : ℕ) → 0 < e → c ≤ e * c
no_less e c h = subst (λ x. c ≤ x) (mul_comm c e) (le-mul_of_pos_right c h)

pub saturated_times : (e c : ℕ) → 0 < e → saturated (e * saturated c) ≡ saturated (e * c)
saturated_times e c h = go (nat_le c 18446744073709551615) refl
  where
    go : (b : Bool) → nat_le c 18446744073709551615 ≡ b → saturated (e * saturated c) ≡ saturated (e * c)
    go true q = let l : saturated c ≡ c = omega (arith, leb-true c 18446744073709551615 q) in ap (λ x. saturated (e * x)) l
    go false q =
        let l : saturated c ≡ 18446744073709551615 = omega (arith, leb-false c 18446744073709551615 q) in
        let m = no_less e 18446744073709551615 h in
        let k = no_less e c h in
        ap (λ x. saturated (e * x)) l ∙ omega (arith, m, k, leb-false c 18446744073709551615 q)

-- ---- dimensions

suc_plus : (b k : ℕ) → suc (b + k) ≡ suc b + k
suc_plus b k = omega arith

le_ex : (a b : ℤ) → int_le a b ≡ true → (k : ℕ) × (b ≡ a +ℤ pos k)
le_ex (pos a) (pos b) e = let l = leb-true a b e in (b - a, ap pos (sum_of a b l) ∙ sym (pos-+ℤ-pos a (b - a)))
  where
    sum_of : (a b : ℕ) → a ≤ b → b ≡ a + (b - a)
    sum_of a b l = omega arith
le_ex (pos a) (negsuc b) e = absurd (true≢false (sym e))
le_ex (negsuc a) (pos b) e = (suc a + b, sym (ap (λ z. negsuc a +ℤ z) (sym (pos-+ℤ-pos (suc a) b)) ∙ sym (+ℤ_assoc (negsuc a) (pos (suc a)) (pos b)) ∙ ap (λ z. z +ℤ pos b) (+ℤ_invl (pos (suc a))) ∙ +ℤ_idl (pos b)))
le_ex (negsuc a) (negsuc b) e = let l = leb-true b a e in (a - b, sym (ap (λ z. negsuc z +ℤ pos (a - b)) (sum_of a b l) ∙ ap (λ z. neg_ℤ (pos z) +ℤ pos (a - b)) (suc_plus b (a - b)) ∙ ap (λ z. neg_ℤ z +ℤ pos (a - b)) (sym (pos-+ℤ-pos (suc b) (a - b))) ∙ ap (λ z. z +ℤ pos (a - b)) (neg_ℤ-+ℤ (pos (suc b)) (pos (a - b))) ∙ -ℤ-+ℤ_cancel (negsuc b) (pos (a - b))))
  where
    sum_of : (a b : ℕ) → b ≤ a → a ≡ b + (a - b)
    sum_of a b l = omega arith

back : (l : ℤ) (n : ℕ) → l +ℤ pos n -ℤ l ≡ pos n
back l n = ap (λ z. z -ℤ l) (+ℤ_comm l (pos n)) ∙ +ℤ-neg_ℤ_cancel (pos n) l

-- a dimension has a value
abbrev pub HasValue : Dimension → Type 0
HasValue d = int_le d.low d.high ≡ true

abbrev pub HaveValues : List Dimension → Type 0
HaveValues [] = Unit {0}
HaveValues (d ∷ ds) = HasValue d × HaveValues ds

pub values_both : (a b : List Dimension) → HaveValues a → HaveValues b → HaveValues (a ++ b)
values_both [] b h k = k
values_both (d ∷ a) b h k = (h.0, values_both a b h.1 k)

pub extent_count : (d : Dimension) → HasValue d → extent d ≡ count (dimension_bounds d)
extent_count d h =
    let a = le_ex d.low d.high h in
    let far : d.high -ℤ d.low ≡ pos a.0 = ap (λ z. z -ℤ d.low) a.1 ∙ back d.low a.0 in
    let all : d.high +ℤ pos 1 ≡ d.low +ℤ pos (a.0 + 1) = ap (λ z. z +ℤ pos 1) a.1 ∙ +ℤ_assoc d.low (pos a.0) (pos 1) ∙ ap (λ z. d.low +ℤ z) (pos-+ℤ-pos a.0 1) in
    ap (λ z. unsigned_abs z + 1) far ∙ sym (ap (λ z. to_nat (z -ℤ d.low)) all ∙ ap to_nat (back d.low (a.0 + 1)))

extent_some : (d : Dimension) → 0 < extent d
extent_some d = omega arith

pub array_counted : (ds : List Dimension) (c : ℕ) → HaveValues ds → array_cells ds (saturated c) ≡ saturated (components (map dimension_bounds ds) * c)
array_counted [] c h = omega arith
array_counted (d ∷ ds) c h =
    ap (array_cells ds) (saturated_times (extent d) c (extent_some d)) ∙ array_counted ds (extent d * c) h.1
    ∙ ap saturated (ap (λ e. components (map dimension_bounds ds) * (e * c)) (extent_count d h.0) ∙ swapped (components (map dimension_bounds ds)) (count (dimension_bounds d)) c)
  where
    swapped : (a b c : ℕ) → a * (b * c) ≡ b * a * c
    swapped a b c = sym (mul_assoc a b c) ∙ ap (λ x. x * c) (mul_comm a b)

-- ---- the layout's counts of a table that grows

sizes_on : (sizes : List ℕ) (ts : List Subtype) (t : Subtype) → sizes_from sizes (ts ++ t ∷ []) ≡ sizes_from sizes ts ++ subtype_cells (λ k. get_or (sizes_from sizes ts) k 0) t ∷ []
sizes_on sizes [] t = refl
sizes_on sizes (x ∷ ts) t = sizes_on (sizes ++ subtype_cells (λ k. get_or sizes k 0) x ∷ []) ts t

sizes_many : (sizes : List ℕ) (ts : List Subtype) → length (sizes_from sizes ts) ≡ length sizes + length ts
sizes_many sizes [] = omega arith
sizes_many sizes (x ∷ ts) =
    let y = subtype_cells (λ k. get_or sizes k 0) x in
    sizes_many (sizes ++ y ∷ []) ts ∙ ap (λ n. n + length ts) (length-append sizes (y ∷ [])) ∙ omega arith

pub cells_kept : (ts : List Subtype) (t : Subtype) (k : ℕ) → k < length ts → cells_of (ts ++ t ∷ []) k ≡ cells_of ts k
unfolding cells_of
cells_kept ts t k h =
    ap (λ s. get_or s k 0) (sizes_on [] ts t) ∙ get_or-append (sizes_from [] ts) _ 0 k (subst (λ n. k < n) (sym (sizes_many [] ts)) (omega (arith, h)))

pub cells_last : (ts : List Subtype) (t : Subtype) (n : ℕ) → n ≡ length ts → cells_of (ts ++ t ∷ []) n ≡ subtype_cells (cells_of ts) t
unfolding cells_of
cells_last ts t n e =
    let here : n ≡ length (sizes_from [] ts) = e ∙ sym (sizes_many [] ts ∙ omega arith) in
    ap (λ s. get_or s n 0) (sizes_on [] ts t) ∙ ap (λ k. get_or (sizes_from [] ts ++ subtype_cells (λ j. get_or (sizes_from [] ts) j 0) t ∷ []) k 0) here
    ∙ get_or-append_seam (sizes_from [] ts) _ [] 0

-- ---- the cells of fields

pub fields_sum : (cells : ℕ → ℕ) (a b : List Field) → fields_cells cells (a ++ b) ≡ fields_cells cells a + fields_cells cells b
fields_sum cells [] b = omega arith
fields_sum cells (f ∷ a) b = ap (λ n. cells f.subtype + n) (fields_sum cells a b) ∙ omega arith
