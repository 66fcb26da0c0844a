-- A subtype has as many cells as the typed program's layout says.
use Rattle.std.proofs.Common.{◌≡◌, ℕ, suc, ◌+◌, ◌*◌, ◌<◌, nat_lt, List, [], ◌∷◌, ◌++◌, length, length-append, slice_get, Option, Some, None, Bool, true, false, refl, sym, subst, ap, ap₂, ◌∙◌, arith, ltb-true, ltb-false}
use Rattle.std.proofs.Math.ListN.{get_or, get_or-append}
use Rattle.std.proofs.Math.Seq.{get_or-append_seam}
use Rattle.std.proofs.lemmas.List.{get_or_past}
use Rattle.std.proofs.lemmas.Option.{slice_get_past}
use Rattle.typed_tree.specs.declared.program.Bounds.{Bounds}
use Rattle.typed_tree.specs.declared.program.Field as field
use Rattle.typed_tree.specs.Layout as typed
use Rattle.typed_tree.specs.Layout.{subtype_cells, fields_cells, sizes_from}
use Rattle.typed_tree.specs.Syntax as syntax
use Rattle.typed_tree.specs.Syntax.{Subtype}
use Rattle.ada_meaning.specs.Values.{components, count, fields, layout_of, layout}
use Rattle.ada_meaning.specs.Shapes.{size, shape_within, AreBefore, StandsBefore, IsGrounded, SizeLaw}
use Rattle.ada_meaning.proofs.Shapes.{repeated_length, entry_size, within_size, unfolds}

same_components : (ds : List Bounds) → components ds ≡ typed.components ds
same_components [] = refl
same_components (b ∷ bs) = ap (λ z. count b.low b.high * z) (same_components bs)

module _ (table : List Subtype) (grounded : IsGrounded table) where
  -- how many cells the subtype of a number has
  abbrev cells : ℕ → ℕ
  cells n = length (layout table n)

  abbrev entry : Option Subtype → ℕ
  entry None = 0
  entry (Some t) = subtype_cells cells t

  fields_length : (fs : List field.Field) → length (fields (layout table) fs) ≡ fields_cells cells fs
  fields_length [] = refl
  fields_length (f ∷ fs) = length-append (layout table f.subtype) (fields (layout table) fs) ∙ ap (λ z. cells f.subtype + z) (fields_length fs)

  entry_length : (o : Option Subtype) → length (layout_of (layout table) o) ≡ entry o
  entry_length None = refl
  entry_length (Some (syntax.OfScalar s)) = refl
  entry_length (Some (syntax.Array ds c)) = repeated_length (components ds) (layout table c) ∙ ap (λ z. z * cells c) (same_components ds)
  entry_length (Some (syntax.Record fs)) = fields_length fs

  stands : (n : ℕ) → cells n ≡ entry (slice_get table n)
  stands n =
      within_size table (length table) n ∙ ap size (unfolds table grounded (length table) n (slice_get_past table n))
      ∙ sym (entry_size (layout table) (shape_within table (length table)) (within_size table (length table)) (slice_get table n)) ∙ entry_length (slice_get table n)

  abbrev Agree : List ℕ → Type 0
  Agree sizes = (k : ℕ) → k < length sizes → get_or sizes k 0 ≡ cells k

  fields_agree : (sizes : List ℕ) → Agree sizes → (fs : List field.Field) → AreBefore (length sizes) fs → fields_cells (λ k. get_or sizes k 0) fs ≡ fields_cells cells fs
  fields_agree sizes agree [] h = refl
  fields_agree sizes agree (f ∷ fs) h = ap₂ (λ x y. x + y) (agree f.subtype h.0) (fields_agree sizes agree fs h.1)

  same_cells : (sizes : List ℕ) → Agree sizes → (t : Subtype) → StandsBefore (length sizes) (Some t) → subtype_cells (λ k. get_or sizes k 0) t ≡ subtype_cells cells t
  same_cells sizes agree (syntax.OfScalar s) h = refl
  same_cells sizes agree (syntax.Array ds c) h = ap (λ z. typed.components ds * z) (agree c h)
  same_cells sizes agree (syntax.Record fs) h = fields_agree sizes agree fs h

  grow : (sizes : List ℕ) (t : Subtype) → Agree sizes → slice_get table (length sizes) ≡ Some t → Agree (sizes ++ subtype_cells (λ k. get_or sizes k 0) t ∷ [])
  grow sizes t agree at k lt = go (nat_lt k (length sizes)) refl
    where
      x : ℕ
      x = subtype_cells (λ k. get_or sizes k 0) t

      last : get_or (sizes ++ x ∷ []) (length sizes) 0 ≡ cells (length sizes)
      last = get_or-append_seam sizes x [] 0 ∙ same_cells sizes agree t (subst (StandsBefore (length sizes)) at (grounded (length sizes))) ∙ sym (stands (length sizes) ∙ ap entry at)

      go : (b : Bool) → nat_lt k (length sizes) ≡ b → get_or (sizes ++ x ∷ []) k 0 ≡ cells k
      go true e = let l = ltb-true k (length sizes) e in get_or-append sizes (x ∷ []) 0 k l ∙ agree k l
      go false e =
          let l = ltb-false k (length sizes) e in let n = length-append sizes (x ∷ []) in
          let same : length sizes ≡ k = omega arith in subst (λ z. get_or (sizes ++ x ∷ []) z 0 ≡ cells z) same last

  all_agree : (rest : List Subtype) (sizes : List ℕ) → Agree sizes → ((j : ℕ) → slice_get rest j ≡ slice_get table (length sizes + j)) → Agree (sizes_from sizes rest) × (length (sizes_from sizes rest) ≡ length sizes + length rest)
  all_agree [] sizes agree at = (agree, omega arith)
  all_agree (t ∷ ts) sizes agree at =
      let x = subtype_cells (λ k. get_or sizes k 0) t in
      let here : length sizes + 0 ≡ length sizes = omega arith in
      let longer = length-append sizes (x ∷ []) in
      let h = all_agree ts (sizes ++ x ∷ []) (grow sizes t agree (ap (slice_get table) (sym here) ∙ sym (at 0)))
      (λ j. at (suc j) ∙ (let e : length sizes + suc j ≡ length (sizes ++ x ∷ []) + j = omega arith in ap (slice_get table) e)) in
      (h.0, (let g = h.1 in omega arith))

  size_of : (n : ℕ) → cells n ≡ typed.cells_of table n
  unfolding typed.cells_of
  size_of n = go (nat_lt n (length table)) refl
    where
      all : Agree (sizes_from [] table) × (length (sizes_from [] table) ≡ length table)
      all = let h = all_agree table [] (λ k lt. absurd (omega arith)) (λ j. (let e : j ≡ 0 + j = omega arith in ap (slice_get table) e)) in (h.0, (let g = h.1 in omega arith))

      go : (b : Bool) → nat_lt n (length table) ≡ b → cells n ≡ get_or (sizes_from [] table) n 0
      go true e = let l = ltb-true n (length table) e in let g = all.1 in sym (all.0 n (omega arith))
      go false e = let l = ltb-false n (length table) e in let g = all.1 in stands n ∙ ap entry (slice_get_past table n l) ∙ sym (get_or_past (sizes_from [] table) n 0 (omega arith))

pub size_law : SizeLaw
size_law program n grounded = size_of program.subtypes grounded n
