-- Copies out of calls, a parameter at a time.
use Rattle.std.proofs.Common.{arith, ◌≡◌, ℕ, ◌+◌, suc, zero, ℤ, List, [], ◌∷◌, ◌++◌, drop, take, map, length, slice_index_or, ◌<◌, refl, sym, subst, ap, ◌∙◌}
use Rattle.std.specs.Prelude.{Result, Ok, Err, Option, Some, None, replicate}
use Rattle.run_outside.specs.Outside.{Outside}
use Rattle.run_store.specs.Shows.{Image, Shows, entity_of}
use Rattle.run_values.specs.declared.ends.End.{End}
use Rattle.run_store.proofs.Going.{goes_refl, goes_ends, stays, then_shows}
use Rattle.typed_tree.specs.declared.scalars.Check.{Check}
use Rattle.behaviours.specs.Paths.{Entity}
use Rattle.ada_meaning.specs.Stored.{bind, ret}
use Rattle.run_parts.specs.declared.work.Work.{Work}
use Rattle.run_parts.specs.declared.passed.Passed.{Passed}
use Rattle.run_parts.specs.declared.passed.Back.{Back}
use Rattle.run_store.specs.Environment.{part_of}
use Rattle.run_parts.specs.Passing.{passed_list, back_option, shape_of}
use Rattle.run_parts.specs.Words.{cells_back, back_cells, copied_back, all_copied_back, write_all}

module _ {Tells : List ℕ → Outside → Type 0} (w : Work) (p : Passed) (ps all : List Passed) (is : all ≡ p ∷ ps) (out : List (List ℤ)) (s : Image) where
  pub back_step : (vs : List ℤ) (more : List (List ℤ)) (r : Result (List (List ℤ)) End) → Shows Tells (cells_back w (entity_of p.formal) (back_option w p.back)) (Ok vs) s s → more ≡ out ++ vs ∷ [] → Shows Tells (back_cells w (passed_list w ps) more) r s s
      → Shows Tells (back_cells w (passed_list w all) out) r s s
  unfolding back_cells
  back_step vs more r h q k =
      subst (λ z. Shows Tells (back_cells w (passed_list w z) out) r s s) (sym is)
      (then_shows (λ a. a) (λ a. a) (cells_back w (entity_of p.formal) (back_option w p.back)) (λ vs. back_cells w (passed_list w ps) (out ++ vs ∷ [])) s s s vs r h (subst (λ z. Shows Tells (back_cells w (passed_list w ps) z) r s s) q k))

  pub back_ends : (e : End) (r : Result (List (List ℤ)) End) → r ≡ Err e → Shows Tells (cells_back w (entity_of p.formal) (back_option w p.back)) (Err e) s s → Shows Tells (back_cells w (passed_list w all) out) r s s
  unfolding back_cells
  back_ends e r q h =
      subst (λ z. Shows Tells (back_cells w (passed_list w all) out) z s s) (sym q) (subst (λ z. Shows Tells (back_cells w (passed_list w z) out) (Err e) s s) (sym is)
      (goes_ends (λ a. a) (λ a. a) _ (cells_back w (entity_of p.formal) (back_option w p.back)) (λ vs. back_cells w (passed_list w ps) (out ++ vs ∷ [])) s s s e (goes_refl _ s) h))

module _ {Tells : List ℕ → Outside → Type 0} (w : Work) (d : ℕ) (p : Passed) (ps all : List Passed) (is : all ≡ p ∷ ps) (vs : List ℤ) (vss whole : List (List ℤ)) (are : whole ≡ vs ∷ vss) (s t : Image) where
  pub copy_step : (u : Image) (r : Result (Unit {0}) End) → Shows Tells (copied_back w d (back_option w p.back) vs) (Ok tt) s t → Shows Tells (all_copied_back w d (passed_list w ps) vss) r t u → Shows Tells (all_copied_back w d (passed_list w all) whole) r s u
  unfolding all_copied_back
  copy_step u r h k =
      subst (λ z. Shows Tells (all_copied_back w d (passed_list w z) whole) r s u) (sym is) (subst (λ z. Shows Tells (all_copied_back w d (passed_list w (p ∷ ps)) z) r s u) (sym are)
      (then_shows (λ a. a) (λ a. a) (copied_back w d (back_option w p.back) vs) (λ _. all_copied_back w d (passed_list w ps) vss) s t u tt r h k))

  pub copy_ends : (e : End) (r : Result (Unit {0}) End) → r ≡ Err e → Shows Tells (copied_back w d (back_option w p.back) vs) (Err e) s t → Shows Tells (all_copied_back w d (passed_list w all) whole) r s t
  unfolding all_copied_back
  copy_ends e r q h =
      subst (λ z. Shows Tells (all_copied_back w d (passed_list w all) whole) z s t) (sym q) (subst (λ z. Shows Tells (all_copied_back w d (passed_list w z) whole) (Err e) s t) (sym is) (subst (λ z. Shows Tells (all_copied_back w d (passed_list w (p ∷ ps)) z) (Err e) s t) (sym are)
      (goes_ends (λ a. a) (λ a. a) _ (copied_back w d (back_option w p.back) vs) (λ _. all_copied_back w d (passed_list w ps) vss) s s t e (goes_refl _ s) h)))

-- ---- empty lists in front

one_more : (before : ℕ) → replicate {A = List ℤ} (suc before) [] ++ [] ≡ (replicate before [] ++ []) ++ [] ∷ []
one_more zero = refl
one_more (suc before) = ap (λ z. [] ∷ z) (one_more before)

pub one_before : (before more : ℕ) (cells : List ℤ) (lists : List (List ℤ)) → more ≡ before + 1 → cells ≡ [] → lists ≡ [] → replicate more [] ++ lists ≡ (replicate before [] ++ lists) ++ cells ∷ []
one_before before more cells lists m c l =
    let n : more ≡ suc before = omega (arith, m) in
    subst (λ z. replicate z [] ++ lists ≡ (replicate before [] ++ lists) ++ cells ∷ []) (sym n)
    (subst (λ z. replicate (suc before) [] ++ z ≡ (replicate before [] ++ z) ++ cells ∷ []) (sym l)
    (subst (λ z. replicate (suc before) [] ++ [] ≡ (replicate before [] ++ []) ++ z ∷ []) (sym c) (one_more before)))

pub one_behind : (before : ℕ) (cells : List ℤ) (lists more : List (List ℤ)) → more ≡ lists ++ cells ∷ [] → replicate before [] ++ more ≡ (replicate before [] ++ lists) ++ cells ∷ []
one_behind zero cells lists more m = m
one_behind (suc before) cells lists more m = ap (λ z. [] ∷ z) (one_behind before cells lists more m)

-- ---- parameters in front that aren't copied back

pub kept_more : (ps : List Passed) (k : ℕ) (p d : Passed) → k < length ps → p ≡ slice_index_or ps k d → p.back ≡ None → map (λ p. p.back) (take k ps) ≡ replicate k None → map (λ p. p.back) (take (k + 1) ps) ≡ replicate (k + 1) None
kept_more ps k p d lt is none h = let m : k + 1 ≡ suc k = omega arith in rw m (go ps k lt is h)
  where
    go : (ps : List Passed) (k : ℕ) → k < length ps → p ≡ slice_index_or ps k d → map (λ p. p.back) (take k ps) ≡ replicate k None → map (λ p. p.back) (take (suc k) ps) ≡ replicate (suc k) None
    go [] k lt is h = absurd (omega (arith, lt))
    go (q ∷ ps) zero lt is h = ap (λ (z : Option Back). z ∷ []) (ap (λ (z : Passed). z.back) (sym is) ∙ none)
    go (q ∷ ps) (suc k) lt is h = let x : q.back ≡ None = cc in let y : map (λ p. p.back) (take k ps) ≡ replicate k None = cc in rw x (ap (λ z. None ∷ z) (go ps k (omega (arith, lt)) is y))

module _ {Tells : List ℕ → Outside → Type 0} (w : Work) (s : Image) (r : Result (List (List ℤ)) End) where
  none_kept : (formal : Entity) (b : Option Back) → b ≡ None → Shows Tells (cells_back w formal (back_option w b)) (Ok []) s s
  unfolding ret
  none_kept formal b e = subst (λ z. Shows Tells (cells_back w formal (back_option w z)) (Ok []) s s) (sym e) (refl, stays, λ input told. refl)

  back_behind : (n b m : ℕ) (ps : List Passed) → map (λ (p : Passed). p.back) (take n ps) ≡ replicate n None → m ≡ b + n → Shows Tells (back_cells w (passed_list w (drop n ps)) (replicate m [] ++ [])) r s s → Shows Tells (back_cells w (passed_list w ps) (replicate b [] ++ [])) r s s
  back_behind zero b m ps e q h = let same : m ≡ b = omega (arith, q) in subst (λ z. Shows Tells (back_cells w (passed_list w ps) (replicate z [] ++ [])) r s s) same h
  back_behind (suc n) b m [] e q h = cc
  back_behind (suc n) b m (p ∷ ps) e q h =
      let none : p.back ≡ None = cc in
      let others : map (λ (p : Passed). p.back) (take n ps) ≡ replicate n None = cc in
      back_step w p ps (p ∷ ps) refl (replicate b [] ++ []) s [] (replicate (suc b) [] ++ []) r (none_kept (entity_of p.formal) p.back none) (one_more b) (back_behind n (suc b) m ps others (omega (arith, q)) h)

  pub back_from : (n b m : ℕ) (ps rest : List Passed) (lists given out : List (List ℤ)) → map (λ (p : Passed). p.back) (take n ps) ≡ replicate n None → m ≡ b + n → rest ≡ drop n ps → lists ≡ [] → given ≡ replicate m [] ++ lists → out ≡ replicate b [] ++ lists
      → Shows Tells (back_cells w (passed_list w rest) given) r s s → Shows Tells (back_cells w (passed_list w ps) out) r s s
  back_from n b m ps rest lists given out e q is empty now was h =
      let on : given ≡ replicate m [] ++ [] = now ∙ ap (λ z. replicate m [] ++ z) empty in
      let from : out ≡ replicate b [] ++ [] = was ∙ ap (λ z. replicate b [] ++ z) empty in
      subst (λ z. Shows Tells (back_cells w (passed_list w ps) z) r s s) (sym from)
      (back_behind n b m ps e q (subst (λ z. Shows Tells (back_cells w (passed_list w z) (replicate m [] ++ [])) r s s) is (subst (λ z. Shows Tells (back_cells w (passed_list w rest) z) r s s) on h)))

module _ {Tells : List ℕ → Outside → Type 0} (w : Work) (d : ℕ) where
  nothing_back : (b : Option Back) (s : Image) → Shows Tells (copied_back w d (back_option w b) []) (Ok tt) s s
  unfolding bind ret write_all
  nothing_back None s = (refl, stays, λ input told. refl)
  nothing_back (Some b) s = nothing_checked b.check where
    nothing_checked : (c : Option Check) → Shows Tells (copied_back w d (Some (record { part = part_of b.part; cells = shape_of w b.shape; check = c })) []) (Ok tt) s s
    nothing_checked None = (refl, stays, λ input told. refl)
    nothing_checked (Some c) = (refl, stays, λ input told. refl)

  skipped : (n : ℕ) (ps : List Passed) (vss : List (List ℤ)) (r : Result (Unit {0}) End) (s t : Image) → Shows Tells (all_copied_back w d (passed_list w (drop n ps)) vss) r s t → Shows Tells (all_copied_back w d (passed_list w ps) (replicate n [] ++ vss)) r s t
  unfolding all_copied_back
  skipped zero ps vss r s t h = h
  skipped (suc n) [] vss r s t h = h
  skipped (suc n) (p ∷ ps) vss r s t h = copy_step w d p ps (p ∷ ps) refl [] (replicate n [] ++ vss) (replicate (suc n) [] ++ vss) refl s s t r (nothing_back p.back s) (skipped n ps vss r s t h)

  pub copied_from : (n : ℕ) (ps rest : List Passed) (vss given whole : List (List ℤ)) (r : Result (Unit {0}) End) (s t : Image) → rest ≡ drop n ps → given ≡ vss → whole ≡ replicate n [] ++ vss → Shows Tells (all_copied_back w d (passed_list w rest) given) r s t
      → Shows Tells (all_copied_back w d (passed_list w ps) whole) r s t
  copied_from n ps rest vss given whole r s t e f is h =
      subst (λ z. Shows Tells (all_copied_back w d (passed_list w ps) z) r s t) (sym is)
      (skipped n ps vss r s t (subst (λ z. Shows Tells (all_copied_back w d (passed_list w z) vss) r s t) e (subst (λ z. Shows Tells (all_copied_back w d (passed_list w rest) z) r s t) f h)))
