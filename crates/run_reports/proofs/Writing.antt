-- The lines of variables, one after another.
use Rattle.std.proofs.Common.{◌≡◌, ℕ, zero, suc, ◌+◌, ◌≤◌, ℤ, length, arith, List, [], ◌∷◌, ◌++◌, drop, Some, None, Err, refl, ap, ◌∙◌, subst}
use Rattle.std.proofs.Math.ListN.{get_or}
use Rattle.std.proofs.lemmas.List.{drop_more}
use Rattle.std.proofs.lemmas.Option.{get_or_from_slice_get, slice_get_within}
use Rattle.std.specs.Prelude.{slice_get}
use Rattle.ada_port.specs.Ports.{Stream, Grows}
use Rattle.ada_meaning.specs.Stored.{final_of, finals_of}
use Rattle.ada_meaning.specs.declared.slots.Variable.{Variable}
use Rattle.typed_tree.specs.Syntax.{Program}
use Rattle.run_reports.specs.declared.ends.Final.{Final}
use Rattle.run_reports.specs.Puts.{Puts, Putting}
use Rattle.run_reports.specs.Vars.{vars_line, vars_lines}
use Rattle.run_reports.specs.declared.vars.Unput.{Unput}
use Rattle.run_reports.proofs.Putting.{put_more, put_done, put_stops}

drop_get : {A : Type 0} (xs : List A) (i : ℕ) (x : A) → slice_get xs i ≡ Some x → drop i xs ≡ x ∷ drop (i + 1) xs
drop_get xs i x e =
    let g : get_or xs i x ≡ x = get_or_from_slice_get xs i x x e in
    let d : drop i xs ≡ get_or xs i x ∷ drop (i + 1) xs = drop_more xs i x (slice_get_within xs i x e) in
    cc

drop_none : {A : Type 0} (xs : List A) (i : ℕ) → slice_get xs i ≡ None → drop i xs ≡ []
drop_none [] zero e = refl
drop_none [] (suc i) e = refl
drop_none (y ∷ xs) zero e = absurd (cc)
drop_none (y ∷ xs) (suc i) e = drop_none xs i e

drop_past : {A : Type 0} (xs : List A) (i : ℕ) → length xs ≤ i → drop i xs ≡ []
drop_past [] zero h = refl
drop_past [] (suc i) h = refl
drop_past (y ∷ xs) zero h = absurd (omega (arith, h))
drop_past (y ∷ xs) (suc i) h = drop_past xs i (omega (arith, h))

no_values : (xs : List Final) → vars_lines xs [] ≡ []
no_values [] = refl
no_values (x ∷ xs) = refl

module _ (p : Program) (kept : List ℤ) (xs : List Final) (gs : List Variable) (i : ℕ) (whole : List ℕ) (old now : Stream) (so_far : Putting whole old now (vars_lines (drop i xs) (finals_of p kept (drop i gs)))) where
  next : (x : Final) (g : Variable) → slice_get xs i ≡ Some x → slice_get gs i ≡ Some g
      → Putting whole old now (vars_line x (final_of p kept g) ++ vars_lines (drop (i + 1) xs) (finals_of p kept (drop (i + 1) gs)))
  next x g has there =
      let parts : vars_lines (drop i xs) (finals_of p kept (drop i gs)) ≡ vars_line x (final_of p kept g) ++ vars_lines (drop (i + 1) xs) (finals_of p kept (drop (i + 1) gs)) =
      ap (λ (ys : List Final). vars_lines ys (finals_of p kept (drop i gs))) (drop_get xs i x has) ∙ ap (λ (hs : List Variable). vars_lines (x ∷ drop (i + 1) xs) (finals_of p kept hs)) (drop_get gs i g there) in
      subst (Putting whole old now) parts so_far

  pub vars_more : (x : Final) (g : Variable) (later : Stream) → slice_get xs i ≡ Some x → slice_get gs i ≡ Some g → Grows now later (vars_line x (final_of p kept g))
      → Putting whole old later (vars_lines (drop (i + 1) xs) (finals_of p kept (drop (i + 1) gs)))
  vars_more x g later has there grown = put_more whole old now later _ _ (next x g has there) grown

  pub vars_stop : (x : Final) (g : Variable) (later : Stream) (e : Unput) → slice_get xs i ≡ Some x → slice_get gs i ≡ Some g → Puts (vars_line x (final_of p kept g)) (Err e) now later → Puts whole (Err e) old later
  vars_stop x g later e has there puts = put_stops whole old now later (vars_line x (final_of p kept g)) (vars_lines (drop (i + 1) xs) (finals_of p kept (drop (i + 1) gs))) e (next x g has there) puts

  pub vars_end : slice_get xs i ≡ None → Grows old now whole
  vars_end none = put_done whole old now (subst (Putting whole old now) (ap (λ (ys : List Final). vars_lines ys (finals_of p kept (drop i gs))) (drop_none xs i none)) so_far)

  pub vars_short : slice_get gs i ≡ None → Grows old now whole
  vars_short none = put_done whole old now (subst (Putting whole old now) (ap (λ (hs : List Variable). vars_lines (drop i xs) (finals_of p kept hs)) (drop_none gs i none) ∙ no_values (drop i xs)) so_far)

  pub vars_past : length xs ≤ i → Grows old now whole
  vars_past past = put_done whole old now (subst (Putting whole old now) (ap (λ (ys : List Final). vars_lines ys (finals_of p kept (drop i gs))) (drop_past xs i past)) so_far)
