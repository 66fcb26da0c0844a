-- Texts that are gathered one list after another.
use Rattle.std.proofs.Common.{◌≡◌, ◌+◌, ◌∙◌, ℕ, List, [], ◌∷◌, ◌++◌, drop, refl, sym, ap}
use Rattle.std.specs.Prelude.{slice_get, Some, None, map}
use Rattle.typed_tree.specs.declared.program.Sub as tree-sub
use Rattle.typed_tree.specs.declared.typed.Typed.{Typed}
use Rattle.typed_tree.specs.Programs.{sub_of}
use Rattle.typed_tree.specs.Decoded.{body_at}
use Rattle.lower_emission.specs.Texts.{gathered, noted, body_texts, subs_texts}
use Rattle.lower_values.specs.Words.{program_of}
use Rattle.lower_code.proofs.Texts.{drop_at, none_past}

pub gathered_both : (t xs ys : List (List ℕ)) → gathered t (xs ++ ys) ≡ gathered (gathered t xs) ys
gathered_both t [] ys = refl
gathered_both t (x ∷ xs) ys = gathered_both (noted t x) xs ys

pub subs_next : (t : Typed) (k n : ℕ) (sub : tree-sub.Sub) (t0 t1 t2 all : List (List ℕ)) → slice_get (map (sub_of t.nodes) t.subs) k ≡ Some (sub_of t.nodes sub) → (t2 ≡ t1) × (n ≡ k + 1) →
    t1 ≡ gathered t0 (body_texts (body_at t.nodes sub.body)) → gathered t0 (subs_texts (drop k (program_of t).subs)) ≡ all → gathered t2 (subs_texts (drop n (program_of t).subs)) ≡ all
unfolding program_of
subs_next t k n sub t0 t1 t2 all e f g h =
    rw (f.1, f.0, g) (sym (gathered_both t0 (body_texts (body_at t.nodes sub.body)) (subs_texts (drop (k + 1) (map (sub_of t.nodes) t.subs)))) ∙ (ap (λ l. gathered t0 (subs_texts l)) (sym (drop_at (map (sub_of t.nodes) t.subs) k (sub_of t.nodes sub) e)) ∙ h))

pub subs_last : (t : Typed) (k : ℕ) (t0 : List (List ℕ)) → slice_get (map (sub_of t.nodes) t.subs) k ≡ None → gathered t0 (subs_texts (drop k (program_of t).subs)) ≡ t0
unfolding program_of
subs_last t k t0 e = ap (λ l. gathered t0 (subs_texts l)) (none_past (map (sub_of t.nodes) t.subs) k e)
