-- The cells of a variable, one by one.
use Rattle.std.proofs.Common.{◌≡◌, ℕ, suc, ◌+◌, ◌-◌, ◌<◌, ◌≤◌, ℤ, length, get_or, List, [], ◌∷◌, ◌++◌, drop, refl, sym, ap, ◌∙◌, arith, append_assoc}
use Rattle.std.proofs.lemmas.List.{append-nil, drop_more}
use Rattle.ada_meaning.specs.Stored.{filled}
use Rattle.run_reports.specs.declared.ends.CellKind.{CellKind}
use Rattle.run_reports.specs.Vars.{cell_text, cells_text, first_or_zero}

filled_more : (n : ℕ) (vs : List ℤ) → filled (suc n) vs ≡ first_or_zero vs ∷ filled n (drop 1 vs)
filled_more n [] = refl
filled_more n (v ∷ vs) = refl

pub cells_more : (line line' whole : List ℕ) (k : CellKind) (ks : List CellKind) (left : ℕ) (vs : List ℤ) → 1 ≤ left → line ++ cells_text (k ∷ ks) (filled left vs) ≡ whole → line' ≡ line ++ (32 ∷ cell_text k (first_or_zero vs)) → line' ++ cells_text ks (filled (left - 1) (drop 1 vs)) ≡ whole
cells_more line line' whole k ks left vs h e f =
    let m : left ≡ suc (left - 1) = omega arith in
    let g : filled left vs ≡ first_or_zero vs ∷ filled (left - 1) (drop 1 vs) = ap (λ (n : ℕ). filled n vs) m ∙ filled_more (left - 1) vs in
    ap (λ (x : List ℕ). x ++ cells_text ks (filled (left - 1) (drop 1 vs))) f
    ∙ append_assoc line (32 ∷ cell_text k (first_or_zero vs)) (cells_text ks (filled (left - 1) (drop 1 vs)))
    ∙ ap (λ (x : List ℤ). line ++ cells_text (k ∷ ks) x) (sym g)
    ∙ e

pub cells_none : (line whole : List ℕ) (left : ℕ) (vs : List ℤ) → line ++ cells_text [] (filled left vs) ≡ whole → line ≡ whole
cells_none line whole left vs e = sym (append-nil line) ∙ e

pub cells_out : (line whole : List ℕ) (k : CellKind) (ks : List CellKind) (vs : List ℤ) → line ++ cells_text (k ∷ ks) (filled 0 vs) ≡ whole → line ≡ whole
cells_out line whole k ks vs e = sym (append-nil line) ∙ e

-- the text of the cells from one on
pub cells_next : (line line' whole : List ℕ) (ks : List CellKind) (i left : ℕ) (vs : List ℤ) (d : CellKind) → i < length ks → 1 ≤ left → line ++ cells_text (drop i ks) (filled left vs) ≡ whole → line' ≡ line ++ (32 ∷ cell_text (get_or ks i d) (first_or_zero vs)) → line' ++ cells_text (drop (i + 1) ks) (filled (left - 1) (drop 1 vs)) ≡ whole
cells_next line line' whole ks i left vs d h l e f =
    cells_more line line' whole (get_or ks i d) (drop (i + 1) ks) left vs l (ap (λ (x : List CellKind). line ++ cells_text x (filled left vs)) (sym (drop_more ks i d h)) ∙ e) f

zero_filled : (ks : List CellKind) (left : ℕ) (vs : List ℤ) → left ≡ 0 → cells_text ks (filled left vs) ≡ []
zero_filled [] left vs e = refl
zero_filled (k ∷ ks) left vs e = ap (λ (n : ℕ). cells_text (k ∷ ks) (filled n vs)) e

pub cells_spent : (line whole : List ℕ) (ks : List CellKind) (left : ℕ) (vs : List ℤ) → left ≡ 0 → line ++ cells_text ks (filled left vs) ≡ whole → line ≡ whole
cells_spent line whole ks left vs z e = sym (append-nil line) ∙ ap (λ (x : List ℕ). line ++ x) (sym (zero_filled ks left vs z)) ∙ e
