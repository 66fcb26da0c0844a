-- What the cells of several subtypes keep.
use Rattle.std.proofs.Common.{◌≡◌, ℕ, suc, ◌+◌, ◌-◌, ◌≤◌, List, ◌++◌, ap, sym, ◌∙◌, arith, append_assoc}
use Rattle.std.proofs.lemmas.List.{map-append}
use Rattle.typed_tree.specs.declared.scalars.Scalar.{Scalar}
use Rattle.ada_meaning.specs.Values.{repeated}
use Rattle.run_reports.specs.declared.ends.CellKind.{CellKind}
use Rattle.driver.specs.Compiled.{scalar_kind, kinds_of}

pub kinds_both : (as' bs : List Scalar) → kinds_of (as' ++ bs) ≡ kinds_of as' ++ kinds_of bs
kinds_both as' bs = map-append scalar_kind as' bs

-- one component more
pub kinds_more : (out out' whole : List CellKind) (n k : ℕ) (cs : List Scalar) → suc k ≤ n → out ++ kinds_of (repeated (n - k) cs) ≡ whole → out' ≡ out ++ kinds_of cs → out' ++ kinds_of (repeated (n - (k + 1)) cs) ≡ whole
kinds_more out out' whole n k cs h e f =
    let m : n - k ≡ suc (n - (k + 1)) = omega arith in
    rw f (append_assoc out (kinds_of cs) (kinds_of (repeated (n - (k + 1)) cs)) ∙ (ap (λ z. out ++ z) (sym (kinds_both cs (repeated (n - (k + 1)) cs))) ∙ (rw m at e)))
