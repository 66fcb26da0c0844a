-- Cells of subtypes.
use Rattle.std.proofs.Common.{◌≡◌, ℕ, zero, suc, ◌+◌, ◌-◌, ◌*◌, ◌≤◌, ℤ, List, [], ◌∷◌, ◌++◌, length, replicate, slice_get, refl, ap, sym, ◌∙◌, arith, append_assoc, length-append}
use Rattle.std.proofs.lemmas.List.{map-append}
use Rattle.typed_tree.specs.declared.scalars.Scalar.{Scalar}
use Rattle.typed_tree.specs.Syntax.{Subtype}
use Rattle.ada_meaning.specs.Values.{defaults, repeated, layout_within, layout_of}

pub length_repeated : (n : ℕ) (cs : List Scalar) → length (repeated n cs) ≡ n * length cs
length_repeated zero cs = omega arith
length_repeated (suc n) cs =
    let e : length (cs ++ repeated n cs) ≡ length cs + length (repeated n cs) = length-append cs (repeated n cs) in
    let h : length (repeated n cs) ≡ n * length cs = length_repeated n cs in
    let m : suc n * length cs ≡ n * length cs + length cs = omega arith in
    omega (arith, e, h, m)

pub within_next : (table : List Subtype) (levels number : ℕ) → 1 ≤ levels → layout_within table levels number ≡ layout_of (layout_within table (levels - 1)) (slice_get table number)
within_next table zero number h = absurd (omega (arith, h))
within_next table (suc levels) number h = let e : suc levels - 1 ≡ levels = omega arith in rw e refl

pub length_both : (as' bs : List Scalar) → length (as' ++ bs) ≡ length as' + length bs
length_both as' bs = length-append as' bs

pub defaults_both : (as' bs : List Scalar) → defaults (as' ++ bs) ≡ defaults as' ++ defaults bs
defaults_both as' bs = map-append (λ (s : Scalar). s.low) as' bs

-- one component more
pub repeated_more : (out out' whole : List ℤ) (n k : ℕ) (cs : List Scalar) → suc k ≤ n → out ++ defaults (repeated (n - k) cs) ≡ whole → out' ≡ out ++ defaults cs → out' ++ defaults (repeated (n - (k + 1)) cs) ≡ whole
repeated_more out out' whole n k cs h e f =
    let m : n - k ≡ suc (n - (k + 1)) = omega arith in
    rw f (append_assoc out (defaults cs) (defaults (repeated (n - (k + 1)) cs)) ∙ (ap (λ z. out ++ z) (sym (defaults_both cs (repeated (n - (k + 1)) cs))) ∙ (rw m at e)))
