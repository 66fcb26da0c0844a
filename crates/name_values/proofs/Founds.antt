-- Operands by their parts.
use Rattle.std.proofs.Common.{◌≡◌, ◌≢◌, refl, ap, ℕ, List, [], ◌∷◌, ◌++◌, None, reverse, length, arith, length-append}
use Rattle.std.proofs.lemmas.List.{reverse-append, length-reverse}
use Rattle.typed_tree.specs.Decoded.{Cons, TypedPart}
use Rattle.name_rules.specs.Calls.{one_operand}
use Rattle.name_rules.specs.Found.{Found}
use Rattle.name_rules.specs.Judges.{found}
use Rattle.name_rules.specs.Judging.{fault}
use Rattle.name_rules.specs.TypedParts.{left_of, right_of}
use Rattle.name_rules.specs.declared.log.Rule.TheVariants.{WrongType}
use Rattle.name_rules.specs.declared.types.Scalar.{Scalar}
use Rattle.name_rules.specs.declared.found.Found.{Found as Known}
use Rattle.name_values.specs.Operands.{founds, latest_founds}

-- one more operand stands behind the others
pub founds_more : (ks : List Known) (k : Known) (done part : TypedPart) → founds (ks ++ k ∷ []) (Cons part done) ≡ founds ks done ++ found k part ∷ []
founds_more ks k done part = ap (λ all. latest_founds all (Cons part done)) (reverse-append ks (k ∷ []))

length_latest : (ks : List Known) (p : TypedPart) → length (latest_founds ks p) ≡ length ks
length_latest [] p = refl
length_latest (k ∷ ks) p = omega (arith, length-append (latest_founds ks (right_of p)) (found k (left_of p) ∷ []), length_latest ks (right_of p))

pub length_founds : (ks : List Known) (p : TypedPart) → length (founds ks p) ≡ length ks
length_founds ks p = omega (arith, length_latest (reverse ks) p, length-reverse ks)

pub one_found : (ks : List Known) (k : Known) (p : TypedPart) → ks ≡ k ∷ [] → founds ks p ≡ found k (left_of p) ∷ []
one_found ks k p e = ap (λ all. founds all p) e

-- another number of operands is wrong at the bracket
wrong_number : (bracket first : ℕ) (s : Scalar) (fs : List Found) → length fs ≢ 1 → one_operand bracket first s (None ∷ []) fs ≡ fault bracket WrongType
wrong_number bracket first s [] h = refl
wrong_number bracket first s (f ∷ []) h = absurd (h refl)
wrong_number bracket first s (f ∷ g ∷ fs) h = refl

pub not_one : (bracket first : ℕ) (s : Scalar) (ks : List Known) (p : TypedPart) → length ks ≢ 1 → one_operand bracket first s (None ∷ []) (founds ks p) ≡ fault bracket WrongType
not_one bracket first s ks p h = wrong_number bracket first s (founds ks p) (λ e. h (omega (arith, length_founds ks p, e)))
