-- Arguments of attributes by their number.
use Rattle.std.proofs.Common.{◌≡◌, ◌≢◌, refl, ap, ℕ, List, [], ◌∷◌, None, length, nat_lt, arith}
use Rattle.std.specs.Prelude.{is_some, slice_get}
use Rattle.std.proofs.lemmas.Bool.Decides.{nat_tests}
use Rattle.typed_tree.specs.Decoded.{TypedPart}
use Rattle.typed_tree.specs.Syntax.{Expr}
use Rattle.name_rules.specs.Attributes.{one_dimension, one_named, two_named}
use Rattle.name_rules.specs.Found.{Denoted, Found}
use Rattle.name_rules.specs.Judges.{found}
use Rattle.name_rules.specs.Judging.{fault}
use Rattle.name_rules.specs.TypedParts.{left_of, right_of}
use Rattle.name_rules.specs.declared.found.Attribute.{Attribute}
use Rattle.name_rules.specs.declared.found.Found.{Found as Known}
use Rattle.name_rules.specs.declared.log.Dimension.{Dimension}
use Rattle.name_rules.specs.declared.log.Rule.TheVariants.{WrongType}
use Rattle.name_rules.specs.declared.types.Kind.{Kind}
use Rattle.name_values.proofs.Founds.{length_founds}
use Rattle.name_values.specs.Operands.{founds}

many_dimensions : (first bracket : ℕ) (ms : TypedPart) (a : Attribute) (ds : List Dimension) (fs : List Found) → length fs ≢ 1
    → one_dimension first bracket ms a ds (None ∷ []) fs ≡ fault bracket WrongType
many_dimensions first bracket ms a ds [] h = refl
many_dimensions first bracket ms a ds (f ∷ []) h = absurd (h refl)
many_dimensions first bracket ms a ds (f ∷ g ∷ fs) h = refl

pub not_one_dimension : (first bracket : ℕ) (ms : TypedPart) (a : Attribute) (ds : List Dimension) (ks : List Known) (p : TypedPart) → length ks ≢ 1
    → one_dimension first bracket ms a ds (None ∷ []) (founds ks p) ≡ fault bracket WrongType
not_one_dimension first bracket ms a ds ks p h = many_dimensions first bracket ms a ds (founds ks p) (λ e. h (omega (arith, length_founds ks p, e)))

many_named : (bracket : ℕ) (k : Kind) (make : Expr → Denoted) (fs : List Found) → length fs ≢ 1 → one_named bracket k make None fs ≡ fault bracket WrongType
many_named bracket k make [] h = refl
many_named bracket k make (f ∷ []) h = absurd (h refl)
many_named bracket k make (f ∷ g ∷ fs) h = refl

pub not_one_named : (bracket : ℕ) (k : Kind) (make : Expr → Denoted) (ks : List Known) (p : TypedPart) → length ks ≢ 1
    → one_named bracket k make None (founds ks p) ≡ fault bracket WrongType
not_one_named bracket k make ks p h = many_named bracket k make (founds ks p) (λ e. h (omega (arith, length_founds ks p, e)))

other_named : (bracket : ℕ) (k : Kind) (make : Expr → Expr → Denoted) (fs : List Found) → length fs ≢ 2 → two_named bracket k make None fs ≡ fault bracket WrongType
other_named bracket k make [] h = refl
other_named bracket k make (f ∷ []) h = refl
other_named bracket k make (f ∷ g ∷ []) h = absurd (h refl)
other_named bracket k make (f ∷ g ∷ e ∷ fs) h = refl

pub not_two_named : (bracket : ℕ) (k : Kind) (make : Expr → Expr → Denoted) (ks : List Known) (p : TypedPart) → length ks ≢ 2
    → two_named bracket k make None (founds ks p) ≡ fault bracket WrongType
not_two_named bracket k make ks p h = other_named bracket k make (founds ks p) (λ e. h (omega (arith, length_founds ks p, e)))

pub two_found : (ks : List Known) (j k : Known) (p : TypedPart) → ks ≡ j ∷ k ∷ [] → founds ks p ≡ found j (left_of (right_of p)) ∷ found k (left_of p) ∷ []
two_found ks j k p e = ap (λ all. founds all p) e

pub has_first : (ds : List Dimension) → is_some (slice_get ds 0) ≡ nat_lt 0 (length ds)
has_first [] = refl
has_first (d ∷ ds) = grind (arith, nat_tests)
