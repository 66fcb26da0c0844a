-- Images (4.10), and numbers in a field (A.10.8).
use Rattle.std.proofs.Common.{◌≡◌, ℕ, List, [], ◌∷◌, ℤ, pos, negsuc, refl, map}
use Rattle.std.specs.Fmt.{digits}
use Rattle.ada_base.specs.Image.{image, padded}

data Row : Type 0 where
  row : ℤ → ℕ → List ℕ → Row

abbrev wanted : Row → List ℕ
wanted (row value width want) = want

abbrev with_image : Row → List ℕ
with_image (row value width want) = image value

abbrev in_field : Row → List ℕ
in_field (row value width want) = padded value width

abbrev images : List Row
images =
    -- " 0"
    row (pos 0) 0 (32 ∷ 48 ∷ []) ∷
    -- " 5"
    row (pos 5) 0 (32 ∷ 53 ∷ []) ∷
    -- "-1"
    row (negsuc 0) 0 (45 ∷ 49 ∷ []) ∷
    -- " 2147483647"
    row (pos 2147483647) 0 (32 ∷ 50 ∷ 49 ∷ 52 ∷ 55 ∷ 52 ∷ 56 ∷ 51 ∷ 54 ∷ 52 ∷ 55 ∷ []) ∷
    -- " 9223372036854775807"
    row (pos 9223372036854775807) 0 (32 ∷ 57 ∷ 50 ∷ 50 ∷ 51 ∷ 51 ∷ 55 ∷ 50 ∷ 48 ∷ 51 ∷ 54 ∷ 56 ∷ 53 ∷ 52 ∷ 55 ∷ 55 ∷ 53 ∷ 56 ∷ 48 ∷ 55 ∷ []) ∷
    -- "-9223372036854775808"
    row (negsuc 9223372036854775807) 0 (45 ∷ 57 ∷ 50 ∷ 50 ∷ 51 ∷ 51 ∷ 55 ∷ 50 ∷ 48 ∷ 51 ∷ 54 ∷ 56 ∷ 53 ∷ 52 ∷ 55 ∷ 55 ∷ 53 ∷ 56 ∷ 48 ∷ 56 ∷ []) ∷ []

each_image : map with_image images ≡ map wanted images
unfolding digits
each_image = refl

abbrev fields : List Row
fields =
    -- "         -7" in 11
    row (negsuc 6) 11 (32 ∷ 32 ∷ 32 ∷ 32 ∷ 32 ∷ 32 ∷ 32 ∷ 32 ∷ 32 ∷ 45 ∷ 55 ∷ []) ∷
    -- "42" in 1
    row (pos 42) 1 (52 ∷ 50 ∷ []) ∷
    -- "42" in 0
    row (pos 42) 0 (52 ∷ 50 ∷ []) ∷
    -- "42" in 2
    row (pos 42) 2 (52 ∷ 50 ∷ []) ∷
    -- " 42" in 3
    row (pos 42) 3 (32 ∷ 52 ∷ 50 ∷ []) ∷
    -- "-42" in 3
    row (negsuc 41) 3 (45 ∷ 52 ∷ 50 ∷ []) ∷
    -- "0" in 1
    row (pos 0) 1 (48 ∷ []) ∷
    -- "  -9223372036854775808" in 22
    row (negsuc 9223372036854775807) 22 (32 ∷ 32 ∷ 45 ∷ 57 ∷ 50 ∷ 50 ∷ 51 ∷ 51 ∷ 55 ∷ 50 ∷ 48 ∷ 51 ∷ 54 ∷ 56 ∷ 53 ∷ 52 ∷ 55 ∷ 55 ∷ 53 ∷ 56 ∷ 48 ∷ 56 ∷ []) ∷ []

each_field : map in_field fields ≡ map wanted fields
unfolding digits
each_field = refl
