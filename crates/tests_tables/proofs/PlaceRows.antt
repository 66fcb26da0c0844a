-- Places in a text: its bytes, the number of a byte, and the place. A carriage return and the characters 16#85# and 16#2028# end no line.
use Rattle.std.proofs.Common.{◌≡◌, ℕ, List, [], ◌∷◌, refl, map}
use Rattle.ada_base.specs.declared.place.Place.{Place}
use Rattle.std.specs.Str.{chars}
use Rattle.ada_base.specs.Place.{place_at}

data Row : Type 0 where
  row : List ℕ → ℕ → Place → Row

abbrev wanted : Row → Place
wanted (row text at want) = want

abbrev found : Row → Place
found (row text at want) = place_at text at

abbrev rows : List Row
rows =
    -- ""
    row ([]) 0 (record { line = 1; column = 1 }) ∷
    -- "a\tb"
    row (97 ∷ 9 ∷ 98 ∷ []) 2 (record { line = 1; column = 3 }) ∷
    -- "a\rb"
    row (97 ∷ 13 ∷ 98 ∷ []) 2 (record { line = 1; column = 3 }) ∷
    -- "a\r\nb"
    row (97 ∷ 13 ∷ 10 ∷ 98 ∷ []) 2 (record { line = 1; column = 3 }) ∷
    -- "a\r\nb"
    row (97 ∷ 13 ∷ 10 ∷ 98 ∷ []) 3 (record { line = 2; column = 1 }) ∷
    -- "\n\n"
    row (10 ∷ 10 ∷ []) 1 (record { line = 2; column = 1 }) ∷
    -- "\n\n"
    row (10 ∷ 10 ∷ []) 2 (record { line = 3; column = 1 }) ∷
    -- "é=x"
    row (195 ∷ 169 ∷ 61 ∷ 120 ∷ []) 2 (record { line = 1; column = 2 }) ∷
    -- "é=x"
    row (195 ∷ 169 ∷ 61 ∷ 120 ∷ []) 3 (record { line = 1; column = 3 }) ∷
    -- "αβγ\nδε"
    row (206 ∷ 177 ∷ 206 ∷ 178 ∷ 206 ∷ 179 ∷ 10 ∷ 206 ∷ 180 ∷ 206 ∷ 181 ∷ []) 7 (record { line = 2; column = 1 }) ∷
    -- "αβγ\nδε"
    row (206 ∷ 177 ∷ 206 ∷ 178 ∷ 206 ∷ 179 ∷ 10 ∷ 206 ∷ 180 ∷ 206 ∷ 181 ∷ []) 9 (record { line = 2; column = 2 }) ∷
    -- "αβγ\nδε"
    row (206 ∷ 177 ∷ 206 ∷ 178 ∷ 206 ∷ 179 ∷ 10 ∷ 206 ∷ 180 ∷ 206 ∷ 181 ∷ []) 11 (record { line = 2; column = 3 }) ∷
    -- "e\u0301x"
    row (101 ∷ 204 ∷ 129 ∷ 120 ∷ []) 3 (record { line = 1; column = 3 }) ∷
    -- "\U0001d538b"
    row (240 ∷ 157 ∷ 148 ∷ 184 ∷ 98 ∷ []) 4 (record { line = 1; column = 2 }) ∷
    -- "x\x85y"
    row (120 ∷ 194 ∷ 133 ∷ 121 ∷ []) 3 (record { line = 1; column = 3 }) ∷
    -- "x\u2028y"
    row (120 ∷ 226 ∷ 128 ∷ 168 ∷ 121 ∷ []) 4 (record { line = 1; column = 3 }) ∷ []

places : map found rows ≡ map wanted rows
unfolding chars
places = refl
