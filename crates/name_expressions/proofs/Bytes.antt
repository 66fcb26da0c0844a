-- How bytes spell characters.
use Rattle.std.proofs.Common.{◌≡◌, refl, ℕ, zero, suc, ◌+◌, ◌-◌, ◌*◌, ◌<◌, ◌≤◌, List, [], ◌∷◌, Some, None, drop, arith}
use Rattle.std.proofs.lemmas.Bool.{lt-ltb, le-ltb}
use Rattle.std.specs.Prelude.{slice_get}
use Rattle.std.specs.Str.{chars, chars_after}

pub drop_get : (xs : List ℕ) (i x : ℕ) → slice_get xs i ≡ Some x → drop i xs ≡ x ∷ drop (i + 1) xs
drop_get [] i x e = absurd (cc)
drop_get (y ∷ xs) zero x e = cc
drop_get (y ∷ xs) (suc i) x e = let s : suc i + 1 ≡ suc (i + 1) = omega arith in rw s (drop_get xs i x e)

pub drop_none : (xs : List ℕ) (i : ℕ) → slice_get xs i ≡ None → drop i xs ≡ []
drop_none [] zero e = refl
drop_none [] (suc i) e = refl
drop_none (y ∷ xs) zero e = absurd (cc)
drop_none (y ∷ xs) (suc i) e = drop_none xs i e

-- a character whose bytes are all there
complete : (c : ℕ) (bs : List ℕ) → chars_after 0 c bs ≡ c ∷ chars bs
unfolding chars
complete c [] = refl
complete c (b ∷ bs) = refl

pub one_more : (text : List ℕ) (at b c : ℕ) → slice_get text at ≡ Some b → chars_after 1 c (drop at text) ≡ (c * 64 + (b - 128)) ∷ chars (drop (at + 1) text)
one_more text at b c e = rw (drop_get text at b e) (complete (c * 64 + (b - 128)) (drop (at + 1) text))

pub two_more : (text : List ℕ) (at b c : ℕ) → slice_get text at ≡ Some b → chars_after 2 c (drop at text) ≡ chars_after 1 (c * 64 + (b - 128)) (drop (at + 1) text)
two_more text at b c e = rw (drop_get text at b e) refl

pub three_more : (text : List ℕ) (at b c : ℕ) → slice_get text at ≡ Some b → chars_after 3 c (drop at text) ≡ chars_after 2 (c * 64 + (b - 128)) (drop (at + 1) text)
three_more text at b c e = rw (drop_get text at b e) refl

-- a text that ends within a character
pub one_lacks : (text : List ℕ) (at c : ℕ) → slice_get text at ≡ None → chars_after 1 c (drop at text) ≡ []
one_lacks text at c e = rw (drop_none text at e) refl

pub two_lack : (text : List ℕ) (at c : ℕ) → slice_get text at ≡ None → chars_after 2 c (drop at text) ≡ []
two_lack text at c e = rw (drop_none text at e) refl

pub three_lack : (text : List ℕ) (at c : ℕ) → slice_get text at ≡ None → chars_after 3 c (drop at text) ≡ []
three_lack text at c e = rw (drop_none text at e) refl

pub no_byte : (text : List ℕ) (at : ℕ) → slice_get text at ≡ None → chars (drop at text) ≡ []
unfolding chars
no_byte text at e = rw (drop_none text at e) refl

-- the first byte of a character
first_one : (b : ℕ) (bs : List ℕ) → b < 128 → chars (b ∷ bs) ≡ b ∷ chars bs
unfolding chars
first_one b bs h = rw (lt-ltb b 128 h) (complete b bs)

first_two : (b : ℕ) (bs : List ℕ) → 128 ≤ b → b < 224 → chars (b ∷ bs) ≡ chars_after 1 (b - 192) bs
unfolding chars
first_two b bs h l = rw (le-ltb b 128 h) (rw (lt-ltb b 224 l) refl)

first_three : (b : ℕ) (bs : List ℕ) → 224 ≤ b → b < 240 → chars (b ∷ bs) ≡ chars_after 2 (b - 224) bs
unfolding chars
first_three b bs h l = rw (le-ltb b 128 (omega (arith, h))) (rw (le-ltb b 224 h) (rw (lt-ltb b 240 l) refl))

first_four : (b : ℕ) (bs : List ℕ) → 240 ≤ b → chars (b ∷ bs) ≡ chars_after 3 (b - 240) bs
unfolding chars
first_four b bs h = rw (le-ltb b 128 (omega (arith, h))) (rw (le-ltb b 224 (omega (arith, h))) (rw (le-ltb b 240 h) refl))

pub of_one : (text : List ℕ) (at b : ℕ) → slice_get text at ≡ Some b → b < 128 → chars (drop at text) ≡ b ∷ chars (drop (at + 1) text)
of_one text at b e h = rw (drop_get text at b e) (first_one b (drop (at + 1) text) h)

pub of_two : (text : List ℕ) (at b : ℕ) → slice_get text at ≡ Some b → 128 ≤ b → b < 224 → chars (drop at text) ≡ chars_after 1 (b - 192) (drop (at + 1) text)
of_two text at b e h l = rw (drop_get text at b e) (first_two b (drop (at + 1) text) h l)

pub of_three : (text : List ℕ) (at b : ℕ) → slice_get text at ≡ Some b → 224 ≤ b → b < 240 → chars (drop at text) ≡ chars_after 2 (b - 224) (drop (at + 1) text)
of_three text at b e h l = rw (drop_get text at b e) (first_three b (drop (at + 1) text) h l)

pub of_four : (text : List ℕ) (at b : ℕ) → slice_get text at ≡ Some b → 240 ≤ b → chars (drop at text) ≡ chars_after 3 (b - 240) (drop (at + 1) text)
of_four text at b e h = rw (drop_get text at b e) (first_four b (drop (at + 1) text) h)
