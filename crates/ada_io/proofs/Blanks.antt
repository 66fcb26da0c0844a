-- The blanks are the white space of ASCII.
use Rattle.std.proofs.Common.{◌≡◌, ℕ, ◌||◌, nat_eq, Bool, true, false, Option, Some, refl, arith}
use Rattle.std.proofs.lemmas.Bool.Decides.{nat_tests}
use Rattle.std.specs.Char.{is_ascii_whitespace}
use Rattle.std.specs.Int.{is_in_range}
use Rattle.ada_base.specs.Input.{is_blank}

tab_or_feed : (b : ℕ) → is_in_range 9 10 b ≡ nat_eq b 9 || nat_eq b 10
tab_or_feed b = grind (arith, nat_tests)

page_or_return : (b : ℕ) → is_in_range 12 13 b ≡ nat_eq b 12 || nat_eq b 13
page_or_return b = grind (arith, nat_tests)

space : (b : ℕ) → is_in_range 32 32 b ≡ nat_eq b 32
space b = grind (arith, nat_tests)

regroup : (v w x y z : Bool) → ((v || w) || (x || y)) || z ≡ v || w || x || y || z
regroup true w x y z = refl
regroup false true x y z = refl
regroup false false true y z = refl
regroup false false false y z = refl

pub white-blank : (symbol : Option ℕ) (b : ℕ) → symbol ≡ Some b → is_ascii_whitespace b ≡ is_blank symbol
white-blank symbol b is = rw (is, tab_or_feed b, page_or_return b, space b) (regroup (nat_eq b 9) (nat_eq b 10) (nat_eq b 12) (nat_eq b 13) (nat_eq b 32))
