-- Numbers as texts, and what `parse` makes of them.
use Rattle.std.proofs.Common.{◌≡◌, ◌∙◌, ◌≤◌, ℕ, Bool, true, false, cond, List, length, Some, None, Result, Ok, Err, refl, sym, ap, arith, true≢false, eq-eqb}
use Rattle.std.specs.Prelude.{◌≢◌, ◌&&◌, ◌==◌, MatchResult, get_or}
use Rattle.std.specs.Str.{all_ascii_digits}
use Rattle.std.specs.Str.Parse.{ParsesUnsigned, digits_value}
use Rattle.std.proofs.lemmas.Bool.{leb-true, le-leb}
use Rattle.std.proofs.lemmas.Str.Parse.{IsNumeralModel, numerals_by_value, tells_all_ascii_digits, parse_plain, digits_value_short}
use Rattle.command_words.specs.Values.{is_number, written}

own : IsNumeralModel (λ ds. all_ascii_digits ds ≡ true) (digits_value 10)
own = numerals_by_value (λ ds. all_ascii_digits ds ≡ true) tells_all_ascii_digits

pub both : (a b : Bool) → (a && b) ≡ true → (a ≡ true) × (b ≡ true)
both true b e = (refl, e)
both false b e = absurd (true≢false (sym e))

pub and : (a b : Bool) → a ≡ true → b ≡ true → (a && b) ≡ true
and true b e f = f
and false b e f = absurd (true≢false (sym e))

yes_number : (bs : List ℕ) → is_number bs ≡ true → Some (digits_value 10 bs) ≡ written bs
yes_number bs e = sym (ap (λ b. cond b (Some (digits_value 10 bs)) None) e)

pub no_number : (bs : List ℕ) → (is_number bs ≡ true → ⊥) → None ≡ written bs
no_number bs h = go (is_number bs) h
  where
    go : (b : Bool) → (b ≡ true → ⊥) → None ≡ cond b (Some (digits_value 10 bs)) None
    go true h = absurd (h refl)
    go false h = refl

pub number_is : (bs : List ℕ) → is_number bs ≡ true → (all_ascii_digits bs ≡ true) × (1 ≤ length bs) × (length bs ≤ 13)
number_is bs e =
    let p = both (all_ascii_digits bs) _ e in
    let q = both _ _ p.1 in
    (p.0, leb-true 1 (length bs) q.0, leb-true (length bs) 13 q.1)

number_from : (bs : List ℕ) → all_ascii_digits bs ≡ true → 1 ≤ length bs → length bs ≤ 13 → is_number bs ≡ true
number_from bs d some short = and (all_ascii_digits bs) _ d (and _ _ (le-leb 1 (length bs) some) (le-leb (length bs) 13 short))

differs : (n : ℕ) → (n == 43) ≡ false → n ≢ 43
differs n e is = true≢false (sym (eq-eqb n 43 is) ∙ e)

-- what `parse` says of a text that is not too long and has no plus
pub parsed : {E : Type 0} (bs : List ℕ) (r : Result ℕ E) → length bs ≤ 13 → (get_or bs 0 0 == 43) ≡ false → ParsesUnsigned 64 10 bs r
    → MatchResult r (λ n. Some n ≡ written bs) (λ _. None ≡ written bs)
parsed {E} bs (Ok n) short plain h =
    let p = parse_plain own {E = E} 64 bs (Ok n) h (differs _ plain) in
    ap Some p.1 ∙ yes_number bs (number_from bs p.0.0 p.0.1 short)
parsed {E} bs (Err e) short plain h =
    let p = parse_plain own {E = E} 64 bs (Err e) h (differs _ plain) in
    no_number bs (λ t.
    let q = number_is bs t in
    p (q.0, q.1, omega (arith, digits_value_short own bs 13 q.0 q.2)))
