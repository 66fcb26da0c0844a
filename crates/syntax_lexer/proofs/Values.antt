-- A value that is kept up to a limit is the value, up to that limit.
use Rattle.std.proofs.Common.{◌≡◌, ℕ, zero, suc, ◌+◌, ◌*◌, ◌^◌, ◌<◌, ◌≤◌, min, Bool, true, false, cond, ⊎_elim, List, [], ◌∷◌, refl, sym, ap, ◌∙◌, arith, zero-mul, add-zero, lit≤}
use Rattle.std.proofs.Math.Nat.{pow-zero, pow-succ', mul-one, mul_assoc, mul-le-mul, mul-le-mul_left, pow-le-pow_left, min-eq_left, min-eq_right, pow-le-pow_right, mul-le-mul_right, one-mul, le_refl}
use Rattle.std.specs.Char.{digit_value}
use Rattle.std.proofs.lemmas.Bool.{cases_lt}
use Rattle.syntax_tree.specs.Characters.{is_underscore}
use Rattle.syntax_tree.specs.Numbers.{value_after, value_of}
use Rattle.syntax_lexer.specs.Reading.{wide, limited, number_after, times, scaled}

-- the limit is reached or not whether what came before was limited or not
limit_step : (w n d base : ℕ) → 1 ≤ base → min (min n w * base + d) w ≡ min (n * base + d) w
limit_step w n d base one = ⊎_elim below above (cases_lt n w) where
  below : n < w → min (min n w * base + d) w ≡ min (n * base + d) w
  below h = ap (λ m. min (m * base + d) w) (min-eq_left (omega arith))

  above : w ≤ n → min (min n w * base + d) w ≡ min (n * base + d) w
  above h =
      let low : w * 1 ≤ w * base = mul-le-mul_left w one in
      let high : w * 1 ≤ n * base = mul-le-mul h one in
      let least : w * 1 ≡ w = mul-one w in
      ap (λ m. min (m * base + d) w) (min-eq_right h) ∙ (min-eq_right (omega arith) ∙ sym (min-eq_right (omega arith)))

pub number_after-limited : (base n : ℕ) (s : List ℕ) → 1 ≤ base → number_after base (limited n) s ≡ limited (value_after base n s)
number_after-limited base n [] one = refl
number_after-limited base n (c ∷ s) one = go (is_underscore c) (number_after-limited base n s one) (number_after-limited base (n * base + digit_value c) s one) where
  digit : number_after base (limited (limited n * base + digit_value c)) s ≡ number_after base (limited (n * base + digit_value c)) s
  digit = ap (λ m. number_after base m s) (limit_step wide n (digit_value c) base one)

  go : (b : Bool) → number_after base (limited n) s ≡ limited (value_after base n s) → number_after base (limited (n * base + digit_value c)) s ≡ limited (value_after base (n * base + digit_value c) s) → cond b (number_after base (limited n) s) (number_after base (limited (limited n * base + digit_value c)) s) ≡ limited (cond b (value_after base n s) (value_after base (n * base + digit_value c) s))
  go true same next = same
  go false same next = digit ∙ next

-- a numeral's value
pub number_of : (base : ℕ) (s : List ℕ) → 1 ≤ base → number_after base 0 s ≡ limited (value_of base s)
number_of base s one = number_after-limited base 0 s one

times-limited : (base n k : ℕ) → 1 ≤ base → times base (limited n) k ≡ limited (n * base ^ k)
times-limited base n zero one = ap limited (sym (mul-one n) ∙ ap (λ m. n * m) (sym (pow-zero base)))
times-limited base n (suc k) one =
    let step : limited (limited n * base) ≡ limited (n * base) = ap limited (sym (add-zero _)) ∙ (limit_step wide n 0 base one ∙ ap limited (add-zero _)) in
    let power : n * base * base ^ k ≡ n * base ^ suc k = mul_assoc n base (base ^ k) ∙ ap (λ m. n * m) (sym (pow-succ' base k)) in
    ap (λ m. times base m k) step ∙ (times-limited base (n * base) k one ∙ ap limited power)

-- a power of 2 or more that reaches the limit
reached : (w low base n e : ℕ) → 2 ≤ base → w ≤ 2 ^ low → low ≤ e → w ≤ suc n * base ^ e
reached w low base n e two reach above =
    let one : 2 ^ low ≤ base ^ low = pow-le-pow_left two low in
    let more : base ^ low ≤ base ^ e = pow-le-pow_right (omega arith) above in
    let times : 1 * base ^ e ≤ suc n * base ^ e = mul-le-mul_right (base ^ e) (omega arith) in
    let same : 1 * base ^ e ≡ base ^ e = one-mul (base ^ e) in
    omega arith

enough : (w low base n e : ℕ) → 2 ≤ base → w ≤ 2 ^ low → min (n * base ^ min e low) w ≡ min (n * base ^ e) w
enough w low base n e two reach = ⊎_elim below above (cases_lt e low) where
  below : e < low → min (n * base ^ min e low) w ≡ min (n * base ^ e) w
  below h = ap (λ k. min (n * base ^ k) w) (min-eq_left (omega arith))

  above : low ≤ e → min (n * base ^ min e low) w ≡ min (n * base ^ e) w
  above h = ap (λ k. min (n * base ^ k) w) (min-eq_right h) ∙ go n where
    go : (m : ℕ) → min (m * base ^ low) w ≡ min (m * base ^ e) w
    go zero = ap (λ k. min k w) (zero-mul (base ^ low) ∙ sym (zero-mul (base ^ e)))
    go (suc m) = min-eq_right (reached w low base m low two reach (le_refl low)) ∙ sym (min-eq_right (reached w low base m e two reach h))

pub scaled-limited : (base n e : ℕ) → 2 ≤ base → scaled base (limited n) (limited e) ≡ limited (n * base ^ e)
unfolding scaled
scaled-limited base n e two =
    let small : min (limited e) 128 ≡ min e 128 = omega arith in
    ap (times base (limited n)) small ∙ (times-limited base n (min e 128) (omega arith) ∙ enough wide 128 base n e two (lit≤ tt))
