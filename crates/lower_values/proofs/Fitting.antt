-- What is lost on the way, and why.
use Rattle.std.proofs.Common.{◌≡◌, refl, sym, ap, ◌∙◌, ℕ, suc, ◌+◌, ◌<◌, Bool, true, false, List, [], ◌∷◌, length, arith}
use Rattle.std.specs.Prelude.{◌&&◌, IsTrue, nat_lt}
use Rattle.std.proofs.lemmas.Bool.{lt-ltb, ltb-true, false≢true}
use Rattle.stack_code.specs.declared.instr.Instr.{Instr}
use Rattle.stack_code.specs.declared.instr.Instr.TheVariants.{Jump}
use Rattle.lower_emission.specs.declared.types.Mark.{Mark}
use Rattle.lower_emission.specs.declared.types.Placed.{Placed}
use Rattle.lower_emission.specs.Emits.{gap, put}
use Rattle.lower_values.specs.declared.types.Emitter.{Emitter}
use Rattle.lower_values.specs.Words.{Fits, is_narrow}

and_true : (b : Bool) → b ≡ (b && true)
and_true true = refl
and_true false = refl

and_false : (b : Bool) → false ≡ (b && false)
and_false true = refl
and_false false = refl

and_before : (w a b c : Bool) → ((w && a) ≡ true → b ≡ c) → ((w && a) && b) ≡ (w && (a && c))
and_before true true b c e = e refl
and_before true false b c e = refl
and_before false a b c e = refl

-- nothing was lost, or the code was, and memory isn't short
pub fits_kept : (b : Bool) (x y : Emitter) → y.short ≡ x.short → y.whole ≡ x.whole → b ≡ true → Fits b x y
fits_kept b x y e f h = record { fits = λ g. (sym e ∙ g, f ∙ (and_true x.whole ∙ ap (λ c. x.whole && c) (sym h))) }

pub fits_lost : (b : Bool) (x y : Emitter) → y.short ≡ x.short → y.whole ≡ false → b ≡ false → Fits b x y
fits_lost b x y e f h = record { fits = λ g. (sym e ∙ g, f ∙ (and_false x.whole ∙ ap (λ c. x.whole && c) (sym h))) }

pub fits_short : (b : Bool) (x y : Emitter) → y.short ≡ true → Fits b x y
fits_short b x y e = record { fits = λ g. absurd (false≢true (sym g ∙ e)) }

-- ---- one after the other

pub fits_next : {a b c : Bool} {x y z : Emitter} → Fits a x y → (IsTrue y.whole → b ≡ c) → Fits b y z → Fits (a && c) x z
fits_next {a = a} {b = b} {c = c} {x = x} {y = y} {z = z} f e g = record { fits = λ s. let k = g.fits s in let j = f.fits k.0 in (j.0, k.1 ∙ (ap (λ w. w && b) j.1 ∙ and_before x.whole a b c (λ t. e (j.1 ∙ t)))) }

pub fits_both : {a b : Bool} {x y z : Emitter} → Fits a x y → Fits b y z → Fits (a && b) x z
fits_both f g = fits_next f (λ t. refl) g

pub fits_then : {a : Bool} {x y z : Emitter} → Fits a x y → Fits true y z → Fits a x z
fits_then {a = true} f g = fits_both f g
fits_then {a = false} f g = fits_both f g

-- ---- numbers one above the other

below_true : (l n m : ℕ) → nat_lt (n + m) l ≡ true → nat_lt m l ≡ true
below_true l n m e = let p : n + m < l = ltb-true (n + m) l e in lt-ltb m l (omega (arith, p))

below_both : (l n m : ℕ) → (nat_lt m l && nat_lt (n + m) l) ≡ nat_lt (n + m) l
below_both l n m = by (nat_lt (n + m) l) refl
  where
    by : (b : Bool) → nat_lt (n + m) l ≡ b → (nat_lt m l && nat_lt (n + m) l) ≡ nat_lt (n + m) l
    by true e = ap (λ c. c && nat_lt (n + m) l) (below_true l n m e)
    by false e = ap (λ c. nat_lt m l && c) e ∙ (sym (and_false (nat_lt m l)) ∙ sym e)

one_before : (n : ℕ) → 1 + n ≡ n + 1
one_before n = omega arith

two_before : (n : ℕ) → 1 + (n + 1) ≡ n + 2
two_before n = omega arith

narrow_one : (n : ℕ) → (is_narrow n && is_narrow (n + 1)) ≡ is_narrow (n + 1)
narrow_one n = ap (λ m. is_narrow n && is_narrow m) (sym (one_before n)) ∙ (below_both 4294967296 1 n ∙ ap is_narrow (one_before n))

narrow_two : (n : ℕ) → (is_narrow (n + 1) && is_narrow (n + 2)) ≡ is_narrow (n + 2)
narrow_two n = ap (λ m. is_narrow (n + 1) && is_narrow m) (sym (two_before n)) ∙ (below_both 4294967296 1 (n + 1) ∙ ap is_narrow (two_before n))

fits_as : {a b : Bool} {x y : Emitter} → a ≡ b → Fits a x y → Fits b x y
fits_as {x = x} e f = record { fits = λ s. let k = f.fits s in (k.0, k.1 ∙ ap (λ c. x.whole && c) e) }

pub fits_operate : (h : ℕ) {x y z w : Emitter} → Fits true x y → Fits (is_narrow (h + 1)) y z → Fits (is_narrow (h + 2)) z w → Fits (is_narrow (h + 2)) x w
fits_operate h f g k = fits_as (narrow_two h) (fits_both (fits_both f g) k)

pub fits_total : (l n k r : ℕ) {x y z : Emitter} → Fits (nat_lt k l) x y → (IsTrue y.whole → r ≡ k) → Fits (nat_lt (n + r) l) y z → Fits (nat_lt (n + k) l) x z
fits_total l n k r f e g = fits_as (below_both l n k) (fits_next f (λ t. ap (λ m. nat_lt (n + m) l) (e t)) g)

-- ---- lengths

counted : (n : ℕ) → suc (n + 1) ≡ suc n + 1
counted n = omega arith

length_put : (m : Mark) (h : ℕ) (i : Instr) (c : List Placed) → length (put m h i c) ≡ length c + 1
length_put m h i [] = refl
length_put m h i (p ∷ c) = ap suc (length_put m h i c) ∙ counted (length c)

pub fits_aim : (at : ℕ) {a : Bool} {x y z : Emitter} → Fits a x y → (IsTrue y.whole → y.code ≡ x.code) → Fits (nat_lt at (length y.code)) y z → Fits (a && nat_lt at (length x.code)) x z
fits_aim at f e g = fits_next f (λ t. ap (λ c. nat_lt at (length c)) (e t)) g

pub fits_begin : (m : Mark) (h : ℕ) {x y z w v : Emitter} → Fits (is_narrow (length x.code)) x y → (IsTrue y.whole → y.code ≡ gap m h x.code)
    → Fits (is_narrow (length y.code)) y z → (IsTrue z.whole → IsTrue y.whole × (z.code ≡ gap m h y.code)) → Fits (is_narrow (length z.code)) z w → Fits true w v
    → Fits (is_narrow (length x.code + 2)) x v
fits_begin m h {x = x} {y = y} {z = z} f a g b k l = fits_as (ap (λ c. c && is_narrow (length x.code + 2)) (narrow_one (length x.code)) ∙ narrow_two (length x.code)) (fits_then (fits_next (fits_next f (λ t. ap is_narrow (first t)) g) (λ t. ap is_narrow (second t)) k) l)
  where
    first : IsTrue y.whole → length y.code ≡ length x.code + 1
    first t = ap length (a t) ∙ length_put m h (Jump 0) x.code

    two : (n : ℕ) → n + 1 + 1 ≡ n + 2
    two n = omega arith

    second : IsTrue z.whole → length z.code ≡ length x.code + 2
    second t = ap length (b t).1 ∙ (length_put m h (Jump 0) y.code ∙ (ap (λ n. n + 1) (first (b t).0) ∙ two (length x.code)))
