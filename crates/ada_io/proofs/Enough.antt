-- Where so many turns are left, no more bounds the loops of a Get; and digits that are too many stay so.
use Rattle.std.proofs.Common.{◌≡◌, ℕ, zero, suc, ◌+◌, ◌*◌, ◌<◌, ◌≤◌, Option, Some, None, Ok, Bool, true, false, ◌||◌, cond, ℤ, refl, sym, ap, ◌∙◌, ◌⊎◌, inl, inr, arith}
use Rattle.std.proofs.lemmas.Bool.Decides.{nat_tests}
use Rattle.ada_base.specs.declared.reason.Reason.TheVariants as reason
use Rattle.ada_base.specs.Input.{Held, Nothing, Symbol, is_blank, is_byte, is_digit, digit_of, is_based, is_integer, signed}
use Rattle.ada_base.specs.Input as input
use Rattle.ada_io.specs.Plain.{Feed, Byte, End, Fault, State, After, at, Doing, next, given, asked, then, plain}
use Rattle.ada_io.specs.Phases.{after_digit, needs_digit}

-- a turn less is below a bound that is less by one
pub below : {turns left more : ℕ} → suc left ≡ turns → turns < suc more → left < more
below e h = omega arith

-- and below the same bound
pub below_still : {turns left more : ℕ} → suc left ≡ turns → turns < more → left < more
below_still e h = omega arith

-- no bound is below 0
none_below : {turns : ℕ} → turns < 0 → ⊥
none_below h = omega arith

-- after an asking there is a turn less
pub asked_same : {A : Type 0} (t : State) (n : ℕ) (k l : Option ℕ → Doing A) → ((u : Option ℕ) (s : State) → suc s.turns ≡ n → k u s ≡ l u s)
    → next (asked t n).state (asked t n).answer k ≡ next (asked t n).state (asked t n).answer l
asked_same t zero k l same = refl
asked_same {A} t (suc n) k l same = go t.feed
  where
    go : (feed : Feed) → let r = given (record t { turns = n }) feed in ◌≡◌ {A = After A} (next r.state r.answer k) (next r.state r.answer l)
    go (Byte b more) = same (Some b) _ refl
    go End = same None _ refl
    go Fault = refl

-- what is done after what was done after an asking
pub asked_then : {A B : Type 0} (t : State) (n : ℕ) (k : Option ℕ → Doing A) (l : A → Doing B)
    → (let r = next (asked t n).state (asked t n).answer k in next r.state r.answer l) ≡ next (asked t n).state (asked t n).answer (λ u. then (k u) l)
asked_then t zero k l = refl
asked_then {A} {B} t (suc n) k l = go t.feed
  where
    go : (feed : Feed) → let q = given (record t { turns = n }) feed in let r = next q.state q.answer k in ◌≡◌ {A = After B} (next r.state r.answer l) (next q.state q.answer (λ u. then (k u) l))
    go (Byte b more) = refl
    go End = refl
    go Fault = refl

pub cond_same : {A : Type 0} (b : Bool) (p q k l : Doing A) (t : State) → p t ≡ k t → q t ≡ l t → cond b p q t ≡ cond b k l t
cond_same true p q k l t d e = d
cond_same false p q k l t d e = e

-- ---- magnitudes that mean the same: equal ones, and those outside Integer

abbrev pub most : ℕ
most = 4294967295

abbrev pub Same : ℕ → ℕ → Type 0
Same m n = (m ≡ n) ⊎ ((most ≤ m) × (most ≤ n))

pub same_digit : (m n d : ℕ) → Same m n → Same (m * 10 + d) (n * 10 + d)
same_digit m n d (inl e) = inl (ap (λ k. k * 10 + d) e)
same_digit m n d (inr (a, b)) = inr (omega arith, omega arith)

outside : (negative : Bool) (m : ℕ) → most ≤ m → is_integer (signed negative m) ≡ false
outside true zero a = absurd (omega arith)
outside true (suc m) a = grind (arith, nat_tests)
outside false m a = grind (arith, nat_tests)

or_true : (b : Bool) → (b || true) ≡ true
or_true true = refl
or_true false = refl

pub ends_same : (negative : Bool) (m n : ℕ) (s : Option ℕ) (t : State) → Same m n → input.number_ends plain negative m s t ≡ input.number_ends plain negative n s t
ends_same negative m n s t (inl e) = ap (λ k. input.number_ends plain negative k s t) e
ends_same negative m n s t (inr (a, b)) = fails m a ∙ sym (fails n b)
  where
    fails : (k : ℕ) → most ≤ k → input.number_ends plain negative k s t ≡ input.fails_at plain s reason.DataError t
    fails k h = rw (outside negative k h) (rw (or_true (is_based s)) refl)

-- ---- digits

pub digits_same : (more less : ℕ) (negative : Bool) (m n : ℕ) (s : Option ℕ) (t : State) → t.turns < more → t.turns < less → Same m n → input.digits plain more negative m s t ≡ input.digits plain less negative n s t
digits_same zero less negative m n s t a b same = absurd (none_below a)
digits_same (suc more) zero negative m n s t a b same = absurd (none_below b)
digits_same (suc more) (suc less) negative m n s t a b same =
    let so = same_digit m n (digit_of s) same in
    asked_same t t.turns (after_digit more negative (m * 10 + digit_of s)) (after_digit less negative (n * 10 + digit_of s))
    (λ u v e. cond_same (is_digit u) _ _ _ _ v (digits_same more less negative _ _ u v (below e a) (below e b) so)
    (cond_same (is_byte 95 u) _ _ _ _ v
    (asked_same v v.turns (needs_digit more negative (m * 10 + digit_of s)) (needs_digit less negative (n * 10 + digit_of s))
    (λ x w f. cond_same (is_digit x) _ _ _ _ w (digits_same more less negative _ _ x w (below f (below_still e a)) (below f (below_still e b)) so) refl))
    (ends_same negative _ _ u v so)))

pub needed_same : (more less : ℕ) (negative : Bool) (m n : ℕ) (s : Option ℕ) (t : State) → t.turns < more → t.turns < less → Same m n → needs_digit more negative m s t ≡ needs_digit less negative n s t
needed_same more less negative m n s t a b same = cond_same (is_digit s) _ _ _ _ t (digits_same more less negative m n s t a b same) refl

pub digit_same : (more less : ℕ) (negative : Bool) (m n : ℕ) (s : Option ℕ) (t : State) → t.turns < more → t.turns < less → Same m n → after_digit more negative m s t ≡ after_digit less negative n s t
digit_same more less negative m n s t a b same =
    cond_same (is_digit s) _ _ _ _ t (digits_same more less negative m n s t a b same)
    (cond_same (is_byte 95 s) _ _ _ _ t
    (asked_same t t.turns (needs_digit more negative m) (needs_digit less negative n) (λ u v e. needed_same more less negative m n u v (below_still e a) (below_still e b) same))
    (ends_same negative m n s t same))

-- ---- all of a number, blanks

pub from_same : (more less : ℕ) (negative : Bool) (s : Option ℕ) (t : State) → t.turns < more → t.turns < less → input.number_from plain more negative s t ≡ input.number_from plain less negative s t
from_same more less negative s t a b = cond_same (is_digit s) _ _ _ _ t (digits_same more less negative 0 0 s t a b (inl refl)) refl

unsigned_same : (more less : ℕ) (s : Option ℕ) (t : State) → t.turns < more → t.turns < less → input.unsigned_number plain more s t ≡ input.unsigned_number plain less s t
unsigned_same more less None t a b = refl
unsigned_same more less (Some c) t a b = from_same more less false (Some c) t a b

pub read_same : (more less : ℕ) (s : Option ℕ) (t : State) → t.turns < more → t.turns < less → input.number_read plain more s t ≡ input.number_read plain less s t
read_same more less s t a b =
    cond_same (is_byte 45 s) _ _ _ _ t
    (asked_same t t.turns (input.number_from plain more true) (input.number_from plain less true) (λ u v e. from_same more less true u v (below_still e a) (below_still e b)))
    (cond_same (is_byte 43 s) _ _ _ _ t
    (asked_same t t.turns (input.number_from plain more false) (input.number_from plain less false) (λ u v e. from_same more less false u v (below_still e a) (below_still e b)))
    (unsigned_same more less s t a b))

pub skip_same : (more less : ℕ) (k l : Option ℕ → Doing ℤ) (s : Option ℕ) (t : State) → t.turns < more → t.turns < less → ((u : Option ℕ) (v : State) → v.turns ≤ t.turns → k u v ≡ l u v)
    → then (input.skip_blanks plain more s) k t ≡ then (input.skip_blanks plain less s) l t
skip_same zero less k l s t a b same = absurd (none_below a)
skip_same (suc more) zero k l s t a b same = absurd (none_below b)
skip_same (suc more) (suc less) k l s t a b same =
    go (is_blank s) (λ u v e. skip_same more less k l u v (below e a) (below e b) (λ x y h. same x y (omega arith)))
  where
    go : (blank : Bool) → ((u : Option ℕ) (v : State) → suc v.turns ≡ t.turns → then (input.skip_blanks plain more u) k v ≡ then (input.skip_blanks plain less u) l v)
        → then (cond blank (then (λ v. asked v v.turns) (input.skip_blanks plain more)) (λ v. at v (Ok s))) k t ≡ then (cond blank (then (λ v. asked v v.turns) (input.skip_blanks plain less)) (λ v. at v (Ok s))) l t
    go true later =
        asked_then t t.turns (input.skip_blanks plain more) k
        ∙ asked_same t t.turns (λ u. then (input.skip_blanks plain more u) k) (λ u. then (input.skip_blanks plain less u) l) later
        ∙ sym (asked_then t t.turns (input.skip_blanks plain less) l)
    go false later = same s t (omega arith)

-- the law: a bound that is at least the turns that are left makes no difference; run_store cites it
pub enough : (limit : ℕ) (t : State) → t.turns ≤ limit → input.got plain limit t ≡ input.got plain t.turns t
enough limit t h = go t.held
  where
    skips : (s : Option ℕ) (v : State) → v.turns ≤ t.turns → then (input.skip_blanks plain (suc limit) s) (input.number_read plain (suc limit)) v ≡ then (input.skip_blanks plain (suc t.turns) s) (input.number_read plain (suc t.turns)) v
    skips s v a = skip_same (suc limit) (suc t.turns) _ _ s v (omega arith) (omega arith) (λ u w b. read_same (suc limit) (suc t.turns) u w (omega arith) (omega arith))

    go : (held : Held) → then (input.first_symbol plain held) (λ s. then (input.skip_blanks plain (suc limit) s) (input.number_read plain (suc limit))) t ≡ then (input.first_symbol plain held) (λ s. then (input.skip_blanks plain (suc t.turns) s) (input.number_read plain (suc t.turns))) t
    go Nothing = asked_same t t.turns _ _ (λ u v e. skips u v (omega arith))
    go (Symbol s) = skips s t (omega arith)
