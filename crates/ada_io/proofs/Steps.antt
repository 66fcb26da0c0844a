-- What a Get does with what it looks at, phase by phase.
use Rattle.std.proofs.Common.{◌≡◌, ℕ, suc, ◌+◌, ◌*◌, ◌-◌, ◌^◌, ◌<◌, ◌≤◌, min, Option, Some, None, is_some, Bool, true, false, refl, sym, ap, ◌∙◌, ◌⊎◌, inl, inr, arith, true≢false}
use Rattle.std.proofs.lemmas.Bool.{cases_lt}
use Rattle.ada_base.specs.declared.reason.Reason.TheVariants as reason
use Rattle.ada_base.specs.Input.{is_blank, is_byte, is_digit, digit_of}
use Rattle.ada_base.specs.Input as input
use Rattle.ada_io.specs.declared.phases.Phase.TheVariants.{Blanks, NeedsDigit, Digits}
use Rattle.ada_io.specs.declared.phases.Next.{Next}
use Rattle.ada_io.specs.declared.phases.Next.TheVariants.{Asks, Gives, Raises}
use Rattle.ada_io.specs.Plain.{State, asked, then, plain}
use Rattle.ada_io.specs.Phases.{needs_digit, rest, Takes}
use Rattle.ada_io.proofs.Enough.{most, Same, asked_same, asked_then, digit_same, needed_same, from_same, read_same, skip_same}

some_byte : (n : ℕ) (s : Option ℕ) → is_byte n s ≡ true → is_some s ≡ true
some_byte n None e = absurd (true≢false (sym e))
some_byte n (Some b) e = refl

some_blank : (s : Option ℕ) → is_blank s ≡ true → is_some s ≡ true
some_blank None e = absurd (true≢false (sym e))
some_blank (Some b) e = refl

some_digit : (s : Option ℕ) → is_digit s ≡ true → is_some s ≡ true
some_digit None e = absurd (true≢false (sym e))
some_digit (Some b) e = refl

-- what is kept of a number that goes on
pub same_least : (m n : ℕ) → m ≡ min n (2 ^ 32 - 1) → Same n m
same_least m n e = go (cases_lt n most)
  where
    go : (n < most) ⊎ (most ≤ n) → Same n m
    go (inl h) = inl (omega arith)
    go (inr h) = inr (h, omega arith)

pub blank_asks : (s : Option ℕ) → is_blank s ≡ true → Takes Blanks s (Asks Blanks)
blank_asks s e = (some_blank s e, record { same = λ t. go t })
  where
    go : (t : State) → rest Blanks s t ≡ then (λ v. asked v v.turns) (rest Blanks) t
    go t = rw e (asked_then t t.turns (input.skip_blanks plain t.turns) (input.number_read plain (suc t.turns))
        ∙ asked_same t t.turns _ _ (λ u v e. skip_same t.turns (suc v.turns) _ _ u v (omega arith) (omega arith) (λ x w h. read_same (suc t.turns) (suc v.turns) x w (omega arith) (omega arith))))

sign_asked : (negative : Bool) (t : State) → then (λ v. asked v v.turns) (input.number_from plain (suc t.turns) negative) t ≡ then (λ v. asked v v.turns) (rest (NeedsDigit negative 0)) t
sign_asked negative t = asked_same t t.turns _ _ (λ u v e. from_same (suc t.turns) (suc v.turns) negative u v (omega arith) (omega arith))

pub minus_asks : (s : Option ℕ) → is_blank s ≡ false → is_byte 45 s ≡ true → Takes Blanks s (Asks (NeedsDigit true 0))
minus_asks s e f = (some_byte 45 s f, record { same = λ t. rw (e, f) (sign_asked true t) })

pub plus_asks : (s : Option ℕ) → is_blank s ≡ false → is_byte 45 s ≡ false → is_byte 43 s ≡ true → Takes Blanks s (Asks (NeedsDigit false 0))
plus_asks s e f g = (some_byte 43 s g, record { same = λ t. rw (e, f, g) (sign_asked false t) })

digits_asked : (more : ℕ) (negative : Bool) (m n : ℕ) (s : Option ℕ) (t : State) → more ≡ t.turns → Same (m * 10 + digit_of s) n
    → input.digits plain (suc more) negative m s t ≡ then (λ v. asked v v.turns) (rest (Digits negative n)) t
digits_asked more negative m n s t same d = asked_same t t.turns _ _ (λ u v e. digit_same more (suc v.turns) negative (m * 10 + digit_of s) n u v (omega arith) (omega arith) d)

pub digit_asks : (negative : Bool) (m n d : ℕ) (s : Option ℕ) → is_digit s ≡ true → d ≡ digit_of s → n ≡ min (m * 10 + d) (2 ^ 32 - 1) → Takes (Digits negative m) s (Asks (Digits negative n))
digit_asks negative m n d s e f g =
    (some_digit s e, record { same = λ t. rw e (digits_asked t.turns negative m n s t refl (same_least n (m * 10 + digit_of s) (g ∙ ap (λ k. min (m * 10 + k) (2 ^ 32 - 1)) f))) })

pub needed_digit_asks : (negative : Bool) (m n d : ℕ) (s : Option ℕ) → is_digit s ≡ true → d ≡ digit_of s → n ≡ min (m * 10 + d) (2 ^ 32 - 1) → Takes (NeedsDigit negative m) s (Asks (Digits negative n))
needed_digit_asks negative m n d s e f g =
    (some_digit s e, record { same = λ t. rw e (digits_asked t.turns negative m n s t refl (same_least n (m * 10 + digit_of s) (g ∙ ap (λ k. min (m * 10 + k) (2 ^ 32 - 1)) f))) })

pub needed_digit_fails : (negative : Bool) (m : ℕ) (s : Option ℕ) → is_digit s ≡ false → Takes (NeedsDigit negative m) s (Raises reason.DataError)
needed_digit_fails negative m s e = λ t. rw e refl

pub underscore_asks : (negative : Bool) (m : ℕ) (s : Option ℕ) → is_digit s ≡ false → is_byte 95 s ≡ true → Takes (Digits negative m) s (Asks (NeedsDigit negative m))
underscore_asks negative m s e f =
    (some_byte 95 s f, record { same = λ t. rw (e, f) (asked_same t t.turns (needs_digit (suc t.turns) negative m) _ (λ u v h. needed_same (suc t.turns) (suc v.turns) negative m m u v (omega arith) (omega arith) (inl refl))) })

-- no sign is like a plus sign before
pub unsigned_takes : (s : Option ℕ) (o : Next) → is_some s ≡ true → is_blank s ≡ false → is_byte 45 s ≡ false → is_byte 43 s ≡ false → Takes (NeedsDigit false 0) s o → Takes Blanks s o
unsigned_takes s o some e f g takes = go o takes
  where
    unsigned : (s : Option ℕ) (t : State) → is_some s ≡ true → input.unsigned_number plain (suc t.turns) s t ≡ input.number_from plain (suc t.turns) false s t
    unsigned (Some b) t h = refl
    unsigned None t h = absurd (true≢false (sym h))

    same : (t : State) → rest Blanks s t ≡ rest (NeedsDigit false 0) s t
    same t = rw (e, f, g) (unsigned s t some)

    go : (o : Next) → Takes (NeedsDigit false 0) s o → Takes Blanks s o
    go (Asks later) h = (h.0, record { same = λ t. same t ∙ h.1.same t })
    go (Gives v) h = λ t. same t ∙ h t
    go (Raises r) h = λ t. same t ∙ h t
