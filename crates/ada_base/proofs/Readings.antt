-- Two readings that are related, operation by operation, have related Gets.
use Rattle.std.proofs.Common.{ℕ, zero, suc, ◌+◌, ◌*◌, Option, Some, None, Bool, true, false, not, ◌||◌, cond}
use Rattle.ada_base.specs.declared.reason.Reason.{Reason}
use Rattle.ada_base.specs.declared.reason.Reason.TheVariants as reason
use Rattle.ada_base.specs.Input
use Rattle.ada_base.specs.Input.{Held, Nothing, Symbol, is_blank, is_byte, is_digit, digit_of, is_based, signed, is_integer, Reading}

pub record Relates {ℓ κ ν} (o : Reading {ℓ}) (q : Reading {κ}) : Type (ℓ ⊔ κ ⊔ (ν + 1) ⊔ 1) where
  pub R : {A : Type 0} → o.Doing A → q.Doing A → Type ν
  pub ret : {A : Type 0} (a : A) → R (o.ret a) (q.ret a)
  pub bind : {A B : Type 0} {m : o.Doing A} {n : q.Doing A} {k : A → o.Doing B} {l : A → q.Doing B} → R m n → ((a : A) → R (k a) (l a)) → R (o.◌>>=◌ m k) (q.◌>>=◌ n l)
  pub asks : R o.asks q.asks
  pub recalls : R o.recalls q.recalls
  pub keeps : (h : Held) → R (o.keeps h) (q.keeps h)
  pub raises : {A : Type 0} (r : Reason) → R (o.raises {A = A} r) (q.raises r)
  pub spent : {A : Type 0} → R (o.spent {A = A}) q.spent

module _ {ℓ κ ν} {o : Reading {ℓ}} {q : Reading {κ}} (rel : Relates {ℓ, κ, ν} o q) where
  open rel use {R}

  choose : {A : Type 0} (b : Bool) {m k : o.Doing A} {n l : q.Doing A} → R m n → R k l → R (cond b m k) (cond b n l)
  choose true r s = r
  choose false r s = s

  pub firsts : (h : Held) → R (Input.first_symbol o h) (Input.first_symbol q h)
  firsts Nothing = rel.asks
  firsts (Symbol s) = rel.ret s

  pub skips : (more : ℕ) (s : Option ℕ) → R (Input.skip_blanks o more s) (Input.skip_blanks q more s)
  skips zero s = rel.spent
  skips (suc more) s = choose (is_blank s) (rel.bind rel.asks (λ t. skips more t)) (rel.ret s)

  pub fails : {A : Type 0} (s : Option ℕ) (r : Reason) → R (Input.fails_at o {A = A} s r) (Input.fails_at q s r)
  fails s r = rel.bind (rel.keeps (Symbol s)) (λ _. rel.raises r)

  pub ends : (negative : Bool) (n : ℕ) (s : Option ℕ) → R (Input.number_ends o negative n s) (Input.number_ends q negative n s)
  ends negative n s = choose (is_based s || not (is_integer (signed negative n))) (fails s reason.DataError) (rel.bind (rel.keeps (Symbol s)) (λ _. rel.ret (signed negative n)))

  pub digit_run : (more : ℕ) (negative : Bool) (n : ℕ) (s : Option ℕ) → R (Input.digits o more negative n s) (Input.digits q more negative n s)
  digit_run zero negative n s = rel.spent
  digit_run (suc more) negative n s =
      rel.bind rel.asks (λ t. choose (is_digit t) (digit_run more negative (n * 10 + digit_of s) t)
      (choose (is_byte 95 t) (rel.bind rel.asks (λ u. choose (is_digit u) (digit_run more negative (n * 10 + digit_of s) u) (fails u reason.DataError)))
      (ends negative (n * 10 + digit_of s) t)))

  pub number_start : (more : ℕ) (negative : Bool) (s : Option ℕ) → R (Input.number_from o more negative s) (Input.number_from q more negative s)
  number_start more negative s = choose (is_digit s) (digit_run more negative 0 s) (fails s reason.DataError)

  pub unsigned : (more : ℕ) (s : Option ℕ) → R (Input.unsigned_number o more s) (Input.unsigned_number q more s)
  unsigned more None = fails None reason.EndError
  unsigned more (Some b) = number_start more false (Some b)

  pub numbers : (more : ℕ) (s : Option ℕ) → R (Input.number_read o more s) (Input.number_read q more s)
  numbers more s =
      choose (is_byte 45 s) (rel.bind rel.asks (λ t. number_start more true t))
      (choose (is_byte 43 s) (rel.bind rel.asks (λ t. number_start more false t)) (unsigned more s))

  -- the law
  pub gets : (limit : ℕ) → R (Input.got o limit) (Input.got q limit)
  gets limit = rel.bind rel.recalls (λ h. rel.bind (firsts h) (λ s. rel.bind (skips (suc limit) s) (λ t. numbers (suc limit) t)))
