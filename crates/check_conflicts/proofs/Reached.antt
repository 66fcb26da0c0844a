-- At which tokens subprograms are reached: at that of a call that leads there, and at no token after the least.
use Rattle.std.proofs.Common.{◌≡◌, ◌<◌, ◌≤◌, ℕ, zero, suc, List, [], ◌∷◌, length, replicate, slice_get, slice_set, Option, Some, None, inl, inr, ◌⊎◌, ⊎_elim, cond, nat_eq, refl, sym, ap, subst, ◌∙◌, arith, le_trans, length-set}
use Rattle.std.proofs.lemmas.List.{length-replicate}
use Rattle.std.proofs.lemmas.Bool.{cases_eq, cond_both}
use Rattle.std.proofs.lemmas.Bool.Decides.{nat_tests}
use Rattle.check_clashes.specs.declared.effects.Call.{Call}
use Rattle.check_clashes.specs.declared.effects.Uses.{Uses}
use Rattle.check_inference.specs.Exact.{IsIn}
use Rattle.check_clashes.specs.Called.{least_token, lowered, with_calls, spread, spread_of, spread_all, reached}

-- ---- lists

get_same : {X : Type 0} (xs : List X) (s : ℕ) (x y : X) → slice_get xs s ≡ Some x → slice_get (slice_set xs s y) s ≡ Some y
get_same [] s x y e = cc
get_same (z ∷ xs) zero x y e = refl
get_same (z ∷ xs) (suc s) x y e = get_same xs s x y e

get_other : {X : Type 0} (xs : List X) (s u : ℕ) (y : X) → (u ≡ s → ⊥) → slice_get (slice_set xs s y) u ≡ slice_get xs u
get_other [] s u y n = refl
get_other (z ∷ xs) zero zero y n = absurd (n refl)
get_other (z ∷ xs) zero (suc u) y n = refl
get_other (z ∷ xs) (suc s) zero y n = refl
get_other (z ∷ xs) (suc s) (suc u) y n = get_other xs s u y (λ e. n (ap suc e))

pub cases_get : {X : Type 0} (xs : List X) (s : ℕ) → (slice_get xs s ≡ None) ⊎ ((x : X) × (slice_get xs s ≡ Some x))
cases_get [] s = inl refl
cases_get (x ∷ xs) zero = inr (x, refl)
cases_get (x ∷ xs) (suc s) = cases_get xs s

pub get_within : {X : Type 0} (xs : List X) (s : ℕ) → s < length xs → (x : X) × (slice_get xs s ≡ Some x)
get_within [] s h = absurd (omega arith)
get_within (x ∷ xs) zero h = (x, refl)
get_within (x ∷ xs) (suc s) h = get_within xs s (omega arith)

pub within_get : {X : Type 0} (xs : List X) (s : ℕ) (x : X) → slice_get xs s ≡ Some x → s < length xs
within_get [] s x e = cc
within_get (y ∷ xs) zero x e = omega arith
within_get (y ∷ xs) (suc s) x e = let h = within_get xs s x e in omega arith

none_replicated : (n s t : ℕ) → slice_get (replicate n None) s ≡ Some (Some t) → ⊥
none_replicated zero s t e = cc
none_replicated (suc n) zero t e = cc
none_replicated (suc n) (suc s) t e = none_replicated n s t e

-- ---- one call

least_low : (o : Option ℕ) (at : ℕ) → least_token o at ≤ at
least_low None at = omega arith
least_low (Some t) at = grind (arith, nat_tests)

least_kept : (t at : ℕ) → least_token (Some t) at ≤ t
least_kept t at = grind (arith, nat_tests)

least_same : (t at : ℕ) → t ≤ at → least_token (Some t) at ≡ t
least_same t at h = grind (arith, nat_tests)

-- reached at a token no later than that
pub record AtMost (tokens : List (Option ℕ)) (u t : ℕ) : Type 0 where
  pub token : ℕ
  pub is : slice_get tokens u ≡ Some (Some token)
  pub low : token ≤ t

pub less : (tokens : List (Option ℕ)) (u s t : ℕ) → s ≤ t → AtMost tokens u s → AtMost tokens u t
less tokens u s t h a = record { token = a.token; is = a.is; low = le_trans a.low h }

-- all tokens are told of
abbrev pub Justified : (ℕ → ℕ → Type 0) → List (Option ℕ) → Type 0
Justified P tokens = (u t : ℕ) → slice_get tokens u ≡ Some (Some t) → P u t

lowered_none : (tokens : List (Option ℕ)) (s at : ℕ) → slice_get tokens s ≡ None → lowered tokens s at ≡ tokens
lowered_none tokens s at e = rw e refl

lowered_some : (tokens : List (Option ℕ)) (s at : ℕ) (o : Option ℕ) → slice_get tokens s ≡ Some o → lowered tokens s at ≡ slice_set tokens s (Some (least_token o at))
lowered_some tokens s at o e = rw e refl

lowered_length : (tokens : List (Option ℕ)) (s at : ℕ) → length (lowered tokens s at) ≡ length tokens
lowered_length tokens s at = ⊎_elim (λ e. ap length (lowered_none tokens s at e)) (λ h. ap length (lowered_some tokens s at h.0 h.1) ∙ length-set tokens s (Some (least_token h.0 at))) (cases_get tokens s)

lowered_at : (tokens : List (Option ℕ)) (s at : ℕ) (o : Option ℕ) → slice_get tokens s ≡ Some o → slice_get (lowered tokens s at) s ≡ Some (Some (least_token o at))
lowered_at tokens s at o e = ap (λ x. slice_get x s) (lowered_some tokens s at o e) ∙ get_same tokens s o (Some (least_token o at)) e

lowered_other : (tokens : List (Option ℕ)) (s at u : ℕ) → (u ≡ s → ⊥) → slice_get (lowered tokens s at) u ≡ slice_get tokens u
lowered_other tokens s at u n = ⊎_elim (λ e. ap (λ x. slice_get x u) (lowered_none tokens s at e)) (λ h. ap (λ x. slice_get x u) (lowered_some tokens s at h.0 h.1) ∙ get_other tokens s u (Some (least_token h.0 at)) n) (cases_get tokens s)

lowered_low : (tokens : List (Option ℕ)) (s at : ℕ) → s < length tokens → AtMost (lowered tokens s at) s at
lowered_low tokens s at h = let g = get_within tokens s h in record { token = least_token g.0 at; is = lowered_at tokens s at g.0 g.1; low = least_low g.0 at }

lowered_here : (tokens : List (Option ℕ)) (s at t : ℕ) → AtMost tokens s t → AtMost (lowered tokens s at) s t
lowered_here tokens s at t a = record { token = least_token (Some a.token) at; is = lowered_at tokens s at (Some a.token) a.is; low = le_trans (least_kept a.token at) a.low }

lowered_there : (tokens : List (Option ℕ)) (s at u t : ℕ) → (u ≡ s → ⊥) → AtMost tokens u t → AtMost (lowered tokens s at) u t
lowered_there tokens s at u t n a = record { token = a.token; is = lowered_other tokens s at u n ∙ a.is; low = a.low }

lowered_keeps : (tokens : List (Option ℕ)) (s at u t : ℕ) → AtMost tokens u t → AtMost (lowered tokens s at) u t
lowered_keeps tokens s at u t a = ⊎_elim
    (λ e. subst (λ z. AtMost (lowered tokens s at) z t) (sym e) (lowered_here tokens s at t (subst (λ z. AtMost tokens z t) e a)))
    (λ n. lowered_there tokens s at u t n a)
    (cases_eq u s)

lowered_same : (tokens : List (Option ℕ)) (s at : ℕ) → AtMost tokens s at → slice_get (lowered tokens s at) s ≡ slice_get tokens s
lowered_same tokens s at a = lowered_at tokens s at (Some a.token) a.is ∙ ap (λ z. Some (Some z)) (least_same a.token at a.low) ∙ sym a.is

-- what is reached no later than the caller's own token stays
lowered_above : (tokens : List (Option ℕ)) (s v at u : ℕ) → AtMost tokens s at → v ≤ s → s ≤ u → slice_get (lowered tokens v at) u ≡ slice_get tokens u
lowered_above tokens s v at u a h g = ⊎_elim
    (λ e. let d : s ≡ v = omega arith in subst (λ z. slice_get (lowered tokens v at) z ≡ slice_get tokens z) (sym e) (lowered_same tokens v at (subst (λ z. AtMost tokens z at) d a)))
    (λ n. lowered_other tokens v at u n)
    (cases_eq u v)

module _ (P : ℕ → ℕ → Type 0) where
  least_told : (s at : ℕ) (o : Option ℕ) → P s at → ((t : ℕ) → o ≡ Some t → P s t) → P s (least_token o at)
  least_told s at None p h = p
  least_told s at (Some t) p h = cond_both _ at t (λ z. P s z) (λ e. p) (λ e. h t refl)

  lowered_told_at : (tokens : List (Option ℕ)) (s at : ℕ) → Justified P tokens → P s at → (t : ℕ) → slice_get (lowered tokens s at) s ≡ Some (Some t) → P s t
  lowered_told_at tokens s at j p t e = ⊎_elim
      (λ f. j s t (sym (ap (λ x. slice_get x s) (lowered_none tokens s at f)) ∙ e))
      (λ h. let d : least_token h.0 at ≡ t = (let f = lowered_at tokens s at h.0 h.1 in cc) in subst (λ z. P s z) d (least_told s at h.0 p (λ t f. j s t (h.1 ∙ ap (λ z. Some z) f))))
      (cases_get tokens s)

  lowered_told : (tokens : List (Option ℕ)) (s at : ℕ) → Justified P tokens → P s at → Justified P (lowered tokens s at)
  lowered_told tokens s at j p u t e = ⊎_elim
      (λ d. subst (λ z. P z t) (sym d) (lowered_told_at tokens s at j p t (subst (λ z. slice_get (lowered tokens s at) z ≡ Some (Some t)) d e)))
      (λ n. j u t (sym (lowered_other tokens s at u n) ∙ e))
      (cases_eq u s)

-- ---- calls of an arm

abbrev after_call : ℕ → Call → List (Option ℕ) → List (Option ℕ)
after_call arm c tokens = cond (nat_eq c.arm arm) (lowered tokens c.sub c.at) tokens

call_length : (arm : ℕ) (c : Call) (tokens : List (Option ℕ)) → length (after_call arm c tokens) ≡ length tokens
call_length arm c tokens = cond_both (nat_eq c.arm arm) (lowered tokens c.sub c.at) tokens (λ z. length z ≡ length tokens) (λ e. lowered_length tokens c.sub c.at) (λ e. refl)

call_keeps : (arm : ℕ) (c : Call) (tokens : List (Option ℕ)) (u t : ℕ) → AtMost tokens u t → AtMost (after_call arm c tokens) u t
call_keeps arm c tokens u t a = cond_both (nat_eq c.arm arm) (lowered tokens c.sub c.at) tokens (λ z. AtMost z u t) (λ e. lowered_keeps tokens c.sub c.at u t a) (λ e. a)

call_low : (arm : ℕ) (c : Call) (tokens : List (Option ℕ)) → c.arm ≡ arm → c.sub < length tokens → AtMost (after_call arm c tokens) c.sub c.at
call_low arm c tokens e h = cond_both (nat_eq c.arm arm) (lowered tokens c.sub c.at) tokens (λ z. AtMost z c.sub c.at) (λ f. lowered_low tokens c.sub c.at h) (λ f. absurd (grind (arith, nat_tests)))

calls_length : (arm : ℕ) (calls : List Call) (tokens : List (Option ℕ)) → length (with_calls arm calls tokens) ≡ length tokens
unfolding with_calls
calls_length arm [] tokens = refl
calls_length arm (c ∷ cs) tokens = calls_length arm cs (after_call arm c tokens) ∙ call_length arm c tokens

calls_keep : (arm : ℕ) (calls : List Call) (tokens : List (Option ℕ)) (u t : ℕ) → AtMost tokens u t → AtMost (with_calls arm calls tokens) u t
unfolding with_calls
calls_keep arm [] tokens u t a = a
calls_keep arm (c ∷ cs) tokens u t a = calls_keep arm cs (after_call arm c tokens) u t (call_keeps arm c tokens u t a)

calls_low : (arm : ℕ) (calls : List Call) (tokens : List (Option ℕ)) (c : Call) → IsIn c calls → c.arm ≡ arm → c.sub < length tokens → AtMost (with_calls arm calls tokens) c.sub c.at
unfolding with_calls
calls_low arm [] tokens c i e h = absurd i
calls_low arm (d ∷ ds) tokens c (inl i) e h = calls_keep arm ds (after_call arm d tokens) c.sub c.at (subst (λ z. AtMost (after_call arm z tokens) c.sub c.at) i (call_low arm c tokens e h))
calls_low arm (d ∷ ds) tokens c (inr i) e h = calls_low arm ds (after_call arm d tokens) c i e (let f = call_length arm d tokens in omega arith)

calls_told : (P : ℕ → ℕ → Type 0) (arm : ℕ) (calls : List Call) (tokens : List (Option ℕ)) → Justified P tokens → ((c : Call) → IsIn c calls → c.arm ≡ arm → P c.sub c.at) → Justified P (with_calls arm calls tokens)
unfolding with_calls
calls_told P arm [] tokens j f = j
calls_told P arm (c ∷ cs) tokens j f = calls_told P arm cs (after_call arm c tokens)
    (cond_both (nat_eq c.arm arm) (lowered tokens c.sub c.at) tokens (λ z. Justified P z) (λ e. lowered_told P tokens c.sub c.at j (f c (inl refl) (grind (arith, nat_tests)))) (λ e. j))
    (λ d i e. f d (inr i) e)

-- ---- calls of what is reached

spread_length : (at : ℕ) (calls : List Call) (tokens : List (Option ℕ)) → length (spread at calls tokens) ≡ length tokens
unfolding spread
spread_length at [] tokens = refl
spread_length at (c ∷ cs) tokens = spread_length at cs (lowered tokens c.sub at) ∙ lowered_length tokens c.sub at

spread_keeps : (at : ℕ) (calls : List Call) (tokens : List (Option ℕ)) (u t : ℕ) → AtMost tokens u t → AtMost (spread at calls tokens) u t
unfolding spread
spread_keeps at [] tokens u t a = a
spread_keeps at (c ∷ cs) tokens u t a = spread_keeps at cs (lowered tokens c.sub at) u t (lowered_keeps tokens c.sub at u t a)

spread_low : (at : ℕ) (calls : List Call) (tokens : List (Option ℕ)) (c : Call) → IsIn c calls → c.sub < length tokens → AtMost (spread at calls tokens) c.sub at
unfolding spread
spread_low at [] tokens c i h = absurd i
spread_low at (d ∷ ds) tokens c (inl i) h = spread_keeps at ds (lowered tokens d.sub at) c.sub at (subst (λ z. AtMost (lowered tokens z.sub at) c.sub at) i (lowered_low tokens c.sub at h))
spread_low at (d ∷ ds) tokens c (inr i) h = spread_low at ds (lowered tokens d.sub at) c i (let f = lowered_length tokens d.sub at in omega arith)

spread_same : (at : ℕ) (calls : List Call) (tokens : List (Option ℕ)) (s : ℕ) → AtMost tokens s at → ((c : Call) → IsIn c calls → c.sub ≤ s) → (u : ℕ) → s ≤ u → slice_get (spread at calls tokens) u ≡ slice_get tokens u
unfolding spread
spread_same at [] tokens s a b u h = refl
spread_same at (c ∷ cs) tokens s a b u h = spread_same at cs (lowered tokens c.sub at) s (lowered_keeps tokens c.sub at s at a) (λ d i. b d (inr i)) u h ∙ lowered_above tokens s c.sub at u a (b c (inl refl)) h

spread_told : (P : ℕ → ℕ → Type 0) (at : ℕ) (calls : List Call) (tokens : List (Option ℕ)) → Justified P tokens → ((c : Call) → IsIn c calls → P c.sub at) → Justified P (spread at calls tokens)
unfolding spread
spread_told P at [] tokens j f = j
spread_told P at (c ∷ cs) tokens j f = spread_told P at cs (lowered tokens c.sub at) (lowered_told P tokens c.sub at j (f c (inl refl))) (λ d i. f d (inr i))

-- ---- all subprograms, from the last

step_length : (o : Option Uses) (p : Option (Option ℕ)) (tokens : List (Option ℕ)) → length (spread_of o p tokens) ≡ length tokens
step_length None p tokens = refl
step_length (Some uses) None tokens = refl
step_length (Some uses) (Some None) tokens = refl
step_length (Some uses) (Some (Some at)) tokens = spread_length at uses.calls tokens

step_keeps : (o : Option Uses) (p : Option (Option ℕ)) (tokens : List (Option ℕ)) (u t : ℕ) → AtMost tokens u t → AtMost (spread_of o p tokens) u t
step_keeps None p tokens u t a = a
step_keeps (Some uses) None tokens u t a = a
step_keeps (Some uses) (Some None) tokens u t a = a
step_keeps (Some uses) (Some (Some at)) tokens u t a = spread_keeps at uses.calls tokens u t a

all_keep : (subs : List Uses) (k : ℕ) (tokens : List (Option ℕ)) (u t : ℕ) → AtMost tokens u t → AtMost (spread_all subs k tokens) u t
unfolding spread_all
all_keep subs zero tokens u t a = a
all_keep subs (suc s) tokens u t a = all_keep subs s _ u t (step_keeps (slice_get subs s) (slice_get tokens s) tokens u t a)

module _ (subs : List Uses) where
  -- a subprogram calls no later one
  abbrev pub GoBackwards : Type 0
  GoBackwards = (s : ℕ) (uses : Uses) → slice_get subs s ≡ Some uses → (c : Call) → IsIn c uses.calls → c.sub ≤ s

  -- from that subprogram on calls of what is reached are reached
  abbrev pub Closed : ℕ → List (Option ℕ) → Type 0
  Closed k tokens = (s : ℕ) → k ≤ s → (uses : Uses) → slice_get subs s ≡ Some uses → (t : ℕ) → slice_get tokens s ≡ Some (Some t) → (c : Call) → IsIn c uses.calls → c.sub < length tokens → AtMost tokens c.sub t

  -- where nothing is done at a subprogram
  closed_past : (s : ℕ) (tokens : List (Option ℕ)) → Closed (suc s) tokens → ((uses : Uses) (t : ℕ) → slice_get subs s ≡ Some uses → slice_get tokens s ≡ Some (Some t) → ⊥) → Closed s tokens
  closed_past s tokens g n v h uses e t f c i l = ⊎_elim
      (λ d. absurd (n uses t (ap (λ z. slice_get subs z) (sym d) ∙ e) (ap (λ z. slice_get tokens z) (sym d) ∙ f)))
      (λ d. g v (omega arith) uses e t f c i l)
      (cases_eq v s)

  closed_spread : GoBackwards → (s : ℕ) (tokens : List (Option ℕ)) (uses : Uses) (at : ℕ) → slice_get subs s ≡ Some uses → slice_get tokens s ≡ Some (Some at)
      → Closed (suc s) tokens → Closed s (spread at uses.calls tokens)
  closed_spread back s tokens uses at e f g v h called ec t ft c i l =
      let a : AtMost tokens s at = record { token = at; is = f; low = omega arith } in
      let same : slice_get (spread at uses.calls tokens) v ≡ slice_get tokens v = spread_same at uses.calls tokens s a (back s uses e) v h in
      let was : slice_get tokens v ≡ Some (Some t) = sym same ∙ ft in
      let n : c.sub < length tokens = (let k = spread_length at uses.calls tokens in omega arith) in
      ⊎_elim
      (λ d. let here : uses ≡ called = (let x = ap (λ z. slice_get subs z) d in cc) in
      let token : at ≡ t = (let x = ap (λ z. slice_get tokens z) d in cc) in
      subst (λ z. AtMost (spread at uses.calls tokens) c.sub z) token (spread_low at uses.calls tokens c (subst (λ z. IsIn c z.calls) (sym here) i) n))
      (λ d. spread_keeps at uses.calls tokens c.sub t (g v (omega arith) called ec t was c i n))
      (cases_eq v s)

  step_closed : GoBackwards → (s : ℕ) (tokens : List (Option ℕ)) (o : Option Uses) (p : Option (Option ℕ)) → slice_get subs s ≡ o → slice_get tokens s ≡ p
      → Closed (suc s) tokens → Closed s (spread_of o p tokens)
  step_closed back s tokens None p e f g = closed_past s tokens g (λ uses t x y. cc)
  step_closed back s tokens (Some uses) None e f g = closed_past s tokens g (λ uses t x y. cc)
  step_closed back s tokens (Some uses) (Some None) e f g = closed_past s tokens g (λ uses t x y. cc)
  step_closed back s tokens (Some uses) (Some (Some at)) e f g = closed_spread back s tokens uses at e f g

  all_closed : GoBackwards → (k : ℕ) (tokens : List (Option ℕ)) → Closed k tokens → Closed zero (spread_all subs k tokens)
  unfolding spread_all
  all_closed back zero tokens g = g
  all_closed back (suc s) tokens g = all_closed back s _ (step_closed back s tokens (slice_get subs s) (slice_get tokens s) refl refl g)

  -- calls lead on
  abbrev pub LeadsOn : (ℕ → ℕ → Type 0) → Type 0
  LeadsOn P = (s : ℕ) (uses : Uses) → slice_get subs s ≡ Some uses → (c : Call) → IsIn c uses.calls → (t : ℕ) → P s t → P c.sub t

  step_told : (P : ℕ → ℕ → Type 0) → LeadsOn P → (s : ℕ) (tokens : List (Option ℕ)) (o : Option Uses) (p : Option (Option ℕ)) → slice_get subs s ≡ o → slice_get tokens s ≡ p
      → Justified P tokens → Justified P (spread_of o p tokens)
  step_told P on s tokens None p e f j = j
  step_told P on s tokens (Some uses) None e f j = j
  step_told P on s tokens (Some uses) (Some None) e f j = j
  step_told P on s tokens (Some uses) (Some (Some at)) e f j = spread_told P at uses.calls tokens j (λ c i. on s uses e c i at (j s at f))

  all_told : (P : ℕ → ℕ → Type 0) → LeadsOn P → (k : ℕ) (tokens : List (Option ℕ)) → Justified P tokens → Justified P (spread_all subs k tokens)
  unfolding spread_all
  all_told P on zero tokens j = j
  all_told P on (suc s) tokens j = all_told P on s _ (step_told P on s tokens (slice_get subs s) (slice_get tokens s) refl refl j)

  all_length : (k : ℕ) (tokens : List (Option ℕ)) → length (spread_all subs k tokens) ≡ length tokens
  unfolding spread_all
  all_length zero tokens = refl
  all_length (suc s) tokens = all_length s _ ∙ step_length (slice_get subs s) (slice_get tokens s) tokens

  -- ---- what is reached

  abbrev by_calls : ℕ → List Call → List (Option ℕ)
  by_calls arm calls = with_calls arm calls (replicate (length subs) None)

  by_calls_length : (arm : ℕ) (calls : List Call) → length (by_calls arm calls) ≡ length subs
  by_calls_length arm calls = calls_length arm calls (replicate (length subs) None) ∙ length-replicate (length subs) None

  -- what holds at the calls of an arm, and at calls of what it holds at, holds of all that is reached
  pub reached_told : (P : ℕ → ℕ → Type 0) (arm : ℕ) (calls : List Call) → ((c : Call) → IsIn c calls → c.arm ≡ arm → P c.sub c.at) → LeadsOn P → Justified P (reached subs arm calls)
  reached_told P arm calls f on = all_told P on (length subs) (by_calls arm calls) (calls_told P arm calls (replicate (length subs) None) (λ u t e. absurd (none_replicated (length subs) u t e)) f)

  pub reached_low : (arm : ℕ) (calls : List Call) (c : Call) → IsIn c calls → c.arm ≡ arm → c.sub < length subs → AtMost (reached subs arm calls) c.sub c.at
  reached_low arm calls c i e h = all_keep subs (length subs) (by_calls arm calls) c.sub c.at
      (calls_low arm calls (replicate (length subs) None) c i e (subst (λ z. c.sub < z) (sym (length-replicate (length subs) None)) h))

  pub reached_closed : GoBackwards → (arm : ℕ) (calls : List Call) (s : ℕ) (uses : Uses) → slice_get subs s ≡ Some uses → (t : ℕ) → AtMost (reached subs arm calls) s t → (c : Call) → IsIn c uses.calls → c.sub < length subs
      → AtMost (reached subs arm calls) c.sub t
  reached_closed back arm calls s uses e t a c i h =
      let first : Closed (length subs) (by_calls arm calls) = λ v g called ec. absurd (let w = within_get subs v called ec in omega arith) in
      let l : c.sub < length (reached subs arm calls) = (let x = all_length (length subs) (by_calls arm calls) in let y = by_calls_length arm calls in omega arith) in
      less (reached subs arm calls) c.sub a.token t a.low (all_closed back (length subs) (by_calls arm calls) first s (omega arith) uses e a.token a.is c i l)
