-- Actual parameters: of formals each is given once, whatever the order of the text is (6.4.1).
use Rattle.std.proofs.Common.{◌≡◌, refl, sym, ap, subst, ◌∙◌, ◌⊎◌, inl, inr, ℕ, zero, suc, ◌+◌, ◌<◌, ◌≤◌, List, [], ◌∷◌, length, map, slice_get, Option, Some, None, Bool, true, false, if◌then◌else◌, ◌==◌, eqb-true, nat_lt, true≢false, arith}
use Rattle.std.specs.Prelude.{is_some, not, ◌||◌}
use Rattle.std.specs.List.{list_any, position}
use Rattle.syntax_tree.specs.FirstTokens as first_token
use Rattle.syntax_tree.specs.Syntax as syntax
use Rattle.syntax_tree.specs.Syntax.{Arg, Args}
use Rattle.typed_tree.specs.declared.program.Formal.{Formal}
use Rattle.typed_scopes.specs.Scopes.{Without}
use Rattle.std.proofs.Common.{eq-eqb, get_or, length-append, ltb-true, ltb-false}
use Rattle.std.proofs.lemmas.Option.{slice_get-get_or}
use Rattle.std.proofs.lemmas.List.Quantifiers.{position-Some}
use Rattle.typed_tree.specs.Decoded.{TypedPart}
use Rattle.typed_tree.specs.declared.program.Mode.TheVariants as mode
use Rattle.name_rules.specs.Scope.{boolean}
use Rattle.name_rules.specs.declared.types.Subtype.TheVariants as subtype
use Rattle.name_rules.specs.Calls.{Calling, found_or_unknown, with_actual, actual_for, also_taken, argument, arguments, given_once, late_at, parameter_of, taken_at}
use Rattle.name_rules.specs.Expressions.{Inside}
use Rattle.name_rules.specs.Programs.{typed_formal}
use Rattle.name_rules.specs.Symbols.{symbol}
use Rattle.name_rules.specs.declared.log.Log.{Log}
use Rattle.name_rules.specs.declared.log.Taken.{Taken}
use Rattle.name_rules.specs.declared.log.Rule.TheVariants.{Twice, Unknown}
use Rattle.name_rules.specs.declared.scope.Context.{Context}
use Rattle.name_rules.specs.declared.scope.Names.{Names}
use Rattle.name_laws.proofs.KeepsCalls.{k-actual_for, k-argument, k-arguments, k-given_once, k-parameter_of}
use Rattle.name_laws.proofs.Walked.{KeepsInside}
use Rattle.name_scopes.proofs.Faults.{counting, faults, unless-kept}

-- the formals from a number on that aren't given yet
abbrev pub left-from : ℕ → List Taken → List ℕ → List Formal
left-from i [] taken = []
left-from i (t ∷ ts) taken = if list_any (λ j. i == j) taken then left-from (suc i) ts taken else (typed_formal t ∷ left-from (suc i) ts taken)

none-given : (i : ℕ) (ts : List Taken) → left-from i ts [] ≡ map typed_formal ts
none-given i [] = refl
none-given i (t ∷ ts) = ap (λ fs. typed_formal t ∷ fs) (none-given (suc i) ts)

pub all-left : (ts : List Taken) → left-from 0 ts [] ≡ map typed_formal ts
all-left ts = none-given 0 ts

differ : (i j : ℕ) → (i ≡ j → ⊥) → (i == j) ≡ false
differ i j h = by (i == j) refl
  where
    by : (b : Bool) → (i == j) ≡ b → (i == j) ≡ false
    by true e = absurd (h (eqb-true i j e))
    by false e = e

same-not : (i : ℕ) → (i == i) ≡ true
same-not i = eq-eqb i i refl

-- one more that is another
any-other : (i k : ℕ) (taken : List ℕ) → (k ≡ i → ⊥) → list_any (λ j. k == j) (i ∷ taken) ≡ list_any (λ j. k == j) taken
any-other i k taken h = ap (λ b. b || list_any (λ j. k == j) taken) (differ k i h)

any-same : (i : ℕ) (taken : List ℕ) → list_any (λ j. i == j) (i ∷ taken) ≡ true
any-same i taken = ap (λ b. b || list_any (λ j. i == j) taken) (same-not i)

left-later : (i k : ℕ) (ts : List Taken) (taken : List ℕ) → i < k → left-from k ts (i ∷ taken) ≡ left-from k ts taken
left-later i k [] taken l = refl
left-later i k (t ∷ ts) taken l =
    ap (λ b. if b then left-from (suc k) ts (i ∷ taken) else (typed_formal t ∷ left-from (suc k) ts (i ∷ taken))) (any-other i k taken (λ e. omega (arith, l, e)))
    ∙ ap (λ fs. if list_any (λ j. k == j) taken then fs else (typed_formal t ∷ fs)) (left-later i (suc k) ts taken (omega (arith, l)))

without-next : (i n : ℕ) (x : Taken) (ts : List Taken) (taken : List ℕ) (t : Taken) (b : Bool) → list_any (λ k. i == k) taken ≡ b → list_any (λ k. i == k) (n ∷ taken) ≡ list_any (λ k. i == k) taken
    → Without (typed_formal t) (left-from (suc i) ts taken) (left-from (suc i) ts (n ∷ taken)) → Without (typed_formal t) (left-from i (x ∷ ts) taken) (left-from i (x ∷ ts) (n ∷ taken))
without-next i n x ts taken t true m other rest =
    subst (λ b. Without (typed_formal t) (if b then left-from (suc i) ts taken else (typed_formal x ∷ left-from (suc i) ts taken)) (left-from i (x ∷ ts) (n ∷ taken))) (sym m)
    (subst (λ b. Without (typed_formal t) (left-from (suc i) ts taken) (if b then left-from (suc i) ts (n ∷ taken) else (typed_formal x ∷ left-from (suc i) ts (n ∷ taken)))) (sym (other ∙ m)) rest)
without-next i n x ts taken t false m other rest =
    subst (λ b. Without (typed_formal t) (if b then left-from (suc i) ts taken else (typed_formal x ∷ left-from (suc i) ts taken)) (left-from i (x ∷ ts) (n ∷ taken))) (sym m)
    (subst (λ b. Without (typed_formal t) (typed_formal x ∷ left-from (suc i) ts taken) (if b then left-from (suc i) ts (n ∷ taken) else (typed_formal x ∷ left-from (suc i) ts (n ∷ taken)))) (sym (other ∙ m))
    (inr (left-from (suc i) ts (n ∷ taken), refl, rest)))

without-at : (i j n : ℕ) (ts : List Taken) (taken : List ℕ) (t : Taken) → slice_get ts j ≡ Some t → n ≡ i + j → list_any (λ k. n == k) taken ≡ false → Without (typed_formal t) (left-from i ts taken) (left-from i ts (n ∷ taken))
without-at i j n [] taken t e q h = absurd cc
without-at i zero n (x ∷ ts) taken t e q h =
    let same : x ≡ t = cc in
    let here : n ≡ i = omega (arith, q) in
    let free : list_any (λ k. i == k) taken ≡ false = subst (λ m. list_any (λ k. m == k) taken ≡ false) here h in
    subst (λ m. Without (typed_formal t) (left-from i (x ∷ ts) taken) (left-from i (x ∷ ts) (m ∷ taken))) (sym here)
    (subst (λ b. Without (typed_formal t) (if b then left-from (suc i) ts taken else (typed_formal x ∷ left-from (suc i) ts taken)) (left-from i (x ∷ ts) (i ∷ taken))) (sym free)
    (inl (ap typed_formal same, ap (λ b. if b then left-from (suc i) ts (i ∷ taken) else (typed_formal x ∷ left-from (suc i) ts (i ∷ taken))) (any-same i taken) ∙ left-later i (suc i) ts taken (omega arith))))
without-at i (suc j) n (x ∷ ts) taken t e q h =
    without-next i n x ts taken t (list_any (λ k. i == k) taken) refl (any-other n i taken (λ m. omega (arith, m, q))) (without-at (suc i) j n ts taken t e (omega (arith, q)) h)

pub without-one : (i : ℕ) (ts : List Taken) (taken : List ℕ) (t : Taken) → slice_get ts i ≡ Some t → list_any (λ k. i == k) taken ≡ false → Without (typed_formal t) (left-from 0 ts taken) (left-from 0 ts (i ∷ taken))
without-one i ts taken t e h = without-at 0 i i ts taken t e (omega arith) h

without-length : (f : Formal) (fs gs : List Formal) → Without f fs gs → length fs ≡ suc (length gs)
without-length f [] gs h = absurd h
without-length f (g ∷ fs) gs (inl h) = ap (λ k. suc (length k)) (sym h.1)
without-length f (g ∷ fs) gs (inr h) = ap suc (without-length f fs h.0 h.2) ∙ ap (λ k. suc (length k)) (sym h.1)

-- ---- numbers that are given

abbrev pub AreOnce : List ℕ → Type 0
AreOnce [] = Unit {0}
AreOnce (i ∷ is) = (list_any (λ j. i == j) is ≡ false) × AreOnce is

abbrev pub AreGiven : List Taken → List ℕ → Type 0
AreGiven ts [] = Unit {0}
AreGiven ts (i ∷ is) = ((t : Taken) × (slice_get ts i ≡ Some t)) × AreGiven ts is

left-many : (ts : List Taken) (taken : List ℕ) → AreOnce taken → AreGiven ts taken → length (left-from 0 ts taken) + length taken ≡ length ts
left-many ts [] h g = ap (λ fs. length fs + 0) (all-left ts) ∙ same ts
  where
    mapped : (ts : List Taken) → length (map typed_formal ts) ≡ length ts
    mapped [] = refl
    mapped (t ∷ ts) = ap suc (mapped ts)

    same : (ts : List Taken) → length (map typed_formal ts) + 0 ≡ length ts
    same ts = omega (arith, mapped ts)
left-many ts (i ∷ taken) h g =
    let one = without-length (typed_formal g.0.0) (left-from 0 ts taken) (left-from 0 ts (i ∷ taken)) (without-one i ts taken g.0.0 g.0.1 h.0) in
    let more = left-many ts taken h.1 g.1 in
    omega (arith, one, more)

empty : (fs : List Formal) → length fs ≡ 0 → fs ≡ []
empty [] e = refl
empty (f ∷ fs) e = absurd (omega (arith, e))

-- where as many are given as there are none is left
pub none-left : (ts : List Taken) (taken : List ℕ) → AreOnce taken → AreGiven ts taken → length taken ≡ length ts → left-from 0 ts taken ≡ []
none-left ts taken h g e = empty (left-from 0 ts taken) (omega (arith, left-many ts taken h g, e))

-- ---- where no fault is written, each argument is of a parameter of its own, and where none is late or too many each has one

pub record Counted (ts : List Taken) (c : Calling) : Type 0 where
  pub once : AreOnce c.taken
  pub given : AreGiven ts c.taken
  pub all : c.late ≡ None → c.count ≤ length ts → length c.taken ≡ c.count

no-taken : Taken
no-taken = record { symbol = 0; object = 0; subtype = subtype.Scalar boolean; number = 0; mode = mode.In }

-- which parameter an argument is for: none where it is late or there are too many
abbrev ParameterIn : List Taken → ℕ → Bool → Option ℕ → Option ℕ → Type 0
ParameterIn ts n named name None = ((named ≡ true) × (name ≡ None)) ⊎ (length ts ≤ n)
ParameterIn ts n named name (Some i) = i < length ts

found-in : (ts : List Taken) (n : ℕ) (named : Bool) (name : ℕ) (i : Option ℕ) (log : Log) → ((j : ℕ) → i ≡ Some j → j < length ts) → faults (found_or_unknown name i log).1 ≤ faults log → ParameterIn ts n named (Some name) (found_or_unknown name i log).0
found-in ts n named name (Some j) log h l = h j refl
found-in ts n named name None log h l = absurd (omega (arith, l, length-append log.faults (record { at = name; rule = Unknown } ∷ [])))

within : (ts : List Taken) (n : ℕ) (b : Bool) → nat_lt n (length ts) ≡ b → ParameterIn ts n false None (if b then Some n else None)
within ts n true e = ltb-true n (length ts) e
within ts n false e = inr (ltb-false n (length ts) e)

parameter-in : (names : Names) (ts : List Taken) (n : ℕ) (named : Bool) (name : Option ℕ) (log : Log) → faults (parameter_of names ts n named name log).1 ≤ faults log → ParameterIn ts n named name (parameter_of names ts n named name log).0
parameter-in names ts n named (Some name) log l = found-in ts n named name (position (λ t. t.symbol == symbol names name) ts) log (λ j e. (position-Some (λ t. t.symbol == symbol names name) ts j no-taken e).0) l
parameter-in names ts n true None log l = inl (refl, refl)
parameter-in names ts n false None log l = within ts n (nat_lt n (length ts)) refl

not-false : (b : Bool) → not b ≡ true → b ≡ false
not-false false e = refl
not-false true e = absurd (true≢false (sym e))

late-none : (late : Option ℕ) (named : Bool) (name : Option ℕ) (first : ℕ) → late_at late named name first ≡ None → late ≡ None
late-none None named name first e = refl
late-none (Some t) named name first e = absurd (no e)
  where
    no : ◌≡◌ {A = Option ℕ} (Some t) None → ⊥
    no e = cc

late-some : (named : Bool) (name : Option ℕ) (first : ℕ) → named ≡ true → name ≡ None → late_at None named name first ≡ None → ⊥
late-some true None first e f h = no h
  where
    no : ◌≡◌ {A = Option ℕ} (Some first) None → ⊥
    no h = cc
late-some true (Some n) first e f h = no f
  where
    no : ◌≡◌ {A = Option ℕ} (Some n) None → ⊥
    no h = cc
late-some false name first e f h = true≢false (sym e)

with-parameter : (ts : List Taken) (c : Calling) (name : Option ℕ) (first : ℕ) (i : Option ℕ) (x : Option TypedPart) (log : Log) → ParameterIn ts c.count c.named name i → faults (given_once first c.taken i log).1 ≤ faults log → Counted ts c
    → Counted ts (record { count = c.count + 1; taken = also_taken c.taken i; named = c.named || is_some name; late = late_at c.late c.named name first; actuals = x })
with-parameter ts c name first (Some i) x log p l h = record {
  once = (not-false _ (unless-kept (not (list_any (λ j. i == j) c.taken)) first Twice log l), h.once);
  given = ((get_or ts i no-taken, slice_get-get_or ts i no-taken p), h.given);
  all = λ e k. let m = h.all (late-none c.late c.named name first e) (omega (arith, k)) in omega (arith, m);
}
with-parameter ts c name first None x log (inl p) l h = record {
  once = h.once;
  given = h.given;
  all = λ e k. absurd (late-some c.named name first p.0 p.1 (subst (λ y. late_at y c.named name first ≡ None) (late-none c.late c.named name first e) e));
}
with-parameter ts c name first None x log (inr p) l h = record { once = h.once; given = h.given; all = λ e k. absurd (omega (arith, p, k)) }

argument-counted : (names : Names) (inside : Inside) (here : Context) (ts : List Taken) (c : Calling) (a : Arg) (log : Log) → KeepsInside counting inside → faults (argument names inside here ts c a log).1 ≤ faults log → Counted ts c → Counted ts (argument names inside here ts c a log).0
unfolding argument
argument-counted names inside here ts c (syntax.arg name e) log k l h =
    let first = first_token.of_arg (syntax.arg name e) in
    let i = parameter_of names ts c.count c.named name log in
    let u = given_once first c.taken i.0 i.1 in
    let x = actual_for names inside here (taken_at ts i.0) e u.1 in
    let k1 = (k-parameter_of counting names ts c.count c.named name tt).at log in
    let k2 = (k-given_once counting first c.taken i.0).at i.1 in
    let k3 = (k-actual_for counting names inside here (taken_at ts i.0) e tt k).at u.1 in
    with-parameter ts c name first i.0 (with_actual i.0 c.actuals x.0) i.1 (parameter-in names ts c.count c.named name log (omega (arith, l, k2, k3))) (omega (arith, l, k1, k3)) h

pub arguments-counted : (names : Names) (inside : Inside) (here : Context) (ts : List Taken) (c : Calling) (as' : Args) (log : Log) → KeepsInside counting inside → faults (arguments names inside here ts c as' log).1 ≤ faults log → Counted ts c → Counted ts (arguments names inside here ts c as' log).0
arguments-counted names inside here ts c syntax.NoArg log k l h = h
arguments-counted names inside here ts c (syntax.AlsoArg a as') log k l h =
    let d = argument names inside here ts c a log in
    let k1 = (k-argument counting names inside here ts c a tt k).at log in
    let k2 = (k-arguments counting names inside here ts d.0 as' tt k).at d.1 in
    arguments-counted names inside here ts d.0 as' d.1 k (omega (arith, l, k1)) (argument-counted names inside here ts c a log k (omega (arith, l, k2)) h)
