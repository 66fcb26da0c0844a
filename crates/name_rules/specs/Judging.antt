-- Judging: what is found, and what is written on the way in the order of the text.
use Rattle.name_rules.specs.declared.log.Log.{Log}
use Rattle.name_rules.specs.declared.log.Rule.{Rule}
use Rattle.std.specs.Prelude.{Bool, None, Option, Some, [], false, if◌then◌else◌, length, true, ℕ, ◌++◌, ◌==◌, ◌∷◌}

abbrev pub Judging : Type 0 → Type 0
Judging A = Log → A × Log

infixl 10 ◌>>=◌
abbrev pub ◌>>=◌ : {A B : Type 0} → Judging A → (A → Judging B) → Judging B
p >>= f = λ log. let r = p log in f r.0 r.1

abbrev pub pure : {A : Type 0} → A → Judging A
pure a = λ log. (a, log)

-- what was written so far
abbrev pub read : {A : Type 0} → (Log → A) → Judging A
read f = λ log. (f log, log)

-- a rule is broken at a token
abbrev pub breaks : ℕ → Rule → Judging (Unit {0})
breaks at rule = λ log. (tt, record log { faults = log.faults ++ record { at = at; rule = rule } ∷ [] })

abbrev pub fault : {A : Type 0} → ℕ → Rule → Judging (Option A)
fault at rule = breaks at rule >>= λ _. pure None

-- a rule, where it is broken
abbrev pub unless : Bool → ℕ → Rule → Judging (Unit {0})
unless true at rule = pure tt
unless false at rule = breaks at rule

-- what is judged only where its parts have no fault
abbrev pub given : {A B : Type 0} → Option A → (A → Judging (Option B)) → Judging (Option B)
given None f = pure None
given (Some a) f = f a

abbrev pub both : {A B C : Type 0} → Option A → Option B → (A → B → Judging (Option C)) → Judging (Option C)
both x y f = given x (λ a. given y (f a))

abbrev pub some : {A : Type 0} → A → Judging (Option A)
some a = pure (Some a)

-- two parts that are joined where neither has a fault
abbrev pub joined : {A B C : Type 0} → (A → B → C) → Option A → Option B → Option C
joined f (Some a) (Some b) = Some (f a b)
joined f _ _ = None

-- what was found, and whether no fault was written on the way
abbrev pub clean : {A : Type 0} → Judging A → Judging (A × Bool)
clean p = λ log. let r = p log in ((r.0, length log.faults == length r.1.faults), r.1)

-- a rule of a whole, which is judged where its parts have no fault
abbrev pub where_clean : {A B : Type 0} → Judging A → (A → Judging (Option B)) → Judging (Option B)
where_clean p f = clean p >>= λ r. if r.1 then f r.0 else pure None
