-- Rules of a whole, which are judged where its parts have no fault.
use Rattle.std.proofs.Common.{◌≡◌, ◌≢◌, refl, sym, ap, ◌∙◌, ℕ, Bool, true, false, ◌⊎◌, inl, inr, length, List, Option, Some, None, Result}
use Rattle.std.proofs.lemmas.Bool.{eq-eqb, ne_eqb}
use Rattle.std.specs.Prelude.{OnOk, if◌then◌else◌, ◌==◌}
use Rattle.typed_tree.specs.Decoded.{TypedPart}
use Rattle.name_rules.specs.Found.{With}
use Rattle.name_rules.specs.Judges.{Gives, Judges}
use Rattle.name_rules.specs.Judging.{Judging, given, pure, where_clean}
use Rattle.name_rules.specs.declared.log.Log.{Log}

-- what judges one thing judges another that is the same
pub judges_so : {K E : Type 0} (x y : Option (With K) × Log) (r s : List TypedPart) (result : Result (Option K) E) (log : Log) (now : List TypedPart) → x ≡ y → r ≡ s → Judges y s result log now → Judges x r result log now
judges_so x y r s result log now e h j = rw (e, h) j

pub gives_so : {E : Type 0} (x y : Option TypedPart × Log) (r s : List TypedPart) (result : Result Bool E) (log : Log) (now : List TypedPart) → x ≡ y → r ≡ s → Gives y s result log now → Gives x r result log now
gives_so x y r s result log now e h j = rw (e, h) j

pub ok_so : {A B E : Type 0} (result : Result (Unit {0}) E) (x y z : A) (q r s : B) → x ≡ y → r ≡ s → OnOk result ((y ≡ z) × (q ≡ s)) → OnOk result ((x ≡ z) × (q ≡ r))
ok_so result x y z q r s e h j = rw (e, h) j

clean_by : {A B : Type 0} (p : Judging A) (f : A → Judging (Option B)) (log now : Log) (a : A) (b : Bool) → p log ≡ (a, now) → (length log.faults == length now.faults) ≡ b → where_clean p f log ≡ (if b then f a else pure None) now
clean_by p f log now a b e h = rw (e, h) refl

-- as many faults are written before the parts and behind them
pub clean : {A B : Type 0} (p : Judging A) (f : A → Judging (Option B)) (log now : Log) (a : A) (m n : ℕ) → p log ≡ (a, now) → m ≡ length log.faults → n ≡ length now.faults → n ≡ m → where_clean p f log ≡ f a now
clean p f log now a m n e h i j = clean_by p f log now a true e (eq-eqb (length log.faults) (length now.faults) (sym h ∙ (sym j ∙ i)))

-- not as many
pub faulty : {A B : Type 0} (p : Judging A) (f : A → Judging (Option B)) (log now : Log) (a : A) (m n : ℕ) → p log ≡ (a, now) → m ≡ length log.faults → n ≡ length now.faults → n ≢ m → where_clean p f log ≡ (None, now)
faulty p f log now a m n e h i j = clean_by p f log now a false e (ne_eqb (length log.faults) (length now.faults) (λ k. j (i ∙ (sym k ∙ sym h))))

-- not as many, or nothing is found of the parts
pub gone : {A B : Type 0} (p : Judging (Option A)) (f : A → Judging (Option B)) (log now : Log) (x : Option A) (m n : ℕ) (all : Bool) → p log ≡ (x, now) → m ≡ length log.faults → n ≡ length now.faults → (all ≡ false → x ≡ None) → (n ≢ m) ⊎ ((n ≡ m) × (all ≡ false)) → where_clean p (λ a. given a f) log ≡ (None, now)
gone p f log now x m n all e h i k (inl j) = faulty p (λ a. given a f) log now x m n e h i j
gone p f log now x m n all e h i k (inr j) = clean p (λ a. given a f) log now x m n e h i j.0 ∙ ap (λ a. given a f now) (k j.1)

pub kept : {A B : Type 0} (p : Judging (Option A)) (f : A → Judging (Option B)) (log now : Log) (x : A) (m n : ℕ) → p log ≡ (Some x, now) → m ≡ length log.faults → n ≡ length now.faults → n ≡ m → where_clean p (λ a. given a f) log ≡ f x now
kept p f log now x m n e h i j = clean p (λ a. given a f) log now (Some x) m n e h i j
