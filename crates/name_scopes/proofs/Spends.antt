-- Judging that is counted: what it finds counts for no more than what it was given, together with what of it is no longer left
-- and with what has come to be owed on the way.
use Rattle.std.proofs.Common.{Bool, None, Option, Some, arith, false, if◌then◌else◌, option_map, true, ℕ, ◌+◌, ◌≤◌}
use Rattle.typed_tree.specs.declared.program.SiteKind.{SiteKind}
use Rattle.name_rules.specs.Judging.{Judging, ◌>>=◌, both, clean, fault, given, joined, pure, read, some, where_clean}
use Rattle.name_rules.specs.Parts.{new_site}
use Rattle.name_rules.specs.declared.log.Log.{Log}
use Rattle.name_rules.specs.declared.log.Rule.{Rule}
use Rattle.name_rules.specs.declared.scope.Context.{Context}
use Rattle.name_scopes.proofs.Tallies.{Tally}
use Rattle.name_rules.specs.Iterations.{only_reduce_rules}
use Rattle.name_laws.proofs.Walk.{Keeps, k-fault}
use Rattle.name_scopes.proofs.Leaving.{leaving}
use Rattle.name_scopes.proofs.Measures.{Measure, counted-by, first-of, option-of}

pub record Spends (s : Tally) {A : Type 0} (m : Measure A) (n : ℕ) (p : Judging A) : Type 0 where
  pub at : (log : Log) → m.Whole (p log).0 × (m.size (p log).0 + s.left (p log).1 + s.owed log ≤ n + s.left log + s.owed (p log).1)

-- what holds no more than so many
abbrev pub Holds : {A : Type 0} → Measure A → ℕ → A → Type 0
Holds m n a = m.Whole a × (m.size a ≤ n)

pub s-le : (s : Tally) {A : Type 0} (m : Measure A) (k n : ℕ) (p : Judging A) → Spends s m k p → k ≤ n → Spends s m n p
s-le s m k n p h l = record { at = λ log. let x = h.at log in (x.0, omega (arith, x.1, l)) }

pub s-pure : (s : Tally) {A : Type 0} (m : Measure A) (n : ℕ) (a : A) → Holds m n a → Spends s m n (pure a)
s-pure s m n a h = record { at = λ log. (h.0, omega (arith, h.1)) }

pub s-some : (s : Tally) {A : Type 0} (m : Measure A) (n : ℕ) (a : A) → Holds m n a → Spends s (option-of m) n (some a)
s-some s m n a h = record { at = λ log. (h.0, omega (arith, h.1)) }

pub s-none : (s : Tally) {A : Type 0} (m : Measure A) (n : ℕ) → Spends s (option-of m) n (pure None)
s-none s m n = record { at = λ log. (tt, omega arith) }

pub s-fault : (s : Tally) {A : Type 0} (m : Measure A) (n at : ℕ) (rule : Rule) → Spends s (option-of m) n (fault at rule)
s-fault s {A} m n at rule = record { at = λ log. (tt, omega (arith, s.falls log (fault {A = A} at rule log).1 ((k-fault leaving {A = A} at rule).at log))) }

pub s-read : (s : Tally) {A : Type 0} (m : Measure A) (n : ℕ) (f : Log → A) → ((log : Log) → Holds m n (f log)) → Spends s m n (read f)
s-read s m n f h = record { at = λ log. let x = h log in (x.0, omega (arith, x.1)) }

-- what was spent of before goes on with what is left, k
pub s-bind : (s : Tally) {A B : Type 0} (m : Measure A) (r : Measure B) (c k n : ℕ) (p : Judging A) (f : A → Judging B)
    → Spends s m c p → c + k ≤ n → ((a : A) → m.Whole a → Spends s r (m.size a + k) (f a)) → Spends s r n (p >>= f)
s-bind s m r c k n p f h l g = record {
  at = λ log.
      let x = h.at log in
      let y = (g (p log).0 x.0).at (p log).1 in
      (y.0, omega (arith, x.1, y.1, l));
}

-- what has no part of the program
pub s-then : (s : Tally) {A B : Type 0} (m : Measure B) (n : ℕ) (p : Judging A) (f : A → Judging B) → Keeps leaving p → ((a : A) → Spends s m n (f a)) → Spends s m n (p >>= f)
s-then s m n p f h g = record {
  at = λ log.
      let y = (g (p log).0).at (p log).1 in
      (y.0, omega (arith, y.1, s.falls log (p log).1 (h.at log)));
}

-- what is judged by what was written so far
pub s-log : (s : Tally) {A : Type 0} (m : Measure A) (n : ℕ) (p : Log → Judging A) → ((log : Log) → Spends s m n (p log)) → Spends s m n (λ log. p log log)
s-log s m n p h = record { at = λ log. (h log).at log }

pub s-if : (s : Tally) {A : Type 0} (m : Measure A) (n : ℕ) (b : Bool) (p q : Judging A) → Spends s m n p → Spends s m n q → Spends s m n (if b then p else q)
s-if s m n true p q h k = h
s-if s m n false p q h k = k

pub s-given : (s : Tally) {A B : Type 0} (m : Measure A) (r : Measure B) (k n : ℕ) (x : Option A) (f : A → Judging (Option B))
    → (option-of m).Whole x → (option-of m).size x + k ≤ n → ((a : A) → m.Whole a → Spends s (option-of r) (m.size a + k) (f a)) → Spends s (option-of r) n (given x f)
s-given s m r k n None f h l g = s-none s r n
s-given s m r k n (Some a) f h l g = s-le s (option-of r) (m.size a + k) n (f a) (g a h) l

pub s-given-any : (s : Tally) {A B : Type 0} (r : Measure B) (n : ℕ) (x : Option A) (f : A → Judging (Option B)) → ((a : A) → Spends s (option-of r) n (f a)) → Spends s (option-of r) n (given x f)
s-given-any s r n None f g = s-none s r n
s-given-any s r n (Some a) f g = g a

pub s-both : (s : Tally) {A B C : Type 0} (m : Measure A) (q : Measure B) (r : Measure C) (k n : ℕ) (x : Option A) (y : Option B) (f : A → B → Judging (Option C))
    → (option-of m).Whole x → (option-of q).Whole y → (option-of m).size x + ((option-of q).size y + k) ≤ n
    → ((a : A) → m.Whole a → (b : B) → q.Whole b → Spends s (option-of r) (m.size a + (q.size b + k)) (f a b)) → Spends s (option-of r) n (both x y f)
s-both s m q r k n None y f h i l g = s-none s r n
s-both s m q r k n (Some a) None f h i l g = s-none s r n
s-both s m q r k n (Some a) (Some b) f h i l g = s-le s (option-of r) (m.size a + (q.size b + k)) n (f a b) (g a h b i) l

pub s-both-first : (s : Tally) {A B C : Type 0} (m : Measure A) (r : Measure C) (k n : ℕ) (x : Option A) (y : Option B) (f : A → B → Judging (Option C))
    → (option-of m).Whole x → (option-of m).size x + k ≤ n → ((a : A) → m.Whole a → (b : B) → Spends s (option-of r) (m.size a + k) (f a b)) → Spends s (option-of r) n (both x y f)
s-both-first s m r k n None y f h l g = s-none s r n
s-both-first s m r k n (Some a) None f h l g = s-none s r n
s-both-first s m r k n (Some a) (Some b) f h l g = s-le s (option-of r) (m.size a + k) n (f a b) (g a h b) l

pub s-both-second : (s : Tally) {A B C : Type 0} (q : Measure B) (r : Measure C) (k n : ℕ) (x : Option A) (y : Option B) (f : A → B → Judging (Option C))
    → (option-of q).Whole y → (option-of q).size y + k ≤ n → ((a : A) (b : B) → q.Whole b → Spends s (option-of r) (q.size b + k) (f a b)) → Spends s (option-of r) n (both x y f)
s-both-second s q r k n None y f i l g = s-none s r n
s-both-second s q r k n (Some a) None f i l g = s-none s r n
s-both-second s q r k n (Some a) (Some b) f i l g = s-le s (option-of r) (q.size b + k) n (f a b) (g a b i) l

pub s-both-any : (s : Tally) {A B C : Type 0} (r : Measure C) (n : ℕ) (x : Option A) (y : Option B) (f : A → B → Judging (Option C)) → ((a : A) (b : B) → Spends s (option-of r) n (f a b)) → Spends s (option-of r) n (both x y f)
s-both-any s r n None y f g = s-none s r n
s-both-any s r n (Some a) None f g = s-none s r n
s-both-any s r n (Some a) (Some b) f g = g a b

pub s-only_reduce_rules : (s : Tally) {A : Type 0} (m : Measure A) (n : ℕ) (p : Judging A) → Spends s m n p → Spends s (first-of m) n (only_reduce_rules p)
s-only_reduce_rules s m n p h = record { at = h.at }

pub s-clean : (s : Tally) {A : Type 0} (m : Measure A) (n : ℕ) (p : Judging A) → Spends s m n p → Spends s (first-of m) n (clean p)
s-clean s m n p h = record { at = h.at }

pub s-where_clean : (s : Tally) {A B : Type 0} (m : Measure A) (r : Measure B) (c k n : ℕ) (p : Judging A) (f : A → Judging (Option B))
    → Spends s m c p → c + k ≤ n → ((a : A) → m.Whole a → Spends s (option-of r) (m.size a + k) (f a)) → Spends s (option-of r) n (where_clean p f)
s-where_clean s m r c k n p f h l g =
    s-bind s (first-of m) (option-of r) c k n (clean p) _ (s-clean s m c p h) l
    (λ a w. s-if s (option-of r) (m.size a.0 + k) a.1 (f a.0) (pure None) (g a.0 w) (s-none s r (m.size a.0 + k)))

pub s-where_clean-any : (s : Tally) {A B : Type 0} (r : Measure B) (n : ℕ) (p : Judging A) (f : A → Judging (Option B)) → Keeps leaving p → ((a : A) → Spends s (option-of r) n (f a)) → Spends s (option-of r) n (where_clean p f)
s-where_clean-any s r n p f h g =
    s-then s (option-of r) n (clean p) _ (record { at = h.at }) (λ a. s-if s (option-of r) n a.1 (f a.0) (pure None) (g a.0) (s-none s r n))

-- ---- what is found of what was found

pub h-if : {A : Type 0} (m : Measure A) (n : ℕ) (b : Bool) (x y : A) → Holds m n x → Holds m n y → Holds m n (if b then x else y)
h-if m n true x y h k = h
h-if m n false x y h k = k

pub h-map : {A B : Type 0} (m : Measure A) (r : Measure B) (k : ℕ) (g : A → B) (x : Option A) → (option-of m).Whole x → ((a : A) → m.Whole a → Holds r (m.size a + k) (g a))
    → Holds (option-of r) ((option-of m).size x + k) (option_map g x)
h-map m r k g None h f = (tt, omega arith)
h-map m r k g (Some a) h f = f a h

pub h-joined : {A B C : Type 0} (m : Measure A) (q : Measure B) (r : Measure C) (k : ℕ) (g : A → B → C) (x : Option A) (y : Option B) → (option-of m).Whole x → (option-of q).Whole y
    → ((a : A) → m.Whole a → (b : B) → q.Whole b → Holds r (m.size a + (q.size b + k)) (g a b)) → Holds (option-of r) ((option-of m).size x + ((option-of q).size y + k)) (joined g x y)
h-joined m q r k g None y h i f = (tt, omega arith)
h-joined m q r k g (Some a) None h i f = (tt, omega arith)
h-joined m q r k g (Some a) (Some b) h i f = f a h b i

pub h-map-any : {A B : Type 0} (r : Measure B) (k : ℕ) (g : A → B) (x : Option A) → ((a : A) → Holds r k (g a)) → Holds (option-of r) k (option_map g x)
h-map-any r k g None f = (tt, omega arith)
h-map-any r k g (Some a) f = f a

pub h-joined-first : {A B C : Type 0} (m : Measure A) (r : Measure C) (k : ℕ) (g : A → B → C) (x : Option A) (y : Option B) → (option-of m).Whole x
    → ((a : A) → m.Whole a → (b : B) → Holds r (m.size a + k) (g a b)) → Holds (option-of r) ((option-of m).size x + k) (joined g x y)
h-joined-first m r k g None y h f = (tt, omega arith)
h-joined-first m r k g (Some a) None h f = (tt, omega arith)
h-joined-first m r k g (Some a) (Some b) h f = f a h b

pub h-joined-second : {A B C : Type 0} (q : Measure B) (r : Measure C) (k : ℕ) (g : A → B → C) (x : Option A) (y : Option B) → (option-of q).Whole y
    → ((a : A) (b : B) → q.Whole b → Holds r (q.size b + k) (g a b)) → Holds (option-of r) ((option-of q).size y + k) (joined g x y)
h-joined-second q r k g None y i f = (tt, omega arith)
h-joined-second q r k g (Some a) None i f = (tt, omega arith)
h-joined-second q r k g (Some a) (Some b) i f = f a b i

pub h-joined-any : {A B C : Type 0} (r : Measure C) (k : ℕ) (g : A → B → C) (x : Option A) (y : Option B) → ((a : A) (b : B) → Holds r k (g a b)) → Holds (option-of r) k (joined g x y)
h-joined-any r k g None y f = (tt, omega arith)
h-joined-any r k g (Some a) None f = (tt, omega arith)
h-joined-any r k g (Some a) (Some b) f = f a b

-- ---- a construct

pub s-new_site : (s : Tally) (here : Context) (at : ℕ) (k : SiteKind) → Spends s (counted-by (λ n. s.number n)) 0 (new_site here at k)
s-new_site s here at k = record { at = λ log. (tt, omega (arith, s.given here at k log)) }
