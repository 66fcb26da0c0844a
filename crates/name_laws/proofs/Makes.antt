-- Judging that finds what is as is asked, where the bounds of the array types of the table are in their base ranges.
use Rattle.std.proofs.Common.{◌≡◌, refl, ℕ, Option, Some, None, Bool, true, false, if◌then◌else◌, option_map}
use Rattle.typed_tree.specs.Decoded.{TypedPart, Nothing, Cons, LeafCons}
use Rattle.typed_tree.specs.Latest.{onto, turned}
use Rattle.name_rules.specs.Judging.{Judging, ◌>>=◌, both, breaks, clean, fault, given, joined, pure, read, some, unless, where_clean}
use Rattle.name_rules.specs.TypedParts.{also_all}
use Rattle.name_rules.specs.declared.log.Log.{Log}
use Rattle.name_rules.specs.declared.log.Rule.{Rule}
use Rattle.name_laws.proofs.Based.{spanning}
use Rattle.name_laws.proofs.Walk.{Keeps}
use Rattle.name_laws.specs.Based.{ArraysBased}

pub record Makes {A : Type 0} (Q : A → Type 0) (p : Judging A) : Type 0 where
  pub at : (log : Log) → ArraysBased log.shapes → ArraysBased (p log).1.shapes × Q (p log).0

abbrev pub Any : {A : Type 0} → A → Type 0
Any a = Unit {0}

abbrev pub Maybe : {A : Type 0} → (A → Type 0) → Option A → Type 0
Maybe Q None = Unit {0}
Maybe Q (Some a) = Q a

pub m-kept : {A : Type 0} (p : Judging A) → Keeps spanning p → Makes Any p
m-kept p k = record { at = λ log h. ((k.at log).at h, tt) }

pub m-pure : {A : Type 0} (Q : A → Type 0) (a : A) → Q a → Makes Q (pure a)
m-pure Q a q = record { at = λ log h. (h, q) }

pub m-some : {A : Type 0} (Q : A → Type 0) (a : A) → Q a → Makes (Maybe Q) (some a)
m-some Q a q = record { at = λ log h. (h, q) }

pub m-none : {A : Type 0} (Q : A → Type 0) → Makes (Maybe Q) (pure None)
m-none Q = record { at = λ log h. (h, tt) }

pub m-fault : {A : Type 0} (Q : A → Type 0) (at : ℕ) (rule : Rule) → Makes (Maybe Q) (fault at rule)
m-fault Q at rule = record { at = λ log h. (h, tt) }

pub m-breaks : (at : ℕ) (rule : Rule) → Makes Any (breaks at rule)
m-breaks at rule = record { at = λ log h. (h, tt) }

pub m-unless : (b : Bool) (at : ℕ) (rule : Rule) → Makes Any (unless b at rule)
m-unless true at rule = record { at = λ log h. (h, tt) }
m-unless false at rule = record { at = λ log h. (h, tt) }

pub m-read : {A : Type 0} (Q : A → Type 0) (f : Log → A) → ((log : Log) → ArraysBased log.shapes → Q (f log)) → Makes Q (read f)
m-read Q f q = record { at = λ log h. (h, q log h) }

pub m-bind : {A B : Type 0} (Q : A → Type 0) (R : B → Type 0) (p : Judging A) (f : A → Judging B) → Makes Q p → ((a : A) → Q a → Makes R (f a)) → Makes R (p >>= f)
m-bind Q R p f m n = record { at = λ log h. let x = m.at log h in (n (p log).0 x.1).at (p log).1 x.0 }

pub m-if : {A : Type 0} (Q : A → Type 0) (b : Bool) (p q : Judging A) → Makes Q p → Makes Q q → Makes Q (if b then p else q)
m-if Q true p q m n = m
m-if Q false p q m n = n

-- the same, where the test tells something
pub m-test : {A : Type 0} (Q : A → Type 0) (b : Bool) (p q : Judging A) → (b ≡ true → Makes Q p) → Makes Q q → Makes Q (if b then p else q)
m-test Q true p q m n = m refl
m-test Q false p q m n = n

pub m-rest : {A : Type 0} (Q : A → Type 0) (b : Bool) (p q : Judging A) → Makes Q p → (b ≡ false → Makes Q q) → Makes Q (if b then p else q)
m-rest Q true p q m n = m
m-rest Q false p q m n = n refl

pub m-given : {A B : Type 0} (Q : A → Type 0) (R : B → Type 0) (x : Option A) (f : A → Judging (Option B)) → Maybe Q x → ((a : A) → Q a → Makes (Maybe R) (f a)) → Makes (Maybe R) (given x f)
m-given Q R None f q m = m-none R
m-given Q R (Some a) f q m = m a q

pub m-both : {A B C : Type 0} (Q : A → Type 0) (R : B → Type 0) (S : C → Type 0) (x : Option A) (y : Option B) (f : A → B → Judging (Option C)) → Maybe Q x → Maybe R y
    → ((a : A) (b : B) → Q a → R b → Makes (Maybe S) (f a b)) → Makes (Maybe S) (both x y f)
m-both Q R S None y f q r m = m-none S
m-both Q R S (Some a) None f q r m = m-none S
m-both Q R S (Some a) (Some b) f q r m = m a b q r

pub mapped : {A B : Type 0} (Q : A → Type 0) (R : B → Type 0) (g : A → B) (x : Option A) → Maybe Q x → ((a : A) → Q a → R (g a)) → Maybe R (option_map g x)
mapped Q R g None q m = tt
mapped Q R g (Some a) q m = m a q

pub joint : {A B C : Type 0} (Q : A → Type 0) (R : B → Type 0) (S : C → Type 0) (g : A → B → C) (x : Option A) (y : Option B) → Maybe Q x → Maybe R y → ((a : A) (b : B) → Q a → R b → S (g a b)) → Maybe S (joined g x y)
joint Q R S g None y q r m = tt
joint Q R S g (Some a) None q r m = tt
joint Q R S g (Some a) (Some b) q r m = m a b q r

pub m-where_clean : {A B : Type 0} (Q : A → Type 0) (R : B → Type 0) (p : Judging A) (f : A → Judging (Option B)) → Makes Q p → ((a : A) → Q a → Makes (Maybe R) (f a)) → Makes (Maybe R) (where_clean p f)
m-where_clean Q R p f m n =
    m-bind (λ r. Q r.0) (Maybe R) (clean p) (λ r. if r.1 then f r.0 else pure None) (record { at = m.at }) (λ r q. m-if (Maybe R) r.1 (f r.0) (pure None) (n r.0 q) (m-none R))

-- ---- lists that grow: each item is as is asked

abbrev pub Each : (TypedPart → Type 0) → TypedPart → Type 0
Each Q (Cons p q) = Q p × Each Q q
Each Q (LeafCons l q) = Each Q q
Each Q p = Unit {0}

pub each-onto : (Q : TypedPart → Type 0) (p rest : TypedPart) → Each Q p → Each Q rest → Each Q (onto p rest)
each-onto Q (Cons p q) rest h k = each-onto Q q (Cons p rest) h.1 (h.0, k)
each-onto Q (LeafCons l q) rest h k = each-onto Q q (LeafCons l rest) h k
each-onto Q p rest h k = k

pub each-turned : (Q : TypedPart → Type 0) (p : TypedPart) → Each Q p → Each Q (turned p)
unfolding turned
each-turned Q p h = each-onto Q p Nothing h tt

pub each-all : (Q : TypedPart → Type 0) (done more : TypedPart) → Each Q done → Each Q more → Each Q (also_all done more)
unfolding also_all
each-all Q done more h k = each-onto Q (turned more) done (each-turned Q more k) h
