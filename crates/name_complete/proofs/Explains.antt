-- Judging that finds what is asked of it, where no fault is written. No fault is taken back.
use Rattle.std.proofs.Common.{◌≡◌, refl, sym, ap, subst, ◌∙◌, true≢false, ℕ, ◌≤◌, List, [], ◌∷◌, ◌++◌, length, Option, Some, None, Bool, true, false, if◌then◌else◌, option_map, ◌==◌}
use Rattle.name_rules.specs.Judging.{Judging, ◌>>=◌, both, breaks, clean, fault, given, joined, pure, read, some, unless, where_clean}
use Rattle.name_rules.specs.Limits.{most_cells, most_objects}
use Rattle.name_rules.specs.declared.log.Fault.{Fault}
use Rattle.name_rules.specs.declared.log.Log.{Log}
use Rattle.name_rules.specs.declared.log.Rule.{Rule}

-- ---- the log

-- objects and cells stand at most at their limits, where no fault says otherwise
pub record Counted (log : Log) : Type 0 where
  pub objects : log.faults ≡ [] → log.declared ≤ most_objects
  pub cells : log.faults ≡ [] → log.cells ≤ most_cells

pub record Grows (a b : Log) : Type 0 where
  pub back : b.faults ≡ [] → a.faults ≡ []
  pub counted : Counted a → Counted b

pub grows-stays : (log : Log) → Grows log log
grows-stays log = record { back = λ e. e; counted = λ c. c }

pub grows-joins : (a b c : Log) → Grows a b → Grows b c → Grows a c
grows-joins a b c f g = record { back = λ e. f.back (g.back e); counted = λ x. g.counted (f.counted x) }

-- nothing is counted, and no fault is written
pub grows-same : (a b : Log) → b.faults ≡ a.faults → b.declared ≡ a.declared → b.cells ≡ a.cells → Grows a b
grows-same a b e f g = record {
  back = λ h. sym e ∙ h;
  counted = λ c. record { objects = λ h. subst (λ n. n ≤ most_objects) (sym f) (c.objects (sym e ∙ h)); cells = λ h. subst (λ n. n ≤ most_cells) (sym g) (c.cells (sym e ∙ h)) };
}

not-empty : (fs : List Fault) (f : Fault) → fs ++ f ∷ [] ≡ [] → ⊥
not-empty [] f e = absurd cc
not-empty (g ∷ fs) f e = absurd cc

pub faulty : (at : ℕ) (rule : Rule) (log : Log) → (breaks at rule log).1.faults ≡ [] → ⊥
faulty at rule log e = not-empty log.faults (record { at = at; rule = rule }) e

grows-breaks : (at : ℕ) (rule : Rule) (log : Log) → Grows log (breaks at rule log).1
grows-breaks at rule log = record {
  back = λ e. absurd (faulty at rule log e);
  counted = λ c. record { objects = λ e. absurd (faulty at rule log e); cells = λ e. absurd (faulty at rule log e) };
}

-- ---- what is found

-- it is there, and is as is asked
abbrev pub Is : {A : Type 0} → (A → Type 0) → Option A → Type 0
Is Q None = ⊥
Is Q (Some a) = Q a

abbrev pub Any : {A : Type 0} → A → Type 0
Any a = Unit {0}

-- under what is supposed, what is found is as is asked, where no fault was written
pub record Sound (G : Type 0) {A : Type 0} (Q : A → Type 0) (p : Judging A) : Type 0 where
  pub grows : (log : Log) → Grows log (p log).1
  pub at : (log : Log) → Counted log → (p log).1.faults ≡ [] → G → Q (p log).0

module _ (G : Type 0) where
  pub s-pure : {A : Type 0} (Q : A → Type 0) (a : A) → (G → Q a) → Sound G Q (pure a)
  s-pure Q a q = record { grows = λ log. grows-stays log; at = λ log c e g. q g }

  pub s-some : {A : Type 0} (Q : A → Type 0) (a : A) → (G → Q a) → Sound G (Is Q) (some a)
  s-some Q a q = record { grows = λ log. grows-stays log; at = λ log c e g. q g }

  pub s-read : {A : Type 0} (Q : A → Type 0) (f : Log → A) → ((log : Log) → G → Q (f log)) → Sound G Q (read f)
  s-read Q f q = record { grows = λ log. grows-stays log; at = λ log c e g. q log g }

  pub s-breaks : (Q : Unit {0} → Type 0) (at : ℕ) (rule : Rule) → Sound G Q (breaks at rule)
  s-breaks Q at rule = record { grows = λ log. grows-breaks at rule log; at = λ log c e g. absurd (faulty at rule log e) }

  -- whatever follows a fault
  pub s-broken : {A : Type 0} (Q : A → Type 0) (at : ℕ) (rule : Rule) (a : A) → Sound G Q (breaks at rule >>= λ u. pure a)
  s-broken Q at rule a = record { grows = λ log. grows-breaks at rule log; at = λ log c e g. absurd (faulty at rule log e) }

  pub s-fault : {A : Type 0} (Q : Option A → Type 0) (at : ℕ) (rule : Rule) → Sound G Q (fault at rule)
  s-fault Q at rule = record { grows = λ log. grows-breaks at rule log; at = λ log c e g. absurd (faulty at rule log e) }

  pub s-unless : (b : Bool) (at : ℕ) (rule : Rule) → Sound G (λ u. b ≡ true) (unless b at rule)
  s-unless true at rule = record { grows = λ log. grows-stays log; at = λ log c e g. refl }
  s-unless false at rule = record { grows = λ log. grows-breaks at rule log; at = λ log c e g. absurd (faulty at rule log e) }

  pub s-bind : {A B : Type 0} (Q : A → Type 0) (R : B → Type 0) (p : Judging A) (f : A → Judging B) → Sound G Q p → ((a : A) → Sound (G × Q a) R (f a)) → Sound G R (p >>= f)
  s-bind Q R p f m n = record {
    grows = λ log. grows-joins log (p log).1 (f (p log).0 (p log).1).1 (m.grows log) ((n (p log).0).grows (p log).1);
    at = λ log c e g.
        let mid = (p log).1 in
        let k = n (p log).0 in
        k.at mid ((m.grows log).counted c) e (g, m.at log c ((k.grows mid).back e) g);
  }

  pub s-weaken : {A : Type 0} (Q R : A → Type 0) (p : Judging A) → Sound G Q p → ((a : A) → G → Q a → R a) → Sound G R p
  s-weaken Q R p m f = record { grows = m.grows; at = λ log c e g. f (p log).0 g (m.at log c e g) }

  -- nothing is asked of what is found
  pub s-any : {A : Type 0} (Q : A → Type 0) (p : Judging A) → Sound G Q p → Sound G Any p
  s-any Q p m = record { grows = m.grows; at = λ log c e g. tt }

  -- less is supposed
  pub s-under : {A : Type 0} (H : Type 0) (Q : A → Type 0) (p : Judging A) → Sound H Q p → (G → H) → Sound G Q p
  s-under H Q p m f = record { grows = m.grows; at = λ log c e g. m.at log c e (f g) }

  -- what is supposed can't be
  pub s-never : {A : Type 0} (H : Type 0) (Q R : A → Type 0) (p : Judging A) → Sound H Q p → (G → ⊥) → Sound G R p
  s-never H Q R p m f = record { grows = m.grows; at = λ log c e g. absurd (f g) }

  pub s-if : {A : Type 0} (Q : A → Type 0) (b : Bool) (p q : Judging A) → Sound G Q p → Sound G Q q → Sound G Q (if b then p else q)
  s-if Q true p q m n = m
  s-if Q false p q m n = n

  -- the same, where the test tells something
  pub s-test : {A : Type 0} (Q : A → Type 0) (b : Bool) (p q : Judging A) → Sound (G × (b ≡ true)) Q p → Sound (G × (b ≡ false)) Q q → Sound G Q (if b then p else q)
  s-test Q true p q m n = record { grows = m.grows; at = λ log c e g. m.at log c e (g, refl) }
  s-test Q false p q m n = record { grows = n.grows; at = λ log c e g. n.at log c e (g, refl) }

  pub s-given : {A B : Type 0} (Q : A → Type 0) (R : B → Type 0) (x : Option A) (f : A → Judging (Option B)) → (G → Is Q x) → ((a : A) → Sound (G × Q a) (Is R) (f a)) → Sound G (Is R) (given x f)
  s-given Q R None f q m = record { grows = λ log. grows-stays log; at = λ log c e g. absurd (q g) }
  s-given Q R (Some a) f q m = record { grows = (m a).grows; at = λ log c e g. (m a).at log c e (g, q g) }

  pub s-both : {A B C : Type 0} (Q : A → Type 0) (R : B → Type 0) (S : C → Type 0) (x : Option A) (y : Option B) (f : A → B → Judging (Option C)) → (G → Is Q x) → (G → Is R y)
      → ((a : A) (b : B) → Sound ((G × Q a) × R b) (Is S) (f a b)) → Sound G (Is S) (both x y f)
  s-both Q R S None y f q r m = record { grows = λ log. grows-stays log; at = λ log c e g. absurd (q g) }
  s-both Q R S (Some a) None f q r m = record { grows = λ log. grows-stays log; at = λ log c e g. absurd (r g) }
  s-both Q R S (Some a) (Some b) f q r m = record { grows = (m a b).grows; at = λ log c e g. (m a b).at log c e ((g, q g), r g) }

  same-length : (a b : Log) → a.faults ≡ [] → b.faults ≡ [] → (length a.faults == length b.faults) ≡ true
  same-length a b e f = ap (λ fs. length fs == length b.faults) e ∙ ap (λ fs. 0 == length fs) f

  pub s-clean : {A : Type 0} (Q : A → Type 0) (p : Judging A) → Sound G Q p → Sound G (λ r. Q r.0 × (r.1 ≡ true)) (clean p)
  s-clean Q p m = record { grows = m.grows; at = λ log c e g. (m.at log c e g, same-length log (p log).1 ((m.grows log).back e) e) }

module _ (G : Type 0) where
  pub s-where_clean : {A B : Type 0} (Q : A → Type 0) (R : B → Type 0) (p : Judging A) (f : A → Judging (Option B)) → Sound G Q p → ((a : A) → Sound (G × Q a) (Is R) (f a)) → Sound G (Is R) (where_clean p f)
  s-where_clean Q R p f m n =
      s-bind G (λ r. Q r.0 × (r.1 ≡ true)) (Is R) (clean p) (λ r. if r.1 then f r.0 else pure None) (s-clean G Q p m) (λ r.
      s-test _ (Is R) r.1 (f r.0) (pure None) (s-under _ (G × Q r.0) (Is R) (f r.0) (n r.0) (λ g. (g.0.0, g.0.1.0)))
      (s-pure _ (Is R) None (λ g. true≢false (sym g.0.1.1 ∙ g.1))))

pub mapped : {A B : Type 0} (Q : A → Type 0) (R : B → Type 0) (g : A → B) (x : Option A) → Is Q x → ((a : A) → Q a → R (g a)) → Is R (option_map g x)
mapped Q R g None q m = q
mapped Q R g (Some a) q m = m a q

pub joint : {A B C : Type 0} (Q : A → Type 0) (R : B → Type 0) (S : C → Type 0) (g : A → B → C) (x : Option A) (y : Option B) → Is Q x → Is R y → ((a : A) (b : B) → Q a → R b → S (g a b)) → Is S (joined g x y)
joint Q R S g None y q r m = q
joint Q R S g (Some a) None q r m = r
joint Q R S g (Some a) (Some b) q r m = m a b q r

pub weaker : {A : Type 0} (Q R : A → Type 0) (x : Option A) → Is Q x → ((a : A) → Q a → R a) → Is R x
weaker Q R None q m = q
weaker Q R (Some a) q m = m a q

pub there : {A : Type 0} (Q : A → Type 0) (x : Option A) → Is Q x → Is Any x
there Q None q = q
there Q (Some a) q = tt

-- ---- in short

pub ok : (G : Type 0) {A : Type 0} (a : A) → Sound G (Is Any) (some a)
ok G a = s-some G Any a (λ g. tt)

pub no : (G : Type 0) {A : Type 0} (at : ℕ) (rule : Rule) → Sound G (Is Any) (fault {A = A} at rule)
no G at rule = s-fault G (Is Any) at rule

pub differ : {A : Type 0} → true ≡ false → A
differ e = absurd (true≢false e)

-- what is found doesn't matter
pub s-alone : (G H : Type 0) {A : Type 0} (Q : A → Type 0) (p : Judging A) → Sound H Q p → Sound G Any p
s-alone G H Q p m = record { grows = m.grows; at = λ log c e g. tt }

-- what is judged by the log so far
pub s-logged : (G : Type 0) {A : Type 0} (Q : A → Type 0) (f : Log → Judging A) → ((log : Log) → Sound G Q (f log)) → Sound G Q (λ log. f log log)
s-logged G Q f m = record { grows = λ log. (m log).grows log; at = λ log c e g. (m log).at log c e g }
