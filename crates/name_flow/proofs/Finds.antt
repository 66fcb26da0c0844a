-- Judging that finds what is as is asked, where no fault was written up to its end.
use Rattle.std.proofs.Common.{◌≡◌, refl, List, [], ◌∷◌, ◌++◌, Option, Some, None, Bool, true, false, if◌then◌else◌, nat_le, nat_lt, ◌==◌}
use Rattle.std.specs.Prelude.{ℕ, ◌+◌, not, ◌||◌}
use Rattle.name_rules.specs.Declarations.{cells_counted}
use Rattle.name_rules.specs.Judging.{Judging, ◌>>=◌, both, fault, given, pure, some, unless}
use Rattle.name_rules.specs.Types.{saturated}
use Rattle.name_rules.specs.Limits.{most_cells, most_objects}
use Rattle.name_rules.specs.declared.log.Bound.TheVariants as bound
use Rattle.name_rules.specs.declared.log.Log.{Log}
use Rattle.name_rules.specs.declared.log.Rule.{Rule}
use Rattle.name_rules.specs.declared.log.Rule.TheVariants.{Limit}
use Rattle.name_laws.proofs.Makes.{Any, Maybe}
use Rattle.name_laws.proofs.Walk.{Keeps, Wide}
use Rattle.name_laws.proofs.Walk as walk
use Rattle.name_laws.proofs.Walked.{WalksProfiles}

abbrev pub Clean : Log → Type 0
Clean log = log.faults ≡ []

pub any : {A : Type 0} (x : Option A) → Maybe Any x
any None = tt
any (Some a) = tt

-- ---- a fault that was written stays

abbrev pub Stays : Log → Log → Type 0
Stays a b = Clean b → Clean a

pub not-none : {A : Type 0} (xs : List A) (x : A) → xs ++ x ∷ [] ≡ [] → ⊥
not-none [] x e = cc
not-none (y ∷ xs) x e = cc

unless-stays : (b : Bool) (at : ℕ) (rule : Rule) (log : Log) → Stays log (unless b at rule log).1
unless-stays true at rule log h = h
unless-stays false at rule log h = absurd (not-none log.faults _ h)

pub counted-stays : (token cells : ℕ) (log : Log) → Stays log (cells_counted token cells log).1
counted-stays token cells log h =
    let all = saturated (log.cells + cells) in
    let now = record log { declared = log.declared + 1; cells = all } in
    let mid = (unless (not (log.declared == most_objects)) token (Limit bound.Objects) now).1 in
    unless-stays (not (log.declared == most_objects)) token (Limit bound.Objects) now
    (unless-stays (nat_lt most_cells log.cells || nat_le all most_cells) token (Limit bound.Cells) mid h)

abbrev pub staying : Wide
staying = record {
  walk = record {
    Takes = λ names. Unit {0};
    R = Stays;
    stays = λ log h. h;
    joins = λ a b c f g h. f (g h);
    breaks = λ at rule log h. absurd (not-none log.faults _ h);
    scalar = λ s log h. h;
    counted = counted-stays;
    exception = λ token log h. h;
    site = λ here at k log h. h;
    parameter = λ log h. h;
    loop = λ log h. h;
  };
  shape = λ t log h. h;
  object = λ names here token s n cells constant value takes fits log i h. h;
}

pub staying-profiles : WalksProfiles staying.walk
staying-profiles = record { profile = λ ts s log h. h }

-- ---- judging

-- what was supposed, and what was found since
pub record And (G H : Type 0) : Type 0 where
  pub old : G
  pub new : H

-- under what is supposed, what is found is as is asked
pub record Finds (G : Type 0) {A : Type 0} (Q : A → Type 0) (p : Judging A) : Type 0 where
  pub keeps : Keeps staying.walk p
  pub at : (log : Log) → Clean (p log).1 → G → Q (p log).0

module _ (G : Type 0) where
  pub c-pure : {A : Type 0} (Q : A → Type 0) (a : A) → (G → Q a) → Finds G Q (pure a)
  c-pure Q a q = record { keeps = walk.k-pure staying.walk a; at = λ log l g. q g }

  pub c-some : {A : Type 0} (Q : A → Type 0) (a : A) → (G → Q a) → Finds G (Maybe Q) (some a)
  c-some Q a q = record { keeps = walk.k-some staying.walk a; at = λ log l g. q g }

  pub c-none : {A : Type 0} (Q : A → Type 0) → Finds G (Maybe Q) (pure None)
  c-none Q = record { keeps = walk.k-pure staying.walk None; at = λ log l g. tt }

  pub c-fault : {A : Type 0} (Q : A → Type 0) (at : ℕ) (rule : Rule) → Finds G (Maybe Q) (fault at rule)
  c-fault Q at rule = record { keeps = walk.k-fault staying.walk at rule; at = λ log l g. tt }

  -- a rule that is kept to
  pub c-unless : (b : Bool) (at : ℕ) (rule : Rule) → Finds G (λ u. b ≡ true) (unless b at rule)
  c-unless b at rule = record { keeps = walk.k-unless staying.walk b at rule; at = λ log l g. by b log l }
    where
      by : (b : Bool) (log : Log) → Clean (unless b at rule log).1 → b ≡ true
      by true log l = refl
      by false log l = absurd (not-none log.faults _ l)

  pub c-any : {A : Type 0} (p : Judging A) → Keeps staying.walk p → Finds G Any p
  c-any p k = record { keeps = k; at = λ log l g. tt }

  -- what is so of whatever is found
  pub c-fact : {A : Type 0} (Q : A → Type 0) (p : Judging A) → Keeps staying.walk p → ((log : Log) → Q (p log).0) → Finds G Q p
  c-fact Q p k q = record { keeps = k; at = λ log l g. q log }

  pub c-bind : {A B : Type 0} (Q : A → Type 0) (R : B → Type 0) (p : Judging A) (f : A → Judging B) → Finds G Q p → ((a : A) → Finds (And G (Q a)) R (f a)) → Finds G R (p >>= f)
  c-bind Q R p f m n = record {
    keeps = walk.k-bind staying.walk p f m.keeps (λ a. (n a).keeps);
    at = λ log l g.
        let mid = (p log).1 in
        (n (p log).0).at mid l (record { old = g; new = m.at log ((n (p log).0).keeps.at mid l) g });
  }

  pub c-given : {A B : Type 0} (Q : A → Type 0) (R : B → Type 0) (x : Option A) (f : A → Judging (Option B)) → (G → Maybe Q x) → ((a : A) → Finds (And G (Q a)) (Maybe R) (f a)) → Finds G (Maybe R) (given x f)
  c-given Q R None f q m = c-none R
  c-given Q R (Some a) f q m = record { keeps = (m a).keeps; at = λ log l g. (m a).at log l (record { old = g; new = q g }) }

  pub c-both : {A B C : Type 0} (Q : A → Type 0) (R : B → Type 0) (S : C → Type 0) (x : Option A) (y : Option B) (f : A → B → Judging (Option C)) → (G → Maybe Q x) → (G → Maybe R y)
      → ((a : A) (b : B) → Finds (And (And G (Q a)) (R b)) (Maybe S) (f a b)) → Finds G (Maybe S) (both x y f)
  c-both Q R S None y f q r m = c-none S
  c-both Q R S (Some a) None f q r m = c-none S
  c-both Q R S (Some a) (Some b) f q r m = record { keeps = (m a b).keeps; at = λ log l g. (m a b).at log l (record { old = record { old = g; new = q g }; new = r g }) }

  pub c-if : {A : Type 0} (Q : A → Type 0) (b : Bool) (p q : Judging A) → Finds G Q p → Finds G Q q → Finds G Q (if b then p else q)
  c-if Q true p q m n = m
  c-if Q false p q m n = n
