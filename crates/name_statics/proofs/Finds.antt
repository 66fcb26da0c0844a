-- Judging that finds what is as is asked: whatever was written before, or where the arrays and records are those of a table.
use Rattle.std.proofs.Common.{◌≡◌, refl, ℕ, ℤ, List, Option, Some, None, Bool, true, false, if◌then◌else◌, option_map}
use Rattle.typed_tree.specs.Classes.{with_class}
use Rattle.typed_tree.specs.Decoded.{TypedPart, as_expr}
use Rattle.typed_tree.specs.declared.scalars.Class.{Class}
use Rattle.name_rules.specs.Found.{Denoted, Found}
use Rattle.name_rules.specs.Judging.{Judging, ◌>>=◌, both, clean, fault, given, joined, pure, some, where_clean}
use Rattle.name_rules.specs.Values.{is_scalar, value_of}
use Rattle.name_rules.specs.declared.found.Denoted.TheVariants as denoted
use Rattle.name_rules.specs.declared.found.Denoted.{Denoted as KnownDenoted}
use Rattle.name_rules.specs.declared.found.Found.TheVariants as known
use Rattle.name_rules.specs.declared.found.Found.{Found as Known}
use Rattle.name_rules.specs.declared.found.Prefix.TheVariants as prefix
use Rattle.name_rules.specs.declared.log.Log.{Log}
use Rattle.name_rules.specs.declared.log.Rule.{Rule}
use Rattle.name_rules.specs.declared.log.Shape.{Shape}
use Rattle.name_laws.proofs.Walk.{Keeps}
use Rattle.name_statics.proofs.Same.{Same, later, walk}
use Rattle.name_statics.specs.Law.{static_in}
use Rattle.name_statics.specs.Values.{Standing, Value, Object, ASubtype, OfObject, OfType}

-- ---- what is found

abbrev pub Maybe : {A : Type 0} → (A → Type 0) → Option A → Type 0
Maybe Q None = Unit {0}
Maybe Q (Some a) = Q a

-- what isn't static leaves no value, whatever type it takes, but for a bound of a modular subtype
abbrev pub Bare : Option ℤ → Known → TypedPart → Type 0
Bare b (known.Open first l) x = (c : Class) → static_in (with_class c (as_expr x)) ≡ b
Bare b (known.Scalar first k n) x = static_in (as_expr x) ≡ b
Bare b f x = b ≡ None

-- a scalar of a static value, or of none
abbrev pub Has : Option ℤ → Found → Type 0
Has v = λ f. is_scalar f.known ≡ true → value_of f.known ≡ v

-- the same, with the bound that it leaves
pub record IsWith (v b : Option ℤ) (f : Found) : Type 0 where
  pub value : is_scalar f.known ≡ true → value_of f.known ≡ v
  pub bare : Bare b f.known f.part

abbrev pub Is : Option ℤ → Found → Type 0
Is v = IsWith v None

abbrev pub FindingWith : Option ℤ → Option ℤ → Option Found → Type 0
FindingWith v b = Maybe (IsWith v b)

abbrev pub Finding : Option ℤ → Option Found → Type 0
Finding v = FindingWith v None

pub has : (v b : Option ℤ) (x : Option Found) → FindingWith v b x → Maybe (Has v) x
has v b None h = tt
has v b (Some f) h = h.value

-- what a name that denotes something stands for
abbrev pub meant : KnownDenoted → Standing
meant (denoted.Value (known.Object p)) = Object p.subtype p.value
meant (denoted.Value f) = Value (value_of f)
meant (denoted.Type first s) = ASubtype s
meant (denoted.Attribute first (prefix.Object p) at a) = OfObject a p.subtype
meant (denoted.Attribute first (prefix.Type t) at a) = OfType a t
meant d = Value None

abbrev pub BareName : Option ℤ → KnownDenoted → TypedPart → Type 0
BareName b (denoted.Value f) x = Bare b f x
BareName b (denoted.Parameter first s) x = static_in (as_expr x) ≡ b
BareName b d x = b ≡ None

pub record MeansWith (s : Standing) (b : Option ℤ) (d : Denoted) : Type 0 where
  pub meaning : meant d.known ≡ s
  pub bare : BareName b d.known d.part

abbrev pub Means : Standing → Denoted → Type 0
Means s = MeansWith s None

abbrev pub NamingWith : Standing → Option ℤ → Option Denoted → Type 0
NamingWith s b = Maybe (MeansWith s b)

abbrev pub Naming : Standing → Option Denoted → Type 0
Naming s = NamingWith s None

-- ---- whatever was written before

pub record Finds {A : Type 0} (Q : A → Type 0) (p : Judging A) : Type 0 where
  pub at : (log : Log) → Q (p log).0

pub f-pure : {A : Type 0} (Q : A → Type 0) (a : A) → Q a → Finds Q (pure a)
f-pure Q a q = record { at = λ log. q }

pub f-some : {A : Type 0} (Q : A → Type 0) (a : A) → Q a → Finds (Maybe Q) (some a)
f-some Q a q = record { at = λ log. q }

pub f-none : {A : Type 0} (Q : A → Type 0) → Finds (Maybe Q) (pure None)
f-none Q = record { at = λ log. tt }

pub f-fault : {A : Type 0} (Q : A → Type 0) (at : ℕ) (rule : Rule) → Finds (Maybe Q) (fault at rule)
f-fault Q at rule = record { at = λ log. tt }

pub f-bind : {A B : Type 0} (Q : A → Type 0) (R : B → Type 0) (p : Judging A) (f : A → Judging B) → Finds Q p → ((a : A) → Q a → Finds R (f a)) → Finds R (p >>= f)
f-bind Q R p f m n = record { at = λ log. (n (p log).0 (m.at log)).at (p log).1 }

pub f-then : {A B : Type 0} (R : B → Type 0) (p : Judging A) (f : A → Judging B) → ((a : A) → Finds R (f a)) → Finds R (p >>= f)
f-then R p f n = record { at = λ log. (n (p log).0).at (p log).1 }

pub f-if : {A : Type 0} (Q : A → Type 0) (b : Bool) (p q : Judging A) → (b ≡ true → Finds Q p) → Finds Q q → Finds Q (if b then p else q)
f-if Q true p q m n = m refl
f-if Q false p q m n = n

pub f-given : {A B : Type 0} (R : B → Type 0) (x : Option A) (f : A → Judging (Option B)) → ((a : A) → Finds (Maybe R) (f a)) → Finds (Maybe R) (given x f)
f-given R None f m = f-none R
f-given R (Some a) f m = m a

-- the same, where something is known of what is given
pub f-given-of : {A B : Type 0} (Q : A → Type 0) (R : B → Type 0) (x : Option A) (f : A → Judging (Option B)) → Maybe Q x → ((a : A) → Q a → Finds (Maybe R) (f a)) → Finds (Maybe R) (given x f)
f-given-of Q R None f q m = f-none R
f-given-of Q R (Some a) f q m = m a q

pub f-both : {A B C : Type 0} (R : C → Type 0) (x : Option A) (y : Option B) (f : A → B → Judging (Option C)) → ((a : A) (b : B) → Finds (Maybe R) (f a b)) → Finds (Maybe R) (both x y f)
f-both R None y f m = f-none R
f-both R (Some a) None f m = f-none R
f-both R (Some a) (Some b) f m = m a b

pub f-both-of : {A B C : Type 0} (P : A → Type 0) (Q : B → Type 0) (R : C → Type 0) (x : Option A) (y : Option B) (f : A → B → Judging (Option C)) → Maybe P x → Maybe Q y
    → ((a : A) (b : B) → P a → Q b → Finds (Maybe R) (f a b)) → Finds (Maybe R) (both x y f)
f-both-of P Q R None y f p q m = f-none R
f-both-of P Q R (Some a) None f p q m = f-none R
f-both-of P Q R (Some a) (Some b) f p q m = m a b p q

pub f-where_clean : {A B : Type 0} (R : B → Type 0) (p : Judging A) (f : A → Judging (Option B)) → ((a : A) → Finds (Maybe R) (f a)) → Finds (Maybe R) (where_clean p f)
f-where_clean R p f n = f-then (Maybe R) (clean p) (λ r. if r.1 then f r.0 else pure None) (λ r. f-if (Maybe R) r.1 (f r.0) (pure None) (λ e. n r.0) (f-none R))

pub mapped : {A B : Type 0} (R : B → Type 0) (g : A → B) (x : Option A) → ((a : A) → R (g a)) → Maybe R (option_map g x)
mapped R g None m = tt
mapped R g (Some a) m = m a

pub paired : {A B C : Type 0} (R : C → Type 0) (g : A → B → C) (x : Option A) (y : Option B) → ((a : A) (b : B) → R (g a b)) → Maybe R (joined g x y)
paired R g None y m = tt
paired R g (Some a) None m = tt
paired R g (Some a) (Some b) m = m a b

pub weaker : {A : Type 0} (Q R : A → Type 0) (x : Option A) → Maybe Q x → ((a : A) → Q a → R a) → Maybe R x
weaker Q R None q m = tt
weaker Q R (Some a) q m = m a q

-- ---- where the arrays and records are those of a table

pub record Tells (shapes : List Shape) {A : Type 0} (Q : A → Type 0) (p : Judging A) : Type 0 where
  pub at : (log : Log) → Same shapes log.shapes → Same shapes (p log).1.shapes × Q (p log).0

pub t-of : (shapes : List Shape) {A : Type 0} (Q : A → Type 0) (p : Judging A) → Keeps walk p → Finds Q p → Tells shapes Q p
t-of shapes Q p k m = record { at = λ log h. (later shapes log (p log).1 h (k.at log), m.at log) }

pub t-at : (shapes : List Shape) {A : Type 0} (Q : A → Type 0) (p : Judging A) → Keeps walk p → ((log : Log) → Same shapes log.shapes → Q (p log).0) → Tells shapes Q p
t-at shapes Q p k m = record { at = λ log h. (later shapes log (p log).1 h (k.at log), m log h) }

pub t-pure : (shapes : List Shape) {A : Type 0} (Q : A → Type 0) (a : A) → Q a → Tells shapes Q (pure a)
t-pure shapes Q a q = record { at = λ log h. (h, q) }

pub t-none : (shapes : List Shape) {A : Type 0} (Q : A → Type 0) → Tells shapes (Maybe Q) (pure None)
t-none shapes Q = record { at = λ log h. (h, tt) }

pub t-bind : (shapes : List Shape) {A B : Type 0} (Q : A → Type 0) (R : B → Type 0) (p : Judging A) (f : A → Judging B) → Tells shapes Q p → ((a : A) → Q a → Tells shapes R (f a)) → Tells shapes R (p >>= f)
t-bind shapes Q R p f m n = record { at = λ log h. let x = m.at log h in (n (p log).0 x.1).at (p log).1 x.0 }

pub t-given : (shapes : List Shape) {A B : Type 0} (Q : A → Type 0) (R : B → Type 0) (x : Option A) (f : A → Judging (Option B)) → Maybe Q x → ((a : A) → Q a → Tells shapes (Maybe R) (f a)) → Tells shapes (Maybe R) (given x f)
t-given shapes Q R None f q m = t-none shapes R
t-given shapes Q R (Some a) f q m = m a q

pub t-if : (shapes : List Shape) {A : Type 0} (Q : A → Type 0) (b : Bool) (p q : Judging A) → (b ≡ true → Tells shapes Q p) → Tells shapes Q q → Tells shapes Q (if b then p else q)
t-if shapes Q true p q m n = m refl
t-if shapes Q false p q m n = n

pub t-where_clean : (shapes : List Shape) {A B : Type 0} (Q : A → Type 0) (R : B → Type 0) (p : Judging A) (f : A → Judging (Option B)) → Tells shapes Q p → ((a : A) → Q a → Tells shapes (Maybe R) (f a)) → Tells shapes (Maybe R) (where_clean p f)
t-where_clean shapes Q R p f m n =
    t-bind shapes (λ r. Q r.0) (Maybe R) (clean p) (λ r. if r.1 then f r.0 else pure None) (record { at = m.at }) (λ r q. t-if shapes (Maybe R) r.1 (f r.0) (pure None) (λ e. n r.0 q) (t-none shapes R))
