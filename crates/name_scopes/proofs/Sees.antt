-- Judging that finds what is as is asked, where what is known of a program's table of subtypes and of its subprograms holds of
-- what was written so far.
use Rattle.std.proofs.Common.{◌≡◌, refl, ℕ, ◌≤◌, List, [], ◌∷◌, length, map, slice_get, Option, Some, None, Bool, true, false, if◌then◌else◌, option_map, eqb-true}
use Rattle.behaviours.specs.Paths.{Entity}
use Rattle.ada_meaning.specs.Meaning.{sub_at}
use Rattle.ada_meaning.specs.Shapes.{cells_of, size, subtype_shape}
use Rattle.typed_scopes.specs.Scopes as scopes
use Rattle.typed_scopes.specs.Scopes.{object_cells}
use Rattle.typed_tree.specs.Syntax.{Program, Sub}
use Rattle.name_rules.specs.Judging.{Judging, ◌>>=◌, both, breaks, clean, fault, given, joined, pure, read, some, unless, where_clean}
use Rattle.name_rules.specs.Parts.{new_parameter}
use Rattle.name_rules.specs.Programs.{typed_formal}
use Rattle.name_rules.specs.Types.{cells_in, typed_scalar}
use Rattle.name_rules.specs.declared.log.Dimension.{Dimension}
use Rattle.name_rules.specs.declared.log.Field.{Field}
use Rattle.name_rules.specs.declared.log.Log.{Log}
use Rattle.name_rules.specs.declared.log.Profile.{Profile}
use Rattle.name_rules.specs.declared.log.Rule.{Rule}
use Rattle.name_rules.specs.declared.log.Shape.{Shape as Entry}
use Rattle.name_rules.specs.declared.log.Shape.TheVariants as entry
use Rattle.name_rules.specs.declared.log.Taken.{Taken}
use Rattle.name_rules.specs.declared.types.Subtype.{Subtype}
use Rattle.name_flow.specs.Order.{AreIn}
use Rattle.name_laws.proofs.CellsCounted.{HaveValues}
use Rattle.name_formed.proofs.Forms.{HasDimensions, HasFields, Small, shape_of}

-- ---- what is known of a program

-- the object of a formal parameter has the cells of its subtype, and no more than all objects of a program may have
abbrev pub IsTaken : Program → Taken → Type 0
IsTaken program t = (object_cells program t.object ≡ size (shape_of program t.subtype)) × Small (shape_of program t.subtype)

abbrev pub AreTaken : Program → List Taken → Type 0
AreTaken program [] = Unit {0}
AreTaken program (t ∷ ts) = IsTaken program t × AreTaken program ts

-- the subprogram of a profile
pub record HasUnit (program : Program) (n : ℕ) (p : Profile) : Type 0 where
  pub unit : Sub
  pub is : sub_at program.subs n ≡ Some unit
  pub formals : unit.formals ≡ map typed_formal p.takes
  pub result : unit.result ≡ option_map typed_scalar p.gives
  pub modes : AreIn unit.result unit.formals

-- what is known of a program, of the objects of the main procedure that each subprogram sees, and of the table of subtypes and
-- the profiles, those so far and all
pub record World : Type 0 where
  pub program : Program
  pub shown : ℕ → Entity → Bool
  pub shapes : List Entry
  pub profiles : List Profile
  pub all : List Profile
  pub among : (n : ℕ) (p : Profile) → slice_get profiles n ≡ Some p → slice_get all n ≡ Some p
  pub counted : (n : ℕ) → cells_of program.subtypes n ≡ size (subtype_shape program n)
  pub fields : (now : Log) → now.shapes ≡ shapes → (n : ℕ) (fs : List Field) (cells : ℕ) → slice_get now.shapes n ≡ Some (entry.Record fs cells) → Small (subtype_shape program n)
      → HasFields program n fs × (cells ≡ size (subtype_shape program n))
  pub dimensions : (now : Log) → now.shapes ≡ shapes → (n : ℕ) (ds : List Dimension) (c : Subtype) (k cells : ℕ) → slice_get now.shapes n ≡ Some (entry.Array ds c k cells) → Small (subtype_shape program n)
      → HasDimensions program n ds c (cells_in now c) cells × HaveValues ds
  pub units : (n : ℕ) (p : Profile) → slice_get profiles n ≡ Some p → HasUnit program n p

-- ---- judging

-- what is in scope around a text, and how many subprograms are
pub record Sight : Type 0 where
  pub around : scopes.Around
  pub bound : ℕ

-- the profiles so far, those of the subprograms in scope among them
abbrev pub Known : World → Sight → Log → Type 0
Known W V log = (log.profiles ≡ W.profiles) × (V.bound ≤ length W.profiles)

-- the same number of subprograms, with other things in scope
abbrev pub seeing : scopes.Around → Sight → Sight
seeing a V = record { around = a; bound = V.bound }

-- what is found is as is asked, where nothing joins the table and the profiles
pub record Sees (W : World) (V : Sight) {A : Type 0} (Q : A → Type 0) (p : Judging A) : Type 0 where
  pub at : (log : Log) → log.shapes ≡ W.shapes → Known W V log → ((p log).1.shapes ≡ W.shapes) × ((p log).1.profiles ≡ W.profiles) × Q (p log).0

abbrev pub Any : {A : Type 0} → A → Type 0
Any a = Unit {0}

abbrev pub Maybe : {A : Type 0} → (A → Type 0) → Option A → Type 0
Maybe Q None = Unit {0}
Maybe Q (Some a) = Q a

pub any : {A : Type 0} (x : Option A) → Maybe Any x
any None = tt
any (Some a) = tt

module _ (W : World) (V : Sight) where
  pub v-pure : {A : Type 0} (Q : A → Type 0) (a : A) → Q a → Sees W V Q (pure a)
  v-pure Q a q = record { at = λ log h l. (h, l.0, q) }

  pub v-some : {A : Type 0} (Q : A → Type 0) (a : A) → Q a → Sees W V (Maybe Q) (some a)
  v-some Q a q = record { at = λ log h l. (h, l.0, q) }

  pub v-none : {A : Type 0} (Q : A → Type 0) → Sees W V (Maybe Q) (pure None)
  v-none Q = record { at = λ log h l. (h, l.0, tt) }

  pub v-fault : {A : Type 0} (Q : A → Type 0) (at : ℕ) (rule : Rule) → Sees W V (Maybe Q) (fault at rule)
  v-fault Q at rule = record { at = λ log h l. (h, l.0, tt) }

  pub v-breaks : (at : ℕ) (rule : Rule) → Sees W V Any (breaks at rule)
  v-breaks at rule = record { at = λ log h l. (h, l.0, tt) }

  pub v-unless : (b : Bool) (at : ℕ) (rule : Rule) → Sees W V Any (unless b at rule)
  v-unless true at rule = record { at = λ log h l. (h, l.0, tt) }
  v-unless false at rule = record { at = λ log h l. (h, l.0, tt) }

  pub v-read : {A : Type 0} (Q : A → Type 0) (f : Log → A) → ((log : Log) → log.shapes ≡ W.shapes → Q (f log)) → Sees W V Q (read f)
  v-read Q f q = record { at = λ log h l. (h, l.0, q log h) }

  pub v-bind : {A B : Type 0} (Q : A → Type 0) (R : B → Type 0) (p : Judging A) (f : A → Judging B) → Sees W V Q p → ((a : A) → Q a → Sees W V R (f a)) → Sees W V R (p >>= f)
  v-bind Q R p f m n = record { at = λ log h l. let x = m.at log h l in (n (p log).0 x.2).at (p log).1 x.0 (x.1, l.1) }

  pub v-weaken : {A : Type 0} (Q R : A → Type 0) (p : Judging A) → Sees W V Q p → ((a : A) → Q a → R a) → Sees W V R p
  v-weaken Q R p m f = record { at = λ log h l. let x = m.at log h l in (x.0, x.1, f (p log).0 x.2) }

  pub v-if : {A : Type 0} (Q : A → Type 0) (b : Bool) (p q : Judging A) → Sees W V Q p → Sees W V Q q → Sees W V Q (if b then p else q)
  v-if Q true p q m n = m
  v-if Q false p q m n = n

  -- the same, where the test tells something
  pub v-test : {A : Type 0} (Q : A → Type 0) (b : Bool) (p q : Judging A) → (b ≡ true → Sees W V Q p) → Sees W V Q q → Sees W V Q (if b then p else q)
  v-test Q true p q m n = m refl
  v-test Q false p q m n = n

  pub v-given : {A B : Type 0} (Q : A → Type 0) (R : B → Type 0) (x : Option A) (f : A → Judging (Option B)) → Maybe Q x → ((a : A) → Q a → Sees W V (Maybe R) (f a)) → Sees W V (Maybe R) (given x f)
  v-given Q R None f q m = v-none R
  v-given Q R (Some a) f q m = m a q

  pub v-both : {A B C : Type 0} (Q : A → Type 0) (R : B → Type 0) (S : C → Type 0) (x : Option A) (y : Option B) (f : A → B → Judging (Option C)) → Maybe Q x → Maybe R y
      → ((a : A) (b : B) → Q a → R b → Sees W V (Maybe S) (f a b)) → Sees W V (Maybe S) (both x y f)
  v-both Q R S None y f q r m = v-none S
  v-both Q R S (Some a) None f q r m = v-none S
  v-both Q R S (Some a) (Some b) f q r m = m a b q r

  pub v-where_clean : {A B : Type 0} (Q : A → Type 0) (R : B → Type 0) (p : Judging A) (f : A → Judging (Option B)) → Sees W V Q p → ((a : A) → Q a → Sees W V (Maybe R) (f a)) → Sees W V (Maybe R) (where_clean p f)
  v-where_clean Q R p f m n =
      v-bind (λ r. Q r.0) (Maybe R) (clean p) (λ r. if r.1 then f r.0 else pure None) (record { at = m.at }) (λ r q. v-if (Maybe R) r.1 (f r.0) (pure None) (n r.0 q) (v-none R))

  -- the same, where what was judged tells something if it wrote no fault
  pub v-where_known : {A B : Type 0} (Q F : A → Type 0) (R : B → Type 0) (p : Judging A) (f : A → Judging (Option B)) → Sees W V Q p → ((log : Log) → length log.faults ≡ length (p log).1.faults → F (p log).0)
      → ((a : A) → Q a → F a → Sees W V (Maybe R) (f a)) → Sees W V (Maybe R) (where_clean p f)
  v-where_known Q F R p f m k n =
      v-bind (λ r. Q r.0 × (r.1 ≡ true → F r.0)) (Maybe R) (clean p) (λ r. if r.1 then f r.0 else pure None)
      (record { at = λ log h l. let x = m.at log h l in (x.0, x.1, (x.2, λ e. k log (eqb-true (length log.faults) (length (p log).1.faults) e))) })
      (λ r q. v-test (Maybe R) r.1 (f r.0) (pure None) (λ e. n r.0 q.0 (q.1 e)) (v-none R))

  -- what is judged with other things in scope
  pub v-seeing : {A : Type 0} (a : scopes.Around) (Q : A → Type 0) (p : Judging A) → Sees W (seeing a V) Q p → Sees W V Q p
  v-seeing a Q p m = record { at = m.at }

  pub v-new_parameter : Sees W V Any new_parameter
  v-new_parameter = record { at = λ log h l. (h, l.0, tt) }

pub mapped : {A B : Type 0} (Q : A → Type 0) (R : B → Type 0) (g : A → B) (x : Option A) → Maybe Q x → ((a : A) → Q a → R (g a)) → Maybe R (option_map g x)
mapped Q R g None q m = tt
mapped Q R g (Some a) q m = m a q

pub joint : {A B C : Type 0} (Q : A → Type 0) (R : B → Type 0) (S : C → Type 0) (g : A → B → C) (x : Option A) (y : Option B) → Maybe Q x → Maybe R y → ((a : A) (b : B) → Q a → R b → S (g a b)) → Maybe S (joined g x y)
joint Q R S g None y q r m = tt
joint Q R S g (Some a) None q r m = tt
joint Q R S g (Some a) (Some b) q r m = m a b q r
