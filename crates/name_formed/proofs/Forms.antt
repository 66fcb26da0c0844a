-- Judging that finds what is as is asked, where what is known of a program's table of subtypes holds of the table so far.
use Rattle.std.proofs.Common.{◌≡◌, refl, ℕ, suc, ◌+◌, ◌*◌, ◌≤◌, List, [], ◌∷◌, length, slice_get, Option, Some, None, Bool, true, false, if◌then◌else◌, option_map, map, arith}
use Rattle.std.specs.Prelude.{◌/◌}
use Rattle.ada_meaning.specs.Formed as formed
use Rattle.ada_meaning.specs.Shapes.{Shape, Shapes, Single, FieldAt, ComponentAt, array_of, cells_of, size, subtype_shape}
use Rattle.ada_meaning.specs.Shapes as shapes
use Rattle.typed_tree.specs.Syntax.{Program}
use Rattle.name_rules.specs.Judging.{Judging, ◌>>=◌, both, breaks, clean, fault, given, joined, pure, read, some, unless, where_clean}
use Rattle.name_rules.specs.Parts.{new_parameter}
use Rattle.name_rules.specs.Resolved.{dimension_bounds}
use Rattle.name_rules.specs.Types.{array_cells, cells_in, extent}
use Rattle.name_rules.specs.Limits.{most_cells}
use Rattle.name_rules.specs.declared.log.Dimension.{Dimension}
use Rattle.name_rules.specs.declared.log.Field.{Field}
use Rattle.name_rules.specs.declared.log.Log.{Log}
use Rattle.name_rules.specs.declared.log.Rule.{Rule}
use Rattle.name_rules.specs.declared.log.Shape.{Shape as Entry}
use Rattle.name_rules.specs.declared.log.Shape.TheVariants as entry
use Rattle.name_rules.specs.declared.types.Subtype.{Subtype}
use Rattle.name_rules.specs.declared.types.Subtype.TheVariants as subtype

-- ---- the table of subtypes

-- no more cells than all objects of a program may have
abbrev pub Small : Shape → Type 0
Small t = size t ≤ most_cells

abbrev pub shape_of : Program → Subtype → Shape
shape_of program (subtype.Scalar s) = Single
shape_of program (subtype.Composite n) = subtype_shape program n

-- the cells between neighbours in each dimension are those of the dimensions behind it
abbrev pub AreStrides : List Dimension → ℕ → Shape → Type 0
AreStrides [] one t = Unit {0}
AreStrides (d ∷ ds) one t = (array_cells ds one ≡ size (array_of (map dimension_bounds ds) t)) × AreStrides ds one t

pub record HasFields (program : Program) (n : ℕ) (fs : List Field) : Type 0 where
  pub parts : Shapes
  pub shape : subtype_shape program n ≡ shapes.Record parts
  pub at : (i : ℕ) (f : Field) → slice_get fs i ≡ Some f → FieldAt parts i f.offset (shape_of program f.subtype) × Small (shape_of program f.subtype)

pub record HasDimensions (program : Program) (n : ℕ) (ds : List Dimension) (c : Subtype) (one cells : ℕ) : Type 0 where
  pub shape : subtype_shape program n ≡ array_of (map dimension_bounds ds) (shape_of program c)
  pub strides : AreStrides ds one (shape_of program c)
  pub small : Small (shape_of program c)
  pub component : ComponentAt (subtype_shape program n) (length ds) (cells / one) (shape_of program c)
  pub counted : one ≡ size (shape_of program c)

-- what is known of a program, and of the table of subtypes so far
pub record World : Type 0 where
  pub program : Program
  pub shapes : List Entry
  pub counted : (n : ℕ) → cells_of program.subtypes n ≡ size (subtype_shape program n)
  pub fields : (now : Log) → now.shapes ≡ shapes → (n : ℕ) (fs : List Field) (cells : ℕ) → slice_get now.shapes n ≡ Some (entry.Record fs cells) → Small (subtype_shape program n) → HasFields program n fs
  pub dimensions : (now : Log) → now.shapes ≡ shapes → (n : ℕ) (ds : List Dimension) (c : Subtype) (k cells : ℕ) → slice_get now.shapes n ≡ Some (entry.Array ds c k cells) → Small (subtype_shape program n)
      → HasDimensions program n ds c (cells_in now c) cells
  pub of_fields : (now : Log) → now.shapes ≡ shapes → (n : ℕ) (fs : List Field) (cells : ℕ) → slice_get now.shapes n ≡ Some (entry.Record fs cells) → cells ≤ size (subtype_shape program n)
  pub of_dimensions : (now : Log) → now.shapes ≡ shapes → (n : ℕ) (d : Dimension) (ds : List Dimension) (c : Subtype) (k cells : ℕ) → slice_get now.shapes n ≡ Some (entry.Array (d ∷ ds) c k cells)
      → extent d * array_cells ds (cells_in now c) ≤ size (subtype_shape program n)

-- ---- judging

-- what is known around a text, and a number above those of all items there
pub record Sight : Type 0 where
  pub known : formed.Known
  pub bound : ℕ

-- what is found is as is asked, where nothing joins the table; it may speak of the numbers of parameters that were given
pub record Walks (W : World) (bound : ℕ) {A : Type 0} (Q : ℕ → A → Type 0) (p : Judging A) : Type 0 where
  pub at : (log : Log) → log.shapes ≡ W.shapes → bound ≤ log.parameters → ((p log).1.shapes ≡ W.shapes) × (log.parameters ≤ (p log).1.parameters) × Q (p log).1.parameters (p log).0

abbrev pub Forms : (W : World) (V : Sight) {A : Type 0} (Q : A → Type 0) (p : Judging A) → Type 0
Forms W V Q p = Walks W V.bound (λ m. Q) p

abbrev pub Any : {A : Type 0} → A → Type 0
Any a = Unit {0}

abbrev pub Maybe : {A : Type 0} → (A → Type 0) → Option A → Type 0
Maybe Q None = Unit {0}
Maybe Q (Some a) = Q a

pub any : {A : Type 0} (x : Option A) → Maybe Any x
any None = tt
any (Some a) = tt

least : (n : ℕ) → n ≤ n
least n = omega arith

more : (a b c : ℕ) → a ≤ b → b ≤ c → a ≤ c
more a b c h k = omega (arith, h, k)

module _ (W : World) (V : Sight) where
  pub f-pure : {A : Type 0} (Q : A → Type 0) (a : A) → Q a → Forms W V Q (pure a)
  f-pure Q a q = record { at = λ log h l. (h, least log.parameters, q) }

  pub f-some : {A : Type 0} (Q : A → Type 0) (a : A) → Q a → Forms W V (Maybe Q) (some a)
  f-some Q a q = record { at = λ log h l. (h, least log.parameters, q) }

  pub f-none : {A : Type 0} (Q : A → Type 0) → Forms W V (Maybe Q) (pure None)
  f-none Q = record { at = λ log h l. (h, least log.parameters, tt) }

  pub f-fault : {A : Type 0} (Q : A → Type 0) (at : ℕ) (rule : Rule) → Forms W V (Maybe Q) (fault at rule)
  f-fault Q at rule = record { at = λ log h l. (h, least log.parameters, tt) }

  pub f-breaks : (at : ℕ) (rule : Rule) → Forms W V Any (breaks at rule)
  f-breaks at rule = record { at = λ log h l. (h, least log.parameters, tt) }

  pub f-unless : (b : Bool) (at : ℕ) (rule : Rule) → Forms W V Any (unless b at rule)
  f-unless true at rule = record { at = λ log h l. (h, least log.parameters, tt) }
  f-unless false at rule = record { at = λ log h l. (h, least log.parameters, tt) }

  pub f-read : {A : Type 0} (Q : A → Type 0) (f : Log → A) → ((log : Log) → log.shapes ≡ W.shapes → Q (f log)) → Forms W V Q (read f)
  f-read Q f q = record { at = λ log h l. (h, least log.parameters, q log h) }

  pub f-bind : {A B : Type 0} (Q : A → Type 0) (R : B → Type 0) (p : Judging A) (f : A → Judging B) → Forms W V Q p → ((a : A) → Q a → Forms W V R (f a)) → Forms W V R (p >>= f)
  f-bind Q R p f m n = record {
    at = λ log h l.
        let x = m.at log h l in
        let y = (n (p log).0 x.2).at (p log).1 x.0 (more V.bound log.parameters (p log).1.parameters l x.1) in
        (y.0, more log.parameters (p log).1.parameters (f (p log).0 (p log).1).1.parameters x.1 y.1, y.2);
  }

  pub f-weaken : {A : Type 0} (Q R : A → Type 0) (p : Judging A) → Forms W V Q p → ((a : A) → Q a → R a) → Forms W V R p
  f-weaken Q R p m f = record { at = λ log h l. let x = m.at log h l in (x.0, x.1, f (p log).0 x.2) }

  pub f-if : {A : Type 0} (Q : A → Type 0) (b : Bool) (p q : Judging A) → Forms W V Q p → Forms W V Q q → Forms W V Q (if b then p else q)
  f-if Q true p q m n = m
  f-if Q false p q m n = n

  -- the same, where the test tells something
  pub f-test : {A : Type 0} (Q : A → Type 0) (b : Bool) (p q : Judging A) → (b ≡ true → Forms W V Q p) → Forms W V Q q → Forms W V Q (if b then p else q)
  f-test Q true p q m n = m refl
  f-test Q false p q m n = n

  pub f-given : {A B : Type 0} (Q : A → Type 0) (R : B → Type 0) (x : Option A) (f : A → Judging (Option B)) → Maybe Q x → ((a : A) → Q a → Forms W V (Maybe R) (f a)) → Forms W V (Maybe R) (given x f)
  f-given Q R None f q m = f-none R
  f-given Q R (Some a) f q m = m a q

  pub f-both : {A B C : Type 0} (Q : A → Type 0) (R : B → Type 0) (S : C → Type 0) (x : Option A) (y : Option B) (f : A → B → Judging (Option C)) → Maybe Q x → Maybe R y
      → ((a : A) (b : B) → Q a → R b → Forms W V (Maybe S) (f a b)) → Forms W V (Maybe S) (both x y f)
  f-both Q R S None y f q r m = f-none S
  f-both Q R S (Some a) None f q r m = f-none S
  f-both Q R S (Some a) (Some b) f q r m = m a b q r

  pub f-where_clean : {A B : Type 0} (Q : A → Type 0) (R : B → Type 0) (p : Judging A) (f : A → Judging (Option B)) → Forms W V Q p → ((a : A) → Q a → Forms W V (Maybe R) (f a)) → Forms W V (Maybe R) (where_clean p f)
  f-where_clean Q R p f m n =
      f-bind (λ r. Q r.0) (Maybe R) (clean p) (λ r. if r.1 then f r.0 else pure None) (record { at = m.at }) (λ r q. f-if (Maybe R) r.1 (f r.0) (pure None) (n r.0 q) (f-none R))

pub mapped : {A B : Type 0} (Q : A → Type 0) (R : B → Type 0) (g : A → B) (x : Option A) → Maybe Q x → ((a : A) → Q a → R (g a)) → Maybe R (option_map g x)
mapped Q R g None q m = tt
mapped Q R g (Some a) q m = m a q

pub joint : {A B C : Type 0} (Q : A → Type 0) (R : B → Type 0) (S : C → Type 0) (g : A → B → C) (x : Option A) (y : Option B) → Maybe Q x → Maybe R y → ((a : A) (b : B) → Q a → R b → S (g a b)) → Maybe S (joined g x y)
joint Q R S g None y q r m = tt
joint Q R S g (Some a) None q r m = tt
joint Q R S g (Some a) (Some b) q r m = m a b q r

-- ---- judging that gives numbers to new parameters

module _ (W : World) (b : ℕ) where
  pub w-pure : {A : Type 0} (Q : ℕ → A → Type 0) (a : A) → ((m : ℕ) → b ≤ m → Q m a) → Walks W b Q (pure a)
  w-pure Q a q = record { at = λ log h l. (h, least log.parameters, q log.parameters l) }

  pub w-bind : {A B : Type 0} (Q : ℕ → A → Type 0) (R : ℕ → B → Type 0) (p : Judging A) (f : A → Judging B) → Walks W b Q p → ((a : A) (m : ℕ) → b ≤ m → Q m a → Walks W m R (f a)) → Walks W b R (p >>= f)
  w-bind Q R p f m n = record {
    at = λ log h l.
        let x = m.at log h l in
        let y = (n (p log).0 (p log).1.parameters (more b log.parameters (p log).1.parameters l x.1) x.2).at (p log).1 x.0 (least (p log).1.parameters) in
        (y.0, more log.parameters (p log).1.parameters (f (p log).0 (p log).1).1.parameters x.1 y.1, y.2);
  }

  pub w-if : {A : Type 0} (Q : ℕ → A → Type 0) (c : Bool) (p q : Judging A) → Walks W b Q p → Walks W b Q q → Walks W b Q (if c then p else q)
  w-if Q true p q m n = m
  w-if Q false p q m n = n

  pub w-weaken : {A : Type 0} (Q R : ℕ → A → Type 0) (p : Judging A) → Walks W b Q p → ((m : ℕ) (a : A) → b ≤ m → Q m a → R m a) → Walks W b R p
  w-weaken Q R p m f = record { at = λ log h l. let x = m.at log h l in (x.0, x.1, f (p log).1.parameters (p log).0 (more b log.parameters (p log).1.parameters l x.1) x.2) }

  -- a new parameter
  pub w-new_parameter : Walks W b (λ m n. (b ≤ n) × (suc n ≤ m)) new_parameter
  w-new_parameter = record { at = λ log h l. (h, later log.parameters, (l, next log.parameters)) }
    where
      later : (n : ℕ) → n ≤ n + 1
      later n = omega arith

      next : (n : ℕ) → suc n ≤ n + 1
      next n = omega arith

  -- what is so for fewer parameters that were given before is so for more
  pub w-less : {A : Type 0} (c : ℕ) (Q : ℕ → A → Type 0) (p : Judging A) → c ≤ b → Walks W c Q p → Walks W b Q p
  w-less c Q p l m = record { at = λ log h k. m.at log h (more c b log.parameters l k) }
