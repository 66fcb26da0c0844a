-- What is found is formed: chunk specifications, iterations, and what is known around their bodies.
use Rattle.std.proofs.Common.{◌≡◌, refl, sym, ap, subst, ◌∙◌, ℕ, suc, ◌+◌, ◌<◌, ◌≤◌, nat_eq, List, [], ◌∷◌, ◌++◌, length, Option, Some, None, Bool, true, false, if◌then◌else◌, option_map, eqb-true, eq-eqb, arith}
use Rattle.std.specs.Prelude.{cond, is_some, not, ◌/◌}
use Rattle.ada_meaning.specs.Formed.{FormedIteration, FormedOptional, Known, with_constant, with_shape}
use Rattle.ada_meaning.specs.Shapes.{ComponentAt, Shape, subtype_shape}
use Rattle.syntax_tree.specs.Syntax as syntax
use Rattle.syntax_tree.specs.Syntax.{Iter, OptionalExpr, OptionalParallel, Parallel, Simple}
use Rattle.typed_tree.specs.Decoded as part
use Rattle.typed_tree.specs.Decoded.{TypedPart, as_iteration, as_optional}
use Rattle.typed_tree.specs.Syntax as typed
use Rattle.typed_tree.specs.Syntax.{Iteration, Optional}
use Rattle.typed_tree.specs.declared.program.SiteKind.{SiteKind}
use Rattle.name_rules.specs.Expressions.{Inside, condition, simple}
use Rattle.name_rules.specs.Found.{Bounded, Denoted}
use Rattle.name_rules.specs.Iterations.{Chunked, Entered, Walked, array_walked, chunk_count, chunked_by, counted, each_chunk, entered, entered_with, filter_where, filtered, in_construct, no_array, over_denoted, over_form, over_place, parallel_at, parameter_what, range_made, walked, with_chunk, with_filter, with_walked}
use Rattle.name_rules.specs.Judging.{◌>>=◌, breaks, joined, pure, unless}
use Rattle.name_rules.specs.Names.{denoted_first, is_array}
use Rattle.name_rules.specs.Parts.{array_shape, new_parameter, new_site}
use Rattle.name_rules.specs.Ranges.{range}
use Rattle.name_rules.specs.Scope.{entry, is_taken, with_entry}
use Rattle.name_rules.specs.Symbols.{symbol}
use Rattle.name_rules.specs.TypedParts.{selections_of}
use Rattle.name_rules.specs.Types.{cells_in, shape_in}
use Rattle.name_rules.specs.Values.{any_integer}
use Rattle.name_rules.specs.declared.found.Denoted.TheVariants as denoted
use Rattle.name_rules.specs.declared.found.Denoted.{Denoted as KnownDenoted}
use Rattle.name_rules.specs.declared.found.Found.TheVariants as known
use Rattle.name_rules.specs.declared.found.ObjectName.{ObjectName}
use Rattle.name_rules.specs.declared.log.Dimension.{Dimension}
use Rattle.name_rules.specs.declared.log.Log.{Log}
use Rattle.name_rules.specs.declared.log.Rule.TheVariants.{Twice, WrongType}
use Rattle.name_rules.specs.declared.log.Shape.{Shape as Entry'}
use Rattle.name_rules.specs.declared.log.Shape.TheVariants as entry'
use Rattle.name_rules.specs.declared.scope.Context.{Context}
use Rattle.name_rules.specs.declared.scope.Entry.{Entry}
use Rattle.name_rules.specs.declared.scope.Names.{Names}
use Rattle.name_rules.specs.declared.scope.Target.{Target}
use Rattle.name_rules.specs.declared.scope.Target.TheVariants as target
use Rattle.name_rules.specs.declared.scope.What.{What}
use Rattle.name_rules.specs.declared.scope.What.TheVariants as what
use Rattle.name_rules.specs.declared.types.Subtype.{Subtype}
use Rattle.name_rules.specs.declared.types.Subtype.TheVariants as subtype
use Rattle.name_rules.specs.declared.types.Wanted.TheVariants as wanted
use Rattle.name_formed.proofs.Forms.{Any, Forms, HasDimensions, Maybe, Sight, Small, Walks, World, f-bind, f-breaks, f-given, f-pure, f-some, f-unless, f-weaken, joint, mapped, shape_of, w-bind, w-new_parameter, w-pure, w-weaken}
use Rattle.name_formed.proofs.FormsExpressions.{f-condition, f-simple}
use Rattle.name_formed.proofs.FormsFound.{AreOf, Around, ChunkOf, DenotedOf, DenotesOf, ExprOf, FilterOf, Finding, FoundOf, IterationOf, LevelForms, PlaceOf, TargetOf, WhatOf}
use Rattle.name_formed.proofs.FormsRanges.{BoundedOf, f-range}
use Rattle.name_formed.proofs.FormsValues.{as-constant, as-variable, f-any_integer}

-- ---- what is known around a text, with one item more

abbrev pub sight : Known → ℕ → Sight
sight w m = record { known = w; bound = m }

other : (j n : ℕ) → j < n → nat_eq j n ≡ false
other j n l = by (nat_eq j n) refl
  where
    no : j ≡ n → ⊥
    no e = omega (arith, l, e)

    by : (b : Bool) → nat_eq j n ≡ b → nat_eq j n ≡ false
    by true e = absurd (no (eqb-true j n e))
    by false e = e

of-other : (A : Type 0) (j n : ℕ) (a b : A) → j < n → cond (nat_eq j n) a b ≡ b
of-other A j n a b l = ap (λ c. cond c a b) (other j n l)

of-same : (A : Type 0) (n : ℕ) (a b : A) → cond (nat_eq n n) a b ≡ a
of-same A n a b = ap (λ c. cond c a b) (eq-eqb n n refl)

less-later : (a b c : ℕ) → a < b → b ≤ c → a < c
less-later a b c h k = omega (arith, h, k)

module _ (W : World) where
  -- what is declared keeps its place where more parameters are given
  what-later : (w : Known) (b m : ℕ) (x : What) → b ≤ m → WhatOf W (sight w b) x → WhatOf W (sight w m) x
  what-later w b m (what.Object n t v z) l h = h
  what-later w b m (what.Item n t true) l h = (less-later n b m h.0 l, h.1, h.2)
  what-later w b m (what.Item n t false) l h = (less-later n b m h.0 l, h.1, h.2)
  what-later w b m (what.Sub n) l h = h
  what-later w b m x l h = tt

  are-later : (w : Known) (b m : ℕ) (es : List Entry) → b ≤ m → AreOf W (sight w b) es → AreOf W (sight w m) es
  are-later w b m [] l h = tt
  are-later w b m (e ∷ es) l h = (what-later w b m e.what l h.0, are-later w b m es l h.1)

  target-later : (w : Known) (b m : ℕ) (t : Target) → TargetOf W (sight w b) t → TargetOf W (sight w m) t
  target-later w b m (target.Of t) h = h
  target-later w b m t h = tt

  pub around-later : (w : Known) (b m : ℕ) (here : Context) → b ≤ m → Around W (sight w b) here → Around W (sight w m) here
  around-later w b m here l h = record { scope = are-later w b m here.scope l h.scope; target = target-later w b m here.target h.target }

  -- an item of a new number leaves the others as they are
  what-shape : (w : Known) (b n m : ℕ) (t : Shape) (x : What) → b ≤ n → b ≤ m → WhatOf W (sight w b) x → WhatOf W (sight (with_shape n t w) m) x
  what-shape w b n m t (what.Object k u v z) l g h = h
  what-shape w b n m t (what.Item k u true) l g h = (less-later k b m h.0 g, of-other (Option Shape) k n (Some t) (w.item k) (less-later k b n h.0 l) ∙ h.1, h.2)
  what-shape w b n m t (what.Item k u false) l g h = (less-later k b m h.0 g, h.1, h.2)
  what-shape w b n m t (what.Sub k) l g h = h
  what-shape w b n m t x l g h = tt

  what-constant : (w : Known) (b n m : ℕ) (t : Shape) (x : What) → b ≤ n → b ≤ m → WhatOf W (sight w b) x → WhatOf W (sight (with_constant n t w) m) x
  what-constant w b n m t (what.Object k u v z) l g h = h
  what-constant w b n m t (what.Item k u true) l g h = (less-later k b m h.0 g, h.1, h.2)
  what-constant w b n m t (what.Item k u false) l g h = (less-later k b m h.0 g, of-other (Option Shape) k n (Some t) (w.constant k) (less-later k b n h.0 l) ∙ h.1, h.2)
  what-constant w b n m t (what.Sub k) l g h = h
  what-constant w b n m t x l g h = tt

  are-map : (V U : Sight) (es : List Entry) → ((x : What) → WhatOf W V x → WhatOf W U x) → AreOf W V es → AreOf W U es
  are-map V U [] f h = tt
  are-map V U (e ∷ es) f h = (f e.what h.0, are-map V U es f h.1)

  target-shape : (w : Known) (b n m : ℕ) (t : Shape) (x : Target) → TargetOf W (sight w b) x → TargetOf W (sight (with_shape n t w) m) x
  target-shape w b n m t (target.Of u) h = h
  target-shape w b n m t x h = tt

  target-constant : (w : Known) (b n m : ℕ) (t : Shape) (x : Target) → TargetOf W (sight w b) x → TargetOf W (sight (with_constant n t w) m) x
  target-constant w b n m t (target.Of u) h = h
  target-constant w b n m t x h = tt

  around-shape : (w : Known) (b n m : ℕ) (t : Shape) (here : Context) → b ≤ n → b ≤ m → Around W (sight w b) here → Around W (sight (with_shape n t w) m) here
  around-shape w b n m t here l g h =
      record { scope = are-map (sight w b) (sight (with_shape n t w) m) here.scope (λ x. what-shape w b n m t x l g) h.scope; target = target-shape w b n m t here.target h.target }

  around-constant : (w : Known) (b n m : ℕ) (t : Shape) (here : Context) → b ≤ n → b ≤ m → Around W (sight w b) here → Around W (sight (with_constant n t w) m) here
  around-constant w b n m t here l g h =
      record { scope = are-map (sight w b) (sight (with_constant n t w) m) here.scope (λ x. what-constant w b n m t x l g) h.scope; target = target-constant w b n m t here.target h.target }

  pub are-both : (V : Sight) (a b : List Entry) → AreOf W V a → AreOf W V b → AreOf W V (a ++ b)
  are-both V [] b h k = k
  are-both V (e ∷ a) b h k = (h.0, are-both V a b h.1 k)

  pub with-entry : (V : Sight) (here : Context) (name : ℕ) (x : What) → WhatOf W V x → Around W V here → Around W V (with_entry here name x)
  with-entry V here name x g h = record { scope = are-both V here.scope (entry name x ∷ []) h.scope (g, tt); target = h.target }

-- ---- chunk specifications

-- what stands for no item and no object stands for itself wherever it is
abbrev pub IsPlain : What → Type 0
IsPlain (what.Object n t v z) = ⊥
IsPlain (what.Item n t v) = ⊥
IsPlain (what.Sub n) = ⊥
IsPlain x = Unit {0}

pub plain-of : (W : World) (V : Sight) (x : What) → IsPlain x → WhatOf W V x
plain-of W V (what.Object n t v z) h = absurd h
plain-of W V (what.Item n t v) h = absurd h
plain-of W V (what.Sub n) h = absurd h
plain-of W V what.Hidden h = tt
plain-of W V what.Broken h = tt
plain-of W V (what.Parameter n s) h = tt
plain-of W V (what.Number z) h = tt
plain-of W V (what.Boolean b) h = tt
plain-of W V (what.Type t) h = tt
plain-of W V (what.Exception r) h = tt

pub parameter-plain : (n : ℕ) (b : Option Bounded) → IsPlain (parameter_what n b)
parameter-plain n None = tt
parameter-plain n (Some b) = tt

abbrev pub PlainEntry : Option (ℕ × What) → Type 0
PlainEntry None = Unit {0}
PlainEntry (Some e) = IsPlain e.1

module _ (W : World) (V : Sight) where
  pub f-new_parameter : Forms W V Any new_parameter
  f-new_parameter = record { at = λ log h l. (h, later log.parameters, tt) }
    where
      later : (n : ℕ) → n ≤ n + 1
      later n = omega arith

  pub f-new_site : (here : Context) (at : ℕ) (k : SiteKind) → Forms W V Any (new_site here at k)
  f-new_site here at k = record { at = λ log h l. (h, least log.parameters, tt) }
    where
      least : (n : ℕ) → n ≤ n
      least n = omega arith

  pub f-chunk_count : (level : Inside) (here : Context) (s : Simple) → LevelForms W level → Around W V here → Forms W V (Maybe (ExprOf W V)) (chunk_count level here s)
  unfolding chunk_count
  f-chunk_count level here s l r = f-bind W V (Finding W V) (Maybe (ExprOf W V)) (simple level here wanted.Other s) _ (f-simple W V level here wanted.Other s l r) (λ x q. f-given W V (FoundOf W V) (ExprOf W V) x any_integer q (λ f t. f-any_integer W V f t))

  abbrev ChunkedOf : Chunked → Type 0
  ChunkedOf c = Maybe (ChunkOf W V) c.chunk × PlainEntry c.entry

  f-chunked_by : (inner : Inside) (here : Context) (p : Parallel) → LevelForms W inner → Around W V here → Forms W V ChunkedOf (chunked_by inner here p)
  unfolding chunked_by
  f-chunked_by inner here (syntax.Unchunked at) l r = f-pure W V ChunkedOf (record { chunk = Some part.Nothing; entry = None }) (tt, tt)
  f-chunked_by inner here (syntax.Counted at s) l r =
      f-bind W V (Maybe (ExprOf W V)) ChunkedOf (chunk_count inner here s) _ (f-chunk_count inner here s l r) (λ e q. f-pure W V ChunkedOf (record { chunk = option_map counted e; entry = None }) (mapped (ExprOf W V) (ChunkOf W V) counted e q (λ x t. t), tt))
  f-chunked_by inner here (syntax.Chunked at index x) l r =
      f-bind W V (Maybe (BoundedOf W V)) ChunkedOf (range inner here x) _ (f-range W V inner here x l r) (λ b q.
      f-bind W V Any ChunkedOf new_parameter _ f-new_parameter (λ n p.
      f-pure W V ChunkedOf (record { chunk = option_map (each_chunk n) b; entry = Some (index, parameter_what n b) }) (mapped (BoundedOf W V) (ChunkOf W V) (each_chunk n) b q (λ y t. t), parameter-plain n b)))

-- ---- iterations

-- what is known around what an iteration does: its item, and what was known before
pub record WalkedOf (W : World) (V : Sight) (m : ℕ) (w : Walked) : Type 0 where
  pub known : Known
  pub made : Maybe (IterationOf W V (sight known m)) w.made
  pub entry : WhatOf W (sight known m) w.entry
  pub around : (here : Context) → Around W V here → Around W (sight known m) here

module _ (W : World) (V : Sight) where
  -- no item, and nothing that is gone through
  no-walk : (m token : ℕ) (f : OptionalExpr) → V.bound ≤ m → WalkedOf W V m (no_array token f)
  no-walk m token f l = record { known = V.known; made = tt; entry = tt; around = λ here h. around-later W V.known V.bound m here l h }

  -- an item of a component's shape
  pub item-walk : (p : ObjectName) (x : TypedPart) (n m token : ℕ) (f : OptionalExpr) (k : ℕ) (ds : List Dimension) (c : Subtype) (one cells : ℕ) → V.bound ≤ n → suc n ≤ m → PlaceOf W V p x → p.subtype ≡ subtype.Composite k → HasDimensions W.program k ds c one cells
      → (b : Bool) → p.variable ≡ b
      → WalkedOf W V m (record { made = Some (part.AnIteration (typed.Components n (not b) p.first p.root (selections_of x) (cells / one) one (length ds) typed.Absent)); token = token; entry = what.Item n c b; filter = f; reverse = None })
  item-walk p x n m token f k ds c one cells l g h e d true v =
      let t = shape_of W.program c in
      let y = as-variable W V p x h v in
      record {
        known = with_shape n t V.known;
        made = (y.1, (shape_of W.program p.subtype, t, y.0, subst (λ u. ComponentAt u (length ds) (cells / one) t) (sym (ap (shape_of W.program) e)) d.component, d.counted, tt, refl));
        entry = (g, of-same (Option Shape) n (Some t) (V.known.item n), d.small);
        around = λ here r. around-shape W V.known V.bound n m t here l (far V.bound n m l g) r;
      }
    where
      far : (a b c : ℕ) → a ≤ b → suc b ≤ c → a ≤ c
      far a b c i j = omega (arith, i, j)
  item-walk p x n m token f k ds c one cells l g h e d false v =
      let t = shape_of W.program c in
      let y = as-constant W V p x h v in
      record {
        known = with_constant n t V.known;
        made = (y.1, (shape_of W.program p.subtype, t, y.0, subst (λ u. ComponentAt u (length ds) (cells / one) t) (sym (ap (shape_of W.program) e)) d.component, d.counted, tt, refl));
        entry = (g, of-same (Option Shape) n (Some t) (V.known.constant n), d.small);
        around = λ here r. around-constant W V.known V.bound n m t here l (far V.bound n m l g) r;
      }
    where
      far : (a b c : ℕ) → a ≤ b → suc b ≤ c → a ≤ c
      far a b c i j = omega (arith, i, j)

  w-no_place : (b at token : ℕ) (f : OptionalExpr) → V.bound ≤ b → Walks W b (WalkedOf W V) (breaks at WrongType >>= λ u. pure (no_array token f))
  w-no_place b at token f l =
      w-bind W b (λ m. Any) (WalkedOf W V) (breaks at WrongType) _ (f-breaks W (sight V.known b) at WrongType) (λ u m k q. w-pure W m (WalkedOf W V) (no_array token f) (λ i j. no-walk i token f (far V.bound b m i l k j)))
    where
      far : (a b c d : ℕ) → a ≤ b → b ≤ c → c ≤ d → a ≤ d
      far a b c d i j k = omega (arith, i, j, k)

  w-over_shape : (p : ObjectName) (x : TypedPart) (n b token : ℕ) (f : OptionalExpr) (k : ℕ) (log : Log) (t : Option Entry') → V.bound ≤ n → suc n ≤ b → PlaceOf W V p x → p.subtype ≡ subtype.Composite k
      → ((ds : List Dimension) (c : Subtype) (j cells : ℕ) → t ≡ Some (entry'.Array ds c j cells) → HasDimensions W.program k ds c (cells_in log c) cells)
      → Walks W b (WalkedOf W V) (if is_array t then pure (array_walked log n token f p (selections_of x) t) else (breaks p.first WrongType >>= λ u. pure (no_array token f)))
  w-over_shape p x n b token f k log (Some (entry'.Array ds c j cells)) l g h e d =
      w-pure W b (WalkedOf W V) (array_walked log n token f p (selections_of x) (Some (entry'.Array ds c j cells))) (λ m i. item-walk p x n m token f k ds c (cells_in log c) cells l (far (suc n) b m g i) h e (d ds c j cells refl) p.variable refl)
    where
      far : (a b c : ℕ) → a ≤ b → b ≤ c → a ≤ c
      far a b c i j = omega (arith, i, j)
  w-over_shape p x n b token f k log (Some (entry'.Record fs cells)) l g h e d = w-no_place b p.first token f (far V.bound n b l g)
    where
      far : (a b c : ℕ) → a ≤ b → suc b ≤ c → a ≤ c
      far a b c i j = omega (arith, i, j)
  w-over_shape p x n b token f k log (Some (entry'.Scalar s)) l g h e d = w-no_place b p.first token f (far V.bound n b l g)
    where
      far : (a b c : ℕ) → a ≤ b → suc b ≤ c → a ≤ c
      far a b c i j = omega (arith, i, j)
  w-over_shape p x n b token f k log None l g h e d = w-no_place b p.first token f (far V.bound n b l g)
    where
      far : (a b c : ℕ) → a ≤ b → suc b ≤ c → a ≤ c
      far a b c i j = omega (arith, i, j)

  small-at : (p : ObjectName) (x : TypedPart) (k : ℕ) → PlaceOf W V p x → p.subtype ≡ subtype.Composite k → Small (subtype_shape W.program k)
  small-at p x k h e = subst (λ t. Small (shape_of W.program t)) e h.small

  w-over_place : (p : ObjectName) (x : TypedPart) (n b token : ℕ) (f : OptionalExpr) (t : Subtype) → p.subtype ≡ t → V.bound ≤ n → suc n ≤ b → PlaceOf W V p x → Walks W b (WalkedOf W V) (over_place n token f p (selections_of x))
  w-over_place p x n b token f (subtype.Composite k) e l g h =
      subst (λ u. Walks W b (WalkedOf W V) (λ log. (if is_array (array_shape log u) then pure (array_walked log n token f p (selections_of x) (array_shape log u)) else (breaks p.first WrongType >>= λ y. pure (no_array token f))) log)) (sym e)
      (record { at = λ log i j. (w-over_shape p x n b token f k log (shape_in log k) l g h e (λ ds c q cells d. W.dimensions log i k ds c q cells d (small-at p x k h e))).at log i j })
  w-over_place p x n b token f (subtype.Scalar s) e l g h =
      subst (λ u. Walks W b (WalkedOf W V) (λ log. (if is_array (array_shape log u) then pure (array_walked log n token f p (selections_of x) (array_shape log u)) else (breaks p.first WrongType >>= λ y. pure (no_array token f))) log)) (sym e)
      (record { at = λ log i j. (w-no_place b p.first token f (far V.bound n b l g)).at log i j })
    where
      far : (a b c : ℕ) → a ≤ b → suc b ≤ c → a ≤ c
      far a b c i j = omega (arith, i, j)

  before : (a b c : ℕ) → a ≤ b → suc b ≤ c → a ≤ c
  before a b c i j = omega (arith, i, j)

  w-over_form : (n b token : ℕ) (f : OptionalExpr) (k : KnownDenoted) (x : TypedPart) → V.bound ≤ n → suc n ≤ b → DenotesOf W V k x → Walks W b (WalkedOf W V) (over_form n token f k x)
  w-over_form n b token f (denoted.Value (known.Object p)) x l g h = w-over_place p x n b token f p.subtype refl l g h
  w-over_form n b token f k x l g h = w-no_place b (denoted_first k) token f (before V.bound n b l g)

  w-over_denoted : (n b token : ℕ) (f : OptionalExpr) (d : Option Denoted) → V.bound ≤ n → suc n ≤ b → Maybe (DenotedOf W V) d → Walks W b (WalkedOf W V) (over_denoted n token f d)
  w-over_denoted n b token f None l g h = w-pure W b (WalkedOf W V) (no_array token f) (λ m i. no-walk m token f (far V.bound n b m l g i))
    where
      far : (a b c d : ℕ) → a ≤ b → suc b ≤ c → c ≤ d → a ≤ d
      far a b c d i j k = omega (arith, i, j, k)
  w-over_denoted n b token f (Some d) l g h = w-over_form n b token f d.known d.part l g h

  between : (a b c : ℕ) → a ≤ b → b ≤ c → a ≤ c
  between a b c i j = omega (arith, i, j)

  w-walked : (level : Inside) (here : Context) (x : Iter) → LevelForms W level → Around W V here → Walks W V.bound (WalkedOf W V) (walked level here x)
  unfolding walked
  w-walked level here (syntax.InRange index back x f) l r =
      w-bind W V.bound (λ m. Maybe (BoundedOf W V)) (WalkedOf W V) (range level here x) _ (f-range W V level here x l r) (λ b m i q.
      w-bind W m (λ o n. (m ≤ n) × (suc n ≤ o)) (WalkedOf W V) new_parameter _ (w-new_parameter W m) (λ n o j p.
      w-pure W o (WalkedOf W V) (record { made = option_map (range_made n (is_some back)) b; token = index; entry = parameter_what n b; filter = f; reverse = back }) (λ k s. record {
        known = V.known;
        made = mapped (BoundedOf W V) (IterationOf W V (sight V.known k)) (range_made n (is_some back)) b q (λ y t. (t.0, t.1, tt, refl));
        entry = plain-of W (sight V.known k) (parameter_what n b) (parameter-plain n b);
        around = λ c h. around-later W V.known V.bound k c (between V.bound m k i (between m o k j s)) h;
      })))
  w-walked level here (syntax.OfName index x f) l r =
      w-bind W V.bound (λ m. Maybe (DenotedOf W V)) (WalkedOf W V) (level.name here x) _ (l.name V here x r) (λ d m i q.
      w-bind W m (λ o n. (m ≤ n) × (suc n ≤ o)) (WalkedOf W V) new_parameter _ (w-new_parameter W m) (λ n o j p. w-over_denoted n o index f d (between V.bound m n i p.0) p.1 q))

  -- ---- what is judged before the body

  pub filter-of : (x : TypedPart) → ExprOf W V x → FilterOf W V x
  filter-of (part.AnExpr e) h = h
  filter-of x h = tt

  pub some-filter : (x : Option TypedPart) → Maybe (ExprOf W V) x → Maybe (FilterOf W V) x
  some-filter None h = tt
  some-filter (Some x) h = filter-of x h

  pub f-filter_where : (names : Names) (level : Inside) (here : Context) (f : OptionalExpr) → LevelForms W level → Around W V here → Forms W V (Maybe (FilterOf W V)) (filter_where names level here f)
  f-filter_where names level here syntax.AbsentExpr l r = f-some W V (FilterOf W V) part.Nothing tt
  f-filter_where names level here (syntax.PresentExpr e) l r = f-weaken W V (Maybe (ExprOf W V)) (Maybe (FilterOf W V)) (condition names level here e) (f-condition W V names level here e l r) some-filter

  with-filter : (U : Sight) (i : Iteration) (f : Optional) → FormedIteration W.program V.known i (λ w. w ≡ U.known) → FormedOptional W.program U.known f → FormedIteration W.program V.known (with_filter i f) (λ w. w ≡ U.known)
  with-filter U (typed.Range n b low high c g) f h k = (h.0, h.1, subst (λ w. FormedOptional W.program w f) (sym h.3) k, h.3)
  with-filter U (typed.Components n true at root ss m s d g) f h k =
      (h.0, (h.1.0, h.1.1, h.1.2, h.1.3, h.1.4, subst (λ w. FormedOptional W.program w f) (sym h.1.6) k, h.1.6))
  with-filter U (typed.Components n false at root ss m s d g) f h k =
      (h.0, (h.1.0, h.1.1, h.1.2, h.1.3, h.1.4, subst (λ w. FormedOptional W.program w f) (sym h.1.6) k, h.1.6))

  construct-around : (names : Names) (here : Context) (c : Option ℕ) → Around W V here → Around W V (in_construct names here c)
  construct-around names here None h = h
  construct-around names here (Some n) h = record { scope = h.scope; target = h.target }

  chunk-around : (names : Names) (here : Context) (e : Option (ℕ × What)) → PlainEntry e → Around W V here → Around W V (with_chunk names here e)
  chunk-around names here None g h = h
  chunk-around names here (Some e) g h = with-entry W V here (symbol names e.0) e.1 (plain-of W V e.1 g) h

-- what is known where an iteration was entered
pub record EnteredOf (W : World) (V : Sight) (m : ℕ) (e : Entered) : Type 0 where
  pub known : Known
  pub around : Around W (sight known m) e.here
  pub chunk : Maybe (ChunkOf W V) e.chunk
  pub iteration : Maybe (IterationOf W V (sight known m)) e.iteration

module _ (W : World) (V : Sight) where
  w-with_walked : (names : Names) (here : Context) (start : ℕ) (w : Walked) (U : Sight) → WhatOf W U w.entry → Around W U here → Forms W U (Around W U) (with_walked names here start w)
  w-with_walked names here start w U g h =
      f-bind W U Any (Around W U) (unless (not (is_taken (symbol names w.token) start here)) w.token Twice) _ (f-unless W U (not (is_taken (symbol names w.token) start here)) w.token Twice) (λ u q.
      f-pure W U (Around W U) (with_entry here (symbol names w.token) w.entry) (with-entry W U here (symbol names w.token) w.entry g h))

  until : (a b c : ℕ) → a ≤ b → b ≤ c → a ≤ c
  until a b c i j = omega (arith, i, j)

  w-entered_with : (names : Names) (level : Inside) (here : Context) (c : Option ℕ) (start : ℕ) (x : Chunked) (i : Iter) → LevelForms W level → Around W V here → Maybe (ChunkOf W V) x.chunk → PlainEntry x.entry
      → Walks W V.bound (EnteredOf W V) (entered_with names level here c start x i)
  unfolding entered_with
  w-entered_with names level here c start x i l r g p =
      w-bind W V.bound (WalkedOf W V) (EnteredOf W V) (walked level here i) _ (w-walked W V level here i l r) (λ w m j q.
      let U = sight q.known m in
      let there = with_chunk names (in_construct names here c) x.entry in
      w-bind W m (λ k. Around W U) (EnteredOf W V) (with_walked names there start w) _
      (w-with_walked names there start w U q.entry (q.around there (chunk-around W V names (in_construct names here c) x.entry p (construct-around W V names here c r)))) (λ inner n k t.
      w-bind W n (λ o. Maybe (FilterOf W U)) (EnteredOf W V) (filter_where names level inner w.filter) _ (f-filter_where W (sight q.known n) names level inner w.filter l (around-later W q.known m n inner k t)) (λ f o h s.
      w-pure W o (EnteredOf W V) (record { construct = c; chunk = x.chunk; iteration = joined filtered w.made f; here = inner; reverse = w.reverse }) (λ e d. record {
        known = q.known;
        around = around-later W q.known m e inner (until m n e k (until n o e h d)) t;
        chunk = g;
        iteration = joint (IterationOf W V U) (FilterOf W U) (IterationOf W V (sight q.known e)) filtered w.made f q.made s (λ a b y z. with-filter W V U (as_iteration a) (as_optional b) y z);
      }))))

module _ (W : World) (V : Sight) where
  pub w-entered : (names : Names) (level inner : Inside) (here : Context) (k : SiteKind) (p : OptionalParallel) (i : Iter) → LevelForms W level → LevelForms W inner → Around W V here → Walks W V.bound (EnteredOf W V) (entered names level inner here k p i)
  unfolding entered
  w-entered names level inner here k syntax.AbsentParallel i l m r = w-entered_with W V names level here None (length here.scope) (record { chunk = Some part.Nothing; entry = None }) i l r tt tt
  w-entered names level inner here k (syntax.PresentParallel p) i l m r =
      w-bind W V.bound (λ e. Any) (EnteredOf W V) (new_site here (parallel_at p) k) _ (f-new_site W V here (parallel_at p) k) (λ n o j q.
      w-bind W o (λ e. ChunkedOf W V) (EnteredOf W V) (chunked_by inner here p) _ (f-chunked_by W (sight V.known o) inner here p m (around-later W V.known V.bound o here j r)) (λ c d h s.
      w-weaken W d (EnteredOf W (sight V.known d)) (EnteredOf W V) (entered_with names level here (Some n) (length here.scope) c i)
      (w-entered_with W (sight V.known d) names level here (Some n) (length here.scope) c i l (around-later W V.known V.bound d here (until W V V.bound o d j h) r) s.0 s.1) (λ a b y z. record { known = z.known; around = z.around; chunk = z.chunk; iteration = z.iteration })))
