-- What is asked of what is found: it is formed, where it stands for what is known around it.
use Rattle.std.proofs.Common.{◌≡◌, ℕ, ℤ, ◌<◌, ◌≤◌, List, [], ◌∷◌, Option, Some, Bool, true, false}
use Rattle.ada_meaning.specs.Formed.{FormedChunk, FormedComposite, FormedExpr, FormedIteration, FormedOptional, FormedPieces, FormedSelections, FormedStmt, FormedValue, IsSettled, Known as Around', Selects, composite_width, constant_shape, root_shape, width}
use Rattle.ada_meaning.specs.Shapes.{Shape, object_shape, size, subtype_shape}
use Rattle.typed_tree.specs.Classes.{with_class}
use Rattle.typed_tree.specs.Decoded.{TypedPart, Nothing, Cons, LeafCons, as_chunk, as_composite, as_expr, as_iteration, as_optional, as_piece, as_selections, as_stmt, as_value}
use Rattle.typed_tree.specs.Latest.{onto, turned}
use Rattle.typed_tree.specs.Syntax.{Expr as TypedExpr, Pieces}
use Rattle.typed_tree.specs.declared.expressions.Root.{Root}
use Rattle.typed_tree.specs.declared.expressions.Root.TheVariants as root
use Rattle.typed_tree.specs.declared.scalars.Class.{Class}
use Rattle.name_rules.specs.Expressions.{Inside}
use Rattle.name_rules.specs.Found.{Denoted, Found}
use Rattle.name_rules.specs.TypedParts.{also_all}
use Rattle.name_rules.specs.declared.found.Denoted.TheVariants as denoted
use Rattle.name_rules.specs.declared.found.Denoted.{Denoted as KnownDenoted}
use Rattle.name_rules.specs.declared.found.Found.TheVariants as known
use Rattle.name_rules.specs.declared.found.Found.{Found as Known}
use Rattle.name_rules.specs.declared.found.ObjectName.{ObjectName}
use Rattle.name_rules.specs.declared.found.Prefix.{Prefix}
use Rattle.name_rules.specs.declared.found.Prefix.TheVariants as prefix
use Rattle.name_rules.specs.declared.scope.Context.{Context}
use Rattle.name_rules.specs.declared.scope.Entry.{Entry}
use Rattle.name_rules.specs.declared.scope.Target.{Target}
use Rattle.name_rules.specs.declared.scope.Target.TheVariants as target
use Rattle.name_rules.specs.declared.scope.What.{What}
use Rattle.name_rules.specs.declared.scope.What.TheVariants as what
use Rattle.name_rules.specs.declared.types.Subtype.{Subtype}
use Rattle.name_rules.specs.declared.types.Wanted.{Wanted}
use Rattle.syntax_tree.specs.Syntax.{Name, Primary}
use Rattle.name_formed.proofs.Forms.{Forms, Maybe, Sight, Small, World, shape_of}

-- ---- lists that grow: each item is as is asked

abbrev pub Each : (TypedPart → Type 0) → TypedPart → Type 0
Each Q (Cons p q) = Q p × Each Q q
Each Q (LeafCons l q) = Each Q q
Each Q p = Unit {0}

pub each-onto : (Q : TypedPart → Type 0) (p rest : TypedPart) → Each Q p → Each Q rest → Each Q (onto p rest)
each-onto Q (Cons p q) rest h k = each-onto Q q (Cons p rest) h.1 (h.0, k)
each-onto Q (LeafCons l q) rest h k = each-onto Q q (LeafCons l rest) h k
each-onto Q p rest h k = k

pub each-turned : (Q : TypedPart → Type 0) (p : TypedPart) → Each Q p → Each Q (turned p)
unfolding turned
each-turned Q p h = each-onto Q p Nothing h tt

pub each-all : (Q : TypedPart → Type 0) (done more : TypedPart) → Each Q done → Each Q more → Each Q (also_all done more)
unfolding also_all
each-all Q done more h k = each-onto Q (turned more) done (each-turned Q more k) h

-- ---- expressions

abbrev pub ExprOf : World → Sight → TypedPart → Type 0
ExprOf W V x = FormedExpr W.program V.known (as_expr x)

-- a universal expression is formed once it takes a class
abbrev pub OpenOf : World → Sight → TypedExpr → Type 0
OpenOf W V e = (c : Class) → IsSettled c → FormedExpr W.program V.known (with_class c e)

abbrev pub MentionsOf : World → Sight → TypedPart → Type 0
MentionsOf W V x = Each (ExprOf W V) x

-- ---- names

-- selections that lead from one shape to another, before those behind them
abbrev pub PathOf : World → Sight → Shape → Shape → TypedPart → Type 0
PathOf W V t u x =
    (r : TypedPart) (v : Shape) → Selects (as_selections r) u v → FormedSelections W.program V.known (as_selections r)
    → Selects (as_selections (onto x r)) t v × FormedSelections W.program V.known (as_selections (onto x r))

abbrev pub RootOf : World → Sight → Bool → Root → Shape → Type 0
RootOf W V true r t = root_shape W.program V.known r ≡ Some t
RootOf W V false r t = constant_shape W.program V.known r ≡ Some t

-- the name of an object or of a part of one, where it stands in what is known
pub record Placed (W : World) (w : Around') (p : ObjectName) (x : TypedPart) : Type 0 where
  pub whole : Shape
  pub root : RootOf W (record { known = w; bound = 0 }) p.variable p.root whole
  pub path : PathOf W (record { known = w; bound = 0 }) whole (shape_of W.program p.subtype) x
  pub small : Small (shape_of W.program p.subtype)
  pub static : (z : ℤ) → p.value ≡ Some z → MentionsOf W (record { known = w; bound = 0 }) x

abbrev pub PlaceOf : World → Sight → ObjectName → TypedPart → Type 0
PlaceOf W V p x = Placed W V.known p x

-- ---- values

abbrev pub CompositeOf : World → Sight → TypedPart → Type 0
CompositeOf W V x = FormedComposite W.program V.known (as_composite x)

-- of no more cells than its subtype has
abbrev pub WideOf : World → Sight → ℕ → TypedPart → Type 0
WideOf W V n x = CompositeOf W V x × (composite_width W.program.subtypes (as_composite x) ≤ size (subtype_shape W.program n))

abbrev pub ValueOf : World → Sight → Subtype → TypedPart → Type 0
ValueOf W V t x = FormedValue W.program V.known (as_value x) × (width W.program.subtypes (as_value x) ≤ size (shape_of W.program t))

abbrev pub IsPiece : World → Sight → TypedPart → Type 0
IsPiece W V p = (ps : Pieces) → FormedPieces W.program V.known ps → FormedPieces W.program V.known (as_piece p ps)

abbrev pub KnownOf : World → Sight → Known → TypedPart → Type 0
KnownOf W V (known.Universal first z alone) x = MentionsOf W V x
KnownOf W V (known.Open first l) x = OpenOf W V (as_expr x)
KnownOf W V (known.Static first k z) x = MentionsOf W V x
KnownOf W V (known.Object p) x = PlaceOf W V p x
KnownOf W V (known.Scalar first k n) x = ExprOf W V x
KnownOf W V (known.Composite first n) x = WideOf W V n x
KnownOf W V (known.Rest first) x = CompositeOf W V x
KnownOf W V (known.Text first) x = Each (IsPiece W V) x

abbrev pub FoundOf : World → Sight → Found → Type 0
FoundOf W V f = KnownOf W V f.known f.part

abbrev pub Finding : World → Sight → Option Found → Type 0
Finding W V = Maybe (FoundOf W V)

-- ---- what names denote

abbrev pub PrefixOf : World → Sight → Prefix → TypedPart → Type 0
PrefixOf W V (prefix.Object p) x = PlaceOf W V p x
PrefixOf W V (prefix.Parameter s) x = ExprOf W V x
PrefixOf W V p x = Unit {0}

abbrev pub DenotesOf : World → Sight → KnownDenoted → TypedPart → Type 0
DenotesOf W V (denoted.Value f) x = KnownOf W V f x
DenotesOf W V (denoted.Parameter first s) x = ExprOf W V x
DenotesOf W V (denoted.Sub first last n) x = n < V.known.declared
DenotesOf W V (denoted.Done first) x = FormedStmt W.program V.known (as_stmt x)
DenotesOf W V (denoted.Attribute first p at a) x = PrefixOf W V p x
DenotesOf W V (denoted.Range first d) x = MentionsOf W V x
DenotesOf W V d x = Unit {0}

abbrev pub DenotedOf : World → Sight → Denoted → Type 0
DenotedOf W V d = DenotesOf W V d.known d.part

-- ---- iterations

-- an iteration from around it to around its body
abbrev pub IterationOf : World → Sight → Sight → TypedPart → Type 0
IterationOf W V U x = FormedIteration W.program V.known (as_iteration x) (λ w. w ≡ U.known)

abbrev pub ChunkOf : World → Sight → TypedPart → Type 0
ChunkOf W V x = FormedChunk W.program V.known (as_chunk x)

abbrev pub FilterOf : World → Sight → TypedPart → Type 0
FilterOf W V x = FormedOptional W.program V.known (as_optional x)

-- ---- what is declared around a text

abbrev pub WhatOf : World → Sight → What → Type 0
WhatOf W V (what.Object n t v z) = (object_shape W.program n ≡ shape_of W.program t) × Small (shape_of W.program t)
WhatOf W V (what.Item n t v) = (n < V.bound) × RootOf W V v (root.Item n) (shape_of W.program t) × Small (shape_of W.program t)
WhatOf W V (what.Sub n) = n < V.known.declared
WhatOf W V w = Unit {0}

abbrev pub AreOf : World → Sight → List Entry → Type 0
AreOf W V [] = Unit {0}
AreOf W V (e ∷ es) = WhatOf W V e.what × AreOf W V es

abbrev pub TargetOf : World → Sight → Target → Type 0
TargetOf W V (target.Of t) = V.known.target ≡ Some (shape_of W.program t)
TargetOf W V t = Unit {0}

pub record Around (W : World) (V : Sight) (here : Context) : Type 0 where
  pub scope : AreOf W V here.scope
  pub target : TargetOf W V here.target

-- ---- levels of brackets

pub record LevelForms (W : World) (level : Inside) : Type 0 where
  pub primary : (V : Sight) (here : Context) (p : Primary) (want : Wanted) → Around W V here → Forms W V (Finding W V) (level.primary here p want)
  pub name : (V : Sight) (here : Context) (x : Name) → Around W V here → Forms W V (Maybe (DenotedOf W V)) (level.name here x)
