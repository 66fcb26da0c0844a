-- What is asked of what is found: it stands in scope, with as many cells as what it goes to.
use Rattle.std.proofs.Common.{◌≡◌, ℕ, ℤ, ◌<◌, List, [], ◌∷◌, Option, Some, Bool, true, false, map, drop, slice_get}
use Rattle.behaviours.specs.Paths.{Entity, ConstantOf, VariableOf}
use Rattle.ada_meaning.specs.Shapes.{array_of, size, subtype_shape}
use Rattle.typed_scopes.specs.Scopes.{ConstantSeen, VariableSeen}
use Rattle.name_laws.proofs.Walked.{KeepsInside}
use Rattle.name_scopes.proofs.Faults.{counting}
use Rattle.name_scopes.proofs.Seen.{SeenStmt, SeenChunk, SeenComposite, SeenExpr, SeenIteration, SeenOptional, SeenPieces, SeenSelections, SeenValue}
use Rattle.typed_tree.specs.Classes.{with_class}
use Rattle.typed_tree.specs.Decoded.{TypedPart, Nothing, Cons, LeafCons, as_chunk, as_composite, as_expr, as_iteration, as_optional, as_piece, as_selections, as_stmt, as_value}
use Rattle.typed_tree.specs.Latest.{onto, turned}
use Rattle.typed_tree.specs.Syntax.{Expr as TypedExpr, Pieces}
use Rattle.typed_tree.specs.declared.expressions.Root.{Root}
use Rattle.typed_tree.specs.declared.scalars.Class.{Class}
use Rattle.name_rules.specs.Expressions.{Inside}
use Rattle.name_rules.specs.Found.{Denoted, Found}
use Rattle.name_rules.specs.Resolved.{dimension_bounds}
use Rattle.name_rules.specs.Shapes.{is_aggregate_form}
use Rattle.name_rules.specs.TypedParts.{also_all}
use Rattle.name_rules.specs.declared.found.Denoted.TheVariants as denoted
use Rattle.name_rules.specs.declared.found.Denoted.{Denoted as KnownDenoted}
use Rattle.name_rules.specs.declared.found.Found.TheVariants as known
use Rattle.name_rules.specs.declared.found.Found.{Found as Known}
use Rattle.name_rules.specs.declared.found.ObjectName.{ObjectName}
use Rattle.name_rules.specs.declared.found.Prefix.{Prefix}
use Rattle.name_rules.specs.declared.found.Prefix.TheVariants as prefix
use Rattle.name_rules.specs.declared.log.Dimension.{Dimension}
use Rattle.name_rules.specs.declared.log.Shape.TheVariants as entry
use Rattle.name_rules.specs.declared.scope.Context.{Context}
use Rattle.name_rules.specs.declared.scope.Entry.{Entry}
use Rattle.name_rules.specs.declared.scope.Target.{Target}
use Rattle.name_rules.specs.declared.scope.Target.TheVariants as target
use Rattle.name_rules.specs.declared.scope.What.{What}
use Rattle.name_rules.specs.declared.scope.What.TheVariants as what
use Rattle.name_rules.specs.declared.types.Subtype.{Subtype}
use Rattle.name_rules.specs.declared.types.Wanted.{Wanted}
use Rattle.name_rules.specs.declared.types.Wanted.TheVariants as wanted
use Rattle.syntax_tree.specs.Syntax.{Name, Primary}
use Rattle.name_formed.proofs.Forms.{Small, shape_of}
use Rattle.name_rules.specs.declared.log.Profile.{Profile}
use Rattle.name_scopes.proofs.Sees.{AreTaken, Sees, Maybe, Sight, World}

-- ---- lists that grow: each item is as is asked

abbrev pub Each : (TypedPart → Type 0) → TypedPart → Type 0
Each Q (Cons p q) = Q p × Each Q q
Each Q (LeafCons l q) = Each Q q
Each Q p = Unit {0}

pub each-onto : (Q : TypedPart → Type 0) (p rest : TypedPart) → Each Q p → Each Q rest → Each Q (onto p rest)
each-onto Q (Cons p q) rest h k = each-onto Q q (Cons p rest) h.1 (h.0, k)
each-onto Q (LeafCons l q) rest h k = each-onto Q q (LeafCons l rest) h k
each-onto Q p rest h k = k

pub each-turned : (Q : TypedPart → Type 0) (p : TypedPart) → Each Q p → Each Q (turned p)
unfolding turned
each-turned Q p h = each-onto Q p Nothing h tt

pub each-all : (Q : TypedPart → Type 0) (done more : TypedPart) → Each Q done → Each Q more → Each Q (also_all done more)
unfolding also_all
each-all Q done more h k = each-onto Q (turned more) done (each-turned Q more k) h

-- ---- expressions

abbrev pub ExprOf : World → Sight → TypedPart → Type 0
ExprOf W V x = SeenExpr W.program W.shown V.around (as_expr x)

-- what is mentioned stands in scope, though it isn't evaluated
abbrev pub MentionsOf : World → Sight → TypedPart → Type 0
MentionsOf W V x = Each (ExprOf W V) x

-- a universal expression, whichever class it takes
abbrev pub OpenOf : World → Sight → TypedExpr → Type 0
OpenOf W V e = (c : Class) → SeenExpr W.program W.shown V.around (with_class c e)

-- ---- names

-- selections so far, before those behind them
abbrev pub PathOf : World → Sight → TypedPart → Type 0
PathOf W V x = (r : TypedPart) → SeenSelections W.program W.shown V.around (as_selections r) → SeenSelections W.program W.shown V.around (as_selections (onto x r))

abbrev pub RootOf : Sight → Bool → Root → Type 0
RootOf V true r = VariableSeen V.around r
RootOf V false r = ConstantSeen V.around r

-- the name of an object in scope or of a part of one
pub record Placed (W : World) (V : Sight) (p : ObjectName) (x : TypedPart) : Type 0 where
  pub root : RootOf V p.variable p.root
  pub path : PathOf W V x
  pub small : Small (shape_of W.program p.subtype)
  pub static : (z : ℤ) → p.value ≡ Some z → MentionsOf W V x

abbrev pub PlaceOf : World → Sight → ObjectName → TypedPart → Type 0
PlaceOf W V p x = Placed W V p x

-- ---- values: they have the cells of their subtype, where that has no more than all objects of a program may have

abbrev pub WideOf : World → Sight → ℕ → TypedPart → Type 0
WideOf W V n x = Small (subtype_shape W.program n) → SeenComposite W.program W.shown V.around (size (subtype_shape W.program n)) (as_composite x)

abbrev pub ValueOf : World → Sight → Subtype → TypedPart → Type 0
ValueOf W V t x = Small (shape_of W.program t) → SeenValue W.program W.shown V.around (size (shape_of W.program t)) (as_value x)

abbrev pub IsPiece : World → Sight → TypedPart → Type 0
IsPiece W V p = (ps : Pieces) → SeenPieces W.program W.shown V.around ps → SeenPieces W.program W.shown V.around (as_piece p ps)

abbrev pub KnownOf : World → Sight → Known → TypedPart → Type 0
KnownOf W V (known.Universal first z alone) x = MentionsOf W V x
KnownOf W V (known.Open first l) x = OpenOf W V (as_expr x)
KnownOf W V (known.Static first k z) x = MentionsOf W V x
KnownOf W V (known.Object p) x = PlaceOf W V p x
KnownOf W V (known.Scalar first k n) x = ExprOf W V x
KnownOf W V (known.Composite first n) x = WideOf W V n x
KnownOf W V (known.Rest first) x = Unit {0}
KnownOf W V (known.Text first) x = Each (IsPiece W V) x

abbrev pub FoundOf : World → Sight → Found → Type 0
FoundOf W V f = KnownOf W V f.known f.part

abbrev pub Finding : World → Sight → Option Found → Type 0
Finding W V = Maybe (FoundOf W V)

-- an aggregate of the dimensions of an array behind the first so many
abbrev pub RestOf : World → Sight → ℕ → ℕ → Found → Type 0
RestOf W V n i f =
    (ds : List Dimension) (c : Subtype) (k cells : ℕ) → slice_get W.shapes n ≡ Some (entry.Array ds c k cells) → Small (subtype_shape W.program n)
    → SeenComposite W.program W.shown V.around (size (array_of (map dimension_bounds (drop i ds)) (shape_of W.program c))) (as_composite f.part)

-- ---- what names denote

abbrev pub PrefixOf : World → Sight → Prefix → TypedPart → Type 0
PrefixOf W V (prefix.Object p) x = PlaceOf W V p x
PrefixOf W V (prefix.Parameter s) x = ExprOf W V x
PrefixOf W V p x = Unit {0}

-- a subprogram that may be called: the main procedure's objects that it sees are there, and its formals have cells
abbrev pub IsCalled : World → Sight → ℕ → Type 0
IsCalled W V n = (n < V.bound) × ((y : Entity) → W.shown n y ≡ true → V.around.outer y ≡ true) × ((p : Profile) → slice_get W.all n ≡ Some p → AreTaken W.program p.takes)

abbrev pub DenotesOf : World → Sight → KnownDenoted → TypedPart → Type 0
DenotesOf W V (denoted.Value f) x = KnownOf W V f x
DenotesOf W V (denoted.Parameter first s) x = ExprOf W V x
DenotesOf W V (denoted.Sub first last n) x = IsCalled W V n
DenotesOf W V (denoted.Done first) x = SeenStmt W.program W.shown V.around (as_stmt x)
DenotesOf W V (denoted.Attribute first p at a) x = PrefixOf W V p x
DenotesOf W V (denoted.Range first d) x = MentionsOf W V x
DenotesOf W V d x = Unit {0}

abbrev pub DenotedOf : World → Sight → Denoted → Type 0
DenotedOf W V d = DenotesOf W V d.known d.part

-- ---- iterations

-- an iteration, with its chunks, from around it to around its body
abbrev pub IterationOf : World → Sight → Sight → Sight → TypedPart → Type 0
IterationOf W V C U x = SeenIteration W.program W.shown V.around C.around (as_iteration x) (λ u. u ≡ U.around)

abbrev pub ChunkOf : World → Sight → TypedPart → Type 0
ChunkOf W V x = SeenChunk W.program W.shown V.around (as_chunk x)

abbrev pub FilterOf : World → Sight → TypedPart → Type 0
FilterOf W V x = SeenOptional W.program W.shown V.around (as_optional x)

-- ---- what is declared around a text

abbrev pub entity : Bool → ℕ → Entity
entity true n = VariableOf n
entity false n = ConstantOf n

abbrev pub WhatOf : World → Sight → What → Type 0
WhatOf W V (what.Object n t v z) = (V.around.object (entity v n) ≡ true) × Small (shape_of W.program t)
WhatOf W V (what.Item n t v) = Small (shape_of W.program t)
WhatOf W V (what.Parameter n s) = V.around.parameter n ≡ true
WhatOf W V (what.Sub n) = IsCalled W V n
WhatOf W V w = Unit {0}

abbrev pub AreOf : World → Sight → List Entry → Type 0
AreOf W V [] = Unit {0}
AreOf W V (e ∷ es) = WhatOf W V e.what × AreOf W V es

abbrev pub TargetOf : World → Sight → Target → Type 0
TargetOf W V (target.Of t) = V.around.target ≡ Some (size (shape_of W.program t))
TargetOf W V t = Unit {0}

pub record Around (W : World) (V : Sight) (here : Context) : Type 0 where
  pub scope : AreOf W V here.scope
  pub target : TargetOf W V here.target

-- ---- levels of brackets

pub record LevelSees (W : World) (level : Inside) : Type 0 where
  pub keeps : KeepsInside counting level
  pub primary : (V : Sight) (here : Context) (p : Primary) (want : Wanted) → Around W V here → Sees W V (Finding W V) (level.primary here p want)
  pub name : (V : Sight) (here : Context) (x : Name) → Around W V here → Sees W V (Maybe (DenotedOf W V)) (level.name here x)
  pub rest : (V : Sight) (here : Context) (p : Primary) (n i : ℕ) → Around W V here → is_aggregate_form (Some p) ≡ true → Sees W V (Maybe (RestOf W V n i)) (level.primary here p (wanted.Rest n i))
