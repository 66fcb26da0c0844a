-- What is found is in scope: chunk specifications, iterations, and what is in scope around their bodies.
use Rattle.std.proofs.Common.{◌≡◌, refl, sym, ap, subst, ◌∙◌, ℕ, ◌<◌, ◌≤◌, nat_eq, List, [], ◌∷◌, ◌++◌, length, Option, Some, None, Bool, true, false, if◌then◌else◌, option_map, eq-eqb, arith}
use Rattle.std.specs.Prelude.{cond, is_some, not, ◌/◌}
use Rattle.syntax_tree.specs.Syntax as syntax
use Rattle.syntax_tree.specs.Syntax.{Iter, OptionalExpr, OptionalParallel, Parallel, Simple}
use Rattle.typed_tree.specs.Decoded as part
use Rattle.typed_tree.specs.Decoded.{TypedPart, as_iteration, as_optional}
use Rattle.typed_tree.specs.Syntax as typed
use Rattle.typed_tree.specs.Syntax.{Iteration, Optional}
use Rattle.typed_tree.specs.declared.program.SiteKind.{SiteKind}
use Rattle.name_rules.specs.Expressions.{Inside, condition, simple}
use Rattle.name_rules.specs.Found.{Bounded, Denoted}
use Rattle.name_rules.specs.Iterations.{Chunked, Entered, Walked, array_walked, chunk_count, chunked_by, counted, each_chunk, entered, entered_with, filter_where, filtered, in_construct, no_array, over_denoted, over_form, over_place, parallel_at, parameter_what, range_made, walked, with_chunk, with_filter, with_walked}
use Rattle.name_rules.specs.Judging.{◌>>=◌, breaks, joined, pure, unless}
use Rattle.name_rules.specs.Names.{denoted_first, is_array}
use Rattle.name_rules.specs.Parts.{array_shape, new_parameter, new_site}
use Rattle.name_rules.specs.Ranges.{range}
use Rattle.name_rules.specs.Scope.{entry, is_taken, with_entry}
use Rattle.name_rules.specs.Symbols.{symbol}
use Rattle.name_rules.specs.TypedParts.{selections_of}
use Rattle.name_rules.specs.Types.{cells_in, shape_in}
use Rattle.name_rules.specs.Values.{any_integer}
use Rattle.name_rules.specs.declared.found.Denoted.TheVariants as denoted
use Rattle.name_rules.specs.declared.found.Denoted.{Denoted as KnownDenoted}
use Rattle.name_rules.specs.declared.found.Found.TheVariants as known
use Rattle.name_rules.specs.declared.found.ObjectName.{ObjectName}
use Rattle.name_rules.specs.declared.log.Dimension.{Dimension}
use Rattle.name_rules.specs.declared.log.Log.{Log}
use Rattle.name_rules.specs.declared.log.Rule.TheVariants.{Twice, WrongType}
use Rattle.name_rules.specs.declared.log.Shape.{Shape as Entry'}
use Rattle.name_rules.specs.declared.log.Shape.TheVariants as entry'
use Rattle.name_rules.specs.declared.scope.Context.{Context}
use Rattle.name_rules.specs.declared.scope.Entry.{Entry}
use Rattle.name_rules.specs.declared.scope.Names.{Names}
use Rattle.name_rules.specs.declared.scope.Target.{Target}
use Rattle.name_rules.specs.declared.scope.Target.TheVariants as target
use Rattle.name_rules.specs.declared.scope.What.{What}
use Rattle.name_rules.specs.declared.scope.What.TheVariants as what
use Rattle.name_rules.specs.declared.types.Subtype.{Subtype}
use Rattle.name_rules.specs.declared.types.Subtype.TheVariants as subtype
use Rattle.name_rules.specs.declared.types.Wanted.TheVariants as wanted
use Rattle.name_scopes.proofs.SeesExpressions.{v-condition, v-simple}
use Rattle.name_scopes.proofs.SeesRanges.{BoundedOf, v-range}
use Rattle.name_scopes.proofs.SeesValues.{as-constant, as-variable, path-whole, v-any_integer}
use Rattle.behaviours.specs.Paths.{Entity}
use Rattle.typed_scopes.specs.Scopes as scopes
use Rattle.typed_scopes.specs.Scopes.{ArraySeen}
use Rattle.typed_tree.specs.Decoded.{as_chunk}
use Rattle.typed_tree.specs.Syntax.{Chunk}
use Rattle.ada_meaning.specs.Shapes.{ComponentAt, Shape, array_of, subtype_shape}
use Rattle.name_rules.specs.Resolved.{dimension_bounds}
use Rattle.name_laws.proofs.CellsCounted.{HaveValues, extent_count}
use Rattle.typed_tree.specs.Layout.{count}
use Rattle.std.proofs.Common.{map, ◌*◌}
use Rattle.std.proofs.Math.Nat.{le-mul_of_pos_right, mul_comm}
use Rattle.name_formed.proofs.Forms.{HasDimensions, Small, shape_of}
use Rattle.name_scopes.proofs.Seen.{SeenIteration, SeenOptional}
use Rattle.name_scopes.proofs.Sees.{Any, Sees, Maybe, Sight, World, seeing, v-bind, v-breaks, v-given, v-new_parameter, v-pure, v-seeing, v-some, v-unless, v-weaken, joint, mapped}
use Rattle.name_scopes.proofs.SeesFound.{AreOf, Around, ChunkOf, DenotedOf, DenotesOf, ExprOf, FilterOf, Finding, FoundOf, LevelSees, PlaceOf, TargetOf, WhatOf, entity}

-- ---- more in scope

-- all that was in scope is so still
pub record Wider (v u : scopes.Around) : Type 0 where
  pub object : (y : Entity) → v.object y ≡ true → u.object y ≡ true
  pub outer : (y : Entity) → v.outer y ≡ true → u.outer y ≡ true
  pub parameter : (k : ℕ) → v.parameter k ≡ true → u.parameter k ≡ true

pub either : (b x : Bool) → x ≡ true → cond b true x ≡ true
either true x h = refl
either false x h = h

pub wider-same : (v : scopes.Around) → Wider v v
wider-same v = record { object = λ y h. h; outer = λ y h. h; parameter = λ k h. h }

pub wider-parameter : (k : ℕ) (v : scopes.Around) → Wider v (scopes.with_parameter k v)
wider-parameter k v = record { object = λ y h. h; outer = λ y h. h; parameter = λ j h. either (nat_eq j k) (v.parameter j) h }

pub wider-joined : (v u w : scopes.Around) → Wider v u → Wider u w → Wider v w
wider-joined v u w f g = record { object = λ y h. g.object y (f.object y h); outer = λ y h. g.outer y (f.outer y h); parameter = λ k h. g.parameter k (f.parameter k h) }

pub its-parameter : (k : ℕ) (v : scopes.Around) → (scopes.with_parameter k v).parameter k ≡ true
its-parameter k v = ap (λ b. cond b true (v.parameter k)) (eq-eqb k k refl)

module _ (W : World) where
  pub what-wider : (v u : scopes.Around) (V : Sight) (x : What) → Wider v u → WhatOf W (seeing v V) x → WhatOf W (seeing u V) x
  what-wider v u V (what.Object n t k z) w h = (w.object (entity k n) h.0, h.1)
  what-wider v u V (what.Item n t k) w h = h
  what-wider v u V (what.Parameter n s) w h = w.parameter n h
  what-wider v u V (what.Sub n) w h = (h.0, (λ y e. w.outer y (h.1 y e)), h.2)
  what-wider v u V x w h = tt

  pub are-wider : (v u : scopes.Around) (V : Sight) (es : List Entry) → Wider v u → AreOf W (seeing v V) es → AreOf W (seeing u V) es
  are-wider v u V [] w h = tt
  are-wider v u V (e ∷ es) w h = (what-wider v u V e.what w h.0, are-wider v u V es w h.1)

  target-same : (v u : scopes.Around) (V : Sight) (t : Target) → u.target ≡ v.target → TargetOf W (seeing v V) t → TargetOf W (seeing u V) t
  target-same v u V (target.Of t) e h = e ∙ h
  target-same v u V t e h = tt

  pub around-wider : (v u : scopes.Around) (V : Sight) (here : Context) → Wider v u → u.target ≡ v.target → Around W (seeing v V) here → Around W (seeing u V) here
  around-wider v u V here w e h = record { scope = are-wider v u V here.scope w h.scope; target = target-same v u V here.target e h.target }

  pub are-both : (V : Sight) (a b : List Entry) → AreOf W V a → AreOf W V b → AreOf W V (a ++ b)
  are-both V [] b h k = k
  are-both V (e ∷ a) b h k = (h.0, are-both V a b h.1 k)

  pub with-entry : (V : Sight) (here : Context) (name : ℕ) (x : What) → WhatOf W V x → Around W V here → Around W V (with_entry here name x)
  with-entry V here name x g h = record { scope = are-both V here.scope (entry name x ∷ []) h.scope (g, tt); target = h.target }

-- ---- chunk specifications

-- what is in scope where so much was found of chunks
abbrev pub chunk-around : scopes.Around → Option TypedPart → scopes.Around
chunk-around v None = v
chunk-around v (Some c) = scopes.with_chunk (as_chunk c) v

wider-by : (c : Chunk) (v : scopes.Around) → Wider v (scopes.with_chunk c v)
wider-by typed.NoChunk v = wider-same v
wider-by (typed.Count e) v = wider-same v
wider-by (typed.Each k low high check) v = wider-parameter k v

pub wider-chunk : (c : Option TypedPart) (v : scopes.Around) → Wider v (chunk-around v c)
wider-chunk None v = wider-same v
wider-chunk (Some c) v = wider-by (as_chunk c) v

target-by : (c : Chunk) (v : scopes.Around) → (scopes.with_chunk c v).target ≡ v.target
target-by typed.NoChunk v = refl
target-by (typed.Count e) v = refl
target-by (typed.Each k low high check) v = refl

pub target-chunk : (c : Option TypedPart) (v : scopes.Around) → (chunk-around v c).target ≡ v.target
target-chunk None v = refl
target-chunk (Some c) v = target-by (as_chunk c) v

abbrev EntryOf : World → Sight → Option (ℕ × What) → Type 0
EntryOf W V None = Unit {0}
EntryOf W V (Some e) = WhatOf W V e.1

no-less : (e c : ℕ) → 0 < e → c ≤ e * c
no-less e c h = subst (λ x. c ≤ x) (mul_comm c e) (le-mul_of_pos_right c h)

-- an array without an empty dimension has a component
some-components : (ds : List Dimension) (t u : Shape) (n : ℕ) → HaveValues ds → ComponentAt (array_of (map dimension_bounds ds) t) (length ds) n u → 1 ≤ n
some-components [] t u n h k = omega (arith, k.0)
some-components (d ∷ ds) t u n h k =
    let one : 0 < count (dimension_bounds d) = subst (λ m. 0 < m) (extent_count d h.0) (omega arith) in
    omega (arith, k.1, no-less (count (dimension_bounds d)) k.0 one, some-components ds t u k.0 h.1 k.2)

module _ (W : World) (V : Sight) where
  pub v-new_site : (here : Context) (at : ℕ) (k : SiteKind) → Sees W V Any (new_site here at k)
  v-new_site here at k = record { at = λ log h l. (h, l.0, tt) }

  pub v-chunk_count : (level : Inside) (here : Context) (s : Simple) → LevelSees W level → Around W V here → Sees W V (Maybe (ExprOf W V)) (chunk_count level here s)
  unfolding chunk_count
  v-chunk_count level here s l r = v-bind W V (Finding W V) (Maybe (ExprOf W V)) (simple level here wanted.Other s) _ (v-simple W V level here wanted.Other s l r) (λ x q. v-given W V (FoundOf W V) (ExprOf W V) x any_integer q (λ f t. v-any_integer W V f t))

  abbrev ChunkedOf : Chunked → Type 0
  ChunkedOf c = Maybe (ChunkOf W V) c.chunk × EntryOf W (seeing (chunk-around V.around c.chunk) V) c.entry

  chunked-each : (index n : ℕ) (b : Option Bounded) → Maybe (BoundedOf W V) b → ChunkedOf (record { chunk = option_map (each_chunk n) b; entry = Some (index, parameter_what n b) })
  chunked-each index n None h = (tt, tt)
  chunked-each index n (Some b) h = (h, its-parameter n V.around)

  v-chunked_by : (inner : Inside) (here : Context) (p : Parallel) → LevelSees W inner → Around W V here → Sees W V ChunkedOf (chunked_by inner here p)
  unfolding chunked_by
  v-chunked_by inner here (syntax.Unchunked at) l r = v-pure W V ChunkedOf (record { chunk = Some part.Nothing; entry = None }) (tt, tt)
  v-chunked_by inner here (syntax.Counted at s) l r =
      v-bind W V (Maybe (ExprOf W V)) ChunkedOf (chunk_count inner here s) _ (v-chunk_count inner here s l r) (λ e q. v-pure W V ChunkedOf (record { chunk = option_map counted e; entry = None }) (mapped (ExprOf W V) (ChunkOf W V) counted e q (λ x t. t), tt))
  v-chunked_by inner here (syntax.Chunked at index x) l r =
      v-bind W V (Maybe (BoundedOf W V)) ChunkedOf (range inner here x) _ (v-range W V inner here x l r) (λ b q.
      v-bind W V Any ChunkedOf new_parameter _ (v-new_parameter W V) (λ n p.
      v-pure W V ChunkedOf (record { chunk = option_map (each_chunk n) b; entry = Some (index, parameter_what n b) }) (chunked-each index n b q)))

-- ---- iterations

-- what is in scope around what an iteration does, where so much is around the iteration and its chunks
pub record WalkedOf (W : World) (V : Sight) (c : scopes.Around) (w : Walked) : Type 0 where
  pub around : scopes.Around
  pub made : Maybe (λ x. SeenIteration W.program W.shown V.around c (as_iteration x) (λ u. u ≡ around)) w.made
  pub entry : WhatOf W (seeing around V) w.entry
  pub wider : Wider c around
  pub same : around.target ≡ c.target

module _ (W : World) (V : Sight) (c : scopes.Around) where
  -- no item, and nothing that is gone through
  no-walk : (token : ℕ) (f : OptionalExpr) → WalkedOf W V c (no_array token f)
  no-walk token f = record { around = c; made = tt; entry = tt; wider = wider-same c; same = refl }

  array-seen : (p : ObjectName) (x : TypedPart) (b : Bool) → PlaceOf W V p x → p.variable ≡ b → ArraySeen (not b) V.around p.root
  array-seen p x true h v = (as-variable W V p x h v).0
  array-seen p x false h v = (as-constant W V p x h v).0

  -- an item of a component
  pub item-walk : (p : ObjectName) (x : TypedPart) (n token : ℕ) (f : OptionalExpr) (k : ℕ) (ds : List Dimension) (t : Subtype) (one cells : ℕ) → PlaceOf W V p x → HasDimensions W.program k ds t one cells × HaveValues ds
      → WalkedOf W V c (record { made = Some (part.AnIteration (typed.Components n (not p.variable) p.first p.root (selections_of x) (cells / one) one (length ds) typed.Absent)); token = token; entry = what.Item n t p.variable; filter = f; reverse = None })
  item-walk p x n token f k ds t one cells h d = record {
    around = c;
    made = (some-components ds (shape_of W.program t) (shape_of W.program t) (cells / one) d.1 (subst (λ u. ComponentAt u (length ds) (cells / one) (shape_of W.program t)) d.0.shape d.0.component), array-seen p x p.variable h refl, path-whole W V p x h, tt, refl);
    entry = d.0.small;
    wider = wider-same c;
    same = refl;
  }

  v-no_place : (at token : ℕ) (f : OptionalExpr) → Sees W V (WalkedOf W V c) (breaks at WrongType >>= λ u. pure (no_array token f))
  v-no_place at token f = v-bind W V Any (WalkedOf W V c) (breaks at WrongType) _ (v-breaks W V at WrongType) (λ u q. v-pure W V (WalkedOf W V c) (no_array token f) (no-walk token f))

  v-over_shape : (p : ObjectName) (x : TypedPart) (n token : ℕ) (f : OptionalExpr) (k : ℕ) (log : Log) (t : Option Entry') → PlaceOf W V p x
      → ((ds : List Dimension) (e : Subtype) (j cells : ℕ) → t ≡ Some (entry'.Array ds e j cells) → HasDimensions W.program k ds e (cells_in log e) cells × HaveValues ds)
      → Sees W V (WalkedOf W V c) (if is_array t then pure (array_walked log n token f p (selections_of x) t) else (breaks p.first WrongType >>= λ u. pure (no_array token f)))
  v-over_shape p x n token f k log (Some (entry'.Array ds e j cells)) h d = v-pure W V (WalkedOf W V c) (array_walked log n token f p (selections_of x) (Some (entry'.Array ds e j cells))) (item-walk p x n token f k ds e (cells_in log e) cells h (d ds e j cells refl))
  v-over_shape p x n token f k log (Some (entry'.Record fs cells)) h d = v-no_place p.first token f
  v-over_shape p x n token f k log (Some (entry'.Scalar s)) h d = v-no_place p.first token f
  v-over_shape p x n token f k log None h d = v-no_place p.first token f

  small-at : (p : ObjectName) (x : TypedPart) (k : ℕ) → PlaceOf W V p x → p.subtype ≡ subtype.Composite k → Small (subtype_shape W.program k)
  small-at p x k h e = subst (λ t. Small (shape_of W.program t)) e h.small

  v-over_place : (p : ObjectName) (x : TypedPart) (n token : ℕ) (f : OptionalExpr) (t : Subtype) → p.subtype ≡ t → PlaceOf W V p x → Sees W V (WalkedOf W V c) (over_place n token f p (selections_of x))
  v-over_place p x n token f (subtype.Composite k) e h =
      subst (λ u. Sees W V (WalkedOf W V c) (λ log. (if is_array (array_shape log u) then pure (array_walked log n token f p (selections_of x) (array_shape log u)) else (breaks p.first WrongType >>= λ y. pure (no_array token f))) log)) (sym e)
      (record { at = λ log i j. (v-over_shape p x n token f k log (shape_in log k) h (λ ds g q cells d. W.dimensions log i k ds g q cells d (small-at p x k h e))).at log i j })
  v-over_place p x n token f (subtype.Scalar s) e h =
      subst (λ u. Sees W V (WalkedOf W V c) (λ log. (if is_array (array_shape log u) then pure (array_walked log n token f p (selections_of x) (array_shape log u)) else (breaks p.first WrongType >>= λ y. pure (no_array token f))) log)) (sym e)
      (record { at = λ log i j. (v-no_place p.first token f).at log i j })

  v-over_form : (n token : ℕ) (f : OptionalExpr) (k : KnownDenoted) (x : TypedPart) → DenotesOf W V k x → Sees W V (WalkedOf W V c) (over_form n token f k x)
  v-over_form n token f (denoted.Value (known.Object p)) x h = v-over_place p x n token f p.subtype refl h
  v-over_form n token f k x h = v-no_place (denoted_first k) token f

  v-over_denoted : (n token : ℕ) (f : OptionalExpr) (d : Option Denoted) → Maybe (DenotedOf W V) d → Sees W V (WalkedOf W V c) (over_denoted n token f d)
  v-over_denoted n token f None h = v-pure W V (WalkedOf W V c) (no_array token f) (no-walk token f)
  v-over_denoted n token f (Some d) h = v-over_form n token f d.known d.part h

  ranged : (index n : ℕ) (back : Bool) (rev : Option ℕ) (f : OptionalExpr) (b : Option Bounded) → Maybe (BoundedOf W V) b → WalkedOf W V c (record { made = option_map (range_made n back) b; token = index; entry = parameter_what n b; filter = f; reverse = rev })
  ranged index n back rev f None h = record { around = c; made = tt; entry = tt; wider = wider-same c; same = refl }
  ranged index n back rev f (Some b) h = record { around = scopes.with_parameter n c; made = (h.0, h.1, tt, refl); entry = its-parameter n c; wider = wider-parameter n c; same = refl }

  v-walked : (level : Inside) (here : Context) (x : Iter) → LevelSees W level → Around W V here → Sees W V (WalkedOf W V c) (walked level here x)
  unfolding walked
  v-walked level here (syntax.InRange index back x f) l r =
      v-bind W V (Maybe (BoundedOf W V)) (WalkedOf W V c) (range level here x) _ (v-range W V level here x l r) (λ b q.
      v-bind W V Any (WalkedOf W V c) new_parameter _ (v-new_parameter W V) (λ n p.
      v-pure W V (WalkedOf W V c) (record { made = option_map (range_made n (is_some back)) b; token = index; entry = parameter_what n b; filter = f; reverse = back }) (ranged index n (is_some back) back f b q)))
  v-walked level here (syntax.OfName index x f) l r =
      v-bind W V (Maybe (DenotedOf W V)) (WalkedOf W V c) (level.name here x) _ (l.name V here x r) (λ d q.
      v-bind W V Any (WalkedOf W V c) new_parameter _ (v-new_parameter W V) (λ n p. v-over_denoted n index f d q))

module _ (W : World) (V : Sight) where
  -- ---- what is judged before the body

  pub filter-of : (x : TypedPart) → ExprOf W V x → FilterOf W V x
  filter-of (part.AnExpr e) h = h
  filter-of x h = tt

  pub some-filter : (x : Option TypedPart) → Maybe (ExprOf W V) x → Maybe (FilterOf W V) x
  some-filter None h = tt
  some-filter (Some x) h = filter-of x h

  pub v-filter_where : (names : Names) (level : Inside) (here : Context) (f : OptionalExpr) → LevelSees W level → Around W V here → Sees W V (Maybe (FilterOf W V)) (filter_where names level here f)
  v-filter_where names level here syntax.AbsentExpr l r = v-some W V (FilterOf W V) part.Nothing tt
  v-filter_where names level here (syntax.PresentExpr e) l r = v-weaken W V (Maybe (ExprOf W V)) (Maybe (FilterOf W V)) (condition names level here e) (v-condition W V names level here e l r) some-filter

  with-filter : (c u : scopes.Around) (i : Iteration) (f : Optional) → SeenIteration W.program W.shown V.around c i (λ w. w ≡ u) → SeenOptional W.program W.shown u f → SeenIteration W.program W.shown V.around c (with_filter i f) (λ w. w ≡ u)
  with-filter c u (typed.Range n b low high check g) f h k = (h.0, h.1, subst (λ w. SeenOptional W.program W.shown w f) (sym h.3) k, h.3)
  with-filter c u (typed.Components n constant at root ss m s d g) f h k = (h.0, h.1, h.2, subst (λ w. SeenOptional W.program W.shown w f) (sym h.4) k, h.4)

  construct-around : (names : Names) (here : Context) (k : Option ℕ) → Around W V here → Around W V (in_construct names here k)
  construct-around names here None h = h
  construct-around names here (Some n) h = record { scope = h.scope; target = h.target }

  entry-around : (names : Names) (here : Context) (e : Option (ℕ × What)) → EntryOf W V e → Around W V here → Around W V (with_chunk names here e)
  entry-around names here None g h = h
  entry-around names here (Some e) g h = with-entry W V here (symbol names e.0) e.1 g h

-- what is in scope where an iteration was entered
pub record EnteredOf (W : World) (V : Sight) (e : Entered) : Type 0 where
  pub around : scopes.Around
  pub here : Around W (seeing around V) e.here
  pub chunk : Maybe (ChunkOf W V) e.chunk
  pub iteration : Maybe (λ x. SeenIteration W.program W.shown V.around (chunk-around V.around e.chunk) (as_iteration x) (λ u. u ≡ around)) e.iteration

-- only a construct with threads has chunks
abbrev pub IsUnchunked : Entered → Type 0
IsUnchunked e = e.construct ≡ None → e.chunk ≡ Some part.Nothing

module _ (W : World) (V : Sight) where
  v-with_walked : (names : Names) (here : Context) (start : ℕ) (w : Walked) → WhatOf W V w.entry → Around W V here → Sees W V (Around W V) (with_walked names here start w)
  v-with_walked names here start w g h =
      v-bind W V Any (Around W V) (unless (not (is_taken (symbol names w.token) start here)) w.token Twice) _ (v-unless W V (not (is_taken (symbol names w.token) start here)) w.token Twice) (λ u q.
      v-pure W V (Around W V) (with_entry here (symbol names w.token) w.entry) (with-entry W V here (symbol names w.token) w.entry g h))

module _ (W : World) (V : Sight) where
  abbrev pub Entering : Entered → Type 0
  Entering e = EnteredOf W V e × IsUnchunked e

  v-entered_with : (names : Names) (level : Inside) (here : Context) (k : Option ℕ) (start : ℕ) (x : Chunked) (i : Iter) → LevelSees W level → Around W V here → ChunkedOf W V x → (k ≡ None → x.chunk ≡ Some part.Nothing)
      → Sees W V Entering (entered_with names level here k start x i)
  unfolding entered_with
  v-entered_with names level here k start x i l r g alone =
      let c = chunk-around V.around x.chunk in
      v-bind W V (WalkedOf W V c) Entering (walked level here i) _ (v-walked W V c level here i l r) (λ w q.
      let U = seeing q.around V in
      let there = with_chunk names (in_construct names here k) x.entry in
      let around = around-wider W c q.around V there q.wider q.same (entry-around W (seeing c V) names (in_construct names here k) x.entry g.1 (around-wider W V.around c V (in_construct names here k) (wider-chunk x.chunk V.around) (target-chunk x.chunk V.around) (construct-around W V names here k r))) in
      v-bind W V (Around W U) Entering (with_walked names there start w) _ (v-seeing W V q.around (Around W U) (with_walked names there start w) (v-with_walked W U names there start w q.entry around)) (λ inner t.
      v-bind W V (Maybe (FilterOf W U)) Entering (filter_where names level inner w.filter) _ (v-seeing W V q.around (Maybe (FilterOf W U)) (filter_where names level inner w.filter) (v-filter_where W U names level inner w.filter l t)) (λ f s.
      v-pure W V Entering (record { construct = k; chunk = x.chunk; iteration = joined filtered w.made f; here = inner; reverse = w.reverse }) (
        record {
          around = q.around;
          here = t;
          chunk = g.0;
          iteration = joint (λ y. SeenIteration W.program W.shown V.around c (as_iteration y) (λ u. u ≡ q.around)) (FilterOf W U) (λ y. SeenIteration W.program W.shown V.around c (as_iteration y) (λ u. u ≡ q.around)) filtered w.made f q.made s
              (λ a b y z. with-filter W V c q.around (as_iteration a) (as_optional b) y z);
        },
        alone,
      ))))

  pub v-entered : (names : Names) (level inner : Inside) (here : Context) (k : SiteKind) (p : OptionalParallel) (i : Iter) → LevelSees W level → LevelSees W inner → Around W V here → Sees W V Entering (entered names level inner here k p i)
  unfolding entered
  v-entered names level inner here k syntax.AbsentParallel i l m r = v-entered_with names level here None (length here.scope) (record { chunk = Some part.Nothing; entry = None }) i l r (tt, tt) (λ e. refl)
  v-entered names level inner here k (syntax.PresentParallel p) i l m r =
      v-bind W V Any Entering (new_site here (parallel_at p) k) _ (v-new_site W V here (parallel_at p) k) (λ n q.
      v-bind W V (ChunkedOf W V) Entering (chunked_by inner here p) _ (v-chunked_by W V inner here p m r) (λ c s.
      v-entered_with names level here (Some n) (length here.scope) c i l r s (λ e. absurd cc)))
