-- What is found is in scope: declarations, and what is around those behind them.
use Rattle.std.proofs.Common.{◌≡◌, refl, sym, ap, subst, ◌∙◌, ℕ, ℤ, ◌≤◌, List, [], ◌∷◌, ◌++◌, length, slice_get, Option, Some, None, Bool, true, false, if◌then◌else◌, option_map, nat_le, nat_lt, ◌&&◌, leb-true, true≢false, eq-eqb, arith}
use Rattle.std.specs.Prelude.{cond, is_some, not, ◌+◌}
use Rattle.behaviours.specs.Paths.{Entity, ConstantOf, VariableOf, entity_eq}
use Rattle.ada_base.specs.declared.reason.Reason.TheVariants as reason
use Rattle.ada_meaning.specs.Shapes.{object_shape, size}
use Rattle.syntax_tree.specs.Syntax as syntax
use Rattle.syntax_tree.specs.Syntax.{Array, Comp, Decl, Definition, Expr, Ids, Indic, ObjectType, Range}
use Rattle.typed_scopes.specs.Scopes as scopes
use Rattle.typed_scopes.specs.Scopes.{object_cells}
use Rattle.typed_tree.specs.Decoded as part
use Rattle.typed_tree.specs.Decoded.{TypedPart, as_decl, as_decls, as_expr, as_value}
use Rattle.typed_tree.specs.Latest.{onto, turned}
use Rattle.typed_tree.specs.Syntax as typed
use Rattle.typed_tree.specs.Syntax.{Program}
use Rattle.typed_tree.specs.declared.program.Object.{Object}
use Rattle.name_rules.specs.Declarations as d
use Rattle.name_rules.specs.Declarations.{Building, Dimensions, Indicated, Initial, all_ids, indicated}
use Rattle.name_rules.specs.Expressions.{Inside, expr, simple}
use Rattle.name_rules.specs.Found.{Found}
use Rattle.name_rules.specs.Judging.{◌>>=◌, fault, given, joined, pure, read, some}
use Rattle.name_rules.specs.Limits.{most_cells, most_dimensions, most_objects}
use Rattle.name_rules.specs.Ranges.{two_bounds}
use Rattle.name_rules.specs.Scope.{declared, free, hidden_where, with_entry}
use Rattle.name_rules.specs.Symbols.{symbol}
use Rattle.name_rules.specs.TypedParts.{also_all, exprs_of}
use Rattle.name_rules.specs.Types.{cells_in, number_of, saturated, written_shape}
use Rattle.name_rules.specs.declared.log.Bound.TheVariants as bound
use Rattle.name_rules.specs.declared.log.Dimension.{Dimension}
use Rattle.name_rules.specs.declared.log.Field.{Field}
use Rattle.name_rules.specs.declared.log.Log.{Log}
use Rattle.name_rules.specs.declared.log.Rule.TheVariants.{Limit}
use Rattle.name_rules.specs.declared.log.Shape.TheVariants as entry
use Rattle.name_rules.specs.declared.scope.Context.{Context}
use Rattle.name_rules.specs.declared.scope.Entry.{Entry}
use Rattle.name_rules.specs.declared.scope.Names.{Names}
use Rattle.name_rules.specs.declared.scope.Target.{Target}
use Rattle.name_rules.specs.declared.scope.Target.TheVariants as target
use Rattle.name_rules.specs.declared.scope.What.{What}
use Rattle.name_rules.specs.declared.scope.What.TheVariants as what
use Rattle.name_rules.specs.declared.types.Subtype.{Subtype}
use Rattle.name_rules.specs.declared.types.Subtype.TheVariants as subtype
use Rattle.name_rules.specs.declared.types.Wanted.TheVariants as wanted
use Rattle.name_laws.proofs.CellsSound.{NumberIn, number_in, number_kept}
use Rattle.name_laws.proofs.Fitting.{Fits, fits_constant, is_number}
use Rattle.name_laws.proofs.KeepsDeclarations as k
use Rattle.name_laws.proofs.KeepsExpressions.{k-expr, k-simple}
use Rattle.name_laws.proofs.KeepsRanges.{k-two_bounds}
use Rattle.name_laws.proofs.KeepsScope.{k-free}
use Rattle.name_laws.proofs.KeepsTypes.{k-number_of, k-written_shape}
use Rattle.name_laws.proofs.Walk.{k-bind, k-given, k-pure, k-read}
use Rattle.name_laws.proofs.Walked.{KeepsInside}
use Rattle.name_formed.proofs.Forms.{Small, shape_of}
use Rattle.name_formed.proofs.FormsShapes.{object-at, object-small}
use Rattle.name_scopes.proofs.Seen.{SeenDecls, SeenExpr, SeenValue, grown, past}
use Rattle.name_scopes.proofs.Sees.{Any, Maybe, Sight, World, any, seeing, mapped}
use Rattle.name_scopes.proofs.SeesBack.{And, Back, Leads, Near, b-any, b-bind, b-both, b-fault, b-given, b-if, b-lift, b-pure, b-some, leading, leads_joined, not-none, now}
use Rattle.name_scopes.proofs.SeesFound.{AreOf, Around, Each, LevelSees, TargetOf, ValueOf, WhatOf, each-all, entity}
use Rattle.name_scopes.proofs.SeesIterations.{Wider, around-wider, either, wider-joined, wider-same, with-entry}
use Rattle.name_scopes.proofs.SeesShapes.{Facts, object-size}
use Rattle.name_scopes.proofs.SeesTypes.{InitialOf, IsStored, v-dimensions_from, v-indic, v-initial, v-number, v-range_type, v-modulus}
use Rattle.name_scopes.proofs.SeesValues.{exprs-within}

-- what is judged in brackets
pub record LevelBoth (level : Inside) : Type 0 where
  pub keeps : KeepsInside leading.walk level
  pub sees : (W : World) → LevelSees W level

both-true : (a b : Bool) → a && b ≡ true → b ≡ true
both-true true b e = e
both-true false b e = absurd (true≢false (sym e))

few-cells : (all cells : ℕ) → nat_le (saturated (all + cells)) most_cells ≡ true → cells ≤ most_cells
few-cells all cells e = omega (arith, leb-true (saturated (all + cells)) most_cells e)

get-seam : {A : Type 0} (xs more : List A) (x : A) → slice_get ((xs ++ x ∷ []) ++ more) (length xs) ≡ Some x
get-seam [] more x = refl
get-seam (y ∷ xs) more x = get-seam xs more x

-- ---- one object more

entity-self : (y : Entity) → entity_eq y y ≡ true
entity-self (VariableOf x) = eq-eqb x x refl
entity-self (ConstantOf x) = eq-eqb x x refl

wider-object : (y : Entity) (v : scopes.Around) → Wider v (scopes.with_object y v)
wider-object y v = record { object = λ z h. either (entity_eq y z) (v.object z) h; outer = λ z h. h; parameter = λ j h. h }

wider-outer : (y : Entity) (v : scopes.Around) → Wider v (scopes.with_outer y v)
wider-outer y v = record { object = λ z h. either (entity_eq y z) (v.object z) h; outer = λ z h. either (entity_eq y z) (v.outer z) h; parameter = λ j h. h }

pub wider-grown : (main : Bool) (y : Entity) (v : scopes.Around) → Wider v (grown main y v)
wider-grown true y v = wider-outer y v
wider-grown false y v = wider-object y v

target-grown : (main : Bool) (y : Entity) (v : scopes.Around) → (grown main y v).target ≡ v.target
target-grown true y v = refl
target-grown false y v = refl

pub its-object : (main : Bool) (y : Entity) (v : scopes.Around) → (grown main y v).object y ≡ true
its-object true y v = ap (λ b. cond b true (v.object y)) (entity-self y)
its-object false y v = ap (λ b. cond b true (v.object y)) (entity-self y)

-- what is in scope behind declarations so far
abbrev pub after : Bool → scopes.Around → TypedPart → scopes.Around
after main v x = past main v (as_decls (turned x))

-- ---- what was declared with a fault before leaves nothing

object-none : (names : Names) (here : Context) (token : ℕ) (f : Option ℕ) (constant : Bool) (s : Indicated) (v : Initial) (n : Option ℕ) → (d.object_ended names here token f constant s v None n).1 ≡ None
object-none names here token f constant s v None = refl
object-none names here token f constant s v (Some n) = refl

one-none : (names : Names) (here : Context) (token : ℕ) (f : Option ℕ) (constant : Bool) (s : Option Indicated) (v : Option Initial) (log : Log) → (d.one_object names here token f constant None s v log).0.1 ≡ None
one-none names here token f constant (Some s) (Some v) log = object-none names here token f constant s v (d.new_object names here token s.known constant (d.constant_value constant s.known v) log).0
one-none names here token f constant (Some s) None log = refl
one-none names here token f constant None v log = refl

each-none : (names : Names) (level : Inside) (inner here : Context) (constant : Bool) (first : ℕ) (t : ObjectType) (e : Option Expr) (made : Option TypedPart) (is : List ℕ) (fs : List (Option ℕ)) (log : Log) → made ≡ None
    → (d.each_object names level inner here constant first t e made is fs log).0.1 ≡ None
each-none names level inner here constant first t e made [] fs log h = h
each-none names level inner here constant first t e made (x ∷ is) [] log h = h
each-none names level inner here constant first t e made (x ∷ is) (f ∷ fs) log h =
    let s = d.typed_object names level inner t log in
    let v = d.initial names level inner s.0 e s.1 in
    let u = d.valued_constant first constant s.0 e v.1 in
    let r = d.one_object names here x f constant made s.0 v.0 u.1 in
    each-none names level inner r.0.0 constant first t e r.0.1 is fs r.1 (subst (λ m. (d.one_object names here x f constant m s.0 v.0 u.1).0.1 ≡ None) (sym h) (one-none names here x f constant s.0 v.0 u.1))

pub declaration-none : (names : Names) (level : Inside) (start : ℕ) (here : Context) (x : Decl) (log : Log) → (d.declaration names level start here None x log).0.1 ≡ None
unfolding d.declaration d.objects d.numbers
declaration-none names level start here (syntax.ObjectDecl is constant t e) log =
    let r = d.begun_names names start here [] (all_ids is) log in
    each-none names level r.0.0 r.0.0 (is_some constant) is.first t e None (all_ids is) r.0.1 r.1 refl
declaration-none names level start here (syntax.NumberDecl is at e) log = refl
declaration-none names level start here (syntax.ExceptionDecl is) log = refl
declaration-none names level start here (syntax.TypeDecl at token x) log = refl
declaration-none names level start here (syntax.SubtypeDecl at token i) log = refl

module _ (P : Program) (shown : ℕ → Entity → Bool) (L : Log) (F : Facts P shown L) where
  -- ---- contexts

  abbrev pub IsWhat : Sight → What → Type 0
  IsWhat V w = (log : Log) (l : Leads log L) → WhatOf (now P shown L F log l) V w

  what-moved : (V : Sight) (log mid : Log) (l : Leads log L) (m : Leads mid L) (w : What) → WhatOf (now P shown L F log l) V w → WhatOf (now P shown L F mid m) V w
  what-moved V log mid l m (what.Object n t v z) h = h
  what-moved V log mid l m (what.Item n t v) h = h
  what-moved V log mid l m (what.Sub n) h = h
  what-moved V log mid l m (what.Parameter n t) h = h
  what-moved V log mid l m w h = tt

  are-moved : (V : Sight) (log mid : Log) (l : Leads log L) (m : Leads mid L) (es : List Entry) → AreOf (now P shown L F log l) V es → AreOf (now P shown L F mid m) V es
  are-moved V log mid l m [] h = tt
  are-moved V log mid l m (e ∷ es) h = (what-moved V log mid l m e.what h.0, are-moved V log mid l m es h.1)

  target-moved : (V : Sight) (log mid : Log) (l : Leads log L) (m : Leads mid L) (t : Target) → TargetOf (now P shown L F log l) V t → TargetOf (now P shown L F mid m) V t
  target-moved V log mid l m (target.Of t) h = h
  target-moved V log mid l m t h = tt

  -- what is right at one log is so at each that leads to the whole one
  pub near-moved : (V : Sight) (here : Context) (log : Log) (l : Leads log L) → Around (now P shown L F log l) V here → Near P shown L F V here
  near-moved V here log l r mid m = record { scope = are-moved V log mid l m here.scope r.scope; target = target-moved V log mid l m here.target r.target }

  pub near-wider : (v u : scopes.Around) (V : Sight) (here : Context) → Wider v u → u.target ≡ v.target → Near P shown L F (seeing v V) here → Near P shown L F (seeing u V) here
  near-wider v u V here w e r log l = around-wider (now P shown L F log l) v u V here w e (r log l)

  pub near-entry : (V : Sight) (here : Context) (name : ℕ) (w : What) → IsWhat V w → Near P shown L F V here → Near P shown L F V (with_entry here name w)
  near-entry V here name w h r log l = with-entry (now P shown L F log l) V here name w (h log l) (r log l)

  near-hidden : (V : Sight) (names : Names) (here : Context) (t : ℕ) (f : Option ℕ) → Near P shown L F V here → Near P shown L F V (hidden_where names here t f)
  near-hidden V names here t None r = r
  near-hidden V names here t (Some u) r = near-entry V here (symbol names t) what.Hidden (λ log l. tt) r

  pub near-declared : (V : Sight) (names : Names) (here : Context) (t : ℕ) (w : Option What) → Near P shown L F V here → Maybe (IsWhat V) w → Near P shown L F V (declared names here t w)
  near-declared V names here t None r h = near-entry V here (symbol names t) what.Broken (λ log l. tt) r
  near-declared V names here t (Some w) r h = near-entry V here (symbol names t) w h r

  pub near-ended : (V : Sight) (names : Names) (here : Context) (f : Option ℕ) (w : Option What) → Near P shown L F V here → Maybe (IsWhat V) w → Near P shown L F V (d.ended_name names here f w)
  near-ended V names here None w r h = r
  near-ended V names here (Some t) w r h = near-declared V names here t w r h

  abbrev pub BegunIn : Sight → Context × List (Option ℕ) → Type 0
  BegunIn V r = Near P shown L F V r.0

  pub b-begun_names : (many : ℕ) (V : Sight) (G : Type 0) (names : Names) (start : ℕ) (here : Context) (made : List (Option ℕ)) (ts : List ℕ) → (G → Near P shown L F V here) → Back L many G (BegunIn V) (d.begun_names names start here made ts)
  b-begun_names many V G names start here made [] r = b-pure L many G (BegunIn V) (here, made) r
  b-begun_names many V G names start here made (t ∷ ts) r =
      b-bind L many G Any (BegunIn V) (free names start here t) _ (b-any L many G (free names start here t) (k-free leading.walk names start here t tt)) (λ f.
      b-begun_names many V (And G (Any f)) names start (hidden_where names here t f) (made ++ f ∷ []) ts (λ g. near-hidden V names here t f (r g.old)))

  -- ---- subtypes

  abbrev pub MentionsIn : Sight → TypedPart → Type 0
  MentionsIn V x = Each (λ y. SeenExpr P shown V.around (as_expr y)) x

  abbrev IndicatedIn : Sight → Indicated → Type 0
  IndicatedIn V s = MentionsIn V s.part

  abbrev DimensionsIn : Sight → Dimensions → Type 0
  DimensionsIn V ds = MentionsIn V ds.mentions

  b-indic : (V : Sight) (G : Type 0) (names : Names) (level : Inside) (here : Context) (i : Indic) → LevelBoth level → (G → Near P shown L F V here) → Back L V.bound G (Maybe (IndicatedIn V)) (d.indic names level here i)
  b-indic V G names level here i b r =
      b-lift P shown L F V G (Maybe (IndicatedIn V)) (d.indic names level here i) (k.k-indic leading.walk names level here i tt b.keeps) (λ log l g. v-indic (now P shown L F log l) V names level here i (b.sees (now P shown L F log l)) (r g log l))

  b-dimensions_from : (V : Sight) (G : Type 0) (level : Inside) (here : Context) (rs : List Range) → LevelBoth level → (G → Near P shown L F V here)
      → Back L V.bound G (Maybe (DimensionsIn V)) (d.dimensions_from level here (Some (record { dimensions = []; mentions = part.Nothing })) rs)
  b-dimensions_from V G level here rs b r =
      let made : Option Dimensions = Some (record { dimensions = []; mentions = part.Nothing }) in
      b-lift P shown L F V G (Maybe (DimensionsIn V)) (d.dimensions_from level here made rs) (k.k-dimensions_from leading.walk level here made rs b.keeps)
      (λ log l g. v-dimensions_from (now P shown L F log l) V level here made rs (b.sees (now P shown L F log l)) (r g log l) tt)

  b-array_written : (V : Sight) (G : Type 0) (ds : List Dimension) (s : Subtype) → Back L V.bound G (Maybe Any) (d.array_written ds s)
  b-array_written V G ds s = record { keeps = k.k-array_written leading ds s; at = λ log l b g. any (d.array_written ds s log).0 }

  b-array_given : (V : Sight) (G : Type 0) (at : ℕ) (ds : Dimensions) (s : Indicated) → (G → DimensionsIn V ds) → (G → IndicatedIn V s) → Back L V.bound G (Maybe (IndicatedIn V)) (d.array_given at ds s)
  b-array_given V G at ds s h i =
      b-if L V.bound G (Maybe (IndicatedIn V)) (nat_le (length ds.dimensions) most_dimensions) _ (fault at (Limit bound.Dimensions))
      (b-bind L V.bound G (Maybe Any) (Maybe (IndicatedIn V)) (d.array_written ds.dimensions s.known) _ (b-array_written V G ds.dimensions s.known) (λ t.
      b-pure L V.bound _ (Maybe (IndicatedIn V)) (option_map (indicated (also_all ds.mentions s.part)) t)
      (λ g. mapped Any (IndicatedIn V) (indicated (also_all ds.mentions s.part)) t (any t) (λ x p. each-all (λ y. SeenExpr P shown V.around (as_expr y)) ds.mentions s.part (h g.old) (i g.old)))))
      (b-fault L V.bound G (IndicatedIn V) at (Limit bound.Dimensions))

  b-array : (V : Sight) (G : Type 0) (names : Names) (level : Inside) (here : Context) (a : Array) → LevelBoth level → (G → Near P shown L F V here) → Back L V.bound G (Maybe (IndicatedIn V)) (d.array names level here a)
  unfolding d.array
  b-array V G names level here a b r =
      b-bind L V.bound G (Maybe (DimensionsIn V)) (Maybe (IndicatedIn V)) (d.dimensions_from level here (Some (record { dimensions = []; mentions = part.Nothing })) (a.first ∷ a.more)) _ (b-dimensions_from V G level here (a.first ∷ a.more) b r) (λ ds.
      b-bind L V.bound _ (Maybe (IndicatedIn V)) (Maybe (IndicatedIn V)) (d.indic names level here a.component) _ (b-indic V _ names level here a.component b (λ g. r g.old)) (λ s.
      b-both L V.bound _ (DimensionsIn V) (IndicatedIn V) (IndicatedIn V) ds s (d.array_given a.at) (λ g. g.old.new) (λ g. g.new) (λ x y. b-array_given V _ a.at x y (λ g. g.old.new) (λ g. g.new))))

  -- ---- records

  pub record BuildingIn (V : Sight) (b : Building) : Type 0 where
    pub around : Near P shown L F V b.here
    pub mentions : MentionsIn V b.mentions

  b-with_field : (V : Sight) (G : Type 0) (names : Names) (b : Building) (f : Option ℕ) (token : ℕ) (s : Option Indicated) → (G → BuildingIn V b) → Back L V.bound G (BuildingIn V) (d.with_field names b f token s)
  b-with_field V G names b None token s h = b-pure L V.bound G (BuildingIn V) (d.without_fields b b.here) (λ g. record { around = (h g).around; mentions = (h g).mentions })
  b-with_field V G names b (Some t) token None h =
      b-pure L V.bound G (BuildingIn V) (d.without_fields b (declared names b.here token (Some what.Broken))) (λ g. record { around = near-declared V names b.here token (Some what.Broken) (h g).around (λ log l. tt); mentions = (h g).mentions })
  b-with_field V G names b (Some t) token (Some s) h =
      b-bind L V.bound G Any (BuildingIn V) (number_of s.known) _ (b-any L V.bound G (number_of s.known) (k-number_of leading.walk s.known)) (λ n.
      b-bind L V.bound _ Any (BuildingIn V) (read (λ log. cells_in log s.known)) _ (b-any L V.bound _ (read (λ log. cells_in log s.known)) (k-read leading.walk (λ log. cells_in log s.known))) (λ cells.
      b-pure L V.bound _ (BuildingIn V) (record {
        here = declared names b.here token (Some what.Hidden);
        fields = option_map (d.also_field (record { symbol = symbol names token; name = token; subtype = s.known; number = n; offset = b.offset })) b.fields;
        offset = saturated (b.offset + cells);
        mentions = b.mentions;
      }) (λ g. record { around = near-declared V names b.here token (Some what.Hidden) (h g.old.old).around (λ log l. tt); mentions = (h g.old.old).mentions })))

  b-with_fields : (V : Sight) (G : Type 0) (names : Names) (b : Building) (s : Option Indicated) (ts : List ℕ) (fs : List (Option ℕ)) → (G → BuildingIn V b) → Back L V.bound G (BuildingIn V) (d.with_fields names b s ts fs)
  b-with_fields V G names b s (t ∷ ts) (f ∷ fs) h =
      b-bind L V.bound G (BuildingIn V) (BuildingIn V) (d.with_field names b f t s) _ (b-with_field V G names b f t s h) (λ c. b-with_fields V (And G (BuildingIn V c)) names c s ts fs (λ g. g.new))
  b-with_fields V G names b s [] fs h = b-pure L V.bound G (BuildingIn V) b h
  b-with_fields V G names b s (t ∷ ts) [] h = b-pure L V.bound G (BuildingIn V) b h

  indicated-mentions : (V : Sight) (s : Option Indicated) → Maybe (IndicatedIn V) s → MentionsIn V (d.indicated_mentions s)
  indicated-mentions V None h = tt
  indicated-mentions V (Some s) h = h

  b-component : (V : Sight) (G : Type 0) (names : Names) (level : Inside) (start : ℕ) (b : Building) (c : Comp) → LevelBoth level → (G → BuildingIn V b) → Back L V.bound G (BuildingIn V) (d.component names level start b c)
  b-component V G names level start b c l h =
      b-bind L V.bound G (BegunIn V) (BuildingIn V) (d.begun_names names start b.here [] (all_ids c.names)) _ (b-begun_names V.bound V G names start b.here [] (all_ids c.names) (λ g. (h g).around)) (λ r.
      b-bind L V.bound _ (Maybe (IndicatedIn V)) (BuildingIn V) (d.indic names level r.0 c.component) _ (b-indic V _ names level r.0 c.component l (λ g. g.new)) (λ s.
      b-with_fields V _ names (record { here = r.0; fields = b.fields; offset = b.offset; mentions = also_all b.mentions (d.indicated_mentions s) }) s (all_ids c.names) r.1
      (λ g. record { around = g.old.new; mentions = each-all (λ y. SeenExpr P shown V.around (as_expr y)) b.mentions (d.indicated_mentions s) (h g.old.old).mentions (indicated-mentions V s g.new) })))

  b-components : (V : Sight) (G : Type 0) (names : Names) (level : Inside) (start : ℕ) (b : Building) (cs : List Comp) → LevelBoth level → (G → BuildingIn V b) → Back L V.bound G (BuildingIn V) (d.components names level start b cs)
  b-components V G names level start b [] l h = b-pure L V.bound G (BuildingIn V) b h
  b-components V G names level start b (c ∷ cs) l h =
      b-bind L V.bound G (BuildingIn V) (BuildingIn V) (d.component names level start b c) _ (b-component V G names level start b c l h) (λ e. b-components V (And G (BuildingIn V e)) names level start e cs l (λ g. g.new))

  b-record_written : (V : Sight) (G : Type 0) (cells : ℕ) (ms : TypedPart) (fs : List Field) → (G → MentionsIn V ms) → Back L V.bound G (Maybe (IndicatedIn V)) (d.record_written cells ms fs)
  b-record_written V G cells ms fs h =
      b-bind L V.bound G Any (Maybe (IndicatedIn V)) (written_shape (entry.Record fs cells)) _ (b-any L V.bound G (written_shape (entry.Record fs cells)) (k-written_shape leading (entry.Record fs cells))) (λ n.
      b-some L V.bound _ (IndicatedIn V) (indicated ms (subtype.Composite n)) (λ g. h g.old))

  b-record_of : (V : Sight) (G : Type 0) (names : Names) (level : Inside) (here : Context) (cs : List Comp) → LevelBoth level → (G → Near P shown L F V here) → Back L V.bound G (Maybe (IndicatedIn V)) (d.record_of names level here cs)
  unfolding d.record_of
  b-record_of V G names level here cs l r =
      let start : Building = record { here = here; fields = Some []; offset = 0; mentions = part.Nothing } in
      b-bind L V.bound G (BuildingIn V) (Maybe (IndicatedIn V)) (d.components names level (length here.scope) start cs) _ (b-components V G names level (length here.scope) start cs l (λ g. record { around = r g; mentions = tt })) (λ b.
      b-given L V.bound _ Any (IndicatedIn V) b.fields (d.record_written b.offset b.mentions) (λ g. any b.fields) (λ fs. b-record_written V _ b.offset b.mentions fs (λ g. g.old.new.mentions)))

  -- ---- types

  b-defined : (V : Sight) (G : Type 0) (names : Names) (level : Inside) (here : Context) (token : ℕ) (x : Definition) → LevelBoth level → (G → Near P shown L F V here) → Back L V.bound G (Maybe (IndicatedIn V)) (d.defined names level here token x)
  unfolding d.defined
  b-defined V G names level here token (syntax.RangeType low high) l r =
      let x = two_bounds level here low high >>= d.own_type_of token in
      b-lift P shown L F V G (Maybe (IndicatedIn V)) x (k-bind leading.walk (two_bounds level here low high) (d.own_type_of token) (k-two_bounds leading.walk level here low high l.keeps) (λ y. k.k-own_type_of leading.walk token y))
      (λ log m g. v-range_type (now P shown L F log m) V level here token low high (l.sees (now P shown L F log m)) (r g log m))
  b-defined V G names level here token (syntax.ModularType m) l r =
      let x = simple level here wanted.Other m >>= λ y. given y (d.modular_type token) in
      b-lift P shown L F V G (Maybe (IndicatedIn V)) x
      (k-bind leading.walk (simple level here wanted.Other m) (λ y. given y (d.modular_type token)) (k-simple leading.walk level here wanted.Other m l.keeps) (λ y. k-given leading.walk y (d.modular_type token) (λ f. k.k-modular_type leading.walk token f)))
      (λ log n g. v-modulus (now P shown L F log n) V level here token m (l.sees (now P shown L F log n)) (r g log n))
  b-defined V G names level here token (syntax.ArrayType a) l r = b-array V G names level here a l r
  b-defined V G names level here token (syntax.RecordType c cs) l r = b-record_of V G names level here (c ∷ cs) l r

  b-typed_object : (V : Sight) (G : Type 0) (names : Names) (level : Inside) (here : Context) (t : ObjectType) → LevelBoth level → (G → Near P shown L F V here) → Back L V.bound G (Maybe (IndicatedIn V)) (d.typed_object names level here t)
  b-typed_object V G names level here (syntax.Indicated i) l r = b-indic V G names level here i l r
  b-typed_object V G names level here (syntax.Anonymous a) l r = b-array V G names level here a l r

  -- ---- what is elaborated

  -- declarations so far, before those behind them
  pub record Grown (main : Bool) (v u : scopes.Around) (x : TypedPart) : Type 0 where
    pub led : (r : TypedPart) → SeenDecls P shown main u (as_decls r) → SeenDecls P shown main v (as_decls (onto x r))
    pub past : (r : TypedPart) → past main v (as_decls (onto x r)) ≡ past main u (as_decls r)

  settled : (main : Bool) (v u : scopes.Around) (x : TypedPart) → Grown main v u x → u ≡ after main v x
  unfolding turned
  settled main v u x h = sym (h.past part.Nothing)

  pub grown-none : (main : Bool) (v : scopes.Around) → Grown main v v part.Nothing
  grown-none main v = record { led = λ r s. s; past = λ r. refl }

  -- what was declared so far, and what is in scope behind it, with so much at least
  abbrev pub Standing : Bool → Sight → scopes.Around → Context → Option TypedPart → Type 0
  Standing main V lo here None = Unit {0}
  Standing main V lo here (Some x) = Grown main V.around (after main V.around x) x × Near P shown L F (seeing (after main V.around x) V) here × Wider lo (after main V.around x)

  pub stand : (main : Bool) (V : Sight) (lo : scopes.Around) (here : Context) (x : TypedPart) (u : scopes.Around) → Grown main V.around u x → Near P shown L F (seeing u V) here → Wider lo u → Standing main V lo here (Some x)
  stand main V lo here x u g n wide =
      subst (λ w. Grown main V.around w x × Near P shown L F (seeing w V) here × Wider lo w) (settled main V.around u x g) (g, n, wide)

  pub begin : (main : Bool) (V : Sight) (here : Context) → Near P shown L F V here → Standing main V V.around here (Some part.Nothing)
  begin main V here n = stand main V V.around here part.Nothing V.around (grown-none main V.around) n (wider-same V.around)

  with-mentions : (main : Bool) (V : Sight) (v : scopes.Around) (x ms : TypedPart) → MentionsIn V ms → Grown main v V.around x → Grown main v V.around (d.with_mentions x ms)
  with-mentions main V v x part.Nothing m h = h
  with-mentions main V v x ms m h =
      let p = part.ADecl (typed.Mentions (exprs_of ms)) in
      record { led = λ r s. h.led (part.Cons p r) (exprs-within P shown V.around ms m, s); past = λ r. h.past (part.Cons p r) }

  -- what an object's declaration adds
  abbrev ObjectAdds : Bool → ℕ → scopes.Around → Option TypedPart → Type 0
  ObjectAdds constant n u None = constant ≡ false
  ObjectAdds constant n u (Some x) = SeenValue P shown u (object_cells P n) (as_value x)

  with-object : (main constant : Bool) (v u : scopes.Around) (x : TypedPart) (n : ℕ) (w : Option TypedPart) → ObjectAdds constant n u w → Grown main v u x → Grown main v (grown main (entity (not constant) n) u) (d.with_object x constant n w)
  with-object main true v u x n None e h = absurd (true≢false e)
  with-object main true v u x n (Some w) e h =
      let p = part.ADecl (typed.DeclareConstant n (as_value w)) in
      record { led = λ r s. h.led (part.Cons p r) (e, s); past = λ r. h.past (part.Cons p r) }
  with-object main false v u x n None e h =
      let p = part.ADecl (typed.DeclareDefault n) in
      record { led = λ r s. h.led (part.Cons p r) s; past = λ r. h.past (part.Cons p r) }
  with-object main false v u x n (Some w) e h =
      let p = part.ADecl (typed.DeclareVariable n (as_value w)) in
      record { led = λ r s. h.led (part.Cons p r) (e, s); past = λ r. h.past (part.Cons p r) }

  -- ---- objects

  -- an object of a subtype
  abbrev pub ObjectIn : Subtype → ℕ → Type 0
  ObjectIn t n = (object_shape P n ≡ shape_of P t) × Small (shape_of P t)

  written-in : (names : Names) (here : Context) (token : ℕ) (s : Subtype) (n cells : ℕ) (constant : Bool) (value : Option ℤ) (log : Log) (b : Bool)
      → NumberIn log.shapes s n → (b ≡ true → cells ≤ most_cells) → Leads ((if b then (d.object_written names here token n cells constant value >>= λ m. some m) else pure None) log).1 L
      → Maybe (ObjectIn s) ((if b then (d.object_written names here token n cells constant value >>= λ m. some m) else pure None) log).0
  written-in names here token s n cells constant value log false i c l = tt
  written-in names here token s n cells constant value log true i c l =
      let x = d.object_written names here token n cells constant value log in
      let o : Object = record { name = token; subtype = n; constant = constant; owner = here.owner; offset = d.room (d.first_room names here.owner) here.owner log.objects; cells = cells; value = value } in
      let at : slice_get L.objects (length log.objects) ≡ Some o = ap (λ os. slice_get os (length log.objects)) l.rows ∙ get-seam log.objects l.objects o in
      let is : NumberIn L.shapes s n = subst (λ ts. NumberIn ts s n) (sym l.table) (number_kept log.shapes l.shapes s n i) in
      (object-at P L F.table (length log.objects) o s at is, object-small P L F.table (length log.objects) o s at is (c refl))

  pub b-new_object : (many : ℕ) (G : Type 0) (names : Names) (here : Context) (token : ℕ) (s : Subtype) (constant : Bool) (value : Option ℤ) → Fits s constant value → Back L many G (Maybe (ObjectIn s)) (d.new_object names here token s constant value)
  unfolding d.new_object
  b-new_object many G names here token s constant value fits = record {
    keeps = k.k-new_object leading names here token s constant value tt fits;
    at = λ log l b g.
        let cells = cells_in log s in
        let c = d.cells_counted token cells log in
        let m = number_of s c.1 in
        written-in names here token s m.0 cells constant value m.1 c.0 (number_in s m.0 m.1 (is_number s c.1))
        (λ e. few-cells log.cells cells (both-true (nat_lt log.declared most_objects) (nat_le (saturated (log.cells + cells)) most_cells) e)) l;
  }

  pub object-cells : (s : Subtype) (n : ℕ) → ObjectIn s n → object_cells P n ≡ size (shape_of P s)
  object-cells s n o = object-size P n ∙ ap size o.0

  -- an initial value, where one is asked for
  abbrev InitialIn : Sight → Option Indicated → Option Expr → Initial → Type 0
  InitialIn V s e v = (log : Log) (l : Leads log L) → InitialOf (now P shown L F log l) V s v × IsStored e v.stored

  initial-moved : (V : Sight) (s : Option Indicated) (v : Initial) (log mid : Log) (l : Leads log L) (m : Leads mid L) → InitialOf (now P shown L F log l) V s v → InitialOf (now P shown L F mid m) V s v
  initial-moved V None v log mid l m h = tt
  initial-moved V (Some s) v log mid l m h = h

  maybe-moved : (V : Sight) (s : Option Indicated) (e : Option Expr) (v : Option Initial) (log : Log) (l : Leads log L) → Maybe (λ x. InitialOf (now P shown L F log l) V s x × IsStored e x.stored) v → Maybe (InitialIn V s e) v
  maybe-moved V s e None log l h = tt
  maybe-moved V s e (Some v) log l h = λ mid m. (initial-moved V s v log mid l m h.0, h.1)

  b-initial : (V : Sight) (G : Type 0) (names : Names) (level : Inside) (here : Context) (s : Option Indicated) (e : Option Expr) → LevelBoth level → (G → Near P shown L F V here) → Back L V.bound G (Maybe (InitialIn V s e)) (d.initial names level here s e)
  b-initial V G names level here s e b r = record {
    keeps = k.k-initial leading.walk names level here s e tt b.keeps;
    at = λ log l m g.
        let start = leads_joined log (d.initial names level here s e log).1 L ((k.k-initial leading.walk names level here s e tt b.keeps).at log) l in
        maybe-moved V s e (d.initial names level here s e log).0 log start
        ((v-initial (now P shown L F log start) V names level here s e (b.sees (now P shown L F log start)) (r g log start)).at log refl (refl, m)).2;
  }

  -- a constant has a value
  abbrev ValuedIn : Bool → Option Indicated → Option Expr → Type 0
  ValuedIn constant None e = Unit {0}
  ValuedIn constant (Some s) (Some e) = Unit {0}
  ValuedIn constant (Some s) None = constant ≡ false

  b-valued : (many : ℕ) (G : Type 0) (first : ℕ) (constant : Bool) (s : Option Indicated) (e : Option Expr) → Back L many G (λ u. ValuedIn constant s e) (d.valued_constant first constant s e)
  b-valued many G first constant s e = record { keeps = k.k-valued_constant leading.walk first constant s e; at = λ log l b g. by constant s e log (l.stays F.clean) }
    where
      by : (constant : Bool) (s : Option Indicated) (e : Option Expr) (log : Log) → (d.valued_constant first constant s e log).1.faults ≡ [] → ValuedIn constant s e
      by constant None e log h = tt
      by constant (Some s) (Some e) log h = tt
      by false (Some s) None log h = refl
      by true (Some s) None log h = absurd (not-none log.faults _ h)

  adds : (V : Sight) (u : scopes.Around) (constant : Bool) (s : Indicated) (e : Option Expr) (n : ℕ) (v : Initial) (log : Log) (l : Leads log L) → ValuedIn constant (Some s) e → ObjectIn s.known n → InitialIn (seeing u V) (Some s) e v → ObjectAdds constant n u v.stored
  adds V u constant s e n v log l q o i = by e v.stored q (i log l)
    where
      by : (e : Option Expr) (x : Option TypedPart) → ValuedIn constant (Some s) e → Maybe (ValueOf (now P shown L F log l) (seeing u V) s.known) x × IsStored e x → ObjectAdds constant n u x
      by e (Some x) q j = subst (λ m. SeenValue P shown u m (as_value x)) (sym (object-cells s.known n o)) (j.0 o.1)
      by None None q j = q
      by (Some e) None q j = absurd j.1

  -- ---- the objects of a declaration

  -- what was declared so far, with what is around their types and values
  abbrev Both : Bool → Sight → scopes.Around → Context → Context → Option TypedPart → Type 0
  Both main V lo inner here None = Unit {0}
  Both main V lo inner here (Some x) = Standing main V lo here (Some x) × Near P shown L F (seeing (after main V.around x) V) inner

  one-more : (main : Bool) (V : Sight) (lo : scopes.Around) (names : Names) (inner here : Context) (token : ℕ) (f : Option ℕ) (constant : Bool) (s : Indicated) (e : Option Expr) (v : Initial) (x : TypedPart) (n : Option ℕ) (log : Log) (l : Leads log L)
      → Both main V lo inner here (Some x) → IndicatedIn (seeing (after main V.around x) V) s → ValuedIn constant (Some s) e → Maybe (ObjectIn s.known) n → InitialIn (seeing (after main V.around x) V) (Some s) e v
      → (let r = d.object_ended names here token f constant s v (Some x) n in Both main V lo inner r.0 r.1)
  one-more main V lo names inner here token f constant s e v x None log l b m q o i = tt
  one-more main V lo names inner here token f constant s e v x (Some n) log l b m q o i =
      let u = after main V.around x in
      let y = entity (not constant) n in
      let w = grown main y u in
      let x1 = d.with_mentions x s.part in
      let x2 = d.with_object x1 constant n v.stored in
      let g : Grown main V.around w x2 = with-object main constant V.around u x1 n v.stored (adds V u constant s e n v log l q o i) (with-mentions main (seeing u V) V.around x s.part m b.0.0) in
      let wide = wider-grown main y u in
      let same = target-grown main y u in
      let there = d.ended_name names here f (Some (what.Object n s.known (not constant) (d.constant_value constant s.known v))) in
      let near = near-ended (seeing w V) names here f (Some (what.Object n s.known (not constant) (d.constant_value constant s.known v))) (near-wider u w V here wide same b.0.1) (λ mid leads. (its-object main y u, o.1)) in
      (stand main V lo there x2 w g near (wider-joined lo u w b.0.2 wide), subst (λ z. Near P shown L F (seeing z V) inner) (settled main V.around w x2 g) (near-wider u w V inner wide same b.1))

  b-one_object : (main : Bool) (V : Sight) (lo : scopes.Around) (G : Type 0) (names : Names) (inner here : Context) (token : ℕ) (f : Option ℕ) (constant : Bool) (x : TypedPart) (s : Option Indicated) (e : Option Expr) (v : Option Initial)
      → (G → Both main V lo inner here (Some x)) → (G → Maybe (IndicatedIn (seeing (after main V.around x) V)) s) → (G → ValuedIn constant s e) → (G → Maybe (InitialIn (seeing (after main V.around x) V) s e) v) → Back L V.bound G (λ r. Both main V lo inner r.0 r.1) (d.one_object names here token f constant (Some x) s v)
  b-one_object main V lo G names inner here token f constant x (Some s) e (Some v) b j q i =
      let p = d.new_object names here token s.known constant (d.constant_value constant s.known v) in
      let m = b-new_object V.bound G names here token s.known constant (d.constant_value constant s.known v) (fits_constant constant s.known v) in
      record {
        keeps = k.k-one_object leading names here token f constant (Some x) (Some s) (Some v) tt;
        at = λ log l n g. one-more main V lo names inner here token f constant s e v x (p log).0 (p log).1 l (b g) (j g) (q g) (m.at log l n g) (i g);
      }
  b-one_object main V lo G names inner here token f constant x (Some s) e None b j q i = record { keeps = k.k-one_object leading names here token f constant (Some x) (Some s) None tt; at = λ log l n g. tt }
  b-one_object main V lo G names inner here token f constant x None e v b j q i = record { keeps = k.k-one_object leading names here token f constant (Some x) None v tt; at = λ log l n g. tt }

  both-standing : (main : Bool) (V : Sight) (lo : scopes.Around) (inner here : Context) (made : Option TypedPart) → Both main V lo inner here made → Standing main V lo here made
  both-standing main V lo inner here None b = tt
  both-standing main V lo inner here (Some x) b = b.0

  b-each_object : (main : Bool) (V : Sight) (lo : scopes.Around) (G : Type 0) (names : Names) (level : Inside) (inner here : Context) (constant : Bool) (first : ℕ) (t : ObjectType) (e : Option Expr) (made : Option TypedPart) (is : List ℕ) (fs : List (Option ℕ))
      → LevelBoth level → (G → Both main V lo inner here made) → Back L V.bound G (λ r. Standing main V lo r.0 r.1) (d.each_object names level inner here constant first t e made is fs)
  b-each_object main V lo G names level inner here constant first t e made [] fs l b = b-pure L V.bound G (λ r. Standing main V lo r.0 r.1) (here, made) (λ g. both-standing main V lo inner here made (b g))
  b-each_object main V lo G names level inner here constant first t e made (x ∷ is) [] l b = b-pure L V.bound G (λ r. Standing main V lo r.0 r.1) (here, made) (λ g. both-standing main V lo inner here made (b g))
  b-each_object main V lo G names level inner here constant first t e None (x ∷ is) (f ∷ fs) l b = record {
    keeps = k.k-each_object leading names level inner here constant first t e None (x ∷ is) (f ∷ fs) tt l.keeps;
    at = λ log m n g.
        let r = d.each_object names level inner here constant first t e None (x ∷ is) (f ∷ fs) log in
        subst (Standing main V lo r.0.0) (sym (each-none names level inner here constant first t e None (x ∷ is) (f ∷ fs) log refl)) tt;
  }
  b-each_object main V lo G names level inner here constant first t e (Some made) (x ∷ is) (f ∷ fs) l b =
      let U = seeing (after main V.around made) V in
      b-bind L V.bound G (Maybe (IndicatedIn U)) (λ r. Standing main V lo r.0 r.1) (d.typed_object names level inner t) _ (b-typed_object U G names level inner t l (λ g. (b g).1)) (λ s.
      b-bind L V.bound _ (Maybe (InitialIn U s e)) (λ r. Standing main V lo r.0 r.1) (d.initial names level inner s e) _ (b-initial U _ names level inner s e l (λ g. (b g.old).1)) (λ v.
      b-bind L V.bound _ (λ u. ValuedIn constant s e) (λ r. Standing main V lo r.0 r.1) (d.valued_constant first constant s e) _ (b-valued V.bound _ first constant s e) (λ u.
      b-bind L V.bound _ (λ r. Both main V lo inner r.0 r.1) (λ r. Standing main V lo r.0 r.1) (d.one_object names here x f constant (Some made) s v) _
      (b-one_object main V lo _ names inner here x f constant made s e v (λ g. b g.old.old.old) (λ g. g.old.old.new) (λ g. g.new) (λ g. g.old.new)) (λ y.
      b-each_object main V lo (And (And (And (And G (Maybe (IndicatedIn U) s)) (Maybe (InitialIn U s e) v)) (ValuedIn constant s e)) (Both main V lo inner y.0 y.1)) names level inner y.0 constant first t e y.1 is fs l (λ g. g.new)))))

  -- ---- named numbers and exceptions

  near-all : (V : Sight) (names : Names) (here : Context) (w : Option What) (fs : List (Option ℕ)) → Near P shown L F V here → Maybe (IsWhat V) w → Near P shown L F V (d.all_ended names here w fs)
  near-all V names here w [] r h = r
  near-all V names here w (f ∷ fs) r h = near-all V names (d.ended_name names here f w) w fs (near-ended V names here f w r h) h

  abbrev NumberIn' : Sight → Option Found × Option ℤ → Type 0
  NumberIn' V y = Maybe (λ z. MentionsIn V (d.found_mentions y.0)) y.1

  number-what : (V : Sight) (v : Option ℤ) → Maybe (IsWhat V) (option_map what.Number v)
  number-what V None = tt
  number-what V (Some z) = λ log l. tt

  type-what : (V : Sight) (s : Option Indicated) → Maybe (IsWhat V) (option_map (λ t. what.Type t.known) s)
  type-what V None = tt
  type-what V (Some s) = λ log l. tt

  mentioned : (main : Bool) (V : Sight) (lo : scopes.Around) (here there : Context) (made ms : TypedPart) → MentionsIn (seeing (after main V.around made) V) ms → Near P shown L F (seeing (after main V.around made) V) there → Standing main V lo here (Some made) → Standing main V lo there (Some (d.with_mentions made ms))
  mentioned main V lo here there made ms m n h = stand main V lo there (d.with_mentions made ms) (after main V.around made) (with-mentions main (seeing (after main V.around made) V) V.around made ms m h.0) n h.2

  number-standing : (main : Bool) (V : Sight) (lo : scopes.Around) (here there : Context) (made ms : TypedPart) (v : Option ℤ) → Maybe (λ z. MentionsIn (seeing (after main V.around made) V) ms) v → Near P shown L F (seeing (after main V.around made) V) there → Standing main V lo here (Some made) → Standing main V lo there (joined (d.and_mentions ms) (Some made) v)
  number-standing main V lo here there made ms None m n h = tt
  number-standing main V lo here there made ms (Some z) m n h = mentioned main V lo here there made ms m n h

  type-standing : (main : Bool) (V : Sight) (lo : scopes.Around) (here there : Context) (made : TypedPart) (s : Option Indicated) → Maybe (IndicatedIn (seeing (after main V.around made) V)) s → Near P shown L F (seeing (after main V.around made) V) there → Standing main V lo here (Some made) → Standing main V lo there (joined d.and_type (Some made) s)
  type-standing main V lo here there made None m n h = tt
  type-standing main V lo here there made (Some s) m n h = mentioned main V lo here there made s.part m n h

  b-each_exception : (V : Sight) (G : Type 0) (names : Names) (here : Context) (ts : List ℕ) (fs : List (Option ℕ)) → (G → Near P shown L F V here) → Back L V.bound G (Near P shown L F V) (d.each_exception names here ts fs)
  b-each_exception V G names here [] fs r = b-pure L V.bound G (Near P shown L F V) here r
  b-each_exception V G names here (t ∷ ts) [] r = b-pure L V.bound G (Near P shown L F V) here r
  b-each_exception V G names here (t ∷ ts) (f ∷ fs) r =
      b-bind L V.bound G Any (Near P shown L F V) (d.new_exception t) _ (b-any L V.bound G (d.new_exception t) (k.k-new_exception leading.walk t)) (λ n.
      b-each_exception V (And G (Any n)) names (d.ended_name names here f (Some (what.Exception (reason.Declared n)))) ts fs (λ g. near-ended V names here f (Some (what.Exception (reason.Declared n))) (r g.old) (λ log l. tt)))

  -- ---- declarations

  b-declared : (main : Bool) (V : Sight) (lo : scopes.Around) (G : Type 0) (names : Names) (level : Inside) (start : ℕ) (here : Context) (made : TypedPart) (x : Decl)
      → LevelBoth level → (G → Standing main V lo here (Some made)) → Back L V.bound G (λ r. Standing main V lo r.0 r.1) (d.declaration names level start here (Some made) x)
  unfolding d.declaration d.objects d.numbers
  b-declared main V lo G names level start here made (syntax.ObjectDecl is constant t e) l r =
      let U = seeing (after main V.around made) V in
      b-bind L V.bound G (BegunIn U) (λ y. Standing main V lo y.0 y.1) (d.begun_names names start here [] (all_ids is)) _ (b-begun_names V.bound U G names start here [] (all_ids is) (λ g. (r g).1)) (λ y.
      b-each_object main V lo _ names level y.0 y.0 (is_some constant) is.first t e (Some made) (all_ids is) y.1 l (λ g. (((r g.old).0, g.new, (r g.old).2), g.new)))
  b-declared main V lo G names level start here made (syntax.NumberDecl is at e) l r =
      let U = seeing (after main V.around made) V in
      b-bind L V.bound G (BegunIn U) (λ y. Standing main V lo y.0 y.1) (d.begun_names names start here [] (all_ids is)) _ (b-begun_names V.bound U G names start here [] (all_ids is) (λ g. (r g).1)) (λ y.
      let j = expr names level y.0 wanted.Other e >>= λ x. given x d.static_number >>= λ v. pure (x, v) in
      b-bind L V.bound _ (NumberIn' U) (λ z. Standing main V lo z.0 z.1) j (λ q. pure (d.all_ended names y.0 (option_map what.Number q.1) y.1, joined (d.and_mentions (d.found_mentions q.0)) (Some made) q.1))
      (b-lift P shown L F U _ (NumberIn' U) j
      (k-bind leading.walk (expr names level y.0 wanted.Other e) (λ x. given x d.static_number >>= λ v. pure (x, v)) (k-expr leading.walk names level y.0 wanted.Other e tt l.keeps) (λ x.
      k-bind leading.walk (given x d.static_number) (λ v. pure (x, v)) (k-given leading.walk x d.static_number (λ f. k.k-static_number leading.walk f)) (λ v. k-pure leading.walk (x, v))))
      (λ log m h. v-number (now P shown L F log m) U names level y.0 e (l.sees (now P shown L F log m)) (h.new log m))) (λ q.
      b-pure L V.bound _ (λ z. Standing main V lo z.0 z.1) (d.all_ended names y.0 (option_map what.Number q.1) y.1, joined (d.and_mentions (d.found_mentions q.0)) (Some made) q.1)
      (λ g. number-standing main V lo here (d.all_ended names y.0 (option_map what.Number q.1) y.1) made (d.found_mentions q.0) q.1 g.new (near-all U names y.0 (option_map what.Number q.1) y.1 g.old.new (number-what U q.1)) (r g.old.old))))
  b-declared main V lo G names level start here made (syntax.ExceptionDecl is) l r =
      let U = seeing (after main V.around made) V in
      b-bind L V.bound G (BegunIn U) (λ y. Standing main V lo y.0 y.1) (d.begun_names names start here [] (all_ids is)) _ (b-begun_names V.bound U G names start here [] (all_ids is) (λ g. (r g).1)) (λ y.
      b-bind L V.bound _ (Near P shown L F U) (λ z. Standing main V lo z.0 z.1) (d.each_exception names y.0 (all_ids is) y.1) _ (b-each_exception U _ names y.0 (all_ids is) y.1 (λ h. h.new)) (λ c.
      b-pure L V.bound _ (λ z. Standing main V lo z.0 z.1) (c, Some made) (λ h. ((r h.old.old).0, h.new, (r h.old.old).2))))
  b-declared main V lo G names level start here made (syntax.TypeDecl at token x) l r =
      let U = seeing (after main V.around made) V in
      b-bind L V.bound G Any (λ y. Standing main V lo y.0 y.1) (free names start here token) _ (b-any L V.bound G (free names start here token) (k-free leading.walk names start here token tt)) (λ f.
      b-bind L V.bound _ (Maybe (IndicatedIn U)) (λ y. Standing main V lo y.0 y.1) (d.defined names level (hidden_where names here token f) token x) _ (b-defined U _ names level (hidden_where names here token f) token x l (λ h. near-hidden U names here token f (r h.old).1)) (λ s.
      b-pure L V.bound _ (λ y. Standing main V lo y.0 y.1) (d.one_type names (hidden_where names here token f) (Some made) f s)
      (λ h. type-standing main V lo here (d.one_type names (hidden_where names here token f) (Some made) f s).0 made s h.new (near-ended U names (hidden_where names here token f) f (option_map (λ t. what.Type t.known) s) (near-hidden U names here token f (r h.old.old).1) (type-what U s)) (r h.old.old))))
  b-declared main V lo G names level start here made (syntax.SubtypeDecl at token i) l r =
      let U = seeing (after main V.around made) V in
      b-bind L V.bound G Any (λ y. Standing main V lo y.0 y.1) (free names start here token) _ (b-any L V.bound G (free names start here token) (k-free leading.walk names start here token tt)) (λ f.
      b-bind L V.bound _ (Maybe (IndicatedIn U)) (λ y. Standing main V lo y.0 y.1) (d.indic names level (hidden_where names here token f) i) _ (b-indic U _ names level (hidden_where names here token f) i l (λ h. near-hidden U names here token f (r h.old).1)) (λ s.
      b-pure L V.bound _ (λ y. Standing main V lo y.0 y.1) (d.one_type names (hidden_where names here token f) (Some made) f s)
      (λ h. type-standing main V lo here (d.one_type names (hidden_where names here token f) (Some made) f s).0 made s h.new (near-ended U names (hidden_where names here token f) f (option_map (λ t. what.Type t.known) s) (near-hidden U names here token f (r h.old.old).1) (type-what U s)) (r h.old.old))))

  pub b-declaration : (main : Bool) (V : Sight) (lo : scopes.Around) (G : Type 0) (names : Names) (level : Inside) (start : ℕ) (here : Context) (made : Option TypedPart) (x : Decl)
      → LevelBoth level → (G → Standing main V lo here made) → Back L V.bound G (λ r. Standing main V lo r.0 r.1) (d.declaration names level start here made x)
  b-declaration main V lo G names level start here (Some made) x l r = b-declared main V lo G names level start here made x l r
  b-declaration main V lo G names level start here None x l r = record {
    keeps = k.k-declaration leading names level start here None x tt l.keeps;
    at = λ log m n g. let y = d.declaration names level start here None x log in subst (Standing main V lo y.0.0) (sym (declaration-none names level start here x log)) tt;
  }

  pub b-declarations : (main : Bool) (V : Sight) (lo : scopes.Around) (G : Type 0) (names : Names) (level : Inside) (start : ℕ) (here : Context) (made : Option TypedPart) (ds : List Decl)
      → LevelBoth level → (G → Standing main V lo here made) → Back L V.bound G (λ r. Standing main V lo r.0 r.1) (d.declarations names level start here made ds)
  b-declarations main V lo G names level start here made [] l r = b-pure L V.bound G (λ y. Standing main V lo y.0 y.1) (here, made) r
  b-declarations main V lo G names level start here made (x ∷ ds) l r =
      b-bind L V.bound G (λ y. Standing main V lo y.0 y.1) (λ y. Standing main V lo y.0 y.1) (d.declaration names level start here made x) _ (b-declaration main V lo G names level start here made x l r) (λ y.
      b-declarations main V lo (And G (Standing main V lo y.0 y.1)) names level start y.0 y.1 ds l (λ h. h.new))
