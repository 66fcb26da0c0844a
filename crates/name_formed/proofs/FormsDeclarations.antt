-- What is found is formed: declarations, and what is around those behind them.
use Rattle.std.proofs.Common.{◌≡◌, refl, sym, subst, ap, ◌∙◌, ℕ, ℤ, ◌+◌, ◌≤◌, List, [], ◌∷◌, ◌++◌, length, slice_get, Option, Some, None, Bool, true, false, true≢false, if◌then◌else◌, option_map, ◌&&◌, nat_le, nat_lt, arith, leb-true}
use Rattle.std.specs.Prelude.{is_some, not}
use Rattle.ada_base.specs.declared.reason.Reason.TheVariants as reason
use Rattle.ada_meaning.specs.Formed.{FormedDecls, FormedExpr, FormedExprs, FormedValue}
use Rattle.ada_meaning.specs.Shapes.{object_shape}
use Rattle.syntax_tree.specs.Syntax as syntax
use Rattle.syntax_tree.specs.Syntax.{Array, Comp, Decl, Definition, Expr, Ids, Indic, ObjectType, Range}
use Rattle.typed_tree.specs.Decoded as part
use Rattle.typed_tree.specs.Decoded.{TypedPart, as_decl, as_decls, as_expr, as_exprs, as_value}
use Rattle.typed_tree.specs.Latest.{turned}
use Rattle.typed_tree.specs.Syntax.{Decls, Program}
use Rattle.typed_tree.specs.declared.program.Object.{Object}
use Rattle.name_rules.specs.Declarations as d
use Rattle.name_rules.specs.Declarations.{Building, Dimensions, Indicated, Initial, all_ids, indicated}
use Rattle.name_rules.specs.Expressions.{Inside, expr, simple}
use Rattle.name_rules.specs.Found.{Found}
use Rattle.name_rules.specs.Judging.{fault, given, joined, pure, read, some, ◌>>=◌}
use Rattle.name_rules.specs.Ranges.{two_bounds}
use Rattle.name_rules.specs.Scope.{declared, free, hidden_where, with_entry}
use Rattle.name_rules.specs.Symbols.{symbol}
use Rattle.name_rules.specs.TypedParts.{also_all, exprs_of}
use Rattle.name_rules.specs.Types.{cells_in, number_of, saturated, written_shape}
use Rattle.name_rules.specs.Limits.{most_cells, most_dimensions, most_objects}
use Rattle.name_rules.specs.declared.log.Bound.TheVariants as bound
use Rattle.name_rules.specs.declared.log.Dimension.{Dimension}
use Rattle.name_rules.specs.declared.log.Field.{Field}
use Rattle.name_rules.specs.declared.log.Log.{Log}
use Rattle.name_rules.specs.declared.log.Rule.TheVariants.{Limit}
use Rattle.name_rules.specs.declared.log.Shape.TheVariants as entry
use Rattle.name_rules.specs.declared.scope.Context.{Context}
use Rattle.name_rules.specs.declared.scope.Entry.{Entry}
use Rattle.name_rules.specs.declared.scope.Names.{Names}
use Rattle.name_rules.specs.declared.scope.Target.{Target}
use Rattle.name_rules.specs.declared.scope.Target.TheVariants as target
use Rattle.name_rules.specs.declared.scope.What.{What}
use Rattle.name_rules.specs.declared.scope.What.TheVariants as what
use Rattle.name_rules.specs.declared.types.Subtype.{Subtype}
use Rattle.name_rules.specs.declared.types.Subtype.TheVariants as subtype
use Rattle.name_rules.specs.declared.types.Wanted.TheVariants as wanted
use Rattle.name_laws.proofs.CellsSound.{NumberIn, number_in, number_kept}
use Rattle.name_laws.proofs.Fitting.{Fits, fits_constant, is_number}
use Rattle.name_laws.proofs.KeepsDeclarations as k
use Rattle.name_laws.proofs.KeepsExpressions.{k-expr, k-simple}
use Rattle.name_laws.proofs.KeepsRanges.{k-two_bounds}
use Rattle.name_laws.proofs.KeepsScope.{k-free}
use Rattle.name_laws.proofs.KeepsTypes.{k-number_of, k-written_shape}
use Rattle.name_laws.proofs.Walk.{k-bind, k-given, k-pure, k-read}
use Rattle.name_laws.proofs.Walked.{KeepsInside}
use Rattle.name_formed.proofs.Forms.{Any, Maybe, Sight, Small, World, any, joint, mapped, shape_of}
use Rattle.name_formed.proofs.FormsBack.{And, Back, Leads, Near, b-any, b-bind, b-both, b-fault, b-given, b-if, b-lift, b-pure, b-some, leading, now}
use Rattle.name_formed.proofs.FormsFound.{AreOf, Around, Each, LevelForms, TargetOf, WhatOf, each-all, each-turned}
use Rattle.name_formed.proofs.FormsIterations.{with-entry}
use Rattle.name_formed.proofs.FormsShapes.{Facts, object-at, object-small}
use Rattle.name_formed.proofs.FormsTypes.{f-dimensions_from, f-indic, f-initial, f-number, f-range_type, f-modulus}

-- what is judged in brackets
pub record LevelBoth (level : Inside) : Type 0 where
  pub keeps : KeepsInside leading.walk level
  pub forms : (W : World) → LevelForms W level

both-true : (a b : Bool) → a && b ≡ true → b ≡ true
both-true true b e = e
both-true false b e = absurd (true≢false (sym e))

few-cells : (all cells : ℕ) → nat_le (saturated (all + cells)) most_cells ≡ true → cells ≤ most_cells
few-cells all cells e = omega (arith, leb-true (saturated (all + cells)) most_cells e)

get-seam : {A : Type 0} (xs more : List A) (x : A) → slice_get ((xs ++ x ∷ []) ++ more) (length xs) ≡ Some x
get-seam [] more x = refl
get-seam (y ∷ xs) more x = get-seam xs more x

module _ (P : Program) (L : Log) (F : Facts P L) where
  -- ---- contexts

  abbrev pub IsWhat : Sight → What → Type 0
  IsWhat V w = (log : Log) (l : Leads log L) → WhatOf (now P L F log l) V w

  what-moved : (V : Sight) (log mid : Log) (l : Leads log L) (m : Leads mid L) (w : What) → WhatOf (now P L F log l) V w → WhatOf (now P L F mid m) V w
  what-moved V log mid l m (what.Object n t v z) h = h
  what-moved V log mid l m (what.Item n t true) h = h
  what-moved V log mid l m (what.Item n t false) h = h
  what-moved V log mid l m (what.Sub n) h = h
  what-moved V log mid l m what.Hidden h = tt
  what-moved V log mid l m what.Broken h = tt
  what-moved V log mid l m (what.Parameter n t) h = tt
  what-moved V log mid l m (what.Number z) h = tt
  what-moved V log mid l m (what.Boolean b) h = tt
  what-moved V log mid l m (what.Type t) h = tt
  what-moved V log mid l m (what.Exception r) h = tt

  are-moved : (V : Sight) (log mid : Log) (l : Leads log L) (m : Leads mid L) (es : List Entry) → AreOf (now P L F log l) V es → AreOf (now P L F mid m) V es
  are-moved V log mid l m [] h = tt
  are-moved V log mid l m (e ∷ es) h = (what-moved V log mid l m e.what h.0, are-moved V log mid l m es h.1)

  target-moved : (V : Sight) (log mid : Log) (l : Leads log L) (m : Leads mid L) (t : Target) → TargetOf (now P L F log l) V t → TargetOf (now P L F mid m) V t
  target-moved V log mid l m target.Nothing h = tt
  target-moved V log mid l m (target.Of t) h = h
  target-moved V log mid l m target.Faulty h = tt

  -- what is right at one log is so at each that leads to the whole one
  pub near-moved : (V : Sight) (here : Context) (log : Log) (l : Leads log L) → Around (now P L F log l) V here → Near P L F V here
  near-moved V here log l r mid m = record { scope = are-moved V log mid l m here.scope r.scope; target = target-moved V log mid l m here.target r.target }

  pub near-entry : (V : Sight) (here : Context) (name : ℕ) (w : What) → IsWhat V w → Near P L F V here → Near P L F V (with_entry here name w)
  near-entry V here name w h r log l = with-entry (now P L F log l) V here name w (h log l) (r log l)

  near-hidden : (V : Sight) (names : Names) (here : Context) (t : ℕ) (f : Option ℕ) → Near P L F V here → Near P L F V (hidden_where names here t f)
  near-hidden V names here t None r = r
  near-hidden V names here t (Some u) r = near-entry V here (symbol names t) what.Hidden (λ log l. tt) r

  pub near-declared : (V : Sight) (names : Names) (here : Context) (t : ℕ) (w : Option What) → Near P L F V here → Maybe (IsWhat V) w → Near P L F V (declared names here t w)
  near-declared V names here t None r h = near-entry V here (symbol names t) what.Broken (λ log l. tt) r
  near-declared V names here t (Some w) r h = near-entry V here (symbol names t) w h r

  pub near-ended : (V : Sight) (names : Names) (here : Context) (f : Option ℕ) (w : Option What) → Near P L F V here → Maybe (IsWhat V) w → Near P L F V (d.ended_name names here f w)
  near-ended V names here None w r h = r
  near-ended V names here (Some t) w r h = near-declared V names here t w r h

  abbrev pub BegunIn : Sight → Context × List (Option ℕ) → Type 0
  BegunIn V r = Near P L F V r.0

  pub b-begun_names : (V : Sight) (G : Type 0) (names : Names) (start : ℕ) (here : Context) (made : List (Option ℕ)) (ts : List ℕ) → (G → Near P L F V here) → Back L V G (BegunIn V) (d.begun_names names start here made ts)
  b-begun_names V G names start here made [] r = b-pure L V G (BegunIn V) (here, made) r
  b-begun_names V G names start here made (t ∷ ts) r =
      b-bind L V G Any (BegunIn V) (free names start here t) _ (b-any L V G (free names start here t) (k-free leading.walk names start here t tt)) (λ f.
      b-begun_names V (And G (Any f)) names start (hidden_where names here t f) (made ++ f ∷ []) ts (λ g. near-hidden V names here t f (r g.old)))

  -- ---- subtypes

  abbrev pub MentionsIn : Sight → TypedPart → Type 0
  MentionsIn V x = Each (λ y. FormedExpr P V.known (as_expr y)) x

  abbrev IndicatedIn : Sight → Indicated → Type 0
  IndicatedIn V s = MentionsIn V s.part

  abbrev DimensionsIn : Sight → Dimensions → Type 0
  DimensionsIn V ds = MentionsIn V ds.mentions

  b-indic : (V : Sight) (G : Type 0) (names : Names) (level : Inside) (here : Context) (i : Indic) → LevelBoth level → (G → Near P L F V here) → Back L V G (Maybe (IndicatedIn V)) (d.indic names level here i)
  b-indic V G names level here i b r =
      b-lift P L F V G (Maybe (IndicatedIn V)) (d.indic names level here i) (k.k-indic leading.walk names level here i tt b.keeps) (λ log l g. f-indic (now P L F log l) V names level here i (b.forms (now P L F log l)) (r g log l))

  b-dimensions_from : (V : Sight) (G : Type 0) (level : Inside) (here : Context) (rs : List Range) → LevelBoth level → (G → Near P L F V here)
      → Back L V G (Maybe (DimensionsIn V)) (d.dimensions_from level here (Some (record { dimensions = []; mentions = part.Nothing })) rs)
  b-dimensions_from V G level here rs b r =
      let made : Option Dimensions = Some (record { dimensions = []; mentions = part.Nothing }) in
      b-lift P L F V G (Maybe (DimensionsIn V)) (d.dimensions_from level here made rs) (k.k-dimensions_from leading.walk level here made rs b.keeps)
      (λ log l g. f-dimensions_from (now P L F log l) V level here made rs (b.forms (now P L F log l)) (r g log l) tt)

  b-array_written : (V : Sight) (G : Type 0) (ds : List Dimension) (s : Subtype) → Back L V G (Maybe Any) (d.array_written ds s)
  b-array_written V G ds s = record { keeps = k.k-array_written leading ds s; at = λ log l b g. any (d.array_written ds s log).0 }

  b-array_given : (V : Sight) (G : Type 0) (at : ℕ) (ds : Dimensions) (s : Indicated) → (G → DimensionsIn V ds) → (G → IndicatedIn V s) → Back L V G (Maybe (IndicatedIn V)) (d.array_given at ds s)
  b-array_given V G at ds s h i =
      b-if L V G (Maybe (IndicatedIn V)) (nat_le (length ds.dimensions) most_dimensions) _ (fault at (Limit bound.Dimensions))
      (b-bind L V G (Maybe Any) (Maybe (IndicatedIn V)) (d.array_written ds.dimensions s.known) _ (b-array_written V G ds.dimensions s.known) (λ t.
      b-pure L V _ (Maybe (IndicatedIn V)) (option_map (indicated (also_all ds.mentions s.part)) t)
      (λ g. mapped Any (IndicatedIn V) (indicated (also_all ds.mentions s.part)) t (any t) (λ x p. each-all (λ y. FormedExpr P V.known (as_expr y)) ds.mentions s.part (h g.old) (i g.old)))))
      (b-fault L V G (IndicatedIn V) at (Limit bound.Dimensions))

  b-array : (V : Sight) (G : Type 0) (names : Names) (level : Inside) (here : Context) (a : Array) → LevelBoth level → (G → Near P L F V here) → Back L V G (Maybe (IndicatedIn V)) (d.array names level here a)
  unfolding d.array
  b-array V G names level here a b r =
      b-bind L V G (Maybe (DimensionsIn V)) (Maybe (IndicatedIn V)) (d.dimensions_from level here (Some (record { dimensions = []; mentions = part.Nothing })) (a.first ∷ a.more)) _ (b-dimensions_from V G level here (a.first ∷ a.more) b r) (λ ds.
      b-bind L V _ (Maybe (IndicatedIn V)) (Maybe (IndicatedIn V)) (d.indic names level here a.component) _ (b-indic V _ names level here a.component b (λ g. r g.old)) (λ s.
      b-both L V _ (DimensionsIn V) (IndicatedIn V) (IndicatedIn V) ds s (d.array_given a.at) (λ g. g.old.new) (λ g. g.new) (λ x y. b-array_given V _ a.at x y (λ g. g.old.new) (λ g. g.new))))

  -- ---- records

  pub record BuildingIn (V : Sight) (b : Building) : Type 0 where
    pub around : Near P L F V b.here
    pub mentions : MentionsIn V b.mentions

  b-with_field : (V : Sight) (G : Type 0) (names : Names) (b : Building) (f : Option ℕ) (token : ℕ) (s : Option Indicated) → (G → BuildingIn V b) → Back L V G (BuildingIn V) (d.with_field names b f token s)
  b-with_field V G names b None token s h = b-pure L V G (BuildingIn V) (d.without_fields b b.here) (λ g. record { around = (h g).around; mentions = (h g).mentions })
  b-with_field V G names b (Some t) token None h =
      b-pure L V G (BuildingIn V) (d.without_fields b (declared names b.here token (Some what.Broken))) (λ g. record { around = near-declared V names b.here token (Some what.Broken) (h g).around (λ log l. tt); mentions = (h g).mentions })
  b-with_field V G names b (Some t) token (Some s) h =
      b-bind L V G Any (BuildingIn V) (number_of s.known) _ (b-any L V G (number_of s.known) (k-number_of leading.walk s.known)) (λ n.
      b-bind L V _ Any (BuildingIn V) (read (λ log. cells_in log s.known)) _ (b-any L V _ (read (λ log. cells_in log s.known)) (k-read leading.walk (λ log. cells_in log s.known))) (λ cells.
      b-pure L V _ (BuildingIn V) (record {
        here = declared names b.here token (Some what.Hidden);
        fields = option_map (d.also_field (record { symbol = symbol names token; name = token; subtype = s.known; number = n; offset = b.offset })) b.fields;
        offset = saturated (b.offset + cells);
        mentions = b.mentions;
      }) (λ g. record { around = near-declared V names b.here token (Some what.Hidden) (h g.old.old).around (λ log l. tt); mentions = (h g.old.old).mentions })))

  b-with_fields : (V : Sight) (G : Type 0) (names : Names) (b : Building) (s : Option Indicated) (ts : List ℕ) (fs : List (Option ℕ)) → (G → BuildingIn V b) → Back L V G (BuildingIn V) (d.with_fields names b s ts fs)
  b-with_fields V G names b s (t ∷ ts) (f ∷ fs) h =
      b-bind L V G (BuildingIn V) (BuildingIn V) (d.with_field names b f t s) _ (b-with_field V G names b f t s h) (λ c. b-with_fields V (And G (BuildingIn V c)) names c s ts fs (λ g. g.new))
  b-with_fields V G names b s [] fs h = b-pure L V G (BuildingIn V) b h
  b-with_fields V G names b s (t ∷ ts) [] h = b-pure L V G (BuildingIn V) b h

  indicated-mentions : (V : Sight) (s : Option Indicated) → Maybe (IndicatedIn V) s → MentionsIn V (d.indicated_mentions s)
  indicated-mentions V None h = tt
  indicated-mentions V (Some s) h = h

  b-component : (V : Sight) (G : Type 0) (names : Names) (level : Inside) (start : ℕ) (b : Building) (c : Comp) → LevelBoth level → (G → BuildingIn V b) → Back L V G (BuildingIn V) (d.component names level start b c)
  b-component V G names level start b c l h =
      b-bind L V G (BegunIn V) (BuildingIn V) (d.begun_names names start b.here [] (all_ids c.names)) _ (b-begun_names V G names start b.here [] (all_ids c.names) (λ g. (h g).around)) (λ r.
      b-bind L V _ (Maybe (IndicatedIn V)) (BuildingIn V) (d.indic names level r.0 c.component) _ (b-indic V _ names level r.0 c.component l (λ g. g.new)) (λ s.
      b-with_fields V _ names (record { here = r.0; fields = b.fields; offset = b.offset; mentions = also_all b.mentions (d.indicated_mentions s) }) s (all_ids c.names) r.1
      (λ g. record { around = g.old.new; mentions = each-all (λ y. FormedExpr P V.known (as_expr y)) b.mentions (d.indicated_mentions s) (h g.old.old).mentions (indicated-mentions V s g.new) })))

  b-components : (V : Sight) (G : Type 0) (names : Names) (level : Inside) (start : ℕ) (b : Building) (cs : List Comp) → LevelBoth level → (G → BuildingIn V b) → Back L V G (BuildingIn V) (d.components names level start b cs)
  b-components V G names level start b [] l h = b-pure L V G (BuildingIn V) b h
  b-components V G names level start b (c ∷ cs) l h =
      b-bind L V G (BuildingIn V) (BuildingIn V) (d.component names level start b c) _ (b-component V G names level start b c l h) (λ e. b-components V (And G (BuildingIn V e)) names level start e cs l (λ g. g.new))

  b-record_written : (V : Sight) (G : Type 0) (cells : ℕ) (ms : TypedPart) (fs : List Field) → (G → MentionsIn V ms) → Back L V G (Maybe (IndicatedIn V)) (d.record_written cells ms fs)
  b-record_written V G cells ms fs h =
      b-bind L V G Any (Maybe (IndicatedIn V)) (written_shape (entry.Record fs cells)) _ (b-any L V G (written_shape (entry.Record fs cells)) (k-written_shape leading (entry.Record fs cells))) (λ n.
      b-some L V _ (IndicatedIn V) (indicated ms (subtype.Composite n)) (λ g. h g.old))

  b-record_of : (V : Sight) (G : Type 0) (names : Names) (level : Inside) (here : Context) (cs : List Comp) → LevelBoth level → (G → Near P L F V here) → Back L V G (Maybe (IndicatedIn V)) (d.record_of names level here cs)
  unfolding d.record_of
  b-record_of V G names level here cs l r =
      let start : Building = record { here = here; fields = Some []; offset = 0; mentions = part.Nothing } in
      b-bind L V G (BuildingIn V) (Maybe (IndicatedIn V)) (d.components names level (length here.scope) start cs) _ (b-components V G names level (length here.scope) start cs l (λ g. record { around = r g; mentions = tt })) (λ b.
      b-given L V _ Any (IndicatedIn V) b.fields (d.record_written b.offset b.mentions) (λ g. any b.fields) (λ fs. b-record_written V _ b.offset b.mentions fs (λ g. g.old.new.mentions)))

  -- ---- types

  b-defined : (V : Sight) (G : Type 0) (names : Names) (level : Inside) (here : Context) (token : ℕ) (x : Definition) → LevelBoth level → (G → Near P L F V here) → Back L V G (Maybe (IndicatedIn V)) (d.defined names level here token x)
  unfolding d.defined
  b-defined V G names level here token (syntax.RangeType low high) l r =
      let x = two_bounds level here low high >>= d.own_type_of token in
      b-lift P L F V G (Maybe (IndicatedIn V)) x (k-bind leading.walk (two_bounds level here low high) (d.own_type_of token) (k-two_bounds leading.walk level here low high l.keeps) (λ y. k.k-own_type_of leading.walk token y))
      (λ log m g. f-range_type (now P L F log m) V level here token low high (l.forms (now P L F log m)) (r g log m))
  b-defined V G names level here token (syntax.ModularType m) l r =
      let x = simple level here wanted.Other m >>= λ y. given y (d.modular_type token) in
      b-lift P L F V G (Maybe (IndicatedIn V)) x
      (k-bind leading.walk (simple level here wanted.Other m) (λ y. given y (d.modular_type token)) (k-simple leading.walk level here wanted.Other m l.keeps) (λ y. k-given leading.walk y (d.modular_type token) (λ f. k.k-modular_type leading.walk token f)))
      (λ log n g. f-modulus (now P L F log n) V level here token m (l.forms (now P L F log n)) (r g log n))
  b-defined V G names level here token (syntax.ArrayType a) l r = b-array V G names level here a l r
  b-defined V G names level here token (syntax.RecordType c cs) l r = b-record_of V G names level here (c ∷ cs) l r

  -- ---- what is elaborated

  abbrev IsDecl : Sight → TypedPart → Type 0
  IsDecl V p = (ds : Decls) → FormedDecls P V.known ds → FormedDecls P V.known (as_decl p ds)

  abbrev pub DeclsIn : Sight → TypedPart → Type 0
  DeclsIn V x = Each (IsDecl V) x

  decls-list : (V : Sight) (x : TypedPart) → DeclsIn V x → FormedDecls P V.known (as_decls x)
  decls-list V (part.Cons p q) h = h.0 (as_decls q) (decls-list V q h.1)
  decls-list V x h = tt

  pub decls-formed : (V : Sight) (x : TypedPart) → DeclsIn V x → FormedDecls P V.known (as_decls (turned x))
  decls-formed V x h = decls-list V (turned x) (each-turned (IsDecl V) x h)

  exprs-list : (V : Sight) (x : TypedPart) → MentionsIn V x → FormedExprs P V.known (as_exprs x)
  exprs-list V (part.Cons p q) h = (h.0, exprs-list V q h.1)
  exprs-list V x h = tt

  pub exprs-formed : (V : Sight) (x : TypedPart) → MentionsIn V x → FormedExprs P V.known (exprs_of x)
  exprs-formed V x h = exprs-list V (turned x) (each-turned (λ y. FormedExpr P V.known (as_expr y)) x h)

  pub record DeclaringIn (V : Sight) (r : Context × Option TypedPart) : Type 0 where
    pub around : Near P L F V r.0
    pub decls : Maybe (DeclsIn V) r.1

  with-mentions : (V : Sight) (made ms : TypedPart) → DeclsIn V made → MentionsIn V ms → DeclsIn V (d.with_mentions made ms)
  with-mentions V made part.Nothing h i = h
  with-mentions V made ms h i = ((λ ds r. (exprs-formed V ms i, r)), h)

  -- ---- objects

  abbrev ValueIn : Sight → TypedPart → Type 0
  ValueIn V x = FormedValue P V.known (as_value x)

  with-object : (V : Sight) (made : TypedPart) (constant : Bool) (n : ℕ) (v : Option TypedPart) → DeclsIn V made → Maybe (ValueIn V) v → DeclsIn V (d.with_object made constant n v)
  with-object V made true n (Some v) g h = ((λ ds r. (h, r)), g)
  with-object V made true n None g h = g
  with-object V made false n None g h = ((λ ds r. r), g)
  with-object V made false n (Some v) g h = ((λ ds r. (h, r)), g)

  -- an object of a subtype
  abbrev pub ObjectIn : Subtype → ℕ → Type 0
  ObjectIn t n = (object_shape P n ≡ shape_of P t) × Small (shape_of P t)

  written-in : (names : Names) (here : Context) (token : ℕ) (s : Subtype) (n cells : ℕ) (constant : Bool) (value : Option ℤ) (log : Log) (b : Bool)
      → NumberIn log.shapes s n → (b ≡ true → cells ≤ most_cells) → Leads ((if b then (d.object_written names here token n cells constant value >>= λ m. some m) else pure None) log).1 L
      → Maybe (ObjectIn s) ((if b then (d.object_written names here token n cells constant value >>= λ m. some m) else pure None) log).0
  written-in names here token s n cells constant value log false i c l = tt
  written-in names here token s n cells constant value log true i c l =
      let x = d.object_written names here token n cells constant value log in
      let o : Object = record { name = token; subtype = n; constant = constant; owner = here.owner; offset = d.room (d.first_room names here.owner) here.owner log.objects; cells = cells; value = value } in
      let at : slice_get L.objects (length log.objects) ≡ Some o = ap (λ os. slice_get os (length log.objects)) l.rows ∙ get-seam log.objects l.objects o in
      let is : NumberIn L.shapes s n = subst (λ ts. NumberIn ts s n) (sym l.table) (number_kept log.shapes l.shapes s n i) in
      (object-at P L F (length log.objects) o s at is, object-small P L F (length log.objects) o s at is (c refl))

  pub b-new_object : (V : Sight) (G : Type 0) (names : Names) (here : Context) (token : ℕ) (s : Subtype) (constant : Bool) (value : Option ℤ) → Fits s constant value → Back L V G (Maybe (ObjectIn s)) (d.new_object names here token s constant value)
  unfolding d.new_object
  b-new_object V G names here token s constant value fits = record {
    keeps = k.k-new_object leading names here token s constant value tt fits;
    at = λ log l b g.
        let cells = cells_in log s in
        let c = d.cells_counted token cells log in
        let m = number_of s c.1 in
        written-in names here token s m.0 cells constant value m.1 c.0 (number_in s m.0 m.1 (is_number s c.1))
        (λ e. few-cells log.cells cells (both-true (nat_lt log.declared most_objects) (nat_le (saturated (log.cells + cells)) most_cells) e)) l;
  }

  abbrev InitialIn : Sight → Initial → Type 0
  InitialIn V v = Maybe (ValueIn V) v.stored

  b-initial : (V : Sight) (G : Type 0) (names : Names) (level : Inside) (here : Context) (s : Option Indicated) (e : Option Expr) → LevelBoth level → (G → Near P L F V here) → Back L V G (Maybe (InitialIn V)) (d.initial names level here s e)
  b-initial V G names level here s e b r =
      b-lift P L F V G (Maybe (InitialIn V)) (d.initial names level here s e) (k.k-initial leading.walk names level here s e tt b.keeps) (λ log l g. f-initial (now P L F log l) V names level here s e (b.forms (now P L F log l)) (r g log l))

  object-ended : (V : Sight) (names : Names) (here : Context) (token : ℕ) (f : Option ℕ) (constant : Bool) (s : Indicated) (v : Initial) (made : Option TypedPart) (n : Option ℕ)
      → Near P L F V here → IndicatedIn V s → InitialIn V v → Maybe (DeclsIn V) made → Maybe (ObjectIn s.known) n → DeclaringIn V (d.object_ended names here token f constant s v made n)
  object-ended V names here token f constant s v made None r i j g o = record { around = near-ended V names here f None r tt; decls = tt }
  object-ended V names here token f constant s v made (Some n) r i j g o = record {
    around = near-ended V names here f (Some (what.Object n s.known (not constant) (d.constant_value constant s.known v))) r (λ log l. o);
    decls = mapped (DeclsIn V) (DeclsIn V) (λ ds. d.with_object (d.with_mentions ds s.part) constant n v.stored) made g
        (λ ds q. with-object V (d.with_mentions ds s.part) constant n v.stored (with-mentions V ds s.part q i) j);
  }

  b-broken : (V : Sight) (G : Type 0) (names : Names) (here : Context) (token : ℕ) (f : Option ℕ) → (G → Near P L F V here) → Back L V G (DeclaringIn V) (d.cells_counted token 0 >>= λ b. pure (d.ended_name names here f None, None))
  b-broken V G names here token f r =
      b-bind L V G Any (DeclaringIn V) (d.cells_counted token 0) _ (b-any L V G (d.cells_counted token 0) (k.k-cells_counted leading.walk token 0)) (λ b.
      b-pure L V _ (DeclaringIn V) (d.ended_name names here f None, None) (λ g. record { around = near-ended V names here f None (r g.old) tt; decls = tt }))

  b-one_object : (V : Sight) (G : Type 0) (names : Names) (here : Context) (token : ℕ) (f : Option ℕ) (constant : Bool) (made : Option TypedPart) (s : Option Indicated) (v : Option Initial)
      → (G → Near P L F V here) → (G → Maybe (DeclsIn V) made) → (G → Maybe (IndicatedIn V) s) → (G → Maybe (InitialIn V) v) → Back L V G (DeclaringIn V) (d.one_object names here token f constant made s v)
  b-one_object V G names here token f constant made (Some s) (Some v) r g i j =
      let x = d.new_object names here token s.known constant (d.constant_value constant s.known v) in
      b-bind L V G (Maybe (ObjectIn s.known)) (DeclaringIn V) x _ (b-new_object V G names here token s.known constant (d.constant_value constant s.known v) (fits_constant constant s.known v)) (λ n.
      b-pure L V _ (DeclaringIn V) (d.object_ended names here token f constant s v made n) (λ h. object-ended V names here token f constant s v made n (r h.old) (i h.old) (j h.old) (g h.old) h.new))
  b-one_object V G names here token f constant made (Some s) None r g i j = b-broken V G names here token f r
  b-one_object V G names here token f constant made None v r g i j = b-broken V G names here token f r

  b-typed_object : (V : Sight) (G : Type 0) (names : Names) (level : Inside) (here : Context) (t : ObjectType) → LevelBoth level → (G → Near P L F V here) → Back L V G (Maybe (IndicatedIn V)) (d.typed_object names level here t)
  b-typed_object V G names level here (syntax.Indicated i) l r = b-indic V G names level here i l r
  b-typed_object V G names level here (syntax.Anonymous a) l r = b-array V G names level here a l r

  b-each_object : (V : Sight) (G : Type 0) (names : Names) (level : Inside) (inner here : Context) (constant : Bool) (first : ℕ) (t : ObjectType) (e : Option Expr) (made : Option TypedPart) (is : List ℕ) (fs : List (Option ℕ))
      → LevelBoth level → (G → Near P L F V inner) → (G → Near P L F V here) → (G → Maybe (DeclsIn V) made) → Back L V G (DeclaringIn V) (d.each_object names level inner here constant first t e made is fs)
  b-each_object V G names level inner here constant first t e made [] fs l i r g = b-pure L V G (DeclaringIn V) (here, made) (λ h. record { around = r h; decls = g h })
  b-each_object V G names level inner here constant first t e made (x ∷ is) [] l i r g = b-pure L V G (DeclaringIn V) (here, made) (λ h. record { around = r h; decls = g h })
  b-each_object V G names level inner here constant first t e made (x ∷ is) (f ∷ fs) l i r g =
      b-bind L V G (Maybe (IndicatedIn V)) (DeclaringIn V) (d.typed_object names level inner t) _ (b-typed_object V G names level inner t l i) (λ s.
      b-bind L V _ (Maybe (InitialIn V)) (DeclaringIn V) (d.initial names level inner s e) _ (b-initial V _ names level inner s e l (λ h. i h.old)) (λ v.
      b-bind L V _ Any (DeclaringIn V) (d.valued_constant first constant s e) _ (b-any L V _ (d.valued_constant first constant s e) (k.k-valued_constant leading.walk first constant s e)) (λ u.
      b-bind L V _ (DeclaringIn V) (DeclaringIn V) (d.one_object names here x f constant made s v) _ (b-one_object V _ names here x f constant made s v (λ h. r h.old.old.old) (λ h. g h.old.old.old) (λ h. h.old.old.new) (λ h. h.old.new)) (λ y.
      b-each_object V (And (And (And (And G (Maybe (IndicatedIn V) s)) (Maybe (InitialIn V) v)) (Any u)) (DeclaringIn V y)) names level inner y.0 constant first t e y.1 is fs l (λ h. i h.old.old.old.old) (λ h. h.new.around) (λ h. h.new.decls)))))

  b-objects : (V : Sight) (G : Type 0) (names : Names) (level : Inside) (start : ℕ) (here : Context) (made : Option TypedPart) (is : Ids) (constant : Bool) (t : ObjectType) (e : Option Expr)
      → LevelBoth level → (G → Near P L F V here) → (G → Maybe (DeclsIn V) made) → Back L V G (DeclaringIn V) (d.objects names level start here made is constant t e)
  unfolding d.objects
  b-objects V G names level start here made is constant t e l r g =
      b-bind L V G (BegunIn V) (DeclaringIn V) (d.begun_names names start here [] (all_ids is)) _ (b-begun_names V G names start here [] (all_ids is) r) (λ y.
      b-each_object V _ names level y.0 y.0 constant is.first t e made (all_ids is) y.1 l (λ h. h.new) (λ h. h.new) (λ h. g h.old))

  -- ---- named numbers and exceptions

  near-all : (V : Sight) (names : Names) (here : Context) (w : Option What) (fs : List (Option ℕ)) → Near P L F V here → Maybe (IsWhat V) w → Near P L F V (d.all_ended names here w fs)
  near-all V names here w [] r h = r
  near-all V names here w (f ∷ fs) r h = near-all V names (d.ended_name names here f w) w fs (near-ended V names here f w r h) h

  number-what : (V : Sight) (v : Option ℤ) → Maybe (IsWhat V) (option_map what.Number v)
  number-what V None = tt
  number-what V (Some z) = λ log l. tt

  abbrev NumberIn' : Sight → Option Found × Option ℤ → Type 0
  NumberIn' V y = Maybe (λ z. MentionsIn V (d.found_mentions y.0)) y.1

  number-decls : (V : Sight) (x : Option Found) (v : Option ℤ) (made : Option TypedPart) → Maybe (λ z. MentionsIn V (d.found_mentions x)) v → Maybe (DeclsIn V) made → Maybe (DeclsIn V) (joined (d.and_mentions (d.found_mentions x)) made v)
  number-decls V x v made h g = joint (DeclsIn V) (λ z. MentionsIn V (d.found_mentions x)) (DeclsIn V) (d.and_mentions (d.found_mentions x)) made v g h (λ ds z m n. with-mentions V ds (d.found_mentions x) m n)

  b-numbers : (V : Sight) (G : Type 0) (names : Names) (level : Inside) (start : ℕ) (here : Context) (made : Option TypedPart) (is : Ids) (e : Expr)
      → LevelBoth level → (G → Near P L F V here) → (G → Maybe (DeclsIn V) made) → Back L V G (DeclaringIn V) (d.numbers names level start here made is e)
  unfolding d.numbers
  b-numbers V G names level start here made is e l r g =
      b-bind L V G (BegunIn V) (DeclaringIn V) (d.begun_names names start here [] (all_ids is)) _ (b-begun_names V G names start here [] (all_ids is) r) (λ y.
      let j = expr names level y.0 wanted.Other e >>= λ x. given x d.static_number >>= λ v. pure (x, v) in
      b-bind L V _ (NumberIn' V) (DeclaringIn V) j (λ q. pure (d.all_ended names y.0 (option_map what.Number q.1) y.1, joined (d.and_mentions (d.found_mentions q.0)) made q.1))
      (b-lift P L F V _ (NumberIn' V) j
      (k-bind leading.walk (expr names level y.0 wanted.Other e) (λ x. given x d.static_number >>= λ v. pure (x, v)) (k-expr leading.walk names level y.0 wanted.Other e tt l.keeps) (λ x.
      k-bind leading.walk (given x d.static_number) (λ v. pure (x, v)) (k-given leading.walk x d.static_number (λ f. k.k-static_number leading.walk f)) (λ v. k-pure leading.walk (x, v))))
      (λ log m h. f-number (now P L F log m) V names level y.0 e (l.forms (now P L F log m)) (h.new log m))) (λ q.
      b-pure L V _ (DeclaringIn V) (d.all_ended names y.0 (option_map what.Number q.1) y.1, joined (d.and_mentions (d.found_mentions q.0)) made q.1)
      (λ h. record { around = near-all V names y.0 (option_map what.Number q.1) y.1 h.old.new (number-what V q.1); decls = number-decls V q.0 q.1 made h.new (g h.old.old) })))

  b-each_exception : (V : Sight) (G : Type 0) (names : Names) (here : Context) (ts : List ℕ) (fs : List (Option ℕ)) → (G → Near P L F V here) → Back L V G (Near P L F V) (d.each_exception names here ts fs)
  b-each_exception V G names here [] fs r = b-pure L V G (Near P L F V) here r
  b-each_exception V G names here (t ∷ ts) [] r = b-pure L V G (Near P L F V) here r
  b-each_exception V G names here (t ∷ ts) (f ∷ fs) r =
      b-bind L V G Any (Near P L F V) (d.new_exception t) _ (b-any L V G (d.new_exception t) (k.k-new_exception leading.walk t)) (λ n.
      b-each_exception V (And G (Any n)) names (d.ended_name names here f (Some (what.Exception (reason.Declared n)))) ts fs (λ g. near-ended V names here f (Some (what.Exception (reason.Declared n))) (r g.old) (λ log l. tt)))

  -- ---- declarations

  type-what : (V : Sight) (s : Option Indicated) → Maybe (IsWhat V) (option_map (λ t. what.Type t.known) s)
  type-what V None = tt
  type-what V (Some s) = λ log l. tt

  one-type : (V : Sight) (names : Names) (here : Context) (made : Option TypedPart) (f : Option ℕ) (s : Option Indicated) → Near P L F V here → Maybe (DeclsIn V) made → Maybe (IndicatedIn V) s → DeclaringIn V (d.one_type names here made f s)
  one-type V names here made f s r g h = record {
    around = near-ended V names here f (option_map (λ t. what.Type t.known) s) r (type-what V s);
    decls = joint (DeclsIn V) (IndicatedIn V) (DeclsIn V) d.and_type made s g h (λ ds t m n. with-mentions V ds t.part m n);
  }

  pub b-declaration : (V : Sight) (G : Type 0) (names : Names) (level : Inside) (start : ℕ) (here : Context) (made : Option TypedPart) (x : Decl)
      → LevelBoth level → (G → Near P L F V here) → (G → Maybe (DeclsIn V) made) → Back L V G (DeclaringIn V) (d.declaration names level start here made x)
  unfolding d.declaration
  b-declaration V G names level start here made (syntax.ObjectDecl is constant t e) l r g = b-objects V G names level start here made is (is_some constant) t e l r g
  b-declaration V G names level start here made (syntax.NumberDecl is at e) l r g = b-numbers V G names level start here made is e l r g
  b-declaration V G names level start here made (syntax.ExceptionDecl is) l r g =
      b-bind L V G (BegunIn V) (DeclaringIn V) (d.begun_names names start here [] (all_ids is)) _ (b-begun_names V G names start here [] (all_ids is) r) (λ y.
      b-bind L V _ (Near P L F V) (DeclaringIn V) (d.each_exception names y.0 (all_ids is) y.1) _ (b-each_exception V _ names y.0 (all_ids is) y.1 (λ h. h.new)) (λ c.
      b-pure L V _ (DeclaringIn V) (c, made) (λ h. record { around = h.new; decls = g h.old.old })))
  b-declaration V G names level start here made (syntax.TypeDecl at token x) l r g =
      b-bind L V G Any (DeclaringIn V) (free names start here token) _ (b-any L V G (free names start here token) (k-free leading.walk names start here token tt)) (λ f.
      b-bind L V _ (Maybe (IndicatedIn V)) (DeclaringIn V) (d.defined names level (hidden_where names here token f) token x) _ (b-defined V _ names level (hidden_where names here token f) token x l (λ h. near-hidden V names here token f (r h.old))) (λ s.
      b-pure L V _ (DeclaringIn V) (d.one_type names (hidden_where names here token f) made f s) (λ h. one-type V names (hidden_where names here token f) made f s (near-hidden V names here token f (r h.old.old)) (g h.old.old) h.new)))
  b-declaration V G names level start here made (syntax.SubtypeDecl at token i) l r g =
      b-bind L V G Any (DeclaringIn V) (free names start here token) _ (b-any L V G (free names start here token) (k-free leading.walk names start here token tt)) (λ f.
      b-bind L V _ (Maybe (IndicatedIn V)) (DeclaringIn V) (d.indic names level (hidden_where names here token f) i) _ (b-indic V _ names level (hidden_where names here token f) i l (λ h. near-hidden V names here token f (r h.old))) (λ s.
      b-pure L V _ (DeclaringIn V) (d.one_type names (hidden_where names here token f) made f s) (λ h. one-type V names (hidden_where names here token f) made f s (near-hidden V names here token f (r h.old.old)) (g h.old.old) h.new)))

  pub b-declarations : (V : Sight) (G : Type 0) (names : Names) (level : Inside) (start : ℕ) (here : Context) (made : Option TypedPart) (ds : List Decl)
      → LevelBoth level → (G → Near P L F V here) → (G → Maybe (DeclsIn V) made) → Back L V G (DeclaringIn V) (d.declarations names level start here made ds)
  b-declarations V G names level start here made [] l r g = b-pure L V G (DeclaringIn V) (here, made) (λ h. record { around = r h; decls = g h })
  b-declarations V G names level start here made (x ∷ ds) l r g =
      b-bind L V G (DeclaringIn V) (DeclaringIn V) (d.declaration names level start here made x) _ (b-declaration V G names level start here made x l r g) (λ y.
      b-declarations V (And G (DeclaringIn V y)) names level start y.0 y.1 ds l (λ h. h.new.around) (λ h. h.new.decls))
