-- What is found fits: declarations, and what is around those behind them.
use Rattle.std.proofs.Common.{◌≡◌, refl, subst, ℕ, ℤ, List, [], ◌∷◌, ◌++◌, length, Option, Some, None, Bool, true, false, if◌then◌else◌, option_map, ◌&&◌, ◌+◌, int_le, nat_le, true≢false, ◌||◌, le-leb, ◌-◌, sym, arith, pos}
use Rattle.ada_base.proofs.Turning.{turned_twice}
use Rattle.ada_base.specs.Operation.{turned as number_turned, modulus}
use Rattle.std.proofs.lemmas.Bool.{and_parts}
use Rattle.std.specs.Prelude.{is_some, not}
use Rattle.ada_base.specs.declared.reason.Reason.TheVariants as reason
use Rattle.syntax_tree.specs.FirstTokens as first_token
use Rattle.syntax_tree.specs.Syntax as syntax
use Rattle.syntax_tree.specs.Syntax.{Array, Comp, Decl, Definition, Expr, Ids, Indic, ObjectType, Range}
use Rattle.typed_tree.specs.Decoded as part
use Rattle.typed_tree.specs.Decoded.{TypedPart, as_decl, as_decls}
use Rattle.typed_tree.specs.Latest.{turned}
use Rattle.typed_tree.specs.Syntax.{Decls}
use Rattle.name_rules.specs.Declarations as d
use Rattle.name_rules.specs.Declarations.{Building, Dimensions, Indicated, Initial, all_ids, indicated}
use Rattle.name_rules.specs.Expressions.{Inside, expr, judged_alone, simple}
use Rattle.name_rules.specs.Found.{Found}
use Rattle.name_rules.specs.Judging.{◌>>=◌, both, fault, given, joined, pure, read, some, unless}
use Rattle.name_rules.specs.Names.{denoted_first}
use Rattle.name_rules.specs.Operators.{both_mentions}
use Rattle.name_rules.specs.Ranges as ranges
use Rattle.name_rules.specs.Ranges.{Static, both_static, scalar_type, static_range, two_bounds}
use Rattle.name_rules.specs.Scope.{as_scalar, declared, entry, free, hidden_where, subtype_named}
use Rattle.name_rules.specs.Symbols.{symbol}
use Rattle.name_rules.specs.TypedParts.{also_all}
use Rattle.name_rules.specs.Types.{array_cells, cells_in, in_base, is_integer, lies_in, number_of, saturated, wanted_of, written_shape, is_modular, kept, base_of}
use Rattle.name_rules.specs.Values.{asked, first_of, is_number, static_value, stored, suits, value_of, mentions_of}
use Rattle.name_rules.specs.declared.found.Denoted.TheVariants as denoted
use Rattle.name_rules.specs.declared.found.Denoted.{Denoted as KnownDenoted}
use Rattle.name_rules.specs.Limits.{most_dimensions}
use Rattle.name_rules.specs.declared.log.Bound.TheVariants as bound
use Rattle.name_rules.specs.declared.log.Dimension.{Dimension}
use Rattle.name_rules.specs.declared.log.Field.{Field}
use Rattle.name_rules.specs.declared.log.Log.{Log}
use Rattle.name_rules.specs.declared.log.Rule.TheVariants.{Limit, StaticRange, WrongType}
use Rattle.name_rules.specs.declared.log.Shape.TheVariants as shape
use Rattle.name_rules.specs.declared.scope.Context.{Context}
use Rattle.name_rules.specs.declared.scope.Names.{Names}
use Rattle.name_rules.specs.declared.scope.What.{What}
use Rattle.name_rules.specs.declared.scope.What.TheVariants as what
use Rattle.name_rules.specs.declared.types.Kind.TheVariants as kind
use Rattle.name_rules.specs.declared.types.Kind.{Kind}
use Rattle.name_rules.specs.declared.types.Scalar.{Scalar}
use Rattle.name_rules.specs.declared.types.Subtype.{Subtype}
use Rattle.name_rules.specs.declared.types.Subtype.TheVariants as subtype
use Rattle.name_rules.specs.declared.types.Wanted.TheVariants as wanted
use Rattle.name_laws.proofs.Based.{constant-based, shape_more, spanning, spans_both, within-based, plain-span, kept-twice, both-true}
use Rattle.name_laws.proofs.KeepsDeclarations.{k-cells_counted, k-new_exception, k-static_number, k-valued_constant}
use Rattle.name_laws.proofs.KeepsRanges.{k-both_static}
use Rattle.name_laws.proofs.KeepsScope.{k-free}
use Rattle.name_laws.proofs.KeepsTypes.{k-number_of}
use Rattle.name_laws.proofs.Makes.{Any, Each, Makes, Maybe, each-turned, joint, m-bind, m-both, m-fault, m-given, m-if, m-kept, m-none, m-pure, m-read, m-some, m-test, m-unless, mapped, m-rest}
use Rattle.name_laws.proofs.MakesExpressions.{Finding, LevelFits, m-expr, m-judged_alone, m-simple}
use Rattle.name_laws.proofs.MakesPrimaries.{based-value}
use Rattle.name_laws.proofs.MakesRanges.{AreFinding, any, are-based, m-scalar_type, m-two_bounds}
use Rattle.name_laws.proofs.MakesScope.{DenotedOf, DenotesOf, m-as_scalar, m-subtype_named}
use Rattle.name_laws.proofs.MakesValues.{FoundOf, SpanOf, ValueOf, m-stored}
use Rattle.name_laws.proofs.Statics.{static_law}
use Rattle.name_laws.specs.Based.{AreBased, AreSpans, IsBased, IsBasedWhat, IsSpan, IsRange}
use Rattle.name_laws.specs.Classes.{DeclsFit}

-- ---- subtype indications

abbrev pub IndicatedOf : Indicated → Type 0
IndicatedOf s = IsBased s.known

kept-range : (k : Kind) (low high : ℤ) → IsRange k low high → IsRange k (kept k (kept k low)) (kept k (kept k high))
kept-range k low high h = subst (λ z. IsRange k (kept k (kept k low)) z) (sym (kept-twice k high)) (subst (λ z. IsRange k z high) (sym (kept-twice k low)) h)

m-indic_range : (s : Scalar) (first last : ℕ) (r : ℤ × ℤ) → SpanOf s → Makes (Maybe IsBased) (d.indic_range s first last r)
m-indic_range s first last r h =
    m-bind Any (Maybe IsBased) (unless (lies_in s r.0) first StaticRange) _ (m-unless (lies_in s r.0) first StaticRange) (λ u p.
    m-bind Any (Maybe IsBased) (unless (lies_in s r.1) last StaticRange) _ (m-unless (lies_in s r.1) last StaticRange) (λ v q.
    m-bind Any (Maybe IsBased) (unless (int_le r.0 r.1) first StaticRange) _ (m-unless (int_le r.0 r.1) first StaticRange) (λ w t.
    m-test (Maybe IsBased) (lies_in s r.0 && lies_in s r.1 && int_le r.0 r.1) (some (subtype.Scalar (record { kind = s.kind; low = kept s.kind r.0; high = kept s.kind r.1 }))) (pure None)
    (λ e. m-some IsBased (subtype.Scalar (record { kind = s.kind; low = kept s.kind r.0; high = kept s.kind r.1 })) (kept-range s.kind r.0 r.1 (within-based s r.0 r.1 h e))) (m-none IsBased))))

m-both_static : (s : Scalar) (a z : Found) → Makes (Maybe Any) (both_static s.kind a z)
m-both_static s a z = record { at = λ log h. (((k-both_static spanning s.kind a z).at log).at h, any (both_static s.kind a z log).0) }

m-indic_bounds : (s : Scalar) (a z : Found) → SpanOf s → Makes (Maybe IndicatedOf) (d.indic_bounds s a z)
m-indic_bounds s a z h =
    m-bind (Maybe Any) (Maybe IndicatedOf) (both_static s.kind a z) _ (m-both_static s a z) (λ v p.
    m-bind (Maybe IsBased) (Maybe IndicatedOf) (given v (d.indic_range s (first_of a.known) (first_of z.known))) _ (m-given Any IsBased v (d.indic_range s (first_of a.known) (first_of z.known)) p (λ r q. m-indic_range s (first_of a.known) (first_of z.known) r h)) (λ t q.
    m-pure (Maybe IndicatedOf) (option_map (indicated (both_mentions a z)) t) (mapped IsBased IndicatedOf (indicated (both_mentions a z)) t q (λ x r. r))))

m-indic : (names : Names) (level : Inside) (here : Context) (i : Indic) → LevelFits level → AreBased here.scope → Makes (Maybe IndicatedOf) (d.indic names level here i)
unfolding d.indic
m-indic names level here (syntax.Mark mark) l r =
    m-bind (Maybe IsBased) (Maybe IndicatedOf) (subtype_named names here mark) _ (m-subtype_named names here mark r) (λ s q. m-pure (Maybe IndicatedOf) (option_map (indicated part.Nothing) s) (mapped IsBased IndicatedOf (indicated part.Nothing) s q (λ x t. t)))
m-indic names level here (syntax.RangeMark mark low high) l r =
    m-bind (Maybe IsBased) (Maybe IndicatedOf) (subtype_named names here mark) _ (m-subtype_named names here mark r) (λ s q.
    m-bind (Maybe SpanOf) (Maybe IndicatedOf) (given s (as_scalar mark)) _ (m-given IsBased SpanOf s (as_scalar mark) q (λ t p. m-as_scalar mark t p)) (λ t p.
    m-bind AreFinding (Maybe IndicatedOf) (two_bounds level here low high) _ (m-two_bounds level here low high l r) (λ x u.
    m-given SpanOf IndicatedOf t _ p (λ y v. m-both FoundOf FoundOf IndicatedOf x.0 x.1 (d.indic_bounds y) u.0 u.1 (λ a z g h. m-indic_bounds y a z v)))))

-- ---- dimensions

abbrev StaticOf : Static → Type 0
StaticOf s = IsSpan s.known.kind s.known.low s.known.high

-- the values of two static bounds that take a type
abbrev PairOf : Kind → ℤ × ℤ → Type 0
PairOf k r = (in_base k r.0 ≡ true) × (in_base k r.1 ≡ true)

static-pair : (k : Kind) (a z : Found) (log : Log) → FoundOf a → FoundOf z → Maybe (PairOf k) (both_static k a z log).0
static-pair k a z log g h = by (asked k a log).0 refl (asked k z (asked k a log).1).0 refl (value_of a.known) refl (value_of z.known) refl (asked k z (asked k a log).1).1
  where
    by : (x : Option TypedPart) → (asked k a log).0 ≡ x → (y : Option TypedPart) → (asked k z (asked k a log).1).0 ≡ y → (u : Option ℤ) → value_of a.known ≡ u → (v : Option ℤ) → value_of z.known ≡ v → (end : Log)
        → Maybe (PairOf k) (both x y (λ e f. static_value (first_of a.known) u >>= λ i. static_value (first_of z.known) v >>= λ j. both i j (λ i j. some (i, j))) end).0
    by None p y q u s v t end = tt
    by (Some x) p None q u s v t end = tt
    by (Some x) p (Some y) q None s None t end = tt
    by (Some x) p (Some y) q None s (Some v) t end = tt
    by (Some x) p (Some y) q (Some u) s None t end = tt
    by (Some x) p (Some y) q (Some u) s (Some v) t end = ((static_law.places k a x u log (λ j w e f. based-value a.known a.part j w g e f) s p).ranged, (static_law.places k z y v (asked k a log).1 (λ j w e f. based-value z.known z.part j w h e f) t q).ranged)

m-pair : (k : Kind) (a z : Found) → FoundOf a → FoundOf z → Makes (Maybe (PairOf k)) (both_static k a z)
m-pair k a z g h = record { at = λ log i. (((k-both_static spanning k a z).at log).at i, static-pair k a z log g h) }

or-last : (a b : Bool) → (a || b) ≡ false → b ≡ false
or-last true b e = absurd (true≢false e)
or-last false b e = e

index-plain : (k : Kind) → ranges.is_index k ≡ true → is_modular k ≡ false
index-plain k e = go (is_modular k) (and_parts (is_integer k) (not (is_modular k)) e).1
  where
    go : (b : Bool) → not b ≡ true → b ≡ false
    go true h = absurd (true≢false (sym h))
    go false h = refl

m-spanned : (first : ℕ) (k : Kind) (a z : Found) (r : ℤ × ℤ) → is_modular k ≡ false → PairOf k r → Makes (Maybe StaticOf) (ranges.spanned first true k a z r)
m-spanned first k a z r m h = by (int_le r.0 r.1) refl
  where
    by : (b : Bool) → int_le r.0 r.1 ≡ b → Makes (Maybe StaticOf) (if not b then fault first StaticRange else some (ranges.of_static a z (ranges.dimension k r)))
    by true e = m-some StaticOf (ranges.of_static a z (ranges.dimension k r)) (record { plain = m; range = record { some = e; first = h.0; last = h.1 } })
    by false e = m-fault StaticOf first StaticRange

m-inside_subtype : (s : Scalar) (b : Found) (z : ℤ) → Makes Any (ranges.inside_subtype s b z)
m-inside_subtype s b z = m-unless (lies_in s z) (first_of b.known) StaticRange

m-checked_span : (first : ℕ) (s : Scalar) (a z : Found) (r : ℤ × ℤ) → is_modular s.kind ≡ false → PairOf s.kind r → Makes (Maybe StaticOf) (ranges.checked_span first true s a z r)
m-checked_span first s a z r m h =
    m-if (Maybe StaticOf) (not (int_le r.0 r.1)) (ranges.spanned first true s.kind a z r) _ (m-spanned first s.kind a z r m h)
    (m-bind Any (Maybe StaticOf) (ranges.inside_subtype s a r.0) _ (m-inside_subtype s a r.0) (λ u p.
    m-bind Any (Maybe StaticOf) (ranges.inside_subtype s z r.1) _ (m-inside_subtype s z r.1) (λ v q.
    m-if (Maybe StaticOf) (lies_in s r.0 && lies_in s r.1) (ranges.spanned first true s.kind a z r) (pure None) (m-spanned first s.kind a z r m h) (m-none StaticOf))))

m-static_bounds : (first : ℕ) (a z : Found) → FoundOf a → FoundOf z → Makes (Maybe StaticOf) (ranges.static_bounds first true None a z)
unfolding ranges.static_bounds
m-static_bounds first a z g h =
    let k = ranges.preferred None a.known z.known in
    m-rest (Maybe StaticOf) (not (is_number a.known) || is_modular k) (fault (first_of a.known) WrongType) _ (m-fault StaticOf (first_of a.known) WrongType) (λ e.
    m-if (Maybe StaticOf) (not (suits k a.known && suits k z.known)) (fault (first_of z.known) WrongType) _ (m-fault StaticOf (first_of z.known) WrongType)
    (m-bind (Maybe (PairOf k)) (Maybe StaticOf) (both_static k a z) _ (m-pair k a z g h) (λ v q. m-given (PairOf k) StaticOf v (ranges.spanned first true k a z) q (λ r p. m-spanned first k a z r (or-last (not (is_number a.known)) (is_modular k) e) p))))

m-static_checked : (first : ℕ) (t : Scalar) (a z : Found) → FoundOf a → FoundOf z → Makes (Maybe StaticOf) (ranges.static_checked first true t a z)
unfolding ranges.static_checked
m-static_checked first t a z g h =
    m-test (Maybe StaticOf) (ranges.is_index t.kind) _ (fault first WrongType) (λ e.
    m-bind (Maybe (PairOf t.kind)) (Maybe StaticOf) (both_static t.kind a z) _ (m-pair t.kind a z g h) (λ v q. m-given (PairOf t.kind) StaticOf v (ranges.checked_span first true t a z) q (λ r p. m-checked_span first t a z r (index-plain t.kind e) p)))
    (m-fault StaticOf first WrongType)

m-static_scalar : (first : ℕ) (s : Scalar) → SpanOf s → Makes (Maybe StaticOf) (ranges.static_scalar first s)
m-static_scalar first s h =
    let x : Static = record { known = record { kind = s.kind; low = s.low; high = s.high }; part = part.Nothing } in
    m-test (Maybe StaticOf) (ranges.is_index s.kind) (some x) (fault first WrongType) (λ e. m-some StaticOf x (plain-span s.kind s.low s.high (index-plain s.kind e) h)) (m-fault StaticOf first WrongType)

m-static_name : (first : ℕ) (k : KnownDenoted) (x : TypedPart) → DenotesOf k x → Makes (Maybe StaticOf) (ranges.static_name first k x)
m-static_name first (denoted.Range at e) x h = m-some StaticOf (record { known = e; part = x }) h
m-static_name first (denoted.Type at (subtype.Scalar s)) x h = m-static_scalar first s h
m-static_name first k x h = m-fault StaticOf (denoted_first k) WrongType

m-static_range : (level : Inside) (here : Context) (x : Range) → LevelFits level → AreBased here.scope → Makes (Maybe StaticOf) (static_range level here true None x)
unfolding static_range
m-static_range level here (syntax.Bounded low high) l r =
    m-bind AreFinding (Maybe StaticOf) (two_bounds level here low high) _ (m-two_bounds level here low high l r) (λ x q.
    m-both FoundOf FoundOf StaticOf x.0 x.1 (ranges.static_bounds (first_token.of_simple low) true None) q.0 q.1 (λ a z g h. m-static_bounds (first_token.of_simple low) a z g h))
m-static_range level here (syntax.Whole n) l r =
    m-bind (Maybe DenotedOf) (Maybe StaticOf) (level.name here n) _ (l.name here n r) (λ y q. m-given DenotedOf StaticOf y _ q (λ x s. m-static_name (first_token.of_name n) x.known x.part s))
m-static_range level here (syntax.Constrained n low high) l r =
    m-bind (Maybe DenotedOf) (Maybe StaticOf) (level.name here n) _ (l.name here n r) (λ y q.
    m-bind (Maybe Any) (Maybe StaticOf) (given y (λ x. scalar_type x.known)) _ (m-scalar_type y) (λ s p.
    m-bind AreFinding (Maybe StaticOf) (two_bounds level here low high) _ (m-two_bounds level here low high l r) (λ x t.
    m-given Any StaticOf s _ p (λ u v. m-both FoundOf FoundOf StaticOf x.0 x.1 (ranges.static_checked (first_token.of_name n) true u) t.0 t.1 (λ a z g h. m-static_checked (first_token.of_name n) u a z g h)))))

-- ---- arrays

abbrev DimensionsOf : Dimensions → Type 0
DimensionsOf ds = AreSpans ds.dimensions

also-dimension : (ds : Option Dimensions) (s : Option Static) → Maybe DimensionsOf ds → Maybe StaticOf s → Maybe DimensionsOf (joined d.also_dimension ds s)
also-dimension None s g h = tt
also-dimension (Some ds) None g h = tt
also-dimension (Some ds) (Some s) g h = spans_both ds.dimensions (s.known ∷ []) g (h, tt)

m-dimensions_from : (level : Inside) (here : Context) (made : Option Dimensions) (rs : List Range) → LevelFits level → AreBased here.scope → Maybe DimensionsOf made → Makes (Maybe DimensionsOf) (d.dimensions_from level here made rs)
m-dimensions_from level here made [] l r g = m-pure (Maybe DimensionsOf) made g
m-dimensions_from level here made (x ∷ xs) l r g = m-bind (Maybe StaticOf) (Maybe DimensionsOf) (static_range level here true None x) _ (m-static_range level here x l r) (λ s q. m-dimensions_from level here (joined d.also_dimension made s) xs l r (also-dimension made s g q))

m-array_shape : (ds : List Dimension) (s : Subtype) (m cells : ℕ) → AreSpans ds → Makes Any (written_shape (shape.Array ds s m cells))
m-array_shape ds s m cells h = record { at = λ log g. (shape_more log.shapes (shape.Array ds s m cells) (λ es c k n e. let same : ds ≡ es = cc in subst AreSpans same h) g, tt) }

m-number_of : (s : Subtype) → Makes Any (number_of s)
m-number_of s = m-kept (number_of s) (k-number_of spanning s)

m-array_written : (ds : List Dimension) (s : Subtype) → AreSpans ds → Makes (Maybe IsBased) (d.array_written ds s)
m-array_written ds s h =
    m-bind Any (Maybe IsBased) (number_of s) _ (m-number_of s) (λ m p.
    m-bind Any (Maybe IsBased) (read (λ log. array_cells ds (cells_in log s))) _ (m-read Any (λ log. array_cells ds (cells_in log s)) (λ log g. tt)) (λ cells q.
    m-bind Any (Maybe IsBased) (written_shape (shape.Array ds s m cells)) _ (m-array_shape ds s m cells h) (λ n t. m-some IsBased (subtype.Composite n) tt)))

m-array_given : (at : ℕ) (ds : Dimensions) (s : Indicated) → DimensionsOf ds → Makes (Maybe IndicatedOf) (d.array_given at ds s)
m-array_given at ds s h =
    m-if (Maybe IndicatedOf) (nat_le (length ds.dimensions) most_dimensions) _ (fault at (Limit bound.Dimensions))
    (m-bind (Maybe IsBased) (Maybe IndicatedOf) (d.array_written ds.dimensions s.known) _ (m-array_written ds.dimensions s.known h) (λ t q.
    m-pure (Maybe IndicatedOf) (option_map (indicated (also_all ds.mentions s.part)) t) (mapped IsBased IndicatedOf (indicated (also_all ds.mentions s.part)) t q (λ x p. p)))) (m-fault IndicatedOf at (Limit bound.Dimensions))

m-array : (names : Names) (level : Inside) (here : Context) (a : Array) → LevelFits level → AreBased here.scope → Makes (Maybe IndicatedOf) (d.array names level here a)
unfolding d.array
m-array names level here a l r =
    m-bind (Maybe DimensionsOf) (Maybe IndicatedOf) (d.dimensions_from level here (Some (record { dimensions = []; mentions = part.Nothing })) (a.first ∷ a.more)) _
    (m-dimensions_from level here (Some (record { dimensions = []; mentions = part.Nothing })) (a.first ∷ a.more) l r tt) (λ ds p.
    m-bind (Maybe IndicatedOf) (Maybe IndicatedOf) (d.indic names level here a.component) _ (m-indic names level here a.component l r) (λ s q.
    m-both DimensionsOf IndicatedOf IndicatedOf ds s (d.array_given a.at) p q (λ x y g h. m-array_given a.at x y g)))

-- ---- contexts

hidden-based : (names : Names) (here : Context) (t : ℕ) (f : Option ℕ) → AreBased here.scope → AreBased (hidden_where names here t f).scope
hidden-based names here t None h = h
hidden-based names here t (Some u) h = are-based here.scope (entry (symbol names t) what.Hidden ∷ []) h (tt, tt)

abbrev pub MaybeBased : Option What → Type 0
MaybeBased = Maybe IsBasedWhat

pub declared-based : (names : Names) (here : Context) (t : ℕ) (w : Option What) → AreBased here.scope → MaybeBased w → AreBased (declared names here t w).scope
declared-based names here t None h k = are-based here.scope (entry (symbol names t) what.Broken ∷ []) h (tt, tt)
declared-based names here t (Some w) h k = are-based here.scope (entry (symbol names t) w ∷ []) h (k, tt)

pub ended-based : (names : Names) (here : Context) (f : Option ℕ) (w : Option What) → AreBased here.scope → MaybeBased w → AreBased (d.ended_name names here f w).scope
ended-based names here None w h k = h
ended-based names here (Some t) w h k = declared-based names here t w h k

abbrev BegunOf : Context × List (Option ℕ) → Type 0
BegunOf r = AreBased r.0.scope

pub m-begun_names : (names : Names) (start : ℕ) (here : Context) (made : List (Option ℕ)) (ts : List ℕ) → AreBased here.scope → Makes BegunOf (d.begun_names names start here made ts)
m-begun_names names start here made [] h = m-pure BegunOf (here, made) h
m-begun_names names start here made (t ∷ ts) h =
    m-bind Any BegunOf (free names start here t) _ (m-kept (free names start here t) (k-free spanning names start here t tt)) (λ f q. m-begun_names names start (hidden_where names here t f) (made ++ f ∷ []) ts (hidden-based names here t f h))

-- ---- records

abbrev BuildingOf : Building → Type 0
BuildingOf b = AreBased b.here.scope

m-with_field : (names : Names) (b : Building) (f : Option ℕ) (token : ℕ) (s : Option Indicated) → BuildingOf b → Makes BuildingOf (d.with_field names b f token s)
m-with_field names b None token s h = m-pure BuildingOf (d.without_fields b b.here) h
m-with_field names b (Some t) token None h = m-pure BuildingOf _ (declared-based names b.here token (Some what.Broken) h tt)
m-with_field names b (Some t) token (Some s) h =
    m-bind Any BuildingOf (number_of s.known) _ (m-number_of s.known) (λ n p.
    m-bind Any BuildingOf (read (λ log. cells_in log s.known)) _ (m-read Any (λ log. cells_in log s.known) (λ log g. tt)) (λ cells q.
    m-pure BuildingOf (record {
      here = declared names b.here token (Some what.Hidden);
      fields = option_map (d.also_field (record { symbol = symbol names token; name = token; subtype = s.known; number = n; offset = b.offset })) b.fields;
      offset = saturated (b.offset + cells);
      mentions = b.mentions;
    }) (declared-based names b.here token (Some what.Hidden) h tt)))

m-with_fields : (names : Names) (b : Building) (s : Option Indicated) (ts : List ℕ) (fs : List (Option ℕ)) → BuildingOf b → Makes BuildingOf (d.with_fields names b s ts fs)
m-with_fields names b s (t ∷ ts) (f ∷ fs) h = m-bind BuildingOf BuildingOf (d.with_field names b f t s) _ (m-with_field names b f t s h) (λ c q. m-with_fields names c s ts fs q)
m-with_fields names b s [] fs h = m-pure BuildingOf b h
m-with_fields names b s (t ∷ ts) [] h = m-pure BuildingOf b h

m-component : (names : Names) (level : Inside) (start : ℕ) (b : Building) (c : Comp) → LevelFits level → BuildingOf b → Makes BuildingOf (d.component names level start b c)
m-component names level start b c l h =
    m-bind BegunOf BuildingOf (d.begun_names names start b.here [] (all_ids c.names)) _ (m-begun_names names start b.here [] (all_ids c.names) h) (λ r q.
    m-bind (Maybe IndicatedOf) BuildingOf (d.indic names level r.0 c.component) _ (m-indic names level r.0 c.component l q) (λ s p.
    m-with_fields names (record { here = r.0; fields = b.fields; offset = b.offset; mentions = also_all b.mentions (d.indicated_mentions s) }) s (all_ids c.names) r.1 q))

m-components : (names : Names) (level : Inside) (start : ℕ) (b : Building) (cs : List Comp) → LevelFits level → BuildingOf b → Makes BuildingOf (d.components names level start b cs)
m-components names level start b [] l h = m-pure BuildingOf b h
m-components names level start b (c ∷ cs) l h = m-bind BuildingOf BuildingOf (d.component names level start b c) _ (m-component names level start b c l h) (λ e q. m-components names level start e cs l q)

m-record_written : (cells : ℕ) (ms : TypedPart) (fs : List Field) → Makes (Maybe IndicatedOf) (d.record_written cells ms fs)
m-record_written cells ms fs =
    m-bind Any (Maybe IndicatedOf) (written_shape (shape.Record fs cells)) _ (record { at = λ log g. (shape_more log.shapes (shape.Record fs cells) (λ ds c k n e. absurd cc) g, tt) }) (λ n q. m-some IndicatedOf (indicated ms (subtype.Composite n)) tt)

m-record_of : (names : Names) (level : Inside) (here : Context) (cs : List Comp) → LevelFits level → AreBased here.scope → Makes (Maybe IndicatedOf) (d.record_of names level here cs)
unfolding d.record_of
m-record_of names level here cs l r =
    m-bind BuildingOf (Maybe IndicatedOf) (d.components names level (length here.scope) (record { here = here; fields = Some []; offset = 0; mentions = part.Nothing }) cs) _
    (m-components names level (length here.scope) (record { here = here; fields = Some []; offset = 0; mentions = part.Nothing }) cs l r) (λ b q.
    m-given Any IndicatedOf b.fields (d.record_written b.offset b.mentions) (any b.fields) (λ fs s. m-record_written b.offset b.mentions fs))

-- ---- types

own-span : (token : ℕ) (a z : ℤ) → (in_base (kind.Own token) a && in_base (kind.Own token) z && int_le a z) ≡ true → IsRange (kind.Own token) a z
own-span token a z e =
    let x = and_parts (in_base (kind.Own token) a && in_base (kind.Own token) z) (int_le a z) e in
    let y = and_parts (in_base (kind.Own token) a) (in_base (kind.Own token) z) x.0 in
    record { some = x.1; first = y.0; last = y.1 }

m-own_type : (token first last : ℕ) (a z : ℤ) → Makes (Maybe IsBased) (d.own_type token first last a z)
m-own_type token first last a z =
    m-bind Any (Maybe IsBased) (unless (in_base (kind.Own token) a) first StaticRange) _ (m-unless (in_base (kind.Own token) a) first StaticRange) (λ u p.
    m-bind Any (Maybe IsBased) (unless (in_base (kind.Own token) z) last StaticRange) _ (m-unless (in_base (kind.Own token) z) last StaticRange) (λ v q.
    m-bind Any (Maybe IsBased) (unless (int_le a z) first StaticRange) _ (m-unless (int_le a z) first StaticRange) (λ w t.
    m-test (Maybe IsBased) (in_base (kind.Own token) a && in_base (kind.Own token) z && int_le a z) (some (subtype.Scalar (record { kind = kind.Own token; low = a; high = z }))) (pure None)
    (λ e. m-some IsBased (subtype.Scalar (record { kind = kind.Own token; low = a; high = z })) (own-span token a z e)) (m-none IsBased))))

m-static_number : (x : Option Found) → Makes (Maybe Any) (given x d.static_number)
m-static_number None = record { at = λ log h. (h, tt) }
m-static_number (Some f) = record { at = λ log h. (((k-static_number spanning f).at log).at h, any (d.static_number f log).0) }

m-own_type_of : (token : ℕ) (r : Option Found × Option Found) → Makes (Maybe IndicatedOf) (d.own_type_of token r)
m-own_type_of token r =
    m-bind (Maybe Any) (Maybe IndicatedOf) (given r.0 d.static_number) _ (m-static_number r.0) (λ a p.
    m-bind (Maybe Any) (Maybe IndicatedOf) (given r.1 d.static_number) _ (m-static_number r.1) (λ z q.
    m-bind (Maybe IsBased) (Maybe IndicatedOf) (both a z (d.own_type token (d.first_or r.0) (d.first_or r.1))) _
    (m-both Any Any IsBased a z (d.own_type token (d.first_or r.0) (d.first_or r.1)) p q (λ x y g h. m-own_type token (d.first_or r.0) (d.first_or r.1) x y)) (λ t s.
    m-pure (Maybe IndicatedOf) _ (mapped IsBased IndicatedOf (indicated (also_all (d.found_mentions r.0) (d.found_mentions r.1))) t s (λ x h. h)))))

-- a modular type has a number at least
modular-range : (token k m : ℕ) → modulus k - 1 ≡ m → IsRange (kind.Modular token k) (pos 0) (pos m)
modular-range token k m e = record {
  some = le-leb 0 m (omega arith);
  first = both-true (int_le (pos 0) (pos 0)) (int_le (pos 0) (pos (modulus k - 1))) refl (le-leb 0 (modulus k - 1) (omega arith));
  last = both-true (int_le (pos 0) (pos m)) (int_le (pos m) (pos (modulus k - 1))) (le-leb 0 m (omega arith)) (subst (λ n. int_le (pos m) (pos n) ≡ true) (sym e) (le-leb m m (omega arith)));
}

modular-based : (token k : ℕ) → IsBased (subtype.Scalar (base_of (kind.Modular token k)))
modular-based token k = subst (λ z. IsRange (kind.Modular token k) (number_turned (pos 0)) z) (sym (turned_twice (pos (modulus k - 1)))) (modular-range token k (modulus k - 1) refl)

m-modular_by : (token first : ℕ) (k : Option ℕ) → Makes (Maybe IsBased) (d.modular_by token first k)
m-modular_by token first None = m-fault IsBased first StaticRange
m-modular_by token first (Some k) = m-some IsBased (subtype.Scalar (base_of (kind.Modular token k))) (modular-based token k)

m-modular_type : (token : ℕ) (f : Found) → Makes (Maybe IndicatedOf) (d.modular_type token f)
m-modular_type token f =
    m-bind (Maybe Any) (Maybe IndicatedOf) (d.static_number f) _ (m-static_number (Some f)) (λ m p.
    m-bind (Maybe IsBased) (Maybe IndicatedOf) (given m (λ z. d.modular_by token (first_of f.known) (d.exponent_from 64 1 z))) _ (m-given Any IsBased m _ p (λ z q. m-modular_by token (first_of f.known) (d.exponent_from 64 1 z))) (λ t q.
    m-pure (Maybe IndicatedOf) (option_map (indicated (mentions_of f)) t) (mapped IsBased IndicatedOf (indicated (mentions_of f)) t q (λ x h. h))))

m-defined : (names : Names) (level : Inside) (here : Context) (token : ℕ) (x : Definition) → LevelFits level → AreBased here.scope → Makes (Maybe IndicatedOf) (d.defined names level here token x)
unfolding d.defined
m-defined names level here token (syntax.ModularType m) l r =
    m-bind Finding (Maybe IndicatedOf) (simple level here wanted.Other m) _ (m-simple level here wanted.Other m l r) (λ x q. m-given FoundOf IndicatedOf x (d.modular_type token) q (λ f p. m-modular_type token f))
m-defined names level here token (syntax.RangeType low high) l r = m-bind AreFinding (Maybe IndicatedOf) (two_bounds level here low high) (d.own_type_of token) (m-two_bounds level here low high l r) (λ x q. m-own_type_of token x)
m-defined names level here token (syntax.ArrayType a) l r = m-array names level here a l r
m-defined names level here token (syntax.RecordType c cs) l r = m-record_of names level here (c ∷ cs) l r

-- ---- objects

abbrev pub IsDecl : TypedPart → Type 0
IsDecl p = (ds : Decls) → DeclsFit ds → DeclsFit (as_decl p ds)

abbrev pub DeclsOf : TypedPart → Type 0
DeclsOf x = Each IsDecl x

decls-list : (x : TypedPart) → DeclsOf x → DeclsFit (as_decls x)
decls-list (part.Cons p q) h = h.0 (as_decls q) (decls-list q h.1)
decls-list x h = tt

pub decls-fit : (x : TypedPart) → DeclsOf x → DeclsFit (as_decls (turned x))
decls-fit x h = decls-list (turned x) (each-turned IsDecl x h)

-- what is around those behind, and the declarations so far
abbrev pub DeclaringOf : Context × Option TypedPart → Type 0
DeclaringOf r = AreBased r.0.scope × Maybe DeclsOf r.1

object-kept : (names : Names) (here : Context) (token n cells : ℕ) (constant : Bool) (value : Option ℤ) (b : Bool) → Makes Any (if b then (d.object_written names here token n cells constant value >>= λ m. some m) else pure None)
object-kept names here token n cells constant value true = record { at = λ log h. (h, tt) }
object-kept names here token n cells constant value false = record { at = λ log h. (h, tt) }

pub m-new_object : (names : Names) (here : Context) (token : ℕ) (s : Subtype) (constant : Bool) (value : Option ℤ) → Makes Any (d.new_object names here token s constant value)
unfolding d.new_object
m-new_object names here token s constant value =
    m-bind Any Any (read (λ log. cells_in log s)) _ (m-read Any (λ log. cells_in log s) (λ log g. tt)) (λ cells p.
    m-bind Any Any (d.cells_counted token cells) _ (m-kept (d.cells_counted token cells) (k-cells_counted spanning token cells)) (λ fits q.
    m-bind Any Any (number_of s) _ (m-number_of s) (λ n t. object-kept names here token n cells constant value fits)))

abbrev InitialOf : Initial → Type 0
InitialOf v = Maybe ValueOf v.stored

m-initial : (names : Names) (level : Inside) (here : Context) (s : Option Indicated) (e : Option Expr) → LevelFits level → AreBased here.scope → Makes (Maybe InitialOf) (d.initial names level here s e)
unfolding d.initial
m-initial names level here s None l r = m-some InitialOf d.no_initial tt
m-initial names level here None (Some e) l r = m-bind Any (Maybe InitialOf) (judged_alone names level here e) _ (m-judged_alone names level here e l r) (λ u q. m-none InitialOf)
m-initial names level here (Some s) (Some e) l r =
    m-bind Finding (Maybe InitialOf) (expr names level here (wanted_of s.known) e) _ (m-expr names level here (wanted_of s.known) e l r) (λ x q.
    m-bind (Maybe ValueOf) (Maybe InitialOf) (given x (stored s.known (first_token.of_expr e))) _ (m-given FoundOf ValueOf x (stored s.known (first_token.of_expr e)) q (λ f p. m-stored s.known (first_token.of_expr e) f p)) (λ v p.
    m-pure (Maybe InitialOf) (joined d.initial_value v x) (joint ValueOf FoundOf InitialOf d.initial_value v x p q (λ a b g h. g))))

with-mentions : (made ms : TypedPart) → DeclsOf made → DeclsOf (d.with_mentions made ms)
with-mentions made part.Nothing h = h
with-mentions made ms h = ((λ ds r. r), h)

with-object : (made : TypedPart) (constant : Bool) (n : ℕ) (v : Option TypedPart) → DeclsOf made → Maybe ValueOf v → DeclsOf (d.with_object made constant n v)
with-object made true n (Some v) g h = ((λ ds r. (h, r)), g)
with-object made true n None g h = g
with-object made false n None g h = ((λ ds r. r), g)
with-object made false n (Some v) g h = ((λ ds r. (h, r)), g)

object-ended : (names : Names) (here : Context) (token : ℕ) (f : Option ℕ) (constant : Bool) (s : Indicated) (v : Initial) (made : Option TypedPart) (n : Option ℕ) → AreBased here.scope → IndicatedOf s → InitialOf v → Maybe DeclsOf made
    → DeclaringOf (d.object_ended names here token f constant s v made n)
object-ended names here token f constant s v made None h i j g = (ended-based names here f None h tt, tt)
object-ended names here token f constant s v made (Some n) h i j g = (
  ended-based names here f (Some (what.Object n s.known (not constant) (d.constant_value constant s.known v))) h (constant-based constant s.known v i),
  mapped DeclsOf DeclsOf (λ ds. d.with_object (d.with_mentions ds s.part) constant n v.stored) made g (λ ds k. with-object (d.with_mentions ds s.part) constant n v.stored (with-mentions ds s.part k) j),
)

m-broken : (names : Names) (here : Context) (token : ℕ) (f : Option ℕ) → AreBased here.scope → Makes DeclaringOf (d.cells_counted token 0 >>= λ b. pure (d.ended_name names here f None, None))
m-broken names here token f h = m-bind Any DeclaringOf (d.cells_counted token 0) _ (m-kept (d.cells_counted token 0) (k-cells_counted spanning token 0)) (λ b q. m-pure DeclaringOf (d.ended_name names here f None, None) (ended-based names here f None h tt, tt))

m-one_object : (names : Names) (here : Context) (token : ℕ) (f : Option ℕ) (constant : Bool) (made : Option TypedPart) (s : Option Indicated) (v : Option Initial) → AreBased here.scope → Maybe DeclsOf made → Maybe IndicatedOf s → Maybe InitialOf v
    → Makes DeclaringOf (d.one_object names here token f constant made s v)
m-one_object names here token f constant made (Some s) (Some v) h g i j =
    m-bind Any DeclaringOf (d.new_object names here token s.known constant (d.constant_value constant s.known v)) _ (m-new_object names here token s.known constant (d.constant_value constant s.known v)) (λ n q.
    m-pure DeclaringOf (d.object_ended names here token f constant s v made n) (object-ended names here token f constant s v made n h i j g))
m-one_object names here token f constant made (Some s) None h g i j = m-broken names here token f h
m-one_object names here token f constant made None v h g i j = m-broken names here token f h

m-typed_object : (names : Names) (level : Inside) (here : Context) (t : ObjectType) → LevelFits level → AreBased here.scope → Makes (Maybe IndicatedOf) (d.typed_object names level here t)
m-typed_object names level here (syntax.Indicated i) l r = m-indic names level here i l r
m-typed_object names level here (syntax.Anonymous a) l r = m-array names level here a l r

m-each_object : (names : Names) (level : Inside) (inner here : Context) (constant : Bool) (first : ℕ) (t : ObjectType) (e : Option Expr) (made : Option TypedPart) (is : List ℕ) (fs : List (Option ℕ)) → LevelFits level → AreBased inner.scope → AreBased here.scope → Maybe DeclsOf made
    → Makes DeclaringOf (d.each_object names level inner here constant first t e made is fs)
m-each_object names level inner here constant first t e made (i ∷ is) (f ∷ fs) l q r g =
    m-bind (Maybe IndicatedOf) DeclaringOf (d.typed_object names level inner t) _ (m-typed_object names level inner t l q) (λ s p1.
    m-bind (Maybe InitialOf) DeclaringOf (d.initial names level inner s e) _ (m-initial names level inner s e l q) (λ v p2.
    m-bind Any DeclaringOf (d.valued_constant first constant s e) _ (m-kept (d.valued_constant first constant s e) (k-valued_constant spanning first constant s e)) (λ u p3.
    m-bind DeclaringOf DeclaringOf (d.one_object names here i f constant made s v) _ (m-one_object names here i f constant made s v r g p1 p2) (λ x p4. m-each_object names level inner x.0 constant first t e x.1 is fs l q p4.0 p4.1))))
m-each_object names level inner here constant first t e made [] fs l q r g = m-pure DeclaringOf (here, made) (r, g)
m-each_object names level inner here constant first t e made (i ∷ is) [] l q r g = m-pure DeclaringOf (here, made) (r, g)

m-objects : (names : Names) (level : Inside) (start : ℕ) (here : Context) (made : Option TypedPart) (is : Ids) (constant : Bool) (t : ObjectType) (e : Option Expr) → LevelFits level → AreBased here.scope → Maybe DeclsOf made
    → Makes DeclaringOf (d.objects names level start here made is constant t e)
unfolding d.objects
m-objects names level start here made is constant t e l r g =
    m-bind BegunOf DeclaringOf (d.begun_names names start here [] (all_ids is)) _ (m-begun_names names start here [] (all_ids is) r) (λ x q. m-each_object names level x.0 x.0 constant is.first t e made (all_ids is) x.1 l q q g)

-- ---- named numbers and exceptions

all-ended : (names : Names) (here : Context) (w : Option What) (fs : List (Option ℕ)) → AreBased here.scope → MaybeBased w → AreBased (d.all_ended names here w fs).scope
all-ended names here w [] h k = h
all-ended names here w (f ∷ fs) h k = all-ended names (d.ended_name names here f w) w fs (ended-based names here f w h k) k

m-numbers : (names : Names) (level : Inside) (start : ℕ) (here : Context) (made : Option TypedPart) (is : Ids) (e : Expr) → LevelFits level → AreBased here.scope → Maybe DeclsOf made → Makes DeclaringOf (d.numbers names level start here made is e)
unfolding d.numbers
m-numbers names level start here made is e l r g =
    m-bind BegunOf DeclaringOf (d.begun_names names start here [] (all_ids is)) _ (m-begun_names names start here [] (all_ids is) r) (λ x q.
    m-bind Finding DeclaringOf (expr names level x.0 wanted.Other e) _ (m-expr names level x.0 wanted.Other e l q) (λ y p.
    m-bind (Maybe Any) DeclaringOf (given y d.static_number) _ (m-static_number y) (λ v s.
    m-pure DeclaringOf (d.all_ended names x.0 (option_map what.Number v) x.1, joined (d.and_mentions (d.found_mentions y)) made v)
    (all-ended names x.0 (option_map what.Number v) x.1 q (mapped Any IsBasedWhat what.Number v s (λ z t. tt)), joint DeclsOf Any DeclsOf (d.and_mentions (d.found_mentions y)) made v g s (λ a b m n. with-mentions a (d.found_mentions y) m)))))

abbrev AroundOf : Context → Type 0
AroundOf c = AreBased c.scope

m-each_exception : (names : Names) (here : Context) (ts : List ℕ) (fs : List (Option ℕ)) → AreBased here.scope → Makes AroundOf (d.each_exception names here ts fs)
m-each_exception names here (t ∷ ts) (f ∷ fs) h =
    m-bind Any AroundOf (d.new_exception t) _ (m-kept (d.new_exception t) (k-new_exception spanning t)) (λ n q.
    m-each_exception names (d.ended_name names here f (Some (what.Exception (reason.Declared n)))) ts fs (ended-based names here f (Some (what.Exception (reason.Declared n))) h tt))
m-each_exception names here [] fs h = m-pure AroundOf here h
m-each_exception names here (t ∷ ts) [] h = m-pure AroundOf here h

-- ---- declarations

one-type : (names : Names) (here : Context) (made : Option TypedPart) (f : Option ℕ) (s : Option Indicated) → AreBased here.scope → Maybe DeclsOf made → Maybe IndicatedOf s → DeclaringOf (d.one_type names here made f s)
one-type names here made f s h g i = (
  ended-based names here f (option_map (λ t. what.Type t.known) s) h (mapped IndicatedOf IsBasedWhat (λ t. what.Type t.known) s i (λ x k. k)),
  joint DeclsOf IndicatedOf DeclsOf d.and_type made s g i (λ a b m n. with-mentions a b.part m),
)

pub m-declaration : (names : Names) (level : Inside) (start : ℕ) (here : Context) (made : Option TypedPart) (x : Decl) → LevelFits level → AreBased here.scope → Maybe DeclsOf made → Makes DeclaringOf (d.declaration names level start here made x)
unfolding d.declaration
m-declaration names level start here made (syntax.ObjectDecl is constant t e) l r g = m-objects names level start here made is (is_some constant) t e l r g
m-declaration names level start here made (syntax.NumberDecl is at e) l r g = m-numbers names level start here made is e l r g
m-declaration names level start here made (syntax.ExceptionDecl is) l r g =
    m-bind BegunOf DeclaringOf (d.begun_names names start here [] (all_ids is)) _ (m-begun_names names start here [] (all_ids is) r) (λ x q.
    m-bind AroundOf DeclaringOf (d.each_exception names x.0 (all_ids is) x.1) _ (m-each_exception names x.0 (all_ids is) x.1 q) (λ c p. m-pure DeclaringOf (c, made) (p, g)))
m-declaration names level start here made (syntax.TypeDecl at token x) l r g =
    m-bind Any DeclaringOf (free names start here token) _ (m-kept (free names start here token) (k-free spanning names start here token tt)) (λ f q.
    m-bind (Maybe IndicatedOf) DeclaringOf (d.defined names level (hidden_where names here token f) token x) _ (m-defined names level (hidden_where names here token f) token x l (hidden-based names here token f r)) (λ s p.
    m-pure DeclaringOf (d.one_type names (hidden_where names here token f) made f s) (one-type names (hidden_where names here token f) made f s (hidden-based names here token f r) g p)))
m-declaration names level start here made (syntax.SubtypeDecl at token i) l r g =
    m-bind Any DeclaringOf (free names start here token) _ (m-kept (free names start here token) (k-free spanning names start here token tt)) (λ f q.
    m-bind (Maybe IndicatedOf) DeclaringOf (d.indic names level (hidden_where names here token f) i) _ (m-indic names level (hidden_where names here token f) i l (hidden-based names here token f r)) (λ s p.
    m-pure DeclaringOf (d.one_type names (hidden_where names here token f) made f s) (one-type names (hidden_where names here token f) made f s (hidden-based names here token f r) g p)))

pub m-declarations : (names : Names) (level : Inside) (start : ℕ) (here : Context) (made : Option TypedPart) (ds : List Decl) → LevelFits level → AreBased here.scope → Maybe DeclsOf made → Makes DeclaringOf (d.declarations names level start here made ds)
m-declarations names level start here made [] l r g = m-pure DeclaringOf (here, made) (r, g)
m-declarations names level start here made (x ∷ xs) l r g = m-bind DeclaringOf DeclaringOf (d.declaration names level start here made x) _ (m-declaration names level start here made x l r g) (λ y q. m-declarations names level start y.0 y.1 xs l q.0 q.1)
