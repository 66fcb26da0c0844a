-- What is judged without a fault is there: types and declarations.
use Rattle.std.proofs.Common.{◌≡◌, refl, sym, ◌∙◌, ℕ, ℤ, List, [], ◌∷◌, ◌++◌, length, Option, Some, None, Bool, true, false, true≢false, is_some, option_map, int_le, nat_le, not, ◌&&◌, ◌+◌}
use Rattle.std.proofs.lemmas.Bool.{and_from}
use Rattle.ada_base.specs.declared.reason.Reason.TheVariants as reason
use Rattle.syntax_tree.specs.FirstTokens as first_token
use Rattle.syntax_tree.specs.Syntax as syntax
use Rattle.syntax_tree.specs.Syntax.{Array, Comp, Decl, Definition, Expr, Ids, Indic, ObjectType, Range}
use Rattle.typed_tree.specs.Decoded as part
use Rattle.typed_tree.specs.Decoded.{TypedPart}
use Rattle.name_rules.specs.Declarations as d
use Rattle.name_rules.specs.Declarations.{Building, Dimensions, Indicated, Initial, all_ids, indicated}
use Rattle.name_rules.specs.Expressions.{Inside, expr, judged_alone, simple}
use Rattle.name_rules.specs.Found.{Found}
use Rattle.name_rules.specs.Judging.{◌>>=◌, both, fault, given, joined, pure, read, unless}
use Rattle.name_rules.specs.Operators.{both_mentions}
use Rattle.name_rules.specs.Ranges.{both_static, static_range, two_bounds}
use Rattle.name_rules.specs.Scope.{as_scalar, declared, free, hidden_where, subtype_named}
use Rattle.name_rules.specs.Symbols.{symbol}
use Rattle.name_rules.specs.TypedParts.{also_all}
use Rattle.name_rules.specs.Types.{array_cells, cells_in, in_base, lies_in, number_of, saturated, wanted_of, written_shape, kept}
use Rattle.name_rules.specs.Values.{first_of, stored, mentions_of}
use Rattle.name_rules.specs.Limits.{most_dimensions}
use Rattle.name_rules.specs.declared.log.Bound.TheVariants as bound
use Rattle.name_rules.specs.declared.log.Dimension.{Dimension}
use Rattle.name_rules.specs.declared.log.Field.{Field}
use Rattle.name_rules.specs.declared.log.Rule.TheVariants.{Limit, StaticRange, WrongType}
use Rattle.name_rules.specs.declared.log.Shape.TheVariants as shape
use Rattle.name_rules.specs.declared.log.Shape.{Shape}
use Rattle.name_rules.specs.declared.scope.Context.{Context}
use Rattle.name_rules.specs.declared.scope.Names.{Names}
use Rattle.name_rules.specs.declared.scope.What.TheVariants as what
use Rattle.name_rules.specs.declared.scope.What.{What}
use Rattle.name_rules.specs.declared.types.Kind.TheVariants as kind
use Rattle.name_rules.specs.declared.types.Scalar.{Scalar}
use Rattle.name_rules.specs.declared.types.Subtype.TheVariants as subtype
use Rattle.name_rules.specs.declared.types.Subtype.{Subtype}
use Rattle.name_rules.specs.declared.types.Wanted.TheVariants as wanted
use Rattle.name_complete.proofs.Counting.{s-cells_counted}
use Rattle.name_complete.proofs.Explains.{Any, Is, Sound, grows-same, joint, mapped, s-bind, s-both, s-breaks, s-fault, s-given, s-if, s-never, s-pure, s-read, s-some, s-test, s-unless}
use Rattle.name_complete.proofs.Facts.{Clear, FoundFor, LevelSound, NotBroken, clear-entry}
use Rattle.name_complete.proofs.SoundExpressions.{plain-of, s-expr, s-judged_alone, s-simple}
use Rattle.name_complete.proofs.SoundRanges.{s-both_static, s-static_range, s-two_bounds}
use Rattle.name_complete.proofs.SoundScope.{s-as_scalar, s-free, s-subtype_named}
use Rattle.name_complete.proofs.SoundValues.{s-static_integer, s-stored}

-- ---- contexts

pub clear-hidden : (names : Names) (here : Context) (token : ℕ) (f : Option ℕ) → Clear here → Clear (hidden_where names here token f)
clear-hidden names here token None c = c
clear-hidden names here token (Some t) c = clear-entry here (symbol names token) what.Hidden tt c

pub clear-declared : (names : Names) (here : Context) (token : ℕ) (w : Option What) → Clear here → Is NotBroken w → Clear (declared names here token w)
clear-declared names here token None c n = absurd n
clear-declared names here token (Some w) c n = clear-entry here (symbol names token) w n c

pub clear-ended : (names : Names) (here : Context) (f : Option ℕ) (w : Option What) → Clear here → Is NotBroken w → Clear (d.ended_name names here f w)
clear-ended names here None w c n = c
clear-ended names here (Some token) w c n = clear-declared names here token w c n

-- ---- several names of one declaration

abbrev pub AreThere : List (Option ℕ) → Type 0
AreThere [] = Unit {0}
AreThere (f ∷ fs) = Is Any f × AreThere fs

are-more : (fs : List (Option ℕ)) (f : Option ℕ) → AreThere fs → Is Any f → AreThere (fs ++ f ∷ [])
are-more [] f h i = (i, tt)
are-more (g ∷ fs) f h i = (h.0, are-more fs f h.1 i)

pub record BegunOf (r : Context × List (Option ℕ)) : Type 0 where
  pub around : Clear r.0
  pub free : AreThere r.1

pub s-begun_names : (G : Type 0) (names : Names) (start : ℕ) (here : Context) (made : List (Option ℕ)) (ts : List ℕ) → (G → Clear here) → (G → AreThere made) → Sound G BegunOf (d.begun_names names start here made ts)
s-begun_names G names start here made [] c h = s-pure G BegunOf (here, made) (λ g. record { around = c g; free = h g })
s-begun_names G names start here made (t ∷ ts) c h =
    s-bind G (Is Any) BegunOf (free names start here t) _ (s-free G names start here t) (λ f.
    s-begun_names (G × Is Any f) names start (hidden_where names here t f) (made ++ f ∷ []) ts (λ g. clear-hidden names here t f (c g.0)) (λ g. are-more made f (h g.0) g.1))

-- ---- subtype indications

all-three : (a b c : Bool) → a ≡ true → b ≡ true → c ≡ true → (a && b && c) ≡ false → ⊥
all-three a b c e f g h = true≢false (sym (and_from (a && b) c (and_from a b e f) g) ∙ h)

s-indic_range : (G : Type 0) (s : Scalar) (first last : ℕ) (r : ℤ × ℤ) → Sound G (Is Any) (d.indic_range s first last r)
s-indic_range G s first last r =
    s-bind G (λ u. lies_in s r.0 ≡ true) (Is Any) (unless (lies_in s r.0) first StaticRange) _ (s-unless G (lies_in s r.0) first StaticRange) (λ u.
    s-bind _ (λ v. lies_in s r.1 ≡ true) (Is Any) (unless (lies_in s r.1) last StaticRange) _ (s-unless _ (lies_in s r.1) last StaticRange) (λ v.
    s-bind _ (λ w. int_le r.0 r.1 ≡ true) (Is Any) (unless (int_le r.0 r.1) first StaticRange) _ (s-unless _ (int_le r.0 r.1) first StaticRange) (λ w.
    s-test _ (Is Any) (lies_in s r.0 && lies_in s r.1 && int_le r.0 r.1) _ (pure None)
    (s-some _ Any (subtype.Scalar (record { kind = s.kind; low = kept s.kind r.0; high = kept s.kind r.1 })) (λ g. tt))
    (s-pure _ (Is Any) None (λ g. all-three (lies_in s r.0) (lies_in s r.1) (int_le r.0 r.1) g.0.0.0.1 g.0.0.1 g.0.1 g.1)))))

s-indic_bounds : (G : Type 0) (s : Scalar) (a z : Found) → Sound G (Is Any) (d.indic_bounds s a z)
s-indic_bounds G s a z =
    s-bind G (Is Any) (Is Any) (both_static s.kind a z) _ (s-both_static G s.kind a z) (λ v.
    s-bind _ (Is Any) (Is Any) (given v (d.indic_range s (first_of a.known) (first_of z.known))) _ (s-given _ Any Any v (d.indic_range s (first_of a.known) (first_of z.known)) (λ g. g.1) (λ r. s-indic_range _ s (first_of a.known) (first_of z.known) r)) (λ t.
    s-pure _ (Is Any) (option_map (indicated (both_mentions a z)) t) (λ g. mapped Any Any (indicated (both_mentions a z)) t g.1 (λ x h. tt))))

pub s-indic : (G : Type 0) (names : Names) (level : Inside) (here : Context) (i : Indic) → LevelSound level → (G → Clear here) → Sound G (Is Any) (d.indic names level here i)
unfolding d.indic
s-indic G names level here (syntax.Mark mark) l c =
    s-bind G (Is Any) (Is Any) (subtype_named names here mark) _ (s-subtype_named G names here mark c) (λ s.
    s-pure _ (Is Any) (option_map (indicated part.Nothing) s) (λ g. mapped Any Any (indicated part.Nothing) s g.1 (λ x h. tt)))
s-indic G names level here (syntax.RangeMark mark low high) l c =
    s-bind G (Is Any) (Is Any) (subtype_named names here mark) _ (s-subtype_named G names here mark c) (λ s.
    s-bind _ (Is Any) (Is Any) (given s (as_scalar mark)) _ (s-given _ Any Any s (as_scalar mark) (λ g. g.1) (λ x. s-as_scalar _ mark x)) (λ t.
    s-bind _ (λ r. Is (FoundFor wanted.Other) r.0 × Is (FoundFor wanted.Other) r.1) (Is Any) (two_bounds level here low high) _ (s-two_bounds _ level here low high l (λ g. c g.0.0)) (λ r.
    s-given _ Any Any t (λ x. both r.0 r.1 (d.indic_bounds x)) (λ g. g.0.1) (λ x.
    s-both _ (FoundFor wanted.Other) (FoundFor wanted.Other) Any r.0 r.1 (d.indic_bounds x) (λ g. g.0.1.0) (λ g. g.0.1.1) (λ a z. s-indic_bounds _ x a z)))))

-- ---- arrays

s-dimensions_from : (G : Type 0) (level : Inside) (here : Context) (made : Option Dimensions) (rs : List Range) → LevelSound level → (G → Clear here) → (G → Is Any made) → Sound G (Is Any) (d.dimensions_from level here made rs)
s-dimensions_from G level here made [] l c h = s-pure G (Is Any) made h
s-dimensions_from G level here made (r ∷ rs) l c h =
    s-bind G (Is Any) (Is Any) (static_range level here true None r) _ (s-static_range G level here true None r l c) (λ x.
    s-dimensions_from (G × Is Any x) level here (joined d.also_dimension made x) rs l (λ g. c g.0) (λ g. joint Any Any Any d.also_dimension made x (h g.0) g.1 (λ a b m n. tt)))

pub s-written_shape : (G : Type 0) (t : Shape) → Sound G Any (written_shape t)
s-written_shape G t = record { grows = λ log. grows-same log _ refl refl refl; at = λ log c e g. tt }

s-number_of : (G : Type 0) (s : Subtype) → Sound G Any (number_of s)
unfolding number_of
s-number_of G (subtype.Scalar s) = s-written_shape G (shape.Scalar s)
s-number_of G (subtype.Composite n) = s-pure G Any n (λ g. tt)

s-array_written : (G : Type 0) (ds : List Dimension) (s : Subtype) → Sound G (Is Any) (d.array_written ds s)
s-array_written G ds s =
    s-bind G Any (Is Any) (number_of s) _ (s-number_of G s) (λ m.
    s-bind _ Any (Is Any) (read (λ log. array_cells ds (cells_in log s))) _ (s-read _ Any (λ log. array_cells ds (cells_in log s)) (λ log g. tt)) (λ cells.
    s-bind _ Any (Is Any) (written_shape (shape.Array ds s m cells)) _ (s-written_shape _ (shape.Array ds s m cells)) (λ n.
    s-some _ Any (subtype.Composite n) (λ g. tt))))

s-array_given : (G : Type 0) (at : ℕ) (ds : Dimensions) (s : Indicated) → Sound G (Is Any) (d.array_given at ds s)
s-array_given G at ds s =
    s-if G (Is Any) (nat_le (length ds.dimensions) most_dimensions) _ (fault at (Limit bound.Dimensions))
    (s-bind G (Is Any) (Is Any) (d.array_written ds.dimensions s.known) _ (s-array_written G ds.dimensions s.known) (λ t.
    s-pure _ (Is Any) (option_map (indicated (also_all ds.mentions s.part)) t) (λ g. mapped Any Any (indicated (also_all ds.mentions s.part)) t g.1 (λ x h. tt))))
    (s-fault G (Is Any) at (Limit bound.Dimensions))

pub s-array : (G : Type 0) (names : Names) (level : Inside) (here : Context) (a : Array) → LevelSound level → (G → Clear here) → Sound G (Is Any) (d.array names level here a)
unfolding d.array
s-array G names level here a l c =
    let made : Option Dimensions = Some (record { dimensions = []; mentions = part.Nothing }) in
    s-bind G (Is Any) (Is Any) (d.dimensions_from level here made (a.first ∷ a.more)) _ (s-dimensions_from G level here made (a.first ∷ a.more) l c (λ g. tt)) (λ ds.
    s-bind _ (Is Any) (Is Any) (d.indic names level here a.component) _ (s-indic _ names level here a.component l (λ g. c g.0)) (λ s.
    s-both _ Any Any Any ds s (d.array_given a.at) (λ g. g.0.1) (λ g. g.1) (λ x y. s-array_given _ a.at x y)))

-- ---- records

pub record BuildingOf (b : Building) : Type 0 where
  pub around : Clear b.here
  pub fields : Is Any b.fields

s-with_field : (G : Type 0) (names : Names) (b : Building) (f : Option ℕ) (token : ℕ) (s : Option Indicated) → (G → BuildingOf b) → (G → Is Any f) → (G → Is Any s) → Sound G BuildingOf (d.with_field names b f token s)
s-with_field G names b None token s h i j = s-pure G BuildingOf (d.without_fields b b.here) (λ g. absurd (i g))
s-with_field G names b (Some t) token None h i j = s-pure G BuildingOf _ (λ g. absurd (j g))
s-with_field G names b (Some t) token (Some s) h i j =
    s-bind G Any BuildingOf (number_of s.known) _ (s-number_of G s.known) (λ n.
    s-bind _ Any BuildingOf (read (λ log. cells_in log s.known)) _ (s-read _ Any (λ log. cells_in log s.known) (λ log g. tt)) (λ cells.
    let x : Field = record { symbol = symbol names token; name = token; subtype = s.known; number = n; offset = b.offset } in
    s-pure _ BuildingOf (record {
      here = declared names b.here token (Some what.Hidden);
      fields = option_map (d.also_field x) b.fields;
      offset = saturated (b.offset + cells);
      mentions = b.mentions;
    }) (λ g. record { around = clear-declared names b.here token (Some what.Hidden) (h g.0.0).around tt; fields = mapped Any Any (d.also_field x) b.fields (h g.0.0).fields (λ y k. tt) })))

s-with_fields : (G : Type 0) (names : Names) (b : Building) (s : Option Indicated) (ts : List ℕ) (fs : List (Option ℕ)) → (G → BuildingOf b) → (G → AreThere fs) → (G → Is Any s) → Sound G BuildingOf (d.with_fields names b s ts fs)
s-with_fields G names b s (t ∷ ts) (f ∷ fs) h i j =
    s-bind G BuildingOf BuildingOf (d.with_field names b f t s) _ (s-with_field G names b f t s h (λ g. (i g).0) j) (λ c. s-with_fields (G × BuildingOf c) names c s ts fs (λ g. g.1) (λ g. (i g.0).1) (λ g. j g.0))
s-with_fields G names b s [] fs h i j = s-pure G BuildingOf b h
s-with_fields G names b s (t ∷ ts) [] h i j = s-pure G BuildingOf b h

s-component : (G : Type 0) (names : Names) (level : Inside) (start : ℕ) (b : Building) (c : Comp) → LevelSound level → (G → BuildingOf b) → Sound G BuildingOf (d.component names level start b c)
s-component G names level start b c l h =
    s-bind G BegunOf BuildingOf (d.begun_names names start b.here [] (all_ids c.names)) _ (s-begun_names G names start b.here [] (all_ids c.names) (λ g. (h g).around) (λ g. tt)) (λ r.
    s-bind _ (Is Any) BuildingOf (d.indic names level r.0 c.component) _ (s-indic _ names level r.0 c.component l (λ g. g.1.around)) (λ s.
    s-with_fields _ names (record { here = r.0; fields = b.fields; offset = b.offset; mentions = also_all b.mentions (d.indicated_mentions s) }) s (all_ids c.names) r.1
    (λ g. record { around = g.0.1.around; fields = (h g.0.0).fields }) (λ g. g.0.1.free) (λ g. g.1)))

s-components : (G : Type 0) (names : Names) (level : Inside) (start : ℕ) (b : Building) (cs : List Comp) → LevelSound level → (G → BuildingOf b) → Sound G BuildingOf (d.components names level start b cs)
s-components G names level start b [] l h = s-pure G BuildingOf b h
s-components G names level start b (c ∷ cs) l h =
    s-bind G BuildingOf BuildingOf (d.component names level start b c) _ (s-component G names level start b c l h) (λ e. s-components (G × BuildingOf e) names level start e cs l (λ g. g.1))

s-record_written : (G : Type 0) (cells : ℕ) (ms : TypedPart) (fs : List Field) → Sound G (Is Any) (d.record_written cells ms fs)
s-record_written G cells ms fs =
    s-bind G Any (Is Any) (written_shape (shape.Record fs cells)) _ (s-written_shape G (shape.Record fs cells)) (λ n. s-some _ Any (indicated ms (subtype.Composite n)) (λ g. tt))

s-record_of : (G : Type 0) (names : Names) (level : Inside) (here : Context) (cs : List Comp) → LevelSound level → (G → Clear here) → Sound G (Is Any) (d.record_of names level here cs)
unfolding d.record_of
s-record_of G names level here cs l c =
    let start : Building = record { here = here; fields = Some []; offset = 0; mentions = part.Nothing } in
    s-bind G BuildingOf (Is Any) (d.components names level (length here.scope) start cs) _ (s-components G names level (length here.scope) start cs l (λ g. record { around = c g; fields = tt })) (λ b.
    s-given _ Any Any b.fields (d.record_written b.offset b.mentions) (λ g. g.1.fields) (λ fs. s-record_written _ b.offset b.mentions fs))

-- ---- types

s-own_type : (G : Type 0) (token first last : ℕ) (a z : ℤ) → Sound G (Is Any) (d.own_type token first last a z)
s-own_type G token first last a z =
    let k = kind.Own token in
    s-bind G (λ u. in_base k a ≡ true) (Is Any) (unless (in_base k a) first StaticRange) _ (s-unless G (in_base k a) first StaticRange) (λ u.
    s-bind _ (λ v. in_base k z ≡ true) (Is Any) (unless (in_base k z) last StaticRange) _ (s-unless _ (in_base k z) last StaticRange) (λ v.
    s-bind _ (λ w. int_le a z ≡ true) (Is Any) (unless (int_le a z) first StaticRange) _ (s-unless _ (int_le a z) first StaticRange) (λ w.
    s-test _ (Is Any) (in_base k a && in_base k z && int_le a z) _ (pure None)
    (s-some _ Any (subtype.Scalar (record { kind = k; low = a; high = z })) (λ g. tt))
    (s-pure _ (Is Any) None (λ g. all-three (in_base k a) (in_base k z) (int_le a z) g.0.0.0.1 g.0.0.1 g.0.1 g.1)))))

s-own_type_of : (G : Type 0) (token : ℕ) (r : Option Found × Option Found) → (G → Is Any r.0) → (G → Is Any r.1) → Sound G (Is Any) (d.own_type_of token r)
s-own_type_of G token r h i =
    s-bind G (Is Any) (Is Any) (given r.0 d.static_number) _ (s-given G Any Any r.0 d.static_number h (λ f. s-static_integer _ f.known)) (λ a.
    s-bind _ (Is Any) (Is Any) (given r.1 d.static_number) _ (s-given _ Any Any r.1 d.static_number (λ g. i g.0) (λ f. s-static_integer _ f.known)) (λ z.
    s-bind _ (Is Any) (Is Any) (both a z (d.own_type token (d.first_or r.0) (d.first_or r.1))) _ (s-both _ Any Any Any a z (d.own_type token (d.first_or r.0) (d.first_or r.1)) (λ g. g.0.1) (λ g. g.1) (λ x y. s-own_type _ token (d.first_or r.0) (d.first_or r.1) x y)) (λ t.
    s-pure _ (Is Any) (option_map (indicated (also_all (d.found_mentions r.0) (d.found_mentions r.1))) t) (λ g. mapped Any Any (indicated (also_all (d.found_mentions r.0) (d.found_mentions r.1))) t g.1 (λ x m. tt)))))

pub is-any : {A : Type 0} (Q : A → Type 0) (x : Option A) → Is Q x → Is Any x
is-any Q None h = h
is-any Q (Some a) h = tt

s-modular_by : (G : Type 0) (token first : ℕ) (k : Option ℕ) → Sound G (Is Any) (d.modular_by token first k)
s-modular_by G token first None = s-fault G (Is Any) first StaticRange
s-modular_by G token first (Some k) = s-some G Any _ (λ g. tt)

s-modular_type : (G : Type 0) (token : ℕ) (f : Found) → Sound G (Is Any) (d.modular_type token f)
s-modular_type G token f =
    s-bind G (Is Any) (Is Any) (d.static_number f >>= λ m. given m (λ z. d.modular_by token (first_of f.known) (d.exponent_from 64 1 z))) _
    (s-bind G (Is Any) (Is Any) (d.static_number f) _ (s-static_integer G f.known) (λ m. s-given _ Any Any m _ (λ g. g.1) (λ z. s-modular_by _ token (first_of f.known) (d.exponent_from 64 1 z)))) (λ t.
    s-pure _ (Is Any) _ (λ g. mapped Any Any (indicated (mentions_of f)) t g.1 (λ x m. tt)))

s-defined : (G : Type 0) (names : Names) (level : Inside) (here : Context) (token : ℕ) (x : Definition) → LevelSound level → (G → Clear here) → Sound G (Is Any) (d.defined names level here token x)
unfolding d.defined
s-defined G names level here token (syntax.RangeType low high) l c =
    s-bind G (λ r. Is (FoundFor wanted.Other) r.0 × Is (FoundFor wanted.Other) r.1) (Is Any) (two_bounds level here low high) (d.own_type_of token) (s-two_bounds G level here low high l c) (λ r.
    s-own_type_of _ token r (λ g. is-any (FoundFor wanted.Other) r.0 g.1.0) (λ g. is-any (FoundFor wanted.Other) r.1 g.1.1))
s-defined G names level here token (syntax.ModularType m) l c =
    s-bind G (Is (FoundFor wanted.Other)) (Is Any) (simple level here wanted.Other m) _ (s-simple G level here wanted.Other m l c (λ g. tt)) (λ x.
    s-given _ Any Any x (d.modular_type token) (λ g. is-any (FoundFor wanted.Other) x g.1) (λ f. s-modular_type _ token f))
s-defined G names level here token (syntax.ArrayType a) l c = s-array G names level here a l c
s-defined G names level here token (syntax.RecordType x xs) l c = s-record_of G names level here (x ∷ xs) l c

-- ---- objects

pub record DeclaringOf (r : Context × Option TypedPart) : Type 0 where
  pub around : Clear r.0
  pub decls : Is Any r.1

s-object_written : (G : Type 0) (names : Names) (here : Context) (token n cells : ℕ) (constant : Bool) (value : Option ℤ) → Sound G Any (d.object_written names here token n cells constant value)
s-object_written G names here token n cells constant value = record { grows = λ log. grows-same log _ refl refl refl; at = λ log c e g. tt }

pub s-new_object : (G : Type 0) (names : Names) (here : Context) (token : ℕ) (s : Subtype) (constant : Bool) (value : Option ℤ) → Sound G (Is Any) (d.new_object names here token s constant value)
unfolding d.new_object
s-new_object G names here token s constant value =
    s-bind G Any (Is Any) (read (λ log. cells_in log s)) _ (s-read G Any (λ log. cells_in log s) (λ log g. tt)) (λ cells.
    s-bind _ (λ b. b ≡ true) (Is Any) (d.cells_counted token cells) _ (s-cells_counted _ token cells) (λ fits.
    s-bind _ Any (Is Any) (number_of s) _ (s-number_of _ s) (λ n.
    s-test _ (Is Any) fits _ (pure None)
    (s-bind _ Any (Is Any) (d.object_written names here token n cells constant value) _ (s-object_written _ names here token n cells constant value) (λ m. s-some _ Any m (λ g. tt)))
    (s-pure _ (Is Any) None (λ g. true≢false (sym g.0.0.1 ∙ g.1))))))

pub s-initial : (G : Type 0) (names : Names) (level : Inside) (here : Context) (s : Option Indicated) (e : Option Expr) → LevelSound level → (G → Clear here) → (G → Is Any s) → Sound G (Is Any) (d.initial names level here s e)
unfolding d.initial
s-initial G names level here s None l c h = s-some G Any d.no_initial (λ g. tt)
s-initial G names level here None (Some e) l c h =
    s-never G G Any (Is Any) (judged_alone names level here e >>= λ u. pure None) (s-bind G Any Any (judged_alone names level here e) _ (s-judged_alone G names level here e l) (λ u. s-pure _ Any None (λ g. tt))) h
s-initial G names level here (Some s) (Some e) l c h =
    s-bind G (Is (FoundFor (wanted_of s.known))) (Is Any) (expr names level here (wanted_of s.known) e) _ (s-expr G names level here (wanted_of s.known) e l c (λ g. plain-of s.known)) (λ x.
    s-bind _ (Is Any) (Is Any) (given x (stored s.known (first_token.of_expr e))) _ (s-given _ (FoundFor (wanted_of s.known)) Any x (stored s.known (first_token.of_expr e)) (λ g. g.1) (λ f. s-stored _ s.known (first_token.of_expr e) f)) (λ v.
    s-pure _ (Is Any) (joined d.initial_value v x) (λ g. joint Any (FoundFor (wanted_of s.known)) Any d.initial_value v x g.1 g.0.1 (λ a b m n. tt))))

s-valued_constant : (G : Type 0) (first : ℕ) (constant : Bool) (s : Option Indicated) (e : Option Expr) → Sound G Any (d.valued_constant first constant s e)
s-valued_constant G first true (Some s) None = s-breaks G Any first WrongType
s-valued_constant G first true (Some s) (Some e) = s-pure G Any tt (λ g. tt)
s-valued_constant G first true None e = s-pure G Any tt (λ g. tt)
s-valued_constant G first false s e = s-pure G Any tt (λ g. tt)

object-ended : (names : Names) (here : Context) (token : ℕ) (f : Option ℕ) (constant : Bool) (s : Indicated) (v : Initial) (made : Option TypedPart) (n : Option ℕ) → Clear here → Is Any made → Is Any n → DeclaringOf (d.object_ended names here token f constant s v made n)
object-ended names here token f constant s v made None c h i = absurd i
object-ended names here token f constant s v made (Some n) c h i = record {
  around = clear-ended names here f (Some (what.Object n s.known (not constant) (d.constant_value constant s.known v))) c tt;
  decls = mapped Any Any (λ ds. d.with_object (d.with_mentions ds s.part) constant n v.stored) made h (λ ds k. tt);
}

s-without : (G : Type 0) (names : Names) (here : Context) (token : ℕ) (f : Option ℕ) → (G → ⊥) → Sound G DeclaringOf (d.cells_counted token 0 >>= λ b. pure (d.ended_name names here f None, None))
s-without G names here token f never =
    s-never G G Any DeclaringOf (d.cells_counted token 0 >>= λ b. pure (d.ended_name names here f None, None))
    (s-bind G (λ b. b ≡ true) Any (d.cells_counted token 0) _ (s-cells_counted G token 0) (λ b. s-pure _ Any (d.ended_name names here f None, None) (λ g. tt))) never

s-one_object : (G : Type 0) (names : Names) (here : Context) (token : ℕ) (f : Option ℕ) (constant : Bool) (made : Option TypedPart) (s : Option Indicated) (v : Option Initial)
    → (G → Clear here) → (G → Is Any made) → (G → Is Any s) → (G → Is Any v) → Sound G DeclaringOf (d.one_object names here token f constant made s v)
s-one_object G names here token f constant made (Some s) (Some v) c h i j =
    let x = d.new_object names here token s.known constant (d.constant_value constant s.known v) in
    s-bind G (Is Any) DeclaringOf x _ (s-new_object G names here token s.known constant (d.constant_value constant s.known v)) (λ n.
    s-pure _ DeclaringOf (d.object_ended names here token f constant s v made n) (λ g. object-ended names here token f constant s v made n (c g.0) (h g.0) g.1))
s-one_object G names here token f constant made (Some s) None c h i j = s-without G names here token f j
s-one_object G names here token f constant made None v c h i j = s-without G names here token f i

s-typed_object : (G : Type 0) (names : Names) (level : Inside) (here : Context) (t : ObjectType) → LevelSound level → (G → Clear here) → Sound G (Is Any) (d.typed_object names level here t)
s-typed_object G names level here (syntax.Indicated i) l c = s-indic G names level here i l c
s-typed_object G names level here (syntax.Anonymous a) l c = s-array G names level here a l c

s-each_object : (G : Type 0) (names : Names) (level : Inside) (inner here : Context) (constant : Bool) (first : ℕ) (t : ObjectType) (e : Option Expr) (made : Option TypedPart) (is : List ℕ) (fs : List (Option ℕ))
    → LevelSound level → (G → Clear inner) → (G → Clear here) → (G → Is Any made) → Sound G DeclaringOf (d.each_object names level inner here constant first t e made is fs)
s-each_object G names level inner here constant first t e made [] fs l i c h = s-pure G DeclaringOf (here, made) (λ g. record { around = c g; decls = h g })
s-each_object G names level inner here constant first t e made (x ∷ is) [] l i c h = s-pure G DeclaringOf (here, made) (λ g. record { around = c g; decls = h g })
s-each_object G names level inner here constant first t e made (x ∷ is) (f ∷ fs) l i c h =
    s-bind G (Is Any) DeclaringOf (d.typed_object names level inner t) _ (s-typed_object G names level inner t l i) (λ s.
    s-bind _ (Is Any) DeclaringOf (d.initial names level inner s e) _ (s-initial _ names level inner s e l (λ g. i g.0) (λ g. g.1)) (λ v.
    s-bind _ Any DeclaringOf (d.valued_constant first constant s e) _ (s-valued_constant _ first constant s e) (λ u.
    s-bind _ DeclaringOf DeclaringOf (d.one_object names here x f constant made s v) _ (s-one_object _ names here x f constant made s v (λ g. c g.0.0.0) (λ g. h g.0.0.0) (λ g. g.0.0.1) (λ g. g.0.1)) (λ y.
    s-each_object ((((G × Is Any s) × Is Any v) × Any u) × DeclaringOf y) names level inner y.0 constant first t e y.1 is fs l (λ g. i g.0.0.0.0) (λ g. g.1.around) (λ g. g.1.decls)))))

s-objects : (G : Type 0) (names : Names) (level : Inside) (start : ℕ) (here : Context) (made : Option TypedPart) (is : Ids) (constant : Bool) (t : ObjectType) (e : Option Expr)
    → LevelSound level → (G → Clear here) → (G → Is Any made) → Sound G DeclaringOf (d.objects names level start here made is constant t e)
unfolding d.objects
s-objects G names level start here made is constant t e l c h =
    s-bind G BegunOf DeclaringOf (d.begun_names names start here [] (all_ids is)) _ (s-begun_names G names start here [] (all_ids is) c (λ g. tt)) (λ y.
    s-each_object _ names level y.0 y.0 constant is.first t e made (all_ids is) y.1 l (λ g. g.1.around) (λ g. g.1.around) (λ g. h g.0))

-- ---- named numbers and exceptions

clear-all : (names : Names) (here : Context) (w : Option What) (fs : List (Option ℕ)) → Clear here → Is NotBroken w → Clear (d.all_ended names here w fs)
clear-all names here w [] c n = c
clear-all names here w (f ∷ fs) c n = clear-all names (d.ended_name names here f w) w fs (clear-ended names here f w c n) n

s-numbers : (G : Type 0) (names : Names) (level : Inside) (start : ℕ) (here : Context) (made : Option TypedPart) (is : Ids) (e : Expr)
    → LevelSound level → (G → Clear here) → (G → Is Any made) → Sound G DeclaringOf (d.numbers names level start here made is e)
unfolding d.numbers
s-numbers G names level start here made is e l c h =
    s-bind G BegunOf DeclaringOf (d.begun_names names start here [] (all_ids is)) _ (s-begun_names G names start here [] (all_ids is) c (λ g. tt)) (λ y.
    s-bind _ (Is (FoundFor wanted.Other)) DeclaringOf (expr names level y.0 wanted.Other e) _ (s-expr _ names level y.0 wanted.Other e l (λ g. g.1.around) (λ g. tt)) (λ x.
    s-bind _ (Is Any) DeclaringOf (given x d.static_number) _ (s-given _ (FoundFor wanted.Other) Any x d.static_number (λ g. g.1) (λ f. s-static_integer _ f.known)) (λ v.
    s-pure _ DeclaringOf (d.all_ended names y.0 (option_map what.Number v) y.1, joined (d.and_mentions (d.found_mentions x)) made v) (λ g. record {
      around = clear-all names y.0 (option_map what.Number v) y.1 g.0.0.1.around (mapped Any NotBroken what.Number v g.1 (λ z k. tt));
      decls = joint Any Any Any (d.and_mentions (d.found_mentions x)) made v (h g.0.0.0) g.1 (λ a b m n. tt);
    }))))

s-new_exception : (G : Type 0) (token : ℕ) → Sound G Any (d.new_exception token)
s-new_exception G token = record { grows = λ log. grows-same log _ refl refl refl; at = λ log c e g. tt }

s-each_exception : (G : Type 0) (names : Names) (here : Context) (ts : List ℕ) (fs : List (Option ℕ)) → (G → Clear here) → Sound G Clear (d.each_exception names here ts fs)
s-each_exception G names here [] fs c = s-pure G Clear here c
s-each_exception G names here (t ∷ ts) [] c = s-pure G Clear here c
s-each_exception G names here (t ∷ ts) (f ∷ fs) c =
    s-bind G Any Clear (d.new_exception t) _ (s-new_exception G t) (λ n.
    s-each_exception (G × Any n) names (d.ended_name names here f (Some (what.Exception (reason.Declared n)))) ts fs (λ g. clear-ended names here f (Some (what.Exception (reason.Declared n))) (c g.0) tt))

-- ---- declarations

one-type : (names : Names) (here : Context) (made : Option TypedPart) (f : Option ℕ) (s : Option Indicated) → Clear here → Is Any made → Is Any s → DeclaringOf (d.one_type names here made f s)
one-type names here made f s c h i = record {
  around = clear-ended names here f (option_map (λ t. what.Type t.known) s) c (mapped Any NotBroken (λ t. what.Type t.known) s i (λ t k. tt));
  decls = joint Any Any Any d.and_type made s h i (λ a b m n. tt);
}

pub s-declaration : (G : Type 0) (names : Names) (level : Inside) (start : ℕ) (here : Context) (made : Option TypedPart) (x : Decl)
    → LevelSound level → (G → Clear here) → (G → Is Any made) → Sound G DeclaringOf (d.declaration names level start here made x)
unfolding d.declaration
s-declaration G names level start here made (syntax.ObjectDecl is constant t e) l c h = s-objects G names level start here made is (is_some constant) t e l c h
s-declaration G names level start here made (syntax.NumberDecl is at e) l c h = s-numbers G names level start here made is e l c h
s-declaration G names level start here made (syntax.ExceptionDecl is) l c h =
    s-bind G BegunOf DeclaringOf (d.begun_names names start here [] (all_ids is)) _ (s-begun_names G names start here [] (all_ids is) c (λ g. tt)) (λ y.
    s-bind _ Clear DeclaringOf (d.each_exception names y.0 (all_ids is) y.1) _ (s-each_exception _ names y.0 (all_ids is) y.1 (λ g. g.1.around)) (λ z.
    s-pure _ DeclaringOf (z, made) (λ g. record { around = g.1; decls = h g.0.0 })))
s-declaration G names level start here made (syntax.TypeDecl at token x) l c h =
    s-bind G (Is Any) DeclaringOf (free names start here token) _ (s-free G names start here token) (λ f.
    s-bind _ (Is Any) DeclaringOf (d.defined names level (hidden_where names here token f) token x) _ (s-defined _ names level (hidden_where names here token f) token x l (λ g. clear-hidden names here token f (c g.0))) (λ s.
    s-pure _ DeclaringOf (d.one_type names (hidden_where names here token f) made f s) (λ g. one-type names (hidden_where names here token f) made f s (clear-hidden names here token f (c g.0.0)) (h g.0.0) g.1)))
s-declaration G names level start here made (syntax.SubtypeDecl at token i) l c h =
    s-bind G (Is Any) DeclaringOf (free names start here token) _ (s-free G names start here token) (λ f.
    s-bind _ (Is Any) DeclaringOf (d.indic names level (hidden_where names here token f) i) _ (s-indic _ names level (hidden_where names here token f) i l (λ g. clear-hidden names here token f (c g.0))) (λ s.
    s-pure _ DeclaringOf (d.one_type names (hidden_where names here token f) made f s) (λ g. one-type names (hidden_where names here token f) made f s (clear-hidden names here token f (c g.0.0)) (h g.0.0) g.1)))

pub s-declarations : (G : Type 0) (names : Names) (level : Inside) (start : ℕ) (here : Context) (made : Option TypedPart) (ds : List Decl)
    → LevelSound level → (G → Clear here) → (G → Is Any made) → Sound G DeclaringOf (d.declarations names level start here made ds)
s-declarations G names level start here made [] l c h = s-pure G DeclaringOf (here, made) (λ g. record { around = c g; decls = h g })
s-declarations G names level start here made (x ∷ ds) l c h =
    s-bind G DeclaringOf DeclaringOf (d.declaration names level start here made x) _ (s-declaration G names level start here made x l c h) (λ y.
    s-declarations (G × DeclaringOf y) names level start y.0 y.1 ds l (λ g. g.1.around) (λ g. g.1.decls))
