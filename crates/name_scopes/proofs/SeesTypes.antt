-- What is found is in scope: initial values, and what declarations mention, where they write nothing.
use Rattle.std.proofs.Common.{ℕ, ℤ, List, [], ◌∷◌, Option, Some, None, true, option_map, int_le, ◌&&◌}
use Rattle.syntax_tree.specs.FirstTokens as first_token
use Rattle.syntax_tree.specs.Syntax as syntax
use Rattle.syntax_tree.specs.Syntax.{Expr, Indic, Range, Simple}
use Rattle.typed_tree.specs.Decoded as part
use Rattle.typed_tree.specs.Decoded.{TypedPart}
use Rattle.name_rules.specs.Declarations as d
use Rattle.name_rules.specs.Declarations.{Dimensions, Indicated, Initial, indicated}
use Rattle.name_rules.specs.Expressions.{Inside, expr, judged_alone, simple}
use Rattle.name_rules.specs.Found.{Found}
use Rattle.name_rules.specs.Judging.{both, given, joined, pure, some, unless, ◌>>=◌}
use Rattle.name_rules.specs.Operators.{both_mentions}
use Rattle.name_rules.specs.Ranges.{Static, both_static, static_range, two_bounds}
use Rattle.name_rules.specs.Scope.{as_scalar, subtype_named}
use Rattle.name_rules.specs.TypedParts.{also_all}
use Rattle.name_rules.specs.Types.{in_base, lies_in, wanted_of, kept, base_of}
use Rattle.name_rules.specs.Values.{first_of, stored, mentions_of}
use Rattle.name_rules.specs.declared.log.Rule.TheVariants.{StaticRange}
use Rattle.name_rules.specs.declared.scope.Context.{Context}
use Rattle.name_rules.specs.declared.scope.Names.{Names}
use Rattle.name_rules.specs.declared.types.Kind.TheVariants as kind
use Rattle.name_rules.specs.declared.types.Scalar.{Scalar}
use Rattle.name_rules.specs.declared.types.Subtype.{Subtype}
use Rattle.name_rules.specs.declared.types.Subtype.TheVariants as subtype
use Rattle.name_rules.specs.declared.types.Wanted.TheVariants as wanted
use Rattle.name_scopes.proofs.Sees.{Any, Sees, Maybe, Sight, World, v-bind, v-both, v-given, v-if, v-none, v-pure, v-some, v-unless, joint, mapped, v-fault}
use Rattle.name_scopes.proofs.SeesExpressions.{v-expr, v-judged_alone, v-simple}
use Rattle.name_scopes.proofs.SeesFound.{Around, ExprOf, Finding, FoundOf, LevelSees, MentionsOf, ValueOf, each-all}
use Rattle.name_scopes.proofs.SeesRanges.{AreFinding, StaticOf, v-both_static, v-static_range, v-two_bounds}
use Rattle.name_scopes.proofs.SeesScope.{v-as_scalar, v-subtype_named}
use Rattle.name_scopes.proofs.SeesValues.{StaticValue, v-static_integer, v-stored, static-mentions}

-- a value that is asked for is there
abbrev pub IsStored : Option Expr → Option TypedPart → Type 0
IsStored None x = Unit {0}
IsStored (Some e) None = ⊥
IsStored (Some e) (Some x) = Unit {0}

module _ (W : World) (V : Sight) where
  abbrev IndicatedOf : Indicated → Type 0
  IndicatedOf s = MentionsOf W V s.part

  -- ---- subtype indications

  v-indic_range : (s : Scalar) (first last : ℕ) (r : ℤ × ℤ) → Sees W V (Maybe Any) (d.indic_range s first last r)
  v-indic_range s first last r =
      v-bind W V Any (Maybe Any) (unless (lies_in s r.0) first StaticRange) _ (v-unless W V (lies_in s r.0) first StaticRange) (λ u p.
      v-bind W V Any (Maybe Any) (unless (lies_in s r.1) last StaticRange) _ (v-unless W V (lies_in s r.1) last StaticRange) (λ v q.
      v-bind W V Any (Maybe Any) (unless (int_le r.0 r.1) first StaticRange) _ (v-unless W V (int_le r.0 r.1) first StaticRange) (λ w t.
      v-if W V (Maybe Any) (lies_in s r.0 && lies_in s r.1 && int_le r.0 r.1) (some (subtype.Scalar (record { kind = s.kind; low = kept s.kind r.0; high = kept s.kind r.1 }))) (pure None)
      (v-some W V Any (subtype.Scalar (record { kind = s.kind; low = kept s.kind r.0; high = kept s.kind r.1 })) tt) (v-none W V Any))))

  v-indic_bounds : (s : Scalar) (a z : Found) → FoundOf W V a → FoundOf W V z → Sees W V (Maybe IndicatedOf) (d.indic_bounds s a z)
  v-indic_bounds s a z g h =
      v-bind W V (Maybe (λ r. MentionsOf W V (both_mentions a z))) (Maybe IndicatedOf) (both_static s.kind a z) _ (v-both_static W V s.kind a z g h) (λ v p.
      v-bind W V (Maybe (λ t. MentionsOf W V (both_mentions a z))) (Maybe IndicatedOf) (given v (d.indic_range s (first_of a.known) (first_of z.known))) _
      (v-given W V (λ r. MentionsOf W V (both_mentions a z)) (λ t. MentionsOf W V (both_mentions a z)) v (d.indic_range s (first_of a.known) (first_of z.known)) p (λ r q.
      record { at = λ log e b. let m = (v-indic_range s (first_of a.known) (first_of z.known) r).at log e b in (m.0, m.1, maybe-all (d.indic_range s (first_of a.known) (first_of z.known) r log).0 q) })) (λ t q.
      v-pure W V (Maybe IndicatedOf) (option_map (indicated (both_mentions a z)) t) (mapped (λ t. MentionsOf W V (both_mentions a z)) IndicatedOf (indicated (both_mentions a z)) t q (λ x r. r))))
    where
      maybe-all : {A Q : Type 0} (x : Option A) → Q → Maybe (λ y. Q) x
      maybe-all None q = tt
      maybe-all (Some y) q = q

  pub v-indic : (names : Names) (level : Inside) (here : Context) (i : Indic) → LevelSees W level → Around W V here → Sees W V (Maybe IndicatedOf) (d.indic names level here i)
  unfolding d.indic
  v-indic names level here (syntax.Mark mark) l r =
      v-bind W V (Maybe Any) (Maybe IndicatedOf) (subtype_named names here mark) _ (v-subtype_named W V names here mark r) (λ s q. v-pure W V (Maybe IndicatedOf) (option_map (indicated part.Nothing) s) (mapped Any IndicatedOf (indicated part.Nothing) s q (λ x t. tt)))
  v-indic names level here (syntax.RangeMark mark low high) l r =
      v-bind W V (Maybe Any) (Maybe IndicatedOf) (subtype_named names here mark) _ (v-subtype_named W V names here mark r) (λ s q.
      v-bind W V (Maybe Any) (Maybe IndicatedOf) (given s (as_scalar mark)) _ (v-given W V Any Any s (as_scalar mark) q (λ t p. v-as_scalar W V mark t)) (λ t p.
      v-bind W V (AreFinding W V) (Maybe IndicatedOf) (two_bounds level here low high) _ (v-two_bounds W V level here low high l r) (λ x u.
      v-given W V Any IndicatedOf t _ p (λ y v. v-both W V (FoundOf W V) (FoundOf W V) IndicatedOf x.0 x.1 (d.indic_bounds y) u.0 u.1 (λ a z g h. v-indic_bounds y a z g h)))))

  -- ---- dimensions

  abbrev DimensionsOf : Dimensions → Type 0
  DimensionsOf ds = MentionsOf W V ds.mentions

  also-dimension : (ds : Option Dimensions) (s : Option Static) → Maybe DimensionsOf ds → Maybe (StaticOf W V) s → Maybe DimensionsOf (joined d.also_dimension ds s)
  also-dimension None s g h = tt
  also-dimension (Some ds) None g h = tt
  also-dimension (Some ds) (Some s) g h = each-all (ExprOf W V) ds.mentions s.part g h

  pub v-dimensions_from : (level : Inside) (here : Context) (made : Option Dimensions) (rs : List Range) → LevelSees W level → Around W V here → Maybe DimensionsOf made → Sees W V (Maybe DimensionsOf) (d.dimensions_from level here made rs)
  v-dimensions_from level here made [] l r g = v-pure W V (Maybe DimensionsOf) made g
  v-dimensions_from level here made (x ∷ xs) l r g =
      v-bind W V (Maybe (StaticOf W V)) (Maybe DimensionsOf) (static_range level here true None x) _ (v-static_range W V level here true None x l r) (λ s q. v-dimensions_from level here (joined d.also_dimension made s) xs l r (also-dimension made s g q))

  -- ---- integer types

  -- what a number mentions, where it is static
  v-static_number : (x : Option Found) → Finding W V x → Sees W V (Maybe (λ z. MentionsOf W V (d.found_mentions x))) (given x d.static_number)
  v-static_number None h = v-none W V (λ z. MentionsOf W V (d.found_mentions None))
  v-static_number (Some f) h = record { at = λ log e b. let m = (v-static_integer W V f).at log e b in (m.0, m.1, by (d.static_number f log).0 m.2) }
    where
      by : (v : Option ℤ) → Maybe (StaticValue W V f) v → Maybe (λ z. MentionsOf W V (d.found_mentions (Some f))) v
      by None q = tt
      by (Some z) q = static-mentions W V f.known f.part z h q

  abbrev OwnOf : Option Found × Option Found → Subtype → Type 0
  OwnOf r t = MentionsOf W V (also_all (d.found_mentions r.0) (d.found_mentions r.1))

  v-own_type : (r : Option Found × Option Found) (token first last : ℕ) (a z : ℤ) → MentionsOf W V (also_all (d.found_mentions r.0) (d.found_mentions r.1)) → Sees W V (Maybe (OwnOf r)) (d.own_type token first last a z)
  v-own_type r token first last a z h =
      v-bind W V Any (Maybe (OwnOf r)) (unless (in_base (kind.Own token) a) first StaticRange) _ (v-unless W V (in_base (kind.Own token) a) first StaticRange) (λ u p.
      v-bind W V Any (Maybe (OwnOf r)) (unless (in_base (kind.Own token) z) last StaticRange) _ (v-unless W V (in_base (kind.Own token) z) last StaticRange) (λ v q.
      v-bind W V Any (Maybe (OwnOf r)) (unless (int_le a z) first StaticRange) _ (v-unless W V (int_le a z) first StaticRange) (λ w t.
      v-if W V (Maybe (OwnOf r)) (in_base (kind.Own token) a && in_base (kind.Own token) z && int_le a z) (some (subtype.Scalar (record { kind = kind.Own token; low = a; high = z }))) (pure None)
      (v-some W V (OwnOf r) (subtype.Scalar (record { kind = kind.Own token; low = a; high = z })) h) (v-none W V (OwnOf r)))))

  v-own_type_of : (token : ℕ) (r : Option Found × Option Found) → Finding W V r.0 → Finding W V r.1 → Sees W V (Maybe IndicatedOf) (d.own_type_of token r)
  v-own_type_of token r g h =
      v-bind W V (Maybe (λ z. MentionsOf W V (d.found_mentions r.0))) (Maybe IndicatedOf) (given r.0 d.static_number) _ (v-static_number r.0 g) (λ a p.
      v-bind W V (Maybe (λ z. MentionsOf W V (d.found_mentions r.1))) (Maybe IndicatedOf) (given r.1 d.static_number) _ (v-static_number r.1 h) (λ z q.
      v-bind W V (Maybe (OwnOf r)) (Maybe IndicatedOf) (both a z (d.own_type token (d.first_or r.0) (d.first_or r.1))) _
      (v-both W V (λ z. MentionsOf W V (d.found_mentions r.0)) (λ z. MentionsOf W V (d.found_mentions r.1)) (OwnOf r) a z (d.own_type token (d.first_or r.0) (d.first_or r.1)) p q
      (λ x y i j. v-own_type r token (d.first_or r.0) (d.first_or r.1) x y (each-all (ExprOf W V) (d.found_mentions r.0) (d.found_mentions r.1) i j))) (λ t s.
      v-pure W V (Maybe IndicatedOf) (option_map (indicated (also_all (d.found_mentions r.0) (d.found_mentions r.1))) t)
      (mapped (OwnOf r) IndicatedOf (indicated (also_all (d.found_mentions r.0) (d.found_mentions r.1))) t s (λ x i. i)))))

  pub v-range_type : (level : Inside) (here : Context) (token : ℕ) (low high : Simple) → LevelSees W level → Around W V here → Sees W V (Maybe IndicatedOf) (two_bounds level here low high >>= d.own_type_of token)
  v-range_type level here token low high l r =
      v-bind W V (AreFinding W V) (Maybe IndicatedOf) (two_bounds level here low high) (d.own_type_of token) (v-two_bounds W V level here low high l r) (λ x q. v-own_type_of token x q.0 q.1)

  -- ---- modular types

  v-modular_by : (f : Found) (token first : ℕ) (k : Option ℕ) → MentionsOf W V (mentions_of f) → Sees W V (Maybe (λ t. MentionsOf W V (mentions_of f))) (d.modular_by token first k)
  v-modular_by f token first None h = v-fault W V (λ t. MentionsOf W V (mentions_of f)) first StaticRange
  v-modular_by f token first (Some k) h = v-some W V (λ t. MentionsOf W V (mentions_of f)) (subtype.Scalar (base_of (kind.Modular token k))) h

  v-modular_type : (token : ℕ) (f : Found) → FoundOf W V f → Sees W V (Maybe IndicatedOf) (d.modular_type token f)
  v-modular_type token f h =
      v-bind W V (Maybe (λ z. MentionsOf W V (mentions_of f))) (Maybe IndicatedOf) (d.static_number f) _ (v-static_number (Some f) h) (λ m p.
      v-bind W V (Maybe (λ t. MentionsOf W V (mentions_of f))) (Maybe IndicatedOf) (given m (λ z. d.modular_by token (first_of f.known) (d.exponent_from 64 1 z))) _
      (v-given W V (λ z. MentionsOf W V (mentions_of f)) (λ t. MentionsOf W V (mentions_of f)) m (λ z. d.modular_by token (first_of f.known) (d.exponent_from 64 1 z)) p (λ z q. v-modular_by f token (first_of f.known) (d.exponent_from 64 1 z) q)) (λ t q.
      v-pure W V (Maybe IndicatedOf) (option_map (indicated (mentions_of f)) t) (mapped (λ t. MentionsOf W V (mentions_of f)) IndicatedOf (indicated (mentions_of f)) t q (λ x r. r))))

  pub v-modulus : (level : Inside) (here : Context) (token : ℕ) (m : Simple) → LevelSees W level → Around W V here → Sees W V (Maybe IndicatedOf) (simple level here wanted.Other m >>= λ x. given x (d.modular_type token))
  v-modulus level here token m l r =
      v-bind W V (Finding W V) (Maybe IndicatedOf) (simple level here wanted.Other m) _ (v-simple W V level here wanted.Other m l r) (λ x q. v-given W V (FoundOf W V) IndicatedOf x (d.modular_type token) q (λ f p. v-modular_type token f p))

  -- ---- initial values, and named numbers

  -- a value of the subtype, where there is one
  abbrev pub InitialOf : Option Indicated → Initial → Type 0
  InitialOf None v = Unit {0}
  InitialOf (Some s) v = Maybe (ValueOf W V s.known) v.stored

  initial-any : (s : Option Indicated) → InitialOf s d.no_initial
  initial-any None = tt
  initial-any (Some s) = tt

  abbrev pub StoredOf : Option Indicated → Option Expr → Initial → Type 0
  StoredOf s e v = InitialOf s v × IsStored e v.stored

  pub v-initial : (names : Names) (level : Inside) (here : Context) (s : Option Indicated) (e : Option Expr) → LevelSees W level → Around W V here → Sees W V (Maybe (StoredOf s e)) (d.initial names level here s e)
  unfolding d.initial
  v-initial names level here s None l r = v-some W V (StoredOf s None) d.no_initial (initial-any s, tt)
  v-initial names level here None (Some e) l r = v-bind W V Any (Maybe (StoredOf None (Some e))) (judged_alone names level here e) _ (v-judged_alone W V names level here e l r) (λ u q. v-none W V (StoredOf None (Some e)))
  v-initial names level here (Some s) (Some e) l r =
      v-bind W V (Finding W V) (Maybe (StoredOf (Some s) (Some e))) (expr names level here (wanted_of s.known) e) _ (v-expr W V names level here (wanted_of s.known) e l r) (λ x q.
      v-bind W V (Maybe (ValueOf W V s.known)) (Maybe (StoredOf (Some s) (Some e))) (given x (stored s.known (first_token.of_expr e))) _ (v-given W V (FoundOf W V) (ValueOf W V s.known) x (stored s.known (first_token.of_expr e)) q (λ f p. v-stored W V s.known (first_token.of_expr e) f p)) (λ v p.
      v-pure W V (Maybe (StoredOf (Some s) (Some e))) (joined d.initial_value v x) (joint (ValueOf W V s.known) (FoundOf W V) (StoredOf (Some s) (Some e)) d.initial_value v x p q (λ a b g h. (g, tt)))))

  -- what was found of a number, with its value
  abbrev pub NumberOf : Option Found × Option ℤ → Type 0
  NumberOf y = Maybe (λ z. MentionsOf W V (d.found_mentions y.0)) y.1

  pub v-number : (names : Names) (level : Inside) (here : Context) (e : Expr) → LevelSees W level → Around W V here
      → Sees W V NumberOf (expr names level here wanted.Other e >>= λ x. given x d.static_number >>= λ v. pure (x, v))
  v-number names level here e l r =
      v-bind W V (Finding W V) NumberOf (expr names level here wanted.Other e) _ (v-expr W V names level here wanted.Other e l r) (λ x q.
      v-bind W V (Maybe (λ z. MentionsOf W V (d.found_mentions x))) NumberOf (given x d.static_number) _ (v-static_number x q) (λ v p. v-pure W V NumberOf (x, v) p))
