-- What is found is formed: what declarations mention, where they write nothing.
use Rattle.std.proofs.Common.{ℕ, ℤ, List, [], ◌∷◌, Option, Some, None, true, option_map, int_le, ◌&&◌}
use Rattle.ada_meaning.specs.Formed.{FormedValue}
use Rattle.syntax_tree.specs.FirstTokens as first_token
use Rattle.syntax_tree.specs.Syntax as syntax
use Rattle.syntax_tree.specs.Syntax.{Expr, Indic, Range, Simple}
use Rattle.typed_tree.specs.Decoded as part
use Rattle.typed_tree.specs.Decoded.{as_value}
use Rattle.name_rules.specs.Declarations as d
use Rattle.name_rules.specs.Declarations.{Dimensions, Indicated, Initial, indicated}
use Rattle.name_rules.specs.Expressions.{Inside, expr, judged_alone, simple}
use Rattle.name_rules.specs.Found.{Found}
use Rattle.name_rules.specs.Judging.{both, given, joined, pure, some, unless, ◌>>=◌}
use Rattle.name_rules.specs.Operators.{both_mentions}
use Rattle.name_rules.specs.Ranges.{Static, both_static, static_range, two_bounds}
use Rattle.name_rules.specs.Scope.{as_scalar, subtype_named}
use Rattle.name_rules.specs.TypedParts.{also_all}
use Rattle.name_rules.specs.Types.{in_base, lies_in, wanted_of, kept, base_of}
use Rattle.name_rules.specs.Values.{first_of, stored, mentions_of}
use Rattle.name_rules.specs.declared.log.Rule.TheVariants.{StaticRange}
use Rattle.name_rules.specs.declared.scope.Context.{Context}
use Rattle.name_rules.specs.declared.scope.Names.{Names}
use Rattle.name_rules.specs.declared.types.Kind.TheVariants as kind
use Rattle.name_rules.specs.declared.types.Scalar.{Scalar}
use Rattle.name_rules.specs.declared.types.Subtype.{Subtype}
use Rattle.name_rules.specs.declared.types.Subtype.TheVariants as subtype
use Rattle.name_rules.specs.declared.types.Wanted.TheVariants as wanted
use Rattle.name_formed.proofs.Forms.{Any, Forms, Maybe, Sight, World, f-bind, f-both, f-given, f-if, f-none, f-pure, f-some, f-unless, joint, mapped, f-fault}
use Rattle.name_formed.proofs.FormsExpressions.{f-expr, f-judged_alone, f-simple}
use Rattle.name_formed.proofs.FormsFound.{Around, ExprOf, Finding, FoundOf, LevelForms, MentionsOf, ValueOf, each-all}
use Rattle.name_formed.proofs.FormsRanges.{AreFinding, StaticOf, f-both_static, f-static_range, f-two_bounds}
use Rattle.name_formed.proofs.FormsScope.{f-as_scalar, f-subtype_named}
use Rattle.name_formed.proofs.FormsValues.{StaticValue, f-static_integer, f-stored, static-mentions}

module _ (W : World) (V : Sight) where
  abbrev IndicatedOf : Indicated → Type 0
  IndicatedOf s = MentionsOf W V s.part

  -- ---- subtype indications

  f-indic_range : (s : Scalar) (first last : ℕ) (r : ℤ × ℤ) → Forms W V (Maybe Any) (d.indic_range s first last r)
  f-indic_range s first last r =
      f-bind W V Any (Maybe Any) (unless (lies_in s r.0) first StaticRange) _ (f-unless W V (lies_in s r.0) first StaticRange) (λ u p.
      f-bind W V Any (Maybe Any) (unless (lies_in s r.1) last StaticRange) _ (f-unless W V (lies_in s r.1) last StaticRange) (λ v q.
      f-bind W V Any (Maybe Any) (unless (int_le r.0 r.1) first StaticRange) _ (f-unless W V (int_le r.0 r.1) first StaticRange) (λ w t.
      f-if W V (Maybe Any) (lies_in s r.0 && lies_in s r.1 && int_le r.0 r.1) (some (subtype.Scalar (record { kind = s.kind; low = kept s.kind r.0; high = kept s.kind r.1 }))) (pure None)
      (f-some W V Any (subtype.Scalar (record { kind = s.kind; low = kept s.kind r.0; high = kept s.kind r.1 })) tt) (f-none W V Any))))

  f-indic_bounds : (s : Scalar) (a z : Found) → FoundOf W V a → FoundOf W V z → Forms W V (Maybe IndicatedOf) (d.indic_bounds s a z)
  f-indic_bounds s a z g h =
      f-bind W V (Maybe (λ r. MentionsOf W V (both_mentions a z))) (Maybe IndicatedOf) (both_static s.kind a z) _ (f-both_static W V s.kind a z g h) (λ v p.
      f-bind W V (Maybe (λ t. MentionsOf W V (both_mentions a z))) (Maybe IndicatedOf) (given v (d.indic_range s (first_of a.known) (first_of z.known))) _
      (f-given W V (λ r. MentionsOf W V (both_mentions a z)) (λ t. MentionsOf W V (both_mentions a z)) v (d.indic_range s (first_of a.known) (first_of z.known)) p (λ r q.
      record { at = λ log e b. let m = (f-indic_range s (first_of a.known) (first_of z.known) r).at log e b in (m.0, m.1, maybe-all (d.indic_range s (first_of a.known) (first_of z.known) r log).0 q) })) (λ t q.
      f-pure W V (Maybe IndicatedOf) (option_map (indicated (both_mentions a z)) t) (mapped (λ t. MentionsOf W V (both_mentions a z)) IndicatedOf (indicated (both_mentions a z)) t q (λ x r. r))))
    where
      maybe-all : {A Q : Type 0} (x : Option A) → Q → Maybe (λ y. Q) x
      maybe-all None q = tt
      maybe-all (Some y) q = q

  pub f-indic : (names : Names) (level : Inside) (here : Context) (i : Indic) → LevelForms W level → Around W V here → Forms W V (Maybe IndicatedOf) (d.indic names level here i)
  unfolding d.indic
  f-indic names level here (syntax.Mark mark) l r =
      f-bind W V (Maybe Any) (Maybe IndicatedOf) (subtype_named names here mark) _ (f-subtype_named W V names here mark r) (λ s q. f-pure W V (Maybe IndicatedOf) (option_map (indicated part.Nothing) s) (mapped Any IndicatedOf (indicated part.Nothing) s q (λ x t. tt)))
  f-indic names level here (syntax.RangeMark mark low high) l r =
      f-bind W V (Maybe Any) (Maybe IndicatedOf) (subtype_named names here mark) _ (f-subtype_named W V names here mark r) (λ s q.
      f-bind W V (Maybe Any) (Maybe IndicatedOf) (given s (as_scalar mark)) _ (f-given W V Any Any s (as_scalar mark) q (λ t p. f-as_scalar W V mark t)) (λ t p.
      f-bind W V (AreFinding W V) (Maybe IndicatedOf) (two_bounds level here low high) _ (f-two_bounds W V level here low high l r) (λ x u.
      f-given W V Any IndicatedOf t _ p (λ y v. f-both W V (FoundOf W V) (FoundOf W V) IndicatedOf x.0 x.1 (d.indic_bounds y) u.0 u.1 (λ a z g h. f-indic_bounds y a z g h)))))

  -- ---- dimensions

  abbrev DimensionsOf : Dimensions → Type 0
  DimensionsOf ds = MentionsOf W V ds.mentions

  also-dimension : (ds : Option Dimensions) (s : Option Static) → Maybe DimensionsOf ds → Maybe (StaticOf W V) s → Maybe DimensionsOf (joined d.also_dimension ds s)
  also-dimension None s g h = tt
  also-dimension (Some ds) None g h = tt
  also-dimension (Some ds) (Some s) g h = each-all (ExprOf W V) ds.mentions s.part g h

  pub f-dimensions_from : (level : Inside) (here : Context) (made : Option Dimensions) (rs : List Range) → LevelForms W level → Around W V here → Maybe DimensionsOf made → Forms W V (Maybe DimensionsOf) (d.dimensions_from level here made rs)
  f-dimensions_from level here made [] l r g = f-pure W V (Maybe DimensionsOf) made g
  f-dimensions_from level here made (x ∷ xs) l r g =
      f-bind W V (Maybe (StaticOf W V)) (Maybe DimensionsOf) (static_range level here true None x) _ (f-static_range W V level here true None x l r) (λ s q. f-dimensions_from level here (joined d.also_dimension made s) xs l r (also-dimension made s g q))

  -- ---- integer types

  -- what a number mentions, where it is static
  f-static_number : (x : Option Found) → Finding W V x → Forms W V (Maybe (λ z. MentionsOf W V (d.found_mentions x))) (given x d.static_number)
  f-static_number None h = f-none W V (λ z. MentionsOf W V (d.found_mentions None))
  f-static_number (Some f) h = record { at = λ log e b. let m = (f-static_integer W V f).at log e b in (m.0, m.1, by (d.static_number f log).0 m.2) }
    where
      by : (v : Option ℤ) → Maybe (StaticValue W V f) v → Maybe (λ z. MentionsOf W V (d.found_mentions (Some f))) v
      by None q = tt
      by (Some z) q = static-mentions W V f.known f.part z h q

  abbrev OwnOf : Option Found × Option Found → Subtype → Type 0
  OwnOf r t = MentionsOf W V (also_all (d.found_mentions r.0) (d.found_mentions r.1))

  f-own_type : (r : Option Found × Option Found) (token first last : ℕ) (a z : ℤ) → MentionsOf W V (also_all (d.found_mentions r.0) (d.found_mentions r.1)) → Forms W V (Maybe (OwnOf r)) (d.own_type token first last a z)
  f-own_type r token first last a z h =
      f-bind W V Any (Maybe (OwnOf r)) (unless (in_base (kind.Own token) a) first StaticRange) _ (f-unless W V (in_base (kind.Own token) a) first StaticRange) (λ u p.
      f-bind W V Any (Maybe (OwnOf r)) (unless (in_base (kind.Own token) z) last StaticRange) _ (f-unless W V (in_base (kind.Own token) z) last StaticRange) (λ v q.
      f-bind W V Any (Maybe (OwnOf r)) (unless (int_le a z) first StaticRange) _ (f-unless W V (int_le a z) first StaticRange) (λ w t.
      f-if W V (Maybe (OwnOf r)) (in_base (kind.Own token) a && in_base (kind.Own token) z && int_le a z) (some (subtype.Scalar (record { kind = kind.Own token; low = a; high = z }))) (pure None)
      (f-some W V (OwnOf r) (subtype.Scalar (record { kind = kind.Own token; low = a; high = z })) h) (f-none W V (OwnOf r)))))

  f-own_type_of : (token : ℕ) (r : Option Found × Option Found) → Finding W V r.0 → Finding W V r.1 → Forms W V (Maybe IndicatedOf) (d.own_type_of token r)
  f-own_type_of token r g h =
      f-bind W V (Maybe (λ z. MentionsOf W V (d.found_mentions r.0))) (Maybe IndicatedOf) (given r.0 d.static_number) _ (f-static_number r.0 g) (λ a p.
      f-bind W V (Maybe (λ z. MentionsOf W V (d.found_mentions r.1))) (Maybe IndicatedOf) (given r.1 d.static_number) _ (f-static_number r.1 h) (λ z q.
      f-bind W V (Maybe (OwnOf r)) (Maybe IndicatedOf) (both a z (d.own_type token (d.first_or r.0) (d.first_or r.1))) _
      (f-both W V (λ z. MentionsOf W V (d.found_mentions r.0)) (λ z. MentionsOf W V (d.found_mentions r.1)) (OwnOf r) a z (d.own_type token (d.first_or r.0) (d.first_or r.1)) p q
      (λ x y i j. f-own_type r token (d.first_or r.0) (d.first_or r.1) x y (each-all (ExprOf W V) (d.found_mentions r.0) (d.found_mentions r.1) i j))) (λ t s.
      f-pure W V (Maybe IndicatedOf) (option_map (indicated (also_all (d.found_mentions r.0) (d.found_mentions r.1))) t)
      (mapped (OwnOf r) IndicatedOf (indicated (also_all (d.found_mentions r.0) (d.found_mentions r.1))) t s (λ x i. i)))))

  pub f-range_type : (level : Inside) (here : Context) (token : ℕ) (low high : Simple) → LevelForms W level → Around W V here → Forms W V (Maybe IndicatedOf) (two_bounds level here low high >>= d.own_type_of token)
  f-range_type level here token low high l r =
      f-bind W V (AreFinding W V) (Maybe IndicatedOf) (two_bounds level here low high) (d.own_type_of token) (f-two_bounds W V level here low high l r) (λ x q. f-own_type_of token x q.0 q.1)

  -- ---- modular types

  f-modular_by : (f : Found) (token first : ℕ) (k : Option ℕ) → MentionsOf W V (mentions_of f) → Forms W V (Maybe (λ t. MentionsOf W V (mentions_of f))) (d.modular_by token first k)
  f-modular_by f token first None h = f-fault W V (λ t. MentionsOf W V (mentions_of f)) first StaticRange
  f-modular_by f token first (Some k) h = f-some W V (λ t. MentionsOf W V (mentions_of f)) (subtype.Scalar (base_of (kind.Modular token k))) h

  f-modular_type : (token : ℕ) (f : Found) → FoundOf W V f → Forms W V (Maybe IndicatedOf) (d.modular_type token f)
  f-modular_type token f h =
      f-bind W V (Maybe (λ z. MentionsOf W V (mentions_of f))) (Maybe IndicatedOf) (d.static_number f) _ (f-static_number (Some f) h) (λ m p.
      f-bind W V (Maybe (λ t. MentionsOf W V (mentions_of f))) (Maybe IndicatedOf) (given m (λ z. d.modular_by token (first_of f.known) (d.exponent_from 64 1 z))) _
      (f-given W V (λ z. MentionsOf W V (mentions_of f)) (λ t. MentionsOf W V (mentions_of f)) m (λ z. d.modular_by token (first_of f.known) (d.exponent_from 64 1 z)) p (λ z q. f-modular_by f token (first_of f.known) (d.exponent_from 64 1 z) q)) (λ t q.
      f-pure W V (Maybe IndicatedOf) (option_map (indicated (mentions_of f)) t) (mapped (λ t. MentionsOf W V (mentions_of f)) IndicatedOf (indicated (mentions_of f)) t q (λ x r. r))))

  pub f-modulus : (level : Inside) (here : Context) (token : ℕ) (m : Simple) → LevelForms W level → Around W V here → Forms W V (Maybe IndicatedOf) (simple level here wanted.Other m >>= λ x. given x (d.modular_type token))
  f-modulus level here token m l r =
      f-bind W V (Finding W V) (Maybe IndicatedOf) (simple level here wanted.Other m) _ (f-simple W V level here wanted.Other m l r) (λ x q. f-given W V (FoundOf W V) IndicatedOf x (d.modular_type token) q (λ f p. f-modular_type token f p))

  -- ---- initial values, and named numbers

  abbrev InitialOf : Initial → Type 0
  InitialOf v = Maybe (λ x. FormedValue W.program V.known (as_value x)) v.stored

  pub f-initial : (names : Names) (level : Inside) (here : Context) (s : Option Indicated) (e : Option Expr) → LevelForms W level → Around W V here → Forms W V (Maybe InitialOf) (d.initial names level here s e)
  unfolding d.initial
  f-initial names level here s None l r = f-some W V InitialOf d.no_initial tt
  f-initial names level here None (Some e) l r = f-bind W V Any (Maybe InitialOf) (judged_alone names level here e) _ (f-judged_alone W V names level here e l r) (λ u q. f-none W V InitialOf)
  f-initial names level here (Some s) (Some e) l r =
      f-bind W V (Finding W V) (Maybe InitialOf) (expr names level here (wanted_of s.known) e) _ (f-expr W V names level here (wanted_of s.known) e l r) (λ x q.
      f-bind W V (Maybe (ValueOf W V s.known)) (Maybe InitialOf) (given x (stored s.known (first_token.of_expr e))) _ (f-given W V (FoundOf W V) (ValueOf W V s.known) x (stored s.known (first_token.of_expr e)) q (λ f p. f-stored W V s.known (first_token.of_expr e) f p)) (λ v p.
      f-pure W V (Maybe InitialOf) (joined d.initial_value v x) (joint (ValueOf W V s.known) (FoundOf W V) InitialOf d.initial_value v x p q (λ a b g h. g.0))))

  -- what was found of a number, with its value
  abbrev pub NumberOf : Option Found × Option ℤ → Type 0
  NumberOf y = Maybe (λ z. MentionsOf W V (d.found_mentions y.0)) y.1

  pub f-number : (names : Names) (level : Inside) (here : Context) (e : Expr) → LevelForms W level → Around W V here
      → Forms W V NumberOf (expr names level here wanted.Other e >>= λ x. given x d.static_number >>= λ v. pure (x, v))
  f-number names level here e l r =
      f-bind W V (Finding W V) NumberOf (expr names level here wanted.Other e) _ (f-expr W V names level here wanted.Other e l r) (λ x q.
      f-bind W V (Maybe (λ z. MentionsOf W V (d.found_mentions x))) NumberOf (given x d.static_number) _ (f-static_number x q) (λ v p. f-pure W V NumberOf (x, v) p))
