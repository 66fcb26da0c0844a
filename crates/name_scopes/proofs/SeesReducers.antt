-- What is found is in scope: reducers and reductions.
use Rattle.std.proofs.Common.{◌≡◌, sym, subst, ℕ, List, [], ◌∷◌, Option, Some, None, ◌&&◌}
use Rattle.std.specs.Prelude.{is_some, not, ◌||◌}
use Rattle.ada_base.specs.declared.operation.Op.{Op}
use Rattle.syntax_tree.specs.FirstTokens as first_token
use Rattle.syntax_tree.specs.Syntax as syntax
use Rattle.syntax_tree.specs.Syntax.{Expr, NameParts, Primary}
use Rattle.typed_tree.specs.Classes.{with_class}
use Rattle.typed_tree.specs.Decoded.{TypedPart, as_expr, as_iteration}
use Rattle.typed_tree.specs.declared.expressions.Reducer.{Reducer}
use Rattle.typed_tree.specs.declared.expressions.Reducer.TheVariants as reducer'
use Rattle.name_rules.specs.Calls.{gives_in, profile_in, takes_in}
use Rattle.name_rules.specs.Expressions.{Inside, judged_alone}
use Rattle.name_rules.specs.Found.{Found, scalar}
use Rattle.name_rules.specs.Judging.{fault, joined, read}
use Rattle.name_rules.specs.Operators.{open_of}
use Rattle.name_rules.specs.Reducers.{attribute_reducer, by_function, by_operator, by_subtypes, extreme_name, extreme_of, folded_by, function_given, function_of, is_logical, name_reducer, no_reducer, numeric, of_kind, open_reduction, operator_named, operator_reducer, operators, reduced, reducer_by, reducer_of, reduction, logical_kind}
use Rattle.name_rules.specs.Scope.{stands_for}
use Rattle.name_rules.specs.Shapes.{primary_of_expr}
use Rattle.name_rules.specs.Symbols.{text}
use Rattle.name_rules.specs.Types.{class_of, same, typed_scalar}
use Rattle.name_rules.specs.Values.{asked, is_number, kind_of, suits}
use Rattle.name_rules.specs.declared.found.Denoted.TheVariants as denoted
use Rattle.name_rules.specs.declared.found.Denoted.{Denoted as KnownDenoted}
use Rattle.name_rules.specs.declared.found.Folding.{Folding}
use Rattle.name_rules.specs.declared.found.Folding.TheVariants as folding
use Rattle.name_rules.specs.declared.found.Going.{Going}
use Rattle.name_rules.specs.declared.found.Limits.{Limits}
use Rattle.name_rules.specs.declared.log.Rule.TheVariants.{ReduceRule}
use Rattle.name_rules.specs.declared.log.Taken.{Taken}
use Rattle.name_rules.specs.declared.scope.Context.{Context}
use Rattle.name_rules.specs.declared.scope.Names.{Names}
use Rattle.name_rules.specs.declared.types.Kind.{Kind}
use Rattle.name_rules.specs.declared.types.Scalar.{Scalar}
use Rattle.name_rules.specs.declared.types.Subtype.{Subtype}
use Rattle.name_rules.specs.declared.types.Subtype.TheVariants as subtype
use Rattle.std.proofs.Common.{map, option_map, ap, refl, ◌≡◌, ◌∙◌, sym, subst}
use Rattle.ada_meaning.specs.Shapes.{size}
use Rattle.typed_scopes.specs.Scopes as scopes
use Rattle.typed_scopes.specs.Scopes.{Called, ScopedReducer, formal_of, object_cells}
use Rattle.typed_tree.specs.Decoded.{as_chunk}
use Rattle.typed_tree.specs.declared.program.Mode.TheVariants as mode
use Rattle.name_rules.specs.Programs.{typed_formal}
use Rattle.name_rules.specs.declared.log.Profile.{Profile}
use Rattle.name_flow.specs.Order.{AreIn}
use Rattle.name_formed.proofs.Forms.{shape_of}
use Rattle.name_scopes.proofs.Seen.{IsChunked, SeenExpr, SeenIteration}
use Rattle.name_scopes.proofs.SeesProfiles.{ProfileOf, called-modes, v-profile}
use Rattle.name_scopes.proofs.Sees.{AreTaken, Any, seeing, v-seeing, Sees, Maybe, Sight, World, v-bind, v-both, v-fault, v-given, v-if, v-pure, v-read, v-some, v-where_clean, joint}
use Rattle.name_scopes.proofs.SeesExpressions.{v-judged_alone}
use Rattle.name_scopes.proofs.SeesFound.{IsCalled, Around, ChunkOf, DenotedOf, DenotesOf, ExprOf, FoundOf, LevelSees}
use Rattle.name_scopes.proofs.SeesOperators.{WaitsOf, open-found}
use Rattle.name_scopes.proofs.SeesScope.{v-stands_for}
use Rattle.name_scopes.proofs.SeesValues.{v-asked, iteration-map}

module _ (W : World) (V : Sight) where
  -- ---- reducers

  -- a function that folds may be called
  abbrev pub FoldingOf : Folding → Type 0
  FoldingOf (folding.Function at n) = IsCalled W V n
  FoldingOf f = Unit {0}

  v-operator_reducer : (at : ℕ) (o : Option Op) → Sees W V (Maybe FoldingOf) (operator_reducer at o)
  v-operator_reducer at None = v-fault W V FoldingOf at ReduceRule
  v-operator_reducer at (Some o) = v-some W V FoldingOf (folding.Operator at o) tt

  v-extreme_of : (at : ℕ) (o : Op) (k : KnownDenoted) → Sees W V (Maybe FoldingOf) (extreme_of at o k)
  v-extreme_of at o (denoted.Type first (subtype.Scalar s)) = v-some W V FoldingOf (folding.Extreme at o s) tt
  v-extreme_of at o k = v-fault W V FoldingOf at ReduceRule

  v-function_given : (at n : ℕ) (s : Option Scalar) → IsCalled W V n → Sees W V (Maybe FoldingOf) (function_given at n s)
  v-function_given at n None h = v-fault W V FoldingOf at ReduceRule
  v-function_given at n (Some s) h = v-some W V FoldingOf (folding.Function at n) h

  v-function_of : (at : ℕ) (k : KnownDenoted) (x : TypedPart) → DenotesOf W V k x → Sees W V (Maybe FoldingOf) (function_of at k)
  v-function_of at (denoted.Sub first last n) x h =
      v-bind W V Any (Maybe FoldingOf) (read (λ log. gives_in (profile_in log n))) (function_given at n) (v-read W V Any (λ log. gives_in (profile_in log n)) (λ log g. tt)) (λ s q. v-function_given at n s h)
  v-function_of at k x h = v-fault W V FoldingOf at ReduceRule

  v-no_reducer : (names : Names) (inside : Inside) (here : Context) (e : Expr) → LevelSees W inside → Around W V here → Sees W V (Maybe FoldingOf) (no_reducer names inside here e)
  v-no_reducer names inside here e l r =
      v-where_clean W V Any FoldingOf (judged_alone names inside here e) (λ u. fault (first_token.of_expr e) ReduceRule) (v-judged_alone W V names inside here e l r) (λ u q. v-fault W V FoldingOf (first_token.of_expr e) ReduceRule)

  v-attribute_reducer : (names : Names) (inside : Inside) (here : Context) (e : Expr) (first : ℕ) (o : Option Op) → LevelSees W inside → Around W V here → Sees W V (Maybe FoldingOf) (attribute_reducer names inside here e first o)
  v-attribute_reducer names inside here e first None l r = v-no_reducer names inside here e l r
  v-attribute_reducer names inside here e first (Some o) l r =
      v-bind W V (Maybe (DenotedOf W V)) (Maybe FoldingOf) (stands_for names here first) _ (v-stands_for W V names here first r) (λ d q. v-given W V (DenotedOf W V) FoldingOf d _ q (λ x s. v-extreme_of first o x.known))

  v-name_reducer : (names : Names) (inside : Inside) (here : Context) (e : Expr) (first : ℕ) (ps : NameParts) → LevelSees W inside → Around W V here → Sees W V (Maybe FoldingOf) (name_reducer names inside here e first ps)
  v-name_reducer names inside here e first syntax.NoPart l r =
      v-bind W V (Maybe (DenotedOf W V)) (Maybe FoldingOf) (stands_for names here first) _ (v-stands_for W V names here first r) (λ d q. v-given W V (DenotedOf W V) FoldingOf d _ q (λ x s. v-function_of first x.known x.part s))
  v-name_reducer names inside here e first (syntax.AlsoPart (syntax.Attribute at) syntax.NoPart) l r = v-attribute_reducer names inside here e first (extreme_name names at) l r
  v-name_reducer names inside here e first ps l r = v-no_reducer names inside here e l r

  v-reducer_by : (names : Names) (inside : Inside) (here : Context) (e : Expr) (p : Option Primary) → LevelSees W inside → Around W V here → Sees W V (Maybe FoldingOf) (reducer_by names inside here e p)
  v-reducer_by names inside here e (Some (syntax.Text at)) l r = v-operator_reducer at (operator_named (text names at) operators)
  v-reducer_by names inside here e (Some (syntax.Named (syntax.name first ps))) l r = v-name_reducer names inside here e first ps l r
  v-reducer_by names inside here e p l r = v-no_reducer names inside here e l r

  pub v-reducer_of : (names : Names) (inside : Inside) (here : Context) (e : Expr) → LevelSees W inside → Around W V here → Sees W V (Maybe FoldingOf) (reducer_of names inside here e)
  unfolding reducer_of
  v-reducer_of names inside here e l r = v-reducer_by names inside here e (primary_of_expr e) l r

-- ---- reductions: the values are found around the body of the iteration, the initial value around the reduction

module _ (W : World) (V : Sight) (w : scopes.Around) where
  abbrev Inner : Sight
  Inner = seeing w V

  -- what a reduction goes through
  abbrev pub ThroughOf : Going → TypedPart → TypedPart → Type 0
  ThroughOf g c i = ChunkOf W V c × IsChunked g.site (as_chunk c) × SeenIteration W.program W.shown V.around (scopes.with_chunk (as_chunk c) V.around) (as_iteration i) (λ u. u ≡ w)

  v-reduced : (g : Going) (c i : TypedPart) (k j : Kind) (r : Reducer) (x v : Found) → ThroughOf g c i → ScopedReducer W.program W.shown V.around r → FoundOf W Inner x → FoundOf W V v → Sees W V (Maybe (FoundOf W V)) (reduced g c i k j r x v)
  unfolding reduced
  v-reduced g c i k j r x v q a s t =
      v-bind W V (Maybe (ExprOf W Inner)) (Maybe (FoundOf W V)) (asked k x) _ (v-seeing W V w (Maybe (ExprOf W Inner)) (asked k x) (v-asked W Inner k x s)) (λ e y.
      v-bind W V (Maybe (ExprOf W V)) (Maybe (FoundOf W V)) (asked j v) _ (v-asked W V j v t) (λ f z.
      v-both W V (ExprOf W Inner) (ExprOf W V) (FoundOf W V) e f _ y z (λ value initial m n.
      v-some W V (FoundOf W V) (scalar g.at j None (reduction g c i r value initial))
      (n, q.0, a, q.1, iteration-map W.program W.shown V.around (scopes.with_chunk (as_chunk c) V.around) (as_iteration i) (λ u. u ≡ w) (λ u. SeenExpr W.program W.shown u (as_expr value)) q.2 (λ u d. subst (λ y. SeenExpr W.program W.shown y (as_expr value)) (sym d) m)))))

  open-reduction : (g : Going) (c i : TypedPart) (at : ℕ) (o : Op) (x v : Limits × TypedPart) → ThroughOf g c i → WaitsOf W Inner x → WaitsOf W V v → FoundOf W V (open_reduction g c i at o x v)
  open-reduction g c i at o x v q s t d =
      (t d, q.0, tt, q.1, iteration-map W.program W.shown V.around (scopes.with_chunk (as_chunk c) V.around) (as_iteration i) (λ u. u ≡ w) (λ u. SeenExpr W.program W.shown u (with_class d (as_expr x.1))) q.2 (λ u e. subst (λ y. SeenExpr W.program W.shown y (with_class d (as_expr x.1))) (sym e) (s d)))

  v-of_kind : (g : Going) (c i : TypedPart) (at : ℕ) (o : Op) (k : Kind) (x v : Found) → ThroughOf g c i → FoundOf W Inner x → FoundOf W V v → Sees W V (Maybe (FoundOf W V)) (of_kind g c i at o k x v)
  v-of_kind g c i at o k x v q s t =
      v-if W V (Maybe (FoundOf W V)) (suits k x.known && suits k v.known) (reduced g c i k k (reducer'.Operator at o (class_of k)) x v) (fault at ReduceRule)
      (v-reduced g c i k k (reducer'.Operator at o (class_of k)) x v q tt s t) (v-fault W V (FoundOf W V) at ReduceRule)

  v-numeric : (g : Going) (c i : TypedPart) (at : ℕ) (o : Op) (x v : Found) (k j : Option Kind) → ThroughOf g c i → FoundOf W Inner x → FoundOf W V v → Sees W V (Maybe (FoundOf W V)) (numeric g c i at o x v k j)
  v-numeric g c i at o x v None None q s t =
      v-pure W V (Maybe (FoundOf W V)) (joined (open_reduction g c i at o) (open_of x) (open_of v))
      (joint (WaitsOf W Inner) (WaitsOf W V) (FoundOf W V) (open_reduction g c i at o) (open_of x) (open_of v) (open-found W Inner x s) (open-found W V v t) (λ a b m n. open-reduction g c i at o a b q m n))
  v-numeric g c i at o x v (Some k) j q s t = v-of_kind g c i at o k x v q s t
  v-numeric g c i at o x v None (Some k) q s t = v-of_kind g c i at o k x v q s t

  v-by_operator : (g : Going) (c i : TypedPart) (at : ℕ) (o : Op) (x v : Found) → ThroughOf g c i → FoundOf W Inner x → FoundOf W V v → Sees W V (Maybe (FoundOf W V)) (by_operator g c i at o x v)
  v-by_operator g c i at o x v q s t =
      v-if W V (Maybe (FoundOf W V)) (is_logical o) (of_kind g c i at o (logical_kind (kind_of x.known) (kind_of v.known)) x v) _ (v-of_kind g c i at o (logical_kind (kind_of x.known) (kind_of v.known)) x v q s t)
      (v-if W V (Maybe (FoundOf W V)) (is_number x.known && is_number v.known) (numeric g c i at o x v (kind_of x.known) (kind_of v.known)) (fault at ReduceRule) (v-numeric g c i at o x v (kind_of x.known) (kind_of v.known) q s t) (v-fault W V (FoundOf W V) at ReduceRule))

  -- the function of a profile that may fold
  abbrev FunctionOf : ℕ → List Taken → Option Scalar → Type 0
  FunctionOf n ts r = (u : Called W.program W.shown V.around n) × (u.unit.result ≡ option_map typed_scalar r) × (u.unit.formals ≡ map typed_formal ts) × AreTaken W.program ts

  v-by_subtypes : (g : Going) (c i : TypedPart) (at n : ℕ) (r : Scalar) (a b : Taken) (s t : Subtype) (x v : Found) → a.subtype ≡ s → b.subtype ≡ t → FunctionOf n (a ∷ b ∷ []) (Some r) → a.mode ≡ mode.In → b.mode ≡ mode.In → ThroughOf g c i → FoundOf W Inner x → FoundOf W V v
      → Sees W V (Maybe (FoundOf W V)) (by_subtypes g c i at n r.kind s t x v)
  v-by_subtypes g c i at n r a b (subtype.Scalar s) (subtype.Scalar t) x v e f u p m q j z =
      v-if W V (Maybe (FoundOf W V)) (same r.kind s.kind && suits t.kind x.known && suits s.kind v.known && (not (is_some g.site) || same s.kind t.kind))
      (reduced g c i t.kind s.kind (reducer'.Function at n (typed_scalar s) (typed_scalar t)) x v) (fault at ReduceRule)
      (v-reduced g c i t.kind s.kind (reducer'.Function at n (typed_scalar s) (typed_scalar t)) x v q
      (u.0, (typed_scalar r, u.1), (a.object, b.object, u.2 ∙ two, one a s e u.3.0.0, one b t f u.3.1.0.0)) j z) (v-fault W V (FoundOf W V) at ReduceRule)
    where
      one : (d : Taken) (k : Scalar) → d.subtype ≡ subtype.Scalar k → object_cells W.program d.object ≡ size (shape_of W.program d.subtype) → object_cells W.program d.object ≡ 1
      one d k e h = h ∙ ap (λ y. size (shape_of W.program y)) e

      two : typed_formal a ∷ typed_formal b ∷ [] ≡ formal_of a.object mode.In ∷ formal_of b.object mode.In ∷ []
      two = ap (λ l. formal_of a.object l ∷ typed_formal b ∷ []) p ∙ ap (λ l. formal_of a.object mode.In ∷ formal_of b.object l ∷ []) m
  v-by_subtypes g c i at n r a b (subtype.Scalar s) (subtype.Composite t) x v e f u p m q j z = v-fault W V (FoundOf W V) at ReduceRule
  v-by_subtypes g c i at n r a b (subtype.Composite s) t x v e f u p m q j z = v-fault W V (FoundOf W V) at ReduceRule

  v-by_function : (g : Going) (c i : TypedPart) (at n : ℕ) (ts : List Taken) (r : Option Scalar) (x v : Found) → FunctionOf n ts r → AreIn (option_map typed_scalar r) (map typed_formal ts) → ThroughOf g c i → FoundOf W Inner x → FoundOf W V v
      → Sees W V (Maybe (FoundOf W V)) (by_function g c i at n ts r x v)
  v-by_function g c i at n (a ∷ b ∷ []) (Some r) x v u k q j z = v-by_subtypes g c i at n r a b a.subtype b.subtype x v refl refl u k.0 k.1.0 q j z
  v-by_function g c i at n [] r x v u k q j z = v-fault W V (FoundOf W V) at ReduceRule
  v-by_function g c i at n (a ∷ []) r x v u k q j z = v-fault W V (FoundOf W V) at ReduceRule
  v-by_function g c i at n (a ∷ b ∷ d ∷ ts) r x v u k q j z = v-fault W V (FoundOf W V) at ReduceRule
  v-by_function g c i at n (a ∷ b ∷ []) None x v u k q j z = v-fault W V (FoundOf W V) at ReduceRule

  v-function : (g : Going) (c i : TypedPart) (at n : ℕ) (x v : Found) (y : Option Profile) → IsCalled W V n → ProfileOf W V n y → ThroughOf g c i → FoundOf W Inner x → FoundOf W V v → Sees W V (Maybe (FoundOf W V)) (by_function g c i at n (takes_in y) (gives_in y) x v)
  v-function g c i at n x v None h k q s t = v-fault W V (FoundOf W V) at ReduceRule
  v-function g c i at n x v (Some y) h k q s t =
      let u = W.units n y k in
      v-by_function g c i at n y.takes y.gives x v (record { unit = u.unit; is = u.is; may = h.1 }, u.result, u.formals, h.2 y (W.among n y k)) (called-modes W n y k) q s t

  pub v-folded_by : (g : Going) (c i : TypedPart) (f : Folding) (x v : Found) → FoldingOf W V f → ThroughOf g c i → FoundOf W (seeing w V) x → FoundOf W V v → Sees W V (Maybe (FoundOf W V)) (folded_by g c i f x v)
  unfolding folded_by
  v-folded_by g c i (folding.Operator at o) x v d q s t = v-by_operator g c i at o x v q s t
  v-folded_by g c i (folding.Extreme at o r) x v d q s t = v-of_kind g c i at o r.kind x v q s t
  v-folded_by g c i (folding.Function at n) x v d q s t =
      v-bind W V (ProfileOf W V n) (Maybe (FoundOf W V)) (read (λ log. profile_in log n)) _ (v-profile W V n d.0) (λ y z. v-function g c i at n x v y d z q s t)
