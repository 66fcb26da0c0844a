-- What is found is formed: reducers and reductions.
use Rattle.std.proofs.Common.{◌≡◌, sym, subst, ℕ, ◌<◌, List, [], ◌∷◌, Option, Some, None, ◌&&◌}
use Rattle.std.specs.Prelude.{is_some, not, ◌||◌}
use Rattle.ada_base.specs.declared.operation.Op.{Op}
use Rattle.ada_meaning.specs.Formed.{FormedExpr, FormedReducer, Known}
use Rattle.syntax_tree.specs.FirstTokens as first_token
use Rattle.syntax_tree.specs.Syntax as syntax
use Rattle.syntax_tree.specs.Syntax.{Expr, NameParts, Primary}
use Rattle.typed_tree.specs.Classes.{with_class}
use Rattle.typed_tree.specs.Decoded.{TypedPart, as_expr, as_iteration}
use Rattle.typed_tree.specs.declared.expressions.Reducer.{Reducer}
use Rattle.typed_tree.specs.declared.expressions.Reducer.TheVariants as reducer'
use Rattle.typed_tree.specs.declared.scalars.Class.TheVariants as class
use Rattle.name_rules.specs.Calls.{gives_in, profile_in, takes_in}
use Rattle.name_rules.specs.Expressions.{Inside, judged_alone}
use Rattle.name_rules.specs.Found.{Found, scalar}
use Rattle.name_rules.specs.Judging.{fault, joined, read}
use Rattle.name_rules.specs.Operators.{open_of}
use Rattle.name_rules.specs.Reducers.{attribute_reducer, by_function, by_operator, by_subtypes, extreme_name, extreme_of, folded_by, function_given, function_of, is_logical, name_reducer, no_reducer, numeric, of_kind, open_reduction, operator_named, operator_reducer, operators, reduced, reducer_by, reducer_of, reduction, logical_kind}
use Rattle.name_rules.specs.Scope.{stands_for}
use Rattle.name_rules.specs.Shapes.{primary_of_expr}
use Rattle.name_rules.specs.Symbols.{text}
use Rattle.name_rules.specs.Types.{class_of, same, typed_scalar}
use Rattle.name_rules.specs.Values.{asked, is_number, kind_of, suits}
use Rattle.name_rules.specs.declared.found.Denoted.TheVariants as denoted
use Rattle.name_rules.specs.declared.found.Denoted.{Denoted as KnownDenoted}
use Rattle.name_rules.specs.declared.found.Folding.{Folding}
use Rattle.name_rules.specs.declared.found.Folding.TheVariants as folding
use Rattle.name_rules.specs.declared.found.Going.{Going}
use Rattle.name_rules.specs.declared.found.Limits.{Limits}
use Rattle.name_rules.specs.declared.log.Rule.TheVariants.{ReduceRule}
use Rattle.name_rules.specs.declared.log.Taken.{Taken}
use Rattle.name_rules.specs.declared.scope.Context.{Context}
use Rattle.name_rules.specs.declared.scope.Names.{Names}
use Rattle.name_rules.specs.declared.types.Kind.{Kind}
use Rattle.name_rules.specs.declared.types.Scalar.{Scalar}
use Rattle.name_rules.specs.declared.types.Subtype.{Subtype}
use Rattle.name_rules.specs.declared.types.Subtype.TheVariants as subtype
use Rattle.name_formed.proofs.Forms.{Any, Forms, Maybe, Sight, World, f-bind, f-both, f-fault, f-given, f-if, f-pure, f-read, f-some, f-where_clean, joint}
use Rattle.name_formed.proofs.FormsExpressions.{f-judged_alone}
use Rattle.name_formed.proofs.FormsFound.{Around, ChunkOf, DenotedOf, DenotesOf, ExprOf, FoundOf, IterationOf, LevelForms}
use Rattle.name_formed.proofs.FormsOperators.{WaitsOf, open-found}
use Rattle.name_formed.proofs.FormsScope.{f-stands_for}
use Rattle.name_formed.proofs.FormsValues.{class-settled, f-asked, is-settled, iteration-map}

module _ (W : World) (V : Sight) where
  -- ---- reducers

  -- a function that folds may be called
  abbrev pub FoldingOf : Folding → Type 0
  FoldingOf (folding.Function at n) = n < V.known.declared
  FoldingOf f = Unit {0}

  f-operator_reducer : (at : ℕ) (o : Option Op) → Forms W V (Maybe FoldingOf) (operator_reducer at o)
  f-operator_reducer at None = f-fault W V FoldingOf at ReduceRule
  f-operator_reducer at (Some o) = f-some W V FoldingOf (folding.Operator at o) tt

  f-extreme_of : (at : ℕ) (o : Op) (k : KnownDenoted) → Forms W V (Maybe FoldingOf) (extreme_of at o k)
  f-extreme_of at o (denoted.Type first (subtype.Scalar s)) = f-some W V FoldingOf (folding.Extreme at o s) tt
  f-extreme_of at o k = f-fault W V FoldingOf at ReduceRule

  f-function_given : (at n : ℕ) (s : Option Scalar) → n < V.known.declared → Forms W V (Maybe FoldingOf) (function_given at n s)
  f-function_given at n None h = f-fault W V FoldingOf at ReduceRule
  f-function_given at n (Some s) h = f-some W V FoldingOf (folding.Function at n) h

  f-function_of : (at : ℕ) (k : KnownDenoted) (x : TypedPart) → DenotesOf W V k x → Forms W V (Maybe FoldingOf) (function_of at k)
  f-function_of at (denoted.Sub first last n) x h =
      f-bind W V Any (Maybe FoldingOf) (read (λ log. gives_in (profile_in log n))) (function_given at n) (f-read W V Any (λ log. gives_in (profile_in log n)) (λ log g. tt)) (λ s q. f-function_given at n s h)
  f-function_of at k x h = f-fault W V FoldingOf at ReduceRule

  f-no_reducer : (names : Names) (inside : Inside) (here : Context) (e : Expr) → LevelForms W inside → Around W V here → Forms W V (Maybe FoldingOf) (no_reducer names inside here e)
  f-no_reducer names inside here e l r =
      f-where_clean W V Any FoldingOf (judged_alone names inside here e) (λ u. fault (first_token.of_expr e) ReduceRule) (f-judged_alone W V names inside here e l r) (λ u q. f-fault W V FoldingOf (first_token.of_expr e) ReduceRule)

  f-attribute_reducer : (names : Names) (inside : Inside) (here : Context) (e : Expr) (first : ℕ) (o : Option Op) → LevelForms W inside → Around W V here → Forms W V (Maybe FoldingOf) (attribute_reducer names inside here e first o)
  f-attribute_reducer names inside here e first None l r = f-no_reducer names inside here e l r
  f-attribute_reducer names inside here e first (Some o) l r =
      f-bind W V (Maybe (DenotedOf W V)) (Maybe FoldingOf) (stands_for names here first) _ (f-stands_for W V names here first r) (λ d q. f-given W V (DenotedOf W V) FoldingOf d _ q (λ x s. f-extreme_of first o x.known))

  f-name_reducer : (names : Names) (inside : Inside) (here : Context) (e : Expr) (first : ℕ) (ps : NameParts) → LevelForms W inside → Around W V here → Forms W V (Maybe FoldingOf) (name_reducer names inside here e first ps)
  f-name_reducer names inside here e first syntax.NoPart l r =
      f-bind W V (Maybe (DenotedOf W V)) (Maybe FoldingOf) (stands_for names here first) _ (f-stands_for W V names here first r) (λ d q. f-given W V (DenotedOf W V) FoldingOf d _ q (λ x s. f-function_of first x.known x.part s))
  f-name_reducer names inside here e first (syntax.AlsoPart (syntax.Attribute at) syntax.NoPart) l r = f-attribute_reducer names inside here e first (extreme_name names at) l r
  f-name_reducer names inside here e first ps l r = f-no_reducer names inside here e l r

  f-reducer_by : (names : Names) (inside : Inside) (here : Context) (e : Expr) (p : Option Primary) → LevelForms W inside → Around W V here → Forms W V (Maybe FoldingOf) (reducer_by names inside here e p)
  f-reducer_by names inside here e (Some (syntax.Text at)) l r = f-operator_reducer at (operator_named (text names at) operators)
  f-reducer_by names inside here e (Some (syntax.Named (syntax.name first ps))) l r = f-name_reducer names inside here e first ps l r
  f-reducer_by names inside here e p l r = f-no_reducer names inside here e l r

  pub f-reducer_of : (names : Names) (inside : Inside) (here : Context) (e : Expr) → LevelForms W inside → Around W V here → Forms W V (Maybe FoldingOf) (reducer_of names inside here e)
  unfolding reducer_of
  f-reducer_of names inside here e l r = f-reducer_by names inside here e (primary_of_expr e) l r

-- ---- reductions: the values are found around the body of the iteration, the initial value around the reduction

module _ (W : World) (V : Sight) (w : Known) where
  abbrev Inner : Sight
  Inner = record { known = w; bound = V.bound }

  f-reduced : (g : Going) (c i : TypedPart) (k j : Kind) (r : Reducer) (x v : Found) → ChunkOf W V c → IterationOf W V Inner i → FormedReducer W.program V.known r → FoundOf W Inner x → FoundOf W V v → Forms W V (Maybe (FoundOf W V)) (reduced g c i k j r x v)
  unfolding reduced
  f-reduced g c i k j r x v p q a s t =
      f-bind W V (Maybe (ExprOf W Inner)) (Maybe (FoundOf W V)) (asked k x) _ (f-asked W Inner k x s) (λ e y.
      f-bind W V (Maybe (ExprOf W V)) (Maybe (FoundOf W V)) (asked j v) _ (f-asked W V j v t) (λ f z.
      f-both W V (ExprOf W Inner) (ExprOf W V) (FoundOf W V) e f _ y z (λ value initial m n.
      f-some W V (FoundOf W V) (scalar g.at j None (reduction g c i r value initial))
      (a, n, p, iteration-map W.program V.known (as_iteration i) (λ u. u ≡ w) (λ u. FormedExpr W.program u (as_expr value)) q (λ u d. subst (λ y. FormedExpr W.program y (as_expr value)) (sym d) m)))))

  open-reduction : (g : Going) (c i : TypedPart) (at : ℕ) (o : Op) (x v : Limits × TypedPart) → ChunkOf W V c → IterationOf W V Inner i → WaitsOf W Inner x → WaitsOf W V v → FoundOf W V (open_reduction g c i at o x v)
  open-reduction g c i at o x v p q s t d h =
      (class-settled d class.Universal h, t d h, p, iteration-map W.program V.known (as_iteration i) (λ u. u ≡ w) (λ u. FormedExpr W.program u (with_class d (as_expr x.1))) q (λ u e. subst (λ y. FormedExpr W.program y (with_class d (as_expr x.1))) (sym e) (s d h)))

  f-of_kind : (g : Going) (c i : TypedPart) (at : ℕ) (o : Op) (k : Kind) (x v : Found) → ChunkOf W V c → IterationOf W V Inner i → FoundOf W Inner x → FoundOf W V v → Forms W V (Maybe (FoundOf W V)) (of_kind g c i at o k x v)
  f-of_kind g c i at o k x v p q s t =
      f-if W V (Maybe (FoundOf W V)) (suits k x.known && suits k v.known) (reduced g c i k k (reducer'.Operator at o (class_of k)) x v) (fault at ReduceRule)
      (f-reduced g c i k k (reducer'.Operator at o (class_of k)) x v p q (is-settled k) s t) (f-fault W V (FoundOf W V) at ReduceRule)

  f-numeric : (g : Going) (c i : TypedPart) (at : ℕ) (o : Op) (x v : Found) (k j : Option Kind) → ChunkOf W V c → IterationOf W V Inner i → FoundOf W Inner x → FoundOf W V v → Forms W V (Maybe (FoundOf W V)) (numeric g c i at o x v k j)
  f-numeric g c i at o x v None None p q s t =
      f-pure W V (Maybe (FoundOf W V)) (joined (open_reduction g c i at o) (open_of x) (open_of v))
      (joint (WaitsOf W Inner) (WaitsOf W V) (FoundOf W V) (open_reduction g c i at o) (open_of x) (open_of v) (open-found W Inner x s) (open-found W V v t) (λ a b m n. open-reduction g c i at o a b p q m n))
  f-numeric g c i at o x v (Some k) j p q s t = f-of_kind g c i at o k x v p q s t
  f-numeric g c i at o x v None (Some k) p q s t = f-of_kind g c i at o k x v p q s t

  f-by_operator : (g : Going) (c i : TypedPart) (at : ℕ) (o : Op) (x v : Found) → ChunkOf W V c → IterationOf W V Inner i → FoundOf W Inner x → FoundOf W V v → Forms W V (Maybe (FoundOf W V)) (by_operator g c i at o x v)
  f-by_operator g c i at o x v p q s t =
      f-if W V (Maybe (FoundOf W V)) (is_logical o) (of_kind g c i at o (logical_kind (kind_of x.known) (kind_of v.known)) x v) _ (f-of_kind g c i at o (logical_kind (kind_of x.known) (kind_of v.known)) x v p q s t)
      (f-if W V (Maybe (FoundOf W V)) (is_number x.known && is_number v.known) (numeric g c i at o x v (kind_of x.known) (kind_of v.known)) (fault at ReduceRule) (f-numeric g c i at o x v (kind_of x.known) (kind_of v.known) p q s t) (f-fault W V (FoundOf W V) at ReduceRule))

  f-by_subtypes : (g : Going) (c i : TypedPart) (at n : ℕ) (result : Kind) (a b : Subtype) (x v : Found) → n < V.known.declared → ChunkOf W V c → IterationOf W V Inner i → FoundOf W Inner x → FoundOf W V v → Forms W V (Maybe (FoundOf W V)) (by_subtypes g c i at n result a b x v)
  f-by_subtypes g c i at n result (subtype.Scalar a) (subtype.Scalar b) x v d p q s t =
      f-if W V (Maybe (FoundOf W V)) (same result a.kind && suits b.kind x.known && suits a.kind v.known && (not (is_some g.site) || same a.kind b.kind))
      (reduced g c i b.kind a.kind (reducer'.Function at n (typed_scalar a) (typed_scalar b)) x v) (fault at ReduceRule)
      (f-reduced g c i b.kind a.kind (reducer'.Function at n (typed_scalar a) (typed_scalar b)) x v p q d s t) (f-fault W V (FoundOf W V) at ReduceRule)
  f-by_subtypes g c i at n result a b x v d p q s t = f-fault W V (FoundOf W V) at ReduceRule

  f-by_function : (g : Going) (c i : TypedPart) (at n : ℕ) (ts : List Taken) (r : Option Scalar) (x v : Found) → n < V.known.declared → ChunkOf W V c → IterationOf W V Inner i → FoundOf W Inner x → FoundOf W V v → Forms W V (Maybe (FoundOf W V)) (by_function g c i at n ts r x v)
  f-by_function g c i at n (a ∷ b ∷ []) (Some r) x v d p q s t = f-by_subtypes g c i at n r.kind a.subtype b.subtype x v d p q s t
  f-by_function g c i at n ts r x v d p q s t = f-fault W V (FoundOf W V) at ReduceRule

  pub f-folded_by : (g : Going) (c i : TypedPart) (f : Folding) (x v : Found) → FoldingOf W V f → ChunkOf W V c → IterationOf W V (record { known = w; bound = V.bound }) i → FoundOf W (record { known = w; bound = V.bound }) x → FoundOf W V v → Forms W V (Maybe (FoundOf W V)) (folded_by g c i f x v)
  unfolding folded_by
  f-folded_by g c i (folding.Operator at o) x v d p q s t = f-by_operator g c i at o x v p q s t
  f-folded_by g c i (folding.Extreme at o r) x v d p q s t = f-of_kind g c i at o r.kind x v p q s t
  f-folded_by g c i (folding.Function at n) x v d p q s t =
      f-bind W V Any (Maybe (FoundOf W V)) (read (λ log. profile_in log n)) _ (f-read W V Any (λ log. profile_in log n) (λ log h. tt)) (λ y z. f-by_function g c i at n (takes_in y) (gives_in y) x v d p q s t)
