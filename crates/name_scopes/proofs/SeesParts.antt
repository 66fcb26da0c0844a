-- What is found is in scope: names as wholes.
use Rattle.std.proofs.Common.{◌≡◌, refl, sym, ap, subst, ◌∙◌, true≢false, nat_lt, length, slice_get, ℕ, List, Option, Some, None, Bool, true, false, option_map}
use Rattle.std.specs.Prelude.{not, ◌/◌}
use Rattle.syntax_tree.specs.Syntax as syntax
use Rattle.syntax_tree.specs.Syntax.{Args, Expr, Name, NameParts}
use Rattle.typed_tree.specs.Decoded as part
use Rattle.typed_tree.specs.Decoded.{TypedPart}
use Rattle.typed_tree.specs.Syntax as typed
use Rattle.typed_tree.specs.declared.program.SiteKind.TheVariants as site
use Rattle.name_rules.specs.Attributes.{attribute_at, bound_with, dimensions_in, is_array_object, is_bound, is_reduction, mentioned, prefix_subtype, settled_attribute}
use Rattle.name_rules.specs.Expressions.{Inside, expr}
use Rattle.name_rules.specs.Found.{Denoted, Found, denote, parameter_found, value_denoted}
use Rattle.name_rules.specs.Judging.{◌>>=◌, both, fault, given, read, where_clean}
use Rattle.name_rules.specs.Names.{args_alone, denoted_first, field, wrong_call}
use Rattle.name_rules.specs.Parts.{new_site, array_reduced, array_reduction, array_shape, attribute_with, call, call_form, is_parallel, item_found, name, new_parameter, next_part, of_array, other_with, part_alone, part_of, parts, reduced_with, site_where, through, value_form, value_named, valued_by, valued_form, wrong_arguments}
use Rattle.name_rules.specs.Reducers.{folded_by, reducer_of}
use Rattle.name_rules.specs.Scope.{stands_for}
use Rattle.name_rules.specs.Symbols.{symbol}
use Rattle.name_rules.specs.TypedParts.{selections_of}
use Rattle.name_rules.specs.Types.{component_of}
use Rattle.name_rules.specs.declared.found.Attribute.{Attribute}
use Rattle.name_rules.specs.declared.found.Attribute.TheVariants as attribute'
use Rattle.name_rules.specs.declared.found.Denoted.TheVariants as denoted
use Rattle.name_rules.specs.declared.found.Denoted.{Denoted as KnownDenoted}
use Rattle.name_rules.specs.declared.found.Folding.{Folding}
use Rattle.name_rules.specs.declared.found.Found.TheVariants as known
use Rattle.name_rules.specs.declared.found.ObjectName.{ObjectName}
use Rattle.name_rules.specs.declared.found.Prefix.TheVariants as prefix
use Rattle.name_rules.specs.declared.found.Prefix.{Prefix}
use Rattle.name_rules.specs.declared.log.Rule.TheVariants.{ReduceRule, WrongType}
use Rattle.name_rules.specs.declared.scope.Context.{Context}
use Rattle.name_rules.specs.declared.scope.Names.{Names}
use Rattle.name_rules.specs.declared.types.Subtype.{Subtype}
use Rattle.name_rules.specs.declared.types.Subtype.TheVariants as subtype
use Rattle.name_rules.specs.declared.types.Wanted.TheVariants as wanted
use Rattle.typed_tree.specs.Syntax.{Iteration}
use Rattle.name_rules.specs.Scope.{item}
use Rattle.name_rules.specs.Types.{cells_in, dimensions_of, shape_in}
use Rattle.name_rules.specs.declared.found.Going.{Going}
use Rattle.name_rules.specs.declared.log.Dimension.{Dimension}
use Rattle.name_rules.specs.declared.log.Log.{Log}
use Rattle.name_rules.specs.declared.log.Shape.{Shape}
use Rattle.name_rules.specs.declared.log.Shape.TheVariants as shape
use Rattle.name_scopes.proofs.SeesAttributes.{v-attribute_found, v-bound_with, v-scalar_with, v-settled_attribute, mentioned-seen}
use Rattle.name_scopes.proofs.SeesCalls.{v-conversion, v-sub_call}
use Rattle.name_scopes.proofs.SeesExpressions.{v-expr}
use Rattle.name_scopes.proofs.SeesNames.{v-args_alone, v-field, v-object_call, v-wrong_call}
use Rattle.name_scopes.proofs.SeesOutput.{v-io_call}
use Rattle.name_scopes.proofs.SeesReducers.{FoldingOf, v-folded_by, v-reducer_of}
use Rattle.name_laws.proofs.CellsCounted.{HaveValues}
use Rattle.name_formed.proofs.Forms.{HasDimensions, Small, shape_of}
use Rattle.name_scopes.proofs.Seen.{IsChunked, SeenIteration}
use Rattle.typed_scopes.specs.Scopes as scopes
use Rattle.name_scopes.proofs.Sees.{Any, Sees, Maybe, Sight, World, seeing, v-bind, v-both, v-fault, v-given, v-if, v-new_parameter, v-none, v-pure, v-read, v-some, v-where_clean, mapped}
use Rattle.name_scopes.proofs.SeesFound.{Around, DenotedOf, DenotesOf, Finding, FoundOf, LevelSees, PlaceOf, PrefixOf}
use Rattle.name_scopes.proofs.SeesIterations.{item-walk, v-new_site}
use Rattle.name_scopes.proofs.SeesScope.{item-root, v-stands_for, whole-place}

module _ (W : World) (V : Sight) where
  -- ---- attributes with what stands in brackets behind them

  -- an object of an array type
  abbrev IsArrayAt : ObjectName → Type 0
  IsArrayAt p = (k : ℕ) × (ds : List Dimension) × (c : Subtype) × (j : ℕ) × (cells : ℕ) × (p.subtype ≡ subtype.Composite k) × (slice_get W.shapes k ≡ Some (shape.Array ds c j cells))

  array-of : (p : ObjectName) (k : ℕ) (t : Option Shape) → p.subtype ≡ subtype.Composite k → slice_get W.shapes k ≡ t → nat_lt 0 (length (dimensions_of t)) ≡ true → IsArrayAt p
  array-of p k (Some (shape.Array ds c j cells)) e g h = (k, ds, c, j, cells, e, g)
  array-of p k (Some (shape.Record fs cells)) e g h = absurd (true≢false (sym h))
  array-of p k (Some (shape.Scalar s)) e g h = absurd (true≢false (sym h))
  array-of p k None e g h = absurd (true≢false (sym h))

  array-in : (log : Log) → log.shapes ≡ W.shapes → (p : ObjectName) (t : Subtype) → p.subtype ≡ t → nat_lt 0 (length (dimensions_in log (Some t))) ≡ true → IsArrayAt p
  array-in log g p (subtype.Composite k) e h = array-of p k (shape_in log k) e (ap (λ s. slice_get s k) (sym g)) h
  array-in log g p (subtype.Scalar s) e h = absurd (true≢false (sym h))

  v-site_where : (here : Context) (at : ℕ) (b : Bool) → Sees W V Any (site_where here at b)
  v-site_where here at false = v-pure W V Any None tt
  v-site_where here at true = v-bind W V Any Any (new_site here at site.Reduction) _ (v-new_site W V here at site.Reduction) (λ n q. v-pure W V Any (Some n) tt)

  -- what the iteration over an array is, whose item is of the component's subtype
  abbrev ThroughArray : ObjectName → TypedPart → ℕ → ℕ → List Dimension → Subtype → ℕ → Iteration → Type 0
  ThroughArray p x n k ds c cells i =
      (one : ℕ) × (HasDimensions W.program k ds c one cells × HaveValues ds) × (i ≡ typed.Components n (not p.variable) p.first p.root (selections_of x) (cells / one) one (length ds) typed.Absent)

  shape-at : (p : ObjectName) (k : ℕ) → p.subtype ≡ subtype.Composite k → (log : Log) → array_shape log p.subtype ≡ shape_in log k
  shape-at p k e log = ap (array_shape log) e

  entry-at : (k : ℕ) (ds : List Dimension) (c : Subtype) (j cells : ℕ) (log : Log) → log.shapes ≡ W.shapes → slice_get W.shapes k ≡ Some (shape.Array ds c j cells) → shape_in log k ≡ Some (shape.Array ds c j cells)
  entry-at k ds c j cells log g h = ap (λ s. slice_get s k) g ∙ h

  through-of : (p : ObjectName) (x : TypedPart) (n k : ℕ) (ds : List Dimension) (c : Subtype) (j cells : ℕ) → PlaceOf W V p x → p.subtype ≡ subtype.Composite k → slice_get W.shapes k ≡ Some (shape.Array ds c j cells)
      → (log : Log) → log.shapes ≡ W.shapes → ThroughArray p x n k ds c cells (through log p (selections_of x) (array_shape log p.subtype) n typed.Absent)
  through-of p x n k ds c j cells h e g log i =
      let t = entry-at k ds c j cells log i g in
      (cells_in log c, W.dimensions log i k ds c j cells t (subst (λ u. Small (shape_of W.program u)) e h.small), ap (λ u. through log p (selections_of x) u n typed.Absent) (shape-at p k e log ∙ t))

  -- the item stands for all of a component
  item-found : (a : scopes.Around) (first n : ℕ) (v : Bool) (c : Subtype) → Small (shape_of W.program c) → FoundOf W (seeing a V) (item_found first n v (Some c))
  item-found a first n v c h = whole-place W (seeing a V) (item first n c v) (item-root W (seeing a V) n v) h

  v-array_reduction : (names : Names) (inside : Inside) (here : Context) (p : ObjectName) (x : TypedPart) (at : ℕ) (a : Attribute) (r v : Expr) → LevelSees W inside → Around W V here → PlaceOf W V p x → IsArrayAt p
      → Sees W V (Maybe (DenotedOf W V)) (array_reduction names inside here p (selections_of x) at a r v)
  v-array_reduction names inside here p x at a r v l b h y =
      let k = y.0 in let ds = y.1 in let c = y.2 in let cells = y.4 in
      let R : Option Denoted → Type 0 = Maybe (DenotedOf W V) in
      v-bind W V Any R (site_where here p.first (is_parallel a)) _ (v-site_where here p.first (is_parallel a)) (λ construct q1.
      v-bind W V Any R new_parameter _ (v-new_parameter W V) (λ n q2.
      v-bind W V (ThroughArray p x n k ds c cells) R (read (λ log. through log p (selections_of x) (array_shape log p.subtype) n typed.Absent)) _
      (v-read W V (ThroughArray p x n k ds c cells) (λ log. through log p (selections_of x) (array_shape log p.subtype) n typed.Absent) (through-of p x n k ds c y.3 cells h y.5 y.6)) (λ i q3.
      v-bind W V (λ d. d ≡ Some c) R (read (λ log. component_of (array_shape log p.subtype))) _
      (v-read W V (λ d. d ≡ Some c) (λ log. component_of (array_shape log p.subtype)) (λ log g. ap component_of (shape-at p k y.5 log ∙ entry-at k ds c y.3 cells log g y.6))) (λ d q4.
      v-bind W V (Maybe (FoldingOf W V)) R (reducer_of names inside here r) _ (v-reducer_of W V names inside here r l b) (λ f q5.
      v-bind W V (Finding W V) R (expr names inside here wanted.Other v) _ (v-expr W V names inside here wanted.Other v l b) (λ z q6.
      v-bind W V (Finding W V) R (both f z (λ g. folded_by (record { at = p.first; attribute = at; site = construct }) part.Nothing (part.AnIteration i) g (item_found p.first n p.variable d))) _
      (v-both W V (FoldingOf W V) (FoundOf W V) (FoundOf W V) f z (λ g. folded_by (record { at = p.first; attribute = at; site = construct }) part.Nothing (part.AnIteration i) g (item_found p.first n p.variable d)) q5 q6
      (λ g o s t. reduced p x n k ds c cells i d (record { at = p.first; attribute = at; site = construct }) g o h q3 q4 s t)) (λ w q7.
      v-pure W V R (option_map value_denoted w) (mapped (FoundOf W V) (DenotedOf W V) value_denoted w q7 (λ u t. t)))))))))
    where
      unchunked : (s : Option ℕ) → IsChunked s typed.NoChunk
      unchunked None = refl
      unchunked (Some s) = tt

      reduced : (p : ObjectName) (x : TypedPart) (n k : ℕ) (ds : List Dimension) (c : Subtype) (cells : ℕ) (i : Iteration) (d : Option Subtype) (g : Going) (f : Folding) (o : Found) → PlaceOf W V p x
          → ThroughArray p x n k ds c cells i → d ≡ Some c → FoldingOf W V f → FoundOf W V o → Sees W V (Finding W V) (folded_by g part.Nothing (part.AnIteration i) f (item_found p.first n p.variable d) o)
      reduced p x n k ds c cells i d g f o h q u j v =
          let w = item-walk W V V.around p x n n syntax.AbsentExpr k ds c q.0 cells h q.1 in
          v-folded_by W V w.around g part.Nothing (part.AnIteration i) f (item_found p.first n p.variable d) o j
          (tt, unchunked g.site, subst (λ z. SeenIteration W.program W.shown V.around V.around z (λ y. y ≡ w.around)) (sym q.2) w.made)
          (subst (λ z. FoundOf W (seeing w.around V) (item_found p.first n p.variable z)) (sym u) (item-found w.around p.first n p.variable c q.1.0.small)) v

  v-wrong_arguments : (names : Names) (inside : Inside) (here : Context) (bracket : ℕ) (as' : Args) → LevelSees W inside → Around W V here → Sees W V (Maybe (DenotedOf W V)) (wrong_arguments names inside here bracket as')
  v-wrong_arguments names inside here bracket as' l r = v-where_clean W V Any (DenotedOf W V) (args_alone names inside here as') (λ u. fault bracket WrongType) (v-args_alone W V names inside here as' l r) (λ u q. v-fault W V (DenotedOf W V) bracket WrongType)

  v-array_reduced : (names : Names) (inside : Inside) (here : Context) (p : ObjectName) (x : TypedPart) (at : ℕ) (a : Attribute) (bracket : ℕ) (as' : Args) → LevelSees W inside → Around W V here → PlaceOf W V p x → IsArrayAt p
      → Sees W V (Maybe (DenotedOf W V)) (array_reduced names inside here p (selections_of x) at a bracket as')
  v-array_reduced names inside here p x at a bracket (syntax.AlsoArg (syntax.arg None r) (syntax.AlsoArg (syntax.arg None v) syntax.NoArg)) l b h y = v-array_reduction names inside here p x at a r v l b h y
  v-array_reduced names inside here p x at a bracket as' l b h y = v-wrong_arguments names inside here bracket as' l b

  v-no_array : (names : Names) (inside : Inside) (here : Context) (at : ℕ) (as' : Args) → LevelSees W inside → Around W V here → Sees W V (Maybe (DenotedOf W V)) (where_clean (args_alone names inside here as') (λ u. fault at ReduceRule))
  v-no_array names inside here at as' l r = v-where_clean W V Any (DenotedOf W V) (args_alone names inside here as') (λ u. fault at ReduceRule) (v-args_alone W V names inside here as' l r) (λ u q. v-fault W V (DenotedOf W V) at ReduceRule)

  -- whether a prefix is an array
  abbrev ArrayWhere : Prefix → Bool → Type 0
  ArrayWhere (prefix.Object p) true = IsArrayAt p
  ArrayWhere p b = Unit {0}

  array-where : (log : Log) → log.shapes ≡ W.shapes → (p : Prefix) → ArrayWhere p (is_array_object log p)
  array-where log g (prefix.Object p) = by (is_array_object log (prefix.Object p)) refl
    where
      by : (b : Bool) → is_array_object log (prefix.Object p) ≡ b → ArrayWhere (prefix.Object p) b
      by true e = array-in log g p p.subtype refl e
      by false e = tt
  array-where log g (prefix.Parameter s) = tt
  array-where log g (prefix.Type t) = tt
  array-where log g (prefix.Function n) = tt
  array-where log g prefix.Other = tt

  v-reduced_with : (names : Names) (inside : Inside) (here : Context) (first : ℕ) (p : Prefix) (x : TypedPart) (at : ℕ) (a : Attribute) (bracket : ℕ) (as' : Args) (b : Bool) → LevelSees W inside → Around W V here → PrefixOf W V p x → ArrayWhere p b
      → Sees W V (Maybe (DenotedOf W V)) (reduced_with names inside here first p x at a bracket as' b)
  v-reduced_with names inside here first (prefix.Object p) x at a bracket as' true l r h y = v-array_reduced names inside here p x at a bracket as' l r h y
  v-reduced_with names inside here first p x at a bracket as' b l r h y = v-no_array names inside here at as' l r

  v-of_array : (names : Names) (inside : Inside) (here : Context) (first : ℕ) (p : Prefix) (x : TypedPart) (at : ℕ) (a : Attribute) (bracket : ℕ) (as' : Args) → LevelSees W inside → Around W V here → PrefixOf W V p x → Sees W V (Maybe (DenotedOf W V)) (of_array names inside here first p x at a bracket as')
  v-of_array names inside here first p x at a bracket as' l r h =
      v-if W V (Maybe (DenotedOf W V)) (is_bound a) (read (λ log. dimensions_in log (prefix_subtype p)) >>= bound_with names inside here first (mentioned p x) a bracket as') (wrong_call names inside here first as')
      (v-bind W V Any (Maybe (DenotedOf W V)) (read (λ log. dimensions_in log (prefix_subtype p))) (bound_with names inside here first (mentioned p x) a bracket as') (v-read W V Any (λ log. dimensions_in log (prefix_subtype p)) (λ log g. tt)) (λ ds q.
      v-bound_with W V names inside here first (mentioned p x) a bracket as' ds l r (mentioned-seen W V p x h)))
      (v-wrong_call W V names inside here first as' l r)

  v-other_with : (names : Names) (inside : Inside) (here : Context) (first : ℕ) (p : Prefix) (x : TypedPart) (at : ℕ) (a : Attribute) (bracket : ℕ) (as' : Args) → LevelSees W inside → Around W V here → PrefixOf W V p x → Sees W V (Maybe (DenotedOf W V)) (other_with names inside here first p x at a bracket as')
  v-other_with names inside here first (prefix.Type (subtype.Scalar s)) x at a bracket as' l r h = v-scalar_with W V names inside here first s a bracket as' l r
  v-other_with names inside here first p x at a bracket as' l r h = v-of_array names inside here first p x at a bracket as' l r h

  v-attribute_with : (names : Names) (inside : Inside) (here : Context) (first : ℕ) (p : Prefix) (x : TypedPart) (at : ℕ) (a : Attribute) (bracket : ℕ) (as' : Args) → LevelSees W inside → Around W V here → PrefixOf W V p x → Sees W V (Maybe (DenotedOf W V)) (attribute_with names inside here first p x at a bracket as')
  v-attribute_with names inside here first p x at a bracket as' l r h =
      v-if W V (Maybe (DenotedOf W V)) (is_reduction a) (read (λ log. is_array_object log p) >>= reduced_with names inside here first p x at a bracket as') (other_with names inside here first p x at a bracket as')
      (v-bind W V (ArrayWhere p) (Maybe (DenotedOf W V)) (read (λ log. is_array_object log p)) (reduced_with names inside here first p x at a bracket as') (v-read W V (ArrayWhere p) (λ log. is_array_object log p) (λ log g. array-where log g p)) (λ b q. v-reduced_with names inside here first p x at a bracket as' b l r h q))
      (v-other_with names inside here first p x at a bracket as' l r h)

  -- ---- whole names

  v-call_form : (names : Names) (inside : Inside) (here : Context) (bracket : ℕ) (as' : Args) (k : KnownDenoted) (x : TypedPart) → LevelSees W inside → Around W V here → DenotesOf W V k x → Sees W V (Maybe (DenotedOf W V)) (call_form names inside here bracket as' k x)
  v-call_form names inside here bracket as' (denoted.Value (known.Object p)) x l r h = v-object_call W V names inside here p x bracket as' p.subtype l r h refl
  v-call_form names inside here bracket as' (denoted.Type first s) x l r h = v-conversion W V names inside here bracket first s as' l r
  v-call_form names inside here bracket as' (denoted.Sub first last n) x l r h = v-sub_call W V names inside here bracket first last n as' l r h
  v-call_form names inside here bracket as' (denoted.Io first last p reach) x l r h = v-io_call W V names inside here bracket first last p reach as' l r
  v-call_form names inside here bracket as' (denoted.Attribute first p at a) x l r h = v-attribute_with names inside here first p x at a bracket as' l r h
  v-call_form names inside here bracket as' k x l r h = v-wrong_call W V names inside here (denoted_first k) as' l r

  v-part_of : (names : Names) (inside : Inside) (here : Context) (x : syntax.NamePart) (d : Denoted) → LevelSees W inside → Around W V here → DenotedOf W V d → Sees W V (Maybe (DenotedOf W V)) (part_of names inside here x d)
  unfolding part_of call
  v-part_of names inside here (syntax.Field at) d l r h = v-bind W V (Maybe (DenotedOf W V)) (Maybe (DenotedOf W V)) (settled_attribute d) _ (v-settled_attribute W V d h) (λ x q. v-given W V (DenotedOf W V) (DenotedOf W V) x (field names here at) q (λ e s. v-field W V names here at e s))
  v-part_of names inside here (syntax.Call bracket a as') d l r h = v-call_form names inside here bracket (syntax.AlsoArg a as') d.known d.part l r h
  v-part_of names inside here (syntax.Attribute at) d l r h =
      v-bind W V (Maybe (DenotedOf W V)) (Maybe (DenotedOf W V)) (settled_attribute d) _ (v-settled_attribute W V d h) (λ x q. v-given W V (DenotedOf W V) (DenotedOf W V) x _ q (λ e s. v-attribute_found W V e at (attribute_at (symbol names at)) s))
  v-part_of names inside here (syntax.RangeAttribute at) d l r h =
      v-bind W V (Maybe (DenotedOf W V)) (Maybe (DenotedOf W V)) (settled_attribute d) _ (v-settled_attribute W V d h) (λ x q. v-given W V (DenotedOf W V) (DenotedOf W V) x _ q (λ e s. v-attribute_found W V e at (Some attribute'.Range) s))

  v-part_alone : (names : Names) (inside : Inside) (here : Context) (x : syntax.NamePart) → LevelSees W inside → Around W V here → Sees W V (Maybe (DenotedOf W V)) (part_alone names inside here x)
  v-part_alone names inside here (syntax.Call bracket a as') l r = v-bind W V Any (Maybe (DenotedOf W V)) (args_alone names inside here (syntax.AlsoArg a as')) _ (v-args_alone W V names inside here (syntax.AlsoArg a as') l r) (λ u q. v-none W V (DenotedOf W V))
  v-part_alone names inside here x l r = v-none W V (DenotedOf W V)

  v-next_part : (names : Names) (inside : Inside) (here : Context) (d : Option Denoted) (x : syntax.NamePart) → LevelSees W inside → Around W V here → Maybe (DenotedOf W V) d → Sees W V (Maybe (DenotedOf W V)) (next_part names inside here d x)
  v-next_part names inside here None x l r h = v-part_alone names inside here x l r
  v-next_part names inside here (Some d) x l r h = v-part_of names inside here x d l r h

  v-parts : (names : Names) (inside : Inside) (here : Context) (d : Option Denoted) (ps : NameParts) → LevelSees W inside → Around W V here → Maybe (DenotedOf W V) d → Sees W V (Maybe (DenotedOf W V)) (parts names inside here d ps)
  v-parts names inside here d syntax.NoPart l r h = v-pure W V (Maybe (DenotedOf W V)) d h
  v-parts names inside here d (syntax.AlsoPart x ps) l r h = v-bind W V (Maybe (DenotedOf W V)) (Maybe (DenotedOf W V)) (next_part names inside here d x) _ (v-next_part names inside here d x l r h) (λ e q. v-parts names inside here e ps l r q)

  pub v-name : (names : Names) (inside : Inside) (here : Context) (x : Name) → LevelSees W inside → Around W V here → Sees W V (Maybe (DenotedOf W V)) (name names inside here x)
  unfolding name
  v-name names inside here (syntax.name first ps) l r =
      v-bind W V (Maybe (DenotedOf W V)) (Maybe (DenotedOf W V)) (stands_for names here first) _ (v-stands_for W V names here first r) (λ d q.
      v-bind W V (Maybe (DenotedOf W V)) (Maybe (DenotedOf W V)) (parts names inside here d ps) _ (v-parts names inside here d ps l r q) (λ e s. v-given W V (DenotedOf W V) (DenotedOf W V) e settled_attribute s (λ x t. v-settled_attribute W V x t)))

  v-valued_form : (names : Names) (inside : Inside) (here : Context) (k : KnownDenoted) (x : TypedPart) → LevelSees W inside → Around W V here → DenotesOf W V k x → Sees W V (Maybe (DenotedOf W V)) (valued_form names inside here k x)
  v-valued_form names inside here (denoted.Sub first last n) x l r h = v-sub_call W V names inside here first first last n syntax.NoArg l r h
  v-valued_form names inside here (denoted.Io first last p reach) x l r h = v-io_call W V names inside here first first last p reach syntax.NoArg l r
  v-valued_form names inside here k x l r h = v-some W V (DenotedOf W V) (denote k x) h

  pub v-valued_by : (names : Names) (inside : Inside) (here : Context) (d : Denoted) → LevelSees W inside → Around W V here → DenotedOf W V d → Sees W V (Maybe (DenotedOf W V)) (valued_by names inside here d)
  unfolding valued_by
  v-valued_by names inside here d l r h = v-valued_form names inside here d.known d.part l r h

  v-value_form : (k : KnownDenoted) (x : TypedPart) → DenotesOf W V k x → Sees W V (Finding W V) (value_form k x)
  v-value_form (denoted.Value f) x h = v-some W V (FoundOf W V) (record { known = f; part = x }) h
  v-value_form (denoted.Parameter first s) x h = v-some W V (FoundOf W V) (parameter_found first s x) h
  v-value_form k x h = v-fault W V (FoundOf W V) (denoted_first k) WrongType

  pub v-value_named : (names : Names) (inside : Inside) (here : Context) (x : Name) → LevelSees W inside → Around W V here → Sees W V (Finding W V) (value_named names inside here x)
  unfolding value_named
  v-value_named names inside here x l r =
      v-bind W V (Maybe (DenotedOf W V)) (Finding W V) (name names inside here x) _ (v-name names inside here x l r) (λ d q.
      v-bind W V (Maybe (DenotedOf W V)) (Finding W V) (given d (valued_by names inside here)) _ (v-given W V (DenotedOf W V) (DenotedOf W V) d (valued_by names inside here) q (λ y s. v-valued_by names inside here y l r s)) (λ e t.
      v-given W V (DenotedOf W V) (FoundOf W V) e _ t (λ y s. v-value_form y.known y.part s)))
