-- What is found is formed: names as wholes.
use Rattle.std.proofs.Common.{◌≡◌, refl, sym, ap, subst, ◌∙◌, true≢false, ◌≤◌, nat_lt, length, slice_get, arith, ℕ, suc, List, Option, Some, None, Bool, true, false, option_map}
use Rattle.std.specs.Prelude.{not, ◌/◌}
use Rattle.syntax_tree.specs.Syntax as syntax
use Rattle.syntax_tree.specs.Syntax.{Args, Expr, Name, NameParts}
use Rattle.typed_tree.specs.Decoded as part
use Rattle.typed_tree.specs.Decoded.{TypedPart}
use Rattle.typed_tree.specs.Syntax as typed
use Rattle.typed_tree.specs.declared.program.SiteKind.TheVariants as site
use Rattle.name_rules.specs.Attributes.{attribute_at, bound_with, dimensions_in, is_array_object, is_bound, is_reduction, mentioned, prefix_subtype, settled_attribute}
use Rattle.name_rules.specs.Expressions.{Inside, expr}
use Rattle.name_rules.specs.Found.{Denoted, Found, denote, parameter_found, value_denoted}
use Rattle.name_rules.specs.Judging.{◌>>=◌, both, fault, given, read, where_clean}
use Rattle.name_rules.specs.Names.{args_alone, denoted_first, field, wrong_call}
use Rattle.name_rules.specs.Parts.{new_site, array_reduced, array_reduction, array_shape, attribute_with, call, call_form, is_parallel, item_found, name, new_parameter, next_part, of_array, other_with, part_alone, part_of, parts, reduced_with, site_where, through, value_form, value_named, valued_by, valued_form, wrong_arguments}
use Rattle.name_rules.specs.Reducers.{folded_by, reducer_of}
use Rattle.name_rules.specs.Scope.{stands_for}
use Rattle.name_rules.specs.Symbols.{symbol}
use Rattle.name_rules.specs.TypedParts.{selections_of}
use Rattle.name_rules.specs.Types.{component_of}
use Rattle.name_rules.specs.declared.found.Attribute.{Attribute}
use Rattle.name_rules.specs.declared.found.Attribute.TheVariants as attribute'
use Rattle.name_rules.specs.declared.found.Denoted.TheVariants as denoted
use Rattle.name_rules.specs.declared.found.Denoted.{Denoted as KnownDenoted}
use Rattle.name_rules.specs.declared.found.Folding.{Folding}
use Rattle.name_rules.specs.declared.found.Found.TheVariants as known
use Rattle.name_rules.specs.declared.found.ObjectName.{ObjectName}
use Rattle.name_rules.specs.declared.found.Prefix.TheVariants as prefix
use Rattle.name_rules.specs.declared.found.Prefix.{Prefix}
use Rattle.name_rules.specs.declared.log.Rule.TheVariants.{ReduceRule, WrongType}
use Rattle.name_rules.specs.declared.scope.Context.{Context}
use Rattle.name_rules.specs.declared.scope.Names.{Names}
use Rattle.name_rules.specs.declared.types.Subtype.{Subtype}
use Rattle.name_rules.specs.declared.types.Subtype.TheVariants as subtype
use Rattle.name_rules.specs.declared.types.Wanted.TheVariants as wanted
use Rattle.typed_tree.specs.Syntax.{Iteration}
use Rattle.name_rules.specs.Scope.{item}
use Rattle.name_rules.specs.Types.{cells_in, dimensions_of, shape_in}
use Rattle.name_rules.specs.declared.found.Going.{Going}
use Rattle.name_rules.specs.declared.log.Dimension.{Dimension}
use Rattle.name_rules.specs.declared.log.Log.{Log}
use Rattle.name_rules.specs.declared.log.Shape.{Shape}
use Rattle.name_rules.specs.declared.log.Shape.TheVariants as shape
use Rattle.name_rules.specs.declared.scope.What.TheVariants as what
use Rattle.name_formed.proofs.Forms.{Any, Forms, HasDimensions, Maybe, Sight, Small, World, f-bind, f-both, f-fault, f-given, f-if, f-none, f-pure, f-read, f-some, f-where_clean, mapped, shape_of, w-bind, w-new_parameter, w-pure}
use Rattle.name_formed.proofs.FormsAttributes.{f-attribute_found, f-bound_with, f-scalar_with, f-settled_attribute, mentioned-formed}
use Rattle.name_formed.proofs.FormsCalls.{f-conversion, f-sub_call}
use Rattle.name_formed.proofs.FormsExpressions.{f-expr}
use Rattle.name_formed.proofs.FormsFound.{Around, DenotedOf, DenotesOf, Finding, FoundOf, IterationOf, LevelForms, PlaceOf, PrefixOf, WhatOf}
use Rattle.name_formed.proofs.FormsIterations.{around-later, f-new_site, item-walk, sight}
use Rattle.name_formed.proofs.FormsNames.{f-args_alone, f-field, f-object_call, f-wrong_call}
use Rattle.name_formed.proofs.FormsOutput.{f-io_call}
use Rattle.name_formed.proofs.FormsReducers.{FoldingOf, f-folded_by, f-reducer_of}
use Rattle.name_formed.proofs.FormsScope.{f-stands_for, whole-place}

module _ (W : World) (V : Sight) where
  -- ---- attributes with what stands in brackets behind them

  -- an object of an array type
  abbrev IsArrayAt : ObjectName → Type 0
  IsArrayAt p = (k : ℕ) × (ds : List Dimension) × (c : Subtype) × (j : ℕ) × (cells : ℕ) × (p.subtype ≡ subtype.Composite k) × (slice_get W.shapes k ≡ Some (shape.Array ds c j cells))

  array-of : (p : ObjectName) (k : ℕ) (t : Option Shape) → p.subtype ≡ subtype.Composite k → slice_get W.shapes k ≡ t → nat_lt 0 (length (dimensions_of t)) ≡ true → IsArrayAt p
  array-of p k (Some (shape.Array ds c j cells)) e g h = (k, ds, c, j, cells, e, g)
  array-of p k (Some (shape.Record fs cells)) e g h = absurd (true≢false (sym h))
  array-of p k (Some (shape.Scalar s)) e g h = absurd (true≢false (sym h))
  array-of p k None e g h = absurd (true≢false (sym h))

  array-in : (log : Log) → log.shapes ≡ W.shapes → (p : ObjectName) (t : Subtype) → p.subtype ≡ t → nat_lt 0 (length (dimensions_in log (Some t))) ≡ true → IsArrayAt p
  array-in log g p (subtype.Composite k) e h = array-of p k (shape_in log k) e (ap (λ s. slice_get s k) (sym g)) h
  array-in log g p (subtype.Scalar s) e h = absurd (true≢false (sym h))

  f-site_where : (here : Context) (at : ℕ) (b : Bool) → Forms W V Any (site_where here at b)
  f-site_where here at false = f-pure W V Any None tt
  f-site_where here at true = f-bind W V Any Any (new_site here at site.Reduction) _ (f-new_site W V here at site.Reduction) (λ n q. f-pure W V Any (Some n) tt)

  until : (a b c : ℕ) → a ≤ b → b ≤ c → a ≤ c
  until a b c i j = omega (arith, i, j)

  -- what the iteration over an array is, whose item is of the component's shape
  abbrev ThroughOf : ObjectName → TypedPart → ℕ → ℕ → List Dimension → Subtype → ℕ → Iteration → Type 0
  ThroughOf p x n k ds c cells i =
      (one : ℕ) × HasDimensions W.program k ds c one cells × (i ≡ typed.Components n (not p.variable) p.first p.root (selections_of x) (cells / one) one (length ds) typed.Absent)

  shape-at : (p : ObjectName) (k : ℕ) → p.subtype ≡ subtype.Composite k → (log : Log) → array_shape log p.subtype ≡ shape_in log k
  shape-at p k e log = ap (array_shape log) e

  entry-at : (k : ℕ) (ds : List Dimension) (c : Subtype) (j cells : ℕ) (log : Log) → log.shapes ≡ W.shapes → slice_get W.shapes k ≡ Some (shape.Array ds c j cells) → shape_in log k ≡ Some (shape.Array ds c j cells)
  entry-at k ds c j cells log g h = ap (λ s. slice_get s k) g ∙ h

  through-of : (p : ObjectName) (x : TypedPart) (n k : ℕ) (ds : List Dimension) (c : Subtype) (j cells : ℕ) → PlaceOf W V p x → p.subtype ≡ subtype.Composite k → slice_get W.shapes k ≡ Some (shape.Array ds c j cells)
      → (log : Log) → log.shapes ≡ W.shapes → ThroughOf p x n k ds c cells (through log p (selections_of x) (array_shape log p.subtype) n typed.Absent)
  through-of p x n k ds c j cells h e g log i =
      let t = entry-at k ds c j cells log i g in
      (cells_in log c, W.dimensions log i k ds c j cells t (subst (λ u. Small (shape_of W.program u)) e h.small), ap (λ u. through log p (selections_of x) u n typed.Absent) (shape-at p k e log ∙ t))

  -- the item stands for all of a component
  item-found : (first n : ℕ) (v : Bool) (c : Subtype) (U : Sight) → WhatOf W U (what.Item n c v) → FoundOf W U (item_found first n v (Some c))
  item-found first n v c U h = whole-place W U (item first n c v) h.1 h.2

  f-array_reduction : (names : Names) (inside : Inside) (here : Context) (p : ObjectName) (x : TypedPart) (at : ℕ) (a : Attribute) (r v : Expr) → LevelForms W inside → Around W V here → PlaceOf W V p x → IsArrayAt p
      → Forms W V (Maybe (DenotedOf W V)) (array_reduction names inside here p (selections_of x) at a r v)
  f-array_reduction names inside here p x at a r v l b h y =
      let k = y.0 in let ds = y.1 in let c = y.2 in let cells = y.4 in
      let R : ℕ → Option Denoted → Type 0 = λ m. Maybe (DenotedOf W V) in
      w-bind W V.bound (λ m. Any) R (site_where here p.first (is_parallel a)) _ (f-site_where here p.first (is_parallel a)) (λ construct m1 i1 q1.
      w-bind W m1 (λ m n. (m1 ≤ n) × (suc n ≤ m)) R new_parameter _ (w-new_parameter W m1) (λ n m2 i2 q2.
      w-bind W m2 (λ m. ThroughOf p x n k ds c cells) R (read (λ log. through log p (selections_of x) (array_shape log p.subtype) n typed.Absent)) _
      (f-read W (sight V.known m2) (ThroughOf p x n k ds c cells) (λ log. through log p (selections_of x) (array_shape log p.subtype) n typed.Absent) (through-of p x n k ds c y.3 cells h y.5 y.6)) (λ i m3 i3 q3.
      w-bind W m3 (λ m d. d ≡ Some c) R (read (λ log. component_of (array_shape log p.subtype))) _
      (f-read W (sight V.known m3) (λ d. d ≡ Some c) (λ log. component_of (array_shape log p.subtype)) (λ log g. ap component_of (shape-at p k y.5 log ∙ entry-at k ds c y.3 cells log g y.6))) (λ d m4 i4 q4.
      w-bind W m4 (λ m. Maybe (FoldingOf W V)) R (reducer_of names inside here r) _ (f-reducer_of W (sight V.known m4) names inside here r l (around-later W V.known V.bound m4 here (far4 m1 m2 m3 m4 i1 i2 i3 i4) b)) (λ f m5 i5 q5.
      w-bind W m5 (λ m. Finding W V) R (expr names inside here wanted.Other v) _ (f-expr W (sight V.known m5) names inside here wanted.Other v l (around-later W V.known V.bound m5 here (until V.bound m4 m5 (far4 m1 m2 m3 m4 i1 i2 i3 i4) i5) b)) (λ z m6 i6 q6.
      w-bind W m6 (λ m. Finding W V) R (both f z (λ g. folded_by (record { at = p.first; attribute = at; site = construct }) part.Nothing (part.AnIteration i) g (item_found p.first n p.variable d))) _
      (f-both W (sight V.known m6) (FoldingOf W V) (FoundOf W V) (FoundOf W V) f z (λ g. folded_by (record { at = p.first; attribute = at; site = construct }) part.Nothing (part.AnIteration i) g (item_found p.first n p.variable d)) q5 q6
      (λ g o s t. reduced p x n m6 k ds c cells i d (record { at = p.first; attribute = at; site = construct }) g o h y.5 (until V.bound m1 n i1 q2.0) (until (suc n) m2 m6 q2.1 (far4' m2 m3 m4 m5 m6 i3 i4 i5 i6)) q3 q4 s t)) (λ w m7 i7 q7.
      w-pure W m7 R (option_map value_denoted w) (λ m8 i8. mapped (FoundOf W V) (DenotedOf W V) value_denoted w q7 (λ u t. t)))))))))
    where
      far4 : (m1 m2 m3 m4 : ℕ) → V.bound ≤ m1 → m1 ≤ m2 → m2 ≤ m3 → m3 ≤ m4 → V.bound ≤ m4
      far4 m1 m2 m3 m4 i j k l = omega (arith, i, j, k, l)

      far4' : (m2 m3 m4 m5 m6 : ℕ) → m2 ≤ m3 → m3 ≤ m4 → m4 ≤ m5 → m5 ≤ m6 → m2 ≤ m6
      far4' m2 m3 m4 m5 m6 i j k l = omega (arith, i, j, k, l)

      reduced : (p : ObjectName) (x : TypedPart) (n m k : ℕ) (ds : List Dimension) (c : Subtype) (cells : ℕ) (i : Iteration) (d : Option Subtype) (g : Going) (f : Folding) (o : Found) → PlaceOf W V p x → p.subtype ≡ subtype.Composite k
          → V.bound ≤ n → suc n ≤ m → ThroughOf p x n k ds c cells i → d ≡ Some c → FoldingOf W V f → FoundOf W V o → Forms W (sight V.known m) (Finding W V) (folded_by g part.Nothing (part.AnIteration i) f (item_found p.first n p.variable d) o)
      reduced p x n m k ds c cells i d g f o h e s t q u j v =
          let w = item-walk W V p x n m n syntax.AbsentExpr k ds c q.0 cells s t h e q.1 p.variable refl in
          let U = sight w.known m in
          f-folded_by W (sight V.known m) w.known g part.Nothing (part.AnIteration i) f (item_found p.first n p.variable d) o j tt
          (subst (λ z. IterationOf W V U (part.AnIteration z)) (sym q.2) w.made)
          (subst (λ z. FoundOf W U (item_found p.first n p.variable z)) (sym u) (item-found p.first n p.variable c U w.entry)) v

  f-wrong_arguments : (names : Names) (inside : Inside) (here : Context) (bracket : ℕ) (as' : Args) → LevelForms W inside → Around W V here → Forms W V (Maybe (DenotedOf W V)) (wrong_arguments names inside here bracket as')
  f-wrong_arguments names inside here bracket as' l r = f-where_clean W V Any (DenotedOf W V) (args_alone names inside here as') (λ u. fault bracket WrongType) (f-args_alone W V names inside here as' l r) (λ u q. f-fault W V (DenotedOf W V) bracket WrongType)

  f-array_reduced : (names : Names) (inside : Inside) (here : Context) (p : ObjectName) (x : TypedPart) (at : ℕ) (a : Attribute) (bracket : ℕ) (as' : Args) → LevelForms W inside → Around W V here → PlaceOf W V p x → IsArrayAt p
      → Forms W V (Maybe (DenotedOf W V)) (array_reduced names inside here p (selections_of x) at a bracket as')
  f-array_reduced names inside here p x at a bracket (syntax.AlsoArg (syntax.arg None r) (syntax.AlsoArg (syntax.arg None v) syntax.NoArg)) l b h y = f-array_reduction names inside here p x at a r v l b h y
  f-array_reduced names inside here p x at a bracket as' l b h y = f-wrong_arguments names inside here bracket as' l b

  f-no_array : (names : Names) (inside : Inside) (here : Context) (at : ℕ) (as' : Args) → LevelForms W inside → Around W V here → Forms W V (Maybe (DenotedOf W V)) (where_clean (args_alone names inside here as') (λ u. fault at ReduceRule))
  f-no_array names inside here at as' l r = f-where_clean W V Any (DenotedOf W V) (args_alone names inside here as') (λ u. fault at ReduceRule) (f-args_alone W V names inside here as' l r) (λ u q. f-fault W V (DenotedOf W V) at ReduceRule)

  -- whether a prefix is an array
  abbrev ArrayWhere : Prefix → Bool → Type 0
  ArrayWhere (prefix.Object p) true = IsArrayAt p
  ArrayWhere p b = Unit {0}

  array-where : (log : Log) → log.shapes ≡ W.shapes → (p : Prefix) → ArrayWhere p (is_array_object log p)
  array-where log g (prefix.Object p) = by (is_array_object log (prefix.Object p)) refl
    where
      by : (b : Bool) → is_array_object log (prefix.Object p) ≡ b → ArrayWhere (prefix.Object p) b
      by true e = array-in log g p p.subtype refl e
      by false e = tt
  array-where log g (prefix.Parameter s) = tt
  array-where log g (prefix.Type t) = tt
  array-where log g (prefix.Function n) = tt
  array-where log g prefix.Other = tt

  f-reduced_with : (names : Names) (inside : Inside) (here : Context) (first : ℕ) (p : Prefix) (x : TypedPart) (at : ℕ) (a : Attribute) (bracket : ℕ) (as' : Args) (b : Bool) → LevelForms W inside → Around W V here → PrefixOf W V p x → ArrayWhere p b
      → Forms W V (Maybe (DenotedOf W V)) (reduced_with names inside here first p x at a bracket as' b)
  f-reduced_with names inside here first (prefix.Object p) x at a bracket as' true l r h y = f-array_reduced names inside here p x at a bracket as' l r h y
  f-reduced_with names inside here first p x at a bracket as' b l r h y = f-no_array names inside here at as' l r

  f-of_array : (names : Names) (inside : Inside) (here : Context) (first : ℕ) (p : Prefix) (x : TypedPart) (at : ℕ) (a : Attribute) (bracket : ℕ) (as' : Args) → LevelForms W inside → Around W V here → PrefixOf W V p x → Forms W V (Maybe (DenotedOf W V)) (of_array names inside here first p x at a bracket as')
  f-of_array names inside here first p x at a bracket as' l r h =
      f-if W V (Maybe (DenotedOf W V)) (is_bound a) (read (λ log. dimensions_in log (prefix_subtype p)) >>= bound_with names inside here first (mentioned p x) a bracket as') (wrong_call names inside here first as')
      (f-bind W V Any (Maybe (DenotedOf W V)) (read (λ log. dimensions_in log (prefix_subtype p))) (bound_with names inside here first (mentioned p x) a bracket as') (f-read W V Any (λ log. dimensions_in log (prefix_subtype p)) (λ log g. tt)) (λ ds q.
      f-bound_with W V names inside here first (mentioned p x) a bracket as' ds l r (mentioned-formed W V p x h)))
      (f-wrong_call W V names inside here first as' l r)

  f-other_with : (names : Names) (inside : Inside) (here : Context) (first : ℕ) (p : Prefix) (x : TypedPart) (at : ℕ) (a : Attribute) (bracket : ℕ) (as' : Args) → LevelForms W inside → Around W V here → PrefixOf W V p x → Forms W V (Maybe (DenotedOf W V)) (other_with names inside here first p x at a bracket as')
  f-other_with names inside here first (prefix.Type (subtype.Scalar s)) x at a bracket as' l r h = f-scalar_with W V names inside here first s a bracket as' l r
  f-other_with names inside here first p x at a bracket as' l r h = f-of_array names inside here first p x at a bracket as' l r h

  f-attribute_with : (names : Names) (inside : Inside) (here : Context) (first : ℕ) (p : Prefix) (x : TypedPart) (at : ℕ) (a : Attribute) (bracket : ℕ) (as' : Args) → LevelForms W inside → Around W V here → PrefixOf W V p x → Forms W V (Maybe (DenotedOf W V)) (attribute_with names inside here first p x at a bracket as')
  f-attribute_with names inside here first p x at a bracket as' l r h =
      f-if W V (Maybe (DenotedOf W V)) (is_reduction a) (read (λ log. is_array_object log p) >>= reduced_with names inside here first p x at a bracket as') (other_with names inside here first p x at a bracket as')
      (f-bind W V (ArrayWhere p) (Maybe (DenotedOf W V)) (read (λ log. is_array_object log p)) (reduced_with names inside here first p x at a bracket as') (f-read W V (ArrayWhere p) (λ log. is_array_object log p) (λ log g. array-where log g p)) (λ b q. f-reduced_with names inside here first p x at a bracket as' b l r h q))
      (f-other_with names inside here first p x at a bracket as' l r h)

  -- ---- whole names

  f-call_form : (names : Names) (inside : Inside) (here : Context) (bracket : ℕ) (as' : Args) (k : KnownDenoted) (x : TypedPart) → LevelForms W inside → Around W V here → DenotesOf W V k x → Forms W V (Maybe (DenotedOf W V)) (call_form names inside here bracket as' k x)
  f-call_form names inside here bracket as' (denoted.Value (known.Object p)) x l r h = f-object_call W V names inside here p x bracket as' p.subtype l r h refl
  f-call_form names inside here bracket as' (denoted.Type first s) x l r h = f-conversion W V names inside here bracket first s as' l r
  f-call_form names inside here bracket as' (denoted.Sub first last n) x l r h = f-sub_call W V names inside here bracket first last n as' l r h
  f-call_form names inside here bracket as' (denoted.Io first last p reach) x l r h = f-io_call W V names inside here bracket first last p reach as' l r
  f-call_form names inside here bracket as' (denoted.Attribute first p at a) x l r h = f-attribute_with names inside here first p x at a bracket as' l r h
  f-call_form names inside here bracket as' k x l r h = f-wrong_call W V names inside here (denoted_first k) as' l r

  f-part_of : (names : Names) (inside : Inside) (here : Context) (x : syntax.NamePart) (d : Denoted) → LevelForms W inside → Around W V here → DenotedOf W V d → Forms W V (Maybe (DenotedOf W V)) (part_of names inside here x d)
  unfolding part_of call
  f-part_of names inside here (syntax.Field at) d l r h = f-bind W V (Maybe (DenotedOf W V)) (Maybe (DenotedOf W V)) (settled_attribute d) _ (f-settled_attribute W V d h) (λ x q. f-given W V (DenotedOf W V) (DenotedOf W V) x (field names here at) q (λ e s. f-field W V names here at e s))
  f-part_of names inside here (syntax.Call bracket a as') d l r h = f-call_form names inside here bracket (syntax.AlsoArg a as') d.known d.part l r h
  f-part_of names inside here (syntax.Attribute at) d l r h =
      f-bind W V (Maybe (DenotedOf W V)) (Maybe (DenotedOf W V)) (settled_attribute d) _ (f-settled_attribute W V d h) (λ x q. f-given W V (DenotedOf W V) (DenotedOf W V) x _ q (λ e s. f-attribute_found W V e at (attribute_at (symbol names at)) s))
  f-part_of names inside here (syntax.RangeAttribute at) d l r h =
      f-bind W V (Maybe (DenotedOf W V)) (Maybe (DenotedOf W V)) (settled_attribute d) _ (f-settled_attribute W V d h) (λ x q. f-given W V (DenotedOf W V) (DenotedOf W V) x _ q (λ e s. f-attribute_found W V e at (Some attribute'.Range) s))

  f-part_alone : (names : Names) (inside : Inside) (here : Context) (x : syntax.NamePart) → LevelForms W inside → Around W V here → Forms W V (Maybe (DenotedOf W V)) (part_alone names inside here x)
  f-part_alone names inside here (syntax.Call bracket a as') l r = f-bind W V Any (Maybe (DenotedOf W V)) (args_alone names inside here (syntax.AlsoArg a as')) _ (f-args_alone W V names inside here (syntax.AlsoArg a as') l r) (λ u q. f-none W V (DenotedOf W V))
  f-part_alone names inside here x l r = f-none W V (DenotedOf W V)

  f-next_part : (names : Names) (inside : Inside) (here : Context) (d : Option Denoted) (x : syntax.NamePart) → LevelForms W inside → Around W V here → Maybe (DenotedOf W V) d → Forms W V (Maybe (DenotedOf W V)) (next_part names inside here d x)
  f-next_part names inside here None x l r h = f-part_alone names inside here x l r
  f-next_part names inside here (Some d) x l r h = f-part_of names inside here x d l r h

  f-parts : (names : Names) (inside : Inside) (here : Context) (d : Option Denoted) (ps : NameParts) → LevelForms W inside → Around W V here → Maybe (DenotedOf W V) d → Forms W V (Maybe (DenotedOf W V)) (parts names inside here d ps)
  f-parts names inside here d syntax.NoPart l r h = f-pure W V (Maybe (DenotedOf W V)) d h
  f-parts names inside here d (syntax.AlsoPart x ps) l r h = f-bind W V (Maybe (DenotedOf W V)) (Maybe (DenotedOf W V)) (next_part names inside here d x) _ (f-next_part names inside here d x l r h) (λ e q. f-parts names inside here e ps l r q)

  pub f-name : (names : Names) (inside : Inside) (here : Context) (x : Name) → LevelForms W inside → Around W V here → Forms W V (Maybe (DenotedOf W V)) (name names inside here x)
  unfolding name
  f-name names inside here (syntax.name first ps) l r =
      f-bind W V (Maybe (DenotedOf W V)) (Maybe (DenotedOf W V)) (stands_for names here first) _ (f-stands_for W V names here first r) (λ d q.
      f-bind W V (Maybe (DenotedOf W V)) (Maybe (DenotedOf W V)) (parts names inside here d ps) _ (f-parts names inside here d ps l r q) (λ e s. f-given W V (DenotedOf W V) (DenotedOf W V) e settled_attribute s (λ x t. f-settled_attribute W V x t)))

  f-valued_form : (names : Names) (inside : Inside) (here : Context) (k : KnownDenoted) (x : TypedPart) → LevelForms W inside → Around W V here → DenotesOf W V k x → Forms W V (Maybe (DenotedOf W V)) (valued_form names inside here k x)
  f-valued_form names inside here (denoted.Sub first last n) x l r h = f-sub_call W V names inside here first first last n syntax.NoArg l r h
  f-valued_form names inside here (denoted.Io first last p reach) x l r h = f-io_call W V names inside here first first last p reach syntax.NoArg l r
  f-valued_form names inside here k x l r h = f-some W V (DenotedOf W V) (denote k x) h

  pub f-valued_by : (names : Names) (inside : Inside) (here : Context) (d : Denoted) → LevelForms W inside → Around W V here → DenotedOf W V d → Forms W V (Maybe (DenotedOf W V)) (valued_by names inside here d)
  unfolding valued_by
  f-valued_by names inside here d l r h = f-valued_form names inside here d.known d.part l r h

  f-value_form : (k : KnownDenoted) (x : TypedPart) → DenotesOf W V k x → Forms W V (Finding W V) (value_form k x)
  f-value_form (denoted.Value f) x h = f-some W V (FoundOf W V) (record { known = f; part = x }) h
  f-value_form (denoted.Parameter first s) x h = f-some W V (FoundOf W V) (parameter_found first s x) h
  f-value_form k x h = f-fault W V (FoundOf W V) (denoted_first k) WrongType

  pub f-value_named : (names : Names) (inside : Inside) (here : Context) (x : Name) → LevelForms W inside → Around W V here → Forms W V (Finding W V) (value_named names inside here x)
  unfolding value_named
  f-value_named names inside here x l r =
      f-bind W V (Maybe (DenotedOf W V)) (Finding W V) (name names inside here x) _ (f-name names inside here x l r) (λ d q.
      f-bind W V (Maybe (DenotedOf W V)) (Finding W V) (given d (valued_by names inside here)) _ (f-given W V (DenotedOf W V) (DenotedOf W V) d (valued_by names inside here) q (λ y s. f-valued_by names inside here y l r s)) (λ e t.
      f-given W V (DenotedOf W V) (FoundOf W V) e _ t (λ y s. f-value_form y.known y.part s)))
