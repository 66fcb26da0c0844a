-- What is found is formed: parts of names, where what stands in their brackets is formed.
use Rattle.std.proofs.Common.{◌≡◌, refl, sym, ap, subst, ◌∙◌, ℕ, suc, List, [], ◌∷◌, length, Option, Some, None, ◌==◌, ◌+◌, drop, map, slice_get, eqb-true, arith}
use Rattle.ada_meaning.specs.Formed.{FormedSelections, Selects}
use Rattle.ada_meaning.specs.Shapes.{FieldAt, Shapes, array_of, size, subtype_shape}
use Rattle.ada_meaning.specs.Shapes as shapes
use Rattle.syntax_tree.specs.Syntax as syntax
use Rattle.syntax_tree.specs.Syntax.{Arg, Args}
use Rattle.typed_tree.specs.Decoded as part
use Rattle.typed_tree.specs.Decoded.{TypedPart, Cons, as_expr, as_selections}
use Rattle.typed_tree.specs.Syntax as typed
use Rattle.name_rules.specs.Expressions.{Inside, expr, judged_alone}
use Rattle.name_rules.specs.Found.{Denoted, Found, denote}
use Rattle.name_rules.specs.Judging.{fault, given, joined, pure}
use Rattle.name_rules.specs.Names.{arg_alone, args_alone, array_call, component_cells, count, denoted_first, field, field_form, field_from, field_in, field_of, index, index_in, index_shape, index_where, indexed, indexes, is_string, object_call, part_place, selected_by, unnamed, wrong_call}
use Rattle.name_rules.specs.Resolved.{dimension_bounds}
use Rattle.name_rules.specs.Shapes.{primary_of_expr}
use Rattle.name_rules.specs.Symbols.{symbol}
use Rattle.name_rules.specs.TypedParts.{also}
use Rattle.name_rules.specs.Types.{cells_in, component_of, shape_in, stride}
use Rattle.name_rules.specs.Values.{asked, first_of}
use Rattle.name_rules.specs.declared.found.Denoted.TheVariants as denoted
use Rattle.name_rules.specs.declared.found.Denoted.{Denoted as KnownDenoted}
use Rattle.name_rules.specs.declared.found.Found.TheVariants as known
use Rattle.name_rules.specs.declared.found.ObjectName.{ObjectName}
use Rattle.name_rules.specs.declared.log.Dimension.{Dimension}
use Rattle.name_rules.specs.declared.log.Field.{Field}
use Rattle.name_rules.specs.declared.log.Log.{Log}
use Rattle.name_rules.specs.declared.log.Rule.TheVariants.{Unknown, WrongType}
use Rattle.name_rules.specs.declared.log.Shape.{Shape as Entry}
use Rattle.name_rules.specs.declared.log.Shape.TheVariants as entry
use Rattle.name_rules.specs.declared.scope.Context.{Context}
use Rattle.name_rules.specs.declared.scope.Names.{Names}
use Rattle.name_rules.specs.declared.types.Subtype.{Subtype}
use Rattle.name_rules.specs.declared.types.Subtype.TheVariants as subtype
use Rattle.name_rules.specs.declared.types.Wanted.TheVariants as wanted
use Rattle.name_formed.proofs.Forms.{Any, AreStrides, Forms, HasDimensions, HasFields, Maybe, Sight, Small, World, f-bind, f-fault, f-given, f-if, f-none, f-pure, f-some, f-test, f-weaken, f-where_clean, joint, shape_of}
use Rattle.name_formed.proofs.FormsExpressions.{f-expr, f-judged_alone}
use Rattle.name_formed.proofs.FormsFound.{Around, DenotedOf, DenotesOf, ExprOf, Finding, FoundOf, LevelForms, PathOf, PlaceOf}
use Rattle.name_formed.proofs.FormsScope.{f-selected}
use Rattle.name_formed.proofs.FormsValues.{f-asked}

module _ (W : World) (V : Sight) where
  -- ---- arguments that are judged for themselves alone

  f-arg_alone : (names : Names) (inside : Inside) (here : Context) (a : Arg) → LevelForms W inside → Around W V here → Forms W V Any (arg_alone names inside here a)
  f-arg_alone names inside here (syntax.arg name e) l r = f-if W V Any (is_string (primary_of_expr e)) (pure tt) (judged_alone names inside here e) (f-pure W V Any tt tt) (f-judged_alone W V names inside here e l r)

  pub f-args_alone : (names : Names) (inside : Inside) (here : Context) (as' : Args) → LevelForms W inside → Around W V here → Forms W V Any (args_alone names inside here as')
  f-args_alone names inside here syntax.NoArg l r = f-pure W V Any tt tt
  f-args_alone names inside here (syntax.AlsoArg a as') l r = f-bind W V Any Any (arg_alone names inside here a) _ (f-arg_alone names inside here a l r) (λ u q. f-args_alone names inside here as' l r)

  pub f-wrong_call : (names : Names) (inside : Inside) (here : Context) (first : ℕ) (as' : Args) → LevelForms W inside → Around W V here → Forms W V (Maybe (DenotedOf W V)) (wrong_call names inside here first as')
  unfolding wrong_call
  f-wrong_call names inside here first as' l r =
      f-where_clean W V Any (DenotedOf W V) (args_alone names inside here as') (λ u. fault first WrongType) (f-args_alone names inside here as' l r) (λ u q. f-fault W V (DenotedOf W V) first WrongType)

  -- ---- one selection more

  -- a selection leads from one shape to another, before those behind it
  abbrev StepOf : shapes.Shape → shapes.Shape → TypedPart → Type 0
  StepOf t u item =
      (r : TypedPart) (v : shapes.Shape) → Selects (as_selections r) u v → FormedSelections W.program V.known (as_selections r)
      → Selects (as_selections (Cons item r)) t v × FormedSelections W.program V.known (as_selections (Cons item r))

  path-more : (whole t u : shapes.Shape) (ss item : TypedPart) → PathOf W V whole t ss → StepOf t u item → PathOf W V whole u (also ss item)
  path-more whole t u ss item h step r v s f = let k = step r v s f in h (Cons item r) v k.0 k.1

  part-of : (p : ObjectName) (ss x : TypedPart) (u : Subtype) (h : PlaceOf W V p ss) → PathOf W V h.whole (shape_of W.program u) x → Small (shape_of W.program u) → DenotedOf W V (denote (part_place p u) x)
  part-of p ss x u h path small = record { whole = h.whole; root = h.root; path = path; small = small; static = λ z e. absurd cc }

  -- ---- selected components

  abbrev AreFields : Shapes → ℕ → List Field → Type 0
  AreFields us i fs = (j : ℕ) (f : Field) → slice_get fs j ≡ Some f → FieldAt us (i + j) f.offset (shape_of W.program f.subtype) × Small (shape_of W.program f.subtype)

  field-step : (us : Shapes) (i : ℕ) (f : Field) → FieldAt us i f.offset (shape_of W.program f.subtype) → StepOf (shapes.Record us) (shape_of W.program f.subtype) (part.ASelection (typed.Field i f.offset))
  field-step us i f h r v s g = ((shape_of W.program f.subtype, h, s), g)

  f-field_from : (names : Names) (p : ObjectName) (ss : TypedPart) (at i : ℕ) (us : Shapes) (fs : List Field) (h : PlaceOf W V p ss) → shape_of W.program p.subtype ≡ shapes.Record us → AreFields us i fs
      → Forms W V (Maybe (DenotedOf W V)) (field_from names p ss at i fs)
  f-field_from names p ss at i us [] h e k = f-fault W V (DenotedOf W V) at Unknown
  f-field_from names p ss at i us (f ∷ fs) h e k =
      f-if W V (Maybe (DenotedOf W V)) (f.symbol == symbol names at) _ (field_from names p ss at (i + 1) fs)
      (f-some W V (DenotedOf W V) (denote (part_place p f.subtype) (also ss (part.ASelection (typed.Field i f.offset))))
      (part-of p ss (also ss (part.ASelection (typed.Field i f.offset))) f.subtype h
      (path-more h.whole (shape_of W.program p.subtype) (shape_of W.program f.subtype) ss (part.ASelection (typed.Field i f.offset)) h.path step) (k 0 f refl).1))
      (f-field_from names p ss at (i + 1) us fs h e later)
    where
      none : i + 0 ≡ i
      none = omega arith

      step : StepOf (shape_of W.program p.subtype) (shape_of W.program f.subtype) (part.ASelection (typed.Field i f.offset))
      step = subst (λ t. StepOf t (shape_of W.program f.subtype) (part.ASelection (typed.Field i f.offset))) (sym e)
          (field-step us i f (subst (λ n. FieldAt us n f.offset (shape_of W.program f.subtype)) none (k 0 f refl).0))

      moved : (j : ℕ) → i + suc j ≡ i + 1 + j
      moved j = omega arith

      later : AreFields us (i + 1) fs
      later j g d = let x = k (suc j) g d in (subst (λ n. FieldAt us n g.offset (shape_of W.program g.subtype)) (moved j) x.0, x.1)

  f-field_in : (names : Names) (p : ObjectName) (ss : TypedPart) (at n : ℕ) (t : Option Entry) → PlaceOf W V p ss → p.subtype ≡ subtype.Composite n → ((fs : List Field) (cells : ℕ) → t ≡ Some (entry.Record fs cells) → HasFields W.program n fs)
      → Forms W V (Maybe (DenotedOf W V)) (field_in names p ss at t)
  f-field_in names p ss at n (Some (entry.Record fs cells)) h e k =
      let x = k fs cells refl in
      f-field_from names p ss at 0 x.parts fs h (ap (shape_of W.program) e ∙ x.shape) (λ j f d. subst (λ m. FieldAt x.parts m f.offset (shape_of W.program f.subtype) × Small (shape_of W.program f.subtype)) (none j) (x.at j f d))
    where
      none : (j : ℕ) → j ≡ 0 + j
      none j = omega arith
  f-field_in names p ss at n (Some (entry.Scalar s)) h e k = f-fault W V (DenotedOf W V) p.first WrongType
  f-field_in names p ss at n (Some (entry.Array ds c m cells)) h e k = f-fault W V (DenotedOf W V) p.first WrongType
  f-field_in names p ss at n None h e k = f-fault W V (DenotedOf W V) p.first WrongType

  small-at : (p : ObjectName) (ss : TypedPart) (n : ℕ) → PlaceOf W V p ss → p.subtype ≡ subtype.Composite n → Small (subtype_shape W.program n)
  small-at p ss n h e = subst (λ t. Small (shape_of W.program t)) e h.small

  f-field_of : (names : Names) (p : ObjectName) (ss : TypedPart) (at : ℕ) (t : Subtype) → PlaceOf W V p ss → p.subtype ≡ t → Forms W V (Maybe (DenotedOf W V)) (field_of names p ss at t)
  f-field_of names p ss at (subtype.Composite n) h e =
      record { at = λ log g l. (f-field_in names p ss at n (shape_in log n) h e (λ fs cells d. W.fields log g n fs cells d (small-at p ss n h e))).at log g l }
  f-field_of names p ss at (subtype.Scalar s) h e = f-fault W V (DenotedOf W V) p.first WrongType

  f-field_form : (names : Names) (here : Context) (at : ℕ) (k : KnownDenoted) (x : TypedPart) → DenotesOf W V k x → Forms W V (Maybe (DenotedOf W V)) (field_form names here at k x)
  f-field_form names here at (denoted.Package first library) x h = f-selected W V names here first library at
  f-field_form names here at (denoted.Value (known.Object p)) x h = f-field_of names p x at p.subtype h refl
  f-field_form names here at k x h = f-fault W V (DenotedOf W V) (denoted_first k) WrongType

  pub f-field : (names : Names) (here : Context) (at : ℕ) (d : Denoted) → DenotedOf W V d → Forms W V (Maybe (DenotedOf W V)) (field names here at d)
  unfolding field
  f-field names here at d h = f-field_form names here at d.known d.part h

  -- ---- indexed components

  -- what an index leaves of dimensions
  abbrev LeadsOf : shapes.Shape → Subtype → List Dimension → TypedPart → Type 0
  LeadsOf whole c ds x = PathOf W V whole (array_of (map dimension_bounds ds) (shape_of W.program c)) x

  index-step : (at apart : ℕ) (d : Dimension) (t : shapes.Shape) (e : TypedPart) → apart ≡ size t → ExprOf W V e → StepOf (shapes.Dimension d.low d.high t) t (part.ASelection (typed.Index at (as_expr e) d.low d.high apart))
  index-step at apart d t e g h r v s f = ((refl, refl, g, s), (h, f))

  selected-by : (whole : shapes.Shape) (c : Subtype) (at : ℕ) (d : Dimension) (ds : List Dimension) (apart : ℕ) (ss e : TypedPart) → apart ≡ size (array_of (map dimension_bounds ds) (shape_of W.program c)) → LeadsOf whole c (d ∷ ds) ss → ExprOf W V e
      → LeadsOf whole c ds (selected_by at d apart ss e)
  selected-by whole c at d ds apart ss e g h k =
      let t = array_of (map dimension_bounds ds) (shape_of W.program c) in
      path-more whole (shapes.Dimension d.low d.high t) t ss (part.ASelection (typed.Index at (as_expr e) d.low d.high apart)) h (index-step at apart d t e g k)

  f-index_in : (whole : shapes.Shape) (c : Subtype) (d : Dimension) (ds : List Dimension) (apart : ℕ) (made : Option TypedPart) (f : Found) → apart ≡ size (array_of (map dimension_bounds ds) (shape_of W.program c))
      → Maybe (LeadsOf whole c (d ∷ ds)) made → FoundOf W V f → Forms W V (Maybe (LeadsOf whole c ds)) (index_in (Some d) apart made f)
  f-index_in whole c d ds apart made f i g h =
      f-bind W V (Maybe (ExprOf W V)) (Maybe (LeadsOf whole c ds)) (asked d.kind f) _ (f-asked W V d.kind f h) (λ e q.
      f-pure W V (Maybe (LeadsOf whole c ds)) (joined (selected_by (first_of f.known) d apart) made e)
      (joint (LeadsOf whole c (d ∷ ds)) (ExprOf W V) (LeadsOf whole c ds) (selected_by (first_of f.known) d apart) made e g q (λ x y s t. selected-by whole c (first_of f.known) d ds apart x y i s t)))

  f-index_where : (whole : shapes.Shape) (c : Subtype) (ds : List Dimension) (cells : ℕ) (made : Option TypedPart) (x : Option Found) → AreStrides ds cells (shape_of W.program c)
      → Maybe (LeadsOf whole c ds) made → Finding W V x → Forms W V (Maybe (LeadsOf whole c (drop 1 ds))) (index_where (slice_get ds 0) (stride ds cells) made x)
  f-index_where whole c ds cells made None i g h = f-none W V (LeadsOf whole c (drop 1 ds))
  f-index_where whole c [] cells made (Some f) i g h = f-pure W V (Maybe (LeadsOf whole c [])) made g
  f-index_where whole c (d ∷ ds) cells made (Some f) i g h = f-index_in whole c d ds (stride (d ∷ ds) cells) made f i.0 g h

  f-unnamed : {A : Type 0} (Q : A → Type 0) (n : Option ℕ) (x : Option A) → Maybe Q x → Forms W V (Maybe Q) (unnamed n x)
  f-unnamed Q None x h = f-pure W V (Maybe Q) x h
  f-unnamed Q (Some n) x h = f-fault W V Q n WrongType

  f-index : (names : Names) (inside : Inside) (here : Context) (whole : shapes.Shape) (c : Subtype) (ds : List Dimension) (cells : ℕ) (made : Option TypedPart) (a : Arg) → LevelForms W inside → Around W V here → AreStrides ds cells (shape_of W.program c)
      → Maybe (LeadsOf whole c ds) made → Forms W V (Maybe (LeadsOf whole c (drop 1 ds))) (index names inside here ds cells made a)
  unfolding index
  f-index names inside here whole c ds cells made (syntax.arg name e) l r i g =
      f-bind W V (Finding W V) (Maybe (LeadsOf whole c (drop 1 ds))) (expr names inside here wanted.Other e) _ (f-expr W V names inside here wanted.Other e l r) (λ x q.
      f-bind W V (Maybe (LeadsOf whole c (drop 1 ds))) (Maybe (LeadsOf whole c (drop 1 ds))) (index_where (slice_get ds 0) (stride ds cells) made x) _ (f-index_where whole c ds cells made x i g q) (λ s t. f-unnamed (LeadsOf whole c (drop 1 ds)) name s t))

  later-strides : (ds : List Dimension) (cells : ℕ) (t : shapes.Shape) → AreStrides ds cells t → AreStrides (drop 1 ds) cells t
  later-strides [] cells t h = tt
  later-strides (d ∷ ds) cells t h = h.1

  -- as many indexes as dimensions lead to a component
  abbrev AllOf : shapes.Shape → Subtype → List Dimension → ℕ → TypedPart → Type 0
  AllOf whole c ds n x = n ≡ length ds → PathOf W V whole (shape_of W.program c) x

  none-left : (whole : shapes.Shape) (c : Subtype) (ds : List Dimension) (x : TypedPart) → LeadsOf whole c ds x → AllOf whole c ds 0 x
  none-left whole c [] x h e = h
  none-left whole c (d ∷ ds) x h e = absurd cc

  one-more : (whole : shapes.Shape) (c : Subtype) (ds : List Dimension) (n : ℕ) (x : TypedPart) → AllOf whole c (drop 1 ds) n x → AllOf whole c ds (n + 1) x
  one-more whole c [] n x h e = absurd (no n e)
    where
      no : (n : ℕ) → n + 1 ≡ 0 → ⊥
      no n e = omega (arith, e)
  one-more whole c (d ∷ ds) n x h e = h (less n (length ds) e)
    where
      less : (n m : ℕ) → n + 1 ≡ suc m → n ≡ m
      less n m e = omega (arith, e)

  maybe-map : {A : Type 0} (Q R : A → Type 0) (x : Option A) → ((a : A) → Q a → R a) → Maybe Q x → Maybe R x
  maybe-map Q R None f h = tt
  maybe-map Q R (Some a) f h = f a h

  f-indexes : (names : Names) (inside : Inside) (here : Context) (whole : shapes.Shape) (c : Subtype) (ds : List Dimension) (cells : ℕ) (made : Option TypedPart) (as' : Args) → LevelForms W inside → Around W V here → AreStrides ds cells (shape_of W.program c)
      → Maybe (LeadsOf whole c ds) made → Forms W V (Maybe (AllOf whole c ds (count as'))) (indexes names inside here ds cells made as')
  f-indexes names inside here whole c ds cells made syntax.NoArg l r i g = f-pure W V (Maybe (AllOf whole c ds 0)) made (maybe-map (LeadsOf whole c ds) (AllOf whole c ds 0) made (none-left whole c ds) g)
  f-indexes names inside here whole c ds cells made (syntax.AlsoArg a as') l r i g =
      f-bind W V (Maybe (LeadsOf whole c (drop 1 ds))) (Maybe (AllOf whole c ds (count as' + 1))) (index names inside here ds cells made a) _ (f-index names inside here whole c ds cells made a l r i g) (λ s q.
      f-weaken W V (Maybe (AllOf whole c (drop 1 ds) (count as'))) (Maybe (AllOf whole c ds (count as' + 1))) (indexes names inside here (drop 1 ds) cells s as')
      (f-indexes names inside here whole c (drop 1 ds) cells s as' l r (later-strides ds cells (shape_of W.program c) i) q)
      (λ x. maybe-map (AllOf whole c (drop 1 ds) (count as')) (AllOf whole c ds (count as' + 1)) x (one-more whole c ds (count as'))))

  f-indexed : (p : ObjectName) (ss : TypedPart) (bracket : ℕ) (given : ℕ) (ds : List Dimension) (c : Subtype) (x : TypedPart) (h : PlaceOf W V p ss) → Small (shape_of W.program c) → AllOf h.whole c ds given x
      → Forms W V (Maybe (DenotedOf W V)) (indexed p bracket (length ds) given (Some c) x)
  f-indexed p ss bracket given ds c x h small g =
      f-test W V (Maybe (DenotedOf W V)) (length ds == given) _ (fault bracket WrongType) (λ q. f-some W V (DenotedOf W V) (denote (part_place p c) x) (part-of p ss x c h (g (sym (eqb-true (length ds) given q))) small)) (f-fault W V (DenotedOf W V) bracket WrongType)

  f-index_shape : (names : Names) (inside : Inside) (here : Context) (p : ObjectName) (ss : TypedPart) (bracket : ℕ) (as' : Args) (n : ℕ) (ds : List Dimension) (c : Subtype) (k one cells : ℕ) → LevelForms W inside → Around W V here → PlaceOf W V p ss → p.subtype ≡ subtype.Composite n
      → HasDimensions W.program n ds c one cells → Forms W V (Maybe (DenotedOf W V)) (index_shape names inside here p ss bracket as' (Some (entry.Array ds c k cells)) one)
  f-index_shape names inside here p ss bracket as' n ds c k one cells l r h e x =
      f-where_clean W V (Maybe (AllOf h.whole c ds (count as'))) (DenotedOf W V) (indexes names inside here ds one (Some ss) as') _
      (f-indexes names inside here h.whole c ds one (Some ss) as' l r x.strides (subst (λ t. PathOf W V h.whole t ss) (ap (shape_of W.program) e ∙ x.shape) h.path)) (λ y q.
      f-given W V (AllOf h.whole c ds (count as')) (DenotedOf W V) y _ q (λ z s. f-indexed p ss bracket (count as') ds c z h x.small s))

  f-array_call : (names : Names) (inside : Inside) (here : Context) (p : ObjectName) (ss : TypedPart) (bracket : ℕ) (as' : Args) (n : ℕ) (log : Log) (t : Option Entry) → LevelForms W inside → Around W V here → PlaceOf W V p ss → p.subtype ≡ subtype.Composite n
      → ((ds : List Dimension) (c : Subtype) (k cells : ℕ) → t ≡ Some (entry.Array ds c k cells) → HasDimensions W.program n ds c (cells_in log c) cells)
      → Forms W V (Maybe (DenotedOf W V)) (array_call names inside here p ss bracket as' t (component_cells log (component_of t)))
  f-array_call names inside here p ss bracket as' n log (Some (entry.Array ds c k cells)) l r h e x = f-index_shape names inside here p ss bracket as' n ds c k (cells_in log c) cells l r h e (x ds c k cells refl)
  f-array_call names inside here p ss bracket as' n log (Some (entry.Record fs cells)) l r h e x = f-wrong_call names inside here p.first as' l r
  f-array_call names inside here p ss bracket as' n log (Some (entry.Scalar s)) l r h e x = f-wrong_call names inside here p.first as' l r
  f-array_call names inside here p ss bracket as' n log None l r h e x = f-wrong_call names inside here p.first as' l r

  pub f-object_call : (names : Names) (inside : Inside) (here : Context) (p : ObjectName) (ss : TypedPart) (bracket : ℕ) (as' : Args) (t : Subtype) → LevelForms W inside → Around W V here → PlaceOf W V p ss → p.subtype ≡ t
      → Forms W V (Maybe (DenotedOf W V)) (object_call names inside here p ss bracket as' t)
  unfolding object_call
  f-object_call names inside here p ss bracket as' (subtype.Composite n) l r h e =
      record { at = λ log g m. (f-array_call names inside here p ss bracket as' n log (shape_in log n) l r h e (λ ds c k cells d. W.dimensions log g n ds c k cells d (small-at p ss n h e))).at log g m }
  f-object_call names inside here p ss bracket as' (subtype.Scalar s) l r h e = f-wrong_call names inside here p.first as' l r
