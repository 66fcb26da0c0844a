-- What is found is in scope: parts of names, where what stands in their brackets is in scope.
use Rattle.std.proofs.Common.{◌≡◌, refl, subst, ℕ, suc, List, [], ◌∷◌, length, Option, Some, None, ◌==◌, ◌+◌, drop, slice_get}
use Rattle.name_scopes.proofs.Seen.{SeenSelections}
use Rattle.ada_meaning.specs.Shapes.{size, subtype_shape}
use Rattle.syntax_tree.specs.Syntax as syntax
use Rattle.syntax_tree.specs.Syntax.{Arg, Args}
use Rattle.typed_tree.specs.Decoded as part
use Rattle.typed_tree.specs.Decoded.{TypedPart, Cons, as_expr, as_selections}
use Rattle.typed_tree.specs.Syntax as typed
use Rattle.name_rules.specs.Expressions.{Inside, expr, judged_alone}
use Rattle.name_rules.specs.Found.{Denoted, Found, denote}
use Rattle.name_rules.specs.Judging.{fault, given, joined, pure}
use Rattle.name_rules.specs.Names.{arg_alone, args_alone, array_call, component_cells, count, denoted_first, field, field_form, field_from, field_in, field_of, index, index_in, index_shape, index_where, indexed, indexes, is_string, object_call, part_place, selected_by, unnamed, wrong_call}
use Rattle.name_rules.specs.Shapes.{primary_of_expr}
use Rattle.name_rules.specs.Symbols.{symbol}
use Rattle.name_rules.specs.TypedParts.{also}
use Rattle.name_rules.specs.Types.{cells_in, component_of, shape_in, stride}
use Rattle.name_rules.specs.Values.{asked, first_of}
use Rattle.name_rules.specs.declared.found.Denoted.TheVariants as denoted
use Rattle.name_rules.specs.declared.found.Denoted.{Denoted as KnownDenoted}
use Rattle.name_rules.specs.declared.found.Found.TheVariants as known
use Rattle.name_rules.specs.declared.found.ObjectName.{ObjectName}
use Rattle.name_rules.specs.declared.log.Dimension.{Dimension}
use Rattle.name_rules.specs.declared.log.Field.{Field}
use Rattle.name_rules.specs.declared.log.Log.{Log}
use Rattle.name_rules.specs.declared.log.Rule.TheVariants.{Unknown, WrongType}
use Rattle.name_rules.specs.declared.log.Shape.{Shape as Entry}
use Rattle.name_rules.specs.declared.log.Shape.TheVariants as entry
use Rattle.name_rules.specs.declared.scope.Context.{Context}
use Rattle.name_rules.specs.declared.scope.Names.{Names}
use Rattle.name_rules.specs.declared.types.Subtype.{Subtype}
use Rattle.name_rules.specs.declared.types.Subtype.TheVariants as subtype
use Rattle.name_rules.specs.declared.types.Wanted.TheVariants as wanted
use Rattle.name_laws.proofs.CellsCounted.{HaveValues}
use Rattle.name_formed.proofs.Forms.{HasDimensions, HasFields, Small, shape_of}
use Rattle.name_scopes.proofs.Sees.{Any, Sees, Maybe, Sight, World, v-bind, v-fault, v-given, v-if, v-none, v-pure, v-some, v-where_clean, joint}
use Rattle.name_scopes.proofs.SeesExpressions.{v-expr, v-judged_alone}
use Rattle.name_scopes.proofs.SeesFound.{Around, DenotedOf, DenotesOf, ExprOf, Finding, FoundOf, LevelSees, PathOf, PlaceOf}
use Rattle.name_scopes.proofs.SeesScope.{v-selected}
use Rattle.name_scopes.proofs.SeesValues.{v-asked}

module _ (W : World) (V : Sight) where
  -- ---- arguments that are judged for themselves alone

  v-arg_alone : (names : Names) (inside : Inside) (here : Context) (a : Arg) → LevelSees W inside → Around W V here → Sees W V Any (arg_alone names inside here a)
  v-arg_alone names inside here (syntax.arg name e) l r = v-if W V Any (is_string (primary_of_expr e)) (pure tt) (judged_alone names inside here e) (v-pure W V Any tt tt) (v-judged_alone W V names inside here e l r)

  pub v-args_alone : (names : Names) (inside : Inside) (here : Context) (as' : Args) → LevelSees W inside → Around W V here → Sees W V Any (args_alone names inside here as')
  v-args_alone names inside here syntax.NoArg l r = v-pure W V Any tt tt
  v-args_alone names inside here (syntax.AlsoArg a as') l r = v-bind W V Any Any (arg_alone names inside here a) _ (v-arg_alone names inside here a l r) (λ u q. v-args_alone names inside here as' l r)

  pub v-wrong_call : (names : Names) (inside : Inside) (here : Context) (first : ℕ) (as' : Args) → LevelSees W inside → Around W V here → Sees W V (Maybe (DenotedOf W V)) (wrong_call names inside here first as')
  unfolding wrong_call
  v-wrong_call names inside here first as' l r =
      v-where_clean W V Any (DenotedOf W V) (args_alone names inside here as') (λ u. fault first WrongType) (v-args_alone names inside here as' l r) (λ u q. v-fault W V (DenotedOf W V) first WrongType)

  -- ---- one selection more

  -- a selection, before those behind it
  abbrev StepOf : TypedPart → Type 0
  StepOf item = (r : TypedPart) → SeenSelections W.program W.shown V.around (as_selections r) → SeenSelections W.program W.shown V.around (as_selections (Cons item r))

  path-more : (ss item : TypedPart) → PathOf W V ss → StepOf item → PathOf W V (also ss item)
  path-more ss item h step r f = h (Cons item r) (step r f)

  part-of : (p : ObjectName) (ss x : TypedPart) (u : Subtype) → PlaceOf W V p ss → PathOf W V x → Small (shape_of W.program u) → DenotedOf W V (denote (part_place p u) x)
  part-of p ss x u h path small = record { root = h.root; path = path; small = small; static = λ z e. absurd cc }

  -- ---- selected components

  abbrev AreFields : List Field → Type 0
  AreFields fs = (j : ℕ) (f : Field) → slice_get fs j ≡ Some f → Small (shape_of W.program f.subtype)

  v-field_from : (names : Names) (p : ObjectName) (ss : TypedPart) (at i : ℕ) (fs : List Field) → PlaceOf W V p ss → AreFields fs → Sees W V (Maybe (DenotedOf W V)) (field_from names p ss at i fs)
  v-field_from names p ss at i [] h k = v-fault W V (DenotedOf W V) at Unknown
  v-field_from names p ss at i (f ∷ fs) h k =
      v-if W V (Maybe (DenotedOf W V)) (f.symbol == symbol names at) _ (field_from names p ss at (i + 1) fs)
      (v-some W V (DenotedOf W V) (denote (part_place p f.subtype) (also ss (part.ASelection (typed.Field i f.offset))))
      (part-of p ss (also ss (part.ASelection (typed.Field i f.offset))) f.subtype h (path-more ss (part.ASelection (typed.Field i f.offset)) h.path (λ r s. s)) (k 0 f refl)))
      (v-field_from names p ss at (i + 1) fs h (λ j g d. k (suc j) g d))

  v-field_in : (names : Names) (p : ObjectName) (ss : TypedPart) (at n : ℕ) (t : Option Entry) → PlaceOf W V p ss → ((fs : List Field) (cells : ℕ) → t ≡ Some (entry.Record fs cells) → HasFields W.program n fs × (cells ≡ size (subtype_shape W.program n)))
      → Sees W V (Maybe (DenotedOf W V)) (field_in names p ss at t)
  v-field_in names p ss at n (Some (entry.Record fs cells)) h k = v-field_from names p ss at 0 fs h (λ j f d. ((k fs cells refl).0.at j f d).1)
  v-field_in names p ss at n (Some (entry.Scalar s)) h k = v-fault W V (DenotedOf W V) p.first WrongType
  v-field_in names p ss at n (Some (entry.Array ds c m cells)) h k = v-fault W V (DenotedOf W V) p.first WrongType
  v-field_in names p ss at n None h k = v-fault W V (DenotedOf W V) p.first WrongType

  small-at : (p : ObjectName) (ss : TypedPart) (n : ℕ) → PlaceOf W V p ss → p.subtype ≡ subtype.Composite n → Small (subtype_shape W.program n)
  small-at p ss n h e = subst (λ t. Small (shape_of W.program t)) e h.small

  v-field_of : (names : Names) (p : ObjectName) (ss : TypedPart) (at : ℕ) (t : Subtype) → PlaceOf W V p ss → p.subtype ≡ t → Sees W V (Maybe (DenotedOf W V)) (field_of names p ss at t)
  v-field_of names p ss at (subtype.Composite n) h e =
      record { at = λ log g l. (v-field_in names p ss at n (shape_in log n) h (λ fs cells d. W.fields log g n fs cells d (small-at p ss n h e))).at log g l }
  v-field_of names p ss at (subtype.Scalar s) h e = v-fault W V (DenotedOf W V) p.first WrongType

  v-field_form : (names : Names) (here : Context) (at : ℕ) (k : KnownDenoted) (x : TypedPart) → DenotesOf W V k x → Sees W V (Maybe (DenotedOf W V)) (field_form names here at k x)
  v-field_form names here at (denoted.Package first library) x h = v-selected W V names here first library at
  v-field_form names here at (denoted.Value (known.Object p)) x h = v-field_of names p x at p.subtype h refl
  v-field_form names here at k x h = v-fault W V (DenotedOf W V) (denoted_first k) WrongType

  pub v-field : (names : Names) (here : Context) (at : ℕ) (d : Denoted) → DenotedOf W V d → Sees W V (Maybe (DenotedOf W V)) (field names here at d)
  unfolding field
  v-field names here at d h = v-field_form names here at d.known d.part h

  -- ---- indexed components

  v-index_in : (d : Option Dimension) (apart : ℕ) (made : Option TypedPart) (f : Found) → Maybe (PathOf W V) made → FoundOf W V f → Sees W V (Maybe (PathOf W V)) (index_in d apart made f)
  v-index_in None apart made f g h = v-pure W V (Maybe (PathOf W V)) made g
  v-index_in (Some d) apart made f g h =
      v-bind W V (Maybe (ExprOf W V)) (Maybe (PathOf W V)) (asked d.kind f) _ (v-asked W V d.kind f h) (λ e q.
      v-pure W V (Maybe (PathOf W V)) (joined (selected_by (first_of f.known) d apart) made e)
      (joint (PathOf W V) (ExprOf W V) (PathOf W V) (selected_by (first_of f.known) d apart) made e g q (λ x y s t. path-more x (part.ASelection (typed.Index (first_of f.known) (as_expr y) d.low d.high apart)) s (λ r u. (t, u)))))

  v-index_where : (d : Option Dimension) (apart : ℕ) (made : Option TypedPart) (x : Option Found) → Maybe (PathOf W V) made → Finding W V x → Sees W V (Maybe (PathOf W V)) (index_where d apart made x)
  v-index_where d apart made None g h = v-none W V (PathOf W V)
  v-index_where d apart made (Some f) g h = v-index_in d apart made f g h

  v-unnamed : {A : Type 0} (Q : A → Type 0) (n : Option ℕ) (x : Option A) → Maybe Q x → Sees W V (Maybe Q) (unnamed n x)
  v-unnamed Q None x h = v-pure W V (Maybe Q) x h
  v-unnamed Q (Some n) x h = v-fault W V Q n WrongType

  v-index : (names : Names) (inside : Inside) (here : Context) (ds : List Dimension) (cells : ℕ) (made : Option TypedPart) (a : Arg) → LevelSees W inside → Around W V here → Maybe (PathOf W V) made → Sees W V (Maybe (PathOf W V)) (index names inside here ds cells made a)
  unfolding index
  v-index names inside here ds cells made (syntax.arg name e) l r g =
      v-bind W V (Finding W V) (Maybe (PathOf W V)) (expr names inside here wanted.Other e) _ (v-expr W V names inside here wanted.Other e l r) (λ x q.
      v-bind W V (Maybe (PathOf W V)) (Maybe (PathOf W V)) (index_where (slice_get ds 0) (stride ds cells) made x) _ (v-index_where (slice_get ds 0) (stride ds cells) made x g q) (λ s t. v-unnamed (PathOf W V) name s t))

  v-indexes : (names : Names) (inside : Inside) (here : Context) (ds : List Dimension) (cells : ℕ) (made : Option TypedPart) (as' : Args) → LevelSees W inside → Around W V here → Maybe (PathOf W V) made → Sees W V (Maybe (PathOf W V)) (indexes names inside here ds cells made as')
  v-indexes names inside here ds cells made syntax.NoArg l r g = v-pure W V (Maybe (PathOf W V)) made g
  v-indexes names inside here ds cells made (syntax.AlsoArg a as') l r g =
      v-bind W V (Maybe (PathOf W V)) (Maybe (PathOf W V)) (index names inside here ds cells made a) _ (v-index names inside here ds cells made a l r g) (λ s q. v-indexes names inside here (drop 1 ds) cells s as' l r q)

  v-indexed : (p : ObjectName) (ss : TypedPart) (bracket wanted given : ℕ) (c : Subtype) (x : TypedPart) → PlaceOf W V p ss → Small (shape_of W.program c) → PathOf W V x → Sees W V (Maybe (DenotedOf W V)) (indexed p bracket wanted given (Some c) x)
  v-indexed p ss bracket wanted given c x h small g =
      v-if W V (Maybe (DenotedOf W V)) (wanted == given) _ (fault bracket WrongType) (v-some W V (DenotedOf W V) (denote (part_place p c) x) (part-of p ss x c h g small)) (v-fault W V (DenotedOf W V) bracket WrongType)

  v-index_shape : (names : Names) (inside : Inside) (here : Context) (p : ObjectName) (ss : TypedPart) (bracket : ℕ) (as' : Args) (ds : List Dimension) (c : Subtype) (k one cells : ℕ) → LevelSees W inside → Around W V here → PlaceOf W V p ss → Small (shape_of W.program c)
      → Sees W V (Maybe (DenotedOf W V)) (index_shape names inside here p ss bracket as' (Some (entry.Array ds c k cells)) one)
  v-index_shape names inside here p ss bracket as' ds c k one cells l r h small =
      v-where_clean W V (Maybe (PathOf W V)) (DenotedOf W V) (indexes names inside here ds one (Some ss) as') _ (v-indexes names inside here ds one (Some ss) as' l r h.path) (λ y q.
      v-given W V (PathOf W V) (DenotedOf W V) y _ q (λ z s. v-indexed p ss bracket (length ds) (count as') c z h small s))

  v-array_call : (names : Names) (inside : Inside) (here : Context) (p : ObjectName) (ss : TypedPart) (bracket : ℕ) (as' : Args) (n : ℕ) (log : Log) (t : Option Entry) → LevelSees W inside → Around W V here → PlaceOf W V p ss → p.subtype ≡ subtype.Composite n
      → ((ds : List Dimension) (c : Subtype) (k cells : ℕ) → t ≡ Some (entry.Array ds c k cells) → HasDimensions W.program n ds c (cells_in log c) cells × HaveValues ds)
      → Sees W V (Maybe (DenotedOf W V)) (array_call names inside here p ss bracket as' t (component_cells log (component_of t)))
  v-array_call names inside here p ss bracket as' n log (Some (entry.Array ds c k cells)) l r h e x = v-index_shape names inside here p ss bracket as' ds c k (cells_in log c) cells l r h (x ds c k cells refl).0.small
  v-array_call names inside here p ss bracket as' n log (Some (entry.Record fs cells)) l r h e x = v-wrong_call names inside here p.first as' l r
  v-array_call names inside here p ss bracket as' n log (Some (entry.Scalar s)) l r h e x = v-wrong_call names inside here p.first as' l r
  v-array_call names inside here p ss bracket as' n log None l r h e x = v-wrong_call names inside here p.first as' l r

  pub v-object_call : (names : Names) (inside : Inside) (here : Context) (p : ObjectName) (ss : TypedPart) (bracket : ℕ) (as' : Args) (t : Subtype) → LevelSees W inside → Around W V here → PlaceOf W V p ss → p.subtype ≡ t
      → Sees W V (Maybe (DenotedOf W V)) (object_call names inside here p ss bracket as' t)
  unfolding object_call
  v-object_call names inside here p ss bracket as' (subtype.Composite n) l r h e =
      record { at = λ log g m. (v-array_call names inside here p ss bracket as' n log (shape_in log n) l r h e (λ ds c k cells d. W.dimensions log g n ds c k cells d (small-at p ss n h e))).at log g m }
  v-object_call names inside here p ss bracket as' (subtype.Scalar s) l r h e = v-wrong_call names inside here p.first as' l r
