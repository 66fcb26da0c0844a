-- What is found is in scope: aggregates.
use Rattle.std.specs.Prelude.{◌+ℤ◌, ◌*◌, not, ◌||◌}
use Rattle.syntax_tree.specs.FirstTokens as first_token
use Rattle.syntax_tree.specs.Syntax as syntax
use Rattle.syntax_tree.specs.Syntax.{Assoc, Assocs, Choice, Choices, Expr, Exprs, OptionalExpr}
use Rattle.typed_tree.specs.Decoded as part
use Rattle.typed_tree.specs.Decoded.{TypedPart, as_association, as_associations, as_composite, as_value}
use Rattle.typed_tree.specs.Latest.{turned}
use Rattle.typed_tree.specs.Syntax.{Associations}
use Rattle.typed_tree.specs.declared.expressions.Iterated.{Iterated}
use Rattle.typed_tree.specs.declared.expressions.Run.{Run}
use Rattle.name_rules.specs.Aggregates.{ByAssociation, ByPosition, Choosing', Component, Contents, Filling, Placing, aggregate, aggregate_part, also_chosen, array_assoc, array_assocs, array_at, array_choice, array_choices, as_rest, assoc_value, assocs_alone, exprs_alone, field_choice, first_of_choice, has_symbol, named_field, one_field, optional_alone, value_choice, without, array_placed, array_rest, array_values, by_position, chosen_given, component_at, composite_at, composite_found, contents_alone, covered, dimension_of, field_choices, field_run, field_value, fields_value, filled, filling, gaps_of, index_what, inner_aggregate, inner_value, is_alone, is_final, is_last, iterated_given, no_aggregate, nothing_placed, of_index_type, record_assoc, record_assocs, record_parts, record_rest, record_values, rest_found, runs_of, some_fields, with_ranges, with_rest, with_runs, with_value}
use Rattle.name_rules.specs.Expressions.{Inside, expr, judged_alone, value_for}
use Rattle.name_rules.specs.Judging.{breaks, fault, given, joined, read, some, unless, where_clean}
use Rattle.name_rules.specs.Parts.{new_parameter}
use Rattle.name_rules.specs.Ranges.{Chosen, Static, chosen_span, chosen_value, static_range}
use Rattle.name_rules.specs.Scope.{with_entry}
use Rattle.name_rules.specs.Shapes.{identifier_of_choice, is_aggregate}
use Rattle.name_rules.specs.Symbols.{symbol}
use Rattle.name_rules.specs.Types.{array_cells, cells_in, extent, same, shape_in}
use Rattle.name_rules.specs.declared.found.Found.TheVariants as known
use Rattle.name_rules.specs.declared.found.Found.{Found as Known}
use Rattle.name_rules.specs.declared.log.Dimension.{Dimension}
use Rattle.name_rules.specs.declared.log.Field.{Field}
use Rattle.name_rules.specs.declared.log.Log.{Log}
use Rattle.name_rules.specs.declared.log.Rule.TheVariants.{StaticRange, Twice, Unknown, WrongType}
use Rattle.name_rules.specs.declared.log.Shape.{Shape}
use Rattle.name_rules.specs.declared.log.Shape.TheVariants as shape
use Rattle.name_rules.specs.declared.types.Kind.{Kind}
use Rattle.name_rules.specs.declared.scope.Context.{Context}
use Rattle.name_rules.specs.declared.scope.Names.{Names}
use Rattle.name_rules.specs.declared.types.Subtype.{Subtype}
use Rattle.name_rules.specs.declared.types.Wanted.TheVariants as wanted
use Rattle.name_rules.specs.declared.types.Wanted.{Wanted}
use Rattle.std.proofs.Common.{◌≡◌, refl, sym, ap, subst, ◌∙◌, ◌<◌, ◌≤◌, ◌++◌, ◌&&◌, ℕ, zero, suc, ℤ, pos, List, [], ◌∷◌, length, map, slice_get, Option, Some, None, Bool, true, false, if◌then◌else◌, option_map, ◌==◌, ◌+◌, drop, true≢false, arith}
use Rattle.std.specs.List.{list_all}
use Rattle.ada_meaning.specs.Shapes.{FieldAt, Shapes, array_of, size, sizes, subtype_shape}
use Rattle.ada_meaning.specs.Shapes as shapes
use Rattle.typed_scopes.specs.Scopes as scopes
use Rattle.typed_scopes.specs.Scopes.{IsGiven, LieWithin}
use Rattle.name_rules.specs.Aggregates.{broken_placing, not_empty}
use Rattle.typed_tree.specs.Layout.{count}
use Rattle.name_rules.specs.Resolved.{dimension_bounds}
use Rattle.name_laws.proofs.CellsCounted.{HaveValues, extent_count}
use Rattle.name_formed.proofs.Forms.{AreStrides, HasFields, Small, shape_of}
use Rattle.name_scopes.proofs.Runs.{gaps-whole, runs-given, runs-lie}
use Rattle.name_scopes.proofs.Seen.{SeenAssociations, SeenComposite, SeenValue}
use Rattle.name_scopes.proofs.Sees.{Any, Sees, Maybe, Sight, World, seeing, v-bind, v-breaks, v-fault, v-given, v-if, v-new_parameter, v-none, v-pure, v-read, v-seeing, v-some, v-unless, v-weaken, v-where_clean, joint, mapped}
use Rattle.name_scopes.proofs.SeesExpressions.{v-expr, v-judged_alone, v-rest, v-value_for}
use Rattle.name_scopes.proofs.SeesFound.{Around, Each, ExprOf, Finding, FoundOf, LevelSees, MentionsOf, RestOf, ValueOf, WhatOf, each-all, each-turned}
use Rattle.name_scopes.proofs.SeesIterations.{around-wider, its-parameter, wider-parameter, with-entry}
use Rattle.name_scopes.proofs.SeesRanges.{ChosenOf, StaticOf, v-chosen_span, v-chosen_value, v-static_range}
use Rattle.name_scopes.proofs.SeesValues.{exprs-seen}

-- fields lie in their record
field-within : (us : Shapes) (k offset : ℕ) (t : shapes.Shape) → FieldAt us k offset t → offset + size t ≤ sizes us
field-within shapes.NoShape k offset t h = absurd h
field-within (shapes.AlsoShape u us) zero offset t h = omega (arith, h.0, ap size h.1)
field-within (shapes.AlsoShape u us) (suc k) offset t h = omega (arith, h.1, field-within us k h.0 t h.2)

-- ---- the cells of an aggregate, where its type is no larger than all objects of a program

module _ (W : World) (V : Sight) (G : Type 0) (N : ℕ) where
  abbrev IsAssociation : TypedPart → Type 0
  IsAssociation p = G → (as' : Associations) → SeenAssociations W.program W.shown V.around N as' → SeenAssociations W.program W.shown V.around N (as_association p as')

  abbrev AssociationsOf : TypedPart → Type 0
  AssociationsOf x = Each IsAssociation x

  associations-list : G → (x : TypedPart) → AssociationsOf x → SeenAssociations W.program W.shown V.around N (as_associations x)
  associations-list g (part.Cons p q) h = h.0 g (as_associations q) (associations-list g q h.1)
  associations-list g x h = tt

  -- an aggregate of so many cells
  abbrev pub MadeOf : TypedPart → Type 0
  MadeOf x = G → SeenComposite W.program W.shown V.around N (as_composite x)

  aggregate-part : (bracket cells : ℕ) (made : TypedPart) → (G → cells ≡ N) → AssociationsOf made → MadeOf (aggregate_part bracket cells made)
  aggregate-part bracket cells made e h g = (e g, associations-list g (turned made) (each-turned IsAssociation made h))

  some-aggregate : (bracket cells : ℕ) (made : Option TypedPart) → (G → cells ≡ N) → Maybe AssociationsOf made → Maybe MadeOf (option_map (aggregate_part bracket cells) made)
  some-aggregate bracket cells made e h = mapped AssociationsOf MadeOf (aggregate_part bracket cells) made h (λ x q. aggregate-part bracket cells x e q)

  -- a value of so many cells
  abbrev ItemOf : scopes.Around → ℕ → TypedPart → Type 0
  ItemOf v m x = G → SeenValue W.program W.shown v m (as_value x)

  with-value : (rs : List Run) (i : Option Iterated) (m : ℕ) (ms made v : TypedPart) → MentionsOf W V ms → (G → IsGiven i rs) → (G → LieWithin N m rs) → AssociationsOf made → ItemOf (scopes.with_index i V.around) m v → AssociationsOf (with_value rs i ms made v)
  with-value rs i m ms made v l n w g h = ((λ k as' r. (n k, exprs-seen W V ms l, (m, w k, h k), r)), g)

  -- ---- records

  -- a field lies in the record
  abbrev FieldFits : Field → Type 0
  FieldFits f = G → (f.offset + size (shape_of W.program f.subtype) ≤ N) × Small (shape_of W.program f.subtype)

  abbrev FieldsFit : List Field → Type 0
  FieldsFit [] = Unit {0}
  FieldsFit (f ∷ fs) = FieldFits f × FieldsFit fs

  fit-both : (a b : List Field) → FieldsFit a → FieldsFit b → FieldsFit (a ++ b)
  fit-both [] b h k = k
  fit-both (f ∷ a) b h k = (h.0, fit-both a b h.1 k)

  fit-without : (name : ℕ) (fs : List Field) → FieldsFit fs → FieldsFit (without name fs)
  fit-without name [] h = tt
  fit-without name (f ∷ fs) h = by (f.symbol == name) (fit-without name fs h.1)
    where
      by : (b : Bool) → FieldsFit (without name fs) → FieldsFit (if b then without name fs else (f ∷ without name fs))
      by true k = k
      by false k = (h.0, k)

  fit-one : (name : ℕ) (fs : List Field) → FieldsFit fs → FieldsFit (one_field name fs)
  fit-one name [] h = tt
  fit-one name (f ∷ fs) h = by (f.symbol == name) (fit-one name fs h.1)
    where
      by : (b : Bool) → FieldsFit (one_field name fs) → FieldsFit (if b then (f ∷ []) else one_field name fs)
      by true k = (h.0, tt)
      by false k = k

  one-run : (f : Field) (log : Log) → FieldFits f → G → LieWithin N (size (shape_of W.program f.subtype)) (field_run log f ∷ [])
  one-run f log h g = (omega arith, (λ k l. one k (cells_in log f.subtype) l (h g).0), tt)
    where
      one : (k apart : ℕ) → k < 1 → f.offset + size (shape_of W.program f.subtype) ≤ N → f.offset + k * apart + size (shape_of W.program f.subtype) ≤ N
      one zero apart l m = omega (arith, m)
      one (suc k) apart l m = absurd (omega (arith, l))

  v-field_value : (names : Names) (level : Inside) (here : Context) (made : Option TypedPart) (f : Field) (e : Expr) → LevelSees W level → Around W V here → FieldFits f → Maybe AssociationsOf made → Sees W V (Maybe AssociationsOf) (field_value names level here made f e)
  unfolding field_value
  v-field_value names level here made f e l r h g =
      v-bind W V (Maybe (ValueOf W V f.subtype)) (Maybe AssociationsOf) (value_for names level here f.subtype e) _ (v-value_for W V names level here f.subtype e l r) (λ v q.
      v-bind W V (λ x. G → LieWithin N (size (shape_of W.program f.subtype)) (x ∷ [])) (Maybe AssociationsOf) (read (λ log. field_run log f)) _
      (v-read W V (λ x. G → LieWithin N (size (shape_of W.program f.subtype)) (x ∷ [])) (λ log. field_run log f) (λ log i. one-run f log h)) (λ x s.
      v-pure W V (Maybe AssociationsOf) (joined (with_value (x ∷ []) None part.Nothing) made v) (joint AssociationsOf (ValueOf W V f.subtype) AssociationsOf (with_value (x ∷ []) None part.Nothing) made v g q
      (λ a b m n. with-value (x ∷ []) None (size (shape_of W.program f.subtype)) part.Nothing a b tt (λ k. tt) s m (λ k. n (h k).1)))))

  v-fields_value : (names : Names) (level : Inside) (here : Context) (made : Option TypedPart) (fs : List Field) (e : Expr) → LevelSees W level → Around W V here → FieldsFit fs → Maybe AssociationsOf made → Sees W V (Maybe AssociationsOf) (fields_value names level here made fs e)
  v-fields_value names level here made [] e l r h g = v-pure W V (Maybe AssociationsOf) made g
  v-fields_value names level here made (f ∷ fs) e l r h g = v-bind W V (Maybe AssociationsOf) (Maybe AssociationsOf) (field_value names level here made f e) _ (v-field_value names level here made f e l r h.0 g) (λ a q. v-fields_value names level here a fs e l r h.1 q)

  v-some_fields : (names : Names) (level : Inside) (here : Context) (made : Option TypedPart) (fs : List Field) (e : Expr) → LevelSees W level → Around W V here → FieldsFit fs → Maybe AssociationsOf made → Sees W V (Maybe AssociationsOf) (some_fields names level here made fs e)
  v-some_fields names level here made [] e l r h g = v-bind W V Any (Maybe AssociationsOf) (judged_alone names level here e) _ (v-judged_alone W V names level here e l r) (λ u q. v-pure W V (Maybe AssociationsOf) made g)
  v-some_fields names level here made (f ∷ fs) e l r h g = v-fields_value names level here made (f ∷ fs) e l r h g

  abbrev FillingOf : Filling → Type 0
  FillingOf f = Maybe AssociationsOf f.done × FieldsFit f.left

  v-by_position : (names : Names) (level : Inside) (here : Context) (fs : List Field) (f : Filling) (e : Expr) → LevelSees W level → Around W V here → FieldsFit fs → FillingOf f → Sees W V FillingOf (by_position names level here fs f e)
  v-by_position names level here [] f e l r h g = v-bind W V Any FillingOf (judged_alone names level here e) _ (v-judged_alone W V names level here e l r) (λ u q. v-pure W V FillingOf (filling f.done [] true) (g.0, tt))
  v-by_position names level here (x ∷ xs) f e l r h g = v-bind W V (Maybe AssociationsOf) FillingOf (field_value names level here f.done x e) _ (v-field_value names level here f.done x e l r h.0 g.0) (λ a q. v-pure W V FillingOf (filling a xs f.over) (q, h.1))

  -- the fields that choices name, and those left
  abbrev ChoiceOf : List Field × List Field → Type 0
  ChoiceOf x = FieldsFit x.0 × FieldsFit x.1

  v-named_field : (names : Names) (all left taken : List Field) (token : ℕ) → FieldsFit left → FieldsFit taken → Sees W V ChoiceOf (named_field names all left taken token)
  v-named_field names all left taken token h k =
      v-if W V ChoiceOf (not (has_symbol (symbol names token) all)) _ _ (v-bind W V Any ChoiceOf (breaks token Unknown) _ (v-breaks W V token Unknown) (λ u q. v-pure W V ChoiceOf (taken, left) (k, h)))
      (v-if W V ChoiceOf (not (has_symbol (symbol names token) left)) _ _ (v-bind W V Any ChoiceOf (breaks token Twice) _ (v-breaks W V token Twice) (λ u q. v-pure W V ChoiceOf (taken, left) (k, h)))
      (v-pure W V ChoiceOf (taken ++ one_field (symbol names token) left, without (symbol names token) left) (fit-both taken (one_field (symbol names token) left) k (fit-one (symbol names token) left h), fit-without (symbol names token) left h)))

  v-value_choice : (names : Names) (all left taken : List Field) (first : ℕ) (token : Option ℕ) → FieldsFit left → FieldsFit taken → Sees W V ChoiceOf (value_choice names all left taken first token)
  v-value_choice names all left taken first None h k = v-bind W V Any ChoiceOf (breaks first WrongType) _ (v-breaks W V first WrongType) (λ u q. v-pure W V ChoiceOf (taken, left) (k, h))
  v-value_choice names all left taken first (Some token) h k = v-named_field names all left taken token h k

  v-field_choice : (names : Names) (all : List Field) (alone last : Bool) (left taken : List Field) (c : Choice) → FieldsFit left → FieldsFit taken → Sees W V ChoiceOf (field_choice names all alone last left taken c)
  v-field_choice names all alone last left taken (syntax.Others at) h k = v-bind W V Any ChoiceOf (unless (alone && last) at StaticRange) _ (v-unless W V (alone && last) at StaticRange) (λ u q. v-pure W V ChoiceOf (taken ++ left, []) (fit-both taken left k h, tt))
  v-field_choice names all alone last left taken (syntax.Value s) h k = v-value_choice names all left taken (first_of_choice (syntax.Value s)) (identifier_of_choice (syntax.Value s)) h k
  v-field_choice names all alone last left taken (syntax.Span low high) h k = v-value_choice names all left taken (first_of_choice (syntax.Span low high)) (identifier_of_choice (syntax.Span low high)) h k

  v-field_choices : (names : Names) (all : List Field) (alone last : Bool) (left taken : List Field) (cs : Choices) → FieldsFit left → FieldsFit taken → Sees W V ChoiceOf (field_choices names all alone last left taken cs)
  v-field_choices names all alone last left taken syntax.NoChoice h k = v-pure W V ChoiceOf (taken, left) (k, h)
  v-field_choices names all alone last left taken (syntax.AlsoChoice c cs) h k = v-bind W V ChoiceOf ChoiceOf (field_choice names all alone last left taken c) _ (v-field_choice names all alone last left taken c h k) (λ x q. v-field_choices names all alone last x.1 x.0 cs q.1 q.0)

  v-record_assoc : (names : Names) (level : Inside) (here : Context) (all : List Field) (last : Bool) (f : Filling) (a : Assoc) → LevelSees W level → Around W V here → FillingOf f → Sees W V FillingOf (record_assoc names level here all last f a)
  v-record_assoc names level here all last f (syntax.Chosen c cs e) l r g =
      let p = field_choices names all (is_alone cs) last f.left [] (syntax.AlsoChoice c cs) in
      v-bind W V ChoiceOf FillingOf p _ (v-field_choices names all (is_alone cs) last f.left [] (syntax.AlsoChoice c cs) g.1 tt) (λ x q.
      v-bind W V (Maybe AssociationsOf) FillingOf (some_fields names level here f.done x.0 e) _ (v-some_fields names level here f.done x.0 e l r q.0 g.0) (λ y s. v-pure W V FillingOf (filling y x.1 f.over) (s, q.1)))
  v-record_assoc names level here all last f (syntax.Each at index x e) l r g = v-bind W V Any FillingOf (breaks at WrongType) _ (v-breaks W V at WrongType) (λ u q. v-pure W V FillingOf f g)

  v-record_assocs : (names : Names) (level : Inside) (here : Context) (all : List Field) (f : Filling) (as' : Assocs) → LevelSees W level → Around W V here → FillingOf f → Sees W V FillingOf (record_assocs names level here all f as')
  v-record_assocs names level here all f syntax.NoAssoc l r g = v-pure W V FillingOf f g
  v-record_assocs names level here all f (syntax.AlsoAssoc a as') l r g = v-bind W V FillingOf FillingOf (record_assoc names level here all (is_final as') f a) _ (v-record_assoc names level here all (is_final as') f a l r g) (λ x q. v-record_assocs names level here all x as' l r q)

  v-record_values : (names : Names) (level : Inside) (here : Context) (f : Filling) (es : Exprs) → LevelSees W level → Around W V here → FillingOf f → Sees W V FillingOf (record_values names level here f es)
  v-record_values names level here f syntax.NoExpr l r g = v-pure W V FillingOf f g
  v-record_values names level here f (syntax.AlsoExpr e es) l r g = v-bind W V FillingOf FillingOf (by_position names level here f.left f e) _ (v-by_position names level here f.left f e l r g.1 g) (λ x q. v-record_values names level here x es l r q)

  v-record_rest : (names : Names) (level : Inside) (here : Context) (f : Filling) (o : OptionalExpr) → LevelSees W level → Around W V here → FillingOf f → Sees W V FillingOf (record_rest names level here f o)
  v-record_rest names level here f syntax.AbsentExpr l r g = v-pure W V FillingOf f g
  v-record_rest names level here f (syntax.PresentExpr e) l r g = v-bind W V (Maybe AssociationsOf) FillingOf (some_fields names level here f.done f.left e) _ (v-some_fields names level here f.done f.left e l r g.1 g.0) (λ x q. v-pure W V FillingOf (filling x [] f.over) (q, tt))

  v-record_parts : (names : Names) (level : Inside) (here : Context) (all : List Field) (ps : Contents) → LevelSees W level → Around W V here → FieldsFit all → Sees W V FillingOf (record_parts names level here all ps)
  v-record_parts names level here all (ByPosition es o) l r h = v-bind W V FillingOf FillingOf (record_values names level here (filling (Some part.Nothing) all false) es) _ (v-record_values names level here (filling (Some part.Nothing) all false) es l r (tt, h)) (λ f q. v-record_rest names level here f o l r q)
  v-record_parts names level here all (ByAssociation as') l r h = v-record_assocs names level here all (filling (Some part.Nothing) all false) as' l r (tt, h)

  v-filled : (bracket cells : ℕ) (f : Filling) → (G → cells ≡ N) → FillingOf f → Sees W V (Maybe MadeOf) (filled bracket cells f)
  v-filled bracket cells f e g = v-if W V (Maybe MadeOf) (f.over || not (length f.left == 0)) (fault bracket StaticRange) _ (v-fault W V MadeOf bracket StaticRange) (v-pure W V (Maybe MadeOf) (option_map (aggregate_part bracket cells) f.done) (some-aggregate bracket cells f.done e g.0))

all-both : (a b : List (ℤ × ℤ)) → list_all not_empty (a ++ b) ≡ true → (list_all not_empty a ≡ true) × (list_all not_empty b ≡ true)
all-both [] b h = (refl, h)
all-both (x ∷ a) b h = one-both (not_empty x) (list_all not_empty (a ++ b)) (list_all not_empty a) (list_all not_empty b) (all-both a b) h
  where
    one-both : (c e f g : Bool) → (e ≡ true → (f ≡ true) × (g ≡ true)) → c && e ≡ true → (c && f ≡ true) × (g ≡ true)
    one-both true e f g k h = k h
    one-both false e f g k h = absurd (true≢false (sym h))

drop-more : (i : ℕ) (d : Dimension) (ds all : List Dimension) → drop i all ≡ d ∷ ds → drop (i + 1) all ≡ ds
drop-more i d ds all e = sym (ap (λ n. drop n all) (plus i)) ∙ by i d ds all e
  where
    plus : (i : ℕ) → suc i ≡ i + 1
    plus i = omega arith

    by : (i : ℕ) (d : Dimension) (ds all : List Dimension) → drop i all ≡ d ∷ ds → drop (suc i) all ≡ ds
    by zero d ds [] e = absurd (let z : ◌≡◌ {A = List Dimension} [] (d ∷ ds) = e in cc)
    by zero d ds (x ∷ all) e = let z : x ∷ all ≡ d ∷ ds = e in cc
    by (suc i) d ds [] e = absurd (let z : ◌≡◌ {A = List Dimension} [] (d ∷ ds) = e in cc)
    by (suc i) d ds (x ∷ all) e = by i d ds all e

-- ---- arrays: so many cells for each index

module _ (W : World) (V : Sight) (G : Type 0) (d : Dimension) (apart : ℕ) where
  abbrev Cells : ℕ
  Cells = extent d * apart

  abbrev Associated : TypedPart → Type 0
  Associated x = AssociationsOf W V G (extent d * apart) x

  abbrev Item : scopes.Around → TypedPart → Type 0
  Item v x = ItemOf W V G (extent d * apart) v apart x

  abbrev RestValue : Option (Option TypedPart) → Type 0
  RestValue None = Unit {0}
  RestValue (Some v) = Maybe (Item V.around) v

  -- where no range that was given is without a value
  abbrev PlacingOf : Placing → Type 0
  PlacingOf p = (list_all not_empty p.ranges ≡ true → Maybe Associated p.done) × RestValue p.rest

  with-runs : (i : Option Iterated) (ms : TypedPart) (rs : List (ℤ × ℤ)) (before v : Option TypedPart) → MentionsOf W V ms → ((xs : List Run) → runs_of d apart rs ≡ Some xs → IsGiven i xs) → Maybe Associated before → Maybe (Item (scopes.with_index i V.around)) v → Maybe Associated (with_runs i ms (runs_of d apart rs) before v)
  with-runs i ms rs before v l n g h = by (runs_of d apart rs) refl
    where
      by : (xs : Option (List Run)) → runs_of d apart rs ≡ xs → Maybe Associated (with_runs i ms xs before v)
      by None e = tt
      by (Some xs) e = joint Associated (Item (scopes.with_index i V.around)) Associated (with_value xs i ms) before v g h (λ a b s t. with-value W V G (extent d * apart) xs i apart ms a b l (λ k. n xs e) (λ k. runs-lie d apart rs xs e) s t)

  none-iterated : (rs : List (ℤ × ℤ)) (xs : List Run) → runs_of d apart rs ≡ Some xs → IsGiven None xs
  none-iterated rs [] e = tt
  none-iterated rs (x ∷ xs) e = tt

  with-ranges : (i : Option Iterated) (ms : TypedPart) (p : Placing) (rs : List (ℤ × ℤ)) (v : Option TypedPart) → MentionsOf W V ms → (list_all not_empty rs ≡ true → (xs : List Run) → runs_of d apart rs ≡ Some xs → IsGiven i xs) → PlacingOf p → Maybe (Item (scopes.with_index i V.around)) v
      → PlacingOf (with_ranges d apart i ms p rs v)
  with-ranges i ms p rs v l n g h = ((λ c. let b = all-both p.ranges rs c in with-runs i ms rs p.done v l (n b.1) (g.0 b.0) h), g.1)

  broken : (p : Placing) → PlacingOf p → PlacingOf (broken_placing p)
  broken p g = ((λ c. tt), g.1)

  first-all : (x : ℤ × ℤ) → list_all not_empty (x ∷ []) ≡ true → not_empty x ≡ true
  first-all x h = by (not_empty x) h
    where
      by : (b : Bool) → b && true ≡ true → b ≡ true
      by true h = refl
      by false h = h

  abbrev ChoosingOf : Choosing' → Type 0
  ChoosingOf c = MentionsOf W V c.mentions

  chosen-given : (p : Placing) (c : Option Choosing') (v : Option TypedPart) → Maybe ChoosingOf c → PlacingOf p → Maybe (Item V.around) v → PlacingOf (chosen_given d apart p c v)
  chosen-given p None v l g h = broken p g
  chosen-given p (Some c) v l g h = by c.rest
    where
      by : (b : Bool) → PlacingOf (if b then with_rest p v else with_ranges d apart None c.mentions p c.ranges v)
      by true = (g.0, h)
      by false = with-ranges None c.mentions p c.ranges v l (λ e. none-iterated c.ranges) g h

  -- what a component is found to be, whatever is in scope beside
  abbrev ComponentSees : Component → Type 0
  ComponentSees component = (v : scopes.Around) (here : Context) (e : Expr) → Around W (seeing v V) here → Sees W (seeing v V) (Maybe (Item v)) (component here e)

  also-chosen : (c : Choosing') (x : Chosen) → ChoosingOf c → ChosenOf W V x → ChoosingOf (also_chosen c x)
  also-chosen c x g h = each-all (ExprOf W V) c.mentions x.part g h

  v-array_choice : (level : Inside) (here : Context) (k : Kind) (alone last : Bool) (made : Option Choosing') (c : Choice) → LevelSees W level → Around W V here → Maybe ChoosingOf made → Sees W V (Maybe ChoosingOf) (array_choice level here k alone last made c)
  v-array_choice level here k alone last made (syntax.Value s) l r g =
      v-bind W V (Maybe (ChosenOf W V)) (Maybe ChoosingOf) (chosen_value level here (Some k) s) _ (v-chosen_value W V level here (Some k) s l r) (λ c q. v-pure W V (Maybe ChoosingOf) (joined also_chosen made c) (joint ChoosingOf (ChosenOf W V) ChoosingOf also_chosen made c g q also-chosen))
  v-array_choice level here k alone last made (syntax.Span low high) l r g =
      v-bind W V (Maybe (ChosenOf W V)) (Maybe ChoosingOf) (chosen_span level here (Some k) low high) _ (v-chosen_span W V level here (Some k) low high l r) (λ c q. v-pure W V (Maybe ChoosingOf) (joined also_chosen made c) (joint ChoosingOf (ChosenOf W V) ChoosingOf also_chosen made c g q also-chosen))
  v-array_choice level here k alone last made (syntax.Others at) l r g =
      v-bind W V Any (Maybe ChoosingOf) (unless (alone && last) at StaticRange) _ (v-unless W V (alone && last) at StaticRange) (λ u q. v-pure W V (Maybe ChoosingOf) (option_map as_rest made) (mapped ChoosingOf ChoosingOf as_rest made g (λ c h. h)))

  v-array_choices : (level : Inside) (here : Context) (k : Kind) (alone last : Bool) (made : Option Choosing') (cs : Choices) → LevelSees W level → Around W V here → Maybe ChoosingOf made → Sees W V (Maybe ChoosingOf) (array_choices level here k alone last made cs)
  v-array_choices level here k alone last made syntax.NoChoice l r g = v-pure W V (Maybe ChoosingOf) made g
  v-array_choices level here k alone last made (syntax.AlsoChoice c cs) l r g = v-bind W V (Maybe ChoosingOf) (Maybe ChoosingOf) (array_choice level here k alone last made c) _ (v-array_choice level here k alone last made c l r g) (λ x q. v-array_choices level here k alone last x cs l r q)

  v-of_index_type : (k : Kind) (first : ℕ) (s : Static) → StaticOf W V s → Sees W V (Maybe (StaticOf W V)) (of_index_type k first s)
  v-of_index_type k first s h = v-if W V (Maybe (StaticOf W V)) (same s.known.kind k) (some s) (fault first WrongType) (v-some W V (StaticOf W V) s h) (v-fault W V (StaticOf W V) first WrongType)

  iterated-given : (n : ℕ) (p : Placing) (s : Option Static) (v : Option TypedPart) → Maybe (StaticOf W V) s → PlacingOf p → Maybe (Item (scopes.with_parameter n V.around)) v → PlacingOf (iterated_given d apart n p s v)
  iterated-given n p None v l g h = broken p g
  iterated-given n p (Some r) v l g h =
      let i : Iterated = record { parameter = n; first = r.known.low } in
      with-ranges (Some i) r.part p ((r.known.low, r.known.high) ∷ []) v l (λ e xs f. runs-given d apart i (r.known.low, r.known.high) xs (first-all (r.known.low, r.known.high) e) f) g h

  index-what : (n : ℕ) (s : Option Static) → WhatOf W (seeing (scopes.with_parameter n V.around) V) (index_what n s)
  index-what n None = tt
  index-what n (Some s) = its-parameter n V.around

  v-array_assoc : (names : Names) (level : Inside) (here : Context) (component : Component) (last : Bool) (p : Placing) (a : Assoc) → LevelSees W level → Around W V here → ComponentSees component → PlacingOf p
      → Sees W V PlacingOf (array_assoc names level here component d apart last p a)
  unfolding array_assoc
  v-array_assoc names level here component last p (syntax.Chosen c cs e) l r sees g =
      let start : Option Choosing' = Some (record { ranges = []; rest = false; mentions = part.Nothing }) in
      v-bind W V (Maybe ChoosingOf) PlacingOf (array_choices level here d.kind (is_alone cs) last start (syntax.AlsoChoice c cs)) _ (v-array_choices level here d.kind (is_alone cs) last start (syntax.AlsoChoice c cs) l r tt) (λ x q.
      v-bind W V (Maybe (Item V.around)) PlacingOf (component here e) _ (sees V.around here e r) (λ v s. v-pure W V PlacingOf (chosen_given d apart p x v) (chosen-given p x v q g s)))
  v-array_assoc names level here component last p (syntax.Each at index x e) l r sees g =
      v-bind W V (Maybe (StaticOf W V)) PlacingOf (static_range level here false (Some d.kind) x) _ (v-static_range W V level here false (Some d.kind) x l r) (λ y q.
      v-bind W V (Maybe (StaticOf W V)) PlacingOf (given y (of_index_type d.kind (first_token.of_range x))) _ (v-given W V (StaticOf W V) (StaticOf W V) y (of_index_type d.kind (first_token.of_range x)) q (λ z i. v-of_index_type d.kind (first_token.of_range x) z i)) (λ s t.
      v-bind W V Any PlacingOf new_parameter _ (v-new_parameter W V) (λ n i.
      let u = scopes.with_parameter n V.around in
      let there = with_entry here (symbol names index) (index_what n s) in
      v-bind W V (Maybe (Item u)) PlacingOf (component there e) _
      (v-seeing W V u (Maybe (Item u)) (component there e) (sees u there e (with-entry W (seeing u V) here (symbol names index) (index_what n s) (index-what n s) (around-wider W V.around u V here (wider-parameter n V.around) refl r)))) (λ v m.
      v-pure W V PlacingOf (iterated_given d apart n p s v) (iterated-given n p s v t g m)))))

  v-array_assocs : (names : Names) (level : Inside) (here : Context) (component : Component) (p : Placing) (as' : Assocs) → LevelSees W level → Around W V here → ComponentSees component → PlacingOf p
      → Sees W V PlacingOf (array_assocs names level here component d apart p as')
  v-array_assocs names level here component p syntax.NoAssoc l r sees g = v-pure W V PlacingOf p g
  v-array_assocs names level here component p (syntax.AlsoAssoc a as') l r sees g =
      v-bind W V PlacingOf PlacingOf (array_assoc names level here component d apart (is_final as') p a) _ (v-array_assoc names level here component (is_final as') p a l r sees g) (λ q s. v-array_assocs names level here component q as' l r sees s)

  v-array_values : (here : Context) (component : Component) (z : ℤ) (p : Placing) (es : Exprs) → Around W V here → ComponentSees component → PlacingOf p → Sees W V PlacingOf (array_values here component d apart z p es)
  v-array_values here component z p syntax.NoExpr r sees g = v-pure W V PlacingOf p g
  v-array_values here component z p (syntax.AlsoExpr e es) r sees g =
      v-bind W V (Maybe (Item V.around)) PlacingOf (component here e) _ (sees V.around here e r) (λ v q.
      v-array_values here component (z +ℤ pos 1) (with_ranges d apart None part.Nothing p ((z, z) ∷ []) v) es r sees (with-ranges None part.Nothing p ((z, z) ∷ []) v tt (λ e. none-iterated ((z, z) ∷ [])) g q))

  v-array_rest : (here : Context) (component : Component) (o : OptionalExpr) (p : Placing) → Around W V here → ComponentSees component → PlacingOf p → Sees W V PlacingOf (array_rest here component o p)
  v-array_rest here component syntax.AbsentExpr p r sees g = v-pure W V PlacingOf p g
  v-array_rest here component (syntax.PresentExpr e) p r sees g = v-bind W V (Maybe (Item V.around)) PlacingOf (component here e) _ (sees V.around here e r) (λ v q. v-pure W V PlacingOf (with_rest p v) (g.0, q))

  v-array_placed : (names : Names) (level : Inside) (here : Context) (component : Component) (ps : Contents) → LevelSees W level → Around W V here → ComponentSees component → Sees W V PlacingOf (array_placed names level here component d apart ps)
  v-array_placed names level here component (ByPosition es o) l r sees =
      v-bind W V PlacingOf PlacingOf (array_values here component d apart d.low nothing_placed es) (array_rest here component o) (v-array_values here component d.low nothing_placed es r sees ((λ c. tt), tt)) (λ p q. v-array_rest here component o p r sees q)
  v-array_placed names level here component (ByAssociation as') l r sees = v-array_assocs names level here component nothing_placed as' l r sees ((λ c. tt), tt)

  abbrev Made : TypedPart → Type 0
  Made x = MadeOf W V G (extent d * apart) x

  made-of : (bracket : ℕ) (done : Option TypedPart) → Maybe Associated done → Maybe Made (option_map (aggregate_part bracket (extent d * apart)) done)
  made-of bracket done h = some-aggregate W V G (extent d * apart) bracket (extent d * apart) done (λ g. refl) h

  v-covered : (bracket : ℕ) (p : Placing) (os : Option (List (ℤ × ℤ))) (v : Option (Option TypedPart)) → gaps_of d.low d.high p.ranges ≡ os → PlacingOf p → RestValue v → Sees W V (Maybe Made) (covered bracket d apart (extent d * apart) p os v)
  v-covered bracket p None v e g h = v-fault W V Made bracket StaticRange
  v-covered bracket p (Some os) None e g h =
      v-if W V (Maybe Made) (length os == 0) _ (fault bracket StaticRange) (v-pure W V (Maybe Made) (option_map (aggregate_part bracket (extent d * apart)) p.done) (made-of bracket p.done (g.0 (gaps-whole d.low d.high p.ranges os e)))) (v-fault W V Made bracket StaticRange)
  v-covered bracket p (Some os) (Some v) e g h =
      let made = with_runs None part.Nothing (runs_of d apart os) p.done v in
      v-pure W V (Maybe Made) (option_map (aggregate_part bracket (extent d * apart)) made) (made-of bracket made (with-runs None part.Nothing os p.done v tt (none-iterated os) (g.0 (gaps-whole d.low d.high p.ranges os e)) h))

  v-dimension_of : (names : Names) (level : Inside) (here : Context) (bracket : ℕ) (component : Component) (ps : Contents) → LevelSees W level → Around W V here → ComponentSees component → Sees W V (Maybe Made) (dimension_of names level here bracket component d apart ps)
  unfolding dimension_of
  v-dimension_of names level here bracket component ps l r sees =
      v-where_clean W V PlacingOf Made (array_placed names level here component d apart ps) _ (v-array_placed names level here component ps l r sees) (λ p q. v-covered bracket p (gaps_of d.low d.high p.ranges) p.rest refl q q.1)

module _ (W : World) (V : Sight) where
  v-no_aggregate : (Q : TypedPart → Type 0) (names : Names) (level : Inside) (here : Context) (e : Expr) → LevelSees W level → Around W V here → Sees W V (Maybe Q) (no_aggregate names level here e)
  v-no_aggregate Q names level here e l r =
      v-bind W V (Finding W V) (Maybe Q) (expr names level here wanted.Other e) _ (v-expr W V names level here wanted.Other e l r) (λ x q. v-given W V (FoundOf W V) Q x _ q (λ f s. v-fault W V Q (first_token.of_expr e) WrongType))

  -- the dimensions behind the first so many of an array type
  abbrev pub BehindOf : ℕ → ℕ → TypedPart → Type 0
  BehindOf n i x =
      (ds : List Dimension) (c : Subtype) (k cells : ℕ) → slice_get W.shapes n ≡ Some (shape.Array ds c k cells) → Small (subtype_shape W.program n)
      → SeenValue W.program W.shown V.around (size (array_of (map dimension_bounds (drop i ds)) (shape_of W.program c))) (as_value x)

  inner-value : (n i : ℕ) (f : Known) (x : TypedPart) → RestOf W V n i (record { known = f; part = x }) → Maybe (BehindOf n i) (inner_value f x)
  inner-value n i (known.Rest first) x h = h
  inner-value n i f x h = tt

  v-inner_aggregate : (names : Names) (level : Inside) (here : Context) (n i : ℕ) (e : Expr) (b : Bool) → is_aggregate e ≡ b → LevelSees W level → Around W V here → Sees W V (Maybe (BehindOf n i)) (inner_aggregate names level here n i e b)
  v-inner_aggregate names level here n i e false k l r = v-no_aggregate (BehindOf n i) names level here e l r
  v-inner_aggregate names level here n i e true k l r =
      v-bind W V (Maybe (RestOf W V n i)) (Maybe (BehindOf n i)) (expr names level here (wanted.Rest n i) e) _ (v-rest W V names level here n i e l r k) (λ x q. v-given W V (RestOf W V n i) (BehindOf n i) x _ q (λ f s. v-pure W V (Maybe (BehindOf n i)) (inner_value f.known f.part) (inner-value n i f.known f.part s)))

module _ (W : World) (V : Sight) (n : ℕ) (ds0 : List Dimension) (c : Subtype) (k cells : ℕ) (is : slice_get W.shapes n ≡ Some (shape.Array ds0 c k cells)) where
  abbrev Few : Type 0
  Few = Small (subtype_shape W.program n)

  abbrev PartOf : List Dimension → ℕ
  PartOf ds = size (array_of (map dimension_bounds ds) (shape_of W.program c))

  -- a component, or an aggregate of the dimensions behind
  component-sees : (names : Names) (level : Inside) (i apart : ℕ) (d : Dimension) (ds : List Dimension) → drop (i + 1) ds0 ≡ ds → (Few → (apart ≡ PartOf ds) × Small (shape_of W.program c)) → LevelSees W level → ComponentSees W V Few d apart (component_at names level n i (is_last ds) c)
  component-sees names level i apart d [] q f l v here e r =
      v-weaken W (seeing v V) (Maybe (ValueOf W (seeing v V) c)) (Maybe (Item W V Few d apart v)) (value_for names level here c e) (v-value_for W (seeing v V) names level here c e l r) by
    where
      by : (x : Option TypedPart) → Maybe (ValueOf W (seeing v V) c) x → Maybe (Item W V Few d apart v) x
      by None h = tt
      by (Some x) h = λ g. subst (λ m. SeenValue W.program W.shown v m (as_value x)) (sym (f g).0) (h (f g).1)
  component-sees names level i apart d (b ∷ ds) q f l v here e r =
      v-weaken W (seeing v V) (Maybe (BehindOf W (seeing v V) n (i + 1))) (Maybe (Item W V Few d apart v)) (inner_aggregate names level here n (i + 1) e (is_aggregate e)) (v-inner_aggregate W (seeing v V) names level here n (i + 1) e (is_aggregate e) refl l r) by
    where
      by : (x : Option TypedPart) → Maybe (BehindOf W (seeing v V) n (i + 1)) x → Maybe (Item W V Few d apart v) x
      by None h = tt
      by (Some x) h = λ g. subst (λ m. SeenValue W.program W.shown v m (as_value x)) (ap PartOf q ∙ sym (f g).0) (h ds0 c k cells is g)

  v-array_at : (names : Names) (level : Inside) (here : Context) (bracket i : ℕ) (ds : List Dimension) (one : ℕ) (ps : Contents) → drop i ds0 ≡ ds → (Few → AreStrides ds one (shape_of W.program c) × HaveValues ds × Small (shape_of W.program c)) → LevelSees W level → Around W V here
      → Sees W V (Maybe (MadeOf W V Few (PartOf ds))) (array_at names level here bracket n i ds c one ps)
  v-array_at names level here bracket i [] one ps q f l r = v-fault W V (MadeOf W V Few (PartOf [])) bracket WrongType
  v-array_at names level here bracket i (d ∷ ds) one ps q f l r =
      let apart = array_cells ds one in
      let wide : Few → extent d * apart ≡ PartOf (d ∷ ds) = λ g. extent-size d ds apart ((f g).1.0, tt) (f g).0.0 in
      v-weaken W V (Maybe (MadeOf W V Few (extent d * apart))) (Maybe (MadeOf W V Few (PartOf (d ∷ ds)))) (array_at names level here bracket n i (d ∷ ds) c one ps)
      (v-dimension_of W V Few d apart names level here bracket (component_at names level n i (is_last ds) c) ps l r (component-sees names level i apart d ds (drop-more i d ds ds0 q) (λ g. ((f g).0.0, (f g).2)) l)) (by wide)
    where
      extent-size : (d : Dimension) (ds : List Dimension) (apart : ℕ) → HaveValues (d ∷ []) → apart ≡ PartOf ds → extent d * apart ≡ PartOf (d ∷ ds)
      extent-size d ds apart h e = ap (λ m. m * apart) (extent_count d h.0) ∙ ap (λ m. count (dimension_bounds d) * m) e

      by : (Few → extent d * array_cells ds one ≡ PartOf (d ∷ ds)) → (x : Option TypedPart) → Maybe (MadeOf W V Few (extent d * array_cells ds one)) x → Maybe (MadeOf W V Few (PartOf (d ∷ ds))) x
      by w None h = tt
      by w (Some x) h = λ g. subst (λ m. SeenComposite W.program W.shown V.around m (as_composite x)) (w g) (h g)

-- ---- aggregates

module _ (W : World) (V : Sight) where
  strides-from : (i : ℕ) (ds : List Dimension) (one : ℕ) (t : shapes.Shape) → AreStrides ds one t → AreStrides (drop i ds) one t
  strides-from zero ds one t h = h
  strides-from (suc i) [] one t h = tt
  strides-from (suc i) (d ∷ ds) one t h = strides-from i ds one t h.1

  values-from : (i : ℕ) (ds : List Dimension) → HaveValues ds → HaveValues (drop i ds)
  values-from zero ds h = h
  values-from (suc i) [] h = tt
  values-from (suc i) (d ∷ ds) h = values-from i ds h.1

  abbrev Little : ℕ → Type 0
  Little n = Small (subtype_shape W.program n)

  fields-fit : (n : ℕ) (fs all : List Field) (cells : ℕ) → (Little n → HasFields W.program n all × (cells ≡ size (subtype_shape W.program n))) → (j : ℕ) → ((i : ℕ) (f : Field) → slice_get fs i ≡ Some f → slice_get all (j + i) ≡ Some f) → FieldsFit W V (Little n) (size (subtype_shape W.program n)) fs
  fields-fit n [] all cells h j k = tt
  fields-fit n (f ∷ fs) all cells h j k = (
    (λ g. let x = (h g).0 in let y = x.at (j + 0) f (k 0 f refl) in (subst (λ t. f.offset + size (shape_of W.program f.subtype) ≤ size t) (sym x.shape) (field-within x.parts (j + 0) f.offset (shape_of W.program f.subtype) y.0), y.1)),
    fields-fit n fs all cells h (j + 1) (λ i x e. subst (λ m. slice_get all m ≡ Some x) (next j i) (k (suc i) x e)),
  )
    where
      next : (j i : ℕ) → j + suc i ≡ j + 1 + i
      next j i = omega arith

  all-fit : (n : ℕ) (fs : List Field) (cells : ℕ) → (Little n → HasFields W.program n fs × (cells ≡ size (subtype_shape W.program n))) → FieldsFit W V (Little n) (size (subtype_shape W.program n)) fs
  all-fit n fs cells h = fields-fit n fs fs cells h 0 (λ i f e. subst (λ m. slice_get fs m ≡ Some f) (from i) e)
    where
      from : (i : ℕ) → i ≡ 0 + i
      from i = omega arith

  v-whole : (names : Names) (level : Inside) (here : Context) (bracket n : ℕ) (log : Log) (t : Option Shape) (ps : Contents) → log.shapes ≡ W.shapes → shape_in log n ≡ t → LevelSees W level → Around W V here
      → Sees W V (Maybe (MadeOf W V (Little n) (size (subtype_shape W.program n)))) (composite_at names level here bracket n 0 log t ps)
  v-whole names level here bracket n log (Some (shape.Record fs cells)) ps g e l r =
      let N = size (subtype_shape W.program n) in
      let h = W.fields log g n fs cells e in
      v-where_clean W V (FillingOf W V (Little n) N) (MadeOf W V (Little n) N) (record_parts names level here fs ps) (filled bracket cells) (v-record_parts W V (Little n) N names level here fs ps l r (all-fit n fs cells h)) (λ f q. v-filled W V (Little n) N bracket cells f (λ s. (h s).1) q)
  v-whole names level here bracket n log (Some (shape.Array ds s k cells)) ps g e l r =
      let h = W.dimensions log g n ds s k cells e in
      v-weaken W V (Maybe (MadeOf W V (Little n) (size (array_of (map dimension_bounds ds) (shape_of W.program s))))) (Maybe (MadeOf W V (Little n) (size (subtype_shape W.program n)))) (array_at names level here bracket n 0 ds s (cells_in log s) ps)
      (v-array_at W V n ds s k cells (ap (λ ts. slice_get ts n) (sym g) ∙ e) names level here bracket 0 ds (cells_in log s) ps refl (λ m. ((h m).0.strides, (h m).1, (h m).0.small)) l r)
      by
    where
      by : (x : Option TypedPart) → Maybe (MadeOf W V (Little n) (size (array_of (map dimension_bounds ds) (shape_of W.program s)))) x → Maybe (MadeOf W V (Little n) (size (subtype_shape W.program n))) x
      by None m = tt
      by (Some x) m = λ q. subst (λ t. SeenComposite W.program W.shown V.around (size t) (as_composite x)) (sym (W.dimensions log g n ds s k cells e q).0.shape) (m q)
  v-whole names level here bracket n log (Some (shape.Scalar s)) ps g e l r = v-fault W V (MadeOf W V (Little n) (size (subtype_shape W.program n))) bracket WrongType
  v-whole names level here bracket n log None ps g e l r = v-fault W V (MadeOf W V (Little n) (size (subtype_shape W.program n))) bracket WrongType

  v-part : (names : Names) (level : Inside) (here : Context) (bracket n i : ℕ) (log : Log) (t : Option Shape) (ps : Contents) → log.shapes ≡ W.shapes → shape_in log n ≡ t → LevelSees W level → Around W V here
      → Sees W V (Maybe (λ x. RestOf W V n i (rest_found bracket x))) (composite_at names level here bracket n i log t ps)
  v-part names level here bracket n i log (Some (shape.Record fs cells)) ps g e l r =
      let N = size (subtype_shape W.program n) in
      let h = W.fields log g n fs cells e in
      v-where_clean W V (FillingOf W V (Little n) N) (λ x. RestOf W V n i (rest_found bracket x)) (record_parts names level here fs ps) (filled bracket cells) (v-record_parts W V (Little n) N names level here fs ps l r (all-fit n fs cells h)) (λ f q.
      v-weaken W V (Maybe (MadeOf W V (Little n) N)) (Maybe (λ x. RestOf W V n i (rest_found bracket x))) (filled bracket cells f) (v-filled W V (Little n) N bracket cells f (λ s. (h s).1) q) by)
    where
      by : (x : Option TypedPart) → Maybe (MadeOf W V (Little n) (size (subtype_shape W.program n))) x → Maybe (λ x. RestOf W V n i (rest_found bracket x)) x
      by None m = tt
      by (Some x) m = λ ds c k many is small. absurd (no ds c k many (sym e ∙ ap (λ ts. slice_get ts n) g ∙ is))
        where
          no : (ds : List Dimension) (c : Subtype) (k many : ℕ) → ◌≡◌ {A = Option Shape} (Some (shape.Record fs cells)) (Some (shape.Array ds c k many)) → ⊥
          no ds c k many e = cc
  v-part names level here bracket n i log (Some (shape.Array ds s k cells)) ps g e l r =
      let h = W.dimensions log g n ds s k cells e in
      v-weaken W V (Maybe (MadeOf W V (Little n) (size (array_of (map dimension_bounds (drop i ds)) (shape_of W.program s))))) (Maybe (λ x. RestOf W V n i (rest_found bracket x))) (array_at names level here bracket n i (drop i ds) s (cells_in log s) ps)
      (v-array_at W V n ds s k cells (ap (λ ts. slice_get ts n) (sym g) ∙ e) names level here bracket i (drop i ds) (cells_in log s) ps refl (λ m. (strides-from i ds (cells_in log s) (shape_of W.program s) (h m).0.strides, values-from i ds (h m).1, (h m).0.small)) l r)
      by
    where
      by : (x : Option TypedPart) → Maybe (MadeOf W V (Little n) (size (array_of (map dimension_bounds (drop i ds)) (shape_of W.program s)))) x → Maybe (λ x. RestOf W V n i (rest_found bracket x)) x
      by None m = tt
      by (Some x) m = λ es c j many is small.
          let same : ◌≡◌ {A = Option Shape} (Some (shape.Array ds s k cells)) (Some (shape.Array es c j many)) = sym e ∙ ap (λ ts. slice_get ts n) g ∙ is in
          subst (λ q. SeenComposite W.program W.shown V.around (size (array_of (map dimension_bounds (drop i q)) (shape_of W.program c))) (as_composite x)) (dims es c j many same)
          (subst (λ q. SeenComposite W.program W.shown V.around (size (array_of (map dimension_bounds (drop i ds)) (shape_of W.program q))) (as_composite x)) (comps es c j many same) (m small))
        where
          dims : (es : List Dimension) (c : Subtype) (j many : ℕ) → ◌≡◌ {A = Option Shape} (Some (shape.Array ds s k cells)) (Some (shape.Array es c j many)) → ds ≡ es
          dims es c j many e = cc

          comps : (es : List Dimension) (c : Subtype) (j many : ℕ) → ◌≡◌ {A = Option Shape} (Some (shape.Array ds s k cells)) (Some (shape.Array es c j many)) → s ≡ c
          comps es c j many e = cc
  v-part names level here bracket n i log (Some (shape.Scalar s)) ps g e l r = v-fault W V (λ x. RestOf W V n i (rest_found bracket x)) bracket WrongType
  v-part names level here bracket n i log None ps g e l r = v-fault W V (λ x. RestOf W V n i (rest_found bracket x)) bracket WrongType

  v-exprs_alone : (names : Names) (level : Inside) (here : Context) (es : Exprs) → LevelSees W level → Around W V here → Sees W V Any (exprs_alone names level here es)
  v-exprs_alone names level here syntax.NoExpr l r = v-pure W V Any tt tt
  v-exprs_alone names level here (syntax.AlsoExpr e es) l r = v-bind W V Any Any (judged_alone names level here e) _ (v-judged_alone W V names level here e l r) (λ u q. v-exprs_alone names level here es l r)

  v-optional_alone : (names : Names) (level : Inside) (here : Context) (o : OptionalExpr) → LevelSees W level → Around W V here → Sees W V Any (optional_alone names level here o)
  v-optional_alone names level here syntax.AbsentExpr l r = v-pure W V Any tt tt
  v-optional_alone names level here (syntax.PresentExpr e) l r = v-judged_alone W V names level here e l r

  v-assocs_alone : (names : Names) (level : Inside) (here : Context) (as' : Assocs) → LevelSees W level → Around W V here → Sees W V Any (assocs_alone names level here as')
  v-assocs_alone names level here syntax.NoAssoc l r = v-pure W V Any tt tt
  v-assocs_alone names level here (syntax.AlsoAssoc a as') l r = v-bind W V Any Any (judged_alone names level here (assoc_value a)) _ (v-judged_alone W V names level here (assoc_value a) l r) (λ u q. v-assocs_alone names level here as' l r)

  v-contents_alone : (names : Names) (level : Inside) (here : Context) (ps : Contents) → LevelSees W level → Around W V here → Sees W V Any (contents_alone names level here ps)
  v-contents_alone names level here (ByPosition es o) l r = v-bind W V Any Any (exprs_alone names level here es) _ (v-exprs_alone names level here es l r) (λ u q. v-optional_alone names level here o l r)
  v-contents_alone names level here (ByAssociation as') l r = v-assocs_alone names level here as' l r

  v-unknown : (names : Names) (level : Inside) (here : Context) (bracket : ℕ) (ps : Contents) → LevelSees W level → Around W V here → Sees W V (Finding W V) (where_clean (contents_alone names level here ps) (λ u. fault bracket WrongType))
  v-unknown names level here bracket ps l r = v-where_clean W V Any (FoundOf W V) (contents_alone names level here ps) (λ u. fault bracket WrongType) (v-contents_alone names level here ps l r) (λ u q. v-fault W V (FoundOf W V) bracket WrongType)

  pub v-inner : (names : Names) (level : Inside) (here : Context) (n i bracket : ℕ) (ps : Contents) → LevelSees W level → Around W V here → Sees W V (Maybe (RestOf W V n i)) (aggregate names level here (wanted.Rest n i) bracket ps)
  unfolding aggregate
  v-inner names level here n i bracket ps l r = record {
    at = λ log g k.
        (v-bind W V (Maybe (λ x. RestOf W V n i (rest_found bracket x))) (Maybe (RestOf W V n i)) (composite_at names level here bracket n i log (shape_in log n) ps) _ (v-part names level here bracket n i log (shape_in log n) ps g refl l r) (λ x q.
        v-pure W V (Maybe (RestOf W V n i)) (option_map (rest_found bracket) x) (mapped (λ y. RestOf W V n i (rest_found bracket y)) (RestOf W V n i) (rest_found bracket) x q (λ y h. h)))).at log g k;
  }

  rest-any : (bracket : ℕ) (x : Option TypedPart) → Finding W V (option_map (rest_found bracket) x)
  rest-any bracket None = tt
  rest-any bracket (Some x) = tt

  pub v-aggregate : (names : Names) (level : Inside) (here : Context) (want : Wanted) (bracket : ℕ) (ps : Contents) → LevelSees W level → Around W V here → Sees W V (Finding W V) (aggregate names level here want bracket ps)
  unfolding aggregate
  v-aggregate names level here (wanted.Composite n) bracket ps l r = record {
    at = λ log g k.
        (v-bind W V (Maybe (MadeOf W V (Little n) (size (subtype_shape W.program n)))) (Finding W V) (composite_at names level here bracket n 0 log (shape_in log n) ps) _ (v-whole names level here bracket n log (shape_in log n) ps g refl l r) (λ x q.
        v-pure W V (Finding W V) (option_map (composite_found bracket n) x) (mapped (MadeOf W V (Little n) (size (subtype_shape W.program n))) (FoundOf W V) (composite_found bracket n) x q (λ y h. h)))).at log g k;
  }
  v-aggregate names level here (wanted.Rest n i) bracket ps l r = record {
    at = λ log g k.
        (v-bind W V (Maybe (λ x. RestOf W V n i (rest_found bracket x))) (Finding W V) (composite_at names level here bracket n i log (shape_in log n) ps) _ (v-part names level here bracket n i log (shape_in log n) ps g refl l r) (λ x q.
        v-pure W V (Finding W V) (option_map (rest_found bracket) x) (rest-any bracket x))).at log g k;
  }
  v-aggregate names level here wanted.Unknown bracket ps l r = v-none W V (FoundOf W V)
  v-aggregate names level here wanted.Other bracket ps l r = v-unknown names level here bracket ps l r
  v-aggregate names level here wanted.Text bracket ps l r = v-unknown names level here bracket ps l r
