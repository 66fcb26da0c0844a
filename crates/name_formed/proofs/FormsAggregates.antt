-- What is found is formed: aggregates.
use Rattle.std.proofs.Common.{◌≡◌, refl, ap, ◌∙◌, ◌≤◌, ◌++◌, ◌&&◌, ℕ, ℤ, pos, List, [], ◌∷◌, length, Option, Some, None, Bool, true, false, if◌then◌else◌, option_map, ◌==◌, ◌+◌, drop}
use Rattle.std.specs.Prelude.{◌+ℤ◌, ◌*◌, not, ◌||◌}
use Rattle.syntax_tree.specs.FirstTokens as first_token
use Rattle.syntax_tree.specs.Syntax as syntax
use Rattle.syntax_tree.specs.Syntax.{Assoc, Assocs, Choice, Choices, Expr, Exprs, OptionalExpr}
use Rattle.ada_meaning.specs.Formed.{FormedAssociations, FormedValue, composite_width}
use Rattle.ada_meaning.specs.Shapes.{size, subtype_shape}
use Rattle.typed_tree.specs.Decoded as part
use Rattle.typed_tree.specs.Decoded.{TypedPart, as_association, as_associations, as_composite, as_value}
use Rattle.typed_tree.specs.Latest.{turned}
use Rattle.typed_tree.specs.Syntax.{Associations}
use Rattle.typed_tree.specs.declared.expressions.Iterated.{Iterated}
use Rattle.typed_tree.specs.declared.expressions.Run.{Run}
use Rattle.name_rules.specs.Aggregates.{ByAssociation, ByPosition, Choosing', Component, Contents, Filling, Placing, aggregate, aggregate_part, also_chosen, array_assoc, array_assocs, array_at, array_choice, array_choices, as_rest, assoc_value, assocs_alone, exprs_alone, field_choice, first_of_choice, has_symbol, named_field, one_field, optional_alone, value_choice, without, array_placed, array_rest, array_values, by_position, chosen_given, component_at, composite_at, composite_found, contents_alone, covered, covered_alone, dimension_of, field_choices, field_run, field_value, fields_value, filled, filling, gaps_of, index_what, inner_aggregate, inner_value, is_alone, is_final, is_last, iterated_given, no_aggregate, nothing_placed, of_index_type, record_assoc, record_assocs, record_parts, record_rest, record_values, rest_found, runs_of, some_fields, with_ranges, with_rest, with_runs, with_value}
use Rattle.name_rules.specs.Expressions.{Inside, expr, judged_alone, value_for}
use Rattle.name_rules.specs.Found.{Found}
use Rattle.name_rules.specs.Judging.{◌>>=◌, breaks, fault, given, joined, pure, read, some, unless, where_clean}
use Rattle.name_rules.specs.Parts.{new_parameter}
use Rattle.name_rules.specs.Ranges.{Chosen, Static, chosen_span, chosen_value, static_range}
use Rattle.name_rules.specs.Scope.{with_entry}
use Rattle.name_rules.specs.Shapes.{identifier_of_choice, is_aggregate}
use Rattle.name_rules.specs.Symbols.{symbol}
use Rattle.name_rules.specs.Types.{array_cells, cells_in, extent, same, shape_in}
use Rattle.name_rules.specs.declared.found.Found.TheVariants as known
use Rattle.name_rules.specs.declared.found.Found.{Found as Known}
use Rattle.name_rules.specs.declared.log.Dimension.{Dimension}
use Rattle.name_rules.specs.declared.log.Field.{Field}
use Rattle.name_rules.specs.declared.log.Log.{Log}
use Rattle.name_rules.specs.declared.log.Rule.TheVariants.{StaticRange, Twice, Unknown, WrongType}
use Rattle.name_rules.specs.declared.log.Shape.{Shape}
use Rattle.name_rules.specs.declared.log.Shape.TheVariants as shape
use Rattle.name_rules.specs.declared.types.Kind.{Kind}
use Rattle.name_rules.specs.declared.scope.Context.{Context}
use Rattle.name_rules.specs.declared.scope.Names.{Names}
use Rattle.name_rules.specs.declared.types.Subtype.{Subtype}
use Rattle.name_rules.specs.declared.types.Wanted.TheVariants as wanted
use Rattle.name_rules.specs.declared.types.Wanted.{Wanted}
use Rattle.name_formed.proofs.Forms.{Any, Forms, Maybe, Sight, World, f-bind, f-breaks, f-fault, f-given, f-if, f-none, f-pure, f-read, f-some, f-unless, f-weaken, f-where_clean, joint, mapped}
use Rattle.name_formed.proofs.FormsExpressions.{f-expr, f-judged_alone, f-value_for}
use Rattle.name_formed.proofs.FormsFound.{Around, CompositeOf, Each, ExprOf, Finding, FoundOf, KnownOf, LevelForms, MentionsOf, ValueOf, each-all, each-turned}
use Rattle.name_formed.proofs.FormsIterations.{IsPlain, f-new_parameter, plain-of, with-entry}
use Rattle.name_formed.proofs.FormsRanges.{ChosenOf, StaticOf, f-chosen_span, f-chosen_value, f-static_range}
use Rattle.name_formed.proofs.FormsValues.{exprs-formed}

module _ (W : World) (V : Sight) where
  -- ---- associations

  abbrev IsAssociation : TypedPart → Type 0
  IsAssociation p = (as' : Associations) → FormedAssociations W.program V.known as' → FormedAssociations W.program V.known (as_association p as')

  abbrev AssociationsOf : TypedPart → Type 0
  AssociationsOf x = Each IsAssociation x

  associations-list : (x : TypedPart) → AssociationsOf x → FormedAssociations W.program V.known (as_associations x)
  associations-list (part.Cons p q) h = h.0 (as_associations q) (associations-list q h.1)
  associations-list x h = tt

  -- a composite value of as many cells as are asked for
  abbrev MadeOf : (ℕ → Type 0) → TypedPart → Type 0
  MadeOf P x = CompositeOf W V x × P (composite_width W.program.subtypes (as_composite x))

  -- a value that is formed
  abbrev ItemOf : TypedPart → Type 0
  ItemOf x = FormedValue W.program V.known (as_value x)

  aggregate-part : (P : ℕ → Type 0) (bracket cells : ℕ) (made : TypedPart) → P cells → AssociationsOf made → MadeOf P (aggregate_part bracket cells made)
  aggregate-part P bracket cells made c h = (associations-list (turned made) (each-turned IsAssociation made h), c)

  some-aggregate : (P : ℕ → Type 0) (bracket cells : ℕ) (made : Option TypedPart) → P cells → Maybe AssociationsOf made → Maybe (MadeOf P) (option_map (aggregate_part bracket cells) made)
  some-aggregate P bracket cells made c h = mapped AssociationsOf (MadeOf P) (aggregate_part bracket cells) made h (λ x q. aggregate-part P bracket cells x c q)

  with-value : (rs : List Run) (i : Option Iterated) (ms made v : TypedPart) → MentionsOf W V ms → AssociationsOf made → ItemOf v → AssociationsOf (with_value rs i ms made v)
  with-value rs i ms made v m g h = ((λ as' r. (exprs-formed W V ms m, h, r)), g)

  -- ---- records

  f-field_value : (names : Names) (level : Inside) (here : Context) (made : Option TypedPart) (f : Field) (e : Expr) → LevelForms W level → Around W V here → Maybe AssociationsOf made → Forms W V (Maybe AssociationsOf) (field_value names level here made f e)
  unfolding field_value
  f-field_value names level here made f e l r g =
      f-bind W V (Maybe (ValueOf W V f.subtype)) (Maybe AssociationsOf) (value_for names level here f.subtype e) _ (f-value_for W V names level here f.subtype e l r) (λ v q.
      f-bind W V Any (Maybe AssociationsOf) (read (λ log. field_run log f)) _ (f-read W V Any (λ log. field_run log f) (λ log h. tt)) (λ x s.
      f-pure W V (Maybe AssociationsOf) (joined (with_value (x ∷ []) None part.Nothing) made v) (joint AssociationsOf (ValueOf W V f.subtype) AssociationsOf (with_value (x ∷ []) None part.Nothing) made v g q (λ a b m n. with-value (x ∷ []) None part.Nothing a b tt m n.0))))

  f-fields_value : (names : Names) (level : Inside) (here : Context) (made : Option TypedPart) (fs : List Field) (e : Expr) → LevelForms W level → Around W V here → Maybe AssociationsOf made → Forms W V (Maybe AssociationsOf) (fields_value names level here made fs e)
  f-fields_value names level here made [] e l r g = f-pure W V (Maybe AssociationsOf) made g
  f-fields_value names level here made (f ∷ fs) e l r g = f-bind W V (Maybe AssociationsOf) (Maybe AssociationsOf) (field_value names level here made f e) _ (f-field_value names level here made f e l r g) (λ a q. f-fields_value names level here a fs e l r q)

  f-some_fields : (names : Names) (level : Inside) (here : Context) (made : Option TypedPart) (fs : List Field) (e : Expr) → LevelForms W level → Around W V here → Maybe AssociationsOf made → Forms W V (Maybe AssociationsOf) (some_fields names level here made fs e)
  f-some_fields names level here made [] e l r g = f-bind W V Any (Maybe AssociationsOf) (judged_alone names level here e) _ (f-judged_alone W V names level here e l r) (λ u q. f-pure W V (Maybe AssociationsOf) made g)
  f-some_fields names level here made (f ∷ fs) e l r g = f-fields_value names level here made (f ∷ fs) e l r g

  abbrev FillingOf : Filling → Type 0
  FillingOf f = Maybe AssociationsOf f.done

  f-by_position : (names : Names) (level : Inside) (here : Context) (fs : List Field) (f : Filling) (e : Expr) → LevelForms W level → Around W V here → FillingOf f → Forms W V FillingOf (by_position names level here fs f e)
  f-by_position names level here [] f e l r g = f-bind W V Any FillingOf (judged_alone names level here e) _ (f-judged_alone W V names level here e l r) (λ u q. f-pure W V FillingOf (filling f.done [] true) g)
  f-by_position names level here (x ∷ xs) f e l r g = f-bind W V (Maybe AssociationsOf) FillingOf (field_value names level here f.done x e) _ (f-field_value names level here f.done x e l r g) (λ a q. f-pure W V FillingOf (filling a xs f.over) q)

  f-named_field : (names : Names) (all left taken : List Field) (token : ℕ) → Forms W V Any (named_field names all left taken token)
  f-named_field names all left taken token =
      f-if W V Any (not (has_symbol (symbol names token) all)) _ _ (f-bind W V Any Any (breaks token Unknown) _ (f-breaks W V token Unknown) (λ u q. f-pure W V Any (taken, left) tt))
      (f-if W V Any (not (has_symbol (symbol names token) left)) _ _ (f-bind W V Any Any (breaks token Twice) _ (f-breaks W V token Twice) (λ u q. f-pure W V Any (taken, left) tt))
      (f-pure W V Any (taken ++ one_field (symbol names token) left, without (symbol names token) left) tt))

  f-value_choice : (names : Names) (all left taken : List Field) (first : ℕ) (token : Option ℕ) → Forms W V Any (value_choice names all left taken first token)
  f-value_choice names all left taken first None = f-bind W V Any Any (breaks first WrongType) _ (f-breaks W V first WrongType) (λ u q. f-pure W V Any (taken, left) tt)
  f-value_choice names all left taken first (Some token) = f-named_field names all left taken token

  f-field_choice : (names : Names) (all : List Field) (alone last : Bool) (left taken : List Field) (c : Choice) → Forms W V Any (field_choice names all alone last left taken c)
  f-field_choice names all alone last left taken (syntax.Others at) = f-bind W V Any Any (unless (alone && last) at StaticRange) _ (f-unless W V (alone && last) at StaticRange) (λ u q. f-pure W V Any (taken ++ left, []) tt)
  f-field_choice names all alone last left taken (syntax.Value s) = f-value_choice names all left taken (first_of_choice (syntax.Value s)) (identifier_of_choice (syntax.Value s))
  f-field_choice names all alone last left taken (syntax.Span low high) = f-value_choice names all left taken (first_of_choice (syntax.Span low high)) (identifier_of_choice (syntax.Span low high))

  f-field_choices : (names : Names) (all : List Field) (alone last : Bool) (left taken : List Field) (cs : Choices) → Forms W V Any (field_choices names all alone last left taken cs)
  f-field_choices names all alone last left taken syntax.NoChoice = f-pure W V Any (taken, left) tt
  f-field_choices names all alone last left taken (syntax.AlsoChoice c cs) = f-bind W V Any Any (field_choice names all alone last left taken c) _ (f-field_choice names all alone last left taken c) (λ x q. f-field_choices names all alone last x.1 x.0 cs)

  f-record_assoc : (names : Names) (level : Inside) (here : Context) (all : List Field) (last : Bool) (f : Filling) (a : Assoc) → LevelForms W level → Around W V here → FillingOf f → Forms W V FillingOf (record_assoc names level here all last f a)
  f-record_assoc names level here all last f (syntax.Chosen c cs e) l r g =
      let p = field_choices names all (is_alone cs) last f.left [] (syntax.AlsoChoice c cs) in
      f-bind W V Any FillingOf p _ (f-field_choices names all (is_alone cs) last f.left [] (syntax.AlsoChoice c cs)) (λ x q.
      f-bind W V (Maybe AssociationsOf) FillingOf (some_fields names level here f.done x.0 e) _ (f-some_fields names level here f.done x.0 e l r g) (λ y s. f-pure W V FillingOf (filling y x.1 f.over) s))
  f-record_assoc names level here all last f (syntax.Each at index x e) l r g = f-bind W V Any FillingOf (breaks at WrongType) _ (f-breaks W V at WrongType) (λ u q. f-pure W V FillingOf f g)

  f-record_assocs : (names : Names) (level : Inside) (here : Context) (all : List Field) (f : Filling) (as' : Assocs) → LevelForms W level → Around W V here → FillingOf f → Forms W V FillingOf (record_assocs names level here all f as')
  f-record_assocs names level here all f syntax.NoAssoc l r g = f-pure W V FillingOf f g
  f-record_assocs names level here all f (syntax.AlsoAssoc a as') l r g = f-bind W V FillingOf FillingOf (record_assoc names level here all (is_final as') f a) _ (f-record_assoc names level here all (is_final as') f a l r g) (λ x q. f-record_assocs names level here all x as' l r q)

  f-record_values : (names : Names) (level : Inside) (here : Context) (f : Filling) (es : Exprs) → LevelForms W level → Around W V here → FillingOf f → Forms W V FillingOf (record_values names level here f es)
  f-record_values names level here f syntax.NoExpr l r g = f-pure W V FillingOf f g
  f-record_values names level here f (syntax.AlsoExpr e es) l r g = f-bind W V FillingOf FillingOf (by_position names level here f.left f e) _ (f-by_position names level here f.left f e l r g) (λ x q. f-record_values names level here x es l r q)

  f-record_rest : (names : Names) (level : Inside) (here : Context) (f : Filling) (o : OptionalExpr) → LevelForms W level → Around W V here → FillingOf f → Forms W V FillingOf (record_rest names level here f o)
  f-record_rest names level here f syntax.AbsentExpr l r g = f-pure W V FillingOf f g
  f-record_rest names level here f (syntax.PresentExpr e) l r g = f-bind W V (Maybe AssociationsOf) FillingOf (some_fields names level here f.done f.left e) _ (f-some_fields names level here f.done f.left e l r g) (λ x q. f-pure W V FillingOf (filling x [] f.over) q)

  f-record_parts : (names : Names) (level : Inside) (here : Context) (all : List Field) (ps : Contents) → LevelForms W level → Around W V here → Forms W V FillingOf (record_parts names level here all ps)
  f-record_parts names level here all (ByPosition es o) l r = f-bind W V FillingOf FillingOf (record_values names level here (filling (Some part.Nothing) all false) es) _ (f-record_values names level here (filling (Some part.Nothing) all false) es l r tt) (λ f q. f-record_rest names level here f o l r q)
  f-record_parts names level here all (ByAssociation as') l r = f-record_assocs names level here all (filling (Some part.Nothing) all false) as' l r tt

  f-filled : (P : ℕ → Type 0) (bracket cells : ℕ) (f : Filling) → P cells → FillingOf f → Forms W V (Maybe (MadeOf P)) (filled bracket cells f)
  f-filled P bracket cells f c g = f-if W V (Maybe (MadeOf P)) (f.over || not (length f.left == 0)) (fault bracket StaticRange) _ (f-fault W V (MadeOf P) bracket StaticRange) (f-pure W V (Maybe (MadeOf P)) (option_map (aggregate_part bracket cells) f.done) (some-aggregate P bracket cells f.done c g))

  -- ---- arrays

  abbrev RestOf : Option (Option TypedPart) → Type 0
  RestOf None = Unit {0}
  RestOf (Some v) = Maybe ItemOf v

  abbrev PlacingOf : Placing → Type 0
  PlacingOf p = Maybe AssociationsOf p.done × RestOf p.rest

  with-runs : (i : Option Iterated) (ms : TypedPart) (rs : Option (List Run)) (before v : Option TypedPart) → MentionsOf W V ms → Maybe AssociationsOf before → Maybe ItemOf v → Maybe AssociationsOf (with_runs i ms rs before v)
  with-runs i ms None before v m g h = tt
  with-runs i ms (Some rs) before v m g h = joint AssociationsOf ItemOf AssociationsOf (with_value rs i ms) before v g h (λ a b s t. with-value rs i ms a b m s t)

  with-ranges : (d : Dimension) (apart : ℕ) (i : Option Iterated) (ms : TypedPart) (p : Placing) (rs : List (ℤ × ℤ)) (v : Option TypedPart) → MentionsOf W V ms → PlacingOf p → Maybe ItemOf v → PlacingOf (with_ranges d apart i ms p rs v)
  with-ranges d apart i ms p rs v m g h = (with-runs i ms (runs_of d apart rs) p.done v m g.0 h, g.1)

  iterated-given : (d : Dimension) (apart n : ℕ) (p : Placing) (s : Option Static) (v : Option TypedPart) → Maybe (StaticOf W V) s → PlacingOf p → Maybe ItemOf v → PlacingOf (iterated_given d apart n p s v)
  iterated-given d apart n p None v m g h = (tt, g.1)
  iterated-given d apart n p (Some r) v m g h = with-ranges d apart (Some (record { parameter = n; first = r.known.low })) r.part p ((r.known.low, r.known.high) ∷ []) v m g h

  abbrev ChoosingOf : Choosing' → Type 0
  ChoosingOf c = MentionsOf W V c.mentions

  chosen-given : (d : Dimension) (apart : ℕ) (p : Placing) (c : Option Choosing') (v : Option TypedPart) → Maybe ChoosingOf c → PlacingOf p → Maybe ItemOf v → PlacingOf (chosen_given d apart p c v)
  chosen-given d apart p None v m g h = (tt, g.1)
  chosen-given d apart p (Some c) v m g h = by c.rest
    where
      by : (b : Bool) → PlacingOf (if b then with_rest p v else with_ranges d apart None c.mentions p c.ranges v)
      by true = (g.0, h)
      by false = with-ranges d apart None c.mentions p c.ranges v m g h

  abbrev ComponentForms : Component → Type 0
  ComponentForms component = (here : Context) (e : Expr) → Around W V here → Forms W V (Maybe ItemOf) (component here e)

  index-plain : (n : ℕ) (s : Option Static) → IsPlain (index_what n s)
  index-plain n None = tt
  index-plain n (Some s) = tt

  also-chosen : (c : Choosing') (x : Chosen) → ChoosingOf c → ChosenOf W V x → ChoosingOf (also_chosen c x)
  also-chosen c x g h = each-all (ExprOf W V) c.mentions x.part g h

  f-array_choice : (level : Inside) (here : Context) (k : Kind) (alone last : Bool) (made : Option Choosing') (c : Choice) → LevelForms W level → Around W V here → Maybe ChoosingOf made → Forms W V (Maybe ChoosingOf) (array_choice level here k alone last made c)
  f-array_choice level here k alone last made (syntax.Value s) l r g =
      f-bind W V (Maybe (ChosenOf W V)) (Maybe ChoosingOf) (chosen_value level here (Some k) s) _ (f-chosen_value W V level here (Some k) s l r) (λ c q. f-pure W V (Maybe ChoosingOf) (joined also_chosen made c) (joint ChoosingOf (ChosenOf W V) ChoosingOf also_chosen made c g q also-chosen))
  f-array_choice level here k alone last made (syntax.Span low high) l r g =
      f-bind W V (Maybe (ChosenOf W V)) (Maybe ChoosingOf) (chosen_span level here (Some k) low high) _ (f-chosen_span W V level here (Some k) low high l r) (λ c q. f-pure W V (Maybe ChoosingOf) (joined also_chosen made c) (joint ChoosingOf (ChosenOf W V) ChoosingOf also_chosen made c g q also-chosen))
  f-array_choice level here k alone last made (syntax.Others at) l r g =
      f-bind W V Any (Maybe ChoosingOf) (unless (alone && last) at StaticRange) _ (f-unless W V (alone && last) at StaticRange) (λ u q. f-pure W V (Maybe ChoosingOf) (option_map as_rest made) (mapped ChoosingOf ChoosingOf as_rest made g (λ c h. h)))

  f-array_choices : (level : Inside) (here : Context) (k : Kind) (alone last : Bool) (made : Option Choosing') (cs : Choices) → LevelForms W level → Around W V here → Maybe ChoosingOf made → Forms W V (Maybe ChoosingOf) (array_choices level here k alone last made cs)
  f-array_choices level here k alone last made syntax.NoChoice l r g = f-pure W V (Maybe ChoosingOf) made g
  f-array_choices level here k alone last made (syntax.AlsoChoice c cs) l r g = f-bind W V (Maybe ChoosingOf) (Maybe ChoosingOf) (array_choice level here k alone last made c) _ (f-array_choice level here k alone last made c l r g) (λ x q. f-array_choices level here k alone last x cs l r q)

  f-of_index_type : (k : Kind) (first : ℕ) (s : Static) → StaticOf W V s → Forms W V (Maybe (StaticOf W V)) (of_index_type k first s)
  f-of_index_type k first s h = f-if W V (Maybe (StaticOf W V)) (same s.known.kind k) (some s) (fault first WrongType) (f-some W V (StaticOf W V) s h) (f-fault W V (StaticOf W V) first WrongType)

  f-array_assoc : (names : Names) (level : Inside) (here : Context) (component : Component) (d : Dimension) (apart : ℕ) (last : Bool) (p : Placing) (a : Assoc) → LevelForms W level → Around W V here → ComponentForms component → PlacingOf p
      → Forms W V PlacingOf (array_assoc names level here component d apart last p a)
  unfolding array_assoc
  f-array_assoc names level here component d apart last p (syntax.Chosen c cs e) l r forms g =
      let start : Option Choosing' = Some (record { ranges = []; rest = false; mentions = part.Nothing }) in
      f-bind W V (Maybe ChoosingOf) PlacingOf (array_choices level here d.kind (is_alone cs) last start (syntax.AlsoChoice c cs)) _ (f-array_choices level here d.kind (is_alone cs) last start (syntax.AlsoChoice c cs) l r tt) (λ x q.
      f-bind W V (Maybe ItemOf) PlacingOf (component here e) _ (forms here e r) (λ v s. f-pure W V PlacingOf (chosen_given d apart p x v) (chosen-given d apart p x v q g s)))
  f-array_assoc names level here component d apart last p (syntax.Each at index x e) l r forms g =
      f-bind W V (Maybe (StaticOf W V)) PlacingOf (static_range level here false (Some d.kind) x) _ (f-static_range W V level here false (Some d.kind) x l r) (λ y q.
      f-bind W V (Maybe (StaticOf W V)) PlacingOf (given y (of_index_type d.kind (first_token.of_range x))) _ (f-given W V (StaticOf W V) (StaticOf W V) y (of_index_type d.kind (first_token.of_range x)) q (λ z i. f-of_index_type d.kind (first_token.of_range x) z i)) (λ s t.
      f-bind W V Any PlacingOf new_parameter _ (f-new_parameter W V) (λ n i.
      f-bind W V (Maybe ItemOf) PlacingOf (component (with_entry here (symbol names index) (index_what n s)) e) _
      (forms (with_entry here (symbol names index) (index_what n s)) e (with-entry W V here (symbol names index) (index_what n s) (plain-of W V (index_what n s) (index-plain n s)) r)) (λ v m.
      f-pure W V PlacingOf (iterated_given d apart n p s v) (iterated-given d apart n p s v t g m)))))

  f-array_assocs : (names : Names) (level : Inside) (here : Context) (component : Component) (d : Dimension) (apart : ℕ) (p : Placing) (as' : Assocs) → LevelForms W level → Around W V here → ComponentForms component → PlacingOf p
      → Forms W V PlacingOf (array_assocs names level here component d apart p as')
  f-array_assocs names level here component d apart p syntax.NoAssoc l r forms g = f-pure W V PlacingOf p g
  f-array_assocs names level here component d apart p (syntax.AlsoAssoc a as') l r forms g =
      f-bind W V PlacingOf PlacingOf (array_assoc names level here component d apart (is_final as') p a) _ (f-array_assoc names level here component d apart (is_final as') p a l r forms g) (λ q s. f-array_assocs names level here component d apart q as' l r forms s)

  f-array_values : (here : Context) (component : Component) (d : Dimension) (apart : ℕ) (z : ℤ) (p : Placing) (es : Exprs) → Around W V here → ComponentForms component → PlacingOf p → Forms W V PlacingOf (array_values here component d apart z p es)
  f-array_values here component d apart z p syntax.NoExpr r forms g = f-pure W V PlacingOf p g
  f-array_values here component d apart z p (syntax.AlsoExpr e es) r forms g =
      f-bind W V (Maybe ItemOf) PlacingOf (component here e) _ (forms here e r) (λ v q.
      f-array_values here component d apart (z +ℤ pos 1) (with_ranges d apart None part.Nothing p ((z, z) ∷ []) v) es r forms (with-ranges d apart None part.Nothing p ((z, z) ∷ []) v tt g q))

  f-array_rest : (here : Context) (component : Component) (o : OptionalExpr) (p : Placing) → Around W V here → ComponentForms component → PlacingOf p → Forms W V PlacingOf (array_rest here component o p)
  f-array_rest here component syntax.AbsentExpr p r forms g = f-pure W V PlacingOf p g
  f-array_rest here component (syntax.PresentExpr e) p r forms g = f-bind W V (Maybe ItemOf) PlacingOf (component here e) _ (forms here e r) (λ v q. f-pure W V PlacingOf (with_rest p v) (g.0, q))

  f-array_placed : (names : Names) (level : Inside) (here : Context) (component : Component) (d : Dimension) (apart : ℕ) (ps : Contents) → LevelForms W level → Around W V here → ComponentForms component → Forms W V PlacingOf (array_placed names level here component d apart ps)
  f-array_placed names level here component d apart (ByPosition es o) l r forms =
      f-bind W V PlacingOf PlacingOf (array_values here component d apart d.low nothing_placed es) (array_rest here component o) (f-array_values here component d apart d.low nothing_placed es r forms (tt, tt)) (λ p q. f-array_rest here component o p r forms q)
  f-array_placed names level here component d apart (ByAssociation as') l r forms = f-array_assocs names level here component d apart nothing_placed as' l r forms (tt, tt)

  f-covered_alone : (P : ℕ → Type 0) (bracket cells : ℕ) (made : Option TypedPart) (os : List (ℤ × ℤ)) → P cells → Maybe AssociationsOf made → Forms W V (Maybe (MadeOf P)) (covered_alone bracket cells made os)
  f-covered_alone P bracket cells made os c g =
      f-if W V (Maybe (MadeOf P)) (length os == 0) _ (fault bracket StaticRange) (f-pure W V (Maybe (MadeOf P)) (option_map (aggregate_part bracket cells) made) (some-aggregate P bracket cells made c g)) (f-fault W V (MadeOf P) bracket StaticRange)

  f-covered : (P : ℕ → Type 0) (bracket : ℕ) (d : Dimension) (apart cells : ℕ) (p : Placing) (os : Option (List (ℤ × ℤ))) (v : Option (Option TypedPart)) → P cells → PlacingOf p → RestOf v → Forms W V (Maybe (MadeOf P)) (covered bracket d apart cells p os v)
  f-covered P bracket d apart cells p None v c g h = f-fault W V (MadeOf P) bracket StaticRange
  f-covered P bracket d apart cells p (Some os) None c g h = f-covered_alone P bracket cells p.done os c g.0
  f-covered P bracket d apart cells p (Some os) (Some v) c g h =
      let made = with_runs None part.Nothing (runs_of d apart os) p.done v in
      f-pure W V (Maybe (MadeOf P)) (option_map (aggregate_part bracket cells) made) (some-aggregate P bracket cells made c (with-runs None part.Nothing (runs_of d apart os) p.done v tt g.0 h))

  f-dimension_of : (P : ℕ → Type 0) (names : Names) (level : Inside) (here : Context) (bracket : ℕ) (component : Component) (d : Dimension) (apart : ℕ) (ps : Contents) → LevelForms W level → Around W V here → ComponentForms component → P (extent d * apart)
      → Forms W V (Maybe (MadeOf P)) (dimension_of names level here bracket component d apart ps)
  unfolding dimension_of
  f-dimension_of P names level here bracket component d apart ps l r forms c =
      f-where_clean W V PlacingOf (MadeOf P) (array_placed names level here component d apart ps) _ (f-array_placed names level here component d apart ps l r forms) (λ p q. f-covered P bracket d apart (extent d * apart) p (gaps_of d.low d.high p.ranges) p.rest c q q.1)

  f-no_aggregate : (names : Names) (level : Inside) (here : Context) (e : Expr) → LevelForms W level → Around W V here → Forms W V (Maybe ItemOf) (no_aggregate names level here e)
  f-no_aggregate names level here e l r =
      f-bind W V (Finding W V) (Maybe ItemOf) (expr names level here wanted.Other e) _ (f-expr W V names level here wanted.Other e l r) (λ x q. f-given W V (FoundOf W V) ItemOf x _ q (λ f s. f-fault W V ItemOf (first_token.of_expr e) WrongType))

  inner-value : (f : Known) (x : TypedPart) → KnownOf W V f x → Maybe ItemOf (inner_value f x)
  inner-value (known.Rest first) x h = h
  inner-value f x h = tt

  f-inner_aggregate : (names : Names) (level : Inside) (here : Context) (n i : ℕ) (e : Expr) (b : Bool) → LevelForms W level → Around W V here → Forms W V (Maybe ItemOf) (inner_aggregate names level here n i e b)
  f-inner_aggregate names level here n i e false l r = f-no_aggregate names level here e l r
  f-inner_aggregate names level here n i e true l r =
      f-bind W V (Finding W V) (Maybe ItemOf) (expr names level here (wanted.Rest n i) e) _ (f-expr W V names level here (wanted.Rest n i) e l r) (λ x q. f-given W V (FoundOf W V) ItemOf x _ q (λ f s. f-pure W V (Maybe ItemOf) (inner_value f.known f.part) (inner-value f.known f.part s)))

  f-component_value : (names : Names) (level : Inside) (here : Context) (s : Subtype) (e : Expr) → LevelForms W level → Around W V here → Forms W V (Maybe ItemOf) (value_for names level here s e)
  f-component_value names level here s e l r = f-weaken W V (Maybe (ValueOf W V s)) (Maybe ItemOf) (value_for names level here s e) (f-value_for W V names level here s e l r) by
    where
      by : (v : Option TypedPart) → Maybe (ValueOf W V s) v → Maybe ItemOf v
      by None h = tt
      by (Some v) h = h.0

  component-forms : (names : Names) (level : Inside) (n i : ℕ) (b : Bool) (s : Subtype) → LevelForms W level → ComponentForms (component_at names level n i b s)
  component-forms names level n i true s l here e r = f-component_value names level here s e l r
  component-forms names level n i false s l here e r = f-inner_aggregate names level here n (i + 1) e (is_aggregate e) l r

  f-array_at : (P : ℕ → Type 0) (names : Names) (level : Inside) (here : Context) (bracket n i : ℕ) (ds : List Dimension) (s : Subtype) (cells : ℕ) (ps : Contents) → LevelForms W level → Around W V here
      → ((d : Dimension) (rest : List Dimension) → ds ≡ d ∷ rest → P (extent d * array_cells rest cells)) → Forms W V (Maybe (MadeOf P)) (array_at names level here bracket n i ds s cells ps)
  f-array_at P names level here bracket n i [] s cells ps l r c = f-fault W V (MadeOf P) bracket WrongType
  f-array_at P names level here bracket n i (d ∷ ds) s cells ps l r c =
      f-dimension_of P names level here bracket (component_at names level n i (is_last ds) s) d (array_cells ds cells) ps l r (component-forms names level n i (is_last ds) s l) (c d ds refl)

  -- how many cells an aggregate of an entry of the table has
  abbrev CellsOf : (ℕ → Type 0) → ℕ → Log → Option Shape → Type 0
  CellsOf P i log (Some (shape.Record fs cells)) = P cells
  CellsOf P i log (Some (shape.Array ds c k cells)) = (d : Dimension) (rest : List Dimension) → drop i ds ≡ d ∷ rest → P (extent d * array_cells rest (cells_in log c))
  CellsOf P i log t = Unit {0}

  f-composite_at : (P : ℕ → Type 0) (names : Names) (level : Inside) (here : Context) (bracket n i : ℕ) (log : Log) (t : Option Shape) (ps : Contents) → LevelForms W level → Around W V here → CellsOf P i log t
      → Forms W V (Maybe (MadeOf P)) (composite_at names level here bracket n i log t ps)
  f-composite_at P names level here bracket n i log (Some (shape.Record fs cells)) ps l r c =
      f-where_clean W V FillingOf (MadeOf P) (record_parts names level here fs ps) (filled bracket cells) (f-record_parts names level here fs ps l r) (λ f q. f-filled P bracket cells f c q)
  f-composite_at P names level here bracket n i log (Some (shape.Array ds s k cells)) ps l r c = f-array_at P names level here bracket n i (drop i ds) s (cells_in log s) ps l r c
  f-composite_at P names level here bracket n i log (Some (shape.Scalar s)) ps l r c = f-fault W V (MadeOf P) bracket WrongType
  f-composite_at P names level here bracket n i log None ps l r c = f-fault W V (MadeOf P) bracket WrongType

  -- ---- aggregates

  f-composite_found : (P : ℕ → Type 0) (names : Names) (level : Inside) (here : Context) (bracket n i : ℕ) (log : Log) (t : Option Shape) (ps : Contents) (make : TypedPart → Found) → ((x : TypedPart) → MadeOf P x → FoundOf W V (make x)) → LevelForms W level → Around W V here → CellsOf P i log t
      → Forms W V (Finding W V) (composite_at names level here bracket n i log t ps >>= λ c. pure (option_map make c))
  f-composite_found P names level here bracket n i log t ps make f l r c =
      f-bind W V (Maybe (MadeOf P)) (Finding W V) (composite_at names level here bracket n i log t ps) _ (f-composite_at P names level here bracket n i log t ps l r c) (λ x q. f-pure W V (Finding W V) (option_map make x) (mapped (MadeOf P) (FoundOf W V) make x q f))

  f-exprs_alone : (names : Names) (level : Inside) (here : Context) (es : Exprs) → LevelForms W level → Around W V here → Forms W V Any (exprs_alone names level here es)
  f-exprs_alone names level here syntax.NoExpr l r = f-pure W V Any tt tt
  f-exprs_alone names level here (syntax.AlsoExpr e es) l r = f-bind W V Any Any (judged_alone names level here e) _ (f-judged_alone W V names level here e l r) (λ u q. f-exprs_alone names level here es l r)

  f-optional_alone : (names : Names) (level : Inside) (here : Context) (o : OptionalExpr) → LevelForms W level → Around W V here → Forms W V Any (optional_alone names level here o)
  f-optional_alone names level here syntax.AbsentExpr l r = f-pure W V Any tt tt
  f-optional_alone names level here (syntax.PresentExpr e) l r = f-judged_alone W V names level here e l r

  f-assocs_alone : (names : Names) (level : Inside) (here : Context) (as' : Assocs) → LevelForms W level → Around W V here → Forms W V Any (assocs_alone names level here as')
  f-assocs_alone names level here syntax.NoAssoc l r = f-pure W V Any tt tt
  f-assocs_alone names level here (syntax.AlsoAssoc a as') l r = f-bind W V Any Any (judged_alone names level here (assoc_value a)) _ (f-judged_alone W V names level here (assoc_value a) l r) (λ u q. f-assocs_alone names level here as' l r)

  f-contents_alone : (names : Names) (level : Inside) (here : Context) (ps : Contents) → LevelForms W level → Around W V here → Forms W V Any (contents_alone names level here ps)
  f-contents_alone names level here (ByPosition es o) l r = f-bind W V Any Any (exprs_alone names level here es) _ (f-exprs_alone names level here es l r) (λ u q. f-optional_alone names level here o l r)
  f-contents_alone names level here (ByAssociation as') l r = f-assocs_alone names level here as' l r

  f-unknown : (names : Names) (level : Inside) (here : Context) (bracket : ℕ) (ps : Contents) → LevelForms W level → Around W V here → Forms W V (Finding W V) (where_clean (contents_alone names level here ps) (λ u. fault bracket WrongType))
  f-unknown names level here bracket ps l r = f-where_clean W V Any (FoundOf W V) (contents_alone names level here ps) (λ u. fault bracket WrongType) (f-contents_alone names level here ps l r) (λ u q. f-fault W V (FoundOf W V) bracket WrongType)

  any-cells : (i : ℕ) (log : Log) (t : Option Shape) → CellsOf (λ k. Unit {0}) i log t
  any-cells i log None = tt
  any-cells i log (Some (shape.Scalar s)) = tt
  any-cells i log (Some (shape.Record fs cells)) = tt
  any-cells i log (Some (shape.Array ds c k cells)) = λ d rest e. tt

  all-cells-of : (n : ℕ) (log : Log) → log.shapes ≡ W.shapes → (t : Option Shape) → shape_in log n ≡ t → CellsOf (λ k. k ≤ size (subtype_shape W.program n)) 0 log t
  all-cells-of n log g None e = tt
  all-cells-of n log g (Some (shape.Scalar s)) e = tt
  all-cells-of n log g (Some (shape.Record fs cells)) e = W.of_fields log g n fs cells e
  all-cells-of n log g (Some (shape.Array ds c k cells)) e = λ d rest q. W.of_dimensions log g n d rest c k cells (e ∙ ap (λ x. Some (shape.Array x c k cells)) q)

  pub f-aggregate : (names : Names) (level : Inside) (here : Context) (want : Wanted) (bracket : ℕ) (ps : Contents) → LevelForms W level → Around W V here → Forms W V (Finding W V) (aggregate names level here want bracket ps)
  unfolding aggregate
  f-aggregate names level here (wanted.Composite n) bracket ps l r =
      record { at = λ log g k. (f-composite_found (λ m. m ≤ size (subtype_shape W.program n)) names level here bracket n 0 log (shape_in log n) ps (composite_found bracket n) (λ x h. h) l r (all-cells-of n log g (shape_in log n) refl)).at log g k }
  f-aggregate names level here (wanted.Rest n i) bracket ps l r =
      record { at = λ log g k. (f-composite_found (λ m. Unit {0}) names level here bracket n i log (shape_in log n) ps (rest_found bracket) (λ x h. h.0) l r (any-cells i log (shape_in log n))).at log g k }
  f-aggregate names level here wanted.Unknown bracket ps l r = f-none W V (FoundOf W V)
  f-aggregate names level here wanted.Other bracket ps l r = f-unknown names level here bracket ps l r
  f-aggregate names level here wanted.Text bracket ps l r = f-unknown names level here bracket ps l r
