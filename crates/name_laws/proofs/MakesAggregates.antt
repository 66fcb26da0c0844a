-- What is found fits: aggregates.
use Rattle.std.proofs.Common.{ℕ, ℤ, pos, List, [], ◌∷◌, length, Option, Some, None, Bool, true, false, if◌then◌else◌, option_map, ◌==◌, ◌+◌, drop}
use Rattle.std.specs.Prelude.{◌+ℤ◌, ◌*◌, not, ◌||◌}
use Rattle.syntax_tree.specs.FirstTokens as first_token
use Rattle.syntax_tree.specs.Syntax as syntax
use Rattle.syntax_tree.specs.Syntax.{Assoc, Assocs, Expr, Exprs, OptionalExpr}
use Rattle.typed_tree.specs.Decoded as part
use Rattle.typed_tree.specs.Decoded.{TypedPart, as_association, as_associations}
use Rattle.typed_tree.specs.Latest.{turned}
use Rattle.typed_tree.specs.Syntax.{Associations}
use Rattle.typed_tree.specs.declared.expressions.Iterated.{Iterated}
use Rattle.typed_tree.specs.declared.expressions.Run.{Run}
use Rattle.name_rules.specs.Aggregates.{ByAssociation, ByPosition, Choosing', Component, Contents, Filling, Placing, aggregate, aggregate_part, array_assoc, array_assocs, array_at, array_choices, array_of, array_placed, array_rest, array_values, by_position, chosen_given, component_at, composite_at, composite_found, contents_alone, covered, covered_alone, dimension_of, field_choices, field_run, field_value, fields_value, filled, filling, gaps_of, index_what, inner_aggregate, inner_value, is_alone, is_final, is_last, iterated_given, no_aggregate, nothing_placed, of_index_type, record_assoc, record_assocs, record_parts, record_rest, record_values, rest_found, runs_of, some_fields, with_ranges, with_rest, with_runs, with_value}
use Rattle.name_rules.specs.Expressions.{Inside, expr, judged_alone, value_for}
use Rattle.name_rules.specs.Found.{Found}
use Rattle.name_rules.specs.Judging.{◌>>=◌, breaks, fault, given, joined, pure, read, where_clean}
use Rattle.name_rules.specs.Names.{is_record}
use Rattle.name_rules.specs.Parts.{new_parameter}
use Rattle.name_rules.specs.Ranges.{Static, static_range}
use Rattle.name_rules.specs.Scope.{entry, with_entry}
use Rattle.name_rules.specs.Shapes.{is_aggregate}
use Rattle.name_rules.specs.Symbols.{symbol}
use Rattle.name_rules.specs.Types.{array_cells, cells_in, cells_of_shape, component_of, dimensions_of, extent, fields_of, shape_in}
use Rattle.name_rules.specs.declared.found.Found.TheVariants as known
use Rattle.name_rules.specs.declared.found.Found.{Found as Known}
use Rattle.name_rules.specs.declared.log.Dimension.{Dimension}
use Rattle.name_rules.specs.declared.log.Field.{Field}
use Rattle.name_rules.specs.declared.log.Log.{Log}
use Rattle.name_rules.specs.declared.log.Rule.TheVariants.{StaticRange, WrongType}
use Rattle.name_rules.specs.declared.log.Shape.{Shape}
use Rattle.name_rules.specs.declared.scope.Context.{Context}
use Rattle.name_rules.specs.declared.scope.Names.{Names}
use Rattle.name_rules.specs.declared.types.Subtype.{Subtype}
use Rattle.name_rules.specs.declared.types.Wanted.TheVariants as wanted
use Rattle.name_rules.specs.declared.types.Wanted.{Wanted}
use Rattle.name_laws.proofs.Based.{spanning}
use Rattle.name_laws.proofs.KeepsAggregates.{k-array_choices, k-contents_alone, k-field_choices, k-of_index_type}
use Rattle.name_laws.proofs.KeepsParts.{k-new_parameter}
use Rattle.name_laws.proofs.KeepsRanges.{k-static_range}
use Rattle.name_laws.proofs.Makes.{Any, Each, Makes, Maybe, each-turned, joint, m-bind, m-breaks, m-fault, m-given, m-if, m-kept, m-none, m-pure, m-read, m-where_clean, mapped}
use Rattle.name_laws.proofs.MakesExpressions.{Finding, LevelFits, m-expr, m-judged_alone, m-value_for}
use Rattle.name_laws.proofs.MakesRanges.{are-based}
use Rattle.name_laws.proofs.MakesValues.{CompositeOf, FoundOf, KnownOf, ValueOf}
use Rattle.name_laws.proofs.Walk.{k-given}
use Rattle.name_laws.specs.Based.{AreBased, IsBasedWhat}
use Rattle.name_laws.specs.Classes.{AssociationsFit}

-- ---- associations

abbrev IsAssociation : TypedPart → Type 0
IsAssociation p = (as' : Associations) → AssociationsFit as' → AssociationsFit (as_association p as')

abbrev AssociationsOf : TypedPart → Type 0
AssociationsOf x = Each IsAssociation x

associations-list : (x : TypedPart) → AssociationsOf x → AssociationsFit (as_associations x)
associations-list (part.Cons p q) h = h.0 (as_associations q) (associations-list q h.1)
associations-list x h = tt

aggregate-part : (bracket cells : ℕ) (made : TypedPart) → AssociationsOf made → CompositeOf (aggregate_part bracket cells made)
aggregate-part bracket cells made h = associations-list (turned made) (each-turned IsAssociation made h)

some-aggregate : (bracket cells : ℕ) (made : Option TypedPart) → Maybe AssociationsOf made → Maybe CompositeOf (option_map (aggregate_part bracket cells) made)
some-aggregate bracket cells made h = mapped AssociationsOf CompositeOf (aggregate_part bracket cells) made h (aggregate-part bracket cells)

with-value : (rs : List Run) (i : Option Iterated) (ms made v : TypedPart) → AssociationsOf made → ValueOf v → AssociationsOf (with_value rs i ms made v)
with-value rs i ms made v g h = ((λ as' r. (h, r)), g)

-- ---- records

m-field_value : (names : Names) (level : Inside) (here : Context) (made : Option TypedPart) (f : Field) (e : Expr) → LevelFits level → AreBased here.scope → Maybe AssociationsOf made → Makes (Maybe AssociationsOf) (field_value names level here made f e)
unfolding field_value
m-field_value names level here made f e l r g =
    m-bind (Maybe ValueOf) (Maybe AssociationsOf) (value_for names level here f.subtype e) _ (m-value_for names level here f.subtype e l r) (λ v q.
    m-bind Any (Maybe AssociationsOf) (read (λ log. field_run log f)) _ (m-read Any (λ log. field_run log f) (λ log h. tt)) (λ x s.
    m-pure (Maybe AssociationsOf) (joined (with_value (x ∷ []) None part.Nothing) made v) (joint AssociationsOf ValueOf AssociationsOf (with_value (x ∷ []) None part.Nothing) made v g q (with-value (x ∷ []) None part.Nothing))))

m-fields_value : (names : Names) (level : Inside) (here : Context) (made : Option TypedPart) (fs : List Field) (e : Expr) → LevelFits level → AreBased here.scope → Maybe AssociationsOf made → Makes (Maybe AssociationsOf) (fields_value names level here made fs e)
m-fields_value names level here made [] e l r g = m-pure (Maybe AssociationsOf) made g
m-fields_value names level here made (f ∷ fs) e l r g = m-bind (Maybe AssociationsOf) (Maybe AssociationsOf) (field_value names level here made f e) _ (m-field_value names level here made f e l r g) (λ a q. m-fields_value names level here a fs e l r q)

m-some_fields : (names : Names) (level : Inside) (here : Context) (made : Option TypedPart) (fs : List Field) (e : Expr) → LevelFits level → AreBased here.scope → Maybe AssociationsOf made → Makes (Maybe AssociationsOf) (some_fields names level here made fs e)
m-some_fields names level here made [] e l r g = m-bind Any (Maybe AssociationsOf) (judged_alone names level here e) _ (m-judged_alone names level here e l r) (λ u q. m-pure (Maybe AssociationsOf) made g)
m-some_fields names level here made (f ∷ fs) e l r g = m-fields_value names level here made (f ∷ fs) e l r g

abbrev FillingOf : Filling → Type 0
FillingOf f = Maybe AssociationsOf f.done

m-by_position : (names : Names) (level : Inside) (here : Context) (fs : List Field) (f : Filling) (e : Expr) → LevelFits level → AreBased here.scope → FillingOf f → Makes FillingOf (by_position names level here fs f e)
m-by_position names level here [] f e l r g = m-bind Any FillingOf (judged_alone names level here e) _ (m-judged_alone names level here e l r) (λ u q. m-pure FillingOf (filling f.done [] true) g)
m-by_position names level here (x ∷ xs) f e l r g = m-bind (Maybe AssociationsOf) FillingOf (field_value names level here f.done x e) _ (m-field_value names level here f.done x e l r g) (λ a q. m-pure FillingOf (filling a xs f.over) q)

m-record_assoc : (names : Names) (level : Inside) (here : Context) (all : List Field) (last : Bool) (f : Filling) (a : Assoc) → LevelFits level → AreBased here.scope → FillingOf f → Makes FillingOf (record_assoc names level here all last f a)
m-record_assoc names level here all last f (syntax.Chosen c cs e) l r g =
    let p = field_choices names all (is_alone cs) last f.left [] (syntax.AlsoChoice c cs) in
    m-bind Any FillingOf p _ (m-kept p (k-field_choices spanning names all (is_alone cs) last f.left [] (syntax.AlsoChoice c cs) tt)) (λ x q.
    m-bind (Maybe AssociationsOf) FillingOf (some_fields names level here f.done x.0 e) _ (m-some_fields names level here f.done x.0 e l r g) (λ y s. m-pure FillingOf (filling y x.1 f.over) s))
m-record_assoc names level here all last f (syntax.Each at index x e) l r g = m-bind Any FillingOf (breaks at WrongType) _ (m-breaks at WrongType) (λ u q. m-pure FillingOf f g)

m-record_assocs : (names : Names) (level : Inside) (here : Context) (all : List Field) (f : Filling) (as' : Assocs) → LevelFits level → AreBased here.scope → FillingOf f → Makes FillingOf (record_assocs names level here all f as')
m-record_assocs names level here all f syntax.NoAssoc l r g = m-pure FillingOf f g
m-record_assocs names level here all f (syntax.AlsoAssoc a as') l r g = m-bind FillingOf FillingOf (record_assoc names level here all (is_final as') f a) _ (m-record_assoc names level here all (is_final as') f a l r g) (λ x q. m-record_assocs names level here all x as' l r q)

m-record_values : (names : Names) (level : Inside) (here : Context) (f : Filling) (es : Exprs) → LevelFits level → AreBased here.scope → FillingOf f → Makes FillingOf (record_values names level here f es)
m-record_values names level here f syntax.NoExpr l r g = m-pure FillingOf f g
m-record_values names level here f (syntax.AlsoExpr e es) l r g = m-bind FillingOf FillingOf (by_position names level here f.left f e) _ (m-by_position names level here f.left f e l r g) (λ x q. m-record_values names level here x es l r q)

m-record_rest : (names : Names) (level : Inside) (here : Context) (f : Filling) (o : OptionalExpr) → LevelFits level → AreBased here.scope → FillingOf f → Makes FillingOf (record_rest names level here f o)
m-record_rest names level here f syntax.AbsentExpr l r g = m-pure FillingOf f g
m-record_rest names level here f (syntax.PresentExpr e) l r g = m-bind (Maybe AssociationsOf) FillingOf (some_fields names level here f.done f.left e) _ (m-some_fields names level here f.done f.left e l r g) (λ x q. m-pure FillingOf (filling x [] f.over) q)

m-record_parts : (names : Names) (level : Inside) (here : Context) (all : List Field) (ps : Contents) → LevelFits level → AreBased here.scope → Makes FillingOf (record_parts names level here all ps)
m-record_parts names level here all (ByPosition es o) l r = m-bind FillingOf FillingOf (record_values names level here (filling (Some part.Nothing) all false) es) _ (m-record_values names level here (filling (Some part.Nothing) all false) es l r tt) (λ f q. m-record_rest names level here f o l r q)
m-record_parts names level here all (ByAssociation as') l r = m-record_assocs names level here all (filling (Some part.Nothing) all false) as' l r tt

m-filled : (bracket cells : ℕ) (f : Filling) → FillingOf f → Makes (Maybe CompositeOf) (filled bracket cells f)
m-filled bracket cells f g = m-if (Maybe CompositeOf) (f.over || not (length f.left == 0)) (fault bracket StaticRange) _ (m-fault CompositeOf bracket StaticRange) (m-pure (Maybe CompositeOf) (option_map (aggregate_part bracket cells) f.done) (some-aggregate bracket cells f.done g))

-- ---- arrays

abbrev RestOf : Option (Option TypedPart) → Type 0
RestOf None = Unit {0}
RestOf (Some v) = Maybe ValueOf v

abbrev PlacingOf : Placing → Type 0
PlacingOf p = Maybe AssociationsOf p.done × RestOf p.rest

with-runs : (i : Option Iterated) (ms : TypedPart) (rs : Option (List Run)) (before v : Option TypedPart) → Maybe AssociationsOf before → Maybe ValueOf v → Maybe AssociationsOf (with_runs i ms rs before v)
with-runs i ms None before v g h = tt
with-runs i ms (Some rs) before v g h = joint AssociationsOf ValueOf AssociationsOf (with_value rs i ms) before v g h (with-value rs i ms)

with-ranges : (d : Dimension) (apart : ℕ) (i : Option Iterated) (ms : TypedPart) (p : Placing) (rs : List (ℤ × ℤ)) (v : Option TypedPart) → PlacingOf p → Maybe ValueOf v → PlacingOf (with_ranges d apart i ms p rs v)
with-ranges d apart i ms p rs v g h = (with-runs i ms (runs_of d apart rs) p.done v g.0 h, g.1)

iterated-given : (d : Dimension) (apart n : ℕ) (p : Placing) (s : Option Static) (v : Option TypedPart) → PlacingOf p → Maybe ValueOf v → PlacingOf (iterated_given d apart n p s v)
iterated-given d apart n p None v g h = (tt, g.1)
iterated-given d apart n p (Some r) v g h = with-ranges d apart (Some (record { parameter = n; first = r.known.low })) r.part p ((r.known.low, r.known.high) ∷ []) v g h

chosen-given : (d : Dimension) (apart : ℕ) (p : Placing) (c : Option Choosing') (v : Option TypedPart) → PlacingOf p → Maybe ValueOf v → PlacingOf (chosen_given d apart p c v)
chosen-given d apart p None v g h = (tt, g.1)
chosen-given d apart p (Some c) v g h = by c.rest
  where
    by : (b : Bool) → PlacingOf (if b then with_rest p v else with_ranges d apart None c.mentions p c.ranges v)
    by true = (g.0, h)
    by false = with-ranges d apart None c.mentions p c.ranges v g h

abbrev ComponentFits : Component → Type 0
ComponentFits component = (here : Context) (e : Expr) → AreBased here.scope → Makes (Maybe ValueOf) (component here e)

index-based : (n : ℕ) (s : Option Static) → IsBasedWhat (index_what n s)
index-based n None = tt
index-based n (Some s) = tt

m-array_assoc : (names : Names) (level : Inside) (here : Context) (component : Component) (d : Dimension) (apart : ℕ) (last : Bool) (p : Placing) (a : Assoc) → LevelFits level → AreBased here.scope → ComponentFits component → PlacingOf p
    → Makes PlacingOf (array_assoc names level here component d apart last p a)
unfolding array_assoc
m-array_assoc names level here component d apart last p (syntax.Chosen c cs e) l r fits g =
    let start = Some (record { ranges = []; rest = false; mentions = part.Nothing }) in
    let j = array_choices level here d.kind (is_alone cs) last start (syntax.AlsoChoice c cs) in
    m-bind Any PlacingOf j _ (m-kept j (k-array_choices spanning level here d.kind (is_alone cs) last start (syntax.AlsoChoice c cs) l.keeps)) (λ x q.
    m-bind (Maybe ValueOf) PlacingOf (component here e) _ (fits here e r) (λ v s. m-pure PlacingOf (chosen_given d apart p x v) (chosen-given d apart p x v g s)))
m-array_assoc names level here component d apart last p (syntax.Each at index x e) l r fits g =
    let j = static_range level here false (Some d.kind) x in
    m-bind Any PlacingOf j _ (m-kept j (k-static_range spanning level here false (Some d.kind) x l.keeps)) (λ y q.
    m-bind Any PlacingOf (given y (of_index_type d.kind (first_token.of_range x))) _ (m-kept (given y (of_index_type d.kind (first_token.of_range x))) (k-given spanning y (of_index_type d.kind (first_token.of_range x)) (λ z. k-of_index_type spanning d.kind (first_token.of_range x) z))) (λ s t.
    m-bind Any PlacingOf new_parameter _ (m-kept new_parameter (k-new_parameter spanning)) (λ n i.
    m-bind (Maybe ValueOf) PlacingOf (component (with_entry here (symbol names index) (index_what n s)) e) _
    (fits (with_entry here (symbol names index) (index_what n s)) e (are-based here.scope (entry (symbol names index) (index_what n s) ∷ []) r (index-based n s, tt))) (λ v m.
    m-pure PlacingOf (iterated_given d apart n p s v) (iterated-given d apart n p s v g m)))))

m-array_assocs : (names : Names) (level : Inside) (here : Context) (component : Component) (d : Dimension) (apart : ℕ) (p : Placing) (as' : Assocs) → LevelFits level → AreBased here.scope → ComponentFits component → PlacingOf p
    → Makes PlacingOf (array_assocs names level here component d apart p as')
m-array_assocs names level here component d apart p syntax.NoAssoc l r fits g = m-pure PlacingOf p g
m-array_assocs names level here component d apart p (syntax.AlsoAssoc a as') l r fits g =
    m-bind PlacingOf PlacingOf (array_assoc names level here component d apart (is_final as') p a) _ (m-array_assoc names level here component d apart (is_final as') p a l r fits g) (λ q s. m-array_assocs names level here component d apart q as' l r fits s)

m-array_values : (here : Context) (component : Component) (d : Dimension) (apart : ℕ) (z : ℤ) (p : Placing) (es : Exprs) → AreBased here.scope → ComponentFits component → PlacingOf p → Makes PlacingOf (array_values here component d apart z p es)
m-array_values here component d apart z p syntax.NoExpr r fits g = m-pure PlacingOf p g
m-array_values here component d apart z p (syntax.AlsoExpr e es) r fits g =
    m-bind (Maybe ValueOf) PlacingOf (component here e) _ (fits here e r) (λ v q.
    m-array_values here component d apart (z +ℤ pos 1) (with_ranges d apart None part.Nothing p ((z, z) ∷ []) v) es r fits (with-ranges d apart None part.Nothing p ((z, z) ∷ []) v g q))

m-array_rest : (here : Context) (component : Component) (o : OptionalExpr) (p : Placing) → AreBased here.scope → ComponentFits component → PlacingOf p → Makes PlacingOf (array_rest here component o p)
m-array_rest here component syntax.AbsentExpr p r fits g = m-pure PlacingOf p g
m-array_rest here component (syntax.PresentExpr e) p r fits g = m-bind (Maybe ValueOf) PlacingOf (component here e) _ (fits here e r) (λ v q. m-pure PlacingOf (with_rest p v) (g.0, q))

m-array_placed : (names : Names) (level : Inside) (here : Context) (component : Component) (d : Dimension) (apart : ℕ) (ps : Contents) → LevelFits level → AreBased here.scope → ComponentFits component → Makes PlacingOf (array_placed names level here component d apart ps)
m-array_placed names level here component d apart (ByPosition es o) l r fits =
    m-bind PlacingOf PlacingOf (array_values here component d apart d.low nothing_placed es) (array_rest here component o) (m-array_values here component d apart d.low nothing_placed es r fits (tt, tt)) (λ p q. m-array_rest here component o p r fits q)
m-array_placed names level here component d apart (ByAssociation as') l r fits = m-array_assocs names level here component d apart nothing_placed as' l r fits (tt, tt)

m-covered_alone : (bracket cells : ℕ) (made : Option TypedPart) (os : List (ℤ × ℤ)) → Maybe AssociationsOf made → Makes (Maybe CompositeOf) (covered_alone bracket cells made os)
m-covered_alone bracket cells made os g =
    m-if (Maybe CompositeOf) (length os == 0) _ (fault bracket StaticRange) (m-pure (Maybe CompositeOf) (option_map (aggregate_part bracket cells) made) (some-aggregate bracket cells made g)) (m-fault CompositeOf bracket StaticRange)

m-covered : (bracket : ℕ) (d : Dimension) (apart cells : ℕ) (p : Placing) (os : Option (List (ℤ × ℤ))) (v : Option (Option TypedPart)) → PlacingOf p → RestOf v → Makes (Maybe CompositeOf) (covered bracket d apart cells p os v)
m-covered bracket d apart cells p None v g h = m-fault CompositeOf bracket StaticRange
m-covered bracket d apart cells p (Some os) None g h = m-covered_alone bracket cells p.done os g.0
m-covered bracket d apart cells p (Some os) (Some v) g h =
    let made = with_runs None part.Nothing (runs_of d apart os) p.done v in
    m-pure (Maybe CompositeOf) (option_map (aggregate_part bracket cells) made) (some-aggregate bracket cells made (with-runs None part.Nothing (runs_of d apart os) p.done v g.0 h))

m-dimension_of : (names : Names) (level : Inside) (here : Context) (bracket : ℕ) (component : Component) (d : Dimension) (apart : ℕ) (ps : Contents) → LevelFits level → AreBased here.scope → ComponentFits component
    → Makes (Maybe CompositeOf) (dimension_of names level here bracket component d apart ps)
unfolding dimension_of
m-dimension_of names level here bracket component d apart ps l r fits =
    m-where_clean PlacingOf CompositeOf (array_placed names level here component d apart ps) _ (m-array_placed names level here component d apart ps l r fits) (λ p q. m-covered bracket d apart (extent d * apart) p (gaps_of d.low d.high p.ranges) p.rest q q.1)

m-no_aggregate : (names : Names) (level : Inside) (here : Context) (e : Expr) → LevelFits level → AreBased here.scope → Makes (Maybe ValueOf) (no_aggregate names level here e)
m-no_aggregate names level here e l r =
    m-bind Finding (Maybe ValueOf) (expr names level here wanted.Other e) _ (m-expr names level here wanted.Other e l r) (λ x q. m-given FoundOf ValueOf x _ q (λ f s. m-fault ValueOf (first_token.of_expr e) WrongType))

inner-value : (f : Known) (x : TypedPart) → KnownOf f x → Maybe ValueOf (inner_value f x)
inner-value (known.Rest first) x h = h
inner-value f x h = tt

m-inner_aggregate : (names : Names) (level : Inside) (here : Context) (n i : ℕ) (e : Expr) (b : Bool) → LevelFits level → AreBased here.scope → Makes (Maybe ValueOf) (inner_aggregate names level here n i e b)
m-inner_aggregate names level here n i e false l r = m-no_aggregate names level here e l r
m-inner_aggregate names level here n i e true l r =
    m-bind Finding (Maybe ValueOf) (expr names level here (wanted.Rest n i) e) _ (m-expr names level here (wanted.Rest n i) e l r) (λ x q. m-given FoundOf ValueOf x _ q (λ f s. m-pure (Maybe ValueOf) (inner_value f.known f.part) (inner-value f.known f.part s)))

component-fits : (names : Names) (level : Inside) (n i : ℕ) (b : Bool) (s : Subtype) → LevelFits level → ComponentFits (component_at names level n i b s)
component-fits names level n i true s l here e r = m-value_for names level here s e l r
component-fits names level n i false s l here e r = m-inner_aggregate names level here n (i + 1) e (is_aggregate e) l r

m-array_at : (names : Names) (level : Inside) (here : Context) (bracket n i : ℕ) (ds : List Dimension) (s : Subtype) (cells : ℕ) (ps : Contents) → LevelFits level → AreBased here.scope → Makes (Maybe CompositeOf) (array_at names level here bracket n i ds s cells ps)
m-array_at names level here bracket n i [] s cells ps l r = m-fault CompositeOf bracket WrongType
m-array_at names level here bracket n i (d ∷ ds) s cells ps l r =
    m-dimension_of names level here bracket (component_at names level n i (is_last ds) s) d (array_cells ds cells) ps l r (component-fits names level n i (is_last ds) s l)

m-array_of : (names : Names) (level : Inside) (here : Context) (bracket n i : ℕ) (log : Log) (ds : List Dimension) (s : Option Subtype) (ps : Contents) → LevelFits level → AreBased here.scope → Makes (Maybe CompositeOf) (array_of names level here bracket n i log ds s ps)
m-array_of names level here bracket n i log ds None ps l r = m-fault CompositeOf bracket WrongType
m-array_of names level here bracket n i log ds (Some s) ps l r = m-array_at names level here bracket n i (drop i ds) s (cells_in log s) ps l r

m-composite_at : (names : Names) (level : Inside) (here : Context) (bracket n i : ℕ) (log : Log) (t : Option Shape) (ps : Contents) → LevelFits level → AreBased here.scope → Makes (Maybe CompositeOf) (composite_at names level here bracket n i log t ps)
m-composite_at names level here bracket n i log t ps l r =
    m-if (Maybe CompositeOf) (is_record t) _ (array_of names level here bracket n i log (dimensions_of t) (component_of t) ps)
    (m-where_clean FillingOf CompositeOf (record_parts names level here (fields_of t) ps) (filled bracket (cells_of_shape t)) (m-record_parts names level here (fields_of t) ps l r) (λ f q. m-filled bracket (cells_of_shape t) f q))
    (m-array_of names level here bracket n i log (dimensions_of t) (component_of t) ps l r)

-- ---- aggregates

m-composite_found : (names : Names) (level : Inside) (here : Context) (bracket n i : ℕ) (log : Log) (t : Option Shape) (ps : Contents) (make : TypedPart → Found) → ((x : TypedPart) → CompositeOf x → FoundOf (make x)) → LevelFits level → AreBased here.scope
    → Makes Finding (composite_at names level here bracket n i log t ps >>= λ c. pure (option_map make c))
m-composite_found names level here bracket n i log t ps make f l r =
    m-bind (Maybe CompositeOf) Finding (composite_at names level here bracket n i log t ps) _ (m-composite_at names level here bracket n i log t ps l r) (λ c q. m-pure Finding (option_map make c) (mapped CompositeOf FoundOf make c q f))

m-unknown : (names : Names) (level : Inside) (here : Context) (bracket : ℕ) (ps : Contents) → LevelFits level → Makes Finding (where_clean (contents_alone names level here ps) (λ u. fault bracket WrongType))
m-unknown names level here bracket ps l = m-where_clean Any FoundOf (contents_alone names level here ps) (λ u. fault bracket WrongType) (m-kept (contents_alone names level here ps) (k-contents_alone spanning names level here ps tt l.keeps)) (λ u q. m-fault FoundOf bracket WrongType)

pub m-aggregate : (names : Names) (level : Inside) (here : Context) (want : Wanted) (bracket : ℕ) (ps : Contents) → LevelFits level → AreBased here.scope → Makes Finding (aggregate names level here want bracket ps)
unfolding aggregate
m-aggregate names level here (wanted.Composite n) bracket ps l r = record { at = λ log g. (m-composite_found names level here bracket n 0 log (shape_in log n) ps (composite_found bracket n) (λ x h. h) l r).at log g }
m-aggregate names level here (wanted.Rest n i) bracket ps l r = record { at = λ log g. (m-composite_found names level here bracket n i log (shape_in log n) ps (rest_found bracket) (λ x h. h) l r).at log g }
m-aggregate names level here wanted.Unknown bracket ps l r = m-none FoundOf
m-aggregate names level here wanted.Other bracket ps l r = m-unknown names level here bracket ps l
m-aggregate names level here wanted.Text bracket ps l r = m-unknown names level here bracket ps l
