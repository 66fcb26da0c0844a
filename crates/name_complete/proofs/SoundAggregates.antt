-- What is judged without a fault is there: aggregates.
use Rattle.std.proofs.Common.{◌≡◌, refl, ℕ, ℤ, pos, ◌+◌, ◌*◌, ◌+ℤ◌, List, [], ◌∷◌, ◌++◌, length, drop, Option, Some, None, Bool, true, false, if◌then◌else◌, option_map, not, ◌&&◌, ◌||◌, ◌==◌}
use Rattle.syntax_tree.specs.FirstTokens as first_token
use Rattle.syntax_tree.specs.Syntax as syntax
use Rattle.syntax_tree.specs.Syntax.{Assoc, Assocs, Choice, Choices, Expr, Exprs, OptionalExpr}
use Rattle.typed_tree.specs.Decoded as part
use Rattle.typed_tree.specs.Decoded.{TypedPart}
use Rattle.typed_tree.specs.declared.expressions.Iterated.{Iterated}
use Rattle.typed_tree.specs.declared.expressions.Run.{Run}
use Rattle.name_rules.specs.Aggregates as a
use Rattle.name_rules.specs.Aggregates.{ByAssociation, ByPosition, Choosing', Component, Contents, Filling, Placing, filling, gaps_of, runs_of}
use Rattle.name_rules.specs.Expressions.{Inside, expr, judged_alone, value_for}
use Rattle.name_rules.specs.Found.{Found}
use Rattle.name_rules.specs.Judging.{◌>>=◌, fault, given, joined, pure, read, unless, where_clean}
use Rattle.name_rules.specs.Names.{is_record}
use Rattle.name_rules.specs.Parts.{new_parameter}
use Rattle.name_rules.specs.Ranges.{Static, chosen_span, chosen_value, static_range}
use Rattle.name_rules.specs.Scope.{with_entry}
use Rattle.name_rules.specs.Shapes.{identifier_of_choice, is_aggregate}
use Rattle.name_rules.specs.Symbols.{symbol}
use Rattle.name_rules.specs.Types.{array_cells, cells_in, cells_of_shape, component_of, dimensions_of, extent, fields_of, same, shape_in}
use Rattle.name_rules.specs.declared.found.Found.TheVariants as known
use Rattle.name_rules.specs.declared.found.Found.{Found as Known}
use Rattle.name_rules.specs.declared.log.Dimension.{Dimension}
use Rattle.name_rules.specs.declared.log.Field.{Field}
use Rattle.name_rules.specs.declared.log.Log.{Log}
use Rattle.name_rules.specs.declared.log.Rule.TheVariants.{StaticRange, Twice, Unknown, WrongType}
use Rattle.name_rules.specs.declared.log.Shape.{Shape}
use Rattle.name_rules.specs.declared.scope.Context.{Context}
use Rattle.name_rules.specs.declared.scope.Names.{Names}
use Rattle.name_rules.specs.declared.types.Kind.{Kind}
use Rattle.name_rules.specs.declared.types.Subtype.{Subtype}
use Rattle.name_rules.specs.declared.types.Wanted.TheVariants as wanted
use Rattle.name_rules.specs.declared.types.Wanted.{Wanted}
use Rattle.name_complete.proofs.Explains.{Any, Is, Sound, joint, mapped, s-bind, s-broken, s-fault, s-given, s-if, s-never, s-pure, s-read, s-some, s-unless, s-where_clean}
use Rattle.name_complete.proofs.Facts.{Clear, FoundFor, IsRest, LevelSound, NotBroken, Plain, RestOf, clear-entry}
use Rattle.name_complete.proofs.Gaps.{AllWithin, each-both, gaps-within, runs-there}
use Rattle.name_complete.proofs.SoundExpressions.{s-expr, s-judged_alone, s-rest, s-value_for}
use Rattle.name_complete.proofs.SoundNames.{s-new_parameter}
use Rattle.name_complete.proofs.SoundRanges.{s-chosen_span, s-chosen_value, s-static_range}

-- ---- an aggregate of a record

s-field_value : (G : Type 0) (names : Names) (level : Inside) (here : Context) (made : Option TypedPart) (f : Field) (e : Expr) → LevelSound level → (G → Clear here) → (G → Is Any made) → Sound G (Is Any) (a.field_value names level here made f e)
unfolding a.field_value
s-field_value G names level here made f e l c h =
    s-bind G (Is Any) (Is Any) (value_for names level here f.subtype e) _ (s-value_for G names level here f.subtype e l c) (λ v.
    s-bind _ Any (Is Any) (read (λ log. a.field_run log f)) _ (s-read _ Any (λ log. a.field_run log f) (λ log g. tt)) (λ r.
    s-pure _ (Is Any) (joined (a.with_value (r ∷ []) None part.Nothing) made v) (λ g. joint Any Any Any (a.with_value (r ∷ []) None part.Nothing) made v (h g.0.0) g.0.1 (λ x y m n. tt))))

s-fields_value : (G : Type 0) (names : Names) (level : Inside) (here : Context) (made : Option TypedPart) (fs : List Field) (e : Expr) → LevelSound level → (G → Clear here) → (G → Is Any made) → Sound G (Is Any) (a.fields_value names level here made fs e)
s-fields_value G names level here made [] e l c h = s-pure G (Is Any) made h
s-fields_value G names level here made (f ∷ fs) e l c h =
    s-bind G (Is Any) (Is Any) (a.field_value names level here made f e) _ (s-field_value G names level here made f e l c h) (λ x. s-fields_value (G × Is Any x) names level here x fs e l (λ g. c g.0) (λ g. g.1))

s-some_fields : (G : Type 0) (names : Names) (level : Inside) (here : Context) (made : Option TypedPart) (fs : List Field) (e : Expr) → LevelSound level → (G → Clear here) → (G → Is Any made) → Sound G (Is Any) (a.some_fields names level here made fs e)
s-some_fields G names level here made [] e l c h = s-bind G Any (Is Any) (judged_alone names level here e) _ (s-judged_alone G names level here e l) (λ u. s-pure _ (Is Any) made (λ g. h g.0))
s-some_fields G names level here made (f ∷ fs) e l c h = s-fields_value G names level here made (f ∷ fs) e l c h

abbrev FillingOf : Filling → Type 0
FillingOf f = Is Any f.done

s-by_position : (G : Type 0) (names : Names) (level : Inside) (here : Context) (fs : List Field) (f : Filling) (e : Expr) → LevelSound level → (G → Clear here) → (G → FillingOf f) → Sound G FillingOf (a.by_position names level here fs f e)
s-by_position G names level here [] f e l c h = s-bind G Any FillingOf (judged_alone names level here e) _ (s-judged_alone G names level here e l) (λ u. s-pure _ FillingOf (filling f.done [] true) (λ g. h g.0))
s-by_position G names level here (y ∷ ys) f e l c h = s-bind G (Is Any) FillingOf (a.field_value names level here f.done y e) _ (s-field_value G names level here f.done y e l c h) (λ x. s-pure _ FillingOf (filling x ys f.over) (λ g. g.1))

s-named_field : (G : Type 0) (names : Names) (all left taken : List Field) (token : ℕ) → Sound G Any (a.named_field names all left taken token)
s-named_field G names all left taken token =
    s-if G Any (not (a.has_symbol (symbol names token) all)) _ _ (s-broken G Any token Unknown (taken, left))
    (s-if G Any (not (a.has_symbol (symbol names token) left)) _ _ (s-broken G Any token Twice (taken, left))
    (s-pure G Any (taken ++ a.one_field (symbol names token) left, a.without (symbol names token) left) (λ g. tt)))

s-value_choice : (G : Type 0) (names : Names) (all left taken : List Field) (first : ℕ) (token : Option ℕ) → Sound G Any (a.value_choice names all left taken first token)
s-value_choice G names all left taken first None = s-broken G Any first WrongType (taken, left)
s-value_choice G names all left taken first (Some token) = s-named_field G names all left taken token

s-field_choice : (G : Type 0) (names : Names) (all : List Field) (alone last : Bool) (left taken : List Field) (x : Choice) → Sound G Any (a.field_choice names all alone last left taken x)
s-field_choice G names all alone last left taken (syntax.Others at) = s-bind G (λ u. (alone && last) ≡ true) Any (unless (alone && last) at StaticRange) _ (s-unless G (alone && last) at StaticRange) (λ u. s-pure _ Any (taken ++ left, []) (λ g. tt))
s-field_choice G names all alone last left taken (syntax.Value s) = s-value_choice G names all left taken (a.first_of_choice (syntax.Value s)) (identifier_of_choice (syntax.Value s))
s-field_choice G names all alone last left taken (syntax.Span low high) = s-value_choice G names all left taken (a.first_of_choice (syntax.Span low high)) (identifier_of_choice (syntax.Span low high))

s-field_choices : (G : Type 0) (names : Names) (all : List Field) (alone last : Bool) (left taken : List Field) (xs : Choices) → Sound G Any (a.field_choices names all alone last left taken xs)
s-field_choices G names all alone last left taken syntax.NoChoice = s-pure G Any (taken, left) (λ g. tt)
s-field_choices G names all alone last left taken (syntax.AlsoChoice x xs) =
    s-bind G Any Any (a.field_choice names all alone last left taken x) _ (s-field_choice G names all alone last left taken x) (λ r. s-field_choices (G × Any r) names all alone last r.1 r.0 xs)

s-record_assoc : (G : Type 0) (names : Names) (level : Inside) (here : Context) (all : List Field) (last : Bool) (f : Filling) (x : Assoc) → LevelSound level → (G → Clear here) → (G → FillingOf f) → Sound G FillingOf (a.record_assoc names level here all last f x)
s-record_assoc G names level here all last f (syntax.Chosen x xs e) l c h =
    s-bind G Any FillingOf (a.field_choices names all (a.is_alone xs) last f.left [] (syntax.AlsoChoice x xs)) _ (s-field_choices G names all (a.is_alone xs) last f.left [] (syntax.AlsoChoice x xs)) (λ r.
    s-bind _ (Is Any) FillingOf (a.some_fields names level here f.done r.0 e) _ (s-some_fields _ names level here f.done r.0 e l (λ g. c g.0) (λ g. h g.0)) (λ y. s-pure _ FillingOf (filling y r.1 f.over) (λ g. g.1)))
s-record_assoc G names level here all last f (syntax.Each at index r e) l c h = s-broken G FillingOf at WrongType f

s-record_assocs : (G : Type 0) (names : Names) (level : Inside) (here : Context) (all : List Field) (f : Filling) (xs : Assocs) → LevelSound level → (G → Clear here) → (G → FillingOf f) → Sound G FillingOf (a.record_assocs names level here all f xs)
s-record_assocs G names level here all f syntax.NoAssoc l c h = s-pure G FillingOf f h
s-record_assocs G names level here all f (syntax.AlsoAssoc x xs) l c h =
    s-bind G FillingOf FillingOf (a.record_assoc names level here all (a.is_final xs) f x) _ (s-record_assoc G names level here all (a.is_final xs) f x l c h) (λ y. s-record_assocs (G × FillingOf y) names level here all y xs l (λ g. c g.0) (λ g. g.1))

s-record_values : (G : Type 0) (names : Names) (level : Inside) (here : Context) (f : Filling) (es : Exprs) → LevelSound level → (G → Clear here) → (G → FillingOf f) → Sound G FillingOf (a.record_values names level here f es)
s-record_values G names level here f syntax.NoExpr l c h = s-pure G FillingOf f h
s-record_values G names level here f (syntax.AlsoExpr e es) l c h =
    s-bind G FillingOf FillingOf (a.by_position names level here f.left f e) _ (s-by_position G names level here f.left f e l c h) (λ y. s-record_values (G × FillingOf y) names level here y es l (λ g. c g.0) (λ g. g.1))

s-record_rest : (G : Type 0) (names : Names) (level : Inside) (here : Context) (f : Filling) (o : OptionalExpr) → LevelSound level → (G → Clear here) → (G → FillingOf f) → Sound G FillingOf (a.record_rest names level here f o)
s-record_rest G names level here f syntax.AbsentExpr l c h = s-pure G FillingOf f h
s-record_rest G names level here f (syntax.PresentExpr e) l c h =
    s-bind G (Is Any) FillingOf (a.some_fields names level here f.done f.left e) _ (s-some_fields G names level here f.done f.left e l c h) (λ x. s-pure _ FillingOf (filling x [] f.over) (λ g. g.1))

s-record_parts : (G : Type 0) (names : Names) (level : Inside) (here : Context) (all : List Field) (ps : Contents) → LevelSound level → (G → Clear here) → Sound G FillingOf (a.record_parts names level here all ps)
s-record_parts G names level here all (ByPosition es o) l c =
    let f = filling (Some part.Nothing) all false in
    s-bind G FillingOf FillingOf (a.record_values names level here f es) _ (s-record_values G names level here f es l c (λ g. tt)) (λ y. s-record_rest _ names level here y o l (λ g. c g.0) (λ g. g.1))
s-record_parts G names level here all (ByAssociation xs) l c = s-record_assocs G names level here all (filling (Some part.Nothing) all false) xs l c (λ g. tt)

s-filled : (G : Type 0) (bracket cells : ℕ) (f : Filling) → (G → FillingOf f) → Sound G (Is Any) (a.filled bracket cells f)
s-filled G bracket cells f h =
    s-if G (Is Any) (f.over || not (length f.left == 0)) (fault bracket StaticRange) _ (s-fault G (Is Any) bracket StaticRange)
    (s-pure G (Is Any) (option_map (a.aggregate_part bracket cells) f.done) (λ g. mapped Any Any (a.aggregate_part bracket cells) f.done (h g) (λ x k. tt)))

-- ---- an aggregate of an array

abbrev RestThere : Option (Option TypedPart) → Type 0
RestThere None = Unit {0}
RestThere (Some v) = Is Any v

-- where its ranges are within the dimension there are associations
pub record PlacingOf (d : Dimension) (p : Placing) : Type 0 where
  pub placed : AllWithin d p.ranges → Is Any p.done
  pub rest : RestThere p.rest

with-runs : (i : Option Iterated) (ms : TypedPart) (rs : Option (List Run)) (made v : Option TypedPart) → Is Any rs → Is Any made → Is Any v → Is Any (a.with_runs i ms rs made v)
with-runs i ms None made v h j k = h
with-runs i ms (Some rs) made v h j k = joint Any Any Any (a.with_value rs i ms) made v j k (λ x y m n. tt)

with-ranges : (d : Dimension) (apart : ℕ) (i : Option Iterated) (ms : TypedPart) (p : Placing) (rs : List (ℤ × ℤ)) (v : Option TypedPart) → PlacingOf d p → Is Any v → PlacingOf d (a.with_ranges d apart i ms p rs v)
with-ranges d apart i ms p rs v h k = record {
  placed = λ w. let x = each-both _ p.ranges rs w in with-runs i ms (runs_of d apart rs) p.done v (runs-there d apart rs x.1) (h.placed x.0) k;
  rest = h.rest;
}

with-rest : (d : Dimension) (p : Placing) (v : Option TypedPart) → PlacingOf d p → Is Any v → PlacingOf d (a.with_rest p v)
with-rest d p v h k = record { placed = h.placed; rest = k }

-- a value of the dimensions behind the first
abbrev ComponentSound : Component → Type 1
ComponentSound component = (G : Type 0) (here : Context) (e : Expr) → (G → Clear here) → Sound G (Is Any) (component here e)

s-array_choice : (G : Type 0) (level : Inside) (here : Context) (k : Kind) (alone last : Bool) (made : Option Choosing') (x : Choice) → LevelSound level → (G → Clear here) → (G → Is Any made) → Sound G (Is Any) (a.array_choice level here k alone last made x)
s-array_choice G level here k alone last made (syntax.Value s) l c h =
    s-bind G (Is Any) (Is Any) (chosen_value level here (Some k) s) _ (s-chosen_value G level here (Some k) s l c (λ g. tt)) (λ y. s-pure _ (Is Any) (joined a.also_chosen made y) (λ g. joint Any Any Any a.also_chosen made y (h g.0) g.1 (λ u v m n. tt)))
s-array_choice G level here k alone last made (syntax.Span low high) l c h =
    s-bind G (Is Any) (Is Any) (chosen_span level here (Some k) low high) _ (s-chosen_span G level here (Some k) low high l c (λ g. tt)) (λ y. s-pure _ (Is Any) (joined a.also_chosen made y) (λ g. joint Any Any Any a.also_chosen made y (h g.0) g.1 (λ u v m n. tt)))
s-array_choice G level here k alone last made (syntax.Others at) l c h =
    s-bind G (λ u. (alone && last) ≡ true) (Is Any) (unless (alone && last) at StaticRange) _ (s-unless G (alone && last) at StaticRange) (λ u. s-pure _ (Is Any) (option_map a.as_rest made) (λ g. mapped Any Any a.as_rest made (h g.0) (λ y m. tt)))

s-array_choices : (G : Type 0) (level : Inside) (here : Context) (k : Kind) (alone last : Bool) (made : Option Choosing') (xs : Choices) → LevelSound level → (G → Clear here) → (G → Is Any made) → Sound G (Is Any) (a.array_choices level here k alone last made xs)
s-array_choices G level here k alone last made syntax.NoChoice l c h = s-pure G (Is Any) made h
s-array_choices G level here k alone last made (syntax.AlsoChoice x xs) l c h =
    s-bind G (Is Any) (Is Any) (a.array_choice level here k alone last made x) _ (s-array_choice G level here k alone last made x l c h) (λ r. s-array_choices (G × Is Any r) level here k alone last r xs l (λ g. c g.0) (λ g. g.1))

s-of_index_type : (G : Type 0) (k : Kind) (first : ℕ) (r : Static) → Sound G (Is Any) (a.of_index_type k first r)
s-of_index_type G k first r = s-if G (Is Any) (same r.known.kind k) _ (fault first WrongType) (s-some G Any r (λ g. tt)) (s-fault G (Is Any) first WrongType)

chosen-given : (d : Dimension) (apart : ℕ) (p : Placing) (r : Option Choosing') (v : Option TypedPart) → PlacingOf d p → Is Any r → Is Any v → PlacingOf d (a.chosen_given d apart p r v)
chosen-given d apart p None v h i k = absurd i
chosen-given d apart p (Some c) v h i k = by c.rest
  where
    by : (b : Bool) → PlacingOf d (if b then a.with_rest p v else a.with_ranges d apart None c.mentions p c.ranges v)
    by true = with-rest d p v h k
    by false = with-ranges d apart None c.mentions p c.ranges v h k

iterated-given : (d : Dimension) (apart n : ℕ) (p : Placing) (r : Option Static) (v : Option TypedPart) → PlacingOf d p → Is Any r → Is Any v → PlacingOf d (a.iterated_given d apart n p r v)
iterated-given d apart n p None v h i k = absurd i
iterated-given d apart n p (Some r) v h i k = with-ranges d apart (Some (record { parameter = n; first = r.known.low })) r.part p ((r.known.low, r.known.high) ∷ []) v h k

index-whole : (n : ℕ) (r : Option Static) → Is Any r → NotBroken (a.index_what n r)
index-whole n None h = h
index-whole n (Some r) h = tt

s-array_assoc : (G : Type 0) (names : Names) (level : Inside) (here : Context) (component : Component) (d : Dimension) (apart : ℕ) (last : Bool) (p : Placing) (x : Assoc) → LevelSound level → ComponentSound component → (G → Clear here) → (G → PlacingOf d p)
    → Sound G (PlacingOf d) (a.array_assoc names level here component d apart last p x)
unfolding a.array_assoc
s-array_assoc G names level here component d apart last p (syntax.Chosen x xs e) l m c h =
    let none : Choosing' = record { ranges = []; rest = false; mentions = part.Nothing } in
    s-bind G (Is Any) (PlacingOf d) (a.array_choices level here d.kind (a.is_alone xs) last (Some none) (syntax.AlsoChoice x xs)) _ (s-array_choices G level here d.kind (a.is_alone xs) last (Some none) (syntax.AlsoChoice x xs) l c (λ g. tt)) (λ r.
    s-bind _ (Is Any) (PlacingOf d) (component here e) _ (m _ here e (λ g. c g.0)) (λ v.
    s-pure _ (PlacingOf d) (a.chosen_given d apart p r v) (λ g. chosen-given d apart p r v (h g.0.0) g.0.1 g.1)))
s-array_assoc G names level here component d apart last p (syntax.Each at index r e) l m c h =
    s-bind G (Is Any) (PlacingOf d) (static_range level here false (Some d.kind) r) _ (s-static_range G level here false (Some d.kind) r l c) (λ x.
    s-bind _ (Is Any) (PlacingOf d) (given x (a.of_index_type d.kind (first_token.of_range r))) _ (s-given _ Any Any x (a.of_index_type d.kind (first_token.of_range r)) (λ g. g.1) (λ y. s-of_index_type _ d.kind (first_token.of_range r) y)) (λ s.
    s-bind _ Any (PlacingOf d) new_parameter _ (s-new_parameter _) (λ n.
    let there = with_entry here (symbol names index) (a.index_what n s) in
    s-bind _ (Is Any) (PlacingOf d) (component there e) _ (m _ there e (λ g. clear-entry here (symbol names index) (a.index_what n s) (index-whole n s g.0.1) (c g.0.0.0))) (λ v.
    s-pure _ (PlacingOf d) (a.iterated_given d apart n p s v) (λ g. iterated-given d apart n p s v (h g.0.0.0.0) g.0.0.1 g.1)))))

s-array_assocs : (G : Type 0) (names : Names) (level : Inside) (here : Context) (component : Component) (d : Dimension) (apart : ℕ) (p : Placing) (xs : Assocs) → LevelSound level → ComponentSound component → (G → Clear here) → (G → PlacingOf d p)
    → Sound G (PlacingOf d) (a.array_assocs names level here component d apart p xs)
s-array_assocs G names level here component d apart p syntax.NoAssoc l m c h = s-pure G (PlacingOf d) p h
s-array_assocs G names level here component d apart p (syntax.AlsoAssoc x xs) l m c h =
    s-bind G (PlacingOf d) (PlacingOf d) (a.array_assoc names level here component d apart (a.is_final xs) p x) _ (s-array_assoc G names level here component d apart (a.is_final xs) p x l m c h) (λ q.
    s-array_assocs (G × PlacingOf d q) names level here component d apart q xs l m (λ g. c g.0) (λ g. g.1))

s-array_values : (G : Type 0) (here : Context) (component : Component) (d : Dimension) (apart : ℕ) (z : ℤ) (p : Placing) (es : Exprs) → ComponentSound component → (G → Clear here) → (G → PlacingOf d p) → Sound G (PlacingOf d) (a.array_values here component d apart z p es)
s-array_values G here component d apart z p syntax.NoExpr m c h = s-pure G (PlacingOf d) p h
s-array_values G here component d apart z p (syntax.AlsoExpr e es) m c h =
    s-bind G (Is Any) (PlacingOf d) (component here e) _ (m G here e c) (λ v.
    s-array_values (G × Is Any v) here component d apart (z +ℤ pos 1) (a.with_ranges d apart None part.Nothing p ((z, z) ∷ []) v) es m (λ g. c g.0) (λ g. with-ranges d apart None part.Nothing p ((z, z) ∷ []) v (h g.0) g.1))

s-array_rest : (G : Type 0) (here : Context) (component : Component) (d : Dimension) (o : OptionalExpr) (p : Placing) → ComponentSound component → (G → Clear here) → (G → PlacingOf d p) → Sound G (PlacingOf d) (a.array_rest here component o p)
s-array_rest G here component d syntax.AbsentExpr p m c h = s-pure G (PlacingOf d) p h
s-array_rest G here component d (syntax.PresentExpr e) p m c h = s-bind G (Is Any) (PlacingOf d) (component here e) _ (m G here e c) (λ v. s-pure _ (PlacingOf d) (a.with_rest p v) (λ g. with-rest d p v (h g.0) g.1))

s-array_placed : (G : Type 0) (names : Names) (level : Inside) (here : Context) (component : Component) (d : Dimension) (apart : ℕ) (ps : Contents) → LevelSound level → ComponentSound component → (G → Clear here) → Sound G (PlacingOf d) (a.array_placed names level here component d apart ps)
s-array_placed G names level here component d apart (ByPosition es o) l m c =
    s-bind G (PlacingOf d) (PlacingOf d) (a.array_values here component d apart d.low a.nothing_placed es) (a.array_rest here component o) (s-array_values G here component d apart d.low a.nothing_placed es m c (λ g. record { placed = λ w. tt; rest = tt })) (λ p.
    s-array_rest _ here component d o p m (λ g. c g.0) (λ g. g.1))
s-array_placed G names level here component d apart (ByAssociation xs) l m c = s-array_assocs G names level here component d apart a.nothing_placed xs l m c (λ g. record { placed = λ w. tt; rest = tt })

s-covered_alone : (G : Type 0) (bracket cells : ℕ) (made : Option TypedPart) (os : List (ℤ × ℤ)) → (G → Is Any made) → Sound G (Is Any) (a.covered_alone bracket cells made os)
s-covered_alone G bracket cells made os h =
    s-if G (Is Any) (length os == 0) _ (fault bracket StaticRange) (s-pure G (Is Any) (option_map (a.aggregate_part bracket cells) made) (λ g. mapped Any Any (a.aggregate_part bracket cells) made (h g) (λ x k. tt))) (s-fault G (Is Any) bracket StaticRange)

s-covered : (G : Type 0) (bracket : ℕ) (d : Dimension) (apart cells : ℕ) (p : Placing) (x : Option (List (ℤ × ℤ))) (v : Option (Option TypedPart)) → gaps_of d.low d.high p.ranges ≡ x → (G → PlacingOf d p) → (G → RestThere v) → Sound G (Is Any) (a.covered bracket d apart cells p x v)
s-covered G bracket d apart cells p None v e h i = s-fault G (Is Any) bracket StaticRange
s-covered G bracket d apart cells p (Some os) None e h i = s-covered_alone G bracket cells p.done os (λ g. (h g).placed (gaps-within d p.ranges os e).0)
s-covered G bracket d apart cells p (Some os) (Some v) e h i =
    let w = gaps-within d p.ranges os e in
    s-pure G (Is Any) (option_map (a.aggregate_part bracket cells) (a.with_runs None part.Nothing (runs_of d apart os) p.done v))
    (λ g. mapped Any Any (a.aggregate_part bracket cells) (a.with_runs None part.Nothing (runs_of d apart os) p.done v) (with-runs None part.Nothing (runs_of d apart os) p.done v (runs-there d apart os w.1) ((h g).placed w.0) (i g)) (λ x k. tt))

s-dimension_of : (G : Type 0) (names : Names) (level : Inside) (here : Context) (bracket : ℕ) (component : Component) (d : Dimension) (apart : ℕ) (ps : Contents) → LevelSound level → ComponentSound component → (G → Clear here) → Sound G (Is Any) (a.dimension_of names level here bracket component d apart ps)
unfolding a.dimension_of
s-dimension_of G names level here bracket component d apart ps l m c =
    s-where_clean G (PlacingOf d) Any (a.array_placed names level here component d apart ps) (λ p. a.covered bracket d apart (extent d * apart) p (gaps_of d.low d.high p.ranges) p.rest) (s-array_placed G names level here component d apart ps l m c) (λ p.
    s-covered _ bracket d apart (extent d * apart) p (gaps_of d.low d.high p.ranges) p.rest refl (λ g. g.1) (λ g. g.1.rest))

s-no_aggregate : (G : Type 0) (names : Names) (level : Inside) (here : Context) (e : Expr) → LevelSound level → (G → Clear here) → Sound G (Is Any) (a.no_aggregate names level here e)
s-no_aggregate G names level here e l c =
    s-bind G (Is (FoundFor wanted.Other)) (Is Any) (expr names level here wanted.Other e) _ (s-expr G names level here wanted.Other e l c (λ g. tt)) (λ x.
    s-given _ (FoundFor wanted.Other) Any x (λ f. fault (first_token.of_expr e) WrongType) (λ g. g.1) (λ f. s-fault _ (Is Any) (first_token.of_expr e) WrongType))

inner-there : (f : Known) (x : TypedPart) → IsRest f → Is Any (a.inner_value f x)
inner-there (known.Rest first) x h = tt
inner-there (known.Universal first z alone) x h = absurd h
inner-there (known.Open first l) x h = absurd h
inner-there (known.Static first k z) x h = absurd h
inner-there (known.Object p) x h = absurd h
inner-there (known.Scalar first k n) x h = absurd h
inner-there (known.Composite first n) x h = absurd h
inner-there (known.Text first) x h = absurd h

s-inner_aggregate : (G : Type 0) (names : Names) (level : Inside) (here : Context) (n i : ℕ) (e : Expr) (b : Bool) → is_aggregate e ≡ b → LevelSound level → (G → Clear here) → Sound G (Is Any) (a.inner_aggregate names level here n i e b)
s-inner_aggregate G names level here n i e false q l c = s-no_aggregate G names level here e l c
s-inner_aggregate G names level here n i e true q l c =
    s-bind G (Is RestOf) (Is Any) (expr names level here (wanted.Rest n i) e) _ (s-rest G names level here n i e l c q) (λ x.
    s-given _ RestOf Any x (λ f. pure (a.inner_value f.known f.part)) (λ g. g.1) (λ f. s-pure _ (Is Any) (a.inner_value f.known f.part) (λ g. inner-there f.known f.part g.1)))

component-sound : (names : Names) (level : Inside) (n i : ℕ) (b : Bool) (s : Subtype) → LevelSound level → ComponentSound (a.component_at names level n i b s)
component-sound names level n i true s l = λ G here e c. s-value_for G names level here s e l c
component-sound names level n i false s l = λ G here e c. s-inner_aggregate G names level here n (i + 1) e (is_aggregate e) refl l c

s-array_at : (G : Type 0) (names : Names) (level : Inside) (here : Context) (bracket n i : ℕ) (ds : List Dimension) (s : Subtype) (cells : ℕ) (ps : Contents) → LevelSound level → (G → Clear here) → Sound G (Is Any) (a.array_at names level here bracket n i ds s cells ps)
s-array_at G names level here bracket n i [] s cells ps l c = s-fault G (Is Any) bracket WrongType
s-array_at G names level here bracket n i (d ∷ ds) s cells ps l c = s-dimension_of G names level here bracket (a.component_at names level n i (a.is_last ds) s) d (array_cells ds cells) ps l (component-sound names level n i (a.is_last ds) s l) c

s-array_of : (G : Type 0) (names : Names) (level : Inside) (here : Context) (bracket n i : ℕ) (log : Log) (ds : List Dimension) (s : Option Subtype) (ps : Contents) → LevelSound level → (G → Clear here) → Sound G (Is Any) (a.array_of names level here bracket n i log ds s ps)
s-array_of G names level here bracket n i log ds None ps l c = s-fault G (Is Any) bracket WrongType
s-array_of G names level here bracket n i log ds (Some s) ps l c = s-array_at G names level here bracket n i (drop i ds) s (cells_in log s) ps l c

s-composite_at : (G : Type 0) (names : Names) (level : Inside) (here : Context) (bracket n i : ℕ) (log : Log) (t : Option Shape) (ps : Contents) → LevelSound level → (G → Clear here) → Sound G (Is Any) (a.composite_at names level here bracket n i log t ps)
s-composite_at G names level here bracket n i log t ps l c =
    s-if G (Is Any) (is_record t) _ (a.array_of names level here bracket n i log (dimensions_of t) (component_of t) ps)
    (s-where_clean G FillingOf Any (a.record_parts names level here (fields_of t) ps) (a.filled bracket (cells_of_shape t)) (s-record_parts G names level here (fields_of t) ps l c) (λ f. s-filled _ bracket (cells_of_shape t) f (λ g. g.1)))
    (s-array_of G names level here bracket n i log (dimensions_of t) (component_of t) ps l c)

-- ---- where its type isn't known

s-exprs_alone : (G : Type 0) (names : Names) (level : Inside) (here : Context) (es : Exprs) → LevelSound level → Sound G Any (a.exprs_alone names level here es)
s-exprs_alone G names level here syntax.NoExpr l = s-pure G Any tt (λ g. tt)
s-exprs_alone G names level here (syntax.AlsoExpr e es) l = s-bind G Any Any (judged_alone names level here e) _ (s-judged_alone G names level here e l) (λ u. s-exprs_alone (G × Any u) names level here es l)

s-optional_alone : (G : Type 0) (names : Names) (level : Inside) (here : Context) (o : OptionalExpr) → LevelSound level → Sound G Any (a.optional_alone names level here o)
s-optional_alone G names level here syntax.AbsentExpr l = s-pure G Any tt (λ g. tt)
s-optional_alone G names level here (syntax.PresentExpr e) l = s-judged_alone G names level here e l

s-assocs_alone : (G : Type 0) (names : Names) (level : Inside) (here : Context) (xs : Assocs) → LevelSound level → Sound G Any (a.assocs_alone names level here xs)
s-assocs_alone G names level here syntax.NoAssoc l = s-pure G Any tt (λ g. tt)
s-assocs_alone G names level here (syntax.AlsoAssoc x xs) l = s-bind G Any Any (judged_alone names level here (a.assoc_value x)) _ (s-judged_alone G names level here (a.assoc_value x) l) (λ u. s-assocs_alone (G × Any u) names level here xs l)

s-contents_alone : (G : Type 0) (names : Names) (level : Inside) (here : Context) (ps : Contents) → LevelSound level → Sound G Any (a.contents_alone names level here ps)
s-contents_alone G names level here (ByPosition es o) l = s-bind G Any Any (a.exprs_alone names level here es) _ (s-exprs_alone G names level here es l) (λ u. s-optional_alone _ names level here o l)
s-contents_alone G names level here (ByAssociation xs) l = s-assocs_alone G names level here xs l

s-placeless : (G : Type 0) (names : Names) (level : Inside) (here : Context) (R : Found → Type 0) (bracket : ℕ) (ps : Contents) → LevelSound level → Sound G (Is R) (where_clean (a.contents_alone names level here ps) (λ u. fault bracket WrongType))
s-placeless G names level here R bracket ps l =
    s-where_clean G Any R (a.contents_alone names level here ps) (λ u. fault bracket WrongType) (s-contents_alone G names level here ps l) (λ u. s-fault _ (Is R) bracket WrongType)

-- ---- aggregates

s-composite : (G : Type 0) (names : Names) (level : Inside) (here : Context) (bracket n i : ℕ) (R : Found → Type 0) (made : TypedPart → Found) (log : Log) (ps : Contents) → LevelSound level → (G → Clear here) → ((x : TypedPart) → R (made x))
    → Sound G (Is R) (a.composite_at names level here bracket n i log (shape_in log n) ps >>= λ c. pure (option_map made c))
s-composite G names level here bracket n i R made log ps l c f =
    s-bind G (Is Any) (Is R) (a.composite_at names level here bracket n i log (shape_in log n) ps) _ (s-composite_at G names level here bracket n i log (shape_in log n) ps l c) (λ x.
    s-pure _ (Is R) (option_map made x) (λ g. mapped Any R made x g.1 (λ y k. f y)))

pub s-aggregate_rest : (G : Type 0) (names : Names) (level : Inside) (here : Context) (n i bracket : ℕ) (ps : Contents) → LevelSound level → (G → Clear here) → Sound G (Is RestOf) (a.aggregate names level here (wanted.Rest n i) bracket ps)
unfolding a.aggregate
s-aggregate_rest G names level here n i bracket ps l c = record {
  grows = λ log. (s-composite G names level here bracket n i RestOf (a.rest_found bracket) log ps l c (λ x. tt)).grows log;
  at = λ log d e g. (s-composite G names level here bracket n i RestOf (a.rest_found bracket) log ps l c (λ x. tt)).at log d e g;
}

pub s-aggregate : (G : Type 0) (names : Names) (level : Inside) (here : Context) (want : Wanted) (bracket : ℕ) (ps : Contents) → LevelSound level → (G → Clear here) → (G → Plain want) → Sound G (Is (FoundFor want)) (a.aggregate names level here want bracket ps)
unfolding a.aggregate
s-aggregate G names level here (wanted.Composite n) bracket ps l c h =
    record {
      grows = λ log. (s-composite G names level here bracket n 0 (FoundFor (wanted.Composite n)) (a.composite_found bracket n) log ps l c (λ x. tt)).grows log;
      at = λ log d e g. (s-composite G names level here bracket n 0 (FoundFor (wanted.Composite n)) (a.composite_found bracket n) log ps l c (λ x. tt)).at log d e g;
    }
s-aggregate G names level here (wanted.Rest n i) bracket ps l c h = s-never G G (Is RestOf) (Is (FoundFor (wanted.Rest n i))) (a.aggregate names level here (wanted.Rest n i) bracket ps) (s-aggregate_rest G names level here n i bracket ps l c) h
s-aggregate G names level here wanted.Unknown bracket ps l c h = s-pure G (Is (FoundFor wanted.Unknown)) None (λ g. absurd (h g))
s-aggregate G names level here want bracket ps l c h = s-placeless G names level here (FoundFor want) bracket ps l
