-- Judging that is counted: aggregates.
use Rattle.name_rules.specs.Attributes.{alone}
use Rattle.name_rules.specs.Expressions.{Inside, expr, judged_alone, value_for}
use Rattle.syntax_tree.specs.FirstTokens as first_token
use Rattle.name_rules.specs.Judging.{breaks, fault, given, joined, pure, read, some, unless, where_clean, ◌>>=◌}
use Rattle.name_rules.specs.Names.{index, is_record}
use Rattle.name_rules.specs.Parts.{new_parameter}
use Rattle.name_rules.specs.Ranges.{Chosen, Static, chosen_span, chosen_value, static_range}
use Rattle.name_rules.specs.Scope.{with_entry}
use Rattle.name_rules.specs.Shapes.{is_aggregate}
use Rattle.name_rules.specs.Symbols.{symbol}
use Rattle.name_rules.specs.Types.{array_cells, cells_in, cells_of_shape, component_of, dimensions_of, extent, fields_of, same, shape_in}
use Rattle.name_rules.specs.declared.found.Found.TheVariants as known
use Rattle.name_rules.specs.declared.found.Found.{Found as Known}
use Rattle.name_rules.specs.declared.log.Dimension.{Dimension}
use Rattle.name_rules.specs.declared.log.Field.{Field}
use Rattle.name_rules.specs.declared.log.Log.{Log}
use Rattle.name_rules.specs.declared.log.Rule.TheVariants.{StaticRange, WrongType}
use Rattle.name_rules.specs.declared.log.Shape.{Shape}
use Rattle.name_rules.specs.declared.scope.Context.{Context}
use Rattle.name_rules.specs.declared.scope.Names.{Names}
use Rattle.name_rules.specs.declared.types.Kind.{Kind}
use Rattle.name_rules.specs.declared.types.Subtype.{Subtype}
use Rattle.name_rules.specs.declared.types.Wanted.TheVariants as wanted
use Rattle.name_rules.specs.declared.types.Wanted.{Wanted}
use Rattle.syntax_tree.specs.Syntax as syntax
use Rattle.syntax_tree.specs.Syntax.{Assoc, Assocs, Choice, Choices, Expr, Exprs, OptionalExpr}
use Rattle.typed_tree.specs.Decoded as part
use Rattle.typed_tree.specs.declared.expressions.Iterated.{Iterated}
use Rattle.typed_tree.specs.declared.expressions.Run.{Run}
use Rattle.std.specs.Prelude.{Bool, List, None, Option, Some, [], drop, false, length, not, option_map, pos, true, ℕ, ℤ, ◌&&◌, ◌*◌, ◌+ℤ◌, ◌+◌, ◌==◌, ◌||◌, ◌∷◌}
use Rattle.typed_tree.specs.Decoded.{TypedPart}
use Rattle.typed_tree.specs.Latest.{turned}
use Rattle.name_rules.specs.Aggregates.{ByAssociation, ByPosition, Choosing', Component, Contents, Filling, Placing, aggregate, aggregate_part, also_chosen, array_assoc, array_assocs, array_at, array_choice, array_choices, array_of, array_placed, array_rest, array_values, as_rest, broken_placing, by_position, chosen_given, component_at, composite_at, composite_found, contents_alone, covered, covered_alone, dimension_of, field_choices, field_run, field_value, fields_value, filled, filling, gaps_of, index_what, inner_aggregate, inner_value, is_alone, is_final, is_last, iterated_given, no_aggregate, nothing_placed, of_index_type, record_assoc, record_assocs, record_parts, record_rest, record_values, rest_found, runs_of, some_fields, with_ranges, with_rest, with_runs, with_value}
use Rattle.std.proofs.Common.{arith}
use Rattle.name_laws.proofs.KeepsAggregates.{k-contents_alone, k-field_choices, k-inner_aggregate}
use Rattle.name_laws.proofs.KeepsExpressions.{k-expr, k-judged_alone, k-value_for}
use Rattle.name_laws.proofs.KeepsParts.{k-new_parameter}
use Rattle.name_laws.proofs.Walk.{k-breaks, k-read, k-unless}
use Rattle.name_scopes.proofs.SpendsExpressions.{s-expr, s-value_for}
use Rattle.name_scopes.proofs.SpendsRanges.{s-chosen_span, s-chosen_value, s-static_range}
use Rattle.name_scopes.proofs.Leaving.{leaving}
use Rattle.name_scopes.proofs.Measures.{maybe-known, maybe-part, option-of, part-measure, part-size, with-part}
use Rattle.name_scopes.proofs.Parts.{n-also_all, n-associations, n-composite, n-exprs_of, n-turned, n-value, w-also_all, w-turned}
use Rattle.name_scopes.proofs.Records.{SpendsComponent, SpendsInside, chosen-of, filling-of, placing-of}
use Rattle.name_scopes.proofs.Spends.{Holds, Spends, h-if, h-joined, h-map, s-bind, s-fault, s-given, s-given-any, s-if, s-le, s-log, s-pure, s-some, s-then, s-where_clean, s-where_clean-any}
use Rattle.name_scopes.proofs.Tallies.{Tally}

pub z-with_value : (which : Tally) (x0 : List Run) (x1 : Option Iterated) (x2 : TypedPart) (x3 : TypedPart) (x4 : TypedPart) → (part-measure which).Whole x2 → (part-measure which).Whole x3 → (part-measure which).Whole x4 → Holds (part-measure which) (part-size which x2 + part-size which x3 + part-size which x4) (with_value x0 x1 x2 x3 x4)
z-with_value which rs i ms made v h2 h3 h4 = (((λ r. omega arith), h3), omega (arith, n-exprs_of which ms, n-value which v))

pub z-aggregate_part : (which : Tally) (x0 : ℕ) (x1 : ℕ) (x2 : TypedPart) → (part-measure which).Whole x2 → Holds (part-measure which) (part-size which x2) (aggregate_part x0 x1 x2)
z-aggregate_part which bracket cells made h2 = (tt, omega (arith, n-associations which (turned made) (w-turned which made h2), n-turned which made))

pub s-field_value : (which : Tally) (x0 : Names) (x1 : Inside) (x2 : Context) (x3 : Option TypedPart) (x4 : Field) (x5 : Expr) → SpendsInside which x1 → (maybe-part which).Whole x3 → Spends which (maybe-part which) ((maybe-part which).size x3) (field_value x0 x1 x2 x3 x4 x5)
unfolding field_value
s-field_value which names level here made f e h1 h3 =
    s-bind which (maybe-part which) (maybe-part which) 0 ((maybe-part which).size made) _ (value_for names level here f.subtype e) _ (s-le which (maybe-part which) _ _ _ (s-value_for which names level here f.subtype e h1) (omega arith)) (omega arith) (λ v held1.
    s-then which (maybe-part which) _ (read (λ log. field_run log f)) _ (k-read leaving (λ log. field_run log f)) (λ r.
    s-pure which (maybe-part which) _ (joined (with_value (r ∷ []) None part.Nothing) made v) (let made6 = h-joined (part-measure which) (part-measure which) (part-measure which) 0 (with_value (r ∷ []) None part.Nothing) made v h3 held1 (λ one held3 other held4. let made5 = z-with_value which (r ∷ []) None part.Nothing one other tt held3 held4 in
    (made5.0, omega (arith, made5.1))) in
    (made6.0, omega (arith, made6.1)))))

pub s-fields_value : (which : Tally) (x0 : Names) (x1 : Inside) (x2 : Context) (x3 : Option TypedPart) (x4 : List Field) (x5 : Expr) → SpendsInside which x1 → (maybe-part which).Whole x3 → Spends which (maybe-part which) ((maybe-part which).size x3) (fields_value x0 x1 x2 x3 x4 x5)
s-fields_value which names level here made [] e h1 h3 = s-pure which (maybe-part which) _ made (h3, omega arith)
s-fields_value which names level here made (f ∷ fs) e h1 h3 =
    s-bind which (maybe-part which) (maybe-part which) ((maybe-part which).size made) 0 _ (field_value names level here made f e) _ (s-le which (maybe-part which) _ _ _ (s-field_value which names level here made f e h1 h3) (omega arith)) (omega arith) (λ a held1.
    s-le which (maybe-part which) _ _ _ (s-fields_value which names level here a fs e h1 held1) (omega arith))

pub s-some_fields : (which : Tally) (x0 : Names) (x1 : Inside) (x2 : Context) (x3 : Option TypedPart) (x4 : List Field) (x5 : Expr) → SpendsInside which x1 → (maybe-part which).Whole x3 → Spends which (maybe-part which) ((maybe-part which).size x3) (some_fields x0 x1 x2 x3 x4 x5)
s-some_fields which names level here made [] e h1 h3 =
    s-then which (maybe-part which) _ (judged_alone names level here e) _ (k-judged_alone leaving names level here e tt h1.keeps) (λ u.
    s-pure which (maybe-part which) _ made (h3, omega arith))
s-some_fields which names level here made fs e h1 h3 = s-le which (maybe-part which) _ _ _ (s-fields_value which names level here made fs e h1 h3) (omega arith)

pub z-filling : (which : Tally) (x0 : Option TypedPart) (x1 : List Field) (x2 : Bool) → (maybe-part which).Whole x0 → Holds (filling-of which) ((maybe-part which).size x0) (filling x0 x1 x2)
z-filling which x fs b h0 = (h0, omega arith)

pub s-by_position : (which : Tally) (x0 : Names) (x1 : Inside) (x2 : Context) (x3 : List Field) (x4 : Filling) (x5 : Expr) → SpendsInside which x1 → (maybe-part which).Whole x4.done → Spends which (filling-of which) ((maybe-part which).size x4.done) (by_position x0 x1 x2 x3 x4 x5)
s-by_position which names level here [] f e h1 h4-done =
    s-then which (filling-of which) _ (judged_alone names level here e) _ (k-judged_alone leaving names level here e tt h1.keeps) (λ u.
    s-pure which (filling-of which) _ (filling f.done [] true) (let made2 = z-filling which f.done [] true h4-done in
    (made2.0, omega (arith, made2.1))))
s-by_position which names level here (g ∷ gs) f e h1 h4-done =
    s-bind which (maybe-part which) (filling-of which) ((maybe-part which).size f.done) 0 _ (field_value names level here f.done g e) _ (s-le which (maybe-part which) _ _ _ (s-field_value which names level here f.done g e h1 h4-done) (omega arith)) (omega arith) (λ a held1.
    s-pure which (filling-of which) _ (filling a gs f.over) (let made2 = z-filling which a gs f.over held1 in
    (made2.0, omega (arith, made2.1))))

pub s-record_assoc : (which : Tally) (x0 : Names) (x1 : Inside) (x2 : Context) (x3 : List Field) (x4 : Bool) (x5 : Filling) (x6 : Assoc) → SpendsInside which x1 → (maybe-part which).Whole x5.done → Spends which (filling-of which) ((maybe-part which).size x5.done) (record_assoc x0 x1 x2 x3 x4 x5 x6)
s-record_assoc which names level here all last f (syntax.Chosen c cs e) h1 h5-done =
    s-then which (filling-of which) _ (field_choices names all (is_alone cs) last f.left [] (syntax.AlsoChoice c cs)) _ (k-field_choices leaving names all (is_alone cs) last f.left [] (syntax.AlsoChoice c cs) tt) (λ r.
    s-bind which (maybe-part which) (filling-of which) ((maybe-part which).size f.done) 0 _ (some_fields names level here f.done r.0 e) _ (s-le which (maybe-part which) _ _ _ (s-some_fields which names level here f.done r.0 e h1 h5-done) (omega arith)) (omega arith) (λ x held2.
    s-pure which (filling-of which) _ (filling x r.1 f.over) (let made3 = z-filling which x r.1 f.over held2 in
    (made3.0, omega (arith, made3.1)))))
s-record_assoc which names level here all last f (syntax.Each at index r e) h1 h5-done =
    s-then which (filling-of which) _ (breaks at WrongType) _ (k-breaks leaving at WrongType) (λ u.
    s-pure which (filling-of which) _ f (h5-done, omega arith))

pub s-record_assocs : (which : Tally) (x0 : Names) (x1 : Inside) (x2 : Context) (x3 : List Field) (x4 : Filling) (x5 : Assocs) → SpendsInside which x1 → (maybe-part which).Whole x4.done → Spends which (filling-of which) ((maybe-part which).size x4.done) (record_assocs x0 x1 x2 x3 x4 x5)
s-record_assocs which names level here all f syntax.NoAssoc h1 h4-done = s-pure which (filling-of which) _ f (h4-done, omega arith)
s-record_assocs which names level here all f (syntax.AlsoAssoc a as') h1 h4-done =
    s-bind which (filling-of which) (filling-of which) ((maybe-part which).size f.done) 0 _ (record_assoc names level here all (is_final as') f a) _ (s-le which (filling-of which) _ _ _ (s-record_assoc which names level here all (is_final as') f a h1 h4-done) (omega arith)) (omega arith) (λ g held1.
    s-le which (filling-of which) _ _ _ (s-record_assocs which names level here all g as' h1 held1) (omega arith))

pub s-record_values : (which : Tally) (x0 : Names) (x1 : Inside) (x2 : Context) (x3 : Filling) (x4 : Exprs) → SpendsInside which x1 → (maybe-part which).Whole x3.done → Spends which (filling-of which) ((maybe-part which).size x3.done) (record_values x0 x1 x2 x3 x4)
s-record_values which names level here f syntax.NoExpr h1 h3-done = s-pure which (filling-of which) _ f (h3-done, omega arith)
s-record_values which names level here f (syntax.AlsoExpr e es) h1 h3-done =
    s-bind which (filling-of which) (filling-of which) ((maybe-part which).size f.done) 0 _ (by_position names level here f.left f e) _ (s-le which (filling-of which) _ _ _ (s-by_position which names level here f.left f e h1 h3-done) (omega arith)) (omega arith) (λ g held1.
    s-le which (filling-of which) _ _ _ (s-record_values which names level here g es h1 held1) (omega arith))

pub s-record_rest : (which : Tally) (x0 : Names) (x1 : Inside) (x2 : Context) (x3 : Filling) (x4 : OptionalExpr) → SpendsInside which x1 → (maybe-part which).Whole x3.done → Spends which (filling-of which) ((maybe-part which).size x3.done) (record_rest x0 x1 x2 x3 x4)
s-record_rest which names level here f syntax.AbsentExpr h1 h3-done = s-pure which (filling-of which) _ f (h3-done, omega arith)
s-record_rest which names level here f (syntax.PresentExpr e) h1 h3-done =
    s-bind which (maybe-part which) (filling-of which) ((maybe-part which).size f.done) 0 _ (some_fields names level here f.done f.left e) _ (s-le which (maybe-part which) _ _ _ (s-some_fields which names level here f.done f.left e h1 h3-done) (omega arith)) (omega arith) (λ x held1.
    s-pure which (filling-of which) _ (filling x [] f.over) (let made2 = z-filling which x [] f.over held1 in
    (made2.0, omega (arith, made2.1))))

pub s-record_parts : (which : Tally) (x0 : Names) (x1 : Inside) (x2 : Context) (x3 : List Field) (x4 : Contents) → SpendsInside which x1 → Spends which (filling-of which) 0 (record_parts x0 x1 x2 x3 x4)
s-record_parts which names level here all (ByPosition es o) h1 =
    s-bind which (filling-of which) (filling-of which) 0 0 _ (record_values names level here (filling (Some part.Nothing) all false) es) _ (let made2 = z-filling which (Some part.Nothing) all false tt in
    s-le which (filling-of which) _ _ _ (s-record_values which names level here (filling (Some part.Nothing) all false) es h1 made2.0) (omega (arith, made2.1))) (omega arith) (λ f held1.
    s-le which (filling-of which) _ _ _ (s-record_rest which names level here f o h1 held1) (omega arith))
s-record_parts which names level here all (ByAssociation as') h1 =
    let made1 = z-filling which (Some part.Nothing) all false tt in
    s-le which (filling-of which) _ _ _ (s-record_assocs which names level here all (filling (Some part.Nothing) all false) as' h1 made1.0) (omega (arith, made1.1))

pub s-filled : (which : Tally) (x0 : ℕ) (x1 : ℕ) (x2 : Filling) → (maybe-part which).Whole x2.done → Spends which (maybe-part which) ((maybe-part which).size x2.done) (filled x0 x1 x2)
s-filled which bracket cells f h2-done =
    s-if which (maybe-part which) _ (f.over || not (length f.left == 0)) (fault bracket StaticRange) (pure (option_map (aggregate_part bracket cells) f.done))
    (s-fault which (part-measure which) _ bracket StaticRange)
    (s-pure which (maybe-part which) _ (option_map (aggregate_part bracket cells) f.done) (let made3 = h-map (part-measure which) (part-measure which) 0 (aggregate_part bracket cells) f.done h2-done (λ item held1. let made2 = z-aggregate_part which bracket cells item held1 in
    (made2.0, omega (arith, made2.1))) in
    (made3.0, omega (arith, made3.1))))

pub z-with_runs : (which : Tally) (x0 : Option Iterated) (x1 : TypedPart) (x2 : Option (List Run)) (x3 : Option TypedPart) (x4 : Option TypedPart) → (part-measure which).Whole x1 → (maybe-part which).Whole x3 → (maybe-part which).Whole x4 → Holds (maybe-part which) (part-size which x1 + (maybe-part which).size x3 + (maybe-part which).size x4) (with_runs x0 x1 x2 x3 x4)
z-with_runs which i ms None before v h1 h3 h4 = (tt, omega arith)
z-with_runs which i ms (Some rs) before v h1 h3 h4 =
    let made4 = h-joined (part-measure which) (part-measure which) (part-measure which) (part-size which ms) (with_value rs i ms) before v h3 h4 (λ one held1 other held2. let made3 = z-with_value which rs i ms one other h1 held1 held2 in
    (made3.0, omega (arith, made3.1))) in
    (made4.0, omega (arith, made4.1))

pub z-with_ranges : (which : Tally) (x0 : Dimension) (x1 : ℕ) (x2 : Option Iterated) (x3 : TypedPart) (x4 : Placing) (x5 : List (ℤ × ℤ)) (x6 : Option TypedPart) → (part-measure which).Whole x3 → (maybe-part which).Whole x4.done → (option-of (maybe-part which)).Whole x4.rest → (maybe-part which).Whole x6 → Holds (placing-of which) (part-size which x3 + (maybe-part which).size x4.done + (option-of (maybe-part which)).size x4.rest + (maybe-part which).size x6) (with_ranges x0 x1 x2 x3 x4 x5 x6)
z-with_ranges which d apart i ms p rs v h3 h4-done h4-rest h6 =
    let made1 = z-with_runs which i ms (runs_of d apart rs) p.done v h3 h4-done h6 in
    ((made1.0, h4-rest), omega (arith, made1.1))

pub z-with_rest : (which : Tally) (x0 : Placing) (x1 : Option TypedPart) → (maybe-part which).Whole x0.done → (maybe-part which).Whole x1 → Holds (placing-of which) ((maybe-part which).size x0.done + (maybe-part which).size x1) (with_rest x0 x1)
z-with_rest which p v h0-done h1 = ((h0-done, h1), omega arith)

pub z-also_chosen : (which : Tally) (x0 : Choosing') (x1 : Chosen) → (part-measure which).Whole x0.mentions → (with-part which).Whole x1 → Holds (chosen-of which) (part-size which x0.mentions + part-size which x1.part) (also_chosen x0 x1)
z-also_chosen which c x h0-mentions h1 = (w-also_all which c.mentions x.part h0-mentions h1, omega (arith, n-also_all which c.mentions x.part))

pub z-as_rest : (which : Tally) (x0 : Choosing') → (part-measure which).Whole x0.mentions → Holds (chosen-of which) (part-size which x0.mentions) (as_rest x0)
z-as_rest which c h0-mentions = (h0-mentions, omega arith)

pub s-array_choice : (which : Tally) (x0 : Inside) (x1 : Context) (x2 : Kind) (x3 : Bool) (x4 : Bool) (x5 : Option Choosing') (x6 : Choice) → SpendsInside which x0 → (option-of (chosen-of which)).Whole x5 → Spends which (option-of (chosen-of which)) ((option-of (chosen-of which)).size x5) (array_choice x0 x1 x2 x3 x4 x5 x6)
s-array_choice which level here k alone last made (syntax.Value s) h0 h5 =
    s-bind which (maybe-known which) (option-of (chosen-of which)) 0 ((option-of (chosen-of which)).size made) _ (chosen_value level here (Some k) s) _ (s-le which (maybe-known which) _ _ _ (s-chosen_value which level here (Some k) s h0) (omega arith)) (omega arith) (λ c held1.
    s-pure which (option-of (chosen-of which)) _ (joined also_chosen made c) (let made5 = h-joined (chosen-of which) (with-part which) (chosen-of which) 0 also_chosen made c h5 held1 (λ one held2 other held3. let made4 = z-also_chosen which one other held2 held3 in
    (made4.0, omega (arith, made4.1))) in
    (made5.0, omega (arith, made5.1))))
s-array_choice which level here k alone last made (syntax.Span low high) h0 h5 =
    s-bind which (maybe-known which) (option-of (chosen-of which)) 0 ((option-of (chosen-of which)).size made) _ (chosen_span level here (Some k) low high) _ (s-le which (maybe-known which) _ _ _ (s-chosen_span which level here (Some k) low high h0) (omega arith)) (omega arith) (λ c held1.
    s-pure which (option-of (chosen-of which)) _ (joined also_chosen made c) (let made5 = h-joined (chosen-of which) (with-part which) (chosen-of which) 0 also_chosen made c h5 held1 (λ one held2 other held3. let made4 = z-also_chosen which one other held2 held3 in
    (made4.0, omega (arith, made4.1))) in
    (made5.0, omega (arith, made5.1))))
s-array_choice which level here k alone last made (syntax.Others at) h0 h5 =
    s-then which (option-of (chosen-of which)) _ (unless (alone && last) at StaticRange) _ (k-unless leaving (alone && last) at StaticRange) (λ u.
    s-pure which (option-of (chosen-of which)) _ (option_map as_rest made) (let made4 = h-map (chosen-of which) (chosen-of which) 0 as_rest made h5 (λ item held2. let made3 = z-as_rest which item held2 in
    (made3.0, omega (arith, made3.1))) in
    (made4.0, omega (arith, made4.1))))

pub s-array_choices : (which : Tally) (x0 : Inside) (x1 : Context) (x2 : Kind) (x3 : Bool) (x4 : Bool) (x5 : Option Choosing') (x6 : Choices) → SpendsInside which x0 → (option-of (chosen-of which)).Whole x5 → Spends which (option-of (chosen-of which)) ((option-of (chosen-of which)).size x5) (array_choices x0 x1 x2 x3 x4 x5 x6)
s-array_choices which level here k alone last made syntax.NoChoice h0 h5 = s-pure which (option-of (chosen-of which)) _ made (h5, omega arith)
s-array_choices which level here k alone last made (syntax.AlsoChoice c cs) h0 h5 =
    s-bind which (option-of (chosen-of which)) (option-of (chosen-of which)) ((option-of (chosen-of which)).size made) 0 _ (array_choice level here k alone last made c) _ (s-le which (option-of (chosen-of which)) _ _ _ (s-array_choice which level here k alone last made c h0 h5) (omega arith)) (omega arith) (λ r held1.
    s-le which (option-of (chosen-of which)) _ _ _ (s-array_choices which level here k alone last r cs h0 held1) (omega arith))

pub s-of_index_type : (which : Tally) (x0 : Kind) (x1 : ℕ) (x2 : Static) → (with-part which).Whole x2 → Spends which (maybe-known which) (part-size which x2.part) (of_index_type x0 x1 x2)
s-of_index_type which k first r h2 =
    s-if which (maybe-known which) _ (same r.known.kind k) (some r) (fault first WrongType)
    (s-some which (with-part which) _ r (h2, omega arith))
    (s-fault which (with-part which) _ first WrongType)

pub z-broken_placing : (which : Tally) (x0 : Placing) → (option-of (maybe-part which)).Whole x0.rest → Holds (placing-of which) ((option-of (maybe-part which)).size x0.rest) (broken_placing x0)
z-broken_placing which p h0-rest = ((tt, h0-rest), omega arith)

pub z-iterated_given : (which : Tally) (x0 : Dimension) (x1 : ℕ) (x2 : ℕ) (x3 : Placing) (x4 : Option Static) (x5 : Option TypedPart) → (maybe-part which).Whole x3.done → (option-of (maybe-part which)).Whole x3.rest → (maybe-known which).Whole x4 → (maybe-part which).Whole x5 → Holds (placing-of which) ((maybe-part which).size x3.done + (option-of (maybe-part which)).size x3.rest + (maybe-known which).size x4 + (maybe-part which).size x5) (iterated_given x0 x1 x2 x3 x4 x5)
z-iterated_given which d apart n p None v h3-done h3-rest h4 h5 =
    let made1 = z-broken_placing which p h3-rest in
    (made1.0, omega (arith, made1.1))
z-iterated_given which d apart n p (Some r) v h3-done h3-rest h4 h5 =
    let made1 = z-with_ranges which d apart (Some (record { parameter = n; first = r.known.low })) r.part p ((r.known.low, r.known.high) ∷ []) v h4 h3-done h3-rest h5 in
    (made1.0, omega (arith, made1.1))

pub z-chosen_given : (which : Tally) (x0 : Dimension) (x1 : ℕ) (x2 : Placing) (x3 : Option Choosing') (x4 : Option TypedPart) → (maybe-part which).Whole x2.done → (option-of (maybe-part which)).Whole x2.rest → (option-of (chosen-of which)).Whole x3 → (maybe-part which).Whole x4 → Holds (placing-of which) ((maybe-part which).size x2.done + (option-of (maybe-part which)).size x2.rest + (option-of (chosen-of which)).size x3 + (maybe-part which).size x4) (chosen_given x0 x1 x2 x3 x4)
z-chosen_given which d apart p None v h2-done h2-rest h3 h4 =
    let made1 = z-broken_placing which p h2-rest in
    (made1.0, omega (arith, made1.1))
z-chosen_given which d apart p (Some c) v h2-done h2-rest h3 h4 =
    h-if (placing-of which) _ c.rest (with_rest p v) (with_ranges d apart None c.mentions p c.ranges v) (let made1 = z-with_rest which p v h2-done h4 in
    (made1.0, omega (arith, made1.1))) (let made2 = z-with_ranges which d apart None c.mentions p c.ranges v h3 h2-done h2-rest h4 in
    (made2.0, omega (arith, made2.1)))

pub s-array_assoc : (which : Tally) (x0 : Names) (x1 : Inside) (x2 : Context) (x3 : Component) (x4 : Dimension) (x5 : ℕ) (x6 : Bool) (x7 : Placing) (x8 : Assoc) → SpendsInside which x1 → SpendsComponent which x3 → (maybe-part which).Whole x7.done → (option-of (maybe-part which)).Whole x7.rest → Spends which (placing-of which) ((maybe-part which).size x7.done + (option-of (maybe-part which)).size x7.rest) (array_assoc x0 x1 x2 x3 x4 x5 x6 x7 x8)
unfolding array_assoc
s-array_assoc which names level here component d apart last p (syntax.Chosen c cs e) h1 h3 h7-done h7-rest =
    s-bind which (option-of (chosen-of which)) (placing-of which) 0 ((maybe-part which).size p.done + (option-of (maybe-part which)).size p.rest) _ (array_choices level here d.kind (is_alone cs) last (Some (record { ranges = []; rest = false; mentions = part.Nothing })) (syntax.AlsoChoice c cs)) _ (s-le which (option-of (chosen-of which)) _ _ _ (s-array_choices which level here d.kind (is_alone cs) last (Some (record { ranges = []; rest = false; mentions = part.Nothing })) (syntax.AlsoChoice c cs) h1 tt) (omega arith)) (omega arith) (λ r held1.
    s-bind which (maybe-part which) (placing-of which) 0 ((maybe-part which).size p.done + (option-of (maybe-part which)).size p.rest + (option-of (chosen-of which)).size r) _ (component here e) _ (s-le which (maybe-part which) 0 _ _ (h3.gives here e) (omega arith)) (omega arith) (λ v held2.
    s-pure which (placing-of which) _ (chosen_given d apart p r v) (let made3 = z-chosen_given which d apart p r v h7-done h7-rest held1 held2 in
    (made3.0, omega (arith, made3.1)))))
s-array_assoc which names level here component d apart last p (syntax.Each at index r e) h1 h3 h7-done h7-rest =
    s-bind which (maybe-known which) (placing-of which) 0 ((maybe-part which).size p.done + (option-of (maybe-part which)).size p.rest) _ (static_range level here false (Some d.kind) r) _ (s-le which (maybe-known which) _ _ _ (s-static_range which level here false (Some d.kind) r h1) (omega arith)) (omega arith) (λ x held1.
    s-bind which (maybe-known which) (placing-of which) ((maybe-known which).size x) ((maybe-part which).size p.done + (option-of (maybe-part which)).size p.rest) _ (given x (of_index_type d.kind (first_token.of_range r))) _ (s-given which (with-part which) (with-part which) 0 _ x _ held1 (omega arith) (λ item held6.
    s-le which (maybe-known which) _ _ _ (s-of_index_type which d.kind (first_token.of_range r) item held6) (omega arith))) (omega arith) (λ s held2.
    s-then which (placing-of which) _ new_parameter _ (k-new_parameter leaving) (λ n.
    s-bind which (maybe-part which) (placing-of which) 0 ((maybe-part which).size p.done + (option-of (maybe-part which)).size p.rest + (maybe-known which).size s) _ (component (with_entry here (symbol names index) (index_what n s)) e) _ (s-le which (maybe-part which) 0 _ _ (h3.gives (with_entry here (symbol names index) (index_what n s)) e) (omega arith)) (omega arith) (λ v held4.
    s-pure which (placing-of which) _ (iterated_given d apart n p s v) (let made5 = z-iterated_given which d apart n p s v h7-done h7-rest held2 held4 in
    (made5.0, omega (arith, made5.1)))))))

pub s-array_assocs : (which : Tally) (x0 : Names) (x1 : Inside) (x2 : Context) (x3 : Component) (x4 : Dimension) (x5 : ℕ) (x6 : Placing) (x7 : Assocs) → SpendsInside which x1 → SpendsComponent which x3 → (maybe-part which).Whole x6.done → (option-of (maybe-part which)).Whole x6.rest → Spends which (placing-of which) ((maybe-part which).size x6.done + (option-of (maybe-part which)).size x6.rest) (array_assocs x0 x1 x2 x3 x4 x5 x6 x7)
s-array_assocs which names level here component d apart p syntax.NoAssoc h1 h3 h6-done h6-rest = s-pure which (placing-of which) _ p ((h6-done, h6-rest), omega arith)
s-array_assocs which names level here component d apart p (syntax.AlsoAssoc a as') h1 h3 h6-done h6-rest =
    s-bind which (placing-of which) (placing-of which) ((maybe-part which).size p.done + (option-of (maybe-part which)).size p.rest) 0 _ (array_assoc names level here component d apart (is_final as') p a) _ (s-le which (placing-of which) _ _ _ (s-array_assoc which names level here component d apart (is_final as') p a h1 h3 h6-done h6-rest) (omega arith)) (omega arith) (λ q held1.
    s-le which (placing-of which) _ _ _ (s-array_assocs which names level here component d apart q as' h1 h3 held1.0 held1.1) (omega arith))

pub s-array_values : (which : Tally) (x0 : Context) (x1 : Component) (x2 : Dimension) (x3 : ℕ) (x4 : ℤ) (x5 : Placing) (x6 : Exprs) → SpendsComponent which x1 → (maybe-part which).Whole x5.done → (option-of (maybe-part which)).Whole x5.rest → Spends which (placing-of which) ((maybe-part which).size x5.done + (option-of (maybe-part which)).size x5.rest) (array_values x0 x1 x2 x3 x4 x5 x6)
s-array_values which here component d apart z p syntax.NoExpr h1 h5-done h5-rest = s-pure which (placing-of which) _ p ((h5-done, h5-rest), omega arith)
s-array_values which here component d apart z p (syntax.AlsoExpr e es) h1 h5-done h5-rest =
    s-bind which (maybe-part which) (placing-of which) 0 ((maybe-part which).size p.done + (option-of (maybe-part which)).size p.rest) _ (component here e) _ (s-le which (maybe-part which) 0 _ _ (h1.gives here e) (omega arith)) (omega arith) (λ v held1.
    let made2 = z-with_ranges which d apart None part.Nothing p ((z, z) ∷ []) v tt h5-done h5-rest held1 in
    s-le which (placing-of which) _ _ _ (s-array_values which here component d apart (z +ℤ pos 1) (with_ranges d apart None part.Nothing p ((z, z) ∷ []) v) es h1 made2.0.0 made2.0.1) (omega (arith, made2.1)))

pub s-array_rest : (which : Tally) (x0 : Context) (x1 : Component) (x2 : OptionalExpr) (x3 : Placing) → SpendsComponent which x1 → (maybe-part which).Whole x3.done → (option-of (maybe-part which)).Whole x3.rest → Spends which (placing-of which) ((maybe-part which).size x3.done + (option-of (maybe-part which)).size x3.rest) (array_rest x0 x1 x2 x3)
s-array_rest which here component syntax.AbsentExpr p h1 h3-done h3-rest = s-pure which (placing-of which) _ p ((h3-done, h3-rest), omega arith)
s-array_rest which here component (syntax.PresentExpr e) p h1 h3-done h3-rest =
    s-bind which (maybe-part which) (placing-of which) 0 ((maybe-part which).size p.done) _ (component here e) _ (s-le which (maybe-part which) 0 _ _ (h1.gives here e) (omega arith)) (omega arith) (λ v held1.
    s-pure which (placing-of which) _ (with_rest p v) (let made2 = z-with_rest which p v h3-done held1 in
    (made2.0, omega (arith, made2.1))))

pub s-array_placed : (which : Tally) (x0 : Names) (x1 : Inside) (x2 : Context) (x3 : Component) (x4 : Dimension) (x5 : ℕ) (x6 : Contents) → SpendsInside which x1 → SpendsComponent which x3 → Spends which (placing-of which) 0 (array_placed x0 x1 x2 x3 x4 x5 x6)
s-array_placed which names level here component d apart (ByPosition es o) h1 h3 =
    s-bind which (placing-of which) (placing-of which) 0 0 _ (array_values here component d apart d.low nothing_placed es) _ (s-le which (placing-of which) _ _ _ (s-array_values which here component d apart d.low nothing_placed es h3 tt tt) (omega arith)) (omega arith) (λ out held1.
    s-le which (placing-of which) _ _ _ (s-array_rest which here component o out h3 held1.0 held1.1) (omega arith))
s-array_placed which names level here component d apart (ByAssociation as') h1 h3 = s-le which (placing-of which) _ _ _ (s-array_assocs which names level here component d apart nothing_placed as' h1 h3 tt tt) (omega arith)

pub s-covered_alone : (which : Tally) (x0 : ℕ) (x1 : ℕ) (x2 : Option TypedPart) (x3 : List (ℤ × ℤ)) → (maybe-part which).Whole x2 → Spends which (maybe-part which) ((maybe-part which).size x2) (covered_alone x0 x1 x2 x3)
s-covered_alone which bracket cells made os h2 =
    s-if which (maybe-part which) _ (length os == 0) (pure (option_map (aggregate_part bracket cells) made)) (fault bracket StaticRange)
    (s-pure which (maybe-part which) _ (option_map (aggregate_part bracket cells) made) (let made3 = h-map (part-measure which) (part-measure which) 0 (aggregate_part bracket cells) made h2 (λ item held1. let made2 = z-aggregate_part which bracket cells item held1 in
    (made2.0, omega (arith, made2.1))) in
    (made3.0, omega (arith, made3.1))))
    (s-fault which (part-measure which) _ bracket StaticRange)

pub s-covered : (which : Tally) (x0 : ℕ) (x1 : Dimension) (x2 : ℕ) (x3 : ℕ) (x4 : Placing) (x5 : Option (List (ℤ × ℤ))) (x6 : Option (Option TypedPart)) → (maybe-part which).Whole x4.done → (option-of (maybe-part which)).Whole x6 → Spends which (maybe-part which) ((maybe-part which).size x4.done + (option-of (maybe-part which)).size x6) (covered x0 x1 x2 x3 x4 x5 x6)
s-covered which bracket d apart cells p None v h4-done h6 = s-fault which (part-measure which) _ bracket StaticRange
s-covered which bracket d apart cells p (Some os) None h4-done h6 = s-le which (maybe-part which) _ _ _ (s-covered_alone which bracket cells p.done os h4-done) (omega arith)
s-covered which bracket d apart cells p (Some os) (Some v) h4-done h6 =
    s-pure which (maybe-part which) _ (option_map (aggregate_part bracket cells) (with_runs None part.Nothing (runs_of d apart os) p.done v)) (let made3 = z-with_runs which None part.Nothing (runs_of d apart os) p.done v tt h4-done h6 in
    let made4 = h-map (part-measure which) (part-measure which) 0 (aggregate_part bracket cells) (with_runs None part.Nothing (runs_of d apart os) p.done v) made3.0 (λ item held1. let made2 = z-aggregate_part which bracket cells item held1 in
    (made2.0, omega (arith, made2.1))) in
    (made4.0, omega (arith, made4.1, made3.1)))

pub s-dimension_of : (which : Tally) (x0 : Names) (x1 : Inside) (x2 : Context) (x3 : ℕ) (x4 : Component) (x5 : Dimension) (x6 : ℕ) (x7 : Contents) → SpendsInside which x1 → SpendsComponent which x4 → Spends which (maybe-part which) 0 (dimension_of x0 x1 x2 x3 x4 x5 x6 x7)
unfolding dimension_of
s-dimension_of which names level here bracket component d apart ps h1 h4 =
    s-where_clean which (placing-of which) (part-measure which) 0 0 _ (array_placed names level here component d apart ps) _ (s-le which (placing-of which) _ _ _ (s-array_placed which names level here component d apart ps h1 h4) (omega arith)) (omega arith) (λ p held1.
    s-le which (maybe-part which) _ _ _ (s-covered which bracket d apart (extent d * apart) p (gaps_of d.low d.high p.ranges) p.rest held1.0 held1.1) (omega arith))

pub s-no_aggregate : (which : Tally) (x0 : Names) (x1 : Inside) (x2 : Context) (x3 : Expr) → SpendsInside which x1 → Spends which (maybe-part which) 0 (no_aggregate x0 x1 x2 x3)
s-no_aggregate which names level here e h1 =
    s-then which (maybe-part which) _ (expr names level here wanted.Other e) _ (k-expr leaving names level here wanted.Other e tt h1.keeps) (λ x.
    s-given-any which (part-measure which) _ x _ (λ f.
    s-fault which (part-measure which) _ (first_token.of_expr e) WrongType))

pub z-inner_value : (which : Tally) (x0 : Known) (x1 : TypedPart) → (part-measure which).Whole x1 → Holds (maybe-part which) (part-size which x1) (inner_value x0 x1)
z-inner_value which (known.Rest first) x h1 = (tt, omega (arith, n-composite which x))
z-inner_value which f x h1 = (tt, omega arith)

pub s-inner_aggregate : (which : Tally) (x0 : Names) (x1 : Inside) (x2 : Context) (x3 : ℕ) (x4 : ℕ) (x5 : Expr) (x6 : Bool) → SpendsInside which x1 → Spends which (maybe-part which) 0 (inner_aggregate x0 x1 x2 x3 x4 x5 x6)
s-inner_aggregate which names level here n i e false h1 = s-le which (maybe-part which) _ _ _ (s-no_aggregate which names level here e h1) (omega arith)
s-inner_aggregate which names level here n i e true h1 =
    s-bind which (maybe-known which) (maybe-part which) 0 0 _ (expr names level here (wanted.Rest n i) e) _ (s-le which (maybe-known which) _ _ _ (s-expr which names level here (wanted.Rest n i) e h1) (omega arith)) (omega arith) (λ x held1.
    s-given which (with-part which) (part-measure which) 0 _ x _ held1 (omega arith) (λ f held2.
    s-pure which (maybe-part which) _ (inner_value f.known f.part) (let made3 = z-inner_value which f.known f.part held2 in
    (made3.0, omega (arith, made3.1)))))

pub spends-component_at : (which : Tally) (names : Names) (level : Inside) (n i : ℕ) (last : Bool) (s : Subtype) → SpendsInside which level → SpendsComponent which (component_at names level n i last s)
spends-component_at which names level n i true s h = record { keeps = λ here e. k-value_for leaving names level here s e tt h.keeps; gives = λ here e. s-value_for which names level here s e h }
spends-component_at which names level n i false s h = record { keeps = λ here e. k-inner_aggregate leaving names level here n (i + 1) e (is_aggregate e) tt h.keeps; gives = λ here e. s-inner_aggregate which names level here n (i + 1) e (is_aggregate e) h }

pub s-array_at : (which : Tally) (x0 : Names) (x1 : Inside) (x2 : Context) (x3 : ℕ) (x4 : ℕ) (x5 : ℕ) (x6 : List Dimension) (x7 : Subtype) (x8 : ℕ) (x9 : Contents) → SpendsInside which x1 → Spends which (maybe-part which) 0 (array_at x0 x1 x2 x3 x4 x5 x6 x7 x8 x9)
s-array_at which names level here bracket n i [] s cells ps h1 = s-fault which (part-measure which) _ bracket WrongType
s-array_at which names level here bracket n i (d ∷ ds) s cells ps h1 = s-le which (maybe-part which) _ _ _ (s-dimension_of which names level here bracket (component_at names level n i (is_last ds) s) d (array_cells ds cells) ps h1 (spends-component_at which names level n i (is_last ds) s h1)) (omega arith)

pub s-array_of : (which : Tally) (x0 : Names) (x1 : Inside) (x2 : Context) (x3 : ℕ) (x4 : ℕ) (x5 : ℕ) (x6 : Log) (x7 : List Dimension) (x8 : Option Subtype) (x9 : Contents) → SpendsInside which x1 → Spends which (maybe-part which) 0 (array_of x0 x1 x2 x3 x4 x5 x6 x7 x8 x9)
s-array_of which names level here bracket n i log ds None ps h1 = s-fault which (part-measure which) _ bracket WrongType
s-array_of which names level here bracket n i log ds (Some s) ps h1 = s-le which (maybe-part which) _ _ _ (s-array_at which names level here bracket n i (drop i ds) s (cells_in log s) ps h1) (omega arith)

pub s-composite_at : (which : Tally) (x0 : Names) (x1 : Inside) (x2 : Context) (x3 : ℕ) (x4 : ℕ) (x5 : ℕ) (x6 : Log) (x7 : Option Shape) (x8 : Contents) → SpendsInside which x1 → Spends which (maybe-part which) 0 (composite_at x0 x1 x2 x3 x4 x5 x6 x7 x8)
s-composite_at which names level here bracket n i log t ps h1 =
    s-if which (maybe-part which) _ (is_record t) (where_clean (record_parts names level here (fields_of t) ps) (filled bracket (cells_of_shape t))) (array_of names level here bracket n i log (dimensions_of t) (component_of t) ps)
    (s-where_clean which (filling-of which) (part-measure which) 0 0 _ (record_parts names level here (fields_of t) ps) _ (s-le which (filling-of which) _ _ _ (s-record_parts which names level here (fields_of t) ps h1) (omega arith)) (omega arith) (λ out held1.
    s-le which (maybe-part which) _ _ _ (s-filled which bracket (cells_of_shape t) out held1) (omega arith)))
    (s-le which (maybe-part which) _ _ _ (s-array_of which names level here bracket n i log (dimensions_of t) (component_of t) ps h1) (omega arith))

pub z-composite_found : (which : Tally) (x0 : ℕ) (x1 : ℕ) (x2 : TypedPart) → (part-measure which).Whole x2 → Holds (with-part which) (part-size which x2) (composite_found x0 x1 x2)
z-composite_found which bracket n x h2 = (h2, omega arith)

pub z-rest_found : (which : Tally) (x0 : ℕ) (x1 : TypedPart) → (part-measure which).Whole x1 → Holds (with-part which) (part-size which x1) (rest_found x0 x1)
z-rest_found which bracket x h1 = (h1, omega arith)

pub s-aggregate : (which : Tally) (x0 : Names) (x1 : Inside) (x2 : Context) (x3 : Wanted) (x4 : ℕ) (x5 : Contents) → SpendsInside which x1 → Spends which (maybe-known which) 0 (aggregate x0 x1 x2 x3 x4 x5)
unfolding aggregate
s-aggregate which names level here (wanted.Composite n) bracket ps h1 =
    s-log which (maybe-known which) _ (λ log. (composite_at names level here bracket n 0 log (shape_in log n) ps) >>= λ c. pure (option_map (composite_found bracket n) c)) (λ log. s-bind which (maybe-part which) (maybe-known which) 0 0 _ (composite_at names level here bracket n 0 log (shape_in log n) ps) _ (s-le which (maybe-part which) _ _ _ (s-composite_at which names level here bracket n 0 log (shape_in log n) ps h1) (omega arith)) (omega arith) (λ c held1.
    s-pure which (maybe-known which) _ (option_map (composite_found bracket n) c) (let made4 = h-map (part-measure which) (with-part which) 0 (composite_found bracket n) c held1 (λ item held2. let made3 = z-composite_found which bracket n item held2 in
    (made3.0, omega (arith, made3.1))) in
    (made4.0, omega (arith, made4.1)))))
s-aggregate which names level here (wanted.Rest n i) bracket ps h1 =
    s-log which (maybe-known which) _ (λ log. (composite_at names level here bracket n i log (shape_in log n) ps) >>= λ c. pure (option_map (rest_found bracket) c)) (λ log. s-bind which (maybe-part which) (maybe-known which) 0 0 _ (composite_at names level here bracket n i log (shape_in log n) ps) _ (s-le which (maybe-part which) _ _ _ (s-composite_at which names level here bracket n i log (shape_in log n) ps h1) (omega arith)) (omega arith) (λ c held1.
    s-pure which (maybe-known which) _ (option_map (rest_found bracket) c) (let made4 = h-map (part-measure which) (with-part which) 0 (rest_found bracket) c held1 (λ item held2. let made3 = z-rest_found which bracket item held2 in
    (made3.0, omega (arith, made3.1))) in
    (made4.0, omega (arith, made4.1)))))
s-aggregate which names level here wanted.Unknown bracket ps h1 = s-pure which (maybe-known which) _ None (tt, omega arith)
s-aggregate which names level here any1 bracket ps h1 =
    s-where_clean-any which (with-part which) _ (contents_alone names level here ps) _ (k-contents_alone leaving names level here ps tt h1.keeps) (λ u.
    s-fault which (with-part which) _ bracket WrongType)
