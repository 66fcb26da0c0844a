-- What holds of each line of the log holds of what Aggregates judges.
use Rattle.name_rules.specs.Attributes.{alone}
use Rattle.name_rules.specs.Expressions.{Inside, expr, judged_alone, value_for}
use Rattle.syntax_tree.specs.FirstTokens as first_token
use Rattle.name_rules.specs.Names.{index, is_record}
use Rattle.name_rules.specs.Parts.{new_parameter}
use Rattle.name_rules.specs.Ranges.{Static, chosen_span, chosen_value, static_range}
use Rattle.name_rules.specs.Scope.{with_entry}
use Rattle.name_rules.specs.Shapes.{identifier_of_choice, is_aggregate}
use Rattle.name_rules.specs.Symbols.{symbol}
use Rattle.name_rules.specs.Types.{array_cells, cells_in, cells_of_shape, component_of, dimensions_of, extent, fields_of, same, shape_in}
use Rattle.name_rules.specs.declared.log.Dimension.{Dimension}
use Rattle.name_rules.specs.declared.log.Field.{Field}
use Rattle.name_rules.specs.declared.log.Log.{Log}
use Rattle.name_rules.specs.declared.log.Rule.TheVariants.{StaticRange, Twice, Unknown, WrongType}
use Rattle.name_rules.specs.declared.log.Shape.{Shape}
use Rattle.name_rules.specs.declared.scope.Context.{Context}
use Rattle.name_rules.specs.declared.scope.Names.{Names}
use Rattle.name_rules.specs.declared.types.Kind.{Kind}
use Rattle.name_rules.specs.declared.types.Subtype.{Subtype}
use Rattle.name_rules.specs.declared.types.Wanted.TheVariants as wanted
use Rattle.name_rules.specs.declared.types.Wanted.{Wanted}
use Rattle.syntax_tree.specs.Syntax as syntax
use Rattle.syntax_tree.specs.Syntax.{Assoc, Assocs, Choice, Choices, Expr, Exprs, OptionalExpr}
use Rattle.typed_tree.specs.Decoded as part
use Rattle.std.specs.Prelude.{Bool, List, None, Option, Some, [], drop, false, if◌then◌else◌, length, not, option_map, pos, true, ℕ, ℤ, ◌&&◌, ◌*◌, ◌++◌, ◌+ℤ◌, ◌+◌, ◌==◌, ◌||◌, ◌∷◌}
use Rattle.typed_tree.specs.Decoded.{TypedPart}
use Rattle.name_rules.specs.Judging.{◌>>=◌, breaks, fault, given, joined, pure, some, unless, where_clean}
use Rattle.name_rules.specs.Aggregates.{Contents, ByPosition, ByAssociation, aggregate_part, field_run, field_value, fields_value, some_fields, Filling, filling, by_position, has_symbol, without, one_field, named_field, first_of_choice, value_choice, field_choice, field_choices, is_alone, record_assoc, is_final, record_assocs, record_values, record_rest, record_parts, filled, runs_of, with_runs, Placing, with_ranges, with_rest, nothing_placed, Component, Choosing', also_chosen, as_rest, array_choice, array_choices, index_what, of_index_type, array_assoc, array_assocs, array_values, array_rest, array_placed, gaps_of, covered_alone, covered, dimension_of, no_aggregate, inner_value, inner_aggregate, is_last, component_at, array_at, array_of, composite_at, exprs_alone, optional_alone, assoc_value, assocs_alone, contents_alone, composite_found, rest_found, aggregate}
use Rattle.name_laws.proofs.Walk.{Walk, Keeps, k-pure, k-some, k-bind, k-fault, k-breaks, k-unless, k-read, k-if, k-given, k-where_clean}
use Rattle.name_laws.proofs.Walked.{KeepsInside}
use Rattle.name_laws.proofs.KeepsExpressions.{k-expr, k-judged_alone, k-value_for}
use Rattle.name_laws.proofs.KeepsParts.{k-new_parameter}
use Rattle.name_laws.proofs.KeepsRanges.{k-chosen_span, k-chosen_value, k-static_range}

pub k-field_value : (walk : Walk) (x0 : Names) (x1 : Inside) (x2 : Context) (x3 : Option TypedPart) (x4 : Field) (x5 : Expr) → walk.Takes x0 → KeepsInside walk x1 → Keeps walk (field_value x0 x1 x2 x3 x4 x5)
unfolding field_value
k-field_value walk names level here made f e keeps1 keeps2 = record {
  at = λ log.
      let out1 = value_for names level here f.subtype e log in
      let v = out1.0 in
      walk.joins _ _ _ ((k-value_for walk names level here f.subtype e keeps1 keeps2).at log)
      ((k-read walk (λ log. field_run log f)).at out1.1);
}

pub k-fields_value : (walk : Walk) (x0 : Names) (x1 : Inside) (x2 : Context) (x3 : Option TypedPart) (x4 : List Field) (x5 : Expr) → walk.Takes x0 → KeepsInside walk x1 → Keeps walk (fields_value x0 x1 x2 x3 x4 x5)
k-fields_value walk names level here made [] e keeps1 keeps2 = k-pure walk made
k-fields_value walk names level here made (f ∷ fs) e keeps1 keeps2 = k-bind walk (field_value names level here made f e) (λ a. fields_value names level here a fs e) (k-field_value walk names level here made f e keeps1 keeps2) (λ a. k-fields_value walk names level here a fs e keeps1 keeps2)

pub k-some_fields : (walk : Walk) (x0 : Names) (x1 : Inside) (x2 : Context) (x3 : Option TypedPart) (x4 : List Field) (x5 : Expr) → walk.Takes x0 → KeepsInside walk x1 → Keeps walk (some_fields x0 x1 x2 x3 x4 x5)
k-some_fields walk names level here made [] e keeps1 keeps2 = k-bind walk (judged_alone names level here e) (λ u. pure made) (k-judged_alone walk names level here e keeps1 keeps2) (λ u. k-pure walk made)
k-some_fields walk names level here made fs e keeps1 keeps2 = k-fields_value walk names level here made fs e keeps1 keeps2

pub k-by_position : (walk : Walk) (x0 : Names) (x1 : Inside) (x2 : Context) (x3 : List Field) (x4 : Filling) (x5 : Expr) → walk.Takes x0 → KeepsInside walk x1 → Keeps walk (by_position x0 x1 x2 x3 x4 x5)
k-by_position walk names level here [] f e keeps1 keeps2 = k-bind walk (judged_alone names level here e) (λ u. pure (filling f.done [] true)) (k-judged_alone walk names level here e keeps1 keeps2) (λ u. k-pure walk (filling f.done [] true))
k-by_position walk names level here (g ∷ gs) f e keeps1 keeps2 = k-bind walk (field_value names level here f.done g e) (λ a. pure (filling a gs f.over)) (k-field_value walk names level here f.done g e keeps1 keeps2) (λ a. k-pure walk (filling a gs f.over))

pub k-named_field : (walk : Walk) (x0 : Names) (x1 : List Field) (x2 : List Field) (x3 : List Field) (x4 : ℕ) → walk.Takes x0 → Keeps walk (named_field x0 x1 x2 x3 x4)
k-named_field walk names all left taken token keeps1 = k-if walk (not (has_symbol (symbol names token) all)) ((breaks token Unknown >>= λ u. pure (taken, left))) (if not (has_symbol (symbol names token) left) then (breaks token Twice >>= λ u. pure (taken, left)) else pure (taken ++ one_field (symbol names token) left, without (symbol names token) left)) (k-bind walk (breaks token Unknown) (λ u. pure (taken, left)) (k-breaks walk token Unknown) (λ u. k-pure walk (taken, left))) (k-if walk (not (has_symbol (symbol names token) left)) ((breaks token Twice >>= λ u. pure (taken, left))) (pure (taken ++ one_field (symbol names token) left, without (symbol names token) left)) (k-bind walk (breaks token Twice) (λ u. pure (taken, left)) (k-breaks walk token Twice) (λ u. k-pure walk (taken, left))) (k-pure walk (taken ++ one_field (symbol names token) left, without (symbol names token) left)))

pub k-value_choice : (walk : Walk) (x0 : Names) (x1 : List Field) (x2 : List Field) (x3 : List Field) (x4 : ℕ) (x5 : Option ℕ) → walk.Takes x0 → Keeps walk (value_choice x0 x1 x2 x3 x4 x5)
k-value_choice walk names all left taken first None keeps1 = k-bind walk (breaks first WrongType) (λ u. pure (taken, left)) (k-breaks walk first WrongType) (λ u. k-pure walk (taken, left))
k-value_choice walk names all left taken first (Some token) keeps1 = k-named_field walk names all left taken token keeps1

pub k-field_choice : (walk : Walk) (x0 : Names) (x1 : List Field) (x2 : Bool) (x3 : Bool) (x4 : List Field) (x5 : List Field) (x6 : Choice) → walk.Takes x0 → Keeps walk (field_choice x0 x1 x2 x3 x4 x5 x6)
k-field_choice walk names all alone last left taken (syntax.Others at) keeps1 = k-bind walk (unless (alone && last) at StaticRange) (λ u. pure (taken ++ left, [])) (k-unless walk (alone && last) at StaticRange) (λ u. k-pure walk (taken ++ left, []))
k-field_choice walk names all alone last left taken c keeps1 = k-value_choice walk names all left taken (first_of_choice c) (identifier_of_choice c) keeps1

pub k-field_choices : (walk : Walk) (x0 : Names) (x1 : List Field) (x2 : Bool) (x3 : Bool) (x4 : List Field) (x5 : List Field) (x6 : Choices) → walk.Takes x0 → Keeps walk (field_choices x0 x1 x2 x3 x4 x5 x6)
k-field_choices walk names all alone last left taken syntax.NoChoice keeps1 = k-pure walk (taken, left)
k-field_choices walk names all alone last left taken (syntax.AlsoChoice c cs) keeps1 = k-bind walk (field_choice names all alone last left taken c) (λ r. field_choices names all alone last r.1 r.0 cs) (k-field_choice walk names all alone last left taken c keeps1) (λ r. k-field_choices walk names all alone last r.1 r.0 cs keeps1)

pub k-record_assoc : (walk : Walk) (x0 : Names) (x1 : Inside) (x2 : Context) (x3 : List Field) (x4 : Bool) (x5 : Filling) (x6 : Assoc) → walk.Takes x0 → KeepsInside walk x1 → Keeps walk (record_assoc x0 x1 x2 x3 x4 x5 x6)
k-record_assoc walk names level here all last f (syntax.Chosen c cs e) keeps1 keeps2 = record {
  at = λ log.
      let out1 = field_choices names all (is_alone cs) last f.left [] (syntax.AlsoChoice c cs) log in
      let r = out1.0 in
      walk.joins _ _ _ ((k-field_choices walk names all (is_alone cs) last f.left [] (syntax.AlsoChoice c cs) keeps1).at log)
      ((k-some_fields walk names level here f.done r.0 e keeps1 keeps2).at out1.1);
}
k-record_assoc walk names level here all last f (syntax.Each at index r e) keeps1 keeps2 = k-bind walk (breaks at WrongType) (λ u. pure f) (k-breaks walk at WrongType) (λ u. k-pure walk f)

pub k-record_assocs : (walk : Walk) (x0 : Names) (x1 : Inside) (x2 : Context) (x3 : List Field) (x4 : Filling) (x5 : Assocs) → walk.Takes x0 → KeepsInside walk x1 → Keeps walk (record_assocs x0 x1 x2 x3 x4 x5)
k-record_assocs walk names level here all f syntax.NoAssoc keeps1 keeps2 = k-pure walk f
k-record_assocs walk names level here all f (syntax.AlsoAssoc a as') keeps1 keeps2 = k-bind walk (record_assoc names level here all (is_final as') f a) (λ g. record_assocs names level here all g as') (k-record_assoc walk names level here all (is_final as') f a keeps1 keeps2) (λ g. k-record_assocs walk names level here all g as' keeps1 keeps2)

pub k-record_values : (walk : Walk) (x0 : Names) (x1 : Inside) (x2 : Context) (x3 : Filling) (x4 : Exprs) → walk.Takes x0 → KeepsInside walk x1 → Keeps walk (record_values x0 x1 x2 x3 x4)
k-record_values walk names level here f syntax.NoExpr keeps1 keeps2 = k-pure walk f
k-record_values walk names level here f (syntax.AlsoExpr e es) keeps1 keeps2 = k-bind walk (by_position names level here f.left f e) (λ g. record_values names level here g es) (k-by_position walk names level here f.left f e keeps1 keeps2) (λ g. k-record_values walk names level here g es keeps1 keeps2)

pub k-record_rest : (walk : Walk) (x0 : Names) (x1 : Inside) (x2 : Context) (x3 : Filling) (x4 : OptionalExpr) → walk.Takes x0 → KeepsInside walk x1 → Keeps walk (record_rest x0 x1 x2 x3 x4)
k-record_rest walk names level here f syntax.AbsentExpr keeps1 keeps2 = k-pure walk f
k-record_rest walk names level here f (syntax.PresentExpr e) keeps1 keeps2 = k-bind walk (some_fields names level here f.done f.left e) (λ x. pure (filling x [] f.over)) (k-some_fields walk names level here f.done f.left e keeps1 keeps2) (λ x. k-pure walk (filling x [] f.over))

pub k-record_parts : (walk : Walk) (x0 : Names) (x1 : Inside) (x2 : Context) (x3 : List Field) (x4 : Contents) → walk.Takes x0 → KeepsInside walk x1 → Keeps walk (record_parts x0 x1 x2 x3 x4)
k-record_parts walk names level here all (ByPosition es o) keeps1 keeps2 = k-bind walk (record_values names level here (filling (Some part.Nothing) all false) es) (λ f. record_rest names level here f o) (k-record_values walk names level here (filling (Some part.Nothing) all false) es keeps1 keeps2) (λ f. k-record_rest walk names level here f o keeps1 keeps2)
k-record_parts walk names level here all (ByAssociation as') keeps1 keeps2 = k-record_assocs walk names level here all (filling (Some part.Nothing) all false) as' keeps1 keeps2

pub k-filled : (walk : Walk) (x0 : ℕ) (x1 : ℕ) (x2 : Filling) → Keeps walk (filled x0 x1 x2)
k-filled walk bracket cells f = k-if walk (f.over || not (length f.left == 0)) (fault bracket StaticRange) (pure (option_map (aggregate_part bracket cells) f.done)) (k-fault walk bracket StaticRange) (k-pure walk (option_map (aggregate_part bracket cells) f.done))

pub k-array_choice : (walk : Walk) (x0 : Inside) (x1 : Context) (x2 : Kind) (x3 : Bool) (x4 : Bool) (x5 : Option Choosing') (x6 : Choice) → KeepsInside walk x0 → Keeps walk (array_choice x0 x1 x2 x3 x4 x5 x6)
k-array_choice walk level here k alone last made (syntax.Value s) keeps1 = k-bind walk (chosen_value level here (Some k) s) (λ c. pure (joined also_chosen made c)) (k-chosen_value walk level here (Some k) s keeps1) (λ c. k-pure walk (joined also_chosen made c))
k-array_choice walk level here k alone last made (syntax.Span low high) keeps1 = k-bind walk (chosen_span level here (Some k) low high) (λ c. pure (joined also_chosen made c)) (k-chosen_span walk level here (Some k) low high keeps1) (λ c. k-pure walk (joined also_chosen made c))
k-array_choice walk level here k alone last made (syntax.Others at) keeps1 = k-bind walk (unless (alone && last) at StaticRange) (λ u. pure (option_map as_rest made)) (k-unless walk (alone && last) at StaticRange) (λ u. k-pure walk (option_map as_rest made))

pub k-array_choices : (walk : Walk) (x0 : Inside) (x1 : Context) (x2 : Kind) (x3 : Bool) (x4 : Bool) (x5 : Option Choosing') (x6 : Choices) → KeepsInside walk x0 → Keeps walk (array_choices x0 x1 x2 x3 x4 x5 x6)
k-array_choices walk level here k alone last made syntax.NoChoice keeps1 = k-pure walk made
k-array_choices walk level here k alone last made (syntax.AlsoChoice c cs) keeps1 = k-bind walk (array_choice level here k alone last made c) (λ r. array_choices level here k alone last r cs) (k-array_choice walk level here k alone last made c keeps1) (λ r. k-array_choices walk level here k alone last r cs keeps1)

pub k-of_index_type : (walk : Walk) (x0 : Kind) (x1 : ℕ) (x2 : Static) → Keeps walk (of_index_type x0 x1 x2)
k-of_index_type walk k first r = k-if walk (same r.known.kind k) (some r) (fault first WrongType) (k-some walk r) (k-fault walk first WrongType)

pub k-array_assoc : (walk : Walk) (x0 : Names) (x1 : Inside) (x2 : Context) (x3 : Component) (x4 : Dimension) (x5 : ℕ) (x6 : Bool) (x7 : Placing) (x8 : Assoc) → walk.Takes x0 → KeepsInside walk x1 → ((here : Context) (e : Expr) → Keeps walk (x3 here e)) → Keeps walk (array_assoc x0 x1 x2 x3 x4 x5 x6 x7 x8)
unfolding array_assoc
k-array_assoc walk names level here component d apart last p (syntax.Chosen c cs e) keeps1 keeps2 keeps3 = record {
  at = λ log.
      let out1 = array_choices level here d.kind (is_alone cs) last (Some (record { ranges = []; rest = false; mentions = part.Nothing })) (syntax.AlsoChoice c cs) log in
      let r = out1.0 in
      walk.joins _ _ _ ((k-array_choices walk level here d.kind (is_alone cs) last (Some (record { ranges = []; rest = false; mentions = part.Nothing })) (syntax.AlsoChoice c cs) keeps2).at log)
      ((keeps3 here e).at out1.1);
}
k-array_assoc walk names level here component d apart last p (syntax.Each at index r e) keeps1 keeps2 keeps3 = record {
  at = λ log.
      let out1 = static_range level here false (Some d.kind) r log in
      let x = out1.0 in
      let out3 = given x (of_index_type d.kind (first_token.of_range r)) out1.1 in
      let s = out3.0 in
      let out4 = new_parameter out3.1 in
      let n = out4.0 in
      walk.joins _ _ _ ((k-static_range walk level here false (Some d.kind) r keeps2).at log)
      (walk.joins _ _ _ ((k-given walk x (of_index_type d.kind (first_token.of_range r)) (λ z2. k-of_index_type walk d.kind (first_token.of_range r) z2)).at out1.1)
      (walk.joins _ _ _ ((k-new_parameter walk).at out3.1)
      ((keeps3 (with_entry here (symbol names index) (index_what n s)) e).at out4.1)));
}

pub k-array_assocs : (walk : Walk) (x0 : Names) (x1 : Inside) (x2 : Context) (x3 : Component) (x4 : Dimension) (x5 : ℕ) (x6 : Placing) (x7 : Assocs) → walk.Takes x0 → KeepsInside walk x1 → ((here : Context) (e : Expr) → Keeps walk (x3 here e)) → Keeps walk (array_assocs x0 x1 x2 x3 x4 x5 x6 x7)
k-array_assocs walk names level here component d apart p syntax.NoAssoc keeps1 keeps2 keeps3 = k-pure walk p
k-array_assocs walk names level here component d apart p (syntax.AlsoAssoc a as') keeps1 keeps2 keeps3 = k-bind walk (array_assoc names level here component d apart (is_final as') p a) (λ q. array_assocs names level here component d apart q as') (k-array_assoc walk names level here component d apart (is_final as') p a keeps1 keeps2 keeps3) (λ q. k-array_assocs walk names level here component d apart q as' keeps1 keeps2 keeps3)

pub k-array_values : (walk : Walk) (x0 : Context) (x1 : Component) (x2 : Dimension) (x3 : ℕ) (x4 : ℤ) (x5 : Placing) (x6 : Exprs) → ((here : Context) (e : Expr) → Keeps walk (x1 here e)) → Keeps walk (array_values x0 x1 x2 x3 x4 x5 x6)
k-array_values walk here component d apart z p syntax.NoExpr keeps1 = k-pure walk p
k-array_values walk here component d apart z p (syntax.AlsoExpr e es) keeps1 = k-bind walk (component here e) (λ v. array_values here component d apart (z +ℤ pos 1) (with_ranges d apart None part.Nothing p ((z, z) ∷ []) v) es) (keeps1 here e) (λ v. k-array_values walk here component d apart (z +ℤ pos 1) (with_ranges d apart None part.Nothing p ((z, z) ∷ []) v) es keeps1)

pub k-array_rest : (walk : Walk) (x0 : Context) (x1 : Component) (x2 : OptionalExpr) (x3 : Placing) → ((here : Context) (e : Expr) → Keeps walk (x1 here e)) → Keeps walk (array_rest x0 x1 x2 x3)
k-array_rest walk here component syntax.AbsentExpr p keeps1 = k-pure walk p
k-array_rest walk here component (syntax.PresentExpr e) p keeps1 = k-bind walk (component here e) (λ v. pure (with_rest p v)) (keeps1 here e) (λ v. k-pure walk (with_rest p v))

pub k-array_placed : (walk : Walk) (x0 : Names) (x1 : Inside) (x2 : Context) (x3 : Component) (x4 : Dimension) (x5 : ℕ) (x6 : Contents) → walk.Takes x0 → KeepsInside walk x1 → ((here : Context) (e : Expr) → Keeps walk (x3 here e)) → Keeps walk (array_placed x0 x1 x2 x3 x4 x5 x6)
k-array_placed walk names level here component d apart (ByPosition es o) keeps1 keeps2 keeps3 = k-bind walk (array_values here component d apart d.low nothing_placed es) (array_rest here component o) (k-array_values walk here component d apart d.low nothing_placed es keeps3) (λ z2. k-array_rest walk here component o z2 keeps3)
k-array_placed walk names level here component d apart (ByAssociation as') keeps1 keeps2 keeps3 = k-array_assocs walk names level here component d apart nothing_placed as' keeps1 keeps2 keeps3

pub k-covered_alone : (walk : Walk) (x0 : ℕ) (x1 : ℕ) (x2 : Option TypedPart) (x3 : List (ℤ × ℤ)) → Keeps walk (covered_alone x0 x1 x2 x3)
k-covered_alone walk bracket cells made os = k-if walk (length os == 0) (pure (option_map (aggregate_part bracket cells) made)) (fault bracket StaticRange) (k-pure walk (option_map (aggregate_part bracket cells) made)) (k-fault walk bracket StaticRange)

pub k-covered : (walk : Walk) (x0 : ℕ) (x1 : Dimension) (x2 : ℕ) (x3 : ℕ) (x4 : Placing) (x5 : Option (List (ℤ × ℤ))) (x6 : Option (Option TypedPart)) → Keeps walk (covered x0 x1 x2 x3 x4 x5 x6)
k-covered walk bracket d apart cells p None v = k-fault walk bracket StaticRange
k-covered walk bracket d apart cells p (Some os) None = k-covered_alone walk bracket cells p.done os
k-covered walk bracket d apart cells p (Some os) (Some v) = k-pure walk (option_map (aggregate_part bracket cells) (with_runs None part.Nothing (runs_of d apart os) p.done v))

pub k-dimension_of : (walk : Walk) (x0 : Names) (x1 : Inside) (x2 : Context) (x3 : ℕ) (x4 : Component) (x5 : Dimension) (x6 : ℕ) (x7 : Contents) → walk.Takes x0 → KeepsInside walk x1 → ((here : Context) (e : Expr) → Keeps walk (x4 here e)) → Keeps walk (dimension_of x0 x1 x2 x3 x4 x5 x6 x7)
unfolding dimension_of
k-dimension_of walk names level here bracket component d apart ps keeps1 keeps2 keeps3 = k-where_clean walk (array_placed names level here component d apart ps) (λ p. covered bracket d apart (extent d * apart) p (gaps_of d.low d.high p.ranges) p.rest) (k-array_placed walk names level here component d apart ps keeps1 keeps2 keeps3) (λ p. k-covered walk bracket d apart (extent d * apart) p (gaps_of d.low d.high p.ranges) p.rest)

pub k-no_aggregate : (walk : Walk) (x0 : Names) (x1 : Inside) (x2 : Context) (x3 : Expr) → walk.Takes x0 → KeepsInside walk x1 → Keeps walk (no_aggregate x0 x1 x2 x3)
k-no_aggregate walk names level here e keeps1 keeps2 = k-bind walk (expr names level here wanted.Other e) (λ x. given x (λ f. fault (first_token.of_expr e) WrongType)) (k-expr walk names level here wanted.Other e keeps1 keeps2) (λ x. k-given walk x (λ f. fault (first_token.of_expr e) WrongType) (λ f. k-fault walk (first_token.of_expr e) WrongType))

pub k-inner_aggregate : (walk : Walk) (x0 : Names) (x1 : Inside) (x2 : Context) (x3 : ℕ) (x4 : ℕ) (x5 : Expr) (x6 : Bool) → walk.Takes x0 → KeepsInside walk x1 → Keeps walk (inner_aggregate x0 x1 x2 x3 x4 x5 x6)
k-inner_aggregate walk names level here n i e false keeps1 keeps2 = k-no_aggregate walk names level here e keeps1 keeps2
k-inner_aggregate walk names level here n i e true keeps1 keeps2 = k-bind walk (expr names level here (wanted.Rest n i) e) (λ x. given x (λ f. pure (inner_value f.known f.part))) (k-expr walk names level here (wanted.Rest n i) e keeps1 keeps2) (λ x. k-given walk x (λ f. pure (inner_value f.known f.part)) (λ f. k-pure walk (inner_value f.known f.part)))

pub k-component_at : (walk : Walk) (x0 : Names) (x1 : Inside) (x2 : ℕ) (x3 : ℕ) (x4 : Bool) (x5 : Subtype) (x6 : Context) (x7 : Expr) → walk.Takes x0 → KeepsInside walk x1 → Keeps walk (component_at x0 x1 x2 x3 x4 x5 x6 x7)
k-component_at walk names level n i true s here e keeps1 keeps2 = k-value_for walk names level here s e keeps1 keeps2
k-component_at walk names level n i false s here e keeps1 keeps2 = k-inner_aggregate walk names level here n (i + 1) e (is_aggregate e) keeps1 keeps2

pub k-array_at : (walk : Walk) (x0 : Names) (x1 : Inside) (x2 : Context) (x3 : ℕ) (x4 : ℕ) (x5 : ℕ) (x6 : List Dimension) (x7 : Subtype) (x8 : ℕ) (x9 : Contents) → walk.Takes x0 → KeepsInside walk x1 → Keeps walk (array_at x0 x1 x2 x3 x4 x5 x6 x7 x8 x9)
k-array_at walk names level here bracket n i [] s cells ps keeps1 keeps2 = k-fault walk bracket WrongType
k-array_at walk names level here bracket n i (d ∷ ds) s cells ps keeps1 keeps2 = k-dimension_of walk names level here bracket (component_at names level n i (is_last ds) s) d (array_cells ds cells) ps keeps1 keeps2 (λ there e. k-component_at walk names level n i (is_last ds) s there e keeps1 keeps2)

pub k-array_of : (walk : Walk) (x0 : Names) (x1 : Inside) (x2 : Context) (x3 : ℕ) (x4 : ℕ) (x5 : ℕ) (x6 : Log) (x7 : List Dimension) (x8 : Option Subtype) (x9 : Contents) → walk.Takes x0 → KeepsInside walk x1 → Keeps walk (array_of x0 x1 x2 x3 x4 x5 x6 x7 x8 x9)
k-array_of walk names level here bracket n i log ds None ps keeps1 keeps2 = k-fault walk bracket WrongType
k-array_of walk names level here bracket n i log ds (Some s) ps keeps1 keeps2 = k-array_at walk names level here bracket n i (drop i ds) s (cells_in log s) ps keeps1 keeps2

pub k-composite_at : (walk : Walk) (x0 : Names) (x1 : Inside) (x2 : Context) (x3 : ℕ) (x4 : ℕ) (x5 : ℕ) (x6 : Log) (x7 : Option Shape) (x8 : Contents) → walk.Takes x0 → KeepsInside walk x1 → Keeps walk (composite_at x0 x1 x2 x3 x4 x5 x6 x7 x8)
k-composite_at walk names level here bracket n i log t ps keeps1 keeps2 = k-if walk (is_record t) (where_clean (record_parts names level here (fields_of t) ps) (filled bracket (cells_of_shape t))) (array_of names level here bracket n i log (dimensions_of t) (component_of t) ps) (k-where_clean walk (record_parts names level here (fields_of t) ps) (filled bracket (cells_of_shape t)) (k-record_parts walk names level here (fields_of t) ps keeps1 keeps2) (λ z1. k-filled walk bracket (cells_of_shape t) z1)) (k-array_of walk names level here bracket n i log (dimensions_of t) (component_of t) ps keeps1 keeps2)

pub k-exprs_alone : (walk : Walk) (x0 : Names) (x1 : Inside) (x2 : Context) (x3 : Exprs) → walk.Takes x0 → KeepsInside walk x1 → Keeps walk (exprs_alone x0 x1 x2 x3)
k-exprs_alone walk names level here syntax.NoExpr keeps1 keeps2 = k-pure walk tt
k-exprs_alone walk names level here (syntax.AlsoExpr e es) keeps1 keeps2 = k-bind walk (judged_alone names level here e) (λ u. exprs_alone names level here es) (k-judged_alone walk names level here e keeps1 keeps2) (λ u. k-exprs_alone walk names level here es keeps1 keeps2)

pub k-optional_alone : (walk : Walk) (x0 : Names) (x1 : Inside) (x2 : Context) (x3 : OptionalExpr) → walk.Takes x0 → KeepsInside walk x1 → Keeps walk (optional_alone x0 x1 x2 x3)
k-optional_alone walk names level here syntax.AbsentExpr keeps1 keeps2 = k-pure walk tt
k-optional_alone walk names level here (syntax.PresentExpr e) keeps1 keeps2 = k-judged_alone walk names level here e keeps1 keeps2

pub k-assocs_alone : (walk : Walk) (x0 : Names) (x1 : Inside) (x2 : Context) (x3 : Assocs) → walk.Takes x0 → KeepsInside walk x1 → Keeps walk (assocs_alone x0 x1 x2 x3)
k-assocs_alone walk names level here syntax.NoAssoc keeps1 keeps2 = k-pure walk tt
k-assocs_alone walk names level here (syntax.AlsoAssoc a as') keeps1 keeps2 = k-bind walk (judged_alone names level here (assoc_value a)) (λ u. assocs_alone names level here as') (k-judged_alone walk names level here (assoc_value a) keeps1 keeps2) (λ u. k-assocs_alone walk names level here as' keeps1 keeps2)

pub k-contents_alone : (walk : Walk) (x0 : Names) (x1 : Inside) (x2 : Context) (x3 : Contents) → walk.Takes x0 → KeepsInside walk x1 → Keeps walk (contents_alone x0 x1 x2 x3)
k-contents_alone walk names level here (ByPosition es o) keeps1 keeps2 = k-bind walk (exprs_alone names level here es) (λ u. optional_alone names level here o) (k-exprs_alone walk names level here es keeps1 keeps2) (λ u. k-optional_alone walk names level here o keeps1 keeps2)
k-contents_alone walk names level here (ByAssociation as') keeps1 keeps2 = k-assocs_alone walk names level here as' keeps1 keeps2

pub k-aggregate : (walk : Walk) (x0 : Names) (x1 : Inside) (x2 : Context) (x3 : Wanted) (x4 : ℕ) (x5 : Contents) → walk.Takes x0 → KeepsInside walk x1 → Keeps walk (aggregate x0 x1 x2 x3 x4 x5)
unfolding aggregate
k-aggregate walk names level here (wanted.Composite n) bracket ps keeps1 keeps2 = (record { at = λ log. (k-bind walk (composite_at names level here bracket n 0 log (shape_in log n) ps) (λ c. pure (option_map (composite_found bracket n) c)) (k-composite_at walk names level here bracket n 0 log (shape_in log n) ps keeps1 keeps2) (λ c. k-pure walk (option_map (composite_found bracket n) c))).at log })
k-aggregate walk names level here (wanted.Rest n i) bracket ps keeps1 keeps2 = (record { at = λ log. (k-bind walk (composite_at names level here bracket n i log (shape_in log n) ps) (λ c. pure (option_map (rest_found bracket) c)) (k-composite_at walk names level here bracket n i log (shape_in log n) ps keeps1 keeps2) (λ c. k-pure walk (option_map (rest_found bracket) c))).at log })
k-aggregate walk names level here wanted.Unknown bracket ps keeps1 keeps2 = k-pure walk None
k-aggregate walk names level here _ bracket ps keeps1 keeps2 = k-where_clean walk (contents_alone names level here ps) (λ u. fault bracket WrongType) (k-contents_alone walk names level here ps keeps1 keeps2) (λ u. k-fault walk bracket WrongType)
