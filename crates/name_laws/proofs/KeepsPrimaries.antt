-- What holds of each line of the log holds of what Primaries judges.
use Rattle.name_rules.specs.Aggregates.{ByPosition, contents}
use Rattle.name_rules.specs.Attributes.{alone}
use Rattle.name_rules.specs.Expressions.{Inside, condition, expr, in_place}
use Rattle.syntax_tree.specs.FirstTokens as first_token
use Rattle.name_rules.specs.Found.{Found, opened, scalar, static, text_found, universal}
use Rattle.name_rules.specs.Operators.{open_of}
use Rattle.name_rules.specs.Parts.{value_named}
use Rattle.name_rules.specs.Symbols.{number, text}
use Rattle.name_rules.specs.Values.{asked, composite_asked, kind_of, mentions_of, value_of}
use Rattle.name_rules.specs.declared.found.Found.TheVariants as known
use Rattle.name_rules.specs.declared.found.Found.{Found as Known}
use Rattle.name_rules.specs.declared.log.Bound.TheVariants as bound
use Rattle.name_rules.specs.declared.log.Rule.TheVariants.{Limit, NotVisible, WrongType}
use Rattle.name_rules.specs.declared.scope.Context.{Context}
use Rattle.name_rules.specs.declared.scope.Names.{Names}
use Rattle.name_rules.specs.declared.scope.Target.TheVariants as target
use Rattle.name_rules.specs.declared.scope.Target.{Target}
use Rattle.name_rules.specs.declared.types.Kind.{Kind}
use Rattle.name_rules.specs.declared.types.Wanted.TheVariants as wanted
use Rattle.name_rules.specs.declared.types.Wanted.{Wanted}
use Rattle.syntax_tree.specs.Syntax as syntax
use Rattle.syntax_tree.specs.Syntax.{Elsifs, Expr, Primary}
use Rattle.typed_tree.specs.Decoded as part
use Rattle.typed_tree.specs.Syntax as typed
use Rattle.std.specs.Prelude.{List, None, Option, Some, [], false, option_map, suc, true, zero, ℕ, ℤ, ◌∷◌}
use Rattle.name_rules.specs.TypedParts.{left_of, right_of, also}
use Rattle.typed_tree.specs.Decoded.{TypedPart, as_expr}
use Rattle.name_rules.specs.Judging.{given, joined, pure, some}
use Rattle.name_rules.specs.Primaries.{composite_in, Waiting, alternative, alternatives, common_type, if_part, with_known, scalar_ifs, scalar_if, composite_part, composite_ifs, composite_if, open_ifs, open_if, conditional, no_text, if_expr, grouped_scalar, grouped_by, grouped_form, grouped, target_found, target_at, text_at, primary, level_above, too_deep, inside}
use Rattle.name_laws.proofs.Walk.{Walk, Keeps, k-pure, k-some, k-bind, k-fault, k-given, k-both}
use Rattle.name_laws.proofs.Walked.{KeepsInside}
use Rattle.name_laws.proofs.KeepsAggregates.{k-aggregate}
use Rattle.name_laws.proofs.KeepsExpressions.{k-condition, k-expr, k-in_place}
use Rattle.name_laws.proofs.KeepsIterations.{k-sequence}
use Rattle.name_laws.proofs.KeepsParts.{k-name, k-value_named}
use Rattle.name_laws.proofs.KeepsValues.{k-asked, k-composite_asked}

pub k-alternative : (walk : Walk) (x0 : Names) (x1 : Inside) (x2 : Context) (x3 : Wanted) (x4 : Option Waiting) (x5 : Expr) (x6 : Expr) → walk.Takes x0 → KeepsInside walk x1 → Keeps walk (alternative x0 x1 x2 x3 x4 x5 x6)
unfolding alternative
k-alternative walk names level here want made c v keeps1 keeps2 = record {
  at = λ log.
      let out1 = condition names level here c log in
      let x = out1.0 in
      walk.joins _ _ _ ((k-condition walk names level here c keeps1 keeps2).at log)
      ((k-expr walk names level here want v keeps1 keeps2).at out1.1);
}

pub k-alternatives : (walk : Walk) (x0 : Names) (x1 : Inside) (x2 : Context) (x3 : Wanted) (x4 : Option Waiting) (x5 : Elsifs) → walk.Takes x0 → KeepsInside walk x1 → Keeps walk (alternatives x0 x1 x2 x3 x4 x5)
k-alternatives walk names level here want made syntax.NoElsif keeps1 keeps2 = k-pure walk made
k-alternatives walk names level here want made (syntax.AlsoElsif (syntax.elsif at c v) es) keeps1 keeps2 = k-bind walk (alternative names level here want made c v) (λ d. alternatives names level here want d es) (k-alternative walk names level here want made c v keeps1 keeps2) (λ d. k-alternatives walk names level here want d es keeps1 keeps2)

pub k-scalar_ifs : (walk : Walk) (x0 : Kind) (x1 : List Known) (x2 : TypedPart) (x3 : Option TypedPart) → Keeps walk (scalar_ifs x0 x1 x2 x3)
k-scalar_ifs walk k [] ps o = k-pure walk o
k-scalar_ifs walk k (f ∷ fs) ps o = k-bind walk (asked k (record { known = f; part = right_of (left_of ps) })) (λ v. scalar_ifs k fs (right_of ps) (joined (if_part (left_of (left_of ps))) v o)) (k-asked walk k (record { known = f; part = right_of (left_of ps) })) (λ v. k-scalar_ifs walk k fs (right_of ps) (joined (if_part (left_of (left_of ps))) v o))

pub k-scalar_if : (walk : Walk) (x0 : ℕ) (x1 : Kind) (x2 : Waiting) (x3 : Found) → Keeps walk (scalar_if x0 x1 x2 x3)
unfolding scalar_if
k-scalar_if walk bracket k w f = record {
  at = λ log.
      let out1 = asked k f log in
      let o = out1.0 in
      walk.joins _ _ _ ((k-asked walk k f).at log)
      ((k-scalar_ifs walk k w.known w.part o).at out1.1);
}

pub k-composite_ifs : (walk : Walk) (x0 : ℕ) (x1 : List Known) (x2 : TypedPart) (x3 : Option TypedPart) → Keeps walk (composite_ifs x0 x1 x2 x3)
k-composite_ifs walk n [] ps o = k-pure walk o
k-composite_ifs walk n (f ∷ fs) ps o = k-bind walk (composite_asked n (record { known = f; part = right_of (left_of ps) })) (λ v. composite_ifs n fs (right_of ps) (joined (composite_part (left_of (left_of ps))) v o)) (k-composite_asked walk n (record { known = f; part = right_of (left_of ps) })) (λ v. k-composite_ifs walk n fs (right_of ps) (joined (composite_part (left_of (left_of ps))) v o))

pub k-composite_if : (walk : Walk) (x0 : ℕ) (x1 : ℕ) (x2 : Waiting) (x3 : Found) → Keeps walk (composite_if x0 x1 x2 x3)
unfolding composite_if
k-composite_if walk bracket n w f = record {
  at = λ log.
      let out1 = composite_asked n f log in
      let o = out1.0 in
      walk.joins _ _ _ ((k-composite_asked walk n f).at log)
      ((k-composite_ifs walk n w.known w.part o).at out1.1);
}

pub k-conditional : (walk : Walk) (x0 : ℕ) (x1 : Waiting) (x2 : Found) (x3 : Option Kind) (x4 : Option ℕ) → Keeps walk (conditional x0 x1 x2 x3 x4)
k-conditional walk bracket w f (Some k) n = k-scalar_if walk bracket k w f
k-conditional walk bracket w f None (Some n) = k-composite_if walk bracket n w f
k-conditional walk bracket w f None None = k-pure walk (option_map (open_if bracket) (open_ifs w.known w.part (open_of f)))

pub k-if_expr : (walk : Walk) (x0 : Names) (x1 : Inside) (x2 : Context) (x3 : Wanted) (x4 : ℕ) (x5 : Expr) (x6 : Expr) (x7 : Elsifs) (x8 : Expr) → walk.Takes x0 → KeepsInside walk x1 → Keeps walk (if_expr x0 x1 x2 x3 x4 x5 x6 x7 x8)
unfolding if_expr
k-if_expr walk names level here want bracket c v more o keeps1 keeps2 = record {
  at = λ log.
      let out1 = alternative names level here want (Some (record { known = []; part = part.Nothing })) c v log in
      let d = out1.0 in
      let out2 = alternatives names level here want d more out1.1 in
      let ds = out2.0 in
      let out3 = expr names level here want o out2.1 in
      let f = out3.0 in
      walk.joins _ _ _ ((k-alternative walk names level here want (Some (record { known = []; part = part.Nothing })) c v keeps1 keeps2).at log)
      (walk.joins _ _ _ ((k-alternatives walk names level here want d more keeps1 keeps2).at out1.1)
      (walk.joins _ _ _ ((k-expr walk names level here want o keeps1 keeps2).at out2.1)
      ((k-both walk ds f (λ w x. conditional bracket w x (common_type w x).0 (common_type w x).1) (λ w x. k-conditional walk bracket w x (common_type w x).0 (common_type w x).1)).at out3.1)));
}

pub k-grouped_scalar : (walk : Walk) (x0 : ℕ) (x1 : Found) (x2 : Option Kind) (x3 : Option ℕ) → Keeps walk (grouped_scalar x0 x1 x2 x3)
k-grouped_scalar walk bracket f (Some k) n = k-bind walk (asked k f) (λ x. given x (λ e. some (scalar bracket k None (typed.Group (as_expr e))))) (k-asked walk k f) (λ x. k-given walk x (λ e. some (scalar bracket k None (typed.Group (as_expr e)))) (λ e. k-some walk (scalar bracket k None (typed.Group (as_expr e)))))
k-grouped_scalar walk bracket f None (Some n) = k-bind walk (composite_asked n f) (λ c. pure (option_map (with_known (known.Composite bracket n)) c)) (k-composite_asked walk n f) (λ c. k-pure walk (option_map (with_known (known.Composite bracket n)) c))
k-grouped_scalar walk bracket f None None = k-pure walk None

pub k-grouped_by : (walk : Walk) (x0 : ℕ) (x1 : Found) (x2 : Option Kind) (x3 : Option ℤ) → Keeps walk (grouped_by x0 x1 x2 x3)
k-grouped_by walk bracket f (Some k) (Some z) = k-some walk (static bracket k z (mentions_of f))
k-grouped_by walk bracket f k z = k-grouped_scalar walk bracket f k (composite_in f.known)

pub k-grouped_form : (walk : Walk) (x0 : ℕ) (x1 : Known) (x2 : TypedPart) → Keeps walk (grouped_form x0 x1 x2)
k-grouped_form walk bracket (known.Universal first z alone) x = k-some walk (with_known (known.Universal bracket z false) x)
k-grouped_form walk bracket (known.Open first l) x = k-some walk (opened bracket l (typed.Group (as_expr x)))
k-grouped_form walk bracket (known.Text first) x = k-some walk (with_known (known.Text bracket) x)
k-grouped_form walk bracket f x = k-grouped_by walk bracket (with_known f x) (kind_of f) (value_of f)

pub k-grouped : (walk : Walk) (x0 : ℕ) (x1 : Found) → Keeps walk (grouped x0 x1)
unfolding grouped
k-grouped walk bracket f = k-grouped_form walk bracket f.known f.part

pub k-target_at : (walk : Walk) (x0 : ℕ) (x1 : Target) → Keeps walk (target_at x0 x1)
k-target_at walk at target.Nothing = k-fault walk at NotVisible
k-target_at walk at target.Faulty = k-pure walk None
k-target_at walk at (target.Of s) = k-some walk (target_found at s)

pub k-text_at : (walk : Walk) (x0 : Names) (x1 : ℕ) (x2 : Wanted) → walk.Takes x0 → Keeps walk (text_at x0 x1 x2)
k-text_at walk names at wanted.Text keeps1 = k-some walk (text_found at (also part.Nothing (part.APiece (typed.Text (text names at)))))
k-text_at walk names at want keeps1 = k-fault walk at WrongType

pub k-primary : (walk : Walk) (x0 : Names) (x1 : Inside) (x2 : Context) (x3 : Primary) (x4 : Wanted) → walk.Takes x0 → KeepsInside walk x1 → Keeps walk (primary x0 x1 x2 x3 x4)
unfolding primary
k-primary walk names inside here (syntax.Number at) want keeps1 keeps2 = k-some walk (universal at (number names at) true part.Nothing)
k-primary walk names inside here (syntax.Text at) want keeps1 keeps2 = k-text_at walk names at want keeps1
k-primary walk names inside here (syntax.Target at) want keeps1 keeps2 = k-target_at walk at here.target
k-primary walk names inside here (syntax.Named n) want keeps1 keeps2 = k-bind walk (value_named names inside here n) (λ x. given x (λ f. in_place want f.known f)) (k-value_named walk names inside here n keeps1 keeps2) (λ x. k-given walk x (λ f. in_place want f.known f) (λ f. k-in_place walk want f.known f))
k-primary walk names inside here (syntax.Group bracket e) want keeps1 keeps2 = k-bind walk (expr names inside here want e) (λ x. given x (grouped bracket)) (k-expr walk names inside here want e keeps1 keeps2) (λ x. k-given walk x (grouped bracket) (λ z1. k-grouped walk bracket z1))
k-primary walk names inside here (syntax.If bracket at c v more o) want keeps1 keeps2 = k-if_expr walk names inside here (no_text want) bracket c v more o keeps1 keeps2
k-primary walk names inside here (syntax.Round bracket many) want keeps1 keeps2 = k-aggregate walk names inside here want bracket (contents many) keeps1 keeps2
k-primary walk names inside here (syntax.Square bracket many) want keeps1 keeps2 = k-aggregate walk names inside here want bracket (contents many) keeps1 keeps2
k-primary walk names inside here (syntax.OneValue bracket e) want keeps1 keeps2 = k-aggregate walk names inside here want bracket (ByPosition (syntax.AlsoExpr e syntax.NoExpr) syntax.AbsentExpr) keeps1 keeps2
k-primary walk names inside here (syntax.Reduction bracket p at i v a r o) want keeps1 keeps2 = k-sequence walk names inside here bracket p i v a r o keeps1 keeps2

pub k-level_above : (walk : Walk) (names : Names) (level : Inside) → walk.Takes names → KeepsInside walk level → KeepsInside walk (level_above names level)
k-level_above walk names level t h = record { primary = λ here p want. k-primary walk names level here p want t h; name = λ here n. k-name walk names level here n t h }

pub k-too_deep : (walk : Walk) (A : Type 0) (at : ℕ) → Keeps walk (too_deep {A = A} at)
k-too_deep walk A at = k-fault walk at (Limit bound.Levels)

pub k-inside : (walk : Walk) (names : Names) (n : ℕ) → walk.Takes names → KeepsInside walk (inside names n)
unfolding inside
k-inside walk names zero t = record { primary = λ here p want. k-fault walk (first_token.of_primary p) (Limit bound.Levels); name = λ here n. k-fault walk (first_token.of_name n) (Limit bound.Levels) }
k-inside walk names (suc n) t = k-level_above walk names (inside names n) t (k-inside walk names n t)
