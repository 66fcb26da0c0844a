-- Judging that is counted: primaries.
use Rattle.name_rules.specs.Aggregates.{ByPosition, contents}
use Rattle.name_rules.specs.Attributes.{alone}
use Rattle.name_rules.specs.Expressions.{Inside, condition, expr}
use Rattle.syntax_tree.specs.FirstTokens as first_token
use Rattle.name_rules.specs.Found.{Found, opened, scalar, static, text_found, universal}
use Rattle.name_rules.specs.Judging.{joined}
use Rattle.name_rules.specs.Operators.{open_of}
use Rattle.name_rules.specs.Parts.{value_named}
use Rattle.name_rules.specs.Symbols.{number, text}
use Rattle.name_rules.specs.Types.{typed_scalar}
use Rattle.name_rules.specs.Values.{asked, composite_asked, kind_of, mentions_of, value_of}
use Rattle.name_rules.specs.declared.found.Found.TheVariants as known
use Rattle.name_rules.specs.declared.found.Found.{Found as Known}
use Rattle.name_rules.specs.declared.found.Limits.{Limits}
use Rattle.name_rules.specs.declared.log.Bound.TheVariants as bound
use Rattle.name_rules.specs.declared.log.Rule.TheVariants.{Limit, NotVisible, WrongType}
use Rattle.name_rules.specs.declared.scope.Context.{Context}
use Rattle.name_rules.specs.declared.scope.Names.{Names}
use Rattle.name_rules.specs.declared.scope.Target.TheVariants as target
use Rattle.name_rules.specs.declared.scope.Target.{Target}
use Rattle.name_rules.specs.declared.types.Kind.{Kind}
use Rattle.name_rules.specs.declared.types.Subtype.TheVariants as subtype
use Rattle.name_rules.specs.declared.types.Subtype.{Subtype}
use Rattle.name_rules.specs.declared.types.Wanted.TheVariants as wanted
use Rattle.name_rules.specs.declared.types.Wanted.{Wanted}
use Rattle.syntax_tree.specs.Syntax as syntax
use Rattle.syntax_tree.specs.Syntax.{Elsifs, Expr, Primary}
use Rattle.typed_tree.specs.Decoded as part
use Rattle.typed_tree.specs.Syntax as typed
use Rattle.std.specs.Prelude.{List, None, Option, Some, [], false, option_map, suc, true, zero, ℕ, ℤ, ◌+◌, ◌∷◌}
use Rattle.name_rules.specs.TypedParts.{also, left_of, right_of}
use Rattle.typed_tree.specs.Decoded.{TypedPart, as_expr}
use Rattle.name_rules.specs.Primaries.{Waiting, also_choice, also_waiting, alternative, alternatives, common_type, composite_if, composite_ifs, composite_in, composite_part, conditional, grouped, grouped_by, grouped_form, grouped_scalar, if_expr, if_part, inside, level_above, no_text, open_if, open_ifs, open_part, primary, scalar_if, scalar_ifs, target_at, target_found, text_at, with_known}
use Rattle.std.proofs.Common.{arith}
use Rattle.name_laws.proofs.KeepsPrimaries.{k-inside, k-level_above}
use Rattle.name_scopes.proofs.SpendsAggregates.{s-aggregate}
use Rattle.name_scopes.proofs.SpendsExpressions.{s-condition, s-expr, s-in_place}
use Rattle.name_scopes.proofs.SpendsFound.{z-composite, z-opened, z-scalar, z-static, z-text_found, z-universal}
use Rattle.name_scopes.proofs.SpendsIterations.{s-sequence}
use Rattle.name_scopes.proofs.SpendsOperators.{z-open_of}
use Rattle.name_scopes.proofs.SpendsParts.{s-name, s-value_named}
use Rattle.name_scopes.proofs.SpendsValues.{s-asked, s-composite_asked, z-mentions_of}
use Rattle.name_scopes.proofs.Leaving.{leaving}
use Rattle.name_scopes.proofs.Measures.{maybe-known, maybe-part, option-of, part-measure, part-size, second-of, with-part}
use Rattle.name_scopes.proofs.Parts.{n-composite, n-expr, n-sides, w-left_of, w-right_of}
use Rattle.name_scopes.proofs.Records.{SpendsInside}
use Rattle.name_scopes.proofs.Spends.{Holds, Spends, h-joined, h-map, s-bind, s-both, s-fault, s-given, s-le, s-pure, s-some}
use Rattle.name_scopes.proofs.Tallies.{Tally}

pub z-also_waiting : (which : Tally) (x0 : Waiting) (x1 : TypedPart) (x2 : Found) → (with-part which).Whole x0 → (part-measure which).Whole x1 → (with-part which).Whole x2 → Holds (with-part which) (part-size which x0.part + part-size which x1 + part-size which x2.part) (also_waiting x0 x1 x2)
z-also_waiting which w x f h0 h1 h2 = (((h1, h2), h0), omega arith)

pub z-also_choice : (which : Tally) (x0 : Option Waiting) (x1 : Option TypedPart) (x2 : Option Found) → (maybe-known which).Whole x0 → (maybe-part which).Whole x1 → (maybe-known which).Whole x2 → Holds (maybe-known which) ((maybe-known which).size x0 + (maybe-part which).size x1 + (maybe-known which).size x2) (also_choice x0 x1 x2)
z-also_choice which (Some w) (Some x) (Some f) h0 h1 h2 =
    let made1 = z-also_waiting which w x f h0 h1 h2 in
    (made1.0, omega (arith, made1.1))
z-also_choice which any1 any2 any3 h0 h1 h2 = (tt, omega arith)

pub s-alternative : (which : Tally) (x0 : Names) (x1 : Inside) (x2 : Context) (x3 : Wanted) (x4 : Option Waiting) (x5 : Expr) (x6 : Expr) → SpendsInside which x1 → (maybe-known which).Whole x4 → Spends which (maybe-known which) ((maybe-known which).size x4) (alternative x0 x1 x2 x3 x4 x5 x6)
unfolding alternative
s-alternative which names level here want made c v h1 h4 =
    s-bind which (maybe-part which) (maybe-known which) 0 ((maybe-known which).size made) _ (condition names level here c) _ (s-le which (maybe-part which) _ _ _ (s-condition which names level here c h1) (omega arith)) (omega arith) (λ x held1.
    s-bind which (maybe-known which) (maybe-known which) 0 ((maybe-known which).size made + (maybe-part which).size x) _ (expr names level here want v) _ (s-le which (maybe-known which) _ _ _ (s-expr which names level here want v h1) (omega arith)) (omega arith) (λ y held2.
    s-pure which (maybe-known which) _ (also_choice made x y) (let made3 = z-also_choice which made x y h4 held1 held2 in
    (made3.0, omega (arith, made3.1)))))

pub s-alternatives : (which : Tally) (x0 : Names) (x1 : Inside) (x2 : Context) (x3 : Wanted) (x4 : Option Waiting) (x5 : Elsifs) → SpendsInside which x1 → (maybe-known which).Whole x4 → Spends which (maybe-known which) ((maybe-known which).size x4) (alternatives x0 x1 x2 x3 x4 x5)
s-alternatives which names level here want made syntax.NoElsif h1 h4 = s-pure which (maybe-known which) _ made (h4, omega arith)
s-alternatives which names level here want made (syntax.AlsoElsif (syntax.elsif at c v) es) h1 h4 =
    s-bind which (maybe-known which) (maybe-known which) ((maybe-known which).size made) 0 _ (alternative names level here want made c v) _ (s-le which (maybe-known which) _ _ _ (s-alternative which names level here want made c v h1 h4) (omega arith)) (omega arith) (λ d held1.
    s-le which (maybe-known which) _ _ _ (s-alternatives which names level here want d es h1 held1) (omega arith))

pub z-if_part : (which : Tally) (x0 : TypedPart) (x1 : TypedPart) (x2 : TypedPart) → (part-measure which).Whole x0 → (part-measure which).Whole x1 → (part-measure which).Whole x2 → Holds (part-measure which) (part-size which x0 + part-size which x1 + part-size which x2) (if_part x0 x1 x2)
z-if_part which c v o h0 h1 h2 = (tt, omega (arith, n-expr which c, n-expr which v, n-expr which o))

pub z-with_known : (which : Tally) (x0 : Known) (x1 : TypedPart) → (part-measure which).Whole x1 → Holds (with-part which) (part-size which x1) (with_known x0 x1)
z-with_known which f x h1 = (h1, omega arith)

pub s-scalar_ifs : (which : Tally) (k : Kind) (fs : List Known) (ps : TypedPart) (o : Option TypedPart) → (part-measure which).Whole ps → (maybe-part which).Whole o → Spends which (maybe-part which) (part-size which ps + (maybe-part which).size o) (scalar_ifs k fs ps o)
s-scalar_ifs which k [] ps o h i = s-pure which (maybe-part which) _ o (i, omega arith)
s-scalar_ifs which k (f ∷ fs) ps o h i =
    let c = left_of (left_of ps) in
    let held-c = w-left_of which (left_of ps) (w-left_of which ps h) in
    s-bind which (maybe-part which) (maybe-part which) (part-size which (right_of (left_of ps))) (part-size which c + part-size which (right_of ps) + (maybe-part which).size o) _
    (asked k (record { known = f; part = right_of (left_of ps) })) _ (s-asked which k (record { known = f; part = right_of (left_of ps) }) (w-right_of which (left_of ps) (w-left_of which ps h)))
    (omega (arith, n-sides which ps, n-sides which (left_of ps)))
    (λ v held.
    let j = h-joined (part-measure which) (part-measure which) (part-measure which) (part-size which c) (if_part c) v o held i (λ a p b q. let z = z-if_part which c a b held-c p q in (z.0, omega (arith, z.1))) in
    s-le which (maybe-part which) _ _ _ (s-scalar_ifs which k fs (right_of ps) (joined (if_part c) v o) (w-right_of which ps h) j.0) (omega (arith, j.1)))

pub s-scalar_if : (which : Tally) (x0 : ℕ) (x1 : Kind) (x2 : Waiting) (x3 : Found) → (with-part which).Whole x2 → (with-part which).Whole x3 → Spends which (maybe-known which) (part-size which x2.part + part-size which x3.part) (scalar_if x0 x1 x2 x3)
unfolding scalar_if
s-scalar_if which bracket k w f h2 h3 =
    s-bind which (maybe-part which) (maybe-known which) (part-size which f.part) (part-size which w.part) _ (asked k f) _ (s-le which (maybe-part which) _ _ _ (s-asked which k f h3) (omega arith)) (omega arith) (λ o held1.
    s-bind which (maybe-part which) (maybe-known which) (part-size which w.part + (maybe-part which).size o) 0 _ (scalar_ifs k w.known w.part o) _ (s-le which (maybe-part which) _ _ _ (s-scalar_ifs which k w.known w.part o h2 held1) (omega arith)) (omega arith) (λ e held2.
    s-pure which (maybe-known which) _ (option_map (with_known (known.Scalar bracket k None)) e) (let made5 = h-map (part-measure which) (with-part which) 0 (with_known (known.Scalar bracket k None)) e held2 (λ item held3. let made4 = z-with_known which (known.Scalar bracket k None) item held3 in
    (made4.0, omega (arith, made4.1))) in
    (made5.0, omega (arith, made5.1)))))

pub z-composite_part : (which : Tally) (x0 : TypedPart) (x1 : TypedPart) (x2 : TypedPart) → (part-measure which).Whole x0 → (part-measure which).Whole x1 → (part-measure which).Whole x2 → Holds (part-measure which) (part-size which x0 + part-size which x1 + part-size which x2) (composite_part x0 x1 x2)
z-composite_part which c v o h0 h1 h2 = (tt, omega (arith, n-expr which c, n-composite which v, n-composite which o))

pub s-composite_ifs : (which : Tally) (k : ℕ) (fs : List Known) (ps : TypedPart) (o : Option TypedPart) → (part-measure which).Whole ps → (maybe-part which).Whole o → Spends which (maybe-part which) (part-size which ps + (maybe-part which).size o) (composite_ifs k fs ps o)
s-composite_ifs which k [] ps o h i = s-pure which (maybe-part which) _ o (i, omega arith)
s-composite_ifs which k (f ∷ fs) ps o h i =
    let c = left_of (left_of ps) in
    let held-c = w-left_of which (left_of ps) (w-left_of which ps h) in
    s-bind which (maybe-part which) (maybe-part which) (part-size which (right_of (left_of ps))) (part-size which c + part-size which (right_of ps) + (maybe-part which).size o) _
    (composite_asked k (record { known = f; part = right_of (left_of ps) })) _ (s-composite_asked which k (record { known = f; part = right_of (left_of ps) }) (w-right_of which (left_of ps) (w-left_of which ps h)))
    (omega (arith, n-sides which ps, n-sides which (left_of ps)))
    (λ v held.
    let j = h-joined (part-measure which) (part-measure which) (part-measure which) (part-size which c) (composite_part c) v o held i (λ a p b q. let z = z-composite_part which c a b held-c p q in (z.0, omega (arith, z.1))) in
    s-le which (maybe-part which) _ _ _ (s-composite_ifs which k fs (right_of ps) (joined (composite_part c) v o) (w-right_of which ps h) j.0) (omega (arith, j.1)))

pub s-composite_if : (which : Tally) (x0 : ℕ) (x1 : ℕ) (x2 : Waiting) (x3 : Found) → (with-part which).Whole x2 → (with-part which).Whole x3 → Spends which (maybe-known which) (part-size which x2.part + part-size which x3.part) (composite_if x0 x1 x2 x3)
unfolding composite_if
s-composite_if which bracket n w f h2 h3 =
    s-bind which (maybe-part which) (maybe-known which) (part-size which f.part) (part-size which w.part) _ (composite_asked n f) _ (s-le which (maybe-part which) _ _ _ (s-composite_asked which n f h3) (omega arith)) (omega arith) (λ o held1.
    s-bind which (maybe-part which) (maybe-known which) (part-size which w.part + (maybe-part which).size o) 0 _ (composite_ifs n w.known w.part o) _ (s-le which (maybe-part which) _ _ _ (s-composite_ifs which n w.known w.part o h2 held1) (omega arith)) (omega arith) (λ c held2.
    s-pure which (maybe-known which) _ (option_map (with_known (known.Composite bracket n)) c) (let made5 = h-map (part-measure which) (with-part which) 0 (with_known (known.Composite bracket n)) c held2 (λ item held3. let made4 = z-with_known which (known.Composite bracket n) item held3 in
    (made4.0, omega (arith, made4.1))) in
    (made5.0, omega (arith, made5.1)))))

pub z-open_part : (which : Tally) (x0 : TypedPart) (x1 : Limits × TypedPart) (x2 : Limits × TypedPart) → (part-measure which).Whole x0 → (part-measure which).Whole x1.1 → (part-measure which).Whole x2.1 → Holds (second-of (part-measure which)) (part-size which x0 + part-size which x1.1 + part-size which x2.1) (open_part x0 x1 x2)
z-open_part which c v o h0 h1-1 h2-1 =
    let made1 = z-if_part which c v.1 o.1 h0 h1-1 h2-1 in
    (made1.0, omega (arith, made1.1))

pub z-open_ifs : (which : Tally) (fs : List Known) (ps : TypedPart) (o : Option (Limits × TypedPart)) → (part-measure which).Whole ps → (option-of (second-of (part-measure which))).Whole o → Holds (option-of (second-of (part-measure which))) (part-size which ps + (option-of (second-of (part-measure which))).size o) (open_ifs fs ps o)
z-open_ifs which [] ps o h i = (i, omega arith)
z-open_ifs which (f ∷ fs) ps o h i =
    let c = left_of (left_of ps) in
    let held-c = w-left_of which (left_of ps) (w-left_of which ps h) in
    let v = z-open_of which (record { known = f; part = right_of (left_of ps) }) (w-right_of which (left_of ps) (w-left_of which ps h)) in
    let j = h-joined (second-of (part-measure which)) (second-of (part-measure which)) (second-of (part-measure which)) (part-size which c) (open_part c) (open_of (record { known = f; part = right_of (left_of ps) })) o v.0 i (λ a p b q. let z = z-open_part which c a b held-c p q in (z.0, omega (arith, z.1))) in
    let r = z-open_ifs which fs (right_of ps) (joined (open_part c) (open_of (record { known = f; part = right_of (left_of ps) })) o) (w-right_of which ps h) j.0 in
    (r.0, omega (arith, r.1, j.1, v.1, n-sides which ps, n-sides which (left_of ps)))

pub z-open_if : (which : Tally) (x0 : ℕ) (x1 : Limits × TypedPart) → (part-measure which).Whole x1.1 → Holds (with-part which) (part-size which x1.1) (open_if x0 x1)
z-open_if which bracket e h1-1 = (h1-1, omega arith)

pub s-conditional : (which : Tally) (x0 : ℕ) (x1 : Waiting) (x2 : Found) (x3 : Option Kind) (x4 : Option ℕ) → (with-part which).Whole x1 → (with-part which).Whole x2 → Spends which (maybe-known which) (part-size which x1.part + part-size which x2.part) (conditional x0 x1 x2 x3 x4)
s-conditional which bracket w f (Some k) n h1 h2 = s-le which (maybe-known which) _ _ _ (s-scalar_if which bracket k w f h1 h2) (omega arith)
s-conditional which bracket w f None (Some n) h1 h2 = s-le which (maybe-known which) _ _ _ (s-composite_if which bracket n w f h1 h2) (omega arith)
s-conditional which bracket w f None None h1 h2 =
    s-pure which (maybe-known which) _ (option_map (open_if bracket) (open_ifs w.known w.part (open_of f))) (let made3 = z-open_of which f h2 in
    let made4 = z-open_ifs which w.known w.part (open_of f) h1 made3.0 in
    let made5 = h-map (second-of (part-measure which)) (with-part which) 0 (open_if bracket) (open_ifs w.known w.part (open_of f)) made4.0 (λ item held1. let made2 = z-open_if which bracket item held1 in
    (made2.0, omega (arith, made2.1))) in
    (made5.0, omega (arith, made5.1, made4.1, made3.1)))

pub s-if_expr : (which : Tally) (x0 : Names) (x1 : Inside) (x2 : Context) (x3 : Wanted) (x4 : ℕ) (x5 : Expr) (x6 : Expr) (x7 : Elsifs) (x8 : Expr) → SpendsInside which x1 → Spends which (maybe-known which) 0 (if_expr x0 x1 x2 x3 x4 x5 x6 x7 x8)
unfolding if_expr
s-if_expr which names level here want bracket c v more o h1 =
    s-bind which (maybe-known which) (maybe-known which) 0 0 _ (alternative names level here want (Some (record { known = []; part = part.Nothing })) c v) _ (s-le which (maybe-known which) _ _ _ (s-alternative which names level here want (Some (record { known = []; part = part.Nothing })) c v h1 tt) (omega arith)) (omega arith) (λ d held1.
    s-bind which (maybe-known which) (maybe-known which) ((maybe-known which).size d) 0 _ (alternatives names level here want d more) _ (s-le which (maybe-known which) _ _ _ (s-alternatives which names level here want d more h1 held1) (omega arith)) (omega arith) (λ ds held2.
    s-bind which (maybe-known which) (maybe-known which) 0 ((maybe-known which).size ds) _ (expr names level here want o) _ (s-le which (maybe-known which) _ _ _ (s-expr which names level here want o h1) (omega arith)) (omega arith) (λ f held3.
    s-both which (with-part which) (with-part which) (with-part which) 0 _ ds f _ held2 held3 (omega arith) (λ w held4 x held5.
    s-le which (maybe-known which) _ _ _ (s-conditional which bracket w x (common_type w x).0 (common_type w x).1 held4 held5) (omega arith)))))

pub s-grouped_scalar : (which : Tally) (x0 : ℕ) (x1 : Found) (x2 : Option Kind) (x3 : Option ℕ) → (with-part which).Whole x1 → Spends which (maybe-known which) (part-size which x1.part) (grouped_scalar x0 x1 x2 x3)
s-grouped_scalar which bracket f (Some k) n h1 =
    s-bind which (maybe-part which) (maybe-known which) (part-size which f.part) 0 _ (asked k f) _ (s-le which (maybe-part which) _ _ _ (s-asked which k f h1) (omega arith)) (omega arith) (λ x held1.
    s-given which (part-measure which) (with-part which) 0 _ x _ held1 (omega arith) (λ e held2.
    s-some which (with-part which) _ (scalar bracket k None (typed.Group (as_expr e))) (let made3 = z-scalar which bracket k None (typed.Group (as_expr e)) tt in
    (made3.0, omega (arith, made3.1, n-expr which e)))))
s-grouped_scalar which bracket f None (Some n) h1 =
    s-bind which (maybe-part which) (maybe-known which) (part-size which f.part) 0 _ (composite_asked n f) _ (s-le which (maybe-part which) _ _ _ (s-composite_asked which n f h1) (omega arith)) (omega arith) (λ c held1.
    s-pure which (maybe-known which) _ (option_map (with_known (known.Composite bracket n)) c) (let made4 = h-map (part-measure which) (with-part which) 0 (with_known (known.Composite bracket n)) c held1 (λ item held2. let made3 = z-with_known which (known.Composite bracket n) item held2 in
    (made3.0, omega (arith, made3.1))) in
    (made4.0, omega (arith, made4.1))))
s-grouped_scalar which bracket f None None h1 = s-pure which (maybe-known which) _ None (tt, omega arith)

pub s-grouped_by : (which : Tally) (x0 : ℕ) (x1 : Found) (x2 : Option Kind) (x3 : Option ℤ) → (with-part which).Whole x1 → Spends which (maybe-known which) (part-size which x1.part) (grouped_by x0 x1 x2 x3)
s-grouped_by which bracket f (Some k) (Some z) h1 =
    s-some which (with-part which) _ (static bracket k z (mentions_of f)) (let made1 = z-mentions_of which f h1 in
    let made2 = z-static which bracket k z (mentions_of f) made1.0 in
    (made2.0, omega (arith, made2.1, made1.1)))
s-grouped_by which bracket f k z h1 = s-le which (maybe-known which) _ _ _ (s-grouped_scalar which bracket f k (composite_in f.known) h1) (omega arith)

pub s-grouped_form : (which : Tally) (x0 : ℕ) (x1 : Known) (x2 : TypedPart) → (part-measure which).Whole x2 → Spends which (maybe-known which) (part-size which x2) (grouped_form x0 x1 x2)
s-grouped_form which bracket (known.Universal first z alone) x h2 =
    s-some which (with-part which) _ (with_known (known.Universal bracket z false) x) (let made1 = z-with_known which (known.Universal bracket z false) x h2 in
    (made1.0, omega (arith, made1.1)))
s-grouped_form which bracket (known.Open first l) x h2 =
    s-some which (with-part which) _ (opened bracket l (typed.Group (as_expr x))) (let made1 = z-opened which bracket l (typed.Group (as_expr x)) tt in
    (made1.0, omega (arith, made1.1, n-expr which x)))
s-grouped_form which bracket (known.Text first) x h2 =
    s-some which (with-part which) _ (with_known (known.Text bracket) x) (let made1 = z-with_known which (known.Text bracket) x h2 in
    (made1.0, omega (arith, made1.1)))
s-grouped_form which bracket f x h2 =
    let made1 = z-with_known which f x h2 in
    s-le which (maybe-known which) _ _ _ (s-grouped_by which bracket (with_known f x) (kind_of f) (value_of f) made1.0) (omega (arith, made1.1))

pub s-grouped : (which : Tally) (x0 : ℕ) (x1 : Found) → (with-part which).Whole x1 → Spends which (maybe-known which) (part-size which x1.part) (grouped x0 x1)
unfolding grouped
s-grouped which bracket f h1 = s-le which (maybe-known which) _ _ _ (s-grouped_form which bracket f.known f.part h1) (omega arith)

pub z-target_found : (which : Tally) (x0 : ℕ) (x1 : Subtype) → Holds (with-part which) 0 (target_found x0 x1)
z-target_found which at (subtype.Scalar s) =
    let made1 = z-scalar which at s.kind (Some s) (typed.Target at (typed_scalar s)) tt in
    (made1.0, omega (arith, made1.1))
z-target_found which at (subtype.Composite n) =
    let made1 = z-composite which at n (typed.WholeTarget at n) tt in
    (made1.0, omega (arith, made1.1))

pub s-target_at : (which : Tally) (x0 : ℕ) (x1 : Target) → Spends which (maybe-known which) 0 (target_at x0 x1)
s-target_at which at target.Nothing = s-fault which (with-part which) _ at NotVisible
s-target_at which at target.Faulty = s-pure which (maybe-known which) _ None (tt, omega arith)
s-target_at which at (target.Of s) =
    s-some which (with-part which) _ (target_found at s) (let made1 = z-target_found which at s in
    (made1.0, omega (arith, made1.1)))

pub s-text_at : (which : Tally) (x0 : Names) (x1 : ℕ) (x2 : Wanted) → Spends which (maybe-known which) 0 (text_at x0 x1 x2)
s-text_at which names at wanted.Text =
    s-some which (with-part which) _ (text_found at (also part.Nothing (part.APiece (typed.Text (text names at))))) (let made1 = z-text_found which at (also part.Nothing (part.APiece (typed.Text (text names at)))) ((λ r. omega arith), tt) in
    (made1.0, omega (arith, made1.1)))
s-text_at which names at want = s-fault which (with-part which) _ at WrongType

pub s-primary : (which : Tally) (x0 : Names) (x1 : Inside) (x2 : Context) (x3 : Primary) (x4 : Wanted) → SpendsInside which x1 → Spends which (maybe-known which) 0 (primary x0 x1 x2 x3 x4)
unfolding primary
s-primary which names inside here (syntax.Number at) want h1 =
    s-some which (with-part which) _ (universal at (number names at) true part.Nothing) (let made1 = z-universal which at (number names at) true part.Nothing tt in
    (made1.0, omega (arith, made1.1)))
s-primary which names inside here (syntax.Text at) want h1 = s-le which (maybe-known which) _ _ _ (s-text_at which names at want) (omega arith)
s-primary which names inside here (syntax.Target at) want h1 = s-le which (maybe-known which) _ _ _ (s-target_at which at here.target) (omega arith)
s-primary which names inside here (syntax.Named n) want h1 =
    s-bind which (maybe-known which) (maybe-known which) 0 0 _ (value_named names inside here n) _ (s-le which (maybe-known which) _ _ _ (s-value_named which names inside here n h1) (omega arith)) (omega arith) (λ x held1.
    s-given which (with-part which) (with-part which) 0 _ x _ held1 (omega arith) (λ f held2.
    s-le which (maybe-known which) _ _ _ (s-in_place which want f.known f held2) (omega arith)))
s-primary which names inside here (syntax.Group bracket e) want h1 =
    s-bind which (maybe-known which) (maybe-known which) 0 0 _ (expr names inside here want e) _ (s-le which (maybe-known which) _ _ _ (s-expr which names inside here want e h1) (omega arith)) (omega arith) (λ x held1.
    s-given which (with-part which) (with-part which) 0 _ x _ held1 (omega arith) (λ item held2.
    s-le which (maybe-known which) _ _ _ (s-grouped which bracket item held2) (omega arith)))
s-primary which names inside here (syntax.If bracket at c v more o) want h1 = s-le which (maybe-known which) _ _ _ (s-if_expr which names inside here (no_text want) bracket c v more o h1) (omega arith)
s-primary which names inside here (syntax.Round bracket many) want h1 = s-le which (maybe-known which) _ _ _ (s-aggregate which names inside here want bracket (contents many) h1) (omega arith)
s-primary which names inside here (syntax.Square bracket many) want h1 = s-le which (maybe-known which) _ _ _ (s-aggregate which names inside here want bracket (contents many) h1) (omega arith)
s-primary which names inside here (syntax.OneValue bracket e) want h1 = s-le which (maybe-known which) _ _ _ (s-aggregate which names inside here want bracket (ByPosition (syntax.AlsoExpr e syntax.NoExpr) syntax.AbsentExpr) h1) (omega arith)
s-primary which names inside here (syntax.Reduction bracket p at i v a r o) want h1 = s-le which (maybe-known which) _ _ _ (s-sequence which names inside here bracket p i v a r o h1) (omega arith)

-- ---- levels of brackets

pub spends-level_above : (which : Tally) (names : Names) (level : Inside) → SpendsInside which level → SpendsInside which (level_above names level)
spends-level_above which names level h = record { keeps = k-level_above leaving names level tt h.keeps; primary = λ here p want. s-primary which names level here p want h; name = λ here n. s-name which names level here n h }

pub spends-inside : (which : Tally) (names : Names) (n : ℕ) → SpendsInside which (inside names n)
unfolding inside
spends-inside which names zero = record {
  keeps = k-inside leaving names zero tt;
  primary = λ here p want. s-fault which (with-part which) 0 (first_token.of_primary p) (Limit bound.Levels);
  name = λ here n. s-fault which (with-part which) 0 (first_token.of_name n) (Limit bound.Levels);
}
spends-inside which names (suc n) = spends-level_above which names (inside names n) (spends-inside which names n)
