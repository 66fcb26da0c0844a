-- Judging that is counted: programs.
use Rattle.name_rules.specs.Declarations.{declaration, declarations}
use Rattle.name_rules.specs.Expressions.{Inside, judged_alone}
use Rattle.name_rules.specs.Judging.{joined}
use Rattle.name_rules.specs.Parts.{name}
use Rattle.name_rules.specs.Primaries.{inside}
use Rattle.name_rules.specs.Statements.{around, body, no_decls, stmt}
use Rattle.name_rules.specs.declared.scope.Context.{Context}
use Rattle.name_rules.specs.declared.scope.Names.{Names}
use Rattle.name_rules.specs.declared.scope.Returns.TheVariants as returns
use Rattle.name_rules.specs.declared.scope.Returns.{Returns}
use Rattle.name_rules.specs.declared.types.Subtype.TheVariants as subtype
use Rattle.syntax_tree.specs.Syntax as syntax
use Rattle.syntax_tree.specs.Syntax.{Aspect, Body, Decl, Expr, Main, Program, Sub, Unit'}
use Rattle.typed_tree.specs.Syntax.{Sub as TypedSub}
use Rattle.std.specs.Prelude.{Bool, List, None, Option, Some, [], false, length, option_map, ℕ, ◌+◌, ◌-◌, ◌∷◌}
use Rattle.typed_tree.specs.Decoded.{TypedPart}
use Rattle.name_rules.specs.Programs.{Declared', Profiled, also_sub, aspect, clauses, end_name, level_of, main, outermost, policy, profile, program, result_value, returned_body, sub_where, subprogram, typed_sub, unit_of, units, whole, with_body, with_value_of}
use Rattle.std.proofs.Common.{arith}
use Rattle.name_laws.proofs.KeepsExpressions.{k-judged_alone}
use Rattle.name_laws.proofs.KeepsPrograms.{k-aspect, k-clauses, k-end_name, k-policy, k-profile}
use Rattle.name_scopes.proofs.SpendsDeclarations.{s-declaration, s-declarations}
use Rattle.name_scopes.proofs.SpendsExpressions.{s-value_for}
use Rattle.name_scopes.proofs.SpendsPrimaries.{spends-inside, spends-level_above}
use Rattle.name_scopes.proofs.SpendsStatements.{s-body, spends-around}
use Rattle.name_scopes.proofs.Leaving.{leaving, leaving-profiles, leaving-wide}
use Rattle.name_scopes.proofs.Measures.{counted-by, maybe-part, option-of, part-measure, part-size, second-of}
use Rattle.name_scopes.proofs.Parts.{n-body, n-value}
use Rattle.name_scopes.proofs.Records.{SpendsInside, declared-of, sub-of, subs-sum, whole-of}
use Rattle.name_scopes.proofs.Spends.{Holds, Spends, h-joined, h-joined-second, h-map, s-bind, s-le, s-pure, s-then}
use Rattle.name_scopes.proofs.Tallies.{Tally, in_body, in_subs}

pub z-typed_sub : (which : Tally) (x0 : Profiled) (x1 : Bool) (x2 : TypedPart) → (part-measure which).Whole x2 → Holds (sub-of which) (part-size which x2) (typed_sub x0 x1 x2)
z-typed_sub which p nonblocking b h2 = (tt, omega (arith, n-body which b))

pub z-sub_where : (which : Tally) (x0 : Profiled) (x1 : Bool) (x2 : ℕ) (x3 : TypedPart) → (part-measure which).Whole x3 → Holds (sub-of which) (part-size which x3) (sub_where x0 x1 x2 x3)
z-sub_where which p z n b h3 =
    let made1 = z-typed_sub which p z b h3 in
    (made1.0, omega (arith, made1.1))

pub s-with_body : (which : Tally) (x0 : Names) (x1 : ℕ) (x2 : Bool) (x3 : ℕ) (x4 : Profiled) (x5 : Option Aspect) (x6 : List Decl) (x7 : Body) (x8 : Option ℕ) → Spends which (option-of (sub-of which)) 0 (with_body x0 x1 x2 x3 x4 x5 x6 x7 x8)
unfolding with_body
s-with_body which names n blocking name p a ds b last =
    s-then which (option-of (sub-of which)) _ (aspect names p.inner blocking a) _ (k-aspect leaving names p.inner blocking a tt) (λ z.
    s-bind which (second-of (maybe-part which)) (option-of (sub-of which)) 0 0 _ (declarations names (level_of names n) (length p.outer.scope) p.inner (Some no_decls) ds) _ (s-le which (second-of (maybe-part which)) _ _ _ (s-declarations which names (level_of names n) (length p.outer.scope) p.inner (Some no_decls) ds (spends-level_above which names (inside names n) (spends-inside which names n)) tt) (omega arith)) (omega arith) (λ r held2.
    s-bind which (maybe-part which) (option-of (sub-of which)) ((maybe-part which).size r.1) 0 _ (body (around names n (stmt names n)) r.0 r.1 b) _ (s-le which (maybe-part which) _ _ _ (s-body which (around names n (stmt names n)) r.0 r.1 b (spends-around which names n) held2) (omega arith)) (omega arith) (λ x held3.
    s-then which (option-of (sub-of which)) _ (end_name names name last) _ (k-end_name leaving names name last tt) (λ u.
    s-pure which (option-of (sub-of which)) _ (joined (sub_where p z) p.number x) (let made8 = h-joined-second (part-measure which) (sub-of which) 0 (sub_where p z) p.number x held3 (λ one other held6. let made7 = z-sub_where which p z one other held6 in
    (made7.0, omega (arith, made7.1))) in
    (made8.0, omega (arith, made8.1)))))))

pub z-returned_body : (which : Tally) (x0 : TypedPart) → (part-measure which).Whole x0 → Holds (part-measure which) (part-size which x0) (returned_body x0)
z-returned_body which v h0 = (tt, omega (arith, n-value which v))

pub s-result_value : (which : Tally) (x0 : Names) (x1 : Inside) (x2 : Context) (x3 : Expr) (x4 : Returns) → SpendsInside which x1 → Spends which (maybe-part which) 0 (result_value x0 x1 x2 x3 x4)
s-result_value which names level here e (returns.Value s) h1 = s-le which (maybe-part which) _ _ _ (s-value_for which names level here (subtype.Scalar s) e h1) (omega arith)
s-result_value which names level here e r h1 =
    s-then which (maybe-part which) _ (judged_alone names level here e) _ (k-judged_alone leaving names level here e tt h1.keeps) (λ u.
    s-pure which (maybe-part which) _ None (tt, omega arith))

pub s-with_value_of : (which : Tally) (x0 : Names) (x1 : ℕ) (x2 : Bool) (x3 : Profiled) (x4 : Option Aspect) (x5 : Expr) → Spends which (option-of (sub-of which)) 0 (with_value_of x0 x1 x2 x3 x4 x5)
unfolding with_value_of
s-with_value_of which names n blocking p a e =
    s-then which (option-of (sub-of which)) _ (aspect names p.inner blocking a) _ (k-aspect leaving names p.inner blocking a tt) (λ z.
    s-bind which (maybe-part which) (option-of (sub-of which)) 0 0 _ (result_value names (inside names n) p.inner e p.inner.returns) _ (s-le which (maybe-part which) _ _ _ (s-result_value which names (inside names n) p.inner e p.inner.returns (spends-inside which names n)) (omega arith)) (omega arith) (λ v held2.
    s-pure which (option-of (sub-of which)) _ (joined (sub_where p z) p.number (option_map returned_body v)) (let made8 = h-map (part-measure which) (part-measure which) 0 returned_body v held2 (λ item held6. let made7 = z-returned_body which item held6 in
    (made7.0, omega (arith, made7.1))) in
    let made9 = h-joined-second (part-measure which) (sub-of which) 0 (sub_where p z) p.number (option_map returned_body v) made8.0 (λ one other held4. let made5 = z-sub_where which p z one other held4 in
    (made5.0, omega (arith, made5.1))) in
    (made9.0, omega (arith, made9.1, made8.1)))))

pub s-subprogram : (which : Tally) (x0 : Names) (x1 : ℕ) (x2 : Bool) (x3 : ℕ) (x4 : Context) (x5 : Sub) → Spends which (second-of (option-of (sub-of which))) 0 (subprogram x0 x1 x2 x3 x4 x5)
unfolding subprogram
s-subprogram which names n blocking start here (syntax.Procedure at name fs a ds b last) =
    s-then which (second-of (option-of (sub-of which))) _ (profile names start here name None fs) _ (k-profile leaving-wide names start here name None fs tt leaving-profiles) (λ p.
    s-bind which (option-of (sub-of which)) (second-of (option-of (sub-of which))) 0 0 _ (with_body names n blocking name p a ds b last) _ (s-le which (option-of (sub-of which)) _ _ _ (s-with_body which names n blocking name p a ds b last) (omega arith)) (omega arith) (λ s held2.
    s-pure which (second-of (option-of (sub-of which))) _ (p.outer, s) (held2, omega arith)))
s-subprogram which names n blocking start here (syntax.Function at name fs result a ds b last) =
    s-then which (second-of (option-of (sub-of which))) _ (profile names start here name (Some result) fs) _ (k-profile leaving-wide names start here name (Some result) fs tt leaving-profiles) (λ p.
    s-bind which (option-of (sub-of which)) (second-of (option-of (sub-of which))) 0 0 _ (with_body names n blocking name p a ds b last) _ (s-le which (option-of (sub-of which)) _ _ _ (s-with_body which names n blocking name p a ds b last) (omega arith)) (omega arith) (λ s held2.
    s-pure which (second-of (option-of (sub-of which))) _ (p.outer, s) (held2, omega arith)))
s-subprogram which names n blocking start here (syntax.ExprFunction at name fs result bracket e a) =
    s-then which (second-of (option-of (sub-of which))) _ (profile names start here name (Some result) fs) _ (k-profile leaving-wide names start here name (Some result) fs tt leaving-profiles) (λ p.
    s-bind which (option-of (sub-of which)) (second-of (option-of (sub-of which))) 0 0 _ (with_value_of names n blocking p a e) _ (s-le which (option-of (sub-of which)) _ _ _ (s-with_value_of which names n blocking p a e) (omega arith)) (omega arith) (λ s held2.
    s-pure which (second-of (option-of (sub-of which))) _ (p.outer, s) (held2, omega arith)))

pub z-also_sub : (which : Tally) (ss : List TypedSub) (s : TypedSub) → Unit {0} → Unit {0} → Holds (counted-by (λ x. in_subs which x)) (in_subs which ss + in_body which s.body) (also_sub ss s)
z-also_sub which ss s h i = (tt, omega (arith, subs-sum which ss (s ∷ [])))

pub s-unit_of : (which : Tally) (x0 : Names) (x1 : ℕ) (x2 : Bool) (x3 : ℕ) (x4 : Declared') (x5 : Unit') → (maybe-part which).Whole x4.decls → (option-of (counted-by (λ x. in_subs which x))).Whole x4.subs → Spends which (declared-of which) ((maybe-part which).size x4.decls + (option-of (counted-by (λ x. in_subs which x))).size x4.subs) (unit_of x0 x1 x2 x3 x4 x5)
s-unit_of which names n blocking start d (syntax.DeclUnit x) h4-decls h4-subs =
    s-bind which (second-of (maybe-part which)) (declared-of which) ((maybe-part which).size d.decls) ((option-of (counted-by (λ x. in_subs which x))).size d.subs) _ (declaration names (level_of names n) start d.here d.decls x) _ (s-le which (second-of (maybe-part which)) _ _ _ (s-declaration which names (level_of names n) start d.here d.decls x (spends-level_above which names (inside names n) (spends-inside which names n)) h4-decls) (omega arith)) (omega arith) (λ r held1.
    s-pure which (declared-of which) _ (record { here = r.0; decls = r.1; subs = d.subs }) ((held1, h4-subs), omega arith))
s-unit_of which names n blocking start d (syntax.SubUnit s) h4-decls h4-subs =
    s-bind which (second-of (option-of (sub-of which))) (declared-of which) 0 ((maybe-part which).size d.decls + (option-of (counted-by (λ x. in_subs which x))).size d.subs) _ (subprogram names (n - 1) blocking start d.here s) _ (s-le which (second-of (option-of (sub-of which))) _ _ _ (s-subprogram which names (n - 1) blocking start d.here s) (omega arith)) (omega arith) (λ r held1.
    s-pure which (declared-of which) _ (record { here = r.0; decls = d.decls; subs = joined also_sub d.subs r.1 }) (let made5 = h-joined (counted-by (λ x. in_subs which x)) (sub-of which) (counted-by (λ x. in_subs which x)) 0 also_sub d.subs r.1 h4-subs held1 (λ one held2 other held3. let made4 = z-also_sub which one other held2 held3 in
    (made4.0, omega (arith, made4.1))) in
    ((h4-decls, made5.0), omega (arith, made5.1))))

pub s-units : (which : Tally) (x0 : Names) (x1 : ℕ) (x2 : Bool) (x3 : ℕ) (x4 : Declared') (x5 : List Unit') → (maybe-part which).Whole x4.decls → (option-of (counted-by (λ x. in_subs which x))).Whole x4.subs → Spends which (declared-of which) ((maybe-part which).size x4.decls + (option-of (counted-by (λ x. in_subs which x))).size x4.subs) (units x0 x1 x2 x3 x4 x5)
s-units which names n blocking start d [] h4-decls h4-subs = s-pure which (declared-of which) _ d ((h4-decls, h4-subs), omega arith)
s-units which names n blocking start d (u ∷ us) h4-decls h4-subs =
    s-bind which (declared-of which) (declared-of which) ((maybe-part which).size d.decls + (option-of (counted-by (λ x. in_subs which x))).size d.subs) 0 _ (unit_of names n blocking start d u) _ (s-le which (declared-of which) _ _ _ (s-unit_of which names n blocking start d u h4-decls h4-subs) (omega arith)) (omega arith) (λ e held1.
    s-le which (declared-of which) _ _ _ (s-units which names n blocking start e us held1.0 held1.1) (omega arith))

pub z-whole : (which : Tally) (x0 : Bool) (x1 : Bool) (x2 : TypedPart) (x3 : List TypedSub) → (part-measure which).Whole x2 → (counted-by (λ x. in_subs which x)).Whole x3 → Holds (whole-of which) (part-size which x2 + (counted-by (λ x. in_subs which x)).size x3) (whole x0 x1 x2 x3)
z-whole which z s x ss h2 h3 = ((tt, h3), omega (arith, n-body which x))

pub s-main : (which : Tally) (x0 : Names) (x1 : ℕ) (x2 : Context) (x3 : Main) (x4 : Bool) → Spends which (option-of (whole-of which)) 0 (main x0 x1 x2 x3 x4)
unfolding main
s-main which names n here m s =
    s-then which (option-of (whole-of which)) _ (aspect names here false m.aspect) _ (k-aspect leaving names here false m.aspect tt) (λ z.
    s-bind which (declared-of which) (option-of (whole-of which)) 0 0 _ (units names n z (length here.scope) (record { here = here; decls = Some no_decls; subs = Some [] }) m.units) _ (s-le which (declared-of which) _ _ _ (s-units which names n z (length here.scope) (record { here = here; decls = Some no_decls; subs = Some [] }) m.units tt tt) (omega arith)) (omega arith) (λ d held2.
    s-bind which (maybe-part which) (option-of (whole-of which)) ((maybe-part which).size d.decls) ((option-of (counted-by (λ x. in_subs which x))).size d.subs) _ (body (around names n (stmt names n)) d.here d.decls m.body) _ (s-le which (maybe-part which) _ _ _ (s-body which (around names n (stmt names n)) d.here d.decls m.body (spends-around which names n) held2.0) (omega arith)) (omega arith) (λ b held3.
    s-then which (option-of (whole-of which)) _ (end_name names m.defined m.last_name) _ (k-end_name leaving names m.defined m.last_name tt) (λ u.
    s-pure which (option-of (whole-of which)) _ (joined (whole z s) b d.subs) (let made8 = h-joined (part-measure which) (counted-by (λ x. in_subs which x)) (whole-of which) 0 (whole z s) b d.subs held3 held2.1 (λ one held5 other held6. let made7 = z-whole which z s one other held5 held6 in
    (made7.0, omega (arith, made7.1))) in
    (made8.0, omega (arith, made8.1)))))))

pub s-program : (which : Tally) (x0 : Names) (x1 : ℕ) (x2 : Program) → Spends which (option-of (whole-of which)) 0 (program x0 x1 x2)
unfolding program
s-program which names n t =
    s-then which (option-of (whole-of which)) _ (policy names t.policy) _ (k-policy leaving names t.policy tt) (λ s.
    s-then which (option-of (whole-of which)) _ (clauses names outermost t.clauses) _ (k-clauses leaving names outermost t.clauses tt) (λ here.
    s-le which (option-of (whole-of which)) _ _ _ (s-main which names n here t.main s) (omega arith)))
