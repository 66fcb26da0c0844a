-- Judging that gives out sites: statements.
use Rattle.ada_base.specs.declared.reason.Reason.{Reason}
use Rattle.name_rules.specs.Cases.{Choosing, Covering, case_choices, handled_by}
use Rattle.name_rules.specs.Declarations.{declarations}
use Rattle.name_rules.specs.Expressions.{Inside, condition, expr, judged_alone}
use Rattle.syntax_tree.specs.FirstTokens as first_token
use Rattle.name_rules.specs.Found.{Denoted, Found}
use Rattle.name_rules.specs.Iterations.{entered}
use Rattle.name_rules.specs.Judging.{both, clean, fault, given, joined, pure, some, ◌>>=◌}
use Rattle.name_rules.specs.declared.log.Log.{Log}
use Rattle.name_rules.specs.Names.{denoted_first, exception}
use Rattle.name_rules.specs.Parts.{name, new_site, valued_by}
use Rattle.name_rules.specs.Primaries.{inside}
use Rattle.name_rules.specs.Types.{wanted_of}
use Rattle.name_rules.specs.Values.{first_of, is_scalar, settled_found, stored, is_modular_kind, kind_of}
use Rattle.name_rules.specs.declared.found.Denoted.TheVariants as denoted
use Rattle.name_rules.specs.declared.found.Denoted.{Denoted as KnownDenoted}
use Rattle.name_rules.specs.declared.found.Found.TheVariants as known
use Rattle.name_rules.specs.declared.found.ObjectName.{ObjectName}
use Rattle.name_rules.specs.declared.log.Bound.TheVariants as bound
use Rattle.name_rules.specs.declared.log.Rule.TheVariants.{Limit, NotVisible, WrongType}
use Rattle.name_rules.specs.declared.scope.Context.{Context}
use Rattle.name_rules.specs.declared.scope.Names.{Names}
use Rattle.name_rules.specs.declared.scope.Returns.TheVariants as returns
use Rattle.name_rules.specs.declared.scope.Returns.{Returns}
use Rattle.name_rules.specs.declared.scope.Target.TheVariants as target
use Rattle.name_rules.specs.declared.types.Kind.{Kind}
use Rattle.name_rules.specs.declared.types.Scalar.{Scalar}
use Rattle.name_rules.specs.declared.types.Subtype.TheVariants as subtype
use Rattle.name_rules.specs.declared.types.Wanted.TheVariants as wanted
use Rattle.syntax_tree.specs.Syntax as syntax
use Rattle.syntax_tree.specs.Syntax.{Alt, Alts, Arms, Body, Branches, Declare, Expr, Handler, Handlers, Iter, MoreStmts, Name, OptionalParallel, OptionalStmts, Pack, Scheme, Simple, Stmt, Stmts}
use Rattle.typed_tree.specs.Decoded as part
use Rattle.typed_tree.specs.Syntax as typed
use Rattle.typed_tree.specs.Syntax.{Handled as TypedHandled, Selections}
use Rattle.typed_tree.specs.declared.program.SiteKind.TheVariants as site
use Rattle.std.specs.Prelude.{Bool, List, None, Option, Some, [], false, length, not, option_map, suc, zero, ℕ, ◌+◌, ◌-◌, ◌==◌, ◌∷◌, ◌&&◌}
use Rattle.name_rules.specs.TypedParts.{nested_stmts, selections_of}
use Rattle.typed_tree.specs.Decoded.{TypedPart, as_arms, as_iteration, as_stmts}
use Rattle.typed_tree.specs.Latest.{turned}
use Rattle.name_rules.specs.Statements.{Around, Selector, also_alternative, alternative, alts, arm_limit, arms_part, around, as_statement, assign, assign_form, assign_other, assign_place, assign_to, assigned, assigned_alone, assigned_place, backwards_rule, block, block_decls, block_of, block_part, body, body_made, body_part, branch_count, branches, call_stmt, case_part, case_stmt, closed_where, condition_where, count_where, elsifs, exit_from, exit_part, exited, for_loop, for_made, for_part, handler, handlers, if_stmt, if_stmt_made, if_stmt_part, in_handler_of, in_loop, in_threads, innermost, is_last, is_last_handler, loop_by, loop_ends, loop_entered, loop_part, loop_stmt, loop_with, new_loop, no_choosing, no_decls, no_stmts, optional_parallel, otherwise_where, parallel, parallel_part, raise_from, raised, return_alone, return_from, return_value, returned, selecting, selector, selector_kind, selector_of, stmt, stmt_form, stmts, stmts_from, stored_place, value_at, value_of_nothing, with_alternative, with_arm, with_elsif, with_elsif_if, with_handler, with_handler_if, with_stmt, with_target}
use Rattle.std.proofs.Common.{arith, ◌<◌, ◌≤◌}
use Rattle.name_laws.proofs.KeepsCases.{k-handled_by}
use Rattle.name_laws.proofs.KeepsExpressions.{k-expr, k-judged_alone}
use Rattle.name_laws.proofs.KeepsNames.{k-exception}
use Rattle.name_laws.proofs.KeepsStatements.{k-arm_limit, k-around, k-assigned_alone, k-backwards_rule, k-closed_where, k-exited, k-loop_ends, k-new_loop}
use Rattle.name_sites.proofs.SpendsCases.{s-case_choices}
use Rattle.name_sites.proofs.SpendsDeclarations.{s-declarations}
use Rattle.name_sites.proofs.SpendsExpressions.{s-condition, s-expr}
use Rattle.name_sites.proofs.SpendsIterations.{late-entered, s-chunk_count, s-entered}
use Rattle.name_sites.proofs.SpendsParts.{s-valued_by}
use Rattle.name_sites.proofs.SpendsPrimaries.{spends-inside, spends-level_above}
use Rattle.name_sites.proofs.SpendsValues.{s-settled_found, s-stored}
use Rattle.name_sites.proofs.Leaving.{leaving, leaving-wide, left, left-falls}
use Rattle.name_sites.proofs.Measures.{counted-by, first-of, maybe-known, maybe-part, part-measure, part-size, second-of, with-part}
use Rattle.name_sites.proofs.Parts.{n-alternatives, n-arms, n-body, n-chunk, n-decls, n-expr, n-exprs_of, n-filter, n-handlers, n-iteration, n-nested_stmts, n-optional, n-selections_of, n-stmts, n-turned, n-value, w-turned}
use Rattle.name_sites.proofs.Records.{SpendsAround, SpendsInside, choosing-of, entered-of, site-of}
use Rattle.name_sites.proofs.Spends.{Holds, Spends, h-joined, left-given, number-next, s-none, h-joined-second, h-map, h-map-any, s-bind, s-both, s-clean, s-fault, s-given, s-given-any, s-if, s-le, s-new_site, s-pure, s-some, s-then, s-where_clean, s-where_clean-any}
use Rattle.typed_sites.specs.Sites.{in_number}
use Rattle.name_sites.proofs.Counts.{again, again-more, again-none, in_arms, in_filter, in_selections, in_stmts}

pub z-with_stmt : (which : ℕ) (x0 : TypedPart) (x1 : TypedPart) → (part-measure which).Whole x0 → (part-measure which).Whole x1 → Holds (part-measure which) (part-size which x0 + part-size which x1) (with_stmt x0 x1)
z-with_stmt which made s h0 h1 = ((h1, h0), omega arith)

pub s-stmts_from : (which : ℕ) (x0 : Around) (x1 : Context) (x2 : Option TypedPart) (x3 : MoreStmts) → SpendsAround which x0 → (maybe-part which).Whole x2 → Spends which (maybe-part which) ((maybe-part which).size x2) (stmts_from x0 x1 x2 x3)
s-stmts_from which a here made syntax.NoStmt h0 h2 = s-pure which (maybe-part which) _ made (h2, omega arith)
s-stmts_from which a here made (syntax.AlsoStmt s ss) h0 h2 =
    s-bind which (maybe-part which) (maybe-part which) 0 ((maybe-part which).size made) _ (a.within here s) _ (s-le which (maybe-part which) 0 _ _ (h0.within here s) (omega arith)) (omega arith) (λ x held1.
    let made5 = h-joined (part-measure which) (part-measure which) (part-measure which) 0 with_stmt made x h2 held1 (λ one held2 other held3. let made4 = z-with_stmt which one other held2 held3 in
    (made4.0, omega (arith, made4.1))) in
    s-le which (maybe-part which) _ _ _ (s-stmts_from which a here (joined with_stmt made x) ss h0 made5.0) (omega (arith, made5.1)))

pub s-stmts : (which : ℕ) (x0 : Around) (x1 : Context) (x2 : Stmts) → SpendsAround which x0 → Spends which (maybe-part which) 0 (stmts x0 x1 x2)
unfolding stmts
s-stmts which a here (syntax.stmts s ss) h0 =
    s-bind which (maybe-part which) (maybe-part which) 0 0 _ (stmts_from a here (Some no_stmts) (syntax.AlsoStmt s ss)) _ (s-le which (maybe-part which) _ _ _ (s-stmts_from which a here (Some no_stmts) (syntax.AlsoStmt s ss) h0 tt) (omega arith)) (omega arith) (λ x held1.
    s-pure which (maybe-part which) _ (option_map turned x) (let made3 = h-map (part-measure which) (part-measure which) 0 turned x held1 (λ item held2. (w-turned which item held2, omega (arith, n-turned which item))) in
    (made3.0, omega (arith, made3.1))))

pub z-assigned : (which : ℕ) (x0 : ObjectName) (x1 : Selections) (x2 : TypedPart) → (counted-by (λ x. in_selections which x)).Whole x1 → (part-measure which).Whole x2 → Holds (part-measure which) (in_selections which x1 + part-size which x2) (assigned x0 x1 x2)
z-assigned which p ss v h1 h2 = (tt, omega (arith, n-value which v))

pub s-stored_place : (which : ℕ) (x0 : ObjectName) (x1 : Selections) (x2 : ℕ) (x3 : Found) → (counted-by (λ x. in_selections which x)).Whole x1 → (with-part which).Whole x3 → Spends which (maybe-part which) (in_selections which x1 + part-size which x3.part) (stored_place x0 x1 x2 x3)
s-stored_place which p ss at f h1 h3 =
    s-bind which (maybe-part which) (maybe-part which) (part-size which f.part) (in_selections which ss) _ (stored p.subtype at f) _ (s-le which (maybe-part which) _ _ _ (s-stored which p.subtype at f h3) (omega arith)) (omega arith) (λ v held1.
    s-pure which (maybe-part which) _ (option_map (assigned p ss) v) (let made4 = h-map (part-measure which) (part-measure which) (in_selections which ss) (assigned p ss) v held1 (λ item held2. let made3 = z-assigned which p ss item h1 held2 in
    (made3.0, omega (arith, made3.1))) in
    (made4.0, omega (arith, made4.1))))

pub s-assigned_place : (which : ℕ) (x0 : ObjectName) (x1 : Selections) (x2 : ℕ) (x3 : Option Found) → (counted-by (λ x. in_selections which x)).Whole x1 → (maybe-known which).Whole x3 → Spends which (maybe-part which) (in_selections which x1 + (maybe-known which).size x3) (assigned_place x0 x1 x2 x3)
s-assigned_place which p ss at x h1 h3 =
    s-if which (maybe-part which) _ (not p.variable) (fault p.first WrongType) (given x (stored_place p ss at))
    (s-fault which (part-measure which) _ p.first WrongType)
    (s-given which (with-part which) (part-measure which) (in_selections which ss) _ x _ h3 (omega arith) (λ item held1.
    s-le which (maybe-part which) _ _ _ (s-stored_place which p ss at item h1 held1) (omega arith)))

pub s-assign_place : (which : ℕ) (x0 : Names) (x1 : Inside) (x2 : Context) (x3 : ObjectName) (x4 : Selections) (x5 : Expr) → SpendsInside which x1 → (counted-by (λ x. in_selections which x)).Whole x4 → Spends which (maybe-part which) (in_selections which x4) (assign_place x0 x1 x2 x3 x4 x5)
unfolding assign_place
s-assign_place which names level here p ss e h1 h4 =
    s-where_clean which (maybe-known which) (part-measure which) 0 (in_selections which ss) _ (expr names level (with_target here (target.Of p.subtype)) (wanted_of p.subtype) e) _ (s-le which (maybe-known which) _ _ _ (s-expr which names level (with_target here (target.Of p.subtype)) (wanted_of p.subtype) e h1) (omega arith)) (omega arith) (λ out held1.
    s-le which (maybe-part which) _ _ _ (s-assigned_place which p ss (first_token.of_expr e - 1) out h4 held1) (omega arith))

pub s-assign_other : (which : ℕ) (x0 : Names) (x1 : Inside) (x2 : Context) (x3 : Expr) (x4 : ℕ) → SpendsInside which x1 → Spends which (maybe-part which) 0 (assign_other x0 x1 x2 x3 x4)
s-assign_other which names level here e first h1 =
    s-where_clean-any which (part-measure which) _ (assigned_alone names level here e) _ (k-assigned_alone leaving names level here e tt h1.keeps) (λ u.
    s-fault which (part-measure which) _ first WrongType)

pub s-assign_form : (which : ℕ) (x0 : Names) (x1 : Inside) (x2 : Context) (x3 : Expr) (x4 : KnownDenoted) (x5 : TypedPart) → SpendsInside which x1 → (part-measure which).Whole x5 → Spends which (maybe-part which) (part-size which x5) (assign_form x0 x1 x2 x3 x4 x5)
s-assign_form which names level here e (denoted.Value (known.Object p)) x h1 h5 = s-le which (maybe-part which) _ _ _ (s-assign_place which names level here p (selections_of x) e h1 tt) (omega (arith, n-selections_of which x h5))
s-assign_form which names level here e d x h1 h5 = s-le which (maybe-part which) _ _ _ (s-assign_other which names level here e (denoted_first d) h1) (omega arith)

pub s-assign_to : (which : ℕ) (x0 : Names) (x1 : Inside) (x2 : Context) (x3 : Expr) (x4 : Option Denoted) → SpendsInside which x1 → (maybe-known which).Whole x4 → Spends which (maybe-part which) ((maybe-known which).size x4) (assign_to x0 x1 x2 x3 x4)
s-assign_to which names level here e None h1 h4 =
    s-then which (maybe-part which) _ (assigned_alone names level here e) _ (k-assigned_alone leaving names level here e tt h1.keeps) (λ u.
    s-pure which (maybe-part which) _ None (tt, omega arith))
s-assign_to which names level here e (Some d) h1 h4 = s-le which (maybe-part which) _ _ _ (s-assign_form which names level here e d.known d.part h1 h4) (omega arith)

pub s-assign : (which : ℕ) (x0 : Names) (x1 : Inside) (x2 : Context) (x3 : Name) (x4 : Expr) → SpendsInside which x1 → Spends which (maybe-part which) 0 (assign x0 x1 x2 x3 x4)
s-assign which names level here n e h1 =
    s-bind which (maybe-known which) (maybe-part which) 0 0 _ (level.name here n) _ (s-le which (maybe-known which) 0 _ _ (h1.name here n) (omega arith)) (omega arith) (λ out held1.
    s-le which (maybe-part which) _ _ _ (s-assign_to which names level here e out h1 held1) (omega arith))

pub s-as_statement : (which : ℕ) (x0 : KnownDenoted) (x1 : TypedPart) → (part-measure which).Whole x1 → Spends which (maybe-part which) (part-size which x1) (as_statement x0 x1)
s-as_statement which (denoted.Done first) x h1 = s-some which (part-measure which) _ x (h1, omega arith)
s-as_statement which d x h1 = s-fault which (part-measure which) _ (denoted_first d) WrongType

pub s-call_stmt : (which : ℕ) (x0 : Names) (x1 : Inside) (x2 : Context) (x3 : Name) → SpendsInside which x1 → Spends which (maybe-part which) 0 (call_stmt x0 x1 x2 x3)
unfolding call_stmt
s-call_stmt which names level here n h1 =
    s-bind which (maybe-known which) (maybe-part which) 0 0 _ (level.name here n) _ (s-le which (maybe-known which) 0 _ _ (h1.name here n) (omega arith)) (omega arith) (λ d held1.
    s-bind which (maybe-known which) (maybe-part which) ((maybe-known which).size d) 0 _ (given d (valued_by names level here)) _ (s-given which (with-part which) (with-part which) 0 _ d _ held1 (omega arith) (λ item held4.
    s-le which (maybe-known which) _ _ _ (s-valued_by which names level here item h1 held4) (omega arith))) (omega arith) (λ e held2.
    s-given which (with-part which) (part-measure which) 0 _ e _ held2 (omega arith) (λ x held3.
    s-le which (maybe-part which) _ _ _ (s-as_statement which x.known x.part held3) (omega arith))))

pub s-condition_where : (which : ℕ) (x0 : Names) (x1 : Inside) (x2 : Context) (x3 : Option Expr) → SpendsInside which x1 → Spends which (maybe-part which) 0 (condition_where x0 x1 x2 x3)
s-condition_where which names level here None h1 = s-some which (part-measure which) _ part.Nothing (tt, omega arith)
s-condition_where which names level here (Some e) h1 = s-le which (maybe-part which) _ _ _ (s-condition which names level here e h1) (omega arith)

pub z-exit_part : (which : ℕ) (x0 : ℕ) (x1 : TypedPart) → (part-measure which).Whole x1 → Holds (part-measure which) (part-size which x1) (exit_part x0 x1)
z-exit_part which n c h1 = (tt, omega (arith, n-optional which c))

pub s-exit_from : (which : ℕ) (x0 : Names) (x1 : Inside) (x2 : Context) (x3 : ℕ) (x4 : Option ℕ) (x5 : Option Expr) → SpendsInside which x1 → Spends which (maybe-part which) 0 (exit_from x0 x1 x2 x3 x4 x5)
unfolding exit_from
s-exit_from which names level here at from e h1 =
    s-then which (maybe-part which) _ (exited names here at from (innermost here.loops)) _ (k-exited leaving names here at from (innermost here.loops) tt) (λ n.
    s-bind which (maybe-part which) (maybe-part which) 0 0 _ (condition_where names level here e) _ (s-le which (maybe-part which) _ _ _ (s-condition_where which names level here e h1) (omega arith)) (omega arith) (λ c held2.
    s-pure which (maybe-part which) _ (joined exit_part n c) (let made6 = h-joined-second (part-measure which) (part-measure which) 0 exit_part n c held2 (λ one other held4. let made5 = z-exit_part which one other held4 in
    (made5.0, omega (arith, made5.1))) in
    (made6.0, omega (arith, made6.1)))))

pub z-returned : (which : ℕ) (x0 : TypedPart) → (part-measure which).Whole x0 → Holds (part-measure which) (part-size which x0) (returned x0)
z-returned which v h0 = (tt, omega (arith, n-value which v))

pub s-value_at : (which : ℕ) (x0 : Names) (x1 : Inside) (x2 : Context) (x3 : ℕ) (x4 : Scalar) (x5 : Expr) → SpendsInside which x1 → Spends which (maybe-part which) 0 (value_at x0 x1 x2 x3 x4 x5)
unfolding value_at
s-value_at which names level here at s e h1 =
    s-bind which (maybe-known which) (maybe-part which) 0 0 _ (expr names level here wanted.Other e) _ (s-le which (maybe-known which) _ _ _ (s-expr which names level here wanted.Other e h1) (omega arith)) (omega arith) (λ x held1.
    s-given which (with-part which) (part-measure which) 0 _ x _ held1 (omega arith) (λ item held2.
    s-le which (maybe-part which) _ _ _ (s-stored which (subtype.Scalar s) at item held2) (omega arith)))

pub s-value_of_nothing : (which : ℕ) (x0 : Names) (x1 : Inside) (x2 : Context) (x3 : ℕ) (x4 : Expr) → SpendsInside which x1 → Spends which (maybe-part which) 0 (value_of_nothing x0 x1 x2 x3 x4)
s-value_of_nothing which names level here at e h1 =
    s-where_clean-any which (part-measure which) _ (expr names level here wanted.Other e) _ (k-expr leaving names level here wanted.Other e tt h1.keeps) (λ x.
    s-given-any which (part-measure which) _ x _ (λ f.
    s-fault which (part-measure which) _ at WrongType))

pub s-return_value : (which : ℕ) (x0 : Names) (x1 : Inside) (x2 : Context) (x3 : ℕ) (x4 : Expr) (x5 : Returns) → SpendsInside which x1 → Spends which (maybe-part which) 0 (return_value x0 x1 x2 x3 x4 x5)
s-return_value which names level here at e returns.Nothing h1 = s-le which (maybe-part which) _ _ _ (s-value_of_nothing which names level here at e h1) (omega arith)
s-return_value which names level here at e (returns.Value s) h1 =
    s-bind which (maybe-part which) (maybe-part which) 0 0 _ (value_at names level here at s e) _ (s-le which (maybe-part which) _ _ _ (s-value_at which names level here at s e h1) (omega arith)) (omega arith) (λ v held1.
    s-pure which (maybe-part which) _ (option_map returned v) (let made4 = h-map (part-measure which) (part-measure which) 0 returned v held1 (λ item held2. let made3 = z-returned which item held2 in
    (made3.0, omega (arith, made3.1))) in
    (made4.0, omega (arith, made4.1))))
s-return_value which names level here at e returns.Faulty h1 =
    s-then which (maybe-part which) _ (judged_alone names level here e) _ (k-judged_alone leaving names level here e tt h1.keeps) (λ u.
    s-pure which (maybe-part which) _ None (tt, omega arith))

pub s-return_alone : (which : ℕ) (x0 : ℕ) (x1 : Returns) → Spends which (maybe-part which) 0 (return_alone x0 x1)
s-return_alone which at returns.Nothing = s-some which (part-measure which) _ (part.AStmt typed.Return) (tt, omega arith)
s-return_alone which at any1 = s-fault which (part-measure which) _ at WrongType

pub s-return_from : (which : ℕ) (x0 : Names) (x1 : Inside) (x2 : Context) (x3 : ℕ) (x4 : Option Expr) → SpendsInside which x1 → Spends which (maybe-part which) 0 (return_from x0 x1 x2 x3 x4)
s-return_from which names level here at None h1 = s-le which (maybe-part which) _ _ _ (s-return_alone which at here.returns) (omega arith)
s-return_from which names level here at (Some e) h1 = s-le which (maybe-part which) _ _ _ (s-return_value which names level here at e here.returns h1) (omega arith)

pub z-raised : (which : ℕ) (x0 : Reason) → Holds (part-measure which) 0 (raised x0)
z-raised which r = (tt, omega arith)

pub s-raise_from : (which : ℕ) (x0 : Names) (x1 : Context) (x2 : ℕ) (x3 : Option Pack) → Spends which (maybe-part which) 0 (raise_from x0 x1 x2 x3)
s-raise_from which names here at None =
    s-if which (maybe-part which) _ here.in_handler (some (part.AStmt typed.Reraise)) (fault at NotVisible)
    (s-some which (part-measure which) _ (part.AStmt typed.Reraise) (tt, omega arith))
    (s-fault which (part-measure which) _ at NotVisible)
s-raise_from which names here at (Some p) =
    s-then which (maybe-part which) _ (exception names here p) _ (k-exception leaving names here p tt) (λ r.
    s-pure which (maybe-part which) _ (option_map raised r) (let made4 = h-map-any (part-measure which) 0 raised r (λ item. let made3 = z-raised which item in
    (made3.0, omega (arith, made3.1))) in
    (made4.0, omega (arith, made4.1))))

pub z-with_elsif : (which : ℕ) (x0 : TypedPart) (x1 : TypedPart) (x2 : TypedPart) → (part-measure which).Whole x0 → (part-measure which).Whole x1 → (part-measure which).Whole x2 → Holds (part-measure which) (part-size which x0 + part-size which x1 + part-size which x2) (with_elsif x0 x1 x2)
z-with_elsif which c made ss h0 h1 h2 = (((h0, h2), h1), omega arith)

pub z-with_elsif_if : (which : ℕ) (x0 : Option TypedPart) (x1 : Option TypedPart) (x2 : Option TypedPart) → (maybe-part which).Whole x0 → (maybe-part which).Whole x1 → (maybe-part which).Whole x2 → Holds (maybe-part which) ((maybe-part which).size x0 + (maybe-part which).size x1 + (maybe-part which).size x2) (with_elsif_if x0 x1 x2)
z-with_elsif_if which made (Some c) ss h0 h1 h2 =
    let made4 = h-joined (part-measure which) (part-measure which) (part-measure which) (part-size which c) (with_elsif c) made ss h0 h2 (λ one held1 other held2. let made3 = z-with_elsif which c one other h1 held1 held2 in
    (made3.0, omega (arith, made3.1))) in
    (made4.0, omega (arith, made4.1))
z-with_elsif_if which xs None ss h0 h1 h2 = (tt, omega arith)

pub s-elsifs : (which : ℕ) (x0 : Around) (x1 : Context) (x2 : Option TypedPart) (x3 : Arms) → SpendsAround which x0 → (maybe-part which).Whole x2 → Spends which (maybe-part which) ((maybe-part which).size x2) (elsifs x0 x1 x2 x3)
s-elsifs which a here made syntax.NoArm h0 h2 = s-pure which (maybe-part which) _ made (h2, omega arith)
s-elsifs which a here made (syntax.AlsoArm (syntax.arm at e s) xs) h0 h2 =
    s-bind which (maybe-part which) (maybe-part which) 0 ((maybe-part which).size made) _ (condition a.names a.level here e) _ (s-le which (maybe-part which) _ _ _ (s-condition which a.names a.level here e h0.level) (omega arith)) (omega arith) (λ c held1.
    s-bind which (maybe-part which) (maybe-part which) 0 ((maybe-part which).size made + (maybe-part which).size c) _ (stmts a here s) _ (s-le which (maybe-part which) _ _ _ (s-stmts which a here s h0) (omega arith)) (omega arith) (λ ss held2.
    let made3 = z-with_elsif_if which made c ss h2 held1 held2 in
    s-le which (maybe-part which) _ _ _ (s-elsifs which a here (with_elsif_if made c ss) xs h0 made3.0) (omega (arith, made3.1))))

pub s-otherwise_where : (which : ℕ) (x0 : Around) (x1 : Context) (x2 : OptionalStmts) → SpendsAround which x0 → Spends which (maybe-part which) 0 (otherwise_where x0 x1 x2)
s-otherwise_where which a here syntax.AbsentStmts h0 = s-some which (part-measure which) _ no_stmts (tt, omega arith)
s-otherwise_where which a here (syntax.PresentStmts s) h0 = s-le which (maybe-part which) _ _ _ (s-stmts which a here s h0) (omega arith)

pub z-if_stmt_part : (which : ℕ) (x0 : TypedPart) (x1 : TypedPart) (x2 : TypedPart) (x3 : TypedPart) → (part-measure which).Whole x0 → (part-measure which).Whole x1 → (part-measure which).Whole x2 → (part-measure which).Whole x3 → Holds (part-measure which) (part-size which x0 + part-size which x1 + part-size which x2 + part-size which x3) (if_stmt_part x0 x1 x2 x3)
z-if_stmt_part which c ss xs o h0 h1 h2 h3 = (tt, omega (arith, n-expr which c, n-stmts which ss, n-stmts which (nested_stmts xs o), n-nested_stmts which xs o))

pub s-if_stmt_made : (which : ℕ) (x0 : Option TypedPart) (x1 : Option TypedPart) (x2 : TypedPart) (x3 : TypedPart) → (maybe-part which).Whole x0 → (maybe-part which).Whole x1 → (part-measure which).Whole x2 → (part-measure which).Whole x3 → Spends which (maybe-part which) ((maybe-part which).size x0 + (maybe-part which).size x1 + part-size which x2 + part-size which x3) (if_stmt_made x0 x1 x2 x3)
s-if_stmt_made which xs ys c ss h0 h1 h2 h3 =
    s-pure which (maybe-part which) _ (joined (if_stmt_part c ss) xs ys) (let made4 = h-joined (part-measure which) (part-measure which) (part-measure which) (part-size which c + part-size which ss) (if_stmt_part c ss) xs ys h0 h1 (λ one held1 other held2. let made3 = z-if_stmt_part which c ss one other h2 h3 held1 held2 in
    (made3.0, omega (arith, made3.1))) in
    (made4.0, omega (arith, made4.1)))

pub s-if_stmt : (which : ℕ) (x0 : Around) (x1 : Context) (x2 : Expr) (x3 : Stmts) (x4 : Arms) (x5 : OptionalStmts) → SpendsAround which x0 → Spends which (maybe-part which) 0 (if_stmt x0 x1 x2 x3 x4 x5)
unfolding if_stmt
s-if_stmt which a here e s more o h0 =
    s-bind which (maybe-part which) (maybe-part which) 0 0 _ (condition a.names a.level here e) _ (s-le which (maybe-part which) _ _ _ (s-condition which a.names a.level here e h0.level) (omega arith)) (omega arith) (λ c held1.
    s-bind which (maybe-part which) (maybe-part which) 0 ((maybe-part which).size c) _ (stmts a here s) _ (s-le which (maybe-part which) _ _ _ (s-stmts which a here s h0) (omega arith)) (omega arith) (λ ss held2.
    s-bind which (maybe-part which) (maybe-part which) 0 ((maybe-part which).size c + (maybe-part which).size ss) _ (elsifs a here (Some part.Nothing) more) _ (s-le which (maybe-part which) _ _ _ (s-elsifs which a here (Some part.Nothing) more h0 tt) (omega arith)) (omega arith) (λ xs held3.
    s-bind which (maybe-part which) (maybe-part which) 0 ((maybe-part which).size c + (maybe-part which).size ss + (maybe-part which).size xs) _ (otherwise_where a here o) _ (s-le which (maybe-part which) _ _ _ (s-otherwise_where which a here o h0) (omega arith)) (omega arith) (λ ys held4.
    s-both which (part-measure which) (part-measure which) (part-measure which) ((maybe-part which).size xs + (maybe-part which).size ys) _ c ss _ held1 held2 (omega arith) (λ one held5 other held6.
    s-le which (maybe-part which) _ _ _ (s-if_stmt_made which xs ys one other held3 held4 held5 held6) (omega arith))))))

pub z-with_alternative : (which : ℕ) (x0 : Choosing) (x1 : TypedPart) (x2 : TypedPart) → (part-measure which).Whole x0.mentions → (part-measure which).Whole x1 → (part-measure which).Whole x2 → Holds (part-measure which) (part-size which x0.mentions + part-size which x1 + part-size which x2) (with_alternative x0 x1 x2)
z-with_alternative which d made ss h0-mentions h1 h2 = (((λ r. omega arith), h1), omega (arith, n-exprs_of which d.mentions, n-stmts which ss))

pub z-also_alternative : (which : ℕ) (x0 : Choosing) (x1 : Option TypedPart) (x2 : Option TypedPart) → (part-measure which).Whole x0.mentions → (maybe-part which).Whole x1 → (maybe-part which).Whole x2 → Holds (maybe-part which) (part-size which x0.mentions + (maybe-part which).size x1 + (maybe-part which).size x2) (also_alternative x0 x1 x2)
unfolding also_alternative
z-also_alternative which d made ss h0-mentions h1 h2 =
    let made4 = h-joined (part-measure which) (part-measure which) (part-measure which) (part-size which d.mentions) (with_alternative d) made ss h1 h2 (λ one held1 other held2. let made3 = z-with_alternative which d one other h0-mentions held1 held2 in
    (made3.0, omega (arith, made3.1))) in
    (made4.0, omega (arith, made4.1))

pub s-alternative : (which : ℕ) (x0 : Around) (x1 : Context) (x2 : Option Kind) (x3 : Bool) (x4 : Covering) (x5 : Option TypedPart) (x6 : Alt) → SpendsAround which x0 → (maybe-part which).Whole x5 → Spends which (second-of (maybe-part which)) ((maybe-part which).size x5) (alternative x0 x1 x2 x3 x4 x5 x6)
unfolding alternative
s-alternative which a here k last c made (syntax.alt at x ys s) h0 h5 =
    s-bind which (second-of (choosing-of which)) (second-of (maybe-part which)) 0 ((maybe-part which).size made) _ (case_choices a.level here k (length ys == 0) last c no_choosing (x ∷ ys)) _ (s-le which (second-of (choosing-of which)) _ _ _ (s-case_choices which a.level here k (length ys == 0) last c no_choosing (x ∷ ys) h0.level tt) (omega arith)) (omega arith) (λ r held1.
    s-bind which (maybe-part which) (second-of (maybe-part which)) 0 (part-size which r.1.mentions + (maybe-part which).size made) _ (stmts a here s) _ (s-le which (maybe-part which) _ _ _ (s-stmts which a here s h0) (omega arith)) (omega arith) (λ ss held2.
    s-pure which (second-of (maybe-part which)) _ (r.0, also_alternative r.1 made ss) (let made3 = z-also_alternative which r.1 made ss held1 h5 held2 in
    (made3.0, omega (arith, made3.1)))))

pub s-alts : (which : ℕ) (x0 : Around) (x1 : Context) (x2 : Option Kind) (x3 : Covering) (x4 : Option TypedPart) (x5 : Alts) → SpendsAround which x0 → (maybe-part which).Whole x4 → Spends which (second-of (maybe-part which)) ((maybe-part which).size x4) (alts x0 x1 x2 x3 x4 x5)
s-alts which a here k c made syntax.NoAlt h0 h4 = s-pure which (second-of (maybe-part which)) _ (c, made) (h4, omega arith)
s-alts which a here k c made (syntax.AlsoAlt x xs) h0 h4 =
    s-bind which (second-of (maybe-part which)) (second-of (maybe-part which)) ((maybe-part which).size made) 0 _ (alternative a here k (is_last xs) c made x) _ (s-le which (second-of (maybe-part which)) _ _ _ (s-alternative which a here k (is_last xs) c made x h0 h4) (omega arith)) (omega arith) (λ r held1.
    s-le which (second-of (maybe-part which)) _ _ _ (s-alts which a here k r.0 r.1 xs h0 held1) (omega arith))

pub z-selector_of : (which : ℕ) (x0 : Scalar) (x1 : TypedPart) → (part-measure which).Whole x1 → Holds (with-part which) (part-size which x1) (selector_of x0 x1)
z-selector_of which s x h1 = (h1, omega arith)

pub s-selector : (which : ℕ) (x0 : Found) → (with-part which).Whole x0 → Spends which (maybe-known which) (part-size which x0.part) (selector x0)
s-selector which f h0 =
    s-if which (maybe-known which) _ (is_scalar f.known && not (is_modular_kind (kind_of f.known))) ((settled_found f) >>= λ e. pure (option_map (selector_of (selecting f.known)) e)) (fault (first_of f.known) WrongType)
    (s-bind which (maybe-part which) (maybe-known which) (part-size which f.part) 0 _ (settled_found f) _ (s-le which (maybe-part which) _ _ _ (s-settled_found which f h0) (omega arith)) (omega arith) (λ e held1.
    s-pure which (maybe-known which) _ (option_map (selector_of (selecting f.known)) e) (let made4 = h-map (part-measure which) (with-part which) 0 (selector_of (selecting f.known)) e held1 (λ item held2. let made3 = z-selector_of which (selecting f.known) item held2 in
    (made3.0, omega (arith, made3.1))) in
    (made4.0, omega (arith, made4.1)))))
    (s-fault which (with-part which) _ (first_of f.known) WrongType)

pub z-case_part : (which : ℕ) (x0 : Selector) (x1 : TypedPart) → (with-part which).Whole x0 → (part-measure which).Whole x1 → Holds (part-measure which) (part-size which x0.part + part-size which x1) (case_part x0 x1)
z-case_part which s xs h0 h1 = (tt, omega (arith, n-expr which s.part, n-alternatives which (turned xs) (w-turned which xs h1), n-turned which xs))

pub s-case_stmt : (which : ℕ) (x0 : Around) (x1 : Context) (x2 : ℕ) (x3 : Expr) (x4 : Alts) → SpendsAround which x0 → Spends which (maybe-part which) 0 (case_stmt x0 x1 x2 x3 x4)
unfolding case_stmt
s-case_stmt which a here at e xs h0 =
    s-bind which (maybe-known which) (maybe-part which) 0 0 _ (expr a.names a.level here wanted.Other e) _ (s-le which (maybe-known which) _ _ _ (s-expr which a.names a.level here wanted.Other e h0.level) (omega arith)) (omega arith) (λ f held1.
    s-bind which (maybe-known which) (maybe-part which) ((maybe-known which).size f) 0 _ (given f selector) _ (s-given which (with-part which) (with-part which) 0 _ f _ held1 (omega arith) (λ item held9.
    s-le which (maybe-known which) _ _ _ (s-selector which item held9) (omega arith))) (omega arith) (λ s held2.
    s-bind which (second-of (maybe-part which)) (maybe-part which) 0 ((maybe-known which).size s) _ (alts a here (selector_kind s) (record { ranges = []; faulty = false; others = false }) (Some part.Nothing) xs) _ (s-le which (second-of (maybe-part which)) _ _ _ (s-alts which a here (selector_kind s) (record { ranges = []; faulty = false; others = false }) (Some part.Nothing) xs h0 tt) (omega arith)) (omega arith) (λ r held3.
    s-then which (maybe-part which) _ (closed_where at s r.0) _ (k-closed_where leaving at s r.0) (λ u.
    s-pure which (maybe-part which) _ (joined case_part s r.1) (let made8 = h-joined (with-part which) (part-measure which) (part-measure which) 0 case_part s r.1 held2 held3 (λ one held5 other held6. let made7 = z-case_part which one other held5 held6 in
    (made7.0, omega (arith, made7.1))) in
    (made8.0, omega (arith, made8.1)))))))

pub z-for_part : (which : ℕ) (x0 : ℕ) (x1 : TypedPart) (x2 : TypedPart) → (part-measure which).Whole x1 → (part-measure which).Whole x2 → Holds (part-measure which) (part-size which x1 + part-size which x2) (for_part x0 x1 x2)
z-for_part which n i ss h1 h2 = (tt, omega (arith, n-iteration which i, n-stmts which ss))

pub z-parallel_part : (which : ℕ) (x0 : ℕ) (x1 : ℕ) (x2 : TypedPart) (x3 : TypedPart) (x4 : TypedPart) → again which (Some x1) (part-size which x2 + part-size which x3) ≤ 0 → Holds (part-measure which) (in_number which x1 + part-size which x2 + part-size which x3 + part-size which x4) (parallel_part x0 x1 x2 x3 x4)
z-parallel_part which n s i ss c late =
    let l = n-iteration which i in
    let m = n-stmts which ss in
    let more = again-more which (Some s) (in_filter which (as_iteration i) + in_stmts which (as_stmts ss)) (part-size which i + part-size which ss) (omega (arith, n-filter which (as_iteration i), l, m)) in
    (tt, omega (arith, n-chunk which c, l, m, more, late))

pub s-for_made : (which : ℕ) (x0 : ℕ) (x1 : Option ℕ) (x2 : Option TypedPart) (x3 : TypedPart) (x4 : TypedPart) → (maybe-part which).Whole x2 → (part-measure which).Whole x3 → (part-measure which).Whole x4 → again which x1 (part-size which x3 + part-size which x4) ≤ 0 → Spends which (maybe-part which) ((site-of which).size x1 + (maybe-part which).size x2 + part-size which x3 + part-size which x4) (for_made x0 x1 x2 x3 x4)
s-for_made which n None c i ss h2 h3 h4 late =
    s-some which (part-measure which) _ (for_part n i ss) (let made1 = z-for_part which n i ss h3 h4 in
    (made1.0, omega (arith, made1.1)))
s-for_made which n (Some s) c i ss h2 h3 h4 late =
    s-pure which (maybe-part which) _ (option_map (parallel_part n s i ss) c) (let made3 = h-map (part-measure which) (part-measure which) (in_number which s + part-size which i + part-size which ss) (parallel_part n s i ss) c h2 (λ item held1. let made2 = z-parallel_part which n s i ss item late in
    (made2.0, omega (arith, made2.1))) in
    (made3.0, omega (arith, made3.1)))

s-for_both : (which : ℕ) (n : ℕ) (construct : Option ℕ) (c i ss : Option TypedPart) → (maybe-part which).Whole c → (maybe-part which).Whole i → (maybe-part which).Whole ss → again which construct ((maybe-part which).size i + (maybe-part which).size ss) ≤ 0
    → Spends which (maybe-part which) ((site-of which).size construct + (maybe-part which).size c + (maybe-part which).size i + (maybe-part which).size ss) (both i ss (for_made n construct c))
s-for_both which n construct c None ss h2 h3 h4 late = s-none which (part-measure which) _
s-for_both which n construct c (Some i) None h2 h3 h4 late = s-none which (part-measure which) _
s-for_both which n construct c (Some i) (Some ss) h2 h3 h4 late = s-for_made which n construct c i ss h2 h3 h4 late

pub s-loop_entered : (which : ℕ) (x0 : Around) (x1 : Context) (x2 : OptionalParallel) (x3 : Iter) → SpendsAround which x0 → Spends which (entered-of which) 0 (loop_entered x0 x1 x2 x3)
unfolding loop_entered
s-loop_entered which a here p i h0 =
    s-bind which (first-of (entered-of which)) (entered-of which) 0 0 _ (clean (entered a.names a.level a.inner here site.Loop p i)) _ (s-clean which (entered-of which) _ (entered a.names a.level a.inner here site.Loop p i) (s-le which (entered-of which) _ _ _ (s-entered which a.names a.level a.inner here site.Loop p i h0.level h0.inner) (omega arith))) (omega arith) (λ e held1.
    s-then which (entered-of which) _ (backwards_rule e.1 e.0.construct e.0.reverse) _ (k-backwards_rule leaving e.1 e.0.construct e.0.reverse) (λ u.
    s-pure which (entered-of which) _ e.0 ((held1.0, held1.1, held1.2), omega arith)))

late-loop : (which : ℕ) (x0 : Around) (x1 : Context) (x2 : OptionalParallel) (x3 : Iter) → SpendsAround which x0 → (log : Log)
    → again which (loop_entered x0 x1 x2 x3 log).0.construct ((maybe-part which).size (loop_entered x0 x1 x2 x3 log).0.iteration + left which (loop_entered x0 x1 x2 x3 log).1) ≤ 0
unfolding loop_entered
late-loop which a here p i h0 log =
    let e = (clean (entered a.names a.level a.inner here site.Loop p i) log).0 in
    let log1 = (clean (entered a.names a.level a.inner here site.Loop p i) log).1 in
    let late = late-entered which a.names a.level a.inner here site.Loop p i h0.level h0.inner log in
    let log2 = (backwards_rule e.1 e.0.construct e.0.reverse log1).1 in
    let fall = left-falls which log1 log2 ((k-backwards_rule leaving e.1 e.0.construct e.0.reverse).at log1) in
    let more = again-more which e.0.construct ((maybe-part which).size e.0.iteration + left which log2) ((maybe-part which).size e.0.iteration + left which log1) (omega (arith, fall)) in
    omega (arith, more, late)

pub s-for_loop : (which : ℕ) (x0 : Around) (x1 : Context) (x2 : Option ℕ) (x3 : ℕ) (x4 : Stmts) (x5 : OptionalParallel) (x6 : Iter) → SpendsAround which x0 → Spends which (maybe-part which) 0 (for_loop x0 x1 x2 x3 x4 x5 x6)
unfolding for_loop
s-for_loop which a here label n s p i h0 = record {
  at = λ log.
      let one = (s-loop_entered which a here p i h0).at log in
      let e = (loop_entered a here p i log).0 in
      let log1 = (loop_entered a here p i log).1 in
      let late = late-loop which a here p i h0 log in
      let two = (s-stmts which a (in_loop a.names e.here label n) s h0).at log1 in
      let ss = (stmts a (in_loop a.names e.here label n) s log1).0 in
      let log2 = (stmts a (in_loop a.names e.here label n) s log1).1 in
      let more = again-more which e.construct ((maybe-part which).size e.iteration + (maybe-part which).size ss) ((maybe-part which).size e.iteration + left which log1) (omega (arith, two.1)) in
      let three = (s-for_both which n e.construct e.chunk e.iteration ss one.0.1 one.0.2 two.0 (omega (arith, more, late))).at log2 in
      (three.0, omega (arith, three.1, two.1, one.1));
}

pub z-loop_part : (which : ℕ) (x0 : ℕ) (x1 : TypedPart) (x2 : TypedPart) → (part-measure which).Whole x1 → (part-measure which).Whole x2 → Holds (part-measure which) (part-size which x1 + part-size which x2) (loop_part x0 x1 x2)
z-loop_part which n c ss h1 h2 = (tt, omega (arith, n-optional which c, n-stmts which ss))

pub s-loop_with : (which : ℕ) (x0 : Around) (x1 : Context) (x2 : Option ℕ) (x3 : ℕ) (x4 : Stmts) (x5 : Scheme) → SpendsAround which x0 → Spends which (maybe-part which) 0 (loop_with x0 x1 x2 x3 x4 x5)
s-loop_with which a here label n s (syntax.While at e) h0 =
    s-bind which (maybe-part which) (maybe-part which) 0 0 _ (condition a.names a.level here e) _ (s-le which (maybe-part which) _ _ _ (s-condition which a.names a.level here e h0.level) (omega arith)) (omega arith) (λ c held1.
    s-bind which (maybe-part which) (maybe-part which) 0 ((maybe-part which).size c) _ (stmts a (in_loop a.names here label n) s) _ (s-le which (maybe-part which) _ _ _ (s-stmts which a (in_loop a.names here label n) s h0) (omega arith)) (omega arith) (λ ss held2.
    s-pure which (maybe-part which) _ (joined (loop_part n) c ss) (let made6 = h-joined (part-measure which) (part-measure which) (part-measure which) 0 (loop_part n) c ss held1 held2 (λ one held3 other held4. let made5 = z-loop_part which n one other held3 held4 in
    (made5.0, omega (arith, made5.1))) in
    (made6.0, omega (arith, made6.1)))))
s-loop_with which a here label n s (syntax.For p at i) h0 = s-le which (maybe-part which) _ _ _ (s-for_loop which a here label n s (optional_parallel p) i h0) (omega arith)

pub s-loop_by : (which : ℕ) (x0 : Around) (x1 : Context) (x2 : Option ℕ) (x3 : ℕ) (x4 : Stmts) (x5 : Option Scheme) → SpendsAround which x0 → Spends which (maybe-part which) 0 (loop_by x0 x1 x2 x3 x4 x5)
s-loop_by which a here label n s None h0 =
    s-bind which (maybe-part which) (maybe-part which) 0 0 _ (stmts a (in_loop a.names here label n) s) _ (s-le which (maybe-part which) _ _ _ (s-stmts which a (in_loop a.names here label n) s h0) (omega arith)) (omega arith) (λ ss held1.
    s-pure which (maybe-part which) _ (joined (loop_part n) (Some part.Nothing) ss) (let made5 = h-joined (part-measure which) (part-measure which) (part-measure which) 0 (loop_part n) (Some part.Nothing) ss tt held1 (λ one held2 other held3. let made4 = z-loop_part which n one other held2 held3 in
    (made4.0, omega (arith, made4.1))) in
    (made5.0, omega (arith, made5.1))))
s-loop_by which a here label n s (Some by) h0 = s-le which (maybe-part which) _ _ _ (s-loop_with which a here label n s by h0) (omega arith)

pub s-loop_stmt : (which : ℕ) (x0 : Around) (x1 : Context) (x2 : Option ℕ) (x3 : Option Scheme) (x4 : Stmts) (x5 : ℕ) (x6 : Option ℕ) → SpendsAround which x0 → Spends which (maybe-part which) 0 (loop_stmt x0 x1 x2 x3 x4 x5 x6)
unfolding loop_stmt
s-loop_stmt which a here label by s last name h0 =
    s-then which (maybe-part which) _ (loop_ends a.names label last name) _ (k-loop_ends leaving a.names label last name tt) (λ u.
    s-then which (maybe-part which) _ new_loop _ (k-new_loop leaving) (λ n.
    s-le which (maybe-part which) _ _ _ (s-loop_by which a here label n s by h0) (omega arith)))

pub z-with_handler : (which : ℕ) (x0 : TypedHandled) (x1 : TypedPart) (x2 : TypedPart) → (part-measure which).Whole x1 → (part-measure which).Whole x2 → Holds (part-measure which) (part-size which x1 + part-size which x2) (with_handler x0 x1 x2)
z-with_handler which h made ss h1 h2 = (((λ r. omega arith), h1), omega (arith, n-stmts which ss))

pub z-with_handler_if : (which : ℕ) (x0 : Option TypedPart) (x1 : Option TypedHandled) (x2 : Option TypedPart) → (maybe-part which).Whole x0 → (maybe-part which).Whole x2 → Holds (maybe-part which) ((maybe-part which).size x0 + (maybe-part which).size x2) (with_handler_if x0 x1 x2)
z-with_handler_if which made (Some h) ss h0 h2 =
    let made4 = h-joined (part-measure which) (part-measure which) (part-measure which) 0 (with_handler h) made ss h0 h2 (λ one held1 other held2. let made3 = z-with_handler which h one other held1 held2 in
    (made3.0, omega (arith, made3.1))) in
    (made4.0, omega (arith, made4.1))
z-with_handler_if which xs None ss h0 h2 = (tt, omega arith)

pub s-handler : (which : ℕ) (x0 : Around) (x1 : Context) (x2 : Bool) (x3 : List Reason) (x4 : Option TypedPart) (x5 : Handler) → SpendsAround which x0 → (maybe-part which).Whole x4 → Spends which (second-of (maybe-part which)) ((maybe-part which).size x4) (handler x0 x1 x2 x3 x4 x5)
unfolding handler
s-handler which a here last seen made (syntax.handler at h s) h0 h4 =
    s-then which (second-of (maybe-part which)) _ (handled_by a.names here seen last h) _ (k-handled_by leaving a.names here seen last h tt) (λ r.
    s-bind which (maybe-part which) (second-of (maybe-part which)) 0 ((maybe-part which).size made) _ (stmts a (in_handler_of here) s) _ (s-le which (maybe-part which) _ _ _ (s-stmts which a (in_handler_of here) s h0) (omega arith)) (omega arith) (λ ss held2.
    s-pure which (second-of (maybe-part which)) _ (r.0, with_handler_if made r.1 ss) (let made3 = z-with_handler_if which made r.1 ss h4 held2 in
    (made3.0, omega (arith, made3.1)))))

pub s-handlers : (which : ℕ) (x0 : Around) (x1 : Context) (x2 : List Reason) (x3 : Option TypedPart) (x4 : Handlers) → SpendsAround which x0 → (maybe-part which).Whole x3 → Spends which (maybe-part which) ((maybe-part which).size x3) (handlers x0 x1 x2 x3 x4)
s-handlers which a here seen made syntax.NoHandler h0 h3 = s-pure which (maybe-part which) _ made (h3, omega arith)
s-handlers which a here seen made (syntax.AlsoHandler h hs) h0 h3 =
    s-bind which (second-of (maybe-part which)) (maybe-part which) ((maybe-part which).size made) 0 _ (handler a here (is_last_handler hs) seen made h) _ (s-le which (second-of (maybe-part which)) _ _ _ (s-handler which a here (is_last_handler hs) seen made h h0 h3) (omega arith)) (omega arith) (λ r held1.
    s-le which (maybe-part which) _ _ _ (s-handlers which a here r.0 r.1 hs h0 held1) (omega arith))

pub z-body_part : (which : ℕ) (x0 : TypedPart) (x1 : TypedPart) (x2 : TypedPart) → (part-measure which).Whole x0 → (part-measure which).Whole x1 → (part-measure which).Whole x2 → Holds (part-measure which) (part-size which x0 + part-size which x1 + part-size which x2) (body_part x0 x1 x2)
z-body_part which ds ss hs h0 h1 h2 = (tt, omega (arith, n-decls which (turned ds) (w-turned which ds h0), n-turned which ds, n-stmts which ss, n-handlers which (turned hs) (w-turned which hs h2), n-turned which hs))

pub z-block_part : (which : ℕ) (b : TypedPart) → (part-measure which).Whole b → Holds (part-measure which) (part-size which b) (block_part b)
z-block_part which b h = (tt, omega (arith, n-body which b))

pub s-body_made : (which : ℕ) (x0 : Option TypedPart) (x1 : Option TypedPart) (x2 : TypedPart) → (maybe-part which).Whole x0 → (maybe-part which).Whole x1 → (part-measure which).Whole x2 → Spends which (maybe-part which) ((maybe-part which).size x0 + (maybe-part which).size x1 + part-size which x2) (body_made x0 x1 x2)
s-body_made which ss hs ds h0 h1 h2 =
    s-pure which (maybe-part which) _ (joined (body_part ds) ss hs) (let made4 = h-joined (part-measure which) (part-measure which) (part-measure which) (part-size which ds) (body_part ds) ss hs h0 h1 (λ one held1 other held2. let made3 = z-body_part which ds one other h2 held1 held2 in
    (made3.0, omega (arith, made3.1))) in
    (made4.0, omega (arith, made4.1)))

pub s-body : (which : ℕ) (x0 : Around) (x1 : Context) (x2 : Option TypedPart) (x3 : Body) → SpendsAround which x0 → (maybe-part which).Whole x2 → Spends which (maybe-part which) ((maybe-part which).size x2) (body x0 x1 x2 x3)
unfolding body
s-body which a here ds (syntax.body s hs) h0 h2 =
    s-bind which (maybe-part which) (maybe-part which) 0 ((maybe-part which).size ds) _ (stmts a here s) _ (s-le which (maybe-part which) _ _ _ (s-stmts which a here s h0) (omega arith)) (omega arith) (λ ss held1.
    s-bind which (maybe-part which) (maybe-part which) 0 ((maybe-part which).size ds + (maybe-part which).size ss) _ (handlers a here [] (Some part.Nothing) hs) _ (s-le which (maybe-part which) _ _ _ (s-handlers which a here [] (Some part.Nothing) hs h0 tt) (omega arith)) (omega arith) (λ xs held2.
    s-given which (part-measure which) (part-measure which) ((maybe-part which).size ss + (maybe-part which).size xs) _ ds _ h2 (omega arith) (λ item held3.
    s-le which (maybe-part which) _ _ _ (s-body_made which ss xs item held1 held2 held3) (omega arith))))

pub s-block_of : (which : ℕ) (x0 : Around) (x1 : Context) (x2 : Option TypedPart) (x3 : Body) → SpendsAround which x0 → (maybe-part which).Whole x2 → Spends which (maybe-part which) ((maybe-part which).size x2) (block_of x0 x1 x2 x3)
s-block_of which a here ds b h0 h2 =
    s-bind which (maybe-part which) (maybe-part which) ((maybe-part which).size ds) 0 _ (body a here ds b) _ (s-le which (maybe-part which) _ _ _ (s-body which a here ds b h0 h2) (omega arith)) (omega arith) (λ x held1.
    s-pure which (maybe-part which) _ (option_map block_part x) (let made4 = h-map (part-measure which) (part-measure which) 0 block_part x held1 (λ item held2. let made3 = z-block_part which item held2 in
    (made3.0, omega (arith, made3.1))) in
    (made4.0, omega (arith, made4.1))))

pub s-block : (which : ℕ) (x0 : Around) (x1 : Context) (x2 : Option Declare) (x3 : Body) → SpendsAround which x0 → Spends which (maybe-part which) 0 (block x0 x1 x2 x3)
unfolding block
s-block which a here d b h0 =
    s-bind which (second-of (maybe-part which)) (maybe-part which) 0 0 _ (declarations a.names a.level (length here.scope) here (Some no_decls) (block_decls d)) _ (s-le which (second-of (maybe-part which)) _ _ _ (s-declarations which a.names a.level (length here.scope) here (Some no_decls) (block_decls d) h0.level tt) (omega arith)) (omega arith) (λ r held1.
    s-le which (maybe-part which) _ _ _ (s-block_of which a r.0 r.1 b h0 held1) (omega arith))

pub s-count_where : (which : ℕ) (x0 : Inside) (x1 : Context) (x2 : Option Simple) → SpendsInside which x0 → Spends which (maybe-part which) 0 (count_where x0 x1 x2)
s-count_where which inner here None h0 = s-some which (part-measure which) _ part.Nothing (tt, omega arith)
s-count_where which inner here (Some s) h0 = s-le which (maybe-part which) _ _ _ (s-chunk_count which inner here s h0) (omega arith)

pub z-with_arm : (which : ℕ) (x0 : TypedPart) (x1 : TypedPart) → (part-measure which).Whole x0 → (part-measure which).Whole x1 → Holds (part-measure which) (part-size which x0 + part-size which x1) (with_arm x0 x1)
z-with_arm which made ss h0 h1 = ((h1, h0), omega arith)

pub s-branches : (which : ℕ) (x0 : Around) (x1 : Context) (x2 : Option TypedPart) (x3 : Branches) → SpendsAround which x0 → (maybe-part which).Whole x2 → Spends which (maybe-part which) ((maybe-part which).size x2) (branches x0 x1 x2 x3)
s-branches which a here made syntax.NoBranch h0 h2 = s-pure which (maybe-part which) _ made (h2, omega arith)
s-branches which a here made (syntax.AlsoBranch s ss) h0 h2 =
    s-bind which (maybe-part which) (maybe-part which) 0 ((maybe-part which).size made) _ (stmts a here s) _ (s-le which (maybe-part which) _ _ _ (s-stmts which a here s h0) (omega arith)) (omega arith) (λ x held1.
    let made5 = h-joined (part-measure which) (part-measure which) (part-measure which) 0 with_arm made x h2 held1 (λ one held2 other held3. let made4 = z-with_arm which one other held2 held3 in
    (made4.0, omega (arith, made4.1))) in
    s-le which (maybe-part which) _ _ _ (s-branches which a here (joined with_arm made x) ss h0 made5.0) (omega (arith, made5.1)))

pub z-arms_part : (which : ℕ) (x0 : ℕ) (x1 : TypedPart) (x2 : TypedPart) → again which (Some x0) (part-size which x2) ≤ 0 → Holds (part-measure which) (in_number which x0 + part-size which x1 + part-size which x2) (arms_part x0 x1 x2)
z-arms_part which n c xs late =
    let l : in_arms which (as_arms (turned xs)) ≤ part-size which xs = omega (arith, n-arms which (turned xs), n-turned which xs) in
    let more = again-more which (Some n) (in_arms which (as_arms (turned xs))) (part-size which xs) l in
    (tt, omega (arith, n-optional which c, l, more, late))

arms-joined : (which : ℕ) (n : ℕ) (c xs : Option TypedPart) → again which (Some n) ((maybe-part which).size xs) ≤ 0 → Holds (maybe-part which) (in_number which n + (maybe-part which).size c + (maybe-part which).size xs) (joined (arms_part n) c xs)
arms-joined which n None xs late = (tt, omega arith)
arms-joined which n (Some c) None late = (tt, omega arith)
arms-joined which n (Some c) (Some xs) late = z-arms_part which n c xs late

pub s-parallel : (which : ℕ) (x0 : Around) (x1 : Context) (x2 : ℕ) (x3 : Option Simple) (x4 : Branches) → SpendsAround which x0 → Spends which (maybe-part which) 0 (parallel x0 x1 x2 x3 x4)
unfolding parallel
s-parallel which a here token e ss h0 = record {
  at = λ log.
      let zero' = (s-new_site which here token (site.Block (branch_count ss))).at log in
      let n = length log.sites in
      let log1 = (new_site here token (site.Block (branch_count ss)) log).1 in
      let one = (s-count_where which a.inner here e h0.inner).at log1 in
      let c = (count_where a.inner here e log1).0 in
      let log2 = (count_where a.inner here e log1).1 in
      let two = (s-branches which a (in_threads a.names here n) (Some part.Nothing) ss h0 tt).at log2 in
      let xs = (branches a (in_threads a.names here n) (Some part.Nothing) ss log2).0 in
      let log3 = (branches a (in_threads a.names here n) (Some part.Nothing) ss log2).1 in
      let fall = left-falls which log3 (arm_limit token (branch_count ss) log3).1 ((k-arm_limit leaving token (branch_count ss)).at log3) in
      let lt : n < length log1.sites = number-next here token (site.Block (branch_count ss)) log in
      let made = arms-joined which n c xs (again-none which n _ (λ l. omega (arith, two.1, one.1, left-given which n log1 lt l))) in
      (made.0, omega (arith, made.1, fall, two.1, one.1, zero'.1));
}

pub s-stmt_form : (which : ℕ) (x0 : Around) (x1 : Context) (x2 : Stmt) → SpendsAround which x0 → Spends which (maybe-part which) 0 (stmt_form x0 x1 x2)
s-stmt_form which a here (syntax.Null at) h0 = s-some which (part-measure which) _ (part.AStmt typed.Null) (tt, omega arith)
s-stmt_form which a here (syntax.Assign n e) h0 = s-le which (maybe-part which) _ _ _ (s-assign which a.names a.level here n e h0.level) (omega arith)
s-stmt_form which a here (syntax.CallStmt n) h0 = s-le which (maybe-part which) _ _ _ (s-call_stmt which a.names a.level here n h0.level) (omega arith)
s-stmt_form which a here (syntax.Exit at from e) h0 = s-le which (maybe-part which) _ _ _ (s-exit_from which a.names a.level here at from e h0.level) (omega arith)
s-stmt_form which a here (syntax.Return at e) h0 = s-le which (maybe-part which) _ _ _ (s-return_from which a.names a.level here at e h0.level) (omega arith)
s-stmt_form which a here (syntax.Raise at p) h0 = s-le which (maybe-part which) _ _ _ (s-raise_from which a.names here at p) (omega arith)
s-stmt_form which a here (syntax.IfStmt at e s more o) h0 = s-le which (maybe-part which) _ _ _ (s-if_stmt which a here e s more o h0) (omega arith)
s-stmt_form which a here (syntax.Case at e x xs) h0 = s-le which (maybe-part which) _ _ _ (s-case_stmt which a here at e (syntax.AlsoAlt x xs) h0) (omega arith)
s-stmt_form which a here (syntax.Loop label by at s last name) h0 = s-le which (maybe-part which) _ _ _ (s-loop_stmt which a here label by s last name h0) (omega arith)
s-stmt_form which a here (syntax.Block d at b) h0 = s-le which (maybe-part which) _ _ _ (s-block which a here d b h0) (omega arith)
s-stmt_form which a here (syntax.ParallelBlock at e s t more) h0 = s-le which (maybe-part which) _ _ _ (s-parallel which a here at e (syntax.AlsoBranch s (syntax.AlsoBranch t more)) h0) (omega arith)

pub s-stmt : (which : ℕ) (names : Names) (n : ℕ) (here : Context) (s : Stmt) → Spends which (maybe-part which) 0 (stmt names n here s)
unfolding stmt
s-stmt which names zero here s = s-fault which (part-measure which) 0 (first_token.of_stmt s) (Limit bound.Levels)
s-stmt which names (suc n) here s = s-stmt_form which (around names n (stmt names n)) here s (record {
  keeps = k-around leaving-wide names n tt;
  level = spends-level_above which names (inside names n) (spends-inside which names n);
  inner = spends-inside which names n;
  within = λ there x. s-stmt which names n there x;
})

pub spends-around : (which : ℕ) (names : Names) (n : ℕ) → SpendsAround which (around names n (stmt names n))
spends-around which names n = record {
  keeps = k-around leaving-wide names n tt;
  level = spends-level_above which names (inside names n) (spends-inside which names n);
  inner = spends-inside which names n;
  within = λ here x. s-stmt which names n here x;
}
