-- Statements leave what is right, where what is around them is right.
use Rattle.ada_base.specs.declared.reason.Reason.{Reason}
use Rattle.name_rules.specs.Cases.{Covering, case_choices, handled_by}
use Rattle.name_rules.specs.Declarations.{declarations}
use Rattle.name_rules.specs.Expressions.{condition, expr}
use Rattle.syntax_tree.specs.FirstTokens as first_token
use Rattle.name_rules.specs.Iterations.{entered}
use Rattle.name_rules.specs.Parts.{name, new_site}
use Rattle.name_rules.specs.Primaries.{inside}
use Rattle.name_rules.specs.declared.log.Bound.TheVariants as bound
use Rattle.name_rules.specs.declared.log.Rule.TheVariants.{Limit}
use Rattle.name_rules.specs.declared.log.Log.{Log}
use Rattle.name_rules.specs.declared.scope.Context.{Context}
use Rattle.name_rules.specs.declared.scope.Names.{Names}
use Rattle.name_rules.specs.declared.types.Kind.{Kind}
use Rattle.name_rules.specs.declared.types.Wanted.TheVariants as wanted
use Rattle.syntax_tree.specs.Syntax as syntax
use Rattle.syntax_tree.specs.Syntax.{Alt, Alts, Arms, Body, Branches, Declare, Expr, Handler, Handlers, Iter, MoreStmts, OptionalParallel, OptionalStmts, Scheme, Simple, Stmt, Stmts}
use Rattle.typed_tree.specs.Decoded as part
use Rattle.typed_tree.specs.Syntax as typed
use Rattle.typed_tree.specs.declared.program.SiteKind.TheVariants as site
use Rattle.std.specs.Prelude.{Bool, List, None, Option, Some, [], false, length, option_map, suc, zero, ℕ, ◌==◌, ◌∷◌}
use Rattle.typed_tree.specs.Decoded.{TypedPart}
use Rattle.typed_tree.specs.Latest.{turned}
use Rattle.name_rules.specs.Judging.{clean, given, joined, pure}
use Rattle.name_rules.specs.Statements.{Around, with_stmt, no_stmts, stmts_from, stmts, with_elsif_if, elsifs, otherwise_where, if_stmt_made, if_stmt, is_last, no_choosing, alternative, alts, selector, selector_kind, case_stmt, loop_ends, new_loop, in_loop, for_made, loop_entered, for_loop, loop_part, optional_parallel, loop_with, loop_by, loop_stmt, in_handler_of, is_last_handler, handler, handlers, block_part, body_made, body, no_decls, block_decls, block_of, block, count_where, with_arm, branches, branch_count, in_threads, parallel, stmt_form, around, stmt}
use Rattle.name_laws.proofs.Walk.{Keeps, k-pure, k-some, k-bind, k-fault, k-given, k-both, k-clean}
use Rattle.name_laws.proofs.KeepsCases.{k-case_choices, k-handled_by}
use Rattle.name_laws.proofs.KeepsExpressions.{k-condition, k-expr}
use Rattle.name_laws.proofs.KeepsIterations.{k-entered}
use Rattle.name_laws.proofs.KeepsParts.{k-new_site}
use Rattle.name_laws.proofs.KeepsPrimaries.{k-inside, k-level_above}
use Rattle.name_laws.proofs.CellsDeclared.{NamesRight}
use Rattle.name_laws.proofs.EndsParts.{level-named}
use Rattle.std.proofs.Common.{arith}
use Rattle.name_laws.proofs.CellsAround.{entered-right}
use Rattle.name_laws.proofs.CellsGrown.{extending}
use Rattle.name_laws.proofs.CellsObjects.{declarations-leaves}
use Rattle.name_laws.proofs.CellsSound.{AreRight, are_later, minding, next_joined}
use Rattle.name_laws.proofs.KeepsStatements.{k-for_made, k-arm_limit, k-assign, k-backwards_rule, k-body_made, k-call_stmt, k-closed_where, k-count_where, k-exit_from, k-if_stmt_made, k-loop_ends, k-new_loop, k-raise_from, k-return_from, k-selector}
use Rattle.name_laws.proofs.Walked.{KeepsInside}

-- what judges statements keeps logs right
pub record Minds (a : Around) : Type 0 where
  pub level : (known : ℕ) → KeepsInside (minding known) a.level
  pub extends : KeepsInside extending a.level
  pub named : NamesRight a.level
  pub inner : (known : ℕ) → KeepsInside (minding known) a.inner
  pub within : (known : ℕ) (here : Context) → AreRight known here.scope → (s : Stmt) → Keeps (minding known) (a.within here s)

c-stmts_from : (known : ℕ) (x0 : Around) (x1 : Context) (x2 : Option TypedPart) (x3 : MoreStmts) → Minds x0 → AreRight known x1.scope → Keeps (minding known) (stmts_from x0 x1 x2 x3)
c-stmts_from known a here made syntax.NoStmt keeps1 right = k-pure (minding known) made
c-stmts_from known a here made (syntax.AlsoStmt s ss) keeps1 right = k-bind (minding known) (a.within here s) (λ x. stmts_from a here (joined with_stmt made x) ss) (keeps1.within known here right s) (λ x. c-stmts_from known a here (joined with_stmt made x) ss keeps1 right)

c-stmts : (known : ℕ) (x0 : Around) (x1 : Context) (x2 : Stmts) → Minds x0 → AreRight known x1.scope → Keeps (minding known) (stmts x0 x1 x2)
unfolding stmts
c-stmts known a here (syntax.stmts s ss) keeps1 right = k-bind (minding known) (stmts_from a here (Some no_stmts) (syntax.AlsoStmt s ss)) (λ x. pure (option_map turned x)) (c-stmts_from known a here (Some no_stmts) (syntax.AlsoStmt s ss) keeps1 right) (λ x. k-pure (minding known) (option_map turned x))

c-elsifs : (known : ℕ) (x0 : Around) (x1 : Context) (x2 : Option TypedPart) (x3 : Arms) → Minds x0 → AreRight known x1.scope → Keeps (minding known) (elsifs x0 x1 x2 x3)
c-elsifs known a here made syntax.NoArm keeps1 right = k-pure (minding known) made
c-elsifs known a here made (syntax.AlsoArm (syntax.arm at e s) xs) keeps1 right = record {
  at = λ log.
      let out1 = condition a.names a.level here e log in
      let c = out1.0 in
      let out2 = stmts a here s out1.1 in
      let ss = out2.0 in
      next_joined known _ _ _ ((k-condition (minding known) a.names a.level here e tt (keeps1.level known)).at log)
      (next_joined known _ _ _ ((c-stmts known a here s keeps1 right).at out1.1)
      ((c-elsifs known a here (with_elsif_if made c ss) xs keeps1 right).at out2.1));
}

c-otherwise_where : (known : ℕ) (x0 : Around) (x1 : Context) (x2 : OptionalStmts) → Minds x0 → AreRight known x1.scope → Keeps (minding known) (otherwise_where x0 x1 x2)
c-otherwise_where known a here syntax.AbsentStmts keeps1 right = k-some (minding known) no_stmts
c-otherwise_where known a here (syntax.PresentStmts s) keeps1 right = c-stmts known a here s keeps1 right

c-if_stmt : (known : ℕ) (x0 : Around) (x1 : Context) (x2 : Expr) (x3 : Stmts) (x4 : Arms) (x5 : OptionalStmts) → Minds x0 → AreRight known x1.scope → Keeps (minding known) (if_stmt x0 x1 x2 x3 x4 x5)
unfolding if_stmt
c-if_stmt known a here e s more o keeps1 right = record {
  at = λ log.
      let out1 = condition a.names a.level here e log in
      let c = out1.0 in
      let out2 = stmts a here s out1.1 in
      let ss = out2.0 in
      let out3 = elsifs a here (Some part.Nothing) more out2.1 in
      let xs = out3.0 in
      let out4 = otherwise_where a here o out3.1 in
      let ys = out4.0 in
      next_joined known _ _ _ ((k-condition (minding known) a.names a.level here e tt (keeps1.level known)).at log)
      (next_joined known _ _ _ ((c-stmts known a here s keeps1 right).at out1.1)
      (next_joined known _ _ _ ((c-elsifs known a here (Some part.Nothing) more keeps1 right).at out2.1)
      (next_joined known _ _ _ ((c-otherwise_where known a here o keeps1 right).at out3.1)
      ((k-both (minding known) c ss (if_stmt_made xs ys) (λ z5 z6. k-if_stmt_made (minding known) xs ys z5 z6)).at out4.1))));
}

c-alternative : (known : ℕ) (x0 : Around) (x1 : Context) (x2 : Option Kind) (x3 : Bool) (x4 : Covering) (x5 : Option TypedPart) (x6 : Alt) → Minds x0 → AreRight known x1.scope → Keeps (minding known) (alternative x0 x1 x2 x3 x4 x5 x6)
unfolding alternative
c-alternative known a here k last c made (syntax.alt at x ys s) keeps1 right = record {
  at = λ log.
      let out1 = case_choices a.level here k (length ys == 0) last c no_choosing (x ∷ ys) log in
      let r = out1.0 in
      next_joined known _ _ _ ((k-case_choices (minding known) a.level here k (length ys == 0) last c no_choosing (x ∷ ys) (keeps1.level known)).at log)
      ((c-stmts known a here s keeps1 right).at out1.1);
}

c-alts : (known : ℕ) (x0 : Around) (x1 : Context) (x2 : Option Kind) (x3 : Covering) (x4 : Option TypedPart) (x5 : Alts) → Minds x0 → AreRight known x1.scope → Keeps (minding known) (alts x0 x1 x2 x3 x4 x5)
c-alts known a here k c made syntax.NoAlt keeps1 right = k-pure (minding known) (c, made)
c-alts known a here k c made (syntax.AlsoAlt x xs) keeps1 right = k-bind (minding known) (alternative a here k (is_last xs) c made x) (λ r. alts a here k r.0 r.1 xs) (c-alternative known a here k (is_last xs) c made x keeps1 right) (λ r. c-alts known a here k r.0 r.1 xs keeps1 right)

c-case_stmt : (known : ℕ) (x0 : Around) (x1 : Context) (x2 : ℕ) (x3 : Expr) (x4 : Alts) → Minds x0 → AreRight known x1.scope → Keeps (minding known) (case_stmt x0 x1 x2 x3 x4)
unfolding case_stmt
c-case_stmt known a here at e xs keeps1 right = record {
  at = λ log.
      let out1 = expr a.names a.level here wanted.Other e log in
      let f = out1.0 in
      let out3 = given f selector out1.1 in
      let s = out3.0 in
      let out4 = alts a here (selector_kind s) (record { ranges = []; faulty = false; others = false }) (Some part.Nothing) xs out3.1 in
      let r = out4.0 in
      next_joined known _ _ _ ((k-expr (minding known) a.names a.level here wanted.Other e tt (keeps1.level known)).at log)
      (next_joined known _ _ _ ((k-given (minding known) f (selector) (λ z2. k-selector (minding known) z2)).at out1.1)
      (next_joined known _ _ _ ((c-alts known a here (selector_kind s) (record { ranges = []; faulty = false; others = false }) (Some part.Nothing) xs keeps1 right).at out3.1)
      ((k-closed_where (minding known) at s r.0).at out4.1)));
}

c-loop_entered : (known : ℕ) (x0 : Around) (x1 : Context) (x2 : OptionalParallel) (x3 : Iter) → Minds x0 → AreRight known x1.scope → Keeps (minding known) (loop_entered x0 x1 x2 x3)
unfolding loop_entered
c-loop_entered known a here p i keeps1 right = record {
  at = λ log.
      let out1 = clean (entered a.names a.level a.inner here site.Loop p i) log in
      let e = out1.0 in
      next_joined known _ _ _ ((k-clean (minding known) (entered a.names a.level a.inner here site.Loop p i) (k-entered (minding known) a.names a.level a.inner here site.Loop p i tt (keeps1.level known) (keeps1.inner known))).at log)
      ((k-backwards_rule (minding known) e.1 e.0.construct e.0.reverse).at out1.1);
}

loop-right : (known : ℕ) (a : Around) (here : Context) (p : OptionalParallel) (i : Iter) (log : Log) → AreRight known here.scope → AreRight known (loop_entered a here p i log).0.here.scope
unfolding loop_entered
loop-right known a here p i log h = entered-right known a.names a.level a.inner here site.Loop p i log h

c-for_loop : (known : ℕ) (x0 : Around) (x1 : Context) (x2 : Option ℕ) (x3 : ℕ) (x4 : Stmts) (x5 : OptionalParallel) (x6 : Iter) → Minds x0 → AreRight known x1.scope → Keeps (minding known) (for_loop x0 x1 x2 x3 x4 x5 x6)
unfolding for_loop
c-for_loop known a here label n s p i keeps1 right = record {
  at = λ log.
      let out1 = loop_entered a here p i log in
      let e = out1.0 in
      let out2 = stmts a (in_loop a.names e.here label n) s out1.1 in
      let ss = out2.0 in
      next_joined known _ _ _ ((c-loop_entered known a here p i keeps1 right).at log)
      (next_joined known _ _ _ ((c-stmts known a (in_loop a.names e.here label n) s keeps1 (loop-right known a here p i log right)).at out1.1)
      ((k-both (minding known) e.iteration ss (for_made n e.construct e.chunk) (λ z3 z4. k-for_made (minding known) n e.construct e.chunk z3 z4)).at out2.1));
}

c-loop_with : (known : ℕ) (x0 : Around) (x1 : Context) (x2 : Option ℕ) (x3 : ℕ) (x4 : Stmts) (x5 : Scheme) → Minds x0 → AreRight known x1.scope → Keeps (minding known) (loop_with x0 x1 x2 x3 x4 x5)
c-loop_with known a here label n s (syntax.While at e) keeps1 right = record {
  at = λ log.
      let out1 = condition a.names a.level here e log in
      let c = out1.0 in
      next_joined known _ _ _ ((k-condition (minding known) a.names a.level here e tt (keeps1.level known)).at log)
      ((c-stmts known a (in_loop a.names here label n) s keeps1 right).at out1.1);
}
c-loop_with known a here label n s (syntax.For p at i) keeps1 right = c-for_loop known a here label n s (optional_parallel p) i keeps1 right

c-loop_by : (known : ℕ) (x0 : Around) (x1 : Context) (x2 : Option ℕ) (x3 : ℕ) (x4 : Stmts) (x5 : Option Scheme) → Minds x0 → AreRight known x1.scope → Keeps (minding known) (loop_by x0 x1 x2 x3 x4 x5)
c-loop_by known a here label n s None keeps1 right = k-bind (minding known) (stmts a (in_loop a.names here label n) s) (λ ss. pure (joined (loop_part n) (Some part.Nothing) ss)) (c-stmts known a (in_loop a.names here label n) s keeps1 right) (λ ss. k-pure (minding known) (joined (loop_part n) (Some part.Nothing) ss))
c-loop_by known a here label n s (Some by) keeps1 right = c-loop_with known a here label n s by keeps1 right

c-loop_stmt : (known : ℕ) (x0 : Around) (x1 : Context) (x2 : Option ℕ) (x3 : Option Scheme) (x4 : Stmts) (x5 : ℕ) (x6 : Option ℕ) → Minds x0 → AreRight known x1.scope → Keeps (minding known) (loop_stmt x0 x1 x2 x3 x4 x5 x6)
unfolding loop_stmt
c-loop_stmt known a here label by s last name keeps1 right = record {
  at = λ log.
      let out1 = loop_ends a.names label last name log in
      let out2 = new_loop out1.1 in
      let n = out2.0 in
      next_joined known _ _ _ ((k-loop_ends (minding known) a.names label last name tt).at log)
      (next_joined known _ _ _ ((k-new_loop (minding known)).at out1.1)
      ((c-loop_by known a here label n s by keeps1 right).at out2.1));
}

c-handler : (known : ℕ) (x0 : Around) (x1 : Context) (x2 : Bool) (x3 : List Reason) (x4 : Option TypedPart) (x5 : Handler) → Minds x0 → AreRight known x1.scope → Keeps (minding known) (handler x0 x1 x2 x3 x4 x5)
unfolding handler
c-handler known a here last seen made (syntax.handler at h s) keeps1 right = record {
  at = λ log.
      let out1 = handled_by a.names here seen last h log in
      let r = out1.0 in
      next_joined known _ _ _ ((k-handled_by (minding known) a.names here seen last h tt).at log)
      ((c-stmts known a (in_handler_of here) s keeps1 right).at out1.1);
}

c-handlers : (known : ℕ) (x0 : Around) (x1 : Context) (x2 : List Reason) (x3 : Option TypedPart) (x4 : Handlers) → Minds x0 → AreRight known x1.scope → Keeps (minding known) (handlers x0 x1 x2 x3 x4)
c-handlers known a here seen made syntax.NoHandler keeps1 right = k-pure (minding known) made
c-handlers known a here seen made (syntax.AlsoHandler h hs) keeps1 right = k-bind (minding known) (handler a here (is_last_handler hs) seen made h) (λ r. handlers a here r.0 r.1 hs) (c-handler known a here (is_last_handler hs) seen made h keeps1 right) (λ r. c-handlers known a here r.0 r.1 hs keeps1 right)

pub c-body : (known : ℕ) (x0 : Around) (x1 : Context) (x2 : Option TypedPart) (x3 : Body) → Minds x0 → AreRight known x1.scope → Keeps (minding known) (body x0 x1 x2 x3)
unfolding body
c-body known a here ds (syntax.body s hs) keeps1 right = record {
  at = λ log.
      let out1 = stmts a here s log in
      let ss = out1.0 in
      let out2 = handlers a here [] (Some part.Nothing) hs out1.1 in
      let xs = out2.0 in
      next_joined known _ _ _ ((c-stmts known a here s keeps1 right).at log)
      (next_joined known _ _ _ ((c-handlers known a here [] (Some part.Nothing) hs keeps1 right).at out1.1)
      ((k-given (minding known) ds (body_made ss xs) (λ z3. k-body_made (minding known) ss xs z3)).at out2.1));
}

c-block_of : (known : ℕ) (x0 : Around) (x1 : Context) (x2 : Option TypedPart) (x3 : Body) → Minds x0 → AreRight known x1.scope → Keeps (minding known) (block_of x0 x1 x2 x3)
c-block_of known a here ds b keeps1 right = k-bind (minding known) (body a here ds b) (λ x. pure (option_map block_part x)) (c-body known a here ds b keeps1 right) (λ x. k-pure (minding known) (option_map block_part x))

c-block : (known : ℕ) (x0 : Around) (x1 : Context) (x2 : Option Declare) (x3 : Body) → Minds x0 → AreRight known x1.scope → Keeps (minding known) (block x0 x1 x2 x3)
unfolding block
c-block known a here d b keeps1 right = record {
  at = λ log. record {
    at = λ l h.
        let r = declarations a.names a.level (length here.scope) here (Some no_decls) (block_decls d) log in
        let k = declarations-leaves a.names a.level (length here.scope) here (Some no_decls) (block_decls d) log (record { minds = keeps1.level 0; extends = keeps1.extends; named = keeps1.named }) h (are_later known (length log.shapes) here.scope l right) in
        let j = ((c-block_of (length r.1.shapes) a r.0.0 r.0.1 b keeps1 k.right).at r.1).at (omega arith) k.sound in
        (omega (arith, k.longer, j.0), j.1);
  };
}

c-branches : (known : ℕ) (x0 : Around) (x1 : Context) (x2 : Option TypedPart) (x3 : Branches) → Minds x0 → AreRight known x1.scope → Keeps (minding known) (branches x0 x1 x2 x3)
c-branches known a here made syntax.NoBranch keeps1 right = k-pure (minding known) made
c-branches known a here made (syntax.AlsoBranch s ss) keeps1 right = k-bind (minding known) (stmts a here s) (λ x. branches a here (joined with_arm made x) ss) (c-stmts known a here s keeps1 right) (λ x. c-branches known a here (joined with_arm made x) ss keeps1 right)

c-parallel : (known : ℕ) (x0 : Around) (x1 : Context) (x2 : ℕ) (x3 : Option Simple) (x4 : Branches) → Minds x0 → AreRight known x1.scope → Keeps (minding known) (parallel x0 x1 x2 x3 x4)
unfolding parallel
c-parallel known a here at e ss keeps1 right = record {
  at = λ log.
      let out1 = new_site here at (site.Block (branch_count ss)) log in
      let n = out1.0 in
      let out2 = count_where a.inner here e out1.1 in
      let c = out2.0 in
      let out3 = branches a (in_threads a.names here n) (Some part.Nothing) ss out2.1 in
      let xs = out3.0 in
      next_joined known _ _ _ ((k-new_site (minding known) here at (site.Block (branch_count ss))).at log)
      (next_joined known _ _ _ ((k-count_where (minding known) a.inner here e (keeps1.inner known)).at out1.1)
      (next_joined known _ _ _ ((c-branches known a (in_threads a.names here n) (Some part.Nothing) ss keeps1 right).at out2.1)
      ((k-arm_limit (minding known) at (branch_count ss)).at out3.1)));
}

c-stmt_form : (known : ℕ) (x0 : Around) (x1 : Context) (x2 : Stmt) → Minds x0 → AreRight known x1.scope → Keeps (minding known) (stmt_form x0 x1 x2)
c-stmt_form known a here (syntax.Null at) keeps1 right = k-some (minding known) (part.AStmt typed.Null)
c-stmt_form known a here (syntax.Assign n e) keeps1 right = k-assign (minding known) a.names a.level here n e tt (keeps1.level known)
c-stmt_form known a here (syntax.CallStmt n) keeps1 right = k-call_stmt (minding known) a.names a.level here n tt (keeps1.level known)
c-stmt_form known a here (syntax.Exit at from e) keeps1 right = k-exit_from (minding known) a.names a.level here at from e tt (keeps1.level known)
c-stmt_form known a here (syntax.Return at e) keeps1 right = k-return_from (minding known) a.names a.level here at e tt (keeps1.level known)
c-stmt_form known a here (syntax.Raise at p) keeps1 right = k-raise_from (minding known) a.names here at p tt
c-stmt_form known a here (syntax.IfStmt at e s more o) keeps1 right = c-if_stmt known a here e s more o keeps1 right
c-stmt_form known a here (syntax.Case at e x xs) keeps1 right = c-case_stmt known a here at e (syntax.AlsoAlt x xs) keeps1 right
c-stmt_form known a here (syntax.Loop label by at s last name) keeps1 right = c-loop_stmt known a here label by s last name keeps1 right
c-stmt_form known a here (syntax.Block d at b) keeps1 right = c-block known a here d b keeps1 right
c-stmt_form known a here (syntax.ParallelBlock at e s t more) keeps1 right = c-parallel known a here at e (syntax.AlsoBranch s (syntax.AlsoBranch t more)) keeps1 right

minds : (names : Names) (n : ℕ) → ((known : ℕ) (here : Context) → AreRight known here.scope → (s : Stmt) → Keeps (minding known) (stmt names n here s)) → Minds (around names n (stmt names n))
minds names n f = record {
  level = λ known. k-level_above (minding known) names (inside names n) tt (k-inside (minding known) names n tt);
  extends = k-level_above extending names (inside names n) tt (k-inside extending names n tt);
  named = level-named names n;
  inner = λ known. k-inside (minding known) names n tt;
  within = f;
}

c-stmt : (known : ℕ) (names : Names) (n : ℕ) (here : Context) (s : Stmt) → AreRight known here.scope → Keeps (minding known) (stmt names n here s)
unfolding stmt
c-stmt known names zero here s right = k-fault (minding known) (first_token.of_stmt s) (Limit bound.Levels)
c-stmt known names (suc n) here s right = c-stmt_form known (around names n (stmt names n)) here s (minds names n (λ k there r x. c-stmt k names n there x r)) right

pub minds_around : (names : Names) (n : ℕ) → Minds (around names n (stmt names n))
minds_around names n = minds names n (λ known here r s. c-stmt known names n here s r)
