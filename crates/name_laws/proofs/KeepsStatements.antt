-- What holds of each line of the log holds of what Statements judges.
use Rattle.ada_base.specs.declared.reason.Reason.{Reason}
use Rattle.name_rules.specs.Cases.{Covering, case_choices, handled_by}
use Rattle.name_rules.specs.Declarations.{declarations}
use Rattle.name_rules.specs.Expressions.{Inside, condition, expr, judged_alone}
use Rattle.syntax_tree.specs.FirstTokens as first_token
use Rattle.name_rules.specs.Found.{Denoted, Found}
use Rattle.name_rules.specs.Iterations.{entered}
use Rattle.name_rules.specs.Names.{denoted_first, exception}
use Rattle.name_rules.specs.Parts.{name, new_site, valued_by}
use Rattle.name_rules.specs.Primaries.{inside}
use Rattle.name_rules.specs.Symbols.{symbol}
use Rattle.name_rules.specs.Types.{wanted_of}
use Rattle.name_rules.specs.Values.{first_of, is_scalar, settled_found, stored, is_modular_kind, kind_of}
use Rattle.name_rules.specs.declared.found.Denoted.TheVariants as denoted
use Rattle.name_rules.specs.declared.found.Denoted.{Denoted as KnownDenoted}
use Rattle.name_rules.specs.declared.found.Found.TheVariants as known
use Rattle.name_rules.specs.declared.found.ObjectName.{ObjectName}
use Rattle.name_rules.specs.Limits.{most_arms}
use Rattle.name_rules.specs.declared.log.Bound.TheVariants as bound
use Rattle.name_rules.specs.declared.log.Rule.TheVariants.{ChunkRule, Limit, NotVisible, WrongEnd, WrongType}
use Rattle.name_rules.specs.declared.scope.Context.{Context}
use Rattle.name_rules.specs.declared.scope.LoopName.{LoopName}
use Rattle.name_rules.specs.declared.scope.Names.{Names}
use Rattle.name_rules.specs.declared.scope.Returns.TheVariants as returns
use Rattle.name_rules.specs.declared.scope.Returns.{Returns}
use Rattle.name_rules.specs.declared.scope.Target.TheVariants as target
use Rattle.name_rules.specs.declared.types.Kind.{Kind}
use Rattle.name_rules.specs.declared.types.Scalar.{Scalar}
use Rattle.name_rules.specs.declared.types.Subtype.TheVariants as subtype
use Rattle.name_rules.specs.declared.types.Wanted.TheVariants as wanted
use Rattle.syntax_tree.specs.Syntax as syntax
use Rattle.syntax_tree.specs.Syntax.{Alt, Alts, Arms, Body, Branches, Declare, Expr, Handler, Handlers, Iter, MoreStmts, Name, OptionalParallel, OptionalStmts, Pack, Scheme, Simple, Stmt, Stmts}
use Rattle.typed_tree.specs.Decoded as part
use Rattle.typed_tree.specs.Syntax as typed
use Rattle.typed_tree.specs.Syntax.{Selections}
use Rattle.typed_tree.specs.declared.program.SiteKind.TheVariants as site
use Rattle.std.specs.Prelude.{Bool, List, None, Option, Some, [], false, length, nat_le, not, option_map, suc, true, zero, ℕ, ◌-◌, ◌==◌, ◌∷◌, ◌&&◌}
use Rattle.name_rules.specs.TypedParts.{selections_of}
use Rattle.typed_tree.specs.Decoded.{TypedPart}
use Rattle.typed_tree.specs.Latest.{turned}
use Rattle.name_rules.specs.Judging.{◌>>=◌, clean, fault, given, joined, pure, some}
use Rattle.name_rules.specs.Statements.{Around, with_stmt, no_stmts, stmts_from, stmts, with_target, assigned, stored_place, assigned_place, assign_place, assigned_alone, assign_other, assign_form, assign_to, assign, as_statement, call_stmt, condition_where, innermost, loop_named, loop_or, exited, exit_from, returned, value_at, value_of_nothing, return_value, return_alone, return_from, raised, raise_from, with_elsif_if, elsifs, otherwise_where, if_stmt_part, if_stmt_made, if_stmt, is_last, no_choosing, alternative, alts, selecting, Selector, selector_of, selector, closed_where, selector_kind, case_stmt, loop_ends, new_loop, in_loop, backwards_rule, for_part, parallel_part, for_made, loop_entered, for_loop, loop_part, optional_parallel, loop_with, loop_by, loop_stmt, in_handler_of, is_last_handler, handler, handlers, body_part, block_part, body_made, body, no_decls, block_decls, block_of, block, arm_limit, count_where, with_arm, branches, branch_count, in_threads, parallel, stmt_form, around, stmt}
use Rattle.name_laws.proofs.Walk.{Walk, Wide, Keeps, k-pure, k-some, k-bind, k-fault, k-breaks, k-unless, k-if, k-given, k-both, k-where_clean, k-clean}
use Rattle.name_laws.proofs.Walked.{KeepsInside, KeepsAround}
use Rattle.name_laws.proofs.KeepsCases.{k-case_choices, k-closed, k-handled_by}
use Rattle.name_laws.proofs.KeepsDeclarations.{k-declarations}
use Rattle.name_laws.proofs.KeepsExpressions.{k-condition, k-expr, k-judged_alone}
use Rattle.name_laws.proofs.KeepsIterations.{k-chunk_count, k-entered}
use Rattle.name_laws.proofs.KeepsNames.{k-exception}
use Rattle.name_laws.proofs.KeepsParts.{k-new_site, k-valued_by}
use Rattle.name_laws.proofs.KeepsPrimaries.{k-inside, k-level_above}
use Rattle.name_laws.proofs.KeepsValues.{k-settled_found, k-stored}

pub k-stmts_from : (walk : Walk) (x0 : Around) (x1 : Context) (x2 : Option TypedPart) (x3 : MoreStmts) → KeepsAround walk x0 → Keeps walk (stmts_from x0 x1 x2 x3)
k-stmts_from walk a here made syntax.NoStmt keeps1 = k-pure walk made
k-stmts_from walk a here made (syntax.AlsoStmt s ss) keeps1 = k-bind walk (a.within here s) (λ x. stmts_from a here (joined with_stmt made x) ss) (keeps1.within here s) (λ x. k-stmts_from walk a here (joined with_stmt made x) ss keeps1)

pub k-stmts : (walk : Walk) (x0 : Around) (x1 : Context) (x2 : Stmts) → KeepsAround walk x0 → Keeps walk (stmts x0 x1 x2)
unfolding stmts
k-stmts walk a here (syntax.stmts s ss) keeps1 = k-bind walk (stmts_from a here (Some no_stmts) (syntax.AlsoStmt s ss)) (λ x. pure (option_map turned x)) (k-stmts_from walk a here (Some no_stmts) (syntax.AlsoStmt s ss) keeps1) (λ x. k-pure walk (option_map turned x))

pub k-stored_place : (walk : Walk) (x0 : ObjectName) (x1 : Selections) (x2 : ℕ) (x3 : Found) → Keeps walk (stored_place x0 x1 x2 x3)
k-stored_place walk p ss at f = k-bind walk (stored p.subtype at f) (λ v. pure (option_map (assigned p ss) v)) (k-stored walk p.subtype at f) (λ v. k-pure walk (option_map (assigned p ss) v))

pub k-assigned_place : (walk : Walk) (x0 : ObjectName) (x1 : Selections) (x2 : ℕ) (x3 : Option Found) → Keeps walk (assigned_place x0 x1 x2 x3)
k-assigned_place walk p ss at x = k-if walk (not p.variable) (fault p.first WrongType) (given x (stored_place p ss at)) (k-fault walk p.first WrongType) (k-given walk x (stored_place p ss at) (λ z1. k-stored_place walk p ss at z1))

pub k-assign_place : (walk : Walk) (x0 : Names) (x1 : Inside) (x2 : Context) (x3 : ObjectName) (x4 : Selections) (x5 : Expr) → walk.Takes x0 → KeepsInside walk x1 → Keeps walk (assign_place x0 x1 x2 x3 x4 x5)
unfolding assign_place
k-assign_place walk names level here p ss e keeps1 keeps2 = k-where_clean walk (expr names level (with_target here (target.Of p.subtype)) (wanted_of p.subtype) e) (assigned_place p ss (first_token.of_expr e - 1)) (k-expr walk names level (with_target here (target.Of p.subtype)) (wanted_of p.subtype) e keeps1 keeps2) (λ z1. k-assigned_place walk p ss (first_token.of_expr e - 1) z1)

pub k-assigned_alone : (walk : Walk) (x0 : Names) (x1 : Inside) (x2 : Context) (x3 : Expr) → walk.Takes x0 → KeepsInside walk x1 → Keeps walk (assigned_alone x0 x1 x2 x3)
k-assigned_alone walk names level here e keeps1 keeps2 = k-judged_alone walk names level (with_target here target.Faulty) e keeps1 keeps2

pub k-assign_other : (walk : Walk) (x0 : Names) (x1 : Inside) (x2 : Context) (x3 : Expr) (x4 : ℕ) → walk.Takes x0 → KeepsInside walk x1 → Keeps walk (assign_other x0 x1 x2 x3 x4)
k-assign_other walk names level here e first keeps1 keeps2 = k-where_clean walk (assigned_alone names level here e) (λ u. fault first WrongType) (k-assigned_alone walk names level here e keeps1 keeps2) (λ u. k-fault walk first WrongType)

pub k-assign_form : (walk : Walk) (x0 : Names) (x1 : Inside) (x2 : Context) (x3 : Expr) (x4 : KnownDenoted) (x5 : TypedPart) → walk.Takes x0 → KeepsInside walk x1 → Keeps walk (assign_form x0 x1 x2 x3 x4 x5)
k-assign_form walk names level here e (denoted.Value (known.Object p)) x keeps1 keeps2 = k-assign_place walk names level here p (selections_of x) e keeps1 keeps2
k-assign_form walk names level here e d x keeps1 keeps2 = k-assign_other walk names level here e (denoted_first d) keeps1 keeps2

pub k-assign_to : (walk : Walk) (x0 : Names) (x1 : Inside) (x2 : Context) (x3 : Expr) (x4 : Option Denoted) → walk.Takes x0 → KeepsInside walk x1 → Keeps walk (assign_to x0 x1 x2 x3 x4)
k-assign_to walk names level here e None keeps1 keeps2 = k-bind walk (assigned_alone names level here e) (λ u. pure None) (k-assigned_alone walk names level here e keeps1 keeps2) (λ u. k-pure walk None)
k-assign_to walk names level here e (Some d) keeps1 keeps2 = k-assign_form walk names level here e d.known d.part keeps1 keeps2

pub k-assign : (walk : Walk) (x0 : Names) (x1 : Inside) (x2 : Context) (x3 : Name) (x4 : Expr) → walk.Takes x0 → KeepsInside walk x1 → Keeps walk (assign x0 x1 x2 x3 x4)
k-assign walk names level here n e keeps1 keeps2 = k-bind walk (level.name here n) (assign_to names level here e) (keeps2.name here n) (λ z2. k-assign_to walk names level here e z2 keeps1 keeps2)

pub k-as_statement : (walk : Walk) (x0 : KnownDenoted) (x1 : TypedPart) → Keeps walk (as_statement x0 x1)
k-as_statement walk (denoted.Done first) x = k-some walk x
k-as_statement walk d x = k-fault walk (denoted_first d) WrongType

pub k-call_stmt : (walk : Walk) (x0 : Names) (x1 : Inside) (x2 : Context) (x3 : Name) → walk.Takes x0 → KeepsInside walk x1 → Keeps walk (call_stmt x0 x1 x2 x3)
unfolding call_stmt
k-call_stmt walk names level here n keeps1 keeps2 = record {
  at = λ log.
      let out1 = level.name here n log in
      let d = out1.0 in
      let out3 = given d (valued_by names level here) out1.1 in
      let e = out3.0 in
      walk.joins _ _ _ ((keeps2.name here n).at log)
      (walk.joins _ _ _ ((k-given walk d (valued_by names level here) (λ z2. k-valued_by walk names level here z2 keeps1 keeps2)).at out1.1)
      ((k-given walk e (λ x. as_statement x.known x.part) (λ x. k-as_statement walk x.known x.part)).at out3.1));
}

pub k-condition_where : (walk : Walk) (x0 : Names) (x1 : Inside) (x2 : Context) (x3 : Option Expr) → walk.Takes x0 → KeepsInside walk x1 → Keeps walk (condition_where x0 x1 x2 x3)
k-condition_where walk names level here None keeps1 keeps2 = k-some walk part.Nothing
k-condition_where walk names level here (Some e) keeps1 keeps2 = k-condition walk names level here e keeps1 keeps2

pub k-loop_or : (walk : Walk) (x0 : ℕ) (x1 : Option LoopName) → Keeps walk (loop_or x0 x1)
k-loop_or walk at None = k-fault walk at NotVisible
k-loop_or walk at (Some l) = k-some walk l.number

pub k-exited : (walk : Walk) (x0 : Names) (x1 : Context) (x2 : ℕ) (x3 : Option ℕ) (x4 : Option LoopName) → walk.Takes x0 → Keeps walk (exited x0 x1 x2 x3 x4)
k-exited walk names here at from None keeps1 = k-fault walk at NotVisible
k-exited walk names here at None (Some l) keeps1 = k-some walk l.number
k-exited walk names here at (Some token) (Some l) keeps1 = k-loop_or walk token (loop_named (symbol names token) here.loops)

pub k-exit_from : (walk : Walk) (x0 : Names) (x1 : Inside) (x2 : Context) (x3 : ℕ) (x4 : Option ℕ) (x5 : Option Expr) → walk.Takes x0 → KeepsInside walk x1 → Keeps walk (exit_from x0 x1 x2 x3 x4 x5)
unfolding exit_from
k-exit_from walk names level here at from e keeps1 keeps2 = record {
  at = λ log.
      let out1 = exited names here at from (innermost here.loops) log in
      let n = out1.0 in
      walk.joins _ _ _ ((k-exited walk names here at from (innermost here.loops) keeps1).at log)
      ((k-condition_where walk names level here e keeps1 keeps2).at out1.1);
}

pub k-value_at : (walk : Walk) (x0 : Names) (x1 : Inside) (x2 : Context) (x3 : ℕ) (x4 : Scalar) (x5 : Expr) → walk.Takes x0 → KeepsInside walk x1 → Keeps walk (value_at x0 x1 x2 x3 x4 x5)
unfolding value_at
k-value_at walk names level here at s e keeps1 keeps2 = k-bind walk (expr names level here wanted.Other e) (λ x. given x (stored (subtype.Scalar s) at)) (k-expr walk names level here wanted.Other e keeps1 keeps2) (λ x. k-given walk x (stored (subtype.Scalar s) at) (λ z1. k-stored walk (subtype.Scalar s) at z1))

pub k-value_of_nothing : (walk : Walk) (x0 : Names) (x1 : Inside) (x2 : Context) (x3 : ℕ) (x4 : Expr) → walk.Takes x0 → KeepsInside walk x1 → Keeps walk (value_of_nothing x0 x1 x2 x3 x4)
k-value_of_nothing walk names level here at e keeps1 keeps2 = k-where_clean walk (expr names level here wanted.Other e) (λ x. given x (λ f. fault at WrongType)) (k-expr walk names level here wanted.Other e keeps1 keeps2) (λ x. k-given walk x (λ f. fault at WrongType) (λ f. k-fault walk at WrongType))

pub k-return_value : (walk : Walk) (x0 : Names) (x1 : Inside) (x2 : Context) (x3 : ℕ) (x4 : Expr) (x5 : Returns) → walk.Takes x0 → KeepsInside walk x1 → Keeps walk (return_value x0 x1 x2 x3 x4 x5)
k-return_value walk names level here at e returns.Nothing keeps1 keeps2 = k-value_of_nothing walk names level here at e keeps1 keeps2
k-return_value walk names level here at e (returns.Value s) keeps1 keeps2 = k-bind walk (value_at names level here at s e) (λ v. pure (option_map returned v)) (k-value_at walk names level here at s e keeps1 keeps2) (λ v. k-pure walk (option_map returned v))
k-return_value walk names level here at e returns.Faulty keeps1 keeps2 = k-bind walk (judged_alone names level here e) (λ u. pure None) (k-judged_alone walk names level here e keeps1 keeps2) (λ u. k-pure walk None)

pub k-return_alone : (walk : Walk) (x0 : ℕ) (x1 : Returns) → Keeps walk (return_alone x0 x1)
k-return_alone walk at returns.Nothing = k-some walk (part.AStmt typed.Return)
k-return_alone walk at _ = k-fault walk at WrongType

pub k-return_from : (walk : Walk) (x0 : Names) (x1 : Inside) (x2 : Context) (x3 : ℕ) (x4 : Option Expr) → walk.Takes x0 → KeepsInside walk x1 → Keeps walk (return_from x0 x1 x2 x3 x4)
k-return_from walk names level here at None keeps1 keeps2 = k-return_alone walk at here.returns
k-return_from walk names level here at (Some e) keeps1 keeps2 = k-return_value walk names level here at e here.returns keeps1 keeps2

pub k-raise_from : (walk : Walk) (x0 : Names) (x1 : Context) (x2 : ℕ) (x3 : Option Pack) → walk.Takes x0 → Keeps walk (raise_from x0 x1 x2 x3)
k-raise_from walk names here at None keeps1 = k-if walk (here.in_handler) (some (part.AStmt typed.Reraise)) (fault at NotVisible) (k-some walk (part.AStmt typed.Reraise)) (k-fault walk at NotVisible)
k-raise_from walk names here at (Some p) keeps1 = k-bind walk (exception names here p) (λ r. pure (option_map raised r)) (k-exception walk names here p keeps1) (λ r. k-pure walk (option_map raised r))

pub k-elsifs : (walk : Walk) (x0 : Around) (x1 : Context) (x2 : Option TypedPart) (x3 : Arms) → KeepsAround walk x0 → Keeps walk (elsifs x0 x1 x2 x3)
k-elsifs walk a here made syntax.NoArm keeps1 = k-pure walk made
k-elsifs walk a here made (syntax.AlsoArm (syntax.arm at e s) xs) keeps1 = record {
  at = λ log.
      let out1 = condition a.names a.level here e log in
      let c = out1.0 in
      let out2 = stmts a here s out1.1 in
      let ss = out2.0 in
      walk.joins _ _ _ ((k-condition walk a.names a.level here e keeps1.names keeps1.level).at log)
      (walk.joins _ _ _ ((k-stmts walk a here s keeps1).at out1.1)
      ((k-elsifs walk a here (with_elsif_if made c ss) xs keeps1).at out2.1));
}

pub k-otherwise_where : (walk : Walk) (x0 : Around) (x1 : Context) (x2 : OptionalStmts) → KeepsAround walk x0 → Keeps walk (otherwise_where x0 x1 x2)
k-otherwise_where walk a here syntax.AbsentStmts keeps1 = k-some walk no_stmts
k-otherwise_where walk a here (syntax.PresentStmts s) keeps1 = k-stmts walk a here s keeps1

pub k-if_stmt_made : (walk : Walk) (x0 : Option TypedPart) (x1 : Option TypedPart) (x2 : TypedPart) (x3 : TypedPart) → Keeps walk (if_stmt_made x0 x1 x2 x3)
k-if_stmt_made walk xs ys c ss = k-pure walk (joined (if_stmt_part c ss) xs ys)

pub k-if_stmt : (walk : Walk) (x0 : Around) (x1 : Context) (x2 : Expr) (x3 : Stmts) (x4 : Arms) (x5 : OptionalStmts) → KeepsAround walk x0 → Keeps walk (if_stmt x0 x1 x2 x3 x4 x5)
unfolding if_stmt
k-if_stmt walk a here e s more o keeps1 = record {
  at = λ log.
      let out1 = condition a.names a.level here e log in
      let c = out1.0 in
      let out2 = stmts a here s out1.1 in
      let ss = out2.0 in
      let out3 = elsifs a here (Some part.Nothing) more out2.1 in
      let xs = out3.0 in
      let out4 = otherwise_where a here o out3.1 in
      let ys = out4.0 in
      walk.joins _ _ _ ((k-condition walk a.names a.level here e keeps1.names keeps1.level).at log)
      (walk.joins _ _ _ ((k-stmts walk a here s keeps1).at out1.1)
      (walk.joins _ _ _ ((k-elsifs walk a here (Some part.Nothing) more keeps1).at out2.1)
      (walk.joins _ _ _ ((k-otherwise_where walk a here o keeps1).at out3.1)
      ((k-both walk c ss (if_stmt_made xs ys) (λ z5 z6. k-if_stmt_made walk xs ys z5 z6)).at out4.1))));
}

pub k-alternative : (walk : Walk) (x0 : Around) (x1 : Context) (x2 : Option Kind) (x3 : Bool) (x4 : Covering) (x5 : Option TypedPart) (x6 : Alt) → KeepsAround walk x0 → Keeps walk (alternative x0 x1 x2 x3 x4 x5 x6)
unfolding alternative
k-alternative walk a here k last c made (syntax.alt at x ys s) keeps1 = record {
  at = λ log.
      let out1 = case_choices a.level here k (length ys == 0) last c no_choosing (x ∷ ys) log in
      let r = out1.0 in
      walk.joins _ _ _ ((k-case_choices walk a.level here k (length ys == 0) last c no_choosing (x ∷ ys) keeps1.level).at log)
      ((k-stmts walk a here s keeps1).at out1.1);
}

pub k-alts : (walk : Walk) (x0 : Around) (x1 : Context) (x2 : Option Kind) (x3 : Covering) (x4 : Option TypedPart) (x5 : Alts) → KeepsAround walk x0 → Keeps walk (alts x0 x1 x2 x3 x4 x5)
k-alts walk a here k c made syntax.NoAlt keeps1 = k-pure walk (c, made)
k-alts walk a here k c made (syntax.AlsoAlt x xs) keeps1 = k-bind walk (alternative a here k (is_last xs) c made x) (λ r. alts a here k r.0 r.1 xs) (k-alternative walk a here k (is_last xs) c made x keeps1) (λ r. k-alts walk a here k r.0 r.1 xs keeps1)

pub k-selector : (walk : Walk) (x0 : Found) → Keeps walk (selector x0)
k-selector walk f = k-if walk (is_scalar f.known && not (is_modular_kind (kind_of f.known))) ((settled_found f >>= λ e. pure (option_map (selector_of (selecting f.known)) e))) (fault (first_of f.known) WrongType) (k-bind walk (settled_found f) (λ e. pure (option_map (selector_of (selecting f.known)) e)) (k-settled_found walk f) (λ e. k-pure walk (option_map (selector_of (selecting f.known)) e))) (k-fault walk (first_of f.known) WrongType)

pub k-closed_where : (walk : Walk) (x0 : ℕ) (x1 : Option Selector) (x2 : Covering) → Keeps walk (closed_where x0 x1 x2)
k-closed_where walk at None c = k-pure walk tt
k-closed_where walk at (Some s) c = k-closed walk at s.known c

pub k-case_stmt : (walk : Walk) (x0 : Around) (x1 : Context) (x2 : ℕ) (x3 : Expr) (x4 : Alts) → KeepsAround walk x0 → Keeps walk (case_stmt x0 x1 x2 x3 x4)
unfolding case_stmt
k-case_stmt walk a here at e xs keeps1 = record {
  at = λ log.
      let out1 = expr a.names a.level here wanted.Other e log in
      let f = out1.0 in
      let out3 = given f selector out1.1 in
      let s = out3.0 in
      let out4 = alts a here (selector_kind s) (record { ranges = []; faulty = false; others = false }) (Some part.Nothing) xs out3.1 in
      let r = out4.0 in
      walk.joins _ _ _ ((k-expr walk a.names a.level here wanted.Other e keeps1.names keeps1.level).at log)
      (walk.joins _ _ _ ((k-given walk f (selector) (λ z2. k-selector walk z2)).at out1.1)
      (walk.joins _ _ _ ((k-alts walk a here (selector_kind s) (record { ranges = []; faulty = false; others = false }) (Some part.Nothing) xs keeps1).at out3.1)
      ((k-closed_where walk at s r.0).at out4.1)));
}

pub k-loop_ends : (walk : Walk) (x0 : Names) (x1 : Option ℕ) (x2 : ℕ) (x3 : Option ℕ) → walk.Takes x0 → Keeps walk (loop_ends x0 x1 x2 x3)
k-loop_ends walk names None last None keeps1 = k-pure walk tt
k-loop_ends walk names (Some label) last (Some name) keeps1 = k-unless walk (symbol names label == symbol names name) name WrongEnd
k-loop_ends walk names label last name keeps1 = k-breaks walk last WrongEnd

pub k-new_loop : (walk : Walk) → Keeps walk new_loop
k-new_loop walk = record { at = walk.loop }

pub k-backwards_rule : (walk : Walk) (x0 : Bool) (x1 : Option ℕ) (x2 : Option ℕ) → Keeps walk (backwards_rule x0 x1 x2)
k-backwards_rule walk true (Some site) (Some at) = k-breaks walk at ChunkRule
k-backwards_rule walk is_clean construct back = k-pure walk tt

pub k-for_made : (walk : Walk) (x0 : ℕ) (x1 : Option ℕ) (x2 : Option TypedPart) (x3 : TypedPart) (x4 : TypedPart) → Keeps walk (for_made x0 x1 x2 x3 x4)
k-for_made walk n None c i ss = k-some walk (for_part n i ss)
k-for_made walk n (Some s) c i ss = k-pure walk (option_map (parallel_part n s i ss) c)

pub k-loop_entered : (walk : Walk) (x0 : Around) (x1 : Context) (x2 : OptionalParallel) (x3 : Iter) → KeepsAround walk x0 → Keeps walk (loop_entered x0 x1 x2 x3)
unfolding loop_entered
k-loop_entered walk a here p i keeps1 = record {
  at = λ log.
      let out1 = clean (entered a.names a.level a.inner here site.Loop p i) log in
      let e = out1.0 in
      walk.joins _ _ _ ((k-clean walk (entered a.names a.level a.inner here site.Loop p i) (k-entered walk a.names a.level a.inner here site.Loop p i keeps1.names keeps1.level keeps1.inner)).at log)
      ((k-backwards_rule walk e.1 e.0.construct e.0.reverse).at out1.1);
}

pub k-for_loop : (walk : Walk) (x0 : Around) (x1 : Context) (x2 : Option ℕ) (x3 : ℕ) (x4 : Stmts) (x5 : OptionalParallel) (x6 : Iter) → KeepsAround walk x0 → Keeps walk (for_loop x0 x1 x2 x3 x4 x5 x6)
unfolding for_loop
k-for_loop walk a here label n s p i keeps1 = record {
  at = λ log.
      let out1 = loop_entered a here p i log in
      let e = out1.0 in
      let out2 = stmts a (in_loop a.names e.here label n) s out1.1 in
      let ss = out2.0 in
      walk.joins _ _ _ ((k-loop_entered walk a here p i keeps1).at log)
      (walk.joins _ _ _ ((k-stmts walk a (in_loop a.names e.here label n) s keeps1).at out1.1)
      ((k-both walk e.iteration ss (for_made n e.construct e.chunk) (λ z3 z4. k-for_made walk n e.construct e.chunk z3 z4)).at out2.1));
}

pub k-loop_with : (walk : Walk) (x0 : Around) (x1 : Context) (x2 : Option ℕ) (x3 : ℕ) (x4 : Stmts) (x5 : Scheme) → KeepsAround walk x0 → Keeps walk (loop_with x0 x1 x2 x3 x4 x5)
k-loop_with walk a here label n s (syntax.While at e) keeps1 = record {
  at = λ log.
      let out1 = condition a.names a.level here e log in
      let c = out1.0 in
      walk.joins _ _ _ ((k-condition walk a.names a.level here e keeps1.names keeps1.level).at log)
      ((k-stmts walk a (in_loop a.names here label n) s keeps1).at out1.1);
}
k-loop_with walk a here label n s (syntax.For p at i) keeps1 = k-for_loop walk a here label n s (optional_parallel p) i keeps1

pub k-loop_by : (walk : Walk) (x0 : Around) (x1 : Context) (x2 : Option ℕ) (x3 : ℕ) (x4 : Stmts) (x5 : Option Scheme) → KeepsAround walk x0 → Keeps walk (loop_by x0 x1 x2 x3 x4 x5)
k-loop_by walk a here label n s None keeps1 = k-bind walk (stmts a (in_loop a.names here label n) s) (λ ss. pure (joined (loop_part n) (Some part.Nothing) ss)) (k-stmts walk a (in_loop a.names here label n) s keeps1) (λ ss. k-pure walk (joined (loop_part n) (Some part.Nothing) ss))
k-loop_by walk a here label n s (Some by) keeps1 = k-loop_with walk a here label n s by keeps1

pub k-loop_stmt : (walk : Walk) (x0 : Around) (x1 : Context) (x2 : Option ℕ) (x3 : Option Scheme) (x4 : Stmts) (x5 : ℕ) (x6 : Option ℕ) → KeepsAround walk x0 → Keeps walk (loop_stmt x0 x1 x2 x3 x4 x5 x6)
unfolding loop_stmt
k-loop_stmt walk a here label by s last name keeps1 = record {
  at = λ log.
      let out1 = loop_ends a.names label last name log in
      let out2 = new_loop out1.1 in
      let n = out2.0 in
      walk.joins _ _ _ ((k-loop_ends walk a.names label last name keeps1.names).at log)
      (walk.joins _ _ _ ((k-new_loop walk).at out1.1)
      ((k-loop_by walk a here label n s by keeps1).at out2.1));
}

pub k-handler : (walk : Walk) (x0 : Around) (x1 : Context) (x2 : Bool) (x3 : List Reason) (x4 : Option TypedPart) (x5 : Handler) → KeepsAround walk x0 → Keeps walk (handler x0 x1 x2 x3 x4 x5)
unfolding handler
k-handler walk a here last seen made (syntax.handler at h s) keeps1 = record {
  at = λ log.
      let out1 = handled_by a.names here seen last h log in
      let r = out1.0 in
      walk.joins _ _ _ ((k-handled_by walk a.names here seen last h keeps1.names).at log)
      ((k-stmts walk a (in_handler_of here) s keeps1).at out1.1);
}

pub k-handlers : (walk : Walk) (x0 : Around) (x1 : Context) (x2 : List Reason) (x3 : Option TypedPart) (x4 : Handlers) → KeepsAround walk x0 → Keeps walk (handlers x0 x1 x2 x3 x4)
k-handlers walk a here seen made syntax.NoHandler keeps1 = k-pure walk made
k-handlers walk a here seen made (syntax.AlsoHandler h hs) keeps1 = k-bind walk (handler a here (is_last_handler hs) seen made h) (λ r. handlers a here r.0 r.1 hs) (k-handler walk a here (is_last_handler hs) seen made h keeps1) (λ r. k-handlers walk a here r.0 r.1 hs keeps1)

pub k-body_made : (walk : Walk) (x0 : Option TypedPart) (x1 : Option TypedPart) (x2 : TypedPart) → Keeps walk (body_made x0 x1 x2)
k-body_made walk ss hs ds = k-pure walk (joined (body_part ds) ss hs)

pub k-body : (walk : Walk) (x0 : Around) (x1 : Context) (x2 : Option TypedPart) (x3 : Body) → KeepsAround walk x0 → Keeps walk (body x0 x1 x2 x3)
unfolding body
k-body walk a here ds (syntax.body s hs) keeps1 = record {
  at = λ log.
      let out1 = stmts a here s log in
      let ss = out1.0 in
      let out2 = handlers a here [] (Some part.Nothing) hs out1.1 in
      let xs = out2.0 in
      walk.joins _ _ _ ((k-stmts walk a here s keeps1).at log)
      (walk.joins _ _ _ ((k-handlers walk a here [] (Some part.Nothing) hs keeps1).at out1.1)
      ((k-given walk ds (body_made ss xs) (λ z3. k-body_made walk ss xs z3)).at out2.1));
}

pub k-block_of : (walk : Walk) (x0 : Around) (x1 : Context) (x2 : Option TypedPart) (x3 : Body) → KeepsAround walk x0 → Keeps walk (block_of x0 x1 x2 x3)
k-block_of walk a here ds b keeps1 = k-bind walk (body a here ds b) (λ x. pure (option_map block_part x)) (k-body walk a here ds b keeps1) (λ x. k-pure walk (option_map block_part x))

pub k-block : (wide : Wide) (x0 : Around) (x1 : Context) (x2 : Option Declare) (x3 : Body) → KeepsAround wide.walk x0 → Keeps wide.walk (block x0 x1 x2 x3)
unfolding block
k-block wide a here d b keeps1 = k-bind wide.walk (declarations a.names a.level (length here.scope) here (Some no_decls) (block_decls d)) (λ r. block_of a r.0 r.1 b) (k-declarations wide a.names a.level (length here.scope) here (Some no_decls) (block_decls d) keeps1.names keeps1.level) (λ r. k-block_of wide.walk a r.0 r.1 b keeps1)

pub k-arm_limit : (walk : Walk) (x0 : ℕ) (x1 : ℕ) → Keeps walk (arm_limit x0 x1)
k-arm_limit walk at n = k-unless walk (nat_le n most_arms) at (Limit bound.Arms)

pub k-count_where : (walk : Walk) (x0 : Inside) (x1 : Context) (x2 : Option Simple) → KeepsInside walk x0 → Keeps walk (count_where x0 x1 x2)
k-count_where walk inner here None keeps1 = k-some walk part.Nothing
k-count_where walk inner here (Some s) keeps1 = k-chunk_count walk inner here s keeps1

pub k-branches : (walk : Walk) (x0 : Around) (x1 : Context) (x2 : Option TypedPart) (x3 : Branches) → KeepsAround walk x0 → Keeps walk (branches x0 x1 x2 x3)
k-branches walk a here made syntax.NoBranch keeps1 = k-pure walk made
k-branches walk a here made (syntax.AlsoBranch s ss) keeps1 = k-bind walk (stmts a here s) (λ x. branches a here (joined with_arm made x) ss) (k-stmts walk a here s keeps1) (λ x. k-branches walk a here (joined with_arm made x) ss keeps1)

pub k-parallel : (walk : Walk) (x0 : Around) (x1 : Context) (x2 : ℕ) (x3 : Option Simple) (x4 : Branches) → KeepsAround walk x0 → Keeps walk (parallel x0 x1 x2 x3 x4)
unfolding parallel
k-parallel walk a here at e ss keeps1 = record {
  at = λ log.
      let out1 = new_site here at (site.Block (branch_count ss)) log in
      let n = out1.0 in
      let out2 = count_where a.inner here e out1.1 in
      let c = out2.0 in
      let out3 = branches a (in_threads a.names here n) (Some part.Nothing) ss out2.1 in
      let xs = out3.0 in
      walk.joins _ _ _ ((k-new_site walk here at (site.Block (branch_count ss))).at log)
      (walk.joins _ _ _ ((k-count_where walk a.inner here e keeps1.inner).at out1.1)
      (walk.joins _ _ _ ((k-branches walk a (in_threads a.names here n) (Some part.Nothing) ss keeps1).at out2.1)
      ((k-arm_limit walk at (branch_count ss)).at out3.1)));
}

pub k-stmt_form : (wide : Wide) (x0 : Around) (x1 : Context) (x2 : Stmt) → KeepsAround wide.walk x0 → Keeps wide.walk (stmt_form x0 x1 x2)
k-stmt_form wide a here (syntax.Null at) keeps1 = k-some wide.walk (part.AStmt typed.Null)
k-stmt_form wide a here (syntax.Assign n e) keeps1 = k-assign wide.walk a.names a.level here n e keeps1.names keeps1.level
k-stmt_form wide a here (syntax.CallStmt n) keeps1 = k-call_stmt wide.walk a.names a.level here n keeps1.names keeps1.level
k-stmt_form wide a here (syntax.Exit at from e) keeps1 = k-exit_from wide.walk a.names a.level here at from e keeps1.names keeps1.level
k-stmt_form wide a here (syntax.Return at e) keeps1 = k-return_from wide.walk a.names a.level here at e keeps1.names keeps1.level
k-stmt_form wide a here (syntax.Raise at p) keeps1 = k-raise_from wide.walk a.names here at p keeps1.names
k-stmt_form wide a here (syntax.IfStmt at e s more o) keeps1 = k-if_stmt wide.walk a here e s more o keeps1
k-stmt_form wide a here (syntax.Case at e x xs) keeps1 = k-case_stmt wide.walk a here at e (syntax.AlsoAlt x xs) keeps1
k-stmt_form wide a here (syntax.Loop label by at s last name) keeps1 = k-loop_stmt wide.walk a here label by s last name keeps1
k-stmt_form wide a here (syntax.Block d at b) keeps1 = k-block wide a here d b keeps1
k-stmt_form wide a here (syntax.ParallelBlock at e s t more) keeps1 = k-parallel wide.walk a here at e (syntax.AlsoBranch s (syntax.AlsoBranch t more)) keeps1

pub k-stmt : (wide : Wide) (names : Names) (n : ℕ) (here : Context) (s : Stmt) → wide.walk.Takes names → Keeps wide.walk (stmt names n here s)
unfolding stmt
k-stmt wide names zero here s t = k-fault wide.walk (first_token.of_stmt s) (Limit bound.Levels)
k-stmt wide names (suc n) here s t = k-stmt_form wide (around names n (stmt names n)) here s
    (record { names = t; level = k-level_above wide.walk names (inside names n) t (k-inside wide.walk names n t); inner = k-inside wide.walk names n t; within = λ there x. k-stmt wide names n there x t })

pub k-around : (wide : Wide) (names : Names) (n : ℕ) → wide.walk.Takes names → KeepsAround wide.walk (around names n (stmt names n))
k-around wide names n t = record { names = t; level = k-level_above wide.walk names (inside names n) t (k-inside wide.walk names n t); inner = k-inside wide.walk names n t; within = λ there x. k-stmt wide names n there x t }
