-- What is judged without a fault is there: statements.
use Rattle.std.proofs.Common.{◌≡◌, refl, ℕ, zero, suc, ◌-◌, List, [], ◌∷◌, length, Option, Some, None, Bool, true, false, option_map, nat_le, not, ◌==◌, ◌&&◌}
use Rattle.ada_base.specs.declared.reason.Reason.{Reason}
use Rattle.syntax_tree.specs.FirstTokens as first_token
use Rattle.syntax_tree.specs.Syntax as syntax
use Rattle.syntax_tree.specs.Syntax.{Alt, Alts, Arms, Body, Branches, Declare, Expr, Handler, Handlers, Iter, MoreStmts, Name, OptionalParallel, OptionalStmts, Pack, Scheme, Simple, Stmt, Stmts}
use Rattle.typed_tree.specs.Decoded as part
use Rattle.typed_tree.specs.Decoded.{TypedPart}
use Rattle.typed_tree.specs.Latest.{turned}
use Rattle.typed_tree.specs.Syntax as typed
use Rattle.typed_tree.specs.Syntax.{Selections, Handled as TypedHandled}
use Rattle.typed_tree.specs.declared.program.SiteKind.TheVariants as site
use Rattle.name_rules.specs.Cases.{Choosing, Covering, case_choices, handled_by}
use Rattle.name_rules.specs.Declarations.{declarations}
use Rattle.name_rules.specs.Expressions.{Inside, condition, expr, judged_alone}
use Rattle.name_rules.specs.Found.{Denoted, Found}
use Rattle.name_rules.specs.Iterations.{entered}
use Rattle.name_rules.specs.Judging.{clean, fault, given, joined, pure, unless, ◌>>=◌}
use Rattle.name_rules.specs.Names.{denoted_first, exception}
use Rattle.name_rules.specs.Parts.{new_site, valued_by}
use Rattle.name_rules.specs.Primaries.{inside}
use Rattle.name_rules.specs.Statements as s
use Rattle.name_rules.specs.Statements.{Around, Selector, around, stmt}
use Rattle.name_rules.specs.Symbols.{symbol}
use Rattle.name_rules.specs.TypedParts.{selections_of}
use Rattle.name_rules.specs.Types.{wanted_of}
use Rattle.name_rules.specs.Values.{first_of, is_scalar, settled_found, stored, is_modular_kind, kind_of}
use Rattle.name_rules.specs.declared.found.Denoted.TheVariants as denoted
use Rattle.name_rules.specs.declared.found.Denoted.{Denoted as KnownDenoted}
use Rattle.name_rules.specs.declared.found.Found.TheVariants as known
use Rattle.name_rules.specs.declared.found.ObjectName.{ObjectName}
use Rattle.name_rules.specs.Limits.{most_arms}
use Rattle.name_rules.specs.declared.log.Bound.TheVariants as bound
use Rattle.name_rules.specs.declared.log.Rule.TheVariants.{ChunkRule, Limit, NotVisible, WrongEnd, WrongType}
use Rattle.name_rules.specs.declared.scope.Context.{Context}
use Rattle.name_rules.specs.declared.scope.LoopName.{LoopName}
use Rattle.name_rules.specs.declared.scope.Names.{Names}
use Rattle.name_rules.specs.declared.scope.Returns.TheVariants as returns
use Rattle.name_rules.specs.declared.scope.Returns.{Returns}
use Rattle.name_rules.specs.declared.scope.Target.TheVariants as target
use Rattle.name_rules.specs.declared.types.Kind.{Kind}
use Rattle.name_rules.specs.declared.types.Scalar.{Scalar}
use Rattle.name_rules.specs.declared.types.Subtype.TheVariants as subtype
use Rattle.name_rules.specs.declared.types.Wanted.TheVariants as wanted
use Rattle.name_complete.proofs.SoundParts.{s-valued_by}
use Rattle.name_complete.proofs.SoundPrimaries.{above-sound, inside-sound}
use Rattle.name_complete.proofs.Explains.{Any, Is, Sound, grows-same, joint, mapped, s-any, s-bind, s-both, s-breaks, s-clean, s-fault, s-given, s-if, s-never, s-pure, s-some, s-unless, s-where_clean}
use Rattle.name_complete.proofs.Facts.{Clear, DenotedOf, FoundFor, LevelSound, ReturnsGood}
use Rattle.name_complete.proofs.SoundCases.{HandledOf, s-case_choices, s-closed, s-handled_by}
use Rattle.name_complete.proofs.SoundDeclarations.{DeclaringOf, is-any, s-declarations}
use Rattle.name_complete.proofs.SoundExpressions.{plain-of, s-condition, s-expr, s-judged_alone}
use Rattle.name_complete.proofs.SoundIterations.{EnteredOf, s-chunk_count, s-entered}
use Rattle.name_complete.proofs.SoundNames.{s-exception, s-new_site}
use Rattle.name_complete.proofs.SoundValues.{s-settled_found, s-stored}

-- what judges statements
pub record AroundSound (a : Around) : Type 1 where
  pub level : LevelSound a.level
  pub inner : LevelSound a.inner
  pub within : (G : Type 0) (here : Context) (x : Stmt) → (G → Clear here) → Sound G (Is Any) (a.within here x)

s-stmts_from : (G : Type 0) (a : Around) (here : Context) (made : Option TypedPart) (x : MoreStmts) → AroundSound a → (G → Clear here) → (G → Is Any made) → Sound G (Is Any) (s.stmts_from a here made x)
s-stmts_from G a here made syntax.NoStmt f c h = s-pure G (Is Any) made h
s-stmts_from G a here made (syntax.AlsoStmt x xs) f c h =
    s-bind G (Is Any) (Is Any) (a.within here x) _ (f.within G here x c) (λ y.
    s-stmts_from (G × Is Any y) a here (joined s.with_stmt made y) xs f (λ g. c g.0) (λ g. joint Any Any Any s.with_stmt made y (h g.0) g.1 (λ b d m n. tt)))

pub s-stmts : (G : Type 0) (a : Around) (here : Context) (x : Stmts) → AroundSound a → (G → Clear here) → Sound G (Is Any) (s.stmts a here x)
unfolding s.stmts
s-stmts G a here (syntax.stmts x xs) f c =
    s-bind G (Is Any) (Is Any) (s.stmts_from a here (Some s.no_stmts) (syntax.AlsoStmt x xs)) _ (s-stmts_from G a here (Some s.no_stmts) (syntax.AlsoStmt x xs) f c (λ g. tt)) (λ y.
    s-pure _ (Is Any) (option_map turned y) (λ g. mapped Any Any turned y g.1 (λ z k. tt)))

-- ---- assignments

clear-target : (here : Context) (p : ObjectName) → Clear here → Clear (s.with_target here (target.Of p.subtype))
clear-target here p c = record { scope = c.scope; target = tt; returns = c.returns }

s-stored_place : (G : Type 0) (p : ObjectName) (ss : Selections) (at : ℕ) (f : Found) → Sound G (Is Any) (s.stored_place p ss at f)
s-stored_place G p ss at f =
    s-bind G (Is Any) (Is Any) (stored p.subtype at f) _ (s-stored G p.subtype at f) (λ v. s-pure _ (Is Any) (option_map (s.assigned p ss) v) (λ g. mapped Any Any (s.assigned p ss) v g.1 (λ x k. tt)))

s-assigned_place : (G : Type 0) (p : ObjectName) (ss : Selections) (at : ℕ) (x : Option Found) → (G → Is Any x) → Sound G (Is Any) (s.assigned_place p ss at x)
s-assigned_place G p ss at x h =
    s-if G (Is Any) (not p.variable) (fault p.first WrongType) (given x (s.stored_place p ss at)) (s-fault G (Is Any) p.first WrongType) (s-given G Any Any x (s.stored_place p ss at) h (λ f. s-stored_place _ p ss at f))

s-assign_place : (G : Type 0) (names : Names) (level : Inside) (here : Context) (p : ObjectName) (ss : Selections) (e : Expr) → LevelSound level → (G → Clear here) → Sound G (Is Any) (s.assign_place names level here p ss e)
unfolding s.assign_place
s-assign_place G names level here p ss e l c =
    let there = s.with_target here (target.Of p.subtype) in
    let at = first_token.of_expr e - 1 in
    s-where_clean G (Is (FoundFor (wanted_of p.subtype))) Any (expr names level there (wanted_of p.subtype) e) (s.assigned_place p ss at)
    (s-expr G names level there (wanted_of p.subtype) e l (λ g. clear-target here p (c g)) (λ g. plain-of p.subtype)) (λ x.
    s-assigned_place _ p ss at x (λ g. is-any (FoundFor (wanted_of p.subtype)) x g.1))

s-assign_other : (G : Type 0) (names : Names) (level : Inside) (here : Context) (e : Expr) (first : ℕ) → LevelSound level → Sound G (Is Any) (s.assign_other names level here e first)
s-assign_other G names level here e first l =
    s-where_clean G Any Any (s.assigned_alone names level here e) (λ u. fault first WrongType) (s-judged_alone G names level (s.with_target here target.Faulty) e l) (λ u. s-fault _ (Is Any) first WrongType)

s-assign_form : (G : Type 0) (names : Names) (level : Inside) (here : Context) (e : Expr) (d : KnownDenoted) (x : TypedPart) → LevelSound level → (G → Clear here) → Sound G (Is Any) (s.assign_form names level here e d x)
s-assign_form G names level here e (denoted.Value (known.Object p)) x l c = s-assign_place G names level here p (selections_of x) e l c
s-assign_form G names level here e d x l c = s-assign_other G names level here e (denoted_first d) l

s-assign_to : (G : Type 0) (names : Names) (level : Inside) (here : Context) (e : Expr) (d : Option Denoted) → LevelSound level → (G → Clear here) → (G → Is DenotedOf d) → Sound G (Is Any) (s.assign_to names level here e d)
s-assign_to G names level here e None l c h =
    let x = s.assigned_alone names level here e in
    s-never G G Any (Is Any) (x >>= λ u. pure None) (s-bind G Any Any x _ (s-judged_alone G names level (s.with_target here target.Faulty) e l) (λ u. s-pure _ Any None (λ g. tt))) h
s-assign_to G names level here e (Some d) l c h = s-assign_form G names level here e d.known d.part l c

s-assign : (G : Type 0) (names : Names) (level : Inside) (here : Context) (n : Name) (e : Expr) → LevelSound level → (G → Clear here) → Sound G (Is Any) (s.assign names level here n e)
s-assign G names level here n e l c =
    s-bind G (Is DenotedOf) (Is Any) (level.name here n) (s.assign_to names level here e) (l.name G here n c) (λ d. s-assign_to _ names level here e d l (λ g. c g.0) (λ g. g.1))

-- ---- calls of procedures

s-as_statement : (G : Type 0) (d : KnownDenoted) (x : TypedPart) → Sound G (Is Any) (s.as_statement d x)
s-as_statement G (denoted.Done first) x = s-some G Any x (λ g. tt)
s-as_statement G d x = s-fault G (Is Any) (denoted_first d) WrongType

s-call_stmt : (G : Type 0) (names : Names) (level : Inside) (here : Context) (n : Name) → LevelSound level → (G → Clear here) → Sound G (Is Any) (s.call_stmt names level here n)
unfolding s.call_stmt
s-call_stmt G names level here n l c =
    s-bind G (Is DenotedOf) (Is Any) (level.name here n) _ (l.name G here n c) (λ d.
    s-bind _ (Is DenotedOf) (Is Any) (given d (valued_by names level here)) _ (s-given _ DenotedOf DenotedOf d (valued_by names level here) (λ g. g.1) (λ x. s-valued_by _ names level here x l (λ g. c g.0.0) (λ g. g.1))) (λ e.
    s-given _ DenotedOf Any e (λ x. s.as_statement x.known x.part) (λ g. g.1) (λ x. s-as_statement _ x.known x.part)))

-- ---- exit, return, raise

s-condition_where : (G : Type 0) (names : Names) (level : Inside) (here : Context) (e : Option Expr) → LevelSound level → (G → Clear here) → Sound G (Is Any) (s.condition_where names level here e)
s-condition_where G names level here None l c = s-some G Any part.Nothing (λ g. tt)
s-condition_where G names level here (Some e) l c = s-condition G names level here e l c

s-loop_or : (G : Type 0) (at : ℕ) (x : Option LoopName) → Sound G (Is Any) (s.loop_or at x)
s-loop_or G at None = s-fault G (Is Any) at NotVisible
s-loop_or G at (Some l) = s-some G Any l.number (λ g. tt)

s-exited : (G : Type 0) (names : Names) (here : Context) (at : ℕ) (from : Option ℕ) (x : Option LoopName) → Sound G (Is Any) (s.exited names here at from x)
s-exited G names here at from None = s-fault G (Is Any) at NotVisible
s-exited G names here at None (Some l) = s-some G Any l.number (λ g. tt)
s-exited G names here at (Some token) (Some l) = s-loop_or G token (s.loop_named (symbol names token) here.loops)

s-exit_from : (G : Type 0) (names : Names) (level : Inside) (here : Context) (at : ℕ) (from : Option ℕ) (e : Option Expr) → LevelSound level → (G → Clear here) → Sound G (Is Any) (s.exit_from names level here at from e)
unfolding s.exit_from
s-exit_from G names level here at from e l c =
    let x = s.exited names here at from (s.innermost here.loops) in
    s-bind G (Is Any) (Is Any) x _ (s-exited G names here at from (s.innermost here.loops)) (λ n.
    s-bind _ (Is Any) (Is Any) (s.condition_where names level here e) _ (s-condition_where _ names level here e l (λ g. c g.0)) (λ y.
    s-pure _ (Is Any) (joined s.exit_part n y) (λ g. joint Any Any Any s.exit_part n y g.0.1 g.1 (λ b d m t. tt))))

s-value_at : (G : Type 0) (names : Names) (level : Inside) (here : Context) (at : ℕ) (t : Scalar) (e : Expr) → LevelSound level → (G → Clear here) → Sound G (Is Any) (s.value_at names level here at t e)
unfolding s.value_at
s-value_at G names level here at t e l c =
    s-bind G (Is (FoundFor wanted.Other)) (Is Any) (expr names level here wanted.Other e) _ (s-expr G names level here wanted.Other e l c (λ g. tt)) (λ x.
    s-given _ (FoundFor wanted.Other) Any x (stored (subtype.Scalar t) at) (λ g. g.1) (λ f. s-stored _ (subtype.Scalar t) at f))

s-value_of_nothing : (G : Type 0) (names : Names) (level : Inside) (here : Context) (at : ℕ) (e : Expr) → LevelSound level → (G → Clear here) → Sound G (Is Any) (s.value_of_nothing names level here at e)
s-value_of_nothing G names level here at e l c =
    s-where_clean G (Is (FoundFor wanted.Other)) Any (expr names level here wanted.Other e) (λ x. given x (λ f. fault at WrongType)) (s-expr G names level here wanted.Other e l c (λ g. tt)) (λ x.
    s-given _ (FoundFor wanted.Other) Any x (λ f. fault at WrongType) (λ g. g.1) (λ f. s-fault _ (Is Any) at WrongType))

s-return_value : (G : Type 0) (names : Names) (level : Inside) (here : Context) (at : ℕ) (e : Expr) (x : Returns) → LevelSound level → (G → Clear here) → (G → ReturnsGood x) → Sound G (Is Any) (s.return_value names level here at e x)
s-return_value G names level here at e returns.Nothing l c h = s-value_of_nothing G names level here at e l c
s-return_value G names level here at e (returns.Value t) l c h =
    s-bind G (Is Any) (Is Any) (s.value_at names level here at t e) _ (s-value_at G names level here at t e l c) (λ v. s-pure _ (Is Any) (option_map s.returned v) (λ g. mapped Any Any s.returned v g.1 (λ y k. tt)))
s-return_value G names level here at e returns.Faulty l c h =
    let x = judged_alone names level here e in
    s-never G G Any (Is Any) (x >>= λ u. pure None) (s-bind G Any Any x _ (s-judged_alone G names level here e l) (λ u. s-pure _ Any None (λ g. tt))) h

s-return_alone : (G : Type 0) (at : ℕ) (x : Returns) → Sound G (Is Any) (s.return_alone at x)
s-return_alone G at returns.Nothing = s-some G Any (part.AStmt typed.Return) (λ g. tt)
s-return_alone G at (returns.Value t) = s-fault G (Is Any) at WrongType
s-return_alone G at returns.Faulty = s-fault G (Is Any) at WrongType

s-return_from : (G : Type 0) (names : Names) (level : Inside) (here : Context) (at : ℕ) (e : Option Expr) → LevelSound level → (G → Clear here) → Sound G (Is Any) (s.return_from names level here at e)
s-return_from G names level here at None l c = s-return_alone G at here.returns
s-return_from G names level here at (Some e) l c = s-return_value G names level here at e here.returns l c (λ g. (c g).returns)

s-raise_from : (G : Type 0) (names : Names) (here : Context) (at : ℕ) (p : Option Pack) → (G → Clear here) → Sound G (Is Any) (s.raise_from names here at p)
s-raise_from G names here at None c = s-if G (Is Any) here.in_handler _ (fault at NotVisible) (s-some G Any (part.AStmt typed.Reraise) (λ g. tt)) (s-fault G (Is Any) at NotVisible)
s-raise_from G names here at (Some p) c =
    s-bind G (Is Any) (Is Any) (exception names here p) _ (s-exception G names here p c) (λ x. s-pure _ (Is Any) (option_map s.raised x) (λ g. mapped Any Any s.raised x g.1 (λ y k. tt)))

-- ---- if statements

with-elsif-if : (made c ss : Option TypedPart) → Is Any made → Is Any c → Is Any ss → Is Any (s.with_elsif_if made c ss)
with-elsif-if made None ss g h i = h
with-elsif-if made (Some c) ss g h i = joint Any Any Any (s.with_elsif c) made ss g i (λ a b m n. tt)

s-elsifs : (G : Type 0) (a : Around) (here : Context) (made : Option TypedPart) (x : Arms) → AroundSound a → (G → Clear here) → (G → Is Any made) → Sound G (Is Any) (s.elsifs a here made x)
s-elsifs G a here made syntax.NoArm f c h = s-pure G (Is Any) made h
s-elsifs G a here made (syntax.AlsoArm (syntax.arm at e x) xs) f c h =
    s-bind G (Is Any) (Is Any) (condition a.names a.level here e) _ (s-condition G a.names a.level here e f.level c) (λ y.
    s-bind _ (Is Any) (Is Any) (s.stmts a here x) _ (s-stmts _ a here x f (λ g. c g.0)) (λ ss.
    s-elsifs ((G × Is Any y) × Is Any ss) a here (s.with_elsif_if made y ss) xs f (λ g. c g.0.0) (λ g. with-elsif-if made y ss (h g.0.0) g.0.1 g.1)))

s-otherwise_where : (G : Type 0) (a : Around) (here : Context) (o : OptionalStmts) → AroundSound a → (G → Clear here) → Sound G (Is Any) (s.otherwise_where a here o)
s-otherwise_where G a here syntax.AbsentStmts f c = s-some G Any s.no_stmts (λ g. tt)
s-otherwise_where G a here (syntax.PresentStmts x) f c = s-stmts G a here x f c

s-if_stmt : (G : Type 0) (a : Around) (here : Context) (e : Expr) (x : Stmts) (more : Arms) (o : OptionalStmts) → AroundSound a → (G → Clear here) → Sound G (Is Any) (s.if_stmt a here e x more o)
unfolding s.if_stmt
s-if_stmt G a here e x more o f c =
    s-bind G (Is Any) (Is Any) (condition a.names a.level here e) _ (s-condition G a.names a.level here e f.level c) (λ y.
    s-bind _ (Is Any) (Is Any) (s.stmts a here x) _ (s-stmts _ a here x f (λ g. c g.0)) (λ ss.
    s-bind _ (Is Any) (Is Any) (s.elsifs a here (Some part.Nothing) more) _ (s-elsifs _ a here (Some part.Nothing) more f (λ g. c g.0.0) (λ g. tt)) (λ xs.
    s-bind _ (Is Any) (Is Any) (s.otherwise_where a here o) _ (s-otherwise_where _ a here o f (λ g. c g.0.0.0)) (λ ys.
    s-both _ Any Any Any y ss (s.if_stmt_made xs ys) (λ g. g.0.0.0.1) (λ g. g.0.0.1) (λ b t.
    s-pure _ (Is Any) (joined (s.if_stmt_part b t) xs ys) (λ g. joint Any Any Any (s.if_stmt_part b t) xs ys g.0.0.0.1 g.0.0.1 (λ u v m n. tt)))))))

-- ---- case statements

abbrev CasesOf : Covering × Option TypedPart → Type 0
CasesOf r = Is Any r.1

also-alternative : (d : Choosing) (made ss : Option TypedPart) → Is Any made → Is Any ss → Is Any (s.also_alternative d made ss)
unfolding s.also_alternative
also-alternative d made ss g h = joint Any Any Any (s.with_alternative d) made ss g h (λ a b m n. tt)

s-alternative : (G : Type 0) (a : Around) (here : Context) (kind : Option Kind) (last : Bool) (y : Covering) (made : Option TypedPart) (x : Alt) → AroundSound a → (G → Clear here) → (G → Is Any made) → Sound G CasesOf (s.alternative a here kind last y made x)
unfolding s.alternative
s-alternative G a here kind last y made (syntax.alt at x ys t) f c h =
    let j = case_choices a.level here kind (length ys == 0) last y s.no_choosing (x ∷ ys) in
    s-bind G Any CasesOf j _ (s-case_choices G a.level here kind (length ys == 0) last y s.no_choosing (x ∷ ys) f.level) (λ r.
    s-bind _ (Is Any) CasesOf (s.stmts a here t) _ (s-stmts _ a here t f (λ g. c g.0)) (λ ss.
    s-pure _ CasesOf (r.0, s.also_alternative r.1 made ss) (λ g. also-alternative r.1 made ss (h g.0.0) g.1)))

s-alts : (G : Type 0) (a : Around) (here : Context) (kind : Option Kind) (y : Covering) (made : Option TypedPart) (xs : Alts) → AroundSound a → (G → Clear here) → (G → Is Any made) → Sound G CasesOf (s.alts a here kind y made xs)
s-alts G a here kind y made syntax.NoAlt f c h = s-pure G CasesOf (y, made) h
s-alts G a here kind y made (syntax.AlsoAlt x xs) f c h =
    s-bind G CasesOf CasesOf (s.alternative a here kind (s.is_last xs) y made x) _ (s-alternative G a here kind (s.is_last xs) y made x f c h) (λ r. s-alts (G × CasesOf r) a here kind r.0 r.1 xs f (λ g. c g.0) (λ g. g.1))

s-selector : (G : Type 0) (f : Found) → Sound G (Is Any) (s.selector f)
s-selector G f =
    let made = s.selector_of (s.selecting f.known) in
    s-if G (Is Any) (is_scalar f.known && not (is_modular_kind (kind_of f.known))) (settled_found f >>= λ e. pure (option_map made e)) (fault (first_of f.known) WrongType)
    (s-bind G (Is Any) (Is Any) (settled_found f) _ (s-settled_found G f) (λ e. s-pure _ (Is Any) (option_map made e) (λ g. mapped Any Any made e g.1 (λ x k. tt))))
    (s-fault G (Is Any) (first_of f.known) WrongType)

s-closed_where : (G : Type 0) (at : ℕ) (x : Option Selector) (y : Covering) → Sound G Any (s.closed_where at x y)
s-closed_where G at None y = s-pure G Any tt (λ g. tt)
s-closed_where G at (Some x) y = s-closed G at x.known y

s-case_stmt : (G : Type 0) (a : Around) (here : Context) (at : ℕ) (e : Expr) (xs : Alts) → AroundSound a → (G → Clear here) → Sound G (Is Any) (s.case_stmt a here at e xs)
unfolding s.case_stmt
s-case_stmt G a here at e xs f c =
    let none : Covering = record { ranges = []; faulty = false; others = false } in
    s-bind G (Is (FoundFor wanted.Other)) (Is Any) (expr a.names a.level here wanted.Other e) _ (s-expr G a.names a.level here wanted.Other e f.level c (λ g. tt)) (λ x.
    s-bind _ (Is Any) (Is Any) (given x s.selector) _ (s-given _ (FoundFor wanted.Other) Any x s.selector (λ g. g.1) (λ y. s-selector _ y)) (λ t.
    s-bind _ CasesOf (Is Any) (s.alts a here (s.selector_kind t) none (Some part.Nothing) xs) _ (s-alts _ a here (s.selector_kind t) none (Some part.Nothing) xs f (λ g. c g.0.0) (λ g. tt)) (λ r.
    s-bind _ Any (Is Any) (s.closed_where at t r.0) _ (s-closed_where _ at t r.0) (λ u.
    s-pure _ (Is Any) (joined s.case_part t r.1) (λ g. joint Any Any Any s.case_part t r.1 g.0.0.1 g.0.1 (λ a b m n. tt))))))

-- ---- loops

s-loop_ends : (G : Type 0) (names : Names) (label : Option ℕ) (last : ℕ) (name : Option ℕ) → Sound G Any (s.loop_ends names label last name)
s-loop_ends G names None last None = s-pure G Any tt (λ g. tt)
s-loop_ends G names (Some label) last (Some name) = let b = symbol names label == symbol names name in s-any G (λ u. b ≡ true) (unless b name WrongEnd) (s-unless G b name WrongEnd)
s-loop_ends G names None last (Some name) = s-breaks G Any last WrongEnd
s-loop_ends G names (Some label) last None = s-breaks G Any last WrongEnd

s-new_loop : (G : Type 0) → Sound G Any s.new_loop
s-new_loop G = record { grows = λ log. grows-same log _ refl refl refl; at = λ log c e g. tt }

s-backwards_rule : (G : Type 0) (b : Bool) (construct back : Option ℕ) → Sound G Any (s.backwards_rule b construct back)
s-backwards_rule G true (Some site) (Some at) = s-breaks G Any at ChunkRule
s-backwards_rule G b construct back = s-pure G Any tt (λ g. tt)

clear-loop : (names : Names) (here : Context) (label : Option ℕ) (n : ℕ) → Clear here → Clear (s.in_loop names here label n)
clear-loop names here label n c = record { scope = c.scope; target = c.target; returns = c.returns }

s-loop_entered : (G : Type 0) (a : Around) (here : Context) (p : OptionalParallel) (i : Iter) → AroundSound a → (G → Clear here) → Sound G EnteredOf (s.loop_entered a here p i)
unfolding s.loop_entered
s-loop_entered G a here p i f c =
    let x = entered a.names a.level a.inner here site.Loop p i in
    s-bind G (λ e. EnteredOf e.0 × (e.1 ≡ true)) EnteredOf (clean x) _ (s-clean G EnteredOf x (s-entered G a.names a.level a.inner here site.Loop p i f.level f.inner c)) (λ e.
    s-bind _ Any EnteredOf (s.backwards_rule e.1 e.0.construct e.0.reverse) _ (s-backwards_rule _ e.1 e.0.construct e.0.reverse) (λ u. s-pure _ EnteredOf e.0 (λ g. g.0.1.0)))

s-for_made : (G : Type 0) (n : ℕ) (x : Option ℕ) (y : Option TypedPart) (i ss : TypedPart) → (G → Is Any y) → Sound G (Is Any) (s.for_made n x y i ss)
s-for_made G n None y i ss h = s-some G Any (s.for_part n i ss) (λ g. tt)
s-for_made G n (Some x) y i ss h = s-pure G (Is Any) (option_map (s.parallel_part n x i ss) y) (λ g. mapped Any Any (s.parallel_part n x i ss) y (h g) (λ z k. tt))

s-for_loop : (G : Type 0) (a : Around) (here : Context) (label : Option ℕ) (n : ℕ) (x : Stmts) (p : OptionalParallel) (i : Iter) → AroundSound a → (G → Clear here) → Sound G (Is Any) (s.for_loop a here label n x p i)
unfolding s.for_loop
s-for_loop G a here label n x p i f c =
    s-bind G EnteredOf (Is Any) (s.loop_entered a here p i) _ (s-loop_entered G a here p i f c) (λ e.
    s-bind _ (Is Any) (Is Any) (s.stmts a (s.in_loop a.names e.here label n) x) _ (s-stmts _ a (s.in_loop a.names e.here label n) x f (λ g. clear-loop a.names e.here label n g.1.around)) (λ ss.
    s-both _ Any Any Any e.iteration ss (s.for_made n e.construct e.chunk) (λ g. g.0.1.iteration) (λ g. g.1) (λ y z. s-for_made _ n e.construct e.chunk y z (λ g. g.0.0.0.1.chunk))))

s-loop_with : (G : Type 0) (a : Around) (here : Context) (label : Option ℕ) (n : ℕ) (x : Stmts) (by : Scheme) → AroundSound a → (G → Clear here) → Sound G (Is Any) (s.loop_with a here label n x by)
s-loop_with G a here label n x (syntax.While at e) f c =
    s-bind G (Is Any) (Is Any) (condition a.names a.level here e) _ (s-condition G a.names a.level here e f.level c) (λ y.
    s-bind _ (Is Any) (Is Any) (s.stmts a (s.in_loop a.names here label n) x) _ (s-stmts _ a (s.in_loop a.names here label n) x f (λ g. clear-loop a.names here label n (c g.0))) (λ ss.
    s-pure _ (Is Any) (joined (s.loop_part n) y ss) (λ g. joint Any Any Any (s.loop_part n) y ss g.0.1 g.1 (λ b u m o. tt))))
s-loop_with G a here label n x (syntax.For p at i) f c = s-for_loop G a here label n x (s.optional_parallel p) i f c

s-loop_by : (G : Type 0) (a : Around) (here : Context) (label : Option ℕ) (n : ℕ) (x : Stmts) (by : Option Scheme) → AroundSound a → (G → Clear here) → Sound G (Is Any) (s.loop_by a here label n x by)
s-loop_by G a here label n x None f c =
    s-bind G (Is Any) (Is Any) (s.stmts a (s.in_loop a.names here label n) x) _ (s-stmts G a (s.in_loop a.names here label n) x f (λ g. clear-loop a.names here label n (c g))) (λ ss.
    s-pure _ (Is Any) (joined (s.loop_part n) (Some part.Nothing) ss) (λ g. joint Any Any Any (s.loop_part n) (Some part.Nothing) ss tt g.1 (λ b u m o. tt)))
s-loop_by G a here label n x (Some by) f c = s-loop_with G a here label n x by f c

s-loop_stmt : (G : Type 0) (a : Around) (here : Context) (label : Option ℕ) (by : Option Scheme) (x : Stmts) (last : ℕ) (name : Option ℕ) → AroundSound a → (G → Clear here) → Sound G (Is Any) (s.loop_stmt a here label by x last name)
unfolding s.loop_stmt
s-loop_stmt G a here label by x last name f c =
    s-bind G Any (Is Any) (s.loop_ends a.names label last name) _ (s-loop_ends G a.names label last name) (λ u.
    s-bind _ Any (Is Any) s.new_loop _ (s-new_loop _) (λ n. s-loop_by _ a here label n x by f (λ g. c g.0.0)))

-- ---- bodies and blocks

clear-handler : (here : Context) → Clear here → Clear (s.in_handler_of here)
clear-handler here c = record { scope = c.scope; target = c.target; returns = c.returns }

abbrev HandlingOf : List Reason × Option TypedPart → Type 0
HandlingOf r = Is Any r.1

with-handler-if : (made : Option TypedPart) (h : Option TypedHandled) (ss : Option TypedPart) → Is Any made → Is Any h → Is Any ss → Is Any (s.with_handler_if made h ss)
with-handler-if made None ss g h i = h
with-handler-if made (Some x) ss g h i = joint Any Any Any (s.with_handler x) made ss g i (λ a b m n. tt)

s-handler : (G : Type 0) (a : Around) (here : Context) (last : Bool) (names-seen : List Reason) (made : Option TypedPart) (x : Handler) → AroundSound a → (G → Clear here) → (G → Is Any made) → Sound G HandlingOf (s.handler a here last names-seen made x)
unfolding s.handler
s-handler G a here last names-seen made (syntax.handler at x t) f c h =
    s-bind G HandledOf HandlingOf (handled_by a.names here names-seen last x) _ (s-handled_by G a.names here names-seen last x c) (λ y.
    s-bind _ (Is Any) HandlingOf (s.stmts a (s.in_handler_of here) t) _ (s-stmts _ a (s.in_handler_of here) t f (λ g. clear-handler here (c g.0))) (λ ss.
    s-pure _ HandlingOf (y.0, s.with_handler_if made y.1 ss) (λ g. with-handler-if made y.1 ss (h g.0.0) g.0.1 g.1)))

s-handlers : (G : Type 0) (a : Around) (here : Context) (names-seen : List Reason) (made : Option TypedPart) (hs : Handlers) → AroundSound a → (G → Clear here) → (G → Is Any made) → Sound G (Is Any) (s.handlers a here names-seen made hs)
s-handlers G a here names-seen made syntax.NoHandler f c h = s-pure G (Is Any) made h
s-handlers G a here names-seen made (syntax.AlsoHandler x hs) f c h =
    s-bind G HandlingOf (Is Any) (s.handler a here (s.is_last_handler hs) names-seen made x) _ (s-handler G a here (s.is_last_handler hs) names-seen made x f c h) (λ y.
    s-handlers (G × HandlingOf y) a here y.0 y.1 hs f (λ g. c g.0) (λ g. g.1))

pub s-body : (G : Type 0) (a : Around) (here : Context) (ds : Option TypedPart) (b : Body) → AroundSound a → (G → Clear here) → (G → Is Any ds) → Sound G (Is Any) (s.body a here ds b)
unfolding s.body
s-body G a here ds (syntax.body x hs) f c h =
    s-bind G (Is Any) (Is Any) (s.stmts a here x) _ (s-stmts G a here x f c) (λ ss.
    s-bind _ (Is Any) (Is Any) (s.handlers a here [] (Some part.Nothing) hs) _ (s-handlers _ a here [] (Some part.Nothing) hs f (λ g. c g.0) (λ g. tt)) (λ xs.
    s-given _ Any Any ds (s.body_made ss xs) (λ g. h g.0.0) (λ d.
    s-pure _ (Is Any) (joined (s.body_part d) ss xs) (λ g. joint Any Any Any (s.body_part d) ss xs g.0.0.1 g.0.1 (λ y z m n. tt)))))

s-block : (G : Type 0) (a : Around) (here : Context) (d : Option Declare) (b : Body) → AroundSound a → (G → Clear here) → Sound G (Is Any) (s.block a here d b)
unfolding s.block
s-block G a here d b f c =
    s-bind G DeclaringOf (Is Any) (declarations a.names a.level (length here.scope) here (Some s.no_decls) (s.block_decls d)) _ (s-declarations G a.names a.level (length here.scope) here (Some s.no_decls) (s.block_decls d) f.level c (λ g. tt)) (λ r.
    s-bind _ (Is Any) (Is Any) (s.body a r.0 r.1 b) _ (s-body _ a r.0 r.1 b f (λ g. g.1.around) (λ g. g.1.decls)) (λ x.
    s-pure _ (Is Any) (option_map s.block_part x) (λ g. mapped Any Any s.block_part x g.1 (λ y k. tt))))

-- ---- parallel blocks

clear-threads : (names : Names) (here : Context) (n : ℕ) → Clear here → Clear (s.in_threads names here n)
clear-threads names here n c = record { scope = c.scope; target = c.target; returns = c.returns }

s-count_where : (G : Type 0) (inner : Inside) (here : Context) (e : Option Simple) → LevelSound inner → (G → Clear here) → Sound G (Is Any) (s.count_where inner here e)
s-count_where G inner here None l c = s-some G Any part.Nothing (λ g. tt)
s-count_where G inner here (Some e) l c = s-chunk_count G inner here e l c

s-branches : (G : Type 0) (a : Around) (here : Context) (made : Option TypedPart) (xs : Branches) → AroundSound a → (G → Clear here) → (G → Is Any made) → Sound G (Is Any) (s.branches a here made xs)
s-branches G a here made syntax.NoBranch f c h = s-pure G (Is Any) made h
s-branches G a here made (syntax.AlsoBranch x xs) f c h =
    s-bind G (Is Any) (Is Any) (s.stmts a here x) _ (s-stmts G a here x f c) (λ y.
    s-branches (G × Is Any y) a here (joined s.with_arm made y) xs f (λ g. c g.0) (λ g. joint Any Any Any s.with_arm made y (h g.0) g.1 (λ b d m n. tt)))

s-arm_limit : (G : Type 0) (at n : ℕ) → Sound G Any (s.arm_limit at n)
s-arm_limit G at n = s-any G (λ u. nat_le n most_arms ≡ true) (unless (nat_le n most_arms) at (Limit bound.Arms)) (s-unless G (nat_le n most_arms) at (Limit bound.Arms))

s-parallel : (G : Type 0) (a : Around) (here : Context) (at : ℕ) (e : Option Simple) (xs : Branches) → AroundSound a → (G → Clear here) → Sound G (Is Any) (s.parallel a here at e xs)
unfolding s.parallel
s-parallel G a here at e xs f c =
    let j = new_site here at (site.Block (s.branch_count xs)) in
    s-bind G Any (Is Any) j _ (s-new_site G here at (site.Block (s.branch_count xs))) (λ n.
    s-bind _ (Is Any) (Is Any) (s.count_where a.inner here e) _ (s-count_where _ a.inner here e f.inner (λ g. c g.0)) (λ y.
    s-bind _ (Is Any) (Is Any) (s.branches a (s.in_threads a.names here n) (Some part.Nothing) xs) _ (s-branches _ a (s.in_threads a.names here n) (Some part.Nothing) xs f (λ g. clear-threads a.names here n (c g.0.0)) (λ g. tt)) (λ ys.
    s-bind _ Any (Is Any) (s.arm_limit at (s.branch_count xs)) _ (s-arm_limit _ at (s.branch_count xs)) (λ v.
    s-pure _ (Is Any) (joined (s.arms_part n) y ys) (λ g. joint Any Any Any (s.arms_part n) y ys g.0.0.1 g.0.1 (λ b z m o. tt))))))

-- ---- statements

s-stmt_form : (G : Type 0) (a : Around) (here : Context) (x : Stmt) → AroundSound a → (G → Clear here) → Sound G (Is Any) (s.stmt_form a here x)
s-stmt_form G a here (syntax.Null at) f c = s-some G Any (part.AStmt typed.Null) (λ g. tt)
s-stmt_form G a here (syntax.Assign n e) f c = s-assign G a.names a.level here n e f.level c
s-stmt_form G a here (syntax.CallStmt n) f c = s-call_stmt G a.names a.level here n f.level c
s-stmt_form G a here (syntax.Exit at from e) f c = s-exit_from G a.names a.level here at from e f.level c
s-stmt_form G a here (syntax.Return at e) f c = s-return_from G a.names a.level here at e f.level c
s-stmt_form G a here (syntax.Raise at p) f c = s-raise_from G a.names here at p c
s-stmt_form G a here (syntax.IfStmt at e x more o) f c = s-if_stmt G a here e x more o f c
s-stmt_form G a here (syntax.Case at e x xs) f c = s-case_stmt G a here at e (syntax.AlsoAlt x xs) f c
s-stmt_form G a here (syntax.Loop label by at x last name) f c = s-loop_stmt G a here label by x last name f c
s-stmt_form G a here (syntax.Block d at b) f c = s-block G a here d b f c
s-stmt_form G a here (syntax.ParallelBlock at e x y more) f c = s-parallel G a here at e (syntax.AlsoBranch x (syntax.AlsoBranch y more)) f c

around-by : (names : Names) (n : ℕ) → ((G : Type 0) (here : Context) (x : Stmt) → (G → Clear here) → Sound G (Is Any) (stmt names n here x)) → AroundSound (around names n (stmt names n))
around-by names n f = record { level = above-sound names (inside names n) (inside-sound names n); inner = inside-sound names n; within = f }

s-stmt : (names : Names) (n : ℕ) (G : Type 0) (here : Context) (x : Stmt) → (G → Clear here) → Sound G (Is Any) (stmt names n here x)
unfolding stmt
s-stmt names zero G here x c = s-fault G (Is Any) (first_token.of_stmt x) (Limit bound.Levels)
s-stmt names (suc n) G here x c = s-stmt_form G (around names n (stmt names n)) here x (around-by names n (λ H there y k. s-stmt names n H there y k)) c

pub around-sound : (names : Names) (n : ℕ) → AroundSound (around names n (stmt names n))
around-sound names n = around-by names n (λ G here x c. s-stmt names n G here x c)
