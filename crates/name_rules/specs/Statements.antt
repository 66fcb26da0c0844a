-- The rules of statements (5, 6.4, 6.5, 11.3), over a judgement of the statements in them.
use Rattle.ada_base.specs.declared.reason.Reason.{Reason}
use Rattle.name_rules.specs.Cases.{Choosing, Covering, case_choices, closed, handled_by}
use Rattle.name_rules.specs.Declarations.{declarations}
use Rattle.name_rules.specs.Expressions.{Inside, condition, expr, judged_alone}
use Rattle.syntax_tree.specs.FirstTokens as first_token
use Rattle.name_rules.specs.Found.{Denoted, Found, With}
use Rattle.name_rules.specs.Iterations.{Entered, chunk_count, entered, thread_owner}
use Rattle.name_rules.specs.Judging.{Judging, both, breaks, clean, fault, given, joined, pure, some, unless, where_clean, ◌>>=◌}
use Rattle.name_rules.specs.Names.{denoted_first, exception}
use Rattle.name_rules.specs.Parts.{name, new_site, valued_by}
use Rattle.name_rules.specs.Primaries.{inside, level_above}
use Rattle.name_rules.specs.Symbols.{symbol}
use Rattle.name_rules.specs.Types.{base_of, wanted_of}
use Rattle.name_rules.specs.Values.{first_of, is_modular_kind, is_scalar, kind_of, nominal_of, own_kind, settled_found, stored}
use Rattle.name_rules.specs.declared.found.Denoted.TheVariants as denoted
use Rattle.name_rules.specs.declared.found.Denoted.{Denoted as KnownDenoted}
use Rattle.name_rules.specs.declared.found.Found.TheVariants as known
use Rattle.name_rules.specs.declared.found.Found.{Found as Known}
use Rattle.name_rules.specs.declared.found.ObjectName.{ObjectName}
use Rattle.name_rules.specs.Limits.{most_arms}
use Rattle.name_rules.specs.declared.log.Bound.TheVariants as bound
use Rattle.name_rules.specs.declared.log.Rule.TheVariants.{ChunkRule, Limit, NotVisible, WrongEnd, WrongType}
use Rattle.name_rules.specs.declared.scope.Context.{Context}
use Rattle.name_rules.specs.declared.scope.LoopName.{LoopName}
use Rattle.name_rules.specs.declared.scope.Names.{Names}
use Rattle.name_rules.specs.declared.scope.Returns.TheVariants as returns
use Rattle.name_rules.specs.declared.scope.Returns.{Returns}
use Rattle.name_rules.specs.declared.scope.Target.TheVariants as target
use Rattle.name_rules.specs.declared.scope.Target.{Target}
use Rattle.name_rules.specs.declared.types.Kind.{Kind}
use Rattle.name_rules.specs.declared.types.Scalar.{Scalar}
use Rattle.name_rules.specs.declared.types.Subtype.TheVariants as subtype
use Rattle.name_rules.specs.declared.types.Wanted.TheVariants as wanted
use Rattle.syntax_tree.specs.Syntax as syntax
use Rattle.syntax_tree.specs.Syntax.{Alt, Alts, Arms, Body, Branches, Decl, Declare, Expr, Handler, Handlers, Iter, MoreStmts, Name, OptionalParallel, OptionalStmts, Pack, Parallel, Scheme, Simple, Stmt, Stmts}
use Rattle.typed_tree.specs.Decoded as part
use Rattle.typed_tree.specs.Syntax as typed
use Rattle.typed_tree.specs.Syntax.{Selections, Handled as TypedHandled}
use Rattle.typed_tree.specs.declared.program.SiteKind.TheVariants as site
use Rattle.std.specs.List.{find}
use Rattle.std.specs.Prelude.{Bool, List, None, Option, Some, [], false, if◌then◌else◌, length, nat_le, not, option_map, reverse, slice_get, suc, true, zero, ℕ, ◌++◌, ◌+◌, ◌-◌, ◌==◌, ◌∷◌, ◌&&◌}
use Rattle.name_rules.specs.TypedParts.{pair, also, exprs_of, selections_of, nested_stmts}
use Rattle.typed_tree.specs.Decoded.{TypedPart, as_expr, as_optional, as_iteration, as_chunk, as_decls, as_stmts, as_alternatives, as_arms, as_handlers, as_body}
use Rattle.typed_tree.specs.Latest.{turned}

-- how the statements in a statement are judged
abbrev pub Within : Type 0
Within = Context → Stmt → Judging (Option TypedPart)

-- what judges a statement: its names, expressions and brackets, and the statements in it
pub record Around : Type 0 where
  pub names : Names
  pub level : Inside
  pub inner : Inside
  pub within : Within

abbrev pub with_stmt : TypedPart → TypedPart → TypedPart
with_stmt done s = also done s

abbrev pub no_stmts : TypedPart
no_stmts = part.Nothing

abbrev pub stmts_from : Around → Context → Option TypedPart → MoreStmts → Judging (Option TypedPart)
stmts_from a here done syntax.NoStmt = pure done
stmts_from a here done (syntax.AlsoStmt s ss) = a.within here s >>= λ x. stmts_from a here (joined with_stmt done x) ss

unfoldable pub stmts : Around → Context → Stmts → Judging (Option TypedPart)
stmts a here (syntax.stmts s ss) = stmts_from a here (Some no_stmts) (syntax.AlsoStmt s ss) >>= λ x. pure (option_map turned x)

-- ---- assignments (5.2)

abbrev pub with_target : Context → Target → Context
with_target here t = record here { target = t }

abbrev pub assigned : ObjectName → Selections → TypedPart → TypedPart
assigned p ss v = part.AStmt (typed.Assign p.first p.root ss (part.as_value v))

-- E06: assignment to what is no variable, at its first token; `:=` stands directly before the value
abbrev pub stored_place : ObjectName → Selections → ℕ → Found → Judging (Option TypedPart)
stored_place p ss at f = stored p.subtype at f >>= λ v. pure (option_map (assigned p ss) v)

abbrev pub assigned_place : ObjectName → Selections → ℕ → Option Found → Judging (Option TypedPart)
assigned_place p ss at x = if not p.variable then fault p.first WrongType else given x (stored_place p ss at)

unfoldable pub assign_place : Names → Inside → Context → ObjectName → Selections → Expr → Judging (Option TypedPart)
assign_place names level here p ss e =
    where_clean (expr names level (with_target here (target.Of p.subtype)) (wanted_of p.subtype) e) (assigned_place p ss (first_token.of_expr e - 1))

-- a value whose target has a fault
abbrev pub assigned_alone : Names → Inside → Context → Expr → Judging (Unit {0})
assigned_alone names level here e = judged_alone names level (with_target here target.Faulty) e

abbrev pub assign_other : Names → Inside → Context → Expr → ℕ → Judging (Option TypedPart)
assign_other names level here e first = where_clean (assigned_alone names level here e) (λ u. fault first WrongType)

abbrev pub assign_form : Names → Inside → Context → Expr → KnownDenoted → TypedPart → Judging (Option TypedPart)
assign_form names level here e (denoted.Value (known.Object p)) x = assign_place names level here p (selections_of x) e
assign_form names level here e d x = assign_other names level here e (denoted_first d)

abbrev pub assign_to : Names → Inside → Context → Expr → Option Denoted → Judging (Option TypedPart)
assign_to names level here e None = assigned_alone names level here e >>= λ u. pure None
assign_to names level here e (Some d) = assign_form names level here e d.known d.part

abbrev pub assign : Names → Inside → Context → Name → Expr → Judging (Option TypedPart)
assign names level here n e = level.name here n >>= assign_to names level here e

-- ---- calls of procedures (6.4)

-- E06: a function as a statement
abbrev pub as_statement : KnownDenoted → TypedPart → Judging (Option TypedPart)
as_statement (denoted.Done first) x = some x
as_statement d x = fault (denoted_first d) WrongType

unfoldable pub call_stmt : Names → Inside → Context → Name → Judging (Option TypedPart)
call_stmt names level here n = do
  d ← level.name here n
  e ← given d (valued_by names level here)
  given e (λ x. as_statement x.known x.part)

-- ---- exit, return, raise

abbrev pub condition_where : Names → Inside → Context → Option Expr → Judging (Option TypedPart)
condition_where names level here None = some part.Nothing
condition_where names level here (Some e) = condition names level here e

abbrev pub is_name : ℕ → Option ℕ → Bool
is_name name None = false
is_name name (Some s) = s == name

abbrev pub innermost : List LoopName → Option LoopName
innermost ls = slice_get ls (length ls - 1)

abbrev pub loop_named : ℕ → List LoopName → Option LoopName
loop_named name ls = find (λ l. is_name name l.symbol) (reverse ls)

-- E05 NotVisible: `exit` outside a loop, at the word; an exit name that isn't an enclosing loop's, at the name
abbrev pub loop_or : ℕ → Option LoopName → Judging (Option ℕ)
loop_or at None = fault at NotVisible
loop_or at (Some l) = some l.number

abbrev pub exited : Names → Context → ℕ → Option ℕ → Option LoopName → Judging (Option ℕ)
exited names here at from None = fault at NotVisible
exited names here at None (Some l) = some l.number
exited names here at (Some token) (Some l) = loop_or token (loop_named (symbol names token) here.loops)

abbrev pub exit_part : ℕ → TypedPart → TypedPart
exit_part n c = part.AStmt (typed.Exit n (as_optional c))

unfoldable pub exit_from : Names → Inside → Context → ℕ → Option ℕ → Option Expr → Judging (Option TypedPart)
exit_from names level here at from e = do
  n ← exited names here at from (innermost here.loops)
  c ← condition_where names level here e
  pure (joined exit_part n c)

abbrev pub returned : TypedPart → TypedPart
returned v = part.AStmt (typed.ReturnValue (part.as_value v))

-- a value is checked at `return`, and a wrong one is blamed at its first token
unfoldable pub value_at : Names → Inside → Context → ℕ → Scalar → Expr → Judging (Option TypedPart)
value_at names level here at s e = expr names level here wanted.Other e >>= λ x. given x (stored (subtype.Scalar s) at)

-- E06: `return` with a value in a procedure or without one in a function, at the word
abbrev pub value_of_nothing : Names → Inside → Context → ℕ → Expr → Judging (Option TypedPart)
value_of_nothing names level here at e = where_clean (expr names level here wanted.Other e) (λ x. given x (λ f. fault at WrongType))

abbrev pub return_value : Names → Inside → Context → ℕ → Expr → Returns → Judging (Option TypedPart)
return_value names level here at e returns.Nothing = value_of_nothing names level here at e
return_value names level here at e (returns.Value s) = value_at names level here at s e >>= λ v. pure (option_map returned v)
return_value names level here at e returns.Faulty = judged_alone names level here e >>= λ u. pure None

abbrev pub return_alone : ℕ → Returns → Judging (Option TypedPart)
return_alone at returns.Nothing = some (part.AStmt typed.Return)
return_alone at _ = fault at WrongType

abbrev pub return_from : Names → Inside → Context → ℕ → Option Expr → Judging (Option TypedPart)
return_from names level here at None = return_alone at here.returns
return_from names level here at (Some e) = return_value names level here at e here.returns

abbrev pub raised : Reason → TypedPart
raised r = part.AStmt (typed.Raise r)

-- E05 NotVisible: `raise;` outside a handler, at the word
abbrev pub raise_from : Names → Context → ℕ → Option Pack → Judging (Option TypedPart)
raise_from names here at None = if here.in_handler then some (part.AStmt typed.Reraise) else fault at NotVisible
raise_from names here at (Some p) = exception names here p >>= λ r. pure (option_map raised r)

-- ---- if statements (5.3)

abbrev pub with_elsif : TypedPart → TypedPart → TypedPart → TypedPart
with_elsif c done ss = also done (pair c ss)

abbrev pub with_elsif_if : Option TypedPart → Option TypedPart → Option TypedPart → Option TypedPart
with_elsif_if done (Some c) ss = joined (with_elsif c) done ss
with_elsif_if xs None ss = None

abbrev pub elsifs : Around → Context → Option TypedPart → Arms → Judging (Option TypedPart)
elsifs a here done syntax.NoArm = pure done
elsifs a here done (syntax.AlsoArm (syntax.arm at e s) xs) = do
  c ← condition a.names a.level here e
  ss ← stmts a here s
  elsifs a here (with_elsif_if done c ss) xs

abbrev pub otherwise_where : Around → Context → OptionalStmts → Judging (Option TypedPart)
otherwise_where a here syntax.AbsentStmts = some no_stmts
otherwise_where a here (syntax.PresentStmts s) = stmts a here s

abbrev pub if_stmt_part : TypedPart → TypedPart → TypedPart → TypedPart → TypedPart
if_stmt_part c ss xs o = part.AStmt (typed.IfThen (as_expr c) (as_stmts ss) (as_stmts (nested_stmts xs o)))

abbrev pub if_stmt_made : Option TypedPart → Option TypedPart → TypedPart → TypedPart → Judging (Option TypedPart)
if_stmt_made xs ys c ss = pure (joined (if_stmt_part c ss) xs ys)

unfoldable pub if_stmt : Around → Context → Expr → Stmts → Arms → OptionalStmts → Judging (Option TypedPart)
if_stmt a here e s more o = do
  c ← condition a.names a.level here e
  ss ← stmts a here s
  xs ← elsifs a here (Some part.Nothing) more
  ys ← otherwise_where a here o
  both c ss (if_stmt_made xs ys)

-- ---- case statements (5.4)

abbrev pub is_last : Alts → Bool
is_last syntax.NoAlt = true
is_last xs = false

abbrev pub with_alternative : Choosing → TypedPart → TypedPart → TypedPart
with_alternative d done ss = also done (part.AnAlternative (typed.Alternative d.others d.spans (exprs_of d.mentions) (as_stmts ss)))

unfoldable pub also_alternative : Choosing → Option TypedPart → Option TypedPart → Option TypedPart
also_alternative d done ss = joined (with_alternative d) done ss

abbrev pub no_choosing : Choosing
no_choosing = record { spans = []; others = false; mentions = part.Nothing }

unfoldable pub alternative : Around → Context → Option Kind → Bool → Covering → Option TypedPart → Alt → Judging (Covering × Option TypedPart)
alternative a here k last c done (syntax.alt at x ys s) = do
  r ← case_choices a.level here k (length ys == 0) last c no_choosing (x ∷ ys)
  ss ← stmts a here s
  pure (r.0, also_alternative r.1 done ss)

abbrev pub alts : Around → Context → Option Kind → Covering → Option TypedPart → Alts → Judging (Covering × Option TypedPart)
alts a here k c done syntax.NoAlt = pure (c, done)
alts a here k c done (syntax.AlsoAlt x xs) = alternative a here k (is_last xs) c done x >>= λ r. alts a here k r.0 r.1 xs

-- the selecting subtype: the nominal one of a name, or else the base range
abbrev pub subtype_or : Option Scalar → Kind → Scalar
subtype_or None k = base_of k
subtype_or (Some s) k = s

abbrev pub selecting : Known → Scalar
selecting f = subtype_or (nominal_of f) (own_kind f)

-- the selecting expression, with its subtype
abbrev pub Selector : Type 0
Selector = With Scalar

abbrev pub selector_of : Scalar → TypedPart → Selector
selector_of s x = record { known = s; part = x }

-- E06: a selecting expression that is no scalar
abbrev pub selector : Found → Judging (Option Selector)
selector f = if is_scalar f.known && not (is_modular_kind (kind_of f.known)) then (settled_found f >>= λ e. pure (option_map (selector_of (selecting f.known)) e)) else fault (first_of f.known) WrongType

abbrev pub closed_where : ℕ → Option Selector → Covering → Judging (Unit {0})
closed_where at None c = pure tt
closed_where at (Some s) c = closed at s.known c

abbrev pub selector_kind : Option Selector → Option Kind
selector_kind None = None
selector_kind (Some s) = Some s.known.kind

abbrev pub case_part : Selector → TypedPart → TypedPart
case_part s xs = part.AStmt (typed.Case (as_expr s.part) (as_alternatives (turned xs)))

unfoldable pub case_stmt : Around → Context → ℕ → Expr → Alts → Judging (Option TypedPart)
case_stmt a here at e xs = do
  f ← expr a.names a.level here wanted.Other e
  s ← given f selector
  r ← alts a here (selector_kind s) (record { ranges = []; faulty = false; others = false }) (Some part.Nothing) xs
  u ← closed_where at s r.0
  pure (joined case_part s r.1)

-- ---- loops (5.5)

-- E05 WrongEnd: the name after `end loop` differs, at the name; or a loop has one without the other, at its `end`
abbrev pub loop_ends : Names → Option ℕ → ℕ → Option ℕ → Judging (Unit {0})
loop_ends names None last None = pure tt
loop_ends names (Some label) last (Some name) = unless (symbol names label == symbol names name) name WrongEnd
loop_ends names label last name = breaks last WrongEnd

abbrev pub new_loop : Judging ℕ
new_loop = λ log. (log.loops, record log { loops = log.loops + 1 })

abbrev pub in_loop : Names → Context → Option ℕ → ℕ → Context
in_loop names here label n = record here { loops = here.loops ++ record { symbol = option_map (symbol names) label; number = n } ∷ [] }

-- E11 ChunkRule: `reverse` in a parallel loop, where chunks, range and filter have no fault
abbrev pub backwards_rule : Bool → Option ℕ → Option ℕ → Judging (Unit {0})
backwards_rule true (Some site) (Some at) = breaks at ChunkRule
backwards_rule is_clean construct back = pure tt

abbrev pub for_part : ℕ → TypedPart → TypedPart → TypedPart
for_part n i ss = part.AStmt (typed.For n (as_iteration i) (as_stmts ss))

abbrev pub parallel_part : ℕ → ℕ → TypedPart → TypedPart → TypedPart → TypedPart
parallel_part n s i ss c = part.AStmt (typed.ParallelFor n s (as_chunk c) (as_iteration i) (as_stmts ss))

abbrev pub for_made : ℕ → Option ℕ → Option TypedPart → TypedPart → TypedPart → Judging (Option TypedPart)
for_made n None c i ss = some (for_part n i ss)
for_made n (Some s) c i ss = pure (option_map (parallel_part n s i ss) c)

unfoldable pub loop_entered : Around → Context → OptionalParallel → Iter → Judging Entered
loop_entered a here p i = do
  e ← clean (entered a.names a.level a.inner here site.Loop p i)
  u ← backwards_rule e.1 e.0.construct e.0.reverse
  pure e.0

unfoldable pub for_loop : Around → Context → Option ℕ → ℕ → Stmts → OptionalParallel → Iter → Judging (Option TypedPart)
for_loop a here label n s p i = do
  e ← loop_entered a here p i
  ss ← stmts a (in_loop a.names e.here label n) s
  both e.iteration ss (for_made n e.construct e.chunk)

abbrev pub loop_part : ℕ → TypedPart → TypedPart → TypedPart
loop_part n c ss = part.AStmt (typed.Loop n (as_optional c) (as_stmts ss))

abbrev pub optional_parallel : Option Parallel → OptionalParallel
optional_parallel None = syntax.AbsentParallel
optional_parallel (Some p) = syntax.PresentParallel p

abbrev pub loop_with : Around → Context → Option ℕ → ℕ → Stmts → Scheme → Judging (Option TypedPart)
loop_with a here label n s (syntax.While at e) = do
  c ← condition a.names a.level here e
  ss ← stmts a (in_loop a.names here label n) s
  pure (joined (loop_part n) c ss)
loop_with a here label n s (syntax.For p at i) = for_loop a here label n s (optional_parallel p) i

abbrev pub loop_by : Around → Context → Option ℕ → ℕ → Stmts → Option Scheme → Judging (Option TypedPart)
loop_by a here label n s None = stmts a (in_loop a.names here label n) s >>= λ ss. pure (joined (loop_part n) (Some part.Nothing) ss)
loop_by a here label n s (Some by) = loop_with a here label n s by

unfoldable pub loop_stmt : Around → Context → Option ℕ → Option Scheme → Stmts → ℕ → Option ℕ → Judging (Option TypedPart)
loop_stmt a here label by s last name = do
  u ← loop_ends a.names label last name
  n ← new_loop
  loop_by a here label n s by

-- ---- bodies and blocks (5.6, 11.2)

abbrev pub in_handler_of : Context → Context
in_handler_of here = record here { in_handler = true }

abbrev pub is_last_handler : Handlers → Bool
is_last_handler syntax.NoHandler = true
is_last_handler xs = false

abbrev pub with_handler : TypedHandled → TypedPart → TypedPart → TypedPart
with_handler h done ss = also done (part.AHandler (typed.Handler h (as_stmts ss)))

abbrev pub with_handler_if : Option TypedPart → Option TypedHandled → Option TypedPart → Option TypedPart
with_handler_if done (Some h) ss = joined (with_handler h) done ss
with_handler_if xs None ss = None

unfoldable pub handler : Around → Context → Bool → List Reason → Option TypedPart → Handler → Judging (List Reason × Option TypedPart)
handler a here last seen done (syntax.handler at h s) = do
  r ← handled_by a.names here seen last h
  ss ← stmts a (in_handler_of here) s
  pure (r.0, with_handler_if done r.1 ss)

abbrev pub handlers : Around → Context → List Reason → Option TypedPart → Handlers → Judging (Option TypedPart)
handlers a here seen done syntax.NoHandler = pure done
handlers a here seen done (syntax.AlsoHandler h hs) = handler a here (is_last_handler hs) seen done h >>= λ r. handlers a here r.0 r.1 hs

-- a body: its declarations, its statements, its handlers
abbrev pub body_part : TypedPart → TypedPart → TypedPart → TypedPart
body_part ds ss hs = part.ABody (record { decls = as_decls (turned ds); stmts = as_stmts ss; handlers = as_handlers (turned hs) })

-- a body as a block statement
abbrev pub block_part : TypedPart → TypedPart
block_part b = part.AStmt (typed.Block (as_body b).decls (as_body b).stmts (as_body b).handlers)

abbrev pub body_made : Option TypedPart → Option TypedPart → TypedPart → Judging (Option TypedPart)
body_made ss hs ds = pure (joined (body_part ds) ss hs)

unfoldable pub body : Around → Context → Option TypedPart → Body → Judging (Option TypedPart)
body a here ds (syntax.body s hs) = do
  ss ← stmts a here s
  xs ← handlers a here [] (Some part.Nothing) hs
  given ds (body_made ss xs)

abbrev pub no_decls : TypedPart
no_decls = part.Nothing

abbrev pub block_decls : Option Declare → List Decl
block_decls None = []
block_decls (Some d) = d.decls

abbrev pub block_of : Around → Context → Option TypedPart → Body → Judging (Option TypedPart)
block_of a here ds b = body a here ds b >>= λ x. pure (option_map block_part x)

unfoldable pub block : Around → Context → Option Declare → Body → Judging (Option TypedPart)
block a here d b = declarations a.names a.level (length here.scope) here (Some no_decls) (block_decls d) >>= λ r. block_of a r.0 r.1 b

-- ---- parallel blocks (5.6.1)

-- E12: more arms than there may be, at the word `parallel`
abbrev pub arm_limit : ℕ → ℕ → Judging (Unit {0})
arm_limit at n = unless (nat_le n most_arms) at (Limit bound.Arms)

abbrev pub count_where : Inside → Context → Option Simple → Judging (Option TypedPart)
count_where inner here None = some part.Nothing
count_where inner here (Some s) = chunk_count inner here s

abbrev pub with_arm : TypedPart → TypedPart → TypedPart
with_arm done ss = also done ss

abbrev pub branches : Around → Context → Option TypedPart → Branches → Judging (Option TypedPart)
branches a here done syntax.NoBranch = pure done
branches a here done (syntax.AlsoBranch s ss) = stmts a here s >>= λ x. branches a here (joined with_arm done x) ss

abbrev pub branch_count : Branches → ℕ
branch_count syntax.NoBranch = 0
branch_count (syntax.AlsoBranch s ss) = branch_count ss + 1

abbrev pub in_threads : Names → Context → ℕ → Context
in_threads names here n = record here { owner = thread_owner names n }

abbrev pub arms_part : ℕ → TypedPart → TypedPart → TypedPart
arms_part n c xs = part.AStmt (typed.Parallel n (as_optional c) (as_arms (turned xs)))

unfoldable pub parallel : Around → Context → ℕ → Option Simple → Branches → Judging (Option TypedPart)
parallel a here at e ss = do
  n ← new_site here at (site.Block (branch_count ss))
  c ← count_where a.inner here e
  xs ← branches a (in_threads a.names here n) (Some part.Nothing) ss
  u ← arm_limit at (branch_count ss)
  pure (joined (arms_part n) c xs)

-- ---- statements

abbrev pub stmt_form : Around → Context → Stmt → Judging (Option TypedPart)
stmt_form a here (syntax.Null at) = some (part.AStmt typed.Null)
stmt_form a here (syntax.Assign n e) = assign a.names a.level here n e
stmt_form a here (syntax.CallStmt n) = call_stmt a.names a.level here n
stmt_form a here (syntax.Exit at from e) = exit_from a.names a.level here at from e
stmt_form a here (syntax.Return at e) = return_from a.names a.level here at e
stmt_form a here (syntax.Raise at p) = raise_from a.names here at p
stmt_form a here (syntax.IfStmt at e s more o) = if_stmt a here e s more o
stmt_form a here (syntax.Case at e x xs) = case_stmt a here at e (syntax.AlsoAlt x xs)
stmt_form a here (syntax.Loop label by at s last name) = loop_stmt a here label by s last name
stmt_form a here (syntax.Block d at b) = block a here d b
stmt_form a here (syntax.ParallelBlock at e s t more) = parallel a here at e (syntax.AlsoBranch s (syntax.AlsoBranch t more))

-- where so many levels of statements and brackets may still be open
abbrev pub around : Names → ℕ → Within → Around
around names n within = record { names = names; level = level_above names (inside names n); inner = inside names n; within = within }

unfoldable pub stmt : Names → ℕ → Within
stmt names zero here s = fault (first_token.of_stmt s) (Limit bound.Levels)
stmt names (suc n) here s = stmt_form (around names n (stmt names n)) here s
