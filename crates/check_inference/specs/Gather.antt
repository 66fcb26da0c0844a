-- What a walk gathers of a text: the names of variables in it, its calls, and, where that is asked for, the parallel
-- constructs in it, each with what it uses. What is gathered stands behind what was found before.
use Rattle.std.specs.Prelude.{ℕ, suc, List, [], ◌∷◌, ◌++◌, Option, Some, None, Bool, true, false, cond}
use Rattle.typed_tree.specs.declared.expressions.Root.{Root}
use Rattle.typed_tree.specs.declared.expressions.Reducer.{Reducer}
use Rattle.typed_tree.specs.declared.expressions.Reducer.TheVariants.{Operator, Function}
use Rattle.typed_tree.specs.Syntax.{Expr, Static, Variable, Constant, Parameter, Target, Group, Unary, Binary, AndThen, OrElse, Relation, Membership, If, Call, Convert, Reduction, Exprs, NoExpr, AlsoExpr, Optional, Absent, Present, Selections, Whole, Field, Index, Actuals, NoActual, In, InOut, Out, CompositeInOut, CompositeOut, Value, Number, Cells, Composite, WholeVariable, WholeConstant, WholeTarget, CompositeIf, Aggregate, Associations, NoAssociation, Association, Iteration, Range, Components, Chunk, NoChunk, Count, Each, Pieces, NoPiece, Text, Image, Padded, Decls, NoDecl, DeclareDefault, DeclareVariable, DeclareConstant, Mentions, Stmt, Null, Assign, CallProcedure, Exit, Return, ReturnValue, Raise, Reraise, IfThen, Case, Loop, For, ParallelFor, Parallel, Block, Put, Get, Stmts, End, Then, Alternatives, NoAlternative, Alternative, Arms, NoArm, Arm, Handlers, NoHandler, Handler, Body}
use Rattle.typed_tree.specs.declared.expressions.Iterated.{Iterated}
use Rattle.check_clashes.specs.declared.effects.Access.{Access}
use Rattle.check_clashes.specs.declared.effects.Access.TheVariants.{Read, Write, Update}
use Rattle.check_clashes.specs.declared.effects.Uses.{Uses}
use Rattle.check_clashes.specs.declared.effects.SiteEffects.{SiteEffects}
use Rattle.check_inference.specs.declared.gathering.Gathered.{Gathered}
use Rattle.check_inference.specs.Paths.{Name, Surroundings, named, hide, chunk_hidden, chunk_parameter, below, is_hidden, judging}

abbrev pub no_uses : Uses
no_uses = record { touches = []; calls = [] }

abbrev pub nothing : Gathered
nothing = record { uses = no_uses; sites = [] }

-- a name, unless the variable is declared in the text around
abbrev pub with_touch : Surroundings → ℕ → Access → Name → Gathered → Gathered
with_touch env at access n out = cond (is_hidden env.hidden n.object) out
    (record out { uses = record out.uses { touches = out.uses.touches ++ record { arm = env.arm; at = at; access = access; path = record { object = n.object; selectors = n.selectors } } ∷ [] } })

abbrev pub with_call : Surroundings → ℕ → ℕ → Gathered → Gathered
with_call env at s out = record out { uses = record out.uses { calls = out.uses.calls ++ record { arm = env.arm; at = at; sub = s } ∷ [] } }

-- a parallel construct, where it is asked for
abbrev pub with_site : Surroundings → SiteEffects → Gathered → Gathered
with_site env site out = cond env.sites (record out { sites = out.sites ++ site ∷ [] }) out

-- a declared function that reduces is called (4.5.10)
abbrev pub gather_reducer : Surroundings → Reducer → Gathered → Gathered
gather_reducer env (Operator at op class) out = out
gather_reducer env (Function at s accumulator value) out = with_call env at s out

abbrev pub iterated_hidden : Option Iterated → Surroundings → Surroundings
iterated_hidden None env = env
iterated_hidden (Some i) env = hide i.parameter env

-- where the threads of a construct stand that is judged
abbrev pub threads_below : Surroundings → Chunk → Iteration → Surroundings
threads_below env chunk iteration = below (judging env) true iteration (record (judging env) { chunk_parameter = chunk_parameter chunk })

unfoldable mutual
  pub gather_expr : Surroundings → Expr → Gathered → Gathered
  gather_expr env (Static at value literal mentions) out = gather_exprs env mentions out
  gather_expr env (Variable at from selections scalar) out = gather_selections env selections (with_touch env at Read (named env from selections) out)
  gather_expr env (Constant at from selections scalar) out = gather_selections env selections out
  gather_expr env (Parameter at k) out = out
  gather_expr env (Target at scalar) out = with_touch env at Read env.target out
  gather_expr env (Group e) out = gather_expr env e out
  gather_expr env (Unary at s class e) out = gather_expr env e out
  gather_expr env (Binary at op class e f) out = gather_expr env e (gather_expr env f out)
  gather_expr env (AndThen e f) out = gather_expr env e (gather_expr env f out)
  gather_expr env (OrElse e f) out = gather_expr env e (gather_expr env f out)
  gather_expr env (Relation class comparison e f) out = gather_expr env e (gather_expr env f out)
  gather_expr env (Membership class negated e low high) out = gather_expr env high (gather_expr env low (gather_expr env e out))
  gather_expr env (If condition value otherwise) out = gather_expr env otherwise (gather_expr env value (gather_expr env condition out))
  gather_expr env (Call at callee s actuals) out = gather_actuals env actuals (with_call env at s out)
  gather_expr env (Convert check e) out = gather_expr env e out
  gather_expr env (Reduction at attribute by initial None chunk iteration value) out =
      gather_expr (below env false iteration env) value (gather_filter (below env false iteration env) iteration (gather_course env iteration (gather_expr env initial (gather_reducer env by out))))
  gather_expr env (Reduction at attribute by initial (Some site) chunk iteration value) out =
      gather_expr (below env false iteration (chunk_hidden chunk env)) value (gather_filter (below env false iteration (chunk_hidden chunk env)) iteration (gather_course env iteration (gather_chunk env chunk (gather_expr env initial (gather_reducer env by (with_site env (record {
        site = site;
        block = false;
        front = (gather_course (judging env) iteration (gather_chunk (judging env) chunk nothing)).uses;
        threads = (gather_expr (threads_below env chunk iteration) value (gather_filter (threads_below env chunk iteration) iteration (gather_reducer (judging env) by nothing))).uses;
      }) out))))))

  pub gather_exprs : Surroundings → Exprs → Gathered → Gathered
  gather_exprs env NoExpr out = out
  gather_exprs env (AlsoExpr e es) out = gather_exprs env es (gather_expr env e out)

  pub gather_optional : Surroundings → Optional → Gathered → Gathered
  gather_optional env Absent out = out
  gather_optional env (Present e) out = gather_expr env e out

  pub gather_selections : Surroundings → Selections → Gathered → Gathered
  gather_selections env Whole out = out
  gather_selections env (Field number offset rest) out = gather_selections env rest out
  gather_selections env (Index at e low high stride rest) out = gather_selections env rest (gather_expr env e out)

  pub gather_actuals : Surroundings → Actuals → Gathered → Gathered
  gather_actuals env NoActual out = out
  gather_actuals env (In formal value rest) out = gather_actuals env rest (gather_value env value out)
  gather_actuals env (InOut formal at from selections inner outer rest) out = gather_actuals env rest (gather_selections env selections (with_touch env at Update (named env from selections) out))
  gather_actuals env (Out formal at from selections inner outer rest) out = gather_actuals env rest (gather_selections env selections (with_touch env at Write (named env from selections) out))
  gather_actuals env (CompositeInOut formal at from selections subtype rest) out = gather_actuals env rest (gather_selections env selections (with_touch env at Update (named env from selections) out))
  gather_actuals env (CompositeOut formal at from selections subtype rest) out = gather_actuals env rest (gather_selections env selections (with_touch env at Update (named env from selections) out))

  pub gather_value : Surroundings → Value → Gathered → Gathered
  gather_value env (Number check e) out = gather_expr env e out
  gather_value env (Cells c) out = gather_composite env c out

  pub gather_composite : Surroundings → Composite → Gathered → Gathered
  gather_composite env (WholeVariable at from selections subtype) out = gather_selections env selections (with_touch env at Read (named env from selections) out)
  gather_composite env (WholeConstant at from selections subtype) out = gather_selections env selections out
  gather_composite env (WholeTarget at subtype) out = with_touch env at Read env.target out
  gather_composite env (CompositeIf condition value otherwise) out = gather_composite env otherwise (gather_composite env value (gather_expr env condition out))
  gather_composite env (Aggregate at size associations) out = gather_associations env associations out

  pub gather_associations : Surroundings → Associations → Gathered → Gathered
  gather_associations env NoAssociation out = out
  gather_associations env (Association runs iterated mentions value rest) out = gather_associations env rest (gather_value (iterated_hidden iterated env) value (gather_exprs env mentions out))

  -- what is evaluated once, before the first iteration
  pub gather_course : Surroundings → Iteration → Gathered → Gathered
  gather_course env (Range k reverse low high check filter) out = gather_expr env high (gather_expr env low out)
  gather_course env (Components k constant at from selections count stride dimensions filter) out = gather_selections env selections out

  -- what is evaluated in each iteration
  pub gather_filter : Surroundings → Iteration → Gathered → Gathered
  gather_filter env (Range k reverse low high check filter) out = gather_optional env filter out
  gather_filter env (Components k constant at from selections count stride dimensions filter) out = gather_optional env filter out

  pub gather_chunk : Surroundings → Chunk → Gathered → Gathered
  gather_chunk env NoChunk out = out
  gather_chunk env (Count e) out = gather_expr env e out
  gather_chunk env (Each k low high check) out = gather_expr env high (gather_expr env low out)

unfoldable pub gather_pieces : Surroundings → Pieces → Gathered → Gathered
gather_pieces env NoPiece out = out
gather_pieces env (Text bytes rest) out = gather_pieces env rest out
gather_pieces env (Image class e rest) out = gather_pieces env rest (gather_expr env e out)
gather_pieces env (Padded class e width rest) out = gather_pieces env rest (gather_expr env width (gather_expr env e out))

-- declarations, each of which is seen by the text behind it
unfoldable pub hidden_with : Decls → List ℕ → List ℕ
hidden_with NoDecl found = found
hidden_with (DeclareDefault x more) found = hidden_with more (found ++ x ∷ [])
hidden_with (DeclareVariable x initial more) found = hidden_with more (found ++ x ∷ [])
hidden_with (DeclareConstant x initial more) found = hidden_with more found
hidden_with (Mentions es more) found = hidden_with more found

abbrev pub declared : Decls → Surroundings → Surroundings
declared decls env = record env { hidden = hidden_with decls env.hidden }

abbrev pub declaring : ℕ → Surroundings → Surroundings
declaring x env = record env { hidden = env.hidden ++ x ∷ [] }

unfoldable pub gather_decls : Surroundings → Decls → Gathered → Gathered
gather_decls env NoDecl out = out
gather_decls env (DeclareDefault x more) out = gather_decls (declaring x env) more out
gather_decls env (DeclareVariable x initial more) out = gather_decls (declaring x env) more (gather_value env initial out)
gather_decls env (DeclareConstant x initial more) out = gather_decls env more (gather_value env initial out)
gather_decls env (Mentions es more) out = gather_decls env more (gather_exprs env es out)

unfoldable mutual
  pub gather_stmt : Surroundings → Stmt → Gathered → Gathered
  gather_stmt env Null out = out
  gather_stmt env (Assign at from selections value) out = gather_value (record env { target = named env from selections }) value (gather_selections env selections (with_touch env at Write (named env from selections) out))
  gather_stmt env (CallProcedure at callee s actuals) out = gather_actuals env actuals (with_call env at s out)
  gather_stmt env (Exit loop condition) out = gather_optional env condition out
  gather_stmt env Return out = out
  gather_stmt env (ReturnValue value) out = gather_value env value out
  gather_stmt env (Raise reason) out = out
  gather_stmt env Reraise out = out
  gather_stmt env (IfThen condition stmts otherwise) out = gather_stmts env otherwise (gather_stmts env stmts (gather_expr env condition out))
  gather_stmt env (Case e alternatives) out = gather_alternatives env alternatives (gather_expr env e out)
  gather_stmt env (Loop number condition stmts) out = gather_stmts env stmts (gather_optional env condition out)
  gather_stmt env (For number iteration stmts) out = gather_stmts (below env false iteration env) stmts (gather_filter (below env false iteration env) iteration (gather_course env iteration out))
  gather_stmt env (ParallelFor number site chunk iteration stmts) out =
      gather_stmts (below env false iteration (chunk_hidden chunk env)) stmts (gather_filter (below env false iteration (chunk_hidden chunk env)) iteration (gather_course env iteration (gather_chunk env chunk (with_site env (record {
        site = site;
        block = false;
        front = (gather_course (judging env) iteration (gather_chunk (judging env) chunk nothing)).uses;
        threads = (gather_stmts (threads_below env chunk iteration) stmts (gather_filter (threads_below env chunk iteration) iteration nothing)).uses;
      }) out))))
  gather_stmt env (Parallel site count arms) out = gather_arms env arms (gather_optional env count (with_site env (record {
    site = site;
    block = true;
    front = (gather_optional (judging env) count nothing).uses;
    threads = (gather_numbered (judging env) 0 arms nothing).uses;
  }) out))
  gather_stmt env (Block decls stmts handlers) out = gather_handlers (declared decls env) handlers (gather_stmts (declared decls env) stmts (gather_decls env decls out))
  gather_stmt env (Put at callee pieces line) out = gather_pieces env pieces out
  gather_stmt env (Get at callee first from selections scalar) out = gather_selections env selections (with_touch env first Write (named env from selections) out)

  pub gather_stmts : Surroundings → Stmts → Gathered → Gathered
  gather_stmts env End out = out
  gather_stmts env (Then s ss) out = gather_stmts env ss (gather_stmt env s out)

  pub gather_alternatives : Surroundings → Alternatives → Gathered → Gathered
  gather_alternatives env NoAlternative out = out
  gather_alternatives env (Alternative others choices mentions stmts rest) out = gather_alternatives env rest (gather_stmts env stmts (gather_exprs env mentions out))

  pub gather_arms : Surroundings → Arms → Gathered → Gathered
  gather_arms env NoArm out = out
  gather_arms env (Arm stmts rest) out = gather_arms env rest (gather_stmts env stmts out)

  -- arms with their numbers, from the one given on
  pub gather_numbered : Surroundings → ℕ → Arms → Gathered → Gathered
  gather_numbered env k NoArm out = out
  gather_numbered env k (Arm stmts rest) out = gather_numbered env (suc k) rest (gather_stmts (record env { arm = k }) stmts out)

  pub gather_handlers : Surroundings → Handlers → Gathered → Gathered
  gather_handlers env NoHandler out = out
  gather_handlers env (Handler handled stmts rest) out = gather_handlers env rest (gather_stmts env stmts out)

-- declarations, and the statements and handlers that see them
abbrev pub gather_block : Surroundings → Decls → Stmts → Handlers → Gathered → Gathered
gather_block env decls stmts handlers out = gather_handlers (declared decls env) handlers (gather_stmts (declared decls env) stmts (gather_decls env decls out))

abbrev pub gather_body : Surroundings → Body → Gathered → Gathered
gather_body env body out = gather_block env body.decls body.stmts body.handlers out

-- what stands in the definitions above, by itself

-- the name of a variable, and the index expressions in it
abbrev pub gather_name : Surroundings → ℕ → Access → Root → Selections → Gathered → Gathered
gather_name env at access from selections out = gather_selections env selections (with_touch env at access (named env from selections) out)

-- the filter and the value of a reduction, the filter and the statements of a loop: what it goes through stands in `around`
abbrev pub gather_values : (around env : Surroundings) → Bool → Iteration → Expr → Gathered → Gathered
gather_values around env judged iteration value out = gather_expr (below around judged iteration env) value (gather_filter (below around judged iteration env) iteration out)

abbrev pub gather_turns : (around env : Surroundings) → Bool → Iteration → Stmts → Gathered → Gathered
gather_turns around env judged iteration stmts out = gather_stmts (below around judged iteration env) stmts (gather_filter (below around judged iteration env) iteration out)

-- parallel constructs, by the number of their site

abbrev pub gather_reduction : Surroundings → ℕ → Reducer → Chunk → Iteration → Expr → Gathered → Gathered
gather_reduction env site by chunk iteration value out = with_site env (record {
  site = site;
  block = false;
  front = (gather_course (judging env) iteration (gather_chunk (judging env) chunk nothing)).uses;
  threads = (gather_values (judging env) (record (judging env) { chunk_parameter = chunk_parameter chunk }) true iteration value (gather_reducer (judging env) by nothing)).uses;
}) out

abbrev pub gather_loop : Surroundings → ℕ → Chunk → Iteration → Stmts → Gathered → Gathered
gather_loop env site chunk iteration stmts out = with_site env (record {
  site = site;
  block = false;
  front = (gather_course (judging env) iteration (gather_chunk (judging env) chunk nothing)).uses;
  threads = (gather_turns (judging env) (record (judging env) { chunk_parameter = chunk_parameter chunk }) true iteration stmts nothing).uses;
}) out

abbrev pub gather_parallel : Surroundings → ℕ → Optional → Arms → Gathered → Gathered
gather_parallel env site count arms out = with_site env (record {
  site = site;
  block = true;
  front = (gather_optional (judging env) count nothing).uses;
  threads = (gather_numbered (judging env) 0 arms nothing).uses;
}) out
