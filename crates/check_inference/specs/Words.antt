-- Words for what the functions of the walk find.
use Rattle.std.specs.Prelude.{◌<◌, ◌≤◌, ℕ, suc, Bool, true, false, Option, Some, None, IfSome}
use Rattle.typed_tree.specs.declared.typed.Typed.{Typed}
use Rattle.typed_tree.specs.Decoded.{chunk_at, composite_at, expr_at, iteration_at, reducer_at, stmt_at}
use Rattle.check_inference.specs.declared.gathering.Gathered.{Gathered}
use Rattle.check_clashes.specs.declared.effects.Path.{Path}
use Rattle.check_inference.specs.declared.exprs.Reduced.{Reduced}
use Rattle.check_inference.specs.Paths.{Name, Surroundings, chunk_hidden, hide, other}
use Rattle.check_inference.specs.Gather.{gather_chunk, gather_composite, gather_course, gather_expr, gather_reducer, gather_reduction, gather_stmt, gather_values}

-- what a path is the path of
abbrev pub path_name : Path → Name
path_name p = record { object = p.object; selectors = p.selectors }

-- below an iteration over a range
abbrev pub ranged : Bool → ℕ → Surroundings → Surroundings
ranged false k env = hide k env
ranged true k env = record env { loop_parameter = Some k; chunk_parameter = other k env.chunk_parameter }

module _ (t : Typed) (env : Surroundings) (out : Gathered) where
  -- what is gathered of a part of which the rest is still to be gone through
  abbrev pub expr_left : Option ℕ → Gathered
  expr_left None = out
  expr_left (Some k) = gather_expr env (expr_at t.nodes k) out

  abbrev pub composite_left : Option ℕ → Gathered
  composite_left None = out
  composite_left (Some k) = gather_composite env (composite_at t.nodes k) out

-- the rest stands before a number
abbrev pub IsBelow : ℕ → Option ℕ → Type 0
IsBelow id rest = IfSome rest (λ k. k < id)

-- the rest stands at a number or before it
abbrev pub IsWithin : ℕ → Option ℕ → Type 0
IsWithin id rest = IfSome rest (λ k. k ≤ id)

-- how far a loop over rests may still go
abbrev pub rest_size : Option ℕ → ℕ
rest_size None = 0
rest_size (Some k) = suc k

-- what is gathered of a reduction, by the numbers of its parts
abbrev pub reduced : Typed → Surroundings → Reduced → Option ℕ → Gathered → Gathered
reduced t env r None out = gather_values env env false (iteration_at t.nodes r.iteration) (expr_at t.nodes r.value) (gather_course env (iteration_at t.nodes r.iteration) (gather_expr env (expr_at t.nodes r.initial) (gather_reducer env (reducer_at t.nodes r.reducer) out)))
reduced t env r (Some site) out = gather_values env (chunk_hidden (chunk_at t.nodes r.chunk) env) false (iteration_at t.nodes r.iteration) (expr_at t.nodes r.value) (gather_course env (iteration_at t.nodes r.iteration) (gather_chunk env (chunk_at t.nodes r.chunk) (gather_expr env (expr_at t.nodes r.initial) (gather_reducer env (reducer_at t.nodes r.reducer) (gather_reduction env site (reducer_at t.nodes r.reducer) (chunk_at t.nodes r.chunk) (iteration_at t.nodes r.iteration) (expr_at t.nodes r.value) out)))))

-- what is gathered of a statement of which the rest is still to be gone through
abbrev pub stmt_left : Typed → Surroundings → Gathered → Option ℕ → Gathered
stmt_left t env out None = out
stmt_left t env out (Some k) = gather_stmt env (stmt_at t.nodes k) out
