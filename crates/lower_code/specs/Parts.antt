-- Parts of the code of parallel constructs.
use Rattle.std.specs.Prelude.{ℕ, ◌+◌, ◌-◌, pos, List, Option}
use Rattle.typed_tree.specs.Syntax.{Program, Optional, Chunk, Iteration}
use Rattle.stack_code.specs.declared.code.SiteKind.TheVariants as kind
use Rattle.stack_code.specs.declared.instr.Instr.TheVariants as i
use Rattle.lower_emission.specs.Emits.{Emit}
use Rattle.lower_emission.specs.Scope.{Scope, taking, nested, thread_scope, one, ◌⨟◌}
use Rattle.lower_emission.specs.Emission.{chunk_code, course_code, ends_code, loop_kind, fork_code, threaded, chunk_scope}
use Rattle.lower_emission.specs.Statements.{left_code, chunk_by, arm_scope}

-- a loop's fork, its threads, and the end of the construct
unfoldable pub forked_loop : Program → Scope → (site : ℕ) → Chunk → Iteration → (Scope → Emit) → Emit
forked_loop program s site chunk iteration body =
    one s 0 i.Nest ⨟ chunk_code program (nested s) 0 chunk ⨟ course_code program (taking 2 (nested s)) 0 iteration ⨟ ends_code (taking 2 (nested s)) 0 iteration
    ⨟ fork_code (nested s) 0 2 (loop_kind chunk) site s.free (one (nested s) (1 + 1 + 1 + 1) (i.Push (pos 0)))
    (threaded program (thread_scope site s) 0 chunk (s.free + 1 + 1) iteration body ⨟ one (chunk_scope chunk (taking 2 (thread_scope site s))) 0 i.End)
    ⨟ one (nested s) 2 i.Unnest

-- a block's
unfoldable pub forked_block : Program → Scope → (site : ℕ) → Optional → (count : ℕ) → (arms : Emit) → Emit
forked_block program s site threads count arms =
    one s 0 i.Nest ⨟ chunk_code program (nested s) 0 (chunk_by program threads) ⨟ one (nested s) 0 (i.Push (pos 0)) ⨟ one (nested s) 1 (i.Push (pos (count - 1)))
    ⨟ fork_code (nested s) 0 2 (kind.Block count) site s.free (one (nested s) (1 + 1 + 1 + 1) (i.Push (pos 0))) (arms ⨟ one (arm_scope program s site) 0 i.End)
    ⨟ one (nested s) 2 i.Unnest

-- what follows
unfoldable pub ways : Scope → (number : Option ℕ) → List ℕ → Emit
ways s number loops = left_code s number loops
