-- Parallel constructs, as their parts.
use Rattle.std.proofs.Common.{◌≡◌, ℕ, List, Some, None, refl}
use Rattle.typed_tree.specs.Syntax.{Program, Optional, Chunk, Iteration, Stmts, Arms, ParallelFor, Parallel}
use Rattle.ada_meaning.specs.Meaning.{arms_of}
use Rattle.lower_emission.specs.declared.types.Placed.{Placed}
use Rattle.lower_emission.specs.Emits.{written}
use Rattle.lower_emission.specs.Scope.{Scope, taking}
use Rattle.lower_emission.specs.Statements.{stmt, all, exits_of, arm_exits, arms_code, arm_codes, arm_scope}
use Rattle.lower_code.specs.Parts.{forked_loop, forked_block, ways}

pub loop_is : (program : Program) (s : Scope) (number site : ℕ) (chunk : Chunk) (iteration : Iteration) (stmts : Stmts) (c : List Placed) →
    written (stmt program s (ParallelFor number site chunk iteration stmts)) c ≡ written (ways (taking 2 (taking 2 s)) (Some number) (exits_of stmts)) (written (forked_loop program s site chunk iteration (λ u. all program u stmts)) c)
unfolding stmt forked_loop ways
loop_is program s number site chunk iteration stmts c = refl

pub block_is : (program : Program) (s : Scope) (site : ℕ) (threads : Optional) (arms : Arms) (c : List Placed) →
    written (stmt program s (Parallel site threads arms)) c ≡ written (ways (taking 2 s) None (arm_exits arms)) (written (forked_block program s site threads (arms_of arms) (arms_code program (arm_scope program s site) 0 (arm_codes program (arm_scope program s site) arms))) c)
unfolding stmt forked_block ways
block_is program s site threads arms c = refl
