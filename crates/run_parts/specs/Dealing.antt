-- How iterations are dealt to threads, as code holds it.
use Rattle.std.specs.Prelude.{ℕ, zero, suc, ℤ, pos, ◌+ℤ◌, int_le, nat_le, List, [], ◌∷◌, ◌++◌, Option, Some, None, Bool, true, false}
use Rattle.ada_base.specs.Cuts.{cuts_of}
use Rattle.ada_base.specs.declared.reason.Reason.TheVariants as reason
use Rattle.ada_meaning.specs.Values.{count}
use Rattle.ada_meaning.specs.Meaning as meaning
use Rattle.ada_meaning.specs.Meaning.{Env, with_parameter, cut_of, value_cut_of, most_threads, most_iterations}
use Rattle.ada_meaning.specs.Stored.{Stored, sizes_of, bind, ret, is_spent}
use Rattle.typed_tree.specs.declared.scalars.Check.{Check}
use Rattle.typed_tree.specs.Syntax.{Arms, NoArm, Arm, Stmts}
use Rattle.run_parts.specs.declared.chunks.Chunking.{Chunking}
use Rattle.run_parts.specs.declared.chunks.Chunking.TheVariants as chunking
use Rattle.run_parts.specs.declared.work.Work.{Work}
use Rattle.run_parts.specs.Words.{ops}

abbrev pub chunking_of : Chunking → meaning.Chunking
chunking_of (chunking.ByPlan most) = record { most = most; even = false; bound = λ j e. e }
chunking_of (chunking.Each k low n) = record { most = n; even = true; bound = λ j. with_parameter k (low +ℤ pos j) }

abbrev pub loop_sizes : Work → Chunking → ℕ → List ℕ
loop_sizes w k n = sizes_of w.limit (cuts_of w.plan.now) (cut_of (chunking_of k) n)

abbrev pub fold_sizes : Work → Chunking → ℕ → List ℕ
fold_sizes w k n = sizes_of w.limit (cuts_of w.plan.now) (value_cut_of (chunking_of k) n)

-- one size more, where it isn't 0
abbrev pub with_filled : List ℕ → ℕ → List ℕ
with_filled ns zero = ns
with_filled ns (suc n) = ns ++ suc n ∷ []

abbrev pub most_of : Work → ℤ → Stored ℕ
most_of w v = meaning.most_of (ops w) v

-- a chunk for each value of a range
abbrev pub each_chunk : Work → ℕ → Option Check → ℤ → ℤ → Stored meaning.Chunking
each_chunk w k check l h =
    bind (meaning.bounds_checked (ops w) check l h) (λ _. bind (meaning.unless (ops w) (int_le l h) reason.ProgramError) (λ _. bind (meaning.unless (ops w) (nat_le (count l h) most_threads) reason.StorageError) (λ _.
    ret (record { most = count l h; even = true; bound = λ j. with_parameter k (l +ℤ pos j) }))))

-- ---- constructs

abbrev pub opened : Work → Env → Stored (Unit {0})
opened w env = meaning.opened (ops w) env

abbrev pub count_checked : Work → ℕ → Stored (Unit {0})
count_checked w n = meaning.unless (ops w) (nat_le n most_iterations) reason.StorageError

-- the statements of an arm
abbrev pub found_arm : Arms → ℕ → Option Stmts
found_arm NoArm i = None
found_arm (Arm stmts rest) zero = Some stmts
found_arm (Arm stmts rest) (suc i) = found_arm rest i

-- a thread has no value, since its turns are spent
abbrev pub spent : Option ℤ → Bool
spent v = is_spent v
