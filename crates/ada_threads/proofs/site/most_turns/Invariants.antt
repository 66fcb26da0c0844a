use Rattle.std.proofs.Common.{◌≡◌, ◌≤◌, drop}
use Rattle.machine_paths.specs.Noting.{turns_of}
use Rattle.machine_paths.specs.Threads.{ThreadPath}
use Rattle.ada_threads.specs.Sites.{AllRan}
use Rattle.ada_threads.proofs.site.most_turns.Given as goal

abbrev pub invariant-loop-over : goal.invariant-loop-over
invariant-loop-over l = record {
  most : turns_of l.fn.from l.overs ≡ turns_of l.most (drop l.over-index l.overs);
  within : (p : ThreadPath) → AllRan p l.overs → l.fn.from ≤ p.limit → l.most ≤ p.limit;
}
