use Rattle.std.proofs.Common.{◌≡◌, false, [], drop}
use Rattle.machine_paths.specs.Noting.{spent_after, values_after}
use Rattle.ada_threads.proofs.site.own_ends.Given as goal

abbrev pub invariant-loop-over : goal.invariant-loop-over
invariant-loop-over l = record {
  spent : spent_after false l.overs ≡ spent_after l.spent (drop l.over-index l.overs);
  values : values_after [] l.overs ≡ values_after l.values (drop l.over-index l.overs);
}
