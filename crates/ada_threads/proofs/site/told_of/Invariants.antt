use Rattle.std.proofs.Common.{◌≡◌, ◌≤◌, ◌++◌, map, length, drop, vec_len, vec_capacity}
use Rattle.ada_workers.specs.Joins.{notes_of}
use Rattle.ada_workers.specs.Noted.{told_note}
use Rattle.ada_threads.proofs.site.told_of.Given as goal

abbrev pub invariant-loop-over : goal.invariant-loop-over
invariant-loop-over l = record {
  told : map told_note l.notes.items ++ notes_of (drop l.over-index l.overs) ≡ notes_of l.overs;
  many : vec_len l.notes ≡ l.over-index;
  room : length l.overs ≤ vec_capacity l.notes;
}
