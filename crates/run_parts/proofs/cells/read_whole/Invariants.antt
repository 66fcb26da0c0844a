use Rattle.std.proofs.Common.{◌≡◌, length, drop, []}
use Rattle.run_store.specs.Shows.{Goes, entity_of}
use Rattle.run_parts.specs.Words.{read_all, cells_at}
use Rattle.run_parts.proofs.cells.read_whole.Given as goal

abbrev pub invariant-loop-k : goal.invariant-loop-k
invariant-loop-k g l = record {
  counted : l.count ≡ length (cells_at l.work l.subtype);
  on : Goes g.P.Port.Tells (read_all l.work (entity_of l.object) l.fn.offset [] (cells_at l.work l.subtype)) l.fn.store (read_all l.work (entity_of l.object) l.at l.values (drop l.k (cells_at l.work l.subtype))) l.store;
}
