use Rattle.std.proofs.Common.{◌≡◌, ◌+◌, ◌++◌, map, drop, arith, sym, subst}
use Rattle.ada_workers.specs.Joins.{notes_of}
use Rattle.ada_workers.specs.Noted.{told_note}
use Rattle.ada_threads.proofs.Overs.{notes_step, notes_done}
use Rattle.ada_threads.proofs.site.told_of.Goals as goal

pub loop-over-preserved : goal.loop-over-preserved
loop-over-preserved c =
    let os = c.args.overs.now in
    let i = c.loop-over.over-index in
    record {
      told = subst (λ l. map told_note l ++ notes_of (drop (i + 1) os) ≡ notes_of os) (sym c.push_reserved.ensures.items)
          (notes_step os i c.over-item.result c.loop-over-test.true c.over-item.is c.loop-over.notes.items c.note.result c.note.ensures c.loop-over.invariant.told);
      many = omega arith;
      room = omega arith;
    }

pub returns : goal.returns
returns c = notes_done c.args.overs.now c.loop-over.over-index c.loop-over-test.false c.loop-over.notes.items c.loop-over.invariant.told
