use Rattle.std.proofs.Common.{rules, Err, subst, length, ◌<◌, ◌≤◌, []}
use Rattle.run_store.specs.Shows.{entity_of}
use Rattle.run_parts.specs.Words.{cells_at, read_all}
use Rattle.run_parts.proofs.Stepping.{read_step, read_ends, read_done, same_answer}
use Rattle.run_parts.proofs.cells.read_whole.Goals as goal

pub returns-in_err-value : goal.returns-in_err-value
returns-in_err-value g c =
    let lt : c.loop-k.k < length (cells_at c.args.work.now c.args.subtype) = subst (λ z. c.loop-k.k < z) c.loop-k.invariant.counted c.loop-k-test.true in
    same_answer (λ a. a) (read_all c.args.work.now (entity_of c.args.object) c.args.offset [] (cells_at c.args.work.now c.args.subtype)) (Err c.in_err-value.field-0.0) c.from_residual-in_err-value.result c.args.store.now c.args.store.now (search rules)
    (read_ends (read_all c.args.work.now (entity_of c.args.object) c.args.offset [] (cells_at c.args.work.now c.args.subtype)) c.args.store.now c.args.store.now c.args.store.now c.args.work.now (entity_of c.args.object) c.loop-k.at c.loop-k.values (cells_at c.args.work.now c.args.subtype) c.loop-k.k lt c.loop-k.invariant.on c.in_err-value.field-0.0 c.in_err-value.ensures)

pub loop-k-preserved : goal.loop-k-preserved
loop-k-preserved g c =
    let lt : c.loop-k.k < length (cells_at c.args.work.now c.args.subtype) = subst (λ z. c.loop-k.k < z) c.loop-k.invariant.counted c.loop-k-test.true in
    record {
      counted = c.loop-k.invariant.counted;
      on = read_step (read_all c.args.work.now (entity_of c.args.object) c.args.offset [] (cells_at c.args.work.now c.args.subtype)) c.args.store.now c.args.store.now c.args.store.now c.args.work.now (entity_of c.args.object) c.loop-k.at c.loop-k.values (cells_at c.args.work.now c.args.subtype) c.loop-k.k lt c.loop-k.invariant.on c.in_ok-value.value c.in_ok-at.at c.push_value.new.values c.in_ok-value.ensures (search rules) (search rules);
    }

pub returns : goal.returns
returns g c =
    let le : length (cells_at c.args.work.now c.args.subtype) ≤ c.loop-k.k = subst (λ z. z ≤ c.loop-k.k) c.loop-k.invariant.counted c.loop-k-test.false in
    read_done (read_all c.args.work.now (entity_of c.args.object) c.args.offset [] (cells_at c.args.work.now c.args.subtype)) c.args.store.now c.args.store.now c.args.work.now (entity_of c.args.object) c.loop-k.at c.loop-k.values (cells_at c.args.work.now c.args.subtype) c.loop-k.k le c.loop-k.invariant.on
