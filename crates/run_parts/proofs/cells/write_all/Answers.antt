use Rattle.std.proofs.Common.{ℤ, Ok, subst, ◌≡◌, to_z, of_z, w64, rules, Err, refl, ◌+◌, drop}
use Rattle.ada_meaning.specs.Stored.{writes}
use Rattle.run_store.specs.Shows.{Shows}
use Rattle.run_parts.specs.Words.{write_all}
use Rattle.run_parts.proofs.Stepping.{write_step, write_ends, write_done, next_fails, same_answer}
use Rattle.run_parts.proofs.cells.write_all.Goals as goal

plain : (v : ℤ) → to_z w64 (of_z w64 v) ≡ v → to_z w64 (of_z w64 v) ≡ v
plain v e = e

pub returns-in_err-write : goal.returns-in_err-write
returns-in_err-write g c =
    same_answer (λ a. a) (write_all c.args.work.now c.args.object c.args.offset c.args.values.now) (Err c.in_err-write.field-0.0) c.from_residual.result c.args.store.now c.write.new.self (search rules)
    (write_ends (write_all c.args.work.now c.args.object c.args.offset c.args.values.now) c.args.store.now c.loop-value.store c.write.new.self c.args.work.now c.args.object c.loop-value.at c.args.values.now c.loop-value.k c.in-Some.value (search rules) c.loop-value.invariant c.in_err-write.field-0.0 (subst (λ (z : ℤ). Shows g.P.Port.Tells (writes c.args.object c.loop-value.at z) (Err c.in_err-write.field-0.0) c.loop-value.store c.write.new.self) (plain c.in-Some.value (search rules)) c.in_err-write.ensures))

pub loop-value-preserved : goal.loop-value-preserved
loop-value-preserved g c =
    write_step (write_all c.args.work.now c.args.object c.args.offset c.args.values.now) c.args.store.now c.loop-value.store c.write.new.self c.args.work.now c.args.object c.loop-value.at c.args.values.now c.loop-value.k c.in-Some.value (search rules) c.loop-value.invariant c.in_ok-at.at (subst (λ (z : ℤ). Shows g.P.Port.Tells (writes c.args.object c.loop-value.at z) (Ok tt) c.loop-value.store c.write.new.self) (plain c.in-Some.value (search rules)) c.in_ok-write.ensures) (search rules)

pub returns-in_err-at : goal.returns-in_err-at
returns-in_err-at g c =
    next_fails (λ next. next ≡ c.loop-value.at + 1) (write_all c.args.work.now c.args.object c.args.offset c.args.values.now) (write_all c.args.work.now c.args.object (c.loop-value.at + 1) (drop (c.loop-value.k + 1) c.args.values.now)) c.args.store.now c.write.new.self c.from_residual-in_err-at.result c.in_err-at.field-0.0 (search rules) c.in_err-at.ensures
    (write_step (write_all c.args.work.now c.args.object c.args.offset c.args.values.now) c.args.store.now c.loop-value.store c.write.new.self c.args.work.now c.args.object c.loop-value.at c.args.values.now c.loop-value.k c.in-Some.value (search rules) c.loop-value.invariant (c.loop-value.at + 1) (subst (λ (z : ℤ). Shows g.P.Port.Tells (writes c.args.object c.loop-value.at z) (Ok tt) c.loop-value.store c.write.new.self) (plain c.in-Some.value (search rules)) c.in_ok-write.ensures) refl)

pub returns : goal.returns
returns g c = write_done (write_all c.args.work.now c.args.object c.args.offset c.args.values.now) c.args.store.now c.loop-value.store c.args.work.now c.args.object c.loop-value.at c.args.values.now c.loop-value.k (search rules) c.loop-value.invariant
