use Rattle.std.proofs.Common.{[], ◌∷◌, ◌+◌, length, sym, subst, ap, ◌∙◌, arith, length-append}
use Rattle.tests_workers.specs.OwnCells.{AllOnOwn}
use Rattle.tests_workers.proofs.Working.{on_own_snoc}
use Rattle.tests_workers.proofs.programs.threads.Goals as goal

pub loop-number-preserved : goal.loop-number-preserved
loop-number-preserved c =
    let i = c.loop-number.invariant in let t = c.in_ok-thread.field-0 in let e = c.in_ok-push.ensures.items in (
      subst (λ ts. AllOnOwn c.args.many 0 ts) (sym e) (on_own_snoc c.args.many 0 c.loop-number.all.items t c.loop-number.number i.0 (omega (arith, i.1)) c.in_ok-thread.ensures),
      ap length e ∙ length-append c.loop-number.all.items (t ∷ []) ∙ ap (λ k. k + 1) i.1,
    )
