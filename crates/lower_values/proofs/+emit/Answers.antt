use Rattle.lower_values.proofs.Forks.{forked}
use Rattle.lower_values.proofs.+emit.Goals as goal

-- a parallel reduction: what each step did, from the last one back
pub reductions::fork-returns : goal.reductions::fork-returns
reductions::fork-returns t c = λ w.
    let together = c.together.ensures w in
    let put = c.put.ensures.wrote together.0 in
    let aim = c.aim.ensures.wrote put.0 in
    let thread = c.thread.ensures aim.0 in
    let over = c.gap-over.ensures.leaps thread.0 in
    let fork = c.forking.ensures over.0 in
    let opened = c.opened.ensures fork.0 in
    let nest = c.sum-nest.ensures.finds opened.0 in
    let free = c.sum-free.ensures.finds nest.0 in
    let h1 = c.sum-h1.ensures.finds free.0 in (
      h1.0,
      forked c.args.env.now c.args.h c.args.parallel.site c.args.forked.at c.args.forked.attribute c.args.parallel.initial c.args.forked.chunk c.args.forked.iteration c.args.fold.value c.args.fold.by
          h1.1.1 free.1.1 nest.1.1 c.with_free.ensures c.with_nest-inside.ensures c.with_free-2.ensures c.reduction_kind.ensures
          h1.1.0 free.1.0 nest.1.0 opened.1 fork.1 over.1.0 over.1.1 thread.1 aim.1 put.1 together.1,
    )
