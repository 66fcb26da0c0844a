use Rattle.std.proofs.Common.{◌+◌, ◌<◌, length, Some, None, arith, refl, ap, ◌∙◌, subst}
use Rattle.ada_workers.specs.Paths.{Fine}
use Rattle.tests_workers.specs.Walks.{walk, plus}
use Rattle.tests_workers.proofs.Stepping.{place_trans, walk_on, walk_over, plus_plus, went}
use Rattle.tests_workers.proofs.walker.WalkerPath.go.Goals as goal

pub returns-in-Some-clause-went : goal.returns-in-Some-clause-went
returns-in-Some-clause-went g c =
    went c.args.self.now c.loop-self.self c.step_once.new.self c.args.view.now.cells c.loop-self.view.cells c.step_once.new.view.cells c.loop-self.invariant.0 c.in-Some.stop c.loop-self.invariant.1 (λ looks e. c.in-Some.ensures.looks looks (ap Some e)) c.loop-self.invariant.2 c.in-Some.ensures.step

pub loop-self-preserved : goal.loop-self-preserved
loop-self-preserved g c =
    let i = c.loop-self.invariant in let e = c.in_default.ensures in let o = e.on refl in let p = c.loop-self.self in let q = c.step_once.new.self in let cs = c.loop-self.view.cells in let ds = c.step_once.new.view.cells in
    let lt : p.at < length p.ops.items = omega (arith, c.loop-self-test.true, c.len.ensures, p.ops.ok.0) in
    let on = walk_on p cs q ds e.step.0 e.step.2 lt o.0 o.1 in (
      i.0 + e.step.0,
      omega (arith, i.1, e.step.1),
      λ b. ap (λ n. walk c.args.self.now n c.args.view.now.cells) (plus_plus i.0 e.step.0 b) ∙ i.2 (plus e.step.0 b) ∙ on b,
      subst (λ z. Fine z.end) (on None) i.3,
      place_trans c.args.view.now c.loop-self.view c.step_once.new.view i.4 e.place,
      e.kept ∙ i.5,
      λ t. e.stays (i.6 t),
    )

pub returns-clause-went : goal.returns-clause-went
returns-clause-went g c = c.loop-self.invariant.2 None ∙ walk_over c.loop-self.self c.loop-self.view.cells None (omega (arith, c.loop-self-test.false, c.len.ensures, c.loop-self.self.ops.ok.0))
