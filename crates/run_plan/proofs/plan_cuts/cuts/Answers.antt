use Rattle.std.proofs.Common.{◌≡◌, rules}
use Rattle.ada_base.specs.Cuts.{cuts_of}
use Rattle.run_plan.specs.Plans.{plan_of}
use Rattle.run_plan.proofs.Sound.{cuts-sound}
use Rattle.run_plan.proofs.plan_cuts.cuts.Goals as goal

pub returns-clause-sound : goal.returns-clause-sound
returns-clause-sound c =
    let is : c.match-plan.sizes ≡ cuts_of (plan_of c.args.plan.now) c.args.most c.args.n = search rules in
    rw is (cuts-sound c.args.plan.now c.args.n c.args.most c.requires.no_zero c.requires.some)
