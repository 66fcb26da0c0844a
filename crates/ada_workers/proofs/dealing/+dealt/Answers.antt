use Rattle.ada_workers.proofs.Sharing.{one_share, up_le, within, low_dealt, high_dealt, both_ran}
use Rattle.ada_workers.proofs.dealing.+dealt.Goals as goal

pub run_dealt-work-requires-clause-share : goal.run_dealt-work-requires-clause-share
run_dealt-work-requires-clause-share g t c = one_share g.T.Duty.number c.args.deal c.args.tasks.now c.even-share.result c.requires.dealt c.if-deal-eq1.true c.even-share.ensures.is c.even-share.ensures.meets

pub run_dealt-overflow_sub-up : goal.run_dealt-overflow_sub-up
run_dealt-overflow_sub-up g t c = up_le g.T.Duty.number c.args.deal c.args.tasks.now c.requires.dealt c.given_away.result c.given_away.ensures.0 c.given_away.ensures.1 c.even-share.result c.even-up.result c.even-share.ensures.is c.even-up.ensures.is

pub run_dealt-split_at_mut-front-requires : goal.run_dealt-split_at_mut-front-requires
run_dealt-split_at_mut-front-requires g t c = within g.T.Duty.number c.args.deal c.args.tasks.now c.requires.dealt c.given_away.result c.given_away.ensures.0 c.given_away.ensures.1 c.even-share.result c.even-up.result c.even-share.ensures.is c.even-up.ensures.is

pub run_dealt-run_both-requires-clause-low : goal.run_dealt-run_both-requires-clause-low
run_dealt-run_both-requires-clause-low g t c _ _ =
    let cut = c.split_at_mut-front in
    low_dealt g.T.Duty.number c.args.deal c.args.tasks.now c.requires.dealt c.given_away.result c.given_away.ensures.0 c.given_away.ensures.1 c.even-share.result c.even-up.result c.even-share.ensures.is c.even-up.ensures.is
    cut.result.0.now cut.result.1.now cut.ensures.value cut.ensures.front_len g.T.Duty.ready c.requires.ready

pub run_dealt-run_both-requires-clause-high : goal.run_dealt-run_both-requires-clause-high
run_dealt-run_both-requires-clause-high g t c _ _ =
    let cut = c.split_at_mut-front in
    high_dealt g.T.Duty.number c.args.deal c.args.tasks.now c.requires.dealt c.given_away.result c.given_away.ensures.0 c.given_away.ensures.1 c.even-share.result c.even-up.result c.even-share.ensures.is c.even-up.ensures.is
    cut.result.0.now cut.result.1.now cut.ensures.value cut.ensures.front_len g.T.Duty.ready c.requires.ready

pub run_dealt-returns : goal.run_dealt-returns
run_dealt-returns g t c =
    let cut = c.split_at_mut-front in
    both_ran g.T.Duty.ran c.args.tasks.now cut.result.0.now cut.result.1.now c.run_both.new.front c.run_both.new.back cut.ensures.value c.run_both.auto.front c.run_both.ensures.low c.run_both.ensures.high
