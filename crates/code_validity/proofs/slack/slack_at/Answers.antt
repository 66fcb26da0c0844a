use Rattle.std.proofs.Common.{arith}
use Rattle.stack_code.proofs.Lists.{there_in}
use Rattle.code_validity.proofs.Slacks.{fit_operands, slack_one}
use Rattle.code_validity.proofs.slack.slack_at.Goals as goal

pub slack_of-requires : goal.slack_of-requires
slack_of-requires c = fit_operands c.args.code.now c.args.at _ _ c.requires.fit
    (there_in c.args.code.now.instrs c.as_slice.result.now c.args.at _ c.as_slice.ensures c.requires.within)
    (there_in c.args.code.now.spots c.as_slice-2.result.now c.args.at _ c.as_slice-2.ensures (omega (arith, c.requires.within, c.requires.long)))

pub returns : goal.returns
returns c = slack_one c.args.code.now c.args.at _ _ c.slack_of.result
    (there_in c.args.code.now.instrs c.as_slice.result.now c.args.at _ c.as_slice.ensures c.requires.within)
    (there_in c.args.code.now.spots c.as_slice-2.result.now c.args.at _ c.as_slice-2.ensures (omega (arith, c.requires.within, c.requires.long)))
    c.slack_of.ensures
