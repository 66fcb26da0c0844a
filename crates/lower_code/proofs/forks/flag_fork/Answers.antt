use Rattle.std.proofs.Common.{◌∙◌, sym}
use Rattle.lower_code.proofs.ForkFlags.{flag_none, flag_other, flag_set}
use Rattle.lower_code.proofs.forks.flag_fork.Goals as goal

pub returns-in_default-get : goal.returns-in_default-get
returns-in_default-get c = sym (flag_none c.args.placed c.args.flags.now c.in-Fork.number c.in-Fork.is (sym c.in_default-get.ensures.item))

pub returns-in_default : goal.returns-in_default
returns-in_default c = sym (flag_other c.args.placed c.args.flags.now c.in_default.not-Fork)

pub returns-in-Some : goal.returns-in-Some
returns-in-Some c = c.set.ensures ∙ flag_set c.args.placed c.args.flags.now c.in-Fork.number c.in-Some._flag.now c.in-Fork.is (sym c.in-Some.ensures.item)
