use Rattle.std.proofs.Common.{◌∙◌, sym}
use Rattle.lower_code.proofs.Grown.{fork_none, fork_other, fork_set}
use Rattle.lower_code.proofs.body_tables.begin_site.Goals as goal

pub returns-in_default-get : goal.returns-in_default-get
returns-in_default-get c = sym (fork_none c.args.at c.args.placed c.args.sites.now c.in-Fork.number c.in-Fork.is (sym c.in_default-get.ensures.item))

pub returns-in_default : goal.returns-in_default
returns-in_default c = sym (fork_other c.args.at c.args.placed c.args.sites.now c.in_default.not-Fork)

pub returns-in-Some : goal.returns-in-Some
returns-in-Some c = c.set.ensures ∙ fork_set c.args.at c.args.placed c.args.sites.now c.in-Fork.number c.in-Some.site.now c.in-Fork.is (sym c.in-Some.ensures.item)
