use Rattle.std.proofs.Common.{◌∙◌, sym}
use Rattle.lower_code.proofs.Grown.{need_none, need_other, need_set}
use Rattle.lower_code.proofs.body_tables.raise_site.Goals as goal

pub returns-in_default-get : goal.returns-in_default-get
returns-in_default-get c = sym (need_none c.args.placed c.args.sites.now c.in-Site.number c.in-Site.is (sym c.in_default-get.ensures.item))

pub returns-in_default : goal.returns-in_default
returns-in_default c = sym (need_other c.args.placed c.args.sites.now c.in_default.field-0 c.in_default.is)

pub returns-in-Some : goal.returns-in-Some
returns-in-Some c = c.set.ensures ∙ need_set c.args.placed c.args.sites.now c.in-Site.number c.in-Some.site.now c.raised.result c.in-Site.is (sym c.in-Some.ensures.item) c.raised.ensures
