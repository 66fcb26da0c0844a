use Rattle.std.proofs.Common.{◌∙◌, sym}
use Rattle.lower_code.proofs.Grown.{sub_none, sub_other, sub_set}
use Rattle.lower_code.proofs.body_tables.raise_sub.Goals as goal

pub returns-in_default-get : goal.returns-in_default-get
returns-in_default-get c = sym (sub_none c.args.placed c.args.subs.now c.in-Sub.number c.in-Sub.is (sym c.in_default-get.ensures.item))

pub returns-in_default : goal.returns-in_default
returns-in_default c = sym (sub_other c.args.placed c.args.subs.now c.in_default.field-0 c.in_default.is)

pub returns-in-Some : goal.returns-in-Some
returns-in-Some c = c.set.ensures ∙ sub_set c.args.placed c.args.subs.now c.in-Sub.number c.in-Some.sub.now c.raised.result c.in-Sub.is (sym c.in-Some.ensures.item) c.raised.ensures
