use Rattle.std.proofs.Common.{arith, reverse, sym}
use Rattle.name_expressions.proofs.Choosing.{common_step}
use Rattle.name_rules.specs.Primaries as spec
use Rattle.name_expressions.proofs.conditionals.common.Goals as goal

pub values-preserved-in-Some : goal.values-preserved-in-Some
values-preserved-in-Some c = (
  omega (arith, c.values.invariant.0),
  common_step c.args.values.now c.values.i c.in-Some.value.now c.values.first c.type_or-first.result (spec.common (reverse c.args.values.now) (spec.type_of c.args.last)) c.kind_of-in-Some.result c.composite_in-in-Some.result c.values-test.true (sym c.in-Some.ensures.item)
      c.kind_of-in-Some.ensures c.composite_in-in-Some.ensures c.type_or-first.ensures c.values.invariant.1,
)
