use Rattle.std.proofs.Common.{arith}
use Rattle.std.specs.Prelude.{slice_get}
use Rattle.stack_code.proofs.Lists.{has_map, has_both}
use Rattle.code_validity.proofs.slack.joined.Goals as goal

pub returns : goal.returns
returns c = λ k u. (
  λ h. (
    record { body = has_map (slice_get c.args.code.now.spots u.handler) _ _ (λ x e. ((c.common.ensures x.body).0 e).0) h.body; nest = omega (arith, h.nest, c.min-2.ensures); room = omega (arith, h.room, c.min.ensures); first = ((c.later.ensures k).0 h.first).0 },
    record { body = has_map (slice_get c.args.code.now.spots u.handler) _ _ (λ x e. ((c.common.ensures x.body).0 e).1) h.body; nest = omega (arith, h.nest, c.min-2.ensures); room = omega (arith, h.room, c.min.ensures); first = ((c.later.ensures k).0 h.first).1 },
  ),
  λ p. record { body = has_both (slice_get c.args.code.now.spots u.handler) _ _ _ (λ x e f. (c.common.ensures x.body).1 (e, f)) p.0.body p.1.body; nest = omega (arith, p.0.nest, p.1.nest, c.min-2.ensures); room = omega (arith, p.0.room, p.1.room, c.min.ensures); first = (c.later.ensures k).1 (p.0.first, p.1.first) },
)
