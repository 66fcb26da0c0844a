use Rattle.std.proofs.Common.{rules, arith}
use Rattle.typed_parts.proofs.Chains.{link_below, rejoins_on}
use Rattle.typed_parts.proofs.Stacks.{stays_on}
use Rattle.typed_parts.proofs.parts.Parts.+settled.Goals as goal

pub settled-rejoin-requires : goal.settled-rejoin-requires
settled-rejoin-requires t c =
    let h = c.loop-link.invariant in
    let b = link_below _ _ _ _ c.in-Some.ensures h.rejoins.below in
    (search (rules, b.1), omega (arith, b.1, c.requires, h.stays.more))

pub settled-loop-link-preserved : goal.settled-loop-link-preserved
settled-loop-link-preserved t c =
    let h = c.loop-link.invariant in
    let b = link_below _ _ _ _ c.in-Some.ensures h.rejoins.below in
    record {
      rejoins = rejoins_on _ _ _ _ _ _ _ _ _ _ h.rejoins c.in-Some.ensures (h.stays.same _ (omega (arith, b.1, c.requires))) c.in_ok-rejoin.ensures.0;
      stays = stays_on _ _ _ h.stays c.in_ok-rejoin.ensures.1;
    }
