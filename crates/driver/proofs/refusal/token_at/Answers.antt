use Rattle.std.proofs.Common.{◌+◌, ◌-◌, ◌/◌, sym, ◌∙◌, subst, arith, true≢false}
use Rattle.driver.proofs.Places.{comes_after, comes_by}
use Rattle.driver.specs.Lines.{Precedes}
use Rattle.driver.proofs.refusal.token_at.Goals as goal

pub loop-low-preserved-then-precedes : goal.loop-low-preserved-then-precedes
loop-low-preserved-then-precedes c =
    let inv = c.loop-low.invariant in
    let low = c.loop-low.low in
    let middle = low + (c.loop-low.high - low) / 2 in
    let before = subst (λ p. Precedes p c.args.at) c.place.ensures (c.precedes.ensures.0 c.if-precedes.true) in (
      omega arith,
      inv.1,
      λ token inside here.
          let after = comes_after c.args.tokens.now c.args.at c.requires middle token inside here (omega (arith, inv.1)) before in
          (omega (arith, after), (inv.2 token inside here).1),
    )

pub loop-low-preserved : goal.loop-low-preserved
loop-low-preserved c =
    let inv = c.loop-low.invariant in
    let low = c.loop-low.low in
    let middle = low + (c.loop-low.high - low) / 2 in (
      omega arith,
      omega (arith, inv.1),
      λ token inside here.
          let by = comes_by c.args.tokens.now c.args.at c.requires middle token inside here (λ before. true≢false (sym (c.precedes.ensures.1 (subst (λ p. Precedes p c.args.at) (sym c.place.ensures) before)) ∙ c.if-precedes.false)) in
          ((inv.2 token inside here).0, omega (arith, by)),
    )
