use Rattle.std.proofs.Common.{◌+◌, ◌*◌, arith, refl, sym, ◌∙◌, ap, subst, inl, inr}
use Rattle.ada_threads.specs.Areas.{IsRegion}
use Rattle.ada_threads.proofs.LeaseCells.{no_region, a_region}
use Rattle.ada_threads.proofs.regions.region_of.Goals.{then-comb-eq0-via-then-comb-eq0, then-comb-eq0-via-else-comb-eq0+then-run-eq0}
use Rattle.ada_threads.proofs.regions.region_of.Goals as goal

pub returns-then-comb-eq0 : goal.returns-then-comb-eq0
returns-then-comb-eq0 c =
    subst (λ r. IsRegion c.args.comb c.args.run c.args.many r) (sym c.none.ensures) (no_region c.args.comb c.args.run c.args.many (elim c.then-comb-eq0.branch [
      | then-comb-eq0-via-then-comb-eq0 w ↦ inl (omega (arith, w.if-comb-eq0))
      | then-comb-eq0-via-else-comb-eq0+then-run-eq0 w ↦ inr (omega (arith, w.if-run-eq0))
    ]))

pub returns : goal.returns
returns c = a_region c.args.comb c.args.run c.args.many c.rows_of-rows.result _ c.in_ok-last.last c.in_ok-end.end c.rows_of-rows.ensures refl (omega arith) (omega arith) refl c.in_ok-last.ensures (c.in_ok-end.ensures ∙ ap (λ n. c.in_ok-last.last + 1 * n) c.from.ensures) (omega arith)
