use Rattle.std.proofs.Common.{◌+◌, ap, ◌∙◌, w64, arith}
use Rattle.std.proofs.lemmas.Int.{ints, to_z-of_z}
use Rattle.ada_machine.proofs.Counts.{many_none, many_some}
use Rattle.ada_machine.proofs.lines.many.Goals as goal

pub returns-then-last-first : goal.returns-then-last-first
returns-then-last-first c = many_none c.args.first c.args.last (omega (arith, ints))

pub returns : goal.returns
returns c =
    let first = to_z-of_z w64 c.args.first c.ranges.first in
    let last = to_z-of_z w64 c.args.last c.ranges.last in
    ap (λ n. n + 1) (c.from.ensures ∙ simp (first, last) at c.abs_diff.ensures) ∙ many_some c.args.first c.args.last (omega (arith, ints))
