use Rattle.std.proofs.Common.{◌≡◌, ◌∙◌, ap, rules, arith, ◌≤◌, ◌*◌, ◌-ℤ◌, unsigned_abs}
use Rattle.std.specs.Prelude.{min}
use Rattle.name_expressions.proofs.Widths.{product_whole}
use Rattle.name_expressions.proofs.associations.cells_before.Goals as goal

pub returns : goal.returns
returns c =
    let n : c.unsigned_abs-before.result ≤ 18446744073709551616 = omega arith in
    let m : c.args.apart ≤ 18446744073709551615 = omega arith in
    let b : c.unsigned_abs-before.result ≡ unsigned_abs (c.args.range.0 -ℤ c.args.dimension.low) = search rules in
    c.saturating_mul.ensures
    ∙ ap (λ a. min (c.unsigned_abs-before.result * a) 340282366920938463463374607431768211455) c.from-2.ensures
    ∙ product_whole c.unsigned_abs-before.result c.args.apart n m
    ∙ ap (λ k. k * c.args.apart) b
