use Rattle.std.proofs.Common.{◌≡◌, ◌+◌, ◌-◌, ◌*◌, ◌/◌, ◌%◌, min, get_or, take, sum, ◌∙◌, arith}
use Rattle.ada_base.specs.Cuts.{evens}
use Rattle.run_plan.proofs.Parts.{before-fits, greater-part, least-part, part-fits, part-is, range-is, range-meets, range-within, range-ends}
use Rattle.run_plan.proofs.even_division.even.Goals as goal
use Rattle.run_plan.proofs.even_division.even.Goals.{then-i-more, else-i-more}

part : (c : goal.After-min) → (c.args.n / c.from-k.result * c.from-i.result + c.min.result ≡ sum (take c.args.i (evens c.args.n c.args.k))) × (c.if-i-more.len ≡ get_or (evens c.args.n c.args.k) c.args.i 0)
part c =
    let len : c.if-i-more.len ≡ c.args.n / c.from-k.result + min 1 (c.args.n % c.from-k.result - c.from-i.result) =
    elim c.if-i-more.branch [
      | then-i-more w ↦ w.len-is ∙ greater-part _ _ _ w.if-i-more.true
      | else-i-more w ↦ w.len-is ∙ least-part _ _ _ w.if-i-more.false
    ]
    in part-is c.args.n c.args.k c.args.i c.from-k.result c.from-i.result c.min.result c.if-i-more.len c.from-k.ensures c.from-i.ensures c.min.ensures len c.requires

pub overflow_add-len : goal.overflow_add-len
overflow_add-len c = omega (arith, part-fits c.args.n c.from-k.result c.from-i.result c.if-i-more.true (omega arith))

pub overflow_mul-result : goal.overflow_mul-result
overflow_mul-result c = omega (arith, before-fits c.args.n c.from-k.result c.from-i.result (omega arith))

pub overflow_add-result : goal.overflow_add-result
overflow_add-result c = omega (arith, before-fits c.args.n c.from-k.result c.from-i.result (omega arith))

pub returns-clause-is : goal.returns-clause-is
returns-clause-is c = range-is c.args.n c.args.k c.args.i _ _ (part c)

pub returns-clause-meets : goal.returns-clause-meets
returns-clause-meets c = range-meets c.args.n c.args.k c.args.i _ _ c.requires (part c)

pub returns-clause-within : goal.returns-clause-within
returns-clause-within c = range-within c.args.n c.args.k c.args.i _ _ c.requires (part c)

pub returns-clause-ends : goal.returns-clause-ends
returns-clause-ends c = range-ends c.args.n c.args.k c.args.i _ _ c.requires (part c)
