use Rattle.std.proofs.Common.{rules}
use Rattle.lower_code.proofs.Starting.{laid_by}
use Rattle.lower_code.proofs.lowering.laid_out.Goals as goal

-- what is written behind nothing is what stands at the outset
pub returns-then-out : goal.returns-then-out
returns-then-out c =
    let k = c.idle_forks.ensures c.if-out.true in
    let m = c.main_declared.ensures k.0 in
    laid_by c.laws.ensures.written c.args.typed.now c.args.texts.now _ _ _ _ _ c.in_ok-parts.ensures.is c.new.ensures (search rules) m.1.0 m.1.1 k.1
