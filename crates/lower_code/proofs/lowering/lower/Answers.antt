use Rattle.std.proofs.Common.{◌∙◌, ap}
use Rattle.lower_values.specs.Words.{program_of}
use Rattle.lower_code.specs.Lowered.{tabled}
use Rattle.lower_code.proofs.Starting.{lowered_by}
use Rattle.lower_code.proofs.lowering.lower.Goals as goal

pub returns-in-Ok : goal.returns-in-Ok
returns-in-Ok c =
    let code = c.in-Ok.ensures ∙ ap (λ texts. tabled (program_of c.args.typed.now) c.in-Some-laid_out.laid texts c.args.leases) c.into_list.ensures in
    lowered_by c.laws.ensures.written (program_of c.args.typed.now) c.args.leases c.in-Some.texts c.in-Some-laid_out.laid c.in-Ok.code c.in-Some.ensures c.in-Some-laid_out.ensures code
