use Rattle.std.proofs.Common.{refl}
use Rattle.typed_tree.specs.Programs.{program}
use Rattle.check_conflicts.proofs.Admitted.{admitted, refused}
use Rattle.check_conflicts.proofs.accept.accept.Goals as goal

pub returns-in-Err : goal.returns-in-Err
returns-in-Err c = λ known back. refused (program c.args.typed.now) c.args.effects.now c.args.typed.now.strict refl known back c.in-Err.fault c.in-Err.ensures

pub returns-in-Ok-grants_of : goal.returns-in-Ok-grants_of
returns-in-Ok-grants_of c = λ known back. admitted (program c.args.typed.now) c.args.effects.now c.args.typed.now.strict refl known back c.in-Ok-grants_of.grants c.in-Ok.ensures c.in-Ok-grants_of.ensures
