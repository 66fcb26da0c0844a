use Rattle.typed_tree.specs.Programs.{program}
use Rattle.check_inference.proofs.Whole.{found_told}
use Rattle.check_inference.proofs.infer.infer.Goals as goal

pub returns : goal.returns
returns c = found_told (program c.args.typed.now) c.gathered.result c.gathered.ensures
