use Rattle.typed_tree.specs.Programs.{program}
use Rattle.driver.proofs.RaceFree.{accepts}
use Rattle.driver.proofs.compiler.finished.Goals as goal

pub built-requires-clause-accepted : goal.built-requires-clause-accepted
built-requires-clause-accepted c = accepts (program c.args.typed) c.requires.keeps c.requires.formed c.in-Ok.ensures.apart.0
