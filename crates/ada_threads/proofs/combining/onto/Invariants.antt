use Rattle.std.proofs.Common.{◌≡◌, drop}
use Rattle.stack_code.specs.declared.code.Code.{Code}
use Rattle.ada_lower.specs.Driven.{onto_by}
use Rattle.ada_threads.proofs.combining.onto.Given as goal

abbrev pub invariant-loop-part : goal.invariant-loop-part
invariant-loop-part l = (c : Code) → onto_by c l.by l.fn.first l.rest ≡ onto_by c l.by l.so_far (drop l.part-index l.rest)
