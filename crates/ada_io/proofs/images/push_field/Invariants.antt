use Rattle.std.proofs.Common.{◌≡◌, ◌++◌, replicate}
use Rattle.ada_io.proofs.images.push_field.Given as goal

abbrev pub invariant-loop : goal.invariant-loop
invariant-loop l = l.text ≡ l.fn.text ++ replicate l.counter 32
