use Rattle.std.proofs.Common.{◌≡◌, drop}
use Rattle.lower_code.specs.BodyTables as spec
use Rattle.lower_code.specs.BodyTables.{each}
use Rattle.lower_code.proofs.body_tables.raise_subs.Given as goal

abbrev pub invariant-loop-placed : goal.invariant-loop-placed
invariant-loop-placed l = each (λ k s. spec.sub_after (drop l.placed-index l.code) k s) 0 l.subs ≡ each (λ k s. spec.sub_after l.code k s) 0 l.fn.subs
