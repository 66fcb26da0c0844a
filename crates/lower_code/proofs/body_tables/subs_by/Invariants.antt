use Rattle.std.proofs.Common.{◌≡◌, ◌++◌, drop}
use Rattle.lower_code.specs.BodyTables as spec
use Rattle.lower_code.proofs.body_tables.subs_by.Given as goal

abbrev pub invariant-loop-start : goal.invariant-loop-start
invariant-loop-start l = l.all ++ spec.subs_by (drop l.start-index l.starts) ≡ spec.subs_by l.starts
