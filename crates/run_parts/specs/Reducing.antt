-- What a function that reduces is given, and its checks (4.5.10).
use Rattle.std.specs.Prelude.{Bool, ◌&&◌}
use Rattle.ada_meaning.specs.Values.{is_in}
use Rattle.ada_meaning.specs.Operations.{RangeCheck}
use Rattle.ada_meaning.specs.Stored.{Stored, bind, checks}
use Rattle.run_parts.specs.declared.reducers.Both.{Both}
use Rattle.run_parts.specs.declared.work.Work.{Work}

abbrev pub both_hold : Both → Bool
both_hold b = is_in b.accumulator b.a && is_in b.value b.b

abbrev pub both_checked : Work → Both → Stored (Unit {0})
both_checked w b = bind (checks RangeCheck b.at (is_in b.accumulator b.a)) (λ _. checks RangeCheck b.at (is_in b.value b.b))
