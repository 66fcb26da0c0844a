-- What is left of a loop that an exit of it leaves.
use Rattle.std.specs.Prelude.{ℕ, nat_eq, cond, Result, Ok, Err}
use Rattle.run_values.specs.declared.ends.End.{End}
use Rattle.run_values.specs.declared.ends.End.TheVariants as end
use Rattle.run_values.specs.declared.ends.Leave.TheVariants as leave

abbrev pub caught_exit : ℕ → ℕ → Result (Unit {0}) End
caught_exit loop other = cond (nat_eq loop other) (Ok tt) (Err (end.Left (leave.Exits other)))

abbrev pub caught : ℕ → Result (Unit {0}) End → Result (Unit {0}) End
caught loop (Ok v) = Ok v
caught loop (Err (end.Left (leave.Exits other))) = caught_exit loop other
caught loop (Err e) = Err e
