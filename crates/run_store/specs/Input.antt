-- A number that is read, and where a run begins.
use Rattle.std.specs.Prelude.{ℕ, ◌+◌, ℤ, length, Result, Ok, Err}
use Rattle.ada_meaning.specs.Meaning as meaning
use Rattle.ada_base.specs.Cuts.{One, cuts_of}
use Rattle.ada_io.specs.declared.input.GetEnd.{GetEnd}
use Rattle.ada_io.specs.declared.input.GetEnd.TheVariants as get
use Rattle.ada_io.specs.declared.input.Got.{Got}
use Rattle.ada_meaning.specs.Stored.{Stored, operations, outset}
use Rattle.run_outside.specs.Outside.{Outside}
use Rattle.run_store.specs.Shows.{Image}
use Rattle.run_values.specs.declared.ends.End.{End}
use Rattle.run_values.specs.declared.ends.End.TheVariants as end
use Rattle.run_values.specs.declared.ends.Leave.TheVariants as leave

-- a number is read (A.10.8)
abbrev pub got : ℕ → Stored ℤ
got limit = meaning.got (operations limit (cuts_of One)) limit

abbrev pub number_of : GetEnd → Result ℤ End
number_of (get.Number v) = Ok v
number_of (get.Raise r) = Err (end.Left (leave.Raises r))
number_of get.ReadFault = Err end.ReadFault
number_of get.Spent = Err end.Spent

-- the run after a number was read; what was taken is what came
abbrev pub read_to : Image → Got → Outside → Image
read_to s got o = record { state = record (s.state) { held = o.held; input = o.came; turns = s.state.turns + got.took; taken = length o.came; output = o.put }; coming = o.coming; faults = o.faults }

-- where a run begins, with so many slots and this outside
abbrev pub begins_at : ℕ → Outside → Image
begins_at slots o = record { state = record (outset slots o.came o.put) { held = o.held; taken = length o.came }; coming = o.coming; faults = o.faults }
