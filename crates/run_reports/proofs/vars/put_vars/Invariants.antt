use Rattle.std.proofs.Common.{◌-◌, drop, length}
use Rattle.ada_meaning.specs.Stored.{finals_of}
use Rattle.typed_tree.specs.Programs.{program}
use Rattle.run_reports.specs.Ends.{values_of}
use Rattle.run_reports.specs.Puts.{Putting}
use Rattle.run_reports.specs.Vars.{vars_lines}
use Rattle.run_reports.proofs.vars.put_vars.Given as goal

abbrev pub invariant-loop-i : goal.invariant-loop-i
invariant-loop-i g l =
    Putting (vars_lines l.variables (values_of (program l.typed) l.finals)) (g.O.Sink.state l.fn.out) (g.O.Sink.state l.out) (vars_lines (drop l.i l.variables) (finals_of (program l.typed) l.finals.kept (drop l.i l.finals.declared)))

abbrev pub decreases-loop-i : goal.decreases-loop-i
decreases-loop-i g l = length l.variables - l.i
