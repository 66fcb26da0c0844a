use Rattle.std.proofs.Common.{sym}
use Rattle.typed_tree.specs.Programs.{program}
use Rattle.run_reports.proofs.Writing.{vars_more, vars_short, vars_stop}
use Rattle.run_reports.proofs.vars.put_vars.Goals as goal

pub returns-in_default-get : goal.returns-in_default-get
returns-in_default-get g c =
    vars_short (program c.args.typed.now) c.args.finals.now.kept c.args.variables.now c.args.finals.now.declared c.loop-i.i _ (g.O.Sink.state c.args.out.now) (g.O.Sink.state c.loop-i.out) c.loop-i.invariant (sym c.in_default-get.ensures.item)

pub returns-in-Err : goal.returns-in-Err
returns-in-Err g c =
    vars_stop (program c.args.typed.now) c.args.finals.now.kept c.args.variables.now c.args.finals.now.declared c.loop-i.i _ (g.O.Sink.state c.args.out.now) (g.O.Sink.state c.loop-i.out) c.loop-i.invariant
    c.in-Some.variable.now c.in-Some-get.place.now (g.O.Sink.state c.put_line.new.out) c.in-Err.fault (sym c.in-Some.ensures.item) (sym c.in-Some-get.ensures.item) c.in-Err.ensures

pub loop-i-preserved : goal.loop-i-preserved
loop-i-preserved g c =
    vars_more (program c.args.typed.now) c.args.finals.now.kept c.args.variables.now c.args.finals.now.declared c.loop-i.i _ (g.O.Sink.state c.args.out.now) (g.O.Sink.state c.loop-i.out) c.loop-i.invariant
    c.in-Some.variable.now c.in-Some-get.place.now (g.O.Sink.state c.put_line.new.out) (sym c.in-Some.ensures.item) (sym c.in-Some-get.ensures.item) c.in_default-put_line.ensures
