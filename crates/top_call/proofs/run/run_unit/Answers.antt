use Rattle.top_call.proofs.run.run_unit.Goals as goal

pub returns : goal.returns
returns g c = record { end = c.execute-end.result.end; left = g.O.Sink.state c.execute-end.result.out; tells = λ told. told c.execute-end.result.out; runs = c.execute-end.ensures; ends = c.say_end-status.ensures }
