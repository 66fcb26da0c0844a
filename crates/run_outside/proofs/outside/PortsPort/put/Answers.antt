use Rattle.std.proofs.Common.{Ok}
use Rattle.run_outside.proofs.Getting.{port_puts, port_breaks, tells_still}
use Rattle.run_outside.proofs.outside.PortsPort.put.Goals as goal

pub returns : goal.returns
returns g c = rw (← c.self.view_is, c.with-self-inside.ensures) (port_puts (g.In.Source.state c.self.inside.source) (g.Out.Sink.state c.self.inside.begun.value) _ _ c.self.inside.reader c.self.inside.pieces.bytes c.self.invariant.0 _ c.args.piece.now c.in_ok-put.ensures)

pub returns-in_err-put : goal.returns-in_err-put
returns-in_err-put g c = rw (← c.self.view_is) (port_breaks (g.In.Source.state c.self.inside.source) (g.Out.Sink.state c.self.inside.begun.value) _ _ c.self.inside.reader c.self.inside.pieces.bytes c.self.invariant.0 _ c.args.piece.now c.in_err-put.field-0.0 c.from_residual.result c.in_err-put.ensures c.from_residual.ensures.0)

pub invariant_of-self-2 : goal.invariant_of-self-2
invariant_of-self-2 g c = (tells_still (g.In.Source.state c.self.inside.source) (g.Out.Sink.state c.self.inside.begun.value) _ _ c.self.inside.reader c.self.inside.pieces.bytes c.self.invariant.0 c.args.piece.now (Ok tt) c.in_ok-put.ensures, c.self.invariant.1)
