use Rattle.run_outside.proofs.Getting.{port_gets, still_over}
use Rattle.run_outside.proofs.outside.PortsPort.get.Goals as goal

pub returns : goal.returns
returns g c = rw (← c.self.view_is) (port_gets _ _ (g.Out.Sink.state c.self.inside.begun.value) (g.Out.Sink.state c.self.inside.sink) c.self.inside.pieces.bytes _ _ _ _ (λ told. told _) c.get.ensures)

pub invariant_of-self : goal.invariant_of-self
invariant_of-self g c = (c.self.invariant.0, λ told. still_over _ _ (g.Out.Sink.state c.self.inside.begun.value) (g.Out.Sink.state c.self.inside.sink) c.self.inside.pieces.bytes _ _ _ _ (λ t. t _) c.get.ensures (c.self.invariant.1 told) told)
