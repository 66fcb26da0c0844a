use Rattle.std.proofs.Common.{refl, arith}
use Rattle.ada_port.proofs.Buffers.{Consumes-buffered, Consumes-read, none-read, prepend-none}
use Rattle.ada_port.proofs.streams.StreamSourceSource.next.Goals as goal

pub returns-then-self-clause-takes : goal.returns-then-self-clause-takes
returns-then-self-clause-takes g c =
    rw (← c.self.view_is) (record {
      told = Consumes-buffered (g.R.Read.remaining c.self.inside.from) c.self.inside.buffer c.self.inside.start c.self.inside.end c.if-self.true c.self.invariant.1;
      faults = refl;
    })

pub returns-in-Ok-clause-takes : goal.returns-in-Ok-clause-takes
returns-in-Ok-clause-takes g c =
    rw (← c.self.view_is, prepend-none (g.R.Read.remaining c.self.inside.from) c.self.inside.buffer c.self.inside.start c.self.inside.end c.if-self.false) (record {
      told = Consumes-read (g.R.Read.remaining c.self.inside.from) (g.R.Read.remaining c.read.new.self) c.read.new.buf c.in-Ok.count c.in-Ok.ensures.bytes.0 (omega (arith, c.in-Ok.count-test.1)) c.in-Ok.ensures.bound.0;
      faults = refl;
    })

pub returns-in-Ok-eq0-clause-takes : goal.returns-in-Ok-eq0-clause-takes
returns-in-Ok-eq0-clause-takes g c =
    rw (← c.self.view_is, prepend-none (g.R.Read.remaining c.self.inside.from) c.self.inside.buffer c.self.inside.start c.self.inside.end c.if-self.false, prepend-none (g.R.Read.remaining c.read.new.self) c.read.new.buf c.self.inside.start c.self.inside.end c.if-self.false) (record {
      told = none-read (g.R.Read.remaining c.self.inside.from) (g.R.Read.remaining c.read.new.self) c.read.new.buf c.in-Ok-eq0.field-0 (omega arith) c.in-Ok-eq0.ensures.bytes.0;
      none = c.in-Ok-eq0.ensures.bytes.1 (omega arith) (omega arith);
      faults = refl;
    })
