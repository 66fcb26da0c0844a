use Rattle.std.proofs.Common.{length, sym, arith}
use Rattle.std.proofs.lemmas.Bool.{ltb-true, ltb-false}
use Rattle.ada_port.proofs.Buffers.{first-given, none-given}
use Rattle.ada_port.proofs.sources.SureSourceSource.next.Goals as goal

pub overflow_add-self : goal.overflow_add-self
overflow_add-self c =
    let less = ltb-true c.self.inside.taken (length c.deref.result.now) (sym c.in-Some.ensures.lookup.0) in omega (arith, less, c.deref.type_inv.0)

pub invariant_of-self : goal.invariant_of-self
invariant_of-self c =
    let less = ltb-true c.self.inside.taken (length c.deref.result.now) (sym c.in-Some.ensures.lookup.0) in omega (arith, less, c.deref.ensures.len)

pub returns-in-Some-clause-takes : goal.returns-in-Some-clause-takes
returns-in-Some-clause-takes c =
    rw (← c.self.view_is, ← c.deref.ensures.value) (first-given c.deref.result.now c.self.inside.taken c.in-Some.byte.now (ltb-true c.self.inside.taken (length c.deref.result.now) (sym c.in-Some.ensures.lookup.0)) c.in-Some.ensures.lookup.1)

pub returns-in-None-clause-takes : goal.returns-in-None-clause-takes
returns-in-None-clause-takes c =
    rw (← c.self.view_is, ← c.deref.ensures.value) (none-given c.deref.result.now c.self.inside.taken (ltb-false c.self.inside.taken (length c.deref.result.now) (sym c.in-None.ensures.lookup.0)))
