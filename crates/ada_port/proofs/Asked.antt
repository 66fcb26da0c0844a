-- What a source has left shrinks by one byte after another.
use Rattle.std.proofs.Common.{ℕ, List, [], ◌++◌, refl, ◌∙◌}
use Rattle.std.proofs.KnownBytes.{Consumes-nil, Consumes-trans}
use Rattle.ada_port.specs.Ports.{Stream, Gives, GivesAll, GivesUntil}
use Rattle.ada_port.proofs.Faults.{Risen-after_same}

pub Gives-none : {a : Stream} → Gives a a []
Gives-none {a} = record { told = Consumes-nil a.told; faults = refl }

pub Gives-append : {a b c : Stream} {p q : List ℕ} → Gives a b p → Gives b c q → Gives a c (p ++ q)
Gives-append {a} {b} {c} {p} {q} g h =
    record { told = Consumes-trans a.told b.told c.told p q g.told h.told; faults = h.faults ∙ g.faults }

pub GivesAll-append : {a b c : Stream} {p q : List ℕ} → Gives a b p → GivesAll b c q → GivesAll a c (p ++ q)
GivesAll-append {a} {b} {c} {p} {q} g h =
    record { told = Consumes-trans a.told b.told c.told p q g.told h.told; none = h.none; faults = h.faults ∙ g.faults }

pub GivesUntil-append : {a b c : Stream} {p q : List ℕ} → Gives a b p → GivesUntil b c q → GivesUntil a c (p ++ q)
GivesUntil-append {a} {b} {c} {p} {q} g h =
    record { told = Consumes-trans a.told b.told c.told p q g.told h.told; rose = Risen-after_same g.faults h.rose }
