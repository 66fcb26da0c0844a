-- What is put grows by one piece after another.
use Rattle.std.proofs.Common.{ℕ, List, [], ◌++◌, append_assoc, Option, refl, sym, ap, ◌∙◌}
use Rattle.std.proofs.KnownBytes.{Appends-nil, Appends-trans}
use Rattle.std.specs.Io.KnownBytes.{Appends}
use Rattle.ada_port.specs.Ports.{Stream, AppendsPrefix, Grows, GrowsByPrefix, Breaks}
use Rattle.ada_port.proofs.Faults.{Risen-after_same}

pub AppendsPrefix-append : (a b c : Option (List ℕ)) (p q : List ℕ) → Appends a b p → AppendsPrefix b c q → AppendsPrefix a c (p ++ q)
AppendsPrefix-append a b c p q g h =
    (p ++ h.0, h.1, ap (λ x. p ++ x) h.2 ∙ sym (append_assoc p h.0 h.1), Appends-trans a b c p h.0 g h.3)

pub AppendsPrefix-longer : (a b : Option (List ℕ)) (p q : List ℕ) → AppendsPrefix a b p → AppendsPrefix a b (p ++ q)
AppendsPrefix-longer a b p q g = (g.0, g.1 ++ q, ap (λ x. x ++ q) g.2 ∙ append_assoc g.0 g.1 q, g.3)

pub Grows-none : {a : Stream} → Grows a a []
Grows-none {a} = record { told = Appends-nil a.told; faults = refl }

pub Grows-append : {a b c : Stream} {p q : List ℕ} → Grows a b p → Grows b c q → Grows a c (p ++ q)
Grows-append {a} {b} {c} {p} {q} g h =
    record { told = Appends-trans a.told b.told c.told p q g.told h.told; faults = h.faults ∙ g.faults }

pub GrowsByPrefix-append : {a b c : Stream} {p q : List ℕ} → Grows a b p → GrowsByPrefix b c q → GrowsByPrefix a c (p ++ q)
GrowsByPrefix-append {a} {b} {c} {p} {q} g h =
    record { told = AppendsPrefix-append a.told b.told c.told p q g.told h.told; faults = h.faults ∙ g.faults }

pub GrowsByPrefix-longer : {a b : Stream} {p : List ℕ} (q : List ℕ) → GrowsByPrefix a b p → GrowsByPrefix a b (p ++ q)
GrowsByPrefix-longer {a} {b} {p} q g = record { told = AppendsPrefix-longer a.told b.told p q g.told; faults = g.faults }

pub Breaks-append : {a b c : Stream} {p q : List ℕ} → Grows a b p → Breaks b c q → Breaks a c (p ++ q)
Breaks-append {a} {b} {c} {p} {q} g h =
    record { told = AppendsPrefix-append a.told b.told c.told p q g.told h.told; rose = Risen-after_same g.faults h.rose }

pub Breaks-longer : {a b : Stream} {p : List ℕ} (q : List ℕ) → Breaks a b p → Breaks a b (p ++ q)
Breaks-longer {a} {b} {p} q g = record { told = AppendsPrefix-longer a.told b.told p q g.told; rose = g.rose }
