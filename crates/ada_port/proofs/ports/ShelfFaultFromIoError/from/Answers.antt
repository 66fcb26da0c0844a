use Rattle.std.proofs.Common.{refl, sym, ◌∙◌}
use Rattle.ada_port.proofs.Texts.{failed≢lacking}
use Rattle.ada_port.proofs.ports.ShelfFaultFromIoError.from.Goals as goal

pub returns-in-OutOfMemory : goal.returns-in-OutOfMemory
returns-in-OutOfMemory c = (λ e. sym c.kind.ensures ∙ c.in-OutOfMemory.is, λ e. refl)

pub returns-in_default : goal.returns-in_default
returns-in_default c = (λ e. absurd (failed≢lacking e), λ e. absurd (c.in_default.not-OutOfMemory (c.kind.ensures ∙ e)))
