-- What was asked for and came.
use Rattle.std.proofs.Common.{◌≡◌, ℕ, ◌+◌, ◌≤◌, List, Option, Ok, refl, arith}
use Rattle.ada_io.specs.declared.input.Holding.{Holding}
use Rattle.ada_io.specs.declared.input.Holding.TheVariants.{Nothing}
use Rattle.ada_io.specs.declared.asking.Looked.TheVariants.{At}
use Rattle.ada_io.specs.Looks.{Looks, came_with, log_with}
use Rattle.ada_port.specs.Ports.{Stream, Takes}

pub looked : (old new : Stream) (held : Holding) (turns took came : ℕ) (log logged : List ℕ) (answer symbol : Option ℕ) → held ≡ Nothing → took ≤ turns → (took ≡ turns → ⊥) → logged ≡ log_with log symbol → answer ≡ symbol → Takes old new (Ok answer)
    → Looks old new held turns took (took + 1) came (came_with came symbol) log logged (At symbol)
looked old new held turns took came log logged answer symbol e within more l is takes =
    rw e (record { left = omega arith; took = refl; came = refl; bytes = l; takes = rw is at takes })
