-- What is permitted of accepted programs.
use Rattle.typed_tree.specs.Syntax.{Program}
use Rattle.ada_meaning.specs.Nonblocking.{KeepsRule}
use Rattle.ada_meaning.proofs.Unblocked.{blocked_law}
use Rattle.ada_meaning.proofs.Law.{sequential_law, only_law}
use Rattle.check_effects.specs.Accepted.{IsAccepted}
use Rattle.check_effects.proofs.Accepting.{accept_law}
use Rattle.run_machine_laws.specs.Law.{CalmLaw, OnlyLaw}

keeps : (program : Program) → IsAccepted program → KeepsRule program
keeps program is = (blocked_law program).1 is.unblocked

pub calm_law : CalmLaw
calm_law program set input early o is plan permitted calm =
    let s = sequential_law program set input (keeps program is) plan (accept_law program is).0 calm in
    ((λ itself. s.0 early o permitted itself), s.2 early o permitted)

pub only_permitted : OnlyLaw
only_permitted program set input o o' early is permitted itself other itself' = only_law program set input o o' early (keeps program is) (accept_law program is).0 permitted itself other itself'
