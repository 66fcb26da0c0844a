-- A run that left no construct early, or had one worker, is the only one that ends by itself.
use Rattle.std.proofs.Common.{Bool, ℕ, List, inl, inr, subst}
use Rattle.ada_meaning.proofs.Law.{one_law, only_law}
use Rattle.ada_meaning.proofs.Unblocked.{blocked_law}
use Rattle.ada_meaning.specs.Law.{EndsItself, IsPermitted, Outcome}
use Rattle.ada_meaning.specs.Programs.{Setting}
use Rattle.check_effects.proofs.Accepting.{accept_law}
use Rattle.check_effects.specs.Accepted as effects
use Rattle.typed_tree.specs.Syntax.{Program}
use Rattle.driver.specs.Compile.{IsAccepted}
use Rattle.driver.specs.Compiled.{Compiled}
use Rattle.driver.specs.Running.{IsOnly, IsSettled}
use Rattle.driver.proofs.RaceFree.{accepted_program}

pub only_settled : (p : Program) (set : Setting) (input : List ℕ) (early : Bool) (o : Outcome) → effects.IsAccepted p → IsPermitted p set input early o → IsSettled set early → EndsItself o.ending → IsOnly p set input o
only_settled p set input early o accepted permitted (inl none) itself =
    λ left other run ends. only_law p set input o other left ((blocked_law p).1 accepted.unblocked) (accept_law p accepted).0 (subst (λ e. IsPermitted p set input e o) none permitted) itself run ends
only_settled p set input early o accepted permitted (inr one) itself =
    λ left other run ends. one_law p set input o other early left ((blocked_law p).1 accepted.unblocked) one permitted itself run ends

-- so it is of an accepted text
pub accepted_only : (text : List ℕ) (c : Compiled) (set : Setting) (input : List ℕ) (early : Bool) (o : Outcome) → IsAccepted text c → IsPermitted c.program set input early o → IsSettled set early → EndsItself o.ending → IsOnly c.program set input o
accepted_only text c set input early o accepted permitted settled itself = only_settled c.program set input early o (accepted_program text c accepted) permitted settled itself
