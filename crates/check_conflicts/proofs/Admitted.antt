-- What is answered of a program that keeps both rules, and of one that doesn't.
use Rattle.std.proofs.Common.{◌≡◌, Bool, Ok, Err, sym, subst}
use Rattle.typed_tree.specs.Syntax.{Program}
use Rattle.ada_meaning.specs.Formed.{IsFormed}
use Rattle.check_effects.proofs.Accepting.{accept_law}
use Rattle.check_effects.proofs.Races.{shares_apart}
use Rattle.check_effects.specs.Accepted.{IsAccepted}
use Rattle.check_effects.specs.Backwards.{CallsBackwards}
use Rattle.check_clashes.specs.declared.effects.Effects.{Effects}
use Rattle.check_clashes.specs.declared.granted.Grants.{Grants}
use Rattle.check_clashes.specs.Granted.{grants_of}
use Rattle.check_inference.specs.Exact.{AreEffects}
use Rattle.check_conflicts.specs.declared.faults.ConflictFault.{ConflictFault}
use Rattle.check_conflicts.specs.Answer.{AreGrants, IsAdmitted, IsUnblocked, Refuses, Verdict}
use Rattle.check_conflicts.specs.Judged.{Judges}
use Rattle.check_conflicts.proofs.Answered.{answered}
use Rattle.check_conflicts.proofs.Found.{found_law}
use Rattle.check_conflicts.proofs.Granting.{are_grants}

module _ (program : Program) (effects : Effects) (strict : Bool) (same : program.strict ≡ strict) (known : AreEffects program effects) (back : CallsBackwards program) where
  accepted : Verdict program (Ok tt) → IsFormed program → IsUnblocked program → IsAccepted program
  accepted keeps formed unblocked = record { formed = formed; unblocked = unblocked; apart = keeps.1; strict = keeps.0 }

  admits : (grants : Grants) → Verdict program (Ok tt) → grants ≡ grants_of effects → IsAdmitted program grants
  admits grants keeps are = record {
    strict = keeps.0;
    apart = keeps.1;
    grants = subst (AreGrants program) (sym are) (are_grants program effects back known);
    race_free = λ formed unblocked. (accept_law program (accepted keeps formed unblocked)).0;
    lent_apart = λ formed unblocked k held. shares_apart program k ((accept_law program (accepted keeps formed unblocked)).1 k held);
  }

  pub admitted : (grants : Grants) → Judges strict effects (Ok tt) → grants ≡ grants_of effects → IsAdmitted program grants
  admitted grants judged are = admits grants (answered found_law program effects strict (Ok tt) same judged known back) are

  pub refused : (f : ConflictFault) → Judges strict effects (Err f) → Refuses program f
  refused f judged = answered found_law program effects strict (Err f) same judged known back
