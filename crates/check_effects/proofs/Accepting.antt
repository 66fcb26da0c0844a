-- What is accepted has no races.
use Rattle.ada_meaning.proofs.Unblocked.{blocked_law}
use Rattle.ada_meaning.specs.Nonblocking.{KeepsRule}
use Rattle.check_effects.specs.Conflicts.{IsDisjoint}
use Rattle.check_effects.specs.Accepted.{AcceptLaw}
use Rattle.check_effects.proofs.Clashes.{clash_law}
use Rattle.check_effects.proofs.Forming.{formed_law}
use Rattle.check_effects.proofs.Quietness.{threads_quiet}
use Rattle.check_effects.proofs.Races.{race_free}

pub accept_law : AcceptLaw
accept_law program a =
    let rule : KeepsRule program = (blocked_law program).1 a.unblocked in
    let laid = (formed_law program a.formed).0 in
    let disjoint : IsDisjoint program = λ k h. (clash_law program k).1 (a.apart k h) in
    (race_free program rule laid disjoint, λ k h. record { disjoint = disjoint k h; laid = laid k h; quiet = threads_quiet program rule k h })
