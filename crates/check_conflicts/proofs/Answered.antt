-- What is answered by what is found is what the rules on conflicts ask (9.10.1).
use Rattle.std.proofs.Common.{◌≡◌, Bool, true, false, Some, None, Result, Ok, Err, subst}
use Rattle.typed_tree.specs.Syntax.{Program}
use Rattle.check_effects.specs.Backwards.{CallsBackwards}
use Rattle.check_effects.specs.Conflicts.{IsStrict}
use Rattle.check_clashes.specs.declared.effects.Effects.{Effects}
use Rattle.check_inference.specs.Exact.{AreEffects}
use Rattle.check_clashes.specs.declared.breaches.Pair.{Pair}
use Rattle.check_conflicts.specs.declared.faults.ConflictFault.{ConflictFault}
use Rattle.check_conflicts.specs.declared.faults.ConflictFault.TheVariants as fault
use Rattle.check_clashes.specs.Breaches.{touched_by, clash_by}
use Rattle.check_conflicts.specs.Answer.{IsLeastTouched, TouchedFound, ClashFound, FoundLaw, Verdict}
use Rattle.check_conflicts.specs.Judged.{Judges}

module _ (program : Program) (effects : Effects) (touched : TouchedFound program (touched_by true effects)) (clash : ClashFound program (clash_by effects)) where
  keeps : (strict : Bool) → program.strict ≡ strict → touched_by strict effects ≡ None → program.strict ≡ true → IsStrict program
  keeps true e h t = subst (TouchedFound program) h touched
  keeps false e h t = absurd (cc)

  breaks : (strict : Bool) (p : Pair) → program.strict ≡ strict → touched_by strict effects ≡ Some p → (program.strict ≡ true) × IsLeastTouched program p.first p.second
  breaks true p e h = (e, subst (TouchedFound program) h touched)
  breaks false p e h = absurd (cc)

  pub answers_of : (strict : Bool) (r : Result (Unit {0}) ConflictFault) → program.strict ≡ strict → Judges strict effects r → Verdict program r
  answers_of strict (Ok u) e h = (keeps strict e h.0, subst (ClashFound program) h.1 clash)
  answers_of strict (Err (fault.GlobalTouched at object)) e h = breaks strict (record { first = at; second = object }) e h
  answers_of strict (Err (fault.Clash at other)) e h = (keeps strict e h.0, subst (ClashFound program) h.1 clash)
  answers_of strict (Err fault.OutOfMemory) e h = tt

pub answered : FoundLaw → (program : Program) (effects : Effects) (strict : Bool) (r : Result (Unit {0}) ConflictFault) → program.strict ≡ strict → Judges strict effects r → AreEffects program effects → CallsBackwards program → Verdict program r
answered law program effects strict r e h are back = answers_of program effects (law program effects back are).0 (law program effects back are).1 strict r e h
