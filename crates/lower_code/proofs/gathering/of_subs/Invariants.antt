use Rattle.std.proofs.Common.{◌≡◌, ◌-◌, drop, length}
use Rattle.std.specs.Prelude.{IsTrue}
use Rattle.lower_emission.specs.Texts.{gathered, subs_texts}
use Rattle.lower_values.specs.Words.{program_of}
use Rattle.lower_code.proofs.gathering.of_subs.Given as goal

-- what is gathered, and what is still to be gathered
abbrev pub invariant-loop-sub : goal.invariant-loop-sub
invariant-loop-sub l = IsTrue l.out.whole → IsTrue l.fn.out.whole × (gathered l.out.texts (subs_texts (drop l.number (program_of l.typed).subs)) ≡ gathered l.fn.out.texts (subs_texts (program_of l.typed).subs))

abbrev pub decreases-loop-sub : goal.decreases-loop-sub
decreases-loop-sub l = length (program_of l.typed).subs - l.number
