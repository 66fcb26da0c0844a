use Rattle.std.proofs.Common.{◌≡◌, ◌-◌, drop, length}
use Rattle.std.specs.Prelude.{IsTrue}
use Rattle.lower_emission.specs.Emits.{written}
use Rattle.lower_values.specs.Words.{env_of}
use Rattle.lower_code.specs.Idle.{missing}
use Rattle.lower_code.proofs.idle.missing_forks.Given as goal

-- what is written, and what is still to be written
abbrev pub invariant-loop-forked : goal.invariant-loop-forked
invariant-loop-forked l = IsTrue l.out.whole → IsTrue l.fn.out.whole × (written (missing (env_of l.env) l.site (drop l.site l.flags)) l.out.code ≡ written (missing (env_of l.env) 0 l.flags) l.fn.out.code)

abbrev pub decreases-loop-forked : goal.decreases-loop-forked
decreases-loop-forked l = length l.flags - l.site
