use Rattle.std.proofs.Common.{◌≡◌, ◌-◌, ◌++◌, drop, length}
use Rattle.std.specs.Prelude.{IsTrue}
use Rattle.lower_emission.specs.Bodies.{subs_code}
use Rattle.lower_emission.specs.Emits.{written}
use Rattle.lower_values.specs.Words.{env_of, tables}
use Rattle.lower_code.specs.Starts.{subs_starts}
use Rattle.lower_code.proofs.bodies.subprograms.Given as goal

-- what is written, and what is still to be written
abbrev pub invariant-loop-sub : goal.invariant-loop-sub
invariant-loop-sub l = IsTrue l.out.whole → IsTrue l.fn.out.whole
    × ((written (subs_code (tables l.env) (env_of l.env) l.number (drop l.number (tables l.env).subs)) l.out.code ≡ written (subs_code (tables l.env) (env_of l.env) 0 (tables l.env).subs) l.fn.out.code)
    × (l.subs ++ subs_starts (tables l.env) (env_of l.env) l.number (drop l.number (tables l.env).subs) l.out.code ≡ l.fn.subs ++ subs_starts (tables l.env) (env_of l.env) 0 (tables l.env).subs l.fn.out.code))

abbrev pub decreases-loop-sub : goal.decreases-loop-sub
decreases-loop-sub l = length (tables l.env).subs - l.number
