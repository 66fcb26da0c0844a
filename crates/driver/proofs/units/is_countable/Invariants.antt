use Rattle.std.specs.Prelude.{[], ◌∷◌}
use Rattle.stack_code.specs.Valid.{EachBelow, IsCountable}
use Rattle.driver.proofs.units.is_countable.Given as goal

abbrev pub invariant-loop-at : goal.invariant-loop-at
invariant-loop-at l = EachBelow l.code.instrs (λ at i. IsCountable (i ∷ [])) l.at
