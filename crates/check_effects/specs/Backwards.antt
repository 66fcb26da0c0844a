-- What is known of effects where names and calls of a program are formed.
use Rattle.std.specs.Prelude.{ℕ, ◌<◌, ◌≤◌, ◌⊎◌}
use Rattle.typed_tree.specs.Syntax.{Program}
use Rattle.ada_meaning.specs.Formed.{IsFormed}
use Rattle.check_effects.specs.Effects.{Item, Calls, InSub, Reached}
use Rattle.check_effects.specs.Conflicts.{HasLayout}

-- a subprogram calls no later one
abbrev pub CallsBackwards : Program → Type 0
CallsBackwards program = (s at callee u : ℕ) → InSub program s (Calls at callee u) → u ≤ s

-- What names give suffices for what the laws on races ask, and for one pass over the subprograms in their order.
abbrev pub FormedLaw : Type 0
FormedLaw = (program : Program) → IsFormed program → HasLayout program × CallsBackwards program

-- What a subprogram reaches stands in its own text or is reached from an earlier one that it calls.
abbrev pub BackwardsLaw : Type 0
BackwardsLaw = (program : Program) → CallsBackwards program → (s : ℕ) (i : Item)
    → (Reached program s i → InSub program s i ⊎ ((at callee u : ℕ) × InSub program s (Calls at callee u) × (u < s) × Reached program u i))
    × (InSub program s i ⊎ ((at callee u : ℕ) × InSub program s (Calls at callee u) × (u < s) × Reached program u i) → Reached program s i)
