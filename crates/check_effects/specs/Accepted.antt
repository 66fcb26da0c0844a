-- What is found of a program before it runs, and what follows for its runs.
use Rattle.std.specs.Prelude.{◌≡◌, ℕ, true}
use Rattle.typed_tree.specs.Syntax.{Program}
use Rattle.ada_meaning.specs.Blocked.{Blocked}
use Rattle.ada_meaning.specs.Formed.{IsFormed}
use Rattle.ada_meaning.specs.Law.{IsRaceFree}
use Rattle.check_effects.specs.Effects.{Construct, Holds}
use Rattle.check_effects.specs.Conflicts.{InProgram, Clashes, IsStrict, AllClean}

-- names give that it is formed; no call breaks the rule on nonblocking text, no effects of a construct clash, and where
-- the policy asks for the strict rule no global variable is touched
pub record IsAccepted (program : Program) : Type 0 where
  pub formed : IsFormed program
  pub unblocked : (token last : ℕ) → Blocked program token last → ⊥
  pub apart : (k : Construct) → InProgram program (Holds k) → (at other : ℕ) → Clashes program k at other → ⊥
  pub strict : program.strict ≡ true → IsStrict program

-- What is accepted has no races, and each construct of it is clean, so that cells can be granted to its threads.
abbrev pub AcceptLaw : Type 0
AcceptLaw = (program : Program) → IsAccepted program → IsRaceFree program × AllClean program
