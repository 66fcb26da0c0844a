-- What is answered of the rule on nonblocking text (9.5).
use Rattle.std.specs.Prelude.{◌≡◌, ◌<◌, ◌≤◌, ℕ, ◌⊎◌, Result, Ok, Err}
use Rattle.typed_tree.specs.Syntax.{Program}
use Rattle.ada_meaning.specs.Nonblocking.{KeepsRule}
use Rattle.ada_meaning.specs.Blocked.{Blocked}
use Rattle.check_blocking.specs.declared.calls.Blocked as answer-type
use Rattle.check_blocking.specs.declared.calls.Blocked.TheVariants as answer

-- A call of these tokens breaks the rule, and it is the first in the text that does.
pub record IsFirst (program : Program) (at callee : ℕ) : Type 0 where
  pub breaks : Blocked program at callee
  pub least : (token last : ℕ) → Blocked program token last → (at < token) ⊎ ((at ≡ token) × (callee ≤ last))

-- The rule is kept, or it is broken and this is the first call that breaks it.
abbrev pub Answers : Program → Result (Unit {0}) answer-type.Blocked → Type 0
Answers program (Ok u) = KeepsRule program
Answers program (Err (answer.Call at callee)) = IsFirst program at callee × ¬ KeepsRule program
