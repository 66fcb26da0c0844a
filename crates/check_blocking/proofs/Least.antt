-- What is found of a program is the first call that breaks the rule on nonblocking text (9.5).
use Rattle.std.proofs.Common.{◌≡◌, None, Some, subst}
use Rattle.typed_tree.specs.Syntax.{Program}
use Rattle.ada_meaning.specs.Nonblocking.{KeepsRule}
use Rattle.ada_meaning.specs.Blocked.{Blocked}
use Rattle.ada_meaning.proofs.Unblocked.{blocked_law}
use Rattle.check_calls.specs.declared.calls.Breach.{Breach}
use Rattle.check_calls.specs.First.{first_of}
use Rattle.check_calls.proofs.Least.{AtMost, Told, reached_of, stated_of}
use Rattle.check_blocking.specs.Answer.{IsFirst}

-- where nothing is found the rule is kept
pub keeps_rule : (program : Program) → first_of program ≡ None → KeepsRule program
keeps_rule program e = (blocked_law program).1 (λ t l h. subst (λ found. AtMost found t l) e (reached_of program t l h))

-- where something is found the rule is not kept
pub not_kept : (program : Program) (c : Breach) → first_of program ≡ Some c → ¬ KeepsRule program
not_kept program c e k = (blocked_law program).0 k c.at c.callee (subst (λ found. Told (Blocked program) found) e (stated_of program))

-- what is found is the first call that breaks the rule
pub is_first : (program : Program) (c : Breach) → first_of program ≡ Some c → IsFirst program c.at c.callee
is_first program c e = record {
  breaks = subst (λ found. Told (Blocked program) found) e (stated_of program);
  least = λ t l h. subst (λ found. AtMost found t l) e (reached_of program t l h);
}
