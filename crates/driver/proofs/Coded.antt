-- The code of a typed program, by what its threads are granted.
use Rattle.std.proofs.Common.{◌≡◌, suc, List, [], ◌∷◌, refl, ap, ◌∙◌}
use Rattle.std.specs.Prelude.{get_or}
use Rattle.typed_tree.specs.declared.typed.Typed.{Typed}
use Rattle.typed_tree.specs.Programs.{program}
use Rattle.check_clashes.specs.declared.granted.Grants.{Grants}
use Rattle.check_conflicts.specs.Answer.{AreGrants}
use Rattle.stack_code.specs.Valid.{Each, IsCountable}
use Rattle.stack_code.specs.declared.code.Code.{Code}
use Rattle.stack_code.specs.declared.code.Lease as code
use Rattle.stack_code.specs.declared.instr.Instr.{Instr}
use Rattle.stack_code.specs.declared.instr.Instr.TheVariants.{Repeat}
use Rattle.lower_emission.specs.Programs.{code_of}
use Rattle.ada_lower.specs.Places.{all_leases}
use Rattle.lower_values.specs.Words.{program_of}
use Rattle.lower_leases.specs.Grants.{granted_by}
use Rattle.lower_leases.specs.Law.{TableLaw}
use Rattle.driver.specs.Coded.{HasCode}

-- lowered with the table of all leases, it is the program's
pub has_code : TableLaw → (t : Typed) (grants : Grants) (leases : List (List code.Lease)) (c : Code) → AreGrants (program t) grants → leases ≡ all_leases (program t) (granted_by grants.owned)
    → c ≡ code_of (program_of t) (λ site. get_or leases site []) → IsCountable c.instrs → HasCode (program t) c
unfolding program_of
has_code table t grants leases c are e is countable = record {
  grants = grants;
  granted = are;
  is = is ∙ ap (λ (ls : List (List code.Lease)). code_of (program t) (λ site. get_or ls site [])) e ∙ table (program t) (granted_by grants.owned);
  countable = countable;
}

-- what holds of each instruction holds of all
with_first : (i : Instr) (is : List Instr) → IsCountable (i ∷ []) → IsCountable is → IsCountable (i ∷ is)
with_first (Repeat n) is one h = (one.0, h)
with_first i is one h = h

pub countable_all : (is : List Instr) → Each is (λ at i. IsCountable (i ∷ [])) → IsCountable is
countable_all [] all = tt
countable_all (i ∷ is) all = with_first i is (all 0 i refl) (countable_all is (λ k x e. all (suc k) x e))
