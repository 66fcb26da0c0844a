-- The code of a unit is loaded.
use Rattle.std.proofs.Common.{◌≡◌, ℕ, List, [], ◌∷◌, Bool, true, false, refl, sym, ap, ◌∙◌, subst, eqb-true}
use Rattle.std.proofs.lemmas.Bool.{eq-eqb}
use Rattle.std.specs.Prelude.{nat_eq, cond}
use Rattle.ada_meaning.proofs.Unblocked.{blocked_law}
use Rattle.check_clashes.specs.declared.granted.Grant.{Grant}
use Rattle.check_effects.specs.Accepted.{IsAccepted}
use Rattle.check_effects.specs.Conflicts.{EffectPath}
use Rattle.check_inference.specs.Exact.{effect_path}
use Rattle.lower_emission.specs.Programs.{code_of}
use Rattle.ada_lower.specs.Places.{leases_at}
use Rattle.lower_leases.specs.Grants.{granted_by}
use Rattle.lower_laws.specs.Granted.{paths_at}
use Rattle.name_scopes.specs.Law.{NamedProgramsLaw}
use Rattle.run_loaded.specs.Law.{AcceptedLaw}
use Rattle.run_machine_laws.specs.Programs.{IsLoaded}
use Rattle.stack_code.specs.Valid.{IsCountable}
use Rattle.stack_code.specs.declared.code.Code.{Code}
use Rattle.typed_tree.specs.Programs.{program}
use Rattle.typed_tree.specs.Syntax.{Program}
use Rattle.driver.specs.Coded.{HasCode, IsBuilt, IsTyped}
use Rattle.driver.specs.Kept.{main_frame}
use Rattle.driver.specs.declared.unit.Unit.{Unit}

both : (p q : Bool) → (p ≡ true → q ≡ true) → (q ≡ true → p ≡ true) → p ≡ q
both true q there back = sym (there refl)
both false true there back = back refl
both false false there back = refl

eq_sym : (a b : ℕ) → nat_eq a b ≡ nat_eq b a
eq_sym a b = both (nat_eq a b) (nat_eq b a) (λ e. eq-eqb b a (sym (eqb-true a b e))) (λ e. eq-eqb a b (sym (eqb-true b a e)))

-- both definitions of what is granted at a site say the same
same_grants : (gs : List Grant) (site : ℕ) → granted_by gs site ≡ paths_at site gs
same_grants [] site = refl
same_grants (g ∷ gs) site = λ i. cond (eq_sym site g.site i) ((g.arm, effect_path g.path) ∷ same_grants gs site i) (same_grants gs site i)

pub code_loaded : NamedProgramsLaw → AcceptedLaw → (p : Program) (c : Code) → IsAccepted p → IsTyped p → HasCode p c → (slots : ℕ) × IsLoaded p c (main_frame c) slots
code_loaded names loads p c accepted typed coded =
    let named = names typed.0 typed.1.0 p typed.1.1 in
    let is : c ≡ code_of p (leases_at p (λ site. paths_at site coded.grants.owned)) = coded.is ∙ ap (λ (granted : ℕ → List (ℕ × EffectPath)). code_of p (leases_at p granted)) (λ i site. same_grants coded.grants.owned site i) in
    let loaded = loads p named.0 coded.grants accepted ((blocked_law p).1 accepted.unblocked) named.1 coded.granted (subst (λ (x : Code). IsCountable x.instrs) is coded.countable) in
    (loaded.0, subst (λ (x : Code). IsLoaded p x (main_frame x) loaded.0) (sym is) loaded.1)

-- a unit that was built is loaded on a frame of so many cells
pub loaded_by : NamedProgramsLaw → AcceptedLaw → (unit : Unit) (frame : ℕ) → IsBuilt unit → frame ≡ main_frame unit.code → (slots : ℕ) × IsLoaded (program unit.typed) unit.code frame slots
loaded_by names loads unit frame built same =
    let loaded = code_loaded names loads (program unit.typed) unit.code built.accepted built.named built.coded in
    (loaded.0, subst (λ (n : ℕ). IsLoaded (program unit.typed) unit.code n loaded.0) (sym same) loaded.1)
