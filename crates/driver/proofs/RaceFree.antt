-- What compiling accepts has no races.
use Rattle.std.proofs.Common.{ℕ, List, Result, Ok, Err, subst, sym}
use Rattle.std.specs.Prelude.{IfOk}
use Rattle.check_effects.proofs.Accepting.{accept_law}
use Rattle.check_effects.specs.Accepted as effects
use Rattle.ada_meaning.proofs.Unblocked.{blocked_law}
use Rattle.ada_meaning.specs.Formed.{IsFormed}
use Rattle.ada_meaning.specs.Law.{IsRaceFree}
use Rattle.ada_meaning.specs.Nonblocking.{KeepsRule}
use Rattle.typed_tree.specs.Programs.{program}
use Rattle.typed_tree.specs.Syntax.{Program}
use Rattle.name_formed.proofs.FormsPrograms.{formed_programs_law}
use Rattle.name_symbols.specs.Naming.{names_of}
use Rattle.driver.specs.Compile.{AreApart, Decides, IsAccepted, compiling}
use Rattle.driver.specs.Compiled.{Compiled, compiled_of}
use Rattle.driver.specs.declared.refusal.Refusal.{Refusal}
use Rattle.driver.specs.declared.unit.Unit.{Unit}

pub accepts : (p : Program) → KeepsRule p → IsFormed p → AreApart p → effects.IsAccepted p
accepts p rule formed (strict, free) = record { formed = formed; unblocked = (blocked_law p).0 rule; apart = free; strict = strict }

-- the typed program of an accepted text is accepted
pub accepted_program : (text : List ℕ) (c : Compiled) → IsAccepted text c → effects.IsAccepted c.program
accepted_program text c (t, lexed, (tree, parsed, (p, typed, (q, (rule, same), (s, (apart, same'), unit))))) =
    let formed : IsFormed p = formed_programs_law (names_of t tree) tree p (sym typed) in
    let of_s : effects.IsAccepted s = subst effects.IsAccepted (sym same') (accepts q (subst KeepsRule (sym same) rule) (subst IsFormed (sym same) formed) apart) in
    subst (λ (x : Compiled). effects.IsAccepted x.program) (sym unit) of_s

pub accepted_race_free : (text : List ℕ) (c : Compiled) → IsAccepted text c → IsRaceFree c.program
accepted_race_free text c is = (accept_law c.program (accepted_program text c is)).0

pub unit_race_free : (text : List ℕ) (r : Result Unit Refusal) → Decides compiling compiled_of text r → IfOk r (λ (unit : Unit). IsRaceFree (program unit.typed))
unit_race_free text (Ok unit) accepted = accepted_race_free text (compiled_of unit) accepted
unit_race_free text (Err refusal) told = tt
