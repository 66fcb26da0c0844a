-- What an end of the machine's run tells.
use Rattle.std.proofs.Common.{◌≡◌, ℕ, ℤ, List, [], ◌∷◌, ◌++◌, length, drop, Some, Bool, refl, sym, ◌∙◌, ap, subst}
use Rattle.std.specs.Prelude.{min}
use Rattle.std.proofs.Math.Seq.{drop-append_seam}
use Rattle.ada_base.specs.Notes.{ConstructNote}
use Rattle.typed_tree.specs.Syntax.{Program}
use Rattle.ada_meaning.specs.Deeds.{Deed, Asked, PutOut, takes_in, output_in, Permits, StopsBetween}
use Rattle.ada_meaning.specs.Law.{Ending, Ended, Raised, TurnsSpent, ReadFault, WriteFault, NoMemory, IsPermitted, IsPlan, Outcome}
use Rattle.ada_meaning.specs.Programs.{Setting}
use Rattle.ada_meaning.specs.Stored as stored
use Rattle.stack_code.specs.declared.code.Code.{Code}
use Rattle.ada_base.specs.Cells.{Cell}
use Rattle.ada_lower.specs.Homes.{main_variables}
use Rattle.ada_lower.specs.Driven.{Final, Off}
use Rattle.ada_lower.specs.Law.{AreFinals}
use Rattle.run_machine_laws.specs.Programs.{IsLoaded}
use Rattle.run_machine_laws.specs.Law.{Leads, ending_by}
use Rattle.run_machine_laws.specs.Telling.{EndsBy, TellLaw, numbers}
use Rattle.run_machine_laws.proofs.Finals.{finals_there}
use Rattle.run_machine_laws.proofs.Fronts.{front_law}
use Rattle.run_machine_laws.proofs.Ends.{end_law}
use Rattle.run_machine_laws.proofs.Calm.{calm_law}

-- of a run that was stopped between deeds the first part says that want of memory may have stopped it
for_memory : (program : Program) (set : Setting) (input : List ℕ) (front back : List Deed) → StopsBetween program set input front back → Permits program set input (output_in front) (takes_in front) NoMemory
for_memory program set input front [] s = s
for_memory program set input front (Asked ∷ back) s = s.0
for_memory program set input front (PutOut piece ∷ back) s = s.0

module _ (program : Program) (set : Setting) (c : Code) (frame slots : ℕ) (is : IsLoaded program c frame slots) (plan : IsPlan set.plan) (input before : List ℕ) (told : List ConstructNote) where
  -- some run is permitted that ends so
  abbrev Permitted : Ending → List ℕ → ℕ → Type 0
  Permitted ending output taken = (early : Bool) × (finals : List (List ℤ)) × IsPermitted program set input early (record { output = output; taken = taken; finals = finals; ending = ending })

  -- and behind a normal end the finals stand in the cells
  abbrev Left : Ending → List (List ℤ) → List Cell → Type 0
  Left ending finals cells = ending ≡ Ended → finals ≡ stored.finals_of program (numbers cells) (main_variables program 0 program.body.decls)

  by_permits : (ending : Ending) (output output' : List ℕ) (asked taken : ℕ) → output' ≡ output → taken ≡ min asked (length input) → Permits program set input output asked ending → Permitted ending output' taken
  by_permits ending output output' asked taken e f p = (
    p.0,
    p.1,
    subst (λ n. IsPermitted program set input p.0 (record { output = output'; taken = n; finals = p.1; ending = ending })) (sym f)
        (subst (λ o. IsPermitted program set input p.0 (record { output = o; taken = min asked (length input); finals = p.1; ending = ending })) (sym e) p.2),
  )

  by_itself : (ending : Ending) (output : List ℕ) (taken : ℕ) (e : Final) → Leads set c frame input before told (Off e) → ending_by e.how ≡ Some ending → e.dyn.world.output ≡ before ++ output → taken ≡ e.dyn.world.taken
      → (t : stored.State) × (early : Bool) × IsPermitted program set input early (record { output = output; taken = taken; finals = stored.finals_of program t.kept t.declared; ending = ending })
      × (ending ≡ Ended → AreFinals (main_variables program 0 program.body.decls) t e.dyn)
  by_itself ending output taken e leads so out took =
      let l = end_law program set c frame slots is input before told e ending leads so in
      let same : drop (length before) e.dyn.world.output ≡ output = ap (drop (length before)) out ∙ drop-append_seam before output in (
        l.0,
        l.1,
        subst (λ n. IsPermitted program set input l.1 (record { output = output; taken = n; finals = stored.finals_of program l.0.kept l.0.declared; ending = ending })) (sym took)
            (subst (λ o. IsPermitted program set input l.1 (record { output = o; taken = e.dyn.world.taken; finals = stored.finals_of program l.0.kept l.0.declared; ending = ending })) same l.2),
        l.4,
      )

  itself : (ending : Ending) (output : List ℕ) (taken : ℕ) (cells : List Cell) (e : Final) → Leads set c frame input before told (Off e) → ending_by e.how ≡ Some ending → e.dyn.world.output ≡ before ++ output → taken ≡ e.dyn.world.taken
      → (ending ≡ Ended → (rest : List Cell) × (cells ≡ e.dyn.cells ++ rest)) → (p : Permitted ending output taken) × Left ending p.1 cells
  itself ending output taken cells e leads so out took front =
      let l = by_itself ending output taken e leads so out took in
      ((l.1, stored.finals_of program l.0.kept l.0.declared, l.2), λ ended. finals_there program l.0 e.dyn cells (front ended).0 (front ended).1 (main_variables program 0 program.body.decls) (l.3 ended))

  permitted : (ending : Ending) (output : List ℕ) (taken : ℕ) (cells : List Cell) → EndsBy set c frame input before told ending output taken cells → (p : Permitted ending output taken) × Left ending p.1 cells
  permitted NoMemory output taken cells (front, s, out) =
      let f = front_law program set c frame slots is input before told s.step front [] s.leads s.done in
      (by_permits NoMemory (output_in front) output (takes_in front) taken out s.took (for_memory program set input front ([] ++ f.0) f.2), λ e. absurd (no_memory e))
    where
      no_memory : NoMemory ≡ Ended → ⊥
      no_memory e = cc
  permitted ReadFault output taken cells (front, more, s, out) =
      let f = front_law program set c frame slots is input before told s.step front (Asked ∷ more) s.leads s.done in
      (by_permits ReadFault (output_in front) output (takes_in front) taken out s.took f.2.1, λ e. absurd (no_fault e))
    where
      no_fault : ReadFault ≡ Ended → ⊥
      no_fault e = cc
  permitted WriteFault output taken cells (front, more, passed, rest, s, out) =
      let f = front_law program set c frame slots is input before told s.step front (PutOut (passed ++ rest) ∷ more) s.leads s.done in
      (by_permits WriteFault (output_in front ++ passed) output (takes_in front) taken out s.took (f.2.1 passed rest refl), λ e. absurd (no_fault e))
    where
      no_fault : WriteFault ≡ Ended → ⊥
      no_fault e = cc
  permitted Ended output taken cells (e, leads, so, out, took, front) = itself Ended output taken cells e leads so out took front
  permitted (Raised r) output taken cells (e, leads, so, out, took, front) = itself (Raised r) output taken cells e leads so out took front
  permitted TurnsSpent output taken cells (e, leads, so, out, took, front) = itself TurnsSpent output taken cells e leads so out took front

pub tell_law : TellLaw
tell_law program set c frame slots is plan input before told ending output taken cells ends =
    let (p, left) = permitted program set c frame slots is plan input before told ending output taken cells ends in
    let o : Outcome = record { output = output; taken = taken; finals = p.1; ending = ending } in
    record {
      finals = p.1;
      early = p.0;
      left = left;
      permitted = p.2;
      calm = λ calm itself. (calm_law program set input p.0 o is.accepted plan p.2 calm).0 itself;
      prefix = λ calm. (calm_law program set input p.0 o is.accepted plan p.2 calm).1;
    }
