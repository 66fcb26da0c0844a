-- Where the machine stops by itself a permitted run ends so.
use Rattle.std.proofs.Common.{◌≡◌, ℕ, List, ◌++◌, length, drop, Option, Some, None, Result, Ok, Err, Bool, true, false, not, cond, true≢false, refl, sym, ◌∙◌, ap, subst}
use Rattle.ada_base.specs.Cuts.{cuts_of}
use Rattle.typed_tree.specs.Syntax.{Program}
use Rattle.behaviours.specs.Paths.{Leave, Exits, Returns, Raises}
use Rattle.ada_meaning.specs.Law.{Ending, Ended, IsPermitted, Outcome}
use Rattle.ada_meaning.specs.Meaning.{raises}
use Rattle.ada_meaning.specs.Programs.{Setting}
use Rattle.ada_meaning.specs.Stored as stored
use Rattle.ada_meaning.specs.Stored.{After, Cause, Left as LeftBy, OutOfTurns, NoRoom, CutOff, Misnoted, Computes, answered, noted, noted_outset, handled, put_out}
use Rattle.ada_meaning.proofs.StoredProof.{noted_law}
use Rattle.stack_code.specs.Machine.{Stop, Done}
use Rattle.ada_lower.specs.Homes.{main_variables}
use Rattle.ada_lower.specs.Driven.{Dyn, Final}
use Rattle.ada_lower.specs.Law.{AreFinals}
use Rattle.ada_lower.proofs.ForkDeals.{plan_within}
use Rattle.ada_lower.proofs.WholeLaws.{value_law}
use Rattle.run_machine_laws.specs.Standing.{first, schedule}
use Rattle.run_machine_laws.specs.Law.{EndLaw, ending_by}
use Rattle.run_machine_laws.proofs.SameEnds.{one_end}
use Rattle.run_machine_laws.proofs.Fronts.{StopsSo, whole_came, rule, alone}

answered_computes : {A : Type 0} (m : stored.Stored A) (s : stored.State) (e : Result A Cause) → (m.does s).end ≡ e → Computes m s (answered e) (m.does s).state
answered_computes m s (Ok a) is = ap (λ z. stored.at (m.does s).state z) is
answered_computes m s (Err x) is = ap (λ z. stored.at (m.does s).state z) is

some_is : (a b : Ending) → ◌≡◌ {A = Option Ending} (Some a) (Some b) → a ≡ b
some_is a b e = cc

none_some : (a : Ending) → ◌≡◌ {A = Option Ending} None (Some a) → ⊥
none_some a e = cc

-- the ending is the one of the program's run
ends_so : (end : Result (Unit {0}) Cause) (x : Stop) (ending : Ending) → StopsSo end x → ending_by x ≡ Some ending → stored.ending_of (answered end) ≡ ending
ends_so (Ok u) x ending so e = some_is _ _ (ap ending_by (sym so) ∙ e)
ends_so (Err (LeftBy (Raises r))) x ending so e = some_is _ _ (ap ending_by (sym so) ∙ e)
ends_so (Err (LeftBy (Exits n))) x ending so e = some_is _ _ (ap ending_by (sym so) ∙ e)
ends_so (Err (LeftBy (Returns v))) x ending so e = some_is _ _ (ap ending_by (sym so) ∙ e)
ends_so (Err OutOfTurns) x ending so e = some_is _ _ (ap ending_by (sym so) ∙ e)
ends_so (Err NoRoom) x ending so e = absurd so
ends_so (Err CutOff) x ending so e = absurd (none_some _ (ap ending_by (sym so) ∙ e))
ends_so (Err Misnoted) x ending so e = absurd (none_some _ (ap ending_by (sym so) ∙ e))

-- only an exception leaves the main procedure
only_raises : (s : stored.State) (e : Result (Unit {0}) Cause) (x : Leave) → (handled s e (λ how. not (raises how)) (λ how. stored.ret tt)).end ≡ Err (LeftBy x) → raises x ≡ true
unfolding stored.ret
only_raises s (Ok u) x e = absurd (no e)
  where
    no : ◌≡◌ {A = Result (Unit {0}) Cause} (Ok u) (Err (LeftBy x)) → ⊥
    no e = absurd (cc)
only_raises s (Err OutOfTurns) x e = cc
only_raises s (Err NoRoom) x e = cc
only_raises s (Err CutOff) x e = cc
only_raises s (Err Misnoted) x e = cc
only_raises s (Err (LeftBy y)) x e = go (raises y) refl e
  where
    left : ◌≡◌ {A = Result (Unit {0}) Cause} (Err (LeftBy y)) (Err (LeftBy x)) → y ≡ x
    left e = cc

    no : ◌≡◌ {A = Result (Unit {0}) Cause} (Ok tt) (Err (LeftBy x)) → ⊥
    no e = absurd (cc)

    go : (c : Bool) → raises y ≡ c → (cond (not c) ((stored.ret {A = Unit {0}} tt).does s) (stored.at s (Err (LeftBy y)))).end ≡ Err (LeftBy x) → raises x ≡ true
    go true is e = sym (ap raises (left e)) ∙ is
    go false is e = absurd (no e)

module _ (program : Program) (set : Setting) where
  main_raises : (s : stored.State) (x : Leave) → ((noted program set).does s).end ≡ Err (LeftBy x) → raises x ≡ true
  unfolding stored.handles
  main_raises s x e = only_raises _ _ x e

  -- a normal end gives a value
  gives_value : (s : stored.State) (end : Result (Unit {0}) Cause) → ((noted program set).does s).end ≡ end → stored.ending_of (answered end) ≡ Ended → end ≡ Ok tt
  gives_value s (Ok u) is e = refl
  gives_value s (Err (LeftBy (Raises r))) is e = cc
  gives_value s (Err (LeftBy (Exits n))) is e = absurd (true≢false (sym (main_raises s (Exits n) is)))
  gives_value s (Err (LeftBy (Returns v))) is e = absurd (true≢false (sym (main_raises s (Returns v) is)))
  gives_value s (Err OutOfTurns) is e = cc
  gives_value s (Err NoRoom) is e = cc
  gives_value s (Err CutOff) is e = cc
  gives_value s (Err Misnoted) is e = cc

abbrev outcome : Program → List ℕ → List ℕ → ℕ → stored.State → Ending → Outcome
outcome program before output taken t ending = record { output = drop (length before) output; taken = taken; finals = stored.finals_of program t.kept t.declared; ending = ending }

outcome_same : (program : Program) (before : List ℕ) (out out' : List ℕ) (taken taken' : ℕ) (t : stored.State) (ending ending' : Ending) → out ≡ out' → taken ≡ taken' → ending ≡ ending' → outcome program before out taken t ending ≡ outcome program before out' taken' t ending'
outcome_same program before out out' taken taken' t ending ending' a b c = ap (λ z. outcome program before z taken t ending) a ∙ ap (λ z. outcome program before out' z t ending) b ∙ ap (λ z. outcome program before out' taken' t z) c

pub end_law : EndLaw
end_law program set c frame slots is input before told e ending leads so =
    let notes = schedule set.one told in
    let s = noted_outset slots input before notes in
    let r = (noted program set).does s in
    let w = whole_came program set c frame slots is input before notes in
    let same : record { how = w.how; dyn = w.dyn } ≡ e = one_end set.limit c (first notes (cuts_of set.plan) frame input before) (record { how = w.how; dyn = w.dyn }) e w.comes ((leads e).1 (0, refl)) in
    let dyn : w.dyn ≡ e.dyn = ap (λ (f : Final). f.dyn) same in
    let how : w.how ≡ e.how = ap (λ (f : Final). f.how) same in
    let ends : stored.ending_of (answered r.end) ≡ ending = ends_so r.end w.how ending w.so (ap ending_by how ∙ so) in
    let n = noted_law program set slots input before notes (answered r.end) r.state (rule program set c frame slots is) (alone set.one told) (answered_computes (noted program set) s r.end refl) in
    let out : r.state.output ≡ e.dyn.world.output = sym w.fit.agrees.output ∙ ap (λ (d : Dyn). d.world.output) dyn in
    let taken : r.state.taken ≡ e.dyn.world.taken = sym w.fit.agrees.taken ∙ ap (λ (d : Dyn). d.world.taken) dyn in (
      r.state,
      n.1.0,
      subst (λ o. IsPermitted program set input n.1.0 o) (outcome_same program before r.state.output e.dyn.world.output r.state.taken e.dyn.world.taken r.state (stored.ending_of (answered r.end)) ending out taken ends) n.1.1,
      sym out ∙ n.0 ∙ ap (λ o. before ++ drop (length before) o) out,
      λ ended. finals (gives_value program set s r.end refl (ends ∙ ended)),
    )
  where
    finals : ((noted program set).does (noted_outset slots input before (schedule set.one told))).end ≡ Ok tt
        → AreFinals (main_variables program 0 program.body.decls) ((noted program set).does (noted_outset slots input before (schedule set.one told))).state e.dyn
    finals value =
        let notes = schedule set.one told in
        let q = value_law set.limit (cuts_of set.plan) (plan_within set.plan) program c is.globals is.mains is.texts is.text is.frames slots frame is.depth is.lowered is.countable input before notes value in
        subst (λ (d : Dyn). AreFinals (main_variables program 0 program.body.decls) ((noted program set).does (noted_outset slots input before notes)).state d)
        (ap (λ (f : Final). f.dyn) (one_end set.limit c (first notes (cuts_of set.plan) frame input before) (record { how = Done None; dyn = q.0 }) e q.1 ((leads e).1 (0, refl)))) q.4
