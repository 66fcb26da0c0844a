-- What a run of the machine has done outside is a front of what the program's run by notes does.
use Rattle.std.proofs.Common.{◌≡◌, ℕ, List, [], ◌++◌, Option, Some, None, Result, Ok, Err, Bool, true, false, refl, sym, ◌∙◌, ap, append_assoc}
use Rattle.ada_base.specs.Cuts.{cuts_of}
use Rattle.ada_base.specs.Notes.{ConstructNote, Schedule, InOrder}
use Rattle.typed_tree.specs.Syntax.{Program}
use Rattle.behaviours.specs.Paths.{Exits, Returns, Raises}
use Rattle.ada_meaning.specs.Deeds.{Deed}
use Rattle.ada_meaning.specs.Nonblocking.{KeepsRule}
use Rattle.ada_meaning.specs.Programs.{Setting}
use Rattle.ada_meaning.specs.Stored as stored
use Rattle.ada_meaning.specs.Stored.{Cause, Left as LeftBy, OutOfTurns, NoRoom, CutOff, Misnoted, noted, noted_outset}
use Rattle.ada_meaning.proofs.Recorded.{done_law}
use Rattle.ada_meaning.proofs.StoredProof.{noted_stopped_law}
use Rattle.ada_meaning.proofs.Unblocked.{blocked_law}
use Rattle.stack_code.specs.declared.code.Code.{Code}
use Rattle.stack_code.specs.declared.path.Leave.TheVariants.{Raise}
use Rattle.stack_code.specs.Machine.{Stop, Done, Left, Spent, Cut, Astray}
use Rattle.ada_lower.specs.Driven.{Dyn, Final, Step, Finally, off}
use Rattle.ada_lower.specs.Fits.{Ghost, Fit, Lands}
use Rattle.ada_lower.specs.Outset.{outermost, main_ends}
use Rattle.ada_lower.proofs.ForkDeals.{plan_within}
use Rattle.ada_lower.proofs.WholeLaws.{whole_law}
use Rattle.run_machine_laws.specs.Standing.{done_by, first, schedule}
use Rattle.run_machine_laws.specs.Reading.{Further}
use Rattle.run_machine_laws.specs.Programs.{IsLoaded}
use Rattle.run_machine_laws.specs.Law.{Leads, FrontLaw}
use Rattle.run_machine_laws.proofs.Growing.{goes_further}

-- how the machine stops where the program's run ends so
abbrev pub StopsSo : Result (Unit {0}) Cause → Stop → Type 0
StopsSo (Ok u) x = x ≡ Done None
StopsSo (Err (LeftBy (Raises r))) x = x ≡ Left (Raise r)
StopsSo (Err (LeftBy (Exits n))) x = x ≡ Done None
StopsSo (Err (LeftBy (Returns v))) x = x ≡ Done None
StopsSo (Err OutOfTurns) x = x ≡ Spent
StopsSo (Err NoRoom) x = ⊥
StopsSo (Err CutOff) x = x ≡ Cut
StopsSo (Err Misnoted) x = x ≡ Astray

-- the machine from a step stops so, where it fits the state
pub record Came (limit : ℕ) (c : Code) (from : Step) (s : stored.State) (end : Result (Unit {0}) Cause) : Type 0 where
  pub how : Stop
  pub dyn : Dyn
  pub ghost : Ghost
  pub fit : Fit ghost s dyn
  pub comes : Finally limit c from (record { how = how; dyn = dyn })
  pub so : StopsSo end how

module _ (limit : ℕ) (c : Code) (h : Ghost) (from : Step) (s : stored.State) where
  came : (end : Result (Unit {0}) Cause) → (end ≡ Err NoRoom → ⊥) → Lands limit c (outermost None) main_ends (λ u. Unit {0}) h from 0 (λ u d. off (Done None) d) s end → Came limit c from s end
  came (Ok u) room l = record { how = Done None; dyn = l.1.dyn; ghost = h; fit = l.1.fit; comes = l.1.comes.to (record { how = Done None; dyn = l.1.dyn }) (0, refl); so = refl }
  came (Err (LeftBy (Raises r))) room l = record { how = Left (Raise r); dyn = l.dyn; ghost = h; fit = l.fit; comes = l.comes.to (record { how = Left (Raise r); dyn = l.dyn }) (0, refl); so = refl }
  came (Err (LeftBy (Exits n))) room l = record { how = Done None; dyn = l.dyn; ghost = h; fit = l.fit; comes = l.comes.to (record { how = Done None; dyn = l.dyn }) (0, refl); so = refl }
  came (Err (LeftBy (Returns v))) room l = record { how = Done None; dyn = l.dyn; ghost = h; fit = l.fit; comes = l.comes.to (record { how = Done None; dyn = l.dyn }) (0, refl); so = refl }
  came (Err OutOfTurns) room l = record { how = Spent; dyn = l.dyn; ghost = h; fit = l.fit; comes = l.comes.to (record { how = Spent; dyn = l.dyn }) (0, refl); so = refl }
  came (Err NoRoom) room l = absurd (room refl)
  came (Err CutOff) room l = record { how = Cut; dyn = l.dyn; ghost = h; fit = l.fit; comes = l.comes.to (record { how = Cut; dyn = l.dyn }) (0, refl); so = refl }
  came (Err Misnoted) room l = record { how = Astray; dyn = l.1.dyn; ghost = h; fit = l.1.fit; comes = l.1.comes.to (record { how = Astray; dyn = l.1.dyn }) (0, refl); so = refl }

pub alone : (one : Bool) (told : List ConstructNote) → one ≡ true → schedule one told ≡ InOrder
alone true told e = refl
alone false told e = cc

module _ (program : Program) (set : Setting) (c : Code) (frame slots : ℕ) (is : IsLoaded program c frame slots) where
  pub rule : KeepsRule program
  rule = (blocked_law program).1 is.accepted.unblocked

  -- the machine on the whole code
  pub whole_came : (input before : List ℕ) (notes : Schedule) → let r = (noted program set).does (noted_outset slots input before notes) in Came set.limit c (first notes (cuts_of set.plan) frame input before) r.state r.end
  whole_came input before notes =
      let w = whole_law set.limit (cuts_of set.plan) (plan_within set.plan) program c is.globals is.mains is.texts is.text is.frames slots frame is.depth is.lowered is.countable input before notes in
      let r = (noted program set).does (noted_outset slots input before notes) in
      came set.limit c w.0 (first notes (cuts_of set.plan) frame input before) r.state r.end (is.room set input before notes) w.1

  -- what was done up to a step is a front
  front_of : (input before : List ℕ) (told : List ConstructNote) (x : Step) (done : List Deed) → Leads set c frame input before told x → done_by x ≡ Some done
      → (more : List Deed) × ((noted program set).deeds (noted_outset slots input before (schedule set.one told)) ≡ done ++ more)
  front_of input before told x done leads kept =
      let notes = schedule set.one told in
      let w = whole_came input before notes in
      let e : Final = record { how = w.how; dyn = w.dyn } in
      let at : Finally set.limit c x e = (leads e).0 w.comes in
      let f : Further (done_by x) e.dyn.world.done = goes_further set.limit c at.0 x e at.1 in
      let all : e.dyn.world.done ≡ Some ((noted program set).deeds (noted_outset slots input before notes)) = w.fit.agrees.done ∙ done_law program set (noted_outset slots input before notes) [] rule refl in
      (f.0, same _ _ (sym all ∙ f.1 ∙ ap (λ o. Rattle.run_machine_laws.specs.Reading.longer o f.0) kept))
    where
      same : (ds es : List Deed) → ◌≡◌ {A = Option (List Deed)} (Some ds) (Some es) → ds ≡ es
      same ds es e = cc

pub front_law : FrontLaw
front_law program set c frame slots is input before told x front back leads kept =
    let f = front_of program set c frame slots is input before told x (front ++ back) leads kept in
    let deeds = f.1 ∙ append_assoc front back f.0 in
    (f.0, deeds, noted_stopped_law program set slots input before (schedule set.one told) (rule program set c frame slots is) (alone set.one told) front (back ++ f.0) deeds)
