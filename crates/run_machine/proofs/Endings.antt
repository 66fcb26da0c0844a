-- How the machine on a program's code may stop.
use Rattle.std.proofs.Common.{◌≡◌, ℕ, zero, suc, ℤ, List, [], ◌++◌, Option, Some, None, Result, Ok, Err, refl, sym, ap, subst}
use Rattle.ada_base.specs.Cuts.{cuts_of}
use Rattle.ada_base.specs.Notes.{ConstructNote, Schedule}
use Rattle.typed_tree.specs.Syntax.{Program}
use Rattle.behaviours.specs.Paths.{Exits, Returns, Raises}
use Rattle.ada_meaning.specs.Deeds.{Deed}
use Rattle.ada_meaning.specs.Programs.{Setting}
use Rattle.ada_meaning.specs.Stored as stored
use Rattle.ada_meaning.specs.Stored.{Cause, Left as LeftBy, OutOfTurns, NoRoom, CutOff, Misnoted, noted, noted_outset}
use Rattle.stack_code.specs.declared.code.Code.{Code}
use Rattle.stack_code.specs.declared.path.Leave.TheVariants.{Raise, Exit, Return}
use Rattle.stack_code.specs.Machine.{State, Stop, Done, Left, Spent, Cut, Asks, Constructs, Stuck, Astray, Comes_to}
use Rattle.stack_code.specs.Runs.{NeverStuck}
use Rattle.ada_lower.specs.Driven.{World, Final, Step, On, Off, Finally, answered, dyn_of, goes, off}
use Rattle.ada_lower.specs.Fits.{Ghost, Lands}
use Rattle.ada_lower.specs.Outset.{outermost, main_ends}
use Rattle.ada_lower.proofs.ForkDeals.{plan_within}
use Rattle.ada_lower.proofs.WholeLaws.{whole_law}
use Rattle.run_machine_laws.specs.Standing.{first, schedule}
use Rattle.run_machine_laws.specs.Programs.{IsLoaded}
use Rattle.run_machine_laws.specs.Law.{StopLaw}
use Rattle.run_machine_laws.specs.Looping.{At}

abbrev EndsWell : Stop → Type 0
EndsWell (Done None) = Unit {0}
EndsWell (Done (Some v)) = ⊥
EndsWell (Left (Raise r)) = Unit {0}
EndsWell (Left (Exit n)) = ⊥
EndsWell (Left (Return v)) = ⊥
EndsWell Spent = Unit {0}
EndsWell Cut = Unit {0}
EndsWell (Asks i) = ⊥
EndsWell (Constructs q) = ⊥
EndsWell Stuck = ⊥
EndsWell Astray = Unit {0}

abbrev ComesWell : ℕ → Code → Step → Type 0
ComesWell limit c x = (e : Final) × Finally limit c x e × EndsWell e.how

module _ (limit : ℕ) (c : Code) (h : Ghost) (from : Step) (s : stored.State) where
  lands : (end : Result (Unit {0}) Cause) → (end ≡ Err NoRoom → ⊥) → Lands limit c (outermost None) main_ends (λ u. Unit {0}) h from 0 (λ u d. off (Done None) d) s end → ComesWell limit c from
  lands (Ok u) room l = (record { how = Done None; dyn = l.1.dyn }, l.1.comes.to (record { how = Done None; dyn = l.1.dyn }) (0, refl), tt)
  lands (Err (LeftBy (Raises r))) room l = (record { how = Left (Raise r); dyn = l.dyn }, l.comes.to (record { how = Left (Raise r); dyn = l.dyn }) (0, refl), tt)
  lands (Err (LeftBy (Exits n))) room l = (record { how = Done None; dyn = l.dyn }, l.comes.to (record { how = Done None; dyn = l.dyn }) (0, refl), tt)
  lands (Err (LeftBy (Returns v))) room l = (record { how = Done None; dyn = l.dyn }, l.comes.to (record { how = Done None; dyn = l.dyn }) (0, refl), tt)
  lands (Err OutOfTurns) room l = (record { how = Spent; dyn = l.dyn }, l.comes.to (record { how = Spent; dyn = l.dyn }) (0, refl), tt)
  lands (Err NoRoom) room l = absurd (room refl)
  lands (Err CutOff) room l = (record { how = Cut; dyn = l.dyn }, l.comes.to (record { how = Cut; dyn = l.dyn }) (0, refl), tt)
  lands (Err Misnoted) room l = (record { how = Astray; dyn = l.1.dyn }, l.1.comes.to (record { how = Astray; dyn = l.1.dyn }) (0, refl), tt)

some_is : (e f : Final) → ◌≡◌ {A = Option Final} (Some e) (Some f) → e ≡ f
some_is e f h = cc

module _ (stops : StopLaw) (program : Program) (set : Setting) (c : Code) (frame slots : ℕ) (is : IsLoaded program c frame slots) (input before : List ℕ) where
  whole : (notes : Schedule) → ComesWell set.limit c (first notes (cuts_of set.plan) frame input before)
  whole notes =
      let w = whole_law set.limit (cuts_of set.plan) (plan_within set.plan) program c is.globals is.mains is.texts is.text is.frames slots frame is.depth is.lowered is.countable input before notes in
      let r = (noted program set).does (noted_outset slots input before notes) in
      lands set.limit c w.0 (first notes (cuts_of set.plan) frame input before) r.state r.end (is.room set input before notes) w.1

  module _ (told : List ConstructNote) (front : List Deed) (s : State) (w : World) (at : At set c frame input before told front s w) where
    abbrev here : World
    here = record w { notes = schedule set.one [] }

    stands : ComesWell set.limit c (On (record { state = s; world = here }))
    stands = let e = whole (schedule set.one (told ++ [])) in (e.0, (at.ends [] e.0).0 e.1, e.2)

    -- where it stops by itself, it is so
    ends_well : (x : Stop) (q : State) → Comes_to set.limit c s x q → answered set.limit c x q here ≡ Off (record { how = x; dyn = dyn_of q here }) → EndsWell x
    ends_well x q to off =
        let e = stands in
        let f : Final = record { how = x; dyn = dyn_of q here } in
        let g : Finally set.limit c (Off f) e.0 = subst (λ y. Finally set.limit c y e.0) off ((stops set.limit c s x q here to e.0).0 e.1) in
        subst (λ y. EndsWell y) (ap (λ (z : Final). z.how) (sym (over g.0 f e.0 g.1))) e.2
      where
        over : (n : ℕ) (f e : Final) → goes set.limit c n (Off f) ≡ Some e → f ≡ e
        over zero f e h = some_is f e h
        over (suc n) f e h = some_is f e h

    pub clear : NeverStuck set.limit c s
    clear q to = ends_well Stuck q to refl

    pub no_value : (v : ℤ) (q : State) → Comes_to set.limit c s (Done (Some v)) q → ⊥
    no_value v q to = ends_well (Done (Some v)) q to refl

    pub no_exit : (n : ℕ) (q : State) → Comes_to set.limit c s (Left (Exit n)) q → ⊥
    no_exit n q to = ends_well (Left (Exit n)) q to refl

    pub no_return : (v : Option ℤ) (q : State) → Comes_to set.limit c s (Left (Return v)) q → ⊥
    no_return v q to = ends_well (Left (Return v)) q to refl
