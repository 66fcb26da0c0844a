-- The steps of the loop that runs the machine.
use Rattle.std.proofs.Common.{◌≡◌, ℕ, zero, suc, ◌+◌, ◌-◌, ℤ, List, [], ◌∷◌, ◌++◌, length, drop, Option, Some, None, Result, Ok, Err, Bool, true, false, refl, sym, ◌∙◌, ap, subst, arith, append_assoc, append-nil}
use Rattle.std.specs.Prelude.{min}
use Rattle.std.proofs.Math.Seq.{drop-append_seam, drop-append-add}
use Rattle.std.proofs.lemmas.List.{length-append, length-drop, take-append-drop}
use Rattle.ada_base.specs.Cells.{Cell}
use Rattle.ada_base.specs.Cuts.{cuts_of}
use Rattle.ada_base.specs.Notes.{ConstructNote}
use Rattle.ada_base.specs.declared.reason.Reason.{Reason}
use Rattle.ada_io.specs.declared.input.GetEnd.{GetEnd}
use Rattle.ada_io.specs.declared.input.GetEnd.TheVariants.{Number, Raise, ReadFault, Spent as TurnsOver}
use Rattle.ada_io.specs.declared.input.Got.{Got}
use Rattle.ada_io.specs.Gets.{Last, Open, AtEnd, Broken, Gets, ReaderState, last_of}
use Rattle.ada_io.specs.Gets as gets
use Rattle.ada_port.specs.Ports.{Stream}
use Rattle.ada_meaning.specs.Deeds.{Deed, Asked as AskedFor, PutOut, takes_in, output_in}
use Rattle.ada_meaning.specs.Law as law
use Rattle.ada_meaning.specs.Law.{Ending}
use Rattle.ada_meaning.specs.Programs.{Setting}
use Rattle.ada_meaning.specs.Stored.{also_done}
use Rattle.stack_code.specs.declared.code.Code.{Code}
use Rattle.stack_code.specs.declared.path.Gave.{Gave}
use Rattle.stack_code.specs.declared.path.Gave.TheVariants as gave
use Rattle.stack_code.specs.declared.path.Io.TheVariants as io
use Rattle.stack_code.specs.declared.path.Leave.TheVariants as leave
use Rattle.stack_code.specs.Machine.{Frame, State, Stop, Done, Left, Spent, Cut, Asks, Constructs, Stuck, Astray, Comes_to, resumed}
use Rattle.ada_lower.specs.Asking as asking
use Rattle.ada_lower.specs.Driven.{World, Dyn, Path, Final, Step, On, Off, Forks, clip, dyn_of, fork_ended, given_got, after_got, answered, cut_to}
use Rattle.machine_paths.specs.Constructing.{with_schedule}
use Rattle.run_machine_laws.specs.Standing.{SameEnds, first, schedule}
use Rattle.run_machine_laws.specs.Reading.{IsRest, ReadsTo, askings, longer, Further}
use Rattle.run_machine_laws.specs.Law.{Leads}
use Rattle.run_machine_laws.specs.Looping.{At, Over, Begins, Moves, Ends, Wants, PutsOut, ReadsSo, Reads, came, Constructed, LoopLaw}
use Rattle.run_machine_laws.proofs.SameEnds.{same_refl, same_then, same_moves, same_stop, same_fork}
use Rattle.run_machine_laws.proofs.ReadGet.{path_gets}
use Rattle.run_machine_laws.proofs.Growing.{got_done}

-- ---- deeds
pub takes_more : (front ds : List Deed) → takes_in (front ++ ds) ≡ takes_in front + takes_in ds
takes_more [] ds = let z : takes_in ds ≡ 0 + takes_in ds = omega arith in z
takes_more (AskedFor ∷ front) ds = let e = takes_more front ds in let z : suc (takes_in (front ++ ds)) ≡ suc (takes_in front) + takes_in ds = omega (arith, e) in z
takes_more (PutOut piece ∷ front) ds = takes_more front ds

pub output_more : (front ds : List Deed) → output_in (front ++ ds) ≡ output_in front ++ output_in ds
output_more [] ds = refl
output_more (AskedFor ∷ front) ds = output_more front ds
output_more (PutOut piece ∷ front) ds = ap (λ z. piece ++ z) (output_more front ds) ∙ sym (append_assoc piece (output_in front) (output_in ds))

takes_askings : (n : ℕ) → takes_in (askings n) ≡ n
takes_askings zero = refl
takes_askings (suc n) = takes_more (askings n) (AskedFor ∷ []) ∙ ap (λ k. k + 1) (takes_askings n) ∙ (let z : n + 1 ≡ suc n = omega arith in z)

output_askings : (n : ℕ) → output_in (askings n) ≡ []
output_askings zero = refl
output_askings (suc n) = output_more (askings n) (AskedFor ∷ []) ∙ append-nil (output_in (askings n)) ∙ output_askings n

drop_empty : (n : ℕ) → ◌≡◌ {A = List ℕ} (drop n []) []
drop_empty zero = refl
drop_empty (suc n) = refl

drop_more : (k n : ℕ) (xs : List ℕ) → drop (k + n) xs ≡ drop n (drop k xs)
drop_more zero n xs = let z : 0 + n ≡ n = omega arith in ap (λ m. drop m xs) z
drop_more (suc k) n [] = drop_empty (suc k + n) ∙ sym (drop_empty n)
drop_more (suc k) n (x ∷ xs) = let z : suc k + n ≡ suc (k + n) = omega arith in ap (λ m. drop m (x ∷ xs)) z ∙ drop_more k n xs

module _ (set : Setting) (c : Code) (frame : ℕ) (input before : List ℕ) where
  abbrev plan : ℕ → ℕ → List ℕ
  plan = cuts_of set.plan

  abbrev path : State → World → Path
  path s w = record { state = s; world = w }

  -- a run leads to where it stands
  leads_on : (told : List ConstructNote) (x : Step) → SameEnds set.limit c (first (schedule set.one (told ++ [])) plan frame input before) x → Leads set c frame input before told x
  leads_on told x h = subst (λ z. SameEnds set.limit c (first (schedule set.one z) plan frame input before) x) (append-nil told) h

  -- the path with the notes that are left
  abbrev noted : List ConstructNote → State → World → Step
  noted ns s w = On (with_schedule (schedule set.one ns) (path s w))

  begins : Begins set c frame input before
  begins = record { ends = λ ns. same_refl set.limit c _; planned = refl; done = refl; output = sym (append-nil before); taken = let z : 0 ≡ min 0 (length input) = omega arith in z; rest = refl }

  moves : Moves set c frame input before
  moves told front s q w at h = record {
    ends = λ ns. same_then set.limit c _ (noted ns s w) (noted ns q w) (at.ends ns) (same_moves set.limit c s q (record w { notes = schedule set.one ns }) h);
    planned = at.planned;
    done = at.done;
    output = at.output;
    taken = at.taken;
    rest = at.rest;
  }

  -- where the machine stops, by whatever notes are left
  stops : (told : List ConstructNote) (front : List Deed) (s q : State) (w : World) (x : Stop) → At set c frame input before told front s w → Comes_to set.limit c s x q → (ns : List ConstructNote)
      → SameEnds set.limit c (first (schedule set.one (told ++ ns)) plan frame input before) (answered set.limit c x q (record w { notes = schedule set.one ns }))
  stops told front s q w x at h ns = same_then set.limit c _ (noted ns s w) _ (at.ends ns) (same_stop set.limit c s x q (record w { notes = schedule set.one ns }) h)

  clip_world : (fs : List Frame) (d : Dyn) → (clip fs d).world ≡ d.world
  clip_world [] d = refl
  clip_world (f ∷ fs) d = clip_world fs _

  -- the frames of calls stand behind the main frame
  clip_cells : (fs : List Frame) (d : Dyn) → (rest : List Cell) × (d.cells ≡ (clip fs d).cells ++ rest)
  clip_cells [] d = ([], sym (append-nil d.cells))
  clip_cells (f ∷ fs) d =
      let (rest, e) = clip_cells fs (cut_to f.top d) in
      (rest ++ drop f.top d.cells, sym (take-append-drop f.top d.cells) ∙ ap (λ z. z ++ drop f.top d.cells) e ∙ append_assoc (clip fs (cut_to f.top d)).cells rest (drop f.top d.cells))

  not_ended : law.TurnsSpent ≡ law.Ended → ⊥
  not_ended e = cc

  -- it stopped by itself
  module _ (told : List ConstructNote) (front : List Deed) (q : State) (w : World) (out : w.output ≡ before ++ output_in front) where
    abbrev last : Stop → Final
    last x = record { how = x; dyn = dyn_of q w }

    last_output : (x : Stop) → (last x).dyn.world.output ≡ before ++ output_in front
    last_output x = ap (λ (w : World). w.output) (clip_world q.waiting _) ∙ out

    last_taken : (x : Stop) → w.taken ≡ (last x).dyn.world.taken
    last_taken x = sym (ap (λ (w : World). w.taken) (clip_world q.waiting _))

    last_cells : (rest : List Cell) × (q.cells ≡ (last Spent).dyn.cells ++ rest)
    last_cells = clip_cells q.waiting _

    ended : Leads set c frame input before told (Off (last (Done None))) → Over set c frame input before told law.Ended (output_in front) w.taken q.cells
    ended leads = (last (Done None), leads, refl, last_output (Done None), last_taken (Done None), λ is. last_cells)

    raised : (r : Reason) → Leads set c frame input before told (Off (last (Left (leave.Raise r)))) → Over set c frame input before told (law.Raised r) (output_in front) w.taken q.cells
    raised r leads = (last (Left (leave.Raise r)), leads, refl, last_output (Left (leave.Raise r)), last_taken (Left (leave.Raise r)), λ is. last_cells)

    spent : Leads set c frame input before told (Off (last Spent)) → Over set c frame input before told law.TurnsSpent (output_in front) w.taken q.cells
    spent leads = (last Spent, leads, refl, last_output Spent, last_taken Spent, λ is. last_cells)

  none_some : (a : Ending) → ◌≡◌ {A = Option Ending} None (Some a) → ⊥
  none_some a e = cc

  some_is : (a b : Ending) → ◌≡◌ {A = Option Ending} (Some a) (Some b) → a ≡ b
  some_is a b e = cc

  -- the world of a path with the notes that are left is the same but for these
  stopped_at : (told : List ConstructNote) (front : List Deed) (s q : State) (w : World) (x : Stop) → At set c frame input before told front s w → Comes_to set.limit c s x q → Leads set c frame input before told (answered set.limit c x q (record w { notes = schedule set.one [] }))
  stopped_at told front s q w x at h = leads_on told _ (stops told front s q w x at h [])

  ends : Ends set c frame input before
  ends told front s q w (Done None) ending at h so =
      subst (λ z. Over set c frame input before told z (output_in front) w.taken q.cells) (some_is _ _ so) (ended told front q (record w { notes = schedule set.one [] }) at.output (stopped_at told front s q w (Done None) at h))
  ends told front s q w (Done (Some v)) ending at h so = absurd (none_some ending so)
  ends told front s q w (Left (leave.Raise r)) ending at h so =
      subst (λ z. Over set c frame input before told z (output_in front) w.taken q.cells) (some_is _ _ so) (raised told front q (record w { notes = schedule set.one [] }) at.output r (stopped_at told front s q w (Left (leave.Raise r)) at h))
  ends told front s q w (Left (leave.Exit n)) ending at h so = absurd (none_some ending so)
  ends told front s q w (Left (leave.Return v)) ending at h so = absurd (none_some ending so)
  ends told front s q w Spent ending at h so =
      subst (λ z. Over set c frame input before told z (output_in front) w.taken q.cells) (some_is _ _ so) (spent told front q (record w { notes = schedule set.one [] }) at.output (stopped_at told front s q w Spent at h))
  ends told front s q w Cut ending at h so = absurd (none_some ending so)
  ends told front s q w (Asks i) ending at h so = absurd (none_some ending so)
  ends told front s q w (Constructs a) ending at h so = absurd (none_some ending so)
  ends told front s q w Stuck ending at h so = absurd (none_some ending so)
  ends told front s q w Astray ending at h so = absurd (none_some ending so)

  wants : Wants set c frame input before
  wants told front s w cells at = (front, record { step = noted [] s w; leads = leads_on told (noted [] s w) (at.ends []); done = at.done ∙ ap Some (sym (append-nil front)); took = at.taken }, refl)

  -- ---- output
  puts_out : PutsOut set c frame input before
  puts_out told front s q w piece at h = (
    record {
      ends = λ ns. subst (λ o. SameEnds set.limit c (first (schedule set.one (told ++ ns)) plan frame input before) (On (record { state = resumed c gave.Nothing q; world = record w { notes = schedule set.one ns; output = w.output ++ piece; done = o } }))) logged
          (stops told front s q w (Asks (io.Write piece)) at h ns);
      planned = at.planned;
      done = refl;
      output = ap (λ z. z ++ piece) at.output ∙ append_assoc before (output_in front) piece ∙ ap (λ z. before ++ z) (sym (output_more front (PutOut piece ∷ []) ∙ ap (λ z. output_in front ++ z) (append-nil piece)));
      taken = at.taken ∙ ap (λ n. min n (length input)) (sym fewer);
      rest = at.rest ∙ ap (λ n. drop n input) (sym fewer);
    },
    λ passed rest cells split. (
      front,
      [],
      passed,
      rest,
      record {
        step = On (record { state = resumed c gave.Nothing q; world = record w { notes = schedule set.one []; output = w.output ++ piece; done = also_done (PutOut piece) w.done } });
        leads = leads_on told _ (stops told front s q w (Asks (io.Write piece)) at h []);
        done = logged ∙ ap (λ z. Some (front ++ (PutOut z ∷ []))) split;
        took = at.taken;
      },
      refl,
    ),
  )
    where
      logged : also_done (PutOut piece) w.done ≡ Some (front ++ (PutOut piece ∷ []))
      logged = ap (also_done (PutOut piece)) at.done

      fewer : takes_in (front ++ (PutOut piece ∷ [])) ≡ takes_in front
      fewer = takes_more front (PutOut piece ∷ []) ∙ (let z : takes_in front + 0 ≡ takes_in front = omega arith in z)

  -- ---- constructs
  abbrev standing : State → World → ConstructNote → List ConstructNote → Path
  standing q w note ns = with_schedule (schedule set.one (note ∷ ns)) (path q w)

  constructed : Constructed set c frame input before
  constructed told front s q w asked at h note cells turns how forks = (
    (λ g is. record {
      ends = λ ns. subst (λ z. SameEnds set.limit c (first (schedule set.one z) plan frame input before) (noted ns (resumed c g (record q { turns = turns; left = None; cells = cells })) w)) (sym (append_assoc told (note ∷ []) ns))
          (subst (λ (z : Result Gave Stop). SameEnds set.limit c (first (schedule set.one (told ++ (note ∷ ns))) plan frame input before) (fork_ended c (came set c frame input before w cells turns z ns) (standing q w note ns))) is (on ns));
      planned = at.planned;
      done = at.done;
      output = at.output;
      taken = at.taken;
      rest = at.rest;
    }),
    λ is left. spent_there is left,
  )
    where
      on : (ns : List ConstructNote) → SameEnds set.limit c (first (schedule set.one (told ++ (note ∷ ns))) plan frame input before) (fork_ended c (came set c frame input before w cells turns how ns) (standing q w note ns))
      on ns = same_then set.limit c _ (Forks asked (standing q w note ns)) _ (stops told front s q w (Constructs asked) at h (note ∷ ns)) (same_fork set.limit c asked (standing q w note ns) (came set c frame input before w cells turns how ns) (forks ns))

      spent_there : how ≡ Err Spent → (left : List Cell) → Over set c frame input before (told ++ (note ∷ [])) law.TurnsSpent (output_in front) w.taken left
      spent_there is left = (
        record { how = Spent; dyn = clip q.waiting (record { cells = cells; turns = turns; left = None; world = record w { notes = schedule set.one [] } }) },
        subst (λ (z : Result Gave Stop). Leads set c frame input before (told ++ (note ∷ [])) (fork_ended c (came set c frame input before w cells turns z []) (standing q w note []))) is (on []),
        refl,
        ap (λ (w : World). w.output) (clip_world q.waiting _) ∙ at.output,
        sym (ap (λ (w : World). w.taken) (clip_world q.waiting _)),
        λ ended. absurd (not_ended ended),
      )

  -- ---- input
  -- what a Get took, counted
  module _ (front : List Deed) (w : World) (bytes later : List ℕ) (taken : w.taken ≡ min (takes_in front) (length input)) (rest : drop (takes_in front) input ≡ bytes ++ later) where
    left : length input - takes_in front ≡ length bytes + length later
    left = sym (length-drop (takes_in front) input) ∙ ap length rest ∙ length-append bytes later

    asked_in : (n : ℕ) → takes_in (front ++ askings n) ≡ takes_in front + n
    asked_in n = takes_more front (askings n) ∙ ap (λ k. takes_in front + k) (takes_askings n)

    taken_open : (n : ℕ) → n ≡ length bytes → w.taken + n ≡ min (takes_in (front ++ askings n)) (length input)
    taken_open n e = let a = asked_in n in let l = left in omega (arith, taken, e, a, l)

    taken_end : (n m : ℕ) → n ≡ length bytes → m ≡ length bytes + 1 → later ≡ [] → w.taken + n ≡ min (takes_in (front ++ askings m)) (length input)
    taken_end n m e f none = let a = asked_in m in let l = left in let z : length later ≡ 0 = ap length none in omega (arith, taken, e, f, a, l, z)

    rest_open : (n : ℕ) → n ≡ length bytes → later ≡ drop (takes_in (front ++ askings n)) input
    rest_open n e = sym (ap (λ k. drop k input) (asked_in n) ∙ drop_more (takes_in front) n input ∙ ap (drop n) rest ∙ ap (λ k. drop k (bytes ++ later)) e ∙ drop-append_seam bytes later)

    rest_end : (m : ℕ) → m ≡ length bytes + 1 → later ≡ [] → later ≡ drop (takes_in (front ++ askings m)) input
    rest_end m f none = sym (ap (λ k. drop k input) (asked_in m) ∙ drop_more (takes_in front) m input ∙ ap (drop m) rest ∙ ap (λ k. drop k (bytes ++ later)) f ∙ drop-append-add bytes later 1 ∙ ap (drop 1) none ∙ sym none)

    -- where the source gave what it was asked for
    given : (last : Last) (came took : ℕ) → came ≡ length bytes → took ≡ gets.askings last bytes → IsRest last later → (last ≡ Broken → ⊥) → (w.taken + came ≡ min (takes_in (front ++ askings took)) (length input)) × (later ≡ drop (takes_in (front ++ askings took)) input)
    given Open came took e f r sure = (subst (λ n. w.taken + came ≡ min (takes_in (front ++ askings n)) (length input)) (e ∙ sym f) (taken_open came e), rest_open took f)
    given AtEnd came took e f r sure = (taken_end came took e f r, rest_end took f r)
    given Broken came took e f r sure = absurd (sure refl)

  -- whether the end was met or not, the source didn't fail
  not_broken : (e : GetEnd) (met : Bool) → (e ≡ ReadFault → ⊥) → last_of e met ≡ Broken → ⊥
  not_broken (Number v) true sure e = cc
  not_broken (Number v) false sure e = cc
  not_broken (Raise r) true sure e = cc
  not_broken (Raise r) false sure e = cc
  not_broken ReadFault met sure e = sure refl
  not_broken TurnsOver true sure e = cc
  not_broken TurnsOver false sure e = cc

  module _ (told : List ConstructNote) (front : List Deed) (s q : State) (w : World) (at : At set c frame input before told front s w) (h : Comes_to set.limit c s (Asks io.Take) q)
      (old new : Stream) (held after : ReaderState) (turns : ℕ) (got : Got) (g : Gets old new held after turns got) (later : List ℕ) (same : w.held ≡ held.held) (left_over : q.turns + turns ≡ set.limit)
      (rest : w.input ≡ g.bytes ++ later) (is : IsRest (last_of got.end g.ended) later) where
    abbrev from : asking.Reads
    from = record { turns = q.turns; taken = w.taken; held = w.held; input = w.input; done = w.done }

    abbrev to : asking.Reads
    to = record { turns = q.turns + got.took; taken = w.taken + got.came; held = after.held; input = later; done = longer w.done (askings got.took) }

    read : ReadsTo (asking.got set.limit from) got.end to
    read = path_gets set.limit old new held after turns got g from later same left_over rest is

    there : (ns : List ConstructNote) → SameEnds set.limit c (first (schedule set.one (told ++ ns)) plan frame input before) (after_got set.limit c (asking.got set.limit from) q (record w { notes = schedule set.one ns }))
    there ns = stops told front s q w (Asks io.Take) at h ns

    logged : longer w.done (askings got.took) ≡ Some (front ++ askings got.took)
    logged = ap (λ o. longer o (askings got.took)) at.done

    dropped : drop (takes_in front) input ≡ g.bytes ++ later
    dropped = sym at.rest ∙ rest

    counts : (got.end ≡ ReadFault → ⊥) → (w.taken + got.came ≡ min (takes_in (front ++ askings got.took)) (length input)) × (later ≡ drop (takes_in (front ++ askings got.took)) input)
    counts sure = given front w g.bytes later at.taken dropped (last_of got.end g.ended) got.came got.took g.came g.took is (not_broken got.end g.ended sure)

    output : before ++ output_in front ≡ before ++ output_in (front ++ askings got.took)
    output = ap (λ z. before ++ z) (sym (output_more front (askings got.took) ∙ ap (λ z. output_in front ++ z) (output_askings got.took) ∙ append-nil (output_in front)))

    -- the path goes on with an answer
    goes_on : (end : Result ℤ (Option Reason)) (answer : Gave) → ((r : asking.Reads) (w : World) → given_got set.limit c r end q w ≡ On (record { state = resumed c answer (record q { turns = r.turns }); world = record w { taken = r.taken; held = r.held; input = r.input; done = r.done } }))
        → asking.got set.limit from ≡ asking.at to end → (got.end ≡ ReadFault → ⊥)
        → At set c frame input before told (front ++ askings got.took) (resumed c answer (record q { turns = q.turns + got.took })) (record w { taken = w.taken + got.came; held = after.held; input = later; done = Some (front ++ askings got.took) })
    goes_on end answer gives e sure = record {
      ends = λ ns. subst (λ o. SameEnds set.limit c (first (schedule set.one (told ++ ns)) plan frame input before) (On (record { state = resumed c answer (record q { turns = q.turns + got.took }); world = record w { taken = w.taken + got.came; held = after.held; input = later; done = o; notes = schedule set.one ns } }))) logged
          (subst (λ z. SameEnds set.limit c (first (schedule set.one (told ++ ns)) plan frame input before) z) (gives to (record w { notes = schedule set.one ns }))
          (subst (λ z. SameEnds set.limit c (first (schedule set.one (told ++ ns)) plan frame input before) (after_got set.limit c z q (record w { notes = schedule set.one ns }))) e (there ns)));
      planned = at.planned;
      done = refl;
      output = at.output ∙ output;
      taken = (counts sure).0;
      rest = (counts sure).1;
    }

    -- the turns are over
    runs_out : asking.got set.limit from ≡ asking.at to (Err None) → (cells : List Cell) → Over set c frame input before told law.TurnsSpent (output_in front) (w.taken + got.came) cells
    runs_out e cells = (
      record { how = Spent; dyn = clip q.waiting (record { cells = q.cells; turns = q.turns + got.took; left = q.left; world = record w { taken = w.taken + got.came; held = after.held; input = later; done = longer w.done (askings got.took); notes = schedule set.one [] } }) },
      leads_on told _ (subst (λ z. SameEnds set.limit c (first (schedule set.one (told ++ [])) plan frame input before) (after_got set.limit c z q (record w { notes = schedule set.one [] }))) e (there [])),
      refl,
      ap (λ (w : World). w.output) (clip_world q.waiting _) ∙ at.output,
      sym (ap (λ (w : World). w.taken) (clip_world q.waiting _)),
      λ ended. absurd (not_ended ended),
    )

    -- the source failed at the last asking
    fails : got.took ≡ suc got.came → Further (longer w.done (askings got.took)) (asking.got set.limit from).state.done → (cells : List Cell) → Over set c frame input before told law.ReadFault (output_in front) (w.taken + got.came) cells
    fails one more cells =
        let r = asking.got set.limit from in (
          front ++ askings got.came,
          more.0,
          record {
            step = after_got set.limit c r q (record w { notes = schedule set.one [] });
            leads = leads_on told _ (there []);
            done = got_done set.limit c r.state r.end q (record w { notes = schedule set.one [] }) ∙ more.1 ∙ ap (λ o. longer o more.0) logged
                ∙ ap (λ n. Some ((front ++ askings n) ++ more.0)) one ∙ ap Some (append_assoc front (askings got.came ++ (AskedFor ∷ [])) more.0 ∙ ap (λ z. front ++ z) (append_assoc (askings got.came) (AskedFor ∷ []) more.0) ∙ sym (append_assoc front (askings got.came) (AskedFor ∷ more.0)));
            took = taken_open front w g.bytes later at.taken dropped got.came g.came;
          },
          sym (output_more front (askings got.came) ∙ ap (λ z. output_in front ++ z) (output_askings got.came) ∙ append-nil (output_in front)),
        )

    one_more : (e : GetEnd) → e ≡ ReadFault → got.took ≡ gets.askings (last_of e g.ended) g.bytes → got.took ≡ suc got.came
    one_more e is f = let z : last_of e g.ended ≡ Broken = ap (λ e. last_of e g.ended) is in let b : got.took ≡ length g.bytes + 1 = f ∙ ap (λ l. gets.askings l g.bytes) z in let d = g.came in omega (arith, b, d)

    ends_so : (e : GetEnd) → got.end ≡ e → ReadsTo (asking.got set.limit from) e to → ReadsSo set c frame input before told front q w got after later e
    ends_so (Number v) is r = goes_on (Ok v) (gave.Numbers (v ∷ [])) (λ r w. refl) r (λ f. number v (sym is ∙ f))
      where
        number : (v : ℤ) → Number v ≡ ReadFault → ⊥
        number v e = cc
    ends_so (Raise x) is r = goes_on (Err (Some x)) (gave.Left (leave.Raise x)) (λ r w. refl) r (λ f. raise x (sym is ∙ f))
      where
        raise : (x : Reason) → Raise x ≡ ReadFault → ⊥
        raise x e = cc
    ends_so TurnsOver is r = runs_out r
    ends_so ReadFault is r = fails (one_more got.end is g.took) r

  reads : Reads set c frame input before
  reads told front s q w at h old new held after turns got g later same left_over rest is =
      ends_so told front s q w at h old new held after turns got g later same left_over rest is got.end refl (read told front s q w at h old new held after turns got g later same left_over rest is)

pub loop_law : LoopLaw
loop_law set c frame input before = (begins set c frame input before, moves set c frame input before, ends set c frame input before, wants set c frame input before, puts_out set c frame input before, reads set c frame input before, constructed set c frame input before)
