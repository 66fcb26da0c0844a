-- What each stop of the machine leads to.
use Rattle.std.proofs.Common.{◌≡◌, ℕ, ◌+◌, ℤ, Bool, true, false, List, [], ◌∷◌, ◌++◌, length, drop, Option, Some, None, Result, Ok, Err, refl, sym, ◌∙◌, ap, subst, append_assoc}
use Rattle.std.proofs.lemmas.List.{length-append}
use Rattle.std.proofs.Math.Seq.{drop-append_seam}
use Rattle.ada_base.specs.Cells.{Cell}
use Rattle.ada_base.specs.Cuts.{cuts_of}
use Rattle.ada_base.specs.Input.{Held}
use Rattle.ada_base.specs.declared.reason.Reason.{Reason}
use Rattle.ada_base.specs.Notes.{ConstructNote, InOrder, ByNotes}
use Rattle.ada_io.specs.declared.input.GetEnd.TheVariants as end
use Rattle.ada_io.specs.declared.input.Got.{Got}
use Rattle.ada_io.specs.Gets.{Gets, last_of}
use Rattle.ada_io.specs.Gets as gets
use Rattle.ada_meaning.specs.Deeds.{Deed, PutOut, output_in}
use Rattle.ada_meaning.specs.Law as law
use Rattle.ada_meaning.specs.Programs.{Setting}
use Rattle.stack_code.specs.declared.code.Code.{Code}
use Rattle.stack_code.specs.declared.path.Asked.{Asked}
use Rattle.stack_code.specs.declared.path.Gave.{Gave}
use Rattle.stack_code.specs.declared.path.Gave.TheVariants as gave
use Rattle.stack_code.specs.declared.path.Io.TheVariants as io
use Rattle.stack_code.specs.declared.path.Leave.TheVariants as leave
use Rattle.stack_code.specs.Machine.{State, Stop, Spent, Asks, Constructs, Comes, Comes_to, resumed}
use Rattle.ada_lower.specs.Asking as asking
use Rattle.ada_lower.specs.Driven.{World, On, Forks, Safe, after_got, fork_ended, given_got}
use Rattle.machine_paths.specs.Constructing.{ForksTo, with_schedule}
use Rattle.ada_threads.specs.Sites.{forked}
use Rattle.run_outside.specs.Outside.{Follows, HasGot, Keeps, MayBe, Outside}
use Rattle.run_outside.proofs.Getting.{some_input}
use Rattle.run_machine_laws.specs.Reading.{IsRest, ReadsTo, askings}
use Rattle.run_machine_laws.specs.Standing.{schedule}
use Rattle.run_machine_laws.specs.Law.{GetLaw, ending_by}
use Rattle.run_machine_laws.specs.Looping.{At, Over as OverAt, ReadsSo, LoopLaw}
use Rattle.run_machine.specs.Running.{Over, Running, ending_of, world_of}
use Rattle.run_machine.specs.declared.ends.How.{How}
use Rattle.run_machine.specs.declared.ends.How.TheVariants as how
use Rattle.run_machine.proofs.Safety.{safe_forks, safe_moves, safe_stops}

module _ (InTells : Type 0) (law_is : LoopLaw) (set : Setting) (c : Code) (frame : ℕ) (before : List ℕ) where
  abbrev Runs : List ConstructNote → List Deed → State → Outside → Type 0
  Runs told front s o = Running InTells set c frame before told front s o

  abbrev Ended : How → Outside → List Cell → Type 0
  Ended how o cells = Over InTells set c frame before how o cells

  abbrev world : Outside → List ℕ → List Deed → World
  world o w front = world_of InTells set c frame before o w front

  -- what was put is known without the input
  put_so : (told : List ConstructNote) (front : List Deed) (s : State) (o : Outside) → Runs told front s o → o.put ≡ before ++ output_in front
  put_so told front s o r = let w = some_input InTells o in (r.at w.0 w.1).output

  -- ---- it moves, stops by itself, or memory is wanting
  pub moved : (told : List ConstructNote) (front : List Deed) (s q : State) (o : Outside) → Runs told front s o → Comes set.limit c s q → Runs told front q o
  moved told front s q o r h = record {
    at = λ w k. (law_is set c frame w before).1 told front s q (world o w front) (r.at w k) h;
    safe = λ w k ns. safe_moves set.limit c s q (record (world o w front) { notes = ByNotes ns }) h (r.safe w k ns);
  }

  pub ended : (told : List ConstructNote) (front : List Deed) (s q : State) (o : Outside) (x : Stop) (how : How) → Runs told front s o → Comes_to set.limit c s x q → ending_by x ≡ Some (ending_of how) → Ended how o q.cells
  ended told front s q o x how r h e = record {
    told = told;
    output = output_in front;
    put = put_so told front s o r;
    ends = λ w k. (law_is set c frame w before).2 told front s q (world o w front) x (ending_of how) (r.at w k) h e;
  }

  pub wanted : (told : List ConstructNote) (front : List Deed) (s : State) (o : Outside) (cells : List Cell) → Runs told front s o → Ended how.NoMemory o cells
  wanted told front s o cells r = record { told = told; output = output_in front; put = put_so told front s o r; ends = λ w k. (law_is set c frame w before).3 told front s (world o w front) cells (r.at w k) }

  -- ---- output
  module _ (told : List ConstructNote) (front : List Deed) (s q : State) (o o' : Outside) (piece : List ℕ) (r : Runs told front s o) (h : Comes_to set.limit c s (Asks (io.Write piece)) q) where
    -- what was put changes nothing else of the outside
    world_put : (w : List ℕ) (ds : List Deed) → o'.held ≡ o.held → o'.came ≡ o.came → o'.put ≡ o.put ++ piece → record (world o w front) { output = o.put ++ piece; done = Some ds } ≡ world o' w ds
    world_put w ds held came put =
        sym (ap (λ (h : Held). record (world o' w ds) { held = h }) held
        ∙ ap (λ (bs : List ℕ). record (world o' w ds) { held = o.held; taken = length bs; input = drop (length bs) w }) came
        ∙ ap (λ (bs : List ℕ). record (world o' w ds) { held = o.held; taken = length o.came; input = drop (length o.came) w; output = bs }) put)

    pub put_out : o'.held ≡ o.held → o'.came ≡ o.came → o'.put ≡ o.put ++ piece → Keeps (MayBe InTells) o o' → Runs told (front ++ (PutOut piece ∷ [])) (resumed c gave.Nothing q) o'
    put_out held came put keeps = record {
      at = λ w k. subst (λ v. At set c frame w before told (front ++ (PutOut piece ∷ [])) (resumed c gave.Nothing q) v) (world_put w (front ++ (PutOut piece ∷ [])) held came put)
          ((law_is set c frame w before).4 told front s q (world o w front) piece (r.at w (keeps.back w k)) h).0;
      safe = λ w k ns. subst (λ v. Safe set.limit c true (On (record { state = resumed c gave.Nothing q; world = record v { notes = ByNotes ns } }))) (world_put w (front ++ (PutOut piece ∷ [])) held came put)
          (safe_stops set.limit c s q (Asks (io.Write piece)) (record (world o w front) { notes = ByNotes ns }) h (r.safe w (keeps.back w k) ns));
    }

    pub put_failed : (passed rest : List ℕ) (left : List Cell) → piece ≡ passed ++ rest → o'.came ≡ o.came → o'.put ≡ o.put ++ passed → Keeps (MayBe InTells) o o' → Ended how.WriteFault o' left
    put_failed passed rest left split came put keeps = record {
      told = told;
      output = output_in front ++ passed;
      put = put ∙ ap (λ z. z ++ passed) (put_so told front s o r) ∙ append_assoc before (output_in front) passed;
      ends = λ w k. subst (λ (bs : List ℕ). OverAt set c frame w before told law.WriteFault (output_in front ++ passed) (length bs) left) (sym came)
          (((law_is set c frame w before).4 told front s q (world o w front) piece (r.at w (keeps.back w k)) h).1 passed rest left split);
    }

  -- ---- constructs
  module _ (told : List ConstructNote) (front : List Deed) (s t : State) (o : Outside) (asked : Asked) (r : Runs told front s o) (h : Comes_to set.limit c s (Constructs asked) t) where
    -- it stands at the fork, whatever notes follow
    pub fork_safe : (w : List ℕ) → MayBe InTells w o → (ns : List ConstructNote) → Safe set.limit c true (Forks asked (with_schedule (ByNotes ns) (record { state = t; world = world o w front })))
    fork_safe w k ns = safe_stops set.limit c s t (Constructs asked) (record (world o w front) { notes = ByNotes ns }) h (r.safe w k ns)

    module _ (note : ConstructNote) (cells : List Cell) (turns : ℕ) (came : Result Gave Stop)
        (noted : (w : World) → w.plan ≡ cuts_of set.plan → (ns : List ConstructNote) → ForksTo set.limit c asked (with_schedule (ByNotes (note ∷ ns)) (record { state = t; world = w })) (forked (record w { notes = ByNotes ns }) cells turns came))
        (in_order : set.one ≡ true → (w : World) → w.plan ≡ cuts_of set.plan → w.notes ≡ InOrder → ForksTo set.limit c asked (record { state = t; world = w }) (forked w cells turns came)) where
      -- in order on one worker, else by the note
      forks : (one : Bool) → (one ≡ true → (w : World) → w.plan ≡ cuts_of set.plan → w.notes ≡ InOrder → ForksTo set.limit c asked (record { state = t; world = w }) (forked w cells turns came)) → (w : List ℕ) (ns : List ConstructNote)
          → ForksTo set.limit c asked (with_schedule (schedule one (note ∷ ns)) (record { state = t; world = world o w front })) (forked (record (world o w front) { notes = schedule one ns }) cells turns came)
      forks true order w ns = order refl (world o w front) refl refl
      forks false order w ns = noted (world o w front) refl ns

      step_so : (w : List ℕ) → MayBe InTells w o
          → ((g : Gave) → came ≡ Ok g → At set c frame w before (told ++ (note ∷ [])) front (resumed c g (record t { turns = turns; left = None; cells = cells })) (world o w front))
          × (came ≡ Err Spent → (left : List Cell) → OverAt set c frame w before (told ++ (note ∷ [])) law.TurnsSpent (output_in front) (length o.came) left)
      step_so w k = (law_is set c frame w before).6 told front s t (world o w front) asked (r.at w k) h note cells turns came (forks set.one in_order w)

      pub built : (g : Gave) → came ≡ Ok g → Runs (told ++ (note ∷ [])) front (resumed c g (record t { turns = turns; left = None; cells = cells })) o
      built g is = record {
        at = λ w k. (step_so w k).0 g is;
        safe = λ w k ns. subst (λ (x : Result Gave Stop). Safe set.limit c true (fork_ended c (forked (record (world o w front) { notes = ByNotes ns }) cells turns x) (with_schedule (ByNotes (note ∷ ns)) (record { state = t; world = world o w front })))) is
            (safe_forks set.limit c asked (with_schedule (ByNotes (note ∷ ns)) (record { state = t; world = world o w front })) (forked (record (world o w front) { notes = ByNotes ns }) cells turns came) (noted (world o w front) refl ns) (fork_safe w k (note ∷ ns)));
      }

      pub spent : came ≡ Err Spent → (left : List Cell) → Ended how.TurnsSpent o left
      spent is left = record { told = told ++ (note ∷ []); output = output_in front; put = put_so told front s o r; ends = λ w k. (step_so w k).1 is left }

  -- ---- input
  module _ (get_law : GetLaw) (told : List ConstructNote) (front : List Deed) (s q : State) (o o' : Outside) (r : Runs told front s o) (h : Comes_to set.limit c s (Asks io.Take) q)
      (left : ℕ) (got : Got) (left_over : q.turns + left ≡ set.limit) (has : HasGot (MayBe InTells) left got o o') where
    abbrev g : Gets has.came.old has.came.new (record { held = o.held; came = o.came }) (record { held = o'.held; came = o'.came }) left got
    g = has.came.gets

    taken_is : length o.came + got.came ≡ length o'.came
    taken_is = ap (λ n. length o.came + n) g.came ∙ sym (length-append o.came g.bytes) ∙ ap length (sym g.log)

    rest_of : (last : gets.Last) (after : Held) (more : List ℕ) → gets.EndsHeld last after → (gets.met_end after ≡ true → more ≡ []) → IsRest last more
    rest_of gets.Open after more h none = tt
    rest_of gets.AtEnd after more h none = none h
    rest_of gets.Broken after more h none = tt

    module _ (w : List ℕ) (k : MayBe InTells w o') where
      abbrev f : Follows w o'
      f = has.follows w k

      abbrev k0 : MayBe InTells w o
      k0 = has.keeps.back w k

      rest : drop (length o.came) w ≡ g.bytes ++ f.more
      rest = ap (drop (length o.came)) (f.whole ∙ ap (λ bs. bs ++ f.more) g.log ∙ append_assoc o.came g.bytes f.more) ∙ drop-append_seam o.came (g.bytes ++ f.more)

      over : drop (length o'.came) w ≡ f.more
      over = ap (drop (length o'.came)) f.whole ∙ drop-append_seam o'.came f.more

      is : IsRest (last_of got.end g.ended) f.more
      is = rest_of (last_of got.end g.ended) o'.held f.more g.ends f.none

      so : ReadsSo set c frame w before told front q (world o w front) got (record { held = o'.held; came = o'.came }) f.more got.end
      so = (law_is set c frame w before).5 told front s q (world o w front) (r.at w k0) h has.came.old has.came.new (record { held = o.held; came = o.came }) (record { held = o'.held; came = o'.came }) left got g f.more refl left_over rest is

      world_read : (ds : List Deed) → record (world o w front) { taken = length o.came + got.came; held = o'.held; input = f.more; done = Some ds } ≡ world o' w ds
      world_read ds =
          ap (λ (n : ℕ). record (world o w ds) { taken = n; held = o'.held; input = f.more }) taken_is
          ∙ ap (λ (bs : List ℕ). record (world o w ds) { taken = length o'.came; held = o'.held; input = bs }) (sym over)
          ∙ ap (λ (bs : List ℕ). record (world o w ds) { taken = length o'.came; held = o'.held; input = drop (length o'.came) w; output = bs }) (sym has.put)

      -- the path's Get, by whatever notes follow
      abbrev noted : List ConstructNote → World
      noted ns = record (world o w front) { notes = ByNotes ns }

      abbrev to : asking.Reads
      to = record { turns = q.turns + got.took; taken = length o.came + got.came; held = o'.held; input = f.more; done = Some (front ++ askings got.took) }

      reads_to : ReadsTo (asking.got set.limit (record { turns = q.turns; taken = length o.came; held = o.held; input = drop (length o.came) w; done = Some front })) got.end to
      reads_to = get_law set.limit has.came.old has.came.new (record { held = o.held; came = o.came }) (record { held = o'.held; came = o'.came }) left got g (record { turns = q.turns; taken = length o.came; held = o.held; input = drop (length o.came) w; done = Some front }) f.more refl left_over rest is

      safe_read : (ns : List ConstructNote) (x : Result ℤ (Option Reason)) → asking.got set.limit (record { turns = q.turns; taken = length o.came; held = o.held; input = drop (length o.came) w; done = Some front }) ≡ asking.at to x → Safe set.limit c true (given_got set.limit c to x q (noted ns))
      safe_read ns x e = subst (λ z. Safe set.limit c true (after_got set.limit c z q (noted ns))) e (safe_stops set.limit c s q (Asks io.Take) (noted ns) h (r.safe w k0 ns))

    abbrev later : List Deed
    later = front ++ askings got.took

    pub read_number : (v : ℤ) → got.end ≡ end.Number v → Runs told later (resumed c (gave.Numbers (v ∷ [])) (record q { turns = q.turns + got.took })) o'
    read_number v e = record {
      at = λ w k. subst (λ z. At set c frame w before told later (resumed c (gave.Numbers (v ∷ [])) (record q { turns = q.turns + got.took })) z) (world_read w k later)
          (subst (λ z. ReadsSo set c frame w before told front q (world o w front) got (record { held = o'.held; came = o'.came }) (f w k).more z) e (so w k));
      safe = λ w k ns. subst (λ z. Safe set.limit c true (On (record { state = resumed c (gave.Numbers (v ∷ [])) (record q { turns = q.turns + got.took }); world = record z { notes = ByNotes ns } }))) (world_read w k later)
          (safe_read w k ns (Ok v) (subst (λ z. ReadsTo (asking.got set.limit (record { turns = q.turns; taken = length o.came; held = o.held; input = drop (length o.came) w; done = Some front })) z (to w k)) e (reads_to w k)));
    }

    pub read_raise : (x : Reason) → got.end ≡ end.Raise x → Runs told later (resumed c (gave.Left (leave.Raise x)) (record q { turns = q.turns + got.took })) o'
    read_raise x e = record {
      at = λ w k. subst (λ z. At set c frame w before told later (resumed c (gave.Left (leave.Raise x)) (record q { turns = q.turns + got.took })) z) (world_read w k later)
          (subst (λ z. ReadsSo set c frame w before told front q (world o w front) got (record { held = o'.held; came = o'.came }) (f w k).more z) e (so w k));
      safe = λ w k ns. subst (λ z. Safe set.limit c true (On (record { state = resumed c (gave.Left (leave.Raise x)) (record q { turns = q.turns + got.took }); world = record z { notes = ByNotes ns } }))) (world_read w k later)
          (safe_read w k ns (Err (Some x)) (subst (λ z. ReadsTo (asking.got set.limit (record { turns = q.turns; taken = length o.came; held = o.held; input = drop (length o.came) w; done = Some front })) z (to w k)) e (reads_to w k)));
    }

    pub read_spent : got.end ≡ end.Spent → (cells : List Cell) → Ended how.TurnsSpent o' cells
    read_spent e cells = record {
      told = told;
      output = output_in front;
      put = has.put ∙ put_so told front s o r;
      ends = λ w k. subst (λ n. OverAt set c frame w before told law.TurnsSpent (output_in front) n cells) taken_is
          (subst (λ z. ReadsSo set c frame w before told front q (world o w front) got (record { held = o'.held; came = o'.came }) (f w k).more z) e (so w k) cells);
    }

    pub read_failed : got.end ≡ end.ReadFault → (cells : List Cell) → Ended how.ReadFault o' cells
    read_failed e cells = record {
      told = told;
      output = output_in front;
      put = has.put ∙ put_so told front s o r;
      ends = λ w k. subst (λ n. OverAt set c frame w before told law.ReadFault (output_in front) n cells) taken_is
          (subst (λ z. ReadsSo set c frame w before told front q (world o w front) got (record { held = o'.held; came = o'.came }) (f w k).more z) e (so w k) cells);
    }
