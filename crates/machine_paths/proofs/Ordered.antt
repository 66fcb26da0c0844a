-- What workers answer is what the machine does: in order, and by notes.
use Rattle.std.proofs.Common.{◌≡◌, ℕ, suc, ◌⊎◌, inl, inr, ℤ, Bool, true, false, cond, List, [], ◌∷◌, ◌++◌, map, take, length, length-append, Option, Some, None, Result, Ok, Err, arith, refl, sym, ◌∙◌, ap, subst}
use Rattle.std.specs.Prelude.{max}
use Rattle.ada_base.specs.Cells.{Cell, Mine}
use Rattle.ada_base.specs.Notes.{ThreadNote, Whole, NotBegun, CutAfter}
use Rattle.ada_workers.specs.Paths.{AtEnd, Left as Leaves, Spent as Overspent, Cut as IsCut, Stuck as IsStuck, Outcome, Fine}
use Rattle.ada_workers.specs.Orders.{Start, memory_after, ends_of}
use Rattle.ada_workers.specs.Joins.{Tells, Reports, Fits, Joined}
use Rattle.ada_workers.specs.Threads.{Order, told, unbegun, before, alone, ordered, FineInOrder, IsOrdered}
use Rattle.ada_workers.specs.declared.construct.Over.{Over}
use Rattle.ada_workers.specs.declared.tasks.State.{State as Told}
use Rattle.ada_workers.specs.declared.tasks.State.TheVariants as state
use Rattle.ada_workers.specs.declared.path.Stop.TheVariants as stop
use Rattle.behaviours.specs.Joins.{Share}
use Rattle.stack_code.specs.declared.path.Gave.TheVariants as gave
use Rattle.stack_code.specs.declared.path.Gave.{Gave}
use Rattle.stack_code.specs.Machine.{Stop, Done, Left, Spent, Cut, Asks, Constructs, Stuck, Astray}
use Rattle.ada_lower.specs.Driven.{World, Dyn, Path, Final, Step, Forked, thread_ended, thread_went, in_order, unleft, none_left, by_note}
use Rattle.machine_paths.proofs.Frames.{take_long}
use Rattle.machine_paths.specs.Threads.{ThreadPath, inside, ending, final_path, outcome_of, runs}
use Rattle.machine_paths.specs.Noting.{note_by, spent_by, values_by, spent_after, values_after, turns_by, turns_of, AnswerFrom, AnswerOf, first, AsThreads}
use Rattle.machine_paths.proofs.Framed.{machine_frames}
use Rattle.machine_paths.proofs.Noted.{tells_fine, whole_turns, long_after, noted}

-- the end of one that went to its own end without leaving
abbrev OwnEnd : Told → Type 0
OwnEnd st = (st ≡ state.Stopped stop.Ended) ⊎ (st ≡ state.Stopped stop.Spent)

not_begun : OwnEnd state.NotBegun → ⊥
not_begun (inl e) = no e where
  no : ◌≡◌ {A = Told} state.NotBegun (state.Stopped stop.Ended) → ⊥
  no e = cc
not_begun (inr e) = no e where
  no : ◌≡◌ {A = Told} state.NotBegun (state.Stopped stop.Spent) → ⊥
  no e = cc

not_paused : (n : ℕ) → OwnEnd (state.Stopped (stop.Paused n)) → ⊥
not_paused n (inl e) = no e where
  no : ◌≡◌ {A = Told} (state.Stopped (stop.Paused n)) (state.Stopped stop.Ended) → ⊥
  no e = cc
not_paused n (inr e) = no e where
  no : ◌≡◌ {A = Told} (state.Stopped (stop.Paused n)) (state.Stopped stop.Spent) → ⊥
  no e = cc

not_gone : OwnEnd (state.Stopped stop.Gone) → ⊥
not_gone (inl e) = no e where
  no : ◌≡◌ {A = Told} (state.Stopped stop.Gone) (state.Stopped stop.Ended) → ⊥
  no e = cc
not_gone (inr e) = no e where
  no : ◌≡◌ {A = Told} (state.Stopped stop.Gone) (state.Stopped stop.Spent) → ⊥
  no e = cc

module _ (run : Step → Option Final) (start : Dyn → Share → Path) (top from : ℕ) (w : World) where
  abbrev dyn : List Cell → ℕ → Dyn
  dyn cs m = record { cells = cs; turns = m; left = None; world = inside w }

  abbrev order : List Share → Dyn → ℕ → Bool → List ℤ → Option Forked
  order js d most over us = in_order run start top from js d most over us

  abbrev went : List Share → ℕ → Bool → List ℤ → Option Final → Option Forked
  went js most over us z = thread_went run start top (λ d m o us. order js d m o us) most over us z

  -- a thread that goes on to the next
  ended_thread : (js : List Share) (sp path : ThreadPath) (st : Told) (most : ℕ) (over : Bool) (us : List ℤ) (f : Final) → OwnEnd st → Tells Whole (ending f.how) st → path ≡ final_path sp f → f.dyn.world ≡ inside w → f.dyn.left ≡ None →
      went js most over us (Some f) ≡ order js (dyn (take top f.dyn.cells) path.turns) (max most path.turns) (spent_by over path.how) (values_by us path.how)
  ended_thread js sp path st most over us f own e p q l =
      let turns : f.dyn.turns ≡ path.turns = sym (ap (λ (x : ThreadPath). x.turns) p) in
      (λ i. thread_ended run start top (λ d m o us. order js d m o us) most over us f.how (record { cells = take top f.dyn.cells; turns = turns i; left = l i; world = q i }))
      ∙ by_how f.how e
      ∙ ap (λ h. order js (dyn (take top f.dyn.cells) path.turns) (max most path.turns) (spent_by over h) (values_by us h)) (sym (ap (λ (x : ThreadPath). x.how) p)) where
        by_how : (x : Stop) → Tells Whole (ending x) st →
            thread_ended run start top (λ d m o us. order js d m o us) most over us x (dyn (take top f.dyn.cells) path.turns)
            ≡ order js (dyn (take top f.dyn.cells) path.turns) (max most path.turns) (spent_by over (Some x)) (values_by us (Some x))
        by_how (Done v) e = refl
        by_how Spent e = refl
        by_how (Left l) e = absurd (not_gone (subst OwnEnd e own))
        by_how Cut e = absurd e
        by_how (Asks q) e = absurd e
        by_how (Constructs q) e = absurd e
        by_how Stuck e = absurd e
        by_how Astray e = absurd e

  pub ordered_noted : (k : ℕ) (js : List Share) (ss : List (Start ThreadPath)) (ns : List ThreadNote) (os : List (Over ThreadPath)) (cs : List Cell) (m most : ℕ) (over : Bool) (us : List ℤ) → top ≡ length cs → AsThreads run start from w k js ss → length ns ≡ length ss →
      Reports (ends_of runs ss ns cs) ns os → Fits None k os →
      order js (dyn cs m) most over us ≡ Some (record { dyn = dyn (memory_after runs ss ns cs) (turns_of most os); how = cond (spent_after over os) (Err Spent) (Ok (gave.Numbers (values_after us os))) })
  ordered_noted k [] [] [] [] cs m most over us len like many r f = refl
  ordered_noted k [] [] [] (o ∷ os) cs m most over us len like many r f = absurd r
  ordered_noted k [] [] (n ∷ ns) os cs m most over us len like many r f = absurd (omega (arith, many))
  ordered_noted k [] (s ∷ ss) ns os cs m most over us len like many r f = absurd like
  ordered_noted k (j ∷ js) [] ns os cs m most over us len like many r f = absurd like
  ordered_noted k (j ∷ js) (s ∷ ss) [] os cs m most over us len like many r f = absurd (omega (arith, many))
  ordered_noted k (j ∷ js) (s ∷ ss) (n ∷ ns) [] cs m most over us len like many r f = absurd r
  ordered_noted k (j ∷ js) (s ∷ ss) (NotBegun ∷ ns) (o ∷ os) cs m most over us len like many r f = absurd (not_begun (subst OwnEnd r.1 f.0))
  ordered_noted k (j ∷ js) (s ∷ ss) (CutAfter n ∷ ns) (o ∷ os) cs m most over us len like many r f = absurd (not_paused n (subst OwnEnd r.1.1 f.0))
  ordered_noted k (j ∷ js) (s ∷ ss) (Whole ∷ ns) (o ∷ os) cs m most over us len like many r f =
      let own = cs ++ map Mine s.own in
      let a = like.1 None cs (tells_fine (runs s.path None own).end o.state r.1) in
      let now = o.path.turns in
      ap (went js most over us) a.1
      ∙ ended_thread js s.path o.path o.state most over us a.0 f.0 (subst (λ (x : Outcome ThreadPath). Tells Whole x.end o.state) a.2 r.1) (r.0 ∙ ap (λ (x : Outcome ThreadPath). x.path) a.2) a.3 (a.4 refl)
      ∙ (λ i. order js (dyn (take (len i) (sym a.2 i).cells) now) (sym (whole_turns (runs s.path None own).end o.state most now r.1) i) (spent_by over o.path.how) (values_by us o.path.how))
      ∙ ordered_noted (suc k) js ss ns os (take (length cs) (runs s.path None own).cells) now (turns_by most o.state now) (spent_by over o.path.how) (values_by us o.path.how)
      (long_after run start top from w None s Whole cs o.state len r.1) like.2 (omega (arith, many)) r.2 f.1

  -- ---- threads one after the other, up to one that leaves
  abbrev Answers : ℕ → List Share → List Cell → ℕ → ℕ → Bool → List ℤ → Order ThreadPath → Type 0
  Answers k js cs m most over us r = (how : Result Gave Stop) × AnswerFrom k over us r.chosen r.overs how × (order js (dyn cs m) most over us ≡ Some (record { dyn = dyn r.cells (turns_of most r.overs); how = how }))

  still_most : (m : ℕ) (ss : List (Start ThreadPath)) → turns_of m (unbegun ss) ≡ m
  still_most m [] = refl
  still_most m (s ∷ ss) = still_most m ss

  answer_behind : (k : ℕ) (over : Bool) (us : List ℤ) (c : Option ℕ) (o : Over ThreadPath) (os : List (Over ThreadPath)) (how : Result Gave Stop) → AnswerFrom (suc k) (spent_by over o.path.how) (values_by us o.path.how) c os how → AnswerFrom k over us c (o ∷ os) how
  answer_behind k over us None o os how h = h
  answer_behind k over us (Some t) o os how h = (h.0, inr h.1, h.2)

  abbrev placed : List (Start ThreadPath) → ℕ → List Cell → Outcome ThreadPath → Order ThreadPath
  placed ss k cs o = elim o.end [
    | Leaves ↦ record { overs = told o ∷ unbegun ss; chosen = Some k; cells = take (length cs) o.cells }
    | AtEnd ↦ before (told o) (ordered runs ss (suc k) (take (length cs) o.cells))
    | Overspent ↦ before (told o) (ordered runs ss (suc k) (take (length cs) o.cells))
    | IsCut ↦ before (told o) (ordered runs ss (suc k) (take (length cs) o.cells))
    | IsStuck ↦ before (told o) (ordered runs ss (suc k) (take (length cs) o.cells))
  ]

  -- after a thread that went to its own end without leaving
  ordered_on : (k : ℕ) (js : List Share) (ss : List (Start ThreadPath)) (cs : List Cell) (most : ℕ) (over : Bool) (us : List ℤ) (sp : ThreadPath) (f : Final) → OwnEnd (told (outcome_of sp (Some f))).state → Tells Whole (ending f.how) (told (outcome_of sp (Some f))).state → top ≡ length cs → f.dyn.world ≡ inside w → f.dyn.left ≡ None →
      Answers (suc k) js (take (length cs) f.dyn.cells) f.dyn.turns (max most f.dyn.turns) (spent_by over (Some f.how)) (values_by us (Some f.how)) (ordered runs ss (suc k) (take (length cs) f.dyn.cells)) →
      (how : Result Gave Stop) × AnswerFrom k over us (ordered runs ss (suc k) (take (length cs) f.dyn.cells)).chosen (told (outcome_of sp (Some f)) ∷ (ordered runs ss (suc k) (take (length cs) f.dyn.cells)).overs) how
      × (went js most over us (Some f) ≡ Some (record { dyn = dyn (ordered runs ss (suc k) (take (length cs) f.dyn.cells)).cells (turns_of (max most f.dyn.turns) (ordered runs ss (suc k) (take (length cs) f.dyn.cells)).overs); how = how }))
  ordered_on k js ss cs most over us sp f own e len world left h =
      let r = ordered runs ss (suc k) (take (length cs) f.dyn.cells) in (
        h.0,
        answer_behind k over us r.chosen (told (outcome_of sp (Some f))) r.overs h.0 h.1,
        ended_thread js sp (final_path sp f) (told (outcome_of sp (Some f))).state most over us f own e refl world left
            ∙ ap (λ i. order js (dyn (take i f.dyn.cells) f.dyn.turns) (max most f.dyn.turns) (spent_by over (Some f.how)) (values_by us (Some f.how))) len
            ∙ h.2,
      )

  long_alone : (s : Start ThreadPath) (cs : List Cell) → top ≡ length cs → Fine (alone runs s cs).end → top ≡ length (take (length cs) (alone runs s cs).cells)
  long_alone s cs len f = let k = machine_frames.keeps s.path None (cs ++ map Mine s.own) f in len ∙ sym ((take_long 0 [] [] (length cs) (alone runs s cs).cells).0 (omega (arith, k.long, length-append cs (map Mine s.own))))

  -- by how the thread ends
  ordered_one : (k : ℕ) (js : List Share) (ss : List (Start ThreadPath)) (cs : List Cell) (most : ℕ) (over : Bool) (us : List ℤ) (sp : ThreadPath) (x : Stop) (d : Dyn) → top ≡ length cs → d.world ≡ inside w → d.left ≡ None → Fine (ending x) → (ending x ≡ IsCut → ⊥) →
      ((m most : ℕ) (over : Bool) (us : List ℤ) → Answers (suc k) js (take (length cs) d.cells) m most over us (ordered runs ss (suc k) (take (length cs) d.cells))) →
      (how : Result Gave Stop) × AnswerFrom k over us (placed ss k cs (outcome_of sp (Some (record { how = x; dyn = d })))).chosen (placed ss k cs (outcome_of sp (Some (record { how = x; dyn = d })))).overs how
      × (went js most over us (Some (record { how = x; dyn = d })) ≡ Some (record { dyn = dyn (placed ss k cs (outcome_of sp (Some (record { how = x; dyn = d })))).cells (turns_of most (placed ss k cs (outcome_of sp (Some (record { how = x; dyn = d })))).overs); how = how }))
  ordered_one k js ss cs most over us sp (Done v) d len world left fine uncut ih =
      ordered_on k js ss cs most over us sp (record { how = Done v; dyn = d }) (inl refl) refl len world left (ih d.turns (max most d.turns) over (values_by us (Some (Done v))))
  ordered_one k js ss cs most over us sp Spent d len world left fine uncut ih =
      ordered_on k js ss cs most over us sp (record { how = Spent; dyn = d }) (inr refl) refl len world left (ih d.turns (max most d.turns) true us)
  ordered_one k js ss cs most over us sp (Left l) d len world left fine uncut ih = (
    Ok (gave.Left l),
    (l, inl (refl, refl), refl),
    (λ i. Some (record { dyn = record { cells = take (len i) d.cells; turns = sym (still_most (max most d.turns) ss) i; left = left i; world = world i }; how = Ok (gave.Left l) })),
  )
  ordered_one k js ss cs most over us sp Cut d len world left fine uncut ih = absurd (uncut refl)
  ordered_one k js ss cs most over us sp (Asks q) d len world left fine uncut ih = absurd fine
  ordered_one k js ss cs most over us sp (Constructs q) d len world left fine uncut ih = absurd fine
  ordered_one k js ss cs most over us sp Stuck d len world left fine uncut ih = absurd fine
  ordered_one k js ss cs most over us sp Astray d len world left fine uncut ih = absurd fine

  ordered_all : (k : ℕ) (js : List Share) (ss : List (Start ThreadPath)) (cs : List Cell) (m most : ℕ) (over : Bool) (us : List ℤ) → top ≡ length cs → AsThreads run start from w k js ss → FineInOrder runs ss cs → Answers k js cs m most over us (ordered runs ss k cs)
  ordered_all k [] [] cs m most over us len like f = (cond over (Err Spent) (Ok (gave.Numbers us)), refl, refl)
  ordered_all k [] (s ∷ ss) cs m most over us len like f = absurd like
  ordered_all k (j ∷ js) [] cs m most over us len like f = absurd like
  ordered_all k (j ∷ js) (s ∷ ss) cs m most over us len like f =
      let a = like.1 None cs f.0 in
      subst (λ o. (how : Result Gave Stop) × AnswerFrom k over us (placed ss k cs o).chosen (placed ss k cs o).overs how × (went js most over us (run (first run start from w None cs j)) ≡ Some (record { dyn = dyn (placed ss k cs o).cells (turns_of most (placed ss k cs o).overs); how = how }))) (sym a.2)
      (subst (λ z. (how : Result Gave Stop) × AnswerFrom k over us (placed ss k cs (outcome_of s.path (Some a.0))).chosen (placed ss k cs (outcome_of s.path (Some a.0))).overs how
      × (went js most over us z ≡ Some (record { dyn = dyn (placed ss k cs (outcome_of s.path (Some a.0))).cells (turns_of most (placed ss k cs (outcome_of s.path (Some a.0))).overs); how = how }))) (sym a.1)
      (ordered_one k js ss cs most over us s.path a.0.how a.0.dyn len a.3 (a.4 refl) (subst (λ (o : Outcome ThreadPath). Fine o.end) a.2 f.0) (subst (λ (o : Outcome ThreadPath). o.end ≡ IsCut → ⊥) a.2 (machine_frames.uncut s.path (cs ++ map Mine s.own)))
      (λ m most over us. ordered_all (suc k) js ss (take (length cs) a.0.dyn.cells) m most over us (subst (λ (o : Outcome ThreadPath). top ≡ length (take (length cs) o.cells)) a.2 (long_alone s cs len f.0)) like.2
      (subst (λ (o : Outcome ThreadPath). FineInOrder runs ss (take (length cs) o.cells)) a.2 f.1))))

  -- what run_in_order answers is what the machine does in order
  pub joined_in_order : (c : Option ℕ) (js : List Share) (ss : List (Start ThreadPath)) (os : List (Over ThreadPath)) (cs ds : List Cell) → top ≡ length cs → AsThreads run start from w 0 js ss → FineInOrder runs ss cs → IsOrdered runs ss cs c os ds →
      (how : Result Gave Stop) × AnswerOf c os how × (in_order run start top from js (dyn cs from) from false [] ≡ Some (record { dyn = dyn ds (turns_of from os); how = how }))
  joined_in_order c js ss os cs ds len like f is =
      subst (λ r. (how : Result Gave Stop) × AnswerOf r.chosen r.overs how × (in_order run start top from js (dyn cs from) from false [] ≡ Some (record { dyn = dyn r.cells (turns_of from r.overs); how = how }))) (sym is) (ordered_all 0 js ss cs from from false [] len like f)

-- ---- a construct by a note
module _ (run : Step → Option Final) (start : Dyn → Share → Path) (top from : ℕ) (w : World) where
  abbrev pub whole : List Cell → ℕ → Dyn
  whole cs m = record { cells = cs; turns = m; left = None; world = w }

  still : (b : Bool) (vs : List ℤ) → unleft run start top (cond b (Err Spent) (Ok (gave.Numbers vs))) ≡ cond b (Err Spent) (Ok (gave.Numbers vs))
  still true vs = refl
  still false vs = refl

  -- what run_threads answers is what the machine does at the construct by the note that is told
  pub joined_by_note : (c : Option ℕ) (js : List Share) (ss : List (Start ThreadPath)) (os : List (Over ThreadPath)) (cs ds : List Cell) → top ≡ length cs → AsThreads run start from w 0 js ss → Joined runs ss cs c os ds →
      (how : Result Gave Stop) × AnswerOf c os how × (by_note run start top (note_by c os) js (whole cs from) ≡ Some (record { dyn = whole ds (turns_of from os); how = how }))
  joined_by_note None js ss os cs ds len like h = (
    cond (spent_after false os) (Err Spent) (Ok (gave.Numbers (values_after [] os))),
    refl,
    ap (none_left run start top w.notes) (ordered_noted run start top from w 0 js ss h.notes os cs from from false [] len like h.many h.reports h.fits)
        ∙ (λ i. Some (record { dyn = whole (sym h.memory i) (turns_of from os); how = still (spent_after false os) (values_after [] os) i })),
  )
  joined_by_note (Some t) js ss os cs ds len like h =
      let c = noted run start top from w None t 0 js ss h.notes os cs from len like h.many h.reports h.fits in (
        Ok (gave.Left c.0),
        (c.0, c.1, refl),
        ap (λ ns. by_note run start top (record { chosen = Some t; threads = ns }) js (whole cs from)) (sym h.told)
            ∙ c.2
            ∙ (λ i. Some (record { dyn = whole (sym h.memory i) (turns_of from os); how = Ok (gave.Left c.0) })),
      )
