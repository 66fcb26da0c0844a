-- An outermost construct, by what workers answered.
use Rattle.std.proofs.Common.{◌≡◌, ℕ, ◌≤◌, true, false, ℤ, List, [], ◌∷◌, length, get_or, slice_get, Option, Some, None, Result, Ok, Err, refl, sym, ◌∙◌, ap, subst}
use Rattle.std.proofs.lemmas.Option.{get_or_from_slice_get}
use Rattle.ada_base.specs.Cells.{Cell}
use Rattle.ada_base.specs.Cuts.{Plan, cuts_of}
use Rattle.ada_base.specs.Notes.{ConstructNote, InOrder, ByNotes}
use Rattle.cell_memory.specs.Sight.{Sight, cell_at, is_gone, is_mine, OwnThere}
use Rattle.ada_workers.specs.Joins.{Joined}
use Rattle.ada_workers.specs.Orders.{AllFine, all_out}
use Rattle.ada_workers.specs.Threads.{begins_of, areas_of, FineInOrder, IsOrdered}
use Rattle.ada_workers.specs.declared.construct.Over.{Over}
use Rattle.ada_workers.specs.declared.threads.Thread.{Thread}
use Rattle.ada_workers.proofs.Ordering.{paired, fine_in_order, main_mine}
use Rattle.stack_code.specs.declared.code.Around.{Around}
use Rattle.stack_code.specs.declared.code.Code.{Code}
use Rattle.stack_code.specs.declared.code.CodeSite.{CodeSite}
use Rattle.stack_code.specs.declared.code.SiteKind.{SiteKind}
use Rattle.stack_code.specs.declared.path.Asked.{Asked}
use Rattle.stack_code.specs.declared.path.Gave.{Gave}
use Rattle.stack_code.specs.Answers.{IsAnswer}
use Rattle.stack_code.specs.Machine.{State, Stop, Spent, resumed}
use Rattle.stack_code.specs.Stands.{Forked}
use Rattle.stack_code.specs.Valid.{IsValid}
use Rattle.ada_lower.specs.Driven.{World, Path, answer_of, with_answer}
use Rattle.ada_machine.specs.States.{state_of}
use Rattle.ada_machine.specs.declared.machine.Machine.{Machine}
use Rattle.machine_paths.specs.Constructing.{starts_at, shares_of, with_schedule, ForksTo}
use Rattle.machine_paths.specs.Noting.{note_by, turns_of, AnswerOf}
use Rattle.machine_paths.specs.Threads.{ThreadPath, quiet, runs}
use Rattle.machine_paths.proofs.Constructs.{joined_forks, ordered_forks}
use Rattle.machine_paths.proofs.Framed.{machine_frames}
use Rattle.ada_threads.specs.Answers.{Answers, inner_path}
use Rattle.ada_threads.specs.Came.{EndWell, OfBody}
use Rattle.ada_threads.specs.Sites.{AllRan, EndOf, note_of, Behind, forked, SiteRan}
use Rattle.ada_threads.specs.declared.site.Told.{Told}
use Rattle.ada_threads.specs.declared.way.End.{End}
use Rattle.ada_threads.specs.declared.way.End.TheVariants as end
use Rattle.ada_threads.specs.declared.way.Way.TheVariants as way
use Rattle.ada_threads.proofs.Forking.{fits, still}
use Rattle.ada_threads.proofs.Overs.{joined_ran}
use Rattle.ada_threads.proofs.Resuming.{forked_on, resumed_same}

-- only where turns ran out
pub spent_only : (k : SiteKind) (z : ℤ) (e : End) → Answers k z e (Err way.Spent) → e ≡ end.Spent
spent_only k z (end.Values vs) a = cc
spent_only k z (end.Left l) a = absurd a
spent_only k z end.Spent a = refl
spent_only k z end.Paused a = cc
spent_only k z end.NoMemory a = cc

-- the site that a table has there
pub element_is : (xs : List CodeSite) (k : ℕ) (site x : CodeSite) → slice_get xs k ≡ Some site → (ys : List CodeSite) → ys ≡ xs → x ≡ get_or ys k x → x ≡ site
element_is xs k site x at ys e is = is ∙ ap (λ l. get_or l k x) e ∙ get_or_from_slice_get xs k site x at

-- on the main view they go well in order
pub fine_order : (ts : List (Thread ThreadPath)) (s : Sight) → OwnThere s → s.own ≡ length s.cells → ((x : ℕ) → is_gone (cell_at s x) ≡ false → is_mine (cell_at s x) ≡ true)
    → AllFine runs (all_out s.cells (areas_of ts)) s.cells (begins_of ts) (areas_of ts) → FineInOrder runs (begins_of ts) s.cells
fine_order ts s there flat mine fine = fine_in_order runs machine_frames s.cells (begins_of ts) (areas_of ts) (paired ts) fine (main_mine s there flat mine)

module _ (limit : ℕ) (c : Code) (plan : Plan) (q : Asked) (m : Machine) (cells : List Cell) (site : CodeSite) (at : slice_get c.sites q.site ≡ Some site) (chosen : Option ℕ) (os : List (Over ThreadPath)) (ds : List Cell)
    (ran : Joined runs (starts_at limit c plan site q (state_of m cells)) cells chosen os ds) where
  abbrev path_in : World → Path
  path_in w = record { state = state_of m cells; world = w }

  abbrev how_is : Result Gave Stop → Result Gave Stop
  how_is how = with_answer c (answer_of c site.kind q) how

  -- there is an answer
  pub answer_there : (how : Result Gave Stop) × AnswerOf chosen os how
  answer_there = let r = joined_forks limit c plan q (path_in (quiet plan)) site at refl refl chosen os ds ran in (r.0, r.1)

  pub all_ran : AllRan (inner_path limit c plan (length cells) site (state_of m [])) os
  all_ran = joined_ran limit c plan site q (state_of m cells) (length cells) m.turns (shares_of plan site q) cells chosen os ds ran

  -- of the construct's kind
  pub answer_fits : IsValid c → (low : Around) → Forked c low q.site (state_of m []) → (e : End) → ((p : ThreadPath) → AllRan p os → OfBody p (λ b. EndWell b e)) → (g : Gave) → Answers site.kind q.initial e (Ok g) → IsAnswer c (slice_get c.instrs m.pc) g
  answer_fits valid low here e well g a = fits limit c plan q m cells site at m.turns m.looks cells valid low (forked_on c m m refl low q.site [] cells here) e (well (inner_path limit c plan (length cells) site (state_of m [])) all_ran) g a

  module _ (workers : ℕ) (ordered : workers ≡ 1 → FineInOrder runs (starts_at limit c plan site q (state_of m cells)) cells × IsOrdered runs (starts_at limit c plan site q (state_of m cells)) cells chosen os ds) (t : Told) (notes : note_of t ≡ note_by chosen os) where
    module _ (h : Result Gave Stop) (is : (how : Result Gave Stop) → AnswerOf chosen os how → how_is how ≡ h) (m' : Machine) (turns : m'.turns ≡ turns_of m.turns os) where
      noted_so : (w : World) → w.plan ≡ cuts_of plan → (ns : List ConstructNote) → ForksTo limit c q (with_schedule (ByNotes (note_of t ∷ ns)) (path_in w)) (forked (record w { notes = ByNotes ns }) ds m'.turns h)
      noted_so w planned ns =
          let r = joined_forks limit c plan q (path_in w) site at refl planned chosen os ds ran in
          subst (λ (n : ConstructNote). ForksTo limit c q (with_schedule (ByNotes (n ∷ ns)) (path_in w)) (forked (record w { notes = ByNotes ns }) ds m'.turns h)) (sym notes)
          (subst (λ k. ForksTo limit c q (with_schedule (ByNotes (note_by chosen os ∷ ns)) (path_in w)) (forked (record w { notes = ByNotes ns }) ds k h)) (sym turns)
          (subst (λ how. ForksTo limit c q (with_schedule (ByNotes (note_by chosen os ∷ ns)) (path_in w)) (forked (record w { notes = ByNotes ns }) ds (turns_of m.turns os) how)) (is r.0 r.1) (r.2 ns)))

      ordered_so : workers ≡ 1 → (w : World) → w.plan ≡ cuts_of plan → w.notes ≡ InOrder → ForksTo limit c q (path_in w) (forked w ds m'.turns h)
      ordered_so one w planned inside =
          let o = ordered one in
          let r = ordered_forks limit c plan q (path_in w) site at refl planned inside chosen os ds o.0 o.1 in
          subst (λ k. ForksTo limit c q (path_in w) (forked w ds k h)) (sym turns)
          (subst (λ how. ForksTo limit c q (path_in w) (forked w ds (turns_of m.turns os) how)) (is r.0 r.1) r.2)

      site_ran : Behind c t m m' ds h → m'.turns ≤ limit → SiteRan limit c plan q workers t m cells m' ds
      site_ran b le = record { how = h; behind = b; within = le; noted = noted_so; in_order = ordered_so }

    module _ (e : End) (ends : (how : Result Gave Stop) → AnswerOf chosen os how → EndOf e how) (m' : Machine) (n : ℕ) (most : n ≡ turns_of m.turns os) (least : (p : ThreadPath) → AllRan p os → m.turns ≤ p.limit → n ≤ p.limit) (few : m.turns ≤ limit) where
      le : n ≤ limit
      le = least (inner_path limit c plan (length cells) site (state_of m [])) all_ran few

      gives_by : (g : Gave) (e : End) → Answers site.kind q.initial e (Ok g) → (how : Result Gave Stop) → EndOf e how → how_is how ≡ Ok g
      gives_by g (end.Values vs) a how h = ap (with_answer c (answer_of c site.kind q)) h ∙ ap Ok (sym (a c q refl))
      gives_by g (end.Left l) a how h = ap (with_answer c (answer_of c site.kind q)) h ∙ ap Ok (still c site.kind q l ∙ sym a)
      gives_by g end.Spent a how h = absurd a
      gives_by g end.Paused a how h = absurd a
      gives_by g end.NoMemory a how h = absurd a

      -- the machine goes on with the answer
      pub site_on : (g : Gave) → Answers site.kind q.initial e (Ok g) → t.spent ≡ false → state_of m' ds ≡ resumed c g (state_of (record m { turns = n }) ds) → SiteRan limit c plan q workers t m cells m' ds
      site_on g answer on state =
          let turns : m'.turns ≡ n = ap (λ (s : State). s.turns) state ∙ (resumed_same c g None (state_of (record m { turns = n }) ds)).1 in
          site_ran (Ok g) (λ how h. gives_by g e answer how (ends how h)) m' (turns ∙ most) (on, state ∙ ap (λ k. resumed c g (state_of (record m { turns = k }) ds)) (sym turns)) (subst (λ k. k ≤ limit) (sym turns) le)

      -- turns ran out
      pub site_off : Answers site.kind q.initial e (Err way.Spent) → t.spent ≡ true → m' ≡ record m { turns = n } → SiteRan limit c plan q workers t m cells m' ds
      site_off a off same =
          let turns : m'.turns ≡ n = ap (λ (m : Machine). m.turns) same in
          let out = spent_only site.kind q.initial e a in
          site_ran (Err Spent) (λ how h. ap (with_answer c (answer_of c site.kind q)) (subst (λ e. EndOf e how) out (ends how h))) m' (turns ∙ most)
          (off, refl, same ∙ ap (λ k. record m { turns = k }) (sym turns)) (subst (λ k. k ≤ limit) (sym turns) le)
