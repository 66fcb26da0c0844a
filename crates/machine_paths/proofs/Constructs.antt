-- What the machine comes to at a construct whose threads workers ran.
use Rattle.std.proofs.Common.{◌≡◌, ℕ, suc, ◌+◌, ◌≤◌, inl, inr, List, [], ◌∷◌, length, slice_get, Option, Some, None, Result, Ok, false, arith, refl, sym, ◌∙◌, ap, subst}
use Rattle.ada_base.specs.Cells.{Cell}
use Rattle.ada_base.specs.Cuts.{Plan, cuts_of}
use Rattle.ada_base.specs.Notes.{ConstructNote, InOrder, ByNotes}
use Rattle.ada_workers.specs.Joins.{Joined}
use Rattle.ada_workers.specs.Threads.{FineInOrder, IsOrdered}
use Rattle.ada_workers.specs.declared.construct.Over.{Over}
use Rattle.behaviours.specs.Joins.{Share, deal}
use Rattle.stack_code.specs.declared.code.Code.{Code}
use Rattle.stack_code.specs.declared.code.CodeSite.{CodeSite}
use Rattle.stack_code.specs.declared.path.Asked.{Asked}
use Rattle.stack_code.specs.declared.path.Gave.{Gave}
use Rattle.stack_code.specs.declared.path.Gave.TheVariants as gave
use Rattle.stack_code.specs.declared.path.Leave.{Leave}
use Rattle.stack_code.specs.Machine.{Stop, Left}
use Rattle.ada_lower.specs.Driven.{World, Dyn, Path, Final, Step, Forks, Forked, sizes_for, raw_of, in_order, by_note, by_notes, thread_at, answer_of, answering, with_answer, at_site, fork, fork_ended, after_fork, goes}
use Rattle.ada_lower.proofs.ForkFuel.{goes_by, by_notes_more, in_order_more}
use Rattle.machine_paths.specs.Silent.{silently, Leads, Reaches}
use Rattle.machine_paths.specs.Threads.{ThreadPath, enough, runs}
use Rattle.machine_paths.specs.Noting.{note_by, turns_of, LeftBy, AnswerOf}
use Rattle.machine_paths.specs.Constructing.{shares_of, starts_at, with_schedule, ForksTo, came_to, answered_by}
use Rattle.machine_paths.proofs.Worlds.{silently_goes}
use Rattle.machine_paths.proofs.Started.{as_threads}
use Rattle.machine_paths.proofs.Ordered.{joined_by_note, joined_in_order}
use Rattle.machine_paths.proofs.Leading.{fork_leads}

-- ---- there is one answer
left_from : (t k : ℕ) (os : List (Over ThreadPath)) (l : Leave) → LeftBy t k os l → k ≤ t
left_from t k [] l h = absurd h
left_from t k (o ∷ os) l (inl h) = omega (arith, h.0)
left_from t k (o ∷ os) l (inr h) = let g = left_from t (suc k) os l h in omega (arith, g)

same_leave : (l m : Leave) → ◌≡◌ {A = Option Stop} (Some (Left l)) (Some (Left m)) → l ≡ m
same_leave l m e = cc

left_one : (t k : ℕ) (os : List (Over ThreadPath)) (l m : Leave) → LeftBy t k os l → LeftBy t k os m → l ≡ m
left_one t k [] l m h g = absurd h
left_one t k (o ∷ os) l m (inl h) (inl g) = same_leave l m (sym h.1 ∙ g.1)
left_one t k (o ∷ os) l m (inl h) (inr g) = let le = left_from t (suc k) os m g in absurd (omega (arith, h.0, le))
left_one t k (o ∷ os) l m (inr h) (inl g) = let le = left_from t (suc k) os l h in absurd (omega (arith, g.0, le))
left_one t k (o ∷ os) l m (inr h) (inr g) = left_one t (suc k) os l m h g

pub answer_one : (chosen : Option ℕ) (os : List (Over ThreadPath)) (x y : Result Gave Stop) → AnswerOf chosen os x → AnswerOf chosen os y → x ≡ y
answer_one None os x y h g = h ∙ sym g
answer_one (Some t) os x y h g = h.2 ∙ ap (λ l. Ok (gave.Left l)) (left_one t 0 os h.0 g.0 h.1 g.1) ∙ sym g.2

-- a fork, of which the threads came to this within enough steps
reaches_fork : (limit : ℕ) (c : Code) (q : Asked) (p : Path) (r : Forked) → ((m : ℕ) → enough limit c ≤ m → fork c (λ x. goes limit c m x) q p ≡ Some r) → Reaches limit c (Forks q p) (fork_ended c r p)
reaches_fork limit c q p r is e h =
    let m = enough limit c + h.0 in
    (suc m, ap (λ o. after_fork limit c o p (λ x. goes limit c m x)) (is m (omega arith)) ∙ goes_by limit c h.0 m (fork_ended c r p) e (omega arith) h.1)

module _ (limit : ℕ) (c : Code) (plan : Plan) (q : Asked) (p : Path) (site : CodeSite) (at : slice_get c.sites q.site ≡ Some site) (left : p.state.left ≡ None) (planned : p.world.plan ≡ cuts_of plan) where
  abbrev top : ℕ
  top = length p.state.cells

  abbrev js : List Share
  js = shares_of plan site q

  abbrev begins : Dyn → Share → Path
  begins d j = thread_at c top site q p d j

  -- the threads came to that
  abbrev came : World → List Cell → ℕ → Result Gave Stop → Forked
  came w ds turns how = record { dyn = record { cells = ds; turns = turns; left = None; world = w }; how = how }

  -- ---- an outermost construct
  module _ (ns : List ConstructNote) (chosen : Option ℕ) (os : List (Over ThreadPath)) (ds : List Cell) (joined : Joined runs (starts_at limit c plan site q p.state) p.state.cells chosen os ds) where
    abbrev w : World
    w = record p.world { notes = ByNotes ns }

    abbrev before : Path
    before = with_schedule (ByNotes (note_by chosen os ∷ ns)) p

    noted : (how : Result Gave Stop) × AnswerOf chosen os how × (by_note (goes limit c (enough limit c)) (λ d j. begins d j) top (note_by chosen os) js (record { cells = p.state.cells; turns = p.state.turns; left = None; world = w }) ≡ Some (came w ds (turns_of p.state.turns os) how))
    noted = joined_by_note (goes limit c (enough limit c)) (λ d j. begins d j) top p.state.turns w chosen js (starts_at limit c plan site q p.state) os p.state.cells ds refl
        (as_threads limit c plan site q p top p.state.turns w planned (goes limit c (enough limit c)) (λ x e h. silently_goes limit c (enough limit c) x e h) 0 0 (sizes_for (cuts_of plan) site.kind q)) joined

    noted_so : (m : ℕ) → enough limit c ≤ m → by_notes (goes limit c m) (λ d j. begins d j) top (ByNotes (note_by chosen os ∷ ns)) js (raw_of p.state before.world) ≡ Some (came w ds (turns_of p.state.turns os) noted.0)
    noted_so m le = by_notes_more (goes limit c (enough limit c)) (goes limit c m) (λ x e h. goes_by limit c (enough limit c) m x e le h) (λ d j. begins d j) top (ByNotes (note_by chosen os ∷ ns)) js (raw_of p.state before.world) (came w ds (turns_of p.state.turns os) noted.0)
        (ap (λ l. by_notes (goes limit c (enough limit c)) (λ d j. begins d j) top (ByNotes (note_by chosen os ∷ ns)) js (record { cells = p.state.cells; turns = p.state.turns; left = l; world = before.world })) left ∙ noted.2)

    forks_so : (m : ℕ) → enough limit c ≤ m → fork c (λ x. goes limit c m x) q before ≡ Some (came w ds (turns_of p.state.turns os) (with_answer c (answer_of c site.kind q) noted.0))
    forks_so m le =
        ap (λ s. at_site c s (goes limit c m) q before) at
        ∙ ap (λ plan. answering c (answer_of c site.kind q) (by_notes (goes limit c m) (λ d j. begins d j) top (ByNotes (note_by chosen os ∷ ns)) (deal 0 0 (sizes_for plan site.kind q)) (raw_of p.state before.world))) planned
        ∙ ap (answering c (answer_of c site.kind q)) (noted_so m le)

    noted_comes : Reaches limit c (Forks q before) (answered_by c site q (with_schedule (ByNotes ns) p) ds (turns_of p.state.turns os) noted.0)
    noted_comes = subst (λ l. Reaches limit c (Forks q before) (fork_ended c (record { dyn = record { cells = ds; turns = turns_of p.state.turns os; left = l; world = w }; how = with_answer c (answer_of c site.kind q) noted.0 }) before)) (sym left)
        (reaches_fork limit c q before (came w ds (turns_of p.state.turns os) (with_answer c (answer_of c site.kind q) noted.0)) (λ m le. forks_so m le))

  -- by the note that is told
  pub joined_comes : (chosen : Option ℕ) (os : List (Over ThreadPath)) (ds : List Cell) → Joined runs (starts_at limit c plan site q p.state) p.state.cells chosen os ds →
      (how : Result Gave Stop) × AnswerOf chosen os how × ((ns : List ConstructNote) → Reaches limit c (Forks q (with_schedule (ByNotes (note_by chosen os ∷ ns)) p)) (answered_by c site q (with_schedule (ByNotes ns) p) ds (turns_of p.state.turns os) how))
  joined_comes chosen os ds joined =
      let h = noted [] chosen os ds joined in (
        h.0,
        h.1,
        λ ns. subst (λ how. Reaches limit c (Forks q (with_schedule (ByNotes (note_by chosen os ∷ ns)) p)) (answered_by c site q (with_schedule (ByNotes ns) p) ds (turns_of p.state.turns os) how))
            (answer_one chosen os (noted ns chosen os ds joined).0 h.0 (noted ns chosen os ds joined).1 h.1) (noted_comes ns chosen os ds joined),
      )

  -- what its threads come to by that note
  pub joined_forks : (chosen : Option ℕ) (os : List (Over ThreadPath)) (ds : List Cell) → Joined runs (starts_at limit c plan site q p.state) p.state.cells chosen os ds →
      (how : Result Gave Stop) × AnswerOf chosen os how × ((ns : List ConstructNote) → ForksTo limit c q (with_schedule (ByNotes (note_by chosen os ∷ ns)) p) (came_to c site q (with_schedule (ByNotes ns) p) ds (turns_of p.state.turns os) how))
  joined_forks chosen os ds joined =
      let h = noted [] chosen os ds joined in (
        h.0,
        h.1,
        λ ns m le. subst (λ l. fork c (λ x. goes limit c m x) q (with_schedule (ByNotes (note_by chosen os ∷ ns)) p) ≡ Some (record { dyn = record { cells = ds; turns = turns_of p.state.turns os; left = l; world = record p.world { notes = ByNotes ns } }; how = with_answer c (answer_of c site.kind q) h.0 })) (sym left)
            (subst (λ how. fork c (λ x. goes limit c m x) q (with_schedule (ByNotes (note_by chosen os ∷ ns)) p) ≡ Some (came (record p.world { notes = ByNotes ns }) ds (turns_of p.state.turns os) (with_answer c (answer_of c site.kind q) how)))
            (answer_one chosen os (noted ns chosen os ds joined).0 h.0 (noted ns chosen os ds joined).1 h.1) (forks_so ns chosen os ds joined m le)),
      )

  -- ---- a construct whose threads ran in order
  module _ (run : Step → Option Final) (more : (x : Step) (e : Final) → silently limit c (enough limit c) x ≡ Some e → run x ≡ Some e) (notes : p.world.notes ≡ InOrder) where
    ordered_so : (chosen : Option ℕ) (os : List (Over ThreadPath)) (ds : List Cell) → FineInOrder runs (starts_at limit c plan site q p.state) p.state.cells → IsOrdered runs (starts_at limit c plan site q p.state) p.state.cells chosen os ds →
        (how : Result Gave Stop) × AnswerOf chosen os how × (in_order run (λ d j. begins d j) top p.state.turns (deal 0 0 (sizes_for p.world.plan site.kind q)) (raw_of p.state p.world) p.state.turns false [] ≡ Some (record { dyn = record { cells = ds; turns = turns_of p.state.turns os; left = p.state.left; world = p.world }; how = how }))
    ordered_so chosen os ds fine is =
        let h = joined_in_order run (λ d j. begins d j) top p.state.turns p.world chosen js (starts_at limit c plan site q p.state) os p.state.cells ds refl
        (as_threads limit c plan site q p top p.state.turns p.world planned run more 0 0 (sizes_for (cuts_of plan) site.kind q)) fine is in (
          h.0,
          h.1,
          (λ i. in_order run (λ d j. begins d j) top p.state.turns (deal 0 0 (sizes_for (planned i) site.kind q)) (record { cells = p.state.cells; turns = p.state.turns; left = left i; world = record p.world { notes = notes i } }) p.state.turns false [])
              ∙ h.2
              ∙ (λ i. Some (record { dyn = record { cells = ds; turns = turns_of p.state.turns os; left = sym left i; world = record p.world { notes = sym notes i } }; how = h.0 })),
        )

  -- inside a thread
  pub ordered_leads : p.world.notes ≡ InOrder → (chosen : Option ℕ) (os : List (Over ThreadPath)) (ds : List Cell) → FineInOrder runs (starts_at limit c plan site q p.state) p.state.cells → IsOrdered runs (starts_at limit c plan site q p.state) p.state.cells chosen os ds →
      (how : Result Gave Stop) × AnswerOf chosen os how × Leads limit c (Forks q p) (answered_by c site q p ds (turns_of p.state.turns os) how)
  ordered_leads notes chosen os ds fine is =
      let h = ordered_so (silently limit c (enough limit c)) (λ x e g. g) notes chosen os ds fine is in
      (h.0, h.1, fork_leads limit c q p site (record { dyn = record { cells = ds; turns = turns_of p.state.turns os; left = p.state.left; world = p.world }; how = h.0 }) at notes (enough limit c, h.2))

  -- what its threads come to where a path runs its constructs in order
  pub ordered_forks : p.world.notes ≡ InOrder → (chosen : Option ℕ) (os : List (Over ThreadPath)) (ds : List Cell) → FineInOrder runs (starts_at limit c plan site q p.state) p.state.cells → IsOrdered runs (starts_at limit c plan site q p.state) p.state.cells chosen os ds →
      (how : Result Gave Stop) × AnswerOf chosen os how × ForksTo limit c q p (came_to c site q p ds (turns_of p.state.turns os) how)
  ordered_forks notes chosen os ds fine is =
      let h = ordered_so (goes limit c (enough limit c)) (λ x e g. silently_goes limit c (enough limit c) x e g) notes chosen os ds fine is in
      let e : Forked = record { dyn = record { cells = ds; turns = turns_of p.state.turns os; left = p.state.left; world = p.world }; how = h.0 } in (
        h.0,
        h.1,
        λ m le. ap (λ s. at_site c s (goes limit c m) q p) at
            ∙ ap (λ n. answering c (answer_of c site.kind q) (by_notes (goes limit c m) (λ d j. begins d j) top n (deal 0 0 (sizes_for p.world.plan site.kind q)) (raw_of p.state p.world))) notes
            ∙ ap (answering c (answer_of c site.kind q)) (in_order_more (goes limit c (enough limit c)) (goes limit c m) (λ x f g. goes_by limit c (enough limit c) m x f le g) (λ d j. begins d j) top p.state.turns (deal 0 0 (sizes_for p.world.plan site.kind q)) (raw_of p.state p.world) p.state.turns false [] e h.2),
      )

  -- of a path that runs its constructs in order
  pub ordered_comes : p.world.notes ≡ InOrder → (chosen : Option ℕ) (os : List (Over ThreadPath)) (ds : List Cell) → FineInOrder runs (starts_at limit c plan site q p.state) p.state.cells → IsOrdered runs (starts_at limit c plan site q p.state) p.state.cells chosen os ds →
      (how : Result Gave Stop) × AnswerOf chosen os how × Reaches limit c (Forks q p) (answered_by c site q p ds (turns_of p.state.turns os) how)
  ordered_comes notes chosen os ds fine is =
      let h = ordered_so (goes limit c (enough limit c)) (λ x e g. silently_goes limit c (enough limit c) x e g) notes chosen os ds fine is in
      let e : Forked = record { dyn = record { cells = ds; turns = turns_of p.state.turns os; left = p.state.left; world = p.world }; how = h.0 } in (
        h.0,
        h.1,
        reaches_fork limit c q p (record { dyn = e.dyn; how = with_answer c (answer_of c site.kind q) h.0 }) (λ m le.
            ap (λ s. at_site c s (goes limit c m) q p) at
            ∙ ap (λ n. answering c (answer_of c site.kind q) (by_notes (goes limit c m) (λ d j. begins d j) top n (deal 0 0 (sizes_for p.world.plan site.kind q)) (raw_of p.state p.world))) notes
            ∙ ap (answering c (answer_of c site.kind q)) (in_order_more (goes limit c (enough limit c)) (goes limit c m) (λ x f g. goes_by limit c (enough limit c) m x f le g) (λ d j. begins d j) top p.state.turns (deal 0 0 (sizes_for p.world.plan site.kind q)) (raw_of p.state p.world) p.state.turns false [] e h.2)),
      )
