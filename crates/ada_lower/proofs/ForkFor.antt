-- Parallel loops: the fork, and what is behind it.
use Rattle.std.proofs.Common.{◌≡◌, ℕ, ◌+◌, ◌<◌, ℤ, pos, nat_le, List, [], ◌∷◌, slice_get, Option, Some, None, Result, Ok, Err, Bool, true, false, ◌&&◌, refl, sym, ap, ap₂, ◌∙◌, subst, inl, inr}
use Rattle.ada_base.specs.declared.reason.Reason.{Reason}
use Rattle.ada_base.specs.declared.reason.Reason.TheVariants as reason
use Rattle.behaviours.specs.Joins.{Site, Share, deal}
use Rattle.behaviours.specs.Paths.{Leave, Exits, Returns, Raises}
use Rattle.typed_tree.specs.Syntax.{Expr, Program}
use Rattle.ada_meaning.specs.Operations.{Cut, Operations}
use Rattle.ada_meaning.specs.Stored as stored
use Rattle.ada_meaning.specs.Stored.{Stored, Cause, OutOfTurns, NoRoom, CutOff, Misnoted, Touch}
use Rattle.ada_meaning.specs.Meaning
use Rattle.ada_meaning.specs.Meaning.{Env, Passed, Returned, most_iterations, most_threads}
use Rattle.stack_code.specs.declared.code.Code.{Code}
use Rattle.stack_code.specs.declared.code.CodeSite.{CodeSite}
use Rattle.stack_code.specs.declared.instr.Instr.TheVariants as i
use Rattle.stack_code.specs.declared.path.Asked.{Asked}
use Rattle.stack_code.specs.declared.path.Gave.TheVariants as gave
use Rattle.stack_code.specs.Deeds.{can_fork, asked, many}
use Rattle.behaviours.specs.Paths.{Entity}
use Rattle.ada_lower.specs.Driven.{Dyn, Fixed, Step, on, thrown, sizes_for, answer_of, fork_end, state_of, At, Alike}
use Rattle.ada_lower.specs.Sights.{Emit, Scope, Named, Sight, Stands, aside, listed}
use Rattle.ada_lower.specs.Emission.{exiting}
use Rattle.ada_lower.specs.Fits.{Ghost, Fit, Ends, left_by, Lands, Knows, Asks}
use Rattle.ada_lower.proofs.Forks.{ThreadDoes}
use Rattle.ada_lower.specs.Emission.{left_code}
use Rattle.ada_lower.proofs.Inner.{InnerDo}
use Rattle.ada_lower.proofs.Framework.{any, To, Doing, comes_here, comes_on, comes_goes, does_before, does_returned, asks_split}
use Rattle.ada_lower.proofs.Standing.{lies_end}
use Rattle.ada_lower.proofs.Parts.{does_is, does_first, Fewer}
use Rattle.ada_lower.proofs.Statements.{Suits}
use Rattle.ada_lower.proofs.ForkThreads.{AllDo}
use Rattle.ada_lower.proofs.ForkSteps.{keeping, fork_ends, MayEnd, operands, comes_too_many, resumes, fork_lands}
use Rattle.ada_lower.proofs.ForkInside.{nested_in, left_as_kept, left_as_nested, comes_unnest, Inside, does_caught, does_left}
use Rattle.ada_lower.proofs.ForkLeft.{In, MayLeave, left_ended, left_own, left_away, takes_exit, takes_own, takes_raise, takes_return}
use Rattle.ada_lower.proofs.ForkFine.{Lends, views_of}
use Rattle.ada_lower.proofs.ForkViews.{view_ghost, Apart}
use Rattle.ada_lower.specs.Lending.{Among}

-- code that is jumped over
pub stands_behind : (c : Code) (from to : ℕ) (s : Scope) (h : ℕ) (body : Emit) → Stands c (aside s h body) from to → At c from (i.Jump to) s.entry × Stands c body (from + 1) to
stands_behind c from to s h body (at, l) = (subst (λ k. At c from (i.Jump k) s.entry) (sym (lies_end c (from + 1) (listed body (from + 1)) to l)) at, l)

-- all shares of a list are so
abbrev pub Every : (Share → Type 0) → List Share → Type 0
Every ok [] = Unit {0}
Every ok (j ∷ js) = ok j × Every ok js

pub every_one : (js : List Share) → Every (λ j. Unit {0}) js
every_one [] = tt
every_one (j ∷ js) = (tt, every_one js)

-- one of them is so
pub every_among : (ok : Share → Type 0) (js : List Share) (j : Share) → Every ok js → Among j js → ok j
every_among ok [] j oks a = absurd a
every_among ok (i ∷ js) j oks (inl e) = subst ok (sym e) oks.0
every_among ok (i ∷ js) j oks (inr a) = every_among ok js j oks.1 a

-- what all threads of such shares do, those of a list do
pub all_do : (limit : ℕ) (c : Code) (f : Fixed) (g : Ghost) (cs : CodeSite) (q : Asked) (pc : ℕ) (st : List ℤ) (d0 : Dyn) (may : Leave → Type 0) {A : Type 0} (value : A → Option ℤ) (body : Share → Stored A) (ok : Share → Type 0)
    → ((j : Share) → ok j → ThreadDoes limit c may g f cs q value j (body j)) → (js : List Share) → Every ok js → AllDo limit c f g cs q pc st d0 may value body js
all_do limit c f g cs q pc st d0 may value body ok h [] oks = tt
all_do limit c f g cs q pc st d0 may value body ok h (j ∷ js) oks = (h j oks.0, all_do limit c f g cs q pc st d0 may value body ok h js oks.1)

module _ (limit : ℕ) (cuts : ℕ → ℕ → List ℕ) (program : Program) (c : Code) (f : Fixed) (calls : ℕ → ℕ → Stored (Unit {0}) → List Passed → Stored Returned) (globals : ℕ → Entity → Option Named) (mains : Entity → Bool) (epar : Sight → Expr → Type 0) (calls_all : (f' : Fixed) → Alike f' f → InnerDo limit cuts program globals mains epar c f' calls)
    (x : Ends) (g : Ghost) (env : Env) (s : Sight) (kn : Knows limit cuts g f s env) (su : Suits limit c f x s) (room : s.scope.free + 1 < s.cells) (kept : f.kept ≡ [])
    (all loops : List ℕ) (within : (n : ℕ) → In n loops → In n all) (exits_to : (n from to : ℕ) → In n loops → Stands c (exiting s.scope n (s.scope.exits n)) from to → (d : Dyn) → To limit c (on f from [] d) (x.exits n d)) where
  abbrev fi : Fixed
  fi = nested_in f

  abbrev ops : Operations {1}
  ops = stored.noted_operations limit cuts

  -- behind a fork: its jump, its end, and where it is left to
  module _ (number : Option ℕ) (qf past to : ℕ) (jump : At c (qf + 1) (i.Jump past) x.entry) (unnest : At c past i.Unnest x.entry) (l : Stands c (left_code s.scope number all) (past + 1) to)
      (h : Ghost) (few : Fewer limit c f x h g) (back : (st : stored.State) (d : Dyn) → Fit h st d → Fit g st d)
      (may : Leave → Type 0) (may_is : (w : Leave) → may w → MayLeave number loops w) where
    behind : (st : List ℤ) (d : Dyn) → To limit c (on (keeping [] fi) (qf + 1) st d) (on f (past + 1) st d)
    behind st d = comes_on limit c (comes_goes limit c (keeping [] fi) st past st d jump refl) (comes_unnest limit c f x st d kept unnest)

    weaker : {m : Stored (Unit {0})} {from : Dyn → Step} → Doing limit c f x g g any m from (λ _ d. on f to [] d) → Doing limit c f x h g any m from (λ _ d. on f to [] d)
    weaker k = does_first limit c f x few (λ st d w. (d, back st d w, comes_here limit c _)) k

    raise_left : (r : Reason) → Doing limit c f x h g any (stored.leaves {A = Unit {0}} (Raises r)) (λ d. thrown r x.entry (keeping [] fi) d) (λ _ d. on f to [] d)
    unfolding stored.leaves
    raise_left r = weaker (does_is limit c f x {to = λ _ d. on f to [] d} (Err (stored.Left (Raises r))) (λ st. refl) (λ d. left_as_kept limit c f x [] kept (Raises r) d))

    own : (w : Leave) → takes_exit number w ≡ true → Doing limit c f x h g any (stored.ret (tt {0})) (λ d. left_by (keeping [] fi) (fork_ends fi qf [] x.entry) w d) (λ _ d. on f to [] d)
    own (Exits n) e =
        does_before limit c f x (λ d. behind (pos (3 + n) ∷ pos 0 ∷ []) d) (weaker (left_own limit cuts program c f calls globals mains epar calls_all x g env s kn su room all loops within exits_to number (past + 1) to l n (takes_own number n ∙ e)))
    own (Returns v) e = absurd (takes_return number v e)
    own (Raises r) e = absurd (takes_raise number r e)

    away : (w : Leave) → takes_exit number w ≡ false → MayLeave number loops w → Doing limit c f x h g any (stored.leaves {A = Unit {0}} w) (λ d. left_by (keeping [] fi) (fork_ends fi qf [] x.entry) w d) (λ _ d. on f to [] d)
    away (Exits n) e ml = does_before limit c f x (λ d. behind (pos (3 + n) ∷ pos 0 ∷ []) d) (weaker (left_away limit cuts program c f calls globals mains epar calls_all x g env s kn su room all loops within exits_to number (past + 1) to l (Exits n) e ml (λ r z. let y : Exits n ≡ Raises r = z in cc)))
    away (Returns None) e ml = does_before limit c f x (λ d. behind (pos 1 ∷ pos 0 ∷ []) d) (weaker (left_away limit cuts program c f calls globals mains epar calls_all x g env s kn su room all loops within exits_to number (past + 1) to l (Returns None) e ml (λ r z. let y : Returns None ≡ Raises r = z in cc)))
    away (Returns (Some v)) e ml = does_before limit c f x (λ d. behind (pos 2 ∷ v ∷ []) d) (weaker (left_away limit cuts program c f calls globals mains epar calls_all x g env s kn su room all loops within exits_to number (past + 1) to l (Returns (Some v)) e ml (λ r z. let y : Returns (Some v) ≡ Raises r = z in cc)))
    away (Raises r) e ml = raise_left r

    pub caught : {m : Stored (Unit {0})} {from : Dyn → Step} → Inside limit c f x may (keeping [] fi) (fork_ends fi qf [] x.entry) h h any m from (λ _ d. on (keeping [] fi) (qf + 1) (pos 0 ∷ pos 0 ∷ []) d)
        → Doing limit c f x h g any (stored.handles m (takes_exit number) (λ _. stored.ret (tt {0}))) from (λ _ d. on f to [] d)
    caught inside =
        does_caught limit c f x may (keeping [] fi) (fork_ends fi qf [] x.entry) refl refl (λ ts al. al) back inside
        (λ a u. does_before limit c f x (λ d. behind (pos 0 ∷ pos 0 ∷ []) d) (weaker (left_ended limit cuts program c f calls globals mains epar calls_all x g env s kn su room all loops within exits_to number (past + 1) to l)))
        (λ w takes ml. own w takes)
        (λ w takes ml. away w takes (may_is w ml))

    -- the fork itself
    module _ (cs : CodeSite) (site : ℕ) (first last chunk last_chunk : ℤ) (site_at : slice_get c.sites site ≡ Some cs) (fork : At c qf (i.Fork site) x.entry)
        (plain : (vs : List ℤ) → answer_of c cs.kind (asked site first last chunk last_chunk (pos 0)) (gave.Numbers vs) ≡ gave.Nothing)
        (some : nat_le 1 (many chunk last_chunk) ≡ true) (few_threads : nat_le (many chunk last_chunk) most_threads ≡ true)
        (team : Site) (body : ℕ → ℕ → Stored (Unit {0})) (cut : Cut) (sizes : stored.sizes_of limit cuts cut ≡ sizes_for h.plan cs.kind (asked site first last chunk last_chunk (pos 0)))
        (ok : Share → Type 0) (oks : Every ok (deal 0 0 (sizes_for h.plan cs.kind (asked site first last chunk last_chunk (pos 0)))))
        (threads : (j : Share) → ok j → ThreadDoes limit c (may) h fi cs (asked site first last chunk last_chunk (pos 0)) (λ (u : Unit {0}). None) j (stored.loop_thread (λ j. body (Rattle.ada_meaning.specs.Operations.chunk_of cut j)) j))
        {sh : Sight} {eh : Env} (knows : Knows limit cuts h fi sh eh) (lends : Lends fi h cs (asked site first last chunk last_chunk (pos 0)) team (deal 0 0 (sizes_for h.plan cs.kind (asked site first last chunk last_chunk (pos 0)))))
        (seen : (owner : ℕ → Option ℕ) → Apart h owner → (j : Share) → ok j → ThreadDoes limit c (may) (view_ghost owner j.number h) fi cs (asked site first last chunk last_chunk (pos 0)) (λ (u : Unit {0}). None) j (stored.loop_thread (λ j. body (Rattle.ada_meaning.specs.Operations.chunk_of cut j)) j)) where
      abbrev thread_body : Share → Stored (Unit {0})
      thread_body = stored.loop_thread (λ j. body (Rattle.ada_meaning.specs.Operations.chunk_of cut j))

      abbrev goes_to : Unit {0} → Dyn → Step
      goes_to u d = on (keeping [] fi) (qf + 1) (pos 0 ∷ pos 0 ∷ []) d

      abbrev from_fork : Dyn → Step
      from_fork d = on fi qf (operands limit c fi first last chunk last_chunk (pos 0) []) d

      abbrev LandsMay : Step → ℕ → stored.State → Result (Unit {0}) Cause → Type 0
      LandsMay p n t e = Lands limit c (keeping [] fi) (fork_ends fi qf [] x.entry) any h p n goes_to t e × MayEnd (may) e

      answers : (b : Unit {0}) (vs : List ℤ) (d0 d : Dyn) → Unit {0} → To limit c (fork_end c (Ok (answer_of c cs.kind (asked site first last chunk last_chunk (pos 0)) (gave.Numbers vs))) d (state_of fi qf [] [] None d0)) (goes_to b d)
      answers b vs d0 d u = subst (λ y. To limit c (fork_end c (Ok y) d (state_of fi qf [] [] None d0)) (goes_to b d)) (sym (plain vs))
          (subst (λ y. To limit c y (goes_to b d)) (sym (resumes limit c fi [] gave.Nothing d0 d fork)) (comes_here limit c (goes_to b d)))

      inside_by : can_fork (many first last) (many chunk last_chunk) ≡ true
          → Inside limit c f x (may) (keeping [] fi) (fork_ends fi qf [] x.entry) h h any (stored.noted_loops limit cuts team cut body) from_fork goes_to
      unfolding stored.bind stored.ret
      inside_by can = record {
        by = λ st d w al.
            let (a1, a2) = asks_split limit c f x h ((stored.noted_team team stored.first_of_both tt (deal 0 0 (stored.sizes_of limit cuts cut)) thread_body).touches st) _ ((stored.noted_team team stored.first_of_both tt (deal 0 0 (stored.sizes_of limit cuts cut)) thread_body).visits st) _ al in
            let r = (stored.noted_team team stored.first_of_both tt (deal 0 0 (stored.sizes_of limit cuts cut)) thread_body).does st in
            after st d r.state r.end (subst (λ z. let r = (stored.noted_team team stored.first_of_both tt (deal 0 0 z) thread_body).does st in LandsMay (from_fork d) st.turns r.state r.end) (sym sizes)
            (fork_lands limit c fi h cs site first last chunk last_chunk (pos 0) (may) {A = Unit {0}} (λ u. None) {B = Unit {0}} (λ b vs. Unit {0}) stored.first_of_both (λ b vs a u. tt) team thread_body
            [] goes_to fork site_at can answers d knows
            (views_of limit c fi h cs (asked site first last chunk last_chunk (pos 0)) qf [] d may {A = Unit {0}} (λ u. None) {B = Unit {0}} stored.first_of_both thread_body team (deal 0 0 (sizes_for h.plan cs.kind (asked site first last chunk last_chunk (pos 0)))) lends
            (λ owner apart j among. seen owner apart j (every_among ok (deal 0 0 (sizes_for h.plan cs.kind (asked site first last chunk last_chunk (pos 0)))) j oks among)))
            (all_do limit c fi h cs (asked site first last chunk last_chunk (pos 0)) qf [] d (may) {A = Unit {0}} (λ u. None) thread_body ok threads (deal 0 0 (sizes_for h.plan cs.kind (asked site first last chunk last_chunk (pos 0)))) oks)
            st w tt tt (subst (λ z. Asks f h ((stored.noted_team team stored.first_of_both tt (deal 0 0 z) thread_body).touches st) ((stored.noted_team team stored.first_of_both tt (deal 0 0 z) thread_body).visits st)) sizes a1)));
      }
        where
          after : (st : stored.State) (d : Dyn) (t : stored.State) (e : Result (Unit {0}) Cause) → LandsMay (from_fork d) st.turns t e → (let r = stored.next t e (λ (u : Unit {0}). stored.ret (tt {0})) in LandsMay (from_fork d) st.turns r.state r.end)
          after st d t (Ok u) l = l
          after st d t (Err e) l = l

      -- with the test of their count
      pub forked_does : Doing limit c f x h g any (stored.bind (Meaning.unless ops (nat_le (many first last) most_iterations) reason.StorageError) (λ _. stored.handles (stored.noted_loops limit cuts team cut body) (takes_exit number) (λ _. stored.ret (tt {0}))))
          from_fork (λ _ d. on f to [] d)
      unfolding stored.bind stored.ret stored.leaves
      forked_does = go (nat_le (many first last) most_iterations) refl
        where
          go : (b : Bool) → nat_le (many first last) most_iterations ≡ b
              → Doing limit c f x h g any (stored.bind (Meaning.unless ops b reason.StorageError) (λ _. stored.handles (stored.noted_loops limit cuts team cut body) (takes_exit number) (λ _. stored.ret (tt {0})))) from_fork (λ _ d. on f to [] d)
          go true e = does_returned limit c f x (λ _. stored.handles (stored.noted_loops limit cuts team cut body) (takes_exit number) (λ _. stored.ret (tt {0}))) (tt {0})
              (caught (inside_by (ap (λ t. t && (nat_le 1 (many chunk last_chunk) && nat_le (many chunk last_chunk) most_threads)) e ∙ ap₂ (λ t u. t && u) some few_threads)))
          go false e = weaker (does_is limit c f x {to = λ _ d. on f to [] d} (Err (stored.Left (Raises reason.StorageError))) (λ st. refl)
              (λ d. comes_on limit c (comes_too_many limit c fi first last chunk last_chunk (pos 0) [] d fork (ap (λ t. t && (nat_le 1 (many chunk last_chunk) && nat_le (many chunk last_chunk) most_threads)) e)) (left_as_nested limit c f x (Raises reason.StorageError) d)))

      -- where nothing is handled and the count is static
      pub blocked_does : can_fork (many first last) (many chunk last_chunk) ≡ true → ((w : Leave) → may w → takes_exit number w ≡ false)
          → Doing limit c f x h g any (stored.noted_loops limit cuts team cut body) from_fork (λ _ d. on f to [] d)
      blocked_does can off = does_left limit c f x may (keeping [] fi) (fork_ends fi qf [] x.entry) refl refl back (inside_by can)
          (λ a u. does_before limit c f x (λ d. behind (pos 0 ∷ pos 0 ∷ []) d) (weaker (left_ended limit cuts program c f calls globals mains epar calls_all x g env s kn su room all loops within exits_to number (past + 1) to l)))
          (λ w ml. away w (off w ml) (may_is w ml))
