-- What threads came to, one after the other.
use Rattle.std.proofs.Common.{◌≡◌, ℕ, zero, suc, ◌+◌, ◌<◌, ◌≤◌, inl, inr, ℤ, Bool, true, false, cond, List, [], ◌∷◌, ◌++◌, map, length, drop, get_or, slice_get, Option, Some, None, Result, Ok, Err, arith, refl, sym, ◌∙◌, ap, subst}
use Rattle.std.proofs.Math.Nat.{max-le}
use Rattle.std.proofs.Math.Seq.{drop-cons}
use Rattle.std.proofs.Math.ListN.{drop_of_length-le}
use Rattle.std.proofs.lemmas.Option.{get_or_from_slice_get}
use Rattle.ada_base.specs.Cells.{Cell, Mine}
use Rattle.ada_base.specs.Cuts.{Plan}
use Rattle.ada_base.specs.Notes as notes
use Rattle.ada_workers.specs.Joins.{Reports, Joined, note_of, notes_of}
use Rattle.ada_workers.specs.Noted.{told_note}
use Rattle.ada_workers.specs.Orders.{by_note, ends_of}
use Rattle.ada_workers.specs.declared.construct.Over.{Over}
use Rattle.ada_workers.specs.declared.notes.ThreadNote.{ThreadNote}
use Rattle.ada_workers.specs.declared.tasks.State.{State as Told}
use Rattle.ada_workers.specs.declared.tasks.State.TheVariants as state
use Rattle.behaviours.specs.Joins.{Share}
use Rattle.stack_code.specs.declared.code.Code.{Code}
use Rattle.stack_code.specs.declared.code.CodeSite.{CodeSite}
use Rattle.stack_code.specs.declared.path.Asked.{Asked}
use Rattle.stack_code.specs.declared.path.Gave.{Gave}
use Rattle.stack_code.specs.declared.path.Gave.TheVariants as gave
use Rattle.stack_code.specs.declared.path.Leave.{Leave}
use Rattle.stack_code.specs.Machine.{State, Stop, Left, Spent}
use Rattle.ada_lower.specs.Driven.{Final}
use Rattle.machine_paths.specs.Noting.{LeftBy, AnswerOf, spent_by, values_by, spent_after, values_after, turns_by, turns_of}
use Rattle.machine_paths.specs.Starting.{thread_start, thread_starts}
use Rattle.machine_paths.specs.Threads.{ThreadPath, ran, runs, outcome_of}
use Rattle.ada_threads.specs.Sites.{AllRan, left_in}
use Rattle.ada_threads.specs.ThreadPaths.{how_by}
use Rattle.ada_threads.specs.declared.way.Way.{Way}
use Rattle.ada_threads.specs.declared.way.Way.TheVariants as way

-- ---- the next of a list
pub next : {A : Type 0} (xs : List A) (i : ℕ) (x : A) → i < length xs → x ≡ get_or xs i x → drop i xs ≡ x ∷ drop (i + 1) xs
next xs i x lt is = let e : suc i ≡ i + 1 = omega arith in drop-cons xs i x lt ∙ ap (λ y. y ∷ drop (suc i) xs) (sym is) ∙ ap (λ n. x ∷ drop n xs) e

-- the one that a table has there
pub one_at : {A : Type 0} (xs : List A) (k : ℕ) (site x : A) → slice_get xs k ≡ Some site → x ≡ get_or xs k x → x ≡ site
one_at xs k site x at is = is ∙ get_or_from_slice_get xs k site x at

module _ (os : List (Over ThreadPath)) (i : ℕ) (o : Over ThreadPath) (lt : i < length os) (is : o ≡ get_or os i o) where
  pub turns_step : (all m n : ℕ) → all ≡ turns_of m (drop i os) → n ≡ turns_by m o.state o.path.turns → all ≡ turns_of n (drop (i + 1) os)
  turns_step all m n h e = h ∙ ap (turns_of m) (next os i o lt is) ∙ ap (λ k. turns_of k (drop (i + 1) os)) (sym e)

  pub spent_step : (all b d : Bool) → all ≡ spent_after b (drop i os) → d ≡ spent_by b o.path.how → all ≡ spent_after d (drop (i + 1) os)
  spent_step all b d h e = h ∙ ap (spent_after b) (next os i o lt is) ∙ ap (λ k. spent_after k (drop (i + 1) os)) (sym e)

  pub values_step : (all vs us : List ℤ) → all ≡ values_after vs (drop i os) → us ≡ values_by vs o.path.how → all ≡ values_after us (drop (i + 1) os)
  values_step all vs us h e = h ∙ ap (values_after vs) (next os i o lt is) ∙ ap (λ k. values_after k (drop (i + 1) os)) (sym e)

  push_one : (xs : List ThreadNote) (x : ThreadNote) (ys : List notes.ThreadNote) → map told_note (xs ++ x ∷ []) ++ ys ≡ map told_note xs ++ told_note x ∷ ys
  push_one [] x ys = refl
  push_one (y ∷ xs) x ys = ap (λ l. told_note y ∷ l) (push_one xs x ys)

  pub notes_step : (xs : List ThreadNote) (x : ThreadNote) → told_note x ≡ note_of o.state → map told_note xs ++ notes_of (drop i os) ≡ notes_of os → map told_note (xs ++ x ∷ []) ++ notes_of (drop (i + 1) os) ≡ notes_of os
  notes_step xs x e h = push_one xs x (notes_of (drop (i + 1) os)) ∙ ap (λ y. map told_note xs ++ y ∷ notes_of (drop (i + 1) os)) e ∙ ap (λ l. map told_note xs ++ notes_of l) (sym (next os i o lt is)) ∙ h

module _ (os : List (Over ThreadPath)) (i : ℕ) (le : length os ≤ i) where
  none : drop i os ≡ []
  none = drop_of_length-le os le

  pub turns_done : (all m : ℕ) → all ≡ turns_of m (drop i os) → all ≡ m
  turns_done all m h = h ∙ ap (turns_of m) none

  pub spent_done : (all b : Bool) → all ≡ spent_after b (drop i os) → all ≡ b
  spent_done all b h = h ∙ ap (spent_after b) none

  pub values_done : (all vs : List ℤ) → all ≡ values_after vs (drop i os) → all ≡ vs
  values_done all vs h = h ∙ ap (values_after vs) none

  no_more : (xs : List notes.ThreadNote) → xs ++ [] ≡ xs
  no_more [] = refl
  no_more (x ∷ xs) = ap (λ l. x ∷ l) (no_more xs)

  pub notes_done : (xs : List ThreadNote) → map told_note xs ++ notes_of (drop i os) ≡ notes_of os → map told_note xs ≡ notes_of os
  notes_done xs h = sym (no_more (map told_note xs)) ∙ ap (λ l. map told_note xs ++ notes_of l) (sym none) ∙ h

  -- what threads come to none of which was chosen
  pub own_spent : spent_after false os ≡ spent_after true (drop i os) → (how : Result Gave Stop) → AnswerOf None os how → how ≡ Err Spent
  own_spent h how a = a ∙ ap (λ b. cond b (Err Spent) (Ok (gave.Numbers (values_after [] os)))) (spent_done (spent_after false os) true h)

  pub own_values : (vs : List ℤ) → spent_after false os ≡ spent_after false (drop i os) → values_after [] os ≡ values_after vs (drop i os) → (how : Result Gave Stop) → AnswerOf None os how → how ≡ Ok (gave.Numbers vs)
  own_values vs h v how a =
      a ∙ ap (λ b. cond b (Err Spent) (Ok (gave.Numbers (values_after [] os)))) (spent_done (spent_after false os) false h) ∙ ap (λ us. Ok (gave.Numbers us)) (values_done (values_after [] os) vs v)

-- ---- the chosen one
record LeftAt (t k : ℕ) (os : List (Over ThreadPath)) (l : Leave) : Type 0 where
  pub at : ℕ
  pub is : t ≡ k + at
  pub within : at < length os
  pub left : (o : Over ThreadPath) → o ≡ get_or os at o → o.path.how ≡ Some (Left l)

left_at : (t k : ℕ) (os : List (Over ThreadPath)) (l : Leave) → LeftBy t k os l → LeftAt t k os l
left_at t k [] l h = absurd h
left_at t k (o ∷ os) l (inl h) = record { at = 0; is = omega (arith, h.0); within = omega arith; left = λ x e. ap (λ (y : Over ThreadPath). y.path.how) e ∙ h.1 }
left_at t k (o ∷ os) l (inr h) = let g = left_at t (suc k) os l h in record { at = suc g.at; is = omega (arith, g.is); within = omega (arith, g.within); left = λ x e. g.left x e }

module _ (t : ℕ) (os : List (Over ThreadPath)) (how : Result Gave Stop) (a : AnswerOf (Some t) os how) where
  chosen : LeftAt t 0 os a.0
  chosen = left_at t 0 os a.0 a.1

  at_is : chosen.at ≡ t
  at_is = let e = chosen.is in omega (arith, e)

  pub chosen_within : t < length os
  chosen_within = subst (λ n. n < length os) at_is chosen.within

  module _ (o : Over ThreadPath) (is : o ≡ get_or os t o) where
    pub chosen_left : o.path.how ≡ Some (Left a.0)
    chosen_left = chosen.left o (is ∙ ap (λ n. get_or os n o) (sym at_is))

  same_leave : (e l : Leave) → ◌≡◌ {A = Option Stop} (Some (Left e)) (Some (Left l)) → l ≡ e
  same_leave e l h = cc

  pub chosen_how : (e : Leave) → ◌≡◌ {A = Option Stop} (Some (Left e)) (Some (Left a.0)) → how ≡ Ok (gave.Left e)
  chosen_how e h = a.2 ∙ ap (λ l. Ok (gave.Left l)) (same_leave e a.0 h)

-- what a thread that left left by
pub left_is : (w : Option Way) (l : Leave) → ◌≡◌ {A = Option Leave} (Some l) (left_in w) → w ≡ Some (way.Left l)
left_is None l e = cc
left_is (Some (way.Left x)) l e = cc
left_is (Some (way.Done v)) l e = cc
left_is (Some way.Spent) l e = cc
left_is (Some way.Paused) l e = cc
left_is (Some way.NoMemory) l e = cc

pub left_none : (w : Option Way) (l : Leave) → ◌≡◌ {A = Option Leave} None (left_in w) → how_by w ≡ Some (Left l) → ⊥
left_none None l e h = cc
left_none (Some (way.Left x)) l e h = cc
left_none (Some (way.Done v)) l e h = cc
left_none (Some way.Spent) l e h = cc
left_none (Some way.Paused) l e h = cc
left_none (Some way.NoMemory) l e h = cc

pub ran_at : (p : ThreadPath) (os : List (Over ThreadPath)) → AllRan p os → (i : ℕ) (o : Over ThreadPath) → i < length os → o ≡ get_or os i o → o.path ≡ record p { turns = o.path.turns; how = o.path.how }
ran_at p [] h i o lt is = absurd (omega (arith, lt))
ran_at p (x ∷ os) h zero o lt is = subst (λ (o : Over ThreadPath). o.path ≡ record p { turns = o.path.turns; how = o.path.how }) (sym is) h.0
ran_at p (x ∷ os) h (suc i) o lt is = ran_at p os h.1 i o (omega (arith, lt)) is

-- no more turns than the limit, where no thread has more
pub turns_within : (limit m n : ℕ) (s : Told) → m ≤ limit → n ≤ limit → turns_by m s n ≤ limit
turns_within limit m n state.NotBegun le more = le
turns_within limit m n (state.Stopped x) le more = max-le le more

pub most_within : (p : ThreadPath) (os : List (Over ThreadPath)) → AllRan p os → (i : ℕ) (o : Over ThreadPath) → i < length os → o ≡ get_or os i o → (m n : ℕ) → m ≤ p.limit → o.path.turns ≤ o.path.limit → n ≡ turns_by m o.state o.path.turns → n ≤ p.limit
most_within p os all i o lt is m n le more e =
    subst (λ k. k ≤ p.limit) (sym e) (turns_within p.limit m o.path.turns o.state le (subst (λ k. o.path.turns ≤ k) (ap (λ (x : ThreadPath). x.limit) (ran_at p os all i o lt is)) more))

-- ---- the paths of threads are as they began, but for what they came to
abbrev IsRun : ThreadPath → ThreadPath → Type 0
IsRun p x = x ≡ record p { turns = x.turns; how = x.how }

outcome_run : (p : ThreadPath) (o : Option Final) → IsRun p (outcome_of p o).path
outcome_run p None = refl
outcome_run p (Some e) = refl

note_run : (p : ThreadPath) (n : notes.ThreadNote) (cs : List Cell) → IsRun p (by_note runs p n cs).path
note_run p notes.Whole cs = outcome_run p (ran p None cs)
note_run p notes.NotBegun cs = refl
note_run p (notes.CutAfter n) cs = outcome_run p (ran p (Some n) cs)

module _ (limit : ℕ) (c : Code) (plan : Plan) (site : CodeSite) (q : Asked) (s : State) (top from : ℕ) where
  abbrev path : ThreadPath
  path = (thread_start limit c plan site q s top from (record { number = 0; first = 0; size = 0 })).path

  starts_ran : (js : List Share) (ns : List notes.ThreadNote) (cs : List Cell) (os : List (Over ThreadPath)) → Reports (ends_of runs (thread_starts limit c plan site q s top from js) ns cs) ns os → AllRan path os
  starts_ran [] [] cs [] h = tt
  starts_ran [] [] cs (o ∷ os) h = absurd h
  starts_ran [] (n ∷ ns) cs os h = absurd h
  starts_ran (j ∷ js) [] cs [] h = tt
  starts_ran (j ∷ js) [] cs (o ∷ os) h = absurd h
  starts_ran (j ∷ js) (n ∷ ns) cs [] h = absurd h
  starts_ran (j ∷ js) (n ∷ ns) cs (o ∷ os) h =
      let st = thread_start limit c plan site q s top from j in
      (subst (IsRun path) (sym h.0) (note_run path n (cs ++ map Mine st.own)), starts_ran js ns _ os h.2)

  pub joined_ran : (js : List Share) (cs : List Cell) (chosen : Option ℕ) (os : List (Over ThreadPath)) (ds : List Cell) → Joined runs (thread_starts limit c plan site q s top from js) cs chosen os ds → AllRan path os
  joined_ran js cs chosen os ds h = starts_ran js h.notes cs os h.reports
