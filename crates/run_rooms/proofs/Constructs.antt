-- The threads of constructs lack no slot where their bodies don't.
use Rattle.std.proofs.Common.{ℕ, zero, suc, ℤ, nat_eq, List, [], ◌∷◌, Option, Some, None, Result, Ok, Err, Bool, true, false, not, is_some, ◌||◌}
use Rattle.ada_base.specs.Notes.{ThreadNote, Whole, NotBegun, CutAfter, Schedule, InOrder, ByNotes}
use Rattle.typed_tree.specs.declared.expressions.Reducer.{Reducer}
use Rattle.typed_tree.specs.declared.expressions.Reducer.TheVariants.{Operator, Function}
use Rattle.behaviours.specs.Doings.{through, onto, folded}
use Rattle.behaviours.specs.Paths.{Leave}
use Rattle.behaviours.specs.Joins.{Share, Site, deal}
use Rattle.ada_base.specs.declared.operation.Op.{Op}
use Rattle.typed_tree.specs.declared.scalars.Class.{Class}
use Rattle.ada_meaning.specs.Values.{result, divides, overflows, is_zero, value_or_zero}
use Rattle.ada_meaning.specs.Operations.{ZeroCheck, OverflowCheck, Cut, chunk_of, operate, reduce}
use Rattle.ada_meaning.specs.Stored
use Rattle.ada_meaning.specs.Stored.{State, Cause, Left, OutOfTurns, NoRoom, CutOff, Misnoted, After, Stored, took}
use Rattle.run_rooms.proofs.Operations.{Long, Ends, Any, Fits, Has, ret_has, leaves_has, spent_has, misnoted_has, checks_has, rewinds_has, renotes_has, then_has, choose}

-- one after the other

pub through_has : {A : Type 0} {n : ℕ} (first size : ℕ) (a : A) {f : ℕ → A → Stored A} → ((i : ℕ) (b : A) → Has n Any (f i b)) → Has n Any (through Stored.doings first size a f)
through_has first zero a h = ret_has a tt
through_has first (suc size) a h = then_has (h first a) (λ b. through_has (suc first) size b h)

pub onto_has : {n : ℕ} (a : ℤ) (more : List ℤ) {f : ℤ → ℤ → Stored ℤ} → ((b c : ℤ) → Has n Any (f b c)) → Has n Any (onto Stored.doings a more f)
onto_has a [] h = ret_has a tt
onto_has a (b ∷ more) h = then_has (h a b) (λ c. onto_has c more h)

pub folded_has : {n : ℕ} {f : ℤ → ℤ → Stored ℤ} → ((b c : ℤ) → Has n Any (f b c)) → (a : ℤ) (v : Option ℤ) → Has n Any (folded Stored.doings f a v)
folded_has h a None = ret_has a tt
folded_has h a (Some v) = h a v

pub operate_has : {n : ℕ} (op : Op) (at : ℕ) (class : Class) (x y : ℤ) → Has n Any (operate Stored.doings Stored.checks op at class x y)
operate_has op at class x y =
    then_has (choose (divides op) (checks_has ZeroCheck at (not (is_zero y))) (ret_has tt tt))
    (λ _. then_has (choose (overflows op) (checks_has OverflowCheck at (is_some (result op class x y))) (ret_has tt tt)) (λ _. ret_has (value_or_zero (result op class x y)) tt))

pub reduce_has : {n : ℕ} (by : Reducer) (at : ℕ) {f : ℤ → ℤ → Stored ℤ} → ((b c : ℤ) → Has n Any (f b c)) → (a b : ℤ) → Has n Any (reduce Stored.doings Stored.checks by at f a b)
reduce_has (Operator t op class) at h a b = operate_has op at class a b
reduce_has (Function t s x y) at h a b = h a b

-- threads in order

pub thread_has : {A : Type 0} {n : ℕ} (most : ℕ) {m : Stored A} → Has n Any m → Has n Any (Stored.thread most m)
unfolding Stored.thread
thread_has {A} {n} most {m} h = record { fits = λ s l. let k = h.fits s l in go (m.does s).state (m.does s).end k.0 k.1 }
  where
    go : (u : State) (e : Result A Cause) → Long n u → Ends Any e → Fits n Any (took most u e)
    go u (Ok a) l p = (l, tt)
    go u (Err (Left x)) l p = (l, tt)
    go u (Err OutOfTurns) l p = (l, tt)
    go u (Err NoRoom) l p = absurd p
    go u (Err CutOff) l p = (l, tt)
    go u (Err Misnoted) l p = (l, tt)

module _ {A B : Type 0} {n : ℕ} (f : B → A → B) (body : Share → Stored A) (each : (j : Share) → Has n Any (body j)) where
  threads_have : (from : ℕ) (js : List Share) (most : ℕ) (over : Bool) (b : B) → Has n Any (Stored.threads f body from js most over b)
  threads_have from [] most over b = then_has (rewinds_has most) (λ _. choose over spent_has (ret_has b tt))
  threads_have from (j ∷ js) most over b = then_has (rewinds_has from) (λ _. then_has (thread_has most (each j)) (λ k. threads_have from js k.most (over || Stored.is_spent k.value) (Stored.gathered f b k.value)))

  par_has : (b : B) (js : List Share) → Has n Any (Stored.par f b js body)
  unfolding Stored.par
  par_has b js = record { fits = λ s. (threads_have s.turns js s.turns false b).fits s }

  -- threads by notes

  noted_thread_has : (from : ℕ) (left : Option ℕ) (fits : Result A Cause → Result (Option Leave) Cause) → ((e : Result A Cause) → Ends Any e → Ends Any (fits e)) → (j : Share) → Has n Any (Stored.noted_thread from left fits (body j))
  unfolding Stored.noted_thread
  noted_thread_has from left fits go j = record { fits = λ s l. let s' = record s { turns = from; left = left; notes = InOrder } in let k = (each j).fits s' l in (k.0, go ((body j).does s').end k.1) }

  fits_chosen : (e : Result A Cause) → Ends Any e → Ends Any (Stored.fits_chosen e)
  fits_chosen (Ok a) p = tt
  fits_chosen (Err (Left x)) p = tt
  fits_chosen (Err OutOfTurns) p = tt
  fits_chosen (Err NoRoom) p = p
  fits_chosen (Err CutOff) p = tt
  fits_chosen (Err Misnoted) p = tt

  fits_whole : (e : Result A Cause) → Ends Any e → Ends Any (Stored.fits_whole e)
  fits_whole (Ok a) p = tt
  fits_whole (Err (Left x)) p = tt
  fits_whole (Err OutOfTurns) p = tt
  fits_whole (Err NoRoom) p = p
  fits_whole (Err CutOff) p = tt
  fits_whole (Err Misnoted) p = tt

  fits_cut : (e : Result A Cause) → Ends Any e → Ends Any (Stored.fits_cut e)
  fits_cut (Ok a) p = tt
  fits_cut (Err (Left x)) p = tt
  fits_cut (Err OutOfTurns) p = tt
  fits_cut (Err NoRoom) p = p
  fits_cut (Err CutOff) p = tt
  fits_cut (Err Misnoted) p = tt

  by_thread_note_has : (chosen : Bool) (note : ThreadNote) (from : ℕ) (j : Share) → Has n Any (Stored.by_thread_note chosen note from (body j))
  by_thread_note_has true Whole from j = noted_thread_has from None Stored.fits_chosen fits_chosen j
  by_thread_note_has true NotBegun from j = misnoted_has
  by_thread_note_has true (CutAfter looks) from j = misnoted_has
  by_thread_note_has false Whole from j = noted_thread_has from None Stored.fits_whole fits_whole j
  by_thread_note_has false NotBegun from j = ret_has None tt
  by_thread_note_has false (CutAfter looks) from j = noted_thread_has from (Some looks) Stored.fits_cut fits_cut j

  left_has : {C : Type 0} (how : Option Leave) → Has n Any (Stored.left_by {B = C} how)
  left_has None = misnoted_has
  left_has (Some x) = leaves_has x

  chosen_has : {C : Type 0} (from chosen : ℕ) (js : List Share) (ns : List ThreadNote) (how : Option Leave) → Has n Any (Stored.chosen_threads {B = C} body from chosen js ns how)
  chosen_has from chosen [] [] how = left_has how
  chosen_has from chosen [] (k ∷ ns) how = misnoted_has
  chosen_has from chosen (j ∷ js) [] how = misnoted_has
  chosen_has from chosen (j ∷ js) (k ∷ ns) how = then_has (by_thread_note_has (nat_eq j.number chosen) k from j) (λ x. chosen_has from chosen js ns (Stored.or_else x how))

  none_chosen_has : {C : Type 0} {m : Stored C} → Has n Any m → Has n Any (Stored.none_chosen m)
  unfolding Stored.none_chosen
  none_chosen_has {C} {m} h = record { fits = λ s l. let s' = record s { notes = InOrder } in let k = h.fits s' l in (k.0, go (m.does s').end k.1) }
    where
      go : (e : Result C Cause) → Ends Any e → Ends Any (Stored.fits_none e)
      go (Ok a) p = tt
      go (Err (Left x)) p = tt
      go (Err OutOfTurns) p = tt
      go (Err NoRoom) p = p
      go (Err CutOff) p = tt
      go (Err Misnoted) p = tt

  by_note_has : (b : B) (js : List Share) (chosen : Option ℕ) (notes : List ThreadNote) → Has n Any (Stored.by_note f b js body chosen notes)
  by_note_has b js None notes = none_chosen_has (par_has b js)
  by_note_has b js (Some chosen) notes = record { fits = λ s. (chosen_has s.turns chosen js notes None).fits s }

  by_notes_have : (b : B) (js : List Share) (notes : Schedule) → Has n Any (Stored.by_notes f b js body notes)
  by_notes_have b js InOrder = par_has b js
  by_notes_have b js (ByNotes []) = misnoted_has
  by_notes_have b js (ByNotes (c ∷ cs)) = let h = then_has (renotes_has (ByNotes cs)) (λ _. by_note_has b js c.chosen c.threads) in record { fits = h.fits }

module _ {A B : Type 0} {n : ℕ} (site : Site) (f : B → A → B) (body : Share → Stored A) (each : (j : Share) → Has n Any (body j)) where
  pub team_has : (b : B) (js : List Share) → Has n Any (Stored.noted_team site f b js body)
  unfolding Stored.noted_team Stored.noted_par
  team_has b js = record { fits = λ s. (by_notes_have f (λ j. Stored.visited j (body j)) (λ j. record { fits = (each j).fits }) b js s.notes).fits s }

module _ {n : ℕ} (limit : ℕ) (cuts : ℕ → ℕ → List ℕ) where
  pub loops_have : (site : Site) (cut : Cut) {f : ℕ → ℕ → Stored (Unit {0})} → ((j i : ℕ) → Has n Any (f j i)) → Has n Any (Stored.noted_loops limit cuts site cut f)
  loops_have site cut {f} h =
      then_has (team_has site Stored.first_of_both (Stored.loop_thread (λ j. f (chunk_of cut j))) (λ c. through_has c.first c.size tt (λ i _. h (chunk_of cut c.number) i)) tt (deal 0 0 (Stored.sizes_of limit cuts cut)))
      (λ _. ret_has tt tt)

  combined_has : (v : ℤ) (values : List ℤ) {f : ℤ → ℤ → Stored ℤ} → ((b c : ℤ) → Has n Any (f b c)) → Has n Any (Stored.combined limit cuts v values f)
  combined_has v [] h = ret_has v tt
  combined_has v (a ∷ more) h = onto_has a more h

  pub reduces_have : (site : Site) (cut : Cut) (by : Reducer) (at : ℕ) (v : ℤ) {f : ℕ → ℕ → Stored (Option ℤ)} {c d : ℤ → ℤ → Stored ℤ}
      → ((j i : ℕ) → Has n Any (f j i)) → ((a b : ℤ) → Has n Any (c a b)) → ((a b : ℤ) → Has n Any (d a b)) → Has n Any (Stored.noted_reduces limit cuts site cut by at v f c d)
  reduces_have site cut by at v {f} {c} {d} h calls combines =
      then_has (team_has site Stored.after_all (Stored.fold_thread by at v (λ j. f (chunk_of cut j)) c)
      (λ k. through_has k.first k.size v (λ i so_far. then_has (h (chunk_of cut k.number) i) (λ w. folded_has (reduce_has by at calls) so_far w))) [] (deal 0 0 (Stored.sizes_of limit cuts cut)))
      (λ values. combined_has v values (reduce_has by at combines))
