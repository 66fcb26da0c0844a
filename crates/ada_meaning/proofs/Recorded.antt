-- What is kept of a run's deeds is all of them, operation by operation.
use Rattle.std.proofs.Common.{◌≡◌, ℕ, zero, suc, ◌+◌, ℤ, nat_eq, nat_lt, List, [], ◌∷◌, ◌++◌, Option, Some, None, Result, Ok, Err, Bool, true, false, cond, not, is_some, ◌||◌, refl, sym, ap, ◌∙◌, append_assoc, append-nil}
use Rattle.ada_base.specs.Cuts.{cuts_of}
use Rattle.ada_base.specs.declared.reason.Reason.TheVariants as reason
use Rattle.typed_tree.specs.declared.expressions.Reducer.{Reducer}
use Rattle.typed_tree.specs.declared.expressions.Reducer.TheVariants.{Operator, Function}
use Rattle.behaviours.specs.Doings.{through, onto, folded}
use Rattle.behaviours.specs.Paths.{Leave, Raises, Entity, VariableOf, Region, Everywhere, Here}
use Rattle.behaviours.specs.Joins.{Share, Site, deal}
use Rattle.ada_meaning.specs.Deeds.{Deed, Asked, PutOut}
use Rattle.ada_meaning.specs.Values.{result, divides, overflows, is_zero, value_or_zero}
use Rattle.ada_meaning.specs.Operations.{CheckKind, ZeroCheck, OverflowCheck, chunk_of, Operations, reduce, zero_checked, overflow_checked}
use Rattle.ada_meaning.specs.Stored
use Rattle.ada_base.specs.Notes.{InOrder, Schedule, ByNotes, ThreadNote, Whole, NotBegun, CutAfter}
use Rattle.ada_meaning.specs.Stored.{State, put_at, Cause, Left, OutOfTurns, NoRoom, CutOff, Misnoted, After, at, Address, Kept, Stacked, Stored, next, next_deeds, handled, handled_deeds, begun, ended, has_room, place_of, written_at, read_at, value_read, taken_from, looked, took, also_done}
use Rattle.ada_meaning.specs.StoredLaw.{DoneLaw}
use Rattle.ada_meaning.proofs.Stops.{nothing}
use Rattle.ada_meaning.proofs.Induction
use Rattle.ada_meaning.proofs.Induction.{Relates}

-- what was kept, and these behind it
abbrev longer : Option (List Deed) → List Deed → Option (List Deed)
longer None ds = None
longer (Some es) ds = Some (es ++ ds)

abbrev Recorded : {A : Type 0} → Stored A → Type 0
Recorded m = (s : State) → (m.does s).state.done ≡ longer s.done (m.deeds s)

no_longer : (o : Option (List Deed)) → o ≡ longer o []
no_longer None = refl
no_longer (Some es) = ap Some (sym (append-nil es))

longer_by : (d : Deed) (o : Option (List Deed)) → also_done d o ≡ longer o (d ∷ [])
longer_by d None = refl
longer_by d (Some es) = refl

longer_twice : (o : Option (List Deed)) (ds es : List Deed) → longer (longer o ds) es ≡ longer o (ds ++ es)
longer_twice None ds es = refl
longer_twice (Some fs) ds es = ap Some (append_assoc fs ds es)

ret_recorded : {A : Type 0} (a : A) → Recorded (Stored.ret a)
unfolding Stored.ret
ret_recorded a s = no_longer s.done

leaves_recorded : (A : Type 0) (x : Leave) → Recorded (Stored.leaves {A = A} x)
unfolding Stored.leaves
leaves_recorded A x s = no_longer s.done

spent_recorded : (A : Type 0) → Recorded (Stored.spent {A = A})
unfolding Stored.spent
spent_recorded A s = no_longer s.done

misnoted_recorded : (A : Type 0) → Recorded (Stored.misnoted {A = A})
unfolding Stored.misnoted
misnoted_recorded A s = no_longer s.done

checks_recorded : (kind : CheckKind) (token : ℕ) (holds : Bool) → Recorded (Stored.checks kind token holds)
checks_recorded kind token true = ret_recorded tt
checks_recorded kind token false = leaves_recorded _ (Raises reason.ConstraintError)

turn_recorded : (limit : ℕ) → Recorded (Stored.turn limit)
unfolding Stored.turn
turn_recorded limit s = go (nat_lt s.turns limit)
  where
    go : (c : Bool) → let r : After (Unit {0}) = cond c (at (record s { turns = s.turns + 1 }) (Ok tt)) (at s (Err OutOfTurns)) in r.state.done ≡ longer s.done []
    go true = no_longer s.done
    go false = no_longer s.done

look_recorded : Recorded Stored.look
unfolding Stored.look
look_recorded s = go s.left
  where
    go : (left : Option ℕ) → (looked s left).state.done ≡ longer s.done []
    go None = no_longer s.done
    go (Some zero) = no_longer s.done
    go (Some (suc n)) = no_longer s.done

reads_recorded : (x : Entity) (i : ℕ) → Recorded (Stored.reads x i)
unfolding Stored.reads
reads_recorded x i s = go (place_of s x i)
  where
    of_value : (v : Option ℤ) → (value_read s v).state.done ≡ longer s.done []
    of_value None = no_longer s.done
    of_value (Some v) = no_longer s.done

    go : (a : Option Address) → (read_at s a).state.done ≡ longer s.done []
    go None = no_longer s.done
    go (Some a) = of_value (Stored.cell_at s a)

writes_recorded : (x i : ℕ) (v : ℤ) → Recorded (Stored.writes x i v)
unfolding Stored.writes
writes_recorded x i v s = go (place_of s (VariableOf x) i)
  where
    go : (a : Option Address) → (written_at s a v).state.done ≡ longer s.done []
    go None = no_longer s.done
    go (Some (Kept a)) = no_longer s.done
    go (Some (Stacked a)) = no_longer s.done

puts_recorded : (piece : List ℕ) → Recorded (Stored.puts piece)
unfolding Stored.puts
puts_recorded piece s = longer_by (PutOut piece) s.done

recalls_recorded : Recorded Stored.recalls
unfolding Stored.recalls
recalls_recorded s = no_longer s.done

keeps_recorded : (h : _) → Recorded (Stored.keeps h)
unfolding Stored.keeps
keeps_recorded h s = no_longer s.done

takes_recorded : Recorded Stored.takes
unfolding Stored.takes
takes_recorded s = go s.input
  where
    go : (input : List ℕ) → (taken_from s input).state.done ≡ longer s.done (Asked ∷ [])
    go [] = longer_by Asked s.done
    go (b ∷ rest) = longer_by Asked s.done

-- put together

bind_recorded : {A B : Type 0} (m : Stored A) (k : A → Stored B) → Recorded m → ((a : A) → Recorded (k a)) → Recorded (Stored.bind m k)
unfolding Stored.bind
bind_recorded {A} {B} m k first rest s = then (m.does s).state (m.does s).end ∙ ap (λ o. longer o (next_deeds (m.does s).state (m.does s).end k)) (first s) ∙ longer_twice s.done (m.deeds s) (next_deeds (m.does s).state (m.does s).end k)
  where
    then : (u : State) (e : Result A Cause) → (next u e k).state.done ≡ longer u.done (next_deeds u e k)
    then u (Ok x) = rest x u
    then u (Err c) = no_longer u.done

handles_recorded : {A : Type 0} (m : Stored A) (takes : Leave → Bool) (k : Leave → Stored A) → Recorded m → ((x : Leave) → Recorded (k x)) → Recorded (Stored.handles m takes k)
unfolding Stored.handles
handles_recorded {A} m takes k first rest s =
    then (m.does s).state (m.does s).end ∙ ap (λ o. longer o (handled_deeds (m.does s).state (m.does s).end takes k)) (first s) ∙ longer_twice s.done (m.deeds s) (handled_deeds (m.does s).state (m.does s).end takes k)
  where
    by : (u : State) (x : Leave) (c : Bool) → (cond c ((k x).does u) (at u (Err (Left x)))).state.done ≡ longer u.done (cond c ((k x).deeds u) [])
    by u x true = rest x u
    by u x false = no_longer u.done

    then : (u : State) (e : Result A Cause) → (handled u e takes k).state.done ≡ longer u.done (handled_deeds u e takes k)
    then u (Ok a) = no_longer u.done
    then u (Err (Left x)) = by u x (takes x)
    then u (Err OutOfTurns) = no_longer u.done
    then u (Err NoRoom) = no_longer u.done
    then u (Err CutOff) = no_longer u.done
    then u (Err Misnoted) = no_longer u.done

apart_recorded : {A : Type 0} (m : Stored A) → Recorded m → Recorded (Stored.apart m)
unfolding Stored.apart
apart_recorded m first s = first (record s { frame = s.frame + 1 })

done_begun : (region : Region) (x : Entity) (vs : List ℤ) (s : State) → (begun region x vs s).done ≡ s.done
done_begun Here x vs s = refl
done_begun Everywhere x vs s = refl

done_ended : (region : Region) (x : Entity) (s u : State) → (ended region x s u).done ≡ u.done
done_ended Here x s u = refl
done_ended Everywhere x s u = refl

elaborates_recorded : {A : Type 0} (region : Region) (x : Entity) (vs : List ℤ) (m : Stored A) → Recorded m → Recorded (Stored.elaborates region x vs m)
unfolding Stored.elaborates
elaborates_recorded {A} region x vs m first s = go (has_room region x s)
  where
    go : (c : Bool) → (cond c (at (ended region x s (m.does (begun region x vs s)).state) (m.does (begun region x vs s)).end) (at s (Err NoRoom))).state.done ≡ longer s.done (cond c (m.deeds (begun region x vs s)) [])
    go true = done_ended region x s (m.does (begun region x vs s)).state ∙ first (begun region x vs s) ∙ ap (λ o. longer o (m.deeds (begun region x vs s))) (done_begun region x vs s)
    go false = no_longer s.done

-- threads

rewinds_recorded : (n : ℕ) → Recorded (Stored.rewinds n)
unfolding Stored.rewinds
rewinds_recorded n s = no_longer s.done

renotes_recorded : (notes : Schedule) → Recorded (Stored.renotes notes)
unfolding Stored.renotes
renotes_recorded notes s = no_longer s.done

done_took : {A : Type 0} (most : ℕ) (u : State) (e : Result A Cause) → (took most u e).state.done ≡ u.done
done_took most u (Ok a) = refl
done_took most u (Err (Left x)) = refl
done_took most u (Err OutOfTurns) = refl
done_took most u (Err NoRoom) = refl
done_took most u (Err CutOff) = refl
done_took most u (Err Misnoted) = refl

thread_recorded : {A : Type 0} (most : ℕ) (m : Stored A) → Recorded m → Recorded (Stored.thread most m)
unfolding Stored.thread
thread_recorded most m first s = done_took most (m.does s).state (m.does s).end ∙ first s

noted_thread_recorded : {A B : Type 0} (from : ℕ) (left : Option ℕ) (fits : Result A Cause → Result B Cause) (m : Stored A) → Recorded m → Recorded (Stored.noted_thread from left fits m)
unfolding Stored.noted_thread
noted_thread_recorded from left fits m first s = first (record s { turns = from; left = left; notes = InOrder })

none_chosen_recorded : {B : Type 0} (m : Stored B) → Recorded m → Recorded (Stored.none_chosen m)
unfolding Stored.none_chosen
none_chosen_recorded m first s = first (record s { notes = InOrder })

unhalted_recorded : {A : Type 0} (m : Stored A) → Recorded m → Recorded (Stored.unhalted m)
unhalted_recorded m first s = first s

choose : {A : Type 0} (c : Bool) (m n : Stored A) → Recorded m → Recorded n → Recorded (cond c m n)
choose true m n h g = h
choose false m n h g = g

module _ {A B : Type 0} (f : B → A → B) (body : Share → Stored A) (each : (j : Share) → Recorded (body j)) where
  threads_recorded : (from : ℕ) (js : List Share) (most : ℕ) (over : Bool) (b : B) → Recorded (Stored.threads f body from js most over b)
  threads_recorded from [] most over b = bind_recorded (Stored.rewinds most) (λ _. cond over Stored.spent (Stored.ret b)) (rewinds_recorded most) (λ _. choose over Stored.spent (Stored.ret b) (spent_recorded _) (ret_recorded b))
  threads_recorded from (j ∷ js) most over b =
      bind_recorded (Stored.rewinds from) (λ _. Stored.bind (Stored.thread most (body j)) (λ k. Stored.threads f body from js k.most (over || Stored.is_spent k.value) (Stored.gathered f b k.value))) (rewinds_recorded from)
      (λ _. bind_recorded (Stored.thread most (body j)) (λ k. Stored.threads f body from js k.most (over || Stored.is_spent k.value) (Stored.gathered f b k.value)) (thread_recorded most (body j) (each j))
      (λ k. threads_recorded from js k.most (over || Stored.is_spent k.value) (Stored.gathered f b k.value)))

  par_recorded : (b : B) (js : List Share) → Recorded (Stored.par f b js body)
  unfolding Stored.par
  par_recorded b js s = threads_recorded s.turns js s.turns false b s

  by_thread_recorded : (c : Bool) (note : ThreadNote) (from : ℕ) (j : Share) → Recorded (Stored.by_thread_note c note from (body j))
  by_thread_recorded true Whole from j = noted_thread_recorded from None Stored.fits_chosen (body j) (each j)
  by_thread_recorded true NotBegun from j = misnoted_recorded _
  by_thread_recorded true (CutAfter looks) from j = misnoted_recorded _
  by_thread_recorded false Whole from j = noted_thread_recorded from None Stored.fits_whole (body j) (each j)
  by_thread_recorded false NotBegun from j = ret_recorded None
  by_thread_recorded false (CutAfter looks) from j = noted_thread_recorded from (Some looks) Stored.fits_cut (body j) (each j)

  left_by_recorded : (how : Option Leave) → Recorded (Stored.left_by {B = B} how)
  left_by_recorded None = misnoted_recorded _
  left_by_recorded (Some x) = leaves_recorded _ x

  chosen_recorded : (from chosen : ℕ) (js : List Share) (ns : List ThreadNote) (how : Option Leave) → Recorded (Stored.chosen_threads {B = B} body from chosen js ns how)
  chosen_recorded from chosen [] [] how = left_by_recorded how
  chosen_recorded from chosen [] (n ∷ ns) how = misnoted_recorded _
  chosen_recorded from chosen (j ∷ js) [] how = misnoted_recorded _
  chosen_recorded from chosen (j ∷ js) (n ∷ ns) how =
      bind_recorded (Stored.by_thread_note (nat_eq j.number chosen) n from (body j)) (λ x. Stored.chosen_threads body from chosen js ns (Stored.or_else x how)) (by_thread_recorded (nat_eq j.number chosen) n from j) (λ x. chosen_recorded from chosen js ns (Stored.or_else x how))

  by_note_recorded : (b : B) (js : List Share) (chosen : Option ℕ) (ns : List ThreadNote) → Recorded (Stored.by_note f b js body chosen ns)
  by_note_recorded b js None ns = none_chosen_recorded (Stored.par f b js body) (par_recorded b js)
  by_note_recorded b js (Some chosen) ns = λ s. chosen_recorded s.turns chosen js ns None s

  by_notes_recorded : (b : B) (js : List Share) (notes : Schedule) → Recorded (Stored.by_notes f b js body notes)
  by_notes_recorded b js InOrder = par_recorded b js
  by_notes_recorded b js (ByNotes []) = misnoted_recorded _
  by_notes_recorded b js (ByNotes (c ∷ cs)) =
      unhalted_recorded (Stored.bind (Stored.renotes (ByNotes cs)) (λ _. Stored.by_note f b js body c.chosen c.threads))
      (bind_recorded (Stored.renotes (ByNotes cs)) (λ _. Stored.by_note f b js body c.chosen c.threads) (renotes_recorded (ByNotes cs)) (λ _. by_note_recorded b js c.chosen c.threads))

  noted_par_recorded : (b : B) (js : List Share) → Recorded (Stored.noted_par f b js body)
  unfolding Stored.noted_par
  noted_par_recorded b js s = by_notes_recorded b js s.notes s

visited_recorded : {A : Type 0} (j : Share) (m : Stored A) → Recorded m → Recorded (Stored.visited j m)
visited_recorded j m first s = first s

noted_team_recorded : {A B : Type 0} (site : Site) (f : B → A → B) (body : Share → Stored A) → ((j : Share) → Recorded (body j)) → (b : B) (js : List Share) → Recorded (Stored.noted_team site f b js body)
unfolding Stored.noted_team
noted_team_recorded site f body each b js s = noted_par_recorded f (λ j. Stored.visited j (body j)) (λ j. visited_recorded j (body j) (each j)) b js s

-- constructs

through_recorded : {A : Type 0} (first n : ℕ) (a : A) (f : ℕ → A → Stored A) → ((i : ℕ) (b : A) → Recorded (f i b)) → Recorded (through Stored.doings first n a f)
through_recorded first zero a f h = ret_recorded a
through_recorded first (suc n) a f h = bind_recorded (f first a) (λ b. through Stored.doings (suc first) n b f) (h first a) (λ b. through_recorded (suc first) n b f h)

onto_recorded : (a : ℤ) (more : List ℤ) (f : ℤ → ℤ → Stored ℤ) → ((b c : ℤ) → Recorded (f b c)) → Recorded (onto Stored.doings a more f)
onto_recorded a [] f h = ret_recorded a
onto_recorded a (b ∷ more) f h = bind_recorded (f a b) (λ c. onto Stored.doings c more f) (h a b) (λ c. onto_recorded c more f h)

folded_recorded : (f : ℤ → ℤ → Stored ℤ) → ((b c : ℤ) → Recorded (f b c)) → (a : ℤ) (v : Option ℤ) → Recorded (folded Stored.doings f a v)
folded_recorded f h a None = ret_recorded a
folded_recorded f h a (Some v) = h a v

reduce_recorded : (by : Reducer) (token : ℕ) (f : ℤ → ℤ → Stored ℤ) → ((b c : ℤ) → Recorded (f b c)) → (a b : ℤ) → Recorded (reduce Stored.doings Stored.checks by token f a b)
reduce_recorded (Operator t op class) token f h a b =
    bind_recorded (zero_checked Stored.doings Stored.checks op token b) (λ _. Stored.bind (overflow_checked Stored.doings Stored.checks op token (result op class a b)) (λ _. Stored.ret (value_or_zero (result op class a b))))
    (choose (divides op) (Stored.checks ZeroCheck token (not (is_zero b))) (Stored.ret tt) (checks_recorded ZeroCheck token (not (is_zero b))) (ret_recorded tt))
    (λ _. bind_recorded (overflow_checked Stored.doings Stored.checks op token (result op class a b)) (λ _. Stored.ret (value_or_zero (result op class a b)))
    (choose (overflows op) (Stored.checks OverflowCheck token (is_some (result op class a b))) (Stored.ret tt) (checks_recorded OverflowCheck token (is_some (result op class a b))) (ret_recorded tt)) (λ _. ret_recorded (value_or_zero (result op class a b))))
reduce_recorded (Function t s x y) token f h a b = h a b

module _ (limit : ℕ) (cuts : ℕ → ℕ → List ℕ) where
  abbrev ops : Operations {1}
  ops = Stored.noted_operations limit cuts

  loop_recorded : (f : ℕ → ℕ → Stored (Unit {0})) → ((j i : ℕ) → Recorded (f j i)) → (c : Share) → Recorded (Stored.loop_thread f c)
  loop_recorded f h c = through_recorded c.first c.size tt (λ i _. f c.number i) (λ i _. h c.number i)

  fold_recorded : (by : Reducer) (token : ℕ) (v : ℤ) (f : ℕ → ℕ → Stored (Option ℤ)) (call : ℤ → ℤ → Stored ℤ) → ((j i : ℕ) → Recorded (f j i)) → ((a b : ℤ) → Recorded (call a b)) → (c : Share) → Recorded (Stored.fold_thread by token v f call c)
  fold_recorded by token v f call h g c = through_recorded c.first c.size v (λ i so_far. Stored.bind (f c.number i) (folded Stored.doings (reduce Stored.doings Stored.checks by token call) so_far))
      (λ i so_far. bind_recorded (f c.number i) (folded Stored.doings (reduce Stored.doings Stored.checks by token call) so_far) (h c.number i) (folded_recorded (reduce Stored.doings Stored.checks by token call) (reduce_recorded by token call g) so_far))

  combined_recorded : (v : ℤ) (values : List ℤ) (f : ℤ → ℤ → Stored ℤ) → ((b c : ℤ) → Recorded (f b c)) → Recorded (Stored.combined limit cuts v values f)
  combined_recorded v [] f h = ret_recorded v
  combined_recorded v (a ∷ more) f h = onto_recorded a more f h

  recorded : Relates {1, 0, 0} ops nothing
  recorded = record {
    World = Unit {0};
    Open = λ w. Unit {0};
    inner = λ w. tt;
    R = λ w m n. Recorded m;
    ret = λ w a. ret_recorded a;
    bind = λ {A} {B} w {m} {n} {k} {l} r f. bind_recorded m k r f;
    reads = λ w x i cell. reads_recorded x i;
    writes = λ w x i v. writes_recorded x i v;
    elaborates = λ {A} w region u x vs {m} {n} r. elaborates_recorded region x vs m r;
    apart = λ {A} w {m} {n} r. apart_recorded m r;
    turn = λ w. turn_recorded limit;
    look = λ w. look_recorded;
    checks = λ w kind at holds. checks_recorded kind at holds;
    leaves = λ {A} w x. leaves_recorded A x;
    spent = λ {A} w. spent_recorded A;
    handles = λ {A} w {m} {n} takes {h} {g} r f. handles_recorded m takes h r f;
    puts = λ w allowed bytes. puts_recorded bytes;
    recalls = λ w allowed. recalls_recorded;
    keeps = λ w allowed h. keeps_recorded h;
    takes = λ w allowed. takes_recorded;
    loops = λ w site cut {f} {g} r. bind_recorded (Stored.noted_team site Stored.first_of_both tt (deal 0 0 (Stored.sizes_of limit cuts cut)) (Stored.loop_thread (λ j. f (chunk_of cut j)))) (λ _. Stored.ret tt)
        (noted_team_recorded site Stored.first_of_both (Stored.loop_thread (λ j. f (chunk_of cut j))) (loop_recorded (λ j. f (chunk_of cut j)) (λ j. r (chunk_of cut j))) tt (deal 0 0 (Stored.sizes_of limit cuts cut))) (λ _. ret_recorded tt);
    reduces = λ w site cut by at v {f} {g} {c} {c'} {d} {d'} r t u.
        bind_recorded (Stored.noted_team site Stored.after_all [] (deal 0 0 (Stored.sizes_of limit cuts cut)) (Stored.fold_thread by at v (λ j. f (chunk_of cut j)) c)) (λ values. Stored.combined limit cuts v values (reduce Stored.doings Stored.checks by at c'))
        (noted_team_recorded site Stored.after_all (Stored.fold_thread by at v (λ j. f (chunk_of cut j)) c) (fold_recorded by at v (λ j. f (chunk_of cut j)) c (λ j. r (chunk_of cut j)) t) [] (deal 0 0 (Stored.sizes_of limit cuts cut)))
        (λ values. combined_recorded v values (reduce Stored.doings Stored.checks by at c') (reduce_recorded by at c' u));
  }

pub done_law : DoneLaw
unfolding recorded
done_law program set s ds keeps e =
    Induction.main (recorded set.limit (cuts_of set.plan)) set.limit program keeps tt tt s ∙ ap (λ o. longer o ((Stored.noted program set).deeds s)) e
