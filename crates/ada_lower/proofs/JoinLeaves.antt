-- A construct is left by no more than its threads are.
use Rattle.std.proofs.Common.{◌≡◌, ℕ, zero, suc, ◌+◌, max, List, [], ◌∷◌, nat_eq, Option, Some, None, Result, Ok, Err, Bool, true, false, ◌||◌, cond, refl, sym, ◌∙◌, subst}
use Rattle.behaviours.specs.Joins.{Share}
use Rattle.behaviours.specs.Paths.{Leave}
use Rattle.ada_meaning.specs.Stored as stored
use Rattle.ada_base.specs.Notes.{ThreadNote, Whole, NotBegun, CutAfter, Schedule, InOrder, ByNotes}
use Rattle.ada_meaning.specs.Stored.{Stored, Cause, Left, OutOfTurns, NoRoom, CutOff, Misnoted}
use Rattle.ada_lower.proofs.ForkLeaves.{LeavesOnly, only_ret, only_bind, only_cond, only_leaves}

ok_left : {A : Type 0} (a : A) (l : Leave) → ◌≡◌ {A = Result A Cause} (Ok a) (Err (Left l)) → ⊥
ok_left a l e = cc

module _ (may : Leave → Type 0) where
  only_rewinds : (n : ℕ) → LeavesOnly may (stored.rewinds n)
  unfolding stored.rewinds
  only_rewinds n s l e = absurd (ok_left (tt {0}) l e)

  only_renotes : (n : Schedule) → LeavesOnly may (stored.renotes n)
  unfolding stored.renotes
  only_renotes n s l e = absurd (ok_left (tt {0}) l e)

  only_spent : {A : Type 0} → LeavesOnly may (stored.spent {A = A})
  unfolding stored.spent
  only_spent {A} s l e = absurd (let q : ◌≡◌ {A = Result A Cause} (Err OutOfTurns) (Err (Left l)) = e in cc)

  only_misnoted : {A : Type 0} → LeavesOnly may (stored.misnoted {A = A})
  unfolding stored.misnoted
  only_misnoted {A} s l e = absurd (let q : ◌≡◌ {A = Result A Cause} (Err Misnoted) (Err (Left l)) = e in cc)

  only_thread : {A : Type 0} (most : ℕ) (m : Stored A) → LeavesOnly may m → LeavesOnly may (stored.thread most m)
  unfolding stored.thread
  only_thread {A} most m h s l e = go (m.does s).state (m.does s).end (h s) e
    where
      go : (t : stored.State) (x : Result A Cause) → ((w : Leave) → x ≡ Err (Left w) → may w) → (stored.took most t x).end ≡ Err (Left l) → may l
      go t (Ok a) k z = absurd (ok_left _ l z)
      go t (Err (Left w)) k z = subst may (let q : w ≡ l = cc in q) (k w refl)
      go t (Err OutOfTurns) k z = absurd (ok_left _ l z)
      go t (Err NoRoom) k z = absurd (let q : ◌≡◌ {A = Result (stored.Took A) Cause} (Err NoRoom) (Err (Left l)) = z in cc)
      go t (Err CutOff) k z = absurd (let q : ◌≡◌ {A = Result (stored.Took A) Cause} (Err CutOff) (Err (Left l)) = z in cc)
      go t (Err Misnoted) k z = absurd (let q : ◌≡◌ {A = Result (stored.Took A) Cause} (Err Misnoted) (Err (Left l)) = z in cc)

  module _ {A B : Type 0} (f : B → A → B) (body : Share → Stored A) (h : (j : Share) → LeavesOnly may (body j)) where
    only_threads : (from : ℕ) (js : List Share) (most : ℕ) (over : Bool) (b : B) → LeavesOnly may (stored.threads f body from js most over b)
    only_threads from [] most over b = only_bind may (stored.rewinds most) (λ _. cond over stored.spent (stored.ret b)) (only_rewinds most) (λ _. only_cond may over stored.spent (stored.ret b) only_spent (only_ret may b))
    only_threads from (j ∷ js) most over b =
        only_bind may (stored.rewinds from) (λ _. stored.bind (stored.thread most (body j)) (λ k. stored.threads f body from js k.most (over || stored.is_spent k.value) (stored.gathered f b k.value))) (only_rewinds from)
        (λ _. only_bind may (stored.thread most (body j)) (λ k. stored.threads f body from js k.most (over || stored.is_spent k.value) (stored.gathered f b k.value)) (only_thread most (body j) (h j))
        (λ k. only_threads from js k.most (over || stored.is_spent k.value) (stored.gathered f b k.value)))

    pub only_par : (b : B) (js : List Share) → LeavesOnly may (stored.par f b js body)
    unfolding stored.par
    only_par b js s = only_threads s.turns js s.turns false b s

    -- ---- by a note

    -- by what a thread was left that is told
    abbrev TellsOnly : Stored (Option Leave) → Type 0
    TellsOnly m = (s : stored.State) (x : Leave) → (m.does s).end ≡ Ok (Some x) → may x

    -- how it fits tells no more than it was
    abbrev Fitting : (Result A Cause → Result (Option Leave) Cause) → Type 0
    Fitting fits = (e : Result A Cause) → ((w : Leave) → e ≡ Err (Left w) → may w) → ((x : Leave) → fits e ≡ Ok (Some x) → may x) × ((l : Leave) → fits e ≡ Err (Left l) → ⊥)

    told : {w x : Leave} → ◌≡◌ {A = Result (Option Leave) Cause} (Ok (Some w)) (Ok (Some x)) → w ≡ x
    told e = cc

    none_told : {x : Leave} → ◌≡◌ {A = Result (Option Leave) Cause} (Ok None) (Ok (Some x)) → ⊥
    none_told e = cc

    cause_told : {c : Cause} {x : Leave} → ◌≡◌ {A = Result (Option Leave) Cause} (Err c) (Ok (Some x)) → ⊥
    cause_told e = cc

    no_leave : (c : Cause) (l : Leave) → ◌≡◌ {A = Result (Option Leave) Cause} (Err c) (Err (Left l)) → c ≡ Left l
    no_leave c l e = cc

    fit_chosen : Fitting stored.fits_chosen
    fit_chosen (Ok a) k = ((λ x e. absurd (cause_told e)), (λ l e. let q : Misnoted ≡ Left l = no_leave Misnoted l e in cc))
    fit_chosen (Err (Left w)) k = ((λ x e. subst may (told e) (k w refl)), (λ l e. ok_left (Some w) l e))
    fit_chosen (Err OutOfTurns) k = ((λ x e. absurd (cause_told e)), (λ l e. let q : Misnoted ≡ Left l = no_leave Misnoted l e in cc))
    fit_chosen (Err NoRoom) k = ((λ x e. absurd (cause_told e)), (λ l e. let q : NoRoom ≡ Left l = no_leave NoRoom l e in cc))
    fit_chosen (Err CutOff) k = ((λ x e. absurd (cause_told e)), (λ l e. let q : CutOff ≡ Left l = no_leave CutOff l e in cc))
    fit_chosen (Err Misnoted) k = ((λ x e. absurd (cause_told e)), (λ l e. let q : Misnoted ≡ Left l = no_leave Misnoted l e in cc))

    fit_whole : Fitting stored.fits_whole
    fit_whole (Ok a) k = ((λ x e. absurd (none_told e)), (λ l e. ok_left None l e))
    fit_whole (Err (Left w)) k = ((λ x e. absurd (none_told e)), (λ l e. ok_left None l e))
    fit_whole (Err OutOfTurns) k = ((λ x e. absurd (none_told e)), (λ l e. ok_left None l e))
    fit_whole (Err NoRoom) k = ((λ x e. absurd (cause_told e)), (λ l e. let q : NoRoom ≡ Left l = no_leave NoRoom l e in cc))
    fit_whole (Err CutOff) k = ((λ x e. absurd (cause_told e)), (λ l e. let q : CutOff ≡ Left l = no_leave CutOff l e in cc))
    fit_whole (Err Misnoted) k = ((λ x e. absurd (cause_told e)), (λ l e. let q : Misnoted ≡ Left l = no_leave Misnoted l e in cc))

    fit_cut : Fitting stored.fits_cut
    fit_cut (Ok a) k = ((λ x e. absurd (cause_told e)), (λ l e. let q : Misnoted ≡ Left l = no_leave Misnoted l e in cc))
    fit_cut (Err (Left w)) k = ((λ x e. absurd (cause_told e)), (λ l e. let q : Misnoted ≡ Left l = no_leave Misnoted l e in cc))
    fit_cut (Err OutOfTurns) k = ((λ x e. absurd (cause_told e)), (λ l e. let q : Misnoted ≡ Left l = no_leave Misnoted l e in cc))
    fit_cut (Err NoRoom) k = ((λ x e. absurd (cause_told e)), (λ l e. let q : NoRoom ≡ Left l = no_leave NoRoom l e in cc))
    fit_cut (Err CutOff) k = ((λ x e. absurd (none_told e)), (λ l e. ok_left None l e))
    fit_cut (Err Misnoted) k = ((λ x e. absurd (cause_told e)), (λ l e. let q : Misnoted ≡ Left l = no_leave Misnoted l e in cc))

    noted_only : (from : ℕ) (left : Option ℕ) (fits : Result A Cause → Result (Option Leave) Cause) → Fitting fits → (m : Stored A) → LeavesOnly may m → TellsOnly (stored.noted_thread from left fits m) × LeavesOnly may (stored.noted_thread from left fits m)
    unfolding stored.noted_thread
    noted_only from left fits fit m h = ((λ s x e. (fit _ (h _)).0 x e), (λ s l e. absurd ((fit _ (h _)).1 l e)))

    note_only : (b : Bool) (n : ThreadNote) (from : ℕ) (m : Stored A) → LeavesOnly may m → TellsOnly (stored.by_thread_note b n from m) × LeavesOnly may (stored.by_thread_note b n from m)
    unfolding stored.misnoted stored.ret
    note_only true Whole from m h = noted_only from None stored.fits_chosen fit_chosen m h
    note_only true NotBegun from m h = ((λ s x e. absurd (cause_told e)), only_misnoted)
    note_only true (CutAfter k) from m h = ((λ s x e. absurd (cause_told e)), only_misnoted)
    note_only false Whole from m h = noted_only from None stored.fits_whole fit_whole m h
    note_only false NotBegun from m h = ((λ s x e. absurd (none_told e)), only_ret may None)
    note_only false (CutAfter k) from m h = noted_only from (Some k) stored.fits_cut fit_cut m h

    abbrev MayAll : Option Leave → Type 0
    MayAll None = Unit {0}
    MayAll (Some x) = may x

    may_else : (x how : Option Leave) → MayAll x → MayAll how → MayAll (stored.or_else x how)
    may_else None how a b = b
    may_else (Some x) how a b = a

    -- a thread by its note, and then the others
    step_only : (w : Stored (Option Leave)) (k : Option Leave → Stored B) → TellsOnly w → LeavesOnly may w → ((x : Option Leave) → MayAll x → LeavesOnly may (k x)) → LeavesOnly may (stored.bind w k)
    unfolding stored.bind
    step_only w k tells leaves ih s l e = go (w.does s).state (w.does s).end (tells s) (leaves s l) e
      where
        go : (t : stored.State) (r : Result (Option Leave) Cause) → ((x : Leave) → r ≡ Ok (Some x) → may x) → (r ≡ Err (Left l) → may l) → (stored.next t r k).end ≡ Err (Left l) → may l
        go t (Ok None) a b z = ih None tt t l z
        go t (Ok (Some x)) a b z = ih (Some x) (a x refl) t l z
        go t (Err c) a b z = b (let q : c ≡ Left l = cc in Rattle.std.proofs.Common.ap Err q)

    only_chosen : (from chosen : ℕ) (js : List Share) (ns : List ThreadNote) (how : Option Leave) → MayAll how → LeavesOnly may (stored.chosen_threads {B = B} body from chosen js ns how)
    only_chosen from chosen [] [] None m = only_misnoted
    only_chosen from chosen [] [] (Some x) m = only_leaves may x m
    only_chosen from chosen [] (n ∷ ns) how m = only_misnoted
    only_chosen from chosen (j ∷ js) [] how m = only_misnoted
    only_chosen from chosen (j ∷ js) (n ∷ ns) how m =
        let (tells, leaves) = note_only (nat_eq j.number chosen) n from (body j) (h j) in
        step_only (stored.by_thread_note (nat_eq j.number chosen) n from (body j)) (λ x. stored.chosen_threads body from chosen js ns (stored.or_else x how)) tells leaves
        (λ x ma. only_chosen from chosen js ns (stored.or_else x how) (may_else x how ma m))

    pub only_noted : (b : B) (js : List Share) → LeavesOnly may (stored.noted_par f b js body)
    unfolding stored.noted_par stored.none_chosen stored.bind stored.renotes
    only_noted b js s l e = go s.notes s e
      where
        none : (t : stored.State) (r : Result B Cause) → ◌≡◌ {A = Result B Cause} (stored.fits_none r) (Err (Left l)) → ⊥
        none t (Ok a) e = ok_left a l e
        none t (Err (Left w)) e = let q : ◌≡◌ {A = Result B Cause} (Err Misnoted) (Err (Left l)) = e in cc
        none t (Err OutOfTurns) e = let q : ◌≡◌ {A = Result B Cause} (Err OutOfTurns) (Err (Left l)) = e in cc
        none t (Err NoRoom) e = let q : ◌≡◌ {A = Result B Cause} (Err NoRoom) (Err (Left l)) = e in cc
        none t (Err CutOff) e = let q : ◌≡◌ {A = Result B Cause} (Err CutOff) (Err (Left l)) = e in cc
        none t (Err Misnoted) e = let q : ◌≡◌ {A = Result B Cause} (Err Misnoted) (Err (Left l)) = e in cc

        note : (c : Option ℕ) (ns : List ThreadNote) (t : stored.State) → ((stored.by_note f b js body c ns).does t).end ≡ Err (Left l) → may l
        note None ns t e = absurd (none t _ e)
        note (Some k) ns t e = only_chosen t.turns k js ns None tt t l e

        go : (n : Schedule) (t : stored.State) → ((stored.by_notes f b js body n).does t).end ≡ Err (Left l) → may l
        go InOrder t e = only_par b js t l e
        go (ByNotes []) t e = only_misnoted t l e
        go (ByNotes (c ∷ cs)) t e = note c.chosen c.threads (record t { notes = ByNotes cs }) e
