-- By what parts of a stored run may be left: parts put together are left by no more than they are.
use Rattle.std.proofs.Common.{◌≡◌, ℕ, zero, suc, ◌+◌, List, nat_lt, Option, Some, None, Result, Ok, Err, Bool, true, false, cond, refl, subst}
use Rattle.behaviours.specs.Doings.{through}
use Rattle.behaviours.specs.Paths.{Leave}
use Rattle.ada_meaning.specs.Operations.{Operations}
use Rattle.ada_meaning.specs.Stored as stored
use Rattle.ada_meaning.specs.Stored.{Stored, Cause, Left, OutOfTurns, NoRoom, CutOff, Misnoted}
use Rattle.ada_meaning.specs.Meaning

ok_left : {A : Type 0} (a : A) (l : Leave) → ◌≡◌ {A = Result A Cause} (Ok a) (Err (Left l)) → ⊥
ok_left a l e = cc

cut_left : {A : Type 0} (l : Leave) → ◌≡◌ {A = Result A Cause} (Err CutOff) (Err (Left l)) → ⊥
cut_left l e = cc

spent_left : {A : Type 0} (l : Leave) → ◌≡◌ {A = Result A Cause} (Err OutOfTurns) (Err (Left l)) → ⊥
spent_left l e = cc

cause_is : {A B : Type 0} (c : Cause) (l : Leave) → ◌≡◌ {A = Result B Cause} (Err c) (Err (Left l)) → ◌≡◌ {A = Result A Cause} (Err c) (Err (Left l))
cause_is c l e = let h : c ≡ Left l = cc in cc

module _ (may : Leave → Type 0) where
  abbrev pub LeavesOnly : {A : Type 0} → Stored A → Type 0
  LeavesOnly m = (s : stored.State) (l : Leave) → (m.does s).end ≡ Err (Left l) → may l

  pub only_ret : {A : Type 0} (a : A) → LeavesOnly (stored.ret a)
  unfolding stored.ret
  only_ret a s l e = absurd (ok_left a l e)

  pub only_leaves : {A : Type 0} (w : Leave) → may w → LeavesOnly (stored.leaves {A = A} w)
  unfolding stored.leaves
  only_leaves w m s l e = subst may (let h : w ≡ l = cc in h) m

  pub only_bind : {A B : Type 0} (m : Stored A) (k : A → Stored B) → LeavesOnly m → ((a : A) → LeavesOnly (k a)) → LeavesOnly (stored.bind m k)
  unfolding stored.bind
  only_bind {A} {B} m k hm hk s l e = go (m.does s).state (m.does s).end (hm s l) e
    where
      go : (t : stored.State) (x : Result A Cause) → (x ≡ Err (Left l) → may l) → (stored.next t x k).end ≡ Err (Left l) → may l
      go t (Ok a) h e = hk a t l e
      go t (Err c) h e = h (cause_is c l e)

  pub only_cond : {A : Type 0} (b : Bool) (m n : Stored A) → LeavesOnly m → LeavesOnly n → LeavesOnly (cond b m n)
  only_cond true m n hm hn = hm
  only_cond false m n hm hn = hn

  pub only_look : LeavesOnly stored.look
  unfolding stored.look
  only_look s l e = go s.left e
    where
      go : (o : Option ℕ) → (stored.looked s o).end ≡ Err (Left l) → may l
      go None e = absurd (ok_left (tt {0}) l e)
      go (Some zero) e = absurd (cut_left l e)
      go (Some (suc n)) e = absurd (ok_left (tt {0}) l e)

  pub only_turn : (limit : ℕ) → LeavesOnly (stored.turn limit)
  unfolding stored.turn
  only_turn limit s l e = go (nat_lt s.turns limit) e
    where
      go : (b : Bool) → (cond b (stored.at (record s { turns = s.turns + 1 }) (Ok (tt {0}))) (stored.at s (Err OutOfTurns))).end ≡ Err (Left l) → may l
      go true e = absurd (ok_left (tt {0}) l e)
      go false e = absurd (spent_left l e)

  pub only_through : {A : Type 0} (f : ℕ → A → Stored A) → ((i : ℕ) (a : A) → LeavesOnly (f i a)) → (first size : ℕ) (a : A) → LeavesOnly (through stored.doings first size a f)
  only_through f h first zero a = only_ret a
  only_through f h first (suc size) a = only_bind (f first a) (λ b. through stored.doings (suc first) size b f) (h first a) (λ b. only_through f h (suc first) size b)

  module _ (limit : ℕ) (cuts : ℕ → ℕ → List ℕ) where
    abbrev oper : Operations {1}
    oper = stored.noted_operations limit cuts

    pub only_iterate : (test : Stored Bool) (body : Stored (Unit {0})) → LeavesOnly test → LeavesOnly body → LeavesOnly (Meaning.iterate oper test body)
    only_iterate test body ht hb =
        only_bind (Meaning.turned oper) (λ _. stored.bind test (λ p. cond p body (stored.ret tt))) (only_bind stored.look (λ _. stored.turn limit) only_look (λ _. only_turn limit))
        (λ _. only_bind test (λ p. cond p body (stored.ret tt)) ht (λ p. only_cond p body (stored.ret tt) hb (only_ret tt)))

-- leaves that are handled
pub only_handles : (may may' : Leave → Type 0) {A : Type 0} (m : Stored A) (takes : Leave → Bool) (h : Leave → Stored A) → LeavesOnly may' m → ((w : Leave) → takes w ≡ true → LeavesOnly may (h w)) → ((w : Leave) → takes w ≡ false → may' w → may w)
    → LeavesOnly may (stored.handles m takes h)
unfolding stored.handles
only_handles may may' {A} m takes h hm hh past s l e = go (m.does s).state (m.does s).end (hm s) e
  where
    left : (t : stored.State) (w : Leave) (b : Bool) → takes w ≡ b → may' w → (cond b ((h w).does t) (stored.at t (Err (Left w)))).end ≡ Err (Left l) → may l
    left t w true e m z = hh w e t l z
    left t w false e m z = subst may (let q : w ≡ l = cc in q) (past w e m)

    go : (t : stored.State) (x : Result A Cause) → ((w : Leave) → x ≡ Err (Left w) → may' w) → (stored.handled t x takes h).end ≡ Err (Left l) → may l
    go t (Ok a) k z = absurd (ok_left a l z)
    go t (Err (Left w)) k z = left t w (takes w) refl (k w refl) z
    go t (Err OutOfTurns) k z = absurd (spent_left l z)
    go t (Err CutOff) k z = absurd (cut_left l z)
    go t (Err NoRoom) k z = absurd (let q : ◌≡◌ {A = Result A Cause} (Err NoRoom) (Err (Left l)) = z in cc)
    go t (Err Misnoted) k z = absurd (let q : ◌≡◌ {A = Result A Cause} (Err Misnoted) (Err (Left l)) = z in cc)
