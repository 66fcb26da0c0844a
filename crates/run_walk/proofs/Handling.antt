-- Loops that are left, and handlers.
use Rattle.std.proofs.Common.{◌≡◌, ℕ, ℤ, List, Bool, true, false, ◌&&◌, cond, nat_eq, Some, None, refl, subst, ap, inr}
use Rattle.std.specs.Prelude.{Result, Ok, Err, ◌||◌}
use Rattle.ada_base.specs.declared.reason.Reason.{Reason}
use Rattle.ada_base.specs.declared.reason.Reason.TheVariants as reason
use Rattle.behaviours.specs.Paths as paths
use Rattle.typed_tree.specs.Syntax.{Expr, Stmts, Handlers, NoHandler, Handler, Alternatives, NoAlternative, Alternative}
use Rattle.ada_meaning.specs.Values.{handles_reason, is_chosen}
use Rattle.ada_meaning.specs.Meaning.{Env, exits, raises, has_handlers, with_handled, reason_of}
use Rattle.ada_meaning.specs.Stored.{Stored, ret, bind, leaves}
use Rattle.run_outside.specs.Outside.{Outside}
use Rattle.run_store.specs.Shows.{Image, Shows, leave_of}
use Rattle.run_values.specs.declared.ends.End as ends
use Rattle.run_values.specs.declared.ends.End.TheVariants as end
use Rattle.run_values.specs.declared.ends.Leave as ends-leave
use Rattle.run_values.specs.declared.ends.Leave.TheVariants as leave
use Rattle.run_store.proofs.Going.{stays, same_shows, then_shows}
use Rattle.run_parts.specs.declared.work.Work.{Work}
use Rattle.run_parts.specs.Found.{found_handler, found_alternative}
use Rattle.run_parts.specs.Caught.{caught}
use Rattle.run_walk.specs.Walk as walk
use Rattle.run_walk.proofs.Looping.{handles_not, handles_so}

-- ---- exits

abbrev err_of : ends.End → Result (Unit {0}) ends.End
err_of e = Err e

module _ {Tells : List ℕ → Outside → Type 0} (w : Work) (d n : ℕ) (m : Stored (Unit {0})) (s t : Image) where
  exit_so : (k : ℕ) (b : Bool) → nat_eq n k ≡ b → Shows Tells m (Err (end.Left (leave.Exits k))) s t → Shows Tells (walk.in_loop w d n m) (cond b (Ok tt) (Err (end.Left (leave.Exits k)))) s t
  unfolding ret
  exit_so k true e h = handles_so m (exits n) (λ _. ret tt) s t (leave.Exits k) (Ok tt) t e h (refl, stays, λ input told. refl)
  exit_so k false e h = handles_not m (exits n) (λ _. ret tt) s t (Err (end.Left (leave.Exits k))) (λ x y q p. subst (λ z. exits n z ≡ false) p (same y q)) h
    where
      same : (y : ends-leave.Leave) → err_of (end.Left (leave.Exits k)) ≡ Err (end.Left y) → exits n (leave_of y) ≡ false
      same (leave.Exits j) q = let i : k ≡ j = cc in subst (λ z. nat_eq n z ≡ false) i e
      same (leave.Returns v) q = refl
      same (leave.Raises r) q = refl

  pub caught_shows : (r : Result (Unit {0}) ends.End) → Shows Tells m r s t → Shows Tells (walk.in_loop w d n m) (caught n r) s t
  caught_shows (Ok a) h = handles_not m (exits n) (λ _. ret tt) s t (Ok a) (λ x y q p. absurd cc) h
  caught_shows (Err (end.Left (leave.Exits k))) h = exit_so k (nat_eq n k) refl h
  caught_shows (Err (end.Left (leave.Returns v))) h = handles_not m (exits n) (λ _. ret tt) s t (Err (end.Left (leave.Returns v))) (λ x y q p. subst (λ z. exits n z ≡ false) p (same y q)) h
    where
      same : (y : ends-leave.Leave) → err_of (end.Left (leave.Returns v)) ≡ Err (end.Left y) → exits n (leave_of y) ≡ false
      same (leave.Exits j) q = cc
      same (leave.Returns v) q = refl
      same (leave.Raises r) q = refl
  caught_shows (Err (end.Left (leave.Raises v))) h = handles_not m (exits n) (λ _. ret tt) s t (Err (end.Left (leave.Raises v))) (λ x y q p. subst (λ z. exits n z ≡ false) p (same y q)) h
    where
      same : (y : ends-leave.Leave) → err_of (end.Left (leave.Raises v)) ≡ Err (end.Left y) → exits n (leave_of y) ≡ false
      same (leave.Exits j) q = cc
      same (leave.Returns v) q = refl
      same (leave.Raises r) q = refl
  caught_shows (Err end.Spent) h = handles_not m (exits n) (λ _. ret tt) s t (Err end.Spent) (λ x y q p. absurd cc) h
  caught_shows (Err end.NoMemory) h = handles_not m (exits n) (λ _. ret tt) s t (Err end.NoMemory) (λ x y q p. absurd cc) h
  caught_shows (Err end.ReadFault) h = handles_not m (exits n) (λ _. ret tt) s t (Err end.ReadFault) (λ x y q p. absurd cc) h
  caught_shows (Err end.WriteFault) h = handles_not m (exits n) (λ _. ret tt) s t (Err end.WriteFault) (λ x y q p. absurd cc) h

-- ---- handlers

and_false : (b : Bool) → (b && false) ≡ false
and_false true = refl
and_false false = refl

module _ (w : Work) (d : ℕ) (env : Env) where
  some_of : (b : Bool) (stmts ss : Stmts) (rest : Handlers) (x : Reason) → (found_handler rest x ≡ Some ss → walk.exec_handler w d rest x env ≡ walk.exec_all w d ss (with_handled x env)) → cond b (Some stmts) (found_handler rest x) ≡ Some ss
      → cond b (walk.exec_all w d stmts (with_handled x env)) (walk.exec_handler w d rest x env) ≡ walk.exec_all w d ss (with_handled x env)
  some_of true stmts ss rest x ih e = let q : stmts ≡ ss = cc in ap (λ z. walk.exec_all w d z (with_handled x env)) q
  some_of false stmts ss rest x ih e = ih e

  pub handler_some : (hs : Handlers) (x : Reason) (ss : Stmts) → found_handler hs x ≡ Some ss → walk.exec_handler w d hs x env ≡ walk.exec_all w d ss (with_handled x env)
  unfolding walk.exec_handler walk.exec_all
  handler_some NoHandler x ss e = cc
  handler_some (Handler handled stmts rest) x ss e = some_of (handles_reason handled x) stmts ss rest x (handler_some rest x ss) e

  none_of : (b : Bool) (stmts : Stmts) (rest : Handlers) (x : Reason) → (found_handler rest x ≡ None → walk.exec_handler w d rest x env ≡ leaves (paths.Raises x)) → cond b (Some stmts) (found_handler rest x) ≡ None
      → cond b (walk.exec_all w d stmts (with_handled x env)) (walk.exec_handler w d rest x env) ≡ leaves (paths.Raises x)
  none_of true stmts rest x ih e = cc
  none_of false stmts rest x ih e = ih e

  pub handler_none : (hs : Handlers) (x : Reason) → found_handler hs x ≡ None → walk.exec_handler w d hs x env ≡ leaves (paths.Raises x)
  unfolding walk.exec_handler walk.exec_all
  handler_none NoHandler x e = refl
  handler_none (Handler handled stmts rest) x e = none_of (handles_reason handled x) stmts rest x (handler_none rest x) e

has_some : (hs : Handlers) (x : Reason) (ss : Stmts) → found_handler hs x ≡ Some ss → has_handlers hs ≡ true
has_some NoHandler x ss e = cc
has_some (Handler handled stmts rest) x ss e = refl

module _ {Tells : List ℕ → Outside → Type 0} (w : Work) (d : ℕ) (ss : Stmts) (hs : Handlers) (env : Env) (s t : Image) where
  pub guarded_other : (r : Result (Unit {0}) ends.End) → ((x : Reason) → r ≡ Err (end.Left (leave.Raises x)) → ⊥) → Shows Tells (walk.exec_all w d ss env) r s t → Shows Tells (walk.guarded w d ss hs env) r s t
  guarded_other r n h = handles_not (walk.exec_all w d ss env) (λ how. has_handlers hs && raises how) (λ how. bind (ret {A = Unit {0}} tt) (λ _. walk.exec_handler w d hs (reason_of how) env)) s t r (λ x y q p. subst (λ z. (has_handlers hs && raises z) ≡ false) p (not y q)) h
    where
      not : (y : ends-leave.Leave) → r ≡ Err (end.Left y) → (has_handlers hs && raises (leave_of y)) ≡ false
      not (leave.Exits j) q = and_false (has_handlers hs)
      not (leave.Returns v) q = and_false (has_handlers hs)
      not (leave.Raises x) q = absurd (n x q)

  pub guarded_some : (x : Reason) (found : Stmts) (r : Result (Unit {0}) ends.End) (u : Image) → found_handler hs x ≡ Some found → Shows Tells (walk.exec_all w d ss env) (Err (end.Left (leave.Raises x))) s t → Shows Tells (walk.exec_all w d found (with_handled x env)) r t u
      → Shows Tells (walk.guarded w d ss hs env) r s u
  unfolding bind ret
  guarded_some x found r u e h k =
      handles_so (walk.exec_all w d ss env) (λ how. has_handlers hs && raises how) (λ how. bind (ret {A = Unit {0}} tt) (λ _. walk.exec_handler w d hs (reason_of how) env)) s t (leave.Raises x) r u (rw (has_some hs x found e) refl) h (after r (same_shows (λ a. a) (walk.exec_handler w d hs x env) (walk.exec_all w d found (with_handled x env)) r t u (handler_some w d env hs x found e) k))
    where
      after : (r : Result (Unit {0}) ends.End) → Shows Tells (walk.exec_handler w d hs x env) r t u → Shows Tells (bind (ret {A = Unit {0}} tt) (λ _. walk.exec_handler w d hs x env)) r t u
      after (Ok a) k = k
      after (Err (end.Left y)) k = k
      after (Err end.Spent) k = k
      after (Err end.NoMemory) k = (k.0, k.1, λ input told. inr (inr (k.2 input told)))
      after (Err end.ReadFault) k = (k.0, k.1, λ input told. inr (inr (k.2 input told)))
      after (Err end.WriteFault) k = (k.0, k.1, λ input told. inr (inr (k.2 input told)))

  pub guarded_none : (x : Reason) → found_handler hs x ≡ None → Shows Tells (walk.exec_all w d ss env) (Err (end.Left (leave.Raises x))) s t → Shows Tells (walk.guarded w d ss hs env) (Err (end.Left (leave.Raises x))) s t
  unfolding bind ret leaves
  guarded_none x e h = go (has_handlers hs) refl
    where
      go : (b : Bool) → has_handlers hs ≡ b → Shows Tells (walk.guarded w d ss hs env) (Err (end.Left (leave.Raises x))) s t
      go true q = handles_so (walk.exec_all w d ss env) (λ how. has_handlers hs && raises how) (λ how. bind (ret {A = Unit {0}} tt) (λ _. walk.exec_handler w d hs (reason_of how) env)) s t (leave.Raises x) (Err (end.Left (leave.Raises x))) t (rw q refl) h (same_shows (λ a. a) (bind (ret {A = Unit {0}} tt) (λ _. walk.exec_handler w d hs x env)) (bind (ret {A = Unit {0}} tt) (λ _. leaves (paths.Raises x))) (Err (end.Left (leave.Raises x))) t t (ap (λ z. bind (ret {A = Unit {0}} tt) (λ _. z)) (handler_none w d env hs x e)) (refl, stays, λ input told. refl))
      go false q = handles_not (walk.exec_all w d ss env) (λ how. has_handlers hs && raises how) (λ how. bind (ret {A = Unit {0}} tt) (λ _. walk.exec_handler w d hs (reason_of how) env)) s t (Err (end.Left (leave.Raises x))) (λ y z p o. rw q refl) h

-- ---- alternatives

module _ (w : Work) (d : ℕ) (env : Env) where
  chosen_of : (b : Bool) (stmts ss : Stmts) (rest : Alternatives) (v : ℤ) → (found_alternative rest v ≡ Some ss → walk.exec_chosen w d rest v env ≡ walk.exec_all w d ss env) → cond b (Some stmts) (found_alternative rest v) ≡ Some ss
      → cond b (walk.exec_all w d stmts env) (walk.exec_chosen w d rest v env) ≡ walk.exec_all w d ss env
  chosen_of true stmts ss rest v ih e = let q : stmts ≡ ss = cc in ap (λ z. walk.exec_all w d z env) q
  chosen_of false stmts ss rest v ih e = ih e

  pub alternative_some : (as' : Alternatives) (v : ℤ) (ss : Stmts) → found_alternative as' v ≡ Some ss → walk.exec_chosen w d as' v env ≡ walk.exec_all w d ss env
  unfolding walk.exec_chosen walk.exec_all
  alternative_some NoAlternative v ss e = cc
  alternative_some (Alternative others choices mentions stmts rest) v ss e = chosen_of (others || is_chosen choices v) stmts ss rest v (alternative_some rest v ss) e

  unchosen_of : (b : Bool) (stmts : Stmts) (rest : Alternatives) (v : ℤ) → (found_alternative rest v ≡ None → walk.exec_chosen w d rest v env ≡ leaves (paths.Raises reason.ConstraintError)) → cond b (Some stmts) (found_alternative rest v) ≡ None
      → cond b (walk.exec_all w d stmts env) (walk.exec_chosen w d rest v env) ≡ leaves (paths.Raises reason.ConstraintError)
  unchosen_of true stmts rest v ih e = cc
  unchosen_of false stmts rest v ih e = ih e

  pub alternative_none : (as' : Alternatives) (v : ℤ) → found_alternative as' v ≡ None → walk.exec_chosen w d as' v env ≡ leaves (paths.Raises reason.ConstraintError)
  unfolding walk.exec_chosen walk.exec_all
  alternative_none NoAlternative v e = refl
  alternative_none (Alternative others choices mentions stmts rest) v e = unchosen_of (others || is_chosen choices v) stmts rest v (alternative_none rest v) e

module _ {Tells : List ℕ → Outside → Type 0} (w : Work) (d : ℕ) (env : Env) (e : Expr) (as' : Alternatives) (v : ℤ) (s t : Image) (h : Shows Tells (walk.eval w d e env) (Ok v) s t) where
  pub chosen_some : (ss : Stmts) (r : Result (Unit {0}) ends.End) (u : Image) → found_alternative as' v ≡ Some ss → Shows Tells (walk.exec_all w d ss env) r t u → Shows Tells (walk.chosen w d e as' env) r s u
  chosen_some ss r u q k = then_shows (λ a. a) (λ a. a) (walk.eval w d e env) (λ v. walk.exec_chosen w d as' v env) s t u v r h (same_shows (λ a. a) (walk.exec_chosen w d as' v env) (walk.exec_all w d ss env) r t u (alternative_some w d env as' v ss q) k)

  pub chosen_none : found_alternative as' v ≡ None → Shows Tells (walk.chosen w d e as' env) (Err (end.Left (leave.Raises reason.ConstraintError))) s t
  unfolding leaves
  chosen_none q =
      then_shows (λ a. a) (λ a. a) (walk.eval w d e env) (λ v. walk.exec_chosen w d as' v env) s t t v (Err (end.Left (leave.Raises reason.ConstraintError))) h
      (same_shows (λ a. a) (walk.exec_chosen w d as' v env) (leaves (paths.Raises reason.ConstraintError)) (Err (end.Left (leave.Raises reason.ConstraintError))) t t (alternative_none w d env as' v q) (refl, stays, λ input told. refl))
