-- What a whole run shows.
use Rattle.std.proofs.Common.{◌≡◌, ℕ, List, Bool, false, not, Result, Ok, Err, refl, ap, subst}
use Rattle.typed_tree.specs.Programs.{program}
use Rattle.typed_tree.specs.Decoded.{body_at}
use Rattle.behaviours.specs.Paths as paths
use Rattle.behaviours.specs.Paths.{Everywhere}
use Rattle.ada_meaning.specs.Meaning as meaning
use Rattle.ada_meaning.specs.Meaning.{raises}
use Rattle.ada_meaning.specs.Stored.{State, Stored, Computes, handles, ret}
use Rattle.ada_meaning.specs.Programs.{by_one_worker}
use Rattle.ada_meaning.proofs.StoredProof.{stored_law}
use Rattle.run_values.specs.declared.ends.End.{End}
use Rattle.run_values.specs.declared.ends.End.TheVariants as end
use Rattle.run_values.specs.declared.ends.Leave as ends-leave
use Rattle.run_values.specs.declared.ends.Leave.TheVariants as leave
use Rattle.run_outside.specs.Outside.{Outside}
use Rattle.run_store.specs.Shows.{Image, facing, Shows, Answers, leave_of}
use Rattle.run_store.proofs.Going.{stays, same_shows}
use Rattle.run_parts.specs.declared.work.Work.{Work}
use Rattle.run_parts.specs.Words.{nodes_of, calls_of}
use Rattle.run_walk.specs.Run.{main, main_ended, answer_of, IsRun}
use Rattle.run_walk.proofs.Looping.{handles_so, handles_not}
use Rattle.run_walk.specs.Walk as walk

computes : (m : Stored (Unit {0})) (r : Result (Unit {0}) End) (s t : State) → Answers (λ a. a) m r s t → Computes m s (answer_of r) t
computes m (Ok u) s t h = h
computes m (Err (end.Left x)) s t h = h
computes m (Err end.Spent) s t h = h
computes m (Err end.NoMemory) s t h = h
computes m (Err end.ReadFault) s t h = h
computes m (Err end.WriteFault) s t h = h

pub run_shows : {Tells : List ℕ → Outside → Type 0} (w : Work) (r : Result (Unit {0}) End) (s t : Image) → Shows Tells (main w) r s t → IsRun Tells w r s t
run_shows w r s t h = record {
  cause = h.0;
  back = h.1.back;
  permitted = λ input told rule slots begun.
      stored_law (program w.typed.now) (by_one_worker w.plan.now w.limit) slots input s.state.output (answer_of r) (facing input t.state) rule
      (subst (λ (x : State). Computes (main w) x (answer_of r) (facing input t.state)) (ap (facing input) begun) (computes (main w) r (facing input s.state) (facing input t.state) (h.2 input told)));
}

-- ---- the main procedure

abbrev err_of : End → Result (Unit {0}) End
err_of e = Err e

abbrev leaves_main : paths.Leave → Bool
leaves_main how = not (raises how)

main_as : (w : Work) → main w ≡ handles (walk.body w 1000 (body_at (nodes_of w) w.typed.now.body) Everywhere (meaning.outset 0)) leaves_main (λ _. ret tt)
unfolding calls_of
main_as w = refl

ends_so : {Tells : List ℕ → Outside → Type 0} (m : Stored (Unit {0})) (s t : Image) (r : Result (Unit {0}) End) → Shows Tells m r s t → Shows Tells (handles m leaves_main (λ _. ret tt)) (main_ended r) s t
unfolding ret
ends_so m s t (Ok a) h = handles_not m leaves_main (λ _. ret tt) s t (Ok a) (λ x y q p. absurd cc) h
ends_so m s t (Err (end.Left (leave.Exits n))) h = handles_so m leaves_main (λ _. ret tt) s t (leave.Exits n) (Ok tt) t refl h (refl, stays, λ input told. refl)
ends_so m s t (Err (end.Left (leave.Returns v))) h = handles_so m leaves_main (λ _. ret tt) s t (leave.Returns v) (Ok tt) t refl h (refl, stays, λ input told. refl)
ends_so m s t (Err (end.Left (leave.Raises v))) h = handles_not m leaves_main (λ _. ret tt) s t (Err (end.Left (leave.Raises v))) (λ x y q p. subst (λ z. leaves_main z ≡ false) p (same y q)) h
  where
    same : (y : ends-leave.Leave) → err_of (end.Left (leave.Raises v)) ≡ Err (end.Left y) → leaves_main (leave_of y) ≡ false
    same (leave.Exits j) q = cc
    same (leave.Returns v) q = cc
    same (leave.Raises r) q = refl
ends_so m s t (Err end.Spent) h = handles_not m leaves_main (λ _. ret tt) s t (Err end.Spent) (λ x y q p. absurd cc) h
ends_so m s t (Err end.NoMemory) h = handles_not m leaves_main (λ _. ret tt) s t (Err end.NoMemory) (λ x y q p. absurd cc) h
ends_so m s t (Err end.ReadFault) h = handles_not m leaves_main (λ _. ret tt) s t (Err end.ReadFault) (λ x y q p. absurd cc) h
ends_so m s t (Err end.WriteFault) h = handles_not m leaves_main (λ _. ret tt) s t (Err end.WriteFault) (λ x y q p. absurd cc) h

pub main_shows : {Tells : List ℕ → Outside → Type 0} (w : Work) (r : Result (Unit {0}) End) (s t : Image) → Shows Tells (walk.body w 1000 (body_at (nodes_of w) w.typed.now.body) Everywhere (meaning.outset 0)) r s t → Shows Tells (main w) (main_ended r) s t
main_shows w r s t h =
    same_shows (λ a. a) (main w) (handles (walk.body w 1000 (body_at (nodes_of w) w.typed.now.body) Everywhere (meaning.outset 0)) leaves_main (λ _. ret tt)) (main_ended r) s t (main_as w)
    (ends_so (walk.body w 1000 (body_at (nodes_of w) w.typed.now.body) Everywhere (meaning.outset 0)) s t r h)
