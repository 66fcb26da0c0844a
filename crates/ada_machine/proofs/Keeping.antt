-- What stays of cells stays over one change after another.
use Rattle.std.proofs.Common.{◌≡◌, ℕ, sym, ◌∙◌, subst}
use Rattle.stack_code.specs.declared.code.Code.{Code}
use Rattle.stack_code.specs.Machine.{State, Goes, Stop, step, Comes, Comes_to}
use Rattle.stack_code.specs.Tops.{IsTopped, StaysTopped}
use Rattle.stack_code.proofs.Topping.{tops_one, comes_tops, run_tops}
use Rattle.ada_machine.specs.declared.machine.Stop as stops
use Rattle.ada_machine.specs.declared.machine.Stop.TheVariants as stop
use Rattle.ada_machine.specs.Places.{Stays}
use Rattle.ada_machine.specs.States.{StopsAt}

pub stays_on : {S H : Type 0} (floor : S → ℕ) (whole : S → Type 0) (place : S → H) {a b c : S} → Stays floor whole place a b → Stays floor whole place b c → Stays floor whole place a c
stays_on floor whole place h k = (k.0 ∙ h.0, λ w. k.1 (h.1 w), k.2 ∙ h.2)

-- the cells of the bodies that wait
module _ (limit : ℕ) (c : Code) (low low' : ℕ) (e : low' ≡ low) (p q : State) where
  pub topped_one : step limit c p ≡ Goes q → IsTopped low p → IsTopped low' q
  topped_one s t = subst (λ n. IsTopped n q) (sym e) (tops_one low limit c p q s t)

  pub topped_comes : Comes limit c p q → IsTopped low p → IsTopped low' q
  topped_comes s t = subst (λ n. IsTopped n q) (sym e) (comes_tops low limit c p q s t)

  topped_end : (x : Stop) → Comes_to limit c p x q → IsTopped low p → IsTopped low' q
  topped_end x s t = subst (λ n. IsTopped n q) (sym e) (subst (StaysTopped low) s.leads (run_tops low limit c s.steps p t))

  pub topped_stops : (s : stops.Stop) → StopsAt limit c s p q → IsTopped low p → IsTopped low' q
  topped_stops (stop.Done v) h t = topped_end _ h t
  topped_stops (stop.Left x) h t = topped_end _ h t
  topped_stops (stop.Construct a) h t = topped_end _ h t
  topped_stops (stop.Ask io) h t = topped_end _ h t
  topped_stops stop.Spent h t = topped_end _ h t
  topped_stops stop.Paused h t = topped_comes h.0 t
  topped_stops stop.NoMemory h t = topped_comes h.0 t
