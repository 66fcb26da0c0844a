-- Where the machine stopped, as steps of a path whose looks are counted or not.
use Rattle.std.proofs.Common.{◌≡◌, ℕ, ◌+◌, List, Option, Some, None, arith, refl, sym, ap, subst}
use Rattle.ada_base.specs.Cells.{Cell}
use Rattle.ada_base.specs.Cuts.{Plan}
use Rattle.stack_code.specs.declared.code.Code.{Code}
use Rattle.stack_code.specs.Machine.{State, Stop, Done, Left, Spent, Cut, Constructs, Stops}
use Rattle.stack_code.specs.Machine as machine
use Rattle.stack_code.specs.Looks.{counting, Looks_to}
use Rattle.ada_lower.specs.Driven.{World, Dyn, Final, Step, On, Off, answered, dyn_of}
use Rattle.ada_machine.specs.States.{state_of, frames_of}
use Rattle.ada_machine.specs.declared.machine.Machine.{Machine}
use Rattle.machine_paths.specs.Silent.{Quietly, Leads, AsksNothing}
use Rattle.machine_paths.specs.Threads.{quiet}
use Rattle.machine_paths.proofs.Leading.{leads_stops}
use Rattle.ada_threads.specs.Going.{with_left, ahead, stands, final, clipped}
use Rattle.ada_threads.proofs.Clipping.{clip_is}

module _ (limit : ℕ) (c : Code) (plan : Plan) (m m' : Machine) (cells cells' : List Cell) (n : ℕ) where
  abbrev p : State
  p = state_of m cells

  abbrev q : State
  q = state_of m' cells'

  -- it stopped, after so many looks
  pub stop_leads : (x : Stop) → AsksNothing (Stops x q) → machine.Comes_to limit c p x q → Looks_to limit c n p x q → (l : Option ℕ) → Leads limit c (On (stands plan p (ahead n l))) (answered limit c x (with_left l q) (quiet plan))
  stop_leads x a to counted None = leads_stops limit c p x q (quiet plan) a to
  stop_leads x a to counted (Some k) = leads_stops limit c (counting (n + k) p) x (counting k q) (quiet plan) (asks x a) (counted k) where
    asks : (x : Stop) → AsksNothing (Stops x q) → AsksNothing (Stops x (counting k q))
    asks (machine.Asks i) a = a
    asks (Done v) a = a
    asks (Left l) a = a
    asks Spent a = a
    asks Cut a = a
    asks (Constructs f) a = a
    asks machine.Stuck a = a
    asks machine.Astray a = a

  -- it was cut at a look
  pub cut_leads : machine.Comes_to limit c (counting n p) Cut (counting 0 q) → Leads limit c (On (stands plan p (Some n))) (answered limit c Cut (counting 0 q) (quiet plan))
  cut_leads to = leads_stops limit c (counting n p) Cut (counting 0 q) (quiet plan) tt to

-- ---- so many looks ahead, and so many more
pub ahead_twice : (n k : ℕ) (l : Option ℕ) → ahead n (ahead k l) ≡ ahead (n + k) l
ahead_twice n k None = refl
ahead_twice n k (Some j) = ap Some (omega arith)

pub leads_ahead : (limit : ℕ) (c : Code) (n k : ℕ) (x y z : Option ℕ → Step) → ((l : Option ℕ) → Leads limit c (x (ahead n l)) (y l)) → ((l : Option ℕ) → Leads limit c (y (ahead k l)) (z l))
    → (l : Option ℕ) → Leads limit c (x (ahead (n + k) l)) (z l)
leads_ahead limit c n k x y z f g l = λ e h. subst (λ m. Quietly limit c (x m) e) (ahead_twice n k l) (f (ahead k l) e (g l e h))

-- ---- where it ended by itself
abbrev pub IsEnd : Stop → Type 0
IsEnd (Done v) = Unit {0}
IsEnd (Left l) = Unit {0}
IsEnd Spent = Unit {0}
IsEnd Cut = Unit {0}
IsEnd _ = ⊥

asks_not : (x : Stop) (s : State) → IsEnd x → AsksNothing (Stops x s)
asks_not (Done v) s e = tt
asks_not (Left l) s e = tt
asks_not Spent s e = tt
asks_not Cut s e = tt
asks_not (machine.Asks i) s e = absurd e
asks_not (Constructs f) s e = absurd e
asks_not machine.Stuck s e = absurd e
asks_not machine.Astray s e = absurd e

answered_end : (limit : ℕ) (c : Code) (x : Stop) (s : State) (w : World) → IsEnd x → answered limit c x s w ≡ Off (record { how = x; dyn = dyn_of s w })
answered_end limit c (Done v) s w e = refl
answered_end limit c (Left l) s w e = refl
answered_end limit c Spent s w e = refl
answered_end limit c Cut s w e = refl
answered_end limit c (machine.Asks i) s w e = absurd e
answered_end limit c (Constructs f) s w e = absurd e
answered_end limit c machine.Stuck s w e = absurd e
answered_end limit c machine.Astray s w e = absurd e

final_is : (plan : Plan) (m : Machine) (cells : List Cell) (x : Stop) (l : Option ℕ)
    → ◌≡◌ {A = Final} (record { how = x; dyn = dyn_of (with_left l (state_of m cells)) (quiet plan) }) (final plan x (clipped (frames_of m.waiting.items) cells) m.turns l)
final_is plan m cells x l = ap (λ (d : Dyn). record { how = x; dyn = d }) (clip_is (frames_of m.waiting.items) (record { cells = cells; turns = m.turns; left = l; world = quiet plan }))

-- it ends so, after so many looks, without the cells of calls
pub ends_ahead : (limit : ℕ) (c : Code) (plan : Plan) (m m' : Machine) (cells cells' : List Cell) (n : ℕ) (x : Stop) → IsEnd x
    → machine.Comes_to limit c (state_of m cells) x (state_of m' cells') → Looks_to limit c n (state_of m cells) x (state_of m' cells') → (l : Option ℕ)
    → Quietly limit c (On (stands plan (state_of m cells) (ahead n l))) (final plan x (clipped (frames_of m'.waiting.items) cells') m'.turns l)
ends_ahead limit c plan m m' cells cells' n x end to counted l =
    let q = with_left l (state_of m' cells') in
    let e : Final = record { how = x; dyn = dyn_of q (quiet plan) } in
    subst (λ f. Quietly limit c (On (stands plan (state_of m cells) (ahead n l))) f) (final_is plan m' cells' x l)
    ((stop_leads limit c plan m m' cells cells' n x (asks_not x (state_of m' cells') end) to counted l) e (subst (λ s. Quietly limit c s e) (sym (answered_end limit c x q (quiet plan) end)) (0, refl)))

-- it was cut at a look, after so many
pub cut_ahead : (limit : ℕ) (c : Code) (plan : Plan) (m m' : Machine) (cells cells' : List Cell) (n : ℕ) → machine.Comes_to limit c (counting n (state_of m cells)) Cut (counting 0 (state_of m' cells'))
    → Quietly limit c (On (stands plan (state_of m cells) (Some n))) (final plan Cut (clipped (frames_of m'.waiting.items) cells') m'.turns (Some 0))
cut_ahead limit c plan m m' cells cells' n to =
    let e : Final = record { how = Cut; dyn = dyn_of (counting 0 (state_of m' cells')) (quiet plan) } in
    subst (λ f. Quietly limit c (On (stands plan (state_of m cells) (Some n))) f) (final_is plan m' cells' Cut (Some 0)) ((cut_leads limit c plan m m' cells cells' n to) e (0, refl))
