-- Calls and returns, as what they do to a state.
use Rattle.std.proofs.Common.{◌≡◌, ℕ, ◌≤◌, ◌+◌, ◌-◌, ℤ, List, [], ◌∷◌, ◌++◌, length, reverse, Option, Some, None, refl, sym, ap, ◌∙◌, subst, Box, Global}
use Rattle.std.specs.Prelude.{map, Result, Ok, Err, IfOk, IsErr, OnErr}
use Rattle.std.proofs.lemmas.Bool.{false≢true}
use Rattle.std.proofs.lemmas.List.{reverse-append}
use Rattle.ada_base.specs.declared.reason.Reason.{Reason}
use Rattle.stack_code.specs.Machine.{State, Goes, cut, ended, entered, entered_at, ending, pushed_for, unwound}
use Rattle.stack_code.specs.Tops.{AreTops, IsTopped}
use Rattle.stack_code.proofs.Topping.{tops_low}
use Rattle.stack_code.specs.declared.code.CodeSub.{CodeSub}
use Rattle.ada_base.specs.Cells.{Cell, zeros}
use Rattle.ada_machine.specs.declared.calls.Entry.{Entry}
use Rattle.ada_machine.specs.declared.machine.Aside.{Aside}
use Rattle.ada_machine.specs.declared.machine.Machine.{Machine}
use Rattle.ada_machine.specs.declared.machine.Waiting.{Waiting}
use Rattle.stack_code.specs.declared.path.Round.{Round}
use Rattle.ada_machine.specs.States.{state_of, kept_of, rounds_of, frame_of, frames_of, begins, IsRoomFor}

pub frames_last : (ws rest : List Waiting) (w : Waiting) → ws ≡ rest ++ w ∷ [] → frames_of ws ≡ frame_of w ∷ frames_of rest
frames_last ws rest w e = ap frames_of e ∙ ap (λ l. map frame_of l) (reverse-append rest (w ∷ []))

pub ending_by : (s t : State) (w : Waiting) (rest ws : List Waiting) (value : Option ℤ) (st new : List ℤ) → frames_of ws ≡ frame_of w ∷ frames_of rest → t ≡ ended (frame_of w) (frames_of rest) w.to (cut s.floor st) s → new ≡ pushed_for value (cut s.floor st)
    → ending 0 value st (frames_of ws) s ≡ Goes (record t { stack = new })
ending_by s t w rest ws value st new e f g = ap (λ fs. ending 0 value st fs s) e ∙ ap (λ st. Goes (ended (frame_of w) (frames_of rest) w.to st s)) (sym g) ∙ ap (λ t. Goes (record t { stack = new })) (sym f)

pub unwound_by : (s t : State) (w : Waiting) (rest ws : List Waiting) (r : Reason) → frames_of ws ≡ frame_of w ∷ frames_of rest → t ≡ ended (frame_of w) (frames_of rest) w.at (cut s.floor s.stack) s → unwound r (frames_of ws) s ≡ Goes t
unwound_by s t w rest ws r e f = ap (λ fs. unwound r fs s) e ∙ ap Goes (sym f)

pub frames_more : (ws rest : List Waiting) (w : Waiting) → rest ≡ ws ++ w ∷ [] → frames_of rest ≡ frame_of w ∷ frames_of ws
frames_more ws rest w e = frames_last rest ws w e

-- where the cells of the innermost body that waits end
pub tops_last : (low : ℕ) (s : State) (w : Waiting) (rest ws : List Waiting) → frames_of ws ≡ frame_of w ∷ frames_of rest → s.waiting ≡ frames_of ws → IsTopped low s → (low ≤ w.top) × (w.top ≤ length s.cells)
tops_last low s w rest ws e f t =
    let a : AreTops low (frame_of w ∷ frames_of rest) (length s.cells) = subst (λ fs. AreTops low fs (length s.cells)) (f ∙ e) t in
    (tops_low low (frames_of rest) w.top a.1, a.0)

pub on_err : {A E : Type 0} (r : Result A E) (P : Type 0) → P → OnErr r P
on_err (Ok a) P h = tt
on_err (Err e) P h = h

pub none_of : {A : Type 0} (o : Option A) → ((x : A) → o ≡ Some x → ⊥) → o ≡ None
none_of None h = refl
none_of (Some x) h = absurd (h x refl)

pub no_ok : {A E : Type 0} (r : Result A E) (P : A → Type 0) → IsErr r → IfOk r P
no_ok (Ok a) P e = absurd (false≢true e)
no_ok (Err x) P e = tt

-- memory for what the own body keeps and repeats
pub room_still : (aside : Option (Box Aside Global)) (m m' : Machine) → m'.kept ≡ m.kept → m'.rounds ≡ m.rounds → IsRoomFor aside m.kept.items m.rounds.items → IsRoomFor aside m'.kept.items m'.rounds.items
room_still aside m m' e f h = subst (λ r. IsRoomFor aside m'.kept.items r) (sym (ap (λ v. v.items) f)) (subst (λ k. IsRoomFor aside k m.rounds.items) (sym (ap (λ v. v.items) e)) h)

-- a body begins once what the own one keeps and repeats is set aside
pub begun : (f : CodeSub) (e : Entry) (m m' : Machine) (aside : Option (Box Aside Global)) (ws : List Waiting) (cells : List Cell) → m' ≡ record m { kept = m'.kept; rounds = m'.rounds } → m'.kept.items ≡ [] → m'.rounds.items ≡ [] → kept_of aside ≡ reverse m.kept.items → rounds_of aside ≡ reverse m.rounds.items
    → ws ≡ m'.waiting.items ++ record { at = m'.pc; to = e.to; floor = m'.floor; base = m'.base; nest = m'.nest; aside = aside; top = e.top } ∷ []
    → record (state_of m' cells) { pc = f.entry; floor = e.floor; nest = 0; base = e.base; waiting = frames_of ws; calls = m'.calls + 1; turns = m'.turns + 1 } ≡ begins f e (state_of m cells)
begun f e m m' aside ws cells same a b c d w =
    let at : Machine → List ℤ → List Round → List ℤ → List Round → State = λ q kept rounds was_kept was_rounds. record (begins f e (state_of q cells)) {
      kept = kept;
      rounds = rounds;
      waiting = record { at = q.pc; to = e.to; floor = q.floor; base = q.base; nest = q.nest; kept = was_kept; rounds = was_rounds; top = e.top } ∷ frames_of q.waiting.items;
    } in
    ap (λ fs. record (state_of m' cells) { pc = f.entry; floor = e.floor; nest = 0; base = e.base; waiting = fs; calls = m'.calls + 1; turns = m'.turns + 1 }) (frames_more m'.waiting.items ws _ w)
    ∙ ap (λ q. at q (reverse m'.kept.items) (reverse m'.rounds.items) (kept_of aside) (rounds_of aside)) same
    ∙ ap (λ k. at m (reverse k) (reverse m'.rounds.items) (kept_of aside) (rounds_of aside)) a ∙ ap (λ r. at m [] (reverse r) (kept_of aside) (rounds_of aside)) b
    ∙ ap (λ k. at m [] [] k (rounds_of aside)) c ∙ ap (λ r. at m [] [] (reverse m.kept.items) r) d

-- a body that begins is a call
pub begins_entered : (f : CodeSub) (e : Entry) (to : ℕ) (s : State) (cells : List Cell) → e.to ≡ to → e.floor ≡ length s.stack - f.takes → e.base ≡ length s.cells → e.top ≡ length s.cells → cells ≡ s.cells ++ zeros f.frame
    → begins f e (record s { cells = cells }) ≡ entered f to s.kept (record s { turns = s.turns + 1 })
begins_entered f e to s cells a b c d g =
    let at : ℕ → ℕ → ℕ → ℕ → List Cell → State = λ to floor base top cells. begins f (record { to = to; floor = floor; base = base; top = top }) (record s { cells = cells }) in
    ap (λ n. at n e.floor e.base e.top cells) a ∙ ap (λ n. at to n e.base e.top cells) b ∙ ap (λ n. at to (length s.stack - f.takes) n e.top cells) c
    ∙ ap (λ n. at to (length s.stack - f.takes) (length s.cells) n cells) d ∙ ap (λ x. at to (length s.stack - f.takes) (length s.cells) (length s.cells) x) g

pub begins_entered_at : (f : CodeSub) (e : Entry) (n to count : ℕ) (s : State) (cells : List Cell) → e.to ≡ to → e.floor ≡ length s.stack → e.base ≡ s.base + n → e.top ≡ length s.cells → count ≡ s.base + n + f.frame - length s.cells → cells ≡ s.cells ++ zeros count
    → begins f e (record s { cells = cells }) ≡ entered_at f n to (record s { turns = s.turns + 1 })
begins_entered_at f e n to count s cells a b c d h g =
    let at : ℕ → ℕ → ℕ → ℕ → List Cell → State = λ to floor base top cells. begins f (record { to = to; floor = floor; base = base; top = top }) (record s { cells = cells }) in
    ap (λ k. at k e.floor e.base e.top cells) a ∙ ap (λ k. at to k e.base e.top cells) b ∙ ap (λ k. at to (length s.stack) k e.top cells) c
    ∙ ap (λ k. at to (length s.stack) (s.base + n) k cells) d ∙ ap (λ x. at to (length s.stack) (s.base + n) (length s.cells) x) (g ∙ ap (λ k. s.cells ++ zeros k) h)
