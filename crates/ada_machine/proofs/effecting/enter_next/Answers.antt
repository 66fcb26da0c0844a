use Rattle.std.proofs.Common.{◌≡◌, ◌+◌, ◌∷◌, [], ◌++◌, ℤ, List, length, reverse, arith, ap, sym, ◌∙◌, SFits, w64}
use Rattle.std.proofs.lemmas.Int.{to_z-of_z}
use Rattle.stack_code.specs.Machine.{State, entered}
use Rattle.ada_machine.specs.States.{state_of}
use Rattle.ada_machine.proofs.Callers.{on_err}
use Rattle.ada_machine.proofs.Doings as doings
use Rattle.ada_machine.proofs.effecting.enter_next.Goals as goal

pub enter-requires-clause-takes : goal.enter-requires-clause-takes
enter-requires-clause-takes g c = omega (arith, c.requires.takes, c.put.ensures.len, ap length c.reserve.ensures.items)

pub returns-in-Ok-clause-ok : goal.returns-in-Ok-clause-ok
returns-in-Ok-clause-ok g c =
    let m = c.args.m.now in
    let v : ℤ = c.take_last-part.result in
    let fits : SFits w64 v = record { sfits = c.take_last-part.type_inv } in
    let top : reverse c.put.new.stack.items ≡ v ∷ reverse m.stack.items = c.put.ensures.top ∙ ap (λ z. z ∷ reverse c.reserve.new.self.items) (to_z-of_z w64 v fits) ∙ ap (λ xs. v ∷ reverse xs) c.reserve.ensures.items in (
      v,
      reverse c.take_last-part.new.self.items,
      doings.last_first m.kept.items c.take_last-part.new.self.items v c.take_last-part.ensures.items,
      c.in-Ok.ensures.ok ∙ ap (λ st. entered c.args.callee m.pc (reverse c.take_last-part.new.self.items) (record (state_of m (g.C.Cells.cells c.args.view.now)) { turns = m.turns + 1; stack = st })) top,
    )

pub returns-in-Err-clause-err : goal.returns-in-Err-clause-err
returns-in-Err-clause-err g c =
    let m = c.args.m.now in
    let v : ℤ = c.take_last-part.result in
    let fits : SFits w64 v = record { sfits = c.take_last-part.type_inv } in
    let cells = g.C.Cells.cells c.args.view.now in
    let st : reverse c.take.new.stack.items ≡ reverse m.stack.items = doings.untaken _ _ c.enter.new.m.stack.items c.put.new.stack.items c.take.new.stack.items c.reserve.new.self.items m.stack.items c.take.ensures.top c.in-Err.ensures.same.0 c.put.ensures.top c.reserve.ensures.items in
    let kept : c.push_reserved.new.self.items ≡ m.kept.items = c.push_reserved.ensures.items ∙ ap (λ z. c.enter.new.m.kept.items ++ (z ∷ [])) (to_z-of_z w64 v fits) ∙ ap (λ q. q.items ++ (v ∷ [])) c.in-Err.ensures.same.1 ∙ sym c.take_last-part.ensures.items in
    ap (λ (s : State). record s { stack = reverse c.take.new.stack.items; kept = reverse c.push_reserved.new.self.items }) c.in-Err.ensures.err
    ∙ ap (λ (x : List ℤ). record (state_of m cells) { stack = x; kept = reverse c.push_reserved.new.self.items }) st
    ∙ ap (λ (x : List ℤ). record (state_of m cells) { kept = reverse x }) kept

pub returns-in-Ok-clause-stays : goal.returns-in-Ok-clause-stays
returns-in-Ok-clause-stays g c = c.enter.ensures.stays

pub returns-in-Err-clause-stays : goal.returns-in-Err-clause-stays
returns-in-Err-clause-stays g c = c.enter.ensures.stays

pub returns-in_err-reserve-clause-err : goal.returns-in_err-reserve-clause-err
returns-in_err-reserve-clause-err g c = on_err c.from_residual.result _ (ap (λ (xs : List ℤ). record (state_of c.args.m.now (g.C.Cells.cells c.args.view.now)) { stack = reverse xs }) c.reserve.ensures.items)

pub returns-in_err-reserve-clause-room : goal.returns-in_err-reserve-clause-room
returns-in_err-reserve-clause-room g c = omega (arith, c.reserve.ensures.capacity)

pub returns-in-Ok-clause-room : goal.returns-in-Ok-clause-room
returns-in-Ok-clause-room g c = omega (arith, c.enter.ensures.room, c.put.ensures.room, c.reserve.ensures.capacity)

pub returns-in-Err-clause-room : goal.returns-in-Err-clause-room
returns-in-Err-clause-room g c = omega (arith, c.enter.ensures.room, c.put.ensures.room, c.take.ensures.room, c.reserve.ensures.capacity)

pub returns-in-Ok-clause-fits : goal.returns-in-Ok-clause-fits
returns-in-Ok-clause-fits g c = c.in-Ok.ensures.fits

pub returns-in-Ok-clause-near : goal.returns-in-Ok-clause-near
returns-in-Ok-clause-near g c = c.in-Ok.ensures.near
