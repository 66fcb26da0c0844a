use Rattle.std.proofs.Common.{◌≡◌, ◌+◌, ◌-◌, ℤ, pos, suc, replicate, refl, sym, ap, ◌∙◌, subst, arith, w64, to_z, of_z}
use Rattle.std.proofs.lemmas.Int.{to_z-of_z}
use Rattle.stack_code.specs.Deeds.{Lacks, stores_all}
use Rattle.ada_machine.specs.Played.{IsClear, plays}
use Rattle.ada_machine.proofs.Stretches.{fill_clear, fill_on, fill_plays}
use Rattle.ada_machine.proofs.Keeping.{stays_on}
use Rattle.ada_machine.proofs.blocks.fill_cells.Goals as goal

pub loop-done-init : goal.loop-done-init
loop-done-init g c =
    let z : to_z w64 (of_z w64 c.args.value) ≡ c.args.value = to_z-of_z w64 c.args.value c.ranges.value in
    let n : c.args.count ≡ c.args.count - 0 = omega arith in
    let a : c.args.start ≡ c.args.start + 0 = omega arith in
    record {
      within = omega arith;
      stays = (refl, λ w. w, refl);
      clear = subst (λ (v : ℤ). IsClear (stores_all (replicate (c.args.count - 0) v) (pos (c.args.start + 0)) Lacks) (g.C.Cells.cells c.args.view.now)) (sym z)
          (subst (λ k. IsClear (stores_all (replicate k c.args.value) (pos (c.args.start + 0)) Lacks) (g.C.Cells.cells c.args.view.now)) n (subst (λ k. IsClear (stores_all (replicate c.args.count c.args.value) (pos k) Lacks) (g.C.Cells.cells c.args.view.now)) a c.requires.clear));
      left = λ d. subst (λ (v : ℤ). plays (stores_all (replicate c.args.count v) (pos c.args.start) d) (g.C.Cells.cells c.args.view.now) ≡ plays (stores_all (replicate (c.args.count - 0) v) (pos (c.args.start + 0)) d) (g.C.Cells.cells c.args.view.now)) (sym z)
          (ap (λ k. plays (stores_all (replicate c.args.count c.args.value) (pos k) d) (g.C.Cells.cells c.args.view.now)) a ∙ ap (λ k. plays (stores_all (replicate k c.args.value) (pos (c.args.start + 0)) d) (g.C.Cells.cells c.args.view.now)) n);
    }

pub set-requires : goal.set-requires
set-requires g c = fill_clear (g.C.Cells.cells c.loop-done.view) (c.args.count - c.loop-done.done) (pos (c.args.start + c.loop-done.done)) (to_z w64 (of_z w64 c.args.value)) (omega arith) c.loop-done.invariant.clear

pub loop-done-preserved : goal.loop-done-preserved
loop-done-preserved g c =
    let v = to_z w64 (of_z w64 c.args.value) in
    let i = c.loop-done.invariant in
    let n : c.args.count - c.loop-done.done ≡ suc (c.args.count - (c.loop-done.done + 1)) = omega arith in
    let a : pos (c.args.start + c.loop-done.done + 1) ≡ pos (c.args.start + (c.loop-done.done + 1)) = ap pos (let w : c.args.start + c.loop-done.done + 1 ≡ c.args.start + (c.loop-done.done + 1) = omega arith in w) in
    record {
      within = omega arith;
      stays = stays_on (g.C.Cells.floor) (g.C.Cells.whole) (g.C.Cells.place) i.stays c.set.ensures.stays;
      clear = subst (λ y. IsClear (stores_all (replicate (c.args.count - (c.loop-done.done + 1)) v) y Lacks) (g.C.Cells.cells c.set.new.self)) a
          (fill_on (g.C.Cells.cells c.loop-done.view) (g.C.Cells.cells c.set.new.self) _ _ (pos (c.args.start + c.loop-done.done)) v n i.clear c.set.ensures.written);
      left = λ d. i.left d ∙ fill_plays (g.C.Cells.cells c.loop-done.view) (g.C.Cells.cells c.set.new.self) _ _ (pos (c.args.start + c.loop-done.done)) v d n c.set.ensures.written
          ∙ ap (λ y. plays (stores_all (replicate (c.args.count - (c.loop-done.done + 1)) v) y d) (g.C.Cells.cells c.set.new.self)) a;
    }

pub returns-clause-done : goal.returns-clause-done
returns-clause-done g c = λ d.
    let z : to_z w64 (of_z w64 c.args.value) ≡ c.args.value = to_z-of_z w64 c.args.value c.ranges.value in
    let i = c.loop-done.invariant in
    let n : c.args.count - c.loop-done.done ≡ 0 = omega (arith, i.within) in
    subst (λ (v : ℤ). plays (stores_all (replicate c.args.count v) (pos c.args.start) d) (g.C.Cells.cells c.args.view.now) ≡ plays d (g.C.Cells.cells c.loop-done.view)) z
    (i.left d ∙ ap (λ k. plays (stores_all (replicate k (to_z w64 (of_z w64 c.args.value))) (pos (c.args.start + c.loop-done.done)) d) (g.C.Cells.cells c.loop-done.view)) n)

pub returns-clause-stays : goal.returns-clause-stays
returns-clause-stays g c = c.loop-done.invariant.stays
