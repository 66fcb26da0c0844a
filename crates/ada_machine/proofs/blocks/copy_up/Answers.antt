use Rattle.std.proofs.Common.{◌≡◌, ◌≤◌, ◌<◌, ◌+◌, ◌-◌, ℤ, pos, suc, Some, refl, sym, ap, ◌∙◌, subst, arith, inl, w64, to_z, of_z, SFits}
use Rattle.std.specs.Prelude.{◌⊎◌, IsSome}
use Rattle.std.proofs.lemmas.Int.{to_z-of_z}
use Rattle.ada_base.specs.Cells.{written}
use Rattle.stack_code.specs.Deeds.{Lacks, loads_all, stores_all}
use Rattle.ada_machine.specs.Played.{IsClear, plays}
use Rattle.ada_machine.proofs.Stretches.{copy_reads, copy_writes, copy_on, copy_plays}
use Rattle.ada_machine.proofs.Keeping.{stays_on}
use Rattle.ada_machine.proofs.blocks.copy_up.Goals as goal

pub loop-done-init : goal.loop-done-init
loop-done-init g c =
    let n : c.args.count ≡ c.args.count - 0 = omega arith in
    let a : c.args.source ≡ c.args.source + 0 = omega arith in
    let b : c.args.target ≡ c.args.target + 0 = omega arith in
    record {
      within = omega arith;
      stays = (refl, λ w. w, refl);
      clear = subst (λ k. IsClear (loads_all k (pos (c.args.source + 0)) (λ vs. stores_all vs (pos (c.args.target + 0)) Lacks)) (g.C.Cells.cells c.args.view.now)) n
          (subst (λ k. IsClear (loads_all c.args.count (pos k) (λ vs. stores_all vs (pos (c.args.target + 0)) Lacks)) (g.C.Cells.cells c.args.view.now)) a
          (subst (λ k. IsClear (loads_all c.args.count (pos c.args.source) (λ vs. stores_all vs (pos k) Lacks)) (g.C.Cells.cells c.args.view.now)) b c.requires.clear));
      left = λ d. ap (λ k. plays (loads_all c.args.count (pos c.args.source) (λ vs. stores_all vs (pos k) d)) (g.C.Cells.cells c.args.view.now)) b
          ∙ ap (λ k. plays (loads_all c.args.count (pos k) (λ vs. stores_all vs (pos (c.args.target + 0)) d)) (g.C.Cells.cells c.args.view.now)) a
          ∙ ap (λ k. plays (loads_all k (pos (c.args.source + 0)) (λ vs. stores_all vs (pos (c.args.target + 0)) d)) (g.C.Cells.cells c.args.view.now)) n;
    }

pub get-value-requires : goal.get-value-requires
get-value-requires g c = copy_reads (g.C.Cells.cells c.loop-done.view) (c.args.count - c.loop-done.done) (c.args.count - (c.loop-done.done + 1)) (c.args.source + c.loop-done.done) (c.args.target + c.loop-done.done) (omega arith) c.loop-done.invariant.clear

pub set-requires : goal.set-requires
set-requires g c =
    let fits : SFits w64 c.get-value.result = record { sfits = c.get-value.type_inv } in
    let z : to_z w64 (of_z w64 c.get-value.result) ≡ c.get-value.result = to_z-of_z w64 c.get-value.result fits in
    subst (λ (v : ℤ). IsSome (written (g.C.Cells.cells c.loop-done.view) (pos (c.args.target + c.loop-done.done)) v)) (sym z)
    (copy_writes (g.C.Cells.cells c.loop-done.view) (c.args.count - c.loop-done.done) (c.args.count - (c.loop-done.done + 1)) (c.args.source + c.loop-done.done) (c.args.target + c.loop-done.done) (omega arith) c.get-value.result c.loop-done.invariant.clear c.get-value.ensures)

pub loop-done-preserved : goal.loop-done-preserved
loop-done-preserved g c =
    let fits : SFits w64 c.get-value.result = record { sfits = c.get-value.type_inv } in
    let z : to_z w64 (of_z w64 c.get-value.result) ≡ c.get-value.result = to_z-of_z w64 c.get-value.result fits in
    let i = c.loop-done.invariant in
    let n : c.args.count - c.loop-done.done ≡ suc (c.args.count - (c.loop-done.done + 1)) = omega arith in
    let s : c.args.source + c.loop-done.done + 1 ≡ c.args.source + (c.loop-done.done + 1) = omega arith in
    let t : c.args.target + c.loop-done.done + 1 ≡ c.args.target + (c.loop-done.done + 1) = omega arith in
    let w : written (g.C.Cells.cells c.loop-done.view) (pos (c.args.target + c.loop-done.done)) c.get-value.result ≡ Some (g.C.Cells.cells c.set.new.self) =
    subst (λ (v : ℤ). written (g.C.Cells.cells c.loop-done.view) (pos (c.args.target + c.loop-done.done)) v ≡ Some (g.C.Cells.cells c.set.new.self)) z c.set.ensures.written in
    let l : (c.args.target + c.loop-done.done < c.args.source + c.loop-done.done + 1) ⊎ (c.args.source + c.loop-done.done + 1 + (c.args.count - (c.loop-done.done + 1)) ≤ c.args.target + c.loop-done.done) =
    inl (omega (arith, c.requires.below)) in
    record {
      within = omega arith;
      stays = stays_on (g.C.Cells.floor) (g.C.Cells.whole) (g.C.Cells.place) i.stays c.set.ensures.stays;
      clear = subst (λ k. IsClear (loads_all (c.args.count - (c.loop-done.done + 1)) (pos k) (λ vs. stores_all vs (pos (c.args.target + (c.loop-done.done + 1))) Lacks)) (g.C.Cells.cells c.set.new.self)) s
          (subst (λ k. IsClear (loads_all (c.args.count - (c.loop-done.done + 1)) (pos (c.args.source + c.loop-done.done + 1)) (λ vs. stores_all vs (pos k) Lacks)) (g.C.Cells.cells c.set.new.self)) t
          (copy_on (g.C.Cells.cells c.loop-done.view) (c.args.count - c.loop-done.done) (c.args.count - (c.loop-done.done + 1)) (c.args.source + c.loop-done.done) (c.args.target + c.loop-done.done) n (g.C.Cells.cells c.set.new.self) c.get-value.result i.clear c.get-value.ensures w l));
      left = λ d. i.left d ∙ copy_plays (g.C.Cells.cells c.loop-done.view) (c.args.count - c.loop-done.done) (c.args.count - (c.loop-done.done + 1)) (c.args.source + c.loop-done.done) (c.args.target + c.loop-done.done) n (g.C.Cells.cells c.set.new.self) c.get-value.result d c.get-value.ensures w l
          ∙ ap (λ k. plays (loads_all (c.args.count - (c.loop-done.done + 1)) (pos (c.args.source + c.loop-done.done + 1)) (λ vs. stores_all vs (pos k) d)) (g.C.Cells.cells c.set.new.self)) t
          ∙ ap (λ k. plays (loads_all (c.args.count - (c.loop-done.done + 1)) (pos k) (λ vs. stores_all vs (pos (c.args.target + (c.loop-done.done + 1))) d)) (g.C.Cells.cells c.set.new.self)) s;
    }

pub returns-clause-done : goal.returns-clause-done
returns-clause-done g c = λ d.
    let i = c.loop-done.invariant in
    let n : c.args.count - c.loop-done.done ≡ 0 = omega (arith, i.within) in
    i.left d ∙ ap (λ k. plays (loads_all k (pos (c.args.source + c.loop-done.done)) (λ vs. stores_all vs (pos (c.args.target + c.loop-done.done)) d)) (g.C.Cells.cells c.loop-done.view)) n

pub returns-clause-stays : goal.returns-clause-stays
returns-clause-stays g c = c.loop-done.invariant.stays
