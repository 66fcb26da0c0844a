use Rattle.std.proofs.Common.{◌≡◌, ◌+◌, ◌-◌, ℤ, pos, suc, Some, refl, sym, ap, ◌∙◌, subst, arith, w64, to_z, of_z, SFits}
use Rattle.std.specs.Prelude.{IsSome}
use Rattle.std.proofs.lemmas.Int.{to_z-of_z}
use Rattle.ada_base.specs.Cells.{written}
use Rattle.stack_code.specs.Deeds.{Lacks, loads_all, stores_all}
use Rattle.ada_machine.specs.Played.{IsClear, plays}
use Rattle.ada_machine.proofs.Descents.{down_reads, down_writes, down_on, down_plays}
use Rattle.ada_machine.proofs.Keeping.{stays_on}
use Rattle.ada_machine.proofs.blocks.copy_down.Goals as goal

pub loop-left-init : goal.loop-left-init
loop-left-init g c = record { within = omega arith; stays = (refl, λ w. w, refl); clear = c.requires.clear; rest = λ d. refl }

pub get-value-requires : goal.get-value-requires
get-value-requires g c =
    let cells = g.C.Cells.cells c.loop-left.view in
    let n : c.loop-left.left ≡ suc (c.loop-left.left - 1) = omega arith in
    down_reads cells (c.loop-left.left - 1) c.args.source c.args.target (subst (λ k. IsClear (loads_all k (pos c.args.source) (λ vs. stores_all vs (pos c.args.target) Lacks)) cells) n c.loop-left.invariant.clear)

pub set-requires : goal.set-requires
set-requires g c =
    let cells = g.C.Cells.cells c.loop-left.view in
    let fits : SFits w64 c.get-value.result = record { sfits = c.get-value.type_inv } in
    let z : to_z w64 (of_z w64 c.get-value.result) ≡ c.get-value.result = to_z-of_z w64 c.get-value.result fits in
    let n : c.loop-left.left ≡ suc (c.loop-left.left - 1) = omega arith in
    subst (λ (v : ℤ). IsSome (written cells (pos (c.args.target + (c.loop-left.left - 1))) v)) (sym z)
    (down_writes cells (c.loop-left.left - 1) c.args.source c.args.target (subst (λ k. IsClear (loads_all k (pos c.args.source) (λ vs. stores_all vs (pos c.args.target) Lacks)) cells) n c.loop-left.invariant.clear) c.get-value.result c.get-value.ensures)

pub loop-left-preserved : goal.loop-left-preserved
loop-left-preserved g c =
    let cells = g.C.Cells.cells c.loop-left.view in
    let cells' = g.C.Cells.cells c.set.new.self in
    let fits : SFits w64 c.get-value.result = record { sfits = c.get-value.type_inv } in
    let z : to_z w64 (of_z w64 c.get-value.result) ≡ c.get-value.result = to_z-of_z w64 c.get-value.result fits in
    let i = c.loop-left.invariant in
    let m = c.loop-left.left - 1 in
    let n : c.loop-left.left ≡ suc m = omega arith in
    let w : written cells (pos (c.args.target + m)) c.get-value.result ≡ Some cells' =
    subst (λ (v : ℤ). written cells (pos (c.args.target + m)) v ≡ Some cells') z c.set.ensures.written in
    record {
      within = omega (arith, i.within);
      stays = stays_on (g.C.Cells.floor) (g.C.Cells.whole) (g.C.Cells.place) i.stays c.set.ensures.stays;
      clear = down_on cells m c.args.source c.args.target cells' c.get-value.result c.get-value.ensures w c.requires.above
          (subst (λ k. IsClear (loads_all k (pos c.args.source) (λ vs. stores_all vs (pos c.args.target) Lacks)) cells) n i.clear);
      rest = λ d. i.rest d ∙ ap (λ k. plays (loads_all k (pos c.args.source) (λ vs. stores_all vs (pos c.args.target) d)) cells) n
          ∙ down_plays cells m c.args.source c.args.target cells' c.get-value.result c.get-value.ensures w c.requires.above d;
    }

pub returns-clause-done : goal.returns-clause-done
returns-clause-done g c = λ d.
    let n : c.loop-left.left ≡ 0 = omega arith in
    c.loop-left.invariant.rest d ∙ ap (λ k. plays (loads_all k (pos c.args.source) (λ vs. stores_all vs (pos c.args.target) d)) (g.C.Cells.cells c.loop-left.view)) n

pub returns-clause-stays : goal.returns-clause-stays
returns-clause-stays g c = c.loop-left.invariant.stays
