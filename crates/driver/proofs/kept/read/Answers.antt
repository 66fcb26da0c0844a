use Rattle.std.proofs.Common.{rules, ℤ, sym, ap, ◌∙◌, arith, SFits, w64}
use Rattle.std.proofs.lemmas.Int.{to_z-of_z}
use Rattle.std.specs.Prelude.{slice_set}
use Rattle.driver.proofs.Reading.{next_read, next_there, nothing_over, read_all}
use Rattle.driver.proofs.kept.read.Goals as goal

pub loop-at-init : goal.loop-at-init
loop-at-init c = sym (nothing_over c.args.kept.now)

pub get-requires : goal.get-requires
get-requires c =
    let there = next_there c.args.kept.now c.loop-at.kept c.args.view.now.cells c.loop-at.at c.min-count.result c.len.result c.len-2.result c.len.ensures c.len-2.ensures.many c.min-count.ensures c.loop-at-test.true c.loop-at.invariant in
    let own = c.len-2.ensures.flat c.requires.main in
    c.requires.there c.loop-at.at (omega (arith, own)) there.1.1

pub set-requires : goal.set-requires
set-requires c =
    (next_there c.args.kept.now c.loop-at.kept c.args.view.now.cells c.loop-at.at c.min-count.result c.len.result c.len-2.result c.len.ensures c.len-2.ensures.many c.min-count.ensures c.loop-at-test.true c.loop-at.invariant).0

pub loop-at-preserved : goal.loop-at-preserved
loop-at-preserved c =
    let there = next_there c.args.kept.now c.loop-at.kept c.args.view.now.cells c.loop-at.at c.min-count.result c.len.result c.len-2.result c.len.ensures c.len-2.ensures.many c.min-count.ensures c.loop-at-test.true c.loop-at.invariant in
    let fits : SFits w64 c.get.result = search rules in
    next_read c.args.kept.now c.loop-at.kept c.set.new.self c.args.view.now.cells c.loop-at.at c.get.result there.1.0 there.1.1 c.loop-at.invariant c.get.ensures
    (c.set.ensures ∙ ap (λ (v : ℤ). slice_set c.loop-at.kept c.loop-at.at v) (to_z-of_z w64 c.get.result fits))

pub returns : goal.returns
returns c =
    c.loop-at.invariant ∙ read_all c.args.kept.now c.args.view.now.cells c.loop-at.at (omega (arith, c.len.ensures, c.len-2.ensures.many, c.min-count.ensures, c.loop-at.auto.at-end, c.loop-at-test.false))
