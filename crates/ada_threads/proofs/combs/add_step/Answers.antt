use Rattle.std.proofs.Common.{rules, sym, subst}
use Rattle.std.proofs.lemmas.Int.{to_z-of_z}
use mir.Syntax.{w128}
use mir.Val.{SFits, of_z, to_z}
use Rattle.stack_code.specs.declared.code.Step.TheVariants as step
use Rattle.ada_threads.specs.Reaching.{AddsTo, with_some}
use Rattle.ada_threads.proofs.Stepping.{ok_map}
use Rattle.ada_threads.proofs.combs.add_step.Goals as goal

pub returns-in-All : goal.returns-in-All
returns-in-All c = ok_map c.add_places.result _ _ (λ _ h. subst (λ s. AddsTo c.args.chunk s c.args.comb c.args.combs.now c.add_places.new.combs) (sym c.in-All.is) (h c.args.chunk)) c.add_places.ensures

pub returns-in_ok-more-in-Loop : goal.returns-in_ok-more-in-Loop
returns-in_ok-more-in-Loop c =
    let fits : SFits w128 c.in-Loop.low = search rules in
    ok_map c.add_some.result _ _ (λ _ h. subst (λ s. AddsTo c.args.chunk s c.args.comb c.args.combs.now c.add_some.new.combs) (sym c.in-Loop.is)
    (subst (λ l. AddsTo c.args.chunk (step.Loop c.in-Loop.low c.in-Loop.count c.in-Loop.size) c.args.comb c.args.combs.now l) (sym h) (subst (λ z. AddsTo c.args.chunk (step.Loop z c.in-Loop.count c.in-Loop.size) c.args.comb c.args.combs.now (with_some c.args.combs.now c.in_ok-more-in-Loop.more)) (to_z-of_z w128 c.in-Loop.low fits) (c.in_ok-more-in-Loop.ensures c.args.chunk c.args.combs.now)))) c.add_some.ensures

pub returns-in_ok-more-in-Chunk : goal.returns-in_ok-more-in-Chunk
returns-in_ok-more-in-Chunk c =
    let fits : SFits w128 c.in-Chunk.low = search rules in
    ok_map c.add_some-in-Chunk.result _ _ (λ _ h. subst (λ s. AddsTo c.args.chunk s c.args.comb c.args.combs.now c.add_some-in-Chunk.new.combs) (sym c.in-Chunk.is)
    (subst (λ l. AddsTo c.args.chunk (step.Chunk c.in-Chunk.low c.in-Chunk.count c.in-Chunk.size) c.args.comb c.args.combs.now l) (sym h) (subst (λ z. AddsTo z (step.Chunk c.in-Chunk.low c.in-Chunk.count c.in-Chunk.size) c.args.comb c.args.combs.now (with_some c.args.combs.now c.in_ok-more-in-Chunk.more)) (to_z-of_z w128 c.args.chunk c.ranges.chunk)
    (subst (λ z. AddsTo (to_z w128 (of_z w128 c.args.chunk)) (step.Chunk z c.in-Chunk.count c.in-Chunk.size) c.args.comb c.args.combs.now (with_some c.args.combs.now c.in_ok-more-in-Chunk.more)) (to_z-of_z w128 c.in-Chunk.low fits) (c.in_ok-more-in-Chunk.ensures c.args.combs.now))))) c.add_some-in-Chunk.ensures
