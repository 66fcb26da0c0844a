use Rattle.std.proofs.Common.{◌≡◌, ◌+◌, ◌*◌, [], ◌∷◌, ◌++◌, rules, arith, ◌∙◌, ap, subst}
use Rattle.std.proofs.lemmas.Int.{to_z-of_z}
use mir.Syntax.{w128}
use mir.Val.{SFits}
use Rattle.stack_code.specs.declared.code.Step.TheVariants as step
use Rattle.ada_threads.specs.declared.combs.Comb.{Comb}
use Rattle.ada_threads.specs.Reaching.{AddsTo}
use Rattle.ada_threads.proofs.Stepping.{places_on}
use Rattle.ada_threads.proofs.combs.add_places.Goals as goal

pub loop-place-preserved : goal.loop-place-preserved
loop-place-preserved c chunk =
    let fits : SFits w128 c.args.comb.value = search rules in
    let b : Comb = c.args.comb in
    places_on chunk c.args.size b c.loop-place.place c.args.combs.now c.loop-place.combs c.push.new.self c.in_ok-at.at (c.loop-place.invariant chunk) (c.in_ok-at.ensures ∙ ap (λ s. b.at + c.from.result * s) c.from-in-loop-place.ensures ∙ ap (λ k. b.at + k * c.args.size) c.from.ensures)
    (c.in_ok-push.ensures.ok ∙ ap (λ v. c.loop-place.combs ++ (let d : Comb = record { value = v; count = b.count; at = c.in_ok-at.at; stride = b.stride } in d) ∷ []) (to_z-of_z w128 b.value fits))

pub returns : goal.returns
returns c chunk =
    let e : c.loop-place.place ≡ c.args.count = omega arith in
    subst (λ n. AddsTo chunk (step.All n c.args.size) c.args.comb c.args.combs.now c.loop-place.combs) e (c.loop-place.invariant chunk)
