use Rattle.std.proofs.Common.{◌≡◌, ◌+◌, ◌*◌, ◌<◌, Some, rules, arith, sym, ◌∙◌, ap, subst, pos, ◌+ℤ◌}
use Rattle.std.proofs.lemmas.Int.{to_z-of_z}
use mir.Syntax.{w128}
use mir.Val.{SFits}
use Rattle.stack_code.specs.declared.code.Step.TheVariants as step
use Rattle.ada_threads.specs.declared.combs.Comb.{Comb}
use Rattle.ada_threads.specs.Reaching.{GoesOn}
use Rattle.ada_threads.proofs.Stepping.{some_on, chunk_some}
use Rattle.ada_threads.proofs.combs.by_chunk.Goals as goal

pub returns : goal.returns
returns c =
    let fits : SFits w128 c.args.comb.value = search rules in
    let b : Comb = c.args.comb in
    let chunk_is = to_z-of_z w128 c.args.chunk c.ranges.chunk in
    let low_is = to_z-of_z w128 c.args.low c.ranges.low in
    let apart = c.distance-place.ensures in
    let there : c.args.chunk ≡ c.args.low +ℤ pos apart.0 = simp (chunk_is, low_is) at apart.1 in
    let n = apart.0 in
    let is : c.distance-place.result ≡ n = omega (arith, apart.2) in
    let within : n < c.args.count = omega (arith, apart.2) in
    let at : c.in_ok-at.at ≡ b.at + n * c.args.size = c.in_ok-at.ensures ∙ ap (λ s. b.at + c.distance-place.result * s) c.from-2.ensures ∙ ap (λ m. b.at + m * c.args.size) is in
    subst (λ v. GoesOn c.args.chunk (step.Chunk c.args.low c.args.count c.args.size) b (Some (record { value = v; count = b.count; at = c.in_ok-at.at; stride = b.stride }))) (sym (to_z-of_z w128 b.value fits))
    (some_on c.args.chunk (step.Chunk c.args.low c.args.count c.args.size) b (record b { at = c.in_ok-at.at }) (chunk_some c.args.chunk c.args.low c.args.count c.args.size b n there within c.in_ok-at.at at))
