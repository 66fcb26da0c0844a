use Rattle.std.proofs.Common.{◌≡◌, ◌+◌, ◌*◌, ◌-◌, Some, rules, arith, refl, sym, ◌∙◌, ap, subst, pos, ◌+ℤ◌}
use Rattle.std.specs.Prelude.{min, ◌⊎◌}
use Rattle.std.proofs.lemmas.Int.{to_z-of_z}
use Rattle.std.specs.Int.{int_max}
use mir.Syntax.{w128}
use mir.Val.{SFits}
use Rattle.stack_code.specs.declared.code.Step.TheVariants as step
use Rattle.ada_threads.specs.declared.combs.Comb.{Comb}
use Rattle.ada_threads.specs.Reaching.{GoesOn}
use Rattle.ada_threads.proofs.Stepping.{some_on, looped_some, one_none}
use Rattle.ada_threads.proofs.combs.by_loop.Goals as goal

pub returns : goal.returns
returns c chunk =
    let b : Comb = c.args.comb in
    let fits : SFits w128 c.max-value.result = search rules in
    let v = c.max-value.result in
    let b_fits : SFits w128 b.value = search rules in
    let b_is = to_z-of_z w128 b.value b_fits in
    let low_is = to_z-of_z w128 c.args.low c.ranges.low in
    let v_is = to_z-of_z w128 v fits in
    let skip = c.distance-skipped.ensures in
    let place = c.distance-place.ensures in
    let n = skip.0 in
    let m = place.0 in
    let skip_is : c.distance-skipped.result ≡ n = omega (arith, skip.2) in
    let place_is : c.distance-place.result ≡ m = omega (arith, place.2) in
    let far : v ≡ b.value +ℤ pos n = simp (b_is, v_is) at skip.1 in
    let there : v ≡ c.args.low +ℤ pos m = simp (low_is, v_is) at place.1 in
    let top : v ≡ int_max b.value c.args.low = simp (b_is, low_is) at c.max-value.ensures.value in
    let one : (n ≡ 0) ⊎ (m ≡ 0) = one_none b.value c.args.low v n m top far there in
    let at : c.in_ok-at.at ≡ b.at + n * b.stride + m * c.args.size =
    c.in_ok-at.ensures ∙ ap (λ k. k + c.distance-place.result * c.from-2.result) c.in_ok-near.ensures ∙ ap (λ s. b.at + c.distance-skipped.result * b.stride + c.distance-place.result * s) c.from-2.ensures
    ∙ ap (λ k. b.at + k * b.stride + c.distance-place.result * c.args.size) skip_is ∙ ap (λ k. b.at + n * b.stride + k * c.args.size) place_is in
    let many : c.min-count.result ≡ min (b.count - n) (c.args.count - m) = omega (arith, c.min-count.ensures, skip_is, place_is, c.from-4.ensures) in
    let stride : c.in-Some.stride ≡ b.stride + c.args.size = omega (arith, c.in-Some.ensures, c.from-3.ensures) in
    let d : Comb = record { value = v; count = c.min-count.result; at = c.in_ok-at.at; stride = c.in-Some.stride } in
    subst (λ w. GoesOn chunk (step.Loop c.args.low c.args.count c.args.size) b (Some (record d { value = w }))) (sym (to_z-of_z w128 v fits))
    (some_on chunk (step.Loop c.args.low c.args.count c.args.size) b d (looped_some chunk c.args.low c.args.count c.args.size b v n m far there one d refl many at stride))
