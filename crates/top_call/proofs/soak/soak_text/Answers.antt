use Rattle.std.proofs.Common.{◌≡◌, ◌∙◌, arith, string_bytes}
use Rattle.top_call.proofs.Soaking.{one_more, whole_text}
use Rattle.top_call.proofs.soak.soak_text.Goals as goal

pub loop-number-preserved : goal.loop-number-preserved
loop-number-preserved c = (
  c.in_ok-push_str.ensures.bytes ∙ one_more c.loop-number.number _ (string_bytes c.loop-number.text) c.as_str.result.now (omega arith) c.loop-number.invariant.0 (c.as_str.ensures.value ∙ c.in_ok-line.ensures),
  omega (arith, c.loop-number-test.true),
)

pub returns : goal.returns
returns c =
    let last : c.loop-number.number ≡ c.args.statements = omega (arith, c.loop-number.invariant.1, c.loop-number-test.false) in
    c.in_ok-push_str-2.ensures.bytes ∙ whole_text c.args.statements c.loop-number.number (string_bytes c.loop-number.text) last c.loop-number.invariant.0
