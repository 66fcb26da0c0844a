use Rattle.std.proofs.Common.{◌≡◌, ◌∙◌, false, arith, sym}
use Rattle.std.specs.Prelude.{◌==◌, get_or}
use Rattle.command_words.proofs.Numbers.{parsed}
use Rattle.command_words.proofs.values.written.Goals as goal

pub returns-in-Ok : goal.returns-in-Ok
returns-in-Ok c =
    let plain : (get_or c.args.text.now 0 0 == 43) ≡ false = sym (c.starts_with.ensures.byte (omega arith) (omega arith) (λ w o h. h)) ∙ c.if-starts_with.false in
    rw c.in-Ok.is at (parsed c.args.text.now c.parse.result (omega (arith, c.if-text-gt-MOST_DIGITS.false)) plain c.parse.ensures.value.0)

pub returns-in-Err : goal.returns-in-Err
returns-in-Err c =
    let plain : (get_or c.args.text.now 0 0 == 43) ≡ false = sym (c.starts_with.ensures.byte (omega arith) (omega arith) (λ w o h. h)) ∙ c.if-starts_with.false in
    rw c.in-Err.is at (parsed c.args.text.now c.parse.result (omega (arith, c.if-text-gt-MOST_DIGITS.false)) plain c.parse.ensures.value.0)
