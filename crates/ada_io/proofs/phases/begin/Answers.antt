use Rattle.std.proofs.Common.{◌≡◌, ℕ, Option, is_some, Bool, true, false, not, ap, sym, ◌∙◌}
use Rattle.ada_io.proofs.Steps.{blank_asks, minus_asks, plus_asks, unsigned_takes}
use Rattle.ada_io.proofs.phases.begin.Goals as goal

some_of : (s : Option ℕ) (none : Bool) → is_some s ≡ not none → none ≡ false → is_some s ≡ true
some_of s none e f = e ∙ ap not f

pub returns-then-is_blank : goal.returns-then-is_blank
returns-then-is_blank c = blank_asks c.args.symbol (sym c.is_blank.ensures ∙ c.if-is_blank.true)

pub returns-then-is_byte : goal.returns-then-is_byte
returns-then-is_byte c = minus_asks c.args.symbol (sym c.is_blank.ensures ∙ c.if-is_blank.false) (sym c.is_byte.ensures ∙ c.if-is_byte.true)

pub returns-then-is_byte-2 : goal.returns-then-is_byte-2
returns-then-is_byte-2 c =
    plus_asks c.args.symbol (sym c.is_blank.ensures ∙ c.if-is_blank.false) (sym c.is_byte.ensures ∙ c.if-is_byte.false) (sym c.is_byte-else-is_byte.ensures ∙ c.if-is_byte-2.true)

pub returns-else-is_byte-2 : goal.returns-else-is_byte-2
returns-else-is_byte-2 c =
    unsigned_takes c.args.symbol c.need_digit.result (some_of c.args.symbol c.is_none.result c.is_none.ensures c.if-is_none.false) (sym c.is_blank.ensures ∙ c.if-is_blank.false) (sym c.is_byte.ensures ∙ c.if-is_byte.false) (sym c.is_byte-else-is_byte.ensures ∙ c.if-is_byte-2.false) c.need_digit.ensures
