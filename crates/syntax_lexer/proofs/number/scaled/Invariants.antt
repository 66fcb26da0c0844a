use Rattle.std.proofs.Common.{◌≡◌, ◌-◌, min}
use Rattle.syntax_lexer.specs.Reading.{times}
use Rattle.syntax_lexer.proofs.number.scaled.Given as goal

abbrev pub invariant-loop-turn : goal.invariant-loop-turn
invariant-loop-turn l = times l.base l.scaled (l._turn-end - l._turn) ≡ times l.base l.value (min l.exponent 128)
