use Rattle.std.proofs.Common.{◌≡◌, ◌-◌, [], ◌∷◌}
use Rattle.syntax_readers.specs.Example as kind
use Rattle.syntax_readers.specs.ExampleReaders.{ranges, also_range}
use Rattle.syntax_readers.specs.Loops.{turns}
use Rattle.syntax_readers.proofs.example.read_ranges.Given as goal

abbrev pub invariant-loop-turn : goal.invariant-loop-turn
invariant-loop-turn l = turns (l._turn-end - l._turn) (kind.comma ∷ []) (also_range l.levels) l.found l.tokens ≡ ranges l.fn.levels l.fn.tokens
