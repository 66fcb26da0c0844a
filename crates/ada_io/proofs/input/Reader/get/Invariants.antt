use Rattle.std.proofs.Common.{◌≡◌, ◌≤◌, ◌-◌, ◌+◌, ℕ}
use Rattle.ada_io.specs.declared.input.Holding.{Holding}
use Rattle.ada_io.specs.declared.input.Holding.TheVariants.{Nothing, Symbol}
use Rattle.ada_io.proofs.Reaches.{Going, point}
use Rattle.ada_io.proofs.input.Reader.get.Given as goal

-- what is held needs no turn
abbrev left_of : Holding → ℕ
left_of Nothing = 0
left_of (Symbol s) = 1

abbrev pub invariant-loop-symbol : goal.invariant-loop-symbol
invariant-loop-symbol g l = (l.self-inside.held ≡ l.initial.self-inside.held) × Going (point (g.S.Source.state l.initial.source) l.initial.self-inside.log.bytes) (point (g.S.Source.state l.source) l.self-inside.log.bytes) l.initial.self-inside.held l.turns_left l.took l.came l.phase l.at × (l.came ≤ l.took)

abbrev pub decreases-loop-symbol : goal.decreases-loop-symbol
decreases-loop-symbol g l = l.turns_left - l.took + left_of l.at
