-- How what a thread came to is counted.
use Rattle.std.specs.Prelude.{◌≡◌, ℕ, ◌+◌, ◌-◌, ◌^◌, min, max, true, cond, Option, Some, None}
use Rattle.ada_lower.specs.Driven.{gathered}
use Rattle.ada_threads.specs.declared.tally.Tally.{Tally}
use Rattle.ada_threads.specs.declared.way.End.{End}
use Rattle.ada_threads.specs.declared.way.End.TheVariants as end
use Rattle.ada_threads.specs.declared.way.Ran.{Ran}
use Rattle.ada_threads.specs.declared.way.Way.{Way}
use Rattle.ada_threads.specs.declared.way.Way.TheVariants as way

-- the next thread, or no number holds it
abbrev pub Nexts : Tally → ℕ → Option End → Tally → Type 0
Nexts t n None u = u ≡ record t { number = t.number + 1; first = t.first + n }
Nexts t n (Some e) u = (e ≡ end.NoMemory) × (u ≡ t)

-- a thread that came to its own end without leaving
abbrev pub GoesOn : Way → Tally → Tally → Type 0
GoesOn (way.Done v) t u = (u.values ≡ gathered t.values v) × (u.over ≡ t.over)
GoesOn way.Spent t u = (u.values ≡ t.values) × (u.over ≡ true)
GoesOn (way.Left l) t u = ⊥
GoesOn way.Paused t u = ⊥
GoesOn way.NoMemory t u = ⊥

abbrev pub EndsBy : Way → End → Type 0
EndsBy (way.Left l) e = e ≡ end.Left l
EndsBy way.Paused e = e ≡ end.Paused
EndsBy (way.Done v) e = e ≡ end.NoMemory
EndsBy way.Spent e = e ≡ end.NoMemory
EndsBy way.NoMemory e = e ≡ end.NoMemory

abbrev pub counted : Tally → Ran → Tally → Type 0
counted t r u = (u.turns ≡ max t.turns r.turns) × (u.looks ≡ min (t.looks + r.looks) (2 ^ 64 - 1))

abbrev pub Adds : Tally → Ran → ℕ → Option End → Tally → Type 0
Adds t r n None u = counted t r u × (u.number ≡ t.number + 1) × (u.first ≡ t.first + n) × GoesOn r.way t u
Adds t r n (Some e) u = counted t r u × EndsBy r.way e

-- all came to their ends
abbrev pub end_of : Tally → End
end_of t = cond t.over end.Spent (end.Values t.values)
