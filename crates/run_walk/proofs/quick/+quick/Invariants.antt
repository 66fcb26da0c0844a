use Rattle.std.proofs.Common.{◌+◌, ◌*◌}
use Rattle.typed_tree.specs.Decoded.{selections_at}
use Rattle.run_store.specs.Environment.{env_of}
use Rattle.run_parts.specs.Words.{nodes_of}
use Rattle.run_walk.specs.Quick.{SameAs, at_offset}
use Rattle.run_walk.specs.Walk.{select}
use Rattle.run_walk.proofs.quick.+quick.Given as goal

-- Levels first, then the order in which functions of one level call each other.

abbrev pub decreases-quick : goal.decreases-quick
decreases-quick g l = 8 * l.levels

abbrev pub decreases-quick_offset : goal.decreases-quick_offset
decreases-quick_offset g l = 8 * l.levels + 1

abbrev pub decreases-quick_operand : goal.decreases-quick_operand
decreases-quick_operand g l = 8 * l.levels + 1

abbrev pub decreases-quick_at_index : goal.decreases-quick_at_index
decreases-quick_at_index g l = 8 * l.levels + 1

abbrev pub decreases-quick_rest : goal.decreases-quick_rest
decreases-quick_rest g l = 8 * l.levels + 2

abbrev pub decreases-quick_places : goal.decreases-quick_places
decreases-quick_places g l = 8 * l.levels + 3

abbrev pub decreases-quick_selection : goal.decreases-quick_selection
decreases-quick_selection g l = 8 * l.levels + 2

abbrev pub decreases-quick_variable : goal.decreases-quick_variable
decreases-quick_variable g l = 8 * l.levels + 4

abbrev pub decreases-quick_constant : goal.decreases-quick_constant
decreases-quick_constant g l = 8 * l.levels + 4

abbrev pub decreases-quick_unary : goal.decreases-quick_unary
decreases-quick_unary g l = 8 * l.levels + 2

abbrev pub decreases-quick_operator : goal.decreases-quick_operator
decreases-quick_operator g l = 8 * l.levels + 2

abbrev pub decreases-quick_operators : goal.decreases-quick_operators
decreases-quick_operators g l = 8 * l.levels + 3

abbrev pub decreases-quick_relation : goal.decreases-quick_relation
decreases-quick_relation g l = 8 * l.levels + 2

abbrev pub decreases-quick_converted : goal.decreases-quick_converted
decreases-quick_converted g l = 8 * l.levels + 2

-- the selections that are left, from the place so far, do what the whole does
abbrev pub invariant-quick_places-loop-k : goal.invariant-quick_places-loop-k
invariant-quick_places-loop-k g l =
    SameAs g.P.Port.Tells (select l.work l.calls (selections_at (nodes_of l.work) l.id) (env_of l.env) (at_offset l.object l.offset))
    (select l.work l.calls (selections_at (nodes_of l.work) l.at) (env_of l.env) (at_offset l.object l.place)) l.store
