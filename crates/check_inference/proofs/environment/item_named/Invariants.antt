use Rattle.std.proofs.Common.{◌≡◌, drop, map}
use Rattle.check_inference.specs.Paths.{bound_of, item_name}
use Rattle.check_inference.proofs.environment.item_named.Given as goal

abbrev pub invariant-loop-i : goal.invariant-loop-i
invariant-loop-i l = item_name (map bound_of (drop l.i l.items)) l.item ≡ item_name (map bound_of l.items) l.item
