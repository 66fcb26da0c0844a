use Rattle.std.proofs.Common.{◌+◌, ◌*◌, length}
use Rattle.lower_leases.proofs.paths.+way.Given as goal

-- How many selectors there are, then the order in which functions that go by the same ones call each other.

abbrev pub decreases-way : goal.decreases-way
decreases-way l = 4 * length l.selectors.now

abbrev pub decreases-field : goal.decreases-field
decreases-field l = 4 * length l.rest.now + 3

abbrev pub decreases-index : goal.decreases-index
decreases-index l = 4 * length l.rest.now + 3

abbrev pub decreases-by_loop : goal.decreases-by_loop
decreases-by_loop l = 4 * length l.rest.now + 2

abbrev pub decreases-selected : goal.decreases-selected
decreases-selected l = 4 * length l.rest.now + 2

abbrev pub decreases-by_range : goal.decreases-by_range
decreases-by_range l = 4 * length l.rest.now + 1

abbrev pub decreases-by_item : goal.decreases-by_item
decreases-by_item l = 4 * length l.rest.now + 1

abbrev pub decreases-inside : goal.decreases-inside
decreases-inside l = 4 * length l.rest.now + 1

abbrev pub decreases-by_static : goal.decreases-by_static
decreases-by_static l = 4 * length l.rest.now + 2

abbrev pub decreases-by_chunk : goal.decreases-by_chunk
decreases-by_chunk l = 4 * length l.rest.now + 2

abbrev pub decreases-by_any : goal.decreases-by_any
decreases-by_any l = 4 * length l.rest.now + 2
