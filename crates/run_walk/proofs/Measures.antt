-- What the measures of the walk are made of. A call that may still be begun outweighs all that is done in another, a node all
-- that is done at smaller ones and the steps at it: numbers of nodes are below 2 ^ 32, and so are the calls.
use Rattle.std.specs.Prelude.{ℕ}

-- 2 ^ 80
abbrev pub per_call : ℕ
per_call = 1208925819614629174706176

-- 2 ^ 70: what goes on around the body of a call
abbrev pub per_stage : ℕ
per_stage = 1180591620717411303424

-- 2 ^ 40
abbrev pub per_node : ℕ
per_node = 1099511627776

-- 2 ^ 35: functions that go by one node call each other in this order
abbrev pub per_step : ℕ
per_step = 34359738368
