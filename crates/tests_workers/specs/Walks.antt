-- What a walker does, step by step.
use Rattle.std.specs.Prelude.{◌≡◌, ℕ, zero, suc, ◌+◌, ◌-◌, cond, List, length, slice_get, get_or, set, Option, Some, None}
use lib.Dec.{ltb}
use Rattle.ada_base.specs.Cells.{Cell, Gone, Mine}
use Rattle.cell_memory.specs.Sight.{is_mine, is_gone, value_of}
use Rattle.ada_workers.specs.Paths.{Ending, AtEnd, Left, Spent, Cut, Stuck, Runs, Fine}
use Rattle.ada_workers.specs.Iterated.{Next, On, Ends, Steps, iterated}
use Rattle.ada_workers.specs.declared.path.Stop.{Stop}
use Rattle.ada_workers.specs.declared.path.Stop.TheVariants as stop
use Rattle.tests_workers.specs.declared.walker.Op.{Op}
use Rattle.tests_workers.specs.declared.walker.Op.TheVariants as op
use Rattle.tests_workers.specs.declared.walker.Walker.{Walker}

abbrev pub ends : Walker → List Cell → Ending → Next Walker
ends p cs e = Ends (record { path = p; cells = cs; end = e })

abbrev pub onward : Walker → Walker
onward p = record p { at = p.at + 1 }

abbrev pub turned : Walker → Walker
turned p = record p { at = p.at + 1; turns = p.turns + 1 }

abbrev pub turn : Walker → Option ℕ → List Cell → Next Walker
turn p n cs = cond (ltb p.turns p.limit) (On (turned p) n cs) (ends p cs Spent)

-- a look, and then a turn
abbrev pub look_turn : Walker → Option ℕ → List Cell → Next Walker
look_turn p None cs = turn p None cs
look_turn p (Some zero) cs = ends p cs Cut
look_turn p (Some (suc n)) cs = turn p (Some n) cs

abbrev pub write : Walker → Option ℕ → List Cell → ℕ → Cell → Next Walker
write p n cs a c = cond (is_mine (get_or cs a Gone)) (On (onward p) n (set cs a c)) (ends p cs Stuck)

abbrev pub at_op : Option Op → Steps Walker
at_op None p n cs = ends p cs AtEnd
at_op (Some (op.Put a v)) p n cs = write p n cs a (Mine v)
at_op (Some (op.Copy a b)) p n cs = cond (is_gone (get_or cs a Gone)) (ends p cs Stuck) (write p n cs b (Mine (value_of (get_or cs a Gone))))
at_op (Some op.Turn) p n cs = look_turn p n cs
at_op (Some op.Leave) p n cs = ends p cs Left

abbrev pub step : Steps Walker
step p n cs = at_op (slice_get p.ops.items p.at) p n cs

abbrev pub fuel : Walker → ℕ
fuel p = suc (length p.ops.items - p.at)

abbrev pub walk : Runs Walker
walk p n cs = iterated step (fuel p) p n cs

-- the step isn't stuck
abbrev pub Goes : Next Walker → Type 0
Goes (On q m ds) = Unit {0}
Goes (Ends o) = Fine o.end

-- so many looks more, where looks have a bound
abbrev pub plus : ℕ → Option ℕ → Option ℕ
plus k None = None
plus k (Some n) = Some (k + n)

-- what the code of a step did; each turn is a look
abbrev pub Stepped : Walker → List Cell → Option Stop → Walker → List Cell → Type 0
Stepped p cs None q ds = (k : ℕ) × (q.turns ≡ p.turns + k) × ((b : Option ℕ) → step p (plus k b) cs ≡ On q b ds)
Stepped p cs (Some stop.Ended) q ds = step p None cs ≡ Ends (record { path = q; cells = ds; end = AtEnd })
Stepped p cs (Some stop.Gone) q ds = step p None cs ≡ Ends (record { path = q; cells = ds; end = Left })
Stepped p cs (Some stop.Spent) q ds = step p None cs ≡ Ends (record { path = q; cells = ds; end = Spent })
Stepped p cs (Some (stop.Paused looks)) q ds = step p (Some 0) cs ≡ Ends (record { path = q; cells = ds; end = Cut })
Stepped p cs (Some stop.NoMemory) q ds = Unit {0}
