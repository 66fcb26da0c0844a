-- Memory, and the traces that are consistent with it.
use Rattle.std.specs.Prelude.{◌≡◌, ℕ, suc, ℤ, pos, nat_eq, List, [], ◌∷◌, Option, ◌⊎◌, ◌&&◌, cond}
use Rattle.ada_base.specs.Input.{Held, Nothing}
use Rattle.behaviours.specs.Paths.{Instance, instance_eq}
use Rattle.behaviours.specs.Events.{Event, Reads, Writes, Recalls, Keeps, Takes, Trace, AllApart, Shuffle, in_order}

-- the values of cells, what is held of the input, and the input: each byte by its number, and then the end
pub record Memory : Type 0 where
  pub cells : Instance → ℕ → ℤ
  pub held : Held
  pub input : ℕ → Option ℕ

abbrev pub empty : (ℕ → Option ℕ) → Memory
empty input = record { cells = λ x i. pos 0; held = Nothing; input = input }

-- a memory in which a cell has got a value
abbrev pub put : Memory → Instance → ℕ → ℤ → Memory
put m x i v = record m { cells = λ y j. cond (nat_eq i j && instance_eq x y) v (m.cells y j) }

abbrev pub hold : Memory → Held → Memory
hold m h = record m { held = h }

abbrev pub put_all : Memory → Instance → ℕ → List ℤ → Memory
put_all m x i [] = m
put_all m x i (v ∷ vs) = put_all (put m x i v) x (suc i) vs

-- memory after an event
abbrev pub step : Memory → Event Instance → Memory
step m (Writes x i v) = put m x i v
step m (Keeps h) = hold m h
step m _ = m

-- what is read is what the memory has
abbrev pub IsRight : Memory → Event Instance → Type 0
IsRight m (Reads x i v) = v ≡ m.cells x i
IsRight m (Recalls h) = h ≡ m.held
IsRight m (Takes n b) = b ≡ m.input n
IsRight m _ = Unit {0}

abbrev pub after : Memory → Trace Instance → Memory
after m [] = m
after m (e ∷ tr) = after (step m e) tr

-- each read gives what the last write before it left there, or what the memory had
abbrev pub Fits : Memory → Trace Instance → Type 0
Fits m [] = Unit {0}
Fits m (e ∷ tr) = IsRight m e × Fits (step m e) tr

pub record IsConsistent (m : Memory) (tr : Trace Instance) (m' : Memory) : Type 0 where
  pub fits : Fits m tr
  pub after : m' ≡ after m tr

-- each of the traces is consistent by itself
abbrev pub EachFits : Memory → List (Trace Instance) → Type 0
EachFits m [] = Unit {0}
EachFits m (t ∷ ts) = Fits m t × EachFits m ts

-- Let no two of the traces share a place where one writes, and let some shuffle of them, or each alone, be consistent
-- from a memory. Then each alone and every shuffle is consistent from there, and all shuffles end in one memory.
abbrev pub ShuffleLaw : Type 0
ShuffleLaw = (ts : List (Trace Instance)) (m : Memory) → AllApart ts → ((w : Trace Instance) × Shuffle ts w × Fits m w) ⊎ EachFits m ts
    → EachFits m ts × ((w : Trace Instance) → Shuffle ts w → IsConsistent m w (after m (in_order ts)))
