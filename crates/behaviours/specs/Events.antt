-- What a run does, one event after the other; where that is; and when two threads have a race.
use Rattle.std.specs.Prelude.{◌≡◌, ℕ, ℤ, List, [], ◌∷◌, ◌++◌, Option, ◌⊎◌}
use Rattle.ada_base.specs.Input.{Held}

-- an action at a cell of an instance, at what is held of the input, at the input (its byte of a number, or its end) or
-- the output; or a look for a cancel.
-- Instances may be named by anything else that tells them apart.
pub data Event (P : Type 0) : Type 0 where
  Reads : (instance : P) (offset : ℕ) (value : ℤ) → Event P
  Writes : (instance : P) (offset : ℕ) (value : ℤ) → Event P
  Recalls : Held → Event P
  Keeps : Held → Event P
  Takes : (number : ℕ) (byte : Option ℕ) → Event P
  Puts : List ℕ → Event P
  Looks : Event P

abbrev pub Trace : Type 0 → Type 0
Trace P = List (Event P)

-- where an action is: a cell of an instance, what is held of the input, or a byte of the input, which is never written
pub data Location (P : Type 0) : Type 0 where
  Cell : (instance : P) (offset : ℕ) → Location P
  Rest : Location P
  Byte : (number : ℕ) → Location P

module _ {P : Type 0} where
  -- output of a trace

  abbrev pub output_of : Trace P → List ℕ
  output_of [] = []
  output_of (Puts piece ∷ tr) = piece ++ output_of tr
  output_of (e ∷ tr) = output_of tr

  -- shared places

  -- the event is at this place; it writes there
  abbrev pub IsAt : Event P → Location P → Type 0
  IsAt (Reads x i v) y = Cell x i ≡ y
  IsAt (Writes x i v) y = Cell x i ≡ y
  IsAt (Recalls h) y = Rest ≡ y
  IsAt (Keeps h) y = Rest ≡ y
  IsAt (Takes n b) y = Byte n ≡ y
  IsAt _ y = ⊥

  abbrev pub WritesAt : Event P → Location P → Type 0
  WritesAt (Writes x i v) y = Cell x i ≡ y
  WritesAt (Keeps h) y = Rest ≡ y
  WritesAt _ y = ⊥

  -- the event is an action on the input, the output or what is held of the input
  abbrev pub IsInputOutput : Event P → Type 0
  IsInputOutput (Recalls h) = Unit {0}
  IsInputOutput (Keeps h) = Unit {0}
  IsInputOutput (Takes n b) = Unit {0}
  IsInputOutput (Puts piece) = Unit {0}
  IsInputOutput _ = ⊥

  -- some event of the trace is such
  abbrev pub Has : (Event P → Type 0) → Trace P → Type 0
  Has such [] = ⊥
  Has such (e ∷ tr) = such e ⊎ Has such tr

  abbrev pub Touches : Trace P → Location P → Type 0
  Touches tr y = Has (λ e. IsAt e y) tr

  abbrev pub WritesTo : Trace P → Location P → Type 0
  WritesTo tr y = Has (λ e. WritesAt e y) tr

  -- no place where one of two traces writes and the other reads or writes
  pub record Apart (t u : Trace P) : Type 0 where
    pub forth : (y : Location P) → WritesTo t y → Touches u y → ⊥
    pub back : (y : Location P) → Touches t y → WritesTo u y → ⊥

  abbrev pub ApartFrom : Trace P → List (Trace P) → Type 0
  ApartFrom t [] = Unit {0}
  ApartFrom t (u ∷ us) = Apart t u × ApartFrom t us

  abbrev pub AllApart : List (Trace P) → Type 0
  AllApart [] = Unit {0}
  AllApart (t ∷ ts) = ApartFrom t ts × AllApart ts

  -- shuffles

  -- a trace that has the events of two, each in its order
  abbrev pub Merge : Trace P → Trace P → Trace P → Type 0
  Merge t u [] = (t ≡ []) × (u ≡ [])
  Merge t u (e ∷ w) = ((rest : Trace P) × (t ≡ e ∷ rest) × Merge rest u w) ⊎ ((rest : Trace P) × (u ≡ e ∷ rest) × Merge t rest w)

  -- a trace that has the events of each of these, each in its order
  abbrev pub Shuffle : List (Trace P) → Trace P → Type 0
  Shuffle [] w = w ≡ []
  Shuffle (t ∷ ts) w = (u : Trace P) × Shuffle ts u × Merge t u w

  abbrev pub in_order : List (Trace P) → Trace P
  in_order [] = []
  in_order (t ∷ ts) = t ++ in_order ts
