-- What the threads of small programs may write is granted, and that is lent to them, as it was worked out by hand beside their
-- code (in specs/ConstructRows.antt and specs/ThreadRows.antt of lower_emission).
use Rattle.std.specs.Prelude.{◌≡◌, ℕ, zero, suc, pos, List, [], ◌∷◌, Option, Some, None, true}
use Rattle.typed_tree.specs.Syntax.{Program}
use Rattle.stack_code.specs.declared.code.Lease.{Lease}
use Rattle.check_effects.specs.Conflicts.{EffectPath}
use Rattle.check_effects.specs.Effects.{At, Fixed, LoopIndex, ChunkIndex, Any}
use Rattle.ada_meaning.specs.Shapes.{Shape, Single, Record, Dimension, NoShape, AlsoShape}
use Rattle.lower_emission.specs.ConstructRows.{shares, shares_lent, parts, parts_lent}
use Rattle.lower_emission.specs.ThreadRows.{deals, deals_lent, marks, marks_lent, reaches, reaches_lent, nests, nests_lent}
use Rattle.ada_lower.specs.Leases.{Place, All, Loop, Way, way_of}
use Rattle.ada_lower.specs.Places.{all_leases}

-- the paths that are granted to the threads of each construct, each with the arm that writes it
abbrev Grants : Type 0
Grants = ℕ → List (ℕ × EffectPath)

-- parallel for I in 1 .. 2 loop A (I) := I; end loop; A (I) is granted
abbrev shares_grants : Grants
shares_grants site = (0, record { object = 0; selectors = LoopIndex (pos 0) ∷ [] }) ∷ []

abbrev pub Shares : Type 0
Shares = all_leases shares shares_grants ≡ shares_lent 0 ∷ []

-- parallel do X := 1; and Y := 2; end do; the first arm is granted X, the second Y
abbrev parts_grants : Grants
parts_grants site = (0, record { object = 0; selectors = [] }) ∷ (1, record { object = 1; selectors = [] }) ∷ []

abbrev pub Parts : Type 0
Parts = all_leases parts parts_grants ≡ parts_lent 0 ∷ []

-- parallel (C in 1 .. 2) for I in 1 .. 4 loop A (C) := I; end loop; A (C) is granted
abbrev deals_grants : Grants
deals_grants site = (0, record { object = 0; selectors = ChunkIndex (pos 0) ∷ [] }) ∷ []

abbrev pub Deals : Type 0
Deals = all_leases deals deals_grants ≡ deals_lent 0 ∷ []

-- parallel for E of A loop E := 1; end loop; E is granted
abbrev marks_grants : Grants
marks_grants site = (0, record { object = 0; selectors = LoopIndex (pos 0) ∷ [] }) ∷ []

abbrev pub Marks : Type 0
Marks = all_leases marks marks_grants ≡ marks_lent 0 ∷ []

-- declare Y : Integer := 0; begin parallel do Y := 1; and null; end do; end; the first arm is granted Y
abbrev reaches_grants : Grants
reaches_grants site = (0, record { object = 0; selectors = [] }) ∷ []

abbrev pub Reaches : Type 0
Reaches = all_leases reaches reaches_grants ≡ reaches_lent 0 ∷ []

-- parallel do Z := [parallel for K in 1 .. 2 => Y]'Reduce ("+", 0); and null; end do; the first arm is granted Z, the threads
-- of the reduction nothing
abbrev nests_grants : Grants
nests_grants zero = (0, record { object = 1; selectors = [] }) ∷ []
nests_grants (suc site) = []

abbrev pub Nests : Type 0
Nests = all_leases nests nests_grants ≡ nests_lent 0 ∷ nests_lent 1 ∷ []

-- ---- ways through M : array (1 .. 2, 1 .. 3) of T, with I the loop parameter and J any number

-- two rows of three of them
abbrev table : Shape → Shape
table t = Dimension (pos 1) (pos 2) (Dimension (pos 1) (pos 3) t)

-- record X, Y : Integer; end record
abbrev pair : Shape
pair = Record (AlsoShape Single (AlsoShape Single NoShape))

abbrev way : (base : ℕ) → List Place → (run : ℕ) → Option Way
way base places run = Some (record { base = base; places = places; run = run })

-- M (I, J): the row of I, whose three cells lie side by side
abbrev pub RowWay : Type 0
RowWay = way_of true None (table Single) (LoopIndex (pos 0) ∷ Any ∷ []) 0 ≡ way 0 (Loop (pos 1) 2 3 ∷ []) 3

-- M (J, I): of each of the two rows one cell
abbrev pub ColumnWay : Type 0
ColumnWay = way_of true None (table Single) (Any ∷ LoopIndex (pos 0) ∷ []) 0 ≡ way 0 (All 2 3 ∷ Loop (pos 1) 3 1 ∷ []) 1

-- M (J, K), with K any number too: all six cells
abbrev pub TableWay : Type 0
TableWay = way_of true None (table Single) (Any ∷ Any ∷ []) 0 ≡ way 0 [] 6

-- M (J, 2): of each of the two rows the second cell
abbrev pub SecondWay : Type 0
SecondWay = way_of true None (table Single) (Any ∷ Fixed (pos 2) ∷ []) 0 ≡ way 1 (All 2 3 ∷ []) 1

-- M (I, J), each of two cells: six cells side by side
abbrev pub PairWay : Type 0
PairWay = way_of true None (table pair) (LoopIndex (pos 0) ∷ Any ∷ []) 0 ≡ way 0 (Loop (pos 1) 2 6 ∷ []) 6

-- M (I, J).Y: the second cell of each pair
abbrev pub FieldWay : Type 0
FieldWay = way_of true None (table pair) (LoopIndex (pos 0) ∷ Any ∷ At 1 ∷ []) 0 ≡ way 1 (Loop (pos 1) 2 6 ∷ All 3 2 ∷ []) 1

abbrev pub WayRows : Type 0
WayRows = RowWay × ColumnWay × TableWay × SecondWay × PairWay × FieldWay

abbrev pub LeaseRows : Type 0
LeaseRows = Shares × Parts × Deals × Marks × Reaches × Nests × WayRows
