-- Code that is emitted, as it is put together: where it stands, it is a list of instructions; behind other code, it is
-- written from front to back.
use Rattle.std.specs.Prelude.{ℕ, ◌+◌, List, [], ◌∷◌, ◌++◌, length, Bool, cond, slice_set}
use Rattle.stack_code.specs.declared.instr.Instr.{Instr}
use Rattle.stack_code.specs.declared.instr.Instr.TheVariants.{Jump, JFalse}
use Rattle.lower_emission.specs.declared.types.Mark.{Mark}
use Rattle.lower_emission.specs.declared.types.Placed.{Placed}

-- heights are those of the operand stack before an instruction
pub data Emit : Type 0 where
  Nothing : Emit
  One : Mark → (height : ℕ) → Instr → Emit
  Seq : Emit → Emit → Emit
  -- the number on the stack says which; what either leaves the stack at
  Choose : Mark → (height after : ℕ) → Emit → Emit → Emit
  When : Mark → (height : ℕ) → Emit → Emit
  -- a loop whose test stands at its end, which begins at its body or at its test: the jump before it tells where the code
  -- goes that leaves it; and where a turn begins
  Looped : Mark → (height : ℕ) → Bool → (exit : ℕ → Emit) → (head : ℕ → Emit) → Emit
  -- a part with handlers, which stand behind it; the jump before it tells where they are
  Guarded : Mark → (handlers : Emit) → (body : ℕ → Emit) → Emit
  -- a part that is jumped over
  Aside : Mark → (height : ℕ) → Emit → Emit
  -- a part that names the place where it begins
  From : (here : ℕ → Emit) → Emit

abbrev pub placed : Mark → ℕ → Instr → Placed
placed m h i = record { instr = i; height = h; entry = m.entry; body = m.body; nest = m.nest; cells = m.cells; kind = m.kind }

-- ---- where it stands

abbrev pub listed : Emit → ℕ → List Placed
listed Nothing q = []
listed (One m h i) q = placed m h i ∷ []
listed (Seq a b) q = listed a q ++ listed b (q + length (listed a q))
listed (Choose m h k a b) q =
    let xs = listed a (q + 1) in
    let at = q + 1 + length xs in
    let bs = listed b (at + 1) in
    placed m (h + 1) (JFalse (at + 1)) ∷ (xs ++ (placed m k (Jump (at + 1 + length bs)) ∷ bs))
listed (When m h a) q =
    let xs = listed a (q + 1) in
    placed m (h + 1) (JFalse (q + 1 + length xs)) ∷ xs
listed (Looped m h at_body body test) q =
    let bs = listed (body (q + 1)) (q + 1 + 1) in
    let at = q + 1 + 1 + length bs in
    let ts = listed (test (q + 1 + 1)) at in
    placed m h (Jump (cond at_body (q + 1 + 1) at)) ∷ placed m h (Jump (at + length ts)) ∷ (bs ++ ts)
listed (Guarded m handlers body) q =
    let bs = listed (body (q + 1)) (q + 1 + 1) in
    let at = q + 1 + 1 + length bs in
    let hs = listed handlers (at + 1) in
    placed m 0 (Jump (q + 1 + 1)) ∷ placed m 1 (Jump (at + 1)) ∷ (bs ++ (placed m 0 (Jump (at + 1 + length hs)) ∷ hs))
listed (Aside m h a) q =
    let xs = listed a (q + 1) in
    placed m h (Jump (q + 1 + length xs)) ∷ xs
listed (From a) q = listed (a q) q

-- ---- behind other code

abbrev pub put : Mark → ℕ → Instr → List Placed → List Placed
put m h i c = c ++ placed m h i ∷ []

-- a jump is aimed
abbrev pub aimed_at : Mark → ℕ → ℕ → ℕ → List Placed → List Placed
aimed_at m h at to c = slice_set c at (placed m h (Jump to))

-- a jump is aimed at what comes next
abbrev pub aimed : Mark → ℕ → ℕ → List Placed → List Placed
aimed m h at c = slice_set c at (placed m h (Jump (length c)))

abbrev pub aimed_false : Mark → ℕ → ℕ → List Placed → List Placed
aimed_false m h at c = slice_set c at (placed m (h + 1) (JFalse (length c)))

-- a jump whose aim isn't known yet
abbrev pub gap : Mark → ℕ → List Placed → List Placed
gap m h c = put m h (Jump 0) c

abbrev pub written : Emit → List Placed → List Placed
written Nothing c = c
written (One m h i) c = put m h i c
written (Seq a b) c = written b (written a c)
written (Choose m h k a b) c =
    let after = written a (gap m h c) in
    aimed m k (length after) (written b (aimed_false m h (length c) (gap m h after)))
written (When m h a) c = aimed_false m h (length c) (written a (gap m h c))
written (Looped m h at_body body test) c =
    let start = gap m h (gap m h c) in
    let inside = written (body (length (gap m h c))) start in
    aimed m h (length (gap m h c)) (written (test (length start)) (aimed_at m h (length c) (cond at_body (length start) (length inside)) inside))
written (Guarded m handlers body) c =
    let start = gap m 1 (gap m 0 c) in
    let inside = written (body (length (gap m 0 c))) (aimed_at m 0 (length c) (length start) start) in
    aimed m 0 (length inside) (written handlers (aimed m 1 (length (gap m 0 c)) (gap m 0 inside)))
written (Aside m h a) c = aimed m h (length c) (written a (gap m h c))
written (From a) c = written (a (length c)) c
