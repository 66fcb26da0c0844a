-- Programs written by hand, and what their stored runs come to.
use Rattle.std.specs.Prelude.{◌≡◌, ℕ, ℤ, pos, negsuc, List, [], ◌∷◌, replicate, Option, Some, None, Err, true, false}
use Rattle.ada_base.specs.declared.operation.Op.TheVariants as op
use Rattle.ada_base.specs.declared.reason.Reason.TheVariants as reason
use Rattle.typed_tree.specs.declared.expressions.Root.TheVariants as root
use Rattle.typed_tree.specs.declared.expressions.Reducer.TheVariants as reducer
use Rattle.ada_base.specs.declared.operation.Comparison.TheVariants as comparison
use Rattle.typed_tree.specs.Syntax as syntax
use Rattle.typed_tree.specs.Syntax.{Expr, Selections, Index, Present, Relation, Exit, Parameter, Binary, Variable, Reduction, Absent, Whole, Components, NoChunk, NoPiece, Text, NoDecl, DeclareVariable, Stmt, Assign, ParallelFor, Put, End, Then, Raise, Program}
use Rattle.ada_base.specs.Cuts.{Plan, One, Even, Chunked}
use Rattle.ada_base.specs.Input.{Nothing}
use Rattle.behaviours.specs.Joins.{Share, Site}
use Rattle.ada_meaning.specs.Deeds.{PutOut}
use Rattle.ada_meaning.specs.Law.{Outcome, Ended, Raised, TurnsSpent, NoMemory, Ending, WriteFault}
use Rattle.ada_meaning.specs.Rows as rows
use Rattle.ada_meaning.specs.Rows.{integers, integer, number, sum, put_image, object_of, made_of, upto, array_of, filled_with, indexed, component, adds, reduced, dealt, find, gets, keeps, leaves, passes, raises, spends}
use Rattle.ada_base.specs.Notes.{ThreadNote, Whole, NotBegun, CutAfter, ConstructNote, Schedule, InOrder, ByNotes}
use Rattle.ada_meaning.specs.Stored.{State, Kept, Touch, Thread, Visit, ThreadOf, TeamOf, no_slot, Computes, answered, noted, noted_outset, Fails, InputFault, OutputFault, stored, outset, outcome_of, comes_to}

abbrev comes : Program → Plan → ℕ → List ℕ → Outcome
comes program plan limit input = comes_to program (record { plan = plan; one = true; limit = limit }) 12 input

abbrev pub StoredRows : Type 0
StoredRows =
    (comes adds One 1000 [] ≡ record { output = 32 ∷ 53 ∷ 10 ∷ []; taken = 0; finals = (pos 5 ∷ []) ∷ []; ending = Ended })
    × (comes (reduced op.Sub (pos 0)) One 1000 [] ≡ record { output = 45 ∷ 49 ∷ 48 ∷ 10 ∷ []; taken = 0; finals = []; ending = Ended })
    × (comes (reduced op.Sub (pos 0)) (Even 2) 1000 [] ≡ record { output = 32 ∷ 52 ∷ 10 ∷ []; taken = 0; finals = []; ending = Ended })
    × (comes dealt (Even 8) 1000 [] ≡ record { output = []; taken = 0; finals = (pos 10 ∷ pos 18 ∷ pos 27 ∷ []) ∷ []; ending = Ended })
    × (comes find (Chunked 1) 1000 [] ≡ record { output = 32 ∷ 49 ∷ 10 ∷ []; taken = 0; finals = (pos 9 ∷ pos 1 ∷ pos 9 ∷ pos 1 ∷ []) ∷ []; ending = Ended })
    × (comes gets One 1000 (55 ∷ []) ≡ record { output = []; taken = 1; finals = (pos 7 ∷ []) ∷ []; ending = Raised reason.EndError })
    × (comes keeps (Even 2) 1000 [] ≡ record { output = 32 ∷ 51 ∷ 52 ∷ 10 ∷ []; taken = 0; finals = []; ending = Ended })
    × (comes leaves (Chunked 1) 1000 [] ≡ record { output = []; taken = 0; finals = (pos 1 ∷ pos 2 ∷ pos 0 ∷ pos 0 ∷ []) ∷ []; ending = Ended })
    × (comes passes One 1000 [] ≡ record { output = 32 ∷ 52 ∷ 48 ∷ 10 ∷ []; taken = 0; finals = (pos 3 ∷ []) ∷ (pos 5 ∷ pos 3 ∷ []) ∷ []; ending = Ended })
    × (comes (spends (Then (Raise reason.ConstraintError) End)) One 100 [] ≡ record { output = []; taken = 0; finals = []; ending = Raised reason.ConstraintError })
    × (comes (spends End) One 100 [] ≡ record { output = []; taken = 0; finals = []; ending = TurnsSpent })

-- runs by notes: what they come to, and the notes that are left

abbrev run_of : Program → Plan → List ConstructNote → Outcome × Schedule
run_of program plan notes =
    let r = (noted program (record { plan = plan; one = false; limit = 1000 })).does (noted_outset 12 [] [] (ByNotes notes)) in
    (outcome_of program [] (answered r.end) r.state, r.state.notes)

-- a loop over four numbers whose exit the third one takes
abbrev by_notes : Plan → List ConstructNote → Outcome × Schedule
by_notes = run_of leaves

abbrev left_by : ℕ → List ThreadNote → List ConstructNote
left_by chosen threads = record { chosen = Some chosen; threads = threads } ∷ []

abbrev ended_with : List ℤ → Ending → Outcome × Schedule
ended_with cells ending = (record { output = []; taken = 0; finals = cells ∷ []; ending = ending }, ByNotes [])

abbrev pub NotedRows : Type 0
NotedRows =
    -- the others as they like
    (by_notes (Chunked 1) (left_by 2 (Whole ∷ NotBegun ∷ Whole ∷ Whole ∷ [])) ≡ ended_with (pos 1 ∷ pos 0 ∷ pos 0 ∷ pos 4 ∷ []) Ended)
    × (by_notes (Chunked 1) (left_by 2 (CutAfter 0 ∷ Whole ∷ Whole ∷ CutAfter 0 ∷ [])) ≡ ended_with (pos 0 ∷ pos 2 ∷ pos 0 ∷ pos 0 ∷ []) Ended)
    × (by_notes (Even 2) (left_by 1 (CutAfter 1 ∷ Whole ∷ [])) ≡ ended_with (pos 1 ∷ pos 0 ∷ pos 0 ∷ pos 0 ∷ []) Ended)
    -- notes that don't fit: that thread isn't left; there is no such thread; it has no look more; a note is missing; none is left
    × (by_notes (Chunked 1) (left_by 1 (Whole ∷ Whole ∷ Whole ∷ Whole ∷ [])) ≡ ended_with (pos 1 ∷ pos 2 ∷ pos 0 ∷ pos 0 ∷ []) NoMemory)
    × (by_notes (Chunked 1) (left_by 4 (Whole ∷ Whole ∷ Whole ∷ Whole ∷ [])) ≡ ended_with (pos 1 ∷ pos 2 ∷ pos 0 ∷ pos 4 ∷ []) NoMemory)
    × (by_notes (Chunked 1) (left_by 2 (CutAfter 1 ∷ Whole ∷ Whole ∷ Whole ∷ [])) ≡ ended_with (pos 1 ∷ pos 0 ∷ pos 0 ∷ pos 0 ∷ []) NoMemory)
    × (by_notes (Chunked 1) (left_by 2 (Whole ∷ Whole ∷ Whole ∷ [])) ≡ ended_with (pos 1 ∷ pos 2 ∷ pos 0 ∷ pos 0 ∷ []) NoMemory)
    × (by_notes (Chunked 1) (record { chosen = None; threads = [] } ∷ []) ≡ ended_with (pos 1 ∷ pos 2 ∷ pos 0 ∷ pos 0 ∷ []) NoMemory)
    × (by_notes (Chunked 1) [] ≡ ended_with (pos 0 ∷ pos 0 ∷ pos 0 ∷ pos 0 ∷ []) NoMemory)

-- constructs that two threads leave: the one that is chosen decides, whatever the other does

abbrev puts_all : List ℕ → List (List ℤ) → Ending → Outcome × Schedule
puts_all output finals ending = (record { output = output; taken = 0; finals = finals; ending = ending }, ByNotes [])

abbrev found : List ℕ → Ending → Outcome × Schedule
found output ending = puts_all output ((pos 9 ∷ pos 1 ∷ pos 9 ∷ pos 1 ∷ []) ∷ []) ending

abbrev pub ChosenRows : Type 0
ChosenRows =
    -- a search that the first and the third thread end, each by a return with its own place
    (run_of find (Chunked 1) (left_by 0 (Whole ∷ NotBegun ∷ NotBegun ∷ NotBegun ∷ [])) ≡ found (32 ∷ 49 ∷ 10 ∷ []) Ended)
    × (run_of find (Chunked 1) (left_by 0 (Whole ∷ Whole ∷ Whole ∷ CutAfter 0 ∷ [])) ≡ found (32 ∷ 49 ∷ 10 ∷ []) Ended)
    × (run_of find (Chunked 1) (left_by 2 (Whole ∷ NotBegun ∷ Whole ∷ Whole ∷ [])) ≡ found (32 ∷ 51 ∷ 10 ∷ []) Ended)
    × (run_of find (Chunked 1) (left_by 2 (CutAfter 0 ∷ Whole ∷ Whole ∷ NotBegun ∷ [])) ≡ found (32 ∷ 51 ∷ 10 ∷ []) Ended)
    -- the second and the fourth end none
    × (run_of find (Chunked 1) (left_by 1 (Whole ∷ Whole ∷ Whole ∷ Whole ∷ [])) ≡ found [] NoMemory)
    × (run_of find (Chunked 1) (left_by 3 (Whole ∷ Whole ∷ Whole ∷ Whole ∷ [])) ≡ found [] NoMemory)
    -- two arms that raise, of which a handler takes the first one's exception
    × (run_of raises One (left_by 0 (Whole ∷ NotBegun ∷ [])) ≡ puts_all (111 ∷ 110 ∷ 101 ∷ 10 ∷ []) [] Ended)
    × (run_of raises One (left_by 0 (Whole ∷ Whole ∷ [])) ≡ puts_all (111 ∷ 110 ∷ 101 ∷ 10 ∷ []) [] Ended)
    × (run_of raises One (left_by 1 (NotBegun ∷ Whole ∷ [])) ≡ puts_all [] [] (Raised (reason.Declared 1)))
    × (run_of raises One (left_by 1 (Whole ∷ Whole ∷ [])) ≡ puts_all [] [] (Raised (reason.Declared 1)))

-- A : array (1 .. 2, 1 .. 2) of Integer := (others => (others => 0));
-- L : parallel for I in 1 .. 2 loop exit L when I = 2; parallel for J in 1 .. 2 loop A (I, J) := J; end loop; end loop L;

abbrev square : Selections
square = Index 0 (Parameter 0 0) (pos 1) (pos 2) 2 (Index 0 (Parameter 0 1) (pos 1) (pos 2) 1 Whole)

abbrev pub nests_and_leaves : Program
nests_and_leaves = made_of (syntax.Array (record { low = pos 1; high = pos 2 } ∷ record { low = pos 1; high = pos 2 } ∷ []) 0 ∷ []) (object_of 1 4 ∷ []) [] (DeclareVariable 0 (filled_with 4 (number (pos 0))) NoDecl)
    (Then (ParallelFor 7 0 NoChunk (upto 0 2) (Then (Exit 7 (Present (Relation integers comparison.Equal (Parameter 0 0) (number (pos 2)))))
    (Then (ParallelFor 0 1 NoChunk (upto 1 2) (Then (Assign 0 (root.Object 0) square (rows.stored (Parameter 0 1))) End)) End))) End)

abbrev cut_at : ℕ → List ConstructNote
cut_at looks = left_by 1 (CutAfter looks ∷ Whole ∷ [])

-- the first thread passes a look at its turn, one where the inner loop begins, and one at each turn of that: by the number
-- of looks it is cut before the inner loop, at its first turn, between its turns, or not at all, which doesn't fit
abbrev pub CutRows : Type 0
CutRows =
    (run_of nests_and_leaves (Chunked 1) (cut_at 1) ≡ ended_with (pos 0 ∷ pos 0 ∷ pos 0 ∷ pos 0 ∷ []) Ended)
    × (run_of nests_and_leaves (Chunked 1) (cut_at 2) ≡ ended_with (pos 0 ∷ pos 0 ∷ pos 0 ∷ pos 0 ∷ []) Ended)
    × (run_of nests_and_leaves (Chunked 1) (cut_at 3) ≡ ended_with (pos 1 ∷ pos 0 ∷ pos 0 ∷ pos 0 ∷ []) Ended)
    × (run_of nests_and_leaves (Chunked 1) (cut_at 4) ≡ ended_with (pos 1 ∷ pos 2 ∷ pos 0 ∷ pos 0 ∷ []) NoMemory)
    × (run_of nests_and_leaves (Chunked 1) (left_by 1 (Whole ∷ Whole ∷ [])) ≡ ended_with (pos 1 ∷ pos 2 ∷ pos 0 ∷ pos 0 ∷ []) Ended)

-- where a Get's first byte can't be read
abbrev pub at_fault : State
at_fault = record {
  cells = [];
  kept = negsuc 2147483647 ∷ [];
  here = replicate 4 no_slot;
  everywhere = replicate 4 no_slot;
  frame = 1;
  turns = 1;
  taken = 0;
  held = Nothing;
  input = 55 ∷ [];
  output = [];
  declared = record { object = 0; address = 0; cells = 1 } ∷ [];
  left = None;
  notes = InOrder;
  done = None;
}

abbrev pub FaultRow : Type 0
FaultRow = Computes (stored gets (record { plan = One; one = true; limit = 9 })) (outset 4 (55 ∷ []) []) (Err (Fails InputFault)) at_fault

-- Put_Line ("ab"); Put_Line ("cd"); behind "!", where the second piece fails after one byte

abbrev put_line : List ℕ → Stmt
put_line bytes = Put 0 0 (Text bytes NoPiece) true

abbrev pub lines : Program
lines = made_of [] [] [] NoDecl (Then (put_line (97 ∷ 98 ∷ [])) (Then (put_line (99 ∷ 100 ∷ [])) End))

-- a piece for each line
abbrev pub DeedsRow : Type 0
DeedsRow = (stored lines (record { plan = One; one = true; limit = 9 })).deeds (outset 4 [] []) ≡ PutOut (97 ∷ 98 ∷ 10 ∷ []) ∷ PutOut (99 ∷ 100 ∷ 10 ∷ []) ∷ []

abbrev pub at_write_fault : State
at_write_fault = record (outset 4 [] (33 ∷ [])) { output = 33 ∷ 97 ∷ 98 ∷ 10 ∷ 99 ∷ [] }

abbrev pub WriteFaultRow : Type 0
WriteFaultRow = Computes (stored lines (record { plan = One; one = true; limit = 9 })) (outset 4 [] (33 ∷ [])) (Err (Fails OutputFault)) at_write_fault
    × (outcome_of lines (33 ∷ []) (Err (Fails OutputFault)) at_write_fault ≡ record { output = 97 ∷ 98 ∷ 10 ∷ 99 ∷ []; taken = 0; finals = []; ending = WriteFault })

-- A : array (1 .. 1000) of Integer := (others => 0);
-- parallel for I in 1 .. 1000 loop A (I) := (A (I) * 3 + I + 1) mod 1000; end loop;
-- Put_Line (Integer'Image (A'Parallel_Reduce ("+", 0)));

abbrev item : Expr
item = component 0 1000 (Parameter 0 0)

abbrev operation : op.the_data → Expr → Expr → Expr
operation o e f = Binary 0 o integers e f

abbrev pub soaks : Program
soaks = made_of (array_of 1000 ∷ []) (object_of 1 1000 ∷ []) [] (DeclareVariable 0 (filled_with 1000 (number (pos 0))) NoDecl)
    (Then (ParallelFor 0 0 NoChunk (upto 0 1000) (Then (Assign 0 (root.Object 0) (indexed 1000 (Parameter 0 0))
    (rows.stored (operation op.Mod (sum (sum (operation op.Mul item (number (pos 3))) (Parameter 0 0)) (number (pos 1))) (number (pos 1000))))) End))
    (Then (put_image (Reduction 0 0 (reducer.Operator 0 op.Add integers) (number (pos 0)) (Some 1) NoChunk (Components 1 false 0 (root.Object 0) Whole 1000 1 1 Absent) (Variable 0 (root.Item 1) Whole integer))) End))

abbrev pub Soaks : Type 0
Soaks = (comes soaks (Even 8) 1000000 []).output ≡ 32 ∷ 52 ∷ 57 ∷ 57 ∷ 53 ∷ 48 ∷ 48 ∷ 10 ∷ []

-- the teams of that loop in order, by two chunks: the first thread writes the first two cells; the second is left at once.
-- Their iterations have the loop values 1 and 2, and 3 and 4

abbrev parameters : Site → (thread iteration : ℕ) → Option ℤ
parameters site j i = (site.now j i).loop

abbrev named_by : List Thread → List (Share × List Touch)
named_by [] = []
named_by (t ∷ ts) = (t.share, t.touches) ∷ named_by ts

abbrev teams_in : List Visit → List (List (Share × List Touch) × List (Option ℤ))
teams_in [] = []
teams_in (ThreadOf t ∷ vs) = teams_in vs
teams_in (TeamOf t ∷ vs) = (named_by t.threads, parameters t.site 0 0 ∷ parameters t.site 0 1 ∷ parameters t.site 1 2 ∷ parameters t.site 1 3 ∷ []) ∷ teams_in vs

abbrev wrote : ℕ → Touch
wrote a = record { place = Kept a; writes = true }

abbrev pub TeamsRow : Type 0
TeamsRow = teams_in ((noted leaves (record { plan = Even 2; one = true; limit = 1000 })).visits (outset 12 [] []))
    ≡ (
      ((record { number = 0; first = 0; size = 2 }, wrote 0 ∷ wrote 1 ∷ []) ∷ (record { number = 1; first = 2; size = 2 }, []) ∷ []),
      (Some (pos 1) ∷ Some (pos 2) ∷ Some (pos 3) ∷ Some (pos 4) ∷ []),
    )
    ∷ []
