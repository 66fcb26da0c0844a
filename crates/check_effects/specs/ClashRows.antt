-- Programs written by hand, and the places at which they break the strict rule or have effects that clash.
use Rattle.std.specs.Prelude.{ℕ, pos, [], ◌∷◌, None, false}
use Rattle.typed_tree.specs.declared.expressions.Root.TheVariants as root
use Rattle.typed_tree.specs.Syntax as syntax
use Rattle.ada_base.specs.declared.operation.Op.TheVariants as op
use Rattle.typed_tree.specs.Syntax.{Expr, Variable, Parameter, Binary, Absent, Selections, Whole, Index, Range, NoChunk, NoDecl, DeclareVariable, Stmt, Assign, For, ParallelFor, Parallel, Stmts, End, Then, NoArm, Arm, Program}
use Rattle.ada_meaning.specs.Rows.{integers, integer, number, sum, stored, object_of, made_of, upto, array_of, filled_with, indexed}
use Rattle.check_effects.specs.Effects.{Construct, Holds}
use Rattle.check_effects.specs.Conflicts.{ClashPair, GlobalTouched, InProgram}

-- in some construct of the program
abbrev SomeClash : Program → (at other : ℕ) → Type 0
SomeClash program at other = (k : Construct) × InProgram program (Holds k) × ClashPair program k at other

abbrev SomeTouched : Program → (at object : ℕ) → Type 0
SomeTouched program at object = (k : Construct) × InProgram program (Holds k) × GlobalTouched program k at object

-- A : array (1 .. 3, 1 .. 3) of Integer := (others => (others => 0));
-- parallel for I in 1 .. 3 loop for J in 1 .. 3 loop A (I, J) := A (J, I); end loop; end loop;

abbrev both : Expr → Expr → Selections
both e f = Index 0 e (pos 1) (pos 3) 3 (Index 0 f (pos 1) (pos 3) 1 Whole)

abbrev pub transposes : Program
transposes = made_of (syntax.Array (record { low = pos 1; high = pos 3 } ∷ record { low = pos 1; high = pos 3 } ∷ []) 0 ∷ []) (object_of 1 9 ∷ []) [] (DeclareVariable 0 (filled_with 9 (number (pos 0))) NoDecl)
    (Then (ParallelFor 0 0 NoChunk (upto 0 3) (Then (For 1 (upto 1 3)
    (Then (Assign 52 (root.Object 0) (both (Parameter 0 0) (Parameter 0 1)) (stored (Variable 64 (root.Object 0) (both (Parameter 0 1) (Parameter 0 0)) integer))) End)) End)) End)

-- S : Integer := 0; A : array (1 .. 4) of Integer := (others => 1);
-- parallel for I in 1 .. 4 loop S := S + A (I); end loop;

abbrev pub adds_up : Program
adds_up = made_of (array_of 4 ∷ []) (object_of 0 1 ∷ object_of 1 4 ∷ []) [] (DeclareVariable 0 (stored (number (pos 0))) (DeclareVariable 1 (filled_with 4 (number (pos 1))) NoDecl))
    (Then (ParallelFor 0 0 NoChunk (upto 0 4)
    (Then (Assign 31 (root.Object 0) Whole (stored (sum (Variable 36 (root.Object 0) Whole integer) (Variable 40 (root.Object 1) (indexed 4 (Parameter 0 0)) integer)))) End)) End)

-- X, Y : Integer := 0; parallel do X := 1; and Y := 2; end do;

abbrev pub two_arms : Program
two_arms = made_of [] (object_of 0 1 ∷ object_of 0 1 ∷ []) [] (DeclareVariable 0 (stored (number (pos 0))) (DeclareVariable 1 (stored (number (pos 0))) NoDecl))
    (Then (Parallel 0 Absent (Arm (Then (Assign 13 (root.Object 0) Whole (stored (number (pos 1)))) End) (Arm (Then (Assign 25 (root.Object 1) Whole (stored (number (pos 2)))) End) NoArm))) End)

-- N : Integer := 3; parallel for I in 1 .. N loop null; end loop;

abbrev pub bounded : Program
bounded = made_of [] (object_of 0 1 ∷ []) [] (DeclareVariable 0 (stored (number (pos 3))) NoDecl)
    (Then (ParallelFor 0 0 NoChunk (Range 0 false (number (pos 1)) (Variable 24 (root.Object 0) Whole integer) None Absent) End) End)

-- A, B : array (1 .. 4) of Integer := (others => 0); parallel for I in 1 .. 4 loop A (I) := B (1); end loop;

abbrev pub copies : Program
copies = made_of (array_of 4 ∷ []) (object_of 1 4 ∷ object_of 1 4 ∷ []) [] (DeclareVariable 0 (filled_with 4 (number (pos 0))) (DeclareVariable 1 (filled_with 4 (number (pos 0))) NoDecl))
    (Then (ParallelFor 0 0 NoChunk (upto 0 4)
    (Then (Assign 31 (root.Object 0) (indexed 4 (Parameter 0 0)) (stored (Variable 40 (root.Object 1) (indexed 4 (number (pos 1))) integer))) End)) End)

-- A, B : array (1 .. 5) of Integer := (others => 0);

abbrev pub two_rows : Stmts → Program
two_rows = made_of (array_of 5 ∷ []) (object_of 1 5 ∷ object_of 1 5 ∷ []) [] (DeclareVariable 0 (filled_with 5 (number (pos 0))) (DeclareVariable 1 (filled_with 5 (number (pos 0))) NoDecl))

abbrev pub in_loop : Stmt → Stmts
in_loop s = Then (ParallelFor 0 0 NoChunk (upto 0 4) (Then s End)) End

-- X (I - n), X (I), X (I + n)

abbrev pub behind : ℕ → Selections
behind n = indexed 5 (Binary 0 op.Sub integers (Parameter 0 0) (number (pos n)))

abbrev pub here : Selections
here = indexed 5 (Parameter 0 0)

abbrev pub ahead : ℕ → Selections
ahead n = indexed 5 (sum (Parameter 0 0) (number (pos n)))

-- parallel for I in 1 .. 4 loop B (I + 1) := A (I); end loop;

abbrev pub shifts : Program
shifts = two_rows (in_loop (Assign 31 (root.Object 1) (ahead 1) (stored (Variable 44 (root.Object 0) here integer))))

-- parallel for I in 1 .. 4 loop A (I + 1) := A (I); end loop;

abbrev pub shifts_in_place : Program
shifts_in_place = two_rows (in_loop (Assign 31 (root.Object 0) (ahead 1) (stored (Variable 44 (root.Object 0) here integer))))

-- parallel for I in 1 .. 4 loop B (I) := A (I - 1) + A (I + 1); end loop;

abbrev pub smooths : Program
smooths = two_rows (in_loop (Assign 31 (root.Object 1) here (stored (sum (Variable 40 (root.Object 0) (behind 1) integer) (Variable 50 (root.Object 0) (ahead 1) integer)))))

-- parallel for I in 1 .. 4 loop A (I + 0) := 1; end loop;

abbrev pub no_distance : Program
no_distance = two_rows (in_loop (Assign 31 (root.Object 0) (ahead 0) (stored (number (pos 1)))))

abbrev pub ClashRows : Type 0
ClashRows = SomeClash transposes 52 64 × SomeClash adds_up 31 31 × SomeClash shifts_in_place 31 44 × SomeClash no_distance 31 31

abbrev pub TouchedRows : Type 0
TouchedRows = SomeTouched adds_up 31 0 × SomeTouched two_arms 13 0 × SomeTouched bounded 24 0 × SomeTouched copies 40 1 × SomeTouched shifts 31 1 × SomeTouched smooths 40 0
