-- Programs with loops, parallel constructs, arrays and records, written by hand, and what they come to.
use Rattle.std.specs.Prelude.{◌≡◌, ℕ, ℤ, pos, negsuc, List, [], ◌∷◌, Some, None, true, false}
use Rattle.ada_base.specs.declared.operation.Op.TheVariants as op
use Rattle.ada_base.specs.declared.reason.Reason.TheVariants as reason
use Rattle.ada_meaning.specs.Meaning.{most_threads}
use Rattle.typed_tree.specs.declared.scalars.Class.TheVariants as class
use Rattle.typed_tree.specs.declared.scalars.Scalar.{Scalar}
use Rattle.typed_tree.specs.declared.expressions.Root.TheVariants as root
use Rattle.typed_tree.specs.declared.expressions.Reducer.TheVariants as reducer
use Rattle.typed_tree.specs.declared.expressions.Run.{Run}
use Rattle.typed_tree.specs.declared.program.Mode.TheVariants as mode
use Rattle.typed_tree.specs.Syntax as syntax
use Rattle.typed_tree.specs.Syntax.{Subtype, Expr, Constant, Parameter, Binary, Call, Reduction, NoExpr, Absent, Selections, Whole, Field, Index, NoActual, In, Value, Cells, Aggregate, NoAssociation, Association, Range, Components, NoChunk, NoPiece, Text, Image, NoDecl, DeclareVariable, Assign, Case, NoAlternative, Alternative, Raise, For, ParallelFor, Parallel, Block, Put, Stmts, End, Then, NoArm, Arm, NoHandler, Handler, ReturnValue, Program, Variable, Associations}
use Rattle.ada_base.specs.Cuts.{Plan, One, Even, Chunked, Listed, cuts_of}
use Rattle.behaviours.specs.Paths.{Raises, Gives, Leaves, Spent}
use Rattle.ada_meaning.specs.Programs.{Answer, answer_of, planned, sequential}
use Rattle.ada_meaning.specs.Rows.{integers, integer, number, variable, sum, stored, assign, put_image, object_of, made_of, many_turns, no_input, upto, array_of, filled_with, indexed, component, formal, adds}

-- under a plan, without input
abbrev under : Plan → Program → Answer
under plan program = answer_of program (planned program plan many_turns no_input)

abbrev statements : Stmts → Program
statements ss = made_of [] [] [] NoDecl ss

abbrev writes : List ℕ → Answer
writes bytes = record { output = bytes; end = Gives tt; finals = [] }

abbrev holds : List (List ℤ) → Answer
holds values = record { output = []; end = Gives tt; finals = values }

-- the sizes of chunks

abbrev pub Cuts : Type 0
Cuts = (cuts_of (Chunked 3) 4 10 ≡ 3 ∷ 3 ∷ 3 ∷ 1 ∷ [])
    × (cuts_of (Chunked 3) 2 10 ≡ 3 ∷ 7 ∷ [])
    × (cuts_of (Even 3) most_threads 10 ≡ 4 ∷ 3 ∷ 3 ∷ [])
    × (cuts_of (Listed (1 ∷ 2 ∷ [])) most_threads 10 ≡ 1 ∷ 2 ∷ 7 ∷ [])
    × (cuts_of (Listed (5 ∷ 9 ∷ [])) most_threads 10 ≡ 5 ∷ 5 ∷ [])
    × (cuts_of One most_threads 0 ≡ [])

-- Put_Line (Integer'Image ([parallel for I in 1 .. 100 => I]'Reduce ("+", 0)));

abbrev pub hundred : Program
hundred = statements (Then (put_image (Reduction 0 0 (reducer.Operator 0 op.Add integers) (number (pos 0)) (Some 0) NoChunk (upto 0 100) (Parameter 0 0))) End)

abbrev pub Hundred : Type 0
Hundred = (under One hundred ≡ writes (32 ∷ 53 ∷ 48 ∷ 53 ∷ 48 ∷ 10 ∷ []))
    × (under (Even 7) hundred ≡ writes (32 ∷ 53 ∷ 48 ∷ 53 ∷ 48 ∷ 10 ∷ []))
    × (under (Chunked 1) hundred ≡ writes (32 ∷ 53 ∷ 48 ∷ 53 ∷ 48 ∷ 10 ∷ []))

-- X, Y : Integer := 0; parallel do X := 1; and Y := 2; end do;

abbrev pub arms : Program
arms = made_of [] (object_of 0 1 ∷ object_of 0 1 ∷ []) [] (DeclareVariable 0 (stored (number (pos 0))) (DeclareVariable 1 (stored (number (pos 0))) NoDecl))
    (Then (Parallel 0 Absent (Arm (Then (assign 0 (number (pos 1))) End) (Arm (Then (assign 1 (number (pos 2))) End) NoArm))) End)

abbrev pub Arms : Type 0
Arms = under (Even 8) arms ≡ holds ((pos 1 ∷ []) ∷ (pos 2 ∷ []) ∷ [])

-- function F (X : Integer) return Integer is (X * X) with Nonblocking;
-- Put_Line (Integer'Image ([parallel for I in 1 .. 3 => F (I)]'Reduce ("+", 0)));

abbrev pub squares : Program
squares = made_of [] (object_of 0 1 ∷ [])
    (record {
      formals = formal 0 mode.In ∷ [];
      result = Some integer;
      nonblocking = true;
      body = record { decls = NoDecl; stmts = Then (ReturnValue (stored (Binary 0 op.Mul integers (Constant 0 (root.Object 0) Whole integer) (Constant 0 (root.Object 0) Whole integer)))) End; handlers = NoHandler };
    } ∷ [])
    NoDecl (Then (put_image (Reduction 0 0 (reducer.Operator 0 op.Add integers) (number (pos 0)) (Some 0) NoChunk (upto 0 3) (Call 0 0 0 (In 0 (stored (Parameter 0 0)) NoActual)))) End)

abbrev pub Squares : Type 0
Squares = under (Even 8) squares ≡ writes (32 ∷ 49 ∷ 52 ∷ 10 ∷ [])

-- type Mat is array (1 .. 3, 1 .. 3) of Integer; A : Mat := [for I in 1 .. 3 => [for K in 1 .. 3 => I + K]];
-- B : Mat := [for K in 1 .. 3 => [for J in 1 .. 3 => K - J]]; C : Mat;
-- parallel for I in 1 .. 3 loop for J in 1 .. 3 loop C (I, J) := [for K in 1 .. 3 => A (I, K) * B (K, J)]'Reduce ("+", 0); end loop; end loop;
-- Put_Line (Integer'Image (C'Parallel_Reduce ("+", 0)));

abbrev square : Subtype
square = syntax.Array (record { low = pos 1; high = pos 3 } ∷ record { low = pos 1; high = pos 3 } ∷ []) 0

abbrev both_indexed : Expr → Expr → Selections
both_indexed e f = Index 0 e (pos 1) (pos 3) 3 (Index 0 f (pos 1) (pos 3) 1 Whole)

abbrev entry : ℕ → Expr → Expr → Expr
entry x e f = Variable 0 (root.Object x) (both_indexed e f) integer

abbrev iterated : ℕ → ℕ → ℕ → Value → Value
iterated k size stride v = Cells (Aggregate 0 size (Association (record { first = 0; count = 3; stride = stride } ∷ []) (Some (record { parameter = k; first = pos 1 })) NoExpr v NoAssociation))

abbrev table : ℕ → ℕ → Expr → Value
table i k e = iterated i 9 3 (iterated k 3 1 (stored e))

abbrev pub multiplies : Program
multiplies = made_of (square ∷ []) (object_of 1 9 ∷ object_of 1 9 ∷ object_of 1 9 ∷ []) []
    (DeclareVariable 0 (table 0 1 (sum (Parameter 0 0) (Parameter 0 1))) (DeclareVariable 1 (table 2 3 (Binary 0 op.Sub integers (Parameter 0 2) (Parameter 0 3)))
    (DeclareVariable 2 (filled_with 9 (number (pos 0))) NoDecl)))
    (Then (ParallelFor 0 0 NoChunk (upto 4 3) (Then (For 1 (upto 5 3)
    (Then (Assign 0 (root.Object 2) (both_indexed (Parameter 0 4) (Parameter 0 5)) (stored (Reduction 0 0 (reducer.Operator 0 op.Add integers) (number (pos 0)) None NoChunk (upto 6 3)
    (Binary 0 op.Mul integers (entry 0 (Parameter 0 4) (Parameter 0 6)) (entry 1 (Parameter 0 6) (Parameter 0 5)))))) End)) End))
    (Then (put_image (Reduction 0 0 (reducer.Operator 0 op.Add integers) (number (pos 0)) (Some 1) NoChunk (Components 7 false 0 (root.Object 2) Whole 9 1 2 Absent) (Variable 0 (root.Item 7) Whole integer))) End))

abbrev pub Multiplies : Type 0
Multiplies = under (Listed (1 ∷ 60 ∷ [])) multiplies ≡ record {
  output = 32 ∷ 49 ∷ 56 ∷ 10 ∷ [];
  end = Gives tt;
  finals = (pos 2 ∷ pos 3 ∷ pos 4 ∷ pos 3 ∷ pos 4 ∷ pos 5 ∷ pos 4 ∷ pos 5 ∷ pos 6 ∷ [])
      ∷ (pos 0 ∷ negsuc 0 ∷ negsuc 1 ∷ pos 1 ∷ pos 0 ∷ negsuc 0 ∷ pos 2 ∷ pos 1 ∷ pos 0 ∷ [])
      ∷ (pos 11 ∷ pos 2 ∷ negsuc 6 ∷ pos 14 ∷ pos 2 ∷ negsuc 9 ∷ pos 17 ∷ pos 2 ∷ negsuc 12 ∷ []) ∷ [];
}

-- N : Integer := 3; parallel for I in 1 .. N loop null; end loop;

abbrev pub bounded : Program
bounded = made_of [] (object_of 0 1 ∷ []) [] (DeclareVariable 0 (stored (number (pos 3))) NoDecl) (Then (ParallelFor 0 0 NoChunk (Range 0 false (number (pos 1)) (variable 0) None Absent) End) End)

abbrev pub Bounded : Type 0
Bounded = under (Even 8) bounded ≡ holds ((pos 3 ∷ []) ∷ [])

-- Put_Line (Integer'Image (16#FF#) & Integer'Image (1_000) & Integer'Image (2E3));

abbrev pub joins : Program
joins = statements (Then (Put 0 0 (Image integers (number (pos 255)) (Image integers (number (pos 1000)) (Image integers (number (pos 2000)) NoPiece))) true) End)

abbrev pub Joined : Type 0
Joined = under One joins ≡ writes (32 ∷ 50 ∷ 53 ∷ 53 ∷ 32 ∷ 49 ∷ 48 ∷ 48 ∷ 48 ∷ 32 ∷ 50 ∷ 48 ∷ 48 ∷ 48 ∷ 10 ∷ [])

-- type R is record X : Integer; Y : Boolean; end record; V : R := (X => 4, Y => True);
-- V.X := V.X * 2; case V.X is when 8 => Put_Line ("eight"); when others => null; end case;

abbrev boolean : Scalar
boolean = record { class = class.Boolean; low = pos 0; high = pos 1 }

abbrev field_x : Selections
field_x = Field 0 0 Whole

abbrev pub cases : Program
cases = made_of (syntax.OfScalar boolean ∷ syntax.Record (record { name = 0; subtype = 0 } ∷ record { name = 0; subtype = 1 } ∷ []) ∷ []) (object_of 2 2 ∷ []) []
    (DeclareVariable 0 (Cells (Aggregate 0 2 (Association (record { first = 0; count = 1; stride = 1 } ∷ []) None NoExpr (stored (number (pos 4)))
    (Association (record { first = 1; count = 1; stride = 1 } ∷ []) None NoExpr (syntax.Number (record { at = 0; scalar = boolean }) (number (pos 1))) NoAssociation)))) NoDecl)
    (Then (Assign 0 (root.Object 0) field_x (stored (Binary 0 op.Mul integers (Variable 0 (root.Object 0) field_x integer) (number (pos 2)))))
    (Then (Case (Variable 0 (root.Object 0) field_x integer)
    (Alternative false (record { low = pos 8; high = pos 8 } ∷ []) NoExpr (Then (Put 0 0 (Text (101 ∷ 105 ∷ 103 ∷ 104 ∷ 116 ∷ []) NoPiece) true) End) (Alternative true [] NoExpr End NoAlternative))) End))

abbrev pub Cases : Type 0
Cases = under One cases ≡ record { output = 101 ∷ 105 ∷ 103 ∷ 104 ∷ 116 ∷ 10 ∷ []; end = Gives tt; finals = (pos 8 ∷ pos 1 ∷ []) ∷ [] }

-- M : array (1 .. 3, 1 .. 2) of Integer := (others => (others => 1));
-- parallel for J in 1 .. 2 loop for I in 1 .. 3 loop M (I, J) := M (I, J) + J; end loop; end loop;

abbrev cell : Selections
cell = Index 0 (Parameter 0 1) (pos 1) (pos 3) 2 (Index 0 (Parameter 0 0) (pos 1) (pos 2) 1 Whole)

abbrev pub columns : Program
columns = made_of (syntax.Array (record { low = pos 1; high = pos 3 } ∷ record { low = pos 1; high = pos 2 } ∷ []) 0 ∷ []) (object_of 1 6 ∷ []) [] (DeclareVariable 0 (filled_with 6 (number (pos 1))) NoDecl)
    (Then (ParallelFor 0 0 NoChunk (upto 0 2) (Then (For 1 (upto 1 3) (Then (Assign 0 (root.Object 0) cell (stored (sum (Variable 0 (root.Object 0) cell integer) (Parameter 0 0)))) End)) End)) End)

abbrev pub Columns : Type 0
Columns = (under One columns ≡ holds ((pos 2 ∷ pos 3 ∷ pos 2 ∷ pos 3 ∷ pos 2 ∷ pos 3 ∷ []) ∷ []))
    × (under (Chunked 1) columns ≡ holds ((pos 2 ∷ pos 3 ∷ pos 2 ∷ pos 3 ∷ pos 2 ∷ pos 3 ∷ []) ∷ []))

-- A : array (1 .. 5) of Integer := (1, 2, 3, 4, 5); B : array (1 .. 5) of Integer := (others => 0);
-- parallel for I in 1 .. 4 loop B (I + 1) := A (I); end loop; and the same with 1 .. 5

abbrev up : Value
up = Cells (Aggregate 0 5 (Association (record { first = 0; count = 5; stride = 1 } ∷ []) (Some (record { parameter = 9; first = pos 1 })) NoExpr (stored (Parameter 0 9)) NoAssociation))

abbrev pub shifts : ℕ → Program
shifts n = made_of (array_of 5 ∷ []) (object_of 1 5 ∷ object_of 1 5 ∷ []) [] (DeclareVariable 0 up (DeclareVariable 1 (filled_with 5 (number (pos 0))) NoDecl))
    (Then (ParallelFor 0 0 NoChunk (upto 0 n) (Then (Assign 0 (root.Object 1) (indexed 5 (sum (Parameter 0 0) (number (pos 1)))) (stored (component 0 5 (Parameter 0 0)))) End)) End)

abbrev pub Shifts : Type 0
Shifts = (under (Even 8) (shifts 4) ≡ holds ((pos 1 ∷ pos 2 ∷ pos 3 ∷ pos 4 ∷ pos 5 ∷ []) ∷ (pos 0 ∷ pos 1 ∷ pos 2 ∷ pos 3 ∷ pos 4 ∷ []) ∷ []))
    × (under (Even 8) (shifts 5) ≡ record { output = []; end = Leaves (Raises reason.ConstraintError); finals = (pos 1 ∷ pos 2 ∷ pos 3 ∷ pos 4 ∷ pos 5 ∷ []) ∷ (pos 0 ∷ pos 1 ∷ pos 2 ∷ pos 3 ∷ pos 4 ∷ []) ∷ [] })

-- X : Integer := 2; X := X + 3; Put_Line (Integer'Image (X)); under a plan of one chunk of 3

abbrev pub PlannedAdds : Type 0
PlannedAdds = under (Listed (3 ∷ [])) adds ≡ record { output = 32 ∷ 53 ∷ 10 ∷ []; end = Gives tt; finals = (pos 5 ∷ []) ∷ [] }

-- begin parallel for I in 1 .. 8 loop raise Constraint_Error; end loop; exception when Constraint_Error => Put_Line ("c"); end;

abbrev pub all_raise : Program
all_raise = statements (Then (Block NoDecl (Then (ParallelFor 0 0 NoChunk (upto 0 8) (Then (Raise reason.ConstraintError) End)) End)
    (Handler (syntax.Reasons (reason.ConstraintError ∷ [])) (Then (Put 0 0 (Text (99 ∷ []) NoPiece) true) End) NoHandler)) End)

abbrev pub AllRaise : Type 0
AllRaise = under (Even 8) all_raise ≡ writes (99 ∷ 10 ∷ [])

-- X : Integer := 4; A : array (1 .. 3) of Integer := (1 | 3 => X + 1, others => X); with (1 .. 3 => X + 1), and with
-- (2 => X + 1, others => X), which take no turn, and with (for K in 1 .. 3 => X + 1), which takes three

abbrev filled : Associations → Program
filled given = made_of (array_of 3 ∷ []) (object_of 0 1 ∷ object_of 1 3 ∷ []) []
    (DeclareVariable 0 (stored (number (pos 4))) (DeclareVariable 1 (Cells (Aggregate 0 3 given)) NoDecl)) End

abbrev part : ℕ → ℕ → Run
part first count = record { first = first; count = count; stride = 1 }

abbrev given : List Run → Expr → Associations → Associations
given runs e rest = Association runs None NoExpr (stored e) rest

abbrev more : Expr
more = sum (variable 0) (number (pos 1))

abbrev apart : Program
apart = filled (given (part 0 1 ∷ part 2 1 ∷ []) more (given (part 1 1 ∷ []) (variable 0) NoAssociation))

abbrev together : Program
together = filled (given (part 0 3 ∷ []) more NoAssociation)

abbrev single : Program
single = filled (given (part 1 1 ∷ []) more (given (part 0 1 ∷ part 2 1 ∷ []) (variable 0) NoAssociation))

abbrev numbered : Program
numbered = filled (Association (part 0 3 ∷ []) (Some (record { parameter = 0; first = pos 1 })) NoExpr (stored more) NoAssociation)

abbrev within : ℕ → Program → Answer
within turns program = answer_of program (sequential program turns no_input)

-- X has its value by then
abbrev is_spent : Answer
is_spent = record { output = []; end = Spent; finals = (pos 4 ∷ []) ∷ [] }

abbrev pub Filled : Type 0
Filled = (within 0 apart ≡ holds ((pos 4 ∷ []) ∷ (pos 5 ∷ pos 4 ∷ pos 5 ∷ []) ∷ []))
    × (within 0 together ≡ holds ((pos 4 ∷ []) ∷ (pos 5 ∷ pos 5 ∷ pos 5 ∷ []) ∷ []))
    × (within 2 numbered ≡ is_spent)
    × (within 3 numbered ≡ holds ((pos 4 ∷ []) ∷ (pos 5 ∷ pos 5 ∷ pos 5 ∷ []) ∷ []))
    × (within 0 single ≡ holds ((pos 4 ∷ []) ∷ (pos 4 ∷ pos 5 ∷ pos 4 ∷ []) ∷ []))
