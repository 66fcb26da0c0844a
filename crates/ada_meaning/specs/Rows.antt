-- Programs written by hand, and what they come to.
use Rattle.std.specs.Prelude.{◌≡◌, ℕ, ℤ, pos, negsuc, List, [], ◌∷◌, Option, Some, None, Bool, true, false}
use Rattle.ada_base.specs.declared.operation.Base.TheVariants.{Narrow}
use Rattle.ada_base.specs.declared.operation.Op.TheVariants as op
use Rattle.ada_base.specs.declared.reason.Reason.TheVariants as reason
use Rattle.typed_tree.specs.declared.scalars.Class.{Class}
use Rattle.typed_tree.specs.declared.scalars.Class.TheVariants as class
use Rattle.typed_tree.specs.declared.scalars.Scalar.{Scalar}
use Rattle.typed_tree.specs.declared.scalars.Check.{Check}
use Rattle.ada_base.specs.declared.operation.Comparison.TheVariants as comparison
use Rattle.typed_tree.specs.declared.expressions.Root.TheVariants as root
use Rattle.typed_tree.specs.declared.expressions.Run.{Run}
use Rattle.typed_tree.specs.declared.expressions.Reducer.TheVariants as reducer
use Rattle.typed_tree.specs.declared.program.Object.{Object}
use Rattle.typed_tree.specs.declared.program.Formal.{Formal}
use Rattle.typed_tree.specs.declared.program.Mode.TheVariants as mode
use Rattle.typed_tree.specs.Syntax as syntax
use Rattle.typed_tree.specs.Syntax.{Subtype, Expr, Static, Variable, Constant, Parameter, Target, Binary, Relation, Call, Reduction, NoExpr, Absent, Present, Selections, Whole, Index, NoActual, In, InOut, CompositeInOut, Value, Number, Cells, Aggregate, NoAssociation, Association, Iteration, Range, Components, NoChunk, Each, NoPiece, Text, Image, Padded, NoDecl, DeclareDefault, DeclareVariable, Stmt, Assign, CallProcedure, ReturnValue, Raise, IfThen, Loop, For, ParallelFor, Parallel, Block, Put, Get, Exit, Stmts, End, Then, NoArm, Arm, NoHandler, Handler, Sub, Program, Decls, Count}
use Rattle.ada_base.specs.Cuts.{One, Even, Chunked, Listed}
use Rattle.behaviours.specs.Paths.{Raises, Gives, Leaves, Spent}
use Rattle.ada_meaning.specs.Sequential.{IsCalm}
use Rattle.ada_meaning.specs.Programs.{Setting, answer_of, planned, sequential, input_of}
use Rattle.ada_meaning.specs.Law.{Outcome, Ended, EndsItself, IsPermitted, IsPrefix}

-- pieces of programs

abbrev pub integers : Class
integers = class.Integer Narrow

abbrev pub integer : Scalar
integer = record { class = integers; low = negsuc 2147483647; high = pos 2147483647 }

abbrev pub checked_at : ℕ → Check
checked_at at = record { at = at; scalar = integer }

abbrev pub number : ℤ → Expr
number z = Static 0 z true NoExpr

abbrev pub variable : ℕ → Expr
variable x = Variable 0 (root.Object x) Whole integer

abbrev pub sum : Expr → Expr → Expr
sum e f = Binary 0 op.Add integers e f

abbrev pub stored : Expr → Value
stored e = Number (checked_at 0) e

abbrev pub assign : ℕ → Expr → Stmt
assign x e = Assign 0 (root.Object x) Whole (stored e)

-- Put_Line (Integer'Image (E))
abbrev pub put_image : Expr → Stmt
put_image e = Put 0 0 (Image integers e NoPiece) true

abbrev pub object_of : ℕ → ℕ → Object
object_of t n = record { name = 0; subtype = t; constant = false; owner = 0; offset = 0; cells = n; value = None }

abbrev pub made_of : List Subtype → List Object → List Sub → Decls → Stmts → Program
made_of types objects subs decls stmts = record {
  subtypes = syntax.OfScalar integer ∷ types;
  objects = objects;
  subs = subs;
  sites = [];
  exceptions = [];
  body = record { decls = decls; stmts = stmts; handlers = NoHandler };
  nonblocking = false;
  strict = true;
}

abbrev pub many_turns : ℕ
many_turns = 1000000000

abbrev pub no_input : ℕ → Option ℕ
no_input = input_of []

-- X : Integer := 2; X := X + 3; Put_Line (Integer'Image (X));

abbrev pub adds : Program
adds = made_of [] (object_of 0 1 ∷ []) [] (DeclareVariable 0 (stored (number (pos 2))) NoDecl)
    (Then (assign 0 (sum (variable 0) (number (pos 3)))) (Then (put_image (variable 0)) End))

abbrev pub Adds : Type 0
Adds = answer_of adds (sequential adds many_turns no_input) ≡ record { output = 32 ∷ 53 ∷ 10 ∷ []; end = Gives tt; finals = (pos 5 ∷ []) ∷ [] }

-- X : Integer := 2147483647; X := X + 1;

abbrev pub overflows : Program
overflows = made_of [] (object_of 0 1 ∷ []) [] (DeclareVariable 0 (stored (number (pos 2147483647))) NoDecl)
    (Then (assign 0 (sum (variable 0) (number (pos 1)))) End)

abbrev pub Overflows : Type 0
Overflows = answer_of overflows (sequential overflows many_turns no_input)
    ≡ record { output = []; end = Leaves (Raises reason.ConstraintError); finals = (pos 2147483647 ∷ []) ∷ [] }

-- Put_Line (Integer'Image (E)) for (-7) / 2, (-7) rem 2, (-7) mod 2, 7 mod (-2), computed here and not by name resolution

abbrev divided : op.the_data → ℤ → ℤ → Stmt
divided o a b = put_image (Binary 0 o integers (number a) (number b))

abbrev pub divisions : Program
divisions = made_of [] [] [] NoDecl
    (Then (divided op.Div (negsuc 6) (pos 2)) (Then (divided op.Rem (negsuc 6) (pos 2)) (Then (divided op.Mod (negsuc 6) (pos 2)) (Then (divided op.Mod (pos 7) (negsuc 1)) End))))

abbrev pub Divisions : Type 0
Divisions = answer_of divisions (sequential divisions many_turns no_input)
    ≡ record { output = 45 ∷ 51 ∷ 10 ∷ 45 ∷ 49 ∷ 10 ∷ 32 ∷ 49 ∷ 10 ∷ 45 ∷ 49 ∷ 10 ∷ []; end = Gives tt; finals = [] }

-- Put_Line (Integer'Image ([parallel for I in 1 .. 4 => I]'Reduce (R, V)));

abbrev pub upto : ℕ → ℕ → Iteration
upto k n = Range k false (number (pos 1)) (number (pos n)) None Absent

abbrev pub reduced : op.the_data → ℤ → Program
reduced o v = made_of [] [] [] NoDecl (Then (put_image (Reduction 0 0 (reducer.Operator 0 o integers) (number v) (Some 0) NoChunk (upto 0 4) (Parameter 0 0))) End)

-- "-" from 0 under one chunk and under two, "+" from 1 the same
abbrev pub Reductions : Type 0
Reductions =
    (answer_of (reduced op.Sub (pos 0)) (planned (reduced op.Sub (pos 0)) One many_turns no_input) ≡ record { output = 45 ∷ 49 ∷ 48 ∷ 10 ∷ []; end = Gives tt; finals = [] })
    × (answer_of (reduced op.Sub (pos 0)) (planned (reduced op.Sub (pos 0)) (Even 2) many_turns no_input) ≡ record { output = 32 ∷ 52 ∷ 10 ∷ []; end = Gives tt; finals = [] })
    × (answer_of (reduced op.Add (pos 1)) (planned (reduced op.Add (pos 1)) One many_turns no_input) ≡ record { output = 32 ∷ 49 ∷ 49 ∷ 10 ∷ []; end = Gives tt; finals = [] })
    × (answer_of (reduced op.Add (pos 1)) (planned (reduced op.Add (pos 1)) (Even 2) many_turns no_input) ≡ record { output = 32 ∷ 49 ∷ 50 ∷ 10 ∷ []; end = Gives tt; finals = [] })
    × (answer_of (reduced op.Sub (pos 0)) (sequential (reduced op.Sub (pos 0)) many_turns no_input) ≡ record { output = 45 ∷ 49 ∷ 48 ∷ 10 ∷ []; end = Gives tt; finals = [] })

-- P : array (1 .. 3) of Integer := (others => 0);
-- parallel (C in 1 .. 3) for I in 1 .. 10 loop P (C) := P (C) + I; end loop;

abbrev pub array_of : ℕ → Subtype
array_of n = syntax.Array (record { low = pos 1; high = pos n } ∷ []) 0

abbrev pub filled_with : ℕ → Expr → Value
filled_with n e = Cells (Aggregate 0 n (Association (record { first = 0; count = n; stride = 1 } ∷ []) None NoExpr (stored e) NoAssociation))

abbrev pub indexed : ℕ → Expr → Selections
indexed n e = Index 0 e (pos 1) (pos n) 1 Whole

abbrev pub component : ℕ → ℕ → Expr → Expr
component x n e = Variable 0 (root.Object x) (indexed n e) integer

abbrev pub dealt : Program
dealt = made_of (array_of 3 ∷ []) (object_of 1 3 ∷ []) [] (DeclareVariable 0 (filled_with 3 (number (pos 0))) NoDecl)
    (Then (ParallelFor 0 0 (Each 0 (number (pos 1)) (number (pos 3)) None) (upto 1 10)
    (Then (Assign 0 (root.Object 0) (indexed 3 (Parameter 0 0)) (stored (sum (component 0 3 (Parameter 0 0)) (Parameter 0 1)))) End)) End)

abbrev pub Dealt : Type 0
Dealt = (answer_of dealt (sequential dealt many_turns no_input) ≡ record { output = []; end = Gives tt; finals = (pos 10 ∷ pos 18 ∷ pos 27 ∷ []) ∷ [] })
    × (answer_of dealt (planned dealt (Even 8) many_turns no_input) ≡ record { output = []; end = Gives tt; finals = (pos 10 ∷ pos 18 ∷ pos 27 ∷ []) ∷ [] })

-- A : array (1 .. 4) of Integer := (9, 1, 9, 1);
-- function Find return Integer is begin parallel for I in 1 .. 4 loop if A (I) = 9 then return I; end if; end loop; return 0; end Find;
-- Put_Line (Integer'Image (Find));

abbrev pub find : Program
find = made_of (array_of 4 ∷ []) (object_of 1 4 ∷ [])
    (record {
      formals = [];
      result = Some integer;
      nonblocking = true;
      body = record {
        decls = NoDecl;
        stmts = Then (ParallelFor 0 0 NoChunk (upto 0 4) (Then (IfThen (Relation integers comparison.Equal (component 0 4 (Parameter 0 0)) (number (pos 9))) (Then (ReturnValue (stored (Parameter 0 0))) End) End) End))
            (Then (ReturnValue (stored (number (pos 0)))) End);
        handlers = NoHandler;
      };
    } ∷ [])
    (DeclareVariable 0 (Cells (Aggregate 0 4
    (Association (record { first = 0; count = 1; stride = 1 } ∷ record { first = 2; count = 1; stride = 1 } ∷ []) None NoExpr (stored (number (pos 9)))
    (Association (record { first = 1; count = 1; stride = 1 } ∷ record { first = 3; count = 1; stride = 1 } ∷ []) None NoExpr (stored (number (pos 1))) NoAssociation)))) NoDecl)
    (Then (put_image (Call 0 0 0 NoActual)) End)

abbrev pub Find : Type 0
Find = answer_of find (planned find (Chunked 1) many_turns no_input) ≡ record { output = 32 ∷ 49 ∷ 10 ∷ []; end = Gives tt; finals = (pos 9 ∷ pos 1 ∷ pos 9 ∷ pos 1 ∷ []) ∷ [] }

-- begin parallel do raise E1; and raise E2; end do; exception when E1 => Put_Line ("one"); end;

abbrev pub raises : Program
raises = made_of [] [] [] NoDecl
    (Then (Block NoDecl (Then (Parallel 0 Absent (Arm (Then (Raise (reason.Declared 0)) End) (Arm (Then (Raise (reason.Declared 1)) End) NoArm))) End)
    (Handler (syntax.Reasons (reason.Declared 0 ∷ [])) (Then (Put 0 0 (Text (111 ∷ 110 ∷ 101 ∷ []) NoPiece) true) End) NoHandler)) End)

abbrev pub Raised : Type 0
Raised = answer_of raises (planned raises One many_turns no_input) ≡ record { output = 111 ∷ 110 ∷ 101 ∷ 10 ∷ []; end = Gives tt; finals = [] }

-- X : Integer; Get (X); Get (X); on ` -12 7x` and on `7`

abbrev pub get_into : ℕ → Stmt
get_into x = Get 0 0 0 (root.Object x) Whole integer

abbrev pub gets : Program
gets = made_of [] (object_of 0 1 ∷ []) [] (DeclareDefault 0 NoDecl) (Then (get_into 0) (Then (get_into 0) End))

abbrev pub Gotten : Type 0
Gotten =
    (answer_of gets (sequential gets many_turns (input_of (32 ∷ 45 ∷ 49 ∷ 50 ∷ 32 ∷ 55 ∷ 120 ∷ []))) ≡ record { output = []; end = Gives tt; finals = (pos 7 ∷ []) ∷ [] })
    × (answer_of gets (sequential gets many_turns (input_of (55 ∷ []))) ≡ record { output = []; end = Leaves (Raises reason.EndError); finals = (pos 7 ∷ []) ∷ [] })

-- for I in 1 .. 10 loop null; end loop; within 9 turns and within 10

abbrev pub turns : Program
turns = made_of [] [] [] NoDecl (Then (For 0 (upto 0 10) End) End)

abbrev pub Turns : Type 0
Turns = (answer_of turns (sequential turns 9 no_input) ≡ record { output = []; end = Spent; finals = [] })
    × (answer_of turns (sequential turns 10 no_input) ≡ record { output = []; end = Gives tt; finals = [] })

-- A : array (1 .. 3) of Integer := (1, 2, 3); parallel for X of A loop X := @ * 2; end loop;

abbrev pub counted_up : ℕ → Value
counted_up n = Cells (Aggregate 0 n (Association (record { first = 0; count = n; stride = 1 } ∷ []) (Some (record { parameter = 9; first = pos 1 })) NoExpr (stored (Parameter 0 9)) NoAssociation))

abbrev pub doubled : Program
doubled = made_of (array_of 3 ∷ []) (object_of 1 3 ∷ []) [] (DeclareVariable 0 (counted_up 3) NoDecl)
    (Then (ParallelFor 0 0 NoChunk (Components 0 false 0 (root.Object 0) Whole 3 1 1 Absent)
    (Then (Assign 0 (root.Item 0) Whole (stored (Binary 0 op.Mul integers (Target 0 integer) (number (pos 2))))) End)) End)

abbrev pub Doubled : Type 0
Doubled = answer_of doubled (planned doubled (Chunked 2) many_turns no_input) ≡ record { output = []; end = Gives tt; finals = (pos 2 ∷ pos 4 ∷ pos 6 ∷ []) ∷ [] }

-- function Keep (A, B : Integer) return Integer is (A + B * 2) with Nonblocking;
-- Put_Line (Integer'Image ([parallel for I in 1 .. 4 => I]'Reduce (Keep, 0)));

abbrev pub keeps : Program
keeps = made_of [] (object_of 0 1 ∷ object_of 0 1 ∷ [])
    (record {
      formals = record { object = 0; mode = mode.In } ∷ record { object = 1; mode = mode.In } ∷ [];
      result = Some integer;
      nonblocking = true;
      body = record { decls = NoDecl; stmts = Then (ReturnValue (stored (sum (Constant 0 (root.Object 0) Whole integer) (Binary 0 op.Mul integers (Constant 0 (root.Object 1) Whole integer) (number (pos 2)))))) End; handlers = NoHandler };
    } ∷ [])
    NoDecl (Then (put_image (Reduction 0 0 (reducer.Function 0 0 integer integer) (number (pos 0)) (Some 0) NoChunk (upto 0 4) (Parameter 0 0))) End)

abbrev pub Kept : Type 0
Kept = (answer_of keeps (planned keeps One many_turns no_input) ≡ record { output = 32 ∷ 50 ∷ 48 ∷ 10 ∷ []; end = Gives tt; finals = [] })
    × (answer_of keeps (planned keeps (Even 2) many_turns no_input) ≡ record { output = 32 ∷ 51 ∷ 52 ∷ 10 ∷ []; end = Gives tt; finals = [] })

-- A : array (1 .. 4) of Integer := (others => 0);
-- L : parallel for I in 1 .. 4 loop exit L when I = 3; A (I) := I; end loop L;

abbrev pub leaves : Program
leaves = made_of (array_of 4 ∷ []) (object_of 1 4 ∷ []) [] (DeclareVariable 0 (filled_with 4 (number (pos 0))) NoDecl)
    (Then (ParallelFor 7 0 NoChunk (upto 0 4) (Then (Exit 7 (Present (Relation integers comparison.Equal (Parameter 0 0) (number (pos 3)))))
    (Then (Assign 0 (root.Object 0) (indexed 4 (Parameter 0 0)) (stored (Parameter 0 0))) End))) End)

abbrev pub Left : Type 0
Left = (answer_of leaves (planned leaves (Chunked 1) many_turns no_input) ≡ record { output = []; end = Gives tt; finals = (pos 1 ∷ pos 2 ∷ pos 0 ∷ pos 0 ∷ []) ∷ [] })
    × (answer_of leaves (planned leaves One many_turns no_input) ≡ record { output = []; end = Gives tt; finals = (pos 1 ∷ pos 2 ∷ pos 0 ∷ pos 0 ∷ []) ∷ [] })

-- X : Integer := 1; A : array (1 .. 2) of Integer := (others => 5);
-- procedure P (N : in out Integer; V : in out ..) is begin while N < 3 loop N := N + 1; end loop; V (2) := N; end P; P (X, A);
-- and Down (N) as if N <= 1 then 1 else 1 + Down (N - 1), called with 40

abbrev pub formal : ℕ → mode.the_data → Formal
formal x m = record { object = x; mode = m }

abbrev pub passes : Program
passes = made_of (array_of 2 ∷ []) (object_of 0 1 ∷ object_of 1 2 ∷ object_of 0 1 ∷ object_of 1 2 ∷ object_of 0 1 ∷ [])
    (record {
      formals = formal 2 mode.InOut ∷ formal 3 mode.InOut ∷ [];
      result = None;
      nonblocking = true;
      body = record {
        decls = NoDecl;
        stmts = Then (Loop 0 (Present (Relation integers comparison.Less (variable 2) (number (pos 3)))) (Then (assign 2 (sum (variable 2) (number (pos 1)))) End))
            (Then (Assign 0 (root.Object 3) (indexed 2 (number (pos 2))) (stored (variable 2))) End);
        handlers = NoHandler;
      };
    } ∷ record {
      formals = formal 4 mode.In ∷ [];
      result = Some integer;
      nonblocking = true;
      body = record {
        decls = NoDecl;
        stmts = Then (IfThen (Relation integers comparison.AtMost (Constant 0 (root.Object 4) Whole integer) (number (pos 1))) (Then (ReturnValue (stored (number (pos 1)))) End)
            (Then (ReturnValue (stored (sum (number (pos 1)) (Call 0 0 1 (In 4 (stored (Binary 0 op.Sub integers (Constant 0 (root.Object 4) Whole integer) (number (pos 1)))) NoActual))))) End)) End;
        handlers = NoHandler;
      };
    } ∷ [])
    (DeclareVariable 0 (stored (number (pos 1))) (DeclareVariable 1 (filled_with 2 (number (pos 5))) NoDecl))
    (Then (CallProcedure 0 0 0 (InOut 2 0 (root.Object 0) Whole integer integer (CompositeInOut 3 0 (root.Object 1) Whole 1 NoActual)))
    (Then (put_image (Call 0 0 1 (In 4 (stored (number (pos 40))) NoActual))) End))

abbrev pub Passed : Type 0
Passed = answer_of passes (sequential passes many_turns no_input) ≡ record { output = 32 ∷ 52 ∷ 48 ∷ 10 ∷ []; end = Gives tt; finals = (pos 3 ∷ []) ∷ (pos 5 ∷ pos 3 ∷ []) ∷ [] }

-- Put (-7); Put (42, Width => 1);

abbrev padded_piece : ℤ → ℕ → Stmt
padded_piece z w = Put 0 0 (Padded integers (number z) (number (pos w)) NoPiece) false

abbrev pub pads : Program
pads = made_of [] [] [] NoDecl (Then (padded_piece (negsuc 6) 11) (Then (padded_piece (pos 42) 1) End))

abbrev pub Padded' : Type 0
Padded' = answer_of pads (sequential pads many_turns no_input) ≡ record { output = 32 ∷ 32 ∷ 32 ∷ 32 ∷ 32 ∷ 32 ∷ 32 ∷ 32 ∷ 32 ∷ 45 ∷ 55 ∷ 52 ∷ 50 ∷ []; end = Gives tt; finals = [] }

-- V : array (1 .. 3) of Integer := (-5, 2147483647, 5); Put_Line (Integer'Image (V'Parallel_Reduce ("+", 0)));

abbrev pub given_at : ℕ → Run
given_at i = record { first = i; count = 1; stride = 1 }

abbrev pub folded : Program
folded = made_of (array_of 3 ∷ []) (object_of 1 3 ∷ []) []
    (DeclareVariable 0 (Cells (Aggregate 0 3 (Association (given_at 0 ∷ []) None NoExpr (stored (number (negsuc 4)))
    (Association (given_at 1 ∷ []) None NoExpr (stored (number (pos 2147483647))) (Association (given_at 2 ∷ []) None NoExpr (stored (number (pos 5))) NoAssociation))))) NoDecl)
    (Then (put_image (Reduction 0 0 (reducer.Operator 0 op.Add integers) (number (pos 0)) (Some 0) NoChunk (Components 0 false 0 (root.Object 0) Whole 3 1 1 Absent) (Variable 0 (root.Item 0) Whole integer))) End)

-- in order there is no overflow, in two chunks there is one
abbrev pub PartialOverflow : Type 0
PartialOverflow =
    (answer_of folded (planned folded One many_turns no_input) ≡ record { output = 32 ∷ 50 ∷ 49 ∷ 52 ∷ 55 ∷ 52 ∷ 56 ∷ 51 ∷ 54 ∷ 52 ∷ 55 ∷ 10 ∷ []; end = Gives tt; finals = (negsuc 4 ∷ pos 2147483647 ∷ pos 5 ∷ []) ∷ [] })
    × (answer_of folded (planned folded (Listed (1 ∷ 2 ∷ [])) many_turns no_input) ≡ record { output = []; end = Leaves (Raises reason.ConstraintError); finals = (negsuc 4 ∷ pos 2147483647 ∷ pos 5 ∷ []) ∷ [] })

-- parallel (0) for I in 1 .. 0 loop null; end loop;

abbrev pub no_chunks : Program
no_chunks = made_of [] [] [] NoDecl (Then (ParallelFor 0 0 (Count (number (pos 0))) (upto 0 0) End) End)

abbrev pub NoChunks : Type 0
NoChunks = answer_of no_chunks (sequential no_chunks many_turns no_input) ≡ record { output = []; end = Leaves (Raises reason.ProgramError); finals = [] }

-- Put_Line (Integer'Image ([parallel for I in 1 .. 10 when I mod 2 = 0 => I]'Reduce ("+", 0)));

abbrev pub filters : Program
filters = made_of [] [] [] NoDecl (Then (put_image (Reduction 0 0 (reducer.Operator 0 op.Add integers) (number (pos 0)) (Some 0) NoChunk
    (Range 0 false (number (pos 1)) (number (pos 10)) None (Present (Relation integers comparison.Equal (Binary 0 op.Mod integers (Parameter 0 0) (number (pos 2))) (number (pos 0))))) (Parameter 0 0))) End)

abbrev pub Filtered : Type 0
Filtered = answer_of filters (planned filters (Even 8) many_turns no_input) ≡ record { output = 32 ∷ 51 ∷ 48 ∷ 10 ∷ []; end = Gives tt; finals = [] }

-- parallel do loop null; end loop; and raise Constraint_Error; end do; within 100 turns, and with null in its place

abbrev pub spends : Stmts → Program
spends second = made_of [] [] [] NoDecl (Then (Parallel 0 Absent (Arm (Then (Loop 0 Absent End) End) (Arm second NoArm))) End)

abbrev pub Spends : Type 0
Spends =
    (answer_of (spends (Then (Raise reason.ConstraintError) End)) (planned (spends (Then (Raise reason.ConstraintError) End)) One 100 no_input) ≡ record { output = []; end = Leaves (Raises reason.ConstraintError); finals = [] })
    × (answer_of (spends End) (planned (spends End) One 100 no_input) ≡ record { output = []; end = Spent; finals = [] })

-- procedure P (N : Natural) is begin if N > 0 then parallel do P (N - 1); and null; end do; end if; end P; P (16); and P (17);

abbrev pub nests : ℕ → Program
nests n = made_of [] (object_of 0 1 ∷ [])
    (record {
      formals = formal 0 mode.In ∷ [];
      result = None;
      nonblocking = true;
      body = record {
        decls = NoDecl;
        stmts = Then (IfThen (Relation integers comparison.Greater (Constant 0 (root.Object 0) Whole integer) (number (pos 0)))
            (Then (Parallel 0 Absent (Arm (Then (CallProcedure 0 0 0 (In 0 (stored (Binary 0 op.Sub integers (Constant 0 (root.Object 0) Whole integer) (number (pos 1)))) NoActual)) End) (Arm End NoArm))) End) End) End;
        handlers = NoHandler;
      };
    } ∷ [])
    NoDecl (Then (CallProcedure 0 0 0 (In 0 (stored (number (pos n))) NoActual)) End)

abbrev pub Nested : Type 0
Nested = (answer_of (nests 16) (planned (nests 16) One many_turns no_input) ≡ record { output = []; end = Gives tt; finals = [] })
    × (answer_of (nests 17) (sequential (nests 17) many_turns no_input) ≡ record { output = []; end = Leaves (Raises reason.StorageError); finals = [] })

-- Outer : for K in 1 .. 5 loop parallel for I in 1 .. 4 loop parallel do exit Outer when K = 2; and null; end do; end loop;
-- Put_Line (Integer'Image (K)); end loop Outer;

abbrev pub escapes : Program
escapes = made_of [] [] [] NoDecl
    (Then (For 1 (upto 0 5)
    (Then (ParallelFor 2 0 NoChunk (upto 1 4) (Then (Parallel 1 Absent (Arm (Then (Exit 1 (Present (Relation integers comparison.Equal (Parameter 0 0) (number (pos 2))))) End) (Arm End NoArm))) End))
    (Then (put_image (Parameter 0 0)) End))) End)

abbrev pub Escapes : Type 0
Escapes = answer_of escapes (planned escapes (Even 8) many_turns no_input) ≡ record { output = 32 ∷ 49 ∷ 10 ∷ []; end = Gives tt; finals = [] }

-- the "+" from 0 of four values is calm, and so is the loop with a chunk parameter. With one worker and four chunks the
-- sum has one outcome

abbrev pub Calm : Type 0
Calm = IsCalm (sequential (reduced op.Add (pos 0)) many_turns no_input) × IsCalm (sequential dealt many_turns no_input)

abbrev pub four_chunks : Setting
four_chunks = record { plan = Even 4; one = true; limit = many_turns }

abbrev pub ten : Outcome
ten = record { output = 32 ∷ 49 ∷ 48 ∷ 10 ∷ []; taken = 0; finals = []; ending = Ended }

abbrev pub Sums : Type 0
Sums =
    ((early : Bool) (o : Outcome) → IsPermitted (reduced op.Add (pos 0)) four_chunks [] early o → EndsItself o.ending → o ≡ ten)
    × IsPermitted (reduced op.Add (pos 0)) four_chunks [] false ten
    × ((early : Bool) (o : Outcome) → IsPermitted (reduced op.Add (pos 0)) four_chunks [] early o → IsPrefix o.output ten.output)
