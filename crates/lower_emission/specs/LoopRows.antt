-- Programs with loops (5.5, 5.5.2, 5.7), a reduction in order (4.5.10) and components that are read at indexes (4.1.1), and their
-- code by hand.
use Rattle.std.specs.Prelude.{ℕ, pos, List, [], ◌∷◌, Some, None, true, false}
use Rattle.ada_base.specs.declared.operation.Base.TheVariants.{Narrow}
use Rattle.ada_base.specs.declared.operation.Comparison.TheVariants as comparison
use Rattle.ada_base.specs.declared.operation.Op.TheVariants as op
use Rattle.typed_tree.specs.declared.expressions.Reducer.TheVariants as reducer
use Rattle.typed_tree.specs.declared.expressions.Root.TheVariants as root
use Rattle.typed_tree.specs.Syntax.{Expr, Variable, Parameter, Binary, Relation, Reduction, Absent, Present, Whole, Index, Array, Range, Components, NoChunk, NoDecl, DeclareDefault, Exit, Loop, For, End, Then, Program}
use Rattle.ada_meaning.specs.Rows.{integers, integer, number, variable, sum, assign, object_of, made_of, upto, array_of}
use Rattle.stack_code.specs.declared.instr.Instr.TheVariants as i
use Rattle.lower_emission.specs.Lines.{Line, main, fits, integer_to, is_digit, digit, digits, set_to, IsPlain}

-- X : Integer := 0; while X < 3 loop X := X + 1; end loop;

abbrev pub counts : Program
counts = made_of [] (object_of 0 1 ∷ []) [] (set_to 0 0 NoDecl)
    (Then (Loop 0 (Present (Relation integers comparison.Less (variable 0) (number (pos 3)))) (Then (assign 0 (sum (variable 0) (number (pos 1)))) End)) End)

abbrev counts_code : List Line
counts_code =
    main 0 0 (i.Push (pos 0))
    ∷ main 1 1 (integer_to 0)
    ∷ main 2 0 (i.Jump 9)
    ∷ main 3 0 (i.Jump 13)
    ∷ main 4 0 i.Turn
    ∷ main 5 0 (i.LoadG 0)
    ∷ main 6 1 (i.AddI (pos 1) Narrow)
    ∷ main 7 1 fits
    ∷ main 8 1 (i.StoreG 0)
    ∷ main 9 0 (i.LoadG 0)
    ∷ main 10 1 (i.Push (pos 3))
    ∷ main 11 2 i.Lt
    ∷ main 12 1 (i.JTrue 4)
    ∷ main 13 0 i.Halt
    ∷ []

abbrev pub Counts : Type 0
Counts = IsPlain counts counts_code 2 2

-- X : Integer := 0; loop X := X + 1; exit when X = 3; end loop;

abbrev pub exits : Program
exits = made_of [] (object_of 0 1 ∷ []) [] (set_to 0 0 NoDecl)
    (Then (Loop 0 Absent (Then (assign 0 (sum (variable 0) (number (pos 1)))) (Then (Exit 0 (Present (Relation integers comparison.Equal (variable 0) (number (pos 3))))) End))) End)

abbrev exits_code : List Line
exits_code =
    main 0 0 (i.Push (pos 0))
    ∷ main 1 1 (integer_to 0)
    ∷ main 2 0 (i.Jump 14)
    ∷ main 3 0 (i.Jump 15)
    ∷ main 4 0 i.Turn
    ∷ main 5 0 (i.LoadG 0)
    ∷ main 6 1 (i.AddI (pos 1) Narrow)
    ∷ main 7 1 fits
    ∷ main 8 1 (i.StoreG 0)
    ∷ main 9 0 (i.LoadG 0)
    ∷ main 10 1 (i.Push (pos 3))
    ∷ main 11 2 i.Eq
    ∷ main 12 1 (i.JFalse 14)
    ∷ main 13 0 (i.Jump 15)
    ∷ main 14 0 (i.Jump 4)
    ∷ main 15 0 i.Halt
    ∷ []

abbrev pub Exits : Type 0
Exits = IsPlain exits exits_code 2 2

-- X : Integer := 0; for I in 1 .. 3 loop X := X + I; end loop;

abbrev pub sums : Program
sums = made_of [] (object_of 0 1 ∷ []) [] (set_to 0 0 NoDecl) (Then (For 0 (upto 0 3) (Then (assign 0 (sum (variable 0) (Parameter 0 0))) End)) End)

abbrev sums_code : List Line
sums_code =
    main 0 0 (i.Push (pos 0))
    ∷ main 1 1 (integer_to 0)
    ∷ main 2 0 (i.Push (pos 1))
    ∷ main 3 1 (i.StoreL 1)
    ∷ main 4 0 (i.Push (pos 3))
    ∷ main 5 1 (i.StoreL 2)
    ∷ main 6 0 (i.LoadL 1)
    ∷ main 7 1 (i.LoadL 2)
    ∷ main 8 2 i.Le
    ∷ main 9 1 (i.JFalse 19)
    ∷ main 10 0 (i.Jump 12)
    ∷ main 11 0 (i.Jump 19)
    ∷ main 12 0 i.Turn
    ∷ main 13 0 (i.LoadG 0)
    ∷ main 14 1 (i.LoadL 1)
    ∷ main 15 2 (i.Add Narrow)
    ∷ main 16 1 fits
    ∷ main 17 1 (i.StoreG 0)
    ∷ main 18 0 (i.Next 1 2 12)
    ∷ main 19 0 i.Halt
    ∷ []

abbrev pub Sums : Type 0
Sums = IsPlain sums sums_code 4 2

-- subtype Digit is Integer range 0 .. 9; X : Integer := 3; for I in reverse Digit range 1 .. X loop X := I; end loop;

abbrev pub descends : Program
descends = made_of (digits ∷ []) (object_of 0 1 ∷ []) [] (set_to 0 3 NoDecl)
    (Then (For 0 (Range 0 true (number (pos 1)) (variable 0) (Some (record { at = 0; scalar = digit })) Absent) (Then (assign 0 (Parameter 0 0)) End)) End)

abbrev descends_code : List Line
descends_code =
    main 0 0 (i.Push (pos 3))
    ∷ main 1 1 (integer_to 0)
    ∷ main 2 0 (i.Push (pos 1))
    ∷ main 3 1 (i.StoreL 1)
    ∷ main 4 0 (i.LoadG 0)
    ∷ main 5 1 (i.StoreL 2)
    ∷ main 6 0 (i.LoadL 1)
    ∷ main 7 1 (i.LoadL 2)
    ∷ main 8 2 i.Le
    ∷ main 9 1 (i.JFalse 23)
    ∷ main 10 0 (i.LoadL 1)
    ∷ main 11 1 is_digit
    ∷ main 12 1 i.Pop
    ∷ main 13 0 (i.LoadL 2)
    ∷ main 14 1 is_digit
    ∷ main 15 1 i.Pop
    ∷ main 16 0 (i.Jump 18)
    ∷ main 17 0 (i.Jump 23)
    ∷ main 18 0 i.Turn
    ∷ main 19 0 (i.LoadL 2)
    ∷ main 20 1 fits
    ∷ main 21 1 (i.StoreG 0)
    ∷ main 22 0 (i.Prior 2 1 18)
    ∷ main 23 0 i.Halt
    ∷ []

abbrev pub Descends : Type 0
Descends = IsPlain descends descends_code 4 2

-- X : Integer := 0; for I in 1 .. 3 when I /= 2 loop X := I; end loop;

abbrev pub skips : Program
skips = made_of [] (object_of 0 1 ∷ []) [] (set_to 0 0 NoDecl)
    (Then (For 0 (Range 0 false (number (pos 1)) (number (pos 3)) None (Present (Relation integers comparison.Unequal (Parameter 0 0) (number (pos 2))))) (Then (assign 0 (Parameter 0 0)) End)) End)

abbrev skips_code : List Line
skips_code =
    main 0 0 (i.Push (pos 0))
    ∷ main 1 1 (integer_to 0)
    ∷ main 2 0 (i.Push (pos 1))
    ∷ main 3 1 (i.StoreL 1)
    ∷ main 4 0 (i.Push (pos 3))
    ∷ main 5 1 (i.StoreL 2)
    ∷ main 6 0 (i.LoadL 1)
    ∷ main 7 1 (i.LoadL 2)
    ∷ main 8 2 i.Le
    ∷ main 9 1 (i.JFalse 21)
    ∷ main 10 0 (i.Jump 12)
    ∷ main 11 0 (i.Jump 21)
    ∷ main 12 0 i.Turn
    ∷ main 13 0 (i.LoadL 1)
    ∷ main 14 1 (i.Push (pos 2))
    ∷ main 15 2 i.Ne
    ∷ main 16 1 (i.JFalse 20)
    ∷ main 17 0 (i.LoadL 1)
    ∷ main 18 1 fits
    ∷ main 19 1 (i.StoreG 0)
    ∷ main 20 0 (i.Next 1 2 12)
    ∷ main 21 0 i.Halt
    ∷ []

abbrev pub Skips : Type 0
Skips = IsPlain skips skips_code 4 2

-- A : array (1 .. 3) of Integer; S : Integer := 0; for E of A loop S := S + E; end loop;

abbrev pub visits : Program
visits = made_of (array_of 3 ∷ []) (object_of 1 3 ∷ object_of 0 1 ∷ []) [] (DeclareDefault 0 (set_to 1 0 NoDecl))
    (Then (For 0 (Components 0 false 0 (root.Object 0) Whole 3 1 1 Absent) (Then (assign 1 (sum (variable 1) (Variable 0 (root.Item 0) Whole integer))) End)) End)

abbrev visits_code : List Line
visits_code =
    main 0 0 (i.Push integer.low)
    ∷ main 1 1 (i.StoreL 0)
    ∷ main 2 0 (i.Local 1)
    ∷ main 3 1 (i.Local 0)
    ∷ main 4 2 (i.Copy 1)
    ∷ main 5 0 (i.Local 2)
    ∷ main 6 1 (i.Local 0)
    ∷ main 7 2 (i.Copy 1)
    ∷ main 8 0 (i.Push (pos 0))
    ∷ main 9 1 (integer_to 3)
    ∷ main 10 0 (i.Global 0)
    ∷ main 11 1 (i.StoreL 4)
    ∷ main 12 0 (i.Push (pos 1))
    ∷ main 13 1 (i.StoreL 5)
    ∷ main 14 0 (i.Push (pos 3))
    ∷ main 15 1 (i.StoreL 6)
    ∷ main 16 0 (i.Jump 18)
    ∷ main 17 0 (i.Jump 29)
    ∷ main 18 0 i.Turn
    ∷ main 19 0 (i.LoadG 3)
    ∷ main 20 1 (i.LoadL 4)
    ∷ main 21 2 i.Load
    ∷ main 22 2 (i.Add Narrow)
    ∷ main 23 1 fits
    ∷ main 24 1 (i.StoreG 3)
    ∷ main 25 0 (i.LoadL 4)
    ∷ main 26 1 (i.Field 1)
    ∷ main 27 1 (i.StoreL 4)
    ∷ main 28 0 (i.Next 5 6 18)
    ∷ main 29 0 i.Halt
    ∷ []

abbrev pub Visits : Type 0
Visits = IsPlain visits visits_code 8 2

-- X : Integer := 0; X := [for I in 1 .. 3 => I * 2]'Reduce ("+", 0);

abbrev pub reduces : Program
reduces = made_of [] (object_of 0 1 ∷ []) [] (set_to 0 0 NoDecl)
    (Then (assign 0 (Reduction 0 0 (reducer.Operator 0 op.Add integers) (number (pos 0)) None NoChunk (upto 0 3) (Binary 0 op.Mul integers (Parameter 0 0) (number (pos 2))))) End)

abbrev reduces_code : List Line
reduces_code =
    main 0 0 (i.Push (pos 0))
    ∷ main 1 1 (integer_to 0)
    ∷ main 2 0 (i.Push (pos 0))
    ∷ main 3 1 (i.Push (pos 1))
    ∷ main 4 2 (i.StoreL 1)
    ∷ main 5 1 (i.Push (pos 3))
    ∷ main 6 2 (i.StoreL 2)
    ∷ main 7 1 (i.LoadL 1)
    ∷ main 8 2 (i.LoadL 2)
    ∷ main 9 3 i.Le
    ∷ main 10 2 (i.JFalse 18)
    ∷ main 11 1 (i.Jump 13)
    ∷ main 12 1 (i.Jump 18)
    ∷ main 13 1 i.Turn
    ∷ main 14 1 (i.LoadL 1)
    ∷ main 15 2 (i.MulI (pos 2) Narrow)
    ∷ main 16 2 (i.Add Narrow)
    ∷ main 17 1 (i.Next 1 2 13)
    ∷ main 18 1 fits
    ∷ main 19 1 (i.StoreG 0)
    ∷ main 20 0 i.Halt
    ∷ []

abbrev pub Reduces : Type 0
Reduces = IsPlain reduces reduces_code 4 3

-- A : array (1 .. 2, 1 .. 2) of Integer; X : Integer := 1; for I in 1 .. 2 loop X := A (I, I) + A (X, X); end loop;

abbrev on_diagonal : Expr → Expr
on_diagonal e = Variable 0 (root.Object 0) (Index 0 e (pos 1) (pos 2) 2 (Index 0 e (pos 1) (pos 2) 1 Whole)) integer

abbrev pub crosses : Program
crosses = made_of (Array (record { low = pos 1; high = pos 2 } ∷ record { low = pos 1; high = pos 2 } ∷ []) 0 ∷ []) (object_of 1 4 ∷ object_of 0 1 ∷ []) [] (DeclareDefault 0 (set_to 1 1 NoDecl))
    (Then (For 0 (upto 0 2) (Then (assign 1 (sum (on_diagonal (Parameter 0 0)) (on_diagonal (variable 1)))) End)) End)

abbrev crosses_code : List Line
crosses_code =
    main 0 0 (i.Push integer.low)
    ∷ main 1 1 (i.StoreL 0)
    ∷ main 2 0 (i.Local 1)
    ∷ main 3 1 (i.Local 0)
    ∷ main 4 2 (i.Copy 1)
    ∷ main 5 0 (i.Local 2)
    ∷ main 6 1 (i.Local 0)
    ∷ main 7 2 (i.Copy 2)
    ∷ main 8 0 (i.Push (pos 1))
    ∷ main 9 1 (integer_to 4)
    ∷ main 10 0 (i.Push (pos 1))
    ∷ main 11 1 (i.StoreL 5)
    ∷ main 12 0 (i.Push (pos 2))
    ∷ main 13 1 (i.StoreL 6)
    ∷ main 14 0 (i.LoadL 5)
    ∷ main 15 1 (i.LoadL 6)
    ∷ main 16 2 i.Le
    ∷ main 17 1 (i.JFalse 32)
    ∷ main 18 0 (i.Jump 20)
    ∷ main 19 0 (i.Jump 32)
    ∷ main 20 0 i.Turn
    ∷ main 21 0 (i.IndexG 0 (pos 1) (pos 2) 2 5)
    ∷ main 22 1 (i.ItemL 5 (pos 1) (pos 2) 1)
    ∷ main 23 1 (i.Global 0)
    ∷ main 24 2 (i.LoadG 4)
    ∷ main 25 3 (i.Index (pos 1) (pos 2) 2)
    ∷ main 26 2 (i.LoadG 4)
    ∷ main 27 3 (i.Item (pos 1) (pos 2) 1)
    ∷ main 28 2 (i.Add Narrow)
    ∷ main 29 1 fits
    ∷ main 30 1 (i.StoreG 4)
    ∷ main 31 0 (i.Next 5 6 20)
    ∷ main 32 0 i.Halt
    ∷ []

abbrev pub Crosses : Type 0
Crosses = IsPlain crosses crosses_code 8 3

-- A : array (1 .. 3) of Integer; X : Integer := 7; for I in 1 .. 3 loop X := ((A (I) - 1) * 3 + X) mod 5 / 2; end loop;

abbrev times : op.the_data → Expr → (right : ℕ) → Expr
times o e n = Binary 0 o integers e (number (pos n))

abbrev pub mixes : Program
mixes = made_of (array_of 3 ∷ []) (object_of 1 3 ∷ object_of 0 1 ∷ []) [] (DeclareDefault 0 (set_to 1 7 NoDecl))
    (Then (For 0 (upto 0 3) (Then (assign 1 (times op.Div (times op.Mod (sum (times op.Mul (times op.Sub (Variable 0 (root.Object 0) (Index 0 (Parameter 0 0) (pos 1) (pos 3) 1 Whole) integer) 1) 3) (variable 1)) 5) 2)) End)) End)

abbrev mixes_code : List Line
mixes_code =
    main 0 0 (i.Push integer.low)
    ∷ main 1 1 (i.StoreL 0)
    ∷ main 2 0 (i.Local 1)
    ∷ main 3 1 (i.Local 0)
    ∷ main 4 2 (i.Copy 1)
    ∷ main 5 0 (i.Local 2)
    ∷ main 6 1 (i.Local 0)
    ∷ main 7 2 (i.Copy 1)
    ∷ main 8 0 (i.Push (pos 7))
    ∷ main 9 1 (integer_to 3)
    ∷ main 10 0 (i.Push (pos 1))
    ∷ main 11 1 (i.StoreL 4)
    ∷ main 12 0 (i.Push (pos 3))
    ∷ main 13 1 (i.StoreL 5)
    ∷ main 14 0 (i.LoadL 4)
    ∷ main 15 1 (i.LoadL 5)
    ∷ main 16 2 i.Le
    ∷ main 17 1 (i.JFalse 32)
    ∷ main 18 0 (i.Jump 20)
    ∷ main 19 0 (i.Jump 32)
    ∷ main 20 0 i.Turn
    ∷ main 21 0 (i.ItemG 0 (pos 1) (pos 3) 1 4)
    ∷ main 22 1 (i.SubI (pos 1) Narrow)
    ∷ main 23 1 (i.MulI (pos 3) Narrow)
    ∷ main 24 1 (i.LoadG 3)
    ∷ main 25 2 (i.Add Narrow)
    ∷ main 26 1 (i.ModI (pos 5) Narrow)
    ∷ main 27 1 (i.Push (pos 2))
    ∷ main 28 2 (i.Div Narrow)
    ∷ main 29 1 fits
    ∷ main 30 1 (i.StoreG 3)
    ∷ main 31 0 (i.Next 4 5 20)
    ∷ main 32 0 i.Halt
    ∷ []

abbrev pub Mixes : Type 0
Mixes = IsPlain mixes mixes_code 7 2

abbrev pub LoopRows : Type 0
LoopRows = Counts × Exits × Sums × Descends × Skips × Visits × Reduces × Crosses × Mixes
