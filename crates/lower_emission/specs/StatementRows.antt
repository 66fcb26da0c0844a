-- Programs of simple statements (5.2), choices (5.3, 5.4), aggregates (4.3), names (4.1), output and input (A.10), and their
-- code by hand.
use Rattle.std.specs.Prelude.{ℕ, pos, List, [], ◌∷◌, Some, None, true, false}
use Rattle.ada_base.specs.declared.operation.Base.TheVariants.{Narrow, Wide}
use Rattle.ada_base.specs.declared.operation.Comparison.TheVariants as comparison
use Rattle.typed_tree.specs.declared.expressions.Root.TheVariants as root
use Rattle.typed_tree.specs.declared.expressions.Run.{Run}
use Rattle.typed_tree.specs.Syntax as syntax
use Rattle.typed_tree.specs.Syntax.{Expr, Variable, Parameter, Target, Relation, NoExpr, Selections, Whole, Field, Index, Cells, Aggregate, NoAssociation, Association, Associations, NoPiece, Text, Image, NoDecl, DeclareDefault, DeclareVariable, Assign, IfThen, Case, Put, End, Then, NoAlternative, Alternative, Program}
use Rattle.ada_meaning.specs.Rows.{integers, integer, number, variable, sum, stored, assign, object_of, made_of, array_of, get_into}
use Rattle.stack_code.specs.declared.instr.Instr.TheVariants as i
use Rattle.lower_emission.specs.Lines.{Line, main, fits, integer_to, set_to, procedure, no_leases, IsCode, IsPlain}

-- X : Integer := 2; X := X + 3; Put (Integer'Image (X));

abbrev pub adds : Program
adds = made_of [] (object_of 0 1 ∷ []) [] (set_to 0 2 NoDecl)
    (Then (assign 0 (sum (variable 0) (number (pos 3)))) (Then (Put 0 0 (Image integers (variable 0) NoPiece) false) End))

abbrev adds_code : List Line
adds_code =
    main 0 0 (i.Push (pos 2))
    ∷ main 1 1 (integer_to 0)
    ∷ main 2 0 (i.LoadG 0)
    ∷ main 3 1 (i.AddI (pos 3) Narrow)
    ∷ main 4 1 fits
    ∷ main 5 1 (i.StoreG 0)
    ∷ main 6 0 (i.LoadG 0)
    ∷ main 7 1 (i.StoreL 1)
    ∷ main 8 0 (i.LoadL 1)
    ∷ main 9 1 i.Img
    ∷ main 10 0 i.Send
    ∷ main 11 0 i.Halt
    ∷ []

abbrev pub Adds : Type 0
Adds = IsPlain adds adds_code 3 1

-- X : Integer := 2; if X < 3 then X := 3; else X := 4; end if; if X = 3 then X := 5; end if;

abbrev pub decides : Program
decides = made_of [] (object_of 0 1 ∷ []) [] (set_to 0 2 NoDecl)
    (Then (IfThen (Relation integers comparison.Less (variable 0) (number (pos 3))) (Then (assign 0 (number (pos 3))) End) (Then (assign 0 (number (pos 4))) End))
    (Then (IfThen (Relation integers comparison.Equal (variable 0) (number (pos 3))) (Then (assign 0 (number (pos 5))) End) End) End))

abbrev decides_code : List Line
decides_code =
    main 0 0 (i.Push (pos 2))
    ∷ main 1 1 (integer_to 0)
    ∷ main 2 0 (i.LoadG 0)
    ∷ main 3 1 (i.Push (pos 3))
    ∷ main 4 2 i.Lt
    ∷ main 5 1 (i.JFalse 10)
    ∷ main 6 0 (i.Push (pos 3))
    ∷ main 7 1 fits
    ∷ main 8 1 (i.StoreG 0)
    ∷ main 9 0 (i.Jump 13)
    ∷ main 10 0 (i.Push (pos 4))
    ∷ main 11 1 fits
    ∷ main 12 1 (i.StoreG 0)
    ∷ main 13 0 (i.LoadG 0)
    ∷ main 14 1 (i.Push (pos 3))
    ∷ main 15 2 i.Eq
    ∷ main 16 1 (i.JFalse 20)
    ∷ main 17 0 (i.Push (pos 5))
    ∷ main 18 1 fits
    ∷ main 19 1 (i.StoreG 0)
    ∷ main 20 0 i.Halt
    ∷ []

abbrev pub Decides : Type 0
Decides = IsPlain decides decides_code 2 2

-- X : Integer := 2; case X is when 1 | 3 .. 4 => X := 5; when others => null; end case;

abbrev pub chooses : Program
chooses = made_of [] (object_of 0 1 ∷ []) [] (set_to 0 2 NoDecl)
    (Then (Case (variable 0) (Alternative false (record { low = pos 1; high = pos 1 } ∷ record { low = pos 3; high = pos 4 } ∷ []) NoExpr (Then (assign 0 (number (pos 5))) End)
    (Alternative true [] NoExpr (Then syntax.Null End) NoAlternative))) End)

abbrev chooses_code : List Line
chooses_code =
    main 0 0 (i.Push (pos 2))
    ∷ main 1 1 (integer_to 0)
    ∷ main 2 0 (i.LoadG 0)
    ∷ main 3 1 (i.StoreL 1)
    ∷ main 4 0 (i.LoadL 1)
    ∷ main 5 1 (i.Push (pos 1))
    ∷ main 6 2 i.Ge
    ∷ main 7 1 (i.LoadL 1)
    ∷ main 8 2 (i.Push (pos 1))
    ∷ main 9 3 i.Le
    ∷ main 10 2 i.Min
    ∷ main 11 1 (i.JFalse 14)
    ∷ main 12 0 (i.Push (pos 1))
    ∷ main 13 1 (i.Jump 25)
    ∷ main 14 0 (i.LoadL 1)
    ∷ main 15 1 (i.Push (pos 3))
    ∷ main 16 2 i.Ge
    ∷ main 17 1 (i.LoadL 1)
    ∷ main 18 2 (i.Push (pos 4))
    ∷ main 19 3 i.Le
    ∷ main 20 2 i.Min
    ∷ main 21 1 (i.JFalse 24)
    ∷ main 22 0 (i.Push (pos 1))
    ∷ main 23 1 (i.Jump 25)
    ∷ main 24 0 (i.Push (pos 0))
    ∷ main 25 1 (i.JFalse 30)
    ∷ main 26 0 (i.Push (pos 5))
    ∷ main 27 1 fits
    ∷ main 28 1 (i.StoreG 0)
    ∷ main 29 0 (i.Jump 30)
    ∷ main 30 0 i.Halt
    ∷ []

abbrev pub Chooses : Type 0
Chooses = IsPlain chooses chooses_code 3 3

-- X : Integer := 3; A : array (1 .. 4) of Integer := [2 => X, others => 0];

abbrev given : List Run → Expr → Associations → Associations
given runs e rest = Association runs None NoExpr (stored e) rest

abbrev run : (first count : ℕ) → Run
run first count = record { first = first; count = count; stride = 1 }

abbrev array_with : ℕ → Associations → Program
array_with n associations = made_of (array_of n ∷ []) (object_of 0 1 ∷ object_of 1 n ∷ []) [] (set_to 0 3 (DeclareVariable 1 (Cells (Aggregate 0 n associations)) NoDecl)) End

abbrev pub fills : Program
fills = array_with 4 (given (run 1 1 ∷ []) (variable 0) (given (run 0 1 ∷ run 2 2 ∷ []) (number (pos 0)) NoAssociation))

abbrev fills_code : List Line
fills_code =
    main 0 0 (i.Push (pos 3))
    ∷ main 1 1 (integer_to 0)
    ∷ main 2 0 (i.Local 1)
    ∷ main 3 1 (i.Fill 4 (pos 0))
    ∷ main 4 0 (i.LoadG 0)
    ∷ main 5 1 (integer_to 2)
    ∷ main 6 0 (i.Push (pos 0))
    ∷ main 7 1 (integer_to 1)
    ∷ main 8 0 (i.Push (pos 0))
    ∷ main 9 1 (integer_to 3)
    ∷ main 10 0 (i.Local 4)
    ∷ main 11 1 (i.Local 3)
    ∷ main 12 2 (i.Copy 1)
    ∷ main 13 0 i.Halt
    ∷ []

abbrev pub Fills : Type 0
Fills = IsPlain fills fills_code 6 2

-- X : Integer := 3; A : array (1 .. 3) of Integer := [others => X + 1]; and [for K in 1 .. 3 => X + K];

abbrev pub computes : Program
computes = array_with 3 (given (run 0 3 ∷ []) (sum (variable 0) (number (pos 1))) NoAssociation)

abbrev computes_code : List Line
computes_code =
    main 0 0 (i.Push (pos 3))
    ∷ main 1 1 (integer_to 0)
    ∷ main 2 0 (i.Local 1)
    ∷ main 3 1 (i.Fill 3 (pos 0))
    ∷ main 4 0 (i.Push (pos 0))
    ∷ main 5 1 (i.StoreL 4)
    ∷ main 6 0 (i.Repeat 3)
    ∷ main 7 0 (i.Local 1)
    ∷ main 8 1 (i.LoadL 4)
    ∷ main 9 2 (i.Index (pos 0) (pos 2) 1)
    ∷ main 10 1 (i.StoreL 5)
    ∷ main 11 0 (i.LoadL 5)
    ∷ main 12 1 (i.LoadG 0)
    ∷ main 13 2 (i.AddI (pos 1) Narrow)
    ∷ main 14 2 fits
    ∷ main 15 2 i.Store
    ∷ main 16 0 (i.LoadL 4)
    ∷ main 17 1 (i.AddI (pos 1) Wide)
    ∷ main 18 1 (i.StoreL 4)
    ∷ main 19 0 (i.Again 7)
    ∷ main 20 0 i.Halt
    ∷ []

-- an association with the parameter K, from 1 on
abbrev numbered : List Run → Associations
numbered runs = Association runs (Some (record { parameter = 0; first = pos 1 })) NoExpr (stored (sum (variable 0) (Parameter 0 0))) NoAssociation

abbrev pub numbers : Program
numbers = array_with 3 (numbered (run 0 3 ∷ []))

abbrev numbers_code : List Line
numbers_code =
    main 0 0 (i.Push (pos 3))
    ∷ main 1 1 (integer_to 0)
    ∷ main 2 0 (i.Local 1)
    ∷ main 3 1 (i.Fill 3 (pos 0))
    ∷ main 4 0 (i.Push (pos 1))
    ∷ main 5 1 (i.StoreL 4)
    ∷ main 6 0 (i.Push (pos 3))
    ∷ main 7 1 (i.StoreL 5)
    ∷ main 8 0 (i.Local 1)
    ∷ main 9 1 (i.StoreL 6)
    ∷ main 10 0 (i.Jump 12)
    ∷ main 11 0 (i.Jump 23)
    ∷ main 12 0 i.Turn
    ∷ main 13 0 (i.LoadL 6)
    ∷ main 14 1 (i.LoadG 0)
    ∷ main 15 2 (i.LoadL 4)
    ∷ main 16 3 (i.Add Narrow)
    ∷ main 17 2 fits
    ∷ main 18 2 i.Store
    ∷ main 19 0 (i.LoadL 6)
    ∷ main 20 1 (i.Field 1)
    ∷ main 21 1 (i.StoreL 6)
    ∷ main 22 0 (i.Next 4 5 12)
    ∷ main 23 0 i.Halt
    ∷ []

abbrev pub Computes : Type 0
Computes = IsPlain computes computes_code 7 2 × IsPlain numbers numbers_code 8 3

-- X : Integer := 3; A : array (1 .. 3) of Integer := [2 => 0, others => X + 1]; and the others from a parameter, in two runs

abbrev pub goes_round : Program
goes_round = array_with 3 (given (run 1 1 ∷ []) (number (pos 0)) (given (run 0 1 ∷ run 2 1 ∷ []) (sum (variable 0) (number (pos 1))) NoAssociation))

abbrev goes_round_code : List Line
goes_round_code =
    main 0 0 (i.Push (pos 3))
    ∷ main 1 1 (integer_to 0)
    ∷ main 2 0 (i.Local 1)
    ∷ main 3 1 (i.Fill 3 (pos 0))
    ∷ main 4 0 (i.Push (pos 0))
    ∷ main 5 1 (integer_to 2)
    ∷ main 6 0 (i.Push (pos 0))
    ∷ main 7 1 (i.StoreL 4)
    ∷ main 8 0 (i.Repeat 2)
    ∷ main 9 0 (i.LoadL 4)
    ∷ main 10 1 (i.Push (pos 1))
    ∷ main 11 2 i.Lt
    ∷ main 12 1 (i.JFalse 18)
    ∷ main 13 0 (i.Local 1)
    ∷ main 14 1 (i.LoadL 4)
    ∷ main 15 2 (i.Index (pos 0) (pos 0) 1)
    ∷ main 16 1 (i.StoreL 5)
    ∷ main 17 0 (i.Jump 22)
    ∷ main 18 0 (i.Local 3)
    ∷ main 19 1 (i.LoadL 4)
    ∷ main 20 2 (i.Index (pos 1) (pos 1) 1)
    ∷ main 21 1 (i.StoreL 5)
    ∷ main 22 0 (i.LoadL 5)
    ∷ main 23 1 (i.LoadG 0)
    ∷ main 24 2 (i.AddI (pos 1) Narrow)
    ∷ main 25 2 fits
    ∷ main 26 2 i.Store
    ∷ main 27 0 (i.LoadL 4)
    ∷ main 28 1 (i.AddI (pos 1) Wide)
    ∷ main 29 1 (i.StoreL 4)
    ∷ main 30 0 (i.Again 9)
    ∷ main 31 0 i.Halt
    ∷ []

abbrev pub rounds : Program
rounds = array_with 3 (given (run 1 1 ∷ []) (number (pos 0)) (numbered (run 0 1 ∷ run 2 1 ∷ [])))

abbrev rounds_code : List Line
rounds_code =
    main 0 0 (i.Push (pos 3))
    ∷ main 1 1 (integer_to 0)
    ∷ main 2 0 (i.Local 1)
    ∷ main 3 1 (i.Fill 3 (pos 0))
    ∷ main 4 0 (i.Push (pos 0))
    ∷ main 5 1 (integer_to 2)
    ∷ main 6 0 (i.Push (pos 0))
    ∷ main 7 1 (i.Push (pos 1))
    ∷ main 8 2 (i.StoreL 4)
    ∷ main 9 1 (i.Push (pos 1))
    ∷ main 10 2 (i.StoreL 5)
    ∷ main 11 1 (i.Local 1)
    ∷ main 12 2 (i.StoreL 6)
    ∷ main 13 1 (i.Jump 15)
    ∷ main 14 1 (i.Jump 47)
    ∷ main 15 1 i.Turn
    ∷ main 16 1 (i.LoadL 6)
    ∷ main 17 2 (i.LoadG 0)
    ∷ main 18 3 (i.LoadL 4)
    ∷ main 19 4 (i.Add Narrow)
    ∷ main 20 3 fits
    ∷ main 21 3 i.Store
    ∷ main 22 1 i.Dup
    ∷ main 23 2 (i.Push (pos 0))
    ∷ main 24 3 i.Eq
    ∷ main 25 2 (i.JFalse 39)
    ∷ main 26 1 (i.LoadL 6)
    ∷ main 27 2 (i.Field 1)
    ∷ main 28 2 (i.StoreL 6)
    ∷ main 29 1 (i.Next 4 5 15)
    ∷ main 30 1 i.Pop
    ∷ main 31 0 (i.Push (pos 1))
    ∷ main 32 1 (i.Push (pos 1))
    ∷ main 33 2 (i.StoreL 4)
    ∷ main 34 1 (i.Push (pos 1))
    ∷ main 35 2 (i.StoreL 5)
    ∷ main 36 1 (i.Local 3)
    ∷ main 37 2 (i.StoreL 6)
    ∷ main 38 1 (i.Jump 15)
    ∷ main 39 1 i.Dup
    ∷ main 40 2 (i.Push (pos 1))
    ∷ main 41 3 i.Eq
    ∷ main 42 2 (i.JFalse 47)
    ∷ main 43 1 (i.LoadL 6)
    ∷ main 44 2 (i.Field 1)
    ∷ main 45 2 (i.StoreL 6)
    ∷ main 46 1 (i.Next 4 5 15)
    ∷ main 47 1 i.Pop
    ∷ main 48 0 i.Halt
    ∷ []

abbrev pub GoesRound : Type 0
GoesRound = IsPlain goes_round goes_round_code 7 2 × IsPlain rounds rounds_code 8 4

-- type Pair is record P, Q : Integer; end record; type Pairs is array (1 .. 2) of Pair; X : Integer := 1; V : Pairs;
-- V (X).Q := @ + V (2).P;

abbrev field_of : Expr → (number : ℕ) → Selections
field_of e n = Index 0 e (pos 1) (pos 2) 2 (Field n n Whole)

abbrev pub selects : Program
selects = made_of (syntax.Record (record { name = 0; subtype = 0 } ∷ record { name = 0; subtype = 0 } ∷ []) ∷ syntax.Array (record { low = pos 1; high = pos 2 } ∷ []) 1 ∷ [])
    (object_of 0 1 ∷ object_of 2 4 ∷ []) [] (set_to 0 1 (DeclareDefault 1 NoDecl))
    (Then (Assign 0 (root.Object 1) (field_of (variable 0) 1) (stored (sum (Target 0 integer) (Variable 0 (root.Object 1) (field_of (number (pos 2)) 0) integer)))) End)

abbrev selects_code : List Line
selects_code =
    main 0 0 (i.Push (pos 1))
    ∷ main 1 1 (integer_to 0)
    ∷ main 2 0 (i.Push integer.low)
    ∷ main 3 1 (i.StoreL 1)
    ∷ main 4 0 (i.Push integer.low)
    ∷ main 5 1 (i.StoreL 2)
    ∷ main 6 0 (i.Local 3)
    ∷ main 7 1 (i.Local 1)
    ∷ main 8 2 (i.Copy 2)
    ∷ main 9 0 (i.Global 1)
    ∷ main 10 1 (i.LoadG 0)
    ∷ main 11 2 (i.Index (pos 1) (pos 2) 2)
    ∷ main 12 1 (i.Field 1)
    ∷ main 13 1 i.Dup
    ∷ main 14 2 (i.StoreL 5)
    ∷ main 15 1 (i.LoadL 5)
    ∷ main 16 2 i.Load
    ∷ main 17 2 (i.Global 1)
    ∷ main 18 3 (i.Push (pos 2))
    ∷ main 19 4 (i.Index (pos 1) (pos 2) 2)
    ∷ main 20 3 (i.Field 0)
    ∷ main 21 3 i.Load
    ∷ main 22 3 (i.Add Narrow)
    ∷ main 23 2 fits
    ∷ main 24 2 i.Store
    ∷ main 25 0 i.Halt
    ∷ []

abbrev pub Selects : Type 0
Selects = IsPlain selects selects_code 7 4

-- X : Integer; Get (X); Put_Line ("X" & Integer'Image (X));

abbrev pub gets : Program
gets = made_of [] (object_of 0 1 ∷ []) [] (DeclareDefault 0 NoDecl) (Then (get_into 0) (Then (Put 0 0 (Text (88 ∷ []) (Image integers (variable 0) NoPiece)) true) End))

abbrev gets_code : List Line
gets_code =
    main 0 0 (i.Push integer.low)
    ∷ main 1 1 (i.StoreL 0)
    ∷ main 2 0 (i.Global 0)
    ∷ main 3 1 i.Get
    ∷ main 4 2 fits
    ∷ main 5 2 i.Store
    ∷ main 6 0 (i.LoadG 0)
    ∷ main 7 1 (i.StoreL 1)
    ∷ main 8 0 (i.Words 0)
    ∷ main 9 0 (i.LoadL 1)
    ∷ main 10 1 i.Img
    ∷ main 11 0 i.SendLn
    ∷ main 12 0 i.Halt
    ∷ []

abbrev pub Gets : Type 0
Gets = IsCode gets no_leases gets_code [] [] (procedure 0 3 2 ∷ []) ((88 ∷ []) ∷ [])

abbrev pub StatementRows : Type 0
StatementRows = Adds × Decides × Chooses × Fills × Computes × GoesRound × Selects × Gets
