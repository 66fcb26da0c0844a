-- More programs with parallel constructs (5.5, 5.5.2, 5.6.1, 4.5.10), their code by hand, and the cells that their
-- threads are lent.
use Rattle.std.specs.Prelude.{ℕ, zero, suc, pos, negsuc, List, [], ◌∷◌, Some, None, true, false}
use Rattle.ada_base.specs.declared.operation.Base.TheVariants.{Narrow}
use Rattle.ada_base.specs.declared.operation.Op.TheVariants as op
use Rattle.ada_base.specs.declared.reason.Reason.TheVariants as reason
use Rattle.typed_tree.specs.declared.expressions.Reducer.TheVariants as reducer
use Rattle.typed_tree.specs.declared.expressions.Root.TheVariants as root
use Rattle.typed_tree.specs.declared.program.Mode.TheVariants as mode
use Rattle.typed_tree.specs.declared.program.SiteKind.TheVariants as kind
use Rattle.typed_tree.specs.declared.scalars.Scalar.{Scalar}
use Rattle.typed_tree.specs.Syntax as syntax
use Rattle.typed_tree.specs.Syntax.{Expr, AlsoExpr, Each, Count, Constant, Parameter, Call, Reduction, NoExpr, Absent, Whole, NoActual, Number, Components, NoChunk, NoDecl, DeclareDefault, DeclareVariable, Assign, ReturnValue, ParallelFor, Parallel, Block, End, Then, NoArm, Arm, NoHandler, Handler, Program}
use Rattle.ada_meaning.specs.Rows.{integers, integer, number, variable, sum, stored, assign, object_of, made_of, upto, array_of, indexed, formal}
use Rattle.stack_code.specs.declared.code.Around.TheVariants.{Sub, Site}
use Rattle.stack_code.specs.declared.code.Lease.{Lease}
use Rattle.stack_code.specs.declared.code.SiteKind.TheVariants as code_kind
use Rattle.stack_code.specs.declared.code.Step.TheVariants as step
use Rattle.stack_code.specs.declared.instr.Instr.TheVariants as i
use Rattle.lower_emission.specs.Lines.{Line, main, begun, begun_within, begun_thread, inner_thread, guarded, is_signed, signed_to, signed, thread, within, fits, integer_to, is_digit, digit, digits, set_to, procedure, function, no_leases, IsCode}
use Rattle.lower_emission.specs.ConstructRows.{site_of, with_site, begins, lends}

-- A : array (1 .. 2) of Integer; parallel (C in 1 .. 2) for I in 1 .. 4 loop A (C) := I; end loop;

abbrev pub deals : Program
deals = with_site kind.Loop (made_of (array_of 2 ∷ []) (object_of 1 2 ∷ []) [] (DeclareDefault 0 NoDecl)
    (Then (ParallelFor 0 0 (Each 0 (number (pos 1)) (number (pos 2)) None) (upto 1 4) (Then (Assign 0 (root.Object 0) (indexed 2 (Parameter 0 0)) (stored (Parameter 0 1))) End)) End))

abbrev deals_code : List Line
deals_code =
    main 0 0 (i.Push integer.low)
    ∷ main 1 1 (i.StoreL 0)
    ∷ main 2 0 (i.Local 1)
    ∷ main 3 1 (i.Local 0)
    ∷ main 4 2 (i.Copy 1)
    ∷ main 5 0 i.Nest
    ∷ begun 6 0 (i.Push (pos 1))
    ∷ begun 7 1 (i.StoreL 2)
    ∷ begun 8 0 (i.Push (pos 2))
    ∷ begun 9 1 (i.StoreL 3)
    ∷ begun 10 0 (i.LoadL 2)
    ∷ begun 11 1 (i.LoadL 3)
    ∷ begun 12 2 i.Gt
    ∷ begun 13 1 (i.JFalse 15)
    ∷ begun 14 0 (i.Raise reason.ProgramError)
    ∷ begun 15 0 (i.LoadL 2)
    ∷ begun 16 1 (i.LoadL 3)
    ∷ begun 17 2 (i.Far 4096)
    ∷ begun 18 1 (i.JFalse 20)
    ∷ begun 19 0 (i.Raise reason.StorageError)
    ∷ begun 20 0 (i.Push (pos 1))
    ∷ begun 21 1 (i.StoreL 4)
    ∷ begun 22 0 (i.Push (pos 4))
    ∷ begun 23 1 (i.StoreL 5)
    ∷ begun 24 0 (i.LoadL 4)
    ∷ begun 25 1 (i.LoadL 5)
    ∷ begun 26 2 i.Le
    ∷ begun 27 1 (i.JFalse 28)
    ∷ begun 28 0 (i.LoadL 4)
    ∷ begun 29 1 (i.LoadL 5)
    ∷ begun 30 2 (i.LoadL 2)
    ∷ begun 31 3 (i.LoadL 3)
    ∷ begun 32 4 (i.Push (pos 0))
    ∷ begun 33 5 (i.Fork 0)
    ∷ begun 34 2 (i.Jump 51)
    ∷ thread 35 0 (i.LoadL 2)
    ∷ thread 36 1 (i.LoadL 3)
    ∷ thread 37 2 i.Le
    ∷ thread 38 1 (i.JFalse 50)
    ∷ thread 39 0 (i.Jump 41)
    ∷ thread 40 0 (i.Jump 50)
    ∷ thread 41 0 i.Turn
    ∷ thread 42 0 (i.Global 0)
    ∷ thread 43 1 (i.IndexL 0 (pos 1) (pos 2) 1)
    ∷ thread 44 1 i.Dup
    ∷ thread 45 2 (i.StoreL 4)
    ∷ thread 46 1 (i.LoadL 2)
    ∷ thread 47 2 fits
    ∷ thread 48 2 i.Store
    ∷ thread 49 0 (i.Next 2 3 41)
    ∷ thread 50 0 i.End
    ∷ begun 51 2 i.Unnest
    ∷ main 52 2 (i.StoreL 6)
    ∷ main 53 1 (i.StoreL 7)
    ∷ main 54 0 (i.LoadL 6)
    ∷ main 55 1 (i.JFalse 67)
    ∷ main 56 0 (i.LoadL 6)
    ∷ main 57 1 (i.Push (pos 1))
    ∷ main 58 2 i.Eq
    ∷ main 59 1 (i.JFalse 61)
    ∷ main 60 0 i.Halt
    ∷ main 61 0 (i.LoadL 6)
    ∷ main 62 1 (i.Push (pos 2))
    ∷ main 63 2 i.Eq
    ∷ main 64 1 (i.JFalse 67)
    ∷ main 65 0 (i.LoadL 7)
    ∷ main 66 1 i.Halt
    ∷ main 67 0 i.Halt
    ∷ []

-- A (C)
abbrev pub deals_lent : ℕ → List Lease
deals_lent site = lends 0 None 0 (step.Chunk (pos 1) 2 1 ∷ []) ∷ []

abbrev pub Deals : Type 0
Deals = IsCode deals deals_lent deals_code [] (begins (Sub 0) 35 6 2 code_kind.ChunkLoop (deals_lent 0) ∷ []) (procedure 0 9 5 ∷ []) []

-- A : array (1 .. 2) of Integer; parallel for E of A loop E := 1; end loop;

abbrev pub marks : Program
marks = with_site kind.Loop (made_of (array_of 2 ∷ []) (object_of 1 2 ∷ []) [] (DeclareDefault 0 NoDecl)
    (Then (ParallelFor 0 0 NoChunk (Components 0 false 0 (root.Object 0) Whole 2 1 1 Absent) (Then (Assign 0 (root.Item 0) Whole (stored (number (pos 1)))) End)) End))

abbrev marks_code : List Line
marks_code =
    main 0 0 (i.Push integer.low)
    ∷ main 1 1 (i.StoreL 0)
    ∷ main 2 0 (i.Local 1)
    ∷ main 3 1 (i.Local 0)
    ∷ main 4 2 (i.Copy 1)
    ∷ main 5 0 i.Nest
    ∷ begun 6 0 (i.Push (pos 1))
    ∷ begun 7 1 (i.StoreL 2)
    ∷ begun 8 0 (i.Push (pos 4096))
    ∷ begun 9 1 (i.StoreL 3)
    ∷ begun 10 0 (i.Global 0)
    ∷ begun 11 1 (i.StoreL 4)
    ∷ begun 12 0 (i.Push (pos 1))
    ∷ begun 13 1 (i.Push (pos 2))
    ∷ begun 14 2 (i.LoadL 2)
    ∷ begun 15 3 (i.LoadL 3)
    ∷ begun 16 4 (i.Push (pos 0))
    ∷ begun 17 5 (i.Fork 0)
    ∷ begun 18 2 (i.Jump 41)
    ∷ thread 19 0 (i.LoadL 2)
    ∷ thread 20 1 (i.LoadL 3)
    ∷ thread 21 2 i.Le
    ∷ thread 22 1 (i.JFalse 40)
    ∷ thread 23 0 (i.LoadO 1 4)
    ∷ thread 24 1 (i.LoadL 2)
    ∷ thread 25 2 (i.Index (pos 1) (pos 2) 1)
    ∷ thread 26 1 (i.StoreL 4)
    ∷ thread 27 0 (i.Jump 29)
    ∷ thread 28 0 (i.Jump 40)
    ∷ thread 29 0 i.Turn
    ∷ thread 30 0 (i.LoadL 4)
    ∷ thread 31 1 i.Dup
    ∷ thread 32 2 (i.StoreL 5)
    ∷ thread 33 1 (i.Push (pos 1))
    ∷ thread 34 2 fits
    ∷ thread 35 2 i.Store
    ∷ thread 36 0 (i.LoadL 4)
    ∷ thread 37 1 (i.Field 1)
    ∷ thread 38 1 (i.StoreL 4)
    ∷ thread 39 0 (i.Next 2 3 29)
    ∷ thread 40 0 i.End
    ∷ begun 41 2 i.Unnest
    ∷ main 42 2 (i.StoreL 6)
    ∷ main 43 1 (i.StoreL 7)
    ∷ main 44 0 (i.LoadL 6)
    ∷ main 45 1 (i.JFalse 57)
    ∷ main 46 0 (i.LoadL 6)
    ∷ main 47 1 (i.Push (pos 1))
    ∷ main 48 2 i.Eq
    ∷ main 49 1 (i.JFalse 51)
    ∷ main 50 0 i.Halt
    ∷ main 51 0 (i.LoadL 6)
    ∷ main 52 1 (i.Push (pos 2))
    ∷ main 53 2 i.Eq
    ∷ main 54 1 (i.JFalse 57)
    ∷ main 55 0 (i.LoadL 7)
    ∷ main 56 1 i.Halt
    ∷ main 57 0 i.Halt
    ∷ []

-- E
abbrev pub marks_lent : ℕ → List Lease
marks_lent site = lends 0 None 0 (step.Loop (pos 1) 2 1 ∷ []) ∷ []

abbrev pub Marks : Type 0
Marks = IsCode marks marks_lent marks_code [] (begins (Sub 0) 19 7 2 code_kind.Loop (marks_lent 0) ∷ []) (procedure 0 9 5 ∷ []) []

-- declare Y : Integer := 0; begin parallel do Y := 1; and null; end do; end;

abbrev pub reaches : Program
reaches = with_site (kind.Block 2) (made_of [] (object_of 0 1 ∷ []) [] NoDecl
    (Then (Block (set_to 0 0 NoDecl) (Then (Parallel 0 Absent (Arm (Then (assign 0 (number (pos 1))) End) (Arm (Then syntax.Null End) NoArm))) End) NoHandler) End))

abbrev reaches_code : List Line
reaches_code =
    main 0 0 (i.Push (pos 0))
    ∷ main 1 1 (integer_to 0)
    ∷ main 2 0 i.Nest
    ∷ begun 3 0 (i.Push (pos 1))
    ∷ begun 4 1 (i.StoreL 1)
    ∷ begun 5 0 (i.Push (pos 4096))
    ∷ begun 6 1 (i.StoreL 2)
    ∷ begun 7 0 (i.Push (pos 0))
    ∷ begun 8 1 (i.Push (pos 1))
    ∷ begun 9 2 (i.LoadL 1)
    ∷ begun 10 3 (i.LoadL 2)
    ∷ begun 11 4 (i.Push (pos 0))
    ∷ begun 12 5 (i.Fork 0)
    ∷ begun 13 2 (i.Jump 34)
    ∷ thread 14 0 (i.LoadL 2)
    ∷ thread 15 1 (i.Push (pos 0))
    ∷ thread 16 2 i.Le
    ∷ thread 17 1 (i.Push (pos 0))
    ∷ thread 18 2 (i.LoadL 3)
    ∷ thread 19 3 i.Le
    ∷ thread 20 2 i.Min
    ∷ thread 21 1 (i.JFalse 25)
    ∷ thread 22 0 (i.Push (pos 1))
    ∷ thread 23 1 fits
    ∷ thread 24 1 (i.StoreO 1 0)
    ∷ thread 25 0 (i.LoadL 2)
    ∷ thread 26 1 (i.Push (pos 1))
    ∷ thread 27 2 i.Le
    ∷ thread 28 1 (i.Push (pos 1))
    ∷ thread 29 2 (i.LoadL 3)
    ∷ thread 30 3 i.Le
    ∷ thread 31 2 i.Min
    ∷ thread 32 1 (i.JFalse 33)
    ∷ thread 33 0 i.End
    ∷ begun 34 2 i.Unnest
    ∷ main 35 2 (i.StoreL 3)
    ∷ main 36 1 (i.StoreL 4)
    ∷ main 37 0 (i.LoadL 3)
    ∷ main 38 1 (i.JFalse 50)
    ∷ main 39 0 (i.LoadL 3)
    ∷ main 40 1 (i.Push (pos 1))
    ∷ main 41 2 i.Eq
    ∷ main 42 1 (i.JFalse 44)
    ∷ main 43 0 i.Halt
    ∷ main 44 0 (i.LoadL 3)
    ∷ main 45 1 (i.Push (pos 2))
    ∷ main 46 2 i.Eq
    ∷ main 47 1 (i.JFalse 50)
    ∷ main 48 0 (i.LoadL 4)
    ∷ main 49 1 i.Halt
    ∷ main 50 0 i.Halt
    ∷ []

-- the first arm Y
abbrev pub reaches_lent : ℕ → List Lease
reaches_lent site = lends 0 (Some 0) 0 [] ∷ []

abbrev pub Reaches : Type 0
Reaches = IsCode reaches reaches_lent reaches_code [] (begins (Sub 0) 14 5 3 (code_kind.Block 2) (reaches_lent 0) ∷ []) (procedure 0 6 5 ∷ []) []

-- declare Y : Integer := 1; Z : Integer := 0; begin
-- parallel do Z := [parallel for K in 1 .. 2 => Y]'Reduce ("+", 0); and null; end do; end;

abbrev pub nests : Program
nests = record (made_of [] (object_of 0 1 ∷ object_of 0 1 ∷ []) [] NoDecl
    (Then (Block (set_to 0 1 (set_to 1 0 NoDecl))
    (Then (Parallel 0 Absent (Arm (Then (assign 1 (Reduction 0 0 (reducer.Operator 0 op.Add integers) (number (pos 0)) (Some 1) NoChunk (upto 0 2) (variable 0))) End) (Arm (Then syntax.Null End) NoArm))) End)
    NoHandler) End))
    { sites = site_of (kind.Block 2) ∷ site_of kind.Reduction ∷ [] }

abbrev nests_code : List Line
nests_code =
    main 0 0 (i.Push (pos 1))
    ∷ main 1 1 (integer_to 0)
    ∷ main 2 0 (i.Push (pos 0))
    ∷ main 3 1 (integer_to 1)
    ∷ main 4 0 i.Nest
    ∷ begun 5 0 (i.Push (pos 1))
    ∷ begun 6 1 (i.StoreL 2)
    ∷ begun 7 0 (i.Push (pos 4096))
    ∷ begun 8 1 (i.StoreL 3)
    ∷ begun 9 0 (i.Push (pos 0))
    ∷ begun 10 1 (i.Push (pos 1))
    ∷ begun 11 2 (i.LoadL 2)
    ∷ begun 12 3 (i.LoadL 3)
    ∷ begun 13 4 (i.Push (pos 0))
    ∷ begun 14 5 (i.Fork 0)
    ∷ begun 15 2 (i.Jump 70)
    ∷ thread 16 0 (i.LoadL 2)
    ∷ thread 17 1 (i.Push (pos 0))
    ∷ thread 18 2 i.Le
    ∷ thread 19 1 (i.Push (pos 0))
    ∷ thread 20 2 (i.LoadL 3)
    ∷ thread 21 3 i.Le
    ∷ thread 22 2 i.Min
    ∷ thread 23 1 (i.JFalse 61)
    ∷ thread 24 0 (i.Push (pos 0))
    ∷ thread 25 1 (i.StoreL 4)
    ∷ thread 26 0 i.Nest
    ∷ begun_thread 27 0 (i.Push (pos 1))
    ∷ begun_thread 28 1 (i.StoreL 5)
    ∷ begun_thread 29 0 (i.Push (pos 4096))
    ∷ begun_thread 30 1 (i.StoreL 6)
    ∷ begun_thread 31 0 (i.Push (pos 1))
    ∷ begun_thread 32 1 (i.StoreL 7)
    ∷ begun_thread 33 0 (i.Push (pos 2))
    ∷ begun_thread 34 1 (i.StoreL 8)
    ∷ begun_thread 35 0 (i.LoadL 7)
    ∷ begun_thread 36 1 (i.LoadL 8)
    ∷ begun_thread 37 2 i.Le
    ∷ begun_thread 38 1 (i.JFalse 39)
    ∷ begun_thread 39 0 (i.LoadL 7)
    ∷ begun_thread 40 1 (i.LoadL 8)
    ∷ begun_thread 41 2 (i.LoadL 5)
    ∷ begun_thread 42 3 (i.LoadL 6)
    ∷ begun_thread 43 4 (i.LoadL 4)
    ∷ begun_thread 44 5 (i.Fork 1)
    ∷ begun_thread 45 1 (i.Jump 58)
    ∷ inner_thread 46 0 (i.LoadL 1)
    ∷ inner_thread 47 1 (i.LoadL 2)
    ∷ inner_thread 48 2 (i.LoadL 3)
    ∷ inner_thread 49 3 i.Le
    ∷ inner_thread 50 2 (i.JFalse 57)
    ∷ inner_thread 51 1 (i.Jump 53)
    ∷ inner_thread 52 1 (i.Jump 57)
    ∷ inner_thread 53 1 i.Turn
    ∷ inner_thread 54 1 (i.LoadO 2 0)
    ∷ inner_thread 55 2 (i.Add Narrow)
    ∷ inner_thread 56 1 (i.Next 2 3 53)
    ∷ inner_thread 57 1 i.EndV
    ∷ begun_thread 58 1 i.Unnest
    ∷ thread 59 1 fits
    ∷ thread 60 1 (i.StoreO 1 1)
    ∷ thread 61 0 (i.LoadL 2)
    ∷ thread 62 1 (i.Push (pos 1))
    ∷ thread 63 2 i.Le
    ∷ thread 64 1 (i.Push (pos 1))
    ∷ thread 65 2 (i.LoadL 3)
    ∷ thread 66 3 i.Le
    ∷ thread 67 2 i.Min
    ∷ thread 68 1 (i.JFalse 69)
    ∷ thread 69 0 i.End
    ∷ begun 70 2 i.Unnest
    ∷ main 71 2 (i.StoreL 4)
    ∷ main 72 1 (i.StoreL 5)
    ∷ main 73 0 (i.LoadL 4)
    ∷ main 74 1 (i.JFalse 86)
    ∷ main 75 0 (i.LoadL 4)
    ∷ main 76 1 (i.Push (pos 1))
    ∷ main 77 2 i.Eq
    ∷ main 78 1 (i.JFalse 80)
    ∷ main 79 0 i.Halt
    ∷ main 80 0 (i.LoadL 4)
    ∷ main 81 1 (i.Push (pos 2))
    ∷ main 82 2 i.Eq
    ∷ main 83 1 (i.JFalse 86)
    ∷ main 84 0 (i.LoadL 5)
    ∷ main 85 1 i.Halt
    ∷ main 86 0 i.Halt
    ∷ []

-- the first arm Z, the threads of the reduction nothing
abbrev pub nests_lent : ℕ → List Lease
nests_lent zero = lends 0 (Some 0) 1 [] ∷ []
nests_lent (suc site) = []

abbrev pub Nests : Type 0
Nests = IsCode nests nests_lent nests_code []
    (begins (Sub 0) 16 10 5 (code_kind.Block 2) (nests_lent 0)
    ∷ begins (Site 0) 46 5 3 (code_kind.Reduction (Some (record { op = op.Add; base = Narrow }))) (nests_lent 1) ∷ [])
    (procedure 0 7 5 ∷ []) []

-- X : Integer := 3; parallel (X) for I in 1 .. 2 loop null; end loop;

abbrev pub divides : Program
divides = with_site kind.Loop (made_of [] (object_of 0 1 ∷ []) [] (set_to 0 3 NoDecl)
    (Then (ParallelFor 0 0 (Count (variable 0)) (upto 0 2) (Then syntax.Null End)) End))

abbrev divides_code : List Line
divides_code =
    main 0 0 (i.Push (pos 3))
    ∷ main 1 1 (integer_to 0)
    ∷ main 2 0 i.Nest
    ∷ begun 3 0 (i.Push (pos 1))
    ∷ begun 4 1 (i.StoreL 1)
    ∷ begun 5 0 (i.LoadG 0)
    ∷ begun 6 1 (i.Push (pos 4096))
    ∷ begun 7 2 i.Min
    ∷ begun 8 1 (i.StoreL 2)
    ∷ begun 9 0 (i.LoadL 1)
    ∷ begun 10 1 (i.LoadL 2)
    ∷ begun 11 2 i.Gt
    ∷ begun 12 1 (i.JFalse 14)
    ∷ begun 13 0 (i.Raise reason.ProgramError)
    ∷ begun 14 0 (i.Push (pos 1))
    ∷ begun 15 1 (i.StoreL 3)
    ∷ begun 16 0 (i.Push (pos 2))
    ∷ begun 17 1 (i.StoreL 4)
    ∷ begun 18 0 (i.LoadL 3)
    ∷ begun 19 1 (i.LoadL 4)
    ∷ begun 20 2 i.Le
    ∷ begun 21 1 (i.JFalse 22)
    ∷ begun 22 0 (i.LoadL 3)
    ∷ begun 23 1 (i.LoadL 4)
    ∷ begun 24 2 (i.LoadL 1)
    ∷ begun 25 3 (i.LoadL 2)
    ∷ begun 26 4 (i.Push (pos 0))
    ∷ begun 27 5 (i.Fork 0)
    ∷ begun 28 2 (i.Jump 38)
    ∷ thread 29 0 (i.LoadL 2)
    ∷ thread 30 1 (i.LoadL 3)
    ∷ thread 31 2 i.Le
    ∷ thread 32 1 (i.JFalse 37)
    ∷ thread 33 0 (i.Jump 35)
    ∷ thread 34 0 (i.Jump 37)
    ∷ thread 35 0 i.Turn
    ∷ thread 36 0 (i.Next 2 3 35)
    ∷ thread 37 0 i.End
    ∷ begun 38 2 i.Unnest
    ∷ main 39 2 (i.StoreL 5)
    ∷ main 40 1 (i.StoreL 6)
    ∷ main 41 0 (i.LoadL 5)
    ∷ main 42 1 (i.JFalse 54)
    ∷ main 43 0 (i.LoadL 5)
    ∷ main 44 1 (i.Push (pos 1))
    ∷ main 45 2 i.Eq
    ∷ main 46 1 (i.JFalse 48)
    ∷ main 47 0 i.Halt
    ∷ main 48 0 (i.LoadL 5)
    ∷ main 49 1 (i.Push (pos 2))
    ∷ main 50 2 i.Eq
    ∷ main 51 1 (i.JFalse 54)
    ∷ main 52 0 (i.LoadL 6)
    ∷ main 53 1 i.Halt
    ∷ main 54 0 i.Halt
    ∷ []

abbrev pub Divides : Type 0
Divides = IsCode divides no_leases divides_code [] (begins (Sub 0) 29 5 2 code_kind.Loop [] ∷ []) (procedure 0 8 5 ∷ []) []

-- function F return Integer is begin parallel for I in 1 .. 2 loop return I; end loop; return 0; end F;
-- X : Integer := 0; X := F;

abbrev pub returns_early : Program
returns_early = with_site kind.Loop (made_of [] (object_of 0 1 ∷ [])
    (record {
      formals = [];
      result = Some integer;
      nonblocking = false;
      body = record { decls = NoDecl; stmts = Then (ParallelFor 0 0 NoChunk (upto 0 2) (Then (ReturnValue (stored (Parameter 0 0))) End)) (Then (ReturnValue (stored (number (pos 0)))) End); handlers = NoHandler };
    } ∷ [])
    (set_to 0 0 NoDecl) (Then (assign 0 (Call 0 0 0 NoActual)) End))

abbrev returns_early_code : List Line
returns_early_code =
    main 0 0 (i.Push (pos 0))
    ∷ main 1 1 (integer_to 0)
    ∷ main 2 0 (i.CallAt 1 1)
    ∷ main 3 1 fits
    ∷ main 4 1 (i.StoreG 0)
    ∷ main 5 0 i.Halt
    ∷ within 6 0 i.Nest
    ∷ begun_within 7 0 (i.Push (pos 1))
    ∷ begun_within 8 1 (i.StoreL 0)
    ∷ begun_within 9 0 (i.Push (pos 4096))
    ∷ begun_within 10 1 (i.StoreL 1)
    ∷ begun_within 11 0 (i.Push (pos 1))
    ∷ begun_within 12 1 (i.StoreL 2)
    ∷ begun_within 13 0 (i.Push (pos 2))
    ∷ begun_within 14 1 (i.StoreL 3)
    ∷ begun_within 15 0 (i.LoadL 2)
    ∷ begun_within 16 1 (i.LoadL 3)
    ∷ begun_within 17 2 i.Le
    ∷ begun_within 18 1 (i.JFalse 19)
    ∷ begun_within 19 0 (i.LoadL 2)
    ∷ begun_within 20 1 (i.LoadL 3)
    ∷ begun_within 21 2 (i.LoadL 0)
    ∷ begun_within 22 3 (i.LoadL 1)
    ∷ begun_within 23 4 (i.Push (pos 0))
    ∷ begun_within 24 5 (i.Fork 0)
    ∷ begun_within 25 2 (i.Jump 38)
    ∷ thread 26 0 (i.LoadL 2)
    ∷ thread 27 1 (i.LoadL 3)
    ∷ thread 28 2 i.Le
    ∷ thread 29 1 (i.JFalse 37)
    ∷ thread 30 0 (i.Jump 32)
    ∷ thread 31 0 (i.Jump 37)
    ∷ thread 32 0 i.Turn
    ∷ thread 33 0 (i.LoadL 2)
    ∷ thread 34 1 fits
    ∷ thread 35 1 i.LeaveV
    ∷ thread 36 0 (i.Next 2 3 32)
    ∷ thread 37 0 i.End
    ∷ begun_within 38 2 i.Unnest
    ∷ within 39 2 (i.StoreL 4)
    ∷ within 40 1 (i.StoreL 5)
    ∷ within 41 0 (i.LoadL 4)
    ∷ within 42 1 (i.JFalse 55)
    ∷ within 43 0 (i.LoadL 4)
    ∷ within 44 1 (i.Push (pos 1))
    ∷ within 45 2 i.Eq
    ∷ within 46 1 (i.JFalse 49)
    ∷ within 47 0 (i.Push (pos 0))
    ∷ within 48 1 i.RetV
    ∷ within 49 0 (i.LoadL 4)
    ∷ within 50 1 (i.Push (pos 2))
    ∷ within 51 2 i.Eq
    ∷ within 52 1 (i.JFalse 55)
    ∷ within 53 0 (i.LoadL 5)
    ∷ within 54 1 i.RetV
    ∷ within 55 0 (i.Push (pos 0))
    ∷ within 56 1 fits
    ∷ within 57 1 i.RetV
    ∷ within 58 0 (i.Raise reason.ProgramError)
    ∷ []

abbrev pub ReturnsEarly : Type 0
ReturnsEarly = IsCode returns_early no_leases returns_early_code [] (begins (Sub 1) 26 5 2 code_kind.Loop [] ∷ []) (procedure 0 2 1 ∷ function 6 7 5 ∷ []) []

-- E : exception; begin parallel do raise E; and null; end do; exception when others => null; end;

abbrev pub catches : Program
catches = record (with_site (kind.Block 2) (made_of [] [] [] NoDecl
    (Then (Block NoDecl (Then (Parallel 0 Absent (Arm (Then (syntax.Raise (reason.Declared 0)) End) (Arm (Then syntax.Null End) NoArm))) End)
    (Handler syntax.Others (Then syntax.Null End) NoHandler)) End)))
    { exceptions = record { name = 0 } ∷ [] }

abbrev catches_code : List Line
catches_code =
    main 0 0 (i.Jump 2)
    ∷ main 1 1 (i.Jump 49)
    ∷ guarded 0 0 2 0 i.Nest
    ∷ guarded 0 1 3 0 (i.Push (pos 1))
    ∷ guarded 0 1 4 1 (i.StoreL 0)
    ∷ guarded 0 1 5 0 (i.Push (pos 4096))
    ∷ guarded 0 1 6 1 (i.StoreL 1)
    ∷ guarded 0 1 7 0 (i.Push (pos 0))
    ∷ guarded 0 1 8 1 (i.Push (pos 1))
    ∷ guarded 0 1 9 2 (i.LoadL 0)
    ∷ guarded 0 1 10 3 (i.LoadL 1)
    ∷ guarded 0 1 11 4 (i.Push (pos 0))
    ∷ guarded 0 1 12 5 (i.Fork 0)
    ∷ guarded 0 1 13 2 (i.Jump 32)
    ∷ thread 14 0 (i.LoadL 2)
    ∷ thread 15 1 (i.Push (pos 0))
    ∷ thread 16 2 i.Le
    ∷ thread 17 1 (i.Push (pos 0))
    ∷ thread 18 2 (i.LoadL 3)
    ∷ thread 19 3 i.Le
    ∷ thread 20 2 i.Min
    ∷ thread 21 1 (i.JFalse 23)
    ∷ thread 22 0 (i.Raise (reason.Declared 0))
    ∷ thread 23 0 (i.LoadL 2)
    ∷ thread 24 1 (i.Push (pos 1))
    ∷ thread 25 2 i.Le
    ∷ thread 26 1 (i.Push (pos 1))
    ∷ thread 27 2 (i.LoadL 3)
    ∷ thread 28 3 i.Le
    ∷ thread 29 2 i.Min
    ∷ thread 30 1 (i.JFalse 31)
    ∷ thread 31 0 i.End
    ∷ guarded 1 1 32 2 i.Unnest
    ∷ guarded 1 0 33 2 (i.StoreL 2)
    ∷ guarded 1 0 34 1 (i.StoreL 3)
    ∷ guarded 1 0 35 0 (i.LoadL 2)
    ∷ guarded 1 0 36 1 (i.JFalse 48)
    ∷ guarded 1 0 37 0 (i.LoadL 2)
    ∷ guarded 1 0 38 1 (i.Push (pos 1))
    ∷ guarded 1 0 39 2 i.Eq
    ∷ guarded 1 0 40 1 (i.JFalse 42)
    ∷ guarded 1 0 41 0 i.Halt
    ∷ guarded 1 0 42 0 (i.LoadL 2)
    ∷ guarded 1 0 43 1 (i.Push (pos 2))
    ∷ guarded 1 0 44 2 i.Eq
    ∷ guarded 1 0 45 1 (i.JFalse 48)
    ∷ guarded 1 0 46 0 (i.LoadL 3)
    ∷ guarded 1 0 47 1 i.Halt
    ∷ main 48 0 (i.Jump 50)
    ∷ main 49 1 (i.StoreL 0)
    ∷ main 50 0 i.Halt
    ∷ []

-- the handler's instructions are those ahead of the threads' code and those behind it
abbrev pub Catches : Type 0
Catches = IsCode catches no_leases catches_code
    (record { from = 2; to = 14; handler = 49; depth = 0; nest = 0 } ∷ record { from = 32; to = 48; handler = 49; depth = 0; nest = 0 } ∷ [])
    (begins (Sub 0) 14 5 3 (code_kind.Block 2) [] ∷ []) (procedure 0 5 5 ∷ []) []

-- subtype Signed is Integer range -9 .. 9; subtype Digit is Integer range 0 .. 9;
-- function Sum (A : Signed; B : Digit) return Signed is begin return A + B; end Sum;
-- X : Integer := 0; X := [parallel for I in 1 .. 3 => I]'Reduce (Sum, 0);

abbrev given : ℕ → Scalar → Expr
given x s = Constant 0 (root.Object x) Whole s

abbrev pub folds : Program
folds = with_site kind.Reduction (made_of (syntax.OfScalar signed ∷ digits ∷ []) (object_of 0 1 ∷ object_of 1 1 ∷ object_of 2 1 ∷ [])
    (record {
      formals = formal 1 mode.In ∷ formal 2 mode.In ∷ [];
      result = Some signed;
      nonblocking = true;
      body = record { decls = NoDecl; stmts = Then (ReturnValue (Number (record { at = 0; scalar = signed }) (sum (given 1 signed) (given 2 digit)))) End; handlers = NoHandler };
    } ∷ [])
    (set_to 0 0 NoDecl) (Then (assign 0 (Reduction 0 0 (reducer.Function 0 0 signed digit) (number (pos 0)) (Some 0) NoChunk (upto 0 3) (Parameter 0 0))) End))

abbrev folds_code : List Line
folds_code =
    main 0 0 (i.Push (pos 0))
    ∷ main 1 1 (integer_to 0)
    ∷ main 2 0 (i.Push (pos 0))
    ∷ main 3 1 (i.StoreL 1)
    ∷ main 4 0 i.Nest
    ∷ begun 5 0 (i.Push (pos 1))
    ∷ begun 6 1 (i.StoreL 2)
    ∷ begun 7 0 (i.Push (pos 4096))
    ∷ begun 8 1 (i.StoreL 3)
    ∷ begun 9 0 (i.Push (pos 1))
    ∷ begun 10 1 (i.StoreL 4)
    ∷ begun 11 0 (i.Push (pos 3))
    ∷ begun 12 1 (i.StoreL 5)
    ∷ begun 13 0 (i.LoadL 4)
    ∷ begun 14 1 (i.LoadL 5)
    ∷ begun 15 2 i.Le
    ∷ begun 16 1 (i.JFalse 17)
    ∷ begun 17 0 (i.LoadL 4)
    ∷ begun 18 1 (i.LoadL 5)
    ∷ begun 19 2 (i.LoadL 2)
    ∷ begun 20 3 (i.LoadL 3)
    ∷ begun 21 4 (i.LoadL 1)
    ∷ begun 22 5 (i.Fork 0)
    ∷ begun 23 1 (i.Jump 41)
    ∷ thread 24 0 (i.LoadL 1)
    ∷ thread 25 1 (i.LoadL 2)
    ∷ thread 26 2 (i.LoadL 3)
    ∷ thread 27 3 i.Le
    ∷ thread 28 2 (i.JFalse 40)
    ∷ thread 29 1 (i.Jump 31)
    ∷ thread 30 1 (i.Jump 40)
    ∷ thread 31 1 i.Turn
    ∷ thread 32 1 (i.LoadL 2)
    ∷ thread 33 2 (i.StoreL 5)
    ∷ thread 34 1 (signed_to 4)
    ∷ thread 35 0 (i.LoadL 5)
    ∷ thread 36 1 is_digit
    ∷ thread 37 1 i.Pop
    ∷ thread 38 0 (i.CallAt 1 4)
    ∷ thread 39 1 (i.Next 2 3 31)
    ∷ thread 40 1 i.EndV
    ∷ begun 41 1 i.Unnest
    ∷ main 42 1 i.Part
    ∷ main 43 3 (i.JFalse 62)
    ∷ main 44 2 (i.StoreL 7)
    ∷ main 45 1 (i.StoreL 6)
    ∷ main 46 0 (i.LoadL 6)
    ∷ main 47 1 (i.Push (negsuc 8))
    ∷ main 48 2 i.Ge
    ∷ main 49 1 (i.LoadL 6)
    ∷ main 50 2 (i.Push (pos 9))
    ∷ main 51 3 i.Le
    ∷ main 52 2 i.Min
    ∷ main 53 1 (i.LoadL 7)
    ∷ main 54 2 (i.Push (pos 0))
    ∷ main 55 3 i.Ge
    ∷ main 56 2 (i.LoadL 7)
    ∷ main 57 3 (i.Push (pos 9))
    ∷ main 58 4 i.Le
    ∷ main 59 3 i.Min
    ∷ main 60 2 i.Min
    ∷ main 61 1 (i.CallTo 1 6 42)
    ∷ main 62 2 i.Pop
    ∷ main 63 1 fits
    ∷ main 64 1 (i.StoreG 0)
    ∷ main 65 0 i.Halt
    ∷ within 66 0 (i.LoadL 0)
    ∷ within 67 1 (i.LoadL 1)
    ∷ within 68 2 (i.Add Narrow)
    ∷ within 69 1 is_signed
    ∷ within 70 1 i.RetV
    ∷ within 71 0 (i.Raise reason.ProgramError)
    ∷ []

abbrev pub Folds : Type 0
Folds = IsCode folds no_leases folds_code [] (begins (Sub 0) 24 7 3 (code_kind.Reduction None) [] ∷ []) (procedure 0 9 5 ∷ function 66 3 2 ∷ []) []

-- type Rows is array (1 .. 2) of Row; M : Rows; where type Row is array (1 .. 2) of Integer;
-- X : Integer := M ([parallel for I in 1 .. 3 => I]'Reduce ("+", 0))'Length; the reduction isn't evaluated (4.9, 4.1.4)

abbrev pub mentions : Program
mentions = with_site kind.Reduction (made_of (array_of 2 ∷ syntax.Array (record { low = pos 1; high = pos 2 } ∷ []) 1 ∷ []) (object_of 2 4 ∷ object_of 0 1 ∷ []) []
    (DeclareDefault 0 (DeclareVariable 1 (stored (syntax.Static 0 (pos 2) false
    (AlsoExpr (Reduction 0 0 (reducer.Operator 0 op.Add integers) (number (pos 0)) (Some 0) NoChunk (upto 0 3) (Parameter 0 0)) NoExpr))) NoDecl)) End)

abbrev mentions_code : List Line
mentions_code =
    main 0 0 (i.Push integer.low)
    ∷ main 1 1 (i.StoreL 0)
    ∷ main 2 0 (i.Local 1)
    ∷ main 3 1 (i.Local 0)
    ∷ main 4 2 (i.Copy 1)
    ∷ main 5 0 (i.Local 2)
    ∷ main 6 1 (i.Local 0)
    ∷ main 7 2 (i.Copy 2)
    ∷ main 8 0 (i.Push (pos 2))
    ∷ main 9 1 (integer_to 4)
    ∷ main 10 0 i.Halt
    ∷ begun 11 5 (i.Fork 0)
    ∷ begun 12 2 (i.Jump 14)
    ∷ thread 13 0 (i.Raise reason.ProgramError)
    ∷ begun 14 2 (i.Raise reason.ProgramError)
    ∷ []

abbrev pub Mentioned : Type 0
Mentioned = IsCode mentions no_leases mentions_code [] (begins (Sub 0) 13 5 0 code_kind.Loop [] ∷ []) (procedure 0 6 5 ∷ []) []

abbrev pub ThreadRows : Type 0
ThreadRows = Deals × Marks × Reaches × Nests × Divides × ReturnsEarly × Catches × Folds × Mentioned
