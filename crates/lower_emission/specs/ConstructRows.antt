-- Programs with parallel constructs (5.5, 5.6.1, 4.5.10), their code by hand, and the cells that their threads are lent.
use Rattle.std.specs.Prelude.{ℕ, pos, List, [], ◌∷◌, Option, Some, None}
use Rattle.ada_base.specs.declared.operation.Base.TheVariants.{Narrow}
use Rattle.ada_base.specs.declared.operation.Comparison.TheVariants as comparison
use Rattle.ada_base.specs.declared.operation.Op.TheVariants as op
use Rattle.typed_tree.specs.declared.expressions.Reducer.TheVariants as reducer
use Rattle.typed_tree.specs.declared.expressions.Root.TheVariants as root
use Rattle.typed_tree.specs.declared.program.Site.{Site}
use Rattle.typed_tree.specs.declared.program.SiteKind.TheVariants as kind
use Rattle.typed_tree.specs.Syntax.{Parameter, Relation, Reduction, Absent, Present, NoChunk, NoDecl, DeclareDefault, Assign, Exit, Loop, ParallelFor, Parallel, End, Then, NoArm, Arm, Program}
use Rattle.ada_meaning.specs.Rows.{integers, integer, number, stored, assign, object_of, made_of, upto, array_of, indexed}
use Rattle.stack_code.specs.declared.code.Around.{Around}
use Rattle.stack_code.specs.declared.code.Around.TheVariants.{Sub}
use Rattle.stack_code.specs.declared.code.CodeSite.{CodeSite}
use Rattle.stack_code.specs.declared.code.Lease as lease
use Rattle.stack_code.specs.declared.code.SiteKind.TheVariants as code_kind
use Rattle.stack_code.specs.declared.code.Step.TheVariants as step
use Rattle.stack_code.specs.declared.instr.Instr.TheVariants as i
use Rattle.lower_emission.specs.Lines.{Line, main, begun, thread, fits, integer_to, set_to, procedure, no_leases, IsCode}

abbrev pub site_of : kind.the_data → Site
site_of k = record { at = 0; around = 0; kind = k }

abbrev pub with_site : kind.the_data → Program → Program
with_site k program = record program { sites = site_of k ∷ [] }

-- a construct of a body: where its threads begin, their frame, their greatest height
abbrev pub begins : Around → (entry frame stack : ℕ) → code_kind.the_data → List lease.Lease → CodeSite
begins b entry frame stack k leases = record { entry = entry; frame = frame; stack = stack; around = b; kind = k; leases = leases }

-- one cell of a frame, where the steps lead: of the main one, or of one that the construct's body sees
abbrev pub lends : (arm : ℕ) (frame : Option ℕ) (base : ℕ) → List step.the_data → lease.Lease
lends arm frame base steps = record { arm = arm; frame = frame; base = base; steps = steps; run = 1 }

-- A : array (1 .. 2) of Integer; parallel for I in 1 .. 2 loop A (I) := I; end loop;

abbrev pub shares : Program
shares = with_site kind.Loop (made_of (array_of 2 ∷ []) (object_of 1 2 ∷ []) [] (DeclareDefault 0 NoDecl)
    (Then (ParallelFor 0 0 NoChunk (upto 0 2) (Then (Assign 0 (root.Object 0) (indexed 2 (Parameter 0 0)) (stored (Parameter 0 0))) End)) End))

abbrev shares_code : List Line
shares_code =
    main 0 0 (i.Push integer.low)
    ∷ main 1 1 (i.StoreL 0)
    ∷ main 2 0 (i.Local 1)
    ∷ main 3 1 (i.Local 0)
    ∷ main 4 2 (i.Copy 1)
    ∷ main 5 0 i.Nest
    ∷ begun 6 0 (i.Push (pos 1))
    ∷ begun 7 1 (i.StoreL 2)
    ∷ begun 8 0 (i.Push (pos 4096))
    ∷ begun 9 1 (i.StoreL 3)
    ∷ begun 10 0 (i.Push (pos 1))
    ∷ begun 11 1 (i.StoreL 4)
    ∷ begun 12 0 (i.Push (pos 2))
    ∷ begun 13 1 (i.StoreL 5)
    ∷ begun 14 0 (i.LoadL 4)
    ∷ begun 15 1 (i.LoadL 5)
    ∷ begun 16 2 i.Le
    ∷ begun 17 1 (i.JFalse 18)
    ∷ begun 18 0 (i.LoadL 4)
    ∷ begun 19 1 (i.LoadL 5)
    ∷ begun 20 2 (i.LoadL 2)
    ∷ begun 21 3 (i.LoadL 3)
    ∷ begun 22 4 (i.Push (pos 0))
    ∷ begun 23 5 (i.Fork 0)
    ∷ begun 24 2 (i.Jump 41)
    ∷ thread 25 0 (i.LoadL 2)
    ∷ thread 26 1 (i.LoadL 3)
    ∷ thread 27 2 i.Le
    ∷ thread 28 1 (i.JFalse 40)
    ∷ thread 29 0 (i.Jump 31)
    ∷ thread 30 0 (i.Jump 40)
    ∷ thread 31 0 i.Turn
    ∷ thread 32 0 (i.Global 0)
    ∷ thread 33 1 (i.IndexL 2 (pos 1) (pos 2) 1)
    ∷ thread 34 1 i.Dup
    ∷ thread 35 2 (i.StoreL 4)
    ∷ thread 36 1 (i.LoadL 2)
    ∷ thread 37 2 fits
    ∷ thread 38 2 i.Store
    ∷ thread 39 0 (i.Next 2 3 31)
    ∷ thread 40 0 i.End
    ∷ begun 41 2 i.Unnest
    ∷ main 42 2 (i.StoreL 6)
    ∷ main 43 1 (i.StoreL 7)
    ∷ main 44 0 (i.LoadL 6)
    ∷ main 45 1 (i.JFalse 57)
    ∷ main 46 0 (i.LoadL 6)
    ∷ main 47 1 (i.Push (pos 1))
    ∷ main 48 2 i.Eq
    ∷ main 49 1 (i.JFalse 51)
    ∷ main 50 0 i.Halt
    ∷ main 51 0 (i.LoadL 6)
    ∷ main 52 1 (i.Push (pos 2))
    ∷ main 53 2 i.Eq
    ∷ main 54 1 (i.JFalse 57)
    ∷ main 55 0 (i.LoadL 7)
    ∷ main 56 1 i.Halt
    ∷ main 57 0 i.Halt
    ∷ []

-- A (I)
abbrev pub shares_lent : ℕ → List lease.Lease
shares_lent site = lends 0 None 0 (step.Loop (pos 1) 2 1 ∷ []) ∷ []

abbrev pub Shares : Type 0
Shares = IsCode shares shares_lent shares_code [] (begins (Sub 0) 25 6 2 code_kind.Loop (shares_lent 0) ∷ []) (procedure 0 9 5 ∷ []) []

-- X, Y : Integer := 0; parallel do X := 1; and Y := 2; end do;

abbrev pub parts : Program
parts = with_site (kind.Block 2) (made_of [] (object_of 0 1 ∷ object_of 0 1 ∷ []) [] (set_to 0 0 (set_to 1 0 NoDecl))
    (Then (Parallel 0 Absent (Arm (Then (assign 0 (number (pos 1))) End) (Arm (Then (assign 1 (number (pos 2))) End) NoArm))) End))

abbrev parts_code : List Line
parts_code =
    main 0 0 (i.Push (pos 0))
    ∷ main 1 1 (integer_to 0)
    ∷ main 2 0 (i.Push (pos 0))
    ∷ main 3 1 (integer_to 1)
    ∷ main 4 0 i.Nest
    ∷ begun 5 0 (i.Push (pos 1))
    ∷ begun 6 1 (i.StoreL 2)
    ∷ begun 7 0 (i.Push (pos 4096))
    ∷ begun 8 1 (i.StoreL 3)
    ∷ begun 9 0 (i.Push (pos 0))
    ∷ begun 10 1 (i.Push (pos 1))
    ∷ begun 11 2 (i.LoadL 2)
    ∷ begun 12 3 (i.LoadL 3)
    ∷ begun 13 4 (i.Push (pos 0))
    ∷ begun 14 5 (i.Fork 0)
    ∷ begun 15 2 (i.Jump 39)
    ∷ thread 16 0 (i.LoadL 2)
    ∷ thread 17 1 (i.Push (pos 0))
    ∷ thread 18 2 i.Le
    ∷ thread 19 1 (i.Push (pos 0))
    ∷ thread 20 2 (i.LoadL 3)
    ∷ thread 21 3 i.Le
    ∷ thread 22 2 i.Min
    ∷ thread 23 1 (i.JFalse 27)
    ∷ thread 24 0 (i.Push (pos 1))
    ∷ thread 25 1 fits
    ∷ thread 26 1 (i.StoreG 0)
    ∷ thread 27 0 (i.LoadL 2)
    ∷ thread 28 1 (i.Push (pos 1))
    ∷ thread 29 2 i.Le
    ∷ thread 30 1 (i.Push (pos 1))
    ∷ thread 31 2 (i.LoadL 3)
    ∷ thread 32 3 i.Le
    ∷ thread 33 2 i.Min
    ∷ thread 34 1 (i.JFalse 38)
    ∷ thread 35 0 (i.Push (pos 2))
    ∷ thread 36 1 fits
    ∷ thread 37 1 (i.StoreG 1)
    ∷ thread 38 0 i.End
    ∷ begun 39 2 i.Unnest
    ∷ main 40 2 (i.StoreL 4)
    ∷ main 41 1 (i.StoreL 5)
    ∷ main 42 0 (i.LoadL 4)
    ∷ main 43 1 (i.JFalse 55)
    ∷ main 44 0 (i.LoadL 4)
    ∷ main 45 1 (i.Push (pos 1))
    ∷ main 46 2 i.Eq
    ∷ main 47 1 (i.JFalse 49)
    ∷ main 48 0 i.Halt
    ∷ main 49 0 (i.LoadL 4)
    ∷ main 50 1 (i.Push (pos 2))
    ∷ main 51 2 i.Eq
    ∷ main 52 1 (i.JFalse 55)
    ∷ main 53 0 (i.LoadL 5)
    ∷ main 54 1 i.Halt
    ∷ main 55 0 i.Halt
    ∷ []

-- the first arm X, the second Y
abbrev pub parts_lent : ℕ → List lease.Lease
parts_lent site = lends 0 None 0 [] ∷ lends 1 None 1 [] ∷ []

abbrev pub Parts : Type 0
Parts = IsCode parts parts_lent parts_code [] (begins (Sub 0) 16 5 3 (code_kind.Block 2) (parts_lent 0) ∷ []) (procedure 0 7 5 ∷ []) []

-- X : Integer := 0; X := [parallel for I in 1 .. 3 => I]'Reduce ("+", 0);

abbrev pub gathers : Program
gathers = with_site kind.Reduction (made_of [] (object_of 0 1 ∷ []) [] (set_to 0 0 NoDecl)
    (Then (assign 0 (Reduction 0 0 (reducer.Operator 0 op.Add integers) (number (pos 0)) (Some 0) NoChunk (upto 0 3) (Parameter 0 0))) End))

abbrev gathers_code : List Line
gathers_code =
    main 0 0 (i.Push (pos 0))
    ∷ main 1 1 (integer_to 0)
    ∷ main 2 0 (i.Push (pos 0))
    ∷ main 3 1 (i.StoreL 1)
    ∷ main 4 0 i.Nest
    ∷ begun 5 0 (i.Push (pos 1))
    ∷ begun 6 1 (i.StoreL 2)
    ∷ begun 7 0 (i.Push (pos 4096))
    ∷ begun 8 1 (i.StoreL 3)
    ∷ begun 9 0 (i.Push (pos 1))
    ∷ begun 10 1 (i.StoreL 4)
    ∷ begun 11 0 (i.Push (pos 3))
    ∷ begun 12 1 (i.StoreL 5)
    ∷ begun 13 0 (i.LoadL 4)
    ∷ begun 14 1 (i.LoadL 5)
    ∷ begun 15 2 i.Le
    ∷ begun 16 1 (i.JFalse 17)
    ∷ begun 17 0 (i.LoadL 4)
    ∷ begun 18 1 (i.LoadL 5)
    ∷ begun 19 2 (i.LoadL 2)
    ∷ begun 20 3 (i.LoadL 3)
    ∷ begun 21 4 (i.LoadL 1)
    ∷ begun 22 5 (i.Fork 0)
    ∷ begun 23 1 (i.Jump 36)
    ∷ thread 24 0 (i.LoadL 1)
    ∷ thread 25 1 (i.LoadL 2)
    ∷ thread 26 2 (i.LoadL 3)
    ∷ thread 27 3 i.Le
    ∷ thread 28 2 (i.JFalse 35)
    ∷ thread 29 1 (i.Jump 31)
    ∷ thread 30 1 (i.Jump 35)
    ∷ thread 31 1 i.Turn
    ∷ thread 32 1 (i.LoadL 2)
    ∷ thread 33 2 (i.Add Narrow)
    ∷ thread 34 1 (i.Next 2 3 31)
    ∷ thread 35 1 i.EndV
    ∷ begun 36 1 i.Unnest
    ∷ main 37 1 fits
    ∷ main 38 1 (i.StoreG 0)
    ∷ main 39 0 i.Halt
    ∷ []

abbrev pub Gathers : Type 0
Gathers = IsCode gathers no_leases gathers_code []
    (begins (Sub 0) 24 5 3 (code_kind.Reduction (Some (record { op = op.Add; base = Narrow }))) [] ∷ []) (procedure 0 7 5 ∷ []) []

-- Outer : loop parallel for I in 1 .. 2 loop exit Outer when I = 2; exit; end loop; end loop Outer;

abbrev pub leaves : Program
leaves = with_site kind.Loop (made_of [] [] [] NoDecl
    (Then (Loop 0 Absent (Then (ParallelFor 1 0 NoChunk (upto 0 2)
    (Then (Exit 0 (Present (Relation integers comparison.Equal (Parameter 0 0) (number (pos 2))))) (Then (Exit 1 Absent) End))) End)) End))

abbrev leaves_code : List Line
leaves_code =
    main 0 0 (i.Jump 59)
    ∷ main 1 0 (i.Jump 60)
    ∷ main 2 0 i.Turn
    ∷ main 3 0 i.Nest
    ∷ begun 4 0 (i.Push (pos 1))
    ∷ begun 5 1 (i.StoreL 0)
    ∷ begun 6 0 (i.Push (pos 4096))
    ∷ begun 7 1 (i.StoreL 1)
    ∷ begun 8 0 (i.Push (pos 1))
    ∷ begun 9 1 (i.StoreL 2)
    ∷ begun 10 0 (i.Push (pos 2))
    ∷ begun 11 1 (i.StoreL 3)
    ∷ begun 12 0 (i.LoadL 2)
    ∷ begun 13 1 (i.LoadL 3)
    ∷ begun 14 2 i.Le
    ∷ begun 15 1 (i.JFalse 16)
    ∷ begun 16 0 (i.LoadL 2)
    ∷ begun 17 1 (i.LoadL 3)
    ∷ begun 18 2 (i.LoadL 0)
    ∷ begun 19 3 (i.LoadL 1)
    ∷ begun 20 4 (i.Push (pos 0))
    ∷ begun 21 5 (i.Fork 0)
    ∷ begun 22 2 (i.Jump 38)
    ∷ thread 23 0 (i.LoadL 2)
    ∷ thread 24 1 (i.LoadL 3)
    ∷ thread 25 2 i.Le
    ∷ thread 26 1 (i.JFalse 37)
    ∷ thread 27 0 (i.Jump 29)
    ∷ thread 28 0 (i.Jump 37)
    ∷ thread 29 0 i.Turn
    ∷ thread 30 0 (i.LoadL 2)
    ∷ thread 31 1 (i.Push (pos 2))
    ∷ thread 32 2 i.Eq
    ∷ thread 33 1 (i.JFalse 35)
    ∷ thread 34 0 (i.Exit 0)
    ∷ thread 35 0 (i.Exit 1)
    ∷ thread 36 0 (i.Next 2 3 29)
    ∷ thread 37 0 i.End
    ∷ begun 38 2 i.Unnest
    ∷ main 39 2 (i.StoreL 4)
    ∷ main 40 1 (i.StoreL 5)
    ∷ main 41 0 (i.LoadL 4)
    ∷ main 42 1 (i.JFalse 59)
    ∷ main 43 0 (i.LoadL 4)
    ∷ main 44 1 (i.Push (pos 1))
    ∷ main 45 2 i.Eq
    ∷ main 46 1 (i.JFalse 48)
    ∷ main 47 0 i.Halt
    ∷ main 48 0 (i.LoadL 4)
    ∷ main 49 1 (i.Push (pos 2))
    ∷ main 50 2 i.Eq
    ∷ main 51 1 (i.JFalse 54)
    ∷ main 52 0 (i.LoadL 5)
    ∷ main 53 1 i.Halt
    ∷ main 54 0 (i.LoadL 4)
    ∷ main 55 1 (i.Push (pos 3))
    ∷ main 56 2 i.Eq
    ∷ main 57 1 (i.JFalse 59)
    ∷ main 58 0 (i.Jump 60)
    ∷ main 59 0 (i.Jump 2)
    ∷ main 60 0 i.Halt
    ∷ []

abbrev pub Leaves : Type 0
Leaves = IsCode leaves no_leases leaves_code [] (begins (Sub 0) 23 5 2 code_kind.Loop [] ∷ []) (procedure 0 7 5 ∷ []) []

abbrev pub ConstructRows : Type 0
ConstructRows = Shares × Parts × Gathers × Leaves
