-- Programs of expressions (4.4, 4.5, 4.6) and of values of arrays (5.2, 6.4.1), and their code by hand.
use Rattle.std.specs.Prelude.{ℕ, pos, List, [], ◌∷◌, None, true, false}
use Rattle.ada_base.specs.declared.operation.Base.TheVariants.{Narrow}
use Rattle.ada_base.specs.declared.operation.Comparison.TheVariants as comparison
use Rattle.typed_tree.specs.declared.expressions.Root.TheVariants as root
use Rattle.typed_tree.specs.declared.expressions.Sign.TheVariants as sign
use Rattle.typed_tree.specs.declared.program.Mode.TheVariants as mode
use Rattle.typed_tree.specs.declared.scalars.Class.TheVariants as class
use Rattle.typed_tree.specs.declared.scalars.Scalar.{Scalar}
use Rattle.typed_tree.specs.Syntax as syntax
use Rattle.typed_tree.specs.Syntax.{Expr, Unary, AndThen, Membership, If, Convert, WholeVariable, CompositeInOut, Relation, Whole, NoActual, Number, Cells, NoDecl, DeclareDefault, DeclareVariable, Assign, CallProcedure, End, Then, NoHandler, Program}
use Rattle.ada_meaning.specs.Rows.{integers, integer, number, variable, assign, object_of, made_of, array_of, formal}
use Rattle.stack_code.specs.declared.instr.Instr.TheVariants as i
use Rattle.lower_emission.specs.Lines.{Line, main, within, fits, integer_to, is_digit, digit, digits, set_to, procedure, no_leases, IsCode, IsPlain}

-- subtype Digit is Integer range 0 .. 9; X : Integer := 2; X := (if X > 1 and then X < 5 then -X else Digit (X));

abbrev compares : comparison.the_data → (value : ℕ) → Expr
compares c v = Relation integers c (variable 0) (number (pos v))

abbrev pub picks : Program
picks = made_of (digits ∷ []) (object_of 0 1 ∷ []) [] (set_to 0 2 NoDecl)
    (Then (assign 0 (If (AndThen (compares comparison.Greater 1) (compares comparison.Less 5)) (Unary 0 sign.Minus integers (variable 0)) (Convert (record { at = 0; scalar = digit }) (variable 0)))) End)

abbrev picks_code : List Line
picks_code =
    main 0 0 (i.Push (pos 2))
    ∷ main 1 1 (integer_to 0)
    ∷ main 2 0 (i.LoadG 0)
    ∷ main 3 1 (i.Push (pos 1))
    ∷ main 4 2 i.Gt
    ∷ main 5 1 (i.JFalse 10)
    ∷ main 6 0 (i.LoadG 0)
    ∷ main 7 1 (i.Push (pos 5))
    ∷ main 8 2 i.Lt
    ∷ main 9 1 (i.Jump 11)
    ∷ main 10 0 (i.Push (pos 0))
    ∷ main 11 1 (i.JFalse 15)
    ∷ main 12 0 (i.LoadG 0)
    ∷ main 13 1 (i.Neg Narrow)
    ∷ main 14 1 (i.Jump 17)
    ∷ main 15 0 (i.LoadG 0)
    ∷ main 16 1 is_digit
    ∷ main 17 1 fits
    ∷ main 18 1 (i.StoreG 0)
    ∷ main 19 0 i.Halt
    ∷ []

abbrev pub Picks : Type 0
Picks = IsPlain picks picks_code 2 2

-- X : Integer := 2; B : Boolean := X not in 1 .. 3;

abbrev boolean : Scalar
boolean = record { class = class.Boolean; low = pos 0; high = pos 1 }

abbrev pub finds : Program
finds = made_of (syntax.OfScalar boolean ∷ []) (object_of 0 1 ∷ object_of 1 1 ∷ []) []
    (set_to 0 2 (DeclareVariable 1 (Number (record { at = 0; scalar = boolean }) (Membership integers true (variable 0) (number (pos 1)) (number (pos 3)))) NoDecl)) End

abbrev finds_code : List Line
finds_code =
    main 0 0 (i.Push (pos 2))
    ∷ main 1 1 (integer_to 0)
    ∷ main 2 0 (i.LoadG 0)
    ∷ main 3 1 (i.StoreL 2)
    ∷ main 4 0 (i.Push (pos 1))
    ∷ main 5 1 (i.StoreL 3)
    ∷ main 6 0 (i.Push (pos 3))
    ∷ main 7 1 (i.LoadL 2)
    ∷ main 8 2 i.Ge
    ∷ main 9 1 (i.LoadL 3)
    ∷ main 10 2 (i.LoadL 2)
    ∷ main 11 3 i.Le
    ∷ main 12 2 i.Min
    ∷ main 13 1 i.Flip
    ∷ main 14 1 (i.SetL 1 (pos 0) (pos 1))
    ∷ main 15 0 i.Halt
    ∷ []

abbrev pub Finds : Type 0
Finds = IsPlain finds finds_code 5 3

-- A, B : array (1 .. 2) of Integer; A := B;

abbrev pub copies : Program
copies = made_of (array_of 2 ∷ []) (object_of 1 2 ∷ object_of 1 2 ∷ []) [] (DeclareDefault 0 (DeclareDefault 1 NoDecl))
    (Then (Assign 0 (root.Object 0) Whole (Cells (WholeVariable 0 (root.Object 1) Whole 1))) End)

abbrev copies_code : List Line
copies_code =
    main 0 0 (i.Push integer.low)
    ∷ main 1 1 (i.StoreL 0)
    ∷ main 2 0 (i.Local 1)
    ∷ main 3 1 (i.Local 0)
    ∷ main 4 2 (i.Copy 1)
    ∷ main 5 0 (i.Push integer.low)
    ∷ main 6 1 (i.StoreL 2)
    ∷ main 7 0 (i.Local 3)
    ∷ main 8 1 (i.Local 2)
    ∷ main 9 2 (i.Copy 1)
    ∷ main 10 0 (i.Global 0)
    ∷ main 11 1 (i.StoreL 4)
    ∷ main 12 0 (i.Local 5)
    ∷ main 13 1 (i.Global 2)
    ∷ main 14 2 (i.Copy 2)
    ∷ main 15 0 (i.LoadL 4)
    ∷ main 16 1 (i.Local 5)
    ∷ main 17 2 (i.Copy 2)
    ∷ main 18 0 i.Halt
    ∷ []

abbrev pub Copies : Type 0
Copies = IsPlain copies copies_code 8 2

-- procedure P (B : in out Row) is begin return; end P; A : Row; P (A); where type Row is array (1 .. 2) of Integer;

abbrev pub hands_over : Program
hands_over = made_of (array_of 2 ∷ []) (object_of 1 2 ∷ object_of 1 2 ∷ [])
    (record { formals = formal 1 mode.InOut ∷ []; result = None; nonblocking = false; body = record { decls = NoDecl; stmts = Then syntax.Return End; handlers = NoHandler } } ∷ [])
    (DeclareDefault 0 NoDecl) (Then (CallProcedure 0 0 0 (CompositeInOut 1 0 (root.Object 0) Whole 1 NoActual)) End)

abbrev hands_over_code : List Line
hands_over_code =
    main 0 0 (i.Push integer.low)
    ∷ main 1 1 (i.StoreL 0)
    ∷ main 2 0 (i.Local 1)
    ∷ main 3 1 (i.Local 0)
    ∷ main 4 2 (i.Copy 1)
    ∷ main 5 0 (i.Local 3)
    ∷ main 6 1 (i.Global 0)
    ∷ main 7 2 i.Dup
    ∷ main 8 3 (i.StoreL 2)
    ∷ main 9 2 (i.Copy 2)
    ∷ main 10 0 (i.CallAt 1 2)
    ∷ main 11 0 (i.LoadL 2)
    ∷ main 12 1 (i.Local 3)
    ∷ main 13 2 (i.Copy 2)
    ∷ main 14 0 i.Halt
    ∷ within 15 0 i.Ret
    ∷ within 16 0 i.Ret
    ∷ []

abbrev pub HandsOver : Type 0
HandsOver = IsCode hands_over no_leases hands_over_code [] [] (procedure 0 6 3 ∷ procedure 15 4 0 ∷ []) []

abbrev pub ValueRows : Type 0
ValueRows = Picks × Finds × Copies × HandsOver
