-- Programs with blocks and handlers (5.6, 11.2, 11.3) and calls (6.4, 6.5), and their code by hand.
use Rattle.std.specs.Prelude.{ℕ, pos, List, [], ◌∷◌, Some, None, false}
use Rattle.ada_base.specs.declared.operation.Base.TheVariants.{Narrow}
use Rattle.ada_base.specs.declared.reason.Reason.TheVariants as reason
use Rattle.typed_tree.specs.declared.expressions.Root.TheVariants as root
use Rattle.typed_tree.specs.declared.program.Mode.TheVariants as mode
use Rattle.typed_tree.specs.Syntax as syntax
use Rattle.typed_tree.specs.Syntax.{Expr, Variable, Constant, Call, Whole, NoActual, In, InOut, Out, Number, NoDecl, DeclareVariable, Stmt, Assign, CallProcedure, ReturnValue, Raise, Reraise, Block, End, Then, NoHandler, Handler, Program}
use Rattle.ada_meaning.specs.Rows.{integer, number, variable, sum, stored, assign, object_of, made_of, formal}
use Rattle.stack_code.specs.declared.instr.Instr.TheVariants as i
use Rattle.lower_emission.specs.Lines.{Line, main, guarded, within, fits, integer_to, digit_to, digit, digits, set_to, procedure, function, no_leases, IsCode}

-- E : exception; X : Integer := 0;
-- declare Y : Integer := X; begin raise E; exception when E => X := Y; when others => raise; end;

abbrev pub handles : Program
handles = record (made_of [] (object_of 0 1 ∷ object_of 0 1 ∷ []) [] (set_to 0 0 NoDecl)
    (Then (Block (DeclareVariable 1 (stored (variable 0)) NoDecl) (Then (Raise (reason.Declared 0)) End)
    (Handler (syntax.Reasons (reason.Declared 0 ∷ [])) (Then (assign 0 (variable 1)) End) (Handler syntax.Others (Then Reraise End) NoHandler))) End))
    { exceptions = record { name = 0 } ∷ [] }

abbrev handles_code : List Line
handles_code =
    main 0 0 (i.Push (pos 0))
    ∷ main 1 1 (integer_to 0)
    ∷ main 2 0 (i.LoadG 0)
    ∷ main 3 1 (integer_to 1)
    ∷ main 4 0 (i.Jump 6)
    ∷ main 5 1 (i.Jump 8)
    ∷ guarded 0 0 6 0 (i.Raise (reason.Declared 0))
    ∷ main 7 0 (i.Jump 23)
    ∷ main 8 1 (i.StoreL 2)
    ∷ main 9 0 (i.LoadL 2)
    ∷ main 10 1 (i.Push (pos 5))
    ∷ main 11 2 i.Eq
    ∷ main 12 1 (i.JFalse 15)
    ∷ main 13 0 (i.Push (pos 1))
    ∷ main 14 1 (i.Jump 16)
    ∷ main 15 0 (i.Push (pos 0))
    ∷ main 16 1 (i.JFalse 21)
    ∷ main 17 0 (i.LoadL 1)
    ∷ main 18 1 fits
    ∷ main 19 1 (i.StoreG 0)
    ∷ main 20 0 (i.Jump 23)
    ∷ main 21 0 (i.LoadL 2)
    ∷ main 22 1 i.Reraise
    ∷ main 23 0 i.Halt
    ∷ []

abbrev pub Handles : Type 0
Handles = IsCode handles no_leases handles_code (record { from = 6; to = 7; handler = 8; depth = 0; nest = 0 } ∷ []) [] (procedure 0 4 2 ∷ []) []

-- subtype Digit is Integer range 0 .. 9;
-- procedure P (A : Integer; B : in out Digit; C : out Digit) is begin B := B + A; C := B; end P;
-- X : Integer := 1; Y : Integer := 2; P (X, X, Y);

abbrev digit_of : ℕ → Expr
digit_of x = Variable 0 (root.Object x) Whole digit

abbrev put_digit : ℕ → Expr → Stmt
put_digit x e = Assign 0 (root.Object x) Whole (Number (record { at = 0; scalar = digit }) e)

abbrev pub passes : Program
passes = made_of (digits ∷ []) (object_of 0 1 ∷ object_of 0 1 ∷ object_of 0 1 ∷ object_of 1 1 ∷ object_of 1 1 ∷ [])
    (record {
      formals = formal 2 mode.In ∷ formal 3 mode.InOut ∷ formal 4 mode.Out ∷ [];
      result = None;
      nonblocking = false;
      body = record { decls = NoDecl; stmts = Then (put_digit 3 (sum (digit_of 3) (Constant 0 (root.Object 2) Whole integer))) (Then (put_digit 4 (digit_of 3)) End); handlers = NoHandler };
    } ∷ [])
    (set_to 0 1 (set_to 1 2 NoDecl))
    (Then (CallProcedure 0 0 0 (In 2 (stored (variable 0)) (InOut 3 0 (root.Object 0) Whole digit integer (Out 4 0 (root.Object 1) Whole digit integer NoActual)))) End)

abbrev passes_code : List Line
passes_code =
    main 0 0 (i.Push (pos 1))
    ∷ main 1 1 (integer_to 0)
    ∷ main 2 0 (i.Push (pos 2))
    ∷ main 3 1 (integer_to 1)
    ∷ main 4 0 (i.LoadG 0)
    ∷ main 5 1 (integer_to 2)
    ∷ main 6 0 (i.Global 0)
    ∷ main 7 1 i.Dup
    ∷ main 8 2 (i.StoreL 3)
    ∷ main 9 1 i.Load
    ∷ main 10 1 (digit_to 4)
    ∷ main 11 0 (i.Global 1)
    ∷ main 12 1 (i.StoreL 5)
    ∷ main 13 0 (i.Push (pos 0))
    ∷ main 14 1 (i.StoreL 6)
    ∷ main 15 0 (i.CallAt 1 2)
    ∷ main 16 0 (i.LoadL 3)
    ∷ main 17 1 (i.LoadL 4)
    ∷ main 18 2 fits
    ∷ main 19 2 i.Store
    ∷ main 20 0 (i.LoadL 5)
    ∷ main 21 1 (i.LoadL 6)
    ∷ main 22 2 fits
    ∷ main 23 2 i.Store
    ∷ main 24 0 i.Halt
    ∷ within 25 0 (i.LoadL 2)
    ∷ within 26 1 (i.LoadL 0)
    ∷ within 27 2 (i.Add Narrow)
    ∷ within 28 1 (digit_to 2)
    ∷ within 29 0 (i.LoadL 2)
    ∷ within 30 1 (digit_to 4)
    ∷ within 31 0 i.Ret
    ∷ []

abbrev pub Passes : Type 0
Passes = IsCode passes no_leases passes_code [] [] (procedure 0 8 2 ∷ procedure 25 6 2 ∷ []) []

-- function F (N : Integer) return Integer is begin return N + N; end F; X : Integer := 3; X := 1 + F (X);

abbrev pub calls : Program
calls = made_of [] (object_of 0 1 ∷ object_of 0 1 ∷ [])
    (record {
      formals = formal 1 mode.In ∷ [];
      result = Some integer;
      nonblocking = false;
      body = record { decls = NoDecl; stmts = Then (ReturnValue (stored (sum (Constant 0 (root.Object 1) Whole integer) (Constant 0 (root.Object 1) Whole integer)))) End; handlers = NoHandler };
    } ∷ [])
    (set_to 0 3 NoDecl) (Then (assign 0 (sum (number (pos 1)) (Call 0 0 0 (In 1 (stored (variable 0)) NoActual)))) End)

abbrev calls_code : List Line
calls_code =
    main 0 0 (i.Push (pos 3))
    ∷ main 1 1 (integer_to 0)
    ∷ main 2 0 (i.Push (pos 1))
    ∷ main 3 1 (i.LoadG 0)
    ∷ main 4 2 (integer_to 1)
    ∷ main 5 1 (i.CallAt 1 1)
    ∷ main 6 2 (i.Add Narrow)
    ∷ main 7 1 fits
    ∷ main 8 1 (i.StoreG 0)
    ∷ main 9 0 i.Halt
    ∷ within 10 0 (i.LoadL 0)
    ∷ within 11 1 (i.LoadL 0)
    ∷ within 12 2 (i.Add Narrow)
    ∷ within 13 1 fits
    ∷ within 14 1 i.RetV
    ∷ within 15 0 (i.Raise reason.ProgramError)
    ∷ []

abbrev pub Calls : Type 0
Calls = IsCode calls no_leases calls_code [] [] (procedure 0 3 2 ∷ function 10 2 2 ∷ []) []

abbrev pub BodyRows : Type 0
BodyRows = Handles × Passes × Calls
