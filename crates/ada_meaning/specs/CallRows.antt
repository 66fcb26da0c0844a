-- Programs with calls, copying and exceptions, written by hand, and what they come to.
use Rattle.std.specs.Prelude.{◌≡◌, ℕ, ℤ, pos, List, [], ◌∷◌, Some, None, true, false}
use Rattle.ada_base.specs.declared.operation.Op.TheVariants as op
use Rattle.ada_base.specs.declared.reason.Reason.{Reason}
use Rattle.ada_base.specs.declared.reason.Reason.TheVariants as reason
use Rattle.typed_tree.specs.declared.scalars.Scalar.{Scalar}
use Rattle.ada_base.specs.declared.operation.Comparison.TheVariants as comparison
use Rattle.typed_tree.specs.declared.expressions.Root.TheVariants as root
use Rattle.typed_tree.specs.declared.expressions.Reducer.TheVariants as reducer
use Rattle.typed_tree.specs.declared.program.Formal.{Formal}
use Rattle.typed_tree.specs.declared.program.Mode.TheVariants as mode
use Rattle.typed_tree.specs.Syntax as syntax
use Rattle.typed_tree.specs.Syntax.{Expr, Constant, Parameter, Binary, Relation, Call, Reduction, Whole, NoActual, In, InOut, Out, Number, Range, NoChunk, NoDecl, DeclareDefault, DeclareVariable, Stmt, CallProcedure, ReturnValue, Raise, Reraise, Null, IfThen, Block, Put, Text, NoPiece, Stmts, End, Then, NoHandler, Handler, Sub, Program}
use Rattle.ada_base.specs.Cuts.{Even}
use Rattle.behaviours.specs.Paths.{Raises, Gives, Leaves, Spent}
use Rattle.ada_meaning.specs.Programs.{answer_of, planned, sequential}
use Rattle.ada_meaning.specs.Rows.{integers, integer, number, variable, sum, stored, assign, put_image, object_of, made_of, many_turns, no_input, formal}

abbrev procedure : List Formal → Stmts → Sub
procedure formals ss = record { formals = formals; result = None; nonblocking = false; body = record { decls = NoDecl; stmts = ss; handlers = NoHandler } }

abbrev function : List Formal → Stmts → Sub
function formals ss = record { formals = formals; result = Some integer; nonblocking = false; body = record { decls = NoDecl; stmts = ss; handlers = NoHandler } }

abbrev handled : Stmts → Stmts → Stmt
handled ss handler = Block NoDecl ss (Handler syntax.Others handler NoHandler)

abbrev constant : ℕ → Expr
constant x = Constant 0 (root.Object x) Whole integer

-- function Down (N : Natural) return Natural is begin if N <= 1 then return 1; else return 1 + Down (N - 1); end if; end Down;
-- begin Put_Line (Natural'Image (Down (N))); exception when others => Put_Line ("deep"); end;

abbrev pub downs : ℕ → Program
downs n = made_of [] (object_of 0 1 ∷ [])
    (function (formal 0 mode.In ∷ [])
    (Then (IfThen (Relation integers comparison.AtMost (constant 0) (number (pos 1))) (Then (ReturnValue (stored (number (pos 1)))) End)
    (Then (ReturnValue (stored (sum (number (pos 1)) (Call 0 0 0 (In 0 (stored (Binary 0 op.Sub integers (constant 0) (number (pos 1)))) NoActual))))) End)) End) ∷ [])
    NoDecl (Then (handled (Then (put_image (Call 0 0 0 (In 0 (stored (number (pos n))) NoActual))) End) (Then (Put 0 0 (Text (100 ∷ 101 ∷ 101 ∷ 112 ∷ []) NoPiece) true) End)) End)

-- a thousand calls may be active, and no more
abbrev pub Downs : Type 0
Downs = (answer_of (downs 1000) (sequential (downs 1000) many_turns no_input) ≡ record { output = 32 ∷ 49 ∷ 48 ∷ 48 ∷ 48 ∷ 10 ∷ []; end = Gives tt; finals = [] })
    × (answer_of (downs 1001) (sequential (downs 1001) many_turns no_input) ≡ record { output = 100 ∷ 101 ∷ 101 ∷ 112 ∷ 10 ∷ []; end = Gives tt; finals = [] })

-- X, Y : Integer := 1; procedure P (N : out Small; M : in out Integer) is begin Y := N; M := 7; end P; P (X, Y);
-- where Small is the subtype 5 .. 9

abbrev small : Scalar
small = record { class = integers; low = pos 5; high = pos 9 }

abbrev pub begins : Program
begins = made_of [] (object_of 0 1 ∷ object_of 0 1 ∷ object_of 0 1 ∷ object_of 0 1 ∷ [])
    (procedure (formal 2 mode.Out ∷ formal 3 mode.InOut ∷ []) (Then (assign 1 (syntax.Variable 0 (root.Object 2) Whole small)) (Then (assign 3 (number (pos 7))) End)) ∷ [])
    (DeclareVariable 0 (stored (number (pos 1))) (DeclareVariable 1 (stored (number (pos 1))) NoDecl))
    (Then (CallProcedure 0 0 0 (Out 2 0 (root.Object 0) Whole small integer (InOut 3 0 (root.Object 1) Whole integer integer NoActual))) End)

-- a formal of mode `out` begins with the first value of its subtype; copies back come after the body
abbrev pub Begins : Type 0
Begins = answer_of begins (sequential begins many_turns no_input) ≡ record { output = []; end = Gives tt; finals = (pos 5 ∷ []) ∷ (pos 7 ∷ []) ∷ [] }

-- X : Integer := 1; E : exception; procedure P (N : in out Integer) is begin N := 7; raise E; end P;
-- begin P (X); exception when others => null; end;

abbrev pub fails : Program
fails = made_of [] (object_of 0 1 ∷ object_of 0 1 ∷ []) (procedure (formal 1 mode.InOut ∷ []) (Then (assign 1 (number (pos 7))) (Then (Raise (reason.Declared 0)) End)) ∷ [])
    (DeclareVariable 0 (stored (number (pos 1))) NoDecl)
    (Then (handled (Then (CallProcedure 0 0 0 (InOut 1 0 (root.Object 0) Whole integer integer NoActual)) End) (Then Null End)) End)

-- nothing is copied back after an exception
abbrev pub NotCopied : Type 0
NotCopied = answer_of fails (sequential fails many_turns no_input) ≡ record { output = []; end = Gives tt; finals = (pos 1 ∷ []) ∷ [] }

-- function F return Integer is begin null; end F; Put_Line (Integer'Image (F));

abbrev pub endless : Program
endless = made_of [] [] (function [] (Then Null End) ∷ []) NoDecl (Then (put_image (Call 0 0 0 NoActual)) End)

-- a function that reaches its end raises Program_Error
abbrev pub NoReturn : Type 0
NoReturn = answer_of endless (sequential endless many_turns no_input) ≡ record { output = []; end = Leaves (Raises reason.ProgramError); finals = [] }

-- E1, E2 : exception;
-- begin raise E1; exception when others => begin raise E2; exception when others => null; end; raise; end;

abbrev pub reraises : Program
reraises = made_of [] [] [] NoDecl
    (Then (handled (Then (Raise (reason.Declared 0)) End) (Then (handled (Then (Raise (reason.Declared 1)) End) (Then Null End)) (Then Reraise End))) End)

-- after the inner handler the outer one handles its own exception again
abbrev pub Reraised : Type 0
Reraised = answer_of reraises (sequential reraises many_turns no_input) ≡ record { output = []; end = Leaves (Raises (reason.Declared 0)); finals = [] }

-- procedure Main is X : Integer := 1; Y : Natural := X - 2; Z : Integer; begin null; exception when others => null; end Main;

abbrev natural : Scalar
natural = record { class = integers; low = pos 0; high = pos 2147483647 }

abbrev pub elaborates : Program
elaborates = record (made_of [] (object_of 0 1 ∷ object_of 0 1 ∷ object_of 0 1 ∷ []) [] NoDecl End) {
  body = record {
    decls = DeclareVariable 0 (stored (number (pos 1))) (DeclareVariable 1 (Number (record { at = 0; scalar = natural }) (Binary 0 op.Sub integers (variable 0) (number (pos 2)))) (DeclareDefault 2 NoDecl));
    stmts = Then Null End;
    handlers = Handler syntax.Others (Then Null End) NoHandler;
  };
}

-- a raise from declarations isn't handled there, and only what was elaborated has values
abbrev pub Elaborated : Type 0
Elaborated = answer_of elaborates (sequential elaborates many_turns no_input) ≡ record { output = []; end = Leaves (Raises reason.ConstraintError); finals = (pos 1 ∷ []) ∷ [] }

-- function F (A : Integer; B : Small) return Integer is (20);
-- Put_Line (Integer'Image ([parallel for I in 5 .. 6 => I]'Reduce (F, 0))); and with 4 .. 4

abbrev pub combines : ℤ → ℤ → Program
combines low high = made_of [] (object_of 0 1 ∷ object_of 0 1 ∷ []) (function (formal 0 mode.In ∷ formal 1 mode.In ∷ []) (Then (ReturnValue (stored (number (pos 20)))) End) ∷ [])
    NoDecl (Then (put_image (Reduction 0 0 (reducer.Function 0 0 integer small) (number (pos 0)) (Some 0) NoChunk (Range 0 false (number low) (number high) None syntax.Absent) (Parameter 0 0))) End)

abbrev within : ℕ → Program → Reason → Type 0
within turns p r = answer_of p (planned p (Even 2) turns no_input) ≡ record { output = []; end = Leaves (Raises r); finals = [] }

-- in a thread the parameters are checked before the turn of the call; where accumulators are combined, after it: the
-- second accumulator, 20, is no value of Small, and it takes a third turn to find that
abbrev pub Combines : Type 0
Combines = within 1 (combines (pos 4) (pos 4)) reason.ConstraintError
    × within 3 (combines (pos 5) (pos 6)) reason.ConstraintError
    × (answer_of (combines (pos 5) (pos 6)) (planned (combines (pos 5) (pos 6)) (Even 2) 2 no_input) ≡ record { output = []; end = Spent; finals = [] })
