-- Programs written by hand, and the calls by which they break the rule on nonblocking text.
use Rattle.std.specs.Prelude.{◌≡◌, ℕ, pos, [], ◌∷◌, Some, None, Bool, true, false}
use Rattle.ada_base.specs.declared.operation.Op.TheVariants as op
use Rattle.typed_tree.specs.declared.expressions.Root.TheVariants as root
use Rattle.typed_tree.specs.declared.expressions.Reducer.TheVariants as reducer
use Rattle.typed_tree.specs.declared.program.Mode.TheVariants as mode
use Rattle.typed_tree.specs.Syntax.{Constant, Parameter, Binary, Call, Reduction, Whole, NoActual, In, NoChunk, NoDecl, ParallelFor, Put, Text, NoPiece, ReturnValue, Null, End, Then, NoHandler, Program}
use Rattle.ada_meaning.specs.Nonblocking.{KeepsRule}
use Rattle.ada_meaning.specs.Blocked.{Blocked}
use Rattle.ada_meaning.specs.Rows.{integers, integer, number, stored, put_image, object_of, made_of, upto, formal}

-- the one call that breaks the rule is at this token, and that is the last identifier of its name
abbrev OneCall : Program → ℕ → Type 0
OneCall program call = Blocked program call call × ((token last : ℕ) → Blocked program token last → (token ≡ call) × (last ≡ call))

-- parallel for I in 1 .. 2 loop Put_Line ("x"); end loop;

abbrev pub puts : Program
puts = made_of [] [] [] NoDecl (Then (ParallelFor 0 0 NoChunk (upto 0 2) (Then (Put 31 31 (Text (120 ∷ []) NoPiece) true) End)) End)

-- function F (X : Integer) return Integer is (X * X);
-- Put_Line (Integer'Image ([parallel for I in 1 .. 3 => F (I)]'Reduce ("+", 0))); without the aspect and with it

abbrev pub calls : Bool → Program
calls nonblocking = made_of [] (object_of 0 1 ∷ [])
    (record {
      formals = formal 0 mode.In ∷ [];
      result = Some integer;
      nonblocking = nonblocking;
      body = record { decls = NoDecl; stmts = Then (ReturnValue (stored (Binary 0 op.Mul integers (Constant 0 (root.Object 0) Whole integer) (Constant 0 (root.Object 0) Whole integer)))) End; handlers = NoHandler };
    } ∷ [])
    NoDecl (Then (put_image (Reduction 0 0 (reducer.Operator 0 op.Add integers) (number (pos 0)) (Some 0) NoChunk (upto 0 3) (Call 55 55 0 (In 0 (stored (Parameter 0 0)) NoActual)))) End)

-- procedure Q with Nonblocking is begin New_Line; end Q; null;

abbrev pub claims : Program
claims = made_of [] [] (record { formals = []; result = None; nonblocking = true; body = record { decls = NoDecl; stmts = Then (Put 57 57 NoPiece true) End; handlers = NoHandler } } ∷ []) NoDecl (Then Null End)

abbrev pub BlockedRows : Type 0
BlockedRows = OneCall puts 31 × OneCall (calls false) 55 × KeepsRule (calls true) × OneCall claims 57
