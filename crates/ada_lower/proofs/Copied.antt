-- That what is asked of programs can be given: a procedure whose formals are copied back, called with its actual parameters
-- in another order.
--   procedure P (A : in out Integer; B : out Integer; V : in out Pair) is begin B := A; A := 2; end P;
--   P (B => Y, A => X, V => Z);
use Rattle.std.proofs.Common.{◌≡◌, ℕ, zero, suc, ◌≤◌, pos, List, [], ◌∷◌, map, replicate, ◌++◌, slice_get, Some, None, Ok, true, false, refl, subst, arith, inl, inr}
use Rattle.std.proofs.lemmas.Option.{none-some}
use Rattle.ada_base.specs.declared.operation.Base.TheVariants as base
use Rattle.typed_tree.specs.declared.scalars.Class.TheVariants as class
use Rattle.typed_tree.specs.declared.expressions.Root.TheVariants as root
use Rattle.typed_tree.specs.declared.program.Mode.TheVariants as mode
use Rattle.typed_tree.specs.Syntax.{Static, Variable, NoExpr, Whole, NoActual, InOut, Out, CompositeInOut, Number, OfScalar, Record, Assign, CallProcedure, Stmts, End, Then, Block, Put, Image, NoPiece, NoDecl, DeclareDefault, NoHandler, Sub, Program}
use Rattle.ada_meaning.specs.Meaning
use Rattle.ada_meaning.specs.Meaning.{sub_at}
use Rattle.ada_base.specs.Notes.{Schedule}
use Rattle.ada_meaning.specs.Stored as stored
use Rattle.ada_meaning.proofs.Cells.{some_same}
use Rattle.stack_code.specs.Valid.{IsCountable}
use Rattle.stack_code.specs.declared.code.Code.{Code}
use Rattle.stack_code.specs.declared.instr.Instr.{Instr}
use Rattle.ada_base.specs.Cells.{Mine}
use Rattle.stack_code.specs.Machine.{Done, begun}
use Rattle.ada_lower.specs.Driven.{Dyn, On, Finally, At}
use Rattle.ada_lower.specs.Sights.{Sight, Stands, listed, own}
use Rattle.ada_lower.specs.Bodies.{formal_named, sub_scope, sub_code, BodyStands, AllStand, main_scope, main_code}
use Rattle.ada_lower.specs.Fitted.{FittedStmt}
use Rattle.ada_lower.proofs.ExecLeaves.{call_only}
use Rattle.ada_lower.proofs.Main.{first_dyn, program_gives}
use Rattle.typed_scopes.specs.Outs.{AllClosed, OutAll, OutHandlers}
use Rattle.ada_lower.proofs.Example.{integer, check, none_there, none_main, text, four_each, no_fork, no_threads}

abbrev pub body : Stmts
body = Then (Assign 0 (root.Object 1) Whole (Number check (Variable 0 (root.Object 0) Whole integer))) (Then (Assign 0 (root.Object 0) Whole (Number check (Static 0 (pos 2) true NoExpr))) End)

abbrev pub procedure : Sub
procedure = record { formals = record { object = 0; mode = mode.InOut } ∷ record { object = 1; mode = mode.Out } ∷ record { object = 2; mode = mode.InOut } ∷ []; result = None; nonblocking = false; body = record { decls = NoDecl; stmts = body; handlers = NoHandler } }

abbrev pub main : Stmts
main = Then (Block (DeclareDefault 3 (DeclareDefault 4 (DeclareDefault 5 NoDecl)))
    (Then (CallProcedure 0 0 0 (Out 1 0 (root.Object 4) Whole integer integer (InOut 0 0 (root.Object 3) Whole integer integer (CompositeInOut 2 0 (root.Object 5) Whole 1 NoActual))))
    (Then (Put 0 0 (Image (class.Integer base.Narrow) (Variable 0 (root.Object 3) Whole integer) NoPiece) true) End)) NoHandler) End

abbrev pub program : Program
program = record {
  subtypes = OfScalar integer ∷ Record (record { name = 0; subtype = 0 } ∷ record { name = 1; subtype = 0 } ∷ []) ∷ [];
  objects = record { name = 0; subtype = 0; constant = false; owner = 1; offset = 0; cells = 1; value = None } ∷ record { name = 1; subtype = 0; constant = false; owner = 1; offset = 1; cells = 1; value = None } ∷ record { name = 2; subtype = 1; constant = false; owner = 1; offset = 2; cells = 2; value = None }
      ∷ record { name = 3; subtype = 0; constant = false; owner = 0; offset = 0; cells = 1; value = None } ∷ record { name = 4; subtype = 0; constant = false; owner = 0; offset = 1; cells = 1; value = None } ∷ record { name = 5; subtype = 1; constant = false; owner = 0; offset = 2; cells = 2; value = None } ∷ [];
  subs = procedure ∷ [];
  sites = [];
  exceptions = [];
  body = record { decls = NoDecl; stmts = main; handlers = NoHandler };
  nonblocking = false;
  strict = false;
}

abbrev pub scope : ℕ → Sight
scope cells = sub_scope program none_there none_main [] text four_each 0 procedure cells

abbrev pub code : Code
code = record {
  instrs = map (λ p. p.instr) (listed (sub_code program none_there none_main [] text four_each (scope 7).scope procedure) 0) ++ map (λ p. p.instr) (listed (main_code program none_there none_main [] text four_each (main_scope program none_there none_main [] text four_each 11).scope) 5);
  spots = [];
  unwind = [];
  sites = [];
  subs = record { entry = 5; frame = 11; stack = 3; takes = 0; gives = false } ∷ record { entry = 0; frame = 7; stack = 1; takes = 0; gives = false } ∷ [];
  texts = [];
}

here : {q : ℕ} {i : Instr} → slice_get code.instrs q ≡ Some i → At code q i None
here e = record { is = inl e; held = tt }

stands : (cells : ℕ) → 7 ≤ cells → Stands code (sub_code program none_there none_main [] text four_each (scope cells).scope procedure) 0 5
unfolding Rattle.ada_lower.specs.Emission.emit Rattle.ada_lower.specs.Emission.stmt Rattle.ada_lower.specs.Emission.back_code Rattle.ada_lower.specs.Emission.piece_values
stands cells le = (here refl, (here refl, (here refl, (here refl, (here refl, refl)))))

fitted : (cells : ℕ) → 7 ≤ cells → FittedStmt program none_there none_main no_threads no_fork (scope cells) (Block NoDecl body NoHandler)
fitted cells le = ((formal_named 3 1, refl, omega arith, tt, ((formal_named 1 1, refl, omega arith), tt)), ((formal_named 1 1, refl, omega arith, tt, tt), tt))

lies : BodyStands program none_there none_main [] text four_each no_threads no_fork code 0 procedure
lies = record { is = record { entry = 0; frame = 7; stack = 1; takes = 0; gives = false }; here = refl; to = 5; enough = omega arith; fresh = λ cells. (refl, (refl, (refl, tt))); backs = λ cells. (λ e. refl, (λ e. refl, (λ e. refl, tt))); stands = stands; fitted = fitted }

all_stand : AllStand program none_there none_main [] text four_each no_threads no_fork code
all_stand zero unit e = subst (λ u. BodyStands program none_there none_main [] text four_each no_threads no_fork code 0 u) (some_same _ _ e) lies
all_stand (suc n) unit e = absurd (none-some unit e)

main_stands : Stands code (main_code program none_there none_main [] text four_each (main_scope program none_there none_main [] text four_each 11).scope) 5 45
unfolding Rattle.ada_lower.specs.Emission.emit Rattle.ada_lower.specs.Emission.stmt Rattle.ada_lower.specs.Emission.back_code Rattle.ada_lower.specs.Emission.piece_values
main_stands = (here refl, (here refl, (here refl, (here refl, (here refl, (here refl, (here refl, (here refl, (here refl, (here refl, (here refl, (here refl, (here refl, (here refl, (here refl, (here refl, (here refl, (here refl, (here refl, (here refl, (here refl, (here refl, (here refl, (here refl, (here refl, (here refl, (here refl, (here refl, (here refl, (here refl, (here refl, (here refl, (here refl, (here refl, (here refl, (here refl, (here refl, (here refl, (here refl, (here refl, refl))))))))))))))))))))))))))))))))))))))))

main_fitted : FittedStmt program none_there none_main no_threads no_fork (main_scope program none_there none_main [] text four_each 11) (Block NoDecl main NoHandler)
main_fitted = (
  (
    refl,
    omega arith,
    tt,
    (
      refl,
      omega arith,
      tt,
      (
        refl,
        omega arith,
        ((refl, tt), ((refl, tt), tt)),
        (
          (
            record { unit = procedure; is = refl; outer = λ y n e. absurd (none-some n e); main = λ y e. e },
            refl,
            refl,
            omega arith,
            (2, _, inr (_, refl, inl (refl, refl)), refl, (record { through = false; place = own 1; cells = 1 }, refl, omega arith), tt, (0, _, inl (refl, refl), refl, (record { through = false; place = own 0; cells = 1 }, refl, omega arith), tt, (4, _, inl (refl, refl), refl, (record { through = false; place = own 2; cells = 2 }, refl, omega arith), tt, refl))),
          ),
          ((omega arith, (((record { through = false; place = own 0; cells = 1 }, refl, omega arith), tt), tt)), tt),
        ),
      ),
    ),
  ),
  tt,
)

-- no exit leaves a body
closed : AllClosed program
closed zero sub e = subst (λ (u : Sub). OutAll (λ n. ⊥) u.body.stmts × OutHandlers (λ n. ⊥) u.body.handlers) (some_same procedure sub e) ((tt, (tt, tt)), tt)
closed (suc n) sub e = absurd (none-some sub e)

-- no part of it is repeated too often
countable : IsCountable code.instrs
unfolding Rattle.ada_lower.specs.Emission.emit Rattle.ada_lower.specs.Emission.named_value Rattle.ada_lower.specs.Emission.selected Rattle.ada_lower.specs.Emission.read Rattle.ada_lower.specs.Emission.passed Rattle.ada_lower.specs.Emission.put_into Rattle.ada_lower.specs.Emission.composed Rattle.ada_lower.specs.Emission.associated Rattle.ada_lower.specs.Emission.component Rattle.ada_lower.specs.Emission.filtered Rattle.ada_lower.specs.Emission.iterated Rattle.ada_lower.specs.Emission.chunk_code Rattle.ada_lower.specs.Emission.course_code Rattle.ada_lower.specs.Emission.threaded Rattle.ada_lower.specs.Emission.back_code Rattle.ada_lower.specs.Emission.piece_values Rattle.ada_lower.specs.Emission.stmt Rattle.ada_lower.specs.Emission.all Rattle.ada_lower.specs.Emission.cases Rattle.ada_lower.specs.Emission.handling Rattle.ada_lower.specs.Emission.arm_codes
countable = tt

-- and where the stored run of the program gives a value, the machine ends with its output
pub comes : (limit : ℕ) (cuts : ℕ → ℕ → List ℕ) (slots : ℕ) (input before : List ℕ) (notes : Schedule) → let r = (Meaning.main (stored.noted_operations limit cuts) limit program).does (stored.noted_outset slots input before notes) in r.end ≡ Ok tt
    → (d : Dyn) × Finally limit code (On (record { state = begun 5 0 [] 0 0 0 None (replicate 11 (Mine (pos 0))); world = (first_dyn notes cuts 11 input before).world })) (record { how = Done None; dyn = d }) × (d.world.output ≡ r.state.output) × (d.turns ≡ r.state.turns)
comes limit cuts slots input before notes e = let (d, a, b, g, w) = program_gives None limit cuts program code none_there none_main no_threads [] text four_each no_fork slots 11 countable refl (call_only limit cuts program closed 1000) (λ f fa depth all. record { forked = (λ rs e from to g env x s h st k en w l. absurd w); parallel = (λ t from to g env x s k u w l. absurd w) }) all_stand 5 45 main_stands main_fitted input before notes tt e in (d, a, b, g)
