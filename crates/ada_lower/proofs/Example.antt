-- That what is asked of programs can be given: a recursive function.
--   function F (X : Integer) return Integer is begin if X < 1 then return 0; end if; return F (X - 1) + X; end F;
use Rattle.std.proofs.Common.{◌≡◌, ℕ, zero, suc, ◌+◌, ◌≤◌, pos, negsuc, List, [], ◌∷◌, map, replicate, ◌++◌, slice_get, Option, Some, None, Ok, Bool, true, false, refl, subst, arith, inl}
use Rattle.std.proofs.lemmas.Option.{none-some}
use Rattle.ada_base.specs.declared.operation.Op.TheVariants as op
use Rattle.ada_base.specs.declared.operation.Base.TheVariants as base
use Rattle.behaviours.specs.Paths.{Entity}
use Rattle.typed_tree.specs.declared.scalars.Class.TheVariants as class
use Rattle.ada_base.specs.declared.operation.Comparison.TheVariants as comparison
use Rattle.typed_tree.specs.declared.scalars.Scalar.{Scalar}
use Rattle.typed_tree.specs.declared.scalars.Check.{Check}
use Rattle.typed_tree.specs.declared.expressions.Root.TheVariants as root
use Rattle.typed_tree.specs.declared.program.Mode.TheVariants as mode
use Rattle.typed_tree.specs.Syntax.{Stmt, Expr, Static, Constant, Binary, Relation, Call, NoExpr, Whole, NoActual, In, Number, OfScalar, ReturnValue, IfThen, Stmts, End, Then, Block, Put, Image, NoPiece, NoDecl, NoHandler, Sub, Program}
use Rattle.ada_meaning.specs.Meaning
use Rattle.ada_meaning.specs.Meaning.{sub_at}
use Rattle.ada_base.specs.Notes.{Schedule}
use Rattle.ada_meaning.specs.Stored as stored
use Rattle.ada_meaning.proofs.Cells.{some_same}
use Rattle.stack_code.specs.Valid.{IsCountable}
use Rattle.stack_code.specs.declared.code.Code.{Code}
use Rattle.stack_code.specs.declared.instr.Instr.{Instr}
use Rattle.ada_base.specs.Cells.{Mine}
use Rattle.stack_code.specs.Machine.{Done, begun}
use Rattle.ada_lower.specs.Driven.{Fixed, Dyn, On, Finally, At}
use Rattle.ada_lower.specs.Sights.{Named, Sight, Stands, listed}
use Rattle.ada_lower.specs.Bodies.{formal_named, sub_scope, sub_code, BodyStands, AllStand, main_scope, main_code}
use Rattle.ada_lower.specs.Fitted.{FittedStmt}
use Rattle.ada_lower.proofs.Calls.{CallsDo}
use Rattle.ada_lower.proofs.Bodies.{call_do}
use Rattle.ada_lower.proofs.ExecLeaves.{call_only}
use Rattle.ada_lower.proofs.Main.{first_dyn, program_gives}
use Rattle.typed_scopes.specs.Outs.{AllClosed, OutAll, OutHandlers}

abbrev pub four_each : ℕ → ℕ
four_each n = 4

abbrev pub no_threads : Sight → Expr → Type 0
no_threads s e = ⊥

abbrev pub no_fork : Sight → Stmt → Type 0
no_fork s t = ⊥

abbrev pub integer : Scalar
integer = record { class = class.Integer base.Narrow; low = negsuc 2147483647; high = pos 2147483647 }

abbrev pub check : Check
check = record { at = 0; scalar = integer }

abbrev pub number : ℕ → Expr
number n = Static 0 (pos n) true NoExpr

abbrev pub formal : Expr
formal = Constant 0 (root.Object 0) Whole integer

abbrev pub body : Stmts
body =
    Then (IfThen (Relation (class.Integer base.Narrow) comparison.Less formal (number 1)) (Then (ReturnValue (Number check (number 0))) End) End)
    (Then (ReturnValue (Number check (Binary 0 op.Add (class.Integer base.Narrow)
    (Call 0 0 0 (In 0 (Number check (Binary 0 op.Sub (class.Integer base.Narrow) formal (number 1))) NoActual)) formal))) End)

abbrev pub function : Sub
function = record { formals = record { object = 0; mode = mode.In } ∷ []; result = Some integer; nonblocking = false; body = record { decls = NoDecl; stmts = body; handlers = NoHandler } }

abbrev pub main : Stmts
main = Then (Put 0 0 (Image (class.Integer base.Narrow) (Call 0 0 0 (In 0 (Number check (number 10)) NoActual)) NoPiece) true) End

abbrev pub program : Program
program = record {
  subtypes = OfScalar integer ∷ [];
  objects = record { name = 0; subtype = 0; constant = true; owner = 1; offset = 0; cells = 1; value = None } ∷ [];
  subs = function ∷ [];
  sites = [];
  exceptions = [];
  body = record { decls = NoDecl; stmts = main; handlers = NoHandler };
  nonblocking = false;
  strict = false;
}

abbrev pub none_there : ℕ → Entity → Option Named
none_there sub y = None

abbrev pub none_main : Entity → Bool
none_main y = false

abbrev pub text : List ℕ → ℕ
text bytes = 0

abbrev pub scope : ℕ → Sight
scope cells = sub_scope program none_there none_main [] text four_each 0 function cells

abbrev pub code : Code
code = record {
  instrs = map (λ p. p.instr) (listed (sub_code program none_there none_main [] text four_each (scope 3).scope function) 0) ++ map (λ p. p.instr) (listed (main_code program none_there none_main [] text four_each (main_scope program none_there none_main [] text four_each 3).scope) 16);
  spots = [];
  unwind = [];
  sites = [];
  subs = record { entry = 16; frame = 3; stack = 2; takes = 0; gives = false } ∷ record { entry = 0; frame = 3; stack = 2; takes = 0; gives = true } ∷ [];
  texts = [];
}

here : {q : ℕ} {i : Instr} → slice_get code.instrs q ≡ Some i → At code q i None
here e = record { is = inl e; held = tt }

stands : (cells : ℕ) → 3 ≤ cells → Stands code (sub_code program none_there none_main [] text four_each (scope cells).scope function) 0 16
unfolding Rattle.ada_lower.specs.Emission.emit Rattle.ada_lower.specs.Emission.stmt Rattle.ada_lower.specs.Emission.back_code Rattle.ada_lower.specs.Emission.piece_values
stands cells le = (here refl, (here refl, (here refl, (here refl, (here refl, (here refl, (here refl, (here refl, (here refl, (here refl, (here refl, (here refl, (here refl, (here refl, (here refl, (here refl, refl))))))))))))))))

fitted : (cells : ℕ) → 3 ≤ cells → FittedStmt program none_there none_main no_threads no_fork (scope cells) (Block NoDecl body NoHandler)
fitted cells le = (
  ((there, tt), (tt, tt), tt),
  (((record { unit = function; is = refl; outer = λ y n e. absurd (none-some n e); main = λ y e. e }, (integer, refl), refl, omega (arith, le), (0, [], inl (refl, refl), refl, (there, tt), refl)), there), tt),
)
  where
    there : ((n : Named) × (Some (formal_named 0 1) ≡ Some n) × (1 ≤ n.cells)) × Unit {0}
    there = ((formal_named 0 1, refl, omega arith), tt)

lies : BodyStands program none_there none_main [] text four_each no_threads no_fork code 0 function
lies = record { is = record { entry = 0; frame = 3; stack = 2; takes = 0; gives = true }; here = refl; to = 16; enough = omega arith; fresh = λ cells. (refl, tt); backs = λ cells. (λ e. cc, tt); stands = stands; fitted = fitted }

all_stand : AllStand program none_there none_main [] text four_each no_threads no_fork code
all_stand zero unit e = subst (λ u. BodyStands program none_there none_main [] text four_each no_threads no_fork code 0 u) (some_same _ _ e) lies
all_stand (suc n) unit e = absurd (none-some unit e)

-- no part of it is repeated too often
countable : IsCountable code.instrs
unfolding Rattle.ada_lower.specs.Emission.emit Rattle.ada_lower.specs.Emission.named_value Rattle.ada_lower.specs.Emission.selected Rattle.ada_lower.specs.Emission.read Rattle.ada_lower.specs.Emission.passed Rattle.ada_lower.specs.Emission.put_into Rattle.ada_lower.specs.Emission.composed Rattle.ada_lower.specs.Emission.associated Rattle.ada_lower.specs.Emission.component Rattle.ada_lower.specs.Emission.filtered Rattle.ada_lower.specs.Emission.iterated Rattle.ada_lower.specs.Emission.chunk_code Rattle.ada_lower.specs.Emission.course_code Rattle.ada_lower.specs.Emission.threaded Rattle.ada_lower.specs.Emission.back_code Rattle.ada_lower.specs.Emission.piece_values Rattle.ada_lower.specs.Emission.stmt Rattle.ada_lower.specs.Emission.all Rattle.ada_lower.specs.Emission.cases Rattle.ada_lower.specs.Emission.handling Rattle.ada_lower.specs.Emission.arm_codes
countable = tt

-- so calls of it do what they do in the stored run
pub calls_do : (limit : ℕ) (cuts : ℕ → ℕ → List ℕ) (depth : ℕ) (f : Fixed) → f.asked ≡ None → f.calls + depth ≡ 1000 → CallsDo limit cuts program none_there none_main code f (Meaning.call (stored.noted_operations limit cuts) limit program depth)
calls_do limit cuts depth f not_asked many = call_do limit cuts program code none_there none_main no_threads [] text four_each no_fork countable refl all_stand None (λ f fa depth all. record { forked = (λ rs e from to g env x s h st k en w l. absurd w); parallel = (λ t from to g env x s k u w l. absurd w) }) depth f not_asked many

main_stands : Stands code (main_code program none_there none_main [] text four_each (main_scope program none_there none_main [] text four_each 3).scope) 16 24
unfolding Rattle.ada_lower.specs.Emission.emit Rattle.ada_lower.specs.Emission.stmt Rattle.ada_lower.specs.Emission.back_code Rattle.ada_lower.specs.Emission.piece_values
main_stands = (here refl, (here refl, (here refl, (here refl, (here refl, (here refl, (here refl, (here refl, refl))))))))

main_fitted : FittedStmt program none_there none_main no_threads no_fork (main_scope program none_there none_main [] text four_each 3) (Block NoDecl main NoHandler)
main_fitted = ((omega arith, ((record { unit = function; is = refl; outer = λ y n e. absurd (none-some n e); main = λ y e. e }, (integer, refl), refl, omega arith, (0, [], inl (refl, refl), refl, tt, refl)), tt)), tt)

-- no exit leaves a body
closed : AllClosed program
closed zero sub e = subst (λ (u : Sub). OutAll (λ n. ⊥) u.body.stmts × OutHandlers (λ n. ⊥) u.body.handlers) (some_same function sub e) ((((tt, tt), tt), (tt, tt)), tt)
closed (suc n) sub e = absurd (none-some sub e)

-- and where the stored run of the program gives a value, the machine ends with its output
pub comes : (limit : ℕ) (cuts : ℕ → ℕ → List ℕ) (slots : ℕ) (input before : List ℕ) (notes : Schedule) → let r = (Meaning.main (stored.noted_operations limit cuts) limit program).does (stored.noted_outset slots input before notes) in r.end ≡ Ok tt
    → (d : Dyn) × Finally limit code (On (record { state = begun 16 0 [] 0 0 0 None (replicate 3 (Mine (pos 0))); world = (first_dyn notes cuts 3 input before).world })) (record { how = Done None; dyn = d }) × (d.world.output ≡ r.state.output) × (d.turns ≡ r.state.turns)
comes limit cuts slots input before notes e = let (d, a, b, g, w) = program_gives None limit cuts program code none_there none_main no_threads [] text four_each no_fork slots 3 countable refl (call_only limit cuts program closed 1000) (λ f fa depth all. record { forked = (λ rs e from to g env x s h st k en w l. absurd w); parallel = (λ t from to g env x s k u w l. absurd w) }) all_stand 16 24 main_stands main_fitted input before notes tt e in (d, a, b, g)
