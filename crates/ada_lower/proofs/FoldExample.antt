-- A program with an array of the main procedure, a parallel loop over its components, and parallel reductions over them and
-- over a range: the premises of the whole theorem are met.
use Rattle.std.proofs.Common.{◌≡◌, ℕ, ◌+◌, pos, List, [], ◌∷◌, slice_get, Some, None, true, false, refl, subst, arith, inl, inr}
use Rattle.std.proofs.lemmas.Option.{none-some}
use Rattle.ada_base.specs.Notes.{Schedule}
use Rattle.ada_base.specs.declared.operation.Base.TheVariants as base
use Rattle.ada_base.specs.declared.operation.Op.TheVariants as op
use Rattle.typed_tree.specs.declared.scalars.Class.{Class}
use Rattle.typed_tree.specs.declared.scalars.Class.TheVariants as class
use Rattle.typed_tree.specs.declared.expressions.Root.TheVariants as root
use Rattle.typed_tree.specs.declared.expressions.Reducer.{Reducer}
use Rattle.typed_tree.specs.declared.expressions.Reducer.TheVariants.{Operator}
use Rattle.typed_tree.specs.Syntax.{Absent, Expr, Variable, Parameter, Reduction, Range, Components, Whole, Number, NoChunk, Stmts, Assign, ParallelFor, Put, Image, NoPiece, End, Then, DeclareDefault, NoDecl, NoHandler, OfScalar, Array, Program}
use Rattle.ada_meaning.specs.Stored as stored
use Rattle.ada_meaning.specs.Meaning
use Rattle.stack_code.specs.Valid.{IsCountable}
use Rattle.stack_code.specs.declared.code.Code.{Code}
use Rattle.stack_code.specs.declared.code.CodeSite.{CodeSite}
use Rattle.stack_code.specs.declared.code.Around.TheVariants as around
use Rattle.stack_code.specs.declared.code.SiteKind.{SiteKind}
use Rattle.stack_code.specs.declared.code.SiteKind.TheVariants as kind
use Rattle.stack_code.specs.declared.instr.Instr.{Instr}
use Rattle.stack_code.specs.declared.instr.Instr.TheVariants as i
use Rattle.stack_code.specs.Machine.{Done}
use Rattle.ada_lower.specs.Homes.{main_variables}
use Rattle.ada_lower.specs.Driven.{on, off}
use Rattle.ada_lower.specs.Sights.{Named, Own, Main, Placed, Sight, listed}
use Rattle.ada_lower.specs.FittedForks.{FittedForks, FittedReductions, Within, unleased}
use Rattle.lower_emission.specs.Programs.{whole_code}
use Rattle.lower_emission.specs.Tables.{instrs_from, unwinds_from}
use Rattle.ada_lower.specs.ProgramCode.{main_names, IsCodeOf}
use Rattle.ada_lower.specs.Bodies.{main_scope, MainFitted}
use Rattle.ada_lower.proofs.Example.{integer, check, number, none_main, text}
use Rattle.ada_lower.proofs.ForkLeft.{In}
use Rattle.ada_lower.proofs.ForkExample.{forks_at, fork_found}
use Rattle.ada_lower.proofs.Main.{outermost, first_dyn, main_ends}
use Rattle.ada_lower.proofs.Mains.{Ending}
use Rattle.ada_lower.proofs.Whole.{whole_does}
use Rattle.ada_lower.proofs.Lent.{not_lending}

abbrev narrow : Class
narrow = class.Integer base.Narrow

abbrev sum_by : Reducer
sum_by = Operator 0 op.Add narrow

abbrev over_array : Expr
over_array = Reduction 0 0 sum_by (number 0) (Some 1) NoChunk (Components 1 false 0 (root.Object 0) Whole 4 1 1 Absent) (Variable 0 (root.Item 1) Whole integer)

abbrev over_range : Expr
over_range = Reduction 0 0 sum_by (number 0) (Some 2) NoChunk (Range 0 false (number 1) (number 3) None Absent) (Parameter 0 0)

abbrev stmts : Stmts
stmts = Then (ParallelFor 0 0 NoChunk (Components 0 false 0 (root.Object 0) Whole 4 1 1 Absent) (Then (Assign 0 (root.Item 0) Whole (Number check (number 2))) End))
    (Then (Put 0 0 (Image narrow over_array NoPiece) true) (Then (Put 0 0 (Image narrow over_range NoPiece) true) End))

abbrev program : Program
program = record {
  subtypes = OfScalar integer ∷ Array (record { low = pos 1; high = pos 4 } ∷ []) 0 ∷ [];
  objects = record { name = 0; subtype = 1; constant = false; owner = 0; offset = 0; cells = 4; value = None } ∷ [];
  subs = [];
  sites = [];
  exceptions = [];
  body = record { decls = DeclareDefault 0 NoDecl; stmts = stmts; handlers = NoHandler };
  nonblocking = false;
  strict = false;
}

abbrev frames : ℕ → ℕ
frames n = 12

abbrev sight : Sight
sight = main_scope program (main_names program text) none_main [] text frames 12

abbrev placed : List Placed
placed = listed (whole_code program text) 0

abbrev instrs : List Instr
instrs = instrs_from placed 0 placed

abbrev first : List ℕ → ℕ
first [] = 0
first (p ∷ ps) = p

abbrev site : ℕ → SiteKind → CodeSite
site n k = record { entry = first (forks_at n instrs 0) + 2; frame = 12; stack = 4; around = around.Sub 0; kind = k; leases = [] }

abbrev sums : SiteKind
sums = kind.Reduction (Some (record { op = op.Add; base = base.Narrow }))

abbrev code : Code
code = record { instrs = instrs; spots = []; unwind = unwinds_from placed None 0 placed; sites = site 0 kind.Loop ∷ site 1 sums ∷ site 2 sums ∷ []; subs = []; texts = [] }

sited : (n : ℕ) → forks_at n instrs 0 ≡ first (forks_at n instrs 0) ∷ [] → (qf : ℕ) → slice_get instrs qf ≡ Some (i.Fork n) → first (forks_at n instrs 0) + 2 ≡ qf + 1 + 1
sited n e qf h = go (first (forks_at n instrs 0)) (subst (λ ps. In (0 + qf) ps) e (fork_found n instrs 0 qf h))
  where
    go : (p : ℕ) → In (0 + qf) (p ∷ []) → p + 2 ≡ qf + 1 + 1
    go p (inl h) = omega (arith, h)
    go p (inr h) = absurd h

is_code : IsCodeOf program text code
is_code = record { lists = record { instrs = refl; unwind = refl }; subs = λ k unit e. absurd (none-some unit e) }

abbrev array : Named
array = record { through = false; place = record { level = Main; cell = 0 }; cells = 4 }

abbrev item : Named
item = record { through = true; place = record { level = Own; cell = 4 }; cells = 1 }

fitted : MainFitted program (main_names program text) none_main [] text frames (FittedReductions program (main_names program text) none_main unleased code 1) (FittedForks program (main_names program text) none_main unleased code 1) sight
unfolding Rattle.ada_lower.specs.Emission.emit Rattle.ada_lower.specs.Emission.stmt Rattle.ada_lower.specs.Emission.back_code Rattle.ada_lower.specs.Emission.piece_values
fitted = (
  refl,
  omega arith,
  (omega arith, (refl, tt)),
  ((
    (site 0 kind.Loop, (refl, refl, omega arith, sited 0 refl), tt, omega arith, refl, omega arith, tt, (array, refl, omega arith), tt, [], (λ m h. h), tt, (tt, tt), tt, ((item, refl, omega arith, tt, (omega arith, tt)), tt)),
    (
      (omega arith, ((site 1 sums, (refl, refl, omega arith, sited 1 refl), tt, omega arith, refl, omega arith, tt, tt, (array, refl, omega arith), tt, tt, ((item, refl, omega arith), tt), tt, tt), tt)),
      (
        (omega arith, ((site 2 sums, (refl, refl, omega arith, sited 2 refl), tt, refl, omega arith, tt, tt, tt, tt, tt, (record { level = Own; cell = 2 }, refl), tt, tt), tt)),
        tt,
      ),
    ),
  )),
)

-- no part of it is repeated too often
countable : IsCountable code.instrs
unfolding Rattle.ada_lower.specs.Emission.emit Rattle.ada_lower.specs.Emission.named_value Rattle.ada_lower.specs.Emission.selected Rattle.ada_lower.specs.Emission.read Rattle.ada_lower.specs.Emission.passed Rattle.ada_lower.specs.Emission.put_into Rattle.ada_lower.specs.Emission.composed Rattle.ada_lower.specs.Emission.associated Rattle.ada_lower.specs.Emission.component Rattle.ada_lower.specs.Emission.filtered Rattle.ada_lower.specs.Emission.iterated Rattle.ada_lower.specs.Emission.chunk_code Rattle.ada_lower.specs.Emission.course_code Rattle.ada_lower.specs.Emission.threaded Rattle.ada_lower.specs.Emission.back_code Rattle.ada_lower.specs.Emission.piece_values Rattle.ada_lower.specs.Emission.stmt Rattle.ada_lower.specs.Emission.all Rattle.ada_lower.specs.Emission.cases Rattle.ada_lower.specs.Emission.handling Rattle.ada_lower.specs.Emission.arm_codes
countable = tt

pub comes : (limit : ℕ) (cuts : ℕ → ℕ → List ℕ) (within : Within cuts) (slots : ℕ) (input before : List ℕ) (notes : Schedule) → let r = (Meaning.main (stored.noted_operations limit cuts) limit program).does (stored.noted_outset slots input before notes) in
    Ending limit code (outermost None) main_ends (main_variables program 0 program.body.decls) (on (outermost None) 0 [] (first_dyn notes cuts 12 input before)) 0 (λ d. off (Done None) d) r.state r.end
comes limit cuts within slots input before notes =
    whole_does None unleased limit cuts (not_lending limit cuts unleased) within program code (main_names program text) none_main [] text frames slots 12 1 countable (λ n sub e. absurd (none-some sub e)) refl is_code (record { same = λ k unit e q. absurd (none-some unit e) }) (λ k unit sub e. absurd (none-some unit e)) fitted input before notes tt
