-- A program with a parallel loop in a parallel loop, out of both of which a loop around is left, and a parallel block: the
-- premises of the whole theorem are met.
use Rattle.std.proofs.Common.{◌≡◌, ℕ, ◌+◌, List, [], ◌∷◌, slice_get, Some, None, false, refl, subst, arith, inl, inr}
use Rattle.std.proofs.lemmas.Option.{none-some}
use Rattle.typed_tree.specs.Syntax.{Absent, Range, NoChunk, Stmt, Null, Exit, Loop, ParallelFor, Parallel, Stmts, End, Then, NoArm, Arm, NoDecl, NoHandler, Program}
use Rattle.ada_base.specs.Notes.{Schedule}
use Rattle.ada_meaning.specs.Stored as stored
use Rattle.ada_meaning.specs.Meaning
use Rattle.stack_code.specs.Valid.{IsCountable}
use Rattle.stack_code.specs.declared.code.Code.{Code}
use Rattle.stack_code.specs.declared.code.CodeSite.{CodeSite}
use Rattle.stack_code.specs.declared.code.Around.TheVariants as around
use Rattle.stack_code.specs.declared.code.SiteKind.{SiteKind}
use Rattle.stack_code.specs.declared.code.SiteKind.TheVariants as kind
use Rattle.stack_code.specs.declared.instr.Instr.{Instr}
use Rattle.stack_code.specs.declared.instr.Instr.TheVariants as i
use Rattle.stack_code.specs.Machine.{Done}
use Rattle.ada_lower.specs.Driven.{on, off}
use Rattle.ada_lower.specs.Sights.{Placed, Sight, listed}
use Rattle.ada_lower.specs.FittedForks.{FittedForks, FittedReductions, Within, unleased}
use Rattle.lower_emission.specs.Programs.{whole_code}
use Rattle.lower_emission.specs.Tables.{instrs_from, unwinds_from}
use Rattle.ada_lower.specs.ProgramCode.{main_names, IsCodeOf}
use Rattle.ada_lower.specs.Bodies.{main_scope, MainFitted}
use Rattle.ada_lower.proofs.Example.{number, none_main, text}
use Rattle.ada_lower.proofs.ForkLeft.{In}
use Rattle.ada_lower.proofs.ForkExample.{forks_at, fork_found}
use Rattle.ada_lower.proofs.Main.{outermost, first_dyn, main_ends}
use Rattle.ada_lower.proofs.Mains.{Ending}
use Rattle.ada_lower.proofs.Whole.{whole_does}
use Rattle.ada_lower.proofs.Lent.{not_lending}

abbrev inner : Stmt
inner = ParallelFor 2 1 NoChunk (Range 1 false (number 1) (number 4) None Absent) (Then (Exit 0 Absent) End)

abbrev stmts : Stmts
stmts = Then (Loop 0 Absent (Then (ParallelFor 1 0 NoChunk (Range 0 false (number 1) (number 4) None Absent) (Then inner End)) End))
    (Then (Parallel 2 Absent (Arm (Then Null End) (Arm (Then Null End) NoArm))) End)

abbrev program : Program
program = record { subtypes = []; objects = []; subs = []; sites = []; exceptions = []; body = record { decls = NoDecl; stmts = stmts; handlers = NoHandler }; nonblocking = false; strict = false }

abbrev frames : ℕ → ℕ
frames n = 12

abbrev sight : Sight
sight = main_scope program (main_names program text) none_main [] text frames 12

abbrev placed : List Placed
placed = listed (whole_code program text) 0

-- exits out of loops go where their landmarks lead
abbrev instrs : List Instr
instrs = instrs_from placed 0 placed

abbrev first : List ℕ → ℕ
first [] = 0
first (p ∷ ps) = p

abbrev site : ℕ → SiteKind → CodeSite
site n k = record { entry = first (forks_at n instrs 0) + 2; frame = 12; stack = 3; around = around.Sub 0; kind = k; leases = [] }

abbrev code : Code
code = record { instrs = instrs; spots = []; unwind = unwinds_from placed None 0 placed; sites = site 0 kind.Loop ∷ site 1 kind.Loop ∷ site 2 (kind.Block 2) ∷ []; subs = []; texts = [] }

sited : (n : ℕ) → forks_at n instrs 0 ≡ first (forks_at n instrs 0) ∷ [] → (qf : ℕ) → slice_get instrs qf ≡ Some (i.Fork n) → first (forks_at n instrs 0) + 2 ≡ qf + 1 + 1
sited n e qf h = go (first (forks_at n instrs 0)) (subst (λ ps. In (0 + qf) ps) e (fork_found n instrs 0 qf h))
  where
    go : (p : ℕ) → In (0 + qf) (p ∷ []) → p + 2 ≡ qf + 1 + 1
    go p (inl h) = omega (arith, h)
    go p (inr h) = absurd h

is_code : IsCodeOf program text code
is_code = record { lists = record { instrs = refl; unwind = refl }; subs = λ k unit e. absurd (none-some unit e) }

fitted : MainFitted program (main_names program text) none_main [] text frames (FittedReductions program (main_names program text) none_main unleased code 2) (FittedForks program (main_names program text) none_main unleased code 2) sight
unfolding Rattle.ada_lower.specs.Emission.emit Rattle.ada_lower.specs.Emission.stmt Rattle.ada_lower.specs.Emission.back_code Rattle.ada_lower.specs.Emission.piece_values
fitted = (
  (
    tt,
    (λ to. (
      (
        site 0 kind.Loop,
        (refl, refl, omega arith, sited 0 refl),
        tt,
        refl,
        omega arith,
        tt,
        tt,
        tt,
        0 ∷ [],
        (λ m h. h),
        (inl (to, refl), tt),
        ((inr (inr (inl refl)), tt), tt),
        tt,
        (
          (
            site 1 kind.Loop,
            (refl, refl, omega arith, sited 1 refl),
            tt,
            refl,
            omega arith,
            tt,
            tt,
            tt,
            0 ∷ [],
            (λ m h. h),
            (inr (refl, inr (inl refl)), tt),
            (inr (inl refl), tt),
            tt,
            ((inr (refl, inr (inl refl)), tt), tt),
          ),
          tt,
        ),
      ),
      tt,
    )),
  ),
  ((site 2 (kind.Block 2), (refl, refl, omega arith, sited 2 refl), tt, refl, omega arith, omega arith, omega arith, tt, [], (λ m h. h), tt, ((tt, tt), ((tt, tt), tt)), ((tt, tt), ((tt, tt), tt))), tt),
)

-- no part of it is repeated too often
countable : IsCountable code.instrs
unfolding Rattle.ada_lower.specs.Emission.emit Rattle.ada_lower.specs.Emission.named_value Rattle.ada_lower.specs.Emission.selected Rattle.ada_lower.specs.Emission.read Rattle.ada_lower.specs.Emission.passed Rattle.ada_lower.specs.Emission.put_into Rattle.ada_lower.specs.Emission.composed Rattle.ada_lower.specs.Emission.associated Rattle.ada_lower.specs.Emission.component Rattle.ada_lower.specs.Emission.filtered Rattle.ada_lower.specs.Emission.iterated Rattle.ada_lower.specs.Emission.chunk_code Rattle.ada_lower.specs.Emission.course_code Rattle.ada_lower.specs.Emission.threaded Rattle.ada_lower.specs.Emission.back_code Rattle.ada_lower.specs.Emission.piece_values Rattle.ada_lower.specs.Emission.stmt Rattle.ada_lower.specs.Emission.all Rattle.ada_lower.specs.Emission.cases Rattle.ada_lower.specs.Emission.handling Rattle.ada_lower.specs.Emission.arm_codes
countable = tt

pub comes : (limit : ℕ) (cuts : ℕ → ℕ → List ℕ) (within : Within cuts) (slots : ℕ) (input before : List ℕ) (notes : Schedule) → let r = (Meaning.main (stored.noted_operations limit cuts) limit program).does (stored.noted_outset slots input before notes) in
    Ending limit code (outermost None) main_ends [] (on (outermost None) 0 [] (first_dyn notes cuts 12 input before)) 0 (λ d. off (Done None) d) r.state r.end
comes limit cuts within slots input before notes =
    whole_does None unleased limit cuts (not_lending limit cuts unleased) within program code (main_names program text) none_main [] text frames slots 12 2 countable (λ n sub e. absurd (none-some sub e)) refl is_code (record { same = λ k unit e q. absurd (none-some unit e) }) (λ k unit sub e. absurd (none-some unit e)) fitted input before notes tt
