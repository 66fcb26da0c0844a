-- The code of a program, whole: the instructions that are listed for it, and the tables of its bodies and texts.
use Rattle.std.specs.Prelude.{ℕ, zero, suc, ◌+◌, max, nat_eq, List, [], ◌∷◌, length, None, Option, Some, Bool, true, false, cond}
use Rattle.behaviours.specs.Paths.{VariableOf, ConstantOf}
use Rattle.typed_tree.specs.declared.program.Site.{Site}
use Rattle.typed_tree.specs.declared.scalars.Scalar.{Scalar}
use Rattle.typed_tree.specs.Syntax.{Block, Sub, Program, Decls, NoDecl, DeclareDefault, DeclareVariable, DeclareConstant, Mentions}
use Rattle.ada_meaning.specs.Meaning.{object_layout}
use Rattle.stack_code.specs.declared.code.Around.{Around}
use Rattle.stack_code.specs.declared.code.Around.TheVariants as body
use Rattle.stack_code.specs.declared.code.Code.{Code}
use Rattle.stack_code.specs.declared.code.CodeSite.{CodeSite}
use Rattle.stack_code.specs.declared.code.CodeSub.{CodeSub}
use Rattle.stack_code.specs.declared.code.Lease.{Lease}
use Rattle.stack_code.specs.declared.code.SiteKind.TheVariants as kind
use Rattle.stack_code.specs.declared.instr.Instr.{Instr}
use Rattle.stack_code.specs.declared.instr.Instr.TheVariants as i
use Rattle.lower_emission.specs.declared.types.Fork.{Fork}
use Rattle.lower_emission.specs.declared.types.Need.{Need}
use Rattle.lower_emission.specs.declared.types.Placed.{Placed}
use Rattle.lower_emission.specs.Emits.{Emit, listed}
use Rattle.lower_emission.specs.Scope.{Scope, taking, nested, thread_scope, none, one, forks, aside, ◌⨟◌}
use Rattle.lower_emission.specs.Emission.{lost, put_into, shapes, shapes_cells, width}
use Rattle.lower_emission.specs.Statements.{defaulted, stmt}
use Rattle.lower_emission.specs.Bodies.{main_object, main_scope, program_code, sub_code, sub_scope}
use Rattle.lower_emission.specs.Tables.{instrs_from, spots_from, unwinds_from}
use Rattle.lower_emission.specs.Texts.{place, texts_of}

-- ---- what the instructions of a body need

abbrev pub is_body : Around → Around → Bool
is_body (body.Sub j) (body.Sub k) = nat_eq j k
is_body (body.Site j) (body.Site k) = nat_eq j k
is_body a b = false

-- at least so many cells
abbrev pub at_least : ℕ → Need
at_least cells = record { cells = cells; height = 0 }

abbrev pub raised : Need → Placed → Need
raised n p = record { cells = max n.cells p.cells; height = max n.height p.height }

-- the greatest that one of them needs, and no less than that
abbrev pub needed : Around → Need → List Placed → Need
needed b n [] = n
needed b n (p ∷ ps) = needed b (cond (is_body b p.body) (raised n p) n) ps

-- ---- the forks of constructs

abbrev pub is_fork : ℕ → Instr → Bool
is_fork site (i.Fork k) = nat_eq site k
is_fork site i = false

abbrev pub fork_at : ℕ → Placed → Fork
fork_at at p = record { place = at; around = p.body; kind = p.kind }

-- the fork of a construct among instructions from a place on, or another where there is none
abbrev pub fork_from : (site : ℕ) → Fork → ℕ → List Placed → Fork
fork_from site f at [] = f
fork_from site f at (p ∷ ps) = fork_from site (cond (is_fork site p.instr) (fork_at at p) f) (at + 1) ps

abbrev pub no_fork : Fork
no_fork = record { place = 0; around = body.Sub 0; kind = kind.Loop }

-- the threads' code stands two behind the fork, and the first four cells of their frame are given (5.5, 5.6.1, 4.5.10)
abbrev pub site_by : Fork → Need → List Lease → CodeSite
site_by f n leases = record { entry = f.place + 2; frame = n.cells + 1; stack = n.height; around = f.around; kind = f.kind; leases = leases }

abbrev pub code_site : List Placed → (ℕ → List Lease) → ℕ → CodeSite
code_site c leases site = site_by (fork_from site no_fork 0 c) (needed (body.Site site) (at_least 4) c) (leases site)

-- whether a construct has a fork among instructions
abbrev pub has_fork : (site : ℕ) → List Placed → Bool
has_fork site [] = false
has_fork site (p ∷ ps) = cond (is_fork site p.instr) true (has_fork site ps)

-- the threads of a construct that nothing begins
abbrev pub idle_threads : Scope → (site : ℕ) → Emit
idle_threads s site = lost (thread_scope site s) 0

-- the fork of a construct where no run comes, its threads, which raise, and what is behind it
abbrev pub idle_fork : Scope → (site : ℕ) → Emit
idle_fork s site = forks (nested s) 5 kind.Loop site ⨟ aside (nested s) 2 (idle_threads s site) ⨟ lost (nested s) 2

-- A construct of text that isn't evaluated has no fork where that stands (4.9, 4.1.4): its fork stands behind all other code.
-- Those without one in the listing, from a number on:
abbrev pub idle_forks : Scope → List Placed → ℕ → List Site → Emit
idle_forks s c n [] = none
idle_forks s c n (x ∷ more) = cond (has_fork n c) none (idle_fork s n) ⨟ idle_forks s c (n + 1) more

-- those of constructs from a number on
abbrev pub code_sites : List Placed → (ℕ → List Lease) → ℕ → List Site → List CodeSite
code_sites c leases n [] = []
code_sites c leases n (x ∷ more) = code_site c leases n ∷ code_sites c leases (n + 1) more

-- ---- subprograms

abbrev pub has_result : Option Scalar → Bool
has_result None = false
has_result (Some k) = true

-- operands are taken by none: the values of formals stand in the first cells of the frame (6.4)
abbrev pub sub_by : (entry : ℕ) → Need → (gives : Bool) → CodeSub
sub_by entry n gives = record { entry = entry; frame = n.cells + 1; stack = n.height; takes = 0; gives = gives }

module _ (program : Program) where
  -- the scope behind the main procedure's declarations
  abbrev pub behind : Scope → Decls → Scope
  behind s NoDecl = s
  behind s (DeclareDefault x more) = behind (main_object s (VariableOf x) (length (object_layout program x))) more
  behind s (DeclareVariable x initial more) = behind (main_object s (VariableOf x) (width program initial)) more
  behind s (DeclareConstant x initial more) = behind (main_object s (ConstantOf x) (width program initial)) more
  behind s (Mentions es more) = behind s more

  abbrev pub main_halts : Scope → Emit
  main_halts t = stmt program t (Block NoDecl program.body.stmts program.body.handlers) ⨟ one t 0 i.Halt

  -- where the main procedure's code ends that begins there
  abbrev pub main_end : Scope → Decls → ℕ → ℕ
  main_end s NoDecl q = q + length (listed (main_halts s) q)
  main_end s (DeclareDefault x more) q = main_end (main_object s (VariableOf x) (length (object_layout program x))) more (q + length (listed (defaulted program s s.free x) q))
  main_end s (DeclareVariable x initial more) q = main_end (main_object s (VariableOf x) (width program initial)) more (q + length (listed (put_into program (taking (width program initial) s) 0 s.free initial) q))
  main_end s (DeclareConstant x initial more) q = main_end (main_object s (ConstantOf x) (width program initial)) more (q + length (listed (put_into program (taking (width program initial) s) 0 s.free initial) q))
  main_end s (Mentions es more) q = main_end s more q

  -- where the code of the subprogram of a place begins, among those from a number on
  abbrev pub sub_place : Scope → ℕ → List Sub → ℕ → ℕ → ℕ
  sub_place t n [] k q = q
  sub_place t n (unit ∷ more) zero q = q
  sub_place t n (unit ∷ more) (suc k) q = sub_place t (n + 1) more k (q + length (listed (sub_code program (sub_scope program t n unit) unit) q))

  module _ (text : List ℕ → ℕ) where
    abbrev pub behind_main : Scope
    behind_main = behind (main_scope text) program.body.decls

    abbrev pub sub_entry : ℕ → ℕ
    sub_entry k = sub_place behind_main 0 program.subs k (main_end (main_scope text) program.body.decls 0)

    abbrev pub code_sub : List Placed → ℕ → Sub → CodeSub
    code_sub c k unit = sub_by (sub_entry k) (needed (body.Sub (k + 1)) (at_least (shapes_cells (shapes program unit.formals))) c) (has_result unit.result)

    -- those from a number on
    abbrev pub code_subs : List Placed → ℕ → List Sub → List CodeSub
    code_subs c k [] = []
    code_subs c k (unit ∷ more) = code_sub c k unit ∷ code_subs c (k + 1) more

    -- the main procedure, and behind it the subprograms
    abbrev pub all_subs : List Placed → List CodeSub
    all_subs c = sub_by 0 (needed (body.Sub 0) (at_least 0) c) false ∷ code_subs c 0 program.subs

  -- the number of a text
  abbrev pub text_in : List ℕ → ℕ
  text_in bytes = place (texts_of program) bytes

  -- all code of the program
  abbrev pub whole_code : (text : List ℕ → ℕ) → Emit
  whole_code text = program_code program text ⨟ idle_forks (main_scope text) (listed (program_code program text) 0) 0 program.sites

  -- the instructions as they are listed
  abbrev pub placed_code : List Placed
  placed_code = listed (whole_code text_in) 0

  abbrev pub code_by : List Placed → (leases : ℕ → List Lease) → Code
  code_by c leases = record {
    instrs = instrs_from c 0 c;
    spots = spots_from None 0 c;
    unwind = unwinds_from c None 0 c;
    sites = code_sites c leases 0 program.sites;
    subs = all_subs text_in c;
    texts = texts_of program;
  }

  -- the code of the program, with the leases of each construct
  abbrev pub code_of : (leases : ℕ → List Lease) → Code
  code_of leases = code_by placed_code leases
