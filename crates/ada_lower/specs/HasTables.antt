-- What the tables of a program's code have, beside its instructions and handlers, for the code to be valid.
use Rattle.std.specs.Prelude.{◌≡◌, ℕ, zero, suc, ◌+◌, ◌<◌, ◌≤◌, List, length, slice_get, Some, None}
use Rattle.typed_tree.specs.Syntax.{Sub, Program}
use Rattle.ada_meaning.specs.Meaning.{sub_at}
use Rattle.stack_code.specs.declared.code.Around.{Around}
use Rattle.stack_code.specs.declared.code.Around.TheVariants.{Sub as OfSub, Site}
use Rattle.stack_code.specs.declared.code.Code.{Code}
use Rattle.stack_code.specs.declared.code.CodeSite.{CodeSite}
use Rattle.stack_code.specs.declared.code.CodeSub.{CodeSub}
use Rattle.stack_code.specs.declared.code.Lease.{Lease}
use Rattle.stack_code.specs.declared.instr.Instr.TheVariants.{Fork, Words}
use Rattle.stack_code.specs.Valid.{Each, FoldFits, Has, HasFrame, HasStack, LeaseFits}
use Rattle.lower_emission.specs.declared.types.Placed.{Placed}
use Rattle.lower_emission.specs.Emits.{listed}
use Rattle.lower_emission.specs.Programs.{has_result, whole_code, placed_code, code_of}
use Rattle.lower_emission.specs.Tables.{spots_from}

module _ (program : Program) (text : List ℕ → ℕ) (c : Code) where
  -- the instruction that is listed at a place
  abbrev pub Lists : ℕ → Placed → Type 0
  Lists q p = slice_get (listed (whole_code program text) 0) q ≡ Some p

  pub record HasTables : Type 0 where
    pub spots : c.spots ≡ spots_from None 0 (listed (whole_code program text) 0)
    -- an instruction's body is there: its frame has more cells than are taken where the instruction stands, and its operand
    -- stack is as high
    pub cells : (q : ℕ) (p : Placed) → Lists q p → HasFrame c p.body (λ cells. p.cells < cells)
    pub heights : (q : ℕ) (p : Placed) → Lists q p → HasStack c p.body (λ most. p.height ≤ most)
    -- the main procedure, and behind it the subprograms; none takes operands (6.4)
    pub main : Has c.subs 0 (λ s. (s.entry ≡ 0) × (s.takes ≡ 0))
    pub subs : (k : ℕ) (unit : Sub) → sub_at program.subs k ≡ Some unit → Has c.subs (k + 1) (λ s. (s.takes ≡ 0) × (s.gives ≡ has_result unit.result))
    pub no_more : (k : ℕ) (s : CodeSub) → slice_get c.subs (k + 1) ≡ Some s → (unit : Sub) × (sub_at program.subs k ≡ Some unit)
    -- a fork's construct is there, and each construct has a fork (5.5, 5.6.1, 4.5.10)
    pub forks : (q site : ℕ) (p : Placed) → Lists q p → p.instr ≡ Fork site → Has c.sites site (λ s. (s.entry ≡ q + 1 + 1) × (4 ≤ s.frame) × (s.around ≡ p.body) × (s.kind ≡ p.kind))
    pub folds : (q site : ℕ) (p : Placed) → Lists q p → p.instr ≡ Fork site → FoldFits p.kind
    pub sites : (site : ℕ) (s : CodeSite) → slice_get c.sites site ≡ Some s → (q : ℕ) × (p : Placed) × Lists q p × (p.instr ≡ Fork site)
    -- one that stands in the threads of another has the greater number
    pub earlier : (site outer : ℕ) (s : CodeSite) → slice_get c.sites site ≡ Some s → s.around ≡ Site outer → outer < site
    pub leases : Each c.sites (λ site s. Each s.leases (λ n lease. LeaseFits c s.around lease.frame))
    -- the texts that are put out (A.10.7)
    pub texts : (q k : ℕ) (p : Placed) → Lists q p → p.instr ≡ Words k → k < length c.texts

-- ---- the whole code of a program, by its definition

module _ (program : Program) where
  -- a body of the program
  abbrev pub IsBody : Around → Type 0
  IsBody (OfSub zero) = Unit {0}
  IsBody (OfSub (suc k)) = k < length program.subs
  IsBody (Site k) = k < length program.sites

  abbrev pub Stands : ℕ → Placed → Type 0
  Stands q p = slice_get (placed_code program) q ≡ Some p

  -- each construct has one fork among its listed instructions
  pub record HasForks : Type 0 where
    pub once : (q q' site : ℕ) (p p' : Placed) → Stands q p → Stands q' p' → p.instr ≡ Fork site → p'.instr ≡ Fork site → q ≡ q'
    pub each : (site : ℕ) → site < length program.sites → (q : ℕ) × (p : Placed) × Stands q p × (p.instr ≡ Fork site)

  -- leases are of frames that the fork's path sees
  abbrev pub LeasesFit : (ℕ → List Lease) → Type 0
  LeasesFit leases = (site : ℕ) (s : CodeSite) → slice_get (code_of program leases).sites site ≡ Some s → Each s.leases (λ n lease. LeaseFits (code_of program leases) s.around lease.frame)
