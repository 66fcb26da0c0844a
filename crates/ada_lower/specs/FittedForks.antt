-- What parallel constructs owe to their scope and to their sites, where so many may be within one another.
use Rattle.std.specs.Prelude.{◌*◌, List, sum, ◌≡◌, ℕ, zero, suc, ◌+◌, ◌<◌, ◌≤◌, ◌∷◌, slice_get, Option, Some, Bool, true, false, ◌⊎◌}
use Rattle.behaviours.specs.Paths.{Entity}
use Rattle.typed_tree.specs.Syntax.{Expr, Reduction, Components, Optional, Absent, Present, Range, Chunk, NoChunk, Count, Each, Stmt, ParallelFor, Parallel, Arms, NoArm, Arm, Program}
use Rattle.ada_meaning.specs.Meaning.{arms_of}
use Rattle.stack_code.specs.declared.code.Code.{Code}
use Rattle.stack_code.specs.declared.code.CodeSite.{CodeSite}
use Rattle.stack_code.specs.declared.code.SiteKind.TheVariants as kind
use Rattle.stack_code.specs.declared.instr.Instr.TheVariants as i
use Rattle.ada_lower.specs.Sights.{array_root_of, nested_sight, AllKnown, Amid, Named, Sight, taking, thread_sight, turn_sight, with_outside}
use Rattle.ada_lower.specs.Emission.{reduction_kind, exits_of, arm_exits, loop_kind}
use Rattle.ada_lower.specs.Fitted.{Reached, FittedSelections, Fitted, FittedFold, FittedOptional, FittedAll}
use Rattle.typed_scopes.specs.Outs.{OutAll, OutArms}

-- a plan deals no more than there is
abbrev pub Within : (ℕ → ℕ → List ℕ) → Type 0
Within cuts = (most n : ℕ) → sum (cuts most n) ≤ n

abbrev pub FittedChunk : Program → (ℕ → Entity → Option Named) → (Entity → Bool) → (Sight → Expr → Type 0) → Sight → Chunk → Type 0
FittedChunk program globals mains epar s NoChunk = Unit {0}
FittedChunk program globals mains epar s (Count e) = Fitted program globals mains epar (taking 1 s) e
FittedChunk program globals mains epar s (Each kc low high check) = Fitted program globals mains epar s low × Fitted program globals mains epar (taking 1 s) high

abbrev pub FittedCount : Program → (ℕ → Entity → Option Named) → (Entity → Bool) → (Sight → Expr → Type 0) → Sight → Optional → Type 0
FittedCount program globals mains epar s Absent = Unit {0}
FittedCount program globals mains epar s (Present e) = Fitted program globals mains epar (taking 1 s) e

-- a site is in the code, and its threads' code stands two behind each fork that names it
abbrev pub Sited : Code → Sight → ℕ → CodeSite → Type 0
Sited c s site cs = (slice_get c.sites site ≡ Some cs) × (s.frames site ≡ cs.frame) × (4 ≤ cs.frame) × ((qf : ℕ) → slice_get c.instrs qf ≡ Some (i.Fork site) → cs.entry ≡ qf + 1 + 1)

-- nothing is asked of leases
abbrev pub unleased : (items : Bool) → Sight → ℕ → CodeSite → Type 0
unleased items s site cs = Unit {0}

module _ (program : Program) (globals : ℕ → Entity → Option Named) (mains : Entity → Bool) where
  abbrev pub FittedArms : (Sight → Expr → Type 0) → (Sight → Stmt → Type 0) → Sight → Arms → Type 0
  FittedArms epar par s NoArm = Unit {0}
  FittedArms epar par s (Arm stmts rest) = FittedAll program globals mains epar par s stmts × FittedArms epar par s rest

module _ (program : Program) (globals : ℕ → Entity → Option Named) (mains : Entity → Bool) (lent : Bool → Sight → ℕ → CodeSite → Type 0) where
  -- parallel reductions, where so many may be within one another
  abbrev pub FittedReductions : Code → ℕ → Sight → Expr → Type 0
  FittedReductions c zero s e = ⊥
  FittedReductions c (suc n) s (Reduction at attribute by initial (Some site) chunk (Range p false low high check filter) value) =
      (cs : CodeSite) × Sited c s site cs × lent false s site cs × (cs.kind ≡ reduction_kind by chunk) × (s.scope.free + 4 < s.cells)
      × Fitted program globals mains (FittedReductions c n) s initial × FittedChunk program globals mains (FittedReductions c n) (nested_sight (taking 1 s)) chunk
      × Fitted program globals mains (FittedReductions c n) (taking 2 (nested_sight (taking 1 s))) low × Fitted program globals mains (FittedReductions c n) (taking 1 (taking 2 (nested_sight (taking 1 s)))) high
      × FittedOptional program globals mains (FittedReductions c n) (turn_sight (thread_sight site cs.frame (taking 2 (taking 2 (taking 1 s)))) chunk (Range p false low high check filter)) filter
      × Fitted program globals mains (FittedReductions c n) (turn_sight (thread_sight site cs.frame (taking 2 (taking 2 (taking 1 s)))) chunk (Range p false low high check filter)) value
      × FittedFold program globals mains (turn_sight (thread_sight site cs.frame (taking 2 (taking 2 (taking 1 s)))) chunk (Range p false low high check filter)) by × FittedFold program globals mains (taking 2 (taking 2 (taking 1 s))) by
  FittedReductions c (suc n) s (Reduction at attribute by initial (Some site) chunk (Components p constant a r selections count stride dimensions filter) value) =
      (cs : CodeSite) × Sited c s site cs × lent true s site cs × (5 ≤ cs.frame) × (cs.kind ≡ reduction_kind by chunk) × (s.scope.free + 3 < s.cells)
      × Fitted program globals mains (FittedReductions c n) s initial × FittedChunk program globals mains (FittedReductions c n) (nested_sight (taking 1 s)) chunk
      × Reached (array_root_of constant (taking 2 (nested_sight (taking 1 s))).scope r) selections (count * stride) × FittedSelections program globals mains (FittedReductions c n) (taking 2 (nested_sight (taking 1 s))) selections
      × FittedOptional program globals mains (FittedReductions c n) (turn_sight (thread_sight site cs.frame (taking 2 (taking 2 (taking 1 s)))) chunk (Components p constant a r selections count stride dimensions filter)) filter
      × Fitted program globals mains (FittedReductions c n) (turn_sight (thread_sight site cs.frame (taking 2 (taking 2 (taking 1 s)))) chunk (Components p constant a r selections count stride dimensions filter)) value
      × FittedFold program globals mains (turn_sight (thread_sight site cs.frame (taking 2 (taking 2 (taking 1 s)))) chunk (Components p constant a r selections count stride dimensions filter)) by × FittedFold program globals mains (taking 2 (taking 2 (taking 1 s))) by
  FittedReductions c (suc n) s e = ⊥

  abbrev pub FittedForks : Code → ℕ → Sight → Stmt → Type 0
  FittedForks c zero s t = ⊥
  FittedForks c (suc n) s (ParallelFor number site chunk (Range p false low high check filter) stmts) =
      (cs : CodeSite) × Sited c s site cs × lent false s site cs × (cs.kind ≡ loop_kind chunk) × (s.scope.free + 5 < s.cells)
      × FittedChunk program globals mains (FittedReductions c n) (nested_sight s) chunk × Fitted program globals mains (FittedReductions c n) (taking 2 (nested_sight s)) low × Fitted program globals mains (FittedReductions c n) (taking 1 (taking 2 (nested_sight s))) high
      × (loops : List ℕ) × ((m : ℕ) → Amid m loops → Amid m (exits_of stmts)) × AllKnown s loops × OutAll (λ m. (m ≡ number) ⊎ Amid m loops) stmts
      × FittedOptional program globals mains (FittedReductions c n) (turn_sight (thread_sight site cs.frame (taking 2 (taking 2 s))) chunk (Range p false low high check filter)) filter
      × FittedAll program globals mains (FittedReductions c n) (FittedForks c n) (with_outside (number ∷ loops) (turn_sight (thread_sight site cs.frame (taking 2 (taking 2 s))) chunk (Range p false low high check filter))) stmts
  FittedForks c (suc n) s (ParallelFor number site chunk (Components p constant a r selections count stride dimensions filter) stmts) =
      (cs : CodeSite) × Sited c s site cs × lent true s site cs × (5 ≤ cs.frame) × (cs.kind ≡ loop_kind chunk) × (s.scope.free + 5 < s.cells)
      × FittedChunk program globals mains (FittedReductions c n) (nested_sight s) chunk
      × Reached (array_root_of constant (taking 2 (nested_sight s)).scope r) selections (count * stride) × FittedSelections program globals mains (FittedReductions c n) (taking 2 (nested_sight s)) selections
      × (loops : List ℕ) × ((m : ℕ) → Amid m loops → Amid m (exits_of stmts)) × AllKnown s loops × OutAll (λ m. (m ≡ number) ⊎ Amid m loops) stmts
      × FittedOptional program globals mains (FittedReductions c n) (turn_sight (thread_sight site cs.frame (taking 2 (taking 2 s))) chunk (Components p constant a r selections count stride dimensions filter)) filter
      × FittedAll program globals mains (FittedReductions c n) (FittedForks c n) (with_outside (number ∷ loops) (turn_sight (thread_sight site cs.frame (taking 2 (taking 2 s))) chunk (Components p constant a r selections count stride dimensions filter))) stmts
  FittedForks c (suc n) s (Parallel site count arms) =
      (cs : CodeSite) × Sited c s site cs × lent false s site cs × (cs.kind ≡ kind.Block (arms_of arms)) × (s.scope.free + 3 < s.cells) × (1 ≤ arms_of arms) × (arms_of arms ≤ 4611686018427387904)
      × FittedCount program globals mains (FittedReductions c n) (nested_sight s) count
      × (loops : List ℕ) × ((m : ℕ) → Amid m loops → Amid m (arm_exits arms)) × AllKnown s loops × OutArms (λ m. Amid m loops) arms
      × FittedArms program globals mains (FittedReductions c n) (FittedForks c n) (with_outside loops (taking 2 (taking 2 (thread_sight site cs.frame (taking 2 s))))) arms
  FittedForks c (suc n) s t = ⊥
