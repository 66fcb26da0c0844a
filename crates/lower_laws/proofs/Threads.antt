-- What the threads of a construct may write is named where the construct stands (9.10.1).
use Rattle.std.proofs.Common.{◌≡◌, ℕ, ◌*◌, List, inl, inr, Option, Some, Bool, true, false}
use Rattle.behaviours.specs.Paths.{Entity, VariableOf}
use Rattle.typed_tree.specs.declared.expressions.Root.{Root}
use Rattle.typed_tree.specs.declared.expressions.Reducer.{Reducer}
use Rattle.typed_tree.specs.declared.scalars.Check.{Check}
use Rattle.typed_tree.specs.Syntax.{Expr, Optional, Selections, Iteration, Range, Components, Chunk, Stmt, Stmts, Arms, Program}
use Rattle.typed_scopes.specs.Scopes.{Around, ScopedAll, ScopedArms, ScopedExpr, ScopedIteration, ScopedOptional, ScopedReducer, with_chunk, with_parameter}
use Rattle.check_effects.specs.Effects.{Access, Roles, forget, judging, name, chunk_parameter, LoopOf, BlockOf, ReductionOf, Item, Touches, Calls, InThread, IsEffect}
use Rattle.stack_code.specs.declared.code.Code.{Code}
use Rattle.stack_code.specs.declared.code.CodeSite.{CodeSite}
use Rattle.ada_lower.specs.Sights.{Named, Sight, array_root_of, nested_sight, taking, thread_sight, turn_sight, with_outside}
use Rattle.ada_lower.specs.Fitted.{Reached, FittedAll}
use Rattle.ada_lower.specs.FittedForks.{FittedArms, FittedForks, FittedReductions}
use Rattle.lower_laws.proofs.Quiets.{quiet_reducer, quiet_turn}
use Rattle.lower_laws.proofs.Here.{Sees, Shows, WritesSeen}
use Rattle.lower_laws.proofs.Writes.{Fine, Items, Lies, array_lies, calm, fine_arms, fine_back, fine_components, fine_range, items_thread}

module _ (program : Program) (shown : ℕ → Entity → Bool) where
  -- its own text is fine, and what that calls writes what is seen there
  effect_lies : (items : Item → Type 0) (outer : Entity → Bool) (object : Entity → Option Named) → ((i : Item) → items i → Fine program shown outer object i) → ((y : Entity) → outer y ≡ true → (m : Named) × (object y ≡ Some m)) → Shows program shown
      → (at : ℕ) (a : Access) → IsEffect program items at a → a.writes ≡ true → Lies object a.object
  effect_lies items outer object fine around shows at a (inl h) w = fine (Touches at a) h w
  effect_lies items outer object fine around shows at a (inr (callee, sub, h, there, reached, global)) w = around (VariableOf a.object) (fine (Calls at callee sub) h (VariableOf a.object) (shows sub there a reached global w))

  pub fold_writes : (r : Roles) (s : Sight) (v : Around) (site : ℕ) (by : Reducer) (chunk : Chunk) (it : Iteration) (value : Expr) → Sees program v s → ScopedReducer program shown v by → ScopedIteration program shown v (with_chunk chunk v) it (λ u. ScopedExpr program shown u value)
      → Shows program shown → WritesSeen program (ReductionOf site (forget r) by chunk it value) s
  fold_writes r s v site by chunk it value h reducer p shows j = effect_lies (InThread program.subtypes (ReductionOf site (forget r) by chunk it value) j) v.outer s.scope.object fine h.around shows
    where
      fine : (i : Item) → InThread program.subtypes (ReductionOf site (forget r) by chunk it value) j i → Fine program shown v.outer s.scope.object i
      fine i (inl z) = calm program shown v.outer s.scope.object i (quiet_reducer program shown v by reducer i z)
      fine i (inr z) = calm program shown v.outer s.scope.object i (quiet_turn program shown v chunk (judging chunk it (forget r)) it value p i z)

  module _ (globals : ℕ → Entity → Option Named) (mains : Entity → Bool) (c : Code) (told : Bool → Sight → ℕ → CodeSite → Type 0) where
    abbrev Told : ℕ → Sight → Expr → Type 0
    Told n = FittedReductions program globals mains told c n

    abbrev ToldForks : ℕ → Sight → Stmt → Type 0
    ToldForks n = FittedForks program globals mains told c n

    pub range_writes : (n : ℕ) (r : Roles) (s : Sight) (v : Around) (site cells : ℕ) (ns : List ℕ) (chunk : Chunk) (k : ℕ) (low high : Expr) (check : Option Check) (filter : Optional) (stmts : Stmts) → Sees program v s → Items r s
        → ScopedOptional program shown (with_parameter k (with_chunk chunk v)) filter → ScopedAll program shown (with_parameter k (with_chunk chunk v)) stmts
        → FittedAll program globals mains (Told n) (ToldForks n) (with_outside ns (turn_sight (thread_sight site cells (taking 2 (taking 2 s))) chunk (Range k false low high check filter))) stmts
        → Shows program shown → WritesSeen program (LoopOf site (forget r) chunk (Range k false low high check filter) stmts) s
    range_writes n r s v site cells ns chunk k low high check filter stmts h q p u f shows j =
        let it : Iteration = Range k false low high check filter in
        effect_lies (InThread program.subtypes (LoopOf site (forget r) chunk it stmts) j) v.outer s.scope.object
        (λ i z. fine_range program shown globals mains c told n (judging chunk it (forget r)) site cells ns s v chunk k low high check filter stmts (λ k o e. q k o e) p u f i z) h.around shows

    pub components_writes : (n : ℕ) (r : Roles) (s : Sight) (v : Around) (site cells : ℕ) (ns : List ℕ) (chunk : Chunk) (k : ℕ) (constant : Bool) (at : ℕ) (from : Root) (x : Selections) (count stride dimensions : ℕ) (filter : Optional) (stmts : Stmts) → Sees program v s → Items r s
        → Reached (array_root_of constant (taking 2 (nested_sight s)).scope from) x (count * stride) → ScopedOptional program shown (with_chunk chunk v) filter → ScopedAll program shown (with_chunk chunk v) stmts
        → FittedAll program globals mains (Told n) (ToldForks n) (with_outside ns (turn_sight (thread_sight site cells (taking 2 (taking 2 s))) chunk (Components k constant at from x count stride dimensions filter))) stmts
        → Shows program shown → WritesSeen program (LoopOf site (forget r) chunk (Components k constant at from x count stride dimensions filter) stmts) s
    components_writes n r s v site cells ns chunk k constant at from x count stride dimensions filter stmts h q reached p u f shows j =
        let it : Iteration = Components k constant at from x count stride dimensions filter in
        effect_lies (InThread program.subtypes (LoopOf site (forget r) chunk it stmts) j) v.outer s.scope.object
        (λ i z. fine_components program shown globals mains c told n true (record (forget r) { chunk = chunk_parameter chunk }) (name (forget r) from x) site cells ns s v chunk k constant at from x count stride dimensions filter stmts
        (array_lies constant (forget r) (taking 2 (nested_sight s)) from x (count * stride) (λ k o e. q k o e) reached) (λ k o e. q k o e) p u f i z) h.around shows

    pub block_writes : (n : ℕ) (r : Roles) (s : Sight) (v : Around) (site cells : ℕ) (ns : List ℕ) (count : Optional) (arms : Arms) → Sees program v s → Items r s → ScopedArms program shown v arms
        → FittedArms program globals mains (Told n) (ToldForks n) (with_outside ns (taking 2 (taking 2 (thread_sight site cells (taking 2 s))))) arms → Shows program shown → WritesSeen program (BlockOf site (forget r) count arms) s
    block_writes n r s v site cells ns count arms h q p f shows j =
        effect_lies (InThread program.subtypes (BlockOf site (forget r) count arms) j) v.outer s.scope.object
        (λ i z. fine_back program shown v.outer s.scope.object i
        (fine_arms program shown globals mains c told n (forget r) (with_outside ns (taking 2 (taking 2 (thread_sight site cells (taking 2 s))))) v arms (items_thread (forget r).item s.scope.item s.scope.object (λ k o e. q k o e)) p f j i z)) h.around shows
