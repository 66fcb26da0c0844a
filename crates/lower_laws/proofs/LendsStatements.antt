-- Where the leases of constructs are told by what is asked of them elsewhere, statements and declarations fit the code with
-- these.
use Rattle.std.proofs.Common.{◌≡◌, ℕ, zero, suc, ◌<◌, ◌≤◌, List, ◌∷◌, length, ◌⊎◌, inl, inr, Option, Some, Bool, true, false, not, ◌&&◌, refl, arith}
use Rattle.behaviours.specs.Paths.{Entity, VariableOf, ConstantOf}
use Rattle.typed_tree.specs.declared.program.Formal.{Formal}
use Rattle.typed_tree.specs.Syntax.{Expr, Static, Optional, Absent, Present, Actuals, NoActual, In, InOut, Out, CompositeInOut, CompositeOut, Value, Number, Cells, Iteration, Range, Components, Pieces, NoPiece, Text, Image, Padded, Decls, NoDecl, DeclareDefault, DeclareVariable, DeclareConstant, Mentions, Stmt, Null, Assign, CallProcedure, Exit, Return, ReturnValue, Raise, Reraise, IfThen, Case, Loop, For, ParallelFor, Parallel, Block, Put, Get, Stmts, End, Then, Alternatives, NoAlternative, Alternative, Arms, NoArm, Arm, Handlers, NoHandler, Handler, Program}
use Rattle.typed_scopes.specs.Scopes as scopes
use Rattle.typed_scopes.specs.Scopes.{Around, ScopedActuals, ScopedExpr, ScopedOptional, ScopedPieces, ScopedStmt, ScopedAll, ScopedAlternatives, ScopedArms, ScopedHandlers, ScopedDecls, object_cells, with_parameter, with_chunk}
use Rattle.ada_meaning.specs.Meaning.{arms_of, object_layout}
use Rattle.ada_meaning.specs.Shapes.{object_shape, size}
use Rattle.check_effects.specs.Effects.{Roles, forget, name, Item, Construct, LoopOf, BlockOf, Holds, InExpr, InOptional, InActuals, InPieces, InDecls, InStmt, InAll, InAlternatives, InArm, InHandlers, course_hidden, chunk_hidden}
use Rattle.stack_code.specs.declared.code.Code.{Code}
use Rattle.stack_code.specs.declared.code.CodeSite.{CodeSite}
use Rattle.ada_lower.specs.Sights.{Named, Sight, item_sight, nested_sight, object_here, own, passing, range_sight, taking, thread_sight, turn_sight, with_entry, with_exit, with_handled, with_outside, with_target}
use Rattle.ada_lower.specs.Emission.{composite_width, is_whole, width}
use Rattle.ada_lower.specs.Fitted.{Spot, FittedActuals, FittedAll, FittedAlternatives, FittedDecls, FittedHandlers, FittedPieces, FittedStmt, FittedTarget}
use Rattle.ada_lower.specs.FittedForks.{FittedArms, FittedCount, FittedForks, FittedReductions}
use Rattle.lower_laws.proofs.FitsValues.{width_is}
use Rattle.lower_laws.proofs.Sees.{object_size}
use Rattle.lower_laws.proofs.Here.{Gives, Sees, block_arm, loop_arm, sees_chunk, sees_object, sees_thread, sees_turn}
use Rattle.lower_laws.proofs.Threads.{block_writes, components_writes, range_writes}
use Rattle.lower_laws.proofs.Writes.{Items, also_lies, array_lies, items_bound, items_hidden, items_range, items_thread, items_turn}
use Rattle.lower_laws.proofs.LendsValues.{lend, lend_chunk, lend_composite, lend_optional, lend_select, lend_value}

enough_is : (a b c : ℕ) → a ≡ b → c ≡ a → b ≤ c
enough_is a b c e f = omega (arith, e, f)

-- the object has as many cells as its initial value
pub wide : (program : Program) (shown : ℕ → Entity → Bool) (v : Around) (x : ℕ) (initial : Value) → scopes.ScopedValue program shown v (object_cells program x) initial → size (object_shape program x) ≤ width program initial
wide program shown v x initial p = enough_is (length (object_layout program x)) _ (width program initial) (object_size program x) (width_is program shown v (object_cells program x) initial p)

pub default : (program : Program) (x : ℕ) → size (object_shape program x) ≤ length (object_layout program x)
default program x = enough_is (length (object_layout program x)) _ (length (object_layout program x)) (object_size program x) refl

module _ (program : Program) (globals : ℕ → Entity → Option Named) (mains : Entity → Bool) (shown : ℕ → Entity → Bool) (c : Code) (lent told : Bool → Sight → ℕ → CodeSite → Type 0) (held : Construct → Type 0) (gives : Gives program shown c lent told held) where
  abbrev Told : ℕ → Sight → Expr → Type 0
  Told n = FittedReductions program globals mains told c n

  abbrev Lent : ℕ → Sight → Expr → Type 0
  Lent n = FittedReductions program globals mains lent c n

  abbrev ToldForks : ℕ → Sight → Stmt → Type 0
  ToldForks n = FittedForks program globals mains told c n

  abbrev LentForks : ℕ → Sight → Stmt → Type 0
  LentForks n = FittedForks program globals mains lent c n

  lend_target : (n : ℕ) (r : Roles) (s : Sight) (b : Bool) (m : Named) (v : Around) (e : Expr) → Sees program v s → ScopedExpr program shown v e → ((k : Construct) → InExpr program.subtypes r e (Holds k) → held k) → FittedTarget program globals mains (Told n) s b m e → FittedTarget program globals mains (Lent n) s b m e
  lend_target n r s true m v e h p i f = lend program globals mains shown c lent told held gives n r (with_target m s) v e h p i f
  lend_target n r s false m v e h p i f = (f.0, lend program globals mains shown c lent told held gives n r (with_target (record { through = true; place = own s.scope.free; cells = 1 }) (taking 1 s)) v e h p i f.1)

  lend_actuals : (n : ℕ) (r : Roles) (s : Sight) (v : Around) (fs : List Formal) (sub w : ℕ) (ks : List Spot) (x : Actuals) → Sees program v s → ScopedActuals program shown v fs x → ((k : Construct) → InActuals program.subtypes r x (Holds k) → held k) → FittedActuals program globals mains (Told n) s sub w ks x → FittedActuals program globals mains (Lent n) s sub w ks x
  lend_actuals n r s v fs sub w ks NoActual h p i f = f
  lend_actuals n r s v fs sub w ks (In formal value rest) h p i f =
      (f.0, f.1, f.2, f.3, f.4, lend_value program globals mains shown c lent told held gives n r s v _ f.1 value h p.2 (λ k z. i k (inl z)) f.5, lend_actuals n r s v p.0 sub w f.2 rest h p.3 (λ k z. i k (inr z)) f.6)
  lend_actuals n r s v fs sub w ks (InOut formal at from g inner outer rest) h p i f =
      (f.0, f.1, f.2, f.3, f.4, lend_select program globals mains shown c lent told held gives n r s v g h p.4 (λ k z. i k (inr (inr (inl z)))) f.5, lend_actuals n r s v p.0 sub w f.1 rest h p.5 (λ k z. i k (inr (inr (inr z)))) f.6)
  lend_actuals n r s v fs sub w ks (Out formal at from g inner outer rest) h p i f =
      (f.0, f.1, f.2, f.3, f.4, lend_select program globals mains shown c lent told held gives n r s v g h p.4 (λ k z. i k (inr (inl z))) f.5, lend_actuals n r s v p.0 sub w f.1 rest h p.5 (λ k z. i k (inr (inr z))) f.6)
  lend_actuals n r s v fs sub w ks (CompositeInOut formal at from g subtype rest) h p i f =
      (f.0, f.1, f.2, f.3, f.4, lend_select program globals mains shown c lent told held gives n r s v g h p.4 (λ k z. i k (inr (inr (inl z)))) f.5, lend_actuals n r s v p.0 sub w f.1 rest h p.5 (λ k z. i k (inr (inr (inr z)))) f.6)
  lend_actuals n r s v fs sub w ks (CompositeOut formal at from g subtype rest) h p i f =
      (f.0, f.1, f.2, f.3, f.4, lend_select program globals mains shown c lent told held gives n r s v g h p.4 (λ k z. i k (inr (inr (inl z)))) f.5, lend_actuals n r s v p.0 sub w f.1 rest h p.5 (λ k z. i k (inr (inr (inr z)))) f.6)

  lend_pieces : (n : ℕ) (r : Roles) (s : Sight) (v : Around) (x : Pieces) → Sees program v s → ScopedPieces program shown v x → ((k : Construct) → InPieces program.subtypes r x (Holds k) → held k) → FittedPieces program globals mains (Told n) s x → FittedPieces program globals mains (Lent n) s x
  lend_pieces n r s v NoPiece h p i f = tt
  lend_pieces n r s v (Text bytes rest) h p i f = (f.0, lend_pieces n r s v rest h p i f.1)
  lend_pieces n r s v (Image class e rest) h p i f = (lend program globals mains shown c lent told held gives n r s v e h p.0 (λ k z. i k (inl z)) f.0, lend_pieces n r (taking 1 s) v rest h p.1 (λ k z. i k (inr z)) f.1)
  lend_pieces n r s v (Padded class e (Static at value literal mentions) rest) h p i f =
      (lend program globals mains shown c lent told held gives n r s v e h p.0 (λ k z. i k (inl z)) f.0, lend_pieces n r (taking 1 s) v rest h p.2 (λ k z. i k (inr (inr z))) f.1)
  lend_pieces n r s v (Padded class e most rest) h p i f = absurd f

  lend_decls : (n : ℕ) (r : Roles) (s : Sight) (v : Around) (x : Decls) (rest : Item → Type 0) (does : Around → Type 0) (old new : Sight → Type 0) → Sees program v s → Items r s → ScopedDecls program shown v x does → ((k : Construct) → InDecls program.subtypes r x rest (Holds k) → held k)
      → ((j : Sight) (u : Around) → Sees program u j → Items r j → does u → ((k : Construct) → rest (Holds k) → held k) → old j → new j) → FittedDecls program globals mains (Told n) s x old → FittedDecls program globals mains (Lent n) s x new
  lend_decls n r s v NoDecl rest does old new h q p i next f = next s v h q p i f
  lend_decls n r s v (DeclareDefault x more) rest does old new h q p i next f = (
    f.0,
    f.1,
    f.2,
    lend_decls n r (object_here s (VariableOf x) (length (object_layout program x))) (scopes.with_object (VariableOf x) v) more rest does old new
        (sees_object program (VariableOf x) (record { through = false; place = own s.scope.free; cells = length (object_layout program x) }) refl (default program x) f.0 h) (λ k o e. also_lies (VariableOf x) _ s.scope.object (r.item k).object (q k o e)) p.1 (λ k z. i k (z, tt)) next f.3,
  )
  lend_decls n r s v (DeclareVariable x initial more) rest does old new h q p i next f = (
    f.0,
    f.1,
    lend_value program globals mains shown c lent told held gives n r (taking (width program initial) s) v _ (width program initial) initial h p.1 (λ k z. i k (inl z)) f.2,
    lend_decls n r (object_here s (VariableOf x) (width program initial)) (scopes.with_object (VariableOf x) v) more rest does old new
        (sees_object program (VariableOf x) (record { through = false; place = own s.scope.free; cells = width program initial }) refl (wide program shown v x initial p.1) f.0 h) (λ k o e. also_lies (VariableOf x) _ s.scope.object (r.item k).object (q k o e)) p.2 (λ k z. i k (inr (z, tt))) next f.3,
  )
  lend_decls n r s v (DeclareConstant x initial more) rest does old new h q p i next f = (
    f.0,
    f.1,
    lend_value program globals mains shown c lent told held gives n r (taking (width program initial) s) v _ (width program initial) initial h p.1 (λ k z. i k (inl z)) f.2,
    lend_decls n r (object_here s (ConstantOf x) (width program initial)) (scopes.with_object (ConstantOf x) v) more rest does old new
        (sees_object program (ConstantOf x) (record { through = false; place = own s.scope.free; cells = width program initial }) refl (wide program shown v x initial p.1) f.0 h) (λ k o e. q k o e) p.2 (λ k z. i k (inr z)) next f.3,
  )
  lend_decls n r s v (Mentions es more) rest does old new h q p i next f = lend_decls n r s v more rest does old new h q p.1 (λ k z. i k (inr z)) next f

  lend_count : (n : ℕ) (r : Roles) (s : Sight) (v : Around) (x : Optional) → Sees program v s → ScopedOptional program shown v x → ((k : Construct) → InOptional program.subtypes r x (Holds k) → held k) → FittedCount program globals mains (Told n) s x → FittedCount program globals mains (Lent n) s x
  lend_count n r s v Absent h p i f = tt
  lend_count n r s v (Present e) h p i f = lend program globals mains shown c lent told held gives n r (taking 1 s) v e h p i f

  mutual
    pub lend_stmt : (n : ℕ) (r : Roles) (s : Sight) (v : Around) (x : Stmt) → Sees program v s → Items r s → ScopedStmt program shown v x → ((k : Construct) → InStmt program.subtypes r x (Holds k) → held k) → FittedStmt program globals mains (Told n) (ToldForks n) s x → FittedStmt program globals mains (Lent n) (LentForks n) s x
    lend_stmt n r s v Null h q p i f = tt
    lend_stmt n r s v (Assign at from g (Number check e)) h q p i f = (
      f.0,
      f.1,
      f.2,
      lend_select program globals mains shown c lent told held gives n r s v g h p.1 (λ k z. i k (inr (inl z))) f.3,
      lend_target n (record r { target = name r from g }) s (is_whole g && not f.0.through) f.0 (scopes.with_target p.2.0 v) e h p.2.1.1 (λ k z. i k (inr (inr z))) f.4,
    )
    lend_stmt n r s v (Assign at from g (Cells value)) h q p i f = (
      f.0,
      lend_select program globals mains shown c lent told held gives n r s v g h p.1 (λ k z. i k (inr (inl z))) f.1,
      f.2,
      lend_composite program globals mains shown c lent told held gives n (record r { target = name r from g })
          (with_target (record { through = true; place = own s.scope.free; cells = composite_width program value }) (taking (composite_width program value) (taking 1 s))) (scopes.with_target p.2.0 v) p.2.0 (composite_width program value) value h p.2.1 (λ k z. i k (inr (inr z))) f.3,
    )
    lend_stmt n r s v (CallProcedure at callee sub actuals) h q p i f = (f.0, f.1, f.2, f.3, lend_actuals n r (passing program sub s) v _ sub s.scope.free _ actuals h p.2 (λ k z. i k (inr z)) f.4)
    lend_stmt n r s v (Exit loop condition) h q p i f = (f.0, lend_optional program globals mains shown c lent told held gives n r s v condition h p i f.1)
    lend_stmt n r s v Return h q p i f = tt
    lend_stmt n r s v (ReturnValue (Number check e)) h q p i f = lend program globals mains shown c lent told held gives n r s v e h p i f
    lend_stmt n r s v (ReturnValue (Cells value)) h q p i f = absurd f
    lend_stmt n r s v (Raise reason) h q p i f = tt
    lend_stmt n r s v Reraise h q p i f = f
    lend_stmt n r s v (IfThen condition stmts otherwise) h q p i f = (
      lend program globals mains shown c lent told held gives n r s v condition h p.0 (λ k z. i k (inl z)) f.0,
      lend_all n r s v stmts h q p.1 (λ k z. i k (inr (inl z))) f.1,
      lend_all n r s v otherwise h q p.2 (λ k z. i k (inr (inr z))) f.2,
    )
    lend_stmt n r s v (Case e alternatives) h q p i f =
        (f.0, lend program globals mains shown c lent told held gives n r s v e h p.0 (λ k z. i k (inl z)) f.1, lend_cases n r (taking 1 s) v alternatives h q p.1 (λ k z. i k (inr z)) f.2)
    lend_stmt n r s v (Loop number condition stmts) h q p i f =
        (lend_optional program globals mains shown c lent told held gives n r s v condition h p.0 (λ k z. i k (inl z)) f.0, λ to. lend_all n r (with_exit number to s) v stmts h q p.1 (λ k z. i k (inr z)) (f.1 to))
    lend_stmt n r s v (For number (Range y reverse low high check filter) stmts) h q p i f =
        let it : Iteration = Range y reverse low high check filter in (
          f.0,
          lend program globals mains shown c lent told held gives n r s v low h p.0 (λ k z. i k (inl (inl z))) f.1,
          lend program globals mains shown c lent told held gives n r (taking 1 s) v high h p.1 (λ k z. i k (inl (inr z))) f.2,
          λ exit. (
            lend_optional program globals mains shown c lent told held gives n (course_hidden r it r) (range_sight s (Some number) y reverse exit) (with_parameter y v) filter h p.2 (λ k z. i k (inr (inl z))) (f.3 exit).0,
            lend_all n (course_hidden r it r) (range_sight s (Some number) y reverse exit) (with_parameter y v) stmts h q p.3 (λ k z. i k (inr (inr z))) (f.3 exit).1,
          ),
        )
    lend_stmt n r s v (For number (Components y constant b from g many stride dimensions filter) stmts) h q p i f =
        let it : Iteration = Components y constant b from g many stride dimensions filter in (
          f.0,
          f.1,
          lend_select program globals mains shown c lent told held gives n r s v g h p.2 (λ k z. i k (inl z)) f.2,
          λ exit. (
            lend_optional program globals mains shown c lent told held gives n (course_hidden r it r) (item_sight s (Some number) constant y stride exit) v filter h p.3 (λ k z. i k (inr (inl z))) (f.3 exit).0,
            lend_all n (course_hidden r it r) (item_sight s (Some number) constant y stride exit) v stmts h (items_bound constant false y (name r from g) many stride dimensions r s.scope.item s.scope.object _ (array_lies constant r s from g _ q f.1) q) p.4 (λ k z. i k (inr (inr z))) (f.3 exit).1,
          ),
        )
    lend_stmt zero r s v (ParallelFor number site chunk iteration stmts) h q p i f = absurd f
    lend_stmt (suc n) r s v (ParallelFor number site chunk (Range y true low high check filter) stmts) h q p i f = absurd f
    lend_stmt (suc n) r s v (ParallelFor number site chunk (Range y false low high check filter) stmts) h q p i f =
        let it : Iteration = Range y false low high check filter in
        let inside : Roles = course_hidden r it (chunk_hidden chunk r) in
        let cs = f.0 in
        let around : Sight = thread_sight site cs.frame (taking 2 (taking 2 s)) in
        let there : Sight = turn_sight around chunk it in
        let sees : Sees program (with_chunk chunk v) there = sees_chunk program chunk v there (sees_turn program chunk it v around (sees_thread program h)) in
        let k : Construct = LoopOf site (forget r) chunk it stmts in (
          cs,
          f.1,
          gives false v s site cs k (i k (inl refl)) refl refl h f.1.0 (λ j m arm. ((λ z. tt), (λ z. loop_arm cs.kind chunk f.3 m arm)))
              (range_writes program shown globals mains c told n r s v site cs.frame (number ∷ f.8) chunk y low high check filter stmts h q p.2.2 p.2.3 f.13) f.2,
          f.3,
          f.4,
          lend_chunk program globals mains shown c lent told held gives n r (nested_sight s) v chunk h p.0 (λ k z. i k (inr (inl z))) f.5,
          lend program globals mains shown c lent told held gives n r (taking 2 (nested_sight s)) v low h p.2.0 (λ k z. i k (inr (inr (inl (inl z))))) f.6,
          lend program globals mains shown c lent told held gives n r (taking 1 (taking 2 (nested_sight s))) v high h p.2.1 (λ k z. i k (inr (inr (inl (inr z))))) f.7,
          f.8,
          f.9,
          f.10,
          f.11,
          lend_optional program globals mains shown c lent told held gives n inside there (with_parameter y (with_chunk chunk v)) filter sees p.2.2 (λ k z. i k (inr (inr (inr (inl z))))) f.12,
          lend_all n inside (with_outside (number ∷ f.8) there) (with_parameter y (with_chunk chunk v)) stmts sees
              (items_range (chunk_hidden chunk r).item chunk y false low high check filter site cs.frame (taking 2 (taking 2 s)) (items_hidden s.scope.item s.scope.object chunk r q)) p.2.3 (λ k z. i k (inr (inr (inr (inr z))))) f.13,
        )
    lend_stmt (suc n) r s v (ParallelFor number site chunk (Components y constant b from g many stride dimensions filter) stmts) h q p i f =
        let it : Iteration = Components y constant b from g many stride dimensions filter in
        let inside : Roles = course_hidden r it (chunk_hidden chunk r) in
        let cs = f.0 in
        let around : Sight = thread_sight site cs.frame (taking 2 (taking 2 s)) in
        let there : Sight = turn_sight around chunk it in
        let sees : Sees program (with_chunk chunk v) there = sees_chunk program chunk v there (sees_turn program chunk it v around (sees_thread program h)) in
        let k : Construct = LoopOf site (forget r) chunk it stmts in (
          cs,
          f.1,
          gives true v s site cs k (i k (inl refl)) refl refl h f.1.0 (λ j m arm. ((λ z. tt), (λ z. loop_arm cs.kind chunk f.4 m arm)))
              (components_writes program shown globals mains c told n r s v site cs.frame (number ∷ f.9) chunk y constant b from g many stride dimensions filter stmts h q f.7 p.2.3 p.2.4 f.14) f.2,
          f.3,
          f.4,
          f.5,
          lend_chunk program globals mains shown c lent told held gives n r (nested_sight s) v chunk h p.0 (λ k z. i k (inr (inl z))) f.6,
          f.7,
          lend_select program globals mains shown c lent told held gives n r (taking 2 (nested_sight s)) v g h p.2.2 (λ k z. i k (inr (inr (inl z)))) f.8,
          f.9,
          f.10,
          f.11,
          f.12,
          lend_optional program globals mains shown c lent told held gives n inside there (with_chunk chunk v) filter sees p.2.3 (λ k z. i k (inr (inr (inr (inl z))))) f.13,
          lend_all n inside (with_outside (number ∷ f.9) there) (with_chunk chunk v) stmts sees
              (items_turn chunk constant false y (name r from g) b from g many stride dimensions filter site cs.frame (chunk_hidden chunk r) (taking 2 (taking 2 s)) (array_lies constant r (taking 2 (nested_sight s)) from g _ q f.7) (items_hidden s.scope.item s.scope.object chunk r q)) p.2.4 (λ k z. i k (inr (inr (inr (inr z))))) f.14,
        )
    lend_stmt zero r s v (Parallel site count arms) h q p i f = absurd f
    lend_stmt (suc n) r s v (Parallel site count arms) h q p i f =
        let cs = f.0 in
        let there : Sight = taking 2 (taking 2 (thread_sight site cs.frame (taking 2 s))) in
        let sees : Sees program v there = sees_thread program h in
        let k : Construct = BlockOf site (forget r) count arms in (
          cs,
          f.1,
          gives false v s site cs k (i k (inl refl)) refl refl h f.1.0 (λ j m arm. block_arm cs.kind (arms_of arms) f.3 m arm) (block_writes program shown globals mains c told n r s v site cs.frame f.8 count arms h q p.3 f.12) f.2,
          f.3,
          f.4,
          f.5,
          f.6,
          lend_count n r (nested_sight s) v count h p.0 (λ k z. i k (inr (inl z))) f.7,
          f.8,
          f.9,
          f.10,
          f.11,
          lend_arms n r (with_outside f.8 there) v arms sees (items_thread r.item s.scope.item s.scope.object q) p.3 (λ k j z. i k (inr (inr (j, z)))) f.12,
        )
    lend_stmt n r s v (Block decls stmts NoHandler) h q p i f =
        lend_decls n r s v decls (λ j. InAll program.subtypes r stmts j ⊎ InHandlers program.subtypes r NoHandler j) (λ u. ScopedAll program shown u stmts × ScopedHandlers program shown (scopes.handling u) NoHandler)
        (λ t. FittedAll program globals mains (Told n) (ToldForks n) t stmts) (λ t. FittedAll program globals mains (Lent n) (LentForks n) t stmts) h q p i (λ j u see q' p' into g. lend_all n r j u stmts see q' p'.0 (λ k z. into k (inl z)) g) f
    lend_stmt n r s v (Block decls stmts (Handler handled first rest)) h q p i f =
        lend_decls n r s v decls (λ j. InAll program.subtypes r stmts j ⊎ InHandlers program.subtypes r (Handler handled first rest) j) (λ u. ScopedAll program shown u stmts × ScopedHandlers program shown (scopes.handling u) (Handler handled first rest))
        (λ t. (t.scope.free < t.cells) × ((e : ℕ) → FittedAll program globals mains (Told n) (ToldForks n) (with_entry e t) stmts) × FittedAll program globals mains (Told n) (ToldForks n) (with_handled (own t.scope.free) (taking 1 t)) first × FittedHandlers program globals mains (Told n) (ToldForks n) (with_handled (own t.scope.free) (taking 1 t)) rest)
        (λ t. (t.scope.free < t.cells) × ((e : ℕ) → FittedAll program globals mains (Lent n) (LentForks n) (with_entry e t) stmts) × FittedAll program globals mains (Lent n) (LentForks n) (with_handled (own t.scope.free) (taking 1 t)) first × FittedHandlers program globals mains (Lent n) (LentForks n) (with_handled (own t.scope.free) (taking 1 t)) rest)
        h q p i
        (λ j u see q' p' into g. (
          g.0,
          (λ e. lend_all n r (with_entry e j) u stmts see q' p'.0 (λ k z. into k (inl z)) (g.1 e)),
          lend_all n r (with_handled (own j.scope.free) (taking 1 j)) (scopes.handling u) first see q' p'.1.1 (λ k z. into k (inr (inl z))) g.2,
          lend_handlers n r (with_handled (own j.scope.free) (taking 1 j)) (scopes.handling u) rest see q' p'.1.2 (λ k z. into k (inr (inr z))) g.3,
        )) f
    lend_stmt n r s v (Put at callee pieces line) h q p i f = (f.0, lend_pieces n r s v pieces h p (λ k z. i k (inr z)) f.1)
    lend_stmt n r s v (Get at callee first from g scalar) h q p i f = (f.0, lend_select program globals mains shown c lent told held gives n r s v g h p.1 (λ k z. i k (inr (inr z))) f.1)

    lend_all : (n : ℕ) (r : Roles) (s : Sight) (v : Around) (x : Stmts) → Sees program v s → Items r s → ScopedAll program shown v x → ((k : Construct) → InAll program.subtypes r x (Holds k) → held k) → FittedAll program globals mains (Told n) (ToldForks n) s x → FittedAll program globals mains (Lent n) (LentForks n) s x
    lend_all n r s v End h q p i f = tt
    lend_all n r s v (Then first more) h q p i f = (lend_stmt n r s v first h q p.0 (λ k z. i k (inl z)) f.0, lend_all n r s v more h q p.1 (λ k z. i k (inr z)) f.1)

    lend_cases : (n : ℕ) (r : Roles) (s : Sight) (v : Around) (x : Alternatives) → Sees program v s → Items r s → ScopedAlternatives program shown v x → ((k : Construct) → InAlternatives program.subtypes r x (Holds k) → held k) → FittedAlternatives program globals mains (Told n) (ToldForks n) s x → FittedAlternatives program globals mains (Lent n) (LentForks n) s x
    lend_cases n r s v NoAlternative h q p i f = tt
    lend_cases n r s v (Alternative others choices mentions stmts rest) h q p i f = (lend_all n r s v stmts h q p.2 (λ k z. i k (inr (inl z))) f.0, lend_cases n r s v rest h q p.3 (λ k z. i k (inr (inr z))) f.1)

    lend_arms : (n : ℕ) (r : Roles) (s : Sight) (v : Around) (x : Arms) → Sees program v s → Items r s → ScopedArms program shown v x → ((k : Construct) (j : ℕ) → InArm program.subtypes r x j (Holds k) → held k) → FittedArms program globals mains (Told n) (ToldForks n) s x → FittedArms program globals mains (Lent n) (LentForks n) s x
    lend_arms n r s v NoArm h q p i f = tt
    lend_arms n r s v (Arm stmts rest) h q p i f = (lend_all n r s v stmts h q p.0 (λ k z. i k 0 z) f.0, lend_arms n r s v rest h q p.1 (λ k j z. i k (suc j) z) f.1)

    lend_handlers : (n : ℕ) (r : Roles) (s : Sight) (v : Around) (x : Handlers) → Sees program v s → Items r s → ScopedHandlers program shown v x → ((k : Construct) → InHandlers program.subtypes r x (Holds k) → held k) → FittedHandlers program globals mains (Told n) (ToldForks n) s x → FittedHandlers program globals mains (Lent n) (LentForks n) s x
    lend_handlers n r s v NoHandler h q p i f = tt
    lend_handlers n r s v (Handler handled stmts rest) h q p i f = (lend_all n r s v stmts h q p.1 (λ k z. i k (inl z)) f.0, lend_handlers n r s v rest h q p.2 (λ k z. i k (inr z)) f.1)
