-- What statements write is in scope where they stand, and what they call sees no more of the main procedure's objects than is
-- there: where they fit their code (3.1, 8.2).
use Rattle.std.proofs.Common.{◌≡◌, ℕ, zero, suc, ◌<◌, nat_eq, List, [], ◌∷◌, length, ◌⊎◌, inl, inr, ⊎_elim, ◌++◌, Option, Some, Bool, true, false, not, ◌&&◌, cond, refl, sym, ap, subst, true≢false, eqb-true}
use Rattle.behaviours.specs.Paths.{Entity, VariableOf, ConstantOf, entity_eq}
use Rattle.typed_tree.specs.declared.expressions.Root.{Root}
use Rattle.typed_tree.specs.declared.expressions.Root.TheVariants as root
use Rattle.typed_tree.specs.declared.scalars.Check.{Check}
use Rattle.typed_tree.specs.declared.program.Formal.{Formal}
use Rattle.typed_tree.specs.Syntax.{Expr, Optional, Selections, Actuals, NoActual, In, InOut, Out, CompositeInOut, CompositeOut, Number, Cells, Iteration, Range, Components, Chunk, NoChunk, Count, Each, Decls, NoDecl, DeclareDefault, DeclareVariable, DeclareConstant, Mentions, Stmt, Null, Assign, CallProcedure, Exit, Return, ReturnValue, Raise, Reraise, IfThen, Case, Loop, For, ParallelFor, Parallel, Block, Put, Get, Stmts, End, Then, Alternatives, NoAlternative, Alternative, Arms, NoArm, Arm, Handlers, NoHandler, Handler, Program}
use Rattle.typed_scopes.specs.Scopes as scopes
use Rattle.typed_scopes.specs.Scopes.{Around, ScopedActuals, ScopedAll, ScopedAlternatives, ScopedArms, ScopedDecls, ScopedHandlers, ScopedStmt, handling, with_chunk, with_parameter}
use Rattle.ada_meaning.specs.Meaning.{object_layout}
use Rattle.check_effects.specs.Effects as effects
use Rattle.check_effects.specs.Effects.{Roles, name, writing, ItemStep, Item, Touches, Calls, Blocks, Holds, Outside, InActuals, InDecls, InFilter, InStmt, InAll, InAlternatives, InArm, InHandlers, chunk_hidden, course_hidden, item_bound}
use Rattle.stack_code.specs.declared.code.Code.{Code}
use Rattle.stack_code.specs.declared.code.CodeSite.{CodeSite}
use Rattle.ada_lower.specs.Sights.{Named, Sight, array_root_of, item_sight, moved_named, nested_sight, object_here, outer_named, own, passing, range_sight, root_of, taking, thread_sight, turn_sight, with_entry, with_exit, with_handled, with_outside}
use Rattle.ada_lower.specs.Emission.{width}
use Rattle.ada_lower.specs.Fitted.{Reached, Spot, FittedActuals, FittedAll, FittedAlternatives, FittedDecls, FittedHandlers, FittedStmt}
use Rattle.ada_lower.specs.FittedForks.{FittedArms, FittedForks, FittedReductions}
use Rattle.lower_laws.proofs.Quiets.{Quiet, chunk_outer, in_chunk, quiet_chunk, quiet_expr, quiet_exprs, quiet_optional, quiet_pieces, quiet_select, quiet_value}
use Rattle.lower_laws.proofs.Here.{moved_some}

-- a variable is named
abbrev pub Lies : (Entity → Option Named) → ℕ → Type 0
Lies object x = (m : Named) × (object (VariableOf x) ≡ Some m)

-- the components that items name are of such objects
abbrev pub ItemsLie : (ℕ → effects.Named) → (ℕ → Option Named) → (Entity → Option Named) → Type 0
ItemsLie role item object = (k : ℕ) (n : Named) → item k ≡ Some n → Lies object (role k).object

abbrev pub Items : Roles → Sight → Type 0
Items r s = ItemsLie r.item s.scope.item s.scope.object

lies_thread : (object : Entity → Option Named) (x : ℕ) → Lies object x → Lies (λ y. moved_named (object y)) x
lies_thread object x (m, e) = (outer_named m, ap moved_named e)

lies_back : (object : Entity → Option Named) (x : ℕ) → Lies (λ y. moved_named (object y)) x → Lies object x
lies_back object x (m, e) = let (n, is, same) = moved_some (object (VariableOf x)) m e in (n, is)

pub items_thread : (role : ℕ → effects.Named) (item : ℕ → Option Named) (object : Entity → Option Named) → ItemsLie role item object → ItemsLie role (λ k. moved_named (item k)) (λ y. moved_named (object y))
items_thread role item object q k n e = let (o, is, same) = moved_some (item k) n e in lies_thread object (role k).object (q k o is)

-- an iteration over an array names its components
pub items_bound : (constant judged : Bool) (k : ℕ) (n : effects.Named) (count stride dimensions : ℕ) (r : Roles) (item : ℕ → Option Named) (object : Entity → Option Named) (m : Named) → (constant ≡ false → Lies object n.object) → ItemsLie r.item item object
    → ItemsLie (item_bound constant judged k n count stride dimensions r).item (λ j. cond (not constant && nat_eq j k) (Some m) (item j)) object
items_bound true judged k n count stride dimensions r item object m of q j o e = q j o e
items_bound false judged k n count stride dimensions r item object m of q j o e = go (nat_eq j k) e
  where
    there : effects.Named
    there = record { object = n.object; steps = n.steps ++ (ItemStep judged count stride dimensions ∷ []) }

    go : (b : Bool) → cond b (Some m) (item j) ≡ Some o → Lies object (cond b there (r.item j)).object
    go true e = of refl
    go false e = q j o e

hidden_item : (chunk : Chunk) (r : Roles) → r.item ≡ (chunk_hidden chunk r).item
hidden_item NoChunk r = refl
hidden_item (Count e) r = refl
hidden_item (Each k low high check) r = refl

pub items_hidden : (item : ℕ → Option Named) (object : Entity → Option Named) (chunk : Chunk) (r : Roles) → ItemsLie r.item item object → ItemsLie (chunk_hidden chunk r).item item object
items_hidden item object chunk r q = subst (λ role. ItemsLie role item object) (hidden_item chunk r) q

-- at a turn of a thread
pub items_range : (role : ℕ → effects.Named) (chunk : Chunk) (k : ℕ) (reverse : Bool) (low high : Expr) (check : Option Check) (filter : Optional) (site cells : ℕ) (s : Sight) → ItemsLie role s.scope.item s.scope.object
    → let t = turn_sight (thread_sight site cells s) chunk (Range k reverse low high check filter) in ItemsLie role t.scope.item t.scope.object
items_range role NoChunk k reverse low high check filter site cells s q = items_thread role s.scope.item s.scope.object q
items_range role (Count e) k reverse low high check filter site cells s q = items_thread role s.scope.item s.scope.object q
items_range role (Each p l u c) k reverse low high check filter site cells s q = items_thread role s.scope.item s.scope.object q

pub items_turn : (chunk : Chunk) (constant judged : Bool) (k : ℕ) (n : effects.Named) (at : ℕ) (from : Root) (x : Selections) (count stride dimensions : ℕ) (filter : Optional) (site cells : ℕ) (r : Roles) (s : Sight)
    → (constant ≡ false → Lies s.scope.object n.object) → ItemsLie r.item s.scope.item s.scope.object
    → let t = turn_sight (thread_sight site cells s) chunk (Components k constant at from x count stride dimensions filter) in ItemsLie (item_bound constant judged k n count stride dimensions r).item t.scope.item t.scope.object
items_turn NoChunk constant judged k n at from x count stride dimensions filter site cells r s of q = items_bound constant judged k n count stride dimensions r _ (λ y. moved_named (s.scope.object y)) _ (λ e. lies_thread s.scope.object n.object (of e)) (items_thread r.item s.scope.item s.scope.object q)
items_turn (Count e) constant judged k n at from x count stride dimensions filter site cells r s of q = items_bound constant judged k n count stride dimensions r _ (λ y. moved_named (s.scope.object y)) _ (λ e. lies_thread s.scope.object n.object (of e)) (items_thread r.item s.scope.item s.scope.object q)
items_turn (Each p l u c) constant judged k n at from x count stride dimensions filter site cells r s of q = items_bound constant judged k n count stride dimensions r _ (λ y. moved_named (s.scope.object y)) _ (λ e. lies_thread s.scope.object n.object (of e)) (items_thread r.item s.scope.item s.scope.object q)

-- an object that is declared
pub also_lies : (y : Entity) (m : Named) (object : Entity → Option Named) (x : ℕ) → Lies object x → Lies (λ z. cond (entity_eq y z) (Some m) (object z)) x
also_lies y m object x h = go (entity_eq y (VariableOf x))
  where
    go : (b : Bool) → (o : Named) × (cond b (Some m) (object (VariableOf x)) ≡ Some o)
    go true = (m, refl)
    go false = h

-- ---- names

pub named_lies : (r : Roles) (s : Sight) (from : Root) (x : Selections) (n : Named) → Items r s → root_of s.scope from ≡ Some n → Lies s.scope.object (name r from x).object
named_lies r s (root.Object x) g n q e = (n, e)
named_lies r s (root.Item k) g n q e = q k n e

pub array_lies : (constant : Bool) (r : Roles) (s : Sight) (from : Root) (x : Selections) (cells : ℕ) → Items r s → Reached (array_root_of constant s.scope from) x cells → constant ≡ false → Lies s.scope.object (name r from x).object
array_lies true r s from x cells q f e = absurd (true≢false e)
array_lies false r s from x cells q f e = named_lies r s from x f.0 q f.1

module _ (program : Program) (shown : ℕ → Entity → Bool) where
  -- what is written lies there, and what is called sees no more than that
  abbrev pub Fine : (Entity → Bool) → (Entity → Option Named) → Item → Type 0
  Fine outer object (Touches at a) = a.writes ≡ true → Lies object a.object
  Fine outer object (Calls at callee sub) = (y : Entity) → shown sub y ≡ true → outer y ≡ true
  Fine outer object (Blocks at callee) = Unit {0}
  Fine outer object (Holds k) = Unit {0}

  pub calm : (outer : Entity → Bool) (object : Entity → Option Named) (i : Item) → Quiet program shown outer i → Fine outer object i
  calm outer object (Touches at a) q = λ w. absurd (q w)
  calm outer object (Calls at callee sub) q = q
  calm outer object (Blocks at callee) q = tt
  calm outer object (Holds k) q = tt

  pub fine_back : (outer : Entity → Bool) (object : Entity → Option Named) (i : Item) → Fine outer (λ y. moved_named (object y)) i → Fine outer object i
  fine_back outer object (Touches at a) h = λ w. lies_back object a.object (h w)
  fine_back outer object (Calls at callee sub) h = h
  fine_back outer object (Blocks at callee) h = tt
  fine_back outer object (Holds k) h = tt

  -- at a turn of a thread
  pub fine_turn : (outer : Entity → Bool) (chunk : Chunk) (it : Iteration) (site cells : ℕ) (s : Sight) (i : Item) → Fine outer (turn_sight (thread_sight site cells s) chunk it).scope.object i → Fine outer s.scope.object i
  fine_turn outer NoChunk (Range k reverse low high check filter) site cells s i h = fine_back outer s.scope.object i h
  fine_turn outer (Count e) (Range k reverse low high check filter) site cells s i h = fine_back outer s.scope.object i h
  fine_turn outer (Each p l u c) (Range k reverse low high check filter) site cells s i h = fine_back outer s.scope.object i h
  fine_turn outer NoChunk (Components k constant at r x count stride dimensions filter) site cells s i h = fine_back outer s.scope.object i h
  fine_turn outer (Count e) (Components k constant at r x count stride dimensions filter) site cells s i h = fine_back outer s.scope.object i h
  fine_turn outer (Each p l u c) (Components k constant at r x count stride dimensions filter) site cells s i h = fine_back outer s.scope.object i h

  pub fine_chunk : (chunk : Chunk) (v : Around) (it : Iteration) (site cells : ℕ) (s : Sight) (i : Item) → Fine (with_chunk chunk v).outer (turn_sight (thread_sight site cells s) chunk it).scope.object i → Fine v.outer s.scope.object i
  fine_chunk chunk v it site cells s i h = fine_turn v.outer chunk it site cells s i (subst (λ o. Fine o (turn_sight (thread_sight site cells s) chunk it).scope.object i) (chunk_outer chunk v) h)

  -- around the scope of an object that isn't meant
  outside_back : (outer : Entity → Bool) (x : ℕ) (m : Named) (object : Entity → Option Named) (i : Item) → Outside x i → Fine outer (λ z. cond (entity_eq (VariableOf x) z) (Some m) (object z)) i → Fine outer object i
  outside_back outer x m object (Touches at a) other h = λ w. go (nat_eq x a.object) refl (h w)
    where
      go : (b : Bool) → nat_eq x a.object ≡ b → (o : Named) × (cond b (Some m) (object (VariableOf a.object)) ≡ Some o) → Lies object a.object
      go true e l = absurd (other (sym (eqb-true x a.object e)))
      go false e l = l
  outside_back outer x m object (Calls at callee sub) other h = h
  outside_back outer x m object (Blocks at callee) other h = tt
  outside_back outer x m object (Holds k) other h = tt

  -- constants aren't written
  constant_back : (outer : Entity → Bool) (x : ℕ) (m : Named) (object : Entity → Option Named) (i : Item) → Fine outer (λ z. cond (entity_eq (ConstantOf x) z) (Some m) (object z)) i → Fine outer object i
  constant_back outer x m object (Touches at a) h = h
  constant_back outer x m object (Calls at callee sub) h = h
  constant_back outer x m object (Blocks at callee) h = tt
  constant_back outer x m object (Holds k) h = tt

  module _ (globals : ℕ → Entity → Option Named) (mains : Entity → Bool) (c : Code) (told : Bool → Sight → ℕ → CodeSite → Type 0) where
    abbrev Told : ℕ → Sight → Expr → Type 0
    Told n = FittedReductions program globals mains told c n

    abbrev ToldForks : ℕ → Sight → Stmt → Type 0
    ToldForks n = FittedForks program globals mains told c n

    fine_write : (v : Around) (r : Roles) (s : Sight) (from : Root) (x : Selections) (n : Named) (at cells : ℕ) (i : Item) → Items r s → root_of s.scope from ≡ Some n → i ≡ Touches at (writing (name r from x) cells) → Fine v.outer s.scope.object i
    fine_write v r s from x n at cells i q f e = subst (λ i. Fine v.outer s.scope.object i) (sym e) (λ w. named_lies r s from x n q f)

    fine_read : (v : Around) (s : Sight) (n : effects.Named) (at cells : ℕ) (i : Item) → i ≡ Touches at (effects.reading n cells) → Fine v.outer s.scope.object i
    fine_read v s n at cells i e = subst (λ i. Fine v.outer s.scope.object i) (sym e) (λ w. absurd (true≢false (sym w)))

    fine_actuals : (n : ℕ) (r : Roles) (s : Sight) (v : Around) (fs : List Formal) (sub w : ℕ) (ks : List Spot) (x : Actuals) → Items r s → ScopedActuals program shown v fs x → FittedActuals program globals mains (Told n) s sub w ks x
        → (i : Item) → InActuals program.subtypes r x i → Fine v.outer s.scope.object i
    fine_actuals n r s v fs sub w ks NoActual q p f i h = absurd h
    fine_actuals n r s v fs sub w ks (In formal value rest) q p f i (inl h) = calm v.outer s.scope.object i (quiet_value program shown v r _ value p.2 i h)
    fine_actuals n r s v fs sub w ks (In formal value rest) q p f i (inr h) = fine_actuals n r s v p.0 sub w f.2 rest q p.3 f.6 i h
    fine_actuals n r s v fs sub w ks (InOut formal at from x inner outer rest) q p f i (inl e) = fine_read v s _ at _ i e
    fine_actuals n r s v fs sub w ks (InOut formal at from x inner outer rest) q p f i (inr (inl e)) = fine_write v r s from x f.4.0 at _ i q f.4.1 e
    fine_actuals n r s v fs sub w ks (InOut formal at from x inner outer rest) q p f i (inr (inr (inl h))) = calm v.outer s.scope.object i (quiet_select program shown v r x p.4 i h)
    fine_actuals n r s v fs sub w ks (InOut formal at from x inner outer rest) q p f i (inr (inr (inr h))) = fine_actuals n r s v p.0 sub w f.1 rest q p.5 f.6 i h
    fine_actuals n r s v fs sub w ks (Out formal at from x inner outer rest) q p f i (inl e) = fine_write v r s from x f.4.0 at _ i q f.4.1 e
    fine_actuals n r s v fs sub w ks (Out formal at from x inner outer rest) q p f i (inr (inl h)) = calm v.outer s.scope.object i (quiet_select program shown v r x p.4 i h)
    fine_actuals n r s v fs sub w ks (Out formal at from x inner outer rest) q p f i (inr (inr h)) = fine_actuals n r s v p.0 sub w f.1 rest q p.5 f.6 i h
    fine_actuals n r s v fs sub w ks (CompositeInOut formal at from x subtype rest) q p f i (inl e) = fine_read v s _ at _ i e
    fine_actuals n r s v fs sub w ks (CompositeInOut formal at from x subtype rest) q p f i (inr (inl e)) = fine_write v r s from x f.4.0 at _ i q f.4.1 e
    fine_actuals n r s v fs sub w ks (CompositeInOut formal at from x subtype rest) q p f i (inr (inr (inl h))) = calm v.outer s.scope.object i (quiet_select program shown v r x p.4 i h)
    fine_actuals n r s v fs sub w ks (CompositeInOut formal at from x subtype rest) q p f i (inr (inr (inr h))) = fine_actuals n r s v p.0 sub w f.1 rest q p.5 f.6 i h
    fine_actuals n r s v fs sub w ks (CompositeOut formal at from x subtype rest) q p f i (inl e) = fine_read v s _ at _ i e
    fine_actuals n r s v fs sub w ks (CompositeOut formal at from x subtype rest) q p f i (inr (inl e)) = fine_write v r s from x f.4.0 at _ i q f.4.1 e
    fine_actuals n r s v fs sub w ks (CompositeOut formal at from x subtype rest) q p f i (inr (inr (inl h))) = calm v.outer s.scope.object i (quiet_select program shown v r x p.4 i h)
    fine_actuals n r s v fs sub w ks (CompositeOut formal at from x subtype rest) q p f i (inr (inr (inr h))) = fine_actuals n r s v p.0 sub w f.1 rest q p.5 f.6 i h

    fine_decls : (n : ℕ) (r : Roles) (s : Sight) (v : Around) (x : Decls) (rest : Item → Type 0) (does : Around → Type 0) (old : Sight → Type 0) → Items r s → ScopedDecls program shown v x does → FittedDecls program globals mains (Told n) s x old
        → ((j : Sight) (u : Around) → Items r j → does u → old j → (i : Item) → rest i → Fine u.outer j.scope.object i) → (i : Item) → InDecls program.subtypes r x rest i → Fine v.outer s.scope.object i
    fine_decls n r s v NoDecl rest does old q p f next i h = next s v q p f i h
    fine_decls n r s v (DeclareDefault x more) rest does old q p f next i h =
        let m : Named = record { through = false; place = own s.scope.free; cells = length (object_layout program x) } in
        outside_back v.outer x m s.scope.object i h.1
        (fine_decls n r (object_here s (VariableOf x) (length (object_layout program x))) (scopes.with_object (VariableOf x) v) more rest does old (λ k o e. also_lies (VariableOf x) m s.scope.object (r.item k).object (q k o e)) p.1 f.3 next i h.0)
    fine_decls n r s v (DeclareVariable x initial more) rest does old q p f next i (inl h) = calm v.outer s.scope.object i (quiet_value program shown v r _ initial p.1 i h)
    fine_decls n r s v (DeclareVariable x initial more) rest does old q p f next i (inr h) =
        let m : Named = record { through = false; place = own s.scope.free; cells = width program initial } in
        outside_back v.outer x m s.scope.object i h.1
        (fine_decls n r (object_here s (VariableOf x) (width program initial)) (scopes.with_object (VariableOf x) v) more rest does old (λ k o e. also_lies (VariableOf x) m s.scope.object (r.item k).object (q k o e)) p.2 f.3 next i h.0)
    fine_decls n r s v (DeclareConstant x initial more) rest does old q p f next i (inl h) = calm v.outer s.scope.object i (quiet_value program shown v r _ initial p.1 i h)
    fine_decls n r s v (DeclareConstant x initial more) rest does old q p f next i (inr h) =
        let m : Named = record { through = false; place = own s.scope.free; cells = width program initial } in
        constant_back v.outer x m s.scope.object i
        (fine_decls n r (object_here s (ConstantOf x) (width program initial)) (scopes.with_object (ConstantOf x) v) more rest does old (λ k o e. q k o e) p.2 f.3 next i h)
    fine_decls n r s v (Mentions es more) rest does old q p f next i (inl h) = calm v.outer s.scope.object i (quiet_exprs program shown v r es p.0 i h)
    fine_decls n r s v (Mentions es more) rest does old q p f next i (inr h) = fine_decls n r s v more rest does old q p.1 f next i h

    mutual
      pub fine_stmt : (n : ℕ) (r : Roles) (s : Sight) (v : Around) (x : Stmt) → Items r s → ScopedStmt program shown v x → FittedStmt program globals mains (Told n) (ToldForks n) s x → (i : Item) → InStmt program.subtypes r x i → Fine v.outer s.scope.object i
      fine_stmt n r s v Null q p f i h = absurd h
      fine_stmt n r s v (Assign at from x (Number check e)) q p f i (inl is) = fine_write v r s from x f.0 at _ i q f.1 is
      fine_stmt n r s v (Assign at from x (Number check e)) q p f i (inr (inl h)) = calm v.outer s.scope.object i (quiet_select program shown v r x p.1 i h)
      fine_stmt n r s v (Assign at from x (Number check e)) q p f i (inr (inr h)) = calm v.outer s.scope.object i (quiet_value program shown (scopes.with_target p.2.0 v) (record r { target = name r from x }) p.2.0 (Number check e) p.2.1 i h)
      fine_stmt n r s v (Assign at from x (Cells value)) q p f i (inl is) = fine_write v r s from x f.0.0 at _ i q f.0.1 is
      fine_stmt n r s v (Assign at from x (Cells value)) q p f i (inr (inl h)) = calm v.outer s.scope.object i (quiet_select program shown v r x p.1 i h)
      fine_stmt n r s v (Assign at from x (Cells value)) q p f i (inr (inr h)) = calm v.outer s.scope.object i (quiet_value program shown (scopes.with_target p.2.0 v) (record r { target = name r from x }) p.2.0 (Cells value) p.2.1 i h)
      fine_stmt n r s v (CallProcedure at callee sub actuals) q p f i (inl e) = subst (λ i. Fine v.outer s.scope.object i) (sym e) p.0.may
      fine_stmt n r s v (CallProcedure at callee sub actuals) q p f i (inr h) = fine_actuals n r (passing program sub s) v _ sub _ _ actuals q p.2 f.4 i h
      fine_stmt n r s v (Exit loop condition) q p f i h = calm v.outer s.scope.object i (quiet_optional program shown v r condition p i h)
      fine_stmt n r s v Return q p f i h = absurd h
      fine_stmt n r s v (ReturnValue (Number check e)) q p f i h = calm v.outer s.scope.object i (quiet_expr program shown v r e p i h)
      fine_stmt n r s v (ReturnValue (Cells value)) q p f i h = absurd f
      fine_stmt n r s v (Raise reason) q p f i h = absurd h
      fine_stmt n r s v Reraise q p f i h = absurd h
      fine_stmt n r s v (IfThen condition stmts otherwise) q p f i (inl h) = calm v.outer s.scope.object i (quiet_expr program shown v r condition p.0 i h)
      fine_stmt n r s v (IfThen condition stmts otherwise) q p f i (inr (inl h)) = fine_all n r s v stmts q p.1 f.1 i h
      fine_stmt n r s v (IfThen condition stmts otherwise) q p f i (inr (inr h)) = fine_all n r s v otherwise q p.2 f.2 i h
      fine_stmt n r s v (Case e alternatives) q p f i (inl h) = calm v.outer s.scope.object i (quiet_expr program shown v r e p.0 i h)
      fine_stmt n r s v (Case e alternatives) q p f i (inr h) = fine_cases n r (taking 1 s) v alternatives q p.1 f.2 i h
      fine_stmt n r s v (Loop number condition stmts) q p f i (inl h) = calm v.outer s.scope.object i (quiet_optional program shown v r condition p.0 i h)
      fine_stmt n r s v (Loop number condition stmts) q p f i (inr h) = fine_all n r (with_exit number 0 s) v stmts q p.1 (f.1 0) i h
      fine_stmt n r s v (For number (Range k reverse low high check filter) stmts) q p f i (inl (inl h)) = calm v.outer s.scope.object i (quiet_expr program shown v r low p.0 i h)
      fine_stmt n r s v (For number (Range k reverse low high check filter) stmts) q p f i (inl (inr h)) = calm v.outer s.scope.object i (quiet_expr program shown v r high p.1 i h)
      fine_stmt n r s v (For number (Range k reverse low high check filter) stmts) q p f i (inr (inl h)) = calm v.outer s.scope.object i (quiet_optional program shown (with_parameter k v) (course_hidden r (Range k reverse low high check filter) r) filter p.2 i h)
      fine_stmt n r s v (For number (Range k reverse low high check filter) stmts) q p f i (inr (inr h)) =
          fine_all n (course_hidden r (Range k reverse low high check filter) r) (range_sight s (Some number) k reverse 0) (with_parameter k v) stmts q p.3 (f.3 0).1 i h
      fine_stmt n r s v (For number (Components k constant at from x count stride dimensions filter) stmts) q p f i (inl h) = calm v.outer s.scope.object i (quiet_select program shown v r x p.2 i h)
      fine_stmt n r s v (For number (Components k constant at from x count stride dimensions filter) stmts) q p f i (inr (inl h)) =
          calm v.outer s.scope.object i (quiet_optional program shown v (course_hidden r (Components k constant at from x count stride dimensions filter) r) filter p.3 i h)
      fine_stmt n r s v (For number (Components k constant at from x count stride dimensions filter) stmts) q p f i (inr (inr h)) =
          fine_all n (course_hidden r (Components k constant at from x count stride dimensions filter) r) (item_sight s (Some number) constant k stride 0) v stmts
          (items_bound constant false k (name r from x) count stride dimensions r s.scope.item s.scope.object _ (array_lies constant r s from x _ q f.1) q) p.4 (f.3 0).1 i h
      fine_stmt zero r s v (ParallelFor number site chunk it stmts) q p f i h = absurd f
      fine_stmt (suc n) r s v (ParallelFor number site chunk (Range k true low high check filter) stmts) q p f i h = absurd f
      fine_stmt (suc n) r s v (ParallelFor number site chunk (Range k false low high check filter) stmts) q p f i (inl e) = subst (λ i. Fine v.outer s.scope.object i) (sym e) tt
      fine_stmt (suc n) r s v (ParallelFor number site chunk (Range k false low high check filter) stmts) q p f i (inr (inl h)) = calm v.outer s.scope.object i (quiet_chunk program shown v r chunk p.0 i h)
      fine_stmt (suc n) r s v (ParallelFor number site chunk (Range k false low high check filter) stmts) q p f i (inr (inr (inl (inl h)))) = calm v.outer s.scope.object i (quiet_expr program shown v r low p.2.0 i h)
      fine_stmt (suc n) r s v (ParallelFor number site chunk (Range k false low high check filter) stmts) q p f i (inr (inr (inl (inr h)))) = calm v.outer s.scope.object i (quiet_expr program shown v r high p.2.1 i h)
      fine_stmt (suc n) r s v (ParallelFor number site chunk (Range k false low high check filter) stmts) q p f i (inr (inr (inr (inl h)))) =
          calm v.outer s.scope.object i (in_chunk program shown chunk v i (quiet_optional program shown (with_parameter k (with_chunk chunk v)) (course_hidden r (Range k false low high check filter) (chunk_hidden chunk r)) filter p.2.2 i h))
      fine_stmt (suc n) r s v (ParallelFor number site chunk (Range k false low high check filter) stmts) q p f i (inr (inr (inr (inr h)))) =
          let there : Sight = turn_sight (thread_sight site f.0.frame (taking 2 (taking 2 s))) chunk (Range k false low high check filter) in
          fine_chunk chunk v (Range k false low high check filter) site f.0.frame (taking 2 (taking 2 s)) i
          (fine_all n (course_hidden r (Range k false low high check filter) (chunk_hidden chunk r)) (with_outside (number ∷ f.8) there) (with_parameter k (with_chunk chunk v)) stmts
          (items_range (chunk_hidden chunk r).item chunk k false low high check filter site f.0.frame (taking 2 (taking 2 s)) (items_hidden s.scope.item s.scope.object chunk r q)) p.2.3 f.13 i h)
      fine_stmt (suc n) r s v (ParallelFor number site chunk (Components k constant at from x count stride dimensions filter) stmts) q p f i (inl e) = subst (λ i. Fine v.outer s.scope.object i) (sym e) tt
      fine_stmt (suc n) r s v (ParallelFor number site chunk (Components k constant at from x count stride dimensions filter) stmts) q p f i (inr (inl h)) = calm v.outer s.scope.object i (quiet_chunk program shown v r chunk p.0 i h)
      fine_stmt (suc n) r s v (ParallelFor number site chunk (Components k constant at from x count stride dimensions filter) stmts) q p f i (inr (inr (inl h))) = calm v.outer s.scope.object i (quiet_select program shown v r x p.2.2 i h)
      fine_stmt (suc n) r s v (ParallelFor number site chunk (Components k constant at from x count stride dimensions filter) stmts) q p f i (inr (inr (inr (inl h)))) =
          calm v.outer s.scope.object i (in_chunk program shown chunk v i (quiet_optional program shown (with_chunk chunk v) (course_hidden r (Components k constant at from x count stride dimensions filter) (chunk_hidden chunk r)) filter p.2.3 i h))
      fine_stmt (suc n) r s v (ParallelFor number site chunk (Components k constant at from x count stride dimensions filter) stmts) q p f i (inr (inr (inr (inr h)))) =
          let there : Sight = turn_sight (thread_sight site f.0.frame (taking 2 (taking 2 s))) chunk (Components k constant at from x count stride dimensions filter) in
          fine_chunk chunk v (Components k constant at from x count stride dimensions filter) site f.0.frame (taking 2 (taking 2 s)) i
          (fine_all n (course_hidden r (Components k constant at from x count stride dimensions filter) (chunk_hidden chunk r)) (with_outside (number ∷ f.9) there) (with_chunk chunk v) stmts
          (items_turn chunk constant false k (name r from x) at from x count stride dimensions filter site f.0.frame (chunk_hidden chunk r) (taking 2 (taking 2 s)) (array_lies constant r (taking 2 (nested_sight s)) from x _ q f.7) (items_hidden s.scope.item s.scope.object chunk r q)) p.2.4 f.14 i h)
      fine_stmt zero r s v (Parallel site count arms) q p f i h = absurd f
      fine_stmt (suc n) r s v (Parallel site count arms) q p f i (inl e) = subst (λ i. Fine v.outer s.scope.object i) (sym e) tt
      fine_stmt (suc n) r s v (Parallel site count arms) q p f i (inr (inl h)) = calm v.outer s.scope.object i (quiet_optional program shown v r count p.0 i h)
      fine_stmt (suc n) r s v (Parallel site count arms) q p f i (inr (inr h)) =
          fine_back v.outer s.scope.object i (fine_arms n r (with_outside f.8 (taking 2 (taking 2 (thread_sight site f.0.frame (taking 2 s))))) v arms (items_thread r.item s.scope.item s.scope.object q) p.3 f.12 h.0 i h.1)
      fine_stmt n r s v (Block decls stmts NoHandler) q p f i h =
          fine_decls n r s v decls (λ j. InAll program.subtypes r stmts j ⊎ InHandlers program.subtypes r NoHandler j) (λ u. ScopedAll program shown u stmts × ScopedHandlers program shown (handling u) NoHandler)
          (λ t. FittedAll program globals mains (Told n) (ToldForks n) t stmts) q p f (λ j u q' p' f' i h. ⊎_elim (λ z. fine_all n r j u stmts q' p'.0 f' i z) (λ z. absurd z) h) i h
      fine_stmt n r s v (Block decls stmts (Handler handled first rest)) q p f i h =
          fine_decls n r s v decls (λ j. InAll program.subtypes r stmts j ⊎ InHandlers program.subtypes r (Handler handled first rest) j) (λ u. ScopedAll program shown u stmts × ScopedHandlers program shown (handling u) (Handler handled first rest))
          (λ t. (t.scope.free < t.cells) × ((e : ℕ) → FittedAll program globals mains (Told n) (ToldForks n) (with_entry e t) stmts) × FittedAll program globals mains (Told n) (ToldForks n) (with_handled (own t.scope.free) (taking 1 t)) first × FittedHandlers program globals mains (Told n) (ToldForks n) (with_handled (own t.scope.free) (taking 1 t)) rest)
          q p f
          (λ j u q' p' f' i h.
          ⊎_elim (λ z. fine_all n r (with_entry 0 j) u stmts q' p'.0 (f'.1 0) i z)
          (λ z. ⊎_elim (λ y. fine_all n r (with_handled (own j.scope.free) (taking 1 j)) (handling u) first q' p'.1.1 f'.2 i y) (λ y. fine_handlers n r (with_handled (own j.scope.free) (taking 1 j)) (handling u) rest q' p'.1.2 f'.3 i y) z) h) i h
      fine_stmt n r s v (Put at callee pieces line) q p f i (inl e) = subst (λ i. Fine v.outer s.scope.object i) (sym e) tt
      fine_stmt n r s v (Put at callee pieces line) q p f i (inr h) = calm v.outer s.scope.object i (quiet_pieces program shown v r pieces p i h)
      fine_stmt n r s v (Get at callee first from x scalar) q p f i (inl e) = subst (λ i. Fine v.outer s.scope.object i) (sym e) tt
      fine_stmt n r s v (Get at callee first from x scalar) q p f i (inr (inl e)) = fine_write v r s from x f.0.0 first _ i q f.0.1 e
      fine_stmt n r s v (Get at callee first from x scalar) q p f i (inr (inr h)) = calm v.outer s.scope.object i (quiet_select program shown v r x p.1 i h)

      pub fine_all : (n : ℕ) (r : Roles) (s : Sight) (v : Around) (x : Stmts) → Items r s → ScopedAll program shown v x → FittedAll program globals mains (Told n) (ToldForks n) s x → (i : Item) → InAll program.subtypes r x i → Fine v.outer s.scope.object i
      fine_all n r s v End q p f i h = absurd h
      fine_all n r s v (Then first more) q p f i (inl h) = fine_stmt n r s v first q p.0 f.0 i h
      fine_all n r s v (Then first more) q p f i (inr h) = fine_all n r s v more q p.1 f.1 i h

      fine_cases : (n : ℕ) (r : Roles) (s : Sight) (v : Around) (x : Alternatives) → Items r s → ScopedAlternatives program shown v x → FittedAlternatives program globals mains (Told n) (ToldForks n) s x → (i : Item) → InAlternatives program.subtypes r x i → Fine v.outer s.scope.object i
      fine_cases n r s v NoAlternative q p f i h = absurd h
      fine_cases n r s v (Alternative others choices mentions stmts rest) q p f i (inl h) = calm v.outer s.scope.object i (quiet_exprs program shown v r mentions p.1 i h)
      fine_cases n r s v (Alternative others choices mentions stmts rest) q p f i (inr (inl h)) = fine_all n r s v stmts q p.2 f.0 i h
      fine_cases n r s v (Alternative others choices mentions stmts rest) q p f i (inr (inr h)) = fine_cases n r s v rest q p.3 f.1 i h

      pub fine_arms : (n : ℕ) (r : Roles) (s : Sight) (v : Around) (x : Arms) → Items r s → ScopedArms program shown v x → FittedArms program globals mains (Told n) (ToldForks n) s x → (k : ℕ) (i : Item) → InArm program.subtypes r x k i → Fine v.outer s.scope.object i
      fine_arms n r s v NoArm q p f k i h = absurd h
      fine_arms n r s v (Arm stmts rest) q p f zero i h = fine_all n r s v stmts q p.0 f.0 i h
      fine_arms n r s v (Arm stmts rest) q p f (suc k) i h = fine_arms n r s v rest q p.1 f.1 k i h

      fine_handlers : (n : ℕ) (r : Roles) (s : Sight) (v : Around) (x : Handlers) → Items r s → ScopedHandlers program shown v x → FittedHandlers program globals mains (Told n) (ToldForks n) s x → (i : Item) → InHandlers program.subtypes r x i → Fine v.outer s.scope.object i
      fine_handlers n r s v NoHandler q p f i h = absurd h
      fine_handlers n r s v (Handler handled stmts rest) q p f i (inl h) = fine_all n r s v stmts q p.1 f.0 i h
      fine_handlers n r s v (Handler handled stmts rest) q p f i (inr h) = fine_handlers n r s v rest q p.2 f.1 i h

    -- within a turn of a loop's thread
    pub fine_range : (n : ℕ) (inner : Roles) (site cells : ℕ) (ns : List ℕ) (s : Sight) (v : Around) (chunk : Chunk) (k : ℕ) (low high : Expr) (check : Option Check) (filter : Optional) (stmts : Stmts) → ItemsLie inner.item s.scope.item s.scope.object
        → scopes.ScopedOptional program shown (with_parameter k (with_chunk chunk v)) filter → ScopedAll program shown (with_parameter k (with_chunk chunk v)) stmts
        → FittedAll program globals mains (Told n) (ToldForks n) (with_outside ns (turn_sight (thread_sight site cells (taking 2 (taking 2 s))) chunk (Range k false low high check filter))) stmts
        → (i : Item) → InFilter program.subtypes inner (Range k false low high check filter) i ⊎ InAll program.subtypes inner stmts i → Fine v.outer s.scope.object i
    fine_range n inner site cells ns s v chunk k low high check filter stmts q p u f i (inl h) = calm v.outer s.scope.object i (in_chunk program shown chunk v i (quiet_optional program shown (with_parameter k (with_chunk chunk v)) inner filter p i h))
    fine_range n inner site cells ns s v chunk k low high check filter stmts q p u f i (inr h) =
        let it : Iteration = Range k false low high check filter in
        let there : Sight = turn_sight (thread_sight site cells (taking 2 (taking 2 s))) chunk it in
        fine_chunk chunk v it site cells (taking 2 (taking 2 s)) i
        (fine_all n inner (with_outside ns there) (with_parameter k (with_chunk chunk v)) stmts (items_range inner.item chunk k false low high check filter site cells (taking 2 (taking 2 s)) q) u f i h)

    pub fine_components : (n : ℕ) (judged : Bool) (r : Roles) (m : effects.Named) (site cells : ℕ) (ns : List ℕ) (s : Sight) (v : Around) (chunk : Chunk) (k : ℕ) (constant : Bool) (at : ℕ) (from : Root) (x : Selections) (count stride dimensions : ℕ) (filter : Optional) (stmts : Stmts)
        → (constant ≡ false → Lies s.scope.object m.object) → ItemsLie r.item s.scope.item s.scope.object
        → scopes.ScopedOptional program shown (with_chunk chunk v) filter → ScopedAll program shown (with_chunk chunk v) stmts
        → FittedAll program globals mains (Told n) (ToldForks n) (with_outside ns (turn_sight (thread_sight site cells (taking 2 (taking 2 s))) chunk (Components k constant at from x count stride dimensions filter))) stmts
        → (i : Item) → InFilter program.subtypes (item_bound constant judged k m count stride dimensions r) (Components k constant at from x count stride dimensions filter) i ⊎ InAll program.subtypes (item_bound constant judged k m count stride dimensions r) stmts i
        → Fine v.outer s.scope.object i
    fine_components n judged r m site cells ns s v chunk k constant at from x count stride dimensions filter stmts of q p u f i (inl h) =
        calm v.outer s.scope.object i (in_chunk program shown chunk v i (quiet_optional program shown (with_chunk chunk v) (item_bound constant judged k m count stride dimensions r) filter p i h))
    fine_components n judged r m site cells ns s v chunk k constant at from x count stride dimensions filter stmts of q p u f i (inr h) =
        let it : Iteration = Components k constant at from x count stride dimensions filter in
        let there : Sight = turn_sight (thread_sight site cells (taking 2 (taking 2 s))) chunk it in
        fine_chunk chunk v it site cells (taking 2 (taking 2 s)) i
        (fine_all n (item_bound constant judged k m count stride dimensions r) (with_outside ns there) (with_chunk chunk v) stmts (items_turn chunk constant judged k m at from x count stride dimensions filter site cells r (taking 2 (taking 2 s)) of q) u f i h)
