-- What names give of order, of new objects and of the way of reductions, together with what is seen, is what it is to be in scope.
use Rattle.std.proofs.Common.{◌≡◌, refl, sym, subst, ◌∙◌, ℕ, ◌≤◌, List, [], ◌∷◌, Option, Some, None, Bool, true, false, arith}
use Rattle.behaviours.specs.Paths.{Entity, ConstantOf, VariableOf}
use Rattle.typed_tree.specs.declared.program.Formal.{Formal}
use Rattle.typed_tree.specs.Syntax.{Expr, Static, Variable, Constant, Parameter, Target, Group, Unary, Binary, AndThen, OrElse, Relation, Membership, If, Call, Convert, Reduction, Exprs, NoExpr, AlsoExpr, Optional, Absent, Present, Selections, Whole, Field, Index, Actuals, NoActual, In, InOut, Out, CompositeInOut, CompositeOut, Value, Number, Cells, Composite, WholeVariable, WholeConstant, WholeTarget, CompositeIf, Aggregate, Associations, NoAssociation, Association, Iteration, Range, Components, Chunk, NoChunk, Count, Each, Pieces, NoPiece, Text, Image, Padded, Decls, NoDecl, DeclareDefault, DeclareVariable, DeclareConstant, Mentions, Stmt, Null, Assign, CallProcedure, Exit, Return, ReturnValue, Raise, Reraise, IfThen, Case, Loop, For, ParallelFor, Parallel, Block, Put, Get, Stmts, End, Then, Alternatives, NoAlternative, Alternative, Arms, NoArm, Arm, Handlers, NoHandler, Handler, Program}
use Rattle.typed_scopes.specs.Scopes as scopes
use Rattle.typed_scopes.specs.Scopes.{Around, IsFolded, ScopedActuals, ScopedAll, ScopedAlternatives, ScopedArms, ScopedAssociations, ScopedChunk, ScopedComposite, ScopedDecls, ScopedExpr, ScopedExprs, ScopedHandlers, ScopedIn, ScopedIteration, ScopedMain, ScopedOptional, ScopedPieces, ScopedSelections, ScopedStmt, ScopedValue, entity_of, handling, object_cells, with_chunk, with_index, with_object, with_outer, with_parameter, with_target}
use Rattle.name_flow.specs.Fresh as fresh
use Rattle.name_flow.specs.Fresh.{FreshAll, FreshArms, FreshCases, FreshDecls, FreshHandlers, FreshStmt}
use Rattle.name_flow.specs.Order.{OrderedAll, OrderedArms, OrderedCases, OrderedHandlers, OrderedStmt}
use Rattle.name_scopes.proofs.Tallies.{in_actuals, in_alternatives, in_arms, in_associations, in_chunk, in_composite, in_decls, in_expr, in_exprs, in_handlers, in_iteration, in_optional, in_pieces, in_selections, in_stmt, in_stmts, in_value, in_way}
use Rattle.name_scopes.proofs.Leaving.{backwards}
use Rattle.name_scopes.proofs.Seen.{IsChunked, SeenActuals, SeenAll, SeenAlternatives, SeenArms, SeenAssociations, SeenChunk, SeenComposite, SeenDecls, SeenExpr, SeenExprs, SeenHandlers, SeenIn, SeenIteration, SeenOptional, SeenPieces, SeenSelections, SeenStmt, SeenValue, past}

-- nothing there goes backwards
j-folded : (site : Option ℕ) (c : Chunk) (i : Iteration) → IsChunked site c → in_way backwards i ≤ 0 → IsFolded site c i
j-folded None c i h n = h
j-folded (Some s) c (Range k false low high check filter) h n = refl
j-folded (Some s) c (Range k true low high check filter) h n = absurd (omega (arith, n))
j-folded (Some s) c (Components k constant at from ss number stride dimensions filter) h n = tt

module _ (P : Program) (shown : ℕ → Entity → Bool) where
  -- an iteration without its body, and with it
  bare : (v u : Around) (x : Iteration) (A : Around → Type 0) → SeenIteration P shown v u x A → SeenIteration P shown v u x (λ w. Unit {0})
  bare v u (Range k reverse low high check filter) A h = (h.0, h.1, h.2, tt)
  bare v u (Components k constant at from ss number stride dimensions filter) A h = (h.0, h.1, h.2, h.3, tt)

  with-body : (v u : Around) (x : Iteration) (A B : Around → Type 0) → ScopedIteration P shown v u x (λ w. Unit {0}) → SeenIteration P shown v u x A → ((w : Around) → w.taken ≡ u.taken → w.handled ≡ u.handled → A w → B w) → ScopedIteration P shown v u x B
  with-body v u (Range k reverse low high check filter) A B s h f = (s.0, s.1, s.2, f (with_parameter k u) refl refl h.3)
  with-body v u (Components k constant at from ss number stride dimensions filter) A B s h f = (s.0, s.1, s.2, s.3, f u refl refl h.4)

  mutual
    pub j-expr : (v : Around) (x : Expr) → SeenExpr P shown v x → in_expr backwards x ≤ 0 → ScopedExpr P shown v x
    j-expr v (Static at value literal mentions) h n = j-exprs v mentions h n
    j-expr v (Variable at from ss scalar) h n = (h.0, j-selections v ss h.1 n)
    j-expr v (Constant at from ss scalar) h n = (h.0, j-selections v ss h.1 n)
    j-expr v (Parameter at k) h n = h
    j-expr v (Target at scalar) h n = h
    j-expr v (Group e) h n = j-expr v e h n
    j-expr v (Unary at sign class e) h n = j-expr v e h n
    j-expr v (Binary at op class e f) h n = (j-expr v e h.0 (omega (arith, n)), j-expr v f h.1 (omega (arith, n)))
    j-expr v (AndThen e f) h n = (j-expr v e h.0 (omega (arith, n)), j-expr v f h.1 (omega (arith, n)))
    j-expr v (OrElse e f) h n = (j-expr v e h.0 (omega (arith, n)), j-expr v f h.1 (omega (arith, n)))
    j-expr v (Relation class comparison e f) h n = (j-expr v e h.0 (omega (arith, n)), j-expr v f h.1 (omega (arith, n)))
    j-expr v (Membership class negated e low high) h n = (j-expr v e h.0 (omega (arith, n)), j-expr v low h.1 (omega (arith, n)), j-expr v high h.2 (omega (arith, n)))
    j-expr v (If c a b) h n = (j-expr v c h.0 (omega (arith, n)), j-expr v a h.1 (omega (arith, n)), j-expr v b h.2 (omega (arith, n)))
    j-expr v (Call at callee sub as') h n = (h.0, h.1, j-in v h.0.unit.formals as' h.2 n)
    j-expr v (Convert check e) h n = j-expr v e h n
    j-expr v (Reduction at attribute by initial site c i value) h n = (
      j-expr v initial h.0 (omega (arith, n)),
      j-chunk v c h.1 (omega (arith, n)),
      h.2,
      j-folded site c i h.3 (omega (arith, n)),
      with-body v (with_chunk c v) i (λ u. SeenExpr P shown u value) (λ u. ScopedExpr P shown u value) (j-iteration v (with_chunk c v) i (bare v (with_chunk c v) i (λ u. SeenExpr P shown u value) h.4) (omega (arith, n))) h.4
          (λ w t k s. j-expr w value s (omega (arith, n))),
    )

    pub j-exprs : (v : Around) (x : Exprs) → SeenExprs P shown v x → in_exprs backwards x ≤ 0 → ScopedExprs P shown v x
    j-exprs v NoExpr h n = tt
    j-exprs v (AlsoExpr e es) h n = (j-expr v e h.0 (omega (arith, n)), j-exprs v es h.1 (omega (arith, n)))

    pub j-optional : (v : Around) (x : Optional) → SeenOptional P shown v x → in_optional backwards x ≤ 0 → ScopedOptional P shown v x
    j-optional v Absent h n = tt
    j-optional v (Present e) h n = j-expr v e h n

    pub j-selections : (v : Around) (x : Selections) → SeenSelections P shown v x → in_selections backwards x ≤ 0 → ScopedSelections P shown v x
    j-selections v Whole h n = tt
    j-selections v (Field number offset rest) h n = j-selections v rest h n
    j-selections v (Index at e low high stride rest) h n = (j-expr v e h.0 (omega (arith, n)), j-selections v rest h.1 (omega (arith, n)))

    pub j-in : (v : Around) (fs : List Formal) (x : Actuals) → SeenIn P shown v fs x → in_actuals backwards x ≤ 0 → ScopedIn P shown v fs x
    j-in v fs NoActual h n = h
    j-in v fs (In x value rest) h n = (h.0, h.1, j-value v (object_cells P x) value h.2 (omega (arith, n)), j-in v h.0 rest h.3 (omega (arith, n)))
    j-in v fs (InOut x at from ss inner outer rest) h n = h
    j-in v fs (Out x at from ss inner outer rest) h n = h
    j-in v fs (CompositeInOut x at from ss subtype rest) h n = h
    j-in v fs (CompositeOut x at from ss subtype rest) h n = h

    pub j-value : (v : Around) (m : ℕ) (x : Value) → SeenValue P shown v m x → in_value backwards x ≤ 0 → ScopedValue P shown v m x
    j-value v m (Number check e) h n = (h.0, j-expr v e h.1 n)
    j-value v m (Cells c) h n = j-composite v m c h n

    pub j-composite : (v : Around) (m : ℕ) (x : Composite) → SeenComposite P shown v m x → in_composite backwards x ≤ 0 → ScopedComposite P shown v m x
    j-composite v m (WholeVariable at from ss subtype) h n = (h.0, h.1, j-selections v ss h.2 n)
    j-composite v m (WholeConstant at from ss subtype) h n = (h.0, h.1, j-selections v ss h.2 n)
    j-composite v m (WholeTarget at subtype) h n = h
    j-composite v m (CompositeIf c a b) h n = (j-expr v c h.0 (omega (arith, n)), j-composite v m a h.1 (omega (arith, n)), j-composite v m b h.2 (omega (arith, n)))
    j-composite v m (Aggregate at size as') h n = (h.0, j-associations v m as' h.1 n)

    pub j-associations : (v : Around) (m : ℕ) (x : Associations) → SeenAssociations P shown v m x → in_associations backwards x ≤ 0 → ScopedAssociations P shown v m x
    j-associations v m NoAssociation h n = tt
    j-associations v m (Association runs iterated mentions value rest) h n =
        (h.0, j-exprs v mentions h.1 (omega (arith, n)), (h.2.0, h.2.1, j-value (with_index iterated v) h.2.0 value h.2.2 (omega (arith, n))), j-associations v m rest h.3 (omega (arith, n)))

    pub j-iteration : (v u : Around) (x : Iteration) → SeenIteration P shown v u x (λ w. Unit {0}) → in_iteration backwards x ≤ 0 → ScopedIteration P shown v u x (λ w. Unit {0})
    j-iteration v u (Range k reverse low high check filter) h n = (j-expr v low h.0 (omega (arith, n)), j-expr v high h.1 (omega (arith, n)), j-optional (with_parameter k u) filter h.2 (omega (arith, n)), tt)
    j-iteration v u (Components k constant at from ss number stride dimensions filter) h n = (h.0, h.1, j-selections v ss h.2 (omega (arith, n)), j-optional u filter h.3 (omega (arith, n)), tt)

    pub j-chunk : (v : Around) (x : Chunk) → SeenChunk P shown v x → in_chunk backwards x ≤ 0 → ScopedChunk P shown v x
    j-chunk v NoChunk h n = tt
    j-chunk v (Count e) h n = j-expr v e h n
    j-chunk v (Each k low high check) h n = (j-expr v low h.0 (omega (arith, n)), j-expr v high h.1 (omega (arith, n)))

  pub j-iterated : (v u : Around) (x : Iteration) (A B : Around → Type 0) → SeenIteration P shown v u x A → in_iteration backwards x ≤ 0 → ((w : Around) → w.taken ≡ u.taken → w.handled ≡ u.handled → A w → B w) → ScopedIteration P shown v u x B
  j-iterated v u x A B h n f = with-body v u x A B (j-iteration v u x (bare v u x A h) n) h f

  pub j-actuals : (v : Around) (fs : List Formal) (x : Actuals) → SeenActuals P shown v fs x → in_actuals backwards x ≤ 0 → ScopedActuals P shown v fs x
  j-actuals v fs NoActual h n = h
  j-actuals v fs (In x value rest) h n = (h.0, h.1, j-value v (object_cells P x) value h.2 (omega (arith, n)), j-actuals v h.0 rest h.3 (omega (arith, n)))
  j-actuals v fs (InOut x at from ss inner outer rest) h n = (h.0, h.1, h.2, h.3, j-selections v ss h.4 (omega (arith, n)), j-actuals v h.0 rest h.5 (omega (arith, n)))
  j-actuals v fs (Out x at from ss inner outer rest) h n = (h.0, h.1, h.2, h.3, j-selections v ss h.4 (omega (arith, n)), j-actuals v h.0 rest h.5 (omega (arith, n)))
  j-actuals v fs (CompositeInOut x at from ss subtype rest) h n = (h.0, h.1, h.2, h.3, j-selections v ss h.4 (omega (arith, n)), j-actuals v h.0 rest h.5 (omega (arith, n)))
  j-actuals v fs (CompositeOut x at from ss subtype rest) h n = (h.0, h.1, h.2, h.3, j-selections v ss h.4 (omega (arith, n)), j-actuals v h.0 rest h.5 (omega (arith, n)))

  pub j-pieces : (v : Around) (x : Pieces) → SeenPieces P shown v x → in_pieces backwards x ≤ 0 → ScopedPieces P shown v x
  j-pieces v NoPiece h n = tt
  j-pieces v (Text bytes rest) h n = j-pieces v rest h n
  j-pieces v (Image class e rest) h n = (j-expr v e h.0 (omega (arith, n)), j-pieces v rest h.1 (omega (arith, n)))
  j-pieces v (Padded class e (Static at value literal mentions) rest) h n = (j-expr v e h.0 (omega (arith, n)), j-exprs v mentions h.1 (omega (arith, n)), j-pieces v rest h.2 (omega (arith, n)))
  j-pieces v (Padded class e (Variable at from ss scalar) rest) h n = h
  j-pieces v (Padded class e (Constant at from ss scalar) rest) h n = h
  j-pieces v (Padded class e (Parameter at k) rest) h n = h
  j-pieces v (Padded class e (Target at scalar) rest) h n = h
  j-pieces v (Padded class e (Group x) rest) h n = h
  j-pieces v (Padded class e (Unary at sign c x) rest) h n = h
  j-pieces v (Padded class e (Binary at op c x y) rest) h n = h
  j-pieces v (Padded class e (AndThen x y) rest) h n = h
  j-pieces v (Padded class e (OrElse x y) rest) h n = h
  j-pieces v (Padded class e (Relation c comparison x y) rest) h n = h
  j-pieces v (Padded class e (Membership c negated x low high) rest) h n = h
  j-pieces v (Padded class e (If x y z) rest) h n = h
  j-pieces v (Padded class e (Call at callee sub as') rest) h n = h
  j-pieces v (Padded class e (Convert check x) rest) h n = h
  j-pieces v (Padded class e (Reduction at attribute by initial site c i value) rest) h n = h

  -- ---- declarations

  pub j-decls : (v : Around) (x : Decls) (A : (Entity → Bool) → Type 0) (B : Around → Type 0) → SeenDecls P shown false v x → FreshDecls v.taken x A → in_decls backwards x ≤ 0 → (A (past false v x).taken → B (past false v x)) → ScopedDecls P shown v x B
  j-decls v NoDecl A B h f n g = g f
  j-decls v (DeclareDefault x more) A B h f n g = (f.0, j-decls (with_object (VariableOf x) v) more A B h f.1 n g)
  j-decls v (DeclareVariable x i more) A B h f n g = (f.0, j-value v (object_cells P x) i h.0 (omega (arith, n)), j-decls (with_object (VariableOf x) v) more A B h.1 f.1 (omega (arith, n)) g)
  j-decls v (DeclareConstant x i more) A B h f n g = (f.0, j-value v (object_cells P x) i h.0 (omega (arith, n)), j-decls (with_object (ConstantOf x) v) more A B h.1 f.1 (omega (arith, n)) g)
  j-decls v (Mentions es more) A B h f n g = (j-exprs v es h.0 (omega (arith, n)), j-decls v more A B h.1 f (omega (arith, n)) g)

  pub j-main : (v : Around) (x : Decls) (A : (Entity → Bool) → Type 0) (B : Around → Type 0) → SeenDecls P shown true v x → FreshDecls v.taken x A → in_decls backwards x ≤ 0 → (A (past true v x).taken → B (past true v x)) → ScopedMain P shown v x B
  j-main v NoDecl A B h f n g = g f
  j-main v (DeclareDefault x more) A B h f n g = (f.0, j-main (with_outer (VariableOf x) v) more A B h f.1 n g)
  j-main v (DeclareVariable x i more) A B h f n g = (f.0, j-value v (object_cells P x) i h.0 (omega (arith, n)), j-main (with_outer (VariableOf x) v) more A B h.1 f.1 (omega (arith, n)) g)
  j-main v (DeclareConstant x i more) A B h f n g = (f.0, j-value v (object_cells P x) i h.0 (omega (arith, n)), j-main (with_outer (ConstantOf x) v) more A B h.1 f.1 (omega (arith, n)) g)
  j-main v (Mentions es more) A B h f n g = (j-exprs v es h.0 (omega (arith, n)), j-main v more A B h.1 f (omega (arith, n)) g)

-- ---- statements

pub past-handled : (main : Bool) (v : Around) (x : Decls) → (past main v x).handled ≡ v.handled
past-handled main v NoDecl = refl
past-handled true v (DeclareDefault x more) = past-handled true (with_outer (VariableOf x) v) more
past-handled true v (DeclareVariable x i more) = past-handled true (with_outer (VariableOf x) v) more
past-handled true v (DeclareConstant x i more) = past-handled true (with_outer (ConstantOf x) v) more
past-handled false v (DeclareDefault x more) = past-handled false (with_object (VariableOf x) v) more
past-handled false v (DeclareVariable x i more) = past-handled false (with_object (VariableOf x) v) more
past-handled false v (DeclareConstant x i more) = past-handled false (with_object (ConstantOf x) v) more
past-handled main v (Mentions es more) = past-handled main v more

chunk-taken : (c : Chunk) (v : Around) → (with_chunk c v).taken ≡ v.taken
chunk-taken NoChunk v = refl
chunk-taken (Count e) v = refl
chunk-taken (Each k low high check) v = refl

chunk-handled : (c : Chunk) (v : Around) → (with_chunk c v).handled ≡ v.handled
chunk-handled NoChunk v = refl
chunk-handled (Count e) v = refl
chunk-handled (Each k low high check) v = refl

module _ (P : Program) (shown : ℕ → Entity → Bool) where
  mutual
    pub j-stmt : (v : Around) (b : Bool) (x : Stmt) → SeenStmt P shown v x → v.handled ≡ b → OrderedStmt b x → FreshStmt v.taken x → in_stmt backwards x ≤ 0 → ScopedStmt P shown v x
    j-stmt v b Null h e o f n = tt
    j-stmt v b (Assign at from ss value) h e o f n = (h.0, j-selections P shown v ss h.1 (omega (arith, n)), (h.2.0, j-value P shown (with_target h.2.0 v) h.2.0 value h.2.1 (omega (arith, n))))
    j-stmt v b (CallProcedure at callee sub as') h e o f n = (h.0, h.1, j-actuals P shown v h.0.unit.formals as' h.2 n)
    j-stmt v b (Exit loop condition) h e o f n = j-optional P shown v condition h n
    j-stmt v b Return h e o f n = tt
    j-stmt v b (ReturnValue (Number check x)) h e o f n = j-expr P shown v x h n
    j-stmt v b (ReturnValue (Cells c)) h e o f n = o
    j-stmt v b (Raise reason) h e o f n = tt
    j-stmt v b Reraise h e o f n = e ∙ o
    j-stmt v b (IfThen c ss other) h e o f n = (j-expr P shown v c h.0 (omega (arith, n)), j-all v b ss h.1 e o.0 f.0 (omega (arith, n)), j-all v b other h.2 e o.1 f.1 (omega (arith, n)))
    j-stmt v b (Case x as') h e o f n = (j-expr P shown v x h.0 (omega (arith, n)), j-alternatives v b as' h.1 e o f (omega (arith, n)))
    j-stmt v b (Loop number c ss) h e o f n = (j-optional P shown v c h.0 (omega (arith, n)), j-all v b ss h.1 e o f (omega (arith, n)))
    j-stmt v b (For number i ss) h e o f n =
        j-iterated P shown v v i (λ u. SeenAll P shown u ss) (λ u. ScopedAll P shown u ss) h (omega (arith, n)) (λ w t k s. j-all w b ss s (k ∙ e) o (subst (λ t. FreshAll t ss) (sym t) f) (omega (arith, n)))
    j-stmt v b (ParallelFor number site c i ss) h e o f n = (
      j-chunk P shown v c h.0 (omega (arith, n)),
      o.0,
      j-iterated P shown v (with_chunk c v) i (λ u. SeenAll P shown u ss) (λ u. ScopedAll P shown u ss) h.1 (omega (arith, n))
          (λ w t k s. j-all w b ss s (k ∙ chunk-handled c v ∙ e) o.1 (subst (λ t. FreshAll t ss) (sym (t ∙ chunk-taken c v)) f) (omega (arith, n))),
    )
    j-stmt v b (Parallel site count arms) h e o f n = (j-optional P shown v count h.0 (omega (arith, n)), o.0, o.1, j-arms v b arms h.1 e o.2 f (omega (arith, n)))
    j-stmt v b (Block ds ss hs) h e o f n =
        j-decls P shown v ds (λ t. FreshAll t ss × FreshHandlers t hs) (λ u. ScopedAll P shown u ss × ScopedHandlers P shown (handling u) hs) h.0 f (omega (arith, n))
        (λ g. (j-all (past false v ds) b ss h.1 (past-handled false v ds ∙ e) o.0 g.0 (omega (arith, n)), j-handlers (handling (past false v ds)) hs h.2 refl o.1 g.1 (omega (arith, n))))
    j-stmt v b (Put at callee ps line) h e o f n = j-pieces P shown v ps h n
    j-stmt v b (Get at callee first from ss scalar) h e o f n = (h.0, j-selections P shown v ss h.1 n)

    pub j-all : (v : Around) (b : Bool) (x : Stmts) → SeenAll P shown v x → v.handled ≡ b → OrderedAll b x → FreshAll v.taken x → in_stmts backwards x ≤ 0 → ScopedAll P shown v x
    j-all v b End h e o f n = tt
    j-all v b (Then s ss) h e o f n = (j-stmt v b s h.0 e o.0 f.0 (omega (arith, n)), j-all v b ss h.1 e o.1 f.1 (omega (arith, n)))

    pub j-alternatives : (v : Around) (b : Bool) (x : Alternatives) → SeenAlternatives P shown v x → v.handled ≡ b → OrderedCases b x → FreshCases v.taken x → in_alternatives backwards x ≤ 0 → ScopedAlternatives P shown v x
    j-alternatives v b NoAlternative h e o f n = tt
    j-alternatives v b (Alternative others choices mentions ss rest) h e o f n = (o.0, j-exprs P shown v mentions h.0 (omega (arith, n)), j-all v b ss h.1 e o.1 f.0 (omega (arith, n)), j-alternatives v b rest h.2 e o.2 f.1 (omega (arith, n)))

    pub j-arms : (v : Around) (b : Bool) (x : Arms) → SeenArms P shown v x → v.handled ≡ b → OrderedArms b x → FreshArms v.taken x → in_arms backwards x ≤ 0 → ScopedArms P shown v x
    j-arms v b NoArm h e o f n = tt
    j-arms v b (Arm ss rest) h e o f n = (j-all v b ss h.0 e o.0 f.0 (omega (arith, n)), j-arms v b rest h.1 e o.1 f.1 (omega (arith, n)))

    pub j-handlers : (v : Around) (x : Handlers) → SeenHandlers P shown v x → v.handled ≡ true → OrderedHandlers x → FreshHandlers v.taken x → in_handlers backwards x ≤ 0 → ScopedHandlers P shown v x
    j-handlers v NoHandler h e o f n = tt
    j-handlers v (Handler handled ss rest) h e o f n = (o.0, j-all v true ss h.0 e o.1 f.0 (omega (arith, n)), j-handlers v rest h.1 e o.2 f.1 (omega (arith, n)))

-- ---- what is in scope around bodies

pub past-behind : (v : Around) (x : Decls) → past true v x ≡ scopes.behind v x
past-behind v NoDecl = refl
past-behind v (DeclareDefault x more) = past-behind (with_outer (VariableOf x) v) more
past-behind v (DeclareVariable x i more) = past-behind (with_outer (VariableOf x) v) more
past-behind v (DeclareConstant x i more) = past-behind (with_outer (ConstantOf x) v) more
past-behind v (Mentions es more) = past-behind v more

pub taken-behind : (v : Around) (x : Decls) → fresh.behind v.taken x ≡ (scopes.behind v x).taken
taken-behind v NoDecl = refl
taken-behind v (DeclareDefault x more) = taken-behind (with_outer (VariableOf x) v) more
taken-behind v (DeclareVariable x i more) = taken-behind (with_outer (VariableOf x) v) more
taken-behind v (DeclareConstant x i more) = taken-behind (with_outer (ConstantOf x) v) more
taken-behind v (Mentions es more) = taken-behind v more

pub taken-formals : (v : Around) (fs : List Formal) → fresh.with_formals v.taken fs ≡ (scopes.with_formals v fs).taken
taken-formals v [] = refl
taken-formals v (f ∷ fs) = taken-formals (with_object (entity_of f) v) fs

pub handled-formals : (v : Around) (fs : List Formal) → (scopes.with_formals v fs).handled ≡ v.handled
handled-formals v [] = refl
handled-formals v (f ∷ fs) = handled-formals (with_object (entity_of f) v) fs

pub j-formals : (v : Around) (fs : List Formal) → fresh.FreshFormals v.taken fs → scopes.FreshFormals v fs
j-formals v [] h = tt
j-formals v (f ∷ fs) h = (h.0, j-formals (with_object (entity_of f) v) fs h.1)
