-- Where the constructs of statements stand, and where what is in scope there lies.
use Rattle.std.proofs.Common.{◌≡◌, ℕ, zero, suc, ◌+◌, ◌<◌, List, ◌∷◌, length, Option, Some, Bool, true, false, not, ◌&&◌, refl, sym, ap, subst}
use Rattle.behaviours.specs.Paths.{Entity, VariableOf, ConstantOf}
use Rattle.typed_tree.specs.declared.program.Formal.{Formal}
use Rattle.typed_tree.specs.Syntax.{Expr, Static, Optional, Absent, Present, Actuals, NoActual, In, InOut, Out, CompositeInOut, CompositeOut, Number, Cells, Iteration, Range, Components, Chunk, NoChunk, Count, Each, Pieces, NoPiece, Text, Image, Padded, Decls, NoDecl, DeclareDefault, DeclareVariable, DeclareConstant, Mentions, Stmt, Null, Assign, CallProcedure, Exit, Return, ReturnValue, Raise, Reraise, IfThen, Case, Loop, For, ParallelFor, Parallel, Block, Put, Get, Stmts, End, Then, Alternatives, NoAlternative, Alternative, Arms, NoArm, Arm, Handlers, NoHandler, Handler, Program}
use Rattle.typed_scopes.specs.Scopes as scopes
use Rattle.typed_scopes.specs.Scopes.{Around, ScopedActuals, ScopedAll, ScopedAlternatives, ScopedArms, ScopedDecls, ScopedHandlers, ScopedOptional, ScopedPieces, ScopedStmt, ScopedExpr, with_chunk, with_parameter}
use Rattle.ada_meaning.specs.Meaning.{object_layout}
use Rattle.stack_code.specs.declared.code.Code.{Code}
use Rattle.stack_code.specs.declared.code.CodeSite.{CodeSite}
use Rattle.ada_lower.specs.declared.types.Home.{Home}
use Rattle.ada_lower.specs.declared.types.Standing.{Standing}
use Rattle.ada_lower.specs.Homes.{behind, decl_homes, turn_cells}
use Rattle.ada_lower.specs.Homes.{arm_homes, case_homes, handler_homes, stmt_homes, stmts_homes}
use Rattle.ada_lower.specs.Standings.{actuals_standings, arm_standings, case_standings, decls_standings, expr_standings, handler_standings, optional_standings, pieces_standings, stmt_standings, stmts_standings}
use Rattle.ada_lower.specs.Lending.{Among}
use Rattle.ada_lower.specs.Sights.{Named, Own, Sight, item_sight, nested_sight, object_here, own, passing, range_sight, taking, thread_sight, turn_sight, with_entry, with_exit, with_handled, with_outside, with_target}
use Rattle.ada_lower.specs.Emission.{composite_width, is_whole, width}
use Rattle.ada_lower.specs.Fitted.{Spot, FittedActuals, FittedAll, FittedAlternatives, FittedDecls, FittedHandlers, FittedPieces, FittedStmt, FittedTarget}
use Rattle.ada_lower.specs.FittedForks.{FittedArms, FittedCount, FittedForks, FittedReductions}
use Rattle.lower_laws.proofs.Homes.{IsPlaced, Places, own_placed, places_object, places_thread, places_turn}
use Rattle.lower_laws.proofs.Kept.{among_last, home_all, home_arms, home_cases, home_decls, home_handlers, kept_actuals, kept_all, kept_arms, kept_cases, kept_chunk, kept_decls, kept_expr, kept_handlers, kept_iteration, kept_optional, kept_pieces, kept_value}
use Rattle.lower_laws.proofs.TellsValues.{Stands, tell, tell_chunk, tell_composite, tell_optional, tell_select, tell_value}

pub same_variable : {x y : ℕ} → ◌≡◌ {A = Entity} (VariableOf x) (VariableOf y) → x ≡ y
same_variable e = cc

pub no_variable : {x y : ℕ} → ◌≡◌ {A = Entity} (ConstantOf x) (VariableOf y) → ⊥
no_variable e = cc

-- the cells that are taken at a turn of a thread
turn_free : (chunk : Chunk) (it : Iteration) (site cells : ℕ) (s : Sight) → (turn_sight (thread_sight site cells s) chunk it).scope.free ≡ 2 + turn_cells it
turn_free NoChunk (Range k reverse low high check filter) site cells s = refl
turn_free (Count e) (Range k reverse low high check filter) site cells s = refl
turn_free (Each p l u c) (Range k reverse low high check filter) site cells s = refl
turn_free NoChunk (Components k constant at r selections count stride dimensions filter) site cells s = refl
turn_free (Count e) (Components k constant at r selections count stride dimensions filter) site cells s = refl
turn_free (Each p l u c) (Components k constant at r selections count stride dimensions filter) site cells s = refl

module _ (program : Program) (shown : ℕ → Entity → Bool) (globals : ℕ → Entity → Option Named) (mains : Entity → Bool) (c : Code) (lent told : Bool → Sight → ℕ → CodeSite → Type 0) (homes : List Home) (standings : List Standing)
    (gives : (items : Bool) (d : ℕ) (s : Sight) (site : ℕ) (cs : CodeSite) → Among (record { site = site; depth = d; ranges = not items }) standings → Places homes d s → told items s site cs → lent items s site cs) where
  abbrev Told : ℕ → Sight → Expr → Type 0
  Told n = FittedReductions program globals mains told c n

  abbrev Lent : ℕ → Sight → Expr → Type 0
  Lent n = FittedReductions program globals mains lent c n

  abbrev ToldForks : ℕ → Sight → Stmt → Type 0
  ToldForks n = FittedForks program globals mains told c n

  abbrev LentForks : ℕ → Sight → Stmt → Type 0
  LentForks n = FittedForks program globals mains lent c n

  abbrev S : (List Standing → List Standing) → Type 0
  S find = Stands program shown globals mains c lent told homes standings gives find

  abbrev pub Lies : (List Home → List Home) → Type 0
  Lies find = (t : Home) → ((found : List Home) → Among t (find found)) → Among t homes

  tell_target : (n d : ℕ) (s : Sight) (v : Around) (b : Bool) (m : Named) (e : Expr) → Places homes d s → ScopedExpr program shown v e → S (λ o. expr_standings d e o) → FittedTarget program globals mains (Told n) s b m e → FittedTarget program globals mains (Lent n) s b m e
  tell_target n d s v true m e h u g f = tell program shown globals mains c lent told homes standings gives n d (with_target m s) v e h u g f
  tell_target n d s v false m e h u g f = (f.0, tell program shown globals mains c lent told homes standings gives n d (with_target (record { through = true; place = own s.scope.free; cells = 1 }) (taking 1 s)) v e h u g f.1)

  tell_actuals : (n d : ℕ) (s : Sight) (v : Around) (fs : List Formal) (sub w : ℕ) (ks : List Spot) (x : Actuals) → Places homes d s → ScopedActuals program shown v fs x → S (λ o. actuals_standings d x o) → FittedActuals program globals mains (Told n) s sub w ks x → FittedActuals program globals mains (Lent n) s sub w ks x
  unfolding expr_standings
  tell_actuals n d s v fs sub w ks NoActual h u g f = f
  tell_actuals n d s v fs sub w ks (In formal value rest) h u g f =
      (f.0, f.1, f.2, f.3, f.4, tell_value program shown globals mains c lent told homes standings gives n d s v _ f.1 value h u.2 (λ t z. g t (λ o. kept_actuals t d rest _ (z o))) f.5, tell_actuals n d s v u.0 sub w f.2 rest h u.3 (λ t z. g t (λ o. z _)) f.6)
  tell_actuals n d s v fs sub w ks (InOut formal at from x inner outer rest) h u g f =
      (f.0, f.1, f.2, f.3, f.4, tell_select program shown globals mains c lent told homes standings gives n d s v x h u.4 (λ t z. g t (λ o. kept_actuals t d rest _ (z o))) f.5, tell_actuals n d s v u.0 sub w f.1 rest h u.5 (λ t z. g t (λ o. z _)) f.6)
  tell_actuals n d s v fs sub w ks (Out formal at from x inner outer rest) h u g f =
      (f.0, f.1, f.2, f.3, f.4, tell_select program shown globals mains c lent told homes standings gives n d s v x h u.4 (λ t z. g t (λ o. kept_actuals t d rest _ (z o))) f.5, tell_actuals n d s v u.0 sub w f.1 rest h u.5 (λ t z. g t (λ o. z _)) f.6)
  tell_actuals n d s v fs sub w ks (CompositeInOut formal at from x subtype rest) h u g f =
      (f.0, f.1, f.2, f.3, f.4, tell_select program shown globals mains c lent told homes standings gives n d s v x h u.4 (λ t z. g t (λ o. kept_actuals t d rest _ (z o))) f.5, tell_actuals n d s v u.0 sub w f.1 rest h u.5 (λ t z. g t (λ o. z _)) f.6)
  tell_actuals n d s v fs sub w ks (CompositeOut formal at from x subtype rest) h u g f =
      (f.0, f.1, f.2, f.3, f.4, tell_select program shown globals mains c lent told homes standings gives n d s v x h u.4 (λ t z. g t (λ o. kept_actuals t d rest _ (z o))) f.5, tell_actuals n d s v u.0 sub w f.1 rest h u.5 (λ t z. g t (λ o. z _)) f.6)

  tell_pieces : (n d : ℕ) (s : Sight) (v : Around) (x : Pieces) → Places homes d s → ScopedPieces program shown v x → S (λ o. pieces_standings d x o) → FittedPieces program globals mains (Told n) s x → FittedPieces program globals mains (Lent n) s x
  unfolding pieces_standings
  tell_pieces n d s v NoPiece h u g f = tt
  tell_pieces n d s v (Text bytes rest) h u g f = (f.0, tell_pieces n d s v rest h u g f.1)
  tell_pieces n d s v (Image class e rest) h u g f = (tell program shown globals mains c lent told homes standings gives n d s v e h u.0 (λ t z. g t (λ o. kept_pieces t d rest _ (z o))) f.0, tell_pieces n d (taking 1 s) v rest h u.1 (λ t z. g t (λ o. z _)) f.1)
  tell_pieces n d s v (Padded class e (Static at value literal mentions) rest) h u g f =
      (tell program shown globals mains c lent told homes standings gives n d s v e h u.0 (λ t z. g t (λ o. kept_pieces t d rest _ (z o))) f.0, tell_pieces n d (taking 1 s) v rest h u.2 (λ t z. g t (λ o. z _)) f.1)
  tell_pieces n d s v (Padded class e most rest) h u g f = absurd f

  -- an object that is declared in the own frame
  here : (d m x cells : ℕ) (s : Sight) → s.scope.free ≡ m → Among (record { object = x; main = false; depth = d; cell = m; cells = cells }) homes → (y : ℕ) → ◌≡◌ {A = Entity} (VariableOf x) (VariableOf y) → IsPlaced homes d y (record { through = false; place = own s.scope.free; cells = cells })
  here d m x cells s e i y same =
      subst (λ y. IsPlaced homes d y (record { through = false; place = own s.scope.free; cells = cells })) (same_variable same)
      (subst (λ z. IsPlaced homes d x (record { through = false; place = record { level = Own; cell = z }; cells = cells })) (sym e) (own_placed homes d x m cells i))

  tell_decls : (n d m : ℕ) (s : Sight) (v : Around) (x : Decls) (does : Around → Type 0) (old new : Sight → Type 0) → s.scope.free ≡ m → Places homes d s → ScopedDecls program shown v x does → S (λ o. decls_standings d x o) → Lies (λ o. decl_homes program false d m x o)
      → ((j : Sight) (u : Around) → j.scope.free ≡ behind program m x → Places homes d j → does u → old j → new j) → FittedDecls program globals mains (Told n) s x old → FittedDecls program globals mains (Lent n) s x new
  unfolding decls_standings
  tell_decls n d m s v NoDecl does old new e h u g l next f = next s v e h u f
  tell_decls n d m s v (DeclareDefault x more) does old new e h u g l next f =
      let cells = length (object_layout program x) in
      let t0 : Home = record { object = x; main = false; depth = d; cell = m; cells = cells } in (
        f.0,
        f.1,
        f.2,
        tell_decls n d (m + cells) (object_here s (VariableOf x) cells) (scopes.with_object (VariableOf x) v) more does old new (ap (λ z. z + cells) e)
            (places_object homes (VariableOf x) (record { through = false; place = own s.scope.free; cells = cells }) (λ y same. here d m x cells s e (l t0 (λ o. home_decls program t0 false d (m + cells) more _ (among_last t0 o))) y same) h) u.1 g (λ t z. l t (λ o. z _)) next f.3,
      )
  tell_decls n d m s v (DeclareVariable x initial more) does old new e h u g l next f =
      let cells = width program initial in
      let t0 : Home = record { object = x; main = false; depth = d; cell = m; cells = cells } in (
        f.0,
        f.1,
        tell_value program shown globals mains c lent told homes standings gives n d (taking cells s) v _ cells initial h u.1 (λ t z. g t (λ o. kept_decls t d more _ (z o))) f.2,
        tell_decls n d (m + cells) (object_here s (VariableOf x) cells) (scopes.with_object (VariableOf x) v) more does old new (ap (λ z. z + cells) e)
            (places_object homes (VariableOf x) (record { through = false; place = own s.scope.free; cells = cells }) (λ y same. here d m x cells s e (l t0 (λ o. home_decls program t0 false d (m + cells) more _ (among_last t0 o))) y same) h) u.2 (λ t z. g t (λ o. z _)) (λ t z. l t (λ o. z _)) next f.3,
      )
  tell_decls n d m s v (DeclareConstant x initial more) does old new e h u g l next f =
      let cells = width program initial in (
        f.0,
        f.1,
        tell_value program shown globals mains c lent told homes standings gives n d (taking cells s) v _ cells initial h u.1 (λ t z. g t (λ o. kept_decls t d more _ (z o))) f.2,
        tell_decls n d (m + cells) (object_here s (ConstantOf x) cells) (scopes.with_object (ConstantOf x) v) more does old new (ap (λ z. z + cells) e)
            (places_object homes (ConstantOf x) (record { through = false; place = own s.scope.free; cells = cells }) (λ y same. absurd (no_variable same)) h) u.2 (λ t z. g t (λ o. z _)) l next f.3,
      )
  tell_decls n d m s v (Mentions es more) does old new e h u g l next f = tell_decls n d m s v more does old new e h u.1 g l next f

  tell_count : (n d : ℕ) (s : Sight) (v : Around) (x : Optional) → Places homes d s → ScopedOptional program shown v x → S (λ o. optional_standings d x o) → FittedCount program globals mains (Told n) s x → FittedCount program globals mains (Lent n) s x
  unfolding expr_standings
  tell_count n d s v Absent h u g f = tt
  tell_count n d s v (Present e) h u g f = tell program shown globals mains c lent told homes standings gives n d (taking 1 s) v e h u g f

  mutual
    unfolding stmt_standings stmt_homes expr_standings

    pub tell_stmt : (n d m : ℕ) (s : Sight) (v : Around) (x : Stmt) → s.scope.free ≡ m → Places homes d s → ScopedStmt program shown v x → S (λ o. stmt_standings d x o) → Lies (λ o. stmt_homes program d m x o) → FittedStmt program globals mains (Told n) (ToldForks n) s x → FittedStmt program globals mains (Lent n) (LentForks n) s x
    tell_stmt n d m s v Null e h u g l f = tt
    tell_stmt n d m s v (Assign at from x (Number check i)) e h u g l f = (
      f.0,
      f.1,
      f.2,
      tell_select program shown globals mains c lent told homes standings gives n d s v x h u.1 (λ t z. g t (λ o. kept_value t d (Number check i) _ (z o))) f.3,
      tell_target n d s (scopes.with_target u.2.0 v) (is_whole x && not f.0.through) f.0 i h u.2.1.1 (λ t z. g t (λ o. z _)) f.4,
    )
    tell_stmt n d m s v (Assign at from x (Cells value)) e h u g l f = (
      f.0,
      tell_select program shown globals mains c lent told homes standings gives n d s v x h u.1 (λ t z. g t (λ o. kept_value t d (Cells value) _ (z o))) f.1,
      f.2,
      tell_composite program shown globals mains c lent told homes standings gives n d (with_target (record { through = true; place = own s.scope.free; cells = composite_width program value }) (taking (composite_width program value) (taking 1 s))) (scopes.with_target u.2.0 v) u.2.0 (composite_width program value) value
          h u.2.1 (λ t z. g t (λ o. z _)) f.3,
    )
    tell_stmt n d m s v (CallProcedure at callee sub actuals) e h u g l f = (f.0, f.1, f.2, f.3, tell_actuals n d (passing program sub s) v _ sub s.scope.free _ actuals h u.2 g f.4)
    tell_stmt n d m s v (Exit loop condition) e h u g l f = (f.0, tell_optional program shown globals mains c lent told homes standings gives n d s v condition h u g f.1)
    tell_stmt n d m s v Return e h u g l f = tt
    tell_stmt n d m s v (ReturnValue (Number check i)) e h u g l f = tell program shown globals mains c lent told homes standings gives n d s v i h u g f
    tell_stmt n d m s v (ReturnValue (Cells value)) e h u g l f = absurd f
    tell_stmt n d m s v (Raise reason) e h u g l f = tt
    tell_stmt n d m s v Reraise e h u g l f = f
    tell_stmt n d m s v (IfThen condition stmts otherwise) e h u g l f = (
      tell program shown globals mains c lent told homes standings gives n d s v condition h u.0 (λ t z. g t (λ o. kept_all t d otherwise _ (kept_all t d stmts _ (z o)))) f.0,
      tell_all n d m s v stmts e h u.1 (λ t z. g t (λ o. kept_all t d otherwise _ (z _))) (λ t z. l t (λ o. home_all program t d m otherwise _ (z o))) f.1,
      tell_all n d m s v otherwise e h u.2 (λ t z. g t (λ o. z _)) (λ t z. l t (λ o. z _)) f.2,
    )
    tell_stmt n d m s v (Case i alternatives) e h u g l f =
        (f.0, tell program shown globals mains c lent told homes standings gives n d s v i h u.0 (λ t z. g t (λ o. kept_cases t d alternatives _ (z o))) f.1, tell_cases n d (m + 1) (taking 1 s) v alternatives (ap (λ z. z + 1) e) h u.1 (λ t z. g t (λ o. z _)) l f.2)
    tell_stmt n d m s v (Loop number condition stmts) e h u g l f =
        (tell_optional program shown globals mains c lent told homes standings gives n d s v condition h u.0 (λ t z. g t (λ o. kept_all t d stmts _ (z o))) f.0, λ to. tell_all n d m (with_exit number to s) v stmts e h u.1 (λ t z. g t (λ o. z _)) l (f.1 to))
    tell_stmt n d m s v (For number (Range q reverse low high check filter) stmts) e h u g l f = (
      f.0,
      tell program shown globals mains c lent told homes standings gives n d s v low h u.0 (λ t z. g t (λ o. kept_all t d stmts _ (kept_optional t d filter _ (kept_expr t d high _ (z o))))) f.1,
      tell program shown globals mains c lent told homes standings gives n d (taking 1 s) v high h u.1 (λ t z. g t (λ o. kept_all t d stmts _ (kept_optional t d filter _ (z _)))) f.2,
      λ exit. (
        tell_optional program shown globals mains c lent told homes standings gives n d (range_sight s (Some number) q reverse exit) (with_parameter q v) filter h u.2 (λ t z. g t (λ o. kept_all t d stmts _ (z _))) (f.3 exit).0,
        tell_all n d (m + 2) (range_sight s (Some number) q reverse exit) (with_parameter q v) stmts (ap (λ z. z + 2) e) h u.3 (λ t z. g t (λ o. z _)) l (f.3 exit).1,
      ),
    )
    tell_stmt n d m s v (For number (Components q constant b from x many stride dimensions filter) stmts) e h u g l f = (
      f.0,
      f.1,
      tell_select program shown globals mains c lent told homes standings gives n d s v x h u.2 (λ t z. g t (λ o. kept_all t d stmts _ (kept_optional t d filter _ (z o)))) f.2,
      λ exit. (
        tell_optional program shown globals mains c lent told homes standings gives n d (item_sight s (Some number) constant q stride exit) v filter h u.3 (λ t z. g t (λ o. kept_all t d stmts _ (z _))) (f.3 exit).0,
        tell_all n d (m + 3) (item_sight s (Some number) constant q stride exit) v stmts (ap (λ z. z + 3) e) h u.4 (λ t z. g t (λ o. z _)) l (f.3 exit).1,
      ),
    )
    tell_stmt zero d m s v (ParallelFor number site chunk iteration stmts) e h u g l f = absurd f
    tell_stmt (suc n) d m s v (ParallelFor number site chunk (Range q true low high check filter) stmts) e h u g l f = absurd f
    tell_stmt (suc n) d m s v (ParallelFor number site chunk (Range q false low high check filter) stmts) e h u g l f =
        let it : Iteration = Range q false low high check filter in
        let cs = f.0 in
        let around : Sight = thread_sight site cs.frame (taking 2 (taking 2 s)) in
        let there : Sight = turn_sight around chunk it in
        let sees : Places homes (d + 1) there = places_turn homes chunk it (d + 1) around (places_thread homes h) in
        let t0 : Standing = record { site = site; depth = d; ranges = true } in (
          cs,
          f.1,
          gives false d s site cs (g t0 (λ o. kept_all t0 (d + 1) stmts _ (kept_iteration t0 d (d + 1) it _ (kept_chunk t0 d chunk _ (among_last t0 o))))) h f.2,
          f.3,
          f.4,
          tell_chunk program shown globals mains c lent told homes standings gives n d (nested_sight s) v chunk h u.0 (λ t z. g t (λ o. kept_all t (d + 1) stmts _ (kept_iteration t d (d + 1) it _ (z _)))) f.5,
          tell program shown globals mains c lent told homes standings gives n d (taking 2 (nested_sight s)) v low h u.2.0 (λ t z. g t (λ o. kept_all t (d + 1) stmts _ (kept_optional t (d + 1) filter _ (kept_expr t d high _ (z _))))) f.6,
          tell program shown globals mains c lent told homes standings gives n d (taking 1 (taking 2 (nested_sight s))) v high h u.2.1 (λ t z. g t (λ o. kept_all t (d + 1) stmts _ (kept_optional t (d + 1) filter _ (z _)))) f.7,
          f.8,
          f.9,
          f.10,
          f.11,
          tell_optional program shown globals mains c lent told homes standings gives n (d + 1) there (with_parameter q (with_chunk chunk v)) filter sees u.2.2 (λ t z. g t (λ o. kept_all t (d + 1) stmts _ (z _))) f.12,
          tell_all n (d + 1) (2 + turn_cells it) (with_outside (number ∷ f.8) there) (with_parameter q (with_chunk chunk v)) stmts (turn_free chunk it site cs.frame (taking 2 (taking 2 s))) sees u.2.3 (λ t z. g t (λ o. z _)) l f.13,
        )
    tell_stmt (suc n) d m s v (ParallelFor number site chunk (Components q constant b from x many stride dimensions filter) stmts) e h u g l f =
        let it : Iteration = Components q constant b from x many stride dimensions filter in
        let cs = f.0 in
        let around : Sight = thread_sight site cs.frame (taking 2 (taking 2 s)) in
        let there : Sight = turn_sight around chunk it in
        let sees : Places homes (d + 1) there = places_turn homes chunk it (d + 1) around (places_thread homes h) in
        let t0 : Standing = record { site = site; depth = d; ranges = false } in (
          cs,
          f.1,
          gives true d s site cs (g t0 (λ o. kept_all t0 (d + 1) stmts _ (kept_iteration t0 d (d + 1) it _ (kept_chunk t0 d chunk _ (among_last t0 o))))) h f.2,
          f.3,
          f.4,
          f.5,
          tell_chunk program shown globals mains c lent told homes standings gives n d (nested_sight s) v chunk h u.0 (λ t z. g t (λ o. kept_all t (d + 1) stmts _ (kept_iteration t d (d + 1) it _ (z _)))) f.6,
          f.7,
          tell_select program shown globals mains c lent told homes standings gives n d (taking 2 (nested_sight s)) v x h u.2.2 (λ t z. g t (λ o. kept_all t (d + 1) stmts _ (kept_optional t (d + 1) filter _ (z _)))) f.8,
          f.9,
          f.10,
          f.11,
          f.12,
          tell_optional program shown globals mains c lent told homes standings gives n (d + 1) there (with_chunk chunk v) filter sees u.2.3 (λ t z. g t (λ o. kept_all t (d + 1) stmts _ (z _))) f.13,
          tell_all n (d + 1) (2 + turn_cells it) (with_outside (number ∷ f.9) there) (with_chunk chunk v) stmts (turn_free chunk it site cs.frame (taking 2 (taking 2 s))) sees u.2.4 (λ t z. g t (λ o. z _)) l f.14,
        )
    tell_stmt zero d m s v (Parallel site count arms) e h u g l f = absurd f
    tell_stmt (suc n) d m s v (Parallel site count arms) e h u g l f =
        let cs = f.0 in
        let there : Sight = taking 2 (taking 2 (thread_sight site cs.frame (taking 2 s))) in
        let sees : Places homes (d + 1) there = places_thread homes h in
        let t0 : Standing = record { site = site; depth = d; ranges = true } in (
          cs,
          f.1,
          gives false d s site cs (g t0 (λ o. kept_arms t0 (d + 1) arms _ (kept_optional t0 d count _ (among_last t0 o)))) h f.2,
          f.3,
          f.4,
          f.5,
          f.6,
          tell_count n d (nested_sight s) v count h u.0 (λ t z. g t (λ o. kept_arms t (d + 1) arms _ (z _))) f.7,
          f.8,
          f.9,
          f.10,
          f.11,
          tell_arms n (d + 1) 4 (with_outside f.8 there) v arms refl sees u.3 (λ t z. g t (λ o. z _)) l f.12,
        )
    tell_stmt n d m s v (Block decls stmts NoHandler) e h u g l f =
        tell_decls n d m s v decls (λ u. ScopedAll program shown u stmts × ScopedHandlers program shown (scopes.handling u) NoHandler) (λ t. FittedAll program globals mains (Told n) (ToldForks n) t stmts) (λ t. FittedAll program globals mains (Lent n) (LentForks n) t stmts) e h u
        (λ t z. g t (λ o. kept_all t d stmts _ (z o))) (λ t z. l t (λ o. home_all program t d (behind program m decls) stmts _ (z o)))
        (λ j w e' see q f'. tell_all n d (behind program m decls) j w stmts e' see q.0 (λ t z. g t (λ o. z _)) (λ t z. l t (λ o. z _)) f') f
    tell_stmt n d m s v (Block decls stmts (Handler handled first rest)) e h u g l f =
        tell_decls n d m s v decls (λ u. ScopedAll program shown u stmts × ScopedHandlers program shown (scopes.handling u) (Handler handled first rest))
        (λ t. (t.scope.free < t.cells) × ((e : ℕ) → FittedAll program globals mains (Told n) (ToldForks n) (with_entry e t) stmts) × FittedAll program globals mains (Told n) (ToldForks n) (with_handled (own t.scope.free) (taking 1 t)) first × FittedHandlers program globals mains (Told n) (ToldForks n) (with_handled (own t.scope.free) (taking 1 t)) rest)
        (λ t. (t.scope.free < t.cells) × ((e : ℕ) → FittedAll program globals mains (Lent n) (LentForks n) (with_entry e t) stmts) × FittedAll program globals mains (Lent n) (LentForks n) (with_handled (own t.scope.free) (taking 1 t)) first × FittedHandlers program globals mains (Lent n) (LentForks n) (with_handled (own t.scope.free) (taking 1 t)) rest)
        e h u (λ t z. g t (λ o. kept_handlers t d (Handler handled first rest) _ (kept_all t d stmts _ (z o))))
        (λ t z. l t (λ o. home_handlers program t d (behind program m decls + 1) (Handler handled first rest) _ (home_all program t d (behind program m decls) stmts _ (z o))))
        (λ j w e' see q f'. (
          f'.0,
          (λ i. tell_all n d (behind program m decls) (with_entry i j) w stmts e' see q.0 (λ t z. g t (λ o. kept_handlers t d (Handler handled first rest) _ (z _))) (λ t z. l t (λ o. home_handlers program t d (behind program m decls + 1) (Handler handled first rest) _ (z _))) (f'.1 i)),
          tell_all n d (behind program m decls + 1) (with_handled (own j.scope.free) (taking 1 j)) (scopes.handling w) first (ap (λ z. z + 1) e') see q.1.1 (λ t z. g t (λ o. kept_handlers t d rest _ (z _))) (λ t z. l t (λ o. home_handlers program t d (behind program m decls + 1) rest _ (z _))) f'.2,
          tell_handlers n d (behind program m decls + 1) (with_handled (own j.scope.free) (taking 1 j)) (scopes.handling w) rest (ap (λ z. z + 1) e') see q.1.2 (λ t z. g t (λ o. z _)) (λ t z. l t (λ o. z _)) f'.3,
        )) f
    tell_stmt n d m s v (Put at callee pieces line) e h u g l f = (f.0, tell_pieces n d s v pieces h u g f.1)
    tell_stmt n d m s v (Get at callee first from x scalar) e h u g l f = (f.0, tell_select program shown globals mains c lent told homes standings gives n d s v x h u.1 g f.1)

    tell_all : (n d m : ℕ) (s : Sight) (v : Around) (x : Stmts) → s.scope.free ≡ m → Places homes d s → ScopedAll program shown v x → S (λ o. stmts_standings d x o) → Lies (λ o. stmts_homes program d m x o) → FittedAll program globals mains (Told n) (ToldForks n) s x → FittedAll program globals mains (Lent n) (LentForks n) s x
    tell_all n d m s v End e h u g l f = tt
    tell_all n d m s v (Then first more) e h u g l f = (
      tell_stmt n d m s v first e h u.0 (λ t z. g t (λ o. kept_all t d more _ (z o))) (λ t z. l t (λ o. home_all program t d m more _ (z o))) f.0,
      tell_all n d m s v more e h u.1 (λ t z. g t (λ o. z _)) (λ t z. l t (λ o. z _)) f.1,
    )

    tell_cases : (n d m : ℕ) (s : Sight) (v : Around) (x : Alternatives) → s.scope.free ≡ m → Places homes d s → ScopedAlternatives program shown v x → S (λ o. case_standings d x o) → Lies (λ o. case_homes program d m x o) → FittedAlternatives program globals mains (Told n) (ToldForks n) s x → FittedAlternatives program globals mains (Lent n) (LentForks n) s x
    tell_cases n d m s v NoAlternative e h u g l f = tt
    tell_cases n d m s v (Alternative others choices mentions stmts rest) e h u g l f = (
      tell_all n d m s v stmts e h u.2 (λ t z. g t (λ o. kept_cases t d rest _ (z o))) (λ t z. l t (λ o. home_cases program t d m rest _ (z o))) f.0,
      tell_cases n d m s v rest e h u.3 (λ t z. g t (λ o. z _)) (λ t z. l t (λ o. z _)) f.1,
    )

    tell_arms : (n d m : ℕ) (s : Sight) (v : Around) (x : Arms) → s.scope.free ≡ m → Places homes d s → ScopedArms program shown v x → S (λ o. arm_standings d x o) → Lies (λ o. arm_homes program d m x o) → FittedArms program globals mains (Told n) (ToldForks n) s x → FittedArms program globals mains (Lent n) (LentForks n) s x
    tell_arms n d m s v NoArm e h u g l f = tt
    tell_arms n d m s v (Arm stmts rest) e h u g l f = (
      tell_all n d m s v stmts e h u.0 (λ t z. g t (λ o. kept_arms t d rest _ (z o))) (λ t z. l t (λ o. home_arms program t d m rest _ (z o))) f.0,
      tell_arms n d m s v rest e h u.1 (λ t z. g t (λ o. z _)) (λ t z. l t (λ o. z _)) f.1,
    )

    tell_handlers : (n d m : ℕ) (s : Sight) (v : Around) (x : Handlers) → s.scope.free ≡ m → Places homes d s → ScopedHandlers program shown v x → S (λ o. handler_standings d x o) → Lies (λ o. handler_homes program d m x o) → FittedHandlers program globals mains (Told n) (ToldForks n) s x → FittedHandlers program globals mains (Lent n) (LentForks n) s x
    tell_handlers n d m s v NoHandler e h u g l f = tt
    tell_handlers n d m s v (Handler handled stmts rest) e h u g l f = (
      tell_all n d m s v stmts e h u.1 (λ t z. g t (λ o. kept_handlers t d rest _ (z o))) (λ t z. l t (λ o. home_handlers program t d m rest _ (z o))) f.0,
      tell_handlers n d m s v rest e h u.2 (λ t z. g t (λ o. z _)) (λ t z. l t (λ o. z _)) f.1,
    )
