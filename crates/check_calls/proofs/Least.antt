-- What is found is the least of the calls that break the rule on nonblocking text.
use Rattle.std.proofs.Common.{◌≡◌, ◌<◌, ◌≤◌, ℕ, List, [], ◌∷◌, Option, Some, None, inl, inr, ◌⊎◌, Bool, true, false, not, ◌&&◌, ◌||◌, cond, refl, sym, subst, arith}
use Rattle.std.proofs.lemmas.Bool.Decides.{nat_tests}
use Rattle.typed_tree.specs.declared.expressions.Reducer.{Reducer}
use Rattle.typed_tree.specs.declared.expressions.Reducer.TheVariants.{Operator, Function}
use Rattle.typed_tree.specs.Syntax.{Expr, Static, Variable, Constant, Parameter, Target, Group, Unary, Binary, AndThen, OrElse, Relation, Membership, If, Call, Convert, Reduction, Exprs, NoExpr, AlsoExpr, Optional, Absent, Present, Selections, Whole, Field, Index, Actuals, NoActual, In, InOut, Out, CompositeInOut, CompositeOut, Value, Number, Cells, Composite, WholeVariable, WholeConstant, WholeTarget, CompositeIf, Aggregate, Associations, NoAssociation, Association, Iteration, Range, Components, Chunk, NoChunk, Count, Each, Pieces, NoPiece, Text, Image, Padded, Decls, NoDecl, DeclareDefault, DeclareVariable, DeclareConstant, Mentions, Stmt, Null, Assign, CallProcedure, Exit, Return, ReturnValue, Raise, Reraise, IfThen, Case, Loop, For, ParallelFor, Parallel, Block, Put, Get, Stmts, End, Then, Alternatives, NoAlternative, Alternative, Arms, NoArm, Arm, Handlers, NoHandler, Handler, Body, Sub, Program}
use Rattle.ada_meaning.specs.Nonblocking.{InSite, nonblocking_of}
use Rattle.ada_meaning.specs.Blocked.{BlockedCall, BlockedReducer, BlockedExpr, BlockedExprs, BlockedOptional, BlockedSelections, BlockedActuals, BlockedValue, BlockedComposite, BlockedAssociations, BlockedIteration, BlockedChunk, BlockedPieces, BlockedDecls, BlockedStmt, BlockedAll, BlockedAlternatives, BlockedArms, BlockedHandlers, BlockedBody, BlockedSubs, Blocked}
use Rattle.check_calls.specs.declared.calls.Breach.{Breach}
use Rattle.check_calls.specs.First.{least, is_before, first_port, first_call, first_reducer, first_expr, first_exprs, first_optional, first_selections, first_actuals, first_value, first_composite, first_associations, first_iteration, first_chunk, first_pieces, first_decls, first_stmt, first_stmts, first_alternatives, first_arms, first_handlers, first_body, first_subs, first_of}

-- what is found is no later than a call with these tokens
abbrev pub AtMost : Option Breach → ℕ → ℕ → Type 0
AtMost None t l = ⊥
AtMost (Some c) t l = (c.at < t) ⊎ ((c.at ≡ t) × (c.callee ≤ l))

-- what is found is one of these calls, if anything is
abbrev pub Told : (ℕ → ℕ → Type 0) → Option Breach → Type 0
Told P None = Unit {0}
Told P (Some c) = P c.at c.callee

-- ---- one call

kept_if : (before : Bool) (c d : Breach) (t l : ℕ) → is_before c d ≡ before → AtMost (Some d) t l → AtMost (cond before (Some c) (Some d)) t l
kept_if true c d t l e h = grind (arith, nat_tests)
kept_if false c d t l e h = h

kept_least : (c : Breach) (found : Option Breach) (t l : ℕ) → AtMost found t l → AtMost (least c found) t l
kept_least c None t l h = absurd h
kept_least c (Some d) t l h = kept_if (is_before c d) c d t l refl h

reached_if : (before : Bool) (c d : Breach) → is_before c d ≡ before → AtMost (cond before (Some c) (Some d)) c.at c.callee
reached_if true c d e = grind (arith, nat_tests)
reached_if false c d e = grind (arith, nat_tests)

reached_least : (c : Breach) (found : Option Breach) → AtMost (least c found) c.at c.callee
reached_least c None = grind arith
reached_least c (Some d) = reached_if (is_before c d) c d refl

told_if : (before : Bool) (c d : Breach) (P : ℕ → ℕ → Type 0) → P c.at c.callee → P d.at d.callee → Told P (cond before (Some c) (Some d))
told_if true c d P p q = p
told_if false c d P p q = q

told_least : (c : Breach) (found : Option Breach) (P : ℕ → ℕ → Type 0) → P c.at c.callee → Told P found → Told P (least c found)
told_least c None P p h = p
told_least c (Some d) P p h = told_if (is_before c d) c d P p h

kept_port : (b : Bool) (at callee : ℕ) (found : Option Breach) (t l : ℕ) → AtMost found t l → AtMost (first_port b at callee found) t l
kept_port true at callee found t l h = h
kept_port false at callee found t l h = kept_least (record { at = at; callee = callee }) found t l h

reached_port : (b : Bool) (at callee : ℕ) (found : Option Breach) (t l : ℕ) → (b ≡ false) × (t ≡ at) × (l ≡ callee) → AtMost (first_port b at callee found) t l
reached_port true at callee found t l h = cc
reached_port false at callee found t l h = subst (λ t. AtMost (first_port false at callee found) t l) (sym h.1) (subst (λ l. AtMost (first_port false at callee found) at l) (sym h.2) (reached_least (record { at = at; callee = callee }) found))

stated_port : (b : Bool) (at callee : ℕ) (found : Option Breach) (P : ℕ → ℕ → Type 0) → ((t l : ℕ) → (b ≡ false) × (t ≡ at) × (l ≡ callee) → P t l) → Told P found → Told P (first_port b at callee found)
stated_port true at callee found P given h = h
stated_port false at callee found P given h = told_least (record { at = at; callee = callee }) found P (given at callee (refl, refl, refl)) h

neither : (a b : Bool) → (a || b) ≡ false → (a ≡ false) × (b ≡ false)
neither true b e = cc
neither false b e = (refl, e)

none_of : (a b : Bool) → a ≡ false → b ≡ false → (a || b) ≡ false
none_of true b e f = cc
none_of false b e f = f

module _ (nonblocking : ℕ → Bool) where
  kept_call : (b : Bool) (s at callee : ℕ) (found : Option Breach) (t l : ℕ) → AtMost found t l → AtMost (first_call nonblocking b s at callee found) t l
  kept_call b s at callee found t l h = kept_port (b || nonblocking s) at callee found t l h

  reached_call : (b : Bool) (s at callee : ℕ) (found : Option Breach) (t l : ℕ) → BlockedCall nonblocking b s at callee t l → AtMost (first_call nonblocking b s at callee found) t l
  reached_call b s at callee found t l h = reached_port (b || nonblocking s) at callee found t l (none_of b (nonblocking s) h.0 h.1, h.2, h.3)

  stated_call : (b : Bool) (s at callee : ℕ) (found : Option Breach) (P : ℕ → ℕ → Type 0) → ((t l : ℕ) → BlockedCall nonblocking b s at callee t l → P t l) → Told P found → Told P (first_call nonblocking b s at callee found)
  stated_call b s at callee found P given h = stated_port (b || nonblocking s) at callee found P (λ t l x. given t l ((neither b (nonblocking s) x.0).0, (neither b (nonblocking s) x.0).1, x.1, x.2)) h

  kept_reducer : (b : Bool) (by : Reducer) (found : Option Breach) (t l : ℕ) → AtMost found t l → AtMost (first_reducer nonblocking b by found) t l
  kept_reducer b (Operator at op class) found t l h = h
  kept_reducer b (Function at s accumulator value) found t l h = kept_call b s at at found t l h

  reached_reducer : (b : Bool) (by : Reducer) (found : Option Breach) (t l : ℕ) → BlockedReducer nonblocking b by t l → AtMost (first_reducer nonblocking b by found) t l
  reached_reducer b (Operator at op class) found t l h = absurd h
  reached_reducer b (Function at s accumulator value) found t l h = reached_call b s at at found t l h

  stated_reducer : (b : Bool) (by : Reducer) (found : Option Breach) (P : ℕ → ℕ → Type 0) → ((t l : ℕ) → BlockedReducer nonblocking b by t l → P t l) → Told P found → Told P (first_reducer nonblocking b by found)
  stated_reducer b (Operator at op class) found P given h = h
  stated_reducer b (Function at s accumulator value) found P given h = stated_call b s at at found P given h

  mutual
    unfolding first_expr first_exprs first_optional first_selections first_actuals first_value first_composite first_associations first_iteration first_chunk

    pub kept_expr : (x : Expr) (b : Bool) (found : Option Breach) (t l : ℕ) → AtMost found t l → AtMost (first_expr nonblocking x b found) t l
    kept_expr (Static at value literal mentions) b found t l h = kept_exprs mentions b found t l h
    kept_expr (Variable at r selections scalar) b found t l h = kept_selections selections b found t l h
    kept_expr (Constant at r selections scalar) b found t l h = kept_selections selections b found t l h
    kept_expr (Parameter at k) b found t l h = h
    kept_expr (Target at scalar) b found t l h = h
    kept_expr (Group e) b found t l h = kept_expr e b found t l h
    kept_expr (Unary at s class e) b found t l h = kept_expr e b found t l h
    kept_expr (Binary at op class e f) b found t l h = kept_expr e b (first_expr nonblocking f b found) t l (kept_expr f b found t l h)
    kept_expr (AndThen e f) b found t l h = kept_expr e b (first_expr nonblocking f b found) t l (kept_expr f b found t l h)
    kept_expr (OrElse e f) b found t l h = kept_expr e b (first_expr nonblocking f b found) t l (kept_expr f b found t l h)
    kept_expr (Relation class comparison e f) b found t l h = kept_expr e b (first_expr nonblocking f b found) t l (kept_expr f b found t l h)
    kept_expr (Membership class negated e low high) b found t l h = kept_expr high b (first_expr nonblocking low b (first_expr nonblocking e b found)) t l (kept_expr low b (first_expr nonblocking e b found) t l (kept_expr e b found t l h))
    kept_expr (If condition value otherwise) b found t l h = kept_expr otherwise b (first_expr nonblocking value b (first_expr nonblocking condition b found)) t l (kept_expr value b (first_expr nonblocking condition b found) t l (kept_expr condition b found t l h))
    kept_expr (Call at callee s actuals) b found t l h = kept_actuals actuals b (first_call nonblocking b s at callee found) t l (kept_call b s at callee found t l h)
    kept_expr (Convert check e) b found t l h = kept_expr e b found t l h
    kept_expr (Reduction at attribute by initial site chunk iteration value) b found t l h = kept_expr value (InSite nonblocking b site) (first_iteration nonblocking iteration (InSite nonblocking b site) (first_chunk nonblocking chunk (InSite nonblocking b site) (first_expr nonblocking initial b (first_reducer nonblocking (InSite nonblocking b site) by (first_reducer nonblocking b by found))))) t l (kept_iteration iteration (InSite nonblocking b site) (first_chunk nonblocking chunk (InSite nonblocking b site) (first_expr nonblocking initial b (first_reducer nonblocking (InSite nonblocking b site) by (first_reducer nonblocking b by found)))) t l (kept_chunk chunk (InSite nonblocking b site) (first_expr nonblocking initial b (first_reducer nonblocking (InSite nonblocking b site) by (first_reducer nonblocking b by found))) t l (kept_expr initial b (first_reducer nonblocking (InSite nonblocking b site) by (first_reducer nonblocking b by found)) t l (kept_reducer (InSite nonblocking b site) by (first_reducer nonblocking b by found) t l (kept_reducer b by found t l h)))))

    pub kept_exprs : (x : Exprs) (b : Bool) (found : Option Breach) (t l : ℕ) → AtMost found t l → AtMost (first_exprs nonblocking x b found) t l
    kept_exprs NoExpr b found t l h = h
    kept_exprs (AlsoExpr e es) b found t l h = kept_exprs es b (first_expr nonblocking e b found) t l (kept_expr e b found t l h)

    pub kept_optional : (x : Optional) (b : Bool) (found : Option Breach) (t l : ℕ) → AtMost found t l → AtMost (first_optional nonblocking x b found) t l
    kept_optional Absent b found t l h = h
    kept_optional (Present e) b found t l h = kept_expr e b found t l h

    pub kept_selections : (x : Selections) (b : Bool) (found : Option Breach) (t l : ℕ) → AtMost found t l → AtMost (first_selections nonblocking x b found) t l
    kept_selections Whole b found t l h = h
    kept_selections (Field number offset rest) b found t l h = kept_selections rest b found t l h
    kept_selections (Index at e low high stride rest) b found t l h = kept_selections rest b (first_expr nonblocking e b found) t l (kept_expr e b found t l h)

    pub kept_actuals : (x : Actuals) (b : Bool) (found : Option Breach) (t l : ℕ) → AtMost found t l → AtMost (first_actuals nonblocking x b found) t l
    kept_actuals NoActual b found t l h = h
    kept_actuals (In formal value rest) b found t l h = kept_actuals rest b (first_value nonblocking value b found) t l (kept_value value b found t l h)
    kept_actuals (InOut formal at r selections inner outer rest) b found t l h = kept_actuals rest b (first_selections nonblocking selections b found) t l (kept_selections selections b found t l h)
    kept_actuals (Out formal at r selections inner outer rest) b found t l h = kept_actuals rest b (first_selections nonblocking selections b found) t l (kept_selections selections b found t l h)
    kept_actuals (CompositeInOut formal at r selections subtype rest) b found t l h = kept_actuals rest b (first_selections nonblocking selections b found) t l (kept_selections selections b found t l h)
    kept_actuals (CompositeOut formal at r selections subtype rest) b found t l h = kept_actuals rest b (first_selections nonblocking selections b found) t l (kept_selections selections b found t l h)

    pub kept_value : (x : Value) (b : Bool) (found : Option Breach) (t l : ℕ) → AtMost found t l → AtMost (first_value nonblocking x b found) t l
    kept_value (Number check e) b found t l h = kept_expr e b found t l h
    kept_value (Cells c) b found t l h = kept_composite c b found t l h

    pub kept_composite : (x : Composite) (b : Bool) (found : Option Breach) (t l : ℕ) → AtMost found t l → AtMost (first_composite nonblocking x b found) t l
    kept_composite (WholeVariable at r selections subtype) b found t l h = kept_selections selections b found t l h
    kept_composite (WholeConstant at r selections subtype) b found t l h = kept_selections selections b found t l h
    kept_composite (WholeTarget at subtype) b found t l h = h
    kept_composite (CompositeIf condition value otherwise) b found t l h = kept_composite otherwise b (first_composite nonblocking value b (first_expr nonblocking condition b found)) t l (kept_composite value b (first_expr nonblocking condition b found) t l (kept_expr condition b found t l h))
    kept_composite (Aggregate at size associations) b found t l h = kept_associations associations b found t l h

    pub kept_associations : (x : Associations) (b : Bool) (found : Option Breach) (t l : ℕ) → AtMost found t l → AtMost (first_associations nonblocking x b found) t l
    kept_associations NoAssociation b found t l h = h
    kept_associations (Association runs iterated mentions value rest) b found t l h = kept_associations rest b (first_value nonblocking value b (first_exprs nonblocking mentions b found)) t l (kept_value value b (first_exprs nonblocking mentions b found) t l (kept_exprs mentions b found t l h))

    pub kept_iteration : (x : Iteration) (b : Bool) (found : Option Breach) (t l : ℕ) → AtMost found t l → AtMost (first_iteration nonblocking x b found) t l
    kept_iteration (Range k reverse low high check filter) b found t l h = kept_optional filter b (first_expr nonblocking high b (first_expr nonblocking low b found)) t l (kept_expr high b (first_expr nonblocking low b found) t l (kept_expr low b found t l h))
    kept_iteration (Components k constant at r selections number stride dimensions filter) b found t l h = kept_optional filter b (first_selections nonblocking selections b found) t l (kept_selections selections b found t l h)

    pub kept_chunk : (x : Chunk) (b : Bool) (found : Option Breach) (t l : ℕ) → AtMost found t l → AtMost (first_chunk nonblocking x b found) t l
    kept_chunk NoChunk b found t l h = h
    kept_chunk (Count e) b found t l h = kept_expr e b found t l h
    kept_chunk (Each k low high check) b found t l h = kept_expr high b (first_expr nonblocking low b found) t l (kept_expr low b found t l h)

  pub kept_pieces : (x : Pieces) (b : Bool) (found : Option Breach) (t l : ℕ) → AtMost found t l → AtMost (first_pieces nonblocking x b found) t l
  unfolding first_pieces
  kept_pieces NoPiece b found t l h = h
  kept_pieces (Text bytes rest) b found t l h = kept_pieces rest b found t l h
  kept_pieces (Image class e rest) b found t l h = kept_pieces rest b (first_expr nonblocking e b found) t l (kept_expr e b found t l h)
  kept_pieces (Padded class e width rest) b found t l h = kept_pieces rest b (first_expr nonblocking width b (first_expr nonblocking e b found)) t l (kept_expr width b (first_expr nonblocking e b found) t l (kept_expr e b found t l h))

  pub kept_decls : (x : Decls) (b : Bool) (found : Option Breach) (t l : ℕ) → AtMost found t l → AtMost (first_decls nonblocking x b found) t l
  unfolding first_decls
  kept_decls NoDecl b found t l h = h
  kept_decls (DeclareDefault x more) b found t l h = kept_decls more b found t l h
  kept_decls (DeclareVariable x initial more) b found t l h = kept_decls more b (first_value nonblocking initial b found) t l (kept_value initial b found t l h)
  kept_decls (DeclareConstant x initial more) b found t l h = kept_decls more b (first_value nonblocking initial b found) t l (kept_value initial b found t l h)
  kept_decls (Mentions es more) b found t l h = kept_decls more b (first_exprs nonblocking es b found) t l (kept_exprs es b found t l h)

  mutual
    unfolding first_stmt first_stmts first_alternatives first_arms first_handlers

    pub kept_stmt : (x : Stmt) (b : Bool) (found : Option Breach) (t l : ℕ) → AtMost found t l → AtMost (first_stmt nonblocking x b found) t l
    kept_stmt Null b found t l h = h
    kept_stmt (Assign at r selections value) b found t l h = kept_value value b (first_selections nonblocking selections b found) t l (kept_selections selections b found t l h)
    kept_stmt (CallProcedure at callee s actuals) b found t l h = kept_actuals actuals b (first_call nonblocking b s at callee found) t l (kept_call b s at callee found t l h)
    kept_stmt (Exit loop condition) b found t l h = kept_optional condition b found t l h
    kept_stmt Return b found t l h = h
    kept_stmt (ReturnValue value) b found t l h = kept_value value b found t l h
    kept_stmt (Raise r) b found t l h = h
    kept_stmt Reraise b found t l h = h
    kept_stmt (IfThen condition stmts otherwise) b found t l h = kept_stmts otherwise b (first_stmts nonblocking stmts b (first_expr nonblocking condition b found)) t l (kept_stmts stmts b (first_expr nonblocking condition b found) t l (kept_expr condition b found t l h))
    kept_stmt (Case e alternatives) b found t l h = kept_alternatives alternatives b (first_expr nonblocking e b found) t l (kept_expr e b found t l h)
    kept_stmt (Loop number condition stmts) b found t l h = kept_stmts stmts b (first_optional nonblocking condition b found) t l (kept_optional condition b found t l h)
    kept_stmt (For number iteration stmts) b found t l h = kept_stmts stmts b (first_iteration nonblocking iteration b found) t l (kept_iteration iteration b found t l h)
    kept_stmt (ParallelFor number site chunk iteration stmts) b found t l h = kept_stmts stmts false (first_iteration nonblocking iteration false (first_chunk nonblocking chunk false found)) t l (kept_iteration iteration false (first_chunk nonblocking chunk false found) t l (kept_chunk chunk false found t l h))
    kept_stmt (Parallel site count arms) b found t l h = kept_arms arms false (first_optional nonblocking count false found) t l (kept_optional count false found t l h)
    kept_stmt (Block decls stmts handlers) b found t l h = kept_handlers handlers b (first_stmts nonblocking stmts b (first_decls nonblocking decls b found)) t l (kept_stmts stmts b (first_decls nonblocking decls b found) t l (kept_decls decls b found t l h))
    kept_stmt (Put at callee pieces line) b found t l h = kept_port b at callee (first_pieces nonblocking pieces b found) t l (kept_pieces pieces b found t l h)
    kept_stmt (Get at callee first r selections scalar) b found t l h = kept_port b at callee (first_selections nonblocking selections b found) t l (kept_selections selections b found t l h)

    pub kept_stmts : (x : Stmts) (b : Bool) (found : Option Breach) (t l : ℕ) → AtMost found t l → AtMost (first_stmts nonblocking x b found) t l
    kept_stmts End b found t l h = h
    kept_stmts (Then s ss) b found t l h = kept_stmts ss b (first_stmt nonblocking s b found) t l (kept_stmt s b found t l h)

    pub kept_alternatives : (x : Alternatives) (b : Bool) (found : Option Breach) (t l : ℕ) → AtMost found t l → AtMost (first_alternatives nonblocking x b found) t l
    kept_alternatives NoAlternative b found t l h = h
    kept_alternatives (Alternative others choices mentions stmts rest) b found t l h = kept_alternatives rest b (first_stmts nonblocking stmts b (first_exprs nonblocking mentions b found)) t l (kept_stmts stmts b (first_exprs nonblocking mentions b found) t l (kept_exprs mentions b found t l h))

    pub kept_arms : (x : Arms) (b : Bool) (found : Option Breach) (t l : ℕ) → AtMost found t l → AtMost (first_arms nonblocking x b found) t l
    kept_arms NoArm b found t l h = h
    kept_arms (Arm stmts rest) b found t l h = kept_arms rest b (first_stmts nonblocking stmts b found) t l (kept_stmts stmts b found t l h)

    pub kept_handlers : (x : Handlers) (b : Bool) (found : Option Breach) (t l : ℕ) → AtMost found t l → AtMost (first_handlers nonblocking x b found) t l
    kept_handlers NoHandler b found t l h = h
    kept_handlers (Handler handled stmts rest) b found t l h = kept_handlers rest b (first_stmts nonblocking stmts b found) t l (kept_stmts stmts b found t l h)

  mutual
    unfolding first_expr first_exprs first_optional first_selections first_actuals first_value first_composite first_associations first_iteration first_chunk

    pub reached_expr : (x : Expr) (b : Bool) (found : Option Breach) (t l : ℕ) → BlockedExpr nonblocking x b t l → AtMost (first_expr nonblocking x b found) t l
    reached_expr (Static at value literal mentions) b found t l h = reached_exprs mentions b found t l h
    reached_expr (Variable at r selections scalar) b found t l h = reached_selections selections b found t l h
    reached_expr (Constant at r selections scalar) b found t l h = reached_selections selections b found t l h
    reached_expr (Parameter at k) b found t l h = absurd h
    reached_expr (Target at scalar) b found t l h = absurd h
    reached_expr (Group e) b found t l h = reached_expr e b found t l h
    reached_expr (Unary at s class e) b found t l h = reached_expr e b found t l h
    reached_expr (Binary at op class e f) b found t l (inl h) = reached_expr e b (first_expr nonblocking f b found) t l h
    reached_expr (Binary at op class e f) b found t l (inr h) = kept_expr e b (first_expr nonblocking f b found) t l (reached_expr f b found t l h)
    reached_expr (AndThen e f) b found t l (inl h) = reached_expr e b (first_expr nonblocking f b found) t l h
    reached_expr (AndThen e f) b found t l (inr h) = kept_expr e b (first_expr nonblocking f b found) t l (reached_expr f b found t l h)
    reached_expr (OrElse e f) b found t l (inl h) = reached_expr e b (first_expr nonblocking f b found) t l h
    reached_expr (OrElse e f) b found t l (inr h) = kept_expr e b (first_expr nonblocking f b found) t l (reached_expr f b found t l h)
    reached_expr (Relation class comparison e f) b found t l (inl h) = reached_expr e b (first_expr nonblocking f b found) t l h
    reached_expr (Relation class comparison e f) b found t l (inr h) = kept_expr e b (first_expr nonblocking f b found) t l (reached_expr f b found t l h)
    reached_expr (Membership class negated e low high) b found t l (inl h) = kept_expr high b (first_expr nonblocking low b (first_expr nonblocking e b found)) t l (kept_expr low b (first_expr nonblocking e b found) t l (reached_expr e b found t l h))
    reached_expr (Membership class negated e low high) b found t l (inr (inl h)) = kept_expr high b (first_expr nonblocking low b (first_expr nonblocking e b found)) t l (reached_expr low b (first_expr nonblocking e b found) t l h)
    reached_expr (Membership class negated e low high) b found t l (inr (inr h)) = reached_expr high b (first_expr nonblocking low b (first_expr nonblocking e b found)) t l h
    reached_expr (If condition value otherwise) b found t l (inl h) = kept_expr otherwise b (first_expr nonblocking value b (first_expr nonblocking condition b found)) t l (kept_expr value b (first_expr nonblocking condition b found) t l (reached_expr condition b found t l h))
    reached_expr (If condition value otherwise) b found t l (inr (inl h)) = kept_expr otherwise b (first_expr nonblocking value b (first_expr nonblocking condition b found)) t l (reached_expr value b (first_expr nonblocking condition b found) t l h)
    reached_expr (If condition value otherwise) b found t l (inr (inr h)) = reached_expr otherwise b (first_expr nonblocking value b (first_expr nonblocking condition b found)) t l h
    reached_expr (Call at callee s actuals) b found t l (inl h) = kept_actuals actuals b (first_call nonblocking b s at callee found) t l (reached_call b s at callee found t l h)
    reached_expr (Call at callee s actuals) b found t l (inr h) = reached_actuals actuals b (first_call nonblocking b s at callee found) t l h
    reached_expr (Convert check e) b found t l h = reached_expr e b found t l h
    reached_expr (Reduction at attribute by initial site chunk iteration value) b found t l (inl h) = kept_expr value (InSite nonblocking b site) (first_iteration nonblocking iteration (InSite nonblocking b site) (first_chunk nonblocking chunk (InSite nonblocking b site) (first_expr nonblocking initial b (first_reducer nonblocking (InSite nonblocking b site) by (first_reducer nonblocking b by found))))) t l (kept_iteration iteration (InSite nonblocking b site) (first_chunk nonblocking chunk (InSite nonblocking b site) (first_expr nonblocking initial b (first_reducer nonblocking (InSite nonblocking b site) by (first_reducer nonblocking b by found)))) t l (kept_chunk chunk (InSite nonblocking b site) (first_expr nonblocking initial b (first_reducer nonblocking (InSite nonblocking b site) by (first_reducer nonblocking b by found))) t l (kept_expr initial b (first_reducer nonblocking (InSite nonblocking b site) by (first_reducer nonblocking b by found)) t l (kept_reducer (InSite nonblocking b site) by (first_reducer nonblocking b by found) t l (reached_reducer b by found t l h)))))
    reached_expr (Reduction at attribute by initial site chunk iteration value) b found t l (inr (inl h)) = kept_expr value (InSite nonblocking b site) (first_iteration nonblocking iteration (InSite nonblocking b site) (first_chunk nonblocking chunk (InSite nonblocking b site) (first_expr nonblocking initial b (first_reducer nonblocking (InSite nonblocking b site) by (first_reducer nonblocking b by found))))) t l (kept_iteration iteration (InSite nonblocking b site) (first_chunk nonblocking chunk (InSite nonblocking b site) (first_expr nonblocking initial b (first_reducer nonblocking (InSite nonblocking b site) by (first_reducer nonblocking b by found)))) t l (kept_chunk chunk (InSite nonblocking b site) (first_expr nonblocking initial b (first_reducer nonblocking (InSite nonblocking b site) by (first_reducer nonblocking b by found))) t l (kept_expr initial b (first_reducer nonblocking (InSite nonblocking b site) by (first_reducer nonblocking b by found)) t l (reached_reducer (InSite nonblocking b site) by (first_reducer nonblocking b by found) t l h))))
    reached_expr (Reduction at attribute by initial site chunk iteration value) b found t l (inr (inr (inl h))) = kept_expr value (InSite nonblocking b site) (first_iteration nonblocking iteration (InSite nonblocking b site) (first_chunk nonblocking chunk (InSite nonblocking b site) (first_expr nonblocking initial b (first_reducer nonblocking (InSite nonblocking b site) by (first_reducer nonblocking b by found))))) t l (kept_iteration iteration (InSite nonblocking b site) (first_chunk nonblocking chunk (InSite nonblocking b site) (first_expr nonblocking initial b (first_reducer nonblocking (InSite nonblocking b site) by (first_reducer nonblocking b by found)))) t l (kept_chunk chunk (InSite nonblocking b site) (first_expr nonblocking initial b (first_reducer nonblocking (InSite nonblocking b site) by (first_reducer nonblocking b by found))) t l (reached_expr initial b (first_reducer nonblocking (InSite nonblocking b site) by (first_reducer nonblocking b by found)) t l h)))
    reached_expr (Reduction at attribute by initial site chunk iteration value) b found t l (inr (inr (inr (inl h)))) = kept_expr value (InSite nonblocking b site) (first_iteration nonblocking iteration (InSite nonblocking b site) (first_chunk nonblocking chunk (InSite nonblocking b site) (first_expr nonblocking initial b (first_reducer nonblocking (InSite nonblocking b site) by (first_reducer nonblocking b by found))))) t l (kept_iteration iteration (InSite nonblocking b site) (first_chunk nonblocking chunk (InSite nonblocking b site) (first_expr nonblocking initial b (first_reducer nonblocking (InSite nonblocking b site) by (first_reducer nonblocking b by found)))) t l (reached_chunk chunk (InSite nonblocking b site) (first_expr nonblocking initial b (first_reducer nonblocking (InSite nonblocking b site) by (first_reducer nonblocking b by found))) t l h))
    reached_expr (Reduction at attribute by initial site chunk iteration value) b found t l (inr (inr (inr (inr (inl h))))) = kept_expr value (InSite nonblocking b site) (first_iteration nonblocking iteration (InSite nonblocking b site) (first_chunk nonblocking chunk (InSite nonblocking b site) (first_expr nonblocking initial b (first_reducer nonblocking (InSite nonblocking b site) by (first_reducer nonblocking b by found))))) t l (reached_iteration iteration (InSite nonblocking b site) (first_chunk nonblocking chunk (InSite nonblocking b site) (first_expr nonblocking initial b (first_reducer nonblocking (InSite nonblocking b site) by (first_reducer nonblocking b by found)))) t l h)
    reached_expr (Reduction at attribute by initial site chunk iteration value) b found t l (inr (inr (inr (inr (inr h))))) = reached_expr value (InSite nonblocking b site) (first_iteration nonblocking iteration (InSite nonblocking b site) (first_chunk nonblocking chunk (InSite nonblocking b site) (first_expr nonblocking initial b (first_reducer nonblocking (InSite nonblocking b site) by (first_reducer nonblocking b by found))))) t l h

    pub reached_exprs : (x : Exprs) (b : Bool) (found : Option Breach) (t l : ℕ) → BlockedExprs nonblocking x b t l → AtMost (first_exprs nonblocking x b found) t l
    reached_exprs NoExpr b found t l h = absurd h
    reached_exprs (AlsoExpr e es) b found t l (inl h) = kept_exprs es b (first_expr nonblocking e b found) t l (reached_expr e b found t l h)
    reached_exprs (AlsoExpr e es) b found t l (inr h) = reached_exprs es b (first_expr nonblocking e b found) t l h

    pub reached_optional : (x : Optional) (b : Bool) (found : Option Breach) (t l : ℕ) → BlockedOptional nonblocking x b t l → AtMost (first_optional nonblocking x b found) t l
    reached_optional Absent b found t l h = absurd h
    reached_optional (Present e) b found t l h = reached_expr e b found t l h

    pub reached_selections : (x : Selections) (b : Bool) (found : Option Breach) (t l : ℕ) → BlockedSelections nonblocking x b t l → AtMost (first_selections nonblocking x b found) t l
    reached_selections Whole b found t l h = absurd h
    reached_selections (Field number offset rest) b found t l h = reached_selections rest b found t l h
    reached_selections (Index at e low high stride rest) b found t l (inl h) = kept_selections rest b (first_expr nonblocking e b found) t l (reached_expr e b found t l h)
    reached_selections (Index at e low high stride rest) b found t l (inr h) = reached_selections rest b (first_expr nonblocking e b found) t l h

    pub reached_actuals : (x : Actuals) (b : Bool) (found : Option Breach) (t l : ℕ) → BlockedActuals nonblocking x b t l → AtMost (first_actuals nonblocking x b found) t l
    reached_actuals NoActual b found t l h = absurd h
    reached_actuals (In formal value rest) b found t l (inl h) = kept_actuals rest b (first_value nonblocking value b found) t l (reached_value value b found t l h)
    reached_actuals (In formal value rest) b found t l (inr h) = reached_actuals rest b (first_value nonblocking value b found) t l h
    reached_actuals (InOut formal at r selections inner outer rest) b found t l (inl h) = kept_actuals rest b (first_selections nonblocking selections b found) t l (reached_selections selections b found t l h)
    reached_actuals (InOut formal at r selections inner outer rest) b found t l (inr h) = reached_actuals rest b (first_selections nonblocking selections b found) t l h
    reached_actuals (Out formal at r selections inner outer rest) b found t l (inl h) = kept_actuals rest b (first_selections nonblocking selections b found) t l (reached_selections selections b found t l h)
    reached_actuals (Out formal at r selections inner outer rest) b found t l (inr h) = reached_actuals rest b (first_selections nonblocking selections b found) t l h
    reached_actuals (CompositeInOut formal at r selections subtype rest) b found t l (inl h) = kept_actuals rest b (first_selections nonblocking selections b found) t l (reached_selections selections b found t l h)
    reached_actuals (CompositeInOut formal at r selections subtype rest) b found t l (inr h) = reached_actuals rest b (first_selections nonblocking selections b found) t l h
    reached_actuals (CompositeOut formal at r selections subtype rest) b found t l (inl h) = kept_actuals rest b (first_selections nonblocking selections b found) t l (reached_selections selections b found t l h)
    reached_actuals (CompositeOut formal at r selections subtype rest) b found t l (inr h) = reached_actuals rest b (first_selections nonblocking selections b found) t l h

    pub reached_value : (x : Value) (b : Bool) (found : Option Breach) (t l : ℕ) → BlockedValue nonblocking x b t l → AtMost (first_value nonblocking x b found) t l
    reached_value (Number check e) b found t l h = reached_expr e b found t l h
    reached_value (Cells c) b found t l h = reached_composite c b found t l h

    pub reached_composite : (x : Composite) (b : Bool) (found : Option Breach) (t l : ℕ) → BlockedComposite nonblocking x b t l → AtMost (first_composite nonblocking x b found) t l
    reached_composite (WholeVariable at r selections subtype) b found t l h = reached_selections selections b found t l h
    reached_composite (WholeConstant at r selections subtype) b found t l h = reached_selections selections b found t l h
    reached_composite (WholeTarget at subtype) b found t l h = absurd h
    reached_composite (CompositeIf condition value otherwise) b found t l (inl h) = kept_composite otherwise b (first_composite nonblocking value b (first_expr nonblocking condition b found)) t l (kept_composite value b (first_expr nonblocking condition b found) t l (reached_expr condition b found t l h))
    reached_composite (CompositeIf condition value otherwise) b found t l (inr (inl h)) = kept_composite otherwise b (first_composite nonblocking value b (first_expr nonblocking condition b found)) t l (reached_composite value b (first_expr nonblocking condition b found) t l h)
    reached_composite (CompositeIf condition value otherwise) b found t l (inr (inr h)) = reached_composite otherwise b (first_composite nonblocking value b (first_expr nonblocking condition b found)) t l h
    reached_composite (Aggregate at size associations) b found t l h = reached_associations associations b found t l h

    pub reached_associations : (x : Associations) (b : Bool) (found : Option Breach) (t l : ℕ) → BlockedAssociations nonblocking x b t l → AtMost (first_associations nonblocking x b found) t l
    reached_associations NoAssociation b found t l h = absurd h
    reached_associations (Association runs iterated mentions value rest) b found t l (inl h) = kept_associations rest b (first_value nonblocking value b (first_exprs nonblocking mentions b found)) t l (kept_value value b (first_exprs nonblocking mentions b found) t l (reached_exprs mentions b found t l h))
    reached_associations (Association runs iterated mentions value rest) b found t l (inr (inl h)) = kept_associations rest b (first_value nonblocking value b (first_exprs nonblocking mentions b found)) t l (reached_value value b (first_exprs nonblocking mentions b found) t l h)
    reached_associations (Association runs iterated mentions value rest) b found t l (inr (inr h)) = reached_associations rest b (first_value nonblocking value b (first_exprs nonblocking mentions b found)) t l h

    pub reached_iteration : (x : Iteration) (b : Bool) (found : Option Breach) (t l : ℕ) → BlockedIteration nonblocking x b t l → AtMost (first_iteration nonblocking x b found) t l
    reached_iteration (Range k reverse low high check filter) b found t l (inl h) = kept_optional filter b (first_expr nonblocking high b (first_expr nonblocking low b found)) t l (kept_expr high b (first_expr nonblocking low b found) t l (reached_expr low b found t l h))
    reached_iteration (Range k reverse low high check filter) b found t l (inr (inl h)) = kept_optional filter b (first_expr nonblocking high b (first_expr nonblocking low b found)) t l (reached_expr high b (first_expr nonblocking low b found) t l h)
    reached_iteration (Range k reverse low high check filter) b found t l (inr (inr h)) = reached_optional filter b (first_expr nonblocking high b (first_expr nonblocking low b found)) t l h
    reached_iteration (Components k constant at r selections number stride dimensions filter) b found t l (inl h) = kept_optional filter b (first_selections nonblocking selections b found) t l (reached_selections selections b found t l h)
    reached_iteration (Components k constant at r selections number stride dimensions filter) b found t l (inr h) = reached_optional filter b (first_selections nonblocking selections b found) t l h

    pub reached_chunk : (x : Chunk) (b : Bool) (found : Option Breach) (t l : ℕ) → BlockedChunk nonblocking x b t l → AtMost (first_chunk nonblocking x b found) t l
    reached_chunk NoChunk b found t l h = absurd h
    reached_chunk (Count e) b found t l h = reached_expr e b found t l h
    reached_chunk (Each k low high check) b found t l (inl h) = kept_expr high b (first_expr nonblocking low b found) t l (reached_expr low b found t l h)
    reached_chunk (Each k low high check) b found t l (inr h) = reached_expr high b (first_expr nonblocking low b found) t l h

  pub reached_pieces : (x : Pieces) (b : Bool) (found : Option Breach) (t l : ℕ) → BlockedPieces nonblocking x b t l → AtMost (first_pieces nonblocking x b found) t l
  unfolding first_pieces
  reached_pieces NoPiece b found t l h = absurd h
  reached_pieces (Text bytes rest) b found t l h = reached_pieces rest b found t l h
  reached_pieces (Image class e rest) b found t l (inl h) = kept_pieces rest b (first_expr nonblocking e b found) t l (reached_expr e b found t l h)
  reached_pieces (Image class e rest) b found t l (inr h) = reached_pieces rest b (first_expr nonblocking e b found) t l h
  reached_pieces (Padded class e width rest) b found t l (inl h) = kept_pieces rest b (first_expr nonblocking width b (first_expr nonblocking e b found)) t l (kept_expr width b (first_expr nonblocking e b found) t l (reached_expr e b found t l h))
  reached_pieces (Padded class e width rest) b found t l (inr (inl h)) = kept_pieces rest b (first_expr nonblocking width b (first_expr nonblocking e b found)) t l (reached_expr width b (first_expr nonblocking e b found) t l h)
  reached_pieces (Padded class e width rest) b found t l (inr (inr h)) = reached_pieces rest b (first_expr nonblocking width b (first_expr nonblocking e b found)) t l h

  pub reached_decls : (x : Decls) (b : Bool) (found : Option Breach) (t l : ℕ) → BlockedDecls nonblocking x b t l → AtMost (first_decls nonblocking x b found) t l
  unfolding first_decls
  reached_decls NoDecl b found t l h = absurd h
  reached_decls (DeclareDefault x more) b found t l h = reached_decls more b found t l h
  reached_decls (DeclareVariable x initial more) b found t l (inl h) = kept_decls more b (first_value nonblocking initial b found) t l (reached_value initial b found t l h)
  reached_decls (DeclareVariable x initial more) b found t l (inr h) = reached_decls more b (first_value nonblocking initial b found) t l h
  reached_decls (DeclareConstant x initial more) b found t l (inl h) = kept_decls more b (first_value nonblocking initial b found) t l (reached_value initial b found t l h)
  reached_decls (DeclareConstant x initial more) b found t l (inr h) = reached_decls more b (first_value nonblocking initial b found) t l h
  reached_decls (Mentions es more) b found t l (inl h) = kept_decls more b (first_exprs nonblocking es b found) t l (reached_exprs es b found t l h)
  reached_decls (Mentions es more) b found t l (inr h) = reached_decls more b (first_exprs nonblocking es b found) t l h

  mutual
    unfolding first_stmt first_stmts first_alternatives first_arms first_handlers

    pub reached_stmt : (x : Stmt) (b : Bool) (found : Option Breach) (t l : ℕ) → BlockedStmt nonblocking x b t l → AtMost (first_stmt nonblocking x b found) t l
    reached_stmt Null b found t l h = absurd h
    reached_stmt (Assign at r selections value) b found t l (inl h) = kept_value value b (first_selections nonblocking selections b found) t l (reached_selections selections b found t l h)
    reached_stmt (Assign at r selections value) b found t l (inr h) = reached_value value b (first_selections nonblocking selections b found) t l h
    reached_stmt (CallProcedure at callee s actuals) b found t l (inl h) = kept_actuals actuals b (first_call nonblocking b s at callee found) t l (reached_call b s at callee found t l h)
    reached_stmt (CallProcedure at callee s actuals) b found t l (inr h) = reached_actuals actuals b (first_call nonblocking b s at callee found) t l h
    reached_stmt (Exit loop condition) b found t l h = reached_optional condition b found t l h
    reached_stmt Return b found t l h = absurd h
    reached_stmt (ReturnValue value) b found t l h = reached_value value b found t l h
    reached_stmt (Raise r) b found t l h = absurd h
    reached_stmt Reraise b found t l h = absurd h
    reached_stmt (IfThen condition stmts otherwise) b found t l (inl h) = kept_stmts otherwise b (first_stmts nonblocking stmts b (first_expr nonblocking condition b found)) t l (kept_stmts stmts b (first_expr nonblocking condition b found) t l (reached_expr condition b found t l h))
    reached_stmt (IfThen condition stmts otherwise) b found t l (inr (inl h)) = kept_stmts otherwise b (first_stmts nonblocking stmts b (first_expr nonblocking condition b found)) t l (reached_stmts stmts b (first_expr nonblocking condition b found) t l h)
    reached_stmt (IfThen condition stmts otherwise) b found t l (inr (inr h)) = reached_stmts otherwise b (first_stmts nonblocking stmts b (first_expr nonblocking condition b found)) t l h
    reached_stmt (Case e alternatives) b found t l (inl h) = kept_alternatives alternatives b (first_expr nonblocking e b found) t l (reached_expr e b found t l h)
    reached_stmt (Case e alternatives) b found t l (inr h) = reached_alternatives alternatives b (first_expr nonblocking e b found) t l h
    reached_stmt (Loop number condition stmts) b found t l (inl h) = kept_stmts stmts b (first_optional nonblocking condition b found) t l (reached_optional condition b found t l h)
    reached_stmt (Loop number condition stmts) b found t l (inr h) = reached_stmts stmts b (first_optional nonblocking condition b found) t l h
    reached_stmt (For number iteration stmts) b found t l (inl h) = kept_stmts stmts b (first_iteration nonblocking iteration b found) t l (reached_iteration iteration b found t l h)
    reached_stmt (For number iteration stmts) b found t l (inr h) = reached_stmts stmts b (first_iteration nonblocking iteration b found) t l h
    reached_stmt (ParallelFor number site chunk iteration stmts) b found t l (inl h) = kept_stmts stmts false (first_iteration nonblocking iteration false (first_chunk nonblocking chunk false found)) t l (kept_iteration iteration false (first_chunk nonblocking chunk false found) t l (reached_chunk chunk false found t l h))
    reached_stmt (ParallelFor number site chunk iteration stmts) b found t l (inr (inl h)) = kept_stmts stmts false (first_iteration nonblocking iteration false (first_chunk nonblocking chunk false found)) t l (reached_iteration iteration false (first_chunk nonblocking chunk false found) t l h)
    reached_stmt (ParallelFor number site chunk iteration stmts) b found t l (inr (inr h)) = reached_stmts stmts false (first_iteration nonblocking iteration false (first_chunk nonblocking chunk false found)) t l h
    reached_stmt (Parallel site count arms) b found t l (inl h) = kept_arms arms false (first_optional nonblocking count false found) t l (reached_optional count false found t l h)
    reached_stmt (Parallel site count arms) b found t l (inr h) = reached_arms arms false (first_optional nonblocking count false found) t l h
    reached_stmt (Block decls stmts handlers) b found t l (inl h) = kept_handlers handlers b (first_stmts nonblocking stmts b (first_decls nonblocking decls b found)) t l (kept_stmts stmts b (first_decls nonblocking decls b found) t l (reached_decls decls b found t l h))
    reached_stmt (Block decls stmts handlers) b found t l (inr (inl h)) = kept_handlers handlers b (first_stmts nonblocking stmts b (first_decls nonblocking decls b found)) t l (reached_stmts stmts b (first_decls nonblocking decls b found) t l h)
    reached_stmt (Block decls stmts handlers) b found t l (inr (inr h)) = reached_handlers handlers b (first_stmts nonblocking stmts b (first_decls nonblocking decls b found)) t l h
    reached_stmt (Put at callee pieces line) b found t l (inl h) = kept_port b at callee (first_pieces nonblocking pieces b found) t l (reached_pieces pieces b found t l h)
    reached_stmt (Put at callee pieces line) b found t l (inr h) = reached_port b at callee (first_pieces nonblocking pieces b found) t l h
    reached_stmt (Get at callee first r selections scalar) b found t l (inl h) = kept_port b at callee (first_selections nonblocking selections b found) t l (reached_selections selections b found t l h)
    reached_stmt (Get at callee first r selections scalar) b found t l (inr h) = reached_port b at callee (first_selections nonblocking selections b found) t l h

    pub reached_stmts : (x : Stmts) (b : Bool) (found : Option Breach) (t l : ℕ) → BlockedAll nonblocking x b t l → AtMost (first_stmts nonblocking x b found) t l
    reached_stmts End b found t l h = absurd h
    reached_stmts (Then s ss) b found t l (inl h) = kept_stmts ss b (first_stmt nonblocking s b found) t l (reached_stmt s b found t l h)
    reached_stmts (Then s ss) b found t l (inr h) = reached_stmts ss b (first_stmt nonblocking s b found) t l h

    pub reached_alternatives : (x : Alternatives) (b : Bool) (found : Option Breach) (t l : ℕ) → BlockedAlternatives nonblocking x b t l → AtMost (first_alternatives nonblocking x b found) t l
    reached_alternatives NoAlternative b found t l h = absurd h
    reached_alternatives (Alternative others choices mentions stmts rest) b found t l (inl h) = kept_alternatives rest b (first_stmts nonblocking stmts b (first_exprs nonblocking mentions b found)) t l (kept_stmts stmts b (first_exprs nonblocking mentions b found) t l (reached_exprs mentions b found t l h))
    reached_alternatives (Alternative others choices mentions stmts rest) b found t l (inr (inl h)) = kept_alternatives rest b (first_stmts nonblocking stmts b (first_exprs nonblocking mentions b found)) t l (reached_stmts stmts b (first_exprs nonblocking mentions b found) t l h)
    reached_alternatives (Alternative others choices mentions stmts rest) b found t l (inr (inr h)) = reached_alternatives rest b (first_stmts nonblocking stmts b (first_exprs nonblocking mentions b found)) t l h

    pub reached_arms : (x : Arms) (b : Bool) (found : Option Breach) (t l : ℕ) → BlockedArms nonblocking x b t l → AtMost (first_arms nonblocking x b found) t l
    reached_arms NoArm b found t l h = absurd h
    reached_arms (Arm stmts rest) b found t l (inl h) = kept_arms rest b (first_stmts nonblocking stmts b found) t l (reached_stmts stmts b found t l h)
    reached_arms (Arm stmts rest) b found t l (inr h) = reached_arms rest b (first_stmts nonblocking stmts b found) t l h

    pub reached_handlers : (x : Handlers) (b : Bool) (found : Option Breach) (t l : ℕ) → BlockedHandlers nonblocking x b t l → AtMost (first_handlers nonblocking x b found) t l
    reached_handlers NoHandler b found t l h = absurd h
    reached_handlers (Handler handled stmts rest) b found t l (inl h) = kept_handlers rest b (first_stmts nonblocking stmts b found) t l (reached_stmts stmts b found t l h)
    reached_handlers (Handler handled stmts rest) b found t l (inr h) = reached_handlers rest b (first_stmts nonblocking stmts b found) t l h

  mutual
    unfolding first_expr first_exprs first_optional first_selections first_actuals first_value first_composite first_associations first_iteration first_chunk

    pub stated_expr : (x : Expr) (b : Bool) (found : Option Breach) (P : ℕ → ℕ → Type 0) → ((t l : ℕ) → BlockedExpr nonblocking x b t l → P t l) → Told P found → Told P (first_expr nonblocking x b found)
    stated_expr (Static at value literal mentions) b found P given h = stated_exprs mentions b found P given h
    stated_expr (Variable at r selections scalar) b found P given h = stated_selections selections b found P given h
    stated_expr (Constant at r selections scalar) b found P given h = stated_selections selections b found P given h
    stated_expr (Parameter at k) b found P given h = h
    stated_expr (Target at scalar) b found P given h = h
    stated_expr (Group e) b found P given h = stated_expr e b found P given h
    stated_expr (Unary at s class e) b found P given h = stated_expr e b found P given h
    stated_expr (Binary at op class e f) b found P given h = stated_expr e b (first_expr nonblocking f b found) P (λ t l x. given t l (inl x)) (stated_expr f b found P (λ t l x. given t l (inr x)) h)
    stated_expr (AndThen e f) b found P given h = stated_expr e b (first_expr nonblocking f b found) P (λ t l x. given t l (inl x)) (stated_expr f b found P (λ t l x. given t l (inr x)) h)
    stated_expr (OrElse e f) b found P given h = stated_expr e b (first_expr nonblocking f b found) P (λ t l x. given t l (inl x)) (stated_expr f b found P (λ t l x. given t l (inr x)) h)
    stated_expr (Relation class comparison e f) b found P given h = stated_expr e b (first_expr nonblocking f b found) P (λ t l x. given t l (inl x)) (stated_expr f b found P (λ t l x. given t l (inr x)) h)
    stated_expr (Membership class negated e low high) b found P given h = stated_expr high b (first_expr nonblocking low b (first_expr nonblocking e b found)) P (λ t l x. given t l (inr (inr x))) (stated_expr low b (first_expr nonblocking e b found) P (λ t l x. given t l (inr (inl x))) (stated_expr e b found P (λ t l x. given t l (inl x)) h))
    stated_expr (If condition value otherwise) b found P given h = stated_expr otherwise b (first_expr nonblocking value b (first_expr nonblocking condition b found)) P (λ t l x. given t l (inr (inr x))) (stated_expr value b (first_expr nonblocking condition b found) P (λ t l x. given t l (inr (inl x))) (stated_expr condition b found P (λ t l x. given t l (inl x)) h))
    stated_expr (Call at callee s actuals) b found P given h = stated_actuals actuals b (first_call nonblocking b s at callee found) P (λ t l x. given t l (inr x)) (stated_call b s at callee found P (λ t l x. given t l (inl x)) h)
    stated_expr (Convert check e) b found P given h = stated_expr e b found P given h
    stated_expr (Reduction at attribute by initial site chunk iteration value) b found P given h = stated_expr value (InSite nonblocking b site) (first_iteration nonblocking iteration (InSite nonblocking b site) (first_chunk nonblocking chunk (InSite nonblocking b site) (first_expr nonblocking initial b (first_reducer nonblocking (InSite nonblocking b site) by (first_reducer nonblocking b by found))))) P (λ t l x. given t l (inr (inr (inr (inr (inr x)))))) (stated_iteration iteration (InSite nonblocking b site) (first_chunk nonblocking chunk (InSite nonblocking b site) (first_expr nonblocking initial b (first_reducer nonblocking (InSite nonblocking b site) by (first_reducer nonblocking b by found)))) P (λ t l x. given t l (inr (inr (inr (inr (inl x)))))) (stated_chunk chunk (InSite nonblocking b site) (first_expr nonblocking initial b (first_reducer nonblocking (InSite nonblocking b site) by (first_reducer nonblocking b by found))) P (λ t l x. given t l (inr (inr (inr (inl x))))) (stated_expr initial b (first_reducer nonblocking (InSite nonblocking b site) by (first_reducer nonblocking b by found)) P (λ t l x. given t l (inr (inr (inl x)))) (stated_reducer (InSite nonblocking b site) by (first_reducer nonblocking b by found) P (λ t l x. given t l (inr (inl x))) (stated_reducer b by found P (λ t l x. given t l (inl x)) h)))))

    pub stated_exprs : (x : Exprs) (b : Bool) (found : Option Breach) (P : ℕ → ℕ → Type 0) → ((t l : ℕ) → BlockedExprs nonblocking x b t l → P t l) → Told P found → Told P (first_exprs nonblocking x b found)
    stated_exprs NoExpr b found P given h = h
    stated_exprs (AlsoExpr e es) b found P given h = stated_exprs es b (first_expr nonblocking e b found) P (λ t l x. given t l (inr x)) (stated_expr e b found P (λ t l x. given t l (inl x)) h)

    pub stated_optional : (x : Optional) (b : Bool) (found : Option Breach) (P : ℕ → ℕ → Type 0) → ((t l : ℕ) → BlockedOptional nonblocking x b t l → P t l) → Told P found → Told P (first_optional nonblocking x b found)
    stated_optional Absent b found P given h = h
    stated_optional (Present e) b found P given h = stated_expr e b found P given h

    pub stated_selections : (x : Selections) (b : Bool) (found : Option Breach) (P : ℕ → ℕ → Type 0) → ((t l : ℕ) → BlockedSelections nonblocking x b t l → P t l) → Told P found → Told P (first_selections nonblocking x b found)
    stated_selections Whole b found P given h = h
    stated_selections (Field number offset rest) b found P given h = stated_selections rest b found P given h
    stated_selections (Index at e low high stride rest) b found P given h = stated_selections rest b (first_expr nonblocking e b found) P (λ t l x. given t l (inr x)) (stated_expr e b found P (λ t l x. given t l (inl x)) h)

    pub stated_actuals : (x : Actuals) (b : Bool) (found : Option Breach) (P : ℕ → ℕ → Type 0) → ((t l : ℕ) → BlockedActuals nonblocking x b t l → P t l) → Told P found → Told P (first_actuals nonblocking x b found)
    stated_actuals NoActual b found P given h = h
    stated_actuals (In formal value rest) b found P given h = stated_actuals rest b (first_value nonblocking value b found) P (λ t l x. given t l (inr x)) (stated_value value b found P (λ t l x. given t l (inl x)) h)
    stated_actuals (InOut formal at r selections inner outer rest) b found P given h = stated_actuals rest b (first_selections nonblocking selections b found) P (λ t l x. given t l (inr x)) (stated_selections selections b found P (λ t l x. given t l (inl x)) h)
    stated_actuals (Out formal at r selections inner outer rest) b found P given h = stated_actuals rest b (first_selections nonblocking selections b found) P (λ t l x. given t l (inr x)) (stated_selections selections b found P (λ t l x. given t l (inl x)) h)
    stated_actuals (CompositeInOut formal at r selections subtype rest) b found P given h = stated_actuals rest b (first_selections nonblocking selections b found) P (λ t l x. given t l (inr x)) (stated_selections selections b found P (λ t l x. given t l (inl x)) h)
    stated_actuals (CompositeOut formal at r selections subtype rest) b found P given h = stated_actuals rest b (first_selections nonblocking selections b found) P (λ t l x. given t l (inr x)) (stated_selections selections b found P (λ t l x. given t l (inl x)) h)

    pub stated_value : (x : Value) (b : Bool) (found : Option Breach) (P : ℕ → ℕ → Type 0) → ((t l : ℕ) → BlockedValue nonblocking x b t l → P t l) → Told P found → Told P (first_value nonblocking x b found)
    stated_value (Number check e) b found P given h = stated_expr e b found P given h
    stated_value (Cells c) b found P given h = stated_composite c b found P given h

    pub stated_composite : (x : Composite) (b : Bool) (found : Option Breach) (P : ℕ → ℕ → Type 0) → ((t l : ℕ) → BlockedComposite nonblocking x b t l → P t l) → Told P found → Told P (first_composite nonblocking x b found)
    stated_composite (WholeVariable at r selections subtype) b found P given h = stated_selections selections b found P given h
    stated_composite (WholeConstant at r selections subtype) b found P given h = stated_selections selections b found P given h
    stated_composite (WholeTarget at subtype) b found P given h = h
    stated_composite (CompositeIf condition value otherwise) b found P given h = stated_composite otherwise b (first_composite nonblocking value b (first_expr nonblocking condition b found)) P (λ t l x. given t l (inr (inr x))) (stated_composite value b (first_expr nonblocking condition b found) P (λ t l x. given t l (inr (inl x))) (stated_expr condition b found P (λ t l x. given t l (inl x)) h))
    stated_composite (Aggregate at size associations) b found P given h = stated_associations associations b found P given h

    pub stated_associations : (x : Associations) (b : Bool) (found : Option Breach) (P : ℕ → ℕ → Type 0) → ((t l : ℕ) → BlockedAssociations nonblocking x b t l → P t l) → Told P found → Told P (first_associations nonblocking x b found)
    stated_associations NoAssociation b found P given h = h
    stated_associations (Association runs iterated mentions value rest) b found P given h = stated_associations rest b (first_value nonblocking value b (first_exprs nonblocking mentions b found)) P (λ t l x. given t l (inr (inr x))) (stated_value value b (first_exprs nonblocking mentions b found) P (λ t l x. given t l (inr (inl x))) (stated_exprs mentions b found P (λ t l x. given t l (inl x)) h))

    pub stated_iteration : (x : Iteration) (b : Bool) (found : Option Breach) (P : ℕ → ℕ → Type 0) → ((t l : ℕ) → BlockedIteration nonblocking x b t l → P t l) → Told P found → Told P (first_iteration nonblocking x b found)
    stated_iteration (Range k reverse low high check filter) b found P given h = stated_optional filter b (first_expr nonblocking high b (first_expr nonblocking low b found)) P (λ t l x. given t l (inr (inr x))) (stated_expr high b (first_expr nonblocking low b found) P (λ t l x. given t l (inr (inl x))) (stated_expr low b found P (λ t l x. given t l (inl x)) h))
    stated_iteration (Components k constant at r selections number stride dimensions filter) b found P given h = stated_optional filter b (first_selections nonblocking selections b found) P (λ t l x. given t l (inr x)) (stated_selections selections b found P (λ t l x. given t l (inl x)) h)

    pub stated_chunk : (x : Chunk) (b : Bool) (found : Option Breach) (P : ℕ → ℕ → Type 0) → ((t l : ℕ) → BlockedChunk nonblocking x b t l → P t l) → Told P found → Told P (first_chunk nonblocking x b found)
    stated_chunk NoChunk b found P given h = h
    stated_chunk (Count e) b found P given h = stated_expr e b found P given h
    stated_chunk (Each k low high check) b found P given h = stated_expr high b (first_expr nonblocking low b found) P (λ t l x. given t l (inr x)) (stated_expr low b found P (λ t l x. given t l (inl x)) h)

  pub stated_pieces : (x : Pieces) (b : Bool) (found : Option Breach) (P : ℕ → ℕ → Type 0) → ((t l : ℕ) → BlockedPieces nonblocking x b t l → P t l) → Told P found → Told P (first_pieces nonblocking x b found)
  unfolding first_pieces
  stated_pieces NoPiece b found P given h = h
  stated_pieces (Text bytes rest) b found P given h = stated_pieces rest b found P given h
  stated_pieces (Image class e rest) b found P given h = stated_pieces rest b (first_expr nonblocking e b found) P (λ t l x. given t l (inr x)) (stated_expr e b found P (λ t l x. given t l (inl x)) h)
  stated_pieces (Padded class e width rest) b found P given h = stated_pieces rest b (first_expr nonblocking width b (first_expr nonblocking e b found)) P (λ t l x. given t l (inr (inr x))) (stated_expr width b (first_expr nonblocking e b found) P (λ t l x. given t l (inr (inl x))) (stated_expr e b found P (λ t l x. given t l (inl x)) h))

  pub stated_decls : (x : Decls) (b : Bool) (found : Option Breach) (P : ℕ → ℕ → Type 0) → ((t l : ℕ) → BlockedDecls nonblocking x b t l → P t l) → Told P found → Told P (first_decls nonblocking x b found)
  unfolding first_decls
  stated_decls NoDecl b found P given h = h
  stated_decls (DeclareDefault x more) b found P given h = stated_decls more b found P given h
  stated_decls (DeclareVariable x initial more) b found P given h = stated_decls more b (first_value nonblocking initial b found) P (λ t l x. given t l (inr x)) (stated_value initial b found P (λ t l x. given t l (inl x)) h)
  stated_decls (DeclareConstant x initial more) b found P given h = stated_decls more b (first_value nonblocking initial b found) P (λ t l x. given t l (inr x)) (stated_value initial b found P (λ t l x. given t l (inl x)) h)
  stated_decls (Mentions es more) b found P given h = stated_decls more b (first_exprs nonblocking es b found) P (λ t l x. given t l (inr x)) (stated_exprs es b found P (λ t l x. given t l (inl x)) h)

  mutual
    unfolding first_stmt first_stmts first_alternatives first_arms first_handlers

    pub stated_stmt : (x : Stmt) (b : Bool) (found : Option Breach) (P : ℕ → ℕ → Type 0) → ((t l : ℕ) → BlockedStmt nonblocking x b t l → P t l) → Told P found → Told P (first_stmt nonblocking x b found)
    stated_stmt Null b found P given h = h
    stated_stmt (Assign at r selections value) b found P given h = stated_value value b (first_selections nonblocking selections b found) P (λ t l x. given t l (inr x)) (stated_selections selections b found P (λ t l x. given t l (inl x)) h)
    stated_stmt (CallProcedure at callee s actuals) b found P given h = stated_actuals actuals b (first_call nonblocking b s at callee found) P (λ t l x. given t l (inr x)) (stated_call b s at callee found P (λ t l x. given t l (inl x)) h)
    stated_stmt (Exit loop condition) b found P given h = stated_optional condition b found P given h
    stated_stmt Return b found P given h = h
    stated_stmt (ReturnValue value) b found P given h = stated_value value b found P given h
    stated_stmt (Raise r) b found P given h = h
    stated_stmt Reraise b found P given h = h
    stated_stmt (IfThen condition stmts otherwise) b found P given h = stated_stmts otherwise b (first_stmts nonblocking stmts b (first_expr nonblocking condition b found)) P (λ t l x. given t l (inr (inr x))) (stated_stmts stmts b (first_expr nonblocking condition b found) P (λ t l x. given t l (inr (inl x))) (stated_expr condition b found P (λ t l x. given t l (inl x)) h))
    stated_stmt (Case e alternatives) b found P given h = stated_alternatives alternatives b (first_expr nonblocking e b found) P (λ t l x. given t l (inr x)) (stated_expr e b found P (λ t l x. given t l (inl x)) h)
    stated_stmt (Loop number condition stmts) b found P given h = stated_stmts stmts b (first_optional nonblocking condition b found) P (λ t l x. given t l (inr x)) (stated_optional condition b found P (λ t l x. given t l (inl x)) h)
    stated_stmt (For number iteration stmts) b found P given h = stated_stmts stmts b (first_iteration nonblocking iteration b found) P (λ t l x. given t l (inr x)) (stated_iteration iteration b found P (λ t l x. given t l (inl x)) h)
    stated_stmt (ParallelFor number site chunk iteration stmts) b found P given h = stated_stmts stmts false (first_iteration nonblocking iteration false (first_chunk nonblocking chunk false found)) P (λ t l x. given t l (inr (inr x))) (stated_iteration iteration false (first_chunk nonblocking chunk false found) P (λ t l x. given t l (inr (inl x))) (stated_chunk chunk false found P (λ t l x. given t l (inl x)) h))
    stated_stmt (Parallel site count arms) b found P given h = stated_arms arms false (first_optional nonblocking count false found) P (λ t l x. given t l (inr x)) (stated_optional count false found P (λ t l x. given t l (inl x)) h)
    stated_stmt (Block decls stmts handlers) b found P given h = stated_handlers handlers b (first_stmts nonblocking stmts b (first_decls nonblocking decls b found)) P (λ t l x. given t l (inr (inr x))) (stated_stmts stmts b (first_decls nonblocking decls b found) P (λ t l x. given t l (inr (inl x))) (stated_decls decls b found P (λ t l x. given t l (inl x)) h))
    stated_stmt (Put at callee pieces line) b found P given h = stated_port b at callee (first_pieces nonblocking pieces b found) P (λ t l x. given t l (inr x)) (stated_pieces pieces b found P (λ t l x. given t l (inl x)) h)
    stated_stmt (Get at callee first r selections scalar) b found P given h = stated_port b at callee (first_selections nonblocking selections b found) P (λ t l x. given t l (inr x)) (stated_selections selections b found P (λ t l x. given t l (inl x)) h)

    pub stated_stmts : (x : Stmts) (b : Bool) (found : Option Breach) (P : ℕ → ℕ → Type 0) → ((t l : ℕ) → BlockedAll nonblocking x b t l → P t l) → Told P found → Told P (first_stmts nonblocking x b found)
    stated_stmts End b found P given h = h
    stated_stmts (Then s ss) b found P given h = stated_stmts ss b (first_stmt nonblocking s b found) P (λ t l x. given t l (inr x)) (stated_stmt s b found P (λ t l x. given t l (inl x)) h)

    pub stated_alternatives : (x : Alternatives) (b : Bool) (found : Option Breach) (P : ℕ → ℕ → Type 0) → ((t l : ℕ) → BlockedAlternatives nonblocking x b t l → P t l) → Told P found → Told P (first_alternatives nonblocking x b found)
    stated_alternatives NoAlternative b found P given h = h
    stated_alternatives (Alternative others choices mentions stmts rest) b found P given h = stated_alternatives rest b (first_stmts nonblocking stmts b (first_exprs nonblocking mentions b found)) P (λ t l x. given t l (inr (inr x))) (stated_stmts stmts b (first_exprs nonblocking mentions b found) P (λ t l x. given t l (inr (inl x))) (stated_exprs mentions b found P (λ t l x. given t l (inl x)) h))

    pub stated_arms : (x : Arms) (b : Bool) (found : Option Breach) (P : ℕ → ℕ → Type 0) → ((t l : ℕ) → BlockedArms nonblocking x b t l → P t l) → Told P found → Told P (first_arms nonblocking x b found)
    stated_arms NoArm b found P given h = h
    stated_arms (Arm stmts rest) b found P given h = stated_arms rest b (first_stmts nonblocking stmts b found) P (λ t l x. given t l (inr x)) (stated_stmts stmts b found P (λ t l x. given t l (inl x)) h)

    pub stated_handlers : (x : Handlers) (b : Bool) (found : Option Breach) (P : ℕ → ℕ → Type 0) → ((t l : ℕ) → BlockedHandlers nonblocking x b t l → P t l) → Told P found → Told P (first_handlers nonblocking x b found)
    stated_handlers NoHandler b found P given h = h
    stated_handlers (Handler handled stmts rest) b found P given h = stated_handlers rest b (first_stmts nonblocking stmts b found) P (λ t l x. given t l (inr x)) (stated_stmts stmts b found P (λ t l x. given t l (inl x)) h)

  kept_body : (x : Body) (b : Bool) (found : Option Breach) (t l : ℕ) → AtMost found t l → AtMost (first_body nonblocking x b found) t l
  unfolding first_body
  kept_body x b found t l h = kept_handlers x.handlers b (first_stmts nonblocking x.stmts b (first_decls nonblocking x.decls b found)) t l (kept_stmts x.stmts b (first_decls nonblocking x.decls b found) t l (kept_decls x.decls b found t l h))

  reached_body : (x : Body) (b : Bool) (found : Option Breach) (t l : ℕ) → BlockedBody nonblocking x b t l → AtMost (first_body nonblocking x b found) t l
  unfolding first_body
  reached_body x b found t l (inl h) = kept_handlers x.handlers b (first_stmts nonblocking x.stmts b (first_decls nonblocking x.decls b found)) t l (kept_stmts x.stmts b (first_decls nonblocking x.decls b found) t l (reached_decls x.decls b found t l h))
  reached_body x b found t l (inr (inl h)) = kept_handlers x.handlers b (first_stmts nonblocking x.stmts b (first_decls nonblocking x.decls b found)) t l (reached_stmts x.stmts b (first_decls nonblocking x.decls b found) t l h)
  reached_body x b found t l (inr (inr h)) = reached_handlers x.handlers b (first_stmts nonblocking x.stmts b (first_decls nonblocking x.decls b found)) t l h

  stated_body : (x : Body) (b : Bool) (found : Option Breach) (P : ℕ → ℕ → Type 0) → ((t l : ℕ) → BlockedBody nonblocking x b t l → P t l) → Told P found → Told P (first_body nonblocking x b found)
  unfolding first_body
  stated_body x b found P given h = stated_handlers x.handlers b (first_stmts nonblocking x.stmts b (first_decls nonblocking x.decls b found)) P (λ t l x. given t l (inr (inr x))) (stated_stmts x.stmts b (first_decls nonblocking x.decls b found) P (λ t l x. given t l (inr (inl x))) (stated_decls x.decls b found P (λ t l x. given t l (inl x)) h))

  kept_subs : (subs : List Sub) (main : Bool) (found : Option Breach) (t l : ℕ) → AtMost found t l → AtMost (first_subs nonblocking main subs found) t l
  unfolding first_subs
  kept_subs [] main found t l h = h
  kept_subs (sub ∷ subs) main found t l h = kept_subs subs main (first_body nonblocking sub.body (not sub.nonblocking && not main) found) t l (kept_body sub.body (not sub.nonblocking && not main) found t l h)

  reached_subs : (subs : List Sub) (main : Bool) (found : Option Breach) (t l : ℕ) → BlockedSubs nonblocking main subs t l → AtMost (first_subs nonblocking main subs found) t l
  unfolding first_subs
  reached_subs [] main found t l h = absurd h
  reached_subs (sub ∷ subs) main found t l (inl h) = kept_subs subs main (first_body nonblocking sub.body (not sub.nonblocking && not main) found) t l (reached_body sub.body (not sub.nonblocking && not main) found t l h)
  reached_subs (sub ∷ subs) main found t l (inr h) = reached_subs subs main (first_body nonblocking sub.body (not sub.nonblocking && not main) found) t l h

  stated_subs : (subs : List Sub) (main : Bool) (found : Option Breach) (P : ℕ → ℕ → Type 0) → ((t l : ℕ) → BlockedSubs nonblocking main subs t l → P t l) → Told P found → Told P (first_subs nonblocking main subs found)
  unfolding first_subs
  stated_subs [] main found P given h = h
  stated_subs (sub ∷ subs) main found P given h = stated_subs subs main (first_body nonblocking sub.body (not sub.nonblocking && not main) found) P (λ t l x. given t l (inr x)) (stated_body sub.body (not sub.nonblocking && not main) found P (λ t l x. given t l (inl x)) h)

-- no call that breaks the rule stands before what is found
pub reached_of : (program : Program) (t l : ℕ) → Blocked program t l → AtMost (first_of program) t l
unfolding first_of
reached_of program t l (inl h) = kept_subs (nonblocking_of program.subs) program.subs program.nonblocking (first_body (nonblocking_of program.subs) program.body (not program.nonblocking) None) t l (reached_body (nonblocking_of program.subs) program.body (not program.nonblocking) None t l h)
reached_of program t l (inr h) = reached_subs (nonblocking_of program.subs) program.subs program.nonblocking (first_body (nonblocking_of program.subs) program.body (not program.nonblocking) None) t l h

-- what is found breaks the rule
pub stated_of : (program : Program) → Told (Blocked program) (first_of program)
unfolding first_of
stated_of program = stated_subs (nonblocking_of program.subs) program.subs program.nonblocking (first_body (nonblocking_of program.subs) program.body (not program.nonblocking) None) (Blocked program) (λ t l x. inr x) (stated_body (nonblocking_of program.subs) program.body (not program.nonblocking) None (Blocked program) (λ t l x. inl x) tt)
