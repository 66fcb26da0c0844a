-- Each program has its strings in the table of texts, and its constructs stand in one another no deeper than there are
-- constructs in its texts.
use Rattle.std.proofs.Common.{ℕ, zero, suc, ◌+◌, ◌≤◌, List, inl, inr, refl, arith}
use Rattle.std.specs.Prelude.{Some, None}
use Rattle.typed_tree.specs.Syntax.{Expr, Static, Variable, Constant, Parameter, Target, Group, Unary, Binary, AndThen, OrElse, Relation, Membership, If, Call, Convert, Reduction, Optional, Absent, Present, Selections, Whole, Field, Index, Actuals, NoActual, In, InOut, Out, CompositeInOut, CompositeOut, Value, Number, Cells, Composite, WholeVariable, WholeConstant, WholeTarget, CompositeIf, Aggregate, Associations, NoAssociation, Association, Iteration, Range, Components, Chunk, NoChunk, Count, Each, Pieces, NoPiece, Text, Image, Padded, Decls, NoDecl, DeclareDefault, DeclareVariable, DeclareConstant, Mentions, Stmt, Null, Assign, CallProcedure, Exit, Return, ReturnValue, Raise, Reraise, IfThen, Case, Loop, For, ParallelFor, Parallel, Block, Put, Get, Stmts, End, Then, Alternatives, NoAlternative, Alternative, Arms, NoArm, Arm, Handlers, NoHandler, Handler}
use Rattle.lower_emission.specs.Texts.{arm_texts, case_texts, handler_texts, pieces_texts, stmt_texts, texts_in}
use Rattle.lower_laws.proofs.Tables.{TabledActuals, TabledAll, TabledAlternatives, TabledArms, TabledAssociations, TabledChunk, TabledComposite, TabledDecls, TabledExpr, TabledHandlers, TabledIteration, TabledOptional, TabledPieces, TabledSelections, TabledStmt, TabledValue}
use Rattle.ada_lower.proofs.Strings.{IsOne, one_left, one_right}

-- ---- how many constructs stand in a text

abbrev mutual
  pub levels_expr : Expr → ℕ
  levels_expr (Static at value literal mentions) = 0
  levels_expr (Variable at r x scalar) = levels_selections x
  levels_expr (Constant at r x scalar) = levels_selections x
  levels_expr (Parameter at k) = 0
  levels_expr (Target at scalar) = 0
  levels_expr (Group e) = levels_expr e
  levels_expr (Unary at sign class e) = levels_expr e
  levels_expr (Binary at op class e f) = levels_expr e + levels_expr f
  levels_expr (AndThen e f) = levels_expr e + levels_expr f
  levels_expr (OrElse e f) = levels_expr e + levels_expr f
  levels_expr (Relation class comparison e f) = levels_expr e + levels_expr f
  levels_expr (Membership class negated e low high) = levels_expr e + (levels_expr low + levels_expr high)
  levels_expr (If condition value otherwise) = levels_expr condition + (levels_expr value + levels_expr otherwise)
  levels_expr (Call at callee sub actuals) = levels_actuals actuals
  levels_expr (Convert check e) = levels_expr e
  levels_expr (Reduction at attribute by initial None chunk iteration value) = levels_expr initial + (levels_iteration iteration + levels_expr value)
  levels_expr (Reduction at attribute by initial (Some site) chunk iteration value) = suc (levels_expr initial + (levels_chunk chunk + (levels_iteration iteration + levels_expr value)))

  pub levels_optional : Optional → ℕ
  levels_optional Absent = 0
  levels_optional (Present e) = levels_expr e

  pub levels_selections : Selections → ℕ
  levels_selections Whole = 0
  levels_selections (Field number offset rest) = levels_selections rest
  levels_selections (Index at e low high stride rest) = levels_expr e + levels_selections rest

  pub levels_actuals : Actuals → ℕ
  levels_actuals NoActual = 0
  levels_actuals (In f value rest) = levels_value value + levels_actuals rest
  levels_actuals (InOut f at r x inner outer rest) = levels_selections x + levels_actuals rest
  levels_actuals (Out f at r x inner outer rest) = levels_selections x + levels_actuals rest
  levels_actuals (CompositeInOut f at r x subtype rest) = levels_selections x + levels_actuals rest
  levels_actuals (CompositeOut f at r x subtype rest) = levels_selections x + levels_actuals rest

  pub levels_value : Value → ℕ
  levels_value (Number check e) = levels_expr e
  levels_value (Cells c) = levels_composite c

  pub levels_composite : Composite → ℕ
  levels_composite (WholeVariable at r x subtype) = levels_selections x
  levels_composite (WholeConstant at r x subtype) = levels_selections x
  levels_composite (WholeTarget at subtype) = 0
  levels_composite (CompositeIf condition value otherwise) = levels_expr condition + (levels_composite value + levels_composite otherwise)
  levels_composite (Aggregate at size associations) = levels_associations associations

  pub levels_associations : Associations → ℕ
  levels_associations NoAssociation = 0
  levels_associations (Association runs iterated mentions value rest) = levels_value value + levels_associations rest

  pub levels_iteration : Iteration → ℕ
  levels_iteration (Range k reverse low high check filter) = levels_expr low + (levels_expr high + levels_optional filter)
  levels_iteration (Components k constant at r x number stride dimensions filter) = levels_selections x + levels_optional filter

  pub levels_chunk : Chunk → ℕ
  levels_chunk NoChunk = 0
  levels_chunk (Count e) = levels_expr e
  levels_chunk (Each k low high check) = levels_expr low + levels_expr high

abbrev pub levels_pieces : Pieces → ℕ
levels_pieces NoPiece = 0
levels_pieces (Text bytes rest) = levels_pieces rest
levels_pieces (Image class e rest) = levels_expr e + levels_pieces rest
levels_pieces (Padded class e most rest) = levels_expr e + levels_pieces rest

abbrev pub levels_decls : Decls → ℕ
levels_decls NoDecl = 0
levels_decls (DeclareDefault x more) = levels_decls more
levels_decls (DeclareVariable x initial more) = levels_value initial + levels_decls more
levels_decls (DeclareConstant x initial more) = levels_value initial + levels_decls more
levels_decls (Mentions es more) = levels_decls more

abbrev mutual
  pub levels_stmt : Stmt → ℕ
  levels_stmt Null = 0
  levels_stmt (Assign at r x value) = levels_selections x + levels_value value
  levels_stmt (CallProcedure at callee sub actuals) = levels_actuals actuals
  levels_stmt (Exit loop condition) = levels_optional condition
  levels_stmt Return = 0
  levels_stmt (ReturnValue value) = levels_value value
  levels_stmt (Raise reason) = 0
  levels_stmt Reraise = 0
  levels_stmt (IfThen condition stmts otherwise) = levels_expr condition + (levels_all stmts + levels_all otherwise)
  levels_stmt (Case e alternatives) = levels_expr e + levels_cases alternatives
  levels_stmt (Loop number condition stmts) = levels_optional condition + levels_all stmts
  levels_stmt (For number iteration stmts) = levels_iteration iteration + levels_all stmts
  levels_stmt (ParallelFor number site chunk iteration stmts) = suc (levels_chunk chunk + (levels_iteration iteration + levels_all stmts))
  levels_stmt (Parallel site count arms) = suc (levels_optional count + levels_arms arms)
  levels_stmt (Block decls stmts handlers) = levels_decls decls + (levels_all stmts + levels_handlers handlers)
  levels_stmt (Put at callee pieces line) = levels_pieces pieces
  levels_stmt (Get at callee first r x scalar) = levels_selections x

  pub levels_all : Stmts → ℕ
  levels_all End = 0
  levels_all (Then s ss) = levels_stmt s + levels_all ss

  pub levels_cases : Alternatives → ℕ
  levels_cases NoAlternative = 0
  levels_cases (Alternative others choices mentions stmts rest) = levels_all stmts + levels_cases rest

  pub levels_arms : Arms → ℕ
  levels_arms NoArm = 0
  levels_arms (Arm stmts rest) = levels_all stmts + levels_arms rest

  pub levels_handlers : Handlers → ℕ
  levels_handlers NoHandler = 0
  levels_handlers (Handler handled stmts rest) = levels_all stmts + levels_handlers rest

-- ---- with the strings in the table

module _ (T : List ℕ → Type 0) where
  mutual
    t_expr : (n : ℕ) (x : Expr) → levels_expr x ≤ n → TabledExpr T n x
    t_expr n (Static at value literal mentions) t = tt
    t_expr n (Variable at r x scalar) t = let z : levels_selections x ≤ n = t in t_selections n x (omega (arith, z))
    t_expr n (Constant at r x scalar) t = let z : levels_selections x ≤ n = t in t_selections n x (omega (arith, z))
    t_expr n (Parameter at k) t = tt
    t_expr n (Target at scalar) t = tt
    t_expr n (Group e) t = let z : levels_expr e ≤ n = t in t_expr n e (omega (arith, z))
    t_expr n (Unary at sign class e) t = let z : levels_expr e ≤ n = t in t_expr n e (omega (arith, z))
    t_expr n (Binary at op class e f) t = let z : levels_expr e + levels_expr f ≤ n = t in (t_expr n e (omega (arith, z)), t_expr n f (omega (arith, z)))
    t_expr n (AndThen e f) t = let z : levels_expr e + levels_expr f ≤ n = t in (t_expr n e (omega (arith, z)), t_expr n f (omega (arith, z)))
    t_expr n (OrElse e f) t = let z : levels_expr e + levels_expr f ≤ n = t in (t_expr n e (omega (arith, z)), t_expr n f (omega (arith, z)))
    t_expr n (Relation class comparison e f) t = let z : levels_expr e + levels_expr f ≤ n = t in (t_expr n e (omega (arith, z)), t_expr n f (omega (arith, z)))
    t_expr n (Membership class negated e low high) t = let z : levels_expr e + (levels_expr low + levels_expr high) ≤ n = t in (t_expr n e (omega (arith, z)), t_expr n low (omega (arith, z)), t_expr n high (omega (arith, z)))
    t_expr n (If condition value otherwise) t = let z : levels_expr condition + (levels_expr value + levels_expr otherwise) ≤ n = t in (t_expr n condition (omega (arith, z)), t_expr n value (omega (arith, z)), t_expr n otherwise (omega (arith, z)))
    t_expr n (Call at callee sub actuals) t = let z : levels_actuals actuals ≤ n = t in t_actuals n actuals (omega (arith, z))
    t_expr n (Convert check e) t = let z : levels_expr e ≤ n = t in t_expr n e (omega (arith, z))
    t_expr n (Reduction at attribute by initial None chunk iteration value) t = let z : levels_expr initial + (levels_iteration iteration + levels_expr value) ≤ n = t in (t_expr n initial (omega (arith, z)), t_iteration n iteration (omega (arith, z)), t_expr n value (omega (arith, z)))
    t_expr zero (Reduction at attribute by initial (Some site) chunk iteration value) t = absurd (let z : suc (levels_expr initial + (levels_chunk chunk + (levels_iteration iteration + levels_expr value))) ≤ 0 = t in omega (arith, z))
    t_expr (suc n) (Reduction at attribute by initial (Some site) chunk iteration value) t = let z : suc (levels_expr initial + (levels_chunk chunk + (levels_iteration iteration + levels_expr value))) ≤ suc n = t in (t_expr n initial (omega (arith, z)), t_chunk n chunk (omega (arith, z)), t_iteration n iteration (omega (arith, z)), t_expr n value (omega (arith, z)))

    t_optional : (n : ℕ) (x : Optional) → levels_optional x ≤ n → TabledOptional T n x
    t_optional n Absent t = tt
    t_optional n (Present e) t = let z : levels_expr e ≤ n = t in t_expr n e (omega (arith, z))

    t_selections : (n : ℕ) (x : Selections) → levels_selections x ≤ n → TabledSelections T n x
    t_selections n Whole t = tt
    t_selections n (Field number offset rest) t = let z : levels_selections rest ≤ n = t in t_selections n rest (omega (arith, z))
    t_selections n (Index at e low high stride rest) t = let z : levels_expr e + levels_selections rest ≤ n = t in (t_expr n e (omega (arith, z)), t_selections n rest (omega (arith, z)))

    t_actuals : (n : ℕ) (x : Actuals) → levels_actuals x ≤ n → TabledActuals T n x
    t_actuals n NoActual t = tt
    t_actuals n (In f value rest) t = let z : levels_value value + levels_actuals rest ≤ n = t in (t_value n value (omega (arith, z)), t_actuals n rest (omega (arith, z)))
    t_actuals n (InOut f at r x inner outer rest) t = let z : levels_selections x + levels_actuals rest ≤ n = t in (t_selections n x (omega (arith, z)), t_actuals n rest (omega (arith, z)))
    t_actuals n (Out f at r x inner outer rest) t = let z : levels_selections x + levels_actuals rest ≤ n = t in (t_selections n x (omega (arith, z)), t_actuals n rest (omega (arith, z)))
    t_actuals n (CompositeInOut f at r x subtype rest) t = let z : levels_selections x + levels_actuals rest ≤ n = t in (t_selections n x (omega (arith, z)), t_actuals n rest (omega (arith, z)))
    t_actuals n (CompositeOut f at r x subtype rest) t = let z : levels_selections x + levels_actuals rest ≤ n = t in (t_selections n x (omega (arith, z)), t_actuals n rest (omega (arith, z)))

    t_value : (n : ℕ) (x : Value) → levels_value x ≤ n → TabledValue T n x
    t_value n (Number check e) t = let z : levels_expr e ≤ n = t in t_expr n e (omega (arith, z))
    t_value n (Cells c) t = let z : levels_composite c ≤ n = t in t_composite n c (omega (arith, z))

    t_composite : (n : ℕ) (x : Composite) → levels_composite x ≤ n → TabledComposite T n x
    t_composite n (WholeVariable at r x subtype) t = let z : levels_selections x ≤ n = t in t_selections n x (omega (arith, z))
    t_composite n (WholeConstant at r x subtype) t = let z : levels_selections x ≤ n = t in t_selections n x (omega (arith, z))
    t_composite n (WholeTarget at subtype) t = tt
    t_composite n (CompositeIf condition value otherwise) t = let z : levels_expr condition + (levels_composite value + levels_composite otherwise) ≤ n = t in (t_expr n condition (omega (arith, z)), t_composite n value (omega (arith, z)), t_composite n otherwise (omega (arith, z)))
    t_composite n (Aggregate at size associations) t = let z : levels_associations associations ≤ n = t in t_associations n associations (omega (arith, z))

    t_associations : (n : ℕ) (x : Associations) → levels_associations x ≤ n → TabledAssociations T n x
    t_associations n NoAssociation t = tt
    t_associations n (Association runs iterated mentions value rest) t = let z : levels_value value + levels_associations rest ≤ n = t in (t_value n value (omega (arith, z)), t_associations n rest (omega (arith, z)))

    t_iteration : (n : ℕ) (x : Iteration) → levels_iteration x ≤ n → TabledIteration T n x
    t_iteration n (Range k reverse low high check filter) t = let z : levels_expr low + (levels_expr high + levels_optional filter) ≤ n = t in (t_expr n low (omega (arith, z)), t_expr n high (omega (arith, z)), t_optional n filter (omega (arith, z)))
    t_iteration n (Components k constant at r x number stride dimensions filter) t = let z : levels_selections x + levels_optional filter ≤ n = t in (t_selections n x (omega (arith, z)), t_optional n filter (omega (arith, z)))

    t_chunk : (n : ℕ) (x : Chunk) → levels_chunk x ≤ n → TabledChunk T n x
    t_chunk n NoChunk t = tt
    t_chunk n (Count e) t = let z : levels_expr e ≤ n = t in t_expr n e (omega (arith, z))
    t_chunk n (Each k low high check) t = let z : levels_expr low + levels_expr high ≤ n = t in (t_expr n low (omega (arith, z)), t_expr n high (omega (arith, z)))

  t_pieces : (n : ℕ) (x : Pieces) → ((bytes : List ℕ) → IsOne bytes (pieces_texts x) → T bytes) → levels_pieces x ≤ n → TabledPieces T n x
  t_pieces n NoPiece h t = tt
  t_pieces n (Text bytes rest) h t = let z : levels_pieces rest ≤ n = t in (h bytes (inl refl), t_pieces n rest (λ b o. h b (inr o)) (omega (arith, z)))
  t_pieces n (Image class e rest) h t = let z : levels_expr e + levels_pieces rest ≤ n = t in (t_expr n e (omega (arith, z)), t_pieces n rest h (omega (arith, z)))
  t_pieces n (Padded class e most rest) h t = let z : levels_expr e + levels_pieces rest ≤ n = t in (t_expr n e (omega (arith, z)), t_pieces n rest h (omega (arith, z)))

  t_decls : (n : ℕ) (x : Decls) → levels_decls x ≤ n → TabledDecls T n x
  t_decls n NoDecl t = tt
  t_decls n (DeclareDefault x more) t = let z : levels_decls more ≤ n = t in t_decls n more (omega (arith, z))
  t_decls n (DeclareVariable x initial more) t = let z : levels_value initial + levels_decls more ≤ n = t in (t_value n initial (omega (arith, z)), t_decls n more (omega (arith, z)))
  t_decls n (DeclareConstant x initial more) t = let z : levels_value initial + levels_decls more ≤ n = t in (t_value n initial (omega (arith, z)), t_decls n more (omega (arith, z)))
  t_decls n (Mentions es more) t = let z : levels_decls more ≤ n = t in t_decls n more (omega (arith, z))

  mutual
    unfolding stmt_texts

    pub t_stmt : (n : ℕ) (x : Stmt) → ((bytes : List ℕ) → IsOne bytes (stmt_texts x) → T bytes) → levels_stmt x ≤ n → TabledStmt T n x
    t_stmt n Null h t = tt
    t_stmt n (Assign at r x value) h t = let z : levels_selections x + levels_value value ≤ n = t in (t_selections n x (omega (arith, z)), t_value n value (omega (arith, z)))
    t_stmt n (CallProcedure at callee sub actuals) h t = let z : levels_actuals actuals ≤ n = t in t_actuals n actuals (omega (arith, z))
    t_stmt n (Exit loop condition) h t = let z : levels_optional condition ≤ n = t in t_optional n condition (omega (arith, z))
    t_stmt n Return h t = tt
    t_stmt n (ReturnValue value) h t = let z : levels_value value ≤ n = t in t_value n value (omega (arith, z))
    t_stmt n (Raise reason) h t = tt
    t_stmt n Reraise h t = tt
    t_stmt n (IfThen condition stmts otherwise) h t = let z : levels_expr condition + (levels_all stmts + levels_all otherwise) ≤ n = t in (t_expr n condition (omega (arith, z)), t_all n stmts (λ b o. h b (one_left b (texts_in stmts) (texts_in otherwise) o)) (omega (arith, z)), t_all n otherwise (λ b o. h b (one_right b (texts_in stmts) (texts_in otherwise) o)) (omega (arith, z)))
    t_stmt n (Case e alternatives) h t = let z : levels_expr e + levels_cases alternatives ≤ n = t in (t_expr n e (omega (arith, z)), t_cases n alternatives h (omega (arith, z)))
    t_stmt n (Loop number condition stmts) h t = let z : levels_optional condition + levels_all stmts ≤ n = t in (t_optional n condition (omega (arith, z)), t_all n stmts h (omega (arith, z)))
    t_stmt n (For number iteration stmts) h t = let z : levels_iteration iteration + levels_all stmts ≤ n = t in (t_iteration n iteration (omega (arith, z)), t_all n stmts h (omega (arith, z)))
    t_stmt zero (ParallelFor number site chunk iteration stmts) h t = absurd (let z : suc (levels_chunk chunk + (levels_iteration iteration + levels_all stmts)) ≤ 0 = t in omega (arith, z))
    t_stmt (suc n) (ParallelFor number site chunk iteration stmts) h t = let z : suc (levels_chunk chunk + (levels_iteration iteration + levels_all stmts)) ≤ suc n = t in (t_chunk n chunk (omega (arith, z)), t_iteration n iteration (omega (arith, z)), t_all n stmts h (omega (arith, z)))
    t_stmt zero (Parallel site count arms) h t = absurd (let z : suc (levels_optional count + levels_arms arms) ≤ 0 = t in omega (arith, z))
    t_stmt (suc n) (Parallel site count arms) h t = let z : suc (levels_optional count + levels_arms arms) ≤ suc n = t in (t_optional n count (omega (arith, z)), t_arms n arms h (omega (arith, z)))
    t_stmt n (Block decls stmts handlers) h t = let z : levels_decls decls + (levels_all stmts + levels_handlers handlers) ≤ n = t in (t_decls n decls (omega (arith, z)), t_all n stmts (λ b o. h b (one_left b (texts_in stmts) (handler_texts handlers) o)) (omega (arith, z)), t_handlers n handlers (λ b o. h b (one_right b (texts_in stmts) (handler_texts handlers) o)) (omega (arith, z)))
    t_stmt n (Put at callee pieces line) h t = let z : levels_pieces pieces ≤ n = t in t_pieces n pieces h (omega (arith, z))
    t_stmt n (Get at callee first r x scalar) h t = let z : levels_selections x ≤ n = t in t_selections n x (omega (arith, z))

    t_all : (n : ℕ) (x : Stmts) → ((bytes : List ℕ) → IsOne bytes (texts_in x) → T bytes) → levels_all x ≤ n → TabledAll T n x
    t_all n End h t = tt
    t_all n (Then s ss) h t = let z : levels_stmt s + levels_all ss ≤ n = t in (t_stmt n s (λ b o. h b (one_left b (stmt_texts s) (texts_in ss) o)) (omega (arith, z)), t_all n ss (λ b o. h b (one_right b (stmt_texts s) (texts_in ss) o)) (omega (arith, z)))

    t_cases : (n : ℕ) (x : Alternatives) → ((bytes : List ℕ) → IsOne bytes (case_texts x) → T bytes) → levels_cases x ≤ n → TabledAlternatives T n x
    t_cases n NoAlternative h t = tt
    t_cases n (Alternative others choices mentions stmts rest) h t = let z : levels_all stmts + levels_cases rest ≤ n = t in (t_all n stmts (λ b o. h b (one_left b (texts_in stmts) (case_texts rest) o)) (omega (arith, z)), t_cases n rest (λ b o. h b (one_right b (texts_in stmts) (case_texts rest) o)) (omega (arith, z)))

    t_arms : (n : ℕ) (x : Arms) → ((bytes : List ℕ) → IsOne bytes (arm_texts x) → T bytes) → levels_arms x ≤ n → TabledArms T n x
    t_arms n NoArm h t = tt
    t_arms n (Arm stmts rest) h t = let z : levels_all stmts + levels_arms rest ≤ n = t in (t_all n stmts (λ b o. h b (one_left b (texts_in stmts) (arm_texts rest) o)) (omega (arith, z)), t_arms n rest (λ b o. h b (one_right b (texts_in stmts) (arm_texts rest) o)) (omega (arith, z)))

    t_handlers : (n : ℕ) (x : Handlers) → ((bytes : List ℕ) → IsOne bytes (handler_texts x) → T bytes) → levels_handlers x ≤ n → TabledHandlers T n x
    t_handlers n NoHandler h t = tt
    t_handlers n (Handler handled stmts rest) h t = let z : levels_all stmts + levels_handlers rest ≤ n = t in (t_all n stmts (λ b o. h b (one_left b (texts_in stmts) (handler_texts rest) o)) (omega (arith, z)), t_handlers n rest (λ b o. h b (one_right b (texts_in stmts) (handler_texts rest) o)) (omega (arith, z)))
