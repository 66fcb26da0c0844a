-- A construct's number stands once in a program, so that constructs of one number are the same (5.5, 5.6.1, 4.5.10).
use Rattle.std.proofs.Common.{◌≡◌, ℕ, zero, suc, ◌+◌, ◌≤◌, List, [], ◌∷◌, ◌⊎◌, inl, inr, ⊎_elim, Some, None, cond, refl, sym, ap, ◌∙◌, subst, arith, le_refl, eq-eqb}
use Rattle.typed_tree.specs.declared.expressions.Reducer.{Reducer}
use Rattle.typed_tree.specs.declared.expressions.Reducer.TheVariants.{Operator, Function}
use Rattle.typed_tree.specs.Syntax.{Expr, Static, Variable, Constant, Parameter, Target, Group, Unary, Binary, AndThen, OrElse, Relation, Membership, If, Call, Convert, Reduction, Exprs, NoExpr, AlsoExpr, Optional, Absent, Present, Selections, Whole, Field, Index, Actuals, NoActual, In, InOut, Out, CompositeInOut, CompositeOut, Value, Number, Cells, Composite, WholeVariable, WholeConstant, WholeTarget, CompositeIf, Aggregate, Associations, NoAssociation, Association, Iteration, Range, Components, Chunk, NoChunk, Count, Each, Pieces, NoPiece, Text, Image, Padded, Decls, NoDecl, DeclareDefault, DeclareVariable, DeclareConstant, Mentions, Stmt, Null, Assign, CallProcedure, Exit, Return, ReturnValue, Raise, Reraise, IfThen, Case, Loop, For, ParallelFor, Parallel, Block, Put, Get, Stmts, End, Then, Alternatives, NoAlternative, Alternative, Arms, NoArm, Arm, Handlers, NoHandler, Handler, Body, Sub, Subtype, Program}
use Rattle.typed_sites.specs.Sites.{in_number, in_expr, in_exprs, in_optional, in_selections, in_actuals, in_value, in_composite, in_associations, in_iteration, in_chunk, in_pieces, in_decls, in_stmt, in_stmts, in_alternatives, in_arms, in_handlers, in_body, in_subs, in_program, SitesAreDistinct}
use Rattle.ada_meaning.specs.Meaning.{sub_at}
use Rattle.check_effects.specs.Effects.{Access, Roles, unknown, forget, name, Construct, LoopOf, BlockOf, ReductionOf, Item, Touches, Calls, Blocks, Holds, InReducer, InExpr, InExprs, InOptional, InSelections, InActuals, InValue, InComposite, InAssociations, InCourse, InFilter, InChunk, InPieces, InDecls, InStmt, InAll, InAlternatives, InArm, InHandlers, InBody, InCallee, iterated_hidden, course_hidden, chunk_hidden}
use Rattle.check_effects.specs.Conflicts.{InProgram}
use Rattle.check_effects.specs.Covered.{site_of}

-- each of some constructs has its number counted, and where that stands once there is no other of it
record Once (P : Construct → Type 0) (n : ℕ → ℕ) : Type 0 where
  pub counted : (k : Construct) → P k → 1 ≤ n (site_of k)
  pub same : (k j : Construct) → P k → P j → site_of k ≡ site_of j → n (site_of k) ≤ 1 → k ≡ j

no_touch : {k : Construct} {at : ℕ} {a : Access} → Holds k ≡ Touches at a → ⊥
no_touch e = cc

no_call : {k : Construct} {at callee sub : ℕ} → Holds k ≡ Calls at callee sub → ⊥
no_call e = cc

no_block : {k : Construct} {at callee : ℕ} → Holds k ≡ Blocks at callee → ⊥
no_block e = cc

held_same : {k j : Construct} → Holds k ≡ Holds j → k ≡ j
held_same e = cc

number_same : (site : ℕ) → in_number site site ≡ 1
number_same site = ap (λ b. cond b 1 0) (eq-eqb site site refl)

once_none : (n : ℕ → ℕ) → Once (λ k. ⊥) n
once_none n = record { counted = λ k h. absurd h; same = λ k j h g e le. absurd h }

once_no : {P : Construct → Type 0} (n : ℕ → ℕ) → ((k : Construct) → P k → ⊥) → Once P n
once_no n never = record { counted = λ k h. absurd (never k h); same = λ k j h g e le. absurd (never k h) }

once_or : {P Q : Construct → Type 0} {m n : ℕ → ℕ} → Once P m → Once Q n → Once (λ k. P k ⊎ Q k) (λ s. m s + n s)
once_or {P} {Q} {m} {n} a b = record { counted = count; same = alike }
  where
    count : (k : Construct) → P k ⊎ Q k → 1 ≤ m (site_of k) + n (site_of k)
    count k (inl h) = let c = a.counted k h in omega (arith, c)
    count k (inr h) = let c = b.counted k h in omega (arith, c)

    alike : (k j : Construct) → P k ⊎ Q k → P j ⊎ Q j → site_of k ≡ site_of j → m (site_of k) + n (site_of k) ≤ 1 → k ≡ j
    alike k j (inl h) (inl g) e le = a.same k j h g e (omega (arith, le))
    alike k j (inl h) (inr g) e le = let c = a.counted k h in let d = subst (λ z. 1 ≤ n z) (sym e) (b.counted j g) in absurd (omega (arith, c, d, le))
    alike k j (inr h) (inl g) e le = let c = b.counted k h in let d = subst (λ z. 1 ≤ m z) (sym e) (a.counted j g) in absurd (omega (arith, c, d, le))
    alike k j (inr h) (inr g) e le = b.same k j h g e (omega (arith, le))

once_as : {P Q : Construct → Type 0} {m n : ℕ → ℕ} → Once P m → ((k : Construct) → Q k → P k) → ((s : ℕ) → m s ≤ n s) → Once Q n
once_as {P} {Q} {m} {n} a to le = record { counted = λ k h. (let c = a.counted k (to k h) in let l = le (site_of k) in omega (arith, c, l)); same = λ k j h g e few. a.same k j (to k h) (to j g) e (let l = le (site_of k) in omega (arith, l, few)) }

-- beside what holds no construct
once_beside : {P Q : Construct → Type 0} {n : ℕ → ℕ} → ((k : Construct) → P k → ⊥) → Once Q n → Once (λ k. P k ⊎ Q k) n
once_beside {P} {Q} never b = once_as b (λ k h. ⊎_elim (λ p. absurd (never k p)) (λ q. q) h) (λ s. le_refl _)

-- one of a number, beside others
once_one : {Q : Construct → Type 0} {n : ℕ → ℕ} (j : Construct) → Once Q n → Once (λ k. (Holds k ≡ Holds j) ⊎ Q k) (λ s. in_number s (site_of j) + n s)
once_one {Q} {n} j b = once_or {m = λ s. in_number s (site_of j)} (record {
  counted = λ k h. (let e : site_of k ≡ site_of j = ap site_of (held_same h) in let c : in_number (site_of k) (site_of j) ≡ 1 = ap (λ s. in_number s (site_of j)) e ∙ number_same (site_of j) in omega (arith, c));
  same = λ k l h g e le. held_same h ∙ sym (held_same g);
}) b

in_reducer : (by : Reducer) (k : Construct) → InReducer by (Holds k) → ⊥
in_reducer (Operator at op class) k h = h
in_reducer (Function at s x y) k h = no_call h

-- what is counted of an iteration, apart
abbrev once_before : ℕ → Iteration → ℕ
once_before s (Range k reverse low high check filter) = in_expr s low + in_expr s high
once_before s (Components k constant at from selections count stride dimensions filter) = in_selections s selections

abbrev each_turn : ℕ → Iteration → ℕ
each_turn s (Range k reverse low high check filter) = in_optional s filter
each_turn s (Components k constant at from selections count stride dimensions filter) = in_optional s filter

both : (it : Iteration) (s : ℕ) → once_before s it + each_turn s it ≡ in_iteration s it
both (Range k reverse low high check filter) s = let x : ℕ = in_expr s low in let y : ℕ = in_expr s high in let z : ℕ = in_optional s filter in let e : x + y + z ≡ x + (y + z) = omega arith in e
both (Components k constant at from selections count stride dimensions filter) s = refl

module _ (subtypes : List Subtype) where
  mutual
    once_expr : (r : Roles) (e : Expr) → Once (λ k. InExpr subtypes r e (Holds k)) (λ s. in_expr s e)
    once_expr r (Static at value literal mentions) = once_exprs r mentions
    once_expr r (Variable at from selections scalar) = once_beside (λ k h. no_touch h) (once_select r selections)
    once_expr r (Constant at from selections scalar) = once_select r selections
    once_expr r (Parameter at k) = once_none _
    once_expr r (Target at scalar) = once_no _ (λ k h. no_touch h)
    once_expr r (Group e) = once_expr r e
    once_expr r (Unary at o c e) = once_expr r e
    once_expr r (Binary at o c e f) = once_or (once_expr r e) (once_expr r f)
    once_expr r (AndThen e f) = once_or (once_expr r e) (once_expr r f)
    once_expr r (OrElse e f) = once_or (once_expr r e) (once_expr r f)
    once_expr r (Relation c o e f) = once_or (once_expr r e) (once_expr r f)
    once_expr r (Membership c n e low high) = once_or (once_expr r e) (once_or (once_expr r low) (once_expr r high))
    once_expr r (If c v o) = once_or (once_expr r c) (once_or (once_expr r v) (once_expr r o))
    once_expr r (Call at callee s actuals) = once_beside (λ k h. no_call h) (once_actuals r actuals)
    once_expr r (Convert check e) = once_expr r e
    once_expr r (Reduction at a by initial None chunk it value) =
        once_as (once_beside (in_reducer by) (once_or (once_expr r initial) (once_or (once_course r it) (once_or (once_filter (course_hidden r it r) it) (once_expr (course_hidden r it r) value)))))
        (λ k h. h)
        (λ s. let b = both it s in let x : ℕ = in_expr s initial in let c : ℕ = once_before s it in let f : ℕ = each_turn s it in let y : ℕ = in_expr s value in let i : ℕ = in_iteration s it in let h : ℕ = in_chunk s chunk in
        let e : c + f ≡ i = b in let z : x + (c + (f + y)) ≤ 0 + (x + (h + (i + y))) = omega (arith, e) in z)
    once_expr r (Reduction at a by initial (Some site) chunk it value) =
        once_as (once_one (ReductionOf site (forget r) by chunk it value) (once_beside (in_reducer by) (once_or (once_expr r initial) (once_or (once_chunk r chunk) (once_or (once_course r it) (once_or (once_filter (course_hidden r it (chunk_hidden chunk r)) it) (once_expr (course_hidden r it (chunk_hidden chunk r)) value)))))))
        (λ k h. h)
        (λ s. let b = both it s in let x : ℕ = in_expr s initial in let c : ℕ = once_before s it in let f : ℕ = each_turn s it in let y : ℕ = in_expr s value in let i : ℕ = in_iteration s it in let h : ℕ = in_chunk s chunk in let w : ℕ = in_number s site in
        let e : c + f ≡ i = b in let z : w + (x + (h + (c + (f + y)))) ≤ w + (x + (h + (i + y))) = omega (arith, e) in z)

    once_exprs : (r : Roles) (es : Exprs) → Once (λ k. InExprs subtypes r es (Holds k)) (λ s. in_exprs s es)
    once_exprs r NoExpr = once_none _
    once_exprs r (AlsoExpr e es) = once_or (once_expr r e) (once_exprs r es)

    once_optional : (r : Roles) (e : Optional) → Once (λ k. InOptional subtypes r e (Holds k)) (λ s. in_optional s e)
    once_optional r Absent = once_none _
    once_optional r (Present e) = once_expr r e

    once_select : (r : Roles) (g : Selections) → Once (λ k. InSelections subtypes r g (Holds k)) (λ s. in_selections s g)
    once_select r Whole = once_none _
    once_select r (Field n o g) = once_select r g
    once_select r (Index at e low high stride g) = once_or (once_expr r e) (once_select r g)

    once_actuals : (r : Roles) (a : Actuals) → Once (λ k. InActuals subtypes r a (Holds k)) (λ s. in_actuals s a)
    once_actuals r NoActual = once_none _
    once_actuals r (In f v a) = once_or (once_value r v) (once_actuals r a)
    once_actuals r (InOut f at from g x y a) = once_beside (λ k h. no_touch h) (once_beside (λ k h. no_touch h) (once_or (once_select r g) (once_actuals r a)))
    once_actuals r (Out f at from g x y a) = once_beside (λ k h. no_touch h) (once_or (once_select r g) (once_actuals r a))
    once_actuals r (CompositeInOut f at from g t a) = once_beside (λ k h. no_touch h) (once_beside (λ k h. no_touch h) (once_or (once_select r g) (once_actuals r a)))
    once_actuals r (CompositeOut f at from g t a) = once_beside (λ k h. no_touch h) (once_beside (λ k h. no_touch h) (once_or (once_select r g) (once_actuals r a)))

    once_value : (r : Roles) (v : Value) → Once (λ k. InValue subtypes r v (Holds k)) (λ s. in_value s v)
    once_value r (Number c e) = once_expr r e
    once_value r (Cells c) = once_composite r c

    once_composite : (r : Roles) (c : Composite) → Once (λ k. InComposite subtypes r c (Holds k)) (λ s. in_composite s c)
    once_composite r (WholeVariable at from g t) = once_beside (λ k h. no_touch h) (once_select r g)
    once_composite r (WholeConstant at from g t) = once_select r g
    once_composite r (WholeTarget at t) = once_no _ (λ k h. no_touch h)
    once_composite r (CompositeIf e c d) = once_or (once_expr r e) (once_or (once_composite r c) (once_composite r d))
    once_composite r (Aggregate at n a) = once_associations r a

    once_associations : (r : Roles) (a : Associations) → Once (λ k. InAssociations subtypes r a (Holds k)) (λ s. in_associations s a)
    once_associations r NoAssociation = once_none _
    once_associations r (Association runs it es v a) =
        once_as (once_or (once_exprs r es) (once_or (once_value (iterated_hidden it r) v) (once_associations r a))) (λ k h. h)
        (λ s. let x : ℕ = in_exprs s es in let y : ℕ = in_value s v in let z : ℕ = in_associations s a in let e : x + (y + z) ≤ x + y + z = omega arith in e)

    once_course : (r : Roles) (it : Iteration) → Once (λ k. InCourse subtypes r it (Holds k)) (λ s. once_before s it)
    once_course r (Range x o low high c f) = once_or (once_expr r low) (once_expr r high)
    once_course r (Components x o at from g n s d f) = once_select r g

    once_filter : (r : Roles) (it : Iteration) → Once (λ k. InFilter subtypes r it (Holds k)) (λ s. each_turn s it)
    once_filter r (Range x o low high c f) = once_optional r f
    once_filter r (Components x o at from g n s d f) = once_optional r f

    once_chunk : (r : Roles) (c : Chunk) → Once (λ k. InChunk subtypes r c (Holds k)) (λ s. in_chunk s c)
    once_chunk r NoChunk = once_none _
    once_chunk r (Count e) = once_expr r e
    once_chunk r (Each x low high c) = once_or (once_expr r low) (once_expr r high)

  once_pieces : (r : Roles) (p : Pieces) → Once (λ k. InPieces subtypes r p (Holds k)) (λ s. in_pieces s p)
  once_pieces r NoPiece = once_none _
  once_pieces r (Text t p) = once_pieces r p
  once_pieces r (Image c e p) = once_or (once_expr r e) (once_pieces r p)
  once_pieces r (Padded c e w p) =
      once_as (once_or (once_expr r e) (once_or (once_expr r w) (once_pieces r p))) (λ k h. h)
      (λ s. let x : ℕ = in_expr s e in let y : ℕ = in_expr s w in let z : ℕ = in_pieces s p in let q : x + (y + z) ≤ x + y + z = omega arith in q)

  once_decls : (r : Roles) (d : Decls) (rest : Item → Type 0) (n : ℕ → ℕ) → Once (λ k. rest (Holds k)) n → Once (λ k. InDecls subtypes r d rest (Holds k)) (λ s. in_decls s d + n s)
  once_decls r NoDecl rest n o = once_as o (λ k h. h) (λ s. let z : ℕ = n s in let e : z ≤ 0 + z = omega arith in e)
  once_decls r (DeclareDefault x d) rest n o = once_as (once_decls r d rest n o) (λ k h. h.0) (λ s. le_refl _)
  once_decls r (DeclareVariable x v d) rest n o =
      once_as (once_or (once_value r v) (once_decls r d rest n o)) (λ k h. ⊎_elim (λ h. inl h) (λ h. inr h.0) h)
      (λ s. let x : ℕ = in_value s v in let y : ℕ = in_decls s d in let z : ℕ = n s in let q : x + (y + z) ≤ x + y + z = omega arith in q)
  once_decls r (DeclareConstant x v d) rest n o =
      once_as (once_or (once_value r v) (once_decls r d rest n o)) (λ k h. h)
      (λ s. let x : ℕ = in_value s v in let y : ℕ = in_decls s d in let z : ℕ = n s in let q : x + (y + z) ≤ x + y + z = omega arith in q)
  once_decls r (Mentions es d) rest n o =
      once_as (once_or (once_exprs r es) (once_decls r d rest n o)) (λ k h. h)
      (λ s. let x : ℕ = in_exprs s es in let y : ℕ = in_decls s d in let z : ℕ = n s in let q : x + (y + z) ≤ x + y + z = omega arith in q)

  mutual
    once_stmt : (r : Roles) (x : Stmt) → Once (λ k. InStmt subtypes r x (Holds k)) (λ s. in_stmt s x)
    once_stmt r Null = once_none _
    once_stmt r (Assign at from g v) = once_beside (λ k h. no_touch h) (once_or (once_select r g) (once_value (record r { target = name r from g }) v))
    once_stmt r (CallProcedure at callee s a) = once_beside (λ k h. no_call h) (once_actuals r a)
    once_stmt r (Exit n c) = once_optional r c
    once_stmt r Return = once_none _
    once_stmt r (ReturnValue v) = once_value r v
    once_stmt r (Raise x) = once_none _
    once_stmt r Reraise = once_none _
    once_stmt r (IfThen c s t) = once_or (once_expr r c) (once_or (once_all r s) (once_all r t))
    once_stmt r (Case e a) = once_or (once_expr r e) (once_alternatives r a)
    once_stmt r (Loop n c s) = once_or (once_optional r c) (once_all r s)
    once_stmt r (For n it ss) =
        once_as (once_or (once_course r it) (once_or (once_filter (course_hidden r it r) it) (once_all (course_hidden r it r) ss))) (λ k h. h)
        (λ s. let b = both it s in let c : ℕ = once_before s it in let f : ℕ = each_turn s it in let y : ℕ = in_stmts s ss in let i : ℕ = in_iteration s it in let e : c + f ≡ i = b in let z : c + (f + y) ≤ i + y = omega (arith, e) in z)
    once_stmt r (ParallelFor n site chunk it ss) =
        once_as (once_one (LoopOf site (forget r) chunk it ss) (once_or (once_chunk r chunk) (once_or (once_course r it) (once_or (once_filter (course_hidden r it (chunk_hidden chunk r)) it) (once_all (course_hidden r it (chunk_hidden chunk r)) ss)))))
        (λ k h. h)
        (λ s. let b = both it s in let w : ℕ = in_number s site in let h : ℕ = in_chunk s chunk in let c : ℕ = once_before s it in let f : ℕ = each_turn s it in let y : ℕ = in_stmts s ss in let i : ℕ = in_iteration s it in
        let e : c + f ≡ i = b in let z : w + (h + (c + (f + y))) ≤ w + (h + (i + y)) = omega (arith, e) in z)
    once_stmt r (Parallel site n a) =
        once_one (BlockOf site (forget r) n a) (once_or (once_optional r n) (once_arms r a))
    once_stmt r (Block d s hs) = once_decls r d (λ j. InAll subtypes r s j ⊎ InHandlers subtypes r hs j) (λ n. in_stmts n s + in_handlers n hs) (once_or (once_all r s) (once_handlers r hs))
    once_stmt r (Put at callee p line) = once_beside (λ k h. no_block h) (once_pieces r p)
    once_stmt r (Get at callee first from g s) = once_beside (λ k h. no_block h) (once_beside (λ k h. no_touch h) (once_select r g))

    once_all : (r : Roles) (ss : Stmts) → Once (λ k. InAll subtypes r ss (Holds k)) (λ s. in_stmts s ss)
    once_all r End = once_none _
    once_all r (Then s ss) = once_or (once_stmt r s) (once_all r ss)

    once_alternatives : (r : Roles) (a : Alternatives) → Once (λ k. InAlternatives subtypes r a (Holds k)) (λ s. in_alternatives s a)
    once_alternatives r NoAlternative = once_none _
    once_alternatives r (Alternative o c es ss a) =
        once_as (once_or (once_exprs r es) (once_or (once_all r ss) (once_alternatives r a))) (λ k h. h)
        (λ s. let x : ℕ = in_exprs s es in let y : ℕ = in_stmts s ss in let z : ℕ = in_alternatives s a in let e : x + (y + z) ≤ x + y + z = omega arith in e)

    once_arms : (r : Roles) (a : Arms) → Once (λ k. (j : ℕ) × InArm subtypes r a j (Holds k)) (λ s. in_arms s a)
    once_arms r NoArm = once_no _ (λ k h. h.1)
    once_arms r (Arm s a) = once_as (once_or (once_all r s) (once_arms r a)) (λ k (j, h). arm k j h) (λ n. le_refl _)
      where
        arm : (k : Construct) (j : ℕ) → InArm subtypes r (Arm s a) j (Holds k) → InAll subtypes r s (Holds k) ⊎ ((j : ℕ) × InArm subtypes r a j (Holds k))
        arm k zero h = inl h
        arm k (suc j) h = inr (j, h)

    once_handlers : (r : Roles) (hs : Handlers) → Once (λ k. InHandlers subtypes r hs (Holds k)) (λ s. in_handlers s hs)
    once_handlers r NoHandler = once_none _
    once_handlers r (Handler x s hs) = once_or (once_all r s) (once_handlers r hs)

  once_body : (b : Body) → Once (λ k. InBody subtypes b (Holds k)) (λ s. in_body s b)
  once_body b = once_decls unknown b.decls (λ j. InAll subtypes unknown b.stmts j ⊎ InHandlers subtypes unknown b.handlers j) (λ n. in_stmts n b.stmts + in_handlers n b.handlers) (once_or (once_all unknown b.stmts) (once_handlers unknown b.handlers))

module _ (program : Program) where
  once_subs : (subs : List Sub) → Once (λ k. (s : ℕ) × InCallee program (sub_at subs s) (Holds k)) (λ s. in_subs s subs)
  once_subs [] = once_no _ (λ k h. h.1)
  once_subs (u ∷ us) = once_as (once_or (once_body program.subtypes u.body) (once_subs us)) (λ k (s, h). of k s h) (λ n. le_refl _)
    where
      of : (k : Construct) (s : ℕ) → InCallee program (sub_at (u ∷ us) s) (Holds k) → InBody program.subtypes u.body (Holds k) ⊎ ((s : ℕ) × InCallee program (sub_at us s) (Holds k))
      of k zero h = inl h
      of k (suc s) h = inr (s, h)

  once_program : Once (λ k. InProgram program (Holds k)) (λ s. in_program s program)
  once_program =
      once_as (once_or (once_subs program.subs) (once_body program.subtypes program.body)) (λ k h. ⊎_elim (λ h. inr h) (λ h. inl h) h) (λ s. le_refl _)

  -- two constructs of a number are one
  pub same_construct : SitesAreDistinct program → (k j : Construct) → InProgram program (Holds k) → InProgram program (Holds j) → site_of k ≡ site_of j → k ≡ j
  same_construct distinct k j h g e = once_program.same k j h g e (distinct (site_of k))
