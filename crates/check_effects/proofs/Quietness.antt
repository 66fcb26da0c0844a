-- In a program that keeps the rule on blocking calls no thread asks for input or output.
use Rattle.std.proofs.Common.{◌≡◌, ℕ, zero, suc, List, [], ◌∷◌, ◌⊎◌, inl, inr, ⊎_elim, Some, None, Bool, true, false, not, ◌&&◌, sym, subst, ap, refl, true≢false}
use Rattle.typed_tree.specs.declared.expressions.Reducer.{Reducer}
use Rattle.typed_tree.specs.declared.expressions.Reducer.TheVariants.{Operator, Function}
use Rattle.typed_tree.specs.Syntax.{Expr, Static, Variable, Constant, Parameter, Target, Group, Unary, Binary, AndThen, OrElse, Relation, Membership, If, Call, Convert, Reduction, Exprs, NoExpr, AlsoExpr, Optional, Absent, Present, Selections, Whole, Field, Index, Actuals, NoActual, In, InOut, Out, CompositeInOut, CompositeOut, Value, Number, Cells, Composite, WholeVariable, WholeConstant, WholeTarget, CompositeIf, Aggregate, Associations, NoAssociation, Association, Iteration, Range, Components, Chunk, NoChunk, Count, Each, Pieces, NoPiece, Text, Image, Padded, Decls, NoDecl, DeclareDefault, DeclareVariable, DeclareConstant, Mentions, Stmt, Null, Assign, CallProcedure, Exit, Return, ReturnValue, Raise, Reraise, IfThen, Case, Loop, For, ParallelFor, Parallel, Block, Put, Get, Stmts, End, Then, Alternatives, NoAlternative, Alternative, Arms, NoArm, Arm, Handlers, NoHandler, Handler, Body, Sub, Program}
use Rattle.ada_meaning.specs.Meaning.{sub_at}
use Rattle.ada_meaning.specs.Nonblocking.{MayCall, MayReduce, KeepsExpr, KeepsExprs, KeepsOptional, KeepsSelections, KeepsActuals, KeepsValue, KeepsComposite, KeepsAssociations, KeepsIteration, KeepsChunk, KeepsPieces, KeepsDecls, Keeps, KeepsAll, KeepsAlternatives, KeepsArms, KeepsHandlers, KeepsBody, KeepsSubs, KeepsRule, nonblocking_of}
use Rattle.check_effects.specs.Effects.{Roles, unknown, Construct, LoopOf, BlockOf, ReductionOf, Item, Touches, Calls, Blocks, Holds, InReducer, InExpr, InExprs, InOptional, InSelections, InActuals, InValue, InComposite, InAssociations, InCourse, InFilter, InChunk, InPieces, InDecls, InStmt, InAll, InAlternatives, InArm, InHandlers, InBody, InThread, InSub, InCallee, Chain}
use Rattle.check_effects.specs.Conflicts.{IsQuiet, InProgram}

module _ (program : Program) where
  abbrev marked : ℕ → Bool
  marked = nonblocking_of program.subs

  abbrev QuietOf : Construct → Type 0
  QuietOf (LoopOf site r chunk it stmts) = KeepsIteration marked it false × KeepsAll marked stmts false
  QuietOf (BlockOf site r count arms) = KeepsArms marked arms false
  QuietOf (ReductionOf site r by chunk it value) = MayReduce marked false by × KeepsIteration marked it false × KeepsExpr marked value false

  abbrev Claim : Bool → Item → Type 0
  Claim b (Touches at a) = Unit {0}
  Claim b (Calls at callee s) = MayCall marked b s
  Claim b (Blocks at callee) = b ≡ true
  Claim b (Holds k) = QuietOf k

  from_false : (b : Bool) (i : Item) → Claim false i → Claim b i
  from_false b (Touches at a) h = tt
  from_false b (Calls at callee s) h = λ e. h refl
  from_false b (Blocks at callee) h = absurd (true≢false (sym h))
  from_false b (Holds k) h = h

  touch : (b : Bool) (i : Item) {at : ℕ} {a : _} → i ≡ Touches at a → Claim b i
  touch b i e = subst (λ z. Claim b z) (sym e) tt

  kept_reducer : (by : Reducer) (b : Bool) (i : Item) → MayReduce marked b by → InReducer by i → Claim b i
  kept_reducer (Operator at op class) b i k h = absurd h
  kept_reducer (Function at s x y) b i k h = subst (λ z. Claim b z) (sym h) k

  mutual
    kept : (e : Expr) (b : Bool) (r : Roles) (i : Item) → KeepsExpr marked e b → InExpr program.subtypes r e i → Claim b i
    kept (Static at v literal mentions) b r i k h = kept_exprs mentions b r i k h
    kept (Variable at from g s) b r i k h = ⊎_elim (λ e. touch b i e) (λ h. kept_select g b r i k h) h
    kept (Constant at from g s) b r i k h = kept_select g b r i k h
    kept (Parameter at x) b r i k h = absurd h
    kept (Target at s) b r i k h = touch b i h
    kept (Group e) b r i k h = kept e b r i k h
    kept (Unary at s c e) b r i k h = kept e b r i k h
    kept (Binary at op c e f) b r i k h = ⊎_elim (λ h. kept e b r i k.0 h) (λ h. kept f b r i k.1 h) h
    kept (AndThen e f) b r i k h = ⊎_elim (λ h. kept e b r i k.0 h) (λ h. kept f b r i k.1 h) h
    kept (OrElse e f) b r i k h = ⊎_elim (λ h. kept e b r i k.0 h) (λ h. kept f b r i k.1 h) h
    kept (Relation c o e f) b r i k h = ⊎_elim (λ h. kept e b r i k.0 h) (λ h. kept f b r i k.1 h) h
    kept (Membership c n e f g) b r i k (inl h) = kept e b r i k.0 h
    kept (Membership c n e f g) b r i k (inr (inl h)) = kept f b r i k.1 h
    kept (Membership c n e f g) b r i k (inr (inr h)) = kept g b r i k.2 h
    kept (If e f g) b r i k (inl h) = kept e b r i k.0 h
    kept (If e f g) b r i k (inr (inl h)) = kept f b r i k.1 h
    kept (If e f g) b r i k (inr (inr h)) = kept g b r i k.2 h
    kept (Call at callee s a) b r i k (inl h) = subst (λ z. Claim b z) (sym h) k.0
    kept (Call at callee s a) b r i k (inr h) = kept_actuals a b r i k.1 h
    kept (Convert c e) b r i k h = kept e b r i k h
    kept (Reduction at t by e None c it v) b r i k (inl h) = kept_reducer by b i k.0 h
    kept (Reduction at t by e None c it v) b r i k (inr (inl h)) = kept e b r i k.2 h
    kept (Reduction at t by e None c it v) b r i k (inr (inr (inl h))) = kept_course it b r i k.4 h
    kept (Reduction at t by e None c it v) b r i k (inr (inr (inr (inl h)))) = kept_filter it b _ i k.4 h
    kept (Reduction at t by e None c it v) b r i k (inr (inr (inr (inr h)))) = kept v b _ i k.5 h
    kept (Reduction at t by e (Some site) c it v) b r i k (inl h) = subst (λ z. Claim b z) (sym h) (k.1, k.4, k.5)
    kept (Reduction at t by e (Some site) c it v) b r i k (inr (inl h)) = kept_reducer by b i k.0 h
    kept (Reduction at t by e (Some site) c it v) b r i k (inr (inr (inl h))) = kept e b r i k.2 h
    kept (Reduction at t by e (Some site) c it v) b r i k (inr (inr (inr (inl h)))) = from_false b i (kept_chunk c false r i k.3 h)
    kept (Reduction at t by e (Some site) c it v) b r i k (inr (inr (inr (inr (inl h))))) = from_false b i (kept_course it false r i k.4 h)
    kept (Reduction at t by e (Some site) c it v) b r i k (inr (inr (inr (inr (inr (inl h)))))) = from_false b i (kept_filter it false _ i k.4 h)
    kept (Reduction at t by e (Some site) c it v) b r i k (inr (inr (inr (inr (inr (inr h)))))) = from_false b i (kept v false _ i k.5 h)

    kept_exprs : (es : Exprs) (b : Bool) (r : Roles) (i : Item) → KeepsExprs marked es b → InExprs program.subtypes r es i → Claim b i
    kept_exprs NoExpr b r i k h = absurd h
    kept_exprs (AlsoExpr e es) b r i k h = ⊎_elim (λ h. kept e b r i k.0 h) (λ h. kept_exprs es b r i k.1 h) h

    kept_optional : (e : Optional) (b : Bool) (r : Roles) (i : Item) → KeepsOptional marked e b → InOptional program.subtypes r e i → Claim b i
    kept_optional Absent b r i k h = absurd h
    kept_optional (Present e) b r i k h = kept e b r i k h

    kept_select : (g : Selections) (b : Bool) (r : Roles) (i : Item) → KeepsSelections marked g b → InSelections program.subtypes r g i → Claim b i
    kept_select Whole b r i k h = absurd h
    kept_select (Field n o g) b r i k h = kept_select g b r i k h
    kept_select (Index at e l u s g) b r i k h = ⊎_elim (λ h. kept e b r i k.0 h) (λ h. kept_select g b r i k.1 h) h

    kept_actuals : (a : Actuals) (b : Bool) (r : Roles) (i : Item) → KeepsActuals marked a b → InActuals program.subtypes r a i → Claim b i
    kept_actuals NoActual b r i k h = absurd h
    kept_actuals (In f v a) b r i k h = ⊎_elim (λ h. kept_value v b r i k.0 h) (λ h. kept_actuals a b r i k.1 h) h
    kept_actuals (InOut f at from g x y a) b r i k (inl h) = touch b i h
    kept_actuals (InOut f at from g x y a) b r i k (inr (inl h)) = touch b i h
    kept_actuals (InOut f at from g x y a) b r i k (inr (inr (inl h))) = kept_select g b r i k.0 h
    kept_actuals (InOut f at from g x y a) b r i k (inr (inr (inr h))) = kept_actuals a b r i k.1 h
    kept_actuals (Out f at from g x y a) b r i k (inl h) = touch b i h
    kept_actuals (Out f at from g x y a) b r i k (inr (inl h)) = kept_select g b r i k.0 h
    kept_actuals (Out f at from g x y a) b r i k (inr (inr h)) = kept_actuals a b r i k.1 h
    kept_actuals (CompositeInOut f at from g t a) b r i k (inl h) = touch b i h
    kept_actuals (CompositeInOut f at from g t a) b r i k (inr (inl h)) = touch b i h
    kept_actuals (CompositeInOut f at from g t a) b r i k (inr (inr (inl h))) = kept_select g b r i k.0 h
    kept_actuals (CompositeInOut f at from g t a) b r i k (inr (inr (inr h))) = kept_actuals a b r i k.1 h
    kept_actuals (CompositeOut f at from g t a) b r i k (inl h) = touch b i h
    kept_actuals (CompositeOut f at from g t a) b r i k (inr (inl h)) = touch b i h
    kept_actuals (CompositeOut f at from g t a) b r i k (inr (inr (inl h))) = kept_select g b r i k.0 h
    kept_actuals (CompositeOut f at from g t a) b r i k (inr (inr (inr h))) = kept_actuals a b r i k.1 h

    kept_value : (v : Value) (b : Bool) (r : Roles) (i : Item) → KeepsValue marked v b → InValue program.subtypes r v i → Claim b i
    kept_value (Number c e) b r i k h = kept e b r i k h
    kept_value (Cells c) b r i k h = kept_composite c b r i k h

    kept_composite : (c : Composite) (b : Bool) (r : Roles) (i : Item) → KeepsComposite marked c b → InComposite program.subtypes r c i → Claim b i
    kept_composite (WholeVariable at from g t) b r i k h = ⊎_elim (λ e. touch b i e) (λ h. kept_select g b r i k h) h
    kept_composite (WholeConstant at from g t) b r i k h = kept_select g b r i k h
    kept_composite (WholeTarget at t) b r i k h = touch b i h
    kept_composite (CompositeIf e c d) b r i k (inl h) = kept e b r i k.0 h
    kept_composite (CompositeIf e c d) b r i k (inr (inl h)) = kept_composite c b r i k.1 h
    kept_composite (CompositeIf e c d) b r i k (inr (inr h)) = kept_composite d b r i k.2 h
    kept_composite (Aggregate at s a) b r i k h = kept_associations a b r i k h

    kept_associations : (a : Associations) (b : Bool) (r : Roles) (i : Item) → KeepsAssociations marked a b → InAssociations program.subtypes r a i → Claim b i
    kept_associations NoAssociation b r i k h = absurd h
    kept_associations (Association runs it es v a) b r i k (inl h) = kept_exprs es b r i k.0 h
    kept_associations (Association runs it es v a) b r i k (inr (inl h)) = kept_value v b _ i k.1 h
    kept_associations (Association runs it es v a) b r i k (inr (inr h)) = kept_associations a b r i k.2 h

    kept_course : (it : Iteration) (b : Bool) (r : Roles) (i : Item) → KeepsIteration marked it b → InCourse program.subtypes r it i → Claim b i
    kept_course (Range x o l u c f) b r i k h = ⊎_elim (λ h. kept l b r i k.0 h) (λ h. kept u b r i k.1 h) h
    kept_course (Components x o at from g n s d f) b r i k h = kept_select g b r i k.0 h

    kept_filter : (it : Iteration) (b : Bool) (r : Roles) (i : Item) → KeepsIteration marked it b → InFilter program.subtypes r it i → Claim b i
    kept_filter (Range x o l u c f) b r i k h = kept_optional f b r i k.2 h
    kept_filter (Components x o at from g n s d f) b r i k h = kept_optional f b r i k.1 h

    kept_chunk : (c : Chunk) (b : Bool) (r : Roles) (i : Item) → KeepsChunk marked c b → InChunk program.subtypes r c i → Claim b i
    kept_chunk NoChunk b r i k h = absurd h
    kept_chunk (Count e) b r i k h = kept e b r i k h
    kept_chunk (Each x l u c) b r i k h = ⊎_elim (λ h. kept l b r i k.0 h) (λ h. kept u b r i k.1 h) h

  kept_pieces : (p : Pieces) (b : Bool) (r : Roles) (i : Item) → KeepsPieces marked p b → InPieces program.subtypes r p i → Claim b i
  kept_pieces NoPiece b r i k h = absurd h
  kept_pieces (Text t p) b r i k h = kept_pieces p b r i k h
  kept_pieces (Image c e p) b r i k h = ⊎_elim (λ h. kept e b r i k.0 h) (λ h. kept_pieces p b r i k.1 h) h
  kept_pieces (Padded c e w p) b r i k (inl h) = kept e b r i k.0 h
  kept_pieces (Padded c e w p) b r i k (inr (inl h)) = kept w b r i k.1 h
  kept_pieces (Padded c e w p) b r i k (inr (inr h)) = kept_pieces p b r i k.2 h

  kept_decls : (d : Decls) (b : Bool) (r : Roles) (i : Item) (rest : Item → Type 0) → KeepsDecls marked d b → (rest i → Claim b i) → InDecls program.subtypes r d rest i → Claim b i
  kept_decls NoDecl b r i rest k f h = f h
  kept_decls (DeclareDefault x d) b r i rest k f h = kept_decls d b r i rest k f h.0
  kept_decls (DeclareVariable x v d) b r i rest k f h = ⊎_elim (λ h. kept_value v b r i k.0 h) (λ h. kept_decls d b r i rest k.1 f h.0) h
  kept_decls (DeclareConstant x v d) b r i rest k f h = ⊎_elim (λ h. kept_value v b r i k.0 h) (λ h. kept_decls d b r i rest k.1 f h) h
  kept_decls (Mentions es d) b r i rest k f h = ⊎_elim (λ h. kept_exprs es b r i k.0 h) (λ h. kept_decls d b r i rest k.1 f h) h

  mutual
    kept_stmt : (s : Stmt) (b : Bool) (r : Roles) (i : Item) → Keeps marked s b → InStmt program.subtypes r s i → Claim b i
    kept_stmt Null b r i k h = absurd h
    kept_stmt (Assign at from g v) b r i k (inl h) = touch b i h
    kept_stmt (Assign at from g v) b r i k (inr (inl h)) = kept_select g b r i k.0 h
    kept_stmt (Assign at from g v) b r i k (inr (inr h)) = kept_value v b _ i k.1 h
    kept_stmt (CallProcedure at callee s a) b r i k (inl h) = subst (λ z. Claim b z) (sym h) k.0
    kept_stmt (CallProcedure at callee s a) b r i k (inr h) = kept_actuals a b r i k.1 h
    kept_stmt (Exit n c) b r i k h = kept_optional c b r i k h
    kept_stmt Return b r i k h = absurd h
    kept_stmt (ReturnValue v) b r i k h = kept_value v b r i k h
    kept_stmt (Raise x) b r i k h = absurd h
    kept_stmt Reraise b r i k h = absurd h
    kept_stmt (IfThen c s t) b r i k (inl h) = kept c b r i k.0 h
    kept_stmt (IfThen c s t) b r i k (inr (inl h)) = kept_all s b r i k.1 h
    kept_stmt (IfThen c s t) b r i k (inr (inr h)) = kept_all t b r i k.2 h
    kept_stmt (Case e a) b r i k (inl h) = kept e b r i k.0 h
    kept_stmt (Case e a) b r i k (inr h) = kept_alternatives a b r i k.1 h
    kept_stmt (Loop n c s) b r i k h = ⊎_elim (λ h. kept_optional c b r i k.0 h) (λ h. kept_all s b r i k.1 h) h
    kept_stmt (For n it s) b r i k (inl h) = kept_course it b r i k.0 h
    kept_stmt (For n it s) b r i k (inr (inl h)) = kept_filter it b _ i k.0 h
    kept_stmt (For n it s) b r i k (inr (inr h)) = kept_all s b _ i k.1 h
    kept_stmt (ParallelFor n site c it s) b r i k (inl h) = subst (λ z. Claim b z) (sym h) (k.1, k.2)
    kept_stmt (ParallelFor n site c it s) b r i k (inr (inl h)) = from_false b i (kept_chunk c false r i k.0 h)
    kept_stmt (ParallelFor n site c it s) b r i k (inr (inr (inl h))) = from_false b i (kept_course it false r i k.1 h)
    kept_stmt (ParallelFor n site c it s) b r i k (inr (inr (inr (inl h)))) = from_false b i (kept_filter it false _ i k.1 h)
    kept_stmt (ParallelFor n site c it s) b r i k (inr (inr (inr (inr h)))) = from_false b i (kept_all s false _ i k.2 h)
    kept_stmt (Parallel site n a) b r i k (inl h) = subst (λ z. Claim b z) (sym h) k.1
    kept_stmt (Parallel site n a) b r i k (inr (inl h)) = from_false b i (kept_optional n false r i k.0 h)
    kept_stmt (Parallel site n a) b r i k (inr (inr (j, h))) = from_false b i (kept_arm a j false r i k.1 h)
    kept_stmt (Block d s hs) b r i k h = kept_decls d b r i (λ j. InAll program.subtypes r s j ⊎ InHandlers program.subtypes r hs j) k.0 (λ h. ⊎_elim (λ h. kept_all s b r i k.1 h) (λ h. kept_handlers hs b r i k.2 h) h) h
    kept_stmt (Put at callee p line) b r i k (inl h) = subst (λ z. Claim b z) (sym h) k.1
    kept_stmt (Put at callee p line) b r i k (inr h) = kept_pieces p b r i k.0 h
    kept_stmt (Get at callee first from g s) b r i k (inl h) = subst (λ z. Claim b z) (sym h) k.1
    kept_stmt (Get at callee first from g s) b r i k (inr (inl h)) = touch b i h
    kept_stmt (Get at callee first from g s) b r i k (inr (inr h)) = kept_select g b r i k.0 h

    kept_all : (ss : Stmts) (b : Bool) (r : Roles) (i : Item) → KeepsAll marked ss b → InAll program.subtypes r ss i → Claim b i
    kept_all End b r i k h = absurd h
    kept_all (Then s ss) b r i k h = ⊎_elim (λ h. kept_stmt s b r i k.0 h) (λ h. kept_all ss b r i k.1 h) h

    kept_alternatives : (a : Alternatives) (b : Bool) (r : Roles) (i : Item) → KeepsAlternatives marked a b → InAlternatives program.subtypes r a i → Claim b i
    kept_alternatives NoAlternative b r i k h = absurd h
    kept_alternatives (Alternative o c es s a) b r i k (inl h) = kept_exprs es b r i k.0 h
    kept_alternatives (Alternative o c es s a) b r i k (inr (inl h)) = kept_all s b r i k.1 h
    kept_alternatives (Alternative o c es s a) b r i k (inr (inr h)) = kept_alternatives a b r i k.2 h

    kept_arm : (a : Arms) (j : ℕ) (b : Bool) (r : Roles) (i : Item) → KeepsArms marked a b → InArm program.subtypes r a j i → Claim b i
    kept_arm NoArm j b r i k h = absurd h
    kept_arm (Arm s a) zero b r i k h = kept_all s b r i k.0 h
    kept_arm (Arm s a) (suc j) b r i k h = kept_arm a j b r i k.1 h

    kept_handlers : (hs : Handlers) (b : Bool) (r : Roles) (i : Item) → KeepsHandlers marked hs b → InHandlers program.subtypes r hs i → Claim b i
    kept_handlers NoHandler b r i k h = absurd h
    kept_handlers (Handler x s hs) b r i k h = ⊎_elim (λ h. kept_all s b r i k.0 h) (λ h. kept_handlers hs b r i k.1 h) h

  kept_body : (body : Body) (b : Bool) (i : Item) → KeepsBody marked body b → InBody program.subtypes body i → Claim b i
  kept_body body b i k h = kept_decls body.decls b unknown i (λ j. InAll program.subtypes unknown body.stmts j ⊎ InHandlers program.subtypes unknown body.handlers j) k.decls
      (λ h. ⊎_elim (λ h. kept_all body.stmts b unknown i k.stmts h) (λ h. kept_handlers body.handlers b unknown i k.handlers h) h) h

  -- in the text of a subprogram; a nonblocking one calls nothing that may block
  kept_sub : (subs : List Sub) (s : ℕ) (i : Item) → KeepsSubs marked program.nonblocking subs → InCallee program (sub_at subs s) i → (b : Bool) × ((nonblocking_of subs s ≡ true → b ≡ false) × Claim b i)
  kept_sub [] s i k h = absurd h
  kept_sub (sub ∷ subs) zero i k h = (not sub.nonblocking && not program.nonblocking, ((λ e. ap (λ z. not z && not program.nonblocking) e), kept_body sub.body _ i k.0 h))
  kept_sub (sub ∷ subs) (suc s) i k h = kept_sub subs s i k.1 h

  calm_sub : KeepsRule program → (s : ℕ) (i : Item) → marked s ≡ true → InSub program s i → Claim false i
  calm_sub rule s i m h = let a = kept_sub program.subs s i rule.subs h in subst (λ z. Claim z i) (a.1.0 m) a.1.1

  calm_reached : KeepsRule program → (n s t : ℕ) (i : Item) → marked s ≡ true → Chain program n s t → InSub program t i → Claim false i
  calm_reached rule zero s t i m c h = calm_sub rule s i m (subst (λ z. InSub program z i) (sym c) h)
  calm_reached rule (suc n) s t i m (u, at, callee, h, c) g = calm_reached rule n u t i (calm_sub rule s (Calls at callee u) m h refl) c g

  held : KeepsRule program → (k : Construct) → InProgram program (Holds k) → QuietOf k
  held rule k (inl h) = kept_body program.body _ (Holds k) rule.body h
  held rule k (inr (s, h)) = (kept_sub program.subs s (Holds k) rule.subs h).1.1

  calm_thread : (k : Construct) (j : ℕ) (i : Item) → QuietOf k → InThread program.subtypes k j i → Claim false i
  calm_thread (LoopOf site r c it s) j i q h = ⊎_elim (λ h. kept_filter it false _ i q.0 h) (λ h. kept_all s false _ i q.1 h) h
  calm_thread (BlockOf site r n a) j i q h = kept_arm a j false _ i q h
  calm_thread (ReductionOf site r by c it v) j i q (inl h) = kept_reducer by false i q.0 h
  calm_thread (ReductionOf site r by c it v) j i q (inr (inl h)) = kept_filter it false _ i q.1 h
  calm_thread (ReductionOf site r by c it v) j i q (inr (inr h)) = kept v false _ i q.2 h

  pub threads_quiet : KeepsRule program → (k : Construct) → InProgram program (Holds k) → IsQuiet program k
  threads_quiet rule k h j at callee = (
    (λ g. true≢false (sym (calm_thread k j (Blocks at callee) (held rule k h) g))),
    λ s there last g r. true≢false (sym (calm_reached rule r.1 s r.0 (Blocks there last) (calm_thread k j (Calls at callee s) (held rule k h) g refl) r.2 r.3)),
  )
