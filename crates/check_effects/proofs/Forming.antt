-- What names give of a typed program suffices: effects follow the layout, and calls go back.
use Rattle.std.proofs.Common.{◌≡◌, ℕ, zero, suc, ◌+◌, ◌<◌, ◌≤◌, nat_eq, nat_lt, List, [], ◌∷◌, ◌++◌, ◌⊎◌, inl, inr, ⊎_elim, Option, Some, None, Bool, true, false, cond, sym, subst, refl, arith, length, ltb-true, ltb-false}
use Rattle.ada_meaning.specs.Shapes.{cells_of, Shape, Single, Record, Dimension, size, object_shape, ComponentAt}
use Rattle.ada_meaning.specs.Formed.{width, Known, at_first, with_shape, with_constant, with_aim, Selects, Aims, Names, Spans, FormedReducer, FormedExpr, FormedExprs, FormedOptional, FormedSelections, FormedActuals, FormedValue, FormedComposite, FormedAssociations, FormedIteration, FormedChunk, FormedPieces, FormedDecls, FormedStmt, FormedAll, FormedAlternatives, FormedArms, FormedHandlers, FormedBody, FormedSubs, IsFormed}
use Rattle.check_effects.specs.Backwards.{CallsBackwards, FormedLaw, BackwardsLaw}
use Rattle.typed_tree.specs.declared.expressions.Root.{Root}
use Rattle.typed_tree.specs.declared.expressions.Root.TheVariants as root
use Rattle.typed_tree.specs.declared.expressions.Iterated.{Iterated}
use Rattle.typed_tree.specs.declared.expressions.Reducer.{Reducer}
use Rattle.typed_tree.specs.declared.expressions.Reducer.TheVariants.{Operator, Function}
use Rattle.typed_tree.specs.Syntax.{Expr, Static, Variable, Constant, Parameter, Target, Group, Unary, Binary, AndThen, OrElse, Relation, Membership, If, Call, Convert, Reduction, Exprs, NoExpr, AlsoExpr, Optional, Absent, Present, Selections, Whole, Field, Index, Actuals, NoActual, In, InOut, Out, CompositeInOut, CompositeOut, Value, Number, Cells, Composite, WholeVariable, WholeConstant, WholeTarget, CompositeIf, Aggregate, Associations, NoAssociation, Association, Iteration, Range, Components, Chunk, NoChunk, Count, Each, Pieces, NoPiece, Text, Image, Padded, Decls, NoDecl, DeclareDefault, DeclareVariable, DeclareConstant, Mentions, Stmt, Null, Assign, CallProcedure, Exit, Return, ReturnValue, Raise, Reraise, IfThen, Case, Loop, For, ParallelFor, Parallel, Block, Put, Get, Stmts, End, Then, Alternatives, NoAlternative, Alternative, Arms, NoArm, Arm, Handlers, NoHandler, Handler, Body, Sub, Program}
use Rattle.ada_meaning.specs.Meaning.{sub_at}
use Rattle.check_effects.specs.Effects.{Step, FieldStep, IndexStep, ItemStep, Named, Roles, unknown, hide, with_item, steps_of, name, forgotten_step, forgotten_steps, forget, Construct, LoopOf, BlockOf, ReductionOf, Item, Touches, Calls, Blocks, Holds, chunk_hidden, course_hidden, judging, iterated_hidden, InReducer, InExpr, InExprs, InOptional, InSelections, InActuals, InValue, InComposite, InAssociations, InCourse, InFilter, InChunk, InPieces, InDecls, InStmt, InAll, InAlternatives, InArm, InHandlers, InBody, InThread, InSub, InCallee, Chain, Reached}
use Rattle.check_effects.specs.Conflicts.{Enters, Follows, IsLaid, InProgram, HasLayout}

-- steps through shapes

abbrev Reach : List Step → Shape → Shape → Type 0
Reach [] t u = u ≡ t
Reach (s ∷ ss) t u = (v : Shape) × Enters t s v × Reach ss v u

reach_append : (ss ts : List Step) (t v u : Shape) → Reach ss t v → Reach ts v u → Reach (ss ++ ts) t u
reach_append [] ts t v u e h = subst (λ z. Reach ts z u) e h
reach_append (s ∷ ss) ts t v u (x, g, f) h = (x, g, reach_append ss ts x v u f h)

follows : (ss : List Step) (t u : Shape) (cells : ℕ) → Reach ss t u → cells ≤ size u → Follows t ss cells
follows [] t u cells e l = subst (λ z. cells ≤ size z) e l
follows (s ∷ ss) t u cells (x, g, f) l = (x, g, follows ss x u cells f l)

enters_forgotten : (s : Step) (t u : Shape) → Enters t s u → Enters t (forgotten_step s) u
enters_forgotten (FieldStep number offset) t u h = h
enters_forgotten (IndexStep s low high stride) Single u h = absurd h
enters_forgotten (IndexStep s low high stride) (Record us) u h = absurd h
enters_forgotten (IndexStep s low high stride) (Dimension l m t) u h = h
enters_forgotten (ItemStep judged n stride d) Single u h = h
enters_forgotten (ItemStep judged n stride d) (Record us) u h = h
enters_forgotten (ItemStep judged n stride d) (Dimension l m t) u h = h

reach_forgotten : (ss : List Step) (t u : Shape) → Reach ss t u → Reach (forgotten_steps ss) t u
reach_forgotten [] t u e = e
reach_forgotten (s ∷ ss) t u (x, g, f) = (x, enters_forgotten s t x g, reach_forgotten ss x u f)

enters_item : (x : Shape) (judged : Bool) (n stride d : ℕ) (t : Shape) → ComponentAt x d n t → stride ≡ size t → Enters x (ItemStep judged n stride d) t
enters_item Single judged n stride d t c e = (c, e)
enters_item (Record us) judged n stride d t c e = (c, e)
enters_item (Dimension low high u) judged n stride d t c e = (c, e)

selects : (g : Selections) (r : Roles) (t u : Shape) → Selects g t u → Reach (steps_of r g) t u
selects Whole r t u e = e
selects (Field n o g) r Single u h = absurd h
selects (Field n o g) r (Record us) u (t, f, h) = (t, f, selects g r t u h)
selects (Field n o g) r (Dimension low high t) u h = absurd h
selects (Index at e l m s g) r Single u h = absurd h
selects (Index at e l m s g) r (Record us) u h = absurd h
selects (Index at e l m s g) r (Dimension low high t) u (a, b, c, h) = (t, (a, b, c, refl), selects g r t u h)

same_shape : {t u : Shape} → Some t ≡ Some u → u ≡ t
same_shape e = cc

module _ (program : Program) (d : ℕ) where
  abbrev To : Named → Shape → Type 0
  To n u = Reach n.steps (object_shape program n.object) u

  -- what names stand for has the shapes that are known
  record Fit (w : Known) (r : Roles) : Type 0 where
    declared : w.declared ≡ d
    items : (k : ℕ) (t : Shape) → w.item k ≡ Some t → To (r.item k) t
    target : (t : Shape) → w.target ≡ Some t → To r.target t

  fit_unknown : Fit (at_first d) unknown
  fit_unknown = record { declared = refl; items = λ k t e. absurd (none_shape e); target = λ t e. absurd (none_shape e) }
    where
      none_shape : {t : Shape} → None ≡ Some t → ⊥
      none_shape e = cc

  fit_forget : (w : Known) (r : Roles) → Fit w r → Fit w (forget r)
  fit_forget w r f = record { declared = f.declared; items = λ k t e. reach_forgotten (r.item k).steps (object_shape program (r.item k).object) t (f.items k t e); target = λ t e. reach_forgotten r.target.steps (object_shape program r.target.object) t (f.target t e) }

  fit_hide : (k : ℕ) (w : Known) (r : Roles) → Fit w r → Fit w (hide k r)
  fit_hide k w r f = record { declared = f.declared; items = f.items; target = f.target }

  fit_roles : (loop chunk : Option ℕ) (w : Known) (r : Roles) → Fit w r → Fit w (record r { loop = loop; chunk = chunk })
  fit_roles loop chunk w r f = record { declared = f.declared; items = f.items; target = f.target }

  fit_constant : (k : ℕ) (t : Shape) (w : Known) (r : Roles) → Fit w r → Fit (with_constant k t w) r
  fit_constant k t w r f = record { declared = f.declared; items = f.items; target = f.target }

  fit_chunk : (c : Chunk) (w : Known) (r : Roles) → Fit w r → Fit w (chunk_hidden c r)
  fit_chunk NoChunk w r f = f
  fit_chunk (Count e) w r f = f
  fit_chunk (Each k l u c) w r f = fit_hide k w r f

  fit_iterated : (it : Option Iterated) (w : Known) (r : Roles) → Fit w r → Fit w (iterated_hidden it r)
  fit_iterated None w r f = f
  fit_iterated (Some it) w r f = fit_hide it.parameter w r f

  fit_aim : (n : Named) (t : Shape) (w : Known) (r : Roles) → To n t → Fit w r → Fit (with_aim t w) (record r { target = n })
  fit_aim n t w r h f = record { declared = f.declared; items = f.items; target = λ u e. subst (λ z. To n z) (sym (same_shape e)) h }

  fit_item : (judged : Bool) (k : ℕ) (n : Named) (x t : Shape) (count stride dimensions : ℕ) → To n x → ComponentAt x dimensions count t → stride ≡ size t → (w : Known) (r : Roles) → Fit w r
      → Fit (with_shape k t w) (with_item k (record { object = n.object; steps = n.steps ++ (ItemStep judged count stride dimensions ∷ []) }) r)
  fit_item judged k n x t count stride dimensions h c e w r f = record { declared = f.declared; items = λ j u e. go j u (nat_eq j k) e; target = f.target }
    where
      go : (j : ℕ) (u : Shape) (b : Bool) → cond b (Some t) (w.item j) ≡ Some u → To (cond b (record { object = n.object; steps = n.steps ++ (ItemStep judged count stride dimensions ∷ []) }) (r.item j)) u
      go j u true q = reach_append n.steps (ItemStep judged count stride dimensions ∷ []) (object_shape program n.object) x u h (t, enters_item x judged count stride dimensions t c e, same_shape q)
      go j u false q = f.items j u q

  names : (w : Known) (r : Roles) → Fit w r → (from : Root) (g : Selections) (u : Shape) → Names program w from g u → To (name r from g) u
  names w r f (root.Object x) g u (t, e, h) = selects g r (object_shape program x) u (subst (λ z. Selects g z u) (same_shape e) h)
  names w r f (root.Item k) g u (t, e, h) = reach_append (r.item k).steps (steps_of r g) (object_shape program (r.item k).object) t u (f.items k t e) (selects g r t u h)

  -- what is claimed of what stands in a text

  abbrev Judged : Construct → Type 0
  Judged (LoopOf site r chunk it stmts) = (w : Known) × Fit w r × FormedIteration program w it (λ v. FormedAll program v stmts)
  Judged (BlockOf site r count arms) = (w : Known) × Fit w r × FormedArms program w arms
  Judged (ReductionOf site r by chunk it value) = (w : Known) × Fit w r × FormedReducer program w by × FormedIteration program w it (λ v. FormedExpr program v value)

  abbrev Claim : Item → Type 0
  Claim (Touches at a) = IsLaid program a
  Claim (Calls at callee s) = s < d
  Claim (Blocks at callee) = Unit {0}
  Claim (Holds k) = Judged k

  laid : (n : Named) (writes : Bool) (at cells : ℕ) (u : Shape) → To n u → cells ≤ size u → (i : Item) → i ≡ Touches at (record { writes = writes; object = n.object; steps = n.steps; cells = cells }) → Claim i
  laid n writes at cells u h l i e = subst (λ z. Claim z) (sym e) (follows n.steps (object_shape program n.object) u cells h l)

  spans : (w : Known) (r : Roles) (writes : Bool) (at cells : ℕ) (from : Root) (g : Selections) → Fit w r → Spans program w from g cells → (i : Item) → i ≡ Touches at (record { writes = writes; object = (name r from g).object; steps = (name r from g).steps; cells = cells }) → Claim i
  spans w r writes at cells from g f (u, n, l) i e = laid (name r from g) writes at cells u (names w r f from g u n) l i e

  aims : (w : Known) (r : Roles) (at cells : ℕ) → Fit w r → Aims w cells → (i : Item) → i ≡ Touches at (record { writes = false; object = r.target.object; steps = r.target.steps; cells = cells }) → Claim i
  aims w r at cells f (u, t, l) i e = laid r.target false at cells u (f.target u t) l i e

  calls : (w : Known) (r : Roles) (at callee s : ℕ) → Fit w r → s < w.declared → (i : Item) → i ≡ Calls at callee s → Claim i
  calls w r at callee s f l i e = subst (λ z. Claim z) (sym e) (subst (λ z. s < z) f.declared l)

  abbrev FormedFront : Known → Iteration → Type 0
  FormedFront w (Range k reverse low high check filter) = FormedExpr program w low × FormedExpr program w high
  FormedFront w (Components k constant at from g n s m filter) = FormedSelections program w g

  abbrev FormedFilter : Known → Iteration → Type 0
  FormedFilter w (Range k reverse low high check filter) = FormedOptional program w filter
  FormedFilter w (Components k constant at from g n s m filter) = FormedOptional program w filter

  -- below an iteration, judged or not
  record Below (it : Iteration) (w : Known) (body : Known → Type 0) : Type 0 where
    known : Known
    front : FormedFront w it
    filter : FormedFilter known it
    inner : body known
    hidden : (around r : Roles) → Fit w around → Fit w r → Fit known (course_hidden around it r)
    judged : (c : Chunk) (r : Roles) → Fit w r → Fit known (judging c it r)

  below : (it : Iteration) (w : Known) (body : Known → Type 0) → FormedIteration program w it body → Below it w body
  below (Range k o l u c g) w body h = record { known = w; front = (h.0, h.1); filter = h.2; inner = h.3; hidden = λ around r a f. fit_hide k w r f; judged = λ c r f. fit_roles _ _ w r f }
  below (Components k true at from g n s m q) w body (h, (u, t, p, a, e, b, x)) =
      record { known = with_constant k t w; front = h; filter = b; inner = x; hidden = λ around r fa f. fit_constant k t w r f; judged = λ c r f. fit_constant k t w _ (fit_roles _ _ w r f) }
  below (Components k false at from g n s m q) w body (h, (u, t, p, a, e, b, x)) =
      record {
        known = with_shape k t w;
        front = h;
        filter = b;
        inner = x;
        hidden = λ around r fa f. fit_item false k (name around from g) u t n s m (names w around fa from g u p) a e w r f;
        judged = λ c r f. fit_item true k (name r from g) u t n s m (names w r f from g u p) a e w _ (fit_roles _ _ w r f);
      }

  formed_reducer : (by : Reducer) (w : Known) (r : Roles) (i : Item) → Fit w r → FormedReducer program w by → InReducer by i → Claim i
  formed_reducer (Operator at op class) w r i fit k h = absurd h
  formed_reducer (Function at s x y) w r i fit k h = calls w r at at s fit k i h

  mutual
    formed : (e : Expr) (w : Known) (r : Roles) (i : Item) → Fit w r → FormedExpr program w e → InExpr program.subtypes r e i → Claim i
    formed (Static at v literal mentions) w r i fit k h = formed_exprs mentions w r i fit k h
    formed (Variable at from g s) w r i fit k h = ⊎_elim (λ e. spans w r false at 1 from g fit k.0 i e) (λ h. formed_select g w r i fit k.1 h) h
    formed (Constant at from g s) w r i fit k h = formed_select g w r i fit k.1 h
    formed (Parameter at x) w r i fit k h = absurd h
    formed (Target at s) w r i fit k h = aims w r at 1 fit k i h
    formed (Group e) w r i fit k h = formed e w r i fit k h
    formed (Unary at s c e) w r i fit k h = formed e w r i fit k.1 h
    formed (Binary at op c e f) w r i fit k h = ⊎_elim (λ h. formed e w r i fit k.1 h) (λ h. formed f w r i fit k.2 h) h
    formed (AndThen e f) w r i fit k h = ⊎_elim (λ h. formed e w r i fit k.0 h) (λ h. formed f w r i fit k.1 h) h
    formed (OrElse e f) w r i fit k h = ⊎_elim (λ h. formed e w r i fit k.0 h) (λ h. formed f w r i fit k.1 h) h
    formed (Relation c o e f) w r i fit k h = ⊎_elim (λ h. formed e w r i fit k.1 h) (λ h. formed f w r i fit k.2 h) h
    formed (Membership c n e f g) w r i fit k (inl h) = formed e w r i fit k.1 h
    formed (Membership c n e f g) w r i fit k (inr (inl h)) = formed f w r i fit k.2 h
    formed (Membership c n e f g) w r i fit k (inr (inr h)) = formed g w r i fit k.3 h
    formed (If e f g) w r i fit k (inl h) = formed e w r i fit k.0 h
    formed (If e f g) w r i fit k (inr (inl h)) = formed f w r i fit k.1 h
    formed (If e f g) w r i fit k (inr (inr h)) = formed g w r i fit k.2 h
    formed (Call at callee s a) w r i fit k (inl h) = calls w r at callee s fit k.0 i h
    formed (Call at callee s a) w r i fit k (inr h) = formed_actuals a w r i fit k.1 h
    formed (Convert c e) w r i fit k h = formed e w r i fit k h
    formed (Reduction at t by e None c it v) w r i fit k (inl h) = formed_reducer by w r i fit k.0 h
    formed (Reduction at t by e None c it v) w r i fit k (inr (inl h)) = formed e w r i fit k.1 h
    formed (Reduction at t by e None c it v) w r i fit k (inr (inr (inl h))) = let b = below it w (λ v'. FormedExpr program v' v) k.3 in formed_course it w r i fit b.front h
    formed (Reduction at t by e None c it v) w r i fit k (inr (inr (inr (inl h)))) = let b = below it w (λ v'. FormedExpr program v' v) k.3 in formed_filter it b.known _ i (b.hidden r r fit fit) b.filter h
    formed (Reduction at t by e None c it v) w r i fit k (inr (inr (inr (inr h)))) = let b = below it w (λ v'. FormedExpr program v' v) k.3 in formed v b.known _ i (b.hidden r r fit fit) b.inner h
    formed (Reduction at t by e (Some site) c it v) w r i fit k (inl h) = subst (λ z. Claim z) (sym h) (w, fit_forget w r fit, k.0, k.3)
    formed (Reduction at t by e (Some site) c it v) w r i fit k (inr (inl h)) = formed_reducer by w r i fit k.0 h
    formed (Reduction at t by e (Some site) c it v) w r i fit k (inr (inr (inl h))) = formed e w r i fit k.1 h
    formed (Reduction at t by e (Some site) c it v) w r i fit k (inr (inr (inr (inl h)))) = formed_chunk c w r i fit k.2 h
    formed (Reduction at t by e (Some site) c it v) w r i fit k (inr (inr (inr (inr (inl h))))) = let b = below it w (λ v'. FormedExpr program v' v) k.3 in formed_course it w r i fit b.front h
    formed (Reduction at t by e (Some site) c it v) w r i fit k (inr (inr (inr (inr (inr (inl h)))))) = let b = below it w (λ v'. FormedExpr program v' v) k.3 in formed_filter it b.known _ i (b.hidden r (chunk_hidden c r) fit (fit_chunk c w r fit)) b.filter h
    formed (Reduction at t by e (Some site) c it v) w r i fit k (inr (inr (inr (inr (inr (inr h)))))) = let b = below it w (λ v'. FormedExpr program v' v) k.3 in formed v b.known _ i (b.hidden r (chunk_hidden c r) fit (fit_chunk c w r fit)) b.inner h

    formed_exprs : (es : Exprs) (w : Known) (r : Roles) (i : Item) → Fit w r → FormedExprs program w es → InExprs program.subtypes r es i → Claim i
    formed_exprs NoExpr w r i fit k h = absurd h
    formed_exprs (AlsoExpr e es) w r i fit k h = ⊎_elim (λ h. formed e w r i fit k.0 h) (λ h. formed_exprs es w r i fit k.1 h) h

    formed_optional : (e : Optional) (w : Known) (r : Roles) (i : Item) → Fit w r → FormedOptional program w e → InOptional program.subtypes r e i → Claim i
    formed_optional Absent w r i fit k h = absurd h
    formed_optional (Present e) w r i fit k h = formed e w r i fit k h

    formed_select : (g : Selections) (w : Known) (r : Roles) (i : Item) → Fit w r → FormedSelections program w g → InSelections program.subtypes r g i → Claim i
    formed_select Whole w r i fit k h = absurd h
    formed_select (Field n o g) w r i fit k h = formed_select g w r i fit k h
    formed_select (Index at e l u s g) w r i fit k h = ⊎_elim (λ h. formed e w r i fit k.0 h) (λ h. formed_select g w r i fit k.1 h) h

    formed_actuals : (a : Actuals) (w : Known) (r : Roles) (i : Item) → Fit w r → FormedActuals program w a → InActuals program.subtypes r a i → Claim i
    formed_actuals NoActual w r i fit k h = absurd h
    formed_actuals (In f v a) w r i fit k h = ⊎_elim (λ h. formed_value v w r i fit k.0 h) (λ h. formed_actuals a w r i fit k.1 h) h
    formed_actuals (InOut f at from g x y a) w r i fit k (inl h) = spans w r false at 1 from g fit k.0 i h
    formed_actuals (InOut f at from g x y a) w r i fit k (inr (inl h)) = spans w r true at 1 from g fit k.0 i h
    formed_actuals (InOut f at from g x y a) w r i fit k (inr (inr (inl h))) = formed_select g w r i fit k.1 h
    formed_actuals (InOut f at from g x y a) w r i fit k (inr (inr (inr h))) = formed_actuals a w r i fit k.2 h
    formed_actuals (Out f at from g x y a) w r i fit k (inl h) = spans w r true at 1 from g fit k.0 i h
    formed_actuals (Out f at from g x y a) w r i fit k (inr (inl h)) = formed_select g w r i fit k.1 h
    formed_actuals (Out f at from g x y a) w r i fit k (inr (inr h)) = formed_actuals a w r i fit k.2 h
    formed_actuals (CompositeInOut f at from g t a) w r i fit k (inl h) = spans w r false at (cells_of program.subtypes t) from g fit k.0 i h
    formed_actuals (CompositeInOut f at from g t a) w r i fit k (inr (inl h)) = spans w r true at (cells_of program.subtypes t) from g fit k.0 i h
    formed_actuals (CompositeInOut f at from g t a) w r i fit k (inr (inr (inl h))) = formed_select g w r i fit k.1 h
    formed_actuals (CompositeInOut f at from g t a) w r i fit k (inr (inr (inr h))) = formed_actuals a w r i fit k.2 h
    formed_actuals (CompositeOut f at from g t a) w r i fit k (inl h) = spans w r false at (cells_of program.subtypes t) from g fit k.0 i h
    formed_actuals (CompositeOut f at from g t a) w r i fit k (inr (inl h)) = spans w r true at (cells_of program.subtypes t) from g fit k.0 i h
    formed_actuals (CompositeOut f at from g t a) w r i fit k (inr (inr (inl h))) = formed_select g w r i fit k.1 h
    formed_actuals (CompositeOut f at from g t a) w r i fit k (inr (inr (inr h))) = formed_actuals a w r i fit k.2 h

    formed_value : (v : Value) (w : Known) (r : Roles) (i : Item) → Fit w r → FormedValue program w v → InValue program.subtypes r v i → Claim i
    formed_value (Number c e) w r i fit k h = formed e w r i fit k h
    formed_value (Cells c) w r i fit k h = formed_composite c w r i fit k h

    formed_composite : (c : Composite) (w : Known) (r : Roles) (i : Item) → Fit w r → FormedComposite program w c → InComposite program.subtypes r c i → Claim i
    formed_composite (WholeVariable at from g t) w r i fit k h = ⊎_elim (λ e. spans w r false at (cells_of program.subtypes t) from g fit k.0 i e) (λ h. formed_select g w r i fit k.1 h) h
    formed_composite (WholeConstant at from g t) w r i fit k h = formed_select g w r i fit k.1 h
    formed_composite (WholeTarget at t) w r i fit k h = aims w r at (cells_of program.subtypes t) fit k i h
    formed_composite (CompositeIf e c d) w r i fit k (inl h) = formed e w r i fit k.0 h
    formed_composite (CompositeIf e c d) w r i fit k (inr (inl h)) = formed_composite c w r i fit k.1 h
    formed_composite (CompositeIf e c d) w r i fit k (inr (inr h)) = formed_composite d w r i fit k.2 h
    formed_composite (Aggregate at s a) w r i fit k h = formed_associations a w r i fit k h

    formed_associations : (a : Associations) (w : Known) (r : Roles) (i : Item) → Fit w r → FormedAssociations program w a → InAssociations program.subtypes r a i → Claim i
    formed_associations NoAssociation w r i fit k h = absurd h
    formed_associations (Association runs it es v a) w r i fit k (inl h) = formed_exprs es w r i fit k.0 h
    formed_associations (Association runs it es v a) w r i fit k (inr (inl h)) = formed_value v w _ i (fit_iterated it w r fit) k.1 h
    formed_associations (Association runs it es v a) w r i fit k (inr (inr h)) = formed_associations a w r i fit k.2 h

    formed_course : (it : Iteration) (w : Known) (r : Roles) (i : Item) → Fit w r → FormedFront w it → InCourse program.subtypes r it i → Claim i
    formed_course (Range x o l u c q) w r i fit k h = ⊎_elim (λ h. formed l w r i fit k.0 h) (λ h. formed u w r i fit k.1 h) h
    formed_course (Components x o at from g n s m q) w r i fit k h = formed_select g w r i fit k h

    formed_filter : (it : Iteration) (w : Known) (r : Roles) (i : Item) → Fit w r → FormedFilter w it → InFilter program.subtypes r it i → Claim i
    formed_filter (Range x o l u c q) w r i fit k h = formed_optional q w r i fit k h
    formed_filter (Components x o at from g n s m q) w r i fit k h = formed_optional q w r i fit k h

    formed_chunk : (c : Chunk) (w : Known) (r : Roles) (i : Item) → Fit w r → FormedChunk program w c → InChunk program.subtypes r c i → Claim i
    formed_chunk NoChunk w r i fit k h = absurd h
    formed_chunk (Count e) w r i fit k h = formed e w r i fit k h
    formed_chunk (Each x l u c) w r i fit k h = ⊎_elim (λ h. formed l w r i fit k.0 h) (λ h. formed u w r i fit k.1 h) h

  formed_pieces : (p : Pieces) (w : Known) (r : Roles) (i : Item) → Fit w r → FormedPieces program w p → InPieces program.subtypes r p i → Claim i
  formed_pieces NoPiece w r i fit k h = absurd h
  formed_pieces (Text t p) w r i fit k h = formed_pieces p w r i fit k h
  formed_pieces (Image c e p) w r i fit k h = ⊎_elim (λ h. formed e w r i fit k.1 h) (λ h. formed_pieces p w r i fit k.2 h) h
  formed_pieces (Padded c e m p) w r i fit k (inl h) = formed e w r i fit k.1 h
  formed_pieces (Padded c e m p) w r i fit k (inr (inl h)) = formed m w r i fit k.2 h
  formed_pieces (Padded c e m p) w r i fit k (inr (inr h)) = formed_pieces p w r i fit k.3 h

  formed_decls : (ds : Decls) (w : Known) (r : Roles) (i : Item) (rest : Item → Type 0) → Fit w r → FormedDecls program w ds → (rest i → Claim i) → InDecls program.subtypes r ds rest i → Claim i
  formed_decls NoDecl w r i rest fit k g h = g h
  formed_decls (DeclareDefault x ds) w r i rest fit k g h = formed_decls ds w r i rest fit k g h.0
  formed_decls (DeclareVariable x v ds) w r i rest fit k g h = ⊎_elim (λ h. formed_value v w r i fit k.0 h) (λ h. formed_decls ds w r i rest fit k.1 g h.0) h
  formed_decls (DeclareConstant x v ds) w r i rest fit k g h = ⊎_elim (λ h. formed_value v w r i fit k.0 h) (λ h. formed_decls ds w r i rest fit k.1 g h) h
  formed_decls (Mentions es ds) w r i rest fit k g h = ⊎_elim (λ h. formed_exprs es w r i fit k.0 h) (λ h. formed_decls ds w r i rest fit k.1 g h) h

  mutual
    formed_stmt : (s : Stmt) (w : Known) (r : Roles) (i : Item) → Fit w r → FormedStmt program w s → InStmt program.subtypes r s i → Claim i
    formed_stmt Null w r i fit k h = absurd h
    formed_stmt (Assign at from g v) w r i fit k (inl h) = laid (name r from g) true at (width program.subtypes v) k.0.0 (names w r fit from g k.0.0 k.0.1) k.0.2 i h
    formed_stmt (Assign at from g v) w r i fit k (inr (inl h)) = formed_select g w r i fit k.1 h
    formed_stmt (Assign at from g v) w r i fit k (inr (inr h)) = formed_value v (with_aim k.0.0 w) _ i (fit_aim (name r from g) k.0.0 w r (names w r fit from g k.0.0 k.0.1) fit) k.0.3 h
    formed_stmt (CallProcedure at callee s a) w r i fit k (inl h) = calls w r at callee s fit k.0 i h
    formed_stmt (CallProcedure at callee s a) w r i fit k (inr h) = formed_actuals a w r i fit k.1 h
    formed_stmt (Exit n c) w r i fit k h = formed_optional c w r i fit k h
    formed_stmt Return w r i fit k h = absurd h
    formed_stmt (ReturnValue v) w r i fit k h = formed_value v w r i fit k h
    formed_stmt (Raise x) w r i fit k h = absurd h
    formed_stmt Reraise w r i fit k h = absurd h
    formed_stmt (IfThen c s t) w r i fit k (inl h) = formed c w r i fit k.0 h
    formed_stmt (IfThen c s t) w r i fit k (inr (inl h)) = formed_all s w r i fit k.1 h
    formed_stmt (IfThen c s t) w r i fit k (inr (inr h)) = formed_all t w r i fit k.2 h
    formed_stmt (Case e a) w r i fit k (inl h) = formed e w r i fit k.0 h
    formed_stmt (Case e a) w r i fit k (inr h) = formed_alternatives a w r i fit k.1 h
    formed_stmt (Loop n c s) w r i fit k h = ⊎_elim (λ h. formed_optional c w r i fit k.0 h) (λ h. formed_all s w r i fit k.1 h) h
    formed_stmt (For n it s) w r i fit k (inl h) = let b = below it w (λ v. FormedAll program v s) k in formed_course it w r i fit b.front h
    formed_stmt (For n it s) w r i fit k (inr (inl h)) = let b = below it w (λ v. FormedAll program v s) k in formed_filter it b.known _ i (b.hidden r r fit fit) b.filter h
    formed_stmt (For n it s) w r i fit k (inr (inr h)) = let b = below it w (λ v. FormedAll program v s) k in formed_all s b.known _ i (b.hidden r r fit fit) b.inner h
    formed_stmt (ParallelFor n site c it s) w r i fit k (inl h) = subst (λ z. Claim z) (sym h) (w, fit_forget w r fit, k.1)
    formed_stmt (ParallelFor n site c it s) w r i fit k (inr (inl h)) = formed_chunk c w r i fit k.0 h
    formed_stmt (ParallelFor n site c it s) w r i fit k (inr (inr (inl h))) = let b = below it w (λ v. FormedAll program v s) k.1 in formed_course it w r i fit b.front h
    formed_stmt (ParallelFor n site c it s) w r i fit k (inr (inr (inr (inl h)))) = let b = below it w (λ v. FormedAll program v s) k.1 in formed_filter it b.known _ i (b.hidden r (chunk_hidden c r) fit (fit_chunk c w r fit)) b.filter h
    formed_stmt (ParallelFor n site c it s) w r i fit k (inr (inr (inr (inr h)))) = let b = below it w (λ v. FormedAll program v s) k.1 in formed_all s b.known _ i (b.hidden r (chunk_hidden c r) fit (fit_chunk c w r fit)) b.inner h
    formed_stmt (Parallel site n a) w r i fit k (inl h) = subst (λ z. Claim z) (sym h) (w, fit_forget w r fit, k.1)
    formed_stmt (Parallel site n a) w r i fit k (inr (inl h)) = formed_optional n w r i fit k.0 h
    formed_stmt (Parallel site n a) w r i fit k (inr (inr (j, h))) = formed_arm a j w r i fit k.1 h
    formed_stmt (Block ds s hs) w r i fit k h = formed_decls ds w r i (λ j. InAll program.subtypes r s j ⊎ InHandlers program.subtypes r hs j) fit k.0 (λ h. ⊎_elim (λ h. formed_all s w r i fit k.1 h) (λ h. formed_handlers hs w r i fit k.2 h) h) h
    formed_stmt (Put at callee p line) w r i fit k (inl h) = subst (λ z. Claim z) (sym h) tt
    formed_stmt (Put at callee p line) w r i fit k (inr h) = formed_pieces p w r i fit k h
    formed_stmt (Get at callee first from g s) w r i fit k (inl h) = subst (λ z. Claim z) (sym h) tt
    formed_stmt (Get at callee first from g s) w r i fit k (inr (inl h)) = spans w r true first 1 from g fit k.0 i h
    formed_stmt (Get at callee first from g s) w r i fit k (inr (inr h)) = formed_select g w r i fit k.1 h

    formed_all : (ss : Stmts) (w : Known) (r : Roles) (i : Item) → Fit w r → FormedAll program w ss → InAll program.subtypes r ss i → Claim i
    formed_all End w r i fit k h = absurd h
    formed_all (Then s ss) w r i fit k h = ⊎_elim (λ h. formed_stmt s w r i fit k.0 h) (λ h. formed_all ss w r i fit k.1 h) h

    formed_alternatives : (a : Alternatives) (w : Known) (r : Roles) (i : Item) → Fit w r → FormedAlternatives program w a → InAlternatives program.subtypes r a i → Claim i
    formed_alternatives NoAlternative w r i fit k h = absurd h
    formed_alternatives (Alternative o c es s a) w r i fit k (inl h) = formed_exprs es w r i fit k.0 h
    formed_alternatives (Alternative o c es s a) w r i fit k (inr (inl h)) = formed_all s w r i fit k.1 h
    formed_alternatives (Alternative o c es s a) w r i fit k (inr (inr h)) = formed_alternatives a w r i fit k.2 h

    formed_arm : (a : Arms) (j : ℕ) (w : Known) (r : Roles) (i : Item) → Fit w r → FormedArms program w a → InArm program.subtypes r a j i → Claim i
    formed_arm NoArm j w r i fit k h = absurd h
    formed_arm (Arm s a) zero w r i fit k h = formed_all s w r i fit k.0 h
    formed_arm (Arm s a) (suc j) w r i fit k h = formed_arm a j w r i fit k.1 h

    formed_handlers : (hs : Handlers) (w : Known) (r : Roles) (i : Item) → Fit w r → FormedHandlers program w hs → InHandlers program.subtypes r hs i → Claim i
    formed_handlers NoHandler w r i fit k h = absurd h
    formed_handlers (Handler x s hs) w r i fit k h = ⊎_elim (λ h. formed_all s w r i fit k.0 h) (λ h. formed_handlers hs w r i fit k.1 h) h

  formed_body : (body : Body) (i : Item) → FormedBody program d body → InBody program.subtypes body i → Claim i
  formed_body body i k h = formed_decls body.decls (at_first d) unknown i (λ j. InAll program.subtypes unknown body.stmts j ⊎ InHandlers program.subtypes unknown body.handlers j) fit_unknown k.decls
      (λ h. ⊎_elim (λ h. formed_all body.stmts (at_first d) unknown i fit_unknown k.stmts h) (λ h. formed_handlers body.handlers (at_first d) unknown i fit_unknown k.handlers h) h) h

  formed_thread : (k : Construct) (j : ℕ) (i : Item) → Judged k → InThread program.subtypes k j i → Claim i
  formed_thread (LoopOf site r c it s) j i (w, fit, k) (inl h) = let b = below it w (λ v. FormedAll program v s) k in formed_filter it b.known _ i (b.judged c r fit) b.filter h
  formed_thread (LoopOf site r c it s) j i (w, fit, k) (inr h) = let b = below it w (λ v. FormedAll program v s) k in formed_all s b.known _ i (b.judged c r fit) b.inner h
  formed_thread (BlockOf site r n a) j i (w, fit, k) h = formed_arm a j w r i fit k h
  formed_thread (ReductionOf site r by c it v) j i (w, fit, q, k) (inl h) = formed_reducer by w r i fit q h
  formed_thread (ReductionOf site r by c it v) j i (w, fit, q, k) (inr (inl h)) = let b = below it w (λ v'. FormedExpr program v' v) k in formed_filter it b.known _ i (b.judged c r fit) b.filter h
  formed_thread (ReductionOf site r by c it v) j i (w, fit, q, k) (inr (inr h)) = let b = below it w (λ v'. FormedExpr program v' v) k in formed v b.known _ i (b.judged c r fit) b.inner h

module _ (program : Program) where
  -- in the text of a subprogram
  formed_sub : (subs : List Sub) (first s : ℕ) (i : Item) → FormedSubs program first subs → InCallee program (sub_at subs s) i → Claim program (suc (first + s)) i
  formed_sub [] first s i k h = absurd h
  formed_sub (sub ∷ subs) first zero i k h = subst (λ z. Claim program z i) (let e : suc first ≡ suc (first + 0) = omega arith in e) (formed_body program (suc first) sub.body i k.0 h)
  formed_sub (sub ∷ subs) first (suc s) i k h = subst (λ z. Claim program z i) (let e : suc (suc first + s) ≡ suc (first + suc s) = omega arith in e) (formed_sub subs (suc first) s i k.1 h)

  in_sub : IsFormed program → (s : ℕ) (i : Item) → InSub program s i → Claim program (suc s) i
  in_sub formed s i h = subst (λ z. Claim program z i) (let e : suc (0 + s) ≡ suc s = omega arith in e) (formed_sub program.subs 0 s i formed.subs h)

  in_threads : IsFormed program → (k : Construct) → InProgram program (Holds k) → (j : ℕ) (i : Item) → InThread program.subtypes k j i → (d : ℕ) × Claim program d i
  in_threads formed k (inl h) j i g = (length program.subs, formed_thread program (length program.subs) k j i (formed_body program (length program.subs) program.body (Holds k) formed.body h) g)
  in_threads formed k (inr (s, h)) j i g = (suc s, formed_thread program (suc s) k j i (in_sub formed s (Holds k) h) g)

pub formed_law : FormedLaw
formed_law program formed = (layout, λ s at callee u h. let l = in_sub program formed s (Calls at callee u) h in omega arith)
  where
    layout : HasLayout program
    layout k h j at a (inl g) = (in_threads program formed k h j (Touches at a) g).1
    layout k h j at a (inr (callee, s, g, there, r, global)) = in_sub program formed r.0 (Touches there a) r.3

abbrev Earlier : Program → ℕ → Item → Type 0
Earlier program s i = InSub program s i ⊎ ((at callee u : ℕ) × InSub program s (Calls at callee u) × (u < s) × Reached program u i)

-- a call of itself shortens the chain
chained : (program : Program) → CallsBackwards program → (i : Item) (n s t : ℕ) → Chain program n s t → InSub program t i → Earlier program s i
chained program back i zero s t e h = inl (subst (λ z. InSub program z i) (sym e) h)
chained program back i (suc n) s t (u, at, callee, call, rest) h = go (nat_lt u s) refl (λ same. chained program back i n s t (subst (λ z. Chain program n z t) same rest) h)
  where
    go : (b : Bool) → nat_lt u s ≡ b → (u ≡ s → Earlier program s i) → Earlier program s i
    go true e again = inr (at, callee, u, call, ltb-true u s e, (t, n, rest, h))
    go false e again = let l = back s at callee u call in let m = ltb-false u s e in again (omega arith)

pub backwards_law : BackwardsLaw
backwards_law program back s i = ((λ h. chained program back i h.1 s h.0 h.2 h.3), λ h. ⊎_elim (λ g. (s, 0, refl, g)) (λ g. (g.5.0, suc g.5.1, (g.2, g.0, g.1, g.3, g.5.2), g.5.3)) h)
