-- What the threads of a construct touch that goes through an array is named by its item, or by no step that is judged but an
-- index by the chunk parameter.
use Rattle.std.proofs.Common.{◌≡◌, ℕ, zero, suc, ℤ, nat_eq, List, [], ◌∷◌, ◌++◌, replicate, ◌⊎◌, inl, inr, ⊎_elim, Option, Some, None, is_some, Bool, true, false, cond, sym, subst, ap, ◌∙◌, refl, true≢false, append_assoc}
use Rattle.typed_tree.specs.declared.expressions.Root.{Root}
use Rattle.typed_tree.specs.declared.expressions.Root.TheVariants as root
use Rattle.typed_tree.specs.declared.expressions.Iterated.{Iterated}
use Rattle.typed_tree.specs.declared.expressions.Reducer.{Reducer}
use Rattle.typed_tree.specs.declared.expressions.Reducer.TheVariants.{Operator, Function}
use Rattle.ada_base.specs.declared.operation.Op.{Op}
use Rattle.ada_base.specs.declared.operation.Op.TheVariants as op
use Rattle.typed_tree.specs.Syntax.{Expr, Static, Variable, Constant, Parameter, Target, Group, Unary, Binary, AndThen, OrElse, Relation, Membership, If, Call, Convert, Reduction, Exprs, NoExpr, AlsoExpr, Optional, Absent, Present, Selections, Whole, Field, Index, Actuals, NoActual, In, InOut, Out, CompositeInOut, CompositeOut, Value, Number, Cells, Composite, WholeVariable, WholeConstant, WholeTarget, CompositeIf, Aggregate, Associations, NoAssociation, Association, Iteration, Range, Components, Chunk, NoChunk, Count, Each, Pieces, NoPiece, Text, Image, Padded, Decls, NoDecl, DeclareDefault, DeclareVariable, DeclareConstant, Mentions, Stmt, Null, Assign, CallProcedure, Exit, Return, ReturnValue, Raise, Reraise, IfThen, Case, Loop, For, ParallelFor, Parallel, Block, Put, Get, Stmts, End, Then, Alternatives, NoAlternative, Alternative, Arms, NoArm, Arm, Handlers, NoHandler, Handler, Body, Sub, Program}
use Rattle.ada_meaning.specs.Meaning.{sub_at}
use Rattle.ada_meaning.specs.Values.{is_modular}
use Rattle.check_effects.specs.Effects.{Selector, At, Fixed, LoopIndex, ChunkIndex, Any, Step, FieldStep, IndexStep, ItemStep, Named, Access, Roles, unknown, other, hide, with_item, is_one, role, a_distance, a_parameter, opposite, shifted, added, selector, steps_of, name, forgotten, forgotten_steps, forget, Construct, LoopOf, BlockOf, ReductionOf, Item, Touches, Calls, Blocks, Holds, chunk_hidden, course_hidden, judging, iterated_hidden, InReducer, InExpr, InExprs, InOptional, InSelections, InActuals, InValue, InComposite, InAssociations, InCourse, InFilter, InChunk, InPieces, InDecls, InStmt, InAll, InAlternatives, InArm, InHandlers, InBody, InThread, InCallee}
use Rattle.check_effects.specs.Conflicts.{InProgram, IsThreadEffect, path, item_selector}
use Rattle.check_effects.specs.Covered.{Items, items_in, items_of, goes_through_array, has_items}
use Rattle.check_effects.proofs.Coordinates.{HasLoop, loop_somewhere, no_loop}

-- ---- steps that aren't by the loop that is judged

abbrev pub NotLoop : Selector → Type 0
NotLoop (LoopIndex d) = ⊥
NotLoop s = Unit {0}

abbrev pub Plain : List Step → Type 0
Plain [] = Unit {0}
Plain (FieldStep number offset ∷ ss) = Plain ss
Plain (IndexStep s low high stride ∷ ss) = NotLoop s × Plain ss
Plain (ItemStep judged count stride dimensions ∷ ss) = (judged ≡ false) × Plain ss

plain_append : (ss ts : List Step) → Plain ss → Plain ts → Plain (ss ++ ts)
plain_append [] ts h g = g
plain_append (FieldStep number offset ∷ ss) ts h g = plain_append ss ts h g
plain_append (IndexStep s low high stride ∷ ss) ts h g = (h.0, plain_append ss ts h.1 g)
plain_append (ItemStep judged count stride dimensions ∷ ss) ts h g = (h.0, plain_append ss ts h.1 g)

-- their path has no such position
pub plain_path : (ss : List Step) → Plain ss → HasLoop (path ss) → ⊥
plain_path [] h l = l
plain_path (FieldStep number offset ∷ ss) h l = plain_path ss h l
plain_path (IndexStep (At k) low high stride ∷ ss) h l = plain_path ss h.1 l
plain_path (IndexStep (Fixed i) low high stride ∷ ss) h l = plain_path ss h.1 l
plain_path (IndexStep (LoopIndex d) low high stride ∷ ss) h l = h.0
plain_path (IndexStep (ChunkIndex d) low high stride ∷ ss) h l = plain_path ss h.1 l
plain_path (IndexStep Any low high stride ∷ ss) h l = plain_path ss h.1 l
plain_path (ItemStep true count stride dimensions ∷ ss) h l = true≢false h.0
plain_path (ItemStep false count stride dimensions ∷ ss) h l = ⊎_elim (λ g. no_loop dimensions g) (λ g. plain_path ss h.1 g) (loop_somewhere (replicate dimensions Any) (path ss) l)

pub path_append : (ss ts : List Step) → path (ss ++ ts) ≡ path ss ++ path ts
path_append [] ts = refl
path_append (FieldStep number offset ∷ ss) ts = ap (λ z. At number ∷ z) (path_append ss ts)
path_append (IndexStep s low high stride ∷ ss) ts = ap (λ z. s ∷ z) (path_append ss ts)
path_append (ItemStep judged count stride dimensions ∷ ss) ts =
    ap (λ z. replicate dimensions (item_selector judged) ++ z) (path_append ss ts) ∙ sym (append_assoc (replicate dimensions (item_selector judged)) (path ss) (path ts))

not_forgotten : (s : Selector) → NotLoop (forgotten s)
not_forgotten (At k) = tt
not_forgotten (Fixed i) = tt
not_forgotten (LoopIndex d) = tt
not_forgotten (ChunkIndex d) = tt
not_forgotten Any = tt

plain_forgotten : (ss : List Step) → Plain (forgotten_steps ss)
plain_forgotten [] = tt
plain_forgotten (FieldStep number offset ∷ ss) = plain_forgotten ss
plain_forgotten (IndexStep s low high stride ∷ ss) = (not_forgotten s, plain_forgotten ss)
plain_forgotten (ItemStep judged count stride dimensions ∷ ss) = (refl, plain_forgotten ss)

module _ (r : Roles) (none : r.loop ≡ None) where
  role_not : (k : ℕ) (d : ℤ) → NotLoop (role r k d)
  role_not k d = go (is_one r.chunk k) (is_one r.loop k) (ap (λ o. is_one o k) none)
    where
      go : (a b : Bool) → b ≡ false → NotLoop (cond a (ChunkIndex d) (cond b (LoopIndex d) Any))
      go true b e = tt
      go false true e = absurd (true≢false e)
      go false false e = tt

  shifted_not : (k : Option ℕ) (d : Option ℤ) → NotLoop (shifted Any (role r) k d)
  shifted_not None d = tt
  shifted_not (Some k) None = tt
  shifted_not (Some k) (Some d) = role_not k d

  distance_not : (o : Op) (e f : Expr) → NotLoop (added Any (role r) o e f)
  distance_not op.Add e f = go (is_some (a_parameter e)) _ _ (shifted_not (a_parameter e) (a_distance f)) (shifted_not (a_parameter f) (a_distance e))
    where
      go : (b : Bool) (s t : Selector) → NotLoop s → NotLoop t → NotLoop (cond b s t)
      go true s t h g = h
      go false s t h g = g
  distance_not op.Sub e f = shifted_not (a_parameter e) (opposite (a_distance f))
  distance_not o e f = tt

  selector_not : (e : Expr) → NotLoop (selector r e)
  selector_not (Parameter at k) = role_not k _
  selector_not (Binary at o class e f) = go (is_modular class)
    where
      go : (b : Bool) → NotLoop (cond b Any (added Any (role r) o e f))
      go true = tt
      go false = distance_not o e f
  selector_not e = tt

  plain_steps : (g : Selections) → Plain (steps_of r g)
  plain_steps Whole = tt
  plain_steps (Field number offset rest) = plain_steps rest
  plain_steps (Index at e low high stride rest) = (selector_not e, plain_steps rest)

-- ---- what a name stands for

-- it leads to a part of the item, or isn't by it
abbrev pub ByItem : Option Items → Named → Type 0
ByItem None n = Plain n.steps
ByItem (Some t) n = Plain n.steps ⊎ ((n.object ≡ t.array.object) × (post : List Step) × Plain post × (n.steps ≡ t.array.steps ++ (ItemStep true t.count t.stride t.dimensions ∷ post)))

abbrev onto : Named → List Step → Named
onto n ss = record { object = n.object; steps = n.steps ++ ss }

by_plain : (t : Option Items) (n : Named) → Plain n.steps → ByItem t n
by_plain None n h = h
by_plain (Some t) n h = inl h

by_more : (t : Option Items) (n : Named) (ss : List Step) → ByItem t n → Plain ss → ByItem t (onto n ss)
by_more None n ss h p = plain_append n.steps ss h p
by_more (Some t) n ss (inl h) p = inl (plain_append n.steps ss h p)
by_more (Some t) n ss (inr (o, post, q, e)) p =
    inr (o, post ++ ss, plain_append post ss q p, ap (λ z. z ++ ss) e ∙ append_assoc t.array.steps (ItemStep true t.count t.stride t.dimensions ∷ post) ss)

-- the roles of a construct are those around it, with parameters and items that aren't judged
record Forgot (r : Roles) : Type 0 where
  loop : r.loop ≡ None
  items : (k : ℕ) → Plain (r.item k).steps
  target : Plain r.target.steps

forgot : (r : Roles) → Forgot (forget r)
forgot r = record { loop = refl; items = λ k. plain_forgotten (r.item k).steps; target = plain_forgotten r.target.steps }

abbrev IsForgotten : Construct → Type 0
IsForgotten (LoopOf site r chunk iteration stmts) = Forgot r
IsForgotten (BlockOf site r most arms) = Forgot r
IsForgotten (ReductionOf site r by chunk iteration value) = Forgot r

module _ (program : Program) (t : Option Items) where
  record Fit (r : Roles) : Type 0 where
    loop : r.loop ≡ None
    items : (k : ℕ) → ByItem t (r.item k)
    target : ByItem t r.target

  fit_unknown : Fit unknown
  fit_unknown = record { loop = refl; items = λ k. by_plain t _ tt; target = by_plain t _ tt }

  fit_forgot : (r : Roles) → Forgot r → Fit r
  fit_forgot r h = record { loop = h.loop; items = λ k. by_plain t (r.item k) (h.items k); target = by_plain t r.target h.target }

  fit_chunk_is : (c : Option ℕ) (r : Roles) → Fit r → Fit (record r { chunk = c })
  fit_chunk_is c r h = record { loop = h.loop; items = h.items; target = h.target }

  fit_hide : (k : ℕ) (r : Roles) → Fit r → Fit (hide k r)
  fit_hide k r h = record { loop = ap (λ o. other k o) h.loop; items = h.items; target = h.target }

  fit_chunk : (c : Chunk) (r : Roles) → Fit r → Fit (chunk_hidden c r)
  fit_chunk NoChunk r h = h
  fit_chunk (Count e) r h = h
  fit_chunk (Each k low high check) r h = fit_hide k r h

  fit_iterated : (i : Option Iterated) (r : Roles) → Fit r → Fit (iterated_hidden i r)
  fit_iterated None r h = h
  fit_iterated (Some i) r h = fit_hide i.parameter r h

  fit_target : (n : Named) (r : Roles) → ByItem t n → Fit r → Fit (record r { target = n })
  fit_target n r g h = record { loop = h.loop; items = h.items; target = g }

  fit_item : (k : ℕ) (n : Named) (r : Roles) → ByItem t n → Fit r → Fit (with_item k n r)
  fit_item k n r g h = record { loop = h.loop; items = λ j. go j (nat_eq j k); target = h.target }
    where
      go : (j : ℕ) (b : Bool) → ByItem t (cond b n (r.item j))
      go j true = g
      go j false = h.items j

  names : (r : Roles) → Fit r → (from : Root) (g : Selections) → ByItem t (name r from g)
  names r h (root.Object x) g = by_plain t _ (plain_steps r h.loop g)
  names r h (root.Item k) g = by_more t (r.item k) (steps_of r g) (h.items k) (plain_steps r h.loop g)

  fit_course : (it : Iteration) (around r : Roles) → Fit around → Fit r → Fit (course_hidden around it r)
  fit_course (Range k reverse low high check filter) around r a h = fit_hide k r h
  fit_course (Components k true at from g count stride dimensions filter) around r a h = h
  fit_course (Components k false at from g count stride dimensions filter) around r a h =
      fit_item k _ r (by_more t (name around from g) (ItemStep false count stride dimensions ∷ []) (names around a from g) (refl, tt)) h

  -- ---- what is claimed of what stands in a text

  abbrev Claim : Item → Type 0
  Claim (Touches at a) = ByItem t (record { object = a.object; steps = a.steps })
  Claim (Calls at callee s) = Unit {0}
  Claim (Blocks at callee) = Unit {0}
  Claim (Holds k) = IsForgotten k

  touches : (at : ℕ) (a : Access) (i : Item) → ByItem t (record { object = a.object; steps = a.steps }) → i ≡ Touches at a → Claim i
  touches at a i h e = subst (λ z. Claim z) (sym e) h

  called : (at callee s : ℕ) (i : Item) → i ≡ Calls at callee s → Claim i
  called at callee s i e = subst (λ z. Claim z) (sym e) tt

  blocks : (at callee : ℕ) (i : Item) → i ≡ Blocks at callee → Claim i
  blocks at callee i e = subst (λ z. Claim z) (sym e) tt

  holds : (k : Construct) (i : Item) → IsForgotten k → i ≡ Holds k → Claim i
  holds k i h e = subst (λ z. Claim z) (sym e) h

  in_reducer : (by : Reducer) (i : Item) → InReducer by i → Claim i
  in_reducer (Operator at op class) i h = absurd h
  in_reducer (Function at s x y) i h = called at at s i h

  mutual
    in_expr : (e : Expr) (r : Roles) (i : Item) → Fit r → InExpr program.subtypes r e i → Claim i
    in_expr (Static at v literal mentions) r i f h = in_exprs mentions r i f h
    in_expr (Variable at from g s) r i f (inl e) = touches at _ i (names r f from g) e
    in_expr (Variable at from g s) r i f (inr h) = in_select g r i f h
    in_expr (Constant at from g s) r i f h = in_select g r i f h
    in_expr (Parameter at x) r i f h = absurd h
    in_expr (Target at s) r i f h = touches at _ i f.target h
    in_expr (Group e) r i f h = in_expr e r i f h
    in_expr (Unary at s c e) r i f h = in_expr e r i f h
    in_expr (Binary at o c d e) r i f h = ⊎_elim (λ h. in_expr d r i f h) (λ h. in_expr e r i f h) h
    in_expr (AndThen d e) r i f h = ⊎_elim (λ h. in_expr d r i f h) (λ h. in_expr e r i f h) h
    in_expr (OrElse d e) r i f h = ⊎_elim (λ h. in_expr d r i f h) (λ h. in_expr e r i f h) h
    in_expr (Relation c o d e) r i f h = ⊎_elim (λ h. in_expr d r i f h) (λ h. in_expr e r i f h) h
    in_expr (Membership c n e l u) r i f (inl h) = in_expr e r i f h
    in_expr (Membership c n e l u) r i f (inr (inl h)) = in_expr l r i f h
    in_expr (Membership c n e l u) r i f (inr (inr h)) = in_expr u r i f h
    in_expr (If c d e) r i f (inl h) = in_expr c r i f h
    in_expr (If c d e) r i f (inr (inl h)) = in_expr d r i f h
    in_expr (If c d e) r i f (inr (inr h)) = in_expr e r i f h
    in_expr (Call at callee s a) r i f (inl e) = called at callee s i e
    in_expr (Call at callee s a) r i f (inr h) = in_actuals a r i f h
    in_expr (Convert c e) r i f h = in_expr e r i f h
    in_expr (Reduction at n by e None c it v) r i f (inl h) = in_reducer by i h
    in_expr (Reduction at n by e None c it v) r i f (inr (inl h)) = in_expr e r i f h
    in_expr (Reduction at n by e None c it v) r i f (inr (inr (inl h))) = in_course it r i f h
    in_expr (Reduction at n by e None c it v) r i f (inr (inr (inr (inl h)))) = in_filter it _ i (fit_course it r r f f) h
    in_expr (Reduction at n by e None c it v) r i f (inr (inr (inr (inr h)))) = in_expr v _ i (fit_course it r r f f) h
    in_expr (Reduction at n by e (Some site) c it v) r i f (inl h) = holds _ i (forgot r) h
    in_expr (Reduction at n by e (Some site) c it v) r i f (inr (inl h)) = in_reducer by i h
    in_expr (Reduction at n by e (Some site) c it v) r i f (inr (inr (inl h))) = in_expr e r i f h
    in_expr (Reduction at n by e (Some site) c it v) r i f (inr (inr (inr (inl h)))) = in_chunk c r i f h
    in_expr (Reduction at n by e (Some site) c it v) r i f (inr (inr (inr (inr (inl h))))) = in_course it r i f h
    in_expr (Reduction at n by e (Some site) c it v) r i f (inr (inr (inr (inr (inr (inl h)))))) = in_filter it _ i (fit_course it r (chunk_hidden c r) f (fit_chunk c r f)) h
    in_expr (Reduction at n by e (Some site) c it v) r i f (inr (inr (inr (inr (inr (inr h)))))) = in_expr v _ i (fit_course it r (chunk_hidden c r) f (fit_chunk c r f)) h

    in_exprs : (es : Exprs) (r : Roles) (i : Item) → Fit r → InExprs program.subtypes r es i → Claim i
    in_exprs NoExpr r i f h = absurd h
    in_exprs (AlsoExpr e es) r i f h = ⊎_elim (λ h. in_expr e r i f h) (λ h. in_exprs es r i f h) h

    in_optional : (e : Optional) (r : Roles) (i : Item) → Fit r → InOptional program.subtypes r e i → Claim i
    in_optional Absent r i f h = absurd h
    in_optional (Present e) r i f h = in_expr e r i f h

    in_select : (g : Selections) (r : Roles) (i : Item) → Fit r → InSelections program.subtypes r g i → Claim i
    in_select Whole r i f h = absurd h
    in_select (Field n o g) r i f h = in_select g r i f h
    in_select (Index at e l u s g) r i f h = ⊎_elim (λ h. in_expr e r i f h) (λ h. in_select g r i f h) h

    in_actuals : (a : Actuals) (r : Roles) (i : Item) → Fit r → InActuals program.subtypes r a i → Claim i
    in_actuals NoActual r i f h = absurd h
    in_actuals (In x v a) r i f h = ⊎_elim (λ h. in_value v r i f h) (λ h. in_actuals a r i f h) h
    in_actuals (InOut x at from g c d a) r i f (inl e) = touches at _ i (names r f from g) e
    in_actuals (InOut x at from g c d a) r i f (inr (inl e)) = touches at _ i (names r f from g) e
    in_actuals (InOut x at from g c d a) r i f (inr (inr h)) = ⊎_elim (λ h. in_select g r i f h) (λ h. in_actuals a r i f h) h
    in_actuals (Out x at from g c d a) r i f (inl e) = touches at _ i (names r f from g) e
    in_actuals (Out x at from g c d a) r i f (inr h) = ⊎_elim (λ h. in_select g r i f h) (λ h. in_actuals a r i f h) h
    in_actuals (CompositeInOut x at from g s a) r i f (inl e) = touches at _ i (names r f from g) e
    in_actuals (CompositeInOut x at from g s a) r i f (inr (inl e)) = touches at _ i (names r f from g) e
    in_actuals (CompositeInOut x at from g s a) r i f (inr (inr h)) = ⊎_elim (λ h. in_select g r i f h) (λ h. in_actuals a r i f h) h
    in_actuals (CompositeOut x at from g s a) r i f (inl e) = touches at _ i (names r f from g) e
    in_actuals (CompositeOut x at from g s a) r i f (inr (inl e)) = touches at _ i (names r f from g) e
    in_actuals (CompositeOut x at from g s a) r i f (inr (inr h)) = ⊎_elim (λ h. in_select g r i f h) (λ h. in_actuals a r i f h) h

    in_value : (v : Value) (r : Roles) (i : Item) → Fit r → InValue program.subtypes r v i → Claim i
    in_value (Number c e) r i f h = in_expr e r i f h
    in_value (Cells c) r i f h = in_composite c r i f h

    in_composite : (c : Composite) (r : Roles) (i : Item) → Fit r → InComposite program.subtypes r c i → Claim i
    in_composite (WholeVariable at from g s) r i f (inl e) = touches at _ i (names r f from g) e
    in_composite (WholeVariable at from g s) r i f (inr h) = in_select g r i f h
    in_composite (WholeConstant at from g s) r i f h = in_select g r i f h
    in_composite (WholeTarget at s) r i f h = touches at _ i f.target h
    in_composite (CompositeIf e c d) r i f (inl h) = in_expr e r i f h
    in_composite (CompositeIf e c d) r i f (inr (inl h)) = in_composite c r i f h
    in_composite (CompositeIf e c d) r i f (inr (inr h)) = in_composite d r i f h
    in_composite (Aggregate at s a) r i f h = in_associations a r i f h

    in_associations : (a : Associations) (r : Roles) (i : Item) → Fit r → InAssociations program.subtypes r a i → Claim i
    in_associations NoAssociation r i f h = absurd h
    in_associations (Association runs it es v a) r i f (inl h) = in_exprs es r i f h
    in_associations (Association runs it es v a) r i f (inr (inl h)) = in_value v _ i (fit_iterated it r f) h
    in_associations (Association runs it es v a) r i f (inr (inr h)) = in_associations a r i f h

    in_course : (it : Iteration) (r : Roles) (i : Item) → Fit r → InCourse program.subtypes r it i → Claim i
    in_course (Range x o l u c q) r i f h = ⊎_elim (λ h. in_expr l r i f h) (λ h. in_expr u r i f h) h
    in_course (Components x o at from g n s m q) r i f h = in_select g r i f h

    in_filter : (it : Iteration) (r : Roles) (i : Item) → Fit r → InFilter program.subtypes r it i → Claim i
    in_filter (Range x o l u c q) r i f h = in_optional q r i f h
    in_filter (Components x o at from g n s m q) r i f h = in_optional q r i f h

    in_chunk : (c : Chunk) (r : Roles) (i : Item) → Fit r → InChunk program.subtypes r c i → Claim i
    in_chunk NoChunk r i f h = absurd h
    in_chunk (Count e) r i f h = in_expr e r i f h
    in_chunk (Each x l u c) r i f h = ⊎_elim (λ h. in_expr l r i f h) (λ h. in_expr u r i f h) h

  in_pieces : (p : Pieces) (r : Roles) (i : Item) → Fit r → InPieces program.subtypes r p i → Claim i
  in_pieces NoPiece r i f h = absurd h
  in_pieces (Text b p) r i f h = in_pieces p r i f h
  in_pieces (Image c e p) r i f h = ⊎_elim (λ h. in_expr e r i f h) (λ h. in_pieces p r i f h) h
  in_pieces (Padded c e w p) r i f (inl h) = in_expr e r i f h
  in_pieces (Padded c e w p) r i f (inr (inl h)) = in_expr w r i f h
  in_pieces (Padded c e w p) r i f (inr (inr h)) = in_pieces p r i f h

  in_decls : (ds : Decls) (r : Roles) (i : Item) (rest : Item → Type 0) → Fit r → (rest i → Claim i) → InDecls program.subtypes r ds rest i → Claim i
  in_decls NoDecl r i rest f g h = g h
  in_decls (DeclareDefault x ds) r i rest f g h = in_decls ds r i rest f g h.0
  in_decls (DeclareVariable x v ds) r i rest f g h = ⊎_elim (λ h. in_value v r i f h) (λ h. in_decls ds r i rest f g h.0) h
  in_decls (DeclareConstant x v ds) r i rest f g h = ⊎_elim (λ h. in_value v r i f h) (λ h. in_decls ds r i rest f g h) h
  in_decls (Mentions es ds) r i rest f g h = ⊎_elim (λ h. in_exprs es r i f h) (λ h. in_decls ds r i rest f g h) h

  mutual
    in_stmt : (s : Stmt) (r : Roles) (i : Item) → Fit r → InStmt program.subtypes r s i → Claim i
    in_stmt Null r i f h = absurd h
    in_stmt (Assign at from g v) r i f (inl e) = touches at _ i (names r f from g) e
    in_stmt (Assign at from g v) r i f (inr (inl h)) = in_select g r i f h
    in_stmt (Assign at from g v) r i f (inr (inr h)) = in_value v _ i (fit_target (name r from g) r (names r f from g) f) h
    in_stmt (CallProcedure at callee s a) r i f (inl e) = called at callee s i e
    in_stmt (CallProcedure at callee s a) r i f (inr h) = in_actuals a r i f h
    in_stmt (Exit n c) r i f h = in_optional c r i f h
    in_stmt Return r i f h = absurd h
    in_stmt (ReturnValue v) r i f h = in_value v r i f h
    in_stmt (Raise x) r i f h = absurd h
    in_stmt Reraise r i f h = absurd h
    in_stmt (IfThen c s u) r i f (inl h) = in_expr c r i f h
    in_stmt (IfThen c s u) r i f (inr (inl h)) = in_all s r i f h
    in_stmt (IfThen c s u) r i f (inr (inr h)) = in_all u r i f h
    in_stmt (Case e a) r i f (inl h) = in_expr e r i f h
    in_stmt (Case e a) r i f (inr h) = in_alternatives a r i f h
    in_stmt (Loop n c s) r i f h = ⊎_elim (λ h. in_optional c r i f h) (λ h. in_all s r i f h) h
    in_stmt (For n it s) r i f (inl h) = in_course it r i f h
    in_stmt (For n it s) r i f (inr (inl h)) = in_filter it _ i (fit_course it r r f f) h
    in_stmt (For n it s) r i f (inr (inr h)) = in_all s _ i (fit_course it r r f f) h
    in_stmt (ParallelFor n site c it s) r i f (inl h) = holds _ i (forgot r) h
    in_stmt (ParallelFor n site c it s) r i f (inr (inl h)) = in_chunk c r i f h
    in_stmt (ParallelFor n site c it s) r i f (inr (inr (inl h))) = in_course it r i f h
    in_stmt (ParallelFor n site c it s) r i f (inr (inr (inr (inl h)))) = in_filter it _ i (fit_course it r (chunk_hidden c r) f (fit_chunk c r f)) h
    in_stmt (ParallelFor n site c it s) r i f (inr (inr (inr (inr h)))) = in_all s _ i (fit_course it r (chunk_hidden c r) f (fit_chunk c r f)) h
    in_stmt (Parallel site n a) r i f (inl h) = holds _ i (forgot r) h
    in_stmt (Parallel site n a) r i f (inr (inl h)) = in_optional n r i f h
    in_stmt (Parallel site n a) r i f (inr (inr (j, h))) = in_arm a j r i f h
    in_stmt (Block ds s hs) r i f h = in_decls ds r i (λ j. InAll program.subtypes r s j ⊎ InHandlers program.subtypes r hs j) f (λ h. ⊎_elim (λ h. in_all s r i f h) (λ h. in_handlers hs r i f h) h) h
    in_stmt (Put at callee p line) r i f (inl e) = blocks at callee i e
    in_stmt (Put at callee p line) r i f (inr h) = in_pieces p r i f h
    in_stmt (Get at callee first from g s) r i f (inl e) = blocks at callee i e
    in_stmt (Get at callee first from g s) r i f (inr (inl e)) = touches first _ i (names r f from g) e
    in_stmt (Get at callee first from g s) r i f (inr (inr h)) = in_select g r i f h

    in_all : (ss : Stmts) (r : Roles) (i : Item) → Fit r → InAll program.subtypes r ss i → Claim i
    in_all End r i f h = absurd h
    in_all (Then s ss) r i f h = ⊎_elim (λ h. in_stmt s r i f h) (λ h. in_all ss r i f h) h

    in_alternatives : (a : Alternatives) (r : Roles) (i : Item) → Fit r → InAlternatives program.subtypes r a i → Claim i
    in_alternatives NoAlternative r i f h = absurd h
    in_alternatives (Alternative o c es s a) r i f (inl h) = in_exprs es r i f h
    in_alternatives (Alternative o c es s a) r i f (inr (inl h)) = in_all s r i f h
    in_alternatives (Alternative o c es s a) r i f (inr (inr h)) = in_alternatives a r i f h

    in_arm : (a : Arms) (j : ℕ) (r : Roles) (i : Item) → Fit r → InArm program.subtypes r a j i → Claim i
    in_arm NoArm j r i f h = absurd h
    in_arm (Arm s a) zero r i f h = in_all s r i f h
    in_arm (Arm s a) (suc j) r i f h = in_arm a j r i f h

    in_handlers : (hs : Handlers) (r : Roles) (i : Item) → Fit r → InHandlers program.subtypes r hs i → Claim i
    in_handlers NoHandler r i f h = absurd h
    in_handlers (Handler x s hs) r i f h = ⊎_elim (λ h. in_all s r i f h) (λ h. in_handlers hs r i f h) h

  in_body : (b : Body) (i : Item) → InBody program.subtypes b i → Claim i
  in_body b i h = in_stmt (Block b.decls b.stmts b.handlers) unknown i fit_unknown h

  in_callee : (o : Option Sub) (i : Item) → InCallee program o i → Claim i
  in_callee None i h = absurd h
  in_callee (Some sub) i h = in_body sub.body i h

  in_program : (i : Item) → InProgram program i → Claim i
  in_program i (inl h) = in_body program.body i h
  in_program i (inr (s, h)) = in_callee (sub_at program.subs s) i h

module _ (program : Program) where
  -- below an iteration that is judged
  fit_judged : (c : Chunk) (it : Iteration) (r : Roles) → goes_through_array it ≡ true → Forgot r → Fit program (items_in it r) (judging c it r)
  fit_judged c (Range k reverse low high check filter) r e h = absurd (true≢false (sym e))
  fit_judged c (Components k true at from g count stride dimensions filter) r e h = fit_chunk_is program None _ r (fit_forgot program None r h)
  fit_judged c (Components k false at from g count stride dimensions filter) r e h =
      let t : Items = record { array = name r from g; count = count; stride = stride; dimensions = dimensions } in
      fit_item program (Some t) k _ _ (inr (refl, [], tt, refl)) (fit_chunk_is program (Some t) _ r (fit_forgot program (Some t) r h))

  in_thread : (k : Construct) → has_items k ≡ true → IsForgotten k → (j : ℕ) (i : Item) → InThread program.subtypes k j i → Claim program (items_of k) i
  in_thread (LoopOf site r c it stmts) e g j i h =
      let f = fit_judged c it r e g in ⊎_elim (λ h. in_filter program (items_in it r) it _ i f h) (λ h. in_all program (items_in it r) stmts _ i f h) h
  in_thread (BlockOf site r most arms) e g j i h = absurd (true≢false (sym e))
  in_thread (ReductionOf site r by c it v) e g j i (inl h) = in_reducer program (items_in it r) by i h
  in_thread (ReductionOf site r by c it v) e g j i (inr (inl h)) = in_filter program (items_in it r) it _ i (fit_judged c it r e g) h
  in_thread (ReductionOf site r by c it v) e g j i (inr (inr h)) = in_expr program (items_in it r) v _ i (fit_judged c it r e g) h

  -- each effect of the threads of a construct over an array
  pub effect_by : (k : Construct) → has_items k ≡ true → InProgram program (Holds k) → (j at : ℕ) (a : Access) → IsThreadEffect program k j at a → ByItem (items_of k) (record { object = a.object; steps = a.steps })
  effect_by k e held j at a (inl h) = in_thread k e (in_program program None (Holds k) held) j (Touches at a) h
  effect_by k e held j at a (inr (callee, s, h, there, (u, n, chain, g), global)) = in_program program (items_of k) (Touches there a) (inr (u, g))

  -- no step to the array itself is by what is judged
  pub array_plain : (k : Construct) → InProgram program (Holds k) → (t : Items) → items_of k ≡ Some t → Plain t.array.steps
  array_plain k held t e = go k (in_program program None (Holds k) held) e
    where
      some_none : {t : Items} → ◌≡◌ {A = Option Items} None (Some t) → ⊥
      some_none e = cc

      some_same : {t u : Items} → ◌≡◌ {A = Option Items} (Some t) (Some u) → t ≡ u
      some_same e = cc

      at_array : (it : Iteration) (r : Roles) → Forgot r → items_in it r ≡ Some t → Plain t.array.steps
      at_array (Range x reverse low high check filter) r h e = absurd (some_none e)
      at_array (Components x true at from g count stride dimensions filter) r h e = absurd (some_none e)
      at_array (Components x false at from g count stride dimensions filter) r h e = subst (λ (t : Items). Plain t.array.steps) (some_same e) (names program None r (fit_forgot program None r h) from g)

      go : (k : Construct) → IsForgotten k → items_of k ≡ Some t → Plain t.array.steps
      go (LoopOf site r c it stmts) h e = at_array it r h e
      go (BlockOf site r most arms) h e = absurd (some_none e)
      go (ReductionOf site r by c it v) h e = at_array it r h e
