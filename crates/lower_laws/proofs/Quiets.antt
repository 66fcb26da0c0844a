-- Expressions write nothing themselves, and what they call sees no more of the main procedure's objects than is there (6.1, 8.2).
use Rattle.std.proofs.Common.{◌≡◌, ℕ, List, ◌⊎◌, inl, inr, Option, Some, None, Bool, true, refl, sym, subst, true≢false}
use Rattle.behaviours.specs.Paths.{Entity}
use Rattle.typed_tree.specs.declared.expressions.Iterated.{Iterated}
use Rattle.typed_tree.specs.declared.expressions.Reducer.{Reducer}
use Rattle.typed_tree.specs.declared.expressions.Reducer.TheVariants.{Operator, Function}
use Rattle.typed_tree.specs.declared.program.Formal.{Formal}
use Rattle.typed_tree.specs.Syntax.{Expr, Static, Variable, Constant, Parameter, Target, Group, Unary, Binary, AndThen, OrElse, Relation, Membership, If, Call, Convert, Reduction, Exprs, NoExpr, AlsoExpr, Optional, Absent, Present, Selections, Whole, Field, Index, Actuals, NoActual, In, InOut, Out, CompositeInOut, CompositeOut, Value, Number, Cells, Composite, WholeVariable, WholeConstant, WholeTarget, CompositeIf, Aggregate, Associations, NoAssociation, Association, Iteration, Range, Components, Chunk, NoChunk, Count, Each, Pieces, NoPiece, Text, Image, Padded, Program}
use Rattle.typed_scopes.specs.Scopes.{Around, ScopedReducer, ScopedExpr, ScopedExprs, ScopedOptional, ScopedSelections, ScopedIn, ScopedValue, ScopedComposite, ScopedAssociations, ScopedIteration, ScopedChunk, ScopedPieces, with_chunk, with_index, with_parameter}
use Rattle.check_effects.specs.Effects.{Roles, Named, reading, Item, Touches, Calls, Blocks, Holds, InReducer, InExpr, InExprs, InOptional, InSelections, InActuals, InValue, InComposite, InAssociations, InFilter, InChunk, InPieces, course_hidden, chunk_hidden, iterated_hidden}

pub chunk_outer : (chunk : Chunk) (v : Around) → (with_chunk chunk v).outer ≡ v.outer
chunk_outer NoChunk v = refl
chunk_outer (Count e) v = refl
chunk_outer (Each k low high check) v = refl

index_outer : (i : Option Iterated) (v : Around) → (with_index i v).outer ≡ v.outer
index_outer None v = refl
index_outer (Some i) v = refl

module _ (program : Program) (shown : ℕ → Entity → Bool) where
  -- nothing is written there, and what is called sees no more than that
  abbrev pub Quiet : (Entity → Bool) → Item → Type 0
  Quiet outer (Touches at a) = a.writes ≡ true → ⊥
  Quiet outer (Calls at callee sub) = (y : Entity) → shown sub y ≡ true → outer y ≡ true
  Quiet outer (Blocks at callee) = Unit {0}
  Quiet outer (Holds k) = Unit {0}

  quiet_read : (outer : Entity → Bool) (i : Item) (at : ℕ) (n : Named) (cells : ℕ) → i ≡ Touches at (reading n cells) → Quiet outer i
  quiet_read outer i at n cells e = subst (λ i. Quiet outer i) (sym e) (λ w. true≢false (sym w))

  quiet_call : (outer : Entity → Bool) (i : Item) (at callee sub : ℕ) → i ≡ Calls at callee sub → ((y : Entity) → shown sub y ≡ true → outer y ≡ true) → Quiet outer i
  quiet_call outer i at callee sub e may = subst (λ i. Quiet outer i) (sym e) may

  pub in_chunk : (chunk : Chunk) (v : Around) (i : Item) → Quiet (with_chunk chunk v).outer i → Quiet v.outer i
  in_chunk chunk v i q = subst (λ o. Quiet o i) (chunk_outer chunk v) q

  pub quiet_reducer : (v : Around) (by : Reducer) → ScopedReducer program shown v by → (i : Item) → InReducer by i → Quiet v.outer i
  quiet_reducer v (Operator at op class) p i h = absurd h
  quiet_reducer v (Function at sub accumulator value) p i h = quiet_call v.outer i at at sub h p.0.may

  mutual
    pub quiet_expr : (v : Around) (r : Roles) (e : Expr) → ScopedExpr program shown v e → (i : Item) → InExpr program.subtypes r e i → Quiet v.outer i
    quiet_expr v r (Static at value literal mentions) p i h = quiet_exprs v r mentions p i h
    quiet_expr v r (Variable at from x scalar) p i (inl e) = quiet_read v.outer i _ _ _ e
    quiet_expr v r (Variable at from x scalar) p i (inr h) = quiet_select v r x p.1 i h
    quiet_expr v r (Constant at from x scalar) p i h = quiet_select v r x p.1 i h
    quiet_expr v r (Parameter at k) p i h = absurd h
    quiet_expr v r (Target at scalar) p i e = quiet_read v.outer i _ _ _ e
    quiet_expr v r (Group e) p i h = quiet_expr v r e p i h
    quiet_expr v r (Unary at o class e) p i h = quiet_expr v r e p i h
    quiet_expr v r (Binary at o class e f) p i (inl h) = quiet_expr v r e p.0 i h
    quiet_expr v r (Binary at o class e f) p i (inr h) = quiet_expr v r f p.1 i h
    quiet_expr v r (AndThen e f) p i (inl h) = quiet_expr v r e p.0 i h
    quiet_expr v r (AndThen e f) p i (inr h) = quiet_expr v r f p.1 i h
    quiet_expr v r (OrElse e f) p i (inl h) = quiet_expr v r e p.0 i h
    quiet_expr v r (OrElse e f) p i (inr h) = quiet_expr v r f p.1 i h
    quiet_expr v r (Relation class o e f) p i (inl h) = quiet_expr v r e p.0 i h
    quiet_expr v r (Relation class o e f) p i (inr h) = quiet_expr v r f p.1 i h
    quiet_expr v r (Membership class negated e low high) p i (inl h) = quiet_expr v r e p.0 i h
    quiet_expr v r (Membership class negated e low high) p i (inr (inl h)) = quiet_expr v r low p.1 i h
    quiet_expr v r (Membership class negated e low high) p i (inr (inr h)) = quiet_expr v r high p.2 i h
    quiet_expr v r (If condition value otherwise) p i (inl h) = quiet_expr v r condition p.0 i h
    quiet_expr v r (If condition value otherwise) p i (inr (inl h)) = quiet_expr v r value p.1 i h
    quiet_expr v r (If condition value otherwise) p i (inr (inr h)) = quiet_expr v r otherwise p.2 i h
    quiet_expr v r (Call at callee sub actuals) p i (inl e) = quiet_call v.outer i at callee sub e p.0.may
    quiet_expr v r (Call at callee sub actuals) p i (inr h) = quiet_in v r p.0.unit.formals actuals p.2 i h
    quiet_expr v r (Convert check e) p i h = quiet_expr v r e p i h
    quiet_expr v r (Reduction at a by initial None chunk it value) p i (inl h) = quiet_reducer v by p.2 i h
    quiet_expr v r (Reduction at a by initial None chunk it value) p i (inr (inl h)) = quiet_expr v r initial p.0 i h
    quiet_expr v r (Reduction at a by initial None chunk (Range k reverse low high check filter) value) p i (inr (inr (inl (inl h)))) = quiet_expr v r low p.4.0 i h
    quiet_expr v r (Reduction at a by initial None chunk (Range k reverse low high check filter) value) p i (inr (inr (inl (inr h)))) = quiet_expr v r high p.4.1 i h
    quiet_expr v r (Reduction at a by initial None chunk (Range k reverse low high check filter) value) p i (inr (inr (inr (inl h)))) =
        in_chunk chunk v i (quiet_optional (with_parameter k (with_chunk chunk v)) (course_hidden r (Range k reverse low high check filter) r) filter p.4.2 i h)
    quiet_expr v r (Reduction at a by initial None chunk (Range k reverse low high check filter) value) p i (inr (inr (inr (inr h)))) =
        in_chunk chunk v i (quiet_expr (with_parameter k (with_chunk chunk v)) (course_hidden r (Range k reverse low high check filter) r) value p.4.3 i h)
    quiet_expr v r (Reduction at a by initial None chunk (Components k constant b from x count stride dimensions filter) value) p i (inr (inr (inl h))) = quiet_select v r x p.4.2 i h
    quiet_expr v r (Reduction at a by initial None chunk (Components k constant b from x count stride dimensions filter) value) p i (inr (inr (inr (inl h)))) =
        in_chunk chunk v i (quiet_optional (with_chunk chunk v) (course_hidden r (Components k constant b from x count stride dimensions filter) r) filter p.4.3 i h)
    quiet_expr v r (Reduction at a by initial None chunk (Components k constant b from x count stride dimensions filter) value) p i (inr (inr (inr (inr h)))) =
        in_chunk chunk v i (quiet_expr (with_chunk chunk v) (course_hidden r (Components k constant b from x count stride dimensions filter) r) value p.4.4 i h)
    quiet_expr v r (Reduction at a by initial (Some site) chunk it value) p i (inl e) = subst (λ i. Quiet v.outer i) (sym e) tt
    quiet_expr v r (Reduction at a by initial (Some site) chunk it value) p i (inr (inl h)) = quiet_reducer v by p.2 i h
    quiet_expr v r (Reduction at a by initial (Some site) chunk it value) p i (inr (inr (inl h))) = quiet_expr v r initial p.0 i h
    quiet_expr v r (Reduction at a by initial (Some site) chunk it value) p i (inr (inr (inr (inl h)))) = quiet_chunk v r chunk p.1 i h
    quiet_expr v r (Reduction at a by initial (Some site) chunk (Range k reverse low high check filter) value) p i (inr (inr (inr (inr (inl (inl h)))))) = quiet_expr v r low p.4.0 i h
    quiet_expr v r (Reduction at a by initial (Some site) chunk (Range k reverse low high check filter) value) p i (inr (inr (inr (inr (inl (inr h)))))) = quiet_expr v r high p.4.1 i h
    quiet_expr v r (Reduction at a by initial (Some site) chunk (Range k reverse low high check filter) value) p i (inr (inr (inr (inr (inr (inl h)))))) =
        in_chunk chunk v i (quiet_optional (with_parameter k (with_chunk chunk v)) (course_hidden r (Range k reverse low high check filter) (chunk_hidden chunk r)) filter p.4.2 i h)
    quiet_expr v r (Reduction at a by initial (Some site) chunk (Range k reverse low high check filter) value) p i (inr (inr (inr (inr (inr (inr h)))))) =
        in_chunk chunk v i (quiet_expr (with_parameter k (with_chunk chunk v)) (course_hidden r (Range k reverse low high check filter) (chunk_hidden chunk r)) value p.4.3 i h)
    quiet_expr v r (Reduction at a by initial (Some site) chunk (Components k constant b from x count stride dimensions filter) value) p i (inr (inr (inr (inr (inl h))))) = quiet_select v r x p.4.2 i h
    quiet_expr v r (Reduction at a by initial (Some site) chunk (Components k constant b from x count stride dimensions filter) value) p i (inr (inr (inr (inr (inr (inl h)))))) =
        in_chunk chunk v i (quiet_optional (with_chunk chunk v) (course_hidden r (Components k constant b from x count stride dimensions filter) (chunk_hidden chunk r)) filter p.4.3 i h)
    quiet_expr v r (Reduction at a by initial (Some site) chunk (Components k constant b from x count stride dimensions filter) value) p i (inr (inr (inr (inr (inr (inr h)))))) =
        in_chunk chunk v i (quiet_expr (with_chunk chunk v) (course_hidden r (Components k constant b from x count stride dimensions filter) (chunk_hidden chunk r)) value p.4.4 i h)

    pub quiet_exprs : (v : Around) (r : Roles) (es : Exprs) → ScopedExprs program shown v es → (i : Item) → InExprs program.subtypes r es i → Quiet v.outer i
    quiet_exprs v r NoExpr p i h = absurd h
    quiet_exprs v r (AlsoExpr e es) p i (inl h) = quiet_expr v r e p.0 i h
    quiet_exprs v r (AlsoExpr e es) p i (inr h) = quiet_exprs v r es p.1 i h

    pub quiet_optional : (v : Around) (r : Roles) (e : Optional) → ScopedOptional program shown v e → (i : Item) → InOptional program.subtypes r e i → Quiet v.outer i
    quiet_optional v r Absent p i h = absurd h
    quiet_optional v r (Present e) p i h = quiet_expr v r e p i h

    pub quiet_select : (v : Around) (r : Roles) (x : Selections) → ScopedSelections program shown v x → (i : Item) → InSelections program.subtypes r x i → Quiet v.outer i
    quiet_select v r Whole p i h = absurd h
    quiet_select v r (Field number offset x) p i h = quiet_select v r x p i h
    quiet_select v r (Index at e low high stride x) p i (inl h) = quiet_expr v r e p.0 i h
    quiet_select v r (Index at e low high stride x) p i (inr h) = quiet_select v r x p.1 i h

    quiet_in : (v : Around) (r : Roles) (fs : List Formal) (x : Actuals) → ScopedIn program shown v fs x → (i : Item) → InActuals program.subtypes r x i → Quiet v.outer i
    quiet_in v r fs NoActual p i h = absurd h
    quiet_in v r fs (In formal value rest) p i (inl h) = quiet_value v r _ value p.2 i h
    quiet_in v r fs (In formal value rest) p i (inr h) = quiet_in v r p.0 rest p.3 i h
    quiet_in v r fs (InOut formal at from x inner outer rest) p i h = absurd p
    quiet_in v r fs (Out formal at from x inner outer rest) p i h = absurd p
    quiet_in v r fs (CompositeInOut formal at from x subtype rest) p i h = absurd p
    quiet_in v r fs (CompositeOut formal at from x subtype rest) p i h = absurd p

    pub quiet_value : (v : Around) (r : Roles) (n : ℕ) (x : Value) → ScopedValue program shown v n x → (i : Item) → InValue program.subtypes r x i → Quiet v.outer i
    quiet_value v r n (Number check e) p i h = quiet_expr v r e p.1 i h
    quiet_value v r n (Cells c) p i h = quiet_composite v r n c p i h

    quiet_composite : (v : Around) (r : Roles) (n : ℕ) (x : Composite) → ScopedComposite program shown v n x → (i : Item) → InComposite program.subtypes r x i → Quiet v.outer i
    quiet_composite v r n (WholeVariable at from x subtype) p i (inl e) = quiet_read v.outer i _ _ _ e
    quiet_composite v r n (WholeVariable at from x subtype) p i (inr h) = quiet_select v r x p.2 i h
    quiet_composite v r n (WholeConstant at from x subtype) p i h = quiet_select v r x p.2 i h
    quiet_composite v r n (WholeTarget at subtype) p i e = quiet_read v.outer i _ _ _ e
    quiet_composite v r n (CompositeIf condition value otherwise) p i (inl h) = quiet_expr v r condition p.0 i h
    quiet_composite v r n (CompositeIf condition value otherwise) p i (inr (inl h)) = quiet_composite v r n value p.1 i h
    quiet_composite v r n (CompositeIf condition value otherwise) p i (inr (inr h)) = quiet_composite v r n otherwise p.2 i h
    quiet_composite v r n (Aggregate at size associations) p i h = quiet_associations v r n associations p.1 i h

    quiet_associations : (v : Around) (r : Roles) (n : ℕ) (x : Associations) → ScopedAssociations program shown v n x → (i : Item) → InAssociations program.subtypes r x i → Quiet v.outer i
    quiet_associations v r n NoAssociation p i h = absurd h
    quiet_associations v r n (Association runs it mentions value rest) p i (inl h) = quiet_exprs v r mentions p.1 i h
    quiet_associations v r n (Association runs it mentions value rest) p i (inr (inl h)) = subst (λ o. Quiet o i) (index_outer it v) (quiet_value (with_index it v) (iterated_hidden it r) p.2.0 value p.2.2 i h)
    quiet_associations v r n (Association runs it mentions value rest) p i (inr (inr h)) = quiet_associations v r n rest p.3 i h

    pub quiet_chunk : (v : Around) (r : Roles) (x : Chunk) → ScopedChunk program shown v x → (i : Item) → InChunk program.subtypes r x i → Quiet v.outer i
    quiet_chunk v r NoChunk p i h = absurd h
    quiet_chunk v r (Count e) p i h = quiet_expr v r e p i h
    quiet_chunk v r (Each k low high check) p i (inl h) = quiet_expr v r low p.0 i h
    quiet_chunk v r (Each k low high check) p i (inr h) = quiet_expr v r high p.1 i h

  -- what each turn of a thread evaluates
  pub quiet_turn : (v : Around) (chunk : Chunk) (r : Roles) (it : Iteration) (value : Expr) → ScopedIteration program shown v (with_chunk chunk v) it (λ u. ScopedExpr program shown u value) → (i : Item)
      → InFilter program.subtypes r it i ⊎ InExpr program.subtypes r value i → Quiet v.outer i
  quiet_turn v chunk r (Range k reverse low high check filter) value p i (inl h) = in_chunk chunk v i (quiet_optional (with_parameter k (with_chunk chunk v)) r filter p.2 i h)
  quiet_turn v chunk r (Range k reverse low high check filter) value p i (inr h) = in_chunk chunk v i (quiet_expr (with_parameter k (with_chunk chunk v)) r value p.3 i h)
  quiet_turn v chunk r (Components k constant at from x count stride dimensions filter) value p i (inl h) = in_chunk chunk v i (quiet_optional (with_chunk chunk v) r filter p.3 i h)
  quiet_turn v chunk r (Components k constant at from x count stride dimensions filter) value p i (inr h) = in_chunk chunk v i (quiet_expr (with_chunk chunk v) r value p.4 i h)

  pub quiet_pieces : (v : Around) (r : Roles) (x : Pieces) → ScopedPieces program shown v x → (i : Item) → InPieces program.subtypes r x i → Quiet v.outer i
  quiet_pieces v r NoPiece p i h = absurd h
  quiet_pieces v r (Text bytes rest) p i h = quiet_pieces v r rest p i h
  quiet_pieces v r (Image class e rest) p i (inl h) = quiet_expr v r e p.0 i h
  quiet_pieces v r (Image class e rest) p i (inr h) = quiet_pieces v r rest p.1 i h
  quiet_pieces v r (Padded class e (Static at value literal mentions) rest) p i (inl h) = quiet_expr v r e p.0 i h
  quiet_pieces v r (Padded class e (Static at value literal mentions) rest) p i (inr (inl h)) = quiet_exprs v r mentions p.1 i h
  quiet_pieces v r (Padded class e (Static at value literal mentions) rest) p i (inr (inr h)) = quiet_pieces v r rest p.2 i h
  quiet_pieces v r (Padded class e most rest) p i h = absurd p
