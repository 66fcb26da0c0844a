-- Where the leases of constructs are told by what is asked of them elsewhere, values fit the code with these.
use Rattle.std.proofs.Common.{ℕ, zero, suc, List, [], ◌∷◌, inl, inr, Option, Some, None, Bool, true, false, refl}
use Rattle.behaviours.specs.Paths.{Entity}
use Rattle.typed_tree.specs.Syntax.{Expr, Static, Variable, Constant, Parameter, Target, Group, Unary, Binary, AndThen, OrElse, Relation, Membership, If, Call, Convert, Reduction, Iteration, Range, Components, Optional, Absent, Present, Selections, Whole, Field, Index, Actuals, NoActual, In, InOut, Out, CompositeInOut, CompositeOut, Value, Number, Cells, Composite, WholeVariable, WholeConstant, WholeTarget, CompositeIf, Aggregate, Associations, NoAssociation, Association, Chunk, NoChunk, Count, Each, Program}
use Rattle.typed_tree.specs.declared.program.Formal.{Formal}
use Rattle.typed_scopes.specs.Scopes.{Around, ScopedExpr, ScopedOptional, ScopedSelections, ScopedIn, ScopedValue, ScopedComposite, ScopedAssociations, ScopedChunk, with_chunk, with_index, with_parameter}
use Rattle.ada_lower.specs.Emission.{is_repeated}
use Rattle.check_effects.specs.Effects.{Roles, forget, Construct, ReductionOf, Holds, InExpr, InOptional, InSelections, InActuals, InValue, InComposite, InAssociations, InChunk, course_hidden, chunk_hidden, iterated_hidden}
use Rattle.stack_code.specs.declared.code.Code.{Code}
use Rattle.stack_code.specs.declared.code.CodeSite.{CodeSite}
use Rattle.ada_lower.specs.Sights.{Named, Sight, item_sight, iterated_sight, nested_sight, passing, range_sight, taking, thread_sight, turn_sight}
use Rattle.ada_lower.specs.Emission.{composite_width, width}
use Rattle.ada_lower.specs.Fitted.{Spot, Fitted, FittedOptional, FittedSelections, FittedIn, FittedAssociations, FittedComponent, FittedComposite, FittedValue, OneOf}
use Rattle.ada_lower.specs.FittedForks.{FittedChunk, FittedReductions}
use Rattle.lower_laws.proofs.Here.{Gives, Sees, fold_arm, sees_chunk, sees_thread, sees_turn}
use Rattle.lower_laws.proofs.Threads.{fold_writes}

pub one_of : (program : Program) (globals : ℕ → Entity → Option Named) (mains : Entity → Bool) {A B C D : Type 0} (b : Bool) → (A → C) → (B → D) → OneOf program globals mains b A B → OneOf program globals mains b C D
one_of program globals mains true f g h = f h
one_of program globals mains false f g h = g h

module _ (program : Program) (globals : ℕ → Entity → Option Named) (mains : Entity → Bool) (shown : ℕ → Entity → Bool) (c : Code) (lent told : Bool → Sight → ℕ → CodeSite → Type 0) (held : Construct → Type 0) (gives : Gives program shown c lent told held) where
  abbrev pub Told : ℕ → Sight → Expr → Type 0
  Told n = FittedReductions program globals mains told c n

  abbrev pub Lent : ℕ → Sight → Expr → Type 0
  Lent n = FittedReductions program globals mains lent c n

  mutual
    pub lend : (n : ℕ) (r : Roles) (s : Sight) (v : Around) (e : Expr) → Sees program v s → ScopedExpr program shown v e → ((k : Construct) → InExpr program.subtypes r e (Holds k) → held k) → Fitted program globals mains (Told n) s e → Fitted program globals mains (Lent n) s e
    lend n r s v (Static at value literal mentions) h p i f = tt
    lend n r s v (Variable at from selections scalar) h p i f = (f.0, lend_select n r s v selections h p.1 (λ k z. i k (inr z)) f.1)
    lend n r s v (Constant at from selections scalar) h p i f = (f.0, lend_select n r s v selections h p.1 i f.1)
    lend n r s v (Parameter at k) h p i f = f
    lend n r s v (Target at scalar) h p i f = f
    lend n r s v (Group e) h p i f = lend n r s v e h p i f
    lend n r s v (Unary at o class e) h p i f = lend n r s v e h p i f
    lend n r s v (Binary at o class e g) h p i f = (lend n r s v e h p.0 (λ k z. i k (inl z)) f.0, lend n r s v g h p.1 (λ k z. i k (inr z)) f.1)
    lend n r s v (AndThen e g) h p i f = (lend n r s v e h p.0 (λ k z. i k (inl z)) f.0, lend n r s v g h p.1 (λ k z. i k (inr z)) f.1)
    lend n r s v (OrElse e g) h p i f = (lend n r s v e h p.0 (λ k z. i k (inl z)) f.0, lend n r s v g h p.1 (λ k z. i k (inr z)) f.1)
    lend n r s v (Relation class o e g) h p i f = (lend n r s v e h p.0 (λ k z. i k (inl z)) f.0, lend n r s v g h p.1 (λ k z. i k (inr z)) f.1)
    lend n r s v (Membership class negated e low high) h p i f =
        (f.0, lend n r s v e h p.0 (λ k z. i k (inl z)) f.1, lend n r (taking 1 s) v low h p.1 (λ k z. i k (inr (inl z))) f.2, lend n r (taking 2 s) v high h p.2 (λ k z. i k (inr (inr z))) f.3)
    lend n r s v (If condition value otherwise) h p i f =
        (lend n r s v condition h p.0 (λ k z. i k (inl z)) f.0, lend n r s v value h p.1 (λ k z. i k (inr (inl z))) f.1, lend n r s v otherwise h p.2 (λ k z. i k (inr (inr z))) f.2)
    lend n r s v (Call at callee sub actuals) h p i f = (f.0, f.1, f.2, f.3, lend_in n r (passing program sub s) v _ sub s.scope.free _ actuals h p.2 (λ k z. i k (inr z)) f.4)
    lend n r s v (Convert check e) h p i f = lend n r s v e h p i f
    lend n r s v (Reduction at a by initial None chunk (Range q reverse low high check filter) value) h p i f =
        let it : Iteration = Range q reverse low high check filter in (
          lend n r s v initial h p.0 (λ k z. i k (inr (inl z))) f.0,
          f.1,
          lend n r s v low h p.4.0 (λ k z. i k (inr (inr (inl (inl z))))) f.2,
          lend n r (taking 1 s) v high h p.4.1 (λ k z. i k (inr (inr (inl (inr z))))) f.3,
          lend_optional n (course_hidden r it r) (range_sight s None q reverse 0) (with_parameter q (with_chunk chunk v)) filter (sees_chunk program chunk v s h) p.4.2 (λ k z. i k (inr (inr (inr (inl z))))) f.4,
          lend n (course_hidden r it r) (range_sight s None q reverse 0) (with_parameter q (with_chunk chunk v)) value (sees_chunk program chunk v s h) p.4.3 (λ k z. i k (inr (inr (inr (inr z))))) f.5,
          f.6,
        )
    lend n r s v (Reduction at a by initial None chunk (Components q constant b from selections number stride dimensions filter) value) h p i f =
        let it : Iteration = Components q constant b from selections number stride dimensions filter in (
          lend n r s v initial h p.0 (λ k z. i k (inr (inl z))) f.0,
          f.1,
          f.2,
          lend_select n r s v selections h p.4.2 (λ k z. i k (inr (inr (inl z)))) f.3,
          lend_optional n (course_hidden r it r) (item_sight s None constant q stride 0) (with_chunk chunk v) filter (sees_chunk program chunk v s h) p.4.3 (λ k z. i k (inr (inr (inr (inl z))))) f.4,
          lend n (course_hidden r it r) (item_sight s None constant q stride 0) (with_chunk chunk v) value (sees_chunk program chunk v s h) p.4.4 (λ k z. i k (inr (inr (inr (inr z))))) f.5,
          f.6,
        )
    lend zero r s v (Reduction at a by initial (Some site) chunk iteration value) h p i f = absurd f
    lend (suc n) r s v (Reduction at a by initial (Some site) chunk (Range q true low high check filter) value) h p i f = absurd f
    lend (suc n) r s v (Reduction at a by initial (Some site) chunk (Range q false low high check filter) value) h p i f =
        let it : Iteration = Range q false low high check filter in
        let inside : Roles = course_hidden r it (chunk_hidden chunk r) in
        let cs = f.0 in
        let around : Sight = thread_sight site cs.frame (taking 2 (taking 2 (taking 1 s))) in
        let there : Sight = turn_sight around chunk it in
        let sees : Sees program (with_chunk chunk v) there = sees_chunk program chunk v there (sees_turn program chunk it v around (sees_thread program h)) in
        let k : Construct = ReductionOf site (forget r) by chunk it value in (
          cs,
          f.1,
          gives false v s site cs k (i k (inl refl)) refl refl h f.1.0 (λ j n arm. ((λ z. tt), (λ z. fold_arm cs.kind by chunk f.3 n arm))) (fold_writes program shown r s v site by chunk it value h p.2 p.4) f.2,
          f.3,
          f.4,
          lend n r s v initial h p.0 (λ k z. i k (inr (inr (inl z)))) f.5,
          lend_chunk n r (nested_sight (taking 1 s)) v chunk h p.1 (λ k z. i k (inr (inr (inr (inl z))))) f.6,
          lend n r (taking 2 (nested_sight (taking 1 s))) v low h p.4.0 (λ k z. i k (inr (inr (inr (inr (inl (inl z))))))) f.7,
          lend n r (taking 1 (taking 2 (nested_sight (taking 1 s)))) v high h p.4.1 (λ k z. i k (inr (inr (inr (inr (inl (inr z))))))) f.8,
          lend_optional n inside there (with_parameter q (with_chunk chunk v)) filter sees p.4.2 (λ k z. i k (inr (inr (inr (inr (inr (inl z))))))) f.9,
          lend n inside there (with_parameter q (with_chunk chunk v)) value sees p.4.3 (λ k z. i k (inr (inr (inr (inr (inr (inr z))))))) f.10,
          f.11,
          f.12,
        )
    lend (suc n) r s v (Reduction at a by initial (Some site) chunk (Components q constant b from selections number stride dimensions filter) value) h p i f =
        let it : Iteration = Components q constant b from selections number stride dimensions filter in
        let inside : Roles = course_hidden r it (chunk_hidden chunk r) in
        let cs = f.0 in
        let around : Sight = thread_sight site cs.frame (taking 2 (taking 2 (taking 1 s))) in
        let there : Sight = turn_sight around chunk it in
        let sees : Sees program (with_chunk chunk v) there = sees_chunk program chunk v there (sees_turn program chunk it v around (sees_thread program h)) in
        let k : Construct = ReductionOf site (forget r) by chunk it value in (
          cs,
          f.1,
          gives true v s site cs k (i k (inl refl)) refl refl h f.1.0 (λ j n arm. ((λ z. tt), (λ z. fold_arm cs.kind by chunk f.4 n arm))) (fold_writes program shown r s v site by chunk it value h p.2 p.4) f.2,
          f.3,
          f.4,
          f.5,
          lend n r s v initial h p.0 (λ k z. i k (inr (inr (inl z)))) f.6,
          lend_chunk n r (nested_sight (taking 1 s)) v chunk h p.1 (λ k z. i k (inr (inr (inr (inl z))))) f.7,
          f.8,
          lend_select n r (taking 2 (nested_sight (taking 1 s))) v selections h p.4.2 (λ k z. i k (inr (inr (inr (inr (inl z)))))) f.9,
          lend_optional n inside there (with_chunk chunk v) filter sees p.4.3 (λ k z. i k (inr (inr (inr (inr (inr (inl z))))))) f.10,
          lend n inside there (with_chunk chunk v) value sees p.4.4 (λ k z. i k (inr (inr (inr (inr (inr (inr z))))))) f.11,
          f.12,
          f.13,
        )

    pub lend_optional : (n : ℕ) (r : Roles) (s : Sight) (v : Around) (e : Optional) → Sees program v s → ScopedOptional program shown v e → ((k : Construct) → InOptional program.subtypes r e (Holds k) → held k) → FittedOptional program globals mains (Told n) s e → FittedOptional program globals mains (Lent n) s e
    lend_optional n r s v Absent h p i f = tt
    lend_optional n r s v (Present e) h p i f = lend n r s v e h p i f

    pub lend_select : (n : ℕ) (r : Roles) (s : Sight) (v : Around) (g : Selections) → Sees program v s → ScopedSelections program shown v g → ((k : Construct) → InSelections program.subtypes r g (Holds k) → held k) → FittedSelections program globals mains (Told n) s g → FittedSelections program globals mains (Lent n) s g
    lend_select n r s v Whole h p i f = tt
    lend_select n r s v (Field number offset g) h p i f = lend_select n r s v g h p i f
    lend_select n r s v (Index at e low high stride g) h p i f = (lend n r s v e h p.0 (λ k z. i k (inl z)) f.0, lend_select n r s v g h p.1 (λ k z. i k (inr z)) f.1)

    lend_in : (n : ℕ) (r : Roles) (s : Sight) (v : Around) (fs : List Formal) (sub w : ℕ) (ks : List Spot) (x : Actuals) → Sees program v s → ScopedIn program shown v fs x → ((k : Construct) → InActuals program.subtypes r x (Holds k) → held k)
        → FittedIn program globals mains (Told n) s sub w ks x → FittedIn program globals mains (Lent n) s sub w ks x
    lend_in n r s v fs sub w ks NoActual h p i f = f
    lend_in n r s v fs sub w ks (In formal (Number check e) rest) h p i f = (f.0, f.1, f.2, f.3, lend n r s v e h p.2.1 (λ k z. i k (inl z)) f.4, lend_in n r s v p.0 sub w f.1 rest h p.3 (λ k z. i k (inr z)) f.5)
    lend_in n r s v fs sub w ks (In formal (Cells value) rest) h p i f = (f.0, f.1, f.2, f.3, f.4, lend_composite n r s v _ f.1 value h p.2 (λ k z. i k (inl z)) f.5, lend_in n r s v p.0 sub w f.2 rest h p.3 (λ k z. i k (inr z)) f.6)
    lend_in n r s v fs sub w ks (InOut formal at from g inner outer rest) h p i f = absurd f
    lend_in n r s v fs sub w ks (Out formal at from g inner outer rest) h p i f = absurd f
    lend_in n r s v fs sub w ks (CompositeInOut formal at from g subtype rest) h p i f = absurd f
    lend_in n r s v fs sub w ks (CompositeOut formal at from g subtype rest) h p i f = absurd f

    lend_associations : (n : ℕ) (r : Roles) (s : Sight) (v : Around) (q m : ℕ) (x : Associations) → Sees program v s → ScopedAssociations program shown v q x → ((k : Construct) → InAssociations program.subtypes r x (Holds k) → held k)
        → FittedAssociations program globals mains (Told n) s m x → FittedAssociations program globals mains (Lent n) s m x
    lend_associations n r s v j m NoAssociation h p i f = tt
    lend_associations n r s v j m (Association [] None mentions value rest) h p i f = lend_associations n r s v j m rest h p.3 (λ k z. i k (inr (inr z))) f
    lend_associations n r s v j m (Association (q ∷ qs) None mentions value rest) h p i f = (
      f.0,
      one_of program globals mains (is_repeated (q ∷ qs) value) (λ z. (z.0, lend_component n r (taking 2 s) v p.2.0 value h p.2.2 (λ k z. i k (inr (inl z))) z.1)) (λ z. lend_value n r s v p.2.0 (width program value) value h p.2.2 (λ k z. i k (inr (inl z))) z) f.1,
      lend_associations n r s v j m rest h p.3 (λ k z. i k (inr (inr z))) f.2,
    )
    lend_associations n r s v j m (Association runs (Some x) mentions value rest) h p i f =
        (f.0, f.1, lend_component n (iterated_hidden (Some x) r) (iterated_sight s x.parameter) (with_index (Some x) v) p.2.0 value h p.2.2 (λ k z. i k (inr (inl z))) f.2, lend_associations n r s v j m rest h p.3 (λ k z. i k (inr (inr z))) f.3)

    lend_component : (n : ℕ) (r : Roles) (s : Sight) (v : Around) (q : ℕ) (x : Value) → Sees program v s → ScopedValue program shown v q x → ((k : Construct) → InValue program.subtypes r x (Holds k) → held k) → FittedComponent program globals mains (Told n) s x → FittedComponent program globals mains (Lent n) s x
    lend_component n r s v j (Number check e) h p i f = lend n r s v e h p.1 i f
    lend_component n r s v j (Cells value) h p i f = (f.0, lend_composite n r (taking (composite_width program value) s) v j (composite_width program value) value h p i f.1)

    pub lend_composite : (n : ℕ) (r : Roles) (s : Sight) (v : Around) (q m : ℕ) (x : Composite) → Sees program v s → ScopedComposite program shown v q x → ((k : Construct) → InComposite program.subtypes r x (Holds k) → held k) → FittedComposite program globals mains (Told n) s m x → FittedComposite program globals mains (Lent n) s m x
    lend_composite n r s v j m (WholeVariable at from g subtype) h p i f = (f.0, f.1, lend_select n r s v g h p.2 (λ k z. i k (inr z)) f.2)
    lend_composite n r s v j m (WholeConstant at from g subtype) h p i f = (f.0, f.1, lend_select n r s v g h p.2 i f.2)
    lend_composite n r s v j m (WholeTarget at subtype) h p i f = f
    lend_composite n r s v j m (CompositeIf condition value otherwise) h p i f =
        (lend n r s v condition h p.0 (λ k z. i k (inl z)) f.0, lend_composite n r s v j m value h p.1 (λ k z. i k (inr (inl z))) f.1, lend_composite n r s v j m otherwise h p.2 (λ k z. i k (inr (inr z))) f.2)
    lend_composite n r s v j m (Aggregate at size associations) h p i f = (f.0, lend_associations n r s v j m associations h p.1 i f.1)

    pub lend_value : (n : ℕ) (r : Roles) (s : Sight) (v : Around) (q m : ℕ) (x : Value) → Sees program v s → ScopedValue program shown v q x → ((k : Construct) → InValue program.subtypes r x (Holds k) → held k) → FittedValue program globals mains (Told n) s m x → FittedValue program globals mains (Lent n) s m x
    lend_value n r s v j m (Number check e) h p i f = (f.0, lend n r s v e h p.1 i f.1)
    lend_value n r s v j m (Cells value) h p i f = lend_composite n r s v j m value h p i f

    pub lend_chunk : (n : ℕ) (r : Roles) (s : Sight) (v : Around) (x : Chunk) → Sees program v s → ScopedChunk program shown v x → ((k : Construct) → InChunk program.subtypes r x (Holds k) → held k) → FittedChunk program globals mains (Told n) s x → FittedChunk program globals mains (Lent n) s x
    lend_chunk n r s v NoChunk h p i f = tt
    lend_chunk n r s v (Count e) h p i f = lend n r (taking 1 s) v e h p i f
    lend_chunk n r s v (Each k low high check) h p i f = (lend n r s v low h p.0 (λ k z. i k (inl z)) f.0, lend n r (taking 1 s) v high h p.1 (λ k z. i k (inr z)) f.1)
