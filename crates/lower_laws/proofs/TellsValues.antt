-- Where the constructs of values stand, and where what is in scope there lies.
use Rattle.std.proofs.Common.{ℕ, zero, suc, ◌+◌, List, [], ◌∷◌, Option, Some, None, Bool, true, false, not}
use Rattle.behaviours.specs.Paths.{Entity}
use Rattle.typed_tree.specs.Syntax.{Expr, Static, Variable, Constant, Parameter, Target, Group, Unary, Binary, AndThen, OrElse, Relation, Membership, If, Call, Convert, Reduction, Iteration, Range, Components, Optional, Absent, Present, Selections, Whole, Field, Index, Actuals, NoActual, In, InOut, Out, CompositeInOut, CompositeOut, Value, Number, Cells, Composite, WholeVariable, WholeConstant, WholeTarget, CompositeIf, Aggregate, Associations, NoAssociation, Association, Chunk, NoChunk, Count, Each, Program}
use Rattle.typed_tree.specs.declared.program.Formal.{Formal}
use Rattle.typed_scopes.specs.Scopes.{Around, ScopedExpr, ScopedOptional, ScopedSelections, ScopedIn, ScopedAssociations, ScopedComposite, ScopedValue, ScopedChunk, with_chunk, with_index, with_parameter}
use Rattle.ada_lower.specs.Emission.{is_repeated}
use Rattle.stack_code.specs.declared.code.Code.{Code}
use Rattle.stack_code.specs.declared.code.CodeSite.{CodeSite}
use Rattle.ada_lower.specs.declared.types.Home.{Home}
use Rattle.ada_lower.specs.declared.types.Standing.{Standing}
use Rattle.ada_lower.specs.Standings.{actuals_standings, associations_standings, chunk_standings, composite_standings, expr_standings, optional_standings, selections_standings, value_standings}
use Rattle.ada_lower.specs.Lending.{Among}
use Rattle.ada_lower.specs.Sights.{Named, Sight, item_sight, iterated_sight, nested_sight, passing, range_sight, taking, thread_sight, turn_sight}
use Rattle.ada_lower.specs.Emission.{composite_width, width}
use Rattle.ada_lower.specs.Fitted.{Spot, Fitted, FittedOptional, FittedSelections, FittedIn, FittedAssociations, FittedComponent, FittedComposite, FittedValue}
use Rattle.ada_lower.specs.FittedForks.{FittedChunk, FittedReductions}
use Rattle.lower_laws.proofs.Homes.{Places, places_thread, places_turn}
use Rattle.lower_laws.proofs.Kept.{among_last, kept_actuals, kept_associations, kept_chunk, kept_composite, kept_expr, kept_iteration, kept_optional, kept_select}
use Rattle.lower_laws.proofs.LendsValues.{one_of}

module _ (program : Program) (shown : ℕ → Entity → Bool) (globals : ℕ → Entity → Option Named) (mains : Entity → Bool) (c : Code) (lent told : Bool → Sight → ℕ → CodeSite → Type 0) (homes : List Home) (standings : List Standing)
    (gives : (items : Bool) (d : ℕ) (s : Sight) (site : ℕ) (cs : CodeSite) → Among (record { site = site; depth = d; ranges = not items }) standings → Places homes d s → told items s site cs → lent items s site cs) where
  abbrev Told : ℕ → Sight → Expr → Type 0
  Told n = FittedReductions program globals mains told c n

  abbrev Lent : ℕ → Sight → Expr → Type 0
  Lent n = FittedReductions program globals mains lent c n

  -- what is found of a part, whatever was found before, is of the program
  abbrev pub Stands : (List Standing → List Standing) → Type 0
  Stands find = (t : Standing) → ((found : List Standing) → Among t (find found)) → Among t standings

  mutual
    unfolding expr_standings

    pub tell : (n d : ℕ) (s : Sight) (v : Around) (e : Expr) → Places homes d s → ScopedExpr program shown v e → Stands (λ o. expr_standings d e o) → Fitted program globals mains (Told n) s e → Fitted program globals mains (Lent n) s e
    tell n d s v (Static at value literal mentions) h u g f = tt
    tell n d s v (Variable at from selections scalar) h u g f = (f.0, tell_select n d s v selections h u.1 g f.1)
    tell n d s v (Constant at from selections scalar) h u g f = (f.0, tell_select n d s v selections h u.1 g f.1)
    tell n d s v (Parameter at k) h u g f = f
    tell n d s v (Target at scalar) h u g f = f
    tell n d s v (Group e) h u g f = tell n d s v e h u g f
    tell n d s v (Unary at o class e) h u g f = tell n d s v e h u g f
    tell n d s v (Binary at o class e x) h u g f = (tell n d s v e h u.0 (λ t z. g t (λ o. z _)) f.0, tell n d s v x h u.1 (λ t z. g t (λ o. kept_expr t d e _ (z o))) f.1)
    tell n d s v (AndThen e x) h u g f = (tell n d s v e h u.0 (λ t z. g t (λ o. z _)) f.0, tell n d s v x h u.1 (λ t z. g t (λ o. kept_expr t d e _ (z o))) f.1)
    tell n d s v (OrElse e x) h u g f = (tell n d s v e h u.0 (λ t z. g t (λ o. z _)) f.0, tell n d s v x h u.1 (λ t z. g t (λ o. kept_expr t d e _ (z o))) f.1)
    tell n d s v (Relation class o e x) h u g f = (tell n d s v e h u.0 (λ t z. g t (λ o. z _)) f.0, tell n d s v x h u.1 (λ t z. g t (λ o. kept_expr t d e _ (z o))) f.1)
    tell n d s v (Membership class negated e low high) h u g f = (
      f.0,
      tell n d s v e h u.0 (λ t z. g t (λ o. kept_expr t d high _ (kept_expr t d low _ (z o)))) f.1,
      tell n d (taking 1 s) v low h u.1 (λ t z. g t (λ o. kept_expr t d high _ (z _))) f.2,
      tell n d (taking 2 s) v high h u.2 (λ t z. g t (λ o. z _)) f.3,
    )
    tell n d s v (If condition value otherwise) h u g f = (
      tell n d s v condition h u.0 (λ t z. g t (λ o. kept_expr t d otherwise _ (kept_expr t d value _ (z o)))) f.0,
      tell n d s v value h u.1 (λ t z. g t (λ o. kept_expr t d otherwise _ (z _))) f.1,
      tell n d s v otherwise h u.2 (λ t z. g t (λ o. z _)) f.2,
    )
    tell n d s v (Call at callee sub actuals) h u g f = (f.0, f.1, f.2, f.3, tell_in n d (passing program sub s) v _ sub s.scope.free _ actuals h u.2 g f.4)
    tell n d s v (Convert check e) h u g f = tell n d s v e h u g f
    tell n d s v (Reduction at a by initial None chunk (Range k reverse low high check filter) value) h u g f =
        let it : Iteration = Range k reverse low high check filter in (
          tell n d s v initial h u.0 (λ t z. g t (λ o. kept_expr t d value _ (kept_iteration t d d it _ (kept_chunk t d chunk _ (z o))))) f.0,
          f.1,
          tell n d s v low h u.4.0 (λ t z. g t (λ o. kept_expr t d value _ (kept_optional t d filter _ (kept_expr t d high _ (z _))))) f.2,
          tell n d (taking 1 s) v high h u.4.1 (λ t z. g t (λ o. kept_expr t d value _ (kept_optional t d filter _ (z _)))) f.3,
          tell_optional n d (range_sight s None k reverse 0) (with_parameter k (with_chunk chunk v)) filter h u.4.2 (λ t z. g t (λ o. kept_expr t d value _ (z _))) f.4,
          tell n d (range_sight s None k reverse 0) (with_parameter k (with_chunk chunk v)) value h u.4.3 (λ t z. g t (λ o. z _)) f.5,
          f.6,
        )
    tell n d s v (Reduction at a by initial None chunk (Components k constant b from selections number stride dimensions filter) value) h u g f =
        let it : Iteration = Components k constant b from selections number stride dimensions filter in (
          tell n d s v initial h u.0 (λ t z. g t (λ o. kept_expr t d value _ (kept_iteration t d d it _ (kept_chunk t d chunk _ (z o))))) f.0,
          f.1,
          f.2,
          tell_select n d s v selections h u.4.2 (λ t z. g t (λ o. kept_expr t d value _ (kept_optional t d filter _ (z _)))) f.3,
          tell_optional n d (item_sight s None constant k stride 0) (with_chunk chunk v) filter h u.4.3 (λ t z. g t (λ o. kept_expr t d value _ (z _))) f.4,
          tell n d (item_sight s None constant k stride 0) (with_chunk chunk v) value h u.4.4 (λ t z. g t (λ o. z _)) f.5,
          f.6,
        )
    tell zero d s v (Reduction at a by initial (Some site) chunk iteration value) h u g f = absurd f
    tell (suc n) d s v (Reduction at a by initial (Some site) chunk (Range k true low high check filter) value) h u g f = absurd f
    tell (suc n) d s v (Reduction at a by initial (Some site) chunk (Range k false low high check filter) value) h u g f =
        let it : Iteration = Range k false low high check filter in
        let cs = f.0 in
        let around : Sight = thread_sight site cs.frame (taking 2 (taking 2 (taking 1 s))) in
        let there : Sight = turn_sight around chunk it in
        let sees : Places homes (d + 1) there = places_turn homes chunk it (d + 1) around (places_thread homes h) in
        let t0 : Standing = record { site = site; depth = d; ranges = true } in (
          cs,
          f.1,
          gives false d s site cs (g t0 (λ o. kept_expr t0 (d + 1) value _ (kept_iteration t0 d (d + 1) it _ (kept_chunk t0 d chunk _ (kept_expr t0 d initial _ (among_last t0 o)))))) h f.2,
          f.3,
          f.4,
          tell n d s v initial h u.0 (λ t z. g t (λ o. kept_expr t (d + 1) value _ (kept_iteration t d (d + 1) it _ (kept_chunk t d chunk _ (z _))))) f.5,
          tell_chunk n d (nested_sight (taking 1 s)) v chunk h u.1 (λ t z. g t (λ o. kept_expr t (d + 1) value _ (kept_iteration t d (d + 1) it _ (z _)))) f.6,
          tell n d (taking 2 (nested_sight (taking 1 s))) v low h u.4.0 (λ t z. g t (λ o. kept_expr t (d + 1) value _ (kept_optional t (d + 1) filter _ (kept_expr t d high _ (z _))))) f.7,
          tell n d (taking 1 (taking 2 (nested_sight (taking 1 s)))) v high h u.4.1 (λ t z. g t (λ o. kept_expr t (d + 1) value _ (kept_optional t (d + 1) filter _ (z _)))) f.8,
          tell_optional n (d + 1) there (with_parameter k (with_chunk chunk v)) filter sees u.4.2 (λ t z. g t (λ o. kept_expr t (d + 1) value _ (z _))) f.9,
          tell n (d + 1) there (with_parameter k (with_chunk chunk v)) value sees u.4.3 (λ t z. g t (λ o. z _)) f.10,
          f.11,
          f.12,
        )
    tell (suc n) d s v (Reduction at a by initial (Some site) chunk (Components k constant b from selections number stride dimensions filter) value) h u g f =
        let it : Iteration = Components k constant b from selections number stride dimensions filter in
        let cs = f.0 in
        let around : Sight = thread_sight site cs.frame (taking 2 (taking 2 (taking 1 s))) in
        let there : Sight = turn_sight around chunk it in
        let sees : Places homes (d + 1) there = places_turn homes chunk it (d + 1) around (places_thread homes h) in
        let t0 : Standing = record { site = site; depth = d; ranges = false } in (
          cs,
          f.1,
          gives true d s site cs (g t0 (λ o. kept_expr t0 (d + 1) value _ (kept_iteration t0 d (d + 1) it _ (kept_chunk t0 d chunk _ (kept_expr t0 d initial _ (among_last t0 o)))))) h f.2,
          f.3,
          f.4,
          f.5,
          tell n d s v initial h u.0 (λ t z. g t (λ o. kept_expr t (d + 1) value _ (kept_iteration t d (d + 1) it _ (kept_chunk t d chunk _ (z _))))) f.6,
          tell_chunk n d (nested_sight (taking 1 s)) v chunk h u.1 (λ t z. g t (λ o. kept_expr t (d + 1) value _ (kept_iteration t d (d + 1) it _ (z _)))) f.7,
          f.8,
          tell_select n d (taking 2 (nested_sight (taking 1 s))) v selections h u.4.2 (λ t z. g t (λ o. kept_expr t (d + 1) value _ (kept_optional t (d + 1) filter _ (z _)))) f.9,
          tell_optional n (d + 1) there (with_chunk chunk v) filter sees u.4.3 (λ t z. g t (λ o. kept_expr t (d + 1) value _ (z _))) f.10,
          tell n (d + 1) there (with_chunk chunk v) value sees u.4.4 (λ t z. g t (λ o. z _)) f.11,
          f.12,
          f.13,
        )

    pub tell_optional : (n d : ℕ) (s : Sight) (v : Around) (e : Optional) → Places homes d s → ScopedOptional program shown v e → Stands (λ o. optional_standings d e o) → FittedOptional program globals mains (Told n) s e → FittedOptional program globals mains (Lent n) s e
    tell_optional n d s v Absent h u g f = tt
    tell_optional n d s v (Present e) h u g f = tell n d s v e h u g f

    pub tell_select : (n d : ℕ) (s : Sight) (v : Around) (x : Selections) → Places homes d s → ScopedSelections program shown v x → Stands (λ o. selections_standings d x o) → FittedSelections program globals mains (Told n) s x → FittedSelections program globals mains (Lent n) s x
    tell_select n d s v Whole h u g f = tt
    tell_select n d s v (Field number offset x) h u g f = tell_select n d s v x h u g f
    tell_select n d s v (Index at e low high stride x) h u g f = (tell n d s v e h u.0 (λ t z. g t (λ o. kept_select t d x _ (z o))) f.0, tell_select n d s v x h u.1 (λ t z. g t (λ o. z _)) f.1)

    tell_in : (n d : ℕ) (s : Sight) (v : Around) (fs : List Formal) (sub w : ℕ) (ks : List Spot) (x : Actuals) → Places homes d s → ScopedIn program shown v fs x → Stands (λ o. actuals_standings d x o) → FittedIn program globals mains (Told n) s sub w ks x → FittedIn program globals mains (Lent n) s sub w ks x
    tell_in n d s v fs sub w ks NoActual h u g f = f
    tell_in n d s v fs sub w ks (In formal (Number check e) rest) h u g f =
        (f.0, f.1, f.2, f.3, tell n d s v e h u.2.1 (λ t z. g t (λ o. kept_actuals t d rest _ (z o))) f.4, tell_in n d s v u.0 sub w f.1 rest h u.3 (λ t z. g t (λ o. z _)) f.5)
    tell_in n d s v fs sub w ks (In formal (Cells value) rest) h u g f =
        (f.0, f.1, f.2, f.3, f.4, tell_composite n d s v _ f.1 value h u.2 (λ t z. g t (λ o. kept_actuals t d rest _ (z o))) f.5, tell_in n d s v u.0 sub w f.2 rest h u.3 (λ t z. g t (λ o. z _)) f.6)
    tell_in n d s v fs sub w ks (InOut formal at from x inner outer rest) h u g f = absurd f
    tell_in n d s v fs sub w ks (Out formal at from x inner outer rest) h u g f = absurd f
    tell_in n d s v fs sub w ks (CompositeInOut formal at from x subtype rest) h u g f = absurd f
    tell_in n d s v fs sub w ks (CompositeOut formal at from x subtype rest) h u g f = absurd f

    tell_associations : (n d : ℕ) (s : Sight) (v : Around) (q m : ℕ) (x : Associations) → Places homes d s → ScopedAssociations program shown v q x → Stands (λ o. associations_standings d x o) → FittedAssociations program globals mains (Told n) s m x → FittedAssociations program globals mains (Lent n) s m x
    tell_associations n d s v j m NoAssociation h u g f = tt
    tell_associations n d s v j m (Association [] None mentions value rest) h u g f = tell_associations n d s v j m rest h u.3 g f
    tell_associations n d s v j m (Association (q ∷ qs) None mentions value rest) h u g f = (
      f.0,
      one_of program globals mains (is_repeated (q ∷ qs) value) (λ z. (z.0, tell_component n d (taking 2 s) v u.2.0 value h u.2.2 (λ t z. g t (λ o. kept_associations t d rest _ (z o))) z.1)) (λ z. tell_value n d s v u.2.0 (width program value) value h u.2.2 (λ t z. g t (λ o. kept_associations t d rest _ (z o))) z) f.1,
      tell_associations n d s v j m rest h u.3 (λ t z. g t (λ o. z _)) f.2,
    )
    tell_associations n d s v j m (Association [] (Some x) mentions value rest) h u g f = absurd u.0
    tell_associations n d s v j m (Association (q ∷ qs) (Some x) mentions value rest) h u g f =
        (f.0, f.1, tell_component n d (iterated_sight s x.parameter) (with_index (Some x) v) u.2.0 value h u.2.2 (λ t z. g t (λ o. kept_associations t d rest _ (z o))) f.2, tell_associations n d s v j m rest h u.3 (λ t z. g t (λ o. z _)) f.3)

    tell_component : (n d : ℕ) (s : Sight) (v : Around) (q : ℕ) (x : Value) → Places homes d s → ScopedValue program shown v q x → Stands (λ o. value_standings d x o) → FittedComponent program globals mains (Told n) s x → FittedComponent program globals mains (Lent n) s x
    tell_component n d s v j (Number check e) h u g f = tell n d s v e h u.1 g f
    tell_component n d s v j (Cells value) h u g f = (f.0, tell_composite n d (taking (composite_width program value) s) v j (composite_width program value) value h u g f.1)

    pub tell_composite : (n d : ℕ) (s : Sight) (v : Around) (q m : ℕ) (x : Composite) → Places homes d s → ScopedComposite program shown v q x → Stands (λ o. composite_standings d x o) → FittedComposite program globals mains (Told n) s m x → FittedComposite program globals mains (Lent n) s m x
    tell_composite n d s v j m (WholeVariable at from x subtype) h u g f = (f.0, f.1, tell_select n d s v x h u.2 g f.2)
    tell_composite n d s v j m (WholeConstant at from x subtype) h u g f = (f.0, f.1, tell_select n d s v x h u.2 g f.2)
    tell_composite n d s v j m (WholeTarget at subtype) h u g f = f
    tell_composite n d s v j m (CompositeIf condition value otherwise) h u g f = (
      tell n d s v condition h u.0 (λ t z. g t (λ o. kept_composite t d otherwise _ (kept_composite t d value _ (z o)))) f.0,
      tell_composite n d s v j m value h u.1 (λ t z. g t (λ o. kept_composite t d otherwise _ (z _))) f.1,
      tell_composite n d s v j m otherwise h u.2 (λ t z. g t (λ o. z _)) f.2,
    )
    tell_composite n d s v j m (Aggregate at size associations) h u g f = (f.0, tell_associations n d s v j m associations h u.1 g f.1)

    pub tell_value : (n d : ℕ) (s : Sight) (v : Around) (q m : ℕ) (x : Value) → Places homes d s → ScopedValue program shown v q x → Stands (λ o. value_standings d x o) → FittedValue program globals mains (Told n) s m x → FittedValue program globals mains (Lent n) s m x
    tell_value n d s v j m (Number check e) h u g f = (f.0, tell n d s v e h u.1 g f.1)
    tell_value n d s v j m (Cells value) h u g f = tell_composite n d s v j m value h u g f

    pub tell_chunk : (n d : ℕ) (s : Sight) (v : Around) (x : Chunk) → Places homes d s → ScopedChunk program shown v x → Stands (λ o. chunk_standings d x o) → FittedChunk program globals mains (Told n) s x → FittedChunk program globals mains (Lent n) s x
    tell_chunk n d s v NoChunk h u g f = tt
    tell_chunk n d s v (Count e) h u g f = tell n d (taking 1 s) v e h u g f
    tell_chunk n d s v (Each k low high check) h u g f = (tell n d s v low h u.0 (λ t z. g t (λ o. kept_expr t d high _ (z o))) f.0, tell n d (taking 1 s) v high h u.1 (λ t z. g t (λ o. z _)) f.1)
