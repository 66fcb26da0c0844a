-- The leases of a construct are of frames that its fork sees.
use Rattle.std.proofs.Common.{◌≡◌, ℕ, zero, suc, ◌+◌, ◌-◌, ◌<◌, ◌≤◌, nat_eq, nat_lt, List, [], ◌∷◌, ◌++◌, length, ◌⊎◌, inl, inr, slice_get, Option, Some, None, IsSome, Bool, true, false, not, ◌&&◌, cond, refl, sym, ap, ◌∙◌, subst, arith, ltb-true, eqb-true}
use Rattle.std.proofs.lemmas.Option.{none-some}
use Rattle.behaviours.specs.Paths.{Entity, VariableOf, ConstantOf}
use Rattle.typed_tree.specs.Syntax.{Expr, Static, Variable, Constant, Parameter, Target, Group, Unary, Binary, AndThen, OrElse, Relation, Membership, If, Call, Convert, Reduction, Optional, Absent, Present, Selections, Whole, Field, Index, Actuals, NoActual, In, InOut, Out, CompositeInOut, CompositeOut, Value, Number, Cells, Composite, WholeVariable, WholeConstant, WholeTarget, CompositeIf, Aggregate, Associations, NoAssociation, Association, Iteration, Range, Components, Chunk, NoChunk, Count, Each, Pieces, NoPiece, Text, Image, Padded, Decls, NoDecl, DeclareDefault, DeclareVariable, DeclareConstant, Mentions, Stmt, Null, Assign, CallProcedure, Exit, Return, ReturnValue, Raise, Reraise, IfThen, Case, Loop, For, ParallelFor, Parallel, Block, Put, Get, Stmts, End, Then, Alternatives, NoAlternative, Alternative, Arms, NoArm, Arm, Handlers, NoHandler, Handler, Sub, Program}
use Rattle.typed_tree.specs.declared.program.Formal.{Formal}
use Rattle.typed_scopes.specs.Scopes as scopes
use Rattle.typed_scopes.specs.Scopes.{Around, IsScoped, ScopedActuals, ScopedAll, ScopedAlternatives, ScopedArms, ScopedAssociations, ScopedChunk, ScopedComposite, ScopedDecls, ScopedExpr, ScopedHandlers, ScopedIn, ScopedMain, ScopedOptional, ScopedPieces, ScopedSelections, ScopedStmt, ScopedValue, outset, sub_around, with_chunk, with_formals, with_index, with_outer, with_parameter}
use Rattle.ada_meaning.specs.Meaning.{object_layout, sub_at}
use Rattle.ada_lower.specs.Emission.{is_repeated}
use Rattle.ada_meaning.proofs.Cells.{some_same}
use Rattle.stack_code.specs.declared.code.Around as body
use Rattle.stack_code.specs.declared.code.Around.TheVariants.{Site, Sub as OfSub}
use Rattle.stack_code.specs.declared.code.Code.{Code}
use Rattle.stack_code.specs.declared.code.CodeSite.{CodeSite}
use Rattle.stack_code.specs.declared.code.Lease as code
use Rattle.stack_code.specs.Valid.{LeaseFits, around_of, outward}
use Rattle.ada_lower.specs.declared.types.Home.{Home}
use Rattle.ada_lower.specs.declared.types.Standing.{Standing}
use Rattle.lower_emission.specs.Programs.{behind_main, code_of, text_in}
use Rattle.ada_lower.specs.Homes.{homes_of}
use Rattle.ada_lower.specs.Leases.{all_leased, frame_of}
use Rattle.ada_lower.specs.Places.{home_in, leases_at, level_from, named_from, names_of, ranges_of, seen_from, standing_in}
use Rattle.ada_lower.specs.Standings.{body_standings, standings_of, subs_standings}
use Rattle.ada_lower.specs.Standings.{actuals_standings, arm_standings, associations_standings, case_standings, chunk_standings, composite_standings, decls_standings, expr_standings, handler_standings, optional_standings, pieces_standings, selections_standings, stmt_standings, stmts_standings, value_standings}
use Rattle.ada_lower.specs.Lending.{Among}
use Rattle.ada_lower.specs.Sights.{Named, Sight, item_sight, iterated_sight, nested_sight, object_here, own, passing, range_sight, taking, thread_sight, turn_sight, with_entry, with_exit, with_handled, with_outside, with_target}
use Rattle.ada_lower.specs.Emission.{composite_width, is_whole, width}
use Rattle.ada_lower.specs.Fitted.{Spot, Fitted, FittedActuals, FittedAll, FittedAlternatives, FittedAssociations, FittedComponent, FittedComposite, FittedDecls, FittedHandlers, FittedIn, FittedOptional, FittedPieces, FittedSelections, FittedStmt, FittedTarget, FittedValue, OneOf}
use Rattle.ada_lower.specs.Bodies.{FittedMain, main_object, main_scope, sub_scope}
use Rattle.ada_lower.specs.Law.{IsLoweredBy}
use Rattle.ada_lower.specs.FittedForks.{FittedArms, FittedChunk, FittedCount, FittedForks, FittedReductions}
use Rattle.lower_emission.specs.declared.types.Level.TheVariants.{Own, Main}
use Rattle.lower_emission.specs.declared.types.Level.TheVariants as level
use Rattle.check_effects.specs.Conflicts.{EffectPath}
use Rattle.ada_lower.specs.HasTables.{LeasesFit}
use Rattle.lower_laws.specs.CodeLaw.{surrounded}
use Rattle.lower_laws.specs.CodeLaw as lowered
use Rattle.lower_laws.specs.Rooms.{frames_of, seen_names}
use Rattle.lower_laws.proofs.Codes.{surrounded_law}
use Rattle.lower_laws.specs.LeasesLaw.{FitLaw}
use Rattle.lower_laws.proofs.Leases.{among_leases, row_leases}

-- found before, or found here
next : {A B G : Type 0} → A ⊎ G → (A → B ⊎ G) → B ⊎ G
next (inl a) f = f a
next (inr g) f = inr g

last_of : {A : Type 0} (x y : A) (xs : List A) → Among x (xs ++ y ∷ []) → Among x xs ⊎ (x ≡ y)
last_of x y [] (inl e) = inr e
last_of x y [] (inr h) = absurd h
last_of x y (z ∷ xs) (inl e) = inl (inl e)
last_of x y (z ∷ xs) (inr h) = later (last_of x y xs h)
  where
    later : Among x xs ⊎ (x ≡ y) → Among x (z ∷ xs) ⊎ (x ≡ y)
    later (inl h) = inl (inr h)
    later (inr e) = inr e

module _ (program : Program) (shown : ℕ → Entity → Bool) (globals : ℕ → Entity → Option Named) (mains : Entity → Bool) (c : Code) where
  abbrev F : ℕ → Sight → Expr → Type 0
  F n = FittedReductions program globals mains surrounded c n

  abbrev P : ℕ → Sight → Stmt → Type 0
  P n = FittedForks program globals mains surrounded c n

  -- so many steps outward there is a body
  abbrev pub Deep : ℕ → body.Around → Type 0
  Deep d b = (k : ℕ) → k ≤ d → IsSome (outward c (Some b) k)

  -- the construct has its row, whose fork stands so deep
  pub record Stood (t : Standing) : Type 0 where
    pub row : CodeSite
    pub is : slice_get c.sites t.site ≡ Some row
    pub deep : Deep t.depth row.around

  abbrev pub Goal : Standing → List Standing → Type 0
  Goal t o = Among t o ⊎ Stood t

  turn_body : (chunk : Chunk) (it : Iteration) (s : Sight) (d : ℕ) → Deep d s.scope.body → Deep d (turn_sight s chunk it).scope.body
  turn_body NoChunk (Range k reverse low high check filter) s d h = h
  turn_body (Count e) (Range k reverse low high check filter) s d h = h
  turn_body (Each p l u c) (Range k reverse low high check filter) s d h = h
  turn_body NoChunk (Components k constant at r selections count stride dimensions filter) s d h = h
  turn_body (Count e) (Components k constant at r selections count stride dimensions filter) s d h = h
  turn_body (Each p l u c) (Components k constant at r selections count stride dimensions filter) s d h = h

  deep_of : (d : ℕ) (b : body.Around) (cs : CodeSite) → cs.around ≡ b → Deep d b → Deep d cs.around
  deep_of d b cs e h = subst (λ b. Deep d b) (sym e) h

  deep_in : (d site : ℕ) (cs : CodeSite) → slice_get c.sites site ≡ Some cs → Deep d cs.around → Deep (d + 1) (Site site)
  deep_in d site cs e h zero le = refl
  deep_in d site cs e h (suc k) le = subst (λ o. IsSome (outward c (around_of o) k)) (sym e) (h k (omega (arith, le)))

  stood : (d site : ℕ) (ranges : Bool) (cs : CodeSite) → slice_get c.sites site ≡ Some cs → Deep d cs.around → (t : Standing) → t ≡ record { site = site; depth = d; ranges = ranges } → Stood t
  stood d site ranges cs e h t is = subst (λ t. Stood t) (sym is) (record { row = cs; is = e; deep = h })

  at_site : (d site : ℕ) (ranges : Bool) (cs : CodeSite) → slice_get c.sites site ≡ Some cs → Deep d cs.around → (t : Standing) (o : List Standing) → Among t (o ++ record { site = site; depth = d; ranges = ranges } ∷ []) → Goal t o
  at_site d site ranges cs e h t o i = go (last_of t (record { site = site; depth = d; ranges = ranges }) o i)
    where
      go : Among t o ⊎ (t ≡ record { site = site; depth = d; ranges = ranges }) → Goal t o
      go (inl k) = inl k
      go (inr is) = inr (stood d site ranges cs e h t is)

  one_find : (b : Bool) {A B : Type 0} (t : Standing) (find : List Standing → List Standing) → (A → (o : List Standing) → Among t (find o) → Goal t o) → (B → (o : List Standing) → Among t (find o) → Goal t o) → OneOf program globals mains b A B → (o : List Standing) → Among t (find o) → Goal t o
  one_find true t find f g h = f h
  one_find false t find f g h = g h

  no_chunk : (d : ℕ) (chunk : Chunk) (t : Standing) (o : List Standing) → chunk ≡ NoChunk → Among t (chunk_standings d chunk o) → Among t o
  unfolding expr_standings
  no_chunk d chunk t o e i = subst (λ c. Among t (chunk_standings d c o)) e i

  mutual
    unfolding expr_standings

    pub find : (n d : ℕ) (s : Sight) (v : Around) (e : Expr) → Deep d s.scope.body → ScopedExpr program shown v e → Fitted program globals mains (F n) s e → (t : Standing) (o : List Standing) → Among t (expr_standings d e o) → Goal t o
    find n d s v (Static at value literal mentions) h u f t o i = inl i
    find n d s v (Variable at from x scalar) h u f t o i = find_select n d s v x h u.1 f.1 t o i
    find n d s v (Constant at from x scalar) h u f t o i = find_select n d s v x h u.1 f.1 t o i
    find n d s v (Parameter at k) h u f t o i = inl i
    find n d s v (Target at scalar) h u f t o i = inl i
    find n d s v (Group e) h u f t o i = find n d s v e h u f t o i
    find n d s v (Unary at x class e) h u f t o i = find n d s v e h u f t o i
    find n d s v (Binary at x class e g) h u f t o i = next (find n d s v e h u.0 f.0 t _ i) (λ j. find n d s v g h u.1 f.1 t o j)
    find n d s v (AndThen e g) h u f t o i = next (find n d s v e h u.0 f.0 t _ i) (λ j. find n d s v g h u.1 f.1 t o j)
    find n d s v (OrElse e g) h u f t o i = next (find n d s v e h u.0 f.0 t _ i) (λ j. find n d s v g h u.1 f.1 t o j)
    find n d s v (Relation class x e g) h u f t o i = next (find n d s v e h u.0 f.0 t _ i) (λ j. find n d s v g h u.1 f.1 t o j)
    find n d s v (Membership class negated e low high) h u f t o i =
        next (find n d (taking 2 s) v high h u.2 f.3 t _ i) (λ j. next (find n d (taking 1 s) v low h u.1 f.2 t _ j) (λ k. find n d s v e h u.0 f.1 t o k))
    find n d s v (If condition value otherwise) h u f t o i =
        next (find n d s v otherwise h u.2 f.2 t _ i) (λ j. next (find n d s v value h u.1 f.1 t _ j) (λ k. find n d s v condition h u.0 f.0 t o k))
    find n d s v (Call at callee sub actuals) h u f t o i = find_in n d (passing program sub s) v _ sub s.scope.free _ actuals h u.2 f.4 t o i
    find n d s v (Convert check e) h u f t o i = find n d s v e h u f t o i
    find n d s v (Reduction at a by initial None chunk (Range k reverse low high check filter) value) h u f t o i =
        next (find n d (range_sight s None k reverse 0) (with_parameter k (with_chunk chunk v)) value h u.4.3 f.5 t _ i)
        (λ j. next (find_optional n d (range_sight s None k reverse 0) (with_parameter k (with_chunk chunk v)) filter h u.4.2 f.4 t _ j)
        (λ l. next (find n d (taking 1 s) v high h u.4.1 f.3 t _ l) (λ m. next (find n d s v low h u.4.0 f.2 t _ m) (λ z. find n d s v initial h u.0 f.0 t o (no_chunk d chunk t _ u.3 z)))))
    find n d s v (Reduction at a by initial None chunk (Components k constant b from x number stride dimensions filter) value) h u f t o i =
        next (find n d (item_sight s None constant k stride 0) (with_chunk chunk v) value h u.4.4 f.5 t _ i)
        (λ j. next (find_optional n d (item_sight s None constant k stride 0) (with_chunk chunk v) filter h u.4.3 f.4 t _ j)
        (λ l. next (find_select n d s v x h u.4.2 f.3 t _ l) (λ z. find n d s v initial h u.0 f.0 t o (no_chunk d chunk t _ u.3 z))))
    find zero d s v (Reduction at a by initial (Some site) chunk iteration value) h u f t o i = absurd f
    find (suc n) d s v (Reduction at a by initial (Some site) chunk (Range k true low high check filter) value) h u f t o i = absurd f
    find (suc n) d s v (Reduction at a by initial (Some site) chunk (Range k false low high check filter) value) h u f t o i =
        let it : Iteration = Range k false low high check filter in
        let cs = f.0 in
        let out : Sight = thread_sight site cs.frame (taking 2 (taking 2 (taking 1 s))) in
        let there : Sight = turn_sight out chunk it in
        let own' : Deep d cs.around = deep_of d s.scope.body cs f.2 h in
        let inner : Deep (d + 1) there.scope.body = turn_body chunk it out (d + 1) (deep_in d site cs f.1.0 own') in
        next (find n (d + 1) there (with_parameter k (with_chunk chunk v)) value inner u.4.3 f.10 t _ i)
        (λ j. next (find_optional n (d + 1) there (with_parameter k (with_chunk chunk v)) filter inner u.4.2 f.9 t _ j)
        (λ l. next (find n d (taking 1 (taking 2 (nested_sight (taking 1 s)))) v high h u.4.1 f.8 t _ l)
        (λ m. next (find n d (taking 2 (nested_sight (taking 1 s))) v low h u.4.0 f.7 t _ m)
        (λ z. next (find_chunk n d (nested_sight (taking 1 s)) v chunk h u.1 f.6 t _ z) (λ y. next (find n d s v initial h u.0 f.5 t _ y) (λ x. at_site d site true cs f.1.0 own' t o x))))))
    find (suc n) d s v (Reduction at a by initial (Some site) chunk (Components k constant b from x number stride dimensions filter) value) h u f t o i =
        let it : Iteration = Components k constant b from x number stride dimensions filter in
        let cs = f.0 in
        let out : Sight = thread_sight site cs.frame (taking 2 (taking 2 (taking 1 s))) in
        let there : Sight = turn_sight out chunk it in
        let own' : Deep d cs.around = deep_of d s.scope.body cs f.2 h in
        let inner : Deep (d + 1) there.scope.body = turn_body chunk it out (d + 1) (deep_in d site cs f.1.0 own') in
        next (find n (d + 1) there (with_chunk chunk v) value inner u.4.4 f.11 t _ i)
        (λ j. next (find_optional n (d + 1) there (with_chunk chunk v) filter inner u.4.3 f.10 t _ j)
        (λ l. next (find_select n d (taking 2 (nested_sight (taking 1 s))) v x h u.4.2 f.9 t _ l)
        (λ z. next (find_chunk n d (nested_sight (taking 1 s)) v chunk h u.1 f.7 t _ z) (λ y. next (find n d s v initial h u.0 f.6 t _ y) (λ w. at_site d site false cs f.1.0 own' t o w)))))

    pub find_optional : (n d : ℕ) (s : Sight) (v : Around) (e : Optional) → Deep d s.scope.body → ScopedOptional program shown v e → FittedOptional program globals mains (F n) s e → (t : Standing) (o : List Standing) → Among t (optional_standings d e o) → Goal t o
    find_optional n d s v Absent h u f t o i = inl i
    find_optional n d s v (Present e) h u f t o i = find n d s v e h u f t o i

    pub find_select : (n d : ℕ) (s : Sight) (v : Around) (x : Selections) → Deep d s.scope.body → ScopedSelections program shown v x → FittedSelections program globals mains (F n) s x → (t : Standing) (o : List Standing) → Among t (selections_standings d x o) → Goal t o
    find_select n d s v Whole h u f t o i = inl i
    find_select n d s v (Field number offset x) h u f t o i = find_select n d s v x h u f t o i
    find_select n d s v (Index at e low high stride x) h u f t o i = next (find_select n d s v x h u.1 f.1 t _ i) (λ j. find n d s v e h u.0 f.0 t o j)

    find_in : (n d : ℕ) (s : Sight) (v : Around) (fs : List Formal) (sub w : ℕ) (ks : List Spot) (x : Actuals) → Deep d s.scope.body → ScopedIn program shown v fs x → FittedIn program globals mains (F n) s sub w ks x → (t : Standing) (o : List Standing) → Among t (actuals_standings d x o) → Goal t o
    find_in n d s v fs sub w ks NoActual h u f t o i = inl i
    find_in n d s v fs sub w ks (In formal (Number check e) rest) h u f t o i = next (find_in n d s v u.0 sub w f.1 rest h u.3 f.5 t _ i) (λ j. find n d s v e h u.2.1 f.4 t o j)
    find_in n d s v fs sub w ks (In formal (Cells value) rest) h u f t o i = next (find_in n d s v u.0 sub w f.2 rest h u.3 f.6 t _ i) (λ j. find_composite n d s v _ f.1 value h u.2 f.5 t o j)
    find_in n d s v fs sub w ks (InOut formal at from x inner outer rest) h u f t o i = absurd f
    find_in n d s v fs sub w ks (Out formal at from x inner outer rest) h u f t o i = absurd f
    find_in n d s v fs sub w ks (CompositeInOut formal at from x subtype rest) h u f t o i = absurd f
    find_in n d s v fs sub w ks (CompositeOut formal at from x subtype rest) h u f t o i = absurd f

    find_associations : (n d : ℕ) (s : Sight) (v : Around) (j m : ℕ) (x : Associations) → Deep d s.scope.body → ScopedAssociations program shown v j x → FittedAssociations program globals mains (F n) s m x → (t : Standing) (o : List Standing) → Among t (associations_standings d x o) → Goal t o
    find_associations n d s v j m NoAssociation h u f t o i = inl i
    find_associations n d s v j m (Association [] None mentions value rest) h u f t o i = find_associations n d s v j m rest h u.3 f t o i
    find_associations n d s v j m (Association (q ∷ qs) None mentions value rest) h u f t o i =
        next (find_associations n d s v j m rest h u.3 f.2 t _ i)
        (λ l. one_find (is_repeated (q ∷ qs) value) t (λ o. value_standings d value o) (λ z o k. find_component n d (taking 2 s) v u.2.0 value h u.2.2 z.1 t o k) (λ z o k. find_value n d s v u.2.0 (width program value) value h u.2.2 z t o k) f.1 o l)
    find_associations n d s v j m (Association [] (Some x) mentions value rest) h u f t o i = absurd u.0
    find_associations n d s v j m (Association (q ∷ qs) (Some x) mentions value rest) h u f t o i =
        next (find_associations n d s v j m rest h u.3 f.3 t _ i) (λ l. find_component n d (iterated_sight s x.parameter) (with_index (Some x) v) u.2.0 value h u.2.2 f.2 t o l)

    find_component : (n d : ℕ) (s : Sight) (v : Around) (j : ℕ) (x : Value) → Deep d s.scope.body → ScopedValue program shown v j x → FittedComponent program globals mains (F n) s x → (t : Standing) (o : List Standing) → Among t (value_standings d x o) → Goal t o
    find_component n d s v j (Number check e) h u f t o i = find n d s v e h u.1 f t o i
    find_component n d s v j (Cells value) h u f t o i = find_composite n d (taking (composite_width program value) s) v j (composite_width program value) value h u f.1 t o i

    pub find_composite : (n d : ℕ) (s : Sight) (v : Around) (j m : ℕ) (x : Composite) → Deep d s.scope.body → ScopedComposite program shown v j x → FittedComposite program globals mains (F n) s m x → (t : Standing) (o : List Standing) → Among t (composite_standings d x o) → Goal t o
    find_composite n d s v j m (WholeVariable at from x subtype) h u f t o i = find_select n d s v x h u.2 f.2 t o i
    find_composite n d s v j m (WholeConstant at from x subtype) h u f t o i = find_select n d s v x h u.2 f.2 t o i
    find_composite n d s v j m (WholeTarget at subtype) h u f t o i = inl i
    find_composite n d s v j m (CompositeIf condition value otherwise) h u f t o i =
        next (find_composite n d s v j m otherwise h u.2 f.2 t _ i) (λ l. next (find_composite n d s v j m value h u.1 f.1 t _ l) (λ k. find n d s v condition h u.0 f.0 t o k))
    find_composite n d s v j m (Aggregate at size associations) h u f t o i = find_associations n d s v j m associations h u.1 f.1 t o i

    pub find_value : (n d : ℕ) (s : Sight) (v : Around) (j m : ℕ) (x : Value) → Deep d s.scope.body → ScopedValue program shown v j x → FittedValue program globals mains (F n) s m x → (t : Standing) (o : List Standing) → Among t (value_standings d x o) → Goal t o
    find_value n d s v j m (Number check e) h u f t o i = find n d s v e h u.1 f.1 t o i
    find_value n d s v j m (Cells value) h u f t o i = find_composite n d s v j m value h u f t o i

    pub find_chunk : (n d : ℕ) (s : Sight) (v : Around) (x : Chunk) → Deep d s.scope.body → ScopedChunk program shown v x → FittedChunk program globals mains (F n) s x → (t : Standing) (o : List Standing) → Among t (chunk_standings d x o) → Goal t o
    find_chunk n d s v NoChunk h u f t o i = inl i
    find_chunk n d s v (Count e) h u f t o i = find n d (taking 1 s) v e h u f t o i
    find_chunk n d s v (Each k low high check) h u f t o i = next (find n d (taking 1 s) v high h u.1 f.1 t _ i) (λ j. find n d s v low h u.0 f.0 t o j)

  find_target : (n d : ℕ) (s : Sight) (v : Around) (b : Bool) (m : Named) (e : Expr) → Deep d s.scope.body → ScopedExpr program shown v e → FittedTarget program globals mains (F n) s b m e → (t : Standing) (o : List Standing) → Among t (expr_standings d e o) → Goal t o
  find_target n d s v true m e h u f t o i = find n d (with_target m s) v e h u f t o i
  find_target n d s v false m e h u f t o i = find n d (with_target (record { through = true; place = own s.scope.free; cells = 1 }) (taking 1 s)) v e h u f.1 t o i

  find_actuals : (n d : ℕ) (s : Sight) (v : Around) (fs : List Formal) (sub w : ℕ) (ks : List Spot) (x : Actuals) → Deep d s.scope.body → ScopedActuals program shown v fs x → FittedActuals program globals mains (F n) s sub w ks x → (t : Standing) (o : List Standing) → Among t (actuals_standings d x o) → Goal t o
  unfolding expr_standings
  find_actuals n d s v fs sub w ks NoActual h u f t o i = inl i
  find_actuals n d s v fs sub w ks (In formal value rest) h u f t o i = next (find_actuals n d s v u.0 sub w f.2 rest h u.3 f.6 t _ i) (λ j. find_value n d s v _ f.1 value h u.2 f.5 t o j)
  find_actuals n d s v fs sub w ks (InOut formal at from x inner outer rest) h u f t o i = next (find_actuals n d s v u.0 sub w f.1 rest h u.5 f.6 t _ i) (λ j. find_select n d s v x h u.4 f.5 t o j)
  find_actuals n d s v fs sub w ks (Out formal at from x inner outer rest) h u f t o i = next (find_actuals n d s v u.0 sub w f.1 rest h u.5 f.6 t _ i) (λ j. find_select n d s v x h u.4 f.5 t o j)
  find_actuals n d s v fs sub w ks (CompositeInOut formal at from x subtype rest) h u f t o i = next (find_actuals n d s v u.0 sub w f.1 rest h u.5 f.6 t _ i) (λ j. find_select n d s v x h u.4 f.5 t o j)
  find_actuals n d s v fs sub w ks (CompositeOut formal at from x subtype rest) h u f t o i = next (find_actuals n d s v u.0 sub w f.1 rest h u.5 f.6 t _ i) (λ j. find_select n d s v x h u.4 f.5 t o j)

  find_pieces : (n d : ℕ) (s : Sight) (v : Around) (x : Pieces) → Deep d s.scope.body → ScopedPieces program shown v x → FittedPieces program globals mains (F n) s x → (t : Standing) (o : List Standing) → Among t (pieces_standings d x o) → Goal t o
  unfolding pieces_standings
  find_pieces n d s v NoPiece h u f t o i = inl i
  find_pieces n d s v (Text bytes rest) h u f t o i = find_pieces n d s v rest h u f.1 t o i
  find_pieces n d s v (Image class e rest) h u f t o i = next (find_pieces n d (taking 1 s) v rest h u.1 f.1 t _ i) (λ j. find n d s v e h u.0 f.0 t o j)
  find_pieces n d s v (Padded class e (Static at value literal mentions) rest) h u f t o i = next (find_pieces n d (taking 1 s) v rest h u.2 f.1 t _ i) (λ j. find n d s v e h u.0 f.0 t o j)
  find_pieces n d s v (Padded class e most rest) h u f t o i = absurd f

  find_decls : (n d : ℕ) (s : Sight) (v : Around) (x : Decls) (does : Around → Type 0) (old : Sight → Type 0) (t : Standing) (G : List Standing → List Standing) → Deep d s.scope.body → ScopedDecls program shown v x does
      → ((j : Sight) (w : Around) → Deep d j.scope.body → does w → old j → (o : List Standing) → Among t (G o) → Goal t o) → FittedDecls program globals mains (F n) s x old → (o : List Standing) → Among t (G (decls_standings d x o)) → Goal t o
  unfolding decls_standings
  find_decls n d s v NoDecl does old t G h u next' f o i = next' s v h u f o i
  find_decls n d s v (DeclareDefault x more) does old t G h u next' f o i = find_decls n d (object_here s (VariableOf x) (length (object_layout program x))) (scopes.with_object (VariableOf x) v) more does old t G h u.1 next' f.3 o i
  find_decls n d s v (DeclareVariable x initial more) does old t G h u next' f o i =
      next (find_decls n d (object_here s (VariableOf x) (width program initial)) (scopes.with_object (VariableOf x) v) more does old t G h u.2 next' f.3 _ i) (λ j. find_value n d (taking (width program initial) s) v _ (width program initial) initial h u.1 f.2 t o j)
  find_decls n d s v (DeclareConstant x initial more) does old t G h u next' f o i =
      next (find_decls n d (object_here s (ConstantOf x) (width program initial)) (scopes.with_object (ConstantOf x) v) more does old t G h u.2 next' f.3 _ i) (λ j. find_value n d (taking (width program initial) s) v _ (width program initial) initial h u.1 f.2 t o j)
  find_decls n d s v (Mentions es more) does old t G h u next' f o i = find_decls n d s v more does old t G h u.1 next' f o i

  find_count : (n d : ℕ) (s : Sight) (v : Around) (x : Optional) → Deep d s.scope.body → ScopedOptional program shown v x → FittedCount program globals mains (F n) s x → (t : Standing) (o : List Standing) → Among t (optional_standings d x o) → Goal t o
  unfolding expr_standings
  find_count n d s v Absent h u f t o i = inl i
  find_count n d s v (Present e) h u f t o i = find n d (taking 1 s) v e h u f t o i

  mutual
    unfolding stmt_standings expr_standings

    pub find_stmt : (n d : ℕ) (s : Sight) (v : Around) (x : Stmt) → Deep d s.scope.body → ScopedStmt program shown v x → FittedStmt program globals mains (F n) (P n) s x → (t : Standing) (o : List Standing) → Among t (stmt_standings d x o) → Goal t o
    find_stmt n d s v Null h u f t o i = inl i
    find_stmt n d s v (Assign at from x (Number check e)) h u f t o i =
        next (find_target n d s (scopes.with_target u.2.0 v) (is_whole x && not f.0.through) f.0 e h u.2.1.1 f.4 t _ i) (λ j. find_select n d s v x h u.1 f.3 t o j)
    find_stmt n d s v (Assign at from x (Cells value)) h u f t o i =
        next (find_composite n d (with_target (record { through = true; place = own s.scope.free; cells = composite_width program value }) (taking (composite_width program value) (taking 1 s))) (scopes.with_target u.2.0 v) u.2.0 (composite_width program value) value h u.2.1 f.3 t _ i)
        (λ j. find_select n d s v x h u.1 f.1 t o j)
    find_stmt n d s v (CallProcedure at callee sub actuals) h u f t o i = find_actuals n d (passing program sub s) v _ sub s.scope.free _ actuals h u.2 f.4 t o i
    find_stmt n d s v (Exit loop condition) h u f t o i = find_optional n d s v condition h u f.1 t o i
    find_stmt n d s v Return h u f t o i = inl i
    find_stmt n d s v (ReturnValue (Number check e)) h u f t o i = find n d s v e h u f t o i
    find_stmt n d s v (ReturnValue (Cells value)) h u f t o i = absurd f
    find_stmt n d s v (Raise reason) h u f t o i = inl i
    find_stmt n d s v Reraise h u f t o i = inl i
    find_stmt n d s v (IfThen condition stmts otherwise) h u f t o i =
        next (find_all n d s v otherwise h u.2 f.2 t _ i) (λ j. next (find_all n d s v stmts h u.1 f.1 t _ j) (λ k. find n d s v condition h u.0 f.0 t o k))
    find_stmt n d s v (Case e alternatives) h u f t o i = next (find_cases n d (taking 1 s) v alternatives h u.1 f.2 t _ i) (λ j. find n d s v e h u.0 f.1 t o j)
    find_stmt n d s v (Loop number condition stmts) h u f t o i = next (find_all n d (with_exit number 0 s) v stmts h u.1 (f.1 0) t _ i) (λ j. find_optional n d s v condition h u.0 f.0 t o j)
    find_stmt n d s v (For number (Range q reverse low high check filter) stmts) h u f t o i =
        next (find_all n d (range_sight s (Some number) q reverse 0) (with_parameter q v) stmts h u.3 (f.3 0).1 t _ i)
        (λ j. next (find_optional n d (range_sight s (Some number) q reverse 0) (with_parameter q v) filter h u.2 (f.3 0).0 t _ j) (λ k. next (find n d (taking 1 s) v high h u.1 f.2 t _ k) (λ l. find n d s v low h u.0 f.1 t o l)))
    find_stmt n d s v (For number (Components q constant b from x many stride dimensions filter) stmts) h u f t o i =
        next (find_all n d (item_sight s (Some number) constant q stride 0) v stmts h u.4 (f.3 0).1 t _ i)
        (λ j. next (find_optional n d (item_sight s (Some number) constant q stride 0) v filter h u.3 (f.3 0).0 t _ j) (λ k. find_select n d s v x h u.2 f.2 t o k))
    find_stmt zero d s v (ParallelFor number site chunk iteration stmts) h u f t o i = absurd f
    find_stmt (suc n) d s v (ParallelFor number site chunk (Range q true low high check filter) stmts) h u f t o i = absurd f
    find_stmt (suc n) d s v (ParallelFor number site chunk (Range q false low high check filter) stmts) h u f t o i =
        let it : Iteration = Range q false low high check filter in
        let cs = f.0 in
        let out : Sight = thread_sight site cs.frame (taking 2 (taking 2 s)) in
        let there : Sight = turn_sight out chunk it in
        let own' : Deep d cs.around = deep_of d s.scope.body cs f.2 h in
        let inner : Deep (d + 1) there.scope.body = turn_body chunk it out (d + 1) (deep_in d site cs f.1.0 own') in
        next (find_all n (d + 1) (with_outside (number ∷ f.8) there) (with_parameter q (with_chunk chunk v)) stmts inner u.2.3 f.13 t _ i)
        (λ j. next (find_optional n (d + 1) there (with_parameter q (with_chunk chunk v)) filter inner u.2.2 f.12 t _ j)
        (λ k. next (find n d (taking 1 (taking 2 (nested_sight s))) v high h u.2.1 f.7 t _ k)
        (λ l. next (find n d (taking 2 (nested_sight s)) v low h u.2.0 f.6 t _ l) (λ m. next (find_chunk n d (nested_sight s) v chunk h u.0 f.5 t _ m) (λ z. at_site d site true cs f.1.0 own' t o z)))))
    find_stmt (suc n) d s v (ParallelFor number site chunk (Components q constant b from x many stride dimensions filter) stmts) h u f t o i =
        let it : Iteration = Components q constant b from x many stride dimensions filter in
        let cs = f.0 in
        let out : Sight = thread_sight site cs.frame (taking 2 (taking 2 s)) in
        let there : Sight = turn_sight out chunk it in
        let own' : Deep d cs.around = deep_of d s.scope.body cs f.2 h in
        let inner : Deep (d + 1) there.scope.body = turn_body chunk it out (d + 1) (deep_in d site cs f.1.0 own') in
        next (find_all n (d + 1) (with_outside (number ∷ f.9) there) (with_chunk chunk v) stmts inner u.2.4 f.14 t _ i)
        (λ j. next (find_optional n (d + 1) there (with_chunk chunk v) filter inner u.2.3 f.13 t _ j)
        (λ k. next (find_select n d (taking 2 (nested_sight s)) v x h u.2.2 f.8 t _ k) (λ m. next (find_chunk n d (nested_sight s) v chunk h u.0 f.6 t _ m) (λ z. at_site d site false cs f.1.0 own' t o z))))
    find_stmt zero d s v (Parallel site count arms) h u f t o i = absurd f
    find_stmt (suc n) d s v (Parallel site count arms) h u f t o i =
        let cs = f.0 in
        let there : Sight = taking 2 (taking 2 (thread_sight site cs.frame (taking 2 s))) in
        let own' : Deep d cs.around = deep_of d s.scope.body cs f.2 h in
        let inner : Deep (d + 1) there.scope.body = deep_in d site cs f.1.0 own' in
        next (find_arms n (d + 1) (with_outside f.8 there) v arms inner u.3 f.12 t _ i) (λ j. next (find_count n d (nested_sight s) v count h u.0 f.7 t _ j) (λ k. at_site d site true cs f.1.0 own' t o k))
    find_stmt n d s v (Block decls stmts NoHandler) h u f t o i =
        find_decls n d s v decls (λ w. ScopedAll program shown w stmts × ScopedHandlers program shown (scopes.handling w) NoHandler) (λ j. FittedAll program globals mains (F n) (P n) j stmts) t (λ z. stmts_standings d stmts z) h u (λ j w e q g o' k. find_all n d j w stmts e q.0 g t o' k) f o i
    find_stmt n d s v (Block decls stmts (Handler handled first rest)) h u f t o i =
        find_decls n d s v decls (λ w. ScopedAll program shown w stmts × ScopedHandlers program shown (scopes.handling w) (Handler handled first rest))
        (λ j. (j.scope.free < j.cells) × ((e : ℕ) → FittedAll program globals mains (F n) (P n) (with_entry e j) stmts) × FittedAll program globals mains (F n) (P n) (with_handled (own j.scope.free) (taking 1 j)) first × FittedHandlers program globals mains (F n) (P n) (with_handled (own j.scope.free) (taking 1 j)) rest)
        t (λ z. handler_standings d (Handler handled first rest) (stmts_standings d stmts z)) h u
        (λ j w e q g o' k.
        next (find_handlers n d (with_handled (own j.scope.free) (taking 1 j)) (scopes.handling w) rest e q.1.2 g.3 t _ k)
        (λ l. next (find_all n d (with_handled (own j.scope.free) (taking 1 j)) (scopes.handling w) first e q.1.1 g.2 t _ l) (λ m. find_all n d (with_entry 0 j) w stmts e q.0 (g.1 0) t o' m))) f o i
    find_stmt n d s v (Put at callee pieces line) h u f t o i = find_pieces n d s v pieces h u f.1 t o i
    find_stmt n d s v (Get at callee first from x scalar) h u f t o i = find_select n d s v x h u.1 f.1 t o i

    find_all : (n d : ℕ) (s : Sight) (v : Around) (x : Stmts) → Deep d s.scope.body → ScopedAll program shown v x → FittedAll program globals mains (F n) (P n) s x → (t : Standing) (o : List Standing) → Among t (stmts_standings d x o) → Goal t o
    find_all n d s v End h u f t o i = inl i
    find_all n d s v (Then first more) h u f t o i = next (find_all n d s v more h u.1 f.1 t _ i) (λ j. find_stmt n d s v first h u.0 f.0 t o j)

    find_cases : (n d : ℕ) (s : Sight) (v : Around) (x : Alternatives) → Deep d s.scope.body → ScopedAlternatives program shown v x → FittedAlternatives program globals mains (F n) (P n) s x → (t : Standing) (o : List Standing) → Among t (case_standings d x o) → Goal t o
    find_cases n d s v NoAlternative h u f t o i = inl i
    find_cases n d s v (Alternative others choices mentions stmts rest) h u f t o i = next (find_cases n d s v rest h u.3 f.1 t _ i) (λ j. find_all n d s v stmts h u.2 f.0 t o j)

    find_arms : (n d : ℕ) (s : Sight) (v : Around) (x : Arms) → Deep d s.scope.body → ScopedArms program shown v x → FittedArms program globals mains (F n) (P n) s x → (t : Standing) (o : List Standing) → Among t (arm_standings d x o) → Goal t o
    find_arms n d s v NoArm h u f t o i = inl i
    find_arms n d s v (Arm stmts rest) h u f t o i = next (find_arms n d s v rest h u.1 f.1 t _ i) (λ j. find_all n d s v stmts h u.0 f.0 t o j)

    find_handlers : (n d : ℕ) (s : Sight) (v : Around) (x : Handlers) → Deep d s.scope.body → ScopedHandlers program shown v x → FittedHandlers program globals mains (F n) (P n) s x → (t : Standing) (o : List Standing) → Among t (handler_standings d x o) → Goal t o
    find_handlers n d s v NoHandler h u f t o i = inl i
    find_handlers n d s v (Handler handled stmts rest) h u f t o i = next (find_handlers n d s v rest h u.2 f.1 t _ i) (λ j. find_all n d s v stmts h u.1 f.0 t o j)

-- ---- whole programs

module _ (program : Program) (shown : ℕ → Entity → Bool) (scoped : IsScoped program shown) (globals : ℕ → Entity → Option Named) (mains : Entity → Bool) (texts : List (List ℕ)) (text : List ℕ → ℕ) (frames : ℕ → ℕ) (frame depth : ℕ) (c : Code)
    (low : IsLoweredBy surrounded program c globals mains texts text frames frame depth) where
  abbrev Goal' : Standing → List Standing → Type 0
  Goal' t o = Goal program shown globals mains c t o

  outermost : (k : ℕ) → Deep program shown globals mains c 0 (OfSub k)
  outermost k zero le = refl
  outermost k (suc j) le = absurd (omega (arith, le))

  find_main : (s : Sight) (v : Around) (x : Decls) (does : Around → Type 0) (old : Sight → Type 0) (t : Standing) (G : List Standing → List Standing) → Deep program shown globals mains c 0 s.scope.body → ScopedMain program shown v x does
      → ((j : Sight) (w : Around) → Deep program shown globals mains c 0 j.scope.body → does w → old j → (o : List Standing) → Among t (G o) → Goal' t o) → FittedMain program globals mains texts text frames (FittedReductions program globals mains surrounded c depth) s x old
      → (o : List Standing) → Among t (G (decls_standings 0 x o)) → Goal' t o
  unfolding decls_standings
  find_main s v NoDecl does old t G h u next' f o i = next' s v h u f o i
  find_main s v (DeclareDefault x more) does old t G h u next' f o i = find_main (main_object s (VariableOf x) (length (object_layout program x))) (with_outer (VariableOf x) v) more does old t G h u.1 next' f.3 o i
  find_main s v (DeclareVariable x initial more) does old t G h u next' f o i =
      next (find_main (main_object s (VariableOf x) (width program initial)) (with_outer (VariableOf x) v) more does old t G h u.2 next' f.3 _ i)
      (λ j. find_value program shown globals mains c depth 0 (taking (width program initial) s) v _ (width program initial) initial h u.1 f.2 t o j)
  find_main s v (DeclareConstant x initial more) does old t G h u next' f o i =
      next (find_main (main_object s (ConstantOf x) (width program initial)) (with_outer (ConstantOf x) v) more does old t G h u.2 next' f.3 _ i)
      (λ j. find_value program shown globals mains c depth 0 (taking (width program initial) s) v _ (width program initial) initial h u.1 f.2 t o j)
  find_main s v (Mentions es more) does old t G h u next' f o i = find_main s v more does old t G h u.1 next' f o i

  in_main : (t : Standing) (o : List Standing) → Among t (body_standings program.body o) → Goal' t o
  unfolding stmt_standings decls_standings
  in_main t o i =
      find_main (main_scope program globals mains texts text frames frame) outset program.body.decls (λ v. ScopedAll program shown v program.body.stmts × ScopedHandlers program shown (scopes.handling v) program.body.handlers) _ t
      (λ z. handler_standings 0 program.body.handlers (stmts_standings 0 program.body.stmts z)) (outermost 0) scoped.main
      (λ j w e q f o' k. find_stmt program shown globals mains c depth 0 j w (Block NoDecl program.body.stmts program.body.handlers) e q f t o' k) low.main o i

  in_subs : (subs : List Sub) (n : ℕ) → ((k : ℕ) (unit : Sub) → sub_at subs k ≡ Some unit → sub_at program.subs (n + k) ≡ Some unit) → (t : Standing) (o : List Standing) → Among t (subs_standings subs o) → Goal' t o
  unfolding stmt_standings handler_standings
  in_subs [] n at t o i = inl i
  in_subs (unit ∷ more) n at t o i =
      let z : n + 0 ≡ n = omega arith in
      let e : sub_at program.subs n ≡ Some unit = ap (λ k. sub_at program.subs k) (sym z) ∙ at 0 unit refl in
      let (is, there, entry, free) = low.code.subs n unit e in
      let fits = low.subs n unit is e there in
      next (in_subs more (n + 1) (λ k u q. (let y : n + suc k ≡ n + 1 + k = omega arith in ap (λ k. sub_at program.subs k) (sym y) ∙ at (suc k) u q)) t _ i)
      (λ j. find_stmt program shown globals mains c depth 0 (sub_scope program globals mains texts text frames n unit is.frame) (with_formals (sub_around program (shown n)) unit.formals) (Block unit.body.decls unit.body.stmts unit.body.handlers) (outermost (n + 1)) (scoped.subs n unit e)
      (fits.fitted is.frame (let w : is.frame ≤ is.frame = omega arith in w)) t o j)

  -- each construct that stands in the program has its row, whose fork stands as deep
  pub all_stood : (t : Standing) → Among t (standings_of program) → Stood program shown globals mains c t
  all_stood t i = go (next (in_subs program.subs 0 (λ k u e. (let z : 0 + k ≡ k = omega arith in ap (λ k. sub_at program.subs k) z ∙ e)) t _ i) (λ j. in_main t [] j))
    where
      go : Goal' t [] → Stood program shown globals mains c t
      go (inl h) = absurd h
      go (inr s) = s

-- ---- leases

-- a standing that is found is of that number
standing_found : (site : ℕ) (ss : List Standing) (t : Standing) → standing_in site ss ≡ Some t → Among t ss × (t.site ≡ site)
standing_found site [] t e = absurd (none-some t e)
standing_found site (s ∷ ss) t e = go (nat_eq site s.site) refl (standing_found site ss t) e
  where
    go : (b : Bool) → nat_eq site s.site ≡ b → (standing_in site ss ≡ Some t → Among t ss × (t.site ≡ site)) → cond b (Some s) (standing_in site ss) ≡ Some t → Among t (s ∷ ss) × (t.site ≡ site)
    go true q more e = let same : t ≡ s = sym (some_same s t e) in (inl same, ap (λ (z : Standing). z.site) same ∙ sym (eqb-true site s.site q))
    go false q more e = let (i, is) = more e in (inr i, is)

-- the level of what is seen from a depth
seen_level : (o : Option Standing) (h : Option Home) (m : Named) → seen_from o h ≡ Some m → (t : Standing) × (k : Home) × (o ≡ Some t) × (m ≡ named_from t.depth k)
seen_level None h m e = absurd (none-some m e)
seen_level (Some t) None m e = absurd (none-some m e)
seen_level (Some t) (Some k) m e = (t, k, refl, sym (some_same (named_from t.depth k) m e))

module _ (c : Code) (b : body.Around) (d : ℕ) (deep : (k : ℕ) → k ≤ d → IsSome (outward c (Some b) k)) where
  level_fits : (h : Home) (main below : Bool) → nat_lt h.depth d ≡ below → LeaseFits c b (frame_of (cond main Main (cond below (level.Around (d - h.depth)) Own)))
  level_fits h true below e = tt
  level_fits h false true e = let lt = ltb-true h.depth d e in deep (suc (d - h.depth - 1)) (let z : suc (d - h.depth - 1) ≤ d = omega (arith, lt) in z)
  level_fits h false false e = deep 0 (let z : 0 ≤ d = omega arith in z)

fit_by : (program : Program) (shown : ℕ → Entity → Bool) (granted : ℕ → List (ℕ × EffectPath)) (text : List ℕ → ℕ) (frames : ℕ → ℕ) (frame depth : ℕ) (globals : ℕ → Entity → Option Named) (mains : Entity → Bool)
    → IsScoped program shown → let c = code_of program (leases_at program granted) in IsLoweredBy surrounded program c globals mains c.texts text frames frame depth → LeasesFit program (leases_at program granted)
fit_by program shown granted text frames frame depth globals mains scoped low site s is n lease at =
    let c : Code = code_of program (leases_at program granted) in
    let here : s.leases ≡ all_leased program (names_of program site) (ranges_of program site) (granted site) = row_leases program (leases_at program granted) site s is in
    let (arm, p, m, w, i, name, way, l) = among_leases program (names_of program site) (ranges_of program site) (granted site) lease (subst (λ ls. Among lease ls) here (got s.leases n lease at)) in
    let (t, h, stands, named) = seen_level (standing_in site (standings_of program)) (home_in p.object (homes_of program)) m name in
    let (among, number) = standing_found site (standings_of program) t stands in
    let z = all_stood program shown scoped globals mains c.texts text frames frame depth c low t among in
    let same : z.row ≡ s = some_same z.row s (sym z.is ∙ ap (λ k. slice_get c.sites k) number ∙ is) in
    let fits : LeaseFits c z.row.around (frame_of (level_from t.depth h)) = level_fits c z.row.around t.depth z.deep h h.main (nat_lt h.depth t.depth) refl in
    subst (λ l. LeaseFits c s.around l.frame) (sym l) (subst (λ (m : Named). LeaseFits c s.around (frame_of m.place.level)) (sym named) (subst (λ (r : CodeSite). LeaseFits c r.around (frame_of (level_from t.depth h))) same fits))
  where
    got : (ls : List code.Lease) (n : ℕ) (l : code.Lease) → slice_get ls n ≡ Some l → Among l ls
    got [] n l e = absurd (none-some l e)
    got (x ∷ ls) zero l e = inl (sym (some_same x l e))
    got (x ∷ ls) (suc n) l e = inr (got ls n l e)

pub fit_law : FitLaw
fit_law program shown granted formed filled scoped stays distinct listed' nested =
    let (depth, low) = surrounded_law program shown (leases_at program granted) formed filled scoped stays distinct listed' nested in
    fit_by program shown granted (text_in program) (frames_of (lowered.frame_of program)) (lowered.frame_of program (OfSub 0)) depth (seen_names shown (behind_main program (text_in program)).object) (scopes.behind outset program.body.decls).taken scoped low
