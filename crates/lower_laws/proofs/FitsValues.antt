-- Expressions, values, aggregates and actual parameters that are formed and in scope fit their code.
use Rattle.std.proofs.Common.{◌≡◌, ℕ, zero, suc, ◌+◌, ◌<◌, ◌≤◌, List, [], ◌∷◌, Option, Some, None, Bool, true, false, cond, refl, sym, ap, ◌∙◌, subst, arith}
use Rattle.behaviours.specs.Paths.{Entity, ConstantOf}
use Rattle.typed_tree.specs.declared.expressions.Reducer.{Reducer}
use Rattle.typed_tree.specs.declared.expressions.Reducer.TheVariants.{Operator, Function}
use Rattle.typed_tree.specs.declared.expressions.Root.{Root}
use Rattle.typed_tree.specs.declared.expressions.Run.{Run}
use Rattle.typed_tree.specs.declared.scalars.Check.{Check}
use Rattle.typed_tree.specs.declared.scalars.Scalar.{Scalar}
use Rattle.typed_tree.specs.declared.program.Formal.{Formal}
use Rattle.typed_tree.specs.Syntax.{Expr, Static, Variable, Constant, Parameter, Target, Group, Unary, Binary, AndThen, OrElse, Relation, Membership, If, Call, Convert, Reduction, Optional, Absent, Present, Selections, Whole, Field, Index, Actuals, NoActual, In, InOut, Out, CompositeInOut, CompositeOut, Value, Number, Cells, Composite, WholeVariable, WholeConstant, WholeTarget, CompositeIf, Aggregate, Associations, NoAssociation, Association, Range, Components, Chunk, NoChunk, Count, Each, Sub, Program}
use Rattle.ada_meaning.specs.Meaning.{sub_at}
use Rattle.ada_meaning.specs.Formed.{FormedActuals, FormedAssociations, FormedChunk, FormedComposite, FormedExpr, FormedOptional, FormedSelections, FormedValue, Known, Spans, SpansConstant}
use Rattle.stack_code.specs.declared.code.Around as body
use Rattle.stack_code.specs.declared.code.Around.TheVariants.{Site}
use Rattle.stack_code.specs.declared.code.Code.{Code}
use Rattle.stack_code.specs.declared.code.CodeSite.{CodeSite}
use Rattle.stack_code.specs.declared.code.SiteKind.{SiteKind}
use Rattle.lower_emission.specs.Emits.{Emit}
use Rattle.lower_emission.specs.Scope.{none}
use Rattle.ada_lower.specs.Sights.{Named, Scope, Sight, chunk_sight, constant_root_of, item_sight, iterated_sight, nested_sight, passing, range_sight, root_of, taking, thread_sight, turn_sight}
use Rattle.ada_lower.specs.Emission.{associated, binary_instr, chunk_code, component, combined, composed, composite_width, emit, fillings, filtered, folding, formals_in, is_plain, passed, put_into, selected, shapes, shapes_cells, is_repeated, repeating, turn_height, width}
use Rattle.typed_tree.specs.declared.program.Mode.TheVariants as mode
use Rattle.ada_lower.specs.Fitted.{Spot, spot, spots, Callable, Fitted, FittedAssociations, FittedComponent, FittedComposite, FittedFold, FittedGiven, FittedIn, FittedOptional, FittedRuns, FittedSelections, FittedValue}
use Rattle.ada_lower.specs.FittedForks.{FittedChunk, FittedReductions}
use Rattle.typed_scopes.specs.Scopes as scopes
use Rattle.typed_scopes.specs.Scopes.{Without, Around, Called, LieWithin, ScopedAssociations, ScopedChunk, ScopedComposite, ScopedExpr, ScopedIn, ScopedOptional, ScopedReducer, ScopedSelections, ScopedValue, with_chunk, with_parameter}
use Rattle.lower_laws.proofs.Tables.{HasSite, TabledActuals, TabledAssociations, TabledChunk, TabledComposite, TabledExpr, TabledOptional, TabledSelections, TabledValue}
use Rattle.lower_laws.specs.Rooms.{Roomy}
use Rattle.lower_laws.proofs.Formals.{AreApart, AreFound, AreOf, all_found, formals_are, formals_at, none_of, spots_of, taken}
use Rattle.lower_laws.proofs.Room.{composed_room, index_room, operand_room, part_room, passed_room}
use Rattle.lower_laws.proofs.Sees.{Sees, sees_chunk, sees_iterated, sees_nested, sees_range, sees_taking, sees_thread}
use Rattle.lower_laws.proofs.Walks.{Through, chunk_free, filled_room, kept, positive, reached_constant, reached_variable, through, repeated_room, turned_room}

-- a value that is given so many cells has them
mutual
  pub width_is : (program : Program) (shown : ℕ → Entity → Bool) (v : Around) (n : ℕ) (x : Value) → ScopedValue program shown v n x → width program x ≡ n
  width_is program shown v n (Number check e) p = sym p.0
  width_is program shown v n (Cells c) p = composite_is program shown v n c p

  pub composite_is : (program : Program) (shown : ℕ → Entity → Bool) (v : Around) (n : ℕ) (c : Composite) → ScopedComposite program shown v n c → composite_width program c ≡ n
  composite_is program shown v n (WholeVariable at r selections subtype) p = p.0
  composite_is program shown v n (WholeConstant at r selections subtype) p = p.0
  composite_is program shown v n (WholeTarget at subtype) p = p.0
  composite_is program shown v n (CompositeIf condition value otherwise) p = composite_is program shown v n value p.1
  composite_is program shown v n (Aggregate at size associations) p = p.0

module _ (program : Program) (globals : ℕ → Entity → Option Named) (mains : Entity → Bool) (c : Code) (T : List ℕ → Type 0) (frames : ℕ → ℕ) (room : body.Around → ℕ)
    (threads : (n : ℕ) → room (Site n) ≡ frames n) (apart : (k : ℕ) (unit : Sub) → sub_at program.subs k ≡ Some unit → AreApart (shapes program unit.formals))
    (names : Entity → Option Named) (shown : ℕ → Entity → Bool) (shows : (sub : ℕ) (y : Entity) (n : Named) → globals sub y ≡ Some n → (shown sub y ≡ true) × (names y ≡ Some n))
    (lent : Bool → Sight → ℕ → CodeSite → Type 0) (give : (items : Bool) (s : Sight) (site : ℕ) (of : SiteKind) (row : HasSite c frames site of s.scope.body) → lent items s site row.row) where
  abbrev pub S : Known → Around → Sight → Type 0
  S = Sees program names mains T frames room

  abbrev pub Fold : ℕ → Sight → Expr → Type 0
  Fold n = FittedReductions program globals mains lent c n

  abbrev pub Row : ℕ → SiteKind → body.Around → Type 0
  Row = HasSite c frames

  abbrev pub R : Emit → Type 0
  R = Roomy Row room

  pub runs_fit : (n m : ℕ) (rs : List Run) → LieWithin n m rs → FittedRuns program globals mains n m rs
  runs_fit n m [] h = tt
  runs_fit n m (r ∷ rs) h = (h.1, runs_fit n m rs h.2)

  abbrev pub callable : {w : Known} {v : Around} {i : Sight} (sub : ℕ) → S w v i → (u : Called program shown v sub) → Callable program globals mains i sub
  callable sub k u = record { unit = u.unit; is = u.is; outer = λ y n e. let (seen, is) = shows sub y n e in k.global y n (u.may y seen) is; main = k.main }

  -- the cells of a call's formals
  pub passing_free : (i : Sight) (sub : ℕ) (unit : Sub) → sub_at program.subs sub ≡ Some unit → i.scope.free + shapes_cells (shapes program unit.formals) ≡ (passing program sub i).scope.free
  passing_free i sub unit is = ap (λ fs. i.scope.free + shapes_cells (shapes program fs)) (sym (formals_are program sub unit is))

  -- a function that reduces, where there are cells for its formals
  called_fits : (w : Known) (v : Around) (i : Sight) (at sub : ℕ) (accumulator value : Scalar) → S w v i → ScopedReducer program shown v (Function at sub accumulator value) → i.scope.free + 1 < i.cells → FittedFold program globals mains i (Function at sub accumulator value)
  called_fits w v i at sub accumulator value k p lt =
      let u = p.0 in
      let x = p.2.0 in
      let y = p.2.1 in
      let ex = p.2.3 in
      let ey = p.2.4 in
      let fs : shapes program u.unit.formals ≡ record { formal = ConstantOf x; back = false; cells = 1 } ∷ record { formal = ConstantOf y; back = false; cells = 1 } ∷ [] =
      ap (shapes program) p.2.2 ∙ ap (λ n. record { formal = ConstantOf x; back = false; cells = n } ∷ record { formal = ConstantOf y; back = false; cells = scopes.object_cells program y } ∷ []) ex
      ∙ ap (λ n. record { formal = ConstantOf x; back = false; cells = 1 } ∷ record { formal = ConstantOf y; back = false; cells = n } ∷ []) ey in
      let at : Rattle.ada_meaning.specs.Meaning.formals_of program.subs sub ≡ scopes.formal_of x Rattle.typed_tree.specs.declared.program.Mode.TheVariants.In ∷ scopes.formal_of y Rattle.typed_tree.specs.declared.program.Mode.TheVariants.In ∷ [] = formals_at program.subs sub u.unit u.is ∙ p.2.2 in (
        callable sub k u,
        p.1,
        omega (arith, lt),
        fs ∙ sym (ap (λ fs. record { formal = ConstantOf (Rattle.ada_meaning.specs.Meaning.formal_at fs 0); back = false; cells = 1 } ∷ record { formal = ConstantOf (Rattle.ada_meaning.specs.Meaning.formal_at fs 1); back = false; cells = 1 } ∷ []) at),
      )

  pub reducer_fits : (w : Known) (v : Around) (i : Sight) (h : ℕ) (by : Reducer) → S w v i → ScopedReducer program shown v by → R (folding i.scope h by) → FittedFold program globals mains i by
  reducer_fits w v i h (Operator at op class) k p m = tt
  reducer_fits w v i h (Function at sub accumulator value) k p m = called_fits w v i at sub accumulator value k p (kept i.scope.free (i.scope.free + 1) (room i.scope.body) i.cells m.0 k.enough)

  -- and where it combines what threads gave, behind the cells of the construct
  pub combiner_fits : (w : Known) (v : Around) (i : Sight) (h : ℕ) (by : Reducer) → S w v i → ScopedReducer program shown v by → R (combined (taking 2 (taking 2 (taking 1 i))).scope h by) → FittedFold program globals mains (taking 2 (taking 2 (taking 1 i))) by
  combiner_fits w v i h (Operator at op class) k p m = tt
  combiner_fits w v i h (Function at sub accumulator value) k p m =
      let lt = kept (i.scope.free + 1 + 2 + 2) (i.scope.free + 1 + 2 + 2 + 1) (room i.scope.body) i.cells (m 0).1.0.1.0.0 k.enough in
      let k1 = sees_taking program names mains T frames room 1 (omega (arith, lt)) k in
      let k2 = sees_taking program names mains T frames room 2 (omega (arith, lt)) k1 in
      called_fits w v (taking 2 (taking 2 (taking 1 i))) at sub accumulator value (sees_taking program names mains T frames room 2 (omega (arith, lt)) k2) p lt

  chunk_outer : (chunk : Chunk) (v : Around) (y : Entity) → (with_chunk chunk v).outer y ≡ v.outer y
  chunk_outer NoChunk v y = refl
  chunk_outer (Count e) v y = refl
  chunk_outer (Each p low high check) v y = refl

  -- a reducer is known wherever the same subprograms may be called
  pub reducer_as : (v u : Around) (by : Reducer) → ((y : Entity) → u.outer y ≡ v.outer y) → ScopedReducer program shown v by → ScopedReducer program shown u by
  reducer_as v u (Operator at op class) same p = tt
  reducer_as v u (Function at sub accumulator value) same p = (record { unit = p.0.unit; is = p.0.is; may = λ y e. same y ∙ p.0.may y e }, p.1, p.2)

  pub room_where : (b : Bool) (a : Emit) → b ≡ false → R (cond b none a) → R a
  room_where true a e m = absurd (let z : true ≡ false = e in cc)
  room_where false a e m = m

  pub filtered_body : (s : Scope) (h : ℕ) (filter : Optional) (b : Emit) → R (filtered program s h filter b) → R b
  unfolding filtered
  filtered_body s h Absent b m = m
  filtered_body s h (Present e) b m = m.1.1

  pub thread_room : (site : ℕ) {of : SiteKind} {at : body.Around} (h : Row site of at) → room (Site site) ≤ h.row.frame
  thread_room site h = let z = threads site in let y = h.frame in omega (arith, z, y)

  pub sited : (i : Sight) {w : Known} {v : Around} → S w v i → (site : ℕ) {of : SiteKind} {at : body.Around} (h : Row site of at) → i.frames site ≡ h.row.frame
  sited i k site h = k.rows site ∙ h.frame

  -- the sight of a turn over a range in a thread
  pub turn_sees : {w : Known} {v : Around} {i : Sight} (site cells : ℕ) (chunk : Chunk) (p : ℕ) (low high : Expr) (check : Option Check) (filter : Optional) → room (Site site) ≤ cells → 4 ≤ cells → S w v i
      → S w (with_parameter p (with_chunk chunk v)) (turn_sight (thread_sight site cells i) chunk (Range p false low high check filter))
  turn_sees {w} {v} {i} site cells chunk p low high check filter le four k =
      let t : Sight = thread_sight site cells i in
      let e : (chunk_sight chunk (taking 2 t)).scope.free ≡ 2 = chunk_free chunk (taking 2 t).scope in
      sees_range program names mains T frames room None p false 0 (omega (arith, e, four))
      (sees_chunk program names mains T frames room chunk (sees_taking program names mains T frames room 2 (omega (arith, four)) (sees_thread program names mains T frames room site cells le k)))

  pub item_turn_sees : {w : Known} {v v' : Around} {i : Sight} (site cells : ℕ) (chunk : Chunk) (p : ℕ) (constant : Bool) (at : ℕ) (r : Root) (x : Selections) (number stride dimensions : ℕ) (filter : Optional) (does : Known → Type 0)
      → (g : Through program names mains T frames room w v' p constant r x number stride filter does) → room (Site site) ≤ cells → 5 ≤ cells → S w v i
      → S g.inner (with_chunk chunk v) (turn_sight (thread_sight site cells i) chunk (Components p constant at r x number stride dimensions filter))
  item_turn_sees {w} {v} {v'} {i} site cells chunk p constant at r x number stride dimensions filter does g le five k =
      let t : Sight = thread_sight site cells i in
      let e : (chunk_sight chunk (taking 2 t)).scope.free ≡ 2 = chunk_free chunk (taking 2 t).scope in
      g.turn (with_chunk chunk v) (chunk_sight chunk (taking 2 t)) (omega (arith, e, five))
      (sees_chunk program names mains T frames room chunk (sees_taking program names mains T frames room 2 (omega (arith, five)) (sees_thread program names mains T frames room site cells le k)))

  -- the values of an association without a parameter, in a part that is repeated or not
  fits_given : (repeated : Bool) (n : ℕ) (i : Sight) (w : Known) (v : Around) (h to : ℕ) (r : Run) (rs : List Run) (value : Value) → S w v i → 1 ≤ r.count
      → (i.scope.free + 1 < i.cells → R (component program (taking 2 i).scope h (i.scope.free + 1) value) → FittedComponent program globals mains (Fold n) (taking 2 i) value)
      → ((at : ℕ) → R (put_into program i.scope h (to + at) value) → FittedValue program globals mains (Fold n) i (width program value) value)
      → R (cond repeated (repeating i.scope h to (component program (taking 2 i).scope h (i.scope.free + 1) value) (r ∷ rs)) (fillings i.scope h to (width program value) (is_plain value) (λ n. put_into program i.scope h (to + n) value) (r ∷ rs)))
      → FittedGiven program globals mains (Fold n) repeated i value
  fits_given true n i w v h to r rs value k le fc fv m =
      let (last, round) = repeated_room Row room i.scope h to (component program (taking 2 i).scope h (i.scope.free + 1) value) r rs le m in
      let lt = kept i.scope.free (i.scope.free + 1) (room i.scope.body) i.cells last k.enough in
      (lt, fc lt round)
  fits_given false n i w v h to r rs value k le fc fv m =
      let (at, mv) = filled_room Row room i.scope h to (width program value) (is_plain value) (λ n. put_into program i.scope h (to + n) value) r rs le m in
      fv at mv

  mutual
    unfolding emit

    pub fits : (n : ℕ) (i : Sight) (w : Known) (v : Around) (h : ℕ) (e : Expr) → S w v i → FormedExpr program w e → ScopedExpr program shown v e → TabledExpr T n e → R (emit program i.scope h e) → Fitted program globals mains (Fold n) i e
    fits n i w v h (Static at value literal mentions) k f p t m = tt
    fits n i w v h (Variable at r x scalar) k f p t m = (reached_variable program names mains T frames room r x 1 k f.0 p.0, fits_selections n i w v (h + 1) x k f.1 p.1 t (part_room program Row room i.scope h (root_of i.scope r) x m))
    fits n i w v h (Constant at r x scalar) k f p t m = (reached_constant program names mains T frames room r x 1 k f.0 p.0, fits_selections n i w v (h + 1) x k f.1 p.1 t (part_room program Row room i.scope h (constant_root_of i.scope r) x m))
    fits n i w v h (Parameter at j) k f p t m = k.parameter j p
    fits n i w v h (Target at scalar) k f p t m = let (j, e, one) = p in let (o, is, le) = k.target j e in (o, is, omega (arith, one, le))
    fits n i w v h (Group e) k f p t m = fits n i w v h e k f p t m
    fits n i w v h (Unary at sign class e) k f p t m = fits n i w v h e k f.1 p t m.0
    fits n i w v h (Binary at op class e g) k f p t m = (fits n i w v h e k f.1 p.0 t.0 m.0, fits n i w v (h + 1) g k f.2 p.1 t.1 (operand_room program Row room i.scope (h + 1) op class g (binary_instr op class) m.1))
    fits n i w v h (AndThen e g) k f p t m = (fits n i w v h e k f.0 p.0 t.0 m.0, fits n i w v h g k f.1 p.1 t.1 m.1.1)
    fits n i w v h (OrElse e g) k f p t m = (fits n i w v h e k f.0 p.0 t.0 m.0, fits n i w v h g k f.1 p.1 t.1 m.1.2)
    fits n i w v h (Relation class comparison e g) k f p t m = (fits n i w v h e k f.1 p.0 t.0 m.0, fits n i w v (h + 1) g k f.2 p.1 t.1 m.1.0)
    fits n i w v h (Membership class negated e low high) k f p t m =
        let lt = kept i.scope.free (i.scope.free + 1) (room i.scope.body) i.cells m.1.1.1.0 k.enough in (
          lt,
          fits n i w v h e k f.1 p.0 t.0 m.0,
          fits n (taking 1 i) w v h low (sees_taking program names mains T frames room 1 (omega (arith, lt)) k) f.2 p.1 t.1 m.1.1.0,
          fits n (taking 2 i) w v h high (sees_taking program names mains T frames room 2 (omega (arith, lt)) k) f.3 p.2 t.2 m.1.1.1.1.0,
        )
    fits n i w v h (If condition value otherwise) k f p t m = (fits n i w v h condition k f.0 p.0 t.0 m.0, fits n i w v h value k f.1 p.1 t.1 m.1.1, fits n i w v h otherwise k f.2 p.2 t.2 m.1.2)
    fits n i w v h (Call at callee sub actuals) k f p t m =
        let u = p.0 in
        let whole = passing_free i sub u.unit u.is in
        let le : (passing program sub i).scope.free ≤ room i.scope.body = passed_room program Row room (passing program sub i).scope h sub i.scope.free actuals m.0 (λ e.
        let none : u.unit.formals ≡ [] = subst (λ x. ScopedIn program shown v u.unit.formals x) e p.2 in
        let z : i.scope.free + shapes_cells (shapes program u.unit.formals) ≡ i.scope.free + 0 = ap (λ fs. i.scope.free + shapes_cells (shapes program fs)) none in
        let y = m.1 in omega (arith, z, y, whole)) in
        let enough = k.enough in (
          callable sub k u,
          p.1,
          whole,
          omega (arith, le, enough),
          fits_in n (passing program sub i) w v h sub i.scope.free u.unit.formals (spots 0 (shapes program u.unit.formals)) actuals (sees_taking program names mains T frames room _ (omega (arith, le, enough)) k) f.1 p.2 t m.0 (spots_of 0 (shapes program u.unit.formals))
              (subst (λ fs. AreFound (shapes program fs) i.scope.free (spots 0 (shapes program u.unit.formals))) (sym (formals_are program sub u.unit u.is)) (all_found (shapes program u.unit.formals) i.scope.free (apart sub u.unit u.is))),
        )
    fits n i w v h (Convert check e) k f p t m = fits n i w v h e k f p t m.0
    fits n i w v h (Reduction at attribute by initial None chunk (Range p reverse low high check filter) value) k f q t m =
        let (ql, qh, qf, qv) = q.4 in
        let lt = kept i.scope.free (i.scope.free + 1) (room i.scope.body) i.cells m.1.1.1.1.0 k.enough in
        let sees : S w (with_parameter p v) (range_sight i None p reverse 0) = sees_range program names mains T frames room None p reverse 0 (omega (arith, lt)) k in
        let turn = m.1.1.1.1.1.1.1.1.1 0 in
        let same : with_chunk chunk v ≡ v = ap (λ c. with_chunk c v) q.3 in
        let body = filtered_body (range_sight i None p reverse 0).scope (h + 1) filter _ turn.1 in (
          fits n i w v h initial k f.1 q.0 t.0 m.0,
          lt,
          fits n i w v (h + 1) low k f.3.0 ql t.1.0 m.1.0,
          fits n (taking 1 i) w v (h + 1) high (sees_taking program names mains T frames room 1 (omega (arith, lt)) k) f.3.1 qh t.1.1 m.1.1.1.0,
          fits_optional n (range_sight i None p reverse 0) w (with_parameter p v) (h + 1) filter _ sees f.3.2 (subst (λ u. ScopedOptional program shown (with_parameter p u) filter) same qf) t.1.2 turn.1,
          fits n (range_sight i None p reverse 0) w (with_parameter p v) (h + 1) value sees f.3.3 (subst (λ u. ScopedExpr program shown (with_parameter p u) value) same qv) t.2 body.0,
          reducer_fits w (with_parameter p v) (range_sight i None p reverse 0) h by sees (reducer_as v (with_parameter p v) by (λ y. refl) q.2) body.1,
        )
    fits n i w v h (Reduction at attribute by initial None chunk (Components p constant a r x number stride dimensions filter) value) k f q t m =
        let (some, seen, qs, qf, qv) = q.4 in
        let g = through program names mains T frames room p constant a r x number stride dimensions filter (λ w. FormedExpr program w value) f.3 seen in
        let walk = room_where (Rattle.std.specs.Prelude.nat_eq number 0) _ (positive number some) m.1.1 in
        let lt = kept i.scope.free (i.scope.free + 1 + 1) (room i.scope.body) i.cells walk.1.1.1.0 k.enough in
        let there : Sight = item_sight i None constant p stride 0 in
        let sees : S g.inner v there = g.item v i None 0 (omega (arith, lt)) k in
        let turn = walk.1.1.1.1.1 0 in
        let same : with_chunk chunk v ≡ v = ap (λ c. with_chunk c v) q.3 in
        let body = filtered_body there.scope (h + 1) filter _ turn.1 in (
          fits n i w v h initial k f.1 q.0 t.0 m.0,
          lt,
          g.reached i k,
          fits_selections n i w v (h + 1 + 1) x k g.selections qs t.1.0 m.1.0.1.0,
          fits_optional n there g.inner v (h + 1) filter _ sees g.filter (subst (λ u. ScopedOptional program shown u filter) same qf) t.1.1 turn.1,
          fits n there g.inner v (h + 1) value sees g.does_so (subst (λ u. ScopedExpr program shown u value) same qv) t.2 body.0,
          reducer_fits g.inner v there h by sees q.2 body.1,
        )
    fits zero i w v h (Reduction at attribute by initial (Some site) chunk iteration value) k f q t m = absurd t
    fits (suc n) i w v h (Reduction at attribute by initial (Some site) chunk (Range p true low high check filter) value) k f q t m = absurd (let z : true ≡ false = q.3 in cc)
    fits (suc n) i w v h (Reduction at attribute by initial (Some site) chunk (Range p false low high check filter) value) k f q t m =
        let (ql, qh, qf, qv) = q.4 in
        let row = m.1.1.1.1.1.1.0.1.1.1.0.1 in
        let enough = row.enough in
        let lt = kept (i.scope.free + 1 + 2) (i.scope.free + 1 + 2 + 1) (room i.scope.body) i.cells m.1.1.1.1.0.1.1.1.0 k.enough in
        let k1 = sees_nested program names mains T frames room (sees_taking program names mains T frames room 1 (omega (arith, lt)) k) in
        let k2 = sees_taking program names mains T frames room 2 (omega (arith, lt)) k1 in
        let k3 = sees_taking program names mains T frames room 1 (omega (arith, lt)) k2 in
        let there : Sight = turn_sight (thread_sight site row.row.frame (taking 2 (taking 2 (taking 1 i)))) chunk (Range p false low high check filter) in
        let sees : S w (with_parameter p (with_chunk chunk v)) there = turn_sees site row.row.frame chunk p low high check filter (thread_room site row) (omega (arith, enough)) k in
        let turn = m.1.1.1.1.1.1.0.1.1.1.1.1.1.0.1.1.1 0 in
        let body = filtered_body there.scope 1 filter _ turn.1 in (
          row.row,
          (row.is, sited i k site row, omega (arith, enough), row.entry),
          give false i site _ row,
          row.kind,
          omega (arith, lt),
          fits n i w v h initial k f.1 q.0 t.0 m.0,
          fits_chunk n (nested_sight (taking 1 i)) w v h chunk k1 f.2 q.1 t.1 m.1.1.1.0,
          fits n (taking 2 (nested_sight (taking 1 i))) w v h low k2 f.3.0 ql t.2.0 m.1.1.1.1.0.0,
          fits n (taking 1 (taking 2 (nested_sight (taking 1 i)))) w v h high k3 f.3.1 qh t.2.1 m.1.1.1.1.0.1.1.0,
          fits_optional n there w (with_parameter p (with_chunk chunk v)) 1 filter _ sees f.3.2 qf t.2.2 turn.1,
          fits n there w (with_parameter p (with_chunk chunk v)) 1 value sees f.3.3 qv t.3 body.0,
          reducer_fits w (with_parameter p (with_chunk chunk v)) there 0 by sees (reducer_as v (with_parameter p (with_chunk chunk v)) by (λ y. chunk_outer chunk v y) q.2) body.1,
          combiner_fits w v i h by k q.2 m.1.1.1.1.1.1.1.1,
        )
    fits (suc n) i w v h (Reduction at attribute by initial (Some site) chunk (Components p constant a r x number stride dimensions filter) value) k f q t m =
        let (some, seen, qs, qf, qv) = q.4 in
        let row = m.1.1.1.1.1.1.0.1.1.1.0.1 in
        let enough = row.enough in
        let g = through program names mains T frames room p constant a r x number stride dimensions filter (λ w. FormedExpr program w value) f.3 seen in
        let lt = kept (i.scope.free + 1 + 2) (i.scope.free + 1 + 2) (room i.scope.body) i.cells m.1.1.1.1.0.1.1 k.enough in
        let k1 = sees_nested program names mains T frames room (sees_taking program names mains T frames room 1 (omega (arith, lt)) k) in
        let k2 = sees_taking program names mains T frames room 2 (omega (arith, lt)) k1 in
        let there : Sight = turn_sight (thread_sight site row.row.frame (taking 2 (taking 2 (taking 1 i)))) chunk (Components p constant a r x number stride dimensions filter) in
        let sees : S g.inner (with_chunk chunk v) there = item_turn_sees site row.row.frame chunk p constant a r x number stride dimensions filter (λ w. FormedExpr program w value) g (thread_room site row) row.enough k in
        let turn = m.1.1.1.1.1.1.0.1.1.1.1.1.1.0.1.1.1.1.1.1.1 0 in
        let body = filtered_body there.scope 1 filter _ turn.1 in (
          row.row,
          (row.is, sited i k site row, omega (arith, enough), row.entry),
          give true i site _ row,
          row.enough,
          row.kind,
          omega (arith, lt),
          fits n i w v h initial k f.1 q.0 t.0 m.0,
          fits_chunk n (nested_sight (taking 1 i)) w v h chunk k1 f.2 q.1 t.1 m.1.1.1.0,
          g.reached (taking 2 (nested_sight (taking 1 i))) k2,
          fits_selections n (taking 2 (nested_sight (taking 1 i))) w v (h + 1) x k2 g.selections qs t.2.0 m.1.1.1.1.0.1.0,
          fits_optional n there g.inner (with_chunk chunk v) 1 filter _ sees g.filter qf t.2.1 turn.1,
          fits n there g.inner (with_chunk chunk v) 1 value sees g.does_so qv t.3 body.0,
          reducer_fits g.inner (with_chunk chunk v) there 0 by sees (reducer_as v (with_chunk chunk v) by (λ y. chunk_outer chunk v y) q.2) body.1,
          combiner_fits w v i h by k q.2 m.1.1.1.1.1.1.1.1,
        )

    pub fits_chunk : (n : ℕ) (i : Sight) (w : Known) (v : Around) (h : ℕ) (x : Chunk) → S w v i → FormedChunk program w x → ScopedChunk program shown v x → TabledChunk T n x → R (chunk_code program i.scope h x) → FittedChunk program globals mains (Fold n) i x
    fits_chunk n i w v h NoChunk k f p t m = tt
    fits_chunk n i w v h (Count e) k f p t m =
        let lt = kept i.scope.free i.scope.free (room i.scope.body) i.cells m.1.0 k.enough in
        fits n (taking 1 i) w v h e (sees_taking program names mains T frames room 1 (omega (arith, lt)) k) f p t m.1.1.0
    fits_chunk n i w v h (Each p low high check) k f q t m =
        let lt = kept i.scope.free i.scope.free (room i.scope.body) i.cells m.1.0 k.enough in
        (fits n i w v h low k f.0 q.0 t.0 m.0, fits n (taking 1 i) w v h high (sees_taking program names mains T frames room 1 (omega (arith, lt)) k) f.1 q.1 t.1 m.1.1.0)

    pub fits_optional : (n : ℕ) (i : Sight) (w : Known) (v : Around) (h : ℕ) (o : Optional) (b : Emit) → S w v i → FormedOptional program w o → ScopedOptional program shown v o → TabledOptional T n o → R (filtered program i.scope h o b) → FittedOptional program globals mains (Fold n) i o
    fits_optional n i w v h Absent b k f p t m = tt
    fits_optional n i w v h (Present e) b k f p t m = fits n i w v h e k f p t m.0

    pub fits_selections : (n : ℕ) (i : Sight) (w : Known) (v : Around) (h : ℕ) (x : Selections) → S w v i → FormedSelections program w x → ScopedSelections program shown v x → TabledSelections T n x → R (selected program i.scope h x) → FittedSelections program globals mains (Fold n) i x
    fits_selections n i w v h Whole k f p t m = tt
    fits_selections n i w v h (Field number offset rest) k f p t m = fits_selections n i w v h rest k f p t m.1
    fits_selections n i w v h (Index at e low high stride rest) k f p t m = (fits n i w v h e k f.0 p.0 t.0 (index_room program Row room i.scope h e low high stride m.0), fits_selections n i w v h rest k f.1 p.1 t.1 m.1)

    pub fits_in : (n : ℕ) (i : Sight) (w : Known) (v : Around) (h sub base : ℕ) (fs : List Formal) (ks : List Spot) (x : Actuals) → S w v i → FormedActuals program w x → ScopedIn program shown v fs x → TabledActuals T n x → R (passed program i.scope h sub base x)
        → AreOf (shapes program fs) ks → AreFound (shapes program (formals_in program sub)) base ks → FittedIn program globals mains (Fold n) i sub base ks x
    fits_in n i w v h sub base fs ks NoActual k f p t m of found = none_of ks (subst (λ fs. AreOf (shapes program fs) ks) p of)
    fits_in n i w v h sub base fs ks (In x (Number check e) rest) k f p t m of found =
        let (gs, wo, (one, pe), pr) = p in
        let y = taken program (shapes program (formals_in program sub)) base (scopes.formal_of x mode.In) fs gs ks wo of found in (
          y.at,
          y.rest,
          subst (λ cells. Without (spot (ConstantOf x) false cells y.at) ks y.rest) one y.without,
          y.cell,
          fits n i w v h e k f.0 pe t.0 m.0.0,
          fits_in n i w v h sub base gs y.rest rest k f.1 pr t.1 m.1 y.of y.found,
        )
    fits_in n i w v h sub base fs ks (In x (Cells c) rest) k f p t m of found =
        let (gs, wo, pe, pr) = p in
        let cells = scopes.object_cells program x in
        let y = taken program (shapes program (formals_in program sub)) base (scopes.formal_of x mode.In) fs gs ks wo of found in (
          y.at,
          cells,
          y.rest,
          y.without,
          y.cell,
          fits_composite n i w v h _ cells c k f.0 pe t.0 m.0,
          fits_in n i w v h sub base gs y.rest rest k f.1 pr t.1 m.1 y.of y.found,
        )
    fits_in n i w v h sub base fs ks (InOut x at r selections inner outer rest) k f p t m of found = absurd p
    fits_in n i w v h sub base fs ks (Out x at r selections inner outer rest) k f p t m of found = absurd p
    fits_in n i w v h sub base fs ks (CompositeInOut x at r selections subtype rest) k f p t m of found = absurd p
    fits_in n i w v h sub base fs ks (CompositeOut x at r selections subtype rest) k f p t m of found = absurd p

    pub fits_value : (n : ℕ) (i : Sight) (w : Known) (v : Around) (h to cells : ℕ) (x : Value) → S w v i → FormedValue program w x → ScopedValue program shown v cells x → TabledValue T n x → R (put_into program i.scope h to x) → FittedValue program globals mains (Fold n) i cells x
    fits_value n i w v h to cells (Number check e) k f p t m = (p.0, fits n i w v h e k f p.1 t m.0)
    fits_value n i w v h to cells (Cells c) k f p t m = fits_composite n i w v h to cells c k f p t m

    pub fits_composite : (n : ℕ) (i : Sight) (w : Known) (v : Around) (h to cells : ℕ) (x : Composite) → S w v i → FormedComposite program w x → ScopedComposite program shown v cells x → TabledComposite T n x → R (composed program i.scope h to x) → FittedComposite program globals mains (Fold n) i cells x
    fits_composite n i w v h to cells (WholeVariable at r x subtype) k f p t m =
        (p.0, reached_variable program names mains T frames room r x cells k (subst (λ n. Spans program w r x n) p.0 f.0) p.1, fits_selections n i w v (h + 1 + 1) x k f.1 p.2 t m.1.1.0)
    fits_composite n i w v h to cells (WholeConstant at r x subtype) k f p t m =
        (p.0, reached_constant program names mains T frames room r x cells k (subst (λ n. SpansConstant program w r x n) p.0 f.0) p.1, fits_selections n i w v (h + 1 + 1) x k f.1 p.2 t m.1.1.0)
    fits_composite n i w v h to cells (WholeTarget at subtype) k f p t m = let (o, is, le) = k.target cells p.1 in (p.0, o, is, le)
    fits_composite n i w v h to cells (CompositeIf condition value otherwise) k f p t m =
        (fits n i w v h condition k f.0 p.0 t.0 m.0, fits_composite n i w v h to cells value k f.1 p.1 t.1 m.1.1, fits_composite n i w v h to cells otherwise k f.2 p.2 t.2 m.1.2)
    fits_composite n i w v h to cells (Aggregate at size associations) k f p t m = (p.0, fits_associations n i w v h to cells associations k f p.1 t m.1.1)

    pub fits_associations : (n : ℕ) (i : Sight) (w : Known) (v : Around) (h to cells : ℕ) (x : Associations) → S w v i → FormedAssociations program w x → ScopedAssociations program shown v cells x → TabledAssociations T n x → R (associated program i.scope h to x)
        → FittedAssociations program globals mains (Fold n) i cells x
    fits_associations n i w v h to cells NoAssociation k f p t m = tt
    fits_associations n i w v h to cells (Association [] None mentions value rest) k f p t m = fits_associations n i w v h to cells rest k f.2 p.3 t.1 m.1
    fits_associations n i w v h to cells (Association (r ∷ rs) None mentions value rest) k f p t m =
        let (size, lie, pv) = p.2 in
        let e = width_is program shown v size value pv in (
          runs_fit cells (width program value) (r ∷ rs) (subst (λ m. LieWithin cells m (r ∷ rs)) (sym e) lie),
          fits_given (is_repeated (r ∷ rs) value) n i w v h to r rs value k lie.0
              (λ lt m. fits_component n (taking 2 i) w v h _ (width program value) value (sees_taking program names mains T frames room 2 (omega (arith, lt)) k) f.1 (subst (λ m. ScopedValue program shown v m value) (sym e) pv) t.0 m)
              (λ at m. fits_value n i w v h (to + at) (width program value) value k f.1 (subst (λ m. ScopedValue program shown v m value) (sym e) pv) t.0 m) m.0,
          fits_associations n i w v h to cells rest k f.2 p.3 t.1 m.1,
        )
    fits_associations n i w v h to cells (Association [] (Some x) mentions value rest) k f p t m = absurd p.0
    fits_associations n i w v h to cells (Association (r ∷ rs) (Some x) mentions value rest) k f p t m =
        let (size, lie, pv) = p.2 in
        let e = width_is program shown (with_parameter x.parameter v) size value pv in
        let (last, turn) = turned_room Row room i.scope h to x.first (component program (iterated_sight i x.parameter).scope (turn_height (r ∷ rs) h) (i.scope.free + 1 + 1) value) r rs lie.0 m.0 in
        let lt = kept i.scope.free (i.scope.free + 1 + 1) (room i.scope.body) i.cells last k.enough in (
          lt,
          runs_fit cells (width program value) (r ∷ rs) (subst (λ m. LieWithin cells m (r ∷ rs)) (sym e) lie),
          fits_component n (iterated_sight i x.parameter) w (with_parameter x.parameter v) (turn_height (r ∷ rs) h) _ size value (sees_iterated program names mains T frames room x.parameter (omega (arith, lt)) k) f.1 pv t.0 turn,
          fits_associations n i w v h to cells rest k f.2 p.3 t.1 m.1,
        )

    pub fits_component : (n : ℕ) (i : Sight) (w : Known) (v : Around) (h at cells : ℕ) (x : Value) → S w v i → FormedValue program w x → ScopedValue program shown v cells x → TabledValue T n x → R (component program i.scope h at x) → FittedComponent program globals mains (Fold n) i x
    fits_component n i w v h at cells (Number check e) k f p t m = fits n i w v (h + 1) e k f p.1 t m.1.0
    fits_component n i w v h at cells (Cells c) k f p t m =
        let e = composite_is program shown v cells c p in
        let le = composed_room program Row room (taking (composite_width program c) i).scope h i.scope.free c m.0 in
        let enough = k.enough in (
          omega (arith, le, enough),
          fits_composite n (taking (composite_width program c) i) w v h i.scope.free (composite_width program c) c (sees_taking program names mains T frames room (composite_width program c) (omega (arith, le, enough)) k) f (subst (λ n. ScopedComposite program shown v n c) (sym e) p) t m.0,
        )
