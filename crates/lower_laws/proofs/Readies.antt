-- Programs in scope are ready for their code: their calls name subprograms that are there, and their values have their cells.
use Rattle.std.proofs.Common.{◌≡◌, ◌⊎◌, inl, inr, ℕ, suc, ◌+◌, ◌≤◌, List, [], ◌∷◌, nat_eq, Some, Bool, true, false, cond, refl, sym, ap, ◌∙◌, subst, arith, eqb-true, ⊎_elim}
use Rattle.behaviours.specs.Paths.{Entity, VariableOf, ConstantOf}
use Rattle.typed_tree.specs.declared.scalars.Scalar.{Scalar}
use Rattle.typed_tree.specs.declared.expressions.Run.{Run}
use Rattle.typed_tree.specs.declared.expressions.Reducer.{Reducer}
use Rattle.typed_tree.specs.declared.expressions.Reducer.TheVariants.{Operator, Function}
use Rattle.typed_tree.specs.declared.program.Formal.{Formal}
use Rattle.typed_tree.specs.declared.program.Mode.{Mode}
use Rattle.typed_tree.specs.declared.program.Mode.TheVariants as mode
use Rattle.typed_tree.specs.Syntax.{Expr, Static, Variable, Constant, Parameter, Target, Group, Unary, Binary, AndThen, OrElse, Relation, Membership, If, Call, Convert, Reduction, Optional, Absent, Present, Selections, Whole, Field, Index, Actuals, NoActual, In, InOut, Out, CompositeInOut, CompositeOut, Value, Number, Cells, Composite, WholeVariable, WholeConstant, WholeTarget, CompositeIf, Aggregate, Associations, NoAssociation, Association, Iteration, Range, Components, Chunk, NoChunk, Count, Each, Pieces, NoPiece, Text, Image, Padded, Decls, NoDecl, DeclareDefault, DeclareVariable, DeclareConstant, Mentions, Stmt, Null, Assign, CallProcedure, Exit, Return, ReturnValue, Raise, Reraise, IfThen, Case, Loop, For, ParallelFor, Parallel, Block, Put, Get, Stmts, End, Then, Alternatives, NoAlternative, Alternative, Arms, NoArm, Arm, Handlers, NoHandler, Handler, Sub, Program}
use Rattle.ada_meaning.specs.Meaning.{sub_at}
use Rattle.lower_emission.specs.Programs.{has_result}
use Rattle.ada_lower.specs.Emission.{formal_cell, formals_in, shapes, shapes_cells, composite_width, width}
use Rattle.ada_lower.specs.Ready.{RunsIn, Calls, ReadyReducer, ReadyExpr, ReadyOptional, ReadySelections, ReadyActuals, ReadyValue, ReadyComposite, ReadyAssociations, ReadyIteration, ReadyChunk, ReadyPieces, ReadyDecls, ReadyStmt, ReadyAll, ReadyAlternatives, ReadyArms, ReadyHandlers, ReadySubs, IsReady}
use Rattle.typed_scopes.specs.Scopes.{Around, Called, LieWithin, ScopedReducer, ScopedExpr, ScopedOptional, ScopedSelections, ScopedIn, ScopedActuals, ScopedValue, ScopedComposite, ScopedAssociations, ScopedIteration, ScopedChunk, ScopedPieces, ScopedDecls, ScopedMain, ScopedStmt, ScopedAll, ScopedAlternatives, ScopedArms, ScopedHandlers, IsScoped, Without, formal_of, handling, object_cells, outset, with_chunk, with_index, with_object, with_outer, with_parameter, with_target}
use Rattle.lower_laws.proofs.Formals.{entity_refl, formals_are}
use Rattle.lower_laws.proofs.FitsValues.{composite_is, width_is}

-- ---- formals

abbrev IsIn : ℕ → List Formal → Type 0
IsIn x [] = ⊥
IsIn x (f ∷ fs) = (f ≡ formal_of x mode.In) ⊎ IsIn x fs

false_true : false ≡ true → ⊥
false_true e = subst only e tt
  where
    only : Bool → Type 0
    only true = ⊥
    only false = Unit {0}

module _ (program : Program) where
  -- the cells of a formal are among those of all
  cell_room : (fs : List Formal) (n x : ℕ) → IsIn x fs → formal_cell (shapes program fs) n (ConstantOf x) + object_cells program x ≤ n + shapes_cells (shapes program fs)
  cell_room [] n x is = absurd is
  cell_room (f ∷ fs) n x is = go f.mode refl is (λ m is. cell_room fs m x is)
    where
      Later : Type 0
      Later = (m : ℕ) → IsIn x fs → formal_cell (shapes program fs) m (ConstantOf x) + object_cells program x ≤ m + shapes_cells (shapes program fs)

      mode_is : f ≡ formal_of x mode.In → f.mode ≡ mode.In
      mode_is e = ap (λ f. f.mode) e

      back_is : Mode → Type 0
      back_is mode.In = Unit {0}
      back_is m = ⊥

      at_in : (b : Bool) → nat_eq f.object x ≡ b → (f ≡ formal_of x mode.In) ⊎ IsIn x fs → ((m : ℕ) → IsIn x fs → formal_cell (shapes program fs) m (ConstantOf x) + object_cells program x ≤ m + shapes_cells (shapes program fs))
          → cond b n (formal_cell (shapes program fs) (n + 0 + object_cells program f.object) (ConstantOf x)) + object_cells program x ≤ n + (0 + object_cells program f.object + shapes_cells (shapes program fs))
      at_in true e is later = let z : object_cells program f.object ≡ object_cells program x = ap (object_cells program) (eqb-true f.object x e) in omega (arith, z)
      at_in false e (inl same) later = absurd (false_true (sym e ∙ ap (λ f. nat_eq f.object x) same ∙ entity_refl (ConstantOf x)))
      at_in false e (inr is) later = let z = later (n + 0 + object_cells program f.object) is in omega (arith, z)

      at_back : (f ≡ formal_of x mode.In → ⊥) → (f ≡ formal_of x mode.In) ⊎ IsIn x fs → ((m : ℕ) → IsIn x fs → formal_cell (shapes program fs) m (ConstantOf x) + object_cells program x ≤ m + shapes_cells (shapes program fs))
          → formal_cell (shapes program fs) (n + 1 + object_cells program f.object) (ConstantOf x) + object_cells program x ≤ n + (1 + object_cells program f.object + shapes_cells (shapes program fs))
      at_back no_one (inl same) later = absurd (no_one same)
      at_back no_one (inr is) later = let z = later (n + 1 + object_cells program f.object) is in omega (arith, z)

      go : (m : Mode) → f.mode ≡ m → (f ≡ formal_of x mode.In) ⊎ IsIn x fs → ((m : ℕ) → IsIn x fs → formal_cell (shapes program fs) m (ConstantOf x) + object_cells program x ≤ m + shapes_cells (shapes program fs))
          → formal_cell (shapes program (record { object = f.object; mode = m } ∷ fs)) n (ConstantOf x) + object_cells program x ≤ n + shapes_cells (shapes program (record { object = f.object; mode = m } ∷ fs))
      go mode.In e is later = at_in (nat_eq f.object x) refl is later
      go mode.InOut e is later = at_back (λ same. subst back_is (sym (mode_is same) ∙ e) tt) is later
      go mode.Out e is later = at_back (λ same. subst back_is (sym (mode_is same) ∙ e) tt) is later

  runs_in : (n m : ℕ) (rs : List Run) → LieWithin n m rs → RunsIn n m rs
  runs_in n m [] w = tt
  runs_in n m (r ∷ rs) w = (w.1, runs_in n m rs w.2)

  module _ (shown : ℕ → Entity → Bool) where
    function_there : (v : Around) (sub : ℕ) → (u : Called program shown v sub) → (k : Scalar) → u.unit.result ≡ Some k → Calls program sub true
    function_there v sub u k e = (u.unit, u.is, ap has_result e)

    -- formals from one on are among all
    abbrev Among : List Formal → List Formal → Type 0
    Among fs all = (x : ℕ) → IsIn x fs → IsIn x all

    next_among : (fs gs all : List Formal) (f : Formal) → Without f fs gs → Among fs all → Among gs all
    next_among fs gs all f wo h x is = h x (still fs gs wo is)
      where
        still : (fs gs : List Formal) → Without f fs gs → IsIn x gs → IsIn x fs
        still [] gs wo is = absurd wo
        still (e ∷ es) gs (inl (here, same)) is = inr (subst (λ gs. IsIn x gs) same is)
        still (e ∷ es) gs (inr (hs, same, wo)) is = ⊎_elim (λ here. inl here) (λ is. inr (still es hs wo is)) (subst (λ gs. IsIn x gs) same is)

    first_among : (fs gs all : List Formal) (x : ℕ) → Without (formal_of x mode.In) fs gs → Among fs all → IsIn x all
    first_among fs gs all x wo h = h x (there fs gs wo)
      where
        there : (fs gs : List Formal) → Without (formal_of x mode.In) fs gs → IsIn x fs
        there [] gs wo = absurd wo
        there (e ∷ es) gs (inl (here, same)) = inl here
        there (e ∷ es) gs (inr (hs, same, wo)) = inr (there es hs wo)

    room_there : (sub : ℕ) (all : List Formal) (x n : ℕ) → formals_in program sub ≡ all → IsIn x all → n ≡ object_cells program x → formal_cell (shapes program (formals_in program sub)) 0 (ConstantOf x) + n ≤ shapes_cells (shapes program (formals_in program sub))
    room_there sub all x n e is same =
        subst (λ fs. formal_cell (shapes program fs) 0 (ConstantOf x) + n ≤ shapes_cells (shapes program fs)) (sym e) (let z = cell_room all 0 x is in omega (arith, z, same))

    ready_by : (v : Around) (by : Reducer) → ScopedReducer program shown v by → ReadyReducer program by
    ready_by v (Operator a o class) w = tt
    ready_by v (Function a sub accumulator value) w = function_there v sub w.0 w.1.0 w.1.1

    -- what is in scope of an iteration's body
    iteration_rest : (v u : Around) (it : Iteration) (rest : Around → Type 0) → ScopedIteration program shown v u it rest → (t : Around) × rest t
    iteration_rest v u (Range k reverse low high check filter) rest w = (with_parameter k u, w.3)
    iteration_rest v u (Components k constant a r selections count stride dimensions filter) rest w = (u, w.4)

    iteration_alone : (v u : Around) (it : Iteration) (rest : Around → Type 0) → ScopedIteration program shown v u it rest → ScopedIteration program shown v u it (λ t. Unit {0})
    iteration_alone v u (Range k reverse low high check filter) rest w = (w.0, w.1, w.2, tt)
    iteration_alone v u (Components k constant a r selections count stride dimensions filter) rest w = (w.0, w.1, w.2, w.3, tt)

    mutual
      ready_expr : (v : Around) (x : Expr) → ScopedExpr program shown v x → ReadyExpr program x
      ready_expr v (Static a value literal mentions) w = tt
      ready_expr v (Variable a r selections scalar) w = ready_selections v selections w.1
      ready_expr v (Constant a r selections scalar) w = ready_selections v selections w.1
      ready_expr v (Parameter a k) w = tt
      ready_expr v (Target a scalar) w = tt
      ready_expr v (Group e) w = ready_expr v e w
      ready_expr v (Unary a sign class e) w = ready_expr v e w
      ready_expr v (Binary a o class e f) w = (ready_expr v e w.0, ready_expr v f w.1)
      ready_expr v (AndThen e f) w = (ready_expr v e w.0, ready_expr v f w.1)
      ready_expr v (OrElse e f) w = (ready_expr v e w.0, ready_expr v f w.1)
      ready_expr v (Relation class comparison e f) w = (ready_expr v e w.0, ready_expr v f w.1)
      ready_expr v (Membership class negated e low high) w = (ready_expr v e w.0, ready_expr v low w.1, ready_expr v high w.2)
      ready_expr v (If condition value otherwise) w = (ready_expr v condition w.0, ready_expr v value w.1, ready_expr v otherwise w.2)
      ready_expr v (Call a callee sub actuals) (u, (k, e), w) = (function_there v sub u k e, ready_in v sub u.unit.formals (formals_are program sub u.unit u.is) u.unit.formals (λ x is. is) actuals w)
      ready_expr v (Convert check e) w = ready_expr v e w
      ready_expr v (Reduction a attribute by initial site chunk it value) w =
          let rest = iteration_rest v (with_chunk chunk v) it (λ u. ScopedExpr program shown u value) w.4 in
          (ready_by v by w.2, ready_expr v initial w.0, ready_chunk v chunk w.1, ready_iteration v (with_chunk chunk v) it (iteration_alone v (with_chunk chunk v) it (λ u. ScopedExpr program shown u value) w.4), ready_expr rest.0 value rest.1)

      ready_optional : (v : Around) (x : Optional) → ScopedOptional program shown v x → ReadyOptional program x
      ready_optional v Absent w = tt
      ready_optional v (Present e) w = ready_expr v e w

      ready_selections : (v : Around) (x : Selections) → ScopedSelections program shown v x → ReadySelections program x
      ready_selections v Whole w = tt
      ready_selections v (Field number offset rest) w = ready_selections v rest w
      ready_selections v (Index a e low high stride rest) w = (ready_expr v e w.0, ready_selections v rest w.1)

      ready_in : (v : Around) (sub : ℕ) (all : List Formal) → formals_in program sub ≡ all → (fs : List Formal) → Among fs all → (x : Actuals) → ScopedIn program shown v fs x → ReadyActuals program sub x
      ready_in v sub all e fs among NoActual w = tt
      ready_in v sub all e fs among (In x (Number check y) rest) (gs, is, w, ws) = (ready_expr v y w.1, ready_in v sub all e gs (next_among fs gs all (formal_of x mode.In) is among) rest ws)
      ready_in v sub all e fs among (In x (Cells y) rest) (gs, is, w, ws) =
          let same = composite_is program shown v (object_cells program x) y w in (
            room_there sub all x (composite_width program y) e (first_among fs gs all x is among) same,
            subst (λ n. ReadyComposite program n y) (sym same) (ready_composite v (object_cells program x) y w),
            ready_in v sub all e gs (next_among fs gs all (formal_of x mode.In) is among) rest ws,
          )
      ready_in v sub all e fs among (InOut x a r selections inner outer rest) w = absurd w
      ready_in v sub all e fs among (Out x a r selections inner outer rest) w = absurd w
      ready_in v sub all e fs among (CompositeInOut x a r selections subtype rest) w = absurd w
      ready_in v sub all e fs among (CompositeOut x a r selections subtype rest) w = absurd w

      ready_value : (v : Around) (n : ℕ) (x : Value) → ScopedValue program shown v n x → ReadyValue program n x
      ready_value v n (Number check e) w = ready_expr v e w.1
      ready_value v n (Cells x) w = ready_composite v n x w

      ready_composite : (v : Around) (n : ℕ) (x : Composite) → ScopedComposite program shown v n x → ReadyComposite program n x
      ready_composite v n (WholeVariable a r selections subtype) w = ready_selections v selections w.2
      ready_composite v n (WholeConstant a r selections subtype) w = ready_selections v selections w.2
      ready_composite v n (WholeTarget a subtype) w = tt
      ready_composite v n (CompositeIf condition value otherwise) w = (ready_expr v condition w.0, ready_composite v n value w.1, ready_composite v n otherwise w.2)
      ready_composite v n (Aggregate a size associations) w = ready_associations v n associations w.1

      ready_associations : (v : Around) (n : ℕ) (x : Associations) → ScopedAssociations program shown v n x → ReadyAssociations program n x
      ready_associations v n NoAssociation w = tt
      ready_associations v n (Association runs iterated mentions value rest) (given, mentioned, (m, lie, w), ws) =
          let same : m ≡ width program value = sym (width_is program shown (with_index iterated v) m value w) in
          (runs_in n (width program value) runs (subst (λ m. LieWithin n m runs) same lie), subst (λ m. ReadyValue program m value) same (ready_value (with_index iterated v) m value w), ready_associations v n rest ws)

      ready_iteration : (v u : Around) (it : Iteration) → ScopedIteration program shown v u it (λ t. Unit {0}) → ReadyIteration program it
      ready_iteration v u (Range k reverse low high check filter) w = (ready_expr v low w.0, ready_expr v high w.1, ready_optional (with_parameter k u) filter w.2)
      ready_iteration v u (Components k constant a r selections count stride dimensions filter) w = (ready_selections v selections w.2, ready_optional u filter w.3)

      ready_chunk : (v : Around) (x : Chunk) → ScopedChunk program shown v x → ReadyChunk program x
      ready_chunk v NoChunk w = tt
      ready_chunk v (Count e) w = ready_expr v e w
      ready_chunk v (Each k low high check) w = (ready_expr v low w.0, ready_expr v high w.1)

    ready_actuals : (v : Around) (sub : ℕ) (all : List Formal) → formals_in program sub ≡ all → (fs : List Formal) → Among fs all → (x : Actuals) → ScopedActuals program shown v fs x → ReadyActuals program sub x
    ready_actuals v sub all e fs among NoActual w = tt
    ready_actuals v sub all e fs among (In x (Number check y) rest) (gs, is, w, ws) = (ready_expr v y w.1, ready_actuals v sub all e gs (next_among fs gs all (formal_of x mode.In) is among) rest ws)
    ready_actuals v sub all e fs among (In x (Cells y) rest) (gs, is, w, ws) =
        let same = composite_is program shown v (object_cells program x) y w in (
          room_there sub all x (composite_width program y) e (first_among fs gs all x is among) same,
          subst (λ n. ReadyComposite program n y) (sym same) (ready_composite v (object_cells program x) y w),
          ready_actuals v sub all e gs (next_among fs gs all (formal_of x mode.In) is among) rest ws,
        )
    ready_actuals v sub all e fs among (InOut x a r selections inner outer rest) (gs, is, one, seen, w, ws) = (ready_selections v selections w, ready_actuals v sub all e gs (next_among fs gs all (formal_of x mode.InOut) is among) rest ws)
    ready_actuals v sub all e fs among (Out x a r selections inner outer rest) (gs, is, one, seen, w, ws) = (ready_selections v selections w, ready_actuals v sub all e gs (next_among fs gs all (formal_of x mode.Out) is among) rest ws)
    ready_actuals v sub all e fs among (CompositeInOut x a r selections subtype rest) (gs, is, one, seen, w, ws) = (ready_selections v selections w, ready_actuals v sub all e gs (next_among fs gs all (formal_of x mode.InOut) is among) rest ws)
    ready_actuals v sub all e fs among (CompositeOut x a r selections subtype rest) (gs, is, one, seen, w, ws) = (ready_selections v selections w, ready_actuals v sub all e gs (next_among fs gs all (formal_of x mode.Out) is among) rest ws)

    ready_width : (v : Around) (n : ℕ) (x : Value) → ScopedValue program shown v n x → ReadyValue program (width program x) x
    ready_width v n x w = subst (λ m. ReadyValue program m x) (sym (width_is program shown v n x w)) (ready_value v n x w)

    ready_pieces : (v : Around) (x : Pieces) → ScopedPieces program shown v x → ReadyPieces program x
    ready_pieces v NoPiece w = tt
    ready_pieces v (Text bytes rest) w = ready_pieces v rest w
    ready_pieces v (Image class e rest) w = (ready_expr v e w.0, ready_pieces v rest w.1)
    ready_pieces v (Padded class e (Static a value literal mentions) rest) w = (ready_expr v e w.0, ready_pieces v rest w.2)
    ready_pieces v (Padded class e most rest) w = absurd w

    ready_decls : (v : Around) (x : Decls) (rest : Around → Type 0) → ScopedDecls program shown v x rest → ReadyDecls program x × ((u : Around) × rest u)
    ready_decls v NoDecl rest w = (tt, (v, w))
    ready_decls v (DeclareDefault x more) rest w = ready_decls (with_object (VariableOf x) v) more rest w.1
    ready_decls v (DeclareVariable x initial more) rest w = let (r, u) = ready_decls (with_object (VariableOf x) v) more rest w.2 in ((ready_width v (object_cells program x) initial w.1, r), u)
    ready_decls v (DeclareConstant x initial more) rest w = let (r, u) = ready_decls (with_object (ConstantOf x) v) more rest w.2 in ((ready_width v (object_cells program x) initial w.1, r), u)
    ready_decls v (Mentions es more) rest w = ready_decls v more rest w.1

    mutual
      ready_stmt : (v : Around) (x : Stmt) → ScopedStmt program shown v x → ReadyStmt program x
      ready_stmt v Null w = tt
      ready_stmt v (Assign a r selections value) w = (ready_selections v selections w.1, ready_width (with_target w.2.0 v) w.2.0 value w.2.1)
      ready_stmt v (CallProcedure a callee sub actuals) (u, none, w) = ((u.unit, u.is, ap has_result none), ready_actuals v sub u.unit.formals (formals_are program sub u.unit u.is) u.unit.formals (λ x is. is) actuals w)
      ready_stmt v (Exit loop condition) w = ready_optional v condition w
      ready_stmt v Return w = tt
      ready_stmt v (ReturnValue (Number check e)) w = ready_expr v e w
      ready_stmt v (ReturnValue (Cells x)) w = absurd w
      ready_stmt v (Raise reason) w = tt
      ready_stmt v Reraise w = tt
      ready_stmt v (IfThen condition stmts otherwise) w = (ready_expr v condition w.0, ready_all v stmts w.1, ready_all v otherwise w.2)
      ready_stmt v (Case e alternatives) w = (ready_expr v e w.0, ready_alternatives v alternatives w.1)
      ready_stmt v (Loop number condition stmts) w = (ready_optional v condition w.0, ready_all v stmts w.1)
      ready_stmt v (For number it stmts) w = let rest = iteration_rest v v it (λ u. ScopedAll program shown u stmts) w in (ready_iteration v v it (iteration_alone v v it (λ u. ScopedAll program shown u stmts) w), ready_all rest.0 stmts rest.1)
      ready_stmt v (ParallelFor number site chunk it stmts) w =
          let rest = iteration_rest v (with_chunk chunk v) it (λ u. ScopedAll program shown u stmts) w.2 in
          (ready_chunk v chunk w.0, ready_iteration v (with_chunk chunk v) it (iteration_alone v (with_chunk chunk v) it (λ u. ScopedAll program shown u stmts) w.2), ready_all rest.0 stmts rest.1)
      ready_stmt v (Parallel site count arms) w = (ready_optional v count w.0, ready_arms v arms w.3)
      ready_stmt v (Block decls stmts handlers) w =
          let (r, u) = ready_decls v decls (λ u. ScopedAll program shown u stmts × ScopedHandlers program shown (handling u) handlers) w in
          (r, ready_all u.0 stmts u.1.0, ready_handlers (handling u.0) handlers u.1.1)
      ready_stmt v (Put a callee pieces line) w = ready_pieces v pieces w
      ready_stmt v (Get a callee first r selections scalar) w = ready_selections v selections w.1

      ready_all : (v : Around) (x : Stmts) → ScopedAll program shown v x → ReadyAll program x
      ready_all v End w = tt
      ready_all v (Then first more) w = (ready_stmt v first w.0, ready_all v more w.1)

      ready_alternatives : (v : Around) (x : Alternatives) → ScopedAlternatives program shown v x → ReadyAlternatives program x
      ready_alternatives v NoAlternative w = tt
      ready_alternatives v (Alternative others choices mentions stmts rest) w = (ready_all v stmts w.2, ready_alternatives v rest w.3)

      ready_arms : (v : Around) (x : Arms) → ScopedArms program shown v x → ReadyArms program x
      ready_arms v NoArm w = tt
      ready_arms v (Arm stmts rest) w = (ready_all v stmts w.0, ready_arms v rest w.1)

      ready_handlers : (v : Around) (x : Handlers) → ScopedHandlers program shown v x → ReadyHandlers program x
      ready_handlers v NoHandler w = tt
      ready_handlers v (Handler handled stmts rest) w = (ready_all v stmts w.1, ready_handlers v rest w.2)

    ready_main : (v : Around) (x : Decls) (rest : Around → Type 0) → ScopedMain program shown v x rest → ReadyDecls program x × ((u : Around) × rest u)
    ready_main v NoDecl rest w = (tt, (v, w))
    ready_main v (DeclareDefault x more) rest w = ready_main (with_outer (VariableOf x) v) more rest w.1
    ready_main v (DeclareVariable x initial more) rest w = let (r, u) = ready_main (with_outer (VariableOf x) v) more rest w.2 in ((ready_width v (object_cells program x) initial w.1, r), u)
    ready_main v (DeclareConstant x initial more) rest w = let (r, u) = ready_main (with_outer (ConstantOf x) v) more rest w.2 in ((ready_width v (object_cells program x) initial w.1, r), u)
    ready_main v (Mentions es more) rest w = ready_main v more rest w.1

    ready_subs : (us : List Sub) → ((k : ℕ) (unit : Sub) → sub_at us k ≡ Some unit → (v : Around) × ScopedStmt program shown v (Block unit.body.decls unit.body.stmts unit.body.handlers)) → ReadySubs program us
    ready_subs [] w = tt
    ready_subs (unit ∷ us) w = let (v, b) = w 0 unit refl in (ready_stmt v (Block unit.body.decls unit.body.stmts unit.body.handlers) b, ready_subs us (λ k u e. w (suc k) u e))

    -- programs in scope are ready
    pub scoped_ready : IsScoped program shown → IsReady program
    scoped_ready w =
        let (r, u) = ready_main outset program.body.decls _ w.main in
        ((r, ready_all u.0 program.body.stmts u.1.0, ready_handlers (handling u.0) program.body.handlers u.1.1), ready_subs program.subs (λ k unit e. (_, w.subs k unit e)))
