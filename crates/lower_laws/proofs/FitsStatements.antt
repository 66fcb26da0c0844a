-- Statements that are formed and in scope fit their code.
use Rattle.std.proofs.Common.{◌≡◌, ℕ, zero, suc, ◌+◌, ◌<◌, ◌≤◌, List, [], ◌∷◌, length, nat_eq, slice_get, Option, Some, None, Bool, true, false, cond, ◌⊎◌, inl, inr, ⊎_elim, refl, sym, ap, ◌∙◌, subst, true≢false, arith, eq-eqb}
use Rattle.std.specs.Prelude.{not, ◌&&◌}
use Rattle.std.proofs.Math.Nat.{le-max_left}
use Rattle.behaviours.specs.Paths.{Entity, VariableOf, ConstantOf}
use Rattle.typed_tree.specs.declared.program.Formal.{Formal}
use Rattle.typed_tree.specs.declared.program.Object.{Object}
use Rattle.typed_tree.specs.declared.scalars.Check.{Check}
use Rattle.typed_tree.specs.Syntax.{Expr, Static, Optional, Absent, Present, Selections, Whole, Field, Index, Actuals, NoActual, In, InOut, Out, CompositeInOut, CompositeOut, Value, Number, Cells, Composite, WholeVariable, WholeConstant, WholeTarget, CompositeIf, Aggregate, Iteration, Range, Components, Chunk, Pieces, NoPiece, Text, Image, Padded, Decls, NoDecl, DeclareDefault, DeclareVariable, DeclareConstant, Mentions, Stmt, Null, Assign, CallProcedure, Exit, Return, ReturnValue, Raise, Reraise, IfThen, Case, Loop, For, ParallelFor, Parallel, Block, Put, Get, Stmts, End, Then, Alternatives, NoAlternative, Alternative, Arms, NoArm, Arm, Others, Reasons, Handlers, NoHandler, Handler, Sub, Program}
use Rattle.ada_meaning.specs.Meaning.{object_layout, sub_at}
use Rattle.ada_meaning.specs.Shapes as shape
use Rattle.ada_meaning.specs.Shapes.{IsGrounded, size}
use Rattle.ada_meaning.specs.Formed as formed
use Rattle.ada_meaning.specs.Formed.{FormedActuals, FormedAll, FormedAlternatives, FormedArms, FormedOptional, FormedDecls, FormedExpr, FormedHandlers, FormedPieces, FormedStmt, Known, Selects, with_aim}
use Rattle.stack_code.specs.declared.code.Around as body
use Rattle.stack_code.specs.declared.code.Around.TheVariants.{Site}
use Rattle.stack_code.specs.declared.code.Code.{Code}
use Rattle.stack_code.specs.declared.code.CodeSite.{CodeSite}
use Rattle.stack_code.specs.declared.code.SiteKind.{SiteKind}
use Rattle.stack_code.specs.declared.instr.Instr.TheVariants as instr
use Rattle.lower_emission.specs.Emits.{Emit}
use Rattle.lower_emission.specs.Scope as scope
use Rattle.lower_emission.specs.Scope.{address_of, keep, one, ◌⨟◌}
use Rattle.ada_lower.specs.Sights as sights
use Rattle.ada_lower.specs.Sights.{AllKnown, Amid, Named, Scope, Sight, item_sight, nested_sight, object_here, own, passing, range_sight, taking, thread_sight, turn_sight, with_entry, with_exit, with_handled, with_outside, with_target}
use Rattle.ada_lower.specs.Emission.{Shape, all, arm_codes, arms_code, assigned, cases, checked, cells_of, chunk_by, chunk_code, chunk_scope, composite_width, declared, defaulted, defaults_within, emit, formals_in, handling, is_whole, passed, piece_values, selected, shapes, shapes_cells, stmt, subtype_or_none, width, store_checked}
use Rattle.ada_lower.specs.Defaults.{NoneEmpty}
use Rattle.typed_tree.specs.declared.program.Mode.TheVariants as mode
use Rattle.ada_lower.specs.Fitted.{Spot, spot, spots, FittedActuals, FittedAll, FittedAlternatives, FittedDecls, FittedHandlers, FittedPieces, FittedStmt, FittedTarget}
use Rattle.ada_lower.specs.FittedForks.{FittedArms, FittedCount, FittedForks, FittedReductions}
use Rattle.typed_scopes.specs.Outs.{OutAll, OutArms, OutCases, OutHandlers, OutStmt}
use Rattle.ada_lower.proofs.Grounded.{objects_filled}
use Rattle.typed_scopes.specs.Scopes as scopes
use Rattle.typed_scopes.specs.Scopes.{Without, Around, ScopedActuals, ScopedAll, ScopedAlternatives, ScopedArms, ScopedComposite, ScopedDecls, ScopedExpr, ScopedHandlers, ScopedOptional, ScopedPieces, ScopedStmt, ScopedValue, with_chunk, with_object, with_parameter}
use Rattle.lower_laws.proofs.Tables.{HasSite, TabledActuals, TabledAll, TabledExpr, TabledAlternatives, TabledArms, TabledDecls, TabledHandlers, TabledOptional, TabledPieces, TabledStmt}
use Rattle.lower_laws.specs.Rooms.{Roomy}
use Rattle.lower_laws.proofs.Exits.{Every, all_more, arms_more, gather_all, gather_arms, handlers_more}
use Rattle.lower_laws.proofs.FitsValues.{callable, composite_is, fits, fits_chunk, fits_composite, fits_selections, fits_value, filtered_body, fits_optional, item_turn_sees, passing_free, room_where, sited, thread_room, turn_sees, width_is}
use Rattle.lower_laws.proofs.Formals.{AreApart, AreFound, AreOf, all_found, formals_are, none_of, spots_of, taken}
use Rattle.lower_laws.proofs.Room.{composed_room, defaults_room, passed_room, pieces_room, put_room, send_room}
use Rattle.lower_laws.proofs.Sees.{Sees, layout_at, object_size, sees_aimed, sees_entry, sees_exit, sees_handled, sees_nested, sees_object, sees_outside, sees_range, sees_taking, sees_target, sees_thread, variable_seen}
use Rattle.lower_laws.proofs.Walks.{kept, positive, reached_variable, through}
use Rattle.lower_laws.proofs.Reaching.{reaches}

-- ---- exits

known_exit : (i : Sight) (number to n : ℕ) → (n ≡ number) ⊎ sights.Known i n → sights.Known (with_exit number to i) n
known_exit i number to n h = go (nat_eq number n) refl h
  where
    go : (b : Bool) → nat_eq number n ≡ b → (n ≡ number) ⊎ sights.Known i n → ((at : ℕ) × (cond b (Some to) (i.scope.exits n) ≡ Some at)) ⊎ ((cond b (Some to) (i.scope.exits n) ≡ None) × Amid n i.outside)
    go true e h = inl (to, refl)
    go false e (inl same) = absurd (true≢false (sym (eq-eqb number n (sym same)) ∙ e))
    go false e (inr k) = k

chunk_exits : (chunk : Chunk) (s : Scope) (n : ℕ) → (chunk_scope chunk s).exits n ≡ s.exits n
chunk_exits Rattle.typed_tree.specs.Syntax.NoChunk s n = refl
chunk_exits (Rattle.typed_tree.specs.Syntax.Count e) s n = refl
chunk_exits (Rattle.typed_tree.specs.Syntax.Each k low high check) s n = refl

all_known : (i : Sight) (ns : List ℕ) → Every (sights.Known i) ns → AllKnown i ns
all_known i [] h = tt
all_known i (n ∷ ns) h = (h.0, all_known i ns h.1)

-- a composite has at least as many cells as what is stored of it
width_less : (program : Program) (x : Value) → width program x ≤ formed.width program.subtypes x
width_less program (Number check e) = omega arith
width_less program (Cells c) = go c
  where
    go : (c : Composite) → composite_width program c ≤ formed.composite_width program.subtypes c
    go (WholeVariable at r x subtype) = omega arith
    go (WholeConstant at r x subtype) = omega arith
    go (WholeTarget at subtype) = omega arith
    go (CompositeIf condition value otherwise) = let z = le-max_left (formed.composite_width program.subtypes value) (formed.composite_width program.subtypes otherwise) in let y = go value in omega (arith, y, z)
    go (Aggregate at size associations) = omega arith

module _ (program : Program) (globals : ℕ → Entity → Option Named) (mains : Entity → Bool) (c : Code) (T : List ℕ → Type 0) (frames : ℕ → ℕ) (room : body.Around → ℕ)
    (threads : (n : ℕ) → room (Site n) ≡ frames n) (apart : (k : ℕ) (unit : Sub) → sub_at program.subs k ≡ Some unit → AreApart (shapes program unit.formals))
    (names : Entity → Option Named) (shown : ℕ → Entity → Bool) (shows : (sub : ℕ) (y : Entity) (n : Named) → globals sub y ≡ Some n → (shown sub y ≡ true) × (names y ≡ Some n))
    (lent : Bool → Sight → ℕ → CodeSite → Type 0) (give : (items : Bool) (s : Sight) (site : ℕ) (of : SiteKind) (row : HasSite c frames site of s.scope.body) → lent items s site row.row)
    (grounded : IsGrounded program.subtypes) (filled : NoneEmpty program.subtypes) where
  abbrev pub S' : Known → Around → Sight → Type 0
  S' = Sees program names mains T frames room

  abbrev pub Fold : ℕ → Sight → Expr → Type 0
  Fold n = FittedReductions program globals mains lent c n

  abbrev pub Fork : ℕ → Sight → Stmt → Type 0
  Fork n = FittedForks program globals mains lent c n

  abbrev pub Row : ℕ → SiteKind → body.Around → Type 0
  Row = HasSite c frames

  abbrev pub R' : Emit → Type 0
  R' = Roomy Row room

  -- ---- assignments

  abbrev through_at : Sight → Named
  through_at i = record { through = true; place = own i.scope.free; cells = 1 }

  -- the code of an assignment to what is named: where the target is whole and here, and where its address is kept
  abbrev directly : Sight → Named → Check → Expr → Emit
  directly i o check e = emit program (with_target o i).scope 0 e ⨟ store_checked i.scope check.scalar o.place.level o.place.cell

  abbrev by_address : Sight → Named → Emit → Check → Expr → Emit
  by_address i o moved check e =
      one i.scope 0 (address_of o) ⨟ moved ⨟ one i.scope 1 instr.Dup ⨟ keep i.scope (1 + 1) i.scope.free
      ⨟ emit program (with_target (through_at i) (taking 1 i)).scope 1 e ⨟ checked i.scope (1 + 1) check.scalar ⨟ one i.scope (1 + 1) instr.Store

  moved_room : (i : Sight) (o : Named) (check : Check) (e : Expr) (x : Selections) (b : Bool) → R' (cond (is_whole x && b) (directly i o check e) (by_address i o (selected program i.scope 1 x) check e)) → R' (selected program i.scope 1 x)
  unfolding selected
  moved_room i o check e Whole b m = tt
  moved_room i o check e (Field number offset rest) b m = m.1.0
  moved_room i o check e (Index at index low high stride rest) b m = m.1.0

  whole_cells : (x : Selections) (t u : shape.Shape) (cells : ℕ) (b : Bool) → Selects x t u → 1 ≤ size u → size t ≤ cells → (is_whole x && b) ≡ true → 1 ≤ cells
  whole_cells Whole t u cells b selects one le e = let z : size u ≡ size t = ap size selects in omega (arith, z, one, le)
  whole_cells (Field number offset rest) t u cells b selects one le e = absurd (let z : false ≡ true = e in cc)
  whole_cells (Index at index low high stride rest) t u cells b selects one le e = absurd (let z : false ≡ true = e in cc)

  target_fits : (n : ℕ) (i : Sight) (w : Known) (v : Around) (o : Named) (moved : Emit) (check : Check) (e : Expr) (b : Bool) → S' w v i → (b ≡ true → 1 ≤ o.cells) → FormedExpr program w e → ScopedExpr program shown (scopes.with_target 1 v) e → TabledExpr T n e
      → R' (cond b (directly i o check e) (by_address i o moved check e)) → FittedTarget program globals mains (Fold n) i b o e
  target_fits n i w v o moved check e true k one f p t m =
      fits program globals mains c T frames room threads apart names shown shows lent give n (with_target o i) w (scopes.with_target 1 v) 0 e (sees_target program names mains T frames room 1 o (one refl) k) f p t m.0
  target_fits n i w v o moved check e false k one f p t m =
      let lt = kept i.scope.free i.scope.free (room i.scope.body) i.cells m.1.1.1.0 k.enough in (
        lt,
        fits program globals mains c T frames room threads apart names shown shows lent give n (with_target (through_at i) (taking 1 i)) w (scopes.with_target 1 v) 1 e
            (sees_target program names mains T frames room 1 (through_at i) (omega arith) (sees_taking program names mains T frames room 1 (omega (arith, lt)) k)) f p t m.1.1.1.1.0,
      )

  -- ---- calls of procedures

  fits_actuals : (n : ℕ) (i : Sight) (w : Known) (v : Around) (sub base : ℕ) (fs : List Formal) (ks : List Spot) (x : Actuals) → S' w v i → FormedActuals program w x → ScopedActuals program shown v fs x → TabledActuals T n x → R' (passed program i.scope 0 sub base x)
      → AreOf (shapes program fs) ks → AreFound (shapes program (formals_in program sub)) base ks → FittedActuals program globals mains (Fold n) i sub base ks x
  unfolding emit
  fits_actuals n i w v sub base fs ks NoActual k f p t m of found = none_of ks (subst (λ fs. AreOf (shapes program fs) ks) p of)
  fits_actuals n i w v sub base fs ks (In x value rest) k f p t m of found =
      let (gs, wo, pe, pr) = p in
      let cells = scopes.object_cells program x in
      let y = taken program (shapes program (formals_in program sub)) base (scopes.formal_of x mode.In) fs gs ks wo of found in (
        y.at,
        cells,
        y.rest,
        y.without,
        y.cell,
        fits_value program globals mains c T frames room threads apart names shown shows lent give n i w v 0 _ cells value k f.0 pe t.0 m.0,
        fits_actuals n i w v sub base gs y.rest rest k f.1 pr t.1 m.1 y.of y.found,
      )
  fits_actuals n i w v sub base fs ks (InOut x at r sel inner outer rest) k f p t m of found =
      let (gs, wo, one, seen, ps, pr) = p in
      let y = taken program (shapes program (formals_in program sub)) base (scopes.formal_of x mode.InOut) fs gs ks wo of found in (
        y.at,
        y.rest,
        subst (λ cells. Without (spot (VariableOf x) true cells y.at) ks y.rest) one y.without,
        y.cell,
        reached_variable program names mains T frames room r sel 1 k f.0 seen,
        fits_selections program globals mains c T frames room threads apart names shown shows lent give n i w v 1 sel k f.1 ps t.0 m.0.1.0,
        fits_actuals n i w v sub base gs y.rest rest k f.2 pr t.1 m.1 y.of y.found,
      )
  fits_actuals n i w v sub base fs ks (Out x at r sel inner outer rest) k f p t m of found =
      let (gs, wo, one, seen, ps, pr) = p in
      let y = taken program (shapes program (formals_in program sub)) base (scopes.formal_of x mode.Out) fs gs ks wo of found in (
        y.at,
        y.rest,
        subst (λ cells. Without (spot (VariableOf x) true cells y.at) ks y.rest) one y.without,
        y.cell,
        reached_variable program names mains T frames room r sel 1 k f.0 seen,
        fits_selections program globals mains c T frames room threads apart names shown shows lent give n i w v 1 sel k f.1 ps t.0 m.0.1.0,
        fits_actuals n i w v sub base gs y.rest rest k f.2 pr t.1 m.1 y.of y.found,
      )
  fits_actuals n i w v sub base fs ks (CompositeInOut x at r sel subtype rest) k f p t m of found =
      let (gs, wo, many, seen, ps, pr) = p in
      let y = taken program (shapes program (formals_in program sub)) base (scopes.formal_of x mode.InOut) fs gs ks wo of found in (
        y.at,
        y.rest,
        subst (λ cells. Without (spot (VariableOf x) true cells y.at) ks y.rest) many y.without,
        y.cell,
        reached_variable program names mains T frames room r sel (cells_of program subtype) k f.0 seen,
        fits_selections program globals mains c T frames room threads apart names shown shows lent give n i w v (0 + 1 + 1) sel k f.1 ps t.0 m.0.1.1.0,
        fits_actuals n i w v sub base gs y.rest rest k f.2 pr t.1 m.1 y.of y.found,
      )
  fits_actuals n i w v sub base fs ks (CompositeOut x at r sel subtype rest) k f p t m of found =
      let (gs, wo, many, seen, ps, pr) = p in
      let y = taken program (shapes program (formals_in program sub)) base (scopes.formal_of x mode.Out) fs gs ks wo of found in (
        y.at,
        y.rest,
        subst (λ cells. Without (spot (VariableOf x) true cells y.at) ks y.rest) many y.without,
        y.cell,
        reached_variable program names mains T frames room r sel (cells_of program subtype) k f.0 seen,
        fits_selections program globals mains c T frames room threads apart names shown shows lent give n i w v (0 + 1 + 1) sel k f.1 ps t.0 m.0.1.1.0,
        fits_actuals n i w v sub base gs y.rest rest k f.2 pr t.1 m.1 y.of y.found,
      )

  -- ---- output

  fits_pieces : (n : ℕ) (i : Sight) (w : Known) (v : Around) (x : Pieces) → S' w v i → FormedPieces program w x → ScopedPieces program shown v x → TabledPieces T n x → R' (piece_values program i.scope x) → FittedPieces program globals mains (Fold n) i x
  unfolding piece_values
  fits_pieces n i w v NoPiece k f p t m = tt
  fits_pieces n i w v (Text bytes rest) k f p t m = (k.text bytes t.0, fits_pieces n i w v rest k f p t.1 m)
  fits_pieces n i w v (Image class e rest) k f p t m =
      let lt = kept i.scope.free i.scope.free (room i.scope.body) i.cells m.1.0 k.enough in
      (fits program globals mains c T frames room threads apart names shown shows lent give n i w v 0 e k f.1 p.0 t.0 m.0, fits_pieces n (taking 1 i) w v rest (sees_taking program names mains T frames room 1 (omega (arith, lt)) k) f.2 p.1 t.1 m.1.1)
  fits_pieces n i w v (Padded class e (Static at value literal mentions) rest) k f p t m =
      let lt = kept i.scope.free i.scope.free (room i.scope.body) i.cells m.1.0 k.enough in
      (fits program globals mains c T frames room threads apart names shown shows lent give n i w v 0 e k f.1 p.0 t.0 m.0, fits_pieces n (taking 1 i) w v rest (sees_taking program names mains T frames room 1 (omega (arith, lt)) k) f.3 p.2 t.1 m.1.1)
  fits_pieces n i w v (Padded class e most rest) k f p t m = absurd p

  -- ---- declarations

  default_room : (s : Scope) (t x : ℕ) (n : ℕ) → R' (defaulted program s t x) → length (object_layout program x) ≡ suc n → s.free + length (object_layout program x) ≤ room s.body
  default_room s t x n m e = go (slice_get program.objects x) refl
    where
      go : (o : Option Object) → slice_get program.objects x ≡ o → s.free + length (object_layout program x) ≤ room s.body
      go None is = absurd (let z : length (object_layout program x) ≡ 0 = ap (λ o. length (layout_at program o)) is in omega (arith, z, e))
      go (Some o) is =
          let number : subtype_or_none program (slice_get program.objects x) ≡ o.subtype = ap (subtype_or_none program) is in
          defaults_room program Row room (scope.taking (length (object_layout program x)) s) (length program.subtypes) t o.subtype n
          (subst (λ k. R' (defaults_within program (scope.taking (length (object_layout program x)) s) (length program.subtypes) t k)) number m)
          (sym (ap (λ o. length (layout_at program o)) is) ∙ e)

  -- an object without an initial value has its cells in the frame
  pub default_fits : (s : Scope) (to x l : ℕ) → length (object_layout program x) ≡ l → R' (defaulted program s to x) → (cells : ℕ) → s.free ≤ cells → room s.body ≤ cells → s.free + l ≤ cells
  default_fits s to x zero e m cells free enough = omega (arith, free)
  default_fits s to x (suc l) e m cells free enough = let z = default_room s to x l m e in omega (arith, z, e, enough)

  fits_decls : (n : ℕ) (decls : Decls) (i : Sight) (w : Known) (v : Around) (rest : Scope → Emit) (goal : Sight → Type 0) (does : Around → Type 0) → S' w v i → FormedDecls program w decls → ScopedDecls program shown v decls does → TabledDecls T n decls → R' (declared program i.scope decls rest)
      → ((j : Sight) (u : Around) → S' w u j → does u → R' (rest j.scope) → ((m : ℕ) → sights.Known i m → sights.Known j m) → goal j) → FittedDecls program globals mains (Fold n) i decls goal
  fits_decls n NoDecl i w v rest goal does k f p t m next = next i v k p m (λ j h. h)
  fits_decls n (DeclareDefault x more) i w v rest goal does k f p t m next =
      let len = length (object_layout program x) in
      let size' = object_size program x in
      let fit : i.scope.free + len ≤ i.cells = default_fits i.scope i.scope.free x (length (object_layout program x)) refl m.0 i.cells k.free k.enough in (
        k.taken (VariableOf x) p.0,
        fit,
        objects_filled program grounded filled x,
        fits_decls n more (object_here i (VariableOf x) len) w (with_object (VariableOf x) v) rest goal does (sees_object program names mains T frames room (VariableOf x) len fit (omega (arith, size')) k) f p.1 t m.1 next,
      )
  fits_decls n (DeclareVariable x initial more) i w v rest goal does k f p t m next =
      let size' = object_size program x in
      let wide = width_is program shown v (scopes.object_cells program x) initial p.1 in
      let le = put_room program Row room (taking (width program initial) i).scope 0 i.scope.free initial m.0 in
      let enough = k.enough in
      let fit : i.scope.free + width program initial ≤ i.cells = omega (arith, le, enough) in (
        k.taken (VariableOf x) p.0,
        fit,
        fits_value program globals mains c T frames room threads apart names shown shows lent give n (taking (width program initial) i) w v 0 i.scope.free (width program initial) initial (sees_taking program names mains T frames room (width program initial) fit k) f.0 (subst (λ n. ScopedValue program shown v n initial) (sym wide) p.1) t.0 m.0,
        fits_decls n more (object_here i (VariableOf x) (width program initial)) w (with_object (VariableOf x) v) rest goal does (sees_object program names mains T frames room (VariableOf x) (width program initial) fit (omega (arith, size', wide)) k) f.1 p.2 t.1 m.1 next,
      )
  fits_decls n (DeclareConstant x initial more) i w v rest goal does k f p t m next =
      let size' = object_size program x in
      let wide = width_is program shown v (scopes.object_cells program x) initial p.1 in
      let le = put_room program Row room (taking (width program initial) i).scope 0 i.scope.free initial m.0 in
      let enough = k.enough in
      let fit : i.scope.free + width program initial ≤ i.cells = omega (arith, le, enough) in (
        k.taken (ConstantOf x) p.0,
        fit,
        fits_value program globals mains c T frames room threads apart names shown shows lent give n (taking (width program initial) i) w v 0 i.scope.free (width program initial) initial (sees_taking program names mains T frames room (width program initial) fit k) f.0 (subst (λ n. ScopedValue program shown v n initial) (sym wide) p.1) t.0 m.0,
        fits_decls n more (object_here i (ConstantOf x) (width program initial)) w (with_object (ConstantOf x) v) rest goal does (sees_object program names mains T frames room (ConstantOf x) (width program initial) fit (omega (arith, size', wide)) k) f.1 p.2 t.1 m.1 next,
      )
  fits_decls n (Mentions es more) i w v rest goal does k f p t m next = fits_decls n more i w v rest goal does k f.1 p.1 t m next

  -- ---- statements

  -- an exit's loop is around, or it is one of those that the construct is left by
  abbrev Outs : Sight → Stmt → Type 0
  Outs i t = OutStmt (sights.Known i) t

  turn_known : (i : Sight) (site cells : ℕ) (chunk : Chunk) (it : Iteration) (number : ℕ) (loops : List ℕ) (m : ℕ) → (m ≡ number) ⊎ Amid m loops → sights.Known (with_outside (number ∷ loops) (turn_sight (thread_sight site cells i) chunk it)) m
  turn_known i site cells chunk (Range p reverse low high check filter) number loops m h = inr (chunk_exits chunk _ m, h)
  turn_known i site cells chunk (Components p constant at r x many stride dimensions filter) number loops m h = inr (chunk_exits chunk _ m, h)

  fits_count : (n : ℕ) (i : Sight) (w : Known) (v : Around) (count : Optional) → S' w v i → FormedOptional program w count → ScopedOptional program shown v count → TabledOptional T n count → R' (chunk_code program i.scope 0 (chunk_by program count)) → FittedCount program globals mains (Fold n) i count
  unfolding chunk_code
  fits_count n i w v Absent k f p t m = tt
  fits_count n i w v (Present e) k f p t m =
      let lt = kept i.scope.free i.scope.free (room i.scope.body) i.cells m.1.0 k.enough in
      fits program globals mains c T frames room threads apart names shown shows lent give n (taking 1 i) w v 0 e (sees_taking program names mains T frames room 1 (omega (arith, lt)) k) f p t m.1.1.0

  mutual
    unfolding stmt emit

    pub fits_stmt : (n : ℕ) (i : Sight) (w : Known) (v : Around) (x : Stmt) → S' w v i → FormedStmt program w x → ScopedStmt program shown v x → TabledStmt T n x → R' (stmt program i.scope x) → Outs i x → FittedStmt program globals mains (Fold n) (Fork n) i x
    fits_stmt n i w v Null k f p t m o = tt
    fits_stmt n i w v (Assign at r x (Number check e)) k f p t m o =
        let u = f.0.0 in
        let (t0, is0, selects) = f.0.1 in
        let (named, is, le) = variable_seen program names mains T frames room r t0 k is0 p.0 in
        let m' = subst (λ o. R' (assigned i.scope o (is_whole x) check.scalar (selected program i.scope 1 x) (λ t h. emit program t h e))) is m in
        let one : 1 ≤ size u = f.0.2 in (
          named,
          is,
          reaches x t0 u named.cells 1 selects le one,
          fits_selections program globals mains c T frames room threads apart names shown shows lent give n i w v 1 x k f.1 p.1 t.0 (moved_room i named check e x (not named.through) m'),
          target_fits n i (with_aim u w) v named (selected program i.scope 1 x) check e (is_whole x && not named.through) (sees_aimed program names mains T frames room u k) (whole_cells x t0 u named.cells (not named.through) selects one le) f.0.3
              (subst (λ n. ScopedExpr program shown (scopes.with_target n v) e) p.2.1.0 p.2.1.1) t.1 m',
        )
    fits_stmt n i w v (Assign at r x (Cells value)) k f p t m o =
        let u = f.0.0 in
        let wide = composite_is program shown (scopes.with_target p.2.0 v) p.2.0 value p.2.1 in
        let few = width_less program (Cells value) in
        let all = f.0.2 in
        let cells = composite_width program value in
        let lt = kept i.scope.free i.scope.free (room i.scope.body) i.cells m.1.1.0 k.enough in
        let there : Sight = taking cells (taking 1 i) in
        let aim : Named = record { through = true; place = own i.scope.free; cells = cells } in
        let le = composed_room program Row room (with_target aim there).scope 0 (i.scope.free + 1) value m.1.1.1.0 in
        let enough = k.enough in
        let fit : i.scope.free + 1 + cells ≤ i.cells = omega (arith, le, enough) in (
          reached_variable program names mains T frames room r x cells k (u, f.0.1, omega (arith, few, all)) p.0,
          fits_selections program globals mains c T frames room threads apart names shown shows lent give n i w v 1 x k f.1 p.1 t.0 m.1.0,
          fit,
          fits_composite program globals mains c T frames room threads apart names shown shows lent give n (with_target aim there) (with_aim u w) (scopes.with_target cells v) 0 (i.scope.free + 1) cells value
              (sees_target program names mains T frames room cells aim (omega arith) (sees_taking program names mains T frames room cells fit (sees_taking program names mains T frames room 1 (omega (arith, lt)) (sees_aimed program names mains T frames room u k))))
              f.0.3 (subst (λ n. ScopedComposite program shown (scopes.with_target n v) n value) (sym wide) p.2.1) t.1 m.1.1.1.0,
        )
    fits_stmt n i w v (CallProcedure at callee sub actuals) k f p t m o =
        let u = p.0 in
        let whole = passing_free program globals mains c T frames room threads apart names shown shows lent give i sub u.unit u.is in
        let le : (passing program sub i).scope.free ≤ room i.scope.body = passed_room program Row room (passing program sub i).scope 0 sub i.scope.free actuals m.0 (λ e.
        let none : u.unit.formals ≡ [] = subst (λ x. ScopedActuals program shown v u.unit.formals x) e p.2 in
        let z : i.scope.free + shapes_cells (shapes program u.unit.formals) ≡ i.scope.free + 0 = ap (λ fs. i.scope.free + shapes_cells (shapes program fs)) none in
        let y = m.1.0 in omega (arith, z, y, whole)) in
        let enough = k.enough in (
          callable program globals mains c T frames room threads apart names shown shows lent give sub k u,
          p.1,
          whole,
          omega (arith, le, enough),
          fits_actuals n (passing program sub i) w v sub i.scope.free u.unit.formals (spots 0 (shapes program u.unit.formals)) actuals (sees_taking program names mains T frames room _ (omega (arith, le, enough)) k) f.1 p.2 t m.0 (spots_of 0 (shapes program u.unit.formals))
              (subst (λ fs. AreFound (shapes program fs) i.scope.free (spots 0 (shapes program u.unit.formals))) (sym (formals_are program sub u.unit u.is)) (all_found (shapes program u.unit.formals) i.scope.free (apart sub u.unit u.is))),
        )
    fits_stmt n i w v (Exit loop Absent) k f p t m o = (o, tt)
    fits_stmt n i w v (Exit loop (Present e)) k f p t m o = (o, fits program globals mains c T frames room threads apart names shown shows lent give n i w v 0 e k f p t m.0)
    fits_stmt n i w v Return k f p t m o = tt
    fits_stmt n i w v (ReturnValue (Number check e)) k f p t m o = fits program globals mains c T frames room threads apart names shown shows lent give n i w v 0 e k f p t m.0
    fits_stmt n i w v (ReturnValue (Cells value)) k f p t m o = absurd p
    fits_stmt n i w v (Raise r) k f p t m o = tt
    fits_stmt n i w v Reraise k f p t m o = k.handled p
    fits_stmt n i w v (IfThen condition stmts End) k f p t m o =
        (fits program globals mains c T frames room threads apart names shown shows lent give n i w v 0 condition k f.0 p.0 t.0 m.0, fits_all n i w v stmts k f.1 p.1 t.1 m.1.1 o.0, tt)
    fits_stmt n i w v (IfThen condition stmts (Then first more)) k f p t m o =
        (fits program globals mains c T frames room threads apart names shown shows lent give n i w v 0 condition k f.0 p.0 t.0 m.0, fits_all n i w v stmts k f.1 p.1 t.1 m.1.1 o.0, fits_all n i w v (Then first more) k f.2 p.2 t.2 m.1.2 o.1)
    fits_stmt n i w v (Case e alternatives) k f p t m o =
        let lt = kept i.scope.free i.scope.free (room i.scope.body) i.cells m.1.0 k.enough in
        (lt, fits program globals mains c T frames room threads apart names shown shows lent give n i w v 0 e k f.0 p.0 t.0 m.0, fits_cases n (taking 1 i) w v i.scope.free alternatives (sees_taking program names mains T frames room 1 (omega (arith, lt)) k) f.1 p.1 t.1 m.1.1 o)
    fits_stmt n i w v (Loop number Absent stmts) k f p t m o =
        (tt, λ to. fits_all n (with_exit number to i) w v stmts (sees_exit program names mains T frames room number to k) f.1 p.1 t.1 (m.1 to).1 (all_more stmts (known_exit i number to) o))
    fits_stmt n i w v (Loop number (Present e) stmts) k f p t m o = (
      fits program globals mains c T frames room threads apart names shown shows lent give n i w v 0 e k f.0 p.0 t.0 (m.2 0).0,
      λ to. fits_all n (with_exit number to i) w v stmts (sees_exit program names mains T frames room number to k) f.1 p.1 t.1 (m.1 to).1 (all_more stmts (known_exit i number to) o),
    )
    fits_stmt n i w v (For number (Range p reverse low high check filter) stmts) k f q t m o =
        let lt = kept i.scope.free (i.scope.free + 1) (room i.scope.body) i.cells m.1.1.1.0 k.enough in (
          lt,
          fits program globals mains c T frames room threads apart names shown shows lent give n i w v 0 low k f.0 q.0 t.0.0 m.0,
          fits program globals mains c T frames room threads apart names shown shows lent give n (taking 1 i) w v 0 high (sees_taking program names mains T frames room 1 (omega (arith, lt)) k) f.1 q.1 t.0.1 m.1.1.0,
          λ exit.
              let there : Sight = range_sight i (Some number) p reverse exit in
              let sees : S' w (with_parameter p v) there = sees_range program names mains T frames room (Some number) p reverse exit (omega (arith, lt)) k in
              let turn = m.1.1.1.1.1.1.1.1 exit in (
                fits_optional program globals mains c T frames room threads apart names shown shows lent give n there w (with_parameter p v) 0 filter _ sees f.2 q.2 t.0.2 turn.1,
                fits_all n there w (with_parameter p v) stmts sees f.3 q.3 t.1 (filtered_body program globals mains c T frames room threads apart names shown shows lent give there.scope 0 filter _ turn.1) (all_more stmts (known_exit i number exit) o),
              ),
        )
    fits_stmt n i w v (For number (Components p constant a r x many stride dimensions filter) stmts) k f q t m o =
        let (some, seen, qs, qf, qv) = q in
        let g = through program names mains T frames room p constant a r x many stride dimensions filter (λ w. FormedAll program w stmts) f seen in
        let walk = room_where program globals mains c T frames room threads apart names shown shows lent give (nat_eq many 0) _ (positive many some) m.1 in
        let lt = kept i.scope.free (i.scope.free + 1 + 1) (room i.scope.body) i.cells walk.1.1.1.0 k.enough in (
          lt,
          g.reached i k,
          fits_selections program globals mains c T frames room threads apart names shown shows lent give n i w v (0 + 1) x k g.selections qs t.0.0 m.0.1.0,
          λ exit.
              let there : Sight = item_sight i (Some number) constant p stride exit in
              let sees : S' g.inner v there = g.item v i (Some number) exit (omega (arith, lt)) k in
              let turn = walk.1.1.1.1.1 exit in (
                fits_optional program globals mains c T frames room threads apart names shown shows lent give n there g.inner v 0 filter _ sees g.filter qf t.0.1 turn.1,
                fits_all n there g.inner v stmts sees g.does_so qv t.1 (filtered_body program globals mains c T frames room threads apart names shown shows lent give there.scope 0 filter _ turn.1) (all_more stmts (known_exit i number exit) o),
              ),
        )
    fits_stmt zero i w v (ParallelFor number site chunk iteration stmts) k f p t m o = absurd t
    fits_stmt (suc n) i w v (ParallelFor number site chunk (Range p true low high check filter) stmts) k f q t m o = absurd (let z : true ≡ false = q.1 in cc)
    fits_stmt (suc n) i w v (ParallelFor number site chunk (Range p false low high check filter) stmts) k f q t m o =
        let (ql, qh, qf, qv) = q.2 in
        let row = m.1.1.1.1.0.1.1.1.0.1 in
        let enough = row.enough in
        let lt = kept (i.scope.free + 2 + 2) (i.scope.free + 2 + 2 + 1) (room i.scope.body) i.cells m.1.1.1.1.1.1.1.0 k.enough in
        let k1 = sees_nested program names mains T frames room k in
        let k2 = sees_taking program names mains T frames room 2 (omega (arith, lt)) k1 in
        let k3 = sees_taking program names mains T frames room 1 (omega (arith, lt)) k2 in
        let gathered = gather_all (λ n. n ≡ number) (sights.Known i) stmts o in
        let there : Sight = turn_sight (thread_sight site row.row.frame (taking 2 (taking 2 i))) chunk (Range p false low high check filter) in
        let sees : S' w (with_parameter p (with_chunk chunk v)) there = turn_sees program globals mains c T frames room threads apart names shown shows lent give site row.row.frame chunk p low high check filter (thread_room program globals mains c T frames room threads apart names shown shows lent give site row) (omega (arith, enough)) k in
        let turn = m.1.1.1.1.0.1.1.1.1.1.0.1.1.1 0 in (
          row.row,
          (row.is, sited program globals mains c T frames room threads apart names shown shows lent give i k site row, omega (arith, enough), row.entry),
          give false i site _ row,
          row.kind,
          omega (arith, lt),
          fits_chunk program globals mains c T frames room threads apart names shown shows lent give n (nested_sight i) w v 0 chunk k1 f.0 q.0 t.0 m.1.0,
          fits program globals mains c T frames room threads apart names shown shows lent give n (taking 2 (nested_sight i)) w v 0 low k2 f.1.0 ql t.1.0 m.1.1.0.0,
          fits program globals mains c T frames room threads apart names shown shows lent give n (taking 1 (taking 2 (nested_sight i))) w v 0 high k3 f.1.1 qh t.1.1 m.1.1.0.1.1.0,
          gathered.loops,
          gathered.among,
          all_known i gathered.loops gathered.every,
          gathered.outs,
          fits_optional program globals mains c T frames room threads apart names shown shows lent give n there w (with_parameter p (with_chunk chunk v)) 0 filter _ sees f.1.2 qf t.1.2 turn.1,
          fits_all n (with_outside (number ∷ gathered.loops) there) w (with_parameter p (with_chunk chunk v)) stmts (sees_outside program names mains T frames room (number ∷ gathered.loops) sees) f.1.3 qv t.2 (filtered_body program globals mains c T frames room threads apart names shown shows lent give there.scope 0 filter _ turn.1)
              (all_more stmts (turn_known (taking 2 (taking 2 i)) site row.row.frame chunk (Range p false low high check filter) number gathered.loops) gathered.outs),
        )
    fits_stmt (suc n) i w v (ParallelFor number site chunk (Components p constant a r x many stride dimensions filter) stmts) k f q t m o =
        let (some, seen, qs, qf, qv) = q.2 in
        let row = m.1.1.1.1.0.1.1.1.0.1 in
        let enough = row.enough in
        let g = through program names mains T frames room p constant a r x many stride dimensions filter (λ w. FormedAll program w stmts) f.1 seen in
        let lt = kept (i.scope.free + 2 + 2) (i.scope.free + 2 + 2 + 1) (room i.scope.body) i.cells m.1.1.1.1.1.1.1.0 k.enough in
        let k1 = sees_nested program names mains T frames room k in
        let k2 = sees_taking program names mains T frames room 2 (omega (arith, lt)) k1 in
        let gathered = gather_all (λ n. n ≡ number) (sights.Known i) stmts o in
        let there : Sight = turn_sight (thread_sight site row.row.frame (taking 2 (taking 2 i))) chunk (Components p constant a r x many stride dimensions filter) in
        let sees : S' g.inner (with_chunk chunk v) there =
        item_turn_sees program globals mains c T frames room threads apart names shown shows lent give site row.row.frame chunk p constant a r x many stride dimensions filter (λ w. FormedAll program w stmts) g (thread_room program globals mains c T frames room threads apart names shown shows lent give site row) enough k in
        let turn = m.1.1.1.1.0.1.1.1.1.1.0.1.1.1.1.1.1.1 0 in (
          row.row,
          (row.is, sited program globals mains c T frames room threads apart names shown shows lent give i k site row, omega (arith, enough), row.entry),
          give true i site _ row,
          enough,
          row.kind,
          omega (arith, lt),
          fits_chunk program globals mains c T frames room threads apart names shown shows lent give n (nested_sight i) w v 0 chunk k1 f.0 q.0 t.0 m.1.0,
          g.reached (taking 2 (nested_sight i)) k2,
          fits_selections program globals mains c T frames room threads apart names shown shows lent give n (taking 2 (nested_sight i)) w v (0 + 1) x k2 g.selections qs t.1.0 m.1.1.0.1.0,
          gathered.loops,
          gathered.among,
          all_known i gathered.loops gathered.every,
          gathered.outs,
          fits_optional program globals mains c T frames room threads apart names shown shows lent give n there g.inner (with_chunk chunk v) 0 filter _ sees g.filter qf t.1.1 turn.1,
          fits_all n (with_outside (number ∷ gathered.loops) there) g.inner (with_chunk chunk v) stmts (sees_outside program names mains T frames room (number ∷ gathered.loops) sees) g.does_so qv t.2 (filtered_body program globals mains c T frames room threads apart names shown shows lent give there.scope 0 filter _ turn.1)
              (all_more stmts (turn_known (taking 2 (taking 2 i)) site row.row.frame chunk (Components p constant a r x many stride dimensions filter) number gathered.loops) gathered.outs),
        )
    fits_stmt zero i w v (Parallel site count arms) k f p t m o = absurd t
    fits_stmt (suc n) i w v (Parallel site count arms) k f p t m o =
        let row = m.1.1.1.1.0.1.1.1.0.1 in
        let five = row.enough in
        let four : 4 ≤ row.row.frame = omega (arith, five) in
        let few = p.2 in
        let lt = kept (i.scope.free + 2) (i.scope.free + 2 + 1) (room i.scope.body) i.cells m.1.1.1.1.1.1.1.0 k.enough in
        let k1 = sees_nested program names mains T frames room k in
        let gathered = gather_arms (λ n. ⊥) (sights.Known i) arms (arms_more arms (λ n h. inr h) o) in
        let there : Sight = taking 2 (taking 2 (thread_sight site row.row.frame (taking 2 i))) in
        let sees : S' w v there =
        sees_taking program names mains T frames room 2 (omega (arith, four)) (sees_taking program names mains T frames room 2 (omega (arith, four)) (sees_thread program names mains T frames room site row.row.frame (thread_room program globals mains c T frames room threads apart names shown shows lent give site row) k)) in (
          row.row,
          (row.is, sited program globals mains c T frames room threads apart names shown shows lent give i k site row, four, row.entry),
          give false i site _ row,
          row.kind,
          omega (arith, lt),
          p.1,
          omega (arith, few),
          fits_count n (nested_sight i) w v count k1 f.0 p.0 t.0 m.1.0,
          gathered.loops,
          gathered.among,
          all_known i gathered.loops gathered.every,
          arms_more arms (λ n h. ⊎_elim (λ z. absurd z) (λ z. z) h) gathered.outs,
          fits_arms n (with_outside gathered.loops there) w v 0 arms (sees_outside program names mains T frames room gathered.loops sees) f.1 p.3 t.1 m.1.1.1.1.0.1.1.1.1.1.0
              (arms_more arms (λ n h. ⊎_elim (λ z. absurd z) (λ z. inr (refl, z)) h) gathered.outs),
        )
    fits_stmt n i w v (Block decls stmts NoHandler) k f p t m o =
        fits_decls n decls i w v _ (λ j. FittedAll program globals mains (Fold n) (Fork n) j stmts) (λ u. ScopedAll program shown u stmts × ScopedHandlers program shown (scopes.handling u) NoHandler) k f.0 p t.0 m
        (λ j u see q room' known. fits_all n j w u stmts see f.1 q.0 t.1 room' (all_more stmts known o.0))
    fits_stmt n i w v (Block decls stmts (Handler handled first rest)) k f p t m o =
        fits_decls n decls i w v _
        (λ j. (j.scope.free < j.cells) × ((h : ℕ) → FittedAll program globals mains (Fold n) (Fork n) (with_entry h j) stmts) × FittedAll program globals mains (Fold n) (Fork n) (with_handled (own j.scope.free) (taking 1 j)) first × FittedHandlers program globals mains (Fold n) (Fork n) (with_handled (own j.scope.free) (taking 1 j)) rest)
        (λ u. ScopedAll program shown u stmts × ScopedHandlers program shown (scopes.handling u) (Handler handled first rest)) k f.0 p t.0 m
        (λ j u see q room' known.
        let lt = kept j.scope.free j.scope.free (room j.scope.body) j.cells room'.1.0 see.enough in
        let there : Sight = with_handled (own j.scope.free) (taking 1 j) in
        let sees : S' w (scopes.handling u) there = sees_handled program names mains T frames room (own j.scope.free) (sees_taking program names mains T frames room 1 (omega (arith, lt)) see) in
        let hs = fits_handlers n there w (scopes.handling u) j.scope.free (Handler handled first rest) sees f.2 q.1 t.2 room'.1.1 (handlers_more (Handler handled first rest) known o.1) in
        (lt, (λ h. fits_all n (with_entry h j) w u stmts (sees_entry program names mains T frames room h see) f.1 q.0 t.1 (room'.2 h) (all_more stmts known o.0)), hs.0, hs.1))
    fits_stmt n i w v (Put at callee pieces line) k f p t m o =
        let le = pieces_room program Row room i.scope pieces m.0 (send_room program Row room i.scope line m.1.1) in
        let enough = k.enough in
        (omega (arith, le, enough), fits_pieces n i w v pieces k f p t m.0)
    fits_stmt n i w v (Get at callee first r x scalar) k f p t m o =
        (reached_variable program names mains T frames room r x 1 k f.0 p.0, fits_selections program globals mains c T frames room threads apart names shown shows lent give n i w v 1 x k f.1 p.1 t m.1.0)

    pub fits_all : (n : ℕ) (i : Sight) (w : Known) (v : Around) (x : Stmts) → S' w v i → FormedAll program w x → ScopedAll program shown v x → TabledAll T n x → R' (all program i.scope x) → OutAll (sights.Known i) x → FittedAll program globals mains (Fold n) (Fork n) i x
    fits_all n i w v End k f p t m o = tt
    fits_all n i w v (Then first more) k f p t m o = (fits_stmt n i w v first k f.0 p.0 t.0 m.0 o.0, fits_all n i w v more k f.1 p.1 t.1 m.1 o.1)

    fits_cases : (n : ℕ) (i : Sight) (w : Known) (v : Around) (d : ℕ) (x : Alternatives) → S' w v i → FormedAlternatives program w x → ScopedAlternatives program shown v x → TabledAlternatives T n x → R' (cases program i.scope d x) → OutCases (sights.Known i) x
        → FittedAlternatives program globals mains (Fold n) (Fork n) i x
    fits_cases n i w v d NoAlternative k f p t m o = tt
    fits_cases n i w v d (Alternative true choices mentions stmts NoAlternative) k f p t m o = (fits_all n i w v stmts k f.1 p.2 t.0 m o.0, tt)
    fits_cases n i w v d (Alternative true choices mentions stmts (Alternative a1 a2 a3 a4 a5)) k f p t m o = absurd p.0
    fits_cases n i w v d (Alternative false choices mentions stmts rest) k f p t m o = (fits_all n i w v stmts k f.1 p.2 t.0 m.1.1 o.0, fits_cases n i w v d rest k f.2 p.3 t.1 m.1.2 o.1)

    fits_handlers : (n : ℕ) (i : Sight) (w : Known) (v : Around) (d : ℕ) (x : Handlers) → S' w v i → FormedHandlers program w x → ScopedHandlers program shown v x → TabledHandlers T n x → R' (handling program i.scope d x) → OutHandlers (sights.Known i) x
        → FittedHandlers program globals mains (Fold n) (Fork n) i x
    fits_handlers n i w v d NoHandler k f p t m o = tt
    fits_handlers n i w v d (Handler Others stmts NoHandler) k f p t m o = (fits_all n i w v stmts k f.0 p.1 t.0 m o.0, tt)
    fits_handlers n i w v d (Handler Others stmts (Handler a1 a2 a3)) k f p t m o = absurd p.0
    fits_handlers n i w v d (Handler (Reasons reasons) stmts rest) k f p t m o = (fits_all n i w v stmts k f.0 p.1 t.0 m.1.1 o.0, fits_handlers n i w v d rest k f.1 p.2 t.1 m.1.2 o.1)

    fits_arms : (n : ℕ) (i : Sight) (w : Known) (v : Around) (d : ℕ) (x : Arms) → S' w v i → FormedArms program w x → ScopedArms program shown v x → TabledArms T n x → R' (arms_code program i.scope d (arm_codes program i.scope x)) → OutArms (sights.Known i) x
        → FittedArms program globals mains (Fold n) (Fork n) i x
    fits_arms n i w v d NoArm k f p t m o = tt
    fits_arms n i w v d (Arm stmts rest) k f p t m o = (fits_all n i w v stmts k f.0 p.0 t.0 m.0.1.1 o.0, fits_arms n i w v (d + 1) rest k f.1 p.1 t.1 m.1 o.1)
