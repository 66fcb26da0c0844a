-- The code of statements and bodies in two scopes that agree in the names that are read is alike.
use Rattle.std.proofs.Common.{◌≡◌, ℕ, zero, suc, ◌+◌, nat_eq, List, [], ◌∷◌, length, slice_get, Option, Some, None, Bool, true, false, cond, not, ◌&&◌, refl, sym, subst, inl, inr}
use Rattle.ada_base.specs.declared.reason.Reason.{Reason}
use Rattle.behaviours.specs.Paths.{Entity, VariableOf, ConstantOf, entity_eq}
use Rattle.typed_tree.specs.declared.program.Field.{Field}
use Rattle.typed_tree.specs.declared.program.Formal.{Formal}
use Rattle.typed_tree.specs.declared.scalars.Scalar.{Scalar}
use Rattle.typed_tree.specs.declared.statements.Span.{Span}
use Rattle.typed_tree.specs.Syntax.{Static, Optional, Absent, Present, Actuals, NoActual, In, InOut, Out, CompositeInOut, CompositeOut, Number, Cells, Pieces, NoPiece, Text, Image, Padded, Decls, NoDecl, DeclareDefault, DeclareVariable, DeclareConstant, Mentions, Stmt, Null, Assign, CallProcedure, Exit, Return, ReturnValue, Raise, Reraise, IfThen, Case, Loop, For, ParallelFor, Parallel, Block, Put, Get, Stmts, End, Then, Alternatives, NoAlternative, Alternative, Arms, NoArm, Arm, Handled, Others, Reasons, Handlers, NoHandler, Handler, Subtype, OfScalar, Array, Record, Sub, Program}
use Rattle.ada_meaning.specs.Values.{components}
use Rattle.ada_meaning.specs.Meaning.{object_layout}
use Rattle.stack_code.specs.declared.instr.Instr.TheVariants as i
use Rattle.lower_emission.specs.Emits.{Emit}
use Rattle.lower_emission.specs.Scope.{Scope, moved_named, nested, none, own, taking, thread_scope, with_entry, with_exit, with_handled, with_object, with_target}
use Rattle.lower_emission.specs.Bodies as code
use Rattle.ada_lower.specs.Sights.{ByEnd, ByLeave, ByReturn, ByValue, Leaving, Named, Where, root_of, Level, Own}
use Rattle.ada_lower.specs.Emission.{Shape, all, arm_codes, arm_exits, arm_scope, arms_code, assigned, back_code, cases, cells_of, chosen, chunk_by, composite_width, declared, default_of, defaults_within, exits_code, exits_of, field_defaults, handled_by, handled_target, handling, has_reason, is_end, is_whole, lead, is_own, left_code, no_handler, object_here, passing, piece_texts, piece_values, returning, returning_value, shape_by, shapes, stmt, subtype_or_none, width, store_checked}
use Rattle.typed_scopes.specs.Scopes as scopes
use Rattle.typed_scopes.specs.Scopes.{Around, ScopedAll, ScopedAlternatives, ScopedArms, ScopedDecls, ScopedHandlers, ScopedMain, ScopedOptional, ScopedPieces, ScopedStmt, entity_of, with_chunk, with_formals, with_outer}
use Rattle.lower_laws.proofs.Alike.{Alike, Like, a_address, a_cond, a_doubled, a_ends, a_exiting, like_exit, like_thread, marked, plain, prime, root_same}
use Rattle.lower_laws.proofs.AlikeValues.{a_chunk, a_chunk_one, a_composed, a_course, a_emit, a_into, a_iterated, a_passed, a_selected, a_threaded, gone_through, turn_around, turn_does}
use Rattle.lower_laws.proofs.Formals.{shape_entity}

module _ (T : ℕ → ℕ → Type 0) (v : Around) (s : Scope) (o : Entity → Option Named) (xs : ℕ → Option ℕ) (en : Option ℕ) (k : Like T v s o xs en) where
  a_returning : (h : ℕ) (w : Leaving) → Alike T (returning s h w) (returning (prime o xs en s) h w)
  a_returning h ByReturn = (plain T v s o xs en k)
  a_returning h ByValue = ((plain T v s o xs en k), (plain T v s o xs en k))
  a_returning h ByEnd = (plain T v s o xs en k)
  a_returning h ByLeave = (plain T v s o xs en k)

  a_returning_value : (w : Leaving) → Alike T (returning_value s w) (returning_value (prime o xs en s) w)
  a_returning_value ByReturn = (plain T v s o xs en k)
  a_returning_value ByValue = (plain T v s o xs en k)
  a_returning_value ByEnd = (plain T v s o xs en k)
  a_returning_value ByLeave = (plain T v s o xs en k)

  a_handled_target : (p : Option Where) → Alike T (handled_target s p) (handled_target (prime o xs en s) p)
  a_handled_target None = (plain T v s o xs en k)
  a_handled_target (Some p) = ((plain T v s o xs en k), (plain T v s o xs en k))

  a_texts : (d : ℕ) (ps : Pieces) → Alike T (piece_texts s d ps) (piece_texts (prime o xs en s) d ps)
  a_texts d NoPiece = tt
  a_texts d (Text bytes rest) = ((plain T v s o xs en k), a_texts d rest)
  a_texts d (Image class e rest) = ((plain T v s o xs en k), ((plain T v s o xs en k), a_texts (d + 1) rest))
  a_texts d (Padded class e most rest) = ((plain T v s o xs en k), ((plain T v s o xs en k), a_texts (d + 1) rest))

  a_chosen : (d : ℕ) (rs : List Span) → Alike T (chosen s d rs) (chosen (prime o xs en s) d rs)
  a_chosen d [] = (plain T v s o xs en k)
  a_chosen d (r ∷ rs) = (((plain T v s o xs en k), ((plain T v s o xs en k), ((plain T v s o xs en k), ((plain T v s o xs en k), ((plain T v s o xs en k), ((plain T v s o xs en k), (plain T v s o xs en k))))))), ((marked T v s o xs en k), refl, refl, (plain T v s o xs en k), a_chosen d rs))

  a_reason : (d : ℕ) (rs : List Reason) → Alike T (has_reason s d rs) (has_reason (prime o xs en s) d rs)
  a_reason d [] = (plain T v s o xs en k)
  a_reason d (r ∷ rs) = (((plain T v s o xs en k), ((plain T v s o xs en k), (plain T v s o xs en k))), ((marked T v s o xs en k), refl, refl, (plain T v s o xs en k), a_reason d rs))

  a_handled_by : (handled : Handled) (a b a' b' : Emit) (d : ℕ) → Alike T a a' → Alike T b b' → Alike T (handled_by handled a b s d) (handled_by handled a' b' (prime o xs en s) d)
  a_handled_by Others a b a' b' d f g = f
  a_handled_by (Reasons reasons) a b a' b' d f g = (a_reason d reasons, ((marked T v s o xs en k), refl, refl, f, g))

  a_exits : (d : ℕ) (number : Option ℕ) (ns : List ℕ) → Alike T (exits_code s d number ns) (exits_code (prime o xs en s) d number ns)
  a_exits d number [] = tt
  a_exits d number (n ∷ ns) = (a_cond T (is_own number n) none _ none _ tt (((plain T v s o xs en k), ((plain T v s o xs en k), (plain T v s o xs en k))), ((marked T v s o xs en k), refl, a_exiting T v s o xs en k n (s.exits n) (xs n) (k.1 n))), a_exits d number ns)

  a_left : (number : Option ℕ) (loops : List ℕ) → Alike T (left_code s number loops) (left_code (prime o xs en s) number loops)
  a_left number loops = ((plain T v s o xs en k), ((plain T v s o xs en k), ((plain T v s o xs en k), ((marked T v s o xs en k), refl, ((((plain T v s o xs en k), ((plain T v s o xs en k), (plain T v s o xs en k))), (((marked T v s o xs en k), refl, a_returning 0 s.leaving), (((plain T v s o xs en k), ((plain T v s o xs en k), (plain T v s o xs en k))), ((marked T v s o xs en k), refl, ((plain T v s o xs en k), a_returning_value s.leaving))))), a_exits s.free number loops)))))

  a_store_checked : (x : Scalar) (level : Level) (n : ℕ) → Alike T (store_checked s x level n) (store_checked (prime o xs en s) x level n)
  a_store_checked x Own n = (plain T v s o xs en k)
  a_store_checked x level n = ((plain T v s o xs en k), (plain T v s o xs en k))

  a_assigned : (n n' : Option Named) (whole : Bool) (x : Scalar) (moved moved' : Emit) (value : Scope → ℕ → Emit) → n ≡ n' → Alike T moved moved' → ((m : Named) → Alike T (value (with_target m s) 0) (value (with_target m (prime o xs en s)) 0)) → ((m : Named) → Alike T (value (with_target m (taking 1 s)) 1) (value (with_target m (taking 1 (prime o xs en s))) 1))
      → Alike T (assigned s n whole x moved value) (assigned (prime o xs en s) n' whole x moved' value)
  a_assigned n n' whole x moved moved' value same f g h = subst (λ m. Alike T (assigned s n whole x moved value) (assigned (prime o xs en s) m whole x moved' value)) same (by n)
    where
      by : (n : Option Named) → Alike T (assigned s n whole x moved value) (assigned (prime o xs en s) n whole x moved' value)
      by None = (plain T v s o xs en k)
      by (Some m) = a_cond T (whole && not m.through) _ _ _ _ (g m, a_store_checked x m.place.level m.place.cell)
          ((plain T v s o xs en k), (f, ((plain T v s o xs en k), ((plain T v s o xs en k), (h (record { through = true; place = own s.free; cells = 1 }), ((plain T v s o xs en k), (plain T v s o xs en k)))))))

module _ (T : ℕ → ℕ → Type 0) (program : Program) (shown : ℕ → Entity → Bool) where
  -- ---- objects without an initial value

  a_fields : (within within' : ℕ → ℕ → Emit) (n : ℕ) (fs : List Field) → ((n m : ℕ) → Alike T (within n m) (within' n m)) → Alike T (field_defaults program within n fs) (field_defaults program within' n fs)
  a_fields within within' n [] g = tt
  a_fields within within' n (f ∷ fs) g = (g n f.subtype, a_fields within within' (n + cells_of program f.subtype) fs g)

  a_default_of : (v : Around) (s : Scope) (o : Entity → Option Named) (xs : ℕ → Option ℕ) (en : Option ℕ) → Like T v s o xs en → (within within' : ℕ → ℕ → Emit) (n : ℕ) (d : Option Subtype) → ((n m : ℕ) → Alike T (within n m) (within' n m))
      → Alike T (default_of program s within n d) (default_of program (prime o xs en s) within' n d)
  a_default_of v s o xs en k within within' n None g = tt
  a_default_of v s o xs en k within within' n (Some (OfScalar scalar)) g = ((plain T v s o xs en k), (plain T v s o xs en k))
  a_default_of v s o xs en k within within' n (Some (Array dimensions component)) g = (g n component, a_doubled T v s o xs en k 0 n (cells_of program component) (components dimensions) 1 (components dimensions))
  a_default_of v s o xs en k within within' n (Some (Record fields)) g = a_fields within within' n fields g

  a_defaults : (v : Around) (s : Scope) (o : Entity → Option Named) (xs : ℕ → Option ℕ) (en : Option ℕ) → Like T v s o xs en → (levels n number : ℕ) → Alike T (defaults_within program s levels n number) (defaults_within program (prime o xs en s) levels n number)
  a_defaults v s o xs en k zero n number = tt
  a_defaults v s o xs en k (suc levels) n number = a_default_of v s o xs en k (defaults_within program s levels) (defaults_within program (prime o xs en s) levels) n (slice_get program.subtypes number) (λ n m. a_defaults v s o xs en k levels n m)

  a_back : (v : Around) (s : Scope) (o : Entity → Option Named) (xs : ℕ → Option ℕ) (en : Option ℕ) → Like T v s o xs en → (sub w : ℕ) (x : Actuals) → Alike T (back_code program s sub w x) (back_code program (prime o xs en s) sub w x)
  unfolding back_code
  a_back v s o xs en k sub w NoActual = tt
  a_back v s o xs en k sub w (In formal value rest) = a_back v s o xs en k sub w rest
  a_back v s o xs en k sub w (InOut formal at r x inner outer rest) = (((plain T v s o xs en k), ((plain T v s o xs en k), ((plain T v s o xs en k), (plain T v s o xs en k)))), a_back v s o xs en k sub w rest)
  a_back v s o xs en k sub w (Out formal at r x inner outer rest) = (((plain T v s o xs en k), ((plain T v s o xs en k), ((plain T v s o xs en k), (plain T v s o xs en k)))), a_back v s o xs en k sub w rest)
  a_back v s o xs en k sub w (CompositeInOut formal at r x subtype rest) = (((plain T v s o xs en k), ((plain T v s o xs en k), (plain T v s o xs en k))), a_back v s o xs en k sub w rest)
  a_back v s o xs en k sub w (CompositeOut formal at r x subtype rest) = (((plain T v s o xs en k), ((plain T v s o xs en k), (plain T v s o xs en k))), a_back v s o xs en k sub w rest)

  a_piece_values : (v : Around) (s : Scope) (o : Entity → Option Named) (xs : ℕ → Option ℕ) (en : Option ℕ) (x : Pieces) → Like T v s o xs en → ScopedPieces program shown v x → Alike T (piece_values program s x) (piece_values program (prime o xs en s) x)
  unfolding piece_values
  a_piece_values v s o xs en NoPiece k p = tt
  a_piece_values v s o xs en (Text bytes rest) k p = a_piece_values v s o xs en rest k p
  a_piece_values v s o xs en (Image class e rest) k p = (a_emit T program shown v s o xs en 0 e k p.0, ((plain T v s o xs en k), a_piece_values v (taking 1 s) o xs en rest k p.1))
  a_piece_values v s o xs en (Padded class e (Static at value literal mentions) rest) k p = (a_emit T program shown v s o xs en 0 e k p.0, ((plain T v s o xs en k), a_piece_values v (taking 1 s) o xs en rest k p.2))
  a_piece_values v s o xs en (Padded class e most rest) k p = absurd p

  -- ---- declarations

  like_object : (v : Around) (s : Scope) (o : Entity → Option Named) (xs : ℕ → Option ℕ) (en : Option ℕ) (y : Entity) (n : Named) → Like T v s o xs en → Like T (scopes.with_object y v) (with_object y n s) (λ z. cond (entity_eq y z) (Some n) (o z)) xs en
  like_object v s o xs en y n k = ((λ z q. go (entity_eq y z) z q), k.1, k.2)
    where
      go : (b : Bool) (z : Entity) → cond b true (v.object z) ≡ true → cond b (Some n) (s.object z) ≡ cond b (Some n) (o z)
      go true z q = refl
      go false z q = k.0 z q

  a_declared : (v : Around) (s : Scope) (o : Entity → Option Named) (xs : ℕ → Option ℕ) (en : Option ℕ) (decls : Decls) (rest rest' : Scope → Emit) (does : Around → Type 0) → Like T v s o xs en → ScopedDecls program shown v decls does
      → ((u : Around) (t : Scope) (o : Entity → Option Named) (xs : ℕ → Option ℕ) (en : Option ℕ) → Like T u t o xs en → does u → Alike T (rest t) (rest' (prime o xs en t))) → Alike T (declared program s decls rest) (declared program (prime o xs en s) decls rest')
  a_declared v s o xs en NoDecl rest rest' does k p f = f v s o xs en k p
  a_declared v s o xs en (DeclareDefault x more) rest rest' does k p f =
      let n = length (object_layout program x) in
      let named : Named = record { through = false; place = own s.free; cells = n } in (
        a_defaults v (taking n s) o xs en k (length program.subtypes) s.free (subtype_or_none program (slice_get program.objects x)),
        a_declared (scopes.with_object (VariableOf x) v) (object_here s (VariableOf x) n) (λ z. cond (entity_eq (VariableOf x) z) (Some named) (o z)) xs en more rest rest' does (like_object v s o xs en (VariableOf x) named k) p.1 f,
      )
  a_declared v s o xs en (DeclareVariable x initial more) rest rest' does k p f =
      let n = width program initial in
      let named : Named = record { through = false; place = own s.free; cells = n } in (
        a_into T program shown v (taking n s) o xs en 0 s.free _ initial k p.1,
        a_declared (scopes.with_object (VariableOf x) v) (object_here s (VariableOf x) n) (λ z. cond (entity_eq (VariableOf x) z) (Some named) (o z)) xs en more rest rest' does (like_object v s o xs en (VariableOf x) named k) p.2 f,
      )
  a_declared v s o xs en (DeclareConstant x initial more) rest rest' does k p f =
      let n = width program initial in
      let named : Named = record { through = false; place = own s.free; cells = n } in (
        a_into T program shown v (taking n s) o xs en 0 s.free _ initial k p.1,
        a_declared (scopes.with_object (ConstantOf x) v) (object_here s (ConstantOf x) n) (λ z. cond (entity_eq (ConstantOf x) z) (Some named) (o z)) xs en more rest rest' does (like_object v s o xs en (ConstantOf x) named k) p.2 f,
      )
  a_declared v s o xs en (Mentions es more) rest rest' does k p f = a_declared v s o xs en more rest rest' does k p.1 f

  -- ---- statements

  a_count : (v : Around) (s : Scope) (o : Entity → Option Named) (xs : ℕ → Option ℕ) (en : Option ℕ) (count : Optional) → Like T v s o xs en → ScopedOptional program shown v count
      → Alike T (Rattle.ada_lower.specs.Emission.chunk_code program s 0 (chunk_by program count)) (Rattle.ada_lower.specs.Emission.chunk_code program (prime o xs en s) 0 (chunk_by program count))
  a_count v s o xs en Absent k p = a_chunk T program shown v s o xs en 0 Rattle.typed_tree.specs.Syntax.NoChunk k tt
  a_count v s o xs en (Present e) k p = a_chunk T program shown v s o xs en 0 (Rattle.typed_tree.specs.Syntax.Count e) k p

  mutual
    unfolding stmt

    pub a_stmt : (v : Around) (s : Scope) (o : Entity → Option Named) (xs : ℕ → Option ℕ) (en : Option ℕ) (x : Stmt) → Like T v s o xs en → ScopedStmt program shown v x → Alike T (stmt program s x) (stmt program (prime o xs en s) x)
    a_stmt v s o xs en Null k p = tt
    a_stmt v s o xs en (Assign at r x (Number check e)) k p =
        a_assigned T v s o xs en k (root_of s r) (root_of (prime o xs en s) r) (is_whole x) check.scalar _ _ _ (root_same T v s o xs en k r p.0) (a_selected T program shown v s o xs en 1 x k p.1)
        (λ m. a_emit T program shown (scopes.with_target p.2.0 v) (with_target m s) o xs en 0 e k p.2.1.1) (λ m. a_emit T program shown (scopes.with_target p.2.0 v) (with_target m (taking 1 s)) o xs en 1 e k p.2.1.1)
    a_stmt v s o xs en (Assign at r x (Cells c)) k p = (
      a_address T v s o xs en k 0 (root_of s r) (root_of (prime o xs en s) r) (root_same T v s o xs en k r p.0),
      (
        a_selected T program shown v s o xs en 1 x k p.1,
        (
          (plain T v s o xs en k),
          (
            a_composed T program shown (scopes.with_target p.2.0 v) (with_target (record { through = true; place = own s.free; cells = composite_width program c }) (taking (composite_width program c) (taking 1 s))) o xs en 0 (s.free + 1) p.2.0 c k p.2.1,
            ((plain T v s o xs en k), ((plain T v s o xs en k), (plain T v s o xs en k))),
          ),
        ),
      ),
    )
    a_stmt v s o xs en (CallProcedure at callee sub actuals) k p = (a_passed T program shown v (passing program sub s) o xs en 0 sub s.free p.0.unit.formals actuals k p.2, ((plain T v s o xs en k), a_back v s o xs en k sub s.free actuals))
    a_stmt v s o xs en (Exit loop Absent) k p = a_exiting T v s o xs en k loop (s.exits loop) (xs loop) (k.1 loop)
    a_stmt v s o xs en (Exit loop (Present e)) k p = (a_emit T program shown v s o xs en 0 e k p, ((marked T v s o xs en k), refl, a_exiting T v s o xs en k loop (s.exits loop) (xs loop) (k.1 loop)))
    a_stmt v s o xs en Return k p = a_returning T v s o xs en k 0 s.leaving
    a_stmt v s o xs en (ReturnValue (Number check e)) k p = (a_emit T program shown v s o xs en 0 e k p, ((plain T v s o xs en k), a_returning_value T v s o xs en k s.leaving))
    a_stmt v s o xs en (ReturnValue (Cells c)) k p = absurd p
    a_stmt v s o xs en (Raise r) k p = (plain T v s o xs en k)
    a_stmt v s o xs en Reraise k p = a_handled_target T v s o xs en k s.handled
    a_stmt v s o xs en (IfThen condition stmts otherwise) k p =
        (a_emit T program shown v s o xs en 0 condition k p.0, a_cond T (is_end otherwise) _ _ _ _ ((marked T v s o xs en k), refl, a_all v s o xs en stmts k p.1) ((marked T v s o xs en k), refl, refl, a_all v s o xs en stmts k p.1, a_all v s o xs en otherwise k p.2))
    a_stmt v s o xs en (Case e alternatives) k p = (a_emit T program shown v s o xs en 0 e k p.0, ((plain T v s o xs en k), a_cases v (taking 1 s) o xs en s.free alternatives k p.1))
    a_stmt v s o xs en (Loop number Absent stmts) k p = (
      (marked T v s o xs en k),
      refl,
      refl,
      (λ a b t. ((plain T v s o xs en k), a_all v (with_exit number a s) o (λ j. cond (nat_eq number j) (Some b) (xs j)) en stmts (like_exit T v s o xs en number a b t k) p.1)),
      (λ a b t. ((marked T v s o xs en k), refl, inr ((λ z. i.Jump z), a, b, refl, refl, t, tt))),
    )
    a_stmt v s o xs en (Loop number (Present e) stmts) k p = (
      (marked T v s o xs en k),
      refl,
      refl,
      (λ a b t. ((plain T v s o xs en k), a_all v (with_exit number a s) o (λ j. cond (nat_eq number j) (Some b) (xs j)) en stmts (like_exit T v s o xs en number a b t k) p.1)),
      (λ a b t. (a_emit T program shown v s o xs en 0 e k p.0, ((marked T v s o xs en k), refl, inr ((λ z. i.JTrue z), a, b, refl, refl, t, tt)))),
    )
    a_stmt v s o xs en (For number iteration stmts) k p =
        a_iterated T program shown v v s o xs en 0 (Some number) iteration (λ t. all program t stmts) (λ t. all program t stmts) k (λ y. refl) (gone_through T program shown v v iteration (λ u. ScopedAll program shown u stmts) p)
        (λ t o xs en k. a_all (turn_around T program shown v iteration) t o xs en stmts k (turn_does T program shown v v iteration (λ u. ScopedAll program shown u stmts) p))
    a_stmt v s o xs en (ParallelFor number site chunk iteration stmts) k p = (
      (plain T v s o xs en k),
      (
        a_chunk T program shown v (nested s) o xs en 0 chunk k p.0,
        (
          a_course T program shown v (with_chunk chunk v) (taking 2 (nested s)) o xs en 0 iteration k (gone_through T program shown v (with_chunk chunk v) iteration (λ u. ScopedAll program shown u stmts) p.2),
          (
            a_ends T v (taking 2 (nested s)) o xs en k 0 iteration,
            (
              (
                (plain T v (nested s) o xs en k),
                (
                  (plain T v (nested s) o xs en k),
                  (
                    (plain T v (nested s) o xs en k),
                    (
                      ((refl, refl, refl, refl, k.2), refl, inl refl),
                      (
                        (marked T v (nested s) o xs en k),
                        refl,
                        (
                          a_threaded T program shown v (thread_scope site s) (λ y. moved_named (o y)) (λ n. None) None 0 chunk (s.free + 1 + 1) iteration (λ u. all program u stmts) (λ u. all program u stmts) (like_thread T v s o xs en site k) (gone_through T program shown v (with_chunk chunk v) iteration (λ u. ScopedAll program shown u stmts) p.2)
                              (λ t o xs en k. a_all (turn_around T program shown (with_chunk chunk v) iteration) t o xs en stmts k (turn_does T program shown v (with_chunk chunk v) iteration (λ u. ScopedAll program shown u stmts) p.2)),
                          a_chunk_one T program shown v (taking 2 (thread_scope site s)) (λ y. moved_named (o y)) (λ n. None) None chunk 0 i.End (like_thread T v s o xs en site k),
                        ),
                      ),
                    ),
                  ),
                ),
              ),
              ((plain T v (nested s) o xs en k), a_left T v (taking 2 (taking 2 s)) o xs en k (Some number) (exits_of stmts)),
            ),
          ),
        ),
      ),
    )
    a_stmt v s o xs en (Parallel site count arms) k p = (
      (plain T v s o xs en k),
      (
        a_count v (nested s) o xs en count k p.0,
        (
          (plain T v (nested s) o xs en k),
          (
            (plain T v (nested s) o xs en k),
            (
              (
                (plain T v (nested s) o xs en k),
                (
                  (plain T v (nested s) o xs en k),
                  (
                    (plain T v (nested s) o xs en k),
                    (
                      ((refl, refl, refl, refl, k.2), refl, inl refl),
                      (
                        (marked T v (nested s) o xs en k),
                        refl,
                        (
                          a_arms v (arm_scope program s site) (λ y. moved_named (o y)) (λ n. None) None 0 arms (like_thread T v s o xs en site k) p.3,
                          plain T v (arm_scope program s site) (λ y. moved_named (o y)) (λ n. None) None (like_thread T v s o xs en site k),
                        ),
                      ),
                    ),
                  ),
                ),
              ),
              ((plain T v (nested s) o xs en k), a_left T v (taking 2 s) o xs en k None (arm_exits arms)),
            ),
          ),
        ),
      ),
    )
    a_stmt v s o xs en (Block decls stmts handlers) k p =
        a_declared v s o xs en decls _ _ (λ u. ScopedAll program shown u stmts × ScopedHandlers program shown (scopes.handling u) handlers) k p (λ u t o xs en k q.
        a_cond T (no_handler handlers) _ _ _ _ (a_all u t o xs en stmts k q.0) (
          marked T u t o xs en k,
          (plain T u t o xs en k, a_handling (scopes.handling u) (with_handled (own t.free) (taking 1 t)) o xs en t.free handlers k q.1),
          (λ a b r. a_all u (with_entry a t) o xs (Some b) stmts (k.0, k.1, r) q.0),
        ))
    a_stmt v s o xs en (Put at callee pieces line) k p = (a_piece_values v s o xs en pieces k p, (a_texts T v s o xs en k s.free pieces, (plain T v s o xs en k)))
    a_stmt v s o xs en (Get at callee first r x scalar) k p = (a_address T v s o xs en k 0 (root_of s r) (root_of (prime o xs en s) r) (root_same T v s o xs en k r p.0), (a_selected T program shown v s o xs en 1 x k p.1, ((plain T v s o xs en k), ((plain T v s o xs en k), (plain T v s o xs en k)))))

    pub a_all : (v : Around) (s : Scope) (o : Entity → Option Named) (xs : ℕ → Option ℕ) (en : Option ℕ) (x : Stmts) → Like T v s o xs en → ScopedAll program shown v x → Alike T (all program s x) (all program (prime o xs en s) x)
    a_all v s o xs en End k p = tt
    a_all v s o xs en (Then first more) k p = (a_stmt v s o xs en first k p.0, a_all v s o xs en more k p.1)

    a_cases : (v : Around) (s : Scope) (o : Entity → Option Named) (xs : ℕ → Option ℕ) (en : Option ℕ) (d : ℕ) (x : Alternatives) → Like T v s o xs en → ScopedAlternatives program shown v x → Alike T (cases program s d x) (cases program (prime o xs en s) d x)
    a_cases v s o xs en d NoAlternative k p = (plain T v s o xs en k)
    a_cases v s o xs en d (Alternative true choices mentions stmts rest) k p = a_all v s o xs en stmts k p.2
    a_cases v s o xs en d (Alternative false choices mentions stmts rest) k p = (a_chosen T v s o xs en k d choices, ((marked T v s o xs en k), refl, refl, a_all v s o xs en stmts k p.2, a_cases v s o xs en d rest k p.3))

    a_handling : (v : Around) (s : Scope) (o : Entity → Option Named) (xs : ℕ → Option ℕ) (en : Option ℕ) (d : ℕ) (x : Handlers) → Like T v s o xs en → ScopedHandlers program shown v x → Alike T (handling program s d x) (handling program (prime o xs en s) d x)
    a_handling v s o xs en d NoHandler k p = ((plain T v s o xs en k), (plain T v s o xs en k))
    a_handling v s o xs en d (Handler handled stmts rest) k p = a_handled_by T v s o xs en k handled _ _ _ _ d (a_all v s o xs en stmts k p.1) (a_handling v s o xs en d rest k p.2)

    a_arms : (v : Around) (s : Scope) (o : Entity → Option Named) (xs : ℕ → Option ℕ) (en : Option ℕ) (n : ℕ) (x : Arms) → Like T v s o xs en → ScopedArms program shown v x → Alike T (arms_code program s n (arm_codes program s x)) (arms_code program (prime o xs en s) n (arm_codes program (prime o xs en s) x))
    a_arms v s o xs en n NoArm k p = tt
    a_arms v s o xs en n (Arm stmts rest) k p = ((((plain T v s o xs en k), ((plain T v s o xs en k), ((plain T v s o xs en k), ((plain T v s o xs en k), ((plain T v s o xs en k), ((plain T v s o xs en k), (plain T v s o xs en k))))))), ((marked T v s o xs en k), refl, a_all v s o xs en stmts k p.0)), a_arms v s o xs en (n + 1) rest k p.1)

  -- ---- bodies

  -- in the scope of formal parameters
  placed_like : (fs : List Formal) (v : Around) (n : ℕ) (s : Scope) (o : Entity → Option Named) (xs : ℕ → Option ℕ) (en : Option ℕ) → Like T v s o xs en → (Goal : Scope → Scope → Type 0)
      → ((t : Scope) (o' : Entity → Option Named) → Like T (with_formals v fs) t o' xs en → Goal t (prime o' xs en t)) → Goal (code.placed (shapes program fs) n s) (code.placed (shapes program fs) n (prime o xs en s))
  placed_like [] v n s o xs en k Goal g = g s o k
  placed_like (f ∷ fs) v n s o xs en k Goal g =
      let h : Shape = shape_by program f.object f.mode in
      let named : Named = record { through = false; place = own (n + lead h.back); cells = h.cells } in
      placed_like fs (scopes.with_object (entity_of f) v) (n + lead h.back + h.cells) (with_object h.formal named s) (λ z. cond (entity_eq h.formal z) (Some named) (o z)) xs en
      (subst (λ y. Like T (scopes.with_object (entity_of f) v) (with_object y named s) (λ z. cond (entity_eq y z) (Some named) (o z)) xs en) (sym (shape_entity program f)) (like_object v s o xs en (entity_of f) named k)) Goal g

  a_ending : (v : Around) (s : Scope) (o : Entity → Option Named) (xs : ℕ → Option ℕ) (en : Option ℕ) (r : Option Scalar) → Like T v s o xs en → Alike T (code.ending s r) (code.ending (prime o xs en s) r)
  a_ending v s o xs en None k = (plain T v s o xs en k)
  a_ending v s o xs en (Some scalar) k = (plain T v s o xs en k)

  pub a_sub : (v : Around) (n : ℕ) (unit : Sub) (s : Scope) (o : Entity → Option Named) (xs : ℕ → Option ℕ) (en : Option ℕ) → Like T v s o xs en → ScopedStmt program shown (with_formals v unit.formals) (Block unit.body.decls unit.body.stmts unit.body.handlers)
      → Alike T (code.sub_code program (code.sub_scope program s n unit) unit) (code.sub_code program (code.sub_scope program (prime o xs en s) n unit) unit)
  a_sub v n unit s o xs en k p =
      placed_like unit.formals v 0 _ o xs en k (λ t t'. Alike T (code.sub_code program t unit) (code.sub_code program t' unit))
      (λ t o k. (a_stmt (with_formals v unit.formals) t o xs en (Block unit.body.decls unit.body.stmts unit.body.handlers) k p, a_ending (with_formals v unit.formals) t o xs en unit.result k))

  pub a_main : (v : Around) (s : Scope) (o : Entity → Option Named) (xs : ℕ → Option ℕ) (en : Option ℕ) (decls : Decls) (rest rest' : Scope → Emit) (does : Around → Type 0) → Like T v s o xs en → ScopedMain program shown v decls does
      → ((u : Around) (t : Scope) (o : Entity → Option Named) (xs : ℕ → Option ℕ) (en : Option ℕ) → Like T u t o xs en → does u → Alike T (rest t) (rest' (prime o xs en t))) → Alike T (code.main_declared program s decls rest) (code.main_declared program (prime o xs en s) decls rest')
  a_main v s o xs en NoDecl rest rest' does k p f = f v s o xs en k p
  a_main v s o xs en (DeclareDefault x more) rest rest' does k p f =
      let n = length (object_layout program x) in
      let named : Named = code.main_named s.free n in (
        a_defaults v (taking n s) o xs en k (length program.subtypes) s.free (subtype_or_none program (slice_get program.objects x)),
        a_main (with_outer (VariableOf x) v) (code.main_object s (VariableOf x) n) (λ z. cond (entity_eq (VariableOf x) z) (Some named) (o z)) xs en more rest rest' does (like_object v s o xs en (VariableOf x) named k) p.1 f,
      )
  a_main v s o xs en (DeclareVariable x initial more) rest rest' does k p f =
      let n = width program initial in
      let named : Named = code.main_named s.free n in (
        a_into T program shown v (taking n s) o xs en 0 s.free _ initial k p.1,
        a_main (with_outer (VariableOf x) v) (code.main_object s (VariableOf x) n) (λ z. cond (entity_eq (VariableOf x) z) (Some named) (o z)) xs en more rest rest' does (like_object v s o xs en (VariableOf x) named k) p.2 f,
      )
  a_main v s o xs en (DeclareConstant x initial more) rest rest' does k p f =
      let n = width program initial in
      let named : Named = code.main_named s.free n in (
        a_into T program shown v (taking n s) o xs en 0 s.free _ initial k p.1,
        a_main (with_outer (ConstantOf x) v) (code.main_object s (ConstantOf x) n) (λ z. cond (entity_eq (ConstantOf x) z) (Some named) (o z)) xs en more rest rest' does (like_object v s o xs en (ConstantOf x) named k) p.2 f,
      )
  a_main v s o xs en (Mentions es more) rest rest' does k p f = a_main v s o xs en more rest rest' does k p.1 f
