-- The code of expressions, values and iterations in two scopes that agree in the names that are read is alike.
use Rattle.std.proofs.Common.{◌≡◌, ℕ, ◌+◌, List, nat_eq, Option, Some, None, Bool, true, false, cond, refl, sym, ap, ◌∙◌, subst, inl}
use Rattle.behaviours.specs.Paths.{Entity}
use Rattle.typed_tree.specs.declared.program.Formal.{Formal}
use Rattle.typed_tree.specs.Syntax.{Expr, Static, Variable, Constant, Parameter, Target, Group, Unary, Binary, AndThen, OrElse, Relation, Membership, If, Call, Convert, Reduction, Optional, Absent, Present, Selections, Whole, Field, Index, Actuals, NoActual, In, InOut, Out, CompositeInOut, CompositeOut, Value, Number, Cells, Composite, WholeVariable, WholeConstant, WholeTarget, CompositeIf, Aggregate, Associations, NoAssociation, Association, Iteration, Range, Components, Chunk, NoChunk, Count, Each, Program}
use Rattle.stack_code.specs.declared.instr.Instr.{Instr}
use Rattle.stack_code.specs.declared.instr.Instr.TheVariants as i
use Rattle.lower_emission.specs.Emits.{Emit}
use Rattle.lower_emission.specs.Scope.{Scope, moved_named, nested, none, one, own, taking, thread_scope, with_item, with_parameter, ◌⨟◌}
use Rattle.ada_lower.specs.Sights.{Named, array_root_of, constant_root_of, root_of}
use Rattle.ada_lower.specs.Emission.{associated, chunk_code, chunk_scope, component, composed, composite_width, course_code, emit, filtered, main_named, named_value, static_instr, binary_instr, first_parameter, folding, is_plain, turn_height, is_whole, items_code, own_cell, own_named, iterated, iterated_scope, passed, passing, put_into, range_scope, read, selected, threaded, turn_item, turns_code, width, is_repeated}
use Rattle.typed_scopes.specs.Scopes as scopes
use Rattle.typed_scopes.specs.Scopes.{Around, ScopedActuals, ScopedAssociations, ScopedChunk, ScopedComposite, ScopedExpr, ScopedIn, ScopedIteration, ScopedOptional, ScopedSelections, ScopedValue, with_chunk}
use Rattle.lower_laws.proofs.Alike.{Alike, Like, a_above, a_address, a_ascending, a_beyond, a_bounds, a_combined, a_cond, a_counting, a_ends, a_fillings, a_folding, a_indexed, a_item, a_load, a_named, a_component_address, a_component_value, a_operated, a_negated, a_stepping, a_turnings, a_where, a_within, array_same, chunk_object, chunk_prime, constant_same, leave, like_chunk, like_thread, marked, plain, prime, root_same, a_repeating}

module _ (T : ℕ → ℕ → Type 0) (program : Program) (shown : ℕ → Entity → Bool) where
  -- those of a function are of all modes
  in_actuals : (v : Around) (fs : List Formal) (x : Actuals) → ScopedIn program shown v fs x → ScopedActuals program shown v fs x
  in_actuals v fs NoActual p = p
  in_actuals v fs (In x value rest) p = let (gs, is, pv, pr) = p in (gs, is, pv, in_actuals v gs rest pr)
  in_actuals v fs (InOut x at r selections inner outer rest) p = absurd p
  in_actuals v fs (Out x at r selections inner outer rest) p = absurd p
  in_actuals v fs (CompositeInOut x at r selections subtype rest) p = absurd p
  in_actuals v fs (CompositeOut x at r selections subtype rest) p = absurd p

  -- what is done in each turn
  abbrev pub Turns : Around → (Scope → Emit) → (Scope → Emit) → Type 0
  Turns u body body' = (t : Scope) (o : Entity → Option Named) (xs : ℕ → Option ℕ) (en : Option ℕ) → Like T u t o xs en → Alike T (body t) (body' (prime o xs en t))

  abbrev pub turn_around : Around → Iteration → Around
  turn_around u (Range p reverse low high check filter) = scopes.with_parameter p u
  turn_around u (Components p constant at r x count stride dimensions filter) = u

  pub turn_does : (v u : Around) (it : Iteration) (does : Around → Type 0) → ScopedIteration program shown v u it does → does (turn_around u it)
  turn_does v u (Range p reverse low high check filter) does q = q.3
  turn_does v u (Components p constant at r x count stride dimensions filter) does q = q.4

  pub gone_through : (v u : Around) (it : Iteration) (does : Around → Type 0) → ScopedIteration program shown v u it does → ScopedIteration program shown v u it (λ u. Unit {0})
  gone_through v u (Range p reverse low high check filter) does q = (q.0, q.1, q.2, tt)
  gone_through v u (Components p constant at r x count stride dimensions filter) does q = (q.0, q.1, q.2, q.3, tt)

  -- in the scope of parameters of chunks
  like_same : (v u : Around) (s : Scope) (o : Entity → Option Named) (xs : ℕ → Option ℕ) (en : Option ℕ) → ((y : Entity) → u.object y ≡ v.object y) → Like T v s o xs en → Like T u s o xs en
  like_same v u s o xs en same k = ((λ y q. k.0 y (sym (same y) ∙ q)), k.1, k.2)

  pub a_chunk_one : (v : Around) (s : Scope) (o : Entity → Option Named) (xs : ℕ → Option ℕ) (en : Option ℕ) (chunk : Chunk) (h : ℕ) (j : Instr) → Like T v s o xs en → Alike T (one (chunk_scope chunk s) h j) (one (chunk_scope chunk (prime o xs en s)) h j)
  a_chunk_one v s o xs en NoChunk h j k = (plain T v s o xs en k)
  a_chunk_one v s o xs en (Count e) h j k = (plain T v s o xs en k)
  a_chunk_one v s o xs en (Each p low high check) h j k = (plain T v s o xs en k)

  -- the same cells of the own frame
  own_same : (v : Around) (s : Scope) (o : Entity → Option Named) (xs : ℕ → Option ℕ) (en : Option ℕ) (e : Expr) → Like T v s o xs en → ScopedExpr program shown v e → own_cell s e ≡ own_cell (prime o xs en s) e
  own_same v s o xs en (Variable at r x scalar) k p = ap (λ n. cond (is_whole x) (own_named n) None) (root_same T v s o xs en k r p.0)
  own_same v s o xs en (Constant at r x scalar) k p = ap (λ n. cond (is_whole x) (own_named n) None) (constant_same T v s o xs en k r p.0)
  own_same v s o xs en e k p = refl

  mutual
    unfolding emit

    pub a_emit : (v : Around) (s : Scope) (o : Entity → Option Named) (xs : ℕ → Option ℕ) (en : Option ℕ) (h : ℕ) (e : Expr) → Like T v s o xs en → ScopedExpr program shown v e → Alike T (emit program s h e) (emit program (prime o xs en s) h e)
    a_emit v s o xs en h (Static at value literal mentions) k p = (plain T v s o xs en k)
    a_emit v s o xs en h (Variable at r x scalar) k p = a_value v s o xs en h (root_of s r) (root_of (prime o xs en s) r) x (root_same T v s o xs en k r p.0) k p.1
    a_emit v s o xs en h (Constant at r x scalar) k p = a_value v s o xs en h (constant_root_of s r) (constant_root_of (prime o xs en s) r) x (constant_same T v s o xs en k r p.0) k p.1
    a_emit v s o xs en h (Parameter at j) k p = a_where T v s o xs en k h (s.parameter j)
    a_emit v s o xs en h (Target at scalar) k p = a_load T v s o xs en k h s.target
    a_emit v s o xs en h (Group e) k p = a_emit v s o xs en h e k p
    a_emit v s o xs en h (Unary at sign class e) k p = (a_emit v s o xs en h e k p, (plain T v s o xs en k))
    a_emit v s o xs en h (Binary at op class e f) k p = (a_emit v s o xs en h e k p.0, a_operated T v s o xs en k (h + 1) (static_instr op class f) (binary_instr op class) _ _ (a_emit v s o xs en (h + 1) f k p.1))
    a_emit v s o xs en h (AndThen e f) k p = (a_emit v s o xs en h e k p.0, ((marked T v s o xs en k), refl, refl, a_emit v s o xs en h f k p.1, (plain T v s o xs en k)))
    a_emit v s o xs en h (OrElse e f) k p = (a_emit v s o xs en h e k p.0, ((marked T v s o xs en k), refl, refl, (plain T v s o xs en k), a_emit v s o xs en h f k p.1))
    a_emit v s o xs en h (Relation class comparison e f) k p = (a_emit v s o xs en h e k p.0, (a_emit v s o xs en (h + 1) f k p.1, (plain T v s o xs en k)))
    a_emit v s o xs en h (Membership class negated e low high) k p =
        (a_emit v s o xs en h e k p.0, ((plain T v s o xs en k), (a_emit v (taking 1 s) o xs en h low k p.1, ((plain T v s o xs en k), (a_emit v (taking 2 s) o xs en h high k p.2, (a_within T v s o xs en k h class s.free, a_negated T v s o xs en k h negated))))))
    a_emit v s o xs en h (If condition value otherwise) k p = (a_emit v s o xs en h condition k p.0, ((marked T v s o xs en k), refl, refl, a_emit v s o xs en h value k p.1, a_emit v s o xs en h otherwise k p.2))
    a_emit v s o xs en h (Call at callee sub actuals) k p = (a_passed v (passing program sub s) o xs en h sub s.free p.0.unit.formals actuals k (in_actuals v p.0.unit.formals actuals p.2), (plain T v s o xs en k))
    a_emit v s o xs en h (Convert check e) k p = (a_emit v s o xs en h e k p, (plain T v s o xs en k))
    a_emit v s o xs en h (Reduction at attribute by initial None chunk iteration value) k p = (
      a_emit v s o xs en h initial k p.0,
      a_iterated v (with_chunk chunk v) s o xs en (h + 1) None iteration (λ t. emit program t (h + 1) value ⨟ folding t h by) (λ t. emit program t (h + 1) value ⨟ folding t h by) k (chunk_object T chunk v) (gone_through v (with_chunk chunk v) iteration (λ u. ScopedExpr program shown u value) p.4)
          (λ t o xs en k. (a_emit (turn_around (with_chunk chunk v) iteration) t o xs en (h + 1) value k (turn_does v (with_chunk chunk v) iteration (λ u. ScopedExpr program shown u value) p.4), a_folding T (turn_around (with_chunk chunk v) iteration) t o xs en k h by)),
    )
    a_emit v s o xs en h (Reduction at attribute by initial (Some site) chunk iteration value) k p = (
      a_emit v s o xs en h initial k p.0,
      (
        (plain T v s o xs en k),
        (
          (plain T v s o xs en k),
          (
            a_chunk v (nested (taking 1 s)) o xs en h chunk k p.1,
            (
              a_course v (with_chunk chunk v) (taking 2 (nested (taking 1 s))) o xs en h iteration k (gone_through v (with_chunk chunk v) iteration (λ u. ScopedExpr program shown u value) p.4),
              (
                a_ends T v (taking 2 (nested (taking 1 s))) o xs en k h iteration,
                (
                  (
                    (plain T v (nested (taking 1 s)) o xs en k),
                    (
                      (plain T v (nested (taking 1 s)) o xs en k),
                      (
                        (plain T v (nested (taking 1 s)) o xs en k),
                        (
                          ((refl, refl, refl, refl, k.2), refl, inl refl),
                          (
                            (marked T v (nested (taking 1 s)) o xs en k),
                            refl,
                            (
                              a_chunk_one v (taking 2 (thread_scope site s)) (λ y. moved_named (o y)) (λ n. None) None chunk 0 (i.LoadL 1) (like_thread T v s o xs en site k),
                              (
                                a_threaded v (thread_scope site s) (λ y. moved_named (o y)) (λ n. None) None 1 chunk (s.free + 1 + 1 + 1) iteration (λ u. emit program u 1 value ⨟ folding u 0 by) (λ u. emit program u 1 value ⨟ folding u 0 by)
                                    (like_thread T v s o xs en site k) (gone_through v (with_chunk chunk v) iteration (λ u. ScopedExpr program shown u value) p.4) (λ t o xs en k. (a_emit (turn_around (with_chunk chunk v) iteration) t o xs en 1 value k (turn_does v (with_chunk chunk v) iteration (λ u. ScopedExpr program shown u value) p.4), a_folding T (turn_around (with_chunk chunk v) iteration) t o xs en k 0 by)),
                                a_chunk_one v (taking 2 (thread_scope site s)) (λ y. moved_named (o y)) (λ n. None) None chunk 1 i.EndV (like_thread T v s o xs en site k),
                              ),
                            ),
                          ),
                        ),
                      ),
                    ),
                  ),
                  ((plain T v (nested (taking 1 s)) o xs en k), a_combined T v (taking 2 (taking 2 (taking 1 s))) o xs en k h by),
                ),
              ),
            ),
          ),
        ),
      ),
    )

    a_value : (v : Around) (s : Scope) (o : Entity → Option Named) (xs : ℕ → Option ℕ) (en : Option ℕ) (h : ℕ) (n n' : Option Named) (x : Selections) → n ≡ n' → Like T v s o xs en → ScopedSelections program shown v x → Alike T (named_value program s h n x) (named_value program (prime o xs en s) h n' x)
    a_value v s o xs en h n n' Whole same k p = a_named T v s o xs en k h n n' same
    a_value v s o xs en h n n' (Field number offset rest) same k p = (a_address T v s o xs en k h n n' same, ((plain T v s o xs en k), a_read v s o xs en (h + 1) rest k p))
    a_value v s o xs en h n n' (Index at e low high stride rest) same k p =
        a_cond T (is_whole rest) _ _ _ _ (a_component_value T v s o xs en k h n n' (main_named n) (main_named n') (own_cell s e) (own_cell (prime o xs en s) e) low high stride _ _ same (ap main_named same) (own_same v s o xs en e k p.0) (a_emit v s o xs en (h + 1) e k p.0))
        (a_component_address T v s o xs en k h n n' (main_named n) (main_named n') (own_cell s e) (own_cell (prime o xs en s) e) low high stride _ _ same (ap main_named same) (own_same v s o xs en e k p.0) (a_emit v s o xs en (h + 1) e k p.0), a_read v s o xs en (h + 1) rest k p.1)

    pub a_selected : (v : Around) (s : Scope) (o : Entity → Option Named) (xs : ℕ → Option ℕ) (en : Option ℕ) (h : ℕ) (x : Selections) → Like T v s o xs en → ScopedSelections program shown v x → Alike T (selected program s h x) (selected program (prime o xs en s) h x)
    a_selected v s o xs en h Whole k p = tt
    a_selected v s o xs en h (Field number offset rest) k p = ((plain T v s o xs en k), a_selected v s o xs en h rest k p)
    a_selected v s o xs en h (Index at e low high stride rest) k p = (a_indexed T v s o xs en k h (own_cell s e) (own_cell (prime o xs en s) e) low high stride _ _ (own_same v s o xs en e k p.0) (a_emit v s o xs en h e k p.0), a_selected v s o xs en h rest k p.1)

    a_read : (v : Around) (s : Scope) (o : Entity → Option Named) (xs : ℕ → Option ℕ) (en : Option ℕ) (h : ℕ) (x : Selections) → Like T v s o xs en → ScopedSelections program shown v x → Alike T (read program s h x) (read program (prime o xs en s) h x)
    a_read v s o xs en h Whole k p = (plain T v s o xs en k)
    a_read v s o xs en h (Field number offset rest) k p = ((plain T v s o xs en k), a_read v s o xs en h rest k p)
    a_read v s o xs en h (Index at e low high stride rest) k p =
        a_cond T (is_whole rest) _ _ _ _ (a_item T v s o xs en k h (own_cell s e) (own_cell (prime o xs en s) e) low high stride _ _ (own_same v s o xs en e k p.0) (a_emit v s o xs en h e k p.0))
        (a_indexed T v s o xs en k h (own_cell s e) (own_cell (prime o xs en s) e) low high stride _ _ (own_same v s o xs en e k p.0) (a_emit v s o xs en h e k p.0), a_read v s o xs en h rest k p.1)

    pub a_passed : (v : Around) (s : Scope) (o : Entity → Option Named) (xs : ℕ → Option ℕ) (en : Option ℕ) (h sub w : ℕ) (fs : List Formal) (x : Actuals) → Like T v s o xs en → ScopedActuals program shown v fs x → Alike T (passed program s h sub w x) (passed program (prime o xs en s) h sub w x)
    a_passed v s o xs en h sub w fs NoActual k p = tt
    a_passed v s o xs en h sub w fs (In formal value rest) k p = let (gs, is, pv, pr) = p in (a_into v s o xs en h _ _ value k pv, a_passed v s o xs en h sub w gs rest k pr)
    a_passed v s o xs en h sub w fs (InOut formal at r x inner outer rest) k p =
        let (gs, is, one', seen, px, pr) = p in
        ((a_address T v s o xs en k h (root_of s r) (root_of (prime o xs en s) r) (root_same T v s o xs en k r seen), (a_selected v s o xs en (h + 1) x k px, ((plain T v s o xs en k), ((plain T v s o xs en k), ((plain T v s o xs en k), (plain T v s o xs en k)))))), a_passed v s o xs en h sub w gs rest k pr)
    a_passed v s o xs en h sub w fs (Out formal at r x inner outer rest) k p =
        let (gs, is, one', seen, px, pr) = p in
        ((a_address T v s o xs en k h (root_of s r) (root_of (prime o xs en s) r) (root_same T v s o xs en k r seen), (a_selected v s o xs en (h + 1) x k px, ((plain T v s o xs en k), ((plain T v s o xs en k), (plain T v s o xs en k))))), a_passed v s o xs en h sub w gs rest k pr)
    a_passed v s o xs en h sub w fs (CompositeInOut formal at r x subtype rest) k p =
        let (gs, is, many, seen, px, pr) = p in
        (((plain T v s o xs en k), (a_address T v s o xs en k (h + 1) (root_of s r) (root_of (prime o xs en s) r) (root_same T v s o xs en k r seen), (a_selected v s o xs en (h + 1 + 1) x k px, ((plain T v s o xs en k), ((plain T v s o xs en k), (plain T v s o xs en k)))))), a_passed v s o xs en h sub w gs rest k pr)
    a_passed v s o xs en h sub w fs (CompositeOut formal at r x subtype rest) k p =
        let (gs, is, many, seen, px, pr) = p in
        (((plain T v s o xs en k), (a_address T v s o xs en k (h + 1) (root_of s r) (root_of (prime o xs en s) r) (root_same T v s o xs en k r seen), (a_selected v s o xs en (h + 1 + 1) x k px, ((plain T v s o xs en k), ((plain T v s o xs en k), (plain T v s o xs en k)))))), a_passed v s o xs en h sub w gs rest k pr)

    pub a_into : (v : Around) (s : Scope) (o : Entity → Option Named) (xs : ℕ → Option ℕ) (en : Option ℕ) (h t n : ℕ) (x : Value) → Like T v s o xs en → ScopedValue program shown v n x → Alike T (put_into program s h t x) (put_into program (prime o xs en s) h t x)
    a_into v s o xs en h t n (Number check e) k p = (a_emit v s o xs en h e k p.1, (plain T v s o xs en k))
    a_into v s o xs en h t n (Cells c) k p = a_composed v s o xs en h t n c k p

    pub a_composed : (v : Around) (s : Scope) (o : Entity → Option Named) (xs : ℕ → Option ℕ) (en : Option ℕ) (h t n : ℕ) (x : Composite) → Like T v s o xs en → ScopedComposite program shown v n x → Alike T (composed program s h t x) (composed program (prime o xs en s) h t x)
    a_composed v s o xs en h t n (WholeVariable at r x subtype) k p = ((plain T v s o xs en k), (a_address T v s o xs en k (h + 1) (root_of s r) (root_of (prime o xs en s) r) (root_same T v s o xs en k r p.1), (a_selected v s o xs en (h + 1 + 1) x k p.2, (plain T v s o xs en k))))
    a_composed v s o xs en h t n (WholeConstant at r x subtype) k p = ((plain T v s o xs en k), (a_address T v s o xs en k (h + 1) (constant_root_of s r) (constant_root_of (prime o xs en s) r) (constant_same T v s o xs en k r p.1), (a_selected v s o xs en (h + 1 + 1) x k p.2, (plain T v s o xs en k))))
    a_composed v s o xs en h t n (WholeTarget at subtype) k p = ((plain T v s o xs en k), (a_address T v s o xs en k (h + 1) s.target s.target refl, (plain T v s o xs en k)))
    a_composed v s o xs en h t n (CompositeIf condition value otherwise) k p = (a_emit v s o xs en h condition k p.0, ((marked T v s o xs en k), refl, refl, a_composed v s o xs en h t n value k p.1, a_composed v s o xs en h t n otherwise k p.2))
    a_composed v s o xs en h t n (Aggregate at size associations) k p = ((plain T v s o xs en k), ((plain T v s o xs en k), a_associated v s o xs en h t n associations k p.1))

    a_associated : (v : Around) (s : Scope) (o : Entity → Option Named) (xs : ℕ → Option ℕ) (en : Option ℕ) (h t n : ℕ) (x : Associations) → Like T v s o xs en → ScopedAssociations program shown v n x → Alike T (associated program s h t x) (associated program (prime o xs en s) h t x)
    a_associated v s o xs en h t n NoAssociation k p = tt
    a_associated v s o xs en h t n (Association runs None mentions value rest) k p = (
      a_cond T (is_repeated runs value) _ _ _ _
          (a_repeating T v s o xs en k h t (component program (taking 2 s) h (s.free + 1) value) (component program (taking 2 (prime o xs en s)) h (s.free + 1) value) runs (a_component v (taking 2 s) o xs en h (s.free + 1) _ value k p.2.2))
          (a_fillings T v s o xs en k h t (width program value) (is_plain value) (λ n. put_into program s h (t + n) value) (λ n. put_into program (prime o xs en s) h (t + n) value) runs (λ n. a_into v s o xs en h (t + n) _ value k p.2.2)),
      a_associated v s o xs en h t n rest k p.3,
    )
    a_associated v s o xs en h t n (Association runs (Some x) mentions value rest) k p = (
      a_turnings T v s o xs en k h t x.first (component program (iterated_scope s x.parameter) (turn_height runs h) (s.free + 1 + 1) value) (component program (iterated_scope (prime o xs en s) x.parameter) (turn_height runs h) (s.free + 1 + 1) value) runs (a_component (scopes.with_parameter x.parameter v) (iterated_scope s x.parameter) o xs en (turn_height runs h) (s.free + 1 + 1) _ value k p.2.2),
      a_associated v s o xs en h t n rest k p.3,
    )

    a_component : (v : Around) (s : Scope) (o : Entity → Option Named) (xs : ℕ → Option ℕ) (en : Option ℕ) (h at n : ℕ) (x : Value) → Like T v s o xs en → ScopedValue program shown v n x → Alike T (component program s h at x) (component program (prime o xs en s) h at x)
    a_component v s o xs en h at n (Number check e) k p = ((plain T v s o xs en k), (a_emit v s o xs en (h + 1) e k p.1, ((plain T v s o xs en k), (plain T v s o xs en k))))
    a_component v s o xs en h at n (Cells c) k p = (a_composed v (taking (composite_width program c) s) o xs en h s.free n c k p, ((plain T v s o xs en k), ((plain T v (taking (composite_width program c) s) o xs en k), (plain T v s o xs en k))))

    pub a_filtered : (v : Around) (s : Scope) (o : Entity → Option Named) (xs : ℕ → Option ℕ) (en : Option ℕ) (h : ℕ) (filter : Optional) (b b' : Emit) → Like T v s o xs en → ScopedOptional program shown v filter → Alike T b b' → Alike T (filtered program s h filter b) (filtered program (prime o xs en s) h filter b')
    a_filtered v s o xs en h Absent b b' k p f = f
    a_filtered v s o xs en h (Present e) b b' k p f = (a_emit v s o xs en h e k p, ((marked T v s o xs en k), refl, f))

    pub a_iterated : (v u : Around) (s : Scope) (o : Entity → Option Named) (xs : ℕ → Option ℕ) (en : Option ℕ) (h : ℕ) (number : Option ℕ) (it : Iteration) (body body' : Scope → Emit) → Like T v s o xs en → ((y : Entity) → u.object y ≡ v.object y)
        → ScopedIteration program shown v u it (λ u. Unit {0}) → Turns (turn_around u it) body body' → Alike T (iterated program s h number it body) (iterated program (prime o xs en s) h number it body')
    a_iterated v u s o xs en h number (Range p reverse low high check filter) body body' k same q turns =
        let (ql, qh, qf, qd) = q in (
          a_emit v s o xs en h low k ql,
          (
            (plain T v s o xs en k),
            (
              a_emit v (taking 1 s) o xs en h high k qh,
              (
                (plain T v s o xs en k),
                (
                  a_ascending T v s o xs en k h s.free,
                  (
                    (marked T v s o xs en k),
                    refl,
                    (
                      a_bounds T v s o xs en k h s.free check,
                      (
                        (marked T v s o xs en k),
                        refl,
                        refl,
                        (λ a b t. (
                          (plain T v s o xs en k),
                          leave T (scopes.with_parameter p u) (with_parameter p (own (first_parameter reverse s.free)) (taking 2 s)) o xs en number a b t (like_same v u s o xs en same k) (λ t t'. Alike T (filtered program t h filter (body t)) (filtered program t' h filter (body' t')))
                              (λ t o xs en k. a_filtered (scopes.with_parameter p u) t o xs en h filter (body t) (body' (prime o xs en t)) k qf (turns t o xs en k)),
                        )),
                        (λ a b t. a_counting T v s o xs en k h reverse s.free a b t),
                      ),
                    ),
                  ),
                ),
              ),
            ),
          ),
        )
    a_iterated v u s o xs en h number (Components p constant at r x count stride dimensions filter) body body' k same q turns =
        let (some, seen, qx, qf, qd) = q in (
          (a_address T v s o xs en k h (array_root_of constant s r) (array_root_of constant (prime o xs en s) r) (array_same T v s o xs en k constant r seen), (a_selected v s o xs en (h + 1) x k qx, (plain T v s o xs en k))),
          a_cond T (nat_eq count 0) none _ none _ tt (
            (plain T v s o xs en k),
            (
              (plain T v s o xs en k),
              (
                (plain T v s o xs en k),
                (
                  (plain T v s o xs en k),
                  (
                    (marked T v s o xs en k),
                    refl,
                    refl,
                    (λ a b t. (
                      (plain T v s o xs en k),
                      leave T u (with_item constant p (record { through = true; place = own s.free; cells = stride }) (taking 3 s)) o xs en number a b t (like_same v u s o xs en same k) (λ t t'. Alike T (filtered program t h filter (body t)) (filtered program t' h filter (body' t')))
                          (λ t o xs en k. a_filtered u t o xs en h filter (body t) (body' (prime o xs en t)) k qf (turns t o xs en k)),
                    )),
                    (λ a b t. a_stepping T v s o xs en k h s.free stride (s.free + 1) a b t),
                  ),
                ),
              ),
            ),
          ),
        )

    pub a_chunk : (v : Around) (s : Scope) (o : Entity → Option Named) (xs : ℕ → Option ℕ) (en : Option ℕ) (h : ℕ) (x : Chunk) → Like T v s o xs en → ScopedChunk program shown v x → Alike T (chunk_code program s h x) (chunk_code program (prime o xs en s) h x)
    a_chunk v s o xs en h NoChunk k p = ((plain T v s o xs en k), ((plain T v s o xs en k), ((plain T v s o xs en k), (plain T v s o xs en k))))
    a_chunk v s o xs en h (Count e) k p = ((plain T v s o xs en k), ((plain T v s o xs en k), (a_emit v (taking 1 s) o xs en h e k p, ((plain T v s o xs en k), ((plain T v s o xs en k), ((plain T v s o xs en k), a_above T v s o xs en k h s.free))))))
    a_chunk v s o xs en h (Each j low high check) k p =
        (a_emit v s o xs en h low k p.0, ((plain T v s o xs en k), (a_emit v (taking 1 s) o xs en h high k p.1, ((plain T v s o xs en k), (a_above T v s o xs en k h s.free, (a_bounds T v s o xs en k h s.free check, a_beyond T v s o xs en k h))))))

    pub a_course : (v u : Around) (s : Scope) (o : Entity → Option Named) (xs : ℕ → Option ℕ) (en : Option ℕ) (h : ℕ) (it : Iteration) → Like T v s o xs en → ScopedIteration program shown v u it (λ u. Unit {0}) → Alike T (course_code program s h it) (course_code program (prime o xs en s) h it)
    a_course v u s o xs en h (Range p reverse low high check filter) k q =
        (a_emit v s o xs en h low k q.0, ((plain T v s o xs en k), (a_emit v (taking 1 s) o xs en h high k q.1, ((plain T v s o xs en k), (a_ascending T v s o xs en k h s.free, ((marked T v s o xs en k), refl, a_bounds T v s o xs en k h s.free check))))))
    a_course v u s o xs en h (Components p constant at r x count stride dimensions filter) k q =
        (a_address T v s o xs en k h (array_root_of constant s r) (array_root_of constant (prime o xs en s) r) (array_same T v s o xs en k constant r q.1), (a_selected v s o xs en (h + 1) x k q.2, (plain T v s o xs en k)))

    pub a_threaded : (v : Around) (s : Scope) (o : Entity → Option Named) (xs : ℕ → Option ℕ) (en : Option ℕ) (h : ℕ) (chunk : Chunk) (around : ℕ) (it : Iteration) (body body' : Scope → Emit) → Like T v s o xs en → ScopedIteration program shown v (with_chunk chunk v) it (λ u. Unit {0}) → Turns (turn_around (with_chunk chunk v) it) body body'
        → Alike T (threaded program s h chunk around it body) (threaded program (prime o xs en s) h chunk around it body')
    a_threaded v s o xs en h chunk around (Range p reverse low high check filter) body body' k q turns =
        let u : Around = with_chunk chunk v in
        let c : Scope = chunk_scope chunk (taking 2 s) in
        let k' : Like T u c o xs en = like_chunk T chunk v (taking 2 s) o xs en k in
        subst (λ z. Alike T (turns_code c h (s.free + 2) (one c h i.Turn ⨟ filtered program (range_scope c None p false 0) h filter (body (range_scope c None p false 0)))) (turns_code z h (s.free + 2) (one z h i.Turn ⨟ filtered program (range_scope z None p false 0) h filter (body' (range_scope z None p false 0)))))
        (sym (chunk_prime T chunk o xs en (taking 2 s))) (
          a_ascending T u c o xs en k' h (s.free + 2),
          (
            marked T u c o xs en k',
            refl,
            (
              marked T u c o xs en k',
              refl,
              refl,
              (λ a b t. (plain T u c o xs en k', a_filtered (scopes.with_parameter p u) (range_scope c None p false 0) o xs en h filter (body (range_scope c None p false 0)) (body' (range_scope (prime o xs en c) None p false 0)) k' q.2 (turns (range_scope c None p false 0) o xs en k'))),
              (λ a b t. a_counting T u c o xs en k' h false (s.free + 2) a b t),
            ),
          ),
        )
    a_threaded v s o xs en h chunk around (Components p constant at r x count stride dimensions filter) body body' k q turns =
        let u : Around = with_chunk chunk v in
        let c : Scope = chunk_scope chunk (taking 2 s) in
        let k' : Like T u c o xs en = like_chunk T chunk v (taking 2 s) o xs en k in
        subst (λ z. Alike T (items_code c h (s.free + 2) around stride count (one c h i.Turn ⨟ filtered program (turn_item c constant p stride) h filter (body (turn_item c constant p stride)))) (items_code z h (s.free + 2) around stride count (one z h i.Turn ⨟ filtered program (turn_item z constant p stride) h filter (body' (turn_item z constant p stride)))))
        (sym (chunk_prime T chunk o xs en (taking 2 s))) (
          a_ascending T u c o xs en k' h (s.free + 2),
          (
            marked T u c o xs en k',
            refl,
            (
              plain T u c o xs en k',
              (
                plain T u c o xs en k',
                (
                  plain T u c o xs en k',
                  (
                    plain T u c o xs en k',
                    (
                      marked T u c o xs en k',
                      refl,
                      refl,
                      (λ a b t. (plain T u c o xs en k', a_filtered u (turn_item c constant p stride) o xs en h filter (body (turn_item c constant p stride)) (body' (turn_item (prime o xs en c) constant p stride)) k' q.3 (turns (turn_item c constant p stride) o xs en k'))),
                      (λ a b t. a_stepping T u c o xs en k' h (s.free + 2 + 1 + 1) stride (s.free + 2) a b t),
                    ),
                  ),
                ),
              ),
            ),
          ),
        )
