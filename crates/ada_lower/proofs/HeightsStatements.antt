-- The code of statements, declarations, handlers and parallel constructs: its heights fit.
use Rattle.std.proofs.Common.{◌≡◌, ℕ, zero, suc, ◌+◌, ◌-◌, ◌*◌, ◌≤◌, pos, ◌&&◌, List, [], ◌∷◌, ◌++◌, length, slice_get, nat_eq, Option, Some, None, Bool, true, false, cond, not, refl, sym, ap, ◌∙◌, subst, arith, inl, inr, length-append, suc-mul, mul-le-mul_right}
use Rattle.std.specs.Prelude.{IsSomeAnd}
use Rattle.std.proofs.lemmas.Option.{none-some, slice_get_past}
use Rattle.behaviours.specs.Paths.{Entity, VariableOf, ConstantOf}
use Rattle.ada_base.specs.declared.reason.Reason.{Reason}
use Rattle.ada_meaning.proofs.Cells.{some_same}
use Rattle.ada_meaning.specs.Values.{components, layout_of, layout_within, fields, repeated}
use Rattle.ada_meaning.specs.Meaning.{object_layout, arms_of}
use Rattle.typed_tree.specs.declared.scalars.Class.{Class}
use Rattle.typed_tree.specs.declared.scalars.Class.TheVariants as class
use Rattle.ada_base.specs.declared.operation.Base.TheVariants.{Narrow, Wide, Modulo}
use Rattle.lower_emission.proofs.Fused.{of_set}
use Rattle.typed_tree.specs.declared.scalars.Scalar.{Scalar}
use Rattle.typed_tree.specs.declared.statements.Span.{Span}
use Rattle.typed_tree.specs.declared.program.Field.{Field}
use Rattle.typed_tree.specs.declared.program.Object.{Object}
use Rattle.typed_tree.specs.Syntax.{Optional, Absent, Present, Actuals, NoActual, In as InMode, InOut, Out, CompositeInOut, CompositeOut, Number, Cells, Pieces, NoPiece, Text, Image, Padded, Decls, NoDecl, DeclareDefault, DeclareVariable, DeclareConstant, Mentions, Iteration, Chunk, NoChunk, Count, Each, Stmt, Null, Assign, CallProcedure, Exit, Return, ReturnValue, Raise, Reraise, IfThen, Case, Loop, For, ParallelFor, Parallel, Block, Put, Get, Stmts, End, Then, Alternatives, NoAlternative, Alternative, Handled, Others, Reasons, Handlers, NoHandler, Handler, Arms, NoArm, Arm, Subtype, OfScalar, Array, Record, Program}
use Rattle.stack_code.specs.declared.code.Around.{Around as Body}
use Rattle.stack_code.specs.declared.code.Around.TheVariants.{Sub, Site}
use Rattle.stack_code.specs.declared.code.Code.{Code}
use Rattle.stack_code.specs.declared.code.SiteKind.TheVariants as kind
use Rattle.stack_code.specs.declared.instr.Instr.TheVariants as i
use Rattle.stack_code.specs.Operands.{is_reduction}
use Rattle.stack_code.specs.Valid.{Has, IsThread, IsCallee, outward}
use Rattle.lower_emission.specs.declared.types.Where.{Where}
use Rattle.lower_emission.specs.declared.types.Named.{Named}
use Rattle.lower_emission.specs.declared.types.Level.{Level}
use Rattle.lower_emission.specs.declared.types.Level.TheVariants.{Own}
use Rattle.lower_emission.specs.declared.types.Leaving.{Leaving}
use Rattle.lower_emission.specs.declared.types.Leaving.TheVariants.{ByReturn, ByValue, ByEnd, ByLeave}
use Rattle.lower_emission.specs.Emits.{Emit}
use Rattle.lower_emission.specs.Scope.{Scope, own, taking, nested, thread_scope, with_object, with_target, with_handled, with_exit, with_entry, root_of, none, one, ◌⨟◌, choose, when_}
use Rattle.lower_emission.specs.Emission.{is_whole, chunk_scope, loop_kind, shapes, shapes_cells, formals_in, formal_of, cells_of, passing, composite_width, width}
unfoldable use Rattle.lower_emission.specs.Emission.{emit, selected, passed, put_into, composed, chunk_code, course_code, threaded}
use Rattle.lower_emission.specs.Statements.{no_handler, is_end, assigned, in_span, chosen, has_reason, handled_by, returning, returning_value, away, exiting, handled_target, image_instr, send_instr, width_of, piece_texts, object_here, exits_of, arm_exits, left_by, exits_code, is_own, left_code, field_defaults, default_of, defaults_within, subtype_or_none, defaulted, declared, back_one, back_cells, parallel_for, in_share, arms_code, chunk_by, arm_scope, parallel_block, store_checked}
unfoldable use Rattle.lower_emission.specs.Statements.{back_code, piece_values, stmt, all, cases, handling, arm_codes}
use Rattle.ada_lower.specs.Defaults.{EachFilled, FilledOf, FilledWithin, Filled}
use Rattle.ada_lower.specs.Ready.{Calls, ReadyOptional, ReadyIteration, ReadyChunk, ReadyPieces, ReadyDecls, ReadyStmt, ReadyAll, ReadyAlternatives, ReadyArms, ReadyHandlers}
use Rattle.ada_lower.proofs.Heights.{Place, Here, up, Also, In, Told, Kept, Firm}
use Rattle.ada_lower.proofs.HeightsScopes.{at, Known, Fits, in_le, known_taking, known_nested, known_more, known_object, known_target, known_handled, known_exit, known_entry, known_thread, known_chunk, plain, firm_raise, firm_own, firm_local, kept_next, kept_cell, firm_keep, firm_load_at, firm_store_at, firm_address_of, firm_cond, firm_address, root_fits, firm_checked, firm_call, LevelFits}
use Rattle.ada_lower.proofs.HeightsValues.{Same, at_same, chunk_same, told_around, told_cells, told_thread, told_far, firm_fork, firm_nest, firm_unnest, firm_doubled, chunk_room, course_room, firm_ends, firm_emit, firm_selected, firm_passed, firm_into, firm_composed, firm_iterated, firm_chunk, firm_course, firm_threaded}

module _ (c : Code) where
  -- how a body is left by a return fits it
  abbrev pub LeavingFits : Body → Leaving → Type 0
  LeavingFits b ByReturn = IsCallee c b false
  LeavingFits b ByValue = IsCallee c b true
  LeavingFits b ByEnd = b ≡ Sub 0
  LeavingFits b ByLeave = IsThread c b false

  -- the threads of statements are those of loops and blocks
  abbrev pub ThreadFits : Body → Type 0
  ThreadFits (Sub k) = Unit {0}
  ThreadFits (Site k) = IsThread c (Site k) false

  -- what statements know besides names
  pub record Knows (l : ℕ → Place → Type 0) (s : Scope) : Type 0 where
    pub names : Known c l s
    pub flat : s.nest ≡ 0
    pub exits : (n to : ℕ) → s.exits n ≡ Some to → l to (at s 0)
    pub leaving : LeavingFits s.body s.leaving
    pub threads : ThreadFits s.body

  pub knows_as : (l l' : ℕ → Place → Type 0) (s u : Scope) → Known c l' u → Same s u → ((n : ℕ) (P : Place) → l n P → l' n P) → Knows l s → Knows l' u
  knows_as l l' s u names same up k = record {
    names = names;
    flat = same.1 ∙ k.flat;
    exits = λ n to e. subst (λ P. l' to P) (sym (at_same s u 0 same)) (up to (at s 0) (k.exits n to (sym (same.3 n) ∙ e)));
    leaving = subst (λ b. LeavingFits b u.leaving) (sym same.0) (subst (λ w. LeavingFits s.body w) (sym same.2) k.leaving);
    threads = subst (λ b. ThreadFits b) (sym same.0) k.threads;
  }

  abbrev pub alike : (s : Scope) → Same s s
  alike s = (refl, refl, refl, (λ n. refl))

  pub knows_taking : (l : ℕ → Place → Type 0) (s : Scope) (n : ℕ) → Knows l s → Knows l (taking n s)
  knows_taking l s n k = knows_as l l s (taking n s) (known_taking c l s n k.names) (alike s) (λ n P z. z) k

  pub knows_here : (l : ℕ → Place → Type 0) (s : Scope) (x : Entity) (n : ℕ) → Knows l s → Knows l (object_here s x n)
  knows_here l s x n k =
      knows_as l l s (object_here s x n) (known_taking c l (with_object x (record { through = false; place = own s.free; cells = n }) s) n (known_object c l s x (record { through = false; place = own s.free; cells = n }) (omega arith) k.names)) (alike s) (λ n P z. z) k

  knows_exit : (l : ℕ → Place → Type 0) (s : Scope) (number x : ℕ) → Knows l s → Knows (Also l x (at s 0)) (with_exit number x s)
  knows_exit l s number x k = record {
    names = known_exit c (Also l x (at s 0)) s number x (known_more c l s x (at s 0) k.names);
    flat = k.flat;
    exits = λ n to e. go n to (nat_eq number n) e;
    leaving = k.leaving;
    threads = k.threads;
  }
    where
      go : (n to : ℕ) (b : Bool) → cond b (Some x) (s.exits n) ≡ Some to → Also l x (at s 0) to (at s 0)
      go n to true e = inr (sym (some_same x to e), refl)
      go n to false e = inl (k.exits n to e)

  knows_entry : (l : ℕ → Place → Type 0) (s : Scope) (h : ℕ) → Knows l s → Knows (Also l h (Here s.body 1 s.nest)) (with_entry h s)
  knows_entry l s h k = record { names = known_entry c l s h k.flat k.names; flat = k.flat; exits = λ n to e. inl (k.exits n to e); leaving = k.leaving; threads = k.threads }

  -- the scope of a construct's threads
  knows_thread : (l : ℕ → Place → Type 0) (s : Scope) (site : ℕ) → Known c l (thread_scope site s) → IsThread c (Site site) false → Knows l (thread_scope site s)
  knows_thread l s site k thread = record { names = k; flat = refl; exits = λ n to e. absurd (none-some to e); leaving = thread; threads = thread }

  knows_turn : (l : ℕ → Place → Type 0) (s u : Scope) (number x : ℕ) → Same (with_exit number x s) u → Known c (Also l x (at s 0)) u → Knows l s → Knows (Also l x (at s 0)) u
  knows_turn l s u number x same ku k = knows_as (Also l x (at s 0)) (Also l x (at s 0)) (with_exit number x s) u ku same (λ n P z. z) (knows_exit l s number x k)

  knows_chunk : (l : ℕ → Place → Type 0) (chunk : Chunk) (t : Scope) → Knows l t → Knows l (chunk_scope chunk (taking 2 t))
  knows_chunk l chunk t k = knows_as l l (taking 2 t) (chunk_scope chunk (taking 2 t)) (known_chunk c l chunk (taking 2 t) (known_taking c l t 2 k.names)) (chunk_same chunk (taking 2 t)) (λ n P z. z) (knows_taking l t 2 k)

  -- ---- leaving

  module _ (l : ℕ → Place → Type 0) (s : Scope) (k : Knows l s) where
    firm_away : (loop : ℕ) (b : Body) → s.body ≡ b → ThreadFits b → (Q : Place) → Firm c l (away s loop b) (at s 0) Q
    firm_away loop (Sub j) e w Q = firm_raise c l s k.names 0 _ Q
    firm_away loop (Site j) e w Q = record { here = refl; marked = k.names.entry; base = 0; operands = refl; begun = omega arith; ways = tt; belongs = λ q. subst (λ b. IsThread c b false) (sym e) w }

    firm_exiting : (loop : ℕ) (o : Option ℕ) → s.exits loop ≡ o → (Q : Place) → Firm c l (exiting s loop o) (at s 0) Q
    firm_exiting loop None e Q = firm_away loop s.body refl k.threads Q
    firm_exiting loop (Some to) e Q = record { here = refl; marked = k.names.entry; base = 0; operands = refl; begun = omega arith; ways = k.exits loop to e; belongs = λ q. tt }

    firm_returning : (w : Leaving) → LeavingFits s.body w → (Q : Place) → Firm c l (returning s 0 w) (at s 0) Q
    firm_returning ByReturn f Q = record { here = refl; marked = k.names.entry; base = 0; operands = refl; begun = omega arith; ways = tt; belongs = λ q. f }
    firm_returning ByValue f Q = (at s 1, plain c l s k.names 0 (i.Push (pos 0)) tt, record { here = refl; marked = k.names.entry; base = 0; operands = refl; begun = omega arith; ways = tt; belongs = λ q. f })
    firm_returning ByEnd f Q = record { here = refl; marked = k.names.entry; base = 0; operands = refl; begun = omega arith; ways = tt; belongs = λ q. f }
    firm_returning ByLeave f Q = record { here = refl; marked = k.names.entry; base = 0; operands = refl; begun = omega arith; ways = tt; belongs = λ q. f }

    firm_returning_value : (w : Leaving) → LeavingFits s.body w → (Q : Place) → Firm c l (returning_value s w) (at s 1) Q
    firm_returning_value ByReturn f Q = record { here = refl; marked = k.names.entry; base = 1; operands = refl; begun = omega arith; ways = tt; belongs = λ q. f }
    firm_returning_value ByValue f Q = record { here = refl; marked = k.names.entry; base = 0; operands = refl; begun = omega arith; ways = tt; belongs = λ q. f }
    firm_returning_value ByEnd f Q = record { here = refl; marked = k.names.entry; base = 1; operands = refl; begun = omega arith; ways = tt; belongs = λ q. f }
    firm_returning_value ByLeave f Q = record { here = refl; marked = k.names.entry; base = 0; operands = refl; begun = omega arith; ways = tt; belongs = λ q. f }

    firm_reraise : (Q : Place) → Firm c l (one s 1 i.Reraise) (at s 1) Q
    firm_reraise Q = record { here = refl; marked = k.names.entry; base = 0; operands = refl; begun = omega arith; ways = tt; belongs = λ q. tt }

    firm_handled : (o : Option Where) → s.handled ≡ o → Kept c (handled_target s o) → (Q : Place) → Firm c l (handled_target s o) (at s 0) Q
    firm_handled None e r Q = firm_raise c l s k.names 0 _ Q
    firm_handled (Some w) e (r, r') Q = (at s 1, firm_load_at c l s k.names 0 w.level w.cell (k.names.handled w e) r.0, firm_reraise Q)

    -- ---- output

    firm_image : (class : Class) → Firm c l (one s 1 (image_instr class)) (at s 1) (at s 0)
    firm_image class.Boolean = plain c l s k.names 0 i.Bool tt
    firm_image (class.Integer Narrow) = plain c l s k.names 0 i.Img tt
    firm_image (class.Integer Wide) = plain c l s k.names 0 i.Img tt
    firm_image (class.Integer (Modulo d)) = plain c l s k.names 0 i.UImg tt
    firm_image class.Universal = plain c l s k.names 0 i.Img tt

    firm_send : (feed : Bool) → Firm c l (one s 0 (send_instr feed)) (at s 0) (at s 0)
    firm_send true = plain c l s k.names 0 i.SendLn tt
    firm_send false = plain c l s k.names 0 i.Send tt

    -- cells of values from one on
    abbrev PiecesIn : ℕ → Pieces → Type 0
    PiecesIn d NoPiece = Unit {0}
    PiecesIn d (Text bytes rest) = PiecesIn d rest
    PiecesIn d (Image class e rest) = In c s.body d × PiecesIn (d + 1) rest
    PiecesIn d (Padded class e width rest) = In c s.body d × PiecesIn (d + 1) rest

    firm_texts : (d : ℕ) (x : Pieces) → PiecesIn d x → Kept c (piece_texts s d x) → Firm c l (piece_texts s d x) (at s 0) (at s 0)
    firm_texts d NoPiece w r = refl
    firm_texts d (Text bytes rest) w (r, r') = (at s 0, record { here = refl; marked = k.names.entry; base = 0; operands = refl; begun = omega arith; ways = refl; belongs = λ q. r.1 }, firm_texts d rest w r')
    firm_texts d (Image class e rest) w (r1, (r2, r3)) = (at s 1, firm_own c l s k.names 0 d w.0, (at s 0, firm_image class, firm_texts (d + 1) rest w.1 r3))
    firm_texts d (Padded class e width rest) w (r1, (r2, r3)) = (at s 1, firm_own c l s k.names 0 d w.0, (at s 0, plain c l s k.names 0 (i.Wide (width_of width)) tt, firm_texts (d + 1) rest w.1 r3))

    -- ---- choices

    firm_span : (d : ℕ) (r : Span) → In c s.body d → Firm c l (in_span s d r.low r.high) (at s 0) (at s 1)
    firm_span d r cell =
        (at s 1, firm_own c l s k.names 0 d cell, (at s 2, plain c l s k.names 1 (i.Push r.low) tt, (at s 1, plain c l s k.names 0 i.Ge tt, (at s 2, firm_own c l s k.names 1 d cell, (at s 3, plain c l s k.names 2 (i.Push r.high) tt, (at s 2, plain c l s k.names 1 i.Le tt, plain c l s k.names 0 i.Min tt))))))

    firm_chosen : (d : ℕ) (rs : List Span) → In c s.body d → Firm c l (chosen s d rs) (at s 0) (at s 1)
    firm_chosen d [] cell = plain c l s k.names 0 (i.Push (pos 0)) tt
    firm_chosen d (r ∷ rs) cell = (at s 1, firm_span d r cell, (refl, k.names.entry, refl, plain c l s k.names 0 (i.Push (pos 1)) tt, firm_chosen d rs cell))

    firm_reason : (d : ℕ) (rs : List Reason) → In c s.body d → Firm c l (has_reason s d rs) (at s 0) (at s 1)
    firm_reason d [] cell = plain c l s k.names 0 (i.Push (pos 0)) tt
    firm_reason d (r ∷ rs) cell =
        (at s 1, (at s 1, firm_own c l s k.names 0 d cell, (at s 2, plain c l s k.names 1 (i.Push _) tt, plain c l s k.names 0 i.Eq tt)), (refl, k.names.entry, refl, plain c l s k.names 0 (i.Push (pos 1)) tt, firm_reason d rs cell))

    firm_handled_by : (handled : Handled) (stmts rest : Emit) (d : ℕ) → In c s.body d → (Kept c stmts → Firm c l stmts (at s 0) (at s 0)) → (Kept c rest → Firm c l rest (at s 0) (at s 0)) → Kept c (handled_by handled stmts rest s d) → Firm c l (handled_by handled stmts rest s d) (at s 0) (at s 0)
    firm_handled_by Others stmts rest d cell f g r = f r
    firm_handled_by (Reasons reasons) stmts rest d cell f g (r1, (r2, r3, r4)) = (at s 1, firm_reason d reasons cell, (refl, k.names.entry, refl, f r3, g r4))

    -- ---- behind a fork

    firm_left_by : (d way : ℕ) → In c s.body d → Firm c l (left_by s d way) (at s 0) (at s 1)
    firm_left_by d way cell = (at s 1, firm_own c l s k.names 0 d cell, (at s 2, plain c l s k.names 1 (i.Push (pos way)) tt, plain c l s k.names 0 i.Eq tt))

    firm_exits : (d : ℕ) (number : Option ℕ) (ns : List ℕ) → In c s.body d → Firm c l (exits_code s d number ns) (at s 0) (at s 0)
    firm_exits d number [] cell = refl
    firm_exits d number (n ∷ ns) cell = (at s 0, go (is_own number n), firm_exits d number ns cell)
      where
        go : (b : Bool) → Firm c l (cond b none (left_by s d (n + 3) ⨟ when_ s 0 (exiting s n (s.exits n)))) (at s 0) (at s 0)
        go true = refl
        go false = (at s 1, firm_left_by d (n + 3) cell, (refl, k.names.entry, refl, firm_exiting n (s.exits n) refl (at s 0)))

    firm_left : (number : Option ℕ) (loops : List ℕ) → Kept c (left_code s number loops) → Firm c l (left_code s number loops) (at s 2) (at s 0)
    firm_left number loops (r1, (r2, (r3, r4))) =
        let all : In c s.body (s.free + 1 + 1) = kept_next c l s k.names (s.free + 1) r2.0 in
        let c0 : In c s.body s.free = in_le c s.body s.free (s.free + 1 + 1) (omega arith) all in
        let c1 : In c s.body (s.free + 1) = in_le c s.body (s.free + 1) (s.free + 1 + 1) (omega arith) all in (
          at s 1,
          firm_keep c l s k.names 1 s.free r1,
          (
            at s 0,
            firm_keep c l s k.names 0 (s.free + 1) r2,
            (
              at s 1,
              firm_own c l s k.names 0 s.free c0,
              (
                refl,
                k.names.entry,
                refl,
                (
                  at s 0,
                  (at s 1, firm_left_by s.free 1 c0, (at s 0, (refl, k.names.entry, refl, firm_returning s.leaving k.leaving (at s 0)), (at s 1, firm_left_by s.free 2 c0, (refl, k.names.entry, refl, (at s 1, firm_own c l s k.names 0 (s.free + 1) c1, firm_returning_value s.leaving k.leaving (at s 0)))))),
                  firm_exits s.free number loops c0,
                ),
              ),
            ),
          ),
        )

    -- ---- assignments

    firm_store_checked : (x : Scalar) (level : Level) (n : ℕ) → LevelFits c s.body s.free level n → Kept c (store_checked s x level n) → Firm c l (store_checked s x level n) (at s 1) (at s 0)
    firm_store_checked x Own n f r = of_set (λ j. Firm c l (one s 1 j) (at s 1) (at s 0)) x n (record { here = refl; marked = k.names.entry; base = 0; operands = refl; begun = omega arith; ways = refl; belongs = λ q. in_le c s.body n s.free f r.0 }) (record { here = refl; marked = k.names.entry; base = 0; operands = refl; begun = omega arith; ways = refl; belongs = λ q. in_le c s.body n s.free f r.0 })
    firm_store_checked x level n f r = (at s 1, firm_checked c l s k.names 0 x, firm_store_at c l s k.names 0 level n f r.1.0)

    firm_assigned : (o : Option Named) (whole : Bool) (x : Scalar) (part : Emit) (value : Scope → ℕ → Emit) → ((n : Named) → o ≡ Some n → Fits c s n) → (Kept c part → Firm c l part (at s 1) (at s 1)) → ((u : Scope) (h : ℕ) → Known c l u → Kept c (value u h) → Firm c l (value u h) (at u h) (at u (h + 1)))
        → Kept c (assigned s o whole x part value) → Firm c l (assigned s o whole x part value) (at s 0) (at s 0)
    firm_assigned None whole x part value f g v r = firm_raise c l s k.names 0 _ (at s 0)
    firm_assigned (Some n) whole x part value f g v r = firm_cond c l s k.names (whole && not n.through) _ _ (at s 0) (at s 0)
        (λ r. (at s 1, v (with_target n s) 0 (known_target c l s n (f n refl) k.names) r.0, firm_store_checked x n.place.level n.place.cell (f n refl) r.1))
        (λ r.
        let (r1, (r2, (r3, (r4, (r5, (r6, r7)))))) = r in
        (at s 1, firm_address_of c l s k.names 0 n (f n refl) r1.0, (at s 1, g r2, (at s 2, plain c l s k.names 0 i.Dup tt, (at s 1, firm_keep c l s k.names 1 s.free r4, (at s 2, v (with_target (record { through = true; place = own s.free; cells = 1 }) (taking 1 s)) 1 (known_target c l (taking 1 s) (record { through = true; place = own s.free; cells = 1 }) (omega arith) (known_taking c l s 1 k.names)) r5, (at s 2, firm_checked c l s k.names 1 x, plain c l s k.names 0 i.Store tt))))))) r

-- ---- objects without an initial value

repeated_length : (n : ℕ) (ss : List Scalar) → length (repeated n ss) ≡ n * length ss
repeated_length zero ss = let z : 0 ≡ 0 * length ss = omega arith in z
repeated_length (suc n) ss = let e = repeated_length n ss in length-append ss (repeated n ss) ∙ (let z : length ss + length (repeated n ss) ≡ suc n * length ss = omega (arith, e, suc-mul n (length ss)) in z)

no_layout : (table : List Subtype) (levels n : ℕ) → length table ≤ n → layout_within table levels n ≡ []
no_layout table zero n le = refl
no_layout table (suc levels) n le = ap (layout_of (layout_within table levels)) (slice_get_past table n le)

module _ (c : Code) (program : Program) (filled : (x : ℕ) → Filled program x) where
  module _ (l : ℕ → Place → Type 0) (s : Scope) (k : Known c l s) where
    abbrev Within : ℕ → Type 0
    Within levels = (t number : ℕ) → FilledWithin program levels number → t + length (layout_within program.subtypes levels number) ≤ s.free → Kept c (defaults_within program s levels t number) → Firm c l (defaults_within program s levels t number) (at s 0) (at s 0)

    abbrev Part : ℕ → ℕ → Type 0
    Part levels n = (length (layout_within program.subtypes levels n) ≡ cells_of program n) × FilledWithin program levels n

    firm_fields : (levels : ℕ) → Within levels → (t : ℕ) (fs : List Field) → EachFilled (Part levels) fs → t + length (fields (layout_within program.subtypes levels) fs) ≤ s.free
        → Kept c (field_defaults program (defaults_within program s levels) t fs) → Firm c l (field_defaults program (defaults_within program s levels) t fs) (at s 0) (at s 0)
    firm_fields levels f t [] w le r = refl
    firm_fields levels f t (x ∷ fs) ((size, w), ws) le (r, r') =
        let sum : length (layout_within program.subtypes levels x.subtype ++ fields (layout_within program.subtypes levels) fs) ≡ length (layout_within program.subtypes levels x.subtype) + length (fields (layout_within program.subtypes levels) fs) = length-append (layout_within program.subtypes levels x.subtype) (fields (layout_within program.subtypes levels) fs) in
        (at s 0, f t x.subtype w (omega (arith, le, sum)) r, firm_fields levels f (t + cells_of program x.subtype) fs ws (omega (arith, le, sum, size)) r')

    firm_default_of : (levels : ℕ) → Within levels → (t : ℕ) (o : Option Subtype) → FilledOf (Part levels) o → t + length (layout_of (layout_within program.subtypes levels) o) ≤ s.free
        → Kept c (default_of program s (defaults_within program s levels) t o) → Firm c l (default_of program s (defaults_within program s levels) t o) (at s 0) (at s 0)
    firm_default_of levels f t None w le r = refl
    firm_default_of levels f t (Some (OfScalar x)) w le (r, r') = (at s 1, plain c l s k 0 (i.Push x.low) tt, firm_keep c l s k 0 t r')
    firm_default_of levels f t (Some (Array dimensions component)) (some, (size, w)) le (r, r') =
        let ss : List Scalar = layout_within program.subtypes levels component in
        let total : length (repeated (components dimensions) ss) ≡ components dimensions * length ss = repeated_length (components dimensions) ss in
        let least : 1 * length ss ≤ components dimensions * length ss = mul-le-mul_right (length ss) some in (
          at s 0,
          f t component w (omega (arith, le, total, least)) r,
          firm_doubled c l s k 0 t (cells_of program component) (components dimensions) 1 (components dimensions)
              (λ j lt. subst (λ m. t + j * m ≤ s.free) size (let most : suc j * length ss ≤ components dimensions * length ss = mul-le-mul_right (length ss) (omega (arith, lt)) in omega (arith, most, le, total, suc-mul j (length ss)))) r',
        )
    firm_default_of levels f t (Some (Record fs)) w le r = firm_fields levels f t fs w le r

    firm_defaults : (levels : ℕ) → Within levels
    firm_defaults zero t number w le r = refl
    firm_defaults (suc levels) t number w le r = firm_default_of levels (firm_defaults levels) t (slice_get program.subtypes number) w le r

  layout_same : (o : Option Object) (x : ℕ) → slice_get program.objects x ≡ o → layout_within program.subtypes (length program.subtypes) (subtype_or_none program o) ≡ object_layout program x
  layout_same None x e = rw e (no_layout program.subtypes (length program.subtypes) (length program.subtypes) (omega arith))
  layout_same (Some o) x e = rw e refl

  pub firm_defaulted : (l : ℕ → Place → Type 0) (s : Scope) (x : ℕ) → Known c l s → Kept c (defaulted program s s.free x) → Firm c l (defaulted program s s.free x) (at s 0) (at s 0)
  firm_defaulted l s x k r =
      let e : length (layout_within program.subtypes (length program.subtypes) (subtype_or_none program (slice_get program.objects x))) ≡ length (object_layout program x) = ap length (layout_same (slice_get program.objects x) x refl) in
      firm_defaults l (taking (length (object_layout program x)) s) (known_taking c l s (length (object_layout program x)) k) (length program.subtypes) s.free (subtype_or_none program (slice_get program.objects x)) (filled x) (omega (arith, e)) r

module _ (c : Code) (program : Program) (filled : (x : ℕ) → Filled program x) (subs : (sub : ℕ) (gives : Bool) → Calls program sub gives → Has c.subs (sub + 1) (λ u. (u.takes ≡ 0) × (u.gives ≡ gives))) where
  -- ---- what is copied back

  abbrev BackIn : Body → ℕ → ℕ → Actuals → Type 0
  BackIn b sub n NoActual = Unit {0}
  BackIn b sub n (InMode formal value rest) = BackIn b sub n rest
  BackIn b sub n (InOut formal a q selections inner outer rest) = In c b (formal_of program sub n (VariableOf formal) + 1) × BackIn b sub n rest
  BackIn b sub n (Out formal a q selections inner outer rest) = In c b (formal_of program sub n (VariableOf formal) + 1) × BackIn b sub n rest
  BackIn b sub n (CompositeInOut formal a q selections subtype rest) = In c b (formal_of program sub n (VariableOf formal) + 1) × BackIn b sub n rest
  BackIn b sub n (CompositeOut formal a q selections subtype rest) = In c b (formal_of program sub n (VariableOf formal) + 1) × BackIn b sub n rest

  back_in : (l : ℕ → Place → Type 0) (s : Scope) (k : Known c l s) (h sub n : ℕ) (x : Actuals) → Kept c (passed program s h sub n x) → BackIn s.body sub n x
  unfolding emit
  back_in l s k h sub n NoActual r = tt
  back_in l s k h sub n (InMode formal value rest) (r, r') = back_in l s k h sub n rest r'
  back_in l s k h sub n (InOut formal a q selections inner outer rest) ((r1, (r2, (r3, (r4, (r5, r6))))), r7) = (kept_cell c l s k (formal_of program sub n (VariableOf formal) + 1) r6.0, back_in l s k h sub n rest r7)
  back_in l s k h sub n (Out formal a q selections inner outer rest) ((r1, (r2, (r3, (r4, r5)))), r6) = (kept_cell c l s k (formal_of program sub n (VariableOf formal) + 1) r5.0, back_in l s k h sub n rest r6)
  back_in l s k h sub n (CompositeInOut formal a q selections subtype rest) ((r1, (r2, (r3, (r4, (r5, r6))))), r7) = (kept_next c l s k (formal_of program sub n (VariableOf formal)) r5.0, back_in l s k h sub n rest r7)
  back_in l s k h sub n (CompositeOut formal a q selections subtype rest) ((r1, (r2, (r3, (r4, (r5, r6))))), r7) = (kept_next c l s k (formal_of program sub n (VariableOf formal)) r5.0, back_in l s k h sub n rest r7)

  firm_back_one : (l : ℕ → Place → Type 0) (s : Scope) → Known c l s → (d : ℕ) (outer : Scalar) → In c s.body (d + 1) → Firm c l (back_one program s d outer) (at s 0) (at s 0)
  firm_back_one l s k d outer r = (at s 1, firm_own c l s k 0 d (in_le c s.body d (d + 1) (omega arith) r), (at s 2, firm_own c l s k 1 (d + 1) r, (at s 2, firm_checked c l s k 1 outer, plain c l s k 0 i.Store tt)))

  firm_back_cells : (l : ℕ → Place → Type 0) (s : Scope) → Known c l s → (d subtype : ℕ) → In c s.body (d + 1) → Firm c l (back_cells program s d subtype) (at s 0) (at s 0)
  firm_back_cells l s k d subtype r = (at s 1, firm_own c l s k 0 d (in_le c s.body d (d + 1) (omega arith) r), (at s 2, firm_local c l s k 1 (d + 1) r, plain c l s k 0 (i.Copy (cells_of program subtype)) tt))

  firm_back_code : (l : ℕ → Place → Type 0) (s : Scope) → Known c l s → (sub n : ℕ) (x : Actuals) → BackIn s.body sub n x → Firm c l (back_code program s sub n x) (at s 0) (at s 0)
  unfolding back_code
  firm_back_code l s k sub n NoActual w = refl
  firm_back_code l s k sub n (InMode formal value rest) w = firm_back_code l s k sub n rest w
  firm_back_code l s k sub n (InOut formal a q selections inner outer rest) w = (at s 0, firm_back_one l s k (formal_of program sub n (VariableOf formal)) outer w.0, firm_back_code l s k sub n rest w.1)
  firm_back_code l s k sub n (Out formal a q selections inner outer rest) w = (at s 0, firm_back_one l s k (formal_of program sub n (VariableOf formal)) outer w.0, firm_back_code l s k sub n rest w.1)
  firm_back_code l s k sub n (CompositeInOut formal a q selections subtype rest) w = (at s 0, firm_back_cells l s k (formal_of program sub n (VariableOf formal)) subtype w.0, firm_back_code l s k sub n rest w.1)
  firm_back_code l s k sub n (CompositeOut formal a q selections subtype rest) w = (at s 0, firm_back_cells l s k (formal_of program sub n (VariableOf formal)) subtype w.0, firm_back_code l s k sub n rest w.1)

  -- ---- pieces

  pieces_in : (l : ℕ → Place → Type 0) (s : Scope) (k : Knows c l s) (x : Pieces) → Kept c (piece_values program s x) → PiecesIn c l s k s.free x
  unfolding piece_values
  pieces_in l s k NoPiece r = tt
  pieces_in l s k (Text bytes rest) r = pieces_in l s k rest r
  pieces_in l s k (Image class e rest) (r1, (r2, r3)) = (kept_cell c l s k.names s.free r2.0, pieces_in l (taking 1 s) (knows_taking c l s 1 k) rest r3)
  pieces_in l s k (Padded class e width rest) (r1, (r2, r3)) = (kept_cell c l s k.names s.free r2.0, pieces_in l (taking 1 s) (knows_taking c l s 1 k) rest r3)

  firm_pieces : (l : ℕ → Place → Type 0) (s : Scope) (x : Pieces) → ReadyPieces program x → Known c l s → Kept c (piece_values program s x) → Firm c l (piece_values program s x) (at s 0) (at s 0)
  unfolding piece_values
  firm_pieces l s NoPiece w k r = refl
  firm_pieces l s (Text bytes rest) w k r = firm_pieces l s rest w k r
  firm_pieces l s (Image class e rest) w k (r1, (r2, r3)) = (at s 1, firm_emit c program subs l s 0 e w.0 k r1, (at s 0, firm_keep c l s k 0 s.free r2, firm_pieces l (taking 1 s) rest w.1 (known_taking c l s 1 k) r3))
  firm_pieces l s (Padded class e width rest) w k (r1, (r2, r3)) = (at s 1, firm_emit c program subs l s 0 e w.0 k r1, (at s 0, firm_keep c l s k 0 s.free r2, firm_pieces l (taking 1 s) rest w.1 (known_taking c l s 1 k) r3))

  firm_declared : (l : ℕ → Place → Type 0) (s : Scope) (decls : Decls) (rest : Scope → Emit) → ReadyDecls program decls → Knows c l s → ((u : Scope) → Knows c l u → Kept c (rest u) → Firm c l (rest u) (at u 0) (at u 0)) → Kept c (declared program s decls rest) → Firm c l (declared program s decls rest) (at s 0) (at s 0)
  firm_declared l s NoDecl rest w k f r = f s k r
  firm_declared l s (DeclareDefault x more) rest w k f (r, r') = (at s 0, firm_defaulted c program filled l s x k.names r, firm_declared l (object_here s (VariableOf x) (length (object_layout program x))) more rest w (knows_here c l s (VariableOf x) (length (object_layout program x)) k) f r')
  firm_declared l s (DeclareVariable x initial more) rest w k f (r, r') = (
    at s 0,
    firm_into c program subs l (taking (width program initial) s) 0 s.free (width program initial) initial w.0 (known_taking c l s (width program initial) k.names) (omega arith) r,
    firm_declared l (object_here s (VariableOf x) (width program initial)) more rest w.1 (knows_here c l s (VariableOf x) (width program initial) k) f r',
  )
  firm_declared l s (DeclareConstant x initial more) rest w k f (r, r') = (
    at s 0,
    firm_into c program subs l (taking (width program initial) s) 0 s.free (width program initial) initial w.0 (known_taking c l s (width program initial) k.names) (omega arith) r,
    firm_declared l (object_here s (ConstantOf x) (width program initial)) more rest w.1 (knows_here c l s (ConstantOf x) (width program initial) k) f r',
  )
  firm_declared l s (Mentions es more) rest w k f r = firm_declared l s more rest w k f r

  -- ---- parallel constructs

  is_loop : (chunk : Chunk) → is_reduction (loop_kind chunk) ≡ false
  is_loop NoChunk = refl
  is_loop (Count e) = refl
  is_loop (Each p low high check) = refl

  -- the end of threads
  firm_end : (l : ℕ → Place → Type 0) (u : Scope) → Knows c l u → IsThread c u.body false → (Q : Place) → Firm c l (one u 0 i.End) (at u 0) Q
  firm_end l u k thread Q = record { here = refl; marked = k.names.entry; base = 0; operands = refl; begun = omega arith; ways = tt; belongs = λ q. thread }

  firm_parallel_for : (l : ℕ → Place → Type 0) (s : Scope) (number site : ℕ) (chunk : Chunk) (it : Iteration) (loops : List ℕ) (body : Scope → Emit) → ReadyChunk program chunk → ReadyIteration program it → Knows c l s
      → ((x : ℕ) (P : Place) (u : Scope) → P ≡ at u 0 → Knows c (Also l x P) u → Kept c (body u) → Firm c (Also l x P) (body u) P P)
      → Kept c (parallel_for program s number site chunk it loops body) → Firm c l (parallel_for program s number site chunk it loops body) (at s 0) (at s 0)
  firm_parallel_for l s number site chunk it loops body w w' k f (r1, (r2, (r3, (r4, ((f1, (f2, (f3, (f4, (f5, (b1, b2)))))), (r6, r7)))))) =
      let v : Scope = nested s in
      let kv : Known c l v = known_nested c l s k.names in
      let u : Scope = taking 2 v in
      let ku : Known c l u = known_taking c l v 2 kv in
      let t : Scope = thread_scope site s in
      let cs : Scope = chunk_scope chunk (taking 2 t) in
      let two : In c s.body (s.free + 1 + 1) = chunk_room c program subs l v kv 0 chunk r2 in
      let course : In c s.body (s.free + 2) = course_room c program subs l u ku 0 it r3 in
      let told : Told c s.body (loop_kind chunk) (i.Fork site) = f4.1 in
      let kt : Known c l t = known_thread c l s site (told_around c site s.body (loop_kind chunk) told) r1.0 k.names in
      let thread : IsThread c (Site site) false = told_thread c site s.body (loop_kind chunk) false (is_loop chunk) told in
      let kc : Knows c l cs = knows_chunk c l chunk t (knows_thread c l s site kt thread) in
      let same : Same (taking 2 t) cs = chunk_same chunk (taking 2 t) in
      let begins : at cs 0 ≡ Here (Site site) 0 0 = at_same (taking 2 t) cs 0 same in (
        at v 0,
        firm_nest c l s k.names 0,
        (
          at v 0,
          firm_chunk c program subs l v 0 chunk w kv r2,
          (
            at v 0,
            firm_course c program subs l u 0 it w' ku r3,
            (
              at v 2,
              firm_ends c program subs l u ku 0 it r3,
              (
                at v 2,
                firm_fork c l v kv 0 2 (loop_kind chunk) site s.free (one v (1 + 1 + 1 + 1) (i.Push (pos 0))) (threaded program t 0 chunk (s.free + 1 + 1) it body ⨟ one cs 0 i.End)
                    (in_le c s.body s.free (s.free + 1 + 1) (omega arith) two) (in_le c s.body (s.free + 1) (s.free + 1 + 1) (omega arith) two) (omega arith) (two_answers chunk) (plain c l v kv 4 (i.Push (pos 0)) tt)
                    (subst (λ P. Firm c l (threaded program t 0 chunk (s.free + 1 + 1) it body ⨟ one cs 0 i.End) P (at v 2)) begins (
                      at cs 0,
                      firm_threaded c program subs l t 0 chunk (s.free + 1 + 1) it body w' kt (subst (λ b. In c b 3) (sym same.0) (told_cells c site s.body (loop_kind chunk) told))
                          (subst (λ b. IsSomeAnd (outward c (Some b) 1) (λ b. In c b (s.free + 1 + 1))) (sym same.0) (told_far c site s.body (loop_kind chunk) (s.free + 1 + 1) told (in_le c s.body (s.free + 1 + 1) (s.free + 2) (omega arith) course)))
                          (λ x y sm ky r. f x (at cs 0) y (sym (at_same cs y 0 sm)) (knows_as c l (Also l x (at cs 0)) cs y ky sm (λ n P z. inl z) kc) r) b1,
                      firm_end l cs kc (subst (λ b. IsThread c b false) (sym same.0) thread) (at v 2),
                    )) told,
                (at s 2, firm_unnest c l s k.names 2, firm_left c l (taking 2 (taking 2 s)) (knows_taking c l (taking 2 s) 2 (knows_taking c l s 2 k)) (Some number) loops r7),
              ),
            ),
          ),
        ),
      )
    where
      two_answers : (chunk : Chunk) → up 0 (cond (is_reduction (loop_kind chunk)) 1 2) ≡ 2
      two_answers NoChunk = refl
      two_answers (Count e) = refl
      two_answers (Each p low high check) = refl

  firm_share : (l : ℕ → Place → Type 0) (t : Scope) → Known c l t → In c t.body 3 → (n : ℕ) → Firm c l (in_share program t n) (at t 0) (at t 1)
  firm_share l t k four n =
      (at t 1, firm_own c l t k 0 2 (in_le c t.body 2 3 (omega arith) four), (at t 2, plain c l t k 1 (i.Push (pos n)) tt, (at t 1, plain c l t k 0 i.Le tt, (at t 2, plain c l t k 1 (i.Push (pos n)) tt, (at t 3, firm_own c l t k 2 3 four, (at t 2, plain c l t k 1 i.Le tt, plain c l t k 0 i.Min tt))))))

  ready_chunk : (count : Optional) → ReadyOptional program count → ReadyChunk program (chunk_by program count)
  ready_chunk Absent w = tt
  ready_chunk (Present e) w = w

  firm_parallel_block : (l : ℕ → Place → Type 0) (s : Scope) (site : ℕ) (threads : Optional) (count : ℕ) (loops : List ℕ) (arms : Emit) → ReadyOptional program threads → Knows c l s
      → (Knows c l (arm_scope program s site) → In c (Site site) 3 → Kept c arms → Firm c l arms (Here (Site site) 0 0) (Here (Site site) 0 0))
      → Kept c (parallel_block program s site threads count loops arms) → Firm c l (parallel_block program s site threads count loops arms) (at s 0) (at s 0)
  firm_parallel_block l s site threads count loops arms w k f (r1, (r2, (r3, (r4, ((f1, (f2, (f3, (f4, (f5, (b1, b2)))))), (r6, r7)))))) =
      let v : Scope = nested s in
      let kv : Known c l v = known_nested c l s k.names in
      let t : Scope = thread_scope site s in
      let two : In c s.body (s.free + 1 + 1) = chunk_room c program subs l v kv 0 (chunk_by program threads) r2 in
      let told : Told c s.body (kind.Block count) (i.Fork site) = f4.1 in
      let kt : Known c l t = known_thread c l s site (told_around c site s.body (kind.Block count) told) r1.0 k.names in
      let thread : IsThread c (Site site) false = told_thread c site s.body (kind.Block count) false refl told in
      let ka : Knows c l (arm_scope program s site) = knows_taking c l (taking 2 t) 2 (knows_taking c l t 2 (knows_thread c l s site kt thread)) in (
        at v 0,
        firm_nest c l s k.names 0,
        (
          at v 0,
          firm_chunk c program subs l v 0 (chunk_by program threads) (ready_chunk threads w) kv r2,
          (
            at v 1,
            plain c l v kv 0 (i.Push (pos 0)) tt,
            (
              at v 2,
              plain c l v kv 1 (i.Push (pos (count - 1))) tt,
              (
                at v 2,
                firm_fork c l v kv 0 2 (kind.Block count) site s.free (one v (1 + 1 + 1 + 1) (i.Push (pos 0))) (arms ⨟ one (arm_scope program s site) 0 i.End) (in_le c s.body s.free (s.free + 1 + 1) (omega arith) two) (in_le c s.body (s.free + 1) (s.free + 1 + 1) (omega arith) two) (omega arith) refl (plain c l v kv 4 (i.Push (pos 0)) tt)
                    (Here (Site site) 0 0, f ka (told_cells c site s.body (kind.Block count) told) b1, firm_end l (arm_scope program s site) ka thread (at v 2)) told,
                (at s 2, firm_unnest c l s k.names 2, firm_left c l (taking 2 s) (knows_taking c l s 2 k) None loops r7),
              ),
            ),
          ),
        ),
      )

  -- ---- statements

  mutual
    unfolding stmt

    pub firm_stmt : (l : ℕ → Place → Type 0) (s : Scope) (x : Stmt) → ReadyStmt program x → Knows c l s → Kept c (stmt program s x) → Firm c l (stmt program s x) (at s 0) (at s 0)
    firm_stmt l s Null w k r = refl
    firm_stmt l s (Assign a q selections (Number check e)) w k r =
        firm_assigned c l s k (root_of s q) (is_whole selections) check.scalar (selected program s 1 selections) (λ u h. emit program u h e) (root_fits c l s k.names q) (λ r. firm_selected c program subs l s 0 selections w.0 k.names r)
        (λ u h k' r. firm_emit c program subs l u h e w.1 k' r) r
    firm_stmt l s (Assign a q selections (Cells x)) w k (r1, (r2, (r3, (r4, (r5, (r6, r7)))))) =
        let n : ℕ = composite_width program x in
        let next : In c s.body (s.free + 1) = kept_next c l s k.names s.free r3.0 in (
          at s 1,
          firm_address c l s k.names 0 (root_of s q) (root_fits c l s k.names q) r1,
          (
            at s 1,
            firm_selected c program subs l s 0 selections w.0 k.names r2,
            (
              at s 0,
              firm_keep c l s k.names 0 s.free r3,
              (
                at s 0,
                firm_composed c program subs l (with_target (record { through = true; place = own s.free; cells = n }) (taking n (taking 1 s))) 0 (s.free + 1) n x w.1
                    (known_target c l (taking n (taking 1 s)) (record { through = true; place = own s.free; cells = n }) (omega arith) (known_taking c l (taking 1 s) n (known_taking c l s 1 k.names))) (omega arith) r4,
                (at s 1, firm_own c l s k.names 0 s.free (in_le c s.body s.free (s.free + 1) (omega arith) next), (at s 2, firm_local c l s k.names 1 (s.free + 1) next, plain c l s k.names 0 (i.Copy n) tt)),
              ),
            ),
          ),
        )
    firm_stmt l s (CallProcedure a callee sub actuals) w k (r1, (r2, r3)) =
        let ku : Known c l (passing program sub s) = known_taking c l s (shapes_cells (shapes program (formals_in program sub))) k.names in
        (at s 0, firm_passed c program subs l (passing program sub s) 0 sub s.free actuals w.1 ku (omega arith) r1, (at s 0, firm_call c l s k.names 0 sub s.free false (subs sub false w.0), firm_back_code l s k.names sub s.free actuals (back_in l (passing program sub s) ku 0 sub s.free actuals r1)))
    firm_stmt l s (Exit loop Absent) w k r = firm_exiting c l s k loop (s.exits loop) refl (at s 0)
    firm_stmt l s (Exit loop (Present e)) w k (r1, r2) = (at s 1, firm_emit c program subs l s 0 e w k.names r1, (refl, k.names.entry, refl, firm_exiting c l s k loop (s.exits loop) refl (at s 0)))
    firm_stmt l s Return w k r = firm_returning c l s k s.leaving k.leaving (at s 0)
    firm_stmt l s (ReturnValue (Number check e)) w k (r1, (r2, r3)) = (at s 1, firm_emit c program subs l s 0 e w k.names r1, (at s 1, firm_checked c l s k.names 0 check.scalar, firm_returning_value c l s k s.leaving k.leaving (at s 0)))
    firm_stmt l s (ReturnValue (Cells x)) w k r = firm_raise c l s k.names 0 _ (at s 0)
    firm_stmt l s (Raise x) w k r = firm_raise c l s k.names 0 x (at s 0)
    firm_stmt l s Reraise w k r = firm_handled c l s k s.handled refl r (at s 0)
    firm_stmt l s (IfThen condition stmts otherwise) w k (r1, r2) = (
      at s 1,
      firm_emit c program subs l s 0 condition w.0 k.names r1,
      firm_cond c l s k.names (is_end otherwise) (when_ s 0 (all program s stmts)) (choose s 0 0 (all program s stmts) (all program s otherwise)) (at s 1) (at s 0)
          (λ r. (refl, k.names.entry, refl, firm_all l s stmts w.1 k r.1)) (λ r. (refl, k.names.entry, refl, firm_all l s stmts w.1 k r.1, firm_all l s otherwise w.2 k r.2)) r2,
    )
    firm_stmt l s (Case e alternatives) w k (r1, (r2, r3)) = (at s 1, firm_emit c program subs l s 0 e w.0 k.names r1, (at s 0, firm_keep c l s k.names 0 s.free r2, firm_cases l (taking 1 s) s.free alternatives w.1 (knows_taking c l s 1 k) (kept_cell c l s k.names s.free r2.0) r3))
    firm_stmt l s (Loop number Absent stmts) w k r = (
      refl,
      k.names.entry,
      refl,
      (λ x kx. (at s 0, plain c (Also l x (at s 0)) s (known_more c l s x (at s 0) k.names) 0 i.Turn tt, firm_all (Also l x (at s 0)) (with_exit number x s) stmts w.1 (knows_exit c l s number x k) kx.1)),
      (λ x kx. record { here = refl; marked = λ e is. inl (k.names.entry e is); base = 0; operands = refl; begun = omega arith; ways = inr (refl, refl); belongs = λ q. tt }),
    )
    firm_stmt l s (Loop number (Present e) stmts) w k r = (
      refl,
      k.names.entry,
      refl,
      (λ x kx. (at s 0, plain c (Also l x (at s 0)) s (known_more c l s x (at s 0) k.names) 0 i.Turn tt, firm_all (Also l x (at s 0)) (with_exit number x s) stmts w.1 (knows_exit c l s number x k) kx.1)),
      (λ x kx. (at s 1, firm_emit c program subs (Also l x (at s 0)) s 0 e w.0 (known_more c l s x (at s 0) k.names) kx.0, record { here = refl; marked = λ e is. inl (k.names.entry e is); base = 0; operands = refl; begun = omega arith; ways = (inr (refl, refl), refl); belongs = λ q. tt })),
    )
    firm_stmt l s (For number it stmts) w k r =
        firm_iterated c program subs l s 0 (Some number) it (λ u. all program u stmts) w.0 k.names
        (λ x u same ku r. subst (λ P. Firm c (Also l x (at s 0)) (all program u stmts) P P) (at_same (with_exit number x s) u 0 same) (firm_all (Also l x (at s 0)) u stmts w.1 (knows_turn c l s u number x same ku k) r)) r
    firm_stmt l s (ParallelFor number site chunk it stmts) w k r =
        firm_parallel_for l s number site chunk it (exits_of stmts) (λ u. all program u stmts) w.0 w.1 k (λ x P u e ku r. subst (λ P. Firm c (Also l x P) (all program u stmts) P P) (sym e) (firm_all (Also l x (at u 0)) u stmts w.2 (subst (λ P. Knows c (Also l x P) u) e ku) r)) r
    firm_stmt l s (Parallel site count arms) w k r =
        firm_parallel_block l s site count (arms_of arms) (arm_exits arms) (arms_code program (arm_scope program s site) 0 (arm_codes program (arm_scope program s site) arms)) w.0 k (λ ka four r. firm_each l (arm_scope program s site) 0 arms w.1 ka four r) r
    firm_stmt l s (Block decls stmts handlers) w k r = firm_declared l s decls _ w.0 k (λ u ku r.
        firm_cond c l u ku.names (no_handler handlers) _ _ (at u 0) (at u 0) (λ r. firm_all l u stmts w.1 ku r)
        (λ r.
        let (r1, (r2, r3)) = r in
        let handled : Scope = with_handled (own u.free) (taking 1 u) in
        let kh : Knows c l handled = knows_as c l l (taking 1 u) handled (known_handled c l (taking 1 u) (own u.free) (omega arith) (known_taking c l u 1 ku.names)) (alike c (taking 1 u)) (λ n P z. z) (knows_taking c l u 1 ku) in (
          refl,
          ku.names.entry,
          refl,
          (at u 0, firm_keep c l u ku.names 0 u.free r2, firm_handling l handled u.free handlers w.2 kh (kept_cell c l u ku.names u.free r2.0) r3),
          (λ x kx. firm_all (Also l x (Here u.body 1 u.nest)) (with_entry x u) stmts w.1 (knows_entry c l u x ku) kx),
        )) r) r
    firm_stmt l s (Put a callee pieces line) w k (r1, (r2, r3)) = (at s 0, firm_pieces l s pieces w k.names r1, (at s 0, firm_texts c l s k s.free pieces (pieces_in l s k pieces r1) r2, firm_send c l s k line))
    firm_stmt l s (Get a callee first q selections scalar) w k (r1, (r2, (r3, (r4, r5)))) =
        (at s 1, firm_address c l s k.names 0 (root_of s q) (root_fits c l s k.names q) r1, (at s 1, firm_selected c program subs l s 0 selections w k.names r2, (at s 2, plain c l s k.names 1 i.Get tt, (at s 2, firm_checked c l s k.names 1 scalar, plain c l s k.names 0 i.Store tt))))

    pub firm_all : (l : ℕ → Place → Type 0) (s : Scope) (x : Stmts) → ReadyAll program x → Knows c l s → Kept c (all program s x) → Firm c l (all program s x) (at s 0) (at s 0)
    firm_all l s End w k r = refl
    firm_all l s (Then first more) w k (r, r') = (at s 0, firm_stmt l s first w.0 k r, firm_all l s more w.1 k r')

    firm_cases : (l : ℕ → Place → Type 0) (s : Scope) (d : ℕ) (x : Alternatives) → ReadyAlternatives program x → Knows c l s → In c s.body d → Kept c (cases program s d x) → Firm c l (cases program s d x) (at s 0) (at s 0)
    firm_cases l s d NoAlternative w k cell r = firm_raise c l s k.names 0 _ (at s 0)
    firm_cases l s d (Alternative true choices mentions stmts rest) w k cell r = firm_all l s stmts w.0 k r
    firm_cases l s d (Alternative false choices mentions stmts rest) w k cell (r1, (r2, r3, r4)) = (at s 1, firm_chosen c l s k d choices cell, (refl, k.names.entry, refl, firm_all l s stmts w.0 k r3, firm_cases l s d rest w.1 k cell r4))

    firm_handling : (l : ℕ → Place → Type 0) (s : Scope) (d : ℕ) (x : Handlers) → ReadyHandlers program x → Knows c l s → In c s.body d → Kept c (handling program s d x) → Firm c l (handling program s d x) (at s 0) (at s 0)
    firm_handling l s d NoHandler w k cell r = (at s 1, firm_own c l s k.names 0 d cell, firm_reraise c l s k (at s 0))
    firm_handling l s d (Handler handled stmts rest) w k cell r = firm_handled_by c l s k handled (all program s stmts) (handling program s d rest) d cell (λ r. firm_all l s stmts w.0 k r) (λ r. firm_handling l s d rest w.1 k cell r) r

    firm_each : (l : ℕ → Place → Type 0) (s : Scope) (n : ℕ) (x : Arms) → ReadyArms program x → Knows c l s → In c s.body 3 → Kept c (arms_code program s n (arm_codes program s x)) → Firm c l (arms_code program s n (arm_codes program s x)) (at s 0) (at s 0)
    firm_each l s n NoArm w k four r = refl
    firm_each l s n (Arm stmts rest) w k four ((r1, (r2, r3)), r4) = (at s 0, (at s 1, firm_share l s k.names four n, (refl, k.names.entry, refl, firm_all l s stmts w.0 k r3)), firm_each l s (n + 1) rest w.1 k four r4)
