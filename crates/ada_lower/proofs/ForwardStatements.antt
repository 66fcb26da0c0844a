-- The code of statements, handlers, bodies and of a program is put together forward: so a program's code is forward.
use Rattle.std.proofs.Common.{◌≡◌, ℕ, zero, suc, ◌+◌, List, [], ◌∷◌, length, slice_get, Option, Some, None, Bool, true, false, not, ◌&&◌, refl, sym, ap, ◌∙◌, inl, inr, cond}
use Rattle.std.proofs.lemmas.Option.{none-some}
use Rattle.ada_meaning.proofs.Cells.{some_same}
use Rattle.ada_base.specs.declared.reason.Reason.{Reason}
use Rattle.typed_tree.specs.declared.scalars.Class.{Class}
use Rattle.typed_tree.specs.declared.scalars.Class.TheVariants as class
use Rattle.ada_base.specs.declared.operation.Base.TheVariants.{Narrow, Wide, Modulo}
use Rattle.lower_emission.proofs.Fused.{of_set}
use Rattle.typed_tree.specs.declared.scalars.Scalar.{Scalar}
use Rattle.typed_tree.specs.declared.statements.Span.{Span}
use Rattle.typed_tree.specs.declared.program.Field.{Field}
use Rattle.behaviours.specs.Paths.{VariableOf, ConstantOf}
use Rattle.typed_tree.specs.declared.program.Site.{Site}
use Rattle.typed_tree.specs.Syntax.{Optional, Absent, Present, Actuals, NoActual, In, InOut, Out, CompositeInOut, CompositeOut, Number, Cells, Pieces, NoPiece, Text, Image, Padded, Decls, NoDecl, DeclareDefault, DeclareVariable, DeclareConstant, Mentions, Iteration, Chunk, Stmt, Null, Assign, CallProcedure, Exit, Return, ReturnValue, Raise, Reraise, IfThen, Case, Loop, For, ParallelFor, Parallel, Block, Put, Get, Stmts, End, Then, Alternatives, NoAlternative, Alternative, Handled, Others, Reasons, Handlers, NoHandler, Handler, Arms, NoArm, Arm, Sub, Subtype, OfScalar, Array, Record, Program}
use Rattle.ada_meaning.specs.Values.{components}
use Rattle.ada_meaning.specs.Meaning.{object_layout, arms_of}
use Rattle.stack_code.specs.declared.code.Around.{Around as Body}
use Rattle.stack_code.specs.declared.code.Around.TheVariants as body
use Rattle.stack_code.specs.declared.code.Code.{Code}
use Rattle.stack_code.specs.declared.instr.Instr.TheVariants as i
use Rattle.stack_code.specs.Stands.{IsForward}
use Rattle.lower_emission.specs.declared.types.Placed.{Placed}
use Rattle.lower_emission.specs.Emits.{Emit, listed}
use Rattle.lower_emission.specs.Scope.{Scope, own, taking, with_exit, with_entry, with_target, with_handled, nested, thread_scope, store_at, none, one, root_of}
use Rattle.lower_emission.specs.Bodies as code
use Rattle.ada_lower.specs.Sights.{Level, Own, Around, Main, Where, Named, Leaving, ByEnd, ByReturn, ByValue, ByLeave}
use Rattle.ada_lower.specs.Emission.{emit, selected, passed, put_into, composed, filtered, iterated, chunk_code, course_code, threaded, lost, checked, address, is_whole, chunk_scope, ends_code, cells_of, passing, composite_width, width, no_handler, is_end, assigned, in_span, chosen, has_reason, handled_by, returning, returning_value, exiting, away, handled_target, image_instr, send_instr, piece_texts, field_defaults, default_of, defaults_within, defaulted, subtype_or_none, object_here, exits_of, arm_exits, left_by, exit_code, exits_code, left_returns, is_own, left_code, declared, back_one, back_cells, parallel_for, in_share, arms_code, chunk_by, arm_scope, parallel_block, back_code, piece_values, stmt, all, cases, handling, arm_codes, Shape, shapes, store_checked}
use Rattle.lower_emission.specs.Programs.{has_fork, idle_fork, idle_forks, whole_code}
use Rattle.ada_lower.specs.ProgramCode.{IsCodeOf}
use Rattle.ada_lower.proofs.Forward.{Also, Fore}
use Rattle.ada_lower.proofs.ForwardCode.{Nowhere, forward_code}
use Rattle.ada_lower.proofs.ForwardValues.{fore_checked, Known, known_more, known_nothing, known_exit, known_chunk, fore_load_of, fore_address_of, fore_address, fore_cond, fore_doubled, fore_ends, begins, ForeTurns, fore_emit, fore_selected, fore_passed, fore_into, fore_composed, fore_iterated, fore_chunk, fore_course, fore_threaded}

module _ (l t : ℕ → Type 0) (s : Scope) (k : Known l s) where
  fore_store : (h : ℕ) (level : Level) (n : ℕ) → Fore l t (one s h (store_at level n))
  fore_store h Own n = ((λ n z. absurd z), k.0)
  fore_store h (Around j) n = ((λ n z. absurd z), k.0)
  fore_store h Main n = ((λ n z. absurd z), k.0)

  fore_away : (loop : ℕ) (b : Body) → Fore l t (away s loop b)
  fore_away loop (body.Sub j) = ((λ n z. absurd z), k.0)
  fore_away loop (body.Site j) = ((λ n z. absurd z), k.0)

  fore_exiting : (loop : ℕ) (o : Option ℕ) → s.exits loop ≡ o → Fore l t (exiting s loop o)
  fore_exiting loop None e = fore_away loop s.body
  fore_exiting loop (Some to) e = ((λ n z. inr (known n z, aimed n z)), k.0)
    where
      known : (n : ℕ) → n ≡ to → l n
      known n z = k.1 loop n (e ∙ ap Some (sym z))

      aimed : (n : ℕ) → n ≡ to → i.Jump to ≡ i.Jump n
      aimed n z = ap i.Jump (sym z)

  fore_returning : (h : ℕ) (w : Leaving) → Fore l t (returning s h w)
  fore_returning h ByReturn = ((λ n z. absurd z), k.0)
  fore_returning h ByValue = (((λ n z. absurd z), k.0), ((λ n z. absurd z), k.0))
  fore_returning h ByEnd = ((λ n z. absurd z), k.0)
  fore_returning h ByLeave = ((λ n z. absurd z), k.0)

  fore_returning_value : (w : Leaving) → Fore l t (returning_value s w)
  fore_returning_value ByReturn = ((λ n z. absurd z), k.0)
  fore_returning_value ByValue = ((λ n z. absurd z), k.0)
  fore_returning_value ByEnd = ((λ n z. absurd z), k.0)
  fore_returning_value ByLeave = ((λ n z. absurd z), k.0)

  fore_handled_target : (o : Option Where) → Fore l t (handled_target s o)
  fore_handled_target None = ((λ n z. absurd z), k.0)
  fore_handled_target (Some w) = (fore_load_of l t s k 0 w, ((λ n z. absurd z), k.0))

  fore_image : (h : ℕ) (class : Class) → Fore l t (one s h (image_instr class))
  fore_image h class.Boolean = ((λ n z. absurd z), k.0)
  fore_image h (class.Integer Narrow) = ((λ n z. absurd z), k.0)
  fore_image h (class.Integer Wide) = ((λ n z. absurd z), k.0)
  fore_image h (class.Integer (Modulo d)) = ((λ n z. absurd z), k.0)
  fore_image h class.Universal = ((λ n z. absurd z), k.0)

  fore_send : (h : ℕ) (feed : Bool) → Fore l t (one s h (send_instr feed))
  fore_send h true = ((λ n z. absurd z), k.0)
  fore_send h false = ((λ n z. absurd z), k.0)

  fore_texts : (d : ℕ) (ps : Pieces) → Fore l t (piece_texts s d ps)
  fore_texts d NoPiece = tt
  fore_texts d (Text bytes rest) = (((λ n z. absurd z), k.0), fore_texts d rest)
  fore_texts d (Image class e rest) = (((λ n z. absurd z), k.0), (fore_image 1 class, fore_texts (d + 1) rest))
  fore_texts d (Padded class e width rest) = (((λ n z. absurd z), k.0), (((λ n z. absurd z), k.0), fore_texts (d + 1) rest))

  fore_chosen : (d : ℕ) (rs : List Span) → Fore l t (chosen s d rs)
  fore_chosen d [] = ((λ n z. absurd z), k.0)
  fore_chosen d (r ∷ rs) = ((((λ n z. absurd z), k.0), (((λ n z. absurd z), k.0), (((λ n z. absurd z), k.0), (((λ n z. absurd z), k.0), (((λ n z. absurd z), k.0), (((λ n z. absurd z), k.0), ((λ n z. absurd z), k.0))))))), (k.0, (((λ n z. absurd z), k.0), fore_chosen d rs)))

  fore_reason : (d : ℕ) (rs : List Reason) → Fore l t (has_reason s d rs)
  fore_reason d [] = ((λ n z. absurd z), k.0)
  fore_reason d (r ∷ rs) = ((((λ n z. absurd z), k.0), (((λ n z. absurd z), k.0), ((λ n z. absurd z), k.0))), (k.0, (((λ n z. absurd z), k.0), fore_reason d rs)))

  fore_handled_by : (handled : Handled) (stmts rest : Emit) (d : ℕ) → Fore l t stmts → Fore l t rest → Fore l t (handled_by handled stmts rest s d)
  fore_handled_by Others stmts rest d a b = a
  fore_handled_by (Reasons reasons) stmts rest d a b = (fore_reason d reasons, (k.0, (a, b)))

  fore_left_by : (d way : ℕ) → Fore l t (left_by s d way)
  fore_left_by d way = (((λ n z. absurd z), k.0), (((λ n z. absurd z), k.0), ((λ n z. absurd z), k.0)))

  fore_exits : (d : ℕ) (number : Option ℕ) (ns : List ℕ) → Fore l t (exits_code s d number ns)
  fore_exits d number [] = tt
  fore_exits d number (n ∷ ns) = (fore_cond l t s k (is_own number n) none _ tt (fore_left_by d (n + 3), (k.0, fore_exiting n (s.exits n) refl)), fore_exits d number ns)

  fore_left : (number : Option ℕ) (loops : List ℕ) → Fore l t (left_code s number loops)
  fore_left number loops = (
    ((λ n z. absurd z), k.0),
    (
      ((λ n z. absurd z), k.0),
      (
        ((λ n z. absurd z), k.0),
        (
          k.0,
          (
            (fore_left_by s.free 1, ((k.0, fore_returning 0 s.leaving), (fore_left_by s.free 2, (k.0, (((λ n z. absurd z), k.0), fore_returning_value s.leaving))))),
            fore_exits s.free number loops,
          ),
        ),
      ),
    ),
  )

  fore_store_checked : (x : Scalar) (level : Level) (n : ℕ) → Fore l t (store_checked s x level n)
  fore_store_checked x Own n = of_set (λ j. Fore l t (one s 1 j)) x n ((λ n z. absurd z), k.0) ((λ n z. absurd z), k.0)
  fore_store_checked x level n = (fore_checked l t s k 1 x, fore_store 1 level n)

  fore_assigned : (o : Option Named) (whole : Bool) (x : Scalar) (moved : Emit) (value : Scope → ℕ → Emit) → Fore l t moved → ((u : Scope) (h : ℕ) → Known l u → Fore l t (value u h)) → Fore l t (assigned s o whole x moved value)
  fore_assigned None whole x moved value f g = ((λ n z. absurd z), k.0)
  fore_assigned (Some n) whole x moved value f g = fore_cond l t s k (whole && not n.through) _ _
      (g (with_target n s) 0 k, fore_store_checked x n.place.level n.place.cell)
      (fore_address_of l t s k 0 n, (f, (((λ n z. absurd z), k.0), (((λ n z. absurd z), k.0), (g (with_target (record { through = true; place = own s.free; cells = 1 }) (taking 1 s)) 1 k, (fore_checked l t s k (1 + 1) x, ((λ n z. absurd z), k.0)))))))

module _ (program : Program) where
  fore_in_share : (l t : ℕ → Type 0) (s : Scope) (n : ℕ) → Known l s → Fore l t (in_share program s n)
  fore_in_share l t s n k = (((λ n z. absurd z), k.0), (((λ n z. absurd z), k.0), (((λ n z. absurd z), k.0), (((λ n z. absurd z), k.0), (((λ n z. absurd z), k.0), (((λ n z. absurd z), k.0), ((λ n z. absurd z), k.0)))))))

  -- ---- objects without an initial value

  fore_fields : (l t : ℕ → Type 0) (within : ℕ → ℕ → Emit) (n : ℕ) (fs : List Field) → ((n m : ℕ) → Fore l t (within n m)) → Fore l t (field_defaults program within n fs)
  fore_fields l t within n [] g = tt
  fore_fields l t within n (f ∷ fs) g = (g n f.subtype, fore_fields l t within (n + cells_of program f.subtype) fs g)

  fore_default_of : (l t : ℕ → Type 0) (s : Scope) (within : ℕ → ℕ → Emit) (n : ℕ) (o : Option Subtype) → Known l s → ((n m : ℕ) → Fore l t (within n m)) → Fore l t (default_of program s within n o)
  fore_default_of l t s within n None k g = tt
  fore_default_of l t s within n (Some (OfScalar scalar)) k g = (((λ n z. absurd z), k.0), ((λ n z. absurd z), k.0))
  fore_default_of l t s within n (Some (Array dimensions component)) k g = (g n component, fore_doubled l t s k 0 n (cells_of program component) (components dimensions) 1 (components dimensions))
  fore_default_of l t s within n (Some (Record fields)) k g = fore_fields l t within n fields g

  fore_within : (l t : ℕ → Type 0) (s : Scope) (levels n number : ℕ) → Known l s → Fore l t (defaults_within program s levels n number)
  fore_within l t s zero n number k = tt
  fore_within l t s (suc levels) n number k = fore_default_of l t s (defaults_within program s levels) n (slice_get program.subtypes number) k (λ n m. fore_within l t s levels n m k)

  pub fore_defaulted : (l t : ℕ → Type 0) (s : Scope) (n x : ℕ) → Known l s → Fore l t (defaulted program s n x)
  fore_defaulted l t s n x k = fore_within l t (taking (length (object_layout program x)) s) (length program.subtypes) n (subtype_or_none program (slice_get program.objects x)) k

  fore_back_cells : (l t : ℕ → Type 0) (s : Scope) (d subtype : ℕ) → Known l s → Fore l t (back_cells program s d subtype)
  fore_back_cells l t s d subtype k = (((λ n z. absurd z), k.0), (((λ n z. absurd z), k.0), ((λ n z. absurd z), k.0)))

  fore_back : (l t : ℕ → Type 0) (s : Scope) (sub w : ℕ) (x : Actuals) → Known l s → Fore l t (back_code program s sub w x)
  unfolding Rattle.ada_lower.specs.Emission.back_code
  fore_back l t s sub w NoActual k = tt
  fore_back l t s sub w (In formal value rest) k = fore_back l t s sub w rest k
  fore_back l t s sub w (InOut formal at r selections inner outer rest) k = ((((λ n z. absurd z), k.0), (((λ n z. absurd z), k.0), (fore_checked l t s k 2 outer, ((λ n z. absurd z), k.0)))), fore_back l t s sub w rest k)
  fore_back l t s sub w (Out formal at r selections inner outer rest) k = ((((λ n z. absurd z), k.0), (((λ n z. absurd z), k.0), (fore_checked l t s k 2 outer, ((λ n z. absurd z), k.0)))), fore_back l t s sub w rest k)
  fore_back l t s sub w (CompositeInOut formal at r selections subtype rest) k = (fore_back_cells l t s _ subtype k, fore_back l t s sub w rest k)
  fore_back l t s sub w (CompositeOut formal at r selections subtype rest) k = (fore_back_cells l t s _ subtype k, fore_back l t s sub w rest k)

  fore_piece_values : (l t : ℕ → Type 0) (s : Scope) (x : Pieces) → Known l s → Fore l t (piece_values program s x)
  unfolding Rattle.ada_lower.specs.Emission.piece_values
  fore_piece_values l t s NoPiece k = tt
  fore_piece_values l t s (Text bytes rest) k = fore_piece_values l t s rest k
  fore_piece_values l t s (Image class e rest) k = (fore_emit program l t s 0 e k, (((λ n z. absurd z), k.0), fore_piece_values l t (taking 1 s) rest k))
  fore_piece_values l t s (Padded class e width rest) k = (fore_emit program l t s 0 e k, (((λ n z. absurd z), k.0), fore_piece_values l t (taking 1 s) rest k))

  fore_declared : (l t : ℕ → Type 0) (s : Scope) (decls : Decls) (rest : Scope → Emit) → Known l s → ((u : Scope) → Known l u → Fore l t (rest u)) → Fore l t (declared program s decls rest)
  fore_declared l t s NoDecl rest k f = f s k
  fore_declared l t s (DeclareDefault x more) rest k f = (fore_defaulted l t s s.free x k, fore_declared l t (object_here s (VariableOf x) (length (object_layout program x))) more rest k f)
  fore_declared l t s (DeclareVariable x initial more) rest k f = (fore_into program l t (taking (width program initial) s) 0 s.free initial k, fore_declared l t (object_here s (VariableOf x) (width program initial)) more rest k f)
  fore_declared l t s (DeclareConstant x initial more) rest k f = (fore_into program l t (taking (width program initial) s) 0 s.free initial k, fore_declared l t (object_here s (ConstantOf x) (width program initial)) more rest k f)
  fore_declared l t s (Mentions es more) rest k f = fore_declared l t s more rest k f

  fore_parallel_for : (l t : ℕ → Type 0) (s : Scope) (number site : ℕ) (chunk : Chunk) (it : Iteration) (loops : List ℕ) (body : Scope → Emit) → Known l s → ForeTurns l t body → Fore l t (parallel_for program s number site chunk it loops body)
  fore_parallel_for l t s number site chunk it loops body k f =
      (((λ n z. absurd z), k.0), (fore_chunk program l t (nested s) 0 chunk k, (fore_course program l t (taking 2 (nested s)) 0 it k, (fore_ends l t (taking 2 (nested s)) k 0 it, ((((λ n z. absurd z), k.0), (((λ n z. absurd z), k.0), (((λ n z. absurd z), k.0), (((λ n z. absurd z), k.0), (k.0, (fore_threaded program l t (thread_scope site s) 0 chunk (s.free + 1 + 1) it body refl (λ n. refl) f, ((λ n z. absurd z), (known_chunk l chunk (taking 2 (thread_scope site s)) refl (λ n. refl)).0))))))), (((λ n z. absurd z), k.0), fore_left l t (taking 2 (taking 2 s)) k (Some number) loops))))))

  -- the scope of a block's threads knows no handler and no exit
  known_arm : (l : ℕ → Type 0) (s : Scope) (site : ℕ) → Known l (arm_scope program s site)
  known_arm l s site = known_nothing l (arm_scope program s site) refl (λ n. refl)

  fore_parallel_block : (l t : ℕ → Type 0) (s : Scope) (site : ℕ) (threads : Optional) (count : ℕ) (loops : List ℕ) (arms : Emit) → Known l s → Fore l t arms → Fore l t (parallel_block program s site threads count loops arms)
  fore_parallel_block l t s site threads count loops arms k f =
      (((λ n z. absurd z), k.0), (fore_chunk program l t (nested s) 0 (chunk_by program threads) k, (((λ n z. absurd z), k.0), (((λ n z. absurd z), k.0), ((((λ n z. absurd z), k.0), (((λ n z. absurd z), k.0), (((λ n z. absurd z), k.0), (((λ n z. absurd z), k.0), (k.0, (f, ((λ n z. absurd z), (known_arm l s site).0))))))), (((λ n z. absurd z), k.0), fore_left l t (taking 2 s) k None loops))))))

  mutual
    unfolding Rattle.ada_lower.specs.Emission.stmt

    pub fore_stmt : (l t : ℕ → Type 0) (s : Scope) (x : Stmt) → Known l s → Fore l t (stmt program s x)
    fore_stmt l t s Null k = tt
    fore_stmt l t s (Assign at r selections (Number check e)) k =
        fore_assigned l t s k (root_of s r) (is_whole selections) check.scalar (selected program s 1 selections) _ (fore_selected program l t s 1 selections k) (λ u h k'. fore_emit program l t u h e k')
    fore_stmt l t s (Assign at r selections (Cells c)) k =
        (fore_address l t s k 0 (root_of s r), (fore_selected program l t s 1 selections k, (((λ n z. absurd z), k.0), (fore_composed program l t (with_target (record { through = true; place = own s.free; cells = composite_width program c }) (taking (composite_width program c) (taking 1 s))) 0 (s.free + 1) c k, (((λ n z. absurd z), k.0), (((λ n z. absurd z), k.0), ((λ n z. absurd z), k.0)))))))
    fore_stmt l t s (CallProcedure at callee sub actuals) k = (fore_passed program l t (passing program sub s) 0 sub s.free actuals k, (((λ n z. absurd z), k.0), fore_back l t s sub s.free actuals k))
    fore_stmt l t s (Exit loop Absent) k = fore_exiting l t s k loop (s.exits loop) refl
    fore_stmt l t s (Exit loop (Present e)) k = (fore_emit program l t s 0 e k, (k.0, fore_exiting l t s k loop (s.exits loop) refl))
    fore_stmt l t s Return k = fore_returning l t s k 0 s.leaving
    fore_stmt l t s (ReturnValue (Number check e)) k = (fore_emit program l t s 0 e k, (fore_checked l t s k 1 check.scalar, fore_returning_value l t s k s.leaving))
    fore_stmt l t s (ReturnValue (Cells c)) k = ((λ n z. absurd z), k.0)
    fore_stmt l t s (Raise r) k = ((λ n z. absurd z), k.0)
    fore_stmt l t s Reraise k = fore_handled_target l t s k s.handled
    fore_stmt l t s (IfThen condition stmts otherwise) k =
        (fore_emit program l t s 0 condition k, fore_cond l t s k (is_end otherwise) _ _ (k.0, fore_all l t s stmts k) (k.0, (fore_all l t s stmts k, fore_all l t s otherwise k)))
    fore_stmt l t s (Case e alternatives) k = (fore_emit program l t s 0 e k, (((λ n z. absurd z), k.0), fore_cases l t (taking 1 s) s.free alternatives k))
    fore_stmt l t s (Loop number Absent stmts) k = (
      k.0,
      (
        begins s 0 (λ x. all program (with_exit number x s) stmts),
        (
          (λ x. (((λ n z. absurd z), (known_more l s x k).0), fore_all (λ y. Also l x y) t (with_exit number x s) stmts (known_exit l s number x k))),
          (λ x. ((λ n z. inl (inr z)), k.0)),
        ),
      ),
    )
    fore_stmt l t s (Loop number (Present e) stmts) k = (
      k.0,
      (
        begins s 0 (λ x. all program (with_exit number x s) stmts),
        (
          (λ x. (((λ n z. absurd z), (known_more l s x k).0), fore_all (λ y. Also l x y) t (with_exit number x s) stmts (known_exit l s number x k))),
          (λ x. (fore_emit program l (λ y. Also t x y) s 0 e k, ((λ n z. inl (inr z)), k.0))),
        ),
      ),
    )
    fore_stmt l t s (For number iteration stmts) k = fore_iterated program l t s 0 (Some number) iteration (λ u. all program u stmts) k (λ l' u up k'. fore_all l' t u stmts k')
    fore_stmt l t s (ParallelFor number site chunk iteration stmts) k = fore_parallel_for l t s number site chunk iteration (exits_of stmts) (λ u. all program u stmts) k (λ l' u up k'. fore_all l' t u stmts k')
    fore_stmt l t s (Parallel site count arms) k = fore_parallel_block l t s site count (arms_of arms) (arm_exits arms) _ k (fore_each l t (arm_scope program s site) 0 arms (known_arm l s site))
    fore_stmt l t s (Block decls stmts handlers) k = fore_declared l t s decls _ k (λ u k'.
        fore_cond l t u k' (no_handler handlers) _ _ (fore_all l t u stmts k') (
          k'.0,
          (
            (((λ n z. absurd z), k'.0), fore_handling l t (with_handled (own u.free) (taking 1 u)) u.free handlers k'),
            (λ x. fore_all (λ y. Also l x y) t (with_entry x u) stmts ((λ e z. inr (sym (some_same x e z))), (λ n e z. inl (k'.1 n e z)))),
          ),
        ))
    fore_stmt l t s (Put at callee pieces line) k = (fore_piece_values l t s pieces k, (fore_texts l t s k s.free pieces, fore_send l t s k 0 line))
    fore_stmt l t s (Get at callee first r selections scalar) k = (fore_address l t s k 0 (root_of s r), (fore_selected program l t s 1 selections k, (((λ n z. absurd z), k.0), (fore_checked l t s k 2 scalar, ((λ n z. absurd z), k.0)))))

    pub fore_all : (l t : ℕ → Type 0) (s : Scope) (x : Stmts) → Known l s → Fore l t (all program s x)
    fore_all l t s End k = tt
    fore_all l t s (Then first more) k = (fore_stmt l t s first k, fore_all l t s more k)

    fore_cases : (l t : ℕ → Type 0) (s : Scope) (d : ℕ) (x : Alternatives) → Known l s → Fore l t (cases program s d x)
    fore_cases l t s d NoAlternative k = ((λ n z. absurd z), k.0)
    fore_cases l t s d (Alternative true choices mentions stmts rest) k = fore_all l t s stmts k
    fore_cases l t s d (Alternative false choices mentions stmts rest) k = (fore_chosen l t s k d choices, (k.0, (fore_all l t s stmts k, fore_cases l t s d rest k)))

    fore_handling : (l t : ℕ → Type 0) (s : Scope) (d : ℕ) (x : Handlers) → Known l s → Fore l t (handling program s d x)
    fore_handling l t s d NoHandler k = (((λ n z. absurd z), k.0), ((λ n z. absurd z), k.0))
    fore_handling l t s d (Handler handled stmts rest) k = fore_handled_by l t s k handled (all program s stmts) (handling program s d rest) d (fore_all l t s stmts k) (fore_handling l t s d rest k)

    fore_each : (l t : ℕ → Type 0) (s : Scope) (n : ℕ) (x : Arms) → Known l s → Fore l t (arms_code program s n (arm_codes program s x))
    fore_each l t s n NoArm k = tt
    fore_each l t s n (Arm stmts rest) k = ((fore_in_share l t s n k, (k.0, fore_all l t s stmts k)), fore_each l t s (n + 1) rest k)

  -- ---- bodies

  fore_ending : (l t : ℕ → Type 0) (s : Scope) (o : Option Scalar) → Known l s → Fore l t (code.ending s o)
  fore_ending l t s None k = ((λ n z. absurd z), k.0)
  fore_ending l t s (Some scalar) k = ((λ n z. absurd z), k.0)

  known_placed : (l : ℕ → Type 0) (hs : List Shape) (n : ℕ) (s : Scope) → Known l s → Known l (code.placed hs n s)
  known_placed l [] n s k = k
  known_placed l (h ∷ hs) n s k = known_placed l hs _ _ k

  fore_subs : (l t : ℕ → Type 0) (s : Scope) (n : ℕ) (subs : List Sub) → Known l s → Fore l t (code.subs_code program s n subs)
  fore_subs l t s n [] k = tt
  fore_subs l t s n (unit ∷ more) k =
      let k' : Known l (code.sub_scope program s n unit) = known_placed l (shapes program unit.formals) 0 _ k in
      ((fore_stmt l t (code.sub_scope program s n unit) (Block unit.body.decls unit.body.stmts unit.body.handlers) k', fore_ending l t (code.sub_scope program s n unit) unit.result k'), fore_subs l t s (n + 1) more k)

  fore_main : (l t : ℕ → Type 0) (s : Scope) (decls : Decls) → Known l s → Fore l t (code.main_declared program s decls (λ u. code.behind_main program u))
  fore_main l t s NoDecl k = ((fore_stmt l t s (Block NoDecl program.body.stmts program.body.handlers) k, ((λ n z. absurd z), k.0)), fore_subs l t s 0 program.subs k)
  fore_main l t s (DeclareDefault x more) k = (fore_defaulted l t s s.free x k, fore_main l t (code.main_object s (VariableOf x) (length (object_layout program x))) more k)
  fore_main l t s (DeclareVariable x initial more) k = (fore_into program l t (taking (width program initial) s) 0 s.free initial k, fore_main l t (code.main_object s (VariableOf x) (width program initial)) more k)
  fore_main l t s (DeclareConstant x initial more) k = (fore_into program l t (taking (width program initial) s) 0 s.free initial k, fore_main l t (code.main_object s (ConstantOf x) (width program initial)) more k)
  fore_main l t s (Mentions es more) k = fore_main l t s more k

  -- ---- what no run comes to

  fore_idle : (l t : ℕ → Type 0) (text : List ℕ → ℕ) (ps : List Placed) (n : ℕ) (sites : List Site) → Fore l t (idle_forks (code.main_scope text) ps n sites)
  fore_idle l t text ps n [] = tt
  fore_idle l t text ps n (x ∷ more) = (go (has_fork n ps), fore_idle l t text ps (n + 1) more)
    where
      none_holds : (e : ℕ) → None ≡ Some e → l e
      none_holds e z = absurd (none-some e z)

      go : (b : Bool) → Fore l t (cond b none (idle_fork (code.main_scope text) n))
      go true = tt
      go false = (((λ n z. absurd z), none_holds), ((none_holds, ((λ n z. absurd z), none_holds)), ((λ n z. absurd z), none_holds)))

  -- the code of every program is forward
  pub program_forward : (text : List ℕ → ℕ) (c : Code) → IsCodeOf program text c → IsForward c
  program_forward text c is = forward_code c (whole_code program text) is.lists (
    fore_main Nowhere Nowhere (code.main_scope text) program.body.decls (known_nothing Nowhere (code.main_scope text) refl (λ n. refl)),
    fore_idle Nowhere Nowhere text (listed (code.program_code program text) 0) 0 program.sites,
  )
