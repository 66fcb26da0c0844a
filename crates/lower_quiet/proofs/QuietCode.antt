-- No listed instruction of a thread, or of a nonblocking subprogram, asks for input or output, and it calls nonblocking ones alone (9.5).
use Rattle.std.proofs.Common.{◌≡◌, ℕ, zero, suc, ◌+◌, ◌-◌, ◌<◌, min, max, ℤ, pos, ◌&&◌, not, List, [], ◌∷◌, ◌++◌, length, slice_get, nat_eq, nat_lt, Option, Some, None, Bool, true, false, cond, refl, sym, subst, ap, ◌∙◌, true≢false, arith}
use Rattle.std.proofs.lemmas.Option.{none-some}
use Rattle.ada_meaning.proofs.Cells.{some_same}
use Rattle.ada_base.specs.declared.operation.Op.{Op}
use Rattle.ada_base.specs.declared.operation.Op.TheVariants as op
use Rattle.ada_base.specs.declared.reason.Reason.{Reason}
use Rattle.behaviours.specs.Paths.{VariableOf, ConstantOf}
use Rattle.ada_base.specs.declared.operation.Base.TheVariants.{Narrow, Wide, Modulo}
use Rattle.ada_meaning.specs.Values.{components, is_modular}
use Rattle.ada_meaning.specs.Nonblocking.{MayCall, MayReduce, KeepsExpr, KeepsOptional, KeepsSelections, KeepsActuals, KeepsValue, KeepsComposite, KeepsAssociations, KeepsIteration, KeepsChunk, KeepsPieces, KeepsDecls, Keeps, KeepsAll, KeepsAlternatives, KeepsArms, KeepsHandlers, KeepsBody, KeepsSubs, KeepsRule, nonblocking_of}
use Rattle.ada_meaning.specs.Meaning.{object_layout, arms_of}
use Rattle.typed_tree.specs.declared.scalars.Class.{Class}
use Rattle.typed_tree.specs.declared.scalars.Class.TheVariants as class
use Rattle.typed_tree.specs.declared.scalars.Scalar.{Scalar}
use Rattle.ada_base.specs.declared.operation.Comparison.{Comparison}
use Rattle.ada_base.specs.declared.operation.Comparison.TheVariants as comparison
use Rattle.typed_tree.specs.declared.scalars.Check.{Check}
use Rattle.typed_tree.specs.declared.expressions.Run.{Run}
use Rattle.typed_tree.specs.declared.expressions.Sign.{Sign}
use Rattle.typed_tree.specs.declared.expressions.Sign.TheVariants as sign
use Rattle.typed_tree.specs.declared.expressions.Reducer.{Reducer}
use Rattle.typed_tree.specs.declared.expressions.Reducer.TheVariants.{Operator, Function}
use Rattle.typed_tree.specs.declared.statements.Span.{Span}
use Rattle.typed_tree.specs.declared.program.Field.{Field as Part}
use Rattle.typed_tree.specs.declared.program.Site.{Site}
use Rattle.typed_tree.specs.Syntax.{Expr, Static, Variable, Constant, Parameter, Target, Group, Unary, Binary, AndThen, OrElse, Relation, Membership, If, Call, Convert, Reduction, Iteration, Range, Components, Chunk, NoChunk, Count, Each, Optional, Absent, Present, Selections, Whole, Field, Index, Actuals, NoActual, In, InOut, Out, CompositeInOut, CompositeOut, Value, Number, Cells, Composite, WholeVariable, WholeConstant, WholeTarget, CompositeIf, Aggregate, Associations, NoAssociation, Association, Pieces, NoPiece, Text, Image, Padded, Decls, NoDecl, DeclareDefault, DeclareVariable, DeclareConstant, Mentions, Stmt, Null, Assign, CallProcedure, Exit, Return, ReturnValue, Raise, Reraise, IfThen, Case, Loop, For, ParallelFor, Parallel, Block, Put, Get, Stmts, End, Then, Alternatives, NoAlternative, Alternative, Handled, Others, Reasons, Handlers, NoHandler, Handler, Arms, NoArm, Arm, Sub, Subtype, OfScalar, Array, Record, Program}
use Rattle.stack_code.specs.declared.code.Around.{Around as Body}
use Rattle.stack_code.specs.declared.code.Around.TheVariants as body
use Rattle.stack_code.specs.declared.instr.Instr.{Instr}
use Rattle.stack_code.specs.declared.instr.Instr.TheVariants as i
use Rattle.lower_emission.specs.declared.types.Placed.{Placed}
use Rattle.lower_emission.specs.declared.types.Where.{Where}
use Rattle.lower_emission.specs.declared.types.Named.{Named}
use Rattle.lower_emission.specs.declared.types.Level.{Level}
use Rattle.lower_emission.specs.declared.types.Level.TheVariants.{Own, Around, Main}
use Rattle.lower_emission.specs.declared.types.Leaving.{Leaving}
use Rattle.lower_emission.specs.declared.types.Leaving.TheVariants.{ByReturn, ByValue, ByEnd, ByLeave}
use Rattle.lower_emission.specs.Emits.{Emit, Nothing, One, Seq, Choose, When, Looped, Guarded, Aside, From, listed}
use Rattle.lower_emission.specs.Scope.{Scope, mark_of, keep_checked, own, taking, nested, thread_scope, with_parameter, with_item, with_target, with_handled, with_exit, with_entry, root_of, constant_root_of, array_root_of, none, one, ◌⨟◌, load_at, address_at, store_at, address_of}
use Rattle.lower_emission.specs.Emission.{checked, is_plain, Shape, shapes, load_by, load_named, load_where, address, is_whole, own_cell, indexed_by, item_by, main_named, component_address, component_value, unary_instr, binary_instr, static_instr, operated_by, compare_instr, within, negated_code, leaving_by, first_parameter, range_scope, item_scope, counting, bounds_code, ascending, stepping, folding, ranged, combined, doubled, filling, fillings, iterated_scope, turnings, entering, entering_next, run_steps, run_turnings, turn_height, chunk_scope, raise_above, raise_beyond, ends_code, turn_range, turn_component, cells_of, passing, composite_width, width, is_repeated, components_of, locating, locating_in, repeating}
use Rattle.lower_emission.proofs.Fused.{of_either, of_check, of_set, of_not, of_operated, of_component_address, of_component_value}
unfoldable use Rattle.lower_emission.specs.Emission.{emit, named_value, selected, read, passed, put_into, composed, associated, component, filtered, iterated, chunk_code, course_code, threaded}
use Rattle.lower_emission.specs.Statements.{no_handler, is_end, assigned, in_span, chosen, has_reason, handled_by, returning, returning_value, away, exiting, handled_target, image_instr, send_instr, piece_texts, object_here, exits_of, arm_exits, left_by, exits_code, is_own, left_code, field_defaults, default_of, defaults_within, subtype_or_none, defaulted, declared, parallel_for, arms_code, chunk_by, arm_scope, parallel_block, store_checked}
unfoldable use Rattle.lower_emission.specs.Statements.{back_code, piece_values, stmt, all, cases, handling, arm_codes}
use Rattle.lower_emission.specs.Bodies as code
use Rattle.lower_emission.specs.Programs.{text_in, has_fork, idle_fork, idle_forks, whole_code, placed_code}
use Rattle.lower_emission.specs.Texts.{texts_of}
use Rattle.machine_paths.specs.Hushed.{IsQuiet}
use Rattle.lower_quiet.specs.Law.{quiet_in}

module _ (program : Program) where
  abbrev nonblocking : ℕ → Bool
  nonblocking = nonblocking_of program.subs

  abbrev quiet : ℕ → Bool
  quiet = quiet_in program

  -- what an instruction of a body may do
  abbrev pub Hush : Body → Instr → Type 0
  Hush b i.Send = IsQuiet quiet b → ⊥
  Hush b i.SendLn = IsQuiet quiet b → ⊥
  Hush b i.Get = IsQuiet quiet b → ⊥
  Hush b (i.Call k) = IsQuiet quiet b → quiet k ≡ true
  Hush b (i.CallAt k n) = IsQuiet quiet b → quiet k ≡ true
  Hush b (i.CallTo k n to) = IsQuiet quiet b → quiet k ≡ true
  Hush b (i.Combine k) = IsQuiet quiet b → quiet k ≡ true
  Hush b j = Unit {0}

  abbrev pub Hushed : Emit → Type 0
  Hushed Nothing = Unit {0}
  Hushed (One m h j) = Hush m.body j
  Hushed (Seq a b) = Hushed a × Hushed b
  Hushed (Choose m h k a b) = Hushed a × Hushed b
  Hushed (When m h a) = Hushed a
  Hushed (Looped m h at_body exit head) = ((x : ℕ) → Hushed (exit x)) × ((x : ℕ) → Hushed (head x))
  Hushed (Guarded m handlers exit) = Hushed handlers × ((x : ℕ) → Hushed (exit x))
  Hushed (Aside m h a) = Hushed a
  Hushed (From a) = (x : ℕ) → Hushed (a x)

  abbrev pub AllHushed : List Placed → Type 0
  AllHushed [] = Unit {0}
  AllHushed (p ∷ ps) = Hush p.body p.instr × AllHushed ps

  hushed_join : (xs ys : List Placed) → AllHushed xs → AllHushed ys → AllHushed (xs ++ ys)
  hushed_join [] ys a b = b
  hushed_join (x ∷ xs) ys (a, as') b = (a, hushed_join xs ys as' b)

  pub all_hushed : (a : Emit) (q : ℕ) → Hushed a → AllHushed (listed a q)
  all_hushed Nothing q w = tt
  all_hushed (One m h j) q w = (w, tt)
  all_hushed (Seq a b) q (w, w') = hushed_join (listed a q) (listed b (q + length (listed a q))) (all_hushed a q w) (all_hushed b (q + length (listed a q)) w')
  all_hushed (Choose m h k a b) q (w, w') = (tt, hushed_join (listed a (q + 1)) _ (all_hushed a (q + 1) w) (tt, all_hushed b (q + 1 + length (listed a (q + 1)) + 1) w'))
  all_hushed (When m h a) q w = (tt, all_hushed a (q + 1) w)
  all_hushed (Looped m h at_body exit head) q (f, g) = (tt, (tt, hushed_join (listed (exit (q + 1)) (q + 1 + 1)) _ (all_hushed (exit (q + 1)) (q + 1 + 1) (f (q + 1))) (all_hushed (head (q + 1 + 1)) (q + 1 + 1 + length (listed (exit (q + 1)) (q + 1 + 1))) (g (q + 1 + 1)))))
  all_hushed (Guarded m handlers exit) q (w, f) = (tt, (tt, hushed_join (listed (exit (q + 1)) (q + 1 + 1)) _ (all_hushed (exit (q + 1)) (q + 1 + 1) (f (q + 1))) (tt, all_hushed handlers (q + 1 + 1 + length (listed (exit (q + 1)) (q + 1 + 1)) + 1) w)))
  all_hushed (Aside m h a) q w = (tt, all_hushed a (q + 1) w)
  all_hushed (From a) q f = all_hushed (a q) q (f q)

  pub hushed_at : (ps : List Placed) (k : ℕ) (p : Placed) → AllHushed ps → slice_get ps k ≡ Some p → Hush p.body p.instr
  hushed_at [] k p w e = absurd (none-some p e)
  hushed_at (x ∷ ps) zero p (w, ws) e = subst (λ p. Hush p.body p.instr) (some_same x p e) w
  hushed_at (x ∷ ps) (suc k) p (w, ws) e = hushed_at ps k p ws e

  -- blocking calls aren't allowed in the text of a quiet body
  abbrev Inside : Bool → Scope → Type 0
  Inside may s = IsQuiet quiet s.body → may ≡ false

  inside_chunk : (may : Bool) (chunk : Chunk) (s : Scope) → Inside may s → Inside may (chunk_scope chunk s)
  inside_chunk may NoChunk s k = k
  inside_chunk may (Count e) s k = k
  inside_chunk may (Each p low high check) s k = k

  inside_leaving : (may : Bool) (number : Option ℕ) (x : ℕ) (s : Scope) → Inside may s → Inside may (leaving_by number x s)
  inside_leaving may None x s k = k
  inside_leaving may (Some number) x s k = k

  module _ (s : Scope) where
    quiet_load_at : (h : ℕ) (level : Level) (n : ℕ) → Hushed (one s h (load_at level n))
    quiet_load_at h Own n = tt
    quiet_load_at h (Around j) n = tt
    quiet_load_at h Main n = tt

    quiet_address_at : (h : ℕ) (level : Level) (n : ℕ) → Hushed (one s h (address_at level n))
    quiet_address_at h Own n = tt
    quiet_address_at h (Around j) n = tt
    quiet_address_at h Main n = tt

    quiet_store_at : (h : ℕ) (level : Level) (n : ℕ) → Hushed (one s h (store_at level n))
    quiet_store_at h Own n = tt
    quiet_store_at h (Around j) n = tt
    quiet_store_at h Main n = tt

    quiet_address_of : (h : ℕ) (n : Named) → Hushed (one s h (address_of n))
    quiet_address_of h n = go n.through
      where
        go : (b : Bool) → Hushed (one s h (cond b (load_at n.place.level n.place.cell) (address_at n.place.level n.place.cell)))
        go true = quiet_load_at h n.place.level n.place.cell
        go false = quiet_address_at h n.place.level n.place.cell

    quiet_cond : (b : Bool) (x y : Emit) → Hushed x → Hushed y → Hushed (cond b x y)
    quiet_cond true x y f g = f
    quiet_cond false x y f g = g

    quiet_load : (h : ℕ) (b : Bool) (w : Where) → Hushed (load_by b s h w)
    quiet_load h true w = (quiet_load_at h w.level w.cell, tt)
    quiet_load h false w = quiet_load_at h w.level w.cell

    quiet_named : (h : ℕ) (n : Option Named) → Hushed (load_named s h n)
    quiet_named h None = tt
    quiet_named h (Some n) = quiet_load h n.through n.place

    quiet_where : (h : ℕ) (w : Option Where) → Hushed (load_where s h w)
    quiet_where h None = tt
    quiet_where h (Some w) = quiet_load_at h w.level w.cell

    quiet_address : (h : ℕ) (n : Option Named) → Hushed (address s h n)
    quiet_address h None = tt
    quiet_address h (Some n) = quiet_address_of h n

    quiet_indexed : (h : ℕ) (n : Option ℕ) (low high : ℤ) (stride : ℕ) (index : Emit) → Hushed index → Hushed (indexed_by s h n low high stride index)
    quiet_indexed h None low high stride index f = (f, tt)
    quiet_indexed h (Some n) low high stride index f = tt

    quiet_item : (h : ℕ) (n : Option ℕ) (low high : ℤ) (stride : ℕ) (index : Emit) → Hushed index → Hushed (item_by s h n low high stride index)
    quiet_item h None low high stride index f = (f, tt)
    quiet_item h (Some n) low high stride index f = tt

    quiet_component_address : (h : ℕ) (n : Option Named) (first own : Option ℕ) (low high : ℤ) (stride : ℕ) (index : Emit) → Hushed index → Hushed (component_address s h n first own low high stride index)
    quiet_component_address h n first own low high stride index f = of_component_address Hushed s h n first own low high stride index (λ g j e e'. tt) (quiet_address h n, quiet_indexed (h + 1) own low high stride index f)

    quiet_component_value : (h : ℕ) (n : Option Named) (first own : Option ℕ) (low high : ℤ) (stride : ℕ) (index : Emit) → Hushed index → Hushed (component_value s h n first own low high stride index)
    quiet_component_value h n first own low high stride index f = of_component_value Hushed s h n first own low high stride index (λ g j e e'. tt) (quiet_address h n, quiet_item (h + 1) own low high stride index f)

    quiet_unary : (h : ℕ) (g : Sign) (class : Class) → Hushed (one s h (unary_instr g class))
    quiet_unary h sign.Minus class = tt
    quiet_unary h sign.Abs class = tt
    quiet_unary h sign.Not class = of_not (λ j. Hushed (one s h j)) class tt (λ n d. tt)

    quiet_binary : (h : ℕ) (x : Op) (class : Class) → Hushed (one s h (binary_instr x class))
    quiet_binary h op.Add class = tt
    quiet_binary h op.Sub class = tt
    quiet_binary h op.Mul class = tt
    quiet_binary h op.Div class = tt
    quiet_binary h op.Mod class = tt
    quiet_binary h op.Rem class = tt
    quiet_binary h op.Pow class = tt
    quiet_binary h op.And class = of_either (λ j. Hushed (one s h j)) (is_modular class) _ _ tt tt
    quiet_binary h op.Or class = of_either (λ j. Hushed (one s h j)) (is_modular class) _ _ tt tt
    quiet_binary h op.Xor class = of_either (λ j. Hushed (one s h j)) (is_modular class) _ _ tt tt
    quiet_binary h op.Max class = of_either (λ j. Hushed (one s h j)) (is_modular class) _ _ tt tt
    quiet_binary h op.Min class = of_either (λ j. Hushed (one s h j)) (is_modular class) _ _ tt tt

    quiet_operated : (h : ℕ) (x : Op) (class : Class) (f : Expr) (right : Emit) → Hushed right → Hushed (operated_by s h (static_instr x class f) (binary_instr x class) right)
    quiet_operated h x class f right m = of_operated Hushed s h x class f (binary_instr x class) right (λ v. tt) (λ v. tt) (λ v. tt) (λ v. tt) (m, quiet_binary (h + 1) x class)

    quiet_compare : (h : ℕ) (r : Comparison) (class : Class) → Hushed (one s h (compare_instr r class))
    quiet_compare h comparison.Equal class = tt
    quiet_compare h comparison.Unequal class = tt
    quiet_compare h comparison.Less class = of_either (λ j. Hushed (one s h j)) (is_modular class) _ _ tt tt
    quiet_compare h comparison.AtMost class = of_either (λ j. Hushed (one s h j)) (is_modular class) _ _ tt tt
    quiet_compare h comparison.Greater class = of_either (λ j. Hushed (one s h j)) (is_modular class) _ _ tt tt
    quiet_compare h comparison.AtLeast class = of_either (λ j. Hushed (one s h j)) (is_modular class) _ _ tt tt

    quiet_checked : (h : ℕ) (x : Scalar) → Hushed (checked s h x)
    quiet_checked h x = of_check (λ j. Hushed (one s h j)) x tt tt

    quiet_keep_checked : (h n : ℕ) (x : Scalar) → Hushed (keep_checked s h x n)
    quiet_keep_checked h n x = of_set (λ j. Hushed (One (mark_of (max s.free (n + 1)) s) h j)) x n tt tt

    quiet_within : (h : ℕ) (class : Class) (d : ℕ) → Hushed (within s h class d)
    quiet_within h class d = (tt, (quiet_compare (h + 1 + 1) comparison.AtLeast class, (tt, (tt, (quiet_compare (h + 1 + 1 + 1) comparison.AtMost class, tt)))))

    quiet_negated : (h : ℕ) (b : Bool) → Hushed (negated_code s h b)
    quiet_negated h true = tt
    quiet_negated h false = tt

    quiet_bounds : (h d : ℕ) (check : Option Check) → Hushed (bounds_code s h d check)
    quiet_bounds h d None = tt
    quiet_bounds h d (Some x) = (tt, (quiet_checked (h + 1) x.scalar, (tt, (tt, (quiet_checked (h + 1) x.scalar, tt)))))

    quiet_ascending : (h d : ℕ) → Hushed (ascending s h d)
    quiet_ascending h d = (tt, (tt, tt))

    quiet_ranged : (h n : ℕ) (subtype : Scalar) → Hushed (ranged s h n subtype)
    quiet_ranged h n subtype = (tt, (tt, (quiet_compare (h + 1 + 1) comparison.AtLeast subtype.class, (tt, (tt, (quiet_compare (h + 1 + 1 + 1) comparison.AtMost subtype.class, tt))))))

    quiet_raise_above : (h d : ℕ) → Hushed (raise_above s h d)
    quiet_raise_above h d = (tt, (tt, (tt, tt)))

    quiet_raise_beyond : (h : ℕ) → Hushed (raise_beyond s h)
    quiet_raise_beyond h = (tt, (tt, (tt, tt)))

    quiet_ends : (h : ℕ) (it : Iteration) → Hushed (ends_code s h it)
    quiet_ends h (Range p reverse low high check filter) = (tt, tt)
    quiet_ends h (Components p constant a r selections count stride dimensions filter) = (tt, tt)

    quiet_counting : (h : ℕ) (reverse : Bool) (d head : ℕ) → Hushed (one s h (counting reverse d head))
    quiet_counting h true d head = tt
    quiet_counting h false d head = tt

    quiet_stepping : (h place stride first head : ℕ) → Hushed (stepping s h place stride first head)
    quiet_stepping h place stride first head = (tt, (tt, (tt, tt)))

    quiet_doubled : (h first size steps done count : ℕ) → Hushed (doubled s h first size steps done count)
    quiet_doubled h first size zero done count = tt
    quiet_doubled h first size (suc steps) done count = quiet_cond (nat_lt done count) _ none ((tt, (tt, tt)), quiet_doubled h first size steps (done + min done (count - done)) count) tt

    quiet_filling : (value : ℕ → Emit) (count first stride : ℕ) → ((n : ℕ) → Hushed (value n)) → Hushed (filling value count first stride)
    quiet_filling value zero first stride f = tt
    quiet_filling value (suc n) first stride f = (f first, quiet_filling value n (first + stride) stride f)

    quiet_fillings : (h n size : ℕ) (flat : Bool) (value : ℕ → Emit) (rs : List Run) → ((n : ℕ) → Hushed (value n)) → Hushed (fillings s h n size flat value rs)
    quiet_fillings h n size flat value [] f = tt
    quiet_fillings h n size flat value (r ∷ rs) f =
        (quiet_cond (flat && (nat_lt 1 r.count && nat_eq r.stride size)) _ _ (f r.first, quiet_doubled h (n + r.first) size r.count 1 r.count) (quiet_filling value r.count r.first r.stride f), quiet_fillings h n size flat value rs f)

    quiet_entering : (h n : ℕ) (low : ℤ) (count first : ℕ) → Hushed (entering s h n low count first)
    quiet_entering h n low count first = (tt, (tt, (tt, (tt, (tt, tt)))))

    quiet_next : (h n : ℕ) (low : ℤ) (head m : ℕ) (rs : List Run) → Hushed (entering_next s h n low head m rs)
    quiet_next h n low head m [] = tt
    quiet_next h n low head m (r ∷ rs) = quiet_cond (nat_eq r.count 0) _ _ (quiet_next h n low head (m + 1) rs) (tt, (tt, (quiet_entering (h + 1) n low r.count r.first, tt)))

    quiet_steps : (h n : ℕ) (low : ℤ) (head m : ℕ) (rs : List Run) → Hushed (run_steps s h n low head m rs)
    quiet_steps h n low head m [] = tt
    quiet_steps h n low head m (r ∷ rs) = ((tt, (tt, (tt, (quiet_stepping (h + 1) (s.free + 1 + 1) r.stride s.free head, quiet_next h n low head (m + 1) rs)))), quiet_steps h n low head (m + 1) rs)

    quiet_runs : (h n : ℕ) (low : ℤ) (part : Emit) (m : ℕ) (rs : List Run) → Hushed part → Hushed (run_turnings s h n low part m rs)
    quiet_runs h n low part m [] f = tt
    quiet_runs h n low part m (r ∷ rs) f = quiet_cond (nat_eq r.count 0) _ _ (quiet_runs h n low part (m + 1) rs f) (tt, (quiet_entering (h + 1) n low r.count r.first, (((λ x. (tt, f)), (λ x. quiet_steps h n low x m (r ∷ rs))), tt)))

    quiet_turnings : (h n : ℕ) (low : ℤ) (part : Emit) (rs : List Run) → Hushed part → Hushed (turnings s h n low part rs)
    quiet_turnings h n low part [] f = tt
    quiet_turnings h n low part (r ∷ []) f =
        quiet_cond (nat_eq r.count 0) none _ tt (tt, (tt, (tt, (tt, (tt, (tt, ((λ x. (tt, f)), (λ x. quiet_stepping h (s.free + 1 + 1) r.stride s.free x))))))))
    quiet_turnings h n low part (r ∷ p ∷ rs) f = quiet_runs h n low part 0 (r ∷ p ∷ rs) f

    quiet_locating : (h n m : ℕ) (r : Run) → Hushed (locating s h n m r)
    quiet_locating h n m r = quiet_cond (nat_eq r.count 0) none _ tt (tt, (tt, (tt, tt)))

    quiet_locating_in : (h n m : ℕ) (rs : List Run) → Hushed (locating_in s h n m rs)
    quiet_locating_in h n m [] = tt
    quiet_locating_in h n m (r ∷ []) = quiet_locating h n m r
    quiet_locating_in h n m (r ∷ p ∷ rs) = (tt, (tt, (tt, (quiet_locating h n m r, quiet_locating_in h n (m + r.count) (p ∷ rs)))))

    quiet_repeating : (h n : ℕ) (part : Emit) (rs : List Run) → Hushed part → Hushed (repeating s h n part rs)
    quiet_repeating h n part rs f = quiet_cond (nat_eq (components_of rs) 0) none _ tt (tt, (tt, (tt, (λ x. (quiet_locating_in h n 0 rs, (f, (tt, (tt, (tt, tt)))))))))

  -- what a body may call, its threads' code and quiet subprograms may
  module _ (may : Bool) (s : Scope) (k : Inside may s) where
    calls_quiet : (sub : ℕ) → MayCall nonblocking may sub → IsQuiet quiet s.body → quiet (sub + 1) ≡ true
    calls_quiet sub w q = let e : sub + 1 ≡ suc sub = omega arith in subst (λ n. quiet n ≡ true) (sym e) (w (k q))

    quiet_folding : (h : ℕ) (by : Reducer) → MayReduce nonblocking may by → Hushed (folding s h by)
    quiet_folding h (Operator a x class) w = quiet_binary s (h + 1 + 1) x class
    quiet_folding h (Function a sub accumulator value) w = (tt, (quiet_keep_checked s (h + 1) s.free accumulator, (tt, (quiet_checked s (h + 1) value, (tt, calls_quiet sub w)))))

    quiet_combined : (h : ℕ) (by : Reducer) → MayReduce nonblocking may by → Hushed (combined s h by)
    quiet_combined h (Operator a x class) w = tt
    quiet_combined h (Function a sub accumulator value) w = λ x.
        (tt, (((tt, (tt, (quiet_ranged s h s.free accumulator, (quiet_ranged s (h + 1) (s.free + 1) value, tt)))), calls_quiet sub w), tt))

    -- no output or input where none may be
    quiet_send : may ≡ true → (feed : Bool) → Hushed (one s 0 (send_instr feed))
    quiet_send allowed true = λ q. true≢false (sym allowed ∙ k q)
    quiet_send allowed false = λ q. true≢false (sym allowed ∙ k q)

  -- what is done in turns, in any scope of such threads
  abbrev HushedTurns : Bool → (Scope → Emit) → Type 0
  HushedTurns may f = (u : Scope) → Inside may u → Hushed (f u)

  mutual
    unfolding emit

    quiet_emit : (may : Bool) (s : Scope) (h : ℕ) (x : Expr) → KeepsExpr nonblocking x may → Inside may s → Hushed (emit program s h x)
    quiet_emit may s h (Static a value literal mentions) w k = tt
    quiet_emit may s h (Variable a r selections scalar) w k = quiet_value may s h (root_of s r) selections w k
    quiet_emit may s h (Constant a r selections scalar) w k = quiet_value may s h (constant_root_of s r) selections w k
    quiet_emit may s h (Parameter a j) w k = quiet_where s h (s.parameter j)
    quiet_emit may s h (Target a scalar) w k = quiet_named s h s.target
    quiet_emit may s h (Group e) w k = quiet_emit may s h e w k
    quiet_emit may s h (Unary a g class e) w k = (quiet_emit may s h e w k, quiet_unary s (h + 1) g class)
    quiet_emit may s h (Binary a x class e f) w k = (quiet_emit may s h e w.0 k, quiet_operated s (h + 1) x class f (emit program s (h + 1) f) (quiet_emit may s (h + 1) f w.1 k))
    quiet_emit may s h (AndThen e f) w k = (quiet_emit may s h e w.0 k, (quiet_emit may s h f w.1 k, tt))
    quiet_emit may s h (OrElse e f) w k = (quiet_emit may s h e w.0 k, (tt, quiet_emit may s h f w.1 k))
    quiet_emit may s h (Relation class r e f) w k = (quiet_emit may s h e w.0 k, (quiet_emit may s (h + 1) f w.1 k, quiet_compare s (h + 1 + 1) r class))
    quiet_emit may s h (Membership class negated e low high) w k =
        (quiet_emit may s h e w.0 k, (tt, (quiet_emit may (taking 1 s) h low w.1 k, (tt, (quiet_emit may (taking 2 s) h high w.2 k, (quiet_within s h class s.free, quiet_negated s h negated))))))
    quiet_emit may s h (If condition value otherwise) w k = (quiet_emit may s h condition w.0 k, (quiet_emit may s h value w.1 k, quiet_emit may s h otherwise w.2 k))
    quiet_emit may s h (Call a callee sub actuals) w k = (quiet_passed may (passing program sub s) h sub s.free actuals w.1 k, calls_quiet may s k sub w.0)
    quiet_emit may s h (Convert check e) w k = (quiet_emit may s h e w k, quiet_checked s (h + 1) check.scalar)
    quiet_emit may s h (Reduction a attribute by initial None chunk it value) w k =
        (quiet_emit may s h initial w.2 k, quiet_iterated may s (h + 1) None it (λ u. emit program u (h + 1) value ⨟ folding u h by) w.4 k (λ u k'. (quiet_emit may u (h + 1) value w.5 k', quiet_folding may u k' h by w.1)))
    quiet_emit may s h (Reduction a attribute by initial (Some site) chunk it value) w k =
        let ks : Inside false s = λ q. refl in
        let kt : Inside false (thread_scope site s) = λ q. refl in
        let kc : Inside false (chunk_scope chunk (taking 2 (thread_scope site s))) = inside_chunk false chunk (taking 2 (thread_scope site s)) kt in (
          quiet_emit may s h initial w.2 k,
          (
            tt,
            (
              tt,
              (
                quiet_chunk false (nested (taking 1 s)) h chunk w.3 ks,
                (
                  quiet_course false (taking 2 (nested (taking 1 s))) h it w.4 ks,
                  (
                    quiet_ends (taking 2 (nested (taking 1 s))) h it,
                    (
                      (
                        tt,
                        (
                          tt,
                          (
                            tt,
                            (
                              tt,
                              ((tt, (quiet_threaded (thread_scope site s) 1 chunk (s.free + 1 + 1 + 1) it (λ u. emit program u 1 value ⨟ folding u 0 by) w.4 kt (λ u k'. (quiet_emit false u 1 value w.5 k', quiet_folding false u k' 0 by w.1)), tt))),
                            ),
                          ),
                        ),
                      ),
                      (tt, quiet_combined may (taking 2 (taking 2 (taking 1 s))) k h by w.0),
                    ),
                  ),
                ),
              ),
            ),
          ),
        )

    quiet_value : (may : Bool) (s : Scope) (h : ℕ) (n : Option Named) (x : Selections) → KeepsSelections nonblocking x may → Inside may s → Hushed (named_value program s h n x)
    quiet_value may s h n Whole w k = quiet_named s h n
    quiet_value may s h n (Field number offset rest) w k = (quiet_address s h n, (tt, quiet_read may s (h + 1) rest w k))
    quiet_value may s h n (Index a e low high stride rest) w k =
        quiet_cond s (is_whole rest) _ _ (quiet_component_value s h n (main_named n) (own_cell s e) low high stride (emit program s (h + 1) e) (quiet_emit may s (h + 1) e w.0 k))
        (quiet_component_address s h n (main_named n) (own_cell s e) low high stride (emit program s (h + 1) e) (quiet_emit may s (h + 1) e w.0 k), quiet_read may s (h + 1) rest w.1 k)

    quiet_selected : (may : Bool) (s : Scope) (h : ℕ) (x : Selections) → KeepsSelections nonblocking x may → Inside may s → Hushed (selected program s h x)
    quiet_selected may s h Whole w k = tt
    quiet_selected may s h (Field number offset rest) w k = (tt, quiet_selected may s h rest w k)
    quiet_selected may s h (Index a e low high stride rest) w k = (quiet_indexed s h (own_cell s e) low high stride (emit program s h e) (quiet_emit may s h e w.0 k), quiet_selected may s h rest w.1 k)

    quiet_read : (may : Bool) (s : Scope) (h : ℕ) (x : Selections) → KeepsSelections nonblocking x may → Inside may s → Hushed (read program s h x)
    quiet_read may s h Whole w k = tt
    quiet_read may s h (Field number offset rest) w k = (tt, quiet_read may s h rest w k)
    quiet_read may s h (Index a e low high stride rest) w k =
        quiet_cond s (is_whole rest) _ _ (quiet_item s h (own_cell s e) low high stride (emit program s h e) (quiet_emit may s h e w.0 k))
        (quiet_indexed s h (own_cell s e) low high stride (emit program s h e) (quiet_emit may s h e w.0 k), quiet_read may s h rest w.1 k)

    quiet_passed : (may : Bool) (s : Scope) (h sub n : ℕ) (x : Actuals) → KeepsActuals nonblocking x may → Inside may s → Hushed (passed program s h sub n x)
    quiet_passed may s h sub n NoActual w k = tt
    quiet_passed may s h sub n (In formal value rest) w k = (quiet_into may s h _ value w.0 k, quiet_passed may s h sub n rest w.1 k)
    quiet_passed may s h sub n (InOut formal a r selections inner outer rest) w k =
        ((quiet_address s h (root_of s r), (quiet_selected may s (h + 1) selections w.0 k, (tt, (tt, (tt, quiet_keep_checked s (h + 1) _ inner))))), quiet_passed may s h sub n rest w.1 k)
    quiet_passed may s h sub n (Out formal a r selections inner outer rest) w k = ((quiet_address s h (root_of s r), (quiet_selected may s (h + 1) selections w.0 k, (tt, (tt, tt)))), quiet_passed may s h sub n rest w.1 k)
    quiet_passed may s h sub n (CompositeInOut formal a r selections subtype rest) w k =
        ((tt, (quiet_address s (h + 1) (root_of s r), (quiet_selected may s (h + 1 + 1) selections w.0 k, (tt, (tt, tt))))), quiet_passed may s h sub n rest w.1 k)
    quiet_passed may s h sub n (CompositeOut formal a r selections subtype rest) w k =
        ((tt, (quiet_address s (h + 1) (root_of s r), (quiet_selected may s (h + 1 + 1) selections w.0 k, (tt, (tt, tt))))), quiet_passed may s h sub n rest w.1 k)

    quiet_into : (may : Bool) (s : Scope) (h n : ℕ) (x : Value) → KeepsValue nonblocking x may → Inside may s → Hushed (put_into program s h n x)
    quiet_into may s h n (Number check e) w k = (quiet_emit may s h e w k, quiet_keep_checked s (h + 1) n check.scalar)
    quiet_into may s h n (Cells x) w k = quiet_composed may s h n x w k

    quiet_composed : (may : Bool) (s : Scope) (h n : ℕ) (x : Composite) → KeepsComposite nonblocking x may → Inside may s → Hushed (composed program s h n x)
    quiet_composed may s h n (WholeVariable a r selections subtype) w k = (tt, (quiet_address s (h + 1) (root_of s r), (quiet_selected may s (h + 1 + 1) selections w k, tt)))
    quiet_composed may s h n (WholeConstant a r selections subtype) w k = (tt, (quiet_address s (h + 1) (constant_root_of s r), (quiet_selected may s (h + 1 + 1) selections w k, tt)))
    quiet_composed may s h n (WholeTarget a subtype) w k = (tt, (quiet_address s (h + 1) s.target, tt))
    quiet_composed may s h n (CompositeIf condition value otherwise) w k = (quiet_emit may s h condition w.0 k, (quiet_composed may s h n value w.1 k, quiet_composed may s h n otherwise w.2 k))
    quiet_composed may s h n (Aggregate a size associations) w k = (tt, (tt, quiet_associated may s h n associations w k))

    quiet_associated : (may : Bool) (s : Scope) (h n : ℕ) (x : Associations) → KeepsAssociations nonblocking x may → Inside may s → Hushed (associated program s h n x)
    quiet_associated may s h n NoAssociation w k = tt
    quiet_associated may s h n (Association runs None mentions value rest) w k =
        (quiet_cond s (is_repeated runs value) _ _ (quiet_repeating s h n _ runs (quiet_component may (taking 2 s) h (s.free + 1) value w.1 k)) (quiet_fillings s h n (width program value) (is_plain value) _ runs (λ m. quiet_into may s h (n + m) value w.1 k)), quiet_associated may s h n rest w.2 k)
    quiet_associated may s h n (Association runs (Some x) mentions value rest) w k = (quiet_turnings s h n x.first _ runs (quiet_component may (iterated_scope s x.parameter) (turn_height runs h) (s.free + 1 + 1) value w.1 k), quiet_associated may s h n rest w.2 k)

    quiet_component : (may : Bool) (s : Scope) (h a : ℕ) (x : Value) → KeepsValue nonblocking x may → Inside may s → Hushed (component program s h a x)
    quiet_component may s h a (Number check e) w k = (tt, (quiet_emit may s (h + 1) e w k, (quiet_checked s (h + 1 + 1) check.scalar, tt)))
    quiet_component may s h a (Cells x) w k = (quiet_composed may (taking (composite_width program x) s) h s.free x w k, (tt, (tt, tt)))

    quiet_filtered : (may : Bool) (s : Scope) (h : ℕ) (filter : Optional) (x : Emit) → KeepsOptional nonblocking filter may → Inside may s → Hushed x → Hushed (filtered program s h filter x)
    quiet_filtered may s h Absent x w k f = f
    quiet_filtered may s h (Present e) x w k f = (quiet_emit may s h e w k, f)

    quiet_iterated : (may : Bool) (s : Scope) (h : ℕ) (number : Option ℕ) (it : Iteration) (f : Scope → Emit) → KeepsIteration nonblocking it may → Inside may s → HushedTurns may f → Hushed (iterated program s h number it f)
    quiet_iterated may s h number (Range p reverse low high check filter) f w k g = (
      quiet_emit may s h low w.0 k,
      (
        tt,
        (
          quiet_emit may (taking 1 s) h high w.1 k,
          (
            tt,
            (
              quiet_ascending s h s.free,
              ((
                quiet_bounds s h s.free check,
                (
                  (λ x. let k' = inside_leaving may number x (with_parameter p (own (first_parameter reverse s.free)) (taking 2 s)) k in
                      (tt, quiet_filtered may (range_scope s number p reverse x) h filter _ w.2 k' (g (range_scope s number p reverse x) k'))),
                  (λ x. quiet_counting s h reverse s.free x),
                ),
              )),
            ),
          ),
        ),
      ),
    )
    quiet_iterated may s h number (Components p constant a r selections count stride dimensions filter) f w k g = (
      (quiet_address s h (array_root_of constant s r), (quiet_selected may s (h + 1) selections w.0 k, tt)),
      quiet_cond s (nat_eq count 0) none _ tt (
        tt,
        (
          tt,
          (
            tt,
            (
              tt,
              (
                (λ x. let k' = inside_leaving may number x (with_item constant p (record { through = true; place = own s.free; cells = stride }) (taking 3 s)) k in
                    (tt, quiet_filtered may (item_scope s number constant p stride x) h filter _ w.1 k' (g (item_scope s number constant p stride x) k'))),
                (λ x. quiet_stepping s h s.free stride (s.free + 1) x),
              ),
            ),
          ),
        ),
      ),
    )

    quiet_chunk : (may : Bool) (s : Scope) (h : ℕ) (x : Chunk) → KeepsChunk nonblocking x may → Inside may s → Hushed (chunk_code program s h x)
    quiet_chunk may s h NoChunk w k = (tt, (tt, (tt, tt)))
    quiet_chunk may s h (Count e) w k = (tt, (tt, (quiet_emit may (taking 1 s) h e w k, (tt, (tt, (tt, quiet_raise_above s h s.free))))))
    quiet_chunk may s h (Each p low high check) w k =
        (quiet_emit may s h low w.0 k, (tt, (quiet_emit may (taking 1 s) h high w.1 k, (tt, (quiet_raise_above s h s.free, (quiet_bounds s h s.free check, quiet_raise_beyond s h))))))

    -- the filter is not of it
    quiet_course : (may : Bool) (s : Scope) (h : ℕ) (it : Iteration) → KeepsIteration nonblocking it may → Inside may s → Hushed (course_code program s h it)
    quiet_course may s h (Range p reverse low high check filter) w k =
        (quiet_emit may s h low w.0 k, (tt, (quiet_emit may (taking 1 s) h high w.1 k, (tt, (quiet_ascending s h s.free, quiet_bounds s h s.free check)))))
    quiet_course may s h (Components p constant a r selections count stride dimensions filter) w k = (quiet_address s h (array_root_of constant s r), (quiet_selected may s (h + 1) selections w.0 k, tt))

    quiet_threaded : (t : Scope) (h : ℕ) (chunk : Chunk) (around : ℕ) (it : Iteration) (f : Scope → Emit) → KeepsIteration nonblocking it false → Inside false t → HushedTurns false f → Hushed (threaded program t h chunk around it f)
    quiet_threaded t h chunk around (Range p reverse low high check filter) f w k g =
        let cs : Scope = chunk_scope chunk (taking 2 t) in
        let kc : Inside false cs = inside_chunk false chunk (taking 2 t) k in
        let v : Scope = turn_range t chunk p in
        (quiet_ascending cs h (t.free + 2), ((λ x. (tt, quiet_filtered false v h filter _ w.2 kc (g v kc))), (λ x. quiet_counting cs h false (t.free + 2) x)))
    quiet_threaded t h chunk around (Components p constant a r selections count stride dimensions filter) f w k g =
        let cs : Scope = chunk_scope chunk (taking 2 t) in
        let kc : Inside false cs = inside_chunk false chunk (taking 2 t) k in
        let v : Scope = turn_component t chunk constant p stride in
        (quiet_ascending cs h (t.free + 2), (tt, (tt, (tt, (tt, ((λ x. (tt, quiet_filtered false v h filter _ w.1 kc (g v kc))), (λ x. quiet_stepping cs h (t.free + 2 + 1 + 1) stride (t.free + 2) x)))))))

  -- ---- statements

  module _ (s : Scope) where
    quiet_away : (loop : ℕ) (b : Body) → Hushed (away s loop b)
    quiet_away loop (body.Sub j) = tt
    quiet_away loop (body.Site j) = tt

    quiet_exiting : (loop : ℕ) (to : Option ℕ) → Hushed (exiting s loop to)
    quiet_exiting loop None = quiet_away loop s.body
    quiet_exiting loop (Some to) = tt

    quiet_returning : (h : ℕ) (w : Leaving) → Hushed (returning s h w)
    quiet_returning h ByReturn = tt
    quiet_returning h ByValue = (tt, tt)
    quiet_returning h ByEnd = tt
    quiet_returning h ByLeave = tt

    quiet_returning_value : (w : Leaving) → Hushed (returning_value s w)
    quiet_returning_value ByReturn = tt
    quiet_returning_value ByValue = tt
    quiet_returning_value ByEnd = tt
    quiet_returning_value ByLeave = tt

    quiet_handled : (w : Option Where) → Hushed (handled_target s w)
    quiet_handled None = tt
    quiet_handled (Some w) = (quiet_load_at s 0 w.level w.cell, tt)

    quiet_image : (class : Class) → Hushed (one s 1 (image_instr class))
    quiet_image class.Boolean = tt
    quiet_image (class.Integer Narrow) = tt
    quiet_image (class.Integer Wide) = tt
    quiet_image (class.Integer (Modulo d)) = tt
    quiet_image class.Universal = tt

    quiet_texts : (d : ℕ) (x : Pieces) → Hushed (piece_texts s d x)
    quiet_texts d NoPiece = tt
    quiet_texts d (Text bytes rest) = (tt, quiet_texts d rest)
    quiet_texts d (Image class e rest) = (tt, (quiet_image class, quiet_texts (d + 1) rest))
    quiet_texts d (Padded class e width rest) = (tt, (tt, quiet_texts (d + 1) rest))

    quiet_span : (d : ℕ) (r : Span) → Hushed (in_span s d r.low r.high)
    quiet_span d r = (tt, (tt, (tt, (tt, (tt, (tt, tt))))))

    quiet_chosen : (d : ℕ) (rs : List Span) → Hushed (chosen s d rs)
    quiet_chosen d [] = tt
    quiet_chosen d (r ∷ rs) = (quiet_span d r, (tt, quiet_chosen d rs))

    quiet_reason : (d : ℕ) (rs : List Reason) → Hushed (has_reason s d rs)
    quiet_reason d [] = tt
    quiet_reason d (r ∷ rs) = ((tt, (tt, tt)), (tt, quiet_reason d rs))

    quiet_handled_by : (handled : Handled) (stmts rest : Emit) (d : ℕ) → Hushed stmts → Hushed rest → Hushed (handled_by handled stmts rest s d)
    quiet_handled_by Others stmts rest d f g = f
    quiet_handled_by (Reasons reasons) stmts rest d f g = (quiet_reason d reasons, (f, g))

    quiet_left_by : (d way : ℕ) → Hushed (left_by s d way)
    quiet_left_by d way = (tt, (tt, tt))

    quiet_exits : (d : ℕ) (number : Option ℕ) (ns : List ℕ) → Hushed (exits_code s d number ns)
    quiet_exits d number [] = tt
    quiet_exits d number (n ∷ ns) = (quiet_cond s (is_own number n) none _ tt (quiet_left_by d (n + 3), quiet_exiting n (s.exits n)), quiet_exits d number ns)

    quiet_left : (number : Option ℕ) (loops : List ℕ) → Hushed (left_code s number loops)
    quiet_left number loops =
        (tt, (tt, (tt, ((quiet_left_by s.free 1, (quiet_returning 0 s.leaving, (quiet_left_by s.free 2, (tt, quiet_returning_value s.leaving)))), quiet_exits s.free number loops))))

    quiet_store_checked : (x : Scalar) (level : Level) (n : ℕ) → Hushed (store_checked s x level n)
    quiet_store_checked x Own n = of_set (λ j. Hushed (one s 1 j)) x n tt tt
    quiet_store_checked x level n = (quiet_checked s 1 x, quiet_store_at s 1 level n)

    quiet_assigned : (n : Option Named) (whole : Bool) (x : Scalar) (part : Emit) (value : Scope → ℕ → Emit) → Hushed part → ((u : Scope) (h : ℕ) → u.body ≡ s.body → Hushed (value u h)) → Hushed (assigned s n whole x part value)
    quiet_assigned None whole x part value f g = tt
    quiet_assigned (Some n) whole x part value f g =
        quiet_cond s (whole && not n.through) _ _ (g (with_target n s) 0 refl, quiet_store_checked x n.place.level n.place.cell)
        (quiet_address_of s 0 n, (f, (tt, (tt, (g (with_target (record { through = true; place = own s.free; cells = 1 }) (taking 1 s)) 1 refl, (quiet_checked s (1 + 1) x, tt))))))

  quiet_fields : (at : ℕ → ℕ → Emit) (n : ℕ) (fs : List Part) → ((n m : ℕ) → Hushed (at n m)) → Hushed (field_defaults program at n fs)
  quiet_fields at n [] g = tt
  quiet_fields at n (f ∷ fs) g = (g n f.subtype, quiet_fields at (n + cells_of program f.subtype) fs g)

  quiet_default_of : (s : Scope) (at : ℕ → ℕ → Emit) (n : ℕ) (x : Option Subtype) → ((n m : ℕ) → Hushed (at n m)) → Hushed (default_of program s at n x)
  quiet_default_of s at n None g = tt
  quiet_default_of s at n (Some (OfScalar scalar)) g = (tt, tt)
  quiet_default_of s at n (Some (Array dimensions part)) g = (g n part, quiet_doubled s 0 n (cells_of program part) (components dimensions) 1 (components dimensions))
  quiet_default_of s at n (Some (Record fields)) g = quiet_fields at n fields g

  quiet_defaults : (s : Scope) (levels n number : ℕ) → Hushed (defaults_within program s levels n number)
  quiet_defaults s zero n number = tt
  quiet_defaults s (suc levels) n number = quiet_default_of s (defaults_within program s levels) n (slice_get program.subtypes number) (λ n m. quiet_defaults s levels n m)

  quiet_defaulted : (s : Scope) (n x : ℕ) → Hushed (defaulted program s n x)
  quiet_defaulted s n x = quiet_defaults (taking (length (object_layout program x)) s) (length program.subtypes) n (subtype_or_none program (slice_get program.objects x))

  quiet_back : (s : Scope) (sub n : ℕ) (x : Actuals) → Hushed (back_code program s sub n x)
  unfolding back_code
  quiet_back s sub n NoActual = tt
  quiet_back s sub n (In formal value rest) = quiet_back s sub n rest
  quiet_back s sub n (InOut formal a r selections inner outer rest) = ((tt, (tt, (quiet_checked s 2 outer, tt))), quiet_back s sub n rest)
  quiet_back s sub n (Out formal a r selections inner outer rest) = ((tt, (tt, (quiet_checked s 2 outer, tt))), quiet_back s sub n rest)
  quiet_back s sub n (CompositeInOut formal a r selections subtype rest) = ((tt, (tt, tt)), quiet_back s sub n rest)
  quiet_back s sub n (CompositeOut formal a r selections subtype rest) = ((tt, (tt, tt)), quiet_back s sub n rest)

  quiet_pieces : (may : Bool) (s : Scope) (x : Pieces) → KeepsPieces nonblocking x may → Inside may s → Hushed (piece_values program s x)
  unfolding piece_values
  quiet_pieces may s NoPiece w k = tt
  quiet_pieces may s (Text bytes rest) w k = quiet_pieces may s rest w k
  quiet_pieces may s (Image class e rest) w k = (quiet_emit may s 0 e w.0 k, (tt, quiet_pieces may (taking 1 s) rest w.1 k))
  quiet_pieces may s (Padded class e width rest) w k = (quiet_emit may s 0 e w.0 k, (tt, quiet_pieces may (taking 1 s) rest w.2 k))

  quiet_declared : (may : Bool) (s : Scope) (decls : Decls) (rest : Scope → Emit) → KeepsDecls nonblocking decls may → Inside may s → ((u : Scope) → Inside may u → Hushed (rest u)) → Hushed (declared program s decls rest)
  quiet_declared may s NoDecl rest w k f = f s k
  quiet_declared may s (DeclareDefault x more) rest w k f = (quiet_defaulted s s.free x, quiet_declared may (object_here s (VariableOf x) (length (object_layout program x))) more rest w k f)
  quiet_declared may s (DeclareVariable x initial more) rest w k f = (quiet_into may (taking (width program initial) s) 0 s.free initial w.0 k, quiet_declared may (object_here s (VariableOf x) (width program initial)) more rest w.1 k f)
  quiet_declared may s (DeclareConstant x initial more) rest w k f = (quiet_into may (taking (width program initial) s) 0 s.free initial w.0 k, quiet_declared may (object_here s (ConstantOf x) (width program initial)) more rest w.1 k f)
  quiet_declared may s (Mentions es more) rest w k f = quiet_declared may s more rest w.1 k f

  quiet_count : (may : Bool) (count : Optional) → KeepsOptional nonblocking count may → KeepsChunk nonblocking (chunk_by program count) may
  quiet_count may Absent w = tt
  quiet_count may (Present e) w = w

  quiet_parallel_for : (s : Scope) (number site : ℕ) (chunk : Chunk) (it : Iteration) (loops : List ℕ) (f : Scope → Emit) → KeepsChunk nonblocking chunk false → KeepsIteration nonblocking it false → HushedTurns false f
      → Hushed (parallel_for program s number site chunk it loops f)
  quiet_parallel_for s number site chunk it loops f w1 w2 g =
      let k : Inside false s = λ q. refl in
      let kt : Inside false (thread_scope site s) = λ q. refl in
      let kc : Inside false (chunk_scope chunk (taking 2 (thread_scope site s))) = inside_chunk false chunk (taking 2 (thread_scope site s)) kt in
      (tt, (quiet_chunk false (nested s) 0 chunk w1 k, (quiet_course false (taking 2 (nested s)) 0 it w2 k, (quiet_ends (taking 2 (nested s)) 0 it, ((tt, (tt, (tt, (tt, (quiet_threaded (thread_scope site s) 0 chunk (s.free + 1 + 1) it f w2 kt g, tt))))), (tt, quiet_left (taking 2 (taking 2 s)) (Some number) loops))))))

  quiet_parallel_block : (s : Scope) (site : ℕ) (threads : Optional) (count : ℕ) (loops : List ℕ) (arms : Emit) → KeepsOptional nonblocking threads false → Hushed arms → Hushed (parallel_block program s site threads count loops arms)
  quiet_parallel_block s site threads count loops arms w1 f =
      let k : Inside false s = λ q. refl in
      (tt, (quiet_chunk false (nested s) 0 (chunk_by program threads) (quiet_count false threads w1) k, (tt, (tt, ((tt, (tt, (tt, (tt, (f, tt))))), (tt, quiet_left (taking 2 s) None loops))))))

  mutual
    unfolding stmt

    quiet_stmt : (may : Bool) (s : Scope) (x : Stmt) → Keeps nonblocking x may → Inside may s → Hushed (stmt program s x)
    quiet_stmt may s Null w k = tt
    quiet_stmt may s (Assign a r selections (Number check e)) w k = quiet_assigned s (root_of s r) (is_whole selections) check.scalar (selected program s 1 selections) _ (quiet_selected may s 1 selections w.0 k) (λ u h is. quiet_emit may u h e w.1 (λ q. k (subst (IsQuiet quiet) is q)))
    quiet_stmt may s (Assign a r selections (Cells x)) w k =
        (quiet_address s 0 (root_of s r), (quiet_selected may s 1 selections w.0 k, (tt, (quiet_composed may (with_target (record { through = true; place = own s.free; cells = composite_width program x }) (taking (composite_width program x) (taking 1 s))) 0 (s.free + 1) x w.1 k, (tt, (tt, tt))))))
    quiet_stmt may s (CallProcedure a callee sub actuals) w k = (quiet_passed may (passing program sub s) 0 sub s.free actuals w.1 k, (calls_quiet may s k sub w.0, quiet_back s sub s.free actuals))
    quiet_stmt may s (Exit loop Absent) w k = quiet_exiting s loop (s.exits loop)
    quiet_stmt may s (Exit loop (Present e)) w k = (quiet_emit may s 0 e w k, quiet_exiting s loop (s.exits loop))
    quiet_stmt may s Return w k = quiet_returning s 0 s.leaving
    quiet_stmt may s (ReturnValue (Number check e)) w k = (quiet_emit may s 0 e w k, (quiet_checked s 1 check.scalar, quiet_returning_value s s.leaving))
    quiet_stmt may s (ReturnValue (Cells x)) w k = tt
    quiet_stmt may s (Raise x) w k = tt
    quiet_stmt may s Reraise w k = quiet_handled s s.handled
    quiet_stmt may s (IfThen condition stmts otherwise) w k = (quiet_emit may s 0 condition w.0 k, quiet_cond s (is_end otherwise) _ _ (quiet_all may s stmts w.1 k) (quiet_all may s stmts w.1 k, quiet_all may s otherwise w.2 k))
    quiet_stmt may s (Case e alternatives) w k = (quiet_emit may s 0 e w.0 k, (tt, quiet_cases may (taking 1 s) s.free alternatives w.1 k))
    quiet_stmt may s (Loop number Absent stmts) w k = ((λ x. (tt, quiet_all may (with_exit number x s) stmts w.1 k)), (λ x. tt))
    quiet_stmt may s (Loop number (Present e) stmts) w k = ((λ x. (tt, quiet_all may (with_exit number x s) stmts w.1 k)), (λ x. (quiet_emit may s 0 e w.0 k, tt)))
    quiet_stmt may s (For number it stmts) w k = quiet_iterated may s 0 (Some number) it (λ u. all program u stmts) w.0 k (λ u k'. quiet_all may u stmts w.1 k')
    quiet_stmt may s (ParallelFor number site chunk it stmts) w k = quiet_parallel_for s number site chunk it (exits_of stmts) (λ u. all program u stmts) w.0 w.1 (λ u k'. quiet_all false u stmts w.2 k')
    quiet_stmt may s (Parallel site count arms) w k = quiet_parallel_block s site count (arms_of arms) (arm_exits arms) (arms_code program (arm_scope program s site) 0 (arm_codes program (arm_scope program s site) arms)) w.0 (quiet_each false (arm_scope program s site) 0 arms w.1 (λ q. refl))
    quiet_stmt may s (Block decls stmts handlers) w k = quiet_declared may s decls _ w.0 k (λ u k'.
        quiet_cond u (no_handler handlers) _ _ (quiet_all may u stmts w.1 k') ((tt, quiet_handling may (with_handled (own u.free) (taking 1 u)) u.free handlers w.2 k'), (λ x. quiet_all may (with_entry x u) stmts w.1 k')))
    quiet_stmt may s (Put a callee pieces line) w k = (quiet_pieces may s pieces w.0 k, (quiet_texts s s.free pieces, quiet_send may s k w.1 line))
    quiet_stmt may s (Get a callee first r selections scalar) w k = (quiet_address s 0 (root_of s r), (quiet_selected may s 1 selections w.0 k, ((λ q. true≢false (sym w.1 ∙ k q)), (quiet_checked s 2 scalar, tt))))

    quiet_all : (may : Bool) (s : Scope) (x : Stmts) → KeepsAll nonblocking x may → Inside may s → Hushed (all program s x)
    quiet_all may s End w k = tt
    quiet_all may s (Then first more) w k = (quiet_stmt may s first w.0 k, quiet_all may s more w.1 k)

    quiet_cases : (may : Bool) (s : Scope) (d : ℕ) (x : Alternatives) → KeepsAlternatives nonblocking x may → Inside may s → Hushed (cases program s d x)
    quiet_cases may s d NoAlternative w k = tt
    quiet_cases may s d (Alternative true choices mentions stmts rest) w k = quiet_all may s stmts w.1 k
    quiet_cases may s d (Alternative false choices mentions stmts rest) w k = (quiet_chosen s d choices, (quiet_all may s stmts w.1 k, quiet_cases may s d rest w.2 k))

    quiet_handling : (may : Bool) (s : Scope) (d : ℕ) (x : Handlers) → KeepsHandlers nonblocking x may → Inside may s → Hushed (handling program s d x)
    quiet_handling may s d NoHandler w k = (tt, tt)
    quiet_handling may s d (Handler handled stmts rest) w k = quiet_handled_by s handled (all program s stmts) (handling program s d rest) d (quiet_all may s stmts w.0 k) (quiet_handling may s d rest w.1 k)

    quiet_each : (may : Bool) (s : Scope) (n : ℕ) (x : Arms) → KeepsArms nonblocking x may → Inside may s → Hushed (arms_code program s n (arm_codes program s x))
    quiet_each may s n NoArm w k = tt
    quiet_each may s n (Arm stmts rest) w k = (((tt, (tt, (tt, (tt, (tt, (tt, tt)))))), quiet_all may s stmts w.0 k), quiet_each may s (n + 1) rest w.1 k)

  -- ---- bodies

  quiet_ending : (s : Scope) (x : Option Scalar) → Hushed (code.ending s x)
  quiet_ending s None = tt
  quiet_ending s (Some x) = tt

  placed_body : (hs : List Shape) (n : ℕ) (s : Scope) → (code.placed hs n s).body ≡ s.body
  placed_body [] n s = refl
  placed_body (h ∷ hs) n s = placed_body hs _ _

  -- the subprograms from a number on
  quiet_subs : (s : Scope) (n : ℕ) (us : List Sub) → KeepsSubs nonblocking program.nonblocking us → ((k : ℕ) → nonblocking_of us k ≡ nonblocking (n + k)) → Hushed (code.subs_code program s n us)
  quiet_subs s n [] w e = tt
  quiet_subs s n (unit ∷ more) w e = (
    (quiet_stmt (not unit.nonblocking && not program.nonblocking) (code.sub_scope program s n unit) (Block unit.body.decls unit.body.stmts unit.body.handlers) (w.0.decls, w.0.stmts, w.0.handlers) at_sub, quiet_ending (code.sub_scope program s n unit) unit.result),
    quiet_subs s (n + 1) more w.1 (λ k. let z : n + suc k ≡ n + 1 + k = omega arith in e (suc k) ∙ ap nonblocking z),
  )
    where
      marked : nonblocking n ≡ true → unit.nonblocking ≡ true
      marked q = let z : n + 0 ≡ n = omega arith in e 0 ∙ ap nonblocking z ∙ q

      shut : (b : Bool) → b ≡ true → (not b && not program.nonblocking) ≡ false
      shut true q = refl
      shut false q = absurd (true≢false (sym q))

      at_sub : Inside (not unit.nonblocking && not program.nonblocking) (code.sub_scope program s n unit)
      at_sub q = let z : n + 1 ≡ suc n = omega arith in shut unit.nonblocking (marked (subst (λ m. quiet m ≡ true) z (subst (IsQuiet quiet) (placed_body (shapes program unit.formals) 0 _) q)))

  at_main : (s : Scope) → s.body ≡ body.Sub 0 → Inside (not program.nonblocking) s
  at_main s is q = absurd (true≢false (sym (subst (IsQuiet quiet) is q)))

  quiet_main : (s : Scope) (decls : Decls) → KeepsDecls nonblocking decls (not program.nonblocking) → KeepsRule program → s.body ≡ body.Sub 0 → Hushed (code.main_declared program s decls (λ u. code.behind_main program u))
  quiet_main s NoDecl w rule is =
      ((quiet_stmt (not program.nonblocking) s (Block NoDecl program.body.stmts program.body.handlers) (tt, rule.body.stmts, rule.body.handlers) (at_main s is), tt), quiet_subs s 0 program.subs rule.subs (λ k. let z : k ≡ 0 + k = omega arith in ap nonblocking z))
  quiet_main s (DeclareDefault x more) w rule is = (quiet_defaulted s s.free x, quiet_main (code.main_object s (VariableOf x) (length (object_layout program x))) more w rule is)
  quiet_main s (DeclareVariable x initial more) w rule is = (quiet_into (not program.nonblocking) (taking (width program initial) s) 0 s.free initial w.0 (at_main s is), quiet_main (code.main_object s (VariableOf x) (width program initial)) more w.1 rule is)
  quiet_main s (DeclareConstant x initial more) w rule is = (quiet_into (not program.nonblocking) (taking (width program initial) s) 0 s.free initial w.0 (at_main s is), quiet_main (code.main_object s (ConstantOf x) (width program initial)) more w.1 rule is)
  quiet_main s (Mentions es more) w rule is = quiet_main s more w.1 rule is

  -- ---- what no run comes to

  quiet_idle : (text : List ℕ → ℕ) (ps : List Placed) (n : ℕ) (sites : List Site) → Hushed (idle_forks (code.main_scope text) ps n sites)
  quiet_idle text ps n [] = tt
  quiet_idle text ps n (x ∷ more) = (go (has_fork n ps), quiet_idle text ps (n + 1) more)
    where
      go : (b : Bool) → Hushed (cond b none (idle_fork (code.main_scope text) n))
      go true = tt
      go false = (tt, (tt, tt))

  -- what each listed instruction of a program may do
  pub listed_hushed : KeepsRule program → (text : List ℕ → ℕ) → AllHushed (listed (whole_code program text) 0)
  listed_hushed rule text =
      all_hushed (whole_code program text) 0 (quiet_main (code.main_scope text) program.body.decls rule.body.decls rule refl, quiet_idle text (listed (code.program_code program text) 0) 0 program.sites)
