-- What the listed instructions of a program name: its bodies, its constructs and its texts.
use Rattle.std.proofs.Common.{◌≡◌, ℕ, zero, suc, ◌+◌, ◌-◌, ◌<◌, min, max, ℤ, ◌&&◌, not, List, [], ◌∷◌, ◌++◌, length, slice_get, nat_eq, nat_lt, Option, Some, None, Bool, true, false, cond, refl, sym, subst, arith}
use Rattle.std.proofs.lemmas.Option.{none-some}
use Rattle.ada_meaning.proofs.Cells.{some_same}
use Rattle.ada_base.specs.declared.operation.Op.{Op}
use Rattle.ada_base.specs.declared.operation.Op.TheVariants as op
use Rattle.ada_base.specs.declared.reason.Reason.{Reason}
use Rattle.behaviours.specs.Paths.{VariableOf, ConstantOf}
use Rattle.ada_meaning.specs.Values.{components}
use Rattle.ada_meaning.specs.Meaning.{object_layout, arms_of}
use Rattle.typed_tree.specs.declared.scalars.Class.{Class}
use Rattle.typed_tree.specs.declared.scalars.Class.TheVariants as class
use Rattle.typed_tree.specs.declared.scalars.Scalar.{Scalar}
use Rattle.ada_base.specs.declared.operation.Comparison.{Comparison}
use Rattle.ada_base.specs.declared.operation.Comparison.TheVariants as comparison
use Rattle.typed_tree.specs.declared.scalars.Check.{Check}
use Rattle.ada_base.specs.declared.operation.Base.TheVariants.{Narrow, Wide, Modulo}
use Rattle.ada_meaning.specs.Values.{is_modular}
use Rattle.typed_tree.specs.declared.expressions.Run.{Run}
use Rattle.typed_tree.specs.declared.expressions.Sign.{Sign}
use Rattle.typed_tree.specs.declared.expressions.Sign.TheVariants as sign
use Rattle.typed_tree.specs.declared.expressions.Reducer.{Reducer}
use Rattle.typed_tree.specs.declared.expressions.Reducer.TheVariants.{Operator, Function}
use Rattle.typed_tree.specs.declared.statements.Span.{Span}
use Rattle.typed_tree.specs.declared.program.Field.{Field as Part}
use Rattle.typed_tree.specs.declared.program.Site.{Site}
use Rattle.typed_tree.specs.Syntax.{Expr, Static, Variable, Constant, Parameter, Target, Group, Unary, Binary, AndThen, OrElse, Relation, Membership, If, Call, Convert, Reduction, Iteration, Range, Components, Chunk, NoChunk, Count, Each, Optional, Absent, Present, Selections, Whole, Field, Index, Actuals, NoActual, In, InOut, Out, CompositeInOut, CompositeOut, Value, Number, Cells, Composite, WholeVariable, WholeConstant, WholeTarget, CompositeIf, Aggregate, Associations, NoAssociation, Association, Pieces, NoPiece, Text, Image, Padded, Decls, NoDecl, DeclareDefault, DeclareVariable, DeclareConstant, Mentions, Stmt, Null, Assign, CallProcedure, Exit, Return, ReturnValue, Raise, Reraise, IfThen, Case, Loop, For, ParallelFor, Parallel, Block, Put, Get, Stmts, End, Then, Alternatives, NoAlternative, Alternative, Handled, Others, Reasons, Handlers, NoHandler, Handler, Arms, NoArm, Arm, Sub, Subtype, OfScalar, Array, Record, Program}
use Rattle.stack_code.specs.declared.code.Around.{Around as Body}
use Rattle.stack_code.specs.declared.code.Around.TheVariants as body
use Rattle.stack_code.specs.declared.code.SiteKind.{SiteKind}
use Rattle.stack_code.specs.declared.code.SiteKind.TheVariants as kind
use Rattle.stack_code.specs.Valid.{FoldFits}
use Rattle.stack_code.specs.declared.instr.Instr.{Instr}
use Rattle.stack_code.specs.declared.instr.Instr.TheVariants as i
use Rattle.lower_emission.specs.declared.types.Placed.{Placed}
use Rattle.lower_emission.specs.declared.types.Where.{Where}
use Rattle.lower_emission.specs.declared.types.Named.{Named}
use Rattle.lower_emission.specs.declared.types.Level.{Level}
use Rattle.lower_emission.specs.declared.types.Level.TheVariants.{Own, Around, Main}
use Rattle.lower_emission.specs.declared.types.Leaving.{Leaving}
use Rattle.lower_emission.specs.declared.types.Leaving.TheVariants.{ByReturn, ByValue, ByEnd, ByLeave}
use Rattle.lower_emission.specs.Emits.{Emit, Nothing, One, Seq, Choose, When, Looped, Guarded, Aside, From, listed}
use Rattle.lower_emission.specs.Scope.{Scope, mark_of, keep_checked, own, taking, nested, thread_scope, with_parameter, with_item, with_target, with_handled, with_exit, with_entry, root_of, constant_root_of, array_root_of, none, one, ◌⨟◌, load_at, address_at, store_at, address_of}
use Rattle.lower_emission.specs.Emission.{loop_kind, reduction_kind, checked, is_plain, is_repeated, Shape, shapes, load_by, load_named, load_where, address, is_whole, unary_instr, binary_instr, static_instr, operated_by, compare_instr, within, negated_code, leaving_by, first_parameter, range_scope, item_scope, counting, bounds_code, ascending, stepping, folding, ranged, combined, doubled, filling, fillings, iterated_scope, turnings, entering, entering_next, run_steps, run_turnings, turn_height, components_of, locating, locating_in, repeating, chunk_scope, raise_above, raise_beyond, ends_code, turn_range, turn_component, cells_of, passing, composite_width, width, own_cell, indexed_by, item_by, main_named, component_address, component_value}
use Rattle.lower_emission.proofs.Fused.{loop_fits, reduction_fits, of_either, of_check, of_set, of_not, of_operated, of_component_address, of_component_value}
unfoldable use Rattle.lower_emission.specs.Emission.{emit, named_value, selected, read, passed, put_into, composed, associated, component, filtered, iterated, chunk_code, course_code, threaded}
use Rattle.lower_emission.specs.Statements.{no_handler, is_end, assigned, in_span, chosen, has_reason, handled_by, returning, returning_value, away, exiting, handled_target, image_instr, send_instr, piece_texts, object_here, exits_of, arm_exits, left_by, exits_code, is_own, left_code, field_defaults, default_of, defaults_within, subtype_or_none, defaulted, declared, parallel_for, arms_code, chunk_by, arm_scope, parallel_block, store_checked}
unfoldable use Rattle.lower_emission.specs.Statements.{back_code, piece_values, stmt, all, cases, handling, arm_codes}
use Rattle.lower_emission.specs.Bodies as code
use Rattle.lower_emission.specs.Programs.{text_in, has_fork, idle_fork, idle_forks, whole_code, placed_code}
use Rattle.lower_emission.specs.Texts.{texts_of}
use Rattle.ada_lower.specs.HasTables.{IsBody}
use Rattle.ada_lower.proofs.Sited.{Inner, SitedExpr, SitedOptional, SitedSelections, SitedActuals, SitedValue, SitedComposite, SitedAssociations, SitedIteration, SitedChunk, SitedPieces, SitedDecls, SitedStmt, SitedAll, SitedAlternatives, SitedArms, SitedHandlers, SitedSubs, IsSited}

module _ (program : Program) where
  -- a construct that is begun in a body stands behind that of the body's threads
  abbrev pub IsBehind : Body → ℕ → Type 0
  IsBehind (body.Sub k) site = Unit {0}
  IsBehind (body.Site outer) site = outer < site

  abbrev pub Names : Body → SiteKind → Instr → Type 0
  Names b what (i.Fork site) = (site < length program.sites) × IsBehind b site × FoldFits what
  Names b what (i.Words k) = k < length (texts_of program)
  Names b what j = Unit {0}

  abbrev pub Made : Emit → Type 0
  Made Nothing = Unit {0}
  Made (One m h j) = IsBody program m.body × Names m.body m.kind j
  Made (Seq a b) = Made a × Made b
  Made (Choose m h k a b) = IsBody program m.body × Made a × Made b
  Made (When m h a) = IsBody program m.body × Made a
  Made (Looped m h at_body exit head) = IsBody program m.body × ((x : ℕ) → Made (exit x)) × ((x : ℕ) → Made (head x))
  Made (Guarded m handlers exit) = IsBody program m.body × Made handlers × ((x : ℕ) → Made (exit x))
  Made (Aside m h a) = IsBody program m.body × Made a
  Made (From a) = (x : ℕ) → Made (a x)

  abbrev pub AllMade : List Placed → Type 0
  AllMade [] = Unit {0}
  AllMade (p ∷ ps) = (IsBody program p.body × Names p.body p.kind p.instr) × AllMade ps

  made_join : (xs ys : List Placed) → AllMade xs → AllMade ys → AllMade (xs ++ ys)
  made_join [] ys a b = b
  made_join (x ∷ xs) ys (a, as') b = (a, made_join xs ys as' b)

  pub all_made : (a : Emit) (q : ℕ) → Made a → AllMade (listed a q)
  all_made Nothing q w = tt
  all_made (One m h j) q w = (w, tt)
  all_made (Seq a b) q (w, w') = made_join (listed a q) (listed b (q + length (listed a q))) (all_made a q w) (all_made b (q + length (listed a q)) w')
  all_made (Choose m h k a b) q (ok, w, w') = ((ok, tt), made_join (listed a (q + 1)) _ (all_made a (q + 1) w) ((ok, tt), all_made b (q + 1 + length (listed a (q + 1)) + 1) w'))
  all_made (When m h a) q (ok, w) = ((ok, tt), all_made a (q + 1) w)
  all_made (Looped m h at_body exit head) q (ok, f, g) = ((ok, tt), ((ok, tt), made_join (listed (exit (q + 1)) (q + 1 + 1)) _ (all_made (exit (q + 1)) (q + 1 + 1) (f (q + 1))) (all_made (head (q + 1 + 1)) (q + 1 + 1 + length (listed (exit (q + 1)) (q + 1 + 1))) (g (q + 1 + 1)))))
  all_made (Guarded m handlers exit) q (ok, w, f) = ((ok, tt), ((ok, tt), made_join (listed (exit (q + 1)) (q + 1 + 1)) _ (all_made (exit (q + 1)) (q + 1 + 1) (f (q + 1))) ((ok, tt), all_made handlers (q + 1 + 1 + length (listed (exit (q + 1)) (q + 1 + 1)) + 1) w)))
  all_made (Aside m h a) q (ok, w) = ((ok, tt), all_made a (q + 1) w)
  all_made (From a) q f = all_made (a q) q (f q)

  pub made_at : (ps : List Placed) (k : ℕ) (p : Placed) → AllMade ps → slice_get ps k ≡ Some p → IsBody program p.body × Names p.body p.kind p.instr
  made_at [] k p w e = absurd (none-some p e)
  made_at (x ∷ ps) zero p (w, ws) e = subst (λ p. IsBody program p.body × Names p.body p.kind p.instr) (some_same x p e) w
  made_at (x ∷ ps) (suc k) p (w, ws) e = made_at ps k p ws e

  -- the threads in which a body's code runs are those of that construct
  abbrev OutOf : Option ℕ → Body → Type 0
  OutOf o (body.Sub k) = Unit {0}
  OutOf o (body.Site k) = o ≡ Some k

  abbrev Inside : Option ℕ → Scope → Type 0
  Inside o s = IsBody program s.body × OutOf o s.body × ((bytes : List ℕ) → s.text bytes ≡ text_in program bytes)

  below : (o : Option ℕ) (site : ℕ) → Inner program o site → site < length program.sites
  below None site w = w
  below (Some outer) site w = w.1

  behind_outer : (o : Option ℕ) (b : Body) (site : ℕ) → OutOf o b → Inner program o site → IsBehind b site
  behind_outer o (body.Sub k) site out w = tt
  behind_outer o (body.Site k) site out w = (subst (λ o. Inner program o site) out w).0

  inside_thread : (o : Option ℕ) (s : Scope) (site : ℕ) → Inner program o site → Inside o s → Inside (Some site) (thread_scope site s)
  inside_thread o s site w k = (below o site w, refl, k.2)

  inside_chunk : (o : Option ℕ) (chunk : Chunk) (s : Scope) → Inside o s → Inside o (chunk_scope chunk s)
  inside_chunk o NoChunk s k = k
  inside_chunk o (Count e) s k = k
  inside_chunk o (Each p low high check) s k = k

  inside_leaving : (o : Option ℕ) (number : Option ℕ) (x : ℕ) (s : Scope) → Inside o s → Inside o (leaving_by number x s)
  inside_leaving o None x s k = k
  inside_leaving o (Some number) x s k = k

  module _ (o : Option ℕ) (s : Scope) (k : Inside o s) where
    made_load_at : (h : ℕ) (level : Level) (n : ℕ) → Made (one s h (load_at level n))
    made_load_at h Own n = (k.0, tt)
    made_load_at h (Around j) n = (k.0, tt)
    made_load_at h Main n = (k.0, tt)

    made_address_at : (h : ℕ) (level : Level) (n : ℕ) → Made (one s h (address_at level n))
    made_address_at h Own n = (k.0, tt)
    made_address_at h (Around j) n = (k.0, tt)
    made_address_at h Main n = (k.0, tt)

    made_store_at : (h : ℕ) (level : Level) (n : ℕ) → Made (one s h (store_at level n))
    made_store_at h Own n = (k.0, tt)
    made_store_at h (Around j) n = (k.0, tt)
    made_store_at h Main n = (k.0, tt)

    made_address_of : (h : ℕ) (n : Named) → Made (one s h (address_of n))
    made_address_of h n = go n.through
      where
        go : (b : Bool) → Made (one s h (cond b (load_at n.place.level n.place.cell) (address_at n.place.level n.place.cell)))
        go true = made_load_at h n.place.level n.place.cell
        go false = made_address_at h n.place.level n.place.cell

    made_cond : (b : Bool) (x y : Emit) → Made x → Made y → Made (cond b x y)
    made_cond true x y f g = f
    made_cond false x y f g = g

    made_load : (h : ℕ) (b : Bool) (w : Where) → Made (load_by b s h w)
    made_load h true w = (made_load_at h w.level w.cell, (k.0, tt))
    made_load h false w = made_load_at h w.level w.cell

    made_named : (h : ℕ) (n : Option Named) → Made (load_named s h n)
    made_named h None = (k.0, tt)
    made_named h (Some n) = made_load h n.through n.place

    made_where : (h : ℕ) (w : Option Where) → Made (load_where s h w)
    made_where h None = (k.0, tt)
    made_where h (Some w) = made_load_at h w.level w.cell

    made_address : (h : ℕ) (n : Option Named) → Made (address s h n)
    made_address h None = (k.0, tt)
    made_address h (Some n) = made_address_of h n

    made_indexed : (h : ℕ) (n : Option ℕ) (low high : ℤ) (stride : ℕ) (index : Emit) → Made index → Made (indexed_by s h n low high stride index)
    made_indexed h None low high stride index f = (f, (k.0, tt))
    made_indexed h (Some n) low high stride index f = (k.0, tt)

    made_item : (h : ℕ) (n : Option ℕ) (low high : ℤ) (stride : ℕ) (index : Emit) → Made index → Made (item_by s h n low high stride index)
    made_item h None low high stride index f = (f, (k.0, tt))
    made_item h (Some n) low high stride index f = (k.0, tt)

    made_component_address : (h : ℕ) (n : Option Named) (first own : Option ℕ) (low high : ℤ) (stride : ℕ) (index : Emit) → Made index → Made (component_address s h n first own low high stride index)
    made_component_address h n first own low high stride index f = of_component_address Made s h n first own low high stride index (λ g j e e'. (k.0, tt)) (made_address h n, made_indexed (h + 1) own low high stride index f)

    made_component_value : (h : ℕ) (n : Option Named) (first own : Option ℕ) (low high : ℤ) (stride : ℕ) (index : Emit) → Made index → Made (component_value s h n first own low high stride index)
    made_component_value h n first own low high stride index f = of_component_value Made s h n first own low high stride index (λ g j e e'. (k.0, tt)) (made_address h n, made_item (h + 1) own low high stride index f)

    made_unary : (h : ℕ) (g : Sign) (class : Class) → Made (one s h (unary_instr g class))
    made_unary h sign.Minus class = (k.0, tt)
    made_unary h sign.Abs class = (k.0, tt)
    made_unary h sign.Not class = of_not (λ j. Made (one s h j)) class (k.0, tt) (λ n d. (k.0, tt))

    made_binary : (h : ℕ) (x : Op) (class : Class) → Made (one s h (binary_instr x class))
    made_binary h op.Add class = (k.0, tt)
    made_binary h op.Sub class = (k.0, tt)
    made_binary h op.Mul class = (k.0, tt)
    made_binary h op.Div class = (k.0, tt)
    made_binary h op.Mod class = (k.0, tt)
    made_binary h op.Rem class = (k.0, tt)
    made_binary h op.Pow class = (k.0, tt)
    made_binary h op.And class = of_either (λ j. Made (one s h j)) (is_modular class) _ _ (k.0, tt) (k.0, tt)
    made_binary h op.Or class = of_either (λ j. Made (one s h j)) (is_modular class) _ _ (k.0, tt) (k.0, tt)
    made_binary h op.Xor class = of_either (λ j. Made (one s h j)) (is_modular class) _ _ (k.0, tt) (k.0, tt)
    made_binary h op.Max class = of_either (λ j. Made (one s h j)) (is_modular class) _ _ (k.0, tt) (k.0, tt)
    made_binary h op.Min class = of_either (λ j. Made (one s h j)) (is_modular class) _ _ (k.0, tt) (k.0, tt)

    made_operated : (h : ℕ) (x : Op) (class : Class) (f : Expr) (right : Emit) → Made right → Made (operated_by s h (static_instr x class f) (binary_instr x class) right)
    made_operated h x class f right m =
        of_operated Made s h x class f (binary_instr x class) right (λ v. (k.0, tt)) (λ v. (k.0, tt)) (λ v. (k.0, tt)) (λ v. (k.0, tt)) (m, made_binary (h + 1) x class)

    made_compare : (h : ℕ) (r : Comparison) (class : Class) → Made (one s h (compare_instr r class))
    made_compare h comparison.Equal class = (k.0, tt)
    made_compare h comparison.Unequal class = (k.0, tt)
    made_compare h comparison.Less class = of_either (λ j. Made (one s h j)) (is_modular class) _ _ (k.0, tt) (k.0, tt)
    made_compare h comparison.AtMost class = of_either (λ j. Made (one s h j)) (is_modular class) _ _ (k.0, tt) (k.0, tt)
    made_compare h comparison.Greater class = of_either (λ j. Made (one s h j)) (is_modular class) _ _ (k.0, tt) (k.0, tt)
    made_compare h comparison.AtLeast class = of_either (λ j. Made (one s h j)) (is_modular class) _ _ (k.0, tt) (k.0, tt)

    made_checked : (h : ℕ) (x : Scalar) → Made (checked s h x)
    made_checked h x = of_check (λ j. Made (one s h j)) x (k.0, tt) (k.0, tt)

    made_keep_checked : (h n : ℕ) (x : Scalar) → Made (keep_checked s h x n)
    made_keep_checked h n x = of_set (λ j. Made (One (mark_of (max s.free (n + 1)) s) h j)) x n (k.0, tt) (k.0, tt)

    made_within : (h : ℕ) (class : Class) (d : ℕ) → Made (within s h class d)
    made_within h class d = ((k.0, tt), (made_compare (h + 1 + 1) comparison.AtLeast class, ((k.0, tt), ((k.0, tt), (made_compare (h + 1 + 1 + 1) comparison.AtMost class, (k.0, tt))))))

    made_negated : (h : ℕ) (b : Bool) → Made (negated_code s h b)
    made_negated h true = (k.0, tt)
    made_negated h false = tt

    made_bounds : (h d : ℕ) (check : Option Check) → Made (bounds_code s h d check)
    made_bounds h d None = tt
    made_bounds h d (Some x) = ((k.0, tt), (made_checked (h + 1) x.scalar, ((k.0, tt), ((k.0, tt), (made_checked (h + 1) x.scalar, (k.0, tt))))))

    made_ascending : (h d : ℕ) → Made (ascending s h d)
    made_ascending h d = ((k.0, tt), ((k.0, tt), (k.0, tt)))

    made_folding : (h : ℕ) (by : Reducer) → Made (folding s h by)
    made_folding h (Operator a x class) = made_binary (h + 1 + 1) x class
    made_folding h (Function a sub accumulator value) = ((k.0, tt), (made_keep_checked (h + 1) s.free accumulator, ((k.0, tt), (made_checked (h + 1) value, ((k.0, tt), (k.0, tt))))))

    made_ranged : (h n : ℕ) (subtype : Scalar) → Made (ranged s h n subtype)
    made_ranged h n subtype = ((k.0, tt), ((k.0, tt), (made_compare (h + 1 + 1) comparison.AtLeast subtype.class, ((k.0, tt), ((k.0, tt), (made_compare (h + 1 + 1 + 1) comparison.AtMost subtype.class, (k.0, tt)))))))

    made_combined : (h : ℕ) (by : Reducer) → Made (combined s h by)
    made_combined h (Operator a x class) = tt
    made_combined h (Function a sub accumulator value) = λ x.
        ((k.0, tt), ((k.0, (((k.0, tt), ((k.0, tt), (made_ranged h s.free accumulator, (made_ranged (h + 1) (s.free + 1) value, (k.0, tt))))), (k.0, tt))), (k.0, tt)))

    made_raise_above : (h d : ℕ) → Made (raise_above s h d)
    made_raise_above h d = ((k.0, tt), ((k.0, tt), ((k.0, tt), (k.0, (k.0, tt)))))

    made_raise_beyond : (h : ℕ) → Made (raise_beyond s h)
    made_raise_beyond h = ((k.0, tt), ((k.0, tt), ((k.0, tt), (k.0, (k.0, tt)))))

    made_ends : (h : ℕ) (it : Iteration) → Made (ends_code s h it)
    made_ends h (Range p reverse low high check filter) = ((k.0, tt), (k.0, tt))
    made_ends h (Components p constant a r selections count stride dimensions filter) = ((k.0, tt), (k.0, tt))

    made_counting : (h : ℕ) (reverse : Bool) (d head : ℕ) → Made (one s h (counting reverse d head))
    made_counting h true d head = (k.0, tt)
    made_counting h false d head = (k.0, tt)

    made_stepping : (h place stride first head : ℕ) → Made (stepping s h place stride first head)
    made_stepping h place stride first head = ((k.0, tt), ((k.0, tt), ((k.0, tt), (k.0, tt))))

    names_fork : (site : ℕ) (what : SiteKind) → Inner program o site → FoldFits what → Names s.body what (i.Fork site)
    names_fork site what w fits = (below o site w, behind_outer o s.body site k.1 w, fits)

    made_doubled : (h first size steps done count : ℕ) → Made (doubled s h first size steps done count)
    made_doubled h first size zero done count = tt
    made_doubled h first size (suc steps) done count = made_cond (nat_lt done count) _ none (((k.0, tt), ((k.0, tt), (k.0, tt))), made_doubled h first size steps (done + min done (count - done)) count) tt

    made_filling : (value : ℕ → Emit) (count first stride : ℕ) → ((n : ℕ) → Made (value n)) → Made (filling value count first stride)
    made_filling value zero first stride f = tt
    made_filling value (suc n) first stride f = (f first, made_filling value n (first + stride) stride f)

    made_fillings : (h n size : ℕ) (flat : Bool) (value : ℕ → Emit) (rs : List Run) → ((n : ℕ) → Made (value n)) → Made (fillings s h n size flat value rs)
    made_fillings h n size flat value [] f = tt
    made_fillings h n size flat value (r ∷ rs) f =
        (made_cond (flat && (nat_lt 1 r.count && nat_eq r.stride size)) _ _ (f r.first, made_doubled h (n + r.first) size r.count 1 r.count) (made_filling value r.count r.first r.stride f), made_fillings h n size flat value rs f)

    made_entering : (h n : ℕ) (low : ℤ) (count first : ℕ) → Made (entering s h n low count first)
    made_entering h n low count first = ((k.0, tt), ((k.0, tt), ((k.0, tt), ((k.0, tt), ((k.0, tt), (k.0, tt))))))

    made_next : (h n : ℕ) (low : ℤ) (head m : ℕ) (rs : List Run) → Made (entering_next s h n low head m rs)
    made_next h n low head m [] = tt
    made_next h n low head m (r ∷ rs) = made_cond (nat_eq r.count 0) _ _ (made_next h n low head (m + 1) rs) ((k.0, tt), ((k.0, tt), (made_entering (h + 1) n low r.count r.first, (k.0, tt))))

    made_steps : (h n : ℕ) (low : ℤ) (head m : ℕ) (rs : List Run) → Made (run_steps s h n low head m rs)
    made_steps h n low head m [] = tt
    made_steps h n low head m (r ∷ rs) = (((k.0, tt), ((k.0, tt), ((k.0, tt), (k.0, (made_stepping (h + 1) (s.free + 1 + 1) r.stride s.free head, made_next h n low head (m + 1) rs))))), made_steps h n low head (m + 1) rs)

    made_runs : (h n : ℕ) (low : ℤ) (part : Emit) (m : ℕ) (rs : List Run) → Made part → Made (run_turnings s h n low part m rs)
    made_runs h n low part m [] f = tt
    made_runs h n low part m (r ∷ rs) f = made_cond (nat_eq r.count 0) _ _ (made_runs h n low part (m + 1) rs f) ((k.0, tt), (made_entering (h + 1) n low r.count r.first, ((k.0, (λ x. ((k.0, tt), f)), (λ x. made_steps h n low x m (r ∷ rs))), (k.0, tt))))

    made_turnings : (h n : ℕ) (low : ℤ) (part : Emit) (rs : List Run) → Made part → Made (turnings s h n low part rs)
    made_turnings h n low part [] f = tt
    made_turnings h n low part (r ∷ []) f =
        made_cond (nat_eq r.count 0) none _ tt ((k.0, tt), ((k.0, tt), ((k.0, tt), ((k.0, tt), ((k.0, tt), ((k.0, tt), (k.0, (λ x. ((k.0, tt), f)), (λ x. made_stepping h (s.free + 1 + 1) r.stride s.free x))))))))
    made_turnings h n low part (r ∷ p ∷ rs) f = made_runs h n low part 0 (r ∷ p ∷ rs) f

    made_locating : (h n m : ℕ) (r : Run) → Made (locating s h n m r)
    made_locating h n m r = made_cond (nat_eq r.count 0) none _ tt ((k.0, tt), ((k.0, tt), ((k.0, tt), (k.0, tt))))

    made_locating_in : (h n m : ℕ) (rs : List Run) → Made (locating_in s h n m rs)
    made_locating_in h n m [] = tt
    made_locating_in h n m (r ∷ []) = made_locating h n m r
    made_locating_in h n m (r ∷ p ∷ rs) = ((k.0, tt), ((k.0, tt), ((k.0, tt), (k.0, made_locating h n m r, made_locating_in h n (m + r.count) (p ∷ rs)))))

    made_repeating : (h n : ℕ) (part : Emit) (rs : List Run) → Made part → Made (repeating s h n part rs)
    made_repeating h n part rs f = made_cond (nat_eq (components_of rs) 0) none _ tt
        ((k.0, tt), ((k.0, tt), ((k.0, tt), (λ x. (made_locating_in h n 0 rs, (f, ((k.0, tt), ((k.0, tt), ((k.0, tt), (k.0, tt))))))))))

  -- what is done in turns, in any scope of such threads
  abbrev MadeTurns : Option ℕ → (Scope → Emit) → Type 0
  MadeTurns o f = (u : Scope) → Inside o u → Made (f u)

  mutual
    unfolding emit

    made_emit : (o : Option ℕ) (s : Scope) (h : ℕ) (x : Expr) → SitedExpr program o x → Inside o s → Made (emit program s h x)
    made_emit o s h (Static a value literal mentions) w k = (k.0, tt)
    made_emit o s h (Variable a r selections scalar) w k = made_value o s h (root_of s r) selections w k
    made_emit o s h (Constant a r selections scalar) w k = made_value o s h (constant_root_of s r) selections w k
    made_emit o s h (Parameter a j) w k = made_where o s k h (s.parameter j)
    made_emit o s h (Target a scalar) w k = made_named o s k h s.target
    made_emit o s h (Group e) w k = made_emit o s h e w k
    made_emit o s h (Unary a g class e) w k = (made_emit o s h e w k, made_unary o s k (h + 1) g class)
    made_emit o s h (Binary a x class e f) w k = (made_emit o s h e w.0 k, made_operated o s k (h + 1) x class f (emit program s (h + 1) f) (made_emit o s (h + 1) f w.1 k))
    made_emit o s h (AndThen e f) w k = (made_emit o s h e w.0 k, (k.0, made_emit o s h f w.1 k, (k.0, tt)))
    made_emit o s h (OrElse e f) w k = (made_emit o s h e w.0 k, (k.0, (k.0, tt), made_emit o s h f w.1 k))
    made_emit o s h (Relation class r e f) w k = (made_emit o s h e w.0 k, (made_emit o s (h + 1) f w.1 k, made_compare o s k (h + 1 + 1) r class))
    made_emit o s h (Membership class negated e low high) w k =
        (made_emit o s h e w.0 k, ((k.0, tt), (made_emit o (taking 1 s) h low w.1 k, ((k.0, tt), (made_emit o (taking 2 s) h high w.2 k, (made_within o s k h class s.free, made_negated o s k h negated))))))
    made_emit o s h (If condition value otherwise) w k = (made_emit o s h condition w.0 k, (k.0, made_emit o s h value w.1 k, made_emit o s h otherwise w.2 k))
    made_emit o s h (Call a callee sub actuals) w k = (made_passed o (passing program sub s) h sub s.free actuals w k, (k.0, tt))
    made_emit o s h (Convert check e) w k = (made_emit o s h e w k, made_checked o s k (h + 1) check.scalar)
    made_emit o s h (Reduction a attribute by initial None chunk it value) w k =
        (made_emit o s h initial w.0 k, made_iterated o s (h + 1) None it (λ u. emit program u (h + 1) value ⨟ folding u h by) w.1 k (λ u k'. (made_emit o u (h + 1) value w.2 k', made_folding o u k' h by)))
    made_emit o s h (Reduction a attribute by initial (Some site) chunk it value) w k =
        let kt : Inside (Some site) (thread_scope site s) = inside_thread o s site w.0 k in
        let kc : Inside (Some site) (chunk_scope chunk (taking 2 (thread_scope site s))) = inside_chunk (Some site) chunk (taking 2 (thread_scope site s)) kt in (
          made_emit o s h initial w.1 k,
          (
            (k.0, tt),
            (
              (k.0, tt),
              (
                made_chunk o (nested (taking 1 s)) h chunk w.2 k,
                (
                  made_course o (Some site) (taking 2 (nested (taking 1 s))) h it w.3 k,
                  (
                    made_ends o (taking 2 (nested (taking 1 s))) k h it,
                    (
                      (
                        (k.0, tt),
                        (
                          (k.0, tt),
                          (
                            (k.0, tt),
                            (
                              (k.0, names_fork o s k site (reduction_kind by chunk) w.0 (reduction_fits by chunk)),
                              (
                                k.0,
                                ((kc.0, tt), (made_threaded o site (thread_scope site s) 1 chunk (s.free + 1 + 1 + 1) it (λ u. emit program u 1 value ⨟ folding u 0 by) w.3 kt (λ u k'. (made_emit (Some site) u 1 value w.4 k', made_folding (Some site) u k' 0 by)), (kc.0, tt))),
                              ),
                            ),
                          ),
                        ),
                      ),
                      ((k.0, tt), made_combined o (taking 2 (taking 2 (taking 1 s))) k h by),
                    ),
                  ),
                ),
              ),
            ),
          ),
        )

    made_value : (o : Option ℕ) (s : Scope) (h : ℕ) (n : Option Named) (x : Selections) → SitedSelections program o x → Inside o s → Made (named_value program s h n x)
    made_value o s h n Whole w k = made_named o s k h n
    made_value o s h n (Field number offset rest) w k = (made_address o s k h n, ((k.0, tt), made_read o s (h + 1) rest w k))
    made_value o s h n (Index a e low high stride rest) w k =
        made_cond o s k (is_whole rest) _ _ (made_component_value o s k h n (main_named n) (own_cell s e) low high stride (emit program s (h + 1) e) (made_emit o s (h + 1) e w.0 k))
        (made_component_address o s k h n (main_named n) (own_cell s e) low high stride (emit program s (h + 1) e) (made_emit o s (h + 1) e w.0 k), made_read o s (h + 1) rest w.1 k)

    made_selected : (o : Option ℕ) (s : Scope) (h : ℕ) (x : Selections) → SitedSelections program o x → Inside o s → Made (selected program s h x)
    made_selected o s h Whole w k = tt
    made_selected o s h (Field number offset rest) w k = ((k.0, tt), made_selected o s h rest w k)
    made_selected o s h (Index a e low high stride rest) w k = (made_indexed o s k h (own_cell s e) low high stride (emit program s h e) (made_emit o s h e w.0 k), made_selected o s h rest w.1 k)

    made_read : (o : Option ℕ) (s : Scope) (h : ℕ) (x : Selections) → SitedSelections program o x → Inside o s → Made (read program s h x)
    made_read o s h Whole w k = (k.0, tt)
    made_read o s h (Field number offset rest) w k = ((k.0, tt), made_read o s h rest w k)
    made_read o s h (Index a e low high stride rest) w k =
        made_cond o s k (is_whole rest) _ _ (made_item o s k h (own_cell s e) low high stride (emit program s h e) (made_emit o s h e w.0 k))
        (made_indexed o s k h (own_cell s e) low high stride (emit program s h e) (made_emit o s h e w.0 k), made_read o s h rest w.1 k)

    made_passed : (o : Option ℕ) (s : Scope) (h sub n : ℕ) (x : Actuals) → SitedActuals program o x → Inside o s → Made (passed program s h sub n x)
    made_passed o s h sub n NoActual w k = tt
    made_passed o s h sub n (In formal value rest) w k = (made_into o s h _ value w.0 k, made_passed o s h sub n rest w.1 k)
    made_passed o s h sub n (InOut formal a r selections inner outer rest) w k =
        ((made_address o s k h (root_of s r), (made_selected o s (h + 1) selections w.0 k, ((k.0, tt), ((k.0, tt), ((k.0, tt), made_keep_checked o s k (h + 1) _ inner))))), made_passed o s h sub n rest w.1 k)
    made_passed o s h sub n (Out formal a r selections inner outer rest) w k = ((made_address o s k h (root_of s r), (made_selected o s (h + 1) selections w.0 k, ((k.0, tt), ((k.0, tt), (k.0, tt))))), made_passed o s h sub n rest w.1 k)
    made_passed o s h sub n (CompositeInOut formal a r selections subtype rest) w k =
        (((k.0, tt), (made_address o s k (h + 1) (root_of s r), (made_selected o s (h + 1 + 1) selections w.0 k, ((k.0, tt), ((k.0, tt), (k.0, tt)))))), made_passed o s h sub n rest w.1 k)
    made_passed o s h sub n (CompositeOut formal a r selections subtype rest) w k =
        (((k.0, tt), (made_address o s k (h + 1) (root_of s r), (made_selected o s (h + 1 + 1) selections w.0 k, ((k.0, tt), ((k.0, tt), (k.0, tt)))))), made_passed o s h sub n rest w.1 k)

    made_into : (o : Option ℕ) (s : Scope) (h n : ℕ) (x : Value) → SitedValue program o x → Inside o s → Made (put_into program s h n x)
    made_into o s h n (Number check e) w k = (made_emit o s h e w k, made_keep_checked o s k (h + 1) n check.scalar)
    made_into o s h n (Cells x) w k = made_composed o s h n x w k

    made_composed : (o : Option ℕ) (s : Scope) (h n : ℕ) (x : Composite) → SitedComposite program o x → Inside o s → Made (composed program s h n x)
    made_composed o s h n (WholeVariable a r selections subtype) w k = ((k.0, tt), (made_address o s k (h + 1) (root_of s r), (made_selected o s (h + 1 + 1) selections w k, (k.0, tt))))
    made_composed o s h n (WholeConstant a r selections subtype) w k = ((k.0, tt), (made_address o s k (h + 1) (constant_root_of s r), (made_selected o s (h + 1 + 1) selections w k, (k.0, tt))))
    made_composed o s h n (WholeTarget a subtype) w k = ((k.0, tt), (made_address o s k (h + 1) s.target, (k.0, tt)))
    made_composed o s h n (CompositeIf condition value otherwise) w k = (made_emit o s h condition w.0 k, (k.0, made_composed o s h n value w.1 k, made_composed o s h n otherwise w.2 k))
    made_composed o s h n (Aggregate a size associations) w k = ((k.0, tt), ((k.0, tt), made_associated o s h n associations w k))

    made_associated : (o : Option ℕ) (s : Scope) (h n : ℕ) (x : Associations) → SitedAssociations program o x → Inside o s → Made (associated program s h n x)
    made_associated o s h n NoAssociation w k = tt
    made_associated o s h n (Association runs None mentions value rest) w k =
        (made_cond o s k (is_repeated runs value) _ _ (made_repeating o s k h n _ runs (made_component o (taking 2 s) h (s.free + 1) value w.0 k)) (made_fillings o s k h n (width program value) (is_plain value) _ runs (λ m. made_into o s h (n + m) value w.0 k)), made_associated o s h n rest w.1 k)
    made_associated o s h n (Association runs (Some x) mentions value rest) w k = (made_turnings o s k h n x.first _ runs (made_component o (iterated_scope s x.parameter) (turn_height runs h) (s.free + 1 + 1) value w.0 k), made_associated o s h n rest w.1 k)

    made_component : (o : Option ℕ) (s : Scope) (h a : ℕ) (x : Value) → SitedValue program o x → Inside o s → Made (component program s h a x)
    made_component o s h a (Number check e) w k = ((k.0, tt), (made_emit o s (h + 1) e w k, (made_checked o s k (h + 1 + 1) check.scalar, (k.0, tt))))
    made_component o s h a (Cells x) w k = (made_composed o (taking (composite_width program x) s) h s.free x w k, ((k.0, tt), ((k.0, tt), (k.0, tt))))

    made_filtered : (o : Option ℕ) (s : Scope) (h : ℕ) (filter : Optional) (x : Emit) → SitedOptional program o filter → Inside o s → Made x → Made (filtered program s h filter x)
    made_filtered o s h Absent x w k f = f
    made_filtered o s h (Present e) x w k f = (made_emit o s h e w k, (k.0, f))

    made_iterated : (o : Option ℕ) (s : Scope) (h : ℕ) (number : Option ℕ) (it : Iteration) (f : Scope → Emit) → SitedIteration program o o it → Inside o s → MadeTurns o f → Made (iterated program s h number it f)
    made_iterated o s h number (Range p reverse low high check filter) f w k g = (
      made_emit o s h low w.0 k,
      (
        (k.0, tt),
        (
          made_emit o (taking 1 s) h high w.1 k,
          (
            (k.0, tt),
            (
              made_ascending o s k h s.free,
              (
                k.0,
                (
                  made_bounds o s k h s.free check,
                  (
                    k.0,
                    (λ x. let k' = inside_leaving o number x (with_parameter p (own (first_parameter reverse s.free)) (taking 2 s)) k in
                        ((k.0, tt), made_filtered o (range_scope s number p reverse x) h filter _ w.2 k' (g (range_scope s number p reverse x) k'))),
                    (λ x. made_counting o s k h reverse s.free x),
                  ),
                ),
              ),
            ),
          ),
        ),
      ),
    )
    made_iterated o s h number (Components p constant a r selections count stride dimensions filter) f w k g = (
      (made_address o s k h (array_root_of constant s r), (made_selected o s (h + 1) selections w.0 k, (k.0, tt))),
      made_cond o s k (nat_eq count 0) none _ tt (
        (k.0, tt),
        (
          (k.0, tt),
          (
            (k.0, tt),
            (
              (k.0, tt),
              (
                k.0,
                (λ x. let k' = inside_leaving o number x (with_item constant p (record { through = true; place = own s.free; cells = stride }) (taking 3 s)) k in
                    ((k.0, tt), made_filtered o (item_scope s number constant p stride x) h filter _ w.1 k' (g (item_scope s number constant p stride x) k'))),
                (λ x. made_stepping o s k h s.free stride (s.free + 1) x),
              ),
            ),
          ),
        ),
      ),
    )

    made_chunk : (o : Option ℕ) (s : Scope) (h : ℕ) (x : Chunk) → SitedChunk program o x → Inside o s → Made (chunk_code program s h x)
    made_chunk o s h NoChunk w k = ((k.0, tt), ((k.0, tt), ((k.0, tt), (k.0, tt))))
    made_chunk o s h (Count e) w k = ((k.0, tt), ((k.0, tt), (made_emit o (taking 1 s) h e w k, ((k.0, tt), ((k.0, tt), ((k.0, tt), made_raise_above o s k h s.free))))))
    made_chunk o s h (Each p low high check) w k =
        (made_emit o s h low w.0 k, ((k.0, tt), (made_emit o (taking 1 s) h high w.1 k, ((k.0, tt), (made_raise_above o s k h s.free, (made_bounds o s k h s.free check, made_raise_beyond o s k h))))))

    -- the filter is not of it
    made_course : (o i' : Option ℕ) (s : Scope) (h : ℕ) (it : Iteration) → SitedIteration program o i' it → Inside o s → Made (course_code program s h it)
    made_course o i' s h (Range p reverse low high check filter) w k =
        (made_emit o s h low w.0 k, ((k.0, tt), (made_emit o (taking 1 s) h high w.1 k, ((k.0, tt), (made_ascending o s k h s.free, (k.0, made_bounds o s k h s.free check))))))
    made_course o i' s h (Components p constant a r selections count stride dimensions filter) w k = (made_address o s k h (array_root_of constant s r), (made_selected o s (h + 1) selections w.0 k, (k.0, tt)))

    made_threaded : (o : Option ℕ) (site : ℕ) (t : Scope) (h : ℕ) (chunk : Chunk) (around : ℕ) (it : Iteration) (f : Scope → Emit) → SitedIteration program o (Some site) it → Inside (Some site) t → MadeTurns (Some site) f → Made (threaded program t h chunk around it f)
    made_threaded o site t h chunk around (Range p reverse low high check filter) f w k g =
        let cs : Scope = chunk_scope chunk (taking 2 t) in
        let kc : Inside (Some site) cs = inside_chunk (Some site) chunk (taking 2 t) k in
        let v : Scope = turn_range t chunk p in
        (made_ascending (Some site) cs kc h (t.free + 2), (kc.0, (kc.0, (λ x. ((kc.0, tt), made_filtered (Some site) v h filter _ w.2 kc (g v kc))), (λ x. made_counting (Some site) cs kc h false (t.free + 2) x))))
    made_threaded o site t h chunk around (Components p constant a r selections count stride dimensions filter) f w k g =
        let cs : Scope = chunk_scope chunk (taking 2 t) in
        let kc : Inside (Some site) cs = inside_chunk (Some site) chunk (taking 2 t) k in
        let v : Scope = turn_component t chunk constant p stride in
        (made_ascending (Some site) cs kc h (t.free + 2), (kc.0, ((kc.0, tt), ((kc.0, tt), ((kc.0, tt), ((kc.0, tt), (kc.0, (λ x. ((kc.0, tt), made_filtered (Some site) v h filter _ w.1 kc (g v kc))), (λ x. made_stepping (Some site) cs kc h (t.free + 2 + 1 + 1) stride (t.free + 2) x))))))))

  -- ---- statements

  module _ (o : Option ℕ) (s : Scope) (k : Inside o s) where
    made_away : (loop : ℕ) (b : Body) → Made (away s loop b)
    made_away loop (body.Sub j) = (k.0, tt)
    made_away loop (body.Site j) = (k.0, tt)

    made_exiting : (loop : ℕ) (to : Option ℕ) → Made (exiting s loop to)
    made_exiting loop None = made_away loop s.body
    made_exiting loop (Some to) = (k.0, tt)

    made_returning : (h : ℕ) (w : Leaving) → Made (returning s h w)
    made_returning h ByReturn = (k.0, tt)
    made_returning h ByValue = ((k.0, tt), (k.0, tt))
    made_returning h ByEnd = (k.0, tt)
    made_returning h ByLeave = (k.0, tt)

    made_returning_value : (w : Leaving) → Made (returning_value s w)
    made_returning_value ByReturn = (k.0, tt)
    made_returning_value ByValue = (k.0, tt)
    made_returning_value ByEnd = (k.0, tt)
    made_returning_value ByLeave = (k.0, tt)

    made_handled : (w : Option Where) → Made (handled_target s w)
    made_handled None = (k.0, tt)
    made_handled (Some w) = (made_load_at o s k 0 w.level w.cell, (k.0, tt))

    made_image : (class : Class) → Made (one s 1 (image_instr class))
    made_image class.Boolean = (k.0, tt)
    made_image (class.Integer Narrow) = (k.0, tt)
    made_image (class.Integer Wide) = (k.0, tt)
    made_image (class.Integer (Modulo d)) = (k.0, tt)
    made_image class.Universal = (k.0, tt)

    made_send : (feed : Bool) → Made (one s 0 (send_instr feed))
    made_send true = (k.0, tt)
    made_send false = (k.0, tt)

    made_texts : (d : ℕ) (x : Pieces) → SitedPieces program o x → Made (piece_texts s d x)
    made_texts d NoPiece w = tt
    made_texts d (Text bytes rest) w = ((k.0, subst (λ n. n < length (texts_of program)) (sym (k.2 bytes)) w.0), made_texts d rest w.1)
    made_texts d (Image class e rest) w = ((k.0, tt), (made_image class, made_texts (d + 1) rest w.1))
    made_texts d (Padded class e width rest) w = ((k.0, tt), ((k.0, tt), made_texts (d + 1) rest w.1))

    made_span : (d : ℕ) (r : Span) → Made (in_span s d r.low r.high)
    made_span d r = ((k.0, tt), ((k.0, tt), ((k.0, tt), ((k.0, tt), ((k.0, tt), ((k.0, tt), (k.0, tt)))))))

    made_chosen : (d : ℕ) (rs : List Span) → Made (chosen s d rs)
    made_chosen d [] = (k.0, tt)
    made_chosen d (r ∷ rs) = (made_span d r, (k.0, (k.0, tt), made_chosen d rs))

    made_reason : (d : ℕ) (rs : List Reason) → Made (has_reason s d rs)
    made_reason d [] = (k.0, tt)
    made_reason d (r ∷ rs) = (((k.0, tt), ((k.0, tt), (k.0, tt))), (k.0, (k.0, tt), made_reason d rs))

    made_handled_by : (handled : Handled) (stmts rest : Emit) (d : ℕ) → Made stmts → Made rest → Made (handled_by handled stmts rest s d)
    made_handled_by Others stmts rest d f g = f
    made_handled_by (Reasons reasons) stmts rest d f g = (made_reason d reasons, (k.0, f, g))

    made_left_by : (d way : ℕ) → Made (left_by s d way)
    made_left_by d way = ((k.0, tt), ((k.0, tt), (k.0, tt)))

    made_exits : (d : ℕ) (number : Option ℕ) (ns : List ℕ) → Made (exits_code s d number ns)
    made_exits d number [] = tt
    made_exits d number (n ∷ ns) = (made_cond o s k (is_own number n) none _ tt (made_left_by d (n + 3), (k.0, made_exiting n (s.exits n))), made_exits d number ns)

    made_left : (number : Option ℕ) (loops : List ℕ) → Made (left_code s number loops)
    made_left number loops =
        ((k.0, tt), ((k.0, tt), ((k.0, tt), (k.0, ((made_left_by s.free 1, ((k.0, made_returning 0 s.leaving), (made_left_by s.free 2, (k.0, ((k.0, tt), made_returning_value s.leaving))))), made_exits s.free number loops)))))

    made_store_checked : (x : Scalar) (level : Level) (n : ℕ) → Made (store_checked s x level n)
    made_store_checked x Own n = of_set (λ j. Made (one s 1 j)) x n (k.0, tt) (k.0, tt)
    made_store_checked x level n = (made_checked o s k 1 x, made_store_at o s k 1 level n)

    made_assigned : (n : Option Named) (whole : Bool) (x : Scalar) (part : Emit) (value : Scope → ℕ → Emit) → Made part → ((u : Scope) (h : ℕ) → Inside o u → Made (value u h)) → Made (assigned s n whole x part value)
    made_assigned None whole x part value f g = (k.0, tt)
    made_assigned (Some n) whole x part value f g =
        made_cond o s k (whole && not n.through) _ _ (g (with_target n s) 0 k, made_store_checked x n.place.level n.place.cell)
        (made_address_of o s k 0 n, (f, ((k.0, tt), ((k.0, tt), (g (with_target (record { through = true; place = own s.free; cells = 1 }) (taking 1 s)) 1 k, (made_checked o s k (1 + 1) x, (k.0, tt)))))))

  made_fields : (at : ℕ → ℕ → Emit) (n : ℕ) (fs : List Part) → ((n m : ℕ) → Made (at n m)) → Made (field_defaults program at n fs)
  made_fields at n [] g = tt
  made_fields at n (f ∷ fs) g = (g n f.subtype, made_fields at (n + cells_of program f.subtype) fs g)

  made_default_of : (o : Option ℕ) (s : Scope) (at : ℕ → ℕ → Emit) (n : ℕ) (x : Option Subtype) → Inside o s → ((n m : ℕ) → Made (at n m)) → Made (default_of program s at n x)
  made_default_of o s at n None k g = tt
  made_default_of o s at n (Some (OfScalar scalar)) k g = ((k.0, tt), (k.0, tt))
  made_default_of o s at n (Some (Array dimensions part)) k g = (g n part, made_doubled o s k 0 n (cells_of program part) (components dimensions) 1 (components dimensions))
  made_default_of o s at n (Some (Record fields)) k g = made_fields at n fields g

  made_defaults : (o : Option ℕ) (s : Scope) (levels n number : ℕ) → Inside o s → Made (defaults_within program s levels n number)
  made_defaults o s zero n number k = tt
  made_defaults o s (suc levels) n number k = made_default_of o s (defaults_within program s levels) n (slice_get program.subtypes number) k (λ n m. made_defaults o s levels n m k)

  made_defaulted : (o : Option ℕ) (s : Scope) (n x : ℕ) → Inside o s → Made (defaulted program s n x)
  made_defaulted o s n x k = made_defaults o (taking (length (object_layout program x)) s) (length program.subtypes) n (subtype_or_none program (slice_get program.objects x)) k

  made_back : (o : Option ℕ) (s : Scope) (sub n : ℕ) (x : Actuals) → Inside o s → Made (back_code program s sub n x)
  unfolding back_code
  made_back o s sub n NoActual k = tt
  made_back o s sub n (In formal value rest) k = made_back o s sub n rest k
  made_back o s sub n (InOut formal a r selections inner outer rest) k = (((k.0, tt), ((k.0, tt), (made_checked o s k 2 outer, (k.0, tt)))), made_back o s sub n rest k)
  made_back o s sub n (Out formal a r selections inner outer rest) k = (((k.0, tt), ((k.0, tt), (made_checked o s k 2 outer, (k.0, tt)))), made_back o s sub n rest k)
  made_back o s sub n (CompositeInOut formal a r selections subtype rest) k = (((k.0, tt), ((k.0, tt), (k.0, tt))), made_back o s sub n rest k)
  made_back o s sub n (CompositeOut formal a r selections subtype rest) k = (((k.0, tt), ((k.0, tt), (k.0, tt))), made_back o s sub n rest k)

  made_pieces : (o : Option ℕ) (s : Scope) (x : Pieces) → SitedPieces program o x → Inside o s → Made (piece_values program s x)
  unfolding piece_values
  made_pieces o s NoPiece w k = tt
  made_pieces o s (Text bytes rest) w k = made_pieces o s rest w.1 k
  made_pieces o s (Image class e rest) w k = (made_emit o s 0 e w.0 k, ((k.0, tt), made_pieces o (taking 1 s) rest w.1 k))
  made_pieces o s (Padded class e width rest) w k = (made_emit o s 0 e w.0 k, ((k.0, tt), made_pieces o (taking 1 s) rest w.1 k))

  made_declared : (o : Option ℕ) (s : Scope) (decls : Decls) (rest : Scope → Emit) → SitedDecls program o decls → Inside o s → ((u : Scope) → Inside o u → Made (rest u)) → Made (declared program s decls rest)
  made_declared o s NoDecl rest w k f = f s k
  made_declared o s (DeclareDefault x more) rest w k f = (made_defaulted o s s.free x k, made_declared o (object_here s (VariableOf x) (length (object_layout program x))) more rest w k f)
  made_declared o s (DeclareVariable x initial more) rest w k f = (made_into o (taking (width program initial) s) 0 s.free initial w.0 k, made_declared o (object_here s (VariableOf x) (width program initial)) more rest w.1 k f)
  made_declared o s (DeclareConstant x initial more) rest w k f = (made_into o (taking (width program initial) s) 0 s.free initial w.0 k, made_declared o (object_here s (ConstantOf x) (width program initial)) more rest w.1 k f)
  made_declared o s (Mentions es more) rest w k f = made_declared o s more rest w k f

  sited_chunk : (o : Option ℕ) (count : Optional) → SitedOptional program o count → SitedChunk program o (chunk_by program count)
  sited_chunk o Absent w = tt
  sited_chunk o (Present e) w = w

  made_parallel_for : (o : Option ℕ) (s : Scope) (number site : ℕ) (chunk : Chunk) (it : Iteration) (loops : List ℕ) (f : Scope → Emit) → Inner program o site → SitedChunk program o chunk → SitedIteration program o (Some site) it → Inside o s → MadeTurns (Some site) f
      → Made (parallel_for program s number site chunk it loops f)
  made_parallel_for o s number site chunk it loops f w w1 w2 k g =
      let kt : Inside (Some site) (thread_scope site s) = inside_thread o s site w k in
      let kc : Inside (Some site) (chunk_scope chunk (taking 2 (thread_scope site s))) = inside_chunk (Some site) chunk (taking 2 (thread_scope site s)) kt in
      ((k.0, tt), (made_chunk o (nested s) 0 chunk w1 k, (made_course o (Some site) (taking 2 (nested s)) 0 it w2 k, (made_ends o (taking 2 (nested s)) k 0 it, (((k.0, tt), ((k.0, tt), ((k.0, tt), ((k.0, names_fork o s k site (loop_kind chunk) w (loop_fits chunk)), (k.0, (made_threaded o site (thread_scope site s) 0 chunk (s.free + 1 + 1) it f w2 kt g, (kc.0, tt))))))), ((k.0, tt), made_left o (taking 2 (taking 2 s)) k (Some number) loops))))))

  made_parallel_block : (o : Option ℕ) (s : Scope) (site : ℕ) (threads : Optional) (count : ℕ) (loops : List ℕ) (arms : Emit) → Inner program o site → SitedOptional program o threads → Inside o s → Made arms → Made (parallel_block program s site threads count loops arms)
  made_parallel_block o s site threads count loops arms w w1 k f =
      let kt : Inside (Some site) (thread_scope site s) = inside_thread o s site w k in
      ((k.0, tt), (made_chunk o (nested s) 0 (chunk_by program threads) (sited_chunk o threads w1) k, ((k.0, tt), ((k.0, tt), (((k.0, tt), ((k.0, tt), ((k.0, tt), ((k.0, names_fork o s k site (kind.Block count) w tt), (k.0, (f, (kt.0, tt))))))), ((k.0, tt), made_left o (taking 2 s) k None loops))))))

  mutual
    unfolding stmt

    made_stmt : (o : Option ℕ) (s : Scope) (x : Stmt) → SitedStmt program o x → Inside o s → Made (stmt program s x)
    made_stmt o s Null w k = tt
    made_stmt o s (Assign a r selections (Number check e)) w k = made_assigned o s k (root_of s r) (is_whole selections) check.scalar (selected program s 1 selections) _ (made_selected o s 1 selections w.0 k) (λ u h k'. made_emit o u h e w.1 k')
    made_stmt o s (Assign a r selections (Cells x)) w k =
        (made_address o s k 0 (root_of s r), (made_selected o s 1 selections w.0 k, ((k.0, tt), (made_composed o (with_target (record { through = true; place = own s.free; cells = composite_width program x }) (taking (composite_width program x) (taking 1 s))) 0 (s.free + 1) x w.1 k, ((k.0, tt), ((k.0, tt), (k.0, tt)))))))
    made_stmt o s (CallProcedure a callee sub actuals) w k = (made_passed o (passing program sub s) 0 sub s.free actuals w k, ((k.0, tt), made_back o s sub s.free actuals k))
    made_stmt o s (Exit loop Absent) w k = made_exiting o s k loop (s.exits loop)
    made_stmt o s (Exit loop (Present e)) w k = (made_emit o s 0 e w k, (k.0, made_exiting o s k loop (s.exits loop)))
    made_stmt o s Return w k = made_returning o s k 0 s.leaving
    made_stmt o s (ReturnValue (Number check e)) w k = (made_emit o s 0 e w k, (made_checked o s k 1 check.scalar, made_returning_value o s k s.leaving))
    made_stmt o s (ReturnValue (Cells x)) w k = (k.0, tt)
    made_stmt o s (Raise x) w k = (k.0, tt)
    made_stmt o s Reraise w k = made_handled o s k s.handled
    made_stmt o s (IfThen condition stmts otherwise) w k = (made_emit o s 0 condition w.0 k, made_cond o s k (is_end otherwise) _ _ (k.0, made_all o s stmts w.1 k) (k.0, made_all o s stmts w.1 k, made_all o s otherwise w.2 k))
    made_stmt o s (Case e alternatives) w k = (made_emit o s 0 e w.0 k, ((k.0, tt), made_cases o (taking 1 s) s.free alternatives w.1 k))
    made_stmt o s (Loop number Absent stmts) w k = (k.0, (λ x. ((k.0, tt), made_all o (with_exit number x s) stmts w.1 k)), (λ x. (k.0, tt)))
    made_stmt o s (Loop number (Present e) stmts) w k = (k.0, (λ x. ((k.0, tt), made_all o (with_exit number x s) stmts w.1 k)), (λ x. (made_emit o s 0 e w.0 k, (k.0, tt))))
    made_stmt o s (For number it stmts) w k = made_iterated o s 0 (Some number) it (λ u. all program u stmts) w.0 k (λ u k'. made_all o u stmts w.1 k')
    made_stmt o s (ParallelFor number site chunk it stmts) w k = made_parallel_for o s number site chunk it (exits_of stmts) (λ u. all program u stmts) w.0 w.1 w.2 k (λ u k'. made_all (Some site) u stmts w.3 k')
    made_stmt o s (Parallel site count arms) w k = made_parallel_block o s site count (arms_of arms) (arm_exits arms) _ w.0 w.1 k (made_each (Some site) (arm_scope program s site) 0 arms w.2 (inside_thread o s site w.0 k))
    made_stmt o s (Block decls stmts handlers) w k = made_declared o s decls _ w.0 k (λ u k'.
        made_cond o u k' (no_handler handlers) _ _ (made_all o u stmts w.1 k') (k'.0, ((k'.0, tt), made_handling o (with_handled (own u.free) (taking 1 u)) u.free handlers w.2 k'), (λ x. made_all o (with_entry x u) stmts w.1 k')))
    made_stmt o s (Put a callee pieces line) w k = (made_pieces o s pieces w k, (made_texts o s k s.free pieces w, made_send o s k line))
    made_stmt o s (Get a callee first r selections scalar) w k = (made_address o s k 0 (root_of s r), (made_selected o s 1 selections w k, ((k.0, tt), (made_checked o s k 2 scalar, (k.0, tt)))))

    made_all : (o : Option ℕ) (s : Scope) (x : Stmts) → SitedAll program o x → Inside o s → Made (all program s x)
    made_all o s End w k = tt
    made_all o s (Then first more) w k = (made_stmt o s first w.0 k, made_all o s more w.1 k)

    made_cases : (o : Option ℕ) (s : Scope) (d : ℕ) (x : Alternatives) → SitedAlternatives program o x → Inside o s → Made (cases program s d x)
    made_cases o s d NoAlternative w k = (k.0, tt)
    made_cases o s d (Alternative true choices mentions stmts rest) w k = made_all o s stmts w.0 k
    made_cases o s d (Alternative false choices mentions stmts rest) w k = (made_chosen o s k d choices, (k.0, made_all o s stmts w.0 k, made_cases o s d rest w.1 k))

    made_handling : (o : Option ℕ) (s : Scope) (d : ℕ) (x : Handlers) → SitedHandlers program o x → Inside o s → Made (handling program s d x)
    made_handling o s d NoHandler w k = ((k.0, tt), (k.0, tt))
    made_handling o s d (Handler handled stmts rest) w k = made_handled_by o s k handled (all program s stmts) (handling program s d rest) d (made_all o s stmts w.0 k) (made_handling o s d rest w.1 k)

    made_each : (o : Option ℕ) (s : Scope) (n : ℕ) (x : Arms) → SitedArms program o x → Inside o s → Made (arms_code program s n (arm_codes program s x))
    made_each o s n NoArm w k = tt
    made_each o s n (Arm stmts rest) w k = ((((k.0, tt), ((k.0, tt), ((k.0, tt), ((k.0, tt), ((k.0, tt), ((k.0, tt), (k.0, tt))))))), (k.0, made_all o s stmts w.0 k)), made_each o s (n + 1) rest w.1 k)

  -- ---- bodies

  made_ending : (o : Option ℕ) (s : Scope) (x : Option Scalar) → Inside o s → Made (code.ending s x)
  made_ending o s None k = (k.0, tt)
  made_ending o s (Some x) k = (k.0, tt)

  inside_placed : (hs : List Shape) (n : ℕ) (s : Scope) → Inside None s → Inside None (code.placed hs n s)
  inside_placed [] n s k = k
  inside_placed (h ∷ hs) n s k = inside_placed hs _ _ k

  -- a subprogram of those from a number on
  made_subs : (s : Scope) (n : ℕ) (us : List Sub) → SitedSubs program us → n + length us ≡ length program.subs → ((bytes : List ℕ) → s.text bytes ≡ text_in program bytes) → Made (code.subs_code program s n us)
  made_subs s n [] w e t = tt
  made_subs s n (unit ∷ more) w e t =
      let z : n + 1 ≡ suc n = omega arith in
      let is : IsBody program (body.Sub (n + 1)) = subst (λ m. IsBody program (body.Sub m)) (sym z) (let y : n + suc (length more) ≡ length program.subs = e in let x : n < length program.subs = omega (arith, y) in x) in
      let k : Inside None (code.sub_scope program s n unit) = inside_placed (shapes program unit.formals) 0 _ (is, tt, t) in (
        (made_stmt None (code.sub_scope program s n unit) (Block unit.body.decls unit.body.stmts unit.body.handlers) w.0 k, made_ending None (code.sub_scope program s n unit) unit.result k),
        made_subs s (n + 1) more w.1 (let y : n + suc (length more) ≡ length program.subs = e in omega (arith, y)) t,
      )

  made_main : (s : Scope) (decls : Decls) → SitedDecls program None decls → IsSited program → Inside None s → Made (code.main_declared program s decls (λ u. code.behind_main program u))
  made_main s NoDecl w all' k = ((made_stmt None s (Block NoDecl program.body.stmts program.body.handlers) (tt, all'.0.1, all'.0.2) k, (k.0, tt)), made_subs s 0 program.subs all'.1 (omega arith) k.2)
  made_main s (DeclareDefault x more) w all' k = (made_defaulted None s s.free x k, made_main (code.main_object s (VariableOf x) (length (object_layout program x))) more w all' k)
  made_main s (DeclareVariable x initial more) w all' k = (made_into None (taking (width program initial) s) 0 s.free initial w.0 k, made_main (code.main_object s (VariableOf x) (width program initial)) more w.1 all' k)
  made_main s (DeclareConstant x initial more) w all' k = (made_into None (taking (width program initial) s) 0 s.free initial w.0 k, made_main (code.main_object s (ConstantOf x) (width program initial)) more w.1 all' k)
  made_main s (Mentions es more) w all' k = made_main s more w all' k

  -- ---- what no run comes to

  made_idle : (text : List ℕ → ℕ) (ps : List Placed) (n : ℕ) (sites : List Site) → n + length sites ≡ length program.sites → Made (idle_forks (code.main_scope text) ps n sites)
  made_idle text ps n [] e = tt
  made_idle text ps n (x ∷ more) e = (go (has_fork n ps), made_idle text ps (n + 1) more (let y : n + suc (length more) ≡ length program.sites = e in omega (arith, y)))
    where
      is : n < length program.sites
      is = let y : n + suc (length more) ≡ length program.sites = e in omega (arith, y)

      go : (b : Bool) → Made (cond b none (idle_fork (code.main_scope text) n))
      go true = tt
      go false = ((tt, (is, tt, tt)), ((tt, (is, tt)), (tt, tt)))

  -- what each listed instruction of a program names
  pub listed_names : IsSited program → (q : ℕ) (p : Placed) → slice_get (placed_code program) q ≡ Some p → IsBody program p.body × Names p.body p.kind p.instr
  listed_names w q p e =
      made_at (placed_code program) q p (all_made (whole_code program (text_in program)) 0 (made_main (code.main_scope (text_in program)) program.body.decls w.0.0 w (tt, tt, (λ bytes. refl)), made_idle (text_in program) (listed (code.program_code program (text_in program)) 0) 0 program.sites (omega arith))) e
