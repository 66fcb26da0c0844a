-- How often a construct's fork stands in code: no more often than its number stands in the text (5.5, 5.6.1, 4.5.10).
use Rattle.std.proofs.Common.{◌≡◌, ℕ, zero, suc, ◌+◌, ◌<◌, ◌≤◌, ◌-◌, min, max, ℤ, ◌&&◌, not, List, [], ◌∷◌, ◌++◌, length, nat_eq, nat_lt, Option, Some, None, Bool, true, false, cond, slice_get, ◌⊎◌, ⊎_elim, inl, inr, refl, sym, ap, ◌∙◌, subst, true≢false, arith, ltb-false, eq-eqb, eqb-true}
use Rattle.std.proofs.lemmas.Bool.{and_cases, and_parts, or_parts, not-false, ne_eqb, cases_lt, cases_eq}
use Rattle.std.proofs.lemmas.Option.{none-some}
use Rattle.ada_base.specs.declared.operation.Op.{Op}
use Rattle.ada_base.specs.declared.operation.Op.TheVariants as op
use Rattle.ada_base.specs.declared.operation.Comparison.{Comparison}
use Rattle.ada_base.specs.declared.operation.Comparison.TheVariants as comparison
use Rattle.ada_base.specs.declared.reason.Reason.{Reason}
use Rattle.behaviours.specs.Paths.{VariableOf, ConstantOf}
use Rattle.lower_emission.specs.Repeats.{several, is_plain_expr, is_plain, is_plain_composite, are_plain, is_repeated}
use Rattle.ada_base.specs.declared.operation.Base.TheVariants.{Narrow, Wide, Modulo}
use Rattle.ada_meaning.specs.Values.{components, is_modular}
use Rattle.ada_meaning.specs.Meaning.{object_layout}
use Rattle.ada_meaning.proofs.Cells.{some_same}
use Rattle.typed_tree.specs.declared.scalars.Class.{Class}
use Rattle.typed_tree.specs.declared.scalars.Class.TheVariants as class
use Rattle.typed_tree.specs.declared.scalars.Scalar.{Scalar}
use Rattle.typed_tree.specs.declared.scalars.Check.{Check}
use Rattle.typed_tree.specs.declared.expressions.Run.{Run}
use Rattle.typed_tree.specs.declared.expressions.Sign.{Sign}
use Rattle.typed_tree.specs.declared.expressions.Sign.TheVariants as sign
use Rattle.typed_tree.specs.declared.expressions.Reducer.{Reducer}
use Rattle.typed_tree.specs.declared.expressions.Reducer.TheVariants.{Operator, Function}
use Rattle.typed_tree.specs.declared.statements.Span.{Span}
use Rattle.typed_tree.specs.declared.program.Field.{Field as Part}
use Rattle.typed_tree.specs.declared.program.Site.{Site as Row}
use Rattle.typed_tree.specs.Syntax.{Expr, Static, Variable, Constant, Parameter, Target, Group, Unary, Binary, AndThen, OrElse, Relation, Membership, If, Call, Convert, Reduction, Iteration, Range, Components, Chunk, NoChunk, Count, Each, Optional, Absent, Present, Selections, Whole, Field, Index, Actuals, NoActual, In, InOut, Out, CompositeInOut, CompositeOut, Value, Number, Cells, Composite, WholeVariable, WholeConstant, WholeTarget, CompositeIf, Aggregate, Associations, NoAssociation, Association, Pieces, NoPiece, Text, Image, Padded, Decls, NoDecl, DeclareDefault, DeclareVariable, DeclareConstant, Mentions, Stmt, Null, Assign, CallProcedure, Exit, Return, ReturnValue, Raise, Reraise, IfThen, Case, Loop, For, ParallelFor, Parallel, Block, Put, Get, Stmts, End, Then, Alternatives, NoAlternative, Alternative, Handled, Others, Reasons, Handlers, NoHandler, Handler, Arms, NoArm, Arm, Sub, Subtype, OfScalar, Array, Record, Program}
use Rattle.typed_sites.specs.Sites.{in_number, in_expr, in_exprs, in_optional, in_selections, in_actuals, in_value, in_composite, in_associations, in_iteration, in_chunk, in_pieces, in_decls, in_stmt, in_stmts, in_alternatives, in_arms, in_handlers, in_subs, in_program, SitesAreDistinct, SitesAreListed}
use Rattle.stack_code.specs.declared.code.Around.{Around as Body}
use Rattle.stack_code.specs.declared.code.Around.TheVariants as body
use Rattle.stack_code.specs.declared.instr.Instr.{Instr}
use Rattle.stack_code.specs.declared.instr.Instr.TheVariants as i
use Rattle.lower_emission.specs.declared.types.Mark.{Mark}
use Rattle.lower_emission.specs.declared.types.Placed.{Placed}
use Rattle.lower_emission.specs.declared.types.Where.{Where}
use Rattle.lower_emission.specs.declared.types.Named.{Named}
use Rattle.lower_emission.specs.declared.types.Level.{Level}
use Rattle.lower_emission.specs.declared.types.Level.TheVariants.{Own, Around, Main}
use Rattle.lower_emission.specs.declared.types.Leaving.{Leaving}
use Rattle.lower_emission.specs.declared.types.Leaving.TheVariants.{ByReturn, ByValue, ByEnd, ByLeave}
use Rattle.lower_emission.specs.Emits.{Emit, Nothing, One, Seq, Choose, When, Looped, Guarded, Aside, From, listed}
use Rattle.lower_emission.specs.Scope.{Scope, mark_of, keep_checked, taking, nested, thread_scope, with_exit, with_entry, root_of, constant_root_of, array_root_of, none, one, load_at, address_at, store_at, address_of}
use Rattle.lower_emission.specs.Emission.{checked, within, ranged, reducing, load_by, load_named, load_where, address, is_whole, unary_instr, binary_instr, static_instr, operated_by, compare_instr, negated_code, counting, bounds_code, folding, combined, doubled, filling, fillings, iterated_scope, turning, entering_next, run_steps, run_turnings, turn_height, turnings, components_of, locating, locating_in, repeating, ends_code, passing, composite_width, width, cells_of, own_cell, indexed_by, item_by, main_named, component_address, component_value}
use Rattle.lower_emission.proofs.Fused.{of_either, of_check, of_set, of_not, of_operated, of_component_address, of_component_value}
unfoldable use Rattle.lower_emission.specs.Emission.{emit, named_value, selected, read, passed, put_into, composed, associated, component, filtered, iterated, chunk_code, course_code, threaded}
use Rattle.lower_emission.specs.Statements.{no_handler, is_end, assigned, chosen, has_reason, handled_by, returning, returning_value, away, exiting, handled_target, image_instr, send_instr, piece_texts, object_here, exits_of, arm_exits, exit_code, exits_code, is_own, left_code, field_defaults, default_of, defaults_within, subtype_or_none, defaulted, declared, arms_code, chunk_by, arm_scope, store_checked}
unfoldable use Rattle.lower_emission.specs.Statements.{back_code, piece_values, stmt, all, cases, handling, arm_codes}
use Rattle.lower_emission.specs.Bodies as code
use Rattle.lower_emission.specs.Programs.{is_fork, has_fork, idle_fork, idle_forks, text_in, placed_code}
use Rattle.ada_lower.specs.HasTables.{HasForks}
use Rattle.ada_lower.proofs.Sited.{SitedExpr, SitedOptional, SitedSelections, SitedActuals, SitedValue, SitedComposite, SitedAssociations, SitedIteration, SitedChunk, SitedPieces, SitedDecls, SitedStmt, SitedAll, SitedAlternatives, SitedArms, SitedHandlers, SitedSubs, IsSited}

module _ (site : ℕ) where
  -- ---- counts

  abbrev pub fork_of : Instr → ℕ
  fork_of (i.Fork k) = in_number site k
  fork_of j = 0

  abbrev pub forks_in : List Placed → ℕ
  forks_in [] = 0
  forks_in (p ∷ ps) = fork_of p.instr + forks_in ps

  pub forks_joined : (xs ys : List Placed) → forks_in (xs ++ ys) ≡ forks_in xs + forks_in ys
  forks_joined [] ys = omega arith
  forks_joined (x ∷ xs) ys = let z = forks_joined xs ys in omega (arith, z)

  -- wherever the code stands, it has so many forks at most
  pub record Few (a : Emit) (n : ℕ) : Type 0 where
    pub few : (q : ℕ) → forks_in (listed a q) ≤ n

  -- ---- how code is put together

  flat : {a : Emit} → ((q : ℕ) → forks_in (listed a q) ≡ 0) → Few a 0
  flat f = record { few = λ q. let z = f q in omega (arith, z) }

  less : {a : Emit} {m n : ℕ} → m ≤ n → Few a m → Few a n
  less le f = record { few = λ q. let z = f.few q in omega (arith, z, le) }

  some : {a : Emit} {n : ℕ} → Few a 0 → Few a n
  some f = less (omega arith) f

  also : {a : Emit} (m : ℕ) {n : ℕ} → Few a n → Few a (m + n)
  also m f = less (omega arith) f

  join : {a b : Emit} {m n : ℕ} → Few a m → Few b n → Few (Seq a b) (m + n)
  join {a} {b} f g = record { few = λ q. let e = forks_joined (listed a q) (listed b (q + length (listed a q))) in let y = f.few q in let z = g.few (q + length (listed a q)) in omega (arith, e, y, z) }

  -- in front of, or behind, code without forks
  after : {a b : Emit} {n : ℕ} → Few a 0 → Few b n → Few (Seq a b) n
  after f g = less (omega arith) (join f g)

  before : {a b : Emit} {n : ℕ} → Few a n → Few b 0 → Few (Seq a b) n
  before f g = less (omega arith) (join f g)

  either : {mk : Mark} {h k : ℕ} {a b : Emit} {m n : ℕ} → Few a m → Few b n → Few (Choose mk h k a b) (m + n)
  either {mk} {h} {k} {a} {b} f g = record {
    few = λ q.
        let xs = listed a (q + 1) in
        let at = q + 1 + length xs in
        let bs = listed b (at + 1) in
        let e = forks_joined xs (Rattle.lower_emission.specs.Emits.placed mk k (i.Jump (at + 1 + length bs)) ∷ bs) in
        let y = f.few (q + 1) in
        let z = g.few (at + 1) in omega (arith, e, y, z);
  }

  perhaps : {mk : Mark} {h : ℕ} {a : Emit} {n : ℕ} → Few a n → Few (When mk h a) n
  perhaps {mk} {h} {a} f = record { few = λ q. let z = f.few (q + 1) in omega (arith, z) }

  around : {mk : Mark} {h : ℕ} {b : Bool} {exit head : ℕ → Emit} {m n : ℕ} → ((x : ℕ) → Few (exit x) m) → ((x : ℕ) → Few (head x) n) → Few (Looped mk h b exit head) (m + n)
  around {mk} {h} {b} {exit} {head} f g = record {
    few = λ q.
        let bs = listed (exit (q + 1)) (q + 1 + 1) in
        let at = q + 1 + 1 + length bs in
        let e = forks_joined bs (listed (head (q + 1 + 1)) at) in
        let y = (f (q + 1)).few (q + 1 + 1) in
        let z = (g (q + 1 + 1)).few at in omega (arith, e, y, z);
  }

  looping : {mk : Mark} {h : ℕ} {b : Bool} {exit head : ℕ → Emit} {m : ℕ} → ((x : ℕ) → Few (exit x) m) → ((x : ℕ) → Few (head x) 0) → Few (Looped mk h b exit head) m
  looping f g = less (omega arith) (around f g)

  held : {mk : Mark} {hs : Emit} {exit : ℕ → Emit} {m n : ℕ} → ((x : ℕ) → Few (exit x) m) → Few hs n → Few (Guarded mk hs exit) (m + n)
  held {mk} {hs} {exit} f g = record {
    few = λ q.
        let bs = listed (exit (q + 1)) (q + 1 + 1) in
        let at = q + 1 + 1 + length bs in
        let ks = listed hs (at + 1) in
        let e = forks_joined bs (Rattle.lower_emission.specs.Emits.placed mk 0 (i.Jump (at + 1 + length ks)) ∷ ks) in
        let y = (f (q + 1)).few (q + 1 + 1) in
        let z = g.few (at + 1) in omega (arith, e, y, z);
  }

  named : {a : ℕ → Emit} {n : ℕ} → ((x : ℕ) → Few (a x) n) → Few (From a) n
  named {a} f = record { few = λ q. (f q).few q }

  apart : {mk : Mark} {h : ℕ} {a : Emit} {n : ℕ} → Few a n → Few (Aside mk h a) n
  apart {mk} {h} {a} f = record { few = λ q. let z = f.few (q + 1) in omega (arith, z) }

  choice : {n : ℕ} (b : Bool) {x y : Emit} → Few x n → Few y n → Few (cond b x y) n
  choice true f g = f
  choice false f g = g

  -- a fork
  forked : {mk : Mark} {h k : ℕ} → Few (One mk h (i.Fork k)) (in_number site k)
  forked = record { few = λ q. omega arith }

  -- ---- code without forks

  few_load_at : (s : Scope) (h : ℕ) (level : Level) (n : ℕ) → Few (one s h (load_at level n)) 0
  few_load_at s h Own n = flat (λ q. refl)
  few_load_at s h (Around j) n = flat (λ q. refl)
  few_load_at s h Main n = flat (λ q. refl)

  few_address_at : (s : Scope) (h : ℕ) (level : Level) (n : ℕ) → Few (one s h (address_at level n)) 0
  few_address_at s h Own n = flat (λ q. refl)
  few_address_at s h (Around j) n = flat (λ q. refl)
  few_address_at s h Main n = flat (λ q. refl)

  few_store_at : (s : Scope) (h : ℕ) (level : Level) (n : ℕ) → Few (one s h (store_at level n)) 0
  few_store_at s h Own n = flat (λ q. refl)
  few_store_at s h (Around j) n = flat (λ q. refl)
  few_store_at s h Main n = flat (λ q. refl)

  few_address_of : (s : Scope) (h : ℕ) (n : Named) → Few (one s h (address_of n)) 0
  few_address_of s h n = go n.through
    where
      go : (b : Bool) → Few (one s h (cond b (load_at n.place.level n.place.cell) (address_at n.place.level n.place.cell))) 0
      go true = few_load_at s h n.place.level n.place.cell
      go false = few_address_at s h n.place.level n.place.cell

  few_load : (s : Scope) (h : ℕ) (b : Bool) (w : Where) → Few (load_by b s h w) 0
  few_load s h true w = after (few_load_at s h w.level w.cell) (flat (λ q. refl))
  few_load s h false w = few_load_at s h w.level w.cell

  few_named : (s : Scope) (h : ℕ) (n : Option Named) → Few (load_named s h n) 0
  few_named s h None = flat (λ q. refl)
  few_named s h (Some n) = few_load s h n.through n.place

  few_where : (s : Scope) (h : ℕ) (w : Option Where) → Few (load_where s h w) 0
  few_where s h None = flat (λ q. refl)
  few_where s h (Some w) = few_load_at s h w.level w.cell

  few_address : (s : Scope) (h : ℕ) (n : Option Named) → Few (address s h n) 0
  few_address s h None = flat (λ q. refl)
  few_address s h (Some n) = few_address_of s h n

  few_indexed : (s : Scope) (h : ℕ) (o : Option ℕ) (low high : ℤ) (stride : ℕ) {index : Emit} {m : ℕ} → Few index m → Few (indexed_by s h o low high stride index) m
  few_indexed s h None low high stride f = before f (flat (λ q. refl))
  few_indexed s h (Some n) low high stride f = some (flat (λ q. refl))

  few_item : (s : Scope) (h : ℕ) (o : Option ℕ) (low high : ℤ) (stride : ℕ) {index : Emit} {m : ℕ} → Few index m → Few (item_by s h o low high stride index) m
  few_item s h None low high stride f = before f (flat (λ q. refl))
  few_item s h (Some n) low high stride f = some (flat (λ q. refl))

  few_component_address : (s : Scope) (h : ℕ) (n : Option Named) (first own : Option ℕ) (low high : ℤ) (stride : ℕ) {index : Emit} {m : ℕ} → Few index m → Few (component_address s h n first own low high stride index) m
  few_component_address s h n first own low high stride {index} {m} f =
      of_component_address (λ a. Few a m) s h n first own low high stride index (λ g k e e'. some (flat (λ q. refl))) (after (few_address s h n) (few_indexed s (h + 1) own low high stride f))

  few_component_value : (s : Scope) (h : ℕ) (n : Option Named) (first own : Option ℕ) (low high : ℤ) (stride : ℕ) {index : Emit} {m : ℕ} → Few index m → Few (component_value s h n first own low high stride index) m
  few_component_value s h n first own low high stride {index} {m} f =
      of_component_value (λ a. Few a m) s h n first own low high stride index (λ g k e e'. some (flat (λ q. refl))) (after (few_address s h n) (few_item s (h + 1) own low high stride f))

  -- an instruction or its counterpart
  by_class : (s : Scope) (h : ℕ) (b : Bool) (x y : Instr) → Few (one s h x) 0 → Few (one s h y) 0 → Few (one s h (cond b x y)) 0
  by_class s h b x y f g = of_either (λ j. Few (one s h j) 0) b x y f g

  few_unary : (s : Scope) (h : ℕ) (g : Sign) (class : Class) → Few (one s h (unary_instr g class)) 0
  few_unary s h sign.Minus class = flat (λ q. refl)
  few_unary s h sign.Abs class = flat (λ q. refl)
  few_unary s h sign.Not class = of_not (λ j. Few (one s h j) 0) class (flat (λ q. refl)) (λ k d. flat (λ q. refl))

  few_binary : (s : Scope) (h : ℕ) (x : Op) (class : Class) → Few (one s h (binary_instr x class)) 0
  few_binary s h op.Add class = flat (λ q. refl)
  few_binary s h op.Sub class = flat (λ q. refl)
  few_binary s h op.Mul class = flat (λ q. refl)
  few_binary s h op.Div class = flat (λ q. refl)
  few_binary s h op.Mod class = flat (λ q. refl)
  few_binary s h op.Rem class = flat (λ q. refl)
  few_binary s h op.Pow class = flat (λ q. refl)
  few_binary s h op.And class = by_class s h (is_modular class) _ _ (flat (λ q. refl)) (flat (λ q. refl))
  few_binary s h op.Or class = by_class s h (is_modular class) _ _ (flat (λ q. refl)) (flat (λ q. refl))
  few_binary s h op.Xor class = by_class s h (is_modular class) _ _ (flat (λ q. refl)) (flat (λ q. refl))
  few_binary s h op.Max class = by_class s h (is_modular class) _ _ (flat (λ q. refl)) (flat (λ q. refl))
  few_binary s h op.Min class = by_class s h (is_modular class) _ _ (flat (λ q. refl)) (flat (λ q. refl))

  few_operated : (s : Scope) (h : ℕ) (x : Op) (class : Class) (f : Expr) {right : Emit} {m : ℕ} → Few right m → Few (operated_by s h (static_instr x class f) (binary_instr x class) right) m
  few_operated s h x class f {right} {m} k =
      of_operated (λ a. Few a m) s h x class f (binary_instr x class) right (λ v. some (flat (λ q. refl))) (λ v. some (flat (λ q. refl))) (λ v. some (flat (λ q. refl))) (λ v. some (flat (λ q. refl))) (before k (few_binary s (h + 1) x class))

  few_compare : (s : Scope) (h : ℕ) (r : Comparison) (class : Class) → Few (one s h (compare_instr r class)) 0
  few_compare s h comparison.Equal class = flat (λ q. refl)
  few_compare s h comparison.Unequal class = flat (λ q. refl)
  few_compare s h comparison.Less class = by_class s h (is_modular class) _ _ (flat (λ q. refl)) (flat (λ q. refl))
  few_compare s h comparison.AtMost class = by_class s h (is_modular class) _ _ (flat (λ q. refl)) (flat (λ q. refl))
  few_compare s h comparison.Greater class = by_class s h (is_modular class) _ _ (flat (λ q. refl)) (flat (λ q. refl))
  few_compare s h comparison.AtLeast class = by_class s h (is_modular class) _ _ (flat (λ q. refl)) (flat (λ q. refl))

  few_checked : (s : Scope) (h : ℕ) (k : Scalar) → Few (checked s h k) 0
  few_checked s h k = of_check (λ j. Few (one s h j) 0) k (flat (λ q. refl)) (flat (λ q. refl))

  few_keep_checked : (s : Scope) (h n : ℕ) (k : Scalar) → Few (keep_checked s h k n) 0
  few_keep_checked s h n k = of_set (λ j. Few (One (mark_of (max s.free (n + 1)) s) h j) 0) k n (flat (λ q. refl)) (flat (λ q. refl))

  few_within : (s : Scope) (h : ℕ) (class : Class) (d : ℕ) → Few (within s h class d) 0
  few_within s h class d = after (flat (λ q. refl)) (after (few_compare s (h + 1 + 1) comparison.AtLeast class) (after (flat (λ q. refl)) (after (flat (λ q. refl)) (after (few_compare s (h + 1 + 1 + 1) comparison.AtMost class) (flat (λ q. refl))))))

  few_ranged : (s : Scope) (h n : ℕ) (k : Scalar) → Few (ranged s h n k) 0
  few_ranged s h n k = after (flat (λ q. refl)) (after (flat (λ q. refl)) (after (few_compare s (h + 1 + 1) comparison.AtLeast k.class) (after (flat (λ q. refl)) (after (flat (λ q. refl)) (after (few_compare s (h + 1 + 1 + 1) comparison.AtMost k.class) (flat (λ q. refl)))))))

  few_reducing : (s : Scope) (h : ℕ) (accumulator value : Scalar) → Few (reducing s h accumulator value) 0
  few_reducing s h accumulator value = after (flat (λ q. refl)) (after (flat (λ q. refl)) (after (few_ranged s h s.free accumulator) (after (few_ranged s (h + 1) (s.free + 1) value) (flat (λ q. refl)))))

  few_negated : (s : Scope) (h : ℕ) (b : Bool) → Few (negated_code s h b) 0
  few_negated s h true = flat (λ q. refl)
  few_negated s h false = flat (λ q. refl)

  few_bounds : (s : Scope) (h d : ℕ) (check : Option Check) → Few (bounds_code s h d check) 0
  few_bounds s h d None = flat (λ q. refl)
  few_bounds s h d (Some c) = after (flat (λ q. refl)) (after (few_checked s (h + 1) c.scalar) (after (flat (λ q. refl)) (after (flat (λ q. refl)) (after (few_checked s (h + 1) c.scalar) (flat (λ q. refl))))))

  few_folding : (s : Scope) (h : ℕ) (by : Reducer) → Few (folding s h by) 0
  few_folding s h (Operator at x class) = few_binary s (h + 1 + 1) x class
  few_folding s h (Function at sub accumulator value) = after (flat (λ q. refl)) (after (few_keep_checked s (h + 1) s.free accumulator) (after (flat (λ q. refl)) (after (few_checked s (h + 1) value) (flat (λ q. refl)))))

  few_combined : (s : Scope) (h : ℕ) (by : Reducer) → Few (combined s h by) 0
  few_combined s h (Operator at x class) = flat (λ q. refl)
  few_combined s h (Function at sub accumulator value) = named (λ head. after (flat (λ q. refl)) (after (perhaps (after (few_reducing s h accumulator value) (flat (λ q. refl)))) (flat (λ q. refl))))

  few_ends : (s : Scope) (h : ℕ) (it : Iteration) → Few (ends_code s h it) 0
  few_ends s h (Range k reverse low high check filter) = flat (λ q. refl)
  few_ends s h (Components k constant at r selections count stride dimensions filter) = flat (λ q. refl)

  few_counting : (s : Scope) (h : ℕ) (reverse : Bool) (d head : ℕ) → Few (one s h (counting reverse d head)) 0
  few_counting s h true d head = flat (λ q. refl)
  few_counting s h false d head = flat (λ q. refl)

  few_doubled : (s : Scope) (h first size steps done count : ℕ) → Few (doubled s h first size steps done count) 0
  few_doubled s h first size zero done count = flat (λ q. refl)
  few_doubled s h first size (suc steps) done count = choice (nat_lt done count) (after (flat (λ q. refl)) (few_doubled s h first size steps (done + min done (count - done)) count)) (flat (λ q. refl))

  few_filling : (value : ℕ → Emit) (count first stride : ℕ) → ((n : ℕ) → Few (value n) 0) → Few (filling value count first stride) 0
  few_filling value zero first stride f = flat (λ q. refl)
  few_filling value (suc n) first stride f = after (f first) (few_filling value n (first + stride) stride f)

  few_fillings : (s : Scope) (h t size : ℕ) (plain : Bool) (value : ℕ → Emit) → ((n : ℕ) → Few (value n) 0) → (runs : List Run) → Few (fillings s h t size plain value runs) 0
  few_fillings s h t size plain value f [] = flat (λ q. refl)
  few_fillings s h t size plain value f (r ∷ rs) =
      after (choice (plain && (nat_lt 1 r.count && nat_eq r.stride size)) (after (f r.first) (few_doubled s h (t + r.first) size r.count 1 r.count)) (few_filling value r.count r.first r.stride f)) (few_fillings s h t size plain value f rs)

  few_turning : (s : Scope) (h t : ℕ) (low : ℤ) {part : Emit} {n : ℕ} (count first stride : ℕ) → Few part n → Few (turning s h t low part count first stride) n
  few_turning s h t low count first stride f =
      after (flat (λ q. refl)) (after (flat (λ q. refl)) (after (flat (λ q. refl)) (after (flat (λ q. refl)) (after (flat (λ q. refl)) (after (flat (λ q. refl)) (looping (λ x. after (flat (λ q. refl)) f) (λ x. flat (λ q. refl))))))))

  -- of several runs, the value's code stands once
  few_next : (s : Scope) (h t : ℕ) (low : ℤ) (head m : ℕ) (runs : List Run) → Few (entering_next s h t low head m runs) 0
  few_next s h t low head m [] = flat (λ q. refl)
  few_next s h t low head m (r ∷ rs) = choice (nat_eq r.count 0) (few_next s h t low head (m + 1) rs) (flat (λ q. refl))

  few_steps : (s : Scope) (h t : ℕ) (low : ℤ) (head m : ℕ) (runs : List Run) → Few (run_steps s h t low head m runs) 0
  few_steps s h t low head m [] = flat (λ q. refl)
  few_steps s h t low head m (r ∷ rs) =
      after (after (flat (λ q. refl)) (after (flat (λ q. refl)) (after (flat (λ q. refl)) (perhaps (after (flat (λ q. refl)) (few_next s h t low head (m + 1) rs)))))) (few_steps s h t low head (m + 1) rs)

  few_runs : (s : Scope) (h t : ℕ) (low : ℤ) {part : Emit} {n : ℕ} → Few part n → (m : ℕ) (runs : List Run) → Few (run_turnings s h t low part m runs) n
  few_runs s h t low f m [] = some (flat (λ q. refl))
  few_runs s h t low f m (r ∷ rs) =
      choice (nat_eq r.count 0) (few_runs s h t low f (m + 1) rs) (after (flat (λ q. refl)) (after (flat (λ q. refl)) (before (looping (λ x. after (flat (λ q. refl)) f) (λ x. few_steps s h t low x m (r ∷ rs))) (flat (λ q. refl)))))

  few_turnings : (s : Scope) (h t : ℕ) (low : ℤ) {part : Emit} {n : ℕ} → Few part n → (runs : List Run) → Few (turnings s h t low part runs) n
  few_turnings s h t low f [] = some (flat (λ q. refl))
  few_turnings s h t low f (r ∷ []) = choice (nat_eq r.count 0) (some (flat (λ q. refl))) (few_turning s h t low r.count r.first r.stride f)
  few_turnings s h t low f (r ∷ p ∷ rs) = few_runs s h t low f 0 (r ∷ p ∷ rs)

  -- ---- parts that are repeated, where their code stands once

  begun : {exit : ℕ → Emit} {m : ℕ} → ((x : ℕ) → Few (exit x) m) → Few (From exit) m
  begun f = record { few = λ q. (f q).few q }

  few_locating : (s : Scope) (h t m : ℕ) (r : Run) → Few (locating s h t m r) 0
  few_locating s h t m r = choice (nat_eq r.count 0) (flat (λ q. refl)) (flat (λ q. refl))

  few_locating_in : (s : Scope) (h t m : ℕ) (runs : List Run) → Few (locating_in s h t m runs) 0
  few_locating_in s h t m [] = flat (λ q. refl)
  few_locating_in s h t m (r ∷ []) = few_locating s h t m r
  few_locating_in s h t m (r ∷ p ∷ rs) = after (flat (λ q. refl)) (after (flat (λ q. refl)) (after (flat (λ q. refl)) (either (few_locating s h t m r) (few_locating_in s h t (m + r.count) (p ∷ rs)))))

  few_repeating : (s : Scope) (h t : ℕ) {part : Emit} {n : ℕ} → Few part n → (runs : List Run) → Few (repeating s h t part runs) n
  few_repeating s h t f runs = choice (nat_eq (components_of runs) 0) (some (flat (λ q. refl)))
      (after (flat (λ q. refl)) (after (flat (λ q. refl)) (after (flat (λ q. refl)) (begun (λ x. after (few_locating_in s h t 0 runs) (before f (flat (λ q. refl))))))))

  -- ---- what is given once

  one_filling : (value : ℕ → Emit) (n count first stride : ℕ) → count ≤ 1 → ((k : ℕ) → Few (value k) n) → Few (filling value count first stride) n
  one_filling value n zero first stride le f = some (flat (λ q. refl))
  one_filling value n (suc zero) first stride le f = before (f first) (flat (λ q. refl))
  one_filling value n (suc (suc k)) first stride le f = absurd (let z : suc (suc k) ≤ 1 = le in omega (arith, z))

  few_once : (s : Scope) (h t size : ℕ) (plain : Bool) (value : ℕ → Emit) {n : ℕ} → ((k : ℕ) → Few (value k) n) → (runs : List Run) → several runs ≡ false → Few (fillings s h t size plain value runs) n
  few_once s h t size plain value f [] e = some (flat (λ q. refl))
  few_once s h t size plain value {n} f (r ∷ []) e =
      before (choice (plain && (nat_lt 1 r.count && nat_eq r.stride size)) (before (f r.first) (few_doubled s h (t + r.first) size r.count 1 r.count)) (one_filling value n r.count r.first r.stride (ltb-false 1 r.count (or_parts (nat_lt 1 r.count) false e).0) f)) (flat (λ q. refl))
  few_once s h t size plain value f (r ∷ o ∷ rs) e = absurd (true≢false (or_parts (nat_lt 1 r.count) true e).1)

  plain_or : (runs : List Run) (value : Value) → is_repeated runs value ≡ false → (is_plain value ≡ true) ⊎ (several runs ≡ false)
  plain_or runs value e = ⊎_elim (λ many. inr many) (λ plain. inl (not-false (is_plain value) plain)) (and_cases (several runs) (not (is_plain value)) e)

  -- ---- expressions, values, iterations

  -- what is evaluated around an iteration, and what in each turn
  abbrev in_course : Iteration → ℕ
  in_course (Range k reverse low high check filter) = in_expr site low + in_expr site high
  in_course (Components k constant at r selections count stride dimensions filter) = in_selections site selections

  abbrev in_filter : Iteration → ℕ
  in_filter (Range k reverse low high check filter) = in_optional site filter
  in_filter (Components k constant at r selections count stride dimensions filter) = in_optional site filter

  courses : (it : Iteration) → in_course it + in_filter it ≡ in_iteration site it
  courses (Range k reverse low high check filter) = omega arith
  courses (Components k constant at r selections count stride dimensions filter) = refl

  module _ (program : Program) where
    whole_selected : (s : Scope) (h : ℕ) (x : Selections) → is_whole x ≡ true → Few (selected program s h x) 0
    unfolding selected
    whole_selected s h Whole e = flat (λ q. refl)
    whole_selected s h (Field number offset rest) e = absurd (true≢false (sym e))
    whole_selected s h (Index at f low high stride rest) e = absurd (true≢false (sym e))

    -- a plain value has no fork
    plain_emit : (s : Scope) (h : ℕ) (e : Expr) → is_plain_expr e ≡ true → Few (emit program s h e) 0
    unfolding emit
    plain_emit s h (Static at value literal mentions) w = flat (λ q. refl)
    plain_emit s h (Variable at r Whole scalar) w = few_named s h (root_of s r)
    plain_emit s h (Constant at r Whole scalar) w = few_named s h (constant_root_of s r)
    plain_emit s h (Parameter at k) w = few_where s h (s.parameter k)
    plain_emit s h (Target at scalar) w = few_named s h s.target
    plain_emit s h e w = absurd (true≢false (sym w))

    mutual
      unfolding emit

      plain_into : (s : Scope) (h t : ℕ) (x : Value) → is_plain x ≡ true → Few (put_into program s h t x) 0
      plain_into s h t (Number check e) w = after (plain_emit s h e w) (few_keep_checked s (h + 1) t check.scalar)
      plain_into s h t (Cells c) w = plain_composed s h t c w

      plain_composed : (s : Scope) (h t : ℕ) (x : Composite) → is_plain_composite x ≡ true → Few (composed program s h t x) 0
      plain_composed s h t (WholeVariable at r selections subtype) w = after (flat (λ q. refl)) (after (few_address s (h + 1) (root_of s r)) (after (whole_selected s (h + 1 + 1) selections w) (flat (λ q. refl))))
      plain_composed s h t (WholeConstant at r selections subtype) w = after (flat (λ q. refl)) (after (few_address s (h + 1) (constant_root_of s r)) (after (whole_selected s (h + 1 + 1) selections w) (flat (λ q. refl))))
      plain_composed s h t (WholeTarget at subtype) w = after (flat (λ q. refl)) (after (few_address s (h + 1) s.target) (flat (λ q. refl)))
      plain_composed s h t (CompositeIf condition value otherwise) w = absurd (true≢false (sym w))
      plain_composed s h t (Aggregate at size associations) w = after (flat (λ q. refl)) (after (flat (λ q. refl)) (plain_associated s h t associations w))

      plain_associated : (s : Scope) (h t : ℕ) (x : Associations) → are_plain x ≡ true → Few (associated program s h t x) 0
      plain_associated s h t NoAssociation w = flat (λ q. refl)
      plain_associated s h t (Association runs None mentions value rest) w =
          let (plain, others) = and_parts (is_plain value) (are_plain rest) w in
          after (choice (is_repeated runs value) (few_repeating s h t (plain_component (taking 2 s) h (s.free + 1) value plain) runs) (few_fillings s h t (width program value) (is_plain value) _ (λ n. plain_into s h (t + n) value plain) runs))
          (plain_associated s h t rest others)
      plain_associated s h t (Association runs (Some x) mentions value rest) w = absurd (true≢false (sym w))

      plain_component : (s : Scope) (h at : ℕ) (x : Value) → is_plain x ≡ true → Few (component program s h at x) 0
      plain_component s h at (Number check e) w = after (flat (λ q. refl)) (after (plain_emit s (h + 1) e w) (after (few_checked s (h + 1 + 1) check.scalar) (flat (λ q. refl))))
      plain_component s h at (Cells c) w = after (plain_composed (taking (composite_width program c) s) h s.free c w) (flat (λ q. refl))

    -- a value that is repeated stands in one part, and another is computed once or has no fork
    few_given : (s : Scope) (h t : ℕ) (runs : List Run) (value : Value) (repeated : Bool) → is_repeated runs value ≡ repeated
        → Few (component program (taking 2 s) h (s.free + 1) value) (in_value site value) → ((n : ℕ) → Few (put_into program s h n value) (in_value site value))
        → Few (cond repeated (repeating s h t (component program (taking 2 s) h (s.free + 1) value) runs) (fillings s h t (width program value) (is_plain value) (λ n. put_into program s h (t + n) value) runs)) (in_value site value)
    few_given s h t runs value true e f g = few_repeating s h t f runs
    few_given s h t runs value false e f g =
        ⊎_elim (λ plain. some (few_fillings s h t (width program value) (is_plain value) _ (λ n. plain_into s h (t + n) value plain) runs))
        (λ many. few_once s h t (width program value) (is_plain value) _ (λ n. g (t + n)) runs many) (plain_or runs value e)

    mutual
      unfolding emit

      few_emit : (o : Option ℕ) (s : Scope) (h : ℕ) (e : Expr) → SitedExpr program o e → Few (emit program s h e) (in_expr site e)
      few_emit _ s h (Static at value literal mentions) w = some (flat (λ q. refl))
      few_emit _ s h (Variable at r selections scalar) w = few_value _ s h (root_of s r) selections w
      few_emit _ s h (Constant at r selections scalar) w = few_value _ s h (constant_root_of s r) selections w
      few_emit _ s h (Parameter at k) w = few_where s h (s.parameter k)
      few_emit _ s h (Target at scalar) w = few_named s h s.target
      few_emit _ s h (Group e) w = few_emit _ s h e w
      few_emit _ s h (Unary at g class e) w = before (few_emit _ s h e w) (few_unary s (h + 1) g class)
      few_emit _ s h (Binary at x class e f) w = join (few_emit _ s h e w.0) (few_operated s (h + 1) x class f (few_emit _ s (h + 1) f w.1))
      few_emit _ s h (AndThen e f) w = join (few_emit _ s h e w.0) (less (omega arith) (either (few_emit _ s h f w.1) (flat (λ q. refl))))
      few_emit _ s h (OrElse e f) w = join (few_emit _ s h e w.0) (less (omega arith) (either (flat (λ q. refl)) (few_emit _ s h f w.1)))
      few_emit _ s h (Relation class r e f) w = join (few_emit _ s h e w.0) (before (few_emit _ s (h + 1) f w.1) (few_compare s (h + 1 + 1) r class))
      few_emit _ s h (Membership class negated e low high) w =
          join (few_emit _ s h e w.0) (after (flat (λ q. refl)) (join (few_emit _ (taking 1 s) h low w.1) (after (flat (λ q. refl)) (before (few_emit _ (taking 2 s) h high w.2) (after (few_within s h class s.free) (few_negated s h negated))))))
      few_emit _ s h (If condition value otherwise) w = join (few_emit _ s h condition w.0) (either (few_emit _ s h value w.1) (few_emit _ s h otherwise w.2))
      few_emit _ s h (Call at callee sub actuals) w = before (few_passed _ (passing program sub s) h sub s.free actuals w) (flat (λ q. refl))
      few_emit _ s h (Convert check e) w = before (few_emit _ s h e w) (few_checked s (h + 1) check.scalar)
      few_emit _ s h (Reduction at attribute by initial None chunk it value) w =
          less (omega arith) (join (few_emit _ s h initial w.0) (also (in_chunk site chunk) (few_iterated _ _ s (h + 1) None it w.1 (λ u. before (few_emit _ u (h + 1) value w.2) (few_folding u h by)))))
      few_emit _ s h (Reduction at attribute by initial (Some number) chunk it value) w =
          let e = courses it in
          less (omega (arith, e)) (join (few_emit _ s h initial w.1) (after (flat (λ q. refl)) (after (flat (λ q. refl)) (join (few_chunk _ (nested (taking 1 s)) h chunk w.2) (join (few_course _ _ (taking 2 (nested (taking 1 s))) h it w.3) (after (few_ends (taking 2 (nested (taking 1 s))) h it) (before (after (flat (λ q. refl)) (after (flat (λ q. refl)) (after (flat (λ q. refl)) (join forked (apart (after (flat (λ q. refl)) (before (few_threaded _ _ (thread_scope number s) 1 chunk (s.free + 1 + 1 + 1) it w.3 (λ u. before (few_emit _ u 1 value w.4) (few_folding u 0 by))) (flat (λ q. refl))))))))) (after (flat (λ q. refl)) (few_combined (taking 2 (taking 2 (taking 1 s))) h by)))))))))

      few_optional_then : (o : Option ℕ) (s : Scope) (h : ℕ) (filter : Optional) {b : Emit} {n : ℕ} → SitedOptional program o filter → Few b n → Few (filtered program s h filter b) (in_optional site filter + n)
      few_optional_then _ s h Absent w f = less (omega arith) f
      few_optional_then _ s h (Present e) w f = join (few_emit _ s h e w) (perhaps f)

      few_value : (o : Option ℕ) (s : Scope) (h : ℕ) (n : Option Named) (x : Selections) → SitedSelections program o x → Few (named_value program s h n x) (in_selections site x)
      few_value _ s h n Whole w = few_named s h n
      few_value _ s h n (Field number offset rest) w = after (few_address s h n) (after (flat (λ q. refl)) (few_read _ s (h + 1) rest w))
      few_value _ s h n (Index at e low high stride rest) w =
          choice (is_whole rest) (less (omega arith) (few_component_value s h n (main_named n) (own_cell s e) low high stride (few_emit _ s (h + 1) e w.0)))
          (join (few_component_address s h n (main_named n) (own_cell s e) low high stride (few_emit _ s (h + 1) e w.0)) (few_read _ s (h + 1) rest w.1))

      few_selected : (o : Option ℕ) (s : Scope) (h : ℕ) (x : Selections) → SitedSelections program o x → Few (selected program s h x) (in_selections site x)
      few_selected _ s h Whole w = flat (λ q. refl)
      few_selected _ s h (Field number offset rest) w = after (flat (λ q. refl)) (few_selected _ s h rest w)
      few_selected _ s h (Index at e low high stride rest) w = join (few_indexed s h (own_cell s e) low high stride (few_emit _ s h e w.0)) (few_selected _ s h rest w.1)

      few_read : (o : Option ℕ) (s : Scope) (h : ℕ) (x : Selections) → SitedSelections program o x → Few (read program s h x) (in_selections site x)
      few_read _ s h Whole w = flat (λ q. refl)
      few_read _ s h (Field number offset rest) w = after (flat (λ q. refl)) (few_read _ s h rest w)
      few_read _ s h (Index at e low high stride rest) w =
          choice (is_whole rest) (less (omega arith) (few_item s h (own_cell s e) low high stride (few_emit _ s h e w.0))) (join (few_indexed s h (own_cell s e) low high stride (few_emit _ s h e w.0)) (few_read _ s h rest w.1))

      few_passed : (o : Option ℕ) (s : Scope) (h sub n : ℕ) (x : Actuals) → SitedActuals program o x → Few (passed program s h sub n x) (in_actuals site x)
      few_passed _ s h sub n NoActual w = flat (λ q. refl)
      few_passed _ s h sub n (In formal value rest) w = join (few_into _ s h _ value w.0) (few_passed _ s h sub n rest w.1)
      few_passed _ s h sub n (InOut formal at r selections inner outer rest) w = join (after (few_address s h (root_of s r)) (before (few_selected _ s (h + 1) selections w.0) (after (flat (λ q. refl)) (after (flat (λ q. refl)) (after (flat (λ q. refl)) (few_keep_checked s (h + 1) _ inner)))))) (few_passed _ s h sub n rest w.1)
      few_passed _ s h sub n (Out formal at r selections inner outer rest) w = join (after (few_address s h (root_of s r)) (before (few_selected _ s (h + 1) selections w.0) (flat (λ q. refl)))) (few_passed _ s h sub n rest w.1)
      few_passed _ s h sub n (CompositeInOut formal at r selections subtype rest) w =
          join (after (flat (λ q. refl)) (after (few_address s (h + 1) (root_of s r)) (before (few_selected _ s (h + 1 + 1) selections w.0) (flat (λ q. refl))))) (few_passed _ s h sub n rest w.1)
      few_passed _ s h sub n (CompositeOut formal at r selections subtype rest) w =
          join (after (flat (λ q. refl)) (after (few_address s (h + 1) (root_of s r)) (before (few_selected _ s (h + 1 + 1) selections w.0) (flat (λ q. refl))))) (few_passed _ s h sub n rest w.1)

      few_into : (o : Option ℕ) (s : Scope) (h t : ℕ) (x : Value) → SitedValue program o x → Few (put_into program s h t x) (in_value site x)
      few_into _ s h t (Number check e) w = before (few_emit _ s h e w) (few_keep_checked s (h + 1) t check.scalar)
      few_into _ s h t (Cells c) w = few_composed _ s h t c w

      few_composed : (o : Option ℕ) (s : Scope) (h t : ℕ) (x : Composite) → SitedComposite program o x → Few (composed program s h t x) (in_composite site x)
      few_composed _ s h t (WholeVariable at r selections subtype) w = after (flat (λ q. refl)) (after (few_address s (h + 1) (root_of s r)) (before (few_selected _ s (h + 1 + 1) selections w) (flat (λ q. refl))))
      few_composed _ s h t (WholeConstant at r selections subtype) w = after (flat (λ q. refl)) (after (few_address s (h + 1) (constant_root_of s r)) (before (few_selected _ s (h + 1 + 1) selections w) (flat (λ q. refl))))
      few_composed _ s h t (WholeTarget at subtype) w = after (flat (λ q. refl)) (after (few_address s (h + 1) s.target) (flat (λ q. refl)))
      few_composed _ s h t (CompositeIf condition value otherwise) w = join (few_emit _ s h condition w.0) (either (few_composed _ s h t value w.1) (few_composed _ s h t otherwise w.2))
      few_composed _ s h t (Aggregate at size associations) w = after (flat (λ q. refl)) (after (flat (λ q. refl)) (few_associated _ s h t associations w))

      few_associated : (o : Option ℕ) (s : Scope) (h t : ℕ) (x : Associations) → SitedAssociations program o x → Few (associated program s h t x) (in_associations site x)
      few_associated _ s h t NoAssociation w = flat (λ q. refl)
      few_associated _ s h t (Association runs None mentions value rest) w =
          join
          (also (in_exprs site mentions) (few_given s h t runs value (is_repeated runs value) refl (few_component _ (taking 2 s) h (s.free + 1) value w.0) (λ n. few_into _ s h n value w.0)))
          (few_associated _ s h t rest w.1)
      few_associated _ s h t (Association runs (Some x) mentions value rest) w =
          join (also (in_exprs site mentions) (few_turnings s h t x.first (few_component _ (iterated_scope s x.parameter) (turn_height runs h) (s.free + 1 + 1) value w.0) runs)) (few_associated _ s h t rest w.1)

      few_component : (o : Option ℕ) (s : Scope) (h at : ℕ) (x : Value) → SitedValue program o x → Few (component program s h at x) (in_value site x)
      few_component _ s h at (Number check e) w = after (flat (λ q. refl)) (before (few_emit _ s (h + 1) e w) (after (few_checked s (h + 1 + 1) check.scalar) (flat (λ q. refl))))
      few_component _ s h at (Cells c) w = before (few_composed _ (taking (composite_width program c) s) h s.free c w) (flat (λ q. refl))

      few_iterated : (o p : Option ℕ) (s : Scope) (h : ℕ) (number : Option ℕ) (it : Iteration) {f : Scope → Emit} {n : ℕ} → SitedIteration program o p it → ((u : Scope) → Few (f u) n) → Few (iterated program s h number it f) (in_iteration site it + n)
      few_iterated _ _ s h number (Range k reverse low high check filter) w f = less (omega arith) (join (few_emit _ s h low w.0) (after (flat (λ q. refl)) (join (few_emit _ (taking 1 s) h high w.1) (after (flat (λ q. refl)) (after (flat (λ q. refl)) (perhaps (after (few_bounds s h s.free check) (looping (λ x. after (flat (λ q. refl)) (few_optional_then _ _ h filter w.2 (f _))) (λ x. few_counting s h reverse s.free x)))))))))
      few_iterated _ _ s h number (Components k constant at r selections count stride dimensions filter) w f = less (omega arith) (join (after (few_address s h (array_root_of constant s r)) (before (few_selected _ s (h + 1) selections w.0) (flat (λ q. refl)))) (choice (nat_eq count 0) (some (flat (λ q. refl))) (after (flat (λ q. refl)) (after (flat (λ q. refl)) (after (flat (λ q. refl)) (after (flat (λ q. refl)) (looping (λ x. after (flat (λ q. refl)) (few_optional_then _ _ h filter w.1 (f _))) (λ x. flat (λ q. refl)))))))))

      few_chunk : (o : Option ℕ) (s : Scope) (h : ℕ) (x : Chunk) → SitedChunk program o x → Few (chunk_code program s h x) (in_chunk site x)
      few_chunk _ s h NoChunk w = flat (λ q. refl)
      few_chunk _ s h (Count e) w = after (flat (λ q. refl)) (after (flat (λ q. refl)) (before (few_emit _ (taking 1 s) h e w) (flat (λ q. refl))))
      few_chunk _ s h (Each k low high check) w =
          join (few_emit _ s h low w.0) (after (flat (λ q. refl)) (before (few_emit _ (taking 1 s) h high w.1) (after (flat (λ q. refl)) (after (flat (λ q. refl)) (after (few_bounds s h s.free check) (flat (λ q. refl)))))))

      few_course : (o p : Option ℕ) (s : Scope) (h : ℕ) (it : Iteration) → SitedIteration program o p it → Few (course_code program s h it) (in_course it)
      few_course _ _ s h (Range k reverse low high check filter) w =
          join (few_emit _ s h low w.0) (after (flat (λ q. refl)) (before (few_emit _ (taking 1 s) h high w.1) (after (flat (λ q. refl)) (after (flat (λ q. refl)) (perhaps (few_bounds s h s.free check))))))
      few_course _ _ s h (Components k constant at r selections count stride dimensions filter) w = after (few_address s h (array_root_of constant s r)) (before (few_selected _ s (h + 1) selections w.0) (flat (λ q. refl)))

      few_threaded : (o p : Option ℕ) (t : Scope) (h : ℕ) (chunk : Chunk) (outer : ℕ) (it : Iteration) {f : Scope → Emit} {n : ℕ} → SitedIteration program o p it → ((u : Scope) → Few (f u) n) → Few (threaded program t h chunk outer it f) (in_filter it + n)
      few_threaded _ _ t h chunk outer (Range k reverse low high check filter) w f = after (flat (λ q. refl)) (perhaps (looping (λ x. after (flat (λ q. refl)) (few_optional_then _ _ h filter w.2 (f _))) (λ x. flat (λ q. refl))))
      few_threaded _ _ t h chunk outer (Components k constant at r selections count stride dimensions filter) w f = after (flat (λ q. refl)) (perhaps (after (flat (λ q. refl)) (after (flat (λ q. refl)) (after (flat (λ q. refl)) (after (flat (λ q. refl)) (looping (λ x. after (flat (λ q. refl)) (few_optional_then _ _ h filter w.1 (f _))) (λ x. flat (λ q. refl))))))))

    -- ---- statements

    few_store_checked : (s : Scope) (x : Scalar) (level : Level) (n : ℕ) → Few (store_checked s x level n) 0
    few_store_checked s x Own n = of_set (λ j. Few (one s 1 j) 0) x n (flat (λ q. refl)) (flat (λ q. refl))
    few_store_checked s x level n = after (few_checked s 1 x) (few_store_at s 1 level n)

    few_assigned : (s : Scope) (n : Option Named) (whole : Bool) (x : Scalar) {moved : Emit} {value : Scope → ℕ → Emit} {m k : ℕ} → Few moved m → ((t : Scope) (h : ℕ) → Few (value t h) k) → Few (assigned s n whole x moved value) (m + k)
    few_assigned s None whole x f g = some (flat (λ q. refl))
    few_assigned s (Some n) whole x {m = m} f g =
        choice (whole && not n.through) (also m (before (g _ 0) (few_store_checked s x n.place.level n.place.cell)))
        (after (few_address_of s 0 n) (join f (after (flat (λ q. refl)) (after (flat (λ q. refl)) (before (g _ 1) (after (few_checked s (1 + 1) x) (flat (λ q. refl))))))))

    few_chosen : (s : Scope) (d : ℕ) (rs : List Span) → Few (chosen s d rs) 0
    few_chosen s d [] = flat (λ q. refl)
    few_chosen s d (r ∷ rs) = after (flat (λ q. refl)) (either (flat (λ q. refl)) (few_chosen s d rs))

    few_reasons : (s : Scope) (d : ℕ) (rs : List Reason) → Few (has_reason s d rs) 0
    few_reasons s d [] = flat (λ q. refl)
    few_reasons s d (r ∷ rs) = after (flat (λ q. refl)) (either (flat (λ q. refl)) (few_reasons s d rs))

    few_handled_by : (x : Handled) {a b : Emit} (s : Scope) (d : ℕ) {m n : ℕ} → Few a m → Few b n → Few (handled_by x a b s d) (m + n)
    few_handled_by Others s d f g = less (omega arith) f
    few_handled_by (Reasons reasons) s d f g = after (few_reasons s d reasons) (either f g)

    few_returning : (s : Scope) (h : ℕ) (w : Leaving) → Few (returning s h w) 0
    few_returning s h ByReturn = flat (λ q. refl)
    few_returning s h ByValue = flat (λ q. refl)
    few_returning s h ByEnd = flat (λ q. refl)
    few_returning s h ByLeave = flat (λ q. refl)

    few_returning_value : (s : Scope) (w : Leaving) → Few (returning_value s w) 0
    few_returning_value s ByReturn = flat (λ q. refl)
    few_returning_value s ByValue = flat (λ q. refl)
    few_returning_value s ByEnd = flat (λ q. refl)
    few_returning_value s ByLeave = flat (λ q. refl)

    few_away : (s : Scope) (n : ℕ) (b : Body) → Few (away s n b) 0
    few_away s n (body.Sub k) = flat (λ q. refl)
    few_away s n (body.Site k) = flat (λ q. refl)

    few_exiting : (s : Scope) (n : ℕ) (to : Option ℕ) → Few (exiting s n to) 0
    few_exiting s n None = few_away s n s.body
    few_exiting s n (Some to) = flat (λ q. refl)

    few_handled : (s : Scope) (w : Option Where) → Few (handled_target s w) 0
    few_handled s None = flat (λ q. refl)
    few_handled s (Some w) = after (few_load_at s 0 w.level w.cell) (flat (λ q. refl))

    few_image : (s : Scope) (class : Class) → Few (one s 1 (image_instr class)) 0
    few_image s class.Boolean = flat (λ q. refl)
    few_image s (class.Integer Narrow) = flat (λ q. refl)
    few_image s (class.Integer Wide) = flat (λ q. refl)
    few_image s (class.Integer (Modulo d)) = flat (λ q. refl)
    few_image s class.Universal = flat (λ q. refl)

    few_send : (s : Scope) (line : Bool) → Few (one s 0 (send_instr line)) 0
    few_send s true = flat (λ q. refl)
    few_send s false = flat (λ q. refl)

    few_texts : (s : Scope) (d : ℕ) (x : Pieces) → Few (piece_texts s d x) 0
    few_texts s d NoPiece = flat (λ q. refl)
    few_texts s d (Text bytes rest) = after (flat (λ q. refl)) (few_texts s d rest)
    few_texts s d (Image class e rest) = after (flat (λ q. refl)) (after (few_image s class) (few_texts s (d + 1) rest))
    few_texts s d (Padded class e most rest) = after (flat (λ q. refl)) (after (flat (λ q. refl)) (few_texts s (d + 1) rest))

    few_exit_code : (s : Scope) (d : ℕ) (number : Option ℕ) (n : ℕ) → Few (exit_code s d number n) 0
    few_exit_code s d number n = choice (is_own number n) (flat (λ q. refl)) (after (flat (λ q. refl)) (perhaps (few_exiting s n (s.exits n))))

    few_exits : (s : Scope) (d : ℕ) (number : Option ℕ) (ns : List ℕ) → Few (exits_code s d number ns) 0
    few_exits s d number [] = flat (λ q. refl)
    few_exits s d number (n ∷ ns) = after (few_exit_code s d number n) (few_exits s d number ns)

    few_left : (s : Scope) (number : Option ℕ) (ns : List ℕ) → Few (left_code s number ns) 0
    few_left s number ns = after (flat (λ q. refl)) (after (flat (λ q. refl)) (after (flat (λ q. refl)) (perhaps (after (after (flat (λ q. refl)) (after (perhaps (few_returning s 0 s.leaving)) (after (flat (λ q. refl)) (perhaps (after (flat (λ q. refl)) (few_returning_value s s.leaving)))))) (few_exits s s.free number ns)))))

    few_fields : (within : ℕ → ℕ → Emit) (t : ℕ) (fs : List Part) → ((t n : ℕ) → Few (within t n) 0) → Few (field_defaults program within t fs) 0
    few_fields within t [] f = flat (λ q. refl)
    few_fields within t (x ∷ fs) f = after (f t x.subtype) (few_fields within (t + cells_of program x.subtype) fs f)

    few_default_of : (s : Scope) (within : ℕ → ℕ → Emit) (t : ℕ) (x : Option Subtype) → ((t n : ℕ) → Few (within t n) 0) → Few (default_of program s within t x) 0
    few_default_of s within t None f = flat (λ q. refl)
    few_default_of s within t (Some (OfScalar k)) f = flat (λ q. refl)
    few_default_of s within t (Some (Array dimensions part)) f = after (f t part) (few_doubled s 0 t (cells_of program part) (components dimensions) 1 (components dimensions))
    few_default_of s within t (Some (Record fs)) f = few_fields within t fs f

    few_defaults : (s : Scope) (levels t number : ℕ) → Few (defaults_within program s levels t number) 0
    few_defaults s zero t number = flat (λ q. refl)
    few_defaults s (suc levels) t number = few_default_of s (defaults_within program s levels) t (slice_get program.subtypes number) (λ t n. few_defaults s levels t n)

    few_defaulted : (s : Scope) (t x : ℕ) → Few (defaulted program s t x) 0
    few_defaulted s t x = few_defaults (taking (length (object_layout program x)) s) (length program.subtypes) t (subtype_or_none program (slice_get program.objects x))

    few_declared : (o : Option ℕ) (s : Scope) (decls : Decls) {f : Scope → Emit} {n : ℕ} → SitedDecls program o decls → ((u : Scope) → Few (f u) n) → Few (declared program s decls f) (in_decls site decls + n)
    few_declared _ s NoDecl w f = less (omega arith) (f s)
    few_declared _ s (DeclareDefault x more) w f = after (few_defaulted s s.free x) (few_declared _ (object_here s (VariableOf x) (length (object_layout program x))) more w f)
    few_declared _ s (DeclareVariable x initial more) w f = less (omega arith) (join (few_into _ (taking (width program initial) s) 0 s.free initial w.0) (few_declared _ (object_here s (VariableOf x) (width program initial)) more w.1 f))
    few_declared _ s (DeclareConstant x initial more) w f = less (omega arith) (join (few_into _ (taking (width program initial) s) 0 s.free initial w.0) (few_declared _ (object_here s (ConstantOf x) (width program initial)) more w.1 f))
    few_declared _ s (Mentions es more) w f = less (omega arith) (few_declared _ s more w f)

    few_back : (s : Scope) (sub w : ℕ) (x : Actuals) → Few (back_code program s sub w x) 0
    unfolding back_code
    few_back s sub w NoActual = flat (λ q. refl)
    few_back s sub w (In formal value rest) = few_back s sub w rest
    few_back s sub w (InOut formal at r selections inner outer rest) = after (after (flat (λ q. refl)) (after (flat (λ q. refl)) (after (few_checked s 2 outer) (flat (λ q. refl))))) (few_back s sub w rest)
    few_back s sub w (Out formal at r selections inner outer rest) = after (after (flat (λ q. refl)) (after (flat (λ q. refl)) (after (few_checked s 2 outer) (flat (λ q. refl))))) (few_back s sub w rest)
    few_back s sub w (CompositeInOut formal at r selections subtype rest) = after (flat (λ q. refl)) (few_back s sub w rest)
    few_back s sub w (CompositeOut formal at r selections subtype rest) = after (flat (λ q. refl)) (few_back s sub w rest)

    few_pieces : (o : Option ℕ) (s : Scope) (x : Pieces) → SitedPieces program o x → Few (piece_values program s x) (in_pieces site x)
    unfolding piece_values
    few_pieces _ s NoPiece w = flat (λ q. refl)
    few_pieces _ s (Text bytes rest) w = few_pieces _ s rest w.1
    few_pieces _ s (Image class e rest) w = join (few_emit _ s 0 e w.0) (after (flat (λ q. refl)) (few_pieces _ (taking 1 s) rest w.1))
    few_pieces _ s (Padded class e most rest) w = less (omega arith) (join (few_emit _ s 0 e w.0) (after (flat (λ q. refl)) (few_pieces _ (taking 1 s) rest w.1)))

    few_count : (o : Option ℕ) (s : Scope) (h : ℕ) (x : Optional) → SitedOptional program o x → Few (chunk_code program s h (chunk_by program x)) (in_optional site x)
    few_count _ s h Absent w = few_chunk None s h NoChunk tt
    few_count _ s h (Present e) w = few_chunk _ s h (Count e) w

    mutual
      unfolding stmt

      few_stmt : (o : Option ℕ) (s : Scope) (x : Stmt) → SitedStmt program o x → Few (stmt program s x) (in_stmt site x)
      few_stmt _ s Null w = flat (λ q. refl)
      few_stmt _ s (Assign at r selections (Number check e)) w = few_assigned s (root_of s r) (is_whole selections) check.scalar (few_selected _ s 1 selections w.0) (λ t h. few_emit _ t h e w.1)
      few_stmt _ s (Assign at r selections (Cells c)) w =
          after (few_address s 0 (root_of s r)) (join (few_selected _ s 1 selections w.0) (after (flat (λ q. refl)) (before (few_composed _ _ 0 (s.free + 1) c w.1) (flat (λ q. refl)))))
      few_stmt _ s (CallProcedure at callee sub actuals) w = before (few_passed _ (passing program sub s) 0 sub s.free actuals w) (after (flat (λ q. refl)) (few_back s sub s.free actuals))
      few_stmt _ s (Exit n Absent) w = few_exiting s n (s.exits n)
      few_stmt _ s (Exit n (Present e)) w = before (few_emit _ s 0 e w) (perhaps (few_exiting s n (s.exits n)))
      few_stmt _ s Return w = few_returning s 0 s.leaving
      few_stmt _ s (ReturnValue (Number check e)) w = before (few_emit _ s 0 e w) (after (few_checked s 1 check.scalar) (few_returning_value s s.leaving))
      few_stmt _ s (ReturnValue (Cells c)) w = some (flat (λ q. refl))
      few_stmt _ s (Raise reason) w = flat (λ q. refl)
      few_stmt _ s Reraise w = few_handled s s.handled
      few_stmt _ s (IfThen condition stmts otherwise) w = join (few_emit _ s 0 condition w.0) (choice (is_end otherwise) (less (omega arith) (perhaps (few_all _ s stmts w.1))) (either (few_all _ s stmts w.1) (few_all _ s otherwise w.2)))
      few_stmt _ s (Case e alternatives) w = join (few_emit _ s 0 e w.0) (after (flat (λ q. refl)) (few_cases _ (taking 1 s) s.free alternatives w.1))
      few_stmt _ s (Loop number Absent stmts) w = less (omega arith) (looping (λ x. after (flat (λ q. refl)) (few_all _ (with_exit number x s) stmts w.1)) (λ x. flat (λ q. refl)))
      few_stmt _ s (Loop number (Present e) stmts) w = less (omega arith) (around (λ x. after (flat (λ q. refl)) (few_all _ (with_exit number x s) stmts w.1)) (λ x. before (few_emit _ s 0 e w.0) (flat (λ q. refl))))
      few_stmt _ s (For number it stmts) w = few_iterated _ _ s 0 (Some number) it w.0 (λ u. few_all _ u stmts w.1)
      few_stmt _ s (ParallelFor number k chunk it stmts) w =
          let e = courses it in
          less (omega (arith, e)) (after (flat (λ q. refl)) (join (few_chunk _ (nested s) 0 chunk w.1) (join (few_course _ _ (taking 2 (nested s)) 0 it w.2) (after (few_ends (taking 2 (nested s)) 0 it) (before (after (flat (λ q. refl)) (after (flat (λ q. refl)) (after (flat (λ q. refl)) (join forked (apart (before (few_threaded _ _ (thread_scope k s) 0 chunk (s.free + 1 + 1) it w.2 (λ u. few_all _ u stmts w.3)) (flat (λ q. refl)))))))) (after (flat (λ q. refl)) (few_left (taking 2 (taking 2 s)) (Some number) (exits_of stmts))))))))
      few_stmt _ s (Parallel k count arms) w = less (omega arith) (after (flat (λ q. refl)) (join (few_count _ (nested s) 0 count w.1) (after (flat (λ q. refl)) (after (flat (λ q. refl)) (before (after (flat (λ q. refl)) (after (flat (λ q. refl)) (after (flat (λ q. refl)) (join forked (apart (before (few_arms _ (arm_scope program s k) 0 arms w.2) (flat (λ q. refl)))))))) (after (flat (λ q. refl)) (few_left (taking 2 s) None (arm_exits arms))))))))
      few_stmt _ s (Block decls stmts handlers) w = few_declared _ s decls w.0 (λ u. choice (no_handler handlers) (less (omega arith) (few_all _ u stmts w.1)) (held (λ x. few_all _ (with_entry x u) stmts w.1) (after (flat (λ q. refl)) (few_handling _ _ u.free handlers w.2))))
      few_stmt _ s (Put at callee pieces line) w = before (few_pieces _ s pieces w) (after (few_texts s s.free pieces) (few_send s line))
      few_stmt _ s (Get at callee first r selections scalar) w = after (few_address s 0 (root_of s r)) (before (few_selected _ s 1 selections w) (after (flat (λ q. refl)) (after (few_checked s 2 scalar) (flat (λ q. refl)))))

      few_all : (o : Option ℕ) (s : Scope) (x : Stmts) → SitedAll program o x → Few (all program s x) (in_stmts site x)
      few_all _ s End w = flat (λ q. refl)
      few_all _ s (Then first more) w = join (few_stmt _ s first w.0) (few_all _ s more w.1)

      few_cases : (o : Option ℕ) (s : Scope) (d : ℕ) (x : Alternatives) → SitedAlternatives program o x → Few (cases program s d x) (in_alternatives site x)
      few_cases _ s d NoAlternative w = flat (λ q. refl)
      few_cases _ s d (Alternative true choices mentions stmts rest) w = less (omega arith) (few_all _ s stmts w.0)
      few_cases _ s d (Alternative false choices mentions stmts rest) w = less (omega arith) (after (few_chosen s d choices) (either (few_all _ s stmts w.0) (few_cases _ s d rest w.1)))

      few_handling : (o : Option ℕ) (s : Scope) (d : ℕ) (x : Handlers) → SitedHandlers program o x → Few (handling program s d x) (in_handlers site x)
      few_handling _ s d NoHandler w = flat (λ q. refl)
      few_handling _ s d (Handler handled stmts rest) w = few_handled_by handled s d (few_all _ s stmts w.0) (few_handling _ s d rest w.1)

      few_arms : (o : Option ℕ) (s : Scope) (n : ℕ) (x : Arms) → SitedArms program o x → Few (arms_code program s n (arm_codes program s x)) (in_arms site x)
      few_arms _ s n NoArm w = flat (λ q. refl)
      few_arms _ s n (Arm stmts rest) w = join (after (flat (λ q. refl)) (perhaps (few_all _ s stmts w.0))) (few_arms _ s (n + 1) rest w.1)

    -- ---- bodies

    few_ending : (s : Scope) (o : Option Scalar) → Few (code.ending s o) 0
    few_ending s None = flat (λ q. refl)
    few_ending s (Some k) = flat (λ q. refl)

    few_subs : (s : Scope) (n : ℕ) (us : List Sub) → SitedSubs program us → Few (code.subs_code program s n us) (in_subs site us)
    few_subs s n [] w = flat (λ q. refl)
    few_subs s n (unit ∷ more) w =
        let u : Scope = code.sub_scope program s n unit in
        join (before (few_stmt None u (Block unit.body.decls unit.body.stmts unit.body.handlers) w.0) (few_ending u unit.result)) (few_subs s (n + 1) more w.1)

    few_main : (s : Scope) (decls : Decls) → SitedDecls program None decls → IsSited program → Few (code.main_declared program s decls (λ u. code.behind_main program u)) (in_decls site decls + (in_stmts site program.body.stmts + in_handlers site program.body.handlers + in_subs site program.subs))
    few_main s NoDecl w whole = less (omega arith) (join (before (few_stmt None s (Block NoDecl program.body.stmts program.body.handlers) (tt, whole.0.1, whole.0.2)) (flat (λ q. refl))) (few_subs s 0 program.subs whole.1))
    few_main s (DeclareDefault x more) w whole = after (few_defaulted s s.free x) (few_main (code.main_object s (VariableOf x) (length (object_layout program x))) more w whole)
    few_main s (DeclareVariable x initial more) w whole = less (omega arith) (join (few_into _ (taking (width program initial) s) 0 s.free initial w.0) (few_main (code.main_object s (VariableOf x) (width program initial)) more w.1 whole))
    few_main s (DeclareConstant x initial more) w whole = less (omega arith) (join (few_into _ (taking (width program initial) s) 0 s.free initial w.0) (few_main (code.main_object s (ConstantOf x) (width program initial)) more w.1 whole))
    few_main s (Mentions es more) w whole = less (omega arith) (few_main s more w whole)

    pub few_code : IsSited program → (text : List ℕ → ℕ) → Few (code.program_code program text) (in_program site program)
    few_code w text =
        let b = program.body in
        let z : in_decls site b.decls + (in_stmts site b.stmts + in_handlers site b.handlers + in_subs site program.subs) ≤ in_subs site program.subs + (in_decls site b.decls + (in_stmts site b.stmts + in_handlers site b.handlers)) = omega arith in
        less z (few_main (code.main_scope text) program.body.decls w.0.0 w)

  -- ---- forks that no run comes to

  number_same : in_number site site ≡ 1
  number_same = ap (λ b. cond b 1 0) (eq-eqb site site refl)

  number_other : (k : ℕ) → (k ≡ site → ⊥) → in_number site k ≡ 0
  number_other k other = ap (λ b. cond b 1 0) (ne_eqb k site other)

  no_fork_of : (j : Instr) → is_fork site j ≡ false → fork_of j ≡ 0
  no_fork_of (i.Fork k) e = number_other k (λ same. true≢false (sym (eq-eqb site k (sym same)) ∙ e))
  no_fork_of j e = refl

  fork_of_one : (j : Instr) → j ≡ i.Fork site → fork_of j ≡ 1
  fork_of_one j e = ap fork_of e ∙ number_same

  fork_is : (j : Instr) → is_fork site j ≡ true → j ≡ i.Fork site
  fork_is (i.Fork k) e = ap i.Fork (sym (eqb-true site k e))
  fork_is j e = absurd (true≢false (sym e))

  none_in : (ps : List Placed) → has_fork site ps ≡ false → forks_in ps ≡ 0
  none_in [] e = refl
  none_in (p ∷ ps) e = go (is_fork site p.instr) refl e (none_in ps)
    where
      go : (b : Bool) → is_fork site p.instr ≡ b → cond b true (has_fork site ps) ≡ false → (has_fork site ps ≡ false → forks_in ps ≡ 0) → fork_of p.instr + forks_in ps ≡ 0
      go true eb e more = absurd (true≢false e)
      go false eb e more = let y = no_fork_of p.instr eb in let z = more e in omega (arith, y, z)

  -- where one stands
  abbrev There : List Placed → Type 0
  There ps = (q : ℕ) × (p : Placed) × (slice_get ps q ≡ Some p) × (p.instr ≡ i.Fork site)

  there_in : (ps : List Placed) → has_fork site ps ≡ true → There ps
  there_in [] e = absurd (true≢false (sym e))
  there_in (p ∷ ps) e = go (is_fork site p.instr) refl e (there_in ps)
    where
      go : (b : Bool) → is_fork site p.instr ≡ b → cond b true (has_fork site ps) ≡ true → (has_fork site ps ≡ true → There ps) → There (p ∷ ps)
      go true eb e more = (0, p, refl, fork_is p.instr eb)
      go false eb e more = let (q, x, is, fork) = more e in (suc q, x, is, fork)

  there_left : (xs ys : List Placed) → There xs → There (xs ++ ys)
  there_left [] ys (q, p, is, fork) = absurd (none-some p is)
  there_left (x ∷ xs) ys (zero, p, is, fork) = (zero, p, is, fork)
  there_left (x ∷ xs) ys (suc q, p, is, fork) = let (k, y, ik, fk) = there_left xs ys (q, p, is, fork) in (suc k, y, ik, fk)

  there_right : (xs ys : List Placed) → There ys → There (xs ++ ys)
  there_right [] ys w = w
  there_right (x ∷ xs) ys w = let (k, y, ik, fk) = there_right xs ys w in (suc k, y, ik, fk)

  counts : (ps : List Placed) → There ps → 1 ≤ forks_in ps
  counts [] (q, p, is, fork) = absurd (none-some p is)
  counts (x ∷ ps) (zero, p, is, fork) = let z = fork_of_one x.instr (ap (λ p. p.instr) (some_same x p is) ∙ fork) in omega (arith, z)
  counts (x ∷ ps) (suc q, p, is, fork) = let z = counts ps (q, p, is, fork) in omega (arith, z)

  -- where there is one at most, it stands at one place
  one_place : (ps : List Placed) → forks_in ps ≤ 1 → (q r : ℕ) (x y : Placed) → slice_get ps q ≡ Some x → slice_get ps r ≡ Some y → x.instr ≡ i.Fork site → y.instr ≡ i.Fork site → q ≡ r
  one_place [] le q r x y ex ey fx fy = absurd (none-some x ex)
  one_place (p ∷ ps) le zero zero x y ex ey fx fy = refl
  one_place (p ∷ ps) le zero (suc r) x y ex ey fx fy = absurd (let a = fork_of_one p.instr (ap (λ p. p.instr) (some_same p x ex) ∙ fx) in let b = counts ps (r, y, ey, fy) in omega (arith, le, a, b))
  one_place (p ∷ ps) le (suc q) zero x y ex ey fx fy = absurd (let a = fork_of_one p.instr (ap (λ p. p.instr) (some_same p y ey) ∙ fy) in let b = counts ps (q, x, ex, fx) in omega (arith, le, a, b))
  one_place (p ∷ ps) le (suc q) (suc r) x y ex ey fx fy = ap suc (one_place ps (omega (arith, le)) q r x y ex ey fx fy)

  module _ (s : Scope) (ps : List Placed) where
    few_idle : (k : ℕ) → Few (idle_fork s k) (in_number site k)
    few_idle k = before forked (flat (λ q. refl))

    -- those of other constructs have none
    idle_others : (n : ℕ) (rows : List Row) → ((k : ℕ) → n ≤ k → k < n + length rows → k ≡ site → ⊥) → Few (idle_forks s ps n rows) 0
    idle_others n [] other = flat (λ q. refl)
    idle_others n (x ∷ more) other =
        let absent : in_number site n ≡ 0 = number_other n (other n (omega arith) (omega arith)) in
        after (choice (has_fork n ps) (flat (λ q. refl)) (less (omega (arith, absent)) (few_idle n))) (idle_others (n + 1) more (λ k low high. other k (omega (arith, low)) (omega (arith, high))))

    -- one that is there already has none, and another has one
    idle_once : (n : ℕ) (rows : List Row) (b : Bool) → has_fork site ps ≡ b → Few (idle_forks s ps n rows) (cond b 0 1)
    idle_once n [] b e = some (flat (λ q. refl))
    idle_once n (x ∷ more) b e = ⊎_elim here (λ other. let absent : in_number site n ≡ 0 = number_other n other in after (choice (has_fork n ps) (flat (λ q. refl)) (less (omega (arith, absent)) (few_idle n))) (idle_once (n + 1) more b e)) (cases_eq n site)
      where
        first : (c : Bool) → c ≡ b → n ≡ site → Few (cond c none (idle_fork s n)) (cond b 0 1)
        first true eb same = some (flat (λ q. refl))
        first false eb same = subst (λ b. Few (idle_fork s n) (cond b 0 1)) eb (let one : in_number site n ≡ 1 = ap (λ n. in_number site n) same ∙ number_same in less (omega (arith, one)) (few_idle n))

        here : n ≡ site → Few (idle_forks s ps n (x ∷ more)) (cond b 0 1)
        here same = before (first (has_fork n ps) (ap (λ n. has_fork n ps) same ∙ e) same) (idle_others (n + 1) more (λ k low high is. omega (arith, low, same, is)))

    apart_lt : (m n : ℕ) → m ≤ n → (m ≡ n → ⊥) → m < n
    apart_lt m n le other = ⊎_elim (λ lt. lt) (λ ge. absurd (other (omega (arith, le, ge)))) (cases_lt m n)

    idle_here : (n q : ℕ) (b : Bool) → b ≡ false → n ≡ site → There (listed (cond b none (idle_fork s n)) q)
    idle_here n q true e same = absurd (true≢false e)
    idle_here n q false e same = (0, _, refl, ap i.Fork same)

    -- one without a fork is among them
    idle_there : (n : ℕ) (rows : List Row) (q : ℕ) → has_fork site ps ≡ false → n ≤ site → site < n + length rows → There (listed (idle_forks s ps n rows) q)
    idle_there n [] q e low high = absurd (let z : site < n + 0 = high in omega (arith, low, z))
    idle_there n (x ∷ more) q e low high =
        let first : List Placed = listed (cond (has_fork n ps) none (idle_fork s n)) q in
        ⊎_elim (λ same. there_left first _ (idle_here n q (has_fork n ps) (ap (λ n. has_fork n ps) same ∙ e) same))
        (λ other. there_right first _ (idle_there (n + 1) more (q + length first) e (let z = apart_lt n site low other in omega (arith, z)) (let y : site < n + suc (length more) = high in omega (arith, y)))) (cases_eq n site)

-- ---- the forks of a program

module _ (program : Program) where
  abbrev text : List ℕ → ℕ
  text = text_in program

  -- the listing of bodies, and of what no run comes to
  abbrev bodies : List Placed
  bodies = listed (code.program_code program text) 0

  abbrev idle : List Placed
  idle = listed (idle_forks (code.main_scope text) bodies 0 program.sites) (0 + length bodies)

  total : (site : ℕ) → forks_in site (placed_code program) ≡ forks_in site bodies + forks_in site idle
  total site = forks_joined site bodies idle

  one_at_most : IsSited program → SitesAreDistinct program → (site : ℕ) → forks_in site (placed_code program) ≤ 1
  one_at_most sited distinct site = go (has_fork site bodies) refl
    where
      go : (b : Bool) → has_fork site bodies ≡ b → forks_in site (placed_code program) ≤ 1
      go true e =
          let t = total site in
          let a = (few_code site program sited text).few 0 in
          let d = distinct site in
          let n = (idle_once site (code.main_scope text) bodies 0 program.sites true e).few (0 + length bodies) in
          omega (arith, t, a, d, n)
      go false e =
          let t = total site in
          let a = none_in site bodies e in
          let n = (idle_once site (code.main_scope text) bodies 0 program.sites false e).few (0 + length bodies) in
          omega (arith, t, a, n)

  -- each construct has one fork in the code of a program whose constructs have numbers of their own
  pub forks_law : IsSited program → SitesAreDistinct program → HasForks program
  forks_law sited distinct = record {
    once = λ q q' site p p' e e' fork fork'. one_place site (placed_code program) (one_at_most sited distinct site) q q' p p' e e' fork fork';
    each = λ site lt. go site lt (has_fork site bodies) refl;
  }
    where
      go : (site : ℕ) → site < length program.sites → (b : Bool) → has_fork site bodies ≡ b → There site (placed_code program)
      go site lt true e = there_left site bodies idle (there_in site bodies e)
      go site lt false e = there_right site bodies idle (idle_there site (code.main_scope text) bodies 0 program.sites (0 + length bodies) e (omega arith) (omega (arith, lt)))

  -- what is forked is a line of the table of sites
  pub forks_listed : IsSited program → SitesAreListed program → (q site : ℕ) (p : Placed) → slice_get (placed_code program) q ≡ Some p → p.instr ≡ i.Fork site → site < length program.sites
  forks_listed sited rows q site p e fork = ⊎_elim (λ lt. lt) (λ ge. among ge) (cases_lt site (length program.sites))
    where
      among : length program.sites ≤ site → site < length program.sites
      among ge =
          let t = total site in
          let a = (few_code site program sited text).few 0 in
          let n = (idle_others site (code.main_scope text) bodies 0 program.sites (λ k low high is. omega (arith, ge, high, is))).few (0 + length bodies) in
          let one = counts site (placed_code program) (q, p, e, fork) in
          rows site (omega (arith, t, a, n, one))
