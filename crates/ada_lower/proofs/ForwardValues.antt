-- The code of expressions, values, aggregates, actual parameters and iterations is put together forward.
use Rattle.std.proofs.Common.{◌≡◌, ℕ, zero, suc, ◌+◌, ◌-◌, min, max, ℤ, ◌&&◌, List, [], ◌∷◌, nat_eq, nat_lt, Option, Some, None, Bool, true, false, cond, refl, sym, ◌∙◌, inl, inr}
use Rattle.std.proofs.lemmas.Option.{none-some}
use Rattle.ada_meaning.proofs.Cells.{some_same}
use Rattle.ada_base.specs.declared.operation.Op.{Op}
use Rattle.ada_base.specs.declared.operation.Op.TheVariants as op
use Rattle.typed_tree.specs.declared.scalars.Class.{Class}
use Rattle.ada_meaning.specs.Values.{is_modular}
use Rattle.ada_base.specs.declared.operation.Comparison.{Comparison}
use Rattle.ada_base.specs.declared.operation.Comparison.TheVariants as comparison
use Rattle.typed_tree.specs.declared.scalars.Check.{Check}
use Rattle.typed_tree.specs.declared.scalars.Scalar.{Scalar}
use Rattle.typed_tree.specs.declared.expressions.Run.{Run}
use Rattle.typed_tree.specs.declared.expressions.Sign.{Sign}
use Rattle.typed_tree.specs.declared.expressions.Sign.TheVariants as sign
use Rattle.typed_tree.specs.declared.expressions.Reducer.{Reducer}
use Rattle.typed_tree.specs.declared.expressions.Reducer.TheVariants.{Operator, Function}
use Rattle.typed_tree.specs.Syntax.{Expr, Static, Variable, Constant, Parameter, Target, Group, Unary, Binary, AndThen, OrElse, Relation, Membership, If, Call, Convert, Reduction, Iteration, Range, Components, Chunk, NoChunk, Count, Each, Optional, Absent, Present, Selections, Whole, Field, Index, Actuals, NoActual, In, InOut, Out, CompositeInOut, CompositeOut, Value, Number, Cells, Composite, WholeVariable, WholeConstant, WholeTarget, CompositeIf, Aggregate, Associations, NoAssociation, Association, Program}
use Rattle.stack_code.specs.declared.instr.Instr.TheVariants as i
use Rattle.stack_code.specs.Operands.{flow_of}
use Rattle.stack_code.specs.Stands.{IsTarget}
use Rattle.lower_emission.specs.Emits.{Emit, One}
use Rattle.lower_emission.specs.Scope.{Scope, mark_of, keep_checked, own, taking, with_exit, with_parameter, with_item, nested, thread_scope, load_at, address_at, load_of, address_of, none, one, ◌⨟◌, root_of, constant_root_of}
use Rattle.ada_lower.specs.Sights.{Level, Own, Around, Main, Where, Named}
use Rattle.ada_lower.specs.Emission.{emit, named_value, read, selected, passed, put_into, composed, associated, component, filtered, iterated, chunk_code, course_code, threaded, lost, checked, load_by, load, load_named, load_where, address, is_whole, unary_instr, binary_instr, static_instr, operated_by, compare_instr, falsity, truth, within, negated_code, leaving_by, first_parameter, range_scope, item_scope, counting, bounds_code, ascending, stepping, folding, ranged, combined, doubled, filling, fillings, is_plain, is_repeated, iterated_scope, turning, turnings, entering, entering_next, run_steps, run_turnings, turn_height, components_of, locating, locating_in, repeating, width, composite_width, array_root_of, chunk_scope, raise_above, raise_beyond, ends_code, fork_code, turns_code, items_code, turn_range, turn_component, cells_of, formal_of, passing, own_cell, indexed_by, item_by, main_named, component_address, component_value}
use Rattle.lower_emission.proofs.Fused.{of_either, of_check, of_set, of_not, of_operated, of_component_address, of_component_value}
use Rattle.ada_lower.proofs.Forward.{BeginsTurn, Also, Fore}

-- the handler and the exits that are known where code is emitted are landmarks
abbrev pub Known : (ℕ → Type 0) → Scope → Type 0
Known l s = ((e : ℕ) → s.entry ≡ Some e → l e) × ((n : ℕ) (e : ℕ) → s.exits n ≡ Some e → l e)

pub known_more : (l : ℕ → Type 0) (s : Scope) (x : ℕ) → Known l s → Known (λ y. Also l x y) s
known_more l s x k = ((λ e is. inl (k.0 e is)), (λ n e is. inl (k.1 n e is)))

-- the scope of threads has neither
pub known_nothing : (l : ℕ → Type 0) (s : Scope) → s.entry ≡ None → ((n : ℕ) → s.exits n ≡ None) → Known l s
known_nothing l s without away = ((λ e is. absurd (none-some e (sym without ∙ is))), (λ n e is. absurd (none-some e (sym (away n) ∙ is))))

pub known_exit : (l : ℕ → Type 0) (s : Scope) (number x : ℕ) → Known l s → Known (λ y. Also l x y) (with_exit number x s)
known_exit l s number x k = ((λ e is. inl (k.0 e is)), (λ n e is. go (nat_eq number n) n e is))
  where
    go : (b : Bool) (n e : ℕ) → cond b (Some x) (s.exits n) ≡ Some e → Also l x e
    go true n e is = inr (sym (some_same x e is))
    go false n e is = inl (k.1 n e is)

pub known_leaving : (l : ℕ → Type 0) (s : Scope) (number : Option ℕ) (x : ℕ) → Known l s → Known (λ y. Also l x y) (leaving_by number x s)
known_leaving l s None x k = known_more l s x k
known_leaving l s (Some number) x k = known_exit l s number x k

-- ---- instructions that aren't concrete

module _ (l t : ℕ → Type 0) (s : Scope) (k : Known l s) where
  pub fore_load_of : (h : ℕ) (w : Where) → Fore l t (one s h (load_of w))
  fore_load_of h w = ((λ n z. absurd (go w.level n z)), k.0)
    where
      go : (level : Level) (n : ℕ) → IsTarget (flow_of (load_at level w.cell)) n → ⊥
      go Own n z = z
      go (Around j) n z = z
      go Main n z = z

  pub fore_address_of : (h : ℕ) (m : Named) → Fore l t (one s h (address_of m))
  fore_address_of h m = ((λ n z. absurd (go m.through m.place.level n z)), k.0)
    where
      go : (b : Bool) (level : Level) (n : ℕ) → IsTarget (flow_of (cond b (load_at level m.place.cell) (address_at level m.place.cell))) n → ⊥
      go true Own n z = z
      go true (Around j) n z = z
      go true Main n z = z
      go false Own n z = z
      go false (Around j) n z = z
      go false Main n z = z

  fore_unary : (h : ℕ) (g : Sign) (class : Class) → Fore l t (one s h (unary_instr g class))
  fore_unary h sign.Minus class = ((λ n z. absurd z), k.0)
  fore_unary h sign.Abs class = ((λ n z. absurd z), k.0)
  fore_unary h sign.Not class = of_not (λ j. Fore l t (one s h j)) class ((λ n z. absurd z), k.0) (λ n d. ((λ n z. absurd z), k.0))

  pub fore_binary : (h : ℕ) (o : Op) (class : Class) → Fore l t (one s h (binary_instr o class))
  fore_binary h op.Add class = ((λ n z. absurd z), k.0)
  fore_binary h op.Sub class = ((λ n z. absurd z), k.0)
  fore_binary h op.Mul class = ((λ n z. absurd z), k.0)
  fore_binary h op.Div class = ((λ n z. absurd z), k.0)
  fore_binary h op.Mod class = ((λ n z. absurd z), k.0)
  fore_binary h op.Rem class = ((λ n z. absurd z), k.0)
  fore_binary h op.Pow class = ((λ n z. absurd z), k.0)
  fore_binary h op.And class = of_either (λ j. Fore l t (one s h j)) (is_modular class) _ _ ((λ n z. absurd z), k.0) ((λ n z. absurd z), k.0)
  fore_binary h op.Or class = of_either (λ j. Fore l t (one s h j)) (is_modular class) _ _ ((λ n z. absurd z), k.0) ((λ n z. absurd z), k.0)
  fore_binary h op.Xor class = of_either (λ j. Fore l t (one s h j)) (is_modular class) _ _ ((λ n z. absurd z), k.0) ((λ n z. absurd z), k.0)
  fore_binary h op.Max class = of_either (λ j. Fore l t (one s h j)) (is_modular class) _ _ ((λ n z. absurd z), k.0) ((λ n z. absurd z), k.0)
  fore_binary h op.Min class = of_either (λ j. Fore l t (one s h j)) (is_modular class) _ _ ((λ n z. absurd z), k.0) ((λ n z. absurd z), k.0)

  pub fore_operated : (h : ℕ) (o : Op) (class : Class) (f : Expr) (right : Emit) → Fore l t right → Fore l t (operated_by s h (static_instr o class f) (binary_instr o class) right)
  fore_operated h o class f right m =
      of_operated (λ a. Fore l t a) s h o class f (binary_instr o class) right (λ v. ((λ n z. absurd z), k.0)) (λ v. ((λ n z. absurd z), k.0)) (λ v. ((λ n z. absurd z), k.0)) (λ v. ((λ n z. absurd z), k.0)) (m, fore_binary (h + 1) o class)

  fore_compare : (h : ℕ) (c : Comparison) (class : Class) → Fore l t (one s h (compare_instr c class))
  fore_compare h comparison.Equal class = ((λ n z. absurd z), k.0)
  fore_compare h comparison.Unequal class = ((λ n z. absurd z), k.0)
  fore_compare h comparison.Less class = of_either (λ j. Fore l t (one s h j)) (is_modular class) _ _ ((λ n z. absurd z), k.0) ((λ n z. absurd z), k.0)
  fore_compare h comparison.AtMost class = of_either (λ j. Fore l t (one s h j)) (is_modular class) _ _ ((λ n z. absurd z), k.0) ((λ n z. absurd z), k.0)
  fore_compare h comparison.Greater class = of_either (λ j. Fore l t (one s h j)) (is_modular class) _ _ ((λ n z. absurd z), k.0) ((λ n z. absurd z), k.0)
  fore_compare h comparison.AtLeast class = of_either (λ j. Fore l t (one s h j)) (is_modular class) _ _ ((λ n z. absurd z), k.0) ((λ n z. absurd z), k.0)

  pub fore_checked : (h : ℕ) (x : Scalar) → Fore l t (checked s h x)
  fore_checked h x = of_check (λ j. Fore l t (one s h j)) x ((λ n z. absurd z), k.0) ((λ n z. absurd z), k.0)

  pub fore_keep_checked : (h n : ℕ) (x : Scalar) → Fore l t (keep_checked s h x n)
  fore_keep_checked h n x = of_set (λ j. Fore l t (One (mark_of (max s.free (n + 1)) s) h j)) x n ((λ n z. absurd z), k.0) ((λ n z. absurd z), k.0)

  -- ---- parts without parts of the program

  pub fore_cond : (b : Bool) (x y : Emit) → Fore l t x → Fore l t y → Fore l t (cond b x y)
  fore_cond true x y fx fy = fx
  fore_cond false x y fx fy = fy

  pub fore_load : (h : ℕ) (b : Bool) (w : Where) → Fore l t (load_by b s h w)
  fore_load h true w = (fore_load_of h w, ((λ n z. absurd z), k.0))
  fore_load h false w = fore_load_of h w

  pub fore_load_named : (h : ℕ) (o : Option Named) → Fore l t (load_named s h o)
  fore_load_named h None = ((λ n z. absurd z), k.0)
  fore_load_named h (Some n) = fore_load h n.through n.place

  pub fore_load_where : (h : ℕ) (o : Option Where) → Fore l t (load_where s h o)
  fore_load_where h None = ((λ n z. absurd z), k.0)
  fore_load_where h (Some w) = fore_load_of h w

  pub fore_address : (h : ℕ) (o : Option Named) → Fore l t (address s h o)
  fore_address h None = ((λ n z. absurd z), k.0)
  fore_address h (Some n) = fore_address_of h n

  pub fore_indexed : (h : ℕ) (o : Option ℕ) (low high : ℤ) (stride : ℕ) (index : Emit) → Fore l t index → Fore l t (indexed_by s h o low high stride index)
  fore_indexed h None low high stride index f = (f, ((λ n z. absurd z), k.0))
  fore_indexed h (Some n) low high stride index f = ((λ n z. absurd z), k.0)

  pub fore_item : (h : ℕ) (o : Option ℕ) (low high : ℤ) (stride : ℕ) (index : Emit) → Fore l t index → Fore l t (item_by s h o low high stride index)
  fore_item h None low high stride index f = (f, ((λ n z. absurd z), k.0))
  fore_item h (Some n) low high stride index f = ((λ n z. absurd z), k.0)

  pub fore_component_address : (h : ℕ) (o : Option Named) (first own : Option ℕ) (low high : ℤ) (stride : ℕ) (index : Emit) → Fore l t index → Fore l t (component_address s h o first own low high stride index)
  fore_component_address h o first own low high stride index f =
      of_component_address (λ a. Fore l t a) s h o first own low high stride index (λ g j e e'. ((λ n z. absurd z), k.0)) (fore_address h o, fore_indexed (h + 1) own low high stride index f)

  pub fore_component_value : (h : ℕ) (o : Option Named) (first own : Option ℕ) (low high : ℤ) (stride : ℕ) (index : Emit) → Fore l t index → Fore l t (component_value s h o first own low high stride index)
  fore_component_value h o first own low high stride index f =
      of_component_value (λ a. Fore l t a) s h o first own low high stride index (λ g j e e'. ((λ n z. absurd z), k.0)) (fore_address h o, fore_item (h + 1) own low high stride index f)

  fore_within : (h : ℕ) (class : Class) (d : ℕ) → Fore l t (within s h class d)
  fore_within h class d = (((λ n z. absurd z), k.0), (fore_compare (h + 1 + 1) comparison.AtLeast class, (((λ n z. absurd z), k.0), (((λ n z. absurd z), k.0), (fore_compare (h + 1 + 1 + 1) comparison.AtMost class, ((λ n z. absurd z), k.0))))))

  fore_negated : (h : ℕ) (b : Bool) → Fore l t (negated_code s h b)
  fore_negated h true = ((λ n z. absurd z), k.0)
  fore_negated h false = tt

  pub fore_bounds : (h d : ℕ) (check : Option Check) → Fore l t (bounds_code s h d check)
  fore_bounds h d None = tt
  fore_bounds h d (Some c) = (((λ n z. absurd z), k.0), (fore_checked (h + 1) c.scalar, (((λ n z. absurd z), k.0), (((λ n z. absurd z), k.0), (fore_checked (h + 1) c.scalar, ((λ n z. absurd z), k.0))))))

  pub fore_ascending : (h d : ℕ) → Fore l t (ascending s h d)
  fore_ascending h d = (((λ n z. absurd z), k.0), (((λ n z. absurd z), k.0), ((λ n z. absurd z), k.0)))

  pub fore_folding : (h : ℕ) (by : Reducer) → Fore l t (folding s h by)
  fore_folding h (Operator at o class) = fore_binary (h + 1 + 1) o class
  fore_folding h (Function at sub accumulator value) = (((λ n z. absurd z), k.0), (fore_keep_checked (h + 1) s.free accumulator, (((λ n z. absurd z), k.0), (fore_checked (h + 1) value, (((λ n z. absurd z), k.0), ((λ n z. absurd z), k.0))))))

  fore_ranged : (h n : ℕ) (subtype : Scalar) → Fore l t (ranged s h n subtype)
  fore_ranged h n subtype = (((λ n z. absurd z), k.0), (((λ n z. absurd z), k.0), (fore_compare (h + 1 + 1) comparison.AtLeast subtype.class, (((λ n z. absurd z), k.0), (((λ n z. absurd z), k.0), (fore_compare (h + 1 + 1 + 1) comparison.AtMost subtype.class, ((λ n z. absurd z), k.0)))))))

  fore_combined : (h : ℕ) (by : Reducer) → Fore l t (combined s h by)
  fore_combined h (Operator at o class) = tt
  fore_combined h (Function at sub accumulator value) = λ x.
      (((λ n z. absurd z), k.0), ((k.0, ((((λ n z. absurd z), k.0), (((λ n z. absurd z), k.0), (fore_ranged h s.free accumulator, (fore_ranged (h + 1) (s.free + 1) value, ((λ n z. absurd z), k.0))))), ((λ n z. absurd z), k.0))), ((λ n z. absurd z), k.0)))

  fore_raise_above : (h d : ℕ) → Fore l t (raise_above s h d)
  fore_raise_above h d = (((λ n z. absurd z), k.0), (((λ n z. absurd z), k.0), (((λ n z. absurd z), k.0), (k.0, ((λ n z. absurd z), k.0)))))

  fore_raise_beyond : (h : ℕ) → Fore l t (raise_beyond s h)
  fore_raise_beyond h = (((λ n z. absurd z), k.0), (((λ n z. absurd z), k.0), (((λ n z. absurd z), k.0), (k.0, ((λ n z. absurd z), k.0)))))

  pub fore_ends : (h : ℕ) (it : Iteration) → Fore l t (ends_code s h it)
  fore_ends h (Range p reverse low high check filter) = (((λ n z. absurd z), k.0), ((λ n z. absurd z), k.0))
  fore_ends h (Components p constant at r selections count stride dimensions filter) = (((λ n z. absurd z), k.0), ((λ n z. absurd z), k.0))

  -- the end of a turn
  pub fore_counting : (h : ℕ) (reverse : Bool) (d head : ℕ) → Fore l (λ y. Also t head y) (one s h (counting reverse d head))
  fore_counting h true d head = ((λ n z. inl (inr z)), k.0)
  fore_counting h false d head = ((λ n z. inl (inr z)), k.0)

  pub fore_stepping : (h address stride first head : ℕ) → Fore l (λ y. Also t head y) (stepping s h address stride first head)
  fore_stepping h place stride first head = (((λ n z. absurd z), k.0), (((λ n z. absurd z), k.0), (((λ n z. absurd z), k.0), ((λ n z. inl (inr z)), k.0))))

-- a body that begins with a turn
pub begins : (s : Scope) (h : ℕ) (rest : ℕ → Emit) → BeginsTurn (λ x. one s h i.Turn ⨟ rest x)
begins s h rest x q = (_, _, refl, refl)

-- a chunk parameter changes neither
pub known_chunk : (l : ℕ → Type 0) (chunk : Chunk) (s : Scope) → s.entry ≡ None → ((n : ℕ) → s.exits n ≡ None) → Known l (chunk_scope chunk s)
known_chunk l NoChunk s without away = known_nothing l s without away
known_chunk l (Count e) s without away = known_nothing l s without away
known_chunk l (Each p low high check) s without away = known_nothing l s without away

-- ---- runs of aggregates

module _ (l t : ℕ → Type 0) (s : Scope) (k : Known l s) where
  pub fore_doubled : (h first size steps done count : ℕ) → Fore l t (doubled s h first size steps done count)
  fore_doubled h first size zero done count = tt
  fore_doubled h first size (suc steps) done count = fore_cond l t s k (nat_lt done count) _ none ((((λ n z. absurd z), k.0), (((λ n z. absurd z), k.0), ((λ n z. absurd z), k.0))), fore_doubled h first size steps (done + min done (count - done)) count) tt

  fore_filling : (value : ℕ → Emit) (count first stride : ℕ) → ((n : ℕ) → Fore l t (value n)) → Fore l t (filling value count first stride)
  fore_filling value zero first stride f = tt
  fore_filling value (suc n) first stride f = (f first, fore_filling value n (first + stride) stride f)

  pub fore_fillings : (h n size : ℕ) (plain : Bool) (value : ℕ → Emit) (rs : List Run) → ((n : ℕ) → Fore l t (value n)) → Fore l t (fillings s h n size plain value rs)
  fore_fillings h n size plain value [] f = tt
  fore_fillings h n size plain value (r ∷ rs) f =
      (fore_cond l t s k (plain && (nat_lt 1 r.count && nat_eq r.stride size)) _ _ (f r.first, fore_doubled h (n + r.first) size r.count 1 r.count) (fore_filling value r.count r.first r.stride f), fore_fillings h n size plain value rs f)

  -- what a component's code does, whatever is known besides
  abbrev pub ForeComponent : Emit → Type 1
  ForeComponent component = (l' : ℕ → Type 0) → ((n : ℕ) → l n → l' n) → Fore l' t component

  fore_turning : (h n : ℕ) (low : ℤ) (component : Emit) (count first stride : ℕ) → ForeComponent component → Fore l t (turning s h n low component count first stride)
  fore_turning h n low component count first stride f = (
    ((λ n z. absurd z), k.0),
    (
      ((λ n z. absurd z), k.0),
      (
        ((λ n z. absurd z), k.0),
        (
          ((λ n z. absurd z), k.0),
          (
            ((λ n z. absurd z), k.0),
            (
              ((λ n z. absurd z), k.0),
              (k.0, (begins s h (λ x. component), ((λ x. (((λ n z. absurd z), (known_more l s x k).0), f (λ y. Also l x y) (λ n is. inl is))), (λ x. fore_stepping l t s k h (s.free + 1 + 1) stride s.free x)))),
            ),
          ),
        ),
      ),
    ),
  )

  fore_entering : (h n : ℕ) (low : ℤ) (count first : ℕ) → Fore l t (entering s h n low count first)
  fore_entering h n low count first = (((λ n z. absurd z), k.0), (((λ n z. absurd z), k.0), (((λ n z. absurd z), k.0), (((λ n z. absurd z), k.0), (((λ n z. absurd z), k.0), ((λ n z. absurd z), k.0))))))

module _ (l t : ℕ → Type 0) (s : Scope) (k : Known l s) where
  fore_next : (h n : ℕ) (low : ℤ) (head m : ℕ) (rs : List Run) → Fore l (λ y. Also t head y) (entering_next s h n low head m rs)
  fore_next h n low head m [] = tt
  fore_next h n low head m (r ∷ rs) = fore_cond l (λ y. Also t head y) s k (nat_eq r.count 0) _ _ (fore_next h n low head (m + 1) rs) (((λ n z. absurd z), k.0), (((λ n z. absurd z), k.0), (fore_entering l (λ y. Also t head y) s k (h + 1) n low r.count r.first, ((λ n z. inl (inr z)), k.0))))

  fore_steps : (h n : ℕ) (low : ℤ) (head m : ℕ) (rs : List Run) → Fore l (λ y. Also t head y) (run_steps s h n low head m rs)
  fore_steps h n low head m [] = tt
  fore_steps h n low head m (r ∷ rs) = ((((λ n z. absurd z), k.0), (((λ n z. absurd z), k.0), (((λ n z. absurd z), k.0), (k.0, (fore_stepping l t s k (h + 1) (s.free + 1 + 1) r.stride s.free head, fore_next h n low head (m + 1) rs))))), fore_steps h n low head (m + 1) rs)

  fore_runs : (h n : ℕ) (low : ℤ) (component : Emit) (m : ℕ) (rs : List Run) → ForeComponent l t s k component → Fore l t (run_turnings s h n low component m rs)
  fore_runs h n low component m [] f = tt
  fore_runs h n low component m (r ∷ rs) f = fore_cond l t s k (nat_eq r.count 0) _ _ (fore_runs h n low component (m + 1) rs f)
      (((λ n z. absurd z), k.0), (fore_entering l t s k (h + 1) n low r.count r.first, ((k.0, (begins s (h + 1) (λ x. component), ((λ x. (((λ n z. absurd z), (known_more l s x k).0), f (λ y. Also l x y) (λ n is. inl is))), (λ x. fore_steps h n low x m (r ∷ rs))))), ((λ n z. absurd z), k.0))))

  pub fore_turnings : (h n : ℕ) (low : ℤ) (component : Emit) (rs : List Run) → ForeComponent l t s k component → Fore l t (turnings s h n low component rs)
  fore_turnings h n low component [] f = tt
  fore_turnings h n low component (r ∷ []) f = fore_cond l t s k (nat_eq r.count 0) none _ tt (fore_turning l t s k h n low component r.count r.first r.stride f)
  fore_turnings h n low component (r ∷ p ∷ rs) f = fore_runs h n low component 0 (r ∷ p ∷ rs) f

  -- ---- parts that are repeated

  fore_locating : (h n m : ℕ) (r : Run) → Fore l t (locating s h n m r)
  fore_locating h n m r = fore_cond l t s k (nat_eq r.count 0) none _ tt (((λ n z. absurd z), k.0), (((λ n z. absurd z), k.0), (((λ n z. absurd z), k.0), ((λ n z. absurd z), k.0))))

  fore_locating_in : (h n m : ℕ) (rs : List Run) → Fore l t (locating_in s h n m rs)
  fore_locating_in h n m [] = tt
  fore_locating_in h n m (r ∷ []) = fore_locating h n m r
  fore_locating_in h n m (r ∷ p ∷ rs) = (((λ n z. absurd z), k.0), (((λ n z. absurd z), k.0), (((λ n z. absurd z), k.0), (k.0, (fore_locating h n m r, fore_locating_in h n (m + r.count) (p ∷ rs))))))

  pub fore_repeating : (h n : ℕ) (component : Emit) (rs : List Run) → Fore l t component → Fore l t (repeating s h n component rs)
  fore_repeating h n component rs f = fore_cond l t s k (nat_eq (components_of rs) 0) none _ tt
      (((λ n z. absurd z), k.0), (((λ n z. absurd z), k.0), (((λ n z. absurd z), k.0), (λ head. (fore_locating_in h n 0 rs, (f, (((λ n z. absurd z), k.0), (((λ n z. absurd z), k.0), (((λ n z. absurd z), k.0), ((λ n z. absurd z), k.0))))))))))

-- what is done in turns, in a scope whose handler and exits are known
abbrev pub ForeTurns : (ℕ → Type 0) → (ℕ → Type 0) → (Scope → Emit) → Type 1
ForeTurns l t body = (l' : ℕ → Type 0) (u : Scope) → ((n : ℕ) → l n → l' n) → Known l' u → Fore l' t (body u)

module _ (program : Program) where
  mutual
    unfolding Rattle.ada_lower.specs.Emission.emit

    pub fore_emit : (l t : ℕ → Type 0) (s : Scope) (h : ℕ) (x : Expr) → Known l s → Fore l t (emit program s h x)
    fore_emit l t s h (Static at value literal mentions) k = ((λ n z. absurd z), k.0)
    fore_emit l t s h (Variable at r selections scalar) k = fore_value l t s h (root_of s r) selections k
    fore_emit l t s h (Constant at r selections scalar) k = fore_value l t s h (constant_root_of s r) selections k
    fore_emit l t s h (Parameter at j) k = fore_load_where l t s k h (s.parameter j)
    fore_emit l t s h (Target at scalar) k = fore_load_named l t s k h s.target
    fore_emit l t s h (Group e) k = fore_emit l t s h e k
    fore_emit l t s h (Unary at g class e) k = (fore_emit l t s h e k, fore_unary l t s k (h + 1) g class)
    fore_emit l t s h (Binary at o class e f) k = (fore_emit l t s h e k, fore_operated l t s k (h + 1) o class f (emit program s (h + 1) f) (fore_emit l t s (h + 1) f k))
    fore_emit l t s h (AndThen e f) k = (fore_emit l t s h e k, (k.0, (fore_emit l t s h f k, ((λ n z. absurd z), k.0))))
    fore_emit l t s h (OrElse e f) k = (fore_emit l t s h e k, (k.0, (((λ n z. absurd z), k.0), fore_emit l t s h f k)))
    fore_emit l t s h (Relation class c e f) k = (fore_emit l t s h e k, (fore_emit l t s (h + 1) f k, fore_compare l t s k (h + 1 + 1) c class))
    fore_emit l t s h (Membership class negated e low high) k =
        (fore_emit l t s h e k, (((λ n z. absurd z), k.0), (fore_emit l t (taking 1 s) h low k, (((λ n z. absurd z), k.0), (fore_emit l t (taking 2 s) h high k, (fore_within l t s k h class s.free, fore_negated l t s k h negated))))))
    fore_emit l t s h (If condition value otherwise) k = (fore_emit l t s h condition k, (k.0, (fore_emit l t s h value k, fore_emit l t s h otherwise k)))
    fore_emit l t s h (Call at callee sub actuals) k = (fore_passed l t (passing program sub s) h sub s.free actuals k, ((λ n z. absurd z), k.0))
    fore_emit l t s h (Convert check e) k = (fore_emit l t s h e k, fore_checked l t s k (h + 1) check.scalar)
    fore_emit l t s h (Reduction at attribute by initial None chunk iteration value) k = (
      fore_emit l t s h initial k,
      fore_iterated l t s (h + 1) None iteration (λ u. emit program u (h + 1) value ⨟ folding u h by) k (λ l' u up k'. (fore_emit l' t u (h + 1) value k', fore_folding l' t u k' h by)),
    )
    fore_emit l t s h (Reduction at attribute by initial (Some site) chunk iteration value) k = (
      fore_emit l t s h initial k,
      (
        ((λ n z. absurd z), k.0),
        (
          ((λ n z. absurd z), k.0),
          (
            fore_chunk l t (nested (taking 1 s)) h chunk k,
            (
              fore_course l t (taking 2 (nested (taking 1 s))) h iteration k,
              (
                fore_ends l t (taking 2 (nested (taking 1 s))) k h iteration,
                (
                  (
                    ((λ n z. absurd z), k.0),
                    (
                      ((λ n z. absurd z), k.0),
                      (
                        ((λ n z. absurd z), k.0),
                        (
                          ((λ n z. absurd z), k.0),
                          (
                            k.0,
                            (
                              ((λ n z. absurd z), (known_chunk l chunk (taking 2 (thread_scope site s)) refl (λ n. refl)).0),
                              (
                                fore_threaded l t (thread_scope site s) 1 chunk (s.free + 1 + 1 + 1) iteration (λ u. emit program u 1 value ⨟ folding u 0 by) refl (λ n. refl) (λ l' u up k'. (fore_emit l' t u 1 value k', fore_folding l' t u k' 0 by)),
                                ((λ n z. absurd z), (known_chunk l chunk (taking 2 (thread_scope site s)) refl (λ n. refl)).0),
                              ),
                            ),
                          ),
                        ),
                      ),
                    ),
                  ),
                  (((λ n z. absurd z), k.0), fore_combined l t (taking 2 (taking 2 (taking 1 s))) k h by),
                ),
              ),
            ),
          ),
        ),
      ),
    )

    fore_value : (l t : ℕ → Type 0) (s : Scope) (h : ℕ) (o : Option Named) (x : Selections) → Known l s → Fore l t (named_value program s h o x)
    fore_value l t s h o Whole k = fore_load_named l t s k h o
    fore_value l t s h o (Field number offset rest) k = (fore_address l t s k h o, (((λ n z. absurd z), k.0), fore_read l t s (h + 1) rest k))
    fore_value l t s h o (Index at e low high stride rest) k =
        fore_cond l t s k (is_whole rest) _ _ (fore_component_value l t s k h o (main_named o) (own_cell s e) low high stride (emit program s (h + 1) e) (fore_emit l t s (h + 1) e k))
        (fore_component_address l t s k h o (main_named o) (own_cell s e) low high stride (emit program s (h + 1) e) (fore_emit l t s (h + 1) e k), fore_read l t s (h + 1) rest k)

    pub fore_selected : (l t : ℕ → Type 0) (s : Scope) (h : ℕ) (x : Selections) → Known l s → Fore l t (selected program s h x)
    fore_selected l t s h Whole k = tt
    fore_selected l t s h (Field number offset rest) k = (((λ n z. absurd z), k.0), fore_selected l t s h rest k)
    fore_selected l t s h (Index at e low high stride rest) k = (fore_indexed l t s k h (own_cell s e) low high stride (emit program s h e) (fore_emit l t s h e k), fore_selected l t s h rest k)

    fore_read : (l t : ℕ → Type 0) (s : Scope) (h : ℕ) (x : Selections) → Known l s → Fore l t (read program s h x)
    fore_read l t s h Whole k = ((λ n z. absurd z), k.0)
    fore_read l t s h (Field number offset rest) k = (((λ n z. absurd z), k.0), fore_read l t s h rest k)
    fore_read l t s h (Index at e low high stride rest) k =
        fore_cond l t s k (is_whole rest) _ _ (fore_item l t s k h (own_cell s e) low high stride (emit program s h e) (fore_emit l t s h e k))
        (fore_indexed l t s k h (own_cell s e) low high stride (emit program s h e) (fore_emit l t s h e k), fore_read l t s h rest k)

    pub fore_passed : (l t : ℕ → Type 0) (s : Scope) (h sub w : ℕ) (x : Actuals) → Known l s → Fore l t (passed program s h sub w x)
    fore_passed l t s h sub w NoActual k = tt
    fore_passed l t s h sub w (In formal value rest) k = (fore_into l t s h _ value k, fore_passed l t s h sub w rest k)
    fore_passed l t s h sub w (InOut formal at r selections inner outer rest) k =
        ((fore_address l t s k h (root_of s r), (fore_selected l t s (h + 1) selections k, (((λ n z. absurd z), k.0), (((λ n z. absurd z), k.0), (((λ n z. absurd z), k.0), fore_keep_checked l t s k (h + 1) _ inner))))), fore_passed l t s h sub w rest k)
    fore_passed l t s h sub w (Out formal at r selections inner outer rest) k =
        ((fore_address l t s k h (root_of s r), (fore_selected l t s (h + 1) selections k, (((λ n z. absurd z), k.0), (((λ n z. absurd z), k.0), ((λ n z. absurd z), k.0))))), fore_passed l t s h sub w rest k)
    fore_passed l t s h sub w (CompositeInOut formal at r selections subtype rest) k =
        ((((λ n z. absurd z), k.0), (fore_address l t s k (h + 1) (root_of s r), (fore_selected l t s (h + 1 + 1) selections k, (((λ n z. absurd z), k.0), (((λ n z. absurd z), k.0), ((λ n z. absurd z), k.0)))))), fore_passed l t s h sub w rest k)
    fore_passed l t s h sub w (CompositeOut formal at r selections subtype rest) k =
        ((((λ n z. absurd z), k.0), (fore_address l t s k (h + 1) (root_of s r), (fore_selected l t s (h + 1 + 1) selections k, (((λ n z. absurd z), k.0), (((λ n z. absurd z), k.0), ((λ n z. absurd z), k.0)))))), fore_passed l t s h sub w rest k)

    pub fore_into : (l t : ℕ → Type 0) (s : Scope) (h n : ℕ) (x : Value) → Known l s → Fore l t (put_into program s h n x)
    fore_into l t s h n (Number check e) k = (fore_emit l t s h e k, fore_keep_checked l t s k (h + 1) n check.scalar)
    fore_into l t s h n (Cells c) k = fore_composed l t s h n c k

    pub fore_composed : (l t : ℕ → Type 0) (s : Scope) (h n : ℕ) (x : Composite) → Known l s → Fore l t (composed program s h n x)
    fore_composed l t s h n (WholeVariable at r selections subtype) k = (((λ n z. absurd z), k.0), (fore_address l t s k (h + 1) (root_of s r), (fore_selected l t s (h + 1 + 1) selections k, ((λ n z. absurd z), k.0))))
    fore_composed l t s h n (WholeConstant at r selections subtype) k = (((λ n z. absurd z), k.0), (fore_address l t s k (h + 1) (constant_root_of s r), (fore_selected l t s (h + 1 + 1) selections k, ((λ n z. absurd z), k.0))))
    fore_composed l t s h n (WholeTarget at subtype) k = (((λ n z. absurd z), k.0), (fore_address l t s k (h + 1) s.target, ((λ n z. absurd z), k.0)))
    fore_composed l t s h n (CompositeIf condition value otherwise) k = (fore_emit l t s h condition k, (k.0, (fore_composed l t s h n value k, fore_composed l t s h n otherwise k)))
    fore_composed l t s h n (Aggregate at size associations) k = (((λ n z. absurd z), k.0), (((λ n z. absurd z), k.0), fore_associated l t s h n associations k))

    pub fore_associated : (l t : ℕ → Type 0) (s : Scope) (h n : ℕ) (x : Associations) → Known l s → Fore l t (associated program s h n x)
    fore_associated l t s h n NoAssociation k = tt
    fore_associated l t s h n (Association runs None mentions value rest) k = (
      fore_cond l t s k (is_repeated runs value) _ _ (fore_repeating l t s k h n _ runs (fore_component l t (taking 2 s) h (s.free + 1) value k))
          (fore_fillings l t s k h n (width program value) (is_plain value) _ runs (λ m. fore_into l t s h (n + m) value k)),
      fore_associated l t s h n rest k,
    )
    fore_associated l t s h n (Association runs (Some x) mentions value rest) k =
        (fore_turnings l t s k h n x.first _ runs (λ l' up. fore_component l' t (iterated_scope s x.parameter) (turn_height runs h) (s.free + 1 + 1) value ((λ e is. up e (k.0 e is)), (λ j e is. up e (k.1 j e is)))), fore_associated l t s h n rest k)

    pub fore_component : (l t : ℕ → Type 0) (s : Scope) (h at : ℕ) (x : Value) → Known l s → Fore l t (component program s h at x)
    fore_component l t s h at (Number check e) k = (((λ n z. absurd z), k.0), (fore_emit l t s (h + 1) e k, (fore_checked l t s k (h + 1 + 1) check.scalar, ((λ n z. absurd z), k.0))))
    fore_component l t s h at (Cells c) k = (fore_composed l t (taking (composite_width program c) s) h s.free c k, (((λ n z. absurd z), k.0), (((λ n z. absurd z), k.0), ((λ n z. absurd z), k.0))))

    pub fore_filtered : (l t : ℕ → Type 0) (s : Scope) (h : ℕ) (filter : Optional) (body : Emit) → Known l s → Fore l t body → Fore l t (filtered program s h filter body)
    fore_filtered l t s h Absent body k f = f
    fore_filtered l t s h (Present e) body k f = (fore_emit l t s h e k, (k.0, f))

    pub fore_iterated : (l t : ℕ → Type 0) (s : Scope) (h : ℕ) (number : Option ℕ) (it : Iteration) (body : Scope → Emit) → Known l s → ForeTurns l t body → Fore l t (iterated program s h number it body)
    fore_iterated l t s h number (Range p reverse low high check filter) body k f = (
      fore_emit l t s h low k,
      (
        ((λ n z. absurd z), k.0),
        (
          fore_emit l t (taking 1 s) h high k,
          (
            ((λ n z. absurd z), k.0),
            (
              fore_ascending l t s k h s.free,
              (
                k.0,
                (
                  fore_bounds l t s k h s.free check,
                  (
                    k.0,
                    (
                      begins s h (λ x. filtered program (range_scope s number p reverse x) h filter (body (range_scope s number p reverse x))),
                      (
                        (λ x. let k' = known_leaving l (with_parameter p (own (first_parameter reverse s.free)) (taking 2 s)) number x k in
                            (((λ n z. absurd z), (known_more l s x k).0), fore_filtered (λ y. Also l x y) t (range_scope s number p reverse x) h filter _ k' (f (λ y. Also l x y) (range_scope s number p reverse x) (λ n is. inl is) k'))),
                        (λ x. fore_counting l t s k h reverse s.free x),
                      ),
                    ),
                  ),
                ),
              ),
            ),
          ),
        ),
      ),
    )
    fore_iterated l t s h number (Components p constant at r selections count stride dimensions filter) body k f = (
      (fore_address l t s k h (array_root_of constant s r), (fore_selected l t s (h + 1) selections k, ((λ n z. absurd z), k.0))),
      fore_cond l t s k (nat_eq count 0) none _ tt (
        ((λ n z. absurd z), k.0),
        (
          ((λ n z. absurd z), k.0),
          (
            ((λ n z. absurd z), k.0),
            (
              ((λ n z. absurd z), k.0),
              (
                k.0,
                (
                  begins s h (λ x. filtered program (item_scope s number constant p stride x) h filter (body (item_scope s number constant p stride x))),
                  (
                    (
                        λ x. let k' = known_leaving l (with_item constant p (record { through = true; place = own s.free; cells = stride }) (taking 3 s)) number x k in
                        (((λ n z. absurd z), (known_more l s x k).0), fore_filtered (λ y. Also l x y) t (item_scope s number constant p stride x) h filter _ k' (f (λ y. Also l x y) (item_scope s number constant p stride x) (λ n is. inl is) k'))),
                    (λ x. fore_stepping l t s k h s.free stride (s.free + 1) x),
                  ),
                ),
              ),
            ),
          ),
        ),
      ),
    )

    pub fore_chunk : (l t : ℕ → Type 0) (s : Scope) (h : ℕ) (chunk : Chunk) → Known l s → Fore l t (chunk_code program s h chunk)
    fore_chunk l t s h NoChunk k = (((λ n z. absurd z), k.0), (((λ n z. absurd z), k.0), (((λ n z. absurd z), k.0), ((λ n z. absurd z), k.0))))
    fore_chunk l t s h (Count e) k = (((λ n z. absurd z), k.0), (((λ n z. absurd z), k.0), (fore_emit l t (taking 1 s) h e k, (((λ n z. absurd z), k.0), (((λ n z. absurd z), k.0), (((λ n z. absurd z), k.0), fore_raise_above l t s k h s.free))))))
    fore_chunk l t s h (Each p low high check) k =
        (fore_emit l t s h low k, (((λ n z. absurd z), k.0), (fore_emit l t (taking 1 s) h high k, (((λ n z. absurd z), k.0), (fore_raise_above l t s k h s.free, (fore_bounds l t s k h s.free check, fore_raise_beyond l t s k h))))))

    pub fore_course : (l t : ℕ → Type 0) (s : Scope) (h : ℕ) (it : Iteration) → Known l s → Fore l t (course_code program s h it)
    fore_course l t s h (Range p reverse low high check filter) k =
        (fore_emit l t s h low k, (((λ n z. absurd z), k.0), (fore_emit l t (taking 1 s) h high k, (((λ n z. absurd z), k.0), (fore_ascending l t s k h s.free, (k.0, fore_bounds l t s k h s.free check))))))
    fore_course l t s h (Components p constant at r selections count stride dimensions filter) k = (fore_address l t s k h (array_root_of constant s r), (fore_selected l t s (h + 1) selections k, ((λ n z. absurd z), k.0)))

    -- the scope of threads knows no handler and no exit
    pub fore_threaded : (l t : ℕ → Type 0) (u : Scope) (h : ℕ) (chunk : Chunk) (around : ℕ) (it : Iteration) (body : Scope → Emit) → u.entry ≡ None → ((n : ℕ) → u.exits n ≡ None) → ForeTurns l t body → Fore l t (threaded program u h chunk around it body)
    fore_threaded l t u h chunk around (Range p reverse low high check filter) body without away f =
        let k = known_chunk l chunk (taking 2 u) without away in
        let v : Scope = turn_range u chunk p in (
          fore_ascending l t (chunk_scope chunk (taking 2 u)) k h (u.free + 2),
          (
            k.0,
            (
              k.0,
              (
                begins (chunk_scope chunk (taking 2 u)) h (λ x. filtered program v h filter (body v)),
                (
                  (λ x. let k' : Known (λ y. Also l x y) v = known_more l v x k in (((λ n z. absurd z), (known_more l v x k).0), fore_filtered (λ y. Also l x y) t v h filter _ k' (f (λ y. Also l x y) v (λ n is. inl is) k'))),
                  (λ x. fore_counting l t (chunk_scope chunk (taking 2 u)) k h false (u.free + 2) x),
                ),
              ),
            ),
          ),
        )
    fore_threaded l t u h chunk around (Components p constant at r selections count stride dimensions filter) body without away f =
        let k = known_chunk l chunk (taking 2 u) without away in
        let v : Scope = turn_component u chunk constant p stride in (
          fore_ascending l t (chunk_scope chunk (taking 2 u)) k h (u.free + 2),
          (
            k.0,
            (
              ((λ n z. absurd z), k.0),
              (
                ((λ n z. absurd z), k.0),
                (
                  ((λ n z. absurd z), k.0),
                  (
                    ((λ n z. absurd z), k.0),
                    (
                      k.0,
                      (
                        begins (chunk_scope chunk (taking 2 u)) h (λ x. filtered program v h filter (body v)),
                        (
                          (λ x. let k' : Known (λ y. Also l x y) v = known_more l v x k in (((λ n z. absurd z), (known_more l v x k).0), fore_filtered (λ y. Also l x y) t v h filter _ k' (f (λ y. Also l x y) v (λ n is. inl is) k'))),
                          (λ x. fore_stepping l t (chunk_scope chunk (taking 2 u)) k h (u.free + 2 + 1 + 1) stride (u.free + 2) x),
                        ),
                      ),
                    ),
                  ),
                ),
              ),
            ),
          ),
        )
