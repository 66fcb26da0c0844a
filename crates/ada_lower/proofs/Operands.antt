-- Numbers on the stack: what instructions make of them, and names of which parts are read.
use Rattle.std.proofs.Common.{◌≡◌, ℕ, zero, suc, ◌+◌, ◌-◌, ◌*◌, ◌<◌, ◌≤◌, ℤ, pos, negsuc, ◌-ℤ◌, neg_ℤ, nat_abs, int_lt, is_some, true≢false, List, [], ◌∷◌, ◌++◌, length, slice_get, nat_eq, int_le, Option, Some, None, Bool, true, false, not, cond, ◌&&◌, refl, sym, ap, ◌∙◌, subst, le_refl, arith, inl, ⊎_elim, mul-le-mul_right, suc-mul, eqb-true}
use Rattle.std.proofs.lemmas.Int.{ints}
use Rattle.std.proofs.lemmas.Bool.{le-leb}
use Rattle.std.specs.Int.{int_min}
use Rattle.ada_base.specs.declared.operation.Base.{Base}
use Rattle.ada_base.specs.declared.operation.Base.TheVariants.{Modulo}
use Rattle.ada_base.specs.Operation.{is_in_base, turned, within}
use Rattle.ada_base.proofs.Turning.{turned_twice}
use Rattle.behaviours.specs.Paths.{Entity}
use Rattle.typed_tree.specs.declared.scalars.Class.{Class}
use Rattle.typed_tree.specs.declared.scalars.Class.TheVariants as class
use Rattle.ada_base.specs.declared.operation.Comparison.{Comparison}
use Rattle.ada_base.specs.declared.operation.Op.{Op}
use Rattle.typed_tree.specs.declared.expressions.Sign.{Sign}
use Rattle.typed_tree.specs.declared.expressions.Sign.TheVariants as sign
use Rattle.typed_tree.specs.Syntax.{Expr, Static, Program}
use Rattle.ada_meaning.specs.Values
use Rattle.ada_meaning.specs.Values.{between, truth, bit, to_nat, count, compares, base_of, is_equal, is_member, is_modular, modular_digits, number_by, number_in}
use Rattle.ada_meaning.specs.Operations.{CheckKind, OverflowCheck, Operations, operate}
use Rattle.ada_meaning.specs.Stored as stored
use Rattle.ada_meaning.specs.Stored.{Stored, Cause, Left, Address}
use Rattle.ada_meaning.specs.Meaning.{Env, ObjectPart, Passed, Returned, variable_root, constant_root}
use Rattle.stack_code.specs.declared.code.Code.{Code}
use Rattle.stack_code.specs.declared.instr.Instr.{Instr}
use Rattle.ada_base.specs.Cells.{value_in}
use Rattle.stack_code.specs.Deeds.{GoesOn, deed_of, pushed}
use Rattle.ada_lower.specs.Driven.{Dyn, Fixed, Step, on, At}
use Rattle.ada_lower.specs.Sights.{Emit, Level, Named, Own, Sight, Stands, Where, address_of, constant_root_of, load_at, one, own, root_of, taking, with_parameter, ◌⨟◌}
use Rattle.ada_lower.specs.Emission
use Rattle.ada_lower.specs.Emission.{address, emit, selected, load, load_named, binary_instr, fixed_instr, static_instr, operated_by, unary_instr, compare_instr, Shape, shapes, shapes_cells}
use Rattle.ada_lower.specs.Fits.{Free, Keeps, Ghost, Ends, place_in, Spread, Refers, Knows, Stands as StandsFor, What}
use Rattle.ada_lower.proofs.Framework.{any, To, comes_here, comes_on, comes_goes, does_ret, does_bind, does_before, does_returned}
use Rattle.ada_lower.proofs.Memory.{does_read, set_what, own_free, fit_unset, knows_keep, Extends, refers_more, holds_more, main_more}
use Rattle.ada_lower.proofs.Standing.{stands_choose, stands_seq}
use Rattle.ada_lower.proofs.Parts.{Runs, Fewer, bit_same, truth_same, outcome, does_to, does_weak, does_keep, does_choice, does_pushed, does_operate, does_fixed}
use Rattle.ada_lower.proofs.Declared.{keeping, keep_one_more, laid_out, kept_what, among, length_in, laid_what}
use Rattle.ada_lower.proofs.Inner.{InnerDo}
pub use Rattle.ada_lower.proofs.Courses.{at_entry}
use Rattle.ada_lower.proofs.Names.{root_refers, constant_root_refers, index_below, does_by, does_index, does_load, comes_address, comes_number, comes_load_at}
use Rattle.ada_base.specs.declared.operation.Comparison.TheVariants as comparison
use Rattle.ada_meaning.specs.Meaning
use Rattle.stack_code.specs.declared.instr.Instr.TheVariants as i
use Rattle.stack_code.specs.Deeds

-- a check on a result
abbrev pub fits_or : Bool → ℤ → Option ℤ
fits_or b v = cond b (Some v) None

-- ---- numbers of modular types

same_number : (u v : ℤ) → is_equal u v ≡ true → u ≡ v
same_number u v e = omega (arith, ints, and-left (int_le u v) (int_le v u) e, and-right (int_le u v) (int_le v u) e)
  where
    and-left : (a b : Bool) → (a && b) ≡ true → a ≡ true
    and-left true b e = refl
    and-left false b e = e

    and-right : (a b : Bool) → (a && b) ≡ true → b ≡ true
    and-right true b e = e
    and-right false b e = absurd (true≢false (sym e))

equal_self : (u : ℤ) → is_equal u u ≡ true
equal_self (pos n) = ap (λ b. b && b) (le-leb n n (le_refl n))
equal_self (negsuc n) = ap (λ b. b && b) (le-leb n n (le_refl n))

both_hold : (a b : Bool) → (a ≡ true → b ≡ true) → (b ≡ true → a ≡ true) → a ≡ b
both_hold true b h k = sym (h refl)
both_hold false true h k = k refl
both_hold false false h k = refl

same_kept : (u v : ℤ) → is_equal u v ≡ is_equal (turned u) (turned v)
same_kept u v = both_hold (is_equal u v) (is_equal (turned u) (turned v))
    (λ e. subst (λ w. is_equal (turned u) (turned w) ≡ true) (same_number u v e) (equal_self (turned u)))
    (λ e. let z : u ≡ v = sym (turned_twice u) ∙ ap turned (same_number (turned u) (turned v) e) ∙ turned_twice v in subst (λ w. is_equal u w ≡ true) z (equal_self u))

abbrev compare_by : Comparison → Bool → Instr
compare_by comparison.Equal b = i.Eq
compare_by comparison.Unequal b = i.Ne
compare_by comparison.Less b = cond b i.ULt i.Lt
compare_by comparison.AtMost b = cond b i.ULe i.Le
compare_by comparison.Greater b = cond b i.UGt i.Gt
compare_by comparison.AtLeast b = cond b i.UGe i.Ge

-- a comparison's instruction
pub compare_is : (c : Code) (q base : ℕ) (outward : List ℕ) (r : Comparison) (class : Class) (u v : ℤ) (st : List ℤ) → deed_of c q (v ∷ u ∷ st) base outward (compare_instr r class) ≡ GoesOn (q + 1) (Deeds.bit (compares r (number_in class u) (number_in class v)) ∷ st)
compare_is c q base outward r class u v st = ap (deed_of c q (v ∷ u ∷ st) base outward) (same r) ∙ go r (modular_digits class)
  where
    same : (r : Comparison) → compare_instr r class ≡ compare_by r (is_modular class)
    same comparison.Equal = refl
    same comparison.Unequal = refl
    same comparison.Less = refl
    same comparison.AtMost = refl
    same comparison.Greater = refl
    same comparison.AtLeast = refl

    -- numbers are the same where what is kept of them is
    kept : (d : Option ℕ) → is_equal u v ≡ is_equal (number_by d u) (number_by d v)
    kept None = refl
    kept (Some n) = same_kept u v

    go : (r : Comparison) (d : Option ℕ) → deed_of c q (v ∷ u ∷ st) base outward (compare_by r (is_some d)) ≡ GoesOn (q + 1) (Deeds.bit (compares r (number_by d u) (number_by d v)) ∷ st)
    go comparison.Equal d = ap (λ b. GoesOn (q + 1) (Deeds.bit b ∷ st)) (kept d)
    go comparison.Unequal d = ap (λ b. GoesOn (q + 1) (Deeds.bit (not b) ∷ st)) (kept d)
    go comparison.Less None = refl
    go comparison.Less (Some n) = refl
    go comparison.AtMost None = refl
    go comparison.AtMost (Some n) = refl
    go comparison.Greater None = refl
    go comparison.Greater (Some n) = refl
    go comparison.AtLeast None = refl
    go comparison.AtLeast (Some n) = refl

-- ---- cells laid over others

pub laid_nothing : (cs : List ℤ) → Values.laid cs zero [] ≡ cs
laid_nothing [] = refl
laid_nothing (c ∷ cs) = refl

pub laid_nil : (cs : List ℤ) (n : ℕ) → Values.laid cs n [] ≡ cs
laid_nil [] n = refl
laid_nil (c ∷ cs) zero = refl
laid_nil (c ∷ cs) (suc n) = ap (λ zs. c ∷ zs) (laid_nil cs n)

pub laid_length : (cs : List ℤ) (n : ℕ) (vs : List ℤ) → length (Values.laid cs n vs) ≡ length cs
laid_length [] n vs = refl
laid_length (c ∷ cs) zero [] = refl
laid_length (c ∷ cs) zero (v ∷ vs) = ap suc (laid_length cs zero vs)
laid_length (c ∷ cs) (suc n) vs = ap suc (laid_length cs n vs)

pub laid_next : (cs : List ℤ) (n : ℕ) (v : ℤ) (vs : List ℤ) → Values.laid (Values.laid cs (n + 1) vs) n (v ∷ []) ≡ Values.laid cs n (v ∷ vs)
laid_next [] n v vs = refl
laid_next (c ∷ cs) zero v vs = ap (λ zs. v ∷ zs) (laid_nothing (Values.laid cs zero vs))
laid_next (c ∷ cs) (suc n) v vs = let e : suc n + 1 ≡ suc (n + 1) = omega arith in ap (λ m. Values.laid (Values.laid (c ∷ cs) m vs) (suc n) (v ∷ [])) e ∙ ap (λ zs. c ∷ zs) (laid_next cs n v vs)

pub laid_one : (a j : ℕ) (cs : List ℤ) (n : ℕ) (v : ℤ) (w : ℕ → What) (b : ℕ) → n < length cs → cond (nat_eq (a + n) b) (Keeps v) (laid_what a j kept_what cs w b) ≡ laid_what a j kept_what (Values.laid cs n (v ∷ [])) w b
laid_one a j [] n v w b lt = absurd (omega arith)
laid_one a j (c ∷ cs) zero v w b lt =
    let z : a + 0 ≡ a = omega arith in
    ap (λ q. cond (nat_eq q b) (Keeps v) (cond (nat_eq a b) (Keeps c) (laid_what (a + 1) (j + 1) kept_what cs w b))) z ∙ same (nat_eq a b) ∙ ap (λ zs. cond (nat_eq a b) (Keeps v) (laid_what (a + 1) (j + 1) kept_what zs w b)) (sym (laid_nothing cs))
  where
    same : (t : Bool) → cond t (Keeps v) (cond t (Keeps c) (laid_what (a + 1) (j + 1) kept_what cs w b)) ≡ cond t (Keeps v) (laid_what (a + 1) (j + 1) kept_what cs w b)
    same true = refl
    same false = refl
laid_one a j (c ∷ cs) (suc n) v w b lt =
    let z : a + suc n ≡ a + 1 + n = omega arith in
    ap (λ q. cond (nat_eq q b) (Keeps v) (cond (nat_eq a b) (Keeps c) (laid_what (a + 1) (j + 1) kept_what cs w b))) z
    ∙ swap (nat_eq (a + 1 + n) b) (nat_eq a b) refl refl
    ∙ ap (λ q. cond (nat_eq a b) (Keeps c) q) (laid_one (a + 1) (j + 1) cs n v w b (omega (arith, lt)))
  where
    swap : (t u : Bool) → nat_eq (a + 1 + n) b ≡ t → nat_eq a b ≡ u → cond t (Keeps v) (cond u (Keeps c) (laid_what (a + 1) (j + 1) kept_what cs w b)) ≡ cond u (Keeps c) (cond t (Keeps v) (laid_what (a + 1) (j + 1) kept_what cs w b))
    swap true true e e' = absurd (let z : a + 1 + n ≡ b = eqb-true (a + 1 + n) b e in let z' : a ≡ b = eqb-true a b e' in omega (arith, z, z'))
    swap true false e e' = refl
    swap false true e e' = refl
    swap false false e e' = refl

pub laid_more : (a i j : ℕ) (cur : List ℤ) (n : ℕ) (vs : List ℤ) (w : ℕ → What) (b : ℕ) → n + length vs ≤ length cur → laid_what (a + n) i kept_what vs (laid_what a j kept_what cur w) b ≡ laid_what a j kept_what (Values.laid cur n vs) w b
laid_more a i j cur n [] w b le = ap (λ z. laid_what a j kept_what z w b) (sym (laid_nil cur n))
laid_more a i j cur n (v ∷ vs) w b le =
    let z : a + n + 1 ≡ a + (n + 1) = omega arith in
    let len : length (Values.laid cur (n + 1) vs) ≡ length cur = laid_length cur (n + 1) vs in
    ap (λ q. cond (nat_eq (a + n) b) (Keeps v) q) (ap (λ m. laid_what m (i + 1) kept_what vs (laid_what a j kept_what cur w) b) z ∙ laid_more a (i + 1) j cur (n + 1) vs w b (omega (arith, le)))
    ∙ laid_one a j (Values.laid cur (n + 1) vs) n v w b (omega (arith, le, len))
    ∙ ap (λ z. laid_what a j kept_what z w b) (laid_next cur n v vs)

-- the same is known of ghosts that are alike
pub knows_alike : {limit : ℕ} {cuts : ℕ → ℕ → List ℕ} {g : Ghost} {f : Fixed} {s : Sight} {env : Env} (w : ℕ → What) → ((a : ℕ) → g.what a ≡ w a) → Knows limit cuts g f s env → Knows limit cuts (record g { what = w }) f s env
knows_alike {limit} {g} {f} {s} {env} w e k = record {
  most = k.most;
  nested = k.nested;
  plan = k.plan;
  kept = k.kept;
  top = k.top;
  outside = k.outside;
  old = k.old;
  hidden = k.hidden;
  beyond = λ b le. sym (e b) ∙ k.beyond b le;
  global = λ z n q. main_more z refl more (k.global z n q);
  one = λ b c x y p q q'. k.one b c x y p (e b ∙ q) (e c ∙ q');
  object = λ z n q. refers_more more (k.object z n q);
  parameter = λ j w q. holds_more f w (env.parameter j) more (k.parameter j w q);
  item = λ j n q. refers_more more (k.item j n q);
  constant_item = λ j n q. refers_more more (k.constant_item j n q);
  target = λ n q. refers_more more (k.target n q);
  handled = λ w q. holds_more f w _ more (k.handled w q);
  free = λ n le lt. sym (e (f.base + n)) ∙ k.free n le lt;
}
  where
    more : Extends g (record g { what = w })
    more = record { top = le_refl g.top; place = λ z i p q. q; solid = λ b u ok q. sym (e b) ∙ q }

module _ (limit : ℕ) (c : Code) (f : Fixed) (x : Ends) where
  -- the first free cell keeps the number on the stack
  pub does_hold : {cuts : ℕ → ℕ → List ℕ} {A : Type 0} {g : Ghost} {s : Sight} {env : Env} {q : A → Type 0} {m : Stored A} {to : A → Dyn → Step} (at_ : ℕ) (v : ℤ) (st : List ℤ) → s.scope.free < s.cells → Knows limit cuts g f s env → At c at_ (i.StoreL s.scope.free) x.entry
      → (Knows limit cuts (set_what (f.base + s.scope.free) (Keeps v) g) f (taking 1 s) env → Runs limit c f x (set_what (f.base + s.scope.free) (Keeps v) g) q m (λ d. on f (at_ + 1) st d) to)
      → Runs limit c f x g q m (λ d. on f at_ (v ∷ st) d) to
  does_hold {A} {g} {s} {env} {q} {m} {to} at_ v st room k a j =
      let free : g.what (f.base + s.scope.free) ≡ Free = k.free s.scope.free (le_refl s.scope.free) room in
      does_keep limit c f x at_ s.scope.free v st (own_free (g.what (f.base + s.scope.free)) free) a
      (does_weak limit c f x (λ s' d fit. fit_unset (f.base + s.scope.free) v free fit) (j (knows_keep v room k)))

module _ (limit : ℕ) (cuts : ℕ → ℕ → List ℕ) (program : Program) (c : Code) (f : Fixed) (x : Ends) (calls : ℕ → ℕ → Stored (Unit {0}) → List Passed → Stored Returned) (globals : ℕ → Entity → Option Named) (mains : Entity → Bool) (epar : Sight → Expr → Type 0) (calls_do : InnerDo limit cuts program globals mains epar c f calls) where
  abbrev pub ops : Operations {1}
  ops = stored.noted_operations limit cuts

  abbrev pub evals : Expr → Env → Stored ℤ
  evals e env = Meaning.eval ops limit program calls e env

  -- from some operands on, to a number more
  abbrev pub Gives : Ghost → Stored ℤ → ℕ → ℕ → List ℤ → Type 0
  Gives g m from to st = Runs limit c f x g any m (λ d. on f from st d) (λ v d. on f to (v ∷ st) d)

  pub ends_at : (g : Ghost) (m : Stored ℤ) (from to to' : ℕ) (st : List ℤ) → to' ≡ to → Gives g m from to st → Gives g m from to' st
  ends_at g m from to to' st e k = subst (λ q. Gives g m from q st) (sym e) k

  -- an instruction that pushes a value
  pub push_does : {g : Ghost} {from to : ℕ} {j : Instr} {e : Option ℕ} (v : ℤ) (st : List ℤ) → At c from j e → to ≡ from + 1 → deed_of c from (st ++ f.below) f.base f.outward j ≡ GoesOn (from + 1) (v ∷ (st ++ f.below)) → Gives g (stored.ret v) from to st
  push_does {g} {from} {to} v st at e is = ends_at g (stored.ret v) from (from + 1) to st e (does_before limit c f x (λ d. comes_goes limit c f st (from + 1) (v ∷ st) d at is) (does_ret limit c f x v tt))

  pub negate_is : (kind : CheckKind) (token : ℕ) (b : Bool) (v : ℤ) (s : stored.State) → (stored.bind (stored.checks kind token b) (λ _. stored.ret v)).does s ≡ stored.at s (outcome (fits_or b v))
  unfolding stored.bind stored.ret stored.leaves
  negate_is kind token true v s = refl
  negate_is kind token false v s = refl

  pub within_is : (b : _) (z : ℤ) → within b (Some z) ≡ fits_or (is_in_base b z) z
  within_is b z = go (is_in_base b z)
    where
      go : (t : Bool) → (Rattle.std.specs.Prelude.if◌then◌else◌ t (Some z) None) ≡ cond t (Some z) None
      go true = refl
      go false = refl

  -- a type that isn't modular: the result is tested
  minus_does : {g : Ghost} {q : ℕ} (b : Base) (j : Instr) (token : ℕ) (v : ℤ) (st : List ℤ) → At c q j x.entry → deed_of c q (v ∷ st ++ f.below) f.base f.outward j ≡ pushed q (within b (Some (pos 0 -ℤ v))) (st ++ f.below)
      → Runs limit c f x g any (stored.bind (stored.checks OverflowCheck token (is_in_base b (neg_ℤ v))) (λ _. stored.ret (neg_ℤ v))) (λ d. on f q (v ∷ st) d) (λ z d. on f (q + 1) (z ∷ st) d)
  minus_does {g} {q} b j token v st at deed =
      does_pushed limit c f x (fits_or (is_in_base b (neg_ℤ v)) (neg_ℤ v)) (v ∷ st) st (negate_is OverflowCheck token (is_in_base b (neg_ℤ v)) (neg_ℤ v)) at
      (deed ∙ ap (λ o. pushed q o (st ++ f.below)) (ap (λ z. within b (Some z)) (minus v) ∙ within_is b (neg_ℤ v)))
    where
      minus : (v : ℤ) → pos 0 -ℤ v ≡ neg_ℤ v
      minus v = omega (arith, ints)

  abs_does : {g : Ghost} {q : ℕ} (b : Base) (j : Instr) (token : ℕ) (v : ℤ) (st : List ℤ) → At c q j x.entry → deed_of c q (v ∷ st ++ f.below) f.base f.outward j ≡ pushed q (within b (Some (pos (nat_abs v)))) (st ++ f.below)
      → Runs limit c f x g any (stored.bind (stored.checks OverflowCheck token (is_in_base b (pos (nat_abs v)))) (λ _. stored.ret (pos (nat_abs v)))) (λ d. on f q (v ∷ st) d) (λ z d. on f (q + 1) (z ∷ st) d)
  abs_does {g} {q} b j token v st at deed =
      does_pushed limit c f x (fits_or (is_in_base b (pos (nat_abs v))) (pos (nat_abs v))) (v ∷ st) st (negate_is OverflowCheck token (is_in_base b (pos (nat_abs v))) (pos (nat_abs v))) at
      (deed ∙ ap (λ o. pushed q o (st ++ f.below)) (within_is b (pos (nat_abs v))))

  -- a value that nothing tests
  value_is : (v : ℤ) (s : stored.State) → (stored.bind (stored.ret (tt {0})) (λ _. stored.ret v)).does s ≡ stored.at s (outcome (Some v))
  unfolding stored.bind stored.ret
  value_is v s = refl

  untested_does : {g : Ghost} {q : ℕ} (j : Instr) (v z : ℤ) (st : List ℤ) → At c q j x.entry → deed_of c q (v ∷ st ++ f.below) f.base f.outward j ≡ pushed q (Some z) (st ++ f.below)
      → Runs limit c f x g any (stored.bind (stored.ret (tt {0})) (λ _. stored.ret z)) (λ d. on f q (v ∷ st) d) (λ z d. on f (q + 1) (z ∷ st) d)
  untested_does j v z st at deed = does_pushed limit c f x (Some z) (v ∷ st) st (value_is z) at deed

  pub unary_does : {g : Ghost} {q : ℕ} (sg : Sign) (token : ℕ) (class : Class) (v : ℤ) (st : List ℤ) → At c q (unary_instr sg class) x.entry
      → Runs limit c f x g any (stored.bind (Meaning.unary_checked ops sg token class (Values.unary sg class v)) (λ _. stored.ret (Values.unary sg class v))) (λ d. on f q (v ∷ st) d) (λ z d. on f (q + 1) (z ∷ st) d)
  unary_does {g} {q} sign.Minus token (class.Integer (Modulo k)) v st at = untested_does _ v _ st at refl
  unary_does {g} {q} sign.Abs token (class.Integer (Modulo k)) v st at = untested_does _ v _ st at (ap (λ z. pushed q (Some z) (st ++ f.below)) (sym (turned_twice v)))
  unary_does {g} {q} sign.Not token (class.Integer (Modulo k)) v st at = untested_does _ v _ st at refl
  unary_does {g} {q} sign.Minus token class v st at = minus_does (base_of class) _ token v st at refl
  unary_does {g} {q} sign.Abs token class v st at = abs_does (base_of class) _ token v st at refl
  unary_does {g} {q} sign.Not token class v st at = untested_does _ v _ st at (ap (λ z. pushed q (Some z) (st ++ f.below)) (bit_same (not (Deeds.truth v)) ∙ ap (λ b. bit (not b)) (truth_same v)))

  -- an operator's left operand is on the stack, and the right one is pushed
  pushed_does : (e : Expr) (env : Env) {g : Ghost} (o : Op) (token : ℕ) (class : Class) (from to : ℕ) (s : Sight) (h : ℕ) (u : ℤ) (st : List ℤ) → s.scope.entry ≡ x.entry
      → ((m : ℕ) → Stands c (emit program s.scope (h + 1) e) from m → Gives g (evals e env) from m (u ∷ st))
      → Stands c (emit program s.scope (h + 1) e ⨟ one s.scope (h + 1 + 1) (binary_instr o class)) from to
      → Runs limit c f x g any (stored.bind (evals e env) (λ v. operate stored.doings stored.checks o token class u v)) (λ d. on f from (u ∷ st) d) (λ z d. on f to (z ∷ st) d)
  pushed_does e env {g} o token class from to s h u st en pushes l =
      let (m, l1, (j, z)) = stands_seq c from to (emit program s.scope (h + 1) e) (one s.scope (h + 1 + 1) (binary_instr o class)) l in
      subst (λ q. Runs limit c f x g any (stored.bind (evals e env) (λ v. operate stored.doings stored.checks o token class u v)) (λ d. on f from (u ∷ st) d) (λ z d. on f q (z ∷ st) d)) (sym z)
      (does_bind limit c f x (pushes m l1) (λ v _. does_operate limit c f x o token class u v st (at_entry en j)))

  -- it stands in the instruction, or is pushed
  pub operated_does : (e : Expr) (env : Env) {g : Ghost} (o : Op) (token : ℕ) (class : Class) (from to : ℕ) (s : Sight) (h : ℕ) (u : ℤ) (st : List ℤ) → s.scope.entry ≡ x.entry
      → ((m : ℕ) → Stands c (emit program s.scope (h + 1) e) from m → Gives g (evals e env) from m (u ∷ st))
      → Stands c (operated_by s.scope (h + 1) (static_instr o class e) (binary_instr o class) (emit program s.scope (h + 1) e)) from to
      → Runs limit c f x g any (stored.bind (evals e env) (λ v. operate stored.doings stored.checks o token class u v)) (λ d. on f from (u ∷ st) d) (λ z d. on f to (z ∷ st) d)
  operated_does (Static at value literal mentions) env {g} o token class from to s h u st en pushes l = by (fixed_instr o class value) refl l
    where
      by : (j : Option Instr) → fixed_instr o class value ≡ j → Stands c (operated_by s.scope (h + 1) j (binary_instr o class) (emit program s.scope (h + 1) (Static at value literal mentions))) from to
          → Runs limit c f x g any (stored.bind (stored.ret value) (λ v. operate stored.doings stored.checks o token class u v)) (λ d. on f from (u ∷ st) d) (λ z d. on f to (z ∷ st) d)
      by None is l = pushed_does (Static at value literal mentions) env o token class from to s h u st en pushes l
      by (Some j) is (a, z) =
          subst (λ q. Runs limit c f x g any (stored.bind (stored.ret value) (λ v. operate stored.doings stored.checks o token class u v)) (λ d. on f from (u ∷ st) d) (λ z d. on f q (z ∷ st) d)) (sym z)
          (does_returned limit c f x (λ v. operate stored.doings stored.checks o token class u v) value (does_fixed limit c f x o token class u value j st is (at_entry en a)))
  operated_does e env o token class from to s h u st en pushes l = pushed_does e env o token class from to s h u st en pushes l

  pub compare_deed : (q : ℕ) (r : Comparison) (class : Class) (u v : ℤ) (st : List ℤ) → deed_of c q (v ∷ u ∷ st) f.base f.outward (compare_instr r class) ≡ GoesOn (q + 1) (bit (compares r (number_in class u) (number_in class v)) ∷ st)
  compare_deed q r class u v st = compare_is c q f.base f.outward r class u v st ∙ ap (λ z. GoesOn (q + 1) (z ∷ st)) (bit_same (compares r (number_in class u) (number_in class v)))

  -- one of two ways, each of which pushes
  pub choice_does : {g : Ghost} {m n : Stored ℤ} (from to : ℕ) (a b : Emit) (s : Sight) (h : ℕ) (v : ℤ) (st : List ℤ) → s.scope.entry ≡ x.entry → Stands c (Rattle.ada_lower.specs.Sights.choose s.scope h (h + 1) a b) from to
      → ((from to : ℕ) → Stands c a from to → Gives g m from to st) → ((from to : ℕ) → Stands c b from to → Gives g n from to st)
      → Runs limit c f x g any (cond (truth v) m n) (λ d. on f from (v ∷ st) d) (λ z d. on f to (z ∷ st) d)
  choice_does {g} {m} {n} from to a b s h v st en l k j =
      let w = stands_choose c from to s h (h + 1) a b l in
      does_choice limit c f x v st (at_entry en w.test)
      (λ _. does_to limit c f x (λ z d. on f to (z ∷ st) d) (λ z d _. comes_goes limit c f (z ∷ st) to (z ∷ st) d w.jump refl) (k (from + 1) w.mid w.first))
      (λ _. j (w.mid + 1) to w.second)

  -- an optional name that is there
  pub address_stands : (s : Sight) (h : ℕ) (o : Option Named) (n : Named) (from to : ℕ) → o ≡ Some n → Stands c (address s.scope h o) from to → Stands c (one s.scope h (address_of n)) from to
  address_stands s h o n from to e l = subst (λ o. Stands c (address s.scope h o) from to) e l

  pub load_stands : (s : Sight) (h : ℕ) (o : Option Named) (n : Named) (from to : ℕ) → o ≡ Some n → Stands c (load_named s.scope h o) from to → Stands c (load s.scope h n) from to
  load_stands s h o n from to e l = subst (λ o. Stands c (load_named s.scope h o) from to) e l

  -- a step reads the cell of a part
  pub reads_by : {g : Ghost} {from : Dyn → Step} {to : ℤ → Dyn → Step} (y : ℕ → Entity) (r : ObjectPart) (o : ℕ) (first a total : ℕ) → r.object ≡ o → first ≤ r.offset → r.offset + 1 ≤ first + total → Spread g (y o) first total a
      → ((v : ℤ) (d : Dyn) → value_in (slice_get d.cells (a + (r.offset - first))) ≡ Some v → To limit c (from d) (to v d)) → Runs limit c f x g any (stored.reads (y r.object) r.offset) from to
  reads_by {g} y r o first a total is le lt spread k =
      let (p, access, here, stands) = spread.cell (r.offset - first) (omega (arith, le, lt)) in
      let z : first + (r.offset - first) ≡ r.offset = omega (arith, le) in
      does_read limit c f x (y r.object) r.offset (a + (r.offset - first)) p access (ap (λ u. place_in g (y u) r.offset) is ∙ ap (λ i. place_in g (y o) i) (sym z) ∙ here) stands k

  pub reads_at : {g : Ghost} {from to : ℕ} (y : ℕ → Entity) (r : ObjectPart) (o : ℕ) (first a total : ℕ) (st : List ℤ) → r.object ≡ o → first ≤ r.offset → r.offset + 1 ≤ first + total → Spread g (y o) first total a → At c from i.Load x.entry → to ≡ from + 1
      → Runs limit c f x g any (stored.reads (y r.object) r.offset) (λ d. on f from (pos (a + (r.offset - first)) ∷ st) d) (λ v d. on f to (v ∷ st) d)
  reads_at {g} {from} {to} y r o first a total st is le lt spread at e =
      subst (λ q. Runs limit c f x g any (stored.reads (y r.object) r.offset) (λ d. on f from (pos (a + (r.offset - first)) ∷ st) d) (λ v d. on f q (v ∷ st) d)) (sym e)
      (reads_by y r o first a total is le lt spread
      (λ v d w. Rattle.ada_lower.proofs.Names.comes_loads limit c f (a + (r.offset - first)) v (pos (a + (r.offset - first)) ∷ st) st d at refl w))

  -- an address is pushed, and moved on
  pub named_does : {A : Type 0} {g : Ghost} {q : A → Type 0} {m : Stored A} {to : A → Dyn → Step} {e : Option ℕ} (from mid : ℕ) (n : Named) (y : Entity) (first : ℕ) (st : List ℤ) (u : Refers g f n y first) → At c from (address_of n) e → mid ≡ from + 1
      → Runs limit c f x g q m (λ d. on f mid (pos (u.address + (first - first)) ∷ st) d) to → Runs limit c f x g q m (λ d. on f from st d) to
  named_does {A} {g} {q} {m} {to} from mid n y first st u j e k =
      let z : u.address + (first - first) ≡ u.address = omega arith in
      does_by limit c f x (λ t d fit. comes_address limit c f n u.address st d fit u.leads j)
      (subst (λ p. Runs limit c f x g q m (λ d. on f p (pos u.address ∷ st) d) to) e (subst (λ b. Runs limit c f x g q m (λ d. on f mid (pos b ∷ st) d) to) z k))

  -- whether the number in a cell is between that in the next one and the one on the stack
  pub min_bits : (a b : Bool) → int_min (Deeds.bit b) (Deeds.bit a) ≡ bit (a && b)
  min_bits true true = refl
  min_bits true false = refl
  min_bits false true = refl
  min_bits false false = refl

  min_of_bits : (a b : Bool) → int_min (bit b) (bit a) ≡ bit (a && b)
  min_of_bits true true = refl
  min_of_bits true false = refl
  min_of_bits false true = refl
  min_of_bits false false = refl

  pub comes_within : (s : Sight) (h : ℕ) (class : Class) (n from to : ℕ) (u l v : ℤ) (st : List ℤ) (d : Dyn) → value_in (slice_get d.cells (f.base + n)) ≡ Some u → value_in (slice_get d.cells (f.base + (n + 1))) ≡ Some l → Stands c (Emission.within s.scope h class n) from to
      → To limit c (on f from (v ∷ st) d) (on f to (bit (is_member class l u v) ∷ st) d)
  comes_within s h class n from to u l v st d eu el (j1, (j2, (j3, (j4, (j5, (j6, z)))))) =
      let high : Bool = int_le (number_in class u) (number_in class v) in
      let low : Bool = int_le (number_in class l) (number_in class u) in
      comes_on limit c (Rattle.ada_lower.proofs.Names.comes_loads limit c f (f.base + n) u (v ∷ st) (v ∷ st) d j1 refl eu)
      (comes_on limit c (comes_goes limit c f (u ∷ v ∷ st) (from + 1 + 1) (bit high ∷ st) d j2 (compare_deed (from + 1) comparison.AtLeast class v u (st ++ f.below)))
      (comes_on limit c (Rattle.ada_lower.proofs.Names.comes_loads limit c f (f.base + (n + 1)) l (bit high ∷ st) (bit high ∷ st) d j3 refl el)
      (comes_on limit c (Rattle.ada_lower.proofs.Names.comes_loads limit c f (f.base + n) u (l ∷ bit high ∷ st) (l ∷ bit high ∷ st) d j4 refl eu)
      (comes_on limit c (comes_goes limit c f (u ∷ l ∷ bit high ∷ st) (from + 1 + 1 + 1 + 1 + 1) (bit low ∷ bit high ∷ st) d j5 (compare_deed (from + 1 + 1 + 1 + 1) comparison.AtMost class l u (bit high ∷ st ++ f.below)))
      (subst (λ q. To limit c (on f (from + 1 + 1 + 1 + 1 + 1) (bit low ∷ bit high ∷ st) d) (on f q (bit (low && high) ∷ st) d)) (sym z)
      (comes_goes limit c f (bit low ∷ bit high ∷ st) (from + 1 + 1 + 1 + 1 + 1 + 1) (bit (low && high) ∷ st) d j6 (ap (λ b. GoesOn (from + 1 + 1 + 1 + 1 + 1 + 1) (b ∷ (st ++ f.below))) (min_of_bits low high))))))))

  pub flip_bit : (b : Bool) → Deeds.bit (not (Deeds.truth (bit b))) ≡ bit (not b)
  flip_bit true = refl
  flip_bit false = refl

  pub comes_negated : (s : Sight) (h from to : ℕ) (negated b : Bool) (st : List ℤ) (d : Dyn) → Stands c (Emission.negated_code s.scope h negated) from to → To limit c (on f from (bit b ∷ st) d) (on f to (bit (cond negated (not b) b) ∷ st) d)
  comes_negated s h from to true b st d (j, z) =
      subst (λ q. To limit c (on f from (bit b ∷ st) d) (on f q (bit (not b) ∷ st) d)) (sym z)
      (comes_goes limit c f (bit b ∷ st) (from + 1) (bit (not b) ∷ st) d j (ap (λ b. GoesOn (from + 1) (b ∷ (st ++ f.below))) (flip_bit b)))
  comes_negated s h from to false b st d z = subst (λ q. To limit c (on f from (bit b ∷ st) d) (on f q (bit b ∷ st) d)) (sym z) (comes_here limit c _)

  pub knows_two : {g : Ghost} {env : Env} (s : Sight) → Knows limit cuts g f (taking 1 (taking 1 s)) env → Knows limit cuts g f (taking 2 s) env
  knows_two {g} {env} s k = record { most = k.most; nested = k.nested; plan = k.plan; kept = k.kept; top = k.top; beyond = k.beyond; global = k.global; outside = k.outside; one = k.one; old = k.old; hidden = k.hidden; object = k.object; parameter = k.parameter; item = k.item; constant_item = k.constant_item; target = k.target; handled = k.handled; free = λ n le lt. k.free n (omega (arith, le)) lt }

  pub rows : (t n stride : ℕ) → t < n → t * stride + stride ≤ n * stride
  rows t n stride lt = let b : suc t * stride ≤ n * stride = mul-le-mul_right stride lt in omega (arith, b, suc-mul t stride)

  pub below_one : (n m : ℕ) → m ≤ n → 1 ≤ m → 0 < n
  below_one n m a b = omega (arith, a, b)

  pub ends_ret : {g : Ghost} (v : ℤ) (at to : ℕ) (st : List ℤ) → to ≡ at → Runs limit c f x g any (stored.ret v) (λ d. on f at (v ∷ st) d) (λ v d. on f to (v ∷ st) d)
  ends_ret {g} v at to st e = subst (λ q. Runs limit c f x g any (stored.ret v) (λ d. on f at (v ∷ st) d) (λ v d. on f q (v ∷ st) d)) (sym e) (does_ret limit c f x {to = λ v d. on f at (v ∷ st) d} v tt)

  pub fewer_kept_back : (a : ℕ) (vs : List ℤ) (g : Ghost) → ((k : ℕ) → k < length vs → g.what (a + k) ≡ Free) → Fewer limit c f x (keeping a vs g) g
  fewer_kept_back a vs g free b y p e = ⊎_elim
      (λ r. let (k, v, z, is) = r in absurd (let q : Free ≡ StandsFor y p = sym (free k (length_in vs k v is)) ∙ ap g.what z ∙ e in cc))
      (λ out. inl (laid_out a 0 kept_what vs g.what b out ∙ e))
      (among a b vs)

  pub fewer_one_more : (w n : ℕ) (vs : List ℤ) (v : ℤ) (g : Ghost) → f.base + w + length vs ≡ f.base + (w + n) → Fewer limit c f x (set_what (f.base + (w + n)) (Keeps v) (keeping (f.base + w) vs g)) (keeping (f.base + w) (vs ++ (v ∷ [])) g)
  fewer_one_more w n vs v g next b y p e = inl (ap (λ q. (set_what q (Keeps v) (keeping (f.base + w) vs g)).what b) (sym next) ∙ keep_one_more (f.base + w) vs v g b ∙ e)
