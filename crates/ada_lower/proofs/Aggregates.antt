-- Components of aggregates: runs of them, and the loops of values that take turns.
use Rattle.std.proofs.Common.{◌≡◌, ℕ, zero, suc, ◌+◌, ◌-◌, ◌*◌, ◌<◌, ◌≤◌, ℤ, pos, ◌-ℤ◌, List, [], ◌∷◌, ◌++◌, length, set, slice_get, nat_eq, nat_lt, ◌&&◌, Option, Some, None, Bool, true, false, cond, refl, sym, ap, ◌∙◌, subst, le_refl, arith, inl, inr, ⊎_elim, suc-mul, append-nil, ◌+ℤ◌, zero-mul, eqb-true, ltb-true}
use Rattle.behaviours.specs.Paths.{Entity}
use Rattle.typed_tree.specs.Syntax.{Expr, Number, Cells, Program, Value}
use Rattle.ada_meaning.specs.Values
use Rattle.ada_meaning.specs.Values.{between, truth, bit, to_nat, count, compares, base_of, is_equal}
use Rattle.ada_meaning.specs.Operations.{RangeCheck, Operations}
use Rattle.ada_meaning.specs.Stored as stored
use Rattle.ada_meaning.specs.Stored.{Stored, Cause, Left, Address}
use Rattle.ada_meaning.specs.Meaning.{Env, ObjectPart, Passed, Returned, variable_root, constant_root}
use Rattle.stack_code.specs.declared.code.Code.{Code}
use Rattle.ada_base.specs.Cells.{Mine}
use Rattle.stack_code.specs.Deeds.{GoesOn}
use Rattle.ada_lower.specs.Driven.{Dyn, Fixed, Step, on, At, On, state_of, driven}
use Rattle.ada_lower.specs.Sights.{Emit, Named, Sight, Stands, Where, iterated_sight, looped, none, one, own, taking, when_, with_parameter, ◌⨟◌}
use Rattle.ada_lower.specs.Emission
use Rattle.ada_lower.specs.Emission.{emit, selected, load, binary_instr, unary_instr, compare_instr, Shape, shapes, shapes_cells}
use Rattle.ada_lower.specs.Fits.{Free, Keeps, Ghost, Ends, place_in, Spread, Knows, Stands as StandsFor, Holds, Fit}
use Rattle.ada_lower.specs.Fitted.{Fitted, FittedRuns, FittedValue, FittedComponent}
use Rattle.ada_lower.proofs.Framework.{any, To, Doing, comes_here, comes_on, comes_goes, does_seq, does_assoc, does_before, does_returned, comes_as}
use Rattle.ada_lower.proofs.Memory.{set_what, own_free, fit_set, what_other, fit_alike, IsOwn, own_keeps, at_same}
use Rattle.ada_lower.proofs.Standing.{stands_seq, stands_looped, stands_when}
use Rattle.ada_lower.proofs.Parts.{Runs, Fewer, bit_same, does_first, does_keep, does_check, truth_same}
use Rattle.ada_lower.proofs.Declared.{keeping, knows_kept, laid_out, kept_what, among, get_of, laid_in}
use Rattle.ada_lower.proofs.Blocks.{equal_numbers, fit_unkept}
use Rattle.ada_lower.proofs.Courses.{at_entry}
use Rattle.ada_lower.proofs.Items.{comes_stores}
use Rattle.ada_lower.proofs.Courses.{comes_kept}
use Rattle.ada_lower.proofs.Names.{does_by}
use Rattle.typed_tree.specs.declared.expressions.Iterated.{Iterated}
use Rattle.ada_meaning.proofs.Cells.{some_same}
use Rattle.std.proofs.lemmas.Bool.{ne_eqb}
use Rattle.std.proofs.lemmas.Int.{ints}
use Rattle.typed_tree.specs.declared.expressions.Run.{Run}
use Rattle.ada_lower.proofs.Leaving.{does_turn}
use Rattle.ada_lower.proofs.Copies.{stores_done}
use Rattle.ada_lower.proofs.Doubled.{many, many_length, copy_comes, doubled_comes}
use Rattle.ada_lower.proofs.Turnings.{knows_taken, turns_at, turn_address, turn_parameter, turn_other, turn_enters, fewer_enters, turn_kept, turn_alike, fewer_turn, fit_turns, fewer_turns, knows_turns, turn_last, turn_more, kept_once, fewer_once}
use Rattle.ada_lower.proofs.Plain.{Steady, both, copies, copies_are, does_again}
use Rattle.ada_meaning.specs.Meaning
use Rattle.stack_code.specs.declared.instr.Instr.TheVariants as i
use Rattle.ada_lower.proofs.Operands.{laid_length, laid_more, knows_alike}

module _ (limit : ℕ) (cuts : ℕ → ℕ → List ℕ) (program : Program) (c : Code) (f : Fixed) (x : Ends) (calls : ℕ → ℕ → Stored (Unit {0}) → List Passed → Stored Returned) (globals : ℕ → Entity → Option Named) (mains : Entity → Bool) (epar : Sight → Expr → Type 0) where
  abbrev pub ops : Operations {1}
  ops = stored.noted_operations limit cuts

  abbrev pub evals : Expr → Env → Stored ℤ
  evals e env = Meaning.eval ops limit program calls e env

  -- from some operands on, to a number more
  abbrev pub Gives : Ghost → Stored ℤ → ℕ → ℕ → List ℤ → Type 0
  Gives g m from to st = Runs limit c f x g any m (λ d. on f from st d) (λ v d. on f to (v ∷ st) d)

  -- what is done with cells that stand from a cell on
  abbrev pub Then : {B : Type 0} → Ghost → Ghost → (B → Type 0) → (B → Dyn → Step) → ℕ → ℕ → ℕ → List ℤ → (List ℤ → Stored B) → Type 0
  Then g j q goal t n to st then = (cs : List ℤ) → length cs ≡ n → Doing limit c f x (keeping (f.base + t) cs g) j q (then cs) (λ d. on f to st d) goal

  -- cells that are to hold a value: what is in them doesn't matter to what is known
  pub record Room (g j : Ghost) (s : Sight) (env : Env) (t n : ℕ) : Type 0 where
    pub below : t + n ≤ s.scope.free
    pub own : (k : ℕ) → k < n → IsOwn (g.what (f.base + t + k))
    pub knows : Knows limit cuts g f s env
    pub weak : (u : stored.State) (d : Dyn) → Fit g u d → Fit j u d
    pub kept : (cs : List ℤ) → length cs ≡ n → Knows limit cuts (keeping (f.base + t) cs g) f s env
    pub less : (cs : List ℤ) → length cs ≡ n → (u : stored.State) (d : Dyn) → Fit (keeping (f.base + t) cs g) u d → Fit j u d

  -- what is asked of a value's code
  abbrev pub Into : Value → Type 1
  Into value = (B : Type 0) (g j : Ghost) (env : Env) (q : B → Type 0) (goal : B → Dyn → Step) (s : Sight) (h t n : ℕ) (st : List ℤ) → Room g j s env t n → s.scope.entry ≡ x.entry → (from to : ℕ) (then : List ℤ → Stored B)
      → FittedValue program globals mains epar s n value → Stands c (Emission.put_into program s.scope h t value) from to → Then g j q goal t n to st then
      → Doing limit c f x g j q (stored.bind (Meaning.cells ops limit program calls value env) then) (λ d. on f from st d) goal

  -- the cells of a component among those of a value
  pub within_more : (g : Ghost) (t first : ℕ) (cur cs : List ℤ) → first + length cs ≤ length cur → (b : ℕ) → (keeping (f.base + (t + first)) cs (keeping (f.base + t) cur g)).what b ≡ (keeping (f.base + t) (Values.laid cur first cs) g).what b
  within_more g t first cur cs le b =
      let e : f.base + (t + first) ≡ f.base + t + first = omega arith in
      ap (λ a. (keeping a cs (keeping (f.base + t) cur g)).what b) e ∙ laid_more (f.base + t) 0 0 cur first cs g.what b le

  within_back : (g : Ghost) (t first : ℕ) (cur cs : List ℤ) → first + length cs ≤ length cur → {u : stored.State} {d : Dyn} → Fit (keeping (f.base + (t + first)) cs (keeping (f.base + t) cur g)) u d → Fit (keeping (f.base + t) (Values.laid cur first cs) g) u d
  within_back g t first cur cs le w = fit_alike (keeping (f.base + t) (Values.laid cur first cs) g).what (within_more g t first cur cs le) w

  pub room_in : {g j : Ghost} {s : Sight} {env : Env} (t n first m : ℕ) (cur : List ℤ) → length cur ≡ n → first + m ≤ n → Room g j s env t n → Room (keeping (f.base + t) cur g) j s env (t + first) m
  room_in {g} {j} {s} {env} t n first m cur len le r = record {
    below = let z = r.below in omega (arith, z, le);
    own = λ k lt. owned k lt;
    knows = r.kept cur len;
    weak = r.less cur len;
    kept = λ cs l. knows_alike (keeping (f.base + (t + first)) cs (keeping (f.base + t) cur g)).what (λ a. sym (within_more g t first cur cs (omega (arith, l, len, le)) a)) (r.kept (Values.laid cur first cs) (laid_length cur first cs ∙ len));
    less = λ cs l u d w. r.less (Values.laid cur first cs) (laid_length cur first cs ∙ len) u d (within_back g t first cur cs (omega (arith, l, len, le)) w);
  }
    where
      owned : (k : ℕ) → k < m → IsOwn ((keeping (f.base + t) cur g).what (f.base + (t + first) + k))
      owned k lt =
          let (old, is) = get_of cur (first + k) (omega (arith, lt, le, len)) in
          let place : f.base + (t + first) + k ≡ f.base + t + (first + k) = omega arith in
          own_keeps ((keeping (f.base + t) cur g).what (f.base + (t + first) + k)) old (ap (keeping (f.base + t) cur g).what place ∙ laid_in (f.base + t) 0 kept_what cur g.what (first + k) old is)

  -- what is asked of a component's code, in one turn.scope
  abbrev pub Each : Env → Sight → ℕ → ℕ → List ℤ → (ℕ → Emit) → (ℕ → Stored (List ℤ)) → Type 1
  Each env s t m st comp val = (B : Type 0) (g j : Ghost) (q : B → Type 0) (goal : B → Dyn → Step) (k first : ℕ) → Room g j s env (t + first) m → (from to : ℕ) (then : List ℤ → Stored B) → Stands c (comp first) from to → Then g j q goal (t + first) m to st then
      → Doing limit c f x g j q (stored.bind (val k) then) (λ d. on f from st d) goal

  pub each_plain : (value : Value) → Into value → (env : Env) (s : Sight) (h t m : ℕ) (st : List ℤ) → s.scope.entry ≡ x.entry → FittedValue program globals mains epar s m value
      → Each env s t m st (λ n. Emission.put_into program s.scope h (t + n) value) (λ k. stored.bind (stored.ret (tt {0})) (λ _. Meaning.cells ops limit program calls value env))
  each_plain value one env s h t m st en w B g j q goal k first room from to then l go =
      does_assoc limit c f x (stored.ret (tt {0})) _ then
      (does_returned limit c f x (λ _. stored.bind (Meaning.cells ops limit program calls value env) then) (tt {0})
      (one B g j env q goal s h (t + first) m st room en from to then w l go))

  knows_given : {g : Ghost} {s : Sight} {env : Env} (k : ℕ) (w : Where) (v : ℤ) → Knows limit cuts g f s env → Holds g f w v → Knows limit cuts g f (with_parameter k w s) (Meaning.with_parameter k v env)
  knows_given {g} {s} {env} p w v k h = record {
    most = k.most;
    nested = k.nested;
    plan = k.plan;
    kept = k.kept;
    top = k.top;
    beyond = k.beyond;
    global = k.global;
    outside = k.outside;
    one = k.one;
    old = k.old;
    hidden = k.hidden;
    object = k.object;
    item = k.item;
    constant_item = k.constant_item;
    target = k.target;
    handled = k.handled;
    free = k.free;
    parameter = λ j w' e. go j (nat_eq j p) w' e;
  }
    where
      go : (j : ℕ) (b : Bool) (w' : Where) → cond b (Some w) (s.scope.parameter j) ≡ Some w' → Holds g f w' (cond b v (env.parameter j))
      go j true w' e = subst (λ w. Holds g f w v) (some_same w w' e) h
      go j false w' e = k.parameter j w' e

  runs_do : {B : Type 0} {g j : Ghost} {env : Env} {q : B → Type 0} {goal : B → Dyn → Step} (comp : ℕ → Emit) (val : ℕ → Stored (List ℤ)) (s : Sight) (t n m : ℕ) (st : List ℤ) → Each env s t m st comp val → Room g j s env t n
      → (count i first stride from to : ℕ) (cur : List ℤ) (then : List ℤ → Stored B) → length cur ≡ n → ((i : ℕ) → i < count → first + i * stride + m ≤ n)
      → Stands c (Emission.filling comp count first stride) from to
      → Then g j q goal t n to st then
      → Doing limit c f x (keeping (f.base + t) cur g) j q (stored.bind (Meaning.run_values ops i count first stride val cur) then) (λ d. on f from st d) goal
  runs_do {g = g} {j = j} {q = q} {goal = goal} comp val s t n m st each room zero i first stride from to cur then len inn l go =
      does_returned limit c f x then cur (subst (λ p. Doing limit c f x (keeping (f.base + t) cur g) j q (then cur) (λ d. on f p st d) goal) l (go cur len))
  runs_do {B} {g} {j} {env} {q} {goal} comp val s t n m st each room (suc count) i first stride from to cur then len inn l go =
      let (m1, l1, l2) = stands_seq c from to (comp first) (Emission.filling comp count (first + stride) stride) l in
      let at0 : first + 0 * stride ≡ first = omega (arith, zero-mul stride) in
      let here : first + m ≤ n = subst (λ z. z + m ≤ n) at0 (inn 0 (omega arith)) in
      let more : List ℤ → Stored B = (λ cs. stored.bind (Meaning.run_values ops (i + 1) count (first + stride) stride val (Values.laid cur first cs)) then) in
      does_assoc limit c f x _ _ then
      (each B (keeping (f.base + t) cur g) j q goal i first (room_in t n first m cur len here room) from m1 more l1 (λ cs cl.
      let le : first + length cs ≤ length cur = omega (arith, here, cl, len) in
      does_first limit c f x (λ b y p z. inl (within_more g t first cur cs le b ∙ z)) (λ t' d' w'. (d', within_back g t first cur cs le w', comes_here limit c (on f m1 st d')))
      (runs_do comp val s t n m st each room count (i + 1) (first + stride) stride m1 to (Values.laid cur first cs) then (laid_length cur first cs ∙ len)
      (λ k lt. let z = inn (suc k) (omega (arith, lt)) in omega (arith, z, suc-mul k stride)) l2 go)))

  -- numbers that are laid over others stand for no cells of objects
  fewer_within : (g : Ghost) (t first : ℕ) (cur cs all : List ℤ) → first + length all ≤ length cur → first + length cs ≤ length cur → Fewer limit c f x (keeping (f.base + (t + first)) cs (keeping (f.base + t) cur g)) (keeping (f.base + t) (Values.laid cur first all) g)
  fewer_within g t first cur cs all le le' b y p e =
      let final : List ℤ = Values.laid cur first all in
      let same : length final ≡ length cur = laid_length cur first all in
      ⊎_elim
      (λ r. let (k, v, z, is) = r in absurd (let q : Keeps v ≡ StandsFor y p = sym (laid_in (f.base + t) 0 kept_what final g.what k v is) ∙ ap (keeping (f.base + t) final g).what z ∙ e in cc))
      (λ out. inl (laid_out (f.base + (t + first)) 0 kept_what cs (keeping (f.base + t) cur g).what b (⊎_elim (λ lt. inl (omega (arith, lt))) (λ ge. inr (omega (arith, ge, le', same))) out)
      ∙ laid_out (f.base + t) 0 kept_what cur g.what b (⊎_elim (λ lt. inl lt) (λ ge. inr (omega (arith, ge, same))) out)
      ∙ sym (laid_out (f.base + t) 0 kept_what final g.what b out) ∙ e))
      (among (f.base + t) b final)

  -- what is computed for the first component of a run is copied to the others
  run_copied : {B : Type 0} {g j : Ghost} {env : Env} {q : B → Type 0} {goal : B → Dyn → Step} (comp : ℕ → Emit) (val : Stored (List ℤ)) (s : Sight) (h t n m : ℕ) (st : List ℤ) → Each env s t m st comp (λ k. val) → Room g j s env t n → Steady val
      → (count first from to : ℕ) (cur : List ℤ) (then : List ℤ → Stored B) → length cur ≡ n → ((i : ℕ) → i < suc count → first + i * m + m ≤ n)
      → Stands c (comp first ⨟ Emission.doubled s.scope h (t + first) m (suc count) 1 (suc count)) from to
      → Then g j q goal t n to st then
      → Doing limit c f x (keeping (f.base + t) cur g) j q (stored.bind (Meaning.run_values ops 0 (suc count) first m (λ k. val) cur) then) (λ d. on f from st d) goal
  run_copied {B} {g} {j} {env} {q} {goal} comp val s h t n m st each room steady count first from to cur then len inn l go =
      let (m1, l1, l2) = stands_seq c from to (comp first) (Emission.doubled s.scope h (t + first) m (suc count) 1 (suc count)) l in
      let fits : first + suc count * m ≤ n = (let z : first + count * m + m ≤ n = inn count (omega arith) in omega (arith, z, suc-mul count m)) in
      let here : first + m ≤ n = (let z : first + 0 * m + m ≤ n = inn 0 (omega arith) in omega (arith, z, zero-mul m)) in
      does_again limit cuts c f x val steady 0 count first m cur then
      (each B (keeping (f.base + t) cur g) j q goal 0 first (room_in t n first m cur len here room) from m1 (λ cs. then (copies limit cuts (suc count) first m cs cur)) l1 (λ cs cl.
      let all : List ℤ = many (suc count) cs in
      let al : length all ≡ suc count * m = subst (λ z. length all ≡ suc count * z) cl (many_length (suc count) cs) in
      let le : first + length all ≤ length cur = omega (arith, al, fits, len) in
      subst (λ z. Doing limit c f x (keeping (f.base + (t + first)) cs (keeping (f.base + t) cur g)) j q (then z) (λ d. on f m1 st d) goal) (sym (copies_are limit cuts (suc count) first m cs cur cl))
      (does_first limit c f x (fewer_within g t first cur cs all le (let z : first + length cs ≤ length cur = omega (arith, here, cl, len) in z))
      (λ t' d' w'.
      let (d2, w2, goes) = doubled_comes limit cuts c f x (keeping (f.base + t) cur g) t' d' s.scope h (t + first) m (suc count) 1 (suc count) m1 to cs st cl (le_refl 1) (omega arith) (omega arith)
      (λ k lt. (room_in t n first (suc count * m) cur len fits room).own k lt) l2
      (subst (λ z. Fit (keeping (f.base + (t + first)) z (keeping (f.base + t) cur g)) t' d') (sym (append-nil cs)) w') in
      (d2, within_back g t first cur all le w2, goes))
      (go (Values.laid cur first all) (laid_length cur first all ∙ len)))))

  -- the runs of an association
  pub all_runs : {B : Type 0} {g j : Ghost} {env : Env} {q : B → Type 0} {goal : B → Dyn → Step} (comp : ℕ → Emit) (val : Stored (List ℤ)) (s : Sight) (h t n m : ℕ) (st : List ℤ) (plain : Bool) → (plain ≡ true → Steady val) → Each env s t m st comp (λ k. val) → Room g j s env t n
      → (rs : List Run) (from to : ℕ) (cur : List ℤ) (then : List ℤ → Stored B) → length cur ≡ n → FittedRuns program globals mains n m rs
      → Stands c (Emission.fillings s.scope h t m plain comp rs) from to
      → Then g j q goal t n to st then
      → Doing limit c f x (keeping (f.base + t) cur g) j q (stored.bind (Meaning.runs_values ops rs (λ k. val) cur) then) (λ d. on f from st d) goal
  all_runs {g = g} {j = j} {q = q} {goal = goal} comp val s h t n m st plain steady each room [] from to cur then len ws l go =
      does_returned limit c f x then cur (subst (λ p. Doing limit c f x (keeping (f.base + t) cur g) j q (then cur) (λ d. on f p st d) goal) l (go cur len))
  all_runs {B} {g} {j} {env} {q} {goal} comp val s h t n m st plain steady each room (r ∷ rs) from to cur then len (wr, ws) l go =
      let (mid, l1, l2) = stands_seq c from to (cond (plain && (nat_lt 1 r.count && nat_eq r.stride m)) (comp r.first ⨟ Emission.doubled s.scope h (t + r.first) m r.count 1 r.count) (Emission.filling comp r.count r.first r.stride)) (Emission.fillings s.scope h t m plain comp rs) l in
      does_assoc limit c f x _ _ then
      (one_run (plain && (nat_lt 1 r.count && nat_eq r.stride m)) r.count r.first r.stride mid refl wr l1 (λ cs clen.
      all_runs comp val s h t n m st plain steady each room rs mid to cs then clen ws l2 go))
    where
      after : List ℤ → Stored B
      after cs = stored.bind (Meaning.runs_values ops rs (λ k. val) cs) then

      copied : (count first stride mid : ℕ) → 1 < count → stride ≡ m → plain ≡ true → ((i : ℕ) → i < count → first + i * stride + m ≤ n)
          → Stands c (comp first ⨟ Emission.doubled s.scope h (t + first) m count 1 count) from mid → Then g j q goal t n mid st after
          → Doing limit c f x (keeping (f.base + t) cur g) j q (stored.bind (Meaning.run_values ops 0 count first stride (λ k. val) cur) after) (λ d. on f from st d) goal
      copied zero first stride mid lt z p wr l go = absurd (omega (arith, lt))
      copied (suc count) first stride mid lt z p wr l go =
          subst (λ w. Doing limit c f x (keeping (f.base + t) cur g) j q (stored.bind (Meaning.run_values ops 0 (suc count) first w (λ k. val) cur) after) (λ d. on f from st d) goal) (sym z)
          (run_copied comp val s h t n m st each room (steady p) count first from mid cur after len (subst (λ w. (i : ℕ) → i < suc count → first + i * w + m ≤ n) z wr) l go)

      one_run : (b : Bool) (count first stride mid : ℕ) → (plain && (nat_lt 1 count && nat_eq stride m)) ≡ b → ((i : ℕ) → i < count → first + i * stride + m ≤ n)
          → Stands c (cond b (comp first ⨟ Emission.doubled s.scope h (t + first) m count 1 count) (Emission.filling comp count first stride)) from mid → Then g j q goal t n mid st after
          → Doing limit c f x (keeping (f.base + t) cur g) j q (stored.bind (Meaning.run_values ops 0 count first stride (λ k. val) cur) after) (λ d. on f from st d) goal
      one_run false count first stride mid e wr l go = runs_do comp (λ k. val) s t n m st each room count 0 first stride from mid cur after len wr l go
      one_run true count first stride mid e wr l go =
          let (p1, p2) = both plain (nat_lt 1 count && nat_eq stride m) e in
          let (p3, p4) = both (nat_lt 1 count) (nat_eq stride m) p2 in
          copied count first stride mid (ltb-true 1 count p3) (eqb-true stride m p4) p1 wr l go

  pub zeros_length : (n : ℕ) → length (Values.zeros n) ≡ n
  zeros_length zero = refl
  zeros_length (suc n) = ap suc (zeros_length n)

  pub fewer_kept : (a : ℕ) (vs : List ℤ) (g : Ghost) → Fewer limit c f x g (keeping a vs g)
  fewer_kept a vs g b y p e = ⊎_elim
      (λ r. let (k, v, z, is) = r in absurd (let q : Keeps v ≡ StandsFor y p = sym (laid_in a 0 kept_what vs g.what k v is) ∙ ap (keeping a vs g).what z ∙ e in cc))
      (λ out. inl (sym (laid_out a 0 kept_what vs g.what b out) ∙ e))
      (among a b vs)

  -- zeros are put into cells
  pub fill_goes : {g : Ghost} {t : stored.State} {d : Dyn} {q : ℕ} {e : Option ℕ} (n b : ℕ) (st : List ℤ) → ((k : ℕ) → k < n → IsOwn (g.what (b + k))) → At c q (i.Fill n (pos 0)) e → Fit g t d
      → (d' : Dyn) × Fit (keeping b (Values.zeros n) g) t d' × To limit c (on f q (pos b ∷ st) d) (on f (q + 1) st d')
  fill_goes {g} {t} {d} {q} n b st free at fit =
      let (d', fit', is, same) = stores_done limit cuts c f x {g = g} {t = t} (Values.zeros n) b q (pos b ∷ st) (GoesOn (q + 1) (st ++ f.below)) d (λ k lt. free k (omega (arith, lt, zeros_length n))) fit in
      (d', fit', comes_as limit c f (pos b ∷ st) d at (ap (λ w. driven limit c w d.world) is ∙ ap (λ w. On (record { state = state_of f (q + 1) st [] None d'; world = w })) (sym same)))

  -- a choice with what follows it
  pub either_do : {A B : Type 0} {g j : Ghost} {q : B → Type 0} {goal : B → Dyn → Step} (m n : Stored A) (then : A → Stored B) (at_ other : ℕ) (v : ℤ) (st : List ℤ) (b : Bool) → truth v ≡ b → At c at_ (i.JFalse other) x.entry
      → Doing limit c f x g j q (stored.bind m then) (λ d. on f (at_ + 1) st d) goal → Doing limit c f x g j q (stored.bind n then) (λ d. on f other st d) goal
      → Doing limit c f x g j q (stored.bind (cond b m n) then) (λ d. on f at_ (v ∷ st) d) goal
  either_do m n then at_ other v st true e a yes' no' = does_before limit c f x (λ d. comes_goes limit c f (v ∷ st) (at_ + 1) st d a (ap (λ b. GoesOn (cond b (at_ + 1) other) (st ++ f.below)) (truth_same v ∙ e))) yes'
  either_do m n then at_ other v st false e a yes' no' = does_before limit c f x (λ d. comes_goes limit c f (v ∷ st) other st d a (ap (λ b. GoesOn (cond b (at_ + 1) other) (st ++ f.below)) (truth_same v ∙ e))) no'

  pub spread_part : {g : Ghost} {y z : Entity} {total n a o o' : ℕ} → Spread g y o total a → z ≡ y → o ≤ o' → o' + n ≤ o + total → Spread g z o' n (a + (o' - o))
  spread_part {g} {y} {z} {total} {n} {a} {o} {o'} w e le lt = record {
    near = (let r = w.near in omega (arith, r, le, lt));
    cell = λ i il.
        let (pl, access, here, is) = w.cell (o' - o + i) (omega (arith, il, le, lt)) in
        let p : o + (o' - o + i) ≡ o' + i = omega (arith, le) in
        let p' : a + (o' - o + i) ≡ a + (o' - o) + i = omega arith in
        (pl, access, ap (λ y. place_in g y (o' + i)) e ∙ ap (place_in g y) (sym p) ∙ here, ap g.what (sym p') ∙ is);
  }

  -- what is known of an expression, and of those among actual parameters
  abbrev pub ValueDone : Expr → Type 1
  ValueDone e = (B : Type 0) (from to : ℕ) (g : Ghost) (env : Env) (s : Sight) (h : ℕ) (st : List ℤ) → Knows limit cuts g f s env → s.scope.entry ≡ x.entry → Fitted program globals mains epar s e → Stands c (emit program s.scope h e) from to → Gives g (evals e env) from to st

  -- ---- values that take turns

  -- what is known of a component's value
  abbrev pub ComponentDone : Value → Type 1
  ComponentDone (Number check e) = ValueDone e
  ComponentDone (Cells value) = Into (Cells value)

  -- a component goes to where the address in a cell says
  pub component_does : (value : Value) → ComponentDone value → (B : Type 0) (g j : Ghost) (env : Env) (q : B → Type 0) (goal : B → Dyn → Step) (s : Sight) (h at_ t : ℕ) (st : List ℤ) → Room g j s env t (Emission.width program value) → s.scope.entry ≡ x.entry → at_ < s.scope.free → g.what (f.base + at_) ≡ Keeps (pos (f.base + t)) → (from to : ℕ) (then : List ℤ → Stored B)
      → FittedComponent program globals mains epar s value → Stands c (Emission.component program s.scope h at_ value) from to → Then g j q goal t (Emission.width program value) to st then
      → Doing limit c f x g j q (stored.bind (Meaning.cells ops limit program calls value env) then) (λ d. on f from st d) goal
  unfolding Rattle.ada_lower.specs.Emission.emit
  component_does (Number check e) vd B g j env q goal s h at_ t st room en below kept from to then w (jl, l) go =
      let a : ℕ = f.base + t in
      let (m, l1, (j1, (j2, z))) = stands_seq c (from + 1) to (emit program s.scope (h + 1) e) (Emission.checked s.scope (h + 1 + 1) check.scalar ⨟ one s.scope (h + 1 + 1) i.Store) l in
      let z0 : f.base + t + 0 ≡ a = omega arith in
      let own' : IsOwn (g.what a) = subst (λ a. IsOwn (g.what a)) z0 (room.own 0 (omega arith)) in
      does_by limit c f x (λ t' d fit. comes_kept limit cuts c f at_ (pos a) st d fit kept jl)
      (does_assoc limit c f x _ _ then
      (does_seq limit c f x room.weak (λ ts al. al) (vd (Unit {0}) (from + 1) m g env s (h + 1) (pos a ∷ st) room.knows en w l1) (λ v _.
      does_assoc limit c f x _ _ then
      (does_seq limit c f x room.weak (λ ts al. al) (does_check limit c f x RangeCheck check.at check.scalar v (Values.is_in check.scalar v) (pos a ∷ st) refl (at_entry en j1)) (λ _ _.
      does_returned limit c f x then (v ∷ [])
      (does_first limit c f x (fewer_kept a (v ∷ []) g) (λ t' d fit.
      let (u, is) = own' t' (slice_get d.cells a) (fit.cells a) in
      (record d { cells = set d.cells a (Mine v) }, fit_set a v own' fit, subst (λ p. To limit c (on f (m + 1) (v ∷ pos a ∷ st) d) (on f p st (record d { cells = set d.cells a (Mine v) }))) (sym z) (comes_stores limit c f a v u (v ∷ pos a ∷ st) st d j2 refl is)))
      (go (v ∷ []) refl)))))))
  component_does (Cells value) vd B g j env q goal s h at_ t st room en below kept from to then (fits, w) l go =
      let n : ℕ = Emission.composite_width program value in
      let a : ℕ = f.base + t in
      let p : ℕ = f.base + s.scope.free in
      let u : Sight = taking n s in
      let far : a + n ≤ p = (let z : t + n ≤ s.scope.free = room.below in omega (arith, z)) in
      let free : (k : ℕ) → k < n → g.what (p + k) ≡ Free = (λ k lt. let z : p + k ≡ f.base + (s.scope.free + k) = omega arith in ap g.what z ∙ room.knows.free (s.scope.free + k) (omega arith) (omega (arith, lt, fits))) in
      let ku : Knows limit cuts g f u env = knows_taken n room.knows in
      let (m, l1, (jl, (ja, (jc, z)))) = stands_seq c from to (Emission.composed program u.scope h s.scope.free value) (one s.scope h (i.LoadL at_) ⨟ one u.scope (h + 1) (i.Local s.scope.free) ⨟ one s.scope (h + 1 + 1) (i.Copy n)) l in
      vd B g j env q goal u h s.scope.free n st
      (record {
        below = omega arith;
        own = λ k lt. own_free _ (free k lt);
        knows = ku;
        weak = room.weak;
        kept = λ cs len. knows_kept s.scope.free cs (omega (arith, len)) (omega (arith, fits)) (λ k lt. free k (omega (arith, lt, len))) ku;
        less = λ cs len v d w'. room.weak v d (fit_unkept p cs g (λ k lt. free k (omega (arith, lt, len))) w');
      }) en from m then w l1 (λ cs len.
      does_first limit c f x (fewer_once limit cuts c f x g a p cs (λ k lt. free k (omega (arith, lt, len)))) (λ t' d fit.
      let (d', fit', goes) = copy_comes limit cuts c f x {g = keeping p cs g} {t = t'} {d = d} cs p a n st len (λ k v is. laid_in p 0 kept_what cs g.what k v is)
      (λ k lt. subst (λ w. IsOwn w) (sym (laid_out p 0 kept_what cs g.what (a + k) (inl (omega (arith, lt, far))))) (room.own k lt)) jc fit in (
        d',
        kept_once limit cuts c f x g a p cs (omega (arith, far, len)) (λ k lt. free k (omega (arith, lt, len))) fit',
        comes_on limit c (comes_kept limit cuts c f at_ (pos a) st d fit (laid_out p 0 kept_what cs g.what (f.base + at_) (inl (omega (arith, below))) ∙ kept) jl)
            (comes_on limit c (comes_goes limit c f (pos a ∷ st) (m + 1 + 1) (pos p ∷ pos a ∷ st) d ja refl)
            (subst (λ y. To limit c (on f (m + 1 + 1) (pos p ∷ pos a ∷ st) d) (on f y st d')) (sym z) goes)),
      ))
      (go cs len))

  abbrev pub turn_env : Iterated → ℕ → Env → Env
  turn_env it k env = Meaning.iterated_env (Some it) k env

  -- what is asked of a component's code in each turn
  abbrev pub EachAt : Iterated → Value → Env → Sight → ℕ → List ℤ → Emit → Type 1
  EachAt it value env s t st code = (B : Type 0) (g j : Ghost) (q : B → Type 0) (goal : B → Dyn → Step) (k first : ℕ) → Room g j (iterated_sight s it.parameter) (turn_env it k env) (t + first) (Emission.width program value) → g.what (f.base + (s.scope.free + 1 + 1)) ≡ Keeps (pos (f.base + (t + first))) → (from to : ℕ) (then : List ℤ → Stored B)
      → Stands c code from to → Then g j q goal (t + first) (Emission.width program value) to st then → Doing limit c f x g j q (stored.bind (Meaning.cells ops limit program calls value (turn_env it k env)) then) (λ d. on f from st d) goal

  -- where three cells are free
  module _ {g j : Ghost} {s : Sight} {env : Env} (t n : ℕ) (some : s.scope.free + 1 + 1 < s.cells) (r : Room g j s env t n) where
    frees : (cur : List ℤ) → length cur ≡ n → (k : ℕ) → s.scope.free ≤ k → k < s.scope.free + 3 → (keeping (f.base + t) cur g).what (f.base + k) ≡ Free
    frees cur len k le lt = laid_out (f.base + t) 0 kept_what cur g.what (f.base + k) (inr (let z : t + n ≤ s.scope.free = r.below in omega (arith, z, len, le))) ∙ r.knows.free k le (omega (arith, lt, some))

    turns_weak : (cur : List ℤ) (len : length cur ≡ n) (a : ℕ) (u v : ℤ) (y : stored.State) (d : Dyn) → Fit (turns_at limit cuts c f x s.scope.free a u v (keeping (f.base + t) cur g)) y d → Fit j y d
    turns_weak cur len a u v y d w = r.less cur len y d (fit_turns limit cuts c f x s.scope.free (keeping (f.base + t) cur g) (frees cur len) a u v w)

    -- the cells of a component among those of the value, where a turn's cells are kept
    turns_within : (first a : ℕ) (u v : ℤ) (cur cs : List ℤ) → length cur ≡ n → first + length cs ≤ n → (b : ℕ) → (keeping (f.base + (t + first)) cs (turns_at limit cuts c f x s.scope.free a u v (keeping (f.base + t) cur g))).what b ≡ (turns_at limit cuts c f x s.scope.free a u v (keeping (f.base + t) (Values.laid cur first cs) g)).what b
    turns_within first a u v cur cs len inn b =
        turn_kept limit cuts c f x s.scope.free a u v (keeping (f.base + t) cur g) (f.base + (t + first)) cs (let z : t + n ≤ s.scope.free = r.below in omega (arith, z, inn)) b
        ∙ turn_alike limit cuts c f x s.scope.free a u v (keeping (f.base + (t + first)) cs (keeping (f.base + t) cur g)) (keeping (f.base + t) (Values.laid cur first cs) g) b (within_more g t first cur cs (omega (arith, inn, len)) b)

    turn_room : (it : Iterated) (k first m : ℕ) (v : ℤ) (cur : List ℤ) → length cur ≡ n → first + m ≤ n
        → Room (turns_at limit cuts c f x s.scope.free (f.base + (t + first)) (it.first +ℤ pos k) v (keeping (f.base + t) cur g)) j (iterated_sight s it.parameter) (turn_env it k env) (t + first) m
    turn_room it k first m v cur len inn = record {
      below = let z : t + n ≤ s.scope.free = r.below in omega (arith, z, inn);
      own = λ o lt. subst (λ w. IsOwn w) (sym (turn_other limit cuts c f x s.scope.free a u v (keeping (f.base + t) cur g) (f.base + (t + first) + o) (let z : t + n ≤ s.scope.free = r.below in omega (arith, z, inn, lt)))) ((room_in t n first m cur len inn r).own o lt);
      knows = known cur len;
      weak = λ y d w. turns_weak cur len a u v y d w;
      kept = λ cs l. knows_alike (keeping (f.base + (t + first)) cs (turns_at limit cuts c f x s.scope.free a u v (keeping (f.base + t) cur g))).what (λ b. sym (turns_within first a u v cur cs len (omega (arith, inn, l)) b)) (known (Values.laid cur first cs) (laid_length cur first cs ∙ len));
      less = λ cs l y d w. turns_weak (Values.laid cur first cs) (laid_length cur first cs ∙ len) a u v y d (fit_alike (turns_at limit cuts c f x s.scope.free a u v (keeping (f.base + t) (Values.laid cur first cs) g)).what (turns_within first a u v cur cs len (omega (arith, inn, l))) w);
    }
      where
        a : ℕ
        a = f.base + (t + first)

        u : ℤ
        u = it.first +ℤ pos k

        known : (cs : List ℤ) → length cs ≡ n → Knows limit cuts (turns_at limit cuts c f x s.scope.free a u v (keeping (f.base + t) cs g)) f (iterated_sight s it.parameter) (turn_env it k env)
        known cs l = knows_given it.parameter (own s.scope.free) (it.first +ℤ pos k) (knows_turns limit cuts c f x s a u v some (r.kept cs l)) (f.base + s.scope.free, refl, inl (turn_parameter limit cuts c f x s.scope.free a u v (keeping (f.base + t) cs g)))

  abbrev pub turn_values : Iterated → Value → Env → ℕ → Stored (List ℤ)
  turn_values it value env k = stored.bind (Meaning.turned ops) (λ _. Meaning.cells ops limit program calls value (turn_env it k env))

  -- a turn
  turn_does : {B : Type 0} {g j : Ghost} {env : Env} {q : B → Type 0} {goal : B → Dyn → Step} (it : Iterated) (value : Value) (s : Sight) (t n : ℕ) (st : List ℤ) (code : Emit) → EachAt it value env s t st code → Room g j s env t n → s.scope.free + 1 + 1 < s.cells
      → (head mid : ℕ) (v : ℤ) → At c head i.Turn x.entry → Stands c code (head + 1) mid → (k first : ℕ) (cur : List ℤ) (more : List ℤ → Stored B) → length cur ≡ n → first + Emission.width program value ≤ n
      → ((final : List ℤ) → length final ≡ n → Doing limit c f x (turns_at limit cuts c f x s.scope.free (f.base + (t + first)) (it.first +ℤ pos k) v (keeping (f.base + t) final g)) j q (more final) (λ d. on f mid st d) goal)
      → Doing limit c f x (turns_at limit cuts c f x s.scope.free (f.base + (t + first)) (it.first +ℤ pos k) v (keeping (f.base + t) cur g)) j q (stored.bind (turn_values it value env k) (λ cs. more (Values.laid cur first cs))) (λ d. on f head st d) goal
  turn_does {B} {g} {j} {env} {q} {goal} it value s t n st code each room some head mid v jt lc k first cur more len here go =
      let m : ℕ = Emission.width program value in
      let a : ℕ = f.base + (t + first) in
      let u : ℤ = it.first +ℤ pos k in
      does_assoc limit c f x (Meaning.turned ops) _ (λ cs. more (Values.laid cur first cs))
      (does_seq limit c f x (λ y d w. turns_weak t n some room cur len a u v y d w) (λ ts al. al) (does_turn limit c f x cuts st room.knows.most jt) (λ _ _.
      each B (turns_at limit cuts c f x s.scope.free a u v (keeping (f.base + t) cur g)) j q goal k first (turn_room t n some room it k first m v cur len here) (turn_address limit cuts c f x s.scope.free a u v (keeping (f.base + t) cur g)) (head + 1) mid (λ cs. more (Values.laid cur first cs)) lc (λ cs cl.
      let final : List ℤ = Values.laid cur first cs in
      let inside : first + length cs ≤ n = omega (arith, here, cl) in
      does_first limit c f x (λ b y p z. inl (turns_within t n some room first a u v cur cs len inside b ∙ z)) (λ t' d' w'. (d', fit_alike (turns_at limit cuts c f x s.scope.free a u v (keeping (f.base + t) final g)).what (turns_within t n some room first a u v cur cs len inside) w', comes_here limit c (on f mid st d')))
      (go final (laid_length cur first cs ∙ len)))))

  -- the turns of a run, from one on; behind each, code comes to where the address is moved on
  turning_does : {B : Type 0} {g j : Ghost} {env : Env} {q : B → Type 0} {goal : B → Dyn → Step} (it : Iterated) (value : Value) (s : Sight) (t n : ℕ) (st : List ℤ) (code : Emit) → EachAt it value env s t st code → Room g j s env t n → s.scope.free + 1 + 1 < s.cells
      → (stride head mid step : ℕ) (v : ℤ) {e1 e2 e3 e4 : Option ℕ} → ((d : Dyn) → To limit c (on f mid st d) (on f step st d)) → At c head i.Turn x.entry → Stands c code (head + 1) mid → At c step (i.LoadL (s.scope.free + 1 + 1)) e1 → At c (step + 1) (i.Field stride) e2 → At c (step + 1 + 1) (i.StoreL (s.scope.free + 1 + 1)) e3 → At c (step + 1 + 1 + 1) (i.Next s.scope.free (s.scope.free + 1) head) e4
      → (more k first : ℕ) (cur : List ℤ) (then : List ℤ → Stored B) → v ≡ (it.first +ℤ pos k) +ℤ pos more → length cur ≡ n → ((o : ℕ) → o < suc more → first + o * stride + Emission.width program value ≤ n) → Then g j q goal t n (step + 1 + 1 + 1 + 1) st then
      → Doing limit c f x (turns_at limit cuts c f x s.scope.free (f.base + (t + first)) (it.first +ℤ pos k) v (keeping (f.base + t) cur g)) j q (stored.bind (Meaning.run_values ops k (suc more) first stride (turn_values it value env) cur) then) (λ d. on f head st d) goal
  turning_does {B} {g} {j} {env} {q} {goal} it value s t n st code each room some stride head mid step v arrives jt lc j1 j2 j3 j4 zero k first cur then is len inn go =
      let a : ℕ = f.base + (t + first) in
      let here : first + Emission.width program value ≤ n = (let z : first + 0 * stride + Emission.width program value ≤ n = inn 0 (omega arith) in omega (arith, z, zero-mul stride)) in
      let inside : a ≤ g.top = (let z : t + n ≤ s.scope.free = room.below in let y = room.knows.top in omega (arith, z, y, here, some)) in
      does_assoc limit c f x _ _ then
      (turn_does it value s t n st code each room some head mid v jt lc k first cur (λ final. stored.bind (Meaning.run_values ops (k + 1) 0 (first + stride) stride (turn_values it value env) final) then) len here (λ final flen.
      does_returned limit c f x then final
      (does_first limit c f x (fewer_turns limit cuts c f x s.scope.free (keeping (f.base + t) final g) (frees t n some room final flen) a (it.first +ℤ pos k) v) (λ t' d' w'.
      let (d2, w2, goes) = turn_last limit cuts c f x st (keeping (f.base + t) final g) s.scope.free stride a step head k it.first v j1 j2 j3 j4 (omega (arith, ints, is)) inside w' in
      (d2, fit_turns limit cuts c f x s.scope.free (keeping (f.base + t) final g) (frees t n some room final flen) (a + stride) (it.first +ℤ pos k) v w2, comes_on limit c (arrives d') goes))
      (go final flen))))
  turning_does {B} {g} {j} {env} {q} {goal} it value s t n st code each room some stride head mid step v arrives jt lc j1 j2 j3 j4 (suc more) k first cur then is len inn go =
      let a : ℕ = f.base + (t + first) in
      let a' : ℕ = f.base + (t + (first + stride)) in
      let place : a + stride ≡ a' = omega arith in
      let one_more : suc k ≡ k + 1 = omega arith in
      let here : first + Emission.width program value ≤ n = (let z : first + 0 * stride + Emission.width program value ≤ n = inn 0 (omega arith) in omega (arith, z, zero-mul stride)) in
      let inside : a ≤ g.top = (let z : t + n ≤ s.scope.free = room.below in let y = room.knows.top in omega (arith, z, y, here, some)) in
      let is' : v ≡ (it.first +ℤ pos (k + 1)) +ℤ pos more = omega (arith, ints, is) in
      does_assoc limit c f x _ _ then
      (turn_does it value s t n st code each room some head mid v jt lc k first cur (λ final. stored.bind (Meaning.run_values ops (k + 1) (suc more) (first + stride) stride (turn_values it value env) final) then) len here (λ final flen.
      does_first limit c f x (fewer_turn limit cuts c f x s.scope.free a a' (it.first +ℤ pos k) (it.first +ℤ pos (k + 1)) v v (keeping (f.base + t) final g)) (λ t' d' w'.
      let (d2, w2, goes) = turn_more limit cuts c f x st (keeping (f.base + t) final g) s.scope.free stride a step head k more it.first v j1 j2 j3 j4 is inside w' in
      (d2, subst (λ y. Fit (turns_at limit cuts c f x s.scope.free a' (it.first +ℤ pos y) v (keeping (f.base + t) final g)) t' d2) one_more (subst (λ y. Fit (turns_at limit cuts c f x s.scope.free y (it.first +ℤ pos (suc k)) v (keeping (f.base + t) final g)) t' d2) place w2), comes_on limit c (arrives d') goes))
      (turning_does it value s t n st code each room some stride head mid step v arrives jt lc j1 j2 j3 j4 more (k + 1) (first + stride) final then is' flen (λ o lt. let z = inn (suc o) (omega (arith, lt)) in omega (arith, z, suc-mul o stride)) go)))

  -- the three cells of the turns are set
  entering_does : {B : Type 0} {g j : Ghost} {env : Env} {q : B → Type 0} {goal : B → Dyn → Step} {m : Stored B} (it : Iterated) (s : Sight) (h t n : ℕ) (st : List ℤ) → Room g j s env t n → s.scope.entry ≡ x.entry → s.scope.free + 1 + 1 < s.cells
      → (count first from mid : ℕ) (cur : List ℤ) → length cur ≡ n → Stands c (Emission.entering s.scope h t it.first count first) from mid
      → Doing limit c f x (turns_at limit cuts c f x s.scope.free (f.base + (t + first)) it.first (it.first +ℤ pos count -ℤ pos 1) (keeping (f.base + t) cur g)) j q m (λ d. on f mid st d) goal
      → Doing limit c f x (keeping (f.base + t) cur g) j q m (λ d. on f from st d) goal
  entering_does {B} {g} {j} {env} {q} {goal} {m} it s h t n st room en some count first from mid cur len (jp, (jk, (jp2, (jk2, (jl, (jk3, z)))))) go =
      let N : ℕ = s.scope.free in
      let G : Ghost = keeping (f.base + t) cur g in
      let a : ℕ = f.base + (t + first) in
      let u : ℤ = it.first in
      let v : ℤ = it.first +ℤ pos count -ℤ pos 1 in
      let free : (k : ℕ) → N ≤ k → k < N + 3 → G.what (f.base + k) ≡ Free = frees t n some room cur len in
      let free1 : (set_what (f.base + N) (Keeps u) G).what (f.base + (N + 1)) ≡ Free = what_other G (f.base + N) (f.base + (N + 1)) (Keeps u) (λ e. omega (arith, e)) ∙ free (N + 1) (omega arith) (omega arith) in
      let free2 : (set_what (f.base + (N + 1)) (Keeps v) (set_what (f.base + N) (Keeps u) G)).what (f.base + (N + 1 + 1)) ≡ Free =
      what_other (set_what (f.base + N) (Keeps u) G) (f.base + (N + 1)) (f.base + (N + 1 + 1)) (Keeps v) (λ e. omega (arith, e)) ∙ what_other G (f.base + N) (f.base + (N + 1 + 1)) (Keeps u) (λ e. omega (arith, e)) ∙ free (N + 1 + 1) (omega arith) (omega arith) in
      does_before limit c f x (λ d. comes_goes limit c f st (from + 1) (u ∷ st) d jp refl)
      (does_keep limit c f x (from + 1) N u st (own_free _ (free N (le_refl N) (omega arith))) (at_entry en jk)
      (does_before limit c f x (λ d. comes_goes limit c f st (from + 1 + 1 + 1) (v ∷ st) d jp2 refl)
      (does_keep limit c f x (from + 1 + 1 + 1) (N + 1) v st (own_free _ free1) (at_entry en jk2)
      (does_before limit c f x (λ d. comes_goes limit c f st (from + 1 + 1 + 1 + 1 + 1) (pos a ∷ st) d jl refl)
      (does_keep limit c f x (from + 1 + 1 + 1 + 1 + 1) (N + 1 + 1) (pos a) st (own_free _ free2) (at_entry en jk3)
      (does_first limit c f x (fewer_enters limit cuts c f x N a u v G) (λ t' d' w'. (d', turn_enters limit cuts c f x N a u v G w', comes_here limit c (on f (from + 1 + 1 + 1 + 1 + 1 + 1) st d')))
      (subst (λ p. Doing limit c f x (turns_at limit cuts c f x N a u v G) j q m (λ d. on f p st d) goal) z go)))))))

  -- the turns of a run that has components, from the first one on
  run_does : {B : Type 0} {g j : Ghost} {env : Env} {q : B → Type 0} {goal : B → Dyn → Step} (it : Iterated) (value : Value) (s : Sight) (t n : ℕ) (st : List ℤ) (code : Emit) → EachAt it value env s t st code → Room g j s env t n → s.scope.free + 1 + 1 < s.cells
      → (stride head mid step : ℕ) {e1 e2 e3 e4 : Option ℕ} → ((d : Dyn) → To limit c (on f mid st d) (on f step st d)) → At c head i.Turn x.entry → Stands c code (head + 1) mid → At c step (i.LoadL (s.scope.free + 1 + 1)) e1 → At c (step + 1) (i.Field stride) e2 → At c (step + 1 + 1) (i.StoreL (s.scope.free + 1 + 1)) e3 → At c (step + 1 + 1 + 1) (i.Next s.scope.free (s.scope.free + 1) head) e4
      → (count first : ℕ) (cur : List ℤ) (then : List ℤ → Stored B) → length cur ≡ n → ((o : ℕ) → o < suc count → first + o * stride + Emission.width program value ≤ n) → Then g j q goal t n (step + 1 + 1 + 1 + 1) st then
      → Doing limit c f x (turns_at limit cuts c f x s.scope.free (f.base + (t + first)) it.first (it.first +ℤ pos (suc count) -ℤ pos 1) (keeping (f.base + t) cur g)) j q (stored.bind (Meaning.run_values ops 0 (suc count) first stride (turn_values it value env) cur) then) (λ d. on f head st d) goal
  run_does {B} {g} {j} {env} {q} {goal} it value s t n st code each room some stride head mid step arrives jt lc j1 j2 j3 j4 count first cur then len inn go =
      let v : ℤ = it.first +ℤ pos (suc count) -ℤ pos 1 in
      let none_yet : it.first +ℤ pos 0 ≡ it.first = omega (arith, ints) in
      subst (λ y. Doing limit c f x (turns_at limit cuts c f x s.scope.free (f.base + (t + first)) y v (keeping (f.base + t) cur g)) j q (stored.bind (Meaning.run_values ops 0 (suc count) first stride (turn_values it value env) cur) then) (λ d. on f head st d) goal) none_yet
      (turning_does it value s t n st code each room some stride head mid step v arrives jt lc j1 j2 j3 j4 count 0 first cur then (let z : pos (suc count) ≡ pos count +ℤ pos 1 = omega (arith, ints) in omega (arith, ints, z)) len inn go)

  -- a run alone
  turning_enters : {B : Type 0} {g j : Ghost} {env : Env} {q : B → Type 0} {goal : B → Dyn → Step} (it : Iterated) (value : Value) (s : Sight) (h t n : ℕ) (st : List ℤ) (code : Emit) → EachAt it value env s t st code → Room g j s env t n → s.scope.entry ≡ x.entry → s.scope.free + 1 + 1 < s.cells
      → (count first stride from to : ℕ) (cur : List ℤ) (then : List ℤ → Stored B) → length cur ≡ n → ((o : ℕ) → o < suc count → first + o * stride + Emission.width program value ≤ n)
      → Stands c (Emission.turning s.scope h t it.first code (suc count) first stride) from to → Then g j q goal t n to st then
      → Doing limit c f x (keeping (f.base + t) cur g) j q (stored.bind (Meaning.run_values ops 0 (suc count) first stride (turn_values it value env) cur) then) (λ d. on f from st d) goal
  turning_enters {B} {g} {j} {env} {q} {goal} it value s h t n st code each room en some count first stride from to cur then len inn (jp, (jk, (jp2, (jk2, (jl, (jk3, lo)))))) go =
      let N : ℕ = s.scope.free in
      let start : ℕ = from + 1 + 1 + 1 + 1 + 1 + 1 in
      let o = stands_looped c start to s h true (λ exit. one s.scope h i.Turn ⨟ code) (λ head. Emission.stepping s.scope h (N + 1 + 1) stride N head) lo in
      let (jt, lc) = o.turn in
      let (b1, (b2, (b3, (b4, be)))) = o.back in
      entering_does it s h t n st room en some (suc count) first from start cur len (jp, (jk, (jp2, (jk2, (jl, (jk3, refl))))))
      (does_before limit c f x (λ d. comes_goes limit c f st (start + 1 + 1) st d o.enter refl)
      (run_does it value s t n st code each room some stride (start + 1 + 1) o.mid o.mid (λ d. comes_here limit c (on f o.mid st d)) (at_entry en jt) lc b1 b2 b3 b4 count first cur then len inn
      (λ cs l. subst (λ p. Doing limit c f x (keeping (f.base + t) cs g) j q (then cs) (λ d. on f p st d) goal) be (go cs l))))

  -- ---- several runs in one loop

  -- what follows a turn, for the runs from one on
  record Steps (s : Sight) (h t : ℕ) (low : ℤ) (head m : ℕ) (r : Run) (rs : List Run) (p to : ℕ) : Type 0 where
    next : ℕ
    dup : At c p i.Dup s.scope.entry
    push : At c (p + 1) (i.Push (pos m)) s.scope.entry
    eq : At c (p + 1 + 1) i.Eq s.scope.entry
    test : At c (p + 1 + 1 + 1) (i.JFalse next) s.scope.entry
    load : At c (p + 1 + 1 + 1 + 1) (i.LoadL (s.scope.free + 1 + 1)) s.scope.entry
    field : At c (p + 1 + 1 + 1 + 1 + 1) (i.Field r.stride) s.scope.entry
    store : At c (p + 1 + 1 + 1 + 1 + 1 + 1) (i.StoreL (s.scope.free + 1 + 1)) s.scope.entry
    count : At c (p + 1 + 1 + 1 + 1 + 1 + 1 + 1) (i.Next s.scope.free (s.scope.free + 1) head) s.scope.entry
    enters : Stands c (Emission.entering_next s.scope h t low head (m + 1) rs) (p + 1 + 1 + 1 + 1 + 1 + 1 + 1 + 1) next
    rest : Stands c (Emission.run_steps s.scope h t low head (m + 1) rs) next to

  steps_stand : (s : Sight) (h t : ℕ) (low : ℤ) (head m : ℕ) (r : Run) (rs : List Run) (p to : ℕ) → Stands c (Emission.run_steps s.scope h t low head m (r ∷ rs)) p to → Steps s h t low head m r rs p to
  steps_stand s h t low head m r rs p to l =
      let moved : Emit = Emission.stepping s.scope (h + 1) (s.scope.free + 1 + 1) r.stride s.scope.free head in
      let entered : Emit = Emission.entering_next s.scope h t low head (m + 1) rs in
      let (next, (j1, (j2, (j3, lw))), rest) = stands_seq c p to (one s.scope (h + 1) i.Dup ⨟ one s.scope (h + 1 + 1) (i.Push (pos m)) ⨟ one s.scope (h + 1 + 1 + 1) i.Eq ⨟ when_ s.scope (h + 1) (moved ⨟ entered)) (Emission.run_steps s.scope h t low head (m + 1) rs) l in
      let (jf, lb) = stands_when c (p + 1 + 1 + 1) next s (h + 1) (moved ⨟ entered) lw in
      let (a, (k1, (k2, (k3, (k4, z)))), le) = stands_seq c (p + 1 + 1 + 1 + 1) next moved entered lb in
      record { next = next; dup = j1; push = j2; eq = j3; test = jf; load = k1; field = k2; store = k3; count = k4; enters = subst (λ a. Stands c entered a next) z le; rest = rest }

  -- the number on the stack is that of the run, or not
  tested : {s : Sight} {h t : ℕ} {low : ℤ} {head m : ℕ} {r : Run} {rs : List Run} {p to : ℕ} (y : Steps s h t low head m r rs p to) (k : ℕ) (b : Bool) → nat_eq k m ≡ b → (st : List ℤ) (d : Dyn) → To limit c (on f p (pos k ∷ st) d) (on f (p + 1 + 1 + 1) (bit b ∷ pos k ∷ st) d)
  tested {m = m} {p = p} y k b e st d =
      comes_on limit c (comes_goes limit c f (pos k ∷ st) (p + 1) (pos k ∷ pos k ∷ st) d y.dup refl)
      (comes_on limit c (comes_goes limit c f (pos k ∷ pos k ∷ st) (p + 1 + 1) (pos m ∷ pos k ∷ pos k ∷ st) d y.push refl)
      (comes_goes limit c f (pos m ∷ pos k ∷ pos k ∷ st) (p + 1 + 1 + 1) (bit b ∷ pos k ∷ st) d y.eq (ap (λ z. GoesOn (p + 1 + 1 + 1) (z ∷ (pos k ∷ st) ++ f.below)) (bit_same (is_equal (pos k) (pos m)) ∙ ap bit (equal_numbers k m ∙ e)))))

  is_run : {s : Sight} {h t : ℕ} {low : ℤ} {head m : ℕ} {r : Run} {rs : List Run} {p to : ℕ} (y : Steps s h t low head m r rs p to) (st : List ℤ) (d : Dyn) → To limit c (on f p (pos m ∷ st) d) (on f (p + 1 + 1 + 1 + 1) (pos m ∷ st) d)
  is_run {m = m} {p = p} y st d = comes_on limit c (tested y m true (at_same m) st d) (comes_goes limit c f (pos 1 ∷ pos m ∷ st) (p + 1 + 1 + 1 + 1) (pos m ∷ st) d y.test refl)

  other_run : {s : Sight} {h t : ℕ} {low : ℤ} {head m : ℕ} {r : Run} {rs : List Run} {p to : ℕ} (y : Steps s h t low head m r rs p to) (k : ℕ) → (k ≡ m → ⊥) → (st : List ℤ) (d : Dyn) → To limit c (on f p (pos k ∷ st) d) (on f y.next (pos k ∷ st) d)
  other_run {m = m} {p = p} y k ne st d = comes_on limit c (tested y k false (ne_eqb k m ne) st d) (comes_goes limit c f (pos 0 ∷ pos k ∷ st) y.next (pos k ∷ st) d y.test refl)

  -- no later run has that number
  past_steps : (s : Sight) (h t : ℕ) (low : ℤ) (head : ℕ) (rs : List Run) (m k p to : ℕ) → k < m → Stands c (Emission.run_steps s.scope h t low head m rs) p to → (st : List ℤ) (d : Dyn) → To limit c (on f p (pos k ∷ st) d) (on f to (pos k ∷ st) d)
  past_steps s h t low head [] m k p to lt l st d = subst (λ z. To limit c (on f p (pos k ∷ st) d) (on f z (pos k ∷ st) d)) (sym l) (comes_here limit c (on f p (pos k ∷ st) d))
  past_steps s h t low head (r ∷ rs) m k p to lt l st d =
      let y = steps_stand s h t low head m r rs p to l in
      comes_on limit c (other_run y k (λ e. omega (arith, e, lt)) st d) (past_steps s h t low head rs (m + 1) k y.next to (omega (arith, lt)) y.rest st d)

  -- what follows the end of a run: those that are left, from a number on
  following : {B : Type 0} {g j : Ghost} {env : Env} {q : B → Type 0} {goal : B → Dyn → Step} (it : Iterated) (value : Value) (s : Sight) (h t n : ℕ) (st : List ℤ) (code : Emit) → ((m : ℕ) → EachAt it value env s t (pos m ∷ st) code) → Room g j s env t n → s.scope.entry ≡ x.entry → s.scope.free + 1 + 1 < s.cells
      → (head mid to : ℕ) → At c head i.Turn x.entry → Stands c code (head + 1) mid
      → (rs : List Run) (m k a b p : ℕ) → ((i' : ℕ) → m ≤ i' → (d : Dyn) → To limit c (on f mid (pos i' ∷ st) d) (on f p (pos i' ∷ st) d)) → ((d : Dyn) → To limit c (on f b (pos k ∷ st) d) (on f to (pos k ∷ st) d))
      → Stands c (Emission.entering_next s.scope h t it.first head m rs) a b → Stands c (Emission.run_steps s.scope h t it.first head m rs) p to
      → (cur : List ℤ) (then : List ℤ → Stored B) → length cur ≡ n → FittedRuns program globals mains n (Emission.width program value) rs → ((i' : ℕ) → Then g j q goal t n to (pos i' ∷ st) then)
      → Doing limit c f x (keeping (f.base + t) cur g) j q (stored.bind (Meaning.runs_values ops rs (turn_values it value env) cur) then) (λ d. on f a (pos k ∷ st) d) goal
  following {g = g} {j = j} {q = q} {goal = goal} it value s h t n st code each room en some head mid to jt lc [] m k a b p arrives ends l ls cur then len ws go =
      does_returned limit c f x then cur (does_before limit c f x (λ d. subst (λ z. To limit c (on f z (pos k ∷ st) d) (on f to (pos k ∷ st) d)) l (ends d)) (go k cur len))
  following {B} {g} {j} {env} {q} {goal} it value s h t n st code each room en some head mid to jt lc (r ∷ rs) m k a b p arrives ends l ls cur then len (wr, ws) go =
      does_assoc limit c f x _ _ then (one_run r.count wr l
      (λ l. following it value s h t n st code each room en some head mid to jt lc rs (m + 1) k a b y.next later ends l y.rest cur then len ws go)
      (λ cs clen. following it value s h t n st code each room en some head mid to jt lc rs (m + 1) m (p + 1 + 1 + 1 + 1 + 1 + 1 + 1 + 1) y.next y.next later (past_steps s h t low head rs (m + 1) m y.next to (omega arith) y.rest st) y.enters y.rest cs then clen ws go))
    where
      low : ℤ
      low = it.first

      y : Steps s h t low head m r rs p to
      y = steps_stand s h t low head m r rs p to ls

      after : List ℤ → Stored B
      after cs = stored.bind (Meaning.runs_values ops rs (turn_values it value env) cs) then

      later : (i' : ℕ) → m + 1 ≤ i' → (d : Dyn) → To limit c (on f mid (pos i' ∷ st) d) (on f y.next (pos i' ∷ st) d)
      later i' le d = comes_on limit c (arrives i' (omega (arith, le)) d) (other_run y i' (λ e. omega (arith, e, le)) st d)

      one_run : (count : ℕ) → ((o : ℕ) → o < count → r.first + o * r.stride + Emission.width program value ≤ n)
          → Stands c (cond (nat_eq count 0) (Emission.entering_next s.scope h t low head (m + 1) rs) (one s.scope (h + 1) i.Pop ⨟ one s.scope h (i.Push (pos m)) ⨟ Emission.entering s.scope (h + 1) t low count r.first ⨟ one s.scope (h + 1) (i.Jump head))) a b
          → (Stands c (Emission.entering_next s.scope h t low head (m + 1) rs) a b → Doing limit c f x (keeping (f.base + t) cur g) j q (after cur) (λ d. on f a (pos k ∷ st) d) goal)
          → Then g j q goal t n (p + 1 + 1 + 1 + 1 + 1 + 1 + 1 + 1) (pos m ∷ st) after
          → Doing limit c f x (keeping (f.base + t) cur g) j q (stored.bind (Meaning.run_values ops 0 count r.first r.stride (turn_values it value env) cur) after) (λ d. on f a (pos k ∷ st) d) goal
      one_run zero inn l skips next = does_returned limit c f x after cur (skips l)
      one_run (suc count) inn l skips next =
          let entered : Emit = Emission.entering s.scope (h + 1) t low (suc count) r.first in
          let (jp, (jn, l1)) = subst (λ z. Stands c (cond z (Emission.entering_next s.scope h t low head (m + 1) rs) (one s.scope (h + 1) i.Pop ⨟ one s.scope h (i.Push (pos m)) ⨟ entered ⨟ one s.scope (h + 1) (i.Jump head))) a b) (ne_eqb (suc count) 0 (λ e. omega (arith, e))) l in
          let (e, le, (jj, z)) = stands_seq c (a + 1 + 1) b entered (one s.scope (h + 1) (i.Jump head)) l1 in
          does_before limit c f x (λ d. comes_goes limit c f (pos k ∷ st) (a + 1) st d jp refl)
          (does_before limit c f x (λ d. comes_goes limit c f st (a + 1 + 1) (pos m ∷ st) d jn refl)
          (entering_does it s (h + 1) t n (pos m ∷ st) room en some (suc count) r.first (a + 1 + 1) e cur len le
          (does_before limit c f x (λ d. comes_goes limit c f (pos m ∷ st) head (pos m ∷ st) d jj refl)
          (run_does it value s t n (pos m ∷ st) code (each m) room some r.stride head mid (p + 1 + 1 + 1 + 1) (λ d. comes_on limit c (arrives m (le_refl m) d) (is_run y st d)) jt lc y.load y.field y.store y.count count r.first cur after len inn next))))

  -- those from a number on, of which none is entered yet
  runs_begin : {B : Type 0} {g j : Ghost} {env : Env} {q : B → Type 0} {goal : B → Dyn → Step} (it : Iterated) (value : Value) (s : Sight) (h t n : ℕ) (st : List ℤ) (code : Emit) → ((m : ℕ) → EachAt it value env s t (pos m ∷ st) code) → Room g j s env t n → s.scope.entry ≡ x.entry → s.scope.free + 1 + 1 < s.cells
      → (rs : List Run) (m from to : ℕ) (cur : List ℤ) (then : List ℤ → Stored B) → length cur ≡ n → FittedRuns program globals mains n (Emission.width program value) rs
      → Stands c (Emission.run_turnings s.scope h t it.first code m rs) from to → Then g j q goal t n to st then
      → Doing limit c f x (keeping (f.base + t) cur g) j q (stored.bind (Meaning.runs_values ops rs (turn_values it value env) cur) then) (λ d. on f from st d) goal
  runs_begin {g = g} {j = j} {q = q} {goal = goal} it value s h t n st code each room en some [] m from to cur then len ws l go =
      does_returned limit c f x then cur (subst (λ p. Doing limit c f x (keeping (f.base + t) cur g) j q (then cur) (λ d. on f p st d) goal) l (go cur len))
  runs_begin {B} {g} {j} {env} {q} {goal} it value s h t n st code each room en some (r ∷ rs) m from to cur then len (wr, ws) l go =
      does_assoc limit c f x _ _ then (one_run r.count wr l (λ l. runs_begin it value s h t n st code each room en some rs (m + 1) from to cur then len ws l go))
    where
      low : ℤ
      low = it.first

      after : List ℤ → Stored B
      after cs = stored.bind (Meaning.runs_values ops rs (turn_values it value env) cs) then

      loop : Emit
      loop = looped s.scope (h + 1) true (λ exit. one s.scope (h + 1) i.Turn ⨟ code) (λ head. Emission.run_steps s.scope h t low head m (r ∷ rs))

      one_run : (count : ℕ) → ((o : ℕ) → o < count → r.first + o * r.stride + Emission.width program value ≤ n)
          → Stands c (cond (nat_eq count 0) (Emission.run_turnings s.scope h t low code (m + 1) rs) (one s.scope h (i.Push (pos m)) ⨟ Emission.entering s.scope (h + 1) t low count r.first ⨟ loop ⨟ one s.scope (h + 1) i.Pop)) from to
          → (Stands c (Emission.run_turnings s.scope h t low code (m + 1) rs) from to → Doing limit c f x (keeping (f.base + t) cur g) j q (after cur) (λ d. on f from st d) goal)
          → Doing limit c f x (keeping (f.base + t) cur g) j q (stored.bind (Meaning.run_values ops 0 count r.first r.stride (turn_values it value env) cur) after) (λ d. on f from st d) goal
      one_run zero inn l skips = does_returned limit c f x after cur (skips l)
      one_run (suc count) inn l skips =
          let entered : Emit = Emission.entering s.scope (h + 1) t low (suc count) r.first in
          let (jn, l1) = subst (λ z. Stands c (cond z (Emission.run_turnings s.scope h t low code (m + 1) rs) (one s.scope h (i.Push (pos m)) ⨟ entered ⨟ loop ⨟ one s.scope (h + 1) i.Pop)) from to) (ne_eqb (suc count) 0 (λ e. omega (arith, e))) l in
          let (e, le, l2) = stands_seq c (from + 1) to entered (loop ⨟ one s.scope (h + 1) i.Pop) l1 in
          let (end, lo, (jp, z)) = stands_seq c e to loop (one s.scope (h + 1) i.Pop) l2 in
          let o = stands_looped c e end s (h + 1) true (λ exit. one s.scope (h + 1) i.Turn ⨟ code) (λ head. Emission.run_steps s.scope h t low head m (r ∷ rs)) lo in
          let (jt, lc) = o.turn in
          let head : ℕ = e + 1 + 1 in
          let p : ℕ = o.mid in
          let y : Steps s h t low head m r rs p end = steps_stand s h t low head m r rs p end o.back in
          does_before limit c f x (λ d. comes_goes limit c f st (from + 1) (pos m ∷ st) d jn refl)
          (entering_does it s (h + 1) t n (pos m ∷ st) room en some (suc count) r.first (from + 1) e cur len le
          (does_before limit c f x (λ d. comes_goes limit c f (pos m ∷ st) head (pos m ∷ st) d o.enter refl)
          (run_does it value s t n (pos m ∷ st) code (each m) room some r.stride head p (p + 1 + 1 + 1 + 1) (λ d. is_run y st d) (at_entry en jt) lc y.load y.field y.store y.count count r.first cur after len inn (λ cs clen.
          following it value s h t n st code each room en some head p end (at_entry en jt) lc rs (m + 1) m (p + 1 + 1 + 1 + 1 + 1 + 1 + 1 + 1) y.next y.next (λ i' le d. other_run y i' (λ e. omega (arith, e, le)) st d) (past_steps s h t low head rs (m + 1) m y.next end (omega arith) y.rest st) y.enters y.rest cs then clen ws (λ i' cs clen.
          does_before limit c f x (λ d. comes_goes limit c f (pos i' ∷ st) (end + 1) st d jp refl) (subst (λ z. Doing limit c f x (keeping (f.base + t) cs g) j q (then cs) (λ d. on f z st d) goal) z (go cs clen)))))))

  -- the runs of an association whose values take turns
  pub all_turnings : {B : Type 0} {g j : Ghost} {env : Env} {q : B → Type 0} {goal : B → Dyn → Step} (it : Iterated) (value : Value) (s : Sight) (h t n : ℕ) (st : List ℤ) (code : Emit) → ((st : List ℤ) → EachAt it value env s t st code) → Room g j s env t n → s.scope.entry ≡ x.entry → s.scope.free + 1 + 1 < s.cells
      → (rs : List Run) (from to : ℕ) (cur : List ℤ) (then : List ℤ → Stored B) → length cur ≡ n → FittedRuns program globals mains n (Emission.width program value) rs
      → Stands c (Emission.turnings s.scope h t it.first code rs) from to → Then g j q goal t n to st then
      → Doing limit c f x (keeping (f.base + t) cur g) j q (stored.bind (Meaning.runs_values ops rs (turn_values it value env) cur) then) (λ d. on f from st d) goal
  all_turnings {g = g} {j = j} {q = q} {goal = goal} it value s h t n st code each room en some [] from to cur then len ws l go =
      does_returned limit c f x then cur (subst (λ p. Doing limit c f x (keeping (f.base + t) cur g) j q (then cur) (λ d. on f p st d) goal) l (go cur len))
  all_turnings {B} {g} {j} {env} {q} {goal} it value s h t n st code each room en some (r ∷ []) from to cur then len (wr, ws) l go =
      does_assoc limit c f x _ _ then (one_run r.count r.first r.stride wr l)
    where
      after : List ℤ → Stored B
      after cs = stored.bind (Meaning.runs_values ops [] (turn_values it value env) cs) then

      ended : Then g j q goal t n to st after
      ended cs clen = does_returned limit c f x then cs (go cs clen)

      one_run : (count first stride : ℕ) → ((o : ℕ) → o < count → first + o * stride + Emission.width program value ≤ n)
          → Stands c (cond (nat_eq count 0) none (Emission.turning s.scope h t it.first code count first stride)) from to
          → Doing limit c f x (keeping (f.base + t) cur g) j q (stored.bind (Meaning.run_values ops 0 count first stride (turn_values it value env) cur) after) (λ d. on f from st d) goal
      one_run zero first stride wr l = does_returned limit c f x after cur (subst (λ p. Doing limit c f x (keeping (f.base + t) cur g) j q (after cur) (λ d. on f p st d) goal) l (ended cur len))
      one_run (suc count) first stride wr l =
          turning_enters it value s h t n st code (each st) room en some count first stride from to cur after len wr
          (subst (λ b. Stands c (cond b none (Emission.turning s.scope h t it.first code (suc count) first stride)) from to) (ne_eqb (suc count) 0 (λ e. omega (arith, e))) l) ended
  all_turnings it value s h t n st code each room en some (r ∷ p ∷ rs) from to cur then len ws l go =
      runs_begin it value s h t n st code (λ m. each (pos m ∷ st)) room en some (r ∷ p ∷ rs) 0 from to cur then len ws l go
