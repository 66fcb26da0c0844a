-- Code in two scopes that differ in names that aren't read, and in where handlers and exits are, is alike.
use Rattle.std.proofs.Common.{◌≡◌, ℕ, zero, suc, ◌+◌, ◌-◌, min, ℤ, ◌&&◌, ◌⊎◌, inl, inr, List, [], ◌∷◌, nat_eq, nat_lt, Option, Some, None, Bool, true, false, cond, refl, ap, subst}
use Rattle.behaviours.specs.Paths.{Entity, VariableOf, ConstantOf}
use Rattle.typed_tree.specs.declared.scalars.Check.{Check}
use Rattle.typed_tree.specs.declared.scalars.Class.{Class}
use Rattle.typed_tree.specs.declared.scalars.Scalar.{Scalar}
use Rattle.typed_tree.specs.declared.expressions.Root.{Root}
use Rattle.typed_tree.specs.declared.expressions.Root.TheVariants as root
use Rattle.typed_tree.specs.declared.expressions.Run.{Run}
use Rattle.typed_tree.specs.declared.expressions.Reducer.{Reducer}
use Rattle.typed_tree.specs.declared.expressions.Reducer.TheVariants.{Operator, Function}
use Rattle.typed_tree.specs.Syntax.{Iteration, Range, Components, Chunk, NoChunk, Count, Each}
use Rattle.stack_code.specs.declared.code.Around as body
use Rattle.stack_code.specs.declared.code.Around.TheVariants as around
use Rattle.stack_code.specs.declared.instr.Instr.{Instr}
use Rattle.stack_code.specs.declared.instr.Instr.TheVariants as i
use Rattle.lower_emission.specs.declared.types.Mark.{Mark}
use Rattle.lower_emission.specs.Emits.{Emit, Nothing, One, Seq, Choose, When, Looped, Guarded, Aside, From}
use Rattle.lower_emission.specs.Scope.{Scope, mark_of, moved_named, none, one, thread_scope, with_exit}
use Rattle.lower_emission.specs.Statements.{away}
use Rattle.ada_lower.specs.Sights.{Named, Where, array_root_of, constant_root_of, root_of}
use Rattle.ada_lower.specs.Emission.{address, ascending, bounds_code, chunk_scope, combined, counting, doubled, ends_code, away, exiting, filling, fillings, folding, indexed_by, item_by, component_address, component_value, operated_by, leaving_by, load_by, load_named, load_where, negated_code, raise_above, ranged, raise_beyond, stepping, turning, entering, entering_next, run_steps, run_turnings, turnings, within, components_of, locating, locating_in, repeating}
use Rattle.typed_scopes.specs.Scopes.{Around, ArraySeen, ConstantSeen, VariableSeen, with_chunk}

-- ---- code that is alike: with the same marks and instructions, but for places of handlers and aims of jumps

abbrev pub IsUnforked : Instr → Type 0
IsUnforked (i.Fork site) = ⊥
IsUnforked j = Unit {0}

module _ (T : ℕ → ℕ → Type 0) where
  abbrev pub Both : Option ℕ → Option ℕ → Type 0
  Both None None = Unit {0}
  Both (Some a) (Some b) = T a b
  Both None (Some b) = ⊥
  Both (Some a) None = ⊥

  abbrev pub Marks : Mark → Mark → Type 0
  Marks m n = (m.body ≡ n.body) × (m.nest ≡ n.nest) × (m.cells ≡ n.cells) × (m.kind ≡ n.kind) × Both m.entry n.entry

  abbrev pub Leaps : Instr → Instr → Type 0
  Leaps j k = (j ≡ k) ⊎ ((f : ℕ → Instr) × (a b : ℕ) × (j ≡ f a) × (k ≡ f b) × T a b × IsUnforked (f b))

  abbrev pub Alike : Emit → Emit → Type 0
  Alike Nothing Nothing = Unit {0}
  Alike (One m h j) (One n g k) = Marks m n × (h ≡ g) × Leaps j k
  Alike (Seq a b) (Seq c d) = Alike a c × Alike b d
  Alike (Choose m h k a b) (Choose n g l c d) = Marks m n × (h ≡ g) × (k ≡ l) × Alike a c × Alike b d
  Alike (When m h a) (When n g c) = Marks m n × (h ≡ g) × Alike a c
  Alike (Looped m h b exit head) (Looped n g d exit' head') = Marks m n × (h ≡ g) × (b ≡ d) × ((p q : ℕ) → T p q → Alike (exit p) (exit' q)) × ((p q : ℕ) → T p q → Alike (head p) (head' q))
  Alike (Guarded m handlers body) (Guarded n handlers' body') = Marks m n × Alike handlers handlers' × ((p q : ℕ) → T p q → Alike (body p) (body' q))
  Alike (Aside m h a) (Aside n g c) = Marks m n × (h ≡ g) × Alike a c
  Alike (From a) (From b) = (p q : ℕ) → T p q → Alike (a p) (b q)
  Alike a b = ⊥

-- the scope with other names, exits and handler
abbrev pub prime : (Entity → Option Named) → (ℕ → Option ℕ) → Option ℕ → Scope → Scope
prime o x e s = record s { object = o; exits = x; entry = e }

abbrev pub Like : (ℕ → ℕ → Type 0) → Around → Scope → (Entity → Option Named) → (ℕ → Option ℕ) → Option ℕ → Type 0
Like T v s o x e = ((y : Entity) → v.object y ≡ true → s.object y ≡ o y) × ((n : ℕ) → Both T (s.exits n) (x n)) × Both T s.entry e

-- ---- scopes within

module _ (T : ℕ → ℕ → Type 0) where
  pub like_thread : (v : Around) (s : Scope) (o : Entity → Option Named) (x : ℕ → Option ℕ) (e : Option ℕ) (site : ℕ) → Like T v s o x e → Like T v (thread_scope site s) (λ y. moved_named (o y)) (λ n. None) None
  like_thread v s o x e site k = ((λ y q. ap moved_named (k.0 y q)), (λ n. tt), tt)

  pub like_exit : (v : Around) (s : Scope) (o : Entity → Option Named) (x : ℕ → Option ℕ) (e : Option ℕ) (number a b : ℕ) → T a b → Like T v s o x e → Like T v (with_exit number a s) o (λ j. cond (nat_eq number j) (Some b) (x j)) e
  like_exit v s o x e number a b t k = (k.0, (λ n. go n (nat_eq number n)), k.2)
    where
      go : (n : ℕ) (c : Bool) → Both T (cond c (Some a) (s.exits n)) (cond c (Some b) (x n))
      go n true = t
      go n false = k.1 n

  -- what goes on in the scope of a turn
  pub leave : (v : Around) (s : Scope) (o : Entity → Option Named) (x : ℕ → Option ℕ) (e : Option ℕ) (number : Option ℕ) (a b : ℕ) → T a b → Like T v s o x e → (Goal : Scope → Scope → Type 0)
      → ((t : Scope) (o' : Entity → Option Named) (x' : ℕ → Option ℕ) (e' : Option ℕ) → Like T v t o' x' e' → Goal t (prime o' x' e' t)) → Goal (leaving_by number a s) (leaving_by number b (prime o x e s))
  leave v s o x e None a b t k Goal g = g s o x e k
  leave v s o x e (Some number) a b t k Goal g = g (with_exit number a s) o (λ j. cond (nat_eq number j) (Some b) (x j)) e (like_exit v s o x e number a b t k)

  pub chunk_prime : (chunk : Chunk) (o : Entity → Option Named) (x : ℕ → Option ℕ) (e : Option ℕ) (s : Scope) → ◌≡◌ {A = Scope} (chunk_scope chunk (prime o x e s)) (prime o x e (chunk_scope chunk s))
  chunk_prime NoChunk o x e s = refl
  chunk_prime (Count c) o x e s = refl
  chunk_prime (Each p low high check) o x e s = refl

  pub like_chunk : (chunk : Chunk) (v : Around) (s : Scope) (o : Entity → Option Named) (x : ℕ → Option ℕ) (e : Option ℕ) → Like T v s o x e → Like T (with_chunk chunk v) (chunk_scope chunk s) o x e
  like_chunk NoChunk v s o x e k = k
  like_chunk (Count c) v s o x e k = k
  like_chunk (Each p low high check) v s o x e k = k

  pub chunk_object : (chunk : Chunk) (v : Around) (y : Entity) → (with_chunk chunk v).object y ≡ v.object y
  chunk_object NoChunk v y = refl
  chunk_object (Count c) v y = refl
  chunk_object (Each p low high check) v y = refl

-- ---- parts without parts of the program

pub a_cond : (T : ℕ → ℕ → Type 0) (b : Bool) (p q p' q' : Emit) → Alike T p p' → Alike T q q' → Alike T (cond b p q) (cond b p' q')
a_cond T true p q p' q' f g = f
a_cond T false p q p' q' f g = g

a_filling : (T : ℕ → ℕ → Type 0) (value value' : ℕ → Emit) (count first stride : ℕ) → ((n : ℕ) → Alike T (value n) (value' n)) → Alike T (filling value count first stride) (filling value' count first stride)
a_filling T value value' zero first stride f = tt
a_filling T value value' (suc n) first stride f = (f first, a_filling T value value' n (first + stride) stride f)

module _ (T : ℕ → ℕ → Type 0) (v : Around) (s : Scope) (o : Entity → Option Named) (x : ℕ → Option ℕ) (e : Option ℕ) (k : Like T v s o x e) where
  pub marked : {n : ℕ} → Marks T (mark_of n s) (mark_of n (prime o x e s))
  marked = (refl, refl, refl, refl, k.2)

  pub plain : {n h : ℕ} {j : Instr} → Alike T (One (mark_of n s) h j) (One (mark_of n (prime o x e s)) h j)
  plain = ((refl, refl, refl, refl, k.2), refl, inl refl)

  pub root_same : (r : Root) → VariableSeen v r → root_of s r ≡ root_of (prime o x e s) r
  root_same (root.Object y) seen = k.0 (VariableOf y) seen
  root_same (root.Item j) seen = refl

  pub constant_same : (r : Root) → ConstantSeen v r → constant_root_of s r ≡ constant_root_of (prime o x e s) r
  constant_same (root.Object y) seen = k.0 (ConstantOf y) seen
  constant_same (root.Item j) seen = refl

  pub array_same : (constant : Bool) (r : Root) → ArraySeen constant v r → array_root_of constant s r ≡ array_root_of constant (prime o x e s) r
  array_same true r seen = constant_same r seen
  array_same false r seen = root_same r seen

  pub a_load : (h : ℕ) (n : Option Named) → Alike T (load_named s h n) (load_named (prime o x e s) h n)
  a_load h None = plain
  a_load h (Some n) = by n.through
    where
      by : (b : Bool) → Alike T (load_by b s h n.place) (load_by b (prime o x e s) h n.place)
      by true = (plain, plain)
      by false = plain

  pub a_where : (h : ℕ) (p : Option Where) → Alike T (load_where s h p) (load_where (prime o x e s) h p)
  a_where h None = plain
  a_where h (Some p) = plain

  pub a_address : (h : ℕ) (n n' : Option Named) → n ≡ n' → Alike T (address s h n) (address (prime o x e s) h n')
  a_address h n n' same = subst (λ m. Alike T (address s h n) (address (prime o x e s) h m)) same (by n)
    where
      by : (n : Option Named) → Alike T (address s h n) (address (prime o x e s) h n)
      by None = plain
      by (Some n) = plain

  pub a_named : (h : ℕ) (n n' : Option Named) → n ≡ n' → Alike T (load_named s h n) (load_named (prime o x e s) h n')
  a_named h n n' same = subst (λ m. Alike T (load_named s h n) (load_named (prime o x e s) h m)) same (a_load h n)

  pub a_indexed : (h : ℕ) (n n' : Option ℕ) (low high : ℤ) (stride : ℕ) (index index' : Emit) → n ≡ n' → Alike T index index' → Alike T (indexed_by s h n low high stride index) (indexed_by (prime o x e s) h n' low high stride index')
  a_indexed h n n' low high stride index index' same f = subst (λ m. Alike T (indexed_by s h n low high stride index) (indexed_by (prime o x e s) h m low high stride index')) same (by n)
    where
      by : (n : Option ℕ) → Alike T (indexed_by s h n low high stride index) (indexed_by (prime o x e s) h n low high stride index')
      by None = (f, plain)
      by (Some m) = plain

  pub a_item : (h : ℕ) (n n' : Option ℕ) (low high : ℤ) (stride : ℕ) (index index' : Emit) → n ≡ n' → Alike T index index' → Alike T (item_by s h n low high stride index) (item_by (prime o x e s) h n' low high stride index')
  a_item h n n' low high stride index index' same f = subst (λ m. Alike T (item_by s h n low high stride index) (item_by (prime o x e s) h m low high stride index')) same (by n)
    where
      by : (n : Option ℕ) → Alike T (item_by s h n low high stride index) (item_by (prime o x e s) h n low high stride index')
      by None = (f, plain)
      by (Some m) = plain

  pub a_component_address : (h : ℕ) (n n' : Option Named) (g g' m m' : Option ℕ) (low high : ℤ) (stride : ℕ) (index index' : Emit) → n ≡ n' → g ≡ g' → m ≡ m' → Alike T index index'
      → Alike T (component_address s h n g m low high stride index) (component_address (prime o x e s) h n' g' m' low high stride index')
  a_component_address h n n' g g' m m' low high stride index index' same same' same'' f =
      subst (λ v. Alike T (component_address s h n g m low high stride index) (component_address (prime o x e s) h n' v m' low high stride index')) same'
      (subst (λ v. Alike T (component_address s h n g m low high stride index) (component_address (prime o x e s) h n' g v low high stride index')) same'' (by g m))
    where
      by : (g m : Option ℕ) → Alike T (component_address s h n g m low high stride index) (component_address (prime o x e s) h n' g m low high stride index')
      by (Some a) (Some b) = plain
      by (Some a) None = (a_address h n n' same, a_indexed (h + 1) None None low high stride index index' refl f)
      by None m = (a_address h n n' same, a_indexed (h + 1) m m low high stride index index' refl f)

  pub a_component_value : (h : ℕ) (n n' : Option Named) (g g' m m' : Option ℕ) (low high : ℤ) (stride : ℕ) (index index' : Emit) → n ≡ n' → g ≡ g' → m ≡ m' → Alike T index index'
      → Alike T (component_value s h n g m low high stride index) (component_value (prime o x e s) h n' g' m' low high stride index')
  a_component_value h n n' g g' m m' low high stride index index' same same' same'' f =
      subst (λ v. Alike T (component_value s h n g m low high stride index) (component_value (prime o x e s) h n' v m' low high stride index')) same'
      (subst (λ v. Alike T (component_value s h n g m low high stride index) (component_value (prime o x e s) h n' g v low high stride index')) same'' (by g m))
    where
      by : (g m : Option ℕ) → Alike T (component_value s h n g m low high stride index) (component_value (prime o x e s) h n' g m low high stride index')
      by (Some a) (Some b) = plain
      by (Some a) None = (a_address h n n' same, a_item (h + 1) None None low high stride index index' refl f)
      by None m = (a_address h n n' same, a_item (h + 1) m m low high stride index index' refl f)

  -- the same operation
  pub a_operated : (h : ℕ) (j : Option Instr) (operates : Instr) (right right' : Emit) → Alike T right right' → Alike T (operated_by s h j operates right) (operated_by (prime o x e s) h j operates right')
  a_operated h None operates right right' f = (f, plain)
  a_operated h (Some j) operates right right' f = plain

  pub a_within : (h : ℕ) (class : Class) (d : ℕ) → Alike T (within s h class d) (within (prime o x e s) h class d)
  a_within h class d = (plain, (plain, (plain, (plain, (plain, plain)))))

  pub a_negated : (h : ℕ) (b : Bool) → Alike T (negated_code s h b) (negated_code (prime o x e s) h b)
  a_negated h true = plain
  a_negated h false = tt

  pub a_bounds : (h d : ℕ) (check : Option Check) → Alike T (bounds_code s h d check) (bounds_code (prime o x e s) h d check)
  a_bounds h d None = tt
  a_bounds h d (Some c) = (plain, (plain, (plain, (plain, (plain, plain)))))

  pub a_ascending : (h d : ℕ) → Alike T (ascending s h d) (ascending (prime o x e s) h d)
  a_ascending h d = (plain, (plain, plain))

  pub a_folding : (h : ℕ) (by : Reducer) → Alike T (folding s h by) (folding (prime o x e s) h by)
  a_folding h (Operator at op class) = plain
  a_folding h (Function at sub accumulator value) = (plain, (plain, (plain, (plain, (plain, plain)))))

  a_ranged : (h n : ℕ) (k : Scalar) → Alike T (ranged s h n k) (ranged (prime o x e s) h n k)
  a_ranged h n k = (plain, (plain, (plain, (plain, (plain, (plain, plain))))))

  pub a_combined : (h : ℕ) (by : Reducer) → Alike T (combined s h by) (combined (prime o x e s) h by)
  a_combined h (Operator at op class) = tt
  a_combined h (Function at sub accumulator value) = λ p q t.
      (plain, ((marked, refl, ((plain, (plain, (a_ranged h s.free accumulator, (a_ranged (h + 1) (s.free + 1) value, plain)))), (marked, refl, inr (i.CallTo (sub + 1) s.free, p, q, refl, refl, t, tt)))), plain))

  pub a_above : (h d : ℕ) → Alike T (raise_above s h d) (raise_above (prime o x e s) h d)
  a_above h d = (plain, (plain, (plain, (marked, refl, plain))))

  pub a_beyond : (h : ℕ) → Alike T (raise_beyond s h) (raise_beyond (prime o x e s) h)
  a_beyond h = (plain, (plain, (plain, (marked, refl, plain))))

  pub a_ends : (h : ℕ) (it : Iteration) → Alike T (ends_code s h it) (ends_code (prime o x e s) h it)
  a_ends h (Range p reverse low high check filter) = (plain, plain)
  a_ends h (Components p constant at r selections count stride dimensions filter) = (plain, plain)

  -- the end of a turn
  pub a_counting : (h : ℕ) (reverse : Bool) (d a b : ℕ) → T a b → Alike T (one s h (counting reverse d a)) (one (prime o x e s) h (counting reverse d b))
  a_counting h true d a b t = (marked, refl, inr ((λ z. counting true d z), a, b, refl, refl, t, tt))
  a_counting h false d a b t = (marked, refl, inr ((λ z. counting false d z), a, b, refl, refl, t, tt))

  pub a_stepping : (h at stride first a b : ℕ) → T a b → Alike T (stepping s h at stride first a) (stepping (prime o x e s) h at stride first b)
  a_stepping h at stride first a b t = (plain, (plain, (plain, (marked, refl, inr ((λ z. i.Next first (first + 1) z), a, b, refl, refl, t, tt)))))

  a_away : (loop : ℕ) (b : body.Around) → Alike T (away s loop b) (away (prime o x e s) loop b)
  a_away loop (around.Sub k) = plain
  a_away loop (around.Site k) = plain

  pub a_exiting : (loop : ℕ) (p q : Option ℕ) → Both T p q → Alike T (exiting s loop p) (exiting (prime o x e s) loop q)
  a_exiting loop None None t = a_away loop s.body
  a_exiting loop (Some a) (Some b) t = (marked, refl, inr ((λ z. i.Jump z), a, b, refl, refl, t, tt))
  a_exiting loop None (Some b) t = absurd t
  a_exiting loop (Some a) None t = absurd t

  -- ---- runs of aggregates

  pub a_doubled : (h first size steps done count : ℕ) → Alike T (doubled s h first size steps done count) (doubled (prime o x e s) h first size steps done count)
  a_doubled h first size zero done count = tt
  a_doubled h first size (suc steps) done count = a_cond T (nat_lt done count) _ none _ none ((plain, (plain, plain)), a_doubled h first size steps (done + min done (count - done)) count) tt

  pub a_fillings : (h n size : ℕ) (plain' : Bool) (value value' : ℕ → Emit) (rs : List Run) → ((n : ℕ) → Alike T (value n) (value' n)) → Alike T (fillings s h n size plain' value rs) (fillings (prime o x e s) h n size plain' value' rs)
  a_fillings h n size plain' value value' [] f = tt
  a_fillings h n size plain' value value' (r ∷ rs) f =
      (a_cond T (plain' && (nat_lt 1 r.count && nat_eq r.stride size)) _ _ _ _ (f r.first, a_doubled h (n + r.first) size r.count 1 r.count) (a_filling T value value' r.count r.first r.stride f), a_fillings h n size plain' value value' rs f)

  a_turning : (h n : ℕ) (low : ℤ) (component component' : Emit) (count first stride : ℕ) → Alike T component component' → Alike T (turning s h n low component count first stride) (turning (prime o x e s) h n low component' count first stride)
  a_turning h n low component component' count first stride f =
      (plain, (plain, (plain, (plain, (plain, (plain, (marked, refl, refl, (λ a b t. (plain, f)), (λ a b t. a_stepping h (s.free + 1 + 1) stride s.free a b t))))))))

  a_entering : (h n : ℕ) (low : ℤ) (count first : ℕ) → Alike T (entering s h n low count first) (entering (prime o x e s) h n low count first)
  a_entering h n low count first = (plain, (plain, (plain, (plain, (plain, plain)))))

  a_next : (h n : ℕ) (low : ℤ) (m : ℕ) (rs : List Run) (a b : ℕ) → T a b → Alike T (entering_next s h n low a m rs) (entering_next (prime o x e s) h n low b m rs)
  a_next h n low m [] a b t = tt
  a_next h n low m (r ∷ rs) a b t = a_cond T (nat_eq r.count 0) _ _ _ _ (a_next h n low (m + 1) rs a b t) (plain, (plain, (a_entering (h + 1) n low r.count r.first, (marked, refl, inr ((λ z. i.Jump z), a, b, refl, refl, t, tt)))))

  a_steps : (h n : ℕ) (low : ℤ) (m : ℕ) (rs : List Run) (a b : ℕ) → T a b → Alike T (run_steps s h n low a m rs) (run_steps (prime o x e s) h n low b m rs)
  a_steps h n low m [] a b t = tt
  a_steps h n low m (r ∷ rs) a b t = ((plain, (plain, (plain, (marked, refl, (a_stepping (h + 1) (s.free + 1 + 1) r.stride s.free a b t, a_next h n low (m + 1) rs a b t))))), a_steps h n low (m + 1) rs a b t)

  a_runs : (h n : ℕ) (low : ℤ) (component component' : Emit) (m : ℕ) (rs : List Run) → Alike T component component' → Alike T (run_turnings s h n low component m rs) (run_turnings (prime o x e s) h n low component' m rs)
  a_runs h n low component component' m [] f = tt
  a_runs h n low component component' m (r ∷ rs) f = a_cond T (nat_eq r.count 0) _ _ _ _ (a_runs h n low component component' (m + 1) rs f)
      (plain, (a_entering (h + 1) n low r.count r.first, ((marked, refl, refl, (λ a b t. (plain, f)), (λ a b t. a_steps h n low m (r ∷ rs) a b t)), plain)))

  pub a_turnings : (h n : ℕ) (low : ℤ) (component component' : Emit) (rs : List Run) → Alike T component component' → Alike T (turnings s h n low component rs) (turnings (prime o x e s) h n low component' rs)
  a_turnings h n low component component' [] f = tt
  a_turnings h n low component component' (r ∷ []) f = a_cond T (nat_eq r.count 0) none _ none _ tt (a_turning h n low component component' r.count r.first r.stride f)
  a_turnings h n low component component' (r ∷ p ∷ rs) f = a_runs h n low component component' 0 (r ∷ p ∷ rs) f

  a_locating : (h n m : ℕ) (r : Run) → Alike T (locating s h n m r) (locating (prime o x e s) h n m r)
  a_locating h n m r = a_cond T (nat_eq r.count 0) none _ none _ tt (plain, (plain, (plain, plain)))

  a_locating_in : (h n m : ℕ) (rs : List Run) → Alike T (locating_in s h n m rs) (locating_in (prime o x e s) h n m rs)
  a_locating_in h n m [] = tt
  a_locating_in h n m (r ∷ []) = a_locating h n m r
  a_locating_in h n m (r ∷ p ∷ rs) = (plain, (plain, (plain, (marked, refl, refl, a_locating h n m r, a_locating_in h n (m + r.count) (p ∷ rs)))))

  pub a_repeating : (h n : ℕ) (component component' : Emit) (rs : List Run) → Alike T component component' → Alike T (repeating s h n component rs) (repeating (prime o x e s) h n component' rs)
  a_repeating h n component component' rs f = a_cond T (nat_eq (components_of rs) 0) none _ none _ tt
      (plain, (plain, (plain, (λ a b t. (a_locating_in h n 0 rs, (f, (plain, (plain, (plain, (marked, refl, inr ((λ z. i.Again z), a, b, refl, refl, t, tt)))))))))))
