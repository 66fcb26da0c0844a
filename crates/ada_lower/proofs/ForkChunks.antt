-- Chunk specifications.
use Rattle.std.proofs.Common.{◌≡◌, ℕ, ◌+◌, ◌<◌, ◌≤◌, ℤ, pos, negsuc, ◌+ℤ◌, ◌-ℤ◌, min, nat_le, int_le, int_lt, List, ◌∷◌, ◌++◌, Option, Some, None, Err, Bool, true, false, cond, not, refl, sym, ap, ◌∙◌, subst, le_refl, arith, true≢false, le-leb, leb-true, leb-false, ◌&&◌}
use Rattle.std.proofs.lemmas.Int.{ints}
use Rattle.std.specs.Int.{int_min}
use Rattle.behaviours.specs.Paths.{Raises}
use Rattle.ada_base.specs.declared.reason.Reason.TheVariants as reason
use Rattle.typed_tree.specs.Syntax.{Expr, Chunk, NoChunk, Count, Each, Program}
use Rattle.ada_meaning.specs.Values
use Rattle.ada_meaning.specs.Stored as stored
use Rattle.ada_meaning.specs.Stored.{Stored}
use Rattle.ada_meaning.specs.Operations.{Operations}
use Rattle.ada_meaning.specs.Meaning
use Rattle.ada_meaning.specs.Meaning.{Env, Passed, Returned, Chunking, inside, most_threads}
use Rattle.stack_code.specs.declared.code.Code.{Code}
use Rattle.stack_code.specs.declared.instr.Instr.TheVariants as i
use Rattle.stack_code.specs.Deeds.{many}
use Rattle.ada_base.specs.declared.reason.Reason.{Reason}
use Rattle.stack_code.specs.Deeds
use Rattle.stack_code.specs.Deeds.{GoesOn}
use Rattle.behaviours.specs.Paths.{Entity}
use Rattle.ada_lower.specs.Driven.{Dyn, Fixed, Step, on, thrown, At, Alike}
use Rattle.ada_lower.proofs.Alike.{alike}
use Rattle.ada_lower.specs.Sights.{Emit, Named, Sight, Stands, one, taking, when_, ◌⨟◌}
use Rattle.ada_lower.specs.Emission
use Rattle.ada_lower.specs.Emission.{emit}
use Rattle.ada_lower.specs.Fits.{Keeps, Ghost, Fit, Ends, Knows}
use Rattle.ada_lower.specs.FittedForks.{FittedChunk}
use Rattle.ada_lower.specs.Fitted.{Fitted}
use Rattle.ada_lower.specs.Emission.{chunk_code}
use Rattle.ada_lower.proofs.Inner.{InnerDo}
use Rattle.ada_lower.proofs.Framework.{any, Doing, comes_here, comes_on, comes_goes, comes_fails, does_before, does_returned, does_seq, does_assoc, does_bind}
use Rattle.ada_lower.proofs.Memory.{set_what, own_free, knows_keep, fit_unset}
use Rattle.ada_lower.proofs.Standing.{stands_seq, stands_when}
use Rattle.ada_lower.proofs.Parts.{Runs, does_is, does_keep, does_weak}
use Rattle.ada_lower.proofs.Names.{does_by}
use Rattle.ada_lower.proofs.Expressions.{at_entry, value_does}
use Rattle.ada_lower.proofs.Loops.{counts_at, first_at, last_at}
use Rattle.ada_lower.proofs.Courses.{fit_uncount, comes_kept, bounds_does, bounds_none}
use Rattle.typed_tree.specs.declared.scalars.Check.{Check}
use Rattle.ada_meaning.specs.Operations.{RangeCheck}
use Rattle.ada_lower.proofs.ForkRange.{Chunks, to_nat_same}

-- the expressions of a chunk specification
module _ (limit : ℕ) (cuts : ℕ → ℕ → List ℕ) (program : Program) (c : Code) (f : Fixed) (calls : ℕ → ℕ → Stored (Unit {0}) → List Passed → Stored Returned) (globals : ℕ → Entity → Option Named) (mains : Entity → Bool) (epar : Sight → Expr → Type 0) (calls_all : (f' : Fixed) → Alike f' f → InnerDo limit cuts program globals mains epar c f' calls)
    (x : Ends) (g : Ghost) (env : Env) (s : Sight) (kn : Knows limit cuts g f s env) (en : s.scope.entry ≡ x.entry) (room : s.scope.free + 1 < s.cells) (ht : ℕ) (stk : List ℤ) (R : Type 0) where
  abbrev oper : Operations {1}
  oper = stored.noted_operations limit cuts

  abbrev bounds : ℤ → ℤ → Ghost
  bounds cl ch = counts_at limit cuts c f x s.scope.free cl ch g

  -- two numbers go to the cells
  pub two_kept : {m : Stored R} {goal : R → Dyn → Step} (cl ch : ℤ) (q : ℕ) → At c q (i.StoreL (s.scope.free + 1)) x.entry → Doing limit c f x (bounds cl ch) g any m (λ d. on f (q + 1) stk d) goal
      → Doing limit c f x (set_what (f.base + s.scope.free) (Keeps cl) g) g any m (λ d. on f q (ch ∷ stk) d) goal
  two_kept cl ch q j k =
      let room1 : s.scope.free < s.cells = omega (arith, room) in
      does_keep limit c f x q (s.scope.free + 1) ch stk (own_free ((set_what (f.base + s.scope.free) (Keeps cl) g).what (f.base + (s.scope.free + 1))) ((knows_keep cl room1 kn).free (s.scope.free + 1) (le_refl (s.scope.free + 1)) room)) j k

  -- none
  pub none_does : (from to : ℕ) → Stands c (chunk_code program s.scope ht NoChunk) from to → (then : Chunking → Stored R) (goal : R → Dyn → Step)
      → ((k : Chunking) (cl ch : ℤ) → Chunks NoChunk cl ch k → nat_le 1 (many cl ch) ≡ true → nat_le (many cl ch) most_threads ≡ true → Runs limit c f x (bounds cl ch) any (then k) (λ d. on f to stk d) goal)
      → Runs limit c f x g any (stored.bind (Meaning.chunking oper limit program calls NoChunk env) then) (λ d. on f from stk d) goal
  unfolding Rattle.ada_lower.specs.Emission.emit
  none_does from to (j1, (j2, (j3, (j4, z)))) then goal k =
      let room1 : s.scope.free < s.cells = omega (arith, room) in
      does_before limit c f x (λ d. comes_goes limit c f stk (from + 1) (pos 1 ∷ stk) d j1 refl)
      (does_keep limit c f x (from + 1) s.scope.free (pos 1) stk (own_free (g.what (f.base + s.scope.free)) (kn.free s.scope.free (le_refl s.scope.free) room1)) (at_entry en j2)
      (does_before limit c f x (λ d. comes_goes limit c f stk (from + 1 + 1 + 1) (pos most_threads ∷ stk) d j3 refl)
      (two_kept (pos 1) (pos most_threads) (from + 1 + 1 + 1) (at_entry en j4)
      (does_returned limit c f x then (record { most = most_threads; even = false; bound = λ j e. e })
      (does_weak limit c f x (λ stt d w. fit_uncount limit cuts c f s (pos 1) (pos most_threads) room kn stt d w)
      (subst (λ q. Runs limit c f x (bounds (pos 1) (pos most_threads)) any (then (record { most = most_threads; even = false; bound = λ j e. e })) (λ d. on f q stk d) goal) z
      (k (record { most = most_threads; even = false; bound = λ j e. e }) (pos 1) (pos most_threads) refl refl refl)))))))

  -- ---- a number of threads, and a range

  lt_not : (u w : ℤ) → int_lt w u ≡ not (int_le u w)
  lt_not u w = go (int_lt w u) (int_le u w) refl refl
    where
      go : (a b : Bool) → int_lt w u ≡ a → int_le u w ≡ b → a ≡ not b
      go true true e e' = absurd (omega (arith, ints, e, e'))
      go true false e e' = refl
      go false true e e' = refl
      go false false e e' = absurd (omega (arith, ints, e, e'))

  truth_bit : (b : Bool) → Deeds.truth (Deeds.bit b) ≡ b
  truth_bit true = refl
  truth_bit false = refl

  -- a raise that is passed, or not
  raise_goes : {m : Stored R} {goal : R → Dyn → Step} (r : Reason) (b : Bool) (u w v : ℤ) (q to : ℕ) → Deeds.truth v ≡ not b → At c q (i.JFalse to) x.entry → Stands c (one s.scope ht (i.Raise r)) (q + 1) to
      → {h : Ghost} → (b ≡ true → Doing limit c f x h g any m (λ d. on f to stk d) goal) → (b ≡ false → Doing limit c f x h g any m (λ d. thrown r x.entry f d) goal) → Doing limit c f x h g any m (λ d. on f q (v ∷ stk) d) goal
  raise_goes r true u w v q to e at (ar, z) pass stop = does_before limit c f x (λ d. comes_goes limit c f (v ∷ stk) to stk d at (ap (λ b. GoesOn (cond b (q + 1) to) (stk ++ f.below)) e)) (pass refl)
  raise_goes r false u w v q to e at (ar, z) pass stop = does_before limit c f x (λ d. comes_on limit c (comes_goes limit c f (v ∷ stk) (q + 1) stk d at (ap (λ b. GoesOn (cond b (q + 1) to) (stk ++ f.below)) e)) (comes_fails limit c f stk stk r d (at_entry en ar) refl)) (stop refl)

  -- the first number isn't above the second
  above_goes : {m : Stored R} {goal : R → Dyn → Step} (u w : ℤ) (from to : ℕ) → Stands c (Emission.raise_above s.scope ht s.scope.free) from to
      → (int_le u w ≡ true → Doing limit c f x (bounds u w) g any m (λ d. on f to stk d) goal) → (int_le u w ≡ false → Doing limit c f x (bounds u w) g any m (λ d. thrown reason.ProgramError x.entry f d) goal)
      → Doing limit c f x (bounds u w) g any m (λ d. on f from stk d) goal
  above_goes u w from to (j1, (j2, (j3, l))) pass stop =
      let (at, r) = stands_when c (from + 1 + 1 + 1) to s ht (one s.scope ht (i.Raise reason.ProgramError)) l in
      does_by limit c f x (λ st d z. comes_on limit c (comes_kept limit cuts c f s.scope.free u stk d z (first_at limit cuts c f x s.scope.free u w g) j1)
      (comes_on limit c (comes_kept limit cuts c f (s.scope.free + 1) w (u ∷ stk) d z (last_at limit cuts c f x s.scope.free u w g) j2)
      (comes_goes limit c f (w ∷ u ∷ stk) (from + 1 + 1 + 1) (Deeds.bit (int_lt w u) ∷ stk) d j3 refl)))
      (raise_goes reason.ProgramError (int_le u w) u w (Deeds.bit (int_lt w u)) (from + 1 + 1 + 1) to (truth_bit (int_lt w u) ∙ lt_not u w) (at_entry en at) r pass stop)

  raised : {h : Ghost} {A : Type 0} (r : Reason) (then : A → Stored R) {goal : R → Dyn → Step} → ((st : stored.State) (d : Dyn) → Fit h st d → Fit g st d) → Doing limit c f x h g any (stored.bind (stored.leaves {A = A} (Raises r)) then) (λ d. thrown r x.entry f d) goal
  unfolding stored.bind stored.leaves
  raised r then {goal} back = does_weak limit c f x back (does_is limit c f x {to = goal} (Err (stored.Left (Raises r))) (λ st. refl) (λ d. comes_here limit c (thrown r x.entry f d)))

  back_two : (u w : ℤ) (st : stored.State) (d : Dyn) → Fit (bounds u w) st d → Fit g st d
  back_two u w st d z = fit_uncount limit cuts c f s u w room kn st d z

  -- the least of a number and the most threads
  most_same : (v : ℤ) → int_lt (pos 0) v ≡ true → many (pos 1) (int_min v (pos most_threads)) ≡ min (Values.to_nat v) most_threads
  most_same (pos n) e = go (int_lt (pos most_threads) (pos n)) refl
    where
      natural_same : (m : ℕ) → many (pos 1) (pos m) ≡ m
      natural_same m = ap Deeds.natural (let z : pos m +ℤ pos 1 -ℤ pos 1 ≡ pos m = omega (arith, ints) in z)

      go : (b : Bool) → int_lt (pos most_threads) (pos n) ≡ b → many (pos 1) (cond (int_lt (pos most_threads) (pos n)) (pos most_threads) (pos n)) ≡ min n most_threads
      go true h = ap (λ b. many (pos 1) (cond b (pos most_threads) (pos n))) h ∙ natural_same most_threads ∙ (let z : most_threads ≡ min n most_threads = omega (arith, ints, h) in z)
      go false h = ap (λ b. many (pos 1) (cond b (pos most_threads) (pos n))) h ∙ natural_same n ∙ (let z : n ≡ min n most_threads = omega (arith, ints, h) in z)
  most_same (negsuc n) e = absurd (omega (arith, ints, e))

  least_pos : (v : ℤ) → int_lt (pos 0) v ≡ true → 1 ≤ min (Values.to_nat v) most_threads
  least_pos (pos n) e = omega (arith, ints, e)
  least_pos (negsuc n) e = absurd (omega (arith, ints, e))

  above_same : (v : ℤ) → int_le (pos 1) (int_min v (pos most_threads)) ≡ int_lt (pos 0) v
  above_same v = go (int_lt (pos most_threads) v) refl
    where
      leaf : (z : ℤ) (b c : Bool) → int_le (pos 1) z ≡ b → int_lt (pos 0) v ≡ c → (b ≡ true → c ≡ false → ⊥) → (b ≡ false → c ≡ true → ⊥) → b ≡ c
      leaf z true true e e' p q = refl
      leaf z true false e e' p q = absurd (p refl refl)
      leaf z false true e e' p q = absurd (q refl refl)
      leaf z false false e e' p q = refl

      go : (b : Bool) → int_lt (pos most_threads) v ≡ b → int_le (pos 1) (cond (int_lt (pos most_threads) v) (pos most_threads) v) ≡ int_lt (pos 0) v
      go true h = ap (λ b. int_le (pos 1) (cond b (pos most_threads) v)) h ∙ leaf (pos most_threads) (int_le (pos 1) (pos most_threads)) (int_lt (pos 0) v) refl refl (λ e e'. omega (arith, ints, h, e')) (λ e e'. true≢false e)
      go false h = ap (λ b. int_le (pos 1) (cond b (pos most_threads) v)) h ∙ leaf v (int_le (pos 1) v) (int_lt (pos 0) v) refl refl (λ e e'. omega (arith, ints, e, e')) (λ e e'. omega (arith, ints, e, e'))

  -- ---- a number

  pub number_does : (e : Expr) (from to : ℕ) → Stands c (chunk_code program s.scope ht (Count e)) from to → Fitted program globals mains epar (taking 1 s) e → (then : ℕ → Stored R) (goal : R → Dyn → Step) (rest : ℤ → Stored R)
      → ((v : ℤ) (h : Ghost) (at_ : Dyn → Step) → Doing limit c f x h g any (stored.bind (Meaning.most_of oper v) then) at_ goal → Doing limit c f x h g any (rest v) at_ goal)
      → ((n : ℕ) (ch : ℤ) → n ≡ many (pos 1) ch → nat_le 1 (many (pos 1) ch) ≡ true → nat_le (many (pos 1) ch) most_threads ≡ true → Runs limit c f x (bounds (pos 1) ch) any (then n) (λ d. on f to stk d) goal)
      → Runs limit c f x g any (stored.bind (Meaning.eval oper limit program calls e env) rest) (λ d. on f from stk d) goal
  unfolding Rattle.ada_lower.specs.Emission.emit
  number_does e from to (j1, (j2, l2)) w then goal rest as_ k =
      let room1 : s.scope.free < s.cells = omega (arith, room) in
      let free1 = kn.free s.scope.free (le_refl s.scope.free) room1 in
      let (m1, le, (j3, (j4, (j5, lr)))) = stands_seq c (from + 1 + 1) to (emit program (taking 1 s).scope ht e) (one s.scope (ht + 1) (i.Push (pos most_threads)) ⨟ one s.scope (ht + 1 + 1) i.Min ⨟ Emission.keep s.scope (ht + 1) (s.scope.free + 1) ⨟ Emission.raise_above s.scope ht s.scope.free) l2 in
      does_before limit c f x (λ d. comes_goes limit c f stk (from + 1) (pos 1 ∷ stk) d j1 refl)
      (does_keep limit c f x (from + 1) s.scope.free (pos 1) stk (own_free (g.what (f.base + s.scope.free)) free1) (at_entry en j2)
      (does_seq limit c f x (λ st d z. fit_unset (f.base + s.scope.free) (pos 1) free1 z) (λ ts al. al) (value_does limit cuts program c f x calls globals mains epar (calls_all f (alike f)) e (from + 1 + 1) m1 (taking 1 s) ht stk (knows_env (knows_keep (pos 1) room1 kn)) en w le) (λ v _.
      does_before limit c f x (λ d. comes_on limit c (comes_goes limit c f (v ∷ stk) (m1 + 1) (pos most_threads ∷ v ∷ stk) d j3 refl) (comes_goes limit c f (pos most_threads ∷ v ∷ stk) (m1 + 1 + 1) (int_min v (pos most_threads) ∷ stk) d j4 refl))
      (two_kept (pos 1) (int_min v (pos most_threads)) (m1 + 1 + 1) (at_entry en j5)
      (as_ v (bounds (pos 1) (int_min v (pos most_threads))) (λ d. on f (m1 + 1 + 1 + 1) stk d) (tests v (m1 + 1 + 1 + 1) lr (int_lt (pos 0) v) refl))))))
    where
      knows_env : {h : Ghost} {u : Sight} → Knows limit cuts h f u env → Knows limit cuts h f u env
      knows_env k = record { most = k.most; nested = k.nested; plan = k.plan; kept = k.kept; top = k.top; beyond = k.beyond; global = k.global; outside = k.outside; one = k.one; old = k.old; hidden = k.hidden; object = k.object; parameter = k.parameter; item = k.item; constant_item = k.constant_item; target = k.target; handled = k.handled; free = k.free }

      tests : (v : ℤ) (p : ℕ) → Stands c (Emission.raise_above s.scope ht s.scope.free) p to → (b : Bool) → int_lt (pos 0) v ≡ b
          → Doing limit c f x (bounds (pos 1) (int_min v (pos most_threads))) g any (stored.bind (Meaning.most_of oper v) then) (λ d. on f p stk d) goal
      tests v p l true e =
          above_goes (pos 1) (int_min v (pos most_threads)) p to l
          (λ h. does_assoc limit c f x _ _ then
          (subst (λ b. Doing limit c f x (bounds (pos 1) (int_min v (pos most_threads))) g any (stored.bind (Meaning.unless oper b reason.ProgramError) (λ _. stored.bind (stored.ret (min (Values.to_nat v) most_threads)) then)) (λ d. on f to stk d) goal) (sym e)
          (does_returned limit c f x (λ _. stored.bind (stored.ret (min (Values.to_nat v) most_threads)) then) (tt {0})
          (does_returned limit c f x then (min (Values.to_nat v) most_threads)
          (does_weak limit c f x (λ st d z. back_two (pos 1) (int_min v (pos most_threads)) st d z)
          (k (min (Values.to_nat v) most_threads) (int_min v (pos most_threads)) (sym (most_same v e))
          (ap (λ n. nat_le 1 n) (most_same v e) ∙ le-leb 1 (min (Values.to_nat v) most_threads) (least_pos v e))
          (ap (λ n. nat_le n most_threads) (most_same v e) ∙ le-leb (min (Values.to_nat v) most_threads) most_threads (omega arith))))))))
          (λ h. absurd (true≢false (sym (above_same v ∙ e) ∙ h)))
      tests v p l false e =
          above_goes (pos 1) (int_min v (pos most_threads)) p to l
          (λ h. absurd (true≢false (sym h ∙ (above_same v ∙ e))))
          (λ h. does_assoc limit c f x _ _ then
          (subst (λ b. Doing limit c f x (bounds (pos 1) (int_min v (pos most_threads))) g any (stored.bind (Meaning.unless oper b reason.ProgramError) (λ _. stored.bind (stored.ret (min (Values.to_nat v) most_threads)) then)) (λ d. thrown reason.ProgramError x.entry f d) goal) (sym e)
          (raised reason.ProgramError (λ _. stored.bind (stored.ret (min (Values.to_nat v) most_threads)) then) (back_two (pos 1) (int_min v (pos most_threads))))))

  pub count_does : (e : Expr) (from to : ℕ) → Stands c (chunk_code program s.scope ht (Count e)) from to → Fitted program globals mains epar (taking 1 s) e → (then : Chunking → Stored R) (goal : R → Dyn → Step)
      → ((k : Chunking) (cl ch : ℤ) → Chunks (Count e) cl ch k → nat_le 1 (many cl ch) ≡ true → nat_le (many cl ch) most_threads ≡ true → Runs limit c f x (bounds cl ch) any (then k) (λ d. on f to stk d) goal)
      → Runs limit c f x g any (stored.bind (Meaning.chunking oper limit program calls (Count e) env) then) (λ d. on f from stk d) goal
  count_does e from to l w then goal k =
      does_assoc limit c f x _ _ then
      (number_does e from to l w (λ n. stored.bind (stored.ret (record { most = n; even = false; bound = λ j e. e })) then) goal
      (λ v. stored.bind (stored.bind (Meaning.most_of oper v) (λ n. stored.ret (record { most = n; even = false; bound = λ j e. e }))) then)
      (λ v h a z. does_assoc limit c f x (Meaning.most_of oper v) (λ n. stored.ret (record { most = n; even = false; bound = λ j e. e })) then z)
      (λ n ch is some few. does_returned limit c f x then (record { most = n; even = false; bound = λ j e. e })
      (k (record { most = n; even = false; bound = λ j e. e }) (pos 1) ch (ap (λ n. record { most = n; even = false; bound = λ j e. e }) is) some few)))

  -- ---- a range

  -- how many values it has, and the test of their number
  few_same : (l h : ℤ) → Deeds.is_far most_threads l h ≡ not (nat_le (Values.count l h) most_threads)
  few_same l h = go (h +ℤ pos 1 -ℤ l) refl
    where
      leaf : (n : ℕ) (a b : Bool) → int_le (l +ℤ pos most_threads) h ≡ a → nat_le n most_threads ≡ b → (a ≡ true → b ≡ true → ⊥) → (a ≡ false → b ≡ false → ⊥) → int_le (l +ℤ pos most_threads) h ≡ not (nat_le n most_threads)
      leaf n true true e e' p q = absurd (p refl refl)
      leaf n true false e e' p q = e ∙ ap not (sym e')
      leaf n false true e e' p q = e ∙ ap not (sym e')
      leaf n false false e e' p q = absurd (q refl refl)

      go : (z : ℤ) → z ≡ h +ℤ pos 1 -ℤ l → int_le (l +ℤ pos most_threads) h ≡ not (nat_le (Values.to_nat z) most_threads)
      go (pos n) is = leaf n (int_le (l +ℤ pos most_threads) h) (nat_le n most_threads) refl refl (λ e e'. let le = leb-true n most_threads e' in omega (arith, ints, e, le, is)) (λ e e'. let gt = leb-false n most_threads e' in omega (arith, ints, e, gt, is))
      go (negsuc n) is = leaf 0 (int_le (l +ℤ pos most_threads) h) true refl refl (λ e e'. omega (arith, ints, e, is)) (λ e e'. true≢false e')

  one_least : (l h : ℤ) → int_le l h ≡ true → nat_le 1 (Values.count l h) ≡ true
  one_least l h e = go (h +ℤ pos 1 -ℤ l) refl
    where
      go : (z : ℤ) → z ≡ h +ℤ pos 1 -ℤ l → nat_le 1 (Values.to_nat z) ≡ true
      go (pos n) is = le-leb 1 n (omega (arith, ints, e, is))
      go (negsuc n) is = absurd (omega (arith, ints, e, is))

  module _ (kc : ℕ) (low high : Expr) (check : Option Check) (then : Chunking → Stored R) (goal : R → Dyn → Step) where
    abbrev chunking_of : ℤ → ℤ → Chunking
    chunking_of l h = record { most = Values.count l h; even = true; bound = λ j. Meaning.with_parameter kc (l +ℤ pos j) }

    abbrev last_test : ℤ → ℤ → Stored R
    last_test l h = stored.bind (stored.bind (Meaning.unless oper (nat_le (Values.count l h) most_threads) reason.StorageError) (λ _. stored.ret (chunking_of l h))) then

    abbrev Onward : ℕ → Type 0
    Onward to = (k : Chunking) (cl ch : ℤ) → Chunks (Each kc low high check) cl ch k → nat_le 1 (many cl ch) ≡ true → nat_le (many cl ch) most_threads ≡ true → Runs limit c f x (bounds cl ch) any (then k) (λ d. on f to stk d) goal

    few_goes : (l h : ℤ) (from to : ℕ) → int_le l h ≡ true → Stands c (one s.scope ht (i.LoadL s.scope.free) ⨟ one s.scope (ht + 1) (i.LoadL (s.scope.free + 1)) ⨟ one s.scope (ht + 1 + 1) (i.Far most_threads) ⨟ when_ s.scope ht (one s.scope ht (i.Raise reason.StorageError))) from to → Onward to
        → Doing limit c f x (bounds l h) g any (last_test l h) (λ d. on f from stk d) goal
    few_goes l h from to le (j1, (j2, (j3, r))) k =
        let (at, ar) = stands_when c (from + 1 + 1 + 1) to s ht (one s.scope ht (i.Raise reason.StorageError)) r in
        does_by limit c f x (λ st d z. comes_on limit c (comes_kept limit cuts c f s.scope.free l stk d z (first_at limit cuts c f x s.scope.free l h g) j1)
        (comes_on limit c (comes_kept limit cuts c f (s.scope.free + 1) h (l ∷ stk) d z (last_at limit cuts c f x s.scope.free l h g) j2)
        (comes_goes limit c f (h ∷ l ∷ stk) (from + 1 + 1 + 1) (Deeds.bit (Deeds.is_far most_threads l h) ∷ stk) d j3 refl)))
        (raise_goes reason.StorageError (nat_le (Values.count l h) most_threads) l h (Deeds.bit (Deeds.is_far most_threads l h)) (from + 1 + 1 + 1) to (truth_bit (Deeds.is_far most_threads l h) ∙ few_same l h) (at_entry en at) ar
        (λ e. does_assoc limit c f x _ _ then
        (subst (λ b. Doing limit c f x (bounds l h) g any (stored.bind (Meaning.unless oper b reason.StorageError) (λ _. stored.bind (stored.ret (chunking_of l h)) then)) (λ d. on f to stk d) goal) (sym e)
        (does_returned limit c f x (λ _. stored.bind (stored.ret (chunking_of l h)) then) (tt {0})
        (does_returned limit c f x then (chunking_of l h)
        (does_weak limit c f x (λ st d z. back_two l h st d z)
        (k (chunking_of l h) l h (ap (λ n. record { most = n; even = true; bound = λ j. Meaning.with_parameter kc (l +ℤ pos j) }) (sym (to_nat_same (h +ℤ pos 1 -ℤ l))))
        (ap (λ n. nat_le 1 n) (to_nat_same (h +ℤ pos 1 -ℤ l)) ∙ one_least l h le) (ap (λ n. nat_le n most_threads) (to_nat_same (h +ℤ pos 1 -ℤ l)) ∙ e)))))))
        (λ e. does_assoc limit c f x _ _ then
        (subst (λ b. Doing limit c f x (bounds l h) g any (stored.bind (Meaning.unless oper b reason.StorageError) (λ _. stored.bind (stored.ret (chunking_of l h)) then)) (λ d. thrown reason.StorageError x.entry f d) goal) (sym e)
        (raised reason.StorageError (λ _. stored.bind (stored.ret (chunking_of l h)) then) (back_two l h)))))

    abbrev tests_of : ℤ → ℤ → Stored Chunking
    tests_of l h = stored.bind (Meaning.unless oper (int_le l h) reason.ProgramError) (λ _. stored.bind (Meaning.unless oper (nat_le (Values.count l h) most_threads) reason.StorageError) (λ _. stored.ret (chunking_of l h)))

    abbrev tail_code : Emit
    tail_code = one s.scope ht (i.LoadL s.scope.free) ⨟ one s.scope (ht + 1) (i.LoadL (s.scope.free + 1)) ⨟ one s.scope (ht + 1 + 1) (i.Far most_threads) ⨟ when_ s.scope ht (one s.scope ht (i.Raise reason.StorageError))

    -- the range has a value
    passes : (l h : ℤ) (from to : ℕ) → int_le l h ≡ true → Stands c tail_code from to → Onward to → Doing limit c f x (bounds l h) g any (stored.bind (tests_of l h) then) (λ d. on f from stk d) goal
    passes l h from to le st k =
        does_assoc limit c f x _ _ then
        (subst (λ b. Doing limit c f x (bounds l h) g any (stored.bind (Meaning.unless oper b reason.ProgramError) (λ _. last_test l h)) (λ d. on f from stk d) goal) (sym le)
        (does_returned limit c f x (λ _. last_test l h) (tt {0}) (few_goes l h from to le st k)))

    within_bounds : (ck : Option Check) (l h : ℤ) (from to : ℕ) → int_le l h ≡ true → Stands c (Emission.bounds_code s.scope ht s.scope.free ck ⨟ tail_code) from to → Onward to
        → Doing limit c f x (bounds l h) g any (stored.bind (stored.bind (Meaning.bounds_checked oper ck l h) (λ _. tests_of l h)) then) (λ d. on f from stk d) goal
    within_bounds None l h from to le st k =
        let (m, lb, lt) = stands_seq c from to (Emission.bounds_code s.scope ht s.scope.free None) tail_code st in
        does_assoc limit c f x _ _ then (does_returned limit c f x (λ _. stored.bind (tests_of l h) then) (tt {0}) (passes l h from to le (subst (λ q. Stands c tail_code q to) lb lt) k))
    within_bounds (Some ck) l h from to le st k =
        let (m, lb, lt) = stands_seq c from to (Emission.bounds_code s.scope ht s.scope.free (Some ck)) tail_code st in
        does_assoc limit c f x _ _ then
        (subst (λ b. Doing limit c f x (bounds l h) g any (stored.bind (cond b (stored.checks RangeCheck ck.at (Values.is_in ck.scalar l && Values.is_in ck.scalar h)) (stored.ret (tt {0}))) (λ _. stored.bind (tests_of l h) then)) (λ d. on f from stk d) goal) (sym le)
        (does_seq limit c f x (back_two l h) (λ ts al. al) (bounds_does limit cuts c f x s ht s.scope.free from m ck l h stk en (first_at limit cuts c f x s.scope.free l h g) (last_at limit cuts c f x s.scope.free l h g) lb)
        (λ u _. passes l h m to le lt k)))

    ranged : (l h : ℤ) (from to : ℕ) → Stands c (Emission.raise_above s.scope ht s.scope.free ⨟ Emission.bounds_code s.scope ht s.scope.free check ⨟ tail_code) from to → Onward to
        → Doing limit c f x (bounds l h) g any (stored.bind (stored.bind (Meaning.bounds_checked oper check l h) (λ _. tests_of l h)) then) (λ d. on f from stk d) goal
    ranged l h from to st k =
        let (m, la, lb) = stands_seq c from to (Emission.raise_above s.scope ht s.scope.free) (Emission.bounds_code s.scope ht s.scope.free check ⨟ tail_code) st in
        above_goes l h from m la
        (λ le. within_bounds check l h m to le lb k)
        (λ gt. does_assoc limit c f x _ _ then
        (subst (λ b. Doing limit c f x (bounds l h) g any (stored.bind b (λ _. stored.bind (tests_of l h) then)) (λ d. thrown reason.ProgramError x.entry f d) goal) (sym (bounds_none limit cuts c f check l h gt))
        (does_returned limit c f x (λ _. stored.bind (tests_of l h) then) (tt {0})
        (does_assoc limit c f x _ _ then
        (subst (λ b. Doing limit c f x (bounds l h) g any (stored.bind (Meaning.unless oper b reason.ProgramError) (λ _. last_test l h)) (λ d. thrown reason.ProgramError x.entry f d) goal) (sym gt)
        (raised reason.ProgramError (λ _. last_test l h) (back_two l h)))))))

    pub each_does : (from to : ℕ) → Stands c (chunk_code program s.scope ht (Each kc low high check)) from to → Fitted program globals mains epar s low → Fitted program globals mains epar (taking 1 s) high → Onward to
        → Runs limit c f x g any (stored.bind (Meaning.chunking oper limit program calls (Each kc low high check) env) then) (λ d. on f from stk d) goal
    unfolding Rattle.ada_lower.specs.Emission.emit
    each_does from to l wl wh k =
        let room1 : s.scope.free < s.cells = omega (arith, room) in
        let free1 = kn.free s.scope.free (le_refl s.scope.free) room1 in
        let rest : Emit = Emission.raise_above s.scope ht s.scope.free ⨟ Emission.bounds_code s.scope ht s.scope.free check ⨟ tail_code in
        let (m1, l1, (j1, r1)) = stands_seq c from to (emit program s.scope ht low) (Emission.keep s.scope (ht + 1) s.scope.free ⨟ emit program (taking 1 s).scope ht high ⨟ Emission.keep s.scope (ht + 1) (s.scope.free + 1) ⨟ rest) l in
        let (m2, l2, (j2, r2)) = stands_seq c (m1 + 1) to (emit program (taking 1 s).scope ht high) (Emission.keep s.scope (ht + 1) (s.scope.free + 1) ⨟ rest) r1 in
        does_assoc limit c f x _ _ then
        (does_bind limit c f x (value_does limit cuts program c f x calls globals mains epar (calls_all f (alike f)) low from m1 s ht stk (knows_in kn) en wl l1) (λ u _.
        does_keep limit c f x m1 s.scope.free u stk (own_free (g.what (f.base + s.scope.free)) free1) (at_entry en j1)
        (does_assoc limit c f x _ _ then
        (does_seq limit c f x (λ st d z. fit_unset (f.base + s.scope.free) u free1 z) (λ ts al. al) (value_does limit cuts program c f x calls globals mains epar (calls_all f (alike f)) high (m1 + 1) m2 (taking 1 s) ht stk (knows_in (knows_keep u room1 kn)) en wh l2) (λ v _.
        two_kept u v m2 (at_entry en j2) (ranged u v (m2 + 1) to r2 k))))))
      where
        knows_in : {h : Ghost} {w : Sight} → Knows limit cuts h f w env → Knows limit cuts h f w env
        knows_in k = record { most = k.most; nested = k.nested; plan = k.plan; kept = k.kept; top = k.top; beyond = k.beyond; global = k.global; outside = k.outside; one = k.one; old = k.old; hidden = k.hidden; object = k.object; parameter = k.parameter; item = k.item; constant_item = k.constant_item; target = k.target; handled = k.handled; free = k.free }

  -- any of them
  pub chunk_does : (chunk : Chunk) (from to : ℕ) → Stands c (chunk_code program s.scope ht chunk) from to → FittedChunk program globals mains epar s chunk → (then : Chunking → Stored R) (goal : R → Dyn → Step)
      → ((k : Chunking) (cl ch : ℤ) → Chunks chunk cl ch k → nat_le 1 (many cl ch) ≡ true → nat_le (many cl ch) most_threads ≡ true → Runs limit c f x (bounds cl ch) any (then k) (λ d. on f to stk d) goal)
      → Runs limit c f x g any (stored.bind (Meaning.chunking oper limit program calls chunk env) then) (λ d. on f from stk d) goal
  chunk_does NoChunk from to l w then goal k = none_does from to l then goal k
  chunk_does (Count e) from to l w then goal k = count_does e from to l w then goal k
  chunk_does (Each kc low high check) from to l w then goal k = each_does kc low high check then goal from to l w.0 w.1 k
