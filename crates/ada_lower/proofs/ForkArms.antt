-- Threads of parallel blocks: each does its arms in order.
use Rattle.std.proofs.Common.{◌≡◌, ℕ, zero, suc, ◌+◌, ◌<◌, ◌≤◌, ℤ, pos, ◌+ℤ◌, int_le, List, [], ◌∷◌, slice_get, Option, Some, None, Err, Bool, true, false, cond, ◌&&◌, refl, sym, ap, ◌∙◌, subst, le_refl, arith}
use Rattle.std.specs.Int.{int_min}
use Rattle.std.proofs.lemmas.Int.{ints}
use Rattle.behaviours.specs.Doings.{through}
use Rattle.behaviours.specs.Joins.{Share}
use Rattle.behaviours.specs.Paths.{Leave}
use Rattle.typed_tree.specs.Syntax.{Expr, Program}
use Rattle.ada_meaning.specs.Stored as stored
use Rattle.ada_meaning.specs.Stored.{Stored}
use Rattle.ada_meaning.specs.Meaning.{Env, Passed, Returned}
use Rattle.stack_code.specs.declared.code.Code.{Code}
use Rattle.stack_code.specs.declared.code.CodeSite.{CodeSite}
use Rattle.stack_code.specs.declared.instr.Instr.TheVariants as i
use Rattle.stack_code.specs.declared.path.Asked.{Asked}
use Rattle.stack_code.specs.Deeds
use Rattle.stack_code.specs.Deeds.{GoesOn, is_related}
use Rattle.behaviours.specs.Paths.{Entity}
use Rattle.ada_lower.specs.Driven.{Dyn, Fixed, on, At, Alike}
use Rattle.ada_lower.specs.Sights.{Emit, Named, Sight, Stands, one, taking, thread_sight, when_, ◌⨟◌}
use Rattle.ada_lower.specs.Fits.{Keeps, Fit, Ghost, Knows}
use Rattle.ada_lower.proofs.Forks.{threaded, thread_ends, done_so, ThreadDoes}
use Rattle.ada_lower.specs.Emission.{in_share, arms_code}
use Rattle.ada_lower.proofs.Inner.{InnerDo}
use Rattle.ada_lower.proofs.Framework.{any, To, comes_as, comes_on, comes_goes, does_bind, does_ret}
use Rattle.ada_lower.proofs.Standing.{stands_seq, stands_when}
use Rattle.ada_lower.proofs.Parts.{Runs, does_to, does_weak}
use Rattle.ada_lower.proofs.Names.{does_by}
use Rattle.ada_lower.proofs.Courses.{comes_kept}
use Rattle.ada_lower.proofs.Loops.{first_at, last_at}
use Rattle.ada_lower.proofs.ForkLeft.{truth_of_bit}
use Rattle.ada_lower.proofs.ForkLoops.{first_of, last_of, base_ghost, turns_ghost, enters_so, leaves_so, allows_so, free_again, knows_turns}

module _ (limit : ℕ) (cuts : ℕ → ℕ → List ℕ) (program : Program) (c : Code) (f : Fixed) (calls : ℕ → ℕ → Stored (Unit {0}) → List Passed → Stored Returned) (globals : ℕ → Entity → Option Named) (mains : Entity → Bool) (epar : Sight → Expr → Type 0) (calls_all : (f' : Fixed) → Alike f' f → InnerDo limit cuts program globals mains epar c f' calls) (t : Sight) (en : t.scope.entry ≡ None) where
  -- the code of an arm does it; beyond the last nothing is done
  abbrev pub ArmDoes : Ghost → Option Emit → Stored (Unit {0}) → Type 0
  ArmDoes g None m = (p : ℕ) → Runs limit c f thread_ends g any m (λ d. on f p [] d) (λ _ d. on f p [] d)
  ArmDoes g (Some e) m = (p q : ℕ) → Stands c e p q → Runs limit c f thread_ends g any m (λ d. on f p [] d) (λ _ d. on f q [] d)

  min_deeds : (a b : Bool) → int_min (Deeds.bit b) (Deeds.bit a) ≡ Deeds.bit (a && b)
  min_deeds true true = refl
  min_deeds true false = refl
  min_deeds false true = refl
  min_deeds false false = refl

  -- whether a number is one from the first to the last
  abbrev is_in : ℤ → ℤ → ℕ → Bool
  is_in u v n = int_le (pos n) v && int_le u (pos n)

  share_comes : {g : Ghost} {w : stored.State} (u v : ℤ) (n from to : ℕ) (d : Dyn) → g.what (f.base + 2) ≡ Keeps u → g.what (f.base + 3) ≡ Keeps v → Fit g w d → Stands c (in_share program t.scope n) from to
      → To limit c (on f from [] d) (on f to (Deeds.bit (is_in u v n) ∷ []) d)
  share_comes u v n from to d ku kv fit (j1, (j2, (j3, (j4, (j5, (j6, (j7, z))))))) =
      let q : ℕ = from + 1 + 1 + 1 + 1 + 1 + 1 in
      let a : ℤ = Deeds.bit (int_le u (pos n)) in
      let b : ℤ = Deeds.bit (int_le (pos n) v) in
      comes_on limit c (comes_kept limit cuts c f 2 u [] d fit ku j1)
      (comes_on limit c (comes_goes limit c f (u ∷ []) (from + 1 + 1) (pos n ∷ u ∷ []) d j2 refl)
      (comes_on limit c (comes_goes limit c f (pos n ∷ u ∷ []) (from + 1 + 1 + 1) (a ∷ []) d j3 refl)
      (comes_on limit c (comes_goes limit c f (a ∷ []) (from + 1 + 1 + 1 + 1) (pos n ∷ a ∷ []) d j4 refl)
      (comes_on limit c (comes_kept limit cuts c f 3 v (pos n ∷ a ∷ []) d fit kv j5)
      (comes_on limit c (comes_goes limit c f (v ∷ pos n ∷ a ∷ []) q (b ∷ a ∷ []) d j6 refl)
      (subst (λ p. To limit c (on f q (b ∷ a ∷ []) d) (on f p (Deeds.bit (is_in u v n) ∷ []) d)) (sym z)
      (comes_goes limit c f (b ∷ a ∷ []) (q + 1) (Deeds.bit (is_in u v n) ∷ []) d j7 (ap (λ y. GoesOn (q + 1) (y ∷ f.below)) (min_deeds (int_le (pos n) v) (int_le u (pos n)))))))))))

  -- an arm that isn't of the share is passed, and one that is is entered
  share_goes : {g : Ghost} {w : stored.State} (u v : ℤ) (n from mid to : ℕ) (d : Dyn) (b : Bool) → is_in u v n ≡ b → g.what (f.base + 2) ≡ Keeps u → g.what (f.base + 3) ≡ Keeps v → Fit g w d → Stands c (in_share program t.scope n) from mid → At c mid (i.JFalse to) t.scope.entry
      → To limit c (on f from [] d) (on f (cond b (mid + 1) to) [] d)
  share_goes u v n from mid to d b is ku kv fit l at =
      comes_on limit c (share_comes u v n from mid d ku kv fit l)
      (comes_goes limit c f (Deeds.bit (is_in u v n) ∷ []) (cond b (mid + 1) to) [] d at (ap (λ y. GoesOn (cond y (mid + 1) to) f.below) (truth_of_bit (is_in u v n) ∙ is)))

  module _ (g : Ghost) (u v : ℤ) (ku : g.what (f.base + 2) ≡ Keeps u) (kv : g.what (f.base + 3) ≡ Keeps v) (acts : ℕ → Stored (Unit {0})) where
    abbrev Goes : Stored (Unit {0}) → ℕ → ℕ → Type 0
    Goes m from to = Runs limit c f thread_ends g any m (λ d. on f from [] d) (λ _ d. on f to [] d)

    -- where none is left
    none_more : (es : List Emit) (n from to : ℕ) → ((k : ℕ) → n ≤ k → is_in u v k ≡ false) → Stands c (arms_code program t.scope n es) from to → Goes (stored.ret (tt {0})) from to
    none_more [] n from to out l = subst (λ q. Goes (stored.ret (tt {0})) from q) (sym l) (does_ret limit c f thread_ends {to = λ _ d. on f from [] d} tt tt)
    none_more (e ∷ es) n from to out l =
        let (m, l1, l2) = stands_seq c from to (in_share program t.scope n ⨟ when_ t.scope 0 e) (arms_code program t.scope (n + 1) es) l in
        let (mid, l3, l4) = stands_seq c from m (in_share program t.scope n) (when_ t.scope 0 e) l1 in
        let (at, l5) = stands_when c mid m t 0 e l4 in
        does_by limit c f thread_ends (λ w d fit. share_goes u v n from mid m d false (out n (le_refl n)) ku kv fit l3 at)
        (none_more es (n + 1) m to (λ k le. out k (omega (arith, le))) l2)

    -- those that are left, the first of which is the next
    more_do : (size first n : ℕ) (es : List Emit) (from to : ℕ) → n ≡ first → ((k : ℕ) → n ≤ k → k < n + size → is_in u v k ≡ true) → ((k : ℕ) → n + size ≤ k → is_in u v k ≡ false) → ((k : ℕ) → ArmDoes g (slice_get es k) (acts (first + k)))
        → Stands c (arms_code program t.scope n es) from to → Goes (through stored.doings first size tt (λ k _. acts k)) from to
    more_do zero first n es from to same inside outside does l = none_more es n from to (λ k le. outside k (omega (arith, le))) l
    more_do (suc size) first n [] from to same inside outside does l =
        subst (λ q. Goes (through stored.doings first (suc size) tt (λ k _. acts k)) from q) (sym l)
        (does_bind limit c f thread_ends (subst (λ k. Goes (acts k) from from) (let z : first + 0 ≡ first = omega arith in z) (does 0 from)) (λ _ _.
        more_do size (suc first) (n + 1) [] from from (omega (arith, same)) (λ k le lt. inside k (omega (arith, le)) (omega (arith, lt))) (λ k le. outside k (omega (arith, le)))
        (λ k. subst (λ k. ArmDoes g None (acts k)) (let z : first + suc k ≡ suc first + k = omega arith in z) (does (suc k))) refl))
    more_do (suc size) first n (e ∷ es) from to same inside outside does l =
        let (m, l1, l2) = stands_seq c from to (in_share program t.scope n ⨟ when_ t.scope 0 e) (arms_code program t.scope (n + 1) es) l in
        let (mid, l3, l4) = stands_seq c from m (in_share program t.scope n) (when_ t.scope 0 e) l1 in
        let (at, l5) = stands_when c mid m t 0 e l4 in
        does_by limit c f thread_ends (λ w d fit. share_goes u v n from mid m d true (inside n (le_refl n) (omega arith)) ku kv fit l3 at)
        (does_bind limit c f thread_ends (subst (λ k. Goes (acts k) (mid + 1) m) (let z : first + 0 ≡ first = omega arith in z) (does 0 (mid + 1) m l5)) (λ _ _.
        more_do size (suc first) (n + 1) es m to (omega (arith, same)) (λ k le lt. inside k (omega (arith, le)) (omega (arith, lt))) (λ k le. outside k (omega (arith, le)))
        (λ k. subst (λ a. ArmDoes g (slice_get es k) (acts a)) (let z : first + suc k ≡ suc first + k = omega arith in z) (does (suc k))) l2))

    -- all of them, so many of which come before the share
    pub arms_do : (before size first n : ℕ) (es : List Emit) (from to : ℕ) → n + before ≡ first → ((k : ℕ) → k < first → is_in u v k ≡ false) → ((k : ℕ) → first ≤ k → k < first + size → is_in u v k ≡ true) → ((k : ℕ) → first + size ≤ k → is_in u v k ≡ false)
        → ((k : ℕ) → ArmDoes g (slice_get es k) (acts (n + k))) → Stands c (arms_code program t.scope n es) from to → Goes (through stored.doings first size tt (λ k _. acts k)) from to
    arms_do zero size first n es from to is below inside outside does l =
        more_do size first n es from to (omega (arith, is)) (λ k le lt. inside k (omega (arith, le, is)) (omega (arith, lt, is))) (λ k le. outside k (omega (arith, le, is)))
        (λ k. subst (λ a. ArmDoes g (slice_get es k) (acts a)) (let z : n + k ≡ first + k = omega (arith, is) in z) (does k)) l
    arms_do (suc before) size first n [] from to is below inside outside does l =
        more_do size first first [] from to refl inside outside (λ k. subst (λ a. ArmDoes g None (acts a)) (let z : n + (suc before + k) ≡ first + k = omega (arith, is) in z) (does (suc before + k))) l
    arms_do (suc before) size first n (e ∷ es) from to is below inside outside does l =
        let (m, l1, l2) = stands_seq c from to (in_share program t.scope n ⨟ when_ t.scope 0 e) (arms_code program t.scope (n + 1) es) l in
        let (mid, l3, l4) = stands_seq c from m (in_share program t.scope n) (when_ t.scope 0 e) l1 in
        let (at, l5) = stands_when c mid m t 0 e l4 in
        does_by limit c f thread_ends (λ w d fit. share_goes u v n from mid m d false (below n (omega (arith, is))) ku kv fit l3 at)
        (arms_do before size first (n + 1) es m to (omega (arith, is)) below inside outside
        (λ k. subst (λ a. ArmDoes g (slice_get es k) (acts a)) (let z : n + suc k ≡ n + 1 + k = omega arith in z) (does (suc k))) l2)

-- the numbers of a share
and_true : (a b : Bool) → (a ≡ false → ⊥) → (b ≡ false → ⊥) → (a && b) ≡ true
and_true true true p q = refl
and_true true false p q = absurd (q refl)
and_true false b p q = absurd (p refl)

and_false : (a b : Bool) → (a ≡ true → b ≡ true → ⊥) → (a && b) ≡ false
and_false true true p = absurd (p refl refl)
and_false true false p = refl
and_false false b p = refl

share_below : (first size k : ℕ) → k < first → (int_le (pos k) (last_of (pos 0 +ℤ pos first) size) && int_le (first_of (pos 0 +ℤ pos first) size) (pos k)) ≡ false
share_below first zero k lt = and_false (int_le (pos k) (pos 0)) (int_le (pos 1) (pos k)) (λ a b. omega (arith, ints, a, b))
share_below first (suc m) k lt = and_false (int_le (pos k) (pos 0 +ℤ pos first +ℤ pos m)) (int_le (pos 0 +ℤ pos first) (pos k)) (λ a b. omega (arith, ints, b, lt))

share_inside : (first size k : ℕ) → first ≤ k → k < first + size → (int_le (pos k) (last_of (pos 0 +ℤ pos first) size) && int_le (first_of (pos 0 +ℤ pos first) size) (pos k)) ≡ true
share_inside first zero k le lt = absurd (omega (arith, le, lt))
share_inside first (suc m) k le lt = and_true (int_le (pos k) (pos 0 +ℤ pos first +ℤ pos m)) (int_le (pos 0 +ℤ pos first) (pos k)) (λ a. omega (arith, ints, a, lt)) (λ b. omega (arith, ints, b, le))

share_above : (first size k : ℕ) → first + size ≤ k → (int_le (pos k) (last_of (pos 0 +ℤ pos first) size) && int_le (first_of (pos 0 +ℤ pos first) size) (pos k)) ≡ false
share_above first zero k le = and_false (int_le (pos k) (pos 0)) (int_le (pos 1) (pos k)) (λ a b. omega (arith, ints, a, b))
share_above first (suc m) k le = and_false (int_le (pos k) (pos 0 +ℤ pos first +ℤ pos m)) (int_le (pos 0 +ℤ pos first) (pos k)) (λ a b. omega (arith, ints, a, le))

-- a thread of a block
pub block_thread : (limit : ℕ) (cuts : ℕ → ℕ → List ℕ) (program : Program) (c : Code) (f : Fixed) (calls : ℕ → ℕ → Stored (Unit {0}) → List Passed → Stored Returned) (globals : ℕ → Entity → Option Named) (mains : Entity → Bool) (epar : Sight → Expr → Type 0) (calls_all : (f' : Fixed) → Alike f' f → InnerDo limit cuts program globals mains epar c f' calls) (g : Ghost) (s : Sight) (env : Env) (kn : Knows limit cuts g f s env)
    (site : ℕ) (cs : CodeSite) (four : 4 ≤ cs.frame) (last cl ch : ℤ) (j : Share) (may : Leave → Type 0) (es : List Emit) (acts : ℕ → Stored (Unit {0})) (to : ℕ)
    → (let t = taking 2 (taking 2 (thread_sight site cs.frame s)) in Stands c (arms_code program t.scope 0 es ⨟ one t.scope 0 i.End) cs.entry to)
    → (let t = taking 2 (taking 2 (thread_sight site cs.frame s)) in (gi : Ghost) (k : ℕ) → Knows limit cuts gi (threaded f g.top) t env → ArmDoes limit cuts program c (threaded f g.top) calls globals mains epar calls_all t refl gi (slice_get es k) (acts k))
    → ((st : stored.State) (l : Leave) → ((through stored.doings j.first j.size tt (λ k (_ : Unit {0}). acts k)).does st).end ≡ Err (stored.Left l) → may l)
    → ThreadDoes limit c may g f cs (Deeds.asked site (pos 0) last cl ch (pos 0)) (λ (z : Unit {0}). None) j (through stored.doings j.first j.size tt (λ k _. acts k))
block_thread limit cuts program c f calls globals mains epar calls_all g s env kn site cs four last cl ch j may es acts to l arms ml =
    let t : Sight = taking 2 (taking 2 (thread_sight site cs.frame s)) in
    let q : Asked = Deeds.asked site (pos 0) last cl ch (pos 0) in
    let u : ℤ = first_of (pos 0 +ℤ pos j.first) j.size in
    let v : ℤ = last_of (pos 0 +ℤ pos j.first) j.size in
    let gt : Ghost = turns_ghost limit cuts program c f calls globals mains epar calls_all g s env kn site cs four q j in
    let gb : Ghost = base_ghost limit cuts program c f calls globals mains epar calls_all g s env kn site cs four q j in
    let (mid, l1, (at, z)) = stands_seq c cs.entry to (arms_code program t.scope 0 es) (one t.scope 0 i.End) l in
    record {
      ghost = gt;
      after = gb;
      ordered = refl;
      may_leave = ml;
      enters = enters_so limit cuts program c f calls globals mains epar calls_all g s env kn site cs four q j;
      leaves = leaves_so limit cuts program c f calls globals mains epar calls_all g s env kn site cs four q j;
      allows = allows_so limit cuts program c f calls globals mains epar calls_all g s env kn site cs four q j;
      does = does_weak limit c (threaded f g.top) thread_ends (λ st d w. free_again limit cuts program c f calls globals mains epar calls_all g s env kn site cs four q j st d u v w)
          (does_to limit c (threaded f g.top) thread_ends (done_so {A = Unit {0}} (λ a. None)) (λ a d y. comes_as limit c (threaded f g.top) [] d at refl)
          (arms_do limit cuts program c (threaded f g.top) calls globals mains epar calls_all t refl gt u v
          (first_at limit cuts c (threaded f g.top) thread_ends 2 u v gb) (last_at limit cuts c (threaded f g.top) thread_ends 2 u v gb) acts j.first j.size j.first 0 es cs.entry mid (omega arith)
          (λ k lt. share_below j.first j.size k lt) (λ k le lt. share_inside j.first j.size k le lt) (λ k le. share_above j.first j.size k le)
          (λ k. subst (λ a. ArmDoes limit cuts program c (threaded f g.top) calls globals mains epar calls_all t refl gt (slice_get es k) (acts a)) (let y : k ≡ 0 + k = omega arith in y)
          (arms gt k (knows_turns limit cuts program c f calls globals mains epar calls_all g s env kn site cs four q j))) l1));
    }
