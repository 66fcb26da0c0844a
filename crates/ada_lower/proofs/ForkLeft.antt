-- What the code behind a fork does: the body goes on, or is left as its threads left the construct.
use Rattle.std.proofs.Common.{◌≡◌, ℕ, suc, ◌+◌, ◌<◌, ℤ, pos, int_le, List, [], ◌∷◌, nat_eq, Option, Some, None, Err, Bool, true, false, cond, ◌&&◌, refl, sym, ap, ◌∙◌, subst, le_refl, arith, ◌⊎◌, ⊎_elim, eqb-true, true≢false}
use Rattle.std.proofs.lemmas.Bool.{eqb-false}
use Rattle.std.proofs.lemmas.Int.{ints}
use Rattle.ada_base.specs.declared.reason.Reason.{Reason}
use Rattle.behaviours.specs.Paths.{Leave, Exits, Returns, Raises}
use Rattle.typed_tree.specs.Syntax.{Expr, Program}
use Rattle.ada_meaning.specs.Stored as stored
use Rattle.ada_meaning.specs.Stored.{Stored}
use Rattle.ada_meaning.specs.Meaning
use Rattle.ada_meaning.specs.Meaning.{Env, Passed, Returned}
use Rattle.stack_code.specs.declared.code.Code.{Code}
use Rattle.stack_code.specs.declared.instr.Instr.TheVariants as i
use Rattle.stack_code.specs.Deeds
use Rattle.stack_code.specs.Deeds.{GoesOn, is_related}
use Rattle.stack_code.specs.declared.operators.Relation.TheVariants.{Equal}
use Rattle.stack_code.specs.Machine.{left_as}
use Rattle.behaviours.specs.Paths.{Entity}
use Rattle.ada_lower.specs.Driven.{Dyn, Fixed, on, At, Alike}
use Rattle.ada_lower.specs.Sights.{Emit, Named, Sight, Stands, choose, none, one, when_, ◌⨟◌}
use Rattle.ada_lower.specs.Emission
use Rattle.ada_lower.specs.Emission.{is_own, returning, returning_value, exiting}
use Rattle.ada_lower.specs.Fits.{What, Keeps, Ghost, Fit, Ends, Does, Knows}
use Rattle.ada_lower.proofs.Forks.{machine_leave}
use Rattle.ada_lower.specs.Emission.{left_code, exits_code}
use Rattle.ada_lower.proofs.Inner.{InnerDo}
use Rattle.ada_lower.proofs.Framework.{any, To, Doing, comes_on, comes_goes, does_ret, does_before}
use Rattle.ada_lower.proofs.Memory.{set_what, own_free, knows_keep}
use Rattle.ada_lower.proofs.Standing.{stands_seq, stands_when}
use Rattle.ada_lower.proofs.Parts.{Runs, does_is, does_weak, does_keep}
use Rattle.ada_lower.proofs.Names.{does_by}
use Rattle.ada_lower.proofs.Expressions.{at_entry}
use Rattle.ada_lower.proofs.Loops.{counts_at, first_at, last_at}
use Rattle.ada_lower.proofs.Statements.{Suits}
use Rattle.ada_lower.proofs.Courses.{fit_uncount, comes_kept}

abbrev pub In : ℕ → List ℕ → Type 0
In n ns = Rattle.ada_lower.specs.Sights.Amid n ns

-- whether a loop is the construct itself
abbrev pub IsOwn : Option ℕ → ℕ → Type 0
IsOwn None n = ⊥
IsOwn (Some number) n = n ≡ number

not_own : (number : Option ℕ) (n : ℕ) → is_own number n ≡ false → IsOwn number n → ⊥
not_own None n e h = h
not_own (Some number) n e h = eqb-false number n e (sym h)

-- whether a construct goes on behind what it was left by: a parallel loop does behind an exit of its own
abbrev pub takes_exit : Option ℕ → Leave → Bool
takes_exit None = λ w. false
takes_exit (Some number) = Meaning.exits number

pub takes_own : (number : Option ℕ) (n : ℕ) → is_own number n ≡ takes_exit number (Exits n)
takes_own None n = refl
takes_own (Some number) n = refl

pub takes_return : (number : Option ℕ) (v : Option ℤ) → takes_exit number (Returns v) ≡ true → ⊥
takes_return None v e = true≢false (sym e)
takes_return (Some number) v e = true≢false (sym e)

pub takes_raise : (number : Option ℕ) (r : Reason) → takes_exit number (Raises r) ≡ true → ⊥
takes_raise None r e = true≢false (sym e)
takes_raise (Some number) r e = true≢false (sym e)

-- by what a construct may be left: raises, returns, and exits of its own loop or of those
abbrev pub MayLeave : (number : Option ℕ) → List ℕ → Leave → Type 0
MayLeave number loops (Exits n) = IsOwn number n ⊎ In n loops
MayLeave number loops (Returns v) = Unit {0}
MayLeave number loops (Raises r) = Unit {0}

pub equal_numbers : (a b : ℕ) → is_related Equal (pos a) (pos b) ≡ nat_eq a b
equal_numbers a b = go (int_le (pos a) (pos b)) (int_le (pos b) (pos a)) (nat_eq a b) refl refl refl
  where
    go : (t u v : Bool) → int_le (pos a) (pos b) ≡ t → int_le (pos b) (pos a) ≡ u → nat_eq a b ≡ v → (t && u) ≡ v
    go true true true e e' e'' = refl
    go true true false e e' e'' = absurd (eqb-false a b e'' (omega (arith, ints, e, e')))
    go true false true e e' e'' = absurd (let z : a ≡ b = eqb-true a b e'' in omega (arith, ints, z, e'))
    go true false false e e' e'' = refl
    go false u true e e' e'' = absurd (let z : a ≡ b = eqb-true a b e'' in omega (arith, ints, z, e))
    go false u false e e' e'' = refl

pub truth_of_bit : (b : Bool) → Deeds.truth (Deeds.bit b) ≡ b
truth_of_bit true = refl
truth_of_bit false = refl

module _ (limit : ℕ) (cuts : ℕ → ℕ → List ℕ) (program : Program) (c : Code) (f : Fixed) (calls : ℕ → ℕ → Stored (Unit {0}) → List Passed → Stored Returned) (globals : ℕ → Entity → Option Named) (mains : Entity → Bool) (epar : Sight → Expr → Type 0) (calls_all : (f' : Fixed) → Alike f' f → InnerDo limit cuts program globals mains epar c f' calls)
    (x : Ends) (g : Ghost) (env : Env) (s : Sight) (kn : Knows limit cuts g f s env) (su : Suits limit c f x s) (room : s.scope.free + 1 < s.cells)
    (all loops : List ℕ) (within : (n : ℕ) → In n loops → In n all) (exits_to : (n from to : ℕ) → In n loops → Stands c (exiting s.scope n (s.scope.exits n)) from to → (d : Dyn) → To limit c (on f from [] d) (x.exits n d)) where
  -- the two numbers are kept
  abbrev two : ℤ → ℤ → Ghost
  two second first = counts_at limit cuts c f x s.scope.free second first g

  abbrev Then : ℤ → ℤ → Stored (Unit {0}) → ℕ → ℕ → Type 0
  Then second first m from to = Doing limit c f x (two second first) g any m (λ d. on f from [] d) (λ _ d. on f to [] d)

  back : (second first : ℤ) (st : stored.State) (d : Dyn) → Fit (two second first) st d → Fit g st d
  back second first st d w = fit_uncount limit cuts c f s second first room kn st d w

  abbrev test : ℕ → Emit
  test k = Emission.left_by s.scope s.scope.free k

  -- whether the number above is that one
  pick : (n k : ℕ) (first : ℤ) (m : Stored (Unit {0})) (a : Emit) (from mid to goal : ℕ) → Stands c (test k) from mid → Stands c (when_ s.scope 0 a) mid to
      → (nat_eq n k ≡ true → (p q : ℕ) → Stands c a p q → Then (pos n) first m p goal) → (nat_eq n k ≡ false → Then (pos n) first m to goal) → Then (pos n) first m from goal
  pick n k first m a from mid to goal (j1, (j2, (j3, z))) l holds fails =
      let (at, la) = stands_when c mid to s 0 a l in
      does_by limit c f x (λ st d w. comes_on limit c (comes_kept limit cuts c f s.scope.free (pos n) [] d w (first_at limit cuts c f x s.scope.free (pos n) first g) j1)
      (comes_on limit c (comes_goes limit c f (pos n ∷ []) (from + 1 + 1) (pos k ∷ pos n ∷ []) d j2 refl)
      (comes_goes limit c f (pos k ∷ pos n ∷ []) (from + 1 + 1 + 1) (Deeds.bit (is_related Equal (pos n) (pos k)) ∷ []) d j3 refl)))
      (subst (λ q. Doing limit c f x (two (pos n) first) g any m (λ d. on f q (Deeds.bit (is_related Equal (pos n) (pos k)) ∷ []) d) (λ _ d. on f goal [] d)) z
      (go (nat_eq n k) refl at (λ e. holds e (mid + 1) to la) fails))
    where
      go : (t : Bool) → nat_eq n k ≡ t → At c mid (i.JFalse to) s.scope.entry → (nat_eq n k ≡ true → Then (pos n) first m (mid + 1) goal) → (nat_eq n k ≡ false → Then (pos n) first m to goal)
          → Doing limit c f x (two (pos n) first) g any m (λ d. on f mid (Deeds.bit (is_related Equal (pos n) (pos k)) ∷ []) d) (λ _ d. on f goal [] d)
      go true e at holds fails = does_before limit c f x (λ d. comes_goes limit c f (Deeds.bit (is_related Equal (pos n) (pos k)) ∷ []) (mid + 1) [] d at
          (ap (λ b. GoesOn (cond b (mid + 1) to) f.below) (truth_of_bit (is_related Equal (pos n) (pos k)) ∙ equal_numbers n k ∙ e))) (holds e)
      go false e at holds fails = does_before limit c f x (λ d. comes_goes limit c f (Deeds.bit (is_related Equal (pos n) (pos k)) ∷ []) to [] d at
          (ap (λ b. GoesOn (cond b (mid + 1) to) f.below) (truth_of_bit (is_related Equal (pos n) (pos k)) ∙ equal_numbers n k ∙ e))) (fails e)

  leaves_is : (l : Leave) (st : stored.State) → (stored.leaves {A = Unit {0}} l).does st ≡ stored.at st (Err (stored.Left l))
  unfolding stored.leaves
  leaves_is l st = refl

  left_so : (second first : ℤ) (l : Leave) (from goal : ℕ) → ((d : Dyn) → To limit c (on f from [] d) (Rattle.ada_lower.specs.Fits.left_by f x l d)) → Then second first (stored.leaves l) from goal
  left_so second first l from goal k = does_weak limit c f x (λ st d w. back second first st d w) (does_is limit c f x {to = λ _ d. on f goal [] d} (Err (stored.Left l)) (λ st. leaves_is l st) k)

  abbrev exits : Option ℕ → List ℕ → Emit
  exits number ks = exits_code s.scope s.scope.free number ks

  abbrev one_exit : Bool → ℕ → Emit
  one_exit own k = cond own none (test (k + 3) ⨟ when_ s.scope 0 (exiting s.scope k (s.scope.exits k)))

  -- the exits of loops around
  exits_left : (number : Option ℕ) (n : ℕ) (ks : List ℕ) (from to goal : ℕ) → is_own number n ≡ false → In n loops → In n ks → Stands c (exits number ks) from to → Then (pos (3 + n)) (pos 0) (stored.leaves (Exits n)) from goal
  exits_left number n [] from to goal ne among here l = absurd here
  exits_left number n (k ∷ ks) from to goal ne among here l =
      let (m, l1, l2) = stands_seq c from to (Emission.exit_code s.scope s.scope.free number k) (exits number ks) l in
      go (exits_left number n ks) (is_own number k) refl m l1 l2
    where
      apart : (n ≡ k → ⊥) → In n ks
      apart h = ⊎_elim (λ e. absurd (h e)) (λ z. z) here

      go : ((from to goal : ℕ) → is_own number n ≡ false → In n loops → In n ks → Stands c (exits number ks) from to → Then (pos (3 + n)) (pos 0) (stored.leaves (Exits n)) from goal)
          → (b : Bool) → is_own number k ≡ b → (m : ℕ) → Stands c (one_exit b k) from m → Stands c (exits number ks) m to
          → Then (pos (3 + n)) (pos 0) (stored.leaves (Exits n)) from goal
      go more true e m l1 l2 = more from to goal ne among (apart (λ h. true≢false (sym e ∙ (ap (λ m. is_own number m) (sym h) ∙ ne)))) (subst (λ p. Stands c (exits number ks) p to) l1 l2)
      go more false e m l1 l2 =
          let (mid, la, lb) = stands_seq c from m (test (k + 3)) (when_ s.scope 0 (exiting s.scope k (s.scope.exits k))) l1 in
          pick (3 + n) (k + 3) (pos 0) (stored.leaves (Exits n)) (exiting s.scope k (s.scope.exits k)) from mid m goal la lb
          (λ same p q l. let h : n ≡ k = (let z : 3 + n ≡ k + 3 = eqb-true (3 + n) (k + 3) same in omega (arith, z)) in
          left_so (pos (3 + n)) (pos 0) (Exits n) p goal (λ d. exits_to n p q among (subst (λ m. Stands c (exiting s.scope m (s.scope.exits m)) p q) (sym h) l) d))
          (λ other. more m to goal ne among (apart (λ h. eqb-false (3 + n) (k + 3) other (omega (arith, h)))) l2)

  -- that of its own loop goes on
  exits_own : (number : Option ℕ) (n : ℕ) → is_own number n ≡ true → (ks : List ℕ) (from to : ℕ) → Stands c (exits number ks) from to → Then (pos (3 + n)) (pos 0) (stored.ret tt) from to
  exits_own number n is [] from to l = subst (λ z. Then (pos (3 + n)) (pos 0) (stored.ret tt) from z) (sym l) (does_weak limit c f x (λ st d w. back (pos (3 + n)) (pos 0) st d w) (does_ret limit c f x {to = λ _ d. on f from [] d} tt tt))
  exits_own number n is (k ∷ ks) from to l =
      let (m, l1, l2) = stands_seq c from to (Emission.exit_code s.scope s.scope.free number k) (exits number ks) l in
      go (exits_own number n is ks) (is_own number k) refl m l1 l2
    where
      go : ((from to : ℕ) → Stands c (exits number ks) from to → Then (pos (3 + n)) (pos 0) (stored.ret tt) from to)
          → (b : Bool) → is_own number k ≡ b → (m : ℕ) → Stands c (one_exit b k) from m → Stands c (exits number ks) m to
          → Then (pos (3 + n)) (pos 0) (stored.ret tt) from to
      go more true e m l1 l2 = more from to (subst (λ p. Stands c (exits number ks) p to) l1 l2)
      go more false e m l1 l2 =
          let (mid, la, lb) = stands_seq c from m (test (k + 3)) (when_ s.scope 0 (exiting s.scope k (s.scope.exits k))) l1 in
          pick (3 + n) (k + 3) (pos 0) (stored.ret tt) (exiting s.scope k (s.scope.exits k)) from mid m to la lb
          (λ same p q l. let h : n ≡ k = (let z : 3 + n ≡ k + 3 = eqb-true (3 + n) (k + 3) same in omega (arith, z)) in
          absurd (true≢false (sym is ∙ (ap (λ m. is_own number m) h ∙ e))))
          (λ other. more m to l2)

  -- ---- the whole

  both_kept : (second first : ℤ) (m : Stored (Unit {0})) (from goal : ℕ) → At c from (i.StoreL s.scope.free) x.entry → At c (from + 1) (i.StoreL (s.scope.free + 1)) x.entry → Then second first m (from + 1 + 1) goal
      → Runs limit c f x g any m (λ d. on f from (second ∷ first ∷ []) d) (λ _ d. on f goal [] d)
  both_kept second first m from goal j1 j2 k =
      let room1 : s.scope.free < s.cells = omega (arith, room) in
      does_keep limit c f x from s.scope.free second (first ∷ []) (own_free (g.what (f.base + s.scope.free)) (kn.free s.scope.free (le_refl s.scope.free) room1)) j1
      (does_keep limit c f x (from + 1) (s.scope.free + 1) first [] (own_free ((set_what (f.base + s.scope.free) (Keeps second) g).what (f.base + (s.scope.free + 1))) ((knows_keep second room1 kn).free (s.scope.free + 1) (le_refl (s.scope.free + 1)) room)) j2 k)

  abbrev returns_code : Emit
  returns_code = returning s.scope 0 s.scope.leaving

  abbrev gives_code : Emit
  gives_code = one s.scope 0 (i.LoadL (s.scope.free + 1)) ⨟ returning_value s.scope s.scope.leaving

  abbrev dispatch : Option ℕ → Emit
  dispatch number = Emission.left_returns s.scope ⨟ exits number all

  -- the parts of what is behind the test
  record Ways (number : Option ℕ) (from to : ℕ) : Type 0 where
    pub ret : ℕ
    pub val : ℕ
    pub more : ℕ
    pub last : ℕ
    pub is_ret : Stands c (test 1) from ret
    pub rets : Stands c (when_ s.scope 0 returns_code) ret val
    pub is_val : Stands c (test 2) val more
    pub gives : Stands c (when_ s.scope 0 gives_code) more last
    pub leads : Stands c (exits number all) last to

  ways : (number : Option ℕ) (from to : ℕ) → Stands c (dispatch number) from to → Ways number from to
  ways number from to l =
      let (e1, lr, le) = stands_seq c from to (Emission.left_returns s.scope) (exits number all) l in
      let (a, la, r1) = stands_seq c from e1 (test 1) (when_ s.scope 0 returns_code ⨟ test 2 ⨟ when_ s.scope 0 gives_code) lr in
      let (b, lb, r2) = stands_seq c a e1 (when_ s.scope 0 returns_code) (test 2 ⨟ when_ s.scope 0 gives_code) r1 in
      let (d, ld, lg) = stands_seq c b e1 (test 2) (when_ s.scope 0 gives_code) r2 in
      record { ret = a; val = b; more = d; last = e1; is_ret = la; rets = lb; is_val = ld; gives = lg; leads = le }

  module _ (number : Option ℕ) (from to : ℕ) (l : Stands c (left_code s.scope number all) from to) where
    tested : (second first : ℤ) (b : Bool) → Deeds.truth second ≡ b → (m : Stored (Unit {0})) → ((p : ℕ) → Stands c (dispatch number) p to → Then second first m (cond b p to) to) → Runs limit c f x g any m (λ d. on f from (second ∷ first ∷ []) d) (λ _ d. on f to [] d)
    tested second first b e m k =
        let (j1, (j2, (j3, r))) = l in
        let (at, r2) = stands_when c (from + 1 + 1 + 1) to s 0 (dispatch number) r in
        both_kept second first m from to (at_entry su.entry j1) (at_entry su.entry j2)
        (does_by limit c f x (λ st d w. comes_on limit c (comes_kept limit cuts c f s.scope.free second [] d w (first_at limit cuts c f x s.scope.free second first g) j3)
        (comes_goes limit c f (second ∷ []) (cond b (from + 1 + 1 + 1 + 1) to) [] d at (ap (λ t. GoesOn (cond t (from + 1 + 1 + 1 + 1) to) f.below) e)))
        (k (from + 1 + 1 + 1 + 1) r2))

    pub left_ended : Runs limit c f x g any (stored.ret (tt {0})) (λ d. on f from (pos 0 ∷ pos 0 ∷ []) d) (λ _ d. on f to [] d)
    left_ended = tested (pos 0) (pos 0) false refl (stored.ret (tt {0})) (λ p l. does_weak limit c f x (λ st d w. back (pos 0) (pos 0) st d w) (does_ret limit c f x {to = λ _ d. on f to [] d} tt tt))

    exits_at : (n p : ℕ) (m : Stored (Unit {0})) → Stands c (dispatch number) p to → ((q : ℕ) → Stands c (exits number all) q to → Then (pos (3 + n)) (pos 0) m q to) → Then (pos (3 + n)) (pos 0) m p to
    exits_at n p m l k =
        let w = ways number p to l in
        pick (3 + n) 1 (pos 0) m returns_code p w.ret w.val to w.is_ret w.rets (λ same p q l. absurd (let z : 3 + n ≡ 1 = eqb-true (3 + n) 1 same in omega (arith, z)))
        (λ other. pick (3 + n) 2 (pos 0) m gives_code w.val w.more w.last to w.is_val w.gives (λ same p q l. absurd (let z : 3 + n ≡ 2 = eqb-true (3 + n) 2 same in omega (arith, z)))
        (λ other. k w.last w.leads))

    pub left_own : (n : ℕ) → is_own number n ≡ true → Runs limit c f x g any (stored.ret (tt {0})) (λ d. on f from (pos (3 + n) ∷ pos 0 ∷ []) d) (λ _ d. on f to [] d)
    left_own n is = tested (pos (3 + n)) (pos 0) true (truth_more n) (stored.ret (tt {0})) (λ p l. exits_at n p (stored.ret (tt {0})) l (λ q l. exits_own number n is all q to l))
      where
        truth_more : (n : ℕ) → Deeds.truth (pos (3 + n)) ≡ true
        truth_more n = ap (λ m. Deeds.truth (pos m)) (let z : 3 + n ≡ suc (2 + n) = omega arith in z)

    pub left_away : (w : Leave) → takes_exit number w ≡ false → MayLeave number loops w → ((r : Reason) → w ≡ Raises r → ⊥)
        → Runs limit c f x g any (stored.leaves {A = Unit {0}} w) (λ d. on f from (left_as (machine_leave w) []) d) (λ _ d. on f to [] d)
    left_away (Exits n) ne may nr =
        tested (pos (3 + n)) (pos 0) true (ap (λ m. Deeds.truth (pos m)) (let z : 3 + n ≡ suc (2 + n) = omega arith in z)) (stored.leaves (Exits n))
        (λ p l. exits_at n p (stored.leaves (Exits n)) l (λ q l. let other : is_own number n ≡ false = takes_own number n ∙ ne in let here : In n loops = ⊎_elim (λ h. absurd (not_own number n other h)) (λ h. h) may in exits_left number n all q to to other here (within n here) l))
    left_away (Returns None) ne may nr =
        tested (pos 1) (pos 0) true refl (stored.leaves (Returns None))
        (λ p l. let w = ways number p to l in pick 1 1 (pos 0) (stored.leaves (Returns None)) returns_code p w.ret w.val to w.is_ret w.rets
        (λ same p q l. left_so (pos 1) (pos 0) (Returns None) p to (λ d. su.returns s p q l d))
        (λ other. absurd (eqb-false 1 1 other refl)))
    left_away (Returns (Some v)) ne may nr =
        tested (pos 2) v true refl (stored.leaves (Returns (Some v)))
        (λ p l. let w = ways number p to l in pick 2 1 v (stored.leaves (Returns (Some v))) returns_code p w.ret w.val to w.is_ret w.rets
        (λ same p q l. absurd (let z : 2 ≡ 1 = eqb-true 2 1 same in omega (arith, z)))
        (λ other. pick 2 2 v (stored.leaves (Returns (Some v))) gives_code w.val w.more w.last to w.is_val w.gives
        (λ same p q l. does_by limit c f x (λ st d w. comes_kept limit cuts c f (s.scope.free + 1) v [] d w (last_at limit cuts c f x s.scope.free (pos 2) v g) l.0)
        (does_weak limit c f x (λ st d w. back (pos 2) v st d w) (does_is limit c f x {to = λ _ d. on f to [] d} (Err (stored.Left (Returns (Some v)))) (λ st. leaves_is (Returns (Some v)) st) (λ d. su.gives s (p + 1) q v l.1 d))))
        (λ other. absurd (eqb-false 2 2 other refl))))
    left_away (Raises r) ne may nr = absurd (nr r refl)
