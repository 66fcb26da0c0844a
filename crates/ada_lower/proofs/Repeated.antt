-- Values that are computed anew for each of several components: parts that are repeated.
use Rattle.std.proofs.Common.{◌≡◌, ℕ, zero, suc, ◌+◌, ◌-◌, ◌*◌, ◌^◌, ◌<◌, ◌≤◌, ◌⊎◌, ℤ, pos, ◌+ℤ◌, ◌-ℤ◌, ◌*ℤ◌, int_le, int_lt, List, [], ◌∷◌, ◌++◌, length, set, slice_get, nat_eq, ◌&&◌, Option, Some, None, Bool, true, false, cond, refl, sym, ap, ◌∙◌, subst, le_refl, arith, inl, inr, ⊎_elim, suc-mul, zero-mul}
use Rattle.std.proofs.lemmas.Bool.{ne_eqb}
use Rattle.std.proofs.lemmas.Int.{ints}
use Rattle.behaviours.specs.Paths.{Entity}
use Rattle.typed_tree.specs.declared.expressions.Run.{Run}
use Rattle.typed_tree.specs.Syntax.{Expr, Program, Value}
use Rattle.ada_meaning.specs.Values
use Rattle.ada_meaning.specs.Values.{between}
use Rattle.ada_meaning.specs.Operations.{Operations}
use Rattle.ada_meaning.specs.Stored as stored
use Rattle.ada_meaning.specs.Stored.{Stored}
use Rattle.ada_meaning.specs.Meaning
use Rattle.ada_meaning.specs.Meaning.{Env, Passed, Returned}
use Rattle.stack_code.specs.declared.code.Code.{Code}
use Rattle.stack_code.specs.Valid.{IsCountable}
use Rattle.stack_code.specs.declared.path.Round.{Round}
use Rattle.stack_code.specs.declared.instr.Instr.{Instr}
use Rattle.stack_code.specs.declared.instr.Instr.TheVariants as i
use Rattle.ada_base.specs.declared.operation.Base.TheVariants.{Wide}
use Rattle.ada_base.specs.declared.operation.Op.TheVariants as op
use Rattle.ada_base.specs.Operation.{least_of, greatest_of}
use Rattle.std.proofs.lemmas.Option.{none-some}
use Rattle.ada_meaning.proofs.Cells.{some_same}
use Rattle.ada_lower.proofs.Names.{comes_component}
use Rattle.stack_code.specs.Deeds.{GoesOn, applied, bit, pushed}
use Rattle.stack_code.specs.Machine.{Goes, acted}
use Rattle.ada_base.specs.Cells.{Mine}
use Rattle.ada_lower.specs.Driven.{Dyn, Fixed, Step, at, on, state_of, driven, At}
use Rattle.ada_lower.specs.Sights.{Emit, Named, Sight, Stands, none, one, taking, ◌⨟◌}
use Rattle.lower_emission.specs.Scope.{keep}
use Rattle.lower_emission.specs.Emits.{From}
use Rattle.ada_lower.specs.Emission
use Rattle.ada_lower.specs.Fits.{Free, Keeps, Right, Ghost, Fit, Ends, Knows, Stands as StandsFor}
use Rattle.ada_lower.specs.Fitted.{FittedRuns, FittedComponent}
use Rattle.ada_lower.proofs.Framework.{To, Doing, led, itself, comes_on, comes_as, comes_back, comes_goes, does_assoc, does_before, does_returned}
use Rattle.ada_lower.proofs.Memory.{set_what, what_same, what_other, at_or_not, at_same, fit_set, fit_unset, fit_alike, IsOwn, own_free, own_keeps, knows_keep}
use Rattle.ada_lower.proofs.Standing.{stands_seq, stands_choose}
use Rattle.ada_lower.proofs.Parts.{Fewer, fewer_keeps, does_first, does_keep}
use Rattle.ada_lower.proofs.Declared.{keeping, laid_out, kept_what}
use Rattle.ada_lower.proofs.Courses.{at_entry, comes_kept}
use Rattle.ada_lower.proofs.Items.{comes_stores}
use Rattle.ada_lower.proofs.Operands.{laid_length, knows_alike}
use Rattle.ada_lower.proofs.Rounds.{with_rounds, knows_rounds, does_rounds}
use Rattle.ada_lower.proofs.Turnings.{keep_swap}
use Rattle.ada_lower.proofs.Aggregates as aggregates
use Rattle.ada_lower.proofs.Aggregates.{component_does, room_in, within_more}

-- a component of runs has a number, where the first of all has that one; and where it begins
abbrev pub Located : List Run → (number k place : ℕ) → Type 0
Located [] number k place = ⊥
Located (r ∷ rs) number k place = ((o : ℕ) × (o < r.count) × (k ≡ number + o) × (place ≡ r.first + o * r.stride)) ⊎ Located rs (number + r.count) k place

located_after : (rs : List Run) (number k place : ℕ) → Located rs number k place → number ≤ k
located_after [] number k place l = absurd l
located_after (r ∷ rs) number k place (inl (o, lt, is, z)) = omega (arith, is)
located_after (r ∷ rs) number k place (inr l) = let z = located_after rs (number + r.count) k place l in omega (arith, z)

less_is : (k m : ℕ) (b : Bool) → int_lt (pos k) (pos m) ≡ b → k < m → b ≡ true
less_is k m true e lt = refl
less_is k m false e lt = absurd (omega (arith, ints, e, lt))

less_not : (k m : ℕ) (b : Bool) → int_lt (pos k) (pos m) ≡ b → m ≤ k → b ≡ false
less_not k m true e le = absurd (omega (arith, ints, e, le))
less_not k m false e le = refl

between_is : (n o count k : ℕ) → o < count → k ≡ n + o → between (pos n) (pos k) (pos (n + count) -ℤ pos 1) ≡ true
between_is n o count k lt is = go (int_le (pos n) (pos k)) (int_le (pos k) (pos (n + count) -ℤ pos 1)) refl refl
  where
    go : (a b : Bool) → int_le (pos n) (pos k) ≡ a → int_le (pos k) (pos (n + count) -ℤ pos 1) ≡ b → (a && b) ≡ true
    go true true e e' = refl
    go true false e e' = absurd (omega (arith, ints, e', lt, is))
    go false b e e' = absurd (omega (arith, ints, e, is))

-- ---- the number of a round

countable_of : (j : Instr) (is : List Instr) → IsCountable (j ∷ is) → IsCountable is
countable_of (i.Repeat n) is h = h.1
countable_of j is h = h

countable_at : (is : List Instr) (q n : ℕ) → IsCountable is → slice_get is q ≡ Some (i.Repeat n) → n < 2 ^ 63
countable_at [] q n h e = absurd (none-some _ e)
countable_at (j ∷ is) zero n h e = (subst (λ j. IsCountable (j ∷ is)) (some_same j (i.Repeat n) e) h).0
countable_at (j ∷ is) (suc q) n h e = countable_at is q n (countable_of j is h) e

-- the next one is in 64 bits
next_number : (k : ℕ) → k + 1 < 2 ^ 63 → applied op.Add Wide (pos k) (pos 1) ≡ Some (pos (k + 1))
next_number k few = go (int_le (least_of Wide) (pos (k + 1))) (int_le (pos (k + 1)) (greatest_of Wide)) refl refl
  where
    go : (a b : Bool) → int_le (least_of Wide) (pos (k + 1)) ≡ a → int_le (pos (k + 1)) (greatest_of Wide) ≡ b → Rattle.std.specs.Prelude.if◌then◌else◌ (a && b) (Some (pos (k + 1))) None ≡ Some (pos (k + 1))
    go true true e e' = refl
    go true false e e' = absurd (omega (arith, ints, e', few))
    go false b e e' = absurd (omega (arith, ints, e))

-- ---- the address of a round's component

module _ (limit : ℕ) (cuts : ℕ → ℕ → List ℕ) (c : Code) (f : Fixed) where
  abbrev Locates : Ghost → stored.State → Dyn → Sight → (a place from to : ℕ) → List ℤ → Type 0
  Locates g t d s a place from to st = (d' : Dyn) × Fit (set_what (f.base + (s.scope.free + 1)) (Keeps (pos (f.base + (a + place)))) g) t d' × To limit c (on f from st d) (on f to st d')

  locating_comes : {g : Ghost} {t : stored.State} {d : Dyn} (s : Sight) (h a number k place o from to : ℕ) (r : Run) (st : List ℤ) → o < r.count → k ≡ number + o → place ≡ r.first + o * r.stride → f.base + (a + place) ≤ g.top
      → g.what (f.base + s.scope.free) ≡ Keeps (pos k) → IsOwn (g.what (f.base + (s.scope.free + 1))) → Stands c (Emission.locating s.scope h a number r) from to → Fit g t d → Locates g t d s a place from to st
  locating_comes {g} {t} {d} s h a number k place o from to r st lt is at_ near kept own l fit =
      let whole : Emit = one s.scope h (i.Local (a + r.first)) ⨟ one s.scope (h + 1) (i.LoadL s.scope.free) ⨟ one s.scope (h + 1 + 1) (i.Index (pos number) (pos (number + r.count) -ℤ pos 1) r.stride) ⨟ keep s.scope (h + 1) (s.scope.free + 1) in
      let (j1, (j2, (j3, (j4, z)))) = subst (λ b. Stands c (cond b none whole) from to) (ne_eqb r.count 0 (λ e. omega (arith, e, lt))) l in
      let b : ℕ = f.base + (a + r.first) in
      let p : ℕ = f.base + (s.scope.free + 1) in
      let v : ℤ = pos (b + o * r.stride) in
      let place' : b + o * r.stride ≡ f.base + (a + place) = omega (arith, at_) in
      let away : pos k -ℤ pos number ≡ pos o = omega (arith, ints, is) in
      let moved_to : b + Values.to_nat (pos k -ℤ pos number) * r.stride ≡ b + o * r.stride = ap (λ z. b + Values.to_nat z * r.stride) away in
      let (u, was) = own t (slice_get d.cells p) (fit.cells p) in (
        record d { cells = set d.cells p (Mine v) },
        subst (λ n. Fit (set_what p (Keeps (pos n)) g) t (record d { cells = set d.cells p (Mine v) })) place' (fit_set p v own fit),
        comes_on limit c (comes_goes limit c f st (from + 1) (pos b ∷ st) d j1 refl)
            (comes_on limit c (comes_kept limit cuts c f s.scope.free (pos k) (pos b ∷ st) d fit kept j2)
            (comes_on limit c
            (subst (λ n. To limit c (on f (from + 1 + 1) (pos k ∷ pos b ∷ st) d) (on f (from + 1 + 1 + 1) (pos n ∷ st) d)) moved_to
            (comes_component limit c f (pos number) (pos (number + r.count) -ℤ pos 1) (pos k) r.stride b st d fit (between_is number o r.count k lt is) (omega (arith, near, moved_to, place')) j3))
            (subst (λ q. To limit c (on f (from + 1 + 1 + 1) (v ∷ st) d) (on f q st (record d { cells = set d.cells p (Mine v) }))) (sym z) (comes_stores limit c f p v u (v ∷ st) st d j4 refl was)))),
      )

  pub locating_in_comes : {g : Ghost} {t : stored.State} {d : Dyn} (s : Sight) (h a number k place from to : ℕ) (rs : List Run) (st : List ℤ) → Located rs number k place → f.base + (a + place) ≤ g.top
      → g.what (f.base + s.scope.free) ≡ Keeps (pos k) → IsOwn (g.what (f.base + (s.scope.free + 1))) → Stands c (Emission.locating_in s.scope h a number rs) from to → Fit g t d → Locates g t d s a place from to st
  locating_in_comes s h a number k place from to [] st lie near kept own l fit = absurd lie
  locating_in_comes s h a number k place from to (r ∷ []) st (inl (o, lt, is, z)) near kept own l fit = locating_comes s h a number k place o from to r st lt is z near kept own l fit
  locating_in_comes s h a number k place from to (r ∷ []) st (inr lie) near kept own l fit = absurd lie
  locating_in_comes {g} {t} {d} s h a number k place from to (r ∷ q ∷ rs) st lie near kept own (j1, (j2, (j3, l))) fit =
      let o = stands_choose c (from + 1 + 1 + 1) to s h h (Emission.locating s.scope h a number r) (Emission.locating_in s.scope h a (number + r.count) (q ∷ rs)) l in
      go lie o.test o.jump o.first o.second (λ y from lb. locating_in_comes s h a (number + r.count) k place from to (q ∷ rs) st y near kept own lb fit)
    where
      m : ℕ
      m = number + r.count

      -- the test, by what it comes to
      tested : (b : Bool) → int_lt (pos k) (pos m) ≡ b → To limit c (on f from st d) (on f (from + 1 + 1 + 1) (bit b ∷ st) d)
      tested b e =
          comes_on limit c (comes_kept limit cuts c f s.scope.free (pos k) st d fit kept j1)
          (comes_on limit c (comes_goes limit c f (pos k ∷ st) (from + 1 + 1) (pos m ∷ pos k ∷ st) d j2 refl)
          (comes_goes limit c f (pos m ∷ pos k ∷ st) (from + 1 + 1 + 1) (bit b ∷ st) d j3 (ap (λ b. GoesOn (from + 1 + 1 + 1) (bit b ∷ (st ++ f.below))) e)))

      go : {mid : ℕ} → Located (r ∷ q ∷ rs) number k place → At c (from + 1 + 1 + 1) (i.JFalse (mid + 1)) s.scope.entry → At c mid (i.Jump to) s.scope.entry → Stands c (Emission.locating s.scope h a number r) (from + 1 + 1 + 1 + 1) mid → Stands c (Emission.locating_in s.scope h a m (q ∷ rs)) (mid + 1) to → (Located (q ∷ rs) m k place → (from : ℕ) → Stands c (Emission.locating_in s.scope h a m (q ∷ rs)) from to → Locates g t d s a place from to st) → Locates g t d s a place from to st
      go {mid} (inl (o, lt, is, z)) jf jj la lb later =
          let (d', fit', goes) = locating_comes s h a number k place o (from + 1 + 1 + 1 + 1) mid r st lt is z near kept own la fit in
          (d', fit', comes_on limit c (tested true (less_is k m (int_lt (pos k) (pos m)) refl (omega (arith, lt, is)))) (comes_on limit c (comes_goes limit c f (pos 1 ∷ st) (from + 1 + 1 + 1 + 1) st d jf refl) (comes_on limit c goes (comes_goes limit c f st to st d' jj refl))))
      go {mid} (inr lie) jf jj la lb later =
          let (d', fit', goes) = later lie (mid + 1) lb in
          (d', fit', comes_on limit c (tested false (less_not k m (int_lt (pos k) (pos m)) refl (located_after (q ∷ rs) m k place lie))) (comes_on limit c (comes_goes limit c f (pos 0 ∷ st) (mid + 1) st d jf refl) goes))

-- ---- rounds

module _ (limit : ℕ) (cuts : ℕ → ℕ → List ℕ) (program : Program) (c : Code) (f : Fixed) (x : Ends) (calls : ℕ → ℕ → Stored (Unit {0}) → List Passed → Stored Returned) (globals : ℕ → Entity → Option Named) (mains : Entity → Bool) (epar : Sight → Expr → Type 0) where
  abbrev ops : Operations {1}
  ops = stored.noted_operations limit cuts

  -- where so many rounds follow, each of which begins there
  abbrev part : (head more : ℕ) → Fixed
  part head more = with_rounds (record { more = more; head = head } ∷ f.rounds) f

  round_drives : (head again more : ℕ) (st : List ℤ) (d : Dyn) → led limit c (part head (suc more)) again st d (i.Again head) ≡ on (part head more) head st d
  round_drives head again more st d = ap (λ b. driven limit c (cond b (Goes (state_of (part head more) head st [] None d)) (Goes (state_of f (again + 1) st [] None d))) d.world) (at_same head)

  -- another round begins
  round_comes : {head again : ℕ} {e : Option ℕ} (more : ℕ) (st : List ℤ) (d : Dyn) → At c again (i.Again head) e → To limit c (on (part head (suc more)) again st d) (on (part head more) head st d)
  round_comes {head} {again} more st d a = comes_as limit c (part head (suc more)) st d a (round_drives head again more st d)

  -- the first one does as if it came from there
  first_comes : {head again : ℕ} {e : Option ℕ} (more : ℕ) (st : List ℤ) (d : Dyn) → At c again (i.Again head) e → To limit c (on (part head more) head st d) (on (part head (suc more)) again st d)
  first_comes {head} {again} more st d a =
      comes_back limit c (at (part head (suc more)) again st d) (on (part head more) head st d)
      (ap (λ o. driven limit c (acted limit c o (state_of (part head (suc more)) again st [] None d)) d.world) (itself refl a) ∙ round_drives head again more st d)

  abbrev Room : (g j : Ghost) (s : Sight) (env : Env) (t n : ℕ) → Type 0
  Room g j s env t n = aggregates.Room limit cuts program c f x calls globals mains epar g j s env t n

  -- what is known of a component's value, whatever parts are repeated around it
  abbrev pub Anywhere : Value → Type 1
  Anywhere value = (rs : List Round) → aggregates.ComponentDone limit cuts program c (with_rounds rs f) x calls globals mains epar value

  abbrev val : Value → Env → Stored (List ℤ)
  val value env = stored.bind (stored.ret (tt {0})) (λ _. Meaning.cells ops limit program calls value env)

  module _ {g j : Ghost} {s : Sight} {env : Env} (t n : ℕ) (some : s.scope.free + 1 < s.cells) (r : Room g j s env t n) where
    abbrev N : ℕ
    N = s.scope.free

    -- the number of the round is kept
    abbrev numbered : ℕ → List ℤ → Ghost
    numbered k cs = set_what (f.base + N) (Keeps (pos k)) (keeping (f.base + t) cs g)

    -- and the address of its component
    abbrev placed : ℕ → ℕ → List ℤ → Ghost
    placed k a cs = set_what (f.base + (N + 1)) (Keeps (pos a)) (numbered k cs)

    free_here : (cs : List ℤ) → length cs ≡ n → (keeping (f.base + t) cs g).what (f.base + N) ≡ Free
    free_here cs len = laid_out (f.base + t) 0 kept_what cs g.what (f.base + N) (inr (let z : t + n ≤ N = r.below in omega (arith, z, len))) ∙ r.knows.free N (le_refl N) (omega (arith, some))

    free_next : (k : ℕ) (cs : List ℤ) → length cs ≡ n → (numbered k cs).what (f.base + (N + 1)) ≡ Free
    free_next k cs len =
        what_other (keeping (f.base + t) cs g) (f.base + N) (f.base + (N + 1)) (Keeps (pos k)) (λ e. omega (arith, e))
        ∙ laid_out (f.base + t) 0 kept_what cs g.what (f.base + (N + 1)) (inr (let z : t + n ≤ N = r.below in omega (arith, z, len))) ∙ r.knows.free (N + 1) (omega arith) some

    number_kept : (k : ℕ) (cs : List ℤ) → (numbered k cs).what (f.base + N) ≡ Keeps (pos k)
    number_kept k cs = what_same (keeping (f.base + t) cs g) (f.base + N) (Keeps (pos k))

    numbered_weak : (k : ℕ) (cs : List ℤ) → length cs ≡ n → (y : stored.State) (d : Dyn) → Fit (numbered k cs) y d → Fit j y d
    numbered_weak k cs len y d w = r.less cs len y d (fit_unset (f.base + N) (pos k) (free_here cs len) w)

    placed_weak : (k a : ℕ) (cs : List ℤ) → length cs ≡ n → (y : stored.State) (d : Dyn) → Fit (placed k a cs) y d → Fit j y d
    placed_weak k a cs len y d w = numbered_weak k cs len y d (fit_unset (f.base + (N + 1)) (pos a) (free_next k cs len) w)

    -- the cells of a component among those of the value
    placed_within : (k a first : ℕ) (cur cs : List ℤ) → length cur ≡ n → first + length cs ≤ n → (b : ℕ) → (keeping (f.base + (t + first)) cs (placed k a cur)).what b ≡ (placed k a (Values.laid cur first cs)).what b
    placed_within k a first cur cs len inn b =
        let z : t + n ≤ N = r.below in
        keep_swap (numbered k cur) (f.base + (t + first)) cs (f.base + (N + 1)) (pos a) (omega (arith, z, inn)) b
        ∙ ap (λ w. cond (nat_eq (f.base + (N + 1)) b) (Keeps (pos a)) w) (keep_swap (keeping (f.base + t) cur g) (f.base + (t + first)) cs (f.base + N) (pos k) (omega (arith, z, inn)) b
        ∙ ap (λ w. cond (nat_eq (f.base + N) b) (Keeps (pos k)) w) (within_more limit cuts program c f x calls globals mains epar g t first cur cs (omega (arith, inn, len)) b))

    known : (k a : ℕ) (cs : List ℤ) → length cs ≡ n → Knows limit cuts (placed k a cs) f (taking 2 s) env
    known k a cs len =
        let k1 : Knows limit cuts (numbered k cs) f (taking 1 s) env = knows_keep (pos k) (omega (arith, some)) (r.kept cs len) in
        knows_pair s (knows_keep (pos a) some k1)
      where
        knows_pair : {h : Ghost} (s : Sight) → Knows limit cuts h f (taking 1 (taking 1 s)) env → Knows limit cuts h f (taking 2 s) env
        knows_pair s k = record { most = k.most; nested = k.nested; plan = k.plan; kept = k.kept; top = k.top; beyond = k.beyond; global = k.global; outside = k.outside; one = k.one; old = k.old; hidden = k.hidden; object = k.object; parameter = k.parameter; item = k.item; constant_item = k.constant_item; target = k.target; handled = k.handled; free = λ n le lt. k.free n (omega (arith, le)) lt }

    round_room : (rs : List Round) (k a first m : ℕ) (cur : List ℤ) → length cur ≡ n → first + m ≤ n → aggregates.Room limit cuts program c (with_rounds rs f) x calls globals mains epar (placed k a cur) j (taking 2 s) env (t + first) m
    round_room rs k a first m cur len inn = record {
      below = let z : t + n ≤ N = r.below in omega (arith, z, inn);
      own = λ o lt.
          let z : t + n ≤ N = r.below in
          subst (λ w. IsOwn w)
          (sym (what_other (numbered k cur) (f.base + (N + 1)) (f.base + (t + first) + o) (Keeps (pos a)) (λ e. omega (arith, e, z, inn, lt)) ∙ what_other (keeping (f.base + t) cur g) (f.base + N) (f.base + (t + first) + o) (Keeps (pos k)) (λ e. omega (arith, e, z, inn, lt))))
          ((room_in limit cuts program c f x calls globals mains epar t n first m cur len inn r).own o lt);
      knows = knows_rounds rs (known k a cur len);
      weak = λ y d w. placed_weak k a cur len y d w;
      kept = λ cs l. knows_rounds rs (knows_alike (keeping (f.base + (t + first)) cs (placed k a cur)).what (λ b. sym (placed_within k a first cur cs len (omega (arith, inn, l)) b)) (known k a (Values.laid cur first cs) (laid_length cur first cs ∙ len)));
      less = λ cs l y d w. placed_weak k a (Values.laid cur first cs) (laid_length cur first cs ∙ len) y d (fit_alike (placed k a (Values.laid cur first cs)).what (placed_within k a first cur cs len (omega (arith, inn, l))) w);
    }

    -- what stands for cells of objects where the next round's number is kept, stood for them before
    fewer_next : (rs : List Round) (k a first : ℕ) (cur cs : List ℤ) → length cur ≡ n → first + length cs ≤ n → Fewer limit c (with_rounds rs f) x (keeping (f.base + (t + first)) cs (placed k a cur)) (numbered (k + 1) (Values.laid cur first cs))
    fewer_next rs k a first cur cs len inn b y p e = ⊎_elim
        (λ here. absurd (let z : Keeps (pos (k + 1)) ≡ StandsFor y p = sym (number_kept (k + 1) final) ∙ ap (numbered (k + 1) final).what here ∙ e in cc))
        (λ off. ⊎_elim
        (λ next. absurd (let z : Free ≡ StandsFor y p = sym (free_next (k + 1) final (laid_length cur first cs ∙ len)) ∙ ap (numbered (k + 1) final).what next ∙ e in cc))
        (λ off'. inl (placed_within k a first cur cs len inn b ∙ what_other (numbered k final) (f.base + (N + 1)) b (Keeps (pos a)) off' ∙ what_other (keeping (f.base + t) final g) (f.base + N) b (Keeps (pos k)) off ∙ sym (what_other (keeping (f.base + t) final g) (f.base + N) b (Keeps (pos (k + 1))) off) ∙ e))
        (at_or_not (f.base + (N + 1)) b))
        (at_or_not (f.base + N) b)
      where
        final : List ℤ
        final = Values.laid cur first cs

    fewer_last : (k : ℕ) (cs : List ℤ) → length cs ≡ n → Fewer limit c f x (numbered k cs) (keeping (f.base + t) cs g)
    fewer_last k cs len b y p e = ⊎_elim
        (λ here. absurd (let z : Free ≡ StandsFor y p = sym (free_here cs len) ∙ ap (keeping (f.base + t) cs g).what here ∙ e in cc))
        (λ off. inl (what_other (keeping (f.base + t) cs g) (f.base + N) b (Keeps (pos k)) off ∙ e))
        (at_or_not (f.base + N) b)

    renumbered : (k : ℕ) (cs : List ℤ) (b : ℕ) → (set_what (f.base + N) (Keeps (pos (k + 1))) (numbered k cs)).what b ≡ (numbered (k + 1) cs).what b
    renumbered k cs b = ⊎_elim
        (λ here. subst (λ b. (set_what (f.base + N) (Keeps (pos (k + 1))) (numbered k cs)).what b ≡ (numbered (k + 1) cs).what b) here (what_same (numbered k cs) (f.base + N) (Keeps (pos (k + 1))) ∙ sym (number_kept (k + 1) cs)))
        (λ off. what_other (numbered k cs) (f.base + N) b (Keeps (pos (k + 1))) off ∙ what_other (keeping (f.base + t) cs g) (f.base + N) b (Keeps (pos k)) off ∙ sym (what_other (keeping (f.base + t) cs g) (f.base + N) b (Keeps (pos (k + 1))) off))
        (at_or_not (f.base + N) b)

    -- the number goes on
    number_comes : {y : stored.State} {d : Dyn} {q : ℕ} {e1 e2 e3 : Option ℕ} (rs : List Round) (k : ℕ) (cs st : List ℤ) → At c q (i.LoadL N) e1 → At c (q + 1) (i.AddI (pos 1) Wide) e2 → At c (q + 1 + 1) (i.StoreL N) e3 → k + 1 < 2 ^ 63 → Fit (numbered k cs) y d
        → (d' : Dyn) × Fit (numbered (k + 1) cs) y d' × To limit c (on (with_rounds rs f) q st d) (on (with_rounds rs f) (q + 1 + 1 + 1) st d')
    number_comes {y} {d} {q} rs k cs st j1 j2 j3 few w =
        let a : ℕ = f.base + N in
        let was : slice_get d.cells a ≡ Some (Mine (pos k)) = subst (λ z. Right z y (slice_get d.cells a)) (number_kept k cs) (w.cells a) in (
          record d { cells = set d.cells a (Mine (pos (k + 1))) },
          fit_alike (numbered (k + 1) cs).what (renumbered k cs) (fit_set a (pos (k + 1)) (own_keeps ((numbered k cs).what a) (pos k) (number_kept k cs)) w),
          comes_on limit c (comes_kept limit cuts c (with_rounds rs f) N (pos k) st d w (number_kept k cs) j1)
              (comes_on limit c (comes_goes limit c (with_rounds rs f) (pos k ∷ st) (q + 1 + 1) (pos (k + 1) ∷ st) d j2 (ap (λ o. pushed (q + 1) o (st ++ f.below)) (next_number k few)))
              (comes_stores limit c (with_rounds rs f) a (pos (k + 1)) (pos k) (pos (k + 1) ∷ st) st d j3 refl was)),
        )

    module _ {B : Type 0} {q : B → Type 0} {goal : B → Dyn → Step} (value : Value) (does : Anywhere value) (h : ℕ) (st : List ℤ) (all : List Run) (head m1 m2 : ℕ) (en : s.scope.entry ≡ x.entry) (w : FittedComponent program globals mains epar (taking 2 s) value)
        (l1 : Stands c (Emission.locating_in s.scope h t 0 all) head m1) (l2 : Stands c (Emission.component program (taking 2 s).scope h (N + 1) value) m1 m2)
        (j1 : At c m2 (i.LoadL N) s.scope.entry) (j2 : At c (m2 + 1) (i.AddI (pos 1) Wide) s.scope.entry) (j3 : At c (m2 + 1 + 1) (i.StoreL N) s.scope.entry) (ja : At c (m2 + 1 + 1 + 1) (i.Again head) s.scope.entry) where
      -- a round
      round_does : (k first more : ℕ) (cur : List ℤ) (next : List ℤ → Stored B) → k + 1 < 2 ^ 63 → length cur ≡ n → first + (Emission.width program value) ≤ n → Located all 0 k first
          → ((final : List ℤ) → length final ≡ n → Doing limit c f x (numbered (k + 1) final) j q (next final) (λ d. on (part head more) (m2 + 1 + 1 + 1) st d) goal)
          → Doing limit c f x (numbered k cur) j q (stored.bind (val value env) (λ cs. next (Values.laid cur first cs))) (λ d. on (part head more) head st d) goal
      round_does k first more cur next few len here lie go =
          let rs : List Round = record { more = more; head = head } ∷ f.rounds in
          let f' : Fixed = with_rounds rs f in
          let a : ℕ = f.base + (t + first) in
          let own : IsOwn ((numbered k cur).what (f.base + (N + 1))) = own_free _ (free_next k cur len) in
          let inside_top : a ≤ g.top = (let z : t + n ≤ N = r.below in let y = r.knows.top in omega (arith, z, y, here, some)) in
          does_assoc limit c f x (stored.ret (tt {0})) _ (λ cs. next (Values.laid cur first cs))
          (does_returned limit c f x (λ _. stored.bind (Meaning.cells ops limit program calls value env) (λ cs. next (Values.laid cur first cs))) (tt {0})
          (does_rounds limit c f x rs
          (does_first limit c f' x (fewer_keeps limit c f' x (numbered k cur) (f.base + (N + 1)) (pos a)) (λ t' d' w'. locating_in_comes limit cuts c f' s h t 0 k first head m1 all st lie inside_top (number_kept k cur) own l1 w')
          (component_does limit cuts program c f' x calls globals mains epar value (does rs) B (placed k a cur) j env q goal (taking 2 s) h (N + 1) (t + first) st (round_room rs k a first (Emission.width program value) cur len here) en (omega arith) (what_same (numbered k cur) (f.base + (N + 1)) (Keeps (pos a))) m1 m2 (λ cs. next (Values.laid cur first cs)) w l2 (λ cs cl.
          let final : List ℤ = Values.laid cur first cs in
          let flen : length final ≡ n = laid_length cur first cs ∙ len in
          let inside : first + length cs ≤ n = omega (arith, here, cl) in
          does_first limit c f' x (fewer_next rs k a first cur cs len inside)
          (λ t' d' w'. number_comes rs k final st j1 j2 j3 few (fit_unset (f.base + (N + 1)) (pos a) (free_next k final flen) (fit_alike (placed k a final).what (placed_within k a first cur cs len inside) w')))
          (does_rounds limit c f' x f.rounds (go final flen)))))))

      -- those of a run, from one on; more follow
      run_rounds : (m o k more first stride : ℕ) (cur : List ℤ) (then : List ℤ → Stored B) → k + (m + more) < 2 ^ 63 → length cur ≡ n → ((z : ℕ) → z < m → first + z * stride + (Emission.width program value) ≤ n) → ((z : ℕ) → z < m → Located all 0 (k + z) (first + z * stride))
          → ((final : List ℤ) → length final ≡ n → Doing limit c f x (numbered (k + m) final) j q (then final) (λ d. on (part head more) (m2 + 1 + 1 + 1) st d) goal)
          → Doing limit c f x (numbered k cur) j q (stored.bind (Meaning.run_values ops o m first stride (λ _. val value env) cur) then) (λ d. on (part head (m + more)) (m2 + 1 + 1 + 1) st d) goal
      run_rounds zero o k more first stride cur then few len inn lie go =
          let none_yet : k + 0 ≡ k = omega arith in
          let all_left : more ≡ 0 + more = omega arith in
          subst (λ y. Doing limit c f x (numbered k cur) j q (stored.bind (stored.ret cur) then) (λ d. on (part head y) (m2 + 1 + 1 + 1) st d) goal) all_left
          (does_returned limit c f x then cur (subst (λ k. Doing limit c f x (numbered k cur) j q (then cur) (λ d. on (part head more) (m2 + 1 + 1 + 1) st d) goal) none_yet (go cur len)))
      run_rounds (suc m) o k more first stride cur then few len inn lie go =
          let at0 : first + 0 * stride ≡ first = omega (arith, zero-mul stride) in
          let none_yet : k + 0 ≡ k = omega arith in
          let one_more : k + 1 + m ≡ k + suc m = omega arith in
          let here : first + (Emission.width program value) ≤ n = subst (λ z. z + (Emission.width program value) ≤ n) at0 (inn 0 (omega arith)) in
          let lie0 : Located all 0 k first = subst (λ z. Located all 0 z first) none_yet (subst (λ z. Located all 0 (k + 0) z) at0 (lie 0 (omega arith))) in
          let one_left : suc (m + more) ≡ suc m + more = omega arith in
          does_before limit c f x (λ d. subst (λ y. To limit c (on (part head y) (m2 + 1 + 1 + 1) st d) (on (part head (m + more)) head st d)) one_left (round_comes (m + more) st d ja))
          (does_assoc limit c f x _ _ then
          (round_does k first (m + more) cur (λ final. stored.bind (Meaning.run_values ops (o + 1) m (first + stride) stride (λ _. val value env) final) then) (omega (arith, few)) len here lie0 (λ final flen.
          run_rounds m (o + 1) (k + 1) more (first + stride) stride final then (omega (arith, few)) flen (λ z lt. let y = inn (suc z) (omega (arith, lt)) in omega (arith, y, suc-mul z stride))
          (λ z lt.
          let y : Located all 0 (k + suc z) (first + suc z * stride) = lie (suc z) (omega (arith, lt)) in
          let e : k + suc z ≡ k + 1 + z = omega arith in
          let e' : first + suc z * stride ≡ first + stride + z * stride = omega (arith, suc-mul z stride) in
          subst (λ p. Located all 0 (k + 1 + z) p) e' (subst (λ y. Located all 0 y (first + suc z * stride)) e y))
          (λ final flen. subst (λ y. Doing limit c f x (numbered y final) j q (then final) (λ d. on (part head more) (m2 + 1 + 1 + 1) st d) goal) (sym one_more) (go final flen)))))

      -- those of the runs from one on
      all_rounds : (rs : List Run) (k : ℕ) (cur : List ℤ) (then : List ℤ → Stored B) → k + Emission.components_of rs < 2 ^ 63 → length cur ≡ n → FittedRuns program globals mains n (Emission.width program value) rs → ((y place : ℕ) → Located rs k y place → Located all 0 y place)
          → aggregates.Then limit cuts program c f x calls globals mains epar g j q goal t n (m2 + 1 + 1 + 1 + 1) st then
          → Doing limit c f x (numbered k cur) j q (stored.bind (Meaning.runs_values ops rs (λ _. val value env) cur) then) (λ d. on (part head (Emission.components_of rs)) (m2 + 1 + 1 + 1) st d) goal
      all_rounds [] k cur then few len ws lie go =
          does_returned limit c f x then cur
          (does_first limit c f x (fewer_last k cur len) (λ t' d' w'. (d', fit_unset (f.base + N) (pos k) (free_here cur len) w', comes_as limit c (part head 0) st d' ja refl)) (go cur len))
      all_rounds (r ∷ rs) k cur then few len (wr, ws) lie go =
          does_assoc limit c f x _ _ then
          (run_rounds r.count 0 k (Emission.components_of rs) r.first r.stride cur (λ cs. stored.bind (Meaning.runs_values ops rs (λ _. val value env) cs) then) few len wr (λ z lt. lie (k + z) (r.first + z * r.stride) (inl (z, lt, refl, refl))) (λ final flen.
          all_rounds rs (k + r.count) final then (omega (arith, few)) flen ws (λ y place l. lie y place (inr l)) go))

    -- runs without components
    none_do : {B : Type 0} {q : B → Type 0} {goal : B → Dyn → Step} {from : Dyn → Step} (value : Value) (rs : List Run) (cur : List ℤ) (then : List ℤ → Stored B) → Emission.components_of rs ≡ 0 → Doing limit c f x (keeping (f.base + t) cur g) j q (then cur) from goal
        → Doing limit c f x (keeping (f.base + t) cur g) j q (stored.bind (Meaning.runs_values ops rs (λ _. val value env) cur) then) from goal
    none_do value [] cur then e go = does_returned limit c f x then cur go
    none_do {B} {q} {goal} {from} value (r ∷ rs) cur then e go = does_assoc limit c f x _ _ then (one_run r.count r.first r.stride (omega (arith, e)) (none_do value rs cur then (omega (arith, e)) go))
      where
        after : List ℤ → Stored B
        after cs = stored.bind (Meaning.runs_values ops rs (λ _. val value env) cs) then

        one_run : (count first stride : ℕ) → count ≡ 0 → Doing limit c f x (keeping (f.base + t) cur g) j q (after cur) from goal → Doing limit c f x (keeping (f.base + t) cur g) j q (stored.bind (Meaning.run_values ops 0 count first stride (λ _. val value env) cur) after) from goal
        one_run zero first stride z others = does_returned limit c f x after cur others
        one_run (suc count) first stride z others = absurd (omega (arith, z))

    -- the runs of an association whose value is computed anew for each of its components
    pub all_repeated : {B : Type 0} {q : B → Type 0} {goal : B → Dyn → Step} (value : Value) → Anywhere value → IsCountable c.instrs → (h : ℕ) (st : List ℤ) → s.scope.entry ≡ x.entry → FittedComponent program globals mains epar (taking 2 s) value
        → (rs : List Run) (from to : ℕ) (cur : List ℤ) (then : List ℤ → Stored B) → length cur ≡ n → FittedRuns program globals mains n (Emission.width program value) rs
        → Stands c (Emission.repeating s.scope h t (Emission.component program (taking 2 s).scope h (N + 1) value) rs) from to → aggregates.Then limit cuts program c f x calls globals mains epar g j q goal t n to st then
        → Doing limit c f x (keeping (f.base + t) cur g) j q (stored.bind (Meaning.runs_values ops rs (λ _. val value env) cur) then) (λ d. on f from st d) goal
    all_repeated {B} {q} {goal} value does countable h st en w rs from to cur then len ws l go = begins (Emission.components_of rs) refl l
      where
        comp : Emit
        comp = Emission.component program (taking 2 s).scope h (N + 1) value

        rounds : ℕ → Emit
        rounds total = one s.scope h (i.Push (pos 0)) ⨟ keep s.scope (h + 1) N ⨟ one s.scope h (i.Repeat total)
            ⨟ From (λ head. Emission.locating_in s.scope h t 0 rs ⨟ comp ⨟ one s.scope h (i.LoadL N) ⨟ one s.scope (h + 1) (i.AddI (pos 1) Wide) ⨟ keep s.scope (h + 1) N ⨟ one s.scope h (i.Again head))

        begins : (total : ℕ) → Emission.components_of rs ≡ total → Stands c (cond (nat_eq total 0) none (rounds total)) from to
            → Doing limit c f x (keeping (f.base + t) cur g) j q (stored.bind (Meaning.runs_values ops rs (λ _. val value env) cur) then) (λ d. on f from st d) goal
        begins zero e l = none_do value rs cur then e (subst (λ p. Doing limit c f x (keeping (f.base + t) cur g) j q (then cur) (λ d. on f p st d) goal) l (go cur len))
        begins (suc more) e l =
            let (jp, (jk, (jr, lr))) = subst (λ b. Stands c (cond b none (rounds (suc more))) from to) (ne_eqb (suc more) 0 (λ e. omega (arith, e))) l in
            let head : ℕ = from + 1 + 1 + 1 in
            let one_less : suc more - 1 ≡ more = omega arith in
            let tail : Emit = one s.scope h (i.LoadL N) ⨟ one s.scope (h + 1) (i.AddI (pos 1) Wide) ⨟ keep s.scope (h + 1) N ⨟ one s.scope h (i.Again head) in
            let (m1, l1, lc) = stands_seq c head to (Emission.locating_in s.scope h t 0 rs) (comp ⨟ tail) lr in
            let (m2, l2, (j1, (j2, (j3, (ja, z))))) = stands_seq c m1 to comp tail lc in
            does_before limit c f x (λ d. comes_goes limit c f st (from + 1) (pos 0 ∷ st) d jp refl)
            (does_keep limit c f x (from + 1) N (pos 0) st (own_free _ (free_here cur len)) (at_entry en jk)
            (does_before limit c f x (λ d. comes_on limit c (subst (λ y. To limit c (on f (from + 1 + 1) st d) (on (part head y) head st d)) one_less (comes_as limit c f st d jr refl)) (first_comes more st d ja))
            (subst (λ y. Doing limit c f x (numbered 0 cur) j q (stored.bind (Meaning.runs_values ops rs (λ _. val value env) cur) then) (λ d. on (part head y) (m2 + 1 + 1 + 1) st d) goal) e
            (all_rounds value does h st rs head m1 m2 en w l1 l2 j1 j2 j3 ja rs 0 cur then (let z = countable_at c.instrs (from + 1 + 1) (suc more) countable (itself refl jr) in omega (arith, z, e)) len ws (λ y place l. l) (λ cs clen.
            subst (λ p. Doing limit c f x (keeping (f.base + t) cs g) j q (then cs) (λ d. on f p st d) goal) z (go cs clen))))))
