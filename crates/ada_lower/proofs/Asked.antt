-- A Get of the stored run, and the one that the machine's path is given.
use Rattle.std.proofs.Common.{◌≡◌, ℕ, zero, suc, ◌+◌, ◌*◌, ◌≤◌, nat_lt, ℤ, List, [], ◌∷◌, slice_get, Option, Some, None, Result, Ok, Err, Bool, true, false, not, ◌||◌, cond, refl, sym, ap, subst, le_refl, le_trans, arith, ltb-true}
use Rattle.ada_base.specs.declared.reason.Reason.{Reason}
use Rattle.ada_base.specs.declared.reason.Reason.TheVariants as reason
use Rattle.ada_base.specs.Input
use Rattle.ada_base.specs.Input.{Held, Nothing, Symbol, is_blank, is_byte, is_digit, digit_of, is_based, is_integer, signed}
use Rattle.behaviours.specs.Paths.{Raises}
use Rattle.ada_meaning.specs.Operations.{Operations}
use Rattle.ada_meaning.specs.Stored as stored
use Rattle.ada_meaning.specs.Stored.{Stored, Cause, Left, OutOfTurns}
use Rattle.ada_meaning.specs.Meaning
use Rattle.stack_code.specs.declared.code.Code.{Code}
use Rattle.stack_code.specs.declared.instr.Instr.TheVariants as i
use Rattle.stack_code.specs.declared.path.Gave.TheVariants as gave
use Rattle.stack_code.specs.declared.path.Leave.TheVariants as leave
use Rattle.stack_code.specs.Machine.{after}
use Rattle.ada_lower.specs.Asking.{Reads, Read, at, next, taken_from, reading, got}
use Rattle.ada_lower.specs.Driven.{Dyn, Fixed, On, on, thrown, state_of, read_into, given_got, after_got, At}
use Rattle.ada_lower.specs.Fits.{Ghost, Fit, Ends, Lands}
use Rattle.ada_lower.proofs.Framework.{any, To, itself, comes_here, comes_as, comes_thrown, leads_on}
use Rattle.ada_lower.proofs.Memory.{right_same}
use Rattle.ada_lower.proofs.Parts.{Runs}

abbrev pub part : stored.State → Reads
part s = record { turns = s.turns; taken = s.taken; held = s.held; input = s.input; done = s.done }

abbrev pub onto : stored.State → Reads → stored.State
onto s t = record s { turns = t.turns; taken = t.taken; held = t.held; input = t.input; done = t.done }

abbrev pub cause_of : {A : Type 0} → Result A (Option Reason) → Result A Cause
cause_of (Ok a) = Ok a
cause_of (Err None) = Err OutOfTurns
cause_of (Err (Some r)) = Err (Left (Raises r))

module _ (limit : ℕ) (cuts : ℕ → ℕ → List ℕ) where
  abbrev ops : Operations {1}
  ops = stored.noted_operations limit cuts

  pub record Same {A : Type 0} (s : stored.State) (r : stored.After A) (e : Read A) : Type 0 where
    pub state : r.state ≡ onto s e.state
    pub end : r.end ≡ cause_of e.end
    pub more : s.turns ≤ e.state.turns
    pub most : s.turns ≤ limit → e.state.turns ≤ limit

  -- they do the same
  pub record Sim {A : Type 0} (m : Stored A) (n : Reads → Read A) : Type 0 where
    pub by : (s : stored.State) → Same s (m.does s) (n (part s))

  sim_ret : {A : Type 0} (a : A) → Sim (stored.ret a) (λ s. at s (Ok a))
  unfolding stored.ret
  sim_ret a = record { by = λ s. record { state = refl; end = refl; more = le_refl s.turns; most = λ le. le } }

  sim_raise : {A : Type 0} (r : Reason) → Sim {A = A} (stored.leaves (Raises r)) (λ s. at s (Err (Some r)))
  unfolding stored.leaves
  sim_raise r = record { by = λ s. record { state = refl; end = refl; more = le_refl s.turns; most = λ le. le } }

  sim_spent : {A : Type 0} → Sim {A = A} stored.spent (λ s. at s (Err None))
  unfolding stored.spent
  sim_spent = record { by = λ s. record { state = refl; end = refl; more = le_refl s.turns; most = λ le. le } }

  sim_recalls : Sim stored.recalls (λ s. at s (Ok s.held))
  unfolding stored.recalls
  sim_recalls = record { by = λ s. record { state = refl; end = refl; more = le_refl s.turns; most = λ le. le } }

  sim_keeps : (h : Held) → Sim (stored.keeps h) (λ s. at (record s { held = h }) (Ok tt))
  unfolding stored.keeps
  sim_keeps h = record { by = λ s. record { state = refl; end = refl; more = le_refl s.turns; most = λ le. le } }

  sim_bind : {A B : Type 0} {m : Stored A} {n : Reads → Read A} {k : A → Stored B} {l : A → Reads → Read B} → Sim m n → ((a : A) → Sim (k a) (l a)) → Sim (stored.bind m k) (λ s. next (n s).state (n s).end l)
  unfolding stored.bind
  sim_bind {A} {B} {m} {n} {k} {l} i j = record {
    by = λ s. let w = i.by s in
        subst (λ t. Same s (stored.next t (m.does s).end k) (next (n (part s)).state (n (part s)).end l)) (sym w.state)
        (subst (λ e. Same s (stored.next (onto s (n (part s)).state) e k) (next (n (part s)).state (n (part s)).end l)) (sym w.end) (go s (n (part s)).state (n (part s)).end w.more w.most));
  }
    where
      go : (s : stored.State) (t : Reads) (e : Result A (Option Reason)) → s.turns ≤ t.turns → (s.turns ≤ limit → t.turns ≤ limit) → Same s (stored.next (onto s t) (cause_of e) k) (next t e l)
      go s t (Ok a) more most = let w = (j a).by (onto s t) in record { state = w.state; end = w.end; more = le_trans more w.more; most = λ le. w.most (most le) }
      go s t (Err None) more most = record { state = refl; end = refl; more = more; most = most }
      go s t (Err (Some r)) more most = record { state = refl; end = refl; more = more; most = most }

  sim_asks : Sim (stored.bind (stored.turn limit) (λ _. stored.takes)) (reading limit).asks
  unfolding stored.bind stored.turn stored.takes
  sim_asks = record { by = λ s. go s (nat_lt s.turns limit) refl }
    where
      took : (s : stored.State) (xs : List ℕ) → s.turns ≤ limit → Same s (stored.taken_from s xs) (taken_from (part s) xs)
      took s [] le = record { state = refl; end = refl; more = le_refl s.turns; most = λ le. le }
      took s (b ∷ xs) le = record { state = refl; end = refl; more = le_refl s.turns; most = λ le. le }

      go : (s : stored.State) (b : Bool) → nat_lt s.turns limit ≡ b
          → Same s (let r = cond (nat_lt s.turns limit) (stored.at (record s { turns = s.turns + 1 }) (Ok (tt {0}))) (stored.at s (Err OutOfTurns)) in stored.next r.state r.end (λ _. stored.takes)) (cond (nat_lt s.turns limit) (taken_from (record (part s) { turns = s.turns + 1 }) s.input) (at (part s) (Err None)))
      go s true e =
          let lt = ltb-true s.turns limit e in
          subst (λ b. Same s (let r = cond b (stored.at (record s { turns = s.turns + 1 }) (Ok (tt {0}))) (stored.at s (Err OutOfTurns)) in stored.next r.state r.end (λ _. stored.takes)) (cond b (taken_from (record (part s) { turns = s.turns + 1 }) s.input) (at (part s) (Err None)))) (sym e)
          (let w = took (record s { turns = s.turns + 1 }) s.input (omega (arith, lt)) in record { state = w.state; end = w.end; more = (let q = w.more in omega (arith, q)); most = λ le. w.most (omega (arith, lt)) })
      go s false e = subst (λ b. Same s (let r = cond b (stored.at (record s { turns = s.turns + 1 }) (Ok (tt {0}))) (stored.at s (Err OutOfTurns)) in stored.next r.state r.end (λ _. stored.takes)) (cond b (taken_from (record (part s) { turns = s.turns + 1 }) s.input) (at (part s) (Err None)))) (sym e)
          (record { state = refl; end = refl; more = le_refl s.turns; most = λ le. le })

  sim_cond : {A : Type 0} {m m' : Stored A} {n n' : Reads → Read A} (b : Bool) → Sim m n → Sim m' n' → Sim (cond b m m') (cond b n n')
  sim_cond true i j = i
  sim_cond false i j = j

  sim_fails : {A : Type 0} (s : Option ℕ) (r : Reason) → Sim (Input.fails_at (Meaning.reading ops) {A = A} s r) (Input.fails_at (reading limit) {A = A} s r)
  sim_fails s r = sim_bind (sim_keeps (Symbol s)) (λ _. sim_raise r)

  sim_skip : (n : ℕ) (s : Option ℕ) → Sim (Input.skip_blanks (Meaning.reading ops) n s) (Input.skip_blanks (reading limit) n s)
  sim_skip zero s = sim_spent
  sim_skip (suc n) s = sim_cond (is_blank s) (sim_bind sim_asks (λ t. sim_skip n t)) (sim_ret s)

  sim_ends : (negative : Bool) (n : ℕ) (s : Option ℕ) → Sim (Input.number_ends (Meaning.reading ops) negative n s) (Input.number_ends (reading limit) negative n s)
  sim_ends negative n s = sim_cond (is_based s || not (is_integer (signed negative n))) (sim_fails s reason.DataError) (sim_bind (sim_keeps (Symbol s)) (λ _. sim_ret (signed negative n)))

  sim_digits : (n : ℕ) (negative : Bool) (m : ℕ) (s : Option ℕ) → Sim (Input.digits (Meaning.reading ops) n negative m s) (Input.digits (reading limit) n negative m s)
  sim_digits zero negative m s = sim_spent
  sim_digits (suc n) negative m s = sim_bind sim_asks (λ t. sim_cond (is_digit t) (sim_digits n negative (m * 10 + digit_of s) t)
      (sim_cond (is_byte 95 t) (sim_bind sim_asks (λ u. sim_cond (is_digit u) (sim_digits n negative (m * 10 + digit_of s) u) (sim_fails u reason.DataError))) (sim_ends negative (m * 10 + digit_of s) t)))

  sim_from : (n : ℕ) (negative : Bool) (s : Option ℕ) → Sim (Input.number_from (Meaning.reading ops) n negative s) (Input.number_from (reading limit) n negative s)
  sim_from n negative s = sim_cond (is_digit s) (sim_digits n negative 0 s) (sim_fails s reason.DataError)

  sim_unsigned : (n : ℕ) (s : Option ℕ) → Sim (Input.unsigned_number (Meaning.reading ops) n s) (Input.unsigned_number (reading limit) n s)
  sim_unsigned n None = sim_fails None reason.EndError
  sim_unsigned n (Some b) = sim_from n false (Some b)

  sim_first : (h : Held) → Sim (Input.first_symbol (Meaning.reading ops) h) (Input.first_symbol (reading limit) h)
  sim_first Nothing = sim_asks
  sim_first (Symbol s) = sim_ret s

  pub sim_got : Sim (Meaning.got ops limit) (got limit)
  sim_got = sim_bind sim_recalls (λ h. sim_bind (sim_first h) (λ s. sim_bind (sim_skip (suc limit) s) (λ t.
      sim_cond (is_byte 45 t) (sim_bind sim_asks (λ u. sim_from (suc limit) true u))
      (sim_cond (is_byte 43 t) (sim_bind sim_asks (λ u. sim_from (suc limit) false u)) (sim_unsigned (suc limit) t)))))

  module _ (c : Code) (f : Fixed) (x : Ends) where
    with_reads : Reads → Dyn → Dyn
    with_reads t d = record d { turns = t.turns; world = read_into limit c t d.world }

    fit_reads : {g : Ghost} (s : stored.State) (d : Dyn) (t : Reads) → Fit g s d → s.turns ≤ t.turns → t.turns ≤ g.most → Fit g (onto s t) (with_reads t d)
    unfolding with_reads
    fit_reads {g} s d t w more most = record {
      here = w.here;
      everywhere = w.everywhere;
      declared = w.declared;
      frame = w.frame;
      top = w.top;
      least = le_trans w.least more;
      most = most;
      agrees = record { turns = refl; left = w.agrees.left; taken = refl; held = refl; input = refl; output = w.agrees.output; notes = w.agrees.notes; done = refl };
      plan = w.plan;
      order = w.order;
      cells = λ a. right_same (g.what a) s (onto s t) (slice_get d.cells a) refl refl (w.cells a);
    }

    -- a number is read
    pub does_got : {g : Ghost} {q : ℕ} (st : List ℤ) → g.most ≡ limit → At c q i.Get x.entry → Runs limit c f x g any (Meaning.got ops limit) (λ d. on f q st d) (λ v d. on f (q + 1) (v ∷ st) d)
    unfolding with_reads
    does_got {g} {q} st most a = record {
      by = λ s d fit al.
          let w = sim_got.by s in
          let e = got limit (part s) in
          let reads : ◌≡◌ {A = Reads} (record { turns = d.turns; taken = d.world.taken; held = d.world.held; input = d.world.input; done = d.world.done }) (part s) = rw (fit.agrees.turns, fit.agrees.taken, fit.agrees.held, fit.agrees.input, fit.agrees.done) refl in
          let comes : To limit c (on f q st d) (given_got limit c e.state e.end (state_of f q st [] None d) d.world) = comes_as limit c f st d a (ap (λ p. after_got limit c (got limit p) (state_of f q st [] None d) d.world) reads) in
          subst (λ t. Lands limit c f x any g (on f q st d) s.turns (λ v d. on f (q + 1) (v ∷ st) d) t ((Meaning.got ops limit).does s).end) (sym w.state)
          (subst (λ r. Lands limit c f x any g (on f q st d) s.turns (λ v d. on f (q + 1) (v ∷ st) d) (onto s e.state) r) (sym w.end)
          (go s d e.state e.end comes (fit_reads s d e.state fit w.more (let m = fit.most in let n = w.most (omega (arith, m, most)) in omega (arith, n, most))) w.more));
    }
      where
        go : (s : stored.State) (d : Dyn) (t : Reads) (e : Result ℤ (Option Reason)) → To limit c (on f q st d) (given_got limit c t e (state_of f q st [] None d) d.world) → Fit g (onto s t) (with_reads t d) → s.turns ≤ t.turns
            → Lands limit c f x any g (on f q st d) s.turns (λ v d. on f (q + 1) (v ∷ st) d) (onto s t) (cause_of e)
        go s d t (Ok v) comes fit more = (
          tt,
          record {
            dyn = with_reads t d;
            fit = fit;
            grows = more;
            comes = leads_on limit c (comes _) (subst (λ o. To limit c (On (record { state = after o (gave.Numbers (v ∷ [])) (state_of f q st [] None (with_reads t d)); world = (with_reads t d).world })) (on f (q + 1) (v ∷ st) (with_reads t d))) (sym (itself refl a)) (comes_here limit c (on f (q + 1) (v ∷ st) (with_reads t d))) _);
          },
        )
        go s d t (Err (Some r)) comes fit more = record {
          dyn = with_reads t d;
          fit = fit;
          grows = more;
          comes = leads_on limit c (comes _) (subst (λ o. To limit c (On (record { state = after o (gave.Left (leave.Raise r)) (state_of f q st [] None (with_reads t d)); world = (with_reads t d).world })) (thrown r x.entry f (with_reads t d))) (sym (itself refl a)) (comes_thrown limit c f st r (with_reads t d) a) _);
        }
        go s d t (Err None) comes fit more = record { dyn = with_reads t d; fit = fit; grows = more; comes = comes _ }
