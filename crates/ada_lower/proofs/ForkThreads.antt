-- Threads in order, and by notes, come to what those of the stored run come to.
use Rattle.std.proofs.Common.{◌≡◌, ℕ, ◌+◌, ◌≤◌, max, ℤ, List, [], ◌∷◌, Option, Some, Result, Ok, Err, Bool, true, false, ◌||◌, refl, sym, ap, ap₂, ◌∙◌, subst, le_trans, arith, is_some}
use Rattle.behaviours.specs.Joins.{Share}
use Rattle.behaviours.specs.Paths as paths
use Rattle.ada_meaning.specs.Stored as stored
use Rattle.ada_base.specs.Notes.{Schedule, InOrder}
use Rattle.ada_meaning.specs.Stored.{Stored, Cause, OutOfTurns, NoRoom, CutOff, Misnoted, Touch}
use Rattle.stack_code.specs.declared.code.Code.{Code}
use Rattle.stack_code.specs.declared.code.CodeSite.{CodeSite}
use Rattle.stack_code.specs.declared.path.Asked.{Asked}
use Rattle.stack_code.specs.declared.path.Gave.{Gave}
use Rattle.stack_code.specs.declared.path.Gave.TheVariants as gave
use Rattle.stack_code.specs.Machine.{Stop, Done, Left, Spent, Cut}
use Rattle.ada_lower.specs.Driven.{Dyn, Fixed, Path, Final, Step, On, Forked, off, on, at, Finally, goes, thread_at, thread_went, in_order, cut_to, with_turns, gathered}
use Rattle.ada_lower.specs.Fits.{Ghost, Fit, left_by, Land, Lands, Asks}
use Rattle.ada_lower.proofs.Forks.{threaded, thread_ends, machine_leave, framed, done_so, ThreadDoes, Reach, Reaches}
use Rattle.ada_lower.proofs.Framework.{asks_split}
use Rattle.ada_lower.proofs.Memory.{right_same}
use Rattle.ada_lower.proofs.ForkFuel.{goes_by, off_ends}

-- counts of turns and looks, and notes, of both
abbrev pub moved : ℕ → Option ℕ → Schedule → stored.State → stored.State
moved n l ns s = record s { turns = n; left = l; notes = ns }

abbrev pub dyn_moved : ℕ → Option ℕ → Schedule → Dyn → Dyn
dyn_moved n l ns d = record d { turns = n; left = l; world = record d.world { notes = ns } }

pub fit_moved : {g : Ghost} {s : stored.State} {d : Dyn} (n : ℕ) (l : Option ℕ) (ns : Schedule) → (g.ordered ≡ true → ns ≡ InOrder) → g.least ≤ n → n ≤ g.most → Fit g s d → Fit g (moved n l ns s) (dyn_moved n l ns d)
fit_moved {g} {s} {d} n l ns order low high w = record {
  here = w.here;
  everywhere = w.everywhere;
  declared = w.declared;
  frame = w.frame;
  top = w.top;
  least = low;
  most = high;
  agrees = record { turns = refl; left = refl; taken = w.agrees.taken; held = w.agrees.held; input = w.agrees.input; output = w.agrees.output; notes = refl; done = w.agrees.done };
  plan = w.plan;
  order = order;
  cells = λ a. right_same (g.what a) s (moved n l ns s) _ refl refl (w.cells a);
}

-- the count of turns alone
pub fit_turned : {g : Ghost} {s : stored.State} {d : Dyn} (n : ℕ) → g.least ≤ n → n ≤ g.most → Fit g s d → Fit g (record s { turns = n }) (with_turns n d)
fit_turned {g} {s} {d} n low high w = record {
  here = w.here;
  everywhere = w.everywhere;
  declared = w.declared;
  frame = w.frame;
  top = w.top;
  least = low;
  most = high;
  agrees = record { turns = refl; left = w.agrees.left; taken = w.agrees.taken; held = w.agrees.held; input = w.agrees.input; output = w.agrees.output; notes = w.agrees.notes; done = w.agrees.done };
  plan = w.plan;
  order = w.order;
  cells = λ a. right_same (g.what a) s (record s { turns = n }) _ refl refl (w.cells a);
}

pub reaches_by : (may : paths.Leave → Type 0) {B : Type 0} (shows : B → List ℤ → Type 0) (g : Ghost) (F F' : ℕ → Option Forked) (turns n : ℕ) (t : stored.State) (e : Result B Cause) → ((m : ℕ) → n ≤ m → F' m ≡ F m) → Reaches may shows g F turns t e → Reaches may shows g F' turns t e
reaches_by may shows g F F' turns n t e same r = go e r
  where
    reach : {tells : Result Gave Stop → Type 0} → Reach g F turns t tells → Reach g F' turns t tells
    reach r = record { forked = r.forked; steps = n + r.steps; is = λ m le. same m (omega (arith, le)) ∙ r.is m (omega (arith, le)); told = r.told; fit = r.fit; grows = r.grows }

    go : (e : Result _ Cause) → Reaches may shows g F turns t e → Reaches may shows g F' turns t e
    go (Ok b) r = reach r
    go (Err (stored.Left l)) r = reach r
    go (Err OutOfTurns) r = reach r
    go (Err CutOff) r = reach r
    go (Err NoRoom) r = tt
    go (Err Misnoted) (un, r) = (un, reach r)

or_false : (b : Bool) → b || false ≡ b
or_false true = refl
or_false false = refl

or_true : (b : Bool) → b || true ≡ true
or_true true = refl
or_true false = refl

module _ (limit : ℕ) (c : Code) (f : Fixed) (g : Ghost) (site : CodeSite) (q : Asked) (pc : ℕ) (st : List ℤ) (d0 : Dyn) where
  abbrev pub start : Dyn → Share → Path
  start d j = thread_at c g.top site q (at f pc st d0) d j

  abbrev pub runs : ℕ → Step → Option Final
  runs m x = goes limit c m x

  -- how one thread ends
  pub record Ending (d : Dyn) (j : Share) (turns : ℕ) (t : stored.State) (how : Stop) : Type 0 where
    pub dyn : Dyn
    pub steps : ℕ
    pub is : goes limit c steps (On (start d j)) ≡ Some (record { how = how; dyn = dyn })
    pub fit : Fit g t (cut_to g.top dyn)
    pub grows : turns ≤ t.turns
    pub order : t.notes ≡ InOrder

  module _ (may : paths.Leave → Type 0) {A : Type 0} (value : A → Option ℤ) where
    abbrev pub Endings : Dyn → Share → ℕ → stored.State → Result A Cause → Type 0
    Endings d j turns t (Ok a) = Ending d j turns t (Done (value a))
    Endings d j turns t (Err (stored.Left l)) = Ending d j turns t (Left (machine_leave l)) × may l
    Endings d j turns t (Err OutOfTurns) = Ending d j turns t Spent
    Endings d j turns t (Err CutOff) = Ending d j turns t Cut
    Endings d j turns t (Err NoRoom) = Unit {0}
    Endings d j turns t (Err Misnoted) = ⊥

    pub thread_ends_so : (j : Share) (m : Stored A) → ThreadDoes limit c may g f site q value j m → (s : stored.State) (d : Dyn) → s.notes ≡ InOrder → Fit g s d → Asks f g (m.touches s) (m.visits s) → (let r = m.does s in Endings d j s.turns r.state r.end)
    thread_ends_so j m w s d order fit al = go (m.does s).state (m.does s).end (w.may_leave s) (w.does.by s (framed site q j d) (w.enters s d order fit) (w.allows (m.touches s) al.0, al.1))
      where
        ending : {t : stored.State} {how : Stop} {to : Dyn → Step} → ((d : Dyn) → to d ≡ off how d) → Land limit c (is_some f.asked) w.after (on (threaded f g.top) site.entry [] (framed site q j d)) s.turns t to → Ending d j s.turns t how
        ending {t} {how} {to} is l =
            let (n, z) = l.comes.to (record { how = how; dyn = l.dyn }) (subst (λ x. Finally limit c x (record { how = how; dyn = l.dyn })) (sym (is l.dyn)) (off_ends limit c (record { how = how; dyn = l.dyn }))) in
            record { dyn = l.dyn; steps = n; is = z; fit = w.leaves t l.dyn l.fit; grows = l.grows; order = l.fit.order w.ordered }

        left : (l : paths.Leave) (d : Dyn) → left_by (threaded f g.top) thread_ends l d ≡ off (Left (machine_leave l)) d
        left (paths.Exits n) d = refl
        left (paths.Returns v) d = refl
        left (paths.Raises r) d = refl

        go : (t : stored.State) (e : Result A Cause) → ((l : paths.Leave) → e ≡ Err (stored.Left l) → may l) → Lands limit c (threaded f g.top) thread_ends (λ a. Unit {0}) w.after (on (threaded f g.top) site.entry [] (framed site q j d)) s.turns (done_so value) t e → Endings d j s.turns t e
        go t (Ok a) m l = ending (λ d. refl) l.1
        go t (Err (stored.Left x)) m l = (ending (left x) l, m x refl)
        go t (Err OutOfTurns) m l = ending (λ d. refl) l
        go t (Err CutOff) m l = ending (λ d. refl) l
        go t (Err NoRoom) m l = tt
        go t (Err Misnoted) m (un, l) = un (l.fit.order w.ordered)

    abbrev pub AllDo : (Share → Stored A) → List Share → Type 0
    AllDo body [] = Unit {0}
    AllDo body (j ∷ js) = ThreadDoes limit c may g f site q value j (body j) × AllDo body js

    module _ {B : Type 0} (shows : B → List ℤ → Type 0) (fold : B → A → B) (folds : (b : B) (vs : List ℤ) (a : A) → shows b vs → shows (fold b a) (gathered vs (value a))) (body : Share → Stored A) (from : ℕ) (low : g.least ≤ from) (high : from ≤ g.most) where
      abbrev machine : List Share → Dyn → ℕ → Bool → List ℤ → ℕ → Option Forked
      machine js d most over vs m = in_order (λ x. goes limit c m x) start g.top from js d most over vs

      abbrev pub GoesOn : List Share → Type 0
      GoesOn js = (s : stored.State) (d : Dyn) (most : ℕ) (over : Bool) (b : B) (vs : List ℤ) → s.notes ≡ InOrder → Fit g s d → from ≤ most → most ≤ g.most → shows b vs
          → Asks f g ((stored.threads fold body from js most over b).touches s) ((stored.threads fold body from js most over b).visits s)
          → (let r = (stored.threads fold body from js most over b).does s in Reaches may shows g (machine js d most over vs) from r.state r.end)

      pub in_order_reaches : (js : List Share) → AllDo body js → GoesOn js
      unfolding stored.bind stored.rewinds stored.thread stored.spent stored.ret
      in_order_reaches [] al s d most over b vs order fit lo hi sh alw = go over
        where
          go : (o : Bool) → (let r = (stored.threads fold body from [] most o b).does s in Reaches may shows g (machine [] d most o vs) from r.state r.end)
          go true = record { forked = record { dyn = with_turns most d; how = Err Spent }; steps = 0; is = λ m le. refl; told = refl; fit = fit_turned most (le_trans low lo) hi fit; grows = lo }
          go false = record { forked = record { dyn = with_turns most d; how = Ok (gave.Numbers vs) }; steps = 0; is = λ m le. refl; told = (vs, refl, sh); fit = fit_turned most (le_trans low lo) hi fit; grows = lo }
      in_order_reaches (j ∷ js) (w, ws) s d most over b vs order fit lo hi sh alw =
          let (a1, a2) = asks_split limit c f thread_ends g ((body j).touches (record s { turns = from })) _ ((body j).visits (record s { turns = from })) _ alw in
          go (in_order_reaches js ws) ((body j).does (record s { turns = from })).state ((body j).does (record s { turns = from })).end a2
          (thread_ends_so j (body j) w (record s { turns = from }) (with_turns from d) order (fit_turned from low high fit) a1)
        where
          -- the machine's construct where this thread has ended
          run_on : {how : Stop} {t : stored.State} (z : Ending (with_turns from d) j from t how) (m : ℕ) → z.steps ≤ m
              → machine (j ∷ js) d most over vs m ≡ thread_went (runs m) start g.top (λ d most over vs. machine js d most over vs m) most over vs (Some (record { how = how; dyn = z.dyn }))
          run_on z m le = ap (λ o. thread_went (runs m) start g.top (λ d most over vs. machine js d most over vs m) most over vs o) (goes_by limit c z.steps m (On (start (with_turns from d) j)) _ le z.is)

          turns_same : {how : Stop} {t : stored.State} (z : Ending (with_turns from d) j from t how) → z.dyn.turns ≡ t.turns
          turns_same z = z.fit.agrees.turns

          more : (t : stored.State) → g.least ≤ t.turns → t.turns ≤ g.most → max most t.turns ≤ g.most
          more t l h = omega (arith, hi, h)

          stops : {how : Stop} {t : stored.State} (z : Ending (with_turns from d) j from t how) (h : Result Gave Stop) (tells : Result Gave Stop → Type 0)
              → ((m : ℕ) → thread_went (runs m) start g.top (λ d most over vs. machine js d most over vs m) most over vs (Some (record { how = how; dyn = z.dyn })) ≡ Some (record { dyn = with_turns (max most z.dyn.turns) (cut_to g.top z.dyn); how = h }))
              → tells h → Reach g (machine (j ∷ js) d most over vs) from (record t { turns = max most t.turns }) tells
          stops {t = t} z h tells is ok = record {
            forked = record { dyn = with_turns (max most z.dyn.turns) (cut_to g.top z.dyn); how = h };
            steps = z.steps;
            is = λ m le. run_on z m le ∙ is m;
            told = ok;
            fit = subst (λ n. Fit g (record t { turns = max most t.turns }) (with_turns (max most n) (cut_to g.top z.dyn))) (sym (turns_same z)) (fit_turned (max most t.turns) (let l = z.fit.least in omega (arith, l)) (more t z.fit.least z.fit.most) z.fit);
            grows = omega (arith, lo);
          }

          go : GoesOn js → (t : stored.State) (e : Result A Cause)
              → (let u = stored.took most t e in Asks f g (stored.next_touches u.state u.end (λ k. stored.threads fold body from js k.most (over || stored.is_spent k.value) (stored.gathered fold b k.value))) (stored.next_visits u.state u.end (λ k. stored.threads fold body from js k.most (over || stored.is_spent k.value) (stored.gathered fold b k.value))))
              → Endings (with_turns from d) j from t e
              → (let u = stored.took most t e in let r = stored.next u.state u.end (λ k. stored.threads fold body from js k.most (over || stored.is_spent k.value) (stored.gathered fold b k.value)) in
              Reaches may shows g (machine (j ∷ js) d most over vs) from r.state r.end)
          go ih_ t (Ok a) al2 z =
              let ih = ih_ t (cut_to g.top z.dyn) (max most t.turns) (over || false) (fold b a) (gathered vs (value a)) z.order z.fit (omega (arith, lo)) (more t z.fit.least z.fit.most) (folds b vs a sh) al2 in
              reaches_by may shows g (machine js (cut_to g.top z.dyn) (max most t.turns) (over || false) (gathered vs (value a))) (machine (j ∷ js) d most over vs) from z.steps _ _
              (λ m le. run_on z m le ∙ ap₂ (λ n o. machine js (cut_to g.top z.dyn) (max most n) o (gathered vs (value a)) m) (turns_same z) (sym (or_false over))) ih
          go ih_ t (Err OutOfTurns) al2 z =
              let ih = ih_ t (cut_to g.top z.dyn) (max most t.turns) (over || true) b vs z.order z.fit (omega (arith, lo)) (more t z.fit.least z.fit.most) sh al2 in
              reaches_by may shows g (machine js (cut_to g.top z.dyn) (max most t.turns) (over || true) vs) (machine (j ∷ js) d most over vs) from z.steps _ _
              (λ m le. run_on z m le ∙ ap₂ (λ n o. machine js (cut_to g.top z.dyn) (max most n) o vs m) (turns_same z) (sym (or_true over))) ih
          go ih_ t (Err (stored.Left l)) al2 z = stops z.0 (Ok (gave.Left (machine_leave l))) _ (λ m. refl) (refl, z.1)
          go ih_ t (Err CutOff) al2 z = stops z (Err Cut) _ (λ m. refl) refl
          go ih_ t (Err NoRoom) al2 z = tt
          go ih_ t (Err Misnoted) al2 z = absurd z
