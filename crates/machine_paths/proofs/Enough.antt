-- In valid, forward and hushed code a thread's path comes within enough steps to where the machine's path comes that may ask.
use Rattle.std.proofs.Common.{◌≡◌, ℕ, zero, suc, ◌+◌, ◌-◌, ◌*◌, ◌<◌, ◌≤◌, ℤ, List, [], ◌∷◌, length, Option, Some, None, Result, Ok, Err, Bool, true, false, cond, refl, sym, ap, ◌∙◌, subst, arith}
use Rattle.std.specs.Prelude.{slice_get, max, IsSomeAnd}
use Rattle.std.proofs.Math.Nat.{mul-le-mul_right, max-le, le-max_left}
use Rattle.behaviours.specs.Joins.{Share, deal}
use Rattle.ada_base.specs.declared.reason.Reason.{Reason}
use Rattle.ada_base.specs.Notes.{InOrder}
use Rattle.stack_code.specs.declared.code.Around.TheVariants.{Site}
use Rattle.stack_code.specs.declared.code.Code.{Code}
use Rattle.stack_code.specs.declared.code.CodeSite.{CodeSite}
use Rattle.stack_code.specs.declared.instr.Instr.{Instr}
use Rattle.stack_code.specs.declared.instr.Instr.TheVariants.{Fork, Turn}
use Rattle.stack_code.specs.declared.path.Asked.{Asked}
use Rattle.stack_code.specs.declared.path.Gave.{Gave}
use Rattle.stack_code.specs.declared.path.Gave.TheVariants as gave
use Rattle.stack_code.specs.declared.path.Leave.TheVariants.{Raise as Raises, Exit as Exits, Return as Returns}
use Rattle.stack_code.specs.Answers.{OfKind, IsAnswer}
use Rattle.stack_code.specs.Operands.{is_reduction}
use Rattle.stack_code.specs.Machine.{Frame, State, Stop, Done, Left, Spent, Cut, Asks, Constructs, Stuck, Astray, Went, Goes, Stops, step, after, after_fork as answered_fork, resumed}
use Rattle.stack_code.specs.Stands.{Stands, Forked as StandsForked, Keeps, IsForward, Falls, wait, cost, cost_from, cost_of_rounds, cost_of_waiting, way, rank}
use Rattle.stack_code.specs.Valid.{IsValid}
use Rattle.stack_code.proofs.Standing.{fine, has_one, keeps}
use Rattle.stack_code.proofs.Falling.{falls, cost_later, cost_passed}
use Rattle.stack_code.proofs.Answering.{fork_stands}
use Rattle.ada_lower.specs.Driven.{World, Dyn, Path, Final, Step, On, Off, Forks, Forked, clip, cut_to, off, dyn_of, raw_of, sizes_for, with_turns, thread_ended, thread_went, in_order, by_notes, gathered, thread_at, answer_of, answering, with_answer, with_dyn, at_site, fork, fork_end, driven, after_fork, goes, Finally}
use Rattle.machine_paths.specs.Silent.{unasked, silently}
use Rattle.machine_paths.specs.Threads.{enough}
use Rattle.machine_paths.specs.Hushed.{IsHushed, BeginsLater, GaveWell}
use Rattle.machine_paths.proofs.Stoppings.{Stood, StoppedSo, stops_so}
use Rattle.machine_paths.proofs.Hushes.{StopsWell, asks_not, leaves_well, begun_stands, answer_kind}
use Rattle.machine_paths.proofs.Worlds.{silently_world}

none_some : {A : Type 0} {a : A} → ◌≡◌ {A = Option A} None (Some a) → ⊥
none_some e = cc

final_is : (x y : Final) → Some x ≡ Some y → x ≡ y
final_is x y e = cc

forked_is : (x y : Forked) → Some x ≡ Some y → x ≡ y
forked_is x y e = cc

wait_most : (o : Option Instr) (n : ℕ) → wait o n ≤ n
wait_most (Some Turn) n = omega arith
wait_most (Some i) n = omega arith
wait_most None n = omega arith

clip_turns : (fs : List Frame) (d : Dyn) → (clip fs d).turns ≡ d.turns
clip_turns [] d = refl
clip_turns (f ∷ fs) d = clip_turns fs (cut_to f.top d)

-- it isn't left
abbrev NotLeft : Stop → Type 0
NotLeft (Left l) = ⊥
NotLeft x = Unit {0}

stops_well : (b : Bool) (x : Stop) → NotLeft x → StopsWell b x
stops_well b (Left l) h = absurd h
stops_well b (Done v) h = tt
stops_well b Spent h = tt
stops_well b Cut h = tt
stops_well b (Asks i) h = tt
stops_well b (Constructs q) h = tt
stops_well b Stuck h = tt
stops_well b Astray h = tt

abbrev HowWell : Bool → Result Gave Stop → Type 0
HowWell b (Ok g) = GaveWell b g
HowWell b (Err x) = NotLeft x

module _ (limit : ℕ) (c : Code) where
  abbrev EndsWell : Bool → Final → Type 0
  EndsWell b e = StopsWell b e.how × (e.dyn.turns ≤ limit)

  -- so many steps are enough, of a thread of construct k
  abbrev Good : ℕ → Bool → ℕ → Step → Type 0
  Good k b r (On p) = Stands c (Site k) p.state × (p.state.turns ≤ limit) × (2 * rank c limit p.state + 1 < r) × (p.world.notes ≡ InOrder)
  Good k b r (Forks q p) = StandsForked c (Site k) q.site p.state × (p.state.turns ≤ limit) × (2 * rank c limit p.state < r) × (p.world.notes ≡ InOrder)
  Good k b r (Off e) = EndsWell b e

  abbrev Does : ℕ → Bool → ℕ → Step → Final → Type 0
  Does k b r x e = (silently limit c r x ≡ Some e) × EndsWell b e

  abbrev Enough : ℕ → Type 0
  Enough n = (k : ℕ) (site : CodeSite) → slice_get c.sites k ≡ Some site → (r : ℕ) (x : Step) (e : Final) → Good k (is_reduction site.kind) r x → goes limit c n x ≡ Some e → Does k (is_reduction site.kind) r x e

  silently_off : (r : ℕ) (e : Final) → silently limit c r (Off e) ≡ Some e
  silently_off zero e = refl
  silently_off (suc r) e = refl

  off_enough : (k : ℕ) (b : Bool) (r : ℕ) (f e : Final) → EndsWell b f → Some f ≡ Some e → Does k b r (Off f) e
  off_enough k b r f e h is = subst (λ e. Does k b r (Off f) e) (final_is f e is) (silently_off r f, h)

  rank_same : (s t : State) → Stood s t → rank c limit t ≡ rank c limit s
  rank_same s t h = λ i. (2 * (limit - h.turns i) + length (h.waiting i)) * (4 * cost c.instrs + 4) + way c (h.raising i) (h.pc i) + (cost_of_rounds c (h.rounds i) + cost_of_waiting c (h.waiting i))

  abbrev rounds_cost : State → ℕ
  rounds_cost s = cost_of_rounds c s.rounds + cost_of_waiting c s.waiting

  rank_less : (s t : State) → s.turns ≤ t.turns → length t.waiting ≤ length s.waiting → way c t.raising t.pc < way c s.raising s.pc → rounds_cost t ≤ rounds_cost s → rank c limit t < rank c limit s
  rank_less s t h w l r =
      let m : (2 * (limit - t.turns) + length t.waiting) * (4 * cost c.instrs + 4) ≤ (2 * (limit - s.turns) + length s.waiting) * (4 * cost c.instrs + 4) = mul-le-mul_right (4 * cost c.instrs + 4) (omega (arith, h, w)) in
      omega (arith, m, l, r)

  module _ (quiet : ℕ → Bool) (valid : IsValid c) (forward : IsForward c) (later : BeginsLater c) (hushed : IsHushed c quiet) where
    -- ---- a step
    step_enough : (n : ℕ) → Enough n → (k : ℕ) (site : CodeSite) → slice_get c.sites k ≡ Some site → (r : ℕ) (p : Path) (e : Final) → Good k (is_reduction site.kind) (suc r) (On p) → (t : Went) → step limit c p.state ≡ t → goes limit c n (driven limit c t p.world) ≡ Some e →
        (unasked limit c (silently limit c r) t p.world ≡ Some e) × EndsWell (is_reduction site.kind) e
    step_enough n ih k site at r p e g (Goes t) is eq =
        let kept = subst (Keeps c (Site k)) is (keeps c (Site k) valid p.state limit g.0) in
        let fell = subst (Falls c limit (rank c limit p.state)) is (falls c (Site k) limit valid forward p.state g.0 g.1) in
        ih k site at r (On (record { state = t; world = p.world })) e (kept, fell.1, omega (arith, fell.0, g.2), g.3) eq
    step_enough n ih k site at r p e g (Stops (Constructs q) t) is eq =
        let kept = subst (Keeps c (Site k)) is (keeps c (Site k) valid p.state limit g.0) in
        let fell : t.turns ≤ limit = subst (Falls c limit (rank c limit p.state)) is (falls c (Site k) limit valid forward p.state g.0 g.1) in
        let same = rank_same p.state t (subst (StoppedSo c p.state) is (stops_so limit c (Site k) valid p.state g.0)) in
        ih k site at r (Forks q (record { state = t; world = p.world })) e (kept, fell, omega (arith, same, g.2), g.3) eq
    step_enough n ih k site at r p e g (Stops (Asks io) t) is eq = absurd (asks_not c valid quiet hushed k limit p.state io t g.0 is)
    step_enough n ih k site at r p e g (Stops (Left l) t) is eq =
        let fell : t.turns ≤ limit = subst (Falls c limit (rank c limit p.state)) is (falls c (Site k) limit valid forward p.state g.0 g.1) in
        ih k site at r (off (Left l) (dyn_of t p.world)) e (leaves_well c valid limit k site at p.state l t g.0 is, omega (arith, fell, clip_turns t.waiting (raw_of t p.world))) eq
    step_enough n ih k site at r p e g (Stops (Done v) t) is eq =
        let fell : t.turns ≤ limit = subst (Falls c limit (rank c limit p.state)) is (falls c (Site k) limit valid forward p.state g.0 g.1) in
        ih k site at r (off (Done v) (dyn_of t p.world)) e (tt, omega (arith, fell, clip_turns t.waiting (raw_of t p.world))) eq
    step_enough n ih k site at r p e g (Stops Spent t) is eq =
        let fell : t.turns ≤ limit = subst (Falls c limit (rank c limit p.state)) is (falls c (Site k) limit valid forward p.state g.0 g.1) in
        ih k site at r (off Spent (dyn_of t p.world)) e (tt, omega (arith, fell, clip_turns t.waiting (raw_of t p.world))) eq
    step_enough n ih k site at r p e g (Stops Cut t) is eq =
        let fell : t.turns ≤ limit = subst (Falls c limit (rank c limit p.state)) is (falls c (Site k) limit valid forward p.state g.0 g.1) in
        ih k site at r (off Cut (dyn_of t p.world)) e (tt, omega (arith, fell, clip_turns t.waiting (raw_of t p.world))) eq
    step_enough n ih k site at r p e g (Stops Stuck t) is eq =
        let fell : t.turns ≤ limit = subst (Falls c limit (rank c limit p.state)) is (falls c (Site k) limit valid forward p.state g.0 g.1) in
        ih k site at r (off Stuck (dyn_of t p.world)) e (tt, omega (arith, fell, clip_turns t.waiting (raw_of t p.world))) eq
    step_enough n ih k site at r p e g (Stops Astray t) is eq =
        let fell : t.turns ≤ limit = subst (Falls c limit (rank c limit p.state)) is (falls c (Site k) limit valid forward p.state g.0 g.1) in
        ih k site at r (off Astray (dyn_of t p.world)) e (tt, omega (arith, fell, clip_turns t.waiting (raw_of t p.world))) eq

    -- ---- a construct
    module _ (n : ℕ) (ih : Enough n) (r : ℕ) (low : ℕ) (q : Asked) (p : Path) (inner : CodeSite) (at : slice_get c.sites q.site ≡ Some inner) (g : Good low false (suc r) (Forks q p)) where
      abbrev top : ℕ
      top = length p.state.cells

      abbrev begins : Dyn → Share → Path
      begins d j = thread_at c top inner q p d j

      abbrev reduces : Bool
      reduces = is_reduction inner.kind

      here_way : way c p.state.raising p.state.pc ≡ 2 * (cost c.instrs + 1 + cost_from c p.state.pc) + 1
      here_way = ap (λ o. way c o p.state.pc) g.0.calm ∙ ap (λ i. 2 * (wait i (cost c.instrs + 1) + cost_from c p.state.pc) + 1) g.0.here

      passed : (to : ℕ) → p.state.pc < to → cost_from c to < cost_from c p.state.pc
      passed to l = cost_passed c.instrs p.state.pc to (Fork q.site) g.0.here l

      thread_enough : (d : Dyn) (j : Share) (f : Final) → d.turns ≡ p.state.turns → d.world.notes ≡ InOrder → goes limit c n (On (begins d j)) ≡ Some f → Does q.site reduces r (On (begins d j)) f × (f.dyn.world.notes ≡ InOrder)
      thread_enough d j f e o is =
          let s = (begins d j).state in
          let after : p.state.pc < inner.entry = later p.state.pc q.site inner g.0.here at in
          let w = wait_most (slice_get c.instrs inner.entry) (cost c.instrs + 1) in
          let less = rank_less p.state s (omega (arith, e)) (omega arith) (omega (arith, here_way, passed inner.entry after, w)) (omega arith) in
          let h = ih q.site inner at r (On (begins d j)) f
          (begun_stands c valid q.site inner (Site low) p.state top d.turns p.state.calls p.state.nested d.left s.cells at g.0, omega (arith, e, g.1), omega (arith, less, g.2), o) is in
          (h, ap (λ (w : World). w.notes) (silently_world limit c d.world o r (On (begins d j)) f refl h.0) ∙ o)

      abbrev lined : (Step → Option Final) → List Share → Dyn → ℕ → Bool → List ℤ → Option Forked
      lined run js d most over us = in_order run (λ d j. begins d j) top p.state.turns js d most over us

      -- what the threads come to
      abbrev WellTo : ℕ → Forked → Type 0
      WellTo most x = HowWell reduces x.how × (most ≤ x.dyn.turns) × (x.dyn.turns ≤ limit) × (x.dyn.world.notes ≡ InOrder)

      abbrev Rest : List Share → Type 0
      Rest js = (d : Dyn) (most : ℕ) (over : Bool) (us : List ℤ) (x : Forked) → d.world.notes ≡ InOrder → most ≤ limit → lined (goes limit c n) js d most over us ≡ Some x → (lined (silently limit c r) js d most over us ≡ Some x) × WellTo most x

      forked_well : (most : ℕ) (y x : Forked) → WellTo most y → Some y ≡ Some x → (Some y ≡ Some x) × WellTo most x
      forked_well most y x h e = (e, subst (WellTo most) (forked_is y x e) h)

      ended_enough : (js : List Share) → Rest js → (most : ℕ) (over : Bool) (us : List ℤ) (h : Stop) (d : Dyn) (x : Forked) → StopsWell reduces h → d.turns ≤ limit → d.world.notes ≡ InOrder → most ≤ limit →
          thread_ended (goes limit c n) (λ d j. begins d j) top (λ d m o us. lined (goes limit c n) js d m o us) most over us h d ≡ Some x →
          (thread_ended (silently limit c r) (λ d j. begins d j) top (λ d m o us. lined (silently limit c r) js d m o us) most over us h d ≡ Some x) × WellTo most x
      ended_enough js rest most over us (Done v) d x w t o l e =
          let h = rest d (max most d.turns) over (gathered us v) x o (max-le l t) e in let m = le-max_left most d.turns in (h.0, (h.1.0, omega (arith, h.1.1, m), h.1.2, h.1.3))
      ended_enough js rest most over us Spent d x w t o l e =
          let h = rest d (max most d.turns) true us x o (max-le l t) e in let m = le-max_left most d.turns in (h.0, (h.1.0, omega (arith, h.1.1, m), h.1.2, h.1.3))
      ended_enough js rest most over us (Left v) d x w t o l e = forked_well most (record { dyn = with_turns (max most d.turns) d; how = Ok (gave.Left v) }) x (w, le-max_left most d.turns, max-le l t, o) e
      ended_enough js rest most over us Cut d x w t o l e = forked_well most (record { dyn = with_turns (max most d.turns) d; how = Err Cut }) x (tt, le-max_left most d.turns, max-le l t, o) e
      ended_enough js rest most over us (Asks a) d x w t o l e = forked_well most (record { dyn = with_turns (max most d.turns) d; how = Err (Asks a) }) x (tt, le-max_left most d.turns, max-le l t, o) e
      ended_enough js rest most over us (Constructs a) d x w t o l e = forked_well most (record { dyn = with_turns (max most d.turns) d; how = Err (Constructs a) }) x (tt, le-max_left most d.turns, max-le l t, o) e
      ended_enough js rest most over us Stuck d x w t o l e = forked_well most (record { dyn = with_turns (max most d.turns) d; how = Err Stuck }) x (tt, le-max_left most d.turns, max-le l t, o) e
      ended_enough js rest most over us Astray d x w t o l e = forked_well most (record { dyn = with_turns (max most d.turns) d; how = Err Astray }) x (tt, le-max_left most d.turns, max-le l t, o) e

      went_enough : (js : List Share) → Rest js → (most : ℕ) (over : Bool) (us : List ℤ) (d : Dyn) (j : Share) (x : Forked) → d.turns ≡ p.state.turns → d.world.notes ≡ InOrder → most ≤ limit → (z : Option Final) → goes limit c n (On (begins d j)) ≡ z →
          thread_went (goes limit c n) (λ d j. begins d j) top (λ d m o us. lined (goes limit c n) js d m o us) most over us z ≡ Some x →
          (thread_went (silently limit c r) (λ d j. begins d j) top (λ d m o us. lined (silently limit c r) js d m o us) most over us (silently limit c r (On (begins d j))) ≡ Some x) × WellTo most x
      went_enough js rest most over us d j x t o l None is e = absurd (none_some e)
      went_enough js rest most over us d j x t o l (Some f) is e =
          let h = thread_enough d j f t o is in
          let w = ended_enough js rest most over us f.how (cut_to top f.dyn) x h.0.1.0 h.0.1.1 h.1 l e in
          (ap (thread_went (silently limit c r) (λ d j. begins d j) top (λ d m o us. lined (silently limit c r) js d m o us) most over us) h.0.0 ∙ w.0, w.1)

      order_enough : (js : List Share) → Rest js
      order_enough [] d most over us x o l e = forked_well most (record { dyn = with_turns most d; how = cond over (Err Spent) (Ok (gave.Numbers us)) }) x (how over, omega arith, l, o) e where
        how : (v : Bool) → HowWell reduces (cond v (Err Spent) (Ok (gave.Numbers us)))
        how true = tt
        how false = tt
      order_enough (j ∷ js) d most over us x o l e = went_enough js (λ d m v us x o l e. order_enough js d m v us x o l e) most over us (with_turns p.state.turns d) j x refl o l (goes limit c n (On (begins (with_turns p.state.turns d) j))) refl e

      -- the path goes on with the answer
      abbrev goes_with : Gave → Dyn → State
      goes_with a d = resumed c a (with_dyn c d p.state)

      again : (d : Dyn) → StandsForked c (Site low) q.site (with_dyn c d p.state)
      again d = record { spot = g.0.spot; at = g.0.at; here = g.0.here; height = g.0.height; calm = g.0.calm; nest = g.0.nest; within = g.0.within; chain = g.0.chain }

      is_answer : (a : Gave) → OfKind inner.kind a → IsAnswer c (slice_get c.instrs p.state.pc) a
      is_answer a h = subst (λ o. IsAnswer c o a) (sym g.0.here) (of_kind (slice_get c.sites q.site) at) where
        of_kind : (o : Option CodeSite) → o ≡ Some inner → IsSomeAnd o (λ s. OfKind s.kind a)
        of_kind o e = subst (λ o. IsSomeAnd o (λ s. OfKind s.kind a)) (sym e) h

      -- it is nearer to its end
      nearer_on : (s t : State) → s.pc ≡ p.state.pc → s.raising ≡ None → s.waiting ≡ p.state.waiting → p.state.turns ≤ s.turns → t.pc ≡ s.pc + 1 → t.raising ≡ s.raising → t.waiting ≡ s.waiting → t.turns ≡ s.turns → t.rounds ≡ p.state.rounds → rank c limit t < rank c limit p.state
      nearer_on s t a b w l pc raising waiting turns rounds =
          let n = wait_most (slice_get c.instrs t.pc) (cost c.instrs + 1) in
          let v : way c t.raising t.pc ≡ 2 * (wait (slice_get c.instrs t.pc) (cost c.instrs + 1) + cost_from c t.pc) + 1 = ap (λ o. way c o t.pc) (raising ∙ b) in
          rank_less p.state t (omega (arith, turns, l)) (omega (arith, ap length (waiting ∙ w))) (omega (arith, v, here_way, n, passed t.pc (omega (arith, pc, a)))) (omega (arith, ap (cost_of_rounds c) rounds, ap (cost_of_waiting c) (waiting ∙ w)))

      resumed_less : (a : Gave) → OfKind inner.kind a → (d : Dyn) → p.state.turns ≤ d.turns → (rank c limit (goes_with a d) < rank c limit p.state) × ((goes_with a d).turns ≡ d.turns)
      resumed_less a h d l = subst (λ o. (rank c limit (after o a (with_dyn c d p.state)) < rank c limit p.state) × ((after o a (with_dyn c d p.state)).turns ≡ d.turns)) (sym g.0.here) (by_gave a h) where
        by_gave : (a : Gave) → OfKind inner.kind a → (rank c limit (answered_fork a (record (with_dyn c d p.state) { kept = [] })) < rank c limit p.state) × ((answered_fork a (record (with_dyn c d p.state) { kept = [] })).turns ≡ d.turns)
        by_gave gave.Nothing h = (nearer_on (with_dyn c d p.state) (answered_fork gave.Nothing (record (with_dyn c d p.state) { kept = [] })) refl g.0.calm refl l refl refl refl refl refl, refl)
        by_gave (gave.Numbers []) h = absurd h
        by_gave (gave.Numbers (v ∷ vs)) h = (nearer_on (with_dyn c d p.state) (answered_fork (gave.Numbers (v ∷ vs)) (record (with_dyn c d p.state) { kept = [] })) refl g.0.calm refl l refl refl refl refl refl, refl)
        by_gave (gave.Left (Raises x)) h = (rank_less p.state (record (with_dyn c d p.state) { kept = []; raising = Some x }) l (omega arith) (omega (arith, here_way)) (omega arith), refl)
        by_gave (gave.Left (Exits m)) h = (nearer_on (with_dyn c d p.state) (answered_fork (gave.Left (Exits m)) (record (with_dyn c d p.state) { kept = [] })) refl g.0.calm refl l refl refl refl refl refl, refl)
        by_gave (gave.Left (Returns None)) h = (nearer_on (with_dyn c d p.state) (answered_fork (gave.Left (Returns None)) (record (with_dyn c d p.state) { kept = [] })) refl g.0.calm refl l refl refl refl refl refl, refl)
        by_gave (gave.Left (Returns (Some v))) h = (nearer_on (with_dyn c d p.state) (answered_fork (gave.Left (Returns (Some v))) (record (with_dyn c d p.state) { kept = [] })) refl g.0.calm refl l refl refl refl refl refl, refl)

      good_end : (b : Bool) (h : Result Gave Stop) (d : Dyn) → HowWell reduces h → p.state.turns ≤ d.turns → d.turns ≤ limit → d.world.notes ≡ InOrder → Good low b r (fork_end c (with_answer c (answer_of c inner.kind q) h) d p.state)
      good_end b (Ok a) d w l t o =
          let k = answer_kind c inner.kind q a w in
          let less = resumed_less (answer_of c inner.kind q a) k d l in
          (fork_stands c (Site low) valid q.site (with_dyn c d p.state) (answer_of c inner.kind q a) (again d) (is_answer (answer_of c inner.kind q a) k), omega (arith, less.1, t), omega (arith, less.0, g.2), o)
      good_end b (Err x) d w l t o = (stops_well b x w, omega (arith, t, clip_turns p.state.waiting d))

      abbrev shares : List Share
      shares = deal 0 0 (sizes_for p.world.plan inner.kind q)

      fork_is : (run : Step → Option Final) → fork c run q p ≡ answering c (answer_of c inner.kind q) (lined run shares (raw_of p.state p.world) p.state.turns false [])
      fork_is run =
          ap (λ s. at_site c s run q p) at
          ∙ ap (λ s. answering c (answer_of c inner.kind q) (by_notes run (λ d j. begins d j) top s shares (raw_of p.state p.world))) g.3

      fork_goes : (site : CodeSite) → slice_get c.sites low ≡ Some site → (e : Final) → after_fork limit c (fork c (goes limit c n) q p) p (goes limit c n) ≡ Some e →
          (after_fork limit c (fork c (silently limit c r) q p) p (silently limit c r) ≡ Some e) × EndsWell (is_reduction site.kind) e
      fork_goes site is e eq = by_threads (lined (goes limit c n) shares (raw_of p.state p.world) p.state.turns false []) refl (subst (λ z. after_fork limit c z p (goes limit c n) ≡ Some e) (fork_is (goes limit c n)) eq) where
        by_threads : (z : Option Forked) → lined (goes limit c n) shares (raw_of p.state p.world) p.state.turns false [] ≡ z → after_fork limit c (answering c (answer_of c inner.kind q) z) p (goes limit c n) ≡ Some e →
            (after_fork limit c (fork c (silently limit c r) q p) p (silently limit c r) ≡ Some e) × EndsWell (is_reduction site.kind) e
        by_threads None came ends = absurd (none_some ends)
        by_threads (Some x) came ends =
            let w = order_enough shares (raw_of p.state p.world) p.state.turns false [] x g.3 g.1 came in
            let h = ih low site is r (fork_end c (with_answer c (answer_of c inner.kind q) x.how) x.dyn p.state) e (good_end (is_reduction site.kind) x.how x.dyn w.1.0 w.1.1 w.1.2 w.1.3) ends in (
              ap (λ z. after_fork limit c z p (silently limit c r)) (fork_is (silently limit c r) ∙ ap (answering c (answer_of c inner.kind q)) w.0) ∙ h.0,
              h.1,
            )

    -- ---- all steps
    all_enough : (n : ℕ) → Enough n
    all_enough zero k site at r (Off f) e g is = off_enough k (is_reduction site.kind) r f e g is
    all_enough zero k site at r (On p) e g is = absurd (none_some is)
    all_enough zero k site at r (Forks q p) e g is = absurd (none_some is)
    all_enough (suc n) k site at r (Off f) e g is = off_enough k (is_reduction site.kind) r f e g is
    all_enough (suc n) k site at zero (On p) e g is = absurd (omega (arith, g.2))
    all_enough (suc n) k site at (suc r) (On p) e g is = step_enough n (all_enough n) k site at r p e g (step limit c p.state) refl is
    all_enough (suc n) k site at zero (Forks q p) e g is = absurd (omega (arith, g.2))
    all_enough (suc n) k site at (suc r) (Forks q p) e g is =
        let i = has_one (slice_get c.sites q.site) _ (fine c (Site k) valid p.state.pc _ g.0.spot g.0.here g.0.at).belongs in
        fork_goes n (all_enough n) r k q p i.0 i.1 g site at e is

    way_short : (o : Option Reason) (pc : ℕ) → way c o pc < 4 * cost c.instrs + 4
    way_short None pc = let w = wait_most (slice_get c.instrs pc) (cost c.instrs + 1) in let l : cost_from c pc ≤ cost c.instrs = cost_later c.instrs 0 pc (omega arith) in omega (arith, w, l)
    way_short (Some r) pc = let l : cost_from c pc ≤ cost c.instrs = cost_later c.instrs 0 pc (omega arith) in omega (arith, l)

    -- a thread that begins there
    pub begun_enough : (k : ℕ) (site : CodeSite) → slice_get c.sites k ≡ Some site → (p : Path) (e : Final) → Stands c (Site k) p.state → p.state.waiting ≡ [] → p.state.rounds ≡ [] → p.state.turns ≤ limit → p.world.notes ≡ InOrder → Finally limit c (On p) e → silently limit c (enough limit c) (On p) ≡ Some e
    begun_enough k site at p e h w v t o f =
        let s = way_short p.state.raising p.state.pc in
        let m : (2 * (limit - p.state.turns) + length p.state.waiting) * (4 * cost c.instrs + 4) ≤ (2 * limit) * (4 * cost c.instrs + 4) = mul-le-mul_right (4 * cost c.instrs + 4) (omega (arith, ap length w)) in
        let all : (2 * limit + 1) * (4 * cost c.instrs + 4) ≡ (2 * limit) * (4 * cost c.instrs + 4) + (4 * cost c.instrs + 4) = grind arith in
        (all_enough f.0 k site at (enough limit c) (On p) e (h, t, omega (arith, s, m, all, ap (cost_of_rounds c) v, ap (cost_of_waiting c) w), o) f.1).0
