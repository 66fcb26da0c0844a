-- A construct inside a thread, by what its threads came to.
use Rattle.std.proofs.Common.{◌≡◌, ℕ, zero, suc, ◌+◌, ◌<◌, ◌≤◌, ℤ, Bool, false, List, [], length, get_or, slice_get, Option, Some, None, Result, Ok, Err, arith, refl, sym, ◌∙◌, ap, subst}
use Rattle.std.specs.Prelude.{IsSomeAnd, min, ◌^◌, ◌-◌}
use Rattle.std.proofs.lemmas.Option.{get_or_from_slice_get}
use Rattle.ada_base.specs.Cells.{Cell}
use Rattle.ada_base.specs.Cuts.{Plan, cuts_of}
use Rattle.behaviours.specs.Joins.{Share, deal}
use Rattle.stack_code.specs.declared.code.Around.{Around}
use Rattle.stack_code.specs.declared.code.Code.{Code}
use Rattle.stack_code.specs.declared.code.CodeSite.{CodeSite}
use Rattle.stack_code.specs.declared.path.Asked.{Asked}
use Rattle.stack_code.specs.declared.path.Gave.{Gave}
use Rattle.stack_code.specs.declared.path.Gave.TheVariants as gave
use Rattle.stack_code.specs.declared.path.Leave.{Leave}
use Rattle.stack_code.specs.declared.code.SiteKind.{SiteKind}
use Rattle.stack_code.specs.declared.code.SiteKind.TheVariants as kind
use Rattle.stack_code.specs.Answers.{IsAnswer, OfKind}
use Rattle.stack_code.specs.Machine.{State, Stop, Spent, Cut, resumed}
use Rattle.stack_code.specs.Operands.{is_reduction}
use Rattle.stack_code.specs.Stands.{Forked as StandsForked}
use Rattle.stack_code.specs.Valid.{Has, IsValid}
use Rattle.ada_lower.specs.Driven.{Dyn, On, Off, Forked, Path, sizes_for, thread_at, answer_of, with_answer, fork_ended, off}
use Rattle.ada_lower.proofs.ForkFuel.{in_order_more}
use Rattle.ada_machine.specs.States.{state_of, frames_of, more}
use Rattle.ada_machine.specs.declared.machine.Machine.{Machine}
use Rattle.machine_paths.specs.Hushed.{GaveWell}
use Rattle.machine_paths.specs.Silent.{silently, Quietly, Leads, Orders}
use Rattle.machine_paths.specs.Threads.{ThreadPath, quiet}
use Rattle.machine_paths.proofs.Hushes.{begun_stands, answer_kind}
use Rattle.machine_paths.proofs.Leading.{fork_leads}
use Rattle.machine_paths.proofs.Worlds.{silently_by}
use Rattle.ada_threads.specs.Answers.{Answers, IsPathAt, inner_path}
use Rattle.ada_threads.specs.Came.{at_fork, ForkedTo, ForkRan, dyn, joined, EndTo, EndWell, OfBody, Order, OrderRan, IsFineOrder}
use Rattle.ada_threads.specs.Going.{ahead, stands, final, clipped, IsFine}
use Rattle.ada_threads.specs.declared.way.End.{End}
use Rattle.ada_threads.specs.declared.way.End.TheVariants as end
use Rattle.ada_threads.specs.declared.way.Joined.{Joined}
use Rattle.ada_threads.specs.declared.way.Way.{Way}
use Rattle.ada_threads.specs.declared.way.Way.TheVariants as way
use Rattle.ada_threads.proofs.Clipping.{clip_is}
use Rattle.ada_threads.proofs.Onward.{onward_fork, fine_how}
use Rattle.ada_threads.proofs.Resuming.{resumed_same}

-- ---- looks
pub sat : (a b k : ℕ) → a < 2 ^ 64 → b ≡ more 0 k → min (a + b) (2 ^ 64 - 1) ≡ more a k
sat a b zero lt e = (let z : min (a + 0) (2 ^ 64 - 1) ≡ a = omega (arith, lt) in ap (λ n. min (a + n) (2 ^ 64 - 1)) e ∙ z)
sat a b (suc k) lt e = ap (λ n. min (a + n) (2 ^ 64 - 1)) e ∙ (let z : min (a + min (0 + suc k) (2 ^ 64 - 1)) (2 ^ 64 - 1) ≡ min (a + suc k) (2 ^ 64 - 1) = omega arith in z)

-- ---- threads in order come to one thing
some_is : (x y : Forked) → Some x ≡ Some y → x ≡ y
some_is x y e = cc

pub orders_same : (limit : ℕ) (c : Code) (start : Dyn → Share → Path) (top from : ℕ) (js : List Share) (d : Dyn) (most : ℕ) (over : Bool) (us : List ℤ) (r s : Forked) → Orders limit c start top from js d most over us r → Orders limit c start top from js d most over us s → r ≡ s
orders_same limit c start top from js d most over us r s h g =
    let n = h.0 + g.0 in
    some_is r s (sym (in_order_more (silently limit c h.0) (silently limit c n) (λ x f e. silently_by limit c h.0 n x f (omega arith) e) start top from js d most over us r h.1)
    ∙ in_order_more (silently limit c g.0) (silently limit c n) (λ x f e. silently_by limit c g.0 n x f (omega arith) e) start top from js d most over us s g.1)

pub still : (c : Code) (k : SiteKind) (q : Asked) (e : Leave) → answer_of c k q (gave.Left e) ≡ gave.Left e
still c kind.Loop q e = refl
still c kind.ChunkLoop q e = refl
still c (kind.Block n) q e = refl
still c (kind.Reduction r) q e = refl
still c (kind.ChunkReduction r) q e = refl

-- it came to nothing
pub fork_short : (limit : ℕ) (c : Code) (plan : Plan) (q : Asked) (m : Machine) (cells : List Cell) → m.turns ≤ limit → ForkRan limit c plan q (Err way.NoMemory) m cells m cells
fork_short limit c plan q m cells le = record { looks = 0; counted = refl; machine = refl; long = refl; within = le; to = (tt, tt) }

pub paused_end : (k : SiteKind) (z : ℤ) (e : End) → Answers k z e (Err way.Paused) → e ≡ end.Paused
paused_end k z (end.Values vs) a = cc
paused_end k z (end.Left l) a = absurd a
paused_end k z end.Spent a = cc
paused_end k z end.Paused a = refl
paused_end k z end.NoMemory a = cc

-- the path of the threads, by the site that a table has there
pub path_at : (limit : ℕ) (c : Code) (plan : Plan) (base n k : ℕ) (s : State) (p : ThreadPath) → IsPathAt limit c plan base k s p → base ≡ n → (sites : List CodeSite) → sites ≡ c.sites → (x : CodeSite) → x ≡ get_or sites k x → (slice_get c.sites k ≡ Some x) × (p ≡ inner_path limit c plan n x s)
path_at limit c plan base n k s p h b sites same x is =
    let e = is ∙ ap (λ l. get_or l k x) same ∙ get_or_from_slice_get c.sites k h.0 x h.1 in (h.1 ∙ ap Some (sym e), h.2 ∙ ap (λ y. inner_path limit c plan base y s) (sym e) ∙ ap (λ n. inner_path limit c plan n x s) b)

-- ---- the machine's path at a fork
module _ (limit : ℕ) (c : Code) (plan : Plan) (q : Asked) (m : Machine) (cells : List Cell) (site : CodeSite) (at : slice_get c.sites q.site ≡ Some site) where
  abbrev s : State
  s = state_of m cells

  abbrev pub p : ThreadPath
  p = inner_path limit c plan (length cells) site (state_of m [])

  abbrev pub js : List Share
  js = deal 0 0 (sizes_for (cuts_of plan) site.kind q)

  abbrev Came : Option ℕ → Forked → Type 0
  Came = λ l r. Order p site.frame q js (dyn plan cells p.turns l) p.turns false [] r

  leads_to : (l : Option ℕ) (r : Forked) → Came l r → Leads limit c (at_fork plan q s l) (fork_ended c (record { dyn = r.dyn; how = with_answer c (answer_of c site.kind q) r.how }) (stands plan s l))
  leads_to l r h = fork_leads limit c q (stands plan s l) site r at refl h

  -- they come to something that isn't stuck, where the path does
  pub order_fine : IsFine limit c (at_fork plan q s None) → IsFineOrder p site.frame q js (dyn plan cells p.turns None) p.turns false []
  order_fine f = let o = onward_fork limit c plan q s site f.0 at f.1 in (o.0, o.1, fine_how limit c o.0.how (answer_of c site.kind q) o.0.dyn (stands plan s None) f.0 f.2 o.2)

  pub order_fine_so : IsFine limit c (at_fork plan q s None) → (p' : ThreadPath) → p' ≡ p → (sizes : List ℕ) → sizes ≡ sizes_for (cuts_of plan) site.kind q → IsFineOrder p' site.frame q (deal 0 0 sizes) (dyn p'.plan cells p'.turns None) p'.turns false []
  order_fine_so f p' is sizes cut =
      subst (λ (r : ThreadPath). IsFineOrder r site.frame q (deal 0 0 sizes) (dyn r.plan cells r.turns None) r.turns false []) (sym is)
      (subst (λ sizes. IsFineOrder p site.frame q (deal 0 0 sizes) (dyn plan cells p.turns None) p.turns false []) (sym cut) (order_fine f))

  module _ (turns looks : ℕ) (cells' : List Cell) where
    abbrev m' : Machine
    m' = record m { turns = turns; looks = looks }

    gives_is : (g : Gave) (l l' : Option ℕ) → fork_ended c (record { dyn = dyn plan cells' turns l; how = Ok g }) (stands plan s l') ≡ On (stands plan (resumed c g (state_of m' cells')) l)
    gives_is g l l' = ap (λ (t : State). On (record { state = t; world = quiet plan })) (resumed_same c g l (state_of m' cells')).0

    stops_is : (x : Stop) (l l' : Option ℕ) → fork_ended c (record { dyn = dyn plan cells' turns l; how = Err x }) (stands plan s l') ≡ Off (final plan x (clipped (frames_of m.waiting.items) cells') turns l)
    stops_is x l l' = ap (λ (d : Dyn). off x d) (clip_is (frames_of m.waiting.items) (dyn plan cells' turns l))

    gives : (g : Gave) (k : ℕ) → ((l : Option ℕ) → Came (ahead k l) (joined plan cells' turns (Ok g) l)) → (l : Option ℕ) → Leads limit c (at_fork plan q s (ahead k l)) (On (stands plan (resumed c (answer_of c site.kind q g) (state_of m' cells')) l))
    gives g k h l = subst (λ y. Leads limit c (at_fork plan q s (ahead k l)) y) (gives_is (answer_of c site.kind q g) l (ahead k l)) (leads_to (ahead k l) (joined plan cells' turns (Ok g) l) (h l))

    stops_so : (x : Stop) (l l' : Option ℕ) → Came l' (joined plan cells' turns (Err x) l) → Quietly limit c (at_fork plan q s l') (final plan x (clipped (frames_of m.waiting.items) cells') turns l)
    stops_so x l l' h = leads_to l' (joined plan cells' turns (Err x) l) h (final plan x (clipped (frames_of m.waiting.items) cells') turns l)
        (subst (λ y. Quietly limit c y (final plan x (clipped (frames_of m.waiting.items) cells') turns l)) (sym (stops_is x l l')) (0, refl))

    -- it goes on to an end that isn't stuck
    gives_fine : IsFine limit c (at_fork plan q s None) → (g : Gave) → Came None (joined plan cells' turns (Ok g) None) → IsFine limit c (On (stands plan (resumed c (answer_of c site.kind q g) (state_of m' cells')) None))
    gives_fine f g h =
        let o = onward_fork limit c plan q s site f.0 at f.1 in
        let r = joined plan cells' turns (Ok g) None in
        let e = orders_same limit c (thread_at c (length cells) site q (stands plan s None)) (length cells) s.turns js (dyn plan cells p.turns None) s.turns false [] o.0 r o.1 h in (
          f.0,
          subst (λ y. Quietly limit c y f.0) (gives_is (answer_of c site.kind q g) None None)
              (subst (λ (r : Forked). Quietly limit c (fork_ended c (record { dyn = r.dyn; how = with_answer c (answer_of c site.kind q) r.how }) (stands plan s None)) f.0) e o.2),
          f.2,
        )

    module _ (valid : IsValid c) (low : Around) (here : StandsForked c low q.site s) where
      kind_of : (g : Gave) → GaveWell (is_reduction site.kind) g → IsAnswer c (slice_get c.instrs m.pc) (answer_of c site.kind q g)
      kind_of g w = subst (λ i. IsAnswer c i (answer_of c site.kind q g)) (sym here.here) (has (answer_kind c site.kind q g w)) where
        has : OfKind site.kind (answer_of c site.kind q g) → Has c.sites q.site (λ s. OfKind s.kind (answer_of c site.kind q g))
        has h = subst (λ o. IsSomeAnd o (λ s. OfKind s.kind (answer_of c site.kind q g))) (sym at) h

      of_body : (P : Bool → Type 0) → OfBody p P → P (is_reduction site.kind)
      of_body P h = h q.site site at (begun_stands c valid q.site site low s (length cells) s.turns s.calls s.nested None [] at here)

      -- the answer is one of the construct's kind
      pub fits : (e : End) → OfBody p (λ b. EndWell b e) → (g : Gave) → Answers site.kind q.initial e (Ok g) → IsAnswer c (slice_get c.instrs m.pc) g
      fits (end.Values vs) well g is = subst (IsAnswer c (slice_get c.instrs m.pc)) (sym (is c q refl)) (kind_of (gave.Numbers vs) tt)
      fits (end.Left e) well g is = subst (IsAnswer c (slice_get c.instrs m.pc)) (sym is)
          (subst (IsAnswer c (slice_get c.instrs m.pc)) (still c site.kind q e) (kind_of (gave.Left e) (of_body (λ b. EndWell b (end.Left e)) well)))
      fits end.Spent well g is = absurd is
      fits end.Paused well g is = absurd is
      fits end.NoMemory well g is = absurd is

      module _ (fine : IsFine limit c (at_fork plan q s None)) (k : ℕ) where
        answers : (e : End) (r : Result Gave Way) → EndTo plan Came e k cells' turns → OfBody p (λ b. EndWell b e) → Answers site.kind q.initial e r → ForkedTo limit c plan q r k m cells m' cells'
        answers (end.Values vs) (Ok g) to well is =
            subst (λ g. ForkedTo limit c plan q (Ok g) k m cells m' cells') (sym (is c q refl)) (gives (gave.Numbers vs) k to, gives_fine fine (gave.Numbers vs) (to None), kind_of (gave.Numbers vs) tt)
        answers (end.Left e) (Ok g) to well is =
            subst (λ g. ForkedTo limit c plan q (Ok g) k m cells m' cells') (sym is) (left e to well) where
              left : (e : Leave) → ((l : Option ℕ) → Came (ahead k l) (joined plan cells' turns (Ok (gave.Left e)) l)) → OfBody p (λ b. EndWell b (end.Left e)) → ForkedTo limit c plan q (Ok (gave.Left e)) k m cells m' cells'
              left e to well = subst (λ g. ForkedTo limit c plan q (Ok g) k m cells m' cells') (still c site.kind q e) (gives (gave.Left e) k to, gives_fine fine (gave.Left e) (to None), kind_of (gave.Left e) (of_body (λ b. EndWell b (end.Left e)) well))
        answers end.Spent (Err w) to well is = subst (λ w. ForkedTo limit c plan q (Err w) k m cells m' cells') (sym is) (tt, λ l. stops_so Spent l (ahead k l) (to l))
        answers end.Paused (Err w) to well is = subst (λ w. ForkedTo limit c plan q (Err w) k m cells m' cells') (sym is) (tt, stops_so Cut (Some 0) (Some k) to)
        answers end.NoMemory (Err w) to well is = subst (λ w. ForkedTo limit c plan q (Err w) k m cells m' cells') (sym is) (tt, tt)
        answers (end.Values vs) (Err w) to well is = subst (λ w. ForkedTo limit c plan q (Err w) k m cells m' cells') (sym is) (tt, tt)
        answers (end.Left e) (Err w) to well is = absurd is
        answers end.Spent (Ok g) to well is = absurd is
        answers end.Paused (Ok g) to well is = absurd is
        answers end.NoMemory (Ok g) to well is = absurd is

module _ (limit : ℕ) (c : Code) (plan : Plan) (q : Asked) (m m' : Machine) (cells cells' : List Cell) (site : CodeSite) (at : slice_get c.sites q.site ≡ Some site) (valid : IsValid c) (low : Around) (here : StandsForked c low q.site (state_of m cells)) where
  -- what the machine that stood at the fork came to
  pub fork_ran : IsFine limit c (at_fork plan q (state_of m cells) None) → (p' : ThreadPath) → p' ≡ p limit c plan q m cells site at → (sizes : List ℕ) → sizes ≡ sizes_for (cuts_of plan) site.kind q → (j : Joined) → OrderRan p' site.frame q (deal 0 0 sizes) j cells cells' →
      (r : Result Gave Way) → Answers site.kind q.initial j.end r → m.looks < 2 ^ 64 → m' ≡ record m { turns = j.turns; looks = min (m.looks + j.looks) (2 ^ 64 - 1) } → ForkRan limit c plan q r m cells m' cells'
  fork_ran fine p' is sizes cut j ran r answers' small same =
      subst (λ m'. ForkRan limit c plan q r m cells m' cells') (sym same) (by_path (subst (λ sizes. OrderRan (p limit c plan q m cells site at) site.frame q (deal 0 0 sizes) j cells cells') cut (subst (λ p. OrderRan p site.frame q (deal 0 0 sizes) j cells cells') is ran))) where
        by_path : OrderRan (p limit c plan q m cells site at) site.frame q (js limit c plan q m cells site at) j cells cells' → ForkRan limit c plan q r m cells (record m { turns = j.turns; looks = min (m.looks + j.looks) (2 ^ 64 - 1) }) cells'
        by_path ran = record {
          looks = ran.looks;
          counted = sat m.looks j.looks ran.looks small ran.counted;
          machine = refl;
          long = ran.long;
          within = ran.within;
          to = answers limit c plan q m cells site at j.turns (min (m.looks + j.looks) (2 ^ 64 - 1)) cells' valid low here fine ran.looks j.end r ran.to ran.well answers';
        }
