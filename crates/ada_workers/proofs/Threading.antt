-- Frames on a view, and threads in order.
use mathlib.Core.Path.{Path}
use Rattle.std.proofs.Common.{◌≡◌, ◌≢◌, ℕ, zero, suc, ◌+◌, ◌-◌, ◌^◌, ◌<◌, ◌≤◌, inl, inr, ℤ, pos, false, List, [], ◌∷◌, ◌++◌, map, length, get_or, set, take, Some, None, arith, refl, sym, ◌∙◌, ap, subst, length-append, append_assoc, length-take-le}
use Rattle.std.specs.Prelude.{replicate}
use Rattle.std.proofs.lemmas.List.{length-map, length-replicate, get_or_append_left, get_or-append_right, get_or-take}
use Rattle.std.proofs.lemmas.Bool.{cases_lt}
use Rattle.ada_base.specs.Cells.{Cell, Gone, Mine}
use Rattle.cell_memory.specs.Sight.{Sight, is_gone, stored, pushed, popped, OwnThere, lower_length}
use Rattle.ada_workers.specs.Paths.{Ending, AtEnd, Left, Spent, Cut, Stuck, Outcome, Runs, SamePlace, Went}
use Rattle.ada_workers.specs.Orders.{Start}
use Rattle.ada_workers.specs.Joins.{starts_of, regions_of}
use Rattle.ada_workers.specs.Threads.{SameView, StaysOn, extend, frame_values, begin_of, begins_of, areas_of, state_of, told, unbegun, Order, before, alone, ordered, FramesFit, Entered, Leaves, Leaving}
use Rattle.ada_workers.specs.declared.path.Stop.{Stop}
use Rattle.ada_workers.specs.declared.path.Stop.TheVariants as stop
use Rattle.ada_workers.specs.declared.tasks.State.TheVariants as state
use Rattle.ada_workers.specs.declared.construct.Over.{Over}
use Rattle.ada_workers.specs.declared.construct.Job.{Job}
use Rattle.ada_workers.specs.declared.threads.Frame.{Frame}
use Rattle.ada_workers.specs.declared.threads.Thread.{Thread}

set-append : {X : Type 0} (xs ys : List X) (i at : ℕ) (c : X) → at ≡ length xs + i → set (xs ++ ys) at c ≡ xs ++ set ys i c
set-append [] ys i at c e = ap (λ k. set ys k c) (omega (arith, e))
set-append (x ∷ xs) ys i zero c e = absurd (omega (arith, e))
set-append (x ∷ xs) ys i (suc at) c e = ap (λ l. x ∷ l) (set-append xs ys i at c (omega (arith, e)))

more_zeros : (n : ℕ) → replicate (n + 4) (Mine (pos 0)) ≡ Mine (pos 0) ∷ Mine (pos 0) ∷ Mine (pos 0) ∷ Mine (pos 0) ∷ replicate n (Mine (pos 0))
more_zeros n = let e : n + 4 ≡ suc (suc (suc (suc n))) = omega arith in ap (λ k. replicate k (Mine (pos 0))) e

map-zeros : (n : ℕ) → map Mine (replicate n (pos 0)) ≡ replicate n (Mine (pos 0))
map-zeros zero = refl
map-zeros (suc n) = ap (λ l. Mine (pos 0) ∷ l) (map-zeros n)

abbrev four : List Cell → ℕ → ℤ → ℤ → ℤ → ℤ → List Cell
four cs b u v w x = set (set (set (set cs b (Mine u)) (b + 1) (Mine v)) (b + 2) (Mine w)) (b + 3) (Mine x)

four_set : (cs : List Cell) (f : Frame) (b : ℕ) → b ≡ length cs → four (cs ++ replicate (f.more + 4) (Mine (pos 0))) b f.chunk f.initial f.first f.last ≡ cs ++ map Mine (frame_values f)
four_set cs f b e =
    ap (λ l. four (cs ++ l) b f.chunk f.initial f.first f.last) (more_zeros f.more)
    ∙ ap (λ l. set (set (set l (b + 1) (Mine f.initial)) (b + 2) (Mine f.first)) (b + 3) (Mine f.last)) (set-append cs _ 0 b (Mine f.chunk) (omega (arith, e)))
    ∙ ap (λ l. set (set l (b + 2) (Mine f.first)) (b + 3) (Mine f.last)) (set-append cs _ 1 (b + 1) (Mine f.initial) (omega (arith, e)))
    ∙ ap (λ l. set l (b + 3) (Mine f.last)) (set-append cs _ 2 (b + 2) (Mine f.first) (omega (arith, e)))
    ∙ set-append cs _ 3 (b + 3) (Mine f.last) (omega (arith, e))
    ∙ ap (λ l. cs ++ Mine f.chunk ∷ Mine f.initial ∷ Mine f.first ∷ Mine f.last ∷ l) (sym (map-zeros f.more))

own_mine : (own : List ℤ) (i : ℕ) → i < length own → is_gone (get_or (map Mine own) i Gone) ≡ false
own_mine [] i lt = absurd (omega (arith, lt))
own_mine (v ∷ own) zero lt = refl
own_mine (v ∷ own) (suc i) lt = own_mine own i (omega (arith, lt))

frame_long : (f : Frame) → length (frame_values f) ≡ f.more + 4
frame_long f = omega (arith, length-replicate f.more (pos 0))

pub entered : (s r t : Sight) (f : Frame) (b : ℕ) → b ≡ length s.cells → s.own ≤ length s.cells → OwnThere s → r.cells ≡ s.cells → r.own ≡ s.own → r.held ≡ s.held
    → t ≡ stored (stored (stored (stored (pushed r (f.more + 4)) b f.chunk) (b + 1) f.initial) (b + 2) f.first) (b + 3) f.last → Entered s f t
entered s r t f b e o there rc ro rh is =
    let cells : t.cells ≡ s.cells ++ map Mine (frame_values f) = ap (λ (v : Sight). v.cells) is ∙ ap (λ l. four (l ++ replicate (f.more + 4) (Mine (pos 0))) b f.chunk f.initial f.first f.last) rc ∙ four_set s.cells f b e in
    let own : t.own ≡ s.own + (f.more + 4) = ap (λ (v : Sight). v.own) is ∙ ap (λ n. n + (f.more + 4)) ro in
    let long : length t.cells ≡ length s.cells + (f.more + 4) = ap length cells ∙ length-append s.cells (map Mine (frame_values f)) ∙ omega (arith, length-map (frame_values f) Mine, frame_long f) in
    record {
      cells = cells;
      own = own;
      held = ap (λ (v : Sight). v.held) is ∙ rh;
      there = λ x le lt. ap (λ l. is_gone (get_or l x Gone)) cells ∙ elim (cases_lt x (length s.cells)) as (λ _. is_gone (get_or (s.cells ++ map Mine (frame_values f)) x Gone) ≡ false) [
        | inl h ↦ ap is_gone (get_or_append_left s.cells (map Mine (frame_values f)) Gone x h) ∙ there x (omega (arith, own, long, o)) h
        | inr h ↦ ap is_gone (get_or-append_right s.cells (map Mine (frame_values f)) (length s.cells) x Gone refl h) ∙ own_mine (frame_values f) (x - length s.cells) (omega (arith, long, frame_long f))
      ];
    }

pub leaving : (n : ℕ) (s t : Sight) → Leaves n s → s.own ≤ length s.cells → t ≡ popped s (length s.cells - n) → Leaving n s t
leaving n s t l o is =
    let e : length s.cells - (length s.cells - n) ≡ n = omega (arith, l.many) in
    let cells : t.cells ≡ take n s.cells = ap (λ (v : Sight). v.cells) is ∙ ap (λ k. take k s.cells) e in
    let own : t.own ≡ n - lower_length s = ap (λ (v : Sight). v.own) is ∙ omega (arith, l.own, l.many, o) in
    let long : length t.cells ≡ n = ap length cells ∙ length-take-le n s.cells l.many in
    record {
      cells = cells;
      own = own;
      held = ap (λ (v : Sight). v.held) is;
      there = λ x le lt. ap (λ c. is_gone (get_or c x Gone)) cells ∙ ap is_gone (get_or-take n s.cells x Gone (omega (arith, long))) ∙ l.there x (omega (arith, long, own, l.own, l.many, o)) (omega (arith, long, l.many));
    }

-- ---- threads made ready
module _ {P : Type 0} where
  pub fits_at : (xs : List (Thread P)) (t : Thread P) (ys : List (Thread P)) → FramesFit (xs ++ t ∷ ys) → t.frame.more + 4 < 2 ^ 32
  fits_at [] t ys a = a.0
  fits_at (x ∷ xs) t ys a = fits_at xs t ys a.1

  pub fits_in : (all xs rest : List (Thread P)) (t : Thread P) (ys : List (Thread P)) → FramesFit all → all ≡ xs ++ rest → rest ≡ t ∷ ys → t.frame.more + 4 < 2 ^ 32
  fits_in all xs rest t ys a e f = fits_at xs t ys (subst FramesFit (e ∙ ap (λ l. xs ++ l) f) a)

  pub starts_snoc : (js : List (Job P)) (ts : List (Thread P)) (j : Job P) (t : Thread P) → starts_of js ≡ begins_of ts → j.path ≡ t.path → j.own.values ≡ frame_values t.frame → starts_of (js ++ j ∷ []) ≡ begins_of (ts ++ t ∷ [])
  starts_snoc js ts j t e p o = front js ∙ ap (λ l. l ++ record { path = j.path; own = j.own.values } ∷ []) e ∙ (λ i. begins_of ts ++ record { path = p i; own = o i } ∷ []) ∙ sym (back ts) where
    front : (js : List (Job P)) → starts_of (js ++ j ∷ []) ≡ starts_of js ++ record { path = j.path; own = j.own.values } ∷ []
    front [] = refl
    front (i ∷ js) = ap (λ l. record { path = i.path; own = i.own.values } ∷ l) (front js)

    back : (ts : List (Thread P)) → begins_of (ts ++ t ∷ []) ≡ begins_of ts ++ begin_of t ∷ []
    back [] = refl
    back (u ∷ ts) = ap (λ l. begin_of u ∷ l) (back ts)

  pub regions_snoc : (js : List (Job P)) (ts : List (Thread P)) (j : Job P) (t : Thread P) → regions_of js ≡ areas_of ts → j.regions ≡ t.regions → regions_of (js ++ j ∷ []) ≡ areas_of (ts ++ t ∷ [])
  regions_snoc js ts j t e r = front js ∙ ap (λ l. l ++ j.regions.items ∷ []) e ∙ (λ i. areas_of ts ++ (r i).items ∷ []) ∙ sym (back ts) where
    front : (js : List (Job P)) → regions_of (js ++ j ∷ []) ≡ regions_of js ++ j.regions.items ∷ []
    front [] = refl
    front (i ∷ js) = ap (λ l. i.regions.items ∷ l) (front js)

    back : (ts : List (Thread P)) → areas_of (ts ++ t ∷ []) ≡ areas_of ts ++ t.regions.items ∷ []
    back [] = refl
    back (u ∷ ts) = ap (λ l. u.regions.items ∷ l) (back ts)

-- ---- one thread on the view itself
pub stays_on : (s e g l : Sight) (f : Frame) → s.own ≤ length s.cells → Entered s f e → SamePlace e g → Leaving (length s.cells) g l → StaysOn s l
stays_on s e g l f o a b c =
    let long : length e.cells ≡ length s.cells + (f.more + 4) = ap length a.cells ∙ length-append s.cells (map Mine (frame_values f)) ∙ omega (arith, length-map (frame_values f) Mine, frame_long f) in
    record {
      held = c.held ∙ b.held ∙ a.held;
      own = c.own ∙ omega (arith, b.lower, a.own, long, o);
      many = ap length c.cells ∙ length-take-le (length s.cells) g.cells (omega (arith, long, b.long));
      there = c.there;
    }

pub stays_out : (s t : Sight) → OwnThere s → SameView s t → StaysOn s t
stays_out s t there v =
    record {
      held = v.held;
      own = v.own;
      many = ap length v.cells;
      there = λ x le lt. ap (λ l. is_gone (get_or l x Gone)) v.cells ∙ there x (omega (arith, v.own, ap length v.cells, le)) (omega (arith, ap length v.cells, lt));
    }

pub may_leave : (s e g : Sight) (f : Frame) → s.own ≤ length s.cells → Entered s f e → SamePlace e g → Leaves (length s.cells) g
may_leave s e g f o a b =
    let long : length e.cells ≡ length s.cells + (f.more + 4) = ap length a.cells ∙ length-append s.cells (map Mine (frame_values f)) ∙ omega (arith, length-map (frame_values f) Mine, frame_long f) in
    record { many = omega (arith, long, b.long); own = omega (arith, b.lower, a.own, long, o); there = b.there }

module _ {P : Type 0} (runs : Runs P) where
  pub one_over : (s : Start P) (cs vs ds es : List Cell) (q : P) (e : Ending) (n : ℕ) → vs ≡ cs ++ map Mine s.own → runs s.path None vs ≡ record { path = q; cells = ds; end = e } → es ≡ take n ds → n ≡ length cs
      → Path (Over P) (record { path = q; state = state_of e }) (told (alone runs s cs)) × (es ≡ take (length cs) (alone runs s cs).cells)
  one_over s cs vs ds es q e n v is t long =
      let a : record { path = q; cells = ds; end = e } ≡ alone runs s cs = sym is ∙ ap (λ l. runs s.path None l) v in
      (ap (λ (o : Outcome P). told o) a, t ∙ (λ i. take (long i) ((a i).cells)))

  -- the same of how a path stopped that nothing asked to stop
  pub over_of_stop : (s : Start P) (cs vs ds es : List Cell) (q : P) (st : Stop) (n : ℕ) → (st ≡ stop.NoMemory → ⊥) → ((k : ℕ) → st ≡ stop.Paused k → ⊥) → vs ≡ cs ++ map Mine s.own → Went runs s.path vs st q ds
      → es ≡ take n ds → n ≡ length cs → Path (Over P) (record { path = q; state = state.Stopped st }) (told (alone runs s cs)) × (es ≡ take (length cs) (alone runs s cs).cells)
  over_of_stop s cs vs ds es q stop.Ended n ne np v w t long = one_over s cs vs ds es q AtEnd n v w t long
  over_of_stop s cs vs ds es q stop.Gone n ne np v w t long = one_over s cs vs ds es q Left n v w t long
  over_of_stop s cs vs ds es q stop.Spent n ne np v w t long = one_over s cs vs ds es q Spent n v w t long
  over_of_stop s cs vs ds es q (stop.Paused k) n ne np v w t long = absurd (np k refl)
  over_of_stop s cs vs ds es q stop.NoMemory n ne np v w t long = absurd (ne refl)

  left_only : (e : Ending) → state_of e ≡ state.Stopped stop.Gone → e ≡ Left
  left_only AtEnd h = cc
  left_only Left h = refl
  left_only Spent h = cc
  left_only Cut h = cc
  left_only Stuck h = cc

  -- a thread that didn't leave, and the others
  pub order_on : (s : Start P) (ss : List (Start P)) (k : ℕ) (cs : List Cell) → state_of (alone runs s cs).end ≢ state.Stopped stop.Gone
      → ordered runs (s ∷ ss) k cs ≡ before (told (alone runs s cs)) (ordered runs ss (suc k) (take (length cs) (alone runs s cs).cells))
  order_on s ss k cs ne = by_end (alone runs s cs).end ne where
    more : Order P
    more = before (told (alone runs s cs)) (ordered runs ss (suc k) (take (length cs) (alone runs s cs).cells))

    by_end : (e : Ending) → state_of e ≢ state.Stopped stop.Gone
        → elim e as (λ _. Order P) [
          | Left ↦ record { overs = told (alone runs s cs) ∷ unbegun ss; chosen = Some k; cells = take (length cs) (alone runs s cs).cells }
          | AtEnd ↦ before (told (alone runs s cs)) (ordered runs ss (suc k) (take (length cs) (alone runs s cs).cells))
          | Spent ↦ before (told (alone runs s cs)) (ordered runs ss (suc k) (take (length cs) (alone runs s cs).cells))
          | Cut ↦ before (told (alone runs s cs)) (ordered runs ss (suc k) (take (length cs) (alone runs s cs).cells))
          | Stuck ↦ before (told (alone runs s cs)) (ordered runs ss (suc k) (take (length cs) (alone runs s cs).cells))
        ]
        ≡ before (told (alone runs s cs)) (ordered runs ss (suc k) (take (length cs) (alone runs s cs).cells))
    by_end AtEnd h = refl
    by_end Left h = absurd (h refl)
    by_end Spent h = refl
    by_end Cut h = refl
    by_end Stuck h = refl

  -- the loop's step
  pub order_more : (all : Order P) (s : Start P) (ss : List (Start P)) (k : ℕ) (cs ds : List Cell) (os ps : List (Over P)) (o : Over P)
      → extend os (ordered runs (s ∷ ss) k cs) ≡ all → o ≡ told (alone runs s cs) → ds ≡ take (length cs) (alone runs s cs).cells → o.state ≢ state.Stopped stop.Gone → ps ≡ os ++ o ∷ []
      → extend ps (ordered runs ss (k + 1) ds) ≡ all
  order_more all s ss k cs ds os ps o e is d ne p =
      let up : k + 1 ≡ suc k = omega arith in
      (λ i. extend ((p ∙ ap (λ (z : Over P). os ++ z ∷ []) is) i) (ordered runs ss (up i) (d i)))
      ∙ (λ i. record { overs = append_assoc os (told (alone runs s cs) ∷ []) (ordered runs ss (suc k) (take (length cs) (alone runs s cs).cells)).overs i; chosen = (ordered runs ss (suc k) (take (length cs) (alone runs s cs).cells)).chosen; cells = (ordered runs ss (suc k) (take (length cs) (alone runs s cs).cells)).cells })
      ∙ ap (extend os) (sym (order_on s ss k cs (λ h. ne (ap (λ (z : Over P). z.state) is ∙ h)))) ∙ e

  order_off : (s : Start P) (ss : List (Start P)) (k : ℕ) (cs : List Cell) → state_of (alone runs s cs).end ≡ state.Stopped stop.Gone
      → Path (Order P) (ordered runs (s ∷ ss) k cs) (record { overs = told (alone runs s cs) ∷ unbegun ss; chosen = Some k; cells = take (length cs) (alone runs s cs).cells })
  order_off s ss k cs h = λ i.
      elim (left_only (alone runs s cs).end h i) as (λ _. Order P) [
        | Left ↦ record { overs = told (alone runs s cs) ∷ unbegun ss; chosen = Some k; cells = take (length cs) (alone runs s cs).cells }
        | AtEnd ↦ before (told (alone runs s cs)) (ordered runs ss (suc k) (take (length cs) (alone runs s cs).cells))
        | Spent ↦ before (told (alone runs s cs)) (ordered runs ss (suc k) (take (length cs) (alone runs s cs).cells))
        | Cut ↦ before (told (alone runs s cs)) (ordered runs ss (suc k) (take (length cs) (alone runs s cs).cells))
        | Stuck ↦ before (told (alone runs s cs)) (ordered runs ss (suc k) (take (length cs) (alone runs s cs).cells))
      ]

  -- the loop's end by a thread that left
  pub order_left : (all : Order P) (s : Start P) (ss : List (Start P)) (k : ℕ) (cs ds : List Cell) (os ps ws : List (Over P)) (o : Over P)
      → extend os (ordered runs (s ∷ ss) k cs) ≡ all → o ≡ told (alone runs s cs) → ds ≡ take (length cs) (alone runs s cs).cells → o.state ≡ state.Stopped stop.Gone → ps ≡ os ++ o ∷ [] → ws ≡ ps ++ unbegun ss
      → Path (Order P) (record { overs = ws; chosen = Some k; cells = ds }) all
  order_left all s ss k cs ds os ps ws o e is d gone p w =
      (λ i. record { overs = (w ∙ ap (λ (l : List (Over P)). l ++ unbegun ss) (p ∙ ap (λ (z : Over P). os ++ z ∷ []) is) ∙ append_assoc os (told (alone runs s cs) ∷ []) (unbegun ss)) i; chosen = Some k; cells = d i })
      ∙ ap (extend os) (sym (order_off s ss k cs (sym (ap (λ (z : Over P). z.state) is) ∙ gone))) ∙ e

pub stays_trans : (s t u : Sight) → StaysOn s t → StaysOn t u → StaysOn s u
stays_trans s t u a b = record { held = b.held ∙ a.held; own = b.own ∙ a.own; many = b.many ∙ a.many; there = b.there }
