-- A thread's body, and a thread with its frame.
use Rattle.std.proofs.Common.{◌≡◌, ℕ, zero, suc, ◌+◌, ◌-◌, ◌<◌, ◌≤◌, pos, List, [], ◌∷◌, ◌++◌, map, length, take, get_or, Bool, false, slice_get, Option, Some, None, arith, refl, sym, ◌∙◌, ap, subst, length-append, length-take-le}
use Rattle.std.specs.Prelude.{◌^◌, ◌+ℤ◌, replicate}
use Rattle.std.specs.List.{range_with_len}
use Rattle.std.proofs.lemmas.List.FromFn.{length-map-range_with_len, get_or-map-range_with_len, fill_by_all}
use Rattle.std.proofs.lemmas.List.{length-map, length-replicate, get_or_append_left, get_or-take}
use Rattle.ada_base.specs.Cells.{Cell, Gone, Mine}
use Rattle.ada_workers.specs.Paths.{SamePlace}
use Rattle.ada_workers.specs.Threads.{frame_values, Entered, Leaves, Leaving, SameView}
use Rattle.ada_workers.specs.declared.threads.Frame.{Frame}
use Rattle.behaviours.specs.Joins.{Share}
use Rattle.cell_memory.specs.Sight.{Sight, cell_at, is_gone, is_mine, OwnThere, lower_length}
use Rattle.stack_code.specs.declared.path.Asked.{Asked}
use Rattle.stack_code.specs.Machine.{Frame as Waits, State, begun}
use Rattle.stack_code.specs.declared.code.Around.TheVariants.{Site}
use Rattle.stack_code.specs.declared.code.Code.{Code}
use Rattle.stack_code.specs.declared.code.CodeSite.{CodeSite}
use Rattle.stack_code.specs.Stands.{IsOuter, Sees, Stands}
use Rattle.stack_code.specs.Valid.{IsValid}
use Rattle.stack_code.proofs.Standing.{has_one}
use Rattle.stack_code.specs.Tops.{AreTops, IsTopped}
use Rattle.ada_lower.specs.Driven.{On, thread_cells}
use Rattle.ada_machine.specs.States.{state_of, frames_of, Ready, more}
use Rattle.ada_machine.specs.Viewed.{Seat, seat_of}
use Rattle.ada_machine.specs.declared.machine.Machine.{Machine}
use Rattle.ada_machine.proofs.Viewing.{SeatStays}
use Rattle.machine_paths.specs.Starting.{thread_values, span_values}
use Rattle.machine_paths.specs.Threads.{ThreadPath, starts}
use Rattle.machine_paths.proofs.Started.{own_cells}
use Rattle.ada_threads.specs.Came.{CameTo, IsSet, Came, BodyRan, ThreadRan, thread}
use Rattle.ada_threads.specs.Going.{stands, clipped, IsFine}
use Rattle.ada_threads.specs.declared.way.Ran.{Ran}
use Rattle.ada_threads.specs.declared.way.Way.TheVariants as way

-- ---- a body
module _ (p : ThreadPath) (m : Machine) (cells : List Cell) (start : state_of m cells ≡ (starts p None cells).state) where
  pub set_body : Ready p.code m cells → p.turns ≤ p.limit → IsFine p.limit p.code (On (starts p None cells)) → IsSet p.limit p.code p.plan m cells
  set_body ready within fine = record {
    ready = ready;
    within = subst (λ n. n ≤ p.limit) (sym (ap (λ (s : State). s.turns) start)) within;
    fine = subst (λ (s : State). IsFine p.limit p.code (On (stands p.plan s None))) (sym start) fine;
  }

  -- none waits at its entry
  pub body_tops : (low : ℕ) → low ≤ length cells → IsTopped low (state_of m cells)
  body_tops low le = subst (λ (s : State). IsTopped low s) (sym start) le

-- a path stands at its entry
pub entry_stands : (c : Code) → IsValid c → (k : ℕ) (site : CodeSite) → slice_get c.sites k ≡ Some site → (base : ℕ) (outward : List ℕ) (turns calls nested : ℕ) (left : Option ℕ) (cells : List Cell) → Sees c (Site k) outward → Stands c (Site k) (begun site.entry base outward turns calls nested left cells)
entry_stands c valid k site at base outward turns calls nested left cells sees =
    let q = has_one (slice_get c.spots site.entry) _ (valid.sites k site at).entry in record {
      spot = q.0;
      at = q.1;
      height = omega (arith, q.2.1);
      begun = q.2.2;
      within = omega arith;
      chain = (q.2.0, subst IsOuter (sym q.2.0) tt, subst (λ b. Sees c b outward) (sym q.2.0) sees, refl);
    }

clipped_low : (low : ℕ) (fs : List Waits) (cs : List Cell) → AreTops low fs (length cs) → low ≤ length (clipped fs cs)
clipped_low low [] cs t = t
clipped_low low (f ∷ fs) cs t = let e : length (take f.top cs) ≡ f.top = length-take-le f.top cs t.0 in clipped_low low fs (take f.top cs) (subst (λ n. AreTops low fs n) (sym e) t.1)

module _ (p : ThreadPath) (m : Machine) (cells : List Cell) (start : (cells : List Cell) → state_of m cells ≡ (starts p None cells).state) where
  pub body_ran : (m' : Machine) (cells' left : List Cell) (r : Ran) → m.looks ≡ 0 → Came p.limit p.code p.plan r.way m cells m' cells' → left ≡ clipped (frames_of m'.waiting.items) cells' → r.turns ≡ m'.turns → r.looks ≡ m'.looks → BodyRan p r cells left
  body_ran m' cells' left r none came cut turns looks = record {
    looks = came.looks;
    counted = looks ∙ came.counted ∙ ap (λ n. more n came.looks) none;
    to = subst (λ n. CameTo p.limit p.code p.plan (λ l. On (starts p l cells)) r.way came.looks left n) (sym turns)
        (subst (λ cs. CameTo p.limit p.code p.plan (λ l. On (starts p l cells)) r.way came.looks cs m'.turns) (sym cut)
        (subst (λ (s : State). CameTo p.limit p.code p.plan (λ l. On (stands p.plan s l)) r.way came.looks (clipped (frames_of m'.waiting.items) cells') m'.turns) (start cells) came.to));
    well = λ k site at b. came.well k site at (subst (λ (s : State). Stands p.code (Site k) s) (sym (start cells)) b);
    within = subst (λ n. n ≤ p.limit) (sym turns) came.within;
    long = subst (λ cs. length cells ≤ length cs) (sym cut) (clipped_low (length cells) (frames_of m'.waiting.items) cells' (came.tops (length cells) (body_tops p m cells (start cells) (length cells) (omega arith))));
  }

-- the same by the fields of a thread
pub set_thread : (r p : ThreadPath) → r ≡ p → (m : Machine) (cells : List Cell) → ((cells : List Cell) → Ready p.code m cells) → ((cells : List Cell) → state_of m cells ≡ (starts p None cells).state) → p.turns ≤ p.limit
    → IsFine p.limit p.code (On (starts p None cells)) → IsSet r.limit r.code r.plan m cells
set_thread r p e m cells ready start within fine = subst (λ (x : ThreadPath). IsSet x.limit x.code x.plan m cells) (sym e) (set_body p m cells (start cells) (ready cells) within fine)

-- it came to nothing
pub body_short : (p : ThreadPath) (cells : List Cell) → p.turns ≤ p.limit → BodyRan p (record { way = way.NoMemory; turns = p.turns; looks = 0 }) cells cells
body_short p cells le = record { looks = 0; counted = refl; to = tt; well = λ k site at b. tt; within = le; long = omega arith }

-- ---- a thread with its frame
module _ (p : ThreadPath) (frame : ℕ) (q : Asked) (j : Share) where
  pub thread_short : (cells cells' : List Cell) → cells' ≡ cells → p.turns ≤ p.limit → ThreadRan p frame q j (record { way = way.NoMemory; turns = p.turns; looks = 0 }) cells cells'
  thread_short cells cells' same le = record { looks = 0; counted = refl; left = cells; to = tt; well = λ k site at b. tt; within = le; cut = same ∙ sym (take_all cells); long = ap length same } where
    take_all : (cs : List Cell) → take (length cs) cs ≡ cs
    take_all [] = refl
    take_all (x ∷ cs) = ap (λ l. x ∷ l) (take_all cs)

  module _ (f : Frame) (is : frame_values f ≡ thread_values frame q j) where
    own_is : map Mine (frame_values f) ≡ thread_cells frame q j
    own_is = ap (map Mine) is ∙ own_cells frame q j

    starts_is : (cells cells' : List Cell) → cells' ≡ cells ++ map Mine (frame_values f) → (l : Option ℕ) → On (starts p l cells') ≡ thread p frame q j cells l
    starts_is cells cells' e l = ap (λ cs. On (starts p l cs)) (e ∙ ap (λ own. cells ++ own) own_is)

    pub entered_fine : (cells cells' : List Cell) → cells' ≡ cells ++ map Mine (frame_values f) → IsFine p.limit p.code (thread p frame q j cells None) → IsFine p.limit p.code (On (starts p None cells'))
    entered_fine cells cells' e fine = subst (IsFine p.limit p.code) (sym (starts_is cells cells' e None)) fine

    pub thread_ran : (r : Ran) (cells cells1 cells2 cells3 : List Cell) → cells1 ≡ cells ++ map Mine (frame_values f) → BodyRan p r cells1 cells2 → cells3 ≡ take (length cells) cells2 → ThreadRan p frame q j r cells cells3
    thread_ran r cells cells1 cells2 cells3 e ran cut =
        let le : length cells ≤ length cells1 = subst (λ cs. length cells ≤ length cs) (sym e) (omega (arith, length-append cells (map Mine (frame_values f)))) in
        let more : length cells ≤ length cells2 = omega (arith, le, ran.long) in
        record {
          looks = ran.looks;
          counted = ran.counted;
          left = cells2;
          to = subst (λ x. CameTo p.limit p.code p.plan x r.way ran.looks cells2 r.turns) (λ i l. starts_is cells cells1 e l i) ran.to;
          well = ran.well;
          within = ran.within;
          cut = cut;
          long = ap length cut ∙ length-take-le (length cells) cells2 more;
        }

  -- as many cells of 0 as are left
  length_values : length (thread_values frame q j) ≡ 4 + (frame - 4)
  length_values = by_size j.size where
    by_size : (n : ℕ) → length ((q.chunk +ℤ pos j.number) ∷ q.initial ∷ span_values (q.first +ℤ pos j.first) n (replicate (frame - 4) (pos 0))) ≡ 4 + (frame - 4)
    by_size zero = omega (arith, length-replicate (frame - 4) (pos 0))
    by_size (suc n) = omega (arith, length-replicate (frame - 4) (pos 0))

  pub frame_fits : (f : Frame) → frame_values f ≡ thread_values frame q j → frame < 2 ^ 32 → f.more + 4 < 2 ^ 32
  frame_fits f is small = let e : length (frame_values f) ≡ 4 + (frame - 4) = ap length is ∙ length_values in omega (arith, e, small, length-replicate f.more (pos 0))

-- ---- views
flags : (n : ℕ) (f g : ℕ → Bool) → ((x : ℕ) → x < n → f x ≡ g x) → map f (range_with_len 0 n) ≡ map g (range_with_len 0 n)
flags n f g h = fill_by_all g (map f (range_with_len 0 n)) n false (length-map-range_with_len f 0 n) (λ x lt. get_or-map-range_with_len f 0 n x x false lt (omega arith) ∙ h x lt)

-- two views with as many cells of their own, over cells of the same kinds
seat_is : (s t : Sight) → t.held ≡ s.held → lower_length t ≡ lower_length s → ((x : ℕ) → x < lower_length s → is_mine (cell_at t x) ≡ is_mine (cell_at s x)) → seat_of t ≡ seat_of s
seat_is s t h l k =
    let e : map (λ x. is_mine (cell_at t x)) (range_with_len 0 (lower_length t)) ≡ map (λ x. is_mine (cell_at s x)) (range_with_len 0 (lower_length s)) =
    ap (λ n. map (λ x. is_mine (cell_at t x)) (range_with_len 0 n)) l ∙ flags (lower_length s) (λ x. is_mine (cell_at t x)) (λ x. is_mine (cell_at s x)) k in
    λ i. record { held = h i; kinds = e i }

pub place_of : (s t : Sight) → OwnThere s → SeatStays s t → length s.cells ≤ length t.cells → SamePlace s t
place_of s t there stays long =
    let e : map (λ x. is_mine (cell_at t x)) (range_with_len 0 (lower_length t)) ≡ map (λ x. is_mine (cell_at s x)) (range_with_len 0 (lower_length s)) = ap (λ (k : Seat). k.kinds) stays.2 in
    record {
      held = ap (λ (k : Seat). k.held) stays.2;
      lower = stays.0;
      long = long;
      there = stays.1 there;
      kinds = λ x lt. sym (get_or-map-range_with_len (λ x. is_mine (cell_at t x)) 0 (lower_length t) x x false (omega (arith, lt, stays.0)) (omega arith))
          ∙ ap (λ l. get_or l x false) e
          ∙ get_or-map-range_with_len (λ x. is_mine (cell_at s x)) 0 (lower_length s) x x false lt (omega arith);
    }

pub stays_after : (a b c : Sight) → SeatStays a b → SeatStays b c → SeatStays a c
stays_after a b c h k = (k.0 ∙ h.0, λ w. k.1 (h.1 w), k.2 ∙ h.2)

pub same_stays : (s t : Sight) → SameView s t → SeatStays s t
same_stays s t e =
    let low : lower_length t ≡ lower_length s = λ i. length (e.cells i) - e.own i in (
      low,
      (λ w x le lt. ap (λ cs. is_gone (get_or cs x Gone)) e.cells ∙ w x (subst (λ n. n ≤ x) low le) (subst (λ cs. x < length cs) e.cells lt)),
      seat_is s t e.held low (λ x lt. ap (λ cs. is_mine (get_or cs x Gone)) e.cells),
    )

module _ (s t : Sight) (f : Frame) (e : Entered s f t) (own : s.own ≤ length s.cells) where
  entered_long : length t.cells ≡ length s.cells + (f.more + 4)
  entered_long = ap length e.cells ∙ length-append s.cells (map Mine (frame_values f)) ∙ (let z : length s.cells + length (map Mine (frame_values f)) ≡ length s.cells + (f.more + 4) = omega (arith, length-map (frame_values f) Mine, length-replicate f.more (pos 0)) in z)

  entered_low : lower_length t ≡ lower_length s
  entered_low = omega (arith, entered_long, e.own, own)

  pub entered_stays : SeatStays s t
  entered_stays = (entered_low, (λ w. e.there), seat_is s t e.held entered_low (λ x lt. ap (λ cs. is_mine (get_or cs x Gone)) e.cells ∙ ap is_mine (get_or_append_left s.cells (map Mine (frame_values f)) Gone x (omega (arith, lt)))))

-- and it may leave again
pub leaves_so : (s t u : Sight) (f : Frame) → Entered s f t → s.own ≤ length s.cells → SeatStays t u → length t.cells ≤ length u.cells → (n : ℕ) → n ≡ length s.cells → Leaves n u
leaves_so s t u f e own stays long n is =
    let a = entered_long s t f e own in
    let low = stays.0 ∙ entered_low s t f e own in
    record { many = omega (arith, a, long, is); own = omega (arith, low, is); there = stays.1 e.there }

pub leave_stays : (s t : Sight) (n : ℕ) → Leaves n s → Leaving n s t → SeatStays s t
leave_stays s t n l e =
    let long : length t.cells ≡ n = ap length e.cells ∙ length-take-le n s.cells l.many in
    let low : lower_length t ≡ lower_length s = omega (arith, long, e.own, l.own) in
    (low, (λ w. e.there), seat_is s t e.held low (λ x lt. ap (λ cs. is_mine (get_or cs x Gone)) e.cells ∙ ap is_mine (get_or-take n s.cells x Gone (omega (arith, lt, l.own)))))
