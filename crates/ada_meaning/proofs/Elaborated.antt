-- Elaborations in the stored run, and the frame of a call.
use Rattle.std.proofs.Common.{◌≡◌, ℕ, suc, ◌+◌, ◌<◌, ◌≤◌, ℤ, pos, nat_eq, List, [], ◌∷◌, length, slice_get, Some, ◌⊎◌, inl, inr, ⊎_elim, Bool, true, false, cond, refl, sym, subst, ap, ◌∙◌, true≢false, arith, le_refl, eq-eqb, eqb-true, ltb-true, length-set, set}
use Rattle.std.proofs.lemmas.Bool.{ne_eqb}
use Rattle.std.proofs.lemmas.Option.{slice_get_within}
use Rattle.behaviours.specs.Paths.{Entity, Region, Everywhere, Here, Instance, Path, Scope, declares, apart_of, one_elaboration, entity_eq}
use Rattle.behaviours.specs.Memory.{Memory, put_all, put}
use Rattle.ada_meaning.specs.Planned.{here}
use Rattle.ada_meaning.specs.declared.slots.Slot.{Slot}
use Rattle.ada_meaning.specs.Stored.{State, Kept, Stacked, slot_at, key, cell_at, begun, ended, has_room}
use Rattle.ada_meaning.proofs.Ties.{Future, goes_one, fresh, now, put_all_other}
use Rattle.ada_meaning.proofs.Cells.{slot_bound, slot_other, entity_same, key_other, get_right, get_within, put_all_in, put_all_out}
use Rattle.ada_meaning.proofs.Lays.{Mode, Tie, place, Tied, matches_grow, matches_also, Has, Seen, Visible, Same, seen_grows, Below, below_from, cell_cut, cell_more}

put_all_held : (m : Memory) (x : Instance) (i : ℕ) (vs : List ℤ) → (put_all m x i vs).held ≡ m.held
put_all_held m x i [] = refl
put_all_held m x i (v ∷ vs) = put_all_held (put m x i v) x (suc i) vs

put_all_input : (m : Memory) (x : Instance) (i : ℕ) (vs : List ℤ) → (put_all m x i vs).input ≡ m.input
put_all_input m x i [] = refl
put_all_input m x i (v ∷ vs) = put_all_input (put m x i v) x (suc i) vs

module _ (input : List ℕ) (b : Mode) (ls gs : List Tie) (s : State) (p : Path Instance) (m : Memory) (h : Has input b ls gs s p m) (x : Entity) (vs : List ℤ) where
  abbrev pub stacked : Tie
  stacked = record { instance = here x p; kept = false; base = length s.cells; cells = length vs }

  abbrev pub kept : Tie
  kept = record { instance = here x p; kept = true; base = length s.kept; cells = length vs }

  abbrev pub memory : Memory
  memory = put_all m (here x p) 0 vs

  not_tied : (d : Tie) → Tied ls gs d → here x p ≡ d.instance → ⊥
  not_tied d t e = h.past d t (now x p d.instance (sym e))

  other_cells : (d : Tie) (i : ℕ) → Tied ls gs d → memory.cells d.instance i ≡ m.cells d.instance i
  other_cells d i t = put_all_other vs m (here x p) d.instance 0 i (not_tied d t)

  later_cells : b.outermost ≡ true → (l : Instance) (i : ℕ) → l.thread ≡ p.name → suc p.elaborations ≤ l.number → memory.cells l i ≡ pos 0
  later_cells e l i n le = put_all_other vs m (here x p) l 0 i (λ f. let k = ap (λ (z : Instance). z.number) f in omega arith) ∙ h.new e l i n (omega arith)

  -- what is one of these, or is tied already
  module _ (region : Region) (c : Tie) (ls' gs' : List Tie) (tied : (d : Tie) → Tied ls' gs' d → (d ≡ c) ⊎ Tied ls gs d) (is : c.instance ≡ here x p) (size : c.cells ≡ length vs)
      (unused : (i : ℕ) (w : ℤ) → cell_at s (place c i) ≡ Some w → ⊥) (filled : (i : ℕ) (w : ℤ) → slice_get vs i ≡ Some w → cell_at (begun region x vs s) (place c i) ≡ Some w) where
    new_one : (d e : Tie) → Tied ls' gs' d → Tied ls' gs' e → d.instance ≡ e.instance → d ≡ e
    new_one d e t u same = ⊎_elim
        (λ f. ⊎_elim (λ g. f ∙ sym g) (λ g. absurd (not_tied e g (sym is ∙ ap (λ (z : Tie). z.instance) (sym f) ∙ same))) (tied e u))
        (λ f. ⊎_elim (λ g. absurd (not_tied d f (sym is ∙ ap (λ (z : Tie). z.instance) (sym g) ∙ sym same))) (λ g. h.one d e f g same) (tied e u)) (tied d t)

    new_apart : (d e : Tie) (i j : ℕ) → Tied ls' gs' d → Tied ls' gs' e → i < d.cells → j < e.cells → place d i ≡ place e j → d.instance ≡ e.instance
    new_apart d e i j t u lt lu same = ⊎_elim
        (λ f. ⊎_elim (λ g. ap (λ (z : Tie). z.instance) (f ∙ sym g))
        (λ g. absurd (unused i (m.cells e.instance j) (ap (cell_at s) (ap (λ z. place z i) (sym f) ∙ same) ∙ h.right e j g lu))) (tied e u))
        (λ f. ⊎_elim (λ g. absurd (unused j (m.cells d.instance i) (ap (cell_at s) (ap (λ z. place z j) (sym g) ∙ sym same) ∙ h.right d i f lt)))
        (λ g. h.apart d e i j f g lt lu same) (tied e u)) (tied d t)

    new_right : (d : Tie) (i : ℕ) → Tied ls' gs' d → i < d.cells → cell_at (begun region x vs s) (place d i) ≡ Some (memory.cells d.instance i)
    new_right d i t lt = ⊎_elim
        (λ f. subst (λ z. cell_at (begun region x vs s) (place z i) ≡ Some (memory.cells z.instance i)) (sym f) (own (let k = ap (λ (z : Tie). z.cells) f in omega arith)))
        (λ f. cell_more region x vs s (place d i) (m.cells d.instance i) (h.right d i f lt) ∙ ap Some (sym (other_cells d i f))) (tied d t)
      where
        own : i < length vs → cell_at (begun region x vs s) (place c i) ≡ Some (memory.cells c.instance i)
        own lt =
            let v = get_within vs i lt in
            filled i v.0 v.1 ∙ ap Some (sym (put_all_in vs m (here x p) 0 i v.0 v.1) ∙ ap (memory.cells (here x p)) (let z : 0 + i ≡ i = omega arith in z) ∙ ap (λ z. memory.cells z i) (sym is))

    new_past : (d : Tie) → Tied ls' gs' d → Future (one_elaboration region (here x p) p) d.instance → ⊥
    new_past d t f = ⊎_elim
        (λ g. fresh x region (here x p) p (subst (λ z. Future (one_elaboration region (here x p) p) z) (ap (λ (z : Tie). z.instance) g ∙ is) f))
        (λ g. h.past d g (goes_one region (here x p) p d.instance f)) (tied d t)

  stacked_tied : (d : Tie) → Tied (stacked ∷ ls) gs d → (d ≡ stacked) ⊎ Tied ls gs d
  stacked_tied d (inl (inl e)) = inl e
  stacked_tied d (inl (inr t)) = inr (inl t)
  stacked_tied d (inr t) = inr (inr t)

  kept_tied : (d : Tie) → Tied ls (kept ∷ gs) d → (d ≡ kept) ⊎ Tied ls gs d
  kept_tied d (inl t) = inr (inl t)
  kept_tied d (inr (inl e)) = inl e
  kept_tied d (inr (inr t)) = inr (inr t)

  stacked_unused : (i : ℕ) (w : ℤ) → cell_at s (place stacked i) ≡ Some w → ⊥
  stacked_unused i w e = let lt = slice_get_within s.cells (length s.cells + i) w e in omega arith

  kept_unused : (i : ℕ) (w : ℤ) → cell_at s (place kept i) ≡ Some w → ⊥
  kept_unused i w e = let lt = slice_get_within s.kept (length s.kept + i) w e in omega arith

  stacked_filled : (i : ℕ) (w : ℤ) → slice_get vs i ≡ Some w → cell_at (begun Here x vs s) (place stacked i) ≡ Some w
  stacked_filled i w e = get_right s.cells vs i ∙ e

  kept_filled : (i : ℕ) (w : ℤ) → slice_get vs i ≡ Some w → cell_at (begun Everywhere x vs s) (place kept i) ≡ Some w
  kept_filled i w e = get_right s.kept vs i ∙ e

  pub has_here : Has input b (stacked ∷ ls) gs (begun Here x vs s) (one_elaboration Here (here x p) p) memory
  has_here = record {
    one = new_one Here stacked (stacked ∷ ls) gs stacked_tied refl refl stacked_unused stacked_filled;
    apart = new_apart Here stacked (stacked ∷ ls) gs stacked_tied refl refl stacked_unused stacked_filled;
    right = new_right Here stacked (stacked ∷ ls) gs stacked_tied refl refl stacked_unused stacked_filled;
    zeros = λ d i t le. other_cells d i (inr t) ∙ h.zeros d i t le;
    kept = h.kept;
    past = new_past Here stacked (stacked ∷ ls) gs stacked_tied refl refl stacked_unused stacked_filled;
    new = later_cells;
    outer = h.outer;
    inside = h.inside;
    ordered = h.ordered;
    taken = h.taken;
    rest = h.rest;
    held = h.held ∙ sym (put_all_held m (here x p) 0 vs);
    bytes = put_all_input m (here x p) 0 vs ∙ h.bytes;
    declared = h.declared;
  }

  -- what is visible everywhere is elaborated by the outermost path
  pub has_everywhere : b.outermost ≡ true → Has input b ls (kept ∷ gs) (begun Everywhere x vs s) (one_elaboration Everywhere (here x p) p) memory
  has_everywhere outermost = record {
    one = new_one Everywhere kept ls (kept ∷ gs) kept_tied refl refl kept_unused kept_filled;
    apart = new_apart Everywhere kept ls (kept ∷ gs) kept_tied refl refl kept_unused kept_filled;
    right = new_right Everywhere kept ls (kept ∷ gs) kept_tied refl refl kept_unused kept_filled;
    zeros = λ d i t le. ⊎_elim
        (λ e. ap (λ (z : Tie). memory.cells z.instance i) e ∙ put_all_out vs m (here x p) 0 i (inr (let k = ap (λ (z : Tie). z.cells) e in omega arith)) ∙ h.new outermost (here x p) i refl (le_refl p.elaborations))
        (λ u. other_cells d i (inr u) ∙ h.zeros d i u le) t;
    kept = λ d t. ⊎_elim (λ e. ap (λ (z : Tie). z.kept) e) (λ u. h.kept d u) t;
    past = new_past Everywhere kept ls (kept ∷ gs) kept_tied refl refl kept_unused kept_filled;
    new = later_cells;
    outer = h.outer;
    inside = h.inside;
    ordered = h.ordered;
    taken = h.taken;
    rest = h.rest;
    held = h.held ∙ sym (put_all_held m (here x p) 0 vs);
    bytes = put_all_input m (here x p) 0 vs ∙ h.bytes;
    declared = matches_also (kept ∷ gs) p.globals s.declared (here x p) (length s.kept) (length vs) (inl refl) (matches_grow gs (kept ∷ gs) p.globals s.declared (λ d t. inr t) h.declared);
  }

  -- the stack as long as before
  module _ (gs' : List Tie) (u : State) (q : Path Instance) (n : Memory) (k : Has input b (stacked ∷ ls) gs' u q n) where
    still : (d : Tie) (i : ℕ) → Tied ls gs' d → i < d.cells → Below (place d i) (length s.cells)
    still d i (inl t) lt = below_from s (place d i) (m.cells d.instance i) (h.right d i (inl t) lt)
    still d i (inr t) lt = subst (λ z. Below (cond z (Kept (d.base + i)) (Stacked (d.base + i))) (length s.cells)) (sym (k.kept d t)) tt

    less : (d : Tie) → Tied ls gs' d → Tied (stacked ∷ ls) gs' d
    less d (inl t) = inl (inr t)
    less d (inr t) = inr t

    pub has_ended : Has input b ls gs' (ended Here x s u) q n
    has_ended = record {
      one = λ d e t v. k.one d e (less d t) (less e v);
      apart = λ d e i j t v. k.apart d e i j (less d t) (less e v);
      right = λ d i t lt. cell_cut x s u (place d i) (still d i t lt) ∙ k.right d i (less d t) lt;
      zeros = k.zeros;
      kept = k.kept;
      past = λ d t. k.past d (less d t);
      new = k.new;
      outer = k.outer;
      inside = k.inside;
      ordered = k.ordered;
      taken = k.taken;
      rest = k.rest;
      held = k.held;
      bytes = k.bytes;
      declared = k.declared;
    }

  pub has_ended_everywhere : (gs' : List Tie) (u : State) (q : Path Instance) (n : Memory) → Has input b ls gs' u q n → Has input b ls gs' (ended Everywhere x s u) q n
  has_ended_everywhere gs' u q n k = record {
    one = k.one;
    apart = k.apart;
    right = λ d i t lt. go (place d i) (n.cells d.instance i) (k.right d i t lt);
    zeros = k.zeros;
    kept = k.kept;
    past = k.past;
    new = k.new;
    outer = k.outer;
    inside = k.inside;
    ordered = k.ordered;
    taken = k.taken;
    rest = k.rest;
    held = k.held;
    bytes = k.bytes;
    declared = k.declared;
  }
    where
      go : (a : Rattle.ada_meaning.specs.Stored.Address) (w : ℤ) → cell_at u a ≡ Some w → cell_at (ended Everywhere x s u) a ≡ Some w
      go (Kept a) w e = e
      go (Stacked a) w e = e

-- what is visible

-- after such a part the slots are what they were before
pub same_ended : (region : Region) (x : Entity) (vs : List ℤ) (s u : State) → has_room region x s ≡ true → Same (begun region x vs s) u → Same s (ended region x s u)
same_ended Here x vs s u lt e = record {
  here = λ k. go k (nat_eq (key x) k) refl;
  everywhere = e.everywhere;
  frame = e.frame;
  room = length-set u.here (key x) (slot_at s.here (key x)) ∙ size;
  everywhere_room = e.everywhere_room;
}
  where
    size : length u.here ≡ length s.here
    size = e.room ∙ length-set s.here (key x) (record { frame = s.frame; address = length s.cells; cells = length vs })

    go : (k : ℕ) (c : Bool) → nat_eq (key x) k ≡ c → slot_at (set u.here (key x) (slot_at s.here (key x))) k ≡ slot_at s.here k
    go k true f = subst (λ z. slot_at (set u.here (key x) (slot_at s.here (key x))) z ≡ slot_at s.here z) (eqb-true (key x) k f)
        (slot_bound u.here (key x) (slot_at s.here (key x)) (let h = ltb-true (key x) (length s.here) lt in let z = size in omega arith))
    go k false f =
        let ne = λ (z : key x ≡ k). true≢false (sym (eq-eqb (key x) k z) ∙ f) in
        slot_other u.here (key x) k (slot_at s.here (key x)) ne ∙ e.here k ∙ slot_other s.here (key x) k (record { frame = s.frame; address = length s.cells; cells = length vs }) ne
same_ended Everywhere x vs s u lt e = record {
  here = e.here;
  everywhere = λ k. go k (nat_eq (key x) k) refl;
  frame = e.frame;
  room = e.room;
  everywhere_room = length-set u.everywhere (key x) (slot_at s.everywhere (key x)) ∙ size;
}
  where
    size : length u.everywhere ≡ length s.everywhere
    size = e.everywhere_room ∙ length-set s.everywhere (key x) (record { frame = 1; address = length s.kept; cells = length vs })

    go : (k : ℕ) (c : Bool) → nat_eq (key x) k ≡ c → slot_at (set u.everywhere (key x) (slot_at s.everywhere (key x))) k ≡ slot_at s.everywhere k
    go k true f = subst (λ z. slot_at (set u.everywhere (key x) (slot_at s.everywhere (key x))) z ≡ slot_at s.everywhere z) (eqb-true (key x) k f)
        (slot_bound u.everywhere (key x) (slot_at s.everywhere (key x)) (let h = ltb-true (key x) (length s.everywhere) lt in let z = size in omega arith))
    go k false f =
        let ne = λ (z : key x ≡ k). true≢false (sym (eq-eqb (key x) k z) ∙ f) in
        slot_other u.everywhere (key x) k (slot_at s.everywhere (key x)) ne ∙ e.everywhere k ∙ slot_other s.everywhere (key x) k (record { frame = 1; address = length s.kept; cells = length vs }) ne

module _ (ls gs : List Tie) (s : State) (t : Scope Instance) (v : Visible ls gs s t) (x : Entity) (vs : List ℤ) (l : Instance) where
  abbrev slot : Slot
  slot = record { frame = s.frame; address = length s.cells; cells = length vs }

  abbrev tie : Tie
  tie = record { instance = l; kept = false; base = length s.cells; cells = length vs }

  pub visible_here : has_room Here x s ≡ true → Visible (tie ∷ ls) gs (begun Here x vs s) (declares Here x l (length vs) t)
  visible_here room = record { here = λ y. go y (entity_eq x y) refl; everywhere = v.everywhere; low = λ k. low k (nat_eq (key x) k) refl }
    where
      go : (y : Entity) (c : Bool) → entity_eq x y ≡ c
          → Seen (tie ∷ ls) false (nat_eq (slot_at (set s.here (key x) slot) (key y)).frame s.frame) (cond c (Some (record { instance = l; cells = length vs })) (t.here y)) (slot_at (set s.here (key x) slot) (key y))
      go y true e =
          subst (λ k. Seen (tie ∷ ls) false (nat_eq (slot_at (set s.here (key x) slot) k).frame s.frame) (Some (record { instance = l; cells = length vs })) (slot_at (set s.here (key x) slot) k)) (ap key (entity_same x y e))
          (subst (λ z. Seen (tie ∷ ls) false (nat_eq z.frame s.frame) (Some (record { instance = l; cells = length vs })) z) (sym (slot_bound s.here (key x) slot (ltb-true (key x) (length s.here) room))) (eq-eqb s.frame s.frame refl, refl, inl refl))
      go y false e =
          subst (λ z. Seen (tie ∷ ls) false (nat_eq z.frame s.frame) (t.here y) z) (sym (slot_other s.here (key x) (key y) slot (key_other x y e)))
          (seen_grows ls (tie ∷ ls) false (nat_eq (slot_at s.here (key y)).frame s.frame) (t.here y) (slot_at s.here (key y)) (λ c k. inr k) (v.here y))

      low : (k : ℕ) (c : Bool) → nat_eq (key x) k ≡ c → (slot_at (set s.here (key x) slot) k).frame ≤ s.frame
      low k true e = subst (λ j. (slot_at (set s.here (key x) slot) j).frame ≤ s.frame) (eqb-true (key x) k e) (subst (λ z. z.frame ≤ s.frame) (sym (slot_bound s.here (key x) slot (ltb-true (key x) (length s.here) room))) (le_refl s.frame))
      low k false e = subst (λ z. z.frame ≤ s.frame) (sym (slot_other s.here (key x) k slot (λ z. true≢false (sym (eq-eqb (key x) k z) ∙ e)))) (v.low k)

  abbrev kept_slot : Slot
  kept_slot = record { frame = 1; address = length s.kept; cells = length vs }

  abbrev kept_tie : Tie
  kept_tie = record { instance = l; kept = true; base = length s.kept; cells = length vs }

  pub visible_everywhere : has_room Everywhere x s ≡ true → Visible ls (kept_tie ∷ gs) (begun Everywhere x vs s) (declares Everywhere x l (length vs) t)
  visible_everywhere room = record { here = v.here; everywhere = λ y. go y (entity_eq x y) refl; low = v.low }
    where
      go : (y : Entity) (c : Bool) → entity_eq x y ≡ c
          → Seen (kept_tie ∷ gs) true (nat_eq (slot_at (set s.everywhere (key x) kept_slot) (key y)).frame 1) (cond c (Some (record { instance = l; cells = length vs })) (t.everywhere y)) (slot_at (set s.everywhere (key x) kept_slot) (key y))
      go y true e =
          subst (λ k. Seen (kept_tie ∷ gs) true (nat_eq (slot_at (set s.everywhere (key x) kept_slot) k).frame 1) (Some (record { instance = l; cells = length vs })) (slot_at (set s.everywhere (key x) kept_slot) k)) (ap key (entity_same x y e))
          (subst (λ z. Seen (kept_tie ∷ gs) true (nat_eq z.frame 1) (Some (record { instance = l; cells = length vs })) z) (sym (slot_bound s.everywhere (key x) kept_slot (ltb-true (key x) (length s.everywhere) room))) (refl, refl, inl refl))
      go y false e =
          subst (λ z. Seen (kept_tie ∷ gs) true (nat_eq z.frame 1) (t.everywhere y) z) (sym (slot_other s.everywhere (key x) (key y) kept_slot (key_other x y e)))
          (seen_grows gs (kept_tie ∷ gs) true (nat_eq (slot_at s.everywhere (key y)).frame 1) (t.everywhere y) (slot_at s.everywhere (key y)) (λ c k. inr k) (v.everywhere y))

-- a subprogram's body, in a frame that has no slots yet
pub visible_apart : (ls gs : List Tie) (s : State) (t : Scope Instance) → Visible ls gs s t → Visible ls gs (record s { frame = s.frame + 1 }) (apart_of t)
visible_apart ls gs s t v = record {
  here = λ x. ne_eqb (slot_at s.here (key x)).frame (s.frame + 1) (λ e. let le = v.low (key x) in omega arith);
  everywhere = v.everywhere;
  low = λ k. let le = v.low k in omega arith;
}
