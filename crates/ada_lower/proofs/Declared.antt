-- Objects that are elaborated in cells of the own frame.
use Rattle.std.proofs.Common.{◌≡◌, ℕ, zero, suc, ◌+◌, ◌<◌, ◌≤◌, ℤ, List, [], ◌∷◌, ◌++◌, length, set, slice_get, nat_eq, Option, Some, None, Bool, true, false, cond, refl, sym, ap, ap₂, ◌∙◌, subst, le_refl, arith, ◌⊎◌, inl, inr, ⊎_elim, true≢false, lt-ltb, length-append}
use Rattle.std.proofs.lemmas.Bool.{ne_eqb}
use Rattle.std.proofs.lemmas.Option.{none-some}
use Rattle.behaviours.specs.Paths.{Entity, Here, entity_eq}
use Rattle.ada_meaning.specs.declared.slots.Slot.{Slot}
use Rattle.ada_meaning.specs.Stored as stored
use Rattle.ada_meaning.specs.Stored.{Stored, Cause, Left, OutOfTurns, NoRoom, CutOff, Misnoted, Address, Kept, Stacked, Touch, cell_at, slot_at, key, within}
use Rattle.ada_meaning.specs.Meaning.{Env}
use Rattle.ada_meaning.proofs.Cells.{slot_bound, slot_other, key_other, entity_same, some_same, get_left, get_right, get_take}
use Rattle.ada_base.specs.Cells.{Cell}
use Rattle.ada_lower.specs.Driven.{Dyn, Fixed}
use Rattle.ada_lower.specs.Sights.{Named, Sight, object_here, own, taking, with_object}
use Rattle.ada_lower.specs.Fits.{Access, Barred, Readable, Full, What, Other, Free, Keeps, Shows, Stands, Bears, Right, Ghost, Agrees, Fit, Ends, Land, Lands, Does, place_in, IsNumber, Leads, Spread, Refers, Holds, Knows, Allowed, Allows}
use Rattle.ada_lower.proofs.Memory.{set_what, what_same, what_other, at_or_not, at_same, IsSolid, Extends, refers_more, holds_more, main_more}

-- ---- what some cells are of

-- from a cell on, the things of these values, which are counted from a number on
abbrev pub laid_what : ℕ → ℕ → (ℕ → ℤ → What) → List ℤ → (ℕ → What) → ℕ → What
laid_what a i F [] w b = w b
laid_what a i F (v ∷ vs) w b = cond (nat_eq a b) (F i v) (laid_what (a + 1) (i + 1) F vs w b)

abbrev pub kept_what : ℕ → ℤ → What
kept_what i v = Keeps v

abbrev pub stacked_what : ℕ → ℤ → What
stacked_what i v = Stands Full (Stacked i)

pub laid_out : (a i : ℕ) (F : ℕ → ℤ → What) (vs : List ℤ) (w : ℕ → What) (b : ℕ) → (b < a) ⊎ (a + length vs ≤ b) → laid_what a i F vs w b ≡ w b
laid_out a i F [] w b out = refl
laid_out a i F (v ∷ vs) w b out =
    let ne : (a ≡ b → ⊥) = (λ e. ⊎_elim (λ lt. omega (arith, lt, e)) (λ le. omega (arith, le, e)) out) in
    ap (λ t. cond t (F i v) (laid_what (a + 1) (i + 1) F vs w b)) (ne_eqb a b ne)
    ∙ laid_out (a + 1) (i + 1) F vs w b (⊎_elim (λ lt. inl (omega (arith, lt))) (λ le. inr (omega (arith, le))) out)

pub laid_in : (a i : ℕ) (F : ℕ → ℤ → What) (vs : List ℤ) (w : ℕ → What) (k : ℕ) (v : ℤ) → slice_get vs k ≡ Some v → laid_what a i F vs w (a + k) ≡ F (i + k) v
laid_in a i F [] w k v e = absurd (none-some v e)
laid_in a i F (u ∷ vs) w zero v e =
    let z : a + 0 ≡ a = omega arith in
    let z' : i + 0 ≡ i = omega arith in
    ap (λ b. laid_what a i F (u ∷ vs) w b) z ∙ ap (λ t. cond t (F i u) (laid_what (a + 1) (i + 1) F vs w a)) (at_same a) ∙ ap₂ F (sym z') (some_same u v e)
laid_in a i F (u ∷ vs) w (suc k) v e =
    let ne : (a ≡ a + suc k → ⊥) = (λ z. omega (arith, z)) in
    let z : a + suc k ≡ a + 1 + k = omega arith in
    let z' : i + 1 + k ≡ i + suc k = omega arith in
    ap (λ t. cond t (F i u) (laid_what (a + 1) (i + 1) F vs w (a + suc k))) (ne_eqb a (a + suc k) ne)
    ∙ ap (λ b. laid_what (a + 1) (i + 1) F vs w b) z ∙ laid_in (a + 1) (i + 1) F vs w k v e ∙ ap (λ j. F j v) z'

-- a cell is one of them, or not
pub among : (a b : ℕ) (vs : List ℤ) → ((k : ℕ) × (v : ℤ) × (a + k ≡ b) × (slice_get vs k ≡ Some v)) ⊎ ((b < a) ⊎ (a + length vs ≤ b))
among a b [] = ⊎_elim (λ lt. inr (inl lt)) (λ le. inr (inr le)) (cases a b)
  where
    cases : (a b : ℕ) → (b < a) ⊎ (a + 0 ≤ b)
    cases a b = grind arith
among a b (v ∷ vs) = ⊎_elim
    (λ e. inl (0, v, (let z : a + 0 ≡ b = omega (arith, e) in z), refl))
    (λ ne. ⊎_elim
    (λ r. let (k, u, z, e) = r in inl (suc k, u, (let z' : a + suc k ≡ b = omega (arith, z) in z'), e))
    (λ out. inr (⊎_elim (λ lt. inl (let l : b < a = omega (arith, lt, ne) in l)) (λ le. inr (omega (arith, le))) out))
    (among (a + 1) b vs))
    (at_or_not a b)

-- ---- an object in its cells

-- numbers are kept from a cell on
abbrev pub keeping : ℕ → List ℤ → Ghost → Ghost
keeping a vs g = record g { what = laid_what a 0 kept_what vs g.what }

abbrev pub slot_for : Ghost → ℕ → List ℤ → Slot
slot_for g len vs = record { frame = g.frame; address = len; cells = length vs }

-- an object that stands behind so many cells of the stored run has them
abbrev pub having : Entity → ℕ → ℕ → List ℤ → Ghost → Ghost
having y len a vs g = record g { here = set g.here (key y) (slot_for g len vs); what = laid_what a len stacked_what vs g.what }

-- no cell stands for one that isn't there yet
abbrev pub Fresh : Ghost → ℕ → Type 0
Fresh g len = (a : ℕ) (x : Access) (b : ℕ) → g.what a ≡ Stands x (Stacked b) → b < len

pub length_in : {A : Type 0} (xs : List A) (k : ℕ) (v : A) → slice_get xs k ≡ Some v → k < length xs
length_in [] k v e = absurd (none-some v e)
length_in (x ∷ xs) zero v e = omega arith
length_in (x ∷ xs) (suc k) v e = let l : k < length xs = length_in xs k v e in omega (arith, l)

pub get_of : {A : Type 0} (xs : List A) (k : ℕ) → k < length xs → (v : A) × (slice_get xs k ≡ Some v)
get_of [] k lt = absurd (omega arith)
get_of (x ∷ xs) zero lt = (x, refl)
get_of (x ∷ xs) (suc k) lt = get_of xs k (omega (arith, lt))

pub set_back : (xs : List Slot) (k : ℕ) (x : Slot) → k < length xs → set (set xs k x) k (slot_at xs k) ≡ xs
set_back [] k x lt = absurd (omega arith)
set_back (y ∷ xs) zero x lt = refl
set_back (y ∷ xs) (suc k) x lt = ap (λ zs. y ∷ zs) (set_back xs k x (omega (arith, lt)))

pub fresh_of : {g : Ghost} {s : stored.State} {d : Dyn} → Fit g s d → Fresh g (length s.cells)
fresh_of {g} {s} {d} w a x b e = let (v, cell, bears) = subst (λ z. Right z s (slice_get d.cells a)) e (w.cells a) in length_in s.cells b v cell

module _ (y : Entity) (a : ℕ) (vs : List ℤ) (g : Ghost) where
  cells_begun : (s : stored.State) (p : Address) (v : ℤ) → cell_at s p ≡ Some v → cell_at (stored.begun Here y vs s) p ≡ Some v
  cells_begun s (Kept b) v e = e
  cells_begun s (Stacked b) v e = get_left s.cells vs b v e

  right_begun : (s : stored.State) (w : What) (o : Option Cell) → Right w s o → Right w (stored.begun Here y vs s) o
  right_begun s Other o r = r
  right_begun s Free o r = r
  right_begun s (Keeps v) o r = r
  right_begun s (Shows v) o r = r
  right_begun s (Stands x p) o (v, cell, bears) = (v, cells_begun s p v cell, bears)

  pub fit_having : {s : stored.State} {d : Dyn} → Fit (keeping a vs g) s d → Fit (having y (length s.cells) a vs g) (stored.begun Here y vs s) d
  fit_having {s} {d} w = record {
    here = ap₂ (λ h n. set h (key y) (record { frame = n; address = length s.cells; cells = length vs })) w.here w.frame;
    everywhere = w.everywhere;
    declared = w.declared;
    frame = w.frame;
    top = w.top;
    least = w.least;
    most = w.most;
    agrees = record { turns = w.agrees.turns; left = w.agrees.left; taken = w.agrees.taken; held = w.agrees.held; input = w.agrees.input; output = w.agrees.output; notes = w.agrees.notes; done = w.agrees.done };
    plan = w.plan;
    order = w.order;
    cells = λ b. ⊎_elim
        (λ r. let (k, v, e, is) = r in subst (λ b. Right ((having y (length s.cells) a vs g).what b) (stored.begun Here y vs s) (slice_get d.cells b)) e
        (subst (λ z. Right z (stored.begun Here y vs s) (slice_get d.cells (a + k))) (sym (laid_in a (length s.cells) stacked_what vs g.what k v is))
        (v, get_right s.cells vs k ∙ is, subst (λ z. Right z s (slice_get d.cells (a + k))) (laid_in a 0 kept_what vs g.what k v is) (w.cells (a + k)))))
        (λ out. subst (λ z. Right z (stored.begun Here y vs s) (slice_get d.cells b)) (sym (laid_out a (length s.cells) stacked_what vs g.what b out))
        (right_begun s (g.what b) (slice_get d.cells b) (subst (λ z. Right z s (slice_get d.cells b)) (laid_out a 0 kept_what vs g.what b out) (w.cells b))))
        (among a b vs);
  }

  abbrev pub AllFree : Type 0
  AllFree = (k : ℕ) → k < length vs → g.what (a + k) ≡ Free

  cells_ended : (s t : stored.State) (p : Address) (v : ℤ) → ((b : ℕ) → p ≡ Stacked b → b < length s.cells) → cell_at t p ≡ Some v → cell_at (stored.ended Here y s t) p ≡ Some v
  cells_ended s t (Kept b) v old e = e
  cells_ended s t (Stacked b) v old e = get_take (length s.cells) t.cells b (old b refl) ∙ e

  right_ended : (s t : stored.State) (w : What) (o : Option Cell) → ((x : Access) (b : ℕ) → w ≡ Stands x (Stacked b) → b < length s.cells) → Right w t o → Right w (stored.ended Here y s t) o
  right_ended s t Other o old r = r
  right_ended s t Free o old r = r
  right_ended s t (Keeps v) o old r = r
  right_ended s t (Shows v) o old r = r
  right_ended s t (Stands x p) o old (v, cell, bears) = (v, cells_ended s t p v (λ b e. old x b (ap (Stands x) e)) cell, bears)

  pub fit_ended : (s t : stored.State) {d' : Dyn} → key y < length g.here → AllFree → s.here ≡ g.here → Fresh g (length s.cells) → Fit (having y (length s.cells) a vs g) t d' → Fit g (stored.ended Here y s t) d'
  fit_ended s t {d'} room free was fresh w = record {
    here = ap₂ (λ h z. set h (key y) (slot_at z (key y))) w.here was ∙ set_back g.here (key y) (slot_for g (length s.cells) vs) room;
    everywhere = w.everywhere;
    declared = w.declared;
    frame = w.frame;
    top = w.top;
    least = w.least;
    most = w.most;
    agrees = record { turns = w.agrees.turns; left = w.agrees.left; taken = w.agrees.taken; held = w.agrees.held; input = w.agrees.input; output = w.agrees.output; notes = w.agrees.notes; done = w.agrees.done };
    plan = w.plan;
    order = w.order;
    cells = λ b. ⊎_elim
        (λ r. let (k, v, e, is) = r in subst (λ b. Right (g.what b) (stored.ended Here y s t) (slice_get d'.cells b)) e
        (subst (λ z. Right z (stored.ended Here y s t) (slice_get d'.cells (a + k))) (sym (free k (length_in vs k v is)))
        (let (u, cell, bears) = subst (λ z. Right z t (slice_get d'.cells (a + k))) (laid_in a (length s.cells) stacked_what vs g.what k v is) (w.cells (a + k)) in (u, bears))))
        (λ out. right_ended s t (g.what b) (slice_get d'.cells b) (λ x c e. fresh b x c e)
        (subst (λ z. Right z t (slice_get d'.cells b)) (laid_out a (length s.cells) stacked_what vs g.what b out) (w.cells b)))
        (among a b vs);
  }

  fewer_having : (len : ℕ) (b : ℕ) (x : Access) (p : Address) → (having y len a vs g).what b ≡ Stands x p → (g.what b ≡ Stands x p) ⊎ ((t : Bool) → Rattle.ada_lower.specs.Fits.allows x t ≡ true)
  fewer_having len b x p e = ⊎_elim
      (λ r. let (k, v, z, is) = r in inr (full x p (sym (laid_in a len stacked_what vs g.what k v is) ∙ ap (laid_what a len stacked_what vs g.what) z ∙ e)))
      (λ out. inl (sym (laid_out a len stacked_what vs g.what b out) ∙ e))
      (among a b vs)
    where
      full : {q : Address} (x : Access) (p : Address) → Stands Full q ≡ Stands x p → (t : Bool) → Rattle.ada_lower.specs.Fits.allows x t ≡ true
      full Full p e t = refl
      full Barred p e t = let z : Full ≡ Barred = cc in absurd cc
      full Readable p e t = let z : Full ≡ Readable = cc in absurd cc

-- the scope in which the object is visible
pub knows_having_at : {limit : ℕ} {cuts : ℕ → ℕ → List ℕ} {g : Ghost} {f : Fixed} {s : Sight} {env : Env} (o : ℕ) (y : Entity) (len : ℕ) (vs : List ℤ) → o + length vs ≤ s.scope.free → o + length vs ≤ s.cells → ((j : ℕ) → j < length vs → g.what (f.base + o + j) ≡ Free) → key y < length g.here → s.seen y ≡ false → Fresh g len → Knows limit cuts g f s env
    → Knows limit cuts (having y len (f.base + o) vs g) f (with_object y (record { through = false; place = own o; cells = length vs }) s) env
knows_having_at {limit} {g} {f} {s} {env} o y len vs below room loose' slots new fresh k = record {
  most = k.most;
  nested = k.nested;
  plan = k.plan;
  kept = k.kept;
  top = k.top;
  beyond = λ b le. laid_out a len stacked_what vs g.what b (inr (let t = k.top in let l : a + length vs ≤ b = omega (arith, le, t, room) in l)) ∙ k.beyond b le;
  global = λ z n e. main_more z refl more (k.global z n e);
  outside = k.outside;
  one = one';
  old = λ j. ⊎_elim (λ e. subst (λ j. (slot_at h.here j).frame ≤ g.frame) e (subst (λ z. z.frame ≤ g.frame) (sym (slot_bound g.here (key y) (slot_for g len vs) slots)) (le_refl g.frame)))
      (λ ne. subst (λ z. z.frame ≤ g.frame) (sym (slot_other g.here (key y) j (slot_for g len vs) ne)) (k.old j)) (at_or_not (key y) j);
  hidden = λ z i e. other z (entity_eq y z) refl e i;
  object = λ z n e. found z n (entity_eq y z) refl e;
  parameter = λ j w e. holds_more f w (env.parameter j) more (k.parameter j w e);
  item = λ j n e. refers_more more (k.item j n e);
  constant_item = λ j n e. refers_more more (k.constant_item j n e);
  target = λ n e. refers_more more (k.target n e);
  handled = λ w e. holds_more f w _ more (k.handled w e);
  free = λ n le lt. laid_out a len stacked_what vs g.what (f.base + n) (inr (let l : f.base + o + length vs ≤ f.base + n = omega (arith, le, below) in l)) ∙ k.free n le lt;
}
  where
    a : ℕ
    a = f.base + o

    h : Ghost
    h = having y len a vs g

    place_other : (z : Entity) (i : ℕ) → (key y ≡ key z → ⊥) → place_in h z i ≡ place_in g z i
    place_other z i ne = rw (slot_other g.here (key y) (key z) (slot_for g len vs) ne) refl

    more : Extends g h
    more = record {
      top = le_refl g.top;
      place = λ z i p e. ⊎_elim (λ same. absurd (none-some p (sym (k.hidden y i new) ∙ ap (λ n. cond (nat_eq (slot_at g.here n).frame g.frame) (within Stacked (slot_at g.here n) i) (cond (nat_eq (slot_at g.everywhere n).frame 1) (within Kept (slot_at g.everywhere n) i) None)) same ∙ e)))
          (λ ne. place_other z i ne ∙ e) (at_or_not (key y) (key z));
      solid = λ b w ok e. laid_out a len stacked_what vs g.what b (outside b w ok e) ∙ e;
    }
      where
        outside : (b : ℕ) (w : What) → IsSolid w → g.what b ≡ w → (b < a) ⊎ (a + length vs ≤ b)
        outside b w ok e = ⊎_elim (λ r. let (j, v, z, is) = r in absurd (loose w ok (sym (free j v is) ∙ ap g.what z ∙ e))) (λ out. out) (among a b vs)
          where
            loose : (u : What) → IsSolid u → Free ≡ u → ⊥
            loose Other ok e = ok
            loose Free ok e = ok
            loose (Keeps v) ok e = cc
            loose (Shows v) ok e = cc
            loose (Stands x p) ok e = cc

            free : (j : ℕ) (v : ℤ) → slice_get vs j ≡ Some v → g.what (a + j) ≡ Free
            free j v is = loose' j (length_in vs j v is)

    in_place : (b j : ℕ) (v : ℤ) (x : Access) (p : Address) → a + j ≡ b → slice_get vs j ≡ Some v → h.what b ≡ Stands x p → p ≡ Stacked (len + j)
    in_place b j v x p z is e = let q : Stands Full (Stacked (len + j)) ≡ Stands x p = sym (laid_in a len stacked_what vs g.what j v is) ∙ ap h.what z ∙ e in cc

    stacked_same : (m n : ℕ) → Stacked m ≡ Stacked n → m ≡ n
    stacked_same m n e = cc

    one' : (b c : ℕ) (x z : Access) (p : Address) → h.what b ≡ Stands x p → h.what c ≡ Stands z p → b ≡ c
    one' b c x z p eb ec = ⊎_elim
        (λ r. let (j, v, zb, is) = r in ⊎_elim
        (λ r'. let (j', v', zc, is') = r' in
        let q : len + j ≡ len + j' = stacked_same (len + j) (len + j') (sym (in_place b j v x p zb is eb) ∙ in_place c j' v' z p zc is' ec) in
        let w : b ≡ c = omega (arith, zb, zc, q) in w)
        (λ out'. let l : len + j < len = fresh c z (len + j) (sym (laid_out a len stacked_what vs g.what c out') ∙ ec ∙ ap (Stands z) (in_place b j v x p zb is eb)) in absurd (omega (arith, l)))
        (among a c vs))
        (λ out. ⊎_elim
        (λ r'. let (j', v', zc, is') = r' in
        let l : len + j' < len = fresh b x (len + j') (sym (laid_out a len stacked_what vs g.what b out) ∙ eb ∙ ap (Stands x) (in_place c j' v' z p zc is' ec)) in absurd (omega (arith, l)))
        (λ out'. k.one b c x z p (sym (laid_out a len stacked_what vs g.what b out) ∙ eb) (sym (laid_out a len stacked_what vs g.what c out') ∙ ec))
        (among a c vs))
        (among a b vs)

    named : Named
    named = record { through = false; place = own o; cells = length vs }

    other : (z : Entity) (t : Bool) → entity_eq y z ≡ t → cond t true (s.seen z) ≡ false → (i : ℕ) → place_in h z i ≡ None
    other z true e o i = absurd (true≢false o)
    other z false e o i = place_other z i (key_other y z e) ∙ k.hidden z i o

    here_place : (i : ℕ) → i < length vs → place_in h y i ≡ Some (Stacked (len + i))
    here_place i lt =
        rw (slot_bound g.here (key y) (slot_for g len vs) slots) (rw (at_same g.frame) (rw (lt-ltb i (length vs) lt) refl))

    found : (z : Entity) (n : Named) (t : Bool) → entity_eq y z ≡ t → cond t (Some named) (s.scope.object z) ≡ Some n → Refers h f n z 0
    found z n true e o = subst (λ n. Refers h f n z 0) (some_same named n o) (subst (λ z. Refers h f named z 0) (entity_same y z e) (record {
      address = a;
      leads = refl;
      spread = record {
        near = (let t = k.top in omega (arith, t, room));
        cell = λ i lt.
            let (v, is) = get_of vs i lt in
            let z0 : 0 + i ≡ i = omega arith in
            (Stacked (len + i), Full, ap (λ i. place_in h y i) z0 ∙ here_place i lt, laid_in a len stacked_what vs g.what i v is);
      };
    }))
    found z n false e o = refers_more more (k.object z n o)

-- the first free cells
pub knows_having : {limit : ℕ} {cuts : ℕ → ℕ → List ℕ} {g : Ghost} {f : Fixed} {s : Sight} {env : Env} (y : Entity) (len : ℕ) (vs : List ℤ) → s.scope.free + length vs ≤ s.cells → key y < length g.here → s.seen y ≡ false → Fresh g len → Knows limit cuts g f s env
    → Knows limit cuts (having y len (f.base + s.scope.free) vs g) f (object_here s y (length vs)) env
knows_having {limit} {g} {f} {s} {env} y len vs room slots new fresh k =
    knows_having_at {s = taking (length vs) s} s.scope.free y len vs (le_refl (s.scope.free + length vs)) room
    (λ j lt. (let z : f.base + s.scope.free + j ≡ f.base + (s.scope.free + j) = omega arith in ap g.what z) ∙ k.free (s.scope.free + j) (omega arith) (omega (arith, lt, room))) slots new fresh
    (record {
      most = k.most;
      nested = k.nested;
      plan = k.plan;
      kept = k.kept;
      top = k.top;
      beyond = k.beyond;
      global = k.global;
      outside = k.outside;
      one = k.one;
      old = k.old;
      hidden = k.hidden;
      object = k.object;
      parameter = k.parameter;
      item = k.item;
      constant_item = k.constant_item;
      target = k.target;
      handled = k.handled;
      free = λ m le lt. k.free m (omega (arith, le)) lt;
    })

-- numbers are kept in cells that aren't among the free ones of the scope
pub knows_kept : {limit : ℕ} {cuts : ℕ → ℕ → List ℕ} {g : Ghost} {f : Fixed} {s : Sight} {env : Env} (o : ℕ) (vs : List ℤ) → o + length vs ≤ s.scope.free → s.scope.free ≤ s.cells → ((j : ℕ) → j < length vs → g.what (f.base + o + j) ≡ Free) → Knows limit cuts g f s env → Knows limit cuts (keeping (f.base + o) vs g) f s env
knows_kept {limit} {g} {f} {s} {env} o vs below room free k = record {
  most = k.most;
  nested = k.nested;
  plan = k.plan;
  kept = k.kept;
  top = k.top;
  outside = k.outside;
  old = k.old;
  hidden = k.hidden;
  beyond = λ b le. laid_out a 0 kept_what vs g.what b (inr (let t = k.top in let l : a + length vs ≤ b = omega (arith, le, t, below, room) in l)) ∙ k.beyond b le;
  global = λ z n e. main_more z refl more (k.global z n e);
  one = λ b c x y p e e'. k.one b c x y p (stands b x p e) (stands c y p e');
  object = λ z n e. refers_more more (k.object z n e);
  parameter = λ j w e. holds_more f w (env.parameter j) more (k.parameter j w e);
  item = λ j n e. refers_more more (k.item j n e);
  constant_item = λ j n e. refers_more more (k.constant_item j n e);
  target = λ n e. refers_more more (k.target n e);
  handled = λ w e. holds_more f w _ more (k.handled w e);
  free = λ n le lt. laid_out a 0 kept_what vs g.what (f.base + n) (inr (let l : f.base + o + length vs ≤ f.base + n = omega (arith, le, below) in l)) ∙ k.free n le lt;
}
  where
    a : ℕ
    a = f.base + o

    stands : (b : ℕ) (x : Access) (p : Address) → (keeping a vs g).what b ≡ Stands x p → g.what b ≡ Stands x p
    stands b x p e = ⊎_elim
        (λ r. let (j, v, z, is) = r in absurd (let q : Keeps v ≡ Stands x p = sym (laid_in a 0 kept_what vs g.what j v is) ∙ ap (keeping a vs g).what z ∙ e in cc))
        (λ out. sym (laid_out a 0 kept_what vs g.what b out) ∙ e)
        (among a b vs)

    more : Extends g (keeping a vs g)
    more = record {
      top = le_refl g.top;
      place = λ z i p e. e;
      solid = λ b w ok e. ⊎_elim
          (λ r. let (j, v, z, is) = r in absurd (loose w ok (sym (free j (length_in vs j v is)) ∙ ap g.what z ∙ e)))
          (λ out. laid_out a 0 kept_what vs g.what b out ∙ e)
          (among a b vs);
    }
      where
        loose : (u : What) → IsSolid u → Free ≡ u → ⊥
        loose Other ok e = ok
        loose Free ok e = ok
        loose (Keeps v) ok e = cc
        loose (Shows v) ok e = cc
        loose (Stands x p) ok e = cc

-- one more number
pub keep_one_more : (a : ℕ) (vs : List ℤ) (v : ℤ) (g : Ghost) (b : ℕ) → (set_what (a + length vs) (Keeps v) (keeping a vs g)).what b ≡ (keeping a (vs ++ (v ∷ [])) g).what b
keep_one_more a vs v g b = ⊎_elim
    (λ e. subst (λ b. (set_what (a + length vs) (Keeps v) (keeping a vs g)).what b ≡ (keeping a (vs ++ (v ∷ [])) g).what b) e
    (what_same (keeping a vs g) (a + length vs) (Keeps v) ∙ sym (laid_in a 0 kept_what (vs ++ (v ∷ [])) g.what (length vs) v (last vs))))
    (λ ne. ⊎_elim
    (λ r. let (j, u, z, is) = r in what_other (keeping a vs g) (a + length vs) b (Keeps v) ne
    ∙ (subst (λ b. (keeping a vs g).what b ≡ (keeping a (vs ++ (v ∷ [])) g).what b) z (laid_in a 0 kept_what vs g.what j u is ∙ sym (laid_in a 0 kept_what (vs ++ (v ∷ [])) g.what j u (get_left vs (v ∷ []) j u is)))))
    (λ out. what_other (keeping a vs g) (a + length vs) b (Keeps v) ne
    ∙ laid_out a 0 kept_what vs g.what b out
    ∙ sym (laid_out a 0 kept_what (vs ++ (v ∷ [])) g.what b (⊎_elim (λ lt. inl lt) (λ le. inr (let z : length (vs ++ (v ∷ [])) ≡ length vs + 1 = length-append vs (v ∷ []) in omega (arith, le, ne, z))) out)))
    (among a b vs))
    (at_or_not (a + length vs) b)
  where
    last : (vs : List ℤ) → slice_get (vs ++ (v ∷ [])) (length vs) ≡ Some v
    last [] = refl
    last (u ∷ vs) = last vs

-- numbers are stored in cells that are free
pub keep_more : (a : ℕ) (v : ℤ) (vs : List ℤ) (g : Ghost) (b : ℕ) → (keeping (a + 1) vs (set_what a (Keeps v) g)).what b ≡ (keeping a (v ∷ vs) g).what b
keep_more a v vs g b = ⊎_elim
    (λ e. subst (λ b. (keeping (a + 1) vs (set_what a (Keeps v) g)).what b ≡ (keeping a (v ∷ vs) g).what b) e
    (laid_out (a + 1) 0 kept_what vs (set_what a (Keeps v) g).what a (inl (omega arith)) ∙ what_same g a (Keeps v) ∙ sym (ap (λ t. cond t (Keeps v) (laid_what (a + 1) 1 kept_what vs g.what a)) (at_same a))))
    (λ ne. ⊎_elim
    (λ r. let (k, u, z, is) = r in subst (λ b. (a ≡ b → ⊥) → (keeping (a + 1) vs (set_what a (Keeps v) g)).what b ≡ (keeping a (v ∷ vs) g).what b) z
    (λ ne. laid_in (a + 1) 0 kept_what vs (set_what a (Keeps v) g).what k u is ∙ sym (ap (λ t. cond t (Keeps v) (laid_what (a + 1) 1 kept_what vs g.what (a + 1 + k))) (ne_eqb a (a + 1 + k) ne) ∙ laid_in (a + 1) 1 kept_what vs g.what k u is)) ne)
    (λ out. laid_out (a + 1) 0 kept_what vs (set_what a (Keeps v) g).what b out ∙ what_other g a b (Keeps v) ne
    ∙ sym (ap (λ t. cond t (Keeps v) (laid_what (a + 1) 1 kept_what vs g.what b)) (ne_eqb a b ne) ∙ laid_out (a + 1) 1 kept_what vs g.what b out))
    (among (a + 1) b vs))
    (at_or_not a b)
