-- Cells that are read, written and kept.
use Rattle.std.proofs.Common.{◌≡◌, ℕ, ◌+◌, ◌<◌, ◌≤◌, ℤ, pos, List, set, slice_get, nat_eq, Option, Some, Bool, true, false, cond, refl, sym, ap, ◌∙◌, subst, le_refl, arith, ◌⊎◌, inl, inr, ⊎_elim, true≢false, eqb-true, length-set}
use Rattle.std.proofs.lemmas.Bool.{eqb-false, ne_eqb}
use Rattle.behaviours.specs.Paths.{Entity, VariableOf}
use Rattle.ada_meaning.specs.Stored as stored
use Rattle.ada_meaning.specs.Stored.{Stored, Address, Kept, Stacked, Touch, cell_at, put_at, place_of, read_at, written_at, touched, slot_at, key, within}
use Rattle.ada_meaning.specs.Meaning.{Env}
use Rattle.ada_meaning.proofs.Cells.{get_set_same, get_set_other}
use Rattle.stack_code.specs.declared.code.Code.{Code}
use Rattle.stack_code.specs.Listing.{reason_number}
use Rattle.ada_base.specs.Cells.{Cell, Mine, value_in}
use Rattle.ada_lower.specs.Driven.{Dyn, Fixed, Step}
use Rattle.ada_lower.specs.Sights.{Named, Sight, Where, taking}
use Rattle.ada_lower.specs.Fits.{Access, Barred, Readable, Full, What, Other, Free, Keeps, Shows, Stands, Bears, Right, allows, Ghost, Allows, Agrees, Fit, Ends, Lands, place_in, IsNumber, Leads, Refers, Holds, AtMain, Knows}
use Rattle.ada_lower.proofs.Framework.{any, To, Doing}

-- ---- places of the stored run

pub place_fits : {g : Ghost} {s : stored.State} {d : Dyn} (x : Entity) (i : ℕ) → Fit g s d → place_of s x i ≡ place_in g x i
place_fits {g} {s} x i fit = rw (fit.here, fit.everywhere, fit.frame) refl

put_same : (s : stored.State) (p : Address) (v w : ℤ) → cell_at s p ≡ Some w → cell_at (put_at s p v) p ≡ Some v
put_same s (Kept a) v w e = get_set_same s.kept a v w e
put_same s (Stacked a) v w e = get_set_same s.cells a v w e

put_other : (s : stored.State) (p q : Address) (v : ℤ) → (p ≡ q → ⊥) → cell_at (put_at s p v) q ≡ cell_at s q
put_other s (Kept a) (Kept b) v ne = get_set_other s.kept a b v (λ e. ne (ap Kept e))
put_other s (Kept a) (Stacked b) v ne = refl
put_other s (Stacked a) (Kept b) v ne = refl
put_other s (Stacked a) (Stacked b) v ne = get_set_other s.cells a b v (λ e. ne (ap Stacked e))

put_agrees : (s : stored.State) (p : Address) (v : ℤ) (d : Dyn) (cells : List Cell) → Agrees s d → Agrees (put_at s p v) (record d { cells = cells })
put_agrees s (Kept a) v d cells x = record { turns = x.turns; left = x.left; taken = x.taken; held = x.held; input = x.input; output = x.output; notes = x.notes; done = x.done }
put_agrees s (Stacked a) v d cells x = record { turns = x.turns; left = x.left; taken = x.taken; held = x.held; input = x.input; output = x.output; notes = x.notes; done = x.done }

put_here : (s : stored.State) (p : Address) (v : ℤ) → ((put_at s p v).here ≡ s.here) × ((put_at s p v).everywhere ≡ s.everywhere) × ((put_at s p v).frame ≡ s.frame) × ((put_at s p v).turns ≡ s.turns)
put_here s (Kept a) v = (refl, refl, refl, refl)
put_here s (Stacked a) v = (refl, refl, refl, refl)

put_declared : (s : stored.State) (p : Address) (v : ℤ) → (put_at s p v).declared ≡ s.declared
put_declared s (Kept a) v = refl
put_declared s (Stacked a) v = refl

-- ---- states with the same cells

cell_same : (s t : stored.State) (p : Address) → s.cells ≡ t.cells → s.kept ≡ t.kept → cell_at s p ≡ cell_at t p
cell_same s t (Kept a) e k = ap (λ xs. slice_get xs a) k
cell_same s t (Stacked a) e k = ap (λ xs. slice_get xs a) e

pub right_same : (w : What) (s t : stored.State) (o : Option Cell) → s.cells ≡ t.cells → s.kept ≡ t.kept → Right w s o → Right w t o
right_same Other s t o e k r = r
right_same Free s t o e k r = r
right_same (Keeps v) s t o e k r = r
right_same (Shows v) s t o e k r = r
right_same (Stands x p) s t o e k (v, cell, bears) = (v, sym (cell_same s t p e k) ∙ cell, bears)

-- ---- reading

value_mine : (v : ℤ) (o : Option Cell) → o ≡ Some (Mine v) → value_in o ≡ Some v
value_mine v o e = ap value_in e

pub bears_value : (x : Access) (v : ℤ) (o : Option Cell) → allows x false ≡ true → Bears x v o → value_in o ≡ Some v
bears_value Barred v o a b = absurd (true≢false (sym a))
bears_value Readable v o a b = b
bears_value Full v o a b = value_mine v o b

bears_mine : (x : Access) (v : ℤ) (o : Option Cell) → allows x true ≡ true → Bears x v o → o ≡ Some (Mine v)
bears_mine Barred v o a b = absurd (true≢false (sym a))
bears_mine Readable v o a b = absurd (true≢false (sym a))
bears_mine Full v o a b = b

pub number_seen : (w : What) (v : ℤ) (s : stored.State) (o : Option Cell) → IsNumber w v → Right w s o → value_in o ≡ Some v
number_seen w v s o (inl e) r = value_mine v o (subst (λ w. Right w s o) e r)
number_seen w v s o (inr e) r = subst (λ w. Right w s o) e r

pub cell_seen : (g : Ghost) (a : ℕ) (x : Access) (p : Address) (s : stored.State) (d : Dyn) → Fit g s d → g.what a ≡ Stands x p → Right (Stands x p) s (slice_get d.cells a)
cell_seen g a x p s d fit e = subst (λ w. Right w s (slice_get d.cells a)) e (fit.cells a)

-- ---- what a cell is of, changed at one

abbrev pub set_what : ℕ → What → Ghost → Ghost
set_what a w g = record g { what = λ b. cond (nat_eq a b) w (g.what b) }

pub at_same : (a : ℕ) → nat_eq a a ≡ true
at_same a = go (nat_eq a a) refl
  where
    go : (b : Bool) → nat_eq a a ≡ b → nat_eq a a ≡ true
    go true e = e
    go false e = absurd (eqb-false a a e refl)

pub what_same : (g : Ghost) (a : ℕ) (w : What) → (set_what a w g).what a ≡ w
what_same g a w = ap (λ b. cond b w (g.what a)) (at_same a)

pub what_other : (g : Ghost) (a b : ℕ) (w : What) → (a ≡ b → ⊥) → (set_what a w g).what b ≡ g.what b
what_other g a b w ne = ap (λ t. cond t w (g.what b)) (ne_eqb a b ne)

-- by cases of whether it is that cell
pub at_or_not : (a b : ℕ) → (a ≡ b) ⊎ (a ≡ b → ⊥)
at_or_not a b = go (nat_eq a b) refl
  where
    go : (t : Bool) → nat_eq a b ≡ t → (a ≡ b) ⊎ (a ≡ b → ⊥)
    go true e = inl (eqb-true a b e)
    go false e = inr (eqb-false a b e)

-- what may be written
abbrev pub IsOwn : What → Type 0
IsOwn w = (s : stored.State) (o : Option Cell) → Right w s o → (v : ℤ) × (o ≡ Some (Mine v))

pub own_free : (w : What) → w ≡ Free → IsOwn w
own_free w e s o r = subst (λ w. Right w s o) e r

pub own_keeps : (w : What) (v : ℤ) → w ≡ Keeps v → IsOwn w
own_keeps w v e s o r = (v, subst (λ w. Right w s o) e r)

-- a number is kept in a cell
pub fit_set : {g : Ghost} {s : stored.State} {d : Dyn} (a : ℕ) (v : ℤ) → IsOwn (g.what a) → Fit g s d → Fit (set_what a (Keeps v) g) s (record d { cells = set d.cells a (Mine v) })
fit_set {g} {s} {d} a v own fit = record {
  here = fit.here;
  everywhere = fit.everywhere;
  declared = fit.declared;
  frame = fit.frame;
  top = length-set d.cells a (Mine v) ∙ fit.top;
  least = fit.least;
  most = fit.most;
  agrees = record { turns = fit.agrees.turns; left = fit.agrees.left; taken = fit.agrees.taken; held = fit.agrees.held; input = fit.agrees.input; output = fit.agrees.output; notes = fit.agrees.notes; done = fit.agrees.done };
  plan = fit.plan;
  order = fit.order;
  cells = λ b. ⊎_elim
      (λ e. subst (λ b. Right ((set_what a (Keeps v) g).what b) s (slice_get (set d.cells a (Mine v)) b)) e
      (subst (λ w. Right w s (slice_get (set d.cells a (Mine v)) a)) (sym (what_same g a (Keeps v)))
      (let (u, is) = own s (slice_get d.cells a) (fit.cells a) in get_set_same d.cells a (Mine v) (Mine u) is)))
      (λ ne. subst (λ w. Right w s (slice_get (set d.cells a (Mine v)) b)) (sym (what_other g a b (Keeps v) ne))
      (subst (λ o. Right (g.what b) s o) (sym (get_set_other d.cells a b (Mine v) ne)) (fit.cells b)))
      (at_or_not a b);
}

-- and isn't kept any more
pub fit_unset : {g : Ghost} {s : stored.State} {d : Dyn} (a : ℕ) (v : ℤ) → g.what a ≡ Free → Fit (set_what a (Keeps v) g) s d → Fit g s d
fit_unset {g} {s} {d} a v free fit = record {
  here = fit.here;
  everywhere = fit.everywhere;
  declared = fit.declared;
  frame = fit.frame;
  top = fit.top;
  least = fit.least;
  most = fit.most;
  agrees = fit.agrees;
  plan = fit.plan;
  order = fit.order;
  cells = λ b. ⊎_elim
      (λ e. subst (λ b. Right (g.what b) s (slice_get d.cells b)) e
      (subst (λ w. Right w s (slice_get d.cells a)) (sym free)
      (v, subst (λ w. Right w s (slice_get d.cells a)) (what_same g a (Keeps v)) (fit.cells a))))
      (λ ne. subst (λ w. Right w s (slice_get d.cells b)) (what_other g a b (Keeps v) ne) (fit.cells b))
      (at_or_not a b);
}

-- ---- more is known

abbrev pub IsSolid : What → Type 0
IsSolid Other = ⊥
IsSolid Free = ⊥
IsSolid (Keeps v) = Unit {0}
IsSolid (Shows v) = Unit {0}
IsSolid (Stands x p) = Unit {0}

pub record Extends (g h : Ghost) : Type 0 where
  pub top : g.top ≤ h.top
  pub place : (x : Entity) (i : ℕ) (p : Address) → place_in g x i ≡ Some p → place_in h x i ≡ Some p
  pub solid : (a : ℕ) (w : What) → IsSolid w → g.what a ≡ w → h.what a ≡ w

pub number_more : {g h : Ghost} {a : ℕ} {v : ℤ} → Extends g h → IsNumber (g.what a) v → IsNumber (h.what a) v
number_more {g} {h} {a} {v} e (inl k) = inl (e.solid a (Keeps v) tt k)
number_more {g} {h} {a} {v} e (inr k) = inr (e.solid a (Shows v) tt k)

pub leads_more : {g h : Ghost} (t : Bool) (f : Fixed) (w : Where) (b : ℕ) → Extends g h → Leads t g f w b → Leads t h f w b
leads_more true f w b e (a, at, n) = (a, at, number_more e n)
leads_more false f w b e l = l

pub refers_more : {g h : Ghost} {f : Fixed} {n : Named} {x : Entity} {first : ℕ} → Extends g h → Refers g f n x first → Refers h f n x first
refers_more {g} {h} {f} {n} {x} {first} e r = record {
  address = r.address;
  leads = leads_more n.through f n.place r.address e r.leads;
  spread = record { near = (let n = r.spread.near in let t = e.top in omega (arith, n, t)); cell = λ i lt. let (p, acc, here, is) = r.spread.cell i lt in (p, acc, e.place x (first + i) p here, e.solid (r.address + i) (Stands acc p) tt is) };
}

pub holds_more : {g h : Ghost} (f : Fixed) (w : Where) (v : ℤ) → Extends g h → Holds g f w v → Holds h f w v
holds_more f w v e (a, at, n) = (a, at, number_more e n)

pub main_more : {g h : Ghost} {n : Named} (y : Entity) → ((slot_at h.everywhere (key y)) ≡ (slot_at g.everywhere (key y))) → Extends g h → AtMain g n y → AtMain h n y
main_more {g} {h} {n} y same e (m, is, frame, cells, near) = (m, is, ap (λ z. z.frame) same ∙ frame, (λ i lt. let (p, acc, here, w) = cells i lt in (p, acc, ap (λ z. within Kept z i) same ∙ here, e.solid (m + i) (Stands acc p) tt w)), (let t = e.top in omega (arith, near, t)))

pub free_extends : (g : Ghost) (a : ℕ) (w : What) → g.what a ≡ Free → Extends g (set_what a w g)
free_extends g a w free = record {
  top = le_refl g.top;
  place = λ x i p e. e;
  solid = λ b u ok is. ⊎_elim (λ e. absurd (loose u ok (sym free ∙ ap g.what e ∙ is))) (λ ne. what_other g a b w ne ∙ is) (at_or_not a b);
}
  where
    loose : (u : What) → IsSolid u → Free ≡ u → ⊥
    loose Other ok e = ok
    loose Free ok e = ok
    loose (Keeps v) ok e = cc
    loose (Shows v) ok e = cc
    loose (Stands x p) ok e = cc

keeps_stands : (v : ℤ) (x : Access) (p : Address) → Keeps v ≡ Stands x p → ⊥
keeps_stands v x p e = cc

-- the first free cell is taken, and holds a number
pub knows_keep : {limit : ℕ} {cuts : ℕ → ℕ → List ℕ} {g : Ghost} {f : Fixed} {s : Sight} {env : Env} (v : ℤ) → s.scope.free < s.cells → Knows limit cuts g f s env → Knows limit cuts (set_what (f.base + s.scope.free) (Keeps v) g) f (taking 1 s) env
knows_keep {limit} {g} {f} {s} {env} v room k =
    let a : ℕ = f.base + s.scope.free in
    let free : g.what a ≡ Free = k.free s.scope.free (le_refl s.scope.free) room in
    let e : Extends g (set_what a (Keeps v) g) = free_extends g a (Keeps v) free in
    record {
      most = k.most;
      nested = k.nested;
      plan = k.plan;
      kept = k.kept;
      top = k.top;
      beyond = λ b le. what_other g a b (Keeps v) (λ z. let t = k.top in omega (arith, z, le, t, room)) ∙ k.beyond b le;
      global = λ x n h. main_more x refl e (k.global x n h);
      outside = k.outside;
      one = λ b c x y p h j. k.one b c x y p (back b x p h) (back c y p j);
      old = k.old;
      hidden = k.hidden;
      object = λ x n h. refers_more e (k.object x n h);
      parameter = λ j w h. holds_more f w (env.parameter j) e (k.parameter j w h);
      item = λ j n h. refers_more e (k.item j n h);
      constant_item = λ j n h. refers_more e (k.constant_item j n h);
      target = λ n h. refers_more e (k.target n h);
      handled = λ w h. holds_more f w (pos (reason_number env.handled)) e (k.handled w h);
      free = λ n le lt. what_other g a (f.base + n) (Keeps v) (λ z. omega (arith, z, le)) ∙ k.free n (omega (arith, le)) lt;
    }
  where
    back : (b : ℕ) (x : Access) (p : Address) → (set_what (f.base + s.scope.free) (Keeps v) g).what b ≡ Stands x p → g.what b ≡ Stands x p
    back b x p h = ⊎_elim
        (λ e. absurd (keeps_stands v x p (sym (what_same g (f.base + s.scope.free) (Keeps v)) ∙ ap (set_what (f.base + s.scope.free) (Keeps v) g).what e ∙ h)))
        (λ ne. sym (what_other g (f.base + s.scope.free) b (Keeps v) ne) ∙ h)
        (at_or_not (f.base + s.scope.free) b)

-- ---- parts that read and write

module _ (limit : ℕ) (c : Code) (f : Fixed) (x : Ends) where
  pub does_read : {g : Ghost} {from : Dyn → Step} {to : ℤ → Dyn → Step} (y : Entity) (i a : ℕ) (p : Address) (access : Access) → place_in g y i ≡ Some p → g.what a ≡ Stands access p
      → ((v : ℤ) (d : Dyn) → value_in (slice_get d.cells a) ≡ Some v → To limit c (from d) (to v d)) → Doing limit c f x g g any (stored.reads y i) from to
  unfolding stored.reads
  does_read {g} {from} {to} y i a p access here stands k = record {
    by = λ s d fit al.
        let at : place_of s y i ≡ Some p = place_fits y i fit ∙ here in
        let (v, cell, bears) = cell_seen g a access p s d fit stands in
        let may : allows access false ≡ true = (subst (λ o. Allows g (touched false o)) at al.0).0 a access stands in
        let z : value_in (slice_get d.cells a) ≡ Some v = bears_value access v (slice_get d.cells a) may bears in
        subst (λ o. let r = read_at s o in Lands limit c f x any g (from d) s.turns to r.state r.end) (sym at)
        (subst (λ o. let r = stored.value_read s o in Lands limit c f x any g (from d) s.turns to r.state r.end) (sym cell)
        (tt, record { dyn = d; fit = fit; comes = k v d z _; grows = le_refl s.turns }));
  }

  put_notes : (s : stored.State) (p : Address) (v : ℤ) → (put_at s p v).notes ≡ s.notes
  put_notes s (stored.Kept a) v = refl
  put_notes s (stored.Stacked a) v = refl

  fit_put : {g : Ghost} {s : stored.State} {d : Dyn} (a : ℕ) (p : Address) (v u : ℤ) → ((b : ℕ) (y : Access) → g.what b ≡ Stands y p → a ≡ b) → g.what a ≡ Stands Full p → cell_at s p ≡ Some u → slice_get d.cells a ≡ Some (Mine u) → Fit g s d
      → Fit g (put_at s p v) (record d { cells = set d.cells a (Mine v) })
  fit_put {g} {s} {d} a p v u one stands was is fit =
      let (h0, h1, h2, h3) = put_here s p v in
      record {
        here = h0 ∙ fit.here;
        everywhere = h1 ∙ fit.everywhere;
        declared = put_declared s p v ∙ fit.declared;
        frame = h2 ∙ fit.frame;
        top = length-set d.cells a (Mine v) ∙ fit.top;
        least = subst (λ n. g.least ≤ n) (sym h3) fit.least;
        most = subst (λ n. n ≤ g.most) (sym h3) fit.most;
        agrees = put_agrees s p v d (set d.cells a (Mine v)) fit.agrees;
        plan = fit.plan;
        order = λ o. put_notes s p v ∙ fit.order o;
        cells = λ b. ⊎_elim
            (λ e. subst (λ b. Right (g.what b) (put_at s p v) (slice_get (set d.cells a (Mine v)) b)) e
            (subst (λ w. Right w (put_at s p v) (slice_get (set d.cells a (Mine v)) a)) (sym stands) (v, put_same s p v u was, get_set_same d.cells a (Mine v) (Mine u) is)))
            (λ ne. subst (λ o. Right (g.what b) (put_at s p v) o) (sym (get_set_other d.cells a b (Mine v) ne)) (apart b ne (g.what b) refl (fit.cells b)))
            (at_or_not a b);
      }
    where
      apart : (b : ℕ) → (a ≡ b → ⊥) → (w : What) → g.what b ≡ w → Right w s (slice_get d.cells b) → Right w (put_at s p v) (slice_get d.cells b)
      apart b ne Other e r = r
      apart b ne Free e r = r
      apart b ne (Keeps z) e r = r
      apart b ne (Shows z) e r = r
      apart b ne (Stands y q) e (z, cell, bears) = (z, put_other s p q v (λ same. ne (one b y (e ∙ ap (Stands y) (sym same)))) ∙ cell, bears)

  pub does_write : {g : Ghost} {from to : Dyn → Step} (y i a : ℕ) (v : ℤ) (p : Address) (access : Access) → place_in g (VariableOf y) i ≡ Some p → g.what a ≡ Stands access p → ((b : ℕ) (z : Access) → g.what b ≡ Stands z p → a ≡ b)
      → ((u : ℤ) (d : Dyn) → slice_get d.cells a ≡ Some (Mine u) → To limit c (from d) (to (record d { cells = set d.cells a (Mine v) }))) → Doing limit c f x g g any (stored.writes y i v) from (λ _. to)
  unfolding stored.writes
  does_write {g} {from} {to} y i a v p access here stands one k = record {
    by = λ s d fit al.
        let at : place_of s (VariableOf y) i ≡ Some p = place_fits (VariableOf y) i fit ∙ here in
        let (u, cell, bears) = cell_seen g a access p s d fit stands in
        let may : allows access true ≡ true = (subst (λ o. Allows g (touched true o)) at al.0).0 a access stands in
        let z : slice_get d.cells a ≡ Some (Mine u) = bears_mine access u (slice_get d.cells a) may bears in
        let (h0, h1, h2, h3) = put_here s p v in
        subst (λ o. let r = written_at s o v in Lands limit c f x any g (from d) s.turns (λ _. to) r.state r.end) (sym at)
        (tt, record { dyn = record d { cells = set d.cells a (Mine v) }; fit = fit_put a p v u one (full access may stands) cell z fit; comes = k u d z _; grows = le_of s (put_at s p v) h3 });
  }
    where
      full : (z : Access) → allows z true ≡ true → g.what a ≡ Stands z p → g.what a ≡ Stands Full p
      full Barred m e = absurd (true≢false (sym m))
      full Readable m e = absurd (true≢false (sym m))
      full Full m e = e

      le_of : (s t : stored.State) → t.turns ≡ s.turns → s.turns ≤ t.turns
      le_of s t e = omega (arith, e)

-- ghosts that are alike
pub fit_alike : {g : Ghost} {s : stored.State} {d : Dyn} (w : ℕ → What) → ((a : ℕ) → g.what a ≡ w a) → Fit g s d → Fit (record g { what = w }) s d
fit_alike {g} {s} {d} w e k = record {
  here = k.here;
  everywhere = k.everywhere;
  declared = k.declared;
  frame = k.frame;
  top = k.top;
  least = k.least;
  most = k.most;
  agrees = k.agrees;
  plan = k.plan;
  order = k.order;
  cells = λ a. subst (λ z. Right z s (slice_get d.cells a)) (e a) (k.cells a);
}
