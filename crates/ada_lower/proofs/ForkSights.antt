-- Threads on views do what those of the stored run do: none is stuck.
use Rattle.std.proofs.Common.{◌≡◌, ℕ, zero, suc, ◌+◌, ℤ, pos, List, [], ◌∷◌, length, slice_get, nat_eq, Option, Some, None, Bool, true, false, cond, refl, sym, ap, ap₂, ◌∙◌, subst, arith, ◌⊎◌, inl, inr}
use Rattle.behaviours.specs.Paths.{Entity, VariableOf, ConstantOf}
use Rattle.ada_meaning.specs.Stored as stored
use Rattle.ada_meaning.specs.Stored.{Touch, Address}
use Rattle.ada_meaning.specs.Meaning.{Env}
use Rattle.ada_meaning.proofs.Cells.{some_same}
use Rattle.ada_base.specs.Cells.{Cell, Gone, Seen, Mine, value_in}
use Rattle.ada_lower.specs.Driven.{Dyn, Fixed}
use Rattle.ada_lower.specs.Sights.{Named, Sight, Where}
use Rattle.ada_lower.specs.Fits.{What, Other, Free, Keeps, Shows, Access, Barred, Readable, Full, Bears, Right, allows, Allowed, Allows, Ghost, Fit, IsNumber, Leads, Refers, Knows, Stands as StandsFor, Spread}
use Rattle.ada_lower.proofs.ForkViews.{access_by, lesser, view_what, view_cell, viewed, view_of, view_ghost, no_free, TouchFits, TouchesFit, Apart}
use Rattle.ada_lower.proofs.Memory.{at_same}

-- ---- cells of a view

length_viewed : (y : ℕ → Access) (a : ℕ) (zs : List Cell) → length (viewed y a zs) ≡ length zs
length_viewed y a [] = refl
length_viewed y a (z ∷ zs) = ap suc (length_viewed y (suc a) zs)

get_viewed : (y : ℕ → Access) (a k : ℕ) (zs : List Cell) (z : Cell) → slice_get zs k ≡ Some z → slice_get (viewed y a zs) k ≡ Some (view_cell (y (a + k)) z)
get_viewed y a k [] z e = absurd (let h : ◌≡◌ {A = Option Cell} None (Some z) = e in cc)
get_viewed y a zero (u ∷ zs) z e = ap₂ (λ b z. Some (view_cell (y b) z)) (let h : a ≡ a + 0 = omega arith in h) (some_same u z e)
get_viewed y a (suc k) (u ∷ zs) z e = get_viewed y (suc a) k zs z e ∙ ap (λ b. Some (view_cell (y b) z)) (let h : suc a + k ≡ a + suc k = omega arith in h)

seen_is : (o : Option Cell) (v : ℤ) → value_in o ≡ Some v → (o ≡ Some (Seen v)) ⊎ (o ≡ Some (Mine v))
seen_is None v e = absurd (let h : ◌≡◌ {A = Option ℤ} None (Some v) = e in cc)
seen_is (Some Gone) v e = absurd (let h : ◌≡◌ {A = Option ℤ} None (Some v) = e in cc)
seen_is (Some (Seen u)) v e = inl (ap (λ z. Some (Seen z)) (some_same u v e))
seen_is (Some (Mine u)) v e = inr (ap (λ z. Some (Mine z)) (some_same u v e))

module _ (y : ℕ → Access) (s : stored.State) (zs : List Cell) (a : ℕ) where
  abbrev there : Option Cell
  there = slice_get (viewed y 0 zs) a

  here : (z : Cell) → slice_get zs a ≡ Some z → there ≡ Some (view_cell (y a) z)
  here z e = get_viewed y 0 a zs z e ∙ ap (λ b. Some (view_cell (y b) z)) (let h : 0 + a ≡ a = omega arith in h)

  read_number : (v : ℤ) → (b : Access) → y a ≡ b → value_in (slice_get zs a) ≡ Some v → Right (view_what b (Shows v)) s there
  read_number v Barred e r = tt
  read_number v Readable e r = go (seen_is (slice_get zs a) v r)
    where
      go : (slice_get zs a ≡ Some (Seen v)) ⊎ (slice_get zs a ≡ Some (Mine v)) → value_in there ≡ Some v
      go (inl h) = ap value_in (here (Seen v) h ∙ ap (λ b. Some (view_cell b (Seen v))) e)
      go (inr h) = ap value_in (here (Mine v) h ∙ ap (λ b. Some (view_cell b (Mine v))) e)
  read_number v Full e r = go (seen_is (slice_get zs a) v r)
    where
      go : (slice_get zs a ≡ Some (Seen v)) ⊎ (slice_get zs a ≡ Some (Mine v)) → value_in there ≡ Some v
      go (inl h) = ap value_in (here (Seen v) h ∙ ap (λ b. Some (view_cell b (Seen v))) e)
      go (inr h) = ap value_in (here (Mine v) h ∙ ap (λ b. Some (view_cell b (Mine v))) e)

  bears_view : (x : Access) (v : ℤ) (b : Access) → y a ≡ b → Bears x v (slice_get zs a) → Bears (lesser x b) v there
  bears_view Barred v b e r = tt
  bears_view Readable v Barred e r = tt
  bears_view Readable v Readable e r = read_number v Readable e r
  bears_view Readable v Full e r = read_number v Full e r
  bears_view Full v Barred e r = tt
  bears_view Full v Readable e r = ap value_in (here (Mine v) r ∙ ap (λ b. Some (view_cell b (Mine v))) e)
  bears_view Full v Full e r = here (Mine v) r ∙ ap (λ b. Some (view_cell b (Mine v))) e

  kept_number : (v : ℤ) (b : Access) → y a ≡ b → slice_get zs a ≡ Some (Mine v) → Right (view_what b (Keeps v)) s there
  kept_number v Barred e r = tt
  kept_number v Readable e r = read_number v Readable e (ap value_in r)
  kept_number v Full e r = read_number v Full e (ap value_in r)

  pub right_view : (w : What) → Right w s (slice_get zs a) → Right (view_what (y a) w) s there
  right_view Other r = tt
  right_view Free r = tt
  right_view (Keeps v) r = kept_number v (y a) refl r
  right_view (Shows v) r = read_number v (y a) refl r
  right_view (StandsFor x p) (v, cell, b) = (v, cell, bears_view x v (y a) refl b)

-- ---- the view fits

module _ (owner : ℕ → Option ℕ) (j : ℕ) where
  pub fit_view : {g : Ghost} {s : stored.State} {d : Dyn} → Fit g s d → Fit (view_ghost owner j g) s (view_of owner j d)
  fit_view {g} {s} {d} w = record {
    here = w.here;
    everywhere = w.everywhere;
    declared = w.declared;
    frame = w.frame;
    least = w.least;
    most = w.most;
    plan = w.plan;
    order = w.order;
    top = length_viewed (λ a. access_by (owner a) j) 0 d.cells ∙ w.top;
    agrees = record { turns = w.agrees.turns; left = w.agrees.left; taken = w.agrees.taken; held = w.agrees.held; input = w.agrees.input; output = w.agrees.output; notes = w.agrees.notes; done = w.agrees.done };
    cells = λ a. right_view (λ a. access_by (owner a) j) s d.cells a (g.what a) (w.cells a);
  }

  -- and what is known of names
  module _ {limit : ℕ} {cuts : ℕ → ℕ → List ℕ} {g : Ghost} {f : Fixed} {s : Sight} {env : Env} (k : Knows limit cuts g f s env) (apart : Apart g owner) where
    pub number_view : (a : ℕ) (v : ℤ) → IsNumber (g.what a) v → IsNumber ((view_ghost owner j g).what a) v
    number_view a v (inl e) = inr (ap₂ (λ o w. view_what (access_by o j) w) (apart.keeps a v e) e)
    number_view a v (inr e) = inr (ap₂ (λ o w. view_what (access_by o j) w) (apart.shows a v e) e)

    pub stands_view : (a : ℕ) (x : Access) (p : Address) → g.what a ≡ StandsFor x p → (view_ghost owner j g).what a ≡ StandsFor (lesser x (access_by (owner a) j)) p
    stands_view a x p e = ap (λ w. view_what (access_by (owner a) j) w) e

    stood : (y : Access) (w : What) (x : Access) (p : Address) → view_what y w ≡ StandsFor x p → (z : Access) × (w ≡ StandsFor z p)
    stood y Other x p e = absurd (let h : Other ≡ StandsFor x p = e in cc)
    stood y Free x p e = absurd (let h : Other ≡ StandsFor x p = e in cc)
    stood Barred (Keeps v) x p e = absurd (let h : Other ≡ StandsFor x p = e in cc)
    stood Readable (Keeps v) x p e = absurd (let h : Shows v ≡ StandsFor x p = e in cc)
    stood Full (Keeps v) x p e = absurd (let h : Shows v ≡ StandsFor x p = e in cc)
    stood Barred (Shows v) x p e = absurd (let h : Other ≡ StandsFor x p = e in cc)
    stood Readable (Shows v) x p e = absurd (let h : Shows v ≡ StandsFor x p = e in cc)
    stood Full (Shows v) x p e = absurd (let h : Shows v ≡ StandsFor x p = e in cc)
    stood y (StandsFor z q) x p e = (z, ap (λ q. StandsFor z q) (let h : StandsFor (lesser z y) q ≡ StandsFor x p = e in cc))

    leads_view : (t : Bool) (w : Where) (b : ℕ) → Leads t g f w b → Leads t (view_ghost owner j g) f w b
    leads_view true w b (a, is, num) = (a, is, number_view a (pos b) num)
    leads_view false w b is = is

    pub spread_view : (x : Entity) (first count address : ℕ) → Spread g x first count address → Spread (view_ghost owner j g) x first count address
    spread_view x first count address r = record { near = r.near; cell = λ i lt. let (p, y, e, z) = r.cell i lt in (p, lesser y (access_by (owner (address + i)) j), e, stands_view (address + i) y p z) }

    refers_view : (n : Named) (x : Entity) (first : ℕ) → Refers g f n x first → Refers (view_ghost owner j g) f n x first
    refers_view n x first r = record {
      address = r.address;
      leads = leads_view n.through n.place r.address r.leads;
      spread = record { near = r.spread.near; cell = λ i lt. let (p, y, e, z) = r.spread.cell i lt in (p, lesser y (access_by (owner (r.address + i)) j), e, stands_view (r.address + i) y p z) };
    }

    pub knows_view : Knows limit cuts (view_ghost owner j g) f (no_free s) env
    knows_view = record {
      most = k.most;
      nested = k.nested;
      plan = k.plan;
      kept = k.kept;
      one = λ a b x y p e e'. let (z, h) = stood (access_by (owner a) j) (g.what a) x p e in let (z', h') = stood (access_by (owner b) j) (g.what b) y p e' in k.one a b z z' p h h';
      old = k.old;
      hidden = k.hidden;
      global = λ x n e. let (m, is, there, cells, near) = k.global x n e in (m, is, there, (λ i lt. let (p, y, z, w) = cells i lt in (p, lesser y (access_by (owner (m + i)) j), z, stands_view (m + i) y p w)), near);
      outside = k.outside;
      top = k.top;
      beyond = λ a ge. ap (λ w. view_what (access_by (owner a) j) w) (k.beyond a ge);
      object = λ x n e. refers_view n x 0 (k.object x n e);
      parameter = λ i w e. let (a, is, num) = k.parameter i w e in (a, is, number_view a (env.parameter i) num);
      item = λ i n e. refers_view n (VariableOf (env.item i).object) (env.item i).offset (k.item i n e);
      constant_item = λ i n e. refers_view n (ConstantOf (env.constant_item i).object) (env.constant_item i).offset (k.constant_item i n e);
      target = λ n e. refers_view n (VariableOf env.target.object) env.target.offset (k.target n e);
      handled = λ w e. let (a, is, num) = k.handled w e in (a, is, number_view a _ num);
      free = λ n le lt. absurd (omega (arith, le, lt));
    }

    -- ---- what it touches is allowed

    -- what may be done by both may be done by the lesser
    allows_lesser : (x y : Access) (b : Bool) → allows x b ≡ true → allows y b ≡ true → allows (lesser x y) b ≡ true
    allows_lesser Barred y b e e' = e
    allows_lesser Readable Barred b e e' = e'
    allows_lesser Readable Readable b e e' = e
    allows_lesser Readable Full b e e' = e
    allows_lesser Full y b e e' = e'

    allowed_view : (t : Touch) → Allowed g t → TouchFits g owner j t → Allowed (view_ghost owner j g) t
    allowed_view t may fits a x e =
        let (z, h) = stood (access_by (owner a) j) (g.what a) x t.place e in
        let (own, other) = fits a z h in
        let same : StandsFor (lesser z (access_by (owner a) j)) t.place ≡ StandsFor x t.place = sym (stands_view a z t.place h) ∙ e in
        let is : lesser z (access_by (owner a) j) ≡ x = cc in
        subst (λ x. allows x t.writes ≡ true) is (allows_lesser z (access_by (owner a) j) t.writes (may a z h) (go t.writes (owner a) own other))
      where
        here : (l : ℕ) → l ≡ j → access_by (Some l) j ≡ Full
        here l e = ap (λ b. cond b Full Barred) (ap (λ m. nat_eq m j) e ∙ at_same j)

        go : (b : Bool) (o : Option ℕ) → (b ≡ true → o ≡ Some j) → (b ≡ false → (l : ℕ) → o ≡ Some l → l ≡ j) → allows (access_by o j) b ≡ true
        go true None own other = absurd (let h : ◌≡◌ {A = Option ℕ} None (Some j) = own refl in cc)
        go true (Some l) own other = ap (λ y. allows y true) (here l (some_same l j (own refl)))
        go false None own other = refl
        go false (Some l) own other = ap (λ y. allows y false) (here l (other refl l refl))

    pub allows_view : (ts : List Touch) → Allows g ts → TouchesFit g owner j ts → Allows (view_ghost owner j g) ts
    allows_view [] al fits = tt
    allows_view (t ∷ ts) al fits = (allowed_view t al.0 fits.0, allows_view ts al.1 fits.1)
