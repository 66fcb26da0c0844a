-- Frames of threads: what their cells stand for, and what is known of the names around.
use Rattle.std.proofs.Common.{◌≡◌, ℕ, zero, suc, ◌+◌, ◌-◌, ◌<◌, ◌≤◌, ℤ, pos, ◌+ℤ◌, List, [], ◌∷◌, ◌++◌, length, take, slice_get, nat_eq, nat_lt, Option, Some, None, Bool, true, false, cond, refl, sym, ap, ap₂, ◌∙◌, subst, arith, inl, inr, ⊎_elim, eqb-true, ltb-true, ltb-false, length-append}
use Rattle.std.proofs.lemmas.Bool.{eqb-false}
use Rattle.ada_base.specs.Notes.{InOrder}
use Rattle.behaviours.specs.Joins.{Share}
use Rattle.behaviours.specs.Paths.{Entity, VariableOf, ConstantOf}
use Rattle.ada_meaning.specs.Stored as stored
use Rattle.ada_meaning.specs.Stored.{Address, Touch}
use Rattle.ada_meaning.specs.Meaning.{Env}
use Rattle.ada_meaning.proofs.Cells.{get_left, get_right, get_take, some_same}
use Rattle.stack_code.specs.declared.path.Asked.{Asked}
use Rattle.ada_base.specs.Cells.{Cell, Mine, zeros}
use Rattle.stack_code.specs.Machine.{outward_of}
use Rattle.ada_lower.specs.Driven.{Dyn, Fixed, span_cells, thread_cells, cut_to}
use Rattle.ada_lower.specs.Sights.{moved_named, moved_where, outer_level, outer_named, outer_where, Around, Level, Main, Named, Own, Sight, Where, thread_sight}
use Rattle.ada_lower.specs.Fits.{What, Other, Free, Keeps, Shows, Access, Ghost, Fit, Right, Allows, IsAt, IsNumber, Leads, Refers, Holds, Knows, Stands as StandsFor}
use Rattle.ada_lower.proofs.Forks.{threaded}
use Rattle.ada_lower.proofs.Memory.{set_what, what_same, what_other, at_or_not}

-- ---- lists

get_none : {A : Type 0} (xs : List A) (a : ℕ) → length xs ≤ a → slice_get xs a ≡ None
get_none [] a le = refl
get_none (x ∷ xs) zero le = absurd (omega (arith, le))
get_none (x ∷ xs) (suc a) le = get_none xs a (omega (arith, le))

get_some : {A : Type 0} (xs : List A) (a : ℕ) → a < length xs → (v : A) × (slice_get xs a ≡ Some v)
get_some [] a lt = absurd (omega arith)
get_some (x ∷ xs) zero lt = (x, refl)
get_some (x ∷ xs) (suc a) lt = get_some xs a (omega (arith, lt))

length_zeros : (n : ℕ) → length (zeros n) ≡ n
length_zeros zero = refl
length_zeros (suc n) = ap suc (length_zeros n)

length_take : {A : Type 0} (n : ℕ) (xs : List A) → n ≤ length xs → length (take n xs) ≡ n
length_take zero xs le = refl
length_take (suc n) [] le = absurd (omega (arith, le))
length_take (suc n) (x ∷ xs) le = ap suc (length_take n xs (omega (arith, le)))

-- each cell may be written
abbrev pub AllMine : List Cell → Type 0
AllMine xs = (i : ℕ) → i < length xs → (v : ℤ) × (slice_get xs i ≡ Some (Mine v))

mine_zeros : (n : ℕ) → AllMine (zeros n)
mine_zeros zero i lt = absurd (omega arith)
mine_zeros (suc n) zero lt = (pos 0, refl)
mine_zeros (suc n) (suc i) lt = mine_zeros n i (omega (arith, lt))

mine_cons : (v : ℤ) (xs : List Cell) → AllMine xs → AllMine (Mine v ∷ xs)
mine_cons v xs h zero lt = (v, refl)
mine_cons v xs h (suc i) lt = h i (omega (arith, lt))

mine_span : (first : ℤ) (size : ℕ) (xs : List Cell) → AllMine xs → AllMine (span_cells first size xs)
mine_span first zero xs h = mine_cons (pos 1) (Mine (pos 0) ∷ xs) (mine_cons (pos 0) xs h)
mine_span first (suc n) xs h = mine_cons first (Mine (first +ℤ pos n) ∷ xs) (mine_cons (first +ℤ pos n) xs h)

pub mine_thread : (frame : ℕ) (q : Asked) (j : Share) → AllMine (thread_cells frame q j)
mine_thread frame q j =
    let rest : List Cell = span_cells (q.first +ℤ pos j.first) j.size (zeros (frame - 4)) in
    mine_cons (q.chunk +ℤ pos j.number) (Mine q.initial ∷ rest) (mine_cons q.initial rest (mine_span (q.first +ℤ pos j.first) j.size (zeros (frame - 4)) (mine_zeros (frame - 4))))

length_span : (first : ℤ) (size : ℕ) (xs : List Cell) → length (span_cells first size xs) ≡ length xs + 2
length_span first zero xs = omega arith
length_span first (suc n) xs = omega arith

pub length_thread : (frame : ℕ) (q : Asked) (j : Share) → 4 ≤ frame → length (thread_cells frame q j) ≡ frame
length_thread frame q j le =
    let e : length (span_cells (q.first +ℤ pos j.first) j.size (zeros (frame - 4))) ≡ frame - 4 + 2 = length_span (q.first +ℤ pos j.first) j.size (zeros (frame - 4)) ∙ ap (λ n. n + 2) (length_zeros (frame - 4)) in
    omega (arith, e, le)

-- ---- the ghost of a thread: what is around, and free cells on top

abbrev pub frame_ghost : Ghost → ℕ → Ghost
frame_ghost g n = record g { ordered = true; top = g.top + n; what = λ a. cond (nat_lt a g.top) (g.what a) (cond (nat_lt a (g.top + n)) Free Other) }

lt_of : (a b : ℕ) → a < b → nat_lt a b ≡ true
lt_of a b lt = go (nat_lt a b) refl
  where
    go : (t : Bool) → nat_lt a b ≡ t → nat_lt a b ≡ true
    go true e = e
    go false e = absurd (let ge = ltb-false a b e in omega (arith, ge, lt))

ge_of : (a b : ℕ) → b ≤ a → nat_lt a b ≡ false
ge_of a b ge = go (nat_lt a b) refl
  where
    go : (t : Bool) → nat_lt a b ≡ t → nat_lt a b ≡ false
    go true e = absurd (let lt = ltb-true a b e in omega (arith, ge, lt))
    go false e = e

pub frame_below : (g : Ghost) (n a : ℕ) → a < g.top → (frame_ghost g n).what a ≡ g.what a
frame_below g n a lt = ap (λ b. cond b (g.what a) (cond (nat_lt a (g.top + n)) Free Other)) (lt_of a g.top lt)

pub frame_free : (g : Ghost) (n i : ℕ) → i < n → (frame_ghost g n).what (g.top + i) ≡ Free
frame_free g n i lt = ap₂ (λ b b'. cond b (g.what (g.top + i)) (cond b' Free Other)) (ge_of (g.top + i) g.top (omega arith)) (lt_of (g.top + i) (g.top + n) (omega (arith, lt)))

pub frame_other : (g : Ghost) (n a : ℕ) → g.top + n ≤ a → (frame_ghost g n).what a ≡ Other
frame_other g n a ge = ap₂ (λ b b'. cond b (g.what a) (cond b' Free Other)) (ge_of a g.top (omega (arith, ge))) (ge_of a (g.top + n) ge)

-- what stands for something does so below
pub frame_stands : (g : Ghost) (n a : ℕ) (x : Access) (p : Address) → (frame_ghost g n).what a ≡ StandsFor x p → g.what a ≡ StandsFor x p
frame_stands g n a x p e = go (nat_lt a g.top) (nat_lt a (g.top + n)) e
  where
    go : (b b' : Bool) → cond b (g.what a) (cond b' Free Other) ≡ StandsFor x p → g.what a ≡ StandsFor x p
    go true b' e = e
    go false true e = absurd (let z : Free ≡ StandsFor x p = e in cc)
    go false false e = absurd (let z : Other ≡ StandsFor x p = e in cc)

pub frame_allows : (g : Ghost) (n : ℕ) (ts : List Touch) → Allows g ts → Allows (frame_ghost g n) ts
frame_allows g n [] al = tt
frame_allows g n (t ∷ ts) al = (λ a x e. al.0 a x (frame_stands g n a x t.place e), frame_allows g n ts al.1)

pub fit_framed : {g : Ghost} {s : stored.State} {d : Dyn} (ns : List Cell) → AllMine ns → s.notes ≡ InOrder → Fit g s d → Fit (frame_ghost g (length ns)) s (record d { cells = d.cells ++ ns })
fit_framed {g} {s} {d} ns mine order w = record {
  here = w.here;
  everywhere = w.everywhere;
  declared = w.declared;
  frame = w.frame;
  least = w.least;
  most = w.most;
  top = length-append d.cells ns ∙ ap (λ n. n + length ns) w.top;
  agrees = record { turns = w.agrees.turns; left = w.agrees.left; taken = w.agrees.taken; held = w.agrees.held; input = w.agrees.input; output = w.agrees.output; notes = w.agrees.notes; done = w.agrees.done };
  plan = w.plan;
  order = λ o. order;
  cells = λ a. go a (nat_lt a g.top) (nat_lt a (g.top + length ns)) refl refl;
}
  where
    go : (a : ℕ) (b b' : Bool) → nat_lt a g.top ≡ b → nat_lt a (g.top + length ns) ≡ b' → Right (cond b (g.what a) (cond b' Free Other)) s (slice_get (d.cells ++ ns) a)
    go a true b' e e' =
        let (v, is) = get_some d.cells a (let lt = ltb-true a g.top e in let z = w.top in omega (arith, lt, z)) in
        subst (λ o. Right (g.what a) s o) (is ∙ sym (get_left d.cells ns a v is)) (w.cells a)
    go a false true e e' =
        let ge = ltb-false a g.top e in
        let lt = ltb-true a (g.top + length ns) e' in
        let z = w.top in
        let i : ℕ = a - length d.cells in
        let is : length d.cells + i ≡ a = omega (arith, ge, z) in
        let (v, m) = mine i (omega (arith, ge, lt, z)) in
        (v, ap (slice_get (d.cells ++ ns)) (sym is) ∙ get_right d.cells ns i ∙ m)
    go a false false e e' = tt

-- a cell of the frame is known
pub fit_known : {g : Ghost} {s : stored.State} {d : Dyn} (a : ℕ) (v : ℤ) → slice_get d.cells a ≡ Some (Mine v) → Fit g s d → Fit (set_what a (Keeps v) g) s d
fit_known {g} {s} {d} a v is w = record {
  here = w.here;
  everywhere = w.everywhere;
  declared = w.declared;
  frame = w.frame;
  top = w.top;
  least = w.least;
  most = w.most;
  agrees = w.agrees;
  plan = w.plan;
  order = w.order;
  cells = λ b. ⊎_elim
      (λ e. subst (λ b. Right ((set_what a (Keeps v) g).what b) s (slice_get d.cells b)) e (subst (λ w. Right w s (slice_get d.cells a)) (sym (what_same g a (Keeps v))) is))
      (λ ne. subst (λ w. Right w s (slice_get d.cells b)) (sym (what_other g a b (Keeps v) ne)) (w.cells b))
      (at_or_not a b);
}

-- where it has ended
pub fit_unframed : {g h : Ghost} {s : stored.State} {d : Dyn} (n : ℕ) → ((a : ℕ) → g.top ≤ a → g.what a ≡ Other) → h.here ≡ g.here → (h.everywhere ≡ g.everywhere) × (h.declared ≡ g.declared) → h.frame ≡ g.frame → h.top ≡ g.top + n → h.least ≡ g.least → h.most ≡ g.most → (h.plan ≡ g.plan) × (h.ordered ≡ true)
    → ((a : ℕ) → a < g.top → h.what a ≡ g.what a) → Fit h s d → Fit g s (cut_to g.top d)
fit_unframed {g} {h} {s} {d} n beyond e1 e2 e3 e4 e5 e6 e7 same w =
    let len : length d.cells ≡ g.top + n = w.top ∙ e4 in
    record {
      here = w.here ∙ e1;
      everywhere = w.everywhere ∙ e2.0;
      declared = w.declared ∙ e2.1;
      frame = w.frame ∙ e3;
      top = length_take g.top d.cells (omega (arith, len));
      least = subst (λ n. n ≤ s.turns) e5 w.least;
      most = subst (λ n. s.turns ≤ n) e6 w.most;
      agrees = record { turns = w.agrees.turns; left = w.agrees.left; taken = w.agrees.taken; held = w.agrees.held; input = w.agrees.input; output = w.agrees.output; notes = w.agrees.notes; done = w.agrees.done };
      plan = w.plan ∙ e7.0;
      order = λ o. w.order e7.1;
      cells = λ a. go a (nat_lt a g.top) refl;
    }
  where
    go : (a : ℕ) (b : Bool) → nat_lt a g.top ≡ b → Right (g.what a) s (slice_get (take g.top d.cells) a)
    go a true e =
        let lt = ltb-true a g.top e in
        subst (λ o. Right (g.what a) s o) (sym (get_take g.top d.cells a lt)) (subst (λ z. Right z s (slice_get d.cells a)) (same a lt) (w.cells a))
    go a false e = subst (λ z. Right z s (slice_get (take g.top d.cells) a)) (sym (beyond a (ltb-false a g.top e))) tt

-- ---- names around

module _ {limit : ℕ} {cuts : ℕ → ℕ → List ℕ} {g : Ghost} {f : Fixed} {s : Sight} {env : Env} (n : ℕ) (k : Knows limit cuts g f s env) where
  abbrev f' : Fixed
  f' = threaded f g.top

  abbrev g' : Ghost
  g' = frame_ghost g n

  is_out : (l : Level) (m a : ℕ) → IsAt f l m a → IsAt f' (outer_level l) m a
  is_out Own m a e = (f.base, refl, e)
  is_out (Around k) m a (b, o, e) = go (nat_eq k 0) refl
    where
      go : (t : Bool) → nat_eq k 0 ≡ t → IsAt f' (Around (cond t 2 (k + 1))) m a
      go true z = let y : 0 ≡ k - 1 = (let h : k ≡ 0 = eqb-true k 0 z in omega (arith, h)) in (b, ap (slice_get (outward_of f.waiting f.outward)) y ∙ o, e)
      go false z = let y : k + 1 - 1 ≡ suc (k - 1) = (let h : k ≡ 0 → ⊥ = eqb-false k 0 z in omega (arith, h)) in (b, ap (slice_get (f.base ∷ outward_of f.waiting f.outward)) y ∙ o, e)
  is_out Main m a e = e

  -- what isn't other lies below
  solid : (a : ℕ) (w : What) → g.what a ≡ w → (w ≡ Other → ⊥) → g'.what a ≡ w
  solid a w e ne = go (nat_lt a g.top) refl
    where
      go : (b : Bool) → nat_lt a g.top ≡ b → g'.what a ≡ w
      go true h = frame_below g n a (ltb-true a g.top h) ∙ e
      go false h = absurd (ne (sym e ∙ k.beyond a (ltb-false a g.top h)))

  number_out : (a : ℕ) (v : ℤ) → IsNumber (g.what a) v → IsNumber (g'.what a) v
  number_out a v (inl e) = inl (solid a (Keeps v) e (λ z. let y : Keeps v ≡ Other = z in cc))
  number_out a v (inr e) = inr (solid a (Shows v) e (λ z. let y : Shows v ≡ Other = z in cc))

  leads_out : (t : Bool) (w : Where) (b : ℕ) → Leads t g f w b → Leads t g' f' (outer_where w) b
  leads_out true w b (a, is, num) = (a, is_out w.level w.cell a is, number_out a (pos b) num)
  leads_out false w b is = is_out w.level w.cell b is

  stands_out : (a : ℕ) (x : Access) (p : Address) → g.what a ≡ StandsFor x p → g'.what a ≡ StandsFor x p
  stands_out a x p e = solid a (StandsFor x p) e (λ z. let y : StandsFor x p ≡ Other = z in cc)

  refers_out : (m : Named) (x : Entity) (first : ℕ) → Refers g f m x first → Refers g' f' (outer_named m) x first
  refers_out m x first r = record {
    address = r.address;
    leads = leads_out m.through m.place r.address r.leads;
    spread = record { near = (let n = r.spread.near in omega (arith, n)); cell = λ i lt. let (p, y, e, z) = r.spread.cell i lt in (p, y, e, stands_out (r.address + i) y p z) };
  }

  holds_out : (w : Where) (v : ℤ) → Holds g f w v → Holds g' f' (outer_where w) v
  holds_out w v (a, is, num) = (a, is_out w.level w.cell a is, number_out a v num)

  named_out : (o : Option Named) (x : Entity) (first : ℕ) → ((m : Named) → o ≡ Some m → Refers g f m x first) → (m : Named) → moved_named o ≡ Some m → Refers g' f' m x first
  named_out None x first h m e = absurd (let z : ◌≡◌ {A = Option Named} None (Some m) = e in cc)
  named_out (Some m') x first h m e = subst (λ m. Refers g' f' m x first) (some_same (outer_named m') m e) (refers_out m' x first (h m' refl))

  where_out : (o : Option Where) (v : ℤ) → ((w : Where) → o ≡ Some w → Holds g f w v) → (w : Where) → moved_where o ≡ Some w → Holds g' f' w v
  where_out None v h w e = absurd (let z : ◌≡◌ {A = Option Where} None (Some w) = e in cc)
  where_out (Some w') v h w e = subst (λ w. Holds g' f' w v) (some_same (outer_where w') w e) (holds_out w' v (h w' refl))

  pub knows_threaded : (site : ℕ) → Knows limit cuts g' f' (thread_sight site n s) env
  knows_threaded site = record {
    most = k.most;
    nested = k.nested;
    plan = k.plan;
    kept = refl;
    one = λ a b x y p e e'. k.one a b x y p (frame_stands g n a x p e) (frame_stands g n b y p e');
    old = k.old;
    hidden = k.hidden;
    global = λ x m e. let (o, is, there, cells, near) = k.global x m e in (o, is, there, (λ i lt. let (p, y, z, w) = cells i lt in (p, y, z, stands_out (o + i) y p w)), omega (arith, near));
    outside = k.outside;
    top = refl;
    beyond = λ a ge. frame_other g n a ge;
    object = λ x m e. named_out (s.scope.object x) x 0 (λ m e. k.object x m e) m e;
    parameter = λ j w e. where_out (s.scope.parameter j) (env.parameter j) (λ w e. k.parameter j w e) w e;
    item = λ j m e. named_out (s.scope.item j) (VariableOf (env.item j).object) (env.item j).offset (λ m e. k.item j m e) m e;
    constant_item = λ j m e. named_out (s.scope.constant_item j) (ConstantOf (env.constant_item j).object) (env.constant_item j).offset (λ m e. k.constant_item j m e) m e;
    target = λ m e. named_out s.scope.target (VariableOf env.target.object) env.target.offset (λ m e. k.target m e) m e;
    handled = λ w e. where_out s.scope.handled _ (λ w e. k.handled w e) w e;
    free = λ i le lt. frame_free g n i lt;
  }
