-- Objects of the main procedure, which are visible everywhere, in cells of its frame.
use Rattle.std.proofs.Common.{◌≡◌, ℕ, zero, suc, ◌+◌, ◌<◌, ◌≤◌, ℤ, List, [], ◌∷◌, ◌++◌, length, set, slice_get, nat_eq, nat_lt, Option, Some, None, Result, Ok, Err, Bool, true, false, cond, refl, sym, ap, ◌∙◌, subst, le_refl, arith, ◌⊎◌, inl, inr, ⊎_elim, true≢false, lt-ltb, ltb-true, is_some}
use Rattle.std.proofs.lemmas.Bool.{ne_eqb}
use Rattle.std.proofs.lemmas.Option.{none-some}
use Rattle.behaviours.specs.Paths.{Leave, Exits, Returns, Raises, Entity, VariableOf, ConstantOf, Everywhere, entity_eq}
use Rattle.ada_meaning.specs.declared.slots.Slot.{Slot}
use Rattle.ada_meaning.specs.declared.slots.Variable.{Variable}
use Rattle.ada_meaning.specs.Stored as stored
use Rattle.ada_meaning.specs.Stored.{Stored, Cause, Left, OutOfTurns, NoRoom, CutOff, Misnoted, Address, Kept, Stacked, Touch, declares, cell_at, slot_at, key, within}
use Rattle.ada_meaning.specs.Meaning.{Env}
use Rattle.ada_meaning.proofs.Cells.{slot_bound, slot_other, key_other, entity_same, some_same, get_left, get_right}
use Rattle.stack_code.specs.declared.code.Code.{Code}
use Rattle.ada_base.specs.Cells.{Cell, Mine}
use Rattle.ada_lower.specs.Driven.{Dyn, Fixed, Step, on, Comes}
use Rattle.ada_lower.specs.Sights.{Named, Sight}
use Rattle.ada_lower.specs.Bodies.{main_named, main_object}
use Rattle.ada_lower.specs.Teams.{AreSound}
use Rattle.ada_lower.specs.Fits.{Access, Barred, Readable, Full, What, Other, Free, Keeps, Shows, Stands, Right, allows, Ghost, Allows, Fit, Ends, Lands, place_in, Refers, AtMain, Knows}
use Rattle.ada_lower.proofs.EvalLeaves.{Closed, Raised}
use Rattle.ada_lower.proofs.Framework.{any, To, Doing, comes_here, lands_from, sound_split, sound_join, none_sound}
use Rattle.ada_lower.proofs.Memory.{set_what, own_free, fit_set, fit_alike, what_other, right_same, at_or_not, IsSolid, Extends, refers_more, holds_more, main_more}
use Rattle.ada_lower.proofs.Declared.{laid_what, laid_out, laid_in, kept_what, among, keeping, keep_more, length_in, get_of}
use Rattle.ada_lower.proofs.Blocks.{fit_unkept}

abbrev pub everywhere_what : ℕ → ℤ → What
everywhere_what i v = Stands Full (Kept i)

abbrev pub slot_of : ℕ → List ℤ → Slot
slot_of len vs = record { frame = 1; address = len; cells = length vs }

-- an object of the main procedure has cells behind so many that are kept
abbrev pub holding : Entity → ℕ → ℕ → List ℤ → Ghost → Ghost
holding y len a vs g = record g { everywhere = set g.everywhere (key y) (slot_of len vs); declared = declares y len (length vs) g.declared; what = laid_what a len everywhere_what vs g.what }

-- no cell stands for one that isn't there yet
abbrev pub FreshKept : Ghost → ℕ → Type 0
FreshKept g len = (a : ℕ) (x : Access) (b : ℕ) → g.what a ≡ Stands x (Kept b) → b < len

pub fresh_kept_of : {g : Ghost} {s : stored.State} {d : Dyn} → Fit g s d → FreshKept g (length s.kept)
fresh_kept_of {g} {s} {d} w a x b e = let (v, cell, bears) = subst (λ z. Right z s (slice_get d.cells a)) e (w.cells a) in length_in s.kept b v cell

module _ (y : Entity) (a : ℕ) (vs : List ℤ) (g : Ghost) where
  cells_begun : (s : stored.State) (p : Address) (v : ℤ) → cell_at s p ≡ Some v → cell_at (stored.begun Everywhere y vs s) p ≡ Some v
  cells_begun s (Kept b) v e = get_left s.kept vs b v e
  cells_begun s (Stacked b) v e = e

  right_begun : (s : stored.State) (w : What) (o : Option Cell) → Right w s o → Right w (stored.begun Everywhere y vs s) o
  right_begun s Other o r = r
  right_begun s Free o r = r
  right_begun s (Keeps v) o r = r
  right_begun s (Shows v) o r = r
  right_begun s (Stands x p) o (v, cell, bears) = (v, cells_begun s p v cell, bears)

  pub fit_holding : {s : stored.State} {d : Dyn} → Fit (keeping a vs g) s d → Fit (holding y (length s.kept) a vs g) (stored.begun Everywhere y vs s) d
  fit_holding {s} {d} w = record {
    here = w.here;
    everywhere = ap (λ h. set h (key y) (slot_of (length s.kept) vs)) w.everywhere;
    declared = ap (λ gs. declares y (length s.kept) (length vs) gs) w.declared;
    frame = w.frame;
    top = w.top;
    least = w.least;
    most = w.most;
    agrees = record { turns = w.agrees.turns; left = w.agrees.left; taken = w.agrees.taken; held = w.agrees.held; input = w.agrees.input; output = w.agrees.output; notes = w.agrees.notes; done = w.agrees.done };
    plan = w.plan;
    order = w.order;
    cells = λ b. ⊎_elim
        (λ r. let (k, v, e, is) = r in subst (λ b. Right ((holding y (length s.kept) a vs g).what b) (stored.begun Everywhere y vs s) (slice_get d.cells b)) e
        (subst (λ z. Right z (stored.begun Everywhere y vs s) (slice_get d.cells (a + k))) (sym (laid_in a (length s.kept) everywhere_what vs g.what k v is))
        (v, get_right s.kept vs k ∙ is, subst (λ z. Right z s (slice_get d.cells (a + k))) (laid_in a 0 kept_what vs g.what k v is) (w.cells (a + k)))))
        (λ out. subst (λ z. Right z (stored.begun Everywhere y vs s) (slice_get d.cells b)) (sym (laid_out a (length s.kept) everywhere_what vs g.what b out))
        (right_begun s (g.what b) (slice_get d.cells b) (subst (λ z. Right z s (slice_get d.cells b)) (laid_out a 0 kept_what vs g.what b out) (w.cells b))))
        (among a b vs);
  }

-- the scope in which the object is visible
pub knows_holding : {limit : ℕ} {cuts : ℕ → ℕ → List ℕ} {g : Ghost} {f : Fixed} {s : Sight} {env : Env} (y : Entity) (len : ℕ) (vs : List ℤ) → f.base ≡ 0 → s.scope.free + length vs ≤ s.cells → ((k : ℕ) → (slot_at g.here k).frame ≡ g.frame → ⊥) → key y < length g.everywhere → s.seen y ≡ false → FreshKept g len → Knows limit cuts g f s env
    → Knows limit cuts (holding y len (f.base + s.scope.free) vs g) f (main_object s y (length vs)) env
knows_holding {limit} {g} {f} {s} {env} y len vs base room none_here slots new fresh k = record {
  most = k.most;
  nested = k.nested;
  plan = k.plan;
  kept = k.kept;
  top = k.top;
  beyond = λ b le. laid_out a len everywhere_what vs g.what b (inr (let t = k.top in let l : a + length vs ≤ b = omega (arith, le, t, room) in l)) ∙ k.beyond b le;
  global = λ z n e. outer z n (entity_eq y z) refl e;
  outside = λ z e. out z (entity_eq y z) refl e;
  one = one';
  old = k.old;
  hidden = λ z i e. other z (entity_eq y z) refl e i;
  object = λ z n e. found z n (entity_eq y z) refl e;
  parameter = λ j w e. holds_more f w (env.parameter j) more (k.parameter j w e);
  item = λ j n e. refers_more more (k.item j n e);
  constant_item = λ j n e. refers_more more (k.constant_item j n e);
  target = λ n e. refers_more more (k.target n e);
  handled = λ w e. holds_more f w _ more (k.handled w e);
  free = λ n le lt. laid_out a len everywhere_what vs g.what (f.base + n) (inr (let l : a + length vs ≤ f.base + n = omega (arith, le) in l)) ∙ k.free n (omega (arith, le)) lt;
}
  where
    a : ℕ
    a = f.base + s.scope.free

    h : Ghost
    h = holding y len a vs g

    free' : (j : ℕ) → j < length vs → g.what (a + j) ≡ Free
    free' j lt = (let z : f.base + s.scope.free + j ≡ f.base + (s.scope.free + j) = omega arith in ap g.what z) ∙ k.free (s.scope.free + j) (omega arith) (omega (arith, lt, room))

    place_other : (z : Entity) (i : ℕ) → (key y ≡ key z → ⊥) → place_in h z i ≡ place_in g z i
    place_other z i ne = rw (slot_other g.everywhere (key y) (key z) (slot_of len vs) ne) refl

    more : Extends g h
    more = record {
      top = le_refl g.top;
      place = λ z i p e. ⊎_elim (λ same. absurd (none-some p (sym (k.hidden y i new) ∙ ap (λ n. cond (nat_eq (slot_at g.here n).frame g.frame) (within Stacked (slot_at g.here n) i) (cond (nat_eq (slot_at g.everywhere n).frame 1) (within Kept (slot_at g.everywhere n) i) None)) same ∙ e)))
          (λ ne. place_other z i ne ∙ e) (at_or_not (key y) (key z));
      solid = λ b w ok e. laid_out a len everywhere_what vs g.what b (outside b w ok e) ∙ e;
    }
      where
        outside : (b : ℕ) (w : What) → IsSolid w → g.what b ≡ w → (b < a) ⊎ (a + length vs ≤ b)
        outside b w ok e = ⊎_elim (λ r. let (j, v, z, is) = r in absurd (loose w ok (sym (free' j (length_in vs j v is)) ∙ ap g.what z ∙ e))) (λ out. out) (among a b vs)
          where
            loose : (u : What) → IsSolid u → Free ≡ u → ⊥
            loose Other ok e = ok
            loose Free ok e = ok
            loose (Keeps v) ok e = cc
            loose (Shows v) ok e = cc
            loose (Stands x p) ok e = cc

    in_place : (b j : ℕ) (v : ℤ) (x : Access) (p : Address) → a + j ≡ b → slice_get vs j ≡ Some v → h.what b ≡ Stands x p → p ≡ Kept (len + j)
    in_place b j v x p z is e = let q : Stands Full (Kept (len + j)) ≡ Stands x p = sym (laid_in a len everywhere_what vs g.what j v is) ∙ ap h.what z ∙ e in cc

    kept_same : (m n : ℕ) → Kept m ≡ Kept n → m ≡ n
    kept_same m n e = cc

    one' : (b c : ℕ) (x z : Access) (p : Address) → h.what b ≡ Stands x p → h.what c ≡ Stands z p → b ≡ c
    one' b c x z p eb ec = ⊎_elim
        (λ r. let (j, v, zb, is) = r in ⊎_elim
        (λ r'. let (j', v', zc, is') = r' in
        let q : len + j ≡ len + j' = kept_same (len + j) (len + j') (sym (in_place b j v x p zb is eb) ∙ in_place c j' v' z p zc is' ec) in
        let w : b ≡ c = omega (arith, zb, zc, q) in w)
        (λ out'. let l : len + j < len = fresh c z (len + j) (sym (laid_out a len everywhere_what vs g.what c out') ∙ ec ∙ ap (Stands z) (in_place b j v x p zb is eb)) in absurd (omega (arith, l)))
        (among a c vs))
        (λ out. ⊎_elim
        (λ r'. let (j', v', zc, is') = r' in
        let l : len + j' < len = fresh b x (len + j') (sym (laid_out a len everywhere_what vs g.what b out) ∙ eb ∙ ap (Stands x) (in_place c j' v' z p zc is' ec)) in absurd (omega (arith, l)))
        (λ out'. k.one b c x z p (sym (laid_out a len everywhere_what vs g.what b out) ∙ eb) (sym (laid_out a len everywhere_what vs g.what c out') ∙ ec))
        (among a c vs))
        (among a b vs)

    named : Named
    named = main_named s.scope.free (length vs)

    other : (z : Entity) (t : Bool) → entity_eq y z ≡ t → cond t true (s.seen z) ≡ false → (i : ℕ) → place_in h z i ≡ None
    other z true e o i = absurd (true≢false o)
    other z false e o i = place_other z i (key_other y z e) ∙ k.hidden z i o

    slot_is : slot_at h.everywhere (key y) ≡ slot_of len vs
    slot_is = slot_bound g.everywhere (key y) (slot_of len vs) slots

    kept_place : (i : ℕ) → i < length vs → within Kept (slot_at h.everywhere (key y)) i ≡ Some (Kept (len + i))
    kept_place i lt = rw slot_is (rw (lt-ltb i (length vs) lt) refl)

    here_place : (i : ℕ) → i < length vs → place_in h y i ≡ Some (Kept (len + i))
    here_place i lt =
        let ne : nat_eq (slot_at g.here (key y)).frame g.frame ≡ false = ne_eqb (slot_at g.here (key y)).frame g.frame (none_here (key y)) in
        ap (λ b. cond b (within Stacked (slot_at g.here (key y)) i) (cond (nat_eq (slot_at h.everywhere (key y)).frame 1) (within Kept (slot_at h.everywhere (key y)) i) None)) ne
        ∙ ap (λ n. cond (nat_eq n 1) (within Kept (slot_at h.everywhere (key y)) i) None) (ap (λ z. z.frame) slot_is) ∙ kept_place i lt

    found : (z : Entity) (n : Named) (t : Bool) → entity_eq y z ≡ t → cond t (Some named) (s.scope.object z) ≡ Some n → Refers h f n z 0
    found z n true e o = subst (λ n. Refers h f n z 0) (some_same named n o) (subst (λ z. Refers h f named z 0) (entity_same y z e) (record {
      address = a;
      leads = (let q : f.base + s.scope.free ≡ s.scope.free = omega (arith, base) in q);
      spread = record {
        near = (let t = k.top in omega (arith, t, room));
        cell = λ i lt.
            let (v, is) = get_of vs i lt in
            let z0 : 0 + i ≡ i = omega arith in
            (Kept (len + i), Full, ap (λ i. place_in h y i) z0 ∙ here_place i lt, laid_in a len everywhere_what vs g.what i v is);
      };
    }))
    found z n false e o = refers_more more (k.object z n o)

    outer : (z : Entity) (n : Named) (t : Bool) → entity_eq y z ≡ t → cond t (Some named) (s.global z) ≡ Some n → AtMain h n z
    outer z n true e o = subst (λ n. AtMain h n z) (some_same named n o) (subst (λ z. AtMain h named z) (entity_same y z e) (
      s.scope.free,
      refl,
      ap (λ z. z.frame) slot_is,
      (λ i lt. let (v, is) = get_of vs i lt in let q : f.base + s.scope.free + i ≡ s.scope.free + i = omega (arith, base) in
          (Kept (len + i), Full, kept_place i lt, ap h.what (sym q) ∙ laid_in a len everywhere_what vs g.what i v is)),
      (let t = k.top in omega (arith, t, room, base)),
    ))
    outer z n false e o = main_more z (slot_other g.everywhere (key y) (key z) (slot_of len vs) (key_other y z e)) more (k.global z n o)

    out : (z : Entity) (t : Bool) → entity_eq y z ≡ t → cond t true (s.main z) ≡ false → (slot_at h.everywhere (key z)).frame ≡ 1 → ⊥
    out z true e o w = true≢false o
    out z false e o w = k.outside z o (ap (λ z. z.frame) (sym (slot_other g.everywhere (key y) (key z) (slot_of len vs) (key_other y z e))) ∙ w)

-- ---- the variables of the main procedure

-- it stands from an address of the machine's cells on
abbrev pub Lies : Ghost → Variable → Variable → Type 0
Lies g v m = (v.object ≡ m.object) × (v.cells ≡ m.cells) × ((i : ℕ) → i < v.cells → g.what (m.address + i) ≡ Stands Full (Kept (v.address + i)))

-- each stands where these say
abbrev pub Final : Ghost → List Variable → Type 0
Final g ps = (k : ℕ) (v : Variable) → slice_get g.declared k ≡ Some v → (m : Variable) × (slice_get ps k ≡ Some m) × Lies g v m

pub final_on : (g : Ghost) (ps qs : List Variable) → Final g ps → Final g (ps ++ qs)
final_on g ps qs w k v e = let (m, at, is) = w k v e in (m, get_left ps qs k m at, is)

-- where the main procedure came to its end all of them are declared
abbrev pub AllThere : Result (Unit {0}) Cause → Ghost → List Variable → Type 0
AllThere (Err (Left (Raises r))) g ps = Unit {0}
AllThere (Err OutOfTurns) g ps = Unit {0}
AllThere (Err NoRoom) g ps = Unit {0}
AllThere (Err CutOff) g ps = Unit {0}
AllThere (Err Misnoted) g ps = Unit {0}
AllThere e g ps = length g.declared ≡ length ps

get_last : {A : Type 0} (xs : List A) (x : A) (k : ℕ) (v : A) → slice_get (xs ++ (x ∷ [])) k ≡ Some v → (slice_get xs k ≡ Some v) ⊎ ((k ≡ length xs) × (x ≡ v))
get_last [] x zero v e = inr (refl, some_same x v e)
get_last [] x (suc k) v e = absurd (none-some v e)
get_last (y ∷ xs) x zero v e = inl e
get_last (y ∷ xs) x (suc k) v e = ⊎_elim (λ l. inl l) (λ r. inr (ap suc r.0, r.1)) (get_last xs x k v e)

still : (y : Entity) (len a : ℕ) (vs : List ℤ) (g : Ghost) (b : ℕ) (p : Address) → ((k : ℕ) → k < length vs → g.what (a + k) ≡ Free) → g.what b ≡ Stands Full p → (holding y len a vs g).what b ≡ Stands Full p
still y len a vs g b p free e = ⊎_elim
    (λ r. let (j, v, z, is) = r in absurd (let q : Free ≡ Stands Full p = sym (free j (length_in vs j v is)) ∙ ap g.what z ∙ e in cc))
    (λ out. laid_out a len everywhere_what vs g.what b out ∙ e)
    (among a b vs)

pub final_constant : (x len a : ℕ) (vs : List ℤ) (g : Ghost) (ps : List Variable) → ((k : ℕ) → k < length vs → g.what (a + k) ≡ Free) → Final g ps → Final (holding (ConstantOf x) len a vs g) ps
final_constant x len a vs g ps free w k v e =
    let (m, at, is) = w k v e in
    (m, at, (is.0, is.1, λ i lt. still (ConstantOf x) len a vs g (m.address + i) (Kept (v.address + i)) free (is.2 i lt)))

abbrev pub variable_at : (x address cells : ℕ) → Variable
variable_at x address cells = record { object = x; address = address; cells = cells }

pub final_variable : (x len a p n : ℕ) (vs : List ℤ) (g : Ghost) (ps : List Variable) → a ≡ p → length vs ≡ n → length ps ≡ length g.declared → ((k : ℕ) → k < length vs → g.what (a + k) ≡ Free) → Final g ps → Final (holding (VariableOf x) len a vs g) (ps ++ (variable_at x p n ∷ []))
final_variable x len a p n vs g ps same size many free w k v e = ⊎_elim
    (λ old. let (m, at, is) = w k v old in (
      m,
      get_left ps (variable_at x p n ∷ []) k m at,
      (is.0, is.1, λ i lt. still (VariableOf x) len a vs g (m.address + i) (Kept (v.address + i)) free (is.2 i lt)),
    ))
    (λ r. let (at, is) = r in (
      variable_at x p n,
      (let z : k ≡ length ps + 0 = omega (arith, at, many) in ap (λ k. slice_get (ps ++ (variable_at x p n ∷ [])) k) z ∙ get_right ps (variable_at x p n ∷ []) 0),
      subst (λ v. Lies (holding (VariableOf x) len a vs g) v (variable_at x p n)) is (
        refl,
        size,
        λ i lt. subst (λ p. (holding (VariableOf x) len a vs g).what (p + i) ≡ Stands Full (Kept (len + i))) same (let (u, at) = get_of vs i lt in laid_in a len everywhere_what vs g.what i u at),
      ),
    ))
    (get_last g.declared (variable_at x len (length vs)) k v e)

-- all that stands for cells of the stored run may be written
abbrev pub AllFull : Ghost → Type 0
AllFull g = (a : ℕ) (x : Access) (p : Address) → g.what a ≡ Stands x p → (b : Bool) → allows x b ≡ true

pub allows_all : (g : Ghost) → AllFull g → (ts : List Touch) → Allows g ts
allows_all g w [] = tt
allows_all g w (t ∷ ts) = (λ a x e. w a x t.place e t.writes, allows_all g w ts)

pub full_holding : (y : Entity) (len a : ℕ) (vs : List ℤ) (g : Ghost) → AllFull g → AllFull (holding y len a vs g)
full_holding y len a vs g w b z p e = ⊎_elim
    (λ r. let (k, v, q, is) = r in full z p (sym (laid_in a len everywhere_what vs g.what k v is) ∙ ap (laid_what a len everywhere_what vs g.what) q ∙ e))
    (λ out. w b z p (sym (laid_out a len everywhere_what vs g.what b out) ∙ e))
    (among a b vs)
  where
    full : {q : Address} (z : Access) (p : Address) → Stands Full q ≡ Stands z p → (t : Bool) → allows z t ≡ true
    full Full p e t = refl
    full Barred p e t = let z : Full ≡ Barred = cc in absurd cc
    full Readable p e t = let z : Full ≡ Readable = cc in absurd cc

-- ---- cells that are set

abbrev pub patch : ℕ → List ℤ → Dyn → Dyn
patch a [] d = d
patch a (v ∷ vs) d = patch (a + 1) vs (record d { cells = set d.cells a (Mine v) })

set_again : {A : Type 0} (xs : List A) (k : ℕ) (x : A) → slice_get xs k ≡ Some x → set xs k x ≡ xs
set_again [] k x e = absurd (none-some x e)
set_again (y ∷ xs) zero x e = ap (λ z. z ∷ xs) (sym (some_same y x e))
set_again (y ∷ xs) (suc k) x e = ap (λ zs. y ∷ zs) (set_again xs k x e)

patch_same : (a : ℕ) (vs : List ℤ) (d : Dyn) → ((k : ℕ) (v : ℤ) → slice_get vs k ≡ Some v → slice_get d.cells (a + k) ≡ Some (Mine v)) → patch a vs d ≡ d
patch_same a [] d e = refl
patch_same a (v ∷ vs) d e =
    let z : a + 0 ≡ a = omega arith in
    let q : set d.cells a (Mine v) ≡ d.cells = set_again d.cells a (Mine v) (subst (λ b. slice_get d.cells b ≡ Some (Mine v)) z (e 0 v refl)) in
    ap (λ cs. patch (a + 1) vs (record d { cells = cs })) q ∙ patch_same (a + 1) vs d (λ k u is. let z' : a + suc k ≡ a + 1 + k = omega arith in subst (λ b. slice_get d.cells b ≡ Some (Mine u)) z' (e (suc k) u is))

pub patch_kept : (a : ℕ) (vs : List ℤ) (g : Ghost) {s : stored.State} {d : Dyn} → Fit (keeping a vs g) s d → patch a vs d ≡ d
patch_kept a vs g {s} {d} w = patch_same a vs d (λ k v is. subst (λ z. Right z s (slice_get d.cells (a + k))) (laid_in a 0 kept_what vs g.what k v is) (w.cells (a + k)))

pub fit_patch : (a : ℕ) (vs : List ℤ) (g : Ghost) {s : stored.State} {d : Dyn} → ((k : ℕ) → k < length vs → g.what (a + k) ≡ Free) → Fit g s d → Fit (keeping a vs g) s (patch a vs d)
fit_patch a [] g free w = w
fit_patch a (v ∷ vs) g {s} {d} free w =
    let z : a + 0 ≡ a = omega arith in
    let own' = own_free (g.what a) (subst (λ b. g.what b ≡ Free) z (free 0 (omega arith))) in
    fit_alike (keeping a (v ∷ vs) g).what (keep_more a v vs g)
    (fit_patch (a + 1) vs (set_what a (Keeps v) g) (λ k lt. what_other g a (a + 1 + k) (Keeps v) (λ q. omega (arith, q)) ∙ (let y : a + 1 + k ≡ a + suc k = omega arith in ap g.what y) ∙ free (suc k) (omega (arith, lt)))
    (fit_set a v own' w))

-- ---- elaborations

module _ (limit : ℕ) (c : Code) (f : Fixed) (x : Ends) where
  -- a part lands where something fits in which the variables stand
  abbrev pub Ending : List Variable → Step → ℕ → (Dyn → Step) → stored.State → Result (Unit {0}) Cause → Type 0
  Ending ps from turns to t e = (h : Ghost) × (Final h ps × AllThere e h ps) × Lands limit c f x any h from turns (λ _ d. to d) t e

  fit_over : (y : Entity) (s t : stored.State) (h : Ghost) {d : Dyn} → Fit h t d → Fit (record h { everywhere = set h.everywhere (key y) (slot_at s.everywhere (key y)) }) (stored.ended Everywhere y s t) d
  fit_over y s t h {d} w = record {
    here = w.here;
    everywhere = ap (λ z. set z (key y) (slot_at s.everywhere (key y))) w.everywhere;
    declared = w.declared;
    frame = w.frame;
    top = w.top;
    least = w.least;
    most = w.most;
    agrees = record { turns = w.agrees.turns; left = w.agrees.left; taken = w.agrees.taken; held = w.agrees.held; input = w.agrees.input; output = w.agrees.output; notes = w.agrees.notes; done = w.agrees.done };
    plan = w.plan;
    order = w.order;
    cells = λ b. right_same (h.what b) t (stored.ended Everywhere y s t) (slice_get d.cells b) refl refl (w.cells b);
  }

  -- a new object that is visible everywhere, whose first values stand in its cells
  pub elaborates_main : (g : Ghost) (m : Stored (Unit {0})) (from : Step) (to : Dyn → Step) (ps : List Variable) (y : Entity) (a : ℕ) (vs : List ℤ) (s : stored.State) (d : Dyn) → Final g ps → Fit (keeping a vs g) s d → AreSound f.asked ((stored.elaborates Everywhere y vs m).visits s)
      → (key y < length g.everywhere → Fit (holding y (length s.kept) a vs g) (stored.begun Everywhere y vs s) d → AreSound f.asked (m.visits (stored.begun Everywhere y vs s)) → (let r = m.does (stored.begun Everywhere y vs s) in Ending ps from s.turns to r.state r.end))
      → (let r = (stored.elaborates Everywhere y vs m).does s in Ending ps from s.turns to r.state r.end)
  unfolding stored.elaborates
  elaborates_main g m from to ps y a vs s d final fit sound k = go (nat_lt (key y) (length s.everywhere)) refl
    where
      over : Ghost → Ghost
      over h = record h { everywhere = set h.everywhere (key y) (slot_at s.everywhere (key y)) }

      back : (t : stored.State) (e : Result (Unit {0}) Cause) → Ending ps from s.turns to t e → Ending ps from s.turns to (stored.ended Everywhere y s t) e
      back t (Ok r) (h, w, l) = (over h, w, (l.0, record { dyn = l.1.dyn; fit = fit_over y s t h l.1.fit; comes = l.1.comes; grows = l.1.grows }))
      back t (Err (Left (Raises r))) (h, w, l) = (over h, w, record { dyn = l.dyn; fit = fit_over y s t h l.fit; comes = l.comes; grows = l.grows })
      back t (Err (Left (Returns v))) (h, w, l) = (over h, w, record { dyn = l.dyn; fit = fit_over y s t h l.fit; comes = l.comes; grows = l.grows })
      back t (Err (Left (Exits n))) (h, w, l) = (over h, w, record { dyn = l.dyn; fit = fit_over y s t h l.fit; comes = l.comes; grows = l.grows })
      back t (Err OutOfTurns) (h, w, l) = (over h, w, record { dyn = l.dyn; fit = fit_over y s t h l.fit; comes = l.comes; grows = l.grows })
      back t (Err CutOff) (h, w, l) = (over h, w, record { dyn = l.dyn; fit = fit_over y s t h l.fit; comes = l.comes; grows = l.grows })
      back t (Err NoRoom) (h, w, l) = (over h, w, tt)
      back t (Err Misnoted) (h, w, (un, l)) = (over h, w, (un, record { dyn = l.dyn; fit = fit_over y s t h l.fit; comes = l.comes; grows = l.grows }))

      go : (b : Bool) → nat_lt (key y) (length s.everywhere) ≡ b
          → (let r = m.does (stored.begun Everywhere y vs s) in let z = cond (nat_lt (key y) (length s.everywhere)) (stored.at (stored.ended Everywhere y s r.state) r.end) (stored.at s (Err NoRoom)) in Ending ps from s.turns to z.state z.end)
      go true e =
          let slots : key y < length g.everywhere = subst (λ h. key y < length h) fit.everywhere (ltb-true (key y) (length s.everywhere) e) in
          let r = m.does (stored.begun Everywhere y vs s) in
          subst (λ b. let z = cond b (stored.at (stored.ended Everywhere y s r.state) r.end) (stored.at s (Err NoRoom)) in Ending ps from s.turns to z.state z.end) (sym e)
          (back r.state r.end (k slots (fit_holding y a vs g fit) (subst (λ b. AreSound f.asked (cond b (m.visits (stored.begun Everywhere y vs s)) [])) e sound)))
      go false e =
          let r = m.does (stored.begun Everywhere y vs s) in
          subst (λ b. let z = cond b (stored.at (stored.ended Everywhere y s r.state) r.end) (stored.at s (Err NoRoom)) in Ending ps from s.turns to z.state z.end) (sym e) (g, (final, tt), tt)

  -- what comes before
  pub ending_from : {from from' : Step} {n m : ℕ} (to : Dyn → Step) (ps : List Variable) (t : stored.State) (e : Result (Unit {0}) Cause) → Comes limit c (is_some f.asked) from from' → n ≤ m → Ending ps from' m to t e → Ending ps from n to t e
  ending_from to ps t e z le (h, w, l) = (h, w, lands_from limit c f x any (λ _ d. to d) t e z le (λ s d fit. fit) l)

  -- values that are known go on in their cells
  kept_lands : {g : Ghost} (n a q mid : ℕ) (cs : List ℤ) → length cs ≡ n → mid ≡ q → ((k : ℕ) → k < n → g.what (a + k) ≡ Free) → Doing limit c f x (keeping a cs g) g (λ cs. length cs ≡ n) (stored.ret cs) (λ d. on f mid [] d) (λ cs d. on f q [] (patch a cs d))
  unfolding stored.ret
  kept_lands {g} n a q mid cs len same free = record {
    by = λ s d fit al. (
      len,
      record {
        dyn = d;
        fit = fit_unkept a cs g (λ k lt. free k (omega (arith, lt, len))) fit;
        comes = subst (λ z. To limit c (on f mid [] d) (on f z [] (patch a cs d))) same (subst (λ e. To limit c (on f mid [] d) (on f mid [] e)) (sym (patch_kept a cs g fit)) (comes_here limit c (on f mid [] d))) _;
        grows = le_refl s.turns;
      },
    );
  }

  -- values, and then a part that begins with them in their cells
  pub values_main : (g : Ghost) (from : ℕ) (to : Dyn → Step) (ps : List Variable) (n a q : ℕ) (m : Stored (List ℤ)) (k : List ℤ → Stored (Unit {0})) (s : stored.State) (d : Dyn) → Closed Raised m → Final g ps → AllFull g → ((k : ℕ) → k < n → g.what (a + k) ≡ Free) → Fit g s d → AreSound f.asked ((stored.bind m k).visits s)
      → (((cs : List ℤ) (mid : ℕ) → length cs ≡ n → mid ≡ q → Doing limit c f x (keeping a cs g) g (λ cs. length cs ≡ n) (stored.ret cs) (λ d. on f mid [] d) (λ cs d. on f q [] (patch a cs d))) → Doing limit c f x g g (λ cs. length cs ≡ n) (stored.bind m stored.ret) (λ d. on f from [] d) (λ cs d. on f q [] (patch a cs d)))
      → ((cs : List ℤ) (t : stored.State) (e : Dyn) → length cs ≡ n → Fit (keeping a cs g) t e → AreSound f.asked ((k cs).visits t) → (let r = (k cs).does t in Ending ps (on f q [] e) t.turns to r.state r.end))
      → (let r = (stored.bind m k).does s in Ending ps (on f from [] d) s.turns to r.state r.end)
  unfolding stored.bind stored.ret
  values_main g from to ps n a q m k s d raises final full free fit sound into then =
      let (first, rest) = sound_split limit c f x f.asked (m.visits s) (stored.next_visits (m.does s).state (m.does s).end k) sound in
      go (m.does s).state (m.does s).end (raises.by s) rest ((into (λ cs mid len same. kept_lands n a q mid cs len same free)).by s d fit (allows_all g full ((stored.bind m stored.ret).touches s), sound_join limit c f x f.asked (m.visits s) _ first (none_after (m.does s).state (m.does s).end)))
    where
      none_after : (t : stored.State) (e : Result (List ℤ) Cause) → AreSound f.asked (stored.next_visits t e stored.ret)
      none_after t (Ok cs) = none_sound limit c f x f.asked
      none_after t (Err e) = none_sound limit c f x f.asked

      go : (t : stored.State) (e : Result (List ℤ) Cause) → ((l : Leave) → e ≡ Err (Left l) → Raised l) → AreSound f.asked (stored.next_visits t e k) → (let r = stored.next t e stored.ret in Lands limit c f x (λ cs. length cs ≡ n) g (on f from [] d) s.turns (λ cs d. on f q [] (patch a cs d)) r.state r.end)
          → (let r = stored.next t e k in Ending ps (on f from [] d) s.turns to r.state r.end)
      go t (Ok cs) only sound (len, l) = ending_from to ps ((k cs).does t).state ((k cs).does t).end l.comes l.grows (then cs t (patch a cs l.dyn) len (fit_patch a cs g (λ k lt. free k (omega (arith, lt, len))) l.fit) sound)
      go t (Err (Left (Raises x))) only sound l = (g, (final, tt), l)
      go t (Err (Left (Returns v))) only sound l = absurd (only (Returns v) refl)
      go t (Err (Left (Exits n))) only sound l = absurd (only (Exits n) refl)
      go t (Err OutOfTurns) only sound l = (g, (final, tt), l)
      go t (Err CutOff) only sound l = (g, (final, tt), l)
      go t (Err NoRoom) only sound l = (g, (final, tt), tt)
      go t (Err Misnoted) only sound l = (g, (final, tt), l)
