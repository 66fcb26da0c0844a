-- Where the stored run has the cells of instances, and what that leaves after its steps.
use Rattle.std.proofs.Common.{◌≡◌, ℕ, ◌+◌, ◌<◌, ◌≤◌, min, ℤ, pos, nat_eq, nat_lt, List, [], ◌∷◌, ◌++◌, length, take, drop, slice_get, Option, Some, None, ◌⊎◌, inl, inr, Bool, true, false, cond, refl, sym, subst, ap, ap₂, ◌∙◌, true≢false, arith, eq-eqb, eqb-true, ltb-true}
use Rattle.std.proofs.lemmas.Option.{slice_get_within}
use Rattle.typed_tree.specs.Syntax.{Program}
use Rattle.behaviours.specs.Paths.{Entity, VariableOf, ConstantOf, Region, Everywhere, Here, Instance, Path, Scope, Extent, find, first_of, within_extent, instance_eq}
use Rattle.behaviours.specs.Memory.{Memory, put}
use Rattle.ada_meaning.specs.Meaning.{object_layout}
use Rattle.ada_meaning.specs.Programs.{input_of, values, with_final, finals}
use Rattle.ada_meaning.specs.Stored
use Rattle.ada_meaning.specs.declared.slots.Slot.{Slot}
use Rattle.ada_meaning.specs.declared.slots.Variable.{Variable}
use Rattle.ada_base.specs.Notes.{Schedule, InOrder}
use Rattle.ada_meaning.specs.Stored.{State, Address, Kept, Stacked, slot_at, key, place_of, within, cell_at, put_at, begun, ended, filled, finals_of}
use Rattle.ada_meaning.proofs.Ties.{Future, Goes}
use Rattle.behaviours.proofs.Shuffle.{instance_same}
use Rattle.ada_meaning.proofs.Cells.{instance_refl, get_left, get_take, get_set_same, get_set_other, put_same, put_elsewhere, filled_values, part_values}

-- where instances are

pub record Tie : Type 0 where
  pub instance : Instance
  pub kept : Bool
  pub base : ℕ
  pub cells : ℕ

abbrev pub place : Tie → ℕ → Address
place c i = cond c.kept (Kept (c.base + i)) (Stacked (c.base + i))

abbrev pub In : Tie → List Tie → Type 0
In c [] = ⊥
In c (d ∷ w) = (c ≡ d) ⊎ In c w

-- those of the stack and those that are kept
abbrev pub Tied : List Tie → List Tie → Tie → Type 0
Tied ls gs c = In c ls ⊎ In c gs

abbrev pub Grows : List Tie → List Tie → Type 0
Grows gs gs' = (c : Tie) → In c gs → In c gs'

pub tied_grows : (ls gs gs' : List Tie) (c : Tie) → Grows gs gs' → Tied ls gs c → Tied ls gs' c
tied_grows ls gs gs' c h (inl t) = inl t
tied_grows ls gs gs' c h (inr t) = inr (h c t)

-- the variables among instances, in order
abbrev pub Matching : Entity → (ℕ → Type 0) → Type 0 → Type 0
Matching (VariableOf k) f g = f k
Matching (ConstantOf k) f g = g

abbrev pub tie_of : Instance → Variable → Tie
tie_of x d = record { instance = x; kept = true; base = d.address; cells = d.cells }

abbrev pub Matches : List Tie → List Instance → List Variable → Type 0
Matches gs [] ds = ds ≡ []
Matches gs (x ∷ xs) ds = Matching x.object (λ k. (d : Variable) × (more : List Variable) × (ds ≡ d ∷ more) × (d.object ≡ k) × In (tie_of x d) gs × Matches gs xs more) (Matches gs xs ds)

pub matches_grow : (gs gs' : List Tie) (xs : List Instance) (ds : List Variable) → Grows gs gs' → Matches gs xs ds → Matches gs' xs ds
matches_grow gs gs' [] ds h m = m
matches_grow gs gs' (x ∷ xs) ds h m = go (λ es. matches_grow gs gs' xs es h) x.object m
  where
    go : ((es : List Variable) → Matches gs xs es → Matches gs' xs es) → (o : Entity) → Matching o (λ k. (d : Variable) × (more : List Variable) × (ds ≡ d ∷ more) × (d.object ≡ k) × In (tie_of x d) gs × Matches gs xs more) (Matches gs xs ds)
        → Matching o (λ k. (d : Variable) × (more : List Variable) × (ds ≡ d ∷ more) × (d.object ≡ k) × In (tie_of x d) gs' × Matches gs' xs more) (Matches gs' xs ds)
    go f (VariableOf k) (d, more, e, o, t, n) = (d, more, e, o, h (tie_of x d) t, f more n)
    go f (ConstantOf k) n = f ds n

matches_one : (gs : List Tie) (x : Instance) (o : Entity) (a n : ℕ) → In (record { instance = x; kept = true; base = a; cells = n }) gs
    → Matching o (λ k. (d : Variable) × (more : List Variable) × (Stored.declares o a n [] ≡ d ∷ more) × (d.object ≡ k) × In (tie_of x d) gs × (more ≡ [])) (Stored.declares o a n [] ≡ [])
matches_one gs x (VariableOf k) a n t = (record { object = k; address = a; cells = n }, [], refl, refl, t, refl)
matches_one gs x (ConstantOf k) a n t = refl

declares_after : (o : Entity) (a n : ℕ) (d : Variable) (ds : List Variable) → Stored.declares o a n (d ∷ ds) ≡ d ∷ Stored.declares o a n ds
declares_after (VariableOf k) a n d ds = refl
declares_after (ConstantOf k) a n d ds = refl

pub matches_also : (gs : List Tie) (xs : List Instance) (ds : List Variable) (x : Instance) (a n : ℕ) → In (record { instance = x; kept = true; base = a; cells = n }) gs → Matches gs xs ds
    → Matches gs (xs ++ (x ∷ [])) (Stored.declares x.object a n ds)
matches_also gs [] ds x a n t m = subst (λ z. Matches gs (x ∷ []) (Stored.declares x.object a n z)) (sym m) (matches_one gs x x.object a n t)
matches_also gs (y ∷ xs) ds x a n t m = go (λ es. matches_also gs xs es x a n t) y.object m
  where
    go : ((es : List Variable) → Matches gs xs es → Matches gs (xs ++ (x ∷ [])) (Stored.declares x.object a n es)) → (o : Entity) → Matching o (λ k. (d : Variable) × (more : List Variable) × (ds ≡ d ∷ more) × (d.object ≡ k) × In (tie_of y d) gs × Matches gs xs more) (Matches gs xs ds)
        → Matching o (λ k. (d : Variable) × (more : List Variable) × (Stored.declares x.object a n ds ≡ d ∷ more) × (d.object ≡ k) × In (tie_of y d) gs × Matches gs (xs ++ (x ∷ [])) more) (Matches gs (xs ++ (x ∷ [])) (Stored.declares x.object a n ds))
    go f (VariableOf k) (d, more, e, o, u, v) = (d, Stored.declares x.object a n more, ap (Stored.declares x.object a n) e ∙ declares_after x.object a n d more, o, u, f more v)
    go f (ConstantOf k) v = f ds v

-- where a part is done: where blocking is allowed, by the outermost path; where constructs are taken in order
pub record Mode : Type 0 where
  pub outermost : Bool
  pub ordered : Bool

abbrev pub threaded : Mode
threaded = record { outermost = false; ordered = true }

module _ (input : List ℕ) where
  -- what the state has of a path and a memory, but for turns
  pub record Has (b : Mode) (ls gs : List Tie) (s : State) (p : Path Instance) (m : Memory) : Type 0 where
    pub one : (c d : Tie) → Tied ls gs c → Tied ls gs d → c.instance ≡ d.instance → c ≡ d
    pub apart : (c d : Tie) (i j : ℕ) → Tied ls gs c → Tied ls gs d → i < c.cells → j < d.cells → place c i ≡ place d j → c.instance ≡ d.instance
    pub right : (c : Tie) (i : ℕ) → Tied ls gs c → i < c.cells → cell_at s (place c i) ≡ Some (m.cells c.instance i)
    pub zeros : (c : Tie) (i : ℕ) → In c gs → c.cells ≤ i → m.cells c.instance i ≡ pos 0
    pub kept : (c : Tie) → In c gs → c.kept ≡ true
    pub past : (c : Tie) → Tied ls gs c → Future p c.instance → ⊥
    pub new : b.outermost ≡ true → (l : Instance) (i : ℕ) → l.thread ≡ p.name → p.elaborations ≤ l.number → m.cells l i ≡ pos 0
    pub outer : b.outermost ≡ true → p.name ≡ []
    pub inside : b.outermost ≡ false → p.name ≡ [] → ⊥
    pub ordered : b.ordered ≡ true → s.notes ≡ InOrder
    pub taken : s.taken ≡ min p.taken (length input)
    pub rest : s.input ≡ drop p.taken input
    pub held : s.held ≡ m.held
    pub bytes : m.input ≡ input_of input
    pub declared : Matches gs p.globals s.declared

  -- the values of the main procedure's variables

  module _ (b : Mode) (ls gs : List Tie) (s : State) (p : Path Instance) (m : Memory) (h : Has b ls gs s p m) (program : Program) where
    values_right : (x : Instance) (d : Variable) (n : ℕ) → In (tie_of x d) gs → filled n (take d.cells (drop d.address s.kept)) ≡ values m x 0 n
    values_right x d n t =
        filled_values n (take d.cells (drop d.address s.kept)) m x 0
        (λ i. part_values d.cells d.address s.kept m x (λ i lt. h.right (tie_of x d) i (inr t) lt) (λ j le. h.zeros (tie_of x d) j t le) i ∙ ap (m.cells x) (let z : i ≡ 0 + i = omega arith in z))

    finals_match : (xs : List Instance) (ds : List Variable) → Matches gs xs ds → finals_of program s.kept ds ≡ finals program m xs
    finals_match [] ds e = ap (finals_of program s.kept) e
    finals_match (x ∷ xs) ds e = by (λ es. finals_match xs es) x.object e
      where
        by : ((es : List Variable) → Matches gs xs es → finals_of program s.kept es ≡ finals program m xs) → (o : Entity)
            → Matching o (λ k. (d : Variable) × (more : List Variable) × (ds ≡ d ∷ more) × (d.object ≡ k) × In (tie_of x d) gs × Matches gs xs more) (Matches gs xs ds)
            → finals_of program s.kept ds ≡ with_final program m x o (finals program m xs)
        by f (VariableOf k) (d, more, e, o, t, n) =
            ap (finals_of program s.kept) e
            ∙ ap₂ (λ v vs. v ∷ vs) (ap (λ z. filled (length (object_layout program z)) (take d.cells (drop d.address s.kept))) o ∙ values_right x d (length (object_layout program k)) t) (f more n)
        by f (ConstantOf k) n = f ds n

    pub finals_right : finals_of program s.kept s.declared ≡ finals program m p.globals
    finals_right = finals_match p.globals s.declared h.declared

-- what is visible

abbrev pub Seen : List Tie → Bool → Bool → Option (Extent Instance) → Slot → Type 0
Seen w kept v None slot = v ≡ false
Seen w kept v (Some e) slot = (v ≡ true) × (slot.cells ≡ e.cells) × In (record { instance = e.instance; kept = kept; base = slot.address; cells = e.cells }) w

pub record Visible (ls gs : List Tie) (s : State) (t : Scope Instance) : Type 0 where
  pub here : (x : Entity) → Seen ls false (nat_eq (slot_at s.here (key x)).frame s.frame) (t.here x) (slot_at s.here (key x))
  pub everywhere : (x : Entity) → Seen gs true (nat_eq (slot_at s.everywhere (key x)).frame 1) (t.everywhere x) (slot_at s.everywhere (key x))
  pub low : (k : ℕ) → (slot_at s.here k).frame ≤ s.frame

-- the same slots in the same frame
pub record Same (s s' : State) : Type 0 where
  pub here : (k : ℕ) → slot_at s'.here k ≡ slot_at s.here k
  pub everywhere : (k : ℕ) → slot_at s'.everywhere k ≡ slot_at s.everywhere k
  pub frame : s'.frame ≡ s.frame
  pub room : length s'.here ≡ length s.here
  pub everywhere_room : length s'.everywhere ≡ length s.everywhere

pub same_refl : (s : State) → Same s s
same_refl s = record { here = λ k. refl; everywhere = λ k. refl; frame = refl; room = refl; everywhere_room = refl }

pub same_trans : (s t u : State) → Same s t → Same t u → Same s u
same_trans s t u a b = record { here = λ k. b.here k ∙ a.here k; everywhere = λ k. b.everywhere k ∙ a.everywhere k; frame = b.frame ∙ a.frame; room = b.room ∙ a.room; everywhere_room = b.everywhere_room ∙ a.everywhere_room }

pub seen_grows : (w w' : List Tie) (kept v : Bool) (o : Option (Extent Instance)) (slot : Slot) → Grows w w' → Seen w kept v o slot → Seen w' kept v o slot
seen_grows w w' kept v None slot h e = e
seen_grows w w' kept v (Some x) slot h e = (e.0, e.1, h _ e.2)

pub visible_same : (ls gs gs' : List Tie) (s s' : State) (t : Scope Instance) → Grows gs gs' → Same s s' → Visible ls gs s t → Visible ls gs' s' t
visible_same ls gs gs' s s' t g e v = record {
  here = λ x. subst (λ z. Seen ls false (nat_eq z.frame s'.frame) (t.here x) z) (sym (e.here (key x))) (subst (λ f. Seen ls false (nat_eq (slot_at s.here (key x)).frame f) (t.here x) (slot_at s.here (key x))) (sym e.frame) (v.here x));
  everywhere = λ x. subst (λ z. Seen gs' true (nat_eq z.frame 1) (t.everywhere x) z) (sym (e.everywhere (key x))) (seen_grows gs gs' true (nat_eq (slot_at s.everywhere (key x)).frame 1) (t.everywhere x) (slot_at s.everywhere (key x)) g (v.everywhere x));
  low = λ k. subst (λ z. z.frame ≤ s'.frame) (sym (e.here k)) (subst (λ f. (slot_at s.here k).frame ≤ f) (sym e.frame) (v.low k));
}

-- a cell is found in both, or in neither
abbrev pub Found : List Tie → List Tie → ℕ → Option Address → Option Instance → Type 0
Found ls gs i a l = ((a ≡ None) × (l ≡ None)) ⊎ ((c : Tie) × Tied ls gs c × (i < c.cells) × (a ≡ Some (place c i)) × (l ≡ Some c.instance))

found_in : (ls gs : List Tie) (i : ℕ) (f : ℕ → Address) (slot : Slot) (e : Extent Instance) (c : Tie) → Tied ls gs c → c.instance ≡ e.instance → c.cells ≡ e.cells → f (slot.address + i) ≡ place c i → slot.cells ≡ e.cells → Found ls gs i (within f slot i) (within_extent i (Some e))
found_in ls gs i f slot e c t same size at cells = subst (λ n. Found ls gs i (cond (nat_lt i n) (Some (f (slot.address + i))) None) (within_extent i (Some e))) (sym cells) (go (nat_lt i e.cells) refl)
  where
    go : (b : Bool) → nat_lt i e.cells ≡ b → Found ls gs i (cond b (Some (f (slot.address + i))) None) (cond b (Some e.instance) None)
    go true lt = inr (c, t, let h = ltb-true i e.cells lt in omega arith, ap Some at, ap Some (sym same))
    go false lt = inl (refl, refl)

pub found : (ls gs : List Tie) (s : State) (t : Scope Instance) (x : Entity) (i : ℕ) → Visible ls gs s t → Found ls gs i (place_of s x i) (find t x i)
found ls gs s t x i v = go (nat_eq (slot_at s.here (key x)).frame s.frame) (nat_eq (slot_at s.everywhere (key x)).frame 1) (t.here x) (t.everywhere x) (v.here x) (v.everywhere x)
  where
    go : (a b : Bool) (o q : Option (Extent Instance)) → Seen ls false a o (slot_at s.here (key x)) → Seen gs true b q (slot_at s.everywhere (key x))
        → Found ls gs i (cond a (within Stacked (slot_at s.here (key x)) i) (cond b (within Kept (slot_at s.everywhere (key x)) i) None)) (within_extent i (first_of o q))
    go a b None None e f = subst (λ z. Found ls gs i (cond z (within Stacked (slot_at s.here (key x)) i) (cond b (within Kept (slot_at s.everywhere (key x)) i) None)) None) (sym e)
        (subst (λ z. Found ls gs i (cond z (within Kept (slot_at s.everywhere (key x)) i) None) None) (sym f) (inl (refl, refl)))
    go a b None (Some y) e f = subst (λ z. Found ls gs i (cond z (within Stacked (slot_at s.here (key x)) i) (cond b (within Kept (slot_at s.everywhere (key x)) i) None)) (within_extent i (Some y))) (sym e)
        (subst (λ z. Found ls gs i (cond z (within Kept (slot_at s.everywhere (key x)) i) None) (within_extent i (Some y))) (sym f.0)
        (found_in ls gs i Kept (slot_at s.everywhere (key x)) y (record { instance = y.instance; kept = true; base = (slot_at s.everywhere (key x)).address; cells = y.cells }) (inr f.2) refl refl refl f.1))
    go a b (Some y) q e f = subst (λ z. Found ls gs i (cond z (within Stacked (slot_at s.here (key x)) i) (cond b (within Kept (slot_at s.everywhere (key x)) i) None)) (within_extent i (Some y))) (sym e.0)
        (found_in ls gs i Stacked (slot_at s.here (key x)) y (record { instance = y.instance; kept = false; base = (slot_at s.here (key x)).address; cells = y.cells }) (inl e.2) refl refl refl e.1)

-- places

kept_inj : (a b : ℕ) → ◌≡◌ {A = Address} (Kept a) (Kept b) → a ≡ b
kept_inj a b e = cc

stacked_inj : (a b : ℕ) → ◌≡◌ {A = Address} (Stacked a) (Stacked b) → a ≡ b
stacked_inj a b e = cc

kept-ne-stacked : (a b : ℕ) → ◌≡◌ {A = Address} (Kept a) (Stacked b) → ⊥
kept-ne-stacked a b e = absurd (cc)

stacked-ne-kept : (a b : ℕ) → ◌≡◌ {A = Address} (Stacked a) (Kept b) → ⊥
stacked-ne-kept a b e = absurd (cc)

pub place_inj : (kept : Bool) (a i j : ℕ) → ◌≡◌ {A = Address} (cond kept (Kept (a + i)) (Stacked (a + i))) (cond kept (Kept (a + j)) (Stacked (a + j))) → i ≡ j
place_inj true a i j e = let h = kept_inj (a + i) (a + j) e in omega arith
place_inj false a i j e = let h = stacked_inj (a + i) (a + j) e in omega arith

put_at_same : (s : State) (a : Address) (v w : ℤ) → cell_at s a ≡ Some w → cell_at (put_at s a v) a ≡ Some v
put_at_same s (Kept a) v w e = get_set_same s.kept a v w e
put_at_same s (Stacked a) v w e = get_set_same s.cells a v w e

pub put_at_other : (s : State) (a b : Address) (v : ℤ) → (a ≡ b → ⊥) → cell_at (put_at s a v) b ≡ cell_at s b
put_at_other s (Kept a) (Kept b) v ne = get_set_other s.kept a b v (λ e. ne (ap Kept e))
put_at_other s (Kept a) (Stacked b) v ne = refl
put_at_other s (Stacked a) (Kept b) v ne = refl
put_at_other s (Stacked a) (Stacked b) v ne = get_set_other s.cells a b v (λ e. ne (ap Stacked e))

-- what a write leaves
pub record Rest (s s' : State) : Type 0 where
  pub here : s'.here ≡ s.here
  pub everywhere : s'.everywhere ≡ s.everywhere
  pub frame : s'.frame ≡ s.frame
  pub turns : s'.turns ≡ s.turns
  pub taken : s'.taken ≡ s.taken
  pub held : s'.held ≡ s.held
  pub input : s'.input ≡ s.input
  pub output : s'.output ≡ s.output
  pub declared : s'.declared ≡ s.declared
  pub notes : s'.notes ≡ s.notes

pub put_rest : (s : State) (a : Address) (v : ℤ) → Rest s (put_at s a v)
put_rest s (Kept a) v = record { here = refl; everywhere = refl; frame = refl; turns = refl; taken = refl; held = refl; input = refl; output = refl; declared = refl; notes = refl }
put_rest s (Stacked a) v = record { here = refl; everywhere = refl; frame = refl; turns = refl; taken = refl; held = refl; input = refl; output = refl; declared = refl; notes = refl }

pub rest_same : (s s' : State) → Rest s s' → Same s s'
rest_same s s' r = record { here = λ k. ap (λ z. slot_at z k) r.here; everywhere = λ k. ap (λ z. slot_at z k) r.everywhere; frame = r.frame; room = ap length r.here; everywhere_room = ap length r.everywhere }

pub cell_same : (s s' : State) (a : Address) → s'.cells ≡ s.cells → s'.kept ≡ s.kept → cell_at s' a ≡ cell_at s a
cell_same s s' (Kept a) e f = ap (λ z. slice_get z a) f
cell_same s s' (Stacked a) e f = ap (λ z. slice_get z a) e

abbrev pub Below : Address → ℕ → Type 0
Below (Kept a) n = Unit {0}
Below (Stacked a) n = a < n

pub below_from : (s : State) (a : Address) (v : ℤ) → cell_at s a ≡ Some v → Below a (length s.cells)
below_from s (Kept a) v e = tt
below_from s (Stacked a) v e = slice_get_within s.cells a v e

pub cell_cut : (x : Entity) (s u : State) (a : Address) → Below a (length s.cells) → cell_at (ended Here x s u) a ≡ cell_at u a
cell_cut x s u (Kept a) b = refl
cell_cut x s u (Stacked a) b = get_take (length s.cells) u.cells a b

pub cell_more : (region : Region) (x : Entity) (vs : List ℤ) (s : State) (a : Address) (w : ℤ) → cell_at s a ≡ Some w → cell_at (begun region x vs s) a ≡ Some w
cell_more Here x vs s (Kept a) w e = e
cell_more Here x vs s (Stacked a) w e = get_left s.cells vs a w e
cell_more Everywhere x vs s (Kept a) w e = get_left s.kept vs a w e
cell_more Everywhere x vs s (Stacked a) w e = e

-- steps

module _ (input : List ℕ) (b : Mode) (ls gs : List Tie) (s : State) (p : Path Instance) (m : Memory) (h : Has input b ls gs s p m) where
  -- nothing is written
  pub has_moved : (s' : State) (p' : Path Instance) (m' : Memory) → s'.cells ≡ s.cells → s'.kept ≡ s.kept → s'.declared ≡ s.declared → s'.notes ≡ s.notes → m'.cells ≡ m.cells → m'.input ≡ m.input
      → Goes p p' → p'.name ≡ p.name → p.elaborations ≤ p'.elaborations → p'.globals ≡ p.globals
      → s'.taken ≡ min p'.taken (length input) → s'.input ≡ drop p'.taken input → s'.held ≡ m'.held → Has input b ls gs s' p' m'
  has_moved s' p' m' cells kept declared notes mc mi goes name el globals taken rest held = record {
    one = h.one;
    apart = h.apart;
    right = λ c i t lt. cell_same s s' (place c i) cells kept ∙ h.right c i t lt ∙ ap (λ (f : Instance → ℕ → ℤ). Some (f c.instance i)) (sym mc);
    zeros = λ c i t le. ap (λ (f : Instance → ℕ → ℤ). f c.instance i) mc ∙ h.zeros c i t le;
    kept = h.kept;
    past = λ c t f. h.past c t (goes c.instance f);
    new = λ e l i n le. ap (λ (f : Instance → ℕ → ℤ). f l i) mc ∙ h.new e l i (n ∙ name) (omega arith);
    outer = λ e. name ∙ h.outer e;
    inside = λ e f. h.inside e (sym name ∙ f);
    ordered = λ e. notes ∙ h.ordered e;
    taken = taken;
    rest = rest;
    held = held;
    bytes = mi ∙ h.bytes;
    declared = subst (λ z. Matches gs z s'.declared) (sym globals) (subst (λ z. Matches gs p.globals z) (sym declared) h.declared);
  }

  -- other counts, and other notes
  pub has_renoted : (turns : ℕ) (left : Option ℕ) (notes : Schedule) → (b.ordered ≡ true → notes ≡ InOrder) → Has input b ls gs (record s { turns = turns; left = left; notes = notes }) p m
  has_renoted turns left notes o = record {
    one = h.one;
    apart = h.apart;
    right = λ c i t lt. cell_same s (record s { turns = turns; left = left; notes = notes }) (place c i) refl refl ∙ h.right c i t lt;
    zeros = h.zeros;
    kept = h.kept;
    past = h.past;
    new = h.new;
    outer = h.outer;
    inside = h.inside;
    ordered = o;
    taken = h.taken;
    rest = h.rest;
    held = h.held;
    bytes = h.bytes;
    declared = h.declared;
  }

  -- a cell that is tied gets a value
  module _ (c : Tie) (i : ℕ) (v : ℤ) (t : Tied ls gs c) (lt : i < c.cells) where
    put_right : (d : Tie) (j : ℕ) → Tied ls gs d → j < d.cells → cell_at (put_at s (place c i) v) (place d j) ≡ Some ((put m c.instance i v).cells d.instance j)
    put_right d j u lu = go (nat_eq i j) (instance_eq c.instance d.instance) refl refl
      where
        other : (i ≡ j → c.instance ≡ d.instance → ⊥) → cell_at (put_at s (place c i) v) (place d j) ≡ Some ((put m c.instance i v).cells d.instance j)
        other ne =
            put_at_other s (place c i) (place d j) v
            (λ e. let same = h.one c d t u (h.apart c d i j t u lt lu e) in ne (place_inj c.kept c.base i j (e ∙ ap (λ z. place z j) (sym same))) (ap (λ (z : Tie). z.instance) same))
            ∙ h.right d j u lu
            ∙ ap Some (sym (put_elsewhere m c.instance d.instance i j v ne))

        go : (a e : Bool) → nat_eq i j ≡ a → instance_eq c.instance d.instance ≡ e → cell_at (put_at s (place c i) v) (place d j) ≡ Some ((put m c.instance i v).cells d.instance j)
        go true true k l =
            let ij : i ≡ j = eqb-true i j k in
            let same : c ≡ d = h.one c d t u (instance_same c.instance d.instance l) in
            subst (λ z. cell_at (put_at s (place c i) v) (place z j) ≡ Some ((put m c.instance i v).cells z.instance j)) same
            (subst (λ z. cell_at (put_at s (place c i) v) (place c z) ≡ Some ((put m c.instance i v).cells c.instance z)) ij
            (put_at_same s (place c i) v (m.cells c.instance i) (h.right c i t lt) ∙ ap Some (sym (put_same m c.instance i v))))
        go true false k l = other (λ e f. true≢false (sym (subst (λ z. instance_eq c.instance z ≡ true) f (instance_refl c.instance)) ∙ l))
        go false e k l = other (λ f g. true≢false (sym (eq-eqb i j f) ∙ k))

    pub has_put : Has input b ls gs (put_at s (place c i) v) p (put m c.instance i v)
    has_put = record {
      one = h.one;
      apart = h.apart;
      right = put_right;
      zeros = λ d j u le. put_elsewhere m c.instance d.instance i j v (λ e f. let same = h.one c d t (inr u) f in let k = ap (λ (z : Tie). z.cells) same in omega arith) ∙ h.zeros d j u le;
      kept = h.kept;
      past = h.past;
      new = λ e l j n le. put_elsewhere m c.instance l i j v (λ f g. h.past c t (subst (λ z. Future p z) (sym g) (inl (n, le)))) ∙ h.new e l j n le;
      outer = h.outer;
      inside = h.inside;
      ordered = λ e. (put_rest s (place c i) v).notes ∙ h.ordered e;
      taken = (put_rest s (place c i) v).taken ∙ h.taken;
      rest = (put_rest s (place c i) v).input ∙ h.rest;
      held = (put_rest s (place c i) v).held ∙ h.held;
      bytes = h.bytes;
      declared = subst (λ z. Matches gs p.globals z) (sym (put_rest s (place c i) v).declared) h.declared;
    }
