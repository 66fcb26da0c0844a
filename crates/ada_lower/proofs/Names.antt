-- Names: cells and addresses that code pushes.
use Rattle.std.proofs.Common.{◌-◌, ◌≡◌, ℕ, ◌+◌, ◌*◌, ◌<◌, ◌≤◌, ℤ, pos, negsuc, ◌+ℤ◌, ◌-ℤ◌, ◌*ℤ◌, List, [], ◌∷◌, ◌++◌, length, slice_get, int_le, Option, Some, None, Ok, Err, Bool, true, false, cond, ◌&&◌, refl, sym, ap, ◌∙◌, subst, arith, le-leb, inl}
use Rattle.std.proofs.lemmas.Int.{ints}
use Rattle.ada_base.specs.declared.reason.Reason.TheVariants as reason
use Rattle.behaviours.specs.Paths.{Raises, Entity, VariableOf, ConstantOf}
use Rattle.typed_tree.specs.declared.expressions.Root.{Root}
use Rattle.typed_tree.specs.declared.expressions.Root.TheVariants as root
use Rattle.ada_meaning.specs.Values.{between, to_nat, count}
use Rattle.ada_meaning.specs.Operations.{CheckKind}
use Rattle.ada_meaning.specs.Stored as stored
use Rattle.ada_meaning.specs.Stored.{Stored, Cause, Left, Address}
use Rattle.ada_meaning.specs.Meaning.{Env, variable_root, constant_root}
use Rattle.stack_code.specs.declared.code.Code.{Code}
use Rattle.stack_code.specs.declared.instr.Instr.{Instr}
use Rattle.stack_code.specs.declared.instr.Instr.TheVariants as i
use Rattle.ada_base.specs.Cells.{value_in}
use Rattle.stack_code.specs.Deeds.{Deed, GoesOn, Points, deed_of, indexed, item_at, pointed, load_of_frame, load_from, cell_of_frame}
use Rattle.stack_code.specs.Machine.{Frame, outward_of, done, with_value, if_pointing}
use Rattle.ada_lower.specs.Driven.{Dyn, Fixed, Step, on, at, state_of, driven, At}
use Rattle.ada_lower.specs.Sights.{Around, Level, Main, Named, Own, Sight, Stands, Where, address_at, address_of, constant_root_of, load_at, root_of}
use Rattle.ada_lower.specs.Emission.{load, load_by}
use Rattle.ada_lower.specs.Fits.{Access, Ghost, Fit, Ends, place_in, IsAt, Leads, Refers, Holds, Knows, Stands as StandsFor}
use Rattle.ada_lower.proofs.Framework.{any, To, Doing, comes_as, comes_goes, comes_here, comes_instr, comes_on, comes_thrown, does_before}
use Rattle.ada_lower.proofs.Memory.{number_seen, does_read}
use Rattle.ada_lower.proofs.Parts.{Runs, does_is, check_is, Fewer, does_first}

above_zero : (z lo i : ℤ) → z ≡ i -ℤ lo → int_le lo i ≡ true → z ≡ pos (to_nat z)
above_zero (pos n) lo i e h = refl
above_zero (negsuc n) lo i e h = let no' : ⊥ = omega (arith, ints, e, h) in absurd no'

-- an index in its range: its offset
pub index_below : (low i high : ℤ) → between low i high ≡ true → (to_nat (i -ℤ low) < count low high) × (i -ℤ low ≡ pos (to_nat (i -ℤ low)))
index_below low i high h =
    let (h0, h1) = halves (int_le low i) (int_le i high) h in
    let e = above_zero (i -ℤ low) low i refl h0 in
    (less (to_nat (i -ℤ low)) (high +ℤ pos 1 -ℤ low) e refl h1, e)
  where
    halves : (a b : Bool) → (a && b) ≡ true → (a ≡ true) × (b ≡ true)
    halves true b h = (refl, h)
    halves false b h = let no' : false ≡ true = h in absurd cc

    less : (k : ℕ) (z : ℤ) → i -ℤ low ≡ pos k → z ≡ high +ℤ pos 1 -ℤ low → int_le i high ≡ true → k < to_nat z
    less k (pos n) e e' h = omega (arith, ints, e, e', h)
    less k (negsuc n) e e' h = absurd (omega (arith, ints, e, e', h))

pub root_refers : {limit : ℕ} {cuts : ℕ → ℕ → List ℕ} {g : Ghost} {f : Fixed} {s : Sight} {env : Env} (r : Root) (n : Named) → Knows limit cuts g f s env → root_of s.scope r ≡ Some n → Refers g f n (VariableOf (variable_root r env).object) (variable_root r env).offset
root_refers (root.Object x) n k e = k.object (VariableOf x) n e
root_refers (root.Item j) n k e = k.item j n e

pub constant_root_refers : {limit : ℕ} {cuts : ℕ → ℕ → List ℕ} {g : Ghost} {f : Fixed} {s : Sight} {env : Env} (r : Root) (n : Named) → Knows limit cuts g f s env → constant_root_of s.scope r ≡ Some n → Refers g f n (ConstantOf (constant_root r env).object) (constant_root r env).offset
constant_root_refers (root.Object x) n k e = k.object (ConstantOf x) n e
constant_root_refers (root.Item j) n k e = k.constant_item j n e

-- a body sees no frame outward that its thread doesn't
pub outward_seen : (ws : List Frame) (os : List ℕ) (k b : ℕ) → slice_get (outward_of ws os) k ≡ Some b → slice_get os k ≡ Some b
outward_seen [] os k b e = e
outward_seen (w ∷ ws) os k b e = absurd (let z : ◌≡◌ {A = Option ℕ} None (Some b) = e in cc)

module _ (limit : ℕ) (c : Code) (f : Fixed) where
  -- what a deed leads to, at that instruction with that stack
  abbrev pub comes_to : ℕ → List ℤ → Dyn → Deed → Step
  comes_to q st d w = driven limit c (done limit w (state_of f q st [] None d)) d.world

  pub comes_same : {y z : Step} → y ≡ z → To limit c y z
  comes_same {y} e = subst (λ z. To limit c y z) e (comes_here limit c y)

  -- memory is as long as is known of it
  pub within_top : {g : Ghost} {s : stored.State} {d : Dyn} {a : ℕ} → Fit g s d → a ≤ g.top → a ≤ length d.cells
  within_top fit le = let t = fit.top in omega (arith, t, le)

  -- an address in memory may be moved
  pub comes_pointing : (q : ℕ) (su : List ℤ) (a : ℕ) (w : Deed) (d : Dyn) → a ≤ length d.cells → comes_to q su d (Points (pos a) w) ≡ comes_to q su d w
  comes_pointing q su a w d le = ap (λ b. driven limit c (if_pointing b (state_of f q su [] None d) (done limit w (state_of f q su [] None d))) d.world) (le-leb a (length d.cells) le)

  -- to a field
  pub comes_field : {g : Ghost} {s : stored.State} {q : ℕ} {e : Option ℕ} (n a : ℕ) (st : List ℤ) (d : Dyn) → Fit g s d → a ≤ g.top → At c q (i.Field n) e → To limit c (on f q (pos a ∷ st) d) (on f (q + 1) (pos (a + n) ∷ st) d)
  comes_field {q = q} n a st d fit le at = comes_as limit c f (pos a ∷ st) d at (comes_pointing q (pos a ∷ st) a (GoesOn (q + 1) (pos (a + n) ∷ (st ++ f.below))) d (within_top fit le))

  -- an index in its range moves an address within memory
  pub pointed_is : (q : ℕ) (su : List ℤ) (low high v : ℤ) (stride a : ℕ) (st : List ℤ) (d : Dyn) → between low v high ≡ true → a + to_nat (v -ℤ low) * stride ≤ length d.cells
      → comes_to q su d (pointed q (indexed low high stride (pos a) v) (st ++ f.below)) ≡ on f (q + 1) (pos (a + to_nat (v -ℤ low) * stride) ∷ st) d
  pointed_is q su low high v stride a st d e le =
      ap (λ w. comes_to q su d w)
      (ap (λ b. pointed q (cond b (Some (pos a +ℤ ((v -ℤ low) *ℤ pos stride))) None) (st ++ f.below)) e
      ∙ ap (λ z. pointed q (Some (pos a +ℤ (z *ℤ pos stride))) (st ++ f.below)) (index_below low v high e).1)
      ∙ comes_pointing q su (a + to_nat (v -ℤ low) * stride) (GoesOn (q + 1) (pos (a + to_nat (v -ℤ low) * stride) ∷ (st ++ f.below))) d le

  pub comes_component : {g : Ghost} {s : stored.State} {q : ℕ} {e : Option ℕ} (low high v : ℤ) (stride a : ℕ) (st : List ℤ) (d : Dyn) → Fit g s d → between low v high ≡ true → a + to_nat (v -ℤ low) * stride ≤ g.top
      → At c q (i.Index low high stride) e → To limit c (on f q (v ∷ pos a ∷ st) d) (on f (q + 1) (pos (a + to_nat (v -ℤ low) * stride) ∷ st) d)
  comes_component {q = q} low high v stride a st d fit e le at = comes_as limit c f (v ∷ pos a ∷ st) d at (pointed_is q (v ∷ pos a ∷ st) low high v stride a st d e (within_top fit le))

  -- a deed that reads a cell
  pub comes_loads : {q : ℕ} {j : Instr} {e : Option ℕ} (a : ℕ) (v : ℤ) (st : List ℤ) (rest : List ℤ) (d : Dyn) → At c q j e → deed_of c q (st ++ f.below) f.base f.outward j ≡ load_from q (rest ++ f.below) (pos a) → value_in (slice_get d.cells a) ≡ Some v
      → To limit c (on f q st d) (on f (q + 1) (v ∷ rest) d)
  comes_loads {q} a v st rest d at is z =
      comes_as limit c f st d at
      (ap (λ w. driven limit c (done limit w (state_of f q st [] None d)) d.world) is
      ∙ ap (λ o. driven limit c (with_value o (state_of f q st [] None d) (λ v. done limit (GoesOn (q + 1) (v ∷ (rest ++ f.below))) (state_of f q st [] None d))) d.world) z)

  load_deed : (q : ℕ) (l : Level) (n a : ℕ) (st : List ℤ) → IsAt f l n a → deed_of c q st f.base f.outward (load_at l n) ≡ load_from q st (pos a)
  load_deed q Own n a st e = ap (λ z. load_from q st (pos z)) (sym e)
  load_deed q (Around k) n a st (b, o, e) = ap (λ z. load_of_frame q st z n) (outward_seen f.waiting f.outward (k - 1) b o) ∙ ap (λ z. load_from q st (pos z)) (sym e)
  load_deed q Main n a st e = ap (λ z. load_from q st (pos z)) (sym e)

  pub comes_load_at : {q : ℕ} {e : Option ℕ} (l : Level) (n a : ℕ) (v : ℤ) (st : List ℤ) (d : Dyn) → IsAt f l n a → At c q (load_at l n) e → value_in (slice_get d.cells a) ≡ Some v → To limit c (on f q st d) (on f (q + 1) (v ∷ st) d)
  comes_load_at {q} l n a v st d is at z = comes_loads a v st st d at (load_deed q l n a (st ++ f.below) is) z

  address_deed : (q : ℕ) (l : Level) (n a : ℕ) (st : List ℤ) → IsAt f l n a → deed_of c q st f.base f.outward (address_at l n) ≡ GoesOn (q + 1) (pos a ∷ st)
  address_deed q Own n a st e = ap (λ z. GoesOn (q + 1) (pos z ∷ st)) (sym e)
  address_deed q (Around k) n a st (b, o, e) = ap (λ z. cell_of_frame q st z n) (outward_seen f.waiting f.outward (k - 1) b o) ∙ ap (λ z. GoesOn (q + 1) (pos z ∷ st)) (sym e)
  address_deed q Main n a st e = ap (λ z. GoesOn (q + 1) (pos z ∷ st)) (sym e)

  -- the value of a number that is kept
  pub comes_number : {g : Ghost} {s : stored.State} {q : ℕ} {e : Option ℕ} (w : Where) (v : ℤ) (st : List ℤ) (d : Dyn) → Fit g s d → Holds g f w v → At c q (load_at w.level w.cell) e → To limit c (on f q st d) (on f (q + 1) (v ∷ st) d)
  comes_number {g} {s} w v st d fit (a, is, n) at = comes_load_at w.level w.cell a v st d is at (number_seen (g.what a) v s (slice_get d.cells a) n (fit.cells a))

  -- the address of what is named
  pub comes_address : {g : Ghost} {s : stored.State} {q : ℕ} {e : Option ℕ} (n : Named) (b : ℕ) (st : List ℤ) (d : Dyn) → Fit g s d → Leads n.through g f n.place b → At c q (address_of n) e → To limit c (on f q st d) (on f (q + 1) (pos b ∷ st) d)
  comes_address {g} {s} {q} {e} n b st d fit l at = go n.through l at
    where
      go : (t : Bool) → Leads t g f n.place b → At c q (cond t (load_at n.place.level n.place.cell) (address_at n.place.level n.place.cell)) e → To limit c (on f q st d) (on f (q + 1) (pos b ∷ st) d)
      go true l at = comes_number n.place (pos b) st d fit l at
      go false l at = comes_goes limit c f st (q + 1) (pos b ∷ st) d at (address_deed q n.place.level n.place.cell b (st ++ f.below) l)

  module _ (x : Ends) where
    fewer_same : (g : Ghost) → Fewer limit c f x g g
    fewer_same g a y p e = inl e

    -- steps that only read
    pub does_by : {A : Type 0} {g h : Ghost} {q : A → Type 0} {m : Stored A} {from from' : Dyn → Step} {to : A → Dyn → Step} → ((s : stored.State) (d : Dyn) → Fit g s d → To limit c (from d) (from' d)) → Doing limit c f x g h q m from' to → Doing limit c f x g h q m from to
    does_by {g = g} k j = does_first limit c f x (fewer_same g) (λ s d fit. (d, fit, k s d fit)) j

    -- an index is in its range, and the address is moved by it: by an instruction of whatever operands, which comes to this
    pub does_indexed : {g : Ghost} {q : ℕ} {j : Instr} (kind : CheckKind) (token : ℕ) (low high v : ℤ) (stride a : ℕ) (su st : List ℤ) → (between low v high ≡ true → a + to_nat (v -ℤ low) * stride ≤ g.top) → At c q j x.entry
        → Runs limit c f x g (λ _. between low v high ≡ true) (stored.checks kind token (between low v high)) (λ d. comes_to q su d (pointed q (indexed low high stride (pos a) v) (st ++ f.below))) (λ _ d. on f (q + 1) (pos (a + to_nat (v -ℤ low) * stride) ∷ st) d)
    does_indexed {g} {q} kind token low high v stride a su st near at = go (between low v high) refl
      where
        go : (b : Bool) → between low v high ≡ b → Runs limit c f x g (λ _. b ≡ true) (stored.checks kind token b) (λ d. comes_to q su d (pointed q (indexed low high stride (pos a) v) (st ++ f.below))) (λ _ d. on f (q + 1) (pos (a + to_nat (v -ℤ low) * stride) ∷ st) d)
        go true e =
            does_by
            (λ s d fit. comes_same (pointed_is q su low high v stride a st d e (within_top fit (near e))))
            (does_is limit c f x (Ok tt) (check_is kind token true) (refl, λ d. comes_here limit c _))
        go false e = does_is limit c f x (Err (Left (Raises reason.ConstraintError))) (check_is kind token false) (λ d.
            comes_on limit c (comes_same (ap (λ w. comes_to q su d w) (ap (λ b. pointed q (cond b (Some (pos a +ℤ ((v -ℤ low) *ℤ pos stride))) None) (st ++ f.below)) e))) (comes_thrown limit c f st reason.ConstraintError d at))

    -- the component at an index is read, where it is in its range
    pub does_item : {g : Ghost} {q : ℕ} {j : Instr} (kind : CheckKind) (token : ℕ) (low high v : ℤ) (stride a : ℕ) (su st : List ℤ) → At c q j x.entry
        → Runs limit c f x g (λ _. between low v high ≡ true) (stored.checks kind token (between low v high)) (λ d. comes_to q su d (item_at q (indexed low high stride (pos a) v) (st ++ f.below))) (λ _ d. comes_to q su d (load_from q (st ++ f.below) (pos (a + to_nat (v -ℤ low) * stride))))
    does_item {g} {q} kind token low high v stride a su st at = go (between low v high) refl
      where
        go : (b : Bool) → between low v high ≡ b
            → Runs limit c f x g (λ _. b ≡ true) (stored.checks kind token b) (λ d. comes_to q su d (item_at q (indexed low high stride (pos a) v) (st ++ f.below))) (λ _ d. comes_to q su d (load_from q (st ++ f.below) (pos (a + to_nat (v -ℤ low) * stride))))
        go true e = does_is limit c f x (Ok tt) (check_is kind token true) (
          refl,
          λ d.
              comes_same (ap (λ w. comes_to q su d w)
              (ap (λ b. item_at q (cond b (Some (pos a +ℤ ((v -ℤ low) *ℤ pos stride))) None) (st ++ f.below)) e
              ∙ ap (λ z. item_at q (Some (pos a +ℤ (z *ℤ pos stride))) (st ++ f.below)) (index_below low v high e).1)),
        )
        go false e = does_is limit c f x (Err (Left (Raises reason.ConstraintError))) (check_is kind token false) (λ d.
            comes_on limit c (comes_same (ap (λ w. comes_to q su d w) (ap (λ b. item_at q (cond b (Some (pos a +ℤ ((v -ℤ low) *ℤ pos stride))) None) (st ++ f.below)) e))) (comes_thrown limit c f st reason.ConstraintError d at))

    -- the index is on the stack
    pub does_index : {g : Ghost} {q : ℕ} (kind : CheckKind) (token : ℕ) (low high v : ℤ) (stride a : ℕ) (st : List ℤ) → (between low v high ≡ true → a + to_nat (v -ℤ low) * stride ≤ g.top) → At c q (i.Index low high stride) x.entry
        → Runs limit c f x g (λ _. between low v high ≡ true) (stored.checks kind token (between low v high)) (λ d. on f q (v ∷ pos a ∷ st) d) (λ _ d. on f (q + 1) (pos (a + to_nat (v -ℤ low) * stride) ∷ st) d)
    does_index kind token low high v stride a st near at = does_before limit c f x (λ d. comes_instr limit c f (v ∷ pos a ∷ st) d at) (does_indexed kind token low high v stride a (v ∷ pos a ∷ st) st near at)

    -- one cell of what is named is read
    pub does_load : {g : Ghost} {from to : ℕ} (s : Sight) (h : ℕ) (n : Named) (y : Entity) (first : ℕ) (st : List ℤ) → s.scope.entry ≡ x.entry → 0 < n.cells → Refers g f n y first → Stands c (load s.scope h n) from to
        → Runs limit c f x g any (stored.reads y first) (λ d. on f from st d) (λ v d. on f to (v ∷ st) d)
    does_load {g} {from} {to} s h n y first st entry some r l =
        let (p, access, here, is) = r.spread.cell 0 some in
        let e : first + 0 ≡ first = omega arith in
        let e' : r.address + 0 ≡ r.address = omega arith in
        go n.through p access (subst (λ i. place_in g y i ≡ Some p) e here) (subst (λ a. g.what a ≡ StandsFor access p) e' is) r.leads l
      where
        go : (t : Bool) (p : Address) (access : Access) → place_in g y first ≡ Some p → g.what r.address ≡ StandsFor access p → Leads t g f n.place r.address
            → Stands c (load_by t s.scope h n.place) from to
            → Runs limit c f x g any (stored.reads y first) (λ d. on f from st d) (λ v d. on f to (v ∷ st) d)
        go true p access here is l (first_, (second, e)) =
            does_by (λ s d fit. comes_number n.place (pos r.address) st d fit l first_)
            (subst (λ q. Runs limit c f x g any (stored.reads y first) (λ d. on f (from + 1) (pos r.address ∷ st) d) (λ v d. on f q (v ∷ st) d)) (sym e)
            (does_read limit c f x y first r.address p access here is (λ v d z. comes_loads r.address v (pos r.address ∷ st) st d second refl z)))
        go false p access here is l (first_, e) =
            subst (λ q. Runs limit c f x g any (stored.reads y first) (λ d. on f from st d) (λ v d. on f q (v ∷ st) d)) (sym e)
            (does_read limit c f x y first r.address p access here is (λ v d z. comes_load_at n.place.level n.place.cell r.address v st d l first_ z))
