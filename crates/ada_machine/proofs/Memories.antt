-- Cells that are read and written.
use Rattle.std.proofs.Common.{◌≡◌, ℕ, zero, suc, ◌+◌, ◌<◌, ◌≤◌, ◌+ℤ◌, ◌-ℤ◌, ◌*ℤ◌, cond, drop, length, ℤ, pos, negsuc, List, [], ◌∷◌, reverse, Option, Some, None, Bool, true, false, refl, sym, ap, ◌∙◌, subst, arith, w64, FitsSigned}
use Rattle.std.specs.Prelude.{◌^◌, IsSome, IsSomeAnd, int_lt, slice_get}
use Rattle.ada_base.specs.declared.reason.Reason.{Reason}
use Rattle.ada_base.specs.declared.reason.Reason.TheVariants.{ConstraintError, Declared}
use Rattle.std.proofs.lemmas.Bool.{false≢true, le-leb, leb-true}
use Rattle.ada_base.specs.Cells.{Cell, value_in, seen, written}
use Rattle.ada_base.specs.Operation.{turned}
use Rattle.stack_code.specs.Deeds.{Deed, GoesOn, Fails, Stores, Loads, Points, on_one, on_two, load_from, store_to, item_at, pointed, stored, stepped, indexed, if_among, if_between, is_between, reason_of}
use Rattle.stack_code.specs.Machine.{points}
use Rattle.ada_machine.specs.Played.{cell_of, IsClear, IsNear, IsReason, IsThere, Exceeds, Neither, Onward, Raised, on_value, on_cells, plays}

pub seen_at : (cells : List Cell) (z : ℤ) → IsSome (seen cells z) → seen cells (pos (cell_of z)) ≡ seen cells z
seen_at cells (pos n) h = refl
seen_at cells (negsuc n) h = absurd (false≢true h)

pub written_at : (cells : List Cell) (z v : ℤ) → IsSome (written cells z v) → written cells (pos (cell_of z)) v ≡ written cells z v
written_at cells (pos n) v h = refl
written_at cells (negsuc n) v h = absurd (false≢true h)

some_of : {A : Type 0} (o : Option A) (P : A → Type 0) → IsSomeAnd o P → IsSome o
some_of None P h = absurd h
some_of (Some x) P h = refl

fact_of : {A : Type 0} (o : Option A) (P : A → Type 0) (x : A) → IsSomeAnd o P → o ≡ Some x → P x
fact_of o P x h e = subst (λ w. IsSomeAnd w P) e h

pub cell_clear : (cells : List Cell) (a : ℤ) (k : ℤ → Deed) → IsClear (Loads a k) cells → IsSome (seen cells a)
cell_clear cells a k h = some_of (seen cells a) _ h

pub onward_clear : (cells : List Cell) (a v : ℤ) (k : ℤ → Deed) → IsClear (Loads a k) cells → seen cells a ≡ Some v → IsClear (k v) cells
onward_clear cells a v k h e = fact_of (seen cells a) _ v h e

pub write_clear : (cells : List Cell) (a v : ℤ) (d : Deed) → IsClear (Stores a v d) cells → IsSome (written cells a v)
write_clear cells a v d h = some_of (written cells a v) _ h

pub plays_load : (cells : List Cell) (a v : ℤ) (k : ℤ → Deed) → seen cells a ≡ Some v → plays (Loads a k) cells ≡ plays (k v) cells
plays_load cells a v k e = ap (λ o. on_value o (λ v. plays (k v) cells)) e

pub plays_store : (cells cells' : List Cell) (a v : ℤ) (d : Deed) → written cells a v ≡ Some cells' → plays (Stores a v d) cells ≡ plays d cells'
plays_store cells cells' a v d e = ap (λ o. on_cells o (λ cells. plays d cells)) e

module _ (pc : ℕ) (cells : List Cell) where
  pub load_clear : (old : List ℤ) (rest : List ℤ) (a : ℤ) → IsClear (on_one (reverse old) (λ a st. load_from pc st a)) cells → reverse old ≡ a ∷ rest → IsSome (seen cells a)
  load_clear old rest a h e = some_of (seen cells a) (λ v. Unit {0}) (subst (λ st. IsClear (on_one st (λ a st. load_from pc st a)) cells) e h)

  pub load_plays : (old mid new : List ℤ) (a v : ℤ) → reverse old ≡ a ∷ reverse mid → seen cells a ≡ Some v → reverse new ≡ v ∷ reverse mid → plays (on_one (reverse old) (λ a st. load_from pc st a)) cells ≡ Onward (pc + 1) (reverse new) cells
  load_plays old mid new a v e f g = ap (λ st. plays (on_one st (λ a st. load_from pc st a)) cells) e ∙ ap (λ o. on_value o (λ v. Onward (pc + 1) (v ∷ reverse mid) cells)) f ∙ ap (λ st. Onward (pc + 1) st cells) (sym g)

  pub load_cell_plays : (old new : List ℤ) (a v : ℤ) → seen cells a ≡ Some v → reverse new ≡ v ∷ reverse old → plays (load_from pc (reverse old) a) cells ≡ Onward (pc + 1) (reverse new) cells
  load_cell_plays old new a v f g = ap (λ o. on_value o (λ v. Onward (pc + 1) (v ∷ reverse old) cells)) f ∙ ap (λ st. Onward (pc + 1) st cells) (sym g)

  pub store_clear : (old mid rest : List ℤ) (a v : ℤ) → IsClear (on_two (reverse old) (λ a v st. Stores a v (GoesOn (pc + 1) st))) cells → reverse old ≡ v ∷ reverse mid → reverse mid ≡ a ∷ rest → IsSome (written cells a v)
  store_clear old mid rest a v h e f = some_of (written cells a v) (λ w. Unit {0}) (subst (λ st. IsClear (on_two st (λ a v st. Stores a v (GoesOn (pc + 1) st))) cells) (e ∙ ap (λ st. v ∷ st) f) h)

  pub store_plays : (cells' : List Cell) (old mid new : List ℤ) (a v : ℤ) → reverse old ≡ v ∷ reverse mid → reverse mid ≡ a ∷ reverse new → written cells a v ≡ Some cells' → plays (on_two (reverse old) (λ a v st. Stores a v (GoesOn (pc + 1) st))) cells ≡ Onward (pc + 1) (reverse new) cells'
  store_plays cells' old mid new a v e f g = ap (λ st. plays (on_two st (λ a v st. Stores a v (GoesOn (pc + 1) st))) cells) (e ∙ ap (λ st. v ∷ st) f) ∙ ap (λ o. on_cells o (λ w. Onward (pc + 1) (reverse new) w)) g

  pub store_cell_clear : (old rest : List ℤ) (a v : ℤ) → IsClear (store_to pc (reverse old) a) cells → reverse old ≡ v ∷ rest → IsSome (written cells a v)
  store_cell_clear old rest a v h e = some_of (written cells a v) (λ w. Unit {0}) (subst (λ st. IsClear (store_to pc st a) cells) e h)

  pub store_cell_plays : (cells' : List Cell) (old new : List ℤ) (a v : ℤ) → reverse old ≡ v ∷ reverse new → written cells a v ≡ Some cells' → plays (store_to pc (reverse old) a) cells ≡ Onward (pc + 1) (reverse new) cells'
  store_cell_plays cells' old new a v e g = ap (λ st. plays (store_to pc st a) cells) e ∙ ap (λ o. on_cells o (λ w. Onward (pc + 1) (reverse new) w)) g

  module _ (lo hi a : ℤ) where
    abbrev setting : List ℤ → Deed
    setting st = on_one st (λ v st. stored pc a (if_between lo hi v) st)

    set_on : (old rest : List ℤ) (v : ℤ) (o : Option ℤ) → reverse old ≡ v ∷ rest → if_between lo hi v ≡ o → setting (reverse old) ≡ stored pc a o rest
    set_on old rest v o e f = ap (λ st. setting st) e ∙ ap (λ o. stored pc a o rest) f

    pub set_cell_clear : (old rest : List ℤ) (v : ℤ) → IsClear (on_one (reverse old) (λ v st. stored pc a (if_between lo hi v) st)) cells → reverse old ≡ v ∷ rest → is_between lo v hi ≡ true → IsSome (written cells a v)
    set_cell_clear old rest v h e b = some_of (written cells a v) (λ w. Unit {0}) (subst (λ d. IsClear d cells) (set_on old rest v (Some v) e (ap (λ b. cond b (Some v) None) b)) h)

    pub set_cell_in : (cells' : List Cell) (old new : List ℤ) (v : ℤ) → reverse old ≡ v ∷ reverse new → is_between lo v hi ≡ true → written cells a v ≡ Some cells' → plays (on_one (reverse old) (λ v st. stored pc a (if_between lo hi v) st)) cells ≡ Onward (pc + 1) (reverse new) cells'
    set_cell_in cells' old new v e b w = ap (λ d. plays d cells) (set_on old (reverse new) v (Some v) e (ap (λ b. cond b (Some v) None) b)) ∙ ap (λ o. on_cells o (λ w. Onward (pc + 1) (reverse new) w)) w

    pub set_cell_out : (old new : List ℤ) (v : ℤ) → reverse old ≡ v ∷ reverse new → is_between lo v hi ≡ false → plays (on_one (reverse old) (λ v st. stored pc a (if_between lo hi v) st)) cells ≡ Raised ConstraintError (reverse new) cells
    set_cell_out old new v e b = ap (λ d. plays d cells) (set_on old (reverse new) v None e (ap (λ b. cond b (Some v) None) b))

  module _ (lo hi a : ℤ) where
    abbrev number_setting : List ℤ → Deed
    number_setting st = on_one st (λ v st. stored pc a (if_among lo hi v) st)

    number_on : (old rest : List ℤ) (v : ℤ) (o : Option ℤ) → reverse old ≡ v ∷ rest → if_among lo hi v ≡ o → number_setting (reverse old) ≡ stored pc a o rest
    number_on old rest v o e f = ap (λ st. number_setting st) e ∙ ap (λ o. stored pc a o rest) f

    pub set_number_clear : (old rest : List ℤ) (v : ℤ) → IsClear (on_one (reverse old) (λ v st. stored pc a (if_among lo hi v) st)) cells → reverse old ≡ v ∷ rest → is_between (turned lo) (turned v) (turned hi) ≡ true → IsSome (written cells a v)
    set_number_clear old rest v h e b = some_of (written cells a v) (λ w. Unit {0}) (subst (λ d. IsClear d cells) (number_on old rest v (Some v) e (ap (λ b. cond b (Some v) None) b)) h)

    pub set_number_in : (cells' : List Cell) (old new : List ℤ) (v : ℤ) → reverse old ≡ v ∷ reverse new → is_between (turned lo) (turned v) (turned hi) ≡ true → written cells a v ≡ Some cells' → plays (on_one (reverse old) (λ v st. stored pc a (if_among lo hi v) st)) cells ≡ Onward (pc + 1) (reverse new) cells'
    set_number_in cells' old new v e b w = ap (λ d. plays d cells) (number_on old (reverse new) v (Some v) e (ap (λ b. cond b (Some v) None) b)) ∙ ap (λ o. on_cells o (λ w. Onward (pc + 1) (reverse new) w)) w

    pub set_number_out : (old new : List ℤ) (v : ℤ) → reverse old ≡ v ∷ reverse new → is_between (turned lo) (turned v) (turned hi) ≡ false → plays (on_one (reverse old) (λ v st. stored pc a (if_among lo hi v) st)) cells ≡ Raised ConstraintError (reverse new) cells
    set_number_out old new v e b = ap (λ d. plays d cells) (number_on old (reverse new) v None e (ap (λ b. cond b (Some v) None) b))

-- ---- components

-- the top of a stack, where it is taken off
topped : (st rest : List ℤ) (a x : ℤ) → slice_get st 0 ≡ Some a → st ≡ x ∷ rest → st ≡ a ∷ rest
topped st rest a x e f =
    let first : Some x ≡ Some a = ap (λ s. slice_get s 0) (sym f) ∙ e in
    let same : x ≡ a = cc in
    f ∙ ap (λ v. v ∷ rest) same

headed : (st : List ℤ) (a : ℤ) → slice_get st 0 ≡ Some a → st ≡ a ∷ drop 1 st
headed [] a e = cc
headed (x ∷ st) a e =
    let same : x ≡ a = cc in
    ap (λ v. v ∷ st) same

-- a cell that is seen has an address of a cell
within_list : (cells : List Cell) (n : ℕ) → IsSome (value_in (slice_get cells n)) → n ≤ length cells
within_list [] zero h = absurd (false≢true h)
within_list [] (suc n) h = absurd (false≢true h)
within_list (c ∷ cells) zero h = omega arith
within_list (c ∷ cells) (suc n) h = let l = within_list cells n h in omega (arith, l)

seen_points : (cells : List Cell) (z : ℤ) → IsSome (seen cells z) → points cells z ≡ true
seen_points cells (pos n) h = le-leb n (length cells) (within_list cells n h)
seen_points cells (negsuc n) h = absurd (false≢true h)

-- such an address is a number of 63 bits
pub points_near : (cells : List Cell) (z : ℤ) → points cells z ≡ true → length cells < 2 ^ 33 → IsNear z
points_near cells (pos n) h l = let m = leb-true n (length cells) h in omega (arith, l, m)
points_near cells (negsuc n) h l = absurd (false≢true h)

pub there_near : (cells : List Cell) (lo hi a i : ℤ) (size : ℕ) → is_between lo i hi ≡ true → length cells < 2 ^ 33 → IsThere cells (indexed lo hi size a i) → IsNear (a +ℤ ((i -ℤ lo) *ℤ pos size))
there_near cells lo hi a i size b l h = points_near cells (a +ℤ ((i -ℤ lo) *ℤ pos size)) (subst (λ b. IsThere cells (cond b (Some (a +ℤ ((i -ℤ lo) *ℤ pos size))) None)) b h) l

pub there_same : (cells : List Cell) (lo hi a a' i i' : ℤ) (size : ℕ) → a' ≡ a → i' ≡ i → IsThere cells (indexed lo hi size a i) → IsThere cells (indexed lo hi size a' i')
there_same cells lo hi a a' i i' size e f h =
    subst (λ (x : ℤ). IsThere cells (indexed lo hi size x i')) (sym e)
    (subst (λ (x : ℤ). IsThere cells (indexed lo hi size a x)) (sym f) h)

pointed_there : (pc : ℕ) (o : Option ℤ) (st : List ℤ) (cells : List Cell) → IsClear (pointed pc o st) cells → IsThere cells o
pointed_there pc None st cells h = tt
pointed_there pc (Some a) st cells h = h.0

item_there : (pc : ℕ) (o : Option ℤ) (st : List ℤ) (cells : List Cell) → IsClear (item_at pc o st) cells → IsThere cells o
item_there pc None st cells h = tt
item_there pc (Some a) st cells h = seen_points cells a (some_of (seen cells a) (λ v. Unit {0}) h)

pointed_plays : (pc : ℕ) (o : Option ℤ) (to : ℤ) (st new : List ℤ) (cells : List Cell) → IsClear (pointed pc o st) cells → o ≡ Some to → new ≡ to ∷ st → plays (pointed pc o st) cells ≡ Onward (pc + 1) new cells
pointed_plays pc o to st new cells h e f =
    let k : points cells to ≡ true = (subst (λ o. IsClear (pointed pc o st) cells) e h).0 in
    ap (λ o. plays (pointed pc o st) cells) e ∙ ap (λ b. cond b (Onward (pc + 1) (to ∷ st) cells) Neither) k ∙ ap (λ w. Onward (pc + 1) w cells) (sym f)

-- a field
module _ (pc n : ℕ) (cells : List Cell) where
  abbrev moving : List ℤ → Deed
  moving st = on_one st (λ a st. Points a (GoesOn (pc + 1) ((a +ℤ pos n) ∷ st)))

  field_there : (old rest : List ℤ) (a : ℤ) → IsClear (on_one (reverse old) (λ a st. Points a (GoesOn (pc + 1) ((a +ℤ pos n) ∷ st)))) cells → reverse old ≡ a ∷ rest → points cells a ≡ true
  field_there old rest a h e = (subst (λ st. IsClear (moving st) cells) e h).0

  near_more : (a : ℤ) → IsNear a → n < 2 ^ 32 → points cells a ≡ true → length cells < 2 ^ 33 → FitsSigned w64 (a +ℤ pos n)
  near_more (pos k) h l p q = let m = leb-true k (length cells) p in record { sfits = omega (arith, m, l, q) }
  near_more (negsuc k) h l p q = absurd h

  pub field_near : (old rest : List ℤ) (a : ℤ) → IsClear (on_one (reverse old) (λ a st. Points a (GoesOn (pc + 1) ((a +ℤ pos n) ∷ st)))) cells → reverse old ≡ a ∷ rest → length cells < 2 ^ 33 → n < 2 ^ 32 → FitsSigned w64 (a +ℤ pos n)
  field_near old rest a h e l m = let p = field_there old rest a h e in near_more a (points_near cells a p l) m p l

  pub field_plays : (old mid new : List ℤ) (a to : ℤ) → IsClear (on_one (reverse old) (λ a st. Points a (GoesOn (pc + 1) ((a +ℤ pos n) ∷ st)))) cells → reverse old ≡ a ∷ reverse mid → to ≡ a +ℤ pos n → reverse new ≡ to ∷ reverse mid → plays (on_one (reverse old) (λ a st. Points a (GoesOn (pc + 1) ((a +ℤ pos n) ∷ st)))) cells ≡ Onward (pc + 1) (reverse new) cells
  field_plays old mid new a to h e f g =
      ap (λ st. plays (moving st) cells) e ∙ ap (λ b. cond b (Onward (pc + 1) ((a +ℤ pos n) ∷ reverse mid) cells) Neither) (field_there old (reverse mid) a h e)
      ∙ ap (λ z. Onward (pc + 1) (z ∷ reverse mid) cells) (sym f) ∙ ap (λ w. Onward (pc + 1) w cells) (sym g)

pub reason_far : (old rest : List ℤ) (n : ℤ) → reverse old ≡ n ∷ reverse rest → IsReason (reason_of n) None → Exceeds (on_one (reverse old) (λ n st. Fails (reason_of n) st))
reason_far old rest n e h = subst (λ st. Exceeds (on_one st (λ n st. Fails (reason_of n) st))) (sym e) (by_reason (reason_of n) h)
  where
    by_reason : (r : Reason) → IsReason r None → Exceeds (Fails r (reverse rest))
    by_reason (Declared k) h = h
    by_reason r h = absurd h

module _ (pc : ℕ) (lo hi : ℤ) (size : ℕ) (cells : List Cell) where
  -- by two operands
  abbrev indexing : List ℤ → Deed
  indexing st = on_two st (λ a i st. pointed pc (indexed lo hi size a i) st)

  pub index_there : (old mid rest : List ℤ) (a i : ℤ) → IsClear (on_two (reverse old) (λ a i st. pointed pc (indexed lo hi size a i) st)) cells → reverse old ≡ i ∷ reverse mid → reverse mid ≡ a ∷ rest → IsThere cells (indexed lo hi size a i)
  index_there old mid rest a i h e f = pointed_there pc (indexed lo hi size a i) rest cells (subst (λ st. IsClear (indexing st) cells) (e ∙ ap (λ st. i ∷ st) f) h)

  pub index_at : (old mid rest new : List ℤ) (a i to : ℤ) → IsClear (on_two (reverse old) (λ a i st. pointed pc (indexed lo hi size a i) st)) cells → reverse old ≡ i ∷ reverse mid → reverse mid ≡ a ∷ reverse rest → indexed lo hi size a i ≡ Some to → reverse new ≡ to ∷ reverse rest → plays (on_two (reverse old) (λ a i st. pointed pc (indexed lo hi size a i) st)) cells ≡ Onward (pc + 1) (reverse new) cells
  index_at old mid rest new a i to h e f g k =
      let q = e ∙ ap (λ st. i ∷ st) f in
      ap (λ st. plays (indexing st) cells) q ∙ pointed_plays pc (indexed lo hi size a i) to (reverse rest) (reverse new) cells (subst (λ st. IsClear (indexing st) cells) q h) g k

  pub index_out : (old mid rest : List ℤ) (a i : ℤ) → reverse old ≡ i ∷ reverse mid → reverse mid ≡ a ∷ reverse rest → indexed lo hi size a i ≡ None → plays (on_two (reverse old) (λ a i st. pointed pc (indexed lo hi size a i) st)) cells ≡ Raised ConstraintError (reverse rest) cells
  index_out old mid rest a i e f g = ap (λ st. plays (indexing st) cells) (e ∙ ap (λ st. i ∷ st) f) ∙ ap (λ o. plays (pointed pc o (reverse rest)) cells) g

  pub item_place : (old mid rest : List ℤ) (a i : ℤ) → IsClear (on_two (reverse old) (λ a i st. item_at pc (indexed lo hi size a i) st)) cells → reverse old ≡ i ∷ reverse mid → reverse mid ≡ a ∷ rest → IsThere cells (indexed lo hi size a i)
  item_place old mid rest a i h e f = item_there pc (indexed lo hi size a i) rest cells (subst (λ st. IsClear (on_two st (λ a i st. item_at pc (indexed lo hi size a i) st)) cells) (e ∙ ap (λ st. i ∷ st) f) h)

  -- by an operand and a cell
  abbrev one_indexing : ℤ → List ℤ → Deed
  one_indexing i st = on_one st (λ a st. pointed pc (indexed lo hi size a i) st)

  on_top : (K : List ℤ → Deed) (st : List ℤ) (a : ℤ) → slice_get st 0 ≡ Some a → IsClear (K st) cells → IsClear (K (a ∷ drop 1 st)) cells
  on_top K st a e h = subst (λ st. IsClear (K st) cells) (headed st a e) h

  pub index_cell_there : (at : ℤ) (old : List ℤ) (a i : ℤ) → IsClear (Loads at (λ i. on_one (reverse old) (λ a st. pointed pc (indexed lo hi size a i) st))) cells → seen cells at ≡ Some i → slice_get (reverse old) 0 ≡ Some a → IsThere cells (indexed lo hi size a i)
  index_cell_there at old a i h s e = pointed_there pc (indexed lo hi size a i) (drop 1 (reverse old)) cells (on_top (one_indexing i) (reverse old) a e (onward_clear cells at i (λ i. one_indexing i (reverse old)) h s))

  pub item_cell_there : (at : ℤ) (old : List ℤ) (a i : ℤ) → IsClear (Loads at (λ i. on_one (reverse old) (λ a st. item_at pc (indexed lo hi size a i) st))) cells → seen cells at ≡ Some i → slice_get (reverse old) 0 ≡ Some a → IsThere cells (indexed lo hi size a i)
  item_cell_there at old a i h s e = item_there pc (indexed lo hi size a i) (drop 1 (reverse old)) cells (on_top (λ st. on_one st (λ a st. item_at pc (indexed lo hi size a i) st)) (reverse old) a e (onward_clear cells at i (λ i. on_one (reverse old) (λ a st. item_at pc (indexed lo hi size a i) st)) h s))

  pub index_cell_at : (at : ℤ) (old new : List ℤ) (a i to : ℤ) → IsClear (Loads at (λ i. on_one (reverse old) (λ a st. pointed pc (indexed lo hi size a i) st))) cells → seen cells at ≡ Some i → slice_get (reverse old) 0 ≡ Some a → indexed lo hi size a i ≡ Some to → reverse new ≡ to ∷ drop 1 (reverse old) → plays (Loads at (λ i. on_one (reverse old) (λ a st. pointed pc (indexed lo hi size a i) st))) cells ≡ Onward (pc + 1) (reverse new) cells
  index_cell_at at old new a i to h s f g k = plays_load cells at i (λ i. one_indexing i (reverse old)) s
      ∙ ap (λ st. plays (one_indexing i st) cells) (headed (reverse old) a f)
      ∙ pointed_plays pc (indexed lo hi size a i) to (drop 1 (reverse old)) (reverse new) cells (on_top (one_indexing i) (reverse old) a f (onward_clear cells at i (λ i. one_indexing i (reverse old)) h s)) g k

  pub index_cell_out : (at : ℤ) (old rest : List ℤ) (a x i : ℤ) → seen cells at ≡ Some i → slice_get (reverse old) 0 ≡ Some a → reverse old ≡ x ∷ reverse rest → indexed lo hi size a i ≡ None → plays (Loads at (λ i. on_one (reverse old) (λ a st. pointed pc (indexed lo hi size a i) st))) cells ≡ Raised ConstraintError (reverse rest) cells
  index_cell_out at old rest a x i s f e g = plays_load cells at i (λ i. one_indexing i (reverse old)) s
      ∙ ap (λ st. plays (one_indexing i st) cells) (topped (reverse old) (reverse rest) a x f e) ∙ ap (λ o. plays (pointed pc o (reverse rest)) cells) g

  -- at a component of an object whose address is known, nothing is taken off
  pub index_main_there : (at a : ℤ) (old : List ℤ) (i : ℤ) → IsClear (Loads at (λ i. pointed pc (indexed lo hi size a i) (reverse old))) cells → seen cells at ≡ Some i → IsThere cells (indexed lo hi size a i)
  index_main_there at a old i h s = pointed_there pc (indexed lo hi size a i) (reverse old) cells (onward_clear cells at i (λ i. pointed pc (indexed lo hi size a i) (reverse old)) h s)

  pub item_main_there : (at a : ℤ) (old : List ℤ) (i : ℤ) → IsClear (Loads at (λ i. item_at pc (indexed lo hi size a i) (reverse old))) cells → seen cells at ≡ Some i → IsThere cells (indexed lo hi size a i)
  item_main_there at a old i h s = item_there pc (indexed lo hi size a i) (reverse old) cells (onward_clear cells at i (λ i. item_at pc (indexed lo hi size a i) (reverse old)) h s)

  pub index_main_at : (at a : ℤ) (old new : List ℤ) (i to : ℤ) → IsClear (Loads at (λ i. pointed pc (indexed lo hi size a i) (reverse old))) cells → seen cells at ≡ Some i → indexed lo hi size a i ≡ Some to → reverse new ≡ to ∷ reverse old → plays (Loads at (λ i. pointed pc (indexed lo hi size a i) (reverse old))) cells ≡ Onward (pc + 1) (reverse new) cells
  index_main_at at a old new i to h s g k = plays_load cells at i (λ i. pointed pc (indexed lo hi size a i) (reverse old)) s
      ∙ pointed_plays pc (indexed lo hi size a i) to (reverse old) (reverse new) cells (onward_clear cells at i (λ i. pointed pc (indexed lo hi size a i) (reverse old)) h s) g k

  pub index_main_out : (at a : ℤ) (old : List ℤ) (i : ℤ) → seen cells at ≡ Some i → indexed lo hi size a i ≡ None → plays (Loads at (λ i. pointed pc (indexed lo hi size a i) (reverse old))) cells ≡ Raised ConstraintError (reverse old) cells
  index_main_out at a old i s g = plays_load cells at i (λ i. pointed pc (indexed lo hi size a i) (reverse old)) s ∙ ap (λ o. plays (pointed pc o (reverse old)) cells) g

  pub item_main_clear : (at a : ℤ) (old : List ℤ) (i to : ℤ) → IsClear (Loads at (λ i. item_at pc (indexed lo hi size a i) (reverse old))) cells → seen cells at ≡ Some i → indexed lo hi size a i ≡ Some to → IsSome (seen cells to)
  item_main_clear at a old i to h s g = some_of (seen cells to) (λ v. Unit {0}) (subst (λ o. IsClear (item_at pc o (reverse old)) cells) g (onward_clear cells at i (λ i. item_at pc (indexed lo hi size a i) (reverse old)) h s))

  pub item_main_at : (at a : ℤ) (old new : List ℤ) (i to v : ℤ) → seen cells at ≡ Some i → indexed lo hi size a i ≡ Some to → seen cells to ≡ Some v → reverse new ≡ v ∷ reverse old → plays (Loads at (λ i. item_at pc (indexed lo hi size a i) (reverse old))) cells ≡ Onward (pc + 1) (reverse new) cells
  item_main_at at a old new i to v s g t h = plays_load cells at i (λ i. item_at pc (indexed lo hi size a i) (reverse old)) s ∙ ap (λ o. plays (item_at pc o (reverse old)) cells) g
      ∙ ap (λ o. on_value o (λ v. Onward (pc + 1) (v ∷ reverse old) cells)) t ∙ ap (λ st. Onward (pc + 1) st cells) (sym h)

  pub item_main_out : (at a : ℤ) (old : List ℤ) (i : ℤ) → seen cells at ≡ Some i → indexed lo hi size a i ≡ None → plays (Loads at (λ i. item_at pc (indexed lo hi size a i) (reverse old))) cells ≡ Raised ConstraintError (reverse old) cells
  item_main_out at a old i s g = plays_load cells at i (λ i. item_at pc (indexed lo hi size a i) (reverse old)) s ∙ ap (λ o. plays (item_at pc o (reverse old)) cells) g

  pub item_clear : (old mid rest : List ℤ) (a i to : ℤ) → IsClear (on_two (reverse old) (λ a i st. item_at pc (indexed lo hi size a i) st)) cells → reverse old ≡ i ∷ reverse mid → reverse mid ≡ a ∷ rest → indexed lo hi size a i ≡ Some to → IsSome (seen cells to)
  item_clear old mid rest a i to h e f g = some_of (seen cells to) (λ v. Unit {0}) (subst (λ o. IsClear (item_at pc o rest) cells) g (subst (λ st. IsClear (on_two st (λ a i st. item_at pc (indexed lo hi size a i) st)) cells) (e ∙ ap (λ st. i ∷ st) f) h))

  pub item_at_cell : (old mid rest new : List ℤ) (a i to v : ℤ) → reverse old ≡ i ∷ reverse mid → reverse mid ≡ a ∷ reverse rest → indexed lo hi size a i ≡ Some to → seen cells to ≡ Some v → reverse new ≡ v ∷ reverse rest → plays (on_two (reverse old) (λ a i st. item_at pc (indexed lo hi size a i) st)) cells ≡ Onward (pc + 1) (reverse new) cells
  item_at_cell old mid rest new a i to v e f g s h = ap (λ st. plays (on_two st (λ a i st. item_at pc (indexed lo hi size a i) st)) cells) (e ∙ ap (λ st. i ∷ st) f) ∙ ap (λ o. plays (item_at pc o (reverse rest)) cells) g
      ∙ ap (λ o. on_value o (λ v. Onward (pc + 1) (v ∷ reverse rest) cells)) s ∙ ap (λ st. Onward (pc + 1) st cells) (sym h)

  pub item_out : (old mid rest : List ℤ) (a i : ℤ) → reverse old ≡ i ∷ reverse mid → reverse mid ≡ a ∷ reverse rest → indexed lo hi size a i ≡ None → plays (on_two (reverse old) (λ a i st. item_at pc (indexed lo hi size a i) st)) cells ≡ Raised ConstraintError (reverse rest) cells
  item_out old mid rest a i e f g = ap (λ st. plays (on_two st (λ a i st. item_at pc (indexed lo hi size a i) st)) cells) (e ∙ ap (λ st. i ∷ st) f) ∙ ap (λ o. plays (item_at pc o (reverse rest)) cells) g

  pub item_cell_clear : (at : ℤ) (old : List ℤ) (a i to : ℤ) → IsClear (Loads at (λ i. on_one (reverse old) (λ a st. item_at pc (indexed lo hi size a i) st))) cells → seen cells at ≡ Some i → slice_get (reverse old) 0 ≡ Some a → indexed lo hi size a i ≡ Some to → IsSome (seen cells to)
  item_cell_clear at old a i to h s e g = on_top (reverse old) e (fact_of (seen cells at) (λ i. IsClear (on_one (reverse old) (λ a st. item_at pc (indexed lo hi size a i) st)) cells) i h s)
    where
      on_top : (st : List ℤ) → slice_get st 0 ≡ Some a → IsClear (on_one st (λ a st. item_at pc (indexed lo hi size a i) st)) cells → IsSome (seen cells to)
      on_top [] f w = cc
      on_top (x ∷ rest) f w =
          let same : x ≡ a = cc in
          some_of (seen cells to) (λ v. Unit {0}) (subst (λ o. IsClear (item_at pc o rest) cells) g (subst (λ x. IsClear (item_at pc (indexed lo hi size x i) rest) cells) same w))

  pub item_cell_at : (at : ℤ) (old new : List ℤ) (a i to v : ℤ) → seen cells at ≡ Some i → slice_get (reverse old) 0 ≡ Some a → indexed lo hi size a i ≡ Some to → seen cells to ≡ Some v → reverse new ≡ v ∷ drop 1 (reverse old) → plays (Loads at (λ i. on_one (reverse old) (λ a st. item_at pc (indexed lo hi size a i) st))) cells ≡ Onward (pc + 1) (reverse new) cells
  item_cell_at at old new a i to v s f g t h = ap (λ o. on_value o (λ i. plays (on_one (reverse old) (λ a st. item_at pc (indexed lo hi size a i) st)) cells)) s
      ∙ ap (λ st. plays (on_one st (λ a st. item_at pc (indexed lo hi size a i) st)) cells) (headed (reverse old) a f) ∙ ap (λ o. plays (item_at pc o (drop 1 (reverse old))) cells) g
      ∙ ap (λ o. on_value o (λ v. Onward (pc + 1) (v ∷ drop 1 (reverse old)) cells)) t ∙ ap (λ st. Onward (pc + 1) st cells) (sym h)

  pub item_cell_out : (at : ℤ) (old rest : List ℤ) (a x i : ℤ) → seen cells at ≡ Some i → slice_get (reverse old) 0 ≡ Some a → reverse old ≡ x ∷ reverse rest → indexed lo hi size a i ≡ None → plays (Loads at (λ i. on_one (reverse old) (λ a st. item_at pc (indexed lo hi size a i) st))) cells ≡ Raised ConstraintError (reverse rest) cells
  item_cell_out at old rest a x i s f e g = ap (λ o. on_value o (λ i. plays (on_one (reverse old) (λ a st. item_at pc (indexed lo hi size a i) st)) cells)) s
      ∙ ap (λ st. plays (on_one st (λ a st. item_at pc (indexed lo hi size a i) st)) cells) (topped (reverse old) (reverse rest) a x f e) ∙ ap (λ o. plays (item_at pc o (reverse rest)) cells) g

-- ---- counting loops

module _ (pc : ℕ) (cells : List Cell) (st : List ℤ) (n m : ℤ) (to : ℕ) where
  pub step_first : (k : ℤ → ℤ → Deed) → IsClear (Loads n (λ x. Loads m (λ y. k x y))) cells → IsSome (seen cells n)
  step_first k h = some_of (seen cells n) _ h

  pub step_second : (k : ℤ → ℤ → Deed) (x : ℤ) → IsClear (Loads n (λ x. Loads m (λ y. k x y))) cells → seen cells n ≡ Some x → IsSome (seen cells m)
  step_second k x h e = some_of (seen cells m) _ (fact_of (seen cells n) (λ x. IsClear (Loads m (λ y. k x y)) cells) x h e)

  step_third : (k : ℤ → ℤ → Deed) (x y : ℤ) → IsClear (Loads n (λ x. Loads m (λ y. k x y))) cells → seen cells n ≡ Some x → seen cells m ≡ Some y → IsClear (k x y) cells
  step_third k x y h e f = fact_of (seen cells m) (λ y. IsClear (k x y) cells) y (fact_of (seen cells n) (λ x. IsClear (Loads m (λ y. k x y)) cells) x h e) f

  stepped_clear : (b : Bool) (v : ℤ) → b ≡ true → IsClear (stepped pc st n b v to) cells → IsSome (written cells n v)
  stepped_clear b v e h = some_of (written cells n v) (λ w. Unit {0}) (subst (λ b. IsClear (stepped pc st n b v to) cells) e h)

  pub next_third : (x y : ℤ) → IsClear (Loads n (λ x. Loads m (λ y. stepped pc st n (int_lt x y) (x +ℤ pos 1) to))) cells → seen cells n ≡ Some x → seen cells m ≡ Some y → int_lt x y ≡ true → IsSome (written cells n (x +ℤ pos 1))
  next_third x y h e f b = stepped_clear (int_lt x y) (x +ℤ pos 1) b (step_third (λ x y. stepped pc st n (int_lt x y) (x +ℤ pos 1) to) x y h e f)

  pub prior_third : (x y : ℤ) → IsClear (Loads n (λ x. Loads m (λ y. stepped pc st n (int_lt y x) (x -ℤ pos 1) to))) cells → seen cells n ≡ Some x → seen cells m ≡ Some y → int_lt y x ≡ true → IsSome (written cells n (x -ℤ pos 1))
  prior_third x y h e f b = stepped_clear (int_lt y x) (x -ℤ pos 1) b (step_third (λ x y. stepped pc st n (int_lt y x) (x -ℤ pos 1) to) x y h e f)

  plays_two : (k : ℤ → ℤ → Deed) (x y : ℤ) → seen cells n ≡ Some x → seen cells m ≡ Some y → plays (Loads n (λ x. Loads m (λ y. k x y))) cells ≡ plays (k x y) cells
  plays_two k x y e f = ap (λ o. on_value o (λ x. plays (Loads m (λ y. k x y)) cells)) e ∙ ap (λ o. on_value o (λ y. plays (k x y) cells)) f

  plays_back : (b : Bool) (v : ℤ) (cells' : List Cell) → b ≡ true → written cells n v ≡ Some cells' → plays (stepped pc st n b v to) cells ≡ Onward to st cells'
  plays_back b v cells' e w = ap (λ b. plays (stepped pc st n b v to) cells) e ∙ ap (λ o. on_cells o (λ w. Onward to st w)) w

  plays_on : (b : Bool) (v : ℤ) → b ≡ false → plays (stepped pc st n b v to) cells ≡ Onward (pc + 1) st cells
  plays_on b v e = ap (λ b. plays (stepped pc st n b v to) cells) e

  pub next_back : (x y : ℤ) (cells' : List Cell) → seen cells n ≡ Some x → seen cells m ≡ Some y → int_lt x y ≡ true → written cells n (x +ℤ pos 1) ≡ Some cells' → plays (Loads n (λ x. Loads m (λ y. stepped pc st n (int_lt x y) (x +ℤ pos 1) to))) cells ≡ Onward to st cells'
  next_back x y cells' e f b w = plays_two (λ x y. stepped pc st n (int_lt x y) (x +ℤ pos 1) to) x y e f ∙ plays_back (int_lt x y) (x +ℤ pos 1) cells' b w

  pub next_on : (x y : ℤ) → seen cells n ≡ Some x → seen cells m ≡ Some y → int_lt x y ≡ false → plays (Loads n (λ x. Loads m (λ y. stepped pc st n (int_lt x y) (x +ℤ pos 1) to))) cells ≡ Onward (pc + 1) st cells
  next_on x y e f b = plays_two (λ x y. stepped pc st n (int_lt x y) (x +ℤ pos 1) to) x y e f ∙ plays_on (int_lt x y) (x +ℤ pos 1) b

  pub prior_back : (x y : ℤ) (cells' : List Cell) → seen cells n ≡ Some x → seen cells m ≡ Some y → int_lt y x ≡ true → written cells n (x -ℤ pos 1) ≡ Some cells' → plays (Loads n (λ x. Loads m (λ y. stepped pc st n (int_lt y x) (x -ℤ pos 1) to))) cells ≡ Onward to st cells'
  prior_back x y cells' e f b w = plays_two (λ x y. stepped pc st n (int_lt y x) (x -ℤ pos 1) to) x y e f ∙ plays_back (int_lt y x) (x -ℤ pos 1) cells' b w

  pub prior_on : (x y : ℤ) → seen cells n ≡ Some x → seen cells m ≡ Some y → int_lt y x ≡ false → plays (Loads n (λ x. Loads m (λ y. stepped pc st n (int_lt y x) (x -ℤ pos 1) to))) cells ≡ Onward (pc + 1) st cells
  prior_on x y e f b = plays_two (λ x y. stepped pc st n (int_lt y x) (x -ℤ pos 1) to) x y e f ∙ plays_on (int_lt y x) (x -ℤ pos 1) b
