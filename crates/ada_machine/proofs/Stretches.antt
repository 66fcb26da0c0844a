-- Blocks of cells.
use Rattle.std.proofs.Common.{◌≡◌, ℕ, zero, suc, ◌+◌, ◌<◌, ◌≤◌, ◌+ℤ◌, ℤ, pos, negsuc, List, [], ◌∷◌, reverse, replicate, Option, Some, None, refl, sym, ap, ◌∙◌, subst, inl, inr, arith, w64}
use Rattle.std.specs.Prelude.{◌⊎◌, ◌^◌, FitsSigned, IsSome, IsSomeAnd, slice_get, set}
use Rattle.std.proofs.lemmas.Bool.{false≢true}
use Rattle.ada_base.specs.Cells.{Cell, Gone, Seen, Mine, value_in, where_mine, seen, written}
use Rattle.stack_code.specs.Deeds.{Deed, Lacks, GoesOn, Stores, on_one, on_two, loads_all, stores_all}
use Rattle.ada_machine.specs.Played.{cell_of, IsClear, Played, Onward, on_value, on_cells, plays}

some_of : {A : Type 0} (o : Option A) (P : A → Type 0) → IsSomeAnd o P → IsSome o
some_of None P h = absurd h
some_of (Some x) P h = refl

-- ---- filling

-- what is left to fill, from there on
pub fill_clear : (cells : List Cell) (n : ℕ) (a v : ℤ) → 0 < n → IsClear (stores_all (replicate n v) a Lacks) cells → IsSome (written cells a v)
fill_clear cells zero a v l h = absurd (omega (arith, l))
fill_clear cells (suc n) a v l h = some_of (written cells a v) _ h

pub fill_on : (cells cells' : List Cell) (n k : ℕ) (a v : ℤ) → n ≡ suc k → IsClear (stores_all (replicate n v) a Lacks) cells → written cells a v ≡ Some cells' → IsClear (stores_all (replicate k v) (a +ℤ pos 1) Lacks) cells'
fill_on cells cells' n k a v e h w = subst (λ o. IsSomeAnd o (λ c. IsClear (stores_all (replicate k v) (a +ℤ pos 1) Lacks) c)) w (subst (λ i. IsClear (stores_all (replicate i v) a Lacks) cells) e h)

pub fill_plays : (cells cells' : List Cell) (n k : ℕ) (a v : ℤ) (d : Deed) → n ≡ suc k → written cells a v ≡ Some cells' → plays (stores_all (replicate n v) a d) cells ≡ plays (stores_all (replicate k v) (a +ℤ pos 1) d) cells'
fill_plays cells cells' n k a v d e w = ap (λ i. plays (stores_all (replicate i v) a d) cells) e ∙ ap (λ o. on_cells o (λ c. plays (stores_all (replicate k v) (a +ℤ pos 1) d) c)) w

pub next_cell : (a b : ℕ) → b ≡ a + 1 → pos a +ℤ pos 1 ≡ pos b
next_cell a b e = ap pos (sym e)

-- whatever follows
pub clear_end : (vs : List ℤ) (a : ℤ) (d : Deed) (cells : List Cell) → IsClear (stores_all vs a d) cells → IsClear (stores_all vs a Lacks) cells
clear_end [] a d cells h = tt
clear_end (v ∷ vs) a d cells h = onward (written cells a v) (λ w. IsClear (stores_all vs (a +ℤ pos 1) d) w) (λ w. IsClear (stores_all vs (a +ℤ pos 1) Lacks) w) (λ w. clear_end vs (a +ℤ pos 1) d w) h
  where
    onward : {A : Type 0} (o : Option A) (P Q : A → Type 0) → ((x : A) → P x → Q x) → IsSomeAnd o P → IsSomeAnd o Q
    onward None P Q f h = h
    onward (Some x) P Q f h = f x h

-- an address of a cell that is there
pub fill_there : (cells : List Cell) (n : ℕ) (a v : ℤ) → 0 < n → IsClear (stores_all (replicate n v) a Lacks) cells → a ≡ pos (cell_of a)
fill_there cells n (pos k) v l h = refl
fill_there cells zero (negsuc k) v l h = absurd (omega (arith, l))
fill_there cells (suc n) (negsuc k) v l h = absurd h

module _ (cells : List Cell) (n from : ℕ) (a v : ℤ) (l : 0 < n) (e : from ≡ cell_of a) (h : IsClear (stores_all (replicate n v) a Lacks) cells) where
  fills_from : a ≡ pos from
  fills_from = fill_there cells n a v l h ∙ ap pos (sym e)

  -- the end of the block in 64 bits
  pub fill_near : FitsSigned w64 a → n < 2 ^ 32 → from + n < 2 ^ 64
  fill_near p r = let g : FitsSigned w64 (pos from) = subst (FitsSigned w64) fills_from p in omega (arith, g, r)

  pub fill_moved : IsClear (stores_all (replicate n v) (pos from) Lacks) cells
  fill_moved = subst (λ z. IsClear (stores_all (replicate n v) z Lacks) cells) fills_from h

  pub filled_moved : (cells' : List Cell) → ((d : Deed) → plays (stores_all (replicate n v) (pos from) d) cells ≡ plays d cells') → (d : Deed) → plays (stores_all (replicate n v) a d) cells ≡ plays d cells'
  filled_moved cells' g d = ap (λ z. plays (stores_all (replicate n v) z d) cells) fills_from ∙ g d

-- ---- copying

pub other_cell : (cells : List Cell) (t a : ℕ) (c : Cell) → (a ≡ t → ⊥) → slice_get (set cells t c) a ≡ slice_get cells a
other_cell [] zero a c n = refl
other_cell [] (suc t) a c n = refl
other_cell (x ∷ xs) zero zero c n = absurd (n refl)
other_cell (x ∷ xs) zero (suc a) c n = refl
other_cell (x ∷ xs) (suc t) zero c n = refl
other_cell (x ∷ xs) (suc t) (suc a) c n = other_cell xs t a c (λ e. n (ap (λ k. suc k) e))

set_of : (o : Option Cell) (w w' : List Cell) → where_mine o w ≡ Some w' → w ≡ w'
set_of None w w' e = cc
set_of (Some Gone) w w' e = cc
set_of (Some (Seen v)) w w' e = cc
set_of (Some (Mine v)) w w' e = let s : w ≡ w' = cc in s

seen_other : (cells cells' : List Cell) (t a : ℕ) (v : ℤ) → written cells (pos t) v ≡ Some cells' → (a ≡ t → ⊥) → seen cells (pos a) ≡ seen cells' (pos a)
seen_other cells cells' t a v e n = ap value_in (sym (other_cell cells t a (Mine v) n) ∙ ap (λ l. slice_get l a) (set_of (slice_get cells t) (set cells t (Mine v)) cells' e))

pub value_same : (o : Option ℤ) (f g : ℤ → Played) → ((w : ℤ) → f w ≡ g w) → on_value o f ≡ on_value o g
value_same None f g h = refl
value_same (Some w) f g h = h w

module _ (cells cells' : List Cell) (t : ℕ) (v : ℤ) (e : written cells (pos t) v ≡ Some cells') where
  apart : (k a : ℕ) → (t < a) ⊎ (a + suc k ≤ t) → ((a ≡ t → ⊥) × ((t < a + 1) ⊎ (a + 1 + k ≤ t)))
  apart k a (inl l) = (λ q. omega (arith, l, q), inl (omega (arith, l)))
  apart k a (inr l) = (λ q. omega (arith, l, q), inr (omega (arith, l)))

  pub swap_plays : (k a : ℕ) (F : List ℤ → Deed) → (t < a) ⊎ (a + k ≤ t) → plays (loads_all k (pos a) (λ vs. Stores (pos t) v (F vs))) cells ≡ plays (loads_all k (pos a) F) cells'
  swap_plays zero a F l = ap (λ o. on_cells o (λ c. plays (F []) c)) e
  swap_plays (suc k) a F l =
      let p = apart k a l in
      value_same (seen cells (pos a)) (λ w. plays (loads_all k (pos a +ℤ pos 1) (λ vs. Stores (pos t) v (F (w ∷ vs)))) cells) (λ w. plays (loads_all k (pos a +ℤ pos 1) (λ vs. F (w ∷ vs))) cells') (λ w. swap_plays k (a + 1) (λ vs. F (w ∷ vs)) p.1)
      ∙ ap (λ o. on_value o (λ w. plays (loads_all k (pos a +ℤ pos 1) (λ vs. F (w ∷ vs))) cells')) (seen_other cells cells' t a v e p.0)

  all_same : (o : Option ℤ) (P Q : ℤ → Type 0) → ((w : ℤ) → P w → Q w) → IsSomeAnd o P → IsSomeAnd o Q
  all_same None P Q f h = h
  all_same (Some w) P Q f h = f w h

  swap_clear : (k a : ℕ) (F : List ℤ → Deed) → (t < a) ⊎ (a + k ≤ t) → IsClear (loads_all k (pos a) (λ vs. Stores (pos t) v (F vs))) cells → IsClear (loads_all k (pos a) F) cells'
  swap_clear zero a F l h = subst (λ o. IsSomeAnd o (λ c. IsClear (F []) c)) e h
  swap_clear (suc k) a F l h =
      let p = apart k a l in
      subst (λ o. IsSomeAnd o (λ w. IsClear (loads_all k (pos a +ℤ pos 1) (λ vs. F (w ∷ vs))) cells')) (seen_other cells cells' t a v e p.0)
      (all_same (seen cells (pos a)) (λ w. IsClear (loads_all k (pos a +ℤ pos 1) (λ vs. Stores (pos t) v (F (w ∷ vs)))) cells) (λ w. IsClear (loads_all k (pos a +ℤ pos 1) (λ vs. F (w ∷ vs))) cells') (λ w. swap_clear k (a + 1) (λ vs. F (w ∷ vs)) p.1) h)

write_there : (cells : List Cell) (k a t : ℕ) (v : ℤ) (F : List ℤ → Deed) → IsClear (loads_all k (pos a) (λ vs. Stores (pos t) v (F vs))) cells → IsSome (written cells (pos t) v)
write_there cells zero a t v F h = some_of (written cells (pos t) v) _ h
write_there cells (suc k) a t v F h = first (seen cells (pos a)) (λ w. IsClear (loads_all k (pos a +ℤ pos 1) (λ vs. Stores (pos t) v (F (w ∷ vs)))) cells) (λ w. write_there cells k (a + 1) t v (λ vs. F (w ∷ vs))) h
  where
    first : {A : Type 0} (o : Option ℤ) (P : ℤ → Type 0) → ((w : ℤ) → P w → A) → IsSomeAnd o P → A
    first None P f h = absurd h
    first (Some w) P f h = f w h

module _ (cells : List Cell) (n k s t : ℕ) (e : n ≡ suc k) where
  pub copy_reads : IsClear (loads_all n (pos s) (λ vs. stores_all vs (pos t) Lacks)) cells → IsSome (seen cells (pos s))
  copy_reads h = some_of (seen cells (pos s)) _ (subst (λ i. IsClear (loads_all i (pos s) (λ vs. stores_all vs (pos t) Lacks)) cells) e h)

  copy_first : (v : ℤ) → IsClear (loads_all n (pos s) (λ vs. stores_all vs (pos t) Lacks)) cells → seen cells (pos s) ≡ Some v → IsClear (loads_all k (pos (s + 1)) (λ vs. Stores (pos t) v (stores_all vs (pos (t + 1)) Lacks))) cells
  copy_first v h f = subst (λ o. IsSomeAnd o (λ v. IsClear (loads_all k (pos (s + 1)) (λ vs. Stores (pos t) v (stores_all vs (pos (t + 1)) Lacks))) cells)) f (subst (λ i. IsClear (loads_all i (pos s) (λ vs. stores_all vs (pos t) Lacks)) cells) e h)

  pub copy_writes : (v : ℤ) → IsClear (loads_all n (pos s) (λ vs. stores_all vs (pos t) Lacks)) cells → seen cells (pos s) ≡ Some v → IsSome (written cells (pos t) v)
  copy_writes v h f = write_there cells k (s + 1) t v (λ vs. stores_all vs (pos (t + 1)) Lacks) (copy_first v h f)

  pub copy_on : (cells' : List Cell) (v : ℤ) → IsClear (loads_all n (pos s) (λ vs. stores_all vs (pos t) Lacks)) cells → seen cells (pos s) ≡ Some v → written cells (pos t) v ≡ Some cells' → (t < s + 1) ⊎ (s + 1 + k ≤ t) → IsClear (loads_all k (pos (s + 1)) (λ vs. stores_all vs (pos (t + 1)) Lacks)) cells'
  copy_on cells' v h f w l = swap_clear cells cells' t v w k (s + 1) (λ vs. stores_all vs (pos (t + 1)) Lacks) l (copy_first v h f)

  pub copy_plays : (cells' : List Cell) (v : ℤ) (d : Deed) → seen cells (pos s) ≡ Some v → written cells (pos t) v ≡ Some cells' → (t < s + 1) ⊎ (s + 1 + k ≤ t) → plays (loads_all n (pos s) (λ vs. stores_all vs (pos t) d)) cells ≡ plays (loads_all k (pos (s + 1)) (λ vs. stores_all vs (pos (t + 1)) d)) cells'
  copy_plays cells' v d f w l = ap (λ i. plays (loads_all i (pos s) (λ vs. stores_all vs (pos t) d)) cells) e
      ∙ ap (λ o. on_value o (λ v. plays (loads_all k (pos (s + 1)) (λ vs. Stores (pos t) v (stores_all vs (pos (t + 1)) d))) cells)) f
      ∙ swap_plays cells cells' t v w k (s + 1) (λ vs. stores_all vs (pos (t + 1)) d) l

-- addresses of cells that are there
at_cell : (cells : List Cell) (a : ℤ) → IsSome (seen cells a) → a ≡ pos (cell_of a)
at_cell cells (pos n) h = refl
at_cell cells (negsuc n) h = absurd (false≢true h)

to_cell : (cells : List Cell) (a v : ℤ) → IsSome (written cells a v) → a ≡ pos (cell_of a)
to_cell cells (pos n) v h = refl
to_cell cells (negsuc n) v h = absurd (false≢true h)

target_there : (cells : List Cell) (k : ℕ) (a t v : ℤ) (F : List ℤ → Deed) → IsClear (loads_all k a (λ vs. Stores t v (F vs))) cells → t ≡ pos (cell_of t)
target_there cells zero a t v F h = to_cell cells t v (some_of (written cells t v) _ h)
target_there cells (suc k) a t v F h = first (seen cells a) (λ w. IsClear (loads_all k (a +ℤ pos 1) (λ vs. Stores t v (F (w ∷ vs)))) cells) (λ w. target_there cells k (a +ℤ pos 1) t v (λ vs. F (w ∷ vs))) h
  where
    first : {A : Type 0} (o : Option ℤ) (P : ℤ → Type 0) → ((w : ℤ) → P w → A) → IsSomeAnd o P → A
    first None P f h = absurd h
    first (Some w) P f h = f w h

pub copy_there : (cells : List Cell) (n : ℕ) (s t : ℤ) → 0 < n → IsClear (loads_all n s (λ vs. stores_all vs t Lacks)) cells → (s ≡ pos (cell_of s)) × (t ≡ pos (cell_of t))
copy_there cells zero s t l h = absurd (omega (arith, l))
copy_there cells (suc k) s t l h = (at_cell cells s (some_of (seen cells s) _ h), first (seen cells s) (λ w. IsClear (loads_all k (s +ℤ pos 1) (λ vs. Stores t w (stores_all vs (t +ℤ pos 1) Lacks))) cells) (λ w. target_there cells k (s +ℤ pos 1) t w (λ vs. stores_all vs (t +ℤ pos 1) Lacks)) h)
  where
    first : {A : Type 0} (o : Option ℤ) (P : ℤ → Type 0) → ((w : ℤ) → P w → A) → IsSomeAnd o P → A
    first None P f h = absurd h
    first (Some w) P f h = f w h

-- whatever follows
pub copy_end : (n : ℕ) (s t : ℤ) (d : Deed) (cells : List Cell) → IsClear (loads_all n s (λ vs. stores_all vs t d)) cells → IsClear (loads_all n s (λ vs. stores_all vs t Lacks)) cells
copy_end n s t d cells h = loads_end n s (λ vs. stores_all vs t d) (λ vs. stores_all vs t Lacks) cells (λ vs. clear_end vs t d cells) h
  where
    onward : (o : Option ℤ) (P Q : ℤ → Type 0) → ((x : ℤ) → P x → Q x) → IsSomeAnd o P → IsSomeAnd o Q
    onward None P Q f h = h
    onward (Some x) P Q f h = f x h

    loads_end : (n : ℕ) (s : ℤ) (F G : List ℤ → Deed) (cells : List Cell) → ((vs : List ℤ) → IsClear (F vs) cells → IsClear (G vs) cells) → IsClear (loads_all n s F) cells → IsClear (loads_all n s G) cells
    loads_end zero s F G cells f h = f [] h
    loads_end (suc k) s F G cells f h = onward (seen cells s) (λ w. IsClear (loads_all k (s +ℤ pos 1) (λ vs. F (w ∷ vs))) cells) (λ w. IsClear (loads_all k (s +ℤ pos 1) (λ vs. G (w ∷ vs))) cells) (λ w. loads_end k (s +ℤ pos 1) (λ vs. F (w ∷ vs)) (λ vs. G (w ∷ vs)) cells (λ vs. f (w ∷ vs))) h

module _ (pc : ℕ) (cells cells' : List Cell) (n : ℕ) where
  pub filled : (v : ℤ) (old new : List ℤ) (a : ℤ) → reverse old ≡ a ∷ reverse new → ((d : Deed) → plays (stores_all (replicate n v) a d) cells ≡ plays d cells') → plays (on_one (reverse old) (λ a st. stores_all (replicate n v) a (GoesOn (pc + 1) st))) cells ≡ Onward (pc + 1) (reverse new) cells'
  filled v old new a e h = ap (λ st. plays (on_one st (λ a st. stores_all (replicate n v) a (GoesOn (pc + 1) st))) cells) e ∙ h (GoesOn (pc + 1) (reverse new))

  pub filled_clear : (v : ℤ) (old rest : List ℤ) (a : ℤ) → reverse old ≡ a ∷ rest → IsClear (on_one (reverse old) (λ a st. stores_all (replicate n v) a (GoesOn (pc + 1) st))) cells → IsClear (stores_all (replicate n v) a Lacks) cells
  filled_clear v old rest a e h = clear_end (replicate n v) a (GoesOn (pc + 1) rest) cells (subst (λ st. IsClear (on_one st (λ a st. stores_all (replicate n v) a (GoesOn (pc + 1) st))) cells) e h)

  pub copied : (old mid new : List ℤ) (s t : ℤ) → reverse old ≡ s ∷ reverse mid → reverse mid ≡ t ∷ reverse new → ((d : Deed) → plays (loads_all n s (λ vs. stores_all vs t d)) cells ≡ plays d cells')
      → plays (on_two (reverse old) (λ t s st. loads_all n s (λ vs. stores_all vs t (GoesOn (pc + 1) st)))) cells ≡ Onward (pc + 1) (reverse new) cells'
  copied old mid new s t e f h = ap (λ st. plays (on_two st (λ t s st. loads_all n s (λ vs. stores_all vs t (GoesOn (pc + 1) st)))) cells) (e ∙ ap (λ st. s ∷ st) f) ∙ h (GoesOn (pc + 1) (reverse new))

  pub copied_clear : (old mid rest : List ℤ) (s t : ℤ) → reverse old ≡ s ∷ reverse mid → reverse mid ≡ t ∷ rest → IsClear (on_two (reverse old) (λ t s st. loads_all n s (λ vs. stores_all vs t (GoesOn (pc + 1) st)))) cells → IsClear (loads_all n s (λ vs. stores_all vs t Lacks)) cells
  copied_clear old mid rest s t e f h = copy_end n s t (GoesOn (pc + 1) rest) cells (subst (λ st. IsClear (on_two st (λ t s st. loads_all n s (λ vs. stores_all vs t (GoesOn (pc + 1) st)))) cells) (e ∙ ap (λ st. s ∷ st) f) h)

module _ (cells : List Cell) (n from to : ℕ) (s t : ℤ) (l : 0 < n) (e : from ≡ cell_of s) (f : to ≡ cell_of t) (h : IsClear (loads_all n s (λ vs. stores_all vs t Lacks)) cells) where
  from_is : s ≡ pos from
  from_is = (copy_there cells n s t l h).0 ∙ ap pos (sym e)

  to_is : t ≡ pos to
  to_is = (copy_there cells n s t l h).1 ∙ ap pos (sym f)

  -- ends of blocks in 64 bits
  pub copy_near : FitsSigned w64 s → FitsSigned w64 t → n < 2 ^ 32 → (from + n < 2 ^ 64) × (to + n < 2 ^ 64)
  copy_near p q r = (near from s from_is p, near to t to_is q)
    where
      near : (k : ℕ) (z : ℤ) → z ≡ pos k → FitsSigned w64 z → k + n < 2 ^ 64
      near k z e f = let g : FitsSigned w64 (pos k) = subst (FitsSigned w64) e f in omega (arith, g, r)

  pub copy_moved : IsClear (loads_all n (pos from) (λ vs. stores_all vs (pos to) Lacks)) cells
  copy_moved = subst (λ z. IsClear (loads_all n z (λ vs. stores_all vs (pos to) Lacks)) cells) from_is (subst (λ z. IsClear (loads_all n s (λ vs. stores_all vs z Lacks)) cells) to_is h)

  pub plays_moved : (cells' : List Cell) → ((d : Deed) → plays (loads_all n (pos from) (λ vs. stores_all vs (pos to) d)) cells ≡ plays d cells') → (d : Deed) → plays (loads_all n s (λ vs. stores_all vs t d)) cells ≡ plays d cells'
  plays_moved cells' g d = ap (λ z. plays (loads_all n s (λ vs. stores_all vs z d)) cells) to_is ∙ ap (λ z. plays (loads_all n z (λ vs. stores_all vs (pos to) d)) cells) from_is ∙ g d
