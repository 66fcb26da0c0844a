-- Cells that are copied from the last one down, where the target begins no lower than the source.
use Rattle.std.proofs.Common.{◌≡◌, ℕ, zero, suc, ◌+◌, ◌≤◌, ◌+ℤ◌, ◌++◌, ℤ, pos, List, [], ◌∷◌, length, Option, Some, None, refl, sym, ap, ◌∙◌, inr, arith}
use Rattle.std.specs.Prelude.{IsSome, IsSomeAnd, slice_get, set}
use Rattle.ada_base.specs.Cells.{Cell, Gone, Seen, Mine, where_mine, seen, written}
use Rattle.stack_code.specs.Deeds.{Deed, Lacks, GoesOn, Loads, Stores, loads_all, stores_all}
use Rattle.ada_machine.specs.Played.{IsClear, Played, Neither, on_value, on_cells, plays}
use Rattle.ada_machine.proofs.Stretches.{other_cell, swap_plays, value_same}

-- ---- two cells that are written

set_apart : (cells : List Cell) (p q : ℕ) (x y : Cell) → (p ≡ q → ⊥) → set (set cells p x) q y ≡ set (set cells q y) p x
set_apart [] zero zero x y n = absurd (n refl)
set_apart [] zero (suc q) x y n = refl
set_apart [] (suc p) zero x y n = refl
set_apart [] (suc p) (suc q) x y n = refl
set_apart (c ∷ cells) zero zero x y n = absurd (n refl)
set_apart (c ∷ cells) zero (suc q) x y n = refl
set_apart (c ∷ cells) (suc p) zero x y n = refl
set_apart (c ∷ cells) (suc p) (suc q) x y n = ap (λ l. c ∷ l) (set_apart cells p q x y (λ e. n (ap (λ k. suc k) e)))

-- whether a cell may be written, with what then stands there and elsewhere
both : (o u : Option Cell) (w v both : List Cell) (k : List Cell → Played) → on_cells (where_mine o w) (λ x. on_cells (where_mine u both) k) ≡ on_cells (where_mine u v) (λ x. on_cells (where_mine o both) k)
both None None w v b k = refl
both None (Some Gone) w v b k = refl
both None (Some (Seen x)) w v b k = refl
both None (Some (Mine x)) w v b k = refl
both (Some Gone) None w v b k = refl
both (Some Gone) (Some Gone) w v b k = refl
both (Some Gone) (Some (Seen x)) w v b k = refl
both (Some Gone) (Some (Mine x)) w v b k = refl
both (Some (Seen y)) None w v b k = refl
both (Some (Seen y)) (Some Gone) w v b k = refl
both (Some (Seen y)) (Some (Seen x)) w v b k = refl
both (Some (Seen y)) (Some (Mine x)) w v b k = refl
both (Some (Mine y)) None w v b k = refl
both (Some (Mine y)) (Some Gone) w v b k = refl
both (Some (Mine y)) (Some (Seen x)) w v b k = refl
both (Some (Mine y)) (Some (Mine x)) w v b k = refl

cells_same : (o : Option (List Cell)) (f g : List Cell → Played) → ((w : List Cell) → f w ≡ g w) → on_cells o f ≡ on_cells o g
cells_same None f g h = refl
cells_same (Some w) f g h = h w

-- what follows a write at one address is another one at another
after : (cells : List Cell) (p q : ℕ) (v w : ℤ) (k : List Cell → Played) → (p ≡ q → ⊥) → (o : Option Cell) → on_cells (where_mine o (set cells p (Mine v))) (λ c. on_cells (written c (pos q) w) k)
    ≡ on_cells (where_mine o (set cells p (Mine v))) (λ c. on_cells (where_mine (slice_get cells q) (set (set cells p (Mine v)) q (Mine w))) k)
after cells p q v w k n None = refl
after cells p q v w k n (Some Gone) = refl
after cells p q v w k n (Some (Seen x)) = refl
after cells p q v w k n (Some (Mine x)) = ap (λ o. on_cells (where_mine o (set (set cells p (Mine v)) q (Mine w))) k) (other_cell cells p q (Mine v) (λ e. n (sym e)))

writes_apart : (cells : List Cell) (p q : ℕ) (v w : ℤ) (k : List Cell → Played) → (p ≡ q → ⊥) → on_cells (written cells (pos p) v) (λ c. on_cells (written c (pos q) w) k) ≡ on_cells (written cells (pos q) w) (λ c. on_cells (written c (pos p) v) k)
writes_apart cells p q v w k n =
    after cells p q v w k n (slice_get cells p)
    ∙ both (slice_get cells p) (slice_get cells q) (set cells p (Mine v)) (set cells q (Mine w)) (set (set cells p (Mine v)) q (Mine w)) k
    ∙ ap (λ z. on_cells (where_mine (slice_get cells q) (set cells q (Mine w))) (λ c. on_cells (where_mine (slice_get cells p) z) k)) (set_apart cells p q (Mine v) (Mine w) n)
    ∙ sym (after cells q p w v k (λ e. n (sym e)) (slice_get cells q))

-- ---- the last of a list that is written, or read

writes_last : (vs : List ℤ) (t : ℕ) (v : ℤ) (d : Deed) → stores_all (vs ++ v ∷ []) (pos t) d ≡ stores_all vs (pos t) (Stores (pos (t + length vs)) v d)
writes_last [] t v d = let z : t ≡ t + 0 = omega arith in ap (λ k. Stores (pos k) v d) z
writes_last (w ∷ vs) t v d =
    let z : t + 1 + length vs ≡ t + suc (length vs) = omega arith in
    ap (λ (x : Deed). Stores (pos t) w x) (writes_last vs (t + 1) v d ∙ ap (λ k. stores_all vs (pos (t + 1)) (Stores (pos k) v d)) z)

-- a write above a block comes first as well
writes_first : (cells : List Cell) (vs : List ℤ) (t a : ℕ) (v : ℤ) (d : Deed) → t + length vs ≤ a → plays (stores_all vs (pos t) (Stores (pos a) v d)) cells ≡ plays (Stores (pos a) v (stores_all vs (pos t) d)) cells
writes_first cells [] t a v d l = refl
writes_first cells (w ∷ vs) t a v d l =
    let n : t ≡ a → ⊥ = λ e. omega (arith, l, e) in
    cells_same (written cells (pos t) w) (λ c. plays (stores_all vs (pos (t + 1)) (Stores (pos a) v d)) c) (λ c. on_cells (written c (pos a) v) (λ c. plays (stores_all vs (pos (t + 1)) d) c)) (λ c. writes_first c vs (t + 1) a v d (omega (arith, l)))
    ∙ writes_apart cells t a w v (λ c. plays (stores_all vs (pos (t + 1)) d) c) n

reads_last : (cells : List Cell) (m s : ℕ) (F : List ℤ → Deed) → plays (loads_all (suc m) (pos s) F) cells ≡ plays (loads_all m (pos s) (λ vs. Loads (pos (s + m)) (λ v. F (vs ++ v ∷ [])))) cells
reads_last cells zero s F = let z : s ≡ s + 0 = omega arith in ap (λ k. on_value (seen cells (pos k)) (λ v. plays (F (v ∷ [])) cells)) z
reads_last cells (suc m) s F =
    let z : s + 1 + m ≡ s + suc m = omega arith in
    value_same (seen cells (pos s)) (λ w. plays (loads_all (suc m) (pos (s + 1)) (λ vs. F (w ∷ vs))) cells) (λ w. plays (loads_all m (pos (s + 1)) (λ vs. Loads (pos (s + suc m)) (λ v. F (w ∷ (vs ++ v ∷ []))))) cells)
    (λ w. reads_last cells m (s + 1) (λ vs. F (w ∷ vs)) ∙ ap (λ k. plays (loads_all m (pos (s + 1)) (λ vs. Loads (pos k) (λ v. F (w ∷ (vs ++ v ∷ []))))) cells) z)

-- what follows the reading of so many cells has so many values
reads_alike : (cells : List Cell) (m s : ℕ) (F G : List ℤ → Deed) → ((vs : List ℤ) → length vs ≡ m → plays (F vs) cells ≡ plays (G vs) cells) → plays (loads_all m (pos s) F) cells ≡ plays (loads_all m (pos s) G) cells
reads_alike cells zero s F G h = h [] refl
reads_alike cells (suc m) s F G h = value_same (seen cells (pos s)) (λ w. plays (loads_all m (pos (s + 1)) (λ vs. F (w ∷ vs))) cells) (λ w. plays (loads_all m (pos (s + 1)) (λ vs. G (w ∷ vs))) cells)
    (λ w. reads_alike cells m (s + 1) (λ vs. F (w ∷ vs)) (λ vs. G (w ∷ vs)) (λ vs e. h (w ∷ vs) (ap (λ k. suc k) e)))

reads_nothing : (cells : List Cell) (m s : ℕ) (F : List ℤ → Deed) → ((vs : List ℤ) → length vs ≡ m → plays (F vs) cells ≡ Neither) → plays (loads_all m (pos s) F) cells ≡ Neither
reads_nothing cells zero s F h = h [] refl
reads_nothing cells (suc m) s F h = nothing (seen cells (pos s)) (λ w. plays (loads_all m (pos (s + 1)) (λ vs. F (w ∷ vs))) cells) (λ w. reads_nothing cells m (s + 1) (λ vs. F (w ∷ vs)) (λ vs e. h (w ∷ vs) (ap (λ k. suc k) e)))
  where
    nothing : (o : Option ℤ) (k : ℤ → Played) → ((w : ℤ) → k w ≡ Neither) → on_value o k ≡ Neither
    nothing None k f = refl
    nothing (Some w) k f = f w

-- ---- what is clear comes to an end, and what does is clear

abbrev stop : Deed
stop = GoesOn 0 []

value_played : (o : Option ℤ) (P : ℤ → Type 0) (k : ℤ → Played) → IsSomeAnd o P → ((w : ℤ) → P w → k w ≡ Neither → ⊥) → on_value o k ≡ Neither → ⊥
value_played None P k h f e = h
value_played (Some w) P k h f e = f w h e

cells_played : (o : Option (List Cell)) (P : List Cell → Type 0) (k : List Cell → Played) → IsSomeAnd o P → ((w : List Cell) → P w → k w ≡ Neither → ⊥) → on_cells o k ≡ Neither → ⊥
cells_played None P k h f e = h
cells_played (Some w) P k h f e = f w h e

value_clear : (o : Option ℤ) (P : ℤ → Type 0) (k : ℤ → Played) → (on_value o k ≡ Neither → ⊥) → ((w : ℤ) → (k w ≡ Neither → ⊥) → P w) → IsSomeAnd o P
value_clear None P k n f = n refl
value_clear (Some w) P k n f = f w n

cells_clear : (o : Option (List Cell)) (P : List Cell → Type 0) (k : List Cell → Played) → (on_cells o k ≡ Neither → ⊥) → ((w : List Cell) → (k w ≡ Neither → ⊥) → P w) → IsSomeAnd o P
cells_clear None P k n f = n refl
cells_clear (Some w) P k n f = f w n

stores_played : (vs : List ℤ) (t : ℤ) (cells : List Cell) → IsClear (stores_all vs t Lacks) cells → plays (stores_all vs t stop) cells ≡ Neither → ⊥
stores_played [] t cells h e = cc
stores_played (v ∷ vs) t cells h e = cells_played (written cells t v) (λ c. IsClear (stores_all vs (t +ℤ pos 1) Lacks) c) (λ c. plays (stores_all vs (t +ℤ pos 1) stop) c) h (λ c k. stores_played vs (t +ℤ pos 1) c k) e

loads_played : (n : ℕ) (s : ℤ) (F G : List ℤ → Deed) (cells : List Cell) → ((vs : List ℤ) → IsClear (F vs) cells → plays (G vs) cells ≡ Neither → ⊥) → IsClear (loads_all n s F) cells → plays (loads_all n s G) cells ≡ Neither → ⊥
loads_played zero s F G cells f h e = f [] h e
loads_played (suc n) s F G cells f h e = value_played (seen cells s) (λ w. IsClear (loads_all n (s +ℤ pos 1) (λ vs. F (w ∷ vs))) cells) (λ w. plays (loads_all n (s +ℤ pos 1) (λ vs. G (w ∷ vs))) cells) h
    (λ w k. loads_played n (s +ℤ pos 1) (λ vs. F (w ∷ vs)) (λ vs. G (w ∷ vs)) cells (λ vs. f (w ∷ vs)) k) e

stores_clear : (vs : List ℤ) (t : ℤ) (cells : List Cell) → (plays (stores_all vs t stop) cells ≡ Neither → ⊥) → IsClear (stores_all vs t Lacks) cells
stores_clear [] t cells n = tt
stores_clear (v ∷ vs) t cells n = cells_clear (written cells t v) (λ c. IsClear (stores_all vs (t +ℤ pos 1) Lacks) c) (λ c. plays (stores_all vs (t +ℤ pos 1) stop) c) n (λ c m. stores_clear vs (t +ℤ pos 1) c m)

loads_clear : (n : ℕ) (s : ℤ) (F G : List ℤ → Deed) (cells : List Cell) → ((vs : List ℤ) → (plays (G vs) cells ≡ Neither → ⊥) → IsClear (F vs) cells) → (plays (loads_all n s G) cells ≡ Neither → ⊥) → IsClear (loads_all n s F) cells
loads_clear zero s F G cells f n = f [] n
loads_clear (suc k) s F G cells f n = value_clear (seen cells s) (λ w. IsClear (loads_all k (s +ℤ pos 1) (λ vs. F (w ∷ vs))) cells) (λ w. plays (loads_all k (s +ℤ pos 1) (λ vs. G (w ∷ vs))) cells) n
    (λ w m. loads_clear k (s +ℤ pos 1) (λ vs. F (w ∷ vs)) (λ vs. G (w ∷ vs)) cells (λ vs. f (w ∷ vs)) m)

abbrev copying : (n s t : ℕ) → Deed → Deed
copying n s t d = loads_all n (pos s) (λ vs. stores_all vs (pos t) d)

ends : (n s t : ℕ) (cells : List Cell) → IsClear (copying n s t Lacks) cells → plays (copying n s t stop) cells ≡ Neither → ⊥
ends n s t cells h = loads_played n (pos s) (λ vs. stores_all vs (pos t) Lacks) (λ vs. stores_all vs (pos t) stop) cells (λ vs. stores_played vs (pos t) cells) h

clear : (n s t : ℕ) (cells : List Cell) → (plays (copying n s t stop) cells ≡ Neither → ⊥) → IsClear (copying n s t Lacks) cells
clear n s t cells h = loads_clear n (pos s) (λ vs. stores_all vs (pos t) Lacks) (λ vs. stores_all vs (pos t) stop) cells (λ vs. stores_clear vs (pos t) cells) h

-- ---- the last cell is copied

module _ (cells : List Cell) (m s t : ℕ) where
  -- with its value
  abbrev rest_of : ℤ → Deed → List ℤ → Deed
  rest_of v d vs = stores_all (vs ++ v ∷ []) (pos t) d

  -- the last one is read after the others, and it is written after them or before
  last_written : (v : ℤ) (d : Deed) (vs : List ℤ) → length vs ≡ m → plays (rest_of v d vs) cells ≡ plays (Stores (pos (t + m)) v (stores_all vs (pos t) d)) cells
  last_written v d vs e =
      ap (λ (x : Deed). plays x cells) (writes_last vs t v d ∙ ap (λ k. stores_all vs (pos t) (Stores (pos (t + k)) v d)) e)
      ∙ writes_first cells vs t (t + m) v d (omega (arith, e))

  read_last : (d : Deed) (v : ℤ) → seen cells (pos (s + m)) ≡ Some v → plays (copying (suc m) s t d) cells ≡ plays (loads_all m (pos s) (λ vs. Stores (pos (t + m)) v (stores_all vs (pos t) d))) cells
  read_last d v e = reads_last cells m s (λ vs. stores_all vs (pos t) d)
      ∙ reads_alike cells m s (λ vs. Loads (pos (s + m)) (λ v. rest_of v d vs)) (λ vs. Stores (pos (t + m)) v (stores_all vs (pos t) d))
      (λ vs l. ap (λ o. on_value o (λ v. plays (rest_of v d vs) cells)) e ∙ last_written v d vs l)

  module _ (h : IsClear (loads_all (suc m) (pos s) (λ vs. stores_all vs (pos t) Lacks)) cells) where
    pub down_reads : IsSome (seen cells (pos (s + m)))
    down_reads = found (seen cells (pos (s + m))) refl
      where
        found : (o : Option ℤ) → seen cells (pos (s + m)) ≡ o → IsSome o
        found (Some v) e = refl
        found None e = absurd (ends (suc m) s t cells h (reads_last cells m s (λ vs. stores_all vs (pos t) stop)
            ∙ reads_nothing cells m s (λ vs. Loads (pos (s + m)) (λ v. rest_of v stop vs)) (λ vs l. ap (λ o. on_value o (λ v. plays (rest_of v stop vs) cells)) e)))

    pub down_writes : (v : ℤ) → seen cells (pos (s + m)) ≡ Some v → IsSome (written cells (pos (t + m)) v)
    down_writes v e = found (written cells (pos (t + m)) v) refl
      where
        found : (o : Option (List Cell)) → written cells (pos (t + m)) v ≡ o → IsSome o
        found (Some w) f = refl
        found None f = absurd (ends (suc m) s t cells h (read_last stop v e
            ∙ reads_nothing cells m s (λ vs. Stores (pos (t + m)) v (stores_all vs (pos t) stop)) (λ vs l. ap (λ o. on_cells o (λ c. plays (stores_all vs (pos t) stop) c)) f)))

  module _ (cells' : List Cell) (v : ℤ) (e : seen cells (pos (s + m)) ≡ Some v) (w : written cells (pos (t + m)) v ≡ Some cells') (l : s ≤ t) where
    pub down_plays : (d : Deed) → plays (loads_all (suc m) (pos s) (λ vs. stores_all vs (pos t) d)) cells ≡ plays (loads_all m (pos s) (λ vs. stores_all vs (pos t) d)) cells'
    down_plays d = read_last d v e ∙ swap_plays cells cells' (t + m) v w m s (λ vs. stores_all vs (pos t) d) (inr (omega (arith, l)))

    pub down_on : IsClear (loads_all (suc m) (pos s) (λ vs. stores_all vs (pos t) Lacks)) cells → IsClear (loads_all m (pos s) (λ vs. stores_all vs (pos t) Lacks)) cells'
    down_on h = clear m s t cells' (λ f. ends (suc m) s t cells h (down_plays stop ∙ f))
