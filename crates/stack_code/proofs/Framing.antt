-- A path on cells some of which are gone does the same on a memory that has them.
use Rattle.std.proofs.Common.{◌≡◌, ℕ, zero, suc, ◌+◌, ◌-◌, ◌≤◌, ℤ, pos, negsuc, List, [], ◌∷◌, ◌++◌, length, take, Option, Some, None, Bool, true, false, cond, refl, sym, ap, ◌∙◌, subst, arith}
use Rattle.std.specs.Prelude.{slice_get, set, nat_eq, nat_lt, nat_le}
use Rattle.std.proofs.lemmas.List.{length-append, length-take}
use Rattle.ada_base.specs.declared.reason.Reason.{Reason}
use Rattle.ada_base.specs.declared.reason.Reason.TheVariants.{ConstraintError, StorageError}
use Rattle.stack_code.specs.declared.code.Code.{Code}
use Rattle.stack_code.specs.declared.code.CodeSub.{CodeSub}
use Rattle.stack_code.specs.declared.code.Unwind.{Unwind}
use Rattle.stack_code.specs.declared.instr.Instr.{Instr}
use Rattle.stack_code.specs.declared.path.Round.{Round}
use Rattle.ada_base.specs.Cells.{Cell, Gone, Seen, Mine, value_in, where_mine, seen, written, zeros}
use Rattle.stack_code.specs.Deeds.{Deed, Lacks, GoesOn, Fails, Loads, Stores, Points, Turns, Calls, CallsAt, Combines, Draws, Repeats, Rounds, Ends, Leaves, Forks, Nests, Unnests, Writes, Sends, Gets, Gives, deed_of}
use Rattle.stack_code.specs.Machine.{Frame, State, Went, Goes, Stops, Stop, Done, Left, Asks, Constructs, Spent, Cut, Stuck, Astray, points, if_pointing, look_by, with_value, with_cells, cut, on, moved_to, failed, entered, entered_at, ended, pushed_for, entry_of, handled, unwound, raised, turned, entering, entering_at, combining, drawing, another, rounding, ending, nesting, done, acted, stepped, step, going, run}
use Rattle.stack_code.specs.Framed.{fill, Shown, Above, Framed, filled, Same}

-- ---- cells

fill_length : (xs ys : List Cell) → length (fill xs ys) ≡ length xs
fill_length [] ys = refl
fill_length (x ∷ xs) [] = refl
fill_length (Gone ∷ xs) (y ∷ ys) = ap (λ n. suc n) (fill_length xs ys)
fill_length (Seen v ∷ xs) (y ∷ ys) = ap (λ n. suc n) (fill_length xs ys)
fill_length (Mine v ∷ xs) (y ∷ ys) = ap (λ n. suc n) (fill_length xs ys)

seen_at : (xs ys : List Cell) (n : ℕ) (v : ℤ) → Shown xs ys → value_in (slice_get xs n) ≡ Some v → value_in (slice_get (fill xs ys) n) ≡ Some v
seen_at [] ys n v h e = cc
seen_at (x ∷ xs) [] n v h e = e
seen_at (Gone ∷ xs) (y ∷ ys) zero v h e = cc
seen_at (Gone ∷ xs) (y ∷ ys) (suc n) v h e = seen_at xs ys n v h e
seen_at (Seen u ∷ xs) (y ∷ ys) zero v h e = h.0 ∙ e
seen_at (Seen u ∷ xs) (y ∷ ys) (suc n) v h e = seen_at xs ys n v h.1 e
seen_at (Mine u ∷ xs) (y ∷ ys) zero v h e = e
seen_at (Mine u ∷ xs) (y ∷ ys) (suc n) v h e = seen_at xs ys n v h e

seen_fill : (xs ys : List Cell) (a v : ℤ) → Shown xs ys → seen xs a ≡ Some v → seen (fill xs ys) a ≡ Some v
seen_fill xs ys (pos n) v h e = seen_at xs ys n v h e
seen_fill xs ys (negsuc n) v h e = cc

pub mine_of : (o : Option Cell) (w w' : List Cell) → where_mine o w ≡ Some w' → (u : ℤ) × (o ≡ Some (Mine u)) × (w ≡ w')
mine_of None w w' e = cc
mine_of (Some Gone) w w' e = cc
mine_of (Some (Seen v)) w w' e = cc
mine_of (Some (Mine v)) w w' e = (v, refl, (let s : w ≡ w' = cc in s))

mine_at : (xs ys : List Cell) (n : ℕ) (u : ℤ) → slice_get xs n ≡ Some (Mine u) → slice_get (fill xs ys) n ≡ Some (Mine u)
mine_at [] ys n u e = cc
mine_at (x ∷ xs) [] n u e = e
mine_at (Gone ∷ xs) (y ∷ ys) zero u e = cc
mine_at (Gone ∷ xs) (y ∷ ys) (suc n) u e = mine_at xs ys n u e
mine_at (Seen w ∷ xs) (y ∷ ys) zero u e = cc
mine_at (Seen w ∷ xs) (y ∷ ys) (suc n) u e = mine_at xs ys n u e
mine_at (Mine w ∷ xs) (y ∷ ys) zero u e = e
mine_at (Mine w ∷ xs) (y ∷ ys) (suc n) u e = mine_at xs ys n u e

set_fill : (xs ys : List Cell) (n : ℕ) (u v : ℤ) → slice_get xs n ≡ Some (Mine u) → set (fill xs ys) n (Mine v) ≡ fill (set xs n (Mine v)) ys
set_fill [] ys n u v e = cc
set_fill (x ∷ xs) [] zero u v e = refl
set_fill (x ∷ xs) [] (suc n) u v e = refl
set_fill (Gone ∷ xs) (y ∷ ys) zero u v e = cc
set_fill (Gone ∷ xs) (y ∷ ys) (suc n) u v e = ap (λ l. y ∷ l) (set_fill xs ys n u v e)
set_fill (Seen w ∷ xs) (y ∷ ys) zero u v e = cc
set_fill (Seen w ∷ xs) (y ∷ ys) (suc n) u v e = ap (λ l. y ∷ l) (set_fill xs ys n u v e)
set_fill (Mine w ∷ xs) (y ∷ ys) zero u v e = refl
set_fill (Mine w ∷ xs) (y ∷ ys) (suc n) u v e = ap (λ l. Mine w ∷ l) (set_fill xs ys n u v e)

set_shown : (xs ys : List Cell) (n : ℕ) (u v : ℤ) → slice_get xs n ≡ Some (Mine u) → Shown xs ys → Shown (set xs n (Mine v)) ys
set_shown [] ys n u v e h = cc
set_shown (x ∷ xs) [] zero u v e h = tt
set_shown (x ∷ xs) [] (suc n) u v e h = tt
set_shown (Gone ∷ xs) (y ∷ ys) zero u v e h = cc
set_shown (Gone ∷ xs) (y ∷ ys) (suc n) u v e h = set_shown xs ys n u v e h
set_shown (Seen w ∷ xs) (y ∷ ys) zero u v e h = cc
set_shown (Seen w ∷ xs) (y ∷ ys) (suc n) u v e h = (h.0, set_shown xs ys n u v e h.1)
set_shown (Mine w ∷ xs) (y ∷ ys) zero u v e h = h
set_shown (Mine w ∷ xs) (y ∷ ys) (suc n) u v e h = set_shown xs ys n u v e h

pub set_length : (xs : List Cell) (n : ℕ) (c : Cell) → length (set xs n c) ≡ length xs
set_length [] zero c = refl
set_length [] (suc n) c = refl
set_length (x ∷ xs) zero c = refl
set_length (x ∷ xs) (suc n) c = ap (λ k. suc k) (set_length xs n c)

written_fill : (xs ys : List Cell) (a v : ℤ) (w : List Cell) → Shown xs ys → written xs a v ≡ Some w → (written (fill xs ys) a v ≡ Some (fill w ys)) × Shown w ys × (length w ≡ length xs)
written_fill xs ys (negsuc n) v w h e = cc
written_fill xs ys (pos n) v w h e =
    let m = mine_of (slice_get xs n) (set xs n (Mine v)) w e in (
      ap (λ o. where_mine o (set (fill xs ys) n (Mine v))) (mine_at xs ys n m.0 m.1) ∙ ap Some (set_fill xs ys n m.0 v m.1 ∙ ap (λ l. fill l ys) m.2),
      subst (λ l. Shown l ys) m.2 (set_shown xs ys n m.0 v m.1 h),
      ap length (sym m.2) ∙ set_length xs n (Mine v),
    )

points_fill : (xs ys : List Cell) (a : ℤ) → points (fill xs ys) a ≡ points xs a
points_fill xs ys (pos n) = ap (λ k. nat_le n k) (fill_length xs ys)
points_fill xs ys (negsuc n) = refl

append_fill : (xs ys zs : List Cell) → length ys ≤ length xs → fill xs ys ++ zs ≡ fill (xs ++ zs) ys
append_fill [] [] zs l = fill_none zs
  where
    fill_none : (zs : List Cell) → zs ≡ fill zs []
    fill_none [] = refl
    fill_none (z ∷ zs) = refl
append_fill [] (y ∷ ys) zs l = absurd (omega (arith, l))
append_fill (x ∷ xs) [] zs l = refl
append_fill (Gone ∷ xs) (y ∷ ys) zs l = ap (λ r. y ∷ r) (append_fill xs ys zs (omega (arith, l)))
append_fill (Seen v ∷ xs) (y ∷ ys) zs l = ap (λ r. y ∷ r) (append_fill xs ys zs (omega (arith, l)))
append_fill (Mine v ∷ xs) (y ∷ ys) zs l = ap (λ r. Mine v ∷ r) (append_fill xs ys zs (omega (arith, l)))

append_shown : (xs ys zs : List Cell) → length ys ≤ length xs → Shown xs ys → Shown (xs ++ zs) ys
append_shown [] [] [] l h = tt
append_shown [] [] (z ∷ zs) l h = tt
append_shown [] (y ∷ ys) zs l h = absurd (omega (arith, l))
append_shown (x ∷ xs) [] zs l h = tt
append_shown (Gone ∷ xs) (y ∷ ys) zs l h = append_shown xs ys zs (omega (arith, l)) h
append_shown (Seen v ∷ xs) (y ∷ ys) zs l h = (h.0, append_shown xs ys zs (omega (arith, l)) h.1)
append_shown (Mine v ∷ xs) (y ∷ ys) zs l h = append_shown xs ys zs (omega (arith, l)) h

take_fill : (n : ℕ) (xs ys : List Cell) → take n (fill xs ys) ≡ fill (take n xs) ys
take_fill zero xs ys = refl
take_fill (suc n) [] ys = refl
take_fill (suc n) (x ∷ xs) [] = refl
take_fill (suc n) (Gone ∷ xs) (y ∷ ys) = ap (λ r. y ∷ r) (take_fill n xs ys)
take_fill (suc n) (Seen v ∷ xs) (y ∷ ys) = ap (λ r. y ∷ r) (take_fill n xs ys)
take_fill (suc n) (Mine v ∷ xs) (y ∷ ys) = ap (λ r. Mine v ∷ r) (take_fill n xs ys)

take_shown : (n : ℕ) (xs ys : List Cell) → Shown xs ys → Shown (take n xs) ys
take_shown zero xs ys h = tt
take_shown (suc n) [] ys h = tt
take_shown (suc n) (x ∷ xs) [] h = tt
take_shown (suc n) (Gone ∷ xs) (y ∷ ys) h = take_shown n xs ys h
take_shown (suc n) (Seen v ∷ xs) (y ∷ ys) h = (h.0, take_shown n xs ys h.1)
take_shown (suc n) (Mine v ∷ xs) (y ∷ ys) h = take_shown n xs ys h

-- ---- steps of any kind

module _ (outer : List Cell) where
  value_same : (s : State) (a : ℤ) (o : Option ℤ) (k k' : ℤ → Went) → Framed outer s → seen s.cells a ≡ o → ((v : ℤ) → Same outer (k v) (k' v)) → Same outer (with_value o s k) (with_value (seen (fill s.cells outer) a) (filled outer s) k')
  value_same s a None k k' h e f = tt
  value_same s a (Some v) k k' h e f = subst (λ o. Same outer (k v) (with_value o (filled outer s) k')) (sym (seen_fill s.cells outer a v h.shown e)) (f v)

  cells_same : (s : State) (a v : ℤ) (o : Option (List Cell)) (k : State → Went) → Framed outer s → written s.cells a v ≡ o → ((w : List Cell) → Framed outer (record s { cells = w }) → Same outer (k (record s { cells = w })) (k (filled outer (record s { cells = w })))) → Same outer (with_cells o s k) (with_cells (written (fill s.cells outer) a v) (filled outer s) k)
  cells_same s a v None k h e f = tt
  cells_same s a v (Some w) k h e f =
      let r = written_fill s.cells outer a v w h.shown e in
      subst (λ o. Same outer (k (record s { cells = w })) (with_cells o (filled outer s) k)) (sym r.0)
      (f w (record { shown = r.1; long = omega (arith, r.2, h.long); above = h.above }))

  pointing_same : (b : Bool) (s : State) (x y : Went) → Same outer x y → Same outer (if_pointing b s x) (if_pointing b (filled outer s) y)
  pointing_same true s x y h = h
  pointing_same false s x y h = tt

  cond_same : (b : Bool) (x y x' y' : Went) → Same outer x x' → Same outer y y' → Same outer (cond b x y) (cond b x' y')
  cond_same true x y x' y' h g = h
  cond_same false x y x' y' h g = g

  look_same : (o : Option ℕ) (s : State) (k : State → Went) → ((l : Option ℕ) → Same outer (k (record s { left = l })) (k (filled outer (record s { left = l })))) → Same outer (look_by o s k) (look_by o (filled outer s) k)
  look_same None s k h = h s.left
  look_same (Some zero) s k h = refl
  look_same (Some (suc n)) s k h = h (Some n)

  moved : (s t : State) → Framed outer s → t.cells ≡ s.cells → t.waiting ≡ s.waiting → Framed outer t
  moved s t h c w = record {
    shown = subst (λ x. Shown x outer) (sym c) h.shown;
    long = subst (λ x. length outer ≤ length x) (sym c) h.long;
    above = subst (Above (length outer)) (sym w) h.above;
  }

  module _ (limit : ℕ) (c : Code) where
    turned_same : (s : State) (k : State → Went) → ((l : Option ℕ) (t : ℕ) → Same outer (k (record s { left = l; turns = t })) (k (filled outer (record s { left = l; turns = t })))) → Same outer (turned limit s k) (turned limit (filled outer s) k)
    turned_same s k h = look_same s.left s (λ s. cond (nat_lt s.turns limit) (k (record s { turns = s.turns + 1 })) (Stops Spent s))
        (λ l. cond_same (nat_lt s.turns limit) (k (record s { left = l; turns = s.turns + 1 })) (Stops Spent (record s { left = l })) (k (filled outer (record s { left = l; turns = s.turns + 1 }))) (Stops Spent (filled outer (record s { left = l }))) (h l (s.turns + 1)) refl)

    entering_same : (f : CodeSub) (to : ℕ) (kept : List ℤ) (s : State) → Framed outer s → Same outer (entering limit f to kept s) (entering limit f to kept (filled outer s))
    entering_same f to kept s h = cond_same (nat_lt s.calls 1000) (Goes (entered f to kept s)) (Goes (failed StorageError (cut (length s.stack - f.takes) s.stack) s)) (Goes (entered f to kept (filled outer s))) (Goes (failed StorageError (cut (length s.stack - f.takes) s.stack) (filled outer s))) (
      ap (λ b. Goes (record (entered f to kept s) { base = b; waiting = record { at = s.pc; to = to; floor = s.floor; base = s.base; nest = s.nest; kept = kept; rounds = s.rounds; top = b } ∷ s.waiting; cells = fill s.cells outer ++ zeros f.frame })) (fill_length s.cells outer)
          ∙ ap (λ cells. Goes (record (entered f to kept s) { cells = cells })) (append_fill s.cells outer (zeros f.frame) h.long),
      record { shown = append_shown s.cells outer (zeros f.frame) h.long h.shown; long = omega (arith, h.long, length-append s.cells (zeros f.frame)); above = (h.long, h.above) },
    )
        (refl, moved s (failed StorageError (cut (length s.stack - f.takes) s.stack) s) h refl refl)

    entering_at_same : (f : CodeSub) (n to : ℕ) (fit : Bool) (s : State) → Framed outer s → Same outer (entering_at limit f n to fit s) (entering_at limit f n to fit (filled outer s))
    entering_at_same f n to fit s h =
        let more : List Cell = zeros (s.base + n + f.frame - length s.cells) in
        cond_same (nat_lt s.calls 1000) (cond fit (Goes (entered_at f n to s)) (Goes (failed ConstraintError s.stack s))) (Goes (failed StorageError s.stack s)) (cond fit (Goes (entered_at f n to (filled outer s))) (Goes (failed ConstraintError s.stack (filled outer s)))) (Goes (failed StorageError s.stack (filled outer s)))
        (cond_same fit (Goes (entered_at f n to s)) (Goes (failed ConstraintError s.stack s)) (Goes (entered_at f n to (filled outer s))) (Goes (failed ConstraintError s.stack (filled outer s))) (
          ap (λ b. Goes (record (entered_at f n to s) { waiting = record { at = s.pc; to = to; floor = s.floor; base = s.base; nest = s.nest; kept = s.kept; rounds = s.rounds; top = b } ∷ s.waiting; cells = fill s.cells outer ++ zeros (s.base + n + f.frame - b) })) (fill_length s.cells outer)
              ∙ ap (λ cells. Goes (record (entered_at f n to s) { cells = cells })) (append_fill s.cells outer more h.long),
          record { shown = append_shown s.cells outer more h.long h.shown; long = omega (arith, h.long, length-append s.cells more); above = (h.long, h.above) },
        )
        (refl, moved s (failed ConstraintError s.stack s) h refl refl))
        (refl, moved s (failed StorageError s.stack s) h refl refl)

    drawing_same : (parts : List ℤ) (s : State) → Framed outer s → Same outer (drawing limit parts s) (drawing limit parts (filled outer s))
    drawing_same [] s h = (refl, moved s (on (pos 0 ∷ pos 0 ∷ s.stack) s) h refl refl)
    drawing_same (part ∷ parts) s h = (refl, moved s (on (pos 1 ∷ part ∷ s.stack) (record s { kept = parts })) h refl refl)

    another_same : (to head more : ℕ) (rs : List Round) (s : State) → Framed outer s → Same outer (another limit to head more rs s) (another limit to head more rs (filled outer s))
    another_same to head zero rs s h = (refl, moved s (on s.stack (record s { rounds = rs })) h refl refl)
    another_same to head (suc n) rs s h =
        let next : State = moved_to to s.stack (record s { rounds = record { more = n; head = head } ∷ rs }) in
        let behind : State = on s.stack (record s { rounds = rs }) in
        cond_same (nat_eq head to) (Goes next) (Goes behind) (Goes (filled outer next)) (Goes (filled outer behind)) (refl, moved s next h refl refl) (refl, moved s behind h refl refl)

    rounding_same : (to : ℕ) (rs : List Round) (s : State) → Framed outer s → Same outer (rounding limit to rs s) (rounding limit to rs (filled outer s))
    rounding_same to [] s h = (refl, moved s (on s.stack s) h refl refl)
    rounding_same to (r ∷ rs) s h = another_same to r.head r.more rs s h

    combining_same : (f : CodeSub) (acc : ℤ) (st parts : List ℤ) (s : State) → Framed outer s → Same outer (combining limit f acc st parts s) (combining limit f acc st parts (filled outer s))
    combining_same f acc st [] s h = (refl, moved s (on (acc ∷ st) s) h refl refl)
    combining_same f acc st (part ∷ parts) s h = turned_same s (λ s. entering limit f s.pc parts (record s { stack = part ∷ acc ∷ st }))
        (λ l t. entering_same f s.pc parts (record s { left = l; turns = t; stack = part ∷ acc ∷ st }) (moved s (record s { left = l; turns = t; stack = part ∷ acc ∷ st }) h refl refl))

    -- a frame that a call began ends
    ended_same : (s : State) (f : Frame) (fs : List Frame) (to : ℕ) (st : List ℤ) → s.waiting ≡ f ∷ fs → Framed outer s → (Goes (ended f fs to st (filled outer s)) ≡ Goes (filled outer (ended f fs to st s))) × Framed outer (ended f fs to st s)
    ended_same s f fs to st e h =
        let a : Above (length outer) (f ∷ fs) = subst (Above (length outer)) e h.above in (
          ap (λ cells. Goes (record (ended f fs to st s) { cells = cells })) (take_fill f.top s.cells outer),
          record { shown = take_shown f.top s.cells outer h.shown; long = omega (arith, length-take f.top s.cells, a.0, h.long); above = a.1 },
        )

    ending_same : (v : Option ℤ) (st : List ℤ) (fs : List Frame) (s : State) → s.waiting ≡ fs → Framed outer s → Same outer (ending limit v st fs s) (ending limit v st fs (filled outer s))
    ending_same v st [] s e h = refl
    ending_same v st (f ∷ fs) s e h = ended_same s f fs f.to (pushed_for v (cut s.floor st)) e h

    nesting_same : (s : State) → Framed outer s → Same outer (nesting limit s) (nesting limit (filled outer s))
    nesting_same s h = cond_same (nat_lt s.nested 16) (Goes (on s.stack (record s { nest = s.nest + 1; nested = s.nested + 1 }))) (Goes (failed StorageError s.stack s)) (Goes (on s.stack (filled outer (record s { nest = s.nest + 1; nested = s.nested + 1 })))) (Goes (failed StorageError s.stack (filled outer s)))
        (refl, moved s (on s.stack (record s { nest = s.nest + 1; nested = s.nested + 1 })) h refl refl) (refl, moved s (failed StorageError s.stack s) h refl refl)

    done_same : (d : Deed) (s : State) → Framed outer s → Same outer (done limit d s) (done limit d (filled outer s))
    done_same Lacks s h = refl
    done_same (GoesOn to st) s h = (refl, moved s (record s { pc = to; stack = st }) h refl refl)
    done_same (Fails r st) s h = (refl, moved s (failed r st s) h refl refl)
    done_same (Loads a k) s h = value_same s a (seen s.cells a) (λ v. done limit (k v) s) (λ v. done limit (k v) (filled outer s)) h refl (λ v. done_same (k v) s h)
    done_same (Stores a v d) s h = cells_same s a v (written s.cells a v) (λ s. done limit d s) h refl (λ w g. done_same d (record s { cells = w }) g)
    done_same (Points a d) s h = subst (λ b. Same outer (done limit (Points a d) s) (if_pointing b (filled outer s) (done limit d (filled outer s)))) (sym (points_fill s.cells outer a)) (pointing_same (points s.cells a) s (done limit d s) (done limit d (filled outer s)) (done_same d s h))
    done_same Turns s h = turned_same s (λ s. Goes (on s.stack s)) (λ l t. (refl, moved s (on s.stack (record s { left = l; turns = t })) h refl refl))
    done_same (Calls f) s h = turned_same s (λ x. entering limit f (s.pc + 1) s.kept x) (λ l t. entering_same f (s.pc + 1) s.kept (record s { left = l; turns = t }) (moved s (record s { left = l; turns = t }) h refl refl))
    done_same (CallsAt f n to fit st) s h = turned_same s (λ x. entering_at limit f n to fit (record x { stack = st })) (λ l t. entering_at_same f n to fit (record s { left = l; turns = t; stack = st }) (moved s (record s { left = l; turns = t; stack = st }) h refl refl))
    done_same (Combines f acc st) s h = combining_same f acc st s.kept s h
    done_same Draws s h = drawing_same s.kept s h
    done_same (Repeats n) s h = (refl, moved s (on s.stack (record s { rounds = record { more = n - 1; head = s.pc + 1 } ∷ s.rounds })) h refl refl)
    done_same (Rounds to) s h = rounding_same to s.rounds s h
    done_same (Ends v st) s h = ending_same v st s.waiting s refl h
    done_same (Leaves l st) s h = refl
    done_same (Forks q st) s h = refl
    done_same Nests s h = look_same s.left s (nesting limit) (λ l. nesting_same (record s { left = l }) (moved s (record s { left = l }) h refl refl))
    done_same Unnests s h = (refl, moved s (on s.stack (record s { nest = s.nest - 1; nested = s.nested - 1 })) h refl refl)
    done_same (Writes text st) s h = (refl, moved s (on st (record s { line = s.line ++ text })) h refl refl)
    done_same (Sends feed) s h = refl
    done_same Gets s h = refl
    done_same (Gives v st) s h = refl

    unwound_same : (r : Reason) (fs : List Frame) (s : State) → s.waiting ≡ fs → Framed outer s → Same outer (unwound r fs s) (unwound r fs (filled outer s))
    unwound_same r [] s e h = refl
    unwound_same r (f ∷ fs) s e h = ended_same s f fs f.at (cut s.floor s.stack) e h

    raised_same : (r : Reason) (o : Option Unwind) (s : State) → Framed outer s → Same outer (raised r o s) (raised r o (filled outer s))
    raised_same r (Some u) s h = look_same s.left s (λ s. Goes (handled u r s)) (λ l. (refl, moved s (handled u r (record s { left = l })) h refl refl))
    raised_same r None s h = unwound_same r s.waiting s refl h

    acted_same : (o : Option Instr) (s : State) → Framed outer s → Same outer (acted limit c o s) (acted limit c o (filled outer s))
    acted_same None s h = refl
    acted_same (Some i) s h = done_same (deed_of c s.pc s.stack s.base s.outward i) s h

    stepped_same : (o : Option Reason) (s : State) → Framed outer s → Same outer (stepped limit c o s) (stepped limit c o (filled outer s))
    stepped_same None s h = acted_same (slice_get c.instrs s.pc) s h
    stepped_same (Some r) s h = raised_same r (entry_of c.unwind s.pc) s h

    -- one step
    pub step_same : (s : State) → Framed outer s → Same outer (step limit c s) (step limit c (filled outer s))
    step_same s h = stepped_same s.raising s h

    -- ---- runs

    goes_same : (w w' : Went) (s : State) → Same outer w w' → w ≡ Goes s → (w' ≡ Goes (filled outer s)) × Framed outer s
    goes_same w w' s h e = subst (λ x. Same outer x w') e h

    stop_first : (m : ℕ) (x : Stop) (s : State) (w' : Went) → Same outer (Stops x s) w' → Same outer (Stops x s) (going limit c w' (λ s. run limit c m s))
    stop_first m (Done v) s w' h = ap (λ w. going limit c w (λ s. run limit c m s)) h
    stop_first m (Left l) s w' h = ap (λ w. going limit c w (λ s. run limit c m s)) h
    stop_first m Spent s w' h = ap (λ w. going limit c w (λ s. run limit c m s)) h
    stop_first m Cut s w' h = ap (λ w. going limit c w (λ s. run limit c m s)) h
    stop_first m (Asks io) s w' h = ap (λ w. going limit c w (λ s. run limit c m s)) h
    stop_first m (Constructs q) s w' h = ap (λ w. going limit c w (λ s. run limit c m s)) h
    stop_first m Astray s w' h = ap (λ w. going limit c w (λ s. run limit c m s)) h
    stop_first m Stuck s w' h = tt

    run_first : (m : ℕ) (w w' : Went) → Same outer w w' → ((s : State) → Framed outer s → Same outer (run limit c m s) (run limit c m (filled outer s))) → Same outer (going limit c w (λ s. run limit c m s)) (going limit c w' (λ s. run limit c m s))
    run_first m (Goes s) w' h ih = subst (λ x. Same outer (run limit c m s) (going limit c x (λ s. run limit c m s))) (sym h.0) (ih s h.1)
    run_first m (Stops x s) w' h ih = stop_first m x s w' h

    -- so many steps that aren't stuck
    pub run_same : (m : ℕ) (s : State) → Framed outer s → Same outer (run limit c m s) (run limit c m (filled outer s))
    run_same zero s h = (refl, h)
    run_same (suc m) s h = run_first m (step limit c s) (step limit c (filled outer s)) (step_same s h) (λ s h. run_same m s h)
