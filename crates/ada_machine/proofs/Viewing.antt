-- Views as the cells of a path.
use Rattle.std.proofs.Common.{◌≡◌, ℕ, ◌+◌, ◌-◌, ◌<◌, ◌≤◌, inl, inr, ℤ, pos, Bool, true, false, List, ◌++◌, map, length, get_or, set, take, Option, Some, None, arith, refl, sym, ◌∙◌, ap, subst, length-append, length-set, length-take-le}
use Rattle.std.specs.Prelude.{IsSome, slice_get}
use Rattle.std.specs.List.{range_with_len}
use Rattle.std.proofs.lemmas.Bool.{cases_lt, cases_eq, false≢true}
use Rattle.std.proofs.lemmas.List.{length-replicate, get_or_past, get_or-set_same, get_or-set_other, get_or_append_left, get_or-append_right, get_or-replicate, get_or-take}
use Rattle.std.proofs.lemmas.List.FromFn.{length-map-range_with_len, get_or-map-range_with_len, fill_by_all}
use Rattle.std.proofs.lemmas.Option.{get_or_from_slice_get}
use Rattle.ada_base.specs.Cells.{Cell, Gone, Seen, Mine, value_in, where_mine, seen, written, zeros}
use Rattle.cell_memory.specs.Sight.{Sight, cell_at, value_of, is_mine, is_gone, stored, pushed, popped, OwnThere, lower_length}
use Rattle.ada_machine.specs.Places.{Stays}
use Rattle.ada_machine.specs.Viewed.{seat_of}

abbrev pub SeatStays : Sight → Sight → Type 0
SeatStays s t = Stays lower_length OwnThere seat_of s t

flags : (n : ℕ) (f g : ℕ → Bool) → ((x : ℕ) → x < n → f x ≡ g x) → map f (range_with_len 0 n) ≡ map g (range_with_len 0 n)
flags n f g h = fill_by_all g (map f (range_with_len 0 n)) n false (length-map-range_with_len f 0 n) (λ x lt. get_or-map-range_with_len f 0 n x x false lt (omega arith) ∙ h x lt)

-- two views with as many cells of their own, over cells of the same kinds
seat_is : (s t : Sight) → t.held ≡ s.held → lower_length t ≡ lower_length s → ((x : ℕ) → x < lower_length s → is_mine (cell_at t x) ≡ is_mine (cell_at s x)) → seat_of t ≡ seat_of s
seat_is s t h l k =
    let e : map (λ x. is_mine (cell_at t x)) (range_with_len 0 (lower_length t)) ≡ map (λ x. is_mine (cell_at s x)) (range_with_len 0 (lower_length s)) =
    ap (λ n. map (λ x. is_mine (cell_at t x)) (range_with_len 0 n)) l ∙ flags (lower_length s) (λ x. is_mine (cell_at t x)) (λ x. is_mine (cell_at s x)) k in
    λ i. record { held = h i; kinds = e i }

-- ---- reading and writing
pub may_read : (s : Sight) (at : ℕ) → IsSome (seen s.cells (pos at)) → is_gone (cell_at s at) ≡ false
may_read s at h = here (slice_get s.cells at) refl h
  where
    here : (o : Option Cell) → slice_get s.cells at ≡ o → IsSome (value_in o) → is_gone (cell_at s at) ≡ false
    here None e h = absurd (false≢true h)
    here (Some Gone) e h = absurd (false≢true h)
    here (Some (Seen v)) e h = ap is_gone (get_or_from_slice_get s.cells at (Seen v) Gone e)
    here (Some (Mine v)) e h = ap is_gone (get_or_from_slice_get s.cells at (Mine v) Gone e)

pub reads : (s : Sight) (at : ℕ) (r : ℤ) → IsSome (seen s.cells (pos at)) → r ≡ value_of (cell_at s at) → seen s.cells (pos at) ≡ Some r
reads s at r h is = here (slice_get s.cells at) refl h
  where
    here : (o : Option Cell) → slice_get s.cells at ≡ o → IsSome (value_in o) → value_in (slice_get s.cells at) ≡ Some r
    here None e h = absurd (false≢true h)
    here (Some Gone) e h = absurd (false≢true h)
    here (Some (Seen v)) e h = ap value_in e ∙ ap Some (sym (is ∙ ap value_of (get_or_from_slice_get s.cells at (Seen v) Gone e)))
    here (Some (Mine v)) e h = ap value_in e ∙ ap Some (sym (is ∙ ap value_of (get_or_from_slice_get s.cells at (Mine v) Gone e)))

pub may_write : (s : Sight) (at : ℕ) (v : ℤ) → IsSome (written s.cells (pos at) v) → is_mine (cell_at s at) ≡ true
may_write s at v h = here (slice_get s.cells at) refl h
  where
    here : (o : Option Cell) → slice_get s.cells at ≡ o → IsSome (where_mine o (set s.cells at (Mine v))) → is_mine (cell_at s at) ≡ true
    here None e h = absurd (false≢true h)
    here (Some Gone) e h = absurd (false≢true h)
    here (Some (Seen w)) e h = absurd (false≢true h)
    here (Some (Mine w)) e h = ap is_mine (get_or_from_slice_get s.cells at (Mine w) Gone e)

pub writes : (s t : Sight) (at : ℕ) (v : ℤ) → IsSome (written s.cells (pos at) v) → t ≡ stored s at v → written s.cells (pos at) v ≡ Some t.cells
writes s t at v h is = here (slice_get s.cells at) refl h ∙ ap (λ (w : Sight). Some w.cells) (sym is)
  where
    here : (o : Option Cell) → slice_get s.cells at ≡ o → IsSome (where_mine o (set s.cells at (Mine v))) → where_mine (slice_get s.cells at) (set s.cells at (Mine v)) ≡ Some (set s.cells at (Mine v))
    here None e h = absurd (false≢true h)
    here (Some Gone) e h = absurd (false≢true h)
    here (Some (Seen w)) e h = absurd (false≢true h)
    here (Some (Mine w)) e h = ap (λ o. where_mine o (set s.cells at (Mine v))) e

mine_within : (cs : List Cell) (at : ℕ) → is_mine (get_or cs at Gone) ≡ true → at < length cs
mine_within cs at m = elim (cases_lt at (length cs)) [ inl h ↦ h | inr h ↦ absurd (false≢true (sym (ap is_mine (get_or_past cs at Gone h)) ∙ m)) ]

module _ (cs : List Cell) (at : ℕ) (v : ℤ) (mine : is_mine (get_or cs at Gone) ≡ true) where
  same_kind : (x : ℕ) → is_mine (get_or (set cs at (Mine v)) x Gone) ≡ is_mine (get_or cs x Gone)
  same_kind x = elim (cases_eq x at) [
    | inl e ↦ subst (λ y. is_mine (get_or (set cs at (Mine v)) y Gone) ≡ is_mine (get_or cs y Gone)) (sym e) (ap is_mine (get_or-set_same cs at (Mine v) Gone (mine_within cs at mine)) ∙ sym mine)
    | inr n ↦ ap is_mine (get_or-set_other cs at x (Mine v) Gone n)
  ]

  still_there : (x : ℕ) → is_gone (get_or cs x Gone) ≡ false → is_gone (get_or (set cs at (Mine v)) x Gone) ≡ false
  still_there x h = elim (cases_eq x at) [
    | inl e ↦ subst (λ y. is_gone (get_or (set cs at (Mine v)) y Gone) ≡ false) (sym e) (ap is_gone (get_or-set_same cs at (Mine v) Gone (mine_within cs at mine)))
    | inr n ↦ ap is_gone (get_or-set_other cs at x (Mine v) Gone n) ∙ h
  ]

pub set_stays : (s t : Sight) (at : ℕ) (v : ℤ) → IsSome (written s.cells (pos at) v) → t ≡ stored s at v → SeatStays s t
set_stays s t at v h is =
    let mine = may_write s at v h in
    let long : length (set s.cells at (Mine v)) ≡ length s.cells = length-set s.cells at (Mine v) in
    let low : lower_length (stored s at v) ≡ lower_length s = ap (λ n. n - s.own) long in
    subst (λ w. SeatStays s w) (sym is) (
      low,
      (λ there x le lt. still_there s.cells at v mine x (there x (omega (arith, le, low)) (omega (arith, lt, long)))),
      seat_is s (stored s at v) refl low (λ x lt. same_kind s.cells at v mine x),
    )

-- ---- frames
zero_mine : (n i : ℕ) → i < n → is_gone (get_or (zeros n) i Gone) ≡ false
zero_mine n i lt = ap is_gone (get_or-replicate n i (Mine (pos 0)) Gone lt)

pub same_cells : (s t : Sight) → t.cells ≡ s.cells → t.own ≡ s.own → t.held ≡ s.held → SeatStays s t
same_cells s t c o h =
    let low : lower_length t ≡ lower_length s = λ i. length (c i) - o i in
    (low, (λ there x le lt. ap (λ l. is_gone (get_or l x Gone)) c ∙ there x (omega (arith, le, low)) (subst (λ l. x < length l) c lt)), seat_is s t h low (λ x lt. ap (λ l. is_mine (get_or l x Gone)) c))

pub push_stays : (s r t : Sight) (n : ℕ) → s.own ≤ length s.cells → OwnThere s → r.cells ≡ s.cells → r.own ≡ s.own → r.held ≡ s.held → t ≡ pushed r n → (t.cells ≡ s.cells ++ zeros n) × SeatStays s t
push_stays s r t n own there c o h is =
    let cells : t.cells ≡ s.cells ++ zeros n = ap (λ (w : Sight). w.cells) is ∙ ap (λ l. l ++ zeros n) c in
    let owns : t.own ≡ s.own + n = ap (λ (w : Sight). w.own) is ∙ ap (λ k. k + n) o in
    let held : t.held ≡ s.held = ap (λ (w : Sight). w.held) is ∙ h in
    let long : length t.cells ≡ length s.cells + n = ap length cells ∙ length-append s.cells (zeros n) ∙ ap (λ k. length s.cells + k) (length-replicate n (Mine (pos 0))) in
    let low : lower_length t ≡ lower_length s = omega (arith, long, owns, own) in (
      cells,
      (
        low,
        (λ _ x le lt. ap (λ l. is_gone (get_or l x Gone)) cells ∙ elim (cases_lt x (length s.cells)) as (λ _. is_gone (get_or (s.cells ++ zeros n) x Gone) ≡ false) [
          | inl b ↦ ap is_gone (get_or_append_left s.cells (zeros n) Gone x b) ∙ there x (omega (arith, le, low)) b
          | inr b ↦ ap is_gone (get_or-append_right s.cells (zeros n) (length s.cells) x Gone refl b) ∙ zero_mine n (x - length s.cells) (omega (arith, b, lt, long))
        ]),
        seat_is s t held low (λ x lt. ap (λ l. is_mine (get_or l x Gone)) cells ∙ ap is_mine (get_or_append_left s.cells (zeros n) Gone x (omega (arith, lt)))),
      ),
    )

pub pop_cells : (s t : Sight) (base : ℕ) → base ≤ length s.cells → t ≡ popped s (length s.cells - base) → t.cells ≡ take base s.cells
pop_cells s t base le is = let e : length s.cells - (length s.cells - base) ≡ base = omega (arith, le) in ap (λ (w : Sight). w.cells) is ∙ ap (λ k. take k s.cells) e

pub pop_stays : (s t : Sight) (base : ℕ) → s.own ≤ length s.cells → lower_length s ≤ base → base ≤ length s.cells → t ≡ popped s (length s.cells - base) → SeatStays s t
pop_stays s t base own low_le le is =
    let cells = pop_cells s t base le is in
    let owns : t.own ≡ s.own - (length s.cells - base) = ap (λ (w : Sight). w.own) is in
    let held : t.held ≡ s.held = ap (λ (w : Sight). w.held) is in
    let long : length t.cells ≡ base = ap length cells ∙ length-take-le base s.cells le in
    let low : lower_length t ≡ lower_length s = omega (arith, long, owns, own, low_le, le) in (
      low,
      (λ there x l lt. ap (λ l. is_gone (get_or l x Gone)) cells ∙ ap is_gone (get_or-take base s.cells x Gone (omega (arith, lt, long))) ∙ there x (omega (arith, l, low)) (omega (arith, lt, long, le))),
      seat_is s t held low (λ x lt. ap (λ l. is_mine (get_or l x Gone)) cells ∙ ap is_mine (get_or-take base s.cells x Gone (omega (arith, lt, low_le)))),
    )
