-- Threads on views of their own come to what they come to one after the other on one memory.
use Rattle.std.proofs.Common.{◌≡◌, ◌≢◌, ℕ, zero, suc, ◌+◌, ◌-◌, ◌<◌, ◌≤◌, ◌⊎◌, inl, inr, ℤ, true, false, List, [], ◌∷◌, ◌++◌, map, length, get_or, take, Option, Some, None, arith, refl, sym, ◌∙◌, ap, subst, length-append, length-take-le}
use Rattle.std.proofs.lemmas.List.{length-map, get_or_append_left, get_or-append_right, get_or-take, ext_get_or}
use Rattle.std.proofs.lemmas.Bool.{cases_lt}
use Rattle.ada_base.specs.Cells.{Cell, Gone, Seen, Mine}
use Rattle.cell_memory.specs.Sight.{is_mine, shown, mine_or, lent_value, table}
use Rattle.cell_memory.proofs.Views.{length-table, at-table}
use Rattle.ada_workers.specs.Paths.{Ending, Outcome, Runs, Fine, Shows, Covers, Keeps, SameRun, Frames}
use Rattle.ada_base.specs.Notes.{ThreadNote, Whole, NotBegun, CutAfter}
use Rattle.ada_workers.specs.Orders.{Start, by_note, in_turn, memory_after, ends_of, view_of}

-- a thread that was run on a view of its own
pub record Strand (P : Type 0) : Type 0 where
  pub start : Start P
  pub given : ℕ → Option ℤ
  pub note : ThreadNote
  pub back : ℕ → Option ℤ

abbrev pub starts : {P : Type 0} → List (Strand P) → List (Start P)
starts [] = []
starts (t ∷ ts) = t.start ∷ starts ts

abbrev pub notes : {P : Type 0} → List (Strand P) → List ThreadNote
notes [] = []
notes (t ∷ ts) = t.note ∷ notes ts

abbrev pub put : List Cell → (ℕ → Option ℤ) → List Cell
put cs b = table (length cs) (λ x. mine_or (b x) (get_or cs x Gone))

abbrev pub puts : {P : Type 0} → List Cell → List (Strand P) → List Cell
puts cs [] = cs
puts cs (t ∷ ts) = puts (put cs t.back) ts

-- none of the threads was given the cell
abbrev pub AllNone : {P : Type 0} → List (Strand P) → ℕ → Type 0
AllNone [] x = Unit {0}
AllNone (t ∷ ts) x = (t.given x ≡ None) × AllNone ts x

-- one of them was
abbrev pub OneHas : {P : Type 0} → List (Strand P) → ℕ → ℤ → Type 0
OneHas [] x v = ⊥
OneHas (t ∷ ts) x v = ((t.given x ≡ Some v) × AllNone ts x) ⊎ ((t.given x ≡ None) × OneHas ts x v)

-- f is the cell while all are lent, c the memory's, g the cell to which the threads before have given back
pub data Stands {P : Type 0} (ts : List (Strand P)) (x : ℕ) (f c g : Cell) : Type 0 where
  Free : (v : ℤ) → AllNone ts x → f ≡ Mine v → c ≡ Mine v → g ≡ Mine v → Stands ts x f c g
  Done : AllNone ts x → f ≡ Gone → c ≡ g → Stands ts x f c g
  Later : (v : ℤ) → OneHas ts x v → f ≡ Gone → c ≡ Mine v → Stands ts x f c g

mine_is : (c : Cell) → is_mine c ≡ true → (w : ℤ) × (c ≡ Mine w)
mine_is Gone e = cc
mine_is (Seen v) e = cc
mine_is (Mine v) e = (v, refl)

not_mine : (c : Cell) → is_mine (shown c) ≡ false
not_mine Gone = refl
not_mine (Seen v) = refl
not_mine (Mine v) = refl

none_lent : (c : Cell) → lent_value (shown c) ≡ None
none_lent Gone = refl
none_lent (Seen v) = refl
none_lent (Mine v) = refl

module _ {P : Type 0} (runs : Runs P) (frames : Frames runs) where
  -- a thread by a note is as a run is
  pub note_keeps : (p : P) (n : ThreadNote) (vs : List Cell) → Fine (by_note runs p n vs).end → Keeps vs (by_note runs p n vs).cells
  note_keeps p Whole vs f = frames.keeps p None vs f
  note_keeps p NotBegun vs f = record { long = omega arith; kinds = λ x lt. refl; others = λ x lt e. refl }
  note_keeps p (CutAfter n) vs f = frames.keeps p (Some n) vs f

  pub note_same : (p : P) (n : ThreadNote) (vs ms : List Cell) → Fine (by_note runs p n vs).end → Covers ms vs → SameRun vs ms (by_note runs p n vs) (by_note runs p n ms)
  note_same p Whole vs ms f c = frames.same p None vs ms f c
  note_same p NotBegun vs ms f c = record { path = refl; end = refl; covers = c; others = λ x lt e. refl }
  note_same p (CutAfter n) vs ms f c = frames.same p (Some n) vs ms f c

  -- the thread ran on its view, and gave back what it then had
  pub record Ran (end : List Cell) (t : Strand P) : Type 0 where
    pub fine : Fine (by_note runs t.start.path t.note (view_of end t.given t.start.own)).end
    pub backs : (x : ℕ) → x < length end → t.back x ≡ lent_value (get_or (by_note runs t.start.path t.note (view_of end t.given t.start.own)).cells x Gone)

  abbrev pub AllRan : List Cell → List (Strand P) → Type 0
  AllRan end [] = Unit {0}
  AllRan end (t ∷ ts) = Ran end t × AllRan end ts

  -- what the threads came to, each on its view
  abbrev pub view_ends : List Cell → List (Strand P) → List (P × Ending)
  view_ends end [] = []
  view_ends end (t ∷ ts) = let o = by_note runs t.start.path t.note (view_of end t.given t.start.own) in (o.path, o.end) ∷ view_ends end ts

  module _ (end : List Cell) (t : Strand P) (ts : List (Strand P)) (cs gs : List Cell) (lc : length cs ≡ length end) (lg : length gs ≡ length end) (st : (x : ℕ) → x < length end → Stands (t ∷ ts) x (get_or end x Gone) (get_or cs x Gone) (get_or gs x Gone)) where
    abbrev pub n : ℕ
    n = length end

    abbrev pub vs : List Cell
    vs = view_of end t.given t.start.own

    abbrev pub ms : List Cell
    ms = cs ++ map Mine t.start.own

    abbrev pub first : ℕ → Cell
    first x = mine_or (t.given x) (shown (get_or end x Gone))

    pub length-vs : length vs ≡ n + length t.start.own
    length-vs = length-append (table n first) (map Mine t.start.own) ∙ omega (arith, length-table n first, length-map t.start.own Mine)

    length-ms : length ms ≡ n + length t.start.own
    length-ms = length-append cs (map Mine t.start.own) ∙ omega (arith, lc, length-map t.start.own Mine)

    low-vs : (x : ℕ) → x < n → get_or vs x Gone ≡ first x
    low-vs x lt = get_or_append_left (table n first) (map Mine t.start.own) Gone x (omega (arith, length-table n first)) ∙ at-table n first x lt

    low-ms : (x : ℕ) → x < n → get_or ms x Gone ≡ get_or cs x Gone
    low-ms x lt = get_or_append_left cs (map Mine t.start.own) Gone x (omega (arith, lc))

    shows_self : (c : Cell) → ((v : ℤ) → c ≢ Seen v) → Shows c c
    shows_self Gone h = tt
    shows_self (Seen v) h = absurd (h v refl)
    shows_self (Mine v) h = refl

    own_kind : (own : List ℤ) (i : ℕ) (v : ℤ) → get_or (map Mine own) i Gone ≢ Seen v
    own_kind [] i v e = cc
    own_kind (w ∷ own) zero v e = cc
    own_kind (w ∷ own) (suc i) v e = own_kind own i v e

    shows_first : (x : ℕ) (f c g : Cell) → Stands (t ∷ ts) x f c g → Shows c (mine_or (t.given x) (shown f))
    shows_first x f c g (Free v a ef ec eg) = subst (λ o. Shows c (mine_or o (shown f))) (sym a.0) (subst (λ k. Shows c (shown k)) (sym ef) ec)
    shows_first x f c g (Done a ef e) = subst (λ o. Shows c (mine_or o (shown f))) (sym a.0) (subst (λ k. Shows c (shown k)) (sym ef) tt)
    shows_first x f c g (Later v (inl h) ef ec) = subst (λ o. Shows c (mine_or o (shown f))) (sym h.0) ec
    shows_first x f c g (Later v (inr h) ef ec) = subst (λ o. Shows c (mine_or o (shown f))) (sym h.0) (subst (λ k. Shows c (shown k)) (sym ef) tt)

    -- the memory has what the thread's view shows
    pub covers : Covers ms vs
    covers = (
      length-ms ∙ sym length-vs,
      λ x. elim (cases_lt x n) as (λ _. Shows (get_or ms x Gone) (get_or vs x Gone)) [
        | inl lt ↦ subst (λ c. Shows c (get_or vs x Gone)) (sym (low-ms x lt)) (subst (λ c. Shows (get_or cs x Gone) c) (sym (low-vs x lt)) (shows_first x (get_or end x Gone) (get_or cs x Gone) (get_or gs x Gone) (st x lt)))
        | inr le ↦
            let a : get_or vs x Gone ≡ get_or (map Mine t.start.own) (x - n) Gone = get_or-append_right (table n first) (map Mine t.start.own) n x Gone (length-table n first) le in
            let b : get_or ms x Gone ≡ get_or (map Mine t.start.own) (x - n) Gone = get_or-append_right cs (map Mine t.start.own) n x Gone lc le in
            subst (λ c. Shows c (get_or vs x Gone)) (sym b) (subst (λ c. Shows (get_or (map Mine t.start.own) (x - n) Gone) c) (sym a) (shows_self (get_or (map Mine t.start.own) (x - n) Gone) (λ v. own_kind t.start.own (x - n) v)))
      ],
    )

    module _ (r : Ran end t) where
      abbrev pub o : Outcome P
      o = by_note runs t.start.path t.note vs

      abbrev pub q : Outcome P
      q = in_turn runs t.start t.note cs

      pub same : SameRun vs ms o q
      same = note_same t.start.path t.note vs ms r.fine covers

      keeps : Keeps vs o.cells
      keeps = note_keeps t.start.path t.note vs r.fine

      abbrev pub cs' : List Cell
      cs' = take (length cs) q.cells

      abbrev pub gs' : List Cell
      gs' = put gs t.back

      enough : n ≤ length q.cells
      enough = omega (arith, same.covers.0, keeps.long, length-vs)

      pub length-cs' : length cs' ≡ n
      length-cs' = length-take-le (length cs) q.cells (omega (arith, enough, lc)) ∙ lc

      pub length-gs' : length gs' ≡ n
      length-gs' = length-table (length gs) _ ∙ lg

      at-cs' : (x : ℕ) → x < n → get_or cs' x Gone ≡ get_or q.cells x Gone
      at-cs' x lt = get_or-take (length cs) q.cells x Gone (omega (arith, lc))

      at-gs' : (x : ℕ) → x < n → get_or gs' x Gone ≡ mine_or (t.back x) (get_or gs x Gone)
      at-gs' x lt = at-table (length gs) (λ x. mine_or (t.back x) (get_or gs x Gone)) x (omega (arith, lg))

      -- a cell that it wasn't given
      untouched : (x : ℕ) → x < n → t.given x ≡ None → (get_or cs' x Gone ≡ get_or cs x Gone) × (get_or gs' x Gone ≡ get_or gs x Gone)
      untouched x lt e =
          let v : get_or vs x Gone ≡ shown (get_or end x Gone) = low-vs x lt ∙ ap (λ o. mine_or o (shown (get_or end x Gone))) e in
          let m : is_mine (get_or vs x Gone) ≡ false = ap is_mine v ∙ not_mine (get_or end x Gone) in
          let le : x < length vs = omega (arith, length-vs) in (
            at-cs' x lt ∙ same.others x le m ∙ low-ms x lt,
            at-gs' x lt ∙ ap (λ b. mine_or b (get_or gs x Gone)) (r.backs x lt ∙ ap lent_value (keeps.others x le m ∙ v) ∙ none_lent (get_or end x Gone)),
          )

      -- one that it was given
      touched : (x : ℕ) (v : ℤ) → x < n → t.given x ≡ Some v → get_or cs' x Gone ≡ get_or gs' x Gone
      touched x v lt e =
          let k : get_or vs x Gone ≡ Mine v = low-vs x lt ∙ ap (λ o. mine_or o (shown (get_or end x Gone))) e in
          let m = mine_is (get_or o.cells x Gone) (keeps.kinds x (omega (arith, length-vs)) ∙ ap is_mine k) in
          at-cs' x lt ∙ subst (λ c. Shows (get_or q.cells x Gone) c) m.1 (same.covers.1 x) ∙ sym (at-gs' x lt ∙ ap (λ b. mine_or b (get_or gs x Gone)) (r.backs x lt ∙ ap lent_value m.1))

      pub next : (x : ℕ) → x < n → Stands ts x (get_or end x Gone) (get_or cs' x Gone) (get_or gs' x Gone)
      next x lt = by_case (st x lt) where
        by_case : Stands (t ∷ ts) x (get_or end x Gone) (get_or cs x Gone) (get_or gs x Gone) → Stands ts x (get_or end x Gone) (get_or cs' x Gone) (get_or gs' x Gone)
        by_case (Free v a ef ec eg) = let u = untouched x lt a.0 in Free v a.1 ef (u.0 ∙ ec) (u.1 ∙ eg)
        by_case (Done a ef e) = let u = untouched x lt a.0 in Done a.1 ef (u.0 ∙ e ∙ sym u.1)
        by_case (Later v (inl h) ef ec) = Done h.1 ef (touched x v lt h.0)
        by_case (Later v (inr h) ef ec) = let u = untouched x lt h.0 in Later v h.1 ef (u.0 ∙ ec)

  -- the memory, and what each thread comes to
  pub joins : (end : List Cell) (ts : List (Strand P)) (cs gs : List Cell) → length cs ≡ length end → length gs ≡ length end → AllRan end ts
      → ((x : ℕ) → x < length end → Stands ts x (get_or end x Gone) (get_or cs x Gone) (get_or gs x Gone))
      → (puts gs ts ≡ memory_after runs (starts ts) (notes ts) cs) × (view_ends end ts ≡ ends_of runs (starts ts) (notes ts) cs)
  joins end [] cs gs lc lg r st = (ext_get_or Gone gs cs (lg ∙ sym lc) (λ x lt. sym (all_back x (st x (omega (arith, lg))))), refl) where
    all_back : (x : ℕ) → Stands {P = P} [] x (get_or end x Gone) (get_or cs x Gone) (get_or gs x Gone) → get_or cs x Gone ≡ get_or gs x Gone
    all_back x (Free v a ef ec eg) = ec ∙ sym eg
    all_back x (Done a ef e) = e
    all_back x (Later v h ef ec) = absurd h
  joins end (t ∷ ts) cs gs lc lg r st =
      let s = same end t ts cs gs lc lg st r.0 in
      let more = joins end ts (cs' end t ts cs gs lc lg st r.0) (gs' end t ts cs gs lc lg st r.0) (length-cs' end t ts cs gs lc lg st r.0) (length-gs' end t ts cs gs lc lg st r.0) r.1 (next end t ts cs gs lc lg st r.0) in
      (more.0, λ i. (sym s.path i, sym s.end i) ∷ more.1 i)
