-- A view's cells.
use Rattle.std.proofs.Common.{◌≡◌, ◌≢◌, ℕ, zero, suc, ◌+◌, ◌-◌, ◌^◌, ◌<◌, ◌≤◌, ◌⊎◌, inl, inr, ℤ, pos, Bool, true, false, not, cond, List, [], ◌∷◌, ◌++◌, map, length, get_or, set, replicate, Option, Some, None, arith, refl, sym, ◌∙◌, ap, subst, length-append, length-set}
use lib.Dec.{ltb}
use Rattle.std.proofs.lemmas.List.{length-map, length-replicate, get_or-map, get_or_past, get_or-set_same, get_or-set_other, get_or_append_left, get_or-append_right, get_or-replicate}
use Rattle.std.proofs.lemmas.List.FromFn.{length-map-range_with_len, get_or-map-range_with_len, take-map-range_with_len, fill_by_all}
use Rattle.std.proofs.lemmas.Bool.{cases_lt, cases_eq}
use Rattle.std.proofs.lemmas.Bool.Decides.{nat_tests}
use Rattle.cell_strip.specs.declared.region.Region.{Region}
use Rattle.cell_strip.specs.Regions.{covered}
use Rattle.cell_strip.specs.Ownership.{kept, merged, or_else}
use Rattle.cell_strip.specs.Strips as St
use Rattle.cell_strip.specs.Strips.{Block, Strip, cell, owns, is_there, with_cells, either_cell}
use Rattle.cell_strip.proofs.Slots.{cell_cut, cell_joined, cell_stored, cell_else}
use Rattle.ada_base.specs.Cells.{Cell, Gone, Seen, Mine}
use Rattle.cell_memory.specs.Sight.{Store, Sight, cell_at, value_of, is_mine, is_gone, shown, mine_or, lent_value, table, main_sight, thread_cells, thread_sight, stored, lent_out, taken_back, pushed, popped}
use Rattle.cell_memory.specs.declared.view.Lower.{Lower}
use Rattle.cell_memory.specs.Wholes.{value_or_zero, All, values_of, seen, own_cell, low_cell, cell_of, block_of, sight_of, WholeOf}

pub length-table : (n : ℕ) (f : ℕ → Cell) → length (table n f) ≡ n
length-table n f = length-map-range_with_len f 0 n

pub at-table : (n : ℕ) (f : ℕ → Cell) (x : ℕ) → x < n → get_or (table n f) x Gone ≡ f x
at-table n f x h = get_or-map-range_with_len f 0 n x x Gone h (omega arith)

pub is-table : (xs : List Cell) (n : ℕ) (f : ℕ → Cell) → length xs ≡ n → ((x : ℕ) → x < n → get_or xs x Gone ≡ f x) → xs ≡ table n f
is-table xs n f e h = fill_by_all f xs n Gone e h

pub same-tables : (n m : ℕ) (f g : ℕ → Cell) → n ≡ m → ((x : ℕ) → x < n → f x ≡ g x) → table n f ≡ table m g
same-tables n m f g e h =
    is-table (table n f) m g (length-table n f ∙ e) (λ x lt. let lt' : x < n = omega arith in at-table n f x lt' ∙ h x lt')

pub past : (n : ℕ) (f : ℕ → Cell) (x : ℕ) → n ≤ x → get_or (table n f) x Gone ≡ Gone
past n f x h = get_or_past (table n f) x Gone (omega (arith, length-table n f))

-- a cell that is there lies within
pub within : (n : ℕ) (f : ℕ → Cell) (x : ℕ) → is_gone (get_or (table n f) x Gone) ≡ false → x < n
within n f x e = elim (cases_lt x n) [ inl h ↦ h | inr h ↦ let p = past n f x h in cc ]

pub set_is : (n : ℕ) (f g : ℕ → Cell) (at : ℕ) (c : Cell) → at < n → g at ≡ c → ((x : ℕ) → x ≢ at → g x ≡ f x) → table n g ≡ set (table n f) at c
set_is n f g at c lt here others =
    sym (is-table (set (table n f) at c) n g (length-set (table n f) at c ∙ length-table n f) (λ x h.
    elim (cases_eq x at) as (λ _. get_or (set (table n f) at c) x Gone ≡ g x) [
      | inl e ↦ ap (λ y. get_or (set (table n f) at c) y Gone) e ∙ get_or-set_same (table n f) at c Gone (omega (arith, length-table n f)) ∙ sym here ∙ ap g (sym e)
      | inr ne ↦ get_or-set_other (table n f) at x c Gone ne ∙ at-table n f x h ∙ sym (others x ne)
    ]))

pub mine_seen : (c : Cell) → is_mine c ≡ true → is_gone c ≡ false
mine_seen Gone e = cc
mine_seen (Seen v) e = cc
mine_seen (Mine v) e = refl

pub same_sight : (s t : Sight) → s.cells ≡ t.cells → s.own ≡ t.own → s.spare ≡ t.spare → s.home ≡ t.home → s.held ≡ t.held → s ≡ t
same_sight s t a b c d e = λ i. record { cells = a i; own = b i; spare = c i; home = d i; held = e i }

module _ (low : Option Lower) (base : ℕ) (own : Strip) (len : ℕ) where
  abbrev S : Sight
  S = sight_of low base own len

  pub own_of : (x : ℕ) → base ≤ x → cell_of low base own x ≡ own_cell own (x - base)
  own_of x le = let e : ltb x base ≡ false = grind (arith, nat_tests) in ap (λ b. cond b (low_cell low x) (own_cell own (x - base))) e

  pub low_of : (x : ℕ) → x < base → cell_of low base own x ≡ low_cell low x
  low_of x lt = let e : ltb x base ≡ true = grind (arith, nat_tests) in ap (λ b. cond b (low_cell low x) (own_cell own (x - base))) e

  pub own_at : (x : ℕ) → x < base + len → base ≤ x → cell_at S x ≡ own_cell own (x - base)
  own_at x lt le = at-table (base + len) (cell_of low base own) x lt ∙ own_of x le

  pub low_at : (x : ℕ) → x < base → cell_at S x ≡ low_cell low x
  low_at x lt = at-table (base + len) (cell_of low base own) x (omega arith) ∙ low_of x lt

  there : (o : Option ℤ) → is_gone (mine_or o Gone) ≡ false → is_there o ≡ true
  there None e = cc
  there (Some v) e = refl

  -- a cell of its own that is there
  pub own_there : (x : ℕ) → is_gone (cell_at S x) ≡ false → base ≤ x → owns own (x - base) ≡ true
  own_there x e le = there (cell own (x - base)) (ap is_gone (sym (own_at x (within (base + len) (cell_of low base own) x e) le)) ∙ e)

  pub own_value : (x : ℕ) (v : ℤ) → is_gone (cell_at S x) ≡ false → base ≤ x → cell own (x - base) ≡ Some v → v ≡ value_of (cell_at S x)
  own_value x v e le is = sym (ap value_of (own_at x (within (base + len) (cell_of low base own) x e) le ∙ ap (λ o. mine_or o Gone) is))

  pub set_own : (x : ℕ) (v : ℤ) → is_gone (cell_at S x) ≡ false → base ≤ x → sight_of low base (St.stored own (x - base) v) len ≡ stored S x v
  set_own x v e le =
      let o = own_there x e le in
      let lt = within (base + len) (cell_of low base own) x e in
      same_sight (sight_of low base (St.stored own (x - base) v) len) (stored S x v)
      (set_is (base + len) (cell_of low base own) (cell_of low base (St.stored own (x - base) v)) x (Mine v) lt
      (own_of' (x) le ∙ ap (λ o. mine_or o Gone) (cell_stored own (x - base) v o))
      (λ y ne. elim (cases_lt y base) as (λ _. cell_of low base (St.stored own (x - base) v) y ≡ cell_of low base own y) [
        | inl b ↦ low_of' y b ∙ sym (low_of y b)
        | inr b ↦ own_of' y b ∙ ap (λ o. mine_or o Gone) (cell_else own (x - base) (y - base) v (λ same. ne (omega (arith, same)))) ∙ sym (own_of y b)
      ]))
      refl refl refl refl where
        own_of' : (y : ℕ) → base ≤ y → cell_of low base (St.stored own (x - base) v) y ≡ own_cell (St.stored own (x - base) v) (y - base)
        own_of' y le = let e : ltb y base ≡ false = grind (arith, nat_tests) in ap (λ b. cond b (low_cell low y) (own_cell (St.stored own (x - base) v) (y - base))) e

        low_of' : (y : ℕ) → y < base → cell_of low base (St.stored own (x - base) v) y ≡ low_cell low y
        low_of' y lt = let e : ltb y base ≡ true = grind (arith, nat_tests) in ap (λ b. cond b (low_cell low y) (own_cell (St.stored own (x - base) v) (y - base))) e

either_there : (a b : Option ℤ) → is_gone (mine_or a (seen b)) ≡ false → is_there (or_else a b) ≡ true
either_there None None e = cc
either_there None (Some v) e = refl
either_there (Some v) b e = refl

either_value : (a b : Option ℤ) (v : ℤ) → or_else a b ≡ Some v → v ≡ value_of (mine_or a (seen b))
either_value None None v e = cc
either_value None (Some w) v e = cc
either_value (Some w) b v e = cc

lent_there : (a b : Option ℤ) → is_mine (mine_or a (seen b)) ≡ true → is_there a ≡ true
lent_there None None e = cc
lent_there None (Some v) e = cc
lent_there (Some v) b e = refl

module _ (l : Lower) (base : ℕ) (own : Strip) (len : ℕ) where
  abbrev T : Sight
  T = sight_of (Some l) base own len

  pub low_there : (x : ℕ) → is_gone (cell_at T x) ≡ false → x < base → is_there (either_cell l.lent l.outer.now x) ≡ true
  low_there x e lt = either_there (cell l.lent x) (cell l.outer.now x) (ap is_gone (sym (low_at (Some l) base own len x lt)) ∙ e)

  pub low_value : (x : ℕ) (v : ℤ) → x < base → either_cell l.lent l.outer.now x ≡ Some v → v ≡ value_of (cell_at T x)
  low_value x v lt is = either_value (cell l.lent x) (cell l.outer.now x) v is ∙ sym (ap value_of (low_at (Some l) base own len x lt))

  pub low_owns : (x : ℕ) → is_mine (cell_at T x) ≡ true → x < base → owns l.lent x ≡ true
  low_owns x e lt = lent_there (cell l.lent x) (cell l.outer.now x) (ap is_mine (sym (low_at (Some l) base own len x lt)) ∙ e)

  pub set_low : (x : ℕ) (v : ℤ) → is_mine (cell_at T x) ≡ true → x < base → sight_of (Some (record l { lent = St.stored l.lent x v })) base own len ≡ stored T x v
  set_low x v e lt =
      let o = low_owns x e lt in let m : Lower = record l { lent = St.stored l.lent x v } in
      same_sight (sight_of (Some m) base own len) (stored T x v)
      (set_is (base + len) (cell_of (Some l) base own) (cell_of (Some m) base own) x (Mine v) (omega arith)
      (low_of (Some m) base own len x lt ∙ ap (λ o. mine_or o (seen (cell l.outer.now x))) (cell_stored l.lent x v o))
      (λ y ne. elim (cases_lt y base) as (λ _. cell_of (Some m) base own y ≡ cell_of (Some l) base own y) [
        | inl b ↦ low_of (Some m) base own len y b ∙ ap (λ o. mine_or o (seen (cell l.outer.now y))) (cell_else l.lent x y v (λ same. ne (sym same))) ∙ sym (low_of (Some l) base own len y b)
        | inr b ↦ own_of (Some m) base own len y b ∙ sym (own_of (Some l) base own len y b)
      ]))
      refl refl refl refl

-- what the view is said to be
module _ (low : Option Lower) (base : ℕ) (own : Strip) (len : ℕ) (s : Sight) (is : sight_of low base own len ≡ s) where
  pub seen_there : (x : ℕ) → is_gone (cell_at s x) ≡ false → is_gone (cell_at (sight_of low base own len) x) ≡ false
  seen_there x e = subst (λ t. is_gone (cell_at t x) ≡ false) (sym is) e

  pub mine_there : (x : ℕ) → is_mine (cell_at s x) ≡ true → is_mine (cell_at (sight_of low base own len) x) ≡ true
  mine_there x e = subst (λ t. is_mine (cell_at t x) ≡ true) (sym is) e

  pub either_in : (l : Lower) (x : ℕ) → low ≡ Some l → is_gone (cell_at s x) ≡ false → x < base → is_there (either_cell l.lent l.outer.now x) ≡ true
  either_in l x e g lt = low_there l base own len x (subst (λ o. is_gone (cell_at (sight_of o base own len) x) ≡ false) e (seen_there x g)) lt

  pub either_read : (l : Lower) (x : ℕ) (v : ℤ) → low ≡ Some l → x < base → either_cell l.lent l.outer.now x ≡ Some v → v ≡ value_of (cell_at s x)
  either_read l x v e lt is' = low_value l base own len x v lt is' ∙ sym (ap (λ o. value_of (cell_at (sight_of o base own len) x)) e) ∙ ap (λ t. value_of (cell_at t x)) is

  pub owns_low : (l : Lower) (x : ℕ) → low ≡ Some l → is_mine (cell_at s x) ≡ true → x < base → owns l.lent x ≡ true
  owns_low l x e g lt = low_owns l base own len x (subst (λ o. is_mine (cell_at (sight_of o base own len) x) ≡ true) e (mine_there x g)) lt

  pub low_set : (l : Lower) (x : ℕ) (v : ℤ) (p : Strip) → low ≡ Some l → is_mine (cell_at s x) ≡ true → x < base → p ≡ St.stored l.lent x v → sight_of (Some (record l { lent = p })) base own len ≡ stored s x v
  low_set l x v p e g lt n =
      ap (λ q. sight_of (Some (record l { lent = q })) base own len) n
      ∙ set_low l base own len x v (subst (λ o. is_mine (cell_at (sight_of o base own len) x) ≡ true) e (mine_there x g)) lt
      ∙ sym (ap (λ o. stored (sight_of o base own len) x v) e) ∙ ap (λ t. stored t x v) is

  pub own_set : (x : ℕ) (v : ℤ) (p : Strip) → is_mine (cell_at s x) ≡ true → base ≤ x → p ≡ St.stored own (x - base) v → sight_of low base p len ≡ stored s x v
  own_set x v p g le n = ap (λ q. sight_of low base q len) n ∙ set_own low base own len x v (mine_seen _ (mine_there x g)) le ∙ ap (λ t. stored t x v) is

  none_held : s.held ≡ None → low ≡ None
  none_held e = from low (ap (λ t. t.held) is ∙ e) where
    from : (o : Option Lower) → block_of o ≡ None → o ≡ None
    from None h = refl
    from (Some l) h = cc

  module _ (w : WholeOf low base own len) (main : s.held ≡ None) where
    flat : base ≡ 0
    flat = w.alone (none_held main)

    pub length_is : length s.cells ≡ len
    length_is = ap (λ t. length t.cells) (sym is) ∙ length-table (base + len) (cell_of low base own) ∙ (let e = flat in omega arith)

    -- a main view's cells are its own
    pub main_cell : (x : ℕ) → x < len → cell_at s x ≡ own_cell own x
    main_cell x lt =
        let e = flat in ap (λ t. cell_at t x) (sym is) ∙ own_at low base own len x (omega arith) (omega arith) ∙ ap (λ k. own_cell own k) (omega arith)

    -- it has the cells of another part of the block in place of these
    pub other_part : (p : Strip) (f : ℕ → Cell) → p.block ≡ own.block → ((x : ℕ) → x < len → own_cell p x ≡ f x) → sight_of low base p len ≡ record s { cells = table (length s.cells) f }
    other_part p f b h =
        let e = flat in
        same_sight (sight_of low base p len) (record s { cells = table (length s.cells) f })
        (same-tables (base + len) (length s.cells) (cell_of low base p) f (omega (arith, length_is)) (λ x lt. own_of low base p len x (omega arith) ∙ ap (λ k. own_cell p k) (omega arith) ∙ h x (omega arith)))
        (ap (λ t. t.own) is) (ap (λ k. k.many - len) b ∙ ap (λ t. t.spare) is) (b ∙ ap (λ t. t.home) is) (ap (λ t. t.held) is)

    -- ---- lending
    taken_cell : (y : Bool) (o : Option ℤ) → mine_or (cond (not y) o None) Gone ≡ cond y Gone (mine_or o Gone)
    taken_cell true o = refl
    taken_cell false o = refl

    pub take_view : (rs : List Region) (p : Strip) → p ≡ with_cells own (kept (λ x. not (covered rs x)) 0 own.cells) → sight_of low base p len ≡ lent_out s rs
    take_view rs p n =
        other_part p (λ x. cond (covered rs x) Gone (cell_at s x)) (ap (λ q. q.block) n) (λ x lt.
        ap (λ q. own_cell q x) n ∙ ap (λ o. mine_or o Gone) (cell_cut own (λ x. not (covered rs x)) x) ∙ taken_cell (covered rs x) (cell own x) ∙ ap (λ c. cond (covered rs x) Gone c) (sym (main_cell x lt)))

    unlent : (o : Option ℤ) → o ≡ lent_value (mine_or o Gone)
    unlent None = refl
    unlent (Some v) = refl

    pub take_cells : (rs : List Region) (p : Strip) → ((x : ℕ) → covered rs x ≡ true → x < length s.cells) → p ≡ with_cells own (kept (covered rs) 0 own.cells) → (x : ℕ) → cell p x ≡ cond (covered rs x) (lent_value (cell_at s x)) None
    take_cells rs p inside n x = ap (λ q. cell q x) n ∙ cell_cut own (covered rs) x ∙ by_case (covered rs x) refl where
      by_case : (y : Bool) → covered rs x ≡ y → cond y (cell own x) None ≡ cond y (lent_value (cell_at s x)) None
      by_case true e = let lt : x < len = subst (λ k. x < k) length_is (inside x e) in unlent (cell own x) ∙ ap lent_value (sym (main_cell x lt))
      by_case false e = refl

    pub take_whole : (rs : List Region) (p : Strip) → ((x : ℕ) → covered rs x ≡ true → x < length s.cells) → p ≡ with_cells own (kept (λ x. not (covered rs x)) 0 own.cells) → WholeOf low base p len
    take_whole rs p inside n = record {
      alone = w.alone;
      one = w.one;
      room = w.room;
      small = subst (λ q. q.block.many < 2 ^ 32) (sym n) w.small;
      within = subst (λ q. len ≤ q.block.many) (sym n) w.within;
      spare = λ x le lt. ap (λ q. is_there (cell q x)) n ∙ ap is_there (cell_cut own (λ x. not (covered rs x)) x) ∙ by_case x le (subst (λ q. x < q.block.many) n lt) (covered rs x) refl;
    } where
      by_case : (x : ℕ) → len ≤ x → x < own.block.many → (y : Bool) → covered rs x ≡ y → is_there (cond (not y) (cell own x) None) ≡ true
      by_case x le lt true e = absurd (omega (arith, inside x e, length_is))
      by_case x le lt false e = w.spare x le lt

    -- ---- taking back
    abbrev pub Either : (l : Strip) (x : ℕ) → Type 0
    Either l x = (cell own x ≡ None) ⊎ (cell l x ≡ None)

    pub put_view : (l p : Strip) → ((x : ℕ) → Either l x) → p ≡ with_cells own (merged own.cells l.cells) → sight_of low base p len ≡ taken_back s l
    put_view l p apart n =
        other_part p (λ x. mine_or (cell l x) (cell_at s x)) (ap (λ q. q.block) n) (λ x lt.
        ap (λ q. own_cell q x) n ∙ ap (λ o. mine_or o Gone) (cell_joined own l x) ∙ union (cell own x) (cell l x) (apart x) ∙ ap (λ c. mine_or (cell l x) c) (sym (main_cell x lt))) where
          union : (a b : Option ℤ) → (a ≡ None) ⊎ (b ≡ None) → mine_or (or_else a b) Gone ≡ mine_or b (mine_or a Gone)
          union None None h = refl
          union None (Some v) h = refl
          union (Some w) None h = refl
          union (Some w) (Some v) h = elim h [ inl e ↦ cc | inr e ↦ cc ]

    pub put_gone : (l : Strip) → ((x : ℕ) → Either l x) → (x : ℕ) (v : ℤ) → x < length s.cells → cell l x ≡ Some v → is_gone (cell_at s x) ≡ true
    put_gone l apart x v lt e = ap is_gone (main_cell x (subst (λ k. x < k) length_is lt)) ∙ by_case (cell own x) (cell l x) (apart x) e where
      by_case : (a b : Option ℤ) → (a ≡ None) ⊎ (b ≡ None) → b ≡ Some v → is_gone (mine_or a Gone) ≡ true
      by_case None b h e = refl
      by_case (Some w) b h e = elim h [ inl f ↦ cc | inr f ↦ cc ]

    pub put_whole : (l p : Strip) → p ≡ with_cells own (merged own.cells l.cells) → WholeOf low base p len
    put_whole l p n = record {
      alone = w.alone;
      one = w.one;
      room = w.room;
      small = subst (λ q. q.block.many < 2 ^ 32) (sym n) w.small;
      within = subst (λ q. len ≤ q.block.many) (sym n) w.within;
      spare = λ x le lt. ap (λ q. is_there (cell q x)) n ∙ ap is_there (cell_joined own l x) ∙ by_case (cell own x) (cell l x) (w.spare x le (subst (λ q. x < q.block.many) n lt));
    } where
      by_case : (a b : Option ℤ) → is_there a ≡ true → is_there (or_else a b) ≡ true
      by_case None b e = cc
      by_case (Some v) b e = refl

-- ---- a new view
value_back : (o : Option ℤ) → is_there o ≡ true → mine_or o Gone ≡ Mine (value_or_zero o)
value_back None e = cc
value_back (Some v) e = refl

-- a whole part's cells
pub part_cell : (p : Strip) → All p → length p.cells ≡ p.block.many → (x : ℕ) → x < length p.cells → get_or (map Mine (values_of p)) x Gone ≡ own_cell p x
part_cell p w long x lt =
    get_or-map Mine (values_of p) x (pos 0) Gone (omega (arith, length-map p.cells value_or_zero)) ∙ ap Mine (get_or-map value_or_zero p.cells x None (pos 0) lt) ∙ sym (value_back (cell p x) (w x (omega (arith, long))))

length-values : (p : Strip) → length (map Mine (values_of p)) ≡ length p.cells
length-values p = length-map (values_of p) Mine ∙ length-map p.cells value_or_zero

pub main_is : (p : Strip) (len : ℕ) (m : Store) → record { home = p.block; values = values_of p } ≡ m → All p → length p.cells ≡ p.block.many → len ≡ p.block.many → sight_of None 0 p len ≡ main_sight m
main_is p len m is w long e =
    same_sight (sight_of None 0 p len) (main_sight (record { home = p.block; values = values_of p }))
    (sym (is-table (map Mine (values_of p)) (0 + len) (cell_of None 0 p) (length-values p ∙ omega (arith, long, e)) (λ x lt. part_cell p w long x (omega (arith, long, e)) ∙ sym (own_of None 0 p len x (omega arith) ∙ ap (λ k. own_cell p k) (omega arith)))))
    (e ∙ sym long ∙ sym (length-map p.cells value_or_zero)) (omega (arith, e)) refl refl
    ∙ ap main_sight is

shown_own : (o : Option ℤ) → shown (mine_or o Gone) ≡ seen o
shown_own None = refl
shown_own (Some v) = refl

-- the own part of the view around it, its length, and what it lent
module _ (low : Option Lower) (base : ℕ) (outer : Strip) (n : ℕ) (s : Sight) (is : sight_of low base outer n ≡ s) (w : WholeOf low base outer n) (main : s.held ≡ None) where
  pub thread_is : (l : Lower) (b : ℕ) (p : Strip) (len : ℕ) (m : Store) (t : Strip) → l.outer.now ≡ outer → l.lent ≡ t → b ≡ length s.cells → record { home = p.block; values = values_of p } ≡ m → All p → length p.cells ≡ p.block.many → len ≡ p.block.many
      → sight_of (Some l) b p len ≡ thread_sight s t m
  thread_is l b p len m t o lt_is be mis a long e =
      same_sight (sight_of (Some l) b p len) (thread_sight s l.lent (record { home = p.block; values = values_of p }))
      (sym (is-table (thread_cells s.cells l.lent (values_of p)) (b + len) (cell_of (Some l) b p)
      (length-append (table (length s.cells) first) (map Mine (values_of p)) ∙ omega (arith, length-table (length s.cells) first, length-values p, long, e, be)) each))
      (e ∙ sym long ∙ sym (length-map p.cells value_or_zero)) (omega (arith, e)) refl refl
      ∙ (λ i. thread_sight s (lt_is i) (mis i)) where
        first : ℕ → Cell
        first x = mine_or (cell l.lent x) (shown (get_or s.cells x Gone))

        below : (x : ℕ) → x < b → first x ≡ low_cell (Some l) x
        below x lt =
            ap (λ c. mine_or (cell l.lent x) (shown c)) (main_cell low base outer n s is w main x (omega (arith, length_is low base outer n s is w main, be)))
            ∙ ap (λ c. mine_or (cell l.lent x) c) (shown_own (cell outer x)) ∙ ap (λ q. mine_or (cell l.lent x) (seen (cell q x))) (sym o)

        each : (x : ℕ) → x < b + len → get_or (thread_cells s.cells l.lent (values_of p)) x Gone ≡ cell_of (Some l) b p x
        each x lt = elim (cases_lt x b) as (λ _. get_or (thread_cells s.cells l.lent (values_of p)) x Gone ≡ cell_of (Some l) b p x) [
          | inl h ↦ get_or_append_left (table (length s.cells) first) (map Mine (values_of p)) Gone x (omega (arith, length-table (length s.cells) first, be)) ∙ at-table (length s.cells) first x (omega (arith, be)) ∙ below x h ∙ sym (low_of (Some l) b p len x h)
          | inr h ↦ get_or-append_right (table (length s.cells) first) (map Mine (values_of p)) b x Gone (length-table (length s.cells) first ∙ sym be) h ∙ part_cell p a long (x - b) (omega (arith, long, e)) ∙ sym (own_of (Some l) b p len x h)
        ]

pub zeros : (n : ℕ) → map value_or_zero (replicate n (Some (pos 0))) ≡ replicate n (pos 0)
zeros zero = refl
zeros (suc n) = ap (λ l. pos 0 ∷ l) (zeros n)

-- ---- frames, room and what goes back
module _ (low : Option Lower) (base : ℕ) (own : Strip) (len : ℕ) (s : Sight) (is : sight_of low base own len ≡ s) (w : WholeOf low base own len) where
  pub total : length s.cells ≡ base + len
  total = ap (λ t. length t.cells) (sym is) ∙ length-table (base + len) (cell_of low base own)

  pub own_is : s.own ≡ len
  own_is = ap (λ t. t.own) (sym is)

  pub own_within : s.own ≤ length s.cells
  own_within = omega (arith, total, own_is)

  pub lengths : (s.own < 2 ^ 32) × (length s.cells < 2 ^ 33) × (s.held ≡ None → length s.cells < 2 ^ 32)
  lengths = (omega (arith, own_is, w.small, w.within), omega (arith, total, w.room, w.small, w.within), λ e. let f = w.alone (none_held low base own len s is e) in omega (arith, total, w.small, w.within))

  -- of its own cells those that are there are its part's
  pub own_owned : (n : ℕ) → ((x : ℕ) → n ≤ x → x < length s.cells → is_gone (cell_at s x) ≡ false) → (x : ℕ) → n ≤ base + x → x < len → owns own x ≡ true
  own_owned n there x le lt =
      let e : is_gone (cell_at (sight_of low base own len) (base + x)) ≡ false = seen_there low base own len s is (base + x) (there (base + x) le (omega (arith, total))) in
      ap (λ k. owns own k) (omega arith) ∙ own_there low base own len (base + x) e (omega arith)

  pub all_owned : ((x : ℕ) → length s.cells - s.own ≤ x → x < length s.cells → is_gone (cell_at s x) ≡ false) → (x : ℕ) → x < own.block.many → owns own x ≡ true
  all_owned there x lt = elim (cases_lt x len) [ inl h ↦ own_owned (length s.cells - s.own) there x (omega (arith, total, own_is)) h | inr h ↦ w.spare x h lt ]

  -- another part in place of its own
  pub another : (p : Strip) → ((x : ℕ) → x < len → cell p x ≡ cell own x) → table (base + len) (cell_of low base p) ≡ table (base + len) (cell_of low base own)
  another p h =
      same-tables (base + len) (base + len) (cell_of low base p) (cell_of low base own) refl (λ x lt. elim (cases_lt x base) as (λ _. cell_of low base p x ≡ cell_of low base own x) [
        | inl b ↦ low_of low base p len x b ∙ sym (low_of low base own len x b)
        | inr b ↦ own_of low base p len x b ∙ ap (λ o. mine_or o Gone) (h (x - base) (omega arith)) ∙ sym (own_of low base own len x b)
      ])

  pub another_whole : (p : Strip) → len ≤ p.block.many → p.block.many < 2 ^ 32 → ((x : ℕ) → x < p.block.many → owns p x ≡ true) → WholeOf low base p len
  another_whole p le lt o = record { alone = w.alone; one = w.one; room = w.room; small = lt; within = le; spare = λ x k. o x }

  pub pop_whole : (n : ℕ) → n ≤ s.own → ((x : ℕ) → length s.cells - n ≤ x → x < length s.cells → is_gone (cell_at s x) ≡ false) → WholeOf low base own (len - n)
  pop_whole n le there = record {
    alone = w.alone;
    one = w.one;
    room = w.room;
    small = w.small;
    within = omega (arith, w.within);
    spare = λ x k lt. elim (cases_lt x len) [ inl h ↦ own_owned (length s.cells - n) there x (omega (arith, total, own_is)) h | inr h ↦ w.spare x h lt ];
  }

  pub pop_view : (n : ℕ) → n ≤ s.own → sight_of low base own (len - n) ≡ popped s n
  pop_view n le =
      let k : n ≤ len = omega (arith, own_is) in
      same_sight (sight_of low base own (len - n)) (popped (sight_of low base own len) n)
      (ap (λ m. table m (cell_of low base own)) (omega (arith, length-table (base + len) (cell_of low base own))) ∙ sym (take-map-range_with_len (cell_of low base own) 0 (base + len) (length (table (base + len) (cell_of low base own)) - n) (omega (arith, length-table (base + len) (cell_of low base own)))))
      refl (omega (arith, w.within)) refl refl
      ∙ ap (λ t. popped t n) is

  module _ (p : Strip) (n : ℕ) (le : n ≤ s.spare) (b : p.block ≡ own.block) (zero_is : (x : ℕ) → len ≤ x → x < len + n → cell p x ≡ Some (pos 0)) (others : (x : ℕ) → (x < len) ⊎ (len + n ≤ x) → cell p x ≡ cell own x) where
    room_is : len + n ≤ own.block.many
    room_is = let e : s.spare ≡ own.block.many - len = ap (λ t. t.spare) (sym is) in omega (arith, w.within)

    pub push_whole : WholeOf low base p (len + n)
    push_whole = record {
      alone = w.alone;
      one = w.one;
      room = w.room;
      small = subst (λ k. k.many < 2 ^ 32) (sym b) w.small;
      within = subst (λ k. len + n ≤ k.many) (sym b) room_is;
      spare = λ x k lt. ap is_there (others x (inr k)) ∙ w.spare x (omega arith) (subst (λ k. x < k.many) b lt);
    }

    pushed_cell : (x : ℕ) → x < base + (len + n) → get_or (table (base + len) (cell_of low base own) ++ replicate n (Mine (pos 0))) x Gone ≡ cell_of low base p x
    pushed_cell x lt = elim (cases_lt x (base + len)) as (λ _. get_or (table (base + len) (cell_of low base own) ++ replicate n (Mine (pos 0))) x Gone ≡ cell_of low base p x) [
      | inl h ↦ get_or_append_left (table (base + len) (cell_of low base own)) (replicate n (Mine (pos 0))) Gone x (omega (arith, length-table (base + len) (cell_of low base own)))
          ∙ ap (λ l. get_or l x Gone) (sym (another p (λ y k. others y (inl k)))) ∙ at-table (base + len) (cell_of low base p) x h
      | inr h ↦ get_or-append_right (table (base + len) (cell_of low base own)) (replicate n (Mine (pos 0))) (base + len) x Gone (length-table (base + len) (cell_of low base own)) h
          ∙ get_or-replicate n (x - (base + len)) (Mine (pos 0)) Gone (omega arith) ∙ sym (own_of low base p len x (omega arith) ∙ ap (λ o. mine_or o Gone) (zero_is (x - base) (omega arith) (omega arith)))
    ]

    pub push_view : sight_of low base p (len + n) ≡ pushed s n
    push_view =
        same_sight (sight_of low base p (len + n)) (pushed (sight_of low base own len) n)
        (sym (is-table (table (base + len) (cell_of low base own) ++ replicate n (Mine (pos 0))) (base + (len + n)) (cell_of low base p)
        (length-append (table (base + len) (cell_of low base own)) (replicate n (Mine (pos 0))) ∙ omega (arith, length-table (base + len) (cell_of low base own), length-replicate n (Mine (pos 0)))) pushed_cell))
        refl (ap (λ k. k.many - (len + n)) b ∙ (let r = room_is in omega arith)) b refl
        ∙ ap (λ t. pushed t n) is

  back_value : (a b : Option ℤ) → a ≡ lent_value (mine_or a (seen b))
  back_value None None = refl
  back_value None (Some v) = refl
  back_value (Some v) b = refl

  pub gives_none : low ≡ None → s.held ≡ None
  gives_none e = ap (λ t. t.held) (sym is) ∙ ap block_of e

  pub gives_some : (l : Lower) → low ≡ Some l → (s.held ≡ Some l.lent.block) × ((x : ℕ) → x < length s.cells - s.own → cell l.lent x ≡ lent_value (cell_at s x))
  gives_some l e = (
    ap (λ t. t.held) (sym is) ∙ ap block_of e,
    λ x lt. let below : x < base = omega (arith, total, own_is) in
        back_value (cell l.lent x) (cell l.outer.now x) ∙ ap lent_value (sym (ap (λ t. cell_at t x) (sym is) ∙ low_at low base own len x below ∙ ap (λ o. low_cell o x) e)),
  )

-- ---- loops over parts
pub owns_set : (p : Strip) (x y : ℕ) (v : ℤ) → owns p x ≡ true → owns p y ≡ true → owns (St.stored p x v) y ≡ true
owns_set p x y v o h = elim (cases_eq y x) as (λ _. owns (St.stored p x v) y ≡ true) [
  | inl e ↦ ap (λ k. owns (St.stored p x v) k) e ∙ ap is_there (cell_stored p x v o)
  | inr ne ↦ ap is_there (cell_else p x y v (λ e. ne (sym e))) ∙ h
]

-- one more cell is copied
pub copy_more : (p from : Strip) (i : ℕ) (v : ℤ) → owns p i ≡ true → cell from i ≡ Some v → ((x : ℕ) → x < i → cell p x ≡ cell from x) → (x : ℕ) → x < i + 1 → cell (St.stored p i v) x ≡ cell from x
copy_more p from i v o e h x lt = elim (cases_eq x i) as (λ _. cell (St.stored p i v) x ≡ cell from x) [
  | inl q ↦ ap (λ k. cell (St.stored p i v) k) q ∙ cell_stored p i v o ∙ sym e ∙ ap (λ k. cell from k) (sym q)
  | inr ne ↦ cell_else p i x v (λ q. ne (sym q)) ∙ h x (omega arith)
]

-- one more cell is 0
pub clear_more : (p q : Strip) (start i at : ℕ) → at ≡ start + i → owns p at ≡ true → ((x : ℕ) → start ≤ x → x < start + i → cell p x ≡ Some (pos 0)) → ((x : ℕ) → (x < start) ⊎ (start + i ≤ x) → cell p x ≡ cell q x)
    → ((x : ℕ) → start ≤ x → x < start + (i + 1) → cell (St.stored p at (pos 0)) x ≡ Some (pos 0)) × ((x : ℕ) → (x < start) ⊎ (start + (i + 1) ≤ x) → cell (St.stored p at (pos 0)) x ≡ cell q x)
clear_more p q start i at is o z others = (
  λ x le lt. elim (cases_eq x at) as (λ _. cell (St.stored p at (pos 0)) x ≡ Some (pos 0)) [
    | inl e ↦ ap (λ k. cell (St.stored p at (pos 0)) k) e ∙ cell_stored p at (pos 0) o
    | inr ne ↦ cell_else p at x (pos 0) (λ e. ne (sym e)) ∙ z x le (omega arith)
  ],
  λ x h. cell_else p at x (pos 0) (λ e. elim h [ inl b ↦ omega arith | inr b ↦ omega arith ]) ∙ others x (elim h [ inl b ↦ inl b | inr b ↦ inr (omega arith) ]),
)

-- a main view's cells are to write, where they are there
module _ (low : Option Lower) (base : ℕ) (own : Strip) (len : ℕ) (s : Sight) (is : sight_of low base own len ≡ s) (w : WholeOf low base own len) (main : s.held ≡ None) where
  mine_kind : (o : Option ℤ) → is_gone (mine_or o Gone) ≡ false → is_mine (mine_or o Gone) ≡ true
  mine_kind None e = cc
  mine_kind (Some v) e = refl

  pub main_mine : (x : ℕ) → is_gone (cell_at s x) ≡ false → is_mine (cell_at s x) ≡ true
  main_mine x e =
      let lt : x < len = omega (arith, within (base + len) (cell_of low base own) x (seen_there low base own len s is x e), flat low base own len s is w main) in
      let c = main_cell low base own len s is w main x lt in
      ap is_mine c ∙ mine_kind (cell own x) (ap is_gone (sym c) ∙ e)

map-set : (cs : List (Option ℤ)) (x : ℕ) (v : ℤ) → map value_or_zero (set cs x (Some v)) ≡ set (map value_or_zero cs) x v
map-set [] x v = refl
map-set (c ∷ cs) zero v = refl
map-set (c ∷ cs) (suc x) v = ap (λ l. value_or_zero c ∷ l) (map-set cs x v)

-- a cell of a memory
module _ (p q : Strip) (m : Store) (is : record { home = p.block; values = values_of p } ≡ m) (w : All p) (x : ℕ) (v : ℤ) where
  pub store_owns : length p.cells ≡ p.block.many → x < length m.values → owns p x ≡ true
  store_owns long lt = w x (omega (arith, long, ap (λ (t : Store). length t.values) is, length-map p.cells value_or_zero))

  pub store_set : q ≡ St.stored p x v → record { home = q.block; values = values_of q } ≡ record m { values = set m.values x v }
  store_set e = ap (λ (s : Strip). record { home = s.block; values = values_of s }) e ∙ (λ i. record { home = p.block; values = map-set p.cells x v i }) ∙ ap (λ (t : Store). record t { values = set t.values x v }) is

  pub store_whole : owns p x ≡ true → q ≡ St.stored p x v → All q
  store_whole o e = subst All (sym e) (λ y lt. owns_set p x y v o (w y lt))
