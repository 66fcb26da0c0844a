-- The cells of leases, and those of regions.
use Rattle.std.proofs.Common.{◌≡◌, ◌⊎◌, inl, inr, ℕ, suc, ◌+◌, ◌-◌, ◌*◌, ◌<◌, ◌≤◌, ℤ, pos, ◌+ℤ◌, Bool, true, false, ◌||◌, List, [], ◌∷◌, ◌++◌, length, get_or, take, Option, Some, None, arith, refl, sym, ◌∙◌, ap, subst}
use Rattle.std.proofs.lemmas.Int.{ints}
use Rattle.std.specs.Prelude.{◌↔◌}
use Rattle.std.proofs.Math.Nat.{mul-le-mul_right}
use Rattle.std.proofs.Math.Seq.{take-suc}
use Rattle.behaviours.specs.Joins.{Share}
use Rattle.cell_strip.specs.declared.region.Region.{Region}
use Rattle.cell_strip.specs.Regions.{IsIn, covered, empty, has}
use Rattle.cell_strip.proofs.Rows.{in_has, has_in}
use Rattle.stack_code.specs.declared.code.CodeSite.{CodeSite}
use Rattle.stack_code.specs.declared.code.Lease.{Lease}
use Rattle.stack_code.specs.declared.code.SiteKind.{SiteKind}
use Rattle.stack_code.specs.declared.code.SiteKind.TheVariants as kind
use Rattle.stack_code.specs.declared.path.Asked.{Asked}
use Rattle.ada_lower.specs.Lending.{Among, IsLent, IsOfArm, StepsTo, chunk_at, frame_at}
use Rattle.ada_threads.specs.declared.combs.Comb.{Comb}
use Rattle.ada_threads.specs.declared.regions.Span.{Span}
use Rattle.ada_threads.specs.declared.regions.Rows.{Rows}
use Rattle.ada_threads.specs.Areas.{AddsCells, AddsLease, HasCell, Inside, IsFirst, IsRegion, IsSpan, LentBy, SameRows}
use Rattle.ada_threads.specs.Reaching.{Any, LedTo, Reaches}
use Rattle.ada_threads.proofs.Stepping.{any_end}

-- ---- regions
one_true : (a b : Bool) → (a || b) ≡ true → (a ≡ true) ⊎ (b ≡ true)
one_true true b e = inl refl
one_true false b e = inr e

or_right : (a b : Bool) → b ≡ true → (a || b) ≡ true
or_right true b e = refl
or_right false b e = e

or_left : (a b : Bool) → a ≡ true → (a || b) ≡ true
or_left a b e = ap (λ c. c || b) e

none_true : false ≡ true → ⊥
none_true e = cc

covered_more : (r s : Region) (rs ss : List Region) (x : ℕ) → (covered ss x ≡ true) ↔ ((covered rs x ≡ true) ⊎ (has s x ≡ true)) → (covered (r ∷ ss) x ≡ true) ↔ ((covered (r ∷ rs) x ≡ true) ⊎ (has s x ≡ true))
covered_more r s rs ss x h = (to, from)
  where
    to : (has r x || covered ss x) ≡ true → ((has r x || covered rs x) ≡ true) ⊎ (has s x ≡ true)
    to e = elim (one_true (has r x) (covered ss x) e) [
      | inl f ↦ inl (or_left (has r x) (covered rs x) f)
      | inr f ↦ elim (h.0 f) [ inl g ↦ inl (or_right (has r x) (covered rs x) g) | inr g ↦ inr g ]
    ]

    from : ((has r x || covered rs x) ≡ true) ⊎ (has s x ≡ true) → (has r x || covered ss x) ≡ true
    from (inl e) = elim (one_true (has r x) (covered rs x) e) [ inl f ↦ or_left (has r x) (covered ss x) f | inr f ↦ or_right (has r x) (covered ss x) (h.1 (inl f)) ]
    from (inr e) = or_right (has r x) (covered ss x) (h.1 (inr e))

covered_end : (rs : List Region) (s : Region) (x : ℕ) → (covered (rs ++ s ∷ []) x ≡ true) ↔ ((covered rs x ≡ true) ⊎ (has s x ≡ true))
covered_end [] s x = (to, from)
  where
    to : (has s x || false) ≡ true → (false ≡ true) ⊎ (has s x ≡ true)
    to e = elim (one_true (has s x) false e) [ inl f ↦ inr f | inr f ↦ inl f ]

    from : (false ≡ true) ⊎ (has s x ≡ true) → (has s x || false) ≡ true
    from (inl e) = absurd (none_true e)
    from (inr e) = or_left (has s x) false e
covered_end (r ∷ rs) s x = covered_more r s rs (rs ++ s ∷ []) x (covered_end rs s x)

-- ---- a comb and its region
pub one_row : (b : Comb) → 0 < b.count → (b.count ≡ 1) ⊎ (b.stride ≡ 0) → SameRows b (record { count = 1; stride = 0 })
one_row b some (inl e) = (
  omega arith,
  λ n. (
    λ h. (0, omega arith, (let z : h.0 ≡ 0 = omega (arith, e, h.1) in h.2 ∙ ap (λ a. a * b.stride) z ∙ (let y : 0 * b.stride ≡ 0 * 0 = omega arith in y))),
    λ h. (0, some, (let z : h.0 * 0 ≡ 0 * b.stride = omega arith in h.2 ∙ z)),
  ),
)
one_row b some (inr e) = (
  omega arith,
  λ n. (
    λ h. (0, omega arith, (let z : h.0 * 0 ≡ 0 * 0 = omega arith in h.2 ∙ ap (λ s. h.0 * s) e ∙ z)),
    λ h. (0, some, (let z : h.0 * 0 ≡ 0 * b.stride = omega arith in h.2 ∙ z)),
  ),
)

pub all_rows : (b : Comb) → 0 < b.count → SameRows b (record { count = b.count; stride = b.stride })
all_rows b some = (some, λ n. (λ h. h, λ h. h))

pub no_region : (b : Comb) (run many : ℕ) → (b.count ≡ 0) ⊎ (run ≡ 0) → IsRegion b run many empty
no_region b run many over x = ((λ h. absurd (none_in (has_in empty x h)), λ h. absurd (none_had over h)), λ h. absurd (none_in (has_in empty x h)))
  where
    none_in : IsIn empty x → ⊥
    none_in i = omega (arith, i.2)

    none_had : (b.count ≡ 0) ⊎ (run ≡ 0) → HasCell run x b → ⊥
    none_had (inl e) h = omega (arith, e, h.1)
    none_had (inr e) h = omega (arith, e, h.2.1)

pub a_region : (b : Comb) (run many : ℕ) (rows : Rows) (r : Region) (last end : ℕ) → SameRows b rows → r.base ≡ b.at → r.count ≡ rows.count → r.stride ≡ rows.stride → r.run ≡ run
    → last ≡ b.at + (rows.count - 1) * rows.stride → end ≡ last + 1 * run → end ≤ many → IsRegion b run many r
a_region b run many rows r last end same base count stride long last_is end_is within x = ((to, from), inside)
  where
    cell : (n k : ℕ) → r.base + n + k ≡ b.at + n + k
    cell n k = ap (λ m. m + n + k) base

    to : has r x ≡ true → HasCell run x b
    to h =
        let i = has_in r x h in
        let f = (same.1 (i.0 * r.stride)).1 (i.0, omega (arith, i.2, count), ap (λ s. i.0 * s) stride) in
        (f.0, f.1, (i.1, omega (arith, i.3, long), i.4 ∙ cell (i.0 * r.stride) i.1 ∙ ap (λ n. b.at + n + i.1) f.2))

    from : HasCell run x b → has r x ≡ true
    from (a, lt, (k, short, e)) =
        let f = (same.1 (a * b.stride)).0 (a, lt, refl) in
        in_has r x (f.0, k, omega (arith, f.1, count), omega (arith, short, long), e ∙ ap (λ n. b.at + n + k) (f.2 ∙ ap (λ s. f.0 * s) (sym stride)) ∙ sym (cell (f.0 * r.stride) k))

    inside : has r x ≡ true → x < many
    inside h =
        let i = has_in r x h in
        let f = mul-le-mul_right {m = i.0} {n = rows.count - 1} rows.stride (omega (arith, i.2, count)) in
        let e : x ≡ b.at + i.0 * rows.stride + i.1 = i.4 ∙ cell (i.0 * r.stride) i.1 ∙ ap (λ s. b.at + i.0 * s + i.1) stride in
        omega (arith, e, f, i.3, long, last_is, end_is, within)

-- ---- regions of combs
pub cells_none : (run many : ℕ) (old : List Region) → AddsCells run many [] old old
cells_none run many old = (λ x. (λ h. inl h, from x), λ h. h)
  where
    from : (x : ℕ) → (covered old x ≡ true) ⊎ ⊥ → covered old x ≡ true
    from x (inl h) = h
    from x (inr h) = absurd h

pub cells_on : (run many : ℕ) (bs : List Comb) (k : ℕ) (d : Comb) (old now next : List Region) (r : Region) → k < length bs → AddsCells run many (take k bs) old now → IsRegion (get_or bs k d) run many r → next ≡ now ++ r ∷ [] → AddsCells run many (take (k + 1) bs) old next
cells_on run many bs k d old now next r lt so is e =
    subst (λ l. AddsCells run many l old next) (sym (ap (λ n. take n bs) (let f : k + 1 ≡ suc k = omega arith in f) ∙ take-suc bs k d lt)) (subst (λ l. AddsCells run many (take k bs ++ get_or bs k d ∷ []) old l) (sym e) all)
  where
    to : (x : ℕ) → covered (now ++ r ∷ []) x ≡ true → (covered old x ≡ true) ⊎ Any (HasCell run x) (take k bs ++ get_or bs k d ∷ [])
    to x h = elim ((covered_end now r x).0 h) [
      | inl f ↦ elim ((so.0 x).0 f) [ inl g ↦ inl g | inr g ↦ inr ((any_end (HasCell run x) (take k bs) (get_or bs k d)).1 (inl g)) ]
      | inr f ↦ inr ((any_end (HasCell run x) (take k bs) (get_or bs k d)).1 (inr ((is x).0.0 f)))
    ]

    from : (x : ℕ) → (covered old x ≡ true) ⊎ Any (HasCell run x) (take k bs ++ get_or bs k d ∷ []) → covered (now ++ r ∷ []) x ≡ true
    from x (inl h) = (covered_end now r x).1 (inl ((so.0 x).1 (inl h)))
    from x (inr h) = elim ((any_end (HasCell run x) (take k bs) (get_or bs k d)).0 h) [
      | inl f ↦ (covered_end now r x).1 (inl ((so.0 x).1 (inr f)))
      | inr f ↦ (covered_end now r x).1 (inr ((is x).0.1 f))
    ]

    inside : Inside many old → Inside many (now ++ r ∷ [])
    inside h x c = elim ((covered_end now r x).0 c) [ inl f ↦ so.1 h x f | inr f ↦ (is x).1 f ]

    all : AddsCells run many (take k bs ++ get_or bs k d ∷ []) old (now ++ r ∷ [])
    all = (λ x. (to x, from x), inside)

-- ---- iterations of an arm
pub span_whole : (kind : SiteKind) (arm : ℕ) (j : Share) (s : Span) → ((i : ℕ) → IsOfArm kind i arm) → s ≡ record { first = j.first; count = j.size } → IsSpan kind arm j s
span_whole kind arm j s of e = subst (λ s. IsSpan kind arm j s) (sym e) (λ i. (λ h. (h.0, h.1, of i), λ h. (h.0, h.1)))

pub span_none : (arms arm : ℕ) (j : Share) → (arm < j.first) ⊎ (j.first + j.size ≤ arm) → IsSpan (kind.Block arms) arm j (record { first = 0; count = 0 })
span_none arms arm j out i = (λ h. absurd (omega (arith, h.1)), λ h. absurd (none out h.0 h.1 h.2))
  where
    none : (arm < j.first) ⊎ (j.first + j.size ≤ arm) → j.first ≤ i → i < j.first + j.size → i ≡ arm → ⊥
    none (inl f) low high e = omega (arith, f, low, e)
    none (inr f) low high e = omega (arith, f, high, e)

pub span_one : (arms arm : ℕ) (j : Share) → j.first ≤ arm → arm < j.first + j.size → IsSpan (kind.Block arms) arm j (record { first = arm; count = 1 })
span_one arms arm j low high i = (λ h. (omega (arith, h.0, low), omega (arith, h.1, high), omega (arith, h.0, h.1)), λ h. (omega (arith, h.2), omega (arith, h.2)))

-- ---- a lease
any_from : (chunk : ℤ) (run x : ℕ) (bs : List Comb) → Any (HasCell run x) bs → (o : ℕ) × (k : ℕ) × Any (Reaches chunk [] o) bs × (k < run) × (x ≡ o + k)
any_from chunk run x [] h = absurd h
any_from chunk run x (b ∷ bs) (inl (a, lt, (k, short, e))) = (b.at + a * b.stride, k, inl (a, lt, refl), short, e)
any_from chunk run x (b ∷ bs) (inr h) = let r = any_from chunk run x bs h in (r.0, r.1, inr r.2, r.3, r.4)

any_to : (chunk : ℤ) (run x o k : ℕ) (bs : List Comb) → Any (Reaches chunk [] o) bs → k < run → x ≡ o + k → Any (HasCell run x) bs
any_to chunk run x o k [] h short e = absurd h
any_to chunk run x o k (b ∷ bs) (inl (a, lt, at)) short e = inl (a, lt, (k, short, e ∙ ap (λ n. n + k) at))
any_to chunk run x o k (b ∷ bs) (inr h) short e = inr (any_to chunk run x o k bs h short e)

module _ (site : CodeSite) (q : Asked) (sees : List ℕ) (j : Share) (l : Lease) where
  none_lent : frame_at sees l.frame ≡ None → (x : ℕ) → LentBy site q sees j x l → ⊥
  none_lent none x (i, low, high, (arm, lies)) = some_none (sym none ∙ lies.1)
    where
      some_none : ◌≡◌ {A = Option ℕ} None (Some lies.0) → ⊥
      some_none e = cc

  pub lease_none : (many : ℕ) (old : List Region) → frame_at sees l.frame ≡ None → AddsLease site q sees many j l old old
  lease_none many old none = (λ x. (λ h. inl h, from x), λ h. h)
    where
      from : (x : ℕ) → (covered old x ≡ true) ⊎ LentBy site q sees j x l → covered old x ≡ true
      from x (inl h) = h
      from x (inr h) = absurd (none_lent none x h)

  -- none of the thread's iterations has the lease
  pub lease_out : (many : ℕ) (old : List Region) (s : Span) → IsSpan site.kind l.arm j s → s.count ≡ 0 → AddsLease site q sees many j l old old
  lease_out many old s span empty = (λ x. (λ h. inl h, from x), λ h. h)
    where
      from : (x : ℕ) → (covered old x ≡ true) ⊎ LentBy site q sees j x l → covered old x ≡ true
      from x (inl h) = h
      from x (inr (i, low, high, (arm, lies))) = let h = (span i).1 (low, high, arm) in absurd (omega (arith, h.0, h.1, empty))

  module _ (s : Span) (base : ℕ) (b : Comb) (bs : List Comb) (frame : frame_at sees l.frame ≡ Some base) (span : IsSpan site.kind l.arm j s) (first : IsFirst q l s base b) (led : LedTo (chunk_at site.kind q j.number) l.steps b bs) where
    abbrev chunk : ℤ
    chunk = chunk_at site.kind q j.number

    place : (a : ℕ) → b.at + a * b.stride ≡ base + l.base
    place a = ap (λ n. b.at + a * n) first.stride ∙ (let z : b.at + a * 0 ≡ b.at = omega arith in z) ∙ first.at

    value : (a : ℕ) → b.value +ℤ pos a ≡ q.first +ℤ pos (s.first + a)
    value a = let e = first.value in omega (arith, ints, e)

    lent_to : (x : ℕ) → Any (HasCell l.run x) bs → LentBy site q sees j x l
    lent_to x h =
        let r = any_from chunk l.run x bs h in
        let t = (led r.0).0 r.2 in
        let i = s.first + t.0 in
        let inside = (span i).0 (omega arith, omega (arith, t.1, first.count)) in (
          i,
          inside.0,
          inside.1,
          (
            inside.2,
            (
              base,
              frame,
              (
                r.0,
                r.1,
                subst (λ v. StepsTo v chunk l.steps (base + l.base) r.0) (value t.0) (subst (λ n. StepsTo (b.value +ℤ pos t.0) chunk l.steps n r.0) (place t.0) t.2),
                r.3,
                r.4,
              ),
            ),
          ),
        )

    some_same : (m n : ℕ) → ◌≡◌ {A = Option ℕ} (Some m) (Some n) → m ≡ n
    some_same m n e = cc

    lent_from : (x : ℕ) → LentBy site q sees j x l → Any (HasCell l.run x) bs
    lent_from x (i, low, high, (arm, (base', frame', (o, k, steps, short, e)))) =
        let inside = (span i).1 (low, high, arm) in
        let a = i - s.first in
        let at : s.first + a ≡ i = omega (arith, inside.0) in
        let same : base' ≡ base = some_same base' base (sym frame' ∙ frame) in
        let t : StepsTo (b.value +ℤ pos a) chunk l.steps (b.at + a * b.stride) o =
        subst (λ v. StepsTo v chunk l.steps (b.at + a * b.stride) o) (sym (value a ∙ ap (λ n. q.first +ℤ pos n) at))
        (subst (λ n. StepsTo (q.first +ℤ pos i) chunk l.steps n o) (ap (λ n. n + l.base) same ∙ sym (place a)) steps) in
        any_to chunk l.run x o k bs ((led o).1 (a, omega (arith, inside.0, inside.1, first.count), t)) short e

    pub lease_some : (many : ℕ) (old new : List Region) → AddsCells l.run many bs old new → AddsLease site q sees many j l old new
    lease_some many old new adds = (λ x. (to x, from x), adds.1)
      where
        to : (x : ℕ) → covered new x ≡ true → (covered old x ≡ true) ⊎ LentBy site q sees j x l
        to x h = elim ((adds.0 x).0 h) [ inl f ↦ inl f | inr f ↦ inr (lent_to x f) ]

        from : (x : ℕ) → (covered old x ≡ true) ⊎ LentBy site q sees j x l → covered new x ≡ true
        from x (inl h) = (adds.0 x).1 (inl h)
        from x (inr h) = (adds.0 x).1 (inr (lent_from x h))

-- ---- leases one after the other
module _ (site : CodeSite) (q : Asked) (sees : List ℕ) (many : ℕ) (j : Share) where
  -- so far the regions have what these leases lend
  abbrev pub Covers : List Lease → List Region → Type 0
  Covers ls rs = ((x : ℕ) → (covered rs x ≡ true) ↔ Any (LentBy site q sees j x) ls) × Inside many rs

  pub covers_none : Covers [] []
  covers_none = (λ x. (λ e. none_true e, λ h. absurd h), λ x e. absurd (none_true e))

  pub covers_on : (ls : List Lease) (k : ℕ) (d : Lease) (now next : List Region) → k < length ls → Covers (take k ls) now → AddsLease site q sees many j (get_or ls k d) now next → Covers (take (k + 1) ls) next
  covers_on ls k d now next lt so adds = subst (λ l. Covers l next) (sym (ap (λ n. take n ls) (let e : k + 1 ≡ suc k = omega arith in e) ∙ take-suc ls k d lt)) (λ x. (to x, from x), adds.1 so.1)
    where
      to : (x : ℕ) → covered next x ≡ true → Any (LentBy site q sees j x) (take k ls ++ get_or ls k d ∷ [])
      to x h = (any_end (LentBy site q sees j x) (take k ls) (get_or ls k d)).1 (elim ((adds.0 x).0 h) [ inl f ↦ inl ((so.0 x).0 f) | inr f ↦ inr f ])

      from : (x : ℕ) → Any (LentBy site q sees j x) (take k ls ++ get_or ls k d ∷ []) → covered next x ≡ true
      from x h = (adds.0 x).1 (elim ((any_end (LentBy site q sees j x) (take k ls) (get_or ls k d)).0 h) [ inl f ↦ inl ((so.0 x).1 f) | inr f ↦ inr f ])

  among_any : (x : ℕ) (ls : List Lease) → Any (LentBy site q sees j x) ls → (l : Lease) × Among l ls × LentBy site q sees j x l
  among_any x [] h = absurd h
  among_any x (l ∷ ls) (inl h) = (l, inl refl, h)
  among_any x (l ∷ ls) (inr h) = let r = among_any x ls h in (r.0, inr r.1, r.2)

  any_among : (x : ℕ) (ls : List Lease) (l : Lease) → Among l ls → LentBy site q sees j x l → Any (LentBy site q sees j x) ls
  any_among x [] l a h = absurd a
  any_among x (m ∷ ls) l (inl e) h = inl (subst (λ l. LentBy site q sees j x l) e h)
  any_among x (m ∷ ls) l (inr a) h = inr (any_among x ls l a h)

  pub lent_all : (rs : List Region) → Covers site.leases rs → (x : ℕ) → (covered rs x ≡ true) ↔ IsLent site q sees j x
  lent_all rs so x = (to, from)
    where
      to : covered rs x ≡ true → IsLent site q sees j x
      to h = let r = among_any x site.leases ((so.0 x).0 h) in (r.2.0, r.2.1, r.2.2, (r.0, r.1, r.2.3.0, r.2.3.1))

      from : IsLent site q sees j x → covered rs x ≡ true
      from (i, low, high, (l, among, arm, lies)) = (so.0 x).1 (any_among x site.leases l among (i, low, high, (arm, lies)))

-- an item of the same list
pub item_same : {A : Type 0} (xs ys : List A) (k : ℕ) (d x : A) → x ≡ get_or xs k d → xs ≡ ys → x ≡ get_or ys k d
item_same xs ys k d x e same = e ∙ ap (λ l. get_or l k d) same
