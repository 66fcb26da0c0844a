-- Ways and their steps.
use Rattle.std.proofs.Common.{◌≡◌, ℕ, ◌+◌, ◌-◌, ◌*◌, ℤ, ◌-ℤ◌, List, [], ◌∷◌, ◌++◌, length, take, Option, Some, None, Bool, true, false, cond, map, refl, sym, ap, ◌∙◌, subst, arith, true≢false, append_assoc, append-nil}
use Rattle.std.proofs.lemmas.List.{length-append}
use Rattle.std.proofs.lemmas.Option.{none-some}
use Rattle.std.proofs.Math.Seq.{take-append_seam}
use Rattle.ada_meaning.specs.Shapes.{Shape, Single, Record, NoShape, size}
use Rattle.check_clashes.specs.declared.effects.Selector as clash
use Rattle.check_effects.specs.Effects.{Selector, At, Fixed, LoopIndex, ChunkIndex, Any}
use Rattle.check_inference.specs.Exact.{plain}
use Rattle.stack_code.specs.declared.code.Step.{Step}
use Rattle.stack_code.specs.declared.code.Step.TheVariants as step
use Rattle.ada_lower.specs.Leases.{Place, All, Loop, ByChunk, Way, also, at_any, at_item, in_field, is_row, step_of, steps_of, way_of}
use Rattle.ada_lower.proofs.LeaseRuns.{is_row_of, row_is}
use Rattle.ada_meaning.specs.Values.{count, to_nat}
use Rattle.typed_tree.specs.declared.typed.Typed.{Typed}
use Rattle.lower_leases.specs.Paths.{dimension_shape, here, item_steps, part_shape, path_by, path_found}
use Rattle.lower_leases.specs.declared.paths.End.{End}
use Rattle.lower_leases.specs.declared.paths.Indexed.{Indexed}
use Rattle.lower_leases.specs.declared.paths.Path.{Path}
use Rattle.lower_leases.specs.declared.paths.Reached.{Reached}
use Rattle.lower_leases.specs.declared.shapes.Part.{Part}

pub none_more : (ss : List Step) → ss ≡ ss ++ []
none_more ss = sym (append-nil ss)

-- the steps of a place come before those of what is behind
first_is : (ss : List Step) (p : Place) (w : Option Way) → path_by (ss ++ step_of p ∷ []) w ≡ path_by ss (also p w)
first_is ss p None = refl
first_is ss p (Some w) = ap (λ (all : List Step). Some (record { base = w.base; steps = all; run = w.run })) (append_assoc ss (step_of p ∷ []) (steps_of w.places))

item_is : (ss : List Step) (items : Option ℕ) (t : Shape) (w : Option Way) → path_by (ss ++ item_steps items (size t)) w ≡ path_by ss (at_item items t w)
item_is ss None t w = ap (λ all. path_by all w) (append-nil ss)
item_is ss (Some places) t w = first_is ss _ w

pub step_first : (ss all : List Step) (p : Place) (w : Option Way) → all ≡ ss ++ step_of p ∷ [] → path_by all w ≡ path_by ss (also p w)
step_first ss all p w e = ap (λ all. path_by all w) e ∙ first_is ss p w

pub item_first : (ss all : List Step) (items : Option ℕ) (t : Shape) (w : Option Way) → all ≡ ss ++ item_steps items (size t) → path_by all w ≡ path_by ss (at_item items t w)
item_first ss all items t w e = ap (λ all. path_by all w) e ∙ item_is ss items t w

pub item_none : (ss : List Step) (items : Option ℕ) (t : Shape) → None ≡ path_by ss (at_item items t None)
item_none ss None t = refl
item_none ss (Some places) t = refl

pub place_behind : (ss all whole : List Step) (items : Option ℕ) (t : Shape) (p : Place) (w : Option Way) → all ≡ ss ++ item_steps items (size t) → whole ≡ all ++ step_of p ∷ [] → path_by whole w ≡ path_by ss (at_item items t (also p w))
place_behind ss all whole items t p w e f = step_first all whole p w f ∙ item_first ss all items t (also p w) e

pub ended : (ss same all : List Step) (items : Option ℕ) (t : Shape) (n run : ℕ) → same ≡ ss → run ≡ size t → all ≡ same ++ item_steps items run → Some (record { base = n; steps = all; run = run }) ≡ path_by ss (at_item items t (here n t))
ended ss same all items t n run a b e =
    let grown : all ≡ ss ++ item_steps items (size t) = e ∙ ap (λ (xs : List Step). xs ++ item_steps items run) a ∙ ap (λ (m : ℕ). ss ++ item_steps items m) b in
    ap (λ (m : ℕ). Some (record { base = n; steps = all; run = m })) b
    ∙ ap (λ (xs : List Step). Some (record { base = n; steps = xs; run = size t })) (sym (append-nil all)) ∙ item_first ss all items t (here n t) grown

-- ---- any place, by the way behind its step

some_inj : {A : Type 0} {x y : A} → ◌≡◌ {A = Option A} (Some x) (Some y) → x ≡ y
some_inj e = cc

all_steps : (ss : List Step) (x : Step) (ps : List Place) → length ((ss ++ x ∷ []) ++ steps_of ps) ≡ length ss + 1 + length (steps_of ps)
all_steps ss x ps = length-append (ss ++ x ∷ []) (steps_of ps) ∙ ap (λ (n : ℕ). n + length (steps_of ps)) (length-append ss (x ∷ []))

no_place : (ss : List Step) (x : Step) (ps : List Place) → length ((ss ++ x ∷ []) ++ steps_of ps) - length ss ≡ 1 → ps ≡ []
no_place ss x [] e = refl
no_place ss x (p ∷ ps) e = let n = all_steps ss x (p ∷ ps) in absurd (omega (arith, e, n))

one_step : (ss : List Step) (x : Step) → length ((ss ++ x ∷ []) ++ []) - length ss ≡ 1
one_step ss x = let n = all_steps ss x [] in omega (arith, n)

module _ (ss all : List Step) (places n before : ℕ) (e : End) (here : length ss ≡ before) where
  -- steps follow, or the way ends at less than all cells of a place
  pub goes_on : (o : Option Way) → (length all - before ≡ 1 → e.run ≡ n → ⊥) → path_found (Some e) all ≡ path_by (ss ++ step.All places n ∷ []) o → path_found (Some e) all ≡ path_by ss (at_any places n o)
  goes_on None never c = absurd (none-some _ (sym c))
  goes_on (Some w) never c = c ∙ go (is_row n w) refl
    where
      go : (z : Bool) → is_row n w ≡ z → path_by (ss ++ step.All places n ∷ []) (Some w) ≡ path_by ss (cond z (Some (record { base = w.base; places = []; run = places * n })) (also (All places n) (Some w)))
      go false z = first_is ss (All places n) (Some w)
      go true z =
          let is = row_is n w z in
          let steps : all ≡ (ss ++ step.All places n ∷ []) ++ steps_of w.places = ap (λ (p : Path). p.steps) (some_inj c) in
          let one : length all - before ≡ 1 = ap (λ (xs : List Step). length xs - before) (steps ∙ ap (λ (ps : List Place). (ss ++ step.All places n ∷ []) ++ steps_of ps) is.0) ∙ ap (λ (k : ℕ). length ((ss ++ step.All places n ∷ []) ++ []) - k) (sym here) ∙ one_step ss (step.All places n) in
          absurd (never one (ap (λ (p : Path). p.run) (some_inj c) ∙ is.1))

  pub is_joined : (run : ℕ) (last : List Step) (o : Option Way) → length all - before ≡ 1 → e.run ≡ n → run ≡ places * n → last ≡ take before all → path_found (Some e) all ≡ path_by (ss ++ step.All places n ∷ []) o
      → Some (record { base = e.base; steps = last; run = run }) ≡ path_by ss (at_any places n o)
  is_joined run last None one size r l c = absurd (none-some _ (sym c))
  is_joined run last (Some w) one size r l c = go (is_row n w) refl
    where
      x : Step
      x = step.All places n

      steps : all ≡ (ss ++ x ∷ []) ++ steps_of w.places
      steps = ap (λ (p : Path). p.steps) (some_inj c)

      none : w.places ≡ []
      none = no_place ss x w.places (ap (λ (xs : List Step). length xs - length ss) (sym steps) ∙ ap (λ (k : ℕ). length all - k) here ∙ one)

      kept : last ≡ ss ++ []
      kept =
          l ∙ ap (λ (k : ℕ). take k all) (sym here) ∙ ap (λ (xs : List Step). take (length ss) xs) (steps ∙ ap (λ (ps : List Place). (ss ++ x ∷ []) ++ steps_of ps) none ∙ append-nil (ss ++ x ∷ []))
          ∙ take-append_seam ss (x ∷ []) ∙ sym (append-nil ss)

      go : (z : Bool) → is_row n w ≡ z → Some (record { base = e.base; steps = last; run = run }) ≡ path_by ss (cond z (Some (record { base = w.base; places = []; run = places * n })) (also (All places n) (Some w)))
      go true z =
          ap (λ (b : ℕ). Some (record { base = b; steps = last; run = run })) (ap (λ (p : Path). p.base) (some_inj c))
          ∙ ap (λ (xs : List Step). Some (record { base = w.base; steps = xs; run = run })) kept
          ∙ ap (λ (m : ℕ). Some (record { base = w.base; steps = ss ++ []; run = m })) r
      go false z = absurd (true≢false (sym (is_row_of n w none (sym (ap (λ (p : Path). p.run) (some_inj c)) ∙ size)) ∙ z))

-- ---- parts without a dimension

pub of_single : (ss : List Step) (loops : Bool) (items : Option ℕ) (t : Shape) (ks rest : List clash.Selector) (k : clash.Selector) (n : ℕ) → Single ≡ t → ks ≡ k ∷ rest → None ≡ path_by ss (way_of loops items t (map plain ks) n)
of_single ss loops items t ks rest k n e f = subst (λ t. None ≡ path_by ss (way_of loops items t (map plain ks) n)) e (subst (λ ks. None ≡ path_by ss (way_of loops items Single (map plain ks) n)) (sym f) refl)

of_nothing : (ss : List Step) (loops : Bool) (items : Option ℕ) (s : Selector) (rest : List Selector) (n : ℕ) → None ≡ path_by ss (way_of loops items (Record NoShape) (s ∷ rest) n)
of_nothing ss loops items (At k) rest n = item_none ss items (Record NoShape)
of_nothing ss loops items (Fixed v) rest n = refl
of_nothing ss loops items (LoopIndex d) rest n = refl
of_nothing ss loops items (ChunkIndex d) rest n = refl
of_nothing ss loops items Any rest n = refl

pub of_empty : (ss : List Step) (loops : Bool) (items : Option ℕ) (t : Shape) (ks rest : List clash.Selector) (k : clash.Selector) (n : ℕ) → Record NoShape ≡ t → ks ≡ k ∷ rest → None ≡ path_by ss (way_of loops items t (map plain ks) n)
of_empty ss loops items t ks rest k n e f = subst (λ t. None ≡ path_by ss (way_of loops items t (map plain ks) n)) e (subst (λ ks. None ≡ path_by ss (way_of loops items (Record NoShape) (map plain ks) n)) (sym f) (of_nothing ss loops items (plain k) (map plain rest) n))

-- ---- fields

pub no_field : (ss : List Step) (loops : Bool) (items : Option ℕ) (t : Shape) (ks : List Selector) (f : Option (ℕ × Shape)) → None ≡ f → None ≡ path_by ss (at_item items t (in_field f (λ m u. way_of loops None u ks m)))
no_field ss loops items t ks f e = subst (λ f. None ≡ path_by ss (at_item items t (in_field f (λ m u. way_of loops None u ks m)))) e (item_none ss items t)

pub a_field : (ss same all whole : List Step) (loops : Bool) (items : Option ℕ) (t : Shape) (ks : List Selector) (f : Option (ℕ × Shape)) (m n : ℕ) (u : Shape) (found : Option Path) → same ≡ ss → n ≡ size t → all ≡ same ++ item_steps items n → whole ≡ all → Some (m, u) ≡ f
    → found ≡ path_by whole (way_of loops None u ks m) → found ≡ path_by ss (at_item items t (in_field f (λ m u. way_of loops None u ks m)))
a_field ss same all whole loops items t ks f m n u found a b e w g h =
    let grown : whole ≡ ss ++ item_steps items (size t) = w ∙ e ∙ ap (λ (xs : List Step). xs ++ item_steps items n) a ∙ ap (λ (k : ℕ). ss ++ item_steps items k) b in
    h ∙ subst (λ f. path_by whole (way_of loops None u ks m) ≡ path_by ss (at_item items t (in_field f (λ m u. way_of loops None u ks m)))) g (item_first ss whole items t (way_of loops None u ks m) grown)

-- ---- indexes

module _ (t : Typed) (ranges : Bool) (steps : List Step) (items : Option ℕ) (i : Indexed) (cell : ℕ) (ks : List Selector) where
  -- what is found from a part on
  abbrev Comes : List Step → Reached → Option Path → Type 0
  Comes all r found = found ≡ path_by all (way_of ranges r.items (part_shape t r.part) ks r.cell)

  -- what the index leads to
  abbrev Enters : Reached → Type 0
  Enters r = (r.part ≡ i.inner) × (r.cell ≡ cell) × (r.items ≡ None)

  abbrev inner_way : Option Way
  inner_way = way_of ranges None (part_shape t i.inner) ks cell

  rest_is : (all : List Step) (r : Reached) → Enters r → path_by all (way_of ranges r.items (part_shape t r.part) ks r.cell) ≡ path_by all inner_way
  rest_is all r (p, c, s) =
      ap (λ (q : Part). path_by all (way_of ranges r.items (part_shape t q) ks r.cell)) p
      ∙ ap (λ (n : ℕ). path_by all (way_of ranges r.items (part_shape t i.inner) ks n)) c
      ∙ ap (λ (m : Option ℕ). path_by all (way_of ranges m (part_shape t i.inner) ks cell)) s

  item_grown : (same all : List Step) (places n : ℕ) → same ≡ steps → places ≡ count i.low i.high → n ≡ size (part_shape t i.inner) → all ≡ same ++ item_steps items (places * n) → all ≡ steps ++ item_steps items (size (dimension_shape t i))
  item_grown same all places n e p s a =
      a ∙ ap (λ (xs : List Step). xs ++ item_steps items (places * n)) e ∙ ap (λ (m : ℕ). steps ++ item_steps items (m * n)) p ∙ ap (λ (m : ℕ). steps ++ item_steps items (count i.low i.high * m)) s

  -- the way by any index, by the way behind it
  abbrev any_way : Option Way → Option Way
  any_way w = at_item items (dimension_shape t i) (at_any (count i.low i.high) (size (part_shape t i.inner)) w)

  any_behind : (same all whole : List Step) (places n : ℕ) (r : Reached) (found : Option Path) → whole ≡ all ++ step.All places n ∷ [] → Enters r → Comes whole r found → found ≡ path_by (all ++ step.All places n ∷ []) inner_way
  any_behind same all whole places n r found w f c = c ∙ rest_is whole r f ∙ ap (λ (xs : List Step). path_by xs inner_way) w

  pub any_none : (all whole : List Step) (places n : ℕ) (r : Reached) → whole ≡ all ++ step.All places n ∷ [] → Enters r → Comes whole r None → None ≡ path_by steps (way_of ranges items (dimension_shape t i) (Any ∷ ks) cell)
  any_none all whole places n r w f c = go inner_way (any_behind all all whole places n r None w f c)
    where
      go : (o : Option Way) → None ≡ path_by (all ++ step.All places n ∷ []) o → None ≡ path_by steps (any_way o)
      go None e = item_none steps items (dimension_shape t i)
      go (Some w) e = absurd (none-some _ e)

  pub any_some : (same all whole : List Step) (places n before : ℕ) (r : Reached) (found last : Option Path) → same ≡ steps → places ≡ count i.low i.high → n ≡ size (part_shape t i.inner) → all ≡ same ++ item_steps items (places * n)
      → before ≡ length all → whole ≡ all ++ step.All places n ∷ [] → Enters r → Comes whole r found
      → ((ss : List Step) (o : Option Way) → length ss ≡ before → found ≡ path_by (ss ++ step.All places n ∷ []) o → last ≡ path_by ss (at_any places n o)) → last ≡ path_by steps (way_of ranges items (dimension_shape t i) (Any ∷ ks) cell)
  any_some same all whole places n before r found last e p s a b w f c joins =
      joins all inner_way (sym b) (any_behind same all whole places n r found w f c)
      ∙ ap (λ (m : ℕ). path_by all (at_any m n inner_way)) p ∙ ap (λ (m : ℕ). path_by all (at_any (count i.low i.high) m inner_way)) s
      ∙ item_first steps all items (dimension_shape t i) (at_any (count i.low i.high) (size (part_shape t i.inner)) inner_way) (item_grown same all places n e p s a)

  pub chunk_is : (d low : ℤ) (same all whole : List Step) (places n : ℕ) (r : Reached) (found : Option Path) → low ≡ i.low -ℤ d → same ≡ steps → places ≡ count i.low i.high → n ≡ size (part_shape t i.inner) → all ≡ same ++ item_steps items (places * n)
      → whole ≡ all ++ step.Chunk low places n ∷ [] → Enters r → Comes whole r found → found ≡ path_by steps (way_of ranges items (dimension_shape t i) (ChunkIndex d ∷ ks) cell)
  chunk_is d low same all whole places n r found l e p s a w f c =
      c ∙ rest_is whole r f
      ∙ place_behind steps all whole items (dimension_shape t i) (ByChunk (i.low -ℤ d) (count i.low i.high) (size (part_shape t i.inner))) inner_way (item_grown same all places n e p s a)
      (w ∙ ap (λ (z : ℤ). all ++ step.Chunk z places n ∷ []) l ∙ ap (λ (m : ℕ). all ++ step.Chunk (i.low -ℤ d) m n ∷ []) p ∙ ap (λ (m : ℕ). all ++ step.Chunk (i.low -ℤ d) (count i.low i.high) m ∷ []) s)

  pub range_is : (d low : ℤ) (same all : List Step) (places n : ℕ) (r : Reached) (found : Option Path) → low ≡ i.low -ℤ d → same ≡ steps → places ≡ count i.low i.high → n ≡ size (part_shape t i.inner)
      → all ≡ same ++ step.Loop low places n ∷ [] → Enters r → Comes all r found → found ≡ path_by steps (also (Loop (i.low -ℤ d) (count i.low i.high) (size (part_shape t i.inner))) inner_way)
  range_is d low same all places n r found l e p s w f c =
      c ∙ rest_is all r f
      ∙ step_first steps all (Loop (i.low -ℤ d) (count i.low i.high) (size (part_shape t i.inner))) inner_way
      (w ∙ ap (λ (xs : List Step). xs ++ step.Loop low places n ∷ []) e ∙ ap (λ (z : ℤ). steps ++ step.Loop z places n ∷ []) l ∙ ap (λ (m : ℕ). steps ++ step.Loop (i.low -ℤ d) m n ∷ []) p ∙ ap (λ (m : ℕ). steps ++ step.Loop (i.low -ℤ d) (count i.low i.high) m ∷ []) s)

  pub inside_is : (v : ℤ) (same all whole : List Step) (places n next : ℕ) (found : Option Path) → same ≡ steps → places ≡ count i.low i.high → n ≡ size (part_shape t i.inner) → all ≡ same ++ item_steps items (places * n) → whole ≡ all
      → next ≡ cell + to_nat (v -ℤ i.low) * n → found ≡ path_by whole (way_of ranges None (part_shape t i.inner) ks next)
      → found ≡ path_by steps (at_item items (dimension_shape t i) (way_of ranges None (part_shape t i.inner) ks (cell + to_nat (v -ℤ i.low) * size (part_shape t i.inner))))
  inside_is v same all whole places n next found e p s a w x c =
      c ∙ ap (λ (m : ℕ). path_by whole (way_of ranges None (part_shape t i.inner) ks m)) (x ∙ ap (λ (m : ℕ). cell + to_nat (v -ℤ i.low) * m) s)
      ∙ item_first steps whole items (dimension_shape t i) (way_of ranges None (part_shape t i.inner) ks (cell + to_nat (v -ℤ i.low) * size (part_shape t i.inner))) (w ∙ item_grown same all places n e p s a)
