-- Where the cells are found that threads touch: by the values of a range, by the arms of a block, or by the items of an array.
use Rattle.std.proofs.Common.{◌≡◌, ℕ, ◌+◌, ◌*◌, ◌<◌, ◌≤◌, ℤ, pos, ◌+ℤ◌, ◌-ℤ◌, List, [], ◌∷◌, ◌++◌, inl, inr, Option, Some, None, true, false, refl, sym, ap, ◌∙◌, subst, arith}
use Rattle.std.proofs.lemmas.Int.{ints}
use Rattle.behaviours.specs.Joins.{Now, Share}
use Rattle.typed_tree.specs.Syntax.{Program}
use Rattle.ada_meaning.specs.Values.{to_nat}
use Rattle.ada_meaning.specs.Shapes.{object_shape}
use Rattle.check_effects.specs.Effects.{Access, Construct, Holds, Named, Step, FieldStep, IndexStep, ItemStep}
use Rattle.check_effects.specs.Conflicts.{Follows, InProgram, IsThreadEffect, IsClean, Leads, LiesUnder, LoopsDiffer, path}
use Rattle.check_effects.specs.Covered.{arm_of, AreDistinct, Items, ItemsLie, items_of, has_items}
use Rattle.check_effects.proofs.Coordinates.{LeadsIn, Loose, converts, unlike}
use Rattle.check_effects.proofs.ItemPaths.{ByItem, Plain, array_plain, effect_by, plain_path}
use Rattle.ada_lower.specs.Leased.{LiesBy}
use Rattle.ada_lower.proofs.ItemGeometry.{items_apart, plain_by, through_by}
use Rattle.ada_lower.proofs.LeaseGeometry.{lies_by, by_lies}
use Rattle.ada_lower.proofs.Leasing.{Finds}

some_none : {x : ℤ} → ◌≡◌ {A = Option ℤ} (Some x) None → ⊥
some_none e = cc

same_start : (x y c v w : ℤ) → v ≡ x +ℤ c → w ≡ y +ℤ c → v ≡ w → x ≡ y
same_start x y c v w f g e = omega (arith, ints, f, g, e)

-- steps lead to where others go on
leads_split : (now : Now) (n o : ℕ) (ss ts : List Step) → Leads now n (ss ++ ts) o → (m : ℕ) × Leads now n ss m × Leads now m ts o
leads_split now n o [] ts h = (n, refl, h)
leads_split now n o (FieldStep number offset ∷ ss) ts h = leads_split now (n + offset) o ss ts h
leads_split now n o (IndexStep s low high stride ∷ ss) ts (v, b, f, h) = let (m, a, c) = leads_split now (n + to_nat (v -ℤ low) * stride) o ss ts h in (m, (v, b, f, a), c)
leads_split now n o (ItemStep judged count stride dimensions ∷ ss) ts (i, lt, c, h) = let (m, a, d) = leads_split now (n + i * stride) o ss ts h in (m, (i, lt, c, a), d)

module _ (program : Program) (k : Construct) (clean : IsClean program k) (now : ℕ → ℕ → Now) (distinct : AreDistinct now) where
  -- a cell under an access lies at the coordinates of its path
  coordinates : (b j at : ℕ) (y : Access) (n : ℕ) → IsThreadEffect program k (arm_of k b j) at y → LiesUnder (now b j) y n → LeadsIn (now b j) (object_shape program y.object) (path y.steps) n
  coordinates b j at y n effect (o, m, leads, lt, e) =
      let (r, e', h) = converts (now b j) (object_shape program y.object) y.steps y.cells 0 o m (clean.laid (arm_of k b j) at y effect) leads lt in
      let same : r ≡ n = omega (arith, e, e') in subst (λ z. LeadsIn (now b j) (object_shape program y.object) (path y.steps) z) same h

  -- ---- by the values of a range, or by the numbers of arms

  pub finds_ranges : (value chunk : ℕ → ℤ) → ((j i : ℕ) → ((now j i).loop ≡ Some (value i)) × ((now j i).chunk ≡ chunk j)) → Finds program k false now value chunk
  finds_ranges value chunk tells = record {
    lies = λ b its i lo hi at y effect n under. lies_by (now b.number i) (value i) (chunk b.number) (tells b.number i).0 (tells b.number i).1 (object_shape program y.object) (path y.steps) n (coordinates b.number i at y n effect under);
    apart = λ c b i j other differ at there x y mine theirs same some n lies touched.
        unlike (now c i) (now b j) (distinct c b i j other differ).chunk (loops c b i j other differ) (path x.steps) (path y.steps) (object_shape program x.object) n
        (by_lies (now c i) (value i) (chunk c) (tells c i).0 (tells c i).1 (object_shape program x.object) (path x.steps) n lies)
        (by_lies (now b j) (value j) (chunk b) (tells b j).0 (tells b j).1 (object_shape program x.object) (path y.steps) n (subst (λ z. LiesBy false (value j) (chunk b) None (object_shape program z) (path y.steps) n) (sym same) touched)) some
        (λ none none' h g. some_none (sym (tells c i).0 ∙ none));
  }
    where
      loops : (c b i j : ℕ) → (c ≡ b → ⊥) → (i ≡ j → ⊥) → (d v w : ℤ) → Loose (now c i).loop d v → Loose (now b j).loop d w → v ≡ w → ((now c i).loop ≡ None) × ((now b j).loop ≡ None)
      loops c b i j other differ d v w f g e =
          let unlike_values : value i ≡ value j → ⊥ = subst (λ o. LoopsDiffer (now c i) (now b j) (Some (value i)) o) (tells b j).0 (subst (λ o. LoopsDiffer (now c i) (now b j) o (now b j).loop) (tells c i).0 (distinct c b i j other differ).loops) in
          absurd (unlike_values (same_start (value i) (value j) d v w (subst (λ o. Loose o d v) (tells c i).0 f) (subst (λ o. Loose o d w) (tells b j).0 g) e))

  -- ---- by the items of an array

  module _ (held : InProgram program (Holds k)) (goes : has_items k ≡ true) (value chunk : ℕ → ℤ) (positions : (i : ℕ) → value i ≡ pos 1 +ℤ pos i) (tells : (j i : ℕ) → (now j i).chunk ≡ chunk j) where
    abbrev named : Access → Named
    named a = record { object = a.object; steps = a.steps }

    by_item : (j at : ℕ) (a : Access) → IsThreadEffect program k j at a → ByItem (items_of k) (named a)
    by_item j at a effect = effect_by program k goes held j at a effect

    lies_item : (b : Share) (i : ℕ) → ItemsLie (items_of k) now b → b.first ≤ i → i < b.first + b.size → (at : ℕ) (y : Access) → IsThreadEffect program k (arm_of k b.number i) at y → (n : ℕ) → LiesUnder (now b.number i) y n → LiesBy true (value i) (chunk b.number) None (object_shape program y.object) (path y.steps) n
    lies_item b i its lo hi at y effect n under = go (items_of k) refl its (by_item (arm_of k b.number i) at y effect) under
      where
        here : Now
        here = now b.number i

        plain : Plain y.steps → LiesBy true (value i) (chunk b.number) None (object_shape program y.object) (path y.steps) n
        plain p = plain_by here (value i) (chunk b.number) (tells b.number i) (object_shape program y.object) (path y.steps) n (λ h. plain_path y.steps p h) (coordinates b.number i at y n effect under)

        go : (o : Option Items) → items_of k ≡ o → ItemsLie o now b → ByItem o (named y) → LiesUnder here y n → LiesBy true (value i) (chunk b.number) None (object_shape program y.object) (path y.steps) n
        go None e its p u = plain p
        go (Some t) e its (inl p) u = plain p
        go (Some t) e (from, its) (inr (object, post, p, is)) (o, m, leads, lt, cell) =
            let steps : List Step = t.array.steps ++ (ItemStep true t.count t.stride t.dimensions ∷ post) in
            let (few, array, first) = its i lo hi in
            let (mid, front, (r, less, item, back)) = leads_split here 0 o t.array.steps (ItemStep true t.count t.stride t.dimensions ∷ post) (subst (λ z. Leads here 0 z o) is leads) in
            let on : mid + r * t.stride ≡ from + i * t.stride = item.1 ∙ first in
            let h = through_by here (value i) (chunk b.number) (tells b.number i) (object_shape program y.object) t.array.steps post t.count t.stride t.dimensions y.cells from o m i (array_plain program k held t e) p
            (subst (λ z. Follows (object_shape program y.object) z y.cells) is (clean.laid (arm_of k b.number i) at y effect)) array few (subst (λ z. Leads here z post o) on back) lt (positions i) in
            subst (λ z. LiesBy true (value i) (chunk b.number) None (object_shape program y.object) z n) (ap path (sym is)) (subst (λ z. LiesBy true (value i) (chunk b.number) None (object_shape program y.object) (path steps) z) (sym cell) h)

    same_place : (i j : ℕ) → value i ≡ value j → i ≡ j
    same_place i j e = let f = positions i in let g = positions j in omega (arith, ints, e, f, g)

    pub finds_items : Finds program k true now value chunk
    finds_items = record {
      lies = λ b its i lo hi at y effect n under. lies_item b i its lo hi at y effect n under;
      apart = λ c b i j other differ at there x y mine theirs same some n lies touched.
          let chunks : chunk c ≡ chunk b → ⊥ = λ e. (distinct c b i j other differ).chunk (tells c i ∙ e ∙ sym (tells b j)) in
          items_apart (value i) (value j) (chunk c) (chunk b) chunks (λ e. differ (same_place i j e)) (items_of k) (λ t e. array_plain program k held t e) (object_shape program x.object) n (named x) (named y)
          (by_item (arm_of k c i) at x mine) (by_item (arm_of k b j) there y theirs) some lies
          (subst (λ z. LiesBy true (value j) (chunk b) None (object_shape program z) (path y.steps) n) (sym same) touched);
    }
