-- Where a construct goes through a range or is a block, the cells of a path are those at its coordinates.
use Rattle.std.proofs.Common.{◌≡◌, ℕ, ◌<◌, ℤ, ◌+ℤ◌, List, [], ◌∷◌, Some, None, false, refl, sym, ◌∙◌, ap, subst}
use Rattle.ada_meaning.specs.Shapes.{Shape, Single, Record, Dimension, size}
use Rattle.behaviours.specs.Joins.{Now}
use Rattle.check_effects.specs.Effects.{Selector, At, Fixed, LoopIndex, ChunkIndex, Any}
use Rattle.check_effects.proofs.Coordinates.{Loose, LooseFits, LeadsIn, in_shape}
use Rattle.ada_lower.specs.Leased.{IndexIs, LiesBy}

-- what the parameters are
abbrev pub parameters : ℤ → ℤ → Now
parameters v ch = record { loop = Some v; chunk = ch; first = 0; size = 0 }

module _ (now : Now) (v ch : ℤ) (loop : now.loop ≡ Some v) (chunk : now.chunk ≡ ch) where
  index_is : (s : Selector) (w : ℤ) → LooseFits now s w → IndexIs v ch s w
  index_is (At k) w f = f
  index_is (Fixed i) w f = f
  index_is (LoopIndex d) w f = subst (λ o. Loose o d w) loop f
  index_is (ChunkIndex d) w f = f ∙ ap (λ z. z +ℤ d) chunk
  index_is Any w f = tt

  is_index : (s : Selector) (w : ℤ) → IndexIs v ch s w → LooseFits now s w
  is_index (At k) w f = f
  is_index (Fixed i) w f = f
  is_index (LoopIndex d) w f = subst (λ o. Loose o d w) (sym loop) f
  is_index (ChunkIndex d) w f = f ∙ ap (λ z. z +ℤ d) (sym chunk)
  is_index Any w f = tt

  pub lies_by : (t : Shape) (ss : List Selector) (n : ℕ) → LeadsIn now t ss n → LiesBy false v ch None t ss n
  lies_by t [] n h = (tt, h)
  lies_by Single (s ∷ ss) n h = absurd h
  lies_by (Record us) (At k ∷ ss) n (offset, m, u, f, e, h) = (tt, (offset, m, u, f, e, lies_by u ss m h))
  lies_by (Record us) (Fixed i ∷ ss) n h = absurd h
  lies_by (Record us) (LoopIndex d ∷ ss) n h = absurd h
  lies_by (Record us) (ChunkIndex d ∷ ss) n h = absurd h
  lies_by (Record us) (Any ∷ ss) n h = absurd h
  lies_by (Dimension low high u) (At k ∷ ss) n (w, m, b, f, e, h) = absurd f
  lies_by (Dimension low high u) (Fixed i ∷ ss) n (w, m, b, f, e, h) = (tt, (w, m, b, f, e, lies_by u ss m h))
  lies_by (Dimension low high u) (LoopIndex d ∷ ss) n (w, m, b, f, e, h) = (tt, (w, m, b, index_is (LoopIndex d) w f, e, lies_by u ss m h))
  lies_by (Dimension low high u) (ChunkIndex d ∷ ss) n (w, m, b, f, e, h) = (tt, (w, m, b, index_is (ChunkIndex d) w f, e, lies_by u ss m h))
  lies_by (Dimension low high u) (Any ∷ ss) n (w, m, b, f, e, h) = (tt, (w, m, b, tt, e, lies_by u ss m h))

  pub by_lies : (t : Shape) (ss : List Selector) (n : ℕ) → LiesBy false v ch None t ss n → LeadsIn now t ss n
  by_lies t [] n h = h.1
  by_lies Single (s ∷ ss) n h = absurd h
  by_lies (Record us) (At k ∷ ss) n (z, (offset, m, u, f, e, h)) = (offset, m, u, f, e, by_lies u ss m h)
  by_lies (Record us) (Fixed i ∷ ss) n h = absurd h
  by_lies (Record us) (LoopIndex d ∷ ss) n h = absurd h
  by_lies (Record us) (ChunkIndex d ∷ ss) n h = absurd h
  by_lies (Record us) (Any ∷ ss) n h = absurd h
  by_lies (Dimension low high u) (At k ∷ ss) n h = absurd h
  by_lies (Dimension low high u) (Fixed i ∷ ss) n (z, (w, m, b, f, e, h)) = (w, m, b, f, e, by_lies u ss m h)
  by_lies (Dimension low high u) (LoopIndex d ∷ ss) n (z, (w, m, b, f, e, h)) = (w, m, b, is_index (LoopIndex d) w f, e, by_lies u ss m h)
  by_lies (Dimension low high u) (ChunkIndex d ∷ ss) n (z, (w, m, b, f, e, h)) = (w, m, b, is_index (ChunkIndex d) w f, e, by_lies u ss m h)
  by_lies (Dimension low high u) (Any ∷ ss) n (z, (w, m, b, f, e, h)) = (w, m, b, tt, e, by_lies u ss m h)

-- they lie within the object
pub lies_within : (v ch : ℤ) (t : Shape) (ss : List Selector) (n : ℕ) → LiesBy false v ch None t ss n → n < size t
lies_within v ch t ss n h = in_shape (parameters v ch) t ss n (by_lies (parameters v ch) v ch refl refl t ss n h)
