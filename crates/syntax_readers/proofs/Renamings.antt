-- The same words under another name, and larger sets.
use Rattle.std.proofs.Common.{◌≡◌, ℕ, List, [], ◌∷◌, ◌++◌, true, if◌then◌else◌, ◌&&◌, ◌⊎◌, inl, inr, subst}
use Rattle.ada_base.specs.Symbols.{Symbol, Word, next_kind}
use Rattle.syntax_readers.specs.Readers.{Reader}
use Rattle.ada_base.specs.Languages.{Language, Begins}
use Rattle.syntax_readers.specs.Sets.{Sets, Starts, is_subset, covers}
use Rattle.syntax_readers.specs.Exact.{RefusesWell, SinksWell, Steady, Exact}
use Rattle.syntax_readers.proofs.KindSets.{both, is_subset-is_member, is_member-none}

-- larger languages: what begins a word of the smaller one begins one of these
pub begins_as : {A : Type 0} {L M : A → Language} → ((a : A) (w : Word) → L a w → M a w) → (front : List Symbol) → Begins L front → Begins M front
begins_as f front begins next = let (a, w, more, l, e) = begins next in (a, w, more, f a w l, e)

pub begun_as : {A : Type 0} {L M : A → Language} → ((a : A) (w : Word) → L a w → M a w)
    → (front : List Symbol) → ((front ≡ []) ⊎ Begins L front) → ((front ≡ []) ⊎ Begins M front)
begun_as f front (inl e) = inl e
begun_as f front (inr begins) = inr (begins_as f front begins)

pub refuses_as : {A : Type 0} {L M : A → Language} → ((a : A) (w : Word) → L a w → M a w) → (ts back : List Symbol) → RefusesWell L ts back → RefusesWell M ts back
refuses_as f ts back (front, split, begun) = (front, split, begun_as f front begun)

pub sinks_as : {A : Type 0} {L M : A → Language} → ((a : A) (w : Word) → L a w → M a w) → (ts back : List Symbol) → SinksWell L ts back → SinksWell M ts back
sinks_as f ts back (front, t, rest, split, is, begins) = (front, t, rest, split, is, begins_as f (front ++ t ∷ []) begins)

pub steady_as : {A : Type 0} {L : A → Language} {p : Reader A} (M : A → Language) → Steady L p → ((a : A) (w : Word) → L a w → M a w) → Steady M p
steady_as M h f = record {
  suffix = h.suffix;
  local = h.local;
  sound = λ ts a rest e. let (w, l, split) = h.sound ts a rest e in (w, f a w l, split);
  refused = λ ts back e. refuses_as f ts back (h.refused ts back e);
  deep = λ ts back e. sinks_as f ts back (h.deep ts back e);
}

-- the same words
pub exact_as : {limit : ℕ} {A : Type 0} {s : Sets} {L : A → Language} {p : Reader A} (M : A → Language) → Exact limit s L p
    → ((a : A) (w : Word) → L a w → M a w) → ((a : A) (w : Word) → M a w → L a w) → Exact limit s M p
exact_as M h f g = record {
  steady = steady_as M h.steady f;
  starts = λ a w m. h.starts a w (g a w m);
  whole = λ a w rest m st. h.whole a w rest (g a w m) st;
}

-- larger sets
pub exact_in : {limit : ℕ} {A : Type 0} {s : Sets} {L : A → Language} {p : Reader A} (t : Sets) → Exact limit s L p → covers s t ≡ true → Exact limit t L p
exact_in {A} {s} t h c = record {
  steady = h.steady;
  starts = λ a w l. starts_in (h.starts a w l);
  whole = λ a w rest l st. h.whole a w rest l (is_member-none s.follow_last t.follow_last (next_kind rest) lasts.0 st);
} where
  firsts : (is_subset s.first t.first ≡ true) × ((is_subset s.follow_last t.follow_last && (if s.nullable then t.nullable else true)) ≡ true)
  firsts = both (is_subset s.first t.first) _ c

  lasts : (is_subset s.follow_last t.follow_last ≡ true) × ((if s.nullable then t.nullable else true) ≡ true)
  lasts = both (is_subset s.follow_last t.follow_last) _ firsts.1

  starts_in : {w : Word} → Starts s w → Starts t w
  starts_in (inl (d, v, e, h)) = inl (d, v, e, is_subset-is_member s.first t.first d.symbol.kind firsts.0 h)
  starts_in (inr (e, n)) = inr (e, subst (λ b. (if b then t.nullable else true) ≡ true) n lasts.1)
