-- What optional parts and lists spell.
use Rattle.std.proofs.Common.{◌≡◌, ℕ, List, [], ◌∷◌, false, true, ◌⊎◌, Option, Some, None, inl, inr, refl}
use Rattle.ada_base.specs.Symbols.{Word}
use Rattle.ada_base.specs.Languages.{Language, Quoted, Or, Pure, Image, Empty, ◌⋅◌}
use Rattle.syntax_readers.specs.Readers.{Reader, ◌<$>◌, pure, by_next}
use Rattle.syntax_readers.specs.Sets.{Sets, are_disjoint, is_subset, no_kind, or_sets}
use Rattle.syntax_readers.specs.Exact.{Rule}
use Rattle.syntax_readers.proofs.Rules.{give, or, to, same}
use Rattle.syntax_readers.proofs.Chains.{Listed}
use Rattle.syntax_readers.proofs.Forms.{from, to_right, to_left, either, form}
use Rattle.syntax_tree.specs.Patterns.{Spelling, words_of, free, optional_of, optional_of_after, each_of, each_of_after}

-- the words of each value of a type, at a depth
abbrev pub Words : {A : Type 0} → (A → Spelling) → ℕ → A → Language
Words spelling depth x = words_of (spelling x depth)

-- the same after a symbol that isn't held
abbrev pub After : {A : Type 0} → ℕ → (A → Spelling) → ℕ → A → Language
After k spelling depth x = Quoted depth k ⋅ Words spelling depth x

-- ---- parts that may be left out

-- a part, or nothing
pub maybe : {limit : ℕ} {A : Type 0} {s : Sets} {p : Reader A} (spelling : A → Spelling) (depth : ℕ) (ks : List ℕ) → Rule limit s (Words spelling depth) p
    → s.nullable ≡ false → is_subset s.first ks ≡ true → are_disjoint ks [] ≡ true
    → Rule limit (or_sets ks s no_kind) (Words (optional_of spelling) depth) (by_next ks (Some <$> p) (pure None))
maybe {A = A} spelling depth ks h not_empty taken passed = same (Words (optional_of spelling) depth) (or ks (to Some h) (give None).exact not_empty taken passed) join split where
  join : (x : Option A) (w : Word) → Or (Image Some (Words spelling depth)) (Pure None) x w → Words (optional_of spelling) depth x w
  join = either (form (Words (optional_of spelling) depth) (λ x w l. l)) (λ x w (eq, e). from (Words (optional_of spelling) depth) eq e)

  split : (x : Option A) (w : Word) → Words (optional_of spelling) depth x w → Or (Image Some (Words spelling depth)) (Pure None) x w
  split None w e = inr (refl, e)
  split (Some x) w l = inl (x, refl, l)

-- a part with a symbol before it, or nothing
pub maybe_after : {limit : ℕ} {A : Type 0} {s : Sets} {p : Reader (Option A)} (k : ℕ) (spelling : A → Spelling) (depth : ℕ) (ks : List ℕ) → Rule limit s (Image Some (After k spelling depth)) p
    → s.nullable ≡ false → is_subset s.first ks ≡ true → are_disjoint ks [] ≡ true
    → Rule limit (or_sets ks s no_kind) (Words (optional_of_after (free k) spelling) depth) (by_next ks p (pure None))
maybe_after {A = A} k spelling depth ks h not_empty taken passed = same (Words (optional_of_after (free k) spelling) depth) (or ks h (give None).exact not_empty taken passed) join split where
  join : (x : Option A) (w : Word) → Or (Image Some (After k spelling depth)) (Pure None) x w → Words (optional_of_after (free k) spelling) depth x w
  join = either (form (Words (optional_of_after (free k) spelling) depth) (λ x w l. l)) (λ x w (eq, e). from (Words (optional_of_after (free k) spelling) depth) eq e)

  split : (x : Option A) (w : Word) → Words (optional_of_after (free k) spelling) depth x w → Or (Image Some (After k spelling depth)) (Pure None) x w
  split None w e = inr (refl, e)
  split (Some x) w l = inl (x, refl, l)

-- ---- lists

module _ {A : Type 0} (spelling : A → Spelling) (depth : ℕ) where
  pub each_listed : Listed [] (λ x xs. x ∷ xs) (Words spelling depth) (Words (each_of spelling) depth)
  each_listed = record { at_none = λ w e. e; at_more = λ x xs w l. l; parts = parts } where
    parts : (xs : List A) (w : Word) → Words (each_of spelling) depth xs w → ((xs ≡ []) × Empty w) ⊎ ((x : A) × (ys : List A) × (xs ≡ x ∷ ys) × (Words spelling depth x ⋅ Words (each_of spelling) depth ys) w)
    parts [] w e = inl (refl, e)
    parts (x ∷ xs) w l = inr (x, xs, refl, l)

  pub each_after_listed : (k : ℕ) → Listed [] (λ x xs. x ∷ xs) (After k spelling depth) (Words (each_of_after (free k) spelling) depth)
  each_after_listed k = record { at_none = λ w e. e; at_more = λ x xs w l. to_right l; parts = parts } where
    parts : (xs : List A) (w : Word) → Words (each_of_after (free k) spelling) depth xs w → ((xs ≡ []) × Empty w) ⊎ ((x : A) × (ys : List A) × (xs ≡ x ∷ ys) × (After k spelling depth x ⋅ Words (each_of_after (free k) spelling) depth ys) w)
    parts [] w e = inl (refl, e)
    parts (x ∷ xs) w l = inr (x, xs, refl, to_left l)
