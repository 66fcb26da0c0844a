-- The values of the main procedure's variables stand in the machine's cells.
use Rattle.std.proofs.Common.{◌≡◌, ℕ, zero, suc, ◌+◌, ◌<◌, ℤ, List, [], ◌∷◌, ◌++◌, length, take, drop, map, slice_get, Some, refl, sym, ◌∙◌, ap, ap₂, subst, arith}
use Rattle.std.specs.Option.{option_map}
use Rattle.std.proofs.lemmas.Option.{none-some, slice_get-map}
use Rattle.ada_base.specs.Cells.{Cell, Mine}
use Rattle.typed_tree.specs.Syntax.{Program}
use Rattle.ada_meaning.specs.Meaning.{object_layout}
use Rattle.ada_meaning.specs.Stored as stored
use Rattle.ada_meaning.specs.Stored.{filled, final_of, finals_of}
use Rattle.ada_meaning.specs.declared.slots.Variable.{Variable}
use Rattle.ada_meaning.proofs.Cells.{get_left, some_same}
use Rattle.ada_lower.specs.Driven.{Dyn}
use Rattle.ada_lower.specs.Law.{AreFinals, IsFinal}
use Rattle.run_machine_laws.specs.Telling.{number, numbers}

-- the same values at the same places
abbrev AreSame : ℕ → List ℤ → List ℤ → Type 0
AreSame n xs ys = (i : ℕ) → i < n → (u : ℤ) × (slice_get xs i ≡ Some u) × (slice_get ys i ≡ Some u)

same_front : (n : ℕ) (xs ys : List ℤ) → AreSame n xs ys → take n xs ≡ take n ys
same_front zero xs ys h = refl
same_front (suc n) [] ys h = let (u, e, f) = h 0 (omega arith) in absurd (none-some u e)
same_front (suc n) (x ∷ xs) [] h = let (u, e, f) = h 0 (omega arith) in absurd (none-some u f)
same_front (suc n) (x ∷ xs) (y ∷ ys) h =
    let (u, e, f) = h 0 (omega arith) in
    ap₂ (λ v vs. v ∷ vs) (some_same x u e ∙ sym (some_same y u f)) (same_front n xs ys (λ i lt. h (suc i) (omega (arith, lt))))

get_behind : (n i : ℕ) (xs : List ℤ) (u : ℤ) → slice_get xs (n + i) ≡ Some u → slice_get (drop n xs) i ≡ Some u
get_behind zero i xs u e = let z : 0 + i ≡ i = omega arith in subst (λ k. slice_get xs k ≡ Some u) z e
get_behind (suc n) i [] u e = absurd (none-some u e)
get_behind (suc n) i (x ∷ xs) u e = let z : suc n + i ≡ suc (n + i) = omega arith in get_behind n i xs u (subst (λ k. slice_get (x ∷ xs) k ≡ Some u) z e)

module _ (program : Program) (t : stored.State) (d : Dyn) (cells rest : List Cell) (front : cells ≡ d.cells ++ rest) where
  number_at : (k : ℕ) (u : ℤ) → slice_get d.cells k ≡ Some (Mine u) → slice_get (numbers cells) k ≡ Some u
  number_at k u e = slice_get-map number cells k ∙ ap (option_map number) (subst (λ z. slice_get z k ≡ Some (Mine u)) (sym front) (get_left d.cells rest k (Mine u) e))

  final_same : (v m : Variable) → IsFinal t d v m → final_of program t.kept v ≡ final_of program (numbers cells) m
  final_same v m w =
      ap₂ (λ x vs. filled (length (object_layout program x)) vs) w.object
      (same_front v.cells (drop v.address t.kept) (drop m.address (numbers cells)) (λ i lt. let (u, e, f) = w.values i lt in (u, get_behind v.address i t.kept u e, get_behind m.address i (numbers cells) u (number_at (m.address + i) u f)))
      ∙ ap (λ n. take n (drop m.address (numbers cells))) w.cells)

  finals_same : (ds ms : List Variable) → length ds ≡ length ms → ((k : ℕ) (v : Variable) → slice_get ds k ≡ Some v → (m : Variable) × (slice_get ms k ≡ Some m) × IsFinal t d v m) → finals_of program t.kept ds ≡ finals_of program (numbers cells) ms
  finals_same [] [] e w = refl
  finals_same [] (m ∷ ms) e w = absurd (let z : 0 ≡ suc (length ms) = e in omega (arith, z))
  finals_same (v ∷ ds) [] e w = absurd (let z : suc (length ds) ≡ 0 = e in omega (arith, z))
  finals_same (v ∷ ds) (m ∷ ms) e w =
      let (m', at, is) = w 0 v refl in
      ap₂ (λ f fs. f ∷ fs) (final_same v m (subst (λ m. IsFinal t d v m) (sym (some_same m m' at)) is)) (finals_same ds ms (let z : suc (length ds) ≡ suc (length ms) = e in omega (arith, z)) (λ k v e. w (suc k) v e))

  pub finals_there : (ms : List Variable) → AreFinals ms t d → finals_of program t.kept t.declared ≡ finals_of program (numbers cells) ms
  finals_there ms w = finals_same t.declared ms w.all w.each
