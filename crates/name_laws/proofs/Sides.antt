-- Objects that lie side by side share no cell.
use Rattle.std.specs.Prelude.{◌≡◌, ℕ, zero, suc, ◌+◌, ◌<◌, ◌≤◌, List, [], ◌∷◌, slice_get, Some}
use Rattle.std.proofs.Common.{ap, sym, subst, ◌∙◌, arith}
use Rattle.typed_tree.specs.declared.program.Object.{Object}
use Rattle.typed_tree.specs.Layout.{first_cell, after, LieFrom, HasCell}

-- the next free cell of an owner is no lower once more objects have theirs
after_above : (o : Object) (free : ℕ → ℕ) (owner : ℕ) → o.offset ≡ free o.owner → free owner ≤ after o free owner
after_above o free owner e = grind (arith, e)

-- the first cells of a thread body
pub own_cells : (subs owner : ℕ) → subs < owner → first_cell subs owner ≡ 4
own_cells subs owner h = grind (arith, h)

after_own : (o : Object) (free : ℕ → ℕ) → after o free o.owner ≡ o.offset + o.cells
after_own o free = grind arith

-- an object begins no lower than the free cell of its owner
pub begins_above : (os : List Object) (free : ℕ → ℕ) (i : ℕ) (a : Object) → LieFrom free os → slice_get os i ≡ Some a → free a.owner ≤ a.offset
begins_above [] free i a l e = absurd (cc)
begins_above (o ∷ os) free zero a l e =
    let z : o ≡ a = cc in
    subst (λ x. free x.owner ≤ x.offset) z (omega (arith, l.0))
begins_above (o ∷ os) free (suc i) a l e = omega (arith, after_above o free a.owner l.0, begins_above os (after o free) i a l.1 e)

-- an object ends where those after it of its owner may begin
ends_below : (os : List Object) (free : ℕ → ℕ) (i j : ℕ) (a b : Object) → LieFrom free os → slice_get os i ≡ Some a → slice_get os j ≡ Some b → i < j → a.owner ≡ b.owner → a.offset + a.cells ≤ b.offset
ends_below [] free i j a b l e f lt s = absurd (cc)
ends_below (o ∷ os) free i zero a b l e f lt s = absurd (omega (arith, lt))
ends_below (o ∷ os) free zero (suc j) a b l e f lt s =
    let z : o ≡ a = cc in
    let u : after o free b.owner ≤ b.offset = begins_above os (after o free) j b l.1 f in
    let v : after o free b.owner ≡ o.offset + o.cells = ap (after o free) (sym s ∙ sym (ap (λ x. x.owner) z)) ∙ after_own o free in
    subst (λ x. x.offset + x.cells ≤ b.offset) z (omega (arith, u, v))
ends_below (o ∷ os) free (suc i) (suc j) a b l e f lt s = ends_below os (after o free) i j a b l.1 e f (omega (arith, lt)) s

less : (os : List Object) (free : ℕ → ℕ) (i j : ℕ) (a b : Object) → LieFrom free os → slice_get os i ≡ Some a → slice_get os j ≡ Some b
    → i < j → a.owner ≡ b.owner → (cell : ℕ) → HasCell a cell → HasCell b cell → ⊥
less os free i j a b l e f lt s cell h k = omega (arith, ends_below os free i j a b l e f lt s, h.1, k.0)

-- objects of different numbers and one owner
pub apart : (os : List Object) (free : ℕ → ℕ) (i j : ℕ) (a b : Object) → LieFrom free os → slice_get os i ≡ Some a → slice_get os j ≡ Some b
    → (i ≡ j → ⊥) → a.owner ≡ b.owner → (cell : ℕ) → HasCell a cell → HasCell b cell → ⊥
apart os free i j a b l e f differ s cell h k =
    let not_before : i < j → ⊥ = λ lt. less os free i j a b l e f lt s cell h k in
    let not_after : j < i → ⊥ = λ lt. less os free j i b a l f e lt (sym s) cell k h in
    differ (omega (arith, not_before, not_after))
