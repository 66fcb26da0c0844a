-- What a table of paths says has one proof at most.
use Rattle.std.specs.Prelude.{◌≡◌, ◌+ℤ◌, pos, List, Option, ⊤}
use mathlib.Core.HLevel.{Π_prop, Unit-prop, ⊥_prop}
use mathlib.Core.Path.{refl, subst⁻¹, path_j', PathP}
use denote.Struct.Props as logic
use Rattle.typed_tree.specs.declared.node.Node.{Node}
use Rattle.typed_tree.specs.Decoded.{selections_at}
use Rattle.typed_tree.specs.Syntax.{Parameter, Selections, Whole, Index}
use Rattle.run_parts.specs.declared.paths.ParameterIndex.{ParameterIndex}
use Rattle.run_parts.specs.declared.paths.Path.{Path}
use Rattle.run_parts.specs.declared.paths.Path.TheVariants as path
use Rattle.run_parts.specs.Paths.{AreOf, index_by, selections_by}

-- A relation that has one proof at most, holds of a value and leads to equations with it: then those equations have one
-- proof at most.
module _ {A : Type 0} {a : A} (Q : A → Type 0) (Q-prop : (x : A) → IsProp (Q x)) (q : Q a) (back : (x : A) → Q x → x ≡ a) where
  abbrev there : (x : A) → x ≡ a → Q x
  there x p = subst⁻¹ Q p q

  abbrev around : (x : A) → x ≡ a → x ≡ a
  around x p = back x (there x p)

  straight : {b : A} (p : b ≡ a) → PathP (λ i. p i ≡ a) (around b p) (around a refl)
  straight p = path_j' (λ b p. PathP (λ i. p i ≡ a) (around b p) (around a refl)) refl p

  equation-prop : (b : A) → IsProp (b ≡ a)
  equation-prop b p r = λ j i.
      hcom 1 0 a [
        | j = 0 ↦ k. straight p i k
        | j = 1 ↦ k. straight r i k
        | i = 0 ↦ k. back b (Q-prop b (there b p) (there b r) j) k
        | i = 1 ↦ k. around a refl k
      ]

-- that selections are a path, part by part

abbrev IsWhole : Selections → Type 0
IsWhole Whole = ⊤
IsWhole s = ⊥

abbrev IsIndex : ParameterIndex → (Selections → Type 0) → Selections → Type 0
IsIndex i P (Index at (Parameter token parameter) low high stride rest) =
    (at ≡ i.at) × (token ≡ i.token) × (parameter ≡ i.parameter) × (low ≡ i.low) × (high ≡ i.low +ℤ pos i.span) × (stride ≡ i.stride) × P rest
IsIndex i P s = ⊥

IsWhole-prop : (s : Selections) → IsProp (IsWhole s)
IsWhole-prop Whole = Unit-prop
IsWhole-prop s = ⊥_prop

IsIndex-prop : (i : ParameterIndex) (P : Selections → Type 0) → ((s : Selections) → IsProp (P s)) → (s : Selections) → IsProp (IsIndex i P s)
IsIndex-prop i P h (Index at (Parameter token parameter) low high stride rest) = Prim.hlevel (h rest, logic.props)
IsIndex-prop i P h s = ⊥_prop

whole-back : (s : Selections) → IsWhole s → s ≡ Whole
whole-back Whole e = refl
whole-back s e = elim e [ ]

index-back : (i : ParameterIndex) (P : Selections → Type 0) (r : Selections) → ((s : Selections) → P s → s ≡ r) → (s : Selections) → IsIndex i P s → s ≡ index_by i r
index-back i P r h (Index at (Parameter token parameter) low high stride rest) (a, t, p, l, u, d, e) =
    λ k. Index (a k) (Parameter (t k) (p k)) (l k) (u k) (d k) (h rest e k)
index-back i P r h s e = elim e [ ]

One-prop : (i : ParameterIndex) (s : Selections) → IsProp (s ≡ index_by i Whole)
One-prop i = equation-prop (IsIndex i IsWhole) (IsIndex-prop i IsWhole IsWhole-prop) (refl, refl, refl, refl, refl, refl, tt) (index-back i IsWhole Whole whole-back)

Two-prop : (i j : ParameterIndex) (s : Selections) → IsProp (s ≡ index_by i (index_by j Whole))
Two-prop i j =
    equation-prop (IsIndex i (IsIndex j IsWhole)) (IsIndex-prop i (IsIndex j IsWhole) (IsIndex-prop j IsWhole IsWhole-prop)) (refl, refl, refl, refl, refl, refl, (refl, refl, refl, refl, refl, refl, tt)) (index-back i (IsIndex j IsWhole) (index_by j Whole) (index-back j IsWhole Whole whole-back))

path-prop : (p : Path) (s : Selections) → IsProp (s ≡ selections_by p)
path-prop (path.One i) s = One-prop i s
path-prop (path.Two i j) s = Two-prop i j s

pub AreOf-prop : (nodes : List Node) (paths : List (Option Path)) → IsProp (AreOf nodes paths)
AreOf-prop nodes paths = Π_prop (λ id. Π_prop (λ p. Π_prop (λ e. path-prop p (selections_at nodes id))))
