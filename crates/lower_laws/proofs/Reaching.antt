-- Selections that lead from a shape to that of a part lead from its cells to those of the part.
use Rattle.std.proofs.Common.{◌≡◌, ℕ, zero, suc, ◌+◌, ◌*◌, ◌≤◌, ap, ◌∙◌, arith}
use Rattle.std.proofs.Math.Nat.{mul_assoc, one-mul}
use Rattle.typed_tree.specs.Syntax.{Selections, Whole, Field, Index}
use Rattle.ada_meaning.specs.Values.{count}
use Rattle.ada_meaning.specs.Formed.{Selects}
use Rattle.ada_meaning.specs.Shapes.{Shape, Shapes, Single, Record, Dimension, NoShape, AlsoShape, size, sizes, FieldAt, ComponentAt}
use Rattle.ada_lower.specs.Fitted.{Reaches}

-- a component lies among the cells of its record
field_in : (us : Shapes) (k offset : ℕ) (t : Shape) → FieldAt us k offset t → offset + size t ≤ sizes us
field_in NoShape k offset t h = absurd h
field_in (AlsoShape u us) zero offset t (e, f) = let z : size t ≡ size u = ap size f in omega (arith, e, z)
field_in (AlsoShape u us) (suc k) offset t (more, e, f) = let z = field_in us k more t f in omega (arith, e, z)

pub reaches : (x : Selections) (t u : Shape) (n m : ℕ) → Selects x t u → size t ≤ n → m ≤ size u → Reaches n x m
reaches Whole t u n m e le few = let z : size u ≡ size t = ap size e in omega (arith, z, le, few)
reaches (Field number offset rest) (Record us) u n m (t, at, more) le few = let z = field_in us number offset t at in (size t, omega (arith, z, le), reaches rest t u (size t) m more (omega arith) few)
reaches (Field number offset rest) Single u n m h le few = absurd h
reaches (Field number offset rest) (Dimension low high t) u n m h le few = absurd h
reaches (Index at e low high stride rest) (Dimension l h t) u n m (first, last, apart, more) le few =
    let z : count low high * stride ≡ count l h * size t = ap (λ l. count l high * stride) first ∙ ap (λ h. count l h * stride) last ∙ ap (λ k. count l h * k) apart in
    (omega (arith, z, le), reaches rest t u stride m more (omega (arith, apart)) few)
reaches (Index at e low high stride rest) Single u n m h le few = absurd h
reaches (Index at e low high stride rest) (Record us) u n m h le few = absurd h

-- so many components are all of an array
pub components_in : (u : Shape) (d n : ℕ) (t : Shape) → ComponentAt u d n t → n * size t ≡ size u
components_in u zero n t (e, f) = ap (λ n. n * size t) e ∙ one-mul (size t) ∙ ap size f
components_in (Dimension low high u) (suc d) n t (more, e, f) = ap (λ n. n * size t) e ∙ mul_assoc (count low high) more (size t) ∙ ap (λ k. count low high * k) (components_in u d more t f)
components_in Single (suc d) n t h = absurd h
components_in (Record us) (suc d) n t h = absurd h
