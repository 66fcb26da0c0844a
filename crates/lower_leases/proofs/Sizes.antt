-- How many cells subtypes have.
use Rattle.std.proofs.Common.{◌≡◌, ℕ, zero, suc, ◌-◌, ◌≤◌, List, length, slice_get, Result, Ok, Err, IfOk, refl, ap, sym, ◌∙◌, arith}
use Rattle.std.proofs.lemmas.List.{length-map}
use Rattle.typed_tree.specs.declared.typed.Typed.{Typed}
use Rattle.typed_tree.specs.Programs.{program, subtype_of}
use Rattle.typed_tree.specs.Syntax.{Subtype}
use Rattle.ada_meaning.specs.Values.{layout_within}
use Rattle.ada_meaning.specs.Shapes.{Shape, size, shape_of, shape_within}
use Rattle.ada_meaning.proofs.Shapes.{within_size}
use Rattle.lower_emission.specs.Emission.{cells_of}
use Rattle.lower_leases.specs.Paths.{part_shape, shape_in}
use Rattle.lower_leases.specs.declared.shapes.Part.{Part}

pub size_is : (table : List Subtype) (levels number : ℕ) (t : Shape) → t ≡ shape_within table levels number → size t ≡ length (layout_within table levels number)
size_is table levels number t e = ap size e ∙ sym (within_size table levels number)

pub shape_next : (table : List Subtype) (levels number : ℕ) → 1 ≤ levels → shape_within table levels number ≡ shape_of (shape_within table (levels - 1)) (slice_get table number)
shape_next table zero number h = absurd (omega (arith, h))
shape_next table (suc levels) number h = let e : suc levels - 1 ≡ levels = omega arith in rw e refl

pub cells_are : {E : Type 0} (t : Typed) (levels number : ℕ) (p : Part) (result : Result ℕ E) → levels ≡ length t.subtypes → part_shape t p ≡ shape_in t levels number → IfOk result (λ n. n ≡ size (part_shape t p)) → IfOk result (λ n. n ≡ cells_of (program t) number)
cells_are t levels number p (Err why) e s is = tt
cells_are t levels number p (Ok n) e s is =
    is ∙ size_is (program t).subtypes levels number (part_shape t p) s ∙ ap (λ k. length (layout_within (program t).subtypes k number)) (e ∙ sym (length-map t.subtypes (subtype_of t.nodes)))
