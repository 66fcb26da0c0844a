-- Parts of objects as code has them, and what it makes of the way to a part.
use Rattle.std.specs.Prelude.{◌≡◌, ℕ, pos, List, [], ◌∷◌, ◌++◌, Option, Some, None, IsTrue}
use Rattle.typed_tree.specs.declared.typed.Typed.{Typed}
use Rattle.typed_tree.specs.Programs.{program, bounds_at, fields_at}
use Rattle.ada_meaning.specs.Shapes.{Shape, size, Single, Record, Dimension, NoShape, array_of, fields_of, shape_within}
use Rattle.stack_code.specs.declared.code.Step.{Step}
use Rattle.stack_code.specs.declared.code.Step.TheVariants as step
use Rattle.ada_lower.specs.Leases.{Way, steps_of}
use Rattle.lower_leases.specs.declared.shapes.Form.{Form}
use Rattle.lower_leases.specs.declared.shapes.Form.TheVariants as form
use Rattle.lower_leases.specs.declared.shapes.Head.{Head}
use Rattle.lower_leases.specs.declared.shapes.Head.TheVariants as head
use Rattle.lower_leases.specs.declared.shapes.Part.{Part}
use Rattle.lower_leases.specs.declared.shapes.Placed.{Placed}
use Rattle.lower_leases.specs.declared.paths.End.{End}
use Rattle.lower_leases.specs.declared.paths.Indexed.{Indexed}
use Rattle.lower_leases.specs.declared.paths.Path.{Path}
use Rattle.lower_leases.specs.declared.paths.Walk.{Walk}

module _ (t : Typed) where
  -- subtypes whose parts are so many levels deep
  abbrev pub shape_in : ℕ → ℕ → Shape
  shape_in levels number = shape_within (program t).subtypes levels number

  abbrev pub form_shape : ℕ → Form → Shape
  form_shape levels form.Empty = Record NoShape
  form_shape levels form.Scalar = Single
  form_shape levels (form.Array dimensions component) = array_of (bounds_at t.nodes dimensions) (shape_in levels component)
  form_shape levels (form.Record fields) = Record (fields_of (shape_in levels) (fields_at t.nodes fields))

  abbrev pub part_shape : Part → Shape
  part_shape p = form_shape p.levels p.form

  -- the same by its first dimension, if it has one
  abbrev pub front_shape : Head → Shape
  front_shape (head.Dimension low high inner) = Dimension low high (part_shape inner)
  front_shape (head.Record levels fields) = Record (fields_of (shape_in levels) (fields_at t.nodes fields))
  front_shape head.Single = Single
  front_shape head.Empty = Record NoShape

  abbrev pub dimension_shape : Indexed → Shape
  dimension_shape i = Dimension i.low i.high (part_shape i.inner)

  abbrev pub placed_shape : Placed → ℕ × Shape
  placed_shape p = (p.cell, part_shape p.part)

-- what the item of a construct over an array adds
abbrev pub item_steps : Option ℕ → ℕ → List Step
item_steps None size = []
item_steps (Some places) size = step.Loop (pos 1) places size ∷ []

-- the way that ends at a part
abbrev pub here : ℕ → Shape → Option Way
here n t = Some (record { base = n; places = []; run = size t })

-- behind steps that lead to the place where the way begins
abbrev pub path_by : List Step → Option Way → Option Path
path_by before None = None
path_by before (Some w) = Some (record { base = w.base; steps = before ++ steps_of w.places; run = w.run })

-- a way, by its steps
abbrev pub path_found : Option End → List Step → Option Path
path_found None steps = None
path_found (Some e) steps = Some (record { base = e.base; steps = steps; run = e.run })

-- if all had room, what was found before had room, and these are the steps now
abbrev pub Walks : List Step → Walk → Walk → Type 0
Walks steps before after = IsTrue after.whole → IsTrue before.whole × (after.steps ≡ steps)
