-- What attributes make of their arguments (3.5, 4.10).
use Rattle.std.specs.Prelude.{ℕ, Option, if◌then◌else◌, slice_get}
use Rattle.typed_tree.specs.Decoded.{TypedPart}
use Rattle.typed_tree.specs.Syntax.{Expr}
use Rattle.name_rules.specs.Attributes.{bound_alone, bound_in, dimensions_in, image_text, is_array_object, is_bound, is_reduction, mentioned, prefix_subtype, reduced_alone, step}
use Rattle.name_rules.specs.Found.{Denoted}
use Rattle.name_rules.specs.Judging.{Judging, fault, read, ◌>>=◌}
use Rattle.name_rules.specs.declared.found.Attribute.{Attribute}
use Rattle.name_rules.specs.declared.found.Prefix.{Prefix}
use Rattle.name_rules.specs.declared.log.Rule.TheVariants.{WrongType}
use Rattle.name_rules.specs.declared.types.Kind.{Kind}
use Rattle.name_expressions.specs.declared.attribute_rules.One.TheVariants as one
use Rattle.name_expressions.specs.declared.attribute_rules.One.{One}

-- of one argument: its image, or a sum with 1
abbrev pub one_made : One → ℕ → Kind → Expr → Denoted
one_made one.Image first k = image_text first k
one_made (one.Step o) first k = step first k o

-- an attribute alone that isn't the image of an object
abbrev pub other_alone : ℕ → Prefix → TypedPart → ℕ → Attribute → Judging (Option Denoted)
other_alone first p x at a =
    if is_bound a then bound_alone first p x a else
    if is_reduction a then (read (λ log. is_array_object log p) >>= reduced_alone first at) else fault first WrongType

-- of an array's first dimension
abbrev pub bound_of : ℕ → Prefix → TypedPart → Attribute → Judging (Option Denoted)
bound_of first p x a = read (λ log. slice_get (dimensions_in log (prefix_subtype p)) 0) >>= bound_in first (mentioned p x) a
