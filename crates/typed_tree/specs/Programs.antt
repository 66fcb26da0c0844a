-- The program that a typed program is.
use Rattle.std.specs.Prelude.{ℕ, List, map}
use Rattle.typed_tree.specs.declared.node.Node.{Node}
use Rattle.typed_tree.specs.declared.program.Bounds.{Bounds}
use Rattle.typed_tree.specs.declared.program.Field as tree-field
use Rattle.typed_tree.specs.declared.program.Formal.{Formal}
use Rattle.typed_tree.specs.declared.program.Sub as tree-sub
use Rattle.typed_tree.specs.declared.program.Subtype as tree-subtype
use Rattle.typed_tree.specs.declared.program.Subtype.TheVariants as subtype
use Rattle.typed_tree.specs.declared.typed.Typed.{Typed}
use Rattle.typed_tree.specs.Decoded.{part_at, as_bounds, as_fields, as_formals, body_at}
use Rattle.typed_tree.specs.Syntax.{Subtype, OfScalar, Array, Record, Sub, Program}

abbrev pub bounds_at : List Node → ℕ → List Bounds
bounds_at nodes k = as_bounds (part_at nodes k)

abbrev pub fields_at : List Node → ℕ → List tree-field.Field
fields_at nodes k = as_fields (part_at nodes k)

abbrev pub formals_at : List Node → ℕ → List Formal
formals_at nodes k = as_formals (part_at nodes k)

abbrev pub subtype_of : List Node → tree-subtype.Subtype → Subtype
subtype_of nodes (subtype.Scalar s) = OfScalar s
subtype_of nodes (subtype.Array dimensions component) = Array (bounds_at nodes dimensions) component
subtype_of nodes (subtype.Record fields) = Record (fields_at nodes fields)

abbrev pub sub_of : List Node → tree-sub.Sub → Sub
sub_of nodes s = record { formals = formals_at nodes s.formals; result = s.result; nonblocking = s.nonblocking; body = body_at nodes s.body }

abbrev pub program : Typed → Program
program t = record {
  subtypes = map (subtype_of t.nodes) t.subtypes;
  objects = t.objects;
  subs = map (sub_of t.nodes) t.subs;
  sites = t.sites;
  exceptions = t.exceptions;
  body = body_at t.nodes t.body;
  nonblocking = t.nonblocking;
  strict = t.strict;
}
