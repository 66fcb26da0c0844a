-- What is computed beside the walk over nodes.
use Rattle.std.specs.Prelude.{ℕ, ℤ, int_le, ◌&&◌, Bool, true, List, [], ◌∷◌, ◌++◌, slice_get, Option, Some, None, cond}
use Rattle.ada_base.specs.Cuts.{cuts_of}
use Rattle.typed_tree.specs.declared.program.Object.{Object}
use Rattle.behaviours.specs.Paths.{Entity}
use Rattle.typed_tree.specs.declared.node.Node.{Node}
use Rattle.typed_tree.specs.declared.node.Leaf.{Leaf}
use Rattle.typed_tree.specs.declared.node.Leaf.TheVariants as leaf
use Rattle.typed_tree.specs.declared.scalars.Scalar.{Scalar}
use Rattle.typed_tree.specs.declared.scalars.Check.{Check}
use Rattle.typed_tree.specs.Programs.{program}
use Rattle.ada_meaning.specs.Values.{layout, is_in, defaults}
use Rattle.ada_meaning.specs.Operations.{Operations}
use Rattle.ada_meaning.specs.Meaning as meaning
use Rattle.ada_meaning.specs.Meaning.{Passed, Returned, Back}
use Rattle.ada_meaning.specs.Stored
use Rattle.ada_meaning.specs.Stored.{Stored}
use Rattle.run_parts.specs.declared.work.Work.{Work}

abbrev pub nodes_of : Work → List Node
nodes_of w = w.typed.now.nodes

abbrev pub ops : Work → Operations {1}
ops w = Stored.operations w.limit (cuts_of w.plan.now)

-- ---- shut: only the function that goes by a form sees into them

unfoldable pub calls_of : Work → ℕ → ℕ → ℕ → Stored (Unit {0}) → List Passed → Stored Returned
calls_of w d = meaning.call (ops w) w.limit (program w.typed.now) d

abbrev pub cells_at : Work → ℕ → List Scalar
cells_at w n = layout (program w.typed.now).subtypes n

-- a text with a byte more, where the leaf is one
abbrev pub text_with : List ℕ → Leaf → List ℕ
text_with text (leaf.Byte b) = text ++ b ∷ []
text_with text l = text

abbrev pub turned : Work → Stored (Unit {0})
turned w = meaning.turned (ops w)

abbrev pub bounds_hold : Option Check → ℤ → ℤ → Bool
bounds_hold None low high = true
bounds_hold (Some c) low high = cond (int_le low high) (is_in c.scalar low && is_in c.scalar high) true

abbrev pub holds_back : Option Check → List ℤ → Bool
holds_back None vs = true
holds_back (Some c) [] = true
holds_back (Some c) (v ∷ vs) = is_in c.scalar v

abbrev pub defaults_at : Work → Option Object → List ℤ
defaults_at w None = []
defaults_at w (Some o) = defaults (cells_at w o.subtype)

-- the cells of a variable without an initial value
abbrev pub object_defaults : Work → ℕ → List ℤ
object_defaults w x = defaults_at w (slice_get w.typed.now.objects x)

unfoldable pub write_all : Work → ℕ → ℕ → List ℤ → Stored (Unit {0})
write_all w x at vs = meaning.write_all (ops w) x at vs

unfoldable pub read_all : Work → Entity → ℕ → List ℤ → List Scalar → Stored (List ℤ)
read_all w x at so_far ss = meaning.read_all (ops w) x at so_far ss

abbrev pub cells_back : Work → Entity → Option Back → Stored (List ℤ)
cells_back w x back = meaning.cells_back (ops w) w.limit (program w.typed.now) x back

unfoldable pub back_cells : Work → List Passed → List (List ℤ) → Stored (List (List ℤ))
back_cells w ps so_far = meaning.back_cells (ops w) w.limit (program w.typed.now) ps so_far

-- what a function that reduces is given
abbrev pub reduced_by : Work → ℕ → ℤ → ℤ → List Passed
reduced_by w s a b = meaning.reduced_by (ops w) w.limit (program w.typed.now) (calls_of w 0) s a b

abbrev pub formal_of : Work → ℕ → ℕ → ℕ
formal_of w s k = meaning.formal_at (meaning.formals_of (program w.typed.now).subs s) k

module _ (w : Work) (d : ℕ) where
  abbrev pub copied_back : Option Back → List ℤ → Stored (Unit {0})
  copied_back b vs = meaning.copied_back (ops w) w.limit (program w.typed.now) (calls_of w d) b vs

  unfoldable pub all_copied_back : List Passed → List (List ℤ) → Stored (Unit {0})
  all_copied_back ps vss = meaning.all_copied_back (ops w) w.limit (program w.typed.now) (calls_of w d) ps vss
