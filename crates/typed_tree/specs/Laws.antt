-- Laws of tables and of layout.
use Rattle.std.specs.Prelude.{◌≡◌, ℕ, ◌<◌, ◌≤◌, ℤ, List, ◌++◌, length, slice_get, Some}
use Rattle.typed_tree.specs.declared.node.Node.{Node}
use Rattle.typed_tree.specs.declared.program.Bounds.{Bounds}
use Rattle.typed_tree.specs.declared.program.Field as field
use Rattle.typed_tree.specs.declared.program.Formal.{Formal}
use Rattle.typed_tree.specs.declared.program.Object.{Object}
use Rattle.typed_tree.specs.Syntax.{Expr, Body, Program}
use Rattle.typed_tree.specs.Decoded.{part_at, expr_at, body_at}
use Rattle.typed_tree.specs.Ordered.{IsOrdered}
use Rattle.typed_tree.specs.Programs.{bounds_at, fields_at, formals_at}
use Rattle.typed_tree.specs.Written as written
use Rattle.typed_tree.specs.Written.{last}
use Rattle.typed_tree.specs.Layout.{components, AreIndexes, place, Precede, IsLaidOut, HasCell}

-- What nodes put at the end leaves what stood there as it was.
abbrev pub KeptLaw : Type 0
KeptLaw = (nodes more : List Node) (k : ℕ) → k < length nodes → part_at (nodes ++ more) k ≡ part_at nodes k

-- What is written of a part is read as that part, whatever is put after it, and the table stays in order.
pub record WrittenLaw : Type 0 where
  pub expr : (x : Expr) (nodes more : List Node) → IsOrdered nodes
      → IsOrdered (written.expr x nodes) × (expr_at (written.expr x nodes ++ more) (last (written.expr x nodes)) ≡ x)
  pub body : (x : Body) (nodes more : List Node) → IsOrdered nodes
      → IsOrdered (written.body x nodes) × (body_at (written.body x nodes ++ more) (last (written.body x nodes)) ≡ x)
  pub formals : (xs : List Formal) (nodes more : List Node) → IsOrdered nodes
      → IsOrdered (written.formals xs nodes) × (formals_at (written.formals xs nodes ++ more) (last (written.formals xs nodes)) ≡ xs)
  pub bounds : (xs : List Bounds) (nodes more : List Node) → IsOrdered nodes
      → IsOrdered (written.bounds xs nodes) × (bounds_at (written.bounds xs nodes ++ more) (last (written.bounds xs nodes)) ≡ xs)
  pub fields : (xs : List field.Field) (nodes more : List Node) → IsOrdered nodes
      → IsOrdered (written.fields xs nodes) × (fields_at (written.fields xs nodes ++ more) (last (written.fields xs nodes)) ≡ xs)

-- Two objects of one owner share no cell, and those of a thread body leave its first four cells free.
pub record LayoutLaw : Type 0 where
  pub apart : (program : Program) → IsLaidOut program → (i j : ℕ) (a b : Object)
      → slice_get program.objects i ≡ Some a → slice_get program.objects j ≡ Some b → (i ≡ j → ⊥) → a.owner ≡ b.owner
      → (cell : ℕ) → HasCell a cell → HasCell b cell → ⊥
  pub threads : (program : Program) → IsLaidOut program → (i : ℕ) (a : Object)
      → slice_get program.objects i ≡ Some a → length program.subs < a.owner → 4 ≤ a.offset

-- The components of an array stand in row-major order, each at a place of its own among them (3.6.2).
pub record RowMajorLaw : Type 0 where
  pub within : (bs : List Bounds) (is : List ℤ) → AreIndexes bs is → place bs is < components bs
  pub order : (bs : List Bounds) (is js : List ℤ) → AreIndexes bs is → AreIndexes bs js → Precede is js → place bs is < place bs js
  pub apart : (bs : List Bounds) (is js : List ℤ) → AreIndexes bs is → AreIndexes bs js → place bs is ≡ place bs js → is ≡ js
