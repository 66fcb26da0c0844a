-- A syntax tree: a table of nodes, and the number of its root.
use Rattle.std.specs.Prelude.{ℕ, List}
use Rattle.syntax_tree.specs.Syntax.{Program}
use Rattle.syntax_nodes.specs.Parts.{the_program}
use Rattle.syntax_nodes.specs.Tables.{part_at}
use Rattle.syntax_nodes.specs.declared.nodes.Node.{Node}

pub record Table : Type 0 where
  pub nodes : List Node
  pub root : ℕ

-- the program that a tree stands for
unfoldable pub program_of : Table → Program
program_of t = the_program (part_at t.nodes t.root)
