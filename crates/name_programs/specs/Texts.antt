-- What statements and expressions of a text are judged by.
use Rattle.std.specs.Prelude.{ℕ}
use Rattle.name_programs.specs.Around as outcome
use Rattle.name_programs.specs.declared.text.Text.{Text}
use Rattle.name_rules.specs.Expressions.{Inside}
use Rattle.name_rules.specs.Primaries.{inside}
use Rattle.name_rules.specs.Statements.{Around}
use Rattle.syntax_nodes.specs.Parts.{TreePart}
use Rattle.syntax_nodes.specs.Tables.{part_at}

-- what a statement is judged by, in which others may stand in so many levels
abbrev pub in_text : Text → ℕ → Around
in_text text below = outcome.in_levels text.names.now text.levels below

-- the judgement of what stands in one bracket more
abbrev pub brackets : Text → Inside
brackets text = inside text.names.now text.levels

-- what a number of the text stands for
abbrev pub node_of : Text → ℕ → TreePart
node_of text = part_at text.tree.now.nodes
