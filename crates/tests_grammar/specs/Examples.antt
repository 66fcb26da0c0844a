-- The examples of the grammar, one at least for each rule.
use Rattle.std.specs.Prelude.{List, ◌++◌}
use Rattle.syntax_tree.specs.Grammar.{Derives, IsFirstFault}
use Rattle.tests_grammar.specs.Rows.{Example, changed}
use Rattle.tests_grammar.specs.Declarations as declaration
use Rattle.tests_grammar.specs.Expressions as expression
use Rattle.tests_grammar.specs.Statements as statement
use Rattle.tests_grammar.specs.Units as unit

-- the tree derives the kinds
abbrev pub IsDerived : Example → Type 0
IsDerived e = Derives e.kinds e.tree

-- after the change the kinds are no program's, and the first fault is at the place
abbrev pub IsMissed : Example → Type 0
IsMissed e = IsFirstFault (changed e.change e.kinds) e.fault

abbrev pub examples : List Example
examples = unit.rows ++ (declaration.rows ++ (statement.rows ++ expression.rows))
