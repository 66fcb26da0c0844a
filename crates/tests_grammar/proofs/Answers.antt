-- The examples of the grammar are derived, and at fault after their change; the rows on depth are too deep where they say.
use Rattle.std.proofs.Common.{◌++◌, refl}
use Rattle.std.specs.Prelude.{All}
use Rattle.std.proofs.lemmas.List.Elements.{All-append}
use Rattle.tests_grammar.specs.Depths as depth
use Rattle.tests_grammar.specs.Depths.{IsTooDeepAt, IsReadWithin}
use Rattle.tests_grammar.specs.Examples.{IsDerived, IsMissed, examples}
use Rattle.tests_grammar.specs.Declarations as declaration
use Rattle.tests_grammar.specs.Expressions as expression
use Rattle.tests_grammar.specs.Statements as statement
use Rattle.tests_grammar.specs.Units as unit
use Rattle.tests_grammar.proofs.Answering.{all_readers, all_derived, all_missed, all_deep, all_read}

pub units_derived : All IsDerived unit.rows
unfolding all_readers
units_derived = all_derived unit.rows refl

pub units_missed : All IsMissed unit.rows
unfolding all_readers
units_missed = all_missed unit.rows refl

pub declarations_derived : All IsDerived declaration.rows
unfolding all_readers
declarations_derived = all_derived declaration.rows refl

pub declarations_missed : All IsMissed declaration.rows
unfolding all_readers
declarations_missed = all_missed declaration.rows refl

pub statements_derived : All IsDerived statement.rows
unfolding all_readers
statements_derived = all_derived statement.rows refl

pub statements_missed : All IsMissed statement.rows
unfolding all_readers
statements_missed = all_missed statement.rows refl

pub expressions_derived : All IsDerived expression.rows
unfolding all_readers
expressions_derived = all_derived expression.rows refl

pub expressions_missed : All IsMissed expression.rows
unfolding all_readers
expressions_missed = all_missed expression.rows refl

pub too_deep : All IsTooDeepAt depth.rows
unfolding all_readers
too_deep = all_deep depth.rows refl

pub read_within : All IsReadWithin depth.rows
unfolding all_readers
read_within = all_read depth.rows refl

-- ---- all of them

pub examples_derived : All IsDerived examples
examples_derived =
    All-append IsDerived unit.rows (declaration.rows ++ (statement.rows ++ expression.rows)) units_derived
    (All-append IsDerived declaration.rows (statement.rows ++ expression.rows) declarations_derived (All-append IsDerived statement.rows expression.rows statements_derived expressions_derived))

pub examples_missed : All IsMissed examples
examples_missed =
    All-append IsMissed unit.rows (declaration.rows ++ (statement.rows ++ expression.rows)) units_missed
    (All-append IsMissed declaration.rows (statement.rows ++ expression.rows) declarations_missed (All-append IsMissed statement.rows expression.rows statements_missed expressions_missed))
