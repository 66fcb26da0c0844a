-- What stands in an aggregate's brackets, by the numbers of its parts.
use Rattle.std.specs.Prelude.{ℕ, Option, Some, None}
use Rattle.syntax_tree.specs.Syntax as syntax
use Rattle.name_expressions.specs.declared.contents.Contents.{Contents}
use Rattle.name_expressions.specs.declared.contents.Contents.TheVariants as contents'
use Rattle.name_rules.specs.Aggregates as spec
use Rattle.syntax_nodes.specs.Parts.{TreePart, the_assoc, the_assocs, the_expr, the_exprs}
use Rattle.syntax_nodes.specs.Views.{optional_expr}

abbrev pub second_in : (ℕ → TreePart) → Option ℕ → syntax.Exprs → syntax.Exprs
second_in at None es = es
second_in at (Some n) es = syntax.AlsoExpr (the_expr (at n)) es

abbrev pub exprs_in : (ℕ → TreePart) → ℕ → Option ℕ → ℕ → syntax.Exprs
exprs_in at first second more = syntax.AlsoExpr (the_expr (at first)) (second_in at second (the_exprs (at more)))

abbrev pub contents_in : (ℕ → TreePart) → ℕ → Option ℕ → ℕ → Option ℕ → spec.Contents
contents_in at first second more others = spec.ByPosition (exprs_in at first second more) (optional_expr at others)

abbrev pub of_contents : (ℕ → TreePart) → Contents → spec.Contents
of_contents at (contents'.Positions first second more others) = contents_in at first second more others
of_contents at (contents'.Associations first more) = spec.ByAssociation (syntax.AlsoAssoc (the_assoc (at first)) (the_assocs (at more)))
