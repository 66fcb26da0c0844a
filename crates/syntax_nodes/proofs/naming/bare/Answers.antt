use Rattle.std.proofs.Common.{sym, ◌∙◌, ap}
use Rattle.syntax_tree.specs.Joining.{bare_identifier, expr_identifier}
use Rattle.syntax_nodes.specs.Parts.{the_expr, the_simple}
use Rattle.syntax_nodes.specs.Stack.{parts}
use Rattle.syntax_nodes.proofs.Sums.{same_identifier}
use Rattle.syntax_nodes.proofs.naming.bare.Goals as goal

pub latest-root-requires : goal.latest-root-requires
latest-root-requires c = c.args.out.now.fit

pub sum_identifier-requires : goal.sum_identifier-requires
sum_identifier-requires c = c.args.out.now.fit

pub returns : goal.returns
unfolding parts
returns c =
    let out = c.args.out.now in
    let is = c.sum_identifier.ensures ∙ ap (λ p. bare_identifier (the_simple p)) c.latest-root.ensures in
    (is, is ∙ sym (ap (λ p. bare_identifier (the_simple p)) c.latest-root.ensures) ∙ sym (same_identifier out.nodes out.roots c.latest-root.result out.fit) ∙ ap (λ p. expr_identifier (the_expr p)) c.latest-root.ensures)
