-- A part spells first the token that is told of it.
use Rattle.std.proofs.Common.{ℕ}
use Rattle.syntax_tree.specs.Patterns.{Spelling}
use Rattle.syntax_tree.specs.FirstTokens as first
use Rattle.syntax_tree.specs.Productions as spelled
use Rattle.syntax_tree.proofs.Leads.{Leads, held-words, lead-name, lead-expr, lead-range, lead-choice, lead-assoc, lead-decl, lead-stmt, lead-sub, lead-unit, lead-program}
use Rattle.syntax_first_tokens.specs.Laws.{SpellsFirst, FirstTokenLaw}

spelled-first : (spelling : Spelling) (number : ℕ) → Leads spelling number → SpellsFirst spelling number
spelled-first spelling number leads depth word h =
    let found = held-words (spelling depth) number (leads depth) word h in
    record { first = found.0; rest = found.1; whole = found.2; numbered = found.3 }

pub first_token_law : FirstTokenLaw
first_token_law = record {
  expr = λ t. spelled-first (spelled.expr t) (first.of_expr t) (lead-expr t);
  name = λ t. spelled-first (spelled.name' t) (first.of_name t) (lead-name t);
  range = λ t. spelled-first (spelled.range t) (first.of_range t) (lead-range t);
  choice = λ t. spelled-first (spelled.choice t) (first.of_choice t) (lead-choice t);
  assoc = λ t. spelled-first (spelled.assoc t) (first.of_assoc t) (lead-assoc t);
  decl = λ t. spelled-first (spelled.decl t) (first.of_decl t) (lead-decl t);
  stmt = λ t. spelled-first (spelled.stmt t) (first.of_stmt t) (lead-stmt t);
  sub = λ t. spelled-first (spelled.sub t) (first.of_sub t) (lead-sub t);
  unit = λ t. spelled-first (spelled.unit t) (first.of_unit t) (lead-unit t);
  program = λ t. spelled-first (spelled.program t) (first.of_program t) (lead-program t);
}
