use Rattle.std.specs.Str.{chars}
use Rattle.syntax_lexer.proofs.Complete.{has_answer}
use Rattle.syntax_lexer.proofs.OneList.{one_list}
use Rattle.syntax_lexer.proofs.OneFault.{one_fault, no_fault}
use Rattle.syntax_lexer.proofs.text.one_answer.Goals as goal

pub returns : goal.returns
returns c = record { some = has_answer; tokens = λ text items others. one_list (chars text) items others; fault = one_fault; not_both = no_fault }
