use Rattle.std.proofs.Common.{sym, ap, ◌∙◌, subst, Result, Ok, Err}
use Rattle.ada_base.specs.Symbols.{numbered}
use Rattle.syntax_tree.specs.Grammar.{ProgramWords}
use Rattle.syntax_tree.specs.Parsed.{depth_limit}
use Rattle.syntax_grammar.specs.Units as reader
use Rattle.syntax_readers.specs.Ahead.{kinds}
use Rattle.syntax_readers.specs.Verdicts.{RightVerdict}
use Rattle.syntax_laws.proofs.Units.{right}
use Rattle.syntax_nodes.specs.Parts.{the_program, IsPart}
use Rattle.syntax_nodes.specs.Rooted.{top}
use Rattle.syntax_nodes.specs.Stack.{parts}
use Rattle.syntax_expressions.specs.Reading.{Reads}
use Rattle.syntax_parse.proofs.Judging.{judged, told_of}
use Rattle.syntax_nodes.specs.Trees as trees
use Rattle.syntax_parse.proofs.parser.judge.Goals as goal

pub returns-in-Ok-verdict : goal.returns-in-Ok-verdict
unfolding trees.program_of
returns-in-Ok-verdict c =
    let new = c.program-read.new.parser in
    let spoken = kinds c.args.all.now in
    let read = subst (λ ts. Reads the_program IsPart (parts c.in-Ok.out) (reader.program depth_limit ts) c.program-read.result new.tokens (parts new.out)) c.new.ensures c.program-read.ensures in
    let whole = judged depth_limit ProgramWords spoken the_program IsPart (parts c.in-Ok.out) (reader.program depth_limit (numbered 0 spoken)) c.program-read.result new.tokens (parts new.out) (right depth_limit spoken) read in
    subst (λ p. RightVerdict depth_limit ProgramWords spoken (Ok (the_program p))) (sym c.finish.ensures)
    (subst (λ r. RightVerdict depth_limit ProgramWords spoken (told_of (the_program (top (parts new.out))) r)) (sym c.verdict.ensures ∙ c.in-Ok-verdict.is) whole)

pub returns-in-Err : goal.returns-in-Err
returns-in-Err c =
    let new = c.program-read.new.parser in
    let spoken = kinds c.args.all.now in
    let read = subst (λ ts. Reads the_program IsPart (parts c.in-Ok.out) (reader.program depth_limit ts) c.program-read.result new.tokens (parts new.out)) c.new.ensures c.program-read.ensures in
    let whole = judged depth_limit ProgramWords spoken the_program IsPart (parts c.in-Ok.out) (reader.program depth_limit (numbered 0 spoken)) c.program-read.result new.tokens (parts new.out) (right depth_limit spoken) read in
    subst (λ r. RightVerdict depth_limit ProgramWords spoken (told_of (the_program (top (parts new.out))) r)) (sym c.verdict.ensures ∙ c.in-Err.is) whole
