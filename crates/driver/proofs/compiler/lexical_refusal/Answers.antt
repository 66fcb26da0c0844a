use Rattle.std.proofs.Common.{refl}
use Rattle.syntax_tree.specs.Faults.LexicalFault.{TooManyBytes, NoCharacter, NoToken, TooWide, TooManyTokens}
use Rattle.driver.specs.Compile.{lexing}
use Rattle.driver.specs.Complaints.{lexical}
use Rattle.driver.proofs.Steps.{refuses}
use Rattle.driver.proofs.compiler.lexical_refusal.Goals as goal

pub returns-in-TooBig : goal.returns-in-TooBig
returns-in-TooBig c =
    let text = c.args.text.now in
    let fault = TooManyBytes c.in-TooBig._bytes in
    refuses lexing text (lexical text fault) c.of.result (fault, rw c.in-TooBig.is at c.requires, refl) c.of.ensures

pub returns-in-NotUtf8 : goal.returns-in-NotUtf8
returns-in-NotUtf8 c =
    let text = c.args.text.now in
    let fault = NoCharacter c.in-NotUtf8.at in
    refuses lexing text (lexical text fault) c.of-in-NotUtf8.result (fault, rw c.in-NotUtf8.is at c.requires, refl) (rw (← c.place_of_byte.ensures) c.of-in-NotUtf8.ensures)

pub returns-in-BadToken : goal.returns-in-BadToken
returns-in-BadToken c =
    let text = c.args.text.now in
    let fault = NoToken c.in-BadToken.at in
    refuses lexing text (lexical text fault) c.of-in-BadToken.result (fault, rw c.in-BadToken.is at c.requires, refl) c.of-in-BadToken.ensures

pub returns-in-WideLiteral : goal.returns-in-WideLiteral
returns-in-WideLiteral c =
    let text = c.args.text.now in
    let fault = TooWide c.in-WideLiteral.at in
    refuses lexing text (lexical text fault) c.of-in-WideLiteral.result (fault, rw c.in-WideLiteral.is at c.requires, refl) c.of-in-WideLiteral.ensures

pub returns-in-TooLong : goal.returns-in-TooLong
returns-in-TooLong c =
    let text = c.args.text.now in
    let fault = TooManyTokens c.in-TooLong._count c.in-TooLong.at in
    refuses lexing text (lexical text fault) c.of-in-TooLong.result (fault, rw c.in-TooLong.is at c.requires, refl) c.of-in-TooLong.ensures
