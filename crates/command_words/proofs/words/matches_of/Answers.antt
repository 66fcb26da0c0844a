use Rattle.std.proofs.Common.{◌∙◌, map}
use Rattle.std.specs.Prelude.{string_bytes}
use Rattle.clap.specs.Simple.{app_of}
use Rattle.command_words.proofs.Matching.{matched}
use Rattle.command_words.proofs.words.matches_of.Goals as goal

pub returns-in-Ok : goal.returns-in-Ok
returns-in-Ok c =
    let parse = c.try_get_matches_from in
    rw c.in-Ok.is at (matched (app_of c.in_ok-command.command) (map string_bytes c.args.words.now) parse.result c.in_ok-command.ensures parse.ensures.kinds parse.ensures.matches)

pub returns-in-Err : goal.returns-in-Err
returns-in-Err c usage =
    let parse = c.try_get_matches_from in
    let says = rw c.in-Err.is at (matched (app_of c.in_ok-command.command) (map string_bytes c.args.words.now) parse.result c.in_ok-command.ensures parse.ensures.kinds parse.ensures.matches) in
    says (λ e. c.fault_of.ensures usage (c.kind.ensures ∙ e))
