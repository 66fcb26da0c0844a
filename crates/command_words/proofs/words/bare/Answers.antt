use Rattle.std.proofs.Common.{◌≡◌, ◌∙◌, ap, codes, true}
use Rattle.clap.specs.Simple.{Shape, app_of, app_of_fields, new_app, on_top}
use Rattle.command_words.proofs.words.bare.Goals as goal

abbrev unnamed : Shape → Shape
unnamed s = record s { no_binary_name = true }

abbrev helpless : Shape → Shape
helpless s = record s { disable_help_flag = true }

pub returns : goal.returns
returns c =
    let first : app_of c.no_binary_name.result ≡ on_top unnamed (app_of c.new.result) = ap app_of_fields c.no_binary_name.ensures in
    let second : app_of c.disable_help_flag.result ≡ on_top helpless (app_of c.no_binary_name.result) = ap app_of_fields c.disable_help_flag.ensures in
    let named : app_of c.no_binary_name.result ≡ on_top unnamed (new_app (codes "ada_cmd")) = first ∙ ap (on_top unnamed) c.new.ensures.app in
    second ∙ ap (on_top helpless) named
