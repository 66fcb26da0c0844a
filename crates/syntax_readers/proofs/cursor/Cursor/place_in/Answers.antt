use Rattle.std.proofs.Common.{ap, ◌∙◌, sym}
use Rattle.syntax_readers.specs.Ahead.{kinds}
use Rattle.syntax_readers.specs.Verdicts.{place_in}
use Rattle.syntax_readers.proofs.CursorPlaces.{place-next}
use Rattle.syntax_readers.proofs.cursor.Cursor.place_in.Goals as goal

pub returns-then-self : goal.returns-then-self
returns-then-self c =
    sym (place-next (kinds c.args.all.now) c.self.inside.tokens.now c.self.inside.at c.if-self.true) ∙ ap (place_in (kinds c.args.all.now)) c.self.view_is
