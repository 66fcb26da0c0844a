use Rattle.std.proofs.Common.{length, ap, ◌∙◌}
use Rattle.syntax_readers.proofs.CursorPlaces.{length-ahead}
use Rattle.syntax_readers.proofs.cursor.Cursor.left.Goals as goal

pub returns : goal.returns
returns c = length-ahead c.self.inside.at c.self.inside.tokens.now c.self.inside.at ∙ ap length c.self.view_is
