-- What an effect is of the names that a text was gathered of: the path is held by a reference.
use Rattle.std.specs.Prelude.{List, map}
use Rattle.check_clashes.specs.declared.effects.Touch.{Touch}
use Rattle.check_clashes.specs.declared.effects.Effect.{Effect}

abbrev pub touch_of : Effect → Touch
touch_of e = record { arm = e.arm; at = e.at; access = e.access; path = e.path.now }

abbrev pub touches_of : List Effect → List Touch
touches_of es = map touch_of es
