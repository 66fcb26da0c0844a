-- The rows, computed.
use Rattle.std.proofs.Common.{refl}
use Rattle.lower_emission.specs.Emission.{emit}
use Rattle.lower_emission.specs.Statements.{stmt, piece_values, back_code}
use Rattle.lower_emission.specs.Texts.{stmt_texts}
use Rattle.lower_emission.specs.StatementRows.{Adds, Decides, Chooses, Fills, Computes, GoesRound, Selects, Gets}
use Rattle.lower_emission.specs.ValueRows.{Picks, Finds, Copies, HandsOver}
use Rattle.lower_emission.specs.LoopRows.{Counts, Exits, Sums, Descends, Skips, Visits, Reduces, Crosses, Mixes}
use Rattle.lower_emission.specs.BodyRows.{Handles, Passes, Calls}
use Rattle.lower_emission.specs.ConstructRows.{Shares, Parts, Gathers, Leaves}
use Rattle.lower_emission.specs.ThreadRows.{Deals, Marks, Reaches, Nests, Divides, ReturnsEarly, Catches, Folds, Mentioned}

pub adds : Adds
unfolding emit stmt piece_values stmt_texts
adds = (refl, refl)

pub decides : Decides
unfolding emit stmt stmt_texts
decides = (refl, refl)

pub chooses : Chooses
unfolding emit stmt stmt_texts
chooses = (refl, refl)

pub fills : Fills
unfolding emit stmt stmt_texts
fills = (refl, refl)

pub computes : Computes
unfolding emit stmt stmt_texts
computes = ((refl, refl), (refl, refl))

pub goes_round : GoesRound
unfolding emit stmt stmt_texts
goes_round = ((refl, refl), (refl, refl))

pub selects : Selects
unfolding emit stmt stmt_texts
selects = (refl, refl)

pub gets : Gets
unfolding emit stmt piece_values stmt_texts
gets = (refl, refl)

pub picks : Picks
unfolding emit stmt stmt_texts
picks = (refl, refl)

pub finds : Finds
unfolding emit stmt stmt_texts
finds = (refl, refl)

pub copies : Copies
unfolding emit stmt stmt_texts
copies = (refl, refl)

pub hands_over : HandsOver
unfolding emit stmt back_code stmt_texts
hands_over = (refl, refl)

pub counts : Counts
unfolding emit stmt stmt_texts
counts = (refl, refl)

pub exits : Exits
unfolding emit stmt stmt_texts
exits = (refl, refl)

pub sums : Sums
unfolding emit stmt stmt_texts
sums = (refl, refl)

pub descends : Descends
unfolding emit stmt stmt_texts
descends = (refl, refl)

pub skips : Skips
unfolding emit stmt stmt_texts
skips = (refl, refl)

pub visits : Visits
unfolding emit stmt stmt_texts
visits = (refl, refl)

pub reduces : Reduces
unfolding emit stmt stmt_texts
reduces = (refl, refl)

pub crosses : Crosses
unfolding emit stmt stmt_texts
crosses = (refl, refl)

pub mixes : Mixes
unfolding emit stmt stmt_texts
mixes = (refl, refl)

pub handles : Handles
unfolding emit stmt stmt_texts
handles = (refl, refl)

pub passes : Passes
unfolding emit stmt back_code stmt_texts
passes = (refl, refl)

pub calls : Calls
unfolding emit stmt stmt_texts
calls = (refl, refl)

pub shares : Shares
unfolding emit stmt stmt_texts
shares = (refl, refl)

pub parts : Parts
unfolding emit stmt stmt_texts
parts = (refl, refl)

pub gathers : Gathers
unfolding emit stmt stmt_texts
gathers = (refl, refl)

pub leaves : Leaves
unfolding emit stmt stmt_texts
leaves = (refl, refl)

pub deals : Deals
unfolding emit stmt stmt_texts
deals = (refl, refl)

pub marks : Marks
unfolding emit stmt stmt_texts
marks = (refl, refl)

pub reaches : Reaches
unfolding emit stmt stmt_texts
reaches = (refl, refl)

pub nests : Nests
unfolding emit stmt stmt_texts
nests = (refl, refl)

pub divides : Divides
unfolding emit stmt stmt_texts
divides = (refl, refl)

pub returns_early : ReturnsEarly
unfolding emit stmt stmt_texts
returns_early = (refl, refl)

pub catches : Catches
unfolding emit stmt stmt_texts
catches = (refl, refl)

pub folds : Folds
unfolding emit stmt stmt_texts
folds = (refl, refl)

pub mentioned : Mentioned
unfolding emit stmt stmt_texts
mentioned = (refl, refl)
