use Rattle.cell_strip.proofs.Rows.{below, without_row, by_row}
use Rattle.cell_strip.proofs.region.Region.has.Goals as goal
use Rattle.cell_strip.proofs.region.Region.has.Goals.{then-at-self-via-then-at-self, then-at-self-via-else-at-self+then-self-eq0}

pub returns-then-at-self : goal.returns-then-at-self
returns-then-at-self c = elim c.then-at-self.branch [
  | then-at-self-via-then-at-self w ↦ below c.args.self.now c.args.at w.if-at-self.true
  | then-at-self-via-else-at-self+then-self-eq0 w ↦ without_row c.args.self.now c.args.at w.if-self-eq0.true
]

pub returns : goal.returns
returns c = by_row c.args.self.now c.args.at c.last_row-row.result c.from.result c.from-2.result c.if-at-self.false c.from.ensures c.from-2.ensures c.last_row-row.ensures
