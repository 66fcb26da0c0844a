use Rattle.ada_io.proofs.Blanks.{white-blank}
use Rattle.ada_io.proofs.phases.is_blank.Goals as goal

pub returns-in-Some : goal.returns-in-Some
returns-in-Some c = let w = white-blank c.args.symbol c.in-Some.byte c.in-Some.is in cc

pub returns-in_default : goal.returns-in_default
returns-in_default c = let w = white-blank c.args.symbol c.in-Some.byte c.in-Some.is in cc
