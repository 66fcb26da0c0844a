use Rattle.check_effects.proofs.laws.Goals as goal
use Rattle.check_effects.proofs.Races.{race_free, granted, all_covered, shares_apart}
use Rattle.check_effects.proofs.Touching.{touch_law}
use Rattle.check_effects.proofs.Accepting.{accept_law}
use Rattle.check_effects.proofs.Clipping.{clip_law}
use Rattle.check_effects.proofs.Clashes.{clash_law}
use Rattle.check_effects.proofs.Forming.{formed_law, backwards_law}

pub returns-clause-race_free : goal.returns-clause-race_free
returns-clause-race_free c = race_free

pub returns-clause-granted : goal.returns-clause-granted
returns-clause-granted c = granted

pub returns-clause-touching : goal.returns-clause-touching
returns-clause-touching c = touch_law

pub returns-clause-formed : goal.returns-clause-formed
returns-clause-formed c = formed_law

pub returns-clause-backwards : goal.returns-clause-backwards
returns-clause-backwards c = backwards_law

pub returns-clause-clashes : goal.returns-clause-clashes
returns-clause-clashes c = clash_law

pub returns-clause-covered : goal.returns-clause-covered
returns-clause-covered c = all_covered

pub returns-clause-accepted : goal.returns-clause-accepted
returns-clause-accepted c = accept_law

pub returns-clause-shares : goal.returns-clause-shares
returns-clause-shares c = shares_apart

pub returns-clause-clipped : goal.returns-clause-clipped
returns-clause-clipped c = clip_law
