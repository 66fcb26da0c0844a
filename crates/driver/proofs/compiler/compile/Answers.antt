use Rattle.driver.proofs.RaceFree.{unit_race_free}
use Rattle.driver.proofs.Standing.{unit_stands}
use Rattle.driver.proofs.Steps.{gives_unit, gives_refusal}
use Rattle.driver.proofs.compiler.compile.Goals as goal

pub returns-clause-all_accepted : goal.returns-clause-all_accepted
returns-clause-all_accepted c = λ p accepted. gives_unit c.args.text.now c.compiled.result p c.compiled.ensures.unit accepted

pub returns-clause-all_refused : goal.returns-clause-all_refused
returns-clause-all_refused c = λ fault wrong. gives_refusal c.args.text.now c.compiled.result fault c.compiled.ensures.unit wrong

pub returns-clause-race_free : goal.returns-clause-race_free
returns-clause-race_free c = unit_race_free c.args.text.now c.compiled.result c.compiled.ensures.unit

pub returns-clause-stands : goal.returns-clause-stands
returns-clause-stands c = unit_stands c.built_stands.ensures c.compiled.result c.compiled.ensures.built
