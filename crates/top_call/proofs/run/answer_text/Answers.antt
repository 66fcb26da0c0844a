use Rattle.std.proofs.Common.{refl}
use Rattle.driver.specs.Compiled.{compiled_of}
use Rattle.top_call.specs.Answer.{Checks, Soaks, Starts}
use Rattle.top_call.proofs.Answering.{lists_text, refuses_text}
use Rattle.top_call.proofs.run.answer_text.Goals as goal

pub returns-in-Err : goal.returns-in-Err
returns-in-Err g c = refuses_text _ c.args.text.now c.in-Err.refusal c.say_refusal-status.result _ _ _ _ c.in-Err.ensures.refused c.say_refusal-status.ensures

pub returns-in-Check : goal.returns-in-Check
returns-in-Check g c = Checks (compiled_of c.in-Ok.unit) c.in-Ok.ensures.accepted c.in-Check.is (refl, c.say_accepted-status.ensures)

pub returns-in-Run : goal.returns-in-Run
returns-in-Run g c = Starts _ c.in-Ok.ensures.accepted c.in-Run.is c.run_unit.ensures

pub returns-in-Soak : goal.returns-in-Soak
returns-in-Soak g c = Soaks _ c.in-Ok.ensures.accepted c.in-Soak.statements c.in-Soak.is c.run_soak.ensures

pub returns-in-List : goal.returns-in-List
returns-in-List g c = lists_text _ c.args.text.now (compiled_of c.in-Ok.unit) c.in-Ok.unit.code c.say_listing-status.result _ _ _ _ _ c.in-Ok.ensures.accepted c.in-List.is c.in-Ok.ensures.built.coded c.in-Ok.ensures.stands c.say_listing-status.ensures
