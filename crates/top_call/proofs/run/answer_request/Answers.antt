use Rattle.std.proofs.Common.{refl}
use Rattle.top_call.specs.Answer.{Unread, Read}
use Rattle.top_call.proofs.run.answer_request.Goals as goal

pub returns-in-Ok : goal.returns-in-Ok
returns-in-Ok g c = Read c.deref.result.now (rw c.deref.ensures.value c.in-Ok.ensures.given) c.in-Ok.ensures.faults c.answer_text.ensures

pub returns-in-Err-Failed : goal.returns-in-Err-Failed
returns-in-Err-Failed g c = Unread ((rw c.in-Err-Failed.field-0-is at c.in-Err-Failed.ensures).rose) (record { input = refl; out = refl }) c.say_unreadable-status.ensures
