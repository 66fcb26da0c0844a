use Rattle.std.proofs.Common.{refl}
use Rattle.top_call.specs.Answer.{Wrong, Right, Stated, Unasked}
use Rattle.top_call.proofs.Soaking.{fetches_else}
use Rattle.top_call.proofs.top.answer_words.Goals as goal

pub returns-in-Soak : goal.returns-in-Soak
returns-in-Soak g c = Stated _ c.in-Ok.ensures.0 c.in-Soak.statements c.in-Soak.is refl c.answer_soak.ensures

pub returns-in_default : goal.returns-in_default
returns-in_default g c = Right _ c.in-Ok.ensures.0 (fetches_else _ c.in_default.not-Soak) c.answer_request.ensures

pub returns-in-Err-Usage : goal.returns-in-Err-Usage
returns-in-Err-Usage g c = Wrong (c.in-Err-Usage.ensures c.in-Err-Usage.field-0-is) refl (record { input = refl; out = refl }) c.say_usage-status.ensures

pub returns-in-Err-OutOfMemory : goal.returns-in-Err-OutOfMemory
returns-in-Err-OutOfMemory g c = Unasked refl (record { input = refl; out = refl }) c.say_out_of_memory-status.ensures
