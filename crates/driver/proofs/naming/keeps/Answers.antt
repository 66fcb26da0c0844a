use Rattle.std.proofs.Common.{◌≡◌, Err}
use borrow.Enum.Total.{values_d}
use Rattle.ada_base.specs.Tokens.{place_of_token}
use Rattle.typed_tree.specs.Programs.{program}
use Rattle.check_blocking.specs.Answer.{Answers}
use Rattle.check_blocking.specs.contracts.calls.Blocked.{enum}
use Rattle.check_blocking.specs.declared.calls.Blocked.{Blocked}
use Rattle.check_blocking.specs.declared.calls.Blocked.TheVariants.{Call}
use Rattle.driver.specs.Compile.{IsRefusal, blocking, refusal_of}
use Rattle.driver.specs.Complaints.{complaint}
use Rattle.driver.specs.declared.note.Note.TheVariants as note
use Rattle.driver.proofs.Steps.{refuses_blocking}
use Rattle.driver.proofs.naming.keeps.Goals as goal

pub returns-in-Err-Call : goal.returns-in-Err-Call
returns-in-Err-Call c = go c.in-Err-Call.field-0 c.in-Err-Call.ensures c.refused.ensures where
  go : (fault : Blocked) → Answers (program c.args.typed.now) (Err fault) → c.refused.result ≡ refusal_of (complaint note.BlockingCall (place_of_token c.args.tokens.now (values_d enum 0 (0, (0, tt {0})) fault).0)) → IsRefusal (blocking c.args.tokens.now) (program c.args.typed.now) c.refused.result
  go (Call at callee) told same = refuses_blocking c.args.tokens.now (program c.args.typed.now) (Call at callee) c.refused.result told same
