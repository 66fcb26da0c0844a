use Rattle.std.proofs.Common.{rules}
use Rattle.std.proofs.lemmas.Result.{on_err_weaker, on_ok_weaker}
use Rattle.run_parts.proofs.PathTables.{table_grown, table_pushed}
use Rattle.run_parts.proofs.paths.Paths.push.Goals as goal

pub returns-in_ok-push-in-Some-clause-ok : goal.returns-in_ok-push-in-Some-clause-ok
returns-in_ok-push-in-Some-clause-ok c =
    on_ok_weaker c.push-in-Some-2.result (λ e. search (rules, table_pushed c.self.inside.list c.push-in-Some.new.self c.self.inside.places c.push-in-Some-2.new.self c.in-Some.path c.in-Ok.place c.self.invariant c.in_ok-push-in-Some.ensures.ok e (search rules))) c.push-in-Some-2.ensures.ok

pub returns-in_ok-push-in-Some-clause-err : goal.returns-in_ok-push-in-Some-clause-err
returns-in_ok-push-in-Some-clause-err c =
    on_err_weaker c.push-in-Some-2.result (λ e. search (rules, e, table_grown c.self.inside.list c.push-in-Some.new.self c.self.inside.places c.in-Some.path c.self.invariant c.in_ok-push-in-Some.ensures.ok)) c.push-in-Some-2.ensures.err
