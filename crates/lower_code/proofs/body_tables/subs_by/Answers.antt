use Rattle.std.proofs.Common.{refl}
use Rattle.std.proofs.lemmas.List.{drop_more}
use Rattle.lower_code.specs.BodyTables as spec
use Rattle.lower_code.proofs.Grown.{subs_by_kept}
use Rattle.lower_code.proofs.TableSteps.{ended}
use Rattle.lower_code.proofs.body_tables.subs_by.Goals as goal

pub loop-start-preserved : goal.loop-start-preserved
loop-start-preserved c =
    subs_by_kept c.args.starts.now c.loop-start.start-index _ _ _ _ _ (drop_more c.args.starts.now c.loop-start.start-index _ c.loop-start-test.true) c.in_ok-sub_by.ensures.is c.in_ok-push.ensures.ok c.loop-start.invariant

pub returns : goal.returns
returns c = ended (λ ss. spec.subs_by ss) c.args.starts.now c.loop-start.start-index _ _ refl c.loop-start-test.false c.loop-start.invariant
