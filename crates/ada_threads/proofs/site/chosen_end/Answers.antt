use Rattle.std.proofs.Common.{◌≡◌, ap, sym, ◌∙◌, subst}
use Rattle.ada_workers.specs.declared.construct.Over.{Over}
use Rattle.machine_paths.specs.Threads.{ThreadPath}
use Rattle.ada_threads.specs.Came.{EndWell, OfBody, WayWell}
use Rattle.ada_threads.specs.ThreadPaths.{how_by}
use Rattle.ada_threads.specs.declared.way.End.TheVariants as end
use Rattle.ada_threads.specs.declared.way.Way.TheVariants as way
use Rattle.ada_threads.proofs.Overs.{chosen_within, chosen_left, chosen_how, left_is, left_none, ran_at}
use Rattle.ada_threads.proofs.site.chosen_end.Goals as goal

pub bounds-overs-chosen : goal.bounds-overs-chosen
bounds-overs-chosen c = chosen_within c.args.chosen c.args.overs.now c.requires.0 c.requires.1

pub unreachable-requires : goal.unreachable-requires
unreachable-requires c =
    let told = subst (λ (o : Over ThreadPath). o.path.how ≡ how_by c.how.result) (sym c.index-overs-chosen.is) c.how.ensures.how in
    let h = chosen_left c.args.chosen c.args.overs.now c.requires.0 c.requires.1 c.index-overs-chosen.result c.index-overs-chosen.is in
    left_none c.how.result c.requires.1.0 c.in-None.ensures (sym told ∙ h)

pub returns-clause-ends : goal.returns-clause-ends
returns-clause-ends c = λ how a.
    let left = left_is c.how.result c.in-Some.leave c.in-Some.ensures in
    let told = subst (λ (o : Over ThreadPath). o.path.how ≡ how_by c.how.result) (sym c.index-overs-chosen.is) c.how.ensures.how in
    chosen_how c.args.chosen c.args.overs.now how a c.in-Some.leave
    (sym (ap how_by left) ∙ sym told ∙ chosen_left c.args.chosen c.args.overs.now how a c.index-overs-chosen.result c.index-overs-chosen.is)

pub returns-clause-well : goal.returns-clause-well
returns-clause-well c = λ p all.
    let left = left_is c.how.result c.in-Some.leave c.in-Some.ensures in
    let within = chosen_within c.args.chosen c.args.overs.now c.requires.0 c.requires.1 in
    subst (λ r. OfBody r (λ b. EndWell b (end.Left c.in-Some.leave))) (ran_at p c.args.overs.now all c.args.chosen c.index-overs-chosen.result within c.index-overs-chosen.is)
    (subst (λ (o : Over ThreadPath). OfBody o.path (λ b. WayWell b (way.Left c.in-Some.leave))) (sym c.index-overs-chosen.is) (c.how.ensures.well (way.Left c.in-Some.leave) left))
