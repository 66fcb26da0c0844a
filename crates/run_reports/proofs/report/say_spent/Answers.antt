use Rattle.std.proofs.Common.{ℕ, List, inl, ◌∙◌, subst}
use Rattle.run_reports.specs.Says.{Says}
use Rattle.run_reports.specs.declared.status.Status.TheVariants as status
use Rattle.run_reports.proofs.report.say_spent.Goals as goal

pub returns-in-Ok : goal.returns-in-Ok
returns-in-Ok g c =
    let P : List ℕ → Type 0 = λ l. Says status.Spent l c.say.result (g.E.Sink.state c.args.err.now) (g.E.Sink.state c.say.new.err) in
    inl (subst P (c.as_bytes.ensures.value ∙ c.in-Ok.ensures) c.say.ensures)
