use Rattle.std.proofs.Common.{None, sym, subst}
use Rattle.ada_workers.specs.Paths.{Fine}
use Rattle.ada_workers.specs.Threads.{begin_of, Leaves, Leaving}
use Rattle.ada_workers.proofs.Threading.{stays_on, stays_out, may_leave, over_of_stop}
use Rattle.ada_workers.proofs.threads.run_one.Goals as goal

pub returns-in_default-clause-stays : goal.returns-in_default-clause-stays
returns-in_default-clause-stays g c = stays_out c.args.view.now c.enter.new.view c.requires.there c.in_default.ensures.err

pub go-stop-requires-clause-there : goal.go-stop-requires-clause-there
go-stop-requires-clause-there g c = c.in-Ok.ensures.ok.there

pub go-stop-requires-clause-fine : goal.go-stop-requires-clause-fine
go-stop-requires-clause-fine g c = subst (λ l. Fine (g.P.Path.runs c.args.thread.path None l).end) (sym c.in-Ok.ensures.ok.cells) c.requires.fine

pub leave-requires : goal.leave-requires
leave-requires g c =
    subst (λ n. Leaves n c.go-stop.new.view) (sym c.len-many.ensures.many) (may_leave c.args.view.now c.enter.new.view c.go-stop.new.view c.args.thread.frame c.len-many.ensures.own c.in-Ok.ensures.ok c.go-stop.ensures.place)

pub returns-in-NoMemory-clause-stays : goal.returns-in-NoMemory-clause-stays
returns-in-NoMemory-clause-stays g c =
    stays_on c.args.view.now c.enter.new.view c.go-stop.new.view c.leave.new.view c.args.thread.frame c.len-many.ensures.own c.in-Ok.ensures.ok c.go-stop.ensures.place
    (subst (λ n. Leaving n c.go-stop.new.view c.leave.new.view) c.len-many.ensures.many c.leave.ensures)

pub returns-clause-stays : goal.returns-clause-stays
returns-clause-stays g c =
    stays_on c.args.view.now c.enter.new.view c.go-stop.new.view c.leave.new.view c.args.thread.frame c.len-many.ensures.own c.in-Ok.ensures.ok c.go-stop.ensures.place
    (subst (λ n. Leaving n c.go-stop.new.view c.leave.new.view) c.len-many.ensures.many c.leave.ensures)

pub returns-clause-ok : goal.returns-clause-ok
returns-clause-ok g c =
    over_of_stop g.P.Path.runs (begin_of c.args.thread) c.args.view.now.cells c.enter.new.view.cells c.go-stop.new.view.cells c.leave.new.view.cells c.go-stop.new.self c.go-stop.result c.len-many.result
    c.in_default-stop.not-NoMemory c.go-stop.ensures.paused c.in-Ok.ensures.ok.cells c.go-stop.ensures.went c.leave.ensures.cells c.len-many.ensures.many
