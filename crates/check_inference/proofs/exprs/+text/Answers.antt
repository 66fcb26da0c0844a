use Rattle.std.proofs.Common.{◌≡◌, OnOk, ap, subst, sym, ◌∙◌}
use Rattle.typed_tree.specs.Decoded.{selections_at}
use Rattle.check_inference.specs.Gather as spec
use Rattle.check_inference.specs.Paths.{place_of}
use Rattle.check_inference.specs.Words.{reduced}
use Rattle.check_inference.proofs.exprs.+text.Goals as goal

pub name-returns : goal.name-returns
name-returns t c = subst
    (λ out. OnOk c.selections.result (c.selections.new.out ≡ spec.gather_selections (place_of c.args.env) (selections_at c.args.source.typed.now.nodes c.args.parts) out))
    (c.in_ok-reach.ensures ∙ ap (λ n. spec.with_touch (place_of c.args.env) c.args.at c.args.access n c.args.out.now) c.in_ok-found.ensures)
    c.selections.ensures

pub reduction-returns-in-Some : goal.reduction-returns-in-Some
reduction-returns-in-Some t c = subst
    (λ number. OnOk c.parallel.result (c.parallel.new.out ≡ reduced c.args.source.typed.now (place_of c.args.env) c.args.parts number c.args.out.now))
    (sym c.in-Some.is)
    c.parallel.ensures
