use Rattle.std.proofs.Common.{[], ◌∷◌, ◌++◌, sym, ap, ◌∙◌}
use Rattle.std.proofs.lemmas.List.{nil_from_length}
use Rattle.typed_tree.specs.Programs.{program}
use Rattle.ada_lower.specs.Places.{leases_from}
use Rattle.lower_leases.specs.Lent.{site_leases}
use Rattle.lower_leases.proofs.Lent.{sites_next, sites_end}
use Rattle.lower_leases.proofs.leases.all_leases.Goals as goal

pub loop-others-preserved : goal.loop-others-preserved
loop-others-preserved c =
    let f = c.args.found in
    let leases = site_leases (program f.typed.now) f.homes.now f.standings.now c.args.grants.now in
    let found = c.loop-others.all in
    let n = c.loop-others.number in
    ap (λ k. c.push.new.self ++ leases_from leases k c.in-Some.others.now) c.in_ok-number.ensures
    ∙ sites_next leases n c.in-Some.field-0-0.now c.in-Some.others.now found c.push.new.self _ (c.in_ok-push.ensures.ok ∙ ap (λ l. found ++ l ∷ []) c.in_ok-list.ensures)
    (ap (λ xs. found ++ leases_from leases n xs) (sym c.in-Some.ensures.cases.0) ∙ c.loop-others.invariant)

pub returns : goal.returns
returns c =
    let f = c.args.found in
    let leases = site_leases (program f.typed.now) f.homes.now f.standings.now c.args.grants.now in
    sites_end leases c.loop-others.number c.loop-others.all _ (ap (λ xs. c.loop-others.all ++ leases_from leases c.loop-others.number xs) (sym (nil_from_length c.loop-others.rest.now c.in_default.ensures.cases)) ∙ c.loop-others.invariant)
