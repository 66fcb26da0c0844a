use Rattle.std.proofs.Common.{◌++◌, Some, sym, ap, ◌∙◌}
use Rattle.std.proofs.lemmas.List.{nil_from_length}
use Rattle.typed_tree.specs.Programs.{program}
use Rattle.ada_lower.specs.Leases.{all_leased}
use Rattle.ada_lower.specs.Places.{names_from}
use Rattle.lower_leases.specs.Grants.{granted_by}
use Rattle.lower_leases.proofs.Lent.{grants_next, grants_end}
use Rattle.lower_leases.proofs.leases.granted.Goals as goal

pub loop-grant-preserved : goal.loop-grant-preserved
loop-grant-preserved c =
    let s = c.args.seen in
    let found = c.loop-grant.all in
    grants_next (program s.typed.now) s.standing s.homes.now c.args.site c.in-Some.grant.now c.in-Some.others.now found c.with_grant.new.out _ c.in_ok-with_grant.ensures
    (ap (λ gs. found ++ all_leased (program s.typed.now) (names_from (Some s.standing) s.homes.now) s.standing.ranges (granted_by gs c.args.site)) (sym c.in-Some.ensures.cases.0) ∙ c.loop-grant.invariant)

pub returns : goal.returns
returns c =
    let s = c.args.seen in
    let found = c.loop-grant.all in
    grants_end (program s.typed.now) s.standing s.homes.now c.args.site found _
    (ap (λ gs. found ++ all_leased (program s.typed.now) (names_from (Some s.standing) s.homes.now) s.standing.ranges (granted_by gs c.args.site)) (sym (nil_from_length c.loop-grant.rest.now c.in_default.ensures.cases)) ∙ c.loop-grant.invariant)
