use Rattle.std.proofs.Common.{◌∙◌}
use Rattle.typed_tree.specs.Programs.{program}
use Rattle.lower_leases.proofs.Lent.{leases_are}
use Rattle.lower_leases.proofs.leases.leases_of.Goals as goal

pub returns : goal.returns
returns c =
    leases_are (program c.args.typed.now) c.as_slice.result.now c.as_slice-2.result.now c.as_slice-3.result.now c.args.grants.now.owned c.all_leases.result
    (c.as_slice.ensures ∙ c.in_ok-homes.ensures) (c.as_slice-2.ensures ∙ c.in_ok-standings.ensures) c.as_slice-3.ensures c.all_leases.ensures
