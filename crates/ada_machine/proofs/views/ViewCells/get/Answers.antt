use Rattle.std.proofs.Common.{ap, sym, ◌∙◌}
use Rattle.std.specs.Prelude.{Some}
use Rattle.std.proofs.lemmas.Int.{to_z-of_z}
use mir.Syntax.{w64}
use mir.Val.{SFits}
use Rattle.ada_machine.proofs.Viewing.{may_read, reads}
use Rattle.ada_machine.proofs.views.ViewCells.get.Goals as goal

pub get-requires : goal.get-requires
get-requires c = may_read c.args.self.now c.args.at c.requires

pub returns : goal.returns
returns c =
    let fits : SFits w64 c.get.result = record { sfits = c.get.type_inv } in
    reads c.args.self.now c.args.at _ c.requires c.get.ensures ∙ ap (λ v. Some v) (sym (to_z-of_z w64 c.get.result fits))
