use Rattle.std.proofs.Common.{sym, ap, ap₂, ◌∙◌, ℤ, w64}
use Rattle.std.proofs.lemmas.Int.{to_z-of_z}
use Rattle.ada_base.specs.declared.operation.Base.{Base}
use Rattle.ada_base.specs.declared.operation.Base.TheVariants.{Narrow, Wide}
use Rattle.ada_lower.specs.Driven.{op_applied, plain_applied}
use Rattle.ada_threads.proofs.combining.combine_two.Goals as goal

pub returns-in-Narrow : goal.returns-in-Narrow
returns-in-Narrow c k =
    c.combine_plain.ensures k
    ∙ ap₂ (λ (x y : ℤ). plain_applied k c.args.by.op Narrow x y) (to_z-of_z w64 c.args.a c.ranges.a) (to_z-of_z w64 c.args.b c.ranges.b)
    ∙ ap (λ (b : Base). op_applied k c.args.by.op b c.args.a c.args.b) (sym c.in-Narrow.is)

pub returns-in-Wide : goal.returns-in-Wide
returns-in-Wide c k =
    c.combine_plain-in-Wide.ensures k
    ∙ ap₂ (λ (x y : ℤ). plain_applied k c.args.by.op Wide x y) (to_z-of_z w64 c.args.a c.ranges.a) (to_z-of_z w64 c.args.b c.ranges.b)
    ∙ ap (λ (b : Base). op_applied k c.args.by.op b c.args.a c.args.b) (sym c.in-Wide.is)
