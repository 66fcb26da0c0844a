use Rattle.std.proofs.Common.{take, ap, sym, ◌∙◌, arith}
use Rattle.std.proofs.lemmas.List.{length-take, take_min}
use Rattle.ada_port.specs.Sinks.{passing_part}
use Rattle.ada_port.proofs.sinks.passing_part.Goals as goal

pub slice_bounds-result-end : goal.slice_bounds-result-end
slice_bounds-result-end c = omega (arith, length-take c.min-pass.result c.args.piece.now)

pub returns-in-Some : goal.returns-in-Some
returns-in-Some c =
    ap (λ n. take n c.args.piece.now) c.min-pass.ensures ∙ take_min c.in-Some.fail.pass c.args.piece.now ∙ ap (λ e. passing_part e c.args.piece.now) (sym c.in-Some.is)
