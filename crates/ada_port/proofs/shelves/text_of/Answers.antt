use Rattle.std.proofs.Common.{ap, sym, ◌∙◌}
use Rattle.std.specs.Str.{bytes_eq}
use Rattle.ada_port.proofs.Texts.{text-found, text-passed}
use Rattle.ada_port.proofs.shelves.text_of.Goals as goal

pub returns-then-eq : goal.returns-then-eq
returns-then-eq c =
    text-found c.loop-text.rest.now c.in-Some.others.now c.in-Some.text.now c.args.name.now _ _ c.in-Some.ensures.cases.0 (ap (λ b. bytes_eq b c.args.name.now) (sym c.as_str.ensures.value) ∙ sym c.eq.ensures ∙ c.if-eq.true) c.deref.ensures.value c.loop-text.invariant

pub loop-text-preserved : goal.loop-text-preserved
loop-text-preserved c =
    text-passed c.loop-text.rest.now c.in-Some.others.now c.in-Some.text.now c.args.name.now _ c.in-Some.ensures.cases.0 (ap (λ b. bytes_eq b c.args.name.now) (sym c.as_str.ensures.value) ∙ sym c.eq.ensures ∙ c.if-eq.false) c.loop-text.invariant
