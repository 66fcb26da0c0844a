use Rattle.std.proofs.Common.{rules, ◌≡◌, ◌∙◌, ◌++◌, ◌∷◌, [], sym, ap, subst, true, false, length, Some}
use Rattle.std.specs.HashMap.{Updates}
use Rattle.std.specs.Prelude.{is_some}
use Rattle.lower_emission.specs.Texts.{noted}
use Rattle.lower_values.specs.Texts.{found, Listed, same_bytes}
use Rattle.lower_values.proofs.Found.{noted_known, noted_new, listed_new}
use Rattle.lower_values.proofs.texts.Texts.note.Goals as goal

pub returns-then-contains_key : goal.returns-then-contains_key
returns-then-contains_key c =
    let h = ap is_some (sym (c.self.invariant c.args.text)) ∙ (sym c.contains_key.ensures ∙ c.if-contains_key.true) in
    subst (λ l. l ≡ noted l c.args.text.items) c.self.view_is (noted_known c.self.inside.list c.args.text.items h)

pub invariant_of-self-else-is_err : goal.invariant_of-self-else-is_err
invariant_of-self-else-is_err c =
    let fresh : is_some (found c.self.inside.list c.args.text.items) ≡ false = ap is_some (sym (c.self.invariant c.args.text)) ∙ (sym c.contains_key.ensures ∙ c.if-contains_key.false) in
    let grown : c.push.new.self ≡ c.self.inside.list ++ c.args.text.items ∷ [] = c.in_ok-push.ensures.ok ∙ ap (λ w. c.self.inside.list ++ w ∷ []) c.in_ok-words.ensures in
    let n : c.in_ok-number.number ≡ length c.self.inside.list = search rules in
    let u : Updates same_bytes c.self.inside.numbers c.insert.new.self c.args.text (Some c.in_ok-number.number) = search rules in
    subst (λ l. Listed c.insert.new.self l) (sym grown) (listed_new c.self.inside.numbers c.insert.new.self c.args.text c.in_ok-number.number c.self.inside.list fresh u n c.self.invariant)

pub returns : goal.returns
returns c =
    let fresh : is_some (found c.self.inside.list c.args.text.items) ≡ false = ap is_some (sym (c.self.invariant c.args.text)) ∙ (sym c.contains_key.ensures ∙ c.if-contains_key.false) in
    let grown : c.push.new.self ≡ c.self.inside.list ++ c.args.text.items ∷ [] = c.in_ok-push.ensures.ok ∙ ap (λ w. c.self.inside.list ++ w ∷ []) c.in_ok-words.ensures in
    subst (λ l. c.push.new.self ≡ noted l c.args.text.items) c.self.view_is (grown ∙ noted_new c.self.inside.list c.args.text.items fresh)
