use Rattle.std.proofs.Common.{◌≡◌, ◌+◌, ◌-◌, [], ◌∷◌, ◌++◌, true, sym, ap, ◌∙◌, subst, refl}
use Rattle.ada_base.specs.Symbols.{next_kind, is_member}
use Rattle.syntax_readers.specs.Example as kind
use Rattle.syntax_readers.specs.ExampleReaders.{also_range}
use Rattle.syntax_readers.specs.Loops.{turns}
use Rattle.syntax_readers.specs.Readers.{read_on, pure}
use Rattle.syntax_readers.proofs.Turns.{turn_found}
use Rattle.syntax_readers.proofs.example.read_ranges.Goals as goal

pub loop-turn-preserved : goal.loop-turn-preserved
loop-turn-preserved c =
    let on : is_member (kind.comma ∷ []) (next_kind c.loop-turn.tokens) ≡ true = subst (λ k. is_member (kind.comma ∷ []) k ≡ true) (sym c.if-peek-ne-COMMA.false ∙ c.peek.ensures) refl in
    let item = ap (λ z. read_on z.0 (λ r. pure (c.loop-turn.found ++ r ∷ [])) z.1) c.in_ok-read_next_range.ensures in
    ap (λ rs. turns (c.left-turn-end.result - (c.loop-turn._turn + 1)) (kind.comma ∷ []) (also_range c.args.levels) rs c.read_next_range.new.tokens) c.in_ok-push-2.ensures.ok
    ∙ sym (turn_found (kind.comma ∷ []) (also_range c.args.levels) c.left-turn-end.result c.loop-turn._turn c.loop-turn.found c.loop-turn.tokens c.loop-turn-test.true on _ _ item)
    ∙ c.loop-turn.invariant
