use Rattle.std.proofs.Common.{◌≡◌, true, false, arith, rules, refl, sym, ◌∙◌, ◌-◌, subst, ap, length, Err}
use Rattle.ada_base.specs.Symbols.{next_kind, is_member}
use Rattle.syntax_readers.specs.Loops.{turns}
use Rattle.syntax_grammar.specs.Levels as level
use Rattle.syntax_nodes.specs.Stack.{parts}
use Rattle.syntax_nodes.specs.Rooted.{top, pop, second}
use Rattle.syntax_nodes.specs.Tables.{also_value}
use Rattle.syntax_nodes.specs.Parts.{IsPart, IsClosed, the_many}
use Rattle.syntax_expressions.specs.Reading.{Reads}
use Rattle.syntax_expressions.specs.Chains as chains
use Rattle.syntax_expressions.proofs.Lists.{chain_list, chain_none, chain_also, chain_closed}
use Rattle.syntax_expressions.proofs.Positions.{positions_stop, positions_none, positions_others, positions_next, positions_fault, not_member, one_member}
use Rattle.syntax_expressions.proofs.Turns.{turn_found, turn_fault, turn_ends, turns_end, link_joined, list_closed, list_fault, reads_as}
use Rattle.syntax_expressions.proofs.+levels.Goals as goal

pub chains::item-returns-in-NameParts : goal.chains::item-returns-in-NameParts
chains::item-returns-in-NameParts t c = subst (λ k. Reads (chains.the_item k) IsPart (parts c.args.parser.now.out) (chains.item (level.levels c.args.levels) k c.args.parser.now.tokens) c.part.result c.part.new.parser.tokens (parts c.part.new.parser.out)) (sym c.in-NameParts.is) c.part.ensures

pub chains::item-returns-in-Multiplyings : goal.chains::item-returns-in-Multiplyings
chains::item-returns-in-Multiplyings t c = subst (λ k. Reads (chains.the_item k) IsPart (parts c.args.parser.now.out) (chains.item (level.levels c.args.levels) k c.args.parser.now.tokens) c.multiplied.result c.multiplied.new.parser.tokens (parts c.multiplied.new.parser.out)) (sym c.in-Multiplyings.is) c.multiplied.ensures

pub chains::item-returns-in-Addings : goal.chains::item-returns-in-Addings
chains::item-returns-in-Addings t c = subst (λ k. Reads (chains.the_item k) IsPart (parts c.args.parser.now.out) (chains.item (level.levels c.args.levels) k c.args.parser.now.tokens) c.added.result c.added.new.parser.tokens (parts c.added.new.parser.out)) (sym c.in-Addings.is) c.added.ensures

pub chains::item-returns-in-Args : goal.chains::item-returns-in-Args
chains::item-returns-in-Args t c = subst (λ k. Reads (chains.the_item k) IsPart (parts c.args.parser.now.out) (chains.item (level.levels c.args.levels) k c.args.parser.now.tokens) c.next_arg.result c.next_arg.new.parser.tokens (parts c.next_arg.new.parser.out)) (sym c.in-Args.is) c.next_arg.ensures

pub chains::item-returns-in-Choices : goal.chains::item-returns-in-Choices
chains::item-returns-in-Choices t c = subst (λ k. Reads (chains.the_item k) IsPart (parts c.args.parser.now.out) (chains.item (level.levels c.args.levels) k c.args.parser.now.tokens) c.next_choice.result c.next_choice.new.parser.tokens (parts c.next_choice.new.parser.out)) (sym c.in-Choices.is) c.next_choice.ensures

pub chains::item-returns-in-Assocs : goal.chains::item-returns-in-Assocs
chains::item-returns-in-Assocs t c = subst (λ k. Reads (chains.the_item k) IsPart (parts c.args.parser.now.out) (chains.item (level.levels c.args.levels) k c.args.parser.now.tokens) c.next_assoc.result c.next_assoc.new.parser.tokens (parts c.next_assoc.new.parser.out)) (sym c.in-Assocs.is) c.next_assoc.ensures

pub chains::item-returns-in-Elsifs : goal.chains::item-returns-in-Elsifs
chains::item-returns-in-Elsifs t c = subst (λ k. Reads (chains.the_item k) IsPart (parts c.args.parser.now.out) (chains.item (level.levels c.args.levels) k c.args.parser.now.tokens) c.next_elsif.result c.next_elsif.new.parser.tokens (parts c.next_elsif.new.parser.out)) (sym c.in-Elsifs.is) c.next_elsif.ensures

pub chains::item-returns-in-Conjuncts : goal.chains::item-returns-in-Conjuncts
chains::item-returns-in-Conjuncts t c = subst (λ k. Reads (chains.the_item k) IsPart (parts c.args.parser.now.out) (chains.item (level.levels c.args.levels) k c.args.parser.now.tokens) c.joined_item.result c.joined_item.new.parser.tokens (parts c.joined_item.new.parser.out)) (sym c.in-Conjuncts.is) c.joined_item.ensures

pub chains::follow-loop-turn-init : goal.chains::follow-loop-turn-init
chains::follow-loop-turn-init t c =
    let e : c.left-turn-end.result - 0 ≡ length c.args.parser.now.tokens = omega (arith, c.left-turn-end.ensures) in
    (ap (λ n. turns n (chains.goes c.args.chain) (chains.link (level.levels c.args.levels) c.args.chain) (chains.so_far c.args.chain (top (parts c.args.parser.now.out))) c.args.parser.now.tokens) e, refl)

pub chains::follow-returns-then-not-goes : goal.chains::follow-returns-then-not-goes
chains::follow-returns-then-not-goes t c =
    let off = subst (λ k. is_member (chains.goes c.args.chain) k ≡ false) c.peek.ensures (sym c.goes.ensures ∙ c.if-not-goes.true) in
    (sym c.loop-turn.invariant.0 ∙ turn_ends (chains.goes c.args.chain) (chains.link (level.levels c.args.levels) c.args.chain) c.left-turn-end.result c.loop-turn._turn _ c.loop-turn.parser.tokens c.loop-turn-test.true off, c.loop-turn.invariant.1, tt)

pub chains::follow-returns-in_err-link : goal.chains::follow-returns-in_err-link
chains::follow-returns-in_err-link t c =
    let on = subst (λ k. is_member (chains.goes c.args.chain) k ≡ true) c.peek.ensures (sym c.goes.ensures ∙ c.if-not-goes.false) in
    let h = turn_fault (chains.goes c.args.chain) (chains.link (level.levels c.args.levels) c.args.chain) c.left-turn-end.result c.loop-turn._turn (chains.so_far c.args.chain (top (parts c.loop-turn.parser.out))) c.loop-turn.parser.tokens c.loop-turn-test.true on
    (chains.so_far c.args.chain) IsPart (pop (parts c.loop-turn.parser.out)) (pop (parts c.args.parser.now.out)) _ (parts c.link.new.parser.out) _ c.loop-turn.invariant.0 _ c.in_err-link.ensures in
    search (rules, h)

pub chains::follow-loop-turn-preserved : goal.chains::follow-loop-turn-preserved
chains::follow-loop-turn-preserved t c =
    let on = subst (λ k. is_member (chains.goes c.args.chain) k ≡ true) c.peek.ensures (sym c.goes.ensures ∙ c.if-not-goes.false) in
    let found = c.in_ok-link.ensures in (
      sym (turn_found (chains.goes c.args.chain) (chains.link (level.levels c.args.levels) c.args.chain) c.left-turn-end.result c.loop-turn._turn _ c.loop-turn.parser.tokens c.loop-turn-test.true on _ c.link.new.parser.tokens found.0) ∙ c.loop-turn.invariant.0,
      found.1 ∙ c.loop-turn.invariant.1,
    )

pub chains::follow-returns : goal.chains::follow-returns
chains::follow-returns t c =
    (sym c.loop-turn.invariant.0 ∙ turns_end (chains.goes c.args.chain) (chains.link (level.levels c.args.levels) c.args.chain) c.left-turn-end.result c.loop-turn._turn _ c.loop-turn.parser.tokens c.loop-turn-test.false, c.loop-turn.invariant.1, tt)

pub chains::link-returns : goal.chains::link-returns
chains::link-returns t c =
    link_joined (chains.item (level.levels c.args.levels) c.args.chain) (chains.with_item c.args.chain) (chains.so_far c.args.chain) (chains.the_item c.args.chain) c.args.parser.now.tokens c.item.new.parser.tokens (parts c.args.parser.now.out) (parts c.item.new.parser.out) (parts c.also.new.out)
    (also_value c.list_kind.result (second (parts c.item.new.parser.out)) (top (parts c.item.new.parser.out))) c.also.result
    (ap (λ k. chains.so_far c.args.chain (also_value k (second (parts c.item.new.parser.out)) (top (parts c.item.new.parser.out)))) c.list_kind.ensures ∙ chain_also c.args.chain (second (parts c.item.new.parser.out)) (top (parts c.item.new.parser.out)))
    c.in_ok-item.ensures.0 c.in_ok-item.ensures.1 c.also.ensures

pub chains::list-returns-in_err-follow : goal.chains::list-returns-in_err-follow
chains::list-returns-in_err-follow t c =
    let h = list_fault (chains.goes c.args.chain) (chains.link (level.levels c.args.levels) c.args.chain) (chains.so_far c.args.chain) (chains.the c.args.chain) (chains.none c.args.chain) c.args.parser.now.tokens (parts c.args.parser.now.out) (parts c.nothing.new.out) c.in_ok-nothing.ensures (chain_none c.args.chain)
    c.follow.new.parser.tokens (pop (parts c.nothing.new.out)) (parts c.follow.new.parser.out) (parts c.follow.new.parser.out) _ c.in_err-follow.ensures in
    let g = subst (λ r. Reads {U = Unit {0}} (chains.the c.args.chain) IsPart (parts c.args.parser.now.out) (r c.args.parser.now.tokens) (Err c.in_err-follow.field-0.0) c.follow.new.parser.tokens (parts c.follow.new.parser.out)) (chain_list (level.levels c.args.levels) c.args.chain) h in
    search (rules, g)

pub chains::list-returns : goal.chains::list-returns
chains::list-returns t c =
    subst (λ r. Reads (chains.the c.args.chain) IsPart (parts c.args.parser.now.out) (r c.args.parser.now.tokens) c.close.result c.follow.new.parser.tokens (parts c.close.new.out)) (chain_list (level.levels c.args.levels) c.args.chain)
    (list_closed (chains.goes c.args.chain) (chains.link (level.levels c.args.levels) c.args.chain) (chains.so_far c.args.chain) (chains.the c.args.chain) (chains.none c.args.chain) c.args.parser.now.tokens (parts c.args.parser.now.out) (parts c.nothing.new.out) c.in_ok-nothing.ensures (chain_none c.args.chain)
    c.follow.new.parser.tokens (parts c.follow.new.parser.out) (parts c.close.new.out) c.list_kind.result c.close.result
    (λ k. chain_closed c.args.chain _ _ (subst (λ z. IsClosed z (top (parts c.close.new.out)) (top (parts c.follow.new.parser.out))) c.list_kind.ensures k))
    c.in_ok-follow.ensures.0 c.in_ok-follow.ensures.1 c.close.ensures)

pub aggregates::positions-returns-then-peek-ne-COMMA : goal.aggregates::positions-returns-then-peek-ne-COMMA
aggregates::positions-returns-then-peek-ne-COMMA t c =
    let off = not_member 278 (next_kind c.loop-turn.parser.tokens) (λ e. c.if-peek-ne-COMMA.true (c.peek.ensures ∙ e)) in
    reads_as the_many IsPart c.positions_end.result c.positions_end.new.parser.tokens (parts c.positions_end.new.parser.out) c.loop-turn.invariant.1
    (sym (positions_stop (level.levels c.args.levels) c.left-turn-end.result c.loop-turn._turn (parts c.loop-turn.parser.out) c.loop-turn.parser.tokens c.loop-turn-test.true off) ∙ c.loop-turn.invariant.0) c.positions_end.ensures

pub aggregates::positions-returns : goal.aggregates::positions-returns
aggregates::positions-returns t c =
    reads_as the_many IsPart c.positions_end-2.result c.positions_end-2.new.parser.tokens (parts c.positions_end-2.new.parser.out) c.loop-turn.invariant.1
    (sym (positions_none (level.levels c.args.levels) c.left-turn-end.result c.loop-turn._turn (parts c.loop-turn.parser.out) c.loop-turn.parser.tokens c.loop-turn-test.false) ∙ c.loop-turn.invariant.0) c.positions_end-2.ensures

pub aggregates::positions-returns-then-peek-eq-OTHERS : goal.aggregates::positions-returns-then-peek-eq-OTHERS
aggregates::positions-returns-then-peek-eq-OTHERS t c =
    let on = one_member 278 (next_kind c.loop-turn.parser.tokens) (sym c.peek.ensures ∙ c.if-peek-ne-COMMA.false) in
    let found = one_member 47 (next_kind c.take.new.self) (sym c.peek-in-loop-turn.ensures ∙ c.if-peek-eq-OTHERS.true) in
    reads_as the_many IsPart c.position_others.result c.position_others.new.parser.tokens (parts c.position_others.new.parser.out) (ap (λ q. pop (pop q)) c.in_ok-close.ensures.0 ∙ c.loop-turn.invariant.1)
    (sym (positions_others (level.levels c.args.levels) c.left-turn-end.result c.loop-turn._turn (parts c.loop-turn.parser.out) c.loop-turn.parser.tokens c.loop-turn-test.true on _ c.take.new.self c.in_ok-take.ensures found (parts c.close.new.out) c.in_ok-close.ensures.0 c.in_ok-close.ensures.1) ∙ c.loop-turn.invariant.0) c.position_others.ensures

pub aggregates::positions-returns-in_err-expr : goal.aggregates::positions-returns-in_err-expr
aggregates::positions-returns-in_err-expr t c =
    let on = one_member 278 (next_kind c.loop-turn.parser.tokens) (sym c.peek.ensures ∙ c.if-peek-ne-COMMA.false) in
    let other = not_member 47 (next_kind c.take.new.self) (λ e. c.if-peek-eq-OTHERS.false (c.peek-in-loop-turn.ensures ∙ e)) in
    let h = positions_fault (level.levels c.args.levels) c.left-turn-end.result c.loop-turn._turn (parts c.loop-turn.parser.out) c.loop-turn.parser.tokens c.loop-turn-test.true on _ c.take.new.self c.in_ok-take.ensures other
    (parts c.loop-turn.parser.out) (pop (pop (pop (parts c.args.parser.now.out)))) c.expr.new.parser.tokens (parts c.expr.new.parser.out) (parts c.expr.new.parser.out) _ c.loop-turn.invariant.0 _ c.in_err-expr.ensures in
    search (rules, h)

pub aggregates::positions-loop-turn-preserved : goal.aggregates::positions-loop-turn-preserved
aggregates::positions-loop-turn-preserved t c =
    let on = one_member 278 (next_kind c.loop-turn.parser.tokens) (sym c.peek.ensures ∙ c.if-peek-ne-COMMA.false) in
    let other = not_member 47 (next_kind c.take.new.self) (λ e. c.if-peek-eq-OTHERS.false (c.peek-in-loop-turn.ensures ∙ e)) in
    let found = c.in_ok-expr.ensures in (
      sym (positions_next (level.levels c.args.levels) c.left-turn-end.result c.loop-turn._turn (parts c.loop-turn.parser.out) c.loop-turn.parser.tokens c.loop-turn-test.true on _ c.take.new.self c.in_ok-take.ensures other
          c.expr.new.parser.tokens (parts c.expr.new.parser.out) (parts c.also.new.out) _ found.0 found.1 refl c.in_ok-also.ensures) ∙ c.loop-turn.invariant.0,
      ap (λ z. pop (pop (pop z))) c.in_ok-also.ensures ∙ ap (λ z. pop (pop (pop z))) found.1 ∙ c.loop-turn.invariant.1,
    )
