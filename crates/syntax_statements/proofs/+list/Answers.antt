use Rattle.std.proofs.Common.{◌≡◌, true, false, arith, rules, refl, sym, ◌∙◌, ◌-◌, subst, ap, length, Err}
use Rattle.ada_base.specs.Symbols.{is_member}
use Rattle.syntax_readers.specs.Loops.{turns}
use Rattle.syntax_nodes.specs.Stack.{parts}
use Rattle.syntax_nodes.specs.Rooted.{top, pop, second}
use Rattle.syntax_nodes.specs.Tables.{also_value}
use Rattle.syntax_nodes.specs.Parts.{IsPart, IsClosed, the_decl, the_pack, the_stmts, IsDecl, IsPack, IsStmts}
use Rattle.syntax_expressions.specs.Reading.{Reads}
use Rattle.syntax_expressions.proofs.Turns.{turn_found, turn_fault, turn_ends, turns_end, link_joined, list_closed, list_fault}
use Rattle.syntax_statements.proofs.Read.{reads_part}
use Rattle.syntax_statements.specs.Chains as chains
use Rattle.syntax_statements.proofs.Lists.{chain_list, chain_none, chain_also, chain_closed}
use Rattle.syntax_statements.proofs.+list.Goals as goal

pub chains::item-returns-in-Identifiers : goal.chains::item-returns-in-Identifiers
chains::item-returns-in-Identifiers t c = subst (λ k. Reads (chains.the_item k) IsPart (parts c.args.parser.now.out) (chains.item c.args.levels k c.args.parser.now.tokens) c.next_identifier.result c.next_identifier.new.parser.tokens (parts c.next_identifier.new.parser.out)) (sym c.in-Identifiers.is) c.next_identifier.ensures

pub chains::item-returns-in-Names : goal.chains::item-returns-in-Names
chains::item-returns-in-Names t c = subst (λ k. Reads (chains.the_item k) IsPart (parts c.args.parser.now.out) (chains.item c.args.levels k c.args.parser.now.tokens) c.next_name.result c.next_name.new.parser.tokens (parts c.next_name.new.parser.out)) (sym c.in-Names.is) c.next_name.ensures

pub chains::item-returns-in-Formals : goal.chains::item-returns-in-Formals
chains::item-returns-in-Formals t c = subst (λ k. Reads (chains.the_item k) IsPart (parts c.args.parser.now.out) (chains.item c.args.levels k c.args.parser.now.tokens) c.next_formal.result c.next_formal.new.parser.tokens (parts c.next_formal.new.parser.out)) (sym c.in-Formals.is) c.next_formal.ensures

pub chains::item-returns-in-Indexes : goal.chains::item-returns-in-Indexes
chains::item-returns-in-Indexes t c = subst (λ k. Reads (chains.the_item k) IsPart (parts c.args.parser.now.out) (chains.item c.args.levels k c.args.parser.now.tokens) c.next_index.result c.next_index.new.parser.tokens (parts c.next_index.new.parser.out)) (sym c.in-Indexes.is) c.next_index.ensures

pub chains::item-returns-in-Comps : goal.chains::item-returns-in-Comps
chains::item-returns-in-Comps t c = subst (λ k. Reads (chains.the_item k) IsPart (parts c.args.parser.now.out) (chains.item c.args.levels k c.args.parser.now.tokens) c.comp.result c.comp.new.parser.tokens (parts c.comp.new.parser.out)) (sym c.in-Comps.is) c.comp.ensures

pub chains::item-returns-in-Decls : goal.chains::item-returns-in-Decls
chains::item-returns-in-Decls t c = subst (λ k. Reads (chains.the_item k) IsPart (parts c.args.parser.now.out) (chains.item c.args.levels k c.args.parser.now.tokens) c.decl.result c.decl.new.parser.tokens (parts c.decl.new.parser.out)) (sym c.in-Decls.is) (reads_part the_decl IsDecl _ _ c.decl.result c.decl.new.parser.tokens (parts c.decl.new.parser.out) c.decl.ensures)

pub chains::item-returns-in-Choices : goal.chains::item-returns-in-Choices
chains::item-returns-in-Choices t c = subst (λ k. Reads (chains.the_item k) IsPart (parts c.args.parser.now.out) (chains.item c.args.levels k c.args.parser.now.tokens) c.next_choice.result c.next_choice.new.parser.tokens (parts c.next_choice.new.parser.out)) (sym c.in-Choices.is) c.next_choice.ensures

pub chains::item-returns-in-Exceptions : goal.chains::item-returns-in-Exceptions
chains::item-returns-in-Exceptions t c = subst (λ k. Reads (chains.the_item k) IsPart (parts c.args.parser.now.out) (chains.item c.args.levels k c.args.parser.now.tokens) c.next_exception.result c.next_exception.new.parser.tokens (parts c.next_exception.new.parser.out)) (sym c.in-Exceptions.is) (reads_part the_pack IsPack _ _ c.next_exception.result c.next_exception.new.parser.tokens (parts c.next_exception.new.parser.out) c.next_exception.ensures)

pub chains::item-returns-in-Stmts : goal.chains::item-returns-in-Stmts
chains::item-returns-in-Stmts t c = subst (λ k. Reads (chains.the_item k) IsPart (parts c.args.parser.now.out) (chains.item c.args.levels k c.args.parser.now.tokens) c.stmt.result c.stmt.new.parser.tokens (parts c.stmt.new.parser.out)) (sym c.in-Stmts.is) c.stmt.ensures

pub chains::item-returns-in-Handlers : goal.chains::item-returns-in-Handlers
chains::item-returns-in-Handlers t c = subst (λ k. Reads (chains.the_item k) IsPart (parts c.args.parser.now.out) (chains.item c.args.levels k c.args.parser.now.tokens) c.handler.result c.handler.new.parser.tokens (parts c.handler.new.parser.out)) (sym c.in-Handlers.is) c.handler.ensures

pub chains::item-returns-in-Arms : goal.chains::item-returns-in-Arms
chains::item-returns-in-Arms t c = subst (λ k. Reads (chains.the_item k) IsPart (parts c.args.parser.now.out) (chains.item c.args.levels k c.args.parser.now.tokens) c.arm.result c.arm.new.parser.tokens (parts c.arm.new.parser.out)) (sym c.in-Arms.is) c.arm.ensures

pub chains::item-returns-in-Alts : goal.chains::item-returns-in-Alts
chains::item-returns-in-Alts t c = subst (λ k. Reads (chains.the_item k) IsPart (parts c.args.parser.now.out) (chains.item c.args.levels k c.args.parser.now.tokens) c.alt.result c.alt.new.parser.tokens (parts c.alt.new.parser.out)) (sym c.in-Alts.is) c.alt.ensures

pub chains::item-returns-in-Branches : goal.chains::item-returns-in-Branches
chains::item-returns-in-Branches t c = subst (λ k. Reads (chains.the_item k) IsPart (parts c.args.parser.now.out) (chains.item c.args.levels k c.args.parser.now.tokens) c.and_stmts.result c.and_stmts.new.parser.tokens (parts c.and_stmts.new.parser.out)) (sym c.in-Branches.is) (reads_part the_stmts IsStmts _ _ c.and_stmts.result c.and_stmts.new.parser.tokens (parts c.and_stmts.new.parser.out) c.and_stmts.ensures)

pub chains::item-returns-in-Packs : goal.chains::item-returns-in-Packs
chains::item-returns-in-Packs t c = subst (λ k. Reads (chains.the_item k) IsPart (parts c.args.parser.now.out) (chains.item c.args.levels k c.args.parser.now.tokens) c.next_pack.result c.next_pack.new.parser.tokens (parts c.next_pack.new.parser.out)) (sym c.in-Packs.is) (reads_part the_pack IsPack _ _ c.next_pack.result c.next_pack.new.parser.tokens (parts c.next_pack.new.parser.out) c.next_pack.ensures)

pub chains::item-returns-in-Units : goal.chains::item-returns-in-Units
chains::item-returns-in-Units t c = subst (λ k. Reads (chains.the_item k) IsPart (parts c.args.parser.now.out) (chains.item c.args.levels k c.args.parser.now.tokens) c.unit.result c.unit.new.parser.tokens (parts c.unit.new.parser.out)) (sym c.in-Units.is) c.unit.ensures

pub chains::item-returns-in-Clauses : goal.chains::item-returns-in-Clauses
chains::item-returns-in-Clauses t c = subst (λ k. Reads (chains.the_item k) IsPart (parts c.args.parser.now.out) (chains.item c.args.levels k c.args.parser.now.tokens) c.clause.result c.clause.new.parser.tokens (parts c.clause.new.parser.out)) (sym c.in-Clauses.is) c.clause.ensures

pub chains::follow-loop-turn-init : goal.chains::follow-loop-turn-init
chains::follow-loop-turn-init t c =
    let e : c.left-turn-end.result - 0 ≡ length c.args.parser.now.tokens = omega (arith, c.left-turn-end.ensures) in
    (ap (λ n. turns n (chains.goes c.args.chain) (chains.link c.args.levels c.args.chain) (chains.so_far c.args.chain (top (parts c.args.parser.now.out))) c.args.parser.now.tokens) e, refl)

pub chains::follow-returns-then-not-goes : goal.chains::follow-returns-then-not-goes
chains::follow-returns-then-not-goes t c =
    let off = subst (λ k. is_member (chains.goes c.args.chain) k ≡ false) c.peek.ensures (sym c.goes.ensures ∙ c.if-not-goes.true) in
    (sym c.loop-turn.invariant.0 ∙ turn_ends (chains.goes c.args.chain) (chains.link c.args.levels c.args.chain) c.left-turn-end.result c.loop-turn._turn _ c.loop-turn.parser.tokens c.loop-turn-test.true off, c.loop-turn.invariant.1, tt)

pub chains::follow-returns-in_err-link : goal.chains::follow-returns-in_err-link
chains::follow-returns-in_err-link t c =
    let on = subst (λ k. is_member (chains.goes c.args.chain) k ≡ true) c.peek.ensures (sym c.goes.ensures ∙ c.if-not-goes.false) in
    let h = turn_fault (chains.goes c.args.chain) (chains.link c.args.levels c.args.chain) c.left-turn-end.result c.loop-turn._turn (chains.so_far c.args.chain (top (parts c.loop-turn.parser.out))) c.loop-turn.parser.tokens c.loop-turn-test.true on
    (chains.so_far c.args.chain) IsPart (pop (parts c.loop-turn.parser.out)) (pop (parts c.args.parser.now.out)) _ (parts c.link.new.parser.out) _ c.loop-turn.invariant.0 _ c.in_err-link.ensures in
    search (rules, h)

pub chains::follow-loop-turn-preserved : goal.chains::follow-loop-turn-preserved
chains::follow-loop-turn-preserved t c =
    let on = subst (λ k. is_member (chains.goes c.args.chain) k ≡ true) c.peek.ensures (sym c.goes.ensures ∙ c.if-not-goes.false) in
    let found = c.in_ok-link.ensures in (
      sym (turn_found (chains.goes c.args.chain) (chains.link c.args.levels c.args.chain) c.left-turn-end.result c.loop-turn._turn _ c.loop-turn.parser.tokens c.loop-turn-test.true on _ c.link.new.parser.tokens found.0) ∙ c.loop-turn.invariant.0,
      found.1 ∙ c.loop-turn.invariant.1,
    )

pub chains::follow-returns : goal.chains::follow-returns
chains::follow-returns t c =
    (sym c.loop-turn.invariant.0 ∙ turns_end (chains.goes c.args.chain) (chains.link c.args.levels c.args.chain) c.left-turn-end.result c.loop-turn._turn _ c.loop-turn.parser.tokens c.loop-turn-test.false, c.loop-turn.invariant.1, tt)

pub chains::link-returns : goal.chains::link-returns
chains::link-returns t c =
    link_joined (chains.item c.args.levels c.args.chain) (chains.with_item c.args.chain) (chains.so_far c.args.chain) (chains.the_item c.args.chain) c.args.parser.now.tokens c.item.new.parser.tokens (parts c.args.parser.now.out) (parts c.item.new.parser.out) (parts c.also.new.out)
    (also_value c.list_kind.result (second (parts c.item.new.parser.out)) (top (parts c.item.new.parser.out))) c.also.result
    (ap (λ k. chains.so_far c.args.chain (also_value k (second (parts c.item.new.parser.out)) (top (parts c.item.new.parser.out)))) c.list_kind.ensures ∙ chain_also c.args.chain (second (parts c.item.new.parser.out)) (top (parts c.item.new.parser.out)))
    c.in_ok-item.ensures.0 c.in_ok-item.ensures.1 c.also.ensures

pub chains::list-returns-in_err-follow : goal.chains::list-returns-in_err-follow
chains::list-returns-in_err-follow t c =
    let h = list_fault (chains.goes c.args.chain) (chains.link c.args.levels c.args.chain) (chains.so_far c.args.chain) (chains.the c.args.chain) (chains.none c.args.chain) c.args.parser.now.tokens (parts c.args.parser.now.out) (parts c.nothing.new.out) c.in_ok-nothing.ensures (chain_none c.args.chain)
    c.follow.new.parser.tokens (pop (parts c.nothing.new.out)) (parts c.follow.new.parser.out) (parts c.follow.new.parser.out) _ c.in_err-follow.ensures in
    let g = subst (λ r. Reads {U = Unit {0}} (chains.the c.args.chain) IsPart (parts c.args.parser.now.out) (r c.args.parser.now.tokens) (Err c.in_err-follow.field-0.0) c.follow.new.parser.tokens (parts c.follow.new.parser.out)) (chain_list c.args.levels c.args.chain) h in
    search (rules, g)

pub chains::list-returns : goal.chains::list-returns
chains::list-returns t c =
    subst (λ r. Reads (chains.the c.args.chain) IsPart (parts c.args.parser.now.out) (r c.args.parser.now.tokens) c.close.result c.follow.new.parser.tokens (parts c.close.new.out)) (chain_list c.args.levels c.args.chain)
    (list_closed (chains.goes c.args.chain) (chains.link c.args.levels c.args.chain) (chains.so_far c.args.chain) (chains.the c.args.chain) (chains.none c.args.chain) c.args.parser.now.tokens (parts c.args.parser.now.out) (parts c.nothing.new.out) c.in_ok-nothing.ensures (chain_none c.args.chain)
    c.follow.new.parser.tokens (parts c.follow.new.parser.out) (parts c.close.new.out) c.list_kind.result c.close.result
    (λ k. chain_closed c.args.chain _ _ (subst (λ z. IsClosed z (top (parts c.close.new.out)) (top (parts c.follow.new.parser.out))) c.list_kind.ensures k))
    c.in_ok-follow.ensures.0 c.in_ok-follow.ensures.1 c.close.ensures)
