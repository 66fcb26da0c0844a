-- Chains by their kinds.
use Rattle.std.proofs.Common.{◌≡◌, refl, ℕ}
use Rattle.syntax_nodes.specs.Parts.{TreePart, Nothing, IsClosed}
use Rattle.syntax_nodes.specs.Tables.{also_value}
use Rattle.syntax_statements.specs.Chains as chains
use Rattle.syntax_statements.specs.declared.chains.Chain.{Chain}
use Rattle.syntax_statements.specs.declared.chains.Chain.TheVariants as chain
use Rattle.syntax_readers.specs.Loops.{chain as loop}
use Rattle.syntax_grammar.specs.Declarations.{decls}
use Rattle.syntax_grammar.specs.Statements.{more_choices, arms, more_alts, branches}
use Rattle.syntax_grammar.specs.Units.{units, clauses}

pub chain_list : (n : ℕ) (c : Chain) → loop (chains.goes c) (chains.link n c) (chains.none c) ≡ chains.items n c
unfolding decls more_choices arms more_alts branches units clauses
chain_list n chain.Identifiers = refl
chain_list n chain.Names = refl
chain_list n chain.Formals = refl
chain_list n chain.Indexes = refl
chain_list n chain.Comps = refl
chain_list n chain.Decls = refl
chain_list n chain.Choices = refl
chain_list n chain.Exceptions = refl
chain_list n chain.Stmts = refl
chain_list n chain.Handlers = refl
chain_list n chain.Arms = refl
chain_list n chain.Alts = refl
chain_list n chain.Branches = refl
chain_list n chain.Packs = refl
chain_list n chain.Units = refl
chain_list n chain.Clauses = refl

pub chain_none : (c : Chain) → chains.so_far c Nothing ≡ chains.none c
chain_none chain.Identifiers = refl
chain_none chain.Names = refl
chain_none chain.Formals = refl
chain_none chain.Indexes = refl
chain_none chain.Comps = refl
chain_none chain.Decls = refl
chain_none chain.Choices = refl
chain_none chain.Exceptions = refl
chain_none chain.Stmts = refl
chain_none chain.Handlers = refl
chain_none chain.Arms = refl
chain_none chain.Alts = refl
chain_none chain.Branches = refl
chain_none chain.Packs = refl
chain_none chain.Units = refl
chain_none chain.Clauses = refl

pub chain_also : (c : Chain) (b a : TreePart) → chains.so_far c (also_value (chains.kind_of c) b a) ≡ chains.with_item c (chains.so_far c b) (chains.the_item c a)
chain_also chain.Identifiers b a = refl
chain_also chain.Names b a = refl
chain_also chain.Formals b a = refl
chain_also chain.Indexes b a = refl
chain_also chain.Comps b a = refl
chain_also chain.Decls b a = refl
chain_also chain.Choices b a = refl
chain_also chain.Exceptions b a = refl
chain_also chain.Stmts b a = refl
chain_also chain.Handlers b a = refl
chain_also chain.Arms b a = refl
chain_also chain.Alts b a = refl
chain_also chain.Branches b a = refl
chain_also chain.Packs b a = refl
chain_also chain.Units b a = refl
chain_also chain.Clauses b a = refl

pub chain_closed : (c : Chain) (q p : TreePart) → IsClosed (chains.kind_of c) q p → chains.the c q ≡ chains.so_far c p
chain_closed chain.Identifiers q p h = h
chain_closed chain.Names q p h = h
chain_closed chain.Formals q p h = h
chain_closed chain.Indexes q p h = h
chain_closed chain.Comps q p h = h
chain_closed chain.Decls q p h = h
chain_closed chain.Choices q p h = h
chain_closed chain.Exceptions q p h = h
chain_closed chain.Stmts q p h = h
chain_closed chain.Handlers q p h = h
chain_closed chain.Arms q p h = h
chain_closed chain.Alts q p h = h
chain_closed chain.Branches q p h = h
chain_closed chain.Packs q p h = h
chain_closed chain.Units q p h = h
chain_closed chain.Clauses q p h = h
