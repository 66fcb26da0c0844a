-- Chains by their kinds.
use Rattle.std.proofs.Common.{◌≡◌, refl}
use Rattle.syntax_nodes.specs.Parts.{TreePart, Nothing, IsClosed}
use Rattle.syntax_nodes.specs.Tables.{also_value}
use Rattle.syntax_expressions.specs.Chains as chains
use Rattle.syntax_expressions.specs.declared.chains.Chain.{Chain}
use Rattle.syntax_expressions.specs.declared.chains.Chain.TheVariants as chain
use Rattle.syntax_readers.specs.Loops.{chain as loop}
use Rattle.syntax_grammar.specs.Opened.{Opened}
use Rattle.syntax_grammar.specs.Expressions.{addings}
use Rattle.syntax_grammar.specs.Brackets.{more_args, more_choices, more_assocs, elsifs}

pub chain_list : (inner : Opened) (c : Chain) → loop (chains.goes c) (chains.link inner c) (chains.none c) ≡ chains.items inner c
unfolding addings more_args more_choices more_assocs elsifs
chain_list inner chain.NameParts = refl
chain_list inner chain.Multiplyings = refl
chain_list inner chain.Addings = refl
chain_list inner (chain.Conjuncts operator) = refl
chain_list inner chain.Args = refl
chain_list inner chain.Choices = refl
chain_list inner chain.Assocs = refl
chain_list inner chain.Elsifs = refl

pub chain_none : (c : Chain) → chains.so_far c Nothing ≡ chains.none c
chain_none chain.NameParts = refl
chain_none chain.Multiplyings = refl
chain_none chain.Addings = refl
chain_none (chain.Conjuncts operator) = refl
chain_none chain.Args = refl
chain_none chain.Choices = refl
chain_none chain.Assocs = refl
chain_none chain.Elsifs = refl

pub chain_also : (c : Chain) (b a : TreePart) → chains.so_far c (also_value (chains.kind_of c) b a) ≡ chains.with_item c (chains.so_far c b) (chains.the_item c a)
chain_also chain.NameParts b a = refl
chain_also chain.Multiplyings b a = refl
chain_also chain.Addings b a = refl
chain_also (chain.Conjuncts operator) b a = refl
chain_also chain.Args b a = refl
chain_also chain.Choices b a = refl
chain_also chain.Assocs b a = refl
chain_also chain.Elsifs b a = refl

pub chain_closed : (c : Chain) (q p : TreePart) → IsClosed (chains.kind_of c) q p → chains.the c q ≡ chains.so_far c p
chain_closed chain.NameParts q p h = h
chain_closed chain.Multiplyings q p h = h
chain_closed chain.Addings q p h = h
chain_closed (chain.Conjuncts operator) q p h = h
chain_closed chain.Args q p h = h
chain_closed chain.Choices q p h = h
chain_closed chain.Assocs q p h = h
chain_closed chain.Elsifs q p h = h
