-- What chains read.
use Rattle.std.specs.Prelude.{ℕ, List, [], ◌∷◌}
use Rattle.syntax_readers.specs.Readers.{Reader, ◌>>=◌, pure}
use Rattle.syntax_readers.specs.Loops.{grown}
use Rattle.ada_base.specs.Kinds as kind
use Rattle.syntax_tree.specs.Syntax as syntax
use Rattle.syntax_tree.specs.Joining.{parts_and, multiplyings_and, addings_and, conjuncts_and, args_and, choices_and, assocs_and, elsifs_and}
use Rattle.syntax_grammar.specs.Opened.{Opened}
use Rattle.syntax_grammar.specs.Expressions as reader
use Rattle.syntax_grammar.specs.Brackets as brackets
use Rattle.syntax_nodes.specs.Parts.{TreePart, the_part, the_multiplying, the_adding, the_conjunct, the_arg, the_choice, the_assoc, the_elsif, the_parts, the_multiplyings, the_addings, the_conjuncts, the_args, the_choices, the_assocs, the_elsifs, open_parts, open_multiplyings, open_addings, open_conjuncts, open_args, open_choices, open_assocs, open_elsifs}
use Rattle.syntax_nodes.specs.declared.lists.ListKind.{ListKind}
use Rattle.syntax_nodes.specs.declared.lists.ListKind.TheVariants as list
use Rattle.syntax_tree.specs.declared.operators.Logical.{Logical}
use Rattle.syntax_tree.specs.declared.operators.Logical.TheVariants as logical
use Rattle.syntax_expressions.specs.declared.chains.Chain.{Chain}
use Rattle.syntax_expressions.specs.declared.chains.Chain.TheVariants as chain

-- the kinds with which a logical operator begins
abbrev pub operator_kinds : Logical → List ℕ
operator_kinds logical.And = kind.and_word ∷ []
operator_kinds logical.AndThen = kind.and_word ∷ []
operator_kinds logical.Or = kind.or_word ∷ []
operator_kinds logical.OrElse = kind.or_word ∷ []
operator_kinds logical.Xor = kind.xor_word ∷ []

-- the relation after such an operator
abbrev pub conjunct : Opened → Logical → Reader syntax.Conjunct
conjunct inner logical.And = reader.conjunct inner kind.and_word
conjunct inner logical.AndThen = reader.short_conjunct inner kind.and_word kind.then_word
conjunct inner logical.Or = reader.conjunct inner kind.or_word
conjunct inner logical.OrElse = reader.short_conjunct inner kind.or_word kind.else_word
conjunct inner logical.Xor = reader.conjunct inner kind.xor_word

-- the list that a chain grows
abbrev pub kind_of : Chain → ListKind
kind_of chain.NameParts = list.NameParts
kind_of chain.Multiplyings = list.Multiplyings
kind_of chain.Addings = list.Addings
kind_of (chain.Conjuncts operator) = list.Conjuncts
kind_of chain.Args = list.Args
kind_of chain.Choices = list.Choices
kind_of chain.Assocs = list.Assocs
kind_of chain.Elsifs = list.Elsifs

abbrev pub Item : Chain → Type 0
Item chain.NameParts = syntax.NamePart
Item chain.Multiplyings = syntax.Multiplying
Item chain.Addings = syntax.Adding
Item (chain.Conjuncts operator) = syntax.Conjunct
Item chain.Args = syntax.Arg
Item chain.Choices = syntax.Choice
Item chain.Assocs = syntax.Assoc
Item chain.Elsifs = syntax.Elsif

abbrev pub Value : Chain → Type 0
Value chain.NameParts = syntax.NameParts
Value chain.Multiplyings = syntax.Multiplyings
Value chain.Addings = syntax.Addings
Value (chain.Conjuncts operator) = syntax.Conjuncts
Value chain.Args = syntax.Args
Value chain.Choices = syntax.Choices
Value chain.Assocs = syntax.Assocs
Value chain.Elsifs = syntax.Elsifs

abbrev pub the_item : (c : Chain) → TreePart → Item c
the_item chain.NameParts = the_part
the_item chain.Multiplyings = the_multiplying
the_item chain.Addings = the_adding
the_item (chain.Conjuncts operator) = the_conjunct
the_item chain.Args = the_arg
the_item chain.Choices = the_choice
the_item chain.Assocs = the_assoc
the_item chain.Elsifs = the_elsif

-- a list that is whole, and one that grows
abbrev pub the : (c : Chain) → TreePart → Value c
the chain.NameParts = the_parts
the chain.Multiplyings = the_multiplyings
the chain.Addings = the_addings
the (chain.Conjuncts operator) = the_conjuncts
the chain.Args = the_args
the chain.Choices = the_choices
the chain.Assocs = the_assocs
the chain.Elsifs = the_elsifs

abbrev pub so_far : (c : Chain) → TreePart → Value c
so_far chain.NameParts = open_parts
so_far chain.Multiplyings = open_multiplyings
so_far chain.Addings = open_addings
so_far (chain.Conjuncts operator) = open_conjuncts
so_far chain.Args = open_args
so_far chain.Choices = open_choices
so_far chain.Assocs = open_assocs
so_far chain.Elsifs = open_elsifs

abbrev pub none : (c : Chain) → Value c
none chain.NameParts = syntax.NoPart
none chain.Multiplyings = syntax.NoMultiplying
none chain.Addings = syntax.NoAdding
none (chain.Conjuncts operator) = syntax.NoConjunct
none chain.Args = syntax.NoArg
none chain.Choices = syntax.NoChoice
none chain.Assocs = syntax.NoAssoc
none chain.Elsifs = syntax.NoElsif

abbrev pub with_item : (c : Chain) → Value c → Item c → Value c
with_item chain.NameParts = parts_and
with_item chain.Multiplyings = multiplyings_and
with_item chain.Addings = addings_and
with_item (chain.Conjuncts operator) = conjuncts_and
with_item chain.Args = args_and
with_item chain.Choices = choices_and
with_item chain.Assocs = assocs_and
with_item chain.Elsifs = elsifs_and

-- the kinds that it goes on at
abbrev pub goes : Chain → List ℕ
goes chain.NameParts = reader.part_kinds
goes chain.Multiplyings = reader.multiplying_kinds
goes chain.Addings = reader.adding_kinds
goes (chain.Conjuncts operator) = operator_kinds operator
goes chain.Args = kind.comma ∷ []
goes chain.Choices = kind.bar ∷ []
goes chain.Assocs = kind.comma ∷ []
goes chain.Elsifs = kind.elsif_word ∷ []

-- its next item
abbrev pub item : Opened → (c : Chain) → Reader (Item c)
item inner chain.NameParts = reader.part inner
item inner chain.Multiplyings = reader.multiplied inner
item inner chain.Addings = reader.added inner
item inner (chain.Conjuncts operator) = conjunct inner operator
item inner chain.Args = brackets.next_arg inner
item inner chain.Choices = brackets.next_choice inner
item inner chain.Assocs = brackets.next_assoc inner
item inner chain.Elsifs = brackets.next_elsif inner

-- what one turn reads
abbrev pub link : Opened → (c : Chain) → Value c → Reader (Value c)
link inner c = λ l. item inner c >>= λ x. pure (with_item c l x)

-- the list of its items
abbrev pub items : Opened → (c : Chain) → Reader (Value c)
items inner chain.NameParts = grown parts_and syntax.NoPart reader.part_kinds (reader.part inner)
items inner chain.Multiplyings = grown multiplyings_and syntax.NoMultiplying reader.multiplying_kinds (reader.multiplied inner)
items inner chain.Addings = reader.addings inner
items inner (chain.Conjuncts operator) = grown conjuncts_and syntax.NoConjunct (operator_kinds operator) (conjunct inner operator)
items inner chain.Args = brackets.more_args inner
items inner chain.Choices = brackets.more_choices inner
items inner chain.Assocs = brackets.more_assocs inner
items inner chain.Elsifs = brackets.elsifs inner

-- the place of a chain's items in the order of calls
abbrev pub rank : Chain → ℕ
rank chain.NameParts = 2
rank chain.Multiplyings = 10
rank chain.Addings = 16
rank (chain.Conjuncts operator) = 29
rank chain.Args = 41
rank chain.Choices = 26
rank chain.Assocs = 41
rank chain.Elsifs = 39
