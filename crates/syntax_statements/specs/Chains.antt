-- What chains read.
use Rattle.std.specs.Prelude.{ℕ, List, [], ◌∷◌}
use Rattle.syntax_readers.specs.Readers.{Reader, ◌>>=◌, pure}
use Rattle.syntax_readers.specs.Loops.{grown}
use Rattle.ada_base.specs.Kinds as kind
use Rattle.syntax_tree.specs.Syntax as syntax
use Rattle.syntax_tree.specs.Joining.{list_and, stmts_and, handlers_and, arms_and, alts_and, branches_and}
use Rattle.syntax_grammar.specs.Brackets as brackets
use Rattle.syntax_grammar.specs.Levels as level
use Rattle.syntax_grammar.specs.Declarations as declarations
use Rattle.syntax_grammar.specs.Statements as statements
use Rattle.syntax_grammar.specs.Units as units
use Rattle.syntax_nodes.specs.Parts.{TreePart, open_alts, open_arms, open_branches, open_choice_list, open_clauses, open_comps, open_decls, open_formal_list, open_handlers, open_more_stmts, open_packs, open_ranges, open_tokens, open_units, the_alt, the_alts, the_arm, the_arms, the_branches, the_choice, the_choice_list, the_clause, the_clauses, the_comp, the_comps, the_decl, the_decls, the_formal, the_formal_list, the_handler, the_handlers, the_more_stmts, the_pack, the_packs, the_range, the_ranges, the_stmt, the_stmts, the_token, the_tokens, the_unit, the_units}
use Rattle.syntax_nodes.specs.declared.lists.ListKind.{ListKind}
use Rattle.syntax_nodes.specs.declared.lists.ListKind.TheVariants as list
use Rattle.syntax_statements.specs.declared.chains.Chain.{Chain}
use Rattle.syntax_statements.specs.declared.chains.Chain.TheVariants as chain

-- the list that a chain grows
abbrev pub kind_of : Chain → ListKind
kind_of chain.Identifiers = list.Tokens
kind_of chain.Names = list.Tokens
kind_of chain.Formals = list.FormalList
kind_of chain.Indexes = list.Ranges
kind_of chain.Comps = list.Comps
kind_of chain.Decls = list.Decls
kind_of chain.Choices = list.ChoiceList
kind_of chain.Exceptions = list.Packs
kind_of chain.Stmts = list.Stmts
kind_of chain.Handlers = list.Handlers
kind_of chain.Arms = list.Arms
kind_of chain.Alts = list.Alts
kind_of chain.Branches = list.Branches
kind_of chain.Packs = list.Packs
kind_of chain.Units = list.Units
kind_of chain.Clauses = list.Clauses

abbrev pub Item : Chain → Type 0
Item chain.Identifiers = ℕ
Item chain.Names = ℕ
Item chain.Formals = syntax.Formal
Item chain.Indexes = syntax.Range
Item chain.Comps = syntax.Comp
Item chain.Decls = syntax.Decl
Item chain.Choices = syntax.Choice
Item chain.Exceptions = syntax.Pack
Item chain.Stmts = syntax.Stmt
Item chain.Handlers = syntax.Handler
Item chain.Arms = syntax.Arm
Item chain.Alts = syntax.Alt
Item chain.Branches = syntax.Stmts
Item chain.Packs = syntax.Pack
Item chain.Units = syntax.Unit'
Item chain.Clauses = syntax.Clause

abbrev pub Value : Chain → Type 0
Value chain.Identifiers = List ℕ
Value chain.Names = List ℕ
Value chain.Formals = List syntax.Formal
Value chain.Indexes = List syntax.Range
Value chain.Comps = List syntax.Comp
Value chain.Decls = List syntax.Decl
Value chain.Choices = List syntax.Choice
Value chain.Exceptions = List syntax.Pack
Value chain.Stmts = syntax.MoreStmts
Value chain.Handlers = syntax.Handlers
Value chain.Arms = syntax.Arms
Value chain.Alts = syntax.Alts
Value chain.Branches = syntax.Branches
Value chain.Packs = List syntax.Pack
Value chain.Units = List syntax.Unit'
Value chain.Clauses = List syntax.Clause

abbrev pub the_item : (c : Chain) → TreePart → Item c
the_item chain.Identifiers = the_token
the_item chain.Names = the_token
the_item chain.Formals = the_formal
the_item chain.Indexes = the_range
the_item chain.Comps = the_comp
the_item chain.Decls = the_decl
the_item chain.Choices = the_choice
the_item chain.Exceptions = the_pack
the_item chain.Stmts = the_stmt
the_item chain.Handlers = the_handler
the_item chain.Arms = the_arm
the_item chain.Alts = the_alt
the_item chain.Branches = the_stmts
the_item chain.Packs = the_pack
the_item chain.Units = the_unit
the_item chain.Clauses = the_clause

-- a list that is whole, and one that grows
abbrev pub the : (c : Chain) → TreePart → Value c
the chain.Identifiers = the_tokens
the chain.Names = the_tokens
the chain.Formals = the_formal_list
the chain.Indexes = the_ranges
the chain.Comps = the_comps
the chain.Decls = the_decls
the chain.Choices = the_choice_list
the chain.Exceptions = the_packs
the chain.Stmts = the_more_stmts
the chain.Handlers = the_handlers
the chain.Arms = the_arms
the chain.Alts = the_alts
the chain.Branches = the_branches
the chain.Packs = the_packs
the chain.Units = the_units
the chain.Clauses = the_clauses

abbrev pub so_far : (c : Chain) → TreePart → Value c
so_far chain.Identifiers = open_tokens
so_far chain.Names = open_tokens
so_far chain.Formals = open_formal_list
so_far chain.Indexes = open_ranges
so_far chain.Comps = open_comps
so_far chain.Decls = open_decls
so_far chain.Choices = open_choice_list
so_far chain.Exceptions = open_packs
so_far chain.Stmts = open_more_stmts
so_far chain.Handlers = open_handlers
so_far chain.Arms = open_arms
so_far chain.Alts = open_alts
so_far chain.Branches = open_branches
so_far chain.Packs = open_packs
so_far chain.Units = open_units
so_far chain.Clauses = open_clauses

abbrev pub none : (c : Chain) → Value c
none chain.Identifiers = []
none chain.Names = []
none chain.Formals = []
none chain.Indexes = []
none chain.Comps = []
none chain.Decls = []
none chain.Choices = []
none chain.Exceptions = []
none chain.Stmts = syntax.NoStmt
none chain.Handlers = syntax.NoHandler
none chain.Arms = syntax.NoArm
none chain.Alts = syntax.NoAlt
none chain.Branches = syntax.NoBranch
none chain.Packs = []
none chain.Units = []
none chain.Clauses = []

abbrev pub with_item : (c : Chain) → Value c → Item c → Value c
with_item chain.Identifiers = list_and
with_item chain.Names = list_and
with_item chain.Formals = list_and
with_item chain.Indexes = list_and
with_item chain.Comps = list_and
with_item chain.Decls = list_and
with_item chain.Choices = list_and
with_item chain.Exceptions = list_and
with_item chain.Stmts = stmts_and
with_item chain.Handlers = handlers_and
with_item chain.Arms = arms_and
with_item chain.Alts = alts_and
with_item chain.Branches = branches_and
with_item chain.Packs = list_and
with_item chain.Units = list_and
with_item chain.Clauses = list_and

-- the kinds that it goes on at
abbrev pub goes : Chain → List ℕ
goes chain.Identifiers = kind.comma ∷ []
goes chain.Names = kind.point ∷ []
goes chain.Formals = kind.semicolon ∷ []
goes chain.Indexes = kind.comma ∷ []
goes chain.Comps = kind.identifier ∷ []
goes chain.Decls = declarations.decl_kinds
goes chain.Choices = kind.bar ∷ []
goes chain.Exceptions = kind.bar ∷ []
goes chain.Stmts = statements.stmt_kinds
goes chain.Handlers = kind.when_word ∷ []
goes chain.Arms = kind.elsif_word ∷ []
goes chain.Alts = kind.when_word ∷ []
goes chain.Branches = kind.and_word ∷ []
goes chain.Packs = kind.comma ∷ []
goes chain.Units = units.unit_kinds
goes chain.Clauses = units.clause_kinds

-- its next item
abbrev pub item : ℕ → (c : Chain) → Reader (Item c)
item n chain.Identifiers = declarations.next_identifier
item n chain.Names = statements.next_name
item n chain.Formals = declarations.next_formal
item n chain.Indexes = declarations.next_index n
item n chain.Comps = declarations.comp n
item n chain.Decls = declarations.decl n
item n chain.Choices = brackets.next_choice (level.levels n)
item n chain.Exceptions = statements.next_exception
item n chain.Stmts = statements.stmt n
item n chain.Handlers = statements.handler n (statements.stmt n)
item n chain.Arms = statements.arm n (statements.stmt n)
item n chain.Alts = statements.alt n (statements.stmt n)
item n chain.Branches = statements.and_stmts n (statements.stmt n)
item n chain.Packs = units.next_pack
item n chain.Units = units.unit n
item n chain.Clauses = units.clause

-- what one turn reads
abbrev pub link : ℕ → (c : Chain) → Value c → Reader (Value c)
link n c = λ l. item n c >>= λ x. pure (with_item c l x)

-- the list of its items
abbrev pub items : ℕ → (c : Chain) → Reader (Value c)
items n chain.Identifiers = grown list_and [] (kind.comma ∷ []) declarations.next_identifier
items n chain.Names = grown list_and [] (kind.point ∷ []) statements.next_name
items n chain.Formals = grown list_and [] (kind.semicolon ∷ []) declarations.next_formal
items n chain.Indexes = grown list_and [] (kind.comma ∷ []) (declarations.next_index n)
items n chain.Comps = grown list_and [] (kind.identifier ∷ []) (declarations.comp n)
items n chain.Decls = declarations.decls n
items n chain.Choices = statements.more_choices n (statements.stmt n)
items n chain.Exceptions = grown list_and [] (kind.bar ∷ []) statements.next_exception
items n chain.Stmts = grown stmts_and syntax.NoStmt statements.stmt_kinds (statements.stmt n)
items n chain.Handlers = grown handlers_and syntax.NoHandler (kind.when_word ∷ []) (statements.handler n (statements.stmt n))
items n chain.Arms = statements.arms n (statements.stmt n)
items n chain.Alts = statements.more_alts n (statements.stmt n)
items n chain.Branches = statements.branches n (statements.stmt n)
items n chain.Packs = grown list_and [] (kind.comma ∷ []) units.next_pack
items n chain.Units = units.units n
items n chain.Clauses = units.clauses

-- the place of a chain's items in the order of calls
abbrev pub rank : Chain → ℕ
rank chain.Identifiers = 1
rank chain.Names = 1
rank chain.Formals = 8
rank chain.Indexes = 1
rank chain.Comps = 7
rank chain.Decls = 15
rank chain.Choices = 1
rank chain.Exceptions = 7
rank chain.Stmts = 1
rank chain.Handlers = 13
rank chain.Arms = 8
rank chain.Alts = 8
rank chain.Branches = 7
rank chain.Packs = 7
rank chain.Units = 16
rank chain.Clauses = 12
