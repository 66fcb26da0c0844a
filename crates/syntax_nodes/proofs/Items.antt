-- A list that was joined item by item is the closed one.
use Rattle.std.proofs.Common.{◌≡◌, refl, sym, ◌∙◌, ap, [], ◌∷◌, ◌++◌}
use Rattle.std.proofs.lemmas.List.{append_assoc, append-nil}
use Rattle.syntax_tree.specs.Syntax as syntax
use Rattle.syntax_tree.specs.Joining as joining
use Rattle.syntax_nodes.specs.Parts as parts
use Rattle.syntax_nodes.specs.Parts.{TreePart, Items, NoItem, AlsoItem, items_of, open_items, onto, list_of, list_upto, IsClosed}
use Rattle.syntax_nodes.specs.declared.lists.ListKind.{ListKind}
use Rattle.syntax_nodes.specs.declared.lists.ListKind.TheVariants as list'

all-onto : {A : Type 0} (the : TreePart → A) (xs ys : Items) → list_of the (onto xs ys) ≡ list_upto the xs ++ list_of the ys
all-onto the NoItem ys = refl
all-onto the (AlsoItem x xs) ys = all-onto the xs (AlsoItem x ys) ∙ sym (append_assoc (list_upto the xs) (the x ∷ []) (list_of the ys))

all-closed : {A : Type 0} (the : TreePart → A) (xs : Items) → list_of the (onto xs NoItem) ≡ list_upto the xs
all-closed the xs = all-onto the xs NoItem ∙ append-nil (list_upto the xs)

abbrev conjuncts-plus : syntax.Conjuncts → syntax.Conjuncts → syntax.Conjuncts
conjuncts-plus syntax.NoConjunct ys = ys
conjuncts-plus (syntax.AlsoConjunct x xs) ys = syntax.AlsoConjunct x (conjuncts-plus xs ys)

conjuncts-none : (xs : syntax.Conjuncts) → conjuncts-plus xs syntax.NoConjunct ≡ xs
conjuncts-none syntax.NoConjunct = refl
conjuncts-none (syntax.AlsoConjunct x xs) = ap (syntax.AlsoConjunct x) (conjuncts-none xs)

conjuncts-and : (xs : syntax.Conjuncts) (x : syntax.Conjunct) (ys : syntax.Conjuncts) → conjuncts-plus (joining.conjuncts_and xs x) ys ≡ conjuncts-plus xs (syntax.AlsoConjunct x ys)
conjuncts-and syntax.NoConjunct x ys = refl
conjuncts-and (syntax.AlsoConjunct y xs) x ys = ap (syntax.AlsoConjunct y) (conjuncts-and xs x ys)

conjuncts-onto : (xs ys : Items) → parts.conjuncts_of (onto xs ys) ≡ conjuncts-plus (parts.conjuncts_upto xs) (parts.conjuncts_of ys)
conjuncts-onto NoItem ys = refl
conjuncts-onto (AlsoItem x xs) ys = conjuncts-onto xs (AlsoItem x ys) ∙ sym (conjuncts-and (parts.conjuncts_upto xs) (parts.the_conjunct x) (parts.conjuncts_of ys))

conjuncts-closed : (xs : Items) → parts.conjuncts_of (onto xs NoItem) ≡ parts.conjuncts_upto xs
conjuncts-closed xs = conjuncts-onto xs NoItem ∙ conjuncts-none (parts.conjuncts_upto xs)

abbrev addings-plus : syntax.Addings → syntax.Addings → syntax.Addings
addings-plus syntax.NoAdding ys = ys
addings-plus (syntax.AlsoAdding x xs) ys = syntax.AlsoAdding x (addings-plus xs ys)

addings-none : (xs : syntax.Addings) → addings-plus xs syntax.NoAdding ≡ xs
addings-none syntax.NoAdding = refl
addings-none (syntax.AlsoAdding x xs) = ap (syntax.AlsoAdding x) (addings-none xs)

addings-and : (xs : syntax.Addings) (x : syntax.Adding) (ys : syntax.Addings) → addings-plus (joining.addings_and xs x) ys ≡ addings-plus xs (syntax.AlsoAdding x ys)
addings-and syntax.NoAdding x ys = refl
addings-and (syntax.AlsoAdding y xs) x ys = ap (syntax.AlsoAdding y) (addings-and xs x ys)

addings-onto : (xs ys : Items) → parts.addings_of (onto xs ys) ≡ addings-plus (parts.addings_upto xs) (parts.addings_of ys)
addings-onto NoItem ys = refl
addings-onto (AlsoItem x xs) ys = addings-onto xs (AlsoItem x ys) ∙ sym (addings-and (parts.addings_upto xs) (parts.the_adding x) (parts.addings_of ys))

addings-closed : (xs : Items) → parts.addings_of (onto xs NoItem) ≡ parts.addings_upto xs
addings-closed xs = addings-onto xs NoItem ∙ addings-none (parts.addings_upto xs)

abbrev multiplyings-plus : syntax.Multiplyings → syntax.Multiplyings → syntax.Multiplyings
multiplyings-plus syntax.NoMultiplying ys = ys
multiplyings-plus (syntax.AlsoMultiplying x xs) ys = syntax.AlsoMultiplying x (multiplyings-plus xs ys)

multiplyings-none : (xs : syntax.Multiplyings) → multiplyings-plus xs syntax.NoMultiplying ≡ xs
multiplyings-none syntax.NoMultiplying = refl
multiplyings-none (syntax.AlsoMultiplying x xs) = ap (syntax.AlsoMultiplying x) (multiplyings-none xs)

multiplyings-and : (xs : syntax.Multiplyings) (x : syntax.Multiplying) (ys : syntax.Multiplyings) → multiplyings-plus (joining.multiplyings_and xs x) ys ≡ multiplyings-plus xs (syntax.AlsoMultiplying x ys)
multiplyings-and syntax.NoMultiplying x ys = refl
multiplyings-and (syntax.AlsoMultiplying y xs) x ys = ap (syntax.AlsoMultiplying y) (multiplyings-and xs x ys)

multiplyings-onto : (xs ys : Items) → parts.multiplyings_of (onto xs ys) ≡ multiplyings-plus (parts.multiplyings_upto xs) (parts.multiplyings_of ys)
multiplyings-onto NoItem ys = refl
multiplyings-onto (AlsoItem x xs) ys = multiplyings-onto xs (AlsoItem x ys) ∙ sym (multiplyings-and (parts.multiplyings_upto xs) (parts.the_multiplying x) (parts.multiplyings_of ys))

multiplyings-closed : (xs : Items) → parts.multiplyings_of (onto xs NoItem) ≡ parts.multiplyings_upto xs
multiplyings-closed xs = multiplyings-onto xs NoItem ∙ multiplyings-none (parts.multiplyings_upto xs)

abbrev elsifs-plus : syntax.Elsifs → syntax.Elsifs → syntax.Elsifs
elsifs-plus syntax.NoElsif ys = ys
elsifs-plus (syntax.AlsoElsif x xs) ys = syntax.AlsoElsif x (elsifs-plus xs ys)

elsifs-none : (xs : syntax.Elsifs) → elsifs-plus xs syntax.NoElsif ≡ xs
elsifs-none syntax.NoElsif = refl
elsifs-none (syntax.AlsoElsif x xs) = ap (syntax.AlsoElsif x) (elsifs-none xs)

elsifs-and : (xs : syntax.Elsifs) (x : syntax.Elsif) (ys : syntax.Elsifs) → elsifs-plus (joining.elsifs_and xs x) ys ≡ elsifs-plus xs (syntax.AlsoElsif x ys)
elsifs-and syntax.NoElsif x ys = refl
elsifs-and (syntax.AlsoElsif y xs) x ys = ap (syntax.AlsoElsif y) (elsifs-and xs x ys)

elsifs-onto : (xs ys : Items) → parts.elsifs_of (onto xs ys) ≡ elsifs-plus (parts.elsifs_upto xs) (parts.elsifs_of ys)
elsifs-onto NoItem ys = refl
elsifs-onto (AlsoItem x xs) ys = elsifs-onto xs (AlsoItem x ys) ∙ sym (elsifs-and (parts.elsifs_upto xs) (parts.the_elsif x) (parts.elsifs_of ys))

elsifs-closed : (xs : Items) → parts.elsifs_of (onto xs NoItem) ≡ parts.elsifs_upto xs
elsifs-closed xs = elsifs-onto xs NoItem ∙ elsifs-none (parts.elsifs_upto xs)

abbrev exprs-plus : syntax.Exprs → syntax.Exprs → syntax.Exprs
exprs-plus syntax.NoExpr ys = ys
exprs-plus (syntax.AlsoExpr x xs) ys = syntax.AlsoExpr x (exprs-plus xs ys)

exprs-none : (xs : syntax.Exprs) → exprs-plus xs syntax.NoExpr ≡ xs
exprs-none syntax.NoExpr = refl
exprs-none (syntax.AlsoExpr x xs) = ap (syntax.AlsoExpr x) (exprs-none xs)

exprs-and : (xs : syntax.Exprs) (x : syntax.Expr) (ys : syntax.Exprs) → exprs-plus (joining.exprs_and xs x) ys ≡ exprs-plus xs (syntax.AlsoExpr x ys)
exprs-and syntax.NoExpr x ys = refl
exprs-and (syntax.AlsoExpr y xs) x ys = ap (syntax.AlsoExpr y) (exprs-and xs x ys)

exprs-onto : (xs ys : Items) → parts.exprs_of (onto xs ys) ≡ exprs-plus (parts.exprs_upto xs) (parts.exprs_of ys)
exprs-onto NoItem ys = refl
exprs-onto (AlsoItem x xs) ys = exprs-onto xs (AlsoItem x ys) ∙ sym (exprs-and (parts.exprs_upto xs) (parts.the_expr x) (parts.exprs_of ys))

exprs-closed : (xs : Items) → parts.exprs_of (onto xs NoItem) ≡ parts.exprs_upto xs
exprs-closed xs = exprs-onto xs NoItem ∙ exprs-none (parts.exprs_upto xs)

abbrev parts-plus : syntax.NameParts → syntax.NameParts → syntax.NameParts
parts-plus syntax.NoPart ys = ys
parts-plus (syntax.AlsoPart x xs) ys = syntax.AlsoPart x (parts-plus xs ys)

parts-none : (xs : syntax.NameParts) → parts-plus xs syntax.NoPart ≡ xs
parts-none syntax.NoPart = refl
parts-none (syntax.AlsoPart x xs) = ap (syntax.AlsoPart x) (parts-none xs)

parts-and : (xs : syntax.NameParts) (x : syntax.NamePart) (ys : syntax.NameParts) → parts-plus (joining.parts_and xs x) ys ≡ parts-plus xs (syntax.AlsoPart x ys)
parts-and syntax.NoPart x ys = refl
parts-and (syntax.AlsoPart y xs) x ys = ap (syntax.AlsoPart y) (parts-and xs x ys)

parts-onto : (xs ys : Items) → parts.parts_of (onto xs ys) ≡ parts-plus (parts.parts_upto xs) (parts.parts_of ys)
parts-onto NoItem ys = refl
parts-onto (AlsoItem x xs) ys = parts-onto xs (AlsoItem x ys) ∙ sym (parts-and (parts.parts_upto xs) (parts.the_part x) (parts.parts_of ys))

parts-closed : (xs : Items) → parts.parts_of (onto xs NoItem) ≡ parts.parts_upto xs
parts-closed xs = parts-onto xs NoItem ∙ parts-none (parts.parts_upto xs)

abbrev args-plus : syntax.Args → syntax.Args → syntax.Args
args-plus syntax.NoArg ys = ys
args-plus (syntax.AlsoArg x xs) ys = syntax.AlsoArg x (args-plus xs ys)

args-none : (xs : syntax.Args) → args-plus xs syntax.NoArg ≡ xs
args-none syntax.NoArg = refl
args-none (syntax.AlsoArg x xs) = ap (syntax.AlsoArg x) (args-none xs)

args-and : (xs : syntax.Args) (x : syntax.Arg) (ys : syntax.Args) → args-plus (joining.args_and xs x) ys ≡ args-plus xs (syntax.AlsoArg x ys)
args-and syntax.NoArg x ys = refl
args-and (syntax.AlsoArg y xs) x ys = ap (syntax.AlsoArg y) (args-and xs x ys)

args-onto : (xs ys : Items) → parts.args_of (onto xs ys) ≡ args-plus (parts.args_upto xs) (parts.args_of ys)
args-onto NoItem ys = refl
args-onto (AlsoItem x xs) ys = args-onto xs (AlsoItem x ys) ∙ sym (args-and (parts.args_upto xs) (parts.the_arg x) (parts.args_of ys))

args-closed : (xs : Items) → parts.args_of (onto xs NoItem) ≡ parts.args_upto xs
args-closed xs = args-onto xs NoItem ∙ args-none (parts.args_upto xs)

abbrev choices-plus : syntax.Choices → syntax.Choices → syntax.Choices
choices-plus syntax.NoChoice ys = ys
choices-plus (syntax.AlsoChoice x xs) ys = syntax.AlsoChoice x (choices-plus xs ys)

choices-none : (xs : syntax.Choices) → choices-plus xs syntax.NoChoice ≡ xs
choices-none syntax.NoChoice = refl
choices-none (syntax.AlsoChoice x xs) = ap (syntax.AlsoChoice x) (choices-none xs)

choices-and : (xs : syntax.Choices) (x : syntax.Choice) (ys : syntax.Choices) → choices-plus (joining.choices_and xs x) ys ≡ choices-plus xs (syntax.AlsoChoice x ys)
choices-and syntax.NoChoice x ys = refl
choices-and (syntax.AlsoChoice y xs) x ys = ap (syntax.AlsoChoice y) (choices-and xs x ys)

choices-onto : (xs ys : Items) → parts.choices_of (onto xs ys) ≡ choices-plus (parts.choices_upto xs) (parts.choices_of ys)
choices-onto NoItem ys = refl
choices-onto (AlsoItem x xs) ys = choices-onto xs (AlsoItem x ys) ∙ sym (choices-and (parts.choices_upto xs) (parts.the_choice x) (parts.choices_of ys))

choices-closed : (xs : Items) → parts.choices_of (onto xs NoItem) ≡ parts.choices_upto xs
choices-closed xs = choices-onto xs NoItem ∙ choices-none (parts.choices_upto xs)

abbrev assocs-plus : syntax.Assocs → syntax.Assocs → syntax.Assocs
assocs-plus syntax.NoAssoc ys = ys
assocs-plus (syntax.AlsoAssoc x xs) ys = syntax.AlsoAssoc x (assocs-plus xs ys)

assocs-none : (xs : syntax.Assocs) → assocs-plus xs syntax.NoAssoc ≡ xs
assocs-none syntax.NoAssoc = refl
assocs-none (syntax.AlsoAssoc x xs) = ap (syntax.AlsoAssoc x) (assocs-none xs)

assocs-and : (xs : syntax.Assocs) (x : syntax.Assoc) (ys : syntax.Assocs) → assocs-plus (joining.assocs_and xs x) ys ≡ assocs-plus xs (syntax.AlsoAssoc x ys)
assocs-and syntax.NoAssoc x ys = refl
assocs-and (syntax.AlsoAssoc y xs) x ys = ap (syntax.AlsoAssoc y) (assocs-and xs x ys)

assocs-onto : (xs ys : Items) → parts.assocs_of (onto xs ys) ≡ assocs-plus (parts.assocs_upto xs) (parts.assocs_of ys)
assocs-onto NoItem ys = refl
assocs-onto (AlsoItem x xs) ys = assocs-onto xs (AlsoItem x ys) ∙ sym (assocs-and (parts.assocs_upto xs) (parts.the_assoc x) (parts.assocs_of ys))

assocs-closed : (xs : Items) → parts.assocs_of (onto xs NoItem) ≡ parts.assocs_upto xs
assocs-closed xs = assocs-onto xs NoItem ∙ assocs-none (parts.assocs_upto xs)

abbrev more_stmts-plus : syntax.MoreStmts → syntax.MoreStmts → syntax.MoreStmts
more_stmts-plus syntax.NoStmt ys = ys
more_stmts-plus (syntax.AlsoStmt x xs) ys = syntax.AlsoStmt x (more_stmts-plus xs ys)

more_stmts-none : (xs : syntax.MoreStmts) → more_stmts-plus xs syntax.NoStmt ≡ xs
more_stmts-none syntax.NoStmt = refl
more_stmts-none (syntax.AlsoStmt x xs) = ap (syntax.AlsoStmt x) (more_stmts-none xs)

more_stmts-and : (xs : syntax.MoreStmts) (x : syntax.Stmt) (ys : syntax.MoreStmts) → more_stmts-plus (joining.stmts_and xs x) ys ≡ more_stmts-plus xs (syntax.AlsoStmt x ys)
more_stmts-and syntax.NoStmt x ys = refl
more_stmts-and (syntax.AlsoStmt y xs) x ys = ap (syntax.AlsoStmt y) (more_stmts-and xs x ys)

more_stmts-onto : (xs ys : Items) → parts.more_stmts_of (onto xs ys) ≡ more_stmts-plus (parts.more_stmts_upto xs) (parts.more_stmts_of ys)
more_stmts-onto NoItem ys = refl
more_stmts-onto (AlsoItem x xs) ys = more_stmts-onto xs (AlsoItem x ys) ∙ sym (more_stmts-and (parts.more_stmts_upto xs) (parts.the_stmt x) (parts.more_stmts_of ys))

more_stmts-closed : (xs : Items) → parts.more_stmts_of (onto xs NoItem) ≡ parts.more_stmts_upto xs
more_stmts-closed xs = more_stmts-onto xs NoItem ∙ more_stmts-none (parts.more_stmts_upto xs)

abbrev arms-plus : syntax.Arms → syntax.Arms → syntax.Arms
arms-plus syntax.NoArm ys = ys
arms-plus (syntax.AlsoArm x xs) ys = syntax.AlsoArm x (arms-plus xs ys)

arms-none : (xs : syntax.Arms) → arms-plus xs syntax.NoArm ≡ xs
arms-none syntax.NoArm = refl
arms-none (syntax.AlsoArm x xs) = ap (syntax.AlsoArm x) (arms-none xs)

arms-and : (xs : syntax.Arms) (x : syntax.Arm) (ys : syntax.Arms) → arms-plus (joining.arms_and xs x) ys ≡ arms-plus xs (syntax.AlsoArm x ys)
arms-and syntax.NoArm x ys = refl
arms-and (syntax.AlsoArm y xs) x ys = ap (syntax.AlsoArm y) (arms-and xs x ys)

arms-onto : (xs ys : Items) → parts.arms_of (onto xs ys) ≡ arms-plus (parts.arms_upto xs) (parts.arms_of ys)
arms-onto NoItem ys = refl
arms-onto (AlsoItem x xs) ys = arms-onto xs (AlsoItem x ys) ∙ sym (arms-and (parts.arms_upto xs) (parts.the_arm x) (parts.arms_of ys))

arms-closed : (xs : Items) → parts.arms_of (onto xs NoItem) ≡ parts.arms_upto xs
arms-closed xs = arms-onto xs NoItem ∙ arms-none (parts.arms_upto xs)

abbrev alts-plus : syntax.Alts → syntax.Alts → syntax.Alts
alts-plus syntax.NoAlt ys = ys
alts-plus (syntax.AlsoAlt x xs) ys = syntax.AlsoAlt x (alts-plus xs ys)

alts-none : (xs : syntax.Alts) → alts-plus xs syntax.NoAlt ≡ xs
alts-none syntax.NoAlt = refl
alts-none (syntax.AlsoAlt x xs) = ap (syntax.AlsoAlt x) (alts-none xs)

alts-and : (xs : syntax.Alts) (x : syntax.Alt) (ys : syntax.Alts) → alts-plus (joining.alts_and xs x) ys ≡ alts-plus xs (syntax.AlsoAlt x ys)
alts-and syntax.NoAlt x ys = refl
alts-and (syntax.AlsoAlt y xs) x ys = ap (syntax.AlsoAlt y) (alts-and xs x ys)

alts-onto : (xs ys : Items) → parts.alts_of (onto xs ys) ≡ alts-plus (parts.alts_upto xs) (parts.alts_of ys)
alts-onto NoItem ys = refl
alts-onto (AlsoItem x xs) ys = alts-onto xs (AlsoItem x ys) ∙ sym (alts-and (parts.alts_upto xs) (parts.the_alt x) (parts.alts_of ys))

alts-closed : (xs : Items) → parts.alts_of (onto xs NoItem) ≡ parts.alts_upto xs
alts-closed xs = alts-onto xs NoItem ∙ alts-none (parts.alts_upto xs)

abbrev branches-plus : syntax.Branches → syntax.Branches → syntax.Branches
branches-plus syntax.NoBranch ys = ys
branches-plus (syntax.AlsoBranch x xs) ys = syntax.AlsoBranch x (branches-plus xs ys)

branches-none : (xs : syntax.Branches) → branches-plus xs syntax.NoBranch ≡ xs
branches-none syntax.NoBranch = refl
branches-none (syntax.AlsoBranch x xs) = ap (syntax.AlsoBranch x) (branches-none xs)

branches-and : (xs : syntax.Branches) (x : syntax.Stmts) (ys : syntax.Branches) → branches-plus (joining.branches_and xs x) ys ≡ branches-plus xs (syntax.AlsoBranch x ys)
branches-and syntax.NoBranch x ys = refl
branches-and (syntax.AlsoBranch y xs) x ys = ap (syntax.AlsoBranch y) (branches-and xs x ys)

branches-onto : (xs ys : Items) → parts.branches_of (onto xs ys) ≡ branches-plus (parts.branches_upto xs) (parts.branches_of ys)
branches-onto NoItem ys = refl
branches-onto (AlsoItem x xs) ys = branches-onto xs (AlsoItem x ys) ∙ sym (branches-and (parts.branches_upto xs) (parts.the_stmts x) (parts.branches_of ys))

branches-closed : (xs : Items) → parts.branches_of (onto xs NoItem) ≡ parts.branches_upto xs
branches-closed xs = branches-onto xs NoItem ∙ branches-none (parts.branches_upto xs)

abbrev handlers-plus : syntax.Handlers → syntax.Handlers → syntax.Handlers
handlers-plus syntax.NoHandler ys = ys
handlers-plus (syntax.AlsoHandler x xs) ys = syntax.AlsoHandler x (handlers-plus xs ys)

handlers-none : (xs : syntax.Handlers) → handlers-plus xs syntax.NoHandler ≡ xs
handlers-none syntax.NoHandler = refl
handlers-none (syntax.AlsoHandler x xs) = ap (syntax.AlsoHandler x) (handlers-none xs)

handlers-and : (xs : syntax.Handlers) (x : syntax.Handler) (ys : syntax.Handlers) → handlers-plus (joining.handlers_and xs x) ys ≡ handlers-plus xs (syntax.AlsoHandler x ys)
handlers-and syntax.NoHandler x ys = refl
handlers-and (syntax.AlsoHandler y xs) x ys = ap (syntax.AlsoHandler y) (handlers-and xs x ys)

handlers-onto : (xs ys : Items) → parts.handlers_of (onto xs ys) ≡ handlers-plus (parts.handlers_upto xs) (parts.handlers_of ys)
handlers-onto NoItem ys = refl
handlers-onto (AlsoItem x xs) ys = handlers-onto xs (AlsoItem x ys) ∙ sym (handlers-and (parts.handlers_upto xs) (parts.the_handler x) (parts.handlers_of ys))

handlers-closed : (xs : Items) → parts.handlers_of (onto xs NoItem) ≡ parts.handlers_upto xs
handlers-closed xs = handlers-onto xs NoItem ∙ handlers-none (parts.handlers_upto xs)

pub is_closed : (k : ListKind) (q p : TreePart) → items_of q ≡ onto (open_items k p) NoItem → IsClosed k q p
is_closed list'.Conjuncts q p e = ap parts.conjuncts_of e ∙ conjuncts-closed (open_items list'.Conjuncts p)
is_closed list'.Addings q p e = ap parts.addings_of e ∙ addings-closed (open_items list'.Addings p)
is_closed list'.Multiplyings q p e = ap parts.multiplyings_of e ∙ multiplyings-closed (open_items list'.Multiplyings p)
is_closed list'.Elsifs q p e = ap parts.elsifs_of e ∙ elsifs-closed (open_items list'.Elsifs p)
is_closed list'.Exprs q p e = ap parts.exprs_of e ∙ exprs-closed (open_items list'.Exprs p)
is_closed list'.NameParts q p e = ap parts.parts_of e ∙ parts-closed (open_items list'.NameParts p)
is_closed list'.Args q p e = ap parts.args_of e ∙ args-closed (open_items list'.Args p)
is_closed list'.Choices q p e = ap parts.choices_of e ∙ choices-closed (open_items list'.Choices p)
is_closed list'.Assocs q p e = ap parts.assocs_of e ∙ assocs-closed (open_items list'.Assocs p)
is_closed list'.Stmts q p e = ap parts.more_stmts_of e ∙ more_stmts-closed (open_items list'.Stmts p)
is_closed list'.Arms q p e = ap parts.arms_of e ∙ arms-closed (open_items list'.Arms p)
is_closed list'.Alts q p e = ap parts.alts_of e ∙ alts-closed (open_items list'.Alts p)
is_closed list'.Branches q p e = ap parts.branches_of e ∙ branches-closed (open_items list'.Branches p)
is_closed list'.Handlers q p e = ap parts.handlers_of e ∙ handlers-closed (open_items list'.Handlers p)
is_closed list'.Tokens q p e = ap (list_of parts.the_token) e ∙ all-closed parts.the_token (open_items list'.Tokens p)
is_closed list'.Ranges q p e = ap (list_of parts.the_range) e ∙ all-closed parts.the_range (open_items list'.Ranges p)
is_closed list'.Comps q p e = ap (list_of parts.the_comp) e ∙ all-closed parts.the_comp (open_items list'.Comps p)
is_closed list'.Decls q p e = ap (list_of parts.the_decl) e ∙ all-closed parts.the_decl (open_items list'.Decls p)
is_closed list'.FormalList q p e = ap (list_of parts.the_formal) e ∙ all-closed parts.the_formal (open_items list'.FormalList p)
is_closed list'.Packs q p e = ap (list_of parts.the_pack) e ∙ all-closed parts.the_pack (open_items list'.Packs p)
is_closed list'.ChoiceList q p e = ap (list_of parts.the_choice) e ∙ all-closed parts.the_choice (open_items list'.ChoiceList p)
is_closed list'.Units q p e = ap (list_of parts.the_unit) e ∙ all-closed parts.the_unit (open_items list'.Units p)
is_closed list'.Clauses q p e = ap (list_of parts.the_clause) e ∙ all-closed parts.the_clause (open_items list'.Clauses p)
