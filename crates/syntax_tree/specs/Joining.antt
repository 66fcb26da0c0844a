-- How the parts of a program are joined while its text is read from left to right.
--
-- A list grows at its end: `args_and xs x` is `xs` with `x` behind it. A list that is no type of its own grows by
-- `list_and`. A part with a first item and more is joined by its constructor once the list of the others is whole.
use Rattle.std.specs.Prelude.{ℕ, List, [], ◌∷◌, ◌++◌, Option, Some, None}
use Rattle.syntax_tree.specs.Syntax.{Conjuncts, Conjunct, NoConjunct, AlsoConjunct, Addings, Adding, NoAdding, AlsoAdding, Multiplyings, Multiplying, NoMultiplying, AlsoMultiplying, Elsifs, Elsif, NoElsif, AlsoElsif, Exprs, Expr, NoExpr, AlsoExpr, NameParts, NamePart, NoPart, AlsoPart, Args, Arg, NoArg, AlsoArg, Choices, Choice, NoChoice, AlsoChoice, Assocs, Assoc, NoAssoc, AlsoAssoc, MoreStmts, Stmt, NoStmt, AlsoStmt, Arms, Arm, NoArm, AlsoArm, Alts, Alt, NoAlt, AlsoAlt, Branches, Stmts, NoBranch, AlsoBranch, Handlers, Handler, NoHandler, AlsoHandler, Single, Rel, Alone, Simple, Sum, Term, Product, Factor, Operand, Primary, Named, Name, name}

-- ---- lists

abbrev pub list_and : {A : Type 0} → List A → A → List A
list_and xs x = xs ++ x ∷ []

abbrev pub conjuncts_and : Conjuncts → Conjunct → Conjuncts
conjuncts_and NoConjunct x = AlsoConjunct x NoConjunct
conjuncts_and (AlsoConjunct y ys) x = AlsoConjunct y (conjuncts_and ys x)

abbrev pub addings_and : Addings → Adding → Addings
addings_and NoAdding x = AlsoAdding x NoAdding
addings_and (AlsoAdding y ys) x = AlsoAdding y (addings_and ys x)

abbrev pub multiplyings_and : Multiplyings → Multiplying → Multiplyings
multiplyings_and NoMultiplying x = AlsoMultiplying x NoMultiplying
multiplyings_and (AlsoMultiplying y ys) x = AlsoMultiplying y (multiplyings_and ys x)

abbrev pub elsifs_and : Elsifs → Elsif → Elsifs
elsifs_and NoElsif x = AlsoElsif x NoElsif
elsifs_and (AlsoElsif y ys) x = AlsoElsif y (elsifs_and ys x)

abbrev pub exprs_and : Exprs → Expr → Exprs
exprs_and NoExpr x = AlsoExpr x NoExpr
exprs_and (AlsoExpr y ys) x = AlsoExpr y (exprs_and ys x)

abbrev pub parts_and : NameParts → NamePart → NameParts
parts_and NoPart x = AlsoPart x NoPart
parts_and (AlsoPart y ys) x = AlsoPart y (parts_and ys x)

abbrev pub args_and : Args → Arg → Args
args_and NoArg x = AlsoArg x NoArg
args_and (AlsoArg y ys) x = AlsoArg y (args_and ys x)

abbrev pub choices_and : Choices → Choice → Choices
choices_and NoChoice x = AlsoChoice x NoChoice
choices_and (AlsoChoice y ys) x = AlsoChoice y (choices_and ys x)

abbrev pub assocs_and : Assocs → Assoc → Assocs
assocs_and NoAssoc x = AlsoAssoc x NoAssoc
assocs_and (AlsoAssoc y ys) x = AlsoAssoc y (assocs_and ys x)

abbrev pub stmts_and : MoreStmts → Stmt → MoreStmts
stmts_and NoStmt x = AlsoStmt x NoStmt
stmts_and (AlsoStmt y ys) x = AlsoStmt y (stmts_and ys x)

abbrev pub arms_and : Arms → Arm → Arms
arms_and NoArm x = AlsoArm x NoArm
arms_and (AlsoArm y ys) x = AlsoArm y (arms_and ys x)

abbrev pub alts_and : Alts → Alt → Alts
alts_and NoAlt x = AlsoAlt x NoAlt
alts_and (AlsoAlt y ys) x = AlsoAlt y (alts_and ys x)

abbrev pub branches_and : Branches → Stmts → Branches
branches_and NoBranch x = AlsoBranch x NoBranch
branches_and (AlsoBranch y ys) x = AlsoBranch y (branches_and ys x)

abbrev pub handlers_and : Handlers → Handler → Handlers
handlers_and NoHandler x = AlsoHandler x NoHandler
handlers_and (AlsoHandler y ys) x = AlsoHandler y (handlers_and ys x)

-- ---- what a sum or an expression is, where the grammar asks for a name or an identifier

abbrev pub primary_name : Primary → Option Name
primary_name (Named n) = Some n
primary_name _ = None

abbrev pub factor_name : Factor → Option Name
factor_name (Operand p) = primary_name p
factor_name _ = None

abbrev pub term_name : Term → Option Name
term_name (Product f NoMultiplying) = factor_name f
term_name _ = None

-- the name that a sum is
unfoldable pub bare_name : Simple → Option Name
bare_name (Sum None t NoAdding) = term_name t
bare_name _ = None

abbrev pub name_identifier : Name → Option ℕ
name_identifier (name n NoPart) = Some n
name_identifier _ = None

abbrev pub identifier_of : Option Name → Option ℕ
identifier_of None = None
identifier_of (Some n) = name_identifier n

-- the identifier that a sum is
unfoldable pub bare_identifier : Simple → Option ℕ
bare_identifier s = identifier_of (bare_name s)

abbrev pub rel_identifier : Rel → Option ℕ
rel_identifier (Alone s) = bare_identifier s
rel_identifier _ = None

-- the identifier that an expression is
unfoldable pub expr_identifier : Expr → Option ℕ
expr_identifier (Single r) = rel_identifier r
expr_identifier _ = None
