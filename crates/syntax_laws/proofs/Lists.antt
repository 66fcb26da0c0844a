-- The lists of the syntax: how they grow, and what they spell.
use Rattle.std.proofs.Common.{◌≡◌, ℕ, ◌⊎◌, inl, inr, refl, ap}
use Rattle.ada_base.specs.Symbols.{Word}
use Rattle.ada_base.specs.Languages.{Empty, ◌⋅◌}
use Rattle.syntax_readers.proofs.Chains.{Listed, Grows}
use Rattle.syntax_readers.proofs.Forms.{to_right, to_left}
use Rattle.ada_base.specs.Kinds as kind
use Rattle.syntax_tree.specs.Syntax.{NameParts, NamePart, NoPart, AlsoPart, Multiplyings, Multiplying, NoMultiplying, AlsoMultiplying, Addings, Adding, NoAdding, AlsoAdding, Conjuncts, Conjunct, NoConjunct, AlsoConjunct, Elsifs, Elsif, NoElsif, AlsoElsif, Exprs, Expr, NoExpr, AlsoExpr, Args, Arg, NoArg, AlsoArg, Choices, Choice, NoChoice, AlsoChoice, Assocs, Assoc, NoAssoc, AlsoAssoc, MoreStmts, Stmt, NoStmt, AlsoStmt, Arms, Arm, NoArm, AlsoArm, Alts, Alt, NoAlt, AlsoAlt, Branches, Stmts, NoBranch, AlsoBranch, Handlers, Handler, NoHandler, AlsoHandler}
use Rattle.syntax_tree.specs.Joining.{parts_and, multiplyings_and, addings_and, conjuncts_and, elsifs_and, exprs_and, args_and, choices_and, assocs_and, stmts_and, arms_and, alts_and, branches_and, handlers_and}
use Rattle.syntax_tree.specs.Productions as spell
use Rattle.syntax_tree.specs.declared.operators.Logical.{Logical}
use Rattle.syntax_laws.proofs.Words.{Words, After}

-- ---- parts

abbrev pub append_parts : NameParts → NameParts → NameParts
append_parts NoPart l = l
append_parts (AlsoPart x xs) l = AlsoPart x (append_parts xs l)

parts-end : (l : NameParts) → append_parts l NoPart ≡ l
parts-end NoPart = refl
parts-end (AlsoPart x xs) = ap (AlsoPart x) (parts-end xs)

parts-more : (l : NameParts) (b : NamePart) (m : NameParts) → append_parts l (AlsoPart b m) ≡ append_parts (parts_and l b) m
parts-more NoPart b m = refl
parts-more (AlsoPart x xs) b m = ap (AlsoPart x) (parts-more xs b m)

pub parts_grow : Grows NoPart AlsoPart parts_and append_parts
parts_grow = record { at_front = λ l. refl; at_end = parts-end; at_more = parts-more }

pub parts_listed : (depth : ℕ) → Listed NoPart AlsoPart (Words spell.part depth) (Words spell.parts depth)
unfolding spell.expr
parts_listed depth = record { at_none = λ w e. e; at_more = λ x xs w l. l; parts = parts } where
  parts : (xs : NameParts) (w : Word) → Words spell.parts depth xs w → ((xs ≡ NoPart) × Empty w) ⊎ ((x : NamePart) × (ys : NameParts) × (xs ≡ AlsoPart x ys) × (Words spell.part depth x ⋅ Words spell.parts depth ys) w)
  parts NoPart w e = inl (refl, e)
  parts (AlsoPart x xs) w l = inr (x, xs, refl, l)

-- ---- multiplyings

abbrev pub append_multiplyings : Multiplyings → Multiplyings → Multiplyings
append_multiplyings NoMultiplying l = l
append_multiplyings (AlsoMultiplying x xs) l = AlsoMultiplying x (append_multiplyings xs l)

multiplyings-end : (l : Multiplyings) → append_multiplyings l NoMultiplying ≡ l
multiplyings-end NoMultiplying = refl
multiplyings-end (AlsoMultiplying x xs) = ap (AlsoMultiplying x) (multiplyings-end xs)

multiplyings-more : (l : Multiplyings) (b : Multiplying) (m : Multiplyings) → append_multiplyings l (AlsoMultiplying b m) ≡ append_multiplyings (multiplyings_and l b) m
multiplyings-more NoMultiplying b m = refl
multiplyings-more (AlsoMultiplying x xs) b m = ap (AlsoMultiplying x) (multiplyings-more xs b m)

pub multiplyings_grow : Grows NoMultiplying AlsoMultiplying multiplyings_and append_multiplyings
multiplyings_grow = record { at_front = λ l. refl; at_end = multiplyings-end; at_more = multiplyings-more }

pub multiplyings_listed : (depth : ℕ) → Listed NoMultiplying AlsoMultiplying (Words spell.multiplying' depth) (Words spell.multiplyings depth)
unfolding spell.expr
multiplyings_listed depth = record { at_none = λ w e. e; at_more = λ x xs w l. l; parts = parts } where
  parts : (xs : Multiplyings) (w : Word) → Words spell.multiplyings depth xs w → ((xs ≡ NoMultiplying) × Empty w) ⊎ ((x : Multiplying) × (ys : Multiplyings) × (xs ≡ AlsoMultiplying x ys) × (Words spell.multiplying' depth x ⋅ Words spell.multiplyings depth ys) w)
  parts NoMultiplying w e = inl (refl, e)
  parts (AlsoMultiplying x xs) w l = inr (x, xs, refl, l)

-- ---- addings

abbrev pub append_addings : Addings → Addings → Addings
append_addings NoAdding l = l
append_addings (AlsoAdding x xs) l = AlsoAdding x (append_addings xs l)

addings-end : (l : Addings) → append_addings l NoAdding ≡ l
addings-end NoAdding = refl
addings-end (AlsoAdding x xs) = ap (AlsoAdding x) (addings-end xs)

addings-more : (l : Addings) (b : Adding) (m : Addings) → append_addings l (AlsoAdding b m) ≡ append_addings (addings_and l b) m
addings-more NoAdding b m = refl
addings-more (AlsoAdding x xs) b m = ap (AlsoAdding x) (addings-more xs b m)

pub addings_grow : Grows NoAdding AlsoAdding addings_and append_addings
addings_grow = record { at_front = λ l. refl; at_end = addings-end; at_more = addings-more }

pub addings_listed : (depth : ℕ) → Listed NoAdding AlsoAdding (Words spell.adding' depth) (Words spell.addings depth)
unfolding spell.expr
addings_listed depth = record { at_none = λ w e. e; at_more = λ x xs w l. l; parts = parts } where
  parts : (xs : Addings) (w : Word) → Words spell.addings depth xs w → ((xs ≡ NoAdding) × Empty w) ⊎ ((x : Adding) × (ys : Addings) × (xs ≡ AlsoAdding x ys) × (Words spell.adding' depth x ⋅ Words spell.addings depth ys) w)
  parts NoAdding w e = inl (refl, e)
  parts (AlsoAdding x xs) w l = inr (x, xs, refl, l)

-- ---- conjuncts

abbrev pub append_conjuncts : Conjuncts → Conjuncts → Conjuncts
append_conjuncts NoConjunct l = l
append_conjuncts (AlsoConjunct x xs) l = AlsoConjunct x (append_conjuncts xs l)

conjuncts-end : (l : Conjuncts) → append_conjuncts l NoConjunct ≡ l
conjuncts-end NoConjunct = refl
conjuncts-end (AlsoConjunct x xs) = ap (AlsoConjunct x) (conjuncts-end xs)

conjuncts-more : (l : Conjuncts) (b : Conjunct) (m : Conjuncts) → append_conjuncts l (AlsoConjunct b m) ≡ append_conjuncts (conjuncts_and l b) m
conjuncts-more NoConjunct b m = refl
conjuncts-more (AlsoConjunct x xs) b m = ap (AlsoConjunct x) (conjuncts-more xs b m)

pub conjuncts_grow : Grows NoConjunct AlsoConjunct conjuncts_and append_conjuncts
conjuncts_grow = record { at_front = λ l. refl; at_end = conjuncts-end; at_more = conjuncts-more }

pub conjuncts_listed : (by : Logical) (depth : ℕ) → Listed NoConjunct AlsoConjunct (Words (λ c. spell.conjunct' c by) depth) (Words (λ cs. spell.conjuncts cs by) depth)
unfolding spell.expr
conjuncts_listed by depth = record { at_none = λ w e. e; at_more = λ x xs w l. l; parts = parts } where
  parts : (xs : Conjuncts) (w : Word) → Words (λ cs. spell.conjuncts cs by) depth xs w → ((xs ≡ NoConjunct) × Empty w) ⊎ ((x : Conjunct) × (ys : Conjuncts) × (xs ≡ AlsoConjunct x ys) × (Words (λ c. spell.conjunct' c by) depth x ⋅ Words (λ cs. spell.conjuncts cs by) depth ys) w)
  parts NoConjunct w e = inl (refl, e)
  parts (AlsoConjunct x xs) w l = inr (x, xs, refl, l)

-- ---- elsifs

abbrev pub append_elsifs : Elsifs → Elsifs → Elsifs
append_elsifs NoElsif l = l
append_elsifs (AlsoElsif x xs) l = AlsoElsif x (append_elsifs xs l)

elsifs-end : (l : Elsifs) → append_elsifs l NoElsif ≡ l
elsifs-end NoElsif = refl
elsifs-end (AlsoElsif x xs) = ap (AlsoElsif x) (elsifs-end xs)

elsifs-more : (l : Elsifs) (b : Elsif) (m : Elsifs) → append_elsifs l (AlsoElsif b m) ≡ append_elsifs (elsifs_and l b) m
elsifs-more NoElsif b m = refl
elsifs-more (AlsoElsif x xs) b m = ap (AlsoElsif x) (elsifs-more xs b m)

pub elsifs_grow : Grows NoElsif AlsoElsif elsifs_and append_elsifs
elsifs_grow = record { at_front = λ l. refl; at_end = elsifs-end; at_more = elsifs-more }

pub elsifs_listed : (depth : ℕ) → Listed NoElsif AlsoElsif (Words spell.elsif' depth) (Words spell.elsifs depth)
unfolding spell.expr
elsifs_listed depth = record { at_none = λ w e. e; at_more = λ x xs w l. l; parts = parts } where
  parts : (xs : Elsifs) (w : Word) → Words spell.elsifs depth xs w → ((xs ≡ NoElsif) × Empty w) ⊎ ((x : Elsif) × (ys : Elsifs) × (xs ≡ AlsoElsif x ys) × (Words spell.elsif' depth x ⋅ Words spell.elsifs depth ys) w)
  parts NoElsif w e = inl (refl, e)
  parts (AlsoElsif x xs) w l = inr (x, xs, refl, l)

-- ---- exprs

abbrev pub append_exprs : Exprs → Exprs → Exprs
append_exprs NoExpr l = l
append_exprs (AlsoExpr x xs) l = AlsoExpr x (append_exprs xs l)

exprs-end : (l : Exprs) → append_exprs l NoExpr ≡ l
exprs-end NoExpr = refl
exprs-end (AlsoExpr x xs) = ap (AlsoExpr x) (exprs-end xs)

exprs-more : (l : Exprs) (b : Expr) (m : Exprs) → append_exprs l (AlsoExpr b m) ≡ append_exprs (exprs_and l b) m
exprs-more NoExpr b m = refl
exprs-more (AlsoExpr x xs) b m = ap (AlsoExpr x) (exprs-more xs b m)

pub exprs_grow : Grows NoExpr AlsoExpr exprs_and append_exprs
exprs_grow = record { at_front = λ l. refl; at_end = exprs-end; at_more = exprs-more }

pub exprs_listed : (depth : ℕ) → Listed NoExpr AlsoExpr (After kind.comma spell.expr depth) (Words spell.exprs depth)
unfolding spell.expr
exprs_listed depth = record { at_none = λ w e. e; at_more = λ x xs w l. to_right l; parts = parts } where
  parts : (xs : Exprs) (w : Word) → Words spell.exprs depth xs w → ((xs ≡ NoExpr) × Empty w) ⊎ ((x : Expr) × (ys : Exprs) × (xs ≡ AlsoExpr x ys) × (After kind.comma spell.expr depth x ⋅ Words spell.exprs depth ys) w)
  parts NoExpr w e = inl (refl, e)
  parts (AlsoExpr x xs) w l = inr (x, xs, refl, to_left l)

-- ---- args

abbrev pub append_args : Args → Args → Args
append_args NoArg l = l
append_args (AlsoArg x xs) l = AlsoArg x (append_args xs l)

args-end : (l : Args) → append_args l NoArg ≡ l
args-end NoArg = refl
args-end (AlsoArg x xs) = ap (AlsoArg x) (args-end xs)

args-more : (l : Args) (b : Arg) (m : Args) → append_args l (AlsoArg b m) ≡ append_args (args_and l b) m
args-more NoArg b m = refl
args-more (AlsoArg x xs) b m = ap (AlsoArg x) (args-more xs b m)

pub args_grow : Grows NoArg AlsoArg args_and append_args
args_grow = record { at_front = λ l. refl; at_end = args-end; at_more = args-more }

pub args_listed : (depth : ℕ) → Listed NoArg AlsoArg (After kind.comma spell.arg' depth) (Words spell.args depth)
unfolding spell.expr
args_listed depth = record { at_none = λ w e. e; at_more = λ x xs w l. to_right l; parts = parts } where
  parts : (xs : Args) (w : Word) → Words spell.args depth xs w → ((xs ≡ NoArg) × Empty w) ⊎ ((x : Arg) × (ys : Args) × (xs ≡ AlsoArg x ys) × (After kind.comma spell.arg' depth x ⋅ Words spell.args depth ys) w)
  parts NoArg w e = inl (refl, e)
  parts (AlsoArg x xs) w l = inr (x, xs, refl, to_left l)

-- ---- choices

abbrev pub append_choices : Choices → Choices → Choices
append_choices NoChoice l = l
append_choices (AlsoChoice x xs) l = AlsoChoice x (append_choices xs l)

choices-end : (l : Choices) → append_choices l NoChoice ≡ l
choices-end NoChoice = refl
choices-end (AlsoChoice x xs) = ap (AlsoChoice x) (choices-end xs)

choices-more : (l : Choices) (b : Choice) (m : Choices) → append_choices l (AlsoChoice b m) ≡ append_choices (choices_and l b) m
choices-more NoChoice b m = refl
choices-more (AlsoChoice x xs) b m = ap (AlsoChoice x) (choices-more xs b m)

pub choices_grow : Grows NoChoice AlsoChoice choices_and append_choices
choices_grow = record { at_front = λ l. refl; at_end = choices-end; at_more = choices-more }

pub choices_listed : (depth : ℕ) → Listed NoChoice AlsoChoice (After kind.bar spell.choice depth) (Words spell.choices depth)
unfolding spell.expr
choices_listed depth = record { at_none = λ w e. e; at_more = λ x xs w l. to_right l; parts = parts } where
  parts : (xs : Choices) (w : Word) → Words spell.choices depth xs w → ((xs ≡ NoChoice) × Empty w) ⊎ ((x : Choice) × (ys : Choices) × (xs ≡ AlsoChoice x ys) × (After kind.bar spell.choice depth x ⋅ Words spell.choices depth ys) w)
  parts NoChoice w e = inl (refl, e)
  parts (AlsoChoice x xs) w l = inr (x, xs, refl, to_left l)

-- ---- assocs

abbrev pub append_assocs : Assocs → Assocs → Assocs
append_assocs NoAssoc l = l
append_assocs (AlsoAssoc x xs) l = AlsoAssoc x (append_assocs xs l)

assocs-end : (l : Assocs) → append_assocs l NoAssoc ≡ l
assocs-end NoAssoc = refl
assocs-end (AlsoAssoc x xs) = ap (AlsoAssoc x) (assocs-end xs)

assocs-more : (l : Assocs) (b : Assoc) (m : Assocs) → append_assocs l (AlsoAssoc b m) ≡ append_assocs (assocs_and l b) m
assocs-more NoAssoc b m = refl
assocs-more (AlsoAssoc x xs) b m = ap (AlsoAssoc x) (assocs-more xs b m)

pub assocs_grow : Grows NoAssoc AlsoAssoc assocs_and append_assocs
assocs_grow = record { at_front = λ l. refl; at_end = assocs-end; at_more = assocs-more }

pub assocs_listed : (depth : ℕ) → Listed NoAssoc AlsoAssoc (After kind.comma spell.assoc depth) (Words spell.assocs depth)
unfolding spell.expr
assocs_listed depth = record { at_none = λ w e. e; at_more = λ x xs w l. to_right l; parts = parts } where
  parts : (xs : Assocs) (w : Word) → Words spell.assocs depth xs w → ((xs ≡ NoAssoc) × Empty w) ⊎ ((x : Assoc) × (ys : Assocs) × (xs ≡ AlsoAssoc x ys) × (After kind.comma spell.assoc depth x ⋅ Words spell.assocs depth ys) w)
  parts NoAssoc w e = inl (refl, e)
  parts (AlsoAssoc x xs) w l = inr (x, xs, refl, to_left l)

-- ---- stmts

abbrev pub append_stmts : MoreStmts → MoreStmts → MoreStmts
append_stmts NoStmt l = l
append_stmts (AlsoStmt x xs) l = AlsoStmt x (append_stmts xs l)

stmts-end : (l : MoreStmts) → append_stmts l NoStmt ≡ l
stmts-end NoStmt = refl
stmts-end (AlsoStmt x xs) = ap (AlsoStmt x) (stmts-end xs)

stmts-more : (l : MoreStmts) (b : Stmt) (m : MoreStmts) → append_stmts l (AlsoStmt b m) ≡ append_stmts (stmts_and l b) m
stmts-more NoStmt b m = refl
stmts-more (AlsoStmt x xs) b m = ap (AlsoStmt x) (stmts-more xs b m)

pub stmts_grow : Grows NoStmt AlsoStmt stmts_and append_stmts
stmts_grow = record { at_front = λ l. refl; at_end = stmts-end; at_more = stmts-more }

pub stmts_listed : (depth : ℕ) → Listed NoStmt AlsoStmt (Words spell.stmt depth) (Words spell.more_stmts depth)
unfolding spell.stmt
stmts_listed depth = record { at_none = λ w e. e; at_more = λ x xs w l. l; parts = parts } where
  parts : (xs : MoreStmts) (w : Word) → Words spell.more_stmts depth xs w → ((xs ≡ NoStmt) × Empty w) ⊎ ((x : Stmt) × (ys : MoreStmts) × (xs ≡ AlsoStmt x ys) × (Words spell.stmt depth x ⋅ Words spell.more_stmts depth ys) w)
  parts NoStmt w e = inl (refl, e)
  parts (AlsoStmt x xs) w l = inr (x, xs, refl, l)

-- ---- arms

abbrev pub append_arms : Arms → Arms → Arms
append_arms NoArm l = l
append_arms (AlsoArm x xs) l = AlsoArm x (append_arms xs l)

arms-end : (l : Arms) → append_arms l NoArm ≡ l
arms-end NoArm = refl
arms-end (AlsoArm x xs) = ap (AlsoArm x) (arms-end xs)

arms-more : (l : Arms) (b : Arm) (m : Arms) → append_arms l (AlsoArm b m) ≡ append_arms (arms_and l b) m
arms-more NoArm b m = refl
arms-more (AlsoArm x xs) b m = ap (AlsoArm x) (arms-more xs b m)

pub arms_grow : Grows NoArm AlsoArm arms_and append_arms
arms_grow = record { at_front = λ l. refl; at_end = arms-end; at_more = arms-more }

pub arms_listed : (depth : ℕ) → Listed NoArm AlsoArm (Words spell.arm' depth) (Words spell.arms depth)
unfolding spell.stmt
arms_listed depth = record { at_none = λ w e. e; at_more = λ x xs w l. l; parts = parts } where
  parts : (xs : Arms) (w : Word) → Words spell.arms depth xs w → ((xs ≡ NoArm) × Empty w) ⊎ ((x : Arm) × (ys : Arms) × (xs ≡ AlsoArm x ys) × (Words spell.arm' depth x ⋅ Words spell.arms depth ys) w)
  parts NoArm w e = inl (refl, e)
  parts (AlsoArm x xs) w l = inr (x, xs, refl, l)

-- ---- alts

abbrev pub append_alts : Alts → Alts → Alts
append_alts NoAlt l = l
append_alts (AlsoAlt x xs) l = AlsoAlt x (append_alts xs l)

alts-end : (l : Alts) → append_alts l NoAlt ≡ l
alts-end NoAlt = refl
alts-end (AlsoAlt x xs) = ap (AlsoAlt x) (alts-end xs)

alts-more : (l : Alts) (b : Alt) (m : Alts) → append_alts l (AlsoAlt b m) ≡ append_alts (alts_and l b) m
alts-more NoAlt b m = refl
alts-more (AlsoAlt x xs) b m = ap (AlsoAlt x) (alts-more xs b m)

pub alts_grow : Grows NoAlt AlsoAlt alts_and append_alts
alts_grow = record { at_front = λ l. refl; at_end = alts-end; at_more = alts-more }

pub alts_listed : (depth : ℕ) → Listed NoAlt AlsoAlt (Words spell.alt' depth) (Words spell.alts depth)
unfolding spell.stmt
alts_listed depth = record { at_none = λ w e. e; at_more = λ x xs w l. l; parts = parts } where
  parts : (xs : Alts) (w : Word) → Words spell.alts depth xs w → ((xs ≡ NoAlt) × Empty w) ⊎ ((x : Alt) × (ys : Alts) × (xs ≡ AlsoAlt x ys) × (Words spell.alt' depth x ⋅ Words spell.alts depth ys) w)
  parts NoAlt w e = inl (refl, e)
  parts (AlsoAlt x xs) w l = inr (x, xs, refl, l)

-- ---- branches

abbrev pub append_branches : Branches → Branches → Branches
append_branches NoBranch l = l
append_branches (AlsoBranch x xs) l = AlsoBranch x (append_branches xs l)

branches-end : (l : Branches) → append_branches l NoBranch ≡ l
branches-end NoBranch = refl
branches-end (AlsoBranch x xs) = ap (AlsoBranch x) (branches-end xs)

branches-more : (l : Branches) (b : Stmts) (m : Branches) → append_branches l (AlsoBranch b m) ≡ append_branches (branches_and l b) m
branches-more NoBranch b m = refl
branches-more (AlsoBranch x xs) b m = ap (AlsoBranch x) (branches-more xs b m)

pub branches_grow : Grows NoBranch AlsoBranch branches_and append_branches
branches_grow = record { at_front = λ l. refl; at_end = branches-end; at_more = branches-more }

pub branches_listed : (depth : ℕ) → Listed NoBranch AlsoBranch (After kind.and_word spell.stmts' depth) (Words spell.branches depth)
unfolding spell.stmt
branches_listed depth = record { at_none = λ w e. e; at_more = λ x xs w l. to_right l; parts = parts } where
  parts : (xs : Branches) (w : Word) → Words spell.branches depth xs w → ((xs ≡ NoBranch) × Empty w) ⊎ ((x : Stmts) × (ys : Branches) × (xs ≡ AlsoBranch x ys) × (After kind.and_word spell.stmts' depth x ⋅ Words spell.branches depth ys) w)
  parts NoBranch w e = inl (refl, e)
  parts (AlsoBranch x xs) w l = inr (x, xs, refl, to_left l)

-- ---- handlers

abbrev pub append_handlers : Handlers → Handlers → Handlers
append_handlers NoHandler l = l
append_handlers (AlsoHandler x xs) l = AlsoHandler x (append_handlers xs l)

handlers-end : (l : Handlers) → append_handlers l NoHandler ≡ l
handlers-end NoHandler = refl
handlers-end (AlsoHandler x xs) = ap (AlsoHandler x) (handlers-end xs)

handlers-more : (l : Handlers) (b : Handler) (m : Handlers) → append_handlers l (AlsoHandler b m) ≡ append_handlers (handlers_and l b) m
handlers-more NoHandler b m = refl
handlers-more (AlsoHandler x xs) b m = ap (AlsoHandler x) (handlers-more xs b m)

pub handlers_grow : Grows NoHandler AlsoHandler handlers_and append_handlers
handlers_grow = record { at_front = λ l. refl; at_end = handlers-end; at_more = handlers-more }

pub handlers_listed : (depth : ℕ) → Listed NoHandler AlsoHandler (Words spell.handler' depth) (Words spell.handlers depth)
unfolding spell.stmt
handlers_listed depth = record { at_none = λ w e. e; at_more = λ x xs w l. l; parts = parts } where
  parts : (xs : Handlers) (w : Word) → Words spell.handlers depth xs w → ((xs ≡ NoHandler) × Empty w) ⊎ ((x : Handler) × (ys : Handlers) × (xs ≡ AlsoHandler x ys) × (Words spell.handler' depth x ⋅ Words spell.handlers depth ys) w)
  parts NoHandler w e = inl (refl, e)
  parts (AlsoHandler x xs) w l = inr (x, xs, refl, l)
