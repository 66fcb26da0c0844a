-- What nodes stand for: a part of a program by one of the grammar's rules, or a list of parts.
use Rattle.std.specs.Prelude.{◌≡◌, ℕ, Bool, true, false, nat_eq, Option, Some, None, List, [], ◌∷◌}
use Rattle.syntax_tree.specs.Syntax as syntax
use Rattle.syntax_tree.specs.Syntax.{Expr, Conjunct, Rel, Simple, Adding, Term, Multiplying, Factor, Primary, Elsif, Name, Arg, Range, Choice, Many, Assoc, Parallel, Iter, Ids, Indic, Array, Comp, Definition, Decl, Formal, Formals, Pack, Declare, Scheme, Handled, Stmt, Stmts, Arm, Alt, Body, Handler, Aspect, Sub, Policy, Clause, Main, Program, Conjuncts, NoConjunct, AlsoConjunct, Addings, NoAdding, AlsoAdding, Multiplyings, NoMultiplying, AlsoMultiplying, Elsifs, NoElsif, AlsoElsif, Exprs, NoExpr, AlsoExpr, NoPart, AlsoPart, Args, NoArg, AlsoArg, Choices, NoChoice, AlsoChoice, Assocs, NoAssoc, AlsoAssoc, MoreStmts, NoStmt, AlsoStmt, Arms, NoArm, AlsoArm, Alts, NoAlt, AlsoAlt, Branches, NoBranch, AlsoBranch, Handlers, NoHandler, AlsoHandler, Single, Alone, Sum, Product, Operand, Number, Named, name, conjunct, adding, multiplying, elsif, arg, Field, Whole, Value, FirstOthers, Chosen, Unchunked, InRange, OptionalExpr, AbsentExpr, PresentExpr, OptionalParallel, AbsentParallel, PresentParallel, OptionalStmts, AbsentStmts, PresentStmts, Mark, ObjectType, Indicated, Anonymous, RangeType, ArrayType, ExceptionDecl, While, AnyOther, Null, stmts, arm, alt, body, handler, Unit', DeclUnit, SubUnit, ExprFunction}
use Rattle.syntax_tree.specs.declared.operators.Additive.TheVariants as additive
use Rattle.syntax_tree.specs.declared.operators.Multiplicative.TheVariants as multiplicative
use Rattle.syntax_tree.specs.declared.operators.ClauseWord.TheVariants as word
use Rattle.syntax_tree.specs.Joining.{addings_and, alts_and, args_and, arms_and, assocs_and, branches_and, choices_and, conjuncts_and, elsifs_and, exprs_and, handlers_and, list_and, multiplyings_and, parts_and, stmts_and}
use Rattle.syntax_nodes.specs.declared.lists.ListKind.{ListKind}
use Rattle.syntax_nodes.specs.declared.lists.ListKind.TheVariants as list'

-- the values of a reduction: `["parallel" ["(" chunk ")"]] "for" iter "=>" expr`
pub record Values : Type 0 where
  pub parallel : OptionalParallel
  pub at : ℕ
  pub iter : Iter
  pub value : Expr

-- the expression of an expression function: `"(" expr ")"`
pub record Bracketed : Type 0 where
  pub bracket : ℕ
  pub value : Expr

-- the end of a subprogram: `{decl} "begin" body "end" [id] ";"`
pub record Implementation : Type 0 where
  pub decls : List Decl
  pub body : Body
  pub last_name : Option ℕ

mutual
  -- a list that grows has a kind, and its items the latest first; a closed one has them in the order of the text
  pub data TreePart : Type 0 where
    Nothing : TreePart
    OfToken : ℕ → TreePart
    OfExpr : Expr → TreePart
    OfConjunct : Conjunct → TreePart
    OfRel : Rel → TreePart
    OfSimple : Simple → TreePart
    OfAdding : Adding → TreePart
    OfTerm : Term → TreePart
    OfMultiplying : Multiplying → TreePart
    OfFactor : Factor → TreePart
    OfPrimary : Primary → TreePart
    OfElsif : Elsif → TreePart
    OfName : Name → TreePart
    OfNamePart : syntax.NamePart → TreePart
    OfArg : Arg → TreePart
    OfRange : Range → TreePart
    OfChoice : Choice → TreePart
    OfMany : Many → TreePart
    OfAssoc : Assoc → TreePart
    OfParallel : Parallel → TreePart
    OfIter : Iter → TreePart
    OfValues : Values → TreePart
    OfIds : Ids → TreePart
    OfIndic : Indic → TreePart
    OfArray : Array → TreePart
    OfComp : Comp → TreePart
    OfDefinition : Definition → TreePart
    OfDecl : Decl → TreePart
    OfFormal : Formal → TreePart
    OfFormals : Formals → TreePart
    OfPack : Pack → TreePart
    OfDeclare : Declare → TreePart
    OfScheme : Scheme → TreePart
    OfHandled : Handled → TreePart
    OfStmt : Stmt → TreePart
    OfStmts : Stmts → TreePart
    OfArm : Arm → TreePart
    OfAlt : Alt → TreePart
    OfBody : Body → TreePart
    OfHandler : Handler → TreePart
    OfAspect : Aspect → TreePart
    OfBracketed : Bracketed → TreePart
    OfImplementation : Implementation → TreePart
    OfSub : Sub → TreePart
    OfPolicy : Policy → TreePart
    OfClause : Clause → TreePart
    OfMain : Main → TreePart
    OfProgram : Program → TreePart
    Open : ListKind → Items → TreePart
    Closed : Items → TreePart

  pub data Items : Type 0 where
    NoItem : Items
    AlsoItem : TreePart → Items → Items

-- ---- what a part is by each rule. A part by a lower rule stands for one by each rule above it; what can't be one
-- ---- by a rule reads as the least that there is, so that all is defined.

abbrev pub the_token : TreePart → ℕ
the_token (OfToken n) = n
the_token _ = 0

abbrev pub the_name : TreePart → Name
the_name (OfName n) = n
the_name _ = name 0 syntax.NoPart

abbrev pub the_primary : TreePart → Primary
the_primary (OfPrimary p) = p
the_primary (OfName n) = Named n
the_primary _ = Number 0

abbrev pub the_factor : TreePart → Factor
the_factor (OfFactor f) = f
the_factor p = Operand (the_primary p)

abbrev pub the_multiplying : TreePart → Multiplying
the_multiplying (OfMultiplying m) = m
the_multiplying p = multiplying multiplicative.Times 0 (the_factor p)

abbrev pub the_term : TreePart → Term
the_term (OfTerm t) = t
the_term p = Product (the_factor p) NoMultiplying

abbrev pub the_adding : TreePart → Adding
the_adding (OfAdding m) = m
the_adding p = adding additive.Plus 0 (the_term p)

abbrev pub the_simple : TreePart → Simple
the_simple (OfSimple s) = s
the_simple p = Sum None (the_term p) NoAdding

abbrev pub the_rel : TreePart → Rel
the_rel (OfRel r) = r
the_rel p = Alone (the_simple p)

abbrev pub the_conjunct : TreePart → Conjunct
the_conjunct (OfConjunct c) = c
the_conjunct p = conjunct 0 (the_rel p)

abbrev pub the_expr : TreePart → Expr
the_expr (OfExpr e) = e
the_expr p = Single (the_rel p)

abbrev pub the_elsif : TreePart → Elsif
the_elsif (OfElsif e) = e
the_elsif p = elsif 0 (the_expr p) (the_expr p)

abbrev pub the_arg : TreePart → Arg
the_arg (OfArg a) = a
the_arg p = arg None (the_expr p)

abbrev pub the_part : TreePart → syntax.NamePart
the_part (OfNamePart a) = a
the_part _ = Field 0

abbrev pub the_range : TreePart → Range
the_range (OfRange r) = r
the_range p = Whole (the_name p)

abbrev pub the_choice : TreePart → Choice
the_choice (OfChoice c) = c
the_choice p = Value (the_simple p)

abbrev pub the_assoc : TreePart → Assoc
the_assoc (OfAssoc a) = a
the_assoc p = Chosen (the_choice p) NoChoice (the_expr p)

abbrev pub the_many : TreePart → Many
the_many (OfMany m) = m
the_many p = FirstOthers (the_expr p) 0 (the_expr p)

abbrev pub the_parallel : TreePart → Parallel
the_parallel (OfParallel a) = a
the_parallel _ = Unchunked 0

abbrev pub the_iter : TreePart → Iter
the_iter (OfIter i) = i
the_iter p = InRange 0 None (the_range p) AbsentExpr

abbrev pub the_values : TreePart → Values
the_values (OfValues v) = v
the_values p = record { parallel = AbsentParallel; at = 0; iter = the_iter p; value = the_expr p }

abbrev pub the_ids : TreePart → Ids
the_ids (OfIds i) = i
the_ids _ = record { first = 0; more = [] }

abbrev pub the_indic : TreePart → Indic
the_indic (OfIndic i) = i
the_indic _ = Mark 0

abbrev pub the_array : TreePart → Array
the_array (OfArray a) = a
the_array p = record { at = 0; first = the_range p; more = []; component = the_indic p }

abbrev pub the_comp : TreePart → Comp
the_comp (OfComp c) = c
the_comp p = record { names = the_ids p; component = the_indic p }

abbrev pub the_object_type : TreePart → ObjectType
the_object_type (OfArray a) = Anonymous a
the_object_type p = Indicated (the_indic p)

abbrev pub the_definition : TreePart → Definition
the_definition (OfDefinition d) = d
the_definition (OfArray a) = ArrayType a
the_definition p = RangeType (the_simple p) (the_simple p)

abbrev pub the_decl : TreePart → Decl
the_decl (OfDecl d) = d
the_decl p = ExceptionDecl (the_ids p)

abbrev pub the_formal : TreePart → Formal
the_formal (OfFormal f) = f
the_formal p = record { names = the_ids p; mode = None; mark = 0 }

abbrev pub the_formals : TreePart → Formals
the_formals (OfFormals f) = f
the_formals p = record { bracket = 0; first = the_formal p; more = [] }

abbrev pub the_pack : TreePart → Pack
the_pack (OfPack a) = a
the_pack _ = record { first = 0; more = [] }

abbrev pub the_declare : TreePart → Declare
the_declare (OfDeclare d) = d
the_declare _ = record { at = 0; decls = [] }

abbrev pub the_scheme : TreePart → Scheme
the_scheme (OfScheme s) = s
the_scheme p = While 0 (the_expr p)

abbrev pub the_handled : TreePart → Handled
the_handled (OfHandled h) = h
the_handled _ = AnyOther 0

abbrev pub the_stmt : TreePart → Stmt
the_stmt (OfStmt s) = s
the_stmt _ = Null 0

abbrev pub the_stmts : TreePart → Stmts
the_stmts (OfStmts s) = s
the_stmts p = stmts (the_stmt p) NoStmt

abbrev pub the_arm : TreePart → Arm
the_arm (OfArm a) = a
the_arm p = arm 0 (the_expr p) (the_stmts p)

abbrev pub the_alt : TreePart → Alt
the_alt (OfAlt a) = a
the_alt p = alt 0 (the_choice p) [] (the_stmts p)

abbrev pub the_body : TreePart → Body
the_body (OfBody b) = b
the_body p = body (the_stmts p) NoHandler

abbrev pub the_handler : TreePart → Handler
the_handler (OfHandler h) = h
the_handler p = handler 0 (the_handled p) (the_stmts p)

abbrev pub the_aspect : TreePart → Aspect
the_aspect (OfAspect a) = a
the_aspect _ = record { at = 0; mark = 0; value = None }

abbrev pub the_bracketed : TreePart → Bracketed
the_bracketed (OfBracketed b) = b
the_bracketed p = record { bracket = 0; value = the_expr p }

abbrev pub the_implementation : TreePart → Implementation
the_implementation (OfImplementation i) = i
the_implementation p = record { decls = []; body = the_body p; last_name = None }

abbrev pub the_sub : TreePart → Sub
the_sub (OfSub s) = s
the_sub p = ExprFunction 0 0 None 0 (the_bracketed p).bracket (the_bracketed p).value None

abbrev pub the_unit : TreePart → Unit'
the_unit (OfSub s) = SubUnit s
the_unit p = DeclUnit (the_decl p)

abbrev pub the_policy : TreePart → Policy
the_policy (OfPolicy a) = a
the_policy _ = record { at = 0; mark = 0; policy = 0 }

abbrev pub the_clause : TreePart → Clause
the_clause (OfClause c) = c
the_clause p = record { at = 0; word = word.With; first = the_pack p; more = [] }

abbrev pub the_main : TreePart → Main
the_main (OfMain m) = m
the_main p = record { at = 0; defined = 0; aspect = None; units = []; body = the_body p; last_name = None }

abbrev pub the_program : TreePart → Program
the_program (OfProgram a) = a
the_program p = record { policy = None; clauses = []; main = the_main p }

-- ---- a part that may be left out

abbrev pub maybe_token : TreePart → Option ℕ
maybe_token (OfToken x) = Some x
maybe_token _ = None

abbrev pub maybe_pack : TreePart → Option Pack
maybe_pack (OfPack x) = Some x
maybe_pack _ = None

abbrev pub maybe_parallel : TreePart → Option Parallel
maybe_parallel (OfParallel x) = Some x
maybe_parallel _ = None

abbrev pub maybe_declare : TreePart → Option Declare
maybe_declare (OfDeclare x) = Some x
maybe_declare _ = None

abbrev pub maybe_scheme : TreePart → Option Scheme
maybe_scheme (OfScheme x) = Some x
maybe_scheme _ = None

abbrev pub maybe_formals : TreePart → Option Formals
maybe_formals (OfFormals x) = Some x
maybe_formals _ = None

abbrev pub maybe_aspect : TreePart → Option Aspect
maybe_aspect (OfAspect x) = Some x
maybe_aspect _ = None

abbrev pub maybe_policy : TreePart → Option Policy
maybe_policy (OfPolicy x) = Some x
maybe_policy _ = None

abbrev pub maybe_simple : TreePart → Option Simple
maybe_simple Nothing = None
maybe_simple p = Some (the_simple p)

abbrev pub maybe_expr : TreePart → Option Expr
maybe_expr Nothing = None
maybe_expr p = Some (the_expr p)

abbrev pub optional_expr : TreePart → OptionalExpr
optional_expr Nothing = AbsentExpr
optional_expr p = PresentExpr (the_expr p)

abbrev pub optional_parallel : TreePart → OptionalParallel
optional_parallel (OfParallel x) = PresentParallel x
optional_parallel _ = AbsentParallel

abbrev pub optional_stmts : TreePart → OptionalStmts
optional_stmts (OfStmts x) = PresentStmts x
optional_stmts _ = AbsentStmts

-- ---- lists

-- the items of a closed list, in the order of the text
abbrev pub items_of : TreePart → Items
items_of (Closed xs) = xs
items_of _ = NoItem

-- the items of a list of a kind that grows, the latest first: none where the part is no such list
abbrev pub grown : Bool → Items → Items
grown true xs = xs
grown false xs = NoItem

abbrev pub list_number : ListKind → ℕ
list_number list'.Conjuncts = 0
list_number list'.Addings = 1
list_number list'.Multiplyings = 2
list_number list'.Elsifs = 3
list_number list'.Exprs = 4
list_number list'.NameParts = 5
list_number list'.Args = 6
list_number list'.Choices = 7
list_number list'.Assocs = 8
list_number list'.Stmts = 9
list_number list'.Arms = 10
list_number list'.Alts = 11
list_number list'.Branches = 12
list_number list'.Handlers = 13
list_number list'.Tokens = 14
list_number list'.Ranges = 15
list_number list'.Comps = 16
list_number list'.Decls = 17
list_number list'.FormalList = 18
list_number list'.Packs = 19
list_number list'.ChoiceList = 20
list_number list'.Units = 21
list_number list'.Clauses = 22

abbrev pub opened : ℕ → TreePart → Items
opened n (Open j xs) = grown (nat_eq n (list_number j)) xs
opened n _ = NoItem

abbrev pub open_items : ListKind → TreePart → Items
open_items k p = opened (list_number k) p

-- items that are given the latest first, before others
abbrev pub onto : Items → Items → Items
onto NoItem ys = ys
onto (AlsoItem x xs) ys = onto xs (AlsoItem x ys)

-- each kind of lists from items in the order of the text, and from items the latest first: `x_of` and `x_upto`

abbrev pub list_of : {A : Type 0} → (TreePart → A) → Items → List A
list_of the NoItem = []
list_of the (AlsoItem x xs) = the x ∷ list_of the xs

abbrev pub list_upto : {A : Type 0} → (TreePart → A) → Items → List A
list_upto the NoItem = []
list_upto the (AlsoItem x xs) = list_and (list_upto the xs) (the x)

abbrev pub conjuncts_of : Items → Conjuncts
conjuncts_of NoItem = NoConjunct
conjuncts_of (AlsoItem x xs) = AlsoConjunct (the_conjunct x) (conjuncts_of xs)

abbrev pub conjuncts_upto : Items → Conjuncts
conjuncts_upto NoItem = NoConjunct
conjuncts_upto (AlsoItem x xs) = conjuncts_and (conjuncts_upto xs) (the_conjunct x)

abbrev pub the_conjuncts : TreePart → Conjuncts
the_conjuncts p = conjuncts_of (items_of p)

abbrev pub open_conjuncts : TreePart → Conjuncts
open_conjuncts p = conjuncts_upto (open_items list'.Conjuncts p)

abbrev pub addings_of : Items → Addings
addings_of NoItem = NoAdding
addings_of (AlsoItem x xs) = AlsoAdding (the_adding x) (addings_of xs)

abbrev pub addings_upto : Items → Addings
addings_upto NoItem = NoAdding
addings_upto (AlsoItem x xs) = addings_and (addings_upto xs) (the_adding x)

abbrev pub the_addings : TreePart → Addings
the_addings p = addings_of (items_of p)

abbrev pub open_addings : TreePart → Addings
open_addings p = addings_upto (open_items list'.Addings p)

abbrev pub multiplyings_of : Items → Multiplyings
multiplyings_of NoItem = NoMultiplying
multiplyings_of (AlsoItem x xs) = AlsoMultiplying (the_multiplying x) (multiplyings_of xs)

abbrev pub multiplyings_upto : Items → Multiplyings
multiplyings_upto NoItem = NoMultiplying
multiplyings_upto (AlsoItem x xs) = multiplyings_and (multiplyings_upto xs) (the_multiplying x)

abbrev pub the_multiplyings : TreePart → Multiplyings
the_multiplyings p = multiplyings_of (items_of p)

abbrev pub open_multiplyings : TreePart → Multiplyings
open_multiplyings p = multiplyings_upto (open_items list'.Multiplyings p)

abbrev pub elsifs_of : Items → Elsifs
elsifs_of NoItem = NoElsif
elsifs_of (AlsoItem x xs) = AlsoElsif (the_elsif x) (elsifs_of xs)

abbrev pub elsifs_upto : Items → Elsifs
elsifs_upto NoItem = NoElsif
elsifs_upto (AlsoItem x xs) = elsifs_and (elsifs_upto xs) (the_elsif x)

abbrev pub the_elsifs : TreePart → Elsifs
the_elsifs p = elsifs_of (items_of p)

abbrev pub open_elsifs : TreePart → Elsifs
open_elsifs p = elsifs_upto (open_items list'.Elsifs p)

abbrev pub exprs_of : Items → Exprs
exprs_of NoItem = NoExpr
exprs_of (AlsoItem x xs) = AlsoExpr (the_expr x) (exprs_of xs)

abbrev pub exprs_upto : Items → Exprs
exprs_upto NoItem = NoExpr
exprs_upto (AlsoItem x xs) = exprs_and (exprs_upto xs) (the_expr x)

abbrev pub the_exprs : TreePart → Exprs
the_exprs p = exprs_of (items_of p)

abbrev pub open_exprs : TreePart → Exprs
open_exprs p = exprs_upto (open_items list'.Exprs p)

abbrev pub parts_of : Items → syntax.NameParts
parts_of NoItem = syntax.NoPart
parts_of (AlsoItem x xs) = syntax.AlsoPart (the_part x) (parts_of xs)

abbrev pub parts_upto : Items → syntax.NameParts
parts_upto NoItem = syntax.NoPart
parts_upto (AlsoItem x xs) = parts_and (parts_upto xs) (the_part x)

abbrev pub the_parts : TreePart → syntax.NameParts
the_parts p = parts_of (items_of p)

abbrev pub open_parts : TreePart → syntax.NameParts
open_parts p = parts_upto (open_items list'.NameParts p)

abbrev pub args_of : Items → Args
args_of NoItem = NoArg
args_of (AlsoItem x xs) = AlsoArg (the_arg x) (args_of xs)

abbrev pub args_upto : Items → Args
args_upto NoItem = NoArg
args_upto (AlsoItem x xs) = args_and (args_upto xs) (the_arg x)

abbrev pub the_args : TreePart → Args
the_args p = args_of (items_of p)

abbrev pub open_args : TreePart → Args
open_args p = args_upto (open_items list'.Args p)

abbrev pub choices_of : Items → Choices
choices_of NoItem = NoChoice
choices_of (AlsoItem x xs) = AlsoChoice (the_choice x) (choices_of xs)

abbrev pub choices_upto : Items → Choices
choices_upto NoItem = NoChoice
choices_upto (AlsoItem x xs) = choices_and (choices_upto xs) (the_choice x)

abbrev pub the_choices : TreePart → Choices
the_choices p = choices_of (items_of p)

abbrev pub open_choices : TreePart → Choices
open_choices p = choices_upto (open_items list'.Choices p)

abbrev pub assocs_of : Items → Assocs
assocs_of NoItem = NoAssoc
assocs_of (AlsoItem x xs) = AlsoAssoc (the_assoc x) (assocs_of xs)

abbrev pub assocs_upto : Items → Assocs
assocs_upto NoItem = NoAssoc
assocs_upto (AlsoItem x xs) = assocs_and (assocs_upto xs) (the_assoc x)

abbrev pub the_assocs : TreePart → Assocs
the_assocs p = assocs_of (items_of p)

abbrev pub open_assocs : TreePart → Assocs
open_assocs p = assocs_upto (open_items list'.Assocs p)

abbrev pub more_stmts_of : Items → MoreStmts
more_stmts_of NoItem = NoStmt
more_stmts_of (AlsoItem x xs) = AlsoStmt (the_stmt x) (more_stmts_of xs)

abbrev pub more_stmts_upto : Items → MoreStmts
more_stmts_upto NoItem = NoStmt
more_stmts_upto (AlsoItem x xs) = stmts_and (more_stmts_upto xs) (the_stmt x)

abbrev pub the_more_stmts : TreePart → MoreStmts
the_more_stmts p = more_stmts_of (items_of p)

abbrev pub open_more_stmts : TreePart → MoreStmts
open_more_stmts p = more_stmts_upto (open_items list'.Stmts p)

abbrev pub arms_of : Items → Arms
arms_of NoItem = NoArm
arms_of (AlsoItem x xs) = AlsoArm (the_arm x) (arms_of xs)

abbrev pub arms_upto : Items → Arms
arms_upto NoItem = NoArm
arms_upto (AlsoItem x xs) = arms_and (arms_upto xs) (the_arm x)

abbrev pub the_arms : TreePart → Arms
the_arms p = arms_of (items_of p)

abbrev pub open_arms : TreePart → Arms
open_arms p = arms_upto (open_items list'.Arms p)

abbrev pub alts_of : Items → Alts
alts_of NoItem = NoAlt
alts_of (AlsoItem x xs) = AlsoAlt (the_alt x) (alts_of xs)

abbrev pub alts_upto : Items → Alts
alts_upto NoItem = NoAlt
alts_upto (AlsoItem x xs) = alts_and (alts_upto xs) (the_alt x)

abbrev pub the_alts : TreePart → Alts
the_alts p = alts_of (items_of p)

abbrev pub open_alts : TreePart → Alts
open_alts p = alts_upto (open_items list'.Alts p)

abbrev pub branches_of : Items → Branches
branches_of NoItem = NoBranch
branches_of (AlsoItem x xs) = AlsoBranch (the_stmts x) (branches_of xs)

abbrev pub branches_upto : Items → Branches
branches_upto NoItem = NoBranch
branches_upto (AlsoItem x xs) = branches_and (branches_upto xs) (the_stmts x)

abbrev pub the_branches : TreePart → Branches
the_branches p = branches_of (items_of p)

abbrev pub open_branches : TreePart → Branches
open_branches p = branches_upto (open_items list'.Branches p)

abbrev pub handlers_of : Items → Handlers
handlers_of NoItem = NoHandler
handlers_of (AlsoItem x xs) = AlsoHandler (the_handler x) (handlers_of xs)

abbrev pub handlers_upto : Items → Handlers
handlers_upto NoItem = NoHandler
handlers_upto (AlsoItem x xs) = handlers_and (handlers_upto xs) (the_handler x)

abbrev pub the_handlers : TreePart → Handlers
the_handlers p = handlers_of (items_of p)

abbrev pub open_handlers : TreePart → Handlers
open_handlers p = handlers_upto (open_items list'.Handlers p)

abbrev pub the_tokens : TreePart → List ℕ
the_tokens p = list_of the_token (items_of p)

abbrev pub open_tokens : TreePart → List ℕ
open_tokens p = list_upto the_token (open_items list'.Tokens p)

abbrev pub the_ranges : TreePart → List Range
the_ranges p = list_of the_range (items_of p)

abbrev pub open_ranges : TreePart → List Range
open_ranges p = list_upto the_range (open_items list'.Ranges p)

abbrev pub the_comps : TreePart → List Comp
the_comps p = list_of the_comp (items_of p)

abbrev pub open_comps : TreePart → List Comp
open_comps p = list_upto the_comp (open_items list'.Comps p)

abbrev pub the_decls : TreePart → List Decl
the_decls p = list_of the_decl (items_of p)

abbrev pub open_decls : TreePart → List Decl
open_decls p = list_upto the_decl (open_items list'.Decls p)

abbrev pub the_formal_list : TreePart → List Formal
the_formal_list p = list_of the_formal (items_of p)

abbrev pub open_formal_list : TreePart → List Formal
open_formal_list p = list_upto the_formal (open_items list'.FormalList p)

abbrev pub the_packs : TreePart → List Pack
the_packs p = list_of the_pack (items_of p)

abbrev pub open_packs : TreePart → List Pack
open_packs p = list_upto the_pack (open_items list'.Packs p)

abbrev pub the_choice_list : TreePart → List Choice
the_choice_list p = list_of the_choice (items_of p)

abbrev pub open_choice_list : TreePart → List Choice
open_choice_list p = list_upto the_choice (open_items list'.ChoiceList p)

abbrev pub the_units : TreePart → List Unit'
the_units p = list_of the_unit (items_of p)

abbrev pub open_units : TreePart → List Unit'
open_units p = list_upto the_unit (open_items list'.Units p)

abbrev pub the_clauses : TreePart → List Clause
the_clauses p = list_of the_clause (items_of p)

abbrev pub open_clauses : TreePart → List Clause
open_clauses p = list_upto the_clause (open_items list'.Clauses p)

-- ---- that a part by a rule stands for one by each rule above it: equations, which hold of every part of the rule

abbrev pub IsPart : TreePart → Type 0
IsPart p = Unit {0}

abbrev pub IsExpr : TreePart → Type 0
IsExpr p = (the_arg p ≡ arg None (the_expr p)) × (maybe_expr p ≡ Some (the_expr p)) × (optional_expr p ≡ PresentExpr (the_expr p))

abbrev pub IsRel : TreePart → Type 0
IsRel p = (the_expr p ≡ Single (the_rel p)) × IsExpr p

abbrev pub IsSimple : TreePart → Type 0
IsSimple p = (the_rel p ≡ Alone (the_simple p)) × (the_choice p ≡ Value (the_simple p)) × (maybe_simple p ≡ Some (the_simple p)) × IsRel p

abbrev pub IsTerm : TreePart → Type 0
IsTerm p = (the_simple p ≡ Sum None (the_term p) NoAdding) × IsSimple p

abbrev pub IsFactor : TreePart → Type 0
IsFactor p = (the_term p ≡ Product (the_factor p) NoMultiplying) × IsTerm p

abbrev pub IsPrimary : TreePart → Type 0
IsPrimary p = (the_factor p ≡ Operand (the_primary p)) × IsFactor p

abbrev pub IsName : TreePart → Type 0
IsName p = (the_primary p ≡ Named (the_name p)) × (the_range p ≡ Whole (the_name p)) × IsPrimary p

abbrev pub IsIndic : TreePart → Type 0
IsIndic p = the_object_type p ≡ Indicated (the_indic p)

abbrev pub IsArray : TreePart → Type 0
IsArray p = (the_object_type p ≡ Anonymous (the_array p)) × (the_definition p ≡ ArrayType (the_array p))

abbrev pub IsDecl : TreePart → Type 0
IsDecl p = the_unit p ≡ DeclUnit (the_decl p)

abbrev pub IsSub : TreePart → Type 0
IsSub p = the_unit p ≡ SubUnit (the_sub p)

abbrev pub IsParallel : TreePart → Type 0
IsParallel p = (maybe_parallel p ≡ Some (the_parallel p)) × (optional_parallel p ≡ PresentParallel (the_parallel p))

abbrev pub IsStmts : TreePart → Type 0
IsStmts p = optional_stmts p ≡ PresentStmts (the_stmts p)

abbrev pub IsPack : TreePart → Type 0
IsPack p = maybe_pack p ≡ Some (the_pack p)

abbrev pub IsDeclare : TreePart → Type 0
IsDeclare p = maybe_declare p ≡ Some (the_declare p)

abbrev pub IsScheme : TreePart → Type 0
IsScheme p = maybe_scheme p ≡ Some (the_scheme p)

abbrev pub IsFormals : TreePart → Type 0
IsFormals p = maybe_formals p ≡ Some (the_formals p)

abbrev pub IsAspect : TreePart → Type 0
IsAspect p = maybe_aspect p ≡ Some (the_aspect p)

abbrev pub IsPolicy : TreePart → Type 0
IsPolicy p = maybe_policy p ≡ Some (the_policy p)

-- ---- a list that is closed is the one that grew

abbrev pub IsClosed : ListKind → TreePart → TreePart → Type 0
IsClosed list'.Conjuncts q p = the_conjuncts q ≡ open_conjuncts p
IsClosed list'.Addings q p = the_addings q ≡ open_addings p
IsClosed list'.Multiplyings q p = the_multiplyings q ≡ open_multiplyings p
IsClosed list'.Elsifs q p = the_elsifs q ≡ open_elsifs p
IsClosed list'.Exprs q p = the_exprs q ≡ open_exprs p
IsClosed list'.NameParts q p = the_parts q ≡ open_parts p
IsClosed list'.Args q p = the_args q ≡ open_args p
IsClosed list'.Choices q p = the_choices q ≡ open_choices p
IsClosed list'.Assocs q p = the_assocs q ≡ open_assocs p
IsClosed list'.Stmts q p = the_more_stmts q ≡ open_more_stmts p
IsClosed list'.Arms q p = the_arms q ≡ open_arms p
IsClosed list'.Alts q p = the_alts q ≡ open_alts p
IsClosed list'.Branches q p = the_branches q ≡ open_branches p
IsClosed list'.Handlers q p = the_handlers q ≡ open_handlers p
IsClosed list'.Tokens q p = the_tokens q ≡ open_tokens p
IsClosed list'.Ranges q p = the_ranges q ≡ open_ranges p
IsClosed list'.Comps q p = the_comps q ≡ open_comps p
IsClosed list'.Decls q p = the_decls q ≡ open_decls p
IsClosed list'.FormalList q p = the_formal_list q ≡ open_formal_list p
IsClosed list'.Packs q p = the_packs q ≡ open_packs p
IsClosed list'.ChoiceList q p = the_choice_list q ≡ open_choice_list p
IsClosed list'.Units q p = the_units q ≡ open_units p
IsClosed list'.Clauses q p = the_clauses q ≡ open_clauses p
