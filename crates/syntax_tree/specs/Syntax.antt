-- The abstract syntax of programs: one type for each rule of the grammar (Annex P), with a constructor for each form.
-- A token is given by its number in the list of tokens: an identifier, a number or a string, and each operator, bracket
-- and word at which something may be blamed. A chain of operators is its first operand and a list of links, each an
-- operator with the operand after it.
use Rattle.std.specs.Prelude.{ℕ, List, Option}
use Rattle.syntax_tree.specs.declared.operators.Logical.{Logical}
use Rattle.ada_base.specs.declared.operation.Comparison.{Comparison}
use Rattle.syntax_tree.specs.declared.operators.Additive.{Additive}
use Rattle.syntax_tree.specs.declared.operators.Sign.{Sign}
use Rattle.syntax_tree.specs.declared.operators.Multiplicative.{Multiplicative}
use Rattle.syntax_tree.specs.declared.operators.Mode.{Mode}
use Rattle.syntax_tree.specs.declared.operators.ClauseWord.{ClauseWord}

mutual
  -- ---- expressions (4.4)

  -- expr = rel {"and" rel} | rel {"or" rel} | rel {"xor" rel}
  --      | rel {"and" "then" rel} | rel {"or" "else" rel} .
  pub data Expr : Type 0 where
    Single : Rel → Expr
    Joined : (by : Logical) (first : Rel) (at : ℕ) (second : Rel) (more : Conjuncts) → Expr

  -- a relation after a logical operator, which is at the token `at`
  pub data Conjunct : Type 0 where
    conjunct : (at : ℕ) → Rel → Conjunct

  pub data Conjuncts : Type 0 where
    NoConjunct : Conjuncts
    AlsoConjunct : Conjunct → Conjuncts → Conjuncts

  -- rel = simple [("=" | "/=" | "<" | "<=" | ">" | ">=") simple]
  --     | simple ["not"] "in" (simple ".." simple | id) .
  pub data Rel : Type 0 where
    Alone : Simple → Rel
    Compared : (left : Simple) (by : Comparison) (at : ℕ) (right : Simple) → Rel
    Within : (value : Simple) (negation : Option ℕ) (at : ℕ) (low high : Simple) → Rel
    OfMark : (value : Simple) (negation : Option ℕ) (at mark : ℕ) → Rel

  -- simple = ["+" | "-"] term {("+" | "-" | "&") term} .
  pub data Simple : Type 0 where
    Sum : (sign : Option Sign) (first : Term) (more : Addings) → Simple

  pub data Adding : Type 0 where
    adding : (by : Additive) (at : ℕ) → Term → Adding

  pub data Addings : Type 0 where
    NoAdding : Addings
    AlsoAdding : Adding → Addings → Addings

  -- term = factor {("*" | "/" | "mod" | "rem") factor} .
  pub data Term : Type 0 where
    Product : (first : Factor) (more : Multiplyings) → Term

  pub data Multiplying : Type 0 where
    multiplying : (by : Multiplicative) (at : ℕ) → Factor → Multiplying

  pub data Multiplyings : Type 0 where
    NoMultiplying : Multiplyings
    AlsoMultiplying : Multiplying → Multiplyings → Multiplyings

  -- factor = primary ["**" primary] | "abs" primary | "not" primary .
  pub data Factor : Type 0 where
    Operand : Primary → Factor
    Power : (base : Primary) (at : ℕ) (exponent : Primary) → Factor
    Abs : (at : ℕ) (operand : Primary) → Factor
    Not : (at : ℕ) (operand : Primary) → Factor

  -- primary = num | str | "@" | name | "(" expr ")" | "(" ifexpr ")" | aggregate | reduction .
  -- ifexpr = "if" expr "then" expr {"elsif" expr "then" expr} "else" expr .
  -- aggregate = "(" many ")" | "[" (many | expr) "]" .
  -- reduction = "[" ["parallel" ["(" chunk ")"]] "for" iter "=>" expr "]" "'" id "(" expr "," expr ")" .
  pub data Primary : Type 0 where
    Number : (at : ℕ) → Primary
    Text : (at : ℕ) → Primary
    Target : (at : ℕ) → Primary
    Named : Name → Primary
    Group : (bracket : ℕ) → Expr → Primary
    If : (bracket at : ℕ) (condition value : Expr) (more : Elsifs) (otherwise : Expr) → Primary
    Round : (bracket : ℕ) → Many → Primary
    Square : (bracket : ℕ) → Many → Primary
    OneValue : (bracket : ℕ) → Expr → Primary
    Reduction : (bracket : ℕ) (parallel : OptionalParallel) (at : ℕ) (iter : Iter) (value : Expr)
        (attribute : ℕ) (reducer initial : Expr) → Primary

  pub data Elsif : Type 0 where
    elsif : (at : ℕ) (condition value : Expr) → Elsif

  pub data Elsifs : Type 0 where
    NoElsif : Elsifs
    AlsoElsif : Elsif → Elsifs → Elsifs

  pub data Exprs : Type 0 where
    NoExpr : Exprs
    AlsoExpr : Expr → Exprs → Exprs

  pub data OptionalExpr : Type 0 where
    AbsentExpr : OptionalExpr
    PresentExpr : Expr → OptionalExpr

  -- ---- names, and what stands in brackets (4.1, 4.3)

  -- name = id {"." id | "(" arg {"," arg} ")" | "'" (id | "range")} .
  pub data Name : Type 0 where
    name : (first : ℕ) → NameParts → Name

  pub data NamePart : Type 0 where
    Field : (at : ℕ) → NamePart
    Call : (bracket : ℕ) (first : Arg) (more : Args) → NamePart
    Attribute : (at : ℕ) → NamePart
    RangeAttribute : (at : ℕ) → NamePart

  pub data NameParts : Type 0 where
    NoPart : NameParts
    AlsoPart : NamePart → NameParts → NameParts

  -- arg = [id "=>"] expr .
  pub data Arg : Type 0 where
    arg : (formal : Option ℕ) → Expr → Arg

  pub data Args : Type 0 where
    NoArg : Args
    AlsoArg : Arg → Args → Args

  -- range = simple ".." simple | name ["range" simple ".." simple] .
  pub data Range : Type 0 where
    Bounded : (low high : Simple) → Range
    Whole : Name → Range
    Constrained : Name → (low high : Simple) → Range

  -- choice = simple [".." simple] | "others" .
  pub data Choice : Type 0 where
    Value : Simple → Choice
    Span : (low high : Simple) → Choice
    Others : (at : ℕ) → Choice

  pub data Choices : Type 0 where
    NoChoice : Choices
    AlsoChoice : Choice → Choices → Choices

  -- many = expr "," expr {"," expr} ["," "others" "=>" expr]
  --      | expr "," "others" "=>" expr | assoc {"," assoc} .
  pub data Many : Type 0 where
    Positions : (first second : Expr) (more : Exprs) → Many
    PositionsOthers : (first second : Expr) (more : Exprs) (at : ℕ) (others : Expr) → Many
    FirstOthers : (first : Expr) (at : ℕ) (others : Expr) → Many
    Associations : (first : Assoc) (more : Assocs) → Many

  -- assoc = choice {"|" choice} "=>" expr | "for" id "in" range "=>" expr .
  pub data Assoc : Type 0 where
    Chosen : (first : Choice) (more : Choices) (value : Expr) → Assoc
    Each : (at index : ℕ) (range : Range) (value : Expr) → Assoc

  pub data Assocs : Type 0 where
    NoAssoc : Assocs
    AlsoAssoc : Assoc → Assocs → Assocs

  -- ---- what iterations and reductions go through (4.5.10, 5.5)

  -- "parallel" ["(" chunk ")"], with chunk = simple | id "in" range .
  pub data Parallel : Type 0 where
    Unchunked : (at : ℕ) → Parallel
    Counted : (at : ℕ) (count : Simple) → Parallel
    Chunked : (at index : ℕ) (range : Range) → Parallel

  pub data OptionalParallel : Type 0 where
    AbsentParallel : OptionalParallel
    PresentParallel : Parallel → OptionalParallel

  -- iter = id "in" ["reverse"] range ["when" expr] | id "of" name ["when" expr] .
  pub data Iter : Type 0 where
    InRange : (index : ℕ) (reverse : Option ℕ) (range : Range) (filter : OptionalExpr) → Iter
    OfName : (item : ℕ) (of : Name) (filter : OptionalExpr) → Iter

-- ---- declarations (3.1) and formal parameters (6.1)

-- ids = id {"," id} .
pub record Ids : Type 0 where
  pub first : ℕ
  pub more : List ℕ

-- indic = id ["range" simple ".." simple] .
pub data Indic : Type 0 where
  Mark : (mark : ℕ) → Indic
  RangeMark : (mark : ℕ) (low high : Simple) → Indic

-- array = "array" "(" range {"," range} ")" "of" indic .
pub record Array : Type 0 where
  pub at : ℕ
  pub first : Range
  pub more : List Range
  pub component : Indic

-- comp = ids ":" indic ";" .
pub record Comp : Type 0 where
  pub names : Ids
  pub component : Indic

-- indic | array
pub data ObjectType : Type 0 where
  Indicated : Indic → ObjectType
  Anonymous : Array → ObjectType

-- "range" simple ".." simple | "mod" simple | array | "record" comp {comp} "end" "record"
pub data Definition : Type 0 where
  RangeType : (low high : Simple) → Definition
  ModularType : (modulus : Simple) → Definition
  ArrayType : Array → Definition
  RecordType : (first : Comp) (more : List Comp) → Definition

-- decl = ids ":" ["constant"] (indic | array) [":=" expr] ";"
--      | ids ":" "constant" ":=" expr ";"
--      | ids ":" "exception" ";"
--      | "type" id "is" definition ";"
--      | "subtype" id "is" indic ";" .
pub data Decl : Type 0 where
  ObjectDecl : (names : Ids) (constant : Option ℕ) (type : ObjectType) (value : Option Expr) → Decl
  NumberDecl : (names : Ids) (at : ℕ) (value : Expr) → Decl
  ExceptionDecl : (names : Ids) → Decl
  TypeDecl : (at defined : ℕ) → Definition → Decl
  SubtypeDecl : (at defined : ℕ) → Indic → Decl

-- formal = ids ":" ["in" | "out" | "in" "out"] id .
pub record Formal : Type 0 where
  pub names : Ids
  pub mode : Option Mode
  pub mark : ℕ

-- formals = "(" formal {";" formal} ")" .
pub record Formals : Type 0 where
  pub bracket : ℕ
  pub first : Formal
  pub more : List Formal

-- ---- statements (5.1)

-- pack = id {"." id} .
pub record Pack : Type 0 where
  pub first : ℕ
  pub more : List ℕ

-- "declare" {decl}
pub record Declare : Type 0 where
  pub at : ℕ
  pub decls : List Decl

-- scheme = "while" expr | ["parallel" ["(" chunk ")"]] "for" iter .
pub data Scheme : Type 0 where
  While : (at : ℕ) (condition : Expr) → Scheme
  For : (parallel : Option Parallel) (at : ℕ) (iter : Iter) → Scheme

-- "others" | pack {"|" pack}
pub data Handled : Type 0 where
  AnyOther : (at : ℕ) → Handled
  These : (first : Pack) (more : List Pack) → Handled

mutual
  -- stmt, with the token of its first word where it begins with one; of a loop those of the first `loop` and of `end`
  pub data Stmt : Type 0 where
    Null : (at : ℕ) → Stmt
    Assign : (target : Name) (value : Expr) → Stmt
    CallStmt : Name → Stmt
    Exit : (at : ℕ) (from : Option ℕ) (condition : Option Expr) → Stmt
    Return : (at : ℕ) (value : Option Expr) → Stmt
    Raise : (at : ℕ) (exception : Option Pack) → Stmt
    IfStmt : (at : ℕ) (condition : Expr) → Stmts → (more : Arms) (otherwise : OptionalStmts) → Stmt
    Case : (at : ℕ) (value : Expr) (first : Alt) (more : Alts) → Stmt
    Loop : (label : Option ℕ) (scheme : Option Scheme) (at : ℕ) → Stmts → (last : ℕ) (last_name : Option ℕ) → Stmt
    Block : (declare : Option Declare) (at : ℕ) → Body → Stmt
    ParallelBlock : (at : ℕ) (count : Option Simple) (first second : Stmts) (more : Branches) → Stmt

  -- stmts = stmt {stmt} .
  pub data Stmts : Type 0 where
    stmts : (first : Stmt) (more : MoreStmts) → Stmts

  pub data MoreStmts : Type 0 where
    NoStmt : MoreStmts
    AlsoStmt : Stmt → MoreStmts → MoreStmts

  pub data OptionalStmts : Type 0 where
    AbsentStmts : OptionalStmts
    PresentStmts : Stmts → OptionalStmts

  -- "elsif" expr "then" stmts
  pub data Arm : Type 0 where
    arm : (at : ℕ) (condition : Expr) → Stmts → Arm

  pub data Arms : Type 0 where
    NoArm : Arms
    AlsoArm : Arm → Arms → Arms

  -- alt = "when" choice {"|" choice} "=>" stmts .
  pub data Alt : Type 0 where
    alt : (at : ℕ) (first : Choice) (more : List Choice) → Stmts → Alt

  pub data Alts : Type 0 where
    NoAlt : Alts
    AlsoAlt : Alt → Alts → Alts

  -- the branches of a parallel block after the second
  pub data Branches : Type 0 where
    NoBranch : Branches
    AlsoBranch : Stmts → Branches → Branches

  -- body = stmts ["exception" handler {handler}] .
  pub data Body : Type 0 where
    body : Stmts → Handlers → Body

  -- handler = "when" ("others" | pack {"|" pack}) "=>" stmts .
  pub data Handler : Type 0 where
    handler : (at : ℕ) → Handled → Stmts → Handler

  pub data Handlers : Type 0 where
    NoHandler : Handlers
    AlsoHandler : Handler → Handlers → Handlers

-- ---- programs (10.1) and subprograms (6.1, 6.3)

-- aspect = "with" id ["=>" id] .
pub record Aspect : Type 0 where
  pub at : ℕ
  pub mark : ℕ
  pub value : Option ℕ

-- sub = "procedure" id [formals] [aspect] "is" {decl} "begin" body "end" [id] ";"
--     | "function" id [formals] "return" id [aspect] "is" {decl} "begin" body "end" [id] ";"
--     | "function" id [formals] "return" id "is" "(" expr ")" [aspect] ";" .
pub data Sub : Type 0 where
  Procedure : (at defined : ℕ) → Option Formals → Option Aspect → List Decl → Body → (last_name : Option ℕ) → Sub
  Function : (at defined : ℕ) → Option Formals → (result : ℕ) → Option Aspect → List Decl → Body → (last_name : Option ℕ) → Sub
  ExprFunction : (at defined : ℕ) → Option Formals → (result bracket : ℕ) (value : Expr) → Option Aspect → Sub

-- decl | sub
pub data Unit' : Type 0 where
  DeclUnit : Decl → Unit'
  SubUnit : Sub → Unit'

-- policy = "pragma" id "(" id ")" ";" .
pub record Policy : Type 0 where
  pub at : ℕ
  pub mark : ℕ
  pub policy : ℕ

-- ("with" | "use") pack {"," pack} ";"
pub record Clause : Type 0 where
  pub at : ℕ
  pub word : ClauseWord
  pub first : Pack
  pub more : List Pack

-- main = "procedure" id [aspect] "is" {decl | sub} "begin" body "end" [id] ";" .
pub record Main : Type 0 where
  pub at : ℕ
  pub defined : ℕ
  pub aspect : Option Aspect
  pub units : List Unit'
  pub body : Body
  pub last_name : Option ℕ

-- program = [policy] {clause} main .
pub record Program : Type 0 where
  pub policy : Option Policy
  pub clauses : List Clause
  pub main : Main
