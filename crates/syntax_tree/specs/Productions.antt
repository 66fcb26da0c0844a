-- The grammar (Annex P): what each part of a program spells, rule by rule.
use Rattle.std.specs.Prelude.{ℕ}
use Rattle.syntax_tree.specs.Syntax.{Expr, Single, Joined, Conjunct, conjunct, Conjuncts, NoConjunct, AlsoConjunct, Rel, Alone, Compared, Within, OfMark, Simple, Sum, Adding, adding, Addings, NoAdding, AlsoAdding, Term, Product, Multiplying, multiplying, Multiplyings, NoMultiplying, AlsoMultiplying, Factor, Operand, Power, Abs, Not, Primary, Number, Text, Target, Named, Group, If, Round, Square, OneValue, Reduction, Elsif, elsif, Elsifs, NoElsif, AlsoElsif, Exprs, NoExpr, AlsoExpr, OptionalExpr, AbsentExpr, PresentExpr, Name, name, NamePart, Field, Call, Attribute, RangeAttribute, NameParts, NoPart, AlsoPart, Arg, arg, Args, NoArg, AlsoArg, Range, Bounded, Whole, Constrained, Choice, Value, Span, Others, Choices, NoChoice, AlsoChoice, Many, Positions, PositionsOthers, FirstOthers, Associations, Assoc, Chosen, Each, Assocs, NoAssoc, AlsoAssoc, Parallel, Unchunked, Counted, Chunked, OptionalParallel, AbsentParallel, PresentParallel, Iter, InRange, OfName, Ids, Indic, Mark, RangeMark, Array, Comp, ObjectType, Indicated, Anonymous, Definition, RangeType, ArrayType, RecordType, Decl, ObjectDecl, NumberDecl, ExceptionDecl, TypeDecl, SubtypeDecl, Formal, Formals, Pack, Declare, Scheme, While, For, Handled, AnyOther, These, Stmt, Null, Assign, CallStmt, Exit, Return, Raise, IfStmt, Case, Loop, Block, ParallelBlock, Stmts, stmts, MoreStmts, NoStmt, AlsoStmt, OptionalStmts, AbsentStmts, PresentStmts, Arm, arm, Arms, NoArm, AlsoArm, Alt, alt, Alts, NoAlt, AlsoAlt, Branches, NoBranch, AlsoBranch, Body, body, Handler, handler, Handlers, NoHandler, AlsoHandler, Aspect, Sub, Procedure, Function, ExprFunction, Unit', DeclUnit, SubUnit, Policy, Clause, Main, Program, ModularType}
use Rattle.ada_base.specs.Kinds as kind
use Rattle.syntax_tree.specs.Patterns.{Spelling, held, free, ◌then◌, nothing, optional_of, optional_of_after, each_of, each_of_after, inside}
use Rattle.syntax_tree.specs.declared.operators.Logical.{Logical}
use Rattle.syntax_tree.specs.declared.operators.Logical.TheVariants as logical
use Rattle.ada_base.specs.declared.operation.Comparison.{Comparison}
use Rattle.ada_base.specs.declared.operation.Comparison.TheVariants as comparison
use Rattle.syntax_tree.specs.declared.operators.Additive.{Additive}
use Rattle.syntax_tree.specs.declared.operators.Additive.TheVariants as additive
use Rattle.syntax_tree.specs.declared.operators.Multiplicative.{Multiplicative}
use Rattle.syntax_tree.specs.declared.operators.Multiplicative.TheVariants as multiplicative
use Rattle.syntax_tree.specs.declared.operators.Sign.{Sign}
use Rattle.syntax_tree.specs.declared.operators.Sign.TheVariants as sign
use Rattle.syntax_tree.specs.declared.operators.Mode.{Mode}
use Rattle.syntax_tree.specs.declared.operators.Mode.TheVariants as mode'
use Rattle.syntax_tree.specs.declared.operators.ClauseWord.{ClauseWord}
use Rattle.syntax_tree.specs.declared.operators.ClauseWord.TheVariants as word

-- ---- operators and words

-- "and" "then" and "or" "else" are blamed at their first word
abbrev pub logical_word : Logical → ℕ → Spelling
logical_word logical.And n = held kind.and_word n
logical_word logical.Or n = held kind.or_word n
logical_word logical.Xor n = held kind.xor_word n
logical_word logical.AndThen n = held kind.and_word n then free kind.then_word
logical_word logical.OrElse n = held kind.or_word n then free kind.else_word

abbrev pub compared_by : Comparison → ℕ
compared_by comparison.Equal = kind.equal
compared_by comparison.Unequal = kind.unequal
compared_by comparison.Less = kind.less
compared_by comparison.AtMost = kind.at_most
compared_by comparison.Greater = kind.greater
compared_by comparison.AtLeast = kind.at_least

abbrev pub added_by : Additive → ℕ
added_by additive.Plus = kind.plus
added_by additive.Minus = kind.minus
added_by additive.Joined = kind.ampersand

abbrev pub multiplied_by : Multiplicative → ℕ
multiplied_by multiplicative.Times = kind.star
multiplied_by multiplicative.Over = kind.slash
multiplied_by multiplicative.Mod = kind.mod_word
multiplied_by multiplicative.Rem = kind.rem_word

abbrev pub signed : Sign → Spelling
signed (sign.Plus n) = held kind.plus n
signed (sign.Minus n) = held kind.minus n

abbrev pub mode : Mode → Spelling
mode (mode'.In n) = held kind.in_word n
mode (mode'.Out n) = held kind.out_word n
mode (mode'.InOut n) = held kind.in_word n then free kind.out_word

abbrev pub clause_word : ClauseWord → ℕ
clause_word word.With = kind.with_word
clause_word word.Use = kind.use_word

abbrev pub identifier : ℕ → Spelling
identifier = held kind.identifier

abbrev pub formal_name : ℕ → Spelling
formal_name n = identifier n then free kind.arrow

abbrev pub label : ℕ → Spelling
label n = identifier n then free kind.colon

abbrev pub in_round : Spelling → Spelling
in_round p = inside (free kind.open_round then p then free kind.close_round)

-- with a bracket that is held
abbrev pub round : ℕ → Spelling → Spelling
round n p = inside (held kind.open_round n then p then free kind.close_round)

abbrev pub square : ℕ → Spelling → Spelling
square n p = inside (held kind.open_square n then p then free kind.close_square)

-- ---- expressions and names

unfoldable mutual
  pub expr : Expr → Spelling
  expr (Single r) = rel r
  expr (Joined by first n second more) = rel first then logical_word by n then rel second then conjuncts more by

  pub conjunct' : Conjunct → Logical → Spelling
  conjunct' (conjunct n r) by = logical_word by n then rel r

  pub conjuncts : Conjuncts → Logical → Spelling
  conjuncts NoConjunct by = nothing
  conjuncts (AlsoConjunct c cs) by = conjunct' c by then conjuncts cs by

  pub rel : Rel → Spelling
  rel (Alone s) = simple s
  rel (Compared left by n right) = simple left then held (compared_by by) n then simple right
  rel (Within value negation n low high) =
      simple value then optional_of (held kind.not_word) negation then held kind.in_word n
      then simple low then free kind.dots then simple high
  rel (OfMark value negation n mark) =
      simple value then optional_of (held kind.not_word) negation then held kind.in_word n then identifier mark

  pub simple : Simple → Spelling
  simple (Sum s first more) = optional_of signed s then term first then addings more

  pub adding' : Adding → Spelling
  adding' (adding by n t) = held (added_by by) n then term t

  pub addings : Addings → Spelling
  addings NoAdding = nothing
  addings (AlsoAdding a us) = adding' a then addings us

  pub term : Term → Spelling
  term (Product first more) = factor first then multiplyings more

  pub multiplying' : Multiplying → Spelling
  multiplying' (multiplying by n f) = held (multiplied_by by) n then factor f

  pub multiplyings : Multiplyings → Spelling
  multiplyings NoMultiplying = nothing
  multiplyings (AlsoMultiplying m ms) = multiplying' m then multiplyings ms

  pub factor : Factor → Spelling
  factor (Operand p) = primary p
  factor (Power base n exponent) = primary base then held kind.double_star n then primary exponent
  factor (Abs n operand) = held kind.abs_word n then primary operand
  factor (Not n operand) = held kind.not_word n then primary operand

  -- what stands in brackets is one deeper, and the brackets too
  pub primary : Primary → Spelling
  primary (Number n) = held kind.numeral n
  primary (Text n) = held kind.string n
  primary (Target n) = held kind.target n
  primary (Named n) = name' n
  primary (Group bracket e) = round bracket (expr e)
  primary (If bracket n condition value more otherwise) =
      round bracket (held kind.if_word n then expr condition then free kind.then_word then expr value then elsifs more
      then free kind.else_word then expr otherwise)
  primary (Round bracket m) = round bracket (many m)
  primary (Square bracket m) = square bracket (many m)
  primary (OneValue bracket e) = square bracket (expr e)
  primary (Reduction bracket by n i value attribute reducer initial) =
      square bracket (optional_parallel by then held kind.for_word n then iter i then free kind.arrow then expr value)
      then free kind.tick then identifier attribute then in_round (expr reducer then free kind.comma then expr initial)

  pub elsif' : Elsif → Spelling
  elsif' (elsif n condition value) = held kind.elsif_word n then expr condition then free kind.then_word then expr value

  pub elsifs : Elsifs → Spelling
  elsifs NoElsif = nothing
  elsifs (AlsoElsif e es) = elsif' e then elsifs es

  -- each after a comma
  pub exprs : Exprs → Spelling
  exprs NoExpr = nothing
  exprs (AlsoExpr e es) = free kind.comma then expr e then exprs es

  -- after "when"
  pub filter : OptionalExpr → Spelling
  filter AbsentExpr = nothing
  filter (PresentExpr e) = free kind.when_word then expr e

  pub name' : Name → Spelling
  name' (name first ps) = identifier first then parts ps

  pub part : NamePart → Spelling
  part (Field n) = free kind.point then identifier n
  part (Call bracket first more) = round bracket (arg' first then args more)
  part (Attribute n) = free kind.tick then identifier n
  part (RangeAttribute n) = free kind.tick then held kind.range_word n

  pub parts : NameParts → Spelling
  parts NoPart = nothing
  parts (AlsoPart p ps) = part p then parts ps

  pub arg' : Arg → Spelling
  arg' (arg formal e) = optional_of formal_name formal then expr e

  -- each after a comma
  pub args : Args → Spelling
  args NoArg = nothing
  args (AlsoArg a us) = free kind.comma then arg' a then args us

  pub range : Range → Spelling
  range (Bounded low high) = simple low then free kind.dots then simple high
  range (Whole n) = name' n
  range (Constrained n low high) = name' n then free kind.range_word then simple low then free kind.dots then simple high

  pub choice : Choice → Spelling
  choice (Value s) = simple s
  choice (Span low high) = simple low then free kind.dots then simple high
  choice (Others n) = held kind.others_word n

  -- each after a bar
  pub choices : Choices → Spelling
  choices NoChoice = nothing
  choices (AlsoChoice c cs) = free kind.bar then choice c then choices cs

  pub many : Many → Spelling
  many (Positions first second more) = expr first then free kind.comma then expr second then exprs more
  many (PositionsOthers first second more n others) =
      expr first then free kind.comma then expr second then exprs more
      then free kind.comma then held kind.others_word n then free kind.arrow then expr others
  many (FirstOthers first n others) =
      expr first then free kind.comma then held kind.others_word n then free kind.arrow then expr others
  many (Associations first more) = assoc first then assocs more

  pub assoc : Assoc → Spelling
  assoc (Chosen first more value) = choice first then choices more then free kind.arrow then expr value
  assoc (Each n index r value) =
      held kind.for_word n then identifier index then free kind.in_word then range r then free kind.arrow then expr value

  -- each after a comma
  pub assocs : Assocs → Spelling
  assocs NoAssoc = nothing
  assocs (AlsoAssoc a us) = free kind.comma then assoc a then assocs us

  pub parallel : Parallel → Spelling
  parallel (Unchunked n) = held kind.parallel_word n
  parallel (Counted n count) = held kind.parallel_word n then in_round (simple count)
  parallel (Chunked n index r) = held kind.parallel_word n then in_round (identifier index then free kind.in_word then range r)

  pub optional_parallel : OptionalParallel → Spelling
  optional_parallel AbsentParallel = nothing
  optional_parallel (PresentParallel p) = parallel p

  pub iter : Iter → Spelling
  iter (InRange index reverse r f) =
      identifier index then free kind.in_word then optional_of (held kind.reverse_word) reverse then range r then filter f
  iter (OfName item n f) = identifier item then free kind.of_word then name' n then filter f

-- ---- declarations

abbrev pub ids : Ids → Spelling
ids i = identifier i.first then each_of_after (free kind.comma) identifier i.more

abbrev pub indic : Indic → Spelling
indic (Mark n) = identifier n
indic (RangeMark n low high) = identifier n then free kind.range_word then simple low then free kind.dots then simple high

abbrev pub array : Array → Spelling
array a =
    held kind.array_word a.at then in_round (range a.first then each_of_after (free kind.comma) range a.more)
    then free kind.of_word then indic a.component

abbrev pub comp : Comp → Spelling
comp c = ids c.names then free kind.colon then indic c.component then free kind.semicolon

abbrev pub object_type : ObjectType → Spelling
object_type (Indicated i) = indic i
object_type (Anonymous a) = array a

abbrev pub definition : Definition → Spelling
definition (RangeType low high) = free kind.range_word then simple low then free kind.dots then simple high
definition (ModularType modulus) = free kind.mod_word then simple modulus
definition (ArrayType a) = array a
definition (RecordType first more) =
    free kind.record_word then comp first then each_of comp more then free kind.end_word then free kind.record_word

abbrev pub decl : Decl → Spelling
decl (ObjectDecl names constant type value) =
    ids names then free kind.colon then optional_of (held kind.constant_word) constant then object_type type
    then optional_of_after (free kind.assign) expr value then free kind.semicolon
decl (NumberDecl names n value) =
    ids names then free kind.colon then held kind.constant_word n then free kind.assign then expr value then free kind.semicolon
decl (ExceptionDecl names) = ids names then free kind.colon then free kind.exception_word then free kind.semicolon
decl (TypeDecl n defined type) =
    held kind.type_word n then identifier defined then free kind.is_word then definition type then free kind.semicolon
decl (SubtypeDecl n defined i) =
    held kind.subtype_word n then identifier defined then free kind.is_word then indic i then free kind.semicolon

abbrev pub formal : Formal → Spelling
formal f = ids f.names then free kind.colon then optional_of mode f.mode then identifier f.mark

abbrev pub formals : Formals → Spelling
formals f = round f.bracket (formal f.first then each_of_after (free kind.semicolon) formal f.more)

-- ---- statements

abbrev pub pack : Pack → Spelling
pack p = identifier p.first then each_of_after (free kind.point) identifier p.more

abbrev pub scheme : Scheme → Spelling
scheme (While n condition) = held kind.while_word n then expr condition
scheme (For by n i) = optional_of parallel by then held kind.for_word n then iter i

abbrev pub declare : Declare → Spelling
declare d = held kind.declare_word d.at then each_of decl d.decls

abbrev pub count : Simple → Spelling
count s = in_round (simple s)

abbrev pub handled : Handled → Spelling
handled (AnyOther n) = held kind.others_word n
handled (These first more) = pack first then each_of_after (free kind.bar) pack more

unfoldable mutual
  -- one level deeper than what is around it
  pub stmt : Stmt → Spelling
  stmt (Null n) = inside (held kind.null_word n then free kind.semicolon)
  stmt (Assign target value) = inside (name' target then free kind.assign then expr value then free kind.semicolon)
  stmt (CallStmt called) = inside (name' called then free kind.semicolon)
  stmt (Exit n from condition) =
      inside (held kind.exit_word n then optional_of identifier from then optional_of_after (free kind.when_word) expr condition
      then free kind.semicolon)
  stmt (Return n value) = inside (held kind.return_word n then optional_of expr value then free kind.semicolon)
  stmt (Raise n exception) = inside (held kind.raise_word n then optional_of pack exception then free kind.semicolon)
  stmt (IfStmt n condition s more otherwise) =
      inside (held kind.if_word n then expr condition then free kind.then_word then stmts' s then arms more then optional_stmts otherwise
      then free kind.end_word then free kind.if_word then free kind.semicolon)
  stmt (Case n value first more) =
      inside (held kind.case_word n then expr value then free kind.is_word then alt' first then alts more
      then free kind.end_word then free kind.case_word then free kind.semicolon)
  stmt (Loop named by n s last last_name) =
      inside (optional_of label named then optional_of scheme by then held kind.loop_word n then stmts' s
      then held kind.end_word last then free kind.loop_word then optional_of identifier last_name then free kind.semicolon)
  stmt (Block declared n b) =
      inside (optional_of declare declared then held kind.begin_word n then body' b then free kind.end_word then free kind.semicolon)
  stmt (ParallelBlock n number first second more) =
      inside (held kind.parallel_word n then optional_of count number then free kind.do_word then stmts' first
      then free kind.and_word then stmts' second then branches more
      then free kind.end_word then free kind.do_word then free kind.semicolon)

  pub stmts' : Stmts → Spelling
  stmts' (stmts first more) = stmt first then more_stmts more

  pub more_stmts : MoreStmts → Spelling
  more_stmts NoStmt = nothing
  more_stmts (AlsoStmt s us) = stmt s then more_stmts us

  -- after "else"
  pub optional_stmts : OptionalStmts → Spelling
  optional_stmts AbsentStmts = nothing
  optional_stmts (PresentStmts s) = free kind.else_word then stmts' s

  pub arm' : Arm → Spelling
  arm' (arm n condition s) = held kind.elsif_word n then expr condition then free kind.then_word then stmts' s

  pub arms : Arms → Spelling
  arms NoArm = nothing
  arms (AlsoArm a us) = arm' a then arms us

  pub alt' : Alt → Spelling
  alt' (alt n first more s) =
      held kind.when_word n then choice first then each_of_after (free kind.bar) choice more then free kind.arrow then stmts' s

  pub alts : Alts → Spelling
  alts NoAlt = nothing
  alts (AlsoAlt a us) = alt' a then alts us

  -- each after "and"
  pub branches : Branches → Spelling
  branches NoBranch = nothing
  branches (AlsoBranch s us) = free kind.and_word then stmts' s then branches us

  -- "exception" stands before the first handler
  pub body' : Body → Spelling
  body' (body s NoHandler) = stmts' s
  body' (body s (AlsoHandler h hs)) = stmts' s then free kind.exception_word then handler' h then handlers hs

  pub handler' : Handler → Spelling
  handler' (handler n h s) = held kind.when_word n then handled h then free kind.arrow then stmts' s

  pub handlers : Handlers → Spelling
  handlers NoHandler = nothing
  handlers (AlsoHandler h hs) = handler' h then handlers hs

-- ---- programs

abbrev pub aspect : Aspect → Spelling
aspect a = held kind.with_word a.at then identifier a.mark then optional_of_after (free kind.arrow) identifier a.value

-- one level deeper than what is around it
abbrev pub sub : Sub → Spelling
sub (Procedure n defined parameters marked decls b last_name) =
    inside (held kind.procedure_word n then identifier defined then optional_of formals parameters then optional_of aspect marked
    then free kind.is_word then each_of decl decls then free kind.begin_word then body' b
    then free kind.end_word then optional_of identifier last_name then free kind.semicolon)
sub (Function n defined parameters result marked decls b last_name) =
    inside (held kind.function_word n then identifier defined then optional_of formals parameters
    then free kind.return_word then identifier result then optional_of aspect marked
    then free kind.is_word then each_of decl decls then free kind.begin_word then body' b
    then free kind.end_word then optional_of identifier last_name then free kind.semicolon)
sub (ExprFunction n defined parameters result bracket value marked) =
    inside (held kind.function_word n then identifier defined then optional_of formals parameters
    then free kind.return_word then identifier result then free kind.is_word then round bracket (expr value)
    then optional_of aspect marked then free kind.semicolon)

abbrev pub unit : Unit' → Spelling
unit (DeclUnit d) = decl d
unit (SubUnit s) = sub s

abbrev pub policy : Policy → Spelling
policy p = held kind.pragma_word p.at then identifier p.mark then in_round (identifier p.policy) then free kind.semicolon

abbrev pub clause : Clause → Spelling
clause c = held (clause_word c.word) c.at then pack c.first then each_of_after (free kind.comma) pack c.more then free kind.semicolon

abbrev pub main : Main → Spelling
main m =
    held kind.procedure_word m.at then identifier m.defined then optional_of aspect m.aspect
    then free kind.is_word then each_of unit m.units then free kind.begin_word then body' m.body
    then free kind.end_word then optional_of identifier m.last_name then free kind.semicolon

abbrev pub program : Program → Spelling
program p = optional_of policy p.policy then each_of clause p.clauses then main p.main
