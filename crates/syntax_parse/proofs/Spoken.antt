-- What a program spells can be told apart where a space stands between two tokens, rule by rule.
use Rattle.std.proofs.Common.{◌≡◌, ℕ, map, length, [], ◌++◌, ◌∷◌, true, List, Option, Some, None, refl, sym, ap, ◌∙◌, subst}
use Rattle.syntax_tree.specs.Syntax.{Expr, Single, Joined, Conjunct, conjunct, Conjuncts, NoConjunct, AlsoConjunct, Rel, Alone, Compared, Within, OfMark, Simple, Sum, Adding, adding, Addings, NoAdding, AlsoAdding, Term, Product, Multiplying, multiplying, Multiplyings, NoMultiplying, AlsoMultiplying, Factor, Operand, Power, Abs, Not, Primary, Number, Text, Target, Named, Group, If, Round, Square, OneValue, Reduction, Elsif, elsif, Elsifs, NoElsif, AlsoElsif, Exprs, NoExpr, AlsoExpr, OptionalExpr, AbsentExpr, PresentExpr, Name, name, NamePart, Field, Call, Attribute, RangeAttribute, NameParts, NoPart, AlsoPart, Arg, arg, Args, NoArg, AlsoArg, Range, Bounded, Whole, Constrained, Choice, Value, Span, Others, Choices, NoChoice, AlsoChoice, Many, Positions, PositionsOthers, FirstOthers, Associations, Assoc, Chosen, Each, Assocs, NoAssoc, AlsoAssoc, Parallel, Unchunked, Counted, Chunked, OptionalParallel, AbsentParallel, PresentParallel, Iter, InRange, OfName, Ids, Indic, Mark, RangeMark, Array, Comp, ObjectType, Indicated, Anonymous, Definition, RangeType, ArrayType, RecordType, Decl, ObjectDecl, NumberDecl, ExceptionDecl, TypeDecl, SubtypeDecl, Formal, Formals, Pack, Declare, Scheme, While, For, Handled, AnyOther, These, Stmt, Null, Assign, CallStmt, Exit, Return, Raise, IfStmt, Case, Loop, Block, ParallelBlock, Stmts, stmts, MoreStmts, NoStmt, AlsoStmt, OptionalStmts, AbsentStmts, PresentStmts, Arm, arm, Arms, NoArm, AlsoArm, Alt, alt, Alts, NoAlt, AlsoAlt, Branches, NoBranch, AlsoBranch, Body, body, Handler, handler, Handlers, NoHandler, AlsoHandler, Aspect, Sub, Procedure, Function, ExprFunction, Unit', DeclUnit, SubUnit, Policy, Clause, Main, Program, ModularType}
use Rattle.ada_base.specs.Kinds as kind
use Rattle.syntax_tree.specs.declared.operators.Logical.{Logical}
use Rattle.syntax_tree.specs.declared.operators.Logical.TheVariants as logical
use Rattle.ada_base.specs.declared.operation.Comparison.{Comparison}
use Rattle.ada_base.specs.declared.operation.Comparison.TheVariants as comparison
use Rattle.syntax_tree.specs.declared.operators.Additive.{Additive}
use Rattle.syntax_tree.specs.declared.operators.Additive.TheVariants as additive
use Rattle.syntax_tree.specs.declared.operators.Multiplicative.{Multiplicative}
use Rattle.syntax_tree.specs.declared.operators.Multiplicative.TheVariants as multiplicative
use Rattle.syntax_tree.specs.declared.operators.Sign.{Sign}
use Rattle.syntax_tree.specs.declared.operators.Sign.TheVariants as sign
use Rattle.syntax_tree.specs.declared.operators.Mode.{Mode}
use Rattle.syntax_tree.specs.declared.operators.Mode.TheVariants as mode'
use Rattle.syntax_tree.specs.declared.operators.ClauseWord.{ClauseWord}
use Rattle.syntax_tree.specs.declared.operators.ClauseWord.TheVariants as word
use Rattle.ada_base.specs.Symbols.{numbered}
use Rattle.ada_base.specs.Derivations.{DerivesWithin}
use Rattle.syntax_tree.specs.Grammar.{ProgramWords}
use Rattle.syntax_tree.specs.Productions as spelled
use Rattle.syntax_print.specs.Spoken.{AreSpoken}
use Rattle.syntax_parse.proofs.Saying.{Says, is_plain, kinds, words_kinds, empty, token, word as plain, and, deeper, ticked, ticked_and, maybe, maybe_after, each, each_after}

plain-compared_by : (by : Comparison) → is_plain (spelled.compared_by by) ≡ true
plain-compared_by comparison.Equal = refl
plain-compared_by comparison.Unequal = refl
plain-compared_by comparison.Less = refl
plain-compared_by comparison.AtMost = refl
plain-compared_by comparison.Greater = refl
plain-compared_by comparison.AtLeast = refl

plain-added_by : (by : Additive) → is_plain (spelled.added_by by) ≡ true
plain-added_by additive.Plus = refl
plain-added_by additive.Minus = refl
plain-added_by additive.Joined = refl

plain-multiplied_by : (by : Multiplicative) → is_plain (spelled.multiplied_by by) ≡ true
plain-multiplied_by multiplicative.Times = refl
plain-multiplied_by multiplicative.Over = refl
plain-multiplied_by multiplicative.Mod = refl
plain-multiplied_by multiplicative.Rem = refl

plain-clause_word : (by : ClauseWord) → is_plain (spelled.clause_word by) ≡ true
plain-clause_word word.With = refl
plain-clause_word word.Use = refl

says-logical : (by : Logical) (n : ℕ) → Says (spelled.logical_word by n)
says-logical logical.And n = token kind.and_word n refl
says-logical logical.Or n = token kind.or_word n refl
says-logical logical.Xor n = token kind.xor_word n refl
says-logical logical.AndThen n = and (token kind.and_word n refl) (plain kind.then_word refl)
says-logical logical.OrElse n = and (token kind.or_word n refl) (plain kind.else_word refl)

says-sign : (s : Sign) → Says (spelled.signed s)
says-sign (sign.Plus n) = token kind.plus n refl
says-sign (sign.Minus n) = token kind.minus n refl

says-mode : (m : Mode) → Says (spelled.mode m)
says-mode (mode'.In n) = token kind.in_word n refl
says-mode (mode'.Out n) = token kind.out_word n refl
says-mode (mode'.InOut n) = and (token kind.in_word n refl) (plain kind.out_word refl)

mutual
  unfolding spelled.expr

  pub says-expr : (x : Expr) → Says (spelled.expr x)
  says-expr (Single r) = says-rel r
  says-expr (Joined by first n second more) = and (says-rel first) (and (says-logical by n) (and (says-rel second) (says-conjuncts more by)))

  pub says-conjunct : (x : Conjunct) (by : Logical) → Says (spelled.conjunct' x by)
  says-conjunct (conjunct n r) by = and (says-logical by n) (says-rel r)

  pub says-conjuncts : (x : Conjuncts) (by : Logical) → Says (spelled.conjuncts x by)
  says-conjuncts NoConjunct by = empty
  says-conjuncts (AlsoConjunct c cs) by = and (says-conjunct c by) (says-conjuncts cs by)

  pub says-rel : (x : Rel) → Says (spelled.rel x)
  says-rel (Alone s) = says-simple s
  says-rel (Compared left by n right) = and (says-simple left) (and (token _ n (plain-compared_by by)) (says-simple right))
  says-rel (Within value negation n low high) = and (says-simple value) (and (maybe negation (λ n. token kind.not_word n refl)) (and (token kind.in_word n refl) (and (says-simple low) (and (plain kind.dots refl) (says-simple high)))))
  says-rel (OfMark value negation n mark) = and (says-simple value) (and (maybe negation (λ n. token kind.not_word n refl)) (and (token kind.in_word n refl) (token kind.identifier mark refl)))

  pub says-simple : (x : Simple) → Says (spelled.simple x)
  says-simple (Sum s first more) = and (maybe s says-sign) (and (says-term first) (says-addings more))

  pub says-adding : (x : Adding) → Says (spelled.adding' x)
  says-adding (adding by n t) = and (token _ n (plain-added_by by)) (says-term t)

  pub says-addings : (x : Addings) → Says (spelled.addings x)
  says-addings NoAdding = empty
  says-addings (AlsoAdding a us) = and (says-adding a) (says-addings us)

  pub says-term : (x : Term) → Says (spelled.term x)
  says-term (Product first more) = and (says-factor first) (says-multiplyings more)

  pub says-multiplying : (x : Multiplying) → Says (spelled.multiplying' x)
  says-multiplying (multiplying by n f) = and (token _ n (plain-multiplied_by by)) (says-factor f)

  pub says-multiplyings : (x : Multiplyings) → Says (spelled.multiplyings x)
  says-multiplyings NoMultiplying = empty
  says-multiplyings (AlsoMultiplying m ms) = and (says-multiplying m) (says-multiplyings ms)

  pub says-factor : (x : Factor) → Says (spelled.factor x)
  says-factor (Operand p) = says-primary p
  says-factor (Power base n exponent) = and (says-primary base) (and (token kind.double_star n refl) (says-primary exponent))
  says-factor (Abs n operand) = and (token kind.abs_word n refl) (says-primary operand)
  says-factor (Not n operand) = and (token kind.not_word n refl) (says-primary operand)

  pub says-primary : (x : Primary) → Says (spelled.primary x)
  says-primary (Number n) = token kind.numeral n refl
  says-primary (Text n) = token kind.string n refl
  says-primary (Target n) = token kind.target n refl
  says-primary (Named n) = says-name n
  says-primary (Group bracket e) = deeper (and (token kind.open_round bracket refl) (and (says-expr e) (plain kind.close_round refl)))
  says-primary (If bracket n condition value more otherwise) = deeper (and (token kind.open_round bracket refl) (and (and (token kind.if_word n refl) (and (says-expr condition) (and (plain kind.then_word refl) (and (says-expr value) (and (says-elsifs more) (and (plain kind.else_word refl) (says-expr otherwise))))))) (plain kind.close_round refl)))
  says-primary (Round bracket m) = deeper (and (token kind.open_round bracket refl) (and (says-many m) (plain kind.close_round refl)))
  says-primary (Square bracket m) = deeper (and (token kind.open_square bracket refl) (and (says-many m) (plain kind.close_square refl)))
  says-primary (OneValue bracket e) = deeper (and (token kind.open_square bracket refl) (and (says-expr e) (plain kind.close_square refl)))
  says-primary (Reduction bracket by n i value attribute reducer initial) = and (deeper (and (token kind.open_square bracket refl) (and (and (says-optional_parallel by) (and (token kind.for_word n refl) (and (says-iter i) (and (plain kind.arrow refl) (says-expr value))))) (plain kind.close_square refl)))) (ticked_and kind.identifier attribute refl (deeper (and (plain kind.open_round refl) (and (and (says-expr reducer) (and (plain kind.comma refl) (says-expr initial))) (plain kind.close_round refl)))))

  pub says-elsif : (x : Elsif) → Says (spelled.elsif' x)
  says-elsif (elsif n condition value) = and (token kind.elsif_word n refl) (and (says-expr condition) (and (plain kind.then_word refl) (says-expr value)))

  pub says-elsifs : (x : Elsifs) → Says (spelled.elsifs x)
  says-elsifs NoElsif = empty
  says-elsifs (AlsoElsif e es) = and (says-elsif e) (says-elsifs es)

  pub says-exprs : (x : Exprs) → Says (spelled.exprs x)
  says-exprs NoExpr = empty
  says-exprs (AlsoExpr e es) = and (plain kind.comma refl) (and (says-expr e) (says-exprs es))

  pub says-filter : (x : OptionalExpr) → Says (spelled.filter x)
  says-filter AbsentExpr = empty
  says-filter (PresentExpr e) = and (plain kind.when_word refl) (says-expr e)

  pub says-name : (x : Name) → Says (spelled.name' x)
  says-name (name first ps) = and (token kind.identifier first refl) (says-parts ps)

  pub says-part : (x : NamePart) → Says (spelled.part x)
  says-part (Field n) = and (plain kind.point refl) (token kind.identifier n refl)
  says-part (Call bracket first more) = deeper (and (token kind.open_round bracket refl) (and (and (says-arg first) (says-args more)) (plain kind.close_round refl)))
  says-part (Attribute n) = ticked kind.identifier n refl
  says-part (RangeAttribute n) = ticked kind.range_word n refl

  pub says-parts : (x : NameParts) → Says (spelled.parts x)
  says-parts NoPart = empty
  says-parts (AlsoPart p ps) = and (says-part p) (says-parts ps)

  pub says-arg : (x : Arg) → Says (spelled.arg' x)
  says-arg (arg formal e) = and (maybe formal (λ n. and (token kind.identifier n refl) (plain kind.arrow refl))) (says-expr e)

  pub says-args : (x : Args) → Says (spelled.args x)
  says-args NoArg = empty
  says-args (AlsoArg a us) = and (plain kind.comma refl) (and (says-arg a) (says-args us))

  pub says-range : (x : Range) → Says (spelled.range x)
  says-range (Bounded low high) = and (says-simple low) (and (plain kind.dots refl) (says-simple high))
  says-range (Whole n) = says-name n
  says-range (Constrained n low high) = and (says-name n) (and (plain kind.range_word refl) (and (says-simple low) (and (plain kind.dots refl) (says-simple high))))

  pub says-choice : (x : Choice) → Says (spelled.choice x)
  says-choice (Value s) = says-simple s
  says-choice (Span low high) = and (says-simple low) (and (plain kind.dots refl) (says-simple high))
  says-choice (Others n) = token kind.others_word n refl

  pub says-choices : (x : Choices) → Says (spelled.choices x)
  says-choices NoChoice = empty
  says-choices (AlsoChoice c cs) = and (plain kind.bar refl) (and (says-choice c) (says-choices cs))

  pub says-many : (x : Many) → Says (spelled.many x)
  says-many (Positions first second more) = and (says-expr first) (and (plain kind.comma refl) (and (says-expr second) (says-exprs more)))
  says-many (PositionsOthers first second more n others) = and (says-expr first) (and (plain kind.comma refl) (and (says-expr second) (and (says-exprs more) (and (plain kind.comma refl) (and (token kind.others_word n refl) (and (plain kind.arrow refl) (says-expr others)))))))
  says-many (FirstOthers first n others) = and (says-expr first) (and (plain kind.comma refl) (and (token kind.others_word n refl) (and (plain kind.arrow refl) (says-expr others))))
  says-many (Associations first more) = and (says-assoc first) (says-assocs more)

  pub says-assoc : (x : Assoc) → Says (spelled.assoc x)
  says-assoc (Chosen first more value) = and (says-choice first) (and (says-choices more) (and (plain kind.arrow refl) (says-expr value)))
  says-assoc (Each n index r value) = and (token kind.for_word n refl) (and (token kind.identifier index refl) (and (plain kind.in_word refl) (and (says-range r) (and (plain kind.arrow refl) (says-expr value)))))

  pub says-assocs : (x : Assocs) → Says (spelled.assocs x)
  says-assocs NoAssoc = empty
  says-assocs (AlsoAssoc a us) = and (plain kind.comma refl) (and (says-assoc a) (says-assocs us))

  pub says-parallel : (x : Parallel) → Says (spelled.parallel x)
  says-parallel (Unchunked n) = token kind.parallel_word n refl
  says-parallel (Counted n count) = and (token kind.parallel_word n refl) (deeper (and (plain kind.open_round refl) (and (says-simple count) (plain kind.close_round refl))))
  says-parallel (Chunked n index r) = and (token kind.parallel_word n refl) (deeper (and (plain kind.open_round refl) (and (and (token kind.identifier index refl) (and (plain kind.in_word refl) (says-range r))) (plain kind.close_round refl))))

  pub says-optional_parallel : (x : OptionalParallel) → Says (spelled.optional_parallel x)
  says-optional_parallel AbsentParallel = empty
  says-optional_parallel (PresentParallel p) = says-parallel p

  pub says-iter : (x : Iter) → Says (spelled.iter x)
  says-iter (InRange index reverse r f) = and (token kind.identifier index refl) (and (plain kind.in_word refl) (and (maybe reverse (λ n. token kind.reverse_word n refl)) (and (says-range r) (says-filter f))))
  says-iter (OfName item n f) = and (token kind.identifier item refl) (and (plain kind.of_word refl) (and (says-name n) (says-filter f)))

pub says-ids : (x : Ids) → Says (spelled.ids x)
says-ids i = and (token kind.identifier i.first refl) (each_after i.more (plain kind.comma refl) (λ n. token kind.identifier n refl))

pub says-indic : (x : Indic) → Says (spelled.indic x)
says-indic (Mark n) = token kind.identifier n refl
says-indic (RangeMark n low high) = and (token kind.identifier n refl) (and (plain kind.range_word refl) (and (says-simple low) (and (plain kind.dots refl) (says-simple high))))

pub says-array : (x : Array) → Says (spelled.array x)
says-array a = and (token kind.array_word a.at refl) (and (deeper (and (plain kind.open_round refl) (and (and (says-range a.first) (each_after a.more (plain kind.comma refl) says-range)) (plain kind.close_round refl)))) (and (plain kind.of_word refl) (says-indic a.component)))

pub says-comp : (x : Comp) → Says (spelled.comp x)
says-comp c = and (says-ids c.names) (and (plain kind.colon refl) (and (says-indic c.component) (plain kind.semicolon refl)))

pub says-object_type : (x : ObjectType) → Says (spelled.object_type x)
says-object_type (Indicated i) = says-indic i
says-object_type (Anonymous a) = says-array a

pub says-definition : (x : Definition) → Says (spelled.definition x)
says-definition (RangeType low high) = and (plain kind.range_word refl) (and (says-simple low) (and (plain kind.dots refl) (says-simple high)))
says-definition (ModularType m) = and (plain kind.mod_word refl) (says-simple m)
says-definition (ArrayType a) = says-array a
says-definition (RecordType first more) = and (plain kind.record_word refl) (and (says-comp first) (and (each more says-comp) (and (plain kind.end_word refl) (plain kind.record_word refl))))

pub says-decl : (x : Decl) → Says (spelled.decl x)
says-decl (ObjectDecl names constant type value) = and (says-ids names) (and (plain kind.colon refl) (and (maybe constant (λ n. token kind.constant_word n refl)) (and (says-object_type type) (and (maybe_after value (plain kind.assign refl) says-expr) (plain kind.semicolon refl)))))
says-decl (NumberDecl names n value) = and (says-ids names) (and (plain kind.colon refl) (and (token kind.constant_word n refl) (and (plain kind.assign refl) (and (says-expr value) (plain kind.semicolon refl)))))
says-decl (ExceptionDecl names) = and (says-ids names) (and (plain kind.colon refl) (and (plain kind.exception_word refl) (plain kind.semicolon refl)))
says-decl (TypeDecl n defined type) = and (token kind.type_word n refl) (and (token kind.identifier defined refl) (and (plain kind.is_word refl) (and (says-definition type) (plain kind.semicolon refl))))
says-decl (SubtypeDecl n defined i) = and (token kind.subtype_word n refl) (and (token kind.identifier defined refl) (and (plain kind.is_word refl) (and (says-indic i) (plain kind.semicolon refl))))

pub says-formal : (x : Formal) → Says (spelled.formal x)
says-formal f = and (says-ids f.names) (and (plain kind.colon refl) (and (maybe f.mode says-mode) (token kind.identifier f.mark refl)))

pub says-formals : (x : Formals) → Says (spelled.formals x)
says-formals f = deeper (and (token kind.open_round f.bracket refl) (and (and (says-formal f.first) (each_after f.more (plain kind.semicolon refl) says-formal)) (plain kind.close_round refl)))

pub says-pack : (x : Pack) → Says (spelled.pack x)
says-pack p = and (token kind.identifier p.first refl) (each_after p.more (plain kind.point refl) (λ n. token kind.identifier n refl))

pub says-scheme : (x : Scheme) → Says (spelled.scheme x)
says-scheme (While n condition) = and (token kind.while_word n refl) (says-expr condition)
says-scheme (For by n i) = and (maybe by says-parallel) (and (token kind.for_word n refl) (says-iter i))

pub says-declare : (x : Declare) → Says (spelled.declare x)
says-declare d = and (token kind.declare_word d.at refl) (each d.decls says-decl)

pub says-count : (x : Simple) → Says (spelled.count x)
says-count s = deeper (and (plain kind.open_round refl) (and (says-simple s) (plain kind.close_round refl)))

pub says-handled : (x : Handled) → Says (spelled.handled x)
says-handled (AnyOther n) = token kind.others_word n refl
says-handled (These first more) = and (says-pack first) (each_after more (plain kind.bar refl) says-pack)

mutual
  unfolding spelled.stmt

  pub says-stmt : (x : Stmt) → Says (spelled.stmt x)
  says-stmt (Null n) = deeper (and (token kind.null_word n refl) (plain kind.semicolon refl))
  says-stmt (Assign target value) = deeper (and (says-name target) (and (plain kind.assign refl) (and (says-expr value) (plain kind.semicolon refl))))
  says-stmt (CallStmt called) = deeper (and (says-name called) (plain kind.semicolon refl))
  says-stmt (Exit n from condition) = deeper (and (token kind.exit_word n refl) (and (maybe from (λ n. token kind.identifier n refl)) (and (maybe_after condition (plain kind.when_word refl) says-expr) (plain kind.semicolon refl))))
  says-stmt (Return n value) = deeper (and (token kind.return_word n refl) (and (maybe value says-expr) (plain kind.semicolon refl)))
  says-stmt (Raise n exception) = deeper (and (token kind.raise_word n refl) (and (maybe exception says-pack) (plain kind.semicolon refl)))
  says-stmt (IfStmt n condition s more otherwise) = deeper (and (token kind.if_word n refl) (and (says-expr condition) (and (plain kind.then_word refl) (and (says-stmts s) (and (says-arms more) (and (says-optional_stmts otherwise) (and (plain kind.end_word refl) (and (plain kind.if_word refl) (plain kind.semicolon refl)))))))))
  says-stmt (Case n value first more) = deeper (and (token kind.case_word n refl) (and (says-expr value) (and (plain kind.is_word refl) (and (says-alt first) (and (says-alts more) (and (plain kind.end_word refl) (and (plain kind.case_word refl) (plain kind.semicolon refl))))))))
  says-stmt (Loop named by n s last last_name) = deeper (and (maybe named (λ n. and (token kind.identifier n refl) (plain kind.colon refl))) (and (maybe by says-scheme) (and (token kind.loop_word n refl) (and (says-stmts s) (and (token kind.end_word last refl) (and (plain kind.loop_word refl) (and (maybe last_name (λ n. token kind.identifier n refl)) (plain kind.semicolon refl))))))))
  says-stmt (Block declared n b) = deeper (and (maybe declared says-declare) (and (token kind.begin_word n refl) (and (says-body b) (and (plain kind.end_word refl) (plain kind.semicolon refl)))))
  says-stmt (ParallelBlock n number first second more) = deeper (and (token kind.parallel_word n refl) (and (maybe number says-count) (and (plain kind.do_word refl) (and (says-stmts first) (and (plain kind.and_word refl) (and (says-stmts second) (and (says-branches more) (and (plain kind.end_word refl) (and (plain kind.do_word refl) (plain kind.semicolon refl))))))))))

  pub says-stmts : (x : Stmts) → Says (spelled.stmts' x)
  says-stmts (stmts first more) = and (says-stmt first) (says-more_stmts more)

  pub says-more_stmts : (x : MoreStmts) → Says (spelled.more_stmts x)
  says-more_stmts NoStmt = empty
  says-more_stmts (AlsoStmt s us) = and (says-stmt s) (says-more_stmts us)

  pub says-optional_stmts : (x : OptionalStmts) → Says (spelled.optional_stmts x)
  says-optional_stmts AbsentStmts = empty
  says-optional_stmts (PresentStmts s) = and (plain kind.else_word refl) (says-stmts s)

  pub says-arm : (x : Arm) → Says (spelled.arm' x)
  says-arm (arm n condition s) = and (token kind.elsif_word n refl) (and (says-expr condition) (and (plain kind.then_word refl) (says-stmts s)))

  pub says-arms : (x : Arms) → Says (spelled.arms x)
  says-arms NoArm = empty
  says-arms (AlsoArm a us) = and (says-arm a) (says-arms us)

  pub says-alt : (x : Alt) → Says (spelled.alt' x)
  says-alt (alt n first more s) = and (token kind.when_word n refl) (and (says-choice first) (and (each_after more (plain kind.bar refl) says-choice) (and (plain kind.arrow refl) (says-stmts s))))

  pub says-alts : (x : Alts) → Says (spelled.alts x)
  says-alts NoAlt = empty
  says-alts (AlsoAlt a us) = and (says-alt a) (says-alts us)

  pub says-branches : (x : Branches) → Says (spelled.branches x)
  says-branches NoBranch = empty
  says-branches (AlsoBranch s us) = and (plain kind.and_word refl) (and (says-stmts s) (says-branches us))

  pub says-body : (x : Body) → Says (spelled.body' x)
  says-body (body s NoHandler) = says-stmts s
  says-body (body s (AlsoHandler h hs)) = and (says-stmts s) (and (plain kind.exception_word refl) (and (says-handler h) (says-handlers hs)))

  pub says-handler : (x : Handler) → Says (spelled.handler' x)
  says-handler (handler n h s) = and (token kind.when_word n refl) (and (says-handled h) (and (plain kind.arrow refl) (says-stmts s)))

  pub says-handlers : (x : Handlers) → Says (spelled.handlers x)
  says-handlers NoHandler = empty
  says-handlers (AlsoHandler h hs) = and (says-handler h) (says-handlers hs)

pub says-aspect : (x : Aspect) → Says (spelled.aspect x)
says-aspect a = and (token kind.with_word a.at refl) (and (token kind.identifier a.mark refl) (maybe_after a.value (plain kind.arrow refl) (λ n. token kind.identifier n refl)))

pub says-sub : (x : Sub) → Says (spelled.sub x)
says-sub (Procedure n defined parameters marked decls b last_name) = deeper (and (token kind.procedure_word n refl) (and (token kind.identifier defined refl) (and (maybe parameters says-formals) (and (maybe marked says-aspect) (and (plain kind.is_word refl) (and (each decls says-decl) (and (plain kind.begin_word refl) (and (says-body b) (and (plain kind.end_word refl) (and (maybe last_name (λ n. token kind.identifier n refl)) (plain kind.semicolon refl)))))))))))
says-sub (Function n defined parameters result marked decls b last_name) = deeper (and (token kind.function_word n refl) (and (token kind.identifier defined refl) (and (maybe parameters says-formals) (and (plain kind.return_word refl) (and (token kind.identifier result refl) (and (maybe marked says-aspect) (and (plain kind.is_word refl) (and (each decls says-decl) (and (plain kind.begin_word refl) (and (says-body b) (and (plain kind.end_word refl) (and (maybe last_name (λ n. token kind.identifier n refl)) (plain kind.semicolon refl)))))))))))))
says-sub (ExprFunction n defined parameters result bracket value marked) = deeper (and (token kind.function_word n refl) (and (token kind.identifier defined refl) (and (maybe parameters says-formals) (and (plain kind.return_word refl) (and (token kind.identifier result refl) (and (plain kind.is_word refl) (and (deeper (and (token kind.open_round bracket refl) (and (says-expr value) (plain kind.close_round refl)))) (and (maybe marked says-aspect) (plain kind.semicolon refl)))))))))

pub says-unit : (x : Unit') → Says (spelled.unit x)
says-unit (DeclUnit d) = says-decl d
says-unit (SubUnit s) = says-sub s

pub says-policy : (x : Policy) → Says (spelled.policy x)
says-policy p = and (token kind.pragma_word p.at refl) (and (token kind.identifier p.mark refl) (and (deeper (and (plain kind.open_round refl) (and (token kind.identifier p.policy refl) (plain kind.close_round refl)))) (plain kind.semicolon refl)))

pub says-clause : (x : Clause) → Says (spelled.clause x)
says-clause c = and (token _ c.at (plain-clause_word c.word)) (and (says-pack c.first) (and (each_after c.more (plain kind.comma refl) says-pack) (plain kind.semicolon refl)))

pub says-main : (x : Main) → Says (spelled.main x)
says-main m = and (token kind.procedure_word m.at refl) (and (token kind.identifier m.defined refl) (and (maybe m.aspect says-aspect) (and (plain kind.is_word refl) (and (each m.units says-unit) (and (plain kind.begin_word refl) (and (says-body m.body) (and (plain kind.end_word refl) (and (maybe m.last_name (λ n. token kind.identifier n refl)) (plain kind.semicolon refl)))))))))

pub says-program : (x : Program) → Says (spelled.program x)
says-program p = and (maybe p.policy says-policy) (and (each p.clauses says-clause) (says-main p.main))

-- the kinds of a program's tokens can be told apart
kinds_numbered : (n : ℕ) (ks : List ℕ) → kinds (numbered n ks) ≡ ks
kinds_numbered n [] = refl
kinds_numbered n (k ∷ ks) = ap (λ z. k ∷ z) (kinds_numbered _ ks)

pub spoken : (limit : ℕ) (ks : List ℕ) (tree : Program) → DerivesWithin limit ProgramWords ks tree → AreSpoken ks
spoken limit ks tree (w, l, e, within) =
    subst AreSpoken (sym (words_kinds (spelled.program tree 0) w l) ∙ ap kinds e ∙ kinds_numbered 0 ks) ((says-program tree).spoken 0)
