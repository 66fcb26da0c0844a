-- The number of the first token of each part: that of its first part.
use Rattle.std.specs.Prelude.{ℕ, List, [], ◌∷◌, Option, Some, None}
use Rattle.syntax_tree.specs.Syntax.{Expr, Single, Joined, Rel, Alone, Compared, Within, OfMark, Simple, Sum, Term, Product, Factor, Operand, Power, Abs, Not, Primary, Number, Text, Target, Named, Group, If, Round, Square, OneValue, Reduction, Name, name, Arg, arg, Range, Bounded, Whole, Constrained, Choice, Value, Span, Others, Many, Positions, PositionsOthers, FirstOthers, Associations, Assoc, Chosen, Each, Parallel, Unchunked, Counted, Chunked, Iter, InRange, OfName, Indic, Mark, RangeMark, ObjectType, Indicated, Anonymous, Decl, ObjectDecl, NumberDecl, ExceptionDecl, TypeDecl, SubtypeDecl, Scheme, While, For, Handled, AnyOther, These, Stmt, Null, Assign, CallStmt, Exit, Return, Raise, IfStmt, Case, Loop, Block, ParallelBlock, Stmts, stmts, Body, body, Sub, Procedure, Function, ExprFunction, Unit', DeclUnit, SubUnit, Policy, Clause, Program}
use Rattle.syntax_tree.specs.declared.operators.Sign.TheVariants as sign
use Rattle.syntax_tree.specs.declared.operators.Mode.{Mode}
use Rattle.syntax_tree.specs.declared.operators.Mode.TheVariants as mode'

abbrev pub of_name : Name → ℕ
of_name (name first ps) = first

abbrev pub of_primary : Primary → ℕ
of_primary (Number n) = n
of_primary (Text n) = n
of_primary (Target n) = n
of_primary (Named n) = of_name n
of_primary (Group bracket e) = bracket
of_primary (If bracket n condition value more otherwise) = bracket
of_primary (Round bracket m) = bracket
of_primary (Square bracket m) = bracket
of_primary (OneValue bracket e) = bracket
of_primary (Reduction bracket p n i value attribute reducer initial) = bracket

abbrev pub of_factor : Factor → ℕ
of_factor (Operand p) = of_primary p
of_factor (Power base n exponent) = of_primary base
of_factor (Abs n operand) = n
of_factor (Not n operand) = n

abbrev pub of_term : Term → ℕ
of_term (Product first more) = of_factor first

abbrev pub of_simple : Simple → ℕ
of_simple (Sum None first more) = of_term first
of_simple (Sum (Some (sign.Plus n)) first more) = n
of_simple (Sum (Some (sign.Minus n)) first more) = n

abbrev pub of_rel : Rel → ℕ
of_rel (Alone s) = of_simple s
of_rel (Compared left by n right) = of_simple left
of_rel (Within value negation n low high) = of_simple value
of_rel (OfMark value negation n mark) = of_simple value

abbrev pub of_expr : Expr → ℕ
of_expr (Single r) = of_rel r
of_expr (Joined by first n second more) = of_rel first

abbrev pub of_arg : Arg → ℕ
of_arg (arg None e) = of_expr e
of_arg (arg (Some n) e) = n

abbrev pub of_range : Range → ℕ
of_range (Bounded low high) = of_simple low
of_range (Whole n) = of_name n
of_range (Constrained n low high) = of_name n

abbrev pub of_choice : Choice → ℕ
of_choice (Value s) = of_simple s
of_choice (Span low high) = of_simple low
of_choice (Others n) = n

abbrev pub of_assoc : Assoc → ℕ
of_assoc (Chosen first more value) = of_choice first
of_assoc (Each n index r value) = n

abbrev pub of_many : Many → ℕ
of_many (Positions first second more) = of_expr first
of_many (PositionsOthers first second more n others) = of_expr first
of_many (FirstOthers first n others) = of_expr first
of_many (Associations first more) = of_assoc first

abbrev pub of_parallel : Parallel → ℕ
of_parallel (Unchunked n) = n
of_parallel (Counted n count) = n
of_parallel (Chunked n index r) = n

abbrev pub of_iter : Iter → ℕ
of_iter (InRange index reverse r f) = index
of_iter (OfName item n f) = item

abbrev pub of_indic : Indic → ℕ
of_indic (Mark n) = n
of_indic (RangeMark n low high) = n

abbrev pub of_object_type : ObjectType → ℕ
of_object_type (Indicated i) = of_indic i
of_object_type (Anonymous a) = a.at

abbrev pub of_decl : Decl → ℕ
of_decl (ObjectDecl names constant type value) = names.first
of_decl (NumberDecl names n value) = names.first
of_decl (ExceptionDecl names) = names.first
of_decl (TypeDecl n defined type) = n
of_decl (SubtypeDecl n defined i) = n

abbrev pub of_mode : Mode → ℕ
of_mode (mode'.In n) = n
of_mode (mode'.Out n) = n
of_mode (mode'.InOut n) = n

abbrev pub of_scheme : Scheme → ℕ
of_scheme (While n condition) = n
of_scheme (For None n i) = n
of_scheme (For (Some p) n i) = of_parallel p

abbrev pub of_handled : Handled → ℕ
of_handled (AnyOther n) = n
of_handled (These first more) = first.first

abbrev pub of_stmt : Stmt → ℕ
of_stmt (Null n) = n
of_stmt (Assign target value) = of_name target
of_stmt (CallStmt called) = of_name called
of_stmt (Exit n from condition) = n
of_stmt (Return n value) = n
of_stmt (Raise n exception) = n
of_stmt (IfStmt n condition s more otherwise) = n
of_stmt (Case n value first more) = n
of_stmt (Loop (Some named) by n s last last_name) = named
of_stmt (Loop None (Some by) n s last last_name) = of_scheme by
of_stmt (Loop None None n s last last_name) = n
of_stmt (Block (Some declared) n b) = declared.at
of_stmt (Block None n b) = n
of_stmt (ParallelBlock n number first second more) = n

abbrev pub of_stmts : Stmts → ℕ
of_stmts (stmts first more) = of_stmt first

abbrev pub of_body : Body → ℕ
of_body (body s hs) = of_stmts s

abbrev pub of_sub : Sub → ℕ
of_sub (Procedure n defined parameters marked decls b last_name) = n
of_sub (Function n defined parameters result marked decls b last_name) = n
of_sub (ExprFunction n defined parameters result bracket value marked) = n

abbrev pub of_unit : Unit' → ℕ
of_unit (DeclUnit d) = of_decl d
of_unit (SubUnit s) = of_sub s

abbrev pub of_clauses : List Clause → ℕ → ℕ
of_clauses [] otherwise = otherwise
of_clauses (c ∷ cs) otherwise = c.at

abbrev pub of_policy : Option Policy → ℕ → ℕ
of_policy None otherwise = otherwise
of_policy (Some p) otherwise = p.at

abbrev pub of_program : Program → ℕ
of_program p = of_policy p.policy (of_clauses p.clauses p.main.at)
