-- The readers of statements (5.1) and bodies (11.2), where so many levels may still open.
use Rattle.std.specs.Prelude.{ℕ, zero, suc, List, [], ◌∷◌, Option, Some, None}
use Rattle.syntax_readers.specs.Readers.{Reader, ◌>>=◌, ◌>>◌, pure, symbol, by_next, given, too_deep}
use Rattle.syntax_readers.specs.Loops.{grown}
use Rattle.syntax_tree.specs.Joining.{list_and, stmts_and, arms_and, alts_and, branches_and, handlers_and, name_identifier}
use Rattle.ada_base.specs.Kinds as kind
use Rattle.syntax_tree.specs.Syntax as syntax
use Rattle.syntax_tree.specs.Syntax.{Choice, Simple, Name, Parallel, Unchunked, Pack, Declare, Scheme, While, For, Handled, AnyOther, These, Stmt, Null, Assign, CallStmt, Exit, Return, Raise, IfStmt, Case, Loop, Block, ParallelBlock, Stmts, NoStmt, OptionalStmts, AbsentStmts, PresentStmts, Arm, Arms, NoArm, Alt, Alts, NoAlt, Branches, NoBranch, Body, Handler, Handlers, NoHandler, AlsoHandler}
use Rattle.syntax_grammar.specs.Brackets.{choice, next_choice, filter, iter, parallel}
use Rattle.syntax_grammar.specs.Declarations.{decls}
use Rattle.syntax_grammar.specs.Expressions.{expr, name}
use Rattle.syntax_grammar.specs.Levels.{levels}
use Rattle.syntax_grammar.specs.Read.{count_of, option_of}

-- the kinds with which a statement begins
abbrev pub stmt_kinds : List ℕ
stmt_kinds =
    kind.null_word ∷ kind.identifier ∷ kind.exit_word ∷ kind.return_word ∷ kind.raise_word ∷ kind.if_word ∷ kind.case_word
    ∷ kind.while_word ∷ kind.for_word ∷ kind.parallel_word ∷ kind.loop_word ∷ kind.declare_word ∷ kind.begin_word ∷ []

-- ---- names of packages and exceptions

unfoldable pub next_name : Reader ℕ
next_name = symbol kind.point >> symbol kind.identifier

unfoldable pub pack : Reader Pack
pack = symbol kind.identifier >>= λ n. grown list_and [] (kind.point ∷ []) next_name >>= λ ns. pure (record { first = n; more = ns })

unfoldable pub next_exception : Reader Pack
next_exception = symbol kind.bar >> pack

unfoldable pub handled : Reader Handled
handled =
    by_next (kind.others_word ∷ []) (symbol kind.others_word >>= λ at. pure (AnyOther at))
    (pack >>= λ p. grown list_and [] (kind.bar ∷ []) next_exception >>= λ ps. pure (These p ps))

-- ---- statements without parts that are statements

-- an identifier, if there is one
unfoldable pub maybe_identifier : Reader (Option ℕ)
maybe_identifier = by_next (kind.identifier ∷ []) (symbol kind.identifier >>= λ n. pure (Some n)) (pure None)

-- the end of a compound statement that repeats its first word
unfoldable pub closing : ℕ → Reader ℕ
closing word = symbol kind.end_word >> (symbol word >> symbol kind.semicolon)

unfoldable pub null : Reader Stmt
null = symbol kind.null_word >>= λ at. symbol kind.semicolon >> pure (Null at)

unfoldable pub raise_from : ℕ → Reader Stmt
raise_from at =
    by_next (kind.semicolon ∷ []) (symbol kind.semicolon >> pure (Raise at None))
    (pack >>= λ p. symbol kind.semicolon >> pure (Raise at (Some p)))

unfoldable pub raise : Reader Stmt
raise = symbol kind.raise_word >>= raise_from

-- the end of a loop: the token of `end`, and the name after it
unfoldable pub loop_end : Reader (ℕ × Option ℕ)
loop_end = symbol kind.end_word >>= λ l. symbol kind.loop_word >> (maybe_identifier >>= λ m. symbol kind.semicolon >> pure (l, m))

unfoldable pub exit : ℕ → Reader Stmt
exit n = symbol kind.exit_word >>= λ at. maybe_identifier >>= λ m. filter (levels n) >>= λ c. symbol kind.semicolon >> pure (Exit at m (option_of c))

unfoldable pub return_from : ℕ → ℕ → Reader Stmt
return_from n at =
    by_next (kind.semicolon ∷ []) (symbol kind.semicolon >> pure (Return at None))
    (expr (levels n) >>= λ e. symbol kind.semicolon >> pure (Return at (Some e)))

unfoldable pub return : ℕ → Reader Stmt
return n = symbol kind.return_word >>= return_from n

unfoldable pub assigned : ℕ → Name → Reader Stmt
assigned n target = symbol kind.assign >> (expr (levels n) >>= λ e. symbol kind.semicolon >> pure (Assign target e))

-- the statements in a statement, where `next` reads one
module _ (n : ℕ) (next : Reader Stmt) where
  unfoldable pub stmts : Reader Stmts
  stmts = next >>= λ s. grown stmts_and NoStmt stmt_kinds next >>= λ more. pure (syntax.stmts s more)

  unfoldable pub then_stmts : Reader Stmts
  then_stmts = symbol kind.then_word >> stmts

  unfoldable pub arrow_stmts : Reader Stmts
  arrow_stmts = symbol kind.arrow >> stmts

  unfoldable pub and_stmts : Reader Stmts
  and_stmts = symbol kind.and_word >> stmts

  -- ---- bodies

  unfoldable pub handler : Reader Handler
  handler = symbol kind.when_word >>= λ at. handled >>= λ h. arrow_stmts >>= λ s. pure (syntax.handler at h s)

  -- the handlers of a body, of which there is one at least
  unfoldable pub handlers : Reader Handlers
  handlers = symbol kind.exception_word >> (handler >>= λ h. grown handlers_and NoHandler (kind.when_word ∷ []) handler >>= λ more. pure (AlsoHandler h more))

  unfoldable pub body : Reader Body
  body = stmts >>= λ s. by_next (kind.exception_word ∷ []) (handlers >>= λ hs. pure (syntax.body s hs)) (pure (syntax.body s NoHandler))

  -- ---- conditions

  unfoldable pub arm : Reader Arm
  arm = symbol kind.elsif_word >>= λ at. expr (levels n) >>= λ c. then_stmts >>= λ s. pure (syntax.arm at c s)

  unfoldable pub arms : Reader Arms
  arms = grown arms_and NoArm (kind.elsif_word ∷ []) arm

  unfoldable pub otherwise : Reader OptionalStmts
  otherwise = by_next (kind.else_word ∷ []) (symbol kind.else_word >> (stmts >>= λ s. pure (PresentStmts s))) (pure AbsentStmts)

  unfoldable pub conditional : Reader Stmt
  conditional = symbol kind.if_word >>= λ at. expr (levels n) >>= λ c. then_stmts >>= λ s. arms >>= λ more. otherwise >>= λ o.
      closing kind.if_word >> pure (IfStmt at c s more o)

  -- the choices of an alternative, after the first
  unfoldable pub more_choices : Reader (List Choice)
  more_choices = grown list_and [] (kind.bar ∷ []) (next_choice (levels n))

  unfoldable pub alt : Reader Alt
  alt = symbol kind.when_word >>= λ at. choice (levels n) >>= λ c. more_choices >>= λ cs. arrow_stmts >>= λ s. pure (syntax.alt at c cs s)

  unfoldable pub more_alts : Reader Alts
  more_alts = grown alts_and NoAlt (kind.when_word ∷ []) alt

  unfoldable pub selection : Reader Stmt
  selection = symbol kind.case_word >>= λ at. expr (levels n) >>= λ e. symbol kind.is_word >> (alt >>= λ a. more_alts >>= λ more. closing kind.case_word >> pure (Case at e a more))

  -- ---- loops

  -- a loop, after its label and scheme
  unfoldable pub loop_from : Option ℕ → Option Scheme → Reader Stmt
  loop_from label scheme = symbol kind.loop_word >>= λ at. stmts >>= λ s. loop_end >>= λ e. pure (Loop label scheme at s e.0 e.1)

  unfoldable pub while_from : Option ℕ → Reader Stmt
  while_from label = symbol kind.while_word >>= λ at. expr (levels n) >>= λ c. loop_from label (Some (While at c))

  unfoldable pub for_from : Option ℕ → Option Parallel → Reader Stmt
  for_from label p = symbol kind.for_word >>= λ at. iter (levels n) >>= λ i. loop_from label (Some (For p at i))

  -- a loop with a label
  unfoldable pub labelled : ℕ → Reader Stmt
  labelled l = symbol kind.colon >>
      by_next (kind.while_word ∷ []) (while_from (Some l))
      (by_next (kind.for_word ∷ []) (for_from (Some l) None)
      (by_next (kind.parallel_word ∷ []) (parallel (levels n) >>= λ p. for_from (Some l) (Some p))
      (loop_from (Some l) None)))

  -- ---- blocks

  unfoldable pub block_from : Option Declare → Reader Stmt
  block_from declared = symbol kind.begin_word >>= λ at. body >>= λ b. symbol kind.end_word >> (symbol kind.semicolon >> pure (Block declared at b))

  unfoldable pub declaring : Reader Stmt
  declaring = symbol kind.declare_word >>= λ at. decls n >>= λ ds. block_from (Some (record { at = at; decls = ds }))

  -- ---- parallel blocks and loops

  unfoldable pub branches : Reader Branches
  branches = grown branches_and NoBranch (kind.and_word ∷ []) and_stmts

  unfoldable pub do_from : ℕ → Option Simple → Reader Stmt
  do_from at count = symbol kind.do_word >> (stmts >>= λ a. and_stmts >>= λ b. branches >>= λ more. closing kind.do_word >> pure (ParallelBlock at count a b more))

  -- after a chunk specification
  unfoldable pub chunked_from : ℕ → Parallel → Reader Stmt
  chunked_from at p = by_next (kind.for_word ∷ []) (for_from None (Some p)) (given (count_of p) (λ count. do_from at (Some count)))

  unfoldable pub parallel_from : ℕ → Reader Stmt
  parallel_from at =
      by_next (kind.do_word ∷ []) (do_from at None)
      (by_next (kind.for_word ∷ []) (for_from None (Some (Unchunked at)))
      ((levels n).chunk at >>= chunked_from at))

  unfoldable pub parallel_stmt : Reader Stmt
  parallel_stmt = symbol kind.parallel_word >>= parallel_from

  -- ---- statements

  -- a statement, after the name with which it begins
  unfoldable pub named_from : Name → Reader Stmt
  named_from m =
      by_next (kind.assign ∷ []) (assigned n m)
      (by_next (kind.semicolon ∷ []) (symbol kind.semicolon >> pure (CallStmt m))
      (given (name_identifier m) labelled))

  unfoldable pub named : Reader Stmt
  named = name (levels n) >>= named_from

  -- a statement with others in it
  unfoldable pub compound : Reader Stmt
  compound =
      by_next (kind.if_word ∷ []) conditional
      (by_next (kind.case_word ∷ []) selection
      (by_next (kind.while_word ∷ []) (while_from None)
      (by_next (kind.for_word ∷ []) (for_from None None)
      (by_next (kind.parallel_word ∷ []) parallel_stmt
      (by_next (kind.loop_word ∷ []) (loop_from None None)
      (by_next (kind.declare_word ∷ []) declaring
      (block_from None)))))))

  unfoldable pub open_stmt : Reader Stmt
  open_stmt =
      by_next (kind.null_word ∷ []) null
      (by_next (kind.identifier ∷ []) named
      (by_next (kind.exit_word ∷ []) (exit n)
      (by_next (kind.return_word ∷ []) (return n)
      (by_next (kind.raise_word ∷ []) raise
      compound))))

unfoldable pub stmt : ℕ → Reader Stmt
stmt zero = too_deep stmt_kinds
stmt (suc n) = open_stmt n (stmt n)
