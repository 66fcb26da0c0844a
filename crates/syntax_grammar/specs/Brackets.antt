-- The readers of what stands in brackets, and of the brackets themselves, where what opens a bracket in them is read
-- one level down (4.1, 4.3, 4.5.7, 4.5.10).
use Rattle.std.specs.Prelude.{ℕ, zero, suc, [], ◌∷◌, Option, Some, None, length, if◌then◌else◌}
use Rattle.syntax_readers.specs.Readers.{Reader, ◌>>=◌, ◌>>◌, pure, symbol, by_next, given}
use Rattle.ada_base.specs.Kinds as kind
use Rattle.syntax_tree.specs.Syntax as syntax
use Rattle.syntax_tree.specs.Syntax.{Expr, Simple, Primary, If, Square, Reduction, Elsif, Elsifs, NoElsif, Exprs, NoExpr, OptionalExpr, AbsentExpr, PresentExpr, Name, NamePart, Call, Arg, Args, NoArg, Range, Bounded, Whole, Constrained, Choice, Value, Span, Others, Choices, NoChoice, Many, Positions, PositionsOthers, FirstOthers, Associations, Assoc, Chosen, Each, Assocs, NoAssoc, Parallel, Unchunked, Counted, Chunked, OptionalParallel, AbsentParallel, PresentParallel, Iter, InRange, OfName}
use Rattle.syntax_tree.specs.Joining.{args_and, elsifs_and, exprs_and, choices_and, assocs_and, bare_name, bare_identifier, expr_identifier}
use Rattle.syntax_grammar.specs.Expressions.{name, simple, upper_bound, rel_from, expr_from, expr}
use Rattle.syntax_grammar.specs.Read.{Inside, OneInside, ManyInside, in_round, in_square, is_each, each_of}
use Rattle.syntax_readers.specs.Loops.{grown}
use Rattle.syntax_grammar.specs.Opened.{Opened}

unfoldable pub others_choice : Reader Choice
others_choice = symbol kind.others_word >>= λ at. pure (Others at)

-- the token of `reverse`, if it is there
unfoldable pub reversed : Reader (Option ℕ)
reversed = by_next (kind.reverse_word ∷ []) (symbol kind.reverse_word >>= λ at. pure (Some at)) (pure None)

module _ (inner : Opened) where
  -- ---- ranges

  -- "range" with the bounds after it
  unfoldable pub constraint : Reader (Simple × Simple)
  constraint = symbol kind.range_word >> (simple inner >>= λ low. upper_bound inner >>= λ high. pure (low, high))

  unfoldable pub named_range : Name → Reader Range
  named_range n = by_next (kind.range_word ∷ []) (constraint >>= λ b. pure (Constrained n b.0 b.1)) (pure (Whole n))

  -- a range, after its first sum
  unfoldable pub range_from : Simple → Reader Range
  range_from low =
      by_next (kind.dots ∷ []) (upper_bound inner >>= λ high. pure (Bounded low high))
      (given (bare_name low) named_range)

  unfoldable pub range : Reader Range
  range = simple inner >>= range_from

  -- ---- arguments

  -- an arrow, and the expression after it
  unfoldable pub arrow_value : Reader Expr
  arrow_value = symbol kind.arrow >> expr inner

  unfoldable pub named_arg : ℕ → Reader Arg
  named_arg formal = arrow_value >>= λ v. pure (syntax.arg (Some formal) v)

  unfoldable pub arg : Reader Arg
  arg = expr inner >>= λ e. by_next (kind.arrow ∷ []) (given (expr_identifier e) named_arg) (pure (syntax.arg None e))

  unfoldable pub next_arg : Reader Arg
  next_arg = symbol kind.comma >> arg

  unfoldable pub more_args : Reader Args
  more_args = grown args_and NoArg (kind.comma ∷ []) next_arg

  unfoldable pub call : Reader NamePart
  call = symbol kind.open_round >>= λ b. arg >>= λ a. more_args >>= λ more. symbol kind.close_round >> pure (Call b a more)

  -- ---- associations

  -- a choice, after its first sum
  unfoldable pub choice_from : Simple → Reader Choice
  choice_from low = by_next (kind.dots ∷ []) (upper_bound inner >>= λ high. pure (Span low high)) (pure (Value low))

  unfoldable pub choice : Reader Choice
  choice = by_next (kind.others_word ∷ []) others_choice (simple inner >>= choice_from)

  unfoldable pub next_choice : Reader Choice
  next_choice = symbol kind.bar >> choice

  unfoldable pub more_choices : Reader Choices
  more_choices = grown choices_and NoChoice (kind.bar ∷ []) next_choice

  -- an association, after its first choice
  unfoldable pub chosen : Choice → Reader Assoc
  chosen first = more_choices >>= λ cs. arrow_value >>= λ v. pure (Chosen first cs v)

  unfoldable pub each : Reader Assoc
  each = symbol kind.for_word >>= λ at. symbol kind.identifier >>= λ index. symbol kind.in_word >> (range >>= λ r. arrow_value >>= λ v. pure (Each at index r v))

  unfoldable pub assoc : Reader Assoc
  assoc = by_next (kind.for_word ∷ []) each (choice >>= chosen)

  unfoldable pub next_assoc : Reader Assoc
  next_assoc = symbol kind.comma >> assoc

  unfoldable pub more_assocs : Reader Assocs
  more_assocs = grown assocs_and NoAssoc (kind.comma ∷ []) next_assoc

  -- associations, after the first
  unfoldable pub assocs_from : Assoc → Reader Many
  assocs_from first = more_assocs >>= λ more. pure (Associations first more)

  -- ---- positions

  unfoldable pub first_others : Expr → Reader Many
  first_others first = symbol kind.others_word >>= λ at. arrow_value >>= λ v. pure (FirstOthers first at v)

  unfoldable pub position_others : Expr → Expr → Exprs → Reader Many
  position_others first second more = symbol kind.others_word >>= λ at. arrow_value >>= λ v. pure (PositionsOthers first second more at v)

  -- positions behind those before them, and the value of the others, which is the last: at most so many
  unfoldable pub positions_for : ℕ → Expr → Expr → Exprs → Reader Many
  positions_for zero first second more = pure (Positions first second more)
  positions_for (suc n) first second more =
      by_next (kind.comma ∷ [])
      (symbol kind.comma >> by_next (kind.others_word ∷ []) (position_others first second more) (expr inner >>= λ e. positions_for n first second (exprs_and more e)))
      (pure (Positions first second more))

  unfoldable pub positions : Expr → Expr → Reader Many
  positions first second = λ ts. positions_for (length ts) first second NoExpr ts

  -- the parts of an aggregate, after its first expression
  unfoldable pub positions_from : Expr → Reader Many
  positions_from first = symbol kind.comma >> by_next (kind.others_word ∷ []) (first_others first) (expr inner >>= positions first)

  -- ---- what stands in brackets and begins with neither `if` nor `for`

  -- after the first choice
  unfoldable pub inside_choice : Choice → Reader Inside
  inside_choice first = chosen first >>= λ a. assocs_from a >>= λ m. pure (ManyInside m)

  -- after the first expression
  unfoldable pub inside_expr : Expr → Reader Inside
  inside_expr first = by_next (kind.comma ∷ []) (positions_from first >>= λ m. pure (ManyInside m)) (pure (OneInside first))

  -- after the first sum
  unfoldable pub inside_simple : Simple → Reader Inside
  inside_simple s =
      by_next (kind.dots ∷ kind.bar ∷ kind.arrow ∷ []) (choice_from s >>= inside_choice)
      (rel_from inner s >>= λ r. expr_from inner r >>= inside_expr)

  unfoldable pub inside : Reader Inside
  inside = by_next (kind.others_word ∷ []) (others_choice >>= inside_choice) (simple inner >>= inside_simple)

  -- ---- what a round bracket opens

  unfoldable pub then_value : Reader Expr
  then_value = symbol kind.then_word >> expr inner

  unfoldable pub next_elsif : Reader Elsif
  next_elsif = symbol kind.elsif_word >>= λ at. expr inner >>= λ c. then_value >>= λ v. pure (syntax.elsif at c v)

  unfoldable pub elsifs : Reader Elsifs
  elsifs = grown elsifs_and NoElsif (kind.elsif_word ∷ []) next_elsif

  unfoldable pub else_value : Reader Expr
  else_value = symbol kind.else_word >> expr inner

  unfoldable pub if_expr : ℕ → Reader Primary
  if_expr b = symbol kind.if_word >>= λ at. expr inner >>= λ c. then_value >>= λ v. elsifs >>= λ es. else_value >>= λ o. pure (If b at c v es o)

  unfoldable pub each_and_more : Reader Inside
  each_and_more = each >>= λ a. assocs_from a >>= λ m. pure (ManyInside m)

  unfoldable pub round_inside : ℕ → Reader Primary
  round_inside b =
      by_next (kind.if_word ∷ []) (if_expr b)
      (by_next (kind.for_word ∷ []) each_and_more inside >>= λ x. pure (in_round b x))

  unfoldable pub round : Reader Primary
  round = symbol kind.open_round >>= λ b. round_inside b >>= λ p. symbol kind.close_round >> pure p

  -- ---- iterations

  unfoldable pub filter : Reader OptionalExpr
  filter = by_next (kind.when_word ∷ []) (symbol kind.when_word >> (expr inner >>= λ e. pure (PresentExpr e))) (pure AbsentExpr)

  unfoldable pub iter_of : ℕ → Reader Iter
  iter_of item = symbol kind.of_word >> (name inner >>= λ n. filter >>= λ f. pure (OfName item n f))

  unfoldable pub iter_in : ℕ → Reader Iter
  iter_in index = symbol kind.in_word >> (reversed >>= λ v. range >>= λ r. filter >>= λ f. pure (InRange index v r f))

  unfoldable pub iter : Reader Iter
  iter = symbol kind.identifier >>= λ i. by_next (kind.of_word ∷ []) (iter_of i) (iter_in i)

  unfoldable pub parallel : Reader Parallel
  parallel = symbol kind.parallel_word >>= λ at. by_next (kind.open_round ∷ []) (inner.chunk at) (pure (Unchunked at))

  -- a chunk specification over a range, after its parameter
  unfoldable pub chunk_in : ℕ → ℕ → Reader Parallel
  chunk_in at index = symbol kind.in_word >> (range >>= λ r. pure (Chunked at index r))

  -- a chunk specification, after its first sum
  unfoldable pub chunk_from : ℕ → Simple → Reader Parallel
  chunk_from at s = by_next (kind.in_word ∷ []) (given (bare_identifier s) (chunk_in at)) (pure (Counted at s))

  unfoldable pub chunk : ℕ → Reader Parallel
  chunk at = symbol kind.open_round >> (simple inner >>= λ s. chunk_from at s >>= λ c. symbol kind.close_round >> pure c)

  -- ---- what a square bracket opens

  -- the reducer and the initial value, after the closing bracket of the values
  unfoldable pub reduction : ℕ → OptionalParallel → ℕ → Iter → Expr → Reader Primary
  reduction b p at i v =
      symbol kind.tick >> (symbol kind.identifier >>= λ a. symbol kind.open_round >> (expr inner >>= λ f. symbol kind.comma >> (expr inner >>= λ g.
      symbol kind.close_round >> pure (Reduction b p at i v a f g))))

  -- an association that the values may be: others follow, or the bracket closes, and then it is a reduction or not
  unfoldable pub each_end : ℕ → ℕ → Iter → Expr → Reader Primary
  each_end b at i v =
      by_next (kind.comma ∷ []) (assocs_from (each_of at i v) >>= λ m. symbol kind.close_square >> pure (Square b m))
      (symbol kind.close_square >>
      by_next (kind.tick ∷ []) (reduction b AbsentParallel at i v) (pure (Square b (Associations (each_of at i v) NoAssoc))))

  -- after the values
  unfoldable pub values_end : ℕ → OptionalParallel → ℕ → Iter → Expr → Reader Primary
  values_end b p at i v = if is_each p i then each_end b at i v else (symbol kind.close_square >> reduction b p at i v)

  unfoldable pub values_from : ℕ → OptionalParallel → Reader Primary
  values_from b p = symbol kind.for_word >>= λ at. iter >>= λ i. arrow_value >>= λ v. values_end b p at i v

  unfoldable pub values : ℕ → Reader Primary
  values b = by_next (kind.parallel_word ∷ []) (parallel >>= λ p. values_from b (PresentParallel p)) (values_from b AbsentParallel)

  unfoldable pub square_inside : ℕ → Reader Primary
  square_inside b = inside >>= λ x. symbol kind.close_square >> pure (in_square b x)

  unfoldable pub square : Reader Primary
  square = symbol kind.open_square >>= λ b. by_next (kind.parallel_word ∷ kind.for_word ∷ []) (values b) (square_inside b)
