-- The readers of names and expressions (4.1, 4.4), where what opens a bracket is read one level down.
use Rattle.std.specs.Prelude.{ℕ, List, [], ◌∷◌, Option, Some, None}
use Rattle.syntax_readers.specs.Readers.{Reader, ◌>>=◌, ◌>>◌, ◌<$>◌, pure, symbol, by_next, given}
use Rattle.ada_base.specs.Kinds as kind
use Rattle.syntax_tree.specs.Syntax as syntax
use Rattle.syntax_tree.specs.Syntax.{Expr, Single, Joined, Conjunct, NoConjunct, Rel, Alone, Compared, Within, OfMark, Simple, Sum, Adding, Addings, NoAdding, Term, Product, Multiplying, NoMultiplying, Factor, Operand, Power, Abs, Not, Primary, Number, Text, Target, Named, Name, NamePart, Field, Attribute, RangeAttribute, NoPart}
use Rattle.syntax_tree.specs.declared.operators.Logical.{Logical}
use Rattle.syntax_tree.specs.declared.operators.Logical.TheVariants as logical
use Rattle.ada_base.specs.declared.operation.Comparison.{Comparison}
use Rattle.ada_base.specs.declared.operation.Comparison.TheVariants as comparison'
use Rattle.syntax_tree.specs.declared.operators.Additive.{Additive}
use Rattle.syntax_tree.specs.declared.operators.Additive.TheVariants as additive
use Rattle.syntax_tree.specs.declared.operators.Sign.{Sign}
use Rattle.syntax_tree.specs.declared.operators.Sign.TheVariants as sign'
use Rattle.syntax_tree.specs.declared.operators.Multiplicative.{Multiplicative}
use Rattle.syntax_tree.specs.declared.operators.Multiplicative.TheVariants as by
use Rattle.syntax_tree.specs.Joining.{parts_and, multiplyings_and, addings_and, conjuncts_and, bare_identifier}
use Rattle.syntax_readers.specs.Loops.{grown}
use Rattle.syntax_grammar.specs.Opened.{Opened}

abbrev pub part_kinds : List ℕ
part_kinds = kind.point ∷ kind.tick ∷ kind.open_round ∷ []

abbrev pub multiplying_kinds : List ℕ
multiplying_kinds = kind.star ∷ kind.slash ∷ kind.mod_word ∷ kind.rem_word ∷ []

abbrev pub adding_kinds : List ℕ
adding_kinds = kind.plus ∷ kind.minus ∷ kind.ampersand ∷ []

abbrev pub comparison_kinds : List ℕ
comparison_kinds = kind.equal ∷ kind.unequal ∷ kind.less ∷ kind.at_most ∷ kind.greater ∷ kind.at_least ∷ []

-- ---- operators, with their tokens

unfoldable pub sign : Reader Sign
sign = by_next (kind.plus ∷ []) (sign'.Plus <$> symbol kind.plus) (sign'.Minus <$> symbol kind.minus)

unfoldable pub multiplying_operator : Reader (Multiplicative × ℕ)
multiplying_operator =
    by_next (kind.star ∷ []) ((λ at. (by.Times, at)) <$> symbol kind.star)
    (by_next (kind.slash ∷ []) ((λ at. (by.Over, at)) <$> symbol kind.slash)
    (by_next (kind.mod_word ∷ []) ((λ at. (by.Mod, at)) <$> symbol kind.mod_word)
    ((λ at. (by.Rem, at)) <$> symbol kind.rem_word)))

unfoldable pub adding_operator : Reader (Additive × ℕ)
adding_operator =
    by_next (kind.plus ∷ []) ((λ at. (additive.Plus, at)) <$> symbol kind.plus)
    (by_next (kind.minus ∷ []) ((λ at. (additive.Minus, at)) <$> symbol kind.minus)
    ((λ at. (additive.Joined, at)) <$> symbol kind.ampersand))

unfoldable pub comparison : Reader (Comparison × ℕ)
comparison =
    by_next (kind.equal ∷ []) ((λ at. (comparison'.Equal, at)) <$> symbol kind.equal)
    (by_next (kind.unequal ∷ []) ((λ at. (comparison'.Unequal, at)) <$> symbol kind.unequal)
    (by_next (kind.less ∷ []) ((λ at. (comparison'.Less, at)) <$> symbol kind.less)
    (by_next (kind.at_most ∷ []) ((λ at. (comparison'.AtMost, at)) <$> symbol kind.at_most)
    (by_next (kind.greater ∷ []) ((λ at. (comparison'.Greater, at)) <$> symbol kind.greater)
    ((λ at. (comparison'.AtLeast, at)) <$> symbol kind.at_least)))))

module _ (inner : Opened) where
  -- ---- names

  unfoldable pub part : Reader NamePart
  part =
      by_next (kind.point ∷ []) (symbol kind.point >> (symbol kind.identifier >>= λ at. pure (Field at)))
      (by_next (kind.tick ∷ [])
      (symbol kind.tick >> by_next (kind.identifier ∷ []) (symbol kind.identifier >>= λ at. pure (Attribute at)) (symbol kind.range_word >>= λ at. pure (RangeAttribute at)))
      inner.call)

  unfoldable pub name : Reader Name
  name = symbol kind.identifier >>= λ n. by_next part_kinds (grown parts_and NoPart part_kinds part >>= λ ps. pure (syntax.name n ps)) (pure (syntax.name n NoPart))

  -- ---- sums

  unfoldable pub primary : Reader Primary
  primary =
      by_next (kind.numeral ∷ []) (symbol kind.numeral >>= λ at. pure (Number at))
      (by_next (kind.string ∷ []) (symbol kind.string >>= λ at. pure (Text at))
      (by_next (kind.target ∷ []) (symbol kind.target >>= λ at. pure (Target at))
      (by_next (kind.identifier ∷ []) (name >>= λ n. pure (Named n))
      (by_next (kind.open_round ∷ []) inner.round
      inner.square))))

  unfoldable pub factor : Reader Factor
  factor =
      by_next (kind.abs_word ∷ []) (symbol kind.abs_word >>= λ at. primary >>= λ p. pure (Abs at p))
      (by_next (kind.not_word ∷ []) (symbol kind.not_word >>= λ at. primary >>= λ p. pure (Not at p))
      (primary >>= λ base.
      by_next (kind.double_star ∷ []) (symbol kind.double_star >>= λ at. primary >>= λ e. pure (Power base at e))
      (pure (Operand base))))

  unfoldable pub multiplied : Reader Multiplying
  multiplied = multiplying_operator >>= λ o. factor >>= λ f. pure (syntax.multiplying o.0 o.1 f)

  unfoldable pub term : Reader Term
  term = factor >>= λ f. by_next multiplying_kinds (grown multiplyings_and NoMultiplying multiplying_kinds multiplied >>= λ ms. pure (Product f ms)) (pure (Product f NoMultiplying))

  unfoldable pub added : Reader Adding
  added = adding_operator >>= λ o. term >>= λ t. pure (syntax.adding o.0 o.1 t)

  unfoldable pub addings : Reader Addings
  addings = grown addings_and NoAdding adding_kinds added

  unfoldable pub signed : Reader Simple
  signed = sign >>= λ s. term >>= λ t. addings >>= λ more. pure (Sum (Some s) t more)

  unfoldable pub simple : Reader Simple
  simple = by_next (kind.plus ∷ kind.minus ∷ []) signed
      (term >>= λ t. by_next adding_kinds (addings >>= λ more. pure (Sum None t more)) (pure (Sum None t NoAdding)))

  -- the dots between two bounds, and the bound after them
  unfoldable pub upper_bound : Reader Simple
  upper_bound = symbol kind.dots >> simple

  -- ---- relations

  -- after "in"
  unfoldable pub within : Simple → Option ℕ → ℕ → Reader Rel
  within value negation at = simple >>= λ low.
      by_next (kind.dots ∷ []) (upper_bound >>= λ high. pure (Within value negation at low high))
      (given (bare_identifier low) (λ mark. pure (OfMark value negation at mark)))

  -- a relation, after its first sum
  unfoldable pub rel_from : Simple → Reader Rel
  rel_from value =
      by_next comparison_kinds (comparison >>= λ c. simple >>= λ right. pure (Compared value c.0 c.1 right))
      (by_next (kind.in_word ∷ []) (symbol kind.in_word >>= within value None)
      (by_next (kind.not_word ∷ []) (symbol kind.not_word >>= λ n. symbol kind.in_word >>= within value (Some n))
      (pure (Alone value))))

  unfoldable pub rel : Reader Rel
  rel = simple >>= rel_from

  -- ---- expressions

  -- the relation after a logical operator that is at this token
  unfoldable pub conjoined : ℕ → Reader Conjunct
  conjoined at = rel >>= λ r. pure (syntax.conjunct at r)

  unfoldable pub conjunct : ℕ → Reader Conjunct
  conjunct word = symbol word >>= conjoined

  -- the same for an operator of two words
  unfoldable pub short_conjunct : ℕ → ℕ → Reader Conjunct
  short_conjunct word second = symbol word >>= λ at. symbol second >> conjoined at

  -- an expression of one operator, after its first relation and that operator
  unfoldable pub joined : Logical → Rel → ℕ → List ℕ → Reader Conjunct → Reader Expr
  joined operator first at ks next = rel >>= λ r. grown conjuncts_and NoConjunct ks next >>= λ more. pure (Joined operator first at r more)

  unfoldable pub after_and : Rel → ℕ → Reader Expr
  after_and first at =
      by_next (kind.then_word ∷ []) (symbol kind.then_word >> joined logical.AndThen first at (kind.and_word ∷ []) (short_conjunct kind.and_word kind.then_word))
      (joined logical.And first at (kind.and_word ∷ []) (conjunct kind.and_word))

  unfoldable pub after_or : Rel → ℕ → Reader Expr
  after_or first at =
      by_next (kind.else_word ∷ []) (symbol kind.else_word >> joined logical.OrElse first at (kind.or_word ∷ []) (short_conjunct kind.or_word kind.else_word))
      (joined logical.Or first at (kind.or_word ∷ []) (conjunct kind.or_word))

  -- an expression, after its first relation
  unfoldable pub expr_from : Rel → Reader Expr
  expr_from first =
      by_next (kind.and_word ∷ []) (symbol kind.and_word >>= after_and first)
      (by_next (kind.or_word ∷ []) (symbol kind.or_word >>= after_or first)
      (by_next (kind.xor_word ∷ []) (symbol kind.xor_word >>= λ at. joined logical.Xor first at (kind.xor_word ∷ []) (conjunct kind.xor_word))
      (pure (Single first))))

  unfoldable pub expr : Reader Expr
  expr = rel >>= expr_from
