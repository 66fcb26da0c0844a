-- The rules of what operators join (4.4), over a judgement of primaries.
use Rattle.ada_base.specs.declared.operation.Op.TheVariants as op
use Rattle.ada_base.specs.declared.operation.Op.{Op}
use Rattle.syntax_tree.specs.FirstTokens as first_token
use Rattle.name_rules.specs.Found.{Denoted, Found}
use Rattle.name_rules.specs.Judging.{Judging, fault, given, joined, pure, some, ◌>>=◌}
use Rattle.name_rules.specs.Operators.{binary, compared, joined_text, logical, membership, negation, not_of, of_subtype, plain, power, unary}
use Rattle.name_rules.specs.Scope.{scalar_named}
use Rattle.name_rules.specs.Types.{wanted_of}
use Rattle.name_rules.specs.Values.{asked, is_kind, kind_of, stored}
use Rattle.name_rules.specs.declared.found.Found.TheVariants as known
use Rattle.name_rules.specs.declared.found.Found.{Found as Known}
use Rattle.name_rules.specs.declared.log.Rule.TheVariants.{WrongType}
use Rattle.name_rules.specs.declared.scope.Context.{Context}
use Rattle.name_rules.specs.declared.scope.Names.{Names}
use Rattle.name_rules.specs.declared.types.Kind.TheVariants as kind
use Rattle.name_rules.specs.declared.types.Subtype.{Subtype}
use Rattle.name_rules.specs.declared.types.Wanted.TheVariants as wanted
use Rattle.name_rules.specs.declared.types.Wanted.{Wanted}
use Rattle.syntax_tree.specs.Syntax as syntax
use Rattle.syntax_tree.specs.Syntax.{Adding, Addings, Conjuncts, Expr, Factor, Multiplying, Multiplyings, Name, Primary, Rel, Simple, Term}
use Rattle.syntax_tree.specs.declared.operators.Additive.TheVariants as additive
use Rattle.ada_base.specs.declared.operation.Comparison.{Comparison}
use Rattle.syntax_tree.specs.declared.operators.Logical.TheVariants as logical'
use Rattle.syntax_tree.specs.declared.operators.Multiplicative.TheVariants as multiplicative
use Rattle.syntax_tree.specs.declared.operators.Multiplicative.{Multiplicative}
use Rattle.syntax_tree.specs.declared.operators.Sign.TheVariants as sign
use Rattle.syntax_tree.specs.declared.operators.Sign.{Sign}
use Rattle.typed_tree.specs.Decoded as part
use Rattle.typed_tree.specs.Syntax as typed
use Rattle.typed_tree.specs.Syntax.{Expr as TypedExpr}
use Rattle.typed_tree.specs.declared.expressions.Sign.TheVariants as unary'
use Rattle.std.specs.Prelude.{Bool, None, Option, Some, false, if◌then◌else◌, is_some, option_map, true, ℕ}
use Rattle.typed_tree.specs.Decoded.{TypedPart, as_expr}

-- how primaries and names are judged at a level of brackets
pub record Inside : Type 0 where
  pub primary : Context → Primary → Wanted → Judging (Option Found)
  pub name : Context → Name → Judging (Option Denoted)

-- ---- factors and terms

unfoldable pub factor : Inside → Context → Wanted → Factor → Judging (Option Found)
factor level here want (syntax.Operand p) = level.primary here p want
factor level here want (syntax.Power b at e) = do
  x ← level.primary here b wanted.Other
  y ← level.primary here e wanted.Other
  power at x y
factor level here want (syntax.Abs at p) = level.primary here p wanted.Other >>= unary unary'.Abs at
factor level here want (syntax.Not at p) = level.primary here p wanted.Other >>= not_of at

abbrev pub multiplying_op : Multiplicative → Op
multiplying_op multiplicative.Times = op.Mul
multiplying_op multiplicative.Over = op.Div
multiplying_op multiplicative.Mod = op.Mod
multiplying_op multiplicative.Rem = op.Rem

unfoldable pub multiplying : Inside → Context → Option Found → Multiplying → Judging (Option Found)
multiplying level here x (syntax.multiplying by at f) = factor level here wanted.Other f >>= binary (multiplying_op by) at x

abbrev pub multiplied : Inside → Context → Option Found → Multiplyings → Judging (Option Found)
multiplied level here x syntax.NoMultiplying = pure x
multiplied level here x (syntax.AlsoMultiplying m ms) = multiplying level here x m >>= λ y. multiplied level here y ms

-- an operand alone is all that its place asks for
abbrev pub term_form : Inside → Context → Wanted → Factor → Multiplyings → Judging (Option Found)
term_form level here want f syntax.NoMultiplying = factor level here want f
term_form level here want f ms = factor level here wanted.Other f >>= λ x. multiplied level here x ms

unfoldable pub term : Inside → Context → Wanted → Term → Judging (Option Found)
term level here want (syntax.Product f ms) = term_form level here want f ms

-- ---- sums

unfoldable pub adding : Inside → Context → Option Found → Adding → Judging (Option Found)
adding level here x (syntax.adding additive.Plus at t) = term level here wanted.Other t >>= binary op.Add at x
adding level here x (syntax.adding additive.Minus at t) = term level here wanted.Other t >>= binary op.Sub at x
adding level here x (syntax.adding additive.Joined at t) = term level here wanted.Text t >>= joined_text at x

abbrev pub added : Inside → Context → Option Found → Addings → Judging (Option Found)
added level here x syntax.NoAdding = pure x
added level here x (syntax.AlsoAdding a as') = adding level here x a >>= λ y. added level here y as'

-- a term before `&` stands in a string's place
abbrev pub first_wanted : Wanted → Addings → Wanted
first_wanted want syntax.NoAdding = want
first_wanted want (syntax.AlsoAdding (syntax.adding additive.Joined at t) as') = wanted.Text
first_wanted want _ = wanted.Other

abbrev pub first_term : Inside → Context → Wanted → Option Sign → Term → Judging (Option Found)
first_term level here want None t = term level here want t
first_term level here want (Some (sign.Plus at)) t = term level here wanted.Other t >>= plain at
first_term level here want (Some (sign.Minus at)) t = term level here wanted.Other t >>= unary unary'.Minus at

-- E06: a string expression elsewhere than in Put or Put_Line, at its first token
abbrev pub in_place : Wanted → Known → Found → Judging (Option Found)
in_place wanted.Text k f = some f
in_place want (known.Text first) f = fault first WrongType
in_place want k f = some f

unfoldable pub simple : Inside → Context → Wanted → Simple → Judging (Option Found)
simple level here want (syntax.Sum s t as') = do
  x ← first_term level here (first_wanted want as') s t
  y ← added level here x as'
  given y (λ f. in_place want f.known f)

-- ---- relations and logical operators

-- `not in` is blamed at `not`
abbrev pub blamed : Option ℕ → ℕ → ℕ
blamed None at = at
blamed (Some negation) at = negation

unfoldable pub rel : Names → Inside → Context → Wanted → Rel → Judging (Option Found)
rel names level here want (syntax.Alone s) = simple level here want s
rel names level here want (syntax.Compared left c at right) = do
  x ← simple level here wanted.Other left
  y ← simple level here wanted.Other right
  compared c at x y
rel names level here want (syntax.Within value negation at low high) = do
  x ← simple level here wanted.Other value
  l ← simple level here wanted.Other low
  h ← simple level here wanted.Other high
  membership (blamed negation at) (is_some negation) x l h
rel names level here want (syntax.OfMark value negation at mark) = do
  x ← simple level here wanted.Other value
  s ← scalar_named names here mark
  of_subtype (blamed negation at) (is_some negation) mark x s

abbrev pub conjoined : Names → Inside → Context → Op → Option Found → Conjuncts → Judging (Option Found)
conjoined names level here o x syntax.NoConjunct = pure x
conjoined names level here o x (syntax.AlsoConjunct (syntax.conjunct at r) cs) = do
  y ← rel names level here wanted.Other r
  z ← logical o at x y
  conjoined names level here o z cs

abbrev pub joined_rels : Names → Inside → Context → Op → Rel → ℕ → Rel → Conjuncts → Judging (Option Found)
joined_rels names level here o first at second more = do
  x ← rel names level here wanted.Other first
  y ← rel names level here wanted.Other second
  z ← logical o at x y
  conjoined names level here o z more

-- `and then`, `or else`: each operand is a Boolean; a wrong one is blamed at its operator
abbrev pub short_operand : Names → Inside → Context → ℕ → Rel → Judging (Option TypedPart)
short_operand names level here at r = rel names level here wanted.Other r >>= λ x. given x (λ f.
    if is_kind kind.Boolean (kind_of f.known) then asked kind.Boolean f else fault at WrongType)

abbrev pub short_by : Bool → TypedExpr → TypedExpr → TypedExpr
short_by true x y = typed.AndThen x y
short_by false x y = typed.OrElse x y

abbrev pub short_join : Bool → TypedPart → TypedPart → TypedPart
short_join all x y = part.AnExpr (short_by all (as_expr x) (as_expr y))

abbrev pub short_operands : Names → Inside → Context → Bool → Option TypedPart → Conjuncts → Judging (Option TypedPart)
short_operands names level here all x syntax.NoConjunct = pure x
short_operands names level here all x (syntax.AlsoConjunct (syntax.conjunct at r) cs) = do
  y ← short_operand names level here at r
  short_operands names level here all (joined (short_join all) x y) cs

abbrev pub short_found : ℕ → TypedPart → Found
short_found first e = record { known = known.Scalar first kind.Boolean None; part = e }

abbrev pub short_form : Names → Inside → Context → Bool → Rel → ℕ → Rel → Conjuncts → Judging (Option Found)
short_form names level here all first at second more = do
  x ← short_operand names level here at first
  z ← short_operands names level here all x (syntax.AlsoConjunct (syntax.conjunct at second) more)
  pure (option_map (short_found (first_token.of_rel first)) z)

unfoldable pub expr : Names → Inside → Context → Wanted → Expr → Judging (Option Found)
expr names level here want (syntax.Single r) = rel names level here want r
expr names level here want (syntax.Joined logical'.And first at second more) = joined_rels names level here op.And first at second more
expr names level here want (syntax.Joined logical'.Or first at second more) = joined_rels names level here op.Or first at second more
expr names level here want (syntax.Joined logical'.Xor first at second more) = joined_rels names level here op.Xor first at second more
expr names level here want (syntax.Joined logical'.AndThen first at second more) = short_form names level here true first at second more
expr names level here want (syntax.Joined logical'.OrElse first at second more) = short_form names level here false first at second more

-- ---- expressions in a place

-- a condition is a Boolean
unfoldable pub condition : Names → Inside → Context → Expr → Judging (Option TypedPart)
condition names level here e = expr names level here wanted.Other e >>= λ x. given x (asked kind.Boolean)

-- a value that is stored in a place of a subtype
unfoldable pub value_for : Names → Inside → Context → Subtype → Expr → Judging (Option TypedPart)
value_for names level here s e = expr names level here (wanted_of s) e >>= λ x. given x (stored s (first_token.of_expr e))

-- an expression whose place asks for nothing that is known, for a fault: its own rules are judged
unfoldable pub judged_alone : Names → Inside → Context → Expr → Judging (Unit {0})
judged_alone names level here e = expr names level here wanted.Unknown e >>= λ x. pure tt
