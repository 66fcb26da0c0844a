-- What is found is formed: what operators join, where what primaries and names are found to be fits.
use Rattle.std.proofs.Common.{ℕ, Option, Some, None, Bool, true, false, option_map}
use Rattle.std.specs.Prelude.{is_some}
use Rattle.ada_base.specs.declared.operation.Op.TheVariants as op
use Rattle.ada_base.specs.declared.operation.Op.{Op}
use Rattle.syntax_tree.specs.FirstTokens as first_token
use Rattle.syntax_tree.specs.Syntax as syntax
use Rattle.syntax_tree.specs.Syntax.{Adding, Addings, Conjuncts, Expr, Factor, Multiplying, Multiplyings, Rel, Simple, Term}
use Rattle.syntax_tree.specs.declared.operators.Additive.TheVariants as additive
use Rattle.syntax_tree.specs.declared.operators.Logical.TheVariants as logical'
use Rattle.syntax_tree.specs.declared.operators.Sign.{Sign as Signed}
use Rattle.syntax_tree.specs.declared.operators.Sign.TheVariants as sign
use Rattle.typed_tree.specs.Decoded.{TypedPart}
use Rattle.typed_tree.specs.declared.expressions.Sign.TheVariants as unary'
use Rattle.name_rules.specs.Expressions.{Inside, added, adding, blamed, condition, conjoined, expr, factor, first_term, first_wanted, in_place, joined_rels, judged_alone, multiplied, multiplying, multiplying_op, rel, short_form, short_found, short_join, short_operand, short_operands, simple, term, value_for}
use Rattle.name_rules.specs.Found.{Found}
use Rattle.name_rules.specs.Judging.{fault, given, joined}
use Rattle.name_rules.specs.Operators.{binary, joined_text, logical, not_of, plain, unary}
use Rattle.name_rules.specs.Scope.{scalar_named}
use Rattle.name_rules.specs.Types.{wanted_of}
use Rattle.name_rules.specs.Values.{asked, is_kind, kind_of, stored}
use Rattle.name_rules.specs.declared.found.Found.TheVariants as known
use Rattle.name_rules.specs.declared.found.Found.{Found as Known}
use Rattle.name_rules.specs.declared.log.Rule.TheVariants.{WrongType}
use Rattle.name_rules.specs.declared.scope.Context.{Context}
use Rattle.name_rules.specs.declared.scope.Names.{Names}
use Rattle.name_rules.specs.declared.types.Kind.TheVariants as kind
use Rattle.name_rules.specs.declared.types.Subtype.{Subtype}
use Rattle.name_rules.specs.declared.types.Wanted.TheVariants as wanted
use Rattle.name_rules.specs.declared.types.Wanted.{Wanted}
use Rattle.name_formed.proofs.Forms.{Any, Forms, Maybe, Sight, World, f-bind, f-fault, f-given, f-if, f-pure, f-some, joint, mapped}
use Rattle.name_formed.proofs.FormsFound.{Around, ExprOf, Finding, FoundOf, LevelForms, ValueOf}
use Rattle.name_formed.proofs.FormsOperators.{f-binary, f-compared, f-joined_text, f-logical, f-membership, f-not_of, f-of_subtype, f-plain, f-power, f-unary}
use Rattle.name_formed.proofs.FormsScope.{f-scalar_named}
use Rattle.name_formed.proofs.FormsValues.{f-asked, f-stored}

module _ (W : World) (V : Sight) where
  -- ---- factors, terms and sums

  f-factor : (level : Inside) (here : Context) (want : Wanted) (x : Factor) → LevelForms W level → Around W V here → Forms W V (Finding W V) (factor level here want x)
  unfolding factor
  f-factor level here want (syntax.Operand p) l r = l.primary V here p want r
  f-factor level here want (syntax.Power b at e) l r =
      f-bind W V (Finding W V) (Finding W V) (level.primary here b wanted.Other) _ (l.primary V here b wanted.Other r) (λ x q. f-bind W V (Finding W V) (Finding W V) (level.primary here e wanted.Other) _ (l.primary V here e wanted.Other r) (λ y s. f-power W V at x y q s))
  f-factor level here want (syntax.Abs at p) l r = f-bind W V (Finding W V) (Finding W V) (level.primary here p wanted.Other) (unary unary'.Abs at) (l.primary V here p wanted.Other r) (λ x q. f-unary W V unary'.Abs at x q)
  f-factor level here want (syntax.Not at p) l r = f-bind W V (Finding W V) (Finding W V) (level.primary here p wanted.Other) (not_of at) (l.primary V here p wanted.Other r) (λ x q. f-not_of W V at x q)

  f-multiplying : (level : Inside) (here : Context) (x : Option Found) (m : Multiplying) → LevelForms W level → Around W V here → (Finding W V) x → Forms W V (Finding W V) (multiplying level here x m)
  unfolding multiplying
  f-multiplying level here x (syntax.multiplying by at f) l r q = f-bind W V (Finding W V) (Finding W V) (factor level here wanted.Other f) (binary (multiplying_op by) at x) (f-factor level here wanted.Other f l r) (λ y s. f-binary W V (multiplying_op by) at x y q s)

  f-multiplied : (level : Inside) (here : Context) (x : Option Found) (ms : Multiplyings) → LevelForms W level → Around W V here → (Finding W V) x → Forms W V (Finding W V) (multiplied level here x ms)
  f-multiplied level here x syntax.NoMultiplying l r q = f-pure W V (Finding W V) x q
  f-multiplied level here x (syntax.AlsoMultiplying m ms) l r q = f-bind W V (Finding W V) (Finding W V) (multiplying level here x m) _ (f-multiplying level here x m l r q) (λ y s. f-multiplied level here y ms l r s)

  f-term : (level : Inside) (here : Context) (want : Wanted) (x : Term) → LevelForms W level → Around W V here → Forms W V (Finding W V) (term level here want x)
  unfolding term
  f-term level here want (syntax.Product f syntax.NoMultiplying) l r = f-factor level here want f l r
  f-term level here want (syntax.Product f (syntax.AlsoMultiplying m ms)) l r =
      f-bind W V (Finding W V) (Finding W V) (factor level here wanted.Other f) (λ x. multiplied level here x (syntax.AlsoMultiplying m ms)) (f-factor level here wanted.Other f l r) (λ x q. f-multiplied level here x (syntax.AlsoMultiplying m ms) l r q)

  f-adding : (level : Inside) (here : Context) (x : Option Found) (a : Adding) → LevelForms W level → Around W V here → (Finding W V) x → Forms W V (Finding W V) (adding level here x a)
  unfolding adding
  f-adding level here x (syntax.adding additive.Plus at t) l r q = f-bind W V (Finding W V) (Finding W V) (term level here wanted.Other t) (binary op.Add at x) (f-term level here wanted.Other t l r) (λ y s. f-binary W V op.Add at x y q s)
  f-adding level here x (syntax.adding additive.Minus at t) l r q = f-bind W V (Finding W V) (Finding W V) (term level here wanted.Other t) (binary op.Sub at x) (f-term level here wanted.Other t l r) (λ y s. f-binary W V op.Sub at x y q s)
  f-adding level here x (syntax.adding additive.Joined at t) l r q = f-bind W V (Finding W V) (Finding W V) (term level here wanted.Text t) (joined_text at x) (f-term level here wanted.Text t l r) (λ y s. f-joined_text W V at x y q s)

  f-added : (level : Inside) (here : Context) (x : Option Found) (as' : Addings) → LevelForms W level → Around W V here → (Finding W V) x → Forms W V (Finding W V) (added level here x as')
  f-added level here x syntax.NoAdding l r q = f-pure W V (Finding W V) x q
  f-added level here x (syntax.AlsoAdding a as') l r q = f-bind W V (Finding W V) (Finding W V) (adding level here x a) _ (f-adding level here x a l r q) (λ y s. f-added level here y as' l r s)

  f-first_term : (level : Inside) (here : Context) (want : Wanted) (s : Option Signed) (t : Term) → LevelForms W level → Around W V here → Forms W V (Finding W V) (first_term level here want s t)
  f-first_term level here want None t l r = f-term level here want t l r
  f-first_term level here want (Some (sign.Plus at)) t l r = f-bind W V (Finding W V) (Finding W V) (term level here wanted.Other t) (plain at) (f-term level here wanted.Other t l r) (λ x q. f-plain W V at x q)
  f-first_term level here want (Some (sign.Minus at)) t l r = f-bind W V (Finding W V) (Finding W V) (term level here wanted.Other t) (unary unary'.Minus at) (f-term level here wanted.Other t l r) (λ x q. f-unary W V unary'.Minus at x q)

  f-in_place : (want : Wanted) (k : Known) (f : Found) → FoundOf W V f → Forms W V (Finding W V) (in_place want k f)
  f-in_place wanted.Text k f h = f-some W V (FoundOf W V) f h
  f-in_place want (known.Text first) f h = f-fault W V (FoundOf W V) first WrongType
  f-in_place want k f h = f-some W V (FoundOf W V) f h

  pub f-placed : (want : Wanted) (x : Option Found) → (Finding W V) x → Forms W V (Finding W V) (given x (λ f. in_place want f.known f))
  f-placed want x h = f-given W V (FoundOf W V) (FoundOf W V) x _ h (λ f q. f-in_place want f.known f q)

  pub f-simple : (level : Inside) (here : Context) (want : Wanted) (x : Simple) → LevelForms W level → Around W V here → Forms W V (Finding W V) (simple level here want x)
  unfolding simple
  f-simple level here want (syntax.Sum s t as') l r =
      f-bind W V (Finding W V) (Finding W V) (first_term level here (first_wanted want as') s t) _ (f-first_term level here (first_wanted want as') s t l r) (λ x q.
      f-bind W V (Finding W V) (Finding W V) (added level here x as') _ (f-added level here x as' l r q) (λ y s. f-placed want y s))

  -- ---- relations and logical operators

  f-rel : (names : Names) (level : Inside) (here : Context) (want : Wanted) (x : Rel) → LevelForms W level → Around W V here → Forms W V (Finding W V) (rel names level here want x)
  unfolding rel
  f-rel names level here want (syntax.Alone s) l r = f-simple level here want s l r
  f-rel names level here want (syntax.Compared left c at right) l r =
      f-bind W V (Finding W V) (Finding W V) (simple level here wanted.Other left) _ (f-simple level here wanted.Other left l r) (λ x p.
      f-bind W V (Finding W V) (Finding W V) (simple level here wanted.Other right) _ (f-simple level here wanted.Other right l r) (λ y q. f-compared W V c at x y p q))
  f-rel names level here want (syntax.Within value negation at low high) l r =
      f-bind W V (Finding W V) (Finding W V) (simple level here wanted.Other value) _ (f-simple level here wanted.Other value l r) (λ x p.
      f-bind W V (Finding W V) (Finding W V) (simple level here wanted.Other low) _ (f-simple level here wanted.Other low l r) (λ y q.
      f-bind W V (Finding W V) (Finding W V) (simple level here wanted.Other high) _ (f-simple level here wanted.Other high l r) (λ z s. f-membership W V (blamed negation at) (is_some negation) x y z p q s)))
  f-rel names level here want (syntax.OfMark value negation at mark) l r =
      f-bind W V (Finding W V) (Finding W V) (simple level here wanted.Other value) _ (f-simple level here wanted.Other value l r) (λ x p.
      f-bind W V (Maybe Any) (Finding W V) (scalar_named names here mark) _ (f-scalar_named W V names here mark r) (λ s q. f-of_subtype W V (blamed negation at) (is_some negation) mark x s p))

  f-conjoined : (names : Names) (level : Inside) (here : Context) (o : Op) (x : Option Found) (cs : Conjuncts) → LevelForms W level → Around W V here → (Finding W V) x → Forms W V (Finding W V) (conjoined names level here o x cs)
  f-conjoined names level here o x syntax.NoConjunct l r h = f-pure W V (Finding W V) x h
  f-conjoined names level here o x (syntax.AlsoConjunct (syntax.conjunct at c) cs) l r h =
      f-bind W V (Finding W V) (Finding W V) (rel names level here wanted.Other c) _ (f-rel names level here wanted.Other c l r) (λ y q.
      f-bind W V (Finding W V) (Finding W V) (logical o at x y) _ (f-logical W V o at x y h q) (λ z s. f-conjoined names level here o z cs l r s))

  f-joined_rels : (names : Names) (level : Inside) (here : Context) (o : Op) (first : Rel) (at : ℕ) (second : Rel) (more : Conjuncts) → LevelForms W level → Around W V here → Forms W V (Finding W V) (joined_rels names level here o first at second more)
  f-joined_rels names level here o first at second more l r =
      f-bind W V (Finding W V) (Finding W V) (rel names level here wanted.Other first) _ (f-rel names level here wanted.Other first l r) (λ x p.
      f-bind W V (Finding W V) (Finding W V) (rel names level here wanted.Other second) _ (f-rel names level here wanted.Other second l r) (λ y q.
      f-bind W V (Finding W V) (Finding W V) (logical o at x y) _ (f-logical W V o at x y p q) (λ z s. f-conjoined names level here o z more l r s)))

  abbrev Condition : Option TypedPart → Type 0
  Condition = Maybe (ExprOf W V)

  f-short_operand : (names : Names) (level : Inside) (here : Context) (at : ℕ) (c : Rel) → LevelForms W level → Around W V here → Forms W V Condition (short_operand names level here at c)
  f-short_operand names level here at c l r =
      f-bind W V (Finding W V) Condition (rel names level here wanted.Other c) _ (f-rel names level here wanted.Other c l r) (λ x q.
      f-given W V (FoundOf W V) (ExprOf W V) x _ q (λ f s. f-if W V Condition (is_kind kind.Boolean (kind_of f.known)) (asked kind.Boolean f) (fault at WrongType) (f-asked W V kind.Boolean f s) (f-fault W V (ExprOf W V) at WrongType)))

  short-join : (all : Bool) (x y : TypedPart) → ExprOf W V x → ExprOf W V y → ExprOf W V (short_join all x y)
  short-join true x y g h = (g, h)
  short-join false x y g h = (g, h)

  f-short_operands : (names : Names) (level : Inside) (here : Context) (all : Bool) (x : Option TypedPart) (cs : Conjuncts) → LevelForms W level → Around W V here → Condition x → Forms W V Condition (short_operands names level here all x cs)
  f-short_operands names level here all x syntax.NoConjunct l r h = f-pure W V Condition x h
  f-short_operands names level here all x (syntax.AlsoConjunct (syntax.conjunct at c) cs) l r h =
      f-bind W V Condition Condition (short_operand names level here at c) _ (f-short_operand names level here at c l r) (λ y q.
      f-short_operands names level here all (joined (short_join all) x y) cs l r (joint (ExprOf W V) (ExprOf W V) (ExprOf W V) (short_join all) x y h q (short-join all)))

  f-short_form : (names : Names) (level : Inside) (here : Context) (all : Bool) (first : Rel) (at : ℕ) (second : Rel) (more : Conjuncts) → LevelForms W level → Around W V here → Forms W V (Finding W V) (short_form names level here all first at second more)
  f-short_form names level here all first at second more l r =
      f-bind W V Condition (Finding W V) (short_operand names level here at first) _ (f-short_operand names level here at first l r) (λ x p.
      f-bind W V Condition (Finding W V) (short_operands names level here all x (syntax.AlsoConjunct (syntax.conjunct at second) more)) _ (f-short_operands names level here all x (syntax.AlsoConjunct (syntax.conjunct at second) more) l r p) (λ z q.
      f-pure W V (Finding W V) (option_map (short_found (first_token.of_rel first)) z) (mapped (ExprOf W V) (FoundOf W V) (short_found (first_token.of_rel first)) z q (λ e s. s))))

  pub f-expr : (names : Names) (level : Inside) (here : Context) (want : Wanted) (x : Expr) → LevelForms W level → Around W V here → Forms W V (Finding W V) (expr names level here want x)
  unfolding expr
  f-expr names level here want (syntax.Single x) l r = f-rel names level here want x l r
  f-expr names level here want (syntax.Joined logical'.And first at second more) l r = f-joined_rels names level here op.And first at second more l r
  f-expr names level here want (syntax.Joined logical'.Or first at second more) l r = f-joined_rels names level here op.Or first at second more l r
  f-expr names level here want (syntax.Joined logical'.Xor first at second more) l r = f-joined_rels names level here op.Xor first at second more l r
  f-expr names level here want (syntax.Joined logical'.AndThen first at second more) l r = f-short_form names level here true first at second more l r
  f-expr names level here want (syntax.Joined logical'.OrElse first at second more) l r = f-short_form names level here false first at second more l r

  -- ---- expressions in a place

  pub f-condition : (names : Names) (level : Inside) (here : Context) (e : Expr) → LevelForms W level → Around W V here → Forms W V (Maybe (ExprOf W V)) (condition names level here e)
  unfolding condition
  f-condition names level here e l r = f-bind W V (Finding W V) Condition (expr names level here wanted.Other e) _ (f-expr names level here wanted.Other e l r) (λ x q. f-given W V (FoundOf W V) (ExprOf W V) x (asked kind.Boolean) q (λ f s. f-asked W V kind.Boolean f s))

  pub f-value_for : (names : Names) (level : Inside) (here : Context) (s : Subtype) (e : Expr) → LevelForms W level → Around W V here → Forms W V (Maybe (ValueOf W V s)) (value_for names level here s e)
  unfolding value_for
  f-value_for names level here s e l r =
      f-bind W V (Finding W V) (Maybe (ValueOf W V s)) (expr names level here (wanted_of s) e) _ (f-expr names level here (wanted_of s) e l r) (λ x q. f-given W V (FoundOf W V) (ValueOf W V s) x (stored s (first_token.of_expr e)) q (λ f p. f-stored W V s (first_token.of_expr e) f p))

  pub f-judged_alone : (names : Names) (level : Inside) (here : Context) (e : Expr) → LevelForms W level → Around W V here → Forms W V Any (judged_alone names level here e)
  unfolding judged_alone
  f-judged_alone names level here e l r = f-bind W V (Finding W V) Any (expr names level here wanted.Unknown e) _ (f-expr names level here wanted.Unknown e l r) (λ x q. f-pure W V Any tt tt)
