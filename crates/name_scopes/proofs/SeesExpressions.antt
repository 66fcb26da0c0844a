-- What is found is in scope: what operators join, where what primaries and names are found to be fits.
use Rattle.std.proofs.Common.{◌≡◌, sym, true≢false, ℕ, Option, Some, None, Bool, true, false, option_map}
use Rattle.std.specs.Prelude.{is_some}
use Rattle.ada_base.specs.declared.operation.Op.TheVariants as op
use Rattle.ada_base.specs.declared.operation.Op.{Op}
use Rattle.syntax_tree.specs.FirstTokens as first_token
use Rattle.syntax_tree.specs.Syntax as syntax
use Rattle.syntax_tree.specs.Syntax.{Adding, Addings, Conjuncts, Expr, Factor, Multiplying, Multiplyings, Rel, Simple, Term}
use Rattle.syntax_tree.specs.declared.operators.Additive.TheVariants as additive
use Rattle.syntax_tree.specs.declared.operators.Logical.TheVariants as logical'
use Rattle.syntax_tree.specs.declared.operators.Sign.{Sign as Signed}
use Rattle.syntax_tree.specs.declared.operators.Sign.TheVariants as sign
use Rattle.typed_tree.specs.Decoded.{TypedPart}
use Rattle.typed_tree.specs.declared.expressions.Sign.TheVariants as unary'
use Rattle.name_rules.specs.Expressions.{Inside, added, adding, blamed, condition, conjoined, expr, factor, first_term, first_wanted, in_place, joined_rels, judged_alone, multiplied, multiplying, multiplying_op, rel, short_form, short_found, short_join, short_operand, short_operands, simple, term, value_for}
use Rattle.name_rules.specs.Found.{Found}
use Rattle.name_rules.specs.Judging.{fault, given, joined}
use Rattle.name_rules.specs.Operators.{binary, joined_text, logical, not_of, plain, unary}
use Rattle.name_rules.specs.Scope.{scalar_named}
use Rattle.name_rules.specs.Types.{wanted_of}
use Rattle.name_rules.specs.Values.{asked, is_kind, kind_of, stored}
use Rattle.name_rules.specs.declared.found.Found.TheVariants as known
use Rattle.name_rules.specs.declared.found.Found.{Found as Known}
use Rattle.name_rules.specs.declared.log.Rule.TheVariants.{WrongType}
use Rattle.name_rules.specs.declared.scope.Context.{Context}
use Rattle.name_rules.specs.declared.scope.Names.{Names}
use Rattle.name_rules.specs.declared.types.Kind.TheVariants as kind
use Rattle.name_rules.specs.declared.types.Subtype.{Subtype}
use Rattle.name_rules.specs.declared.types.Wanted.TheVariants as wanted
use Rattle.name_rules.specs.declared.types.Wanted.{Wanted}
use Rattle.name_rules.specs.Shapes.{is_aggregate, primary_of_expr, primary_of_simple}
use Rattle.name_scopes.proofs.Sees.{Any, Sees, Maybe, Sight, World, v-bind, v-fault, v-given, v-if, v-pure, v-some, joint, mapped}
use Rattle.name_scopes.proofs.SeesFound.{Around, ExprOf, Finding, FoundOf, LevelSees, RestOf, ValueOf}
use Rattle.name_scopes.proofs.SeesOperators.{v-binary, v-compared, v-joined_text, v-logical, v-membership, v-not_of, v-of_subtype, v-plain, v-power, v-unary}
use Rattle.name_scopes.proofs.SeesScope.{v-scalar_named}
use Rattle.name_scopes.proofs.SeesValues.{v-asked, v-stored}

module _ (W : World) (V : Sight) where
  -- ---- factors, terms and sums

  v-factor : (level : Inside) (here : Context) (want : Wanted) (x : Factor) → LevelSees W level → Around W V here → Sees W V (Finding W V) (factor level here want x)
  unfolding factor
  v-factor level here want (syntax.Operand p) l r = l.primary V here p want r
  v-factor level here want (syntax.Power b at e) l r =
      v-bind W V (Finding W V) (Finding W V) (level.primary here b wanted.Other) _ (l.primary V here b wanted.Other r) (λ x q. v-bind W V (Finding W V) (Finding W V) (level.primary here e wanted.Other) _ (l.primary V here e wanted.Other r) (λ y s. v-power W V at x y q s))
  v-factor level here want (syntax.Abs at p) l r = v-bind W V (Finding W V) (Finding W V) (level.primary here p wanted.Other) (unary unary'.Abs at) (l.primary V here p wanted.Other r) (λ x q. v-unary W V unary'.Abs at x q)
  v-factor level here want (syntax.Not at p) l r = v-bind W V (Finding W V) (Finding W V) (level.primary here p wanted.Other) (not_of at) (l.primary V here p wanted.Other r) (λ x q. v-not_of W V at x q)

  v-multiplying : (level : Inside) (here : Context) (x : Option Found) (m : Multiplying) → LevelSees W level → Around W V here → (Finding W V) x → Sees W V (Finding W V) (multiplying level here x m)
  unfolding multiplying
  v-multiplying level here x (syntax.multiplying by at f) l r q = v-bind W V (Finding W V) (Finding W V) (factor level here wanted.Other f) (binary (multiplying_op by) at x) (v-factor level here wanted.Other f l r) (λ y s. v-binary W V (multiplying_op by) at x y q s)

  v-multiplied : (level : Inside) (here : Context) (x : Option Found) (ms : Multiplyings) → LevelSees W level → Around W V here → (Finding W V) x → Sees W V (Finding W V) (multiplied level here x ms)
  v-multiplied level here x syntax.NoMultiplying l r q = v-pure W V (Finding W V) x q
  v-multiplied level here x (syntax.AlsoMultiplying m ms) l r q = v-bind W V (Finding W V) (Finding W V) (multiplying level here x m) _ (v-multiplying level here x m l r q) (λ y s. v-multiplied level here y ms l r s)

  v-term : (level : Inside) (here : Context) (want : Wanted) (x : Term) → LevelSees W level → Around W V here → Sees W V (Finding W V) (term level here want x)
  unfolding term
  v-term level here want (syntax.Product f syntax.NoMultiplying) l r = v-factor level here want f l r
  v-term level here want (syntax.Product f (syntax.AlsoMultiplying m ms)) l r =
      v-bind W V (Finding W V) (Finding W V) (factor level here wanted.Other f) (λ x. multiplied level here x (syntax.AlsoMultiplying m ms)) (v-factor level here wanted.Other f l r) (λ x q. v-multiplied level here x (syntax.AlsoMultiplying m ms) l r q)

  v-adding : (level : Inside) (here : Context) (x : Option Found) (a : Adding) → LevelSees W level → Around W V here → (Finding W V) x → Sees W V (Finding W V) (adding level here x a)
  unfolding adding
  v-adding level here x (syntax.adding additive.Plus at t) l r q = v-bind W V (Finding W V) (Finding W V) (term level here wanted.Other t) (binary op.Add at x) (v-term level here wanted.Other t l r) (λ y s. v-binary W V op.Add at x y q s)
  v-adding level here x (syntax.adding additive.Minus at t) l r q = v-bind W V (Finding W V) (Finding W V) (term level here wanted.Other t) (binary op.Sub at x) (v-term level here wanted.Other t l r) (λ y s. v-binary W V op.Sub at x y q s)
  v-adding level here x (syntax.adding additive.Joined at t) l r q = v-bind W V (Finding W V) (Finding W V) (term level here wanted.Text t) (joined_text at x) (v-term level here wanted.Text t l r) (λ y s. v-joined_text W V at x y q s)

  v-added : (level : Inside) (here : Context) (x : Option Found) (as' : Addings) → LevelSees W level → Around W V here → (Finding W V) x → Sees W V (Finding W V) (added level here x as')
  v-added level here x syntax.NoAdding l r q = v-pure W V (Finding W V) x q
  v-added level here x (syntax.AlsoAdding a as') l r q = v-bind W V (Finding W V) (Finding W V) (adding level here x a) _ (v-adding level here x a l r q) (λ y s. v-added level here y as' l r s)

  v-first_term : (level : Inside) (here : Context) (want : Wanted) (s : Option Signed) (t : Term) → LevelSees W level → Around W V here → Sees W V (Finding W V) (first_term level here want s t)
  v-first_term level here want None t l r = v-term level here want t l r
  v-first_term level here want (Some (sign.Plus at)) t l r = v-bind W V (Finding W V) (Finding W V) (term level here wanted.Other t) (plain at) (v-term level here wanted.Other t l r) (λ x q. v-plain W V at x q)
  v-first_term level here want (Some (sign.Minus at)) t l r = v-bind W V (Finding W V) (Finding W V) (term level here wanted.Other t) (unary unary'.Minus at) (v-term level here wanted.Other t l r) (λ x q. v-unary W V unary'.Minus at x q)

  v-in_place : (want : Wanted) (k : Known) (f : Found) → FoundOf W V f → Sees W V (Finding W V) (in_place want k f)
  v-in_place wanted.Text k f h = v-some W V (FoundOf W V) f h
  v-in_place want (known.Text first) f h = v-fault W V (FoundOf W V) first WrongType
  v-in_place want k f h = v-some W V (FoundOf W V) f h

  pub v-placed : (want : Wanted) (x : Option Found) → (Finding W V) x → Sees W V (Finding W V) (given x (λ f. in_place want f.known f))
  v-placed want x h = v-given W V (FoundOf W V) (FoundOf W V) x _ h (λ f q. v-in_place want f.known f q)

  pub v-simple : (level : Inside) (here : Context) (want : Wanted) (x : Simple) → LevelSees W level → Around W V here → Sees W V (Finding W V) (simple level here want x)
  unfolding simple
  v-simple level here want (syntax.Sum s t as') l r =
      v-bind W V (Finding W V) (Finding W V) (first_term level here (first_wanted want as') s t) _ (v-first_term level here (first_wanted want as') s t l r) (λ x q.
      v-bind W V (Finding W V) (Finding W V) (added level here x as') _ (v-added level here x as' l r q) (λ y s. v-placed want y s))

  -- ---- relations and logical operators

  v-rel : (names : Names) (level : Inside) (here : Context) (want : Wanted) (x : Rel) → LevelSees W level → Around W V here → Sees W V (Finding W V) (rel names level here want x)
  unfolding rel
  v-rel names level here want (syntax.Alone s) l r = v-simple level here want s l r
  v-rel names level here want (syntax.Compared left c at right) l r =
      v-bind W V (Finding W V) (Finding W V) (simple level here wanted.Other left) _ (v-simple level here wanted.Other left l r) (λ x p.
      v-bind W V (Finding W V) (Finding W V) (simple level here wanted.Other right) _ (v-simple level here wanted.Other right l r) (λ y q. v-compared W V c at x y p q))
  v-rel names level here want (syntax.Within value negation at low high) l r =
      v-bind W V (Finding W V) (Finding W V) (simple level here wanted.Other value) _ (v-simple level here wanted.Other value l r) (λ x p.
      v-bind W V (Finding W V) (Finding W V) (simple level here wanted.Other low) _ (v-simple level here wanted.Other low l r) (λ y q.
      v-bind W V (Finding W V) (Finding W V) (simple level here wanted.Other high) _ (v-simple level here wanted.Other high l r) (λ z s. v-membership W V (blamed negation at) (is_some negation) x y z p q s)))
  v-rel names level here want (syntax.OfMark value negation at mark) l r =
      v-bind W V (Finding W V) (Finding W V) (simple level here wanted.Other value) _ (v-simple level here wanted.Other value l r) (λ x p.
      v-bind W V (Maybe Any) (Finding W V) (scalar_named names here mark) _ (v-scalar_named W V names here mark r) (λ s q. v-of_subtype W V (blamed negation at) (is_some negation) mark x s p))

  v-conjoined : (names : Names) (level : Inside) (here : Context) (o : Op) (x : Option Found) (cs : Conjuncts) → LevelSees W level → Around W V here → (Finding W V) x → Sees W V (Finding W V) (conjoined names level here o x cs)
  v-conjoined names level here o x syntax.NoConjunct l r h = v-pure W V (Finding W V) x h
  v-conjoined names level here o x (syntax.AlsoConjunct (syntax.conjunct at c) cs) l r h =
      v-bind W V (Finding W V) (Finding W V) (rel names level here wanted.Other c) _ (v-rel names level here wanted.Other c l r) (λ y q.
      v-bind W V (Finding W V) (Finding W V) (logical o at x y) _ (v-logical W V o at x y h q) (λ z s. v-conjoined names level here o z cs l r s))

  v-joined_rels : (names : Names) (level : Inside) (here : Context) (o : Op) (first : Rel) (at : ℕ) (second : Rel) (more : Conjuncts) → LevelSees W level → Around W V here → Sees W V (Finding W V) (joined_rels names level here o first at second more)
  v-joined_rels names level here o first at second more l r =
      v-bind W V (Finding W V) (Finding W V) (rel names level here wanted.Other first) _ (v-rel names level here wanted.Other first l r) (λ x p.
      v-bind W V (Finding W V) (Finding W V) (rel names level here wanted.Other second) _ (v-rel names level here wanted.Other second l r) (λ y q.
      v-bind W V (Finding W V) (Finding W V) (logical o at x y) _ (v-logical W V o at x y p q) (λ z s. v-conjoined names level here o z more l r s)))

  abbrev Condition : Option TypedPart → Type 0
  Condition = Maybe (ExprOf W V)

  v-short_operand : (names : Names) (level : Inside) (here : Context) (at : ℕ) (c : Rel) → LevelSees W level → Around W V here → Sees W V Condition (short_operand names level here at c)
  v-short_operand names level here at c l r =
      v-bind W V (Finding W V) Condition (rel names level here wanted.Other c) _ (v-rel names level here wanted.Other c l r) (λ x q.
      v-given W V (FoundOf W V) (ExprOf W V) x _ q (λ f s. v-if W V Condition (is_kind kind.Boolean (kind_of f.known)) (asked kind.Boolean f) (fault at WrongType) (v-asked W V kind.Boolean f s) (v-fault W V (ExprOf W V) at WrongType)))

  short-join : (all : Bool) (x y : TypedPart) → ExprOf W V x → ExprOf W V y → ExprOf W V (short_join all x y)
  short-join true x y g h = (g, h)
  short-join false x y g h = (g, h)

  v-short_operands : (names : Names) (level : Inside) (here : Context) (all : Bool) (x : Option TypedPart) (cs : Conjuncts) → LevelSees W level → Around W V here → Condition x → Sees W V Condition (short_operands names level here all x cs)
  v-short_operands names level here all x syntax.NoConjunct l r h = v-pure W V Condition x h
  v-short_operands names level here all x (syntax.AlsoConjunct (syntax.conjunct at c) cs) l r h =
      v-bind W V Condition Condition (short_operand names level here at c) _ (v-short_operand names level here at c l r) (λ y q.
      v-short_operands names level here all (joined (short_join all) x y) cs l r (joint (ExprOf W V) (ExprOf W V) (ExprOf W V) (short_join all) x y h q (short-join all)))

  v-short_form : (names : Names) (level : Inside) (here : Context) (all : Bool) (first : Rel) (at : ℕ) (second : Rel) (more : Conjuncts) → LevelSees W level → Around W V here → Sees W V (Finding W V) (short_form names level here all first at second more)
  v-short_form names level here all first at second more l r =
      v-bind W V Condition (Finding W V) (short_operand names level here at first) _ (v-short_operand names level here at first l r) (λ x p.
      v-bind W V Condition (Finding W V) (short_operands names level here all x (syntax.AlsoConjunct (syntax.conjunct at second) more)) _ (v-short_operands names level here all x (syntax.AlsoConjunct (syntax.conjunct at second) more) l r p) (λ z q.
      v-pure W V (Finding W V) (option_map (short_found (first_token.of_rel first)) z) (mapped (ExprOf W V) (FoundOf W V) (short_found (first_token.of_rel first)) z q (λ e s. s))))

  pub v-expr : (names : Names) (level : Inside) (here : Context) (want : Wanted) (x : Expr) → LevelSees W level → Around W V here → Sees W V (Finding W V) (expr names level here want x)
  unfolding expr
  v-expr names level here want (syntax.Single x) l r = v-rel names level here want x l r
  v-expr names level here want (syntax.Joined logical'.And first at second more) l r = v-joined_rels names level here op.And first at second more l r
  v-expr names level here want (syntax.Joined logical'.Or first at second more) l r = v-joined_rels names level here op.Or first at second more l r
  v-expr names level here want (syntax.Joined logical'.Xor first at second more) l r = v-joined_rels names level here op.Xor first at second more l r
  v-expr names level here want (syntax.Joined logical'.AndThen first at second more) l r = v-short_form names level here true first at second more l r
  v-expr names level here want (syntax.Joined logical'.OrElse first at second more) l r = v-short_form names level here false first at second more l r

  -- ---- expressions in a place

  pub v-condition : (names : Names) (level : Inside) (here : Context) (e : Expr) → LevelSees W level → Around W V here → Sees W V (Maybe (ExprOf W V)) (condition names level here e)
  unfolding condition
  v-condition names level here e l r = v-bind W V (Finding W V) Condition (expr names level here wanted.Other e) _ (v-expr names level here wanted.Other e l r) (λ x q. v-given W V (FoundOf W V) (ExprOf W V) x (asked kind.Boolean) q (λ f s. v-asked W V kind.Boolean f s))

  pub v-value_for : (names : Names) (level : Inside) (here : Context) (s : Subtype) (e : Expr) → LevelSees W level → Around W V here → Sees W V (Maybe (ValueOf W V s)) (value_for names level here s e)
  unfolding value_for
  v-value_for names level here s e l r =
      v-bind W V (Finding W V) (Maybe (ValueOf W V s)) (expr names level here (wanted_of s) e) _ (v-expr names level here (wanted_of s) e l r) (λ x q. v-given W V (FoundOf W V) (ValueOf W V s) x (stored s (first_token.of_expr e)) q (λ f p. v-stored W V s (first_token.of_expr e) f p))

  pub v-judged_alone : (names : Names) (level : Inside) (here : Context) (e : Expr) → LevelSees W level → Around W V here → Sees W V Any (judged_alone names level here e)
  unfolding judged_alone
  v-judged_alone names level here e l r = v-bind W V (Finding W V) Any (expr names level here wanted.Unknown e) _ (v-expr names level here wanted.Unknown e l r) (λ x q. v-pure W V Any tt tt)

  -- ---- an aggregate where one of the dimensions behind must stand

  v-rest_placed : (n i : ℕ) (k : Known) (f : Found) → RestOf W V n i f → Sees W V (Maybe (RestOf W V n i)) (in_place (wanted.Rest n i) k f)
  v-rest_placed n i (known.Text first) f h = v-fault W V (RestOf W V n i) first WrongType
  v-rest_placed n i k f h = v-some W V (RestOf W V n i) f h

  pub v-rest : (names : Names) (level : Inside) (here : Context) (n i : ℕ) (x : Expr) → LevelSees W level → Around W V here → is_aggregate x ≡ true → Sees W V (Maybe (RestOf W V n i)) (expr names level here (wanted.Rest n i) x)
  unfolding expr rel simple term factor primary_of_expr primary_of_simple
  v-rest names level here n i (syntax.Single (syntax.Alone (syntax.Sum None (syntax.Product (syntax.Operand p) syntax.NoMultiplying) syntax.NoAdding))) l r h =
      v-bind W V (Maybe (RestOf W V n i)) (Maybe (RestOf W V n i)) (level.primary here p (wanted.Rest n i)) _ (l.rest V here p n i r h) (λ x q.
      v-bind W V (Maybe (RestOf W V n i)) (Maybe (RestOf W V n i)) (added level here x syntax.NoAdding) _ (v-pure W V (Maybe (RestOf W V n i)) x q) (λ y s.
      v-given W V (RestOf W V n i) (RestOf W V n i) y (λ f. in_place (wanted.Rest n i) f.known f) s (λ f t. v-rest_placed n i f.known f t)))
  v-rest names level here n i (syntax.Single (syntax.Alone (syntax.Sum None (syntax.Product (syntax.Operand p) syntax.NoMultiplying) (syntax.AlsoAdding a as')))) l r h = absurd (true≢false (sym h))
  v-rest names level here n i (syntax.Single (syntax.Alone (syntax.Sum None (syntax.Product (syntax.Operand p) (syntax.AlsoMultiplying m ms)) as'))) l r h = absurd (true≢false (sym h))
  v-rest names level here n i (syntax.Single (syntax.Alone (syntax.Sum None (syntax.Product (syntax.Power b at e) ms) as'))) l r h = absurd (true≢false (sym h))
  v-rest names level here n i (syntax.Single (syntax.Alone (syntax.Sum None (syntax.Product (syntax.Abs at p) ms) as'))) l r h = absurd (true≢false (sym h))
  v-rest names level here n i (syntax.Single (syntax.Alone (syntax.Sum None (syntax.Product (syntax.Not at p) ms) as'))) l r h = absurd (true≢false (sym h))
  v-rest names level here n i (syntax.Single (syntax.Alone (syntax.Sum (Some sign) t as'))) l r h = absurd (true≢false (sym h))
  v-rest names level here n i (syntax.Single (syntax.Compared left c at right)) l r h = absurd (true≢false (sym h))
  v-rest names level here n i (syntax.Single (syntax.Within value negation at low high)) l r h = absurd (true≢false (sym h))
  v-rest names level here n i (syntax.Single (syntax.OfMark value negation at mark)) l r h = absurd (true≢false (sym h))
  v-rest names level here n i (syntax.Joined o first at second more) l r h = absurd (true≢false (sym h))
