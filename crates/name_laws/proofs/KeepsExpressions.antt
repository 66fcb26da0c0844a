-- What holds of each line of the log holds of what Expressions judges.
use Rattle.ada_base.specs.declared.operation.Op.TheVariants as op
use Rattle.ada_base.specs.declared.operation.Op.{Op}
use Rattle.syntax_tree.specs.FirstTokens as first_token
use Rattle.name_rules.specs.Found.{Found}
use Rattle.name_rules.specs.Operators.{binary, joined_text, logical, negation, not_of, plain, unary}
use Rattle.name_rules.specs.Scope.{scalar_named}
use Rattle.name_rules.specs.Types.{wanted_of}
use Rattle.name_rules.specs.Values.{asked, is_kind, kind_of, stored}
use Rattle.name_rules.specs.declared.found.Found.TheVariants as known
use Rattle.name_rules.specs.declared.found.Found.{Found as Known}
use Rattle.name_rules.specs.declared.log.Rule.TheVariants.{WrongType}
use Rattle.name_rules.specs.declared.scope.Context.{Context}
use Rattle.name_rules.specs.declared.scope.Names.{Names}
use Rattle.name_rules.specs.declared.types.Kind.TheVariants as kind
use Rattle.name_rules.specs.declared.types.Subtype.{Subtype}
use Rattle.name_rules.specs.declared.types.Wanted.TheVariants as wanted
use Rattle.name_rules.specs.declared.types.Wanted.{Wanted}
use Rattle.syntax_tree.specs.Syntax as syntax
use Rattle.syntax_tree.specs.Syntax.{Adding, Addings, Conjuncts, Expr, Factor, Multiplying, Multiplyings, Rel, Simple, Term}
use Rattle.syntax_tree.specs.declared.operators.Additive.TheVariants as additive
use Rattle.syntax_tree.specs.declared.operators.Logical.TheVariants as logical'
use Rattle.syntax_tree.specs.declared.operators.Sign.TheVariants as sign
use Rattle.syntax_tree.specs.declared.operators.Sign.{Sign}
use Rattle.typed_tree.specs.declared.expressions.Sign.TheVariants as unary'
use Rattle.std.specs.Prelude.{Bool, None, Option, Some, false, if◌then◌else◌, is_some, true, ℕ}
use Rattle.typed_tree.specs.Decoded.{TypedPart}
use Rattle.name_rules.specs.Judging.{fault, given, joined, pure}
use Rattle.name_rules.specs.Expressions.{Inside, factor, multiplying_op, multiplying, multiplied, term_form, term, adding, added, first_wanted, first_term, in_place, simple, blamed, rel, conjoined, joined_rels, short_operand, short_join, short_operands, short_form, expr, condition, value_for, judged_alone}
use Rattle.name_laws.proofs.Walk.{Walk, Keeps, k-pure, k-some, k-bind, k-fault, k-if, k-given}
use Rattle.name_laws.proofs.Walked.{KeepsInside}
use Rattle.name_laws.proofs.KeepsOperators.{k-binary, k-compared, k-joined_text, k-logical, k-membership, k-not_of, k-of_subtype, k-plain, k-power, k-unary}
use Rattle.name_laws.proofs.KeepsScope.{k-scalar_named}
use Rattle.name_laws.proofs.KeepsValues.{k-asked, k-stored}

pub k-factor : (walk : Walk) (x0 : Inside) (x1 : Context) (x2 : Wanted) (x3 : Factor) → KeepsInside walk x0 → Keeps walk (factor x0 x1 x2 x3)
unfolding factor
k-factor walk level here want (syntax.Operand p) keeps1 = keeps1.primary here p want
k-factor walk level here want (syntax.Power b at e) keeps1 = record {
  at = λ log.
      let out1 = level.primary here b wanted.Other log in
      let x = out1.0 in
      let out2 = level.primary here e wanted.Other out1.1 in
      let y = out2.0 in
      walk.joins _ _ _ ((keeps1.primary here b wanted.Other).at log)
      (walk.joins _ _ _ ((keeps1.primary here e wanted.Other).at out1.1)
      ((k-power walk at x y).at out2.1));
}
k-factor walk level here want (syntax.Abs at p) keeps1 = k-bind walk (level.primary here p wanted.Other) (unary unary'.Abs at) (keeps1.primary here p wanted.Other) (λ z2. k-unary walk unary'.Abs at z2)
k-factor walk level here want (syntax.Not at p) keeps1 = k-bind walk (level.primary here p wanted.Other) (not_of at) (keeps1.primary here p wanted.Other) (λ z2. k-not_of walk at z2)

pub k-multiplying : (walk : Walk) (x0 : Inside) (x1 : Context) (x2 : Option Found) (x3 : Multiplying) → KeepsInside walk x0 → Keeps walk (multiplying x0 x1 x2 x3)
unfolding multiplying
k-multiplying walk level here x (syntax.multiplying by at f) keeps1 = k-bind walk (factor level here wanted.Other f) (binary (multiplying_op by) at x) (k-factor walk level here wanted.Other f keeps1) (λ z2. k-binary walk (multiplying_op by) at x z2)

pub k-multiplied : (walk : Walk) (x0 : Inside) (x1 : Context) (x2 : Option Found) (x3 : Multiplyings) → KeepsInside walk x0 → Keeps walk (multiplied x0 x1 x2 x3)
k-multiplied walk level here x syntax.NoMultiplying keeps1 = k-pure walk x
k-multiplied walk level here x (syntax.AlsoMultiplying m ms) keeps1 = k-bind walk (multiplying level here x m) (λ y. multiplied level here y ms) (k-multiplying walk level here x m keeps1) (λ y. k-multiplied walk level here y ms keeps1)

pub k-term_form : (walk : Walk) (x0 : Inside) (x1 : Context) (x2 : Wanted) (x3 : Factor) (x4 : Multiplyings) → KeepsInside walk x0 → Keeps walk (term_form x0 x1 x2 x3 x4)
k-term_form walk level here want f syntax.NoMultiplying keeps1 = k-factor walk level here want f keeps1
k-term_form walk level here want f ms keeps1 = k-bind walk (factor level here wanted.Other f) (λ x. multiplied level here x ms) (k-factor walk level here wanted.Other f keeps1) (λ x. k-multiplied walk level here x ms keeps1)

pub k-term : (walk : Walk) (x0 : Inside) (x1 : Context) (x2 : Wanted) (x3 : Term) → KeepsInside walk x0 → Keeps walk (term x0 x1 x2 x3)
unfolding term
k-term walk level here want (syntax.Product f ms) keeps1 = k-term_form walk level here want f ms keeps1

pub k-adding : (walk : Walk) (x0 : Inside) (x1 : Context) (x2 : Option Found) (x3 : Adding) → KeepsInside walk x0 → Keeps walk (adding x0 x1 x2 x3)
unfolding adding
k-adding walk level here x (syntax.adding additive.Plus at t) keeps1 = k-bind walk (term level here wanted.Other t) (binary op.Add at x) (k-term walk level here wanted.Other t keeps1) (λ z2. k-binary walk op.Add at x z2)
k-adding walk level here x (syntax.adding additive.Minus at t) keeps1 = k-bind walk (term level here wanted.Other t) (binary op.Sub at x) (k-term walk level here wanted.Other t keeps1) (λ z2. k-binary walk op.Sub at x z2)
k-adding walk level here x (syntax.adding additive.Joined at t) keeps1 = k-bind walk (term level here wanted.Text t) (joined_text at x) (k-term walk level here wanted.Text t keeps1) (λ z2. k-joined_text walk at x z2)

pub k-added : (walk : Walk) (x0 : Inside) (x1 : Context) (x2 : Option Found) (x3 : Addings) → KeepsInside walk x0 → Keeps walk (added x0 x1 x2 x3)
k-added walk level here x syntax.NoAdding keeps1 = k-pure walk x
k-added walk level here x (syntax.AlsoAdding a as') keeps1 = k-bind walk (adding level here x a) (λ y. added level here y as') (k-adding walk level here x a keeps1) (λ y. k-added walk level here y as' keeps1)

pub k-first_term : (walk : Walk) (x0 : Inside) (x1 : Context) (x2 : Wanted) (x3 : Option Sign) (x4 : Term) → KeepsInside walk x0 → Keeps walk (first_term x0 x1 x2 x3 x4)
k-first_term walk level here want None t keeps1 = k-term walk level here want t keeps1
k-first_term walk level here want (Some (sign.Plus at)) t keeps1 = k-bind walk (term level here wanted.Other t) (plain at) (k-term walk level here wanted.Other t keeps1) (λ z2. k-plain walk at z2)
k-first_term walk level here want (Some (sign.Minus at)) t keeps1 = k-bind walk (term level here wanted.Other t) (unary unary'.Minus at) (k-term walk level here wanted.Other t keeps1) (λ z2. k-unary walk unary'.Minus at z2)

pub k-in_place : (walk : Walk) (x0 : Wanted) (x1 : Known) (x2 : Found) → Keeps walk (in_place x0 x1 x2)
k-in_place walk wanted.Text k f = k-some walk f
k-in_place walk want (known.Text first) f = k-fault walk first WrongType
k-in_place walk want k f = k-some walk f

pub k-simple : (walk : Walk) (x0 : Inside) (x1 : Context) (x2 : Wanted) (x3 : Simple) → KeepsInside walk x0 → Keeps walk (simple x0 x1 x2 x3)
unfolding simple
k-simple walk level here want (syntax.Sum s t as') keeps1 = record {
  at = λ log.
      let out1 = first_term level here (first_wanted want as') s t log in
      let x = out1.0 in
      let out2 = added level here x as' out1.1 in
      let y = out2.0 in
      walk.joins _ _ _ ((k-first_term walk level here (first_wanted want as') s t keeps1).at log)
      (walk.joins _ _ _ ((k-added walk level here x as' keeps1).at out1.1)
      ((k-given walk y (λ f. in_place want f.known f) (λ f. k-in_place walk want f.known f)).at out2.1));
}

pub k-rel : (walk : Walk) (x0 : Names) (x1 : Inside) (x2 : Context) (x3 : Wanted) (x4 : Rel) → walk.Takes x0 → KeepsInside walk x1 → Keeps walk (rel x0 x1 x2 x3 x4)
unfolding rel
k-rel walk names level here want (syntax.Alone s) keeps1 keeps2 = k-simple walk level here want s keeps2
k-rel walk names level here want (syntax.Compared left c at right) keeps1 keeps2 = record {
  at = λ log.
      let out1 = simple level here wanted.Other left log in
      let x = out1.0 in
      let out2 = simple level here wanted.Other right out1.1 in
      let y = out2.0 in
      walk.joins _ _ _ ((k-simple walk level here wanted.Other left keeps2).at log)
      (walk.joins _ _ _ ((k-simple walk level here wanted.Other right keeps2).at out1.1)
      ((k-compared walk c at x y).at out2.1));
}
k-rel walk names level here want (syntax.Within value negation at low high) keeps1 keeps2 = record {
  at = λ log.
      let out1 = simple level here wanted.Other value log in
      let x = out1.0 in
      let out2 = simple level here wanted.Other low out1.1 in
      let l = out2.0 in
      let out3 = simple level here wanted.Other high out2.1 in
      let h = out3.0 in
      walk.joins _ _ _ ((k-simple walk level here wanted.Other value keeps2).at log)
      (walk.joins _ _ _ ((k-simple walk level here wanted.Other low keeps2).at out1.1)
      (walk.joins _ _ _ ((k-simple walk level here wanted.Other high keeps2).at out2.1)
      ((k-membership walk (blamed negation at) (is_some negation) x l h).at out3.1)));
}
k-rel walk names level here want (syntax.OfMark value negation at mark) keeps1 keeps2 = record {
  at = λ log.
      let out1 = simple level here wanted.Other value log in
      let x = out1.0 in
      let out2 = scalar_named names here mark out1.1 in
      let s = out2.0 in
      walk.joins _ _ _ ((k-simple walk level here wanted.Other value keeps2).at log)
      (walk.joins _ _ _ ((k-scalar_named walk names here mark keeps1).at out1.1)
      ((k-of_subtype walk (blamed negation at) (is_some negation) mark x s).at out2.1));
}

pub k-conjoined : (walk : Walk) (x0 : Names) (x1 : Inside) (x2 : Context) (x3 : Op) (x4 : Option Found) (x5 : Conjuncts) → walk.Takes x0 → KeepsInside walk x1 → Keeps walk (conjoined x0 x1 x2 x3 x4 x5)
k-conjoined walk names level here o x syntax.NoConjunct keeps1 keeps2 = k-pure walk x
k-conjoined walk names level here o x (syntax.AlsoConjunct (syntax.conjunct at r) cs) keeps1 keeps2 = record {
  at = λ log.
      let out1 = rel names level here wanted.Other r log in
      let y = out1.0 in
      let out2 = logical o at x y out1.1 in
      let z = out2.0 in
      walk.joins _ _ _ ((k-rel walk names level here wanted.Other r keeps1 keeps2).at log)
      (walk.joins _ _ _ ((k-logical walk o at x y).at out1.1)
      ((k-conjoined walk names level here o z cs keeps1 keeps2).at out2.1));
}

pub k-joined_rels : (walk : Walk) (x0 : Names) (x1 : Inside) (x2 : Context) (x3 : Op) (x4 : Rel) (x5 : ℕ) (x6 : Rel) (x7 : Conjuncts) → walk.Takes x0 → KeepsInside walk x1 → Keeps walk (joined_rels x0 x1 x2 x3 x4 x5 x6 x7)
k-joined_rels walk names level here o first at second more keeps1 keeps2 = record {
  at = λ log.
      let out1 = rel names level here wanted.Other first log in
      let x = out1.0 in
      let out2 = rel names level here wanted.Other second out1.1 in
      let y = out2.0 in
      let out3 = logical o at x y out2.1 in
      let z = out3.0 in
      walk.joins _ _ _ ((k-rel walk names level here wanted.Other first keeps1 keeps2).at log)
      (walk.joins _ _ _ ((k-rel walk names level here wanted.Other second keeps1 keeps2).at out1.1)
      (walk.joins _ _ _ ((k-logical walk o at x y).at out2.1)
      ((k-conjoined walk names level here o z more keeps1 keeps2).at out3.1)));
}

pub k-short_operand : (walk : Walk) (x0 : Names) (x1 : Inside) (x2 : Context) (x3 : ℕ) (x4 : Rel) → walk.Takes x0 → KeepsInside walk x1 → Keeps walk (short_operand x0 x1 x2 x3 x4)
k-short_operand walk names level here at r keeps1 keeps2 = k-bind walk (rel names level here wanted.Other r) (λ x. given x (λ f. if is_kind kind.Boolean (kind_of f.known) then asked kind.Boolean f else fault at WrongType)) (k-rel walk names level here wanted.Other r keeps1 keeps2) (λ x. k-given walk x (λ f. if is_kind kind.Boolean (kind_of f.known) then asked kind.Boolean f else fault at WrongType) (λ f. k-if walk (is_kind kind.Boolean (kind_of f.known)) (asked kind.Boolean f) (fault at WrongType) (k-asked walk kind.Boolean f) (k-fault walk at WrongType)))

pub k-short_operands : (walk : Walk) (x0 : Names) (x1 : Inside) (x2 : Context) (x3 : Bool) (x4 : Option TypedPart) (x5 : Conjuncts) → walk.Takes x0 → KeepsInside walk x1 → Keeps walk (short_operands x0 x1 x2 x3 x4 x5)
k-short_operands walk names level here all x syntax.NoConjunct keeps1 keeps2 = k-pure walk x
k-short_operands walk names level here all x (syntax.AlsoConjunct (syntax.conjunct at r) cs) keeps1 keeps2 = k-bind walk ((short_operand names level here at r)) (λ y. short_operands names level here all (joined (short_join all) x y) cs) (k-short_operand walk names level here at r keeps1 keeps2) (λ y. k-short_operands walk names level here all (joined (short_join all) x y) cs keeps1 keeps2)

pub k-short_form : (walk : Walk) (x0 : Names) (x1 : Inside) (x2 : Context) (x3 : Bool) (x4 : Rel) (x5 : ℕ) (x6 : Rel) (x7 : Conjuncts) → walk.Takes x0 → KeepsInside walk x1 → Keeps walk (short_form x0 x1 x2 x3 x4 x5 x6 x7)
k-short_form walk names level here all first at second more keeps1 keeps2 = record {
  at = λ log.
      let out1 = short_operand names level here at first log in
      let x = out1.0 in
      walk.joins _ _ _ ((k-short_operand walk names level here at first keeps1 keeps2).at log)
      ((k-short_operands walk names level here all x (syntax.AlsoConjunct (syntax.conjunct at second) more) keeps1 keeps2).at out1.1);
}

pub k-expr : (walk : Walk) (x0 : Names) (x1 : Inside) (x2 : Context) (x3 : Wanted) (x4 : Expr) → walk.Takes x0 → KeepsInside walk x1 → Keeps walk (expr x0 x1 x2 x3 x4)
unfolding expr
k-expr walk names level here want (syntax.Single r) keeps1 keeps2 = k-rel walk names level here want r keeps1 keeps2
k-expr walk names level here want (syntax.Joined logical'.And first at second more) keeps1 keeps2 = k-joined_rels walk names level here op.And first at second more keeps1 keeps2
k-expr walk names level here want (syntax.Joined logical'.Or first at second more) keeps1 keeps2 = k-joined_rels walk names level here op.Or first at second more keeps1 keeps2
k-expr walk names level here want (syntax.Joined logical'.Xor first at second more) keeps1 keeps2 = k-joined_rels walk names level here op.Xor first at second more keeps1 keeps2
k-expr walk names level here want (syntax.Joined logical'.AndThen first at second more) keeps1 keeps2 = k-short_form walk names level here true first at second more keeps1 keeps2
k-expr walk names level here want (syntax.Joined logical'.OrElse first at second more) keeps1 keeps2 = k-short_form walk names level here false first at second more keeps1 keeps2

pub k-condition : (walk : Walk) (x0 : Names) (x1 : Inside) (x2 : Context) (x3 : Expr) → walk.Takes x0 → KeepsInside walk x1 → Keeps walk (condition x0 x1 x2 x3)
unfolding condition
k-condition walk names level here e keeps1 keeps2 = k-bind walk (expr names level here wanted.Other e) (λ x. given x (asked kind.Boolean)) (k-expr walk names level here wanted.Other e keeps1 keeps2) (λ x. k-given walk x (asked kind.Boolean) (λ z1. k-asked walk kind.Boolean z1))

pub k-value_for : (walk : Walk) (x0 : Names) (x1 : Inside) (x2 : Context) (x3 : Subtype) (x4 : Expr) → walk.Takes x0 → KeepsInside walk x1 → Keeps walk (value_for x0 x1 x2 x3 x4)
unfolding value_for
k-value_for walk names level here s e keeps1 keeps2 = k-bind walk (expr names level here (wanted_of s) e) (λ x. given x (stored s (first_token.of_expr e))) (k-expr walk names level here (wanted_of s) e keeps1 keeps2) (λ x. k-given walk x (stored s (first_token.of_expr e)) (λ z1. k-stored walk s (first_token.of_expr e) z1))

pub k-judged_alone : (walk : Walk) (x0 : Names) (x1 : Inside) (x2 : Context) (x3 : Expr) → walk.Takes x0 → KeepsInside walk x1 → Keeps walk (judged_alone x0 x1 x2 x3)
unfolding judged_alone
k-judged_alone walk names level here e keeps1 keeps2 = k-bind walk (expr names level here wanted.Unknown e) (λ x. pure tt) (k-expr walk names level here wanted.Unknown e keeps1 keeps2) (λ x. k-pure walk tt)
