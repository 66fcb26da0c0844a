-- Judging that is counted: expressions.
use Rattle.ada_base.specs.declared.operation.Op.TheVariants as op
use Rattle.ada_base.specs.declared.operation.Op.{Op}
use Rattle.syntax_tree.specs.FirstTokens as first_token
use Rattle.name_rules.specs.Found.{Found}
use Rattle.name_rules.specs.Judging.{fault, joined}
use Rattle.name_rules.specs.Operators.{logical, negation}
use Rattle.name_rules.specs.Scope.{scalar_named}
use Rattle.name_rules.specs.Types.{wanted_of}
use Rattle.name_rules.specs.Values.{asked, is_kind, kind_of}
use Rattle.name_rules.specs.declared.found.Found.TheVariants as known
use Rattle.name_rules.specs.declared.found.Found.{Found as Known}
use Rattle.name_rules.specs.declared.log.Rule.TheVariants.{WrongType}
use Rattle.name_rules.specs.declared.scope.Context.{Context}
use Rattle.name_rules.specs.declared.scope.Names.{Names}
use Rattle.name_rules.specs.declared.types.Kind.TheVariants as kind
use Rattle.name_rules.specs.declared.types.Subtype.{Subtype}
use Rattle.name_rules.specs.declared.types.Wanted.TheVariants as wanted
use Rattle.name_rules.specs.declared.types.Wanted.{Wanted}
use Rattle.syntax_tree.specs.Syntax as syntax
use Rattle.syntax_tree.specs.Syntax.{Adding, Addings, Conjuncts, Expr, Factor, Multiplying, Multiplyings, Rel, Simple, Term}
use Rattle.syntax_tree.specs.declared.operators.Additive.TheVariants as additive
use Rattle.syntax_tree.specs.declared.operators.Logical.TheVariants as logical'
use Rattle.syntax_tree.specs.declared.operators.Sign.TheVariants as sign
use Rattle.syntax_tree.specs.declared.operators.Sign.{Sign}
use Rattle.typed_tree.specs.Syntax.{Expr as TypedExpr}
use Rattle.typed_tree.specs.declared.expressions.Sign.TheVariants as unary'
use Rattle.std.specs.Prelude.{Bool, None, Option, Some, false, is_some, option_map, true, ℕ, ◌+◌}
use Rattle.typed_tree.specs.Decoded.{TypedPart, as_expr}
use Rattle.name_rules.specs.Expressions.{Inside, added, adding, blamed, condition, conjoined, expr, factor, first_term, first_wanted, in_place, joined_rels, multiplied, multiplying, multiplying_op, rel, short_by, short_form, short_found, short_join, short_operand, short_operands, simple, term, term_form, value_for}
use Rattle.std.proofs.Common.{arith}
use Rattle.name_laws.proofs.KeepsScope.{k-scalar_named}
use Rattle.name_scopes.proofs.SpendsOperators.{s-binary, s-compared, s-joined_text, s-logical, s-membership, s-not_of, s-of_subtype, s-plain, s-power, s-unary}
use Rattle.name_scopes.proofs.SpendsValues.{s-asked, s-stored}
use Rattle.name_scopes.proofs.Leaving.{leaving}
use Rattle.name_scopes.proofs.Measures.{counted-by, maybe-known, maybe-part, part-measure, part-size, with-part}
use Rattle.name_scopes.proofs.Parts.{n-expr}
use Rattle.name_scopes.proofs.Records.{SpendsInside}
use Rattle.name_scopes.proofs.Spends.{Holds, Spends, h-joined, h-map, s-bind, s-fault, s-given, s-if, s-le, s-pure, s-some, s-then}
use Rattle.name_scopes.proofs.Tallies.{Tally, in_expr}

pub s-factor : (which : Tally) (x0 : Inside) (x1 : Context) (x2 : Wanted) (x3 : Factor) → SpendsInside which x0 → Spends which (maybe-known which) 0 (factor x0 x1 x2 x3)
unfolding factor
s-factor which level here want (syntax.Operand p) h0 = s-le which (maybe-known which) 0 _ _ (h0.primary here p want) (omega arith)
s-factor which level here want (syntax.Power b at e) h0 =
    s-bind which (maybe-known which) (maybe-known which) 0 0 _ (level.primary here b wanted.Other) _ (s-le which (maybe-known which) 0 _ _ (h0.primary here b wanted.Other) (omega arith)) (omega arith) (λ x held1.
    s-bind which (maybe-known which) (maybe-known which) 0 ((maybe-known which).size x) _ (level.primary here e wanted.Other) _ (s-le which (maybe-known which) 0 _ _ (h0.primary here e wanted.Other) (omega arith)) (omega arith) (λ y held2.
    s-le which (maybe-known which) _ _ _ (s-power which at x y held1 held2) (omega arith)))
s-factor which level here want (syntax.Abs at p) h0 =
    s-bind which (maybe-known which) (maybe-known which) 0 0 _ (level.primary here p wanted.Other) _ (s-le which (maybe-known which) 0 _ _ (h0.primary here p wanted.Other) (omega arith)) (omega arith) (λ out held1.
    s-le which (maybe-known which) _ _ _ (s-unary which unary'.Abs at out held1) (omega arith))
s-factor which level here want (syntax.Not at p) h0 =
    s-bind which (maybe-known which) (maybe-known which) 0 0 _ (level.primary here p wanted.Other) _ (s-le which (maybe-known which) 0 _ _ (h0.primary here p wanted.Other) (omega arith)) (omega arith) (λ out held1.
    s-le which (maybe-known which) _ _ _ (s-not_of which at out held1) (omega arith))

pub s-multiplying : (which : Tally) (x0 : Inside) (x1 : Context) (x2 : Option Found) (x3 : Multiplying) → SpendsInside which x0 → (maybe-known which).Whole x2 → Spends which (maybe-known which) ((maybe-known which).size x2) (multiplying x0 x1 x2 x3)
unfolding multiplying
s-multiplying which level here x (syntax.multiplying by at f) h0 h2 =
    s-bind which (maybe-known which) (maybe-known which) 0 ((maybe-known which).size x) _ (factor level here wanted.Other f) _ (s-le which (maybe-known which) _ _ _ (s-factor which level here wanted.Other f h0) (omega arith)) (omega arith) (λ out held1.
    s-le which (maybe-known which) _ _ _ (s-binary which (multiplying_op by) at x out h2 held1) (omega arith))

pub s-multiplied : (which : Tally) (x0 : Inside) (x1 : Context) (x2 : Option Found) (x3 : Multiplyings) → SpendsInside which x0 → (maybe-known which).Whole x2 → Spends which (maybe-known which) ((maybe-known which).size x2) (multiplied x0 x1 x2 x3)
s-multiplied which level here x syntax.NoMultiplying h0 h2 = s-pure which (maybe-known which) _ x (h2, omega arith)
s-multiplied which level here x (syntax.AlsoMultiplying m ms) h0 h2 =
    s-bind which (maybe-known which) (maybe-known which) ((maybe-known which).size x) 0 _ (multiplying level here x m) _ (s-le which (maybe-known which) _ _ _ (s-multiplying which level here x m h0 h2) (omega arith)) (omega arith) (λ y held1.
    s-le which (maybe-known which) _ _ _ (s-multiplied which level here y ms h0 held1) (omega arith))

pub s-term_form : (which : Tally) (x0 : Inside) (x1 : Context) (x2 : Wanted) (x3 : Factor) (x4 : Multiplyings) → SpendsInside which x0 → Spends which (maybe-known which) 0 (term_form x0 x1 x2 x3 x4)
s-term_form which level here want f syntax.NoMultiplying h0 = s-le which (maybe-known which) _ _ _ (s-factor which level here want f h0) (omega arith)
s-term_form which level here want f ms h0 =
    s-bind which (maybe-known which) (maybe-known which) 0 0 _ (factor level here wanted.Other f) _ (s-le which (maybe-known which) _ _ _ (s-factor which level here wanted.Other f h0) (omega arith)) (omega arith) (λ x held1.
    s-le which (maybe-known which) _ _ _ (s-multiplied which level here x ms h0 held1) (omega arith))

pub s-term : (which : Tally) (x0 : Inside) (x1 : Context) (x2 : Wanted) (x3 : Term) → SpendsInside which x0 → Spends which (maybe-known which) 0 (term x0 x1 x2 x3)
unfolding term
s-term which level here want (syntax.Product f ms) h0 = s-le which (maybe-known which) _ _ _ (s-term_form which level here want f ms h0) (omega arith)

pub s-adding : (which : Tally) (x0 : Inside) (x1 : Context) (x2 : Option Found) (x3 : Adding) → SpendsInside which x0 → (maybe-known which).Whole x2 → Spends which (maybe-known which) ((maybe-known which).size x2) (adding x0 x1 x2 x3)
unfolding adding
s-adding which level here x (syntax.adding additive.Plus at t) h0 h2 =
    s-bind which (maybe-known which) (maybe-known which) 0 ((maybe-known which).size x) _ (term level here wanted.Other t) _ (s-le which (maybe-known which) _ _ _ (s-term which level here wanted.Other t h0) (omega arith)) (omega arith) (λ out held1.
    s-le which (maybe-known which) _ _ _ (s-binary which op.Add at x out h2 held1) (omega arith))
s-adding which level here x (syntax.adding additive.Minus at t) h0 h2 =
    s-bind which (maybe-known which) (maybe-known which) 0 ((maybe-known which).size x) _ (term level here wanted.Other t) _ (s-le which (maybe-known which) _ _ _ (s-term which level here wanted.Other t h0) (omega arith)) (omega arith) (λ out held1.
    s-le which (maybe-known which) _ _ _ (s-binary which op.Sub at x out h2 held1) (omega arith))
s-adding which level here x (syntax.adding additive.Joined at t) h0 h2 =
    s-bind which (maybe-known which) (maybe-known which) 0 ((maybe-known which).size x) _ (term level here wanted.Text t) _ (s-le which (maybe-known which) _ _ _ (s-term which level here wanted.Text t h0) (omega arith)) (omega arith) (λ out held1.
    s-le which (maybe-known which) _ _ _ (s-joined_text which at x out h2 held1) (omega arith))

pub s-added : (which : Tally) (x0 : Inside) (x1 : Context) (x2 : Option Found) (x3 : Addings) → SpendsInside which x0 → (maybe-known which).Whole x2 → Spends which (maybe-known which) ((maybe-known which).size x2) (added x0 x1 x2 x3)
s-added which level here x syntax.NoAdding h0 h2 = s-pure which (maybe-known which) _ x (h2, omega arith)
s-added which level here x (syntax.AlsoAdding a as') h0 h2 =
    s-bind which (maybe-known which) (maybe-known which) ((maybe-known which).size x) 0 _ (adding level here x a) _ (s-le which (maybe-known which) _ _ _ (s-adding which level here x a h0 h2) (omega arith)) (omega arith) (λ y held1.
    s-le which (maybe-known which) _ _ _ (s-added which level here y as' h0 held1) (omega arith))

pub s-first_term : (which : Tally) (x0 : Inside) (x1 : Context) (x2 : Wanted) (x3 : Option Sign) (x4 : Term) → SpendsInside which x0 → Spends which (maybe-known which) 0 (first_term x0 x1 x2 x3 x4)
s-first_term which level here want None t h0 = s-le which (maybe-known which) _ _ _ (s-term which level here want t h0) (omega arith)
s-first_term which level here want (Some (sign.Plus at)) t h0 =
    s-bind which (maybe-known which) (maybe-known which) 0 0 _ (term level here wanted.Other t) _ (s-le which (maybe-known which) _ _ _ (s-term which level here wanted.Other t h0) (omega arith)) (omega arith) (λ out held1.
    s-le which (maybe-known which) _ _ _ (s-plain which at out held1) (omega arith))
s-first_term which level here want (Some (sign.Minus at)) t h0 =
    s-bind which (maybe-known which) (maybe-known which) 0 0 _ (term level here wanted.Other t) _ (s-le which (maybe-known which) _ _ _ (s-term which level here wanted.Other t h0) (omega arith)) (omega arith) (λ out held1.
    s-le which (maybe-known which) _ _ _ (s-unary which unary'.Minus at out held1) (omega arith))

pub s-in_place : (which : Tally) (x0 : Wanted) (x1 : Known) (x2 : Found) → (with-part which).Whole x2 → Spends which (maybe-known which) (part-size which x2.part) (in_place x0 x1 x2)
s-in_place which wanted.Text k f h2 = s-some which (with-part which) _ f (h2, omega arith)
s-in_place which want (known.Text first) f h2 = s-fault which (with-part which) _ first WrongType
s-in_place which want k f h2 = s-some which (with-part which) _ f (h2, omega arith)

pub s-simple : (which : Tally) (x0 : Inside) (x1 : Context) (x2 : Wanted) (x3 : Simple) → SpendsInside which x0 → Spends which (maybe-known which) 0 (simple x0 x1 x2 x3)
unfolding simple
s-simple which level here want (syntax.Sum s t as') h0 =
    s-bind which (maybe-known which) (maybe-known which) 0 0 _ (first_term level here (first_wanted want as') s t) _ (s-le which (maybe-known which) _ _ _ (s-first_term which level here (first_wanted want as') s t h0) (omega arith)) (omega arith) (λ x held1.
    s-bind which (maybe-known which) (maybe-known which) ((maybe-known which).size x) 0 _ (added level here x as') _ (s-le which (maybe-known which) _ _ _ (s-added which level here x as' h0 held1) (omega arith)) (omega arith) (λ y held2.
    s-given which (with-part which) (with-part which) 0 _ y _ held2 (omega arith) (λ f held3.
    s-le which (maybe-known which) _ _ _ (s-in_place which want f.known f held3) (omega arith))))

pub s-rel : (which : Tally) (x0 : Names) (x1 : Inside) (x2 : Context) (x3 : Wanted) (x4 : Rel) → SpendsInside which x1 → Spends which (maybe-known which) 0 (rel x0 x1 x2 x3 x4)
unfolding rel
s-rel which names level here want (syntax.Alone s) h1 = s-le which (maybe-known which) _ _ _ (s-simple which level here want s h1) (omega arith)
s-rel which names level here want (syntax.Compared left c at right) h1 =
    s-bind which (maybe-known which) (maybe-known which) 0 0 _ (simple level here wanted.Other left) _ (s-le which (maybe-known which) _ _ _ (s-simple which level here wanted.Other left h1) (omega arith)) (omega arith) (λ x held1.
    s-bind which (maybe-known which) (maybe-known which) 0 ((maybe-known which).size x) _ (simple level here wanted.Other right) _ (s-le which (maybe-known which) _ _ _ (s-simple which level here wanted.Other right h1) (omega arith)) (omega arith) (λ y held2.
    s-le which (maybe-known which) _ _ _ (s-compared which c at x y held1 held2) (omega arith)))
s-rel which names level here want (syntax.Within value negation at low high) h1 =
    s-bind which (maybe-known which) (maybe-known which) 0 0 _ (simple level here wanted.Other value) _ (s-le which (maybe-known which) _ _ _ (s-simple which level here wanted.Other value h1) (omega arith)) (omega arith) (λ x held1.
    s-bind which (maybe-known which) (maybe-known which) 0 ((maybe-known which).size x) _ (simple level here wanted.Other low) _ (s-le which (maybe-known which) _ _ _ (s-simple which level here wanted.Other low h1) (omega arith)) (omega arith) (λ l held2.
    s-bind which (maybe-known which) (maybe-known which) 0 ((maybe-known which).size x + (maybe-known which).size l) _ (simple level here wanted.Other high) _ (s-le which (maybe-known which) _ _ _ (s-simple which level here wanted.Other high h1) (omega arith)) (omega arith) (λ h held3.
    s-le which (maybe-known which) _ _ _ (s-membership which (blamed negation at) (is_some negation) x l h held1 held2 held3) (omega arith))))
s-rel which names level here want (syntax.OfMark value negation at mark) h1 =
    s-bind which (maybe-known which) (maybe-known which) 0 0 _ (simple level here wanted.Other value) _ (s-le which (maybe-known which) _ _ _ (s-simple which level here wanted.Other value h1) (omega arith)) (omega arith) (λ x held1.
    s-then which (maybe-known which) _ (scalar_named names here mark) _ (k-scalar_named leaving names here mark tt) (λ s.
    s-le which (maybe-known which) _ _ _ (s-of_subtype which (blamed negation at) (is_some negation) mark x s held1) (omega arith)))

pub s-conjoined : (which : Tally) (x0 : Names) (x1 : Inside) (x2 : Context) (x3 : Op) (x4 : Option Found) (x5 : Conjuncts) → SpendsInside which x1 → (maybe-known which).Whole x4 → Spends which (maybe-known which) ((maybe-known which).size x4) (conjoined x0 x1 x2 x3 x4 x5)
s-conjoined which names level here o x syntax.NoConjunct h1 h4 = s-pure which (maybe-known which) _ x (h4, omega arith)
s-conjoined which names level here o x (syntax.AlsoConjunct (syntax.conjunct at r) cs) h1 h4 =
    s-bind which (maybe-known which) (maybe-known which) 0 ((maybe-known which).size x) _ (rel names level here wanted.Other r) _ (s-le which (maybe-known which) _ _ _ (s-rel which names level here wanted.Other r h1) (omega arith)) (omega arith) (λ y held1.
    s-bind which (maybe-known which) (maybe-known which) ((maybe-known which).size x + (maybe-known which).size y) 0 _ (logical o at x y) _ (s-le which (maybe-known which) _ _ _ (s-logical which o at x y h4 held1) (omega arith)) (omega arith) (λ z held2.
    s-le which (maybe-known which) _ _ _ (s-conjoined which names level here o z cs h1 held2) (omega arith)))

pub s-joined_rels : (which : Tally) (x0 : Names) (x1 : Inside) (x2 : Context) (x3 : Op) (x4 : Rel) (x5 : ℕ) (x6 : Rel) (x7 : Conjuncts) → SpendsInside which x1 → Spends which (maybe-known which) 0 (joined_rels x0 x1 x2 x3 x4 x5 x6 x7)
s-joined_rels which names level here o first at second more h1 =
    s-bind which (maybe-known which) (maybe-known which) 0 0 _ (rel names level here wanted.Other first) _ (s-le which (maybe-known which) _ _ _ (s-rel which names level here wanted.Other first h1) (omega arith)) (omega arith) (λ x held1.
    s-bind which (maybe-known which) (maybe-known which) 0 ((maybe-known which).size x) _ (rel names level here wanted.Other second) _ (s-le which (maybe-known which) _ _ _ (s-rel which names level here wanted.Other second h1) (omega arith)) (omega arith) (λ y held2.
    s-bind which (maybe-known which) (maybe-known which) ((maybe-known which).size x + (maybe-known which).size y) 0 _ (logical o at x y) _ (s-le which (maybe-known which) _ _ _ (s-logical which o at x y held1 held2) (omega arith)) (omega arith) (λ z held3.
    s-le which (maybe-known which) _ _ _ (s-conjoined which names level here o z more h1 held3) (omega arith))))

pub s-short_operand : (which : Tally) (x0 : Names) (x1 : Inside) (x2 : Context) (x3 : ℕ) (x4 : Rel) → SpendsInside which x1 → Spends which (maybe-part which) 0 (short_operand x0 x1 x2 x3 x4)
s-short_operand which names level here at r h1 =
    s-bind which (maybe-known which) (maybe-part which) 0 0 _ (rel names level here wanted.Other r) _ (s-le which (maybe-known which) _ _ _ (s-rel which names level here wanted.Other r h1) (omega arith)) (omega arith) (λ x held1.
    s-given which (with-part which) (part-measure which) 0 _ x _ held1 (omega arith) (λ f held2.
    s-if which (maybe-part which) _ (is_kind kind.Boolean (kind_of f.known)) (asked kind.Boolean f) (fault at WrongType)
    (s-le which (maybe-part which) _ _ _ (s-asked which kind.Boolean f held2) (omega arith))
    (s-fault which (part-measure which) _ at WrongType)))

pub z-short_by : (which : Tally) (x0 : Bool) (x1 : TypedExpr) (x2 : TypedExpr) → (counted-by (λ x. in_expr which x)).Whole x1 → (counted-by (λ x. in_expr which x)).Whole x2 → Holds (counted-by (λ x. in_expr which x)) (in_expr which x1 + in_expr which x2) (short_by x0 x1 x2)
z-short_by which true x y h1 h2 = (tt, omega arith)
z-short_by which false x y h1 h2 = (tt, omega arith)

pub z-short_join : (which : Tally) (x0 : Bool) (x1 : TypedPart) (x2 : TypedPart) → (part-measure which).Whole x1 → (part-measure which).Whole x2 → Holds (part-measure which) (part-size which x1 + part-size which x2) (short_join x0 x1 x2)
z-short_join which all x y h1 h2 =
    let made1 = z-short_by which all (as_expr x) (as_expr y) tt tt in
    (tt, omega (arith, made1.1, n-expr which x, n-expr which y))

pub s-short_operands : (which : Tally) (x0 : Names) (x1 : Inside) (x2 : Context) (x3 : Bool) (x4 : Option TypedPart) (x5 : Conjuncts) → SpendsInside which x1 → (maybe-part which).Whole x4 → Spends which (maybe-part which) ((maybe-part which).size x4) (short_operands x0 x1 x2 x3 x4 x5)
s-short_operands which names level here all x syntax.NoConjunct h1 h4 = s-pure which (maybe-part which) _ x (h4, omega arith)
s-short_operands which names level here all x (syntax.AlsoConjunct (syntax.conjunct at r) cs) h1 h4 =
    s-bind which (maybe-part which) (maybe-part which) 0 ((maybe-part which).size x) _ (short_operand names level here at r) _ (s-le which (maybe-part which) _ _ _ (s-short_operand which names level here at r h1) (omega arith)) (omega arith) (λ y held1.
    let made5 = h-joined (part-measure which) (part-measure which) (part-measure which) 0 (short_join all) x y h4 held1 (λ one held2 other held3. let made4 = z-short_join which all one other held2 held3 in
    (made4.0, omega (arith, made4.1))) in
    s-le which (maybe-part which) _ _ _ (s-short_operands which names level here all (joined (short_join all) x y) cs h1 made5.0) (omega (arith, made5.1)))

pub z-short_found : (which : Tally) (x0 : ℕ) (x1 : TypedPart) → (part-measure which).Whole x1 → Holds (with-part which) (part-size which x1) (short_found x0 x1)
z-short_found which first e h1 = (h1, omega arith)

pub s-short_form : (which : Tally) (x0 : Names) (x1 : Inside) (x2 : Context) (x3 : Bool) (x4 : Rel) (x5 : ℕ) (x6 : Rel) (x7 : Conjuncts) → SpendsInside which x1 → Spends which (maybe-known which) 0 (short_form x0 x1 x2 x3 x4 x5 x6 x7)
s-short_form which names level here all first at second more h1 =
    s-bind which (maybe-part which) (maybe-known which) 0 0 _ (short_operand names level here at first) _ (s-le which (maybe-part which) _ _ _ (s-short_operand which names level here at first h1) (omega arith)) (omega arith) (λ x held1.
    s-bind which (maybe-part which) (maybe-known which) ((maybe-part which).size x) 0 _ (short_operands names level here all x (syntax.AlsoConjunct (syntax.conjunct at second) more)) _ (s-le which (maybe-part which) _ _ _ (s-short_operands which names level here all x (syntax.AlsoConjunct (syntax.conjunct at second) more) h1 held1) (omega arith)) (omega arith) (λ z held2.
    s-pure which (maybe-known which) _ (option_map (short_found (first_token.of_rel first)) z) (let made5 = h-map (part-measure which) (with-part which) 0 (short_found (first_token.of_rel first)) z held2 (λ item held3. let made4 = z-short_found which (first_token.of_rel first) item held3 in
    (made4.0, omega (arith, made4.1))) in
    (made5.0, omega (arith, made5.1)))))

pub s-expr : (which : Tally) (x0 : Names) (x1 : Inside) (x2 : Context) (x3 : Wanted) (x4 : Expr) → SpendsInside which x1 → Spends which (maybe-known which) 0 (expr x0 x1 x2 x3 x4)
unfolding expr
s-expr which names level here want (syntax.Single r) h1 = s-le which (maybe-known which) _ _ _ (s-rel which names level here want r h1) (omega arith)
s-expr which names level here want (syntax.Joined logical'.And first at second more) h1 = s-le which (maybe-known which) _ _ _ (s-joined_rels which names level here op.And first at second more h1) (omega arith)
s-expr which names level here want (syntax.Joined logical'.Or first at second more) h1 = s-le which (maybe-known which) _ _ _ (s-joined_rels which names level here op.Or first at second more h1) (omega arith)
s-expr which names level here want (syntax.Joined logical'.Xor first at second more) h1 = s-le which (maybe-known which) _ _ _ (s-joined_rels which names level here op.Xor first at second more h1) (omega arith)
s-expr which names level here want (syntax.Joined logical'.AndThen first at second more) h1 = s-le which (maybe-known which) _ _ _ (s-short_form which names level here true first at second more h1) (omega arith)
s-expr which names level here want (syntax.Joined logical'.OrElse first at second more) h1 = s-le which (maybe-known which) _ _ _ (s-short_form which names level here false first at second more h1) (omega arith)

pub s-condition : (which : Tally) (x0 : Names) (x1 : Inside) (x2 : Context) (x3 : Expr) → SpendsInside which x1 → Spends which (maybe-part which) 0 (condition x0 x1 x2 x3)
unfolding condition
s-condition which names level here e h1 =
    s-bind which (maybe-known which) (maybe-part which) 0 0 _ (expr names level here wanted.Other e) _ (s-le which (maybe-known which) _ _ _ (s-expr which names level here wanted.Other e h1) (omega arith)) (omega arith) (λ x held1.
    s-given which (with-part which) (part-measure which) 0 _ x _ held1 (omega arith) (λ item held2.
    s-le which (maybe-part which) _ _ _ (s-asked which kind.Boolean item held2) (omega arith)))

pub s-value_for : (which : Tally) (x0 : Names) (x1 : Inside) (x2 : Context) (x3 : Subtype) (x4 : Expr) → SpendsInside which x1 → Spends which (maybe-part which) 0 (value_for x0 x1 x2 x3 x4)
unfolding value_for
s-value_for which names level here s e h1 =
    s-bind which (maybe-known which) (maybe-part which) 0 0 _ (expr names level here (wanted_of s) e) _ (s-le which (maybe-known which) _ _ _ (s-expr which names level here (wanted_of s) e h1) (omega arith)) (omega arith) (λ x held1.
    s-given which (with-part which) (part-measure which) 0 _ x _ held1 (omega arith) (λ item held2.
    s-le which (maybe-part which) _ _ _ (s-stored which s (first_token.of_expr e) item held2) (omega arith)))
