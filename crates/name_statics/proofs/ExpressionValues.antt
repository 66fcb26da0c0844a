-- The values of expressions, where those of primaries are the ones of their texts.
use Rattle.std.proofs.Common.{ℕ, Option, Some, None, Bool, true, false, option_map, ◌≡◌, refl}
use Rattle.std.specs.Prelude.{is_some}
use Rattle.ada_base.specs.declared.operation.Op.TheVariants as op
use Rattle.ada_base.specs.declared.operation.Op.{Op}
use Rattle.syntax_tree.specs.FirstTokens as first_token
use Rattle.syntax_tree.specs.Syntax as syntax
use Rattle.syntax_tree.specs.Syntax.{Adding, Addings, Conjuncts, Expr, Factor, Multiplying, Multiplyings, Name, Primary, Rel, Simple, Term}
use Rattle.syntax_tree.specs.declared.operators.Additive.TheVariants as additive
use Rattle.syntax_tree.specs.declared.operators.Logical.TheVariants as logical'
use Rattle.syntax_tree.specs.declared.operators.Sign.{Sign as Signed}
use Rattle.syntax_tree.specs.declared.operators.Sign.TheVariants as sign
use Rattle.typed_tree.specs.Decoded.{TypedPart}
use Rattle.typed_tree.specs.declared.expressions.Sign.TheVariants as unary'
use Rattle.name_rules.specs.Expressions.{Inside, added, adding, blamed, conjoined, expr, factor, first_term, first_wanted, in_place, joined_rels, multiplied, multiplying, multiplying_op, rel, short_form, short_found, short_join, short_operand, short_operands, simple, term}
use Rattle.name_rules.specs.Found.{Found}
use Rattle.name_rules.specs.Judging.{given, joined}
use Rattle.name_rules.specs.Operators.{binary, joined_text, logical, not_of, plain, unary}
use Rattle.name_rules.specs.Scope.{scalar_named}
use Rattle.name_rules.specs.declared.found.Found.TheVariants as known
use Rattle.name_rules.specs.declared.found.Found.{Found as Known}
use Rattle.name_rules.specs.declared.log.Rule.TheVariants.{WrongType}
use Rattle.name_rules.specs.declared.scope.Context.{Context}
use Rattle.name_rules.specs.declared.scope.Names.{Names}
use Rattle.name_rules.specs.declared.types.Wanted.TheVariants as wanted
use Rattle.name_rules.specs.declared.types.Wanted.{Wanted}
use Rattle.name_rules.specs.declared.log.Shape.{Shape}
use Rattle.name_rules.specs.Judging.{◌>>=◌}
use Rattle.syntax_tree.specs.declared.operators.Multiplicative.{Multiplicative}
use Rattle.ada_base.specs.declared.operation.Comparison.{Comparison}
use Rattle.typed_tree.specs.Decoded.{as_expr}
use Rattle.name_rules.specs.Operators.{power}
use Rattle.std.specs.Prelude.{List, ℤ}
use Rattle.name_laws.proofs.KeepsExpressions.{k-expr, k-factor, k-in_place, k-rel, k-adding}
use Rattle.name_laws.proofs.KeepsOperators.{k-binary, k-plain, k-power, k-unary}
use Rattle.name_laws.proofs.Walk.{k-given}
use Rattle.name_laws.proofs.Walked.{KeepsInside}
use Rattle.name_statics.proofs.Finds.{Finding, Finds, Maybe, Tells, f-bind, f-fault, f-given-of, f-pure, f-some, f-then, t-bind, t-of, t-pure, FindingWith, Has, IsWith, has}
use Rattle.name_statics.proofs.Operations.{f-abs, f-binary, f-compared, f-joined_text, f-logical, f-membership, f-minus, f-not_of, f-of_subtype, f-plain, f-power}
use Rattle.name_statics.proofs.Same.{walk}
use Rattle.name_statics.specs.Law.{static_in}
use Rattle.name_statics.specs.Values.{Around, added_value, computed, expr_value, factor_value, multiplied_value, primary_value, rel_value, simple_value, term_value, with_sign, expr_bound, factor_bound, primary_bound, rel_bound, simple_bound, term_bound}

-- what is declared around an expression, where the arrays and records are those of a table
abbrev pub there : Names → Context → List Shape → Around
there names here shapes = record { names = names; scope = here.scope; shapes = shapes }

pub record LevelTells (shapes : List Shape) (names : Names) (level : Inside) : Type 0 where
  pub keeps : KeepsInside walk level
  pub primary : (here : Context) (p : Primary) (want : Wanted) → Tells shapes (FindingWith (primary_value (there names here shapes) p) (primary_bound (there names here shapes) p)) (level.primary here p want)

-- ---- factors, terms and sums

t-factor : (shapes : List Shape) (names : Names) (level : Inside) (here : Context) (want : Wanted) (x : Factor) → LevelTells shapes names level → Tells shapes (FindingWith (factor_value (there names here shapes) x) (factor_bound (there names here shapes) x)) (factor level here want x)
unfolding factor
t-factor shapes names level here want (syntax.Operand p) l = l.primary here p want
t-factor shapes names level here want (syntax.Power b at e) l =
    let a = there names here shapes in
    let v = primary_value a b in
    let w = primary_value a e in
    t-bind shapes (FindingWith v (primary_bound a b)) (Finding (computed op.Pow v w)) (level.primary here b wanted.Other) _ (l.primary here b wanted.Other) (λ x q.
    t-bind shapes (FindingWith w (primary_bound a e)) (Finding (computed op.Pow v w)) (level.primary here e wanted.Other) _ (l.primary here e wanted.Other) (λ y s.
    t-of shapes (Finding (computed op.Pow v w)) (power at x y) (k-power walk at x y) (f-power at x y v w (has v (primary_bound a b) x q) (has w (primary_bound a e) y s))))
t-factor shapes names level here want (syntax.Abs at p) l =
    let a = there names here shapes in
    let v = primary_value a p in
    t-bind shapes (FindingWith v (primary_bound a p)) (Finding (factor_value a (syntax.Abs at p))) (level.primary here p wanted.Other) (unary unary'.Abs at) (l.primary here p wanted.Other) (λ x q.
    t-of shapes (Finding (factor_value a (syntax.Abs at p))) (unary unary'.Abs at x) (k-unary walk unary'.Abs at x) (f-abs at x v (has v (primary_bound a p) x q)))
t-factor shapes names level here want (syntax.Not at p) l = t-of shapes (Finding None) (factor level here want (syntax.Not at p)) (k-factor walk level here want (syntax.Not at p) l.keeps) (f-then (Finding None) (level.primary here p wanted.Other) (not_of at) (λ x. f-not_of at x))

t-multiplying : (shapes : List Shape) (names : Names) (level : Inside) (here : Context) (x : Option Found) (v : Option ℤ) (by : Multiplicative) (at : ℕ) (f : Factor) → LevelTells shapes names level → Maybe (Has v) x
    → Tells shapes (Finding (computed (multiplying_op by) v (factor_value (there names here shapes) f))) (multiplying level here x (syntax.multiplying by at f))
unfolding multiplying
t-multiplying shapes names level here x v by at f l q =
    let a = there names here shapes in
    let w = factor_value a f in
    t-bind shapes (FindingWith w (factor_bound a f)) (Finding (computed (multiplying_op by) v w)) (factor level here wanted.Other f) (binary (multiplying_op by) at x) (t-factor shapes names level here wanted.Other f l) (λ y s.
    t-of shapes (Finding (computed (multiplying_op by) v w)) (binary (multiplying_op by) at x y) (k-binary walk (multiplying_op by) at x y) (f-binary (multiplying_op by) at x y v w q (has w (factor_bound a f) y s)))

t-multiplied : (shapes : List Shape) (names : Names) (level : Inside) (here : Context) (x : Option Found) (v : Option ℤ) (ms : Multiplyings) → LevelTells shapes names level → Finding v x
    → Tells shapes (Finding (multiplied_value (there names here shapes) v ms)) (multiplied level here x ms)
t-multiplied shapes names level here x v syntax.NoMultiplying l q = t-pure shapes (Finding v) x q
t-multiplied shapes names level here x v (syntax.AlsoMultiplying (syntax.multiplying by at f) ms) l q =
    let w = computed (multiplying_op by) v (factor_value (there names here shapes) f) in
    t-bind shapes (Finding w) (Finding (multiplied_value (there names here shapes) w ms)) (multiplying level here x (syntax.multiplying by at f)) _ (t-multiplying shapes names level here x v by at f l (has v None x q)) (λ y s. t-multiplied shapes names level here y w ms l s)

t-term : (shapes : List Shape) (names : Names) (level : Inside) (here : Context) (want : Wanted) (x : Term) → LevelTells shapes names level → Tells shapes (FindingWith (term_value (there names here shapes) x) (term_bound (there names here shapes) x)) (term level here want x)
unfolding term
t-term shapes names level here want (syntax.Product f syntax.NoMultiplying) l = t-factor shapes names level here want f l
t-term shapes names level here want (syntax.Product f (syntax.AlsoMultiplying (syntax.multiplying by at g) ms)) l =
    let a = there names here shapes in
    let v = factor_value a f in
    let w = computed (multiplying_op by) v (factor_value a g) in
    t-bind shapes (FindingWith v (factor_bound a f)) (Finding (multiplied_value a w ms)) (factor level here wanted.Other f) (λ x. multiplied level here x (syntax.AlsoMultiplying (syntax.multiplying by at g) ms)) (t-factor shapes names level here wanted.Other f l) (λ x q.
    t-bind shapes (Finding w) (Finding (multiplied_value a w ms)) (multiplying level here x (syntax.multiplying by at g)) _ (t-multiplying shapes names level here x v by at g l (has v (factor_bound a f) x q)) (λ y s. t-multiplied shapes names level here y w ms l s))

t-plus : (shapes : List Shape) (names : Names) (level : Inside) (here : Context) (x : Option Found) (v : Option ℤ) (o : Op) (at : ℕ) (t : Term) → LevelTells shapes names level → Maybe (Has v) x
    → Tells shapes (Finding (computed o v (term_value (there names here shapes) t))) (term level here wanted.Other t >>= binary o at x)
t-plus shapes names level here x v o at t l q =
    let a = there names here shapes in
    let w = term_value a t in
    t-bind shapes (FindingWith w (term_bound a t)) (Finding (computed o v w)) (term level here wanted.Other t) (binary o at x) (t-term shapes names level here wanted.Other t l) (λ y s.
    t-of shapes (Finding (computed o v w)) (binary o at x y) (k-binary walk o at x y) (f-binary o at x y v w q (has w (term_bound a t) y s)))

-- what is added to has a value; alone it may leave a bound
abbrev Begun : Option ℤ → Option Found → Addings → Type 0
Begun v x syntax.NoAdding = Finding v x
Begun v x (syntax.AlsoAdding a as') = Maybe (Has v) x

begun : (v : Option ℤ) (x : Option Found) (as' : Addings) → Finding v x → Begun v x as'
begun v x syntax.NoAdding h = h
begun v x (syntax.AlsoAdding a as') h = has v None x h

t-added : (shapes : List Shape) (names : Names) (level : Inside) (here : Context) (x : Option Found) (v : Option ℤ) (as' : Addings) → LevelTells shapes names level → Begun v x as'
    → Tells shapes (Finding (added_value (there names here shapes) v as')) (added level here x as')
unfolding adding
t-added shapes names level here x v syntax.NoAdding l q = t-pure shapes (Finding v) x q
t-added shapes names level here x v (syntax.AlsoAdding (syntax.adding additive.Plus at t) as') l q =
    let w = computed op.Add v (term_value (there names here shapes) t) in
    t-bind shapes (Finding w) (Finding (added_value (there names here shapes) w as')) (adding level here x (syntax.adding additive.Plus at t)) _ (t-plus shapes names level here x v op.Add at t l q) (λ y s. t-added shapes names level here y w as' l (begun w y as' s))
t-added shapes names level here x v (syntax.AlsoAdding (syntax.adding additive.Minus at t) as') l q =
    let w = computed op.Sub v (term_value (there names here shapes) t) in
    t-bind shapes (Finding w) (Finding (added_value (there names here shapes) w as')) (adding level here x (syntax.adding additive.Minus at t)) _ (t-plus shapes names level here x v op.Sub at t l q) (λ y s. t-added shapes names level here y w as' l (begun w y as' s))
t-added shapes names level here x v (syntax.AlsoAdding (syntax.adding additive.Joined at t) as') l q =
    t-bind shapes (Finding None) (Finding (added_value (there names here shapes) None as')) (adding level here x (syntax.adding additive.Joined at t)) _
    (t-of shapes (Finding None) (adding level here x (syntax.adding additive.Joined at t)) (k-adding walk level here x (syntax.adding additive.Joined at t) l.keeps) (f-then (Finding None) (term level here wanted.Text t) (joined_text at x) (λ y. f-joined_text at x y)))
    (λ y s. t-added shapes names level here y None as' l (begun None y as' s))

-- the first term: with a sign it leaves no bound
abbrev first_bound : Around → Option Signed → Term → Option ℤ
first_bound a None t = term_bound a t
first_bound a (Some s) t = None

t-first_term : (shapes : List Shape) (names : Names) (level : Inside) (here : Context) (want : Wanted) (s : Option Signed) (t : Term) → LevelTells shapes names level
    → Tells shapes (FindingWith (with_sign s (term_value (there names here shapes) t)) (first_bound (there names here shapes) s t)) (first_term level here want s t)
t-first_term shapes names level here want None t l = t-term shapes names level here want t l
t-first_term shapes names level here want (Some (sign.Plus at)) t l =
    let a = there names here shapes in
    let v = term_value a t in
    t-bind shapes (FindingWith v (term_bound a t)) (Finding v) (term level here wanted.Other t) (plain at) (t-term shapes names level here wanted.Other t l) (λ x q. t-of shapes (Finding v) (plain at x) (k-plain walk at x) (f-plain at x v (has v (term_bound a t) x q)))
t-first_term shapes names level here want (Some (sign.Minus at)) t l =
    let a = there names here shapes in
    let v = term_value a t in
    t-bind shapes (FindingWith v (term_bound a t)) (Finding (with_sign (Some (sign.Minus at)) v)) (term level here wanted.Other t) (unary unary'.Minus at) (t-term shapes names level here wanted.Other t l) (λ x q.
    t-of shapes (Finding (with_sign (Some (sign.Minus at)) v)) (unary unary'.Minus at x) (k-unary walk unary'.Minus at x) (f-minus at x v (has v (term_bound a t) x q)))

f-in_place : (v b : Option ℤ) (want : Wanted) (k : Known) (f : Found) → IsWith v b f → Finds (FindingWith v b) (in_place want k f)
f-in_place v b wanted.Text k f h = f-some (IsWith v b) f h
f-in_place v b want (known.Text first) f h = f-fault (IsWith v b) first WrongType
f-in_place v b want k f h = f-some (IsWith v b) f h

pub t-placed : (shapes : List Shape) (v b : Option ℤ) (want : Wanted) (x : Option Found) → FindingWith v b x → Tells shapes (FindingWith v b) (given x (λ f. in_place want f.known f))
t-placed shapes v b want x h =
    t-of shapes (FindingWith v b) _ (k-given walk x (λ f. in_place want f.known f) (λ f. k-in_place walk want f.known f)) (f-given-of (IsWith v b) (IsWith v b) x _ h (λ f q. f-in_place v b want f.known f q))

-- a sum of several terms, or with a sign
t-sum : (shapes : List Shape) (names : Names) (level : Inside) (here : Context) (want : Wanted) (s : Option Signed) (t : Term) (as' : Addings) → LevelTells shapes names level
    → ((x : Option Found) → FindingWith (with_sign s (term_value (there names here shapes) t)) (first_bound (there names here shapes) s t) x → Begun (with_sign s (term_value (there names here shapes) t)) x as')
    → Tells shapes (Finding (simple_value (there names here shapes) (syntax.Sum s t as'))) (simple level here want (syntax.Sum s t as'))
unfolding simple
t-sum shapes names level here want s t as' l h =
    let a = there names here shapes in
    let v = with_sign s (term_value a t) in
    let w = added_value a v as' in
    t-bind shapes (FindingWith v (first_bound a s t)) (Finding w) (first_term level here (first_wanted want as') s t) _ (t-first_term shapes names level here (first_wanted want as') s t l) (λ x q.
    t-bind shapes (Finding w) (Finding w) (added level here x as') _ (t-added shapes names level here x v as' l (h x q)) (λ y r. t-placed shapes w None want y r))

pub t-simple : (shapes : List Shape) (names : Names) (level : Inside) (here : Context) (want : Wanted) (x : Simple) → LevelTells shapes names level → Tells shapes (FindingWith (simple_value (there names here shapes) x) (simple_bound (there names here shapes) x)) (simple level here want x)
unfolding simple
t-simple shapes names level here want (syntax.Sum None t syntax.NoAdding) l =
    let a = there names here shapes in
    let v = term_value a t in
    let b = term_bound a t in
    t-bind shapes (FindingWith v b) (FindingWith v b) (first_term level here (first_wanted want syntax.NoAdding) None t) _ (t-first_term shapes names level here (first_wanted want syntax.NoAdding) None t l) (λ x q.
    t-bind shapes (FindingWith v b) (FindingWith v b) (added level here x syntax.NoAdding) _ (t-pure shapes (FindingWith v b) x q) (λ y r. t-placed shapes v b want y r))
t-simple shapes names level here want (syntax.Sum None t (syntax.AlsoAdding a as')) l =
    t-sum shapes names level here want None t (syntax.AlsoAdding a as') l (λ x q. has (term_value (there names here shapes) t) (term_bound (there names here shapes) t) x q)
t-simple shapes names level here want (syntax.Sum (Some s) t as') l =
    t-sum shapes names level here want (Some s) t as' l (λ x q. begun (with_sign (Some s) (term_value (there names here shapes) t)) x as' q)

-- ---- relations and logical operators, which aren't static

f-rel_compared : (names : Names) (level : Inside) (here : Context) (want : Wanted) (left : Simple) (c : Comparison) (at : ℕ) (right : Simple) → Finds (Finding None) (rel names level here want (syntax.Compared left c at right))
unfolding rel
f-rel_compared names level here want left c at right =
    f-then (Finding None) (simple level here wanted.Other left) _ (λ x. f-then (Finding None) (simple level here wanted.Other right) _ (λ y. f-compared c at x y))

f-rel_within : (names : Names) (level : Inside) (here : Context) (want : Wanted) (value : Simple) (negation : Option ℕ) (at : ℕ) (low high : Simple) → Finds (Finding None) (rel names level here want (syntax.Within value negation at low high))
unfolding rel
f-rel_within names level here want value negation at low high =
    f-then (Finding None) (simple level here wanted.Other value) _ (λ x. f-then (Finding None) (simple level here wanted.Other low) _ (λ y. f-then (Finding None) (simple level here wanted.Other high) _ (λ z.
    f-membership (blamed negation at) (is_some negation) x y z)))

f-rel_mark : (names : Names) (level : Inside) (here : Context) (want : Wanted) (value : Simple) (negation : Option ℕ) (at mark : ℕ) → Finds (Finding None) (rel names level here want (syntax.OfMark value negation at mark))
unfolding rel
f-rel_mark names level here want value negation at mark =
    f-then (Finding None) (simple level here wanted.Other value) _ (λ x. f-then (Finding None) (scalar_named names here mark) _ (λ s. f-of_subtype (blamed negation at) (is_some negation) mark x s))

t-rel : (shapes : List Shape) (names : Names) (level : Inside) (here : Context) (want : Wanted) (x : Rel) → LevelTells shapes names level → Tells shapes (FindingWith (rel_value (there names here shapes) x) (rel_bound (there names here shapes) x)) (rel names level here want x)
unfolding rel
t-rel shapes names level here want (syntax.Compared left c at right) l = t-of shapes (Finding None) _ (k-rel walk names level here want (syntax.Compared left c at right) tt l.keeps) (f-rel_compared names level here want left c at right)
t-rel shapes names level here want (syntax.Within value negation at low high) l = t-of shapes (Finding None) _ (k-rel walk names level here want (syntax.Within value negation at low high) tt l.keeps) (f-rel_within names level here want value negation at low high)
t-rel shapes names level here want (syntax.OfMark value negation at mark) l = t-of shapes (Finding None) _ (k-rel walk names level here want (syntax.OfMark value negation at mark) tt l.keeps) (f-rel_mark names level here want value negation at mark)
t-rel shapes names level here want (syntax.Alone s) l = t-simple shapes names level here want s l

f-conjoined : (names : Names) (level : Inside) (here : Context) (o : Op) (x : Option Found) (cs : Conjuncts) → Finding None x → Finds (Finding None) (conjoined names level here o x cs)
f-conjoined names level here o x syntax.NoConjunct h = f-pure (Finding None) x h
f-conjoined names level here o x (syntax.AlsoConjunct (syntax.conjunct at c) cs) h =
    f-then (Finding None) (rel names level here wanted.Other c) _ (λ y.
    f-bind (Finding None) (Finding None) (logical o at x y) _ (f-logical o at x y) (λ z q. f-conjoined names level here o z cs q))

f-joined_rels : (names : Names) (level : Inside) (here : Context) (o : Op) (first : Rel) (at : ℕ) (second : Rel) (more : Conjuncts) → Finds (Finding None) (joined_rels names level here o first at second more)
f-joined_rels names level here o first at second more =
    f-then (Finding None) (rel names level here wanted.Other first) _ (λ x. f-then (Finding None) (rel names level here wanted.Other second) _ (λ y.
    f-bind (Finding None) (Finding None) (logical o at x y) _ (f-logical o at x y) (λ z q. f-conjoined names level here o z more q)))

abbrev Unvalued : TypedPart → Type 0
Unvalued x = static_in (as_expr x) ≡ None

short-join : (all : Bool) (x y : TypedPart) → Unvalued (short_join all x y)
short-join true x y = refl
short-join false x y = refl

short-more : (all : Bool) (x y : Option TypedPart) → Maybe Unvalued (joined (short_join all) x y)
short-more all None y = tt
short-more all (Some x) None = tt
short-more all (Some x) (Some y) = short-join all x y

f-short_more : (names : Names) (level : Inside) (here : Context) (all : Bool) (x : Option TypedPart) (cs : Conjuncts) → Maybe Unvalued x → Finds (Maybe Unvalued) (short_operands names level here all x cs)
f-short_more names level here all x syntax.NoConjunct h = f-pure (Maybe Unvalued) x h
f-short_more names level here all x (syntax.AlsoConjunct (syntax.conjunct at c) cs) h =
    f-then (Maybe Unvalued) (short_operand names level here at c) _ (λ y. f-short_more names level here all (joined (short_join all) x y) cs (short-more all x y))

f-short_operands : (names : Names) (level : Inside) (here : Context) (all : Bool) (x : Option TypedPart) (at : ℕ) (c : Rel) (cs : Conjuncts) → Finds (Maybe Unvalued) (short_operands names level here all x (syntax.AlsoConjunct (syntax.conjunct at c) cs))
f-short_operands names level here all x at c cs =
    f-then (Maybe Unvalued) (short_operand names level here at c) _ (λ y. f-short_more names level here all (joined (short_join all) x y) cs (short-more all x y))

f-short_form : (names : Names) (level : Inside) (here : Context) (all : Bool) (first : Rel) (at : ℕ) (second : Rel) (more : Conjuncts) → Finds (Finding None) (short_form names level here all first at second more)
f-short_form names level here all first at second more =
    f-then (Finding None) (short_operand names level here at first) _ (λ x.
    f-bind (Maybe Unvalued) (Finding None) (short_operands names level here all x (syntax.AlsoConjunct (syntax.conjunct at second) more)) _ (f-short_operands names level here all x at second more) (λ z q.
    f-pure (Finding None) (option_map (short_found (first_token.of_rel first)) z) (found z q)))
  where
    found : (z : Option TypedPart) → Maybe Unvalued z → Finding None (option_map (short_found (first_token.of_rel first)) z)
    found None q = tt
    found (Some e) q = record { value = λ t. refl; bare = q }

t-joined : (shapes : List Shape) (names : Names) (level : Inside) (here : Context) (want : Wanted) (x : Expr) → LevelTells shapes names level → Finds (Finding None) (expr names level here want x) → Tells shapes (Finding None) (expr names level here want x)
t-joined shapes names level here want x l m = t-of shapes (Finding None) _ (k-expr walk names level here want x tt l.keeps) m

pub t-expr : (shapes : List Shape) (names : Names) (level : Inside) (here : Context) (want : Wanted) (x : Expr) → LevelTells shapes names level → Tells shapes (FindingWith (expr_value (there names here shapes) x) (expr_bound (there names here shapes) x)) (expr names level here want x)
unfolding expr
t-expr shapes names level here want (syntax.Single x) l = t-rel shapes names level here want x l
t-expr shapes names level here want (syntax.Joined logical'.And first at second more) l = t-joined shapes names level here want (syntax.Joined logical'.And first at second more) l (f-joined_rels names level here op.And first at second more)
t-expr shapes names level here want (syntax.Joined logical'.Or first at second more) l = t-joined shapes names level here want (syntax.Joined logical'.Or first at second more) l (f-joined_rels names level here op.Or first at second more)
t-expr shapes names level here want (syntax.Joined logical'.Xor first at second more) l = t-joined shapes names level here want (syntax.Joined logical'.Xor first at second more) l (f-joined_rels names level here op.Xor first at second more)
t-expr shapes names level here want (syntax.Joined logical'.AndThen first at second more) l = t-joined shapes names level here want (syntax.Joined logical'.AndThen first at second more) l (f-short_form names level here true first at second more)
t-expr shapes names level here want (syntax.Joined logical'.OrElse first at second more) l = t-joined shapes names level here want (syntax.Joined logical'.OrElse first at second more) l (f-short_form names level here false first at second more)
