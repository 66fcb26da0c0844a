-- What is judged without a fault is found: what operators join.
use Rattle.std.proofs.Common.{◌≡◌, refl, sym, subst, ℕ, Option, Some, None, Bool, true, false}
use Rattle.std.specs.Prelude.{is_some}
use Rattle.ada_base.specs.declared.operation.Op.TheVariants as op
use Rattle.ada_base.specs.declared.operation.Op.{Op}
use Rattle.syntax_tree.specs.FirstTokens as first_token
use Rattle.syntax_tree.specs.Syntax as syntax
use Rattle.syntax_tree.specs.Syntax.{Adding, Addings, Conjuncts, Expr, Factor, Multiplying, Multiplyings, Rel, Simple, Term}
use Rattle.syntax_tree.specs.declared.operators.Additive.TheVariants as additive
use Rattle.syntax_tree.specs.declared.operators.Logical.TheVariants as logical'
use Rattle.syntax_tree.specs.declared.operators.Sign.{Sign as Signed}
use Rattle.syntax_tree.specs.declared.operators.Sign.TheVariants as sign
use Rattle.typed_tree.specs.Decoded.{TypedPart}
use Rattle.typed_tree.specs.declared.expressions.Sign.TheVariants as unary'
use Rattle.name_rules.specs.Expressions.{Inside, added, adding, blamed, condition, conjoined, expr, factor, first_term, first_wanted, in_place, joined_rels, judged_alone, multiplied, multiplying, multiplying_op, rel, short_form, short_found, short_join, short_operand, short_operands, simple, term, term_form, value_for}
use Rattle.name_rules.specs.Found.{Found}
use Rattle.name_rules.specs.Judging.{Judging, joined, pure}
use Rattle.name_rules.specs.Operators.{logical}
use Rattle.name_rules.specs.Scope.{scalar_named}
use Rattle.name_rules.specs.Shapes.{is_aggregate, primary_of_expr, primary_of_simple}
use Rattle.name_rules.specs.Types.{wanted_of}
use Rattle.name_rules.specs.Values.{is_kind, kind_of}
use Rattle.name_rules.specs.declared.found.Found.TheVariants as known
use Rattle.name_rules.specs.declared.found.Found.{Found as Known}
use Rattle.name_rules.specs.declared.log.Rule.TheVariants.{WrongType}
use Rattle.name_rules.specs.declared.scope.Context.{Context}
use Rattle.name_rules.specs.declared.scope.Names.{Names}
use Rattle.name_rules.specs.declared.types.Kind.TheVariants as kind
use Rattle.name_rules.specs.declared.types.Subtype.{Subtype}
use Rattle.name_rules.specs.declared.types.Subtype.TheVariants as subtype
use Rattle.name_rules.specs.declared.types.Wanted.TheVariants as wanted
use Rattle.name_rules.specs.declared.types.Wanted.{Wanted}
use Rattle.name_complete.proofs.Explains.{Any, Is, Sound, differ, joint, mapped, no, s-alone, s-bind, s-fault, s-given, s-if, s-pure, s-some, s-weaken, there, weaker}
use Rattle.name_complete.proofs.Facts.{Clear, Fit, FoundFor, FoundOk, LevelSound, Plain, RestOf, other-fits}
use Rattle.name_complete.proofs.SoundOperators.{s-binary, s-compared, s-joined_text, s-logical, s-membership, s-not_of, s-of_subtype, s-plain, s-power, s-unary}
use Rattle.name_complete.proofs.SoundScope.{s-scalar_named}
use Rattle.name_complete.proofs.SoundValues.{s-asked, s-stored}

-- what is no string fits each place
pub s-fits : (G : Type 0) (want : Wanted) (p : Judging (Option Found)) → Sound G (Is FoundOk) p → Sound G (Is (FoundFor want)) p
s-fits G want p m = s-weaken G (Is FoundOk) (Is (FoundFor want)) p m (λ x g q. weaker FoundOk (FoundFor want) x q (λ f. other-fits want f.known))

text-fits : (want : Wanted) (k : Known) → Fit want k → Fit wanted.Text k
text-fits want (known.Rest first) h = h
text-fits want (known.Text first) h = tt
text-fits want k h = tt

as-text : (want : Wanted) (x : Option Found) → Is (FoundFor want) x → Is (FoundFor wanted.Text) x
as-text want x h = weaker (FoundFor want) (FoundFor wanted.Text) x h (λ f. text-fits want f.known)

-- ---- factors and terms

s-factor : (G : Type 0) (level : Inside) (here : Context) (want : Wanted) (f : Factor) → LevelSound level → (G → Clear here) → (G → Plain want) → Sound G (Is (FoundFor want)) (factor level here want f)
unfolding factor
s-factor G level here want (syntax.Operand p) l c w = l.primary G here p want c w
s-factor G level here want (syntax.Power b at e) l c w =
    s-bind G (Is FoundOk) (Is (FoundFor want)) (level.primary here b wanted.Other) _ (l.primary G here b wanted.Other c (λ g. tt)) (λ x.
    s-bind _ (Is FoundOk) (Is (FoundFor want)) (level.primary here e wanted.Other) _ (l.primary _ here e wanted.Other (λ g. c g.0) (λ g. tt)) (λ y.
    s-fits _ want _ (s-power _ at x y (λ g. there FoundOk x g.0.1) (λ g. there FoundOk y g.1))))
s-factor G level here want (syntax.Abs at p) l c w =
    s-bind G (Is FoundOk) (Is (FoundFor want)) (level.primary here p wanted.Other) _ (l.primary G here p wanted.Other c (λ g. tt)) (λ x. s-fits _ want _ (s-unary _ unary'.Abs at x (λ g. there FoundOk x g.1)))
s-factor G level here want (syntax.Not at p) l c w =
    s-bind G (Is FoundOk) (Is (FoundFor want)) (level.primary here p wanted.Other) _ (l.primary G here p wanted.Other c (λ g. tt)) (λ x. s-fits _ want _ (s-not_of _ at x (λ g. there FoundOk x g.1)))

s-multiplying : (G : Type 0) (level : Inside) (here : Context) (x : Option Found) (m : Multiplying) → LevelSound level → (G → Clear here) → (G → Is FoundOk x) → Sound G (Is FoundOk) (multiplying level here x m)
unfolding multiplying
s-multiplying G level here x (syntax.multiplying by at f) l c h =
    s-bind G (Is FoundOk) (Is FoundOk) (factor level here wanted.Other f) _ (s-factor G level here wanted.Other f l c (λ g. tt)) (λ y. s-binary _ (multiplying_op by) at x y (λ g. there FoundOk x (h g.0)) (λ g. there FoundOk y g.1))

s-multiplied : (G : Type 0) (level : Inside) (here : Context) (x : Option Found) (ms : Multiplyings) → LevelSound level → (G → Clear here) → (G → Is FoundOk x) → Sound G (Is FoundOk) (multiplied level here x ms)
s-multiplied G level here x syntax.NoMultiplying l c h = s-pure G (Is FoundOk) x h
s-multiplied G level here x (syntax.AlsoMultiplying m ms) l c h =
    s-bind G (Is FoundOk) (Is FoundOk) (multiplying level here x m) _ (s-multiplying G level here x m l c h) (λ y. s-multiplied _ level here y ms l (λ g. c g.0) (λ g. g.1))

s-term_form : (G : Type 0) (level : Inside) (here : Context) (want : Wanted) (f : Factor) (ms : Multiplyings) → LevelSound level → (G → Clear here) → (G → Plain want) → Sound G (Is (FoundFor want)) (term_form level here want f ms)
s-term_form G level here want f syntax.NoMultiplying l c w = s-factor G level here want f l c w
s-term_form G level here want f (syntax.AlsoMultiplying m ms) l c w =
    s-bind G (Is FoundOk) (Is (FoundFor want)) (factor level here wanted.Other f) _ (s-factor G level here wanted.Other f l c (λ g. tt)) (λ x.
    s-fits _ want _ (s-multiplied _ level here x (syntax.AlsoMultiplying m ms) l (λ g. c g.0) (λ g. g.1)))

s-term : (G : Type 0) (level : Inside) (here : Context) (want : Wanted) (t : Term) → LevelSound level → (G → Clear here) → (G → Plain want) → Sound G (Is (FoundFor want)) (term level here want t)
unfolding term
s-term G level here want (syntax.Product f ms) l c w = s-term_form G level here want f ms l c w

-- ---- sums

s-adding : (G : Type 0) (level : Inside) (here : Context) (x : Option Found) (a : Adding) → LevelSound level → (G → Clear here) → (G → Is (FoundFor wanted.Text) x) → Sound G (Is (FoundFor wanted.Text)) (adding level here x a)
unfolding adding
s-adding G level here x (syntax.adding additive.Plus at t) l c h =
    s-bind G (Is FoundOk) (Is (FoundFor wanted.Text)) (term level here wanted.Other t) _ (s-term G level here wanted.Other t l c (λ g. tt)) (λ y.
    s-fits _ wanted.Text _ (s-binary _ op.Add at x y (λ g. there (FoundFor wanted.Text) x (h g.0)) (λ g. there FoundOk y g.1)))
s-adding G level here x (syntax.adding additive.Minus at t) l c h =
    s-bind G (Is FoundOk) (Is (FoundFor wanted.Text)) (term level here wanted.Other t) _ (s-term G level here wanted.Other t l c (λ g. tt)) (λ y.
    s-fits _ wanted.Text _ (s-binary _ op.Sub at x y (λ g. there (FoundFor wanted.Text) x (h g.0)) (λ g. there FoundOk y g.1)))
s-adding G level here x (syntax.adding additive.Joined at t) l c h =
    s-bind G (Is (FoundFor wanted.Text)) (Is (FoundFor wanted.Text)) (term level here wanted.Text t) _ (s-term G level here wanted.Text t l c (λ g. tt)) (λ y.
    s-joined_text _ at x y (λ g. there (FoundFor wanted.Text) x (h g.0)) (λ g. there (FoundFor wanted.Text) y g.1))

s-added : (G : Type 0) (level : Inside) (here : Context) (x : Option Found) (as' : Addings) → LevelSound level → (G → Clear here) → (G → Is (FoundFor wanted.Text) x) → Sound G (Is (FoundFor wanted.Text)) (added level here x as')
s-added G level here x syntax.NoAdding l c h = s-pure G (Is (FoundFor wanted.Text)) x h
s-added G level here x (syntax.AlsoAdding a as') l c h =
    s-bind G (Is (FoundFor wanted.Text)) (Is (FoundFor wanted.Text)) (adding level here x a) _ (s-adding G level here x a l c h) (λ y. s-added _ level here y as' l (λ g. c g.0) (λ g. g.1))

plain-first : (want : Wanted) (as' : Addings) → Plain want → Plain (first_wanted want as')
plain-first want syntax.NoAdding h = h
plain-first want (syntax.AlsoAdding (syntax.adding additive.Joined at t) as') h = tt
plain-first want (syntax.AlsoAdding (syntax.adding additive.Plus at t) as') h = tt
plain-first want (syntax.AlsoAdding (syntax.adding additive.Minus at t) as') h = tt

s-first_term : (G : Type 0) (level : Inside) (here : Context) (want : Wanted) (s : Option Signed) (t : Term) → LevelSound level → (G → Clear here) → (G → Plain want) → Sound G (Is (FoundFor want)) (first_term level here want s t)
s-first_term G level here want None t l c w = s-term G level here want t l c w
s-first_term G level here want (Some (sign.Plus at)) t l c w =
    s-bind G (Is FoundOk) (Is (FoundFor want)) (term level here wanted.Other t) _ (s-term G level here wanted.Other t l c (λ g. tt)) (λ y. s-fits _ want _ (s-plain _ at y (λ g. there FoundOk y g.1)))
s-first_term G level here want (Some (sign.Minus at)) t l c w =
    s-bind G (Is FoundOk) (Is (FoundFor want)) (term level here wanted.Other t) _ (s-term G level here wanted.Other t l c (λ g. tt)) (λ y. s-fits _ want _ (s-unary _ unary'.Minus at y (λ g. there FoundOk y g.1)))

pub s-in_place : (G : Type 0) (want : Wanted) (k : Known) (f : Found) → f.known ≡ k → (G → FoundFor wanted.Text f) → Sound G (Is (FoundFor want)) (in_place want k f)
s-in_place G wanted.Text k f e h = s-some G (FoundFor wanted.Text) f h
s-in_place G want (known.Text first) f e h = s-fault G (Is (FoundFor want)) first WrongType
s-in_place G want (known.Rest first) f e h = s-some G (FoundFor want) f (λ g. absurd (subst (Fit wanted.Text) e (h g)))
s-in_place G want k f e h = s-some G (FoundFor want) f (λ g. subst (Fit want) (sym e) tt)

pub s-simple : (G : Type 0) (level : Inside) (here : Context) (want : Wanted) (s : Simple) → LevelSound level → (G → Clear here) → (G → Plain want) → Sound G (Is (FoundFor want)) (simple level here want s)
unfolding simple
s-simple G level here want (syntax.Sum s t as') l c w =
    s-bind G (Is (FoundFor (first_wanted want as'))) (Is (FoundFor want)) (first_term level here (first_wanted want as') s t) _ (s-first_term G level here (first_wanted want as') s t l c (λ g. plain-first want as' (w g))) (λ x.
    s-bind _ (Is (FoundFor wanted.Text)) (Is (FoundFor want)) (added level here x as') _ (s-added _ level here x as' l (λ g. c g.0) (λ g. as-text (first_wanted want as') x g.1)) (λ y.
    s-given _ (FoundFor wanted.Text) (FoundFor want) y _ (λ g. g.1) (λ f. s-in_place _ want f.known f refl (λ g. g.1))))

-- ---- relations and logical operators

pub s-rel : (G : Type 0) (names : Names) (level : Inside) (here : Context) (want : Wanted) (r : Rel) → LevelSound level → (G → Clear here) → (G → Plain want) → Sound G (Is (FoundFor want)) (rel names level here want r)
unfolding rel
s-rel G names level here want (syntax.Alone s) l c w = s-simple G level here want s l c w
s-rel G names level here want (syntax.Compared left by at right) l c w =
    s-bind G (Is FoundOk) (Is (FoundFor want)) (simple level here wanted.Other left) _ (s-simple G level here wanted.Other left l c (λ g. tt)) (λ x.
    s-bind _ (Is FoundOk) (Is (FoundFor want)) (simple level here wanted.Other right) _ (s-simple _ level here wanted.Other right l (λ g. c g.0) (λ g. tt)) (λ y.
    s-fits _ want _ (s-compared _ by at x y (λ g. there FoundOk x g.0.1) (λ g. there FoundOk y g.1))))
s-rel G names level here want (syntax.Within value negation at low high) l c w =
    s-bind G (Is FoundOk) (Is (FoundFor want)) (simple level here wanted.Other value) _ (s-simple G level here wanted.Other value l c (λ g. tt)) (λ x.
    s-bind _ (Is FoundOk) (Is (FoundFor want)) (simple level here wanted.Other low) _ (s-simple _ level here wanted.Other low l (λ g. c g.0) (λ g. tt)) (λ y.
    s-bind _ (Is FoundOk) (Is (FoundFor want)) (simple level here wanted.Other high) _ (s-simple _ level here wanted.Other high l (λ g. c g.0.0) (λ g. tt)) (λ z.
    s-fits _ want _ (s-membership _ (blamed negation at) (is_some negation) x y z (λ g. there FoundOk x g.0.0.1) (λ g. there FoundOk y g.0.1) (λ g. there FoundOk z g.1)))))
s-rel G names level here want (syntax.OfMark value negation at mark) l c w =
    s-bind G (Is FoundOk) (Is (FoundFor want)) (simple level here wanted.Other value) _ (s-simple G level here wanted.Other value l c (λ g. tt)) (λ x.
    s-bind _ (Is Any) (Is (FoundFor want)) (scalar_named names here mark) _ (s-scalar_named _ names here mark (λ g. c g.0)) (λ s.
    s-fits _ want _ (s-of_subtype _ (blamed negation at) (is_some negation) mark x s (λ g. there FoundOk x g.0.1) (λ g. g.1))))

s-conjoined : (G : Type 0) (names : Names) (level : Inside) (here : Context) (o : Op) (x : Option Found) (cs : Conjuncts) → LevelSound level → (G → Clear here) → (G → Is FoundOk x) → Sound G (Is FoundOk) (conjoined names level here o x cs)
s-conjoined G names level here o x syntax.NoConjunct l c h = s-pure G (Is FoundOk) x h
s-conjoined G names level here o x (syntax.AlsoConjunct (syntax.conjunct at r) cs) l c h =
    s-bind G (Is FoundOk) (Is FoundOk) (rel names level here wanted.Other r) _ (s-rel G names level here wanted.Other r l c (λ g. tt)) (λ y.
    s-bind _ (Is FoundOk) (Is FoundOk) (logical o at x y) _ (s-logical _ o at x y (λ g. there FoundOk x (h g.0)) (λ g. there FoundOk y g.1)) (λ z.
    s-conjoined _ names level here o z cs l (λ g. c g.0.0) (λ g. g.1)))

s-joined_rels : (G : Type 0) (names : Names) (level : Inside) (here : Context) (want : Wanted) (o : Op) (first : Rel) (at : ℕ) (second : Rel) (more : Conjuncts) → LevelSound level → (G → Clear here)
    → Sound G (Is (FoundFor want)) (joined_rels names level here o first at second more)
s-joined_rels G names level here want o first at second more l c =
    s-bind G (Is FoundOk) (Is (FoundFor want)) (rel names level here wanted.Other first) _ (s-rel G names level here wanted.Other first l c (λ g. tt)) (λ x.
    s-bind _ (Is FoundOk) (Is (FoundFor want)) (rel names level here wanted.Other second) _ (s-rel _ names level here wanted.Other second l (λ g. c g.0) (λ g. tt)) (λ y.
    s-bind _ (Is FoundOk) (Is (FoundFor want)) (logical o at x y) _ (s-logical _ o at x y (λ g. there FoundOk x g.0.1) (λ g. there FoundOk y g.1)) (λ z.
    s-fits _ want _ (s-conjoined _ names level here o z more l (λ g. c g.0.0.0) (λ g. g.1)))))

s-short_operand : (G : Type 0) (names : Names) (level : Inside) (here : Context) (at : ℕ) (r : Rel) → LevelSound level → (G → Clear here) → Sound G (Is Any) (short_operand names level here at r)
s-short_operand G names level here at r l c =
    s-bind G (Is FoundOk) (Is Any) (rel names level here wanted.Other r) _ (s-rel G names level here wanted.Other r l c (λ g. tt)) (λ x.
    s-given _ FoundOk Any x _ (λ g. g.1) (λ f. s-if _ (Is Any) (is_kind kind.Boolean (kind_of f.known)) _ _ (s-asked _ kind.Boolean f) (no _ at WrongType)))

s-short_operands : (G : Type 0) (names : Names) (level : Inside) (here : Context) (all : Bool) (x : Option TypedPart) (cs : Conjuncts) → LevelSound level → (G → Clear here) → (G → Is Any x) → Sound G (Is Any) (short_operands names level here all x cs)
s-short_operands G names level here all x syntax.NoConjunct l c h = s-pure G (Is Any) x h
s-short_operands G names level here all x (syntax.AlsoConjunct (syntax.conjunct at r) cs) l c h =
    s-bind G (Is Any) (Is Any) (short_operand names level here at r) _ (s-short_operand G names level here at r l c) (λ y.
    s-short_operands _ names level here all (joined (short_join all) x y) cs l (λ g. c g.0) (λ g. joint Any Any Any (short_join all) x y (h g.0) g.1 (λ a b i j. tt)))

s-short_form : (G : Type 0) (names : Names) (level : Inside) (here : Context) (want : Wanted) (all : Bool) (first : Rel) (at : ℕ) (second : Rel) (more : Conjuncts) → LevelSound level → (G → Clear here)
    → Sound G (Is (FoundFor want)) (short_form names level here all first at second more)
s-short_form G names level here want all first at second more l c =
    s-bind G (Is Any) (Is (FoundFor want)) (short_operand names level here at first) _ (s-short_operand G names level here at first l c) (λ x.
    s-bind _ (Is Any) (Is (FoundFor want)) (short_operands names level here all x (syntax.AlsoConjunct (syntax.conjunct at second) more)) _ (s-short_operands _ names level here all x (syntax.AlsoConjunct (syntax.conjunct at second) more) l (λ g. c g.0) (λ g. g.1)) (λ z.
    s-pure _ (Is (FoundFor want)) _ (λ g. mapped Any (FoundFor want) (short_found (first_token.of_rel first)) z g.1 (λ e i. tt))))

pub s-expr : (G : Type 0) (names : Names) (level : Inside) (here : Context) (want : Wanted) (e : Expr) → LevelSound level → (G → Clear here) → (G → Plain want) → Sound G (Is (FoundFor want)) (expr names level here want e)
unfolding expr
s-expr G names level here want (syntax.Single r) l c w = s-rel G names level here want r l c w
s-expr G names level here want (syntax.Joined logical'.And first at second more) l c w = s-joined_rels G names level here want op.And first at second more l c
s-expr G names level here want (syntax.Joined logical'.Or first at second more) l c w = s-joined_rels G names level here want op.Or first at second more l c
s-expr G names level here want (syntax.Joined logical'.Xor first at second more) l c w = s-joined_rels G names level here want op.Xor first at second more l c
s-expr G names level here want (syntax.Joined logical'.AndThen first at second more) l c w = s-short_form G names level here want true first at second more l c
s-expr G names level here want (syntax.Joined logical'.OrElse first at second more) l c w = s-short_form G names level here want false first at second more l c

-- ---- an aggregate of the dimensions from one on

in-rest : (G : Type 0) (n i : ℕ) (k : Known) (f : Found) → f.known ≡ k → (G → RestOf f) → Sound G (Is RestOf) (in_place (wanted.Rest n i) k f)
in-rest G n i (known.Text first) f e h = s-fault G (Is RestOf) first WrongType
in-rest G n i k f e h = s-some G RestOf f h

pub s-rest : (G : Type 0) (names : Names) (level : Inside) (here : Context) (n i : ℕ) (e : Expr) → LevelSound level → (G → Clear here) → is_aggregate e ≡ true → Sound G (Is RestOf) (expr names level here (wanted.Rest n i) e)
unfolding expr rel simple term factor primary_of_expr primary_of_simple
s-rest G names level here n i (syntax.Single (syntax.Alone (syntax.Sum None (syntax.Product (syntax.Operand p) syntax.NoMultiplying) syntax.NoAdding))) l c h =
    s-bind G (Is RestOf) (Is RestOf) (level.primary here p (wanted.Rest n i)) _ (l.rest G here p n i h c) (λ x.
    s-bind _ (Is RestOf) (Is RestOf) (pure x) _ (s-pure _ (Is RestOf) x (λ g. g.1)) (λ y.
    s-given _ RestOf RestOf y _ (λ g. g.1) (λ f. in-rest _ n i f.known f refl (λ g. g.1))))
s-rest G names level here n i e l c h = differ (sym h)

-- ---- expressions in a place

pub s-condition : (G : Type 0) (names : Names) (level : Inside) (here : Context) (e : Expr) → LevelSound level → (G → Clear here) → Sound G (Is Any) (condition names level here e)
unfolding condition
s-condition G names level here e l c =
    s-bind G (Is FoundOk) (Is Any) (expr names level here wanted.Other e) _ (s-expr G names level here wanted.Other e l c (λ g. tt)) (λ x. s-given _ FoundOk Any x _ (λ g. g.1) (λ f. s-asked _ kind.Boolean f))

pub plain-of : (s : Subtype) → Plain (wanted_of s)
plain-of (subtype.Scalar s) = tt
plain-of (subtype.Composite n) = tt

pub s-value_for : (G : Type 0) (names : Names) (level : Inside) (here : Context) (s : Subtype) (e : Expr) → LevelSound level → (G → Clear here) → Sound G (Is Any) (value_for names level here s e)
unfolding value_for
s-value_for G names level here s e l c =
    s-bind G (Is (FoundFor (wanted_of s))) (Is Any) (expr names level here (wanted_of s) e) _ (s-expr G names level here (wanted_of s) e l c (λ g. plain-of s)) (λ x.
    s-given _ (FoundFor (wanted_of s)) Any x _ (λ g. g.1) (λ f. s-stored _ s (first_token.of_expr e) f))

-- nothing is asked of what an expression is for itself
pub s-judged_alone : (G : Type 0) (names : Names) (level : Inside) (here : Context) (e : Expr) → LevelSound level → Sound G Any (judged_alone names level here e)
unfolding judged_alone
s-judged_alone G names level here e l =
    s-bind G Any Any (expr names level here wanted.Unknown e) _ (s-alone G ⊥ (Is (FoundFor wanted.Unknown)) _ (s-expr ⊥ names level here wanted.Unknown e l (λ g. absurd g) (λ g. absurd g))) (λ x. s-pure _ Any tt (λ g. tt))
