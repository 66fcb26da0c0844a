-- What is found fits: what operators join, where what primaries and names are found to be fits.
use Rattle.std.proofs.Common.{ℕ, Option, Some, None, Bool, true, false, option_map}
use Rattle.syntax_tree.specs.declared.operators.Multiplicative.{Multiplicative}
use Rattle.syntax_tree.specs.declared.operators.Multiplicative.TheVariants as multiplicative
use Rattle.ada_base.specs.Operation.{IsNoPower}
use Rattle.std.specs.Prelude.{is_some}
use Rattle.ada_base.specs.declared.operation.Op.TheVariants as op
use Rattle.ada_base.specs.declared.operation.Op.{Op}
use Rattle.syntax_tree.specs.FirstTokens as first_token
use Rattle.syntax_tree.specs.Syntax as syntax
use Rattle.syntax_tree.specs.Syntax.{Adding, Addings, Conjuncts, Expr, Factor, Multiplying, Multiplyings, Name, Primary, Rel, Simple, Term}
use Rattle.syntax_tree.specs.declared.operators.Additive.TheVariants as additive
use Rattle.syntax_tree.specs.declared.operators.Logical.TheVariants as logical'
use Rattle.syntax_tree.specs.declared.operators.Sign.{Sign as Signed}
use Rattle.syntax_tree.specs.declared.operators.Sign.TheVariants as sign
use Rattle.typed_tree.specs.Decoded.{TypedPart}
use Rattle.typed_tree.specs.declared.expressions.Sign.TheVariants as unary'
use Rattle.name_rules.specs.Expressions.{Inside, added, adding, blamed, condition, conjoined, expr, factor, first_term, first_wanted, in_place, joined_rels, judged_alone, multiplied, multiplying, multiplying_op, rel, short_form, short_found, short_join, short_operand, short_operands, simple, term, value_for}
use Rattle.name_rules.specs.Found.{Found}
use Rattle.name_rules.specs.Judging.{fault, given, joined}
use Rattle.name_rules.specs.Operators.{binary, joined_text, logical, not_of, plain, unary}
use Rattle.name_rules.specs.Scope.{scalar_named}
use Rattle.name_rules.specs.Types.{wanted_of}
use Rattle.name_rules.specs.Values.{asked, is_kind, kind_of, stored}
use Rattle.name_rules.specs.declared.found.Found.TheVariants as known
use Rattle.name_rules.specs.declared.found.Found.{Found as Known}
use Rattle.name_rules.specs.declared.log.Rule.TheVariants.{WrongType}
use Rattle.name_rules.specs.declared.scope.Context.{Context}
use Rattle.name_rules.specs.declared.scope.Names.{Names}
use Rattle.name_rules.specs.declared.types.Kind.TheVariants as kind
use Rattle.name_rules.specs.declared.types.Subtype.{Subtype}
use Rattle.name_rules.specs.declared.types.Wanted.TheVariants as wanted
use Rattle.name_rules.specs.declared.types.Wanted.{Wanted}
use Rattle.name_laws.proofs.Makes.{Any, Makes, Maybe, joint, m-bind, m-fault, m-given, m-if, m-pure, m-some, mapped}
use Rattle.name_laws.proofs.MakesOperators.{m-binary, m-compared, m-joined_text, m-logical, m-membership, m-not_of, m-of_subtype, m-plain, m-power, m-unary}
use Rattle.name_laws.proofs.MakesScope.{DenotedOf, m-scalar_named}
use Rattle.name_laws.proofs.MakesValues.{AskedOf, FoundOf, SpanOf, ValueOf, m-asked, m-stored}
use Rattle.name_laws.proofs.Based.{spanning}
use Rattle.name_laws.proofs.Walked.{KeepsInside}
use Rattle.name_laws.specs.Based.{AreBased}

-- what primaries and names are found to be fits
pub record LevelFits (level : Inside) : Type 0 where
  pub keeps : KeepsInside spanning level
  pub primary : (here : Context) (p : Primary) (want : Wanted) → AreBased here.scope → Makes (Maybe FoundOf) (level.primary here p want)
  pub name : (here : Context) (x : Name) → AreBased here.scope → Makes (Maybe DenotedOf) (level.name here x)

abbrev pub Finding : Option Found → Type 0
Finding = Maybe FoundOf

-- ---- factors, terms and sums

m-factor : (level : Inside) (here : Context) (want : Wanted) (x : Factor) → LevelFits level → AreBased here.scope → Makes Finding (factor level here want x)
unfolding factor
m-factor level here want (syntax.Operand p) l r = l.primary here p want r
m-factor level here want (syntax.Power b at e) l r =
    m-bind Finding Finding (level.primary here b wanted.Other) _ (l.primary here b wanted.Other r) (λ x q. m-bind Finding Finding (level.primary here e wanted.Other) _ (l.primary here e wanted.Other r) (λ y s. m-power at x y q s))
m-factor level here want (syntax.Abs at p) l r = m-bind Finding Finding (level.primary here p wanted.Other) (unary unary'.Abs at) (l.primary here p wanted.Other r) (λ x q. m-unary unary'.Abs at x q)
m-factor level here want (syntax.Not at p) l r = m-bind Finding Finding (level.primary here p wanted.Other) (not_of at) (l.primary here p wanted.Other r) (λ x q. m-not_of at x q)

no-power : (by : Multiplicative) → IsNoPower (multiplying_op by)
no-power multiplicative.Times = tt
no-power multiplicative.Over = tt
no-power multiplicative.Mod = tt
no-power multiplicative.Rem = tt

m-multiplying : (level : Inside) (here : Context) (x : Option Found) (m : Multiplying) → LevelFits level → AreBased here.scope → Finding x → Makes Finding (multiplying level here x m)
unfolding multiplying
m-multiplying level here x (syntax.multiplying by at f) l r q = m-bind Finding Finding (factor level here wanted.Other f) (binary (multiplying_op by) at x) (m-factor level here wanted.Other f l r) (λ y s. m-binary (multiplying_op by) at x y (no-power by) q s)

m-multiplied : (level : Inside) (here : Context) (x : Option Found) (ms : Multiplyings) → LevelFits level → AreBased here.scope → Finding x → Makes Finding (multiplied level here x ms)
m-multiplied level here x syntax.NoMultiplying l r q = m-pure Finding x q
m-multiplied level here x (syntax.AlsoMultiplying m ms) l r q = m-bind Finding Finding (multiplying level here x m) _ (m-multiplying level here x m l r q) (λ y s. m-multiplied level here y ms l r s)

m-term : (level : Inside) (here : Context) (want : Wanted) (x : Term) → LevelFits level → AreBased here.scope → Makes Finding (term level here want x)
unfolding term
m-term level here want (syntax.Product f syntax.NoMultiplying) l r = m-factor level here want f l r
m-term level here want (syntax.Product f (syntax.AlsoMultiplying m ms)) l r =
    m-bind Finding Finding (factor level here wanted.Other f) (λ x. multiplied level here x (syntax.AlsoMultiplying m ms)) (m-factor level here wanted.Other f l r) (λ x q. m-multiplied level here x (syntax.AlsoMultiplying m ms) l r q)

m-adding : (level : Inside) (here : Context) (x : Option Found) (a : Adding) → LevelFits level → AreBased here.scope → Finding x → Makes Finding (adding level here x a)
unfolding adding
m-adding level here x (syntax.adding additive.Plus at t) l r q = m-bind Finding Finding (term level here wanted.Other t) (binary op.Add at x) (m-term level here wanted.Other t l r) (λ y s. m-binary op.Add at x y tt q s)
m-adding level here x (syntax.adding additive.Minus at t) l r q = m-bind Finding Finding (term level here wanted.Other t) (binary op.Sub at x) (m-term level here wanted.Other t l r) (λ y s. m-binary op.Sub at x y tt q s)
m-adding level here x (syntax.adding additive.Joined at t) l r q = m-bind Finding Finding (term level here wanted.Text t) (joined_text at x) (m-term level here wanted.Text t l r) (λ y s. m-joined_text at x y q s)

m-added : (level : Inside) (here : Context) (x : Option Found) (as' : Addings) → LevelFits level → AreBased here.scope → Finding x → Makes Finding (added level here x as')
m-added level here x syntax.NoAdding l r q = m-pure Finding x q
m-added level here x (syntax.AlsoAdding a as') l r q = m-bind Finding Finding (adding level here x a) _ (m-adding level here x a l r q) (λ y s. m-added level here y as' l r s)

m-first_term : (level : Inside) (here : Context) (want : Wanted) (s : Option Signed) (t : Term) → LevelFits level → AreBased here.scope → Makes Finding (first_term level here want s t)
m-first_term level here want None t l r = m-term level here want t l r
m-first_term level here want (Some (sign.Plus at)) t l r = m-bind Finding Finding (term level here wanted.Other t) (plain at) (m-term level here wanted.Other t l r) (λ x q. m-plain at x q)
m-first_term level here want (Some (sign.Minus at)) t l r = m-bind Finding Finding (term level here wanted.Other t) (unary unary'.Minus at) (m-term level here wanted.Other t l r) (λ x q. m-unary unary'.Minus at x q)

m-in_place : (want : Wanted) (k : Known) (f : Found) → FoundOf f → Makes Finding (in_place want k f)
m-in_place wanted.Text k f h = m-some FoundOf f h
m-in_place want (known.Text first) f h = m-fault FoundOf first WrongType
m-in_place want k f h = m-some FoundOf f h

pub m-placed : (want : Wanted) (x : Option Found) → Finding x → Makes Finding (given x (λ f. in_place want f.known f))
m-placed want x h = m-given FoundOf FoundOf x _ h (λ f q. m-in_place want f.known f q)

pub m-simple : (level : Inside) (here : Context) (want : Wanted) (x : Simple) → LevelFits level → AreBased here.scope → Makes Finding (simple level here want x)
unfolding simple
m-simple level here want (syntax.Sum s t as') l r =
    m-bind Finding Finding (first_term level here (first_wanted want as') s t) _ (m-first_term level here (first_wanted want as') s t l r) (λ x q.
    m-bind Finding Finding (added level here x as') _ (m-added level here x as' l r q) (λ y s. m-placed want y s))

-- ---- relations and logical operators

m-rel : (names : Names) (level : Inside) (here : Context) (want : Wanted) (x : Rel) → LevelFits level → AreBased here.scope → Makes Finding (rel names level here want x)
unfolding rel
m-rel names level here want (syntax.Alone s) l r = m-simple level here want s l r
m-rel names level here want (syntax.Compared left c at right) l r =
    m-bind Finding Finding (simple level here wanted.Other left) _ (m-simple level here wanted.Other left l r) (λ x p.
    m-bind Finding Finding (simple level here wanted.Other right) _ (m-simple level here wanted.Other right l r) (λ y q. m-compared c at x y p q))
m-rel names level here want (syntax.Within value negation at low high) l r =
    m-bind Finding Finding (simple level here wanted.Other value) _ (m-simple level here wanted.Other value l r) (λ x p.
    m-bind Finding Finding (simple level here wanted.Other low) _ (m-simple level here wanted.Other low l r) (λ y q.
    m-bind Finding Finding (simple level here wanted.Other high) _ (m-simple level here wanted.Other high l r) (λ z s. m-membership (blamed negation at) (is_some negation) x y z p q s)))
m-rel names level here want (syntax.OfMark value negation at mark) l r =
    m-bind Finding Finding (simple level here wanted.Other value) _ (m-simple level here wanted.Other value l r) (λ x p.
    m-bind (Maybe SpanOf) Finding (scalar_named names here mark) _ (m-scalar_named names here mark r) (λ s q. m-of_subtype (blamed negation at) (is_some negation) mark x s p q))

m-conjoined : (names : Names) (level : Inside) (here : Context) (o : Op) (x : Option Found) (cs : Conjuncts) → LevelFits level → AreBased here.scope → Finding x → Makes Finding (conjoined names level here o x cs)
m-conjoined names level here o x syntax.NoConjunct l r h = m-pure Finding x h
m-conjoined names level here o x (syntax.AlsoConjunct (syntax.conjunct at c) cs) l r h =
    m-bind Finding Finding (rel names level here wanted.Other c) _ (m-rel names level here wanted.Other c l r) (λ y q.
    m-bind Finding Finding (logical o at x y) _ (m-logical o at x y h q) (λ z s. m-conjoined names level here o z cs l r s))

m-joined_rels : (names : Names) (level : Inside) (here : Context) (o : Op) (first : Rel) (at : ℕ) (second : Rel) (more : Conjuncts) → LevelFits level → AreBased here.scope → Makes Finding (joined_rels names level here o first at second more)
m-joined_rels names level here o first at second more l r =
    m-bind Finding Finding (rel names level here wanted.Other first) _ (m-rel names level here wanted.Other first l r) (λ x p.
    m-bind Finding Finding (rel names level here wanted.Other second) _ (m-rel names level here wanted.Other second l r) (λ y q.
    m-bind Finding Finding (logical o at x y) _ (m-logical o at x y p q) (λ z s. m-conjoined names level here o z more l r s)))

abbrev Condition : Option TypedPart → Type 0
Condition = Maybe (AskedOf kind.Boolean)

m-short_operand : (names : Names) (level : Inside) (here : Context) (at : ℕ) (c : Rel) → LevelFits level → AreBased here.scope → Makes Condition (short_operand names level here at c)
m-short_operand names level here at c l r =
    m-bind Finding Condition (rel names level here wanted.Other c) _ (m-rel names level here wanted.Other c l r) (λ x q.
    m-given FoundOf (AskedOf kind.Boolean) x _ q (λ f s. m-if Condition (is_kind kind.Boolean (kind_of f.known)) (asked kind.Boolean f) (fault at WrongType) (m-asked kind.Boolean f s) (m-fault (AskedOf kind.Boolean) at WrongType)))

short-join : (all : Bool) (x y : TypedPart) → AskedOf kind.Boolean x → AskedOf kind.Boolean y → AskedOf kind.Boolean (short_join all x y)
short-join true x y g h = (g, h)
short-join false x y g h = (g, h)

m-short_operands : (names : Names) (level : Inside) (here : Context) (all : Bool) (x : Option TypedPart) (cs : Conjuncts) → LevelFits level → AreBased here.scope → Condition x → Makes Condition (short_operands names level here all x cs)
m-short_operands names level here all x syntax.NoConjunct l r h = m-pure Condition x h
m-short_operands names level here all x (syntax.AlsoConjunct (syntax.conjunct at c) cs) l r h =
    m-bind Condition Condition (short_operand names level here at c) _ (m-short_operand names level here at c l r) (λ y q.
    m-short_operands names level here all (joined (short_join all) x y) cs l r (joint (AskedOf kind.Boolean) (AskedOf kind.Boolean) (AskedOf kind.Boolean) (short_join all) x y h q (short-join all)))

m-short_form : (names : Names) (level : Inside) (here : Context) (all : Bool) (first : Rel) (at : ℕ) (second : Rel) (more : Conjuncts) → LevelFits level → AreBased here.scope → Makes Finding (short_form names level here all first at second more)
m-short_form names level here all first at second more l r =
    m-bind Condition Finding (short_operand names level here at first) _ (m-short_operand names level here at first l r) (λ x p.
    m-bind Condition Finding (short_operands names level here all x (syntax.AlsoConjunct (syntax.conjunct at second) more)) _ (m-short_operands names level here all x (syntax.AlsoConjunct (syntax.conjunct at second) more) l r p) (λ z q.
    m-pure Finding (option_map (short_found (first_token.of_rel first)) z) (mapped (AskedOf kind.Boolean) FoundOf (short_found (first_token.of_rel first)) z q (λ e s. s))))

pub m-expr : (names : Names) (level : Inside) (here : Context) (want : Wanted) (x : Expr) → LevelFits level → AreBased here.scope → Makes Finding (expr names level here want x)
unfolding expr
m-expr names level here want (syntax.Single x) l r = m-rel names level here want x l r
m-expr names level here want (syntax.Joined logical'.And first at second more) l r = m-joined_rels names level here op.And first at second more l r
m-expr names level here want (syntax.Joined logical'.Or first at second more) l r = m-joined_rels names level here op.Or first at second more l r
m-expr names level here want (syntax.Joined logical'.Xor first at second more) l r = m-joined_rels names level here op.Xor first at second more l r
m-expr names level here want (syntax.Joined logical'.AndThen first at second more) l r = m-short_form names level here true first at second more l r
m-expr names level here want (syntax.Joined logical'.OrElse first at second more) l r = m-short_form names level here false first at second more l r

-- ---- expressions in a place

pub m-condition : (names : Names) (level : Inside) (here : Context) (e : Expr) → LevelFits level → AreBased here.scope → Makes (Maybe (AskedOf kind.Boolean)) (condition names level here e)
unfolding condition
m-condition names level here e l r = m-bind Finding Condition (expr names level here wanted.Other e) _ (m-expr names level here wanted.Other e l r) (λ x q. m-given FoundOf (AskedOf kind.Boolean) x (asked kind.Boolean) q (λ f s. m-asked kind.Boolean f s))

pub m-value_for : (names : Names) (level : Inside) (here : Context) (s : Subtype) (e : Expr) → LevelFits level → AreBased here.scope → Makes (Maybe ValueOf) (value_for names level here s e)
unfolding value_for
m-value_for names level here s e l r =
    m-bind Finding (Maybe ValueOf) (expr names level here (wanted_of s) e) _ (m-expr names level here (wanted_of s) e l r) (λ x q. m-given FoundOf ValueOf x (stored s (first_token.of_expr e)) q (λ f p. m-stored s (first_token.of_expr e) f p))

pub m-judged_alone : (names : Names) (level : Inside) (here : Context) (e : Expr) → LevelFits level → AreBased here.scope → Makes Any (judged_alone names level here e)
unfolding judged_alone
m-judged_alone names level here e l r = m-bind Finding Any (expr names level here wanted.Unknown e) _ (m-expr names level here wanted.Unknown e l r) (λ x q. m-pure Any tt tt)
