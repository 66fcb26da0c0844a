-- What is found fits: the predefined procedures.
use Rattle.std.proofs.Common.{◌≡◌, refl, ℕ, ℤ, pos, Option, Some, None, Bool, true, false, if◌then◌else◌, option_map, ◌&&◌, ◌==◌, int_le, nat_le}
use Rattle.std.specs.Prelude.{not}
use Rattle.std.proofs.lemmas.Bool.{and_parts}
use Rattle.syntax_tree.specs.FirstTokens as first_token
use Rattle.syntax_tree.specs.Syntax as syntax
use Rattle.syntax_tree.specs.Syntax.{Args, Expr}
use Rattle.typed_tree.specs.Decoded as part
use Rattle.typed_tree.specs.Decoded.{TypedPart}
use Rattle.typed_tree.specs.Syntax as typed
use Rattle.typed_tree.specs.Syntax.{Selections}
use Rattle.name_rules.specs.Expressions.{Inside, expr, judged_alone}
use Rattle.name_rules.specs.Found.{Found}
use Rattle.name_rules.specs.Judging as judging
use Rattle.name_rules.specs.Judging.{◌>>=◌, breaks, fault, given, pure, some, unless}
use Rattle.name_rules.specs.Output.{Putting, alone_given, by_procedure, done_by, get_of, get_place, in_width, io_call, is_number_put, is_text, item_of, judged_arguments, no_name, nothing_put, others_alone, put_argument, put_arguments, put_by, put_complete, put_number, put_of_text, put_text, text_call, text_only, width_argument, width_of, width_or, with_count, with_width, without_arguments}
use Rattle.name_rules.specs.Symbols.{symbol, width_name}
use Rattle.name_rules.specs.TypedParts.{selections_of}
use Rattle.name_rules.specs.Types.{in_base, same, typed_scalar}
use Rattle.name_rules.specs.Values.{asked, first_of, literal, mentions_of, static_of_kind, suits}
use Rattle.name_rules.specs.declared.found.Found.TheVariants as known
use Rattle.name_rules.specs.declared.found.Found.{Found as Known}
use Rattle.name_rules.specs.declared.found.ObjectName.{ObjectName}
use Rattle.name_rules.specs.declared.found.Put.TheVariants as put
use Rattle.name_rules.specs.declared.found.Put.{Put}
use Rattle.name_rules.specs.declared.found.Reach.{Reach}
use Rattle.name_rules.specs.declared.log.Rule.TheVariants.{NotVisible, StaticRange, Twice, Unknown, WrongType}
use Rattle.name_rules.specs.declared.scope.Context.{Context}
use Rattle.name_rules.specs.declared.scope.Names.{Names}
use Rattle.name_rules.specs.declared.types.Kind.TheVariants as kind
use Rattle.name_rules.specs.declared.types.Subtype.{Subtype}
use Rattle.name_rules.specs.declared.types.Subtype.TheVariants as subtype
use Rattle.name_rules.specs.declared.types.Wanted.TheVariants as wanted
use Rattle.name_laws.proofs.Based.{base-between, spanning}
use Rattle.name_laws.proofs.KeepsOutput.{k-no_name, k-others_alone}
use Rattle.name_laws.proofs.KeepsValues.{k-static_of_kind}
use Rattle.name_laws.proofs.Makes.{Any, Each, Makes, Maybe, joint, m-bind, m-breaks, m-fault, m-given, m-if, m-kept, m-pure, m-some, m-test, m-unless, m-where_clean, mapped}
use Rattle.name_laws.proofs.MakesExpressions.{Finding, LevelFits, m-expr, m-judged_alone}
use Rattle.name_laws.proofs.MakesScope.{DenotedOf}
use Rattle.name_laws.proofs.MakesValues.{AskedOf, FoundOf, IsPiece, KnownOf, m-asked, pieces-fit, selections-fit}
use Rattle.name_laws.specs.Based.{AreBased}
use Rattle.name_laws.specs.Classes.{SelectionsFit}

-- ---- strings

abbrev TextOf : TypedPart → Type 0
TextOf x = Each IsPiece x

m-text_only : (f : Known) (x : TypedPart) → KnownOf f x → Makes (Maybe TextOf) (text_only f x)
m-text_only (known.Text first) x h = m-some TextOf x h
m-text_only f x h = m-fault TextOf (first_of f) WrongType

m-alone_given : {A : Type 0} (Q : A → Type 0) (at : ℕ) (as' : Args) (x : A) → Q x → Makes (Maybe Q) (alone_given at as' x)
m-alone_given Q at syntax.NoArg x h = m-some Q x h
m-alone_given Q at (syntax.AlsoArg a as') x h = m-fault Q at WrongType

m-text_call : (at first last : ℕ) (line : Bool) (more : Args) (f : Found) → FoundOf f → Makes (Maybe DenotedOf) (text_call at first last line more f)
m-text_call at first last line more f h =
    m-bind (Maybe FoundOf) (Maybe DenotedOf) (alone_given at more f) _ (m-alone_given FoundOf at more f h) (λ g q.
    m-given FoundOf DenotedOf g _ q (λ x r. m-bind (Maybe TextOf) (Maybe DenotedOf) (text_only x.known x.part) _ (m-text_only x.known x.part r) (λ ps s.
    m-pure (Maybe DenotedOf) (option_map (put_text first last line) ps) (mapped TextOf DenotedOf (put_text first last line) ps s (λ y t. pieces-fit y t)))))

-- ---- numbers

abbrev NumberOf : TypedPart → Type 0
NumberOf = AskedOf kind.Integer

few : (z : ℤ) → (int_le (pos 0) z && int_le z (pos 255)) ≡ true → in_base kind.Integer z ≡ true
few z e = let x = and_parts (int_le (pos 0) z) (int_le z (pos 255)) e in base-between kind.Integer (pos 0) (pos 255) z refl refl x.0 x.1

m-in_width : (f : Found) (z : ℤ) → Makes (Maybe NumberOf) (in_width f z)
m-in_width f z =
    m-test (Maybe NumberOf) (int_le (pos 0) z && int_le z (pos 255)) (some (literal (first_of f.known) z false (mentions_of f))) (fault (first_of f.known) StaticRange)
    (λ e. m-some NumberOf (literal (first_of f.known) z false (mentions_of f)) (few z e)) (m-fault NumberOf (first_of f.known) StaticRange)

m-width_of : (f : Found) → Makes (Maybe NumberOf) (width_of f)
unfolding width_of
m-width_of f =
    m-bind Any (Maybe NumberOf) (static_of_kind kind.Integer f) _ (m-kept (static_of_kind kind.Integer f) (k-static_of_kind spanning kind.Integer f)) (λ v q. m-given Any NumberOf v (in_width f) (any v) (λ z s. m-in_width f z))
  where
    any : (v : Option ℤ) → Maybe Any v
    any None = tt
    any (Some z) = tt

abbrev PuttingOf : Putting → Type 0
PuttingOf p = Maybe NumberOf p.item × Maybe NumberOf p.width

m-item_of : (b : Bool) (f : Found) → FoundOf f → Makes (Maybe NumberOf) (item_of b f)
m-item_of b f h = m-if (Maybe NumberOf) (suits kind.Integer f.known && b) (asked kind.Integer f) (fault (first_of f.known) WrongType) (m-asked kind.Integer f h) (m-fault NumberOf (first_of f.known) WrongType)

m-width_argument : (names : Names) (inside : Inside) (here : Context) (p : Putting) (e : Expr) → LevelFits inside → AreBased here.scope → PuttingOf p → Makes PuttingOf (width_argument names inside here p e)
m-width_argument names inside here p e l r h =
    m-bind Finding PuttingOf (expr names inside here wanted.Other e) _ (m-expr names inside here wanted.Other e l r) (λ x q.
    m-bind (Maybe NumberOf) PuttingOf (given x width_of) _ (m-given FoundOf NumberOf x width_of q (λ f s. m-width_of f)) (λ w t. m-pure PuttingOf (with_width p w) (h.0, t)))

m-counted : (names : Names) (inside : Inside) (here : Context) (p : Putting) (n : ℕ) (e : Expr) → LevelFits inside → AreBased here.scope → PuttingOf p → Makes PuttingOf (judged_alone names inside here e >>= λ v. pure (with_count p n))
m-counted names inside here p n e l r h = m-bind Any PuttingOf (judged_alone names inside here e) _ (m-judged_alone names inside here e l r) (λ v q. m-pure PuttingOf (with_count p n) h)

m-put_argument : (names : Names) (inside : Inside) (here : Context) (p : Putting) (n : Option ℕ) (e : Expr) (first : ℕ) → LevelFits inside → AreBased here.scope → PuttingOf p → Makes PuttingOf (put_argument names inside here p n e first)
m-put_argument names inside here p (Some name) e first l r h =
    m-if PuttingOf (symbol names name == width_name) _ _
    (m-bind Any PuttingOf (unless (not p.has_width) first Twice) _ (m-unless (not p.has_width) first Twice) (λ u q. m-width_argument names inside here p e l r h))
    (m-bind Any PuttingOf (breaks name Unknown) _ (m-breaks name Unknown) (λ u q. m-counted names inside here p 1 e l r h))
m-put_argument names inside here p None e first l r h = m-if PuttingOf (p.count == 1 && not p.has_width) (width_argument names inside here p e) _ (m-width_argument names inside here p e l r h) (m-counted names inside here p 2 e l r h)

m-put_arguments : (names : Names) (inside : Inside) (here : Context) (p : Putting) (as' : Args) → LevelFits inside → AreBased here.scope → PuttingOf p → Makes PuttingOf (put_arguments names inside here p as')
m-put_arguments names inside here p syntax.NoArg l r h = m-pure PuttingOf p h
m-put_arguments names inside here p (syntax.AlsoArg (syntax.arg name e) as') l r h =
    m-bind PuttingOf PuttingOf (put_argument names inside here p name e (first_token.of_arg (syntax.arg name e))) _ (m-put_argument names inside here p name e (first_token.of_arg (syntax.arg name e)) l r h) (λ q s. m-put_arguments names inside here q as' l r s)

width-or : (first : ℕ) (p : Putting) → PuttingOf p → Maybe NumberOf (width_or first p)
width-or first p h = by p.has_width
  where
    by : (b : Bool) → Maybe NumberOf (if b then p.width else Some (literal first (pos 11) false part.Nothing))
    by true = h.1
    by false = refl

m-put_complete : (at first last : ℕ) (p : Putting) → PuttingOf p → Makes (Maybe DenotedOf) (put_complete at first last p)
m-put_complete at first last p h =
    m-if (Maybe DenotedOf) (nat_le p.count 2) _ (fault at WrongType)
    (m-pure (Maybe DenotedOf) (judging.joined (put_number first last) p.item (width_or first p)) (joint NumberOf NumberOf DenotedOf (put_number first last) p.item (width_or first p) h.0 (width-or first p h) (λ a b s t. (tt, s, t, tt)))) (m-fault DenotedOf at WrongType)

-- ---- calls

abbrev JudgedOf : Option Found × Putting → Type 0
JudgedOf r = Finding r.0 × PuttingOf r.1

m-judged_arguments : (names : Names) (inside : Inside) (here : Context) (reach : Reach) (p : Put) (more : Args) (x : Option Found) → LevelFits inside → AreBased here.scope → Finding x → Makes JudgedOf (judged_arguments names inside here reach p more x)
m-judged_arguments names inside here reach p more x l r h =
    m-if JudgedOf (is_number_put p x) _ _
    (m-bind (Maybe NumberOf) JudgedOf (given x (item_of reach.integer_io)) _ (m-given FoundOf NumberOf x (item_of reach.integer_io) h (λ f s. m-item_of reach.integer_io f s)) (λ e q.
    m-bind PuttingOf JudgedOf (put_arguments names inside here (nothing_put 1 e) more) _ (m-put_arguments names inside here (nothing_put 1 e) more l r (q, tt)) (λ y t. m-pure JudgedOf (x, y) (h, t))))
    (m-bind Any JudgedOf (others_alone names inside here more) _ (m-kept (others_alone names inside here more) (k-others_alone spanning names inside here more tt l.keeps)) (λ u q. m-pure JudgedOf (x, nothing_put 1 None) (h, (tt, tt))))

m-put_of_text : (at first last : ℕ) (reach : Reach) (more : Args) (f : Found) → FoundOf f → Makes (Maybe DenotedOf) (put_of_text at first last reach more f)
m-put_of_text at first last reach more f h =
    m-if (Maybe DenotedOf) reach.text_io (text_call at first last false more f) _ (m-text_call at first last false more f h)
    (m-if (Maybe DenotedOf) reach.expanded (fault (first_of f.known) WrongType) (fault first NotVisible) (m-fault DenotedOf (first_of f.known) WrongType) (m-fault DenotedOf first NotVisible))

m-get_place : (first last : ℕ) (p : ObjectName) (ss : Selections) (s : Subtype) → SelectionsFit ss → Makes (Maybe DenotedOf) (get_place first last p ss s)
m-get_place first last p ss (subtype.Scalar s) h =
    m-if (Maybe DenotedOf) (p.variable && same s.kind kind.Integer) (some (done_by first (typed.Get first last p.first p.root ss (typed_scalar s)))) (fault p.first WrongType) (m-some DenotedOf (done_by first (typed.Get first last p.first p.root ss (typed_scalar s))) h) (m-fault DenotedOf p.first WrongType)
m-get_place first last p ss (subtype.Composite n) h = m-fault DenotedOf p.first WrongType

m-get_of : (first last : ℕ) (f : Known) (x : TypedPart) → KnownOf f x → Makes (Maybe DenotedOf) (get_of first last f x)
m-get_of first last (known.Object p) x h = m-get_place first last p (selections_of x) p.subtype (selections-fit x h.1)
m-get_of first last f x h = m-fault DenotedOf (first_of f) WrongType

m-put_by : (at first last : ℕ) (reach : Reach) (more : Args) (x : Option Found) (q : Putting) → Finding x → PuttingOf q → Makes (Maybe DenotedOf) (put_by at first last reach more x q)
m-put_by at first last reach more x q g h = m-if (Maybe DenotedOf) (is_text x) (given x (put_of_text at first last reach more)) (put_complete at first last q) (m-given FoundOf DenotedOf x (put_of_text at first last reach more) g (λ f s. m-put_of_text at first last reach more f s)) (m-put_complete at first last q h)

m-by_procedure : (at first last : ℕ) (reach : Reach) (more : Args) (p : Put) (r : Option Found × Putting) → JudgedOf r → Makes (Maybe DenotedOf) (by_procedure at first last reach more p r)
m-by_procedure at first last reach more put.Put r h = m-put_by at first last reach more r.0 r.1 h.0 h.1
m-by_procedure at first last reach more put.PutLine r h = m-given FoundOf DenotedOf r.0 (text_call at first last true more) h.0 (λ f s. m-text_call at first last true more f s)
m-by_procedure at first last reach more put.Get r h =
    m-given FoundOf DenotedOf r.0 _ h.0 (λ f s. m-bind (Maybe FoundOf) (Maybe DenotedOf) (alone_given at more f) _ (m-alone_given FoundOf at more f s) (λ g q. m-given FoundOf DenotedOf g _ q (λ x t. m-get_of first last x.known x.part t)))
m-by_procedure at first last reach more put.NewLine r h = m-fault DenotedOf at WrongType

m-without_arguments : (at first last : ℕ) (p : Put) → Makes (Maybe DenotedOf) (without_arguments at first last p)
m-without_arguments at first last put.NewLine = m-some DenotedOf (done_by first (typed.Put first last typed.NoPiece true)) tt
m-without_arguments at first last p = m-fault DenotedOf at WrongType

pub m-io_call : (names : Names) (inside : Inside) (here : Context) (at first last : ℕ) (p : Put) (reach : Reach) (as' : Args) → LevelFits inside → AreBased here.scope → Makes (Maybe DenotedOf) (io_call names inside here at first last p reach as')
unfolding io_call
m-io_call names inside here at first last p reach syntax.NoArg l r = m-without_arguments at first last p
m-io_call names inside here at first last p reach (syntax.AlsoArg (syntax.arg name e) as') l r =
    m-where_clean JudgedOf DenotedOf _ (by_procedure at first last reach as' p)
    (m-bind Any JudgedOf (no_name name) _ (m-kept (no_name name) (k-no_name spanning name)) (λ u q.
    m-bind Finding JudgedOf (expr names inside here wanted.Text e) (judged_arguments names inside here reach p as') (m-expr names inside here wanted.Text e l r) (λ x s. m-judged_arguments names inside here reach p as' x l r s)))
    (λ y t. m-by_procedure at first last reach as' p y t)
