-- What is judged without a fault is there: the predefined procedures.
use Rattle.std.proofs.Common.{◌≡◌, refl, sym, ◌∙◌, ℕ, ℤ, pos, Option, Some, None, Bool, true, false, true≢false, if◌then◌else◌, option_map, int_le, nat_le, not, ◌&&◌, ◌==◌}
use Rattle.syntax_tree.specs.FirstTokens as first_token
use Rattle.syntax_tree.specs.Syntax as syntax
use Rattle.syntax_tree.specs.Syntax.{Args, Expr}
use Rattle.typed_tree.specs.Decoded as part
use Rattle.typed_tree.specs.Decoded.{TypedPart}
use Rattle.typed_tree.specs.Syntax as typed
use Rattle.typed_tree.specs.Syntax.{Selections}
use Rattle.name_rules.specs.Expressions.{Inside, expr, judged_alone}
use Rattle.name_rules.specs.Found.{Found}
use Rattle.name_rules.specs.Judging.{◌>>=◌, breaks, fault, given, joined, pure, some, unless}
use Rattle.name_rules.specs.Output as o
use Rattle.name_rules.specs.Output.{Putting}
use Rattle.name_rules.specs.Symbols.{symbol, width_name}
use Rattle.name_rules.specs.TypedParts.{selections_of}
use Rattle.name_rules.specs.Types.{same, typed_scalar}
use Rattle.name_rules.specs.Values.{asked, first_of, literal, mentions_of, static_of_kind, suits}
use Rattle.name_rules.specs.declared.found.Found.TheVariants as known
use Rattle.name_rules.specs.declared.found.Found.{Found as Known}
use Rattle.name_rules.specs.declared.found.ObjectName.{ObjectName}
use Rattle.name_rules.specs.declared.found.Put.TheVariants as put
use Rattle.name_rules.specs.declared.found.Put.{Put}
use Rattle.name_rules.specs.declared.found.Reach.{Reach}
use Rattle.name_rules.specs.declared.log.Rule.TheVariants.{NotVisible, StaticRange, Twice, Unknown, WrongType}
use Rattle.name_rules.specs.declared.scope.Context.{Context}
use Rattle.name_rules.specs.declared.scope.Names.{Names}
use Rattle.name_rules.specs.declared.types.Kind.TheVariants as kind
use Rattle.name_rules.specs.declared.types.Subtype.TheVariants as subtype
use Rattle.name_rules.specs.declared.types.Subtype.{Subtype}
use Rattle.name_rules.specs.declared.types.Wanted.TheVariants as wanted
use Rattle.name_complete.proofs.Explains.{Any, Is, Sound, joint, mapped, s-bind, s-breaks, s-fault, s-given, s-if, s-pure, s-some, s-test, s-unless, s-where_clean}
use Rattle.name_complete.proofs.Facts.{Clear, DenotedOf, FoundFor, LevelSound}
use Rattle.name_complete.proofs.SoundExpressions.{s-expr, s-judged_alone}
use Rattle.name_complete.proofs.SoundValues.{s-asked, s-static_of_kind}

s-no_name : (G : Type 0) (name : Option ℕ) → Sound G Any (o.no_name name)
s-no_name G None = s-pure G Any tt (λ g. tt)
s-no_name G (Some name) = s-breaks G Any name Unknown

-- ---- strings

s-text_only : (G : Type 0) (f : Known) (x : TypedPart) → Sound G (Is Any) (o.text_only f x)
s-text_only G (known.Text first) x = s-some G Any x (λ g. tt)
s-text_only G f x = s-fault G (Is Any) (first_of f) WrongType

s-others_alone : (G : Type 0) (names : Names) (inside : Inside) (here : Context) (as' : Args) → LevelSound inside → Sound G Any (o.others_alone names inside here as')
s-others_alone G names inside here syntax.NoArg l = s-pure G Any tt (λ g. tt)
s-others_alone G names inside here (syntax.AlsoArg (syntax.arg name e) as') l =
    s-bind G Any Any (o.no_name name) _ (s-no_name G name) (λ u.
    s-bind _ Any Any (judged_alone names inside here e) _ (s-judged_alone _ names inside here e l) (λ v. s-others_alone ((G × Any u) × Any v) names inside here as' l))

s-alone_given : (G : Type 0) {A : Type 0} (at : ℕ) (as' : Args) (x : A) → Sound G (Is Any) (o.alone_given at as' x)
s-alone_given G at syntax.NoArg x = s-some G Any x (λ g. tt)
s-alone_given G at (syntax.AlsoArg a as') x = s-fault G (Is Any) at WrongType

s-text_call : (G : Type 0) (at first last : ℕ) (line : Bool) (more : Args) (f : Found) → Sound G (Is DenotedOf) (o.text_call at first last line more f)
s-text_call G at first last line more f =
    s-bind G (Is Any) (Is DenotedOf) (o.alone_given at more f) _ (s-alone_given G at more f) (λ x.
    s-given _ Any DenotedOf x (λ h. o.text_only h.known h.part >>= λ ps. pure (option_map (o.put_text first last line) ps)) (λ g. g.1) (λ h.
    s-bind _ (Is Any) (Is DenotedOf) (o.text_only h.known h.part) _ (s-text_only _ h.known h.part) (λ ps.
    s-pure _ (Is DenotedOf) (option_map (o.put_text first last line) ps) (λ g. mapped Any DenotedOf (o.put_text first last line) ps g.1 (λ y t. tt)))))

-- ---- numbers

s-in_width : (G : Type 0) (f : Found) (z : ℤ) → Sound G (Is Any) (o.in_width f z)
s-in_width G f z =
    s-if G (Is Any) (int_le (pos 0) z && int_le z (pos 255)) (some (literal (first_of f.known) z false (mentions_of f))) (fault (first_of f.known) StaticRange)
    (s-some G Any (literal (first_of f.known) z false (mentions_of f)) (λ g. tt)) (s-fault G (Is Any) (first_of f.known) StaticRange)

s-width_of : (G : Type 0) (f : Found) → Sound G (Is Any) (o.width_of f)
unfolding o.width_of
s-width_of G f =
    s-bind G (Is Any) (Is Any) (static_of_kind kind.Integer f) _ (s-static_of_kind G kind.Integer f) (λ v. s-given _ Any Any v (o.in_width f) (λ g. g.1) (λ z. s-in_width _ f z))

-- the item is there, and the width where one is given
pub record PuttingOf (q : Putting) : Type 0 where
  pub item : Is Any q.item
  pub width : q.has_width ≡ true → Is Any q.width

s-item_of : (G : Type 0) (b : Bool) (f : Found) → Sound G (Is Any) (o.item_of b f)
s-item_of G b f = s-if G (Is Any) (suits kind.Integer f.known && b) (asked kind.Integer f) (fault (first_of f.known) WrongType) (s-asked G kind.Integer f) (s-fault G (Is Any) (first_of f.known) WrongType)

s-width_argument : (G : Type 0) (names : Names) (inside : Inside) (here : Context) (q : Putting) (e : Expr) → LevelSound inside → (G → Clear here) → (G → PuttingOf q) → Sound G PuttingOf (o.width_argument names inside here q e)
s-width_argument G names inside here q e l c h =
    s-bind G (Is (FoundFor wanted.Other)) PuttingOf (expr names inside here wanted.Other e) _ (s-expr G names inside here wanted.Other e l c (λ g. tt)) (λ x.
    s-bind _ (Is Any) PuttingOf (given x o.width_of) _ (s-given _ (FoundFor wanted.Other) Any x o.width_of (λ g. g.1) (λ f. s-width_of _ f)) (λ w.
    s-pure _ PuttingOf (o.with_width q w) (λ g. record { item = (h g.0.0).item; width = λ e. g.1 })))

s-counted : (G : Type 0) (names : Names) (inside : Inside) (here : Context) (q : Putting) (n : ℕ) (e : Expr) → LevelSound inside → (G → PuttingOf q) → Sound G PuttingOf (judged_alone names inside here e >>= λ v. pure (o.with_count q n))
s-counted G names inside here q n e l h =
    s-bind G Any PuttingOf (judged_alone names inside here e) _ (s-judged_alone G names inside here e l) (λ v. s-pure _ PuttingOf (o.with_count q n) (λ g. record { item = (h g.0).item; width = (h g.0).width }))

s-put_argument : (G : Type 0) (names : Names) (inside : Inside) (here : Context) (q : Putting) (name : Option ℕ) (e : Expr) (first : ℕ) → LevelSound inside → (G → Clear here) → (G → PuttingOf q) → Sound G PuttingOf (o.put_argument names inside here q name e first)
s-put_argument G names inside here q (Some name) e first l c h =
    s-if G PuttingOf (symbol names name == width_name) _ _
    (s-bind G (λ u. not q.has_width ≡ true) PuttingOf (unless (not q.has_width) first Twice) _ (s-unless G (not q.has_width) first Twice) (λ u. s-width_argument _ names inside here q e l (λ g. c g.0) (λ g. h g.0)))
    (s-bind G Any PuttingOf (breaks name Unknown) _ (s-breaks G Any name Unknown) (λ u. s-counted _ names inside here q 1 e l (λ g. h g.0)))
s-put_argument G names inside here q None e first l c h =
    s-if G PuttingOf (q.count == 1 && not q.has_width) (o.width_argument names inside here q e) _ (s-width_argument G names inside here q e l c h) (s-counted G names inside here q 2 e l h)

s-put_arguments : (G : Type 0) (names : Names) (inside : Inside) (here : Context) (q : Putting) (as' : Args) → LevelSound inside → (G → Clear here) → (G → PuttingOf q) → Sound G PuttingOf (o.put_arguments names inside here q as')
s-put_arguments G names inside here q syntax.NoArg l c h = s-pure G PuttingOf q h
s-put_arguments G names inside here q (syntax.AlsoArg (syntax.arg name e) as') l c h =
    let first = first_token.of_arg (syntax.arg name e) in
    s-bind G PuttingOf PuttingOf (o.put_argument names inside here q name e first) _ (s-put_argument G names inside here q name e first l c h) (λ r. s-put_arguments (G × PuttingOf r) names inside here r as' l (λ g. c g.0) (λ g. g.1))

width-or : (first : ℕ) (q : Putting) → PuttingOf q → Is Any (o.width_or first q)
width-or first q h = by q.has_width h.width
  where
    by : (b : Bool) → (b ≡ true → Is Any q.width) → Is Any (if b then q.width else Some (literal first (pos 11) false part.Nothing))
    by true k = k refl
    by false k = tt

s-put_complete : (G : Type 0) (at first last : ℕ) (q : Putting) → (G → PuttingOf q) → Sound G (Is DenotedOf) (o.put_complete at first last q)
s-put_complete G at first last q h =
    s-if G (Is DenotedOf) (nat_le q.count 2) _ (fault at WrongType)
    (s-pure G (Is DenotedOf) (joined (o.put_number first last) q.item (o.width_or first q)) (λ g. joint Any Any DenotedOf (o.put_number first last) q.item (o.width_or first q) (h g).item (width-or first q (h g)) (λ a b m n. tt)))
    (s-fault G (Is DenotedOf) at WrongType)

-- ---- what is judged of the arguments

pub record JudgedOf (p : Put) (r : Option Found × Putting) : Type 0 where
  pub found : Is (FoundFor wanted.Text) r.0
  pub putting : o.is_number_put p r.0 ≡ true → PuttingOf r.1

s-judged_arguments : (G : Type 0) (names : Names) (inside : Inside) (here : Context) (reach : Reach) (p : Put) (more : Args) (x : Option Found) → LevelSound inside → (G → Clear here) → (G → Is (FoundFor wanted.Text) x)
    → Sound G (JudgedOf p) (o.judged_arguments names inside here reach p more x)
s-judged_arguments G names inside here reach p more x l c h =
    s-test G (JudgedOf p) (o.is_number_put p x) _ _
    (s-bind _ (Is Any) (JudgedOf p) (given x (o.item_of reach.integer_io)) _ (s-given _ (FoundFor wanted.Text) Any x (o.item_of reach.integer_io) (λ g. h g.0) (λ f. s-item_of _ reach.integer_io f)) (λ e.
    s-bind _ PuttingOf (JudgedOf p) (o.put_arguments names inside here (o.nothing_put 1 e) more) _
    (s-put_arguments _ names inside here (o.nothing_put 1 e) more l (λ g. c g.0.0) (λ g. record { item = g.1; width = λ f. absurd (true≢false (sym f)) })) (λ q.
    s-pure _ (JudgedOf p) (x, q) (λ g. record { found = h g.0.0.0; putting = λ f. g.1 }))))
    (s-bind _ Any (JudgedOf p) (o.others_alone names inside here more) _ (s-others_alone _ names inside here more l) (λ u.
    s-pure _ (JudgedOf p) (x, o.nothing_put 1 None) (λ g. record { found = h g.0.0; putting = λ f. absurd (true≢false (sym f ∙ g.0.1)) })))

-- ---- the rules of the whole

s-put_of_text : (G : Type 0) (at first last : ℕ) (reach : Reach) (more : Args) (f : Found) → Sound G (Is DenotedOf) (o.put_of_text at first last reach more f)
s-put_of_text G at first last reach more f =
    s-if G (Is DenotedOf) reach.text_io (o.text_call at first last false more f) _ (s-text_call G at first last false more f)
    (s-if G (Is DenotedOf) reach.expanded (fault (first_of f.known) WrongType) (fault first NotVisible) (s-fault G (Is DenotedOf) (first_of f.known) WrongType) (s-fault G (Is DenotedOf) first NotVisible))

s-get_place : (G : Type 0) (first last : ℕ) (p : ObjectName) (ss : Selections) (s : Subtype) → Sound G (Is DenotedOf) (o.get_place first last p ss s)
s-get_place G first last p ss (subtype.Scalar s) =
    let x = o.done_by first (typed.Get first last p.first p.root ss (typed_scalar s)) in
    s-if G (Is DenotedOf) (p.variable && same s.kind kind.Integer) (some x) (fault p.first WrongType) (s-some G DenotedOf x (λ g. tt)) (s-fault G (Is DenotedOf) p.first WrongType)
s-get_place G first last p ss (subtype.Composite n) = s-fault G (Is DenotedOf) p.first WrongType

s-get_of : (G : Type 0) (first last : ℕ) (f : Known) (x : TypedPart) → Sound G (Is DenotedOf) (o.get_of first last f x)
s-get_of G first last (known.Object p) x = s-get_place G first last p (selections_of x) p.subtype
s-get_of G first last f x = s-fault G (Is DenotedOf) (first_of f) WrongType

number-put : (x : Option Found) → o.is_text x ≡ false → o.is_number_put put.Put x ≡ true
number-put x e = by (o.is_text x) e
  where
    by : (b : Bool) → b ≡ false → not b ≡ true
    by true f = absurd (true≢false f)
    by false f = refl

s-put_by : (G : Type 0) (at first last : ℕ) (reach : Reach) (more : Args) (r : Option Found × Putting) → (G → JudgedOf put.Put r) → Sound G (Is DenotedOf) (o.put_by at first last reach more r.0 r.1)
s-put_by G at first last reach more r h =
    s-test G (Is DenotedOf) (o.is_text r.0) (given r.0 (o.put_of_text at first last reach more)) (o.put_complete at first last r.1)
    (s-given _ (FoundFor wanted.Text) DenotedOf r.0 (o.put_of_text at first last reach more) (λ g. (h g.0).found) (λ f. s-put_of_text _ at first last reach more f))
    (s-put_complete _ at first last r.1 (λ g. (h g.0).putting (number-put r.0 g.1)))

s-by_procedure : (G : Type 0) (at first last : ℕ) (reach : Reach) (more : Args) (p : Put) (r : Option Found × Putting) → (G → JudgedOf p r) → Sound G (Is DenotedOf) (o.by_procedure at first last reach more p r)
s-by_procedure G at first last reach more put.Put r h = s-put_by G at first last reach more r h
s-by_procedure G at first last reach more put.PutLine r h = s-given G (FoundFor wanted.Text) DenotedOf r.0 (o.text_call at first last true more) (λ g. (h g).found) (λ f. s-text_call _ at first last true more f)
s-by_procedure G at first last reach more put.Get r h =
    s-given G (FoundFor wanted.Text) DenotedOf r.0 (λ f. o.alone_given at more f >>= λ y. given y (λ z. o.get_of first last z.known z.part)) (λ g. (h g).found) (λ f.
    s-bind _ (Is Any) (Is DenotedOf) (o.alone_given at more f) _ (s-alone_given _ at more f) (λ y.
    s-given _ Any DenotedOf y (λ z. o.get_of first last z.known z.part) (λ g. g.1) (λ z. s-get_of _ first last z.known z.part)))
s-by_procedure G at first last reach more put.NewLine r h = s-fault G (Is DenotedOf) at WrongType

s-without_arguments : (G : Type 0) (at first last : ℕ) (p : Put) → Sound G (Is DenotedOf) (o.without_arguments at first last p)
s-without_arguments G at first last put.NewLine = s-some G DenotedOf (o.done_by first (typed.Put first last typed.NoPiece true)) (λ g. tt)
s-without_arguments G at first last p = s-fault G (Is DenotedOf) at WrongType

pub s-io_call : (G : Type 0) (names : Names) (inside : Inside) (here : Context) (at first last : ℕ) (p : Put) (reach : Reach) (as' : Args) → LevelSound inside → (G → Clear here) → Sound G (Is DenotedOf) (o.io_call names inside here at first last p reach as')
unfolding o.io_call
s-io_call G names inside here at first last p reach syntax.NoArg l c = s-without_arguments G at first last p
s-io_call G names inside here at first last p reach (syntax.AlsoArg (syntax.arg name e) as') l c =
    s-where_clean G (JudgedOf p) DenotedOf (o.no_name name >>= λ u. expr names inside here wanted.Text e >>= o.judged_arguments names inside here reach p as') (o.by_procedure at first last reach as' p)
    (s-bind G Any (JudgedOf p) (o.no_name name) _ (s-no_name G name) (λ u.
    s-bind _ (Is (FoundFor wanted.Text)) (JudgedOf p) (expr names inside here wanted.Text e) (o.judged_arguments names inside here reach p as') (s-expr _ names inside here wanted.Text e l (λ g. c g.0) (λ g. tt)) (λ x.
    s-judged_arguments _ names inside here reach p as' x l (λ g. c g.0.0) (λ g. g.1))))
    (λ r. s-by_procedure _ at first last reach as' p r (λ g. g.1))
