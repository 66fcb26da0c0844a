-- What is found is formed: the predefined procedures.
use Rattle.std.proofs.Common.{◌≡◌, refl, ℕ, ℤ, pos, Option, Some, None, Bool, true, false, if◌then◌else◌, option_map, ◌&&◌, ◌==◌, int_le, nat_le}
use Rattle.std.specs.Prelude.{not}
use Rattle.std.proofs.lemmas.Bool.{and_parts}
use Rattle.syntax_tree.specs.FirstTokens as first_token
use Rattle.syntax_tree.specs.Syntax as syntax
use Rattle.syntax_tree.specs.Syntax.{Args, Expr}
use Rattle.typed_tree.specs.Decoded as part
use Rattle.typed_tree.specs.Decoded.{TypedPart}
use Rattle.typed_tree.specs.Syntax as typed
use Rattle.name_rules.specs.Expressions.{Inside, expr, judged_alone}
use Rattle.name_rules.specs.Found.{Found}
use Rattle.name_rules.specs.Judging as judging
use Rattle.name_rules.specs.Judging.{◌>>=◌, breaks, fault, given, pure, some, unless}
use Rattle.name_rules.specs.Output.{Putting, alone_given, by_procedure, done_by, get_of, get_place, in_width, io_call, is_number_put, is_text, item_of, judged_arguments, no_name, nothing_put, others_alone, put_argument, put_arguments, put_by, put_complete, put_number, put_of_text, put_text, text_call, text_only, width_argument, width_of, width_or, with_count, with_width, without_arguments}
use Rattle.name_rules.specs.Symbols.{symbol, width_name}
use Rattle.name_rules.specs.TypedParts.{selections_of}
use Rattle.name_rules.specs.Types.{same, typed_scalar}
use Rattle.name_rules.specs.Values.{asked, first_of, literal, mentions_of, static_of_kind, suits}
use Rattle.name_rules.specs.declared.found.Found.TheVariants as known
use Rattle.name_rules.specs.declared.found.Found.{Found as Known}
use Rattle.name_rules.specs.declared.found.ObjectName.{ObjectName}
use Rattle.name_rules.specs.declared.found.Put.TheVariants as put
use Rattle.name_rules.specs.declared.found.Put.{Put}
use Rattle.name_rules.specs.declared.found.Reach.{Reach}
use Rattle.name_rules.specs.declared.log.Rule.TheVariants.{NotVisible, StaticRange, Twice, Unknown, WrongType}
use Rattle.name_rules.specs.declared.scope.Context.{Context}
use Rattle.name_rules.specs.declared.scope.Names.{Names}
use Rattle.name_rules.specs.declared.types.Kind.TheVariants as kind
use Rattle.name_rules.specs.declared.types.Subtype.{Subtype}
use Rattle.name_rules.specs.declared.types.Subtype.TheVariants as subtype
use Rattle.name_rules.specs.declared.types.Wanted.TheVariants as wanted
use Rattle.name_formed.proofs.Forms.{Any, Forms, Maybe, Sight, World, f-bind, f-breaks, f-fault, f-given, f-if, f-pure, f-some, f-test, f-unless, f-where_clean, joint, mapped, shape_of}
use Rattle.name_formed.proofs.FormsExpressions.{f-expr, f-judged_alone}
use Rattle.name_formed.proofs.FormsFound.{Around, DenotedOf, Each, ExprOf, Finding, FoundOf, IsPiece, KnownOf, LevelForms, PlaceOf}
use Rattle.name_formed.proofs.FormsValues.{StaticValue, as-variable, exprs-formed, f-asked, f-static_of_kind, one-cell, pieces-formed, static-mentions}

module _ (W : World) (V : Sight) where
  f-no_name : (name : Option ℕ) → Forms W V Any (no_name name)
  f-no_name None = f-pure W V Any tt tt
  f-no_name (Some name) = f-breaks W V name Unknown

  -- ---- strings

  abbrev TextOf : TypedPart → Type 0
  TextOf x = Each (IsPiece W V) x

  f-text_only : (f : Known) (x : TypedPart) → KnownOf W V f x → Forms W V (Maybe TextOf) (text_only f x)
  f-text_only (known.Text first) x h = f-some W V TextOf x h
  f-text_only f x h = f-fault W V TextOf (first_of f) WrongType

  f-alone_given : {A : Type 0} (Q : A → Type 0) (at : ℕ) (as' : Args) (x : A) → Q x → Forms W V (Maybe Q) (alone_given at as' x)
  f-alone_given Q at syntax.NoArg x h = f-some W V Q x h
  f-alone_given Q at (syntax.AlsoArg a as') x h = f-fault W V Q at WrongType

  f-text_call : (at first last : ℕ) (line : Bool) (more : Args) (f : Found) → FoundOf W V f → Forms W V (Maybe (DenotedOf W V)) (text_call at first last line more f)
  f-text_call at first last line more f h =
      f-bind W V (Maybe (FoundOf W V)) (Maybe (DenotedOf W V)) (alone_given at more f) _ (f-alone_given (FoundOf W V) at more f h) (λ g q.
      f-given W V (FoundOf W V) (DenotedOf W V) g _ q (λ x r. f-bind W V (Maybe TextOf) (Maybe (DenotedOf W V)) (text_only x.known x.part) _ (f-text_only x.known x.part r) (λ ps s.
      f-pure W V (Maybe (DenotedOf W V)) (option_map (put_text first last line) ps) (mapped TextOf (DenotedOf W V) (put_text first last line) ps s (λ y t. pieces-formed W V y t)))))

  -- ---- numbers

  abbrev NumberOf : TypedPart → Type 0
  NumberOf = ExprOf W V

  f-in_width : (f : Found) (z : ℤ) → FoundOf W V f → StaticValue W V f z → Forms W V (Maybe NumberOf) (in_width f z)
  f-in_width f z h e =
      f-if W V (Maybe NumberOf) (int_le (pos 0) z && int_le z (pos 255)) (some (literal (first_of f.known) z false (mentions_of f))) (fault (first_of f.known) StaticRange)
      (f-some W V NumberOf (literal (first_of f.known) z false (mentions_of f)) (exprs-formed W V (mentions_of f) (static-mentions W V f.known f.part z h e))) (f-fault W V NumberOf (first_of f.known) StaticRange)

  f-width_of : (f : Found) → FoundOf W V f → Forms W V (Maybe NumberOf) (width_of f)
  unfolding width_of
  f-width_of f h =
      f-bind W V (Maybe (StaticValue W V f)) (Maybe NumberOf) (static_of_kind kind.Integer f) _ (f-static_of_kind W V kind.Integer f h) (λ v q. f-given W V (StaticValue W V f) NumberOf v (in_width f) q (λ z s. f-in_width f z h s))

  abbrev PuttingOf : Putting → Type 0
  PuttingOf p = Maybe NumberOf p.item × Maybe NumberOf p.width

  f-item_of : (b : Bool) (f : Found) → FoundOf W V f → Forms W V (Maybe NumberOf) (item_of b f)
  f-item_of b f h = f-if W V (Maybe NumberOf) (suits kind.Integer f.known && b) (asked kind.Integer f) (fault (first_of f.known) WrongType) (f-asked W V kind.Integer f h) (f-fault W V NumberOf (first_of f.known) WrongType)

  f-width_argument : (names : Names) (inside : Inside) (here : Context) (p : Putting) (e : Expr) → LevelForms W inside → Around W V here → PuttingOf p → Forms W V PuttingOf (width_argument names inside here p e)
  f-width_argument names inside here p e l r h =
      f-bind W V (Finding W V) PuttingOf (expr names inside here wanted.Other e) _ (f-expr W V names inside here wanted.Other e l r) (λ x q.
      f-bind W V (Maybe NumberOf) PuttingOf (given x width_of) _ (f-given W V (FoundOf W V) NumberOf x width_of q (λ f s. f-width_of f s)) (λ w t. f-pure W V PuttingOf (with_width p w) (h.0, t)))

  f-counted : (names : Names) (inside : Inside) (here : Context) (p : Putting) (n : ℕ) (e : Expr) → LevelForms W inside → Around W V here → PuttingOf p → Forms W V PuttingOf (judged_alone names inside here e >>= λ v. pure (with_count p n))
  f-counted names inside here p n e l r h = f-bind W V Any PuttingOf (judged_alone names inside here e) _ (f-judged_alone W V names inside here e l r) (λ v q. f-pure W V PuttingOf (with_count p n) h)

  f-put_argument : (names : Names) (inside : Inside) (here : Context) (p : Putting) (n : Option ℕ) (e : Expr) (first : ℕ) → LevelForms W inside → Around W V here → PuttingOf p → Forms W V PuttingOf (put_argument names inside here p n e first)
  f-put_argument names inside here p (Some name) e first l r h =
      f-if W V PuttingOf (symbol names name == width_name) _ _
      (f-bind W V Any PuttingOf (unless (not p.has_width) first Twice) _ (f-unless W V (not p.has_width) first Twice) (λ u q. f-width_argument names inside here p e l r h))
      (f-bind W V Any PuttingOf (breaks name Unknown) _ (f-breaks W V name Unknown) (λ u q. f-counted names inside here p 1 e l r h))
  f-put_argument names inside here p None e first l r h = f-if W V PuttingOf (p.count == 1 && not p.has_width) (width_argument names inside here p e) _ (f-width_argument names inside here p e l r h) (f-counted names inside here p 2 e l r h)

  f-put_arguments : (names : Names) (inside : Inside) (here : Context) (p : Putting) (as' : Args) → LevelForms W inside → Around W V here → PuttingOf p → Forms W V PuttingOf (put_arguments names inside here p as')
  f-put_arguments names inside here p syntax.NoArg l r h = f-pure W V PuttingOf p h
  f-put_arguments names inside here p (syntax.AlsoArg (syntax.arg name e) as') l r h =
      f-bind W V PuttingOf PuttingOf (put_argument names inside here p name e (first_token.of_arg (syntax.arg name e))) _ (f-put_argument names inside here p name e (first_token.of_arg (syntax.arg name e)) l r h) (λ q s. f-put_arguments names inside here q as' l r s)

  width-or : (first : ℕ) (p : Putting) → PuttingOf p → Maybe NumberOf (width_or first p)
  width-or first p h = by p.has_width
    where
      by : (b : Bool) → Maybe NumberOf (if b then p.width else Some (literal first (pos 11) false part.Nothing))
      by true = h.1
      by false = exprs-formed W V part.Nothing tt

  f-put_complete : (at first last : ℕ) (p : Putting) → PuttingOf p → Forms W V (Maybe (DenotedOf W V)) (put_complete at first last p)
  f-put_complete at first last p h =
      f-if W V (Maybe (DenotedOf W V)) (nat_le p.count 2) _ (fault at WrongType)
      (f-pure W V (Maybe (DenotedOf W V)) (judging.joined (put_number first last) p.item (width_or first p)) (joint NumberOf NumberOf (DenotedOf W V) (put_number first last) p.item (width_or first p) h.0 (width-or first p h) (λ a b s t. (tt, s, t, tt)))) (f-fault W V (DenotedOf W V) at WrongType)

  -- ---- calls

  f-others_alone : (names : Names) (inside : Inside) (here : Context) (as' : Args) → LevelForms W inside → Around W V here → Forms W V Any (others_alone names inside here as')
  f-others_alone names inside here syntax.NoArg l r = f-pure W V Any tt tt
  f-others_alone names inside here (syntax.AlsoArg (syntax.arg name e) as') l r =
      f-bind W V Any Any (no_name name) _ (f-no_name name) (λ u p. f-bind W V Any Any (judged_alone names inside here e) _ (f-judged_alone W V names inside here e l r) (λ v q. f-others_alone names inside here as' l r))

  abbrev JudgedOf : Option Found × Putting → Type 0
  JudgedOf r = (Finding W V) r.0 × PuttingOf r.1

  f-judged_arguments : (names : Names) (inside : Inside) (here : Context) (reach : Reach) (p : Put) (more : Args) (x : Option Found) → LevelForms W inside → Around W V here → Finding W V x → Forms W V JudgedOf (judged_arguments names inside here reach p more x)
  f-judged_arguments names inside here reach p more x l r h =
      f-if W V JudgedOf (is_number_put p x) _ _
      (f-bind W V (Maybe NumberOf) JudgedOf (given x (item_of reach.integer_io)) _ (f-given W V (FoundOf W V) NumberOf x (item_of reach.integer_io) h (λ f s. f-item_of reach.integer_io f s)) (λ e q.
      f-bind W V PuttingOf JudgedOf (put_arguments names inside here (nothing_put 1 e) more) _ (f-put_arguments names inside here (nothing_put 1 e) more l r (q, tt)) (λ y t. f-pure W V JudgedOf (x, y) (h, t))))
      (f-bind W V Any JudgedOf (others_alone names inside here more) _ (f-others_alone names inside here more l r) (λ u q. f-pure W V JudgedOf (x, nothing_put 1 None) (h, (tt, tt))))

  f-put_of_text : (at first last : ℕ) (reach : Reach) (more : Args) (f : Found) → FoundOf W V f → Forms W V (Maybe (DenotedOf W V)) (put_of_text at first last reach more f)
  f-put_of_text at first last reach more f h =
      f-if W V (Maybe (DenotedOf W V)) reach.text_io (text_call at first last false more f) _ (f-text_call at first last false more f h)
      (f-if W V (Maybe (DenotedOf W V)) reach.expanded (fault (first_of f.known) WrongType) (fault first NotVisible) (f-fault W V (DenotedOf W V) (first_of f.known) WrongType) (f-fault W V (DenotedOf W V) first NotVisible))

  f-get_place : (first last : ℕ) (p : ObjectName) (x : TypedPart) (s : Subtype) → p.subtype ≡ s → PlaceOf W V p x → Forms W V (Maybe (DenotedOf W V)) (get_place first last p (selections_of x) s)
  f-get_place first last p x (subtype.Scalar s) e h =
      f-test W V (Maybe (DenotedOf W V)) (p.variable && same s.kind kind.Integer) (some (done_by first (typed.Get first last p.first p.root (selections_of x) (typed_scalar s)))) (fault p.first WrongType)
      (λ q. let y = as-variable W V p x h (and_parts p.variable (same s.kind kind.Integer) q).0 in
      f-some W V (DenotedOf W V) (done_by first (typed.Get first last p.first p.root (selections_of x) (typed_scalar s))) ((shape_of W.program p.subtype, y.0, one-cell W p s e), y.1)) (f-fault W V (DenotedOf W V) p.first WrongType)
  f-get_place first last p x (subtype.Composite n) e h = f-fault W V (DenotedOf W V) p.first WrongType

  f-get_of : (first last : ℕ) (f : Known) (x : TypedPart) → KnownOf W V f x → Forms W V (Maybe (DenotedOf W V)) (get_of first last f x)
  f-get_of first last (known.Object p) x h = f-get_place first last p x p.subtype refl h
  f-get_of first last f x h = f-fault W V (DenotedOf W V) (first_of f) WrongType

  f-put_by : (at first last : ℕ) (reach : Reach) (more : Args) (x : Option Found) (q : Putting) → Finding W V x → PuttingOf q → Forms W V (Maybe (DenotedOf W V)) (put_by at first last reach more x q)
  f-put_by at first last reach more x q g h = f-if W V (Maybe (DenotedOf W V)) (is_text x) (given x (put_of_text at first last reach more)) (put_complete at first last q) (f-given W V (FoundOf W V) (DenotedOf W V) x (put_of_text at first last reach more) g (λ f s. f-put_of_text at first last reach more f s)) (f-put_complete at first last q h)

  f-by_procedure : (at first last : ℕ) (reach : Reach) (more : Args) (p : Put) (r : Option Found × Putting) → JudgedOf r → Forms W V (Maybe (DenotedOf W V)) (by_procedure at first last reach more p r)
  f-by_procedure at first last reach more put.Put r h = f-put_by at first last reach more r.0 r.1 h.0 h.1
  f-by_procedure at first last reach more put.PutLine r h = f-given W V (FoundOf W V) (DenotedOf W V) r.0 (text_call at first last true more) h.0 (λ f s. f-text_call at first last true more f s)
  f-by_procedure at first last reach more put.Get r h =
      f-given W V (FoundOf W V) (DenotedOf W V) r.0 _ h.0 (λ f s. f-bind W V (Maybe (FoundOf W V)) (Maybe (DenotedOf W V)) (alone_given at more f) _ (f-alone_given (FoundOf W V) at more f s) (λ g q. f-given W V (FoundOf W V) (DenotedOf W V) g _ q (λ x t. f-get_of first last x.known x.part t)))
  f-by_procedure at first last reach more put.NewLine r h = f-fault W V (DenotedOf W V) at WrongType

  f-without_arguments : (at first last : ℕ) (p : Put) → Forms W V (Maybe (DenotedOf W V)) (without_arguments at first last p)
  f-without_arguments at first last put.NewLine = f-some W V (DenotedOf W V) (done_by first (typed.Put first last typed.NoPiece true)) tt
  f-without_arguments at first last p = f-fault W V (DenotedOf W V) at WrongType

  pub f-io_call : (names : Names) (inside : Inside) (here : Context) (at first last : ℕ) (p : Put) (reach : Reach) (as' : Args) → LevelForms W inside → Around W V here → Forms W V (Maybe (DenotedOf W V)) (io_call names inside here at first last p reach as')
  unfolding io_call
  f-io_call names inside here at first last p reach syntax.NoArg l r = f-without_arguments at first last p
  f-io_call names inside here at first last p reach (syntax.AlsoArg (syntax.arg name e) as') l r =
      f-where_clean W V JudgedOf (DenotedOf W V) _ (by_procedure at first last reach as' p)
      (f-bind W V Any JudgedOf (no_name name) _ (f-no_name name) (λ u q.
      f-bind W V (Finding W V) JudgedOf (expr names inside here wanted.Text e) (judged_arguments names inside here reach p as') (f-expr W V names inside here wanted.Text e l r) (λ x s. f-judged_arguments names inside here reach p as' x l r s)))
      (λ y t. f-by_procedure at first last reach as' p y t)
