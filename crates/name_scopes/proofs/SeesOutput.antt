-- What is found is in scope: the predefined procedures.
use Rattle.std.proofs.Common.{◌≡◌, refl, ℕ, ℤ, pos, Option, Some, None, Bool, true, false, if◌then◌else◌, option_map, ◌&&◌, ◌==◌, int_le, nat_le}
use Rattle.std.specs.Prelude.{not}
use Rattle.std.proofs.lemmas.Bool.{and_parts}
use Rattle.syntax_tree.specs.FirstTokens as first_token
use Rattle.syntax_tree.specs.Syntax as syntax
use Rattle.syntax_tree.specs.Syntax.{Args, Expr}
use Rattle.typed_tree.specs.Decoded as part
use Rattle.typed_tree.specs.Decoded.{TypedPart}
use Rattle.typed_tree.specs.Syntax as typed
use Rattle.name_rules.specs.Expressions.{Inside, expr, judged_alone}
use Rattle.name_rules.specs.Found.{Found}
use Rattle.name_rules.specs.Judging as judging
use Rattle.name_rules.specs.Judging.{◌>>=◌, breaks, fault, given, pure, some, unless}
use Rattle.name_rules.specs.Output.{Putting, alone_given, by_procedure, done_by, get_of, get_place, in_width, io_call, is_number_put, is_text, item_of, judged_arguments, no_name, nothing_put, others_alone, put_argument, put_arguments, put_by, put_complete, put_number, put_of_text, put_text, text_call, text_only, width_argument, width_of, width_or, with_count, with_width, without_arguments}
use Rattle.name_rules.specs.Symbols.{symbol, width_name}
use Rattle.name_rules.specs.TypedParts.{selections_of}
use Rattle.name_rules.specs.Types.{same, typed_scalar}
use Rattle.name_rules.specs.Values.{asked, first_of, literal, mentions_of, static_of_kind, suits}
use Rattle.name_rules.specs.declared.found.Found.TheVariants as known
use Rattle.name_rules.specs.declared.found.Found.{Found as Known}
use Rattle.name_rules.specs.declared.found.ObjectName.{ObjectName}
use Rattle.name_rules.specs.declared.found.Put.TheVariants as put
use Rattle.name_rules.specs.declared.found.Put.{Put}
use Rattle.name_rules.specs.declared.found.Reach.{Reach}
use Rattle.name_rules.specs.declared.log.Rule.TheVariants.{NotVisible, StaticRange, Twice, Unknown, WrongType}
use Rattle.name_rules.specs.declared.scope.Context.{Context}
use Rattle.name_rules.specs.declared.scope.Names.{Names}
use Rattle.name_rules.specs.declared.types.Kind.TheVariants as kind
use Rattle.name_rules.specs.declared.types.Subtype.{Subtype}
use Rattle.name_rules.specs.declared.types.Subtype.TheVariants as subtype
use Rattle.name_rules.specs.declared.types.Wanted.TheVariants as wanted
use Rattle.name_scopes.proofs.Sees.{Any, Sees, Maybe, Sight, World, v-bind, v-breaks, v-fault, v-given, v-if, v-pure, v-some, v-test, v-unless, v-where_clean, joint, mapped}
use Rattle.name_scopes.proofs.SeesExpressions.{v-expr, v-judged_alone}
use Rattle.name_scopes.proofs.SeesFound.{Around, DenotedOf, Each, ExprOf, Finding, FoundOf, IsPiece, KnownOf, LevelSees, PlaceOf}
use Rattle.ada_base.specs.declared.operation.Base.TheVariants.{Narrow}
use Rattle.typed_tree.specs.Decoded.{as_expr}
use Rattle.typed_tree.specs.Syntax.{Expr as TypedExpr}
use Rattle.typed_tree.specs.declared.scalars.Class.{Class}
use Rattle.typed_tree.specs.declared.scalars.Class.TheVariants as class
use Rattle.name_scopes.proofs.Seen.{SeenExpr, SeenExprs, SeenPieces}
use Rattle.name_scopes.proofs.SeesValues.{StaticValue, as-variable, exprs-seen, v-asked, v-static_of_kind, pieces-seen, static-mentions}

module _ (W : World) (V : Sight) where
  v-no_name : (name : Option ℕ) → Sees W V Any (no_name name)
  v-no_name None = v-pure W V Any tt tt
  v-no_name (Some name) = v-breaks W V name Unknown

  -- ---- strings

  abbrev TextOf : TypedPart → Type 0
  TextOf x = Each (IsPiece W V) x

  v-text_only : (f : Known) (x : TypedPart) → KnownOf W V f x → Sees W V (Maybe TextOf) (text_only f x)
  v-text_only (known.Text first) x h = v-some W V TextOf x h
  v-text_only f x h = v-fault W V TextOf (first_of f) WrongType

  v-alone_given : {A : Type 0} (Q : A → Type 0) (at : ℕ) (as' : Args) (x : A) → Q x → Sees W V (Maybe Q) (alone_given at as' x)
  v-alone_given Q at syntax.NoArg x h = v-some W V Q x h
  v-alone_given Q at (syntax.AlsoArg a as') x h = v-fault W V Q at WrongType

  v-text_call : (at first last : ℕ) (line : Bool) (more : Args) (f : Found) → FoundOf W V f → Sees W V (Maybe (DenotedOf W V)) (text_call at first last line more f)
  v-text_call at first last line more f h =
      v-bind W V (Maybe (FoundOf W V)) (Maybe (DenotedOf W V)) (alone_given at more f) _ (v-alone_given (FoundOf W V) at more f h) (λ g q.
      v-given W V (FoundOf W V) (DenotedOf W V) g _ q (λ x r. v-bind W V (Maybe TextOf) (Maybe (DenotedOf W V)) (text_only x.known x.part) _ (v-text_only x.known x.part r) (λ ps s.
      v-pure W V (Maybe (DenotedOf W V)) (option_map (put_text first last line) ps) (mapped TextOf (DenotedOf W V) (put_text first last line) ps s (λ y t. pieces-seen W V y t)))))

  -- ---- numbers

  abbrev NumberOf : TypedPart → Type 0
  NumberOf = ExprOf W V

  -- a width is static (A.10.8)
  abbrev IsStatic : TypedExpr → Type 0
  IsStatic (typed.Static at z alone ms) = SeenExprs W.program W.shown V.around ms
  IsStatic e = ⊥

  abbrev WidthOf : TypedPart → Type 0
  WidthOf x = IsStatic (as_expr x)

  padded : (c : Class) (e w : TypedExpr) → IsStatic w → SeenExpr W.program W.shown V.around e → SeenPieces W.program W.shown V.around (typed.Padded c e w typed.NoPiece)
  padded c e (typed.Static at z alone ms) h k = (k, h, tt)
  padded c e w h k = absurd h

  v-in_width : (f : Found) (z : ℤ) → FoundOf W V f → StaticValue W V f z → Sees W V (Maybe WidthOf) (in_width f z)
  v-in_width f z h e =
      v-if W V (Maybe WidthOf) (int_le (pos 0) z && int_le z (pos 255)) (some (literal (first_of f.known) z false (mentions_of f))) (fault (first_of f.known) StaticRange)
      (v-some W V WidthOf (literal (first_of f.known) z false (mentions_of f)) (exprs-seen W V (mentions_of f) (static-mentions W V f.known f.part z h e))) (v-fault W V WidthOf (first_of f.known) StaticRange)

  v-width_of : (f : Found) → FoundOf W V f → Sees W V (Maybe WidthOf) (width_of f)
  unfolding width_of
  v-width_of f h =
      v-bind W V (Maybe (StaticValue W V f)) (Maybe WidthOf) (static_of_kind kind.Integer f) _ (v-static_of_kind W V kind.Integer f h) (λ v q. v-given W V (StaticValue W V f) WidthOf v (in_width f) q (λ z s. v-in_width f z h s))

  abbrev PuttingOf : Putting → Type 0
  PuttingOf p = Maybe NumberOf p.item × Maybe WidthOf p.width

  v-item_of : (b : Bool) (f : Found) → FoundOf W V f → Sees W V (Maybe NumberOf) (item_of b f)
  v-item_of b f h = v-if W V (Maybe NumberOf) (suits kind.Integer f.known && b) (asked kind.Integer f) (fault (first_of f.known) WrongType) (v-asked W V kind.Integer f h) (v-fault W V NumberOf (first_of f.known) WrongType)

  v-width_argument : (names : Names) (inside : Inside) (here : Context) (p : Putting) (e : Expr) → LevelSees W inside → Around W V here → PuttingOf p → Sees W V PuttingOf (width_argument names inside here p e)
  v-width_argument names inside here p e l r h =
      v-bind W V (Finding W V) PuttingOf (expr names inside here wanted.Other e) _ (v-expr W V names inside here wanted.Other e l r) (λ x q.
      v-bind W V (Maybe WidthOf) PuttingOf (given x width_of) _ (v-given W V (FoundOf W V) WidthOf x width_of q (λ f s. v-width_of f s)) (λ w t. v-pure W V PuttingOf (with_width p w) (h.0, t)))

  v-counted : (names : Names) (inside : Inside) (here : Context) (p : Putting) (n : ℕ) (e : Expr) → LevelSees W inside → Around W V here → PuttingOf p → Sees W V PuttingOf (judged_alone names inside here e >>= λ v. pure (with_count p n))
  v-counted names inside here p n e l r h = v-bind W V Any PuttingOf (judged_alone names inside here e) _ (v-judged_alone W V names inside here e l r) (λ v q. v-pure W V PuttingOf (with_count p n) h)

  v-put_argument : (names : Names) (inside : Inside) (here : Context) (p : Putting) (n : Option ℕ) (e : Expr) (first : ℕ) → LevelSees W inside → Around W V here → PuttingOf p → Sees W V PuttingOf (put_argument names inside here p n e first)
  v-put_argument names inside here p (Some name) e first l r h =
      v-if W V PuttingOf (symbol names name == width_name) _ _
      (v-bind W V Any PuttingOf (unless (not p.has_width) first Twice) _ (v-unless W V (not p.has_width) first Twice) (λ u q. v-width_argument names inside here p e l r h))
      (v-bind W V Any PuttingOf (breaks name Unknown) _ (v-breaks W V name Unknown) (λ u q. v-counted names inside here p 1 e l r h))
  v-put_argument names inside here p None e first l r h = v-if W V PuttingOf (p.count == 1 && not p.has_width) (width_argument names inside here p e) _ (v-width_argument names inside here p e l r h) (v-counted names inside here p 2 e l r h)

  v-put_arguments : (names : Names) (inside : Inside) (here : Context) (p : Putting) (as' : Args) → LevelSees W inside → Around W V here → PuttingOf p → Sees W V PuttingOf (put_arguments names inside here p as')
  v-put_arguments names inside here p syntax.NoArg l r h = v-pure W V PuttingOf p h
  v-put_arguments names inside here p (syntax.AlsoArg (syntax.arg name e) as') l r h =
      v-bind W V PuttingOf PuttingOf (put_argument names inside here p name e (first_token.of_arg (syntax.arg name e))) _ (v-put_argument names inside here p name e (first_token.of_arg (syntax.arg name e)) l r h) (λ q s. v-put_arguments names inside here q as' l r s)

  width-or : (first : ℕ) (p : Putting) → PuttingOf p → Maybe WidthOf (width_or first p)
  width-or first p h = by p.has_width
    where
      by : (b : Bool) → Maybe WidthOf (if b then p.width else Some (literal first (pos 11) false part.Nothing))
      by true = h.1
      by false = exprs-seen W V part.Nothing tt

  v-put_complete : (at first last : ℕ) (p : Putting) → PuttingOf p → Sees W V (Maybe (DenotedOf W V)) (put_complete at first last p)
  v-put_complete at first last p h =
      v-if W V (Maybe (DenotedOf W V)) (nat_le p.count 2) _ (fault at WrongType)
      (v-pure W V (Maybe (DenotedOf W V)) (judging.joined (put_number first last) p.item (width_or first p)) (joint NumberOf WidthOf (DenotedOf W V) (put_number first last) p.item (width_or first p) h.0 (width-or first p h) (λ a b s t. padded (class.Integer Narrow) (as_expr a) (as_expr b) t s))) (v-fault W V (DenotedOf W V) at WrongType)

  -- ---- calls

  v-others_alone : (names : Names) (inside : Inside) (here : Context) (as' : Args) → LevelSees W inside → Around W V here → Sees W V Any (others_alone names inside here as')
  v-others_alone names inside here syntax.NoArg l r = v-pure W V Any tt tt
  v-others_alone names inside here (syntax.AlsoArg (syntax.arg name e) as') l r =
      v-bind W V Any Any (no_name name) _ (v-no_name name) (λ u p. v-bind W V Any Any (judged_alone names inside here e) _ (v-judged_alone W V names inside here e l r) (λ v q. v-others_alone names inside here as' l r))

  abbrev JudgedOf : Option Found × Putting → Type 0
  JudgedOf r = (Finding W V) r.0 × PuttingOf r.1

  v-judged_arguments : (names : Names) (inside : Inside) (here : Context) (reach : Reach) (p : Put) (more : Args) (x : Option Found) → LevelSees W inside → Around W V here → Finding W V x → Sees W V JudgedOf (judged_arguments names inside here reach p more x)
  v-judged_arguments names inside here reach p more x l r h =
      v-if W V JudgedOf (is_number_put p x) _ _
      (v-bind W V (Maybe NumberOf) JudgedOf (given x (item_of reach.integer_io)) _ (v-given W V (FoundOf W V) NumberOf x (item_of reach.integer_io) h (λ f s. v-item_of reach.integer_io f s)) (λ e q.
      v-bind W V PuttingOf JudgedOf (put_arguments names inside here (nothing_put 1 e) more) _ (v-put_arguments names inside here (nothing_put 1 e) more l r (q, tt)) (λ y t. v-pure W V JudgedOf (x, y) (h, t))))
      (v-bind W V Any JudgedOf (others_alone names inside here more) _ (v-others_alone names inside here more l r) (λ u q. v-pure W V JudgedOf (x, nothing_put 1 None) (h, (tt, tt))))

  v-put_of_text : (at first last : ℕ) (reach : Reach) (more : Args) (f : Found) → FoundOf W V f → Sees W V (Maybe (DenotedOf W V)) (put_of_text at first last reach more f)
  v-put_of_text at first last reach more f h =
      v-if W V (Maybe (DenotedOf W V)) reach.text_io (text_call at first last false more f) _ (v-text_call at first last false more f h)
      (v-if W V (Maybe (DenotedOf W V)) reach.expanded (fault (first_of f.known) WrongType) (fault first NotVisible) (v-fault W V (DenotedOf W V) (first_of f.known) WrongType) (v-fault W V (DenotedOf W V) first NotVisible))

  v-get_place : (first last : ℕ) (p : ObjectName) (x : TypedPart) (s : Subtype) → p.subtype ≡ s → PlaceOf W V p x → Sees W V (Maybe (DenotedOf W V)) (get_place first last p (selections_of x) s)
  v-get_place first last p x (subtype.Scalar s) e h =
      v-test W V (Maybe (DenotedOf W V)) (p.variable && same s.kind kind.Integer) (some (done_by first (typed.Get first last p.first p.root (selections_of x) (typed_scalar s)))) (fault p.first WrongType)
      (λ q. let y = as-variable W V p x h (and_parts p.variable (same s.kind kind.Integer) q).0 in
      v-some W V (DenotedOf W V) (done_by first (typed.Get first last p.first p.root (selections_of x) (typed_scalar s))) y) (v-fault W V (DenotedOf W V) p.first WrongType)
  v-get_place first last p x (subtype.Composite n) e h = v-fault W V (DenotedOf W V) p.first WrongType

  v-get_of : (first last : ℕ) (f : Known) (x : TypedPart) → KnownOf W V f x → Sees W V (Maybe (DenotedOf W V)) (get_of first last f x)
  v-get_of first last (known.Object p) x h = v-get_place first last p x p.subtype refl h
  v-get_of first last f x h = v-fault W V (DenotedOf W V) (first_of f) WrongType

  v-put_by : (at first last : ℕ) (reach : Reach) (more : Args) (x : Option Found) (q : Putting) → Finding W V x → PuttingOf q → Sees W V (Maybe (DenotedOf W V)) (put_by at first last reach more x q)
  v-put_by at first last reach more x q g h = v-if W V (Maybe (DenotedOf W V)) (is_text x) (given x (put_of_text at first last reach more)) (put_complete at first last q) (v-given W V (FoundOf W V) (DenotedOf W V) x (put_of_text at first last reach more) g (λ f s. v-put_of_text at first last reach more f s)) (v-put_complete at first last q h)

  v-by_procedure : (at first last : ℕ) (reach : Reach) (more : Args) (p : Put) (r : Option Found × Putting) → JudgedOf r → Sees W V (Maybe (DenotedOf W V)) (by_procedure at first last reach more p r)
  v-by_procedure at first last reach more put.Put r h = v-put_by at first last reach more r.0 r.1 h.0 h.1
  v-by_procedure at first last reach more put.PutLine r h = v-given W V (FoundOf W V) (DenotedOf W V) r.0 (text_call at first last true more) h.0 (λ f s. v-text_call at first last true more f s)
  v-by_procedure at first last reach more put.Get r h =
      v-given W V (FoundOf W V) (DenotedOf W V) r.0 _ h.0 (λ f s. v-bind W V (Maybe (FoundOf W V)) (Maybe (DenotedOf W V)) (alone_given at more f) _ (v-alone_given (FoundOf W V) at more f s) (λ g q. v-given W V (FoundOf W V) (DenotedOf W V) g _ q (λ x t. v-get_of first last x.known x.part t)))
  v-by_procedure at first last reach more put.NewLine r h = v-fault W V (DenotedOf W V) at WrongType

  v-without_arguments : (at first last : ℕ) (p : Put) → Sees W V (Maybe (DenotedOf W V)) (without_arguments at first last p)
  v-without_arguments at first last put.NewLine = v-some W V (DenotedOf W V) (done_by first (typed.Put first last typed.NoPiece true)) tt
  v-without_arguments at first last p = v-fault W V (DenotedOf W V) at WrongType

  pub v-io_call : (names : Names) (inside : Inside) (here : Context) (at first last : ℕ) (p : Put) (reach : Reach) (as' : Args) → LevelSees W inside → Around W V here → Sees W V (Maybe (DenotedOf W V)) (io_call names inside here at first last p reach as')
  unfolding io_call
  v-io_call names inside here at first last p reach syntax.NoArg l r = v-without_arguments at first last p
  v-io_call names inside here at first last p reach (syntax.AlsoArg (syntax.arg name e) as') l r =
      v-where_clean W V JudgedOf (DenotedOf W V) _ (by_procedure at first last reach as' p)
      (v-bind W V Any JudgedOf (no_name name) _ (v-no_name name) (λ u q.
      v-bind W V (Finding W V) JudgedOf (expr names inside here wanted.Text e) (judged_arguments names inside here reach p as') (v-expr W V names inside here wanted.Text e l r) (λ x s. v-judged_arguments names inside here reach p as' x l r s)))
      (λ y t. v-by_procedure at first last reach as' p y t)
