-- What is found is formed: assignments, calls, returned values, selecting expressions and choices of case statements.
use Rattle.std.proofs.Common.{◌≡◌, refl, ℕ, List, [], ◌∷◌, Option, Some, None, Bool, true, false, if◌then◌else◌, option_map, ◌-◌, ◌&&◌, int_le, ℤ}
use Rattle.std.specs.Prelude.{not}
use Rattle.ada_meaning.specs.Formed.{FormedSelections, FormedStmt, Selects, with_aim}
use Rattle.ada_meaning.specs.Shapes.{Shape}
use Rattle.syntax_tree.specs.FirstTokens as first_token
use Rattle.syntax_tree.specs.Syntax as syntax
use Rattle.syntax_tree.specs.Syntax.{Choice, Expr, Name}
use Rattle.typed_tree.specs.Decoded as part
use Rattle.typed_tree.specs.Decoded.{TypedPart, as_stmt}
use Rattle.typed_tree.specs.Latest.{turned}
use Rattle.name_rules.specs.Cases as cases
use Rattle.name_rules.specs.Cases.{Choosing, Covering}
use Rattle.name_rules.specs.Expressions.{Inside, expr}
use Rattle.name_rules.specs.Found.{Denoted, Found}
use Rattle.name_rules.specs.Judging.{Judging, fault, given, pure, unless, ◌>>=◌}
use Rattle.name_rules.specs.Names.{denoted_first}
use Rattle.name_rules.specs.Parts.{valued_by}
use Rattle.name_rules.specs.Ranges.{Chosen, chosen_span, chosen_value}
use Rattle.name_rules.specs.Statements as s
use Rattle.name_rules.specs.Statements.{Selector}
use Rattle.name_rules.specs.TypedParts.{selections_of}
use Rattle.name_rules.specs.Types.{wanted_of}
use Rattle.name_rules.specs.Values.{first_of, is_scalar, settled_found, stored, is_modular_kind, kind_of}
use Rattle.name_rules.specs.declared.found.Denoted.TheVariants as denoted
use Rattle.name_rules.specs.declared.found.Denoted.{Denoted as KnownDenoted}
use Rattle.name_rules.specs.declared.found.Found.TheVariants as known
use Rattle.name_rules.specs.declared.found.ObjectName.{ObjectName}
use Rattle.name_rules.specs.declared.log.Rule.TheVariants.{StaticRange, WrongType}
use Rattle.name_rules.specs.declared.scope.Context.{Context}
use Rattle.name_rules.specs.declared.scope.Entry.{Entry}
use Rattle.name_rules.specs.declared.scope.Names.{Names}
use Rattle.name_rules.specs.declared.scope.Target.TheVariants as target
use Rattle.name_rules.specs.declared.scope.What.{What}
use Rattle.name_rules.specs.declared.scope.What.TheVariants as what
use Rattle.name_rules.specs.declared.types.Kind.{Kind}
use Rattle.name_rules.specs.declared.types.Scalar.{Scalar}
use Rattle.name_rules.specs.declared.types.Subtype.{Subtype}
use Rattle.name_rules.specs.declared.types.Subtype.TheVariants as subtype
use Rattle.name_rules.specs.declared.types.Wanted.TheVariants as wanted
use Rattle.name_formed.proofs.Forms.{Any, Forms, Maybe, Sight, World, f-bind, f-fault, f-given, f-if, f-none, f-pure, f-some, f-unless, f-where_clean, mapped, shape_of}
use Rattle.name_formed.proofs.FormsExpressions.{f-expr, f-judged_alone}
use Rattle.name_formed.proofs.FormsFound.{AreOf, Around, DenotedOf, DenotesOf, ExprOf, Finding, FoundOf, LevelForms, MentionsOf, PathOf, PlaceOf, RootOf, ValueOf, WhatOf, each-all}
use Rattle.name_formed.proofs.FormsParts.{f-valued_by}
use Rattle.name_formed.proofs.FormsRanges.{f-chosen_span, f-chosen_value}
use Rattle.name_formed.proofs.FormsValues.{f-settled_found, f-stored}

module _ (W : World) (V : Sight) where
  abbrev StmtOf : TypedPart → Type 0
  StmtOf x = FormedStmt W.program V.known (as_stmt x)

  -- ---- assignments

  abbrev aimed : Shape → Sight
  aimed u = record { known = with_aim u V.known; bound = V.bound }

  what-aimed : (u : Shape) (w : What) → WhatOf W V w → WhatOf W (aimed u) w
  what-aimed u (what.Object n t v z) h = h
  what-aimed u (what.Item n t true) h = h
  what-aimed u (what.Item n t false) h = h
  what-aimed u (what.Sub n) h = h
  what-aimed u what.Hidden h = tt
  what-aimed u what.Broken h = tt
  what-aimed u (what.Parameter n t) h = tt
  what-aimed u (what.Number z) h = tt
  what-aimed u (what.Boolean b) h = tt
  what-aimed u (what.Type t) h = tt
  what-aimed u (what.Exception r) h = tt

  are-aimed : (u : Shape) (es : List Entry) → AreOf W V es → AreOf W (aimed u) es
  are-aimed u [] h = tt
  are-aimed u (e ∷ es) h = (what-aimed u e.what h.0, are-aimed u es h.1)

  around-aimed : (t : Subtype) (here : Context) → Around W V here → Around W (aimed (shape_of W.program t)) (s.with_target here (target.Of t))
  around-aimed t here r = record { scope = are-aimed (shape_of W.program t) here.scope r.scope; target = refl }

  around-faulty : (here : Context) → Around W V here → Around W V (s.with_target here target.Faulty)
  around-faulty here r = record { scope = r.scope; target = tt }

  -- what is judged with a target is judged without one
  seen : (u : Shape) {A : Type 0} (Q : A → Type 0) (p : Judging A) → Forms W (aimed u) Q p → Forms W V Q p
  seen u Q p m = record { at = m.at }

  whole-path : (t u : Shape) (x : TypedPart) → PathOf W V t u x → Selects (selections_of x) t u × FormedSelections W.program V.known (selections_of x)
  unfolding turned
  whole-path t u x h = h part.Nothing u refl tt

  root-at : (b : Bool) (r : _) (t : Shape) → b ≡ true → RootOf W V b r t → RootOf W V true r t
  root-at true r t e h = h
  root-at false r t e h = absurd cc

  f-stored_place : (p : ObjectName) (x : TypedPart) (at : ℕ) (f : Found) → PlaceOf W V p x → p.variable ≡ true → FoundOf W (aimed (shape_of W.program p.subtype)) f → Forms W V (Maybe StmtOf) (s.stored_place p (selections_of x) at f)
  f-stored_place p x at f h e g =
      let u = shape_of W.program p.subtype in
      let q = whole-path h.whole u x h.path in
      f-bind W V (Maybe (ValueOf W (aimed u) p.subtype)) (Maybe StmtOf) (stored p.subtype at f) _ (seen u (Maybe (ValueOf W (aimed u) p.subtype)) (stored p.subtype at f) (f-stored W (aimed u) p.subtype at f g))
      (λ v k. f-pure W V (Maybe StmtOf) (option_map (s.assigned p (selections_of x)) v)
      (mapped (ValueOf W (aimed u) p.subtype) StmtOf (s.assigned p (selections_of x)) v k (λ y t. ((u, (h.whole, root-at p.variable p.root h.whole e h.root, q.0), t.1, t.0), q.1))))

  f-assigned_place : (p : ObjectName) (x : TypedPart) (at : ℕ) (f : Option Found) → PlaceOf W V p x → Finding W (aimed (shape_of W.program p.subtype)) f → Forms W V (Maybe StmtOf) (s.assigned_place p (selections_of x) at f)
  f-assigned_place p x at f h g = by p.variable refl
    where
      by : (b : Bool) → p.variable ≡ b → Forms W V (Maybe StmtOf) (if not b then fault p.first WrongType else given f (s.stored_place p (selections_of x) at))
      by true e = f-given W V (FoundOf W (aimed (shape_of W.program p.subtype))) StmtOf f (s.stored_place p (selections_of x) at) g (λ y q. f-stored_place p x at y h e q)
      by false e = f-fault W V StmtOf p.first WrongType

  f-assign_place : (names : Names) (level : Inside) (here : Context) (p : ObjectName) (x : TypedPart) (e : Expr) → LevelForms W level → Around W V here → PlaceOf W V p x → Forms W V (Maybe StmtOf) (s.assign_place names level here p (selections_of x) e)
  unfolding s.assign_place
  f-assign_place names level here p x e l r h =
      let u = shape_of W.program p.subtype in
      let there = s.with_target here (target.Of p.subtype) in
      f-where_clean W V (Finding W (aimed u)) StmtOf (expr names level there (wanted_of p.subtype) e) (s.assigned_place p (selections_of x) (first_token.of_expr e - 1))
      (seen u (Finding W (aimed u)) (expr names level there (wanted_of p.subtype) e) (f-expr W (aimed u) names level there (wanted_of p.subtype) e l (around-aimed p.subtype here r)))
      (λ y q. f-assigned_place p x (first_token.of_expr e - 1) y h q)

  f-assigned_alone : (names : Names) (level : Inside) (here : Context) (e : Expr) → LevelForms W level → Around W V here → Forms W V Any (s.assigned_alone names level here e)
  f-assigned_alone names level here e l r = f-judged_alone W V names level (s.with_target here target.Faulty) e l (around-faulty here r)

  f-assign_other : (names : Names) (level : Inside) (here : Context) (e : Expr) (first : ℕ) → LevelForms W level → Around W V here → Forms W V (Maybe StmtOf) (s.assign_other names level here e first)
  f-assign_other names level here e first l r = f-where_clean W V Any StmtOf (s.assigned_alone names level here e) (λ u. fault first WrongType) (f-assigned_alone names level here e l r) (λ u q. f-fault W V StmtOf first WrongType)

  f-assign_form : (names : Names) (level : Inside) (here : Context) (e : Expr) (k : KnownDenoted) (x : TypedPart) → LevelForms W level → Around W V here → DenotesOf W V k x → Forms W V (Maybe StmtOf) (s.assign_form names level here e k x)
  f-assign_form names level here e (denoted.Value (known.Object p)) x l r h = f-assign_place names level here p x e l r h
  f-assign_form names level here e k x l r h = f-assign_other names level here e (denoted_first k) l r

  f-assign_to : (names : Names) (level : Inside) (here : Context) (e : Expr) (d : Option Denoted) → LevelForms W level → Around W V here → Maybe (DenotedOf W V) d → Forms W V (Maybe StmtOf) (s.assign_to names level here e d)
  f-assign_to names level here e None l r h = f-bind W V Any (Maybe StmtOf) (s.assigned_alone names level here e) _ (f-assigned_alone names level here e l r) (λ u q. f-none W V StmtOf)
  f-assign_to names level here e (Some d) l r h = f-assign_form names level here e d.known d.part l r h

  pub f-assign : (names : Names) (level : Inside) (here : Context) (n : Name) (e : Expr) → LevelForms W level → Around W V here → Forms W V (Maybe StmtOf) (s.assign names level here n e)
  f-assign names level here n e l r = f-bind W V (Maybe (DenotedOf W V)) (Maybe StmtOf) (level.name here n) (s.assign_to names level here e) (l.name V here n r) (λ d q. f-assign_to names level here e d l r q)

  -- ---- calls of procedures

  f-as_statement : (k : KnownDenoted) (x : TypedPart) → DenotesOf W V k x → Forms W V (Maybe StmtOf) (s.as_statement k x)
  f-as_statement (denoted.Done first) x h = f-some W V StmtOf x h
  f-as_statement k x h = f-fault W V StmtOf (denoted_first k) WrongType

  pub f-call_stmt : (names : Names) (level : Inside) (here : Context) (n : Name) → LevelForms W level → Around W V here → Forms W V (Maybe StmtOf) (s.call_stmt names level here n)
  unfolding s.call_stmt
  f-call_stmt names level here n l r =
      f-bind W V (Maybe (DenotedOf W V)) (Maybe StmtOf) (level.name here n) _ (l.name V here n r) (λ x q.
      f-bind W V (Maybe (DenotedOf W V)) (Maybe StmtOf) (given x (valued_by names level here)) _ (f-given W V (DenotedOf W V) (DenotedOf W V) x (valued_by names level here) q (λ y t. f-valued_by W V names level here y l r t)) (λ e t.
      f-given W V (DenotedOf W V) StmtOf e _ t (λ y u. f-as_statement y.known y.part u)))

  -- ---- values that are returned

  f-value_at : (names : Names) (level : Inside) (here : Context) (at : ℕ) (t : Scalar) (e : Expr) → LevelForms W level → Around W V here → Forms W V (Maybe (ValueOf W V (subtype.Scalar t))) (s.value_at names level here at t e)
  unfolding s.value_at
  f-value_at names level here at t e l r =
      f-bind W V (Finding W V) (Maybe (ValueOf W V (subtype.Scalar t))) (expr names level here wanted.Other e) _ (f-expr W V names level here wanted.Other e l r)
      (λ x q. f-given W V (FoundOf W V) (ValueOf W V (subtype.Scalar t)) x (stored (subtype.Scalar t) at) q (λ f p. f-stored W V (subtype.Scalar t) at f p))

  pub f-returned : (names : Names) (level : Inside) (here : Context) (at : ℕ) (t : Scalar) (e : Expr) → LevelForms W level → Around W V here → Forms W V (Maybe StmtOf) (s.value_at names level here at t e >>= λ v. pure (option_map s.returned v))
  f-returned names level here at t e l r =
      f-bind W V (Maybe (ValueOf W V (subtype.Scalar t))) (Maybe StmtOf) (s.value_at names level here at t e) _ (f-value_at names level here at t e l r) (λ v q. f-pure W V (Maybe StmtOf) (option_map s.returned v) (mapped (ValueOf W V (subtype.Scalar t)) StmtOf s.returned v q (λ x p. p.0)))

  -- ---- a selecting expression, and choices

  abbrev SelectorOf : Selector → Type 0
  SelectorOf x = ExprOf W V x.part

  f-selector : (f : Found) → FoundOf W V f → Forms W V (Maybe SelectorOf) (s.selector f)
  f-selector f h =
      f-if W V (Maybe SelectorOf) (is_scalar f.known && not (is_modular_kind (kind_of f.known))) _ (fault (first_of f.known) WrongType)
      (f-bind W V (Maybe (ExprOf W V)) (Maybe SelectorOf) (settled_found f) _ (f-settled_found W V f h)
      (λ e q. f-pure W V (Maybe SelectorOf) (option_map (s.selector_of (s.selecting f.known)) e) (mapped (ExprOf W V) SelectorOf (s.selector_of (s.selecting f.known)) e q (λ x t. t))))
      (f-fault W V SelectorOf (first_of f.known) WrongType)

  -- the selecting expression, found
  pub f-selecting : (names : Names) (level : Inside) (here : Context) (e : Expr) → LevelForms W level → Around W V here → Forms W V (Maybe SelectorOf) (expr names level here wanted.Other e >>= λ f. given f s.selector)
  f-selecting names level here e l r =
      f-bind W V (Finding W V) (Maybe SelectorOf) (expr names level here wanted.Other e) _ (f-expr W V names level here wanted.Other e l r) (λ x q. f-given W V (FoundOf W V) SelectorOf x s.selector q (λ y t. f-selector y t))

  abbrev ChosenOf : Chosen → Type 0
  ChosenOf x = MentionsOf W V x.part

  abbrev ChoosingOf : Covering × Choosing → Type 0
  ChoosingOf r = MentionsOf W V r.1.mentions

  f-covered_by : (c : Covering) (d : Choosing) (at : ℕ) (low high : ℤ) → MentionsOf W V d.mentions → Forms W V ChoosingOf (cases.covered_by c d at low high)
  f-covered_by c d at low high h =
      f-if W V ChoosingOf (not (int_le low high)) (pure (c, cases.with_span d low high)) _ (f-pure W V ChoosingOf (c, cases.with_span d low high) h)
      (f-bind W V Any ChoosingOf (unless (not (cases.overlaps low high c.ranges)) at StaticRange) _ (f-unless W V (not (cases.overlaps low high c.ranges)) at StaticRange)
      (λ u q. f-pure W V ChoosingOf (cases.also_covered c low high, cases.with_span d low high) h))

  f-maybe_covered : (c : Covering) (d : Choosing) (x : Option Chosen) → MentionsOf W V d.mentions → Maybe ChosenOf x → Forms W V ChoosingOf (cases.maybe_covered c d x)
  f-maybe_covered c d None h g = f-pure W V ChoosingOf (cases.as_faulty c, d) h
  f-maybe_covered c d (Some x) h g = f-covered_by c (cases.also_mentioned d x.part) x.known.at x.known.low x.known.high (each-all (ExprOf W V) d.mentions x.part h g)

  f-case_choice : (level : Inside) (here : Context) (k : Option Kind) (single last : Bool) (c : Covering) (d : Choosing) (x : Choice) → LevelForms W level → Around W V here → MentionsOf W V d.mentions
      → Forms W V ChoosingOf (cases.case_choice level here k single last c d x)
  unfolding cases.case_choice
  f-case_choice level here k single last c d (syntax.Value x) l r h = f-bind W V (Maybe ChosenOf) ChoosingOf (chosen_value level here k x) (cases.maybe_covered c d) (f-chosen_value W V level here k x l r) (λ y q. f-maybe_covered c d y h q)
  f-case_choice level here k single last c d (syntax.Span low high) l r h = f-bind W V (Maybe ChosenOf) ChoosingOf (chosen_span level here k low high) (cases.maybe_covered c d) (f-chosen_span W V level here k low high l r) (λ y q. f-maybe_covered c d y h q)
  f-case_choice level here k single last c d (syntax.Others at) l r h =
      f-bind W V Any ChoosingOf (unless (single && last) at StaticRange) _ (f-unless W V (single && last) at StaticRange) (λ u q. f-pure W V ChoosingOf (cases.with_others c (single && last), record { spans = d.spans; others = true; mentions = d.mentions }) h)

  pub f-case_choices : (level : Inside) (here : Context) (k : Option Kind) (single last : Bool) (c : Covering) (d : Choosing) (xs : List Choice) → LevelForms W level → Around W V here → MentionsOf W V d.mentions
      → Forms W V ChoosingOf (cases.case_choices level here k single last c d xs)
  f-case_choices level here k single last c d [] l r h = f-pure W V ChoosingOf (c, d) h
  f-case_choices level here k single last c d (x ∷ xs) l r h =
      f-bind W V ChoosingOf ChoosingOf (cases.case_choice level here k single last c d x) _ (f-case_choice level here k single last c d x l r h) (λ y q. f-case_choices level here k single last y.0 y.1 xs l r q)
