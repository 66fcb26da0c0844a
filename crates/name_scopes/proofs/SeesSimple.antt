-- What is found is in scope: assignments, calls, returned values, selecting expressions and choices of case statements.
use Rattle.std.proofs.Common.{◌≡◌, refl, ℕ, List, [], ◌∷◌, Option, Some, None, Bool, true, false, if◌then◌else◌, option_map, ◌-◌, ◌&&◌, int_le, ℤ}
use Rattle.std.specs.Prelude.{not}
use Rattle.syntax_tree.specs.FirstTokens as first_token
use Rattle.syntax_tree.specs.Syntax as syntax
use Rattle.syntax_tree.specs.Syntax.{Choice, Expr, Name}
use Rattle.typed_tree.specs.Decoded.{TypedPart, as_stmt}
use Rattle.name_rules.specs.Cases as cases
use Rattle.name_rules.specs.Cases.{Choosing, Covering}
use Rattle.name_rules.specs.Expressions.{Inside, expr}
use Rattle.name_rules.specs.Found.{Denoted, Found}
use Rattle.name_rules.specs.Judging.{fault, given, pure, unless, ◌>>=◌}
use Rattle.name_rules.specs.Names.{denoted_first}
use Rattle.name_rules.specs.Parts.{valued_by}
use Rattle.name_rules.specs.Ranges.{Chosen, chosen_span, chosen_value}
use Rattle.name_rules.specs.Statements as s
use Rattle.name_rules.specs.Statements.{Selector}
use Rattle.name_rules.specs.TypedParts.{selections_of}
use Rattle.name_rules.specs.Types.{wanted_of}
use Rattle.name_rules.specs.Values.{first_of, is_scalar, settled_found, stored, is_modular_kind, kind_of}
use Rattle.name_rules.specs.declared.found.Denoted.TheVariants as denoted
use Rattle.name_rules.specs.declared.found.Denoted.{Denoted as KnownDenoted}
use Rattle.name_rules.specs.declared.found.Found.TheVariants as known
use Rattle.name_rules.specs.declared.found.ObjectName.{ObjectName}
use Rattle.name_rules.specs.declared.log.Rule.TheVariants.{StaticRange, WrongType}
use Rattle.name_rules.specs.declared.scope.Context.{Context}
use Rattle.name_rules.specs.declared.scope.Entry.{Entry}
use Rattle.name_rules.specs.declared.scope.Names.{Names}
use Rattle.name_rules.specs.declared.scope.Target.TheVariants as target
use Rattle.name_rules.specs.declared.types.Kind.{Kind}
use Rattle.name_rules.specs.declared.types.Scalar.{Scalar}
use Rattle.name_rules.specs.declared.types.Subtype.{Subtype}
use Rattle.name_rules.specs.declared.types.Subtype.TheVariants as subtype
use Rattle.name_rules.specs.declared.types.Wanted.TheVariants as wanted
use Rattle.name_scopes.proofs.SeesExpressions.{v-expr, v-judged_alone}
use Rattle.name_scopes.proofs.SeesParts.{v-valued_by}
use Rattle.name_scopes.proofs.SeesRanges.{v-chosen_span, v-chosen_value}
use Rattle.std.proofs.Common.{◌≤◌, arith}
use Rattle.ada_meaning.specs.Shapes.{size}
use Rattle.typed_scopes.specs.Scopes as scopes
use Rattle.typed_tree.specs.Decoded.{as_value}
use Rattle.typed_tree.specs.Syntax as typed
use Rattle.typed_tree.specs.Syntax.{Value}
use Rattle.name_rules.specs.Limits.{most_cells}
use Rattle.name_formed.proofs.Forms.{shape_of}
use Rattle.name_scopes.proofs.Seen.{SeenNumber, SeenStmt, SeenValue}
use Rattle.name_scopes.proofs.Sees.{Any, Sees, Maybe, Sight, World, seeing, v-bind, v-fault, v-given, v-if, v-none, v-pure, v-seeing, v-some, v-unless, v-where_clean, mapped}
use Rattle.name_scopes.proofs.SeesFound.{AreOf, Around, DenotedOf, DenotesOf, ExprOf, Finding, FoundOf, LevelSees, MentionsOf, PlaceOf, ValueOf, each-all}
use Rattle.name_scopes.proofs.SeesIterations.{are-wider}
use Rattle.name_scopes.proofs.SeesValues.{as-variable, v-settled_found, v-stored}

module _ (W : World) (V : Sight) where
  abbrev StmtOf : TypedPart → Type 0
  StmtOf x = SeenStmt W.program W.shown V.around (as_stmt x)

  -- ---- assignments

  abbrev aimed : ℕ → scopes.Around
  aimed n = scopes.with_target n V.around

  are-aimed : (n : ℕ) (es : List Entry) → AreOf W V es → AreOf W (seeing (aimed n) V) es
  are-aimed n es h = are-wider W V.around (aimed n) V es (record { object = λ y e. e; outer = λ y e. e; parameter = λ k e. e }) h

  around-aimed : (t : Subtype) (here : Context) → Around W V here → Around W (seeing (aimed (size (shape_of W.program t))) V) (s.with_target here (target.Of t))
  around-aimed t here r = record { scope = are-aimed (size (shape_of W.program t)) here.scope r.scope; target = refl }

  around-faulty : (here : Context) → Around W V here → Around W V (s.with_target here target.Faulty)
  around-faulty here r = record { scope = r.scope; target = tt }

  v-stored_place : (p : ObjectName) (x : TypedPart) (at : ℕ) (f : Found) → PlaceOf W V p x → p.variable ≡ true → FoundOf W (seeing (aimed (size (shape_of W.program p.subtype))) V) f → Sees W V (Maybe StmtOf) (s.stored_place p (selections_of x) at f)
  v-stored_place p x at f h e g =
      let n = size (shape_of W.program p.subtype) in
      let U = seeing (aimed n) V in
      let q = as-variable W V p x h e in
      v-bind W V (Maybe (ValueOf W U p.subtype)) (Maybe StmtOf) (stored p.subtype at f) _ (v-seeing W V (aimed n) (Maybe (ValueOf W U p.subtype)) (stored p.subtype at f) (v-stored W U p.subtype at f g))
      (λ v k. v-pure W V (Maybe StmtOf) (option_map (s.assigned p (selections_of x)) v)
      (mapped (ValueOf W U p.subtype) StmtOf (s.assigned p (selections_of x)) v k (λ y t. (q.0, q.1, (n, t h.small)))))

  v-assigned_place : (p : ObjectName) (x : TypedPart) (at : ℕ) (f : Option Found) → PlaceOf W V p x → Finding W (seeing (aimed (size (shape_of W.program p.subtype))) V) f → Sees W V (Maybe StmtOf) (s.assigned_place p (selections_of x) at f)
  v-assigned_place p x at f h g = by p.variable refl
    where
      by : (b : Bool) → p.variable ≡ b → Sees W V (Maybe StmtOf) (if not b then fault p.first WrongType else given f (s.stored_place p (selections_of x) at))
      by true e = v-given W V (FoundOf W (seeing (aimed (size (shape_of W.program p.subtype))) V)) StmtOf f (s.stored_place p (selections_of x) at) g (λ y q. v-stored_place p x at y h e q)
      by false e = v-fault W V StmtOf p.first WrongType

  v-assign_place : (names : Names) (level : Inside) (here : Context) (p : ObjectName) (x : TypedPart) (e : Expr) → LevelSees W level → Around W V here → PlaceOf W V p x → Sees W V (Maybe StmtOf) (s.assign_place names level here p (selections_of x) e)
  unfolding s.assign_place
  v-assign_place names level here p x e l r h =
      let n = size (shape_of W.program p.subtype) in
      let U = seeing (aimed n) V in
      let there = s.with_target here (target.Of p.subtype) in
      v-where_clean W V (Finding W U) StmtOf (expr names level there (wanted_of p.subtype) e) (s.assigned_place p (selections_of x) (first_token.of_expr e - 1))
      (v-seeing W V (aimed n) (Finding W U) (expr names level there (wanted_of p.subtype) e) (v-expr W U names level there (wanted_of p.subtype) e l (around-aimed p.subtype here r)))
      (λ y q. v-assigned_place p x (first_token.of_expr e - 1) y h q)

  v-assigned_alone : (names : Names) (level : Inside) (here : Context) (e : Expr) → LevelSees W level → Around W V here → Sees W V Any (s.assigned_alone names level here e)
  v-assigned_alone names level here e l r = v-judged_alone W V names level (s.with_target here target.Faulty) e l (around-faulty here r)

  v-assign_other : (names : Names) (level : Inside) (here : Context) (e : Expr) (first : ℕ) → LevelSees W level → Around W V here → Sees W V (Maybe StmtOf) (s.assign_other names level here e first)
  v-assign_other names level here e first l r = v-where_clean W V Any StmtOf (s.assigned_alone names level here e) (λ u. fault first WrongType) (v-assigned_alone names level here e l r) (λ u q. v-fault W V StmtOf first WrongType)

  v-assign_form : (names : Names) (level : Inside) (here : Context) (e : Expr) (k : KnownDenoted) (x : TypedPart) → LevelSees W level → Around W V here → DenotesOf W V k x → Sees W V (Maybe StmtOf) (s.assign_form names level here e k x)
  v-assign_form names level here e (denoted.Value (known.Object p)) x l r h = v-assign_place names level here p x e l r h
  v-assign_form names level here e k x l r h = v-assign_other names level here e (denoted_first k) l r

  v-assign_to : (names : Names) (level : Inside) (here : Context) (e : Expr) (d : Option Denoted) → LevelSees W level → Around W V here → Maybe (DenotedOf W V) d → Sees W V (Maybe StmtOf) (s.assign_to names level here e d)
  v-assign_to names level here e None l r h = v-bind W V Any (Maybe StmtOf) (s.assigned_alone names level here e) _ (v-assigned_alone names level here e l r) (λ u q. v-none W V StmtOf)
  v-assign_to names level here e (Some d) l r h = v-assign_form names level here e d.known d.part l r h

  pub v-assign : (names : Names) (level : Inside) (here : Context) (n : Name) (e : Expr) → LevelSees W level → Around W V here → Sees W V (Maybe StmtOf) (s.assign names level here n e)
  v-assign names level here n e l r = v-bind W V (Maybe (DenotedOf W V)) (Maybe StmtOf) (level.name here n) (s.assign_to names level here e) (l.name V here n r) (λ d q. v-assign_to names level here e d l r q)

  -- ---- calls of procedures

  v-as_statement : (k : KnownDenoted) (x : TypedPart) → DenotesOf W V k x → Sees W V (Maybe StmtOf) (s.as_statement k x)
  v-as_statement (denoted.Done first) x h = v-some W V StmtOf x h
  v-as_statement k x h = v-fault W V StmtOf (denoted_first k) WrongType

  pub v-call_stmt : (names : Names) (level : Inside) (here : Context) (n : Name) → LevelSees W level → Around W V here → Sees W V (Maybe StmtOf) (s.call_stmt names level here n)
  unfolding s.call_stmt
  v-call_stmt names level here n l r =
      v-bind W V (Maybe (DenotedOf W V)) (Maybe StmtOf) (level.name here n) _ (l.name V here n r) (λ x q.
      v-bind W V (Maybe (DenotedOf W V)) (Maybe StmtOf) (given x (valued_by names level here)) _ (v-given W V (DenotedOf W V) (DenotedOf W V) x (valued_by names level here) q (λ y t. v-valued_by W V names level here y l r t)) (λ e t.
      v-given W V (DenotedOf W V) StmtOf e _ t (λ y u. v-as_statement y.known y.part u)))

  -- ---- values that are returned

  pub number-seen : (v : Value) → SeenValue W.program W.shown V.around 1 v → SeenNumber W.program W.shown V.around v
  number-seen (typed.Number check e) h = h.1
  number-seen (typed.Cells c) h = tt

  pub one-small : 1 ≤ most_cells
  one-small = omega arith

  v-value_at : (names : Names) (level : Inside) (here : Context) (at : ℕ) (t : Scalar) (e : Expr) → LevelSees W level → Around W V here → Sees W V (Maybe (ValueOf W V (subtype.Scalar t))) (s.value_at names level here at t e)
  unfolding s.value_at
  v-value_at names level here at t e l r =
      v-bind W V (Finding W V) (Maybe (ValueOf W V (subtype.Scalar t))) (expr names level here wanted.Other e) _ (v-expr W V names level here wanted.Other e l r)
      (λ x q. v-given W V (FoundOf W V) (ValueOf W V (subtype.Scalar t)) x (stored (subtype.Scalar t) at) q (λ f p. v-stored W V (subtype.Scalar t) at f p))

  pub v-returned : (names : Names) (level : Inside) (here : Context) (at : ℕ) (t : Scalar) (e : Expr) → LevelSees W level → Around W V here → Sees W V (Maybe StmtOf) (s.value_at names level here at t e >>= λ v. pure (option_map s.returned v))
  v-returned names level here at t e l r =
      v-bind W V (Maybe (ValueOf W V (subtype.Scalar t))) (Maybe StmtOf) (s.value_at names level here at t e) _ (v-value_at names level here at t e l r) (λ v q. v-pure W V (Maybe StmtOf) (option_map s.returned v) (mapped (ValueOf W V (subtype.Scalar t)) StmtOf s.returned v q (λ x p. number-seen (as_value x) (p one-small))))

  -- ---- a selecting expression, and choices

  abbrev SelectorOf : Selector → Type 0
  SelectorOf x = ExprOf W V x.part

  v-selector : (f : Found) → FoundOf W V f → Sees W V (Maybe SelectorOf) (s.selector f)
  v-selector f h =
      v-if W V (Maybe SelectorOf) (is_scalar f.known && not (is_modular_kind (kind_of f.known))) _ (fault (first_of f.known) WrongType)
      (v-bind W V (Maybe (ExprOf W V)) (Maybe SelectorOf) (settled_found f) _ (v-settled_found W V f h)
      (λ e q. v-pure W V (Maybe SelectorOf) (option_map (s.selector_of (s.selecting f.known)) e) (mapped (ExprOf W V) SelectorOf (s.selector_of (s.selecting f.known)) e q (λ x t. t))))
      (v-fault W V SelectorOf (first_of f.known) WrongType)

  -- the selecting expression, found
  pub v-selecting : (names : Names) (level : Inside) (here : Context) (e : Expr) → LevelSees W level → Around W V here → Sees W V (Maybe SelectorOf) (expr names level here wanted.Other e >>= λ f. given f s.selector)
  v-selecting names level here e l r =
      v-bind W V (Finding W V) (Maybe SelectorOf) (expr names level here wanted.Other e) _ (v-expr W V names level here wanted.Other e l r) (λ x q. v-given W V (FoundOf W V) SelectorOf x s.selector q (λ y t. v-selector y t))

  abbrev ChosenOf : Chosen → Type 0
  ChosenOf x = MentionsOf W V x.part

  abbrev ChoosingOf : Covering × Choosing → Type 0
  ChoosingOf r = MentionsOf W V r.1.mentions

  v-covered_by : (c : Covering) (d : Choosing) (at : ℕ) (low high : ℤ) → MentionsOf W V d.mentions → Sees W V ChoosingOf (cases.covered_by c d at low high)
  v-covered_by c d at low high h =
      v-if W V ChoosingOf (not (int_le low high)) (pure (c, cases.with_span d low high)) _ (v-pure W V ChoosingOf (c, cases.with_span d low high) h)
      (v-bind W V Any ChoosingOf (unless (not (cases.overlaps low high c.ranges)) at StaticRange) _ (v-unless W V (not (cases.overlaps low high c.ranges)) at StaticRange)
      (λ u q. v-pure W V ChoosingOf (cases.also_covered c low high, cases.with_span d low high) h))

  v-maybe_covered : (c : Covering) (d : Choosing) (x : Option Chosen) → MentionsOf W V d.mentions → Maybe ChosenOf x → Sees W V ChoosingOf (cases.maybe_covered c d x)
  v-maybe_covered c d None h g = v-pure W V ChoosingOf (cases.as_faulty c, d) h
  v-maybe_covered c d (Some x) h g = v-covered_by c (cases.also_mentioned d x.part) x.known.at x.known.low x.known.high (each-all (ExprOf W V) d.mentions x.part h g)

  v-case_choice : (level : Inside) (here : Context) (k : Option Kind) (single last : Bool) (c : Covering) (d : Choosing) (x : Choice) → LevelSees W level → Around W V here → MentionsOf W V d.mentions
      → Sees W V ChoosingOf (cases.case_choice level here k single last c d x)
  unfolding cases.case_choice
  v-case_choice level here k single last c d (syntax.Value x) l r h = v-bind W V (Maybe ChosenOf) ChoosingOf (chosen_value level here k x) (cases.maybe_covered c d) (v-chosen_value W V level here k x l r) (λ y q. v-maybe_covered c d y h q)
  v-case_choice level here k single last c d (syntax.Span low high) l r h = v-bind W V (Maybe ChosenOf) ChoosingOf (chosen_span level here k low high) (cases.maybe_covered c d) (v-chosen_span W V level here k low high l r) (λ y q. v-maybe_covered c d y h q)
  v-case_choice level here k single last c d (syntax.Others at) l r h =
      v-bind W V Any ChoosingOf (unless (single && last) at StaticRange) _ (v-unless W V (single && last) at StaticRange) (λ u q. v-pure W V ChoosingOf (cases.with_others c (single && last), record { spans = d.spans; others = true; mentions = d.mentions }) h)

  pub v-case_choices : (level : Inside) (here : Context) (k : Option Kind) (single last : Bool) (c : Covering) (d : Choosing) (xs : List Choice) → LevelSees W level → Around W V here → MentionsOf W V d.mentions
      → Sees W V ChoosingOf (cases.case_choices level here k single last c d xs)
  v-case_choices level here k single last c d [] l r h = v-pure W V ChoosingOf (c, d) h
  v-case_choices level here k single last c d (x ∷ xs) l r h =
      v-bind W V ChoosingOf ChoosingOf (cases.case_choice level here k single last c d x) _ (v-case_choice level here k single last c d x l r h) (λ y q. v-case_choices level here k single last y.0 y.1 xs l r q)
