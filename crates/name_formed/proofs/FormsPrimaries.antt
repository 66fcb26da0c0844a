-- What is found is formed: conditional expressions, brackets, primaries, at every level.
use Rattle.std.proofs.Common.{◌≡◌, refl, ◌≤◌, max, arith, ℕ, ℤ, zero, suc, List, [], ◌∷◌, Option, Some, None, Bool, true, false, option_map}
use Rattle.std.specs.Prelude.{is_some, not, ◌||◌}
use Rattle.syntax_tree.specs.FirstTokens as first_token
use Rattle.syntax_tree.specs.Syntax as syntax
use Rattle.syntax_tree.specs.Syntax.{Elsifs, Expr, Iter, OptionalParallel, Primary}
use Rattle.typed_tree.specs.Decoded as part
use Rattle.typed_tree.specs.Decoded.{TypedPart, as_composite, as_expr}
use Rattle.typed_tree.specs.Syntax as typed
use Rattle.typed_tree.specs.declared.program.SiteKind.TheVariants as site
use Rattle.name_rules.specs.Aggregates.{ByPosition, contents}
use Rattle.name_rules.specs.Attributes.{attribute_at}
use Rattle.name_rules.specs.Expressions.{Inside, condition, expr}
use Rattle.name_rules.specs.Found.{Found, opened, scalar, static, universal}
use Rattle.name_rules.specs.Iterations.{Entered, entered, is_reduce, only_reduce_rules, reverse_rule, sequence, sequence_folded, sequence_given, sequence_rules}
use Rattle.name_rules.specs.Judging.{both, given, joined, pure, unless}
use Rattle.name_rules.specs.Operators.{open_of}
use Rattle.name_rules.specs.Parts.{value_named}
use Rattle.name_rules.specs.Primaries as primaries
use Rattle.name_rules.specs.Primaries.{Waiting, also_choice, alternative, alternatives, common_type, composite_if, composite_ifs, composite_in, composite_part, conditional, grouped, grouped_by, grouped_form, grouped_scalar, if_expr, if_part, no_text, open_if, open_ifs, open_part, primary, scalar_if, scalar_ifs, target_at, target_found, text_at, with_known}
use Rattle.name_rules.specs.Reducers.{reducer_of}
use Rattle.name_rules.specs.Symbols.{symbol}
use Rattle.name_rules.specs.TypedParts.{left_of, right_of}
use Rattle.name_rules.specs.Values.{asked, composite_asked, kind_of, mentions_of, value_of}
use Rattle.name_rules.specs.declared.found.Attribute.{Attribute}
use Rattle.name_rules.specs.declared.found.Folding.{Folding}
use Rattle.name_rules.specs.declared.found.Found.TheVariants as known
use Rattle.name_rules.specs.declared.found.Found.{Found as Known}
use Rattle.name_rules.specs.declared.found.Limits.{Limits}
use Rattle.name_rules.specs.declared.log.Bound.TheVariants as bound
use Rattle.name_rules.specs.declared.log.Rule.TheVariants.{Limit, NotVisible, ReduceRule, Unknown, WrongType}
use Rattle.name_rules.specs.declared.scope.Context.{Context}
use Rattle.name_rules.specs.declared.scope.Names.{Names}
use Rattle.name_rules.specs.declared.scope.Target.TheVariants as target
use Rattle.name_rules.specs.declared.scope.Target.{Target}
use Rattle.name_rules.specs.declared.types.Kind.{Kind}
use Rattle.name_rules.specs.declared.types.Subtype.TheVariants as subtype
use Rattle.name_rules.specs.declared.types.Wanted.TheVariants as wanted
use Rattle.name_rules.specs.declared.types.Wanted.{Wanted}
use Rattle.ada_meaning.specs.Formed.{Known as Around', composite_width}
use Rattle.ada_meaning.specs.Shapes.{Single, size, subtype_shape}
use Rattle.name_rules.specs.Found.{text_found}
use Rattle.name_rules.specs.Symbols.{number, text}
use Rattle.name_rules.specs.TypedParts.{also}
use Rattle.name_rules.specs.declared.log.Rule.TheVariants.{ChunkRule}
use Rattle.name_formed.proofs.Forms.{Any, Forms, Maybe, Sight, World, f-bind, f-both, f-breaks, f-fault, f-given, f-if, f-none, f-pure, f-some, f-unless, joint, mapped, w-bind, w-pure}
use Rattle.name_formed.proofs.FormsAggregates.{f-aggregate}
use Rattle.name_formed.proofs.FormsExpressions.{f-condition, f-expr, f-placed}
use Rattle.name_formed.proofs.FormsFound.{Around, ChunkOf, DenotedOf, ExprOf, Finding, FoundOf, IterationOf, KnownOf, LevelForms, TargetOf, WideOf}
use Rattle.name_formed.proofs.FormsIterations.{EnteredOf, around-later, sight, w-entered}
use Rattle.name_formed.proofs.FormsOperators.{WaitsOf, open-found}
use Rattle.name_formed.proofs.FormsParts.{f-name, f-value_named}
use Rattle.name_formed.proofs.FormsReducers.{FoldingOf, f-folded_by, f-reducer_of}
use Rattle.name_formed.proofs.FormsValues.{f-asked, f-composite_asked, of-cells, static-mentions}

module _ (W : World) (V : Sight) where
  -- ---- conditional expressions

  abbrev Waits : List Known → TypedPart → Type 0
  Waits [] ps = Unit {0}
  Waits (f ∷ fs) ps = ExprOf W V (left_of (left_of ps)) × (KnownOf W V) f (right_of (left_of ps)) × Waits fs (right_of ps)

  abbrev WaitingOf : Waiting → Type 0
  WaitingOf w = Waits w.known w.part

  also-choice : (w : Option Waiting) (x : Option TypedPart) (f : Option Found) → Maybe WaitingOf w → Maybe (ExprOf W V) x → Finding W V f → Maybe WaitingOf (also_choice w x f)
  also-choice None x f g h i = tt
  also-choice (Some w) None f g h i = tt
  also-choice (Some w) (Some x) None g h i = tt
  also-choice (Some w) (Some x) (Some f) g h i = (h, i, g)

  f-alternative : (names : Names) (level : Inside) (here : Context) (want : Wanted) (made : Option Waiting) (c v : Expr) → LevelForms W level → Around W V here → Maybe WaitingOf made → Forms W V (Maybe WaitingOf) (alternative names level here want made c v)
  unfolding alternative
  f-alternative names level here want made c v l r g =
      f-bind W V (Maybe (ExprOf W V)) (Maybe WaitingOf) (condition names level here c) _ (f-condition W V names level here c l r) (λ x q.
      f-bind W V (Finding W V) (Maybe WaitingOf) (expr names level here want v) _ (f-expr W V names level here want v l r) (λ y s. f-pure W V (Maybe WaitingOf) (also_choice made x y) (also-choice made x y g q s)))

  f-alternatives : (names : Names) (level : Inside) (here : Context) (want : Wanted) (made : Option Waiting) (es : Elsifs) → LevelForms W level → Around W V here → Maybe WaitingOf made → Forms W V (Maybe WaitingOf) (alternatives names level here want made es)
  f-alternatives names level here want made syntax.NoElsif l r g = f-pure W V (Maybe WaitingOf) made g
  f-alternatives names level here want made (syntax.AlsoElsif (syntax.elsif at c v) es) l r g = f-bind W V (Maybe WaitingOf) (Maybe WaitingOf) (alternative names level here want made c v) _ (f-alternative names level here want made c v l r g) (λ d q. f-alternatives names level here want d es l r q)

  f-scalar_ifs : (k : Kind) (fs : List Known) (ps : TypedPart) (o : Option TypedPart) → Waits fs ps → Maybe (ExprOf W V) o → Forms W V (Maybe (ExprOf W V)) (scalar_ifs k fs ps o)
  f-scalar_ifs k [] ps o g h = f-pure W V (Maybe (ExprOf W V)) o h
  f-scalar_ifs k (f ∷ fs) ps o g h =
      f-bind W V (Maybe (ExprOf W V)) (Maybe (ExprOf W V)) (asked k (record { known = f; part = right_of (left_of ps) })) _ (f-asked W V k (record { known = f; part = right_of (left_of ps) }) g.1) (λ v q.
      f-scalar_ifs k fs (right_of ps) (joined (if_part (left_of (left_of ps))) v o) g.2 (joint (ExprOf W V) (ExprOf W V) (ExprOf W V) (if_part (left_of (left_of ps))) v o q h (λ a b s t. (g.0, s, t))))

  f-scalar_if : (bracket : ℕ) (k : Kind) (w : Waiting) (f : Found) → WaitingOf w → FoundOf W V f → Forms W V (Finding W V) (scalar_if bracket k w f)
  unfolding scalar_if
  f-scalar_if bracket k w f g h =
      f-bind W V (Maybe (ExprOf W V)) (Finding W V) (asked k f) _ (f-asked W V k f h) (λ o q.
      f-bind W V (Maybe (ExprOf W V)) (Finding W V) (scalar_ifs k w.known w.part o) _ (f-scalar_ifs k w.known w.part o g q) (λ e s.
      f-pure W V (Finding W V) (option_map (with_known (known.Scalar bracket k None)) e) (mapped (ExprOf W V) (FoundOf W V) (with_known (known.Scalar bracket k None)) e s (λ x t. t))))

  both-wide : (a b c : ℕ) → a ≤ c → b ≤ c → max a b ≤ c
  both-wide a b c h k = omega (arith, h, k)

  f-composite_ifs : (n : ℕ) (fs : List Known) (ps : TypedPart) (o : Option TypedPart) → Waits fs ps → Maybe (WideOf W V n) o → Forms W V (Maybe (WideOf W V n)) (composite_ifs n fs ps o)
  f-composite_ifs n [] ps o g h = f-pure W V (Maybe (WideOf W V n)) o h
  f-composite_ifs n (f ∷ fs) ps o g h =
      f-bind W V (Maybe (WideOf W V n)) (Maybe (WideOf W V n)) (composite_asked n (record { known = f; part = right_of (left_of ps) })) _ (f-composite_asked W V n (record { known = f; part = right_of (left_of ps) }) g.1) (λ v q.
      f-composite_ifs n fs (right_of ps) (joined (composite_part (left_of (left_of ps))) v o) g.2 (joint (WideOf W V n) (WideOf W V n) (WideOf W V n) (composite_part (left_of (left_of ps))) v o q h (λ a b s t. ((g.0, s.0, t.0), both-wide (composite_width W.program.subtypes (as_composite a)) (composite_width W.program.subtypes (as_composite b)) (size (subtype_shape W.program n)) s.1 t.1))))

  f-composite_if : (bracket n : ℕ) (w : Waiting) (f : Found) → WaitingOf w → FoundOf W V f → Forms W V (Finding W V) (composite_if bracket n w f)
  unfolding composite_if
  f-composite_if bracket n w f g h =
      f-bind W V (Maybe (WideOf W V n)) (Finding W V) (composite_asked n f) _ (f-composite_asked W V n f h) (λ o q.
      f-bind W V (Maybe (WideOf W V n)) (Finding W V) (composite_ifs n w.known w.part o) _ (f-composite_ifs n w.known w.part o g q) (λ c s.
      f-pure W V (Finding W V) (option_map (with_known (known.Composite bracket n)) c) (mapped (WideOf W V n) (FoundOf W V) (with_known (known.Composite bracket n)) c s (λ x t. t))))

  open-part : (c : TypedPart) (v o : Limits × TypedPart) → ExprOf W V c → WaitsOf W V v → WaitsOf W V o → WaitsOf W V (open_part c v o)
  open-part c v o g h i d k = (g, h d k, i d k)

  open-ifs : (fs : List Known) (ps : TypedPart) (o : Option (Limits × TypedPart)) → Waits fs ps → Maybe (WaitsOf W V) o → Maybe (WaitsOf W V) (open_ifs fs ps o)
  open-ifs [] ps o g h = h
  open-ifs (f ∷ fs) ps o g h =
      open-ifs fs (right_of ps) (joined (open_part (left_of (left_of ps))) (open_of (record { known = f; part = right_of (left_of ps) })) o) g.2
      (joint (WaitsOf W V) (WaitsOf W V) (WaitsOf W V) (open_part (left_of (left_of ps))) (open_of (record { known = f; part = right_of (left_of ps) })) o (open-found W V (record { known = f; part = right_of (left_of ps) }) g.1) h (λ a b s t. open-part (left_of (left_of ps)) a b g.0 s t))

  f-conditional : (bracket : ℕ) (w : Waiting) (f : Found) (k : Option Kind) (n : Option ℕ) → WaitingOf w → FoundOf W V f → Forms W V (Finding W V) (conditional bracket w f k n)
  f-conditional bracket w f (Some k) n g h = f-scalar_if bracket k w f g h
  f-conditional bracket w f None (Some n) g h = f-composite_if bracket n w f g h
  f-conditional bracket w f None None g h =
      f-pure W V (Finding W V) (option_map (open_if bracket) (open_ifs w.known w.part (open_of f))) (mapped (WaitsOf W V) (FoundOf W V) (open_if bracket) (open_ifs w.known w.part (open_of f)) (open-ifs w.known w.part (open_of f) g (open-found W V f h)) (λ x s. s))

  f-if_expr : (names : Names) (level : Inside) (here : Context) (want : Wanted) (bracket : ℕ) (c v : Expr) (more : Elsifs) (o : Expr) → LevelForms W level → Around W V here → Forms W V (Finding W V) (if_expr names level here want bracket c v more o)
  unfolding if_expr
  f-if_expr names level here want bracket c v more o l r =
      f-bind W V (Maybe WaitingOf) (Finding W V) (alternative names level here want (Some (record { known = []; part = part.Nothing })) c v) _ (f-alternative names level here want (Some (record { known = []; part = part.Nothing })) c v l r tt) (λ d q.
      f-bind W V (Maybe WaitingOf) (Finding W V) (alternatives names level here want d more) _ (f-alternatives names level here want d more l r q) (λ ds s.
      f-bind W V (Finding W V) (Finding W V) (expr names level here want o) _ (f-expr W V names level here want o l r) (λ f t.
      f-both W V WaitingOf (FoundOf W V) (FoundOf W V) ds f _ s t (λ w x i j. f-conditional bracket w x (common_type w x).0 (common_type w x).1 i j))))

  -- ---- brackets

  f-grouped_scalar : (bracket : ℕ) (f : Found) (k : Option Kind) (n : Option ℕ) → FoundOf W V f → Forms W V (Finding W V) (grouped_scalar bracket f k n)
  f-grouped_scalar bracket f (Some k) n h = f-bind W V (Maybe (ExprOf W V)) (Finding W V) (asked k f) _ (f-asked W V k f h) (λ x q. f-given W V (ExprOf W V) (FoundOf W V) x _ q (λ e s. f-some W V (FoundOf W V) (scalar bracket k None (typed.Group (as_expr e))) s))
  f-grouped_scalar bracket f None (Some n) h = f-bind W V (Maybe (WideOf W V n)) (Finding W V) (composite_asked n f) _ (f-composite_asked W V n f h) (λ c q. f-pure W V (Finding W V) (option_map (with_known (known.Composite bracket n)) c) (mapped (WideOf W V n) (FoundOf W V) (with_known (known.Composite bracket n)) c q (λ x s. s)))
  f-grouped_scalar bracket f None None h = f-none W V (FoundOf W V)

  f-grouped_by : (bracket : ℕ) (f : Found) (k : Option Kind) (z : Option ℤ) → kind_of f.known ≡ k → value_of f.known ≡ z → FoundOf W V f → Forms W V (Finding W V) (grouped_by bracket f k z)
  f-grouped_by bracket f (Some k) (Some z) e g h = f-some W V (FoundOf W V) (static bracket k z (mentions_of f)) (static-mentions W V f.known f.part z h g)
  f-grouped_by bracket f (Some k) None e g h = f-grouped_scalar bracket f (Some k) (composite_in f.known) h
  f-grouped_by bracket f None z e g h = f-grouped_scalar bracket f None (composite_in f.known) h

  f-grouped_form : (bracket : ℕ) (f : Known) (x : TypedPart) → KnownOf W V f x → Forms W V (Finding W V) (grouped_form bracket f x)
  f-grouped_form bracket (known.Universal first z alone) x h = f-some W V (FoundOf W V) (with_known (known.Universal bracket z false) x) h
  f-grouped_form bracket (known.Open first l) x h = f-some W V (FoundOf W V) (opened bracket l (typed.Group (as_expr x))) h
  f-grouped_form bracket (known.Text first) x h = f-some W V (FoundOf W V) (with_known (known.Text bracket) x) h
  f-grouped_form bracket f x h = f-grouped_by bracket (with_known f x) (kind_of f) (value_of f) refl refl h

  f-grouped : (bracket : ℕ) (f : Found) → FoundOf W V f → Forms W V (Finding W V) (grouped bracket f)
  unfolding grouped
  f-grouped bracket f h = f-grouped_form bracket f.known f.part h

  -- ---- `@` and strings

  f-target_at : (at : ℕ) (t : Target) → TargetOf W V t → Forms W V (Finding W V) (target_at at t)
  f-target_at at target.Nothing h = f-fault W V (FoundOf W V) at NotVisible
  f-target_at at target.Faulty h = f-none W V (FoundOf W V)
  f-target_at at (target.Of (subtype.Scalar s)) h = f-some W V (FoundOf W V) (target_found at (subtype.Scalar s)) (Single, h, least 1)
    where
      least : (n : ℕ) → n ≤ n
      least n = omega arith
  f-target_at at (target.Of (subtype.Composite n)) h = f-some W V (FoundOf W V) (target_found at (subtype.Composite n)) ((subtype_shape W.program n, h, of-cells W V n), of-cells W V n)

  f-text_at : (names : Names) (at : ℕ) (want : Wanted) → Forms W V (Finding W V) (text_at names at want)
  f-text_at names at wanted.Text = f-some W V (FoundOf W V) (text_found at (also part.Nothing (part.APiece (typed.Text (text names at))))) ((λ ps h. h), tt)
  f-text_at names at want = f-fault W V (FoundOf W V) at WrongType

  -- ---- reductions of value sequences

  f-sequence_given : (w : Around') (bracket attribute : ℕ) (e : Entered) (f : Folding) (x v : Found) → Maybe (ChunkOf W V) e.chunk → Maybe (IterationOf W V (record { known = w; bound = V.bound })) e.iteration → FoldingOf W V f
      → FoundOf W (record { known = w; bound = V.bound }) x → FoundOf W V v → Forms W V (Finding W V) (sequence_given bracket attribute e f x v)
  f-sequence_given w bracket attribute e f x v g h d s t =
      f-both W V (ChunkOf W V) (IterationOf W V (record { known = w; bound = V.bound })) (FoundOf W V) e.chunk e.iteration _ g h (λ c i m n. f-folded_by W V w (record { at = bracket; attribute = attribute; site = e.construct }) c i f x v d m n s t)

  abbrev SequenceOf : Option ℕ × Option Found → Type 0
  SequenceOf p = Finding W V p.1

  abbrev RuledOf : (Option ℕ × Option Found) × Bool → Type 0
  RuledOf p = (Finding W V) p.0.1

  f-reverse_rule : (at : Option ℕ) → Forms W V Any (reverse_rule at)
  f-reverse_rule None = f-pure W V Any tt tt
  f-reverse_rule (Some at) = f-breaks W V at ChunkRule

  f-sequence_rules : (attribute : ℕ) (a : Option Attribute) (p : (Option ℕ × Option Found) × Bool) → RuledOf p → Forms W V (Finding W V) (sequence_rules attribute a p)
  f-sequence_rules attribute a p h =
      f-if W V (Finding W V) (not p.1) (pure None) _ (f-none W V (FoundOf W V))
      (f-bind W V Any (Finding W V) (unless (not (is_some a) || is_reduce a) attribute ReduceRule) _ (f-unless W V (not (is_some a) || is_reduce a) attribute ReduceRule) (λ u q.
      f-bind W V Any (Finding W V) (reverse_rule p.0.0) _ (f-reverse_rule p.0.0) (λ w s. f-pure W V (Finding W V) p.0.1 h)))

module _ (W : World) (V : Sight) where
  until : (a b c : ℕ) → a ≤ b → b ≤ c → a ≤ c
  until a b c i j = omega (arith, i, j)

  f-sequence_folded : (names : Names) (level : Inside) (here : Context) (bracket : ℕ) (p : OptionalParallel) (i : Iter) (value : Expr) (attribute : ℕ) (reducer initial : Expr) → LevelForms W level → Around W V here
      → Forms W V (SequenceOf W V) (sequence_folded names level here bracket p i value attribute reducer initial)
  f-sequence_folded names level here bracket p i value attribute reducer initial l r =
      let R : ℕ → Option ℕ × Option Found → Type 0 = λ m. SequenceOf W V in
      w-bind W V.bound (λ m. Maybe (FoldingOf W V)) R (reducer_of names level here reducer) _ (f-reducer_of W V names level here reducer l r) (λ f m1 i1 q1.
      let V1 = sight V.known m1 in
      let r1 = around-later W V.known V.bound m1 here i1 r in
      w-bind W m1 (EnteredOf W V1) R (entered names level level here site.Reduction p i) _ (w-entered W V1 names level level here site.Reduction p i l l r1) (λ e m2 i2 q2.
      w-bind W m2 (λ m. Finding W (sight q2.known m2)) R (expr names level e.here wanted.Other value) _ (f-expr W (sight q2.known m2) names level e.here wanted.Other value l q2.around) (λ x m3 i3 q3.
      let r3 = around-later W V.known m1 m3 here (until m1 m2 m3 i2 i3) r1 in
      w-bind W m3 (λ m. Finding W V) R (expr names level here wanted.Other initial) _ (f-expr W (sight V.known m3) names level here wanted.Other initial l r3) (λ v m4 i4 q4.
      let V4 = sight V.known m4 in
      w-bind W m4 (λ m. Finding W V) R (given f (λ g. both x v (sequence_given bracket attribute e g))) _
      (f-given W V4 (FoldingOf W V) (FoundOf W V) f (λ g. both x v (sequence_given bracket attribute e g)) q1 (λ g q5.
      f-both W V4 (FoundOf W (sight q2.known m2)) (FoundOf W V) (FoundOf W V) x v (sequence_given bracket attribute e g) q3 q4 (λ a b s t. f-sequence_given W V4 q2.known bracket attribute e g a b q2.chunk q2.iteration q5 s t))) (λ z m5 i5 q6.
      w-pure W m5 R (e.reverse, z) (λ m6 i6. q6))))))

  f-sequence : (names : Names) (level : Inside) (here : Context) (bracket : ℕ) (p : OptionalParallel) (i : Iter) (value : Expr) (attribute : ℕ) (reducer initial : Expr) → LevelForms W level → Around W V here
      → Forms W V (Finding W V) (sequence names level here bracket p i value attribute reducer initial)
  unfolding sequence
  f-sequence names level here bracket p i value attribute reducer initial l r =
      f-bind W V Any (Finding W V) (unless (is_some (attribute_at (symbol names attribute))) attribute Unknown) _ (f-unless W V (is_some (attribute_at (symbol names attribute))) attribute Unknown) (λ u q.
      f-bind W V (RuledOf W V) (Finding W V) (only_reduce_rules (sequence_folded names level here bracket p i value attribute reducer initial)) (sequence_rules attribute (attribute_at (symbol names attribute)))
      (record { at = (f-sequence_folded names level here bracket p i value attribute reducer initial l r).at }) (λ x s. f-sequence_rules W V attribute (attribute_at (symbol names attribute)) x s))

  -- ---- primaries, at every level of brackets

  pub f-primary : (names : Names) (inside : Inside) (here : Context) (p : Primary) (want : Wanted) → LevelForms W inside → Around W V here → Forms W V (Finding W V) (primary names inside here p want)
  unfolding primary
  f-primary names inside here (syntax.Number at) want l r = f-some W V (FoundOf W V) (universal at (number names at) true part.Nothing) tt
  f-primary names inside here (syntax.Text at) want l r = f-text_at W V names at want
  f-primary names inside here (syntax.Target at) want l r = f-target_at W V at here.target r.target
  f-primary names inside here (syntax.Named x) want l r = f-bind W V (Finding W V) (Finding W V) (value_named names inside here x) _ (f-value_named W V names inside here x l r) (λ f q. f-placed W V want f q)
  f-primary names inside here (syntax.Group bracket e) want l r = f-bind W V (Finding W V) (Finding W V) (expr names inside here want e) _ (f-expr W V names inside here want e l r) (λ f q. f-given W V (FoundOf W V) (FoundOf W V) f (grouped bracket) q (λ g s. f-grouped W V bracket g s))
  f-primary names inside here (syntax.If bracket at c v more o) want l r = f-if_expr W V names inside here (no_text want) bracket c v more o l r
  f-primary names inside here (syntax.Round bracket many) want l r = f-aggregate W V names inside here want bracket (contents many) l r
  f-primary names inside here (syntax.Square bracket many) want l r = f-aggregate W V names inside here want bracket (contents many) l r
  f-primary names inside here (syntax.OneValue bracket e) want l r = f-aggregate W V names inside here want bracket (ByPosition (syntax.AlsoExpr e syntax.NoExpr) syntax.AbsentExpr) l r
  f-primary names inside here (syntax.Reduction bracket p at i v a x o) want l r = f-sequence names inside here bracket p i v a x o l r

pub above-forms : (W : World) (names : Names) (inside : Inside) → LevelForms W inside → LevelForms W (primaries.level_above names inside)
above-forms W names inside l = record {
  primary = λ V here p want r. f-primary W V names inside here p want l r;
  name = λ V here x r. f-name W V names inside here x l r;
}

pub inside-forms : (W : World) (names : Names) (n : ℕ) → LevelForms W (primaries.inside names n)
unfolding primaries.inside
inside-forms W names zero = record {
  primary = λ V here p want r. f-fault W V (FoundOf W V) (first_token.of_primary p) (Limit bound.Levels);
  name = λ V here x r. f-fault W V (DenotedOf W V) (first_token.of_name x) (Limit bound.Levels);
}
inside-forms W names (suc n) = above-forms W names (primaries.inside names n) (inside-forms W names n)
