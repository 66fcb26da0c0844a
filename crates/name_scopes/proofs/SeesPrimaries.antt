-- What is found is in scope: conditional expressions, brackets, primaries, at every level.
use Rattle.std.proofs.Common.{◌≡◌, refl, ◌≤◌, arith, ℕ, ℤ, zero, suc, List, [], ◌∷◌, Option, Some, None, Bool, true, false, option_map}
use Rattle.std.specs.Prelude.{is_some, not, ◌||◌}
use Rattle.syntax_tree.specs.FirstTokens as first_token
use Rattle.syntax_tree.specs.Syntax as syntax
use Rattle.syntax_tree.specs.Syntax.{Elsifs, Expr, Iter, OptionalParallel, Primary}
use Rattle.typed_tree.specs.Decoded as part
use Rattle.typed_tree.specs.Decoded.{TypedPart, as_composite, as_expr}
use Rattle.typed_tree.specs.Syntax as typed
use Rattle.typed_tree.specs.declared.program.SiteKind.TheVariants as site
use Rattle.name_rules.specs.Aggregates.{ByPosition, contents}
use Rattle.name_rules.specs.Attributes.{attribute_at}
use Rattle.name_rules.specs.Expressions.{Inside, condition, expr}
use Rattle.name_rules.specs.Found.{Found, opened, scalar, static, universal}
use Rattle.name_rules.specs.Iterations.{Entered, entered, is_reduce, only_reduce_rules, reverse_rule, sequence, sequence_folded, sequence_given, sequence_rules}
use Rattle.name_rules.specs.Judging.{both, given, joined, pure, unless}
use Rattle.name_rules.specs.Operators.{open_of}
use Rattle.name_rules.specs.Parts.{value_named}
use Rattle.name_rules.specs.Primaries as primaries
use Rattle.name_rules.specs.Primaries.{Waiting, also_choice, alternative, alternatives, common_type, composite_if, composite_ifs, composite_in, composite_part, conditional, grouped, grouped_by, grouped_form, grouped_scalar, if_expr, if_part, no_text, open_if, open_ifs, open_part, primary, scalar_if, scalar_ifs, target_at, target_found, text_at, with_known}
use Rattle.name_rules.specs.Reducers.{reducer_of}
use Rattle.name_rules.specs.Symbols.{symbol}
use Rattle.name_rules.specs.TypedParts.{left_of, right_of}
use Rattle.name_rules.specs.Values.{asked, composite_asked, kind_of, mentions_of, value_of}
use Rattle.name_rules.specs.declared.found.Attribute.{Attribute}
use Rattle.name_rules.specs.declared.found.Folding.{Folding}
use Rattle.name_rules.specs.declared.found.Found.TheVariants as known
use Rattle.name_rules.specs.declared.found.Found.{Found as Known}
use Rattle.name_rules.specs.declared.found.Limits.{Limits}
use Rattle.name_rules.specs.declared.log.Bound.TheVariants as bound
use Rattle.name_rules.specs.declared.log.Rule.TheVariants.{Limit, NotVisible, ReduceRule, Unknown, WrongType}
use Rattle.name_rules.specs.declared.scope.Context.{Context}
use Rattle.name_rules.specs.declared.scope.Names.{Names}
use Rattle.name_rules.specs.declared.scope.Target.TheVariants as target
use Rattle.name_rules.specs.declared.scope.Target.{Target}
use Rattle.name_rules.specs.declared.types.Kind.{Kind}
use Rattle.name_rules.specs.declared.types.Subtype.TheVariants as subtype
use Rattle.name_rules.specs.declared.types.Wanted.TheVariants as wanted
use Rattle.name_rules.specs.declared.types.Wanted.{Wanted}
use Rattle.name_rules.specs.Found.{text_found}
use Rattle.name_rules.specs.Symbols.{number, text}
use Rattle.name_rules.specs.TypedParts.{also}
use Rattle.name_rules.specs.declared.log.Rule.TheVariants.{ChunkRule}
use Rattle.std.proofs.Common.{◌≡◌, refl, sym, ap, subst, ◌∙◌, ◌≤◌, true≢false, arith}
use Rattle.typed_tree.specs.Decoded.{as_chunk, as_iteration}
use Rattle.name_rules.specs.Shapes.{is_aggregate_form}
use Rattle.name_laws.proofs.KeepsPrimaries.{k-inside, k-level_above}
use Rattle.name_scopes.proofs.Faults.{counting}
use Rattle.name_scopes.proofs.Seen.{IsChunked, SeenIteration}
use Rattle.name_scopes.proofs.Sees.{Any, Sees, Maybe, Sight, World, seeing, v-bind, v-both, v-breaks, v-fault, v-given, v-if, v-none, v-pure, v-seeing, v-some, v-unless, joint, mapped}
use Rattle.name_scopes.proofs.SeesAggregates.{v-aggregate, v-inner}
use Rattle.name_scopes.proofs.SeesExpressions.{v-condition, v-expr, v-placed}
use Rattle.name_scopes.proofs.SeesFound.{Around, ChunkOf, DenotedOf, ExprOf, Finding, FoundOf, KnownOf, LevelSees, RestOf, TargetOf, WideOf}
use Rattle.name_scopes.proofs.SeesIterations.{EnteredOf, Entering, IsUnchunked, chunk-around, v-entered}
use Rattle.name_scopes.proofs.SeesOperators.{WaitsOf, open-found}
use Rattle.name_scopes.proofs.SeesParts.{v-name, v-value_named}
use Rattle.name_scopes.proofs.SeesReducers.{FoldingOf, v-folded_by, v-reducer_of}
use Rattle.name_scopes.proofs.SeesValues.{static-mentions, v-asked, v-composite_asked}

module _ (W : World) (V : Sight) where
  -- ---- conditional expressions

  abbrev Waits : List Known → TypedPart → Type 0
  Waits [] ps = Unit {0}
  Waits (f ∷ fs) ps = ExprOf W V (left_of (left_of ps)) × (KnownOf W V) f (right_of (left_of ps)) × Waits fs (right_of ps)

  abbrev WaitingOf : Waiting → Type 0
  WaitingOf w = Waits w.known w.part

  also-choice : (w : Option Waiting) (x : Option TypedPart) (f : Option Found) → Maybe WaitingOf w → Maybe (ExprOf W V) x → Finding W V f → Maybe WaitingOf (also_choice w x f)
  also-choice None x f g h i = tt
  also-choice (Some w) None f g h i = tt
  also-choice (Some w) (Some x) None g h i = tt
  also-choice (Some w) (Some x) (Some f) g h i = (h, i, g)

  v-alternative : (names : Names) (level : Inside) (here : Context) (want : Wanted) (made : Option Waiting) (c v : Expr) → LevelSees W level → Around W V here → Maybe WaitingOf made → Sees W V (Maybe WaitingOf) (alternative names level here want made c v)
  unfolding alternative
  v-alternative names level here want made c v l r g =
      v-bind W V (Maybe (ExprOf W V)) (Maybe WaitingOf) (condition names level here c) _ (v-condition W V names level here c l r) (λ x q.
      v-bind W V (Finding W V) (Maybe WaitingOf) (expr names level here want v) _ (v-expr W V names level here want v l r) (λ y s. v-pure W V (Maybe WaitingOf) (also_choice made x y) (also-choice made x y g q s)))

  v-alternatives : (names : Names) (level : Inside) (here : Context) (want : Wanted) (made : Option Waiting) (es : Elsifs) → LevelSees W level → Around W V here → Maybe WaitingOf made → Sees W V (Maybe WaitingOf) (alternatives names level here want made es)
  v-alternatives names level here want made syntax.NoElsif l r g = v-pure W V (Maybe WaitingOf) made g
  v-alternatives names level here want made (syntax.AlsoElsif (syntax.elsif at c v) es) l r g = v-bind W V (Maybe WaitingOf) (Maybe WaitingOf) (alternative names level here want made c v) _ (v-alternative names level here want made c v l r g) (λ d q. v-alternatives names level here want d es l r q)

  v-scalar_ifs : (k : Kind) (fs : List Known) (ps : TypedPart) (o : Option TypedPart) → Waits fs ps → Maybe (ExprOf W V) o → Sees W V (Maybe (ExprOf W V)) (scalar_ifs k fs ps o)
  v-scalar_ifs k [] ps o g h = v-pure W V (Maybe (ExprOf W V)) o h
  v-scalar_ifs k (f ∷ fs) ps o g h =
      v-bind W V (Maybe (ExprOf W V)) (Maybe (ExprOf W V)) (asked k (record { known = f; part = right_of (left_of ps) })) _ (v-asked W V k (record { known = f; part = right_of (left_of ps) }) g.1) (λ v q.
      v-scalar_ifs k fs (right_of ps) (joined (if_part (left_of (left_of ps))) v o) g.2 (joint (ExprOf W V) (ExprOf W V) (ExprOf W V) (if_part (left_of (left_of ps))) v o q h (λ a b s t. (g.0, s, t))))

  v-scalar_if : (bracket : ℕ) (k : Kind) (w : Waiting) (f : Found) → WaitingOf w → FoundOf W V f → Sees W V (Finding W V) (scalar_if bracket k w f)
  unfolding scalar_if
  v-scalar_if bracket k w f g h =
      v-bind W V (Maybe (ExprOf W V)) (Finding W V) (asked k f) _ (v-asked W V k f h) (λ o q.
      v-bind W V (Maybe (ExprOf W V)) (Finding W V) (scalar_ifs k w.known w.part o) _ (v-scalar_ifs k w.known w.part o g q) (λ e s.
      v-pure W V (Finding W V) (option_map (with_known (known.Scalar bracket k None)) e) (mapped (ExprOf W V) (FoundOf W V) (with_known (known.Scalar bracket k None)) e s (λ x t. t))))

  v-composite_ifs : (n : ℕ) (fs : List Known) (ps : TypedPart) (o : Option TypedPart) → Waits fs ps → Maybe (WideOf W V n) o → Sees W V (Maybe (WideOf W V n)) (composite_ifs n fs ps o)
  v-composite_ifs n [] ps o g h = v-pure W V (Maybe (WideOf W V n)) o h
  v-composite_ifs n (f ∷ fs) ps o g h =
      v-bind W V (Maybe (WideOf W V n)) (Maybe (WideOf W V n)) (composite_asked n (record { known = f; part = right_of (left_of ps) })) _ (v-composite_asked W V n (record { known = f; part = right_of (left_of ps) }) g.1) (λ v q.
      v-composite_ifs n fs (right_of ps) (joined (composite_part (left_of (left_of ps))) v o) g.2 (joint (WideOf W V n) (WideOf W V n) (WideOf W V n) (composite_part (left_of (left_of ps))) v o q h (λ a b s t small. (g.0, s small, t small))))

  v-composite_if : (bracket n : ℕ) (w : Waiting) (f : Found) → WaitingOf w → FoundOf W V f → Sees W V (Finding W V) (composite_if bracket n w f)
  unfolding composite_if
  v-composite_if bracket n w f g h =
      v-bind W V (Maybe (WideOf W V n)) (Finding W V) (composite_asked n f) _ (v-composite_asked W V n f h) (λ o q.
      v-bind W V (Maybe (WideOf W V n)) (Finding W V) (composite_ifs n w.known w.part o) _ (v-composite_ifs n w.known w.part o g q) (λ c s.
      v-pure W V (Finding W V) (option_map (with_known (known.Composite bracket n)) c) (mapped (WideOf W V n) (FoundOf W V) (with_known (known.Composite bracket n)) c s (λ x t. t))))

  open-part : (c : TypedPart) (v o : Limits × TypedPart) → ExprOf W V c → WaitsOf W V v → WaitsOf W V o → WaitsOf W V (open_part c v o)
  open-part c v o g h i d = (g, h d, i d)

  open-ifs : (fs : List Known) (ps : TypedPart) (o : Option (Limits × TypedPart)) → Waits fs ps → Maybe (WaitsOf W V) o → Maybe (WaitsOf W V) (open_ifs fs ps o)
  open-ifs [] ps o g h = h
  open-ifs (f ∷ fs) ps o g h =
      open-ifs fs (right_of ps) (joined (open_part (left_of (left_of ps))) (open_of (record { known = f; part = right_of (left_of ps) })) o) g.2
      (joint (WaitsOf W V) (WaitsOf W V) (WaitsOf W V) (open_part (left_of (left_of ps))) (open_of (record { known = f; part = right_of (left_of ps) })) o (open-found W V (record { known = f; part = right_of (left_of ps) }) g.1) h (λ a b s t. open-part (left_of (left_of ps)) a b g.0 s t))

  v-conditional : (bracket : ℕ) (w : Waiting) (f : Found) (k : Option Kind) (n : Option ℕ) → WaitingOf w → FoundOf W V f → Sees W V (Finding W V) (conditional bracket w f k n)
  v-conditional bracket w f (Some k) n g h = v-scalar_if bracket k w f g h
  v-conditional bracket w f None (Some n) g h = v-composite_if bracket n w f g h
  v-conditional bracket w f None None g h =
      v-pure W V (Finding W V) (option_map (open_if bracket) (open_ifs w.known w.part (open_of f))) (mapped (WaitsOf W V) (FoundOf W V) (open_if bracket) (open_ifs w.known w.part (open_of f)) (open-ifs w.known w.part (open_of f) g (open-found W V f h)) (λ x s. s))

  v-if_expr : (names : Names) (level : Inside) (here : Context) (want : Wanted) (bracket : ℕ) (c v : Expr) (more : Elsifs) (o : Expr) → LevelSees W level → Around W V here → Sees W V (Finding W V) (if_expr names level here want bracket c v more o)
  unfolding if_expr
  v-if_expr names level here want bracket c v more o l r =
      v-bind W V (Maybe WaitingOf) (Finding W V) (alternative names level here want (Some (record { known = []; part = part.Nothing })) c v) _ (v-alternative names level here want (Some (record { known = []; part = part.Nothing })) c v l r tt) (λ d q.
      v-bind W V (Maybe WaitingOf) (Finding W V) (alternatives names level here want d more) _ (v-alternatives names level here want d more l r q) (λ ds s.
      v-bind W V (Finding W V) (Finding W V) (expr names level here want o) _ (v-expr W V names level here want o l r) (λ f t.
      v-both W V WaitingOf (FoundOf W V) (FoundOf W V) ds f _ s t (λ w x i j. v-conditional bracket w x (common_type w x).0 (common_type w x).1 i j))))

  -- ---- brackets

  v-grouped_scalar : (bracket : ℕ) (f : Found) (k : Option Kind) (n : Option ℕ) → FoundOf W V f → Sees W V (Finding W V) (grouped_scalar bracket f k n)
  v-grouped_scalar bracket f (Some k) n h = v-bind W V (Maybe (ExprOf W V)) (Finding W V) (asked k f) _ (v-asked W V k f h) (λ x q. v-given W V (ExprOf W V) (FoundOf W V) x _ q (λ e s. v-some W V (FoundOf W V) (scalar bracket k None (typed.Group (as_expr e))) s))
  v-grouped_scalar bracket f None (Some n) h = v-bind W V (Maybe (WideOf W V n)) (Finding W V) (composite_asked n f) _ (v-composite_asked W V n f h) (λ c q. v-pure W V (Finding W V) (option_map (with_known (known.Composite bracket n)) c) (mapped (WideOf W V n) (FoundOf W V) (with_known (known.Composite bracket n)) c q (λ x s. s)))
  v-grouped_scalar bracket f None None h = v-none W V (FoundOf W V)

  v-grouped_by : (bracket : ℕ) (f : Found) (k : Option Kind) (z : Option ℤ) → kind_of f.known ≡ k → value_of f.known ≡ z → FoundOf W V f → Sees W V (Finding W V) (grouped_by bracket f k z)
  v-grouped_by bracket f (Some k) (Some z) e g h = v-some W V (FoundOf W V) (static bracket k z (mentions_of f)) (static-mentions W V f.known f.part z h g)
  v-grouped_by bracket f (Some k) None e g h = v-grouped_scalar bracket f (Some k) (composite_in f.known) h
  v-grouped_by bracket f None z e g h = v-grouped_scalar bracket f None (composite_in f.known) h

  v-grouped_form : (bracket : ℕ) (f : Known) (x : TypedPart) → KnownOf W V f x → Sees W V (Finding W V) (grouped_form bracket f x)
  v-grouped_form bracket (known.Universal first z alone) x h = v-some W V (FoundOf W V) (with_known (known.Universal bracket z false) x) h
  v-grouped_form bracket (known.Open first l) x h = v-some W V (FoundOf W V) (opened bracket l (typed.Group (as_expr x))) h
  v-grouped_form bracket (known.Text first) x h = v-some W V (FoundOf W V) (with_known (known.Text bracket) x) h
  v-grouped_form bracket f x h = v-grouped_by bracket (with_known f x) (kind_of f) (value_of f) refl refl h

  v-grouped : (bracket : ℕ) (f : Found) → FoundOf W V f → Sees W V (Finding W V) (grouped bracket f)
  unfolding grouped
  v-grouped bracket f h = v-grouped_form bracket f.known f.part h

  -- ---- `@` and strings

  v-target_at : (at : ℕ) (t : Target) → TargetOf W V t → Sees W V (Finding W V) (target_at at t)
  v-target_at at target.Nothing h = v-fault W V (FoundOf W V) at NotVisible
  v-target_at at target.Faulty h = v-none W V (FoundOf W V)
  v-target_at at (target.Of (subtype.Scalar s)) h = v-some W V (FoundOf W V) (target_found at (subtype.Scalar s)) (1, h, least 1)
    where
      least : (n : ℕ) → n ≤ n
      least n = omega arith
  v-target_at at (target.Of (subtype.Composite n)) h = v-some W V (FoundOf W V) (target_found at (subtype.Composite n)) (λ small. (W.counted n, h))

  v-text_at : (names : Names) (at : ℕ) (want : Wanted) → Sees W V (Finding W V) (text_at names at want)
  v-text_at names at wanted.Text = v-some W V (FoundOf W V) (text_found at (also part.Nothing (part.APiece (typed.Text (text names at))))) ((λ ps h. h), tt)
  v-text_at names at want = v-fault W V (FoundOf W V) at WrongType

  -- ---- reductions of value sequences

  itself : {A : Type 0} (Q : A → Type 0) (x : Option A) → Maybe Q x → Maybe (λ a. Q a × (x ≡ Some a)) x
  itself Q None h = tt
  itself Q (Some a) h = (h, refl)

  is-chunked : (s : Option ℕ) (x : Option TypedPart) (c : TypedPart) → (s ≡ None → x ≡ Some part.Nothing) → x ≡ Some c → IsChunked s (as_chunk c)
  is-chunked None x c h e = by (sym (h refl) ∙ e)
    where
      by : Some part.Nothing ≡ Some c → as_chunk c ≡ typed.NoChunk
      by e = let same : part.Nothing ≡ c = cc in ap as_chunk (sym same)
  is-chunked (Some s) x c h e = tt

  v-sequence_given : (bracket attribute : ℕ) (e : Entered) (f : Folding) (x v : Found) (q : EnteredOf W V e) → IsUnchunked e → FoldingOf W V f
      → FoundOf W (seeing q.around V) x → FoundOf W V v → Sees W V (Finding W V) (sequence_given bracket attribute e f x v)
  v-sequence_given bracket attribute e f x v q alone d s t =
      let I : TypedPart → Type 0 = λ y. SeenIteration W.program W.shown V.around (chunk-around V.around e.chunk) (as_iteration y) (λ u. u ≡ q.around) in
      v-both W V (λ c. ChunkOf W V c × (e.chunk ≡ Some c)) I (FoundOf W V) e.chunk e.iteration _ (itself (ChunkOf W V) e.chunk q.chunk) q.iteration (λ c i m n.
      v-folded_by W V q.around (record { at = bracket; attribute = attribute; site = e.construct }) c i f x v d
      (m.0, is-chunked e.construct e.chunk c alone m.1, subst (λ y. SeenIteration W.program W.shown V.around (chunk-around V.around y) (as_iteration i) (λ u. u ≡ q.around)) m.1 n) s t)

  abbrev SequenceOf : Option ℕ × Option Found → Type 0
  SequenceOf p = Finding W V p.1

  abbrev RuledOf : (Option ℕ × Option Found) × Bool → Type 0
  RuledOf p = (Finding W V) p.0.1

  v-reverse_rule : (at : Option ℕ) → Sees W V Any (reverse_rule at)
  v-reverse_rule None = v-pure W V Any tt tt
  v-reverse_rule (Some at) = v-breaks W V at ChunkRule

  v-sequence_rules : (attribute : ℕ) (a : Option Attribute) (p : (Option ℕ × Option Found) × Bool) → RuledOf p → Sees W V (Finding W V) (sequence_rules attribute a p)
  v-sequence_rules attribute a p h =
      v-if W V (Finding W V) (not p.1) (pure None) _ (v-none W V (FoundOf W V))
      (v-bind W V Any (Finding W V) (unless (not (is_some a) || is_reduce a) attribute ReduceRule) _ (v-unless W V (not (is_some a) || is_reduce a) attribute ReduceRule) (λ u q.
      v-bind W V Any (Finding W V) (reverse_rule p.0.0) _ (v-reverse_rule p.0.0) (λ w s. v-pure W V (Finding W V) p.0.1 h)))

module _ (W : World) (V : Sight) where
  v-sequence_folded : (names : Names) (level : Inside) (here : Context) (bracket : ℕ) (p : OptionalParallel) (i : Iter) (value : Expr) (attribute : ℕ) (reducer initial : Expr) → LevelSees W level → Around W V here
      → Sees W V (SequenceOf W V) (sequence_folded names level here bracket p i value attribute reducer initial)
  v-sequence_folded names level here bracket p i value attribute reducer initial l r =
      let R : Option ℕ × Option Found → Type 0 = SequenceOf W V in
      v-bind W V (Maybe (FoldingOf W V)) R (reducer_of names level here reducer) _ (v-reducer_of W V names level here reducer l r) (λ f q1.
      v-bind W V (Entering W V) R (entered names level level here site.Reduction p i) _ (v-entered W V names level level here site.Reduction p i l l r) (λ e q2.
      let U = seeing q2.0.around V in
      v-bind W V (Finding W U) R (expr names level e.here wanted.Other value) _ (v-seeing W V q2.0.around (Finding W U) (expr names level e.here wanted.Other value) (v-expr W U names level e.here wanted.Other value l q2.0.here)) (λ x q3.
      v-bind W V (Finding W V) R (expr names level here wanted.Other initial) _ (v-expr W V names level here wanted.Other initial l r) (λ v q4.
      v-bind W V (Finding W V) R (given f (λ g. both x v (sequence_given bracket attribute e g))) _
      (v-given W V (FoldingOf W V) (FoundOf W V) f (λ g. both x v (sequence_given bracket attribute e g)) q1 (λ g q5.
      v-both W V (FoundOf W U) (FoundOf W V) (FoundOf W V) x v (sequence_given bracket attribute e g) q3 q4 (λ a b s t. v-sequence_given W V bracket attribute e g a b q2.0 q2.1 q5 s t))) (λ z q6.
      v-pure W V R (e.reverse, z) q6)))))

  v-sequence : (names : Names) (level : Inside) (here : Context) (bracket : ℕ) (p : OptionalParallel) (i : Iter) (value : Expr) (attribute : ℕ) (reducer initial : Expr) → LevelSees W level → Around W V here
      → Sees W V (Finding W V) (sequence names level here bracket p i value attribute reducer initial)
  unfolding sequence
  v-sequence names level here bracket p i value attribute reducer initial l r =
      v-bind W V Any (Finding W V) (unless (is_some (attribute_at (symbol names attribute))) attribute Unknown) _ (v-unless W V (is_some (attribute_at (symbol names attribute))) attribute Unknown) (λ u q.
      v-bind W V (RuledOf W V) (Finding W V) (only_reduce_rules (sequence_folded names level here bracket p i value attribute reducer initial)) (sequence_rules attribute (attribute_at (symbol names attribute)))
      (record { at = (v-sequence_folded names level here bracket p i value attribute reducer initial l r).at }) (λ x s. v-sequence_rules W V attribute (attribute_at (symbol names attribute)) x s))

  -- ---- primaries, at every level of brackets

  pub v-primary : (names : Names) (inside : Inside) (here : Context) (p : Primary) (want : Wanted) → LevelSees W inside → Around W V here → Sees W V (Finding W V) (primary names inside here p want)
  unfolding primary
  v-primary names inside here (syntax.Number at) want l r = v-some W V (FoundOf W V) (universal at (number names at) true part.Nothing) tt
  v-primary names inside here (syntax.Text at) want l r = v-text_at W V names at want
  v-primary names inside here (syntax.Target at) want l r = v-target_at W V at here.target r.target
  v-primary names inside here (syntax.Named x) want l r = v-bind W V (Finding W V) (Finding W V) (value_named names inside here x) _ (v-value_named W V names inside here x l r) (λ f q. v-placed W V want f q)
  v-primary names inside here (syntax.Group bracket e) want l r = v-bind W V (Finding W V) (Finding W V) (expr names inside here want e) _ (v-expr W V names inside here want e l r) (λ f q. v-given W V (FoundOf W V) (FoundOf W V) f (grouped bracket) q (λ g s. v-grouped W V bracket g s))
  v-primary names inside here (syntax.If bracket at c v more o) want l r = v-if_expr W V names inside here (no_text want) bracket c v more o l r
  v-primary names inside here (syntax.Round bracket many) want l r = v-aggregate W V names inside here want bracket (contents many) l r
  v-primary names inside here (syntax.Square bracket many) want l r = v-aggregate W V names inside here want bracket (contents many) l r
  v-primary names inside here (syntax.OneValue bracket e) want l r = v-aggregate W V names inside here want bracket (ByPosition (syntax.AlsoExpr e syntax.NoExpr) syntax.AbsentExpr) l r
  v-primary names inside here (syntax.Reduction bracket p at i v a x o) want l r = v-sequence names inside here bracket p i v a x o l r

  -- an aggregate of the dimensions behind
  pub v-behind : (names : Names) (inside : Inside) (here : Context) (p : Primary) (n i : ℕ) → LevelSees W inside → Around W V here → is_aggregate_form (Some p) ≡ true → Sees W V (Maybe (RestOf W V n i)) (primary names inside here p (wanted.Rest n i))
  unfolding primary
  v-behind names inside here (syntax.Round bracket many) n i l r h = v-inner W V names inside here n i bracket (contents many) l r
  v-behind names inside here (syntax.Square bracket many) n i l r h = v-inner W V names inside here n i bracket (contents many) l r
  v-behind names inside here (syntax.OneValue bracket e) n i l r h = v-inner W V names inside here n i bracket (ByPosition (syntax.AlsoExpr e syntax.NoExpr) syntax.AbsentExpr) l r
  v-behind names inside here (syntax.Number at) n i l r h = absurd (true≢false (sym h))
  v-behind names inside here (syntax.Text at) n i l r h = absurd (true≢false (sym h))
  v-behind names inside here (syntax.Target at) n i l r h = absurd (true≢false (sym h))
  v-behind names inside here (syntax.Named x) n i l r h = absurd (true≢false (sym h))
  v-behind names inside here (syntax.Group bracket e) n i l r h = absurd (true≢false (sym h))
  v-behind names inside here (syntax.If bracket at c v more o) n i l r h = absurd (true≢false (sym h))
  v-behind names inside here (syntax.Reduction bracket p at j v a x o) n i l r h = absurd (true≢false (sym h))

pub above-sees : (W : World) (names : Names) (inside : Inside) → LevelSees W inside → LevelSees W (primaries.level_above names inside)
above-sees W names inside l = record {
  keeps = k-level_above counting names inside tt l.keeps;
  primary = λ V here p want r. v-primary W V names inside here p want l r;
  name = λ V here x r. v-name W V names inside here x l r;
  rest = λ V here p n i r h. v-behind W V names inside here p n i l r h;
}

pub inside-sees : (W : World) (names : Names) (n : ℕ) → LevelSees W (primaries.inside names n)
unfolding primaries.inside
inside-sees W names zero = record {
  keeps = k-inside counting names zero tt;
  primary = λ V here p want r. v-fault W V (FoundOf W V) (first_token.of_primary p) (Limit bound.Levels);
  name = λ V here x r. v-fault W V (DenotedOf W V) (first_token.of_name x) (Limit bound.Levels);
  rest = λ V here p n i r h. v-fault W V (RestOf W V n i) (first_token.of_primary p) (Limit bound.Levels);
}
inside-sees W names (suc n) = above-sees W names (primaries.inside names n) (inside-sees W names n)
