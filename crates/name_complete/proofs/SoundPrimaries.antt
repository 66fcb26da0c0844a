-- What is judged without a fault is found: primaries, and levels of brackets.
use Rattle.std.proofs.Common.{◌≡◌, refl, sym, ℕ, ℤ, zero, suc, List, [], ◌∷◌, Option, Some, None, true}
use Rattle.syntax_tree.specs.FirstTokens as first_token
use Rattle.syntax_tree.specs.Syntax as syntax
use Rattle.typed_tree.specs.Decoded as part
use Rattle.typed_tree.specs.Decoded.{TypedPart, as_expr}
use Rattle.typed_tree.specs.Syntax as typed
use Rattle.name_rules.specs.Expressions.{Inside, expr, condition}
use Rattle.name_rules.specs.Found.{Found}
use Rattle.name_rules.specs.Judging.{joined}
use Rattle.name_rules.specs.TypedParts.{left_of, right_of}
use Rattle.name_rules.specs.Values as v
use Rattle.name_rules.specs.Values.{asked, kind_of}
use Rattle.name_rules.specs.declared.found.Found.TheVariants as known
use Rattle.name_rules.specs.declared.found.Found.{Found as Known}
use Rattle.name_rules.specs.declared.log.Bound.TheVariants as bound
use Rattle.name_rules.specs.declared.log.Rule.TheVariants as rule
use Rattle.name_rules.specs.declared.scope.Context.{Context}
use Rattle.name_rules.specs.declared.scope.Names.{Names}
use Rattle.name_rules.specs.declared.types.Kind.{Kind}
use Rattle.name_rules.specs.declared.types.Subtype.TheVariants as subtype
use Rattle.name_rules.specs.declared.types.Subtype.{Subtype}
use Rattle.name_rules.specs.declared.types.Wanted.TheVariants as wanted
use Rattle.name_rules.specs.declared.types.Wanted.{Wanted}
use Rattle.name_complete.proofs.Explains.{Any, Is, Sound, differ, joint, mapped, s-bind, s-both, s-fault, s-given, s-pure, s-some}
use Rattle.name_complete.proofs.Facts.{Clear, DenotedOf, Fit, FoundFor, FoundOk, LevelSound, Plain, RestOf}
use Rattle.syntax_tree.specs.Syntax.{Elsifs, Expr, Primary}
use Rattle.name_rules.specs.Aggregates.{ByPosition, contents}
use Rattle.name_rules.specs.Found.{scalar, static, universal}
use Rattle.name_rules.specs.Operators.{open_form, open_of}
use Rattle.name_rules.specs.Parts.{value_named}
use Rattle.name_rules.specs.Primaries as p
use Rattle.name_rules.specs.Primaries.{Waiting, common, common_type, composite_in, inside, level_above, no_text, number_of_composite, type_of, type_or, with_known}
use Rattle.name_rules.specs.Shapes.{is_aggregate_form}
use Rattle.name_rules.specs.declared.found.Limits.{Limits}
use Rattle.name_rules.specs.Symbols.{number}
use Rattle.name_rules.specs.Values.{composite_asked, kind_in, place_scalar}
use Rattle.name_rules.specs.declared.log.Rule.TheVariants.{Limit}
use Rattle.name_rules.specs.declared.scope.Target.TheVariants as target
use Rattle.name_rules.specs.declared.scope.Target.{Target}
use Rattle.name_complete.proofs.Facts.{TargetGood, TextFit}
use Rattle.name_complete.proofs.SoundAggregates.{s-aggregate, s-aggregate_rest}
use Rattle.name_complete.proofs.SoundExpressions.{s-condition, s-expr, s-fits, s-in_place}
use Rattle.name_complete.proofs.SoundIterations.{s-sequence}
use Rattle.name_complete.proofs.SoundParts.{s-name, s-value_named}
use Rattle.name_complete.proofs.SoundValues.{s-asked, s-composite_asked}

-- ---- values that wait for their type

abbrev AllOk : List Known → Type 0
AllOk [] = Unit {0}
AllOk (f ∷ fs) = Fit wanted.Other f × AllOk fs

abbrev Untyped : List Known → Type 0
Untyped [] = Unit {0}
Untyped (f ∷ fs) = (kind_of f ≡ None) × Untyped fs

abbrev Scalars : List Known → Type 0
Scalars [] = Unit {0}
Scalars (f ∷ fs) = (composite_in f ≡ None) × Scalars fs

abbrev WaitingOf : Waiting → Type 0
WaitingOf w = AllOk w.known

-- where no string fits, none is found
plain-ok : (want : Wanted) (k : Known) → (TextFit want → ⊥) → Fit want k → Fit wanted.Other k
plain-ok want (known.Rest first) n h = h
plain-ok want (known.Text first) n h = n h
plain-ok want k n h = tt

also-choice : (want : Wanted) (w : Option Waiting) (x : Option TypedPart) (y : Option Found) → (TextFit want → ⊥) → Is WaitingOf w → Is Any x → Is (FoundFor want) y → Is WaitingOf (p.also_choice w x y)
also-choice want None x y n h i j = h
also-choice want (Some w) None y n h i j = i
also-choice want (Some w) (Some x) None n h i j = j
also-choice want (Some w) (Some x) (Some f) n h i j = (plain-ok want f.known n j, h)

s-alternative : (G : Type 0) (names : Names) (level : Inside) (here : Context) (want : Wanted) (done : Option Waiting) (a b : Expr) → LevelSound level → (G → Clear here) → (G → Plain want) → (TextFit want → ⊥) → (G → Is WaitingOf done)
    → Sound G (Is WaitingOf) (p.alternative names level here want done a b)
unfolding p.alternative
s-alternative G names level here want done a b l c w n h =
    s-bind G (Is Any) (Is WaitingOf) (condition names level here a) _ (s-condition G names level here a l c) (λ x.
    s-bind _ (Is (FoundFor want)) (Is WaitingOf) (expr names level here want b) _ (s-expr _ names level here want b l (λ g. c g.0) (λ g. w g.0)) (λ y.
    s-pure _ (Is WaitingOf) (p.also_choice done x y) (λ g. also-choice want done x y n (h g.0.0) g.0.1 g.1)))

s-alternatives : (G : Type 0) (names : Names) (level : Inside) (here : Context) (want : Wanted) (done : Option Waiting) (es : Elsifs) → LevelSound level → (G → Clear here) → (G → Plain want) → (TextFit want → ⊥) → (G → Is WaitingOf done)
    → Sound G (Is WaitingOf) (p.alternatives names level here want done es)
s-alternatives G names level here want done syntax.NoElsif l c w n h = s-pure G (Is WaitingOf) done h
s-alternatives G names level here want done (syntax.AlsoElsif (syntax.elsif at a b) es) l c w n h =
    s-bind G (Is WaitingOf) (Is WaitingOf) (p.alternative names level here want done a b) _ (s-alternative G names level here want done a b l c w n h) (λ d.
    s-alternatives _ names level here want d es l (λ g. c g.0) (λ g. w g.0) n (λ g. g.1))

s-scalar_ifs : (G : Type 0) (k : Kind) (fs : List Known) (ps : TypedPart) (o : Option TypedPart) → (G → Is Any o) → Sound G (Is Any) (p.scalar_ifs k fs ps o)
s-scalar_ifs G k [] ps o h = s-pure G (Is Any) o h
s-scalar_ifs G k (f ∷ fs) ps o h =
    s-bind G (Is Any) (Is Any) (asked k (record { known = f; part = right_of (left_of ps) })) _ (s-asked G k (record { known = f; part = right_of (left_of ps) })) (λ w.
    s-scalar_ifs _ k fs (right_of ps) (joined (p.if_part (left_of (left_of ps))) w o) (λ g. joint Any Any Any (p.if_part (left_of (left_of ps))) w o g.1 (h g.0) (λ a b i j. tt)))

s-scalar_if : (G : Type 0) (bracket : ℕ) (k : Kind) (w : Waiting) (f : Found) → Sound G (Is FoundOk) (p.scalar_if bracket k w f)
unfolding p.scalar_if
s-scalar_if G bracket k w f =
    s-bind G (Is Any) (Is FoundOk) (asked k f) _ (s-asked G k f) (λ o.
    s-bind _ (Is Any) (Is FoundOk) (p.scalar_ifs k w.known w.part o) _ (s-scalar_ifs _ k w.known w.part o (λ g. g.1)) (λ e.
    s-pure _ (Is FoundOk) _ (λ g. mapped Any FoundOk (with_known (known.Scalar bracket k None)) e g.1 (λ x i. tt))))

s-composite_ifs : (G : Type 0) (n : ℕ) (fs : List Known) (ps : TypedPart) (o : Option TypedPart) → (G → Is Any o) → Sound G (Is Any) (p.composite_ifs n fs ps o)
s-composite_ifs G n [] ps o h = s-pure G (Is Any) o h
s-composite_ifs G n (f ∷ fs) ps o h =
    s-bind G (Is Any) (Is Any) (composite_asked n (record { known = f; part = right_of (left_of ps) })) _ (s-composite_asked G n (record { known = f; part = right_of (left_of ps) })) (λ w.
    s-composite_ifs _ n fs (right_of ps) (joined (p.composite_part (left_of (left_of ps))) w o) (λ g. joint Any Any Any (p.composite_part (left_of (left_of ps))) w o g.1 (h g.0) (λ a b i j. tt)))

s-composite_if : (G : Type 0) (bracket n : ℕ) (w : Waiting) (f : Found) → Sound G (Is FoundOk) (p.composite_if bracket n w f)
unfolding p.composite_if
s-composite_if G bracket n w f =
    s-bind G (Is Any) (Is FoundOk) (composite_asked n f) _ (s-composite_asked G n f) (λ o.
    s-bind _ (Is Any) (Is FoundOk) (p.composite_ifs n w.known w.part o) _ (s-composite_ifs _ n w.known w.part o (λ g. g.1)) (λ e.
    s-pure _ (Is FoundOk) _ (λ g. mapped Any FoundOk (with_known (known.Composite bracket n)) e g.1 (λ x i. tt))))

-- what has no type is universal
none-of : (t : Subtype) → kind_in (place_scalar t) ≡ None → number_of_composite t ≡ None → ⊥
none-of (subtype.Scalar s) e f = absurd cc
none-of (subtype.Composite n) e f = absurd cc

open-other : (f : Known) (x : TypedPart) → Fit wanted.Other f → kind_of f ≡ None → composite_in f ≡ None → Is Any (open_form f x)
open-other (known.Universal first z alone) x h e d = tt
open-other (known.Open first l) x h e d = tt
open-other (known.Static first k z) x h e d = absurd cc
open-other (known.Object q) x h e d = absurd (none-of q.subtype e d)
open-other (known.Scalar first k n) x h e d = absurd cc
open-other (known.Composite first n) x h e d = absurd cc
open-other (known.Rest first) x h e d = absurd h
open-other (known.Text first) x h e d = absurd h

open-found : (f : Found) → FoundOk f → kind_of f.known ≡ None → composite_in f.known ≡ None → Is Any (open_of f)
unfolding open_of
open-found f h e d = open-other f.known f.part h e d

open-ifs : (fs : List Known) (ps : TypedPart) (o : Option (Limits × TypedPart)) → AllOk fs → Untyped fs → Scalars fs → Is Any o → Is Any (p.open_ifs fs ps o)
open-ifs [] ps o h e d i = i
open-ifs (f ∷ fs) ps o h e d i =
    let x : Found = record { known = f; part = right_of (left_of ps) } in
    open-ifs fs (right_of ps) (joined (p.open_part (left_of (left_of ps))) (open_of x) o) h.1 e.1 d.1
    (joint Any Any Any (p.open_part (left_of (left_of ps))) (open_of x) o (open-found x h.0 e.0 d.0) i (λ a b j k. tt))

type-none : (behind : Option Kind × Option ℕ) (k : Option Kind) (n : Option ℕ) → (type_or behind k n).0 ≡ None → (type_or behind k n).1 ≡ None → ((k ≡ None) × (n ≡ None)) × ((behind.0 ≡ None) × (behind.1 ≡ None))
type-none behind (Some k) n e d = absurd cc
type-none behind None (Some n) e d = absurd cc
type-none behind None None e d = ((refl, refl), (e, d))

common-none : (fs : List Known) (behind : Option Kind × Option ℕ) → (common fs behind).0 ≡ None → (common fs behind).1 ≡ None → (Untyped fs × Scalars fs) × ((behind.0 ≡ None) × (behind.1 ≡ None))
common-none [] behind e d = ((tt, tt), (e, d))
common-none (f ∷ fs) behind e d =
    let h = common-none fs (type_or behind (kind_of f) (composite_in f)) e d in
    let i = type-none behind (kind_of f) (composite_in f) h.1.0 h.1.1 in
    (((i.0.0, h.0.0), (i.0.1, h.0.1)), i.1)

s-conditional : (G : Type 0) (bracket : ℕ) (w : Waiting) (f : Found) (k : Option Kind) (n : Option ℕ) → (common_type w f).0 ≡ k → (common_type w f).1 ≡ n → (G → WaitingOf w) → (G → FoundOk f)
    → Sound G (Is FoundOk) (p.conditional bracket w f k n)
s-conditional G bracket w f (Some k) n e d h i = s-scalar_if G bracket k w f
s-conditional G bracket w f None (Some n) e d h i = s-composite_if G bracket n w f
s-conditional G bracket w f None None e d h i =
    let a = common-none w.known (type_of f.known) e d in
    s-pure G (Is FoundOk) _ (λ g. mapped Any FoundOk (p.open_if bracket) (p.open_ifs w.known w.part (open_of f)) (open-ifs w.known w.part (open_of f) (h g) a.0.0 a.0.1 (open-found f (i g) a.1.0 a.1.1)) (λ x j. tt))

plain-text : (want : Wanted) → Plain want → Plain (no_text want)
plain-text wanted.Text h = tt
plain-text want h = h

no-text : (want : Wanted) → TextFit (no_text want) → ⊥
no-text wanted.Text h = h
no-text want h = h

s-if_expr : (G : Type 0) (names : Names) (level : Inside) (here : Context) (want : Wanted) (bracket : ℕ) (a b : Expr) (more : Elsifs) (o : Expr) → LevelSound level → (G → Clear here) → (G → Plain want) → (TextFit want → ⊥)
    → Sound G (Is FoundOk) (p.if_expr names level here want bracket a b more o)
unfolding p.if_expr
s-if_expr G names level here want bracket a b more o l c w n =
    let none : Waiting = record { known = []; part = part.Nothing } in
    s-bind G (Is WaitingOf) (Is FoundOk) (p.alternative names level here want (Some none) a b) _ (s-alternative G names level here want (Some none) a b l c w n (λ g. tt)) (λ d.
    s-bind _ (Is WaitingOf) (Is FoundOk) (p.alternatives names level here want d more) _ (s-alternatives _ names level here want d more l (λ g. c g.0) (λ g. w g.0) n (λ g. g.1)) (λ ds.
    s-bind _ (Is (FoundFor want)) (Is FoundOk) (expr names level here want o) _ (s-expr _ names level here want o l (λ g. c g.0.0) (λ g. w g.0.0)) (λ f.
    s-both _ WaitingOf (FoundFor want) FoundOk ds f _ (λ g. g.0.1) (λ g. g.1) (λ x y. s-conditional _ bracket x y (common_type x y).0 (common_type x y).1 refl refl (λ g. g.0.1) (λ g. plain-ok want y.known n g.1)))))

-- ---- brackets

s-grouped_scalar : (G : Type 0) (want : Wanted) (bracket : ℕ) (f : Found) (k : Option Kind) (n : Option ℕ) → (G → k ≡ None → n ≡ None → ⊥) → Sound G (Is (FoundFor want)) (p.grouped_scalar bracket f k n)
s-grouped_scalar G want bracket f (Some k) n h =
    s-bind G (Is Any) (Is (FoundFor want)) (asked k f) _ (s-asked G k f) (λ x. s-given _ Any (FoundFor want) x _ (λ g. g.1) (λ e. s-some _ (FoundFor want) (scalar bracket k None (typed.Group (as_expr e))) (λ g. tt)))
s-grouped_scalar G want bracket f None (Some n) h =
    s-bind G (Is Any) (Is (FoundFor want)) (composite_asked n f) _ (s-composite_asked G n f) (λ c. s-pure _ (Is (FoundFor want)) _ (λ g. mapped Any (FoundFor want) (with_known (known.Composite bracket n)) c g.1 (λ x i. tt)))
s-grouped_scalar G want bracket f None None h = s-pure G (Is (FoundFor want)) None (λ g. h g refl refl)

s-grouped_by : (G : Type 0) (want : Wanted) (bracket : ℕ) (f : Found) (k : Option Kind) (z : Option ℤ) → (G → k ≡ None → composite_in f.known ≡ None → ⊥) → Sound G (Is (FoundFor want)) (p.grouped_by bracket f k z)
s-grouped_by G want bracket f (Some k) (Some z) h = s-some G (FoundFor want) (static bracket k z (v.mentions_of f)) (λ g. tt)
s-grouped_by G want bracket f (Some k) None h = s-grouped_scalar G want bracket f (Some k) (composite_in f.known) h
s-grouped_by G want bracket f None z h = s-grouped_scalar G want bracket f None (composite_in f.known) h

s-grouped_form : (G : Type 0) (want : Wanted) (bracket : ℕ) (k : Known) (x : TypedPart) → (G → Fit want k) → Sound G (Is (FoundFor want)) (p.grouped_form bracket k x)
s-grouped_form G want bracket (known.Universal first z alone) x h = s-some G (FoundFor want) _ (λ g. tt)
s-grouped_form G want bracket (known.Open first l) x h = s-some G (FoundFor want) _ (λ g. tt)
s-grouped_form G want bracket (known.Text first) x h = s-some G (FoundFor want) (with_known (known.Text bracket) x) h
s-grouped_form G want bracket (known.Static first k z) x h = s-grouped_by G want bracket (with_known (known.Static first k z) x) (Some k) (Some z) (λ g e d. absurd cc)
s-grouped_form G want bracket (known.Object q) x h = s-grouped_by G want bracket (with_known (known.Object q) x) (kind_in (place_scalar q.subtype)) q.value (λ g e d. none-of q.subtype e d)
s-grouped_form G want bracket (known.Scalar first k n) x h = s-grouped_by G want bracket (with_known (known.Scalar first k n) x) (Some k) None (λ g e d. absurd cc)
s-grouped_form G want bracket (known.Composite first n) x h = s-grouped_by G want bracket (with_known (known.Composite first n) x) None None (λ g e d. absurd cc)
s-grouped_form G want bracket (known.Rest first) x h = s-grouped_by G want bracket (with_known (known.Rest first) x) None None (λ g e d. h g)

s-grouped : (G : Type 0) (want : Wanted) (bracket : ℕ) (f : Found) → (G → FoundFor want f) → Sound G (Is (FoundFor want)) (p.grouped bracket f)
unfolding p.grouped
s-grouped G want bracket f h = s-grouped_form G want bracket f.known f.part h

-- ---- primaries

target-ok : (at : ℕ) (s : Subtype) → FoundOk (p.target_found at s)
target-ok at (subtype.Scalar s) = tt
target-ok at (subtype.Composite n) = tt

s-target_at : (G : Type 0) (at : ℕ) (t : Target) → (G → TargetGood t) → Sound G (Is FoundOk) (p.target_at at t)
s-target_at G at target.Nothing h = s-fault G (Is FoundOk) at rule.NotVisible
s-target_at G at target.Faulty h = s-pure G (Is FoundOk) None h
s-target_at G at (target.Of s) h = s-some G FoundOk (p.target_found at s) (λ g. target-ok at s)

s-text_at : (G : Type 0) (names : Names) (at : ℕ) (want : Wanted) → Sound G (Is (FoundFor want)) (p.text_at names at want)
s-text_at G names at wanted.Text = s-some G (FoundFor wanted.Text) _ (λ g. tt)
s-text_at G names at want = s-fault G (Is (FoundFor want)) at rule.WrongType

s-primary : (G : Type 0) (names : Names) (level : Inside) (here : Context) (x : Primary) (want : Wanted) → LevelSound level → (G → Clear here) → (G → Plain want) → Sound G (Is (FoundFor want)) (p.primary names level here x want)
unfolding p.primary
s-primary G names level here (syntax.Number at) want l c w = s-some G (FoundFor want) (universal at (number names at) true part.Nothing) (λ g. tt)
s-primary G names level here (syntax.Text at) want l c w = s-text_at G names at want
s-primary G names level here (syntax.Target at) want l c w = s-fits G want (p.target_at at here.target) (s-target_at G at here.target (λ g. (c g).target))
s-primary G names level here (syntax.Named n) want l c w =
    s-bind G (Is (FoundFor wanted.Text)) (Is (FoundFor want)) (value_named names level here n) _ (s-value_named G names level here n l c) (λ x. s-given _ (FoundFor wanted.Text) (FoundFor want) x _ (λ g. g.1) (λ f. s-in_place _ want f.known f refl (λ g. g.1)))
s-primary G names level here (syntax.Group bracket e) want l c w =
    s-bind G (Is (FoundFor want)) (Is (FoundFor want)) (expr names level here want e) _ (s-expr G names level here want e l c w) (λ x. s-given _ (FoundFor want) (FoundFor want) x _ (λ g. g.1) (λ f. s-grouped _ want bracket f (λ g. g.1)))
s-primary G names level here (syntax.If bracket at a b more o) want l c w =
    s-fits G want (p.if_expr names level here (no_text want) bracket a b more o) (s-if_expr G names level here (no_text want) bracket a b more o l c (λ g. plain-text want (w g)) (no-text want))
s-primary G names level here (syntax.Round bracket many) want l c w = s-aggregate G names level here want bracket (contents many) l c w
s-primary G names level here (syntax.Square bracket many) want l c w = s-aggregate G names level here want bracket (contents many) l c w
s-primary G names level here (syntax.OneValue bracket e) want l c w = s-aggregate G names level here want bracket (ByPosition (syntax.AlsoExpr e syntax.NoExpr) syntax.AbsentExpr) l c w
s-primary G names level here (syntax.Reduction bracket q at i x a r o) want l c w = s-fits G want _ (s-sequence G names level here bracket q i x a r o l c)

s-primary_rest : (G : Type 0) (names : Names) (level : Inside) (here : Context) (x : Primary) (n i : ℕ) → LevelSound level → (G → Clear here) → is_aggregate_form (Some x) ≡ true → Sound G (Is RestOf) (p.primary names level here x (wanted.Rest n i))
unfolding p.primary
s-primary_rest G names level here (syntax.Round bracket many) n i l c h = s-aggregate_rest G names level here n i bracket (contents many) l c
s-primary_rest G names level here (syntax.Square bracket many) n i l c h = s-aggregate_rest G names level here n i bracket (contents many) l c
s-primary_rest G names level here (syntax.OneValue bracket e) n i l c h = s-aggregate_rest G names level here n i bracket (ByPosition (syntax.AlsoExpr e syntax.NoExpr) syntax.AbsentExpr) l c
s-primary_rest G names level here x n i l c h = differ (sym h)

-- ---- levels of brackets

pub above-sound : (names : Names) (level : Inside) → LevelSound level → LevelSound (level_above names level)
above-sound names level l = record {
  primary = λ G here x want c w. s-primary G names level here x want l c w;
  rest = λ G here x n i h c. s-primary_rest G names level here x n i l c h;
  name = λ G here n c. s-name G names level here n l c;
}

deep-sound : LevelSound p.deep
deep-sound = record {
  primary = λ G here x want c w. s-fault G (Is (FoundFor want)) (first_token.of_primary x) (Limit bound.Levels);
  rest = λ G here x n i h c. s-fault G (Is RestOf) (first_token.of_primary x) (Limit bound.Levels);
  name = λ G here n c. s-fault G (Is DenotedOf) (first_token.of_name n) (Limit bound.Levels);
}

pub inside-sound : (names : Names) (n : ℕ) → LevelSound (inside names n)
unfolding inside
inside-sound names zero = deep-sound
inside-sound names (suc n) = above-sound names (inside names n) (inside-sound names n)
