-- What is judged without a fault is there: choices of case statements, and what handlers handle.
use Rattle.std.proofs.Common.{◌≡◌, ℕ, ℤ, List, [], ◌∷◌, Option, Some, None, Bool, true, option_map, int_le, not, ◌&&◌, ◌||◌}
use Rattle.std.specs.List.{list_any}
use Rattle.ada_base.specs.declared.reason.Reason.{Reason}
use Rattle.syntax_tree.specs.Syntax as syntax
use Rattle.syntax_tree.specs.Syntax.{Choice, Handled, Pack}
use Rattle.typed_tree.specs.Syntax as typed
use Rattle.typed_tree.specs.Syntax.{Handled as TypedHandled}
use Rattle.name_rules.specs.Aggregates.{sorted}
use Rattle.name_rules.specs.Cases as s
use Rattle.name_rules.specs.Cases.{Choosing, Covering, Naming}
use Rattle.name_rules.specs.Expressions.{Inside}
use Rattle.name_rules.specs.Judging.{Judging, ◌>>=◌, pure, unless}
use Rattle.name_rules.specs.Names.{exception}
use Rattle.name_rules.specs.Ranges.{Chosen, chosen_span, chosen_value}
use Rattle.name_rules.specs.declared.log.Rule.TheVariants.{StaticRange, Twice}
use Rattle.name_rules.specs.declared.scope.Context.{Context}
use Rattle.name_rules.specs.declared.scope.Names.{Names}
use Rattle.name_rules.specs.declared.types.Kind.{Kind}
use Rattle.name_rules.specs.declared.types.Scalar.{Scalar}
use Rattle.name_complete.proofs.Explains.{Any, Is, Sound, mapped, s-any, s-bind, s-if, s-pure, s-unless}
use Rattle.name_complete.proofs.Facts.{Clear, LevelSound}
use Rattle.name_complete.proofs.SoundNames.{s-exception}
use Rattle.name_complete.proofs.SoundRanges.{s-chosen_span, s-chosen_value}

-- whatever is supposed, no fault is taken back
pub s-grown : (G : Type 0) {A : Type 0} (Q : A → Type 0) (p : Judging A) → Sound ⊥ Q p → Sound G Any p
s-grown G Q p m = record { grows = m.grows; at = λ log c e g. tt }

-- ---- choices of a case statement

s-covered_by : (G : Type 0) (c : Covering) (d : Choosing) (at : ℕ) (low high : ℤ) → Sound G Any (s.covered_by c d at low high)
s-covered_by G c d at low high =
    let b = not (s.overlaps low high c.ranges) in
    s-if G Any (not (int_le low high)) (pure (c, s.with_span d low high)) (unless b at StaticRange >>= λ u. pure (s.also_covered c low high, s.with_span d low high)) (s-pure G Any (c, s.with_span d low high) (λ g. tt))
    (s-bind G (λ u. b ≡ true) Any (unless b at StaticRange) _ (s-unless G b at StaticRange) (λ u. s-pure _ Any (s.also_covered c low high, s.with_span d low high) (λ g. tt)))

s-maybe_covered : (G : Type 0) (c : Covering) (d : Choosing) (x : Option Chosen) → Sound G Any (s.maybe_covered c d x)
s-maybe_covered G c d None = s-pure G Any (s.as_faulty c, d) (λ g. tt)
s-maybe_covered G c d (Some x) = s-covered_by G c (s.also_mentioned d x.part) x.known.at x.known.low x.known.high

s-case_choice : (G : Type 0) (level : Inside) (here : Context) (k : Option Kind) (single last : Bool) (c : Covering) (d : Choosing) (x : Choice) → LevelSound level → Sound G Any (s.case_choice level here k single last c d x)
unfolding s.case_choice
s-case_choice G level here k single last c d (syntax.Value x) l =
    s-bind G Any Any (chosen_value level here k x) (s.maybe_covered c d) (s-grown G (Is Any) (chosen_value level here k x) (s-chosen_value ⊥ level here k x l (λ g. absurd g) (λ g. absurd g))) (λ y. s-maybe_covered _ c d y)
s-case_choice G level here k single last c d (syntax.Span low high) l =
    s-bind G Any Any (chosen_span level here k low high) (s.maybe_covered c d) (s-grown G (Is Any) (chosen_span level here k low high) (s-chosen_span ⊥ level here k low high l (λ g. absurd g) (λ g. absurd g))) (λ y. s-maybe_covered _ c d y)
s-case_choice G level here k single last c d (syntax.Others at) l =
    s-bind G (λ u. (single && last) ≡ true) Any (unless (single && last) at StaticRange) _ (s-unless G (single && last) at StaticRange) (λ u. s-pure _ Any (s.with_others c (single && last), record { spans = d.spans; others = true; mentions = d.mentions }) (λ g. tt))

pub s-case_choices : (G : Type 0) (level : Inside) (here : Context) (k : Option Kind) (single last : Bool) (c : Covering) (d : Choosing) (xs : List Choice) → LevelSound level → Sound G Any (s.case_choices level here k single last c d xs)
s-case_choices G level here k single last c d [] l = s-pure G Any (c, d) (λ g. tt)
s-case_choices G level here k single last c d (x ∷ xs) l =
    s-bind G Any Any (s.case_choice level here k single last c d x) _ (s-case_choice G level here k single last c d x l) (λ r. s-case_choices (G × Any r) level here k single last r.0 r.1 xs l)

pub s-closed : (G : Type 0) (at : ℕ) (t : Scalar) (c : Covering) → Sound G Any (s.closed at t c)
unfolding s.closed
s-closed G at t c =
    let b = c.faulty || c.others || not (s.is_open t.low t.high (sorted c.ranges)) in
    s-any G (λ u. b ≡ true) (unless b at StaticRange) (s-unless G b at StaticRange)

-- ---- what handlers handle

abbrev NamingOf : Naming → Type 0
NamingOf n = Is Any n.named

s-named_once : (G : Type 0) (n : Naming) (first : ℕ) (r : Option Reason) → (G → NamingOf n) → (G → Is Any r) → Sound G NamingOf (s.named_once n first r)
s-named_once G n first None h i = s-pure G NamingOf _ (λ g. absurd (i g))
s-named_once G n first (Some r) h i =
    let b = not (list_any (s.same_reason r) n.seen) in
    s-bind G (λ u. b ≡ true) NamingOf (unless b first Twice) _ (s-unless G b first Twice) (λ u.
    s-pure _ NamingOf (record { seen = r ∷ n.seen; named = option_map (λ rs. s.with_reason rs r) n.named }) (λ g. mapped Any Any (λ rs. s.with_reason rs r) n.named (h g.0) (λ x k. tt)))

s-named_reasons : (G : Type 0) (names : Names) (here : Context) (n : Naming) (ps : List Pack) → (G → Clear here) → (G → NamingOf n) → Sound G NamingOf (s.named_reasons names here n ps)
s-named_reasons G names here n [] c h = s-pure G NamingOf n h
s-named_reasons G names here n (p ∷ ps) c h =
    s-bind G (Is Any) NamingOf (exception names here p) _ (s-exception G names here p c) (λ r.
    s-bind _ NamingOf NamingOf (s.named_once n p.first r) _ (s-named_once _ n p.first r (λ g. h g.0) (λ g. g.1)) (λ m.
    s-named_reasons ((G × Is Any r) × NamingOf m) names here m ps (λ g. c g.0.0) (λ g. g.1)))

abbrev pub HandledOf : List Reason × Option TypedHandled → Type 0
HandledOf r = Is Any r.1

pub s-handled_by : (G : Type 0) (names : Names) (here : Context) (seen : List Reason) (last : Bool) (h : Handled) → (G → Clear here) → Sound G HandledOf (s.handled_by names here seen last h)
unfolding s.handled_by
s-handled_by G names here seen last (syntax.AnyOther at) c =
    s-bind G (λ u. last ≡ true) HandledOf (unless last at StaticRange) _ (s-unless G last at StaticRange) (λ u. s-pure _ HandledOf (seen, Some typed.Others) (λ g. tt))
s-handled_by G names here seen last (syntax.These p ps) c =
    s-bind G NamingOf HandledOf (s.named_reasons names here (record { seen = seen; named = Some [] }) (p ∷ ps)) _ (s-named_reasons G names here (record { seen = seen; named = Some [] }) (p ∷ ps) c (λ g. tt)) (λ n.
    s-pure _ HandledOf (n.seen, option_map typed.Reasons n.named) (λ g. mapped Any Any typed.Reasons n.named g.1 (λ x k. tt)))
