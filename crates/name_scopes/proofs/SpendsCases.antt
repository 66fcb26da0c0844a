-- Judging that is counted: choices.
use Rattle.name_rules.specs.Expressions.{Inside}
use Rattle.name_rules.specs.Judging.{pure, unless, ◌>>=◌}
use Rattle.name_rules.specs.Ranges.{Chosen, chosen_span, chosen_value}
use Rattle.name_rules.specs.declared.log.Rule.TheVariants.{StaticRange}
use Rattle.name_rules.specs.declared.scope.Context.{Context}
use Rattle.name_rules.specs.declared.types.Kind.{Kind}
use Rattle.syntax_tree.specs.Syntax as syntax
use Rattle.syntax_tree.specs.Syntax.{Choice}
use Rattle.std.specs.Prelude.{Bool, List, None, Option, Some, [], int_le, not, true, ℕ, ℤ, ◌&&◌, ◌+◌, ◌∷◌}
use Rattle.typed_tree.specs.Decoded.{TypedPart}
use Rattle.name_rules.specs.Cases.{Choosing, Covering, also_covered, also_mentioned, as_faulty, case_choice, case_choices, covered_by, maybe_covered, overlaps, with_others, with_span}
use Rattle.std.proofs.Common.{arith}
use Rattle.name_laws.proofs.Walk.{k-unless}
use Rattle.name_scopes.proofs.SpendsRanges.{s-chosen_span, s-chosen_value}
use Rattle.name_scopes.proofs.Leaving.{leaving}
use Rattle.name_scopes.proofs.Measures.{maybe-known, part-measure, part-size, second-of}
use Rattle.name_scopes.proofs.Parts.{n-also_all, w-also_all}
use Rattle.name_scopes.proofs.Records.{SpendsInside, choosing-of}
use Rattle.name_scopes.proofs.Spends.{Holds, Spends, s-bind, s-if, s-le, s-pure, s-then}
use Rattle.name_scopes.proofs.Tallies.{Tally}

pub z-with_span : (which : Tally) (x0 : Choosing) (x1 : ℤ) (x2 : ℤ) → (part-measure which).Whole x0.mentions → Holds (choosing-of which) (part-size which x0.mentions) (with_span x0 x1 x2)
z-with_span which d low high h0-mentions = (h0-mentions, omega arith)

pub z-also_mentioned : (which : Tally) (x0 : Choosing) (x1 : TypedPart) → (part-measure which).Whole x0.mentions → (part-measure which).Whole x1 → Holds (choosing-of which) (part-size which x0.mentions + part-size which x1) (also_mentioned x0 x1)
z-also_mentioned which d ms h0-mentions h1 = (w-also_all which d.mentions ms h0-mentions h1, omega (arith, n-also_all which d.mentions ms))

pub s-covered_by : (which : Tally) (x0 : Covering) (x1 : Choosing) (x2 : ℕ) (x3 : ℤ) (x4 : ℤ) → (part-measure which).Whole x1.mentions → Spends which (second-of (choosing-of which)) (part-size which x1.mentions) (covered_by x0 x1 x2 x3 x4)
s-covered_by which c d at low high h1-mentions =
    s-if which (second-of (choosing-of which)) _ (not (int_le low high)) (pure (c, with_span d low high)) ((unless (not (overlaps low high c.ranges)) at StaticRange) >>= λ u. pure (also_covered c low high, with_span d low high))
    (s-pure which (second-of (choosing-of which)) _ (c, with_span d low high) (let made1 = z-with_span which d low high h1-mentions in
    (made1.0, omega (arith, made1.1))))
    (s-then which (second-of (choosing-of which)) _ (unless (not (overlaps low high c.ranges)) at StaticRange) _ (k-unless leaving (not (overlaps low high c.ranges)) at StaticRange) (λ u.
    s-pure which (second-of (choosing-of which)) _ (also_covered c low high, with_span d low high) (let made3 = z-with_span which d low high h1-mentions in
    (made3.0, omega (arith, made3.1)))))

pub s-maybe_covered : (which : Tally) (x0 : Covering) (x1 : Choosing) (x2 : Option Chosen) → (part-measure which).Whole x1.mentions → (maybe-known which).Whole x2 → Spends which (second-of (choosing-of which)) (part-size which x1.mentions + (maybe-known which).size x2) (maybe_covered x0 x1 x2)
s-maybe_covered which c d None h1-mentions h2 = s-pure which (second-of (choosing-of which)) _ (as_faulty c, d) (h1-mentions, omega arith)
s-maybe_covered which c d (Some x) h1-mentions h2 =
    let made1 = z-also_mentioned which d x.part h1-mentions h2 in
    s-le which (second-of (choosing-of which)) _ _ _ (s-covered_by which c (also_mentioned d x.part) x.known.at x.known.low x.known.high made1.0) (omega (arith, made1.1))

pub s-case_choice : (which : Tally) (x0 : Inside) (x1 : Context) (x2 : Option Kind) (x3 : Bool) (x4 : Bool) (x5 : Covering) (x6 : Choosing) (x7 : Choice) → SpendsInside which x0 → (part-measure which).Whole x6.mentions → Spends which (second-of (choosing-of which)) (part-size which x6.mentions) (case_choice x0 x1 x2 x3 x4 x5 x6 x7)
unfolding case_choice
s-case_choice which level here k single last c d (syntax.Value s) h0 h6-mentions =
    s-bind which (maybe-known which) (second-of (choosing-of which)) 0 (part-size which d.mentions) _ (chosen_value level here k s) _ (s-le which (maybe-known which) _ _ _ (s-chosen_value which level here k s h0) (omega arith)) (omega arith) (λ out held1.
    s-le which (second-of (choosing-of which)) _ _ _ (s-maybe_covered which c d out h6-mentions held1) (omega arith))
s-case_choice which level here k single last c d (syntax.Span low high) h0 h6-mentions =
    s-bind which (maybe-known which) (second-of (choosing-of which)) 0 (part-size which d.mentions) _ (chosen_span level here k low high) _ (s-le which (maybe-known which) _ _ _ (s-chosen_span which level here k low high h0) (omega arith)) (omega arith) (λ out held1.
    s-le which (second-of (choosing-of which)) _ _ _ (s-maybe_covered which c d out h6-mentions held1) (omega arith))
s-case_choice which level here k single last c d (syntax.Others at) h0 h6-mentions =
    s-then which (second-of (choosing-of which)) _ (unless (single && last) at StaticRange) _ (k-unless leaving (single && last) at StaticRange) (λ u.
    s-pure which (second-of (choosing-of which)) _ (with_others c (single && last), record { spans = d.spans; others = true; mentions = d.mentions }) (h6-mentions, omega arith))

pub s-case_choices : (which : Tally) (x0 : Inside) (x1 : Context) (x2 : Option Kind) (x3 : Bool) (x4 : Bool) (x5 : Covering) (x6 : Choosing) (x7 : List Choice) → SpendsInside which x0 → (part-measure which).Whole x6.mentions → Spends which (second-of (choosing-of which)) (part-size which x6.mentions) (case_choices x0 x1 x2 x3 x4 x5 x6 x7)
s-case_choices which level here k single last c d [] h0 h6-mentions = s-pure which (second-of (choosing-of which)) _ (c, d) (h6-mentions, omega arith)
s-case_choices which level here k single last c d (x ∷ xs) h0 h6-mentions =
    s-bind which (second-of (choosing-of which)) (second-of (choosing-of which)) (part-size which d.mentions) 0 _ (case_choice level here k single last c d x) _ (s-le which (second-of (choosing-of which)) _ _ _ (s-case_choice which level here k single last c d x h0 h6-mentions) (omega arith)) (omega arith) (λ r held1.
    s-le which (second-of (choosing-of which)) _ _ _ (s-case_choices which level here k single last r.0 r.1 xs h0 held1) (omega arith))
