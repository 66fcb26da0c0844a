-- What holds of each line of the log holds of what Cases judges.
use Rattle.ada_base.specs.declared.reason.Reason.{Reason}
use Rattle.name_rules.specs.Aggregates.{sorted}
use Rattle.name_rules.specs.Expressions.{Inside}
use Rattle.name_rules.specs.Names.{exception}
use Rattle.name_rules.specs.Ranges.{Chosen, chosen_span, chosen_value}
use Rattle.name_rules.specs.declared.log.Rule.TheVariants.{StaticRange, Twice}
use Rattle.name_rules.specs.declared.scope.Context.{Context}
use Rattle.name_rules.specs.declared.scope.Names.{Names}
use Rattle.name_rules.specs.declared.types.Kind.{Kind}
use Rattle.name_rules.specs.declared.types.Scalar.{Scalar}
use Rattle.syntax_tree.specs.Syntax as syntax
use Rattle.syntax_tree.specs.Syntax.{Choice, Handled, Pack}
use Rattle.typed_tree.specs.Syntax as typed
use Rattle.std.specs.List.{list_any}
use Rattle.std.specs.Prelude.{Bool, List, None, Option, Some, [], int_le, not, option_map, true, ℕ, ℤ, ◌&&◌, ◌||◌, ◌∷◌}
use Rattle.name_rules.specs.Judging.{◌>>=◌, pure, unless}
use Rattle.name_rules.specs.Cases.{Covering, Choosing, overlaps, with_span, also_mentioned, also_covered, covered_by, as_faulty, maybe_covered, with_others, case_choice, case_choices, is_open, closed, same_reason, Naming, with_reason, named_once, named_reasons, handled_by}
use Rattle.name_laws.proofs.Walk.{Walk, Keeps, k-pure, k-bind, k-unless, k-if}
use Rattle.name_laws.proofs.Walked.{KeepsInside}
use Rattle.name_laws.proofs.KeepsNames.{k-exception}
use Rattle.name_laws.proofs.KeepsRanges.{k-chosen_span, k-chosen_value}

pub k-covered_by : (walk : Walk) (x0 : Covering) (x1 : Choosing) (x2 : ℕ) (x3 : ℤ) (x4 : ℤ) → Keeps walk (covered_by x0 x1 x2 x3 x4)
k-covered_by walk c d at low high = k-if walk (not (int_le low high)) (pure (c, with_span d low high)) ((unless (not (overlaps low high c.ranges)) at StaticRange >>= λ u. pure (also_covered c low high, with_span d low high))) (k-pure walk (c, with_span d low high)) (k-bind walk (unless (not (overlaps low high c.ranges)) at StaticRange) (λ u. pure (also_covered c low high, with_span d low high)) (k-unless walk (not (overlaps low high c.ranges)) at StaticRange) (λ u. k-pure walk (also_covered c low high, with_span d low high)))

pub k-maybe_covered : (walk : Walk) (x0 : Covering) (x1 : Choosing) (x2 : Option Chosen) → Keeps walk (maybe_covered x0 x1 x2)
k-maybe_covered walk c d None = k-pure walk (as_faulty c, d)
k-maybe_covered walk c d (Some x) = k-covered_by walk c (also_mentioned d x.part) x.known.at x.known.low x.known.high

pub k-case_choice : (walk : Walk) (x0 : Inside) (x1 : Context) (x2 : Option Kind) (x3 : Bool) (x4 : Bool) (x5 : Covering) (x6 : Choosing) (x7 : Choice) → KeepsInside walk x0 → Keeps walk (case_choice x0 x1 x2 x3 x4 x5 x6 x7)
unfolding case_choice
k-case_choice walk level here k single last c d (syntax.Value s) keeps1 = k-bind walk (chosen_value level here k s) (maybe_covered c d) (k-chosen_value walk level here k s keeps1) (λ z2. k-maybe_covered walk c d z2)
k-case_choice walk level here k single last c d (syntax.Span low high) keeps1 = k-bind walk (chosen_span level here k low high) (maybe_covered c d) (k-chosen_span walk level here k low high keeps1) (λ z2. k-maybe_covered walk c d z2)
k-case_choice walk level here k single last c d (syntax.Others at) keeps1 = k-bind walk (unless (single && last) at StaticRange) (λ u. pure (with_others c (single && last), record { spans = d.spans; others = true; mentions = d.mentions })) (k-unless walk (single && last) at StaticRange) (λ u. k-pure walk (with_others c (single && last), record { spans = d.spans; others = true; mentions = d.mentions }))

pub k-case_choices : (walk : Walk) (x0 : Inside) (x1 : Context) (x2 : Option Kind) (x3 : Bool) (x4 : Bool) (x5 : Covering) (x6 : Choosing) (x7 : List Choice) → KeepsInside walk x0 → Keeps walk (case_choices x0 x1 x2 x3 x4 x5 x6 x7)
k-case_choices walk level here k single last c d [] keeps1 = k-pure walk (c, d)
k-case_choices walk level here k single last c d (x ∷ xs) keeps1 = k-bind walk (case_choice level here k single last c d x) (λ r. case_choices level here k single last r.0 r.1 xs) (k-case_choice walk level here k single last c d x keeps1) (λ r. k-case_choices walk level here k single last r.0 r.1 xs keeps1)

pub k-closed : (walk : Walk) (x0 : ℕ) (x1 : Scalar) (x2 : Covering) → Keeps walk (closed x0 x1 x2)
unfolding closed
k-closed walk at s c = k-unless walk (c.faulty || c.others || not (is_open s.low s.high (sorted c.ranges))) at StaticRange

pub k-named_once : (walk : Walk) (x0 : Naming) (x1 : ℕ) (x2 : Option Reason) → Keeps walk (named_once x0 x1 x2)
k-named_once walk n first None = k-pure walk (record { seen = n.seen; named = None })
k-named_once walk n first (Some r) = k-bind walk (unless (not (list_any (same_reason r) n.seen)) first Twice) (λ u. pure (record { seen = r ∷ n.seen; named = option_map (λ rs. with_reason rs r) n.named })) (k-unless walk (not (list_any (same_reason r) n.seen)) first Twice) (λ u. k-pure walk (record { seen = r ∷ n.seen; named = option_map (λ rs. with_reason rs r) n.named }))

pub k-named_reasons : (walk : Walk) (x0 : Names) (x1 : Context) (x2 : Naming) (x3 : List Pack) → walk.Takes x0 → Keeps walk (named_reasons x0 x1 x2 x3)
k-named_reasons walk names here n [] keeps1 = k-pure walk n
k-named_reasons walk names here n (p ∷ ps) keeps1 = record {
  at = λ log.
      let out1 = exception names here p log in
      let r = out1.0 in
      let out2 = named_once n p.first r out1.1 in
      let m = out2.0 in
      walk.joins _ _ _ ((k-exception walk names here p keeps1).at log)
      (walk.joins _ _ _ ((k-named_once walk n p.first r).at out1.1)
      ((k-named_reasons walk names here m ps keeps1).at out2.1));
}

pub k-handled_by : (walk : Walk) (x0 : Names) (x1 : Context) (x2 : List Reason) (x3 : Bool) (x4 : Handled) → walk.Takes x0 → Keeps walk (handled_by x0 x1 x2 x3 x4)
unfolding handled_by
k-handled_by walk names here seen last (syntax.AnyOther at) keeps1 = k-bind walk (unless last at StaticRange) (λ u. pure (seen, Some typed.Others)) (k-unless walk last at StaticRange) (λ u. k-pure walk (seen, Some typed.Others))
k-handled_by walk names here seen last (syntax.These p ps) keeps1 = k-bind walk (named_reasons names here (record { seen = seen; named = Some [] }) (p ∷ ps)) (λ n. pure (n.seen, option_map typed.Reasons n.named)) (k-named_reasons walk names here (record { seen = seen; named = Some [] }) (p ∷ ps) keeps1) (λ n. k-pure walk (n.seen, option_map typed.Reasons n.named))
