-- The values of two static bounds, by what takes a type without its part.
use Rattle.std.proofs.Common.{◌≡◌, refl, sym, ◌∙◌, ℤ, Option, Some, None}
use Rattle.typed_tree.specs.Decoded.{TypedPart}
use Rattle.typed_tree.specs.declared.statements.Span.{Span}
use Rattle.name_rules.specs.Judging.{given, some}
use Rattle.name_rules.specs.Ranges.{both_static}
use Rattle.name_rules.specs.declared.found.Found.{Found as Known}
use Rattle.name_rules.specs.declared.log.Log.{Log}
use Rattle.name_rules.specs.declared.types.Kind.{Kind}
use Rattle.name_values.proofs.Taken.{both-taken}
use Rattle.name_values.specs.Bounds.{ends, ends_of}
use Rattle.name_values.specs.Statics.{span_taken}

given-some : (o : Option (ℤ × ℤ)) (log : Log) → given o some log ≡ (o, log)
given-some None log = refl
given-some (Some p) log = refl

given-ends : (k : Kind) (o : Option Span) (log : Log) → given o (λ p. some (ends k p)) log ≡ (ends_of k o, log)
given-ends k None log = refl
given-ends k (Some p) log = refl

pub static_taken : (k : Kind) (f g : Known) (x y : TypedPart) (log : Log)
    → both_static k (record { known = f; part = x }) (record { known = g; part = y }) log
    ≡ (ends_of k (span_taken k (record { known = f; part = x }) (record { known = g; part = y }) log).0, (span_taken k (record { known = f; part = x }) (record { known = g; part = y }) log).1)
static_taken k f g x y log =
    let r = both_static k (record { known = f; part = x }) (record { known = g; part = y }) log in
    let q = span_taken k (record { known = f; part = x }) (record { known = g; part = y }) log in
    sym (given-some r.0 r.1) ∙ both-taken k f g x y some log ∙ given-ends k q.0 q.1
