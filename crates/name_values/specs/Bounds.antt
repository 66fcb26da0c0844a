-- The values of two static bounds.
use Rattle.std.specs.Prelude.{Option, option_map, ℤ}
use Rattle.typed_tree.specs.declared.statements.Span.{Span}
use Rattle.name_rules.specs.Types.{kept}
use Rattle.name_rules.specs.declared.types.Kind.{Kind}

-- cells keep them
abbrev pub ends : Kind → Span → ℤ × ℤ
ends k s = (kept k s.low, kept k s.high)

abbrev pub ends_of : Kind → Option Span → Option (ℤ × ℤ)
ends_of k s = option_map (ends k) s
