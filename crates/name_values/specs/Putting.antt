-- What is found of the arguments of Put, with its parts: the item and then the width.
use Rattle.std.specs.Prelude.{◌≡◌, ℕ, List, Option, Result, Ok, Err}
use Rattle.syntax_tree.specs.Syntax.{Args}
use Rattle.typed_tree.specs.Decoded.{TypedPart}
use Rattle.typed_tree.specs.Latest.{pop, second, top}
use Rattle.name_rules.specs.Found.{Denoted, Found}
use Rattle.name_rules.specs.Judges.{part_if}
use Rattle.name_rules.specs.Judging.{Judging, given, ◌>>=◌}
use Rattle.name_rules.specs.Output.{Putting, alone_given, get_of}
use Rattle.name_rules.specs.declared.log.Log.{Log}
use Rattle.name_values.specs.declared.putting.Putting.{Putting as KnownPutting}

abbrev pub putting_of : KnownPutting → TypedPart → TypedPart → Putting
putting_of p item width = record { count = p.count; item = part_if p.item item; has_width = p.has_width; width = part_if p.width width }

-- it goes on with a Put, whose item and width are the latest parts
abbrev pub Puts : {E : Type 0} → Putting × Log → List TypedPart → Result (Unit {0}) E → KnownPutting → Log → List TypedPart → Type 0
Puts outcome rest (Ok u) p log now = (outcome ≡ (putting_of p (second now) (top now), log)) × (pop (pop now) ≡ rest)
Puts outcome rest (Err e) p log now = Unit {0}

-- Get, whose argument is the only one
abbrev pub get_given : ℕ → ℕ → ℕ → Args → Found → Judging (Option Denoted)
get_given at first last more f = alone_given at more f >>= λ g. given g (λ h. get_of first last h.known h.part)
