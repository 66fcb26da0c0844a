-- What functions ensure that judge statements and declarations, unless memory fails.
use Rattle.std.specs.Prelude.{List, Bool, Option, Result}
use Rattle.typed_tree.specs.Decoded.{TypedPart}
use Rattle.name_programs.specs.Around as outcome
use Rattle.name_programs.specs.Declares as declaring
use Rattle.name_rules.specs.Judging.{Judging}
use Rattle.name_rules.specs.declared.scope.Context.{Context}
use Rattle.name_values.specs.declared.judge.Judge.{Judge}
use Rattle.typed_parts.specs.Stack.{parts}

-- it judges so, leaves the part that it gives on these parts, and leaves what is around as it was
abbrev pub KeepsOn : {E : Type 0} → List TypedPart → Judging (Option TypedPart) → Context → Judge → Result Bool E → Judge → Context → Type 0
KeepsOn rest p around old result new here = outcome.Keeps (p old.log) rest around result new.log (parts new.out) here

abbrev pub Keeps : {E : Type 0} → Judging (Option TypedPart) → Context → Judge → Result Bool E → Judge → Context → Type 0
Keeps p around old result new here = KeepsOn (parts old.out) p around old result new here

-- the same, with something more that it gives
abbrev pub KeepsWithOn : {A E : Type 0} → List TypedPart → Judging (A × Option TypedPart) → Context → Judge → Result Bool E → A → Judge → Context → Type 0
KeepsWithOn rest p around old result more new here = outcome.KeepsWith (p old.log) rest around result more new.log (parts new.out) here

abbrev pub KeepsWith : {A E : Type 0} → Judging (A × Option TypedPart) → Context → Judge → Result Bool E → A → Judge → Context → Type 0
KeepsWith p around old result more new here = KeepsWithOn (parts old.out) p around old result more new here

-- it judges a body so, leaves its declarations, statements and handlers on these parts, and leaves what is around as it was
abbrev pub HoldsOn : {E : Type 0} → List TypedPart → Judging (Option TypedPart) → Context → Judge → Result Bool E → Judge → Context → Type 0
HoldsOn rest p around old result new here = outcome.Holds (p old.log) rest around result new.log (parts new.out) here

-- it judges so, leaves the names that are declared, and the list of what is elaborated on these parts
abbrev pub DeclaresOn : {E : Type 0} → List TypedPart → Judging (Context × Option TypedPart) → Judge → Result Bool E → Context → Judge → Type 0
DeclaresOn rest p old result here new = declaring.Declares (p old.log) rest result here new.log (parts new.out)

abbrev pub Declares : {E : Type 0} → Judging (Context × Option TypedPart) → Judge → Result Bool E → Context → Judge → Type 0
Declares p old result here new = DeclaresOn (parts old.out) p old result here new
