-- What functions ensure that judge, unless memory fails.
use Rattle.std.specs.Prelude.{◌≡◌, List, Bool, OnOk, Option, Result}
use Rattle.typed_tree.specs.Decoded.{TypedPart}
use Rattle.typed_tree.specs.Latest.{pop, second, third, top}
use Rattle.name_rules.specs.Found.{With}
use Rattle.name_rules.specs.Judges as outcome
use Rattle.name_rules.specs.Judging.{Judging}
use Rattle.name_values.specs.declared.judge.Judge.{Judge}
use Rattle.typed_parts.specs.Stack.{parts}

-- it judges so, and leaves the part of what it found on these parts
abbrev pub JudgesOn : {K E : Type 0} → List TypedPart → Judging (Option (With K)) → Judge → Result (Option K) E → Judge → Type 0
JudgesOn rest p old result new = outcome.Judges (p old.log) rest result new.log (parts new.out)

-- it judges so, and leaves the part that it gives on these parts
abbrev pub GivesOn : {E : Type 0} → List TypedPart → Judging (Option TypedPart) → Judge → Result Bool E → Judge → Type 0
GivesOn rest p old result new = outcome.Gives (p old.log) rest result new.log (parts new.out)

-- it judges so, and joins nothing
abbrev pub Says : {A E : Type 0} → Judging A → Judge → Result A E → Judge → Type 0
Says p old result new = outcome.Says (p old.log) result new.log

-- on what was there before
abbrev pub Judges : {K E : Type 0} → Judging (Option (With K)) → Judge → Result (Option K) E → Judge → Type 0
Judges p old result new = JudgesOn (parts old.out) p old result new

abbrev pub Gives : {E : Type 0} → Judging (Option TypedPart) → Judge → Result Bool E → Judge → Type 0
Gives p old result new = GivesOn (parts old.out) p old result new

-- in place of the latest part, of which it judges
abbrev pub JudgesOne : {A K E : Type 0} → (A → Judging (Option (With K))) → (TypedPart → A) → Judge → Result (Option K) E → Judge → Type 0
JudgesOne f x old result new = JudgesOn (pop (parts old.out)) (f (x (top (parts old.out)))) old result new

abbrev pub GivesOne : {A E : Type 0} → (A → Judging (Option TypedPart)) → (TypedPart → A) → Judge → Result Bool E → Judge → Type 0
GivesOne f x old result new = GivesOn (pop (parts old.out)) (f (x (top (parts old.out)))) old result new

-- in place of the part before the latest, which stays
abbrev pub GivesBefore : {E : Type 0} → Judging (Option TypedPart) → Judge → Result Bool E → Judge → Type 0
GivesBefore p old result new = outcome.Gives (p old.log) (pop (pop (parts old.out))) result new.log (pop (parts new.out)) × OnOk result (top (parts new.out) ≡ top (parts old.out))

-- in place of the two latest parts
abbrev pub JudgesTwo : {A B K E : Type 0} → (A → B → Judging (Option (With K))) → (TypedPart → A) → (TypedPart → B) → Judge → Result (Option K) E → Judge → Type 0
JudgesTwo f x y old result new = JudgesOn (pop (pop (parts old.out))) (f (x (second (parts old.out))) (y (top (parts old.out)))) old result new

abbrev pub GivesTwo : {A B E : Type 0} → (A → B → Judging (Option TypedPart)) → (TypedPart → A) → (TypedPart → B) → Judge → Result Bool E → Judge → Type 0
GivesTwo f x y old result new = GivesOn (pop (pop (parts old.out))) (f (x (second (parts old.out))) (y (top (parts old.out)))) old result new

-- in place of the three latest parts
abbrev pub JudgesThree : {A B C K E : Type 0} → (A → B → C → Judging (Option (With K))) → (TypedPart → A) → (TypedPart → B) → (TypedPart → C) → Judge → Result (Option K) E → Judge → Type 0
JudgesThree f x y z old result new = JudgesOn (pop (pop (pop (parts old.out)))) (f (x (third (parts old.out))) (y (second (parts old.out))) (z (top (parts old.out)))) old result new
