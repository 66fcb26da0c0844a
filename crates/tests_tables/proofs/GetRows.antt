-- Gets of integers (A.10.8), one after the other: what the source gives, how many turns each may take, and what each
-- answers and how many turns it took.
use Rattle.std.proofs.Common.{◌≡◌, ℕ, ◌-◌, List, [], ◌∷◌, Result, Ok, Err, ℤ, pos, negsuc, refl, map}
use Rattle.ada_base.specs.declared.reason.Reason.{Reason}
use Rattle.ada_base.specs.declared.reason.Reason.TheVariants.{DataError, EndError}
use Rattle.ada_base.specs.Input.{Held, Nothing, got}
use Rattle.ada_io.specs.Plain.{Feed, End, Fault, fed, Stop, Raised, Failed, TurnsSpent, plain}

data Answer : Type 0 where
  answer : Result ℤ Stop → ℕ → Answer

abbrev value : ℤ → ℕ → Answer
value z took = answer (Ok z) took

abbrev raised : Reason → ℕ → Answer
raised reason took = answer (Err (Raised reason)) took

abbrev spent : ℕ → Answer
spent took = answer (Err TurnsSpent) took

abbrev failed : ℕ → Answer
failed took = answer (Err Failed) took

data Row : Type 0 where
  row : Feed → (turns : List ℕ) → List Answer → Row

abbrev answers : Held → Feed → List ℕ → List Answer
answers held feed [] = []
answers held feed (turns ∷ more) =
    let after = got plain turns (record { held = held; feed = feed; turns = turns; taken = 0 })
    in answer after.answer (turns - after.state.turns) ∷ answers after.state.held after.state.feed more

abbrev wanted : Row → List Answer
wanted (row feed turns want) = want

abbrev found : Row → List Answer
found (row feed turns want) = answers Nothing feed turns

abbrev inputs : List Row
inputs =
    -- " 12"
    row (fed (32 ∷ 49 ∷ 50 ∷ []) End) (100 ∷ 100 ∷ 100 ∷ []) ((value (pos 12) 4) ∷ (raised EndError 0) ∷ (raised EndError 0) ∷ []) ∷
    -- " -12 7x"
    row (fed (32 ∷ 45 ∷ 49 ∷ 50 ∷ 32 ∷ 55 ∷ 120 ∷ []) End) (100 ∷ 100 ∷ 100 ∷ []) ((value (negsuc 11) 5) ∷ (value (pos 7) 2) ∷ (raised DataError 0) ∷ []) ∷
    -- "+5"
    row (fed (43 ∷ 53 ∷ []) End) (100 ∷ 100 ∷ 100 ∷ []) ((value (pos 5) 3) ∷ (raised EndError 0) ∷ (raised EndError 0) ∷ []) ∷
    -- "-0"
    row (fed (45 ∷ 48 ∷ []) End) (100 ∷ 100 ∷ 100 ∷ []) ((value (pos 0) 3) ∷ (raised EndError 0) ∷ (raised EndError 0) ∷ []) ∷
    -- "1_000"
    row (fed (49 ∷ 95 ∷ 48 ∷ 48 ∷ 48 ∷ []) End) (100 ∷ 100 ∷ 100 ∷ []) ((value (pos 1000) 6) ∷ (raised EndError 0) ∷ (raised EndError 0) ∷ []) ∷
    -- "12_3_4 5"
    row (fed (49 ∷ 50 ∷ 95 ∷ 51 ∷ 95 ∷ 52 ∷ 32 ∷ 53 ∷ []) End) (100 ∷ 100 ∷ 100 ∷ []) ((value (pos 1234) 7) ∷ (value (pos 5) 2) ∷ (raised EndError 0) ∷ []) ∷
    -- "1__0"
    row (fed (49 ∷ 95 ∷ 95 ∷ 48 ∷ []) End) (100 ∷ 100 ∷ 100 ∷ []) ((raised DataError 3) ∷ (raised DataError 0) ∷ (raised DataError 0) ∷ []) ∷
    -- "1_"
    row (fed (49 ∷ 95 ∷ []) End) (100 ∷ 100 ∷ 100 ∷ []) ((raised DataError 3) ∷ (raised EndError 0) ∷ (raised EndError 0) ∷ []) ∷
    -- "1_ 2"
    row (fed (49 ∷ 95 ∷ 32 ∷ 50 ∷ []) End) (100 ∷ 100 ∷ 100 ∷ []) ((raised DataError 3) ∷ (value (pos 2) 2) ∷ (raised EndError 0) ∷ []) ∷
    -- "12#"
    row (fed (49 ∷ 50 ∷ 35 ∷ []) End) (100 ∷ 100 ∷ 100 ∷ []) ((raised DataError 3) ∷ (raised DataError 0) ∷ (raised DataError 0) ∷ []) ∷
    -- "1E3"
    row (fed (49 ∷ 69 ∷ 51 ∷ []) End) (100 ∷ 100 ∷ 100 ∷ []) ((raised DataError 2) ∷ (raised DataError 0) ∷ (raised DataError 0) ∷ []) ∷
    -- "1e3"
    row (fed (49 ∷ 101 ∷ 51 ∷ []) End) (100 ∷ 100 ∷ 100 ∷ []) ((raised DataError 2) ∷ (raised DataError 0) ∷ (raised DataError 0) ∷ []) ∷
    -- "-"
    row (fed (45 ∷ []) End) (100 ∷ 100 ∷ 100 ∷ []) ((raised DataError 2) ∷ (raised EndError 0) ∷ (raised EndError 0) ∷ []) ∷
    -- "- 5"
    row (fed (45 ∷ 32 ∷ 53 ∷ []) End) (100 ∷ 100 ∷ 100 ∷ []) ((raised DataError 2) ∷ (value (pos 5) 2) ∷ (raised EndError 0) ∷ []) ∷
    -- "+-5"
    row (fed (43 ∷ 45 ∷ 53 ∷ []) End) (100 ∷ 100 ∷ 100 ∷ []) ((raised DataError 2) ∷ (value (negsuc 4) 2) ∷ (raised EndError 0) ∷ []) ∷
    -- "x5"
    row (fed (120 ∷ 53 ∷ []) End) (100 ∷ 100 ∷ 100 ∷ []) ((raised DataError 1) ∷ (raised DataError 0) ∷ (raised DataError 0) ∷ []) ∷
    -- "\x0b5"
    row (fed (11 ∷ 53 ∷ []) End) (100 ∷ 100 ∷ 100 ∷ []) ((raised DataError 1) ∷ (raised DataError 0) ∷ (raised DataError 0) ∷ []) ∷
    -- ""
    row (fed ([]) End) (100 ∷ 100 ∷ 100 ∷ []) ((raised EndError 1) ∷ (raised EndError 0) ∷ (raised EndError 0) ∷ []) ∷
    -- "  \t\r\n\x0c"
    row (fed (32 ∷ 32 ∷ 9 ∷ 13 ∷ 10 ∷ 12 ∷ []) End) (100 ∷ 100 ∷ 100 ∷ []) ((raised EndError 7) ∷ (raised EndError 0) ∷ (raised EndError 0) ∷ []) ∷
    -- "007\n"
    row (fed (48 ∷ 48 ∷ 55 ∷ 10 ∷ []) End) (100 ∷ 100 ∷ 100 ∷ []) ((value (pos 7) 4) ∷ (raised EndError 1) ∷ (raised EndError 0) ∷ []) ∷
    -- "2147483647"
    row (fed (50 ∷ 49 ∷ 52 ∷ 55 ∷ 52 ∷ 56 ∷ 51 ∷ 54 ∷ 52 ∷ 55 ∷ []) End) (100 ∷ 100 ∷ 100 ∷ []) ((value (pos 2147483647) 11) ∷ (raised EndError 0) ∷ (raised EndError 0) ∷ []) ∷
    -- "2147483648"
    row (fed (50 ∷ 49 ∷ 52 ∷ 55 ∷ 52 ∷ 56 ∷ 51 ∷ 54 ∷ 52 ∷ 56 ∷ []) End) (100 ∷ 100 ∷ 100 ∷ []) ((raised DataError 11) ∷ (raised EndError 0) ∷ (raised EndError 0) ∷ []) ∷
    -- "-2147483648"
    row (fed (45 ∷ 50 ∷ 49 ∷ 52 ∷ 55 ∷ 52 ∷ 56 ∷ 51 ∷ 54 ∷ 52 ∷ 56 ∷ []) End) (100 ∷ 100 ∷ 100 ∷ []) ((value (negsuc 2147483647) 12) ∷ (raised EndError 0) ∷ (raised EndError 0) ∷ []) ∷
    -- "-2147483649"
    row (fed (45 ∷ 50 ∷ 49 ∷ 52 ∷ 55 ∷ 52 ∷ 56 ∷ 51 ∷ 54 ∷ 52 ∷ 57 ∷ []) End) (100 ∷ 100 ∷ 100 ∷ []) ((raised DataError 12) ∷ (raised EndError 0) ∷ (raised EndError 0) ∷ []) ∷
    -- "4294967297"
    row (fed (52 ∷ 50 ∷ 57 ∷ 52 ∷ 57 ∷ 54 ∷ 55 ∷ 50 ∷ 57 ∷ 55 ∷ []) End) (100 ∷ 100 ∷ 100 ∷ []) ((raised DataError 11) ∷ (raised EndError 0) ∷ (raised EndError 0) ∷ []) ∷
    -- "00000000000000000000000000012"
    row (fed (48 ∷ 48 ∷ 48 ∷ 48 ∷ 48 ∷ 48 ∷ 48 ∷ 48 ∷ 48 ∷ 48 ∷ 48 ∷ 48 ∷ 48 ∷ 48 ∷ 48 ∷ 48 ∷ 48 ∷ 48 ∷ 48 ∷ 48 ∷ 48 ∷ 48 ∷ 48 ∷ 48 ∷ 48 ∷ 48 ∷ 48 ∷ 49 ∷ 50 ∷ []) End) (100 ∷ 100 ∷ 100 ∷ []) ((value (pos 12) 30) ∷ (raised EndError 0) ∷ (raised EndError 0) ∷ []) ∷ []

each_input : map found inputs ≡ map wanted inputs
each_input = refl

-- a turn more than there are is needed
abbrev limits : List Row
limits =
    -- " 12"
    row (fed (32 ∷ 49 ∷ 50 ∷ []) End) (4 ∷ 0 ∷ []) ((value (pos 12) 4) ∷ (raised EndError 0) ∷ []) ∷
    -- " 12"
    row (fed (32 ∷ 49 ∷ 50 ∷ []) End) (3 ∷ 1 ∷ []) ((spent 3) ∷ (raised EndError 1) ∷ []) ∷
    -- "7 8"
    row (fed (55 ∷ 32 ∷ 56 ∷ []) End) (2 ∷ 2 ∷ []) ((value (pos 7) 2) ∷ (value (pos 8) 2) ∷ []) ∷
    -- "7 8"
    row (fed (55 ∷ 32 ∷ 56 ∷ []) End) (2 ∷ 1 ∷ []) ((value (pos 7) 2) ∷ (spent 1) ∷ []) ∷
    -- "7 8"
    row (fed (55 ∷ 32 ∷ 56 ∷ []) End) (2 ∷ 0 ∷ []) ((value (pos 7) 2) ∷ (spent 0) ∷ []) ∷
    -- "5"
    row (fed (53 ∷ []) End) (1 ∷ 1 ∷ []) ((spent 1) ∷ (raised EndError 1) ∷ []) ∷
    -- ""
    row (fed ([]) End) (0 ∷ 1 ∷ []) ((spent 0) ∷ (raised EndError 1) ∷ []) ∷
    -- "x"
    row (fed (120 ∷ []) End) (1 ∷ 0 ∷ []) ((raised DataError 1) ∷ (raised DataError 0) ∷ []) ∷ []

each_limit : map found limits ≡ map wanted limits
each_limit = refl

-- the source fails behind these bytes, whenever it is asked
abbrev faults : List Row
faults =
    -- "7"
    row (fed (55 ∷ []) Fault) (100 ∷ 100 ∷ []) ((failed 2) ∷ (failed 1) ∷ []) ∷
    -- "7 "
    row (fed (55 ∷ 32 ∷ []) Fault) (100 ∷ 100 ∷ 100 ∷ []) ((value (pos 7) 2) ∷ (failed 1) ∷ (failed 1) ∷ []) ∷ []

each_fault : map found faults ≡ map wanted faults
each_fault = refl
