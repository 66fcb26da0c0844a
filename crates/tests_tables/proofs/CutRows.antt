-- How iterations are cut into chunks (5.5, 5.6.1): the plan, the number of iterations, the most chunks, and the chunks' sizes.
use Rattle.std.proofs.Common.{◌≡◌, ℕ, List, [], ◌∷◌, length, get_or, refl, map}
use Rattle.ada_base.specs.Cuts as cut
use Rattle.ada_base.specs.Cuts.{Plan, cuts_of}
use Rattle.run_plan.specs.Even.{even_of}
use Rattle.run_plan.specs.declared.even_division.Range.{Range}

data Row : Type 0 where
  row : Plan → (n most : ℕ) → List ℕ → Row

abbrev wanted : Row → List ℕ
wanted (row plan n most want) = want

abbrev found : Row → List ℕ
found (row plan n most want) = cuts_of plan most n

abbrev rows : List Row
rows =
    row (cut.Chunked 3) 10 4 (3 ∷ 3 ∷ 3 ∷ 1 ∷ []) ∷
    row (cut.Chunked 3) 10 2 (3 ∷ 7 ∷ []) ∷
    row (cut.Chunked 3) 9 4096 (3 ∷ 3 ∷ 3 ∷ []) ∷
    row (cut.Chunked 1) 0 1 ([]) ∷
    row (cut.Chunked 4294967295) 4611686018427387904 2 (4294967295 ∷ 4611686014132420609 ∷ []) ∷
    row (cut.Even 3) 10 4096 (4 ∷ 3 ∷ 3 ∷ []) ∷
    row (cut.Even 8) 3 4096 (1 ∷ 1 ∷ 1 ∷ []) ∷
    row (cut.Even 8) 10 2 (5 ∷ 5 ∷ []) ∷
    row (cut.Even 8) 0 1 ([]) ∷
    row (cut.Even 4294967295) 4611686018427387904 2 (2305843009213693952 ∷ 2305843009213693952 ∷ []) ∷
    row (cut.Listed (1 ∷ 2 ∷ [])) 10 4096 (1 ∷ 2 ∷ 7 ∷ []) ∷
    row (cut.Listed (5 ∷ 9 ∷ [])) 10 4096 (5 ∷ 5 ∷ []) ∷
    row (cut.Listed (4 ∷ 6 ∷ 1 ∷ [])) 10 4096 (4 ∷ 6 ∷ []) ∷
    row (cut.Listed (1 ∷ 1 ∷ 1 ∷ [])) 10 2 (1 ∷ 9 ∷ []) ∷
    row (cut.Listed (1 ∷ [])) 0 1 ([]) ∷
    row (cut.Listed (7 ∷ [])) 4611686018427387904 4096 (7 ∷ 4611686018427387897 ∷ []) ∷
    row cut.One 10 4096 (10 ∷ []) ∷
    row cut.One 0 4096 ([]) ∷
    row cut.One 4611686018427387904 4096 (4611686018427387904 ∷ []) ∷ []

each_cut : map found rows ≡ map wanted rows
each_cut = refl

-- 2 to the power 62 iterations in chunks of 1
long_work : get_or (cuts_of (cut.Chunked 1) 4096 4611686018427387904) 4095 0 ≡ 4611686018427383809
long_work = refl

long_work_in_few : length (cuts_of (cut.Chunked 1) 4096 4611686018427387904) ≡ 4096
long_work_in_few = refl

-- and in chunks of 2 to the power 32 less 1
long_work_by_long_chunks : get_or (cuts_of (cut.Chunked 4294967295) 4096 4611686018427387904) 4095 0 ≡ 4611668430536314879
long_work_by_long_chunks = refl

long_chunks_in_few : length (cuts_of (cut.Chunked 4294967295) 4096 4611686018427387904) ≡ 4096
long_chunks_in_few = refl

-- The iterations of a part: how many there are in all, the number of parts and of the part, its first one and its length.
data Part : Type 0 where
  part : (n k i : ℕ) → Range → Part

abbrev range : (first len : ℕ) → Range
range first len = record { first = first; len = len }

abbrev wanted_range : Part → Range
wanted_range (part n k i want) = want

abbrev found_range : Part → Range
found_range (part n k i want) = even_of n k i

abbrev parts : List Part
parts =
    part 10 3 0 (range 0 4) ∷
    part 10 3 1 (range 4 3) ∷
    part 10 3 2 (range 7 3) ∷
    part 2 4 1 (range 1 1) ∷
    part 2 4 3 (range 2 0) ∷
    part 0 1 0 (range 0 0) ∷
    part 4611686018427387904 3 0 (range 0 1537228672809129302) ∷
    part 4611686018427387904 3 2 (range 3074457345618258603 1537228672809129301) ∷ []

each_part : map found_range parts ≡ map wanted_range parts
each_part = refl
