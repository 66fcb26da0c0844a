-- What functions that read ensure.
use Rattle.std.specs.Prelude.{◌≡◌, ℕ, suc, Bool, true, false, List, Option, Some, None, Result, Ok, Err}
use Rattle.ada_base.specs.Symbols.{Symbol}
use Rattle.syntax_readers.specs.Readers.{Answer, Found, Refused, TooDeep}
use Rattle.syntax_readers.specs.declared.failure.Failure.{Failure}
use Rattle.syntax_readers.specs.declared.failure.Failure.TheVariants as failure
use Rattle.syntax_tree.specs.Syntax.{Simple, OptionalExpr, AbsentExpr, PresentExpr, Iter, InRange, Parallel, Counted, AbsentParallel, PresentParallel}
use Rattle.syntax_grammar.specs.Read.{Inside, OneInside, ManyInside, is_each, option_of, count_of}
use Rattle.syntax_nodes.specs.Parts.{TreePart, the_expr, the_many, the_range, the_simple, the_iter, the_parallel, optional_expr, maybe_expr, optional_parallel, IsSimple, IsParallel}
use Rattle.syntax_nodes.specs.Rooted.{top, second, pop}

-- the reader's value is the latest part, which is one by each rule above, on what was there before
abbrev pub Reads : {A U : Type 0} → (TreePart → A) → (TreePart → Type 0) → List TreePart → Answer A × List Symbol → Result U Failure → List Symbol → List TreePart → Type 0
Reads the Is back answer (Ok _) ts ps = (answer ≡ (Found (the (top ps)), ts)) × (pop ps ≡ back) × Is (top ps)
Reads the Is back answer (Err failure.Unexpected) ts ps = answer ≡ (Refused, ts)
Reads the Is back answer (Err failure.TooDeep) ts ps = answer ≡ (TooDeep, ts)
Reads the Is back answer (Err failure.OutOfMemory) ts ps = Unit {0}

-- the reader's value is made of the two latest parts, on what was there before
abbrev pub ReadsTwo : {A U : Type 0} → (TreePart → TreePart → A) → List TreePart → Answer A × List Symbol → Result U Failure → List Symbol → List TreePart → Type 0
ReadsTwo the back answer (Ok _) ts ps = (answer ≡ (Found (the (second ps) (top ps)), ts)) × (pop (pop ps) ≡ back)
ReadsTwo the back answer (Err failure.Unexpected) ts ps = answer ≡ (Refused, ts)
ReadsTwo the back answer (Err failure.TooDeep) ts ps = answer ≡ (TooDeep, ts)
ReadsTwo the back answer (Err failure.OutOfMemory) ts ps = Unit {0}

-- the reader's value is told by the answer and the latest part, of which this holds, on what was there before
abbrev pub ReadsForm : {A U : Type 0} → (U → TreePart → A) → (U → TreePart → Type 0) → List TreePart → Answer A × List Symbol → Result U Failure → List Symbol → List TreePart → Type 0
ReadsForm the Holds back answer (Ok u) ts ps = (answer ≡ (Found (the u (top ps)), ts)) × (pop ps ≡ back) × Holds u (top ps)
ReadsForm the Holds back answer (Err failure.Unexpected) ts ps = answer ≡ (Refused, ts)
ReadsForm the Holds back answer (Err failure.TooDeep) ts ps = answer ≡ (TooDeep, ts)
ReadsForm the Holds back answer (Err failure.OutOfMemory) ts ps = Unit {0}

-- ---- bounds

abbrev pub bounds_of : TreePart → TreePart → Simple × Simple
bounds_of low high = (the_simple low, the_simple high)

-- ---- what stands in brackets

abbrev pub many_inside : TreePart → Inside
many_inside p = ManyInside (the_many p)

-- whether it is an expression alone
abbrev pub inside_form : Bool → TreePart → Inside
inside_form true p = OneInside (the_expr p)
inside_form false p = ManyInside (the_many p)

abbrev pub AnyForm : Bool → TreePart → Type 0
AnyForm _ _ = Unit {0}

-- ---- iterations

abbrev pub is_present : OptionalExpr → Bool
is_present AbsentExpr = false
is_present (PresentExpr e) = true

abbrev pub told_expr : Bool → TreePart → OptionalExpr
told_expr _ p = optional_expr p

abbrev pub HasFilter : Bool → TreePart → Type 0
HasFilter b p = (is_present (optional_expr p) ≡ b) × (option_of (optional_expr p) ≡ maybe_expr p)

-- an iteration that was begun: its parameter where it is over a range and has neither `reverse` nor a filter
abbrev pub iter_form : Option ℕ → TreePart → Iter
iter_form (Some index) p = InRange index None (the_range p) AbsentExpr
iter_form None p = the_iter p

-- an iteration that is no association of an aggregate
abbrev pub IsNoRange : TreePart → Type 0
IsNoRange p = is_each AbsentParallel (the_iter p) ≡ false

abbrev pub EachForm : Option ℕ → TreePart → Type 0
EachForm (Some index) p = Unit {0}
EachForm None p = IsNoRange p

-- such an iteration is joined, unless memory failed
abbrev pub JoinsIter : {U : Type 0} → Option ℕ → Result U Failure → List TreePart → List TreePart → Type 0
JoinsIter begun (Ok _) now old = (the_iter (top now) ≡ iter_form begun (top old)) × (pop now ≡ pop old)
JoinsIter begun (Err failure.OutOfMemory) now old = Unit {0}
JoinsIter begun (Err _) now old = ⊥

-- the same of one below the latest part
abbrev pub JoinsRange : {U : Type 0} → ℕ → Result U Failure → List TreePart → List TreePart → Type 0
JoinsRange index (Ok _) now old = (the_iter (second now) ≡ iter_form (Some index) (second old)) × (top now ≡ top old) × (pop (pop now) ≡ pop (pop old))
JoinsRange index (Err failure.OutOfMemory) now old = Unit {0}
JoinsRange index (Err _) now old = ⊥

-- ---- chunks

-- a chunk specification in its brackets: whether it is a sum alone, which is then the part
abbrev pub chunk_form : ℕ → Bool → TreePart → Parallel
chunk_form at true p = Counted at (the_simple p)
chunk_form at false p = the_parallel p

-- a chunk specification that is no sum alone
abbrev pub IsRangeChunk : TreePart → Type 0
IsRangeChunk p = (count_of (the_parallel p) ≡ None) × IsParallel p

abbrev pub ChunkForm : Bool → TreePart → Type 0
ChunkForm true p = IsSimple p
ChunkForm false p = IsRangeChunk p

-- whether there is a parallel part
abbrev pub HasParallel : Bool → TreePart → Type 0
HasParallel true p = optional_parallel p ≡ PresentParallel (the_parallel p)
HasParallel false p = optional_parallel p ≡ AbsentParallel

-- ---- levels

-- the levels below a token that opens one, or why there are none
abbrev pub LeavesLevels : Bool → ℕ → Result ℕ Failure → Type 0
LeavesLevels opens levels (Ok n) = levels ≡ suc n
LeavesLevels opens levels (Err failure.TooDeep) = (levels ≡ 0) × (opens ≡ true)
LeavesLevels opens levels (Err failure.Unexpected) = (levels ≡ 0) × (opens ≡ false)
LeavesLevels opens levels (Err failure.OutOfMemory) = ⊥
