-- Judging that gives out sites: reducers.
use Rattle.ada_base.specs.declared.operation.Op.{Op}
use Rattle.name_rules.specs.Calls.{gives_in, profile_in, takes_in}
use Rattle.name_rules.specs.Found.{Found, scalar}
use Rattle.name_rules.specs.Judging.{both, fault, joined, some}
use Rattle.name_rules.specs.Operators.{open_of}
use Rattle.name_rules.specs.Types.{class_of, same, typed_scalar}
use Rattle.name_rules.specs.Values.{asked, is_number, joint, kind_of, suits}
use Rattle.name_rules.specs.declared.found.Folding.TheVariants as folding
use Rattle.name_rules.specs.declared.found.Folding.{Folding}
use Rattle.name_rules.specs.declared.found.Found.{Found as Known}
use Rattle.name_rules.specs.declared.found.Going.{Going}
use Rattle.name_rules.specs.declared.found.Limits.{Limits}
use Rattle.name_rules.specs.declared.log.Log.{Log}
use Rattle.name_rules.specs.declared.log.Rule.TheVariants.{ReduceRule}
use Rattle.name_rules.specs.declared.log.Taken.{Taken}
use Rattle.name_rules.specs.declared.types.Kind.{Kind}
use Rattle.name_rules.specs.declared.types.Scalar.{Scalar}
use Rattle.name_rules.specs.declared.types.Subtype.TheVariants as subtype
use Rattle.name_rules.specs.declared.types.Subtype.{Subtype}
use Rattle.typed_tree.specs.declared.expressions.Reducer.TheVariants as reducer'
use Rattle.typed_tree.specs.declared.expressions.Reducer.{Reducer}
use Rattle.typed_tree.specs.declared.scalars.Class.TheVariants as class
use Rattle.std.specs.Prelude.{List, None, Option, Some, [], if◌then◌else◌, is_some, not, ℕ, ◌&&◌, ◌+◌, ◌≤◌, ◌||◌, ◌∷◌}
use Rattle.typed_tree.specs.Decoded.{TypedPart, as_expr, as_iteration}
use Rattle.name_rules.specs.Reducers.{by_function, by_operator, by_subtypes, folded_by, is_logical, numeric, of_kind, open_reduction, reduced, reduction, logical_kind}
use Rattle.std.proofs.Common.{arith}
use Rattle.name_sites.proofs.SpendsFound.{z-opened, z-scalar}
use Rattle.name_sites.proofs.SpendsOperators.{z-open_of}
use Rattle.name_sites.proofs.SpendsValues.{s-asked}
use Rattle.name_sites.proofs.Leaving.{left}
use Rattle.name_sites.proofs.Measures.{counted-by, maybe-known, maybe-part, option-of, part-measure, part-size, second-of, with-part}
use Rattle.name_sites.proofs.Parts.{n-chunk, n-expr, n-iteration}
use Rattle.name_sites.proofs.Records.{site-of}
use Rattle.name_sites.proofs.Spends.{Holds, Spends, SpendsAt, at-if, s-fault, s-none, s-some}
use Rattle.name_sites.proofs.Counts.{again, again-more, in_expr, in_filter}

-- what stands in the threads of a construct has only greater numbers, and so has what is judged from a log on
abbrev pub Late : ℕ → Going → TypedPart → ℕ → Log → Type 0
Late which g i n log = again which g.site (in_filter which (as_iteration i) + (n + left which log)) ≤ 0

pub z-reduction : (which : ℕ) (x0 : Going) (x1 : TypedPart) (x2 : TypedPart) (x3 : Reducer) (x4 : TypedPart) (x5 : TypedPart) → again which x0.site (in_filter which (as_iteration x2) + part-size which x4) ≤ 0 → Holds (counted-by (λ x. in_expr which x)) ((site-of which).size x0.site + part-size which x1 + part-size which x2 + part-size which x4 + part-size which x5) (reduction x0 x1 x2 x3 x4 x5)
z-reduction which g c i r value initial late =
    let l = n-expr which value in
    let two = again-more which g.site (in_filter which (as_iteration i) + in_expr which (as_expr value)) (in_filter which (as_iteration i) + part-size which value) (omega (arith, l)) in
    (tt, omega (arith, n-expr which initial, n-chunk which c, n-iteration which i, l, two, late))

pub t-reduced : (which : ℕ) (x0 : Going) (x1 : TypedPart) (x2 : TypedPart) (x3 : Kind) (x4 : Kind) (x5 : Reducer) (x6 : Found) (x7 : Found) → (with-part which).Whole x6 → (with-part which).Whole x7 → (log : Log) → Late which x0 x2 (part-size which x6.part) log
    → SpendsAt which (maybe-known which) ((site-of which).size x0.site + part-size which x1 + part-size which x2 + part-size which x6.part + part-size which x7.part) (reduced x0 x1 x2 x3 x4 x5 x6 x7) log
unfolding reduced
t-reduced which g c i k j r x v h6 h7 log late =
    let one = (s-asked which k x h6).at log in
    let two = (s-asked which j v h7).at (asked k x log).1 in
    let more = again-more which g.site (in_filter which (as_iteration i) + (maybe-part which).size (asked k x log).0) (in_filter which (as_iteration i) + (part-size which x.part + left which log)) (omega (arith, one.1)) in
    let three = (go (asked k x log).0 (asked j v (asked k x log).1).0 (omega (arith, more, late)) one.0 two.0).at (asked j v (asked k x log).1).1 in
    (three.0, omega (arith, three.1, two.1, one.1))
  where
    go : (e f : Option TypedPart) → again which g.site (in_filter which (as_iteration i) + (maybe-part which).size e) ≤ 0 → (maybe-part which).Whole e → (maybe-part which).Whole f
        → Spends which (maybe-known which) ((maybe-part which).size e + (maybe-part which).size f + ((site-of which).size g.site + part-size which c + part-size which i)) (both e f (λ value initial. some (scalar g.at j None (reduction g c i r value initial))))
    go None f l h3 h4 = s-none which (with-part which) _
    go (Some value) None l h3 h4 = s-none which (with-part which) _
    go (Some value) (Some initial) l h3 h4 =
        s-some which (with-part which) _ (scalar g.at j None (reduction g c i r value initial)) (let made5 = z-reduction which g c i r value initial l in
        let made6 = z-scalar which g.at j None (reduction g c i r value initial) made5.0 in
        (made6.0, omega (arith, made6.1, made5.1)))

pub z-open_reduction : (which : ℕ) (x0 : Going) (x1 : TypedPart) (x2 : TypedPart) (x3 : ℕ) (x4 : Op) (x5 : Limits × TypedPart) (x6 : Limits × TypedPart) → again which x0.site (in_filter which (as_iteration x2) + part-size which x5.1) ≤ 0 → Holds (with-part which) ((site-of which).size x0.site + part-size which x1 + part-size which x2 + part-size which x5.1 + part-size which x6.1) (open_reduction x0 x1 x2 x3 x4 x5 x6)
z-open_reduction which g c i at o x v late =
    let made1 = z-reduction which g c i (reducer'.Operator at o class.Universal) x.1 v.1 late in
    let made2 = z-opened which g.at (joint x.0 v.0) (reduction g c i (reducer'.Operator at o class.Universal) x.1 v.1) made1.0 in
    (made2.0, omega (arith, made2.1, made1.1))

pub t-of_kind : (which : ℕ) (x0 : Going) (x1 : TypedPart) (x2 : TypedPart) (x3 : ℕ) (x4 : Op) (x5 : Kind) (x6 : Found) (x7 : Found) → (with-part which).Whole x6 → (with-part which).Whole x7 → (log : Log) → Late which x0 x2 (part-size which x6.part) log
    → SpendsAt which (maybe-known which) ((site-of which).size x0.site + part-size which x1 + part-size which x2 + part-size which x6.part + part-size which x7.part) (of_kind x0 x1 x2 x3 x4 x5 x6 x7) log
t-of_kind which g c i at o k x v h6 h7 log late =
    at-if which (maybe-known which) _ (suits k x.known && suits k v.known) (reduced g c i k k (reducer'.Operator at o (class_of k)) x v) (fault at ReduceRule) log
    (t-reduced which g c i k k (reducer'.Operator at o (class_of k)) x v h6 h7 log late)
    ((s-fault which (with-part {K = Known} which) _ at ReduceRule).at log)

pub t-numeric : (which : ℕ) (x0 : Going) (x1 : TypedPart) (x2 : TypedPart) (x3 : ℕ) (x4 : Op) (x5 : Found) (x6 : Found) (x7 : Option Kind) (x8 : Option Kind) → (with-part which).Whole x5 → (with-part which).Whole x6 → (log : Log) → Late which x0 x2 (part-size which x5.part) log
    → SpendsAt which (maybe-known which) ((site-of which).size x0.site + part-size which x1 + part-size which x2 + part-size which x5.part + part-size which x6.part) (numeric x0 x1 x2 x3 x4 x5 x6 x7 x8) log
t-numeric which g c i at o x v None None h5 h6 log late =
    let made4 = z-open_of which x h5 in
    let made5 = z-open_of which v h6 in
    let more = again-more which g.site (in_filter which (as_iteration i) + (option-of (second-of (part-measure which))).size (open_of x)) (in_filter which (as_iteration i) + (part-size which x.part + left which log)) (omega (arith, made4.1)) in
    let made6 = go (open_of x) (open_of v) (omega (arith, more, late)) in
    (made6.0, omega (arith, made6.1, made4.1, made5.1))
  where
    go : (a b : Option (Limits × TypedPart)) → again which g.site (in_filter which (as_iteration i) + (option-of (second-of (part-measure which))).size a) ≤ 0
        → Holds (maybe-known which) ((option-of (second-of (part-measure which))).size a + (option-of (second-of (part-measure which))).size b + ((site-of which).size g.site + part-size which c + part-size which i)) (joined (open_reduction g c i at o) a b)
    go None b l = (tt, omega arith)
    go (Some a) None l = (tt, omega arith)
    go (Some a) (Some b) l = let made = z-open_reduction which g c i at o a b l in (made.0, omega (arith, made.1))
t-numeric which g c i at o x v (Some k) any1 h5 h6 log late = t-of_kind which g c i at o k x v h5 h6 log late
t-numeric which g c i at o x v None (Some k) h5 h6 log late = t-of_kind which g c i at o k x v h5 h6 log late

pub t-by_operator : (which : ℕ) (x0 : Going) (x1 : TypedPart) (x2 : TypedPart) (x3 : ℕ) (x4 : Op) (x5 : Found) (x6 : Found) → (with-part which).Whole x5 → (with-part which).Whole x6 → (log : Log) → Late which x0 x2 (part-size which x5.part) log
    → SpendsAt which (maybe-known which) ((site-of which).size x0.site + part-size which x1 + part-size which x2 + part-size which x5.part + part-size which x6.part) (by_operator x0 x1 x2 x3 x4 x5 x6) log
t-by_operator which g c i at o x v h5 h6 log late =
    at-if which (maybe-known which) _ (is_logical o) (of_kind g c i at o (logical_kind (kind_of x.known) (kind_of v.known)) x v) (if is_number x.known && is_number v.known then numeric g c i at o x v (kind_of x.known) (kind_of v.known) else fault at ReduceRule) log
    (t-of_kind which g c i at o (logical_kind (kind_of x.known) (kind_of v.known)) x v h5 h6 log late)
    (at-if which (maybe-known which) _ (is_number x.known && is_number v.known) (numeric g c i at o x v (kind_of x.known) (kind_of v.known)) (fault at ReduceRule) log
    (t-numeric which g c i at o x v (kind_of x.known) (kind_of v.known) h5 h6 log late)
    ((s-fault which (with-part {K = Known} which) _ at ReduceRule).at log))

pub t-by_subtypes : (which : ℕ) (x0 : Going) (x1 : TypedPart) (x2 : TypedPart) (x3 : ℕ) (x4 : ℕ) (x5 : Kind) (x6 : Subtype) (x7 : Subtype) (x8 : Found) (x9 : Found) → (with-part which).Whole x8 → (with-part which).Whole x9 → (log : Log) → Late which x0 x2 (part-size which x8.part) log
    → SpendsAt which (maybe-known which) ((site-of which).size x0.site + part-size which x1 + part-size which x2 + part-size which x8.part + part-size which x9.part) (by_subtypes x0 x1 x2 x3 x4 x5 x6 x7 x8 x9) log
t-by_subtypes which g c i at n result (subtype.Scalar a) (subtype.Scalar b) x v h8 h9 log late =
    at-if which (maybe-known which) _ (same result a.kind && suits b.kind x.known && suits a.kind v.known && (not (is_some g.site) || same a.kind b.kind)) (reduced g c i b.kind a.kind (reducer'.Function at n (typed_scalar a) (typed_scalar b)) x v) (fault at ReduceRule) log
    (t-reduced which g c i b.kind a.kind (reducer'.Function at n (typed_scalar a) (typed_scalar b)) x v h8 h9 log late)
    ((s-fault which (with-part {K = Known} which) _ at ReduceRule).at log)
t-by_subtypes which g c i at n result any1 any2 x v h8 h9 log late = (s-fault which (with-part {K = Known} which) _ at ReduceRule).at log

pub t-by_function : (which : ℕ) (x0 : Going) (x1 : TypedPart) (x2 : TypedPart) (x3 : ℕ) (x4 : ℕ) (x5 : List Taken) (x6 : Option Scalar) (x7 : Found) (x8 : Found) → (with-part which).Whole x7 → (with-part which).Whole x8 → (log : Log) → Late which x0 x2 (part-size which x7.part) log
    → SpendsAt which (maybe-known which) ((site-of which).size x0.site + part-size which x1 + part-size which x2 + part-size which x7.part + part-size which x8.part) (by_function x0 x1 x2 x3 x4 x5 x6 x7 x8) log
t-by_function which g c i at n (a ∷ b ∷ []) (Some s) x v h7 h8 log late = t-by_subtypes which g c i at n s.kind a.subtype b.subtype x v h7 h8 log late
t-by_function which g c i at n ts s x v h7 h8 log late = (s-fault which (with-part {K = Known} which) _ at ReduceRule).at log

pub t-folded_by : (which : ℕ) (x0 : Going) (x1 : TypedPart) (x2 : TypedPart) (x3 : Folding) (x4 : Found) (x5 : Found) → (with-part which).Whole x4 → (with-part which).Whole x5 → (log : Log) → Late which x0 x2 (part-size which x4.part) log
    → SpendsAt which (maybe-known which) ((site-of which).size x0.site + part-size which x1 + part-size which x2 + part-size which x4.part + part-size which x5.part) (folded_by x0 x1 x2 x3 x4 x5) log
unfolding folded_by
t-folded_by which g c i (folding.Operator at o) x v h4 h5 log late = t-by_operator which g c i at o x v h4 h5 log late
t-folded_by which g c i (folding.Extreme at o s) x v h4 h5 log late = t-of_kind which g c i at o s.kind x v h4 h5 log late
t-folded_by which g c i (folding.Function at n) x v h4 h5 log late = t-by_function which g c i at n (takes_in (profile_in log n)) (gives_in (profile_in log n)) x v h4 h5 log late
