-- Judging that is counted: reducers.
use Rattle.ada_base.specs.declared.operation.Op.{Op}
use Rattle.name_rules.specs.Calls.{gives_in, profile_in, takes_in}
use Rattle.name_rules.specs.Found.{Found, scalar}
use Rattle.name_rules.specs.Judging.{fault, joined, read}
use Rattle.name_rules.specs.Operators.{open_of}
use Rattle.name_rules.specs.Types.{class_of, same, typed_scalar}
use Rattle.name_rules.specs.Values.{asked, is_number, joint, kind_of, suits}
use Rattle.name_rules.specs.declared.found.Folding.TheVariants as folding
use Rattle.name_rules.specs.declared.found.Folding.{Folding}
use Rattle.name_rules.specs.declared.found.Going.{Going}
use Rattle.name_rules.specs.declared.found.Limits.{Limits}
use Rattle.name_rules.specs.declared.log.Rule.TheVariants.{ReduceRule}
use Rattle.name_rules.specs.declared.log.Taken.{Taken}
use Rattle.name_rules.specs.declared.types.Kind.{Kind}
use Rattle.name_rules.specs.declared.types.Scalar.{Scalar}
use Rattle.name_rules.specs.declared.types.Subtype.TheVariants as subtype
use Rattle.name_rules.specs.declared.types.Subtype.{Subtype}
use Rattle.typed_tree.specs.declared.expressions.Reducer.TheVariants as reducer'
use Rattle.typed_tree.specs.declared.expressions.Reducer.{Reducer}
use Rattle.typed_tree.specs.declared.scalars.Class.TheVariants as class
use Rattle.std.specs.Prelude.{List, None, Option, Some, [], if◌then◌else◌, is_some, not, ℕ, ◌&&◌, ◌+◌, ◌||◌, ◌∷◌}
use Rattle.typed_tree.specs.Decoded.{TypedPart, as_iteration}
use Rattle.name_rules.specs.Reducers.{by_function, by_operator, by_subtypes, folded_by, is_logical, numeric, of_kind, open_reduction, reduced, reduction, logical_kind}
use Rattle.std.proofs.Common.{arith}
use Rattle.name_laws.proofs.Walk.{k-read}
use Rattle.name_scopes.proofs.SpendsFound.{z-opened, z-scalar}
use Rattle.name_scopes.proofs.SpendsOperators.{z-open_of}
use Rattle.name_scopes.proofs.SpendsValues.{s-asked}
use Rattle.name_scopes.proofs.Leaving.{leaving}
use Rattle.name_scopes.proofs.Measures.{counted-by, maybe-known, maybe-part, part-measure, part-size, second-of, with-part}
use Rattle.name_scopes.proofs.Parts.{n-chunk, n-expr, n-iteration}
use Rattle.name_scopes.proofs.Records.{site-of}
use Rattle.name_scopes.proofs.Spends.{Holds, Spends, h-joined, s-bind, s-both, s-fault, s-if, s-le, s-pure, s-some, s-then}
use Rattle.name_scopes.proofs.Tallies.{Tally, in_expr, in_way}

-- an iteration of a reduction, which may go backwards
abbrev pub turning : Tally → TypedPart → ℕ
turning which p = part-size which p + in_way which (as_iteration p)

pub z-reduction : (which : Tally) (x0 : Going) (x1 : TypedPart) (x2 : TypedPart) (x3 : Reducer) (x4 : TypedPart) (x5 : TypedPart) → (site-of which).Whole x0.site → (part-measure which).Whole x1 → (part-measure which).Whole x2 → (part-measure which).Whole x4 → (part-measure which).Whole x5 → Holds (counted-by (λ x. in_expr which x)) ((site-of which).size x0.site + part-size which x1 + turning which x2 + part-size which x4 + part-size which x5) (reduction x0 x1 x2 x3 x4 x5)
z-reduction which g c i r value initial h0-site h1 h2 h4 h5 = (tt, omega (arith, n-expr which initial, n-chunk which c, n-iteration which i, n-expr which value))

pub s-reduced : (which : Tally) (x0 : Going) (x1 : TypedPart) (x2 : TypedPart) (x3 : Kind) (x4 : Kind) (x5 : Reducer) (x6 : Found) (x7 : Found) → (site-of which).Whole x0.site → (part-measure which).Whole x1 → (part-measure which).Whole x2 → (with-part which).Whole x6 → (with-part which).Whole x7 → Spends which (maybe-known which) ((site-of which).size x0.site + part-size which x1 + turning which x2 + part-size which x6.part + part-size which x7.part) (reduced x0 x1 x2 x3 x4 x5 x6 x7)
unfolding reduced
s-reduced which g c i k j r x v h0-site h1 h2 h6 h7 =
    s-bind which (maybe-part which) (maybe-known which) (part-size which x.part) (part-size which v.part + (site-of which).size g.site + part-size which c + turning which i) _ (asked k x) _ (s-le which (maybe-part which) _ _ _ (s-asked which k x h6) (omega arith)) (omega arith) (λ e held1.
    s-bind which (maybe-part which) (maybe-known which) (part-size which v.part) ((maybe-part which).size e + (site-of which).size g.site + part-size which c + turning which i) _ (asked j v) _ (s-le which (maybe-part which) _ _ _ (s-asked which j v h7) (omega arith)) (omega arith) (λ f held2.
    s-both which (part-measure which) (part-measure which) (with-part which) ((site-of which).size g.site + part-size which c + turning which i) _ e f _ held1 held2 (omega arith) (λ value held3 initial held4.
    s-some which (with-part which) _ (scalar g.at j None (reduction g c i r value initial)) (let made5 = z-reduction which g c i r value initial h0-site h1 h2 held3 held4 in
    let made6 = z-scalar which g.at j None (reduction g c i r value initial) made5.0 in
    (made6.0, omega (arith, made6.1, made5.1))))))

pub z-open_reduction : (which : Tally) (x0 : Going) (x1 : TypedPart) (x2 : TypedPart) (x3 : ℕ) (x4 : Op) (x5 : Limits × TypedPart) (x6 : Limits × TypedPart) → (site-of which).Whole x0.site → (part-measure which).Whole x1 → (part-measure which).Whole x2 → (part-measure which).Whole x5.1 → (part-measure which).Whole x6.1 → Holds (with-part which) ((site-of which).size x0.site + part-size which x1 + turning which x2 + part-size which x5.1 + part-size which x6.1) (open_reduction x0 x1 x2 x3 x4 x5 x6)
z-open_reduction which g c i at o x v h0-site h1 h2 h5-1 h6-1 =
    let made1 = z-reduction which g c i (reducer'.Operator at o class.Universal) x.1 v.1 h0-site h1 h2 h5-1 h6-1 in
    let made2 = z-opened which g.at (joint x.0 v.0) (reduction g c i (reducer'.Operator at o class.Universal) x.1 v.1) made1.0 in
    (made2.0, omega (arith, made2.1, made1.1))

pub s-of_kind : (which : Tally) (x0 : Going) (x1 : TypedPart) (x2 : TypedPart) (x3 : ℕ) (x4 : Op) (x5 : Kind) (x6 : Found) (x7 : Found) → (site-of which).Whole x0.site → (part-measure which).Whole x1 → (part-measure which).Whole x2 → (with-part which).Whole x6 → (with-part which).Whole x7 → Spends which (maybe-known which) ((site-of which).size x0.site + part-size which x1 + turning which x2 + part-size which x6.part + part-size which x7.part) (of_kind x0 x1 x2 x3 x4 x5 x6 x7)
s-of_kind which g c i at o k x v h0-site h1 h2 h6 h7 =
    s-if which (maybe-known which) _ (suits k x.known && suits k v.known) (reduced g c i k k (reducer'.Operator at o (class_of k)) x v) (fault at ReduceRule)
    (s-le which (maybe-known which) _ _ _ (s-reduced which g c i k k (reducer'.Operator at o (class_of k)) x v h0-site h1 h2 h6 h7) (omega arith))
    (s-fault which (with-part which) _ at ReduceRule)

pub s-numeric : (which : Tally) (x0 : Going) (x1 : TypedPart) (x2 : TypedPart) (x3 : ℕ) (x4 : Op) (x5 : Found) (x6 : Found) (x7 : Option Kind) (x8 : Option Kind) → (site-of which).Whole x0.site → (part-measure which).Whole x1 → (part-measure which).Whole x2 → (with-part which).Whole x5 → (with-part which).Whole x6 → Spends which (maybe-known which) ((site-of which).size x0.site + part-size which x1 + turning which x2 + part-size which x5.part + part-size which x6.part) (numeric x0 x1 x2 x3 x4 x5 x6 x7 x8)
s-numeric which g c i at o x v None None h0-site h1 h2 h5 h6 =
    s-pure which (maybe-known which) _ (joined (open_reduction g c i at o) (open_of x) (open_of v)) (let made4 = z-open_of which x h5 in
    let made5 = z-open_of which v h6 in
    let made6 = h-joined (second-of (part-measure which)) (second-of (part-measure which)) (with-part which) ((site-of which).size g.site + part-size which c + turning which i) (open_reduction g c i at o) (open_of x) (open_of v) made4.0 made5.0 (λ one held1 other held2. let made3 = z-open_reduction which g c i at o one other h0-site h1 h2 held1 held2 in
    (made3.0, omega (arith, made3.1))) in
    (made6.0, omega (arith, made6.1, made4.1, made5.1)))
s-numeric which g c i at o x v (Some k) any1 h0-site h1 h2 h5 h6 = s-le which (maybe-known which) _ _ _ (s-of_kind which g c i at o k x v h0-site h1 h2 h5 h6) (omega arith)
s-numeric which g c i at o x v None (Some k) h0-site h1 h2 h5 h6 = s-le which (maybe-known which) _ _ _ (s-of_kind which g c i at o k x v h0-site h1 h2 h5 h6) (omega arith)

pub s-by_operator : (which : Tally) (x0 : Going) (x1 : TypedPart) (x2 : TypedPart) (x3 : ℕ) (x4 : Op) (x5 : Found) (x6 : Found) → (site-of which).Whole x0.site → (part-measure which).Whole x1 → (part-measure which).Whole x2 → (with-part which).Whole x5 → (with-part which).Whole x6 → Spends which (maybe-known which) ((site-of which).size x0.site + part-size which x1 + turning which x2 + part-size which x5.part + part-size which x6.part) (by_operator x0 x1 x2 x3 x4 x5 x6)
s-by_operator which g c i at o x v h0-site h1 h2 h5 h6 =
    s-if which (maybe-known which) _ (is_logical o) (of_kind g c i at o (logical_kind (kind_of x.known) (kind_of v.known)) x v) (if is_number x.known && is_number v.known then numeric g c i at o x v (kind_of x.known) (kind_of v.known) else fault at ReduceRule)
    (s-le which (maybe-known which) _ _ _ (s-of_kind which g c i at o (logical_kind (kind_of x.known) (kind_of v.known)) x v h0-site h1 h2 h5 h6) (omega arith))
    (s-if which (maybe-known which) _ (is_number x.known && is_number v.known) (numeric g c i at o x v (kind_of x.known) (kind_of v.known)) (fault at ReduceRule)
    (s-le which (maybe-known which) _ _ _ (s-numeric which g c i at o x v (kind_of x.known) (kind_of v.known) h0-site h1 h2 h5 h6) (omega arith))
    (s-fault which (with-part which) _ at ReduceRule))

pub s-by_subtypes : (which : Tally) (x0 : Going) (x1 : TypedPart) (x2 : TypedPart) (x3 : ℕ) (x4 : ℕ) (x5 : Kind) (x6 : Subtype) (x7 : Subtype) (x8 : Found) (x9 : Found) → (site-of which).Whole x0.site → (part-measure which).Whole x1 → (part-measure which).Whole x2 → (with-part which).Whole x8 → (with-part which).Whole x9 → Spends which (maybe-known which) ((site-of which).size x0.site + part-size which x1 + turning which x2 + part-size which x8.part + part-size which x9.part) (by_subtypes x0 x1 x2 x3 x4 x5 x6 x7 x8 x9)
s-by_subtypes which g c i at n result (subtype.Scalar a) (subtype.Scalar b) x v h0-site h1 h2 h8 h9 =
    s-if which (maybe-known which) _ (same result a.kind && suits b.kind x.known && suits a.kind v.known && (not (is_some g.site) || same a.kind b.kind)) (reduced g c i b.kind a.kind (reducer'.Function at n (typed_scalar a) (typed_scalar b)) x v) (fault at ReduceRule)
    (s-le which (maybe-known which) _ _ _ (s-reduced which g c i b.kind a.kind (reducer'.Function at n (typed_scalar a) (typed_scalar b)) x v h0-site h1 h2 h8 h9) (omega arith))
    (s-fault which (with-part which) _ at ReduceRule)
s-by_subtypes which g c i at n result any1 any2 x v h0-site h1 h2 h8 h9 = s-fault which (with-part which) _ at ReduceRule

pub s-by_function : (which : Tally) (x0 : Going) (x1 : TypedPart) (x2 : TypedPart) (x3 : ℕ) (x4 : ℕ) (x5 : List Taken) (x6 : Option Scalar) (x7 : Found) (x8 : Found) → (site-of which).Whole x0.site → (part-measure which).Whole x1 → (part-measure which).Whole x2 → (with-part which).Whole x7 → (with-part which).Whole x8 → Spends which (maybe-known which) ((site-of which).size x0.site + part-size which x1 + turning which x2 + part-size which x7.part + part-size which x8.part) (by_function x0 x1 x2 x3 x4 x5 x6 x7 x8)
s-by_function which g c i at n (a ∷ b ∷ []) (Some s) x v h0-site h1 h2 h7 h8 = s-le which (maybe-known which) _ _ _ (s-by_subtypes which g c i at n s.kind a.subtype b.subtype x v h0-site h1 h2 h7 h8) (omega arith)
s-by_function which g c i at n ts s x v h0-site h1 h2 h7 h8 = s-fault which (with-part which) _ at ReduceRule

pub s-folded_by : (which : Tally) (x0 : Going) (x1 : TypedPart) (x2 : TypedPart) (x3 : Folding) (x4 : Found) (x5 : Found) → (site-of which).Whole x0.site → (part-measure which).Whole x1 → (part-measure which).Whole x2 → (with-part which).Whole x4 → (with-part which).Whole x5 → Spends which (maybe-known which) ((site-of which).size x0.site + part-size which x1 + turning which x2 + part-size which x4.part + part-size which x5.part) (folded_by x0 x1 x2 x3 x4 x5)
unfolding folded_by
s-folded_by which g c i (folding.Operator at o) x v h0-site h1 h2 h4 h5 = s-le which (maybe-known which) _ _ _ (s-by_operator which g c i at o x v h0-site h1 h2 h4 h5) (omega arith)
s-folded_by which g c i (folding.Extreme at o s) x v h0-site h1 h2 h4 h5 = s-le which (maybe-known which) _ _ _ (s-of_kind which g c i at o s.kind x v h0-site h1 h2 h4 h5) (omega arith)
s-folded_by which g c i (folding.Function at n) x v h0-site h1 h2 h4 h5 =
    s-then which (maybe-known which) _ (read (λ log. profile_in log n)) _ (k-read leaving (λ log. profile_in log n)) (λ p.
    s-le which (maybe-known which) _ _ _ (s-by_function which g c i at n (takes_in p) (gives_in p) x v h0-site h1 h2 h4 h5) (omega arith))
