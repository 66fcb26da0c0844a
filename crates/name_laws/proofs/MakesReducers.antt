-- What is found fits: reductions.
use Rattle.std.proofs.Common.{◌≡◌, refl, sym, subst, ℕ, List, [], ◌∷◌, Option, Some, None, ◌&&◌}
use Rattle.typed_tree.specs.Classes.{beyond_digits}
use Rattle.std.specs.Prelude.{is_some, not, ◌||◌}
use Rattle.ada_base.specs.declared.operation.Op.{Op}
use Rattle.typed_tree.specs.Decoded.{TypedPart, as_chunk, as_expr, as_iteration}
use Rattle.typed_tree.specs.declared.expressions.Reducer.{Reducer}
use Rattle.typed_tree.specs.declared.expressions.Reducer.TheVariants as reducer'
use Rattle.name_rules.specs.Calls.{gives_in, profile_in, takes_in}
use Rattle.name_rules.specs.Found.{Found, scalar}
use Rattle.name_rules.specs.Judging.{fault, joined, read}
use Rattle.name_rules.specs.Operators.{open_of}
use Rattle.name_rules.specs.Reducers.{by_function, by_operator, by_subtypes, folded_by, is_logical, numeric, of_kind, open_reduction, reduced, reduction, logical_kind}
use Rattle.name_rules.specs.Types.{class_of, same, typed_scalar}
use Rattle.name_rules.specs.Values.{asked, is_number, kind_of, suits}
use Rattle.name_rules.specs.declared.found.Folding.{Folding}
use Rattle.name_rules.specs.declared.found.Folding.TheVariants as folding
use Rattle.name_rules.specs.declared.found.Going.{Going}
use Rattle.name_rules.specs.declared.found.Limits.{Limits}
use Rattle.name_rules.specs.declared.log.Rule.TheVariants.{ReduceRule}
use Rattle.name_rules.specs.declared.log.Taken.{Taken}
use Rattle.name_rules.specs.declared.types.Kind.{Kind}
use Rattle.name_rules.specs.declared.types.Scalar.{Scalar}
use Rattle.name_rules.specs.declared.types.Subtype.{Subtype}
use Rattle.name_rules.specs.declared.types.Subtype.TheVariants as subtype
use Rattle.name_laws.proofs.Makes.{Any, Makes, Maybe, joint, m-bind, m-both, m-fault, m-if, m-pure, m-read, m-some}
use Rattle.name_laws.proofs.MakesOperators.{OpenOf, joint-none, open-found, sooner-none}
use Rattle.name_laws.proofs.MakesValues.{AskedOf, FoundOf, is-typed, m-asked}
use Rattle.name_laws.specs.Classes.{ChunkFits, ExprFits, IsTyped, IterationFits, initial_class, value_class}

-- what a reduction goes through fits
abbrev pub ChunkOf : TypedPart → Type 0
ChunkOf c = ChunkFits (as_chunk c)

abbrev pub IterationOf : TypedPart → Type 0
IterationOf i = IterationFits (as_iteration i)

m-reduced : (g : Going) (c i : TypedPart) (k j : Kind) (r : Reducer) (x v : Found) → ChunkOf c → IterationOf i → value_class r ≡ class_of k → initial_class r ≡ class_of j → FoundOf x → FoundOf v → Makes (Maybe FoundOf) (reduced g c i k j r x v)
unfolding reduced
m-reduced g c i k j r x v p q a b s t =
    m-bind (Maybe (AskedOf k)) (Maybe FoundOf) (asked k x) _ (m-asked k x s) (λ e y.
    m-bind (Maybe (AskedOf j)) (Maybe FoundOf) (asked j v) _ (m-asked j v t) (λ f z.
    m-both (AskedOf k) (AskedOf j) FoundOf e f _ y z (λ value initial m n.
    m-some FoundOf (scalar g.at j None (reduction g c i r value initial))
    (subst IsTyped (sym a) (is-typed k), subst (λ d. ExprFits d (as_expr initial)) (sym b) n, p, q, subst (λ d. ExprFits d (as_expr value)) (sym a) m))))

open-reduction : (g : Going) (c i : TypedPart) (at : ℕ) (o : Op) (x v : Limits × TypedPart) → ChunkOf c → IterationOf i → OpenOf x → OpenOf v → FoundOf (open_reduction g c i at o x v)
open-reduction g c i at o x v p q s t k h e = let n = joint-none k x.0 v.0 _ (as_expr x.1) (as_expr v.1) (λ n q. let z = sooner-none (beyond_digits n (as_expr x.1)) (beyond_digits n (as_expr v.1)) q in z) e in (is-typed k, t k h n.1, p, q, s k h n.0)

m-of_kind : (g : Going) (c i : TypedPart) (at : ℕ) (o : Op) (k : Kind) (x v : Found) → ChunkOf c → IterationOf i → FoundOf x → FoundOf v → Makes (Maybe FoundOf) (of_kind g c i at o k x v)
m-of_kind g c i at o k x v p q s t =
    m-if (Maybe FoundOf) (suits k x.known && suits k v.known) (reduced g c i k k (reducer'.Operator at o (class_of k)) x v) (fault at ReduceRule)
    (m-reduced g c i k k (reducer'.Operator at o (class_of k)) x v p q refl refl s t) (m-fault FoundOf at ReduceRule)

m-numeric : (g : Going) (c i : TypedPart) (at : ℕ) (o : Op) (x v : Found) (k j : Option Kind) → ChunkOf c → IterationOf i → FoundOf x → FoundOf v → Makes (Maybe FoundOf) (numeric g c i at o x v k j)
m-numeric g c i at o x v None None p q s t =
    m-pure (Maybe FoundOf) (joined (open_reduction g c i at o) (open_of x) (open_of v)) (joint OpenOf OpenOf FoundOf (open_reduction g c i at o) (open_of x) (open_of v) (open-found x s) (open-found v t) (λ a b m n. open-reduction g c i at o a b p q m n))
m-numeric g c i at o x v (Some k) j p q s t = m-of_kind g c i at o k x v p q s t
m-numeric g c i at o x v None (Some k) p q s t = m-of_kind g c i at o k x v p q s t

m-by_operator : (g : Going) (c i : TypedPart) (at : ℕ) (o : Op) (x v : Found) → ChunkOf c → IterationOf i → FoundOf x → FoundOf v → Makes (Maybe FoundOf) (by_operator g c i at o x v)
m-by_operator g c i at o x v p q s t =
    m-if (Maybe FoundOf) (is_logical o) (of_kind g c i at o (logical_kind (kind_of x.known) (kind_of v.known)) x v) _ (m-of_kind g c i at o (logical_kind (kind_of x.known) (kind_of v.known)) x v p q s t)
    (m-if (Maybe FoundOf) (is_number x.known && is_number v.known) (numeric g c i at o x v (kind_of x.known) (kind_of v.known)) (fault at ReduceRule) (m-numeric g c i at o x v (kind_of x.known) (kind_of v.known) p q s t) (m-fault FoundOf at ReduceRule))

m-by_subtypes : (g : Going) (c i : TypedPart) (at n : ℕ) (result : Kind) (a b : Subtype) (x v : Found) → ChunkOf c → IterationOf i → FoundOf x → FoundOf v → Makes (Maybe FoundOf) (by_subtypes g c i at n result a b x v)
m-by_subtypes g c i at n result (subtype.Scalar a) (subtype.Scalar b) x v p q s t =
    m-if (Maybe FoundOf) (same result a.kind && suits b.kind x.known && suits a.kind v.known && (not (is_some g.site) || same a.kind b.kind))
    (reduced g c i b.kind a.kind (reducer'.Function at n (typed_scalar a) (typed_scalar b)) x v) (fault at ReduceRule)
    (m-reduced g c i b.kind a.kind (reducer'.Function at n (typed_scalar a) (typed_scalar b)) x v p q refl refl s t) (m-fault FoundOf at ReduceRule)
m-by_subtypes g c i at n result a b x v p q s t = m-fault FoundOf at ReduceRule

m-by_function : (g : Going) (c i : TypedPart) (at n : ℕ) (ts : List Taken) (r : Option Scalar) (x v : Found) → ChunkOf c → IterationOf i → FoundOf x → FoundOf v → Makes (Maybe FoundOf) (by_function g c i at n ts r x v)
m-by_function g c i at n (a ∷ b ∷ []) (Some r) x v p q s t = m-by_subtypes g c i at n r.kind a.subtype b.subtype x v p q s t
m-by_function g c i at n ts r x v p q s t = m-fault FoundOf at ReduceRule

pub m-folded_by : (g : Going) (c i : TypedPart) (f : Folding) (x v : Found) → ChunkOf c → IterationOf i → FoundOf x → FoundOf v → Makes (Maybe FoundOf) (folded_by g c i f x v)
unfolding folded_by
m-folded_by g c i (folding.Operator at o) x v p q s t = m-by_operator g c i at o x v p q s t
m-folded_by g c i (folding.Extreme at o r) x v p q s t = m-of_kind g c i at o r.kind x v p q s t
m-folded_by g c i (folding.Function at n) x v p q s t = m-bind Any (Maybe FoundOf) (read (λ log. profile_in log n)) _ (m-read Any (λ log. profile_in log n) (λ log h. tt)) (λ y z. m-by_function g c i at n (takes_in y) (gives_in y) x v p q s t)
