-- What holds of each line of the log holds of what Reducers judges.
use Rattle.ada_base.specs.declared.operation.Op.{Op}
use Rattle.name_rules.specs.Calls.{gives_in, profile_in, takes_in}
use Rattle.name_rules.specs.Expressions.{Inside, judged_alone}
use Rattle.syntax_tree.specs.FirstTokens as first_token
use Rattle.name_rules.specs.Found.{Found, scalar}
use Rattle.name_rules.specs.Operators.{open_of}
use Rattle.name_rules.specs.Scope.{stands_for}
use Rattle.name_rules.specs.Shapes.{primary_of_expr}
use Rattle.name_rules.specs.Symbols.{text}
use Rattle.name_rules.specs.Types.{class_of, same, typed_scalar}
use Rattle.name_rules.specs.Values.{asked, is_number, kind_of, suits}
use Rattle.name_rules.specs.declared.found.Denoted.TheVariants as denoted
use Rattle.name_rules.specs.declared.found.Denoted.{Denoted as KnownDenoted}
use Rattle.name_rules.specs.declared.found.Folding.TheVariants as folding
use Rattle.name_rules.specs.declared.found.Folding.{Folding}
use Rattle.name_rules.specs.declared.found.Going.{Going}
use Rattle.name_rules.specs.declared.log.Rule.TheVariants.{ReduceRule}
use Rattle.name_rules.specs.declared.log.Taken.{Taken}
use Rattle.name_rules.specs.declared.scope.Context.{Context}
use Rattle.name_rules.specs.declared.scope.Names.{Names}
use Rattle.name_rules.specs.declared.types.Kind.{Kind}
use Rattle.name_rules.specs.declared.types.Scalar.{Scalar}
use Rattle.name_rules.specs.declared.types.Subtype.TheVariants as subtype
use Rattle.name_rules.specs.declared.types.Subtype.{Subtype}
use Rattle.syntax_tree.specs.Syntax as syntax
use Rattle.syntax_tree.specs.Syntax.{Expr, NameParts, Primary}
use Rattle.typed_tree.specs.declared.expressions.Reducer.TheVariants as reducer'
use Rattle.typed_tree.specs.declared.expressions.Reducer.{Reducer}
use Rattle.std.specs.Prelude.{List, None, Option, Some, [], if◌then◌else◌, is_some, not, ℕ, ◌&&◌, ◌||◌, ◌∷◌}
use Rattle.typed_tree.specs.Decoded.{TypedPart}
use Rattle.name_rules.specs.Judging.{fault, given, joined, read, some}
use Rattle.name_rules.specs.Reducers.{operators, operator_named, operator_reducer, extreme_of, function_given, function_of, no_reducer, extreme_name, attribute_reducer, name_reducer, reducer_by, reducer_of, reduction, reduced, open_reduction, is_logical, of_kind, numeric, by_operator, by_subtypes, by_function, folded_by, logical_kind}
use Rattle.name_laws.proofs.Walk.{Walk, Keeps, k-pure, k-some, k-bind, k-fault, k-read, k-if, k-given, k-both, k-where_clean}
use Rattle.name_laws.proofs.Walked.{KeepsInside}
use Rattle.name_laws.proofs.KeepsExpressions.{k-judged_alone}
use Rattle.name_laws.proofs.KeepsScope.{k-stands_for}
use Rattle.name_laws.proofs.KeepsValues.{k-asked}

pub k-operator_reducer : (walk : Walk) (x0 : ℕ) (x1 : Option Op) → Keeps walk (operator_reducer x0 x1)
k-operator_reducer walk at None = k-fault walk at ReduceRule
k-operator_reducer walk at (Some o) = k-some walk (folding.Operator at o)

pub k-extreme_of : (walk : Walk) (x0 : ℕ) (x1 : Op) (x2 : KnownDenoted) → Keeps walk (extreme_of x0 x1 x2)
k-extreme_of walk at o (denoted.Type first (subtype.Scalar s)) = k-some walk (folding.Extreme at o s)
k-extreme_of walk at o d = k-fault walk at ReduceRule

pub k-function_given : (walk : Walk) (x0 : ℕ) (x1 : ℕ) (x2 : Option Scalar) → Keeps walk (function_given x0 x1 x2)
k-function_given walk at n None = k-fault walk at ReduceRule
k-function_given walk at n (Some s) = k-some walk (folding.Function at n)

pub k-function_of : (walk : Walk) (x0 : ℕ) (x1 : KnownDenoted) → Keeps walk (function_of x0 x1)
k-function_of walk at (denoted.Sub first last n) = k-bind walk (read (λ log. gives_in (profile_in log n))) (function_given at n) (k-read walk (λ log. gives_in (profile_in log n))) (λ z2. k-function_given walk at n z2)
k-function_of walk at d = k-fault walk at ReduceRule

pub k-no_reducer : (walk : Walk) (x0 : Names) (x1 : Inside) (x2 : Context) (x3 : Expr) → walk.Takes x0 → KeepsInside walk x1 → Keeps walk (no_reducer x0 x1 x2 x3)
k-no_reducer walk names inside here e keeps1 keeps2 = k-where_clean walk (judged_alone names inside here e) (λ u. fault (first_token.of_expr e) ReduceRule) (k-judged_alone walk names inside here e keeps1 keeps2) (λ u. k-fault walk (first_token.of_expr e) ReduceRule)

pub k-attribute_reducer : (walk : Walk) (x0 : Names) (x1 : Inside) (x2 : Context) (x3 : Expr) (x4 : ℕ) (x5 : Option Op) → walk.Takes x0 → KeepsInside walk x1 → Keeps walk (attribute_reducer x0 x1 x2 x3 x4 x5)
k-attribute_reducer walk names inside here e first None keeps1 keeps2 = k-no_reducer walk names inside here e keeps1 keeps2
k-attribute_reducer walk names inside here e first (Some o) keeps1 keeps2 = k-bind walk (stands_for names here first) (λ d. given d (λ x. extreme_of first o x.known)) (k-stands_for walk names here first keeps1) (λ d. k-given walk d (λ x. extreme_of first o x.known) (λ x. k-extreme_of walk first o x.known))

pub k-name_reducer : (walk : Walk) (x0 : Names) (x1 : Inside) (x2 : Context) (x3 : Expr) (x4 : ℕ) (x5 : NameParts) → walk.Takes x0 → KeepsInside walk x1 → Keeps walk (name_reducer x0 x1 x2 x3 x4 x5)
k-name_reducer walk names inside here e first syntax.NoPart keeps1 keeps2 = k-bind walk (stands_for names here first) (λ d. given d (λ x. function_of first x.known)) (k-stands_for walk names here first keeps1) (λ d. k-given walk d (λ x. function_of first x.known) (λ x. k-function_of walk first x.known))
k-name_reducer walk names inside here e first (syntax.AlsoPart (syntax.Attribute at) syntax.NoPart) keeps1 keeps2 = k-attribute_reducer walk names inside here e first (extreme_name names at) keeps1 keeps2
k-name_reducer walk names inside here e first ps keeps1 keeps2 = k-no_reducer walk names inside here e keeps1 keeps2

pub k-reducer_by : (walk : Walk) (x0 : Names) (x1 : Inside) (x2 : Context) (x3 : Expr) (x4 : Option Primary) → walk.Takes x0 → KeepsInside walk x1 → Keeps walk (reducer_by x0 x1 x2 x3 x4)
k-reducer_by walk names inside here e (Some (syntax.Text at)) keeps1 keeps2 = k-operator_reducer walk at (operator_named (text names at) operators)
k-reducer_by walk names inside here e (Some (syntax.Named (syntax.name first ps))) keeps1 keeps2 = k-name_reducer walk names inside here e first ps keeps1 keeps2
k-reducer_by walk names inside here e p keeps1 keeps2 = k-no_reducer walk names inside here e keeps1 keeps2

pub k-reducer_of : (walk : Walk) (x0 : Names) (x1 : Inside) (x2 : Context) (x3 : Expr) → walk.Takes x0 → KeepsInside walk x1 → Keeps walk (reducer_of x0 x1 x2 x3)
unfolding reducer_of
k-reducer_of walk names inside here e keeps1 keeps2 = k-reducer_by walk names inside here e (primary_of_expr e) keeps1 keeps2

pub k-reduced : (walk : Walk) (x0 : Going) (x1 : TypedPart) (x2 : TypedPart) (x3 : Kind) (x4 : Kind) (x5 : Reducer) (x6 : Found) (x7 : Found) → Keeps walk (reduced x0 x1 x2 x3 x4 x5 x6 x7)
unfolding reduced
k-reduced walk g c i k j r x v = record {
  at = λ log.
      let out1 = asked k x log in
      let e = out1.0 in
      let out2 = asked j v out1.1 in
      let f = out2.0 in
      walk.joins _ _ _ ((k-asked walk k x).at log)
      (walk.joins _ _ _ ((k-asked walk j v).at out1.1)
      ((k-both walk e f (λ value initial. some (scalar g.at j None (reduction g c i r value initial))) (λ value initial. k-some walk (scalar g.at j None (reduction g c i r value initial)))).at out2.1));
}

pub k-of_kind : (walk : Walk) (x0 : Going) (x1 : TypedPart) (x2 : TypedPart) (x3 : ℕ) (x4 : Op) (x5 : Kind) (x6 : Found) (x7 : Found) → Keeps walk (of_kind x0 x1 x2 x3 x4 x5 x6 x7)
k-of_kind walk g c i at o k x v = k-if walk (suits k x.known && suits k v.known) (reduced g c i k k (reducer'.Operator at o (class_of k)) x v) (fault at ReduceRule) (k-reduced walk g c i k k (reducer'.Operator at o (class_of k)) x v) (k-fault walk at ReduceRule)

pub k-numeric : (walk : Walk) (x0 : Going) (x1 : TypedPart) (x2 : TypedPart) (x3 : ℕ) (x4 : Op) (x5 : Found) (x6 : Found) (x7 : Option Kind) (x8 : Option Kind) → Keeps walk (numeric x0 x1 x2 x3 x4 x5 x6 x7 x8)
k-numeric walk g c i at o x v None None = k-pure walk (joined (open_reduction g c i at o) (open_of x) (open_of v))
k-numeric walk g c i at o x v (Some k) _ = k-of_kind walk g c i at o k x v
k-numeric walk g c i at o x v None (Some k) = k-of_kind walk g c i at o k x v

pub k-by_operator : (walk : Walk) (x0 : Going) (x1 : TypedPart) (x2 : TypedPart) (x3 : ℕ) (x4 : Op) (x5 : Found) (x6 : Found) → Keeps walk (by_operator x0 x1 x2 x3 x4 x5 x6)
k-by_operator walk g c i at o x v = k-if walk (is_logical o) (of_kind g c i at o (logical_kind (kind_of x.known) (kind_of v.known)) x v) (if is_number x.known && is_number v.known then numeric g c i at o x v (kind_of x.known) (kind_of v.known) else fault at ReduceRule) (k-of_kind walk g c i at o (logical_kind (kind_of x.known) (kind_of v.known)) x v) (k-if walk (is_number x.known && is_number v.known) (numeric g c i at o x v (kind_of x.known) (kind_of v.known)) (fault at ReduceRule) (k-numeric walk g c i at o x v (kind_of x.known) (kind_of v.known)) (k-fault walk at ReduceRule))

pub k-by_subtypes : (walk : Walk) (x0 : Going) (x1 : TypedPart) (x2 : TypedPart) (x3 : ℕ) (x4 : ℕ) (x5 : Kind) (x6 : Subtype) (x7 : Subtype) (x8 : Found) (x9 : Found) → Keeps walk (by_subtypes x0 x1 x2 x3 x4 x5 x6 x7 x8 x9)
k-by_subtypes walk g c i at n result (subtype.Scalar a) (subtype.Scalar b) x v = k-if walk (same result a.kind && suits b.kind x.known && suits a.kind v.known && (not (is_some g.site) || same a.kind b.kind)) (reduced g c i b.kind a.kind (reducer'.Function at n (typed_scalar a) (typed_scalar b)) x v) (fault at ReduceRule) (k-reduced walk g c i b.kind a.kind (reducer'.Function at n (typed_scalar a) (typed_scalar b)) x v) (k-fault walk at ReduceRule)
k-by_subtypes walk g c i at n result _ _ x v = k-fault walk at ReduceRule

pub k-by_function : (walk : Walk) (x0 : Going) (x1 : TypedPart) (x2 : TypedPart) (x3 : ℕ) (x4 : ℕ) (x5 : List Taken) (x6 : Option Scalar) (x7 : Found) (x8 : Found) → Keeps walk (by_function x0 x1 x2 x3 x4 x5 x6 x7 x8)
k-by_function walk g c i at n (a ∷ b ∷ []) (Some s) x v = k-by_subtypes walk g c i at n s.kind a.subtype b.subtype x v
k-by_function walk g c i at n ts s x v = k-fault walk at ReduceRule

pub k-folded_by : (walk : Walk) (x0 : Going) (x1 : TypedPart) (x2 : TypedPart) (x3 : Folding) (x4 : Found) (x5 : Found) → Keeps walk (folded_by x0 x1 x2 x3 x4 x5)
unfolding folded_by
k-folded_by walk g c i (folding.Operator at o) x v = k-by_operator walk g c i at o x v
k-folded_by walk g c i (folding.Extreme at o s) x v = k-of_kind walk g c i at o s.kind x v
k-folded_by walk g c i (folding.Function at n) x v = k-bind walk (read (λ log. profile_in log n)) (λ p. by_function g c i at n (takes_in p) (gives_in p) x v) (k-read walk (λ log. profile_in log n)) (λ p. k-by_function walk g c i at n (takes_in p) (gives_in p) x v)
