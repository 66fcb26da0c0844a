-- What a reduction folds by, and the rules that its reducer, its values and its initial value keep (4.5.10).
use Rattle.ada_base.specs.Folding.{folded}
use Rattle.ada_base.specs.declared.operation.Op.TheVariants as op
use Rattle.ada_base.specs.declared.operation.Op.{Op}
use Rattle.name_rules.specs.Calls.{gives_in, profile_in, takes_in}
use Rattle.name_rules.specs.Expressions.{Inside, judged_alone}
use Rattle.syntax_tree.specs.FirstTokens as first_token
use Rattle.name_rules.specs.Found.{Found, opened, scalar}
use Rattle.name_rules.specs.Judging.{Judging, both, fault, given, joined, pure, read, some, where_clean, ◌>>=◌}
use Rattle.name_rules.specs.Operators.{open_of}
use Rattle.name_rules.specs.Scope.{stands_for}
use Rattle.name_rules.specs.Shapes.{primary_of_expr}
use Rattle.name_rules.specs.Symbols.{max_name, min_name, symbol, text}
use Rattle.name_rules.specs.Types.{class_of, is_modular, same, typed_scalar}
use Rattle.name_rules.specs.Values.{asked, is_number, joint, kind_of, suits}
use Rattle.name_rules.specs.declared.found.Denoted.TheVariants as denoted
use Rattle.name_rules.specs.declared.found.Denoted.{Denoted as KnownDenoted}
use Rattle.name_rules.specs.declared.found.Folding.TheVariants as folding
use Rattle.name_rules.specs.declared.found.Folding.{Folding}
use Rattle.name_rules.specs.declared.found.Going.{Going}
use Rattle.name_rules.specs.declared.found.Limits.{Limits}
use Rattle.name_rules.specs.declared.log.Rule.TheVariants.{ReduceRule}
use Rattle.name_rules.specs.declared.log.Taken.{Taken}
use Rattle.name_rules.specs.declared.scope.Context.{Context}
use Rattle.name_rules.specs.declared.scope.Names.{Names}
use Rattle.name_rules.specs.declared.types.Kind.TheVariants as kind
use Rattle.name_rules.specs.declared.types.Kind.{Kind}
use Rattle.name_rules.specs.declared.types.Scalar.{Scalar}
use Rattle.name_rules.specs.declared.types.Subtype.TheVariants as subtype
use Rattle.name_rules.specs.declared.types.Subtype.{Subtype}
use Rattle.syntax_tree.specs.Syntax as syntax
use Rattle.syntax_tree.specs.Syntax.{Expr, NameParts, Primary}
use Rattle.typed_tree.specs.Syntax as typed
use Rattle.typed_tree.specs.Syntax.{Expr as TypedExpr}
use Rattle.typed_tree.specs.declared.expressions.Reducer.TheVariants as reducer'
use Rattle.typed_tree.specs.declared.expressions.Reducer.{Reducer}
use Rattle.typed_tree.specs.declared.scalars.Class.TheVariants as class
use Rattle.std.specs.Prelude.{Bool, List, None, Option, Some, [], bytes_eq, codes, false, if◌then◌else◌, is_some, not, true, ℕ, ◌&&◌, ◌==◌, ◌||◌, ◌∷◌}
use Rattle.typed_tree.specs.Decoded.{TypedPart, as_expr, as_iteration, as_chunk}

-- ---- the reducer

-- operator strings ignore case
abbrev pub operators : List (List ℕ × Op)
operators =
    (codes "+", op.Add) ∷ (codes "-", op.Sub) ∷ (codes "*", op.Mul) ∷ (codes "/", op.Div) ∷ (codes "mod", op.Mod)
    ∷ (codes "rem", op.Rem) ∷ (codes "and", op.And) ∷ (codes "or", op.Or) ∷ (codes "xor", op.Xor) ∷ []

abbrev pub operator_named : List ℕ → List (List ℕ × Op) → Option Op
operator_named name [] = None
operator_named name (o ∷ os) = if bytes_eq (folded name) o.0 then Some o.1 else operator_named name os

abbrev pub operator_reducer : ℕ → Option Op → Judging (Option Folding)
operator_reducer at None = fault at ReduceRule
operator_reducer at (Some o) = some (folding.Operator at o)

abbrev pub extreme_of : ℕ → Op → KnownDenoted → Judging (Option Folding)
extreme_of at o (denoted.Type first (subtype.Scalar s)) = some (folding.Extreme at o s)
extreme_of at o d = fault at ReduceRule

abbrev pub function_given : ℕ → ℕ → Option Scalar → Judging (Option Folding)
function_given at n None = fault at ReduceRule
function_given at n (Some s) = some (folding.Function at n)

abbrev pub function_of : ℕ → KnownDenoted → Judging (Option Folding)
function_of at (denoted.Sub first last n) = read (λ log. gives_in (profile_in log n)) >>= function_given at n
function_of at d = fault at ReduceRule

-- an expression that is none of the three is judged for itself, and is no reducer
abbrev pub no_reducer : Names → Inside → Context → Expr → Judging (Option Folding)
no_reducer names inside here e = where_clean (judged_alone names inside here e) (λ u. fault (first_token.of_expr e) ReduceRule)

abbrev pub extreme_name : Names → ℕ → Option Op
extreme_name names at = if symbol names at == max_name then Some op.Max else if symbol names at == min_name then Some op.Min else None

abbrev pub attribute_reducer : Names → Inside → Context → Expr → ℕ → Option Op → Judging (Option Folding)
attribute_reducer names inside here e first None = no_reducer names inside here e
attribute_reducer names inside here e first (Some o) = stands_for names here first >>= λ d. given d (λ x. extreme_of first o x.known)

abbrev pub name_reducer : Names → Inside → Context → Expr → ℕ → NameParts → Judging (Option Folding)
name_reducer names inside here e first syntax.NoPart = stands_for names here first >>= λ d. given d (λ x. function_of first x.known)
name_reducer names inside here e first (syntax.AlsoPart (syntax.Attribute at) syntax.NoPart) = attribute_reducer names inside here e first (extreme_name names at)
name_reducer names inside here e first ps = no_reducer names inside here e

abbrev pub reducer_by : Names → Inside → Context → Expr → Option Primary → Judging (Option Folding)
reducer_by names inside here e (Some (syntax.Text at)) = operator_reducer at (operator_named (text names at) operators)
reducer_by names inside here e (Some (syntax.Named (syntax.name first ps))) = name_reducer names inside here e first ps
reducer_by names inside here e p = no_reducer names inside here e

-- E11 ReduceRule: a reducer that isn't one of these, at its first token
unfoldable pub reducer_of : Names → Inside → Context → Expr → Judging (Option Folding)
reducer_of names inside here e = reducer_by names inside here e (primary_of_expr e)

-- ---- values and initial value

-- what a reduction goes through: its chunk specification and its iteration
abbrev pub reduction : Going → TypedPart → TypedPart → Reducer → TypedPart → TypedPart → TypedExpr
reduction g c i r value initial = typed.Reduction g.at g.attribute r (as_expr initial) g.site (as_chunk c) (as_iteration i) (as_expr value)

unfoldable pub reduced : Going → TypedPart → TypedPart → Kind → Kind → Reducer → Found → Found → Judging (Option Found)
reduced g c i k j r x v = do
  e ← asked k x
  f ← asked j v
  both e f (λ value initial. some (scalar g.at j None (reduction g c i r value initial)))

-- a universal reduction by an operator
abbrev pub open_reduction : Going → TypedPart → TypedPart → ℕ → Op → Limits × TypedPart → Limits × TypedPart → Found
open_reduction g c i at o x v = opened g.at (joint x.0 v.0) (reduction g c i (reducer'.Operator at o class.Universal) x.1 v.1)

abbrev pub is_logical : Op → Bool
is_logical op.And = true
is_logical op.Or = true
is_logical op.Xor = true
is_logical _ = false

-- operators, Max and Min take values and an initial value of one type
abbrev pub of_kind : Going → TypedPart → TypedPart → ℕ → Op → Kind → Found → Found → Judging (Option Found)
of_kind g c i at o k x v = if suits k x.known && suits k v.known then reduced g c i k k (reducer'.Operator at o (class_of k)) x v else fault at ReduceRule

abbrev pub numeric : Going → TypedPart → TypedPart → ℕ → Op → Found → Found → Option Kind → Option Kind → Judging (Option Found)
numeric g c i at o x v None None = pure (joined (open_reduction g c i at o) (open_of x) (open_of v))
numeric g c i at o x v (Some k) _ = of_kind g c i at o k x v
numeric g c i at o x v None (Some k) = of_kind g c i at o k x v

abbrev pub modular_or : Option Kind → Kind → Kind
modular_or None j = j
modular_or (Some k) j = if is_modular k then k else j

-- logical operators take Booleans, or numbers of one modular type
abbrev pub logical_kind : Option Kind → Option Kind → Kind
logical_kind k j = modular_or k (modular_or j kind.Boolean)

abbrev pub by_operator : Going → TypedPart → TypedPart → ℕ → Op → Found → Found → Judging (Option Found)
by_operator g c i at o x v =
    if is_logical o then of_kind g c i at o (logical_kind (kind_of x.known) (kind_of v.known)) x v else
    if is_number x.known && is_number v.known then numeric g c i at o x v (kind_of x.known) (kind_of v.known) else fault at ReduceRule

-- a function takes an accumulator, which is its result, and a value; where it is parallel both are of one type
abbrev pub by_subtypes : Going → TypedPart → TypedPart → ℕ → ℕ → Kind → Subtype → Subtype → Found → Found → Judging (Option Found)
by_subtypes g c i at n result (subtype.Scalar a) (subtype.Scalar b) x v =
    if same result a.kind && suits b.kind x.known && suits a.kind v.known && (not (is_some g.site) || same a.kind b.kind)
    then reduced g c i b.kind a.kind (reducer'.Function at n (typed_scalar a) (typed_scalar b)) x v else fault at ReduceRule
by_subtypes g c i at n result _ _ x v = fault at ReduceRule

abbrev pub by_function : Going → TypedPart → TypedPart → ℕ → ℕ → List Taken → Option Scalar → Found → Found → Judging (Option Found)
by_function g c i at n (a ∷ b ∷ []) (Some s) x v = by_subtypes g c i at n s.kind a.subtype b.subtype x v
by_function g c i at n ts s x v = fault at ReduceRule

-- E11 ReduceRule: a reducer whose parameters and result don't fit, at its first token
unfoldable pub folded_by : Going → TypedPart → TypedPart → Folding → Found → Found → Judging (Option Found)
folded_by g c i (folding.Operator at o) x v = by_operator g c i at o x v
folded_by g c i (folding.Extreme at o s) x v = of_kind g c i at o s.kind x v
folded_by g c i (folding.Function at n) x v = read (λ log. profile_in log n) >>= λ p. by_function g c i at n (takes_in p) (gives_in p) x v
