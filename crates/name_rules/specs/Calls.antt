-- Calls of subprograms (6.4) and conversions (4.6).
use Rattle.name_rules.specs.Expressions.{Inside, expr, judged_alone, value_for}
use Rattle.syntax_tree.specs.FirstTokens as first_token
use Rattle.name_rules.specs.Found.{Denoted, Found, denote, scalar, value_denoted}
use Rattle.name_rules.specs.Judging.{Judging, fault, given, joined, pure, read, some, unless, where_clean, ◌>>=◌}
use Rattle.name_rules.specs.Names.{count, wrong_call}
use Rattle.name_rules.specs.Scope.{named}
use Rattle.name_rules.specs.Symbols.{symbol}
use Rattle.name_rules.specs.Types.{check_at, converted_from, is_integer, same, typed_scalar, wanted_of}
use Rattle.name_rules.specs.Values.{first_of, is_number, own_kind, settled_found}
use Rattle.name_rules.specs.declared.found.Denoted.TheVariants as denoted
use Rattle.name_rules.specs.declared.found.Found.TheVariants as known
use Rattle.name_rules.specs.declared.found.Found.{Found as Known}
use Rattle.name_rules.specs.declared.found.ObjectName.{ObjectName}
use Rattle.name_rules.specs.declared.log.Log.{Log}
use Rattle.name_rules.specs.declared.log.Profile.{Profile}
use Rattle.name_rules.specs.declared.log.Rule.TheVariants.{Twice, Unknown, WrongType}
use Rattle.name_rules.specs.declared.log.Taken.{Taken}
use Rattle.name_rules.specs.declared.scope.Context.{Context}
use Rattle.name_rules.specs.declared.scope.Names.{Names}
use Rattle.name_rules.specs.declared.types.Kind.{Kind}
use Rattle.name_rules.specs.declared.types.Scalar.{Scalar}
use Rattle.name_rules.specs.declared.types.Subtype.TheVariants as subtype
use Rattle.name_rules.specs.declared.types.Subtype.{Subtype}
use Rattle.name_rules.specs.declared.types.Wanted.TheVariants as wanted
use Rattle.syntax_tree.specs.Syntax as syntax
use Rattle.syntax_tree.specs.Syntax.{Arg, Args, Expr}
use Rattle.typed_tree.specs.Decoded as part
use Rattle.typed_tree.specs.Syntax as typed
use Rattle.typed_tree.specs.Syntax.{Selections}
use Rattle.typed_tree.specs.declared.program.Mode.TheVariants as mode
use Rattle.typed_tree.specs.declared.program.Mode.{Mode}
use Rattle.std.specs.List.{list_any, position}
use Rattle.std.specs.Prelude.{Bool, List, None, Option, Some, [], false, if◌then◌else◌, is_some, length, nat_lt, not, slice_get, true, ℕ, ◌++◌, ◌+◌, ◌==◌, ◌||◌, ◌∷◌}
use Rattle.name_rules.specs.TypedParts.{also, selections_of}
use Rattle.typed_tree.specs.Decoded.{TypedPart, as_expr, as_actuals}
use Rattle.typed_tree.specs.Latest.{turned}

-- ---- actual parameters (6.4.1)

abbrev pub takes_in : Option Profile → List Taken
takes_in None = []
takes_in (Some p) = p.takes

abbrev pub gives_in : Option Profile → Option Scalar
gives_in None = None
gives_in (Some p) = p.gives

abbrev pub profile_in : Log → ℕ → Option Profile
profile_in log n = slice_get log.profiles n

abbrev pub is_out : Mode → Bool
is_out mode.Out = true
is_out _ = false

abbrev pub scalar_actual : Taken → Scalar → ObjectName → Selections → Scalar → TypedPart
scalar_actual t s p ss u =
    part.AnActual (if is_out t.mode then typed.Out t.object p.first p.root ss (typed_scalar s) (typed_scalar u)
    else typed.InOut t.object p.first p.root ss (typed_scalar s) (typed_scalar u))

abbrev pub composite_actual : Taken → ObjectName → Selections → ℕ → TypedPart
composite_actual t p ss n =
    part.AnActual (if is_out t.mode then typed.CompositeOut t.object p.first p.root ss n else typed.CompositeInOut t.object p.first p.root ss n)

abbrev pub place_given : Taken → ObjectName → Selections → Subtype → Subtype → Judging (Option TypedPart)
place_given t p ss (subtype.Scalar s) (subtype.Scalar u) = if same s.kind u.kind then some (scalar_actual t s p ss u) else fault p.first WrongType
place_given t p ss (subtype.Composite n) (subtype.Composite m) = if n == m then some (composite_actual t p ss n) else fault p.first WrongType
place_given t p ss _ _ = fault p.first WrongType

-- E06: an `out` or `in out` actual that is no variable, at its first token
abbrev pub variable_form : Taken → Known → TypedPart → Judging (Option TypedPart)
variable_form t (known.Object p) x = if p.variable then place_given t p (selections_of x) t.subtype p.subtype else fault p.first WrongType
variable_form t f x = fault (first_of f) WrongType

unfoldable pub variable_given : Taken → Found → Judging (Option TypedPart)
variable_given t f = variable_form t f.known f.part

abbrev pub actual_by : Names → Inside → Context → Taken → Mode → Expr → Judging (Option TypedPart)
actual_by names inside here t mode.In e = value_for names inside here t.subtype e >>= λ v. given v (λ x. some (part.AnActual (typed.In t.object (part.as_value x))))
actual_by names inside here t _ e = expr names inside here (wanted_of t.subtype) e >>= λ x. given x (variable_given t)

-- the value of an argument without a parameter is judged for itself
unfoldable pub actual_for : Names → Inside → Context → Option Taken → Expr → Judging (Option TypedPart)
actual_for names inside here None e = judged_alone names inside here e >>= λ u. pure None
actual_for names inside here (Some t) e = actual_by names inside here t t.mode e

-- which parameter an argument is for: E05 Unknown at a name that the callee lacks
abbrev pub found_or_unknown : ℕ → Option ℕ → Judging (Option ℕ)
found_or_unknown name None = fault name Unknown
found_or_unknown name (Some i) = some i

abbrev pub parameter_of : Names → List Taken → ℕ → Bool → Option ℕ → Judging (Option ℕ)
parameter_of names ts i named (Some name) = found_or_unknown name (position (λ t. t.symbol == symbol names name) ts)
parameter_of names ts i true None = pure None
parameter_of names ts i false None = pure (if nat_lt i (length ts) then Some i else None)

-- E05 Twice: a parameter given twice, at the argument's first token
abbrev pub given_once : ℕ → List ℕ → Option ℕ → Judging (Unit {0})
given_once first taken None = pure tt
given_once first taken (Some i) = unless (not (list_any (λ j. i == j) taken)) first Twice

abbrev pub also_taken : List ℕ → Option ℕ → List ℕ
also_taken taken None = taken
also_taken taken (Some i) = i ∷ taken

-- the first positional argument after a named one
abbrev pub late_at : Option ℕ → Bool → Option ℕ → ℕ → Option ℕ
late_at (Some t) named name first = Some t
late_at None true None first = Some first
late_at None _ _ first = None

-- what was found of the arguments so far: the parameters given, whether one was named, one that is late, the actuals
pub record Calling : Type 0 where
  pub count : ℕ
  pub taken : List ℕ
  pub named : Bool
  pub late : Option ℕ
  pub actuals : Option TypedPart

abbrev pub taken_at : List Taken → Option ℕ → Option Taken
taken_at ts None = None
taken_at ts (Some i) = slice_get ts i

-- an argument beyond the parameters is counted, and gives nothing
abbrev pub with_actual : Option ℕ → Option TypedPart → Option TypedPart → Option TypedPart
with_actual None done x = done
with_actual (Some i) done x = joined also done x

abbrev pub argument_form : Names → Inside → Context → List Taken → Calling → Option ℕ → Expr → ℕ → Judging Calling
argument_form names inside here ts c name e first = do
  i ← parameter_of names ts c.count c.named name
  u ← given_once first c.taken i
  x ← actual_for names inside here (taken_at ts i) e
  pure (record { count = c.count + 1; taken = also_taken c.taken i; named = c.named || is_some name; late = late_at c.late c.named name first; actuals = with_actual i c.actuals x })

unfoldable pub argument : Names → Inside → Context → List Taken → Calling → Arg → Judging Calling
argument names inside here ts c (syntax.arg name e) = argument_form names inside here ts c name e (first_token.of_arg (syntax.arg name e))

abbrev pub arguments : Names → Inside → Context → List Taken → Calling → Args → Judging Calling
arguments names inside here ts c syntax.NoArg = pure c
arguments names inside here ts c (syntax.AlsoArg a as') = argument names inside here ts c a >>= λ d. arguments names inside here ts d as'

-- E06: a positional argument after a named one, at the argument; wrong number of arguments, at the opening bracket
-- or the name's first token
abbrev pub complete : ℕ → ℕ → Option ℕ → Calling → Judging (Option TypedPart)
complete at count (Some late) c = fault late WrongType
complete at count None c = if c.count == count then pure c.actuals else fault at WrongType

abbrev pub begun_call : Calling
begun_call = record { count = 0; taken = []; named = false; late = None; actuals = Some part.Nothing }

-- a call: a function's gives a value, a procedure's is a statement
abbrev pub call_given : ℕ → ℕ → ℕ → Option Scalar → TypedPart → Denoted
call_given first last n None xs = denote (denoted.Done first) (part.AStmt (typed.CallProcedure first last n (as_actuals (turned xs))))
call_given first last n (Some s) xs = value_denoted (scalar first s.kind (Some s) (typed.Call first last n (as_actuals (turned xs))))

unfoldable pub sub_call : Names → Inside → Context → ℕ → ℕ → ℕ → ℕ → Args → Judging (Option Denoted)
sub_call names inside here at first last n as' = read (λ log. profile_in log n) >>= λ p.
    where_clean (arguments names inside here (takes_in p) begun_call as') (λ c.
    complete at (length (takes_in p)) c.late c >>= λ xs. given xs (λ ys. some (call_given first last n (gives_in p) ys)))

-- ---- operands that have no parameter

abbrev pub with_operand : Option (List Found) → Option Found → Option (List Found)
with_operand (Some fs) (Some f) = Some (fs ++ f ∷ [])
with_operand _ _ = None

abbrev pub operands : Names → Inside → Context → Option (List Found) → Args → Judging (Option (List Found))
operands names inside here done syntax.NoArg = pure done
operands names inside here done (syntax.AlsoArg (syntax.arg name e) as') = expr names inside here wanted.Other e >>= λ x. operands names inside here (with_operand done x) as'

abbrev pub arg_names : Args → List (Option ℕ)
arg_names syntax.NoArg = []
arg_names (syntax.AlsoArg (syntax.arg name e) as') = name ∷ arg_names as'

-- ---- conversions (4.6) go between integer types

abbrev pub conversion_of : ℕ → Kind → Scalar → TypedPart → Denoted
conversion_of first k s e = value_denoted (scalar first s.kind (Some s) (typed.Convert (record { at = first; scalar = converted_from k s }) (as_expr e)))

abbrev pub converted : ℕ → Scalar → Found → Judging (Option Denoted)
converted first s f = if is_number f.known then (settled_found f >>= λ e. given e (λ x. some (conversion_of first (own_kind f.known) s x))) else fault (first_of f.known) WrongType

-- E06: more operands than one, at the bracket; one with a name, at the name
abbrev pub one_operand : ℕ → ℕ → Scalar → List (Option ℕ) → List Found → Judging (Option Denoted)
one_operand bracket first s (Some name ∷ ns) fs = fault name WrongType
one_operand bracket first s (None ∷ []) (f ∷ []) = converted first s f
one_operand bracket first s _ fs = fault bracket WrongType

abbrev pub scalar_conversion : Names → Inside → Context → ℕ → ℕ → Scalar → Args → Judging (Option Denoted)
scalar_conversion names inside here bracket first s as' =
    where_clean (operands names inside here (Some []) as') (λ fs. given fs (λ gs.
    if is_integer s.kind then one_operand bracket first s (arg_names as') gs else fault first WrongType))

unfoldable pub conversion : Names → Inside → Context → ℕ → ℕ → Subtype → Args → Judging (Option Denoted)
conversion names inside here bracket first (subtype.Scalar s) as' = scalar_conversion names inside here bracket first s as'
conversion names inside here bracket first (subtype.Composite n) as' = wrong_call names inside here first as'
