-- What holds of each line of the log holds of what Calls judges.
use Rattle.name_rules.specs.Expressions.{Inside, expr, judged_alone, value_for}
use Rattle.syntax_tree.specs.FirstTokens as first_token
use Rattle.name_rules.specs.Found.{Found}
use Rattle.name_rules.specs.Names.{count}
use Rattle.name_rules.specs.Scope.{named}
use Rattle.name_rules.specs.Symbols.{symbol}
use Rattle.name_rules.specs.Types.{is_integer, same, wanted_of}
use Rattle.name_rules.specs.Values.{first_of, is_number, settled_found, own_kind}
use Rattle.name_rules.specs.declared.found.Found.TheVariants as known
use Rattle.name_rules.specs.declared.found.Found.{Found as Known}
use Rattle.name_rules.specs.declared.found.ObjectName.{ObjectName}
use Rattle.name_rules.specs.declared.log.Rule.TheVariants.{Twice, Unknown, WrongType}
use Rattle.name_rules.specs.declared.log.Taken.{Taken}
use Rattle.name_rules.specs.declared.scope.Context.{Context}
use Rattle.name_rules.specs.declared.scope.Names.{Names}
use Rattle.name_rules.specs.declared.types.Scalar.{Scalar}
use Rattle.name_rules.specs.declared.types.Subtype.TheVariants as subtype
use Rattle.name_rules.specs.declared.types.Subtype.{Subtype}
use Rattle.name_rules.specs.declared.types.Wanted.TheVariants as wanted
use Rattle.syntax_tree.specs.Syntax as syntax
use Rattle.syntax_tree.specs.Syntax.{Arg, Args, Expr}
use Rattle.typed_tree.specs.Decoded as part
use Rattle.typed_tree.specs.Syntax as typed
use Rattle.typed_tree.specs.Syntax.{Selections}
use Rattle.typed_tree.specs.declared.program.Mode.TheVariants as mode
use Rattle.typed_tree.specs.declared.program.Mode.{Mode}
use Rattle.std.specs.List.{list_any, position}
use Rattle.std.specs.Prelude.{Bool, List, None, Option, Some, [], false, if◌then◌else◌, length, nat_lt, not, true, ℕ, ◌==◌, ◌∷◌}
use Rattle.name_rules.specs.TypedParts.{selections_of}
use Rattle.typed_tree.specs.Decoded.{TypedPart}
use Rattle.name_rules.specs.Judging.{◌>>=◌, fault, given, pure, read, some, where_clean}
use Rattle.name_rules.specs.Calls.{takes_in, gives_in, profile_in, scalar_actual, composite_actual, place_given, variable_form, variable_given, actual_by, actual_for, found_or_unknown, parameter_of, given_once, Calling, taken_at, argument_form, argument, arguments, complete, begun_call, call_given, sub_call, with_operand, operands, arg_names, conversion_of, converted, one_operand, scalar_conversion, conversion}
use Rattle.name_laws.proofs.Walk.{Walk, Keeps, k-pure, k-some, k-bind, k-fault, k-unless, k-read, k-if, k-given, k-where_clean}
use Rattle.name_laws.proofs.Walked.{KeepsInside}
use Rattle.name_laws.proofs.KeepsExpressions.{k-expr, k-judged_alone, k-value_for}
use Rattle.name_laws.proofs.KeepsNames.{k-wrong_call}
use Rattle.name_laws.proofs.KeepsValues.{k-settled_found}

pub k-place_given : (walk : Walk) (x0 : Taken) (x1 : ObjectName) (x2 : Selections) (x3 : Subtype) (x4 : Subtype) → Keeps walk (place_given x0 x1 x2 x3 x4)
k-place_given walk t p ss (subtype.Scalar s) (subtype.Scalar u) = k-if walk (same s.kind u.kind) (some (scalar_actual t s p ss u)) (fault p.first WrongType) (k-some walk (scalar_actual t s p ss u)) (k-fault walk p.first WrongType)
k-place_given walk t p ss (subtype.Composite n) (subtype.Composite m) = k-if walk (n == m) (some (composite_actual t p ss n)) (fault p.first WrongType) (k-some walk (composite_actual t p ss n)) (k-fault walk p.first WrongType)
k-place_given walk t p ss _ _ = k-fault walk p.first WrongType

pub k-variable_form : (walk : Walk) (x0 : Taken) (x1 : Known) (x2 : TypedPart) → Keeps walk (variable_form x0 x1 x2)
k-variable_form walk t (known.Object p) x = k-if walk (p.variable) (place_given t p (selections_of x) t.subtype p.subtype) (fault p.first WrongType) (k-place_given walk t p (selections_of x) t.subtype p.subtype) (k-fault walk p.first WrongType)
k-variable_form walk t f x = k-fault walk (first_of f) WrongType

pub k-variable_given : (walk : Walk) (x0 : Taken) (x1 : Found) → Keeps walk (variable_given x0 x1)
unfolding variable_given
k-variable_given walk t f = k-variable_form walk t f.known f.part

pub k-actual_by : (walk : Walk) (x0 : Names) (x1 : Inside) (x2 : Context) (x3 : Taken) (x4 : Mode) (x5 : Expr) → walk.Takes x0 → KeepsInside walk x1 → Keeps walk (actual_by x0 x1 x2 x3 x4 x5)
k-actual_by walk names inside here t mode.In e keeps1 keeps2 = k-bind walk (value_for names inside here t.subtype e) (λ v. given v (λ x. some (part.AnActual (typed.In t.object (part.as_value x))))) (k-value_for walk names inside here t.subtype e keeps1 keeps2) (λ v. k-given walk v (λ x. some (part.AnActual (typed.In t.object (part.as_value x)))) (λ x. k-some walk (part.AnActual (typed.In t.object (part.as_value x)))))
k-actual_by walk names inside here t _ e keeps1 keeps2 = k-bind walk (expr names inside here (wanted_of t.subtype) e) (λ x. given x (variable_given t)) (k-expr walk names inside here (wanted_of t.subtype) e keeps1 keeps2) (λ x. k-given walk x (variable_given t) (λ z1. k-variable_given walk t z1))

pub k-actual_for : (walk : Walk) (x0 : Names) (x1 : Inside) (x2 : Context) (x3 : Option Taken) (x4 : Expr) → walk.Takes x0 → KeepsInside walk x1 → Keeps walk (actual_for x0 x1 x2 x3 x4)
unfolding actual_for
k-actual_for walk names inside here None e keeps1 keeps2 = k-bind walk (judged_alone names inside here e) (λ u. pure None) (k-judged_alone walk names inside here e keeps1 keeps2) (λ u. k-pure walk None)
k-actual_for walk names inside here (Some t) e keeps1 keeps2 = k-actual_by walk names inside here t t.mode e keeps1 keeps2

pub k-found_or_unknown : (walk : Walk) (x0 : ℕ) (x1 : Option ℕ) → Keeps walk (found_or_unknown x0 x1)
k-found_or_unknown walk name None = k-fault walk name Unknown
k-found_or_unknown walk name (Some i) = k-some walk i

pub k-parameter_of : (walk : Walk) (x0 : Names) (x1 : List Taken) (x2 : ℕ) (x3 : Bool) (x4 : Option ℕ) → walk.Takes x0 → Keeps walk (parameter_of x0 x1 x2 x3 x4)
k-parameter_of walk names ts i named (Some name) keeps1 = k-found_or_unknown walk name (position (λ t. t.symbol == symbol names name) ts)
k-parameter_of walk names ts i true None keeps1 = k-pure walk None
k-parameter_of walk names ts i false None keeps1 = k-pure walk (if nat_lt i (length ts) then Some i else None)

pub k-given_once : (walk : Walk) (x0 : ℕ) (x1 : List ℕ) (x2 : Option ℕ) → Keeps walk (given_once x0 x1 x2)
k-given_once walk first taken None = k-pure walk tt
k-given_once walk first taken (Some i) = k-unless walk (not (list_any (λ j. i == j) taken)) first Twice

pub k-argument_form : (walk : Walk) (x0 : Names) (x1 : Inside) (x2 : Context) (x3 : List Taken) (x4 : Calling) (x5 : Option ℕ) (x6 : Expr) (x7 : ℕ) → walk.Takes x0 → KeepsInside walk x1 → Keeps walk (argument_form x0 x1 x2 x3 x4 x5 x6 x7)
k-argument_form walk names inside here ts c name e first keeps1 keeps2 = record {
  at = λ log.
      let out1 = parameter_of names ts c.count c.named name log in
      let i = out1.0 in
      let out2 = given_once first c.taken i out1.1 in
      walk.joins _ _ _ ((k-parameter_of walk names ts c.count c.named name keeps1).at log)
      (walk.joins _ _ _ ((k-given_once walk first c.taken i).at out1.1)
      ((k-actual_for walk names inside here (taken_at ts i) e keeps1 keeps2).at out2.1));
}

pub k-argument : (walk : Walk) (x0 : Names) (x1 : Inside) (x2 : Context) (x3 : List Taken) (x4 : Calling) (x5 : Arg) → walk.Takes x0 → KeepsInside walk x1 → Keeps walk (argument x0 x1 x2 x3 x4 x5)
unfolding argument
k-argument walk names inside here ts c (syntax.arg name e) keeps1 keeps2 = k-argument_form walk names inside here ts c name e (first_token.of_arg (syntax.arg name e)) keeps1 keeps2

pub k-arguments : (walk : Walk) (x0 : Names) (x1 : Inside) (x2 : Context) (x3 : List Taken) (x4 : Calling) (x5 : Args) → walk.Takes x0 → KeepsInside walk x1 → Keeps walk (arguments x0 x1 x2 x3 x4 x5)
k-arguments walk names inside here ts c syntax.NoArg keeps1 keeps2 = k-pure walk c
k-arguments walk names inside here ts c (syntax.AlsoArg a as') keeps1 keeps2 = k-bind walk (argument names inside here ts c a) (λ d. arguments names inside here ts d as') (k-argument walk names inside here ts c a keeps1 keeps2) (λ d. k-arguments walk names inside here ts d as' keeps1 keeps2)

pub k-complete : (walk : Walk) (x0 : ℕ) (x1 : ℕ) (x2 : Option ℕ) (x3 : Calling) → Keeps walk (complete x0 x1 x2 x3)
k-complete walk at count (Some late) c = k-fault walk late WrongType
k-complete walk at count None c = k-if walk (c.count == count) (pure c.actuals) (fault at WrongType) (k-pure walk c.actuals) (k-fault walk at WrongType)

pub k-sub_call : (walk : Walk) (x0 : Names) (x1 : Inside) (x2 : Context) (x3 : ℕ) (x4 : ℕ) (x5 : ℕ) (x6 : ℕ) (x7 : Args) → walk.Takes x0 → KeepsInside walk x1 → Keeps walk (sub_call x0 x1 x2 x3 x4 x5 x6 x7)
unfolding sub_call
k-sub_call walk names inside here at first last n as' keeps1 keeps2 = k-bind walk (read (λ log. profile_in log n)) (λ p. where_clean (arguments names inside here (takes_in p) begun_call as') (λ c. complete at (length (takes_in p)) c.late c >>= λ xs. given xs (λ ys. some (call_given first last n (gives_in p) ys)))) (k-read walk (λ log. profile_in log n)) (λ p. k-where_clean walk (arguments names inside here (takes_in p) begun_call as') (λ c. complete at (length (takes_in p)) c.late c >>= λ xs. given xs (λ ys. some (call_given first last n (gives_in p) ys))) (k-arguments walk names inside here (takes_in p) begun_call as' keeps1 keeps2) (λ c. k-bind walk (complete at (length (takes_in p)) c.late c) (λ xs. given xs (λ ys. some (call_given first last n (gives_in p) ys))) (k-complete walk at (length (takes_in p)) c.late c) (λ xs. k-given walk xs (λ ys. some (call_given first last n (gives_in p) ys)) (λ ys. k-some walk (call_given first last n (gives_in p) ys)))))

pub k-operands : (walk : Walk) (x0 : Names) (x1 : Inside) (x2 : Context) (x3 : Option (List Found)) (x4 : Args) → walk.Takes x0 → KeepsInside walk x1 → Keeps walk (operands x0 x1 x2 x3 x4)
k-operands walk names inside here made syntax.NoArg keeps1 keeps2 = k-pure walk made
k-operands walk names inside here made (syntax.AlsoArg (syntax.arg name e) as') keeps1 keeps2 = k-bind walk (expr names inside here wanted.Other e) (λ x. operands names inside here (with_operand made x) as') (k-expr walk names inside here wanted.Other e keeps1 keeps2) (λ x. k-operands walk names inside here (with_operand made x) as' keeps1 keeps2)

pub k-converted : (walk : Walk) (x0 : ℕ) (x1 : Scalar) (x2 : Found) → Keeps walk (converted x0 x1 x2)
k-converted walk first s f = k-if walk (is_number f.known) ((settled_found f >>= λ e. given e (λ x. some (conversion_of first (own_kind f.known) s x)))) (fault (first_of f.known) WrongType) (k-bind walk (settled_found f) (λ e. given e (λ x. some (conversion_of first (own_kind f.known) s x))) (k-settled_found walk f) (λ e. k-given walk e (λ x. some (conversion_of first (own_kind f.known) s x)) (λ x. k-some walk (conversion_of first (own_kind f.known) s x)))) (k-fault walk (first_of f.known) WrongType)

pub k-one_operand : (walk : Walk) (x0 : ℕ) (x1 : ℕ) (x2 : Scalar) (x3 : List (Option ℕ)) (x4 : List Found) → Keeps walk (one_operand x0 x1 x2 x3 x4)
k-one_operand walk bracket first s (Some name ∷ ns) fs = k-fault walk name WrongType
k-one_operand walk bracket first s (None ∷ []) (f ∷ []) = k-converted walk first s f
k-one_operand walk bracket first s _ fs = k-fault walk bracket WrongType

pub k-scalar_conversion : (walk : Walk) (x0 : Names) (x1 : Inside) (x2 : Context) (x3 : ℕ) (x4 : ℕ) (x5 : Scalar) (x6 : Args) → walk.Takes x0 → KeepsInside walk x1 → Keeps walk (scalar_conversion x0 x1 x2 x3 x4 x5 x6)
k-scalar_conversion walk names inside here bracket first s as' keeps1 keeps2 = k-where_clean walk (operands names inside here (Some []) as') (λ fs. given fs (λ gs. if is_integer s.kind then one_operand bracket first s (arg_names as') gs else fault first WrongType)) (k-operands walk names inside here (Some []) as' keeps1 keeps2) (λ fs. k-given walk fs (λ gs. if is_integer s.kind then one_operand bracket first s (arg_names as') gs else fault first WrongType) (λ gs. k-if walk (is_integer s.kind) (one_operand bracket first s (arg_names as') gs) (fault first WrongType) (k-one_operand walk bracket first s (arg_names as') gs) (k-fault walk first WrongType)))

pub k-conversion : (walk : Walk) (x0 : Names) (x1 : Inside) (x2 : Context) (x3 : ℕ) (x4 : ℕ) (x5 : Subtype) (x6 : Args) → walk.Takes x0 → KeepsInside walk x1 → Keeps walk (conversion x0 x1 x2 x3 x4 x5 x6)
unfolding conversion
k-conversion walk names inside here bracket first (subtype.Scalar s) as' keeps1 keeps2 = k-scalar_conversion walk names inside here bracket first s as' keeps1 keeps2
k-conversion walk names inside here bracket first (subtype.Composite n) as' keeps1 keeps2 = k-wrong_call walk names inside here first as' keeps1 keeps2
