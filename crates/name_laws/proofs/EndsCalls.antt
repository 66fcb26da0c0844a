-- What names denote is right: what Calls finds.
use Rattle.name_rules.specs.Expressions.{Inside}
use Rattle.name_rules.specs.Found.{Found}
use Rattle.name_rules.specs.Types.{is_integer}
use Rattle.name_rules.specs.Values.{first_of, is_number, settled_found, own_kind}
use Rattle.name_rules.specs.declared.log.Rule.TheVariants.{WrongType}
use Rattle.name_rules.specs.declared.scope.Context.{Context}
use Rattle.name_rules.specs.declared.scope.Names.{Names}
use Rattle.name_rules.specs.declared.types.Scalar.{Scalar}
use Rattle.name_rules.specs.declared.types.Subtype.TheVariants as subtype
use Rattle.name_rules.specs.declared.types.Subtype.{Subtype}
use Rattle.syntax_tree.specs.Syntax.{Args}
use Rattle.std.specs.Prelude.{List, None, Option, Some, [], if◌then◌else◌, length, ℕ, ◌∷◌}
use Rattle.typed_tree.specs.Decoded.{TypedPart}
use Rattle.name_rules.specs.Judging.{◌>>=◌, fault, given, read, some, where_clean}
use Rattle.name_rules.specs.Calls.{takes_in, gives_in, profile_in, arguments, complete, begun_call, call_given, sub_call, operands, arg_names, conversion_of, converted, one_operand, scalar_conversion, conversion}
use Rattle.name_laws.proofs.CellsDeclared.{Ends, IsRightly, e-bind, e-fault, e-given, e-if, e-some, e-where_clean}
use Rattle.name_laws.proofs.EndsNames.{e-wrong_call}

call-right : (m0 first last k : ℕ) (s : Option Scalar) (x : TypedPart) → IsRightly m0 (call_given first last k s x).known
call-right m0 first last k None x = tt
call-right m0 first last k (Some s) x = tt

pub e-sub_call : (m0 : ℕ) (x0 : Names) (x1 : Inside) (x2 : Context) (x3 : ℕ) (x4 : ℕ) (x5 : ℕ) (x6 : ℕ) (x7 : Args) → Ends m0 (sub_call x0 x1 x2 x3 x4 x5 x6 x7)
unfolding sub_call
e-sub_call m0 names inside here at first last n as' = e-bind m0 (read (λ log. profile_in log n)) (λ p. where_clean (arguments names inside here (takes_in p) begun_call as') (λ c. complete at (length (takes_in p)) c.late c >>= λ xs. given xs (λ ys. some (call_given first last n (gives_in p) ys)))) (λ p. e-where_clean m0 (arguments names inside here (takes_in p) begun_call as') (λ c. complete at (length (takes_in p)) c.late c >>= λ xs. given xs (λ ys. some (call_given first last n (gives_in p) ys))) (λ c. e-bind m0 (complete at (length (takes_in p)) c.late c) (λ xs. given xs (λ ys. some (call_given first last n (gives_in p) ys))) (λ xs. e-given m0 xs (λ ys. some (call_given first last n (gives_in p) ys)) (λ ys. e-some m0 (call_given first last n (gives_in p) ys) (call-right m0 first last n (gives_in p) ys)))))

pub e-converted : (m0 : ℕ) (x0 : ℕ) (x1 : Scalar) (x2 : Found) → Ends m0 (converted x0 x1 x2)
e-converted m0 first s f = e-if m0 (is_number f.known) ((settled_found f >>= λ e. given e (λ x. some (conversion_of first (own_kind f.known) s x)))) (fault (first_of f.known) WrongType) (e-bind m0 (settled_found f) (λ e. given e (λ x. some (conversion_of first (own_kind f.known) s x))) (λ e. e-given m0 e (λ x. some (conversion_of first (own_kind f.known) s x)) (λ x. e-some m0 (conversion_of first (own_kind f.known) s x) tt))) (e-fault m0 (first_of f.known) WrongType)

pub e-one_operand : (m0 : ℕ) (x0 : ℕ) (x1 : ℕ) (x2 : Scalar) (x3 : List (Option ℕ)) (x4 : List Found) → Ends m0 (one_operand x0 x1 x2 x3 x4)
e-one_operand m0 bracket first s (Some name ∷ ns) fs = e-fault m0 name WrongType
e-one_operand m0 bracket first s (None ∷ []) (f ∷ []) = e-converted m0 first s f
e-one_operand m0 bracket first s _ fs = e-fault m0 bracket WrongType

pub e-scalar_conversion : (m0 : ℕ) (x0 : Names) (x1 : Inside) (x2 : Context) (x3 : ℕ) (x4 : ℕ) (x5 : Scalar) (x6 : Args) → Ends m0 (scalar_conversion x0 x1 x2 x3 x4 x5 x6)
e-scalar_conversion m0 names inside here bracket first s as' = e-where_clean m0 (operands names inside here (Some []) as') (λ fs. given fs (λ gs. if is_integer s.kind then one_operand bracket first s (arg_names as') gs else fault first WrongType)) (λ fs. e-given m0 fs (λ gs. if is_integer s.kind then one_operand bracket first s (arg_names as') gs else fault first WrongType) (λ gs. e-if m0 (is_integer s.kind) (one_operand bracket first s (arg_names as') gs) (fault first WrongType) (e-one_operand m0 bracket first s (arg_names as') gs) (e-fault m0 first WrongType)))

pub e-conversion : (m0 : ℕ) (x0 : Names) (x1 : Inside) (x2 : Context) (x3 : ℕ) (x4 : ℕ) (x5 : Subtype) (x6 : Args) → Ends m0 (conversion x0 x1 x2 x3 x4 x5 x6)
unfolding conversion
e-conversion m0 names inside here bracket first (subtype.Scalar s) as' = e-scalar_conversion m0 names inside here bracket first s as'
e-conversion m0 names inside here bracket first (subtype.Composite n) as' = e-wrong_call m0 names inside here first as'
