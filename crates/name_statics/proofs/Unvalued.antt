-- What isn't static has no value: calls, conversions, reductions, aggregates, conditional expressions, and attributes with
-- arguments.
use Rattle.typed_tree.specs.declared.expressions.Reducer.TheVariants as reducer'
use Rattle.name_rules.specs.declared.found.Folding.TheVariants as folding
use Rattle.name_rules.specs.declared.types.Kind.TheVariants as kind
use Rattle.name_rules.specs.declared.types.Subtype.TheVariants as subtype
use Rattle.syntax_tree.specs.Syntax as syntax
use Rattle.typed_tree.specs.Decoded as part
use Rattle.typed_tree.specs.Syntax as typed
use Rattle.typed_tree.specs.declared.program.SiteKind.TheVariants as site
use Rattle.typed_tree.specs.declared.scalars.Class.TheVariants as class
use Rattle.name_rules.specs.declared.found.Attribute.TheVariants as attribute'
use Rattle.name_rules.specs.declared.found.Denoted.TheVariants as denoted
use Rattle.name_rules.specs.declared.found.Found.TheVariants as known
use Rattle.name_rules.specs.declared.types.Wanted.TheVariants as wanted
use Rattle.name_rules.specs.declared.found.Put.TheVariants as put
use Rattle.ada_base.specs.declared.operation.Op.TheVariants as op
use Rattle.ada_base.specs.declared.reason.Reason.TheVariants as reason
use Rattle.std.proofs.Common.{◌≡◌, refl, ℕ, List, [], ◌∷◌, Option, Some, None, ◌&&◌, Bool, true, false, option_map, pos, if◌then◌else◌, ◌==◌, nat_le, length}
use Rattle.std.specs.Prelude.{is_some, not, ◌||◌, Bool, Option, false, if◌then◌else◌, nat_le, option_map, true, ℕ, ◌&&◌}
use Rattle.ada_base.specs.declared.operation.Op.{Op}
use Rattle.typed_tree.specs.Decoded.{TypedPart, as_chunk, as_expr, as_iteration, as_actual, as_actuals, as_value, as_stmt}
use Rattle.typed_tree.specs.declared.expressions.Reducer.{Reducer}
use Rattle.name_rules.specs.Calls.{gives_in, profile_in, takes_in, arg_names, operands, arguments, begun_call, call_given, complete, conversion, conversion_of, converted, one_operand, sub_call}
use Rattle.name_rules.specs.Found.{Found, scalar, Denoted, denote, opened, value_denoted}
use Rattle.name_rules.specs.Judging.{fault, joined, read, ◌>>=◌, both, given, pure, unless}
use Rattle.name_rules.specs.Operators.{open_of, limit_of}
use Rattle.name_rules.specs.Reducers.{by_function, by_operator, by_subtypes, folded_by, is_logical, numeric, of_kind, open_reduction, reduced, reduction, reducer_of, logical_kind}
use Rattle.name_rules.specs.Types.{class_of, same, typed_scalar, is_integer, shape_in, converted_from}
use Rattle.name_rules.specs.Values.{asked, is_number, kind_of, suits, composite_asked, first_of, settled_found, own_kind}
use Rattle.name_rules.specs.declared.found.Folding.{Folding}
use Rattle.name_rules.specs.declared.found.Going.{Going}
use Rattle.name_rules.specs.declared.found.Limits.{Limits}
use Rattle.name_rules.specs.declared.log.Rule.TheVariants.{ReduceRule, NotVisible, Unknown, WrongType}
use Rattle.name_rules.specs.declared.log.Taken.{Taken}
use Rattle.name_rules.specs.declared.types.Kind.{Kind}
use Rattle.name_rules.specs.declared.types.Scalar.{Scalar}
use Rattle.name_rules.specs.declared.types.Subtype.{Subtype}
use Rattle.syntax_tree.specs.Syntax.{Args, Elsifs, Expr, Iter, Name, OptionalParallel, NameParts, Primary, Arg}
use Rattle.typed_tree.specs.Syntax.{Selections, Expr as TypedExpr, Actuals}
use Rattle.name_rules.specs.Attributes.{attribute_at, extreme, first_named, image_text, object_image, one_argument, one_given, one_named, scalar_bound, scalar_with, step, stepped, two_arguments_of, two_given, two_named}
use Rattle.name_rules.specs.Expressions.{Inside, condition, expr}
use Rattle.name_rules.specs.Iterations.{entered, is_reduce, only_reduce_rules, reverse_rule, sequence, sequence_folded, sequence_given, sequence_rules}
use Rattle.name_rules.specs.Names.{args_alone, wrong_call}
use Rattle.name_rules.specs.Parts.{name}
use Rattle.name_rules.specs.Primaries.{Waiting, also_choice, alternative, alternatives, common_type, composite_if, composite_ifs, conditional, if_expr, if_part, open_if, open_ifs, open_part, scalar_if, scalar_ifs, with_known}
use Rattle.name_rules.specs.Scope.{expanded_reach, in_ada, in_integer_io, in_package, in_text_io, is_withed, named, predefined, procedure_of, reach_of, selected, undeclared, used_name}
use Rattle.name_rules.specs.Symbols.{symbol, ada_name, data_error_name, end_error_name, integer_io_name, text_io_name}
use Rattle.name_rules.specs.TypedParts.{left_of, right_of, selections_of}
use Rattle.name_rules.specs.declared.found.Attribute.{Attribute}
use Rattle.name_rules.specs.declared.found.Found.{Found as Known}
use Rattle.name_rules.specs.declared.found.ObjectName.{ObjectName}
use Rattle.name_rules.specs.declared.scope.Context.{Context}
use Rattle.name_rules.specs.declared.scope.Names.{Names}
use Rattle.name_rules.specs.declared.types.Wanted.{Wanted}
use Rattle.name_rules.specs.Output.{Putting, alone_given, by_procedure, get_of, get_place, io_call, is_text, judged_arguments, no_name, put_by, put_complete, put_number, put_of_text, put_text, text_call, text_only, width_or, without_arguments}
use Rattle.name_rules.specs.declared.found.Put.{Put}
use Rattle.name_rules.specs.declared.found.Reach.{Reach}
use Rattle.typed_tree.specs.Latest.{turned}
use Rattle.typed_tree.specs.declared.scalars.Class.{Class}
use Rattle.name_rules.specs.Values.{joint}
use Rattle.name_rules.specs.Aggregates.{Contents, aggregate, composite_at, composite_found, contents_alone, rest_found}
use Rattle.typed_tree.specs.Classes.{with_class}
use Rattle.name_statics.proofs.Finds.{Finding, Finds, Is, Maybe, Means, Naming, f-bind, f-both, f-fault, f-given, f-given-of, f-if, f-none, f-pure, f-some, f-then, f-where_clean, mapped, meant, paired, weaker}
use Rattle.name_statics.proofs.Operations.{Leaves, open-is, scalar-is}
use Rattle.name_statics.specs.Law.{static_in}
use Rattle.name_statics.specs.Values.{Standing, Value}

abbrev pub nothing : Standing
nothing = Value None

pub f-wrong_call : (Q : Denoted → Type 0) (names : Names) (inside : Inside) (here : Context) (first : ℕ) (as' : Args) → Finds (Maybe Q) (wrong_call names inside here first as')
unfolding wrong_call
f-wrong_call Q names inside here first as' = f-where_clean Q (args_alone names inside here as') _ (λ u. f-fault Q first WrongType)

scalar-means : (first : ℕ) (k : Kind) (n : Option Scalar) (e : TypedExpr) → static_in e ≡ None → Means nothing (value_denoted (scalar first k n e))
scalar-means first k n e h = record { meaning = refl; bare = h }

done-means : (first : ℕ) (x : TypedPart) → Means nothing (denote (denoted.Done first) x)
done-means first x = record { meaning = refl; bare = refl }

-- ---- predefined names

f-predefined : (first token name : ℕ) (reach : Reach) → Finds (Naming nothing) (named (predefined first token name reach))
f-predefined first token name reach = f-some (Means nothing) (denote (predefined first token name reach) part.Nothing) (by (name == data_error_name) (name == end_error_name))
  where
    by : (x y : Bool) → Means nothing (denote (if x then denoted.Exception first reason.DataError else if y then denoted.Exception first reason.EndError else denoted.Io first token (procedure_of name) reach) part.Nothing)
    by true y = record { meaning = refl; bare = refl }
    by false true = record { meaning = refl; bare = refl }
    by false false = record { meaning = refl; bare = refl }

f-package : (first library : ℕ) → Finds (Naming nothing) (named (denoted.Package first library))
f-package first library = f-some (Means nothing) (denote (denoted.Package first library) part.Nothing) (record { meaning = refl; bare = refl })

pub f-undeclared : (here : Context) (token name : ℕ) → Finds (Naming nothing) (undeclared here token name)
f-undeclared here token name =
    f-if (Naming nothing) (in_text_io name || in_integer_io name) (used_name token name (reach_of here.used name)) _ (λ e. used (reach_of here.used name))
    (f-if (Naming nothing) (name == ada_name) (named (denoted.Package token ada_name)) _ (λ e. f-package token ada_name)
    (f-if (Naming nothing) ((name == text_io_name || name == integer_io_name) && here.used.ada) _ (fault token Unknown)
    (λ e. f-if (Naming nothing) (is_withed here.withed name) (named (denoted.Package token name)) (fault token NotVisible) (λ d. f-package token name) (f-fault (Means nothing) token NotVisible))
    (f-fault (Means nothing) token Unknown)))
  where
    used : (reach : Reach) → Finds (Naming nothing) (used_name token name reach)
    used reach = f-if (Naming nothing) (reach.text_io || reach.integer_io) (named (predefined token token name reach)) (fault token NotVisible) (λ e. f-predefined token token name reach) (f-fault (Means nothing) token NotVisible)

f-in_ada : (here : Context) (first token name : ℕ) → Finds (Naming nothing) (in_ada here first token name)
f-in_ada here first token name =
    f-if (Naming nothing) (not (name == text_io_name || name == integer_io_name)) (fault token Unknown) _ (λ e. f-fault (Means nothing) token Unknown)
    (f-if (Naming nothing) (is_withed here.withed name) (named (denoted.Package first name)) (fault first NotVisible) (λ e. f-package first name) (f-fault (Means nothing) first NotVisible))

pub f-selected : (names : Names) (here : Context) (first library token : ℕ) → Finds (Naming nothing) (selected names here first library token)
unfolding selected
f-selected names here first library token =
    f-if (Naming nothing) (library == ada_name) (in_ada here first token (symbol names token)) _ (λ e. f-in_ada here first token (symbol names token))
    (f-if (Naming nothing) (in_package library (symbol names token)) (named (predefined first token (symbol names token) (expanded_reach library))) (fault token Unknown) (λ e. f-predefined first token (symbol names token) (expanded_reach library)) (f-fault (Means nothing) token Unknown))

-- ---- calls and conversions

call-given : (first last n : ℕ) (s : Option Scalar) (xs : TypedPart) → Means nothing (call_given first last n s xs)
call-given first last n None xs = done-means first _
call-given first last n (Some s) xs = scalar-means first s.kind (Some s) (typed.Call first last n (as_actuals (turned xs))) refl

pub f-sub_call : (names : Names) (inside : Inside) (here : Context) (at first last n : ℕ) (as' : Args) → Finds (Naming nothing) (sub_call names inside here at first last n as')
unfolding sub_call
f-sub_call names inside here at first last n as' =
    f-then (Naming nothing) (read (λ log. profile_in log n)) _ (λ p.
    f-where_clean (Means nothing) (arguments names inside here (takes_in p) begun_call as') _ (λ c.
    f-then (Naming nothing) (complete at (length (takes_in p)) c.late c) _ (λ xs.
    f-given (Means nothing) xs _ (λ ys. f-some (Means nothing) (call_given first last n (gives_in p) ys) (call-given first last n (gives_in p) ys)))))

f-converted : (first : ℕ) (s : Scalar) (f : Found) → Finds (Naming nothing) (converted first s f)
f-converted first s f =
    f-if (Naming nothing) (is_number f.known) _ (fault (first_of f.known) WrongType)
    (λ e. f-then (Naming nothing) (settled_found f) _ (λ x. f-given (Means nothing) x _ (λ y. f-some (Means nothing) (conversion_of first (own_kind f.known) s y) (scalar-means first s.kind (Some s) (typed.Convert (record { at = first; scalar = converted_from (own_kind f.known) s }) (as_expr y)) refl))))
    (f-fault (Means nothing) (first_of f.known) WrongType)

f-one_operand : (bracket first : ℕ) (s : Scalar) (ns : List (Option ℕ)) (fs : List Found) → Finds (Naming nothing) (one_operand bracket first s ns fs)
f-one_operand bracket first s (Some name ∷ ns) fs = f-fault (Means nothing) name WrongType
f-one_operand bracket first s (None ∷ []) (f ∷ []) = f-converted first s f
f-one_operand bracket first s ns fs = f-fault (Means nothing) bracket WrongType

pub f-conversion : (names : Names) (inside : Inside) (here : Context) (bracket first : ℕ) (t : Subtype) (as' : Args) → Finds (Naming nothing) (conversion names inside here bracket first t as')
unfolding conversion
f-conversion names inside here bracket first (subtype.Scalar s) as' =
    f-where_clean (Means nothing) (operands names inside here (Some []) as') _ (λ fs. f-given (Means nothing) fs _ (λ gs.
    f-if (Naming nothing) (is_integer s.kind) (one_operand bracket first s (arg_names as') gs) (fault first WrongType) (λ e. f-one_operand bracket first s (arg_names as') gs) (f-fault (Means nothing) first WrongType)))
f-conversion names inside here bracket first (subtype.Composite n) as' = f-wrong_call (Means nothing) names inside here first as'

-- ---- predefined procedures

f-text_call : (at first last : ℕ) (line : Bool) (more : Args) (f : Found) → Finds (Naming nothing) (text_call at first last line more f)
f-text_call at first last line more f =
    f-then (Naming nothing) (alone_given at more f) _ (λ g. f-given (Means nothing) g _ (λ h.
    f-then (Naming nothing) (text_only h.known h.part) _ (λ ps. f-pure (Naming nothing) _ (mapped (Means nothing) (put_text first last line) ps (λ y. done-means first _)))))

f-put_complete : (at first last : ℕ) (p : Putting) → Finds (Naming nothing) (put_complete at first last p)
f-put_complete at first last p =
    f-if (Naming nothing) (nat_le p.count 2) (pure (joined (put_number first last) p.item (width_or first p))) (fault at WrongType)
    (λ e. f-pure (Naming nothing) _ (paired (Means nothing) (put_number first last) p.item (width_or first p) (λ y z. done-means first _))) (f-fault (Means nothing) at WrongType)

f-put_of_text : (at first last : ℕ) (reach : Reach) (more : Args) (f : Found) → Finds (Naming nothing) (put_of_text at first last reach more f)
f-put_of_text at first last reach more f =
    f-if (Naming nothing) reach.text_io (text_call at first last false more f) _ (λ e. f-text_call at first last false more f)
    (f-if (Naming nothing) reach.expanded (fault (first_of f.known) WrongType) (fault first NotVisible) (λ e. f-fault (Means nothing) (first_of f.known) WrongType) (f-fault (Means nothing) first NotVisible))

f-get_place : (first last : ℕ) (p : ObjectName) (ss : Selections) (t : Subtype) → Finds (Naming nothing) (get_place first last p ss t)
f-get_place first last p ss (subtype.Scalar s) =
    f-if (Naming nothing) (p.variable && same s.kind kind.Integer) _ (fault p.first WrongType) (λ e. f-some (Means nothing) _ (done-means first _)) (f-fault (Means nothing) p.first WrongType)
f-get_place first last p ss (subtype.Composite n) = f-fault (Means nothing) p.first WrongType

f-get_of : (first last : ℕ) (f : Known) (x : TypedPart) → Finds (Naming nothing) (get_of first last f x)
f-get_of first last (known.Object p) x = f-get_place first last p (selections_of x) p.subtype
f-get_of first last f x = f-fault (Means nothing) (first_of f) WrongType

f-put_by : (at first last : ℕ) (reach : Reach) (more : Args) (x : Option Found) (q : Putting) → Finds (Naming nothing) (put_by at first last reach more x q)
f-put_by at first last reach more x q =
    f-if (Naming nothing) (is_text x) (given x (put_of_text at first last reach more)) (put_complete at first last q) (λ e. f-given (Means nothing) x _ (λ f. f-put_of_text at first last reach more f)) (f-put_complete at first last q)

f-by_procedure : (at first last : ℕ) (reach : Reach) (more : Args) (p : Put) (r : Option Found × Putting) → Finds (Naming nothing) (by_procedure at first last reach more p r)
f-by_procedure at first last reach more put.Put r = f-put_by at first last reach more r.0 r.1
f-by_procedure at first last reach more put.PutLine r = f-given (Means nothing) r.0 (text_call at first last true more) (λ f. f-text_call at first last true more f)
f-by_procedure at first last reach more put.Get r =
    f-given (Means nothing) r.0 _ (λ f. f-then (Naming nothing) (alone_given at more f) _ (λ g. f-given (Means nothing) g _ (λ h. f-get_of first last h.known h.part)))
f-by_procedure at first last reach more put.NewLine r = f-fault (Means nothing) at WrongType

f-without_arguments : (at first last : ℕ) (p : Put) → Finds (Naming nothing) (without_arguments at first last p)
f-without_arguments at first last put.NewLine = f-some (Means nothing) _ (done-means first _)
f-without_arguments at first last p = f-fault (Means nothing) at WrongType

pub f-io_call : (names : Names) (inside : Inside) (here : Context) (at first last : ℕ) (p : Put) (reach : Reach) (as' : Args) → Finds (Naming nothing) (io_call names inside here at first last p reach as')
unfolding io_call
f-io_call names inside here at first last p reach syntax.NoArg = f-without_arguments at first last p
f-io_call names inside here at first last p reach (syntax.AlsoArg (syntax.arg name e) as') =
    f-where_clean (Means nothing) (no_name name >>= λ u. expr names inside here wanted.Text e >>= judged_arguments names inside here reach p as') (by_procedure at first last reach as' p) (λ r. f-by_procedure at first last reach as' p r)

-- ---- attributes with arguments

f-one_given : (k : Kind) (make : TypedExpr → Denoted) (f : Found) → ((x : TypedExpr) → Means nothing (make x)) → Finds (Naming nothing) (one_given k make f)
f-one_given k make f h = f-then (Naming nothing) (asked k f) _ (λ e. f-pure (Naming nothing) _ (mapped (Means nothing) (λ x. make (as_expr x)) e (λ x. h (as_expr x))))

f-two_given : (k : Kind) (make : TypedExpr → TypedExpr → Denoted) (f g : Found) → ((x y : TypedExpr) → Means nothing (make x y)) → Finds (Naming nothing) (two_given k make f g)
f-two_given k make f g h =
    f-then (Naming nothing) (asked k f) _ (λ x. f-then (Naming nothing) (asked k g) _ (λ y.
    f-pure (Naming nothing) _ (paired (Means nothing) (λ d e. make (as_expr d) (as_expr e)) x y (λ a b. h (as_expr a) (as_expr b)))))

f-one_named : (bracket : ℕ) (k : Kind) (make : TypedExpr → Denoted) (n : Option ℕ) (fs : List Found) → ((x : TypedExpr) → Means nothing (make x)) → Finds (Naming nothing) (one_named bracket k make n fs)
f-one_named bracket k make (Some name) fs h = f-fault (Means nothing) name Unknown
f-one_named bracket k make None (f ∷ []) h = f-one_given k make f h
f-one_named bracket k make None fs h = f-fault (Means nothing) bracket WrongType

f-two_named : (bracket : ℕ) (k : Kind) (make : TypedExpr → TypedExpr → Denoted) (n : Option ℕ) (fs : List Found) → ((x y : TypedExpr) → Means nothing (make x y)) → Finds (Naming nothing) (two_named bracket k make n fs)
f-two_named bracket k make (Some name) fs h = f-fault (Means nothing) name Unknown
f-two_named bracket k make None (f ∷ g ∷ []) h = f-two_given k make f g h
f-two_named bracket k make None fs h = f-fault (Means nothing) bracket WrongType

f-one_argument : (names : Names) (inside : Inside) (here : Context) (bracket : ℕ) (k : Kind) (make : TypedExpr → Denoted) (as' : Args) → ((x : TypedExpr) → Means nothing (make x)) → Finds (Naming nothing) (one_argument names inside here bracket k make as')
unfolding one_argument
f-one_argument names inside here bracket k make as' h =
    f-where_clean (Means nothing) (operands names inside here (Some []) as') _ (λ fs. f-given (Means nothing) fs _ (λ gs. f-one_named bracket k make (first_named (arg_names as')) gs h))

f-two_arguments_of : (names : Names) (inside : Inside) (here : Context) (bracket : ℕ) (k : Kind) (make : TypedExpr → TypedExpr → Denoted) (as' : Args) → ((x y : TypedExpr) → Means nothing (make x y)) → Finds (Naming nothing) (two_arguments_of names inside here bracket k make as')
unfolding two_arguments_of
f-two_arguments_of names inside here bracket k make as' h =
    f-where_clean (Means nothing) (operands names inside here (Some []) as') _ (λ fs. f-given (Means nothing) fs _ (λ gs. f-two_named bracket k make (first_named (arg_names as')) gs h))

image-means : (first : ℕ) (k : Kind) (x : TypedExpr) → Means nothing (image_text first k x)
image-means first k x = record { meaning = refl; bare = refl }

extreme-means : (first : ℕ) (k : Kind) (o : Op) (x y : TypedExpr) → Means nothing (extreme first k o x y)
extreme-means first k o x y = scalar-means first k None (typed.Binary first o (class_of k) x y) refl

f-stepped : (names : Names) (inside : Inside) (here : Context) (first : ℕ) (s : Scalar) (o : Op) (bracket : ℕ) (as' : Args) → Finds (Naming nothing) (stepped names inside here first s o bracket as')
f-stepped names inside here first s o bracket as' =
    f-if (Naming nothing) (is_integer s.kind) (one_argument names inside here bracket s.kind (step first s.kind o) as') (fault first WrongType) (λ e. f-one_argument names inside here bracket s.kind (step first s.kind o) as' (λ x. extreme-means first s.kind o x (limit_of first (pos 1)))) (f-fault (Means nothing) first WrongType)

f-bound_called : (names : Names) (inside : Inside) (here : Context) (first : ℕ) (s : Scalar) (a : Attribute) (as' : Args) → Finds (Naming nothing) (scalar_bound first s a >>= λ d. given d (λ x. wrong_call names inside here first as'))
f-bound_called names inside here first s a as' = f-then (Naming nothing) (scalar_bound first s a) _ (λ d. f-given (Means nothing) d _ (λ x. f-wrong_call (Means nothing) names inside here first as'))

pub f-scalar_with : (names : Names) (inside : Inside) (here : Context) (first : ℕ) (s : Scalar) (a : Attribute) (bracket : ℕ) (as' : Args) → Finds (Naming nothing) (scalar_with names inside here first s a bracket as')
f-scalar_with names inside here first s attribute'.Image bracket as' = f-one_argument names inside here bracket s.kind (image_text first s.kind) as' (λ x. image-means first s.kind x)
f-scalar_with names inside here first s attribute'.Max bracket as' = f-two_arguments_of names inside here bracket s.kind (extreme first s.kind op.Max) as' (λ x y. extreme-means first s.kind op.Max x y)
f-scalar_with names inside here first s attribute'.Min bracket as' = f-two_arguments_of names inside here bracket s.kind (extreme first s.kind op.Min) as' (λ x y. extreme-means first s.kind op.Min x y)
f-scalar_with names inside here first s attribute'.Succ bracket as' = f-stepped names inside here first s op.Add bracket as'
f-scalar_with names inside here first s attribute'.Pred bracket as' = f-stepped names inside here first s op.Sub bracket as'
f-scalar_with names inside here first s attribute'.First bracket as' = f-bound_called names inside here first s attribute'.First as'
f-scalar_with names inside here first s attribute'.Last bracket as' = f-bound_called names inside here first s attribute'.Last as'
f-scalar_with names inside here first s attribute'.Length bracket as' = f-bound_called names inside here first s attribute'.Length as'
f-scalar_with names inside here first s attribute'.Range bracket as' = f-bound_called names inside here first s attribute'.Range as'
f-scalar_with names inside here first s attribute'.Reduce bracket as' = f-bound_called names inside here first s attribute'.Reduce as'
f-scalar_with names inside here first s attribute'.ParallelReduce bracket as' = f-bound_called names inside here first s attribute'.ParallelReduce as'

pub f-object_image : (first : ℕ) (p : ObjectName) (x : TypedPart) (t : Subtype) → Finds (Naming nothing) (object_image first p x t)
f-object_image first p x (subtype.Scalar s) = f-one_given s.kind (image_text first s.kind) (record { known = known.Object p; part = x }) (λ y. image-means first s.kind y)
f-object_image first p x (subtype.Composite n) = f-fault (Means nothing) first WrongType

pub f-parameter_image : (first : ℕ) (s : Scalar) (f : Found) → Finds (Naming nothing) (one_given s.kind (image_text first s.kind) f)
f-parameter_image first s f = f-one_given s.kind (image_text first s.kind) f (λ y. image-means first s.kind y)

-- ---- reductions

-- no name, and without a value
pub record Plain (f : Found) : Type 0 where
  pub is : Is None f
  pub unnamed : meant (denoted.Value f.known) ≡ Value None

plain-scalar : (first : ℕ) (k : Kind) (n : Option Scalar) (e : TypedExpr) → static_in e ≡ None → Plain (scalar first k n e)
plain-scalar first k n e h = record { is = scalar-is first k n e h; unnamed = refl }

plain-open : (first : ℕ) (l : Limits) (e : TypedExpr) → ((c : Class) → static_in (with_class c e) ≡ None) → Plain (opened first l e)
plain-open first l e h = record { is = open-is first l e h; unnamed = refl }

f-reduced : (g : Going) (c i : TypedPart) (k j : Kind) (r : Reducer) (x v : Found) → Finds (Maybe Plain) (reduced g c i k j r x v)
unfolding reduced
f-reduced g c i k j r x v =
    f-then (Maybe Plain) (asked k x) _ (λ e. f-then (Maybe Plain) (asked j v) _ (λ f.
    f-both Plain e f _ (λ value initial. f-some Plain _ (plain-scalar g.at j None (reduction g c i r value initial) refl))))

f-of_kind : (g : Going) (c i : TypedPart) (at : ℕ) (o : Op) (k : Kind) (x v : Found) → Finds (Maybe Plain) (of_kind g c i at o k x v)
f-of_kind g c i at o k x v = f-if (Maybe Plain) (suits k x.known && suits k v.known) _ (fault at ReduceRule) (λ e. f-reduced g c i k k (reducer'.Operator at o (class_of k)) x v) (f-fault Plain at ReduceRule)

f-numeric : (g : Going) (c i : TypedPart) (at : ℕ) (o : Op) (x v : Found) (k j : Option Kind) → Finds (Maybe Plain) (numeric g c i at o x v k j)
f-numeric g c i at o x v None None = f-pure (Maybe Plain) _ (paired Plain (open_reduction g c i at o) (open_of x) (open_of v) (λ a b. plain-open g.at (joint a.0 b.0) (reduction g c i (reducer'.Operator at o class.Universal) a.1 b.1) (λ d. refl)))
f-numeric g c i at o x v (Some k) j = f-of_kind g c i at o k x v
f-numeric g c i at o x v None (Some k) = f-of_kind g c i at o k x v

f-by_operator : (g : Going) (c i : TypedPart) (at : ℕ) (o : Op) (x v : Found) → Finds (Maybe Plain) (by_operator g c i at o x v)
f-by_operator g c i at o x v =
    f-if (Maybe Plain) (is_logical o) (of_kind g c i at o (logical_kind (kind_of x.known) (kind_of v.known)) x v) _ (λ e. f-of_kind g c i at o (logical_kind (kind_of x.known) (kind_of v.known)) x v)
    (f-if (Maybe Plain) (is_number x.known && is_number v.known) (numeric g c i at o x v (kind_of x.known) (kind_of v.known)) (fault at ReduceRule) (λ e. f-numeric g c i at o x v (kind_of x.known) (kind_of v.known)) (f-fault Plain at ReduceRule))

f-by_subtypes : (g : Going) (c i : TypedPart) (at n : ℕ) (result : Kind) (s t : Subtype) (x v : Found) → Finds (Maybe Plain) (by_subtypes g c i at n result s t x v)
f-by_subtypes g c i at n result (subtype.Scalar a) (subtype.Scalar b) x v =
    f-if (Maybe Plain) (same result a.kind && suits b.kind x.known && suits a.kind v.known && (not (is_some g.site) || same a.kind b.kind)) _ (fault at ReduceRule)
    (λ e. f-reduced g c i b.kind a.kind (reducer'.Function at n (typed_scalar a) (typed_scalar b)) x v) (f-fault Plain at ReduceRule)
f-by_subtypes g c i at n result (subtype.Scalar a) (subtype.Composite m) x v = f-fault Plain at ReduceRule
f-by_subtypes g c i at n result (subtype.Composite m) t x v = f-fault Plain at ReduceRule

f-by_function : (g : Going) (c i : TypedPart) (at n : ℕ) (ts : List Taken) (s : Option Scalar) (x v : Found) → Finds (Maybe Plain) (by_function g c i at n ts s x v)
f-by_function g c i at n (a ∷ b ∷ []) (Some s) x v = f-by_subtypes g c i at n s.kind a.subtype b.subtype x v
f-by_function g c i at n ts s x v = f-fault Plain at ReduceRule

pub f-folded_by : (g : Going) (c i : TypedPart) (f : Folding) (x v : Found) → Finds (Maybe Plain) (folded_by g c i f x v)
unfolding folded_by
f-folded_by g c i (folding.Operator at o) x v = f-by_operator g c i at o x v
f-folded_by g c i (folding.Extreme at o s) x v = f-of_kind g c i at o s.kind x v
f-folded_by g c i (folding.Function at n) x v = f-then (Maybe Plain) (read (λ log. profile_in log n)) _ (λ p. f-by_function g c i at n (takes_in p) (gives_in p) x v)

abbrev SequenceOf : Option ℕ × Option Found → Type 0
SequenceOf p = Finding None p.1

f-sequence_folded : (names : Names) (level : Inside) (here : Context) (bracket : ℕ) (p : OptionalParallel) (i : Iter) (value : Expr) (attribute : ℕ) (reducer initial : Expr)
    → Finds SequenceOf (sequence_folded names level here bracket p i value attribute reducer initial)
f-sequence_folded names level here bracket p i value attribute reducer initial =
    f-then SequenceOf (reducer_of names level here reducer) _ (λ f.
    f-then SequenceOf (entered names level level here site.Reduction p i) _ (λ e.
    f-then SequenceOf (expr names level e.here wanted.Other value) _ (λ x.
    f-then SequenceOf (expr names level here wanted.Other initial) _ (λ v.
    f-bind (Maybe Plain) SequenceOf (given f (λ g. both x v (sequence_given bracket attribute e g))) _
    (f-given Plain f _ (λ g. f-both Plain x v _ (λ a b. f-both Plain e.chunk e.iteration _ (λ c j. f-folded_by (record { at = bracket; attribute = attribute; site = e.construct }) c j g a b))))
    (λ z q. f-pure SequenceOf (e.reverse, z) (weaker Plain (Is None) z q (λ a h. h.is)))))))

abbrev RuledOf : (Option ℕ × Option Found) × Bool → Type 0
RuledOf p = Finding None p.0.1

f-sequence_rules : (attribute : ℕ) (a : Option Attribute) (p : (Option ℕ × Option Found) × Bool) → RuledOf p → Finds (Finding None) (sequence_rules attribute a p)
f-sequence_rules attribute a p h =
    f-if (Finding None) (not p.1) (pure None) _ (λ e. f-none (Is None))
    (f-then (Finding None) (unless (not (is_some a) || is_reduce a) attribute ReduceRule) _ (λ u. f-then (Finding None) (reverse_rule p.0.0) _ (λ w. f-pure (Finding None) p.0.1 h)))

pub f-sequence : (names : Names) (level : Inside) (here : Context) (bracket : ℕ) (p : OptionalParallel) (i : Iter) (value : Expr) (attribute : ℕ) (reducer initial : Expr)
    → Finds (Finding None) (sequence names level here bracket p i value attribute reducer initial)
unfolding sequence
f-sequence names level here bracket p i value attribute reducer initial =
    f-then (Finding None) (unless (is_some (attribute_at (symbol names attribute))) attribute Unknown) _ (λ u.
    f-bind RuledOf (Finding None) (only_reduce_rules (sequence_folded names level here bracket p i value attribute reducer initial)) _
    (record { at = (f-sequence_folded names level here bracket p i value attribute reducer initial).at }) (λ x s. f-sequence_rules attribute (attribute_at (symbol names attribute)) x s))

-- ---- aggregates

pub f-aggregate : (names : Names) (level : Inside) (here : Context) (want : Wanted) (bracket : ℕ) (ps : Contents) → Finds (Finding None) (aggregate names level here want bracket ps)
unfolding aggregate
f-aggregate names level here (wanted.Composite n) bracket ps =
    record { at = λ log. (f-then (Finding None) (composite_at names level here bracket n 0 log (shape_in log n) ps) _ (λ c. f-pure (Finding None) _ (mapped (Is None) (composite_found bracket n) c (λ x. record { value = λ e. refl; bare = refl })))).at log }
f-aggregate names level here (wanted.Rest n i) bracket ps =
    record { at = λ log. (f-then (Finding None) (composite_at names level here bracket n i log (shape_in log n) ps) _ (λ c. f-pure (Finding None) _ (mapped (Is None) (rest_found bracket) c (λ x. record { value = λ e. refl; bare = refl })))).at log }
f-aggregate names level here wanted.Unknown bracket ps = f-none (Is None)
f-aggregate names level here wanted.Other bracket ps = f-where_clean (Is None) (contents_alone names level here ps) _ (λ u. f-fault (Is None) bracket WrongType)
f-aggregate names level here wanted.Text bracket ps = f-where_clean (Is None) (contents_alone names level here ps) _ (λ u. f-fault (Is None) bracket WrongType)

-- ---- conditional expressions, which have an alternative at least

abbrev AreSeveral : List Known → Type 0
AreSeveral [] = ⊥
AreSeveral (f ∷ fs) = Unit {0}

abbrev Several : Waiting → Type 0
Several w = AreSeveral w.known

also-several : (w : Option Waiting) (x : Option TypedPart) (f : Option Found) → Maybe Several (also_choice w x f)
also-several None x f = tt
also-several (Some w) None f = tt
also-several (Some w) (Some x) None = tt
also-several (Some w) (Some x) (Some f) = tt

f-alternative : (names : Names) (level : Inside) (here : Context) (want : Wanted) (made : Option Waiting) (c v : Expr) → Finds (Maybe Several) (alternative names level here want made c v)
unfolding alternative
f-alternative names level here want made c v =
    f-then (Maybe Several) (condition names level here c) _ (λ x. f-then (Maybe Several) (expr names level here want v) _ (λ y. f-pure (Maybe Several) (also_choice made x y) (also-several made x y)))

f-alternatives : (names : Names) (level : Inside) (here : Context) (want : Wanted) (made : Option Waiting) (es : Elsifs) → Maybe Several made → Finds (Maybe Several) (alternatives names level here want made es)
f-alternatives names level here want made syntax.NoElsif h = f-pure (Maybe Several) made h
f-alternatives names level here want made (syntax.AlsoElsif (syntax.elsif at c v) es) h =
    f-bind (Maybe Several) (Maybe Several) (alternative names level here want made c v) _ (f-alternative names level here want made c v) (λ d q. f-alternatives names level here want d es q)

f-scalar_ifs : (k : Kind) (fs : List Known) (ps : TypedPart) (o : Option TypedPart) → Maybe (Leaves None) o → Finds (Maybe (Leaves None)) (scalar_ifs k fs ps o)
f-scalar_ifs k [] ps o h = f-pure (Maybe (Leaves None)) o h
f-scalar_ifs k (f ∷ fs) ps o h =
    f-then (Maybe (Leaves None)) (asked k (record { known = f; part = right_of (left_of ps) })) _ (λ v.
    f-scalar_ifs k fs (right_of ps) (joined (if_part (left_of (left_of ps))) v o) (paired (Leaves None) (if_part (left_of (left_of ps))) v o (λ a b. refl)))

f-some_ifs : (k : Kind) (fs : List Known) (ps : TypedPart) (o : Option TypedPart) → AreSeveral fs → Finds (Maybe (Leaves None)) (scalar_ifs k fs ps o)
f-some_ifs k [] ps o h = absurd h
f-some_ifs k (f ∷ fs) ps o h =
    f-then (Maybe (Leaves None)) (asked k (record { known = f; part = right_of (left_of ps) })) _ (λ v.
    f-scalar_ifs k fs (right_of ps) (joined (if_part (left_of (left_of ps))) v o) (paired (Leaves None) (if_part (left_of (left_of ps))) v o (λ a b. refl)))

f-scalar_if : (bracket : ℕ) (k : Kind) (w : Waiting) (f : Found) → Several w → Finds (Finding None) (scalar_if bracket k w f)
unfolding scalar_if
f-scalar_if bracket k w f h =
    f-then (Finding None) (asked k f) _ (λ o.
    f-bind (Maybe (Leaves None)) (Finding None) (scalar_ifs k w.known w.part o) _ (f-some_ifs k w.known w.part o h) (λ e q. f-pure (Finding None) _ (with-part e q)))
  where
    with-part : (e : Option TypedPart) → Maybe (Leaves None) e → Finding None (option_map (with_known (known.Scalar bracket k None)) e)
    with-part None q = tt
    with-part (Some x) q = record { value = λ t. refl; bare = q }

f-composite_if : (bracket n : ℕ) (w : Waiting) (f : Found) → Finds (Finding None) (composite_if bracket n w f)
unfolding composite_if
f-composite_if bracket n w f =
    f-then (Finding None) (composite_asked n f) _ (λ o. f-then (Finding None) (composite_ifs n w.known w.part o) _ (λ c.
    f-pure (Finding None) _ (mapped (Is None) (with_known (known.Composite bracket n)) c (λ x. record { value = λ t. refl; bare = refl }))))

abbrev OpenBare : Limits × TypedPart → Type 0
OpenBare o = (c : Class) → static_in (with_class c (as_expr o.1)) ≡ None

open-more : (fs : List Known) (ps : TypedPart) (o : Option (Limits × TypedPart)) → Maybe OpenBare o → Maybe OpenBare (open_ifs fs ps o)
open-more [] ps o h = h
open-more (f ∷ fs) ps o h =
    open-more fs (right_of ps) (joined (open_part (left_of (left_of ps))) (open_of (record { known = f; part = right_of (left_of ps) })) o)
    (paired OpenBare (open_part (left_of (left_of ps))) (open_of (record { known = f; part = right_of (left_of ps) })) o (λ a b c. refl))

open-some : (fs : List Known) (ps : TypedPart) (o : Option (Limits × TypedPart)) → AreSeveral fs → Maybe OpenBare (open_ifs fs ps o)
open-some [] ps o h = absurd h
open-some (f ∷ fs) ps o h =
    open-more fs (right_of ps) (joined (open_part (left_of (left_of ps))) (open_of (record { known = f; part = right_of (left_of ps) })) o)
    (paired OpenBare (open_part (left_of (left_of ps))) (open_of (record { known = f; part = right_of (left_of ps) })) o (λ a b c. refl))

open-found : (bracket : ℕ) (o : Option (Limits × TypedPart)) → Maybe OpenBare o → Finding None (option_map (open_if bracket) o)
open-found bracket None h = tt
open-found bracket (Some o) h = record { value = λ t. refl; bare = h }

f-conditional : (bracket : ℕ) (w : Waiting) (f : Found) (k : Option Kind) (n : Option ℕ) → Several w → Finds (Finding None) (conditional bracket w f k n)
f-conditional bracket w f (Some k) n h = f-scalar_if bracket k w f h
f-conditional bracket w f None (Some n) h = f-composite_if bracket n w f
f-conditional bracket w f None None h = f-pure (Finding None) _ (open-found bracket (open_ifs w.known w.part (open_of f)) (open-some w.known w.part (open_of f) h))

pub f-if_expr : (names : Names) (level : Inside) (here : Context) (want : Wanted) (bracket : ℕ) (c v : Expr) (more : Elsifs) (o : Expr) → Finds (Finding None) (if_expr names level here want bracket c v more o)
unfolding if_expr
f-if_expr names level here want bracket c v more o =
    f-bind (Maybe Several) (Finding None) (alternative names level here want (Some (record { known = []; part = part.Nothing })) c v) _ (f-alternative names level here want (Some (record { known = []; part = part.Nothing })) c v) (λ d q.
    f-bind (Maybe Several) (Finding None) (alternatives names level here want d more) _ (f-alternatives names level here want d more q) (λ ds s.
    f-then (Finding None) (expr names level here want o) _ (λ f.
    f-given-of Several (Is None) ds _ s (λ w t. f-given (Is None) f _ (λ x. f-conditional bracket w x (common_type w x).0 (common_type w x).1 t)))))
