-- What a name denotes that is done is a call, output or input: a statement without statements in it.
use Rattle.std.proofs.Common.{ℕ, ℤ, List, [], ◌∷◌, length, Option, Some, None, Bool, true, false, if◌then◌else◌, option_map, ◌&&◌, ◌==◌, ◌+◌, pos, int_le, nat_le, slice_get}
use Rattle.std.specs.Prelude.{not, ◌||◌}
use Rattle.ada_base.specs.declared.operation.Op.TheVariants as op
use Rattle.ada_base.specs.declared.operation.Op.{Op}
use Rattle.ada_base.specs.declared.reason.Reason.TheVariants as reason
use Rattle.syntax_tree.specs.Syntax as syntax
use Rattle.syntax_tree.specs.Syntax.{Args, Expr, Name, NameParts}
use Rattle.typed_tree.specs.Decoded as part
use Rattle.typed_tree.specs.Decoded.{TypedPart, as_expr, as_stmt}
use Rattle.typed_tree.specs.Syntax as typed
use Rattle.typed_tree.specs.Syntax.{Selections, Stmt, Expr as TypedExpr}
use Rattle.name_rules.specs.Attributes as a
use Rattle.name_rules.specs.Attributes.{image_text, extreme, step}
use Rattle.name_rules.specs.Calls as c
use Rattle.name_rules.specs.Expressions.{Inside, expr}
use Rattle.name_rules.specs.Found.{Denoted, Found, denote, parameter_found, value_denoted}
use Rattle.name_rules.specs.Judging.{Judging, ◌>>=◌, clean, fault, given, joined, pure, read, some, where_clean}
use Rattle.name_rules.specs.Names as n
use Rattle.name_rules.specs.Names.{denoted_first}
use Rattle.name_rules.specs.Output as o
use Rattle.name_rules.specs.Output.{Putting}
use Rattle.name_rules.specs.Parts as p
use Rattle.name_rules.specs.Scope as s
use Rattle.name_rules.specs.Symbols.{ada_name, data_error_name, end_error_name, integer_io_name, symbol, text_io_name}
use Rattle.name_rules.specs.TypedParts.{also_all, selections_of}
use Rattle.name_rules.specs.Types.{component_of, dimensions_of, is_integer, same, shape_in}
use Rattle.name_rules.specs.Values.{asked, first_of, is_number, mentions_of, own_kind, settled_found, static_of_kind}
use Rattle.name_rules.specs.declared.found.Attribute.TheVariants as attribute'
use Rattle.name_rules.specs.declared.found.Attribute.{Attribute}
use Rattle.name_rules.specs.declared.found.Denoted.TheVariants as denoted
use Rattle.name_rules.specs.declared.found.Denoted.{Denoted as KnownDenoted}
use Rattle.name_rules.specs.declared.found.Found.TheVariants as known
use Rattle.name_rules.specs.declared.found.Found.{Found as Known}
use Rattle.name_rules.specs.declared.found.ObjectName.{ObjectName}
use Rattle.name_rules.specs.declared.found.Prefix.TheVariants as prefix
use Rattle.name_rules.specs.declared.found.Prefix.{Prefix}
use Rattle.name_rules.specs.declared.found.Put.TheVariants as put
use Rattle.name_rules.specs.declared.found.Put.{Put}
use Rattle.name_rules.specs.declared.found.Reach.{Reach}
use Rattle.name_rules.specs.declared.log.Dimension.{Dimension}
use Rattle.name_rules.specs.declared.log.Field.{Field}
use Rattle.name_rules.specs.declared.log.Log.{Log}
use Rattle.name_rules.specs.declared.log.Rule.TheVariants.{NotVisible, ReduceRule, StaticRange, Unknown, WrongType}
use Rattle.name_rules.specs.declared.log.Rule.{Rule}
use Rattle.name_rules.specs.declared.log.Shape.{Shape}
use Rattle.name_rules.specs.declared.scope.Context.{Context}
use Rattle.name_rules.specs.declared.scope.Names.{Names}
use Rattle.name_rules.specs.declared.scope.What.TheVariants as what
use Rattle.name_rules.specs.declared.scope.What.{What}
use Rattle.name_rules.specs.declared.types.Kind.TheVariants as kind
use Rattle.name_rules.specs.declared.types.Kind.{Kind}
use Rattle.name_rules.specs.declared.types.Scalar.{Scalar}
use Rattle.name_rules.specs.declared.types.Subtype.TheVariants as subtype
use Rattle.name_rules.specs.declared.types.Subtype.{Subtype}
use Rattle.name_rules.specs.declared.types.Wanted.TheVariants as wanted
use Rattle.name_laws.proofs.Makes.{Any, Maybe, joint, mapped}
use Rattle.name_flow.specs.Order.{IsNumber}
use Rattle.name_flow.proofs.Finds.{any}

-- ---- whatever is found is as is asked

pub record Tells {A : Type 0} (Q : A → Type 0) (j : Judging A) : Type 0 where
  pub at : (log : Log) → Q (j log).0

pub t-pure : {A : Type 0} (Q : A → Type 0) (x : A) → Q x → Tells Q (pure x)
t-pure Q x q = record { at = λ log. q }

pub t-some : {A : Type 0} (Q : A → Type 0) (x : A) → Q x → Tells (Maybe Q) (some x)
t-some Q x q = record { at = λ log. q }

pub t-none : {A : Type 0} (Q : A → Type 0) → Tells (Maybe Q) (pure None)
t-none Q = record { at = λ log. tt }

pub t-fault : {A : Type 0} (Q : A → Type 0) (at : ℕ) (rule : Rule) → Tells (Maybe Q) (fault at rule)
t-fault Q at rule = record { at = λ log. tt }

pub t-bind : {A B : Type 0} (R : B → Type 0) (j : Judging A) (f : A → Judging B) → ((x : A) → Tells R (f x)) → Tells R (j >>= f)
t-bind R j f m = record { at = λ log. (m (j log).0).at (j log).1 }

pub t-then : {A B : Type 0} (Q : A → Type 0) (R : B → Type 0) (j : Judging A) (f : A → Judging B) → Tells Q j → ((x : A) → Q x → Tells R (f x)) → Tells R (j >>= f)
t-then Q R j f m n = record { at = λ log. (n (j log).0 (m.at log)).at (j log).1 }

pub t-given : {A B : Type 0} (Q : A → Type 0) (R : B → Type 0) (x : Option A) (f : A → Judging (Option B)) → Maybe Q x → ((y : A) → Q y → Tells (Maybe R) (f y)) → Tells (Maybe R) (given x f)
t-given Q R None f q m = t-none R
t-given Q R (Some y) f q m = m y q

pub t-given-any : {A B : Type 0} (R : B → Type 0) (x : Option A) (f : A → Judging (Option B)) → ((y : A) → Tells (Maybe R) (f y)) → Tells (Maybe R) (given x f)
t-given-any R None f m = t-none R
t-given-any R (Some y) f m = m y

pub t-if : {A : Type 0} (Q : A → Type 0) (b : Bool) (j l : Judging A) → Tells Q j → Tells Q l → Tells Q (if b then j else l)
t-if Q true j l m n = m
t-if Q false j l m n = n

t-log : {A : Type 0} (Q : A → Type 0) (j : Log → Judging A) → ((log : Log) → Tells Q (j log)) → Tells Q (λ log. j log log)
t-log Q j m = record { at = λ log. (m log).at log }

pub t-where_clean : {A B : Type 0} (R : B → Type 0) (j : Judging A) (f : A → Judging (Option B)) → ((x : A) → Tells (Maybe R) (f x)) → Tells (Maybe R) (where_clean j f)
t-where_clean R j f m = t-bind (Maybe R) (clean j) (λ r. if r.1 then f r.0 else pure None) (λ r. t-if (Maybe R) r.1 (f r.0) (pure None) (m r.0) (t-none R))

-- ---- what is asked

abbrev pub IsPlain : Stmt → Type 0
IsPlain typed.Null = Unit {0}
IsPlain (typed.Assign at root ss v) = Unit {0}
IsPlain (typed.CallProcedure at callee sub as') = Unit {0}
IsPlain typed.Return = Unit {0}
IsPlain (typed.ReturnValue v) = IsNumber v
IsPlain (typed.Raise r) = Unit {0}
IsPlain (typed.Put at callee ps line) = Unit {0}
IsPlain (typed.Get at callee first root ss scalar) = Unit {0}
IsPlain x = ⊥

abbrev pub DoneIn : KnownDenoted → TypedPart → Type 0
DoneIn (denoted.Done first) x = IsPlain (as_stmt x)
DoneIn d x = Unit {0}

abbrev pub DoneOf : Denoted → Type 0
DoneOf d = DoneIn d.known d.part

abbrev pub Telling : Judging (Option Denoted) → Type 0
Telling j = Tells (Maybe DoneOf) j

made : {A : Type 0} (g : A → Denoted) (x : Option A) → ((y : A) → DoneOf (g y)) → Maybe DoneOf (option_map g x)
made g x h = mapped Any DoneOf g x (any x) (λ y t. h y)

-- ---- identifiers

t-predefined : (first token name : ℕ) (reach : Reach) → Telling (s.named (s.predefined first token name reach))
t-predefined first token name reach = t-some DoneOf (denote (s.predefined first token name reach) part.Nothing) (by (name == data_error_name) (name == end_error_name))
  where
    by : (x y : Bool) → DoneIn (if x then denoted.Exception first reason.DataError else if y then denoted.Exception first reason.EndError else denoted.Io first token (s.procedure_of name) reach) part.Nothing
    by true y = tt
    by false true = tt
    by false false = tt

t-used_name : (token name : ℕ) (reach : Reach) → Telling (s.used_name token name reach)
t-used_name token name reach = t-if (Maybe DoneOf) (reach.text_io || reach.integer_io) (s.named (s.predefined token token name reach)) (fault token NotVisible) (t-predefined token token name reach) (t-fault DoneOf token NotVisible)

t-package : (first library : ℕ) → Telling (s.named (denoted.Package first library))
t-package first library = t-some DoneOf (denote (denoted.Package first library) part.Nothing) tt

t-undeclared : (here : Context) (token name : ℕ) → Telling (s.undeclared here token name)
t-undeclared here token name =
    t-if (Maybe DoneOf) (s.in_text_io name || s.in_integer_io name) (s.used_name token name (s.reach_of here.used name)) _ (t-used_name token name (s.reach_of here.used name))
    (t-if (Maybe DoneOf) (name == ada_name) (s.named (denoted.Package token ada_name)) _ (t-package token ada_name)
    (t-if (Maybe DoneOf) ((name == text_io_name || name == integer_io_name) && here.used.ada) _ (fault token Unknown)
    (t-if (Maybe DoneOf) (s.is_withed here.withed name) (s.named (denoted.Package token name)) (fault token NotVisible) (t-package token name) (t-fault DoneOf token NotVisible))
    (t-fault DoneOf token Unknown)))

t-stands : (here : Context) (token name : ℕ) (w : Option What) → Telling (s.stands here token name w)
t-stands here token name None = t-undeclared here token name
t-stands here token name (Some what.Hidden) = t-fault DoneOf token NotVisible
t-stands here token name (Some what.Broken) = t-none DoneOf
t-stands here token name (Some (what.Object x t v z)) = t-some DoneOf _ tt
t-stands here token name (Some (what.Parameter x t)) = t-some DoneOf _ tt
t-stands here token name (Some (what.Item x t v)) = t-some DoneOf _ tt
t-stands here token name (Some (what.Number z)) = t-some DoneOf _ tt
t-stands here token name (Some (what.Boolean b)) = t-some DoneOf _ tt
t-stands here token name (Some (what.Type t)) = t-some DoneOf _ tt
t-stands here token name (Some (what.Sub x)) = t-some DoneOf _ tt
t-stands here token name (Some (what.Exception r)) = t-some DoneOf _ tt

t-stands_for : (names : Names) (here : Context) (token : ℕ) → Telling (s.stands_for names here token)
unfolding s.stands_for
t-stands_for names here token = t-stands here token (symbol names token) (s.lookup (symbol names token) here.scope)

t-in_ada : (here : Context) (first token name : ℕ) → Telling (s.in_ada here first token name)
t-in_ada here first token name =
    t-if (Maybe DoneOf) (not (name == text_io_name || name == integer_io_name)) (fault token Unknown) _ (t-fault DoneOf token Unknown)
    (t-if (Maybe DoneOf) (s.is_withed here.withed name) (s.named (denoted.Package first name)) (fault first NotVisible) (t-package first name) (t-fault DoneOf first NotVisible))

t-selected : (names : Names) (here : Context) (first library token : ℕ) → Telling (s.selected names here first library token)
unfolding s.selected
t-selected names here first library token =
    t-if (Maybe DoneOf) (library == ada_name) (s.in_ada here first token (symbol names token)) _ (t-in_ada here first token (symbol names token))
    (t-if (Maybe DoneOf) (s.in_package library (symbol names token)) (s.named (s.predefined first token (symbol names token) (s.expanded_reach library))) (fault token Unknown) (t-predefined first token (symbol names token) (s.expanded_reach library)) (t-fault DoneOf token Unknown))

-- ---- components

t-field_from : (names : Names) (q : ObjectName) (ss : TypedPart) (at i : ℕ) (fs : List Field) → Telling (n.field_from names q ss at i fs)
t-field_from names q ss at i [] = t-fault DoneOf at Unknown
t-field_from names q ss at i (f ∷ fs) = t-if (Maybe DoneOf) (f.symbol == symbol names at) (some _) (n.field_from names q ss at (i + 1) fs) (t-some DoneOf _ tt) (t-field_from names q ss at (i + 1) fs)

t-field_in : (names : Names) (q : ObjectName) (ss : TypedPart) (at : ℕ) (t : Option Shape) → Telling (n.field_in names q ss at t)
t-field_in names q ss at t = t-if (Maybe DoneOf) (n.is_record t) (n.field_from names q ss at 0 _) (fault q.first WrongType) (t-field_from names q ss at 0 _) (t-fault DoneOf q.first WrongType)

t-field_of : (names : Names) (q : ObjectName) (ss : TypedPart) (at : ℕ) (t : Subtype) → Telling (n.field_of names q ss at t)
t-field_of names q ss at (subtype.Composite x) = t-log (Maybe DoneOf) (λ log. n.field_in names q ss at (shape_in log x)) (λ log. t-field_in names q ss at (shape_in log x))
t-field_of names q ss at (subtype.Scalar t) = t-fault DoneOf q.first WrongType

t-field_form : (names : Names) (here : Context) (at : ℕ) (d : KnownDenoted) (x : TypedPart) → Telling (n.field_form names here at d x)
t-field_form names here at (denoted.Package first library) x = t-selected names here first library at
t-field_form names here at (denoted.Value (known.Object q)) x = t-field_of names q x at q.subtype
t-field_form names here at d x = t-fault DoneOf (denoted_first d) WrongType

t-field : (names : Names) (here : Context) (at : ℕ) (d : Denoted) → Telling (n.field names here at d)
unfolding n.field
t-field names here at d = t-field_form names here at d.known d.part

t-wrong_call : (names : Names) (inside : Inside) (here : Context) (first : ℕ) (as' : Args) → Telling (n.wrong_call names inside here first as')
unfolding n.wrong_call
t-wrong_call names inside here first as' = t-where_clean DoneOf (n.args_alone names inside here as') (λ u. fault first WrongType) (λ u. t-fault DoneOf first WrongType)

t-indexed : (q : ObjectName) (bracket many given : ℕ) (t : Option Subtype) (ss : TypedPart) → Telling (n.indexed q bracket many given t ss)
t-indexed q bracket many given None ss = t-fault DoneOf q.first WrongType
t-indexed q bracket many given (Some t) ss = t-if (Maybe DoneOf) (many == given) (some _) (fault bracket WrongType) (t-some DoneOf _ tt) (t-fault DoneOf bracket WrongType)

t-index_shape : (names : Names) (inside : Inside) (here : Context) (q : ObjectName) (ss : TypedPart) (bracket : ℕ) (as' : Args) (t : Option Shape) (cells : ℕ) → Telling (n.index_shape names inside here q ss bracket as' t cells)
t-index_shape names inside here q ss bracket as' t cells = t-where_clean DoneOf (n.indexes names inside here (dimensions_of t) cells (Some ss) as') _ (λ r. t-given-any DoneOf r _ (λ x. t-indexed q bracket (length (dimensions_of t)) (n.count as') (component_of t) x))

t-array_call : (names : Names) (inside : Inside) (here : Context) (q : ObjectName) (ss : TypedPart) (bracket : ℕ) (as' : Args) (t : Option Shape) (cells : ℕ) → Telling (n.array_call names inside here q ss bracket as' t cells)
t-array_call names inside here q ss bracket as' t cells =
    t-if (Maybe DoneOf) (n.is_array t) (n.index_shape names inside here q ss bracket as' t cells) (n.wrong_call names inside here q.first as') (t-index_shape names inside here q ss bracket as' t cells) (t-wrong_call names inside here q.first as')

t-object_call : (names : Names) (inside : Inside) (here : Context) (q : ObjectName) (ss : TypedPart) (bracket : ℕ) (as' : Args) (t : Subtype) → Telling (n.object_call names inside here q ss bracket as' t)
unfolding n.object_call
t-object_call names inside here q ss bracket as' (subtype.Composite x) = record { at = λ log. (t-array_call names inside here q ss bracket as' (shape_in log x) _).at log }
t-object_call names inside here q ss bracket as' (subtype.Scalar t) = t-wrong_call names inside here q.first as'

-- ---- attributes

t-scalar_bound : (first : ℕ) (t : Scalar) (x : Attribute) → Telling (a.scalar_bound first t x)
t-scalar_bound first t attribute'.First = t-some DoneOf _ tt
t-scalar_bound first t attribute'.Last = t-some DoneOf _ tt
t-scalar_bound first t x = t-fault DoneOf first WrongType

t-dimension_bound : (first : ℕ) (ms : TypedPart) (x : Attribute) (d : Dimension) → Telling (a.dimension_bound first ms x d)
t-dimension_bound first ms attribute'.First d = t-some DoneOf _ tt
t-dimension_bound first ms attribute'.Last d = t-some DoneOf _ tt
t-dimension_bound first ms attribute'.Length d = t-some DoneOf _ tt
t-dimension_bound first ms attribute'.Range d = t-some DoneOf _ tt
t-dimension_bound first ms x d = t-fault DoneOf first WrongType

t-bound_in : (first : ℕ) (ms : TypedPart) (x : Attribute) (d : Option Dimension) → Telling (a.bound_in first ms x d)
t-bound_in first ms x None = t-fault DoneOf first WrongType
t-bound_in first ms x (Some d) = t-dimension_bound first ms x d

t-bound_by : (first : ℕ) (q : Prefix) (x : TypedPart) (b : Attribute) → Telling (read (λ log. slice_get (a.dimensions_in log (a.prefix_subtype q)) 0) >>= a.bound_in first (a.mentioned q x) b)
t-bound_by first q x b = t-bind (Maybe DoneOf) (read (λ log. slice_get (a.dimensions_in log (a.prefix_subtype q)) 0)) _ (λ d. t-bound_in first (a.mentioned q x) b d)

t-bound_alone : (first : ℕ) (q : Prefix) (x : TypedPart) (b : Attribute) → Telling (a.bound_alone first q x b)
t-bound_alone first (prefix.Type (subtype.Scalar t)) x b = t-scalar_bound first t b
t-bound_alone first q x b = t-bound_by first q x b

t-dimension_at : (first : ℕ) (ms : TypedPart) (b : Attribute) (ds : List Dimension) (at : ℕ) (z : ℤ) → Telling (a.dimension_at first ms b ds at z)
t-dimension_at first ms b ds at z = t-if (Maybe DoneOf) (int_le (pos 1) z && int_le z (pos (length ds))) _ (fault at StaticRange) (t-bound_in first ms b _) (t-fault DoneOf at StaticRange)

t-dimension_given : (first : ℕ) (ms : TypedPart) (b : Attribute) (ds : List Dimension) (f : Found) → Telling (a.dimension_given first ms b ds f)
t-dimension_given first ms b ds f =
    t-if (Maybe DoneOf) (is_number f.known) _ (fault (first_of f.known) WrongType)
    (t-bind (Maybe DoneOf) (static_of_kind (own_kind f.known) f) _ (λ v. t-given-any DoneOf v _ (λ z. t-dimension_at first (also_all ms (mentions_of f)) b ds (first_of f.known) z)))
    (t-fault DoneOf (first_of f.known) WrongType)

t-one_dimension : (first bracket : ℕ) (ms : TypedPart) (b : Attribute) (ds : List Dimension) (ns : List (Option ℕ)) (fs : List Found) → Telling (a.one_dimension first bracket ms b ds ns fs)
t-one_dimension first bracket ms b ds (None ∷ []) (f ∷ []) = t-dimension_given first ms b ds f
t-one_dimension first bracket ms b ds (Some name ∷ []) fs = t-fault DoneOf name WrongType
t-one_dimension first bracket ms b ds ns fs = t-fault DoneOf bracket WrongType

t-bound_with : (names : Names) (inside : Inside) (here : Context) (first : ℕ) (ms : TypedPart) (b : Attribute) (bracket : ℕ) (as' : Args) (ds : List Dimension) → Telling (a.bound_with names inside here first ms b bracket as' ds)
t-bound_with names inside here first ms b bracket as' [] = t-fault DoneOf first WrongType
t-bound_with names inside here first ms b bracket as' (d ∷ ds) =
    t-where_clean DoneOf (c.operands names inside here (Some []) as') _ (λ fs. t-given-any DoneOf fs _ (λ gs. t-one_dimension first bracket ms b (d ∷ ds) (c.arg_names as') gs))

-- what is made of an argument is a value
abbrev Gives : (TypedExpr → Denoted) → Type 0
Gives make = (x : TypedExpr) → DoneOf (make x)

abbrev GivesTwo : (TypedExpr → TypedExpr → Denoted) → Type 0
GivesTwo make = (x y : TypedExpr) → DoneOf (make x y)

t-one_given : (k : Kind) (make : TypedExpr → Denoted) (f : Found) → Gives make → Telling (a.one_given k make f)
t-one_given k make f h = t-bind (Maybe DoneOf) (asked k f) _ (λ e. t-pure (Maybe DoneOf) (option_map (λ x. make (as_expr x)) e) (made (λ x. make (as_expr x)) e (λ x. h (as_expr x))))

t-two_given : (k : Kind) (make : TypedExpr → TypedExpr → Denoted) (f g : Found) → GivesTwo make → Telling (a.two_given k make f g)
t-two_given k make f g h =
    t-bind (Maybe DoneOf) (asked k f) _ (λ x. t-bind (Maybe DoneOf) (asked k g) _ (λ y.
    t-pure (Maybe DoneOf) (joined (λ d e. make (as_expr d) (as_expr e)) x y) (joint Any Any DoneOf (λ d e. make (as_expr d) (as_expr e)) x y (any x) (any y) (λ d e t u. h (as_expr d) (as_expr e)))))

t-one_named : (bracket : ℕ) (k : Kind) (make : TypedExpr → Denoted) (name : Option ℕ) (fs : List Found) → Gives make → Telling (a.one_named bracket k make name fs)
t-one_named bracket k make (Some name) fs h = t-fault DoneOf name Unknown
t-one_named bracket k make None (f ∷ []) h = t-one_given k make f h
t-one_named bracket k make None fs h = t-fault DoneOf bracket WrongType

t-two_named : (bracket : ℕ) (k : Kind) (make : TypedExpr → TypedExpr → Denoted) (name : Option ℕ) (fs : List Found) → GivesTwo make → Telling (a.two_named bracket k make name fs)
t-two_named bracket k make (Some name) fs h = t-fault DoneOf name Unknown
t-two_named bracket k make None (f ∷ g ∷ []) h = t-two_given k make f g h
t-two_named bracket k make None fs h = t-fault DoneOf bracket WrongType

t-one_argument : (names : Names) (inside : Inside) (here : Context) (bracket : ℕ) (k : Kind) (make : TypedExpr → Denoted) (as' : Args) → Gives make → Telling (a.one_argument names inside here bracket k make as')
unfolding a.one_argument
t-one_argument names inside here bracket k make as' h = t-where_clean DoneOf (c.operands names inside here (Some []) as') _ (λ fs. t-given-any DoneOf fs _ (λ gs. t-one_named bracket k make (a.first_named (c.arg_names as')) gs h))

t-two_arguments_of : (names : Names) (inside : Inside) (here : Context) (bracket : ℕ) (k : Kind) (make : TypedExpr → TypedExpr → Denoted) (as' : Args) → GivesTwo make → Telling (a.two_arguments_of names inside here bracket k make as')
unfolding a.two_arguments_of
t-two_arguments_of names inside here bracket k make as' h = t-where_clean DoneOf (c.operands names inside here (Some []) as') _ (λ fs. t-given-any DoneOf fs _ (λ gs. t-two_named bracket k make (a.first_named (c.arg_names as')) gs h))

t-stepped : (names : Names) (inside : Inside) (here : Context) (first : ℕ) (t : Scalar) (x : Op) (bracket : ℕ) (as' : Args) → Telling (a.stepped names inside here first t x bracket as')
t-stepped names inside here first t x bracket as' =
    t-if (Maybe DoneOf) (is_integer t.kind) (a.one_argument names inside here bracket t.kind (step first t.kind x) as') (fault first WrongType) (t-one_argument names inside here bracket t.kind (step first t.kind x) as' (λ y. tt)) (t-fault DoneOf first WrongType)

t-scalar_with : (names : Names) (inside : Inside) (here : Context) (first : ℕ) (t : Scalar) (x : Attribute) (bracket : ℕ) (as' : Args) → Telling (a.scalar_with names inside here first t x bracket as')
t-scalar_with names inside here first t attribute'.Image bracket as' = t-one_argument names inside here bracket t.kind (image_text first t.kind) as' (λ y. tt)
t-scalar_with names inside here first t attribute'.Max bracket as' = t-two_arguments_of names inside here bracket t.kind (extreme first t.kind op.Max) as' (λ y z. tt)
t-scalar_with names inside here first t attribute'.Min bracket as' = t-two_arguments_of names inside here bracket t.kind (extreme first t.kind op.Min) as' (λ y z. tt)
t-scalar_with names inside here first t attribute'.Succ bracket as' = t-stepped names inside here first t op.Add bracket as'
t-scalar_with names inside here first t attribute'.Pred bracket as' = t-stepped names inside here first t op.Sub bracket as'
t-scalar_with names inside here first t x bracket as' = t-bind (Maybe DoneOf) (a.scalar_bound first t x) _ (λ d. t-given-any DoneOf d _ (λ y. t-wrong_call names inside here first as'))

t-object_image : (first : ℕ) (q : ObjectName) (x : TypedPart) (t : Subtype) → Telling (a.object_image first q x t)
t-object_image first q x (subtype.Scalar t) = t-one_given t.kind (image_text first t.kind) (record { known = known.Object q; part = x }) (λ y. tt)
t-object_image first q x (subtype.Composite m) = t-fault DoneOf first WrongType

t-reduced_alone : (first at : ℕ) (b : Bool) → Telling (a.reduced_alone first at b)
t-reduced_alone first at true = t-fault DoneOf first WrongType
t-reduced_alone first at false = t-fault DoneOf at ReduceRule

t-other_alone : (first : ℕ) (q : Prefix) (x : TypedPart) (at : ℕ) (b : Attribute)
    → Telling (if a.is_bound b then a.bound_alone first q x b else if a.is_reduction b then (read (λ log. a.is_array_object log q) >>= a.reduced_alone first at) else fault first WrongType)
t-other_alone first q x at b =
    t-if (Maybe DoneOf) (a.is_bound b) (a.bound_alone first q x b) _ (t-bound_alone first q x b)
    (t-if (Maybe DoneOf) (a.is_reduction b) _ (fault first WrongType) (t-bind (Maybe DoneOf) (read (λ log. a.is_array_object log q)) _ (λ r. t-reduced_alone first at r)) (t-fault DoneOf first WrongType))

t-alone : (first : ℕ) (q : Prefix) (x : TypedPart) (at : ℕ) (b : Attribute) → Telling (a.alone first q x at b)
t-alone first (prefix.Object q) x at attribute'.Image = t-object_image first q x q.subtype
t-alone first (prefix.Parameter t) x at attribute'.Image = t-one_given t.kind (image_text first t.kind) (parameter_found first t x) (λ y. tt)
t-alone first q x at b = t-other_alone first q x at b

t-settled_form : (d : KnownDenoted) (x : TypedPart) → DoneIn d x → Telling (a.settled_form d x)
t-settled_form (denoted.Attribute first q at b) x h = t-alone first q x at b
t-settled_form d x h = t-some DoneOf (denote d x) h

t-settled_attribute : (d : Denoted) → DoneOf d → Telling (a.settled_attribute d)
unfolding a.settled_attribute
t-settled_attribute d h = t-settled_form d.known d.part h

t-attribute_found : (d : Denoted) (at : ℕ) (b : Option Attribute) → Telling (a.attribute_found d at b)
t-attribute_found d at None = t-fault DoneOf at Unknown
t-attribute_found d at (Some b) = t-if (Maybe DoneOf) (a.is_left_out (a.prefix_of d.known) b) (fault at Unknown) _ (t-fault DoneOf at Unknown) (t-some DoneOf _ tt)

-- ---- calls and conversions

t-converted : (first : ℕ) (t : Scalar) (f : Found) → Telling (c.converted first t f)
t-converted first t f =
    t-if (Maybe DoneOf) (is_number f.known) _ (fault (first_of f.known) WrongType) (t-bind (Maybe DoneOf) (settled_found f) _ (λ e. t-given-any DoneOf e _ (λ x. t-some DoneOf (c.conversion_of first (own_kind f.known) t x) tt))) (t-fault DoneOf (first_of f.known) WrongType)

t-one_operand : (bracket first : ℕ) (t : Scalar) (ns : List (Option ℕ)) (fs : List Found) → Telling (c.one_operand bracket first t ns fs)
t-one_operand bracket first t (Some name ∷ ns) fs = t-fault DoneOf name WrongType
t-one_operand bracket first t (None ∷ []) (f ∷ []) = t-converted first t f
t-one_operand bracket first t ns fs = t-fault DoneOf bracket WrongType

t-conversion : (names : Names) (inside : Inside) (here : Context) (bracket first : ℕ) (t : Subtype) (as' : Args) → Telling (c.conversion names inside here bracket first t as')
unfolding c.conversion
t-conversion names inside here bracket first (subtype.Scalar t) as' =
    t-where_clean DoneOf (c.operands names inside here (Some []) as') _ (λ fs. t-given-any DoneOf fs _ (λ gs.
    t-if (Maybe DoneOf) (is_integer t.kind) (c.one_operand bracket first t (c.arg_names as') gs) (fault first WrongType) (t-one_operand bracket first t (c.arg_names as') gs) (t-fault DoneOf first WrongType)))
t-conversion names inside here bracket first (subtype.Composite m) as' = t-wrong_call names inside here first as'

call-given : (first last m : ℕ) (t : Option Scalar) (xs : TypedPart) → DoneOf (c.call_given first last m t xs)
call-given first last m None xs = tt
call-given first last m (Some t) xs = tt

t-sub_call : (names : Names) (inside : Inside) (here : Context) (at first last m : ℕ) (as' : Args) → Telling (c.sub_call names inside here at first last m as')
unfolding c.sub_call
t-sub_call names inside here at first last m as' =
    t-bind (Maybe DoneOf) (read (λ log. c.profile_in log m)) _ (λ q.
    t-where_clean DoneOf (c.arguments names inside here (c.takes_in q) c.begun_call as') _ (λ d.
    t-bind (Maybe DoneOf) (c.complete at (length (c.takes_in q)) d.late d) _ (λ xs. t-given-any DoneOf xs _ (λ ys. t-some DoneOf (c.call_given first last m (c.gives_in q) ys) (call-given first last m (c.gives_in q) ys)))))

-- ---- output and input

t-text_call : (at first last : ℕ) (line : Bool) (more : Args) (f : Found) → Telling (o.text_call at first last line more f)
t-text_call at first last line more f =
    t-bind (Maybe DoneOf) (o.alone_given at more f) _ (λ g. t-given-any DoneOf g _ (λ h.
    t-bind (Maybe DoneOf) (o.text_only h.known h.part) _ (λ ps. t-pure (Maybe DoneOf) (option_map (o.put_text first last line) ps) (made (o.put_text first last line) ps (λ y. tt)))))

t-put_complete : (at first last : ℕ) (q : Putting) → Telling (o.put_complete at first last q)
t-put_complete at first last q =
    t-if (Maybe DoneOf) (nat_le q.count 2) _ (fault at WrongType)
    (t-pure (Maybe DoneOf) (joined (o.put_number first last) q.item (o.width_or first q)) (joint Any Any DoneOf (o.put_number first last) q.item (o.width_or first q) (any q.item) (any (o.width_or first q)) (λ x y t u. tt)))
    (t-fault DoneOf at WrongType)

t-put_of_text : (at first last : ℕ) (reach : Reach) (more : Args) (f : Found) → Telling (o.put_of_text at first last reach more f)
t-put_of_text at first last reach more f =
    t-if (Maybe DoneOf) reach.text_io (o.text_call at first last false more f) _ (t-text_call at first last false more f)
    (t-if (Maybe DoneOf) reach.expanded (fault (first_of f.known) WrongType) (fault first NotVisible) (t-fault DoneOf (first_of f.known) WrongType) (t-fault DoneOf first NotVisible))

t-get_place : (first last : ℕ) (q : ObjectName) (ss : Selections) (t : Subtype) → Telling (o.get_place first last q ss t)
t-get_place first last q ss (subtype.Scalar t) = t-if (Maybe DoneOf) (q.variable && same t.kind kind.Integer) (some _) (fault q.first WrongType) (t-some DoneOf _ tt) (t-fault DoneOf q.first WrongType)
t-get_place first last q ss (subtype.Composite m) = t-fault DoneOf q.first WrongType

t-get_of : (first last : ℕ) (f : Known) (x : TypedPart) → Telling (o.get_of first last f x)
t-get_of first last (known.Object q) x = t-get_place first last q (selections_of x) q.subtype
t-get_of first last f x = t-fault DoneOf (first_of f) WrongType

t-put_by : (at first last : ℕ) (reach : Reach) (more : Args) (x : Option Found) (q : Putting) → Telling (o.put_by at first last reach more x q)
t-put_by at first last reach more x q =
    t-if (Maybe DoneOf) (o.is_text x) (given x (o.put_of_text at first last reach more)) (o.put_complete at first last q) (t-given-any DoneOf x (o.put_of_text at first last reach more) (λ f. t-put_of_text at first last reach more f)) (t-put_complete at first last q)

t-by_procedure : (at first last : ℕ) (reach : Reach) (more : Args) (q : Put) (r : Option Found × Putting) → Telling (o.by_procedure at first last reach more q r)
t-by_procedure at first last reach more put.Put r = t-put_by at first last reach more r.0 r.1
t-by_procedure at first last reach more put.PutLine r = t-given-any DoneOf r.0 (o.text_call at first last true more) (λ f. t-text_call at first last true more f)
t-by_procedure at first last reach more put.Get r = t-given-any DoneOf r.0 _ (λ f. t-bind (Maybe DoneOf) (o.alone_given at more f) _ (λ g. t-given-any DoneOf g _ (λ h. t-get_of first last h.known h.part)))
t-by_procedure at first last reach more put.NewLine r = t-fault DoneOf at WrongType

t-without_arguments : (at first last : ℕ) (q : Put) → Telling (o.without_arguments at first last q)
t-without_arguments at first last put.NewLine = t-some DoneOf _ tt
t-without_arguments at first last q = t-fault DoneOf at WrongType

t-io_call : (names : Names) (inside : Inside) (here : Context) (at first last : ℕ) (q : Put) (reach : Reach) (as' : Args) → Telling (o.io_call names inside here at first last q reach as')
unfolding o.io_call
t-io_call names inside here at first last q reach syntax.NoArg = t-without_arguments at first last q
t-io_call names inside here at first last q reach (syntax.AlsoArg (syntax.arg name e) as') =
    t-where_clean DoneOf (o.no_name name >>= λ u. expr names inside here wanted.Text e >>= o.judged_arguments names inside here reach q as') (o.by_procedure at first last reach as' q) (λ r. t-by_procedure at first last reach as' q r)

-- ---- parts of names

t-array_reduction : (names : Names) (inside : Inside) (here : Context) (q : ObjectName) (ss : Selections) (at : ℕ) (b : Attribute) (r v : Expr) → Telling (p.array_reduction names inside here q ss at b r v)
t-array_reduction names inside here q ss at b r v = record { at = λ log. made value_denoted _ (λ y. tt) }

t-wrong_arguments : (names : Names) (inside : Inside) (here : Context) (bracket : ℕ) (as' : Args) → Telling (p.wrong_arguments names inside here bracket as')
t-wrong_arguments names inside here bracket as' = t-where_clean DoneOf (n.args_alone names inside here as') (λ u. fault bracket WrongType) (λ u. t-fault DoneOf bracket WrongType)

t-array_reduced : (names : Names) (inside : Inside) (here : Context) (q : ObjectName) (ss : Selections) (at : ℕ) (b : Attribute) (bracket : ℕ) (as' : Args) → Telling (p.array_reduced names inside here q ss at b bracket as')
t-array_reduced names inside here q ss at b bracket (syntax.AlsoArg (syntax.arg None r) (syntax.AlsoArg (syntax.arg None v) syntax.NoArg)) = t-array_reduction names inside here q ss at b r v
t-array_reduced names inside here q ss at b bracket as' = t-wrong_arguments names inside here bracket as'

t-no_array : (names : Names) (inside : Inside) (here : Context) (at : ℕ) (as' : Args) → Telling (where_clean (n.args_alone names inside here as') (λ u. fault at ReduceRule))
t-no_array names inside here at as' = t-where_clean DoneOf (n.args_alone names inside here as') (λ u. fault at ReduceRule) (λ u. t-fault DoneOf at ReduceRule)

t-reduced_with : (names : Names) (inside : Inside) (here : Context) (first : ℕ) (q : Prefix) (x : TypedPart) (at : ℕ) (b : Attribute) (bracket : ℕ) (as' : Args) (y : Bool) → Telling (p.reduced_with names inside here first q x at b bracket as' y)
t-reduced_with names inside here first (prefix.Object q) x at b bracket as' true = t-array_reduced names inside here q (selections_of x) at b bracket as'
t-reduced_with names inside here first q x at b bracket as' y = t-no_array names inside here at as'

t-of_array : (names : Names) (inside : Inside) (here : Context) (first : ℕ) (q : Prefix) (x : TypedPart) (at : ℕ) (b : Attribute) (bracket : ℕ) (as' : Args) → Telling (p.of_array names inside here first q x at b bracket as')
t-of_array names inside here first q x at b bracket as' =
    t-if (Maybe DoneOf) (a.is_bound b) _ (n.wrong_call names inside here first as')
    (t-bind (Maybe DoneOf) (read (λ log. a.dimensions_in log (a.prefix_subtype q))) _ (λ ds. t-bound_with names inside here first (a.mentioned q x) b bracket as' ds)) (t-wrong_call names inside here first as')

t-other_with : (names : Names) (inside : Inside) (here : Context) (first : ℕ) (q : Prefix) (x : TypedPart) (at : ℕ) (b : Attribute) (bracket : ℕ) (as' : Args) → Telling (p.other_with names inside here first q x at b bracket as')
t-other_with names inside here first (prefix.Type (subtype.Scalar t)) x at b bracket as' = t-scalar_with names inside here first t b bracket as'
t-other_with names inside here first q x at b bracket as' = t-of_array names inside here first q x at b bracket as'

t-attribute_with : (names : Names) (inside : Inside) (here : Context) (first : ℕ) (q : Prefix) (x : TypedPart) (at : ℕ) (b : Attribute) (bracket : ℕ) (as' : Args) → Telling (p.attribute_with names inside here first q x at b bracket as')
t-attribute_with names inside here first q x at b bracket as' =
    t-if (Maybe DoneOf) (a.is_reduction b) _ (p.other_with names inside here first q x at b bracket as')
    (t-bind (Maybe DoneOf) (read (λ log. a.is_array_object log q)) _ (λ y. t-reduced_with names inside here first q x at b bracket as' y)) (t-other_with names inside here first q x at b bracket as')

t-call_form : (names : Names) (inside : Inside) (here : Context) (bracket : ℕ) (as' : Args) (d : KnownDenoted) (x : TypedPart) → Telling (p.call_form names inside here bracket as' d x)
t-call_form names inside here bracket as' (denoted.Value (known.Object q)) x = t-object_call names inside here q x bracket as' q.subtype
t-call_form names inside here bracket as' (denoted.Type first t) x = t-conversion names inside here bracket first t as'
t-call_form names inside here bracket as' (denoted.Sub first last m) x = t-sub_call names inside here bracket first last m as'
t-call_form names inside here bracket as' (denoted.Io first last q r) x = t-io_call names inside here bracket first last q r as'
t-call_form names inside here bracket as' (denoted.Attribute first q at b) x = t-attribute_with names inside here first q x at b bracket as'
t-call_form names inside here bracket as' d x = t-wrong_call names inside here (denoted_first d) as'

t-part_of : (names : Names) (inside : Inside) (here : Context) (x : syntax.NamePart) (d : Denoted) → DoneOf d → Telling (p.part_of names inside here x d)
unfolding p.part_of p.call
t-part_of names inside here (syntax.Field at) d h = t-bind (Maybe DoneOf) (a.settled_attribute d) _ (λ e. t-given-any DoneOf e (n.field names here at) (λ f. t-field names here at f))
t-part_of names inside here (syntax.Call bracket y as') d h = t-call_form names inside here bracket (syntax.AlsoArg y as') d.known d.part
t-part_of names inside here (syntax.Attribute at) d h = t-bind (Maybe DoneOf) (a.settled_attribute d) _ (λ e. t-given-any DoneOf e _ (λ f. t-attribute_found f at (a.attribute_at (symbol names at))))
t-part_of names inside here (syntax.RangeAttribute at) d h = t-bind (Maybe DoneOf) (a.settled_attribute d) _ (λ e. t-given-any DoneOf e _ (λ f. t-attribute_found f at (Some attribute'.Range)))

t-part_alone : (names : Names) (inside : Inside) (here : Context) (x : syntax.NamePart) → Telling (p.part_alone names inside here x)
t-part_alone names inside here (syntax.Call bracket y as') = t-bind (Maybe DoneOf) (n.args_alone names inside here (syntax.AlsoArg y as')) _ (λ u. t-none DoneOf)
t-part_alone names inside here x = t-none DoneOf

t-next_part : (names : Names) (inside : Inside) (here : Context) (d : Option Denoted) (x : syntax.NamePart) → Maybe DoneOf d → Telling (p.next_part names inside here d x)
t-next_part names inside here None x h = t-part_alone names inside here x
t-next_part names inside here (Some d) x h = t-part_of names inside here x d h

t-parts : (names : Names) (inside : Inside) (here : Context) (d : Option Denoted) (xs : NameParts) → Maybe DoneOf d → Telling (p.parts names inside here d xs)
t-parts names inside here d syntax.NoPart h = t-pure (Maybe DoneOf) d h
t-parts names inside here d (syntax.AlsoPart x xs) h = t-then (Maybe DoneOf) (Maybe DoneOf) (p.next_part names inside here d x) _ (t-next_part names inside here d x h) (λ e q. t-parts names inside here e xs q)

pub t-name : (names : Names) (inside : Inside) (here : Context) (x : Name) → Telling (p.name names inside here x)
unfolding p.name
t-name names inside here (syntax.name first xs) =
    t-then (Maybe DoneOf) (Maybe DoneOf) (s.stands_for names here first) _ (t-stands_for names here first) (λ d q.
    t-then (Maybe DoneOf) (Maybe DoneOf) (p.parts names inside here d xs) _ (t-parts names inside here d xs q) (λ e r. t-given DoneOf DoneOf e a.settled_attribute r (λ f h. t-settled_attribute f h)))

t-valued_form : (names : Names) (inside : Inside) (here : Context) (d : KnownDenoted) (x : TypedPart) → DoneIn d x → Telling (p.valued_form names inside here d x)
t-valued_form names inside here (denoted.Sub first last m) x h = t-sub_call names inside here first first last m syntax.NoArg
t-valued_form names inside here (denoted.Io first last q r) x h = t-io_call names inside here first first last q r syntax.NoArg
t-valued_form names inside here d x h = t-some DoneOf (denote d x) h

pub t-valued_by : (names : Names) (inside : Inside) (here : Context) (d : Denoted) → DoneOf d → Telling (p.valued_by names inside here d)
unfolding p.valued_by
t-valued_by names inside here d h = t-valued_form names inside here d.known d.part h
