-- The rules of names (4.1): what follows an identifier, over a judgement of the primaries in its brackets.
use Rattle.ada_base.specs.declared.reason.Reason.{Reason}
use Rattle.name_rules.specs.Expressions.{Inside, expr, judged_alone}
use Rattle.name_rules.specs.Found.{Denoted, Found, denote}
use Rattle.name_rules.specs.Judging.{Judging, fault, given, joined, pure, some, where_clean, ◌>>=◌}
use Rattle.name_rules.specs.Scope.{selected, stands_for}
use Rattle.name_rules.specs.Shapes.{primary_of_expr}
use Rattle.name_rules.specs.Symbols.{symbol}
use Rattle.name_rules.specs.Types.{cells_in, component_of, dimensions_of, fields_of, shape_in, stride}
use Rattle.name_rules.specs.Values.{asked, first_of}
use Rattle.name_rules.specs.declared.found.Denoted.TheVariants as denoted
use Rattle.name_rules.specs.declared.found.Denoted.{Denoted as KnownDenoted}
use Rattle.name_rules.specs.declared.found.Found.TheVariants as known
use Rattle.name_rules.specs.declared.found.ObjectName.{ObjectName}
use Rattle.name_rules.specs.declared.log.Dimension.{Dimension}
use Rattle.name_rules.specs.declared.log.Field.{Field}
use Rattle.name_rules.specs.declared.log.Log.{Log}
use Rattle.name_rules.specs.declared.log.Rule.TheVariants.{Unknown, WrongType}
use Rattle.name_rules.specs.declared.log.Shape.TheVariants as shape
use Rattle.name_rules.specs.declared.log.Shape.{Shape}
use Rattle.name_rules.specs.declared.scope.Context.{Context}
use Rattle.name_rules.specs.declared.scope.Names.{Names}
use Rattle.name_rules.specs.declared.types.Subtype.TheVariants as subtype
use Rattle.name_rules.specs.declared.types.Subtype.{Subtype}
use Rattle.name_rules.specs.declared.types.Wanted.TheVariants as wanted
use Rattle.syntax_tree.specs.Syntax as syntax
use Rattle.syntax_tree.specs.Syntax.{Arg, Args, Pack, Primary}
use Rattle.typed_tree.specs.Decoded as part
use Rattle.std.specs.Prelude.{Bool, List, None, Option, Some, [], drop, false, if◌then◌else◌, length, slice_get, true, ℕ, ◌+◌, ◌==◌, ◌∷◌}
use Rattle.typed_tree.specs.Syntax as typed
use Rattle.name_rules.specs.TypedParts.{also}
use Rattle.typed_tree.specs.Decoded.{TypedPart, as_expr}

abbrev pub denoted_first : KnownDenoted → ℕ
denoted_first (denoted.Value f) = first_of f
denoted_first (denoted.Parameter first s) = first
denoted_first (denoted.Type first s) = first
denoted_first (denoted.Sub first last n) = first
denoted_first (denoted.Done first) = first
denoted_first (denoted.Exception first r) = first
denoted_first (denoted.Package first p) = first
denoted_first (denoted.Io first last p r) = first
denoted_first (denoted.Attribute first p at a) = first
denoted_first (denoted.Range first d) = first

-- ---- selected components (4.1.3) and expanded names

-- a part of an object is no static constant
abbrev pub part_place : ObjectName → Subtype → KnownDenoted
part_place p t = denoted.Value (known.Object (record p { subtype = t; value = None }))

-- E05 Unknown: a component that the record doesn't have
abbrev pub field_from : Names → ObjectName → TypedPart → ℕ → ℕ → List Field → Judging (Option Denoted)
field_from names p ss at i [] = fault at Unknown
field_from names p ss at i (f ∷ fs) =
    if f.symbol == symbol names at then some (denote (part_place p f.subtype) (also ss (part.ASelection (typed.Field i f.offset)))) else field_from names p ss at (i + 1) fs

abbrev pub is_record : Option Shape → Bool
is_record (Some (shape.Record fs cells)) = true
is_record _ = false

abbrev pub is_array : Option Shape → Bool
is_array (Some (shape.Array ds c n cells)) = true
is_array _ = false

abbrev pub field_in : Names → ObjectName → TypedPart → ℕ → Option Shape → Judging (Option Denoted)
field_in names p ss at t = if is_record t then field_from names p ss at 0 (fields_of t) else fault p.first WrongType

-- a point after an object that is no record is a wrong type at the name's first token
abbrev pub field_of : Names → ObjectName → TypedPart → ℕ → Subtype → Judging (Option Denoted)
field_of names p ss at (subtype.Composite n) = λ log. field_in names p ss at (shape_in log n) log
field_of names p ss at (subtype.Scalar s) = fault p.first WrongType

abbrev pub field_form : Names → Context → ℕ → KnownDenoted → TypedPart → Judging (Option Denoted)
field_form names here at (denoted.Package first library) x = selected names here first library at
field_form names here at (denoted.Value (known.Object p)) x = field_of names p x at p.subtype
field_form names here at d x = fault (denoted_first d) WrongType

unfoldable pub field : Names → Context → ℕ → Denoted → Judging (Option Denoted)
field names here at d = field_form names here at d.known d.part

-- ---- arguments that are judged for themselves alone

abbrev pub is_string : Option Primary → Bool
is_string (Some (syntax.Text at)) = true
is_string _ = false

-- a string literal alone has no rule of its own there
abbrev pub arg_alone : Names → Inside → Context → Arg → Judging (Unit {0})
arg_alone names inside here (syntax.arg name e) = if is_string (primary_of_expr e) then pure tt else judged_alone names inside here e

abbrev pub args_alone : Names → Inside → Context → Args → Judging (Unit {0})
args_alone names inside here syntax.NoArg = pure tt
args_alone names inside here (syntax.AlsoArg a as') = arg_alone names inside here a >>= λ u. args_alone names inside here as'

-- a wrong use of a name with arguments: judged where these have no fault
unfoldable pub wrong_call : Names → Inside → Context → ℕ → Args → Judging (Option Denoted)
wrong_call names inside here first as' = where_clean (args_alone names inside here as') (λ u. fault first WrongType)

abbrev pub count : Args → ℕ
count syntax.NoArg = 0
count (syntax.AlsoArg a as') = count as' + 1

-- ---- indexed components (4.1.1)

abbrev pub selected_by : ℕ → Dimension → ℕ → TypedPart → TypedPart → TypedPart
selected_by at d apart ss e = also ss (part.ASelection (typed.Index at (as_expr e) d.low d.high apart))

-- an index joins the selections before it; one beyond the dimensions is judged for itself
abbrev pub index_in : Option Dimension → ℕ → Option TypedPart → Found → Judging (Option TypedPart)
index_in None apart done f = pure done
index_in (Some d) apart done f = asked d.kind f >>= λ e. pure (joined (selected_by (first_of f.known) d apart) done e)

abbrev pub index_where : Option Dimension → ℕ → Option TypedPart → Option Found → Judging (Option TypedPart)
index_where d apart ss None = pure None
index_where d apart ss (Some f) = index_in d apart ss f

-- E06: an argument with a name where none has one
abbrev pub unnamed : {A : Type 0} → Option ℕ → Option A → Judging (Option A)
unnamed None x = pure x
unnamed (Some name) x = fault name WrongType

unfoldable pub index : Names → Inside → Context → List Dimension → ℕ → Option TypedPart → Arg → Judging (Option TypedPart)
index names inside here ds cells done (syntax.arg name e) = do
  x ← expr names inside here wanted.Other e
  s ← index_where (slice_get ds 0) (stride ds cells) done x
  unnamed name s

abbrev pub indexes : Names → Inside → Context → List Dimension → ℕ → Option TypedPart → Args → Judging (Option TypedPart)
indexes names inside here ds cells done syntax.NoArg = pure done
indexes names inside here ds cells done (syntax.AlsoArg a as') = index names inside here ds cells done a >>= λ s. indexes names inside here (drop 1 ds) cells s as'

-- E06: wrong number of indexes, at the opening bracket
abbrev pub indexed : ObjectName → ℕ → ℕ → ℕ → Option Subtype → TypedPart → Judging (Option Denoted)
indexed p bracket wanted given None ss = fault p.first WrongType
indexed p bracket wanted given (Some c) ss = if wanted == given then some (denote (part_place p c) ss) else fault bracket WrongType

abbrev pub component_cells : Log → Option Subtype → ℕ
component_cells log None = 1
component_cells log (Some s) = cells_in log s

abbrev pub index_shape : Names → Inside → Context → ObjectName → TypedPart → ℕ → Args → Option Shape → ℕ → Judging (Option Denoted)
index_shape names inside here p ss bracket as' t cells =
    where_clean (indexes names inside here (dimensions_of t) cells (Some ss) as')
    (λ r. given r (indexed p bracket (length (dimensions_of t)) (count as') (component_of t)))

-- a bracket after a scalar or record is a wrong type at the name's first token
abbrev pub array_call : Names → Inside → Context → ObjectName → TypedPart → ℕ → Args → Option Shape → ℕ → Judging (Option Denoted)
array_call names inside here p ss bracket as' t cells =
    if is_array t then index_shape names inside here p ss bracket as' t cells else wrong_call names inside here p.first as'

unfoldable pub object_call : Names → Inside → Context → ObjectName → TypedPart → ℕ → Args → Subtype → Judging (Option Denoted)
object_call names inside here p ss bracket as' (subtype.Composite n) = λ log. array_call names inside here p ss bracket as' (shape_in log n) (component_cells log (component_of (shape_in log n))) log
object_call names inside here p ss bracket as' (subtype.Scalar s) = wrong_call names inside here p.first as'

-- ---- the name of an exception (11.2)

-- a name of more than a library and a name in it is no exception
abbrev pub field_of_pack : Names → Context → ℕ → KnownDenoted → Judging (Option Denoted)
field_of_pack names here t (denoted.Package first library) = selected names here first library t
field_of_pack names here t d = fault (denoted_first d) WrongType

abbrev pub pack_from : Names → Context → Option Denoted → List ℕ → Judging (Option Denoted)
pack_from names here d [] = pure d
pack_from names here d (t ∷ ts) = given d (λ x. field_of_pack names here t x.known) >>= λ e. pack_from names here e ts

abbrev pub as_exception : KnownDenoted → Judging (Option Reason)
as_exception (denoted.Exception first r) = some r
as_exception d = fault (denoted_first d) WrongType

unfoldable pub exception : Names → Context → Pack → Judging (Option Reason)
exception names here p = do
  d ← stands_for names here p.first
  e ← pack_from names here d p.more
  given e (λ x. as_exception x.known)
