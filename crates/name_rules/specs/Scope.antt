-- What names stand for (8.2, 8.3). A scope is the list of what was declared, the latest last: a name hides an outer
-- one from where its declaration begins, and is visible from its end on; both are entries.
use Rattle.ada_base.specs.declared.reason.Reason.TheVariants as reason
use Rattle.name_rules.specs.Found.{Denoted, denote}
use Rattle.name_rules.specs.Judging.{Judging, fault, given, pure, some, ◌>>=◌}
use Rattle.name_rules.specs.Symbols.{ada_name, boolean_name, constraint_error_name, data_error_name, end_error_name, false_name, get_name, integer_io_name, integer_name, natural_name, new_line_name, positive_name, program_error_name, put_line_name, put_name, storage_error_name, symbol, text_io_name, true_name}
use Rattle.name_rules.specs.declared.found.Denoted.TheVariants as denoted
use Rattle.name_rules.specs.declared.found.Denoted.{Denoted as KnownDenoted}
use Rattle.name_rules.specs.declared.found.Found.TheVariants as known
use Rattle.name_rules.specs.declared.found.ObjectName.{ObjectName}
use Rattle.name_rules.specs.declared.found.Put.TheVariants as put
use Rattle.name_rules.specs.declared.found.Put.{Put}
use Rattle.name_rules.specs.declared.found.Reach.{Reach}
use Rattle.name_rules.specs.declared.log.Rule.TheVariants.{NotVisible, Twice, Unknown, WrongType}
use Rattle.name_rules.specs.declared.scope.Context.{Context}
use Rattle.name_rules.specs.declared.scope.Entry.{Entry}
use Rattle.name_rules.specs.declared.scope.Names.{Names}
use Rattle.name_rules.specs.declared.scope.Packages.{Packages}
use Rattle.name_rules.specs.declared.scope.What.TheVariants as what
use Rattle.name_rules.specs.declared.scope.What.{What}
use Rattle.name_rules.specs.declared.types.Kind.TheVariants as kind
use Rattle.name_rules.specs.declared.types.Scalar.{Scalar}
use Rattle.name_rules.specs.declared.types.Subtype.TheVariants as subtype
use Rattle.name_rules.specs.declared.types.Subtype.{Subtype}
use Rattle.typed_tree.specs.Decoded as part
use Rattle.typed_tree.specs.Syntax as typed
use Rattle.typed_tree.specs.declared.expressions.Root.TheVariants as root
use Rattle.std.specs.List.{find, list_any}
use Rattle.std.specs.Prelude.{Bool, List, None, Option, Some, [], drop, false, if◌then◌else◌, negsuc, not, option_map, pos, reverse, true, ℕ, ℤ, ◌&&◌, ◌++◌, ◌==◌, ◌||◌, ◌∷◌}

-- ---- the standard library (A.1)

abbrev pub boolean : Scalar
boolean = record { kind = kind.Boolean; low = pos 0; high = pos 1 }

abbrev pub integer : Scalar
integer = record { kind = kind.Integer; low = negsuc 2147483647; high = pos 2147483647 }

abbrev pub natural : Scalar
natural = record { kind = kind.Integer; low = pos 0; high = pos 2147483647 }

abbrev pub positive : Scalar
positive = record { kind = kind.Integer; low = pos 1; high = pos 2147483647 }

abbrev pub entry : ℕ → What → Entry
entry name w = record { symbol = name; what = w }

abbrev pub standard : List Entry
standard =
    entry boolean_name (what.Type (subtype.Scalar boolean))
    ∷ entry true_name (what.Boolean true)
    ∷ entry false_name (what.Boolean false)
    ∷ entry integer_name (what.Type (subtype.Scalar integer))
    ∷ entry natural_name (what.Type (subtype.Scalar natural))
    ∷ entry positive_name (what.Type (subtype.Scalar positive))
    ∷ entry constraint_error_name (what.Exception reason.ConstraintError)
    ∷ entry program_error_name (what.Exception reason.ProgramError)
    ∷ entry storage_error_name (what.Exception reason.StorageError)
    ∷ []

-- ---- entries

-- of several declarations of a name the one that was made last
abbrev pub lookup : ℕ → List Entry → Option What
lookup name scope = option_map (λ e. e.what) (find (λ e. e.symbol == name) (reverse scope))

abbrev pub with_entry : Context → ℕ → What → Context
with_entry here name w = record here { scope = here.scope ++ entry name w ∷ [] }

-- a name is declared in the region that begins at that place of the scope
abbrev pub is_taken : ℕ → ℕ → Context → Bool
is_taken name start here = list_any (λ e. e.symbol == name) (drop start here.scope)

-- E05 Twice: a second declaration of a name in one declarative region (8.3); it declares nothing
unfoldable pub free : Names → ℕ → Context → ℕ → Judging (Option ℕ)
free names start here token = if is_taken (symbol names token) start here then fault token Twice else some token

-- a name that is being declared hides outer ones
abbrev pub hidden : Names → Context → ℕ → Context
hidden names here token = with_entry here (symbol names token) what.Hidden

-- a second declaration of a name hides nothing
abbrev pub hidden_where : Names → Context → ℕ → Option ℕ → Context
hidden_where names here token None = here
hidden_where names here token (Some t) = hidden names here token

-- a name whose declaration has ended; one with a fault is Broken, and nothing is judged of its uses
abbrev pub declared : Names → Context → ℕ → Option What → Context
declared names here token (Some w) = with_entry here (symbol names token) w
declared names here token None = with_entry here (symbol names token) what.Broken

-- what has no part
abbrev pub named : KnownDenoted → Judging (Option Denoted)
named d = some (denote d part.Nothing)

-- ---- predefined packages (A.10)

abbrev pub in_text_io : ℕ → Bool
in_text_io name = name == put_name || name == put_line_name || name == new_line_name || name == data_error_name || name == end_error_name

abbrev pub in_integer_io : ℕ → Bool
in_integer_io name = name == put_name || name == get_name

abbrev pub procedure_of : ℕ → Put
procedure_of name = if name == put_line_name then put.PutLine else if name == new_line_name then put.NewLine else if name == get_name then put.Get else put.Put

abbrev pub predefined : ℕ → ℕ → ℕ → Reach → KnownDenoted
predefined first token name reach =
    if name == data_error_name then denoted.Exception first reason.DataError else
    if name == end_error_name then denoted.Exception first reason.EndError else denoted.Io first token (procedure_of name) reach

-- E05 NotVisible: a simple name of a library without its use clause
abbrev pub used_name : ℕ → ℕ → Reach → Judging (Option Denoted)
used_name token name reach = if reach.text_io || reach.integer_io then named (predefined token token name reach) else fault token NotVisible

abbrev pub reach_of : Packages → ℕ → Reach
reach_of used name = record { text_io = used.text_io && in_text_io name; integer_io = used.integer_io && in_integer_io name; expanded = false }

abbrev pub is_withed : Packages → ℕ → Bool
is_withed packages name = if name == text_io_name then packages.text_io else packages.integer_io

-- E05 Unknown, at an identifier with no declaration in scope; a name of Ada needs its use clause
abbrev pub undeclared : Context → ℕ → ℕ → Judging (Option Denoted)
undeclared here token name =
    if in_text_io name || in_integer_io name then used_name token name (reach_of here.used name) else
    if name == ada_name then named (denoted.Package token ada_name) else
    if (name == text_io_name || name == integer_io_name) && here.used.ada
    then (if is_withed here.withed name then named (denoted.Package token name) else fault token NotVisible) else fault token Unknown

-- ---- an identifier

abbrev pub object : ℕ → ℕ → Subtype → Bool → Option ℤ → ObjectName
object token n s v z = record { first = token; root = root.Object n; subtype = s; variable = v; value = z }

abbrev pub item : ℕ → ℕ → Subtype → Bool → ObjectName
item token n s v = record { first = token; root = root.Item n; subtype = s; variable = v; value = None }

abbrev pub bit : Bool → ℤ
bit true = pos 1
bit false = pos 0

-- E05 NotVisible: a simple name inside the declaration that declares it
abbrev pub stands : Context → ℕ → ℕ → Option What → Judging (Option Denoted)
stands here token name None = undeclared here token name
stands here token name (Some what.Hidden) = fault token NotVisible
stands here token name (Some what.Broken) = pure None
stands here token name (Some (what.Object n s v z)) = named (denoted.Value (known.Object (object token n s v z)))
stands here token name (Some (what.Parameter n s)) = some (denote (denoted.Parameter token s) (part.AnExpr (typed.Parameter token n)))
stands here token name (Some (what.Item n s v)) = named (denoted.Value (known.Object (item token n s v)))
stands here token name (Some (what.Number z)) = named (denoted.Value (known.Universal token z false))
stands here token name (Some (what.Boolean b)) = named (denoted.Value (known.Static token kind.Boolean (bit b)))
stands here token name (Some (what.Type s)) = named (denoted.Type token s)
stands here token name (Some (what.Sub n)) = named (denoted.Sub token token n)
stands here token name (Some (what.Exception r)) = named (denoted.Exception token r)

unfoldable pub stands_for : Names → Context → ℕ → Judging (Option Denoted)
stands_for names here token = stands here token (symbol names token) (lookup (symbol names token) here.scope)

-- ---- an expanded name of a library (4.1.3)

abbrev pub in_package : ℕ → ℕ → Bool
in_package library name = if library == text_io_name then in_text_io name else in_integer_io name

abbrev pub expanded_reach : ℕ → Reach
expanded_reach library = record { text_io = library == text_io_name; integer_io = library == integer_io_name; expanded = true }

-- E05 NotVisible: an expanded name without the with clause
abbrev pub in_ada : Context → ℕ → ℕ → ℕ → Judging (Option Denoted)
in_ada here first token name =
    if not (name == text_io_name || name == integer_io_name) then fault token Unknown else
    if is_withed here.withed name then named (denoted.Package first name) else fault first NotVisible

unfoldable pub selected : Names → Context → ℕ → ℕ → ℕ → Judging (Option Denoted)
selected names here first library token =
    if library == ada_name then in_ada here first token (symbol names token) else
    if in_package library (symbol names token) then named (predefined first token (symbol names token) (expanded_reach library)) else fault token Unknown

-- ---- names that must be of a subtype, or of an exception

-- E06: a name that is used as what it isn't
abbrev pub as_type : ℕ → KnownDenoted → Judging (Option Subtype)
as_type token (denoted.Type first s) = some s
as_type token d = fault token WrongType

unfoldable pub subtype_named : Names → Context → ℕ → Judging (Option Subtype)
subtype_named names here token = stands_for names here token >>= λ d. given d (λ x. as_type token x.known)

abbrev pub as_scalar : ℕ → Subtype → Judging (Option Scalar)
as_scalar token (subtype.Scalar s) = some s
as_scalar token (subtype.Composite n) = fault token WrongType

unfoldable pub scalar_named : Names → Context → ℕ → Judging (Option Scalar)
scalar_named names here token = subtype_named names here token >>= λ s. given s (as_scalar token)
