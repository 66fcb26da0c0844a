-- What names denote is right: what Names finds.
use Rattle.name_rules.specs.Expressions.{Inside}
use Rattle.name_rules.specs.Found.{Denoted, denote}
use Rattle.name_rules.specs.Symbols.{symbol}
use Rattle.name_rules.specs.Types.{component_of, dimensions_of, fields_of, shape_in}
use Rattle.name_rules.specs.declared.found.Denoted.TheVariants as denoted
use Rattle.name_rules.specs.declared.found.Denoted.{Denoted as KnownDenoted}
use Rattle.name_rules.specs.declared.found.Found.TheVariants as known
use Rattle.name_rules.specs.declared.found.ObjectName.{ObjectName}
use Rattle.name_rules.specs.declared.log.Field.{Field}
use Rattle.name_rules.specs.declared.log.Rule.TheVariants.{Unknown, WrongType}
use Rattle.name_rules.specs.declared.log.Shape.{Shape}
use Rattle.name_rules.specs.declared.scope.Context.{Context}
use Rattle.name_rules.specs.declared.scope.Names.{Names}
use Rattle.name_rules.specs.declared.types.Subtype.TheVariants as subtype
use Rattle.name_rules.specs.declared.types.Subtype.{Subtype}
use Rattle.syntax_tree.specs.Syntax.{Args}
use Rattle.typed_tree.specs.Decoded as part
use Rattle.std.specs.Prelude.{List, None, Option, Some, [], length, ℕ, ◌+◌, ◌==◌, ◌∷◌}
use Rattle.typed_tree.specs.Syntax as typed
use Rattle.name_rules.specs.TypedParts.{also}
use Rattle.typed_tree.specs.Decoded.{TypedPart}
use Rattle.name_rules.specs.Judging.{fault, given, some}
use Rattle.name_rules.specs.Names.{denoted_first, part_place, field_from, is_record, is_array, field_in, field_of, field_form, field, args_alone, wrong_call, count, indexes, indexed, component_cells, index_shape, array_call, object_call}
use Rattle.name_laws.proofs.CellsDeclared.{Ends, e-fault, e-given, e-if, e-some, e-where_clean}
use Rattle.name_laws.proofs.EndsScope.{e-selected}

pub e-field_from : (m0 : ℕ) (x0 : Names) (x1 : ObjectName) (x2 : TypedPart) (x3 : ℕ) (x4 : ℕ) (x5 : List Field) → Ends m0 (field_from x0 x1 x2 x3 x4 x5)
e-field_from m0 names p ss at i [] = e-fault m0 at Unknown
e-field_from m0 names p ss at i (f ∷ fs) = e-if m0 (f.symbol == symbol names at) (some (denote (part_place p f.subtype) (also ss (part.ASelection (typed.Field i f.offset))))) (field_from names p ss at (i + 1) fs) (e-some m0 (denote (part_place p f.subtype) (also ss (part.ASelection (typed.Field i f.offset)))) tt) (e-field_from m0 names p ss at (i + 1) fs)

pub e-field_in : (m0 : ℕ) (x0 : Names) (x1 : ObjectName) (x2 : TypedPart) (x3 : ℕ) (x4 : Option Shape) → Ends m0 (field_in x0 x1 x2 x3 x4)
e-field_in m0 names p ss at t = e-if m0 (is_record t) (field_from names p ss at 0 (fields_of t)) (fault p.first WrongType) (e-field_from m0 names p ss at 0 (fields_of t)) (e-fault m0 p.first WrongType)

pub e-field_of : (m0 : ℕ) (x0 : Names) (x1 : ObjectName) (x2 : TypedPart) (x3 : ℕ) (x4 : Subtype) → Ends m0 (field_of x0 x1 x2 x3 x4)
e-field_of m0 names p ss at (subtype.Composite n) = record { at = λ log. (e-field_in m0 names p ss at (shape_in log n)).at log }
e-field_of m0 names p ss at (subtype.Scalar s) = e-fault m0 p.first WrongType

pub e-field_form : (m0 : ℕ) (x0 : Names) (x1 : Context) (x2 : ℕ) (x3 : KnownDenoted) (x4 : TypedPart) → Ends m0 (field_form x0 x1 x2 x3 x4)
e-field_form m0 names here at (denoted.Package first library) x = e-selected m0 names here first library at
e-field_form m0 names here at (denoted.Value (known.Object p)) x = e-field_of m0 names p x at p.subtype
e-field_form m0 names here at d x = e-fault m0 (denoted_first d) WrongType

pub e-field : (m0 : ℕ) (x0 : Names) (x1 : Context) (x2 : ℕ) (x3 : Denoted) → Ends m0 (field x0 x1 x2 x3)
unfolding field
e-field m0 names here at d = e-field_form m0 names here at d.known d.part

pub e-wrong_call : (m0 : ℕ) (x0 : Names) (x1 : Inside) (x2 : Context) (x3 : ℕ) (x4 : Args) → Ends m0 (wrong_call x0 x1 x2 x3 x4)
unfolding wrong_call
e-wrong_call m0 names inside here first as' = e-where_clean m0 (args_alone names inside here as') (λ u. fault first WrongType) (λ u. e-fault m0 first WrongType)

pub e-indexed : (m0 : ℕ) (x0 : ObjectName) (x1 : ℕ) (x2 : ℕ) (x3 : ℕ) (x4 : Option Subtype) (x5 : TypedPart) → Ends m0 (indexed x0 x1 x2 x3 x4 x5)
e-indexed m0 p bracket wanted given None ss = e-fault m0 p.first WrongType
e-indexed m0 p bracket wanted given (Some c) ss = e-if m0 (wanted == given) (some (denote (part_place p c) ss)) (fault bracket WrongType) (e-some m0 (denote (part_place p c) ss) tt) (e-fault m0 bracket WrongType)

pub e-index_shape : (m0 : ℕ) (x0 : Names) (x1 : Inside) (x2 : Context) (x3 : ObjectName) (x4 : TypedPart) (x5 : ℕ) (x6 : Args) (x7 : Option Shape) (x8 : ℕ) → Ends m0 (index_shape x0 x1 x2 x3 x4 x5 x6 x7 x8)
e-index_shape m0 names inside here p ss bracket as' t cells = e-where_clean m0 (indexes names inside here (dimensions_of t) cells (Some ss) as') (λ r. given r (indexed p bracket (length (dimensions_of t)) (count as') (component_of t))) (λ r. e-given m0 r (indexed p bracket (length (dimensions_of t)) (count as') (component_of t)) (λ z1. e-indexed m0 p bracket (length (dimensions_of t)) (count as') (component_of t) z1))

pub e-array_call : (m0 : ℕ) (x0 : Names) (x1 : Inside) (x2 : Context) (x3 : ObjectName) (x4 : TypedPart) (x5 : ℕ) (x6 : Args) (x7 : Option Shape) (x8 : ℕ) → Ends m0 (array_call x0 x1 x2 x3 x4 x5 x6 x7 x8)
e-array_call m0 names inside here p ss bracket as' t cells = e-if m0 (is_array t) (index_shape names inside here p ss bracket as' t cells) (wrong_call names inside here p.first as') (e-index_shape m0 names inside here p ss bracket as' t cells) (e-wrong_call m0 names inside here p.first as')

pub e-object_call : (m0 : ℕ) (x0 : Names) (x1 : Inside) (x2 : Context) (x3 : ObjectName) (x4 : TypedPart) (x5 : ℕ) (x6 : Args) (x7 : Subtype) → Ends m0 (object_call x0 x1 x2 x3 x4 x5 x6 x7)
unfolding object_call
e-object_call m0 names inside here p ss bracket as' (subtype.Composite n) = record { at = λ log. (e-array_call m0 names inside here p ss bracket as' (shape_in log n) (component_cells log (component_of (shape_in log n)))).at log }
e-object_call m0 names inside here p ss bracket as' (subtype.Scalar s) = e-wrong_call m0 names inside here p.first as'
