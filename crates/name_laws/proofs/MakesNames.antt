-- What is found fits: parts of names, where what stands in their brackets fits.
use Rattle.std.proofs.Common.{ℕ, List, [], ◌∷◌, length, Option, Some, None, ◌==◌, ◌+◌, drop, slice_get}
use Rattle.syntax_tree.specs.Syntax as syntax
use Rattle.syntax_tree.specs.Syntax.{Arg, Args}
use Rattle.typed_tree.specs.Decoded as part
use Rattle.typed_tree.specs.Decoded.{TypedPart}
use Rattle.typed_tree.specs.Syntax as typed
use Rattle.name_rules.specs.Expressions.{Inside, expr}
use Rattle.name_rules.specs.Found.{Denoted, Found, denote}
use Rattle.name_rules.specs.Judging.{fault, given, joined}
use Rattle.name_rules.specs.Names.{args_alone, array_call, component_cells, count, denoted_first, field, field_form, field_from, field_in, field_of, index, index_in, index_shape, index_where, indexed, indexes, is_array, is_record, object_call, part_place, selected_by, unnamed, wrong_call}
use Rattle.name_rules.specs.Symbols.{symbol}
use Rattle.name_rules.specs.TypedParts.{also}
use Rattle.name_rules.specs.Types.{class_of, component_of, dimensions_of, fields_of, shape_in, stride}
use Rattle.name_rules.specs.Values.{asked, first_of}
use Rattle.name_rules.specs.declared.found.Denoted.TheVariants as denoted
use Rattle.name_rules.specs.declared.found.Denoted.{Denoted as KnownDenoted}
use Rattle.name_rules.specs.declared.found.Found.TheVariants as known
use Rattle.name_rules.specs.declared.found.ObjectName.{ObjectName}
use Rattle.name_rules.specs.declared.log.Dimension.{Dimension}
use Rattle.name_rules.specs.declared.log.Field.{Field}
use Rattle.name_rules.specs.declared.log.Rule.TheVariants.{Unknown, WrongType}
use Rattle.name_rules.specs.declared.log.Shape.{Shape}
use Rattle.name_rules.specs.declared.scope.Context.{Context}
use Rattle.name_rules.specs.declared.scope.Names.{Names}
use Rattle.name_rules.specs.declared.types.Subtype.{Subtype}
use Rattle.name_rules.specs.declared.types.Subtype.TheVariants as subtype
use Rattle.name_rules.specs.declared.types.Wanted.TheVariants as wanted
use Rattle.name_laws.proofs.Based.{none-based, spanning}
use Rattle.name_laws.proofs.KeepsNames.{k-args_alone}
use Rattle.name_laws.proofs.Makes.{Any, Each, Makes, Maybe, joint, m-bind, m-fault, m-given, m-if, m-kept, m-none, m-pure, m-some, m-where_clean}
use Rattle.name_laws.proofs.MakesExpressions.{Finding, LevelFits, m-expr}
use Rattle.name_laws.proofs.MakesScope.{DenotedOf, DenotesOf, m-selected}
use Rattle.name_laws.proofs.MakesValues.{AskedOf, FoundOf, IsSelection, m-asked}
use Rattle.name_laws.specs.Based.{AreBased}

-- selections that fit
abbrev pub SelectionsOf : TypedPart → Type 0
SelectionsOf x = Each IsSelection x

pub m-wrong_call : (names : Names) (inside : Inside) (here : Context) (first : ℕ) (as' : Args) → LevelFits inside → Makes (Maybe DenotedOf) (wrong_call names inside here first as')
unfolding wrong_call
m-wrong_call names inside here first as' l =
    m-where_clean Any DenotedOf (args_alone names inside here as') (λ u. fault first WrongType) (m-kept (args_alone names inside here as') (k-args_alone spanning names inside here as' tt l.keeps)) (λ u q. m-fault DenotedOf first WrongType)

-- ---- selected components

m-field_from : (names : Names) (p : ObjectName) (ss : TypedPart) (at i : ℕ) (fs : List Field) → SelectionsOf ss → Makes (Maybe DenotedOf) (field_from names p ss at i fs)
m-field_from names p ss at i [] h = m-fault DenotedOf at Unknown
m-field_from names p ss at i (f ∷ fs) h =
    m-if (Maybe DenotedOf) (f.symbol == symbol names at) _ (field_from names p ss at (i + 1) fs)
    (m-some DenotedOf (denote (part_place p f.subtype) (also ss (part.ASelection (typed.Field i f.offset)))) (none-based f.subtype, ((λ rest r. r), h))) (m-field_from names p ss at (i + 1) fs h)

m-field_in : (names : Names) (p : ObjectName) (ss : TypedPart) (at : ℕ) (t : Option Shape) → SelectionsOf ss → Makes (Maybe DenotedOf) (field_in names p ss at t)
m-field_in names p ss at t h = m-if (Maybe DenotedOf) (is_record t) (field_from names p ss at 0 (fields_of t)) (fault p.first WrongType) (m-field_from names p ss at 0 (fields_of t) h) (m-fault DenotedOf p.first WrongType)

m-field_of : (names : Names) (p : ObjectName) (ss : TypedPart) (at : ℕ) (t : Subtype) → SelectionsOf ss → Makes (Maybe DenotedOf) (field_of names p ss at t)
m-field_of names p ss at (subtype.Composite n) h = record { at = λ log g. (m-field_in names p ss at (shape_in log n) h).at log g }
m-field_of names p ss at (subtype.Scalar s) h = m-fault DenotedOf p.first WrongType

m-field_form : (names : Names) (here : Context) (at : ℕ) (k : KnownDenoted) (x : TypedPart) → DenotesOf k x → Makes (Maybe DenotedOf) (field_form names here at k x)
m-field_form names here at (denoted.Package first library) x h = m-selected names here first library at
m-field_form names here at (denoted.Value (known.Object p)) x h = m-field_of names p x at p.subtype h.1
m-field_form names here at k x h = m-fault DenotedOf (denoted_first k) WrongType

pub m-field : (names : Names) (here : Context) (at : ℕ) (d : Denoted) → DenotedOf d → Makes (Maybe DenotedOf) (field names here at d)
unfolding field
m-field names here at d h = m-field_form names here at d.known d.part h

-- ---- indexed components

selected-by : (at : ℕ) (d : Dimension) (apart : ℕ) (ss e : TypedPart) → SelectionsOf ss → AskedOf d.kind e → SelectionsOf (selected_by at d apart ss e)
selected-by at d apart ss e g h = ((λ rest r. ((class_of d.kind, h), r)), g)

m-index_in : (d : Option Dimension) (apart : ℕ) (made : Option TypedPart) (f : Found) → Maybe SelectionsOf made → FoundOf f → Makes (Maybe SelectionsOf) (index_in d apart made f)
m-index_in None apart made f g h = m-pure (Maybe SelectionsOf) made g
m-index_in (Some d) apart made f g h =
    m-bind (Maybe (AskedOf d.kind)) (Maybe SelectionsOf) (asked d.kind f) _ (m-asked d.kind f h) (λ e q.
    m-pure (Maybe SelectionsOf) (joined (selected_by (first_of f.known) d apart) made e) (joint SelectionsOf (AskedOf d.kind) SelectionsOf (selected_by (first_of f.known) d apart) made e g q (selected-by (first_of f.known) d apart)))

m-index_where : (d : Option Dimension) (apart : ℕ) (ss : Option TypedPart) (x : Option Found) → Maybe SelectionsOf ss → Finding x → Makes (Maybe SelectionsOf) (index_where d apart ss x)
m-index_where d apart ss None g h = m-none SelectionsOf
m-index_where d apart ss (Some f) g h = m-index_in d apart ss f g h

m-unnamed : {A : Type 0} (Q : A → Type 0) (n : Option ℕ) (x : Option A) → Maybe Q x → Makes (Maybe Q) (unnamed n x)
m-unnamed Q None x h = m-pure (Maybe Q) x h
m-unnamed Q (Some n) x h = m-fault Q n WrongType

m-index : (names : Names) (inside : Inside) (here : Context) (ds : List Dimension) (cells : ℕ) (made : Option TypedPart) (a : Arg) → LevelFits inside → AreBased here.scope → Maybe SelectionsOf made → Makes (Maybe SelectionsOf) (index names inside here ds cells made a)
unfolding index
m-index names inside here ds cells made (syntax.arg name e) l r g =
    m-bind Finding (Maybe SelectionsOf) (expr names inside here wanted.Other e) _ (m-expr names inside here wanted.Other e l r) (λ x q.
    m-bind (Maybe SelectionsOf) (Maybe SelectionsOf) (index_where (slice_get ds 0) (stride ds cells) made x) _ (m-index_where (slice_get ds 0) (stride ds cells) made x g q) (λ s t. m-unnamed SelectionsOf name s t))

m-indexes : (names : Names) (inside : Inside) (here : Context) (ds : List Dimension) (cells : ℕ) (made : Option TypedPart) (as' : Args) → LevelFits inside → AreBased here.scope → Maybe SelectionsOf made → Makes (Maybe SelectionsOf) (indexes names inside here ds cells made as')
m-indexes names inside here ds cells made syntax.NoArg l r g = m-pure (Maybe SelectionsOf) made g
m-indexes names inside here ds cells made (syntax.AlsoArg a as') l r g =
    m-bind (Maybe SelectionsOf) (Maybe SelectionsOf) (index names inside here ds cells made a) _ (m-index names inside here ds cells made a l r g) (λ s q. m-indexes names inside here (drop 1 ds) cells s as' l r q)

m-indexed : (p : ObjectName) (bracket wanted given : ℕ) (c : Option Subtype) (ss : TypedPart) → SelectionsOf ss → Makes (Maybe DenotedOf) (indexed p bracket wanted given c ss)
m-indexed p bracket wanted given None ss h = m-fault DenotedOf p.first WrongType
m-indexed p bracket wanted given (Some c) ss h = m-if (Maybe DenotedOf) (wanted == given) _ (fault bracket WrongType) (m-some DenotedOf (denote (part_place p c) ss) (none-based c, h)) (m-fault DenotedOf bracket WrongType)

m-index_shape : (names : Names) (inside : Inside) (here : Context) (p : ObjectName) (ss : TypedPart) (bracket : ℕ) (as' : Args) (t : Option Shape) (cells : ℕ) → LevelFits inside → AreBased here.scope → SelectionsOf ss
    → Makes (Maybe DenotedOf) (index_shape names inside here p ss bracket as' t cells)
m-index_shape names inside here p ss bracket as' t cells l r h =
    m-where_clean (Maybe SelectionsOf) DenotedOf (indexes names inside here (dimensions_of t) cells (Some ss) as') _ (m-indexes names inside here (dimensions_of t) cells (Some ss) as' l r h) (λ x q.
    m-given SelectionsOf DenotedOf x _ q (λ y s. m-indexed p bracket (length (dimensions_of t)) (count as') (component_of t) y s))

m-array_call : (names : Names) (inside : Inside) (here : Context) (p : ObjectName) (ss : TypedPart) (bracket : ℕ) (as' : Args) (t : Option Shape) (cells : ℕ) → LevelFits inside → AreBased here.scope → SelectionsOf ss
    → Makes (Maybe DenotedOf) (array_call names inside here p ss bracket as' t cells)
m-array_call names inside here p ss bracket as' t cells l r h =
    m-if (Maybe DenotedOf) (is_array t) (index_shape names inside here p ss bracket as' t cells) (wrong_call names inside here p.first as') (m-index_shape names inside here p ss bracket as' t cells l r h) (m-wrong_call names inside here p.first as' l)

pub m-object_call : (names : Names) (inside : Inside) (here : Context) (p : ObjectName) (ss : TypedPart) (bracket : ℕ) (as' : Args) (s : Subtype) → LevelFits inside → AreBased here.scope → SelectionsOf ss
    → Makes (Maybe DenotedOf) (object_call names inside here p ss bracket as' s)
unfolding object_call
m-object_call names inside here p ss bracket as' (subtype.Composite n) l r h =
    record { at = λ log g. (m-array_call names inside here p ss bracket as' (shape_in log n) (component_cells log (component_of (shape_in log n))) l r h).at log g }
m-object_call names inside here p ss bracket as' (subtype.Scalar s) l r h = m-wrong_call names inside here p.first as' l
