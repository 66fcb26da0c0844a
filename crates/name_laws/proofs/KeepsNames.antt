-- What holds of each line of the log holds of what Names judges.
use Rattle.name_rules.specs.Expressions.{Inside, expr, judged_alone}
use Rattle.name_rules.specs.Found.{Denoted, Found, denote}
use Rattle.name_rules.specs.Scope.{stands_for}
use Rattle.name_rules.specs.Shapes.{primary_of_expr}
use Rattle.name_rules.specs.Symbols.{symbol}
use Rattle.name_rules.specs.Types.{component_of, dimensions_of, fields_of, shape_in, stride}
use Rattle.name_rules.specs.Values.{asked, first_of}
use Rattle.name_rules.specs.declared.found.Denoted.TheVariants as denoted
use Rattle.name_rules.specs.declared.found.Denoted.{Denoted as KnownDenoted}
use Rattle.name_rules.specs.declared.found.Found.TheVariants as known
use Rattle.name_rules.specs.declared.found.ObjectName.{ObjectName}
use Rattle.name_rules.specs.declared.log.Dimension.{Dimension}
use Rattle.name_rules.specs.declared.log.Field.{Field}
use Rattle.name_rules.specs.declared.log.Rule.TheVariants.{Unknown, WrongType}
use Rattle.name_rules.specs.declared.log.Shape.{Shape}
use Rattle.name_rules.specs.declared.scope.Context.{Context}
use Rattle.name_rules.specs.declared.scope.Names.{Names}
use Rattle.name_rules.specs.declared.types.Subtype.TheVariants as subtype
use Rattle.name_rules.specs.declared.types.Subtype.{Subtype}
use Rattle.name_rules.specs.declared.types.Wanted.TheVariants as wanted
use Rattle.syntax_tree.specs.Syntax as syntax
use Rattle.syntax_tree.specs.Syntax.{Arg, Args, Pack}
use Rattle.typed_tree.specs.Decoded as part
use Rattle.std.specs.Prelude.{List, None, Option, Some, [], drop, length, slice_get, ℕ, ◌+◌, ◌==◌, ◌∷◌}
use Rattle.typed_tree.specs.Syntax as typed
use Rattle.name_rules.specs.TypedParts.{also}
use Rattle.typed_tree.specs.Decoded.{TypedPart}
use Rattle.name_rules.specs.Judging.{fault, given, joined, pure, some}
use Rattle.name_rules.specs.Names.{denoted_first, part_place, field_from, is_record, is_array, field_in, field_of, field_form, field, is_string, arg_alone, args_alone, wrong_call, count, selected_by, index_in, index_where, unnamed, index, indexes, indexed, component_cells, index_shape, array_call, object_call, field_of_pack, pack_from, as_exception, exception}
use Rattle.name_laws.proofs.Walk.{Walk, Keeps, k-pure, k-some, k-bind, k-fault, k-if, k-given, k-where_clean}
use Rattle.name_laws.proofs.Walked.{KeepsInside}
use Rattle.name_laws.proofs.KeepsExpressions.{k-expr, k-judged_alone}
use Rattle.name_laws.proofs.KeepsScope.{k-selected, k-stands_for}
use Rattle.name_laws.proofs.KeepsValues.{k-asked}

pub k-field_from : (walk : Walk) (x0 : Names) (x1 : ObjectName) (x2 : TypedPart) (x3 : ℕ) (x4 : ℕ) (x5 : List Field) → walk.Takes x0 → Keeps walk (field_from x0 x1 x2 x3 x4 x5)
k-field_from walk names p ss at i [] keeps1 = k-fault walk at Unknown
k-field_from walk names p ss at i (f ∷ fs) keeps1 = k-if walk (f.symbol == symbol names at) (some (denote (part_place p f.subtype) (also ss (part.ASelection (typed.Field i f.offset))))) (field_from names p ss at (i + 1) fs) (k-some walk (denote (part_place p f.subtype) (also ss (part.ASelection (typed.Field i f.offset))))) (k-field_from walk names p ss at (i + 1) fs keeps1)

pub k-field_in : (walk : Walk) (x0 : Names) (x1 : ObjectName) (x2 : TypedPart) (x3 : ℕ) (x4 : Option Shape) → walk.Takes x0 → Keeps walk (field_in x0 x1 x2 x3 x4)
k-field_in walk names p ss at t keeps1 = k-if walk (is_record t) (field_from names p ss at 0 (fields_of t)) (fault p.first WrongType) (k-field_from walk names p ss at 0 (fields_of t) keeps1) (k-fault walk p.first WrongType)

pub k-field_of : (walk : Walk) (x0 : Names) (x1 : ObjectName) (x2 : TypedPart) (x3 : ℕ) (x4 : Subtype) → walk.Takes x0 → Keeps walk (field_of x0 x1 x2 x3 x4)
k-field_of walk names p ss at (subtype.Composite n) keeps1 = (record { at = λ log. (k-field_in walk names p ss at (shape_in log n) keeps1).at log })
k-field_of walk names p ss at (subtype.Scalar s) keeps1 = k-fault walk p.first WrongType

pub k-field_form : (walk : Walk) (x0 : Names) (x1 : Context) (x2 : ℕ) (x3 : KnownDenoted) (x4 : TypedPart) → walk.Takes x0 → Keeps walk (field_form x0 x1 x2 x3 x4)
k-field_form walk names here at (denoted.Package first library) x keeps1 = k-selected walk names here first library at keeps1
k-field_form walk names here at (denoted.Value (known.Object p)) x keeps1 = k-field_of walk names p x at p.subtype keeps1
k-field_form walk names here at d x keeps1 = k-fault walk (denoted_first d) WrongType

pub k-field : (walk : Walk) (x0 : Names) (x1 : Context) (x2 : ℕ) (x3 : Denoted) → walk.Takes x0 → Keeps walk (field x0 x1 x2 x3)
unfolding field
k-field walk names here at d keeps1 = k-field_form walk names here at d.known d.part keeps1

pub k-arg_alone : (walk : Walk) (x0 : Names) (x1 : Inside) (x2 : Context) (x3 : Arg) → walk.Takes x0 → KeepsInside walk x1 → Keeps walk (arg_alone x0 x1 x2 x3)
k-arg_alone walk names inside here (syntax.arg name e) keeps1 keeps2 = k-if walk (is_string (primary_of_expr e)) (pure tt) (judged_alone names inside here e) (k-pure walk tt) (k-judged_alone walk names inside here e keeps1 keeps2)

pub k-args_alone : (walk : Walk) (x0 : Names) (x1 : Inside) (x2 : Context) (x3 : Args) → walk.Takes x0 → KeepsInside walk x1 → Keeps walk (args_alone x0 x1 x2 x3)
k-args_alone walk names inside here syntax.NoArg keeps1 keeps2 = k-pure walk tt
k-args_alone walk names inside here (syntax.AlsoArg a as') keeps1 keeps2 = k-bind walk (arg_alone names inside here a) (λ u. args_alone names inside here as') (k-arg_alone walk names inside here a keeps1 keeps2) (λ u. k-args_alone walk names inside here as' keeps1 keeps2)

pub k-wrong_call : (walk : Walk) (x0 : Names) (x1 : Inside) (x2 : Context) (x3 : ℕ) (x4 : Args) → walk.Takes x0 → KeepsInside walk x1 → Keeps walk (wrong_call x0 x1 x2 x3 x4)
unfolding wrong_call
k-wrong_call walk names inside here first as' keeps1 keeps2 = k-where_clean walk (args_alone names inside here as') (λ u. fault first WrongType) (k-args_alone walk names inside here as' keeps1 keeps2) (λ u. k-fault walk first WrongType)

pub k-index_in : (walk : Walk) (x0 : Option Dimension) (x1 : ℕ) (x2 : Option TypedPart) (x3 : Found) → Keeps walk (index_in x0 x1 x2 x3)
k-index_in walk None apart made f = k-pure walk made
k-index_in walk (Some d) apart made f = k-bind walk (asked d.kind f) (λ e. pure (joined (selected_by (first_of f.known) d apart) made e)) (k-asked walk d.kind f) (λ e. k-pure walk (joined (selected_by (first_of f.known) d apart) made e))

pub k-index_where : (walk : Walk) (x0 : Option Dimension) (x1 : ℕ) (x2 : Option TypedPart) (x3 : Option Found) → Keeps walk (index_where x0 x1 x2 x3)
k-index_where walk d apart ss None = k-pure walk None
k-index_where walk d apart ss (Some f) = k-index_in walk d apart ss f

pub k-unnamed : (walk : Walk) {A : Type 0} (x0 : Option ℕ) (x1 : Option A) → Keeps walk (unnamed x0 x1)
k-unnamed walk None x = k-pure walk x
k-unnamed walk (Some name) x = k-fault walk name WrongType

pub k-index : (walk : Walk) (x0 : Names) (x1 : Inside) (x2 : Context) (x3 : List Dimension) (x4 : ℕ) (x5 : Option TypedPart) (x6 : Arg) → walk.Takes x0 → KeepsInside walk x1 → Keeps walk (index x0 x1 x2 x3 x4 x5 x6)
unfolding index
k-index walk names inside here ds cells made (syntax.arg name e) keeps1 keeps2 = record {
  at = λ log.
      let out1 = expr names inside here wanted.Other e log in
      let x = out1.0 in
      let out2 = index_where (slice_get ds 0) (stride ds cells) made x out1.1 in
      let s = out2.0 in
      walk.joins _ _ _ ((k-expr walk names inside here wanted.Other e keeps1 keeps2).at log)
      (walk.joins _ _ _ ((k-index_where walk (slice_get ds 0) (stride ds cells) made x).at out1.1)
      ((k-unnamed walk name s).at out2.1));
}

pub k-indexes : (walk : Walk) (x0 : Names) (x1 : Inside) (x2 : Context) (x3 : List Dimension) (x4 : ℕ) (x5 : Option TypedPart) (x6 : Args) → walk.Takes x0 → KeepsInside walk x1 → Keeps walk (indexes x0 x1 x2 x3 x4 x5 x6)
k-indexes walk names inside here ds cells made syntax.NoArg keeps1 keeps2 = k-pure walk made
k-indexes walk names inside here ds cells made (syntax.AlsoArg a as') keeps1 keeps2 = k-bind walk (index names inside here ds cells made a) (λ s. indexes names inside here (drop 1 ds) cells s as') (k-index walk names inside here ds cells made a keeps1 keeps2) (λ s. k-indexes walk names inside here (drop 1 ds) cells s as' keeps1 keeps2)

pub k-indexed : (walk : Walk) (x0 : ObjectName) (x1 : ℕ) (x2 : ℕ) (x3 : ℕ) (x4 : Option Subtype) (x5 : TypedPart) → Keeps walk (indexed x0 x1 x2 x3 x4 x5)
k-indexed walk p bracket wanted given None ss = k-fault walk p.first WrongType
k-indexed walk p bracket wanted given (Some c) ss = k-if walk (wanted == given) (some (denote (part_place p c) ss)) (fault bracket WrongType) (k-some walk (denote (part_place p c) ss)) (k-fault walk bracket WrongType)

pub k-index_shape : (walk : Walk) (x0 : Names) (x1 : Inside) (x2 : Context) (x3 : ObjectName) (x4 : TypedPart) (x5 : ℕ) (x6 : Args) (x7 : Option Shape) (x8 : ℕ) → walk.Takes x0 → KeepsInside walk x1 → Keeps walk (index_shape x0 x1 x2 x3 x4 x5 x6 x7 x8)
k-index_shape walk names inside here p ss bracket as' t cells keeps1 keeps2 = k-where_clean walk (indexes names inside here (dimensions_of t) cells (Some ss) as') (λ r. given r (indexed p bracket (length (dimensions_of t)) (count as') (component_of t))) (k-indexes walk names inside here (dimensions_of t) cells (Some ss) as' keeps1 keeps2) (λ r. k-given walk r (indexed p bracket (length (dimensions_of t)) (count as') (component_of t)) (λ z1. k-indexed walk p bracket (length (dimensions_of t)) (count as') (component_of t) z1))

pub k-array_call : (walk : Walk) (x0 : Names) (x1 : Inside) (x2 : Context) (x3 : ObjectName) (x4 : TypedPart) (x5 : ℕ) (x6 : Args) (x7 : Option Shape) (x8 : ℕ) → walk.Takes x0 → KeepsInside walk x1 → Keeps walk (array_call x0 x1 x2 x3 x4 x5 x6 x7 x8)
k-array_call walk names inside here p ss bracket as' t cells keeps1 keeps2 = k-if walk (is_array t) (index_shape names inside here p ss bracket as' t cells) (wrong_call names inside here p.first as') (k-index_shape walk names inside here p ss bracket as' t cells keeps1 keeps2) (k-wrong_call walk names inside here p.first as' keeps1 keeps2)

pub k-object_call : (walk : Walk) (x0 : Names) (x1 : Inside) (x2 : Context) (x3 : ObjectName) (x4 : TypedPart) (x5 : ℕ) (x6 : Args) (x7 : Subtype) → walk.Takes x0 → KeepsInside walk x1 → Keeps walk (object_call x0 x1 x2 x3 x4 x5 x6 x7)
unfolding object_call
k-object_call walk names inside here p ss bracket as' (subtype.Composite n) keeps1 keeps2 = (record { at = λ log. (k-array_call walk names inside here p ss bracket as' (shape_in log n) (component_cells log (component_of (shape_in log n))) keeps1 keeps2).at log })
k-object_call walk names inside here p ss bracket as' (subtype.Scalar s) keeps1 keeps2 = k-wrong_call walk names inside here p.first as' keeps1 keeps2

pub k-field_of_pack : (walk : Walk) (x0 : Names) (x1 : Context) (x2 : ℕ) (x3 : KnownDenoted) → walk.Takes x0 → Keeps walk (field_of_pack x0 x1 x2 x3)
k-field_of_pack walk names here t (denoted.Package first library) keeps1 = k-selected walk names here first library t keeps1
k-field_of_pack walk names here t d keeps1 = k-fault walk (denoted_first d) WrongType

pub k-pack_from : (walk : Walk) (x0 : Names) (x1 : Context) (x2 : Option Denoted) (x3 : List ℕ) → walk.Takes x0 → Keeps walk (pack_from x0 x1 x2 x3)
k-pack_from walk names here d [] keeps1 = k-pure walk d
k-pack_from walk names here d (t ∷ ts) keeps1 = k-bind walk (given d (λ x. field_of_pack names here t x.known)) (λ e. pack_from names here e ts) (k-given walk d (λ x. field_of_pack names here t x.known) (λ x. k-field_of_pack walk names here t x.known keeps1)) (λ e. k-pack_from walk names here e ts keeps1)

pub k-as_exception : (walk : Walk) (x0 : KnownDenoted) → Keeps walk (as_exception x0)
k-as_exception walk (denoted.Exception first r) = k-some walk r
k-as_exception walk d = k-fault walk (denoted_first d) WrongType

pub k-exception : (walk : Walk) (x0 : Names) (x1 : Context) (x2 : Pack) → walk.Takes x0 → Keeps walk (exception x0 x1 x2)
unfolding exception
k-exception walk names here p keeps1 = record {
  at = λ log.
      let out1 = stands_for names here p.first log in
      let d = out1.0 in
      let out2 = pack_from names here d p.more out1.1 in
      let e = out2.0 in
      walk.joins _ _ _ ((k-stands_for walk names here p.first keeps1).at log)
      (walk.joins _ _ _ ((k-pack_from walk names here d p.more keeps1).at out1.1)
      ((k-given walk e (λ x. as_exception x.known) (λ x. k-as_exception walk x.known)).at out2.1));
}
