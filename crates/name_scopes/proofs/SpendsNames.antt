-- Judging that is counted: names.
use Rattle.name_rules.specs.Expressions.{Inside, expr}
use Rattle.name_rules.specs.Found.{Denoted, Found, denote}
use Rattle.name_rules.specs.Judging.{fault, given, joined, some}
use Rattle.name_rules.specs.Symbols.{symbol}
use Rattle.name_rules.specs.Types.{component_of, dimensions_of, fields_of, shape_in, stride}
use Rattle.name_rules.specs.Values.{asked, first_of}
use Rattle.name_rules.specs.declared.found.Denoted.TheVariants as denoted
use Rattle.name_rules.specs.declared.found.Denoted.{Denoted as KnownDenoted}
use Rattle.name_rules.specs.declared.found.Found.TheVariants as known
use Rattle.name_rules.specs.declared.found.ObjectName.{ObjectName}
use Rattle.name_rules.specs.declared.log.Dimension.{Dimension}
use Rattle.name_rules.specs.declared.log.Field.{Field}
use Rattle.name_rules.specs.declared.log.Rule.TheVariants.{Unknown, WrongType}
use Rattle.name_rules.specs.declared.log.Shape.{Shape}
use Rattle.name_rules.specs.declared.scope.Context.{Context}
use Rattle.name_rules.specs.declared.scope.Names.{Names}
use Rattle.name_rules.specs.declared.types.Subtype.TheVariants as subtype
use Rattle.name_rules.specs.declared.types.Subtype.{Subtype}
use Rattle.name_rules.specs.declared.types.Wanted.TheVariants as wanted
use Rattle.syntax_tree.specs.Syntax as syntax
use Rattle.syntax_tree.specs.Syntax.{Arg, Args}
use Rattle.typed_tree.specs.Decoded as part
use Rattle.std.specs.Prelude.{List, None, Option, Some, [], drop, length, slice_get, ℕ, ◌+◌, ◌==◌, ◌∷◌}
use Rattle.typed_tree.specs.Syntax as typed
use Rattle.name_rules.specs.TypedParts.{also}
use Rattle.typed_tree.specs.Decoded.{TypedPart}
use Rattle.name_rules.specs.Names.{args_alone, array_call, component_cells, count, denoted_first, field, field_form, field_from, field_in, field_of, field_of_pack, index, index_in, index_shape, index_where, indexed, indexes, is_array, is_record, object_call, pack_from, part_place, selected_by, unnamed, wrong_call}
use Rattle.std.proofs.Common.{arith}
use Rattle.name_laws.proofs.KeepsNames.{k-args_alone}
use Rattle.name_scopes.proofs.SpendsExpressions.{s-expr}
use Rattle.name_scopes.proofs.SpendsFound.{z-denote}
use Rattle.name_scopes.proofs.SpendsScope.{s-selected}
use Rattle.name_scopes.proofs.SpendsValues.{s-asked}
use Rattle.name_scopes.proofs.Leaving.{leaving}
use Rattle.name_scopes.proofs.Measures.{Measure, maybe-known, maybe-part, option-of, part-measure, part-size, with-part}
use Rattle.name_scopes.proofs.Parts.{n-expr}
use Rattle.name_scopes.proofs.Records.{SpendsInside}
use Rattle.name_scopes.proofs.Spends.{Holds, Spends, h-joined, s-bind, s-fault, s-given, s-given-any, s-if, s-le, s-log, s-pure, s-some, s-where_clean, s-where_clean-any}
use Rattle.name_scopes.proofs.Tallies.{Tally}

pub s-field_from : (which : Tally) (x0 : Names) (x1 : ObjectName) (x2 : TypedPart) (x3 : ℕ) (x4 : ℕ) (x5 : List Field) → (part-measure which).Whole x2 → Spends which (maybe-known which) (part-size which x2) (field_from x0 x1 x2 x3 x4 x5)
s-field_from which names p ss at i [] h2 = s-fault which (with-part which) _ at Unknown
s-field_from which names p ss at i (f ∷ fs) h2 =
    s-if which (maybe-known which) _ (f.symbol == symbol names at) (some (denote (part_place p f.subtype) (also ss (part.ASelection (typed.Field i f.offset))))) (field_from names p ss at (i + 1) fs)
    (s-some which (with-part which) _ (denote (part_place p f.subtype) (also ss (part.ASelection (typed.Field i f.offset)))) (let made1 = z-denote which (part_place p f.subtype) (also ss (part.ASelection (typed.Field i f.offset))) ((λ r. omega arith), h2) in
    (made1.0, omega (arith, made1.1))))
    (s-le which (maybe-known which) _ _ _ (s-field_from which names p ss at (i + 1) fs h2) (omega arith))

pub s-field_in : (which : Tally) (x0 : Names) (x1 : ObjectName) (x2 : TypedPart) (x3 : ℕ) (x4 : Option Shape) → (part-measure which).Whole x2 → Spends which (maybe-known which) (part-size which x2) (field_in x0 x1 x2 x3 x4)
s-field_in which names p ss at t h2 =
    s-if which (maybe-known which) _ (is_record t) (field_from names p ss at 0 (fields_of t)) (fault p.first WrongType)
    (s-le which (maybe-known which) _ _ _ (s-field_from which names p ss at 0 (fields_of t) h2) (omega arith))
    (s-fault which (with-part which) _ p.first WrongType)

pub s-field_of : (which : Tally) (x0 : Names) (x1 : ObjectName) (x2 : TypedPart) (x3 : ℕ) (x4 : Subtype) → (part-measure which).Whole x2 → Spends which (maybe-known which) (part-size which x2) (field_of x0 x1 x2 x3 x4)
s-field_of which names p ss at (subtype.Composite n) h2 = s-log which (maybe-known which) _ (λ log. field_in names p ss at (shape_in log n)) (λ log. s-le which (maybe-known which) _ _ _ (s-field_in which names p ss at (shape_in log n) h2) (omega arith))
s-field_of which names p ss at (subtype.Scalar s) h2 = s-fault which (with-part which) _ p.first WrongType

pub s-field_form : (which : Tally) (x0 : Names) (x1 : Context) (x2 : ℕ) (x3 : KnownDenoted) (x4 : TypedPart) → (part-measure which).Whole x4 → Spends which (maybe-known which) (part-size which x4) (field_form x0 x1 x2 x3 x4)
s-field_form which names here at (denoted.Package first library) x h4 = s-le which (maybe-known which) _ _ _ (s-selected which names here first library at) (omega arith)
s-field_form which names here at (denoted.Value (known.Object p)) x h4 = s-le which (maybe-known which) _ _ _ (s-field_of which names p x at p.subtype h4) (omega arith)
s-field_form which names here at d x h4 = s-fault which (with-part which) _ (denoted_first d) WrongType

pub s-field : (which : Tally) (x0 : Names) (x1 : Context) (x2 : ℕ) (x3 : Denoted) → (with-part which).Whole x3 → Spends which (maybe-known which) (part-size which x3.part) (field x0 x1 x2 x3)
unfolding field
s-field which names here at d h3 = s-le which (maybe-known which) _ _ _ (s-field_form which names here at d.known d.part h3) (omega arith)

pub s-wrong_call : (which : Tally) (x0 : Names) (x1 : Inside) (x2 : Context) (x3 : ℕ) (x4 : Args) → SpendsInside which x1 → Spends which (maybe-known which) 0 (wrong_call x0 x1 x2 x3 x4)
unfolding wrong_call
s-wrong_call which names inside here first as' h1 =
    s-where_clean-any which (with-part which) _ (args_alone names inside here as') _ (k-args_alone leaving names inside here as' tt h1.keeps) (λ u.
    s-fault which (with-part which) _ first WrongType)

pub z-selected_by : (which : Tally) (x0 : ℕ) (x1 : Dimension) (x2 : ℕ) (x3 : TypedPart) (x4 : TypedPart) → (part-measure which).Whole x3 → (part-measure which).Whole x4 → Holds (part-measure which) (part-size which x3 + part-size which x4) (selected_by x0 x1 x2 x3 x4)
z-selected_by which at d apart ss e h3 h4 = (((λ r. omega arith), h3), omega (arith, n-expr which e))

pub s-index_in : (which : Tally) (x0 : Option Dimension) (x1 : ℕ) (x2 : Option TypedPart) (x3 : Found) → (maybe-part which).Whole x2 → (with-part which).Whole x3 → Spends which (maybe-part which) ((maybe-part which).size x2 + part-size which x3.part) (index_in x0 x1 x2 x3)
s-index_in which None apart made f h2 h3 = s-pure which (maybe-part which) _ made (h2, omega arith)
s-index_in which (Some d) apart made f h2 h3 =
    s-bind which (maybe-part which) (maybe-part which) (part-size which f.part) ((maybe-part which).size made) _ (asked d.kind f) _ (s-le which (maybe-part which) _ _ _ (s-asked which d.kind f h3) (omega arith)) (omega arith) (λ e held1.
    s-pure which (maybe-part which) _ (joined (selected_by (first_of f.known) d apart) made e) (let made5 = h-joined (part-measure which) (part-measure which) (part-measure which) 0 (selected_by (first_of f.known) d apart) made e h2 held1 (λ one held2 other held3. let made4 = z-selected_by which (first_of f.known) d apart one other held2 held3 in
    (made4.0, omega (arith, made4.1))) in
    (made5.0, omega (arith, made5.1))))

pub s-index_where : (which : Tally) (x0 : Option Dimension) (x1 : ℕ) (x2 : Option TypedPart) (x3 : Option Found) → (maybe-part which).Whole x2 → (maybe-known which).Whole x3 → Spends which (maybe-part which) ((maybe-part which).size x2 + (maybe-known which).size x3) (index_where x0 x1 x2 x3)
s-index_where which d apart ss None h2 h3 = s-pure which (maybe-part which) _ None (tt, omega arith)
s-index_where which d apart ss (Some f) h2 h3 = s-le which (maybe-part which) _ _ _ (s-index_in which d apart ss f h2 h3) (omega arith)

pub s-unnamed : (which : Tally) {A : Type 0} (m : Measure A) (n : ℕ) (name : Option ℕ) (x : Option A) → Holds (option-of m) n x → Spends which (option-of m) n (unnamed name x)
s-unnamed which m n None x h = s-pure which (option-of m) n x h
s-unnamed which m n (Some name) x h = s-fault which m n name WrongType

pub s-index : (which : Tally) (x0 : Names) (x1 : Inside) (x2 : Context) (x3 : List Dimension) (x4 : ℕ) (x5 : Option TypedPart) (x6 : Arg) → SpendsInside which x1 → (maybe-part which).Whole x5 → Spends which (maybe-part which) ((maybe-part which).size x5) (index x0 x1 x2 x3 x4 x5 x6)
unfolding index
s-index which names inside here ds cells made (syntax.arg name e) h1 h5 =
    s-bind which (maybe-known which) (maybe-part which) 0 ((maybe-part which).size made) _ (expr names inside here wanted.Other e) _ (s-le which (maybe-known which) _ _ _ (s-expr which names inside here wanted.Other e h1) (omega arith)) (omega arith) (λ x held1.
    s-bind which (maybe-part which) (maybe-part which) ((maybe-part which).size made + (maybe-known which).size x) 0 _ (index_where (slice_get ds 0) (stride ds cells) made x) _ (s-le which (maybe-part which) _ _ _ (s-index_where which (slice_get ds 0) (stride ds cells) made x h5 held1) (omega arith)) (omega arith) (λ s held2.
    s-unnamed which (part-measure which) _ name s (held2, omega arith)))

pub s-indexes : (which : Tally) (x0 : Names) (x1 : Inside) (x2 : Context) (x3 : List Dimension) (x4 : ℕ) (x5 : Option TypedPart) (x6 : Args) → SpendsInside which x1 → (maybe-part which).Whole x5 → Spends which (maybe-part which) ((maybe-part which).size x5) (indexes x0 x1 x2 x3 x4 x5 x6)
s-indexes which names inside here ds cells made syntax.NoArg h1 h5 = s-pure which (maybe-part which) _ made (h5, omega arith)
s-indexes which names inside here ds cells made (syntax.AlsoArg a as') h1 h5 =
    s-bind which (maybe-part which) (maybe-part which) ((maybe-part which).size made) 0 _ (index names inside here ds cells made a) _ (s-le which (maybe-part which) _ _ _ (s-index which names inside here ds cells made a h1 h5) (omega arith)) (omega arith) (λ s held1.
    s-le which (maybe-part which) _ _ _ (s-indexes which names inside here (drop 1 ds) cells s as' h1 held1) (omega arith))

pub s-indexed : (which : Tally) (x0 : ObjectName) (x1 : ℕ) (x2 : ℕ) (x3 : ℕ) (x4 : Option Subtype) (x5 : TypedPart) → (part-measure which).Whole x5 → Spends which (maybe-known which) (part-size which x5) (indexed x0 x1 x2 x3 x4 x5)
s-indexed which p bracket wanted given None ss h5 = s-fault which (with-part which) _ p.first WrongType
s-indexed which p bracket wanted given (Some c) ss h5 =
    s-if which (maybe-known which) _ (wanted == given) (some (denote (part_place p c) ss)) (fault bracket WrongType)
    (s-some which (with-part which) _ (denote (part_place p c) ss) (let made1 = z-denote which (part_place p c) ss h5 in
    (made1.0, omega (arith, made1.1))))
    (s-fault which (with-part which) _ bracket WrongType)

pub s-index_shape : (which : Tally) (x0 : Names) (x1 : Inside) (x2 : Context) (x3 : ObjectName) (x4 : TypedPart) (x5 : ℕ) (x6 : Args) (x7 : Option Shape) (x8 : ℕ) → SpendsInside which x1 → (part-measure which).Whole x4 → Spends which (maybe-known which) (part-size which x4) (index_shape x0 x1 x2 x3 x4 x5 x6 x7 x8)
s-index_shape which names inside here p ss bracket as' t cells h1 h4 =
    s-where_clean which (maybe-part which) (with-part which) (part-size which ss) 0 _ (indexes names inside here (dimensions_of t) cells (Some ss) as') _ (s-le which (maybe-part which) _ _ _ (s-indexes which names inside here (dimensions_of t) cells (Some ss) as' h1 h4) (omega arith)) (omega arith) (λ r held1.
    s-given which (part-measure which) (with-part which) 0 _ r _ held1 (omega arith) (λ item held2.
    s-le which (maybe-known which) _ _ _ (s-indexed which p bracket (length (dimensions_of t)) (count as') (component_of t) item held2) (omega arith)))

pub s-array_call : (which : Tally) (x0 : Names) (x1 : Inside) (x2 : Context) (x3 : ObjectName) (x4 : TypedPart) (x5 : ℕ) (x6 : Args) (x7 : Option Shape) (x8 : ℕ) → SpendsInside which x1 → (part-measure which).Whole x4 → Spends which (maybe-known which) (part-size which x4) (array_call x0 x1 x2 x3 x4 x5 x6 x7 x8)
s-array_call which names inside here p ss bracket as' t cells h1 h4 =
    s-if which (maybe-known which) _ (is_array t) (index_shape names inside here p ss bracket as' t cells) (wrong_call names inside here p.first as')
    (s-le which (maybe-known which) _ _ _ (s-index_shape which names inside here p ss bracket as' t cells h1 h4) (omega arith))
    (s-le which (maybe-known which) _ _ _ (s-wrong_call which names inside here p.first as' h1) (omega arith))

pub s-object_call : (which : Tally) (x0 : Names) (x1 : Inside) (x2 : Context) (x3 : ObjectName) (x4 : TypedPart) (x5 : ℕ) (x6 : Args) (x7 : Subtype) → SpendsInside which x1 → (part-measure which).Whole x4 → Spends which (maybe-known which) (part-size which x4) (object_call x0 x1 x2 x3 x4 x5 x6 x7)
unfolding object_call
s-object_call which names inside here p ss bracket as' (subtype.Composite n) h1 h4 = s-log which (maybe-known which) _ (λ log. array_call names inside here p ss bracket as' (shape_in log n) (component_cells log (component_of (shape_in log n)))) (λ log. s-le which (maybe-known which) _ _ _ (s-array_call which names inside here p ss bracket as' (shape_in log n) (component_cells log (component_of (shape_in log n))) h1 h4) (omega arith))
s-object_call which names inside here p ss bracket as' (subtype.Scalar s) h1 h4 = s-le which (maybe-known which) _ _ _ (s-wrong_call which names inside here p.first as' h1) (omega arith)

pub s-field_of_pack : (which : Tally) (x0 : Names) (x1 : Context) (x2 : ℕ) (x3 : KnownDenoted) → Spends which (maybe-known which) 0 (field_of_pack x0 x1 x2 x3)
s-field_of_pack which names here t (denoted.Package first library) = s-le which (maybe-known which) _ _ _ (s-selected which names here first library t) (omega arith)
s-field_of_pack which names here t d = s-fault which (with-part which) _ (denoted_first d) WrongType

pub s-pack_from : (which : Tally) (x0 : Names) (x1 : Context) (x2 : Option Denoted) (x3 : List ℕ) → (maybe-known which).Whole x2 → Spends which (maybe-known which) ((maybe-known which).size x2) (pack_from x0 x1 x2 x3)
s-pack_from which names here d [] h2 = s-pure which (maybe-known which) _ d (h2, omega arith)
s-pack_from which names here d (t ∷ ts) h2 =
    s-bind which (maybe-known which) (maybe-known which) 0 0 _ (given d (λ x. field_of_pack names here t x.known)) _ (s-given-any which (with-part which) _ d _ (λ x.
    s-le which (maybe-known which) _ _ _ (s-field_of_pack which names here t x.known) (omega arith))) (omega arith) (λ e held1.
    s-le which (maybe-known which) _ _ _ (s-pack_from which names here e ts held1) (omega arith))
