-- What names denote is right: names as wholes.
use Rattle.name_rules.specs.Attributes.{attribute_at, attribute_found, bound_with, dimensions_in, is_array_object, is_bound, is_reduction, mentioned, prefix_subtype, settled_attribute}
use Rattle.name_rules.specs.Expressions.{Inside, expr}
use Rattle.name_rules.specs.Found.{Denoted}
use Rattle.name_rules.specs.Names.{args_alone, denoted_first, field, wrong_call}
use Rattle.name_rules.specs.Reducers.{folded_by, reducer_of}
use Rattle.name_rules.specs.Scope.{stands_for}
use Rattle.name_rules.specs.Symbols.{symbol}
use Rattle.name_rules.specs.Types.{component_of}
use Rattle.name_rules.specs.declared.found.Attribute.TheVariants as attribute'
use Rattle.name_rules.specs.declared.found.Attribute.{Attribute}
use Rattle.name_rules.specs.declared.found.Denoted.TheVariants as denoted
use Rattle.name_rules.specs.declared.found.Denoted.{Denoted as KnownDenoted}
use Rattle.name_rules.specs.declared.found.Found.TheVariants as known
use Rattle.name_rules.specs.declared.found.ObjectName.{ObjectName}
use Rattle.name_rules.specs.declared.found.Prefix.TheVariants as prefix
use Rattle.name_rules.specs.declared.found.Prefix.{Prefix}
use Rattle.name_rules.specs.declared.log.Rule.TheVariants.{ReduceRule, WrongType}
use Rattle.name_rules.specs.declared.scope.Context.{Context}
use Rattle.name_rules.specs.declared.scope.Names.{Names}
use Rattle.name_rules.specs.declared.types.Subtype.TheVariants as subtype
use Rattle.name_rules.specs.declared.types.Wanted.TheVariants as wanted
use Rattle.syntax_tree.specs.Syntax as syntax
use Rattle.syntax_tree.specs.Syntax.{Args, Name, NamePart, NameParts}
use Rattle.typed_tree.specs.Decoded as part
use Rattle.typed_tree.specs.Syntax as typed
use Rattle.typed_tree.specs.Syntax.{Selections}
use Rattle.std.specs.Prelude.{if◌then◌else◌, Bool, None, Option, Some, false, true, ℕ}
use Rattle.name_rules.specs.TypedParts.{selections_of}
use Rattle.typed_tree.specs.Decoded.{TypedPart}
use Rattle.name_rules.specs.Judging.{◌>>=◌, both, fault, given, read}
use Rattle.name_rules.specs.Parts.{new_parameter, site_where, array_shape, through, is_parallel, item_found, array_reduced, reduced_with, of_array, other_with, attribute_with, call_form, call, part_of, next_part, parts, name}
use Rattle.name_laws.proofs.CellsDeclared.{Ends, Named, NamesRight, e-fault, e-given, e-map, e-where_clean, now, stands-named}
use Rattle.name_laws.proofs.CellsSound.{AreRight, Sound, minding}
use Rattle.name_laws.proofs.EndsAttributes.{e-attribute_found, e-bound_with, e-scalar_with, e-settled, values-in}
use Rattle.name_laws.proofs.EndsCalls.{e-conversion, e-sub_call}
use Rattle.name_laws.proofs.EndsNames.{e-field, e-object_call, e-wrong_call}
use Rattle.name_laws.proofs.EndsOutput.{e-io_call}
use Rattle.name_laws.proofs.KeepsParts.{k-next_part, k-parts}
use Rattle.name_laws.proofs.KeepsScope.{k-stands_for}
use Rattle.name_laws.proofs.KeepsPrimaries.{k-inside}
use Rattle.name_laws.proofs.Walked.{KeepsInside}
use Rattle.name_rules.specs.Found.{value_denoted}
use Rattle.name_rules.specs.Primaries as primaries
use Rattle.name_rules.specs.declared.log.Log.{Log}
use Rattle.std.proofs.Common.{length}

e-array_reduced : (m0 : ℕ) (names : Names) (inside : Inside) (here : Context) (p : ObjectName) (x : Selections) (at : ℕ) (a : Attribute) (bracket : ℕ) (as' : Args) (log : Log) → Named m0 (array_reduced names inside here p x at a bracket as' log).0
e-array_reduced m0 names inside here p x at a bracket (syntax.AlsoArg (syntax.arg None r) (syntax.AlsoArg (syntax.arg None v) syntax.NoArg)) log =
    let o1 = site_where here p.first (is_parallel a) log in
    let o2 = new_parameter o1.1 in
    let i = through o2.1 p x (array_shape o2.1 p.subtype) o2.0 typed.Absent in
    let c = component_of (array_shape o2.1 p.subtype) in
    let f = reducer_of names inside here r o2.1 in
    let y = expr names inside here wanted.Other v f.1 in
    let z = both f.0 y.0 (λ g. folded_by (record { at = p.first; attribute = at; site = o1.0 }) part.Nothing (part.AnIteration i) g (item_found p.first o2.0 p.variable c)) y.1 in
    (e-map m0 value_denoted z.0 (λ w. tt)).at z.1
e-array_reduced m0 names inside here p x at a bracket as' log = (e-where_clean m0 (args_alone names inside here as') (λ u. fault bracket WrongType) (λ u. e-fault m0 bracket WrongType)).at log

e-reduced_with : (m0 : ℕ) (names : Names) (inside : Inside) (here : Context) (first : ℕ) (p : Prefix) (x : TypedPart) (at : ℕ) (a : Attribute) (bracket : ℕ) (as' : Args) (b : Bool) → Ends m0 (reduced_with names inside here first p x at a bracket as' b)
e-reduced_with m0 names inside here first (prefix.Object p) x at a bracket as' true = record { at = λ log. e-array_reduced m0 names inside here p (selections_of x) at a bracket as' log }
e-reduced_with m0 names inside here first p x at a bracket as' b = e-where_clean m0 (args_alone names inside here as') (λ u. fault at ReduceRule) (λ u. e-fault m0 at ReduceRule)

e-of_array : (m0 : ℕ) (names : Names) (inside : Inside) (here : Context) (first : ℕ) (p : Prefix) (x : TypedPart) (at : ℕ) (a : Attribute) (bracket : ℕ) (as' : Args) (log : Log) → Sound log → Named m0 (of_array names inside here first p x at a bracket as' log).0
e-of_array m0 names inside here first p x at a bracket as' log h = by (is_bound a)
  where
    by : (b : Bool) → Named m0 ((if b then (read (λ log. dimensions_in log (prefix_subtype p)) >>= bound_with names inside here first (mentioned p x) a bracket as') else wrong_call names inside here first as') log).0
    by true = (e-bound_with m0 names inside here first (mentioned p x) a bracket as' (dimensions_in log (prefix_subtype p)) (values-in log (prefix_subtype p) h)).at log
    by false = (e-wrong_call m0 names inside here first as').at log

e-other_with : (m0 : ℕ) (names : Names) (inside : Inside) (here : Context) (first : ℕ) (p : Prefix) (x : TypedPart) (at : ℕ) (a : Attribute) (bracket : ℕ) (as' : Args) (log : Log) → Sound log → Named m0 (other_with names inside here first p x at a bracket as' log).0
e-other_with m0 names inside here first (prefix.Type (subtype.Scalar s)) x at a bracket as' log h = (e-scalar_with m0 names inside here first s a bracket as').at log
e-other_with m0 names inside here first p x at a bracket as' log h = e-of_array m0 names inside here first p x at a bracket as' log h

e-attribute_with : (m0 : ℕ) (names : Names) (inside : Inside) (here : Context) (first : ℕ) (p : Prefix) (x : TypedPart) (at : ℕ) (a : Attribute) (bracket : ℕ) (as' : Args) (log : Log) → Sound log → Named m0 (attribute_with names inside here first p x at a bracket as' log).0
e-attribute_with m0 names inside here first p x at a bracket as' log h = by (is_reduction a)
  where
    by : (b : Bool) → Named m0 ((if b then (read (λ log. is_array_object log p) >>= reduced_with names inside here first p x at a bracket as') else other_with names inside here first p x at a bracket as') log).0
    by true = (e-reduced_with m0 names inside here first p x at a bracket as' (is_array_object log p)).at log
    by false = e-other_with m0 names inside here first p x at a bracket as' log h

e-call : (m0 : ℕ) (names : Names) (inside : Inside) (here : Context) (bracket : ℕ) (as' : Args) (k : KnownDenoted) (x : TypedPart) (log : Log) → Sound log → Named m0 (call_form names inside here bracket as' k x log).0
e-call m0 names inside here bracket as' (denoted.Value (known.Object p)) x log h = (e-object_call m0 names inside here p x bracket as' p.subtype).at log
e-call m0 names inside here bracket as' (denoted.Type first s) x log h = (e-conversion m0 names inside here bracket first s as').at log
e-call m0 names inside here bracket as' (denoted.Sub first last n) x log h = (e-sub_call m0 names inside here bracket first last n as').at log
e-call m0 names inside here bracket as' (denoted.Io first last p r) x log h = (e-io_call m0 names inside here bracket first last p r as').at log
e-call m0 names inside here bracket as' (denoted.Attribute first p at a) x log h = e-attribute_with m0 names inside here first p x at a bracket as' log h
e-call m0 names inside here bracket as' d x log h = (e-wrong_call m0 names inside here (denoted_first d) as').at log

e-part_of : (m0 : ℕ) (names : Names) (inside : Inside) (here : Context) (x : NamePart) (d : Denoted) (log : Log) → Sound log → Named m0 (part_of names inside here x d log).0
unfolding part_of call
e-part_of m0 names inside here (syntax.Field at) d log h = let e = settled_attribute d log in (e-given m0 e.0 (field names here at) (λ z. e-field m0 names here at z)).at e.1
e-part_of m0 names inside here (syntax.Call bracket a as') d log h = e-call m0 names inside here bracket (syntax.AlsoArg a as') d.known d.part log h
e-part_of m0 names inside here (syntax.Attribute at) d log h = let e = settled_attribute d log in (e-given m0 e.0 (λ y. attribute_found y at (attribute_at (symbol names at))) (λ y. e-attribute_found m0 y at (attribute_at (symbol names at)))).at e.1
e-part_of m0 names inside here (syntax.RangeAttribute at) d log h = let e = settled_attribute d log in (e-given m0 e.0 (λ y. attribute_found y at (Some attribute'.Range)) (λ y. e-attribute_found m0 y at (Some attribute'.Range))).at e.1

e-next_part : (m0 : ℕ) (names : Names) (inside : Inside) (here : Context) (d : Option Denoted) (x : NamePart) (log : Log) → Sound log → Named m0 (next_part names inside here d x log).0
e-next_part m0 names inside here None (syntax.Call bracket a as') log h = tt
e-next_part m0 names inside here None x log h = tt
e-next_part m0 names inside here (Some d) x log h = e-part_of m0 names inside here x d log h

e-parts : (m0 : ℕ) (names : Names) (inside : Inside) (here : Context) (d : Option Denoted) (ps : NameParts) (log : Log) → KeepsInside (minding 0) inside → Named m0 d → Sound log → Named m0 (parts names inside here d ps log).0
e-parts m0 names inside here d syntax.NoPart log keeps r h = r
e-parts m0 names inside here d (syntax.AlsoPart x ps) log keeps r h =
    let e = next_part names inside here d x log in
    e-parts m0 names inside here e.0 ps e.1 keeps (e-next_part m0 names inside here d x log h) (now log (next_part names inside here d x) (k-next_part (minding 0) names inside here d x tt keeps) h).1

e-name : (m0 : ℕ) (names : Names) (inside : Inside) (here : Context) (x : Name) (log : Log) → KeepsInside (minding 0) inside → Sound log → AreRight m0 here.scope → Named m0 (name names inside here x log).0
unfolding name
e-name m0 names inside here (syntax.name first ps) log keeps h r =
    let d = stands_for names here first log in
    let j = now log (stands_for names here first) (k-stands_for (minding 0) names here first tt) h in
    let e = parts names inside here d.0 ps d.1 in
    let k = now d.1 (parts names inside here d.0 ps) (k-parts (minding 0) names inside here d.0 ps tt keeps) j.1 in
    by e.0 (e-parts m0 names inside here d.0 ps d.1 keeps (stands-named m0 names here first r log) j.1) e.1 k.1
  where
    by : (x : Option Denoted) → Named m0 x → (log : Log) → Sound log → Named m0 (given x settled_attribute log).0
    by None r log h = tt
    by (Some d) r log h = e-settled m0 d log r h

pub level-named : (names : Names) (n : ℕ) → NamesRight (primaries.level_above names (primaries.inside names n))
level-named names n = record { name = λ here x log h r. e-name (length log.shapes) names (primaries.inside names n) here x log (k-inside (minding 0) names n tt) h r }
