-- Judging that gives out sites: parts of names.
use Rattle.name_rules.specs.Attributes.{attribute_at, bound_with, dimensions_in, is_array_object, is_bound, is_reduction, mentioned, prefix_subtype, settled_attribute}
use Rattle.name_rules.specs.Expressions.{Inside, expr}
use Rattle.name_rules.specs.Found.{Denoted, Found, denote, parameter_found, value_denoted}
use Rattle.name_rules.specs.Judging.{both, given, read, ◌>>=◌}
use Rattle.name_rules.specs.Names.{args_alone, denoted_first, wrong_call}
use Rattle.name_rules.specs.Reducers.{folded_by, reducer_of}
use Rattle.name_rules.specs.Scope.{stands_for}
use Rattle.name_rules.specs.Symbols.{symbol}
use Rattle.name_rules.specs.Types.{component_of}
use Rattle.name_rules.specs.declared.found.Attribute.TheVariants as attribute'
use Rattle.name_rules.specs.declared.found.Attribute.{Attribute}
use Rattle.name_rules.specs.declared.found.Denoted.TheVariants as denoted
use Rattle.name_rules.specs.declared.found.Denoted.{Denoted as KnownDenoted}
use Rattle.name_rules.specs.declared.found.Folding.{Folding}
use Rattle.name_rules.specs.declared.found.Found.TheVariants as known
use Rattle.name_rules.specs.declared.found.Found.{Found as Known}
use Rattle.name_rules.specs.declared.found.ObjectName.{ObjectName}
use Rattle.name_rules.specs.declared.found.Prefix.TheVariants as prefix
use Rattle.name_rules.specs.declared.found.Prefix.{Prefix}
use Rattle.name_rules.specs.declared.log.Log.{Log}
use Rattle.name_rules.specs.declared.log.Rule.TheVariants.{ReduceRule, WrongType}
use Rattle.name_rules.specs.declared.log.Shape.{Shape}
use Rattle.name_rules.specs.declared.scope.Context.{Context}
use Rattle.name_rules.specs.declared.scope.Names.{Names}
use Rattle.name_rules.specs.declared.types.Subtype.TheVariants as subtype
use Rattle.name_rules.specs.declared.types.Subtype.{Subtype}
use Rattle.name_rules.specs.declared.types.Wanted.TheVariants as wanted
use Rattle.syntax_tree.specs.Syntax as syntax
use Rattle.syntax_tree.specs.Syntax.{Args, Expr, Name, NamePart, NameParts}
use Rattle.typed_tree.specs.Decoded as part
use Rattle.typed_tree.specs.Syntax as typed
use Rattle.typed_tree.specs.Syntax.{Iteration, Optional, Selections}
use Rattle.typed_tree.specs.declared.program.SiteKind.TheVariants as site
use Rattle.std.specs.Prelude.{Bool, None, Option, Some, false, true, ℕ, ◌+◌}
use Rattle.name_rules.specs.TypedParts.{selections_of}
use Rattle.typed_tree.specs.Decoded.{TypedPart}
use Rattle.name_rules.specs.Parts.{array_reduced, array_reduction, array_shape, attribute_with, call, call_form, is_parallel, item_found, name, new_parameter, new_site, next_part, of_array, other_with, part_alone, part_of, parts, reduced_with, site_where, through, value_form, value_named, valued_by, valued_form, wrong_arguments}
use Rattle.std.proofs.Common.{arith, length, refl, ◌≡◌, ◌≤◌}
use Rattle.name_laws.proofs.KeepsNames.{k-args_alone}
use Rattle.name_laws.proofs.KeepsReducers.{k-reducer_of}
use Rattle.name_laws.proofs.Walk.{k-read}
use Rattle.name_sites.proofs.SpendsAttributes.{s-attribute_found, s-bound_with, s-scalar_with, s-settled_attribute, z-mentioned}
use Rattle.name_sites.proofs.SpendsCalls.{s-conversion, s-sub_call}
use Rattle.name_sites.proofs.SpendsExpressions.{s-expr}
use Rattle.name_sites.proofs.SpendsFound.{z-denote, z-parameter_found, z-value_denoted}
use Rattle.name_sites.proofs.SpendsNames.{s-field, s-object_call, s-wrong_call}
use Rattle.name_sites.proofs.SpendsOutput.{s-io_call}
use Rattle.name_sites.proofs.SpendsReducers.{t-folded_by}
use Rattle.name_sites.proofs.SpendsScope.{s-stands_for}
use Rattle.name_sites.proofs.Leaving.{leaving, left, left-falls}
use Rattle.name_sites.proofs.Measures.{counted-by, maybe-known, part-measure, part-size, with-part}
use Rattle.name_sites.proofs.Parts.{n-selections_of}
use Rattle.name_sites.proofs.Records.{SpendsInside, site-of}
use Rattle.name_sites.proofs.Spends.{Holds, Spends, SpendsAt, h-map, left-given, number-next, s-none, s-bind, s-fault, s-given, s-if, s-le, s-new_site, s-pure, s-some, s-then, s-where_clean-any}
use Rattle.typed_sites.specs.Sites.{in_number}
use Rattle.name_sites.proofs.Counts.{again, again-more, again-none, in_filter, in_iteration, in_optional, in_selections}

pub s-site_where : (which : ℕ) (x0 : Context) (x1 : ℕ) (x2 : Bool) → Spends which (site-of which) 0 (site_where x0 x1 x2)
s-site_where which here at false = s-pure which (site-of which) _ None (tt, omega arith)
s-site_where which here at true =
    s-bind which (counted-by (λ x. in_number which x)) (site-of which) 0 0 _ (new_site here at site.Reduction) _ (s-le which (counted-by (λ x. in_number which x)) _ _ _ (s-new_site which here at site.Reduction) (omega arith)) (omega arith) (λ n held1.
    s-pure which (site-of which) _ (Some n) (held1, omega arith))

pub z-through : (which : ℕ) (x0 : Log) (x1 : ObjectName) (x2 : Selections) (x3 : Option Shape) (x4 : ℕ) (x5 : Optional) → (counted-by (λ x. in_selections which x)).Whole x2 → (counted-by (λ x. in_optional which x)).Whole x5 → Holds (counted-by (λ x. in_iteration which x)) (in_selections which x2 + in_optional which x5) (through x0 x1 x2 x3 x4 x5)
z-through which log p ss t n f h2 h5 = (tt, omega arith)

pub z-item_found : (which : ℕ) (x0 : ℕ) (x1 : ℕ) (x2 : Bool) (x3 : Option Subtype) → Holds (with-part which) 0 (item_found x0 x1 x2 x3)
z-item_found which first n v s = (tt, omega arith)

late-where : (which : ℕ) (here : Context) (token : ℕ) (b : Bool) (log : Log) → again which (site_where here token b log).0 (left which (site_where here token b log).1) ≤ 0
late-where which here token false log = omega arith
late-where which here token true log = again-none which (length log.sites) _ (λ l. left-given which (length log.sites) (new_site here token site.Reduction log).1 (number-next here token site.Reduction log) l)

pub s-array_reduction : (which : ℕ) (x0 : Names) (x1 : Inside) (x2 : Context) (x3 : ObjectName) (x4 : Selections) (x5 : ℕ) (x6 : Attribute) (x7 : Expr) (x8 : Expr) → SpendsInside which x1 → (counted-by (λ x. in_selections which x)).Whole x4 → Spends which (maybe-known which) (in_selections which x4) (array_reduction x0 x1 x2 x3 x4 x5 x6 x7 x8)
s-array_reduction which names inside here p ss at a r v h1 h4 = record {
  at = λ log.
      let one = (s-site_where which here p.first (is_parallel a)).at log in
      let construct = (site_where here p.first (is_parallel a) log).0 in
      let log1 = (site_where here p.first (is_parallel a) log).1 in
      let late = late-where which here p.first (is_parallel a) log in
      let n = (new_parameter log1).0 in
      let log2 = (new_parameter log1).1 in
      let i = through log2 p ss (array_shape log2 p.subtype) n typed.Absent in
      let s = component_of (array_shape log2 p.subtype) in
      let f = (reducer_of names inside here r log2).0 in
      let log3 = (reducer_of names inside here r log2).1 in
      let fall = left-falls which log2 log3 ((k-reducer_of leaving names inside here r tt h1.keeps).at log2) in
      let two = (s-expr which names inside here wanted.Other v h1).at log3 in
      let x = (expr names inside here wanted.Other v log3).0 in
      let log4 = (expr names inside here wanted.Other v log3).1 in
      let more = again-more which construct (0 + (0 + left which log4)) (left which log1) (omega (arith, two.1, fall)) in
      let three = go construct n i s f x two.0 log4 (omega (arith, more, late)) refl (omega arith) in
      let y = both f x (λ g. folded_by (record { at = p.first; attribute = at; site = construct }) part.Nothing (part.AnIteration i) g (item_found p.first n p.variable s)) in
      let made10 = h-map (with-part which) (with-part which) 0 value_denoted (y log4).0 three.0 (λ item held8. let made9 = z-value_denoted which item held8 in (made9.0, omega (arith, made9.1))) in
      (made10.0, omega (arith, made10.1, three.1, two.1, one.1, fall));
}
  where
    go : (construct : Option ℕ) (n : ℕ) (i : Iteration) (s : Option Subtype) (f : Option Folding) (x : Option Found) → (maybe-known which).Whole x → (log : Log) → again which construct (0 + (0 + left which log)) ≤ 0 → in_filter which i ≡ 0 → in_iteration which i ≤ in_selections which ss
        → SpendsAt which (maybe-known which) ((site-of which).size construct + in_selections which ss + (maybe-known which).size x) (both f x (λ g. folded_by (record { at = p.first; attribute = at; site = construct }) part.Nothing (part.AnIteration i) g (item_found p.first n p.variable s))) log
    go construct n i s None x h log l e m = (s-none which (with-part {K = Known} which) _).at log
    go construct n i s (Some g) None h log l e m = (s-none which (with-part {K = Known} which) _).at log
    go construct n i s (Some g) (Some x) h log l e m =
        let more = again-more which construct (in_filter which i + (0 + left which log)) (0 + (0 + left which log)) (omega (arith, e)) in
        let made = t-folded_by which (record { at = p.first; attribute = at; site = construct }) part.Nothing (part.AnIteration i) g (item_found p.first n p.variable s) x tt h log (omega (arith, more, l)) in
        (made.0, omega (arith, made.1, m))

pub s-wrong_arguments : (which : ℕ) (x0 : Names) (x1 : Inside) (x2 : Context) (x3 : ℕ) (x4 : Args) → SpendsInside which x1 → Spends which (maybe-known which) 0 (wrong_arguments x0 x1 x2 x3 x4)
s-wrong_arguments which names inside here bracket as' h1 =
    s-where_clean-any which (with-part which) _ (args_alone names inside here as') _ (k-args_alone leaving names inside here as' tt h1.keeps) (λ u.
    s-fault which (with-part which) _ bracket WrongType)

pub s-array_reduced : (which : ℕ) (x0 : Names) (x1 : Inside) (x2 : Context) (x3 : ObjectName) (x4 : Selections) (x5 : ℕ) (x6 : Attribute) (x7 : ℕ) (x8 : Args) → SpendsInside which x1 → (counted-by (λ x. in_selections which x)).Whole x4 → Spends which (maybe-known which) (in_selections which x4) (array_reduced x0 x1 x2 x3 x4 x5 x6 x7 x8)
s-array_reduced which names inside here p ss at a bracket (syntax.AlsoArg (syntax.arg None r) (syntax.AlsoArg (syntax.arg None v) syntax.NoArg)) h1 h4 = s-le which (maybe-known which) _ _ _ (s-array_reduction which names inside here p ss at a r v h1 h4) (omega arith)
s-array_reduced which names inside here p ss at a bracket as' h1 h4 = s-le which (maybe-known which) _ _ _ (s-wrong_arguments which names inside here bracket as' h1) (omega arith)

pub s-reduced_with : (which : ℕ) (x0 : Names) (x1 : Inside) (x2 : Context) (x3 : ℕ) (x4 : Prefix) (x5 : TypedPart) (x6 : ℕ) (x7 : Attribute) (x8 : ℕ) (x9 : Args) (x10 : Bool) → SpendsInside which x1 → (part-measure which).Whole x5 → Spends which (maybe-known which) (part-size which x5) (reduced_with x0 x1 x2 x3 x4 x5 x6 x7 x8 x9 x10)
s-reduced_with which names inside here first (prefix.Object p) x at a bracket as' true h1 h5 = s-le which (maybe-known which) _ _ _ (s-array_reduced which names inside here p (selections_of x) at a bracket as' h1 tt) (omega (arith, n-selections_of which x h5))
s-reduced_with which names inside here first p x at a bracket as' any1 h1 h5 =
    s-where_clean-any which (with-part which) _ (args_alone names inside here as') _ (k-args_alone leaving names inside here as' tt h1.keeps) (λ u.
    s-fault which (with-part which) _ at ReduceRule)

pub s-of_array : (which : ℕ) (x0 : Names) (x1 : Inside) (x2 : Context) (x3 : ℕ) (x4 : Prefix) (x5 : TypedPart) (x6 : ℕ) (x7 : Attribute) (x8 : ℕ) (x9 : Args) → SpendsInside which x1 → (part-measure which).Whole x5 → Spends which (maybe-known which) (part-size which x5) (of_array x0 x1 x2 x3 x4 x5 x6 x7 x8 x9)
s-of_array which names inside here first p x at a bracket as' h1 h5 =
    s-if which (maybe-known which) _ (is_bound a) ((read (λ log. dimensions_in log (prefix_subtype p))) >>= (bound_with names inside here first (mentioned p x) a bracket as')) (wrong_call names inside here first as')
    (s-then which (maybe-known which) _ (read (λ log. dimensions_in log (prefix_subtype p))) _ (k-read leaving (λ log. dimensions_in log (prefix_subtype p))) (λ out.
    let made2 = z-mentioned which p x h5 in
    s-le which (maybe-known which) _ _ _ (s-bound_with which names inside here first (mentioned p x) a bracket as' out h1 made2.0) (omega (arith, made2.1))))
    (s-le which (maybe-known which) _ _ _ (s-wrong_call which names inside here first as' h1) (omega arith))

pub s-other_with : (which : ℕ) (x0 : Names) (x1 : Inside) (x2 : Context) (x3 : ℕ) (x4 : Prefix) (x5 : TypedPart) (x6 : ℕ) (x7 : Attribute) (x8 : ℕ) (x9 : Args) → SpendsInside which x1 → (part-measure which).Whole x5 → Spends which (maybe-known which) (part-size which x5) (other_with x0 x1 x2 x3 x4 x5 x6 x7 x8 x9)
s-other_with which names inside here first (prefix.Type (subtype.Scalar s)) x at a bracket as' h1 h5 = s-le which (maybe-known which) _ _ _ (s-scalar_with which names inside here first s a bracket as' h1) (omega arith)
s-other_with which names inside here first p x at a bracket as' h1 h5 = s-le which (maybe-known which) _ _ _ (s-of_array which names inside here first p x at a bracket as' h1 h5) (omega arith)

pub s-attribute_with : (which : ℕ) (x0 : Names) (x1 : Inside) (x2 : Context) (x3 : ℕ) (x4 : Prefix) (x5 : TypedPart) (x6 : ℕ) (x7 : Attribute) (x8 : ℕ) (x9 : Args) → SpendsInside which x1 → (part-measure which).Whole x5 → Spends which (maybe-known which) (part-size which x5) (attribute_with x0 x1 x2 x3 x4 x5 x6 x7 x8 x9)
s-attribute_with which names inside here first p x at a bracket as' h1 h5 =
    s-if which (maybe-known which) _ (is_reduction a) ((read (λ log. is_array_object log p)) >>= (reduced_with names inside here first p x at a bracket as')) (other_with names inside here first p x at a bracket as')
    (s-then which (maybe-known which) _ (read (λ log. is_array_object log p)) _ (k-read leaving (λ log. is_array_object log p)) (λ out.
    s-le which (maybe-known which) _ _ _ (s-reduced_with which names inside here first p x at a bracket as' out h1 h5) (omega arith)))
    (s-le which (maybe-known which) _ _ _ (s-other_with which names inside here first p x at a bracket as' h1 h5) (omega arith))

pub s-call_form : (which : ℕ) (x0 : Names) (x1 : Inside) (x2 : Context) (x3 : ℕ) (x4 : Args) (x5 : KnownDenoted) (x6 : TypedPart) → SpendsInside which x1 → (part-measure which).Whole x6 → Spends which (maybe-known which) (part-size which x6) (call_form x0 x1 x2 x3 x4 x5 x6)
s-call_form which names inside here bracket as' (denoted.Value (known.Object p)) x h1 h6 = s-le which (maybe-known which) _ _ _ (s-object_call which names inside here p x bracket as' p.subtype h1 h6) (omega arith)
s-call_form which names inside here bracket as' (denoted.Type first s) x h1 h6 = s-le which (maybe-known which) _ _ _ (s-conversion which names inside here bracket first s as' h1) (omega arith)
s-call_form which names inside here bracket as' (denoted.Sub first last n) x h1 h6 = s-le which (maybe-known which) _ _ _ (s-sub_call which names inside here bracket first last n as' h1) (omega arith)
s-call_form which names inside here bracket as' (denoted.Io first last p r) x h1 h6 = s-le which (maybe-known which) _ _ _ (s-io_call which names inside here bracket first last p r as' h1) (omega arith)
s-call_form which names inside here bracket as' (denoted.Attribute first p at a) x h1 h6 = s-le which (maybe-known which) _ _ _ (s-attribute_with which names inside here first p x at a bracket as' h1 h6) (omega arith)
s-call_form which names inside here bracket as' d x h1 h6 = s-le which (maybe-known which) _ _ _ (s-wrong_call which names inside here (denoted_first d) as' h1) (omega arith)

pub s-call : (which : ℕ) (x0 : Names) (x1 : Inside) (x2 : Context) (x3 : ℕ) (x4 : Args) (x5 : Denoted) → SpendsInside which x1 → (with-part which).Whole x5 → Spends which (maybe-known which) (part-size which x5.part) (call x0 x1 x2 x3 x4 x5)
unfolding call
s-call which names inside here bracket as' d h1 h5 = s-le which (maybe-known which) _ _ _ (s-call_form which names inside here bracket as' d.known d.part h1 h5) (omega arith)

pub s-part_of : (which : ℕ) (x0 : Names) (x1 : Inside) (x2 : Context) (x3 : NamePart) (x4 : Denoted) → SpendsInside which x1 → (with-part which).Whole x4 → Spends which (maybe-known which) (part-size which x4.part) (part_of x0 x1 x2 x3 x4)
unfolding part_of
s-part_of which names inside here (syntax.Field at) d h1 h4 =
    s-bind which (maybe-known which) (maybe-known which) (part-size which d.part) 0 _ (settled_attribute d) _ (s-le which (maybe-known which) _ _ _ (s-settled_attribute which d h4) (omega arith)) (omega arith) (λ x held1.
    s-given which (with-part which) (with-part which) 0 _ x _ held1 (omega arith) (λ item held2.
    s-le which (maybe-known which) _ _ _ (s-field which names here at item held2) (omega arith)))
s-part_of which names inside here (syntax.Call bracket a as') d h1 h4 = s-le which (maybe-known which) _ _ _ (s-call which names inside here bracket (syntax.AlsoArg a as') d h1 h4) (omega arith)
s-part_of which names inside here (syntax.Attribute at) d h1 h4 =
    s-bind which (maybe-known which) (maybe-known which) (part-size which d.part) 0 _ (settled_attribute d) _ (s-le which (maybe-known which) _ _ _ (s-settled_attribute which d h4) (omega arith)) (omega arith) (λ x held1.
    s-given which (with-part which) (with-part which) 0 _ x _ held1 (omega arith) (λ e held2.
    s-le which (maybe-known which) _ _ _ (s-attribute_found which e at (attribute_at (symbol names at)) held2) (omega arith)))
s-part_of which names inside here (syntax.RangeAttribute at) d h1 h4 =
    s-bind which (maybe-known which) (maybe-known which) (part-size which d.part) 0 _ (settled_attribute d) _ (s-le which (maybe-known which) _ _ _ (s-settled_attribute which d h4) (omega arith)) (omega arith) (λ x held1.
    s-given which (with-part which) (with-part which) 0 _ x _ held1 (omega arith) (λ e held2.
    s-le which (maybe-known which) _ _ _ (s-attribute_found which e at (Some attribute'.Range) held2) (omega arith)))

pub s-part_alone : (which : ℕ) (x0 : Names) (x1 : Inside) (x2 : Context) (x3 : NamePart) → SpendsInside which x1 → Spends which (maybe-known which) 0 (part_alone x0 x1 x2 x3)
s-part_alone which names inside here (syntax.Call bracket a as') h1 =
    s-then which (maybe-known which) _ (args_alone names inside here (syntax.AlsoArg a as')) _ (k-args_alone leaving names inside here (syntax.AlsoArg a as') tt h1.keeps) (λ u.
    s-pure which (maybe-known which) _ None (tt, omega arith))
s-part_alone which names inside here any1 h1 = s-pure which (maybe-known which) _ None (tt, omega arith)

pub s-next_part : (which : ℕ) (x0 : Names) (x1 : Inside) (x2 : Context) (x3 : Option Denoted) (x4 : NamePart) → SpendsInside which x1 → (maybe-known which).Whole x3 → Spends which (maybe-known which) ((maybe-known which).size x3) (next_part x0 x1 x2 x3 x4)
s-next_part which names inside here None p h1 h3 = s-le which (maybe-known which) _ _ _ (s-part_alone which names inside here p h1) (omega arith)
s-next_part which names inside here (Some d) p h1 h3 = s-le which (maybe-known which) _ _ _ (s-part_of which names inside here p d h1 h3) (omega arith)

pub s-parts : (which : ℕ) (x0 : Names) (x1 : Inside) (x2 : Context) (x3 : Option Denoted) (x4 : NameParts) → SpendsInside which x1 → (maybe-known which).Whole x3 → Spends which (maybe-known which) ((maybe-known which).size x3) (parts x0 x1 x2 x3 x4)
s-parts which names inside here d syntax.NoPart h1 h3 = s-pure which (maybe-known which) _ d (h3, omega arith)
s-parts which names inside here d (syntax.AlsoPart p ps) h1 h3 =
    s-bind which (maybe-known which) (maybe-known which) ((maybe-known which).size d) 0 _ (next_part names inside here d p) _ (s-le which (maybe-known which) _ _ _ (s-next_part which names inside here d p h1 h3) (omega arith)) (omega arith) (λ e held1.
    s-le which (maybe-known which) _ _ _ (s-parts which names inside here e ps h1 held1) (omega arith))

pub s-name : (which : ℕ) (x0 : Names) (x1 : Inside) (x2 : Context) (x3 : Name) → SpendsInside which x1 → Spends which (maybe-known which) 0 (name x0 x1 x2 x3)
unfolding name
s-name which names inside here (syntax.name first ps) h1 =
    s-bind which (maybe-known which) (maybe-known which) 0 0 _ (stands_for names here first) _ (s-le which (maybe-known which) _ _ _ (s-stands_for which names here first) (omega arith)) (omega arith) (λ d held1.
    s-bind which (maybe-known which) (maybe-known which) ((maybe-known which).size d) 0 _ (parts names inside here d ps) _ (s-le which (maybe-known which) _ _ _ (s-parts which names inside here d ps h1 held1) (omega arith)) (omega arith) (λ e held2.
    s-given which (with-part which) (with-part which) 0 _ e _ held2 (omega arith) (λ item held3.
    s-le which (maybe-known which) _ _ _ (s-settled_attribute which item held3) (omega arith))))

pub s-valued_form : (which : ℕ) (x0 : Names) (x1 : Inside) (x2 : Context) (x3 : KnownDenoted) (x4 : TypedPart) → SpendsInside which x1 → (part-measure which).Whole x4 → Spends which (maybe-known which) (part-size which x4) (valued_form x0 x1 x2 x3 x4)
s-valued_form which names inside here (denoted.Sub first last n) x h1 h4 = s-le which (maybe-known which) _ _ _ (s-sub_call which names inside here first first last n syntax.NoArg h1) (omega arith)
s-valued_form which names inside here (denoted.Io first last p r) x h1 h4 = s-le which (maybe-known which) _ _ _ (s-io_call which names inside here first first last p r syntax.NoArg h1) (omega arith)
s-valued_form which names inside here d x h1 h4 =
    s-some which (with-part which) _ (denote d x) (let made1 = z-denote which d x h4 in
    (made1.0, omega (arith, made1.1)))

pub s-valued_by : (which : ℕ) (x0 : Names) (x1 : Inside) (x2 : Context) (x3 : Denoted) → SpendsInside which x1 → (with-part which).Whole x3 → Spends which (maybe-known which) (part-size which x3.part) (valued_by x0 x1 x2 x3)
unfolding valued_by
s-valued_by which names inside here d h1 h3 = s-le which (maybe-known which) _ _ _ (s-valued_form which names inside here d.known d.part h1 h3) (omega arith)

pub s-value_form : (which : ℕ) (x0 : KnownDenoted) (x1 : TypedPart) → (part-measure which).Whole x1 → Spends which (maybe-known which) (part-size which x1) (value_form x0 x1)
s-value_form which (denoted.Value f) x h1 = s-some which (with-part which) _ (record { known = f; part = x }) (h1, omega arith)
s-value_form which (denoted.Parameter first s) x h1 =
    s-some which (with-part which) _ (parameter_found first s x) (let made1 = z-parameter_found which first s x h1 in
    (made1.0, omega (arith, made1.1)))
s-value_form which d x h1 = s-fault which (with-part which) _ (denoted_first d) WrongType

pub s-value_named : (which : ℕ) (x0 : Names) (x1 : Inside) (x2 : Context) (x3 : Name) → SpendsInside which x1 → Spends which (maybe-known which) 0 (value_named x0 x1 x2 x3)
unfolding value_named
s-value_named which names inside here n h1 =
    s-bind which (maybe-known which) (maybe-known which) 0 0 _ (name names inside here n) _ (s-le which (maybe-known which) _ _ _ (s-name which names inside here n h1) (omega arith)) (omega arith) (λ d held1.
    s-bind which (maybe-known which) (maybe-known which) ((maybe-known which).size d) 0 _ (given d (valued_by names inside here)) _ (s-given which (with-part which) (with-part which) 0 _ d _ held1 (omega arith) (λ item held4.
    s-le which (maybe-known which) _ _ _ (s-valued_by which names inside here item h1 held4) (omega arith))) (omega arith) (λ e held2.
    s-given which (with-part which) (with-part which) 0 _ e _ held2 (omega arith) (λ x held3.
    s-le which (maybe-known which) _ _ _ (s-value_form which x.known x.part held3) (omega arith))))
