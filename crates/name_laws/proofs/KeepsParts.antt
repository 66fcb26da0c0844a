-- What holds of each line of the log holds of what Parts judges.
use Rattle.name_rules.specs.Attributes.{attribute_at, attribute_found, bound_with, dimensions_in, is_array_object, is_bound, is_reduction, mentioned, prefix_subtype, settled_attribute}
use Rattle.name_rules.specs.Expressions.{Inside, expr}
use Rattle.name_rules.specs.Found.{Denoted, denote, parameter_found}
use Rattle.name_rules.specs.Names.{args_alone, denoted_first, field, wrong_call}
use Rattle.name_rules.specs.Reducers.{folded_by, reducer_of}
use Rattle.name_rules.specs.Scope.{stands_for}
use Rattle.name_rules.specs.Symbols.{symbol}
use Rattle.name_rules.specs.Types.{component_of}
use Rattle.name_rules.specs.declared.found.Attribute.TheVariants as attribute'
use Rattle.name_rules.specs.declared.found.Attribute.{Attribute}
use Rattle.name_rules.specs.declared.found.Denoted.TheVariants as denoted
use Rattle.name_rules.specs.declared.found.Denoted.{Denoted as KnownDenoted}
use Rattle.name_rules.specs.declared.found.Found.TheVariants as known
use Rattle.name_rules.specs.declared.found.ObjectName.{ObjectName}
use Rattle.name_rules.specs.declared.found.Prefix.TheVariants as prefix
use Rattle.name_rules.specs.declared.found.Prefix.{Prefix}
use Rattle.name_rules.specs.declared.log.Rule.TheVariants.{ReduceRule, WrongType}
use Rattle.name_rules.specs.declared.scope.Context.{Context}
use Rattle.name_rules.specs.declared.scope.Names.{Names}
use Rattle.name_rules.specs.declared.types.Subtype.TheVariants as subtype
use Rattle.name_rules.specs.declared.types.Wanted.TheVariants as wanted
use Rattle.syntax_tree.specs.Syntax as syntax
use Rattle.syntax_tree.specs.Syntax.{Args, Expr, Name, NamePart, NameParts}
use Rattle.typed_tree.specs.Decoded as part
use Rattle.typed_tree.specs.Syntax as typed
use Rattle.typed_tree.specs.Syntax.{Selections}
use Rattle.typed_tree.specs.declared.program.SiteKind.TheVariants as site
use Rattle.typed_tree.specs.declared.program.SiteKind.{SiteKind}
use Rattle.std.specs.Prelude.{Bool, None, Option, Some, false, true, ℕ}
use Rattle.name_rules.specs.TypedParts.{selections_of}
use Rattle.typed_tree.specs.Decoded.{TypedPart}
use Rattle.name_rules.specs.Judging.{◌>>=◌, fault, given, pure, read}
use Rattle.name_rules.specs.Parts.{new_parameter, new_site, site_where, array_shape, through, is_parallel, item_found, array_reduction, wrong_arguments, array_reduced, reduced_with, of_array, other_with, attribute_with, call_form, call, part_of, part_alone, next_part, parts, name, valued_form, valued_by, value_form, value_named}
use Rattle.name_laws.proofs.Walk.{Walk, Keeps, k-pure, k-some, k-bind, k-fault, k-read, k-if, k-given, k-both, k-where_clean}
use Rattle.name_laws.proofs.Walked.{KeepsInside}
use Rattle.name_laws.proofs.KeepsAttributes.{k-attribute_found, k-bound_with, k-scalar_with, k-settled_attribute}
use Rattle.name_laws.proofs.KeepsCalls.{k-conversion, k-sub_call}
use Rattle.name_laws.proofs.KeepsExpressions.{k-expr}
use Rattle.name_laws.proofs.KeepsNames.{k-args_alone, k-field, k-object_call, k-wrong_call}
use Rattle.name_laws.proofs.KeepsOutput.{k-io_call}
use Rattle.name_laws.proofs.KeepsReducers.{k-folded_by, k-reducer_of}
use Rattle.name_laws.proofs.KeepsScope.{k-stands_for}

pub k-new_parameter : (walk : Walk) → Keeps walk new_parameter
k-new_parameter walk = record { at = walk.parameter }

pub k-new_site : (walk : Walk) (here : Context) (at : ℕ) (k : SiteKind) → Keeps walk (new_site here at k)
k-new_site walk here at k = record { at = walk.site here at k }

pub k-site_where : (walk : Walk) (x0 : Context) (x1 : ℕ) (x2 : Bool) → Keeps walk (site_where x0 x1 x2)
k-site_where walk here at false = k-pure walk None
k-site_where walk here at true = k-bind walk (new_site here at site.Reduction) (λ n. pure (Some n)) (k-new_site walk here at site.Reduction) (λ n. k-pure walk (Some n))

pub k-array_reduction : (walk : Walk) (x0 : Names) (x1 : Inside) (x2 : Context) (x3 : ObjectName) (x4 : Selections) (x5 : ℕ) (x6 : Attribute) (x7 : Expr) (x8 : Expr) → walk.Takes x0 → KeepsInside walk x1 → Keeps walk (array_reduction x0 x1 x2 x3 x4 x5 x6 x7 x8)
k-array_reduction walk names inside here p ss at a r v keeps1 keeps2 = record {
  at = λ log.
      let out1 = site_where here p.first (is_parallel a) log in
      let construct = out1.0 in
      let out2 = new_parameter out1.1 in
      let n = out2.0 in
      let out3 = read (λ log. through log p ss (array_shape log p.subtype) n typed.Absent) out2.1 in
      let i = out3.0 in
      let out4 = read (λ log. component_of (array_shape log p.subtype)) out3.1 in
      let c = out4.0 in
      let out5 = reducer_of names inside here r out4.1 in
      let f = out5.0 in
      let out6 = expr names inside here wanted.Other v out5.1 in
      let x = out6.0 in
      walk.joins _ _ _ ((k-site_where walk here p.first (is_parallel a)).at log)
      (walk.joins _ _ _ ((k-new_parameter walk).at out1.1)
      (walk.joins _ _ _ ((k-read walk (λ log. through log p ss (array_shape log p.subtype) n typed.Absent)).at out2.1)
      (walk.joins _ _ _ ((k-read walk (λ log. component_of (array_shape log p.subtype))).at out3.1)
      (walk.joins _ _ _ ((k-reducer_of walk names inside here r keeps1 keeps2).at out4.1)
      (walk.joins _ _ _ ((k-expr walk names inside here wanted.Other v keeps1 keeps2).at out5.1)
      ((k-both walk f x (λ g. folded_by (record { at = p.first; attribute = at; site = construct }) part.Nothing (part.AnIteration i) g (item_found p.first n p.variable c)) (λ g z7. k-folded_by walk (record { at = p.first; attribute = at; site = construct }) part.Nothing (part.AnIteration i) g (item_found p.first n p.variable c) z7)).at out6.1))))));
}

pub k-wrong_arguments : (walk : Walk) (x0 : Names) (x1 : Inside) (x2 : Context) (x3 : ℕ) (x4 : Args) → walk.Takes x0 → KeepsInside walk x1 → Keeps walk (wrong_arguments x0 x1 x2 x3 x4)
k-wrong_arguments walk names inside here bracket as' keeps1 keeps2 = k-where_clean walk (args_alone names inside here as') (λ u. fault bracket WrongType) (k-args_alone walk names inside here as' keeps1 keeps2) (λ u. k-fault walk bracket WrongType)

pub k-array_reduced : (walk : Walk) (x0 : Names) (x1 : Inside) (x2 : Context) (x3 : ObjectName) (x4 : Selections) (x5 : ℕ) (x6 : Attribute) (x7 : ℕ) (x8 : Args) → walk.Takes x0 → KeepsInside walk x1 → Keeps walk (array_reduced x0 x1 x2 x3 x4 x5 x6 x7 x8)
k-array_reduced walk names inside here p ss at a bracket (syntax.AlsoArg (syntax.arg None r) (syntax.AlsoArg (syntax.arg None v) syntax.NoArg)) keeps1 keeps2 = k-array_reduction walk names inside here p ss at a r v keeps1 keeps2
k-array_reduced walk names inside here p ss at a bracket as' keeps1 keeps2 = k-wrong_arguments walk names inside here bracket as' keeps1 keeps2

pub k-reduced_with : (walk : Walk) (x0 : Names) (x1 : Inside) (x2 : Context) (x3 : ℕ) (x4 : Prefix) (x5 : TypedPart) (x6 : ℕ) (x7 : Attribute) (x8 : ℕ) (x9 : Args) (x10 : Bool) → walk.Takes x0 → KeepsInside walk x1 → Keeps walk (reduced_with x0 x1 x2 x3 x4 x5 x6 x7 x8 x9 x10)
k-reduced_with walk names inside here first (prefix.Object p) x at a bracket as' true keeps1 keeps2 = k-array_reduced walk names inside here p (selections_of x) at a bracket as' keeps1 keeps2
k-reduced_with walk names inside here first p x at a bracket as' _ keeps1 keeps2 = k-where_clean walk (args_alone names inside here as') (λ u. fault at ReduceRule) (k-args_alone walk names inside here as' keeps1 keeps2) (λ u. k-fault walk at ReduceRule)

pub k-of_array : (walk : Walk) (x0 : Names) (x1 : Inside) (x2 : Context) (x3 : ℕ) (x4 : Prefix) (x5 : TypedPart) (x6 : ℕ) (x7 : Attribute) (x8 : ℕ) (x9 : Args) → walk.Takes x0 → KeepsInside walk x1 → Keeps walk (of_array x0 x1 x2 x3 x4 x5 x6 x7 x8 x9)
k-of_array walk names inside here first p x at a bracket as' keeps1 keeps2 = k-if walk (is_bound a) ((read (λ log. dimensions_in log (prefix_subtype p)) >>= bound_with names inside here first (mentioned p x) a bracket as')) (wrong_call names inside here first as') (k-bind walk (read (λ log. dimensions_in log (prefix_subtype p))) (bound_with names inside here first (mentioned p x) a bracket as') (k-read walk (λ log. dimensions_in log (prefix_subtype p))) (λ z2. k-bound_with walk names inside here first (mentioned p x) a bracket as' z2 keeps1 keeps2)) (k-wrong_call walk names inside here first as' keeps1 keeps2)

pub k-other_with : (walk : Walk) (x0 : Names) (x1 : Inside) (x2 : Context) (x3 : ℕ) (x4 : Prefix) (x5 : TypedPart) (x6 : ℕ) (x7 : Attribute) (x8 : ℕ) (x9 : Args) → walk.Takes x0 → KeepsInside walk x1 → Keeps walk (other_with x0 x1 x2 x3 x4 x5 x6 x7 x8 x9)
k-other_with walk names inside here first (prefix.Type (subtype.Scalar s)) x at a bracket as' keeps1 keeps2 = k-scalar_with walk names inside here first s a bracket as' keeps1 keeps2
k-other_with walk names inside here first p x at a bracket as' keeps1 keeps2 = k-of_array walk names inside here first p x at a bracket as' keeps1 keeps2

pub k-attribute_with : (walk : Walk) (x0 : Names) (x1 : Inside) (x2 : Context) (x3 : ℕ) (x4 : Prefix) (x5 : TypedPart) (x6 : ℕ) (x7 : Attribute) (x8 : ℕ) (x9 : Args) → walk.Takes x0 → KeepsInside walk x1 → Keeps walk (attribute_with x0 x1 x2 x3 x4 x5 x6 x7 x8 x9)
k-attribute_with walk names inside here first p x at a bracket as' keeps1 keeps2 = k-if walk (is_reduction a) ((read (λ log. is_array_object log p) >>= reduced_with names inside here first p x at a bracket as')) (other_with names inside here first p x at a bracket as') (k-bind walk (read (λ log. is_array_object log p)) (reduced_with names inside here first p x at a bracket as') (k-read walk (λ log. is_array_object log p)) (λ z2. k-reduced_with walk names inside here first p x at a bracket as' z2 keeps1 keeps2)) (k-other_with walk names inside here first p x at a bracket as' keeps1 keeps2)

pub k-call_form : (walk : Walk) (x0 : Names) (x1 : Inside) (x2 : Context) (x3 : ℕ) (x4 : Args) (x5 : KnownDenoted) (x6 : TypedPart) → walk.Takes x0 → KeepsInside walk x1 → Keeps walk (call_form x0 x1 x2 x3 x4 x5 x6)
k-call_form walk names inside here bracket as' (denoted.Value (known.Object p)) x keeps1 keeps2 = k-object_call walk names inside here p x bracket as' p.subtype keeps1 keeps2
k-call_form walk names inside here bracket as' (denoted.Type first s) x keeps1 keeps2 = k-conversion walk names inside here bracket first s as' keeps1 keeps2
k-call_form walk names inside here bracket as' (denoted.Sub first last n) x keeps1 keeps2 = k-sub_call walk names inside here bracket first last n as' keeps1 keeps2
k-call_form walk names inside here bracket as' (denoted.Io first last p r) x keeps1 keeps2 = k-io_call walk names inside here bracket first last p r as' keeps1 keeps2
k-call_form walk names inside here bracket as' (denoted.Attribute first p at a) x keeps1 keeps2 = k-attribute_with walk names inside here first p x at a bracket as' keeps1 keeps2
k-call_form walk names inside here bracket as' d x keeps1 keeps2 = k-wrong_call walk names inside here (denoted_first d) as' keeps1 keeps2

pub k-call : (walk : Walk) (x0 : Names) (x1 : Inside) (x2 : Context) (x3 : ℕ) (x4 : Args) (x5 : Denoted) → walk.Takes x0 → KeepsInside walk x1 → Keeps walk (call x0 x1 x2 x3 x4 x5)
unfolding call
k-call walk names inside here bracket as' d keeps1 keeps2 = k-call_form walk names inside here bracket as' d.known d.part keeps1 keeps2

pub k-part_of : (walk : Walk) (x0 : Names) (x1 : Inside) (x2 : Context) (x3 : NamePart) (x4 : Denoted) → walk.Takes x0 → KeepsInside walk x1 → Keeps walk (part_of x0 x1 x2 x3 x4)
unfolding part_of
k-part_of walk names inside here (syntax.Field at) d keeps1 keeps2 = k-bind walk (settled_attribute d) (λ x. given x (field names here at)) (k-settled_attribute walk d) (λ x. k-given walk x (field names here at) (λ z1. k-field walk names here at z1 keeps1))
k-part_of walk names inside here (syntax.Call bracket a as') d keeps1 keeps2 = k-call walk names inside here bracket (syntax.AlsoArg a as') d keeps1 keeps2
k-part_of walk names inside here (syntax.Attribute at) d keeps1 keeps2 = k-bind walk (settled_attribute d) (λ x. given x (λ e. attribute_found e at (attribute_at (symbol names at)))) (k-settled_attribute walk d) (λ x. k-given walk x (λ e. attribute_found e at (attribute_at (symbol names at))) (λ e. k-attribute_found walk e at (attribute_at (symbol names at))))
k-part_of walk names inside here (syntax.RangeAttribute at) d keeps1 keeps2 = k-bind walk (settled_attribute d) (λ x. given x (λ e. attribute_found e at (Some attribute'.Range))) (k-settled_attribute walk d) (λ x. k-given walk x (λ e. attribute_found e at (Some attribute'.Range)) (λ e. k-attribute_found walk e at (Some attribute'.Range)))

pub k-part_alone : (walk : Walk) (x0 : Names) (x1 : Inside) (x2 : Context) (x3 : NamePart) → walk.Takes x0 → KeepsInside walk x1 → Keeps walk (part_alone x0 x1 x2 x3)
k-part_alone walk names inside here (syntax.Call bracket a as') keeps1 keeps2 = k-bind walk (args_alone names inside here (syntax.AlsoArg a as')) (λ u. pure None) (k-args_alone walk names inside here (syntax.AlsoArg a as') keeps1 keeps2) (λ u. k-pure walk None)
k-part_alone walk names inside here _ keeps1 keeps2 = k-pure walk None

pub k-next_part : (walk : Walk) (x0 : Names) (x1 : Inside) (x2 : Context) (x3 : Option Denoted) (x4 : NamePart) → walk.Takes x0 → KeepsInside walk x1 → Keeps walk (next_part x0 x1 x2 x3 x4)
k-next_part walk names inside here None p keeps1 keeps2 = k-part_alone walk names inside here p keeps1 keeps2
k-next_part walk names inside here (Some d) p keeps1 keeps2 = k-part_of walk names inside here p d keeps1 keeps2

pub k-parts : (walk : Walk) (x0 : Names) (x1 : Inside) (x2 : Context) (x3 : Option Denoted) (x4 : NameParts) → walk.Takes x0 → KeepsInside walk x1 → Keeps walk (parts x0 x1 x2 x3 x4)
k-parts walk names inside here d syntax.NoPart keeps1 keeps2 = k-pure walk d
k-parts walk names inside here d (syntax.AlsoPart p ps) keeps1 keeps2 = k-bind walk (next_part names inside here d p) (λ e. parts names inside here e ps) (k-next_part walk names inside here d p keeps1 keeps2) (λ e. k-parts walk names inside here e ps keeps1 keeps2)

pub k-name : (walk : Walk) (x0 : Names) (x1 : Inside) (x2 : Context) (x3 : Name) → walk.Takes x0 → KeepsInside walk x1 → Keeps walk (name x0 x1 x2 x3)
unfolding name
k-name walk names inside here (syntax.name first ps) keeps1 keeps2 = record {
  at = λ log.
      let out1 = stands_for names here first log in
      let d = out1.0 in
      let out2 = parts names inside here d ps out1.1 in
      let e = out2.0 in
      walk.joins _ _ _ ((k-stands_for walk names here first keeps1).at log)
      (walk.joins _ _ _ ((k-parts walk names inside here d ps keeps1 keeps2).at out1.1)
      ((k-given walk e (settled_attribute) (λ z3. k-settled_attribute walk z3)).at out2.1));
}

pub k-valued_form : (walk : Walk) (x0 : Names) (x1 : Inside) (x2 : Context) (x3 : KnownDenoted) (x4 : TypedPart) → walk.Takes x0 → KeepsInside walk x1 → Keeps walk (valued_form x0 x1 x2 x3 x4)
k-valued_form walk names inside here (denoted.Sub first last n) x keeps1 keeps2 = k-sub_call walk names inside here first first last n syntax.NoArg keeps1 keeps2
k-valued_form walk names inside here (denoted.Io first last p r) x keeps1 keeps2 = k-io_call walk names inside here first first last p r syntax.NoArg keeps1 keeps2
k-valued_form walk names inside here d x keeps1 keeps2 = k-some walk (denote d x)

pub k-valued_by : (walk : Walk) (x0 : Names) (x1 : Inside) (x2 : Context) (x3 : Denoted) → walk.Takes x0 → KeepsInside walk x1 → Keeps walk (valued_by x0 x1 x2 x3)
unfolding valued_by
k-valued_by walk names inside here d keeps1 keeps2 = k-valued_form walk names inside here d.known d.part keeps1 keeps2

pub k-value_form : (walk : Walk) (x0 : KnownDenoted) (x1 : TypedPart) → Keeps walk (value_form x0 x1)
k-value_form walk (denoted.Value f) x = k-some walk (record { known = f; part = x })
k-value_form walk (denoted.Parameter first s) x = k-some walk (parameter_found first s x)
k-value_form walk d x = k-fault walk (denoted_first d) WrongType

pub k-value_named : (walk : Walk) (x0 : Names) (x1 : Inside) (x2 : Context) (x3 : Name) → walk.Takes x0 → KeepsInside walk x1 → Keeps walk (value_named x0 x1 x2 x3)
unfolding value_named
k-value_named walk names inside here n keeps1 keeps2 = record {
  at = λ log.
      let out1 = name names inside here n log in
      let d = out1.0 in
      let out3 = given d (valued_by names inside here) out1.1 in
      let e = out3.0 in
      walk.joins _ _ _ ((k-name walk names inside here n keeps1 keeps2).at log)
      (walk.joins _ _ _ ((k-given walk d (valued_by names inside here) (λ z2. k-valued_by walk names inside here z2 keeps1 keeps2)).at out1.1)
      ((k-given walk e (λ x. value_form x.known x.part) (λ x. k-value_form walk x.known x.part)).at out3.1));
}
