-- What is judged without a fault is found: whole names.
use Rattle.std.proofs.Common.{ℕ, Option, Some, None, Bool, true, false, option_map}
use Rattle.syntax_tree.specs.Syntax as syntax
use Rattle.typed_tree.specs.Decoded as part
use Rattle.typed_tree.specs.Decoded.{TypedPart}
use Rattle.typed_tree.specs.Syntax as typed
use Rattle.name_rules.specs.Expressions.{Inside, expr}
use Rattle.name_rules.specs.Found.{Denoted, denote}
use Rattle.name_rules.specs.Judging.{both, fault, given, read, where_clean}
use Rattle.name_rules.specs.Scope.{stands_for}
use Rattle.name_rules.specs.Symbols.{symbol}
use Rattle.name_rules.specs.TypedParts.{selections_of}
use Rattle.name_rules.specs.declared.found.Denoted.TheVariants as denoted
use Rattle.name_rules.specs.declared.found.Denoted.{Denoted as KnownDenoted}
use Rattle.name_rules.specs.declared.found.Found.TheVariants as known
use Rattle.name_rules.specs.declared.found.ObjectName.{ObjectName}
use Rattle.name_rules.specs.declared.log.Rule.TheVariants as rule
use Rattle.name_rules.specs.declared.scope.Context.{Context}
use Rattle.name_rules.specs.declared.scope.Names.{Names}
use Rattle.name_rules.specs.declared.types.Subtype.TheVariants as subtype
use Rattle.name_rules.specs.declared.types.Wanted.TheVariants as wanted
use Rattle.name_complete.proofs.Explains.{Any, Is, Sound, mapped, s-bind, s-both, s-fault, s-given, s-if, s-pure, s-read, s-some, s-where_clean}
use Rattle.name_complete.proofs.Facts.{Clear, DenotedOf, DenotedOk, FoundFor, FoundOk, LevelSound, other-fits}
use Rattle.syntax_tree.specs.Syntax.{Args, Expr, Name, NameParts}
use Rattle.syntax_tree.specs.Syntax.{NamePart}
use Rattle.typed_tree.specs.Syntax.{Selections}
use Rattle.typed_tree.specs.declared.program.SiteKind.TheVariants as site
use Rattle.name_rules.specs.Attributes.{attribute_at, dimensions_in, is_array_object, is_bound, is_reduction, mentioned, prefix_subtype, settled_attribute}
use Rattle.name_rules.specs.Found.{value_denoted}
use Rattle.name_rules.specs.Names.{args_alone}
use Rattle.name_rules.specs.Parts as a
use Rattle.name_rules.specs.Parts.{new_parameter, new_site}
use Rattle.name_rules.specs.Reducers.{folded_by, reducer_of}
use Rattle.name_rules.specs.Types.{component_of}
use Rattle.name_rules.specs.declared.found.Attribute.TheVariants as attribute'
use Rattle.name_rules.specs.declared.found.Attribute.{Attribute}
use Rattle.name_rules.specs.declared.found.Prefix.TheVariants as prefix
use Rattle.name_rules.specs.declared.found.Prefix.{Prefix}
use Rattle.name_complete.proofs.SoundAttributes.{s-attribute_found, s-bound_with, s-scalar_with, s-settled_attribute}
use Rattle.name_complete.proofs.SoundCalls.{s-conversion, s-sub_call}
use Rattle.name_complete.proofs.SoundExpressions.{s-expr}
use Rattle.name_complete.proofs.SoundNames.{s-args_alone, s-field, s-new_parameter, s-new_site, s-object_call, s-wrong_call}
use Rattle.name_complete.proofs.SoundOutput.{s-io_call}
use Rattle.name_complete.proofs.SoundReducers.{s-folded_by, s-reducer_of}
use Rattle.name_complete.proofs.SoundScope.{s-stands_for}

s-site_where : (G : Type 0) (here : Context) (at : ℕ) (b : Bool) → Sound G Any (a.site_where here at b)
s-site_where G here at false = s-pure G Any None (λ g. tt)
s-site_where G here at true = s-bind G Any Any (new_site here at site.Reduction) _ (s-new_site G here at site.Reduction) (λ n. s-pure _ Any (Some n) (λ g. tt))

s-array_reduction : (G : Type 0) (names : Names) (inside : Inside) (here : Context) (p : ObjectName) (ss : Selections) (at : ℕ) (x : Attribute) (r w : Expr) → LevelSound inside → (G → Clear here)
    → Sound G (Is DenotedOf) (a.array_reduction names inside here p ss at x r w)
s-array_reduction G names inside here p ss at x r w l c =
    s-bind G Any (Is DenotedOf) (a.site_where here p.first (a.is_parallel x)) _ (s-site_where G here p.first (a.is_parallel x)) (λ construct.
    s-bind _ Any (Is DenotedOf) new_parameter _ (s-new_parameter _) (λ n.
    s-bind _ Any (Is DenotedOf) (read (λ log. a.through log p ss (a.array_shape log p.subtype) n typed.Absent)) _ (s-read _ Any (λ log. a.through log p ss (a.array_shape log p.subtype) n typed.Absent) (λ log g. tt)) (λ i.
    s-bind _ Any (Is DenotedOf) (read (λ log. component_of (a.array_shape log p.subtype))) _ (s-read _ Any (λ log. component_of (a.array_shape log p.subtype)) (λ log g. tt)) (λ s.
    s-bind _ (Is Any) (Is DenotedOf) (reducer_of names inside here r) _ (s-reducer_of _ names inside here r l (λ g. c g.0.0.0.0)) (λ f.
    s-bind _ (Is FoundOk) (Is DenotedOf) (expr names inside here wanted.Other w) _ (s-expr _ names inside here wanted.Other w l (λ g. c g.0.0.0.0.0) (λ g. tt)) (λ y.
    s-bind _ (Is FoundOk) (Is DenotedOf) (both f y (λ k. folded_by (record { at = p.first; attribute = at; site = construct }) part.Nothing (part.AnIteration i) k (a.item_found p.first n p.variable s))) _
    (s-both _ Any FoundOk FoundOk f y _ (λ g. g.0.1) (λ g. g.1) (λ k z. s-folded_by _ (record { at = p.first; attribute = at; site = construct }) part.Nothing (part.AnIteration i) k (a.item_found p.first n p.variable s) z)) (λ z.
    s-pure _ (Is DenotedOf) (option_map value_denoted z) (λ g. mapped FoundOk DenotedOf value_denoted z g.1 (λ k q. other-fits wanted.Text k.known q)))))))))

s-wrong_arguments : (G : Type 0) (names : Names) (inside : Inside) (here : Context) (bracket : ℕ) (as' : Args) → LevelSound inside → Sound G (Is DenotedOf) (a.wrong_arguments names inside here bracket as')
s-wrong_arguments G names inside here bracket as' l = s-where_clean G Any DenotedOf (args_alone names inside here as') _ (s-args_alone G names inside here as' l) (λ u. s-fault _ (Is DenotedOf) bracket rule.WrongType)

s-array_reduced : (G : Type 0) (names : Names) (inside : Inside) (here : Context) (p : ObjectName) (ss : Selections) (at : ℕ) (x : Attribute) (bracket : ℕ) (as' : Args) → LevelSound inside → (G → Clear here)
    → Sound G (Is DenotedOf) (a.array_reduced names inside here p ss at x bracket as')
s-array_reduced G names inside here p ss at x bracket (syntax.AlsoArg (syntax.arg None r) (syntax.AlsoArg (syntax.arg None w) syntax.NoArg)) l c = s-array_reduction G names inside here p ss at x r w l c
s-array_reduced G names inside here p ss at x bracket as' l c = s-wrong_arguments G names inside here bracket as' l

s-no_reduction : (G : Type 0) (names : Names) (inside : Inside) (here : Context) (at : ℕ) (as' : Args) → LevelSound inside → Sound G (Is DenotedOf) (where_clean (args_alone names inside here as') (λ u. fault at rule.ReduceRule))
s-no_reduction G names inside here at as' l = s-where_clean G Any DenotedOf (args_alone names inside here as') _ (s-args_alone G names inside here as' l) (λ u. s-fault _ (Is DenotedOf) at rule.ReduceRule)

s-reduced_with : (G : Type 0) (names : Names) (inside : Inside) (here : Context) (first : ℕ) (p : Prefix) (y : TypedPart) (at : ℕ) (x : Attribute) (bracket : ℕ) (as' : Args) (b : Bool) → LevelSound inside → (G → Clear here)
    → Sound G (Is DenotedOf) (a.reduced_with names inside here first p y at x bracket as' b)
s-reduced_with G names inside here first (prefix.Object p) y at x bracket as' true l c = s-array_reduced G names inside here p (selections_of y) at x bracket as' l c
s-reduced_with G names inside here first p y at x bracket as' b l c = s-no_reduction G names inside here at as' l

s-of_array : (G : Type 0) (names : Names) (inside : Inside) (here : Context) (first : ℕ) (p : Prefix) (y : TypedPart) (at : ℕ) (x : Attribute) (bracket : ℕ) (as' : Args) → LevelSound inside → (G → Clear here)
    → Sound G (Is DenotedOf) (a.of_array names inside here first p y at x bracket as')
s-of_array G names inside here first p y at x bracket as' l c =
    s-if G (Is DenotedOf) (is_bound x) _ _
    (s-bind G Any (Is DenotedOf) (read (λ log. dimensions_in log (prefix_subtype p))) _ (s-read G Any (λ log. dimensions_in log (prefix_subtype p)) (λ log g. tt)) (λ ds. s-bound_with _ names inside here first (mentioned p y) x bracket as' ds l (λ g. c g.0)))
    (s-wrong_call G names inside here first as' l)

s-other_with : (G : Type 0) (names : Names) (inside : Inside) (here : Context) (first : ℕ) (p : Prefix) (y : TypedPart) (at : ℕ) (x : Attribute) (bracket : ℕ) (as' : Args) → LevelSound inside → (G → Clear here)
    → Sound G (Is DenotedOf) (a.other_with names inside here first p y at x bracket as')
s-other_with G names inside here first (prefix.Type (subtype.Scalar s)) y at x bracket as' l c = s-scalar_with G names inside here first s x bracket as' l c
s-other_with G names inside here first p y at x bracket as' l c = s-of_array G names inside here first p y at x bracket as' l c

s-attribute_with : (G : Type 0) (names : Names) (inside : Inside) (here : Context) (first : ℕ) (p : Prefix) (y : TypedPart) (at : ℕ) (x : Attribute) (bracket : ℕ) (as' : Args) → LevelSound inside → (G → Clear here)
    → Sound G (Is DenotedOf) (a.attribute_with names inside here first p y at x bracket as')
s-attribute_with G names inside here first p y at x bracket as' l c =
    s-if G (Is DenotedOf) (is_reduction x) _ _
    (s-bind G Any (Is DenotedOf) (read (λ log. is_array_object log p)) _ (s-read G Any (λ log. is_array_object log p) (λ log g. tt)) (λ b. s-reduced_with _ names inside here first p y at x bracket as' b l (λ g. c g.0)))
    (s-other_with G names inside here first p y at x bracket as' l c)

s-call_form : (G : Type 0) (names : Names) (inside : Inside) (here : Context) (bracket : ℕ) (as' : Args) (d : KnownDenoted) (x : TypedPart) → LevelSound inside → (G → Clear here) → Sound G (Is DenotedOf) (a.call_form names inside here bracket as' d x)
s-call_form G names inside here bracket as' (denoted.Value (known.Object p)) x l c = s-object_call G names inside here p x bracket as' p.subtype l c
s-call_form G names inside here bracket as' (denoted.Type first s) x l c = s-conversion G names inside here bracket first s as' l c
s-call_form G names inside here bracket as' (denoted.Sub first last n) x l c = s-sub_call G names inside here bracket first last n as' l c
s-call_form G names inside here bracket as' (denoted.Io first last p r) x l c = s-io_call G names inside here bracket first last p r as' l c
s-call_form G names inside here bracket as' (denoted.Attribute first p at y) x l c = s-attribute_with G names inside here first p x at y bracket as' l c
s-call_form G names inside here bracket as' d x l c = s-wrong_call G names inside here _ as' l

s-call : (G : Type 0) (names : Names) (inside : Inside) (here : Context) (bracket : ℕ) (as' : Args) (d : Denoted) → LevelSound inside → (G → Clear here) → Sound G (Is DenotedOf) (a.call names inside here bracket as' d)
unfolding a.call
s-call G names inside here bracket as' d l c = s-call_form G names inside here bracket as' d.known d.part l c

s-part_of : (G : Type 0) (names : Names) (inside : Inside) (here : Context) (p : NamePart) (d : Denoted) → LevelSound inside → (G → Clear here) → (G → DenotedOf d) → Sound G (Is DenotedOf) (a.part_of names inside here p d)
unfolding a.part_of
s-part_of G names inside here (syntax.Field at) d l c h = s-bind G (Is DenotedOf) (Is DenotedOf) (settled_attribute d) _ (s-settled_attribute G d h) (λ x. s-given _ DenotedOf DenotedOf x _ (λ g. g.1) (λ y. s-field _ names here at y))
s-part_of G names inside here (syntax.Call bracket x as') d l c h = s-call G names inside here bracket (syntax.AlsoArg x as') d l c
s-part_of G names inside here (syntax.Attribute at) d l c h = s-bind G (Is DenotedOf) (Is DenotedOf) (settled_attribute d) _ (s-settled_attribute G d h) (λ x. s-given _ DenotedOf DenotedOf x _ (λ g. g.1) (λ y. s-attribute_found _ y at (attribute_at (symbol names at))))
s-part_of G names inside here (syntax.RangeAttribute at) d l c h = s-bind G (Is DenotedOf) (Is DenotedOf) (settled_attribute d) _ (s-settled_attribute G d h) (λ x. s-given _ DenotedOf DenotedOf x _ (λ g. g.1) (λ y. s-attribute_found _ y at (Some attribute'.Range)))

-- behind a part with a fault nothing is asked
s-part_alone : (G : Type 0) (names : Names) (inside : Inside) (here : Context) (p : NamePart) → LevelSound inside → (G → ⊥) → Sound G (Is DenotedOf) (a.part_alone names inside here p)
s-part_alone G names inside here (syntax.Call bracket x as') l h = s-bind G Any (Is DenotedOf) (args_alone names inside here (syntax.AlsoArg x as')) _ (s-args_alone G names inside here (syntax.AlsoArg x as') l) (λ u. s-pure _ (Is DenotedOf) None (λ g. h g.0))
s-part_alone G names inside here p l h = s-pure G (Is DenotedOf) None h

s-next_part : (G : Type 0) (names : Names) (inside : Inside) (here : Context) (d : Option Denoted) (p : NamePart) → LevelSound inside → (G → Clear here) → (G → Is DenotedOf d) → Sound G (Is DenotedOf) (a.next_part names inside here d p)
s-next_part G names inside here None p l c h = s-part_alone G names inside here p l h
s-next_part G names inside here (Some d) p l c h = s-part_of G names inside here p d l c h

s-parts : (G : Type 0) (names : Names) (inside : Inside) (here : Context) (d : Option Denoted) (ps : NameParts) → LevelSound inside → (G → Clear here) → (G → Is DenotedOf d) → Sound G (Is DenotedOf) (a.parts names inside here d ps)
s-parts G names inside here d syntax.NoPart l c h = s-pure G (Is DenotedOf) d h
s-parts G names inside here d (syntax.AlsoPart p ps) l c h = s-bind G (Is DenotedOf) (Is DenotedOf) (a.next_part names inside here d p) _ (s-next_part G names inside here d p l c h) (λ e. s-parts _ names inside here e ps l (λ g. c g.0) (λ g. g.1))

pub s-name : (G : Type 0) (names : Names) (inside : Inside) (here : Context) (x : Name) → LevelSound inside → (G → Clear here) → Sound G (Is DenotedOf) (a.name names inside here x)
unfolding a.name
s-name G names inside here (syntax.name first ps) l c =
    s-bind G (Is DenotedOf) (Is DenotedOf) (stands_for names here first) _ (s-stands_for G names here first c) (λ d.
    s-bind _ (Is DenotedOf) (Is DenotedOf) (a.parts names inside here d ps) _ (s-parts _ names inside here d ps l (λ g. c g.0) (λ g. g.1)) (λ e.
    s-given _ DenotedOf DenotedOf e _ (λ g. g.1) (λ x. s-settled_attribute _ x (λ g. g.1))))

-- ---- a name as a value

s-valued_form : (G : Type 0) (names : Names) (inside : Inside) (here : Context) (d : KnownDenoted) (x : TypedPart) → LevelSound inside → (G → Clear here) → (G → DenotedOk d) → Sound G (Is DenotedOf) (a.valued_form names inside here d x)
s-valued_form G names inside here (denoted.Sub first last n) x l c h = s-sub_call G names inside here first first last n syntax.NoArg l c
s-valued_form G names inside here (denoted.Io first last p r) x l c h = s-io_call G names inside here first first last p r syntax.NoArg l c
s-valued_form G names inside here d x l c h = s-some G DenotedOf (denote d x) h

pub s-valued_by : (G : Type 0) (names : Names) (inside : Inside) (here : Context) (d : Denoted) → LevelSound inside → (G → Clear here) → (G → DenotedOf d) → Sound G (Is DenotedOf) (a.valued_by names inside here d)
unfolding a.valued_by
s-valued_by G names inside here d l c h = s-valued_form G names inside here d.known d.part l c h

s-value_form : (G : Type 0) (d : KnownDenoted) (x : TypedPart) → (G → DenotedOk d) → Sound G (Is (FoundFor wanted.Text)) (a.value_form d x)
s-value_form G (denoted.Value f) x h = s-some G (FoundFor wanted.Text) (record { known = f; part = x }) h
s-value_form G (denoted.Parameter first s) x h = s-some G (FoundFor wanted.Text) _ (λ g. tt)
s-value_form G d x h = s-fault G (Is (FoundFor wanted.Text)) _ rule.WrongType

pub s-value_named : (G : Type 0) (names : Names) (inside : Inside) (here : Context) (x : Name) → LevelSound inside → (G → Clear here) → Sound G (Is (FoundFor wanted.Text)) (a.value_named names inside here x)
unfolding a.value_named
s-value_named G names inside here n l c =
    s-bind G (Is DenotedOf) (Is (FoundFor wanted.Text)) (a.name names inside here n) _ (s-name G names inside here n l c) (λ d.
    s-bind _ (Is DenotedOf) (Is (FoundFor wanted.Text)) (given d (a.valued_by names inside here)) _ (s-given _ DenotedOf DenotedOf d _ (λ g. g.1) (λ x. s-valued_by _ names inside here x l (λ g. c g.0.0) (λ g. g.1))) (λ e.
    s-given _ DenotedOf (FoundFor wanted.Text) e _ (λ g. g.1) (λ x. s-value_form _ x.known x.part (λ g. g.1))))
