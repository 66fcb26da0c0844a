-- What is found fits: names as wholes, conditional expressions, brackets, primaries, at every level.
use Rattle.std.proofs.Common.{◌≡◌, refl, ℕ, ℤ, zero, suc, List, [], ◌∷◌, Option, Some, None, Bool, true, false, option_map}
use Rattle.typed_tree.specs.Classes.{beyond_digits}
use Rattle.std.specs.Prelude.{is_some, not, ◌||◌}
use Rattle.syntax_tree.specs.FirstTokens as first_token
use Rattle.syntax_tree.specs.Syntax as syntax
use Rattle.syntax_tree.specs.Syntax.{Args, Elsifs, Expr, Iter, Name, OptionalParallel, NameParts, Primary}
use Rattle.typed_tree.specs.Decoded as part
use Rattle.typed_tree.specs.Decoded.{TypedPart, as_expr}
use Rattle.typed_tree.specs.Syntax as typed
use Rattle.typed_tree.specs.Syntax.{Selections}
use Rattle.typed_tree.specs.declared.program.SiteKind.TheVariants as site
use Rattle.typed_tree.specs.declared.scalars.Class.TheVariants as class
use Rattle.name_rules.specs.Aggregates.{ByPosition, contents}
use Rattle.name_rules.specs.Attributes.{attribute_at, bound_with, dimensions_in, is_array_object, is_bound, is_reduction, mentioned, prefix_subtype, settled_attribute, is_left_out}
use Rattle.name_rules.specs.Expressions.{Inside, condition, expr}
use Rattle.name_rules.specs.Found.{Denoted, Found, denote, opened, parameter_found, scalar, static, value_denoted}
use Rattle.name_rules.specs.Iterations.{Entered, entered, is_reduce, only_reduce_rules, reverse_rule, sequence, sequence_folded, sequence_given, sequence_rules}
use Rattle.name_rules.specs.Judging.{◌>>=◌, both, fault, given, joined, pure, read, unless, where_clean}
use Rattle.name_rules.specs.Names.{args_alone, denoted_first, field, wrong_call}
use Rattle.name_rules.specs.Operators.{open_of}
use Rattle.name_rules.specs.Parts.{array_reduced, array_reduction, array_shape, attribute_with, call, call_form, is_parallel, item_found, name, new_parameter, next_part, of_array, other_with, part_alone, part_of, parts, reduced_with, site_where, through, value_form, value_named, valued_by, valued_form, wrong_arguments}
use Rattle.name_rules.specs.Primaries as primaries
use Rattle.name_rules.specs.Primaries.{Waiting, also_choice, alternative, alternatives, common_type, composite_if, composite_ifs, composite_in, composite_part, conditional, grouped, grouped_by, grouped_form, grouped_scalar, if_expr, if_part, no_text, open_if, open_ifs, open_part, primary, scalar_if, scalar_ifs, target_at, target_found, text_at, with_known}
use Rattle.name_rules.specs.Reducers.{folded_by, reducer_of}
use Rattle.name_rules.specs.Scope.{stands_for}
use Rattle.name_rules.specs.Symbols.{symbol}
use Rattle.name_rules.specs.TypedParts.{left_of, right_of, selections_of}
use Rattle.name_rules.specs.Types.{component_of, in_base}
use Rattle.name_rules.specs.Values.{asked, composite_asked, kind_of, mentions_of, value_of}
use Rattle.name_rules.specs.declared.found.Attribute.{Attribute}
use Rattle.name_rules.specs.declared.found.Attribute.TheVariants as attribute'
use Rattle.name_rules.specs.declared.found.Denoted.TheVariants as denoted
use Rattle.name_rules.specs.declared.found.Denoted.{Denoted as KnownDenoted}
use Rattle.name_rules.specs.declared.found.Folding.{Folding}
use Rattle.name_rules.specs.declared.found.Found.TheVariants as known
use Rattle.name_rules.specs.declared.found.Found.{Found as Known}
use Rattle.name_rules.specs.declared.found.Limits.{Limits}
use Rattle.name_rules.specs.declared.found.ObjectName.{ObjectName}
use Rattle.name_rules.specs.declared.found.Prefix.TheVariants as prefix
use Rattle.name_rules.specs.declared.found.Prefix.{Prefix}
use Rattle.name_rules.specs.declared.log.Bound.TheVariants as bound
use Rattle.name_rules.specs.declared.log.Rule.TheVariants.{Limit, NotVisible, ReduceRule, Unknown, WrongType}
use Rattle.name_rules.specs.declared.scope.Context.{Context}
use Rattle.name_rules.specs.declared.scope.Names.{Names}
use Rattle.name_rules.specs.declared.scope.Target.TheVariants as target
use Rattle.name_rules.specs.declared.scope.Target.{Target}
use Rattle.name_rules.specs.declared.types.Kind.{Kind}
use Rattle.name_rules.specs.declared.types.Kind.TheVariants as kind
use Rattle.name_rules.specs.declared.types.Subtype.{Subtype}
use Rattle.name_rules.specs.declared.types.Subtype.TheVariants as subtype
use Rattle.name_rules.specs.declared.types.Wanted.TheVariants as wanted
use Rattle.name_rules.specs.declared.types.Wanted.{Wanted}
use Rattle.name_laws.proofs.Based.{none-based, spanning}
use Rattle.name_laws.proofs.KeepsIterations.{k-reverse_rule}
use Rattle.name_laws.proofs.KeepsNames.{k-args_alone}
use Rattle.name_laws.proofs.KeepsParts.{k-new_parameter, k-site_where}
use Rattle.name_laws.proofs.KeepsPrimaries.{k-inside}
use Rattle.name_laws.proofs.KeepsReducers.{k-reducer_of}
use Rattle.name_laws.proofs.Makes.{Any, Makes, Maybe, joint, m-bind, m-both, m-fault, m-given, m-if, m-kept, m-none, m-pure, m-read, m-some, m-unless, m-where_clean, mapped}
use Rattle.name_laws.proofs.MakesAggregates.{m-aggregate}
use Rattle.name_laws.proofs.MakesAttributes.{m-attribute_found, m-bound_with, m-scalar_with, m-settled_attribute, spans-in}
use Rattle.name_laws.proofs.MakesCalls.{m-conversion, m-sub_call}
use Rattle.name_laws.proofs.MakesExpressions.{Finding, LevelFits, m-condition, m-expr, m-placed}
use Rattle.name_laws.proofs.MakesNames.{m-field, m-object_call, m-wrong_call}
use Rattle.name_laws.proofs.MakesOperators.{OpenOf, joint-none, open-found, sooner-none, same-none}
use Rattle.name_laws.proofs.MakesOutput.{m-io_call}
use Rattle.name_laws.proofs.MakesRanges.{EnteredOf, m-entered, through-fits}
use Rattle.name_laws.proofs.MakesReducers.{ChunkOf, IterationOf, m-folded_by}
use Rattle.name_laws.proofs.MakesScope.{DenotedOf, DenotesOf, PrefixOf, m-stands_for}
use Rattle.name_laws.proofs.MakesValues.{AskedOf, CompositeOf, FoundOf, KnownOf, m-asked, m-composite_asked, selections-fit}
use Rattle.name_laws.proofs.Walked.{KeepsInside}
use Rattle.name_laws.specs.Based.{AreBased}
use Rattle.name_laws.specs.Classes.{ExprFits, SelectionsFit}

-- ---- attributes with what stands in brackets behind them

item-fits : (first n : ℕ) (v : Bool) (s : Option Subtype) → FoundOf (item_found first n v s)
item-fits first n v None = (none-based (subtype.Composite 0), tt)
item-fits first n v (Some s) = (none-based s, tt)

m-array_reduction : (names : Names) (inside : Inside) (here : Context) (p : ObjectName) (ss : Selections) (at : ℕ) (a : Attribute) (r v : Expr) → LevelFits inside → AreBased here.scope → SelectionsFit ss → Makes (Maybe DenotedOf) (array_reduction names inside here p ss at a r v)
m-array_reduction names inside here p ss at a r v l b h =
    m-bind Any (Maybe DenotedOf) (site_where here p.first (is_parallel a)) _ (m-kept (site_where here p.first (is_parallel a)) (k-site_where spanning here p.first (is_parallel a))) (λ construct q1.
    m-bind Any (Maybe DenotedOf) new_parameter _ (m-kept new_parameter (k-new_parameter spanning)) (λ n q2.
    m-bind (λ i. IterationOf (part.AnIteration i)) (Maybe DenotedOf) (read (λ log. through log p ss (array_shape log p.subtype) n typed.Absent)) _
    (m-read (λ i. IterationOf (part.AnIteration i)) (λ log. through log p ss (array_shape log p.subtype) n typed.Absent) (λ log g. through-fits log p ss (array_shape log p.subtype) n h)) (λ i q3.
    m-bind Any (Maybe DenotedOf) (read (λ log. component_of (array_shape log p.subtype))) _ (m-read Any (λ log. component_of (array_shape log p.subtype)) (λ log g. tt)) (λ c q4.
    m-bind Any (Maybe DenotedOf) (reducer_of names inside here r) _ (m-kept (reducer_of names inside here r) (k-reducer_of spanning names inside here r tt l.keeps)) (λ f q5.
    m-bind Finding (Maybe DenotedOf) (expr names inside here wanted.Other v) _ (m-expr names inside here wanted.Other v l b) (λ x q6.
    m-bind Finding (Maybe DenotedOf) (both f x (λ g. folded_by (record { at = p.first; attribute = at; site = construct }) part.Nothing (part.AnIteration i) g (item_found p.first n p.variable c))) _
    (m-both Any FoundOf FoundOf f x (λ g. folded_by (record { at = p.first; attribute = at; site = construct }) part.Nothing (part.AnIteration i) g (item_found p.first n p.variable c)) (any f) q6
    (λ g y s t. m-folded_by (record { at = p.first; attribute = at; site = construct }) part.Nothing (part.AnIteration i) g (item_found p.first n p.variable c) y tt q3 (item-fits p.first n p.variable c) t)) (λ y q7.
    m-pure (Maybe DenotedOf) (option_map value_denoted y) (mapped FoundOf DenotedOf value_denoted y q7 (λ w s. s)))))))))
  where
    any : (f : Option Folding) → Maybe Any f
    any None = tt
    any (Some f) = tt

m-wrong_arguments : (names : Names) (inside : Inside) (here : Context) (bracket : ℕ) (as' : Args) → LevelFits inside → Makes (Maybe DenotedOf) (wrong_arguments names inside here bracket as')
m-wrong_arguments names inside here bracket as' l = m-where_clean Any DenotedOf (args_alone names inside here as') (λ u. fault bracket WrongType) (m-kept (args_alone names inside here as') (k-args_alone spanning names inside here as' tt l.keeps)) (λ u q. m-fault DenotedOf bracket WrongType)

m-array_reduced : (names : Names) (inside : Inside) (here : Context) (p : ObjectName) (ss : Selections) (at : ℕ) (a : Attribute) (bracket : ℕ) (as' : Args) → LevelFits inside → AreBased here.scope → SelectionsFit ss → Makes (Maybe DenotedOf) (array_reduced names inside here p ss at a bracket as')
m-array_reduced names inside here p ss at a bracket (syntax.AlsoArg (syntax.arg None r) (syntax.AlsoArg (syntax.arg None v) syntax.NoArg)) l b h = m-array_reduction names inside here p ss at a r v l b h
m-array_reduced names inside here p ss at a bracket as' l b h = m-wrong_arguments names inside here bracket as' l

m-no_array : (names : Names) (inside : Inside) (here : Context) (at : ℕ) (as' : Args) → LevelFits inside → Makes (Maybe DenotedOf) (where_clean (args_alone names inside here as') (λ u. fault at ReduceRule))
m-no_array names inside here at as' l = m-where_clean Any DenotedOf (args_alone names inside here as') (λ u. fault at ReduceRule) (m-kept (args_alone names inside here as') (k-args_alone spanning names inside here as' tt l.keeps)) (λ u q. m-fault DenotedOf at ReduceRule)

m-reduced_with : (names : Names) (inside : Inside) (here : Context) (first : ℕ) (p : Prefix) (x : TypedPart) (at : ℕ) (a : Attribute) (bracket : ℕ) (as' : Args) (b : Bool) → LevelFits inside → AreBased here.scope → PrefixOf p x
    → Makes (Maybe DenotedOf) (reduced_with names inside here first p x at a bracket as' b)
m-reduced_with names inside here first (prefix.Object p) x at a bracket as' true l r h = m-array_reduced names inside here p (selections_of x) at a bracket as' l r (selections-fit x h.1)
m-reduced_with names inside here first p x at a bracket as' b l r h = m-no_array names inside here at as' l

m-of_array : (names : Names) (inside : Inside) (here : Context) (first : ℕ) (p : Prefix) (x : TypedPart) (at : ℕ) (a : Attribute) (bracket : ℕ) (as' : Args) → LevelFits inside → AreBased here.scope → Makes (Maybe DenotedOf) (of_array names inside here first p x at a bracket as')
m-of_array names inside here first p x at a bracket as' l r =
    m-if (Maybe DenotedOf) (is_bound a) (read (λ log. dimensions_in log (prefix_subtype p)) >>= bound_with names inside here first (mentioned p x) a bracket as') (wrong_call names inside here first as')
    (record { at = λ log h. (m-bound_with names inside here first (mentioned p x) a bracket as' (dimensions_in log (prefix_subtype p)) l r (spans-in log (prefix_subtype p) h)).at log h })
    (m-wrong_call names inside here first as' l)

m-other_with : (names : Names) (inside : Inside) (here : Context) (first : ℕ) (p : Prefix) (x : TypedPart) (at : ℕ) (a : Attribute) (bracket : ℕ) (as' : Args) → LevelFits inside → AreBased here.scope → PrefixOf p x → is_left_out p a ≡ false → Makes (Maybe DenotedOf) (other_with names inside here first p x at a bracket as')
m-other_with names inside here first (prefix.Type (subtype.Scalar s)) x at a bracket as' l r h n = m-scalar_with names inside here first s a bracket as' l r h n
m-other_with names inside here first p x at a bracket as' l r h n = m-of_array names inside here first p x at a bracket as' l r

m-attribute_with : (names : Names) (inside : Inside) (here : Context) (first : ℕ) (p : Prefix) (x : TypedPart) (at : ℕ) (a : Attribute) (bracket : ℕ) (as' : Args) → LevelFits inside → AreBased here.scope → PrefixOf p x → is_left_out p a ≡ false → Makes (Maybe DenotedOf) (attribute_with names inside here first p x at a bracket as')
m-attribute_with names inside here first p x at a bracket as' l r h n =
    m-if (Maybe DenotedOf) (is_reduction a) (read (λ log. is_array_object log p) >>= reduced_with names inside here first p x at a bracket as') (other_with names inside here first p x at a bracket as')
    (m-bind Any (Maybe DenotedOf) (read (λ log. is_array_object log p)) (reduced_with names inside here first p x at a bracket as') (m-read Any (λ log. is_array_object log p) (λ log g. tt)) (λ b q. m-reduced_with names inside here first p x at a bracket as' b l r h))
    (m-other_with names inside here first p x at a bracket as' l r h n)

-- ---- whole names

m-call_form : (names : Names) (inside : Inside) (here : Context) (bracket : ℕ) (as' : Args) (k : KnownDenoted) (x : TypedPart) → LevelFits inside → AreBased here.scope → DenotesOf k x → Makes (Maybe DenotedOf) (call_form names inside here bracket as' k x)
m-call_form names inside here bracket as' (denoted.Value (known.Object p)) x l r h = m-object_call names inside here p x bracket as' p.subtype l r h.1
m-call_form names inside here bracket as' (denoted.Type first s) x l r h = m-conversion names inside here bracket first s as' l r
m-call_form names inside here bracket as' (denoted.Sub first last n) x l r h = m-sub_call names inside here bracket first last n as' l r
m-call_form names inside here bracket as' (denoted.Io first last p reach) x l r h = m-io_call names inside here bracket first last p reach as' l r
m-call_form names inside here bracket as' (denoted.Attribute first p at a) x l r h = m-attribute_with names inside here first p x at a bracket as' l r h.0 h.1
m-call_form names inside here bracket as' k x l r h = m-wrong_call names inside here (denoted_first k) as' l

m-part_of : (names : Names) (inside : Inside) (here : Context) (x : syntax.NamePart) (d : Denoted) → LevelFits inside → AreBased here.scope → DenotedOf d → Makes (Maybe DenotedOf) (part_of names inside here x d)
unfolding part_of call
m-part_of names inside here (syntax.Field at) d l r h = m-bind (Maybe DenotedOf) (Maybe DenotedOf) (settled_attribute d) _ (m-settled_attribute d h) (λ x q. m-given DenotedOf DenotedOf x (field names here at) q (λ e s. m-field names here at e s))
m-part_of names inside here (syntax.Call bracket a as') d l r h = m-call_form names inside here bracket (syntax.AlsoArg a as') d.known d.part l r h
m-part_of names inside here (syntax.Attribute at) d l r h =
    m-bind (Maybe DenotedOf) (Maybe DenotedOf) (settled_attribute d) _ (m-settled_attribute d h) (λ x q. m-given DenotedOf DenotedOf x _ q (λ e s. m-attribute_found e at (attribute_at (symbol names at)) s))
m-part_of names inside here (syntax.RangeAttribute at) d l r h =
    m-bind (Maybe DenotedOf) (Maybe DenotedOf) (settled_attribute d) _ (m-settled_attribute d h) (λ x q. m-given DenotedOf DenotedOf x _ q (λ e s. m-attribute_found e at (Some attribute'.Range) s))

m-part_alone : (names : Names) (inside : Inside) (here : Context) (x : syntax.NamePart) → LevelFits inside → Makes (Maybe DenotedOf) (part_alone names inside here x)
m-part_alone names inside here (syntax.Call bracket a as') l = m-bind Any (Maybe DenotedOf) (args_alone names inside here (syntax.AlsoArg a as')) _ (m-kept (args_alone names inside here (syntax.AlsoArg a as')) (k-args_alone spanning names inside here (syntax.AlsoArg a as') tt l.keeps)) (λ u q. m-none DenotedOf)
m-part_alone names inside here x l = m-none DenotedOf

m-next_part : (names : Names) (inside : Inside) (here : Context) (d : Option Denoted) (x : syntax.NamePart) → LevelFits inside → AreBased here.scope → Maybe DenotedOf d → Makes (Maybe DenotedOf) (next_part names inside here d x)
m-next_part names inside here None x l r h = m-part_alone names inside here x l
m-next_part names inside here (Some d) x l r h = m-part_of names inside here x d l r h

m-parts : (names : Names) (inside : Inside) (here : Context) (d : Option Denoted) (ps : NameParts) → LevelFits inside → AreBased here.scope → Maybe DenotedOf d → Makes (Maybe DenotedOf) (parts names inside here d ps)
m-parts names inside here d syntax.NoPart l r h = m-pure (Maybe DenotedOf) d h
m-parts names inside here d (syntax.AlsoPart x ps) l r h = m-bind (Maybe DenotedOf) (Maybe DenotedOf) (next_part names inside here d x) _ (m-next_part names inside here d x l r h) (λ e q. m-parts names inside here e ps l r q)

pub m-name : (names : Names) (inside : Inside) (here : Context) (x : Name) → LevelFits inside → AreBased here.scope → Makes (Maybe DenotedOf) (name names inside here x)
unfolding name
m-name names inside here (syntax.name first ps) l r =
    m-bind (Maybe DenotedOf) (Maybe DenotedOf) (stands_for names here first) _ (m-stands_for names here first r) (λ d q.
    m-bind (Maybe DenotedOf) (Maybe DenotedOf) (parts names inside here d ps) _ (m-parts names inside here d ps l r q) (λ e s. m-given DenotedOf DenotedOf e settled_attribute s (λ x t. m-settled_attribute x t)))

m-valued_form : (names : Names) (inside : Inside) (here : Context) (k : KnownDenoted) (x : TypedPart) → LevelFits inside → AreBased here.scope → DenotesOf k x → Makes (Maybe DenotedOf) (valued_form names inside here k x)
m-valued_form names inside here (denoted.Sub first last n) x l r h = m-sub_call names inside here first first last n syntax.NoArg l r
m-valued_form names inside here (denoted.Io first last p reach) x l r h = m-io_call names inside here first first last p reach syntax.NoArg l r
m-valued_form names inside here k x l r h = m-some DenotedOf (denote k x) h

pub m-valued_by : (names : Names) (inside : Inside) (here : Context) (d : Denoted) → LevelFits inside → AreBased here.scope → DenotedOf d → Makes (Maybe DenotedOf) (valued_by names inside here d)
unfolding valued_by
m-valued_by names inside here d l r h = m-valued_form names inside here d.known d.part l r h

m-value_form : (k : KnownDenoted) (x : TypedPart) → DenotesOf k x → Makes Finding (value_form k x)
m-value_form (denoted.Value f) x h = m-some FoundOf (record { known = f; part = x }) h
m-value_form (denoted.Parameter first s) x h = m-some FoundOf (parameter_found first s x) (h _)
m-value_form k x h = m-fault FoundOf (denoted_first k) WrongType

m-value_named : (names : Names) (inside : Inside) (here : Context) (x : Name) → LevelFits inside → AreBased here.scope → Makes Finding (value_named names inside here x)
unfolding value_named
m-value_named names inside here x l r =
    m-bind (Maybe DenotedOf) Finding (name names inside here x) _ (m-name names inside here x l r) (λ d q.
    m-bind (Maybe DenotedOf) Finding (given d (valued_by names inside here)) _ (m-given DenotedOf DenotedOf d (valued_by names inside here) q (λ y s. m-valued_by names inside here y l r s)) (λ e t.
    m-given DenotedOf FoundOf e _ t (λ y s. m-value_form y.known y.part s)))

-- ---- conditional expressions

abbrev Waits : List Known → TypedPart → Type 0
Waits [] ps = Unit {0}
Waits (f ∷ fs) ps = ExprFits class.Boolean (as_expr (left_of (left_of ps))) × KnownOf f (right_of (left_of ps)) × Waits fs (right_of ps)

abbrev WaitingOf : Waiting → Type 0
WaitingOf w = Waits w.known w.part

also-choice : (w : Option Waiting) (x : Option TypedPart) (f : Option Found) → Maybe WaitingOf w → Maybe (AskedOf kind.Boolean) x → Finding f → Maybe WaitingOf (also_choice w x f)
also-choice None x f g h i = tt
also-choice (Some w) None f g h i = tt
also-choice (Some w) (Some x) None g h i = tt
also-choice (Some w) (Some x) (Some f) g h i = (h, i, g)

m-alternative : (names : Names) (level : Inside) (here : Context) (want : Wanted) (made : Option Waiting) (c v : Expr) → LevelFits level → AreBased here.scope → Maybe WaitingOf made → Makes (Maybe WaitingOf) (alternative names level here want made c v)
unfolding alternative
m-alternative names level here want made c v l r g =
    m-bind (Maybe (AskedOf kind.Boolean)) (Maybe WaitingOf) (condition names level here c) _ (m-condition names level here c l r) (λ x q.
    m-bind Finding (Maybe WaitingOf) (expr names level here want v) _ (m-expr names level here want v l r) (λ y s. m-pure (Maybe WaitingOf) (also_choice made x y) (also-choice made x y g q s)))

m-alternatives : (names : Names) (level : Inside) (here : Context) (want : Wanted) (made : Option Waiting) (es : Elsifs) → LevelFits level → AreBased here.scope → Maybe WaitingOf made → Makes (Maybe WaitingOf) (alternatives names level here want made es)
m-alternatives names level here want made syntax.NoElsif l r g = m-pure (Maybe WaitingOf) made g
m-alternatives names level here want made (syntax.AlsoElsif (syntax.elsif at c v) es) l r g = m-bind (Maybe WaitingOf) (Maybe WaitingOf) (alternative names level here want made c v) _ (m-alternative names level here want made c v l r g) (λ d q. m-alternatives names level here want d es l r q)

m-scalar_ifs : (k : Kind) (fs : List Known) (ps : TypedPart) (o : Option TypedPart) → Waits fs ps → Maybe (AskedOf k) o → Makes (Maybe (AskedOf k)) (scalar_ifs k fs ps o)
m-scalar_ifs k [] ps o g h = m-pure (Maybe (AskedOf k)) o h
m-scalar_ifs k (f ∷ fs) ps o g h =
    m-bind (Maybe (AskedOf k)) (Maybe (AskedOf k)) (asked k (record { known = f; part = right_of (left_of ps) })) _ (m-asked k (record { known = f; part = right_of (left_of ps) }) g.1) (λ v q.
    m-scalar_ifs k fs (right_of ps) (joined (if_part (left_of (left_of ps))) v o) g.2 (joint (AskedOf k) (AskedOf k) (AskedOf k) (if_part (left_of (left_of ps))) v o q h (λ a b s t. (g.0, s, t))))

m-scalar_if : (bracket : ℕ) (k : Kind) (w : Waiting) (f : Found) → WaitingOf w → FoundOf f → Makes Finding (scalar_if bracket k w f)
unfolding scalar_if
m-scalar_if bracket k w f g h =
    m-bind (Maybe (AskedOf k)) Finding (asked k f) _ (m-asked k f h) (λ o q.
    m-bind (Maybe (AskedOf k)) Finding (scalar_ifs k w.known w.part o) _ (m-scalar_ifs k w.known w.part o g q) (λ e s.
    m-pure Finding (option_map (with_known (known.Scalar bracket k None)) e) (mapped (AskedOf k) FoundOf (with_known (known.Scalar bracket k None)) e s (λ x t. t))))

m-composite_ifs : (n : ℕ) (fs : List Known) (ps : TypedPart) (o : Option TypedPart) → Waits fs ps → Maybe CompositeOf o → Makes (Maybe CompositeOf) (composite_ifs n fs ps o)
m-composite_ifs n [] ps o g h = m-pure (Maybe CompositeOf) o h
m-composite_ifs n (f ∷ fs) ps o g h =
    m-bind (Maybe CompositeOf) (Maybe CompositeOf) (composite_asked n (record { known = f; part = right_of (left_of ps) })) _ (m-composite_asked n (record { known = f; part = right_of (left_of ps) }) g.1) (λ v q.
    m-composite_ifs n fs (right_of ps) (joined (composite_part (left_of (left_of ps))) v o) g.2 (joint CompositeOf CompositeOf CompositeOf (composite_part (left_of (left_of ps))) v o q h (λ a b s t. (g.0, s, t))))

m-composite_if : (bracket n : ℕ) (w : Waiting) (f : Found) → WaitingOf w → FoundOf f → Makes Finding (composite_if bracket n w f)
unfolding composite_if
m-composite_if bracket n w f g h =
    m-bind (Maybe CompositeOf) Finding (composite_asked n f) _ (m-composite_asked n f h) (λ o q.
    m-bind (Maybe CompositeOf) Finding (composite_ifs n w.known w.part o) _ (m-composite_ifs n w.known w.part o g q) (λ c s.
    m-pure Finding (option_map (with_known (known.Composite bracket n)) c) (mapped CompositeOf FoundOf (with_known (known.Composite bracket n)) c s (λ x t. t))))

open-part : (c : TypedPart) (v o : Limits × TypedPart) → ExprFits class.Boolean (as_expr c) → OpenOf v → OpenOf o → OpenOf (open_part c v o)
open-part c v o g h i k s e = let n = joint-none k v.0 o.0 (typed.If (as_expr c) (as_expr v.1) (as_expr o.1)) (as_expr v.1) (as_expr o.1) (λ n q. sooner-none (beyond_digits n (as_expr v.1)) (beyond_digits n (as_expr o.1)) q) e in (g, h k s n.0, i k s n.1)

open-ifs : (fs : List Known) (ps : TypedPart) (o : Option (Limits × TypedPart)) → Waits fs ps → Maybe OpenOf o → Maybe OpenOf (open_ifs fs ps o)
open-ifs [] ps o g h = h
open-ifs (f ∷ fs) ps o g h =
    open-ifs fs (right_of ps) (joined (open_part (left_of (left_of ps))) (open_of (record { known = f; part = right_of (left_of ps) })) o) g.2
    (joint OpenOf OpenOf OpenOf (open_part (left_of (left_of ps))) (open_of (record { known = f; part = right_of (left_of ps) })) o (open-found (record { known = f; part = right_of (left_of ps) }) g.1) h (λ a b s t. open-part (left_of (left_of ps)) a b g.0 s t))

m-conditional : (bracket : ℕ) (w : Waiting) (f : Found) (k : Option Kind) (n : Option ℕ) → WaitingOf w → FoundOf f → Makes Finding (conditional bracket w f k n)
m-conditional bracket w f (Some k) n g h = m-scalar_if bracket k w f g h
m-conditional bracket w f None (Some n) g h = m-composite_if bracket n w f g h
m-conditional bracket w f None None g h =
    m-pure Finding (option_map (open_if bracket) (open_ifs w.known w.part (open_of f))) (mapped OpenOf FoundOf (open_if bracket) (open_ifs w.known w.part (open_of f)) (open-ifs w.known w.part (open_of f) g (open-found f h)) (λ x s. s))

m-if_expr : (names : Names) (level : Inside) (here : Context) (want : Wanted) (bracket : ℕ) (c v : Expr) (more : Elsifs) (o : Expr) → LevelFits level → AreBased here.scope → Makes Finding (if_expr names level here want bracket c v more o)
unfolding if_expr
m-if_expr names level here want bracket c v more o l r =
    m-bind (Maybe WaitingOf) Finding (alternative names level here want (Some (record { known = []; part = part.Nothing })) c v) _ (m-alternative names level here want (Some (record { known = []; part = part.Nothing })) c v l r tt) (λ d q.
    m-bind (Maybe WaitingOf) Finding (alternatives names level here want d more) _ (m-alternatives names level here want d more l r q) (λ ds s.
    m-bind Finding Finding (expr names level here want o) _ (m-expr names level here want o l r) (λ f t.
    m-both WaitingOf FoundOf FoundOf ds f _ s t (λ w x i j. m-conditional bracket w x (common_type w x).0 (common_type w x).1 i j))))

-- ---- brackets

m-grouped_scalar : (bracket : ℕ) (f : Found) (k : Option Kind) (n : Option ℕ) → FoundOf f → Makes Finding (grouped_scalar bracket f k n)
m-grouped_scalar bracket f (Some k) n h = m-bind (Maybe (AskedOf k)) Finding (asked k f) _ (m-asked k f h) (λ x q. m-given (AskedOf k) FoundOf x _ q (λ e s. m-some FoundOf (scalar bracket k None (typed.Group (as_expr e))) s))
m-grouped_scalar bracket f None (Some n) h = m-bind (Maybe CompositeOf) Finding (composite_asked n f) _ (m-composite_asked n f h) (λ c q. m-pure Finding (option_map (with_known (known.Composite bracket n)) c) (mapped CompositeOf FoundOf (with_known (known.Composite bracket n)) c q (λ x s. s)))
m-grouped_scalar bracket f None None h = m-none FoundOf

pub based-value : (f : Known) (x : TypedPart) (k : Kind) (z : ℤ) → KnownOf f x → kind_of f ≡ Some k → value_of f ≡ Some z → in_base k z ≡ true
based-value (known.Universal first y alone) x k z h e g = absurd cc
based-value (known.Open first l) x k z h e g = absurd cc
based-value (known.Static first j y) x k z h e g = static-value j y k z h e g
  where
    static-value : (j : Kind) (y : ℤ) (k : Kind) (z : ℤ) → in_base j y ≡ true → Some j ≡ Some k → Some y ≡ Some z → in_base k z ≡ true
    static-value j y k z h e g = let one : j ≡ k = cc in let two : y ≡ z = cc in cc
based-value (known.Object p) x k z h e g = h.0 k z e g
based-value (known.Scalar first j n) x k z h e g = absurd cc
based-value (known.Composite first n) x k z h e g = absurd cc
based-value (known.Rest first) x k z h e g = absurd cc
based-value (known.Text first) x k z h e g = absurd cc

m-grouped_by : (bracket : ℕ) (f : Found) (k : Option Kind) (z : Option ℤ) → kind_of f.known ≡ k → value_of f.known ≡ z → FoundOf f → Makes Finding (grouped_by bracket f k z)
m-grouped_by bracket f (Some k) (Some z) e g h = m-some FoundOf (static bracket k z (mentions_of f)) (based-value f.known f.part k z h e g)
m-grouped_by bracket f (Some k) None e g h = m-grouped_scalar bracket f (Some k) (composite_in f.known) h
m-grouped_by bracket f None z e g h = m-grouped_scalar bracket f None (composite_in f.known) h

m-grouped_form : (bracket : ℕ) (f : Known) (x : TypedPart) → KnownOf f x → Makes Finding (grouped_form bracket f x)
m-grouped_form bracket (known.Universal first z alone) x h = m-some FoundOf (with_known (known.Universal bracket z false) x) tt
m-grouped_form bracket (known.Open first l) x h = m-some FoundOf (opened bracket l (typed.Group (as_expr x))) (λ k i e. h k i (same-none k l (typed.Group (as_expr x)) (as_expr x) (λ n. refl) e))
m-grouped_form bracket (known.Text first) x h = m-some FoundOf (with_known (known.Text bracket) x) h
m-grouped_form bracket f x h = m-grouped_by bracket (with_known f x) (kind_of f) (value_of f) refl refl h

m-grouped : (bracket : ℕ) (f : Found) → FoundOf f → Makes Finding (grouped bracket f)
unfolding grouped
m-grouped bracket f h = m-grouped_form bracket f.known f.part h

-- ---- `@` and strings

m-target_at : (at : ℕ) (t : Target) → Makes Finding (target_at at t)
m-target_at at target.Nothing = m-fault FoundOf at NotVisible
m-target_at at target.Faulty = m-none FoundOf
m-target_at at (target.Of (subtype.Scalar s)) = m-some FoundOf (target_found at (subtype.Scalar s)) tt
m-target_at at (target.Of (subtype.Composite n)) = m-some FoundOf (target_found at (subtype.Composite n)) tt

m-text_at : (names : Names) (at : ℕ) (want : Wanted) → Makes Finding (text_at names at want)
m-text_at names at wanted.Text = m-some FoundOf _ ((λ ps h. h), tt)
m-text_at names at want = m-fault FoundOf at WrongType

-- ---- reductions of value sequences

m-sequence_given : (bracket attribute : ℕ) (e : Entered) (f : Folding) (x v : Found) → EnteredOf e → FoundOf x → FoundOf v → Makes Finding (sequence_given bracket attribute e f x v)
m-sequence_given bracket attribute e f x v g s t = m-both ChunkOf IterationOf FoundOf e.chunk e.iteration _ g.0 g.1 (λ c i m n. m-folded_by (record { at = bracket; attribute = attribute; site = e.construct }) c i f x v m n s t)

abbrev SequenceOf : Option ℕ × Option Found → Type 0
SequenceOf p = Finding p.1

m-sequence_folded : (names : Names) (level : Inside) (here : Context) (bracket : ℕ) (p : OptionalParallel) (i : Iter) (value : Expr) (attribute : ℕ) (reducer initial : Expr) → LevelFits level → AreBased here.scope
    → Makes SequenceOf (sequence_folded names level here bracket p i value attribute reducer initial)
m-sequence_folded names level here bracket p i value attribute reducer initial l r =
    m-bind Any SequenceOf (reducer_of names level here reducer) _ (m-kept (reducer_of names level here reducer) (k-reducer_of spanning names level here reducer tt l.keeps)) (λ f q1.
    m-bind EnteredOf SequenceOf (entered names level level here site.Reduction p i) _ (m-entered names level level here site.Reduction p i l l r) (λ e q2.
    m-bind Finding SequenceOf (expr names level e.here wanted.Other value) _ (m-expr names level e.here wanted.Other value l q2.2) (λ x q3.
    m-bind Finding SequenceOf (expr names level here wanted.Other initial) _ (m-expr names level here wanted.Other initial l r) (λ v q4.
    m-bind Finding SequenceOf (given f (λ g. both x v (sequence_given bracket attribute e g))) _
    (m-given Any FoundOf f (λ g. both x v (sequence_given bracket attribute e g)) (any f) (λ g q5. m-both FoundOf FoundOf FoundOf x v (sequence_given bracket attribute e g) q3 q4 (λ a b s t. m-sequence_given bracket attribute e g a b q2 s t))) (λ z q6.
    m-pure SequenceOf (e.reverse, z) q6)))))
  where
    any : (f : Option Folding) → Maybe Any f
    any None = tt
    any (Some f) = tt

abbrev RuledOf : (Option ℕ × Option Found) × Bool → Type 0
RuledOf p = Finding p.0.1

m-sequence_rules : (attribute : ℕ) (a : Option Attribute) (p : (Option ℕ × Option Found) × Bool) → RuledOf p → Makes Finding (sequence_rules attribute a p)
m-sequence_rules attribute a p h =
    m-if Finding (not p.1) (pure None) _ (m-none FoundOf)
    (m-bind Any Finding (unless (not (is_some a) || is_reduce a) attribute ReduceRule) _ (m-unless (not (is_some a) || is_reduce a) attribute ReduceRule) (λ u q.
    m-bind Any Finding (reverse_rule p.0.0) _ (m-kept (reverse_rule p.0.0) (k-reverse_rule spanning p.0.0)) (λ w s. m-pure Finding p.0.1 h)))

m-sequence : (names : Names) (level : Inside) (here : Context) (bracket : ℕ) (p : OptionalParallel) (i : Iter) (value : Expr) (attribute : ℕ) (reducer initial : Expr) → LevelFits level → AreBased here.scope
    → Makes Finding (sequence names level here bracket p i value attribute reducer initial)
unfolding sequence
m-sequence names level here bracket p i value attribute reducer initial l r =
    m-bind Any Finding (unless (is_some (attribute_at (symbol names attribute))) attribute Unknown) _ (m-unless (is_some (attribute_at (symbol names attribute))) attribute Unknown) (λ u q.
    m-bind RuledOf Finding (only_reduce_rules (sequence_folded names level here bracket p i value attribute reducer initial)) (sequence_rules attribute (attribute_at (symbol names attribute)))
    (record { at = (m-sequence_folded names level here bracket p i value attribute reducer initial l r).at }) (λ x s. m-sequence_rules attribute (attribute_at (symbol names attribute)) x s))

-- ---- primaries, at every level of brackets

m-primary : (names : Names) (inside : Inside) (here : Context) (p : Primary) (want : Wanted) → LevelFits inside → AreBased here.scope → Makes Finding (primary names inside here p want)
unfolding primary
m-primary names inside here (syntax.Number at) want l r = m-some FoundOf _ tt
m-primary names inside here (syntax.Text at) want l r = m-text_at names at want
m-primary names inside here (syntax.Target at) want l r = m-target_at at here.target
m-primary names inside here (syntax.Named x) want l r = m-bind Finding Finding (value_named names inside here x) _ (m-value_named names inside here x l r) (λ f q. m-placed want f q)
m-primary names inside here (syntax.Group bracket e) want l r = m-bind Finding Finding (expr names inside here want e) _ (m-expr names inside here want e l r) (λ f q. m-given FoundOf FoundOf f (grouped bracket) q (λ g s. m-grouped bracket g s))
m-primary names inside here (syntax.If bracket at c v more o) want l r = m-if_expr names inside here (no_text want) bracket c v more o l r
m-primary names inside here (syntax.Round bracket many) want l r = m-aggregate names inside here want bracket (contents many) l r
m-primary names inside here (syntax.Square bracket many) want l r = m-aggregate names inside here want bracket (contents many) l r
m-primary names inside here (syntax.OneValue bracket e) want l r = m-aggregate names inside here want bracket (ByPosition (syntax.AlsoExpr e syntax.NoExpr) syntax.AbsentExpr) l r
m-primary names inside here (syntax.Reduction bracket p at i v a x o) want l r = m-sequence names inside here bracket p i v a x o l r

pub above-fits : (names : Names) (inside : Inside) → KeepsInside spanning (primaries.level_above names inside) → LevelFits inside → LevelFits (primaries.level_above names inside)
above-fits names inside keeps l = record {
  keeps = keeps;
  primary = λ here p want r. m-primary names inside here p want l r;
  name = λ here x r. m-name names inside here x l r;
}

pub inside-fits : (names : Names) (n : ℕ) → LevelFits (primaries.inside names n)
unfolding primaries.inside
inside-fits names zero = record {
  keeps = k-inside spanning names zero tt;
  primary = λ here p want r. m-fault FoundOf (first_token.of_primary p) (Limit bound.Levels);
  name = λ here x r. m-fault DenotedOf (first_token.of_name x) (Limit bound.Levels);
}
inside-fits names (suc n) = above-fits names (primaries.inside names n) (k-inside spanning names (suc n) tt) (inside-fits names n)
