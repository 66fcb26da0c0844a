-- What is judged without a fault is found: names.
use Rattle.std.proofs.Common.{refl, ℕ, List, [], ◌∷◌, length, Option, Some, None, ◌==◌, ◌+◌, drop, slice_get}
use Rattle.syntax_tree.specs.Syntax as syntax
use Rattle.typed_tree.specs.Decoded.{TypedPart}
use Rattle.name_rules.specs.Expressions.{Inside, expr}
use Rattle.name_rules.specs.Found.{Denoted, Found}
use Rattle.name_rules.specs.Judging.{fault, given}
use Rattle.name_rules.specs.Scope.{stands_for}
use Rattle.name_rules.specs.Symbols.{symbol}
use Rattle.name_rules.specs.Values.{asked, first_of}
use Rattle.name_rules.specs.declared.found.Denoted.TheVariants as denoted
use Rattle.name_rules.specs.declared.found.Denoted.{Denoted as KnownDenoted}
use Rattle.name_rules.specs.declared.found.Found.TheVariants as known
use Rattle.name_rules.specs.declared.found.ObjectName.{ObjectName}
use Rattle.name_rules.specs.declared.log.Dimension.{Dimension}
use Rattle.name_rules.specs.declared.log.Rule.TheVariants as rule
use Rattle.name_rules.specs.declared.scope.Context.{Context}
use Rattle.name_rules.specs.declared.scope.Names.{Names}
use Rattle.name_rules.specs.declared.types.Subtype.TheVariants as subtype
use Rattle.name_rules.specs.declared.types.Subtype.{Subtype}
use Rattle.name_rules.specs.declared.types.Wanted.TheVariants as wanted
use Rattle.name_complete.proofs.Explains.{Any, Is, Sound, joint, no, ok, s-bind, s-fault, s-given, s-if, s-logged, s-pure, s-some, s-where_clean}
use Rattle.name_complete.proofs.Facts.{Clear, DenotedOf, FoundOk, LevelSound}
use Rattle.syntax_tree.specs.Syntax.{Arg, Args, Pack}
use Rattle.name_rules.specs.Names as n
use Rattle.name_rules.specs.Parts.{new_parameter, new_site}
use Rattle.name_rules.specs.Shapes.{primary_of_expr}
use Rattle.name_rules.specs.Types.{component_of, dimensions_of, fields_of, shape_in, stride}
use Rattle.name_rules.specs.declared.log.Field.{Field}
use Rattle.name_rules.specs.declared.log.Shape.{Shape}
use Rattle.typed_tree.specs.declared.program.SiteKind.{SiteKind}
use Rattle.name_complete.proofs.Explains.{grows-same}
use Rattle.name_complete.proofs.SoundExpressions.{s-expr, s-judged_alone}
use Rattle.name_complete.proofs.SoundScope.{s-selected, s-stands_for}
use Rattle.name_complete.proofs.SoundValues.{s-asked}

pub s-new_parameter : (G : Type 0) → Sound G Any new_parameter
s-new_parameter G = record { grows = λ log. grows-same log _ refl refl refl; at = λ log c e g. tt }

pub s-new_site : (G : Type 0) (here : Context) (at : ℕ) (k : SiteKind) → Sound G Any (new_site here at k)
s-new_site G here at k = record { grows = λ log. grows-same log _ refl refl refl; at = λ log c e g. tt }

wrong : (G : Type 0) (at : ℕ) → Sound G (Is DenotedOf) (fault at rule.WrongType)
wrong G at = s-fault G (Is DenotedOf) at rule.WrongType

-- ---- components

s-field_from : (G : Type 0) (names : Names) (p : ObjectName) (ss : TypedPart) (at i : ℕ) (fs : List Field) → Sound G (Is DenotedOf) (n.field_from names p ss at i fs)
s-field_from G names p ss at i [] = s-fault G (Is DenotedOf) at rule.Unknown
s-field_from G names p ss at i (f ∷ fs) = s-if G (Is DenotedOf) (f.symbol == symbol names at) _ _ (s-some G DenotedOf _ (λ g. tt)) (s-field_from G names p ss at (i + 1) fs)

s-field_in : (G : Type 0) (names : Names) (p : ObjectName) (ss : TypedPart) (at : ℕ) (t : Option Shape) → Sound G (Is DenotedOf) (n.field_in names p ss at t)
s-field_in G names p ss at t = s-if G (Is DenotedOf) (n.is_record t) _ _ (s-field_from G names p ss at 0 (fields_of t)) (wrong G p.first)

s-field_of : (G : Type 0) (names : Names) (p : ObjectName) (ss : TypedPart) (at : ℕ) (s : Subtype) → Sound G (Is DenotedOf) (n.field_of names p ss at s)
s-field_of G names p ss at (subtype.Composite m) = s-logged G (Is DenotedOf) (λ log. n.field_in names p ss at (shape_in log m)) (λ log. s-field_in G names p ss at (shape_in log m))
s-field_of G names p ss at (subtype.Scalar s) = wrong G p.first

s-field_form : (G : Type 0) (names : Names) (here : Context) (at : ℕ) (d : KnownDenoted) (x : TypedPart) → Sound G (Is DenotedOf) (n.field_form names here at d x)
s-field_form G names here at (denoted.Package first library) x = s-selected G names here first library at
s-field_form G names here at (denoted.Value (known.Object p)) x = s-field_of G names p x at p.subtype
s-field_form G names here at d x = wrong G _

pub s-field : (G : Type 0) (names : Names) (here : Context) (at : ℕ) (d : Denoted) → Sound G (Is DenotedOf) (n.field names here at d)
unfolding n.field
s-field G names here at d = s-field_form G names here at d.known d.part

-- ---- arguments for themselves

s-arg_alone : (G : Type 0) (names : Names) (inside : Inside) (here : Context) (a : Arg) → LevelSound inside → Sound G Any (n.arg_alone names inside here a)
s-arg_alone G names inside here (syntax.arg name e) l = s-if G Any (n.is_string (primary_of_expr e)) _ _ (s-pure G Any tt (λ g. tt)) (s-judged_alone G names inside here e l)

pub s-args_alone : (G : Type 0) (names : Names) (inside : Inside) (here : Context) (as' : Args) → LevelSound inside → Sound G Any (n.args_alone names inside here as')
s-args_alone G names inside here syntax.NoArg l = s-pure G Any tt (λ g. tt)
s-args_alone G names inside here (syntax.AlsoArg a as') l = s-bind G Any Any (n.arg_alone names inside here a) _ (s-arg_alone G names inside here a l) (λ u. s-args_alone _ names inside here as' l)

pub s-wrong_call : (G : Type 0) (names : Names) (inside : Inside) (here : Context) (first : ℕ) (as' : Args) → LevelSound inside → Sound G (Is DenotedOf) (n.wrong_call names inside here first as')
unfolding n.wrong_call
s-wrong_call G names inside here first as' l = s-where_clean G Any DenotedOf (n.args_alone names inside here as') _ (s-args_alone G names inside here as' l) (λ u. wrong _ first)

-- ---- indexes

s-index_in : (G : Type 0) (d : Option Dimension) (apart : ℕ) (done : Option TypedPart) (f : Found) → (G → Is Any done) → Sound G (Is Any) (n.index_in d apart done f)
s-index_in G None apart done f h = s-pure G (Is Any) done h
s-index_in G (Some d) apart done f h =
    s-bind G (Is Any) (Is Any) (asked d.kind f) _ (s-asked G d.kind f) (λ e. s-pure _ (Is Any) _ (λ g. joint Any Any Any (n.selected_by (first_of f.known) d apart) done e (h g.0) g.1 (λ a b i j. tt)))

s-index_where : (G : Type 0) (d : Option Dimension) (apart : ℕ) (done : Option TypedPart) (x : Option Found) → (G → Is Any done) → (G → Is FoundOk x) → Sound G (Is Any) (n.index_where d apart done x)
s-index_where G d apart made None h i = s-pure G (Is Any) None i
s-index_where G d apart made (Some f) h i = s-index_in G d apart made f h

s-unnamed : (G : Type 0) {A : Type 0} (name : Option ℕ) (x : Option A) → (G → Is Any x) → Sound G (Is Any) (n.unnamed name x)
s-unnamed G None x h = s-pure G (Is Any) x h
s-unnamed G (Some name) x h = no G name rule.WrongType

s-index : (G : Type 0) (names : Names) (inside : Inside) (here : Context) (ds : List Dimension) (cells : ℕ) (done : Option TypedPart) (a : Arg) → LevelSound inside → (G → Clear here) → (G → Is Any done) → Sound G (Is Any) (n.index names inside here ds cells done a)
unfolding n.index
s-index G names inside here ds cells done (syntax.arg name e) l c h =
    s-bind G (Is FoundOk) (Is Any) (expr names inside here wanted.Other e) _ (s-expr G names inside here wanted.Other e l c (λ g. tt)) (λ x.
    s-bind _ (Is Any) (Is Any) (n.index_where (slice_get ds 0) (stride ds cells) done x) _ (s-index_where _ (slice_get ds 0) (stride ds cells) done x (λ g. h g.0) (λ g. g.1)) (λ s.
    s-unnamed _ name s (λ g. g.1)))

s-indexes : (G : Type 0) (names : Names) (inside : Inside) (here : Context) (ds : List Dimension) (cells : ℕ) (done : Option TypedPart) (as' : Args) → LevelSound inside → (G → Clear here) → (G → Is Any done) → Sound G (Is Any) (n.indexes names inside here ds cells done as')
s-indexes G names inside here ds cells done syntax.NoArg l c h = s-pure G (Is Any) done h
s-indexes G names inside here ds cells done (syntax.AlsoArg a as') l c h =
    s-bind G (Is Any) (Is Any) (n.index names inside here ds cells done a) _ (s-index G names inside here ds cells done a l c h) (λ s. s-indexes _ names inside here (drop 1 ds) cells s as' l (λ g. c g.0) (λ g. g.1))

s-indexed : (G : Type 0) (p : ObjectName) (bracket wanted given : ℕ) (s : Option Subtype) (ss : TypedPart) → Sound G (Is DenotedOf) (n.indexed p bracket wanted given s ss)
s-indexed G p bracket wanted given None ss = wrong G p.first
s-indexed G p bracket wanted given (Some t) ss = s-if G (Is DenotedOf) (wanted == given) _ _ (s-some G DenotedOf _ (λ g. tt)) (wrong G bracket)

s-index_shape : (G : Type 0) (names : Names) (inside : Inside) (here : Context) (p : ObjectName) (ss : TypedPart) (bracket : ℕ) (as' : Args) (t : Option Shape) (cells : ℕ) → LevelSound inside → (G → Clear here)
    → Sound G (Is DenotedOf) (n.index_shape names inside here p ss bracket as' t cells)
s-index_shape G names inside here p ss bracket as' t cells l c =
    s-where_clean G (Is Any) DenotedOf (n.indexes names inside here (dimensions_of t) cells (Some ss) as') _ (s-indexes G names inside here (dimensions_of t) cells (Some ss) as' l c (λ g. tt)) (λ r.
    s-given _ Any DenotedOf r _ (λ g. g.1) (λ x. s-indexed _ p bracket (length (dimensions_of t)) (n.count as') (component_of t) x))

s-array_call : (G : Type 0) (names : Names) (inside : Inside) (here : Context) (p : ObjectName) (ss : TypedPart) (bracket : ℕ) (as' : Args) (t : Option Shape) (cells : ℕ) → LevelSound inside → (G → Clear here)
    → Sound G (Is DenotedOf) (n.array_call names inside here p ss bracket as' t cells)
s-array_call G names inside here p ss bracket as' t cells l c = s-if G (Is DenotedOf) (n.is_array t) _ _ (s-index_shape G names inside here p ss bracket as' t cells l c) (s-wrong_call G names inside here p.first as' l)

pub s-object_call : (G : Type 0) (names : Names) (inside : Inside) (here : Context) (p : ObjectName) (ss : TypedPart) (bracket : ℕ) (as' : Args) (s : Subtype) → LevelSound inside → (G → Clear here)
    → Sound G (Is DenotedOf) (n.object_call names inside here p ss bracket as' s)
unfolding n.object_call
s-object_call G names inside here p ss bracket as' (subtype.Composite m) l c =
    s-logged G (Is DenotedOf) (λ log. n.array_call names inside here p ss bracket as' (shape_in log m) (n.component_cells log (component_of (shape_in log m))))
    (λ log. s-array_call G names inside here p ss bracket as' (shape_in log m) (n.component_cells log (component_of (shape_in log m))) l c)
s-object_call G names inside here p ss bracket as' (subtype.Scalar s) l c = s-wrong_call G names inside here p.first as' l

-- ---- exceptions

s-field_of_pack : (G : Type 0) (names : Names) (here : Context) (t : ℕ) (d : KnownDenoted) → Sound G (Is DenotedOf) (n.field_of_pack names here t d)
s-field_of_pack G names here t (denoted.Package first library) = s-selected G names here first library t
s-field_of_pack G names here t d = wrong G _

s-pack_from : (G : Type 0) (names : Names) (here : Context) (d : Option Denoted) (ts : List ℕ) → (G → Is DenotedOf d) → Sound G (Is DenotedOf) (n.pack_from names here d ts)
s-pack_from G names here d [] h = s-pure G (Is DenotedOf) d h
s-pack_from G names here d (t ∷ ts) h =
    s-bind G (Is DenotedOf) (Is DenotedOf) (given d (λ x. n.field_of_pack names here t x.known)) _ (s-given G DenotedOf DenotedOf d _ h (λ x. s-field_of_pack _ names here t x.known)) (λ e. s-pack_from _ names here e ts (λ g. g.1))

s-as_exception : (G : Type 0) (d : KnownDenoted) → Sound G (Is Any) (n.as_exception d)
s-as_exception G (denoted.Exception first r) = ok G r
s-as_exception G d = no G _ rule.WrongType

pub s-exception : (G : Type 0) (names : Names) (here : Context) (p : Pack) → (G → Clear here) → Sound G (Is Any) (n.exception names here p)
unfolding n.exception
s-exception G names here p c =
    s-bind G (Is DenotedOf) (Is Any) (stands_for names here p.first) _ (s-stands_for G names here p.first c) (λ d.
    s-bind _ (Is DenotedOf) (Is Any) (n.pack_from names here d p.more) _ (s-pack_from _ names here d p.more (λ g. g.1)) (λ e.
    s-given _ DenotedOf Any e _ (λ g. g.1) (λ x. s-as_exception _ x.known)))
