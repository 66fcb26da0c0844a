-- What is judged without a fault is found: what reductions fold by.
use Rattle.std.proofs.Common.{◌≡◌, refl, ◌&&◌, ℕ, List, [], ◌∷◌, Option, Some, None, true}
use Rattle.std.specs.Prelude.{not, ◌||◌, is_some}
use Rattle.ada_base.specs.declared.operation.Op.{Op}
use Rattle.syntax_tree.specs.FirstTokens as first_token
use Rattle.syntax_tree.specs.Syntax as syntax
use Rattle.typed_tree.specs.Decoded.{TypedPart}
use Rattle.name_rules.specs.Expressions.{Inside, judged_alone}
use Rattle.name_rules.specs.Found.{Found}
use Rattle.name_rules.specs.Judging.{read}
use Rattle.name_rules.specs.Scope.{stands_for}
use Rattle.name_rules.specs.Values as v
use Rattle.name_rules.specs.Values.{asked, is_number, kind_of}
use Rattle.name_rules.specs.declared.found.Denoted.TheVariants as denoted
use Rattle.name_rules.specs.declared.found.Denoted.{Denoted as KnownDenoted}
use Rattle.name_rules.specs.declared.log.Rule.TheVariants as rule
use Rattle.name_rules.specs.declared.scope.Context.{Context}
use Rattle.name_rules.specs.declared.scope.Names.{Names}
use Rattle.name_rules.specs.declared.types.Kind.{Kind}
use Rattle.name_rules.specs.declared.types.Scalar.{Scalar}
use Rattle.name_rules.specs.declared.types.Subtype.TheVariants as subtype
use Rattle.name_rules.specs.declared.types.Subtype.{Subtype}
use Rattle.name_complete.proofs.Explains.{Any, Is, Sound, joint, no, ok, s-bind, s-both, s-fault, s-given, s-if, s-pure, s-read, s-some, s-test, s-where_clean}
use Rattle.name_complete.proofs.Facts.{Clear, DenotedOf, FoundOk, LevelSound}
use Rattle.syntax_tree.specs.Syntax.{Expr, NameParts, Primary}
use Rattle.typed_tree.specs.declared.expressions.Reducer.{Reducer}
use Rattle.name_rules.specs.Calls.{gives_in, profile_in, takes_in}
use Rattle.name_rules.specs.Found.{scalar}
use Rattle.name_rules.specs.Operators.{open_of}
use Rattle.name_rules.specs.Reducers as d
use Rattle.name_rules.specs.Shapes.{primary_of_expr}
use Rattle.name_rules.specs.Symbols.{text}
use Rattle.name_rules.specs.Types.{same}
use Rattle.name_rules.specs.Values.{suits}
use Rattle.name_rules.specs.declared.found.Folding.TheVariants as folding
use Rattle.name_rules.specs.declared.found.Folding.{Folding}
use Rattle.name_rules.specs.declared.found.Going.{Going}
use Rattle.name_rules.specs.declared.log.Taken.{Taken}
use Rattle.name_complete.proofs.SoundExpressions.{s-judged_alone}
use Rattle.name_complete.proofs.SoundOperators.{first-true, open-there, second-true}
use Rattle.name_complete.proofs.SoundScope.{s-stands_for}
use Rattle.name_complete.proofs.SoundValues.{s-asked}

s-operator_reducer : (G : Type 0) (at : ℕ) (o : Option Op) → Sound G (Is Any) (d.operator_reducer at o)
s-operator_reducer G at None = no G at rule.ReduceRule
s-operator_reducer G at (Some o) = ok G _

s-extreme_of : (G : Type 0) (at : ℕ) (o : Op) (x : KnownDenoted) → Sound G (Is Any) (d.extreme_of at o x)
s-extreme_of G at o (denoted.Type first (subtype.Scalar s)) = ok G _
s-extreme_of G at o x = no G at rule.ReduceRule

s-function_given : (G : Type 0) (at n : ℕ) (s : Option Scalar) → Sound G (Is Any) (d.function_given at n s)
s-function_given G at n None = no G at rule.ReduceRule
s-function_given G at n (Some s) = ok G _

s-function_of : (G : Type 0) (at : ℕ) (x : KnownDenoted) → Sound G (Is Any) (d.function_of at x)
s-function_of G at (denoted.Sub first last n) = s-bind G Any (Is Any) (read (λ log. gives_in (profile_in log n))) _ (s-read G Any (λ log. gives_in (profile_in log n)) (λ log g. tt)) (λ s. s-function_given _ at n s)
s-function_of G at x = no G at rule.ReduceRule

s-no_reducer : (G : Type 0) (names : Names) (inside : Inside) (here : Context) (e : Expr) → LevelSound inside → Sound G (Is Any) (d.no_reducer names inside here e)
s-no_reducer G names inside here e l = s-where_clean G Any Any (judged_alone names inside here e) _ (s-judged_alone G names inside here e l) (λ u. no _ (first_token.of_expr e) rule.ReduceRule)

s-attribute_reducer : (G : Type 0) (names : Names) (inside : Inside) (here : Context) (e : Expr) (first : ℕ) (o : Option Op) → LevelSound inside → (G → Clear here) → Sound G (Is Any) (d.attribute_reducer names inside here e first o)
s-attribute_reducer G names inside here e first None l c = s-no_reducer G names inside here e l
s-attribute_reducer G names inside here e first (Some o) l c = s-bind G (Is DenotedOf) (Is Any) (stands_for names here first) _ (s-stands_for G names here first c) (λ x. s-given _ DenotedOf Any x _ (λ g. g.1) (λ y. s-extreme_of _ first o y.known))

s-name_reducer : (G : Type 0) (names : Names) (inside : Inside) (here : Context) (e : Expr) (first : ℕ) (ps : NameParts) → LevelSound inside → (G → Clear here) → Sound G (Is Any) (d.name_reducer names inside here e first ps)
s-name_reducer G names inside here e first syntax.NoPart l c = s-bind G (Is DenotedOf) (Is Any) (stands_for names here first) _ (s-stands_for G names here first c) (λ x. s-given _ DenotedOf Any x _ (λ g. g.1) (λ y. s-function_of _ first y.known))
s-name_reducer G names inside here e first (syntax.AlsoPart (syntax.Attribute at) syntax.NoPart) l c = s-attribute_reducer G names inside here e first (d.extreme_name names at) l c
s-name_reducer G names inside here e first ps l c = s-no_reducer G names inside here e l

s-reducer_by : (G : Type 0) (names : Names) (inside : Inside) (here : Context) (e : Expr) (p : Option Primary) → LevelSound inside → (G → Clear here) → Sound G (Is Any) (d.reducer_by names inside here e p)
s-reducer_by G names inside here e (Some (syntax.Text at)) l c = s-operator_reducer G at (d.operator_named (text names at) d.operators)
s-reducer_by G names inside here e (Some (syntax.Named (syntax.name first ps))) l c = s-name_reducer G names inside here e first ps l c
s-reducer_by G names inside here e p l c = s-no_reducer G names inside here e l

pub s-reducer_of : (G : Type 0) (names : Names) (inside : Inside) (here : Context) (e : Expr) → LevelSound inside → (G → Clear here) → Sound G (Is Any) (d.reducer_of names inside here e)
unfolding d.reducer_of
s-reducer_of G names inside here e l c = s-reducer_by G names inside here e (primary_of_expr e) l c

-- ---- values and initial value

s-reduced : (G : Type 0) (go : Going) (c i : TypedPart) (k j : Kind) (r : Reducer) (x y : Found) → Sound G (Is FoundOk) (d.reduced go c i k j r x y)
unfolding d.reduced
s-reduced G go c i k j r x y =
    s-bind G (Is Any) (Is FoundOk) (asked k x) _ (s-asked G k x) (λ e.
    s-bind _ (Is Any) (Is FoundOk) (asked j y) _ (s-asked _ j y) (λ f.
    s-both _ Any Any FoundOk e f _ (λ g. g.0.1) (λ g. g.1) (λ m n. s-some _ FoundOk (scalar go.at j None (d.reduction go c i r m n)) (λ g. tt))))

s-of_kind : (G : Type 0) (go : Going) (c i : TypedPart) (at : ℕ) (o : Op) (k : Kind) (x y : Found) → Sound G (Is FoundOk) (d.of_kind go c i at o k x y)
s-of_kind G go c i at o k x y = s-if G (Is FoundOk) (suits k x.known && suits k y.known) _ _ (s-reduced G go c i k k _ x y) (s-fault G (Is FoundOk) at rule.ReduceRule)

s-numeric : (G : Type 0) (go : Going) (c i : TypedPart) (at : ℕ) (o : Op) (x y : Found) (j k : Option Kind) → kind_of x.known ≡ j → kind_of y.known ≡ k → (G → is_number x.known ≡ true) → (G → is_number y.known ≡ true)
    → Sound G (Is FoundOk) (d.numeric go c i at o x y j k)
s-numeric G go c i at o x y None None e f h m =
    s-pure G (Is FoundOk) _ (λ g. joint Any Any FoundOk (d.open_reduction go c i at o) (open_of x) (open_of y) (open-there x (h g) e) (open-there y (m g) f) (λ a b p q. tt))
s-numeric G go c i at o x y (Some k) j e f h m = s-of_kind G go c i at o k x y
s-numeric G go c i at o x y None (Some k) e f h m = s-of_kind G go c i at o k x y

s-by_operator : (G : Type 0) (go : Going) (c i : TypedPart) (at : ℕ) (o : Op) (x y : Found) → Sound G (Is FoundOk) (d.by_operator go c i at o x y)
s-by_operator G go c i at o x y =
    s-if G (Is FoundOk) (d.is_logical o) _ _ (s-of_kind G go c i at o (d.logical_kind (kind_of x.known) (kind_of y.known)) x y)
    (s-test G (Is FoundOk) (is_number x.known && is_number y.known) _ _
    (s-numeric _ go c i at o x y (kind_of x.known) (kind_of y.known) refl refl (λ g. first-true (is_number x.known) (is_number y.known) g.1) (λ g. second-true (is_number x.known) (is_number y.known) g.1))
    (s-fault _ (Is FoundOk) at rule.ReduceRule))

s-by_subtypes : (G : Type 0) (go : Going) (c i : TypedPart) (at n : ℕ) (result : Kind) (s t : Subtype) (x y : Found) → Sound G (Is FoundOk) (d.by_subtypes go c i at n result s t x y)
s-by_subtypes G go c i at n result (subtype.Scalar a) (subtype.Scalar b) x y =
    s-if G (Is FoundOk) (same result a.kind && v.suits b.kind x.known && v.suits a.kind y.known && (not (is_some go.site) || same a.kind b.kind)) _ _ (s-reduced G go c i b.kind a.kind _ x y) (s-fault G (Is FoundOk) at rule.ReduceRule)
s-by_subtypes G go c i at n result s t x y = s-fault G (Is FoundOk) at rule.ReduceRule

s-by_function : (G : Type 0) (go : Going) (c i : TypedPart) (at n : ℕ) (ts : List Taken) (s : Option Scalar) (x y : Found) → Sound G (Is FoundOk) (d.by_function go c i at n ts s x y)
s-by_function G go c i at n (a ∷ b ∷ []) (Some s) x y = s-by_subtypes G go c i at n s.kind a.subtype b.subtype x y
s-by_function G go c i at n ts s x y = s-fault G (Is FoundOk) at rule.ReduceRule

pub s-folded_by : (G : Type 0) (go : Going) (c i : TypedPart) (f : Folding) (x y : Found) → Sound G (Is FoundOk) (d.folded_by go c i f x y)
unfolding d.folded_by
s-folded_by G go c i (folding.Operator at o) x y = s-by_operator G go c i at o x y
s-folded_by G go c i (folding.Extreme at o s) x y = s-of_kind G go c i at o s.kind x y
s-folded_by G go c i (folding.Function at n) x y =
    s-bind G Any (Is FoundOk) (read (λ log. profile_in log n)) _ (s-read G Any (λ log. profile_in log n) (λ log g. tt)) (λ p. s-by_function _ go c i at n (takes_in p) (gives_in p) x y)
