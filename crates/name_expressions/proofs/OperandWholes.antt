-- Conversions and attributes over operands that have no parameter.
use Rattle.std.proofs.Common.{◌≡◌, ◌≢◌, refl, sym, ap, ◌∙◌, ℕ, Bool, true, false, ◌⊎◌, length, List, [], ◌∷◌, Option, Some, None, Result}
use Rattle.std.specs.Prelude.{if◌then◌else◌}
use Rattle.syntax_tree.specs.Syntax.{Args}
use Rattle.typed_tree.specs.Decoded.{TypedPart}
use Rattle.typed_tree.specs.Syntax.{Expr}
use Rattle.typed_tree.specs.Latest.{pop, second, top}
use Rattle.name_expressions.proofs.Wholes.{gone, kept, judges_so}
use Rattle.name_rules.specs.Attributes.{bound_with, first_named, one_argument, one_dimension, one_named, two_arguments_of, two_named}
use Rattle.name_rules.specs.Calls.{arg_names, one_operand, operands, scalar_conversion}
use Rattle.name_rules.specs.Expressions.{Inside}
use Rattle.name_rules.specs.Found.{Denoted, Found}
use Rattle.name_rules.specs.Judges.{Judges}
use Rattle.name_rules.specs.Judging.{Judging, fault, given, where_clean}
use Rattle.name_rules.specs.Types.{is_integer}
use Rattle.name_rules.specs.declared.found.Attribute.{Attribute}
use Rattle.name_rules.specs.declared.found.Denoted.{Denoted as KnownDenoted}
use Rattle.name_rules.specs.declared.found.Found.{Found as Known}
use Rattle.name_rules.specs.declared.log.Dimension.{Dimension}
use Rattle.name_rules.specs.declared.log.Log.{Log}
use Rattle.name_rules.specs.declared.log.Rule.TheVariants.{WrongType}
use Rattle.name_rules.specs.declared.scope.Context.{Context}
use Rattle.name_rules.specs.declared.scope.Names.{Names}
use Rattle.name_rules.specs.declared.types.Kind.{Kind}
use Rattle.name_rules.specs.declared.types.Scalar.{Scalar}
use Rattle.name_values.specs.Operands.{founds, operands_of}

none_of : (all : Bool) (ks : List Known) (p : TypedPart) → all ≡ false → operands_of all ks p ≡ None
none_of all ks p e = rw e refl

some_of : (all : Bool) (ks : List Known) (p : TypedPart) → all ≡ true → operands_of all ks p ≡ Some (founds ks p)
some_of all ks p e = rw e refl

begun : (zs : List Known) (z : TypedPart) → zs ≡ [] → Some [] ≡ operands_of true zs z
begun zs z e = rw e refl

-- from no operand on
from_none : (names : Names) (inside : Inside) (here : Context) (as' : Args) (log : Log) (zs : List Known) (z : TypedPart) → zs ≡ [] → operands names inside here (Some []) as' log ≡ operands names inside here (operands_of true zs z) as' log
from_none names inside here as' log zs z e = ap (λ x. operands names inside here x as' log) (begun zs z e)

pub operands_gone : {B : Type 0} (names : Names) (inside : Inside) (here : Context) (as' : Args) (f : List Found → Judging (Option B)) (log now : Log) (zs ks : List Known) (z p : TypedPart) (all : Bool) (m n : ℕ)
    → zs ≡ [] → operands names inside here (operands_of true zs z) as' log ≡ (operands_of all ks p, now) → m ≡ length log.faults → n ≡ length now.faults → (n ≢ m) ⊎ ((n ≡ m) × (all ≡ false))
    → where_clean (operands names inside here (Some []) as') (λ a. given a f) log ≡ (None, now)
operands_gone names inside here as' f log now zs ks z p all m n e g h i j =
    gone (operands names inside here (Some []) as') f log now (operands_of all ks p) m n all (from_none names inside here as' log zs z e ∙ g) h i (none_of all ks p) j

pub operands_kept : {B : Type 0} (names : Names) (inside : Inside) (here : Context) (as' : Args) (f : List Found → Judging (Option B)) (log now : Log) (zs ks : List Known) (z p : TypedPart) (all : Bool) (m n : ℕ)
    → zs ≡ [] → operands names inside here (operands_of true zs z) as' log ≡ (operands_of all ks p, now) → m ≡ length log.faults → n ≡ length now.faults → n ≡ m → all ≡ true
    → where_clean (operands names inside here (Some []) as') (λ a. given a f) log ≡ f (founds ks p) now
operands_kept names inside here as' f log now zs ks z p all m n e g h i j k =
    kept (operands names inside here (Some []) as') f log now (founds ks p) m n (from_none names inside here as' log zs z e ∙ (g ∙ ap (λ x. (x, now)) (some_of all ks p k))) h i j

-- ---- attributes

bound_where : (names : Names) (inside : Inside) (here : Context) (first : ℕ) (ms : TypedPart) (a : Attribute) (bracket : ℕ) (as' : Args) (ds : List Dimension) (log : Log) → ds ≢ []
    → bound_with names inside here first ms a bracket as' ds log ≡ where_clean (operands names inside here (Some []) as') (λ fs. given fs (one_dimension first bracket ms a ds (arg_names as'))) log
bound_where names inside here first ms a bracket as' [] log h = absurd (h refl)
bound_where names inside here first ms a bracket as' (d ∷ ds) log h = refl

pub bound_gone : (names : Names) (inside : Inside) (here : Context) (first : ℕ) (ms : TypedPart) (a : Attribute) (bracket : ℕ) (as' : Args) (ds : List Dimension) (log now : Log) (zs ks : List Known) (z p : TypedPart) (all : Bool) (m n : ℕ)
    → ds ≢ [] → zs ≡ [] → operands names inside here (operands_of true zs z) as' log ≡ (operands_of all ks p, now) → m ≡ length log.faults → n ≡ length now.faults → (n ≢ m) ⊎ ((n ≡ m) × (all ≡ false))
    → bound_with names inside here first ms a bracket as' ds log ≡ (None, now)
bound_gone names inside here first ms a bracket as' ds log now zs ks z p all m n d e g h i j =
    bound_where names inside here first ms a bracket as' ds log d ∙ operands_gone names inside here as' (one_dimension first bracket ms a ds (arg_names as')) log now zs ks z p all m n e g h i j

pub bound_kept : {E : Type 0} (names : Names) (inside : Inside) (here : Context) (first : ℕ) (a : Attribute) (bracket : ℕ) (as' : Args) (ds : List Dimension) (log now : Log) (zs ks : List Known) (z : TypedPart) (all : Bool) (m n : ℕ)
    (s t : List TypedPart) (result : Result (Option KnownDenoted) E) (last : Log) (u : List TypedPart)
    → ds ≢ [] → zs ≡ [] → operands names inside here (operands_of true zs z) as' log ≡ (operands_of all ks (top t), now) → m ≡ length log.faults → n ≡ length now.faults → n ≡ m → all ≡ true → pop t ≡ s
    → Judges (one_dimension first bracket (second t) a ds (arg_names as') (founds ks (top t)) now) (pop (pop t)) result last u
    → Judges (bound_with names inside here first (top s) a bracket as' ds log) (pop s) result last u
bound_kept names inside here first a bracket as' ds log now zs ks z all m n s t result last u d e g h i j k q w =
    judges_so (bound_with names inside here first (top s) a bracket as' ds log) (one_dimension first bracket (second t) a ds (arg_names as') (founds ks (top t)) now) (pop s) (pop (pop t)) result last u
    (bound_where names inside here first (top s) a bracket as' ds log d
    ∙ (operands_kept names inside here as' (one_dimension first bracket (top s) a ds (arg_names as')) log now zs ks z (top t) all m n e g h i j k
    ∙ ap (λ x. one_dimension first bracket (top x) a ds (arg_names as') (founds ks (top t)) now) (sym q)))
    (ap pop (sym q)) w

pub one_gone : (names : Names) (inside : Inside) (here : Context) (bracket : ℕ) (k : Kind) (make : Expr → Denoted) (as' : Args) (log now : Log) (zs ks : List Known) (z p : TypedPart) (all : Bool) (m n : ℕ)
    → zs ≡ [] → operands names inside here (operands_of true zs z) as' log ≡ (operands_of all ks p, now) → m ≡ length log.faults → n ≡ length now.faults → (n ≢ m) ⊎ ((n ≡ m) × (all ≡ false))
    → one_argument names inside here bracket k make as' log ≡ (None, now)
unfolding one_argument
one_gone names inside here bracket k make as' log now zs ks z p all m n e g h i j =
    operands_gone names inside here as' (one_named bracket k make (first_named (arg_names as'))) log now zs ks z p all m n e g h i j

pub one_kept : (names : Names) (inside : Inside) (here : Context) (bracket : ℕ) (k : Kind) (make : Expr → Denoted) (as' : Args) (log now : Log) (zs ks : List Known) (z p : TypedPart) (all : Bool) (m n : ℕ) (name : Option ℕ)
    → zs ≡ [] → operands names inside here (operands_of true zs z) as' log ≡ (operands_of all ks p, now) → m ≡ length log.faults → n ≡ length now.faults → n ≡ m → all ≡ true → name ≡ first_named (arg_names as')
    → one_argument names inside here bracket k make as' log ≡ one_named bracket k make name (founds ks p) now
unfolding one_argument
one_kept names inside here bracket k make as' log now zs ks z p all m n name e g h i j l q =
    operands_kept names inside here as' (one_named bracket k make (first_named (arg_names as'))) log now zs ks z p all m n e g h i j l ∙ ap (λ x. one_named bracket k make x (founds ks p) now) (sym q)

pub two_gone : (names : Names) (inside : Inside) (here : Context) (bracket : ℕ) (k : Kind) (make : Expr → Expr → Denoted) (as' : Args) (log now : Log) (zs ks : List Known) (z p : TypedPart) (all : Bool) (m n : ℕ)
    → zs ≡ [] → operands names inside here (operands_of true zs z) as' log ≡ (operands_of all ks p, now) → m ≡ length log.faults → n ≡ length now.faults → (n ≢ m) ⊎ ((n ≡ m) × (all ≡ false))
    → two_arguments_of names inside here bracket k make as' log ≡ (None, now)
unfolding two_arguments_of
two_gone names inside here bracket k make as' log now zs ks z p all m n e g h i j =
    operands_gone names inside here as' (two_named bracket k make (first_named (arg_names as'))) log now zs ks z p all m n e g h i j

pub two_kept : (names : Names) (inside : Inside) (here : Context) (bracket : ℕ) (k : Kind) (make : Expr → Expr → Denoted) (as' : Args) (log now : Log) (zs ks : List Known) (z p : TypedPart) (all : Bool) (m n : ℕ) (name : Option ℕ)
    → zs ≡ [] → operands names inside here (operands_of true zs z) as' log ≡ (operands_of all ks p, now) → m ≡ length log.faults → n ≡ length now.faults → n ≡ m → all ≡ true → name ≡ first_named (arg_names as')
    → two_arguments_of names inside here bracket k make as' log ≡ two_named bracket k make name (founds ks p) now
unfolding two_arguments_of
two_kept names inside here bracket k make as' log now zs ks z p all m n name e g h i j l q =
    operands_kept names inside here as' (two_named bracket k make (first_named (arg_names as'))) log now zs ks z p all m n e g h i j l ∙ ap (λ x. two_named bracket k make x (founds ks p) now) (sym q)

-- ---- conversions

abbrev of_operands : ℕ → ℕ → Scalar → Args → List Found → Judging (Option Denoted)
of_operands bracket first s as' gs = if is_integer s.kind then one_operand bracket first s (arg_names as') gs else fault first WrongType

pub conversion_gone : (names : Names) (inside : Inside) (here : Context) (bracket first : ℕ) (s : Scalar) (as' : Args) (log now : Log) (zs ks : List Known) (z p : TypedPart) (all : Bool) (m n : ℕ)
    → zs ≡ [] → operands names inside here (operands_of true zs z) as' log ≡ (operands_of all ks p, now) → m ≡ length log.faults → n ≡ length now.faults → (n ≢ m) ⊎ ((n ≡ m) × (all ≡ false))
    → scalar_conversion names inside here bracket first s as' log ≡ (None, now)
conversion_gone names inside here bracket first s as' log now zs ks z p all m n e g h i j =
    operands_gone names inside here as' (of_operands bracket first s as') log now zs ks z p all m n e g h i j

conversion_kept : (names : Names) (inside : Inside) (here : Context) (bracket first : ℕ) (s : Scalar) (as' : Args) (log now : Log) (zs ks : List Known) (z p : TypedPart) (all : Bool) (m n : ℕ)
    → zs ≡ [] → operands names inside here (operands_of true zs z) as' log ≡ (operands_of all ks p, now) → m ≡ length log.faults → n ≡ length now.faults → n ≡ m → all ≡ true
    → scalar_conversion names inside here bracket first s as' log ≡ of_operands bracket first s as' (founds ks p) now
conversion_kept names inside here bracket first s as' log now zs ks z p all m n e g h i j k =
    operands_kept names inside here as' (of_operands bracket first s as') log now zs ks z p all m n e g h i j k

pub conversion_whole : (names : Names) (inside : Inside) (here : Context) (bracket first : ℕ) (s : Scalar) (as' : Args) (log now : Log) (zs ks : List Known) (z p : TypedPart) (all : Bool) (m n : ℕ) (b : Bool)
    → zs ≡ [] → operands names inside here (operands_of true zs z) as' log ≡ (operands_of all ks p, now) → m ≡ length log.faults → n ≡ length now.faults → n ≡ m → all ≡ true → b ≡ is_integer s.kind → b ≡ true
    → scalar_conversion names inside here bracket first s as' log ≡ one_operand bracket first s (arg_names as') (founds ks p) now
conversion_whole names inside here bracket first s as' log now zs ks z p all m n b e g h i j k q r =
    conversion_kept names inside here bracket first s as' log now zs ks z p all m n e g h i j k
    ∙ ap (λ (c : Bool). (if c then one_operand bracket first s (arg_names as') (founds ks p) else fault first WrongType) now) (sym q ∙ r)

pub conversion_wrong : (names : Names) (inside : Inside) (here : Context) (bracket first : ℕ) (s : Scalar) (as' : Args) (log now : Log) (zs ks : List Known) (z p : TypedPart) (all : Bool) (m n : ℕ) (b : Bool)
    → zs ≡ [] → operands names inside here (operands_of true zs z) as' log ≡ (operands_of all ks p, now) → m ≡ length log.faults → n ≡ length now.faults → n ≡ m → all ≡ true → b ≡ is_integer s.kind → b ≡ false
    → scalar_conversion names inside here bracket first s as' log ≡ fault first WrongType now
conversion_wrong names inside here bracket first s as' log now zs ks z p all m n b e g h i j k q r =
    conversion_kept names inside here bracket first s as' log now zs ks z p all m n e g h i j k
    ∙ ap (λ (c : Bool). (if c then one_operand bracket first s (arg_names as') (founds ks p) else fault first WrongType) now) (sym q ∙ r)
