-- What is judged without a fault is found: what names stand for.
use Rattle.std.proofs.Common.{ℕ, Option, Some, None, Bool, true, false, if◌then◌else◌, ◌==◌, ◌&&◌}
use Rattle.std.specs.Prelude.{not, ◌||◌}
use Rattle.name_rules.specs.Judging.{fault}
use Rattle.name_rules.specs.Scope as c
use Rattle.name_rules.specs.Symbols.{ada_name, data_error_name, end_error_name, integer_io_name, symbol, text_io_name}
use Rattle.name_rules.specs.declared.found.Denoted.TheVariants as denoted
use Rattle.name_rules.specs.declared.found.Denoted.{Denoted as KnownDenoted}
use Rattle.name_rules.specs.declared.found.Reach.{Reach}
use Rattle.name_rules.specs.declared.log.Rule.TheVariants.{NotVisible, Twice, Unknown, WrongType}
use Rattle.name_rules.specs.declared.scope.Context.{Context}
use Rattle.name_rules.specs.declared.scope.Names.{Names}
use Rattle.name_rules.specs.declared.scope.What.TheVariants as what
use Rattle.name_rules.specs.declared.scope.What.{What}
use Rattle.name_rules.specs.declared.types.Subtype.TheVariants as subtype
use Rattle.name_rules.specs.declared.types.Subtype.{Subtype}
use Rattle.name_complete.proofs.Explains.{Any, Is, Sound, no, ok, s-bind, s-fault, s-given, s-if, s-pure, s-some}
use Rattle.name_complete.proofs.Facts.{Clear, DenotedOf, DenotedOk, Findable, lookup-sane}

pub s-free : (G : Type 0) (names : Names) (start : ℕ) (here : Context) (token : ℕ) → Sound G (Is Any) (c.free names start here token)
unfolding c.free
s-free G names start here token = s-if G (Is Any) (c.is_taken (symbol names token) start here) _ _ (no G token Twice) (ok G token)

s-named : (G : Type 0) (d : KnownDenoted) → (G → DenotedOk d) → Sound G (Is DenotedOf) (c.named d)
s-named G d h = s-some G DenotedOf _ h

wrong : (G : Type 0) (at : ℕ) → Sound G (Is DenotedOf) (fault at WrongType)
wrong G at = s-fault G (Is DenotedOf) at WrongType

unknown : (G : Type 0) (at : ℕ) → Sound G (Is DenotedOf) (fault at Unknown)
unknown G at = s-fault G (Is DenotedOf) at Unknown

unseen : (G : Type 0) (at : ℕ) → Sound G (Is DenotedOf) (fault at NotVisible)
unseen G at = s-fault G (Is DenotedOf) at NotVisible

either : (b : Bool) (x y : KnownDenoted) → DenotedOk x → DenotedOk y → DenotedOk (if b then x else y)
either true x y h k = h
either false x y h k = k

predefined-ok : (first token name : ℕ) (reach : Reach) → DenotedOk (c.predefined first token name reach)
predefined-ok first token name reach = either (name == data_error_name) _ _ tt (either (name == end_error_name) _ _ tt tt)

s-used_name : (G : Type 0) (token name : ℕ) (reach : Reach) → Sound G (Is DenotedOf) (c.used_name token name reach)
s-used_name G token name reach = s-if G (Is DenotedOf) (reach.text_io || reach.integer_io) _ _ (s-named G _ (λ g. predefined-ok token token name reach)) (unseen G token)

s-undeclared : (G : Type 0) (here : Context) (token name : ℕ) → Sound G (Is DenotedOf) (c.undeclared here token name)
s-undeclared G here token name =
    s-if G (Is DenotedOf) (c.in_text_io name || c.in_integer_io name) _ _ (s-used_name G token name (c.reach_of here.used name))
    (s-if G (Is DenotedOf) (name == ada_name) _ _ (s-named G (denoted.Package token ada_name) (λ g. tt))
    (s-if G (Is DenotedOf) ((name == text_io_name || name == integer_io_name) && here.used.ada) _ _
    (s-if G (Is DenotedOf) (c.is_withed here.withed name) _ _ (s-named G (denoted.Package token name) (λ g. tt)) (unseen G token))
    (unknown G token)))

s-stands : (G : Type 0) (here : Context) (token name : ℕ) (w : Option What) → (G → Findable w) → Sound G (Is DenotedOf) (c.stands here token name w)
s-stands G here token name None h = s-undeclared G here token name
s-stands G here token name (Some what.Hidden) h = unseen G token
s-stands G here token name (Some what.Broken) h = s-pure G (Is DenotedOf) None h
s-stands G here token name (Some (what.Object n s v z)) h = s-named G _ (λ g. tt)
s-stands G here token name (Some (what.Parameter n s)) h = s-some G DenotedOf _ (λ g. tt)
s-stands G here token name (Some (what.Item n s v)) h = s-named G _ (λ g. tt)
s-stands G here token name (Some (what.Number z)) h = s-named G _ (λ g. tt)
s-stands G here token name (Some (what.Boolean b)) h = s-named G _ (λ g. tt)
s-stands G here token name (Some (what.Type s)) h = s-named G _ (λ g. tt)
s-stands G here token name (Some (what.Sub n)) h = s-named G _ (λ g. tt)
s-stands G here token name (Some (what.Exception r)) h = s-named G _ (λ g. tt)

pub s-stands_for : (G : Type 0) (names : Names) (here : Context) (token : ℕ) → (G → Clear here) → Sound G (Is DenotedOf) (c.stands_for names here token)
unfolding c.stands_for
s-stands_for G names here token h = s-stands G here token (symbol names token) (c.lookup (symbol names token) here.scope) (λ g. lookup-sane (symbol names token) here.scope (h g).scope)

s-in_ada : (G : Type 0) (here : Context) (first token name : ℕ) → Sound G (Is DenotedOf) (c.in_ada here first token name)
s-in_ada G here first token name =
    s-if G (Is DenotedOf) (not (name == text_io_name || name == integer_io_name)) _ _ (unknown G token)
    (s-if G (Is DenotedOf) (c.is_withed here.withed name) _ _ (s-named G (denoted.Package first name) (λ g. tt)) (unseen G first))

pub s-selected : (G : Type 0) (names : Names) (here : Context) (first library token : ℕ) → Sound G (Is DenotedOf) (c.selected names here first library token)
unfolding c.selected
s-selected G names here first library token =
    s-if G (Is DenotedOf) (library == ada_name) _ _ (s-in_ada G here first token (symbol names token))
    (s-if G (Is DenotedOf) (c.in_package library (symbol names token)) _ _ (s-named G _ (λ g. predefined-ok first token (symbol names token) (c.expanded_reach library))) (unknown G token))

pub s-as_type : (G : Type 0) (token : ℕ) (d : KnownDenoted) → Sound G (Is Any) (c.as_type token d)
s-as_type G token (denoted.Type first s) = ok G s
s-as_type G token d = no G token WrongType

pub s-subtype_named : (G : Type 0) (names : Names) (here : Context) (token : ℕ) → (G → Clear here) → Sound G (Is Any) (c.subtype_named names here token)
unfolding c.subtype_named
s-subtype_named G names here token h =
    s-bind G (Is DenotedOf) (Is Any) (c.stands_for names here token) _ (s-stands_for G names here token h) (λ d. s-given _ DenotedOf Any d _ (λ g. g.1) (λ x. s-as_type _ token x.known))

pub s-as_scalar : (G : Type 0) (token : ℕ) (s : Subtype) → Sound G (Is Any) (c.as_scalar token s)
s-as_scalar G token (subtype.Scalar s) = ok G s
s-as_scalar G token (subtype.Composite n) = no G token WrongType

pub s-scalar_named : (G : Type 0) (names : Names) (here : Context) (token : ℕ) → (G → Clear here) → Sound G (Is Any) (c.scalar_named names here token)
unfolding c.scalar_named
s-scalar_named G names here token h =
    s-bind G (Is Any) (Is Any) (c.subtype_named names here token) _ (s-subtype_named G names here token h) (λ s. s-given _ Any Any s _ (λ g. g.1) (λ z. s-as_scalar _ token z))
