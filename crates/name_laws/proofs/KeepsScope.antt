-- What holds of each line of the log holds of what Scope judges.
use Rattle.name_rules.specs.Found.{denote}
use Rattle.name_rules.specs.Symbols.{ada_name, integer_io_name, symbol, text_io_name}
use Rattle.name_rules.specs.declared.found.Denoted.TheVariants as denoted
use Rattle.name_rules.specs.declared.found.Denoted.{Denoted as KnownDenoted}
use Rattle.name_rules.specs.declared.found.Found.TheVariants as known
use Rattle.name_rules.specs.declared.found.Reach.{Reach}
use Rattle.name_rules.specs.declared.log.Rule.TheVariants.{NotVisible, Twice, Unknown, WrongType}
use Rattle.name_rules.specs.declared.scope.Context.{Context}
use Rattle.name_rules.specs.declared.scope.Names.{Names}
use Rattle.name_rules.specs.declared.scope.What.TheVariants as what
use Rattle.name_rules.specs.declared.scope.What.{What}
use Rattle.name_rules.specs.declared.types.Kind.TheVariants as kind
use Rattle.name_rules.specs.declared.types.Subtype.TheVariants as subtype
use Rattle.name_rules.specs.declared.types.Subtype.{Subtype}
use Rattle.typed_tree.specs.Decoded as part
use Rattle.typed_tree.specs.Syntax as typed
use Rattle.std.specs.Prelude.{None, Option, Some, false, if◌then◌else◌, not, ℕ, ◌&&◌, ◌==◌, ◌||◌}
use Rattle.name_rules.specs.Judging.{fault, given, some}
use Rattle.name_rules.specs.Scope.{lookup, is_taken, free, named, in_text_io, in_integer_io, predefined, used_name, reach_of, is_withed, undeclared, object, item, bit, stands, stands_for, in_package, expanded_reach, in_ada, selected, as_type, subtype_named, as_scalar, scalar_named}
use Rattle.name_laws.proofs.Walk.{Walk, Keeps, k-pure, k-some, k-bind, k-fault, k-if, k-given}

pub k-free : (walk : Walk) (x0 : Names) (x1 : ℕ) (x2 : Context) (x3 : ℕ) → walk.Takes x0 → Keeps walk (free x0 x1 x2 x3)
unfolding free
k-free walk names start here token keeps1 = k-if walk (is_taken (symbol names token) start here) (fault token Twice) (some token) (k-fault walk token Twice) (k-some walk token)

pub k-named : (walk : Walk) (x0 : KnownDenoted) → Keeps walk (named x0)
k-named walk d = k-some walk (denote d part.Nothing)

pub k-used_name : (walk : Walk) (x0 : ℕ) (x1 : ℕ) (x2 : Reach) → Keeps walk (used_name x0 x1 x2)
k-used_name walk token name reach = k-if walk (reach.text_io || reach.integer_io) (named (predefined token token name reach)) (fault token NotVisible) (k-named walk (predefined token token name reach)) (k-fault walk token NotVisible)

pub k-undeclared : (walk : Walk) (x0 : Context) (x1 : ℕ) (x2 : ℕ) → Keeps walk (undeclared x0 x1 x2)
k-undeclared walk here token name = k-if walk (in_text_io name || in_integer_io name) (used_name token name (reach_of here.used name)) (if name == ada_name then named (denoted.Package token ada_name) else if (name == text_io_name || name == integer_io_name) && here.used.ada then (if is_withed here.withed name then named (denoted.Package token name) else fault token NotVisible) else fault token Unknown) (k-used_name walk token name (reach_of here.used name)) (k-if walk (name == ada_name) (named (denoted.Package token ada_name)) (if (name == text_io_name || name == integer_io_name) && here.used.ada then (if is_withed here.withed name then named (denoted.Package token name) else fault token NotVisible) else fault token Unknown) (k-named walk (denoted.Package token ada_name)) (k-if walk ((name == text_io_name || name == integer_io_name) && here.used.ada) ((if is_withed here.withed name then named (denoted.Package token name) else fault token NotVisible)) (fault token Unknown) (k-if walk (is_withed here.withed name) (named (denoted.Package token name)) (fault token NotVisible) (k-named walk (denoted.Package token name)) (k-fault walk token NotVisible)) (k-fault walk token Unknown)))

pub k-stands : (walk : Walk) (x0 : Context) (x1 : ℕ) (x2 : ℕ) (x3 : Option What) → Keeps walk (stands x0 x1 x2 x3)
k-stands walk here token name None = k-undeclared walk here token name
k-stands walk here token name (Some what.Hidden) = k-fault walk token NotVisible
k-stands walk here token name (Some what.Broken) = k-pure walk None
k-stands walk here token name (Some (what.Object n s v z)) = k-named walk (denoted.Value (known.Object (object token n s v z)))
k-stands walk here token name (Some (what.Parameter n s)) = k-some walk (denote (denoted.Parameter token s) (part.AnExpr (typed.Parameter token n)))
k-stands walk here token name (Some (what.Item n s v)) = k-named walk (denoted.Value (known.Object (item token n s v)))
k-stands walk here token name (Some (what.Number z)) = k-named walk (denoted.Value (known.Universal token z false))
k-stands walk here token name (Some (what.Boolean b)) = k-named walk (denoted.Value (known.Static token kind.Boolean (bit b)))
k-stands walk here token name (Some (what.Type s)) = k-named walk (denoted.Type token s)
k-stands walk here token name (Some (what.Sub n)) = k-named walk (denoted.Sub token token n)
k-stands walk here token name (Some (what.Exception r)) = k-named walk (denoted.Exception token r)

pub k-stands_for : (walk : Walk) (x0 : Names) (x1 : Context) (x2 : ℕ) → walk.Takes x0 → Keeps walk (stands_for x0 x1 x2)
unfolding stands_for
k-stands_for walk names here token keeps1 = k-stands walk here token (symbol names token) (lookup (symbol names token) here.scope)

pub k-in_ada : (walk : Walk) (x0 : Context) (x1 : ℕ) (x2 : ℕ) (x3 : ℕ) → Keeps walk (in_ada x0 x1 x2 x3)
k-in_ada walk here first token name = k-if walk (not (name == text_io_name || name == integer_io_name)) (fault token Unknown) (if is_withed here.withed name then named (denoted.Package first name) else fault first NotVisible) (k-fault walk token Unknown) (k-if walk (is_withed here.withed name) (named (denoted.Package first name)) (fault first NotVisible) (k-named walk (denoted.Package first name)) (k-fault walk first NotVisible))

pub k-selected : (walk : Walk) (x0 : Names) (x1 : Context) (x2 : ℕ) (x3 : ℕ) (x4 : ℕ) → walk.Takes x0 → Keeps walk (selected x0 x1 x2 x3 x4)
unfolding selected
k-selected walk names here first library token keeps1 = k-if walk (library == ada_name) (in_ada here first token (symbol names token)) (if in_package library (symbol names token) then named (predefined first token (symbol names token) (expanded_reach library)) else fault token Unknown) (k-in_ada walk here first token (symbol names token)) (k-if walk (in_package library (symbol names token)) (named (predefined first token (symbol names token) (expanded_reach library))) (fault token Unknown) (k-named walk (predefined first token (symbol names token) (expanded_reach library))) (k-fault walk token Unknown))

pub k-as_type : (walk : Walk) (x0 : ℕ) (x1 : KnownDenoted) → Keeps walk (as_type x0 x1)
k-as_type walk token (denoted.Type first s) = k-some walk s
k-as_type walk token d = k-fault walk token WrongType

pub k-subtype_named : (walk : Walk) (x0 : Names) (x1 : Context) (x2 : ℕ) → walk.Takes x0 → Keeps walk (subtype_named x0 x1 x2)
unfolding subtype_named
k-subtype_named walk names here token keeps1 = k-bind walk (stands_for names here token) (λ d. given d (λ x. as_type token x.known)) (k-stands_for walk names here token keeps1) (λ d. k-given walk d (λ x. as_type token x.known) (λ x. k-as_type walk token x.known))

pub k-as_scalar : (walk : Walk) (x0 : ℕ) (x1 : Subtype) → Keeps walk (as_scalar x0 x1)
k-as_scalar walk token (subtype.Scalar s) = k-some walk s
k-as_scalar walk token (subtype.Composite n) = k-fault walk token WrongType

pub k-scalar_named : (walk : Walk) (x0 : Names) (x1 : Context) (x2 : ℕ) → walk.Takes x0 → Keeps walk (scalar_named x0 x1 x2)
unfolding scalar_named
k-scalar_named walk names here token keeps1 = k-bind walk (subtype_named names here token) (λ s. given s (as_scalar token)) (k-subtype_named walk names here token keeps1) (λ s. k-given walk s (as_scalar token) (λ z1. k-as_scalar walk token z1))
