-- Judging that is counted: identifiers.
use Rattle.name_rules.specs.Found.{denote}
use Rattle.name_rules.specs.Judging.{fault}
use Rattle.name_rules.specs.Symbols.{ada_name, integer_io_name, symbol, text_io_name}
use Rattle.name_rules.specs.declared.found.Denoted.TheVariants as denoted
use Rattle.name_rules.specs.declared.found.Denoted.{Denoted as KnownDenoted}
use Rattle.name_rules.specs.declared.found.Found.TheVariants as known
use Rattle.name_rules.specs.declared.found.Reach.{Reach}
use Rattle.name_rules.specs.declared.log.Rule.TheVariants.{NotVisible, Unknown}
use Rattle.name_rules.specs.declared.scope.Context.{Context}
use Rattle.name_rules.specs.declared.scope.Names.{Names}
use Rattle.name_rules.specs.declared.scope.What.TheVariants as what
use Rattle.name_rules.specs.declared.scope.What.{What}
use Rattle.name_rules.specs.declared.types.Kind.TheVariants as kind
use Rattle.typed_tree.specs.Decoded as part
use Rattle.typed_tree.specs.Syntax as typed
use Rattle.std.specs.Prelude.{None, Option, Some, false, if◌then◌else◌, not, ℕ, ◌&&◌, ◌==◌, ◌||◌}
use Rattle.name_rules.specs.Scope.{bit, expanded_reach, in_ada, in_integer_io, in_package, in_text_io, is_withed, item, lookup, named, object, predefined, reach_of, selected, stands, stands_for, undeclared, used_name}
use Rattle.std.proofs.Common.{arith}
use Rattle.name_scopes.proofs.SpendsFound.{z-denote}
use Rattle.name_scopes.proofs.Measures.{maybe-known, with-part}
use Rattle.name_scopes.proofs.Spends.{Spends, s-fault, s-if, s-le, s-pure, s-some}
use Rattle.name_scopes.proofs.Tallies.{Tally}

pub s-named : (which : Tally) (x0 : KnownDenoted) → Spends which (maybe-known which) 0 (named x0)
s-named which d =
    s-some which (with-part which) _ (denote d part.Nothing) (let made1 = z-denote which d part.Nothing tt in
    (made1.0, omega (arith, made1.1)))

pub s-used_name : (which : Tally) (x0 : ℕ) (x1 : ℕ) (x2 : Reach) → Spends which (maybe-known which) 0 (used_name x0 x1 x2)
s-used_name which token name reach =
    s-if which (maybe-known which) _ (reach.text_io || reach.integer_io) (named (predefined token token name reach)) (fault token NotVisible)
    (s-le which (maybe-known which) _ _ _ (s-named which (predefined token token name reach)) (omega arith))
    (s-fault which (with-part which) _ token NotVisible)

pub s-undeclared : (which : Tally) (x0 : Context) (x1 : ℕ) (x2 : ℕ) → Spends which (maybe-known which) 0 (undeclared x0 x1 x2)
s-undeclared which here token name =
    s-if which (maybe-known which) _ (in_text_io name || in_integer_io name) (used_name token name (reach_of here.used name)) (if name == ada_name then named (denoted.Package token ada_name) else if (name == text_io_name || name == integer_io_name) && here.used.ada then if is_withed here.withed name then named (denoted.Package token name) else fault token NotVisible else fault token Unknown)
    (s-le which (maybe-known which) _ _ _ (s-used_name which token name (reach_of here.used name)) (omega arith))
    (s-if which (maybe-known which) _ (name == ada_name) (named (denoted.Package token ada_name)) (if (name == text_io_name || name == integer_io_name) && here.used.ada then if is_withed here.withed name then named (denoted.Package token name) else fault token NotVisible else fault token Unknown)
    (s-le which (maybe-known which) _ _ _ (s-named which (denoted.Package token ada_name)) (omega arith))
    (s-if which (maybe-known which) _ ((name == text_io_name || name == integer_io_name) && here.used.ada) (if is_withed here.withed name then named (denoted.Package token name) else fault token NotVisible) (fault token Unknown)
    (s-if which (maybe-known which) _ (is_withed here.withed name) (named (denoted.Package token name)) (fault token NotVisible)
    (s-le which (maybe-known which) _ _ _ (s-named which (denoted.Package token name)) (omega arith))
    (s-fault which (with-part which) _ token NotVisible))
    (s-fault which (with-part which) _ token Unknown)))

pub s-stands : (which : Tally) (x0 : Context) (x1 : ℕ) (x2 : ℕ) (x3 : Option What) → Spends which (maybe-known which) 0 (stands x0 x1 x2 x3)
s-stands which here token name None = s-le which (maybe-known which) _ _ _ (s-undeclared which here token name) (omega arith)
s-stands which here token name (Some what.Hidden) = s-fault which (with-part which) _ token NotVisible
s-stands which here token name (Some what.Broken) = s-pure which (maybe-known which) _ None (tt, omega arith)
s-stands which here token name (Some (what.Object n s v z)) = s-le which (maybe-known which) _ _ _ (s-named which (denoted.Value (known.Object (object token n s v z)))) (omega arith)
s-stands which here token name (Some (what.Parameter n s)) =
    s-some which (with-part which) _ (denote (denoted.Parameter token s) (part.AnExpr (typed.Parameter token n))) (let made1 = z-denote which (denoted.Parameter token s) (part.AnExpr (typed.Parameter token n)) tt in
    (made1.0, omega (arith, made1.1)))
s-stands which here token name (Some (what.Item n s v)) = s-le which (maybe-known which) _ _ _ (s-named which (denoted.Value (known.Object (item token n s v)))) (omega arith)
s-stands which here token name (Some (what.Number z)) = s-le which (maybe-known which) _ _ _ (s-named which (denoted.Value (known.Universal token z false))) (omega arith)
s-stands which here token name (Some (what.Boolean b)) = s-le which (maybe-known which) _ _ _ (s-named which (denoted.Value (known.Static token kind.Boolean (bit b)))) (omega arith)
s-stands which here token name (Some (what.Type s)) = s-le which (maybe-known which) _ _ _ (s-named which (denoted.Type token s)) (omega arith)
s-stands which here token name (Some (what.Sub n)) = s-le which (maybe-known which) _ _ _ (s-named which (denoted.Sub token token n)) (omega arith)
s-stands which here token name (Some (what.Exception r)) = s-le which (maybe-known which) _ _ _ (s-named which (denoted.Exception token r)) (omega arith)

pub s-stands_for : (which : Tally) (x0 : Names) (x1 : Context) (x2 : ℕ) → Spends which (maybe-known which) 0 (stands_for x0 x1 x2)
unfolding stands_for
s-stands_for which names here token = s-le which (maybe-known which) _ _ _ (s-stands which here token (symbol names token) (lookup (symbol names token) here.scope)) (omega arith)

pub s-in_ada : (which : Tally) (x0 : Context) (x1 : ℕ) (x2 : ℕ) (x3 : ℕ) → Spends which (maybe-known which) 0 (in_ada x0 x1 x2 x3)
s-in_ada which here first token name =
    s-if which (maybe-known which) _ (not (name == text_io_name || name == integer_io_name)) (fault token Unknown) (if is_withed here.withed name then named (denoted.Package first name) else fault first NotVisible)
    (s-fault which (with-part which) _ token Unknown)
    (s-if which (maybe-known which) _ (is_withed here.withed name) (named (denoted.Package first name)) (fault first NotVisible)
    (s-le which (maybe-known which) _ _ _ (s-named which (denoted.Package first name)) (omega arith))
    (s-fault which (with-part which) _ first NotVisible))

pub s-selected : (which : Tally) (x0 : Names) (x1 : Context) (x2 : ℕ) (x3 : ℕ) (x4 : ℕ) → Spends which (maybe-known which) 0 (selected x0 x1 x2 x3 x4)
unfolding selected
s-selected which names here first library token =
    s-if which (maybe-known which) _ (library == ada_name) (in_ada here first token (symbol names token)) (if in_package library (symbol names token) then named (predefined first token (symbol names token) (expanded_reach library)) else fault token Unknown)
    (s-le which (maybe-known which) _ _ _ (s-in_ada which here first token (symbol names token)) (omega arith))
    (s-if which (maybe-known which) _ (in_package library (symbol names token)) (named (predefined first token (symbol names token) (expanded_reach library))) (fault token Unknown)
    (s-le which (maybe-known which) _ _ _ (s-named which (predefined first token (symbol names token) (expanded_reach library))) (omega arith))
    (s-fault which (with-part which) _ token Unknown))
