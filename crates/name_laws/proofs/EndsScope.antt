-- What names denote is right: what Scope finds.
use Rattle.name_rules.specs.Found.{denote}
use Rattle.name_rules.specs.Symbols.{ada_name, integer_io_name, symbol, text_io_name}
use Rattle.name_rules.specs.declared.found.Denoted.TheVariants as denoted
use Rattle.name_rules.specs.declared.log.Rule.TheVariants.{NotVisible, Unknown}
use Rattle.name_rules.specs.declared.scope.Context.{Context}
use Rattle.name_rules.specs.declared.scope.Names.{Names}
use Rattle.typed_tree.specs.Decoded as part
use Rattle.std.specs.Prelude.{if◌then◌else◌, not, ℕ, ◌==◌, ◌||◌}
use Rattle.name_rules.specs.Judging.{fault}
use Rattle.name_rules.specs.Scope.{named, predefined, is_withed, in_package, expanded_reach, in_ada, selected}
use Rattle.name_laws.proofs.CellsDeclared.{Ends, e-fault, e-if, e-predefined, e-some}

pub e-in_ada : (m0 : ℕ) (x0 : Context) (x1 : ℕ) (x2 : ℕ) (x3 : ℕ) → Ends m0 (in_ada x0 x1 x2 x3)
e-in_ada m0 here first token name = e-if m0 (not (name == text_io_name || name == integer_io_name)) (fault token Unknown) (if is_withed here.withed name then named (denoted.Package first name) else fault first NotVisible) (e-fault m0 token Unknown) (e-if m0 (is_withed here.withed name) (named (denoted.Package first name)) (fault first NotVisible) (e-some m0 (denote (denoted.Package first name) part.Nothing) tt) (e-fault m0 first NotVisible))

pub e-selected : (m0 : ℕ) (x0 : Names) (x1 : Context) (x2 : ℕ) (x3 : ℕ) (x4 : ℕ) → Ends m0 (selected x0 x1 x2 x3 x4)
unfolding selected
e-selected m0 names here first library token = e-if m0 (library == ada_name) (in_ada here first token (symbol names token)) (if in_package library (symbol names token) then named (predefined first token (symbol names token) (expanded_reach library)) else fault token Unknown) (e-in_ada m0 here first token (symbol names token)) (e-if m0 (in_package library (symbol names token)) (named (predefined first token (symbol names token) (expanded_reach library))) (fault token Unknown) (e-predefined m0 first token (symbol names token) (expanded_reach library)) (e-fault m0 token Unknown))
