-- The typed programs that the rules of names make are in scope (3.6, 3.8, 4.3, 5.2, 6.4.1, 8.2, 8.3).
use Rattle.std.specs.Prelude.{◌≡◌, ℕ, Some, Bool}
use Rattle.behaviours.specs.Paths.{Entity}
use Rattle.syntax_tree.specs.Syntax.{Program}
use Rattle.typed_scopes.specs.Named.{IsNamed}
use Rattle.typed_scopes.specs.Scopes.{IsScoped}
use Rattle.typed_tree.specs.Syntax as typed
use Rattle.name_rules.specs.Resolved.{TypedOf}
use Rattle.name_rules.specs.declared.scope.Names.{Names}

-- In the typed program of each text without a fault all that is named is in scope, where each subprogram sees the objects of the
-- main procedure that are declared before it.
abbrev pub ScopedProgramsLaw : Type 0
ScopedProgramsLaw = (names : Names) (text : Program) (program : typed.Program) → TypedOf names text ≡ Some program → (shown : ℕ → Entity → Bool) × IsScoped program shown

-- All of that is so: no exit leaves a body, no array is empty, each object is declared once, and parallel constructs have numbers
-- of their own, from the outside in.
abbrev pub NamedProgramsLaw : Type 0
NamedProgramsLaw = (names : Names) (text : Program) (program : typed.Program) → TypedOf names text ≡ Some program → (shown : ℕ → Entity → Bool) × IsNamed program shown
