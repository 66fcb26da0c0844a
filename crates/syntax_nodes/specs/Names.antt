-- When a part is a name or an identifier.
use Rattle.std.specs.Prelude.{◌≡◌, ℕ, Bool, true, false, Option, Some, None, List, Result, Ok, Err}
use Rattle.syntax_tree.specs.Syntax.{Name}
use Rattle.syntax_tree.specs.Joining.{bare_name, bare_identifier, expr_identifier}
use Rattle.syntax_readers.specs.declared.failure.Failure.{Failure}
use Rattle.syntax_readers.specs.declared.failure.Failure.TheVariants as failure
use Rattle.syntax_nodes.specs.Parts.{TreePart, the_name, the_simple, the_expr, IsName}
use Rattle.syntax_nodes.specs.Rooted.{top, pop}

-- the identifier that a part is, as a sum and as an expression
abbrev pub IsIdentifier : TreePart → Option ℕ → Type 0
IsIdentifier p o = (o ≡ bare_identifier (the_simple p)) × (o ≡ expr_identifier (the_expr p))

-- the number of the name that a part is, if it is one
abbrev pub IsNameOf : (ℕ → TreePart) → Option Name → Option ℕ → Type 0
IsNameOf at named None = named ≡ None
IsNameOf at named (Some number) = (named ≡ Some (the_name (at number))) × IsName (at number)

-- the latest part was a sum: where that is a name, the name is now the latest part
abbrev pub TakesName : Result Bool Failure → List TreePart → List TreePart → Type 0
TakesName (Ok true) now before = (pop now ≡ pop before) × (bare_name (the_simple (top before)) ≡ Some (the_name (top now))) × IsName (top now)
TakesName (Ok false) now before = bare_name (the_simple (top before)) ≡ None
TakesName (Err failure.OutOfMemory) now before = Unit {0}
TakesName (Err _) now before = ⊥
