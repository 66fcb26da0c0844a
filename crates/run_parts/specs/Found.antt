-- The statements that a reason or a value leads to.
use Rattle.std.specs.Prelude.{ℤ, Option, Some, None, ◌||◌, cond}
use Rattle.ada_base.specs.declared.reason.Reason.{Reason}
use Rattle.typed_tree.specs.Syntax.{Stmts, Handlers, NoHandler, Handler, Alternatives, NoAlternative, Alternative}
use Rattle.ada_meaning.specs.Values.{handles_reason, is_chosen}

-- those of the first handler of a reason
abbrev pub found_handler : Handlers → Reason → Option Stmts
found_handler NoHandler r = None
found_handler (Handler handled stmts rest) r = cond (handles_reason handled r) (Some stmts) (found_handler rest r)

-- those of the first alternative of a value
abbrev pub found_alternative : Alternatives → ℤ → Option Stmts
found_alternative NoAlternative v = None
found_alternative (Alternative others choices mentions stmts rest) v = cond (others || is_chosen choices v) (Some stmts) (found_alternative rest v)
