-- Reading of a typed program's tables.
use Rattle.std.proofs.Common.{◌≡◌, ℕ, zero, suc, List, [], ◌∷◌, Option, Some, None, Bool, false, slice_get, refl, sym, ap, ◌∙◌}
use Rattle.std.specs.Prelude.{option_map}
use Rattle.typed_tree.specs.Syntax.{Expr, Sub, Present}
use Rattle.typed_tree.specs.declared.typed.Typed.{Typed}
use Rattle.typed_tree.specs.declared.program.Sub as tree-sub
use Rattle.typed_tree.specs.Programs.{program, sub_of}
use Rattle.typed_tree.specs.Decoded.{TypedPart, as_expr, as_optional, AnExpr}
use Rattle.ada_meaning.specs.Nonblocking.{nonblocking_of}
use Rattle.check_calls.specs.Words.{rule_of}

abbrev of_found : Option Sub → Bool
of_found None = false
of_found (Some sub) = sub.nonblocking

nonblocking_at : (subs : List Sub) (s : ℕ) → nonblocking_of subs s ≡ of_found (slice_get subs s)
nonblocking_at [] s = refl
nonblocking_at (sub ∷ subs) zero = refl
nonblocking_at (sub ∷ subs) (suc s) = nonblocking_at subs s

pub rule_none : (t : Typed) (s : ℕ) → slice_get (program t).subs s ≡ option_map (sub_of t.nodes) None → false ≡ rule_of t s
unfolding rule_of
rule_none t s e = sym (nonblocking_at (program t).subs s ∙ ap of_found e)

pub rule_some : (t : Typed) (s : ℕ) (sub : tree-sub.Sub) → slice_get (program t).subs s ≡ option_map (sub_of t.nodes) (Some sub) → sub.nonblocking ≡ rule_of t s
unfolding rule_of
rule_some t s sub e = sym (nonblocking_at (program t).subs s ∙ ap of_found e)

-- an expression that is there
pub present_is : (p : TypedPart) (e : Expr) → as_optional p ≡ Present e → as_expr p ≡ e
present_is (AnExpr x) e h = cc
present_is _ e h = cc
