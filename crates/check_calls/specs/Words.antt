-- Words for what the functions of the walk find.
use Rattle.std.specs.Prelude.{◌<◌, ◌≤◌, ℕ, suc, Bool, false, Option, Some, None, IfSome}
use Rattle.typed_tree.specs.declared.typed.Typed.{Typed}
use Rattle.typed_tree.specs.Decoded.{expr_at, composite_at, stmt_at}
use Rattle.typed_tree.specs.Programs.{program}
use Rattle.ada_meaning.specs.Nonblocking.{nonblocking_of}
use Rattle.check_calls.specs.First.{first_expr, first_composite, first_stmt}
use Rattle.check_calls.specs.declared.calls.Breach.{Breach}

-- which subprograms are nonblocking
unfoldable pub rule_of : Typed → ℕ → Bool
rule_of t = nonblocking_of (program t).subs

-- whether calls that may block are allowed inside a reduction
abbrev pub inside : Bool → Option ℕ → Bool
inside b None = b
inside b (Some site) = false

module _ (t : Typed) (b : Bool) (found : Option Breach) where
  -- what is found of a part of which the rest is still to be gone through
  abbrev pub expr_left : Option ℕ → Option Breach
  expr_left None = found
  expr_left (Some k) = first_expr (rule_of t) (expr_at t.nodes k) b found

  abbrev pub composite_left : Option ℕ → Option Breach
  composite_left None = found
  composite_left (Some k) = first_composite (rule_of t) (composite_at t.nodes k) b found

  abbrev pub stmt_left : Option ℕ → Option Breach
  stmt_left None = found
  stmt_left (Some k) = first_stmt (rule_of t) (stmt_at t.nodes k) b found

-- the rest stands before a number
abbrev pub IsBelow : ℕ → Option ℕ → Type 0
IsBelow id rest = IfSome rest (λ k. k < id)

-- the rest stands at a number or before it
abbrev pub IsWithin : ℕ → Option ℕ → Type 0
IsWithin id rest = IfSome rest (λ k. k ≤ id)

-- how far a loop over rests may still go
abbrev pub rest_size : Option ℕ → ℕ
rest_size None = 0
rest_size (Some k) = suc k
