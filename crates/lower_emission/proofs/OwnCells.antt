-- The code of a value that lies in a cell of the own frame.
use Rattle.std.proofs.Common.{◌≡◌, ℕ, Option, Some, None, Bool, true, false, cond, ap}
use Rattle.std.proofs.lemmas.Option.{none-some}
use Rattle.ada_meaning.proofs.Cells.{some_same}
use Rattle.typed_tree.specs.Syntax.{Expr, Variable, Constant, Parameter, Whole, Program}
use Rattle.stack_code.specs.declared.instr.Instr.TheVariants as i
use Rattle.lower_emission.specs.declared.types.Where.{Where}
use Rattle.lower_emission.specs.declared.types.Named.{Named}
use Rattle.lower_emission.specs.declared.types.Level.{Level}
use Rattle.lower_emission.specs.declared.types.Level.TheVariants.{Own, Around, Main}
use Rattle.lower_emission.specs.Emits.{Emit}
use Rattle.lower_emission.specs.Scope.{Scope, constant_root_of, load_at, one, root_of}
use Rattle.lower_emission.specs.Emission.{load_by, load_named, load_where, own_cell, own_level, own_named, own_where}
unfoldable use Rattle.lower_emission.specs.Emission.{emit}

level_own : (s : Scope) (h : ℕ) (l : Level) (m n : ℕ) → own_level l m ≡ Some n → ◌≡◌ {A = Emit} (one s h (load_at l m)) (one s h (i.LoadL n))
level_own s h Own m n e = ap (λ m. one s h (i.LoadL m)) (some_same m n e)
level_own s h (Around k) m n e = absurd (none-some n e)
level_own s h Main m n e = absurd (none-some n e)

where_own : (s : Scope) (h : ℕ) (o : Option Where) (n : ℕ) → own_where o ≡ Some n → ◌≡◌ {A = Emit} (load_where s h o) (one s h (i.LoadL n))
where_own s h None n e = absurd (none-some n e)
where_own s h (Some w) n e = level_own s h w.level w.cell n e

by_own : (s : Scope) (h : ℕ) (t : Bool) (w : Where) (n : ℕ) → cond t None (own_level w.level w.cell) ≡ Some n → ◌≡◌ {A = Emit} (load_by t s h w) (one s h (i.LoadL n))
by_own s h true w n e = absurd (none-some n e)
by_own s h false w n e = level_own s h w.level w.cell n e

named_own : (s : Scope) (h : ℕ) (o : Option Named) (n : ℕ) → own_named o ≡ Some n → ◌≡◌ {A = Emit} (load_named s h o) (one s h (i.LoadL n))
named_own s h None n e = absurd (none-some n e)
named_own s h (Some m) n e = by_own s h m.through m.place n e

-- it is one instruction
pub emit_own : (program : Program) (s : Scope) (h : ℕ) (e : Expr) (n : ℕ) → own_cell s e ≡ Some n → ◌≡◌ {A = Emit} (emit program s h e) (one s h (i.LoadL n))
unfolding emit
emit_own program s h (Variable at r Whole scalar) n e = named_own s h (root_of s r) n e
emit_own program s h (Constant at r Whole scalar) n e = named_own s h (constant_root_of s r) n e
emit_own program s h (Parameter at k) n e = where_own s h (s.parameter k) n e
emit_own program s h x n e = absurd (none-some n e)
