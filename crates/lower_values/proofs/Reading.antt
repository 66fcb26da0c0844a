-- Steps of loops over what is emitted.
use Rattle.std.proofs.Common.{◌≡◌, ◌<◌, ◌≤◌, ◌-◌, ◌+◌, ◌*◌, ℕ, zero, suc, List, arith, refl}
use Rattle.std.specs.Prelude.{min}
use Rattle.std.proofs.lemmas.Bool.{lt-ltb, le-ltb}
use Rattle.lower_emission.specs.declared.types.Placed.{Placed}
use Rattle.lower_emission.specs.Emits.{Emit, written}
use Rattle.lower_emission.specs.Emission.{filling, doubled}
use Rattle.lower_emission.specs.Scope.{Scope, one, ◌⨟◌}
use Rattle.stack_code.specs.declared.instr.Instr.TheVariants as i
use Rattle.typed_tree.specs.Syntax.{Expr, Present}
use Rattle.typed_tree.specs.Decoded.{TypedPart, as_expr, as_optional, AnExpr}

pub present_is : (p : TypedPart) (e : Expr) → as_optional p ≡ Present e → as_expr p ≡ e
present_is (AnExpr x) e h = cc
present_is _ e h = cc

less : (n : ℕ) → suc n - 1 ≡ n
less n = omega arith

pub filling_step : (value : ℕ → Emit) (n first stride : ℕ) (c : List Placed) → 0 < n →
    written (filling value n first stride) c ≡ written (filling value (n - 1) (first + stride) stride) (written (value first) c)
filling_step value zero first stride c p = grind (arith, p)
filling_step value (suc n) first stride c p = simp (less) refl

pub doubled_step : (s : Scope) (h first size left done count : ℕ) (c : List Placed) → 0 < left → done < count →
    written (doubled s h first size left done count) c ≡ written (doubled s h first size (left - 1) (done + min done (count - done)) count)
    (written (one s h (i.Local (first + done * size)) ⨟ one s (h + 1) (i.Local first) ⨟ one s (h + 1 + 1) (i.Copy (min done (count - done) * size))) c)
doubled_step s h first size zero done count c p q = grind (arith, p)
doubled_step s h first size (suc n) done count c p q = simp (lt-ltb done count q, less) refl

pub doubled_end : (s : Scope) (h first size left done count : ℕ) (c : List Placed) → (0 < left → count ≤ done) →
    written (doubled s h first size left done count) c ≡ c
doubled_end s h first size zero done count c p = refl
doubled_end s h first size (suc n) done count c p = let q : count ≤ done = p (omega arith) in simp (le-ltb done count q) refl
