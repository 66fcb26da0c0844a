-- Steps through the subprograms.
use Rattle.std.proofs.Common.{◌≡◌, ◌+◌, ℕ, List, drop, ap}
use Rattle.std.specs.Prelude.{slice_get, Some, None}
use Rattle.typed_tree.specs.Syntax.{Program, Sub}
use Rattle.lower_emission.specs.declared.types.Placed.{Placed}
use Rattle.lower_emission.specs.Emits.{written}
use Rattle.lower_emission.specs.Scope.{Scope}
use Rattle.lower_emission.specs.Bodies.{subs_code, sub_code, sub_scope}
use Rattle.lower_code.proofs.Texts.{drop_at, none_past}

pub subs_step : (program : Program) (t : Scope) (k : ℕ) (unit : Sub) (c : List Placed) → slice_get program.subs k ≡ Some unit →
    written (subs_code program t k (drop k program.subs)) c ≡ written (subs_code program t (k + 1) (drop (k + 1) program.subs)) (written (sub_code program (sub_scope program t k unit) unit) c)
subs_step program t k unit c e = ap (λ l. written (subs_code program t k l) c) (drop_at program.subs k unit e)

pub subs_end : (program : Program) (t : Scope) (k : ℕ) (c : List Placed) → slice_get program.subs k ≡ None → written (subs_code program t k (drop k program.subs)) c ≡ c
subs_end program t k c e = ap (λ l. written (subs_code program t k l) c) (none_past program.subs k e)
