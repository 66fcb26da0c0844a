-- Values of modular types as numbers.
use Rattle.std.proofs.Common.{◌≡◌, ℕ, ℤ, pos, Option, Some, None, Bool, true, false, is_some, FitsSigned, w64, sym, ◌∙◌, true≢false}
use Rattle.ada_base.specs.Operation.{digits}
use Rattle.ada_base.proofs.Turning.{number_of}
use Rattle.typed_tree.specs.declared.scalars.Class.{Class}
use Rattle.ada_meaning.specs.Values.{is_modular, modular_digits, number_by, number_in}

by_digits : (o : Option ℕ) (z : ℤ) → is_some o ≡ true → FitsSigned w64 z → pos (digits z) ≡ number_by o z
by_digits None z e f = absurd (true≢false (sym e))
by_digits (Some k) z e f = number_of z f

pub number_there : (c : Class) (z : ℤ) → is_modular c ≡ true → FitsSigned w64 z → pos (digits z) ≡ number_in c z
number_there c z e f = by_digits (modular_digits c) z e f
