-- Profiles of subprograms that may be called.
use Rattle.std.proofs.Common.{◌≡◌, refl, sym, ap, subst, ◌∙◌, ℕ, ◌<◌, [], length, map, slice_get, Option, Some, None, option_map, arith}
use Rattle.std.proofs.lemmas.Option.{slice_get-get_or}
use Rattle.name_flow.specs.Order.{AreIn}
use Rattle.name_rules.specs.Calls.{profile_in}
use Rattle.name_rules.specs.Judging.{read}
use Rattle.name_rules.specs.Programs.{typed_formal}
use Rattle.name_rules.specs.Types.{typed_scalar}
use Rattle.name_rules.specs.declared.log.Profile.{Profile}
use Rattle.name_scopes.proofs.Sees.{Sees, Sight, World}

-- the profile that was written of a number
abbrev pub ProfileOf : World → Sight → ℕ → Option Profile → Type 0
ProfileOf W V n None = ⊥
ProfileOf W V n (Some p) = slice_get W.profiles n ≡ Some p

some-profile : (W : World) (V : Sight) (n : ℕ) (x : Option Profile) → slice_get W.profiles n ≡ x → n < length W.profiles → ProfileOf W V n x
some-profile W V n (Some p) e l = e
some-profile W V n None e l = no (sym e ∙ slice_get-get_or W.profiles n (record { takes = []; gives = None }) l)
  where
    no : {A : Type 0} {x : A} → ◌≡◌ {A = Option A} None (Some x) → ⊥
    no e = cc

pub v-profile : (W : World) (V : Sight) (n : ℕ) → n < V.bound → Sees W V (ProfileOf W V n) (read (λ log. profile_in log n))
v-profile W V n l = record {
  at = λ log h k. (h, k.0, subst (ProfileOf W V n) (sym (ap (λ ps. slice_get ps n) k.0)) (some-profile W V n (slice_get W.profiles n) refl (omega (arith, l, k.1))));
}

-- the formal parameters of a function are of mode `in`
pub called-modes : (W : World) (n : ℕ) (p : Profile) → slice_get W.profiles n ≡ Some p → AreIn (option_map typed_scalar p.gives) (map typed_formal p.takes)
called-modes W n p e =
    let u = W.units n p e in
    subst (λ r. AreIn r (map typed_formal p.takes)) u.result (subst (AreIn u.unit.result) u.formals u.modes)
