-- A value that a check lets pass.
use Rattle.std.proofs.Common.{◌≡◌, ℕ, ℤ, Option, Some, None, IfSome, Bool, true, false, cond, refl, sym, subst}
use Rattle.ada_base.specs.declared.operation.Base.{Base}
use Rattle.ada_base.specs.Operation.{within, is_in_base}
use Rattle.ada_meaning.specs.Operations.{CheckKind}
use Rattle.ada_meaning.specs.Stored.{checks, bind, ret}
use Rattle.run_values.specs.Values.{ComesTo}

-- whatever the token, where it passes
pub checked_comes : (kind : CheckKind) (base : Base) (z : ℤ) (r : Option ℤ) → r ≡ within base (Some z) → IfSome r (λ v. (token : ℕ) → ComesTo (bind (checks kind token (is_in_base base z)) (λ _. ret z)) v)
unfolding bind ret
checked_comes kind base z r e = subst (λ x. IfSome x (λ v. (token : ℕ) → ComesTo (bind (checks kind token (is_in_base base z)) (λ _. ret z)) v)) (sym e) (go (is_in_base base z))
  where
    go : (b : Bool) → IfSome (cond b (Some z) None) (λ v. (token : ℕ) → ComesTo (bind (checks kind token b) (λ _. ret z)) v)
    go true = λ token s. refl
    go false = tt
