-- A value that a check lets pass.
use Rattle.std.proofs.Common.{◌≡◌, ℕ, ℤ, List, Option, Some, None, Ok, Bool, true, false, cond, refl, subst}
use Rattle.ada_base.specs.declared.operation.Base.{Base}
use Rattle.ada_base.specs.Operation.{within, is_in_base}
use Rattle.ada_meaning.specs.Operations.{CheckKind}
use Rattle.ada_meaning.specs.Stored.{checks, bind, ret}
use Rattle.run_outside.specs.Outside.{Outside}
use Rattle.run_store.specs.Shows.{Image, Shows}
use Rattle.run_store.proofs.Going.{stays}

pub checked_shows : {Tells : List ℕ → Outside → Type 0} (kind : CheckKind) (token : ℕ) (base : Base) (z other : ℤ) (s : Image) → within base (Some z) ≡ Some other → Shows Tells (bind (checks kind token (is_in_base base z)) (λ _. ret z)) (Ok other) s s
unfolding bind ret
checked_shows {Tells = Tells} kind token base z other s e = go (is_in_base base z) e
  where
    go : (b : Bool) → cond b (Some z) None ≡ Some other → Shows Tells (bind (checks kind token b) (λ _. ret z)) (Ok other) s s
    go true e = let q : z ≡ other = cc in subst (λ x. Shows Tells (bind (checks kind token true) (λ _. ret z)) (Ok x) s s) q (refl, stays, λ w told. refl)
    go false e = cc
