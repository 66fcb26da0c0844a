-- Expressions and selections, as the functions that find what they give and lead to.
use Rattle.std.proofs.Common.{◌≡◌, List, ℕ, ℤ, Option, Some, sym, subst}
use Rattle.typed_tree.specs.declared.expressions.Sign.{Sign}
use Rattle.typed_tree.specs.declared.scalars.Class.{Class}
use Rattle.typed_tree.specs.Syntax.{Expr, Unary, Selections, Whole}
use Rattle.ada_meaning.specs.Meaning as meaning
use Rattle.ada_meaning.specs.Meaning.{Env}
use Rattle.ada_meaning.specs.Stored.{Stored, bind, ret}
use Rattle.run_outside.specs.Outside.{Outside}
use Rattle.run_store.specs.Shows.{Image, facing}
use Rattle.run_parts.specs.declared.work.Work.{Work}
use Rattle.run_walk.specs.Walk as walk
use Rattle.run_walk.specs.Quick.{Gives, GivesAs, SameAs}

module _ (Tells : List ℕ → Outside → Type 0) (w : Work) (d : ℕ) (env : Env) (s : Image) where
  pub unary_quick : (at : ℕ) (sign : Sign) (class : Class) (operand e : Expr) (r : Option ℤ) → Gives Tells (walk.unary_of w d sign at class operand env) s r → e ≡ Unary at sign class operand → Gives Tells (walk.eval w d e env) s r
  unfolding bind ret walk.eval
  unary_quick at sign class operand e r h is = subst (λ z. Gives Tells (walk.eval w d z env) s r) (sym is) h

  -- no selection is left
  pub places_end : {C : Type 0} (f : C → meaning.ObjectPart) (whole : Stored meaning.ObjectPart) (ss : Selections) (c : C) → SameAs Tells whole (walk.select w d ss env (f c)) s → ss ≡ Whole → GivesAs f Tells whole s (Some c)
  unfolding ret walk.select
  places_end f whole ss c h is = λ x told. subst (λ z. whole.does (facing x s.state) ≡ (walk.select w d z env (f c)).does (facing x s.state)) is (h x told)
