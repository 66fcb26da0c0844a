-- Paths, as the functions that follow them.
use Rattle.std.proofs.Common.{◌≡◌, ◌∙◌, ℕ, ℤ, List, Option, Some, None, IfSome, Ok, sym, subst}
use Rattle.typed_tree.specs.Decoded.{selections_at}
use Rattle.typed_tree.specs.Syntax.{Selections, Whole}
use Rattle.behaviours.specs.Paths.{Entity}
use Rattle.ada_meaning.specs.Meaning as meaning
use Rattle.ada_meaning.specs.Meaning.{Env}
use Rattle.ada_meaning.specs.Stored.{State, at, next, bind, ret, reads}
use Rattle.run_outside.specs.Outside.{Outside}
use Rattle.run_store.specs.Shows.{Image, Gives, facing}
use Rattle.run_values.specs.Values.{ComesTo}
use Rattle.run_parts.specs.Paths.{index_by, path_at}
use Rattle.run_parts.specs.Words.{nodes_of}
use Rattle.run_parts.specs.declared.paths.ParameterIndex.{ParameterIndex}
use Rattle.run_parts.specs.declared.paths.Path.TheVariants as path
use Rattle.run_parts.specs.declared.work.Work.{Work}
use Rattle.run_walk.specs.Quick.{at_offset}
use Rattle.run_walk.specs.Walk as walk

module _ (w : Work) (env : Env) where
  -- an index leads from a place to one inside it
  abbrev pub Leads : ParameterIndex → ℕ → ℕ → Type 0
  Leads i outer inner = (calls object : ℕ) (rest : Selections) (s : State) → (walk.select w calls (index_by i rest) env (at_offset object outer)).does s ≡ (walk.select w calls rest env (at_offset object inner)).does s

  abbrev pub Ends : ℕ → ℕ → ℕ → Type 0
  Ends id outer inner = (calls object : ℕ) → ComesTo (walk.select w calls (selections_at (nodes_of w) id) env (at_offset object outer)) (at_offset object inner)

  pub follows_one : (id outer : ℕ) (i : ParameterIndex) (r : Option ℕ) → path_at w.paths.now id ≡ Some (path.One i) → IfSome r (λ inner. Leads i outer inner) → IfSome r (λ inner. Ends id outer inner)
  unfolding ret walk.select
  follows_one id outer i None is h = h
  follows_one id outer i (Some inner) is h = λ calls object s. subst (λ z. (walk.select w calls z env (at_offset object outer)).does s ≡ at s (Ok (at_offset object inner))) (sym (w.are_of id (path.One i) is)) (h calls object Whole s)

  pub follows_two : (id outer between : ℕ) (i j : ParameterIndex) (r : Option ℕ) → path_at w.paths.now id ≡ Some (path.Two i j) → Leads i outer between → IfSome r (λ inner. Leads j between inner) → IfSome r (λ inner. Ends id outer inner)
  unfolding ret walk.select
  follows_two id outer between i j None is g h = h
  follows_two id outer between i j (Some inner) is g h = λ calls object s. subst (λ z. (walk.select w calls z env (at_offset object outer)).does s ≡ at s (Ok (at_offset object inner))) (sym (w.are_of id (path.Two i j) is)) (g calls object (index_by j Whole) s ∙ h calls object Whole s)

  -- what the cell gives to which selections lead from a part
  pub gives_there : (Tells : List ℕ → Outside → Type 0) (s : Image) (here : ℕ → Entity) (calls id object outer inner : ℕ) (p : meaning.ObjectPart) (r : Option ℤ) → at_offset object outer ≡ p → Ends id outer inner → Gives Tells (reads (here object) inner) s r → Gives Tells (bind (walk.select w calls (selections_at (nodes_of w) id) env p) (λ q. reads (here q.object) q.offset)) s r
  unfolding bind
  gives_there Tells s here calls id object outer inner p r is e h = subst (λ p. Gives Tells (bind (walk.select w calls (selections_at (nodes_of w) id) env p) (λ q. reads (here q.object) q.offset)) s r) is (given r h)
    where
      given : (r : Option ℤ) → Gives Tells (reads (here object) inner) s r → Gives Tells (bind (walk.select w calls (selections_at (nodes_of w) id) env (at_offset object outer)) (λ q. reads (here q.object) q.offset)) s r
      given None h = h
      given (Some v) h = λ x told. subst (λ z. next z.state z.end (λ q. reads (here q.object) q.offset) ≡ at (facing x s.state) (Ok v)) (sym (e calls object (facing x s.state))) (h x told)
