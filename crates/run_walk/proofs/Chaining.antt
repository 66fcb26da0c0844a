-- Chains of operators: the operators that are left, the one that is applied first last.
use Rattle.std.proofs.Common.{◌≡◌, ◌<◌, ℕ, ℤ, List, [], ◌∷◌, ◌++◌, refl, sym, subst, ap, ◌∙◌, inl, inr}
use Rattle.std.specs.Prelude.{Result, Ok, Err}
use Rattle.typed_tree.specs.declared.node.Link.{Link}
use Rattle.typed_tree.specs.declared.node.Link.TheVariants as link
use Rattle.typed_tree.specs.Syntax.{Expr}
use Rattle.ada_base.specs.declared.operation.Op.{Op}
use Rattle.typed_tree.specs.declared.scalars.Class.{Class}
use Rattle.typed_tree.specs.Decoded.{part_at, expr_at}
use Rattle.ada_meaning.specs.Operations.{operate}
use Rattle.typed_tree.specs.Chained.{linked, right_of, AreBelow}
use Rattle.ada_meaning.specs.Meaning.{Env}
use Rattle.ada_meaning.specs.Stored.{Stored, After, Outage, Stops, State, next, next_halts, bind, doings, checks}
use Rattle.run_values.specs.declared.ends.End.{End}
use Rattle.run_outside.specs.Outside.{Outside}
use Rattle.run_store.specs.Shows.{outside_of}
use Rattle.run_store.specs.Shows.{Image, facing, Goes, Shows}
use Rattle.run_store.proofs.Going.{also, goes_refl, goes_then, goes_ends, goes_shows, then_shows}
use Rattle.run_parts.specs.declared.work.Work.{Work}
use Rattle.run_parts.specs.Words.{nodes_of}
use Rattle.run_walk.specs.Walk as walk

module _ {Tells : List ℕ → Outside → Type 0} where
  -- the first of two parts goes on
  pub goes_within : {A B : Type 0} (m n : Stored A) (k : A → Stored B) (s t : Image) → Goes Tells m s n t → Goes Tells (bind m k) s (bind n k) t
  unfolding bind
  goes_within m n k s t g = record {
    faults = g.faults;
    keeps = g.keeps;
    same = λ input told. ap (λ (z : After _). next z.state z.end k) (g.same input told);
    stops = λ input told f u h. stopped input told f u h;
  }
    where
      stopped : (input : List ℕ) → Tells input (outside_of t) → (f : Outage) (u : State) → Stops (bind n k) (facing input t.state) f u → Stops (bind m k) (facing input s.state) f u
      stopped input told f u (inl h) = inr (inl (g.stops input told f u (inl h)))
      stopped input told f u (inr (inl h)) = inr (inl (g.stops input told f u h))
      stopped input told f u (inr (inr h)) = inr (inr (subst (λ (z : After _). next_halts z.state z.end k f u) (sym (g.same input told)) h))

module _ (w : Work) (d : ℕ) (env : Env) where
  -- an expression whose operators stand in a list is these operators over its first operand
  pub chain_as : (ls : List Link) (e : Expr) → walk.eval w d (linked (part_at (nodes_of w)) ls e) env ≡ walk.linked_on w d ls env (walk.eval w d e env)
  unfolding walk.eval
  chain_as [] e = refl
  chain_as (link.Operator n op class right ∷ ls) e = ap (λ m. bind m (λ x. walk.operator w d (link.Operator n op class right) env x)) (chain_as ls e)
  chain_as (link.AndThen right ∷ ls) e = ap (λ m. bind m (λ x. walk.operator w d (link.AndThen right) env x)) (chain_as ls e)
  chain_as (link.OrElse right ∷ ls) e = ap (λ m. bind m (λ x. walk.operator w d (link.OrElse right) env x)) (chain_as ls e)

module _ {Tells : List ℕ → Outside → Type 0} (w : Work) (d : ℕ) (env : Env) where
  -- an operator, after its right operand
  pub operated : (at : ℕ) (op : Op) (class : Class) (right : ℕ) (l : Link) (x x' y y' : ℤ) (s t : Image) (r : Result ℤ End) → l ≡ link.Operator at op class right → Shows Tells (walk.eval w d (expr_at (nodes_of w) right) env) (Ok y) s t → Shows Tells (operate doings checks op at class x' y') r t t → x' ≡ x → y' ≡ y
      → Shows Tells (walk.operator w d l env x) r s t
  operated at op class right l x x' y y' s t r is h k p q =
      subst (λ z. Shows Tells (walk.operator w d z env x) r s t) (sym is)
      (then_shows (λ a. a) (λ a. a) (walk.eval w d (expr_at (nodes_of w) right) env) (λ y. operate doings checks op at class x y) s t t y r h
      (subst (λ z. Shows Tells (operate doings checks op at class x z) r t t) q (subst (λ z. Shows Tells (operate doings checks op at class z y') r t t) p k)))

  -- with a value of what is applied first, where operators are left
  pub chain_begins : (l : Link) (ls : List Link) (m : Stored ℤ) (s t : Image) (v : ℤ) → Shows Tells m (Ok v) s t → Goes Tells (walk.linked_on w d (l ∷ ls) env m) s (walk.chain_left w d (l ∷ ls) env v) t
  chain_begins l [] m s t v h = goes_then (λ a. a) (λ a. a) (bind m (λ x. walk.operator w d l env x)) m (λ x. walk.operator w d l env x) s s t v (goes_refl _ s) h
  chain_begins l (k ∷ ls) m s t v h = goes_within (walk.linked_on w d (k ∷ ls) env m) (walk.chain_left w d (k ∷ ls) env v) (λ x. walk.operator w d l env x) s t (chain_begins k ls m s t v h)

  -- one operator less
  pub chain_step : (l : Link) (ls : List Link) (last : Link) (s t : Image) (v x : ℤ) → Shows Tells (walk.operator w d last env v) (Ok x) s t → Goes Tells (walk.chain_left w d (l ∷ ls ++ last ∷ []) env v) s (walk.chain_left w d (l ∷ ls) env x) t
  chain_step l [] last s t v x h = goes_then (λ a. a) (λ a. a) (bind (walk.operator w d last env v) (λ x. walk.operator w d l env x)) (walk.operator w d last env v) (λ x. walk.operator w d l env x) s s t x (goes_refl _ s) h
  chain_step l (k ∷ ls) last s t v x h = goes_within (walk.chain_left w d (k ∷ ls ++ last ∷ []) env v) (walk.chain_left w d (k ∷ ls) env x) (λ x. walk.operator w d l env x) s t (chain_step k ls last s t v x h)

  -- an operator that gives no value ends the chain
  pub chain_ends : (ls : List Link) (last : Link) (s t : Image) (v : ℤ) (e : End) → Shows Tells (walk.operator w d last env v) (Err e) s t → Shows Tells (walk.chain_left w d (ls ++ last ∷ []) env v) (Err e) s t
  chain_ends [] last s t v e h = h
  chain_ends (l ∷ []) last s t v e h = goes_ends (λ a. a) (λ a. a) (bind (walk.operator w d last env v) (λ x. walk.operator w d l env x)) (walk.operator w d last env v) (λ x. walk.operator w d l env x) s s t e (goes_refl _ s) h
  chain_ends (l ∷ (k ∷ ls)) last s t v e h =
      goes_ends (λ a. a) (λ a. a) (bind (walk.chain_left w d (k ∷ ls ++ last ∷ []) env v) (λ x. walk.operator w d l env x)) (walk.chain_left w d (k ∷ ls ++ last ∷ []) env v) (λ x. walk.operator w d l env x) s s t e (goes_refl _ s)
      (chain_ends (k ∷ ls) last s t v e h)

  goes_trans : {A : Type 0} (whole m n : Stored A) (s t u : Image) → Goes Tells whole s m t → Goes Tells m t n u → Goes Tells whole s n u
  goes_trans whole m n s t u g h = record {
    faults = h.faults ∙ g.faults;
    keeps = also g.keeps h.keeps;
    same = λ input told. g.same input (h.keeps.back input told) ∙ h.same input told;
    stops = λ input told f x k. g.stops input (h.keeps.back input told) f x (h.stops input told f x k);
  }

-- how a whole stands with the operators that are left, after a value
abbrev pub Stands : (List ℕ → Outside → Type 0) → Work → ℕ → Env → Stored ℤ → Image → List Link → ℤ → Image → Type 0
Stands Tells w d env whole s [] v t = Shows Tells whole (Ok v) s t
Stands Tells w d env whole s (l ∷ ls) v t = Goes Tells whole s (walk.chain_left w d (l ∷ ls) env v) t

module _ {Tells : List ℕ → Outside → Type 0} (w : Work) (d : ℕ) (env : Env) where
  module _ (whole : Stored ℤ) (s : Image) where
    pub stands_step : (ls new : List Link) (last : Link) (v v' x x' : ℤ) (t u : Image) → ls ≡ new ++ last ∷ [] → Stands Tells w d env whole s ls v t → Shows Tells (walk.operator w d last env v') (Ok x') t u → v' ≡ v → x' ≡ x → Stands Tells w d env whole s new x u
    stands_step ls new last v v' x x' t u is g h p q = go new (subst (λ z. Stands Tells w d env whole s z v t) is g)
      where
        k : Shows Tells (walk.operator w d last env v) (Ok x) t u
        k = subst (λ z. Shows Tells (walk.operator w d last env z) (Ok x) t u) p (subst (λ z. Shows Tells (walk.operator w d last env v') (Ok z) t u) q h)

        go : (new : List Link) → Stands Tells w d env whole s (new ++ last ∷ []) v t → Stands Tells w d env whole s new x u
        go [] g = goes_shows (λ a. a) whole (walk.operator w d last env v) s t u (Ok x) g k
        go (l ∷ more) g = goes_trans w d env whole (walk.chain_left w d (l ∷ more ++ last ∷ []) env v) (walk.chain_left w d (l ∷ more) env x) s t u g (chain_step w d env l more last t u v x k)

    pub stands_ends : (ls new : List Link) (last : Link) (v v' : ℤ) (t u : Image) (e : End) (r : Result ℤ End) → r ≡ Err e → ls ≡ new ++ last ∷ [] → Stands Tells w d env whole s ls v t → Shows Tells (walk.operator w d last env v') (Err e) t u → v' ≡ v → Shows Tells whole r s u
    stands_ends ls new last v v' t u e r q is g h p =
        subst (λ z. Shows Tells whole z s u) (sym q)
        (goes_shows (λ a. a) whole (walk.chain_left w d (new ++ last ∷ []) env v) s t u (Err e) (go new (subst (λ z. Stands Tells w d env whole s z v t) is g)) (chain_ends w d env new last t u v e (subst (λ z. Shows Tells (walk.operator w d last env z) (Err e) t u) p h)))
      where
        go : (new : List Link) → Stands Tells w d env whole s (new ++ last ∷ []) v t → Goes Tells whole s (walk.chain_left w d (new ++ last ∷ []) env v) t
        go [] g = g
        go (l ∷ more) g = g

    -- all operators are gone through
    pub stands_done : (ls : List Link) (v r : ℤ) (t : Image) → ls ≡ [] → Stands Tells w d env whole s ls v t → r ≡ v → Shows Tells whole (Ok r) s t
    stands_done ls v r t is g q = subst (λ z. Shows Tells whole (Ok z) s t) (sym q) (subst (λ z. Stands Tells w d env whole s z v t) is g)

  -- the first operand of an expression whose operators stand in a list
  module _ (x : Expr) (ls : List Link) (e : Expr) (is : x ≡ linked (part_at (nodes_of w)) ls e) where
    pub stands_begins : (s t : Image) (v v' : ℤ) → Shows Tells (walk.eval w d e env) (Ok v') s t → v' ≡ v → Stands Tells w d env (walk.eval w d x env) s ls v t
    stands_begins s t v v' h p = subst (λ (z : Stored ℤ). Stands Tells w d env z s ls v t) (sym (chain_as w d env ls e) ∙ ap (λ z. walk.eval w d z env) (sym is)) (go ls)
      where
        k : Shows Tells (walk.eval w d e env) (Ok v) s t
        k = subst (λ z. Shows Tells (walk.eval w d e env) (Ok z) s t) p h

        go : (ls : List Link) → Stands Tells w d env (walk.linked_on w d ls env (walk.eval w d e env)) s ls v t
        go [] = k
        go (l ∷ ls) = chain_begins w d env l ls (walk.eval w d e env) s t v k

    pub first_ends : (s t : Image) (y : End) (r : Result ℤ End) → r ≡ Err y → Shows Tells (walk.eval w d e env) (Err y) s t → Shows Tells (walk.eval w d x env) r s t
    first_ends s t y r q h = subst (λ z. Shows Tells (walk.eval w d x env) z s t) (sym q) (subst (λ (z : Stored ℤ). Shows Tells z (Err y) s t) (sym (chain_as w d env ls e) ∙ ap (λ z. walk.eval w d z env) (sym is)) (go ls))
      where
        go : (ls : List Link) → Shows Tells (walk.linked_on w d ls env (walk.eval w d e env)) (Err y) s t
        go [] = h
        go (l ∷ ls) = goes_ends (λ a. a) (λ a. a) (bind (walk.linked_on w d ls env (walk.eval w d e env)) (λ x. walk.operator w d l env x)) (walk.linked_on w d ls env (walk.eval w d e env)) (λ x. walk.operator w d l env x) s s t y (goes_refl _ s) (go ls)

-- ---- numbers of right operands

pub all_below : (k : ℕ) (ls new : List Link) (last : Link) → ls ≡ new ++ last ∷ [] → AreBelow k ls → AreBelow k new
all_below k ls new last is h = go new (subst (λ z. AreBelow k z) is h)
  where
    go : (new : List Link) → AreBelow k (new ++ last ∷ []) → AreBelow k new
    go [] h = tt
    go (l ∷ new) h = (h.0, go new h.1)

pub last_below : (k : ℕ) (ls new : List Link) (last : Link) → ls ≡ new ++ last ∷ [] → AreBelow k ls → right_of last < k
last_below k ls new last is h = go new (subst (λ z. AreBelow k z) is h)
  where
    go : (new : List Link) → AreBelow k (new ++ last ∷ []) → right_of last < k
    go [] h = h.0
    go (l ∷ new) h = go new h.1
