-- Steps that come to the same ends.
use Rattle.std.proofs.Common.{◌≡◌, ℕ, zero, suc, ◌+◌, Option, Some, None, arith, refl, sym, ◌∙◌, ap, subst}
use Rattle.stack_code.specs.declared.code.Code.{Code}
use Rattle.stack_code.specs.declared.path.Asked.{Asked}
use Rattle.stack_code.specs.Machine.{State, Stop, Went, Goes, Stops, step, going, run}
use Rattle.stack_code.specs.Machine as machine
use Rattle.ada_lower.specs.Driven.{World, Path, Final, Step, On, Off, Forks, Forked, Finally, driven, answered, after_fork, fork, fork_ended, goes}
use Rattle.ada_lower.proofs.ForkFuel.{goes_by, fork_once}
use Rattle.machine_paths.specs.Threads.{enough}
use Rattle.machine_paths.specs.Constructing.{ForksTo}
use Rattle.run_machine_laws.specs.Standing.{SameEnds}

none_some : {A : Type 0} {a : A} → ◌≡◌ {A = Option A} None (Some a) → ⊥
none_some e = cc

some_is : {A : Type 0} {a b : A} → ◌≡◌ {A = Option A} (Some a) (Some b) → a ≡ b
some_is e = cc

goes_is : (s t : State) → Goes s ≡ Goes t → s ≡ t
goes_is s t e = cc

goes_stops : (s t : State) (x : Stop) → Goes s ≡ Stops x t → ⊥
goes_stops s t x e = cc

module _ (limit : ℕ) (c : Code) where
  pub same_refl : (x : Step) → SameEnds limit c x x
  same_refl x e = ((λ h. h), λ h. h)

  pub same_sym : (x y : Step) → SameEnds limit c x y → SameEnds limit c y x
  same_sym x y h e = ((h e).1, (h e).0)

  pub same_then : (x y z : Step) → SameEnds limit c x y → SameEnds limit c y z → SameEnds limit c x z
  same_then x y z h g e = ((λ f. (g e).0 ((h e).0 f)), λ f. (h e).1 ((g e).1 f))

  -- there is one end
  pub one_end : (x : Step) (e f : Final) → Finally limit c x e → Finally limit c x f → e ≡ f
  one_end x e f (n, a) (m, b) = some_is (sym (goes_by limit c n (n + m) x e (omega arith) a) ∙ goes_by limit c m (n + m) x f (omega arith) b)

  -- ---- a run of the machine
  abbrev at : State → World → Step
  at s w = On (record { state = s; world = w })

  same_step : (s : State) (w : World) (t : Went) → step limit c s ≡ t → SameEnds limit c (at s w) (driven limit c t w)
  same_step s w t is e = (to, from)
    where
      to : Finally limit c (at s w) e → Finally limit c (driven limit c t w) e
      to (zero, h) = absurd (none_some h)
      to (suc n, h) = (n, ap (λ t. goes limit c n (driven limit c t w)) (sym is) ∙ h)

      from : Finally limit c (driven limit c t w) e → Finally limit c (at s w) e
      from (n, h) = (suc n, ap (λ t. goes limit c n (driven limit c t w)) is ∙ h)

  same_goes : (n : ℕ) (p q : State) (w : World) → run limit c n p ≡ Goes q → SameEnds limit c (at p w) (at q w)
  same_goes zero p q w e = subst (λ q. SameEnds limit c (at p w) (at q w)) (goes_is p q e) (same_refl (at p w))
  same_goes (suc n) p q w e = by_step (step limit c p) refl (λ s g. same_goes n s q w g) e
    where
      by_step : (t : Went) → step limit c p ≡ t → ((s : State) → run limit c n s ≡ Goes q → SameEnds limit c (at s w) (at q w)) → going limit c t (λ s. run limit c n s) ≡ Goes q → SameEnds limit c (at p w) (at q w)
      by_step (Goes s) is rest g = same_then (at p w) (at s w) (at q w) (same_step p w (Goes s) is) (rest s g)
      by_step (Stops x s) is rest g = absurd (goes_stops q s x (sym g))

  same_stops : (n : ℕ) (p : State) (x : Stop) (q : State) (w : World) → run limit c n p ≡ Stops x q → SameEnds limit c (at p w) (answered limit c x q w)
  same_stops zero p x q w e = absurd (goes_stops p q x e)
  same_stops (suc n) p x q w e = by_step (step limit c p) refl (λ s g. same_stops n s x q w g) e
    where
      by_step : (t : Went) → step limit c p ≡ t → ((s : State) → run limit c n s ≡ Stops x q → SameEnds limit c (at s w) (answered limit c x q w)) → going limit c t (λ s. run limit c n s) ≡ Stops x q → SameEnds limit c (at p w) (answered limit c x q w)
      by_step (Goes s) is rest g = same_then (at p w) (at s w) (answered limit c x q w) (same_step p w (Goes s) is) (rest s g)
      by_step (Stops y s) is rest g = subst (λ z. SameEnds limit c (at p w) z) (ap (λ v. driven limit c v w) g) (same_step p w (Stops y s) is)

  -- it moves, or stops
  pub same_moves : (p q : State) (w : World) → machine.Comes limit c p q → SameEnds limit c (at p w) (at q w)
  same_moves p q w h = same_goes h.steps p q w h.leads

  pub same_stop : (p : State) (x : Stop) (q : State) (w : World) → machine.Comes_to limit c p x q → SameEnds limit c (at p w) (answered limit c x q w)
  same_stop p x q w h = same_stops h.steps p x q w h.leads

  -- ---- a fork
  pub same_fork : (q : Asked) (p : Path) (r : Forked) → ForksTo limit c q p r → SameEnds limit c (Forks q p) (fork_ended c r p)
  same_fork q p r is e = (to, from)
    where
      went : (n : ℕ) (o : Option Forked) → fork c (goes limit c n) q p ≡ o → after_fork limit c o p (goes limit c n) ≡ Some e → Finally limit c (fork_ended c r p) e
      went n None came h = absurd (none_some h)
      went n (Some s) came h = (n, subst (λ z. goes limit c n (fork_ended c z p) ≡ Some e) (sym (fork_once limit c (enough limit c) n q p r s is came)) h)

      to : Finally limit c (Forks q p) e → Finally limit c (fork_ended c r p) e
      to (zero, h) = absurd (none_some h)
      to (suc n, h) = went n (fork c (goes limit c n) q p) refl h

      from : Finally limit c (fork_ended c r p) e → Finally limit c (Forks q p) e
      from (n, h) =
          let m = enough limit c + n in
          (suc m, ap (λ o. after_fork limit c o p (λ x. goes limit c m x)) (is m (omega arith)) ∙ goes_by limit c n m (fork_ended c r p) e (omega arith) h)

  pub one_off : (e f : Final) → SameEnds limit c (Off e) (Off f) → e ≡ f
  one_off e f h = one_end (Off f) e f ((h e).0 (0, refl)) (0, refl)
