-- The path of a thread. It does what a path does, and runs the constructs in it in order; but a thread does no input or output (9.5): where one asks for some, it comes to nothing.
use Rattle.std.specs.Prelude.{◌≡◌, ℕ, zero, suc, ℤ, Bool, List, Option, Some, None}
use Rattle.behaviours.specs.Joins.{Share}
use Rattle.stack_code.specs.declared.code.Code.{Code}
use Rattle.stack_code.specs.Machine.{Asks, Went, Stops, step}
use Rattle.ada_lower.specs.Driven.{World, Dyn, Path, Final, Step, On, Off, Forks, Forked, in_order, fork, driven, after_fork, halted, Finally}

module _ (limit : ℕ) (c : Code) where
  abbrev pub unasked : (Step → Option Final) → Went → World → Option Final
  unasked run (Stops (Asks q) s) w = None
  unasked run x w = run (driven limit c x w)

  abbrev pub silent : (Step → Option Final) → Step → Option Final
  silent run (Off e) = Some e
  silent run (On p) = unasked run (step limit c p.state) p.world
  silent run (Forks q p) = after_fork limit c (fork c run q p) p run

  -- with so many steps at most, as a path goes
  abbrev pub silently : ℕ → Step → Option Final
  silently zero x = halted limit c x
  silently (suc n) x = silent (silently n) x

  -- a step comes to an end
  abbrev pub Quietly : Step → Final → Type 0
  Quietly x e = (n : ℕ) × (silently n x ≡ Some e)

  -- to what the one comes, the other does
  abbrev pub Leads : Step → Step → Type 0
  Leads x y = (e : Final) → Quietly y e → Quietly x e

  -- the same of a path that may ask
  abbrev pub Reaches : Step → Step → Type 0
  Reaches x y = (e : Final) → Finally limit c y e → Finally limit c x e

  -- threads come to that, one after the other
  abbrev pub Orders : (start : Dyn → Share → Path) → (top from : ℕ) → List Share → Dyn → (most : ℕ) → Bool → List ℤ → Forked → Type 0
  Orders start top from js d most over us r = (n : ℕ) × (in_order (silently n) start top from js d most over us ≡ Some r)

-- it isn't for input or output that the machine stops
abbrev pub AsksNothing : Went → Type 0
AsksNothing (Stops (Asks q) s) = ⊥
AsksNothing w = Unit {0}

-- a step of a path in that world
abbrev pub IsIn : World → Step → Type 0
IsIn w (On p) = p.world ≡ w
IsIn w (Forks q p) = p.world ≡ w
IsIn w (Off e) = e.dyn.world ≡ w
