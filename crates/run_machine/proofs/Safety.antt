-- Runs each of whose forks is fine.
use Rattle.std.proofs.Common.{◌≡◌, inl, inr, ℕ, zero, suc, ◌+◌, ◌-◌, ◌<◌, ◌≤◌, Bool, true, cond, List, [], ◌∷◌, ◌++◌, length, get_or, replicate, Some, None, arith, refl, sym, ◌∙◌, ap, subst}
use Rattle.std.proofs.lemmas.Bool.{eq-eqb, ne_eqb}
use Rattle.ada_base.specs.Cells.{Gone}
use Rattle.ada_base.specs.Cuts.{Plan, cuts_of}
use Rattle.ada_base.specs.Notes.{ConstructNote, ThreadNote, Whole, NotBegun, ByNotes}
use Rattle.behaviours.specs.Joins.{Share, deal}
use Rattle.cell_memory.specs.Sight.{is_mine}
use Rattle.stack_code.specs.declared.code.Around.{Around}
use Rattle.stack_code.specs.declared.code.Code.{Code}
use Rattle.stack_code.specs.declared.path.Asked.{Asked}
use Rattle.stack_code.specs.Machine.{State, Stop, Went, Goes, Stops, step, going, run, sees}
use Rattle.stack_code.specs.Machine as machine
use Rattle.stack_code.specs.Stands.{IsForward, Forked as StandsForked}
use Rattle.stack_code.specs.Valid.{IsValid}
use Rattle.ada_lower.specs.Driven.{World, Path, Step, On, Forks, Forked, Fine, Safe, RunsWell, alone, answered, driven, fork_ended, sizes_for}
use Rattle.ada_lower.specs.Lending.{Among, Owns}
use Rattle.machine_paths.specs.Constructing.{ForksTo, shares_of, with_schedule}
use Rattle.machine_paths.specs.Hushed.{BeginsLater, IsHushed}
use Rattle.machine_paths.specs.Threads.{enough}
use Rattle.ada_threads.specs.Lent.{FineLaw, owner_from}
use Rattle.run_machine.specs.Asked.{IsFineFork}

goes_is : (s t : State) → Goes s ≡ Goes t → s ≡ t
goes_is s t e = cc

goes_stops : (s t : State) (x : Stop) → Goes s ≡ Stops x t → ⊥
goes_stops s t x e = cc

module _ (limit : ℕ) (c : Code) where
  abbrev at : State → World → Step
  at s w = On (record { state = s; world = w })

  safe_step : (s : State) (w : World) (t : Went) → step limit c s ≡ t → Safe limit c true (at s w) → Safe limit c true (driven limit c t w)
  safe_step s w t e h = subst (λ t. Safe limit c true (driven limit c t w)) e (λ n. h (suc n))

  safe_goes : (n : ℕ) (s q : State) (w : World) → run limit c n s ≡ Goes q → Safe limit c true (at s w) → Safe limit c true (at q w)
  safe_goes zero s q w e h = subst (λ q. Safe limit c true (at q w)) (goes_is s q e) h
  safe_goes (suc n) s q w e h = by_step (step limit c s) refl (λ t g k. safe_goes n t q w g k) e
    where
      by_step : (t : Went) → step limit c s ≡ t → ((t : State) → run limit c n t ≡ Goes q → Safe limit c true (at t w) → Safe limit c true (at q w)) → going limit c t (λ s. run limit c n s) ≡ Goes q → Safe limit c true (at q w)
      by_step (Goes t) is rest g = rest t g (safe_step s w (Goes t) is h)
      by_step (Stops x t) is rest g = absurd (goes_stops q t x (sym g))

  safe_halts : (n : ℕ) (s q : State) (x : Stop) (w : World) → run limit c n s ≡ Stops x q → Safe limit c true (at s w) → Safe limit c true (answered limit c x q w)
  safe_halts zero s q x w e h = absurd (goes_stops s q x e)
  safe_halts (suc n) s q x w e h = by_step (step limit c s) refl (λ t g k. safe_halts n t q x w g k) e
    where
      by_step : (t : Went) → step limit c s ≡ t → ((t : State) → run limit c n t ≡ Stops x q → Safe limit c true (at t w) → Safe limit c true (answered limit c x q w)) → going limit c t (λ s. run limit c n s) ≡ Stops x q → Safe limit c true (answered limit c x q w)
      by_step (Goes t) is rest g = rest t g (safe_step s w (Goes t) is h)
      by_step (Stops y t) is rest g = subst (λ v. Safe limit c true (driven limit c v w)) g (safe_step s w (Stops y t) is h)

  -- where the machine moves, and where it stops
  pub safe_moves : (s q : State) (w : World) → machine.Comes limit c s q → Safe limit c true (at s w) → Safe limit c true (at q w)
  safe_moves s q w h safe = safe_goes h.steps s q w h.leads safe

  pub safe_stops : (s q : State) (x : Stop) (w : World) → machine.Comes_to limit c s x q → Safe limit c true (at s w) → Safe limit c true (answered limit c x q w)
  safe_stops s q x w h safe = safe_halts h.steps s q x w h.leads safe

  -- behind a fork
  pub safe_forks : (q : Asked) (p : Path) (r : Forked) → ForksTo limit c q p r → Safe limit c true (Forks q p) → Safe limit c true (fork_ended c r p)
  safe_forks q p r is safe n = (safe (suc n)).1 (enough limit c) r (is (enough limit c) (omega arith))

  pub safe_fine : (q : Asked) (p : Path) → Safe limit c true (Forks q p) → Fine limit c q p
  safe_fine q p safe = (safe 1).0 refl

-- ---- the note by which a thread alone goes to its end
abbrev before_it : ℕ → List ThreadNote
before_it n = replicate n NotBegun ++ Whole ∷ []

number_least : (sizes : List ℕ) (k first : ℕ) (j : Share) → Among j (deal k first sizes) → k ≤ j.number
number_least [] k first j a = absurd a
number_least (n ∷ ns) k first j (inl e) = let z : j.number ≡ k = ap (λ (s : Share). s.number) e in omega (arith, z)
number_least (n ∷ ns) k first j (inr a) = let z = number_least ns (suc k) (first + n) j a in omega (arith, z)

picks : (sizes : List ℕ) (k first : ℕ) (j : Share) → Among j (deal k first sizes) → alone j.number (deal k first sizes) (before_it (j.number - k)) ≡ Some j
picks [] k first j a = absurd a
picks (n ∷ ns) k first j (inl e) =
    let number : j.number ≡ k = ap (λ (s : Share). s.number) e in
    let none : j.number - k ≡ 0 = omega (arith, number) in
    ap (λ m. alone j.number (deal k first (n ∷ ns)) (before_it m)) none ∙ ap (λ b. cond b (Some (record { number = k; first = first; size = n })) None) (eq-eqb k j.number (sym number)) ∙ ap Some (sym e)
picks (n ∷ ns) k first j (inr a) =
    let later = number_least ns (suc k) (first + n) j a in
    let more : j.number - k ≡ suc (j.number - suc k) = omega (arith, later) in
    let other : k ≡ j.number → ⊥ = λ e. omega (arith, later, e) in
    ap (λ m. alone j.number (deal k first (n ∷ ns)) (before_it m)) more
    ∙ ap (λ b. cond b None (alone j.number (deal (suc k) (first + n) ns) (before_it (j.number - suc k)))) (ne_eqb k j.number other) ∙ picks ns (suc k) (first + n) j a

-- ---- threads of an outermost fork go well on the views that workers give them
module _ (fine : FineLaw) (limit : ℕ) (c : Code) (told : ℕ → Bool) (valid : IsValid c) (forward : IsForward c) (later : BeginsLater c) (hushed : IsHushed c told) where
  pub fine_fork : (plan : Plan) (q : Asked) (low : Around) (p : Path) → StandsForked c low q.site p.state → p.state.turns ≤ limit → p.world.plan ≡ cuts_of plan
      → ((x : ℕ) → x < length p.state.cells → is_mine (get_or p.state.cells x Gone) ≡ true)
      → ((ns : List ConstructNote) → Fine limit c q (with_schedule (ByNotes ns) p)) → IsFineFork limit c plan q p.state
  fine_fork plan q low p forked within planned mine each site here areas owns = fine limit c told valid forward later hushed plan site q low p here forked within planned mine areas well
    where
      owned : Owns site q (sees p.state) (deal 0 0 (sizes_for p.world.plan site.kind q)) (owner_from 0 areas)
      owned = subst (λ cuts. Owns site q (sees p.state) (deal 0 0 (sizes_for cuts site.kind q)) (owner_from 0 areas)) (sym planned) owns

      well : (j : Share) → Among j (shares_of plan site q) → RunsWell limit c site q p (owner_from 0 areas) j
      well j among =
          let there : Among j (deal 0 0 (sizes_for p.world.plan site.kind q)) = subst (λ cuts. Among j (deal 0 0 (sizes_for cuts site.kind q))) (sym planned) among in
          let note : ConstructNote = record { chosen = Some j.number; threads = before_it (j.number - 0) } in
          each (note ∷ []) site here j.number j refl (picks (sizes_for p.world.plan site.kind q) 0 0 j there) (owner_from 0 areas) owned
