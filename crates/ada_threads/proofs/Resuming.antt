-- A machine that stands in its code, and one that goes on with an answer.
use Rattle.std.proofs.Common.{◌≡◌, ℕ, zero, suc, inl, inr, List, [], ◌∷◌, slice_get, Option, Some, None, refl, sym, ◌∙◌, subst}
use Rattle.std.specs.Prelude.{◌⊎◌}
use Rattle.stack_code.specs.Answers.{IsIo}
use Rattle.ada_base.specs.Cells.{Cell}
use Rattle.stack_code.specs.declared.code.Around.{Around}
use Rattle.stack_code.specs.declared.code.Around.TheVariants.{Site}
use Rattle.stack_code.specs.declared.code.Code.{Code}
use Rattle.stack_code.specs.declared.code.CodeSite.{CodeSite}
use Rattle.stack_code.specs.declared.instr.Instr.{Instr}
use Rattle.stack_code.specs.declared.instr.Instr.TheVariants as instr
use Rattle.stack_code.specs.declared.path.Gave.{Gave}
use Rattle.stack_code.specs.declared.path.Gave.TheVariants as gave
use Rattle.stack_code.specs.declared.path.Leave.{Leave}
use Rattle.stack_code.specs.declared.path.Leave.TheVariants.{Exit as Exits, Return as Returns, Raise as Raises}
use Rattle.stack_code.specs.Machine.{State, Stop, Left, Went, Goes, Stops, step, going, run, after, resumed}
use Rattle.stack_code.specs.Operands.{is_reduction}
use Rattle.stack_code.specs.Stands.{Stands, Keeps, Forked}
use Rattle.stack_code.specs.Valid.{IsValid}
use Rattle.stack_code.proofs.Standing.{keeps}
use Rattle.ada_machine.specs.States.{state_of, Awaits}
use Rattle.ada_machine.specs.declared.machine.Machine.{Machine}
use Rattle.machine_paths.specs.Hushed.{LeavesWell}
use Rattle.machine_paths.proofs.Hushes.{leaves_well}
use Rattle.ada_threads.specs.Going.{with_left}

-- ---- an answer
abbrev pub Same : Option ℕ → State → State → State → Type 0
Same l s t u = (u ≡ with_left l t) × (t.turns ≡ s.turns) × (t.waiting ≡ s.waiting) × (t.cells ≡ s.cells)

after_same : (i : Option Instr) (g : Gave) (l : Option ℕ) (s : State) → Same l s (after i g s) (after i g (with_left l s))
after_same (Some (instr.Fork site)) gave.Nothing l s = (refl, refl, refl, refl)
after_same (Some (instr.Fork site)) (gave.Numbers []) l s = (refl, refl, refl, refl)
after_same (Some (instr.Fork site)) (gave.Numbers (v ∷ vs)) l s = (refl, refl, refl, refl)
after_same (Some (instr.Fork site)) (gave.Left (Raises r)) l s = (refl, refl, refl, refl)
after_same (Some (instr.Fork site)) (gave.Left (Exits n)) l s = (refl, refl, refl, refl)
after_same (Some (instr.Fork site)) (gave.Left (Returns None)) l s = (refl, refl, refl, refl)
after_same (Some (instr.Fork site)) (gave.Left (Returns (Some v))) l s = (refl, refl, refl, refl)
after_same (Some instr.Get) gave.Nothing l s = (refl, refl, refl, refl)
after_same (Some instr.Get) (gave.Numbers []) l s = (refl, refl, refl, refl)
after_same (Some instr.Get) (gave.Numbers (v ∷ [])) l s = (refl, refl, refl, refl)
after_same (Some instr.Get) (gave.Numbers (v ∷ w ∷ vs)) l s = (refl, refl, refl, refl)
after_same (Some instr.Get) (gave.Left (Raises r)) l s = (refl, refl, refl, refl)
after_same (Some instr.Get) (gave.Left (Exits n)) l s = (refl, refl, refl, refl)
after_same (Some instr.Get) (gave.Left (Returns v)) l s = (refl, refl, refl, refl)
after_same _ g l s = (refl, refl, refl, refl)

pub resumed_same : (c : Code) (g : Gave) (l : Option ℕ) (s : State) → Same l s (resumed c g s) (resumed c g (with_left l s))
resumed_same c g l s = after_same (slice_get c.instrs s.pc) g l s

-- ---- standing
module _ (limit : ℕ) (c : Code) (valid : IsValid c) (low : Around) where
  pub keep_run : (n : ℕ) (p : State) → Stands c low p → Keeps c low (run limit c n p)
  keep_run zero p s = s
  keep_run (suc n) p s = by_step (step limit c p) (λ t k. keep_run n t k) (keeps c low valid p limit s) where
    by_step : (t : Went) → ((u : State) → Stands c low u → Keeps c low (run limit c n u)) → Keeps c low t → Keeps c low (going limit c t (λ u. run limit c n u))
    by_step (Goes t) rest k = rest t k
    by_step (Stops x t) rest k = k

goes_stops : (s t : State) (x : Stop) → Goes s ≡ Stops x t → ⊥
goes_stops s t x e = cc

-- of a reduction's thread it leaves by a raise
module _ (limit : ℕ) (c : Code) (valid : IsValid c) (k : ℕ) (site : CodeSite) (at : slice_get c.sites k ≡ Some site) where
  pub left_run : (n : ℕ) (p : State) (l : Leave) (q : State) → Stands c (Site k) p → run limit c n p ≡ Stops (Left l) q → LeavesWell (is_reduction site.kind) l
  left_run zero p l q s e = absurd (goes_stops p q (Left l) e)
  left_run (suc n) p l q s e = by_step (step limit c p) refl (λ u k f. left_run n u l q k f) e where
    by_step : (t : Went) → step limit c p ≡ t → ((u : State) → Stands c (Site k) u → run limit c n u ≡ Stops (Left l) q → LeavesWell (is_reduction site.kind) l) → going limit c t (λ u. run limit c n u) ≡ Stops (Left l) q → LeavesWell (is_reduction site.kind) l
    by_step (Goes t) is rest f = rest t (subst (Keeps c (Site k)) is (keeps c (Site k) valid p limit s)) f
    by_step (Stops x t) is rest f = leaves_well c valid limit k site at p l q s (is ∙ f)

-- ---- a machine of which only the counts changed
module _ (c : Code) (m m' : Machine) (same : m' ≡ record m { turns = m'.turns; looks = m'.looks }) where
  pub awaits_on : Awaits c m → Awaits c m'
  awaits_on a = subst (Awaits c) (sym same) (record { valid = a.valid; forward = a.forward; low = a.low; asks = asks a; roomy = a.roomy }) where
    asks : (a : Awaits c m) → ((site : ℕ) × Forked c a.low site (state_of (record m { turns = m'.turns; looks = m'.looks }) [])) ⊎ (Stands c a.low (state_of m []) × (m.raising ≡ None) × IsIo (slice_get c.instrs m.pc))
    asks a = elim a.asks [
      | inl f ↦ inl (f.0, record { spot = f.1.spot; at = f.1.at; here = f.1.here; height = f.1.height; calm = f.1.calm; nest = f.1.nest; within = f.1.within; chain = f.1.chain })
      | inr s ↦ inr s
    ]

  pub forked_on : (low : Around) (site : ℕ) (cells cells' : List Cell) → Forked c low site (state_of m cells) → Forked c low site (state_of m' cells')
  forked_on low site cells cells' f = subst (λ m. Forked c low site (state_of m cells')) (sym same)
      (record { spot = f.spot; at = f.at; here = f.here; height = f.height; calm = f.calm; nest = f.nest; within = f.within; chain = f.chain })
