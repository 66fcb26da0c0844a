-- A thread's path of the machine keeps what ada_workers asks of paths.
use Rattle.std.proofs.Common.{◌≡◌, ◌≢◌, ℕ, zero, suc, inl, inr, List, [], ◌∷◌, length, Option, Some, None, arith, refl, sym, ap, subst}
use Rattle.std.specs.Prelude.{get_or}
use Rattle.ada_base.specs.Cells.{Cell, Gone, Seen, Mine}
use Rattle.ada_workers.specs.Paths.{AtEnd, Left as Leaves, Spent as Overspent, Cut as IsCut, Stuck as IsStuck, Fine, Shows, Covers, Keeps, SameRun, Frames}
use Rattle.stack_code.specs.Machine.{Stop, Done, Left, Spent, Cut, Asks, Constructs, Stuck, Astray}
use Rattle.ada_lower.specs.Driven.{Final}
use Rattle.machine_paths.specs.Alike.{NotStuck}
use Rattle.machine_paths.specs.Nesting.{FinalAlike}
use Rattle.machine_paths.proofs.Looking.{FinalBound}
use Rattle.machine_paths.proofs.Nested.{path_on_memory}
use Rattle.machine_paths.proofs.NestedBounds.{path_bounded}
use Rattle.machine_paths.specs.Threads.{ThreadPath, starts, ending, outcome_of, enough, ran, runs}

-- a memory that shows what a view has
abbrev one_for : Cell → Cell
one_for Gone = Gone
one_for (Seen v) = Mine v
one_for (Mine v) = Mine v

abbrev memory_for : List Cell → List Cell
memory_for [] = []
memory_for (c ∷ cs) = one_for c ∷ memory_for cs

shows_for : (c : Cell) → Shows (one_for c) c
shows_for Gone = tt
shows_for (Seen v) = refl
shows_for (Mine v) = refl

long_for : (cs : List Cell) → length (memory_for cs) ≡ length cs
long_for [] = refl
long_for (c ∷ cs) = ap suc (long_for cs)

covers_for : (cs : List Cell) → Covers (memory_for cs) cs
covers_for cs = (long_for cs, at cs) where
  at : (cs : List Cell) (x : ℕ) → Shows (get_or (memory_for cs) x Gone) (get_or cs x Gone)
  at [] x = tt
  at (c ∷ cs) zero = shows_for c
  at (c ∷ cs) (suc x) = at cs x

-- ---- ends
pub not_stuck : (x : Stop) → Fine (ending x) → NotStuck x
not_stuck (Done v) f = tt
not_stuck (Left l) f = tt
not_stuck Spent f = tt
not_stuck Cut f = tt
not_stuck (Asks q) f = tt
not_stuck (Constructs q) f = tt
not_stuck Stuck f = f
not_stuck Astray f = tt

pub cut_only : (x : Stop) → ending x ≡ IsCut → x ≡ Cut
cut_only (Done v) e = absurd (no e) where
  no : AtEnd ≡ IsCut → ⊥
  no e = cc
cut_only (Left l) e = absurd (no e) where
  no : Leaves ≡ IsCut → ⊥
  no e = cc
cut_only Spent e = absurd (no e) where
  no : Overspent ≡ IsCut → ⊥
  no e = cc
cut_only Cut e = refl
cut_only (Asks q) e = absurd (no e) where
  no : IsStuck ≡ IsCut → ⊥
  no e = cc
cut_only (Constructs q) e = absurd (no e) where
  no : IsStuck ≡ IsCut → ⊥
  no e = cc
cut_only Stuck e = absurd (no e) where
  no : IsStuck ≡ IsCut → ⊥
  no e = cc
cut_only Astray e = absurd (no e) where
  no : IsStuck ≡ IsCut → ⊥
  no e = cc

-- ---- runs on a view and on a memory
like : (p : ThreadPath) (n : Option ℕ) (vs ms : List Cell) → Covers ms vs → FinalAlike (length vs) vs ms (ran p n vs) (ran p n ms)
like p n vs ms c = path_on_memory p.limit p.code (enough p.limit p.code) (length vs) (starts p n vs) ms (omega arith) c tt refl

kept : (p : ThreadPath) (vs ms : List Cell) (z y : Option Final) → FinalAlike (length vs) vs ms z y → Fine (outcome_of p z).end → Keeps vs (outcome_of p z).cells
kept p vs ms None y h f = absurd f
kept p vs ms (Some e) y h f =
    let k = (h (not_stuck e.how f)).2 in
    record {
      long = k.long;
      kinds = k.kinds;
      others = k.view;
    }

same_run : (p : ThreadPath) (vs ms : List Cell) (z y : Option Final) → FinalAlike (length vs) vs ms z y → Fine (outcome_of p z).end → SameRun vs ms (outcome_of p z) (outcome_of p y)
same_run p vs ms None y h f = absurd f
same_run p vs ms (Some e) y h f =
    let g = h (not_stuck e.how f) in let k = g.2 in
    subst (λ w. SameRun vs ms (outcome_of p (Some e)) (outcome_of p w)) (sym g.1) (record {
      path = refl;
      end = refl;
      covers = k.covers;
      others = k.memory;
    })

-- ---- bounds of looks
pub bounded : (p : ThreadPath) (n : ℕ) (vs : List Cell) → FinalBound (ran p None vs) (ran p (Some n) vs)
bounded p n vs = path_bounded p.limit p.code (enough p.limit p.code) n (starts p None vs) refl refl

begun_fine : (p : ThreadPath) (z y : Option Final) → FinalBound z y → Fine (outcome_of p z).end → Fine (outcome_of p y).end
begun_fine p None y h f = absurd f
begun_fine p (Some e) y h f = elim h.3 as (λ _. Fine (outcome_of p y).end) [
  | inl g ↦ subst (λ w. Fine (outcome_of p w).end) (sym g.1) f
  | inr u ↦ subst (λ w. Fine (outcome_of p w).end) (sym u.2) (subst (λ x. Fine (ending x)) (sym u.1) tt)
]

never_cut : (p : ThreadPath) (z y : Option Final) → FinalBound z y → (outcome_of p z).end ≢ IsCut
never_cut p None y h e = no e where
  no : IsStuck ≡ IsCut → ⊥
  no e = cc
never_cut p (Some f) y h e = h.0 (cut_only f.how e)

pub machine_frames : Frames runs
machine_frames = record {
  keeps = λ p n vs f. kept p vs (memory_for vs) (ran p n vs) (ran p n (memory_for vs)) (like p n vs (memory_for vs) (covers_for vs)) f;
  same = λ p n vs ms f c. same_run p vs ms (ran p n vs) (ran p n ms) (like p n vs ms c) f;
  begins = λ p n vs f. begun_fine p (ran p None vs) (ran p (Some n) vs) (bounded p n vs) f;
  uncut = λ p vs. never_cut p (ran p None vs) (ran p (Some 0) vs) (bounded p 0 vs);
}
