-- The rows of disjoint effects, computed.
use Rattle.std.proofs.Common.{◌≡◌, ℕ, zero, suc, pos, List, [], ◌∷◌, ◌⊎◌, inl, inr, ⊎_elim, Some, true, false, refl, sym, subst, ◌∙◌, true≢false, arith}
use Rattle.typed_tree.specs.Syntax.{Absent, ParallelFor, Parallel, NoArm, Stmts, Then, Program, Put, Image, Reduction}
use Rattle.ada_meaning.specs.Nonblocking.{KeepsRule}
use Rattle.ada_meaning.specs.Rows.{dealt, keeps}
use Rattle.ada_meaning.specs.LoopRows.{columns}
use Rattle.ada_meaning.proofs.Unblocked.{blocked_law}
use Rattle.check_effects.specs.Effects.{Step, IndexStep, LoopIndex, ChunkIndex, Any, Access, Construct, LoopOf, BlockOf, ReductionOf, Holds, InFront, IsEffect, forget, unknown}
use Rattle.check_effects.specs.Conflicts.{path, SomeDiffer, AreSeparated, AreDisjoint, Clashes, HasParameter, Exempt, IsThreadEffect, IsDisjoint, IsStrict, InProgram}
use Rattle.check_effects.specs.ClashRows.{transposes, two_arms, copies, shifts, smooths}
use Rattle.check_effects.specs.DisjointRows.{DisjointRows, ChunksAccepted, OneClash}
use Rattle.check_effects.proofs.Clashes.{clash_law}
use Rattle.check_effects.proofs.EffectComputed.{formed_row}

-- the construct that a program's statements begin with
abbrev construct : Stmts → Construct
construct (Then (ParallelFor number site chunk iteration stmts) rest) = LoopOf site (forget unknown) chunk iteration stmts
construct (Then (Parallel site count arms) rest) = BlockOf site (forget unknown) count arms
construct (Then (Put at callee (Image class (Reduction t attribute by initial (Some site) chunk iteration value) pieces) line) rest) = ReductionOf site (forget unknown) by chunk iteration value
construct ss = BlockOf 0 (forget unknown) Absent NoArm

abbrev Only : Program → Type 0
Only program = (k : Construct) → InProgram program (Holds k) → k ≡ construct program.body.stmts

disjoint : (program : Program) → Only program → AreDisjoint program (construct program.body.stmts) → IsDisjoint program
disjoint program only d k h = subst (AreDisjoint program) (sym (only k h)) d

-- accesses by these steps
separated : (a b : Access) (ss ts : List Step) → a.steps ≡ ss → b.steps ≡ ts → SomeDiffer (path ss) (path ts) → AreSeparated a b
separated a b ss ts x y d = inr (subst (λ z. SomeDiffer (path z) (path b.steps)) (sym x) (subst (λ z. SomeDiffer (path ss) (path z)) (sym y) d))

-- P (C)
abbrev chunk_steps : List Step
chunk_steps = IndexStep (ChunkIndex (pos 0)) (pos 1) (pos 3) 1 ∷ []

only_dealt : Only dealt
only_dealt k (inl h) = grind arith
only_dealt k (inr (s, h)) = absurd h

dealt_steps : (j at : ℕ) (a : Access) → IsThreadEffect dealt (construct dealt.body.stmts) j at a → a.steps ≡ chunk_steps
dealt_steps j at a h = grind arith

disjoint_dealt : IsDisjoint dealt
disjoint_dealt = disjoint dealt only_dealt (λ i j c at other a b e f w. separated a b chunk_steps chunk_steps (dealt_steps i at a e) (dealt_steps j other b f) (inl refl))

-- M (I, J)
abbrev column_steps : List Step
column_steps = IndexStep Any (pos 1) (pos 3) 2 ∷ IndexStep (LoopIndex (pos 0)) (pos 1) (pos 2) 1 ∷ []

only_columns : Only columns
only_columns k (inl h) = grind arith
only_columns k (inr (s, h)) = absurd h

columns_steps : (j at : ℕ) (a : Access) → IsThreadEffect columns (construct columns.body.stmts) j at a → a.steps ≡ column_steps
columns_steps j at a h = grind arith

disjoint_columns : IsDisjoint columns
disjoint_columns = disjoint columns only_columns (λ i j c at other a b e f w. separated a b column_steps column_steps (columns_steps i at a e) (columns_steps j other b f) (inr (inl refl)))

-- X and Y
only_arms : Only two_arms
only_arms k (inl h) = grind arith
only_arms k (inr (s, h)) = absurd h

arm_object : (j at : ℕ) (a : Access) → IsThreadEffect two_arms (construct two_arms.body.stmts) j at a → a.object ≡ j
arm_object zero at a h = grind arith
arm_object (suc zero) at a h = grind arith
arm_object (suc (suc j)) at a h = grind arith

disjoint_arms : IsDisjoint two_arms
disjoint_arms = disjoint two_arms only_arms (λ i j c at other a b e f w. inl (λ same. c (sym (arm_object i at a e) ∙ same ∙ arm_object j other b f)))

-- A (I) and B (1)
abbrev loop_steps : List Step
loop_steps = IndexStep (LoopIndex (pos 0)) (pos 1) (pos 4) 1 ∷ []

only_copies : Only copies
only_copies k (inl h) = grind arith
only_copies k (inr (s, h)) = absurd h

copies_effects : (j at : ℕ) (a : Access) → IsThreadEffect copies (construct copies.body.stmts) j at a → ((a.object ≡ 0) × (a.steps ≡ loop_steps)) ⊎ ((a.object ≡ 1) × (a.writes ≡ false))
copies_effects j at a h = grind arith

zero_one : {x y : ℕ} → x ≡ 0 → y ≡ 1 → x ≡ y → ⊥
zero_one e f g = omega arith

disjoint_copies : IsDisjoint copies
disjoint_copies = disjoint copies only_copies (λ i j c at other a b e f w. go a b w (copies_effects i at a e) (copies_effects j other b f))
  where
    go : (a b : Access) → a.writes ≡ true → ((a.object ≡ 0) × (a.steps ≡ loop_steps)) ⊎ ((a.object ≡ 1) × (a.writes ≡ false)) → ((b.object ≡ 0) × (b.steps ≡ loop_steps)) ⊎ ((b.object ≡ 1) × (b.writes ≡ false)) → AreSeparated a b
    go a b w (inl x) (inl y) = separated a b loop_steps loop_steps x.1 y.1 (inl refl)
    go a b w (inl x) (inr y) = inl (zero_one x.0 y.0)
    go a b w (inr x) y = absurd (true≢false (sym w ∙ x.1))

-- nothing of the main procedure's
only_keeps : Only keeps
only_keeps k h = grind arith

keeps_none : (j at : ℕ) (a : Access) → IsThreadEffect keeps (construct keeps.body.stmts) j at a → ⊥
keeps_none j at a h = grind arith

disjoint_keeps : IsDisjoint keeps
disjoint_keeps = disjoint keeps only_keeps (λ i j c at other a b e f w. absurd (keeps_none i at a e))

-- one object is written by one path, and another one is only read
beside : (a b : Access) (ss : List Step) → a.writes ≡ true → ((a.object ≡ 1) × (a.steps ≡ ss)) ⊎ ((a.object ≡ 0) × (a.writes ≡ false)) → ((b.object ≡ 1) × (b.steps ≡ ss)) ⊎ ((b.object ≡ 0) × (b.writes ≡ false)) → SomeDiffer (path ss) (path ss) → AreSeparated a b
beside a b ss w (inl x) (inl y) d = separated a b ss ss x.1 y.1 d
beside a b ss w (inl x) (inr y) d = inl (λ same. zero_one y.0 x.0 (sym same))
beside a b ss w (inr x) y d = absurd (true≢false (sym w ∙ x.1))

-- B (I + 1) and A (I)
abbrev ahead_steps : List Step
ahead_steps = IndexStep (LoopIndex (pos 1)) (pos 1) (pos 5) 1 ∷ []

only_shifts : Only shifts
only_shifts k (inl h) = grind arith
only_shifts k (inr (s, h)) = absurd h

shifts_effects : (j at : ℕ) (a : Access) → IsThreadEffect shifts (construct shifts.body.stmts) j at a → ((a.object ≡ 1) × (a.steps ≡ ahead_steps)) ⊎ ((a.object ≡ 0) × (a.writes ≡ false))
shifts_effects j at a h = grind arith

disjoint_shifts : IsDisjoint shifts
disjoint_shifts = disjoint shifts only_shifts (λ i j c at other a b e f w. beside a b ahead_steps w (shifts_effects i at a e) (shifts_effects j other b f) (inl refl))

-- B (I), A (I - 1) and A (I + 1)
abbrev here_steps : List Step
here_steps = IndexStep (LoopIndex (pos 0)) (pos 1) (pos 5) 1 ∷ []

only_smooths : Only smooths
only_smooths k (inl h) = grind arith
only_smooths k (inr (s, h)) = absurd h

smooths_effects : (j at : ℕ) (a : Access) → IsThreadEffect smooths (construct smooths.body.stmts) j at a → ((a.object ≡ 1) × (a.steps ≡ here_steps)) ⊎ ((a.object ≡ 0) × (a.writes ≡ false))
smooths_effects j at a h = grind arith

disjoint_smooths : IsDisjoint smooths
disjoint_smooths = disjoint smooths only_smooths (λ i j c at other a b e f w. beside a b here_steps w (smooths_effects i at a e) (smooths_effects j other b f) (inl refl))

pub disjoint_rows : DisjointRows
disjoint_rows = (disjoint_dealt, disjoint_columns, disjoint_arms, disjoint_copies, disjoint_keeps, disjoint_shifts, disjoint_smooths)

-- the chunk specification and the range touch nothing
none_in_front : (at : ℕ) (a : Access) → IsEffect dealt (InFront dealt.subtypes (construct dealt.body.stmts)) at a → ⊥
none_in_front at a h = grind arith

strict_dealt : IsStrict dealt
strict_dealt k h at x (a, same, touched, refused) = ⊎_elim
    (λ e. none_in_front at a (subst (λ z. IsEffect dealt (InFront dealt.subtypes z) at a) (only_dealt k h) e))
    (λ e. refused (subst (λ z. Exempt dealt z a) (sym (only_dealt k h)) (subst (λ z. HasParameter dealt (path z)) (sym (dealt_steps e.0 at a (subst (λ z. IsThreadEffect dealt z e.0 at a) (only_dealt k h) e.1))) (inl refl)))) touched

keeps_dealt : KeepsRule dealt
keeps_dealt = record { body = record { decls = ((tt, tt, tt), tt); stmts = (((tt, tt), (tt, tt, tt), (((tt, tt), ((tt, tt), tt)), tt)), tt); handlers = tt }; subs = tt }

pub chunks_accepted : ChunksAccepted
chunks_accepted = record { formed = formed_row.1; unblocked = (blocked_law dealt).0 keeps_dealt; apart = λ k h. (clash_law dealt k).0 (disjoint_dealt k h); strict = λ e. strict_dealt }

-- A (I, J) and A (J, I)
abbrev there : List Step
there = IndexStep (LoopIndex (pos 0)) (pos 1) (pos 3) 3 ∷ IndexStep Any (pos 1) (pos 3) 1 ∷ []

only_transposes : Only transposes
only_transposes k (inl h) = grind arith
only_transposes k (inr (s, h)) = absurd h

transposes_effects : (j at : ℕ) (a : Access) → IsThreadEffect transposes (construct transposes.body.stmts) j at a → ((at ≡ 52) × (a.steps ≡ there)) ⊎ ((at ≡ 64) × (a.writes ≡ false))
transposes_effects j at a h = grind arith

pub one_clash : OneClash
one_clash k h at other c = go (transposes_effects c'.arm at c'.access c'.effect) (transposes_effects c'.other_arm other c'.other_access c'.other_effect)
  where
    c' : Clashes transposes (construct transposes.body.stmts) at other
    c' = subst (λ z. Clashes transposes z at other) (only_transposes k h) c

    go : ((at ≡ 52) × (c'.access.steps ≡ there)) ⊎ ((at ≡ 64) × (c'.access.writes ≡ false)) → ((other ≡ 52) × (c'.other_access.steps ≡ there)) ⊎ ((other ≡ 64) × (c'.other_access.writes ≡ false)) → (at ≡ 52) × (other ≡ 64)
    go (inl x) (inr y) = (x.0, y.0)
    go (inl x) (inl y) = absurd (c'.together (separated c'.access c'.other_access there there x.1 y.1 (inl refl)))
    go (inr x) y = absurd (true≢false (sym c'.writes ∙ x.1))
