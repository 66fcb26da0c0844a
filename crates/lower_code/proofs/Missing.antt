-- The forks of constructs that have none are those of the definition.
use Rattle.std.proofs.Common.{◌≡◌, ◌+◌, ◌∙◌, ℕ, List, [], ◌∷◌, ◌++◌, length, drop, refl, sym, ap, arith}
use Rattle.std.specs.Prelude.{Bool, true, false, cond, replicate, slice_get, Some, None}
use Rattle.typed_tree.specs.declared.program.Site.{Site}
use Rattle.lower_emission.specs.declared.types.Placed.{Placed}
use Rattle.lower_emission.specs.Emits.{Emit, written, listed}
use Rattle.lower_emission.specs.Laws.{WrittenLaw}
use Rattle.lower_emission.specs.Scope.{Scope, none, ◌⨟◌}
use Rattle.lower_emission.specs.Programs.{has_fork, idle_fork, idle_forks, is_fork}
use Rattle.lower_code.specs.BodyTables.{each, flag_after, fork_flags}
use Rattle.lower_code.specs.Idle.{missing}
use Rattle.lower_code.proofs.Texts.{drop_at, none_past}

-- ---- flags

swapped : (x y b : Bool) → cond x true (cond y true b) ≡ cond (cond y true x) true b
swapped true true b = refl
swapped true false b = refl
swapped false true b = refl
swapped false false b = refl

flag_is : (c : List Placed) (k : ℕ) (b : Bool) → flag_after c k b ≡ cond (has_fork k c) true b
flag_is [] k b = refl
flag_is (p ∷ ps) k b = flag_is ps k (cond (is_fork k p.instr) true b) ∙ swapped (has_fork k ps) (is_fork k p.instr) b

or_false : (x : Bool) → cond x true false ≡ x
or_false true = refl
or_false false = refl

missing_is : (s : Scope) (c : List Placed) (n : ℕ) (sites : List Site) → missing s n (each (λ k b. flag_after c k b) n (replicate (length sites) false)) ≡ idle_forks s c n sites
missing_is s c n [] = refl
missing_is s c n (x ∷ more) =
    ap (λ b. cond b none (idle_fork s n) ⨟ missing s (n + 1) (each (λ k b. flag_after c k b) (n + 1) (replicate (length more) false))) (flag_is c n false ∙ or_false (has_fork n c))
    ∙ ap (λ e. cond (has_fork n c) none (idle_fork s n) ⨟ e) (missing_is s c (n + 1) more)

-- ---- one construct after another

pub missing_last : (s : Scope) (k : ℕ) (flags : List Bool) (c : List Placed) → slice_get flags k ≡ None → written (missing s k (drop k flags)) c ≡ c
missing_last s k flags c e = ap (λ l. written (missing s k l) c) (none_past flags k e)

pub missing_kept : (s : Scope) (k n : ℕ) (b : Bool) (flags : List Bool) (c0 c1 c2 all : List Placed) → slice_get flags k ≡ Some b → (c2 ≡ c1) × (n ≡ k + 1) → c1 ≡ written (cond b none (idle_fork s k)) c0 →
    written (missing s k (drop k flags)) c0 ≡ all → written (missing s n (drop n flags)) c2 ≡ all
missing_kept s k n b flags c0 c1 c2 all e f g h = rw (f.1, f.0, g) (sym (ap (λ l. written (missing s k l) c0) (drop_at flags k b e)) ∙ h)

-- ---- behind the code of bodies

pub whole_law : WrittenLaw → (a : Emit) (s : Scope) (sites : List Site) (c0 c1 : List Placed) → c0 ≡ listed a 0 → c1 ≡ written (missing s 0 (fork_flags c0 (length sites))) c0 → c1 ≡ listed (a ⨟ idle_forks s (listed a 0) 0 sites) 0
whole_law law a s sites c0 c1 e f =
    let z : 0 + length (listed a 0) ≡ length (listed a 0) = omega arith in
    f ∙ (ap (λ x. written x c0) (missing_is s c0 0 sites) ∙ (ap (λ c. written (idle_forks s c 0 sites) c) e ∙ (law (idle_forks s (listed a 0) 0 sites) (listed a 0) ∙ ap (λ q. listed a 0 ++ listed (idle_forks s (listed a 0) 0 sites) q) (sym z))))
