-- A program whose constructs are clean is free of races.
use Rattle.std.proofs.Common.{◌≡◌, sym, subst, ◌∙◌, ℕ, zero, suc, ◌+◌, ◌-◌, ◌<◌, ◌≤◌, min, max, pos, nat_le, List, [], ◌∷◌, None, Bool, true, false, cond, ⊎_elim, refl, arith, le_refl, leb-false}
use Rattle.typed_tree.specs.Syntax.{Program}
use Rattle.check_effects.specs.Effects.{Construct, LoopOf, BlockOf, ReductionOf, Holds}
use Rattle.ada_base.specs.Cuts.{Plan, One, Even, Chunked, Listed, rest_of, chunked, listed, cuts_of}
use Rattle.behaviours.specs.Paths.{start, nothing_visible}
use Rattle.behaviours.specs.Behaviours.{asks_apart}
use Rattle.ada_meaning.specs.Runs.{anything}
use Rattle.behaviours.specs.Joins.{Now}
use Rattle.check_effects.specs.Conflicts.{IsClean, AllClean, InProgram, RaceFreeLaw, GrantLaw, Compared}
use Rattle.check_effects.proofs.Good.{Lives, none_some}
use Rattle.check_effects.proofs.Teams.{sum}
use Rattle.check_effects.proofs.Separation.{separation, apart_law, covered_law}
use Rattle.check_effects.specs.Covered.{arm_of, asks_covered, CoveredLaw, ShareLaw}
use Rattle.check_effects.proofs.Quietness.{threads_quiet}
use Rattle.check_effects.proofs.Cover.{main_good}
use Rattle.check_effects.proofs.Counting.{sum_evens}

sum_rest : (n : ℕ) → sum (rest_of n) ≤ n
sum_rest zero = le_refl 0
sum_rest (suc n) = omega arith

one_more : (b : Bool) (s n : ℕ) (rest : List ℕ) → nat_le n s ≡ b → sum rest ≤ n - s → sum (cond b (rest_of n) (s ∷ rest)) ≤ n
one_more true s n rest e h = sum_rest n
one_more false s n rest e h = let l = leb-false n s e in omega arith

sum_chunked : (s most n : ℕ) → sum (chunked s most n) ≤ n
sum_chunked s zero n = sum_rest n
sum_chunked s (suc zero) n = sum_rest n
sum_chunked s (suc (suc more)) n = one_more (nat_le n s) s n (chunked s (suc more) (n - s)) refl (sum_chunked s (suc more) (n - s))

sum_listed : (ss : List ℕ) (most n : ℕ) → sum (listed ss most n) ≤ n
sum_listed ss zero n = sum_rest n
sum_listed [] (suc more) n = sum_rest n
sum_listed (s ∷ ss) (suc zero) n = sum_rest n
sum_listed (s ∷ ss) (suc (suc more)) n = one_more (nat_le n s) s n (listed ss (suc more) (n - s)) refl (sum_listed ss (suc more) (n - s))

sum_cuts : Program → (plan : Plan) (most n : ℕ) → sum (cuts_of plan most n) ≤ n
sum_cuts program One most n = sum_rest n
sum_cuts program (Even k) most n = sum_evens n (min k (min n (max 1 most)))
sum_cuts program (Chunked s) most n = sum_chunked s most n
sum_cuts program (Listed ss) most n = sum_listed ss most n

lives_start : (program : Program) → Lives program nothing_visible start
lives_start program = record {
  old = λ x i l v f. ⊎_elim (λ h. none_some h) (λ h. none_some h) v;
  named = λ x i l v. ⊎_elim (λ h. absurd (none_some h)) (λ h. absurd (none_some h)) v;
  known = λ x i l v. absurd (none_some v);
}

abbrev any_now : Now
any_now = record { loop = None; chunk = pos 0; first = 0; size = 0 }

pub race_free : RaceFreeLaw
race_free program rule laid disjoint set =
    let clean : AllClean program = λ k h. record { disjoint = disjoint k h; laid = laid k h; quiet = threads_quiet program rule k h } in
    (main_good program (IsClean program) anything asks_apart set.limit (cuts_of set.plan) set.one (sum_cuts program set.plan) (apart_law program) (Unit {0}) (λ z. clean) any_now).safe nothing_visible start tt (lives_start program)

pub all_covered : CoveredLaw
all_covered program set =
    (main_good program (λ k. InProgram program (Holds k)) anything (asks_covered program) set.limit (cuts_of set.plan) set.one (sum_cuts program set.plan) (covered_law program) (Unit {0}) (λ z k h. h) any_now).safe nothing_visible start tt (lives_start program)

pub granted : GrantLaw
granted program k clean i j c now then d a b at n g h same l m =
    separation program now then d a b same (clean.laid i g.0 a g.1) (clean.laid j at b h) (clean.disjoint i j c g.0 at a b g.1 h g.2) n l m

pub shares_apart : ShareLaw
shares_apart program k clean now distinct c d other apart writes x n (i, lo, hi, (at, a, e, w, o, u)) (j, lo', hi', (at', b, e', w', o', u')) =
    granted program k clean (arm_of k c.number i) (arm_of k d.number j) (compared k) (now c.number i) (now d.number j) (distinct c.number d.number i j other differ)
    a b at' n (at, e, w) e' (o ∙ sym o') u u'
  where
    differ : i ≡ j → ⊥
    differ same = apart i lo hi (subst (λ z. d.first ≤ z) (sym same) lo') (subst (λ z. z < d.first + d.size) (sym same) hi')

    compared : (k : Construct) → Compared program k (arm_of k c.number i) (arm_of k d.number j)
    compared (LoopOf site r chunk iteration stmts) = tt
    compared (BlockOf site r most arms) = differ
    compared (ReductionOf site r by chunk iteration value) = tt
