-- Objects and their cells are counted within their limits, where no fault is written.
use Rattle.std.proofs.Common.{◌≡◌, refl, sym, subst, true≢false, ◌⊎◌, inl, inr, ℕ, ◌+◌, ◌<◌, ◌≤◌, [], Bool, true, false, not, ◌&&◌, ◌||◌, nat_le, nat_lt, ◌==◌, arith, leb-true, lt-ltb, ltb-true, ◌∙◌}
use Rattle.std.proofs.lemmas.Bool.{and_from, cases_order, eq-eqb, not-true, or_cases}
use Rattle.name_rules.specs.Declarations.{cells_counted}
use Rattle.name_rules.specs.Judging.{◌>>=◌, breaks, pure, unless}
use Rattle.name_rules.specs.Types.{saturated}
use Rattle.name_rules.specs.Limits.{most_cells, most_objects}
use Rattle.name_rules.specs.declared.log.Bound.TheVariants as bound
use Rattle.name_rules.specs.declared.log.Log.{Log}
use Rattle.name_rules.specs.declared.log.Rule.TheVariants.{Limit}
use Rattle.name_rules.specs.declared.log.Rule.{Rule}
use Rattle.name_complete.proofs.Explains.{Sound, faulty}

-- two rules, and nothing is counted
record Quiet (a b : Bool) (now end : Log) : Type 0 where
  pub clean : end.faults ≡ [] → ((a ≡ true) × (b ≡ true)) × (now.faults ≡ [])
  pub declared : end.declared ≡ now.declared
  pub cells : end.cells ≡ now.cells

quiet : (a b c : Bool) (at : ℕ) (r s : Rule) (now : Log) → Quiet a b now ((unless a at r >>= λ u. unless b at s >>= λ v. pure c) now).1
quiet true true c at r s now = record { clean = λ e. ((refl, refl), e); declared = refl; cells = refl }
quiet true false c at r s now = record { clean = λ e. absurd (faulty at s now e); declared = refl; cells = refl }
quiet false true c at r s now = record { clean = λ e. absurd (faulty at r now e); declared = refl; cells = refl }
quiet false false c at r s now = record { clean = λ e. absurd (faulty at s (breaks at r now).1 e); declared = refl; cells = refl }

-- one more object has room
room-for : (n : ℕ) → n ≤ most_objects → not (n == most_objects) ≡ true → n < most_objects
room-for n h e = by (cases_order n most_objects)
  where
    by : (n ≡ most_objects) ⊎ ((n < most_objects) ⊎ (most_objects < n)) → n < most_objects
    by (inl k) = absurd (true≢false (sym (eq-eqb n most_objects k) ∙ not-true (n == most_objects) e))
    by (inr (inl k)) = k
    by (inr (inr k)) = omega (arith, h, k)

few-cells : (n all : ℕ) → n ≤ most_cells → (nat_lt most_cells n || nat_le all most_cells) ≡ true → nat_le all most_cells ≡ true
few-cells n all h e = by (or_cases (nat_lt most_cells n) (nat_le all most_cells) e)
  where
    by : (nat_lt most_cells n ≡ true) ⊎ (nat_le all most_cells ≡ true) → nat_le all most_cells ≡ true
    by (inl k) = absurd (omega (arith, h, ltb-true most_cells n k))
    by (inr k) = k

pub s-cells_counted : (G : Type 0) (token cells : ℕ) → Sound G (λ b. b ≡ true) (cells_counted token cells)
s-cells_counted G token cells = record {
  grows = λ log. record {
    back = λ e. ((at log).clean e).1;
    counted = λ c. record {
      objects = λ e. let q = (at log).clean e in let r = room-for log.declared (c.objects q.1) q.0.0 in subst (λ n. n ≤ most_objects) (sym (at log).declared) (omega (arith, r));
      cells = λ e. let q = (at log).clean e in subst (λ n. n ≤ most_cells) (sym (at log).cells) (leb-true (all log) most_cells (few-cells log.cells (all log) (c.cells q.1) q.0.1));
    };
  };
  at = λ log c e g.
      let q = (at log).clean e in
      and_from (nat_lt log.declared most_objects) (nat_le (all log) most_cells) (lt-ltb log.declared most_objects (room-for log.declared (c.objects q.1) q.0.0)) (few-cells log.cells (all log) (c.cells q.1) q.0.1);
}
  where
    all : Log → ℕ
    all log = saturated (log.cells + cells)

    start : Log → Log
    start log = record log { declared = log.declared + 1; cells = all log }

    at : (log : Log) → Quiet (not (log.declared == most_objects)) (nat_lt most_cells log.cells || nat_le (all log) most_cells) (start log) (cells_counted token cells log).1
    at log = quiet (not (log.declared == most_objects)) (nat_lt most_cells log.cells || nat_le (all log) most_cells) (nat_lt log.declared most_objects && nat_le (all log) most_cells) token (Limit bound.Objects) (Limit bound.Cells) (start log)
