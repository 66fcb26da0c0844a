-- How many faults there are: no fewer behind what is judged than before it.
use Rattle.std.proofs.Common.{◌≡◌, refl, ℕ, ◌+◌, ◌≤◌, length, length-append, [], ◌∷◌, Bool, true, false, nat_le, nat_lt, ◌==◌, arith}
use Rattle.std.specs.Prelude.{not, ◌||◌}
use Rattle.name_rules.specs.Declarations.{cells_counted}
use Rattle.name_rules.specs.Judging.{unless}
use Rattle.name_rules.specs.Types.{saturated}
use Rattle.name_rules.specs.Limits.{most_cells, most_objects}
use Rattle.name_rules.specs.declared.log.Bound.TheVariants as bound
use Rattle.name_rules.specs.declared.log.Log.{Log}
use Rattle.name_rules.specs.declared.log.Rule.{Rule}
use Rattle.name_rules.specs.declared.log.Rule.TheVariants.{Limit}
use Rattle.name_laws.proofs.Walk.{Walk}

abbrev pub faults : Log → ℕ
faults log = length log.faults

abbrev pub More : Log → Log → Type 0
More a b = faults a ≤ faults b

pub unless-faults : (b : Bool) (at : ℕ) (rule : Rule) (log : Log) → More log (unless b at rule log).1
unless-faults true at rule log = omega arith
unless-faults false at rule log = omega (arith, length-append log.faults (record { at = at; rule = rule } ∷ []))

-- where none was written the rule is kept to
pub unless-kept : (b : Bool) (at : ℕ) (rule : Rule) (log : Log) → faults (unless b at rule log).1 ≤ faults log → b ≡ true
unless-kept true at rule log h = refl
unless-kept false at rule log h = absurd (omega (arith, h, length-append log.faults (record { at = at; rule = rule } ∷ [])))

pub counted-faults : (token cells : ℕ) (log : Log) → More log (cells_counted token cells log).1
counted-faults token cells log =
    let all = saturated (log.cells + cells) in
    let now = record log { declared = log.declared + 1; cells = all } in
    let mid = (unless (not (log.declared == most_objects)) token (Limit bound.Objects) now).1 in
    let one : More now mid = unless-faults (not (log.declared == most_objects)) token (Limit bound.Objects) now in
    let two : More mid (unless (nat_lt most_cells log.cells || nat_le all most_cells) token (Limit bound.Cells) mid).1 = unless-faults (nat_lt most_cells log.cells || nat_le all most_cells) token (Limit bound.Cells) mid in
    omega (arith, one, two)

abbrev pub counting : Walk
counting = record {
  Takes = λ names. Unit {0};
  R = More;
  stays = λ log. omega arith;
  joins = λ a b c h k. omega (arith, h, k);
  breaks = λ at rule log. omega (arith, length-append log.faults (record { at = at; rule = rule } ∷ []));
  scalar = λ s log. omega arith;
  counted = counted-faults;
  exception = λ token log. omega arith;
  site = λ here at k log. omega arith;
  parameter = λ log. omega arith;
  loop = λ log. omega arith;
}
