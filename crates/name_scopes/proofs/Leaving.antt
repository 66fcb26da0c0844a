-- No fewer sites and faults are written, whatever is judged.
use Rattle.std.proofs.Common.{Bool, None, Option, Some, [], arith, false, length, length-append, nat_le, true, ℕ, ◌+◌, ◌==◌, ◌∷◌, ◌≤◌}
use Rattle.std.specs.Prelude.{nat_lt, not, ◌||◌}
use Rattle.name_rules.specs.Declarations.{cells_counted}
use Rattle.name_rules.specs.Iterations.{reverse_rule}
use Rattle.name_rules.specs.Judging.{unless}
use Rattle.name_rules.specs.Types.{saturated}
use Rattle.name_rules.specs.Limits.{most_cells, most_objects}
use Rattle.name_rules.specs.declared.log.Bound.TheVariants as bound
use Rattle.name_rules.specs.declared.log.Log.{Log}
use Rattle.name_rules.specs.declared.log.Rule.TheVariants.{ChunkRule, Limit}
use Rattle.name_rules.specs.declared.log.Rule.{Rule}
use Rattle.name_laws.proofs.Walk.{Walk, Wide}
use Rattle.name_laws.proofs.Walked.{WalksProfiles}
use Rattle.name_scopes.proofs.Tallies.{Tally, More, turned_by}

-- ---- reductions that go backwards, against faults

pub one-broken : (r : Option ℕ) (log : Log) → turned_by 1 r + length log.faults ≤ length (reverse_rule r log).1.faults
one-broken None log = omega arith
one-broken (Some at) log = omega (arith, length-append log.faults (record { at = at; rule = ChunkRule } ∷ []))

abbrev pub backwards : Tally
backwards = record {
  number = λ n. 0;
  backwards = 1;
  left = λ log. 0;
  owed = λ log. length log.faults;
  falls = λ a b h. omega (arith, h.1);
  given = λ here at k log. omega arith;
  broken = λ r log. omega (arith, one-broken r log);
}

-- ---- more is written, whatever is judged

unless-more : (b : Bool) (at : ℕ) (rule : Rule) (log : Log) → More log (unless b at rule log).1
unless-more true at rule log = (omega arith, omega arith)
unless-more false at rule log = (omega arith, omega (arith, length-append log.faults (record { at = at; rule = rule } ∷ [])))

pub counted-more : (token cells : ℕ) (log : Log) → More log (cells_counted token cells log).1
counted-more token cells log =
    let all = saturated (log.cells + cells) in
    let now = record log { declared = log.declared + 1; cells = all } in
    let mid = (unless (not (log.declared == most_objects)) token (Limit bound.Objects) now).1 in
    let one : More now mid = unless-more (not (log.declared == most_objects)) token (Limit bound.Objects) now in
    let two : More mid (unless (nat_lt most_cells log.cells || nat_le all most_cells) token (Limit bound.Cells) mid).1 = unless-more (nat_lt most_cells log.cells || nat_le all most_cells) token (Limit bound.Cells) mid in
    (omega (arith, one.0, two.0), omega (arith, one.1, two.1))

abbrev pub leaving : Walk
leaving = record {
  Takes = λ names. Unit {0};
  R = More;
  stays = λ log. (omega arith, omega arith);
  joins = λ a b c h k. (omega (arith, h.0, k.0), omega (arith, h.1, k.1));
  breaks = λ at rule log. (omega arith, omega (arith, length-append log.faults (record { at = at; rule = rule } ∷ [])));
  scalar = λ s log. (omega arith, omega arith);
  counted = counted-more;
  exception = λ token log. (omega arith, omega arith);
  site = λ here at k log. (omega (arith, length-append log.sites (record { at = at; around = here.owner; kind = k } ∷ [])), omega arith);
  parameter = λ log. (omega arith, omega arith);
  loop = λ log. (omega arith, omega arith);
}

abbrev pub leaving-wide : Wide
leaving-wide = record {
  walk = leaving;
  shape = λ t log. (omega arith, omega arith);
  object = λ names here token s n cells constant value takes fits log number. (omega arith, omega arith);
}

pub leaving-profiles : WalksProfiles leaving
leaving-profiles = record { profile = λ ts s log. (omega arith, omega arith) }
