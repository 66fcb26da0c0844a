-- How many objects there are: no fewer behind what is judged than before it.
use Rattle.std.proofs.Common.{◌≡◌, refl, ap, ℕ, ℤ, ◌+◌, ◌≤◌, length, length-append, Option, Bool, true, false, nat_le, nat_lt, ◌==◌, arith}
use Rattle.std.specs.Prelude.{not, ◌||◌}
use Rattle.name_rules.specs.Declarations.{cells_counted, object_written}
use Rattle.name_rules.specs.Judging.{unless}
use Rattle.name_rules.specs.Types.{saturated}
use Rattle.name_rules.specs.Limits.{most_cells, most_objects}
use Rattle.name_rules.specs.declared.log.Bound.TheVariants as bound
use Rattle.name_rules.specs.declared.log.Log.{Log}
use Rattle.name_rules.specs.declared.log.Rule.{Rule}
use Rattle.name_rules.specs.declared.log.Rule.TheVariants.{Limit}
use Rattle.name_rules.specs.declared.scope.Context.{Context}
use Rattle.name_rules.specs.declared.scope.Names.{Names}
use Rattle.name_laws.proofs.Walk.{Wide}
use Rattle.name_laws.proofs.Walked.{WalksProfiles}

abbrev pub many : Log → ℕ
many log = length log.objects

-- ---- objects stay

abbrev pub NoFewer : Log → Log → Type 0
NoFewer a b = many a ≤ many b

pub least : (n : ℕ) → n ≤ n
least n = omega arith

unless-many : (b : Bool) (at : ℕ) (rule : Rule) (log : Log) → (unless b at rule log).1.objects ≡ log.objects
unless-many true at rule log = refl
unless-many false at rule log = refl

pub counted-many : (token cells : ℕ) (log : Log) → NoFewer log (cells_counted token cells log).1
counted-many token cells log =
    let all = saturated (log.cells + cells) in
    let now = record log { declared = log.declared + 1; cells = all } in
    let mid = (unless (not (log.declared == most_objects)) token (Limit bound.Objects) now).1 in
    let one : mid.objects ≡ log.objects = unless-many (not (log.declared == most_objects)) token (Limit bound.Objects) now in
    let two : (cells_counted token cells log).1.objects ≡ mid.objects = unless-many (nat_lt most_cells log.cells || nat_le all most_cells) token (Limit bound.Cells) mid in
    omega (arith, ap length one, ap length two)

-- an object that is written is one more
pub written-many : (names : Names) (here : Context) (token n cells : ℕ) (constant : Bool) (value : Option ℤ) (log : Log) → many (object_written names here token n cells constant value log).1 ≡ many log + 1
written-many names here token n cells constant value log = length-append log.objects _

abbrev pub growing : Wide
growing = record {
  walk = record {
    Takes = λ names. Unit {0};
    R = NoFewer;
    stays = λ log. least (many log);
    joins = λ a b c f g. omega (arith, f, g);
    breaks = λ at rule log. least (many log);
    scalar = λ s log. least (many log);
    counted = counted-many;
    exception = λ token log. least (many log);
    site = λ here at k log. least (many log);
    parameter = λ log. least (many log);
    loop = λ log. least (many log);
  };
  shape = λ t log. least (many log);
  object = λ names here token s n cells constant value takes fits log i. omega (arith, written-many names here token n cells constant value log);
}

pub growing-profiles : WalksProfiles growing.walk
growing-profiles = record { profile = λ ts s log. least (many log) }
