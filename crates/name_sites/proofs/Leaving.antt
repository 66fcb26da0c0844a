-- What is left of the numbers of sites falls, whatever is judged.
use Rattle.std.proofs.Common.{Bool, [], arith, eqb-true, false, if◌then◌else◌, le-leb, leb-false, leb-true, length, length-append, nat_le, refl, sym, true, true≢false, ℕ, ◌+◌, ◌==◌, ◌∷◌, ◌≡◌, ◌≤◌, ◌<◌}
use Rattle.std.specs.Prelude.{nat_lt, not, ◌||◌}
use Rattle.name_rules.specs.Declarations.{cells_counted}
use Rattle.name_rules.specs.Judging.{unless}
use Rattle.name_rules.specs.Types.{saturated}
use Rattle.name_rules.specs.Limits.{most_cells, most_objects}
use Rattle.name_rules.specs.declared.log.Bound.TheVariants as bound
use Rattle.name_rules.specs.declared.log.Log.{Log}
use Rattle.name_rules.specs.declared.log.Rule.TheVariants.{Limit}
use Rattle.name_rules.specs.declared.log.Rule.{Rule}
use Rattle.name_laws.proofs.Walk.{Walk, Wide}
use Rattle.name_laws.proofs.Walked.{WalksProfiles}
use Rattle.typed_sites.specs.Sites.{in_number}

-- 1 where a number isn't given out yet
abbrev pub left : ℕ → Log → ℕ
left s log = if nat_le (length log.sites) s then 1 else 0

-- at least as many sites
abbrev pub More : Log → Log → Type 0
More a b = length a.sites ≤ length b.sites

falls : (b c : Bool) → (c ≡ true → b ≡ true) → (if c then 1 else 0) ≤ (if b then 1 else 0)
falls true true f = omega arith
falls true false f = omega arith
falls false true f = absurd (true≢false (sym (f refl)))
falls false false f = omega arith

pub left-falls : (s : ℕ) (a b : Log) → More a b → left s b ≤ left s a
left-falls s a b h = falls (nat_le (length a.sites) s) (nat_le (length b.sites) s) (λ e. le-leb (length a.sites) s (omega (arith, h, leb-true (length b.sites) s e)))

pub left-one : (s : ℕ) (log : Log) → left s log ≤ 1
left-one s log = falls true (nat_le (length log.sites) s) (λ e. refl)

-- where nothing is left of a number, it is that of a site
pub left-none : (s : ℕ) (log : Log) → left s log ≤ 0 → s < length log.sites
left-none s log h = by (nat_le (length log.sites) s) refl h
  where
    by : (b : Bool) → nat_le (length log.sites) s ≡ b → (if b then 1 else 0) ≤ 0 → s < length log.sites
    by true e k = absurd (omega (arith, k))
    by false e k = leb-false (length log.sites) s e

one-less : (b c d : Bool) → (b ≡ true → c ≡ true) → (d ≡ true → c ≡ true) → (b ≡ true → d ≡ true → ⊥) → (if b then 1 else 0) + (if d then 1 else 0) ≤ (if c then 1 else 0)
one-less true true true f g h = absurd (h refl refl)
one-less true false d f g h = absurd (true≢false (sym (f refl)))
one-less true true false f g h = omega arith
one-less false true d f g h = by d
  where
    by : (d : Bool) → 0 + (if d then 1 else 0) ≤ 1
    by true = omega arith
    by false = omega arith
one-less false false true f g h = absurd (true≢false (sym (g refl)))
one-less false false false f g h = omega arith

pub number-given : (s n m : ℕ) → m ≡ n + 1 → in_number s n + (if nat_le m s then 1 else 0) ≤ (if nat_le n s then 1 else 0)
number-given s n m e =
    one-less (n == s) (nat_le n s) (nat_le m s) (λ p. le-leb n s (omega (arith, eqb-true n s p))) (λ p. le-leb n s (omega (arith, leb-true m s p, e)))
    (λ p q. omega (arith, eqb-true n s p, leb-true m s q, e))

unless-more : (b : Bool) (at : ℕ) (rule : Rule) (log : Log) → More log (unless b at rule log).1
unless-more true at rule log = omega arith
unless-more false at rule log = omega arith

pub counted-more : (token cells : ℕ) (log : Log) → More log (cells_counted token cells log).1
counted-more token cells log =
    let all = saturated (log.cells + cells) in
    let now = record log { declared = log.declared + 1; cells = all } in
    let mid = (unless (not (log.declared == most_objects)) token (Limit bound.Objects) now).1 in
    let one : More now mid = unless-more (not (log.declared == most_objects)) token (Limit bound.Objects) now in
    let two : More mid (unless (nat_lt most_cells log.cells || nat_le all most_cells) token (Limit bound.Cells) mid).1 = unless-more (nat_lt most_cells log.cells || nat_le all most_cells) token (Limit bound.Cells) mid in
    omega (arith, one, two)

abbrev pub leaving : Walk
leaving = record {
  Takes = λ names. Unit {0};
  R = More;
  stays = λ log. omega arith;
  joins = λ a b c h k. omega (arith, h, k);
  breaks = λ at rule log. omega arith;
  scalar = λ s log. omega arith;
  counted = counted-more;
  exception = λ token log. omega arith;
  site = λ here at k log. omega (arith, length-append log.sites (record { at = at; around = here.owner; kind = k } ∷ []));
  parameter = λ log. omega arith;
  loop = λ log. omega arith;
}

abbrev pub leaving-wide : Wide
leaving-wide = record {
  walk = leaving;
  shape = λ t log. omega arith;
  object = λ names here token s n cells constant value takes fits log number. omega arith;
}

pub leaving-profiles : WalksProfiles leaving
leaving-profiles = record { profile = λ ts s log. omega arith }
