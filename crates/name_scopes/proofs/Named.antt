-- What names give of a program's text.
use Rattle.std.proofs.Common.{◌≡◌, ℕ, zero, suc, ◌*◌, ◌≤◌, ℤ, pos, negsuc, ◌+ℤ◌, ◌-ℤ◌, List, [], ◌∷◌, true, int_le, refl, subst, arith}
use Rattle.std.proofs.lemmas.Int.{ints}
use Rattle.std.proofs.lemmas.Option.{none-some}
use Rattle.typed_tree.specs.Syntax.{Array, Subtype}
use Rattle.typed_tree.specs.declared.program.Bounds.{Bounds}
use Rattle.ada_meaning.specs.Values.{components, count, to_nat}
use Rattle.typed_scopes.specs.Named.{NoneEmpty}
use Rattle.name_laws.specs.Formed.{HasComponents, HaveComponents, HaveIndexes}
use Rattle.name_laws.proofs.CellsFormed.{formed_law}
use Rattle.name_flow.proofs.FlowPrograms.{flow_law}
use Rattle.name_flow.proofs.Once.{objects_law}
use Rattle.name_sites.proofs.Distinct.{sites_law}
use Rattle.name_scopes.specs.Law.{NamedProgramsLaw}
use Rattle.name_scopes.proofs.Scoped.{scoped_law}

-- a product of what isn't zero isn't
both-some : (a b : ℕ) → 1 ≤ a → 1 ≤ b → 1 ≤ a * b
both-some zero b h k = absurd (omega (arith, h))
both-some (suc a) zero h k = absurd (omega (arith, k))
both-some (suc a) (suc b) h k = omega arith

count-some : (low high : ℤ) → int_le low high ≡ true → 1 ≤ count low high
count-some low high e = go (high +ℤ pos 1 -ℤ low) refl
  where
    go : (z : ℤ) → z ≡ high +ℤ pos 1 -ℤ low → 1 ≤ to_nat z
    go (pos zero) is = absurd (omega (arith, ints, e, is))
    go (pos (suc m)) is = omega arith
    go (negsuc n) is = absurd (omega (arith, ints, e, is))

components-some : (bs : List Bounds) → HaveIndexes bs → 1 ≤ components bs
components-some [] h = omega arith
components-some (b ∷ bs) h = both-some (count b.low b.high) (components bs) (count-some b.low b.high h.0) (components-some bs h.1)

none-empty : (table : List Subtype) → HaveComponents table → NoneEmpty table
none-empty [] h n ds k e = absurd (none-some (Array ds k) e)
none-empty (t ∷ ts) h zero ds k e = components-some ds (let same : t ≡ Array ds k = cc in subst HasComponents same h.0)
none-empty (t ∷ ts) h (suc n) ds k e = none-empty ts h.1 n ds k e

pub named_law : NamedProgramsLaw
named_law names text program e =
    let (shown, scoped) = scoped_law names text program e in (
      shown,
      record {
        filled = none-empty program.subtypes (formed_law.components names text program e);
        scoped = scoped;
        stays = flow_law.stays names text program e;
        objects = objects_law names text program e;
        distinct = sites_law.distinct names text program e;
        rows = sites_law.listed names text program e;
        nested = sites_law.nested names text program e;
      },
    )
