-- The numbers of parallel constructs are distinct, since each is given out once and what is found is used once; and they are
-- greater within the threads of others, since that is judged behind them.
use Rattle.std.proofs.Common.{Some, arith, length, subst, ℕ, ◌+◌, ◌<◌, ◌≡◌, ◌≤◌}
use Rattle.syntax_tree.specs.Syntax.{Program}
use Rattle.typed_tree.specs.Syntax as typed
use Rattle.syntax_tree.specs.Parsed.{depth_limit}
use Rattle.name_rules.specs.Resolved.{TypedOf, fresh, judged}
use Rattle.name_rules.specs.declared.scope.Names.{Names}
use Rattle.name_laws.proofs.Lying.{typed-from}
use Rattle.name_sites.proofs.Leaving.{left, left-none, left-one}
use Rattle.name_sites.proofs.Measures.{option-of}
use Rattle.name_sites.proofs.Records.{whole-of}
use Rattle.name_sites.proofs.SpendsPrograms.{s-program}
use Rattle.name_sites.specs.Law.{SitesLaw}
use Rattle.name_sites.proofs.Counts.{in_program}
use Rattle.name_sites.proofs.Nested.{nested-program}
use Rattle.name_sites.proofs.Plain.{p-program}

-- what is found holds a number at most once, and not at all where the number isn't given out in the end
judged-once : (s : ℕ) (names : Names) (text : Program) → (option-of (whole-of s)).size (judged names text).0 + left s (judged names text).1 ≤ 1
unfolding judged
judged-once s names text = let h = (s-program s names depth_limit text).at fresh in omega (arith, h.1, left-one s fresh)

program-once : (s : ℕ) (names : Names) (text : Program) (program : typed.Program) → TypedOf names text ≡ Some program → in_program s program + left s (judged names text).1 ≤ 1
program-once s names text program e =
    let log = (judged names text).1 in
    let r = typed-from log.faults log (judged names text).0 program e in
    subst (λ p. in_program s p + left s log ≤ 1) r.2 (subst (λ o. (option-of (whole-of s)).size o + left s log ≤ 1) r.1 (judged-once s names text))

pub sites_law : SitesLaw
sites_law = record {
  distinct = λ names text program e s. omega (arith, p-program s program, program-once s names text program e);
  listed = λ names text program e s h.
      let log = (judged names text).1 in
      let r = typed-from log.faults log (judged names text).0 program e in
      subst (λ p. s < length p.sites) r.2 (left-none s log (omega (arith, p-program s program, program-once s names text program e, h)));
  nested = λ names text program e. nested-program program (λ s. omega (arith, program-once s names text program e));
}
