-- No reduction of the typed program of a text goes backwards, since one that does leaves a fault.
use Rattle.std.proofs.Common.{List, None, Option, Some, [], arith, ◌∷◌, length, option_map, refl, subst, ◌≡◌, ◌≤◌}
use Rattle.syntax_tree.specs.Syntax.{Program}
use Rattle.typed_tree.specs.Syntax as typed
use Rattle.syntax_tree.specs.Parsed.{depth_limit}
use Rattle.name_rules.specs.Resolved.{TypedOf, fresh, judged, typed_by, typed_where}
use Rattle.name_rules.specs.declared.log.Fault.{Fault}
use Rattle.name_rules.specs.declared.scope.Names.{Names}
use Rattle.name_laws.proofs.Lying.{typed-from}
use Rattle.name_scopes.proofs.Tallies.{in_program}
use Rattle.name_scopes.proofs.Leaving.{backwards}
use Rattle.name_scopes.proofs.Measures.{option-of}
use Rattle.name_scopes.proofs.Records.{whole-of}
use Rattle.name_scopes.proofs.SpendsPrograms.{s-program}

-- what is found counts for no more than the faults that are written
judged-counted : (names : Names) (text : Program) → (option-of (whole-of backwards)).size (judged names text).0 ≤ length (judged names text).1.faults
unfolding judged
judged-counted names text = let h = (s-program backwards names depth_limit text).at fresh in omega (arith, h.1)

program-counted : (names : Names) (text : Program) (program : typed.Program) → TypedOf names text ≡ Some program → in_program backwards program ≤ length (judged names text).1.faults
program-counted names text program e =
    let log = (judged names text).1 in
    let r = typed-from log.faults log (judged names text).0 program e in
    subst (λ p. in_program backwards p ≤ length log.faults) r.2 (subst (λ o. (option-of (whole-of backwards)).size o ≤ length log.faults) r.1 (judged-counted names text))

clean : (fs : List Fault) (o : Option typed.Program) (t : typed.Program) → typed_where fs o ≡ Some t → length fs ≡ 0
clean [] o t e = refl
clean (f ∷ fs) o t e = absurd (let z : ◌≡◌ {A = Option typed.Program} None (Some t) = e in cc)

pub none-backwards : (names : Names) (text : Program) (program : typed.Program) → TypedOf names text ≡ Some program → in_program backwards program ≡ 0
none-backwards names text program e = omega (arith, program-counted names text program e, clean (judged names text).1.faults (option_map (typed_by (judged names text).1) (judged names text).0) program e)
