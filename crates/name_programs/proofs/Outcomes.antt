-- What was judged of a program, and what is told of it.
use Rattle.std.proofs.Common.{◌≡◌, refl, sym, subst, List, [], ◌∷◌, Option, Some}
use Rattle.std.specs.Prelude.{option_map}
use Rattle.syntax_tree.specs.Syntax.{Program}
use Rattle.name_faults.specs.Least.{IsToldOf}
use Rattle.name_rules.specs.Programs.{Whole}
use Rattle.name_programs.specs.Resolving.{IsTold}
use Rattle.name_rules.specs.Resolved.{TypedOf, judged, typed_by}
use Rattle.name_rules.specs.declared.log.Fault.{Fault}
use Rattle.name_rules.specs.declared.log.Log.{Log}
use Rattle.name_rules.specs.declared.scope.Names.{Names}

pub least_told : (names : Names) (p : Program) (w : Option Whole) (log : Log) (f : Fault) → judged names p ≡ (w, log) → IsToldOf log.faults f → IsTold names p (Some f)
least_told names p w log f e h = subst (λ (r : Option Whole × Log). IsToldOf r.1.faults f) (sym e) h

pub typed_of : (names : Names) (p : Program) (w : Option Whole) (log : Log) → judged names p ≡ (w, log) → log.faults ≡ [] → TypedOf names p ≡ option_map (typed_by log) w
typed_of names p w log e h = rw e (rw h refl)
