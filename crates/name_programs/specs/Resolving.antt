-- What `resolve` returns: the typed program of a syntax tree without a fault, or the least fault.
use Rattle.std.specs.Prelude.{◌≡◌, ℕ, Option, Some, None, Result, Ok, Err}
use Rattle.syntax_tree.specs.Syntax.{Program}
use Rattle.typed_tree.specs.Programs as typed
use Rattle.typed_tree.specs.declared.typed.Typed.{Typed}
use Rattle.name_faults.specs.Least.{least_of}
use Rattle.name_programs.specs.declared.resolving.NameFault.{NameFault}
use Rattle.name_programs.specs.declared.resolving.NameFault.TheVariants as told
use Rattle.name_rules.specs.Resolved.{Faults, IsLeast, TypedOf, judged}
use Rattle.name_rules.specs.declared.log.Fault.{Fault}
use Rattle.name_rules.specs.declared.log.Rule.{Rule}
use Rattle.name_rules.specs.declared.log.Rule.TheVariants as rule
use Rattle.name_rules.specs.declared.scope.Names.{Names}

abbrev pub at_rule : ℕ → Rule → Option Fault
at_rule at r = Some (record { at = at; rule = r })

-- the fault that is told, or none where it is want of memory
abbrev pub fault_of : NameFault → Option Fault
fault_of (told.Unknown at) = at_rule at rule.Unknown
fault_of (told.Twice at) = at_rule at rule.Twice
fault_of (told.NotVisible at) = at_rule at rule.NotVisible
fault_of (told.WrongEnd at) = at_rule at rule.WrongEnd
fault_of (told.PolicyName at) = at_rule at rule.PolicyName
fault_of (told.WrongType at) = at_rule at rule.WrongType
fault_of (told.NotStatic at) = at_rule at rule.NotStatic
fault_of (told.StaticRange at) = at_rule at rule.StaticRange
fault_of (told.ChunkRule at) = at_rule at rule.ChunkRule
fault_of (told.ReduceRule at) = at_rule at rule.ReduceRule
fault_of (told.LimitPassed bound at) = at_rule at (rule.Limit bound)
fault_of told.OutOfMemory = None

-- the fault of a program that is told: the least one, and of several such the first
abbrev pub least_fault : Names → Program → Option Fault
least_fault names p = least_of (judged names p).1.faults

abbrev pub IsTold : Names → Program → Option Fault → Type 0
IsTold names p None = Unit {0}
IsTold names p (Some f) = (least_fault names p ≡ Some f) × IsLeast (Faults names p) f

abbrev pub Resolved : Names → Program → Result Typed NameFault → Type 0
Resolved names p (Ok t) = Some (typed.program t) ≡ TypedOf names p
Resolved names p (Err e) = IsTold names p (fault_of e)
