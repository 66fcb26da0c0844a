-- The faults of a program, its typed program, and the least fault.
use Rattle.name_rules.specs.Programs.{Whole, program}
use Rattle.name_rules.specs.Types.{typed_scalar}
use Rattle.name_rules.specs.declared.log.Bound.TheVariants as bound
use Rattle.name_rules.specs.declared.log.Dimension.{Dimension}
use Rattle.name_rules.specs.declared.log.Fault.{Fault}
use Rattle.name_rules.specs.declared.log.Field.{Field}
use Rattle.name_rules.specs.declared.log.Log.{Log}
use Rattle.name_rules.specs.declared.log.Rule.TheVariants.{ChunkRule, Limit, NotStatic, NotVisible, PolicyName, ReduceRule, StaticRange, Twice, Unknown, WrongEnd, WrongType}
use Rattle.name_rules.specs.declared.log.Rule.{Rule}
use Rattle.name_rules.specs.declared.log.Shape.TheVariants as shape
use Rattle.name_rules.specs.declared.log.Shape.{Shape}
use Rattle.name_rules.specs.declared.scope.Names.{Names}
use Rattle.syntax_tree.specs.Parsed.{depth_limit}
use Rattle.syntax_tree.specs.Syntax.{Program}
use Rattle.typed_tree.specs.Syntax as typed
use Rattle.typed_tree.specs.Syntax.{Program as TypedProgram, Subtype as TypedSubtype}
use Rattle.typed_tree.specs.declared.program.Bounds.{Bounds}
use Rattle.typed_tree.specs.declared.program.Field.{Field as TypedField}
use Rattle.std.specs.Prelude.{List, None, Option, [], map, option_map, ℕ, ◌*◌, ◌+◌, ◌∷◌, ◌≡◌, ◌≤◌, ◌⊎◌}

-- ---- the faults, and the typed program where there is none

abbrev pub fresh : Log
fresh = record { faults = []; shapes = []; objects = []; profiles = []; sites = []; exceptions = []; parameters = 0; loops = 0; declared = 0; cells = 0 }

unfoldable pub judged : Names → Program → Option Whole × Log
judged names p = program names depth_limit p fresh

abbrev pub IsIn : Fault → List Fault → Type 0
IsIn f [] = ⊥
IsIn f (g ∷ gs) = (f ≡ g) ⊎ IsIn f gs

-- the pairs of a token and a rule that is broken there
abbrev pub Faults : Names → Program → Fault → Type 0
Faults names p f = IsIn f (judged names p).1.faults

abbrev pub dimension_bounds : Dimension → Bounds
dimension_bounds d = record { low = d.low; high = d.high }

abbrev pub typed_field : Field → TypedField
typed_field f = record { name = f.name; subtype = f.number }

abbrev pub typed_subtype : Shape → TypedSubtype
typed_subtype (shape.Scalar s) = typed.OfScalar (typed_scalar s)
typed_subtype (shape.Array ds c n cells) = typed.Array (map dimension_bounds ds) n
typed_subtype (shape.Record fs cells) = typed.Record (map typed_field fs)

abbrev pub typed_by : Log → Whole → TypedProgram
typed_by log w = record { subtypes = map typed_subtype log.shapes; objects = log.objects; subs = w.subs; sites = log.sites; exceptions = log.exceptions; body = w.body; nonblocking = w.nonblocking; strict = w.strict }

abbrev pub typed_where : List Fault → Option TypedProgram → Option TypedProgram
typed_where [] t = t
typed_where (f ∷ fs) t = None

abbrev pub TypedOf : Names → Program → Option TypedProgram
TypedOf names p = typed_where (judged names p).1.faults (option_map (typed_by (judged names p).1) (judged names p).0)

-- ---- the least fault

-- codes in the order of the refusals
abbrev pub code : Rule → ℕ
code Unknown = 0
code Twice = 1
code NotVisible = 2
code WrongEnd = 3
code PolicyName = 4
code WrongType = 5
code NotStatic = 6
code StaticRange = 7
code ChunkRule = 8
code ReduceRule = 9
code (Limit bound.Objects) = 11
code (Limit bound.Cells) = 12
code (Limit bound.Arms) = 13
code (Limit bound.Dimensions) = 14
code (Limit bound.Levels) = 15

-- the token first, and then the code
abbrev pub key : Fault → ℕ
key f = f.at * 16 + code f.rule

pub record IsLeast (S : Fault → Type 0) (f : Fault) : Type 0 where
  pub holds : S f
  pub least : (g : Fault) → S g → key f ≤ key g
