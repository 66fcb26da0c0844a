-- Iterations and chunk specifications (5.5, 5.5.2), and reductions of value sequences (4.5.10).
use Rattle.name_rules.specs.Attributes.{attribute_at}
use Rattle.name_rules.specs.Expressions.{Inside, condition, expr, simple}
use Rattle.name_rules.specs.Found.{Bounded, Denoted, Found}
use Rattle.name_rules.specs.Judging.{Judging, both, breaks, given, joined, pure, some, unless, ◌>>=◌}
use Rattle.name_rules.specs.Names.{denoted_first, index, is_array}
use Rattle.name_rules.specs.Parts.{array_shape, new_parameter, new_site, through}
use Rattle.name_rules.specs.Ranges.{range}
use Rattle.name_rules.specs.Reducers.{folded_by, reducer_of}
use Rattle.name_rules.specs.Scope.{is_taken, with_entry}
use Rattle.name_rules.specs.Symbols.{symbol}
use Rattle.name_rules.specs.Types.{check_at, component_of}
use Rattle.name_rules.specs.Values.{any_integer}
use Rattle.name_rules.specs.declared.found.Attribute.TheVariants as attribute'
use Rattle.name_rules.specs.declared.found.Attribute.{Attribute}
use Rattle.name_rules.specs.declared.found.Bounded.{Bounded as KnownBounded}
use Rattle.name_rules.specs.declared.found.Denoted.TheVariants as denoted
use Rattle.name_rules.specs.declared.found.Denoted.{Denoted as KnownDenoted}
use Rattle.name_rules.specs.declared.found.Folding.{Folding}
use Rattle.name_rules.specs.declared.found.Found.TheVariants as known
use Rattle.name_rules.specs.declared.found.ObjectName.{ObjectName}
use Rattle.name_rules.specs.declared.log.Log.{Log}
use Rattle.name_rules.specs.declared.log.Rule.TheVariants.{ChunkRule, ReduceRule, Twice, Unknown, WrongType}
use Rattle.name_rules.specs.declared.log.Rule.{Rule}
use Rattle.name_rules.specs.declared.log.Shape.{Shape}
use Rattle.name_rules.specs.declared.scope.Context.{Context}
use Rattle.name_rules.specs.declared.scope.Names.{Names}
use Rattle.name_rules.specs.declared.scope.What.TheVariants as what
use Rattle.name_rules.specs.declared.scope.What.{What}
use Rattle.name_rules.specs.declared.types.Subtype.{Subtype}
use Rattle.name_rules.specs.declared.types.Wanted.TheVariants as wanted
use Rattle.syntax_tree.specs.Syntax as syntax
use Rattle.syntax_tree.specs.Syntax.{Expr, Iter, OptionalExpr, OptionalParallel, Parallel, Simple}
use Rattle.typed_tree.specs.Syntax as typed
use Rattle.typed_tree.specs.Syntax.{Iteration, Optional, Selections}
use Rattle.typed_tree.specs.declared.program.SiteKind.TheVariants as site
use Rattle.typed_tree.specs.declared.program.SiteKind.{SiteKind}
use Rattle.typed_tree.specs.declared.scalars.Check.{Check}
use Rattle.std.specs.List.{list_all}
use Rattle.std.specs.Prelude.{Bool, None, Option, Some, drop, false, if◌then◌else◌, is_some, length, not, option_map, true, ℕ, ◌+◌, ◌||◌}
use Rattle.typed_tree.specs.Decoded as part
use Rattle.name_rules.specs.TypedParts.{low_of, high_of, selections_of}
use Rattle.typed_tree.specs.Decoded.{TypedPart, as_expr, as_optional, as_iteration}

-- ---- parameters

abbrev pub parameter_what : ℕ → Option Bounded → What
parameter_what n None = what.Broken
parameter_what n (Some b) = what.Parameter n b.known.scalar

abbrev pub check_of : KnownBounded → Option Check
check_of b = option_map (check_at b.at) b.check

-- ---- chunk specifications

-- what a chunk specification gives, and its parameter, which is no name in the specification and the range
pub record Chunked : Type 0 where
  pub chunk : Option TypedPart
  pub entry : Option (ℕ × What)

abbrev pub counted : TypedPart → TypedPart
counted e = part.AChunk (typed.Count (as_expr e))

abbrev pub each_chunk : ℕ → Bounded → TypedPart
each_chunk n b = part.AChunk (typed.Each n (low_of b.part) (high_of b.part) (check_of b.known))

-- a number of chunks is an integer
unfoldable pub chunk_count : Inside → Context → Simple → Judging (Option TypedPart)
chunk_count level here s = simple level here wanted.Other s >>= λ x. given x any_integer

unfoldable pub chunked_by : Inside → Context → Parallel → Judging Chunked
chunked_by inner here (syntax.Unchunked at) = pure (record { chunk = Some part.Nothing; entry = None })
chunked_by inner here (syntax.Counted at s) = chunk_count inner here s >>= λ e. pure (record { chunk = option_map counted e; entry = None })
chunked_by inner here (syntax.Chunked at index r) = do
  b ← range inner here r
  n ← new_parameter
  pure (record { chunk = option_map (each_chunk n) b; entry = Some (index, parameter_what n b) })

-- ---- iterations

-- what an iteration goes through without its filter, with its parameter or item
pub record Walked : Type 0 where
  pub made : Option TypedPart
  pub token : ℕ
  pub entry : What
  pub filter : OptionalExpr
  pub reverse : Option ℕ

abbrev pub range_made : ℕ → Bool → Bounded → TypedPart
range_made n backwards b = part.AnIteration (typed.Range n backwards (low_of b.part) (high_of b.part) (check_of b.known) typed.Absent)

-- an iteration takes its filter
abbrev pub with_filter : Iteration → Optional → Iteration
with_filter (typed.Range n b l h c g) f = typed.Range n b l h c f
with_filter (typed.Components n c at r ss m s d g) f = typed.Components n c at r ss m s d f

abbrev pub filtered : TypedPart → TypedPart → TypedPart
filtered i f = part.AnIteration (with_filter (as_iteration i) (as_optional f))

-- the item of an array is of the component's subtype, and a variable where the array is one
abbrev pub item_what : ℕ → Bool → Option Subtype → What
item_what n v None = what.Broken
item_what n v (Some s) = what.Item n s v

abbrev pub array_walked : Log → ℕ → ℕ → OptionalExpr → ObjectName → Selections → Option Shape → Walked
array_walked log n token f p ss t = record { made = Some (part.AnIteration (through log p ss t n typed.Absent)); token = token; entry = item_what n p.variable (component_of t); filter = f; reverse = None }

abbrev pub no_array : ℕ → OptionalExpr → Walked
no_array token f = record { made = None; token = token; entry = what.Broken; filter = f; reverse = None }

-- E06: the name after `of` is no array object, at its first token
abbrev pub over_place : ℕ → ℕ → OptionalExpr → ObjectName → Selections → Judging Walked
over_place n token f p ss = λ log.
    (if is_array (array_shape log p.subtype) then pure (array_walked log n token f p ss (array_shape log p.subtype))
    else (breaks p.first WrongType >>= λ u. pure (no_array token f))) log

abbrev pub over_form : ℕ → ℕ → OptionalExpr → KnownDenoted → TypedPart → Judging Walked
over_form n token f (denoted.Value (known.Object p)) x = over_place n token f p (selections_of x)
over_form n token f d x = breaks (denoted_first d) WrongType >>= λ u. pure (no_array token f)

abbrev pub over_denoted : ℕ → ℕ → OptionalExpr → Option Denoted → Judging Walked
over_denoted n token f None = pure (no_array token f)
over_denoted n token f (Some d) = over_form n token f d.known d.part

unfoldable pub walked : Inside → Context → Iter → Judging Walked
walked level here (syntax.InRange index back r f) = do
  b ← range level here r
  n ← new_parameter
  pure (record { made = option_map (range_made n (is_some back)) b; token = index; entry = parameter_what n b; filter = f; reverse = back })
walked level here (syntax.OfName index nm f) = do
  d ← level.name here nm
  n ← new_parameter
  over_denoted n index f d

abbrev pub with_chunk : Names → Context → Option (ℕ × What) → Context
with_chunk names here None = here
with_chunk names here (Some e) = with_entry here (symbol names e.0) e.1

-- E05 Twice: the parameter of a construct and that of its chunks are one region
abbrev pub with_walked : Names → Context → ℕ → Walked → Judging Context
with_walked names here start w = unless (not (is_taken (symbol names w.token) start here)) w.token Twice >>= λ u. pure (with_entry here (symbol names w.token) w.entry)

abbrev pub filter_where : Names → Inside → Context → OptionalExpr → Judging (Option TypedPart)
filter_where names level here syntax.AbsentExpr = some part.Nothing
filter_where names level here (syntax.PresentExpr e) = condition names level here e

-- the owner of a construct's threads
abbrev pub thread_owner : Names → ℕ → ℕ
thread_owner names n = n + 1 + names.subs

-- what of an iteration is judged before what it does: its construct, its chunks, itself, and what is around its body
pub record Entered : Type 0 where
  pub construct : Option ℕ
  pub chunk : Option TypedPart
  pub iteration : Option TypedPart
  pub here : Context
  pub reverse : Option ℕ

abbrev pub in_construct : Names → Context → Option ℕ → Context
in_construct names here None = here
in_construct names here (Some n) = record here { owner = thread_owner names n }

-- chunk specification and range are evaluated outside of the construct's threads, the filter in them
unfoldable pub entered_with : Names → Inside → Context → Option ℕ → ℕ → Chunked → Iter → Judging Entered
entered_with names level here construct start c i = do
  w ← walked level here i
  inner ← with_walked names (with_chunk names (in_construct names here construct) c.entry) start w
  f ← filter_where names level inner w.filter
  pure (record { construct = construct; chunk = c.chunk; iteration = joined filtered w.made f; here = inner; reverse = w.reverse })

abbrev pub parallel_at : Parallel → ℕ
parallel_at (syntax.Unchunked at) = at
parallel_at (syntax.Counted at s) = at
parallel_at (syntax.Chunked at index r) = at

-- the iteration of a loop or of a value sequence; `inner` judges what stands in brackets of the chunk specification
unfoldable pub entered : Names → Inside → Inside → Context → SiteKind → OptionalParallel → Iter → Judging Entered
entered names level inner here k syntax.AbsentParallel i = entered_with names level here None (length here.scope) (record { chunk = Some part.Nothing; entry = None }) i
entered names level inner here k (syntax.PresentParallel p) i = do
  n ← new_site here (parallel_at p) k
  c ← chunked_by inner here p
  entered_with names level here (Some n) (length here.scope) c i

-- ---- reductions of value sequences: everything stands in their brackets

-- E11 ReduceRule: an attribute other than Reduce, at its identifier
abbrev pub is_reduce : Option Attribute → Bool
is_reduce (Some attribute'.Reduce) = true
is_reduce a = false

-- E11 ChunkRule: `reverse` in a value sequence
abbrev pub reverse_rule : Option ℕ → Judging (Unit {0})
reverse_rule None = pure tt
reverse_rule (Some at) = breaks at ChunkRule

abbrev pub is_reduce_rule : Rule → Bool
is_reduce_rule ReduceRule = true
is_reduce_rule r = false

-- what was found, and whether no faults but those of reduction rules were written on the way
abbrev pub only_reduce_rules : {A : Type 0} → Judging A → Judging (A × Bool)
only_reduce_rules p = λ log. let r = p log in ((r.0, list_all (λ f. is_reduce_rule f.rule) (drop (length log.faults) r.1.faults)), r.1)

abbrev pub sequence_given : ℕ → ℕ → Entered → Folding → Found → Found → Judging (Option Found)
sequence_given bracket attribute e f x v = both e.chunk e.iteration (λ c i. folded_by (record { at = bracket; attribute = attribute; site = e.construct }) c i f x v)

abbrev pub sequence_folded : Names → Inside → Context → ℕ → OptionalParallel → Iter → Expr → ℕ → Expr → Expr → Judging (Option ℕ × Option Found)
sequence_folded names level here bracket p i value attribute reducer initial = do
  f ← reducer_of names level here reducer
  e ← entered names level level here site.Reduction p i
  x ← expr names level e.here wanted.Other value
  v ← expr names level here wanted.Other initial
  z ← given f (λ g. both x v (sequence_given bracket attribute e g))
  pure (e.reverse, z)

-- rules of the whole, where its parts have no fault but of reduction rules
abbrev pub sequence_rules : ℕ → Option Attribute → (Option ℕ × Option Found) × Bool → Judging (Option Found)
sequence_rules attribute a p = if not p.1 then pure None else (do
  u ← unless (not (is_some a) || is_reduce a) attribute ReduceRule
  w ← reverse_rule p.0.0
  pure p.0.1)

-- E05 Unknown: an attribute that the language doesn't have
unfoldable pub sequence : Names → Inside → Context → ℕ → OptionalParallel → Iter → Expr → ℕ → Expr → Expr → Judging (Option Found)
sequence names level here bracket p i value attribute reducer initial = do
  u ← unless (is_some (attribute_at (symbol names attribute))) attribute Unknown
  r ← only_reduce_rules (sequence_folded names level here bracket p i value attribute reducer initial)
  sequence_rules attribute (attribute_at (symbol names attribute)) r
