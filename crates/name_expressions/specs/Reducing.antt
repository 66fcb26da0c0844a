-- The arguments of a reduction of an array: a reducer and an initial value.
use Rattle.std.specs.Prelude.{ℕ, List, Option, Some, None, option_map}
use Rattle.syntax_tree.specs.Syntax as syntax
use Rattle.syntax_tree.specs.Syntax.{Args, Expr}
use Rattle.typed_tree.specs.Decoded as part
use Rattle.typed_tree.specs.Decoded.{TypedPart}
use Rattle.typed_tree.specs.Syntax as typed
use Rattle.typed_tree.specs.Syntax.{Selections}
use Rattle.name_expressions.specs.declared.whole_names.Reducing.{Reducing}
use Rattle.name_rules.specs.Expressions.{Inside, expr}
use Rattle.name_rules.specs.Found.{Denoted, Found, value_denoted}
use Rattle.name_rules.specs.Judging.{Judging, both, pure, read, ◌>>=◌}
use Rattle.name_rules.specs.Parts.{array_shape, is_parallel, item_found, new_parameter, site_where, through, wrong_arguments}
use Rattle.name_rules.specs.Reducers.{folded_by, reducer_of}
use Rattle.name_rules.specs.Types.{component_of}
use Rattle.name_rules.specs.declared.found.Attribute.{Attribute}
use Rattle.name_rules.specs.declared.found.Folding.{Folding}
use Rattle.name_rules.specs.declared.found.Going.{Going}
use Rattle.name_rules.specs.declared.found.ObjectName.{ObjectName}
use Rattle.name_rules.specs.declared.scope.Context.{Context}
use Rattle.name_rules.specs.declared.scope.Names.{Names}
use Rattle.name_rules.specs.declared.types.Wanted.TheVariants as wanted
use Rattle.syntax_nodes.specs.Parts.{the_expr}
use Rattle.syntax_nodes.specs.Tables.{part_at}
use Rattle.syntax_nodes.specs.declared.nodes.Node.{Node}

-- two arguments without names
abbrev pub two_of : Args → Option (Expr × Expr)
two_of (syntax.AlsoArg (syntax.arg None r) (syntax.AlsoArg (syntax.arg None v) syntax.NoArg)) = Some (r, v)
two_of as' = None

abbrev pub reducing_of : List Node → Option Reducing → Option (Expr × Expr)
reducing_of ns None = None
reducing_of ns (Some r) = Some (the_expr (part_at ns r.reducer), the_expr (part_at ns r.initial))

-- a reduction of what is gone through, by a reducer and an initial value
unfoldable pub reduced_from : Going → TypedPart → TypedPart → Found → Option Folding → Option Found → Judging (Option Denoted)
reduced_from going chunk iteration value by x = both by x (λ g. folded_by going chunk iteration g value) >>= λ y. pure (option_map value_denoted y)

abbrev pub array_reduction_by : Names → Inside → Context → ObjectName → Selections → ℕ → Attribute → Expr → Expr → Judging (Option Denoted)
array_reduction_by names inside here p ss at a r v = do
  construct ← site_where here p.first (is_parallel a)
  n ← new_parameter
  i ← read (λ log. through log p ss (array_shape log p.subtype) n typed.Absent)
  c ← read (λ log. component_of (array_shape log p.subtype))
  f ← reducer_of names inside here r
  x ← expr names inside here wanted.Other v
  reduced_from (record { at = p.first; attribute = at; site = construct }) part.Nothing (part.AnIteration i) (item_found p.first n p.variable c) f x

abbrev pub reduced_two : Names → Inside → Context → ObjectName → Selections → ℕ → Attribute → ℕ → Args → Option (Expr × Expr) → Judging (Option Denoted)
reduced_two names inside here p ss at a bracket as' None = wrong_arguments names inside here bracket as'
reduced_two names inside here p ss at a bracket as' (Some e) = array_reduction_by names inside here p ss at a e.0 e.1
