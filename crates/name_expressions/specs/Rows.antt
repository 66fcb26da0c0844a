-- What stands in a dimension of an array's aggregate.
use Rattle.name_expressions.specs.declared.array_aggregates.Row.{Row}
use Rattle.name_rules.specs.Aggregates.{Component, component_at}
use Rattle.name_rules.specs.Expressions.{Inside}
use Rattle.name_rules.specs.declared.scope.Names.{Names}

abbrev pub component : Names → Inside → Row → Component
component names level row = component_at names level row.number row.from row.last row.subtype
