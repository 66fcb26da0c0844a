-- What the rules say at a place of a text.
use Rattle.std.specs.Prelude.{ℕ}
use Rattle.name_expressions.specs.declared.scene.Scene.{Scene}
use Rattle.name_rules.specs.Expressions.{Inside}
use Rattle.name_rules.specs.Primaries.{inside}
use Rattle.name_rules.specs.declared.scope.Context.{Context}
use Rattle.name_rules.specs.declared.scope.Names.{Names}
use Rattle.syntax_nodes.specs.Parts.{TreePart}
use Rattle.syntax_nodes.specs.Tables.{part_at}

-- what a rule says at a place of the text
abbrev pub said_at : {A : Type 0} → Scene → (Inside → Context → A) → A
said_at scene rule = rule (inside scene.names.now scene.levels) scene.here.now

-- the same where it asks what names stand for
abbrev pub named_at : {A : Type 0} → Scene → (Names → Inside → Context → A) → A
named_at scene rule = rule scene.names.now (inside scene.names.now scene.levels) scene.here.now

-- the judgement of what stands in one bracket more
abbrev pub below : Scene → Inside
below scene = inside scene.names.now scene.levels

-- what a number of the text stands for
abbrev pub node_at : Scene → ℕ → TreePart
node_at scene id = part_at scene.tree.now.nodes id
