-- What names stand for where a text stands: an object and the selectors of a path (9.10.1).
use Rattle.std.specs.Prelude.{ℕ, ℤ, pos, List, [], ◌∷◌, ◌++◌, map, replicate, Option, Some, None, Bool, true, false, ◌||◌, cond, nat_eq}
use Rattle.typed_tree.specs.declared.expressions.Root.{Root}
use Rattle.typed_tree.specs.declared.expressions.Root.TheVariants as root
use Rattle.typed_tree.specs.Syntax.{Expr, Static, Parameter, Binary, Selections, Whole, Field, Index, Iteration, Range, Components, Chunk, NoChunk, Count, Each}
use Rattle.check_effects.specs.Effects.{by_distance}
use Rattle.check_clashes.specs.declared.effects.Selector.{Selector}
use Rattle.check_clashes.specs.declared.effects.Selector.TheVariants as selector-of
use Rattle.check_inference.specs.declared.environment.Environment.{Environment}
use Rattle.check_inference.specs.declared.environment.Item.{Item}
use Rattle.check_inference.specs.declared.environment.Named.{Named}

-- a variable and how a path goes on from it
pub record Name : Type 0 where
  pub object : ℕ
  pub selectors : List Selector

-- the path that an item of that number stands for
pub record Bound : Type 0 where
  pub item : ℕ
  pub name : Name

-- where a text stands: whether constructs are recorded, the arm of a block, the parameters of the construct that is
-- judged, items with the innermost first, the target of the assignment, and the variables that are declared around
pub record Surroundings : Type 0 where
  pub sites : Bool
  pub arm : ℕ
  pub loop_parameter : Option ℕ
  pub chunk_parameter : Option ℕ
  pub items : List Bound
  pub target : Name
  pub hidden : List ℕ

-- what code holds as references

abbrev pub name_of : Named → Name
name_of n = record { object = n.object; selectors = n.selectors.now }

abbrev pub bound_of : Item → Bound
bound_of i = record { item = i.item; name = name_of i.named }

abbrev pub place_of : Environment → Surroundings
place_of e = record {
  sites = e.sites;
  arm = e.arm;
  loop_parameter = e.loop_parameter;
  chunk_parameter = e.chunk_parameter;
  items = map bound_of e.items.now;
  target = name_of e.target;
  hidden = e.hidden.now;
}

abbrev pub no_name : Name
no_name = record { object = 0; selectors = [] }

-- a parameter of that number
abbrev pub is_one : Option ℕ → ℕ → Bool
is_one None k = false
is_one (Some j) k = nat_eq k j

-- a parameter, unless it has that number
abbrev pub other : ℕ → Option ℕ → Option ℕ
other k None = None
other k (Some j) = cond (nat_eq j k) None (Some j)

-- what a parameter and a distance are as an index
abbrev pub role : Surroundings → ℕ → ℤ → Selector
role env k distance = cond (is_one env.chunk_parameter k) (selector-of.Chunk distance) (cond (is_one env.loop_parameter k) (selector-of.Loop distance) selector-of.Any)

-- what an index is
abbrev pub selector : Surroundings → Expr → Selector
selector env (Static at value literal mentions) = selector-of.Fixed value
selector env (Parameter at k) = role env k (pos 0)
selector env (Binary at op class e f) = by_distance selector-of.Any (role env) op class e f
selector env e = selector-of.Any

-- the selectors of a path with those that a name goes on by
unfoldable pub selectors_with : Surroundings → Selections → List Selector → List Selector
selectors_with env Whole found = found
selectors_with env (Field number offset rest) found = selectors_with env rest (found ++ selector-of.Field number ∷ [])
selectors_with env (Index at e low high stride rest) found = selectors_with env rest (found ++ selector env e ∷ [])

-- the path of an item
unfoldable pub item_name : List Bound → ℕ → Name
item_name [] k = no_name
item_name (b ∷ bs) k = cond (nat_eq k b.item) b.name (item_name bs k)

abbrev pub root_name : Surroundings → Root → Name
root_name env (root.Object x) = record { object = x; selectors = [] }
root_name env (root.Item k) = item_name env.items k

-- the path of a name
abbrev pub named : Surroundings → Root → Selections → Name
named env from selections = record { object = (root_name env from).object; selectors = selectors_with env selections (root_name env from).selectors }

-- below an iteration or a chunk specification that isn't judged, where a parameter of that number is another's
abbrev pub hide : ℕ → Surroundings → Surroundings
hide k env = record env { loop_parameter = other k env.loop_parameter; chunk_parameter = other k env.chunk_parameter }

abbrev pub chunk_hidden : Chunk → Surroundings → Surroundings
chunk_hidden NoChunk env = env
chunk_hidden (Count e) env = env
chunk_hidden (Each k low high check) env = hide k env

-- where threads of a construct stand that is judged
abbrev pub chunk_parameter : Chunk → Option ℕ
chunk_parameter NoChunk = None
chunk_parameter (Count e) = None
chunk_parameter (Each k low high check) = Some k

abbrev pub item_selector : Bool → Selector
item_selector true = selector-of.Loop (pos 0)
item_selector false = selector-of.Any

-- the path of a component that an iteration over an array reaches: each dimension has an index
abbrev pub component : Bool → ℕ → Name → Name
component judged dimensions n = record n { selectors = n.selectors ++ replicate dimensions (item_selector judged) }

abbrev pub with_item : ℕ → Name → Surroundings → Surroundings
with_item k n env = record env { items = record { item = k; name = n } ∷ env.items }

-- where the text of an iteration stands: what it goes through stands in `around`, and its text in `env` but for the
-- iteration's own parameter or item
abbrev pub below : Surroundings → Bool → Iteration → Surroundings → Surroundings
below around false (Range k reverse low high check filter) env = hide k env
below around true (Range k reverse low high check filter) env = record env { loop_parameter = Some k; chunk_parameter = other k env.chunk_parameter }
below around judged (Components k true at from selections count stride dimensions filter) env = env
below around judged (Components k false at from selections count stride dimensions filter) env = with_item k (component judged dimensions (named around from selections)) env

-- whether a variable is declared in the text around
unfoldable pub is_hidden : List ℕ → ℕ → Bool
is_hidden [] x = false
is_hidden (y ∷ ys) x = nat_eq x y || is_hidden ys x

-- where a text stands whose constructs are recorded or not, and nothing is around it
abbrev pub outset : Bool → Surroundings
outset sites = record { sites = sites; arm = 0; loop_parameter = None; chunk_parameter = None; items = []; target = no_name; hidden = [] }

-- where a construct stands that is judged
abbrev pub judging : Surroundings → Surroundings
judging env = record env { sites = false; arm = 0; hidden = [] }
