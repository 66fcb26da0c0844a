-- What functions say of what they emit.
use Rattle.std.specs.Prelude.{◌≡◌, ℕ, List, None, Some, Option, Bool, true, false, cond, not, ◌&&◌, length, IsTrue, nat_eq, nat_lt}
use Rattle.behaviours.specs.Paths.{Entity, VariableOf, ConstantOf, entity_eq}
use Rattle.lower_emission.specs.declared.types.Named.{Named}
use Rattle.lower_emission.specs.declared.types.Where.{Where}
use Rattle.lower_emission.specs.declared.types.Level.{Level}
use Rattle.lower_emission.specs.declared.types.Level.TheVariants.{Own, Around, Main}
use Rattle.lower_emission.specs.declared.types.Placed.{Placed}
use Rattle.lower_emission.specs.Emits.{Emit, written}
use Rattle.lower_emission.specs.Scope.{Scope, moved_named, moved_where}
pub use Rattle.lower_emission.specs.Texts.{place}
use Rattle.lower_values.specs.declared.types.Names.{Names, Outset, And'}
use Rattle.lower_values.specs.declared.types.Link.TheVariants.{Object, Parameter, Item, Target, Handled, Exit, Thread}
use Rattle.lower_values.specs.declared.types.Env.{Env}
use Rattle.lower_values.specs.declared.types.Emitter.{Emitter}
use Rattle.typed_tree.specs.declared.typed.Typed.{Typed}
use Rattle.typed_tree.specs.declared.node.Node.{Node}
use Rattle.typed_tree.specs.Programs.{program}
use Rattle.typed_tree.specs.Syntax.{Program}

abbrev pub entity : Bool → ℕ → Entity
entity constant x = cond constant (ConstantOf x) (VariableOf x)

-- ---- what names stand for

abbrev pub objects : Names → Entity → Option Named
objects Outset y = None
objects (And' (Object constant x named) p outer) y = cond (entity_eq (entity constant x) y) (Some named) (objects outer y)
objects (And' Thread p outer) y = moved_named (objects outer y)
objects (And' _ p outer) y = objects outer y

abbrev pub parameters : Names → ℕ → Option Where
parameters Outset j = None
parameters (And' (Parameter k w) p outer) j = cond (nat_eq j k) (Some w) (parameters outer j)
parameters (And' Thread p outer) j = moved_where (parameters outer j)
parameters (And' _ p outer) j = parameters outer j

-- whether an item is of the kind that is looked for
abbrev pub is_of : Bool → Bool → Bool
is_of true constant = constant
is_of false constant = not constant

abbrev pub items : Names → Bool → ℕ → Option Named
items Outset c j = None
items (And' (Item constant k named) p outer) c j = cond (is_of c constant && nat_eq j k) (Some named) (items outer c j)
items (And' Thread p outer) c j = moved_named (items outer c j)
items (And' _ p outer) c j = items outer c j

abbrev pub target_of : Names → Option Named
target_of Outset = None
target_of (And' (Target named) p outer) = Some named
target_of (And' Thread p outer) = moved_named (target_of outer)
target_of (And' _ p outer) = target_of outer

abbrev pub handled_of : Names → Option Where
handled_of Outset = None
handled_of (And' (Handled w) p outer) = Some w
handled_of (And' Thread p outer) = moved_where (handled_of outer)
handled_of (And' _ p outer) = handled_of outer

abbrev pub exits : Names → ℕ → Option ℕ
exits Outset j = None
exits (And' (Exit number to) p outer) j = cond (nat_eq number j) (Some to) (exits outer j)
exits (And' Thread p outer) j = None
exits (And' _ p outer) j = exits outer j

abbrev pub env_of : Env → Scope
env_of e = record {
  object = λ y. objects e.names y;
  parameter = λ j. parameters e.names j;
  item = λ j. items e.names false j;
  constant_item = λ j. items e.names true j;
  target = target_of e.names;
  handled = handled_of e.names;
  exits = λ j. exits e.names j;
  text = λ bytes. place e.texts.now bytes;
  free = e.free;
  entry = e.entry;
  leaving = e.leaving;
  body = e.body;
  nest = e.nest;
}

-- ---- what was done to code

-- if the code is whole, this was done to it
abbrev pub Wrote : (List Placed → List Placed) → Emitter → Emitter → Type 0
Wrote f before after = IsTrue after.whole → IsTrue before.whole × (after.code ≡ f before.code)

-- if the code is whole, it is as it was, and this was found
abbrev pub Learns : {A : Type 0} → A → Emitter → A → Emitter → Type 0
Learns a before found after = IsTrue after.whole → IsTrue before.whole × ((after.code ≡ before.code) × (found ≡ a))

-- if the code is whole, it is as it was, and this is the number
abbrev pub Finds : ℕ → Emitter → ℕ → Emitter → Type 0
Finds n before found after = IsTrue after.whole → IsTrue before.whole × ((after.code ≡ before.code) × (found ≡ n))

-- if the code is whole, this was done to it, and the number is that of what came next before
abbrev pub Leaps : (List Placed → List Placed) → Emitter → ℕ → Emitter → Type 0
Leaps f before found after = IsTrue after.whole → IsTrue before.whole × ((after.code ≡ f before.code) × (found ≡ length before.code))

-- ---- what is lost, and why

-- a number has room in 32 bits
abbrev pub is_narrow : ℕ → Bool
is_narrow n = nat_lt n 4294967296

-- in 64
abbrev pub is_long : ℕ → Bool
is_long n = nat_lt n 18446744073709551616

-- how far outward a frame is has room
abbrev pub is_near : Level → Bool
is_near (Around n) = is_narrow n
is_near Own = true
is_near Main = true

-- where memory isn't short it wasn't before, and the code is whole exactly where it was and this holds
pub record Fits (holds : Bool) (before after : Emitter) : Type 0 where
  pub fits : after.short ≡ false → (before.short ≡ false) × (after.whole ≡ (before.whole && holds))

unfoldable pub program_of : Typed → Program
program_of t = program t

-- the program's tables and nodes
abbrev pub tables : Env → Program
tables e = program_of e.typed.now

abbrev pub nodes : Env → List Node
nodes e = e.typed.now.nodes

abbrev pub Emits : Emit → Emitter → Emitter → Type 0
Emits e before after = Wrote (written e) before after
