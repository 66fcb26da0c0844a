-- What is known where code is emitted, and how code is put together.
use Rattle.std.specs.Prelude.{ℕ, ◌+◌, max, nat_eq, Option, Some, None, Bool, true, false, cond, not, ◌&&◌, List}
use Rattle.behaviours.specs.Paths.{Entity, VariableOf, ConstantOf, entity_eq}
use Rattle.typed_tree.specs.declared.scalars.Scalar.{Scalar}
use Rattle.typed_tree.specs.declared.expressions.Root.{Root}
use Rattle.typed_tree.specs.declared.expressions.Root.TheVariants as root
use Rattle.ada_meaning.specs.Values.{is_modular}
use Rattle.stack_code.specs.declared.code.Around as body
use Rattle.stack_code.specs.declared.code.Around.TheVariants.{Site}
use Rattle.stack_code.specs.declared.code.SiteKind.{SiteKind}
use Rattle.stack_code.specs.declared.code.SiteKind.TheVariants as kind
use Rattle.stack_code.specs.declared.instr.Instr.{Instr}
use Rattle.stack_code.specs.declared.instr.Instr.TheVariants.{Fork, Local, Outer, Global, LoadL, LoadO, LoadG, StoreL, StoreO, StoreG, SetL, USetL}
use Rattle.lower_emission.specs.declared.types.Where.{Where}
use Rattle.lower_emission.specs.declared.types.Named.{Named}
use Rattle.lower_emission.specs.declared.types.Mark.{Mark}
use Rattle.lower_emission.specs.declared.types.Level.{Level}
use Rattle.lower_emission.specs.declared.types.Level.TheVariants.{Own, Around, Main}
use Rattle.lower_emission.specs.declared.types.Leaving.{Leaving}
use Rattle.lower_emission.specs.declared.types.Leaving.TheVariants.{ByLeave}
use Rattle.lower_emission.specs.Emits as emits
use Rattle.lower_emission.specs.Emits.{Emit}

pub record Scope : Type 0 where
  pub object : Entity → Option Named
  pub parameter : ℕ → Option Where
  pub item : ℕ → Option Named
  pub constant_item : ℕ → Option Named
  pub target : Option Named
  pub handled : Option Where
  -- where the code goes that leaves a loop of the own thread
  pub exits : ℕ → Option ℕ
  -- the number of a text
  pub text : List ℕ → ℕ
  -- the first cell of the frame that is free
  pub free : ℕ
  -- the handler
  pub entry : Option ℕ
  pub leaving : Leaving
  -- the body, and how many constructs are begun in it
  pub body : body.Around
  pub nest : ℕ

abbrev pub own : ℕ → Where
own n = record { level = Own; cell = n }

abbrev pub at_free : ℕ → Scope → Scope
at_free n s = record s { free = n }

abbrev pub taking : ℕ → Scope → Scope
taking n s = at_free (s.free + n) s

abbrev pub with_object : Entity → Named → Scope → Scope
with_object x n s = record s { object = λ y. cond (entity_eq x y) (Some n) (s.object y) }

abbrev pub with_parameter : ℕ → Where → Scope → Scope
with_parameter k w s = record s { parameter = λ j. cond (nat_eq j k) (Some w) (s.parameter j) }

abbrev pub with_item : Bool → ℕ → Named → Scope → Scope
with_item constant k n s = record s { item = λ j. cond (not constant && nat_eq j k) (Some n) (s.item j); constant_item = λ j. cond (constant && nat_eq j k) (Some n) (s.constant_item j) }

abbrev pub with_target : Named → Scope → Scope
with_target n s = record s { target = Some n }

abbrev pub with_handled : Where → Scope → Scope
with_handled w s = record s { handled = Some w }

abbrev pub with_exit : ℕ → ℕ → Scope → Scope
with_exit loop to s = record s { exits = λ j. cond (nat_eq loop j) (Some to) (s.exits j) }

abbrev pub with_entry : ℕ → Scope → Scope
with_entry h s = record s { entry = Some h }

-- within a construct that is begun
abbrev pub nested : Scope → Scope
nested s = record s { nest = s.nest + 1 }

abbrev pub root_of : Scope → Root → Option Named
root_of s (root.Object x) = s.object (VariableOf x)
root_of s (root.Item k) = s.item k

abbrev pub constant_root_of : Scope → Root → Option Named
constant_root_of s (root.Object x) = s.object (ConstantOf x)
constant_root_of s (root.Item k) = s.constant_item k

abbrev pub array_root_of : Bool → Scope → Root → Option Named
array_root_of true s r = constant_root_of s r
array_root_of false s r = root_of s r

-- ---- the scope of threads: what is around is one frame further outward

abbrev pub outer_level : Level → Level
outer_level Own = Around 1
outer_level (Around k) = Around (cond (nat_eq k 0) 2 (k + 1))
outer_level Main = Main

abbrev pub outer_where : Where → Where
outer_where w = record { level = outer_level w.level; cell = w.cell }

abbrev pub outer_named : Named → Named
outer_named n = record { through = n.through; place = outer_where n.place; cells = n.cells }

abbrev pub moved_where : Option Where → Option Where
moved_where None = None
moved_where (Some w) = Some (outer_where w)

abbrev pub moved_named : Option Named → Option Named
moved_named None = None
moved_named (Some n) = Some (outer_named n)

abbrev pub thread_scope : (site : ℕ) → Scope → Scope
thread_scope number s = record {
  object = λ x. moved_named (s.object x);
  parameter = λ k. moved_where (s.parameter k);
  item = λ k. moved_named (s.item k);
  constant_item = λ k. moved_named (s.constant_item k);
  target = moved_named s.target;
  handled = moved_where s.handled;
  exits = λ n. None;
  text = s.text;
  free = 0;
  entry = None;
  leaving = ByLeave;
  body = Site number;
  nest = 0;
}

-- ---- code

-- around an instruction that needs so many cells
abbrev pub mark_of : ℕ → Scope → Mark
mark_of cells s = record { body = s.body; nest = s.nest; entry = s.entry; cells = cells; kind = kind.Loop }

abbrev pub mark : Scope → Mark
mark s = mark_of s.free s

abbrev pub none : Emit
none = emits.Nothing

abbrev pub one : Scope → ℕ → Instr → Emit
one s h i = emits.One (mark s) h i

-- a cell of the frame is written
abbrev pub keep : Scope → ℕ → ℕ → Emit
keep s h n = emits.One (mark_of (max s.free (n + 1)) s) h (StoreL n)

-- a cell of the frame is written with a number of the subtype, and any other one raises
abbrev pub set_instr : Scalar → ℕ → Instr
set_instr k n = cond (is_modular k.class) (USetL n k.low k.high) (SetL n k.low k.high)

abbrev pub keep_checked : Scope → ℕ → Scalar → ℕ → Emit
keep_checked s h k n = emits.One (mark_of (max s.free (n + 1)) s) h (set_instr k n)

-- a construct is begun
abbrev pub forks : Scope → ℕ → SiteKind → (site : ℕ) → Emit
forks s h k site = emits.One (record (mark s) { kind = k }) h (Fork site)

infixr 30 ◌⨟◌
abbrev pub ◌⨟◌ : Emit → Emit → Emit
◌⨟◌ a b = emits.Seq a b

abbrev pub choose : Scope → ℕ → ℕ → Emit → Emit → Emit
choose s h k a b = emits.Choose (mark s) h k a b

abbrev pub when_ : Scope → ℕ → Emit → Emit
when_ s h a = emits.When (mark s) h a

abbrev pub looped : Scope → ℕ → Bool → (exit : ℕ → Emit) → (head : ℕ → Emit) → Emit
looped s h at_body body test = emits.Looped (mark s) h at_body body test

abbrev pub guarded : Scope → (handlers : Emit) → (body : ℕ → Emit) → Emit
guarded s handlers body = emits.Guarded (mark s) handlers body

abbrev pub aside : Scope → ℕ → Emit → Emit
aside s h a = emits.Aside (mark s) h a

abbrev pub from : (here : ℕ → Emit) → Emit
from a = emits.From a

-- ---- names

abbrev pub address_at : Level → ℕ → Instr
address_at Own n = Local n
address_at (Around k) n = Outer k n
address_at Main n = Global n

abbrev pub load_at : Level → ℕ → Instr
load_at Own n = LoadL n
load_at (Around k) n = LoadO k n
load_at Main n = LoadG n

abbrev pub store_at : Level → ℕ → Instr
store_at Own n = StoreL n
store_at (Around k) n = StoreO k n
store_at Main n = StoreG n

abbrev pub load_of : Where → Instr
load_of w = load_at w.level w.cell

-- pushes the address of what is named
abbrev pub address_of : Named → Instr
address_of n = cond n.through (load_at n.place.level n.place.cell) (address_at n.place.level n.place.cell)
