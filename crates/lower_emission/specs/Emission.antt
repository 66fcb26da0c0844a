-- The code of expressions, names, values and aggregates (4), calls (6.4) and iterations (5.5): what is emitted for each.
use Rattle.std.specs.Prelude.{ℕ, zero, suc, ◌+◌, ◌*◌, ◌-◌, ◌+ℤ◌, ◌-ℤ◌, ℤ, pos, min, nat_eq, nat_lt, List, [], ◌∷◌, length, Option, Some, None, Bool, true, false, cond, ◌&&◌, slice_get}
use Rattle.ada_base.specs.declared.operation.Op.{Op}
use Rattle.ada_base.specs.declared.operation.Op.TheVariants as op
use Rattle.ada_base.specs.declared.reason.Reason.TheVariants as reason
use Rattle.behaviours.specs.Paths.{Entity, VariableOf, ConstantOf, entity_eq}
use Rattle.typed_tree.specs.declared.scalars.Class.{Class}
use Rattle.typed_tree.specs.declared.scalars.Scalar.{Scalar}
use Rattle.typed_tree.specs.declared.scalars.Check.{Check}
use Rattle.ada_base.specs.declared.operation.Comparison.TheVariants as comparison
use Rattle.ada_base.specs.declared.operation.Comparison.{Comparison}
use Rattle.typed_tree.specs.declared.expressions.Sign.{Sign}
use Rattle.typed_tree.specs.declared.expressions.Sign.TheVariants as sign
use Rattle.typed_tree.specs.declared.expressions.Run.{Run}
use Rattle.typed_tree.specs.declared.expressions.Reducer.{Reducer}
use Rattle.typed_tree.specs.declared.expressions.Reducer.TheVariants.{Operator, Function}
use Rattle.typed_tree.specs.declared.program.Formal.{Formal}
use Rattle.typed_tree.specs.declared.program.Mode.{Mode}
use Rattle.typed_tree.specs.declared.program.Mode.TheVariants as mode
use Rattle.typed_tree.specs.Syntax.{Expr, Static, Variable, Constant, Parameter, Target, Group, Unary, Binary, AndThen, OrElse, Relation, Membership, If, Call, Convert, Reduction, Optional, Absent, Present, Selections, Whole, Field, Index, Actuals, NoActual, In, InOut, Out, CompositeInOut, CompositeOut, Value, Number, Cells, Composite, WholeVariable, WholeConstant, WholeTarget, CompositeIf, Aggregate, Associations, NoAssociation, Association, Iteration, Range, Components, Chunk, NoChunk, Count, Each, Sub, Program}
pub use Rattle.typed_tree.specs.Statics.{is_whole}
pub use Rattle.lower_emission.specs.Repeats.{is_plain, is_repeated}
use Rattle.ada_meaning.specs.Values.{layout, base_of, is_modular, modular_digits}
use Rattle.ada_meaning.specs.Meaning.{object_layout, most_threads}
use Rattle.ada_base.specs.declared.operation.Base.TheVariants.{Wide}
use Rattle.stack_code.specs.declared.code.Reducer as site
use Rattle.stack_code.specs.declared.code.SiteKind.{SiteKind}
use Rattle.stack_code.specs.declared.code.SiteKind.TheVariants as kind
use Rattle.stack_code.specs.declared.instr.Instr.{Instr}
use Rattle.stack_code.specs.declared.instr.Instr.TheVariants as i
use Rattle.lower_emission.specs.declared.types.Where.{Where}
use Rattle.lower_emission.specs.declared.types.Named.{Named}
use Rattle.lower_emission.specs.declared.types.Level.{Level}
use Rattle.lower_emission.specs.declared.types.Level.TheVariants.{Own, Around, Main}
use Rattle.lower_emission.specs.Emits.{Emit}
use Rattle.lower_emission.specs.Scope.{Scope, own, taking, nested, thread_scope, with_parameter, with_item, with_exit, root_of, constant_root_of, array_root_of, none, one, keep, keep_checked, forks, ◌⨟◌, choose, when_, looped, aside, from, load_of, address_of}

-- what no accepted program reaches
abbrev pub lost : Scope → ℕ → Emit
lost s h = one s h (i.Raise reason.ProgramError)

-- numbers of modular types are compared as such
abbrev pub check_instr : Scalar → Instr
check_instr k = cond (is_modular k.class) (i.URange k.low k.high) (i.Range k.low k.high)

abbrev pub checked : Scope → ℕ → Scalar → Emit
checked s h k = one s h (check_instr k)

-- ---- names (4.1)

-- a cell of what is named is read
abbrev pub load_by : Bool → Scope → ℕ → Where → Emit
load_by true s h w = one s h (load_of w) ⨟ one s (h + 1) i.Load
load_by false s h w = one s h (load_of w)

abbrev pub load : Scope → ℕ → Named → Emit
load s h n = load_by n.through s h n.place

abbrev pub load_named : Scope → ℕ → Option Named → Emit
load_named s h None = lost s h
load_named s h (Some n) = load s h n

abbrev pub load_where : Scope → ℕ → Option Where → Emit
load_where s h None = lost s h
load_where s h (Some w) = one s h (load_of w)

-- the address of what is named
abbrev pub address : Scope → ℕ → Option Named → Emit
address s h None = lost s h
address s h (Some n) = one s h (address_of n)

-- the cell of the own frame in which a value lies that a name gives: a loop parameter's, or that of a variable or constant

abbrev pub own_level : Level → ℕ → Option ℕ
own_level Own n = Some n
own_level (Around k) n = None
own_level Main n = None

abbrev pub own_where : Option Where → Option ℕ
own_where None = None
own_where (Some w) = own_level w.level w.cell

abbrev pub own_named : Option Named → Option ℕ
own_named None = None
own_named (Some n) = cond n.through None (own_level n.place.level n.place.cell)

abbrev pub own_cell : Scope → Expr → Option ℕ
own_cell s (Variable at r selections scalar) = cond (is_whole selections) (own_named (root_of s r)) None
own_cell s (Constant at r selections scalar) = cond (is_whole selections) (own_named (constant_root_of s r)) None
own_cell s (Parameter at k) = own_where (s.parameter k)
own_cell s e = None

-- the address on the stack is moved by an index, which lies in a cell of the own frame or is pushed first
abbrev pub indexed_by : Scope → ℕ → Option ℕ → (low high : ℤ) → (stride : ℕ) → (index : Emit) → Emit
indexed_by s h None low high stride index = index ⨟ one s (h + 1) (i.Index low high stride)
indexed_by s h (Some n) low high stride index = one s h (i.IndexL n low high stride)

-- the component at an index from the address on the stack is read
abbrev pub item_by : Scope → ℕ → Option ℕ → (low high : ℤ) → (stride : ℕ) → (index : Emit) → Emit
item_by s h None low high stride index = index ⨟ one s (h + 1) (i.Item low high stride)
item_by s h (Some n) low high stride index = one s h (i.ItemL n low high stride)

-- the cell of the main frame at which what is named begins, where that is known
abbrev pub main_level : Level → ℕ → Option ℕ
main_level Own n = None
main_level (Around k) n = None
main_level Main n = Some n

abbrev pub main_named : Option Named → Option ℕ
main_named None = None
main_named (Some n) = cond n.through None (main_level n.place.level n.place.cell)

-- the address of a component of what is named: by one instruction where that begins at a known cell of the main frame, and
-- the index lies in a cell of the own one
abbrev pub component_address : Scope → ℕ → Option Named → (first own : Option ℕ) → (low high : ℤ) → (stride : ℕ) → (index : Emit) → Emit
component_address s h n (Some g) (Some k) low high stride index = one s h (i.IndexG g low high stride k)
component_address s h n first own low high stride index = address s h n ⨟ indexed_by s (h + 1) own low high stride index

-- the component is read
abbrev pub component_value : Scope → ℕ → Option Named → (first own : Option ℕ) → (low high : ℤ) → (stride : ℕ) → (index : Emit) → Emit
component_value s h n (Some g) (Some k) low high stride index = one s h (i.ItemG g low high stride k)
component_value s h n first own low high stride index = address s h n ⨟ item_by s (h + 1) own low high stride index

-- ---- operators (4.5)

abbrev pub not_instr : Option ℕ → Instr
not_instr None = i.Flip
not_instr (Some k) = i.BNot k

abbrev pub unary_instr : Sign → Class → Instr
unary_instr sign.Minus class = i.Neg (base_of class)
unary_instr sign.Abs class = i.Abs (base_of class)
unary_instr sign.Not class = not_instr (modular_digits class)

-- logical operators are on truth values, of which the lesser is false, or on the binary digits of numbers of a modular type
abbrev pub binary_instr : Op → Class → Instr
binary_instr op.Add class = i.Add (base_of class)
binary_instr op.Sub class = i.Sub (base_of class)
binary_instr op.Mul class = i.Mul (base_of class)
binary_instr op.Div class = i.Div (base_of class)
binary_instr op.Mod class = i.Mod (base_of class)
binary_instr op.Rem class = i.Rem (base_of class)
binary_instr op.Pow class = i.Pow (base_of class)
binary_instr op.And class = cond (is_modular class) i.And i.Min
binary_instr op.Or class = cond (is_modular class) i.Or i.Max
binary_instr op.Xor class = cond (is_modular class) i.Xor i.Differ
binary_instr op.Max class = cond (is_modular class) i.UMax i.Max
binary_instr op.Min class = cond (is_modular class) i.UMin i.Min

-- an operation whose right operand stands in the instruction
abbrev pub fixed_instr : Op → Class → ℤ → Option Instr
fixed_instr op.Add class v = Some (i.AddI v (base_of class))
fixed_instr op.Sub class v = Some (i.SubI v (base_of class))
fixed_instr op.Mul class v = Some (i.MulI v (base_of class))
fixed_instr op.Mod class v = Some (i.ModI v (base_of class))
fixed_instr o class v = None

-- that of an operator and its right operand, where that is static (4.9)
abbrev pub static_instr : Op → Class → (right : Expr) → Option Instr
static_instr o class (Static at value literal mentions) = fixed_instr o class value
static_instr o class e = None

-- the number on the stack is the left operand; the right one stands in the instruction, or is pushed first
abbrev pub operated_by : Scope → ℕ → Option Instr → Instr → (right : Emit) → Emit
operated_by s h None operates right = right ⨟ one s (h + 1) operates
operated_by s h (Some fixed) operates right = one s h fixed

-- different numbers are kept differently
abbrev pub compare_instr : Comparison → Class → Instr
compare_instr comparison.Equal class = i.Eq
compare_instr comparison.Unequal class = i.Ne
compare_instr comparison.Less class = cond (is_modular class) i.ULt i.Lt
compare_instr comparison.AtMost class = cond (is_modular class) i.ULe i.Le
compare_instr comparison.Greater class = cond (is_modular class) i.UGt i.Gt
compare_instr comparison.AtLeast class = cond (is_modular class) i.UGe i.Ge

abbrev pub falsity : Scope → ℕ → Emit
falsity s h = one s h (i.Push (pos 0))

abbrev pub truth : Scope → ℕ → Emit
truth s h = one s h (i.Push (pos 1))

-- whether the first cell lies between the second and the number on the stack
abbrev pub within : Scope → ℕ → Class → ℕ → Emit
within s h class d = one s (h + 1) (i.LoadL d) ⨟ one s (h + 1 + 1) (compare_instr comparison.AtLeast class) ⨟ one s (h + 1) (i.LoadL (d + 1)) ⨟ one s (h + 1 + 1) (i.LoadL d) ⨟ one s (h + 1 + 1 + 1) (compare_instr comparison.AtMost class) ⨟ one s (h + 1 + 1) i.Min

abbrev pub negated_code : Scope → ℕ → Bool → Emit
negated_code s h true = one s (h + 1) i.Flip
negated_code s h false = none

-- ---- formal parameters (6.1): their cells in the frame of the call

-- the cells of a formal: ahead of one that is copied back stands the address of its target
pub record Shape : Type 0 where
  pub formal : Entity
  pub back : Bool
  pub cells : ℕ

abbrev pub lead : Bool → ℕ
lead true = 1
lead false = 0

abbrev pub shape_by : Program → ℕ → Mode → Shape
shape_by program x mode.In = record { formal = ConstantOf x; back = false; cells = length (object_layout program x) }
shape_by program x mode.InOut = record { formal = VariableOf x; back = true; cells = length (object_layout program x) }
shape_by program x mode.Out = record { formal = VariableOf x; back = true; cells = length (object_layout program x) }

abbrev pub shapes : Program → List Formal → List Shape
shapes program [] = []
shapes program (f ∷ fs) = shape_by program f.object f.mode ∷ shapes program fs

abbrev pub shapes_cells : List Shape → ℕ
shapes_cells [] = 0
shapes_cells (h ∷ hs) = lead h.back + h.cells + shapes_cells hs

-- where the cells of a formal begin in its frame, from a cell on
abbrev pub formal_cell : List Shape → ℕ → Entity → ℕ
formal_cell [] first x = first
formal_cell (h ∷ hs) first x = cond (entity_eq h.formal x) first (formal_cell hs (first + lead h.back + h.cells) x)

abbrev pub formals_or_none : Option Sub → List Formal
formals_or_none None = []
formals_or_none (Some b) = b.formals

-- ---- scopes of turns (5.5)

abbrev pub first_parameter : Bool → ℕ → ℕ
first_parameter true d = d + 1
first_parameter false d = d

abbrev pub leaving_by : Option ℕ → ℕ → Scope → Scope
leaving_by None exit s = s
leaving_by (Some number) exit s = with_exit number exit s

-- the parameter's cell and that of the last value
abbrev pub range_scope : Scope → Option ℕ → ℕ → Bool → ℕ → Scope
range_scope s number k reverse exit = leaving_by number exit (with_parameter k (own (first_parameter reverse s.free)) (taking 2 s))

-- the address of the component, its position and the last one
abbrev pub item_scope : Scope → Option ℕ → Bool → ℕ → ℕ → ℕ → Scope
item_scope s number constant k stride exit = leaving_by number exit (with_item constant k (record { through = true; place = own s.free; cells = stride }) (taking 3 s))

abbrev pub counting : Bool → ℕ → ℕ → Instr
counting false d head = i.Next d (d + 1) head
counting true d head = i.Prior (d + 1) d head

abbrev pub bounds_code : Scope → ℕ → ℕ → Option Check → Emit
bounds_code s h d None = none
bounds_code s h d (Some c) = one s h (i.LoadL d) ⨟ checked s (h + 1) c.scalar ⨟ one s (h + 1) i.Pop ⨟ one s h (i.LoadL (d + 1)) ⨟ checked s (h + 1) c.scalar ⨟ one s (h + 1) i.Pop

-- whether the number of the first cell is at most that of the next
abbrev pub ascending : Scope → ℕ → ℕ → Emit
ascending s h d = one s h (i.LoadL d) ⨟ one s (h + 1) (i.LoadL (d + 1)) ⨟ one s (h + 1 + 1) i.Le

-- the address in a cell goes on by a stride, and the next turn begins
abbrev pub stepping : Scope → ℕ → (address stride first head : ℕ) → Emit
stepping s h address stride first head = one s h (i.LoadL address) ⨟ one s (h + 1) (i.Field stride) ⨟ keep s (h + 1) address ⨟ one s h (i.Next first (first + 1) head)

-- the number on the stack is folded into the one below it, which has this height below it
abbrev pub folding : Scope → ℕ → Reducer → Emit
folding s h (Operator at op class) = one s (h + 1 + 1) (binary_instr op class)
folding s h (Function at sub accumulator value) =
    keep s (h + 1 + 1) (s.free + 1) ⨟ keep_checked s (h + 1) accumulator s.free ⨟ one s h (i.LoadL (s.free + 1)) ⨟ checked s (h + 1) value ⨟ one s (h + 1) i.Pop ⨟ one s h (i.CallAt (sub + 1) s.free)

-- whether the number in a cell is one of the subtype's
abbrev pub ranged : Scope → ℕ → (cell : ℕ) → Scalar → Emit
ranged s h n k =
    one s h (i.LoadL n) ⨟ one s (h + 1) (i.Push k.low) ⨟ one s (h + 1 + 1) (compare_instr comparison.AtLeast k.class) ⨟ one s (h + 1) (i.LoadL n) ⨟ one s (h + 1 + 1) (i.Push k.high) ⨟ one s (h + 1 + 1 + 1) (compare_instr comparison.AtMost k.class) ⨟ one s (h + 1 + 1) i.Min

-- the accumulator and the part on the stack go to the cells of the formals; what is then on the stack tells whether they
-- are in their subtypes
abbrev pub reducing : Scope → ℕ → (accumulator value : Scalar) → Emit
reducing s h accumulator value =
    keep s (h + 1 + 1) (s.free + 1) ⨟ keep s (h + 1) s.free ⨟ ranged s h s.free accumulator ⨟ ranged s (h + 1) (s.free + 1) value ⨟ one s (h + 1 + 1) i.Min

-- Behind the fork of a parallel reduction. An operator has combined the accumulators; a function is called for each that is
-- kept, with what it gave for those before. Both are checked behind the call's turn.
abbrev pub combined : Scope → ℕ → Reducer → Emit
combined s h (Operator at op class) = none
combined s h (Function at sub accumulator value) = from (λ head.
    one s (h + 1) i.Part ⨟ when_ s (h + 1 + 1) (reducing s h accumulator value ⨟ one s (h + 1) (i.CallTo (sub + 1) s.free head)) ⨟ one s (h + 1 + 1) i.Pop)

-- ---- aggregates (4.3)

-- The first cells of a run, which `done` of its components of one size have, are copied behind themselves, until `count`
-- components have theirs. No more than `steps` copies are made; each doubles what is done.
abbrev pub doubled : Scope → ℕ → (first size steps done count : ℕ) → Emit
doubled s h first size zero done count = none
doubled s h first size (suc steps) done count =
    cond (nat_lt done count)
    ((one s h (i.Local (first + done * size)) ⨟ one s (h + 1) (i.Local first) ⨟ one s (h + 1 + 1) (i.Copy (min done (count - done) * size))) ⨟ doubled s h first size steps (done + min done (count - done)) count)
    none

-- the same value in each component of a run
abbrev pub filling : (ℕ → Emit) → (count first stride : ℕ) → Emit
filling value zero first stride = none
filling value (suc n) first stride = value first ⨟ filling value n (first + stride) stride

-- A value that is plain is computed for the first component, and copied to the others.
abbrev pub fillings : Scope → ℕ → (t size : ℕ) → Bool → (ℕ → Emit) → List Run → Emit
fillings s h t size plain value [] = none
fillings s h t size plain value (r ∷ rs) =
    cond (plain && (nat_lt 1 r.count && nat_eq r.stride size)) (value r.first ⨟ doubled s h (t + r.first) size r.count 1 r.count) (filling value r.count r.first r.stride)
    ⨟ fillings s h t size plain value rs

-- the scope of an iterated association's value: the parameter, its last value, the component's address
abbrev pub iterated_scope : Scope → ℕ → Scope
iterated_scope s k = with_parameter k (own s.free) (taking 3 s)

-- a loop through the components of a run
abbrev pub turning : Scope → ℕ → (t : ℕ) → ℤ → (component : Emit) → (count first stride : ℕ) → Emit
turning s h t low component count first stride =
    one s h (i.Push low) ⨟ keep s (h + 1) s.free ⨟ one s h (i.Push (low +ℤ pos count -ℤ pos 1)) ⨟ keep s (h + 1) (s.free + 1) ⨟ one s h (i.Local (t + first)) ⨟ keep s (h + 1) (s.free + 1 + 1)
    ⨟ looped s h true (λ exit. one s h i.Turn ⨟ component) (λ head. stepping s h (s.free + 1 + 1) stride s.free head)

-- Where there are several runs, one loop goes through the components of all, with the number of the run on the stack.

-- the parameter of a run's first turn, that of its last one and the address of its first component go to three cells
abbrev pub entering : Scope → ℕ → (t : ℕ) → ℤ → (count first : ℕ) → Emit
entering s h t low count first = one s h (i.Push low) ⨟ keep s (h + 1) s.free ⨟ one s h (i.Push (low +ℤ pos count -ℤ pos 1)) ⨟ keep s (h + 1) (s.free + 1) ⨟ one s h (i.Local (t + first)) ⨟ keep s (h + 1) (s.free + 1 + 1)

-- the next run that has components is entered, of those from a number on
abbrev pub entering_next : Scope → ℕ → (t : ℕ) → ℤ → (head number : ℕ) → List Run → Emit
entering_next s h t low head n [] = none
entering_next s h t low head n (r ∷ rs) =
    cond (nat_eq r.count 0) (entering_next s h t low head (n + 1) rs)
    (one s (h + 1) i.Pop ⨟ one s h (i.Push (pos n)) ⨟ entering s (h + 1) t low r.count r.first ⨟ one s (h + 1) (i.Jump head))

-- behind a turn, for runs from a number on: in the run of that number its next turn, or the first one of the next run
abbrev pub run_steps : Scope → ℕ → (t : ℕ) → ℤ → (head number : ℕ) → List Run → Emit
run_steps s h t low head n [] = none
run_steps s h t low head n (r ∷ rs) =
    (one s (h + 1) i.Dup ⨟ one s (h + 1 + 1) (i.Push (pos n)) ⨟ one s (h + 1 + 1 + 1) i.Eq
    ⨟ when_ s (h + 1) (stepping s (h + 1) (s.free + 1 + 1) r.stride s.free head ⨟ entering_next s h t low head (n + 1) rs))
    ⨟ run_steps s h t low head (n + 1) rs

abbrev pub run_turnings : Scope → ℕ → (t : ℕ) → ℤ → (component : Emit) → (number : ℕ) → List Run → Emit
run_turnings s h t low component n [] = none
run_turnings s h t low component n (r ∷ rs) =
    cond (nat_eq r.count 0) (run_turnings s h t low component (n + 1) rs)
    (one s h (i.Push (pos n)) ⨟ entering s (h + 1) t low r.count r.first
    ⨟ looped s (h + 1) true (λ exit. one s (h + 1) i.Turn ⨟ component) (λ head. run_steps s h t low head n (r ∷ rs)) ⨟ one s (h + 1) i.Pop)

-- the height at which a component's code stands in the loop
abbrev pub turn_height : List Run → ℕ → ℕ
turn_height [] h = h
turn_height (r ∷ []) h = h
turn_height (r ∷ q ∷ rs) h = h + 1

abbrev pub turnings : Scope → ℕ → (t : ℕ) → ℤ → (component : Emit) → List Run → Emit
turnings s h t low component [] = none
turnings s h t low component (r ∷ []) = cond (nat_eq r.count 0) none (turning s h t low component r.count r.first r.stride)
turnings s h t low component (r ∷ q ∷ rs) = run_turnings s h t low component 0 (r ∷ q ∷ rs)

-- A value that is computed anew for each of several components is a part that is repeated. The number of the round stands in
-- a cell of the frame, the address of its component in the next one.

-- how many components runs have
abbrev pub components_of : List Run → ℕ
components_of [] = 0
components_of (r ∷ rs) = r.count + components_of rs

-- the address of the round's component, in a run of whose components the first has that number; one that has none needs none
abbrev pub locating : Scope → ℕ → (t number : ℕ) → Run → Emit
locating s h t number r = cond (nat_eq r.count 0) none
    (one s h (i.Local (t + r.first)) ⨟ one s (h + 1) (i.LoadL s.free) ⨟ one s (h + 1 + 1) (i.Index (pos number) (pos (number + r.count) -ℤ pos 1) r.stride) ⨟ keep s (h + 1) (s.free + 1))

-- in the run that has it
abbrev pub locating_in : Scope → ℕ → (t number : ℕ) → List Run → Emit
locating_in s h t number [] = none
locating_in s h t number (r ∷ []) = locating s h t number r
locating_in s h t number (r ∷ q ∷ rs) =
    one s h (i.LoadL s.free) ⨟ one s (h + 1) (i.Push (pos (number + r.count))) ⨟ one s (h + 1 + 1) i.Lt
    ⨟ choose s h h (locating s h t number r) (locating_in s h t (number + r.count) (q ∷ rs))

abbrev pub repeating : Scope → ℕ → (t : ℕ) → (component : Emit) → List Run → Emit
repeating s h t component rs = cond (nat_eq (components_of rs) 0) none
    (one s h (i.Push (pos 0)) ⨟ keep s (h + 1) s.free ⨟ one s h (i.Repeat (components_of rs))
    ⨟ from (λ head. locating_in s h t 0 rs ⨟ component ⨟ one s h (i.LoadL s.free) ⨟ one s (h + 1) (i.AddI (pos 1) Wide) ⨟ keep s (h + 1) s.free ⨟ one s h (i.Again head)))

-- ---- parallel constructs (5.5, 5.6.1, 4.5.10)

abbrev pub chunk_scope : Chunk → Scope → Scope
chunk_scope NoChunk s = s
chunk_scope (Count e) s = s
chunk_scope (Each k low high check) s = with_parameter k (own 0) s

-- raises where the first cell's number is above the second's
abbrev pub raise_above : Scope → ℕ → ℕ → Emit
raise_above s h d = one s h (i.LoadL d) ⨟ one s (h + 1) (i.LoadL (d + 1)) ⨟ one s (h + 1 + 1) i.Gt ⨟ when_ s h (one s h (i.Raise reason.ProgramError))

-- raises where there are more chunks than threads may be
abbrev pub raise_beyond : Scope → ℕ → Emit
raise_beyond s h = one s h (i.LoadL s.free) ⨟ one s (h + 1) (i.LoadL (s.free + 1)) ⨟ one s (h + 1 + 1) (i.Far most_threads) ⨟ when_ s h (one s h (i.Raise reason.StorageError))

-- the first and the last: loop values, or positions in an array
abbrev pub ends_code : Scope → ℕ → Iteration → Emit
ends_code s h (Range k reverse low high check filter) = one s h (i.LoadL s.free) ⨟ one s (h + 1) (i.LoadL (s.free + 1))
ends_code s h (Components k constant at r selections count stride dimensions filter) = one s h (i.Push (pos 1)) ⨟ one s (h + 1) (i.Push (pos count))

-- what a construct is

abbrev pub loop_kind : Chunk → SiteKind
loop_kind NoChunk = kind.Loop
loop_kind (Count e) = kind.Loop
loop_kind (Each k low high check) = kind.ChunkLoop

abbrev pub folded_by : Reducer → Option site.Reducer
folded_by (Operator at op class) = Some (record { op = op; base = base_of class })
folded_by (Function at sub accumulator value) = None

abbrev pub reduction_kind : Reducer → Chunk → SiteKind
reduction_kind by NoChunk = kind.Reduction (folded_by by)
reduction_kind by (Count e) = kind.Reduction (folded_by by)
reduction_kind by (Each k low high check) = kind.ChunkReduction (folded_by by)

-- The threads' code stands two behind the fork; `left` is what the fork leaves on the stack.
abbrev pub fork_code : Scope → (h left : ℕ) → (what : SiteKind) → (site d : ℕ) → (initial body : Emit) → Emit
fork_code s h left what site d initial body = one s (h + 1 + 1) (i.LoadL d) ⨟ one s (h + 1 + 1 + 1) (i.LoadL (d + 1)) ⨟ initial ⨟ forks s (h + 1 + 1 + 1 + 1 + 1) what site ⨟ aside s left body

-- ---- threads: cell 0 has the chunk value, cell 1 the initial value, cells 2 and 3 the first and the last loop value or
-- position

-- from the one value to the other, which two cells from one on have; a thread without iterations has none
abbrev pub turns_code : Scope → ℕ → ℕ → Emit → Emit
turns_code s h d body = ascending s h d ⨟ when_ s h (looped s h true (λ exit. body) (λ head. one s h (counting false d head)))

-- the component of the first position, of which the address of the array is in a cell of the body around; then each next
abbrev pub items_code : Scope → ℕ → ℕ → (around stride count : ℕ) → Emit → Emit
items_code s h d around stride count body =
    ascending s h d
    ⨟ when_ s h (one s h (i.LoadO 1 around) ⨟ one s (h + 1) (i.LoadL d) ⨟ one s (h + 1 + 1) (i.Index (pos 1) (pos count) stride) ⨟ keep s (h + 1) (d + 1 + 1)
    ⨟ looped s h true (λ exit. body) (λ head. stepping s h (d + 1 + 1) stride d head))

abbrev pub turn_item : Scope → Bool → ℕ → ℕ → Scope
turn_item s constant k stride = with_item constant k (record { through = true; place = own (s.free + 1 + 1); cells = stride }) (taking 3 s)

-- the scope of a turn over a range, and over components, from that of the thread
abbrev pub turn_range : Scope → Chunk → ℕ → Scope
turn_range t chunk k = range_scope (chunk_scope chunk (taking 2 t)) None k false 0

abbrev pub turn_component : Scope → Chunk → Bool → ℕ → ℕ → Scope
turn_component t chunk constant k stride = turn_item (chunk_scope chunk (taking 2 t)) constant k stride

-- ---- with the tables of a program

module _ (program : Program) where
  abbrev pub cells_of : ℕ → ℕ
  cells_of subtype = length (layout program.subtypes subtype)

  abbrev pub formals_in : ℕ → List Formal
  formals_in sub = formals_or_none (slice_get program.subs sub)

  -- where a call's formals are
  abbrev pub formal_of : ℕ → ℕ → Entity → ℕ
  formal_of sub w x = formal_cell (shapes program (formals_in sub)) w x

  abbrev pub passing : ℕ → Scope → Scope
  passing sub s = taking (shapes_cells (shapes program (formals_in sub))) s

  -- how many cells a value has
  abbrev pub composite_width : Composite → ℕ
  composite_width (WholeVariable at r selections subtype) = cells_of subtype
  composite_width (WholeConstant at r selections subtype) = cells_of subtype
  composite_width (WholeTarget at subtype) = cells_of subtype
  composite_width (CompositeIf condition value otherwise) = composite_width value
  composite_width (Aggregate at size associations) = size

  abbrev pub width : Value → ℕ
  width (Number check e) = 1
  width (Cells c) = composite_width c

  unfoldable mutual
    -- pushes the value
    pub emit : Scope → ℕ → Expr → Emit
    emit s h (Static at value literal mentions) = one s h (i.Push value)
    emit s h (Variable at r selections scalar) = named_value s h (root_of s r) selections
    emit s h (Constant at r selections scalar) = named_value s h (constant_root_of s r) selections
    emit s h (Parameter at k) = load_where s h (s.parameter k)
    emit s h (Target at scalar) = load_named s h s.target
    emit s h (Group e) = emit s h e
    emit s h (Unary at sign class e) = emit s h e ⨟ one s (h + 1) (unary_instr sign class)
    emit s h (Binary at op class e f) = emit s h e ⨟ operated_by s (h + 1) (static_instr op class f) (binary_instr op class) (emit s (h + 1) f)
    emit s h (AndThen e f) = emit s h e ⨟ choose s h (h + 1) (emit s h f) (falsity s h)
    emit s h (OrElse e f) = emit s h e ⨟ choose s h (h + 1) (truth s h) (emit s h f)
    emit s h (Relation class comparison e f) = emit s h e ⨟ emit s (h + 1) f ⨟ one s (h + 1 + 1) (compare_instr comparison class)
    emit s h (Membership class negated e low high) =
        emit s h e ⨟ keep s (h + 1) s.free ⨟ emit (taking 1 s) h low ⨟ keep s (h + 1) (s.free + 1) ⨟ emit (taking 2 s) h high
        ⨟ within s h class s.free ⨟ negated_code s h negated
    emit s h (If condition value otherwise) = emit s h condition ⨟ choose s h (h + 1) (emit s h value) (emit s h otherwise)
    emit s h (Call at callee sub actuals) = passed (passing sub s) h sub s.free actuals ⨟ one s h (i.CallAt (sub + 1) s.free)
    emit s h (Convert check e) = emit s h e ⨟ checked s (h + 1) check.scalar
    emit s h (Reduction at attribute by initial None chunk iteration value) =
        emit s h initial ⨟ iterated s (h + 1) None iteration (λ t. emit t (h + 1) value ⨟ folding t h by)
    emit s h (Reduction at attribute by initial (Some site) chunk iteration value) =
        emit s h initial ⨟ keep s (h + 1) s.free ⨟ one s h i.Nest
        ⨟ chunk_code (nested (taking 1 s)) h chunk ⨟ course_code (taking 2 (nested (taking 1 s))) h iteration ⨟ ends_code (taking 2 (nested (taking 1 s))) h iteration
        ⨟ fork_code (nested (taking 1 s)) h (h + 1) (reduction_kind by chunk) site (s.free + 1) (one (nested (taking 1 s)) (h + 1 + 1 + 1 + 1) (i.LoadL s.free))
        (one (chunk_scope chunk (taking 2 (thread_scope site s))) 0 (i.LoadL 1)
        ⨟ threaded (thread_scope site s) 1 chunk (s.free + 1 + 1 + 1) iteration (λ u. emit u 1 value ⨟ folding u 0 by)
        ⨟ one (chunk_scope chunk (taking 2 (thread_scope site s))) 1 i.EndV)
        ⨟ one (nested (taking 1 s)) (h + 1) i.Unnest ⨟ combined (taking 2 (taking 2 (taking 1 s))) h by

    -- the value of what is named, or of the part that selections lead to
    pub named_value : Scope → ℕ → Option Named → Selections → Emit
    named_value s h n Whole = load_named s h n
    named_value s h n (Field number offset rest) = address s h n ⨟ one s (h + 1) (i.Field offset) ⨟ read s (h + 1) rest
    named_value s h n (Index at e low high stride rest) =
        cond (is_whole rest) (component_value s h n (main_named n) (own_cell s e) low high stride (emit s (h + 1) e))
        (component_address s h n (main_named n) (own_cell s e) low high stride (emit s (h + 1) e) ⨟ read s (h + 1) rest)

    -- the address on the stack is moved by selections
    pub selected : Scope → ℕ → Selections → Emit
    selected s h Whole = none
    selected s h (Field number offset rest) = one s h (i.Field offset) ⨟ selected s h rest
    selected s h (Index at e low high stride rest) = indexed_by s h (own_cell s e) low high stride (emit s h e) ⨟ selected s h rest

    -- what selections lead to from the address on the stack is read
    pub read : Scope → ℕ → Selections → Emit
    read s h Whole = one s h i.Load
    read s h (Field number offset rest) = one s h (i.Field offset) ⨟ read s h rest
    read s h (Index at e low high stride rest) =
        cond (is_whole rest) (item_by s h (own_cell s e) low high stride (emit s h e)) (indexed_by s h (own_cell s e) low high stride (emit s h e) ⨟ read s h rest)

    -- actual parameters go to the cells of their formals, with the addresses of what is copied back (6.4.1)
    pub passed : Scope → ℕ → ℕ → ℕ → Actuals → Emit
    passed s h sub w NoActual = none
    passed s h sub w (In formal value rest) = put_into s h (formal_of sub w (ConstantOf formal)) value ⨟ passed s h sub w rest
    passed s h sub w (InOut formal at r selections inner outer rest) =
        (address s h (root_of s r) ⨟ selected s (h + 1) selections ⨟ one s (h + 1) i.Dup ⨟ keep s (h + 1 + 1) (formal_of sub w (VariableOf formal))
        ⨟ one s (h + 1) i.Load ⨟ keep_checked s (h + 1) inner (formal_of sub w (VariableOf formal) + 1))
        ⨟ passed s h sub w rest
    passed s h sub w (Out formal at r selections inner outer rest) =
        (address s h (root_of s r) ⨟ selected s (h + 1) selections ⨟ keep s (h + 1) (formal_of sub w (VariableOf formal))
        ⨟ one s h (i.Push inner.low) ⨟ keep s (h + 1) (formal_of sub w (VariableOf formal) + 1))
        ⨟ passed s h sub w rest
    passed s h sub w (CompositeInOut formal at r selections subtype rest) =
        (one s h (i.Local (formal_of sub w (VariableOf formal) + 1)) ⨟ address s (h + 1) (root_of s r) ⨟ selected s (h + 1 + 1) selections
        ⨟ one s (h + 1 + 1) i.Dup ⨟ keep s (h + 1 + 1 + 1) (formal_of sub w (VariableOf formal)) ⨟ one s (h + 1 + 1) (i.Copy (cells_of subtype)))
        ⨟ passed s h sub w rest
    passed s h sub w (CompositeOut formal at r selections subtype rest) =
        (one s h (i.Local (formal_of sub w (VariableOf formal) + 1)) ⨟ address s (h + 1) (root_of s r) ⨟ selected s (h + 1 + 1) selections
        ⨟ one s (h + 1 + 1) i.Dup ⨟ keep s (h + 1 + 1 + 1) (formal_of sub w (VariableOf formal)) ⨟ one s (h + 1 + 1) (i.Copy (cells_of subtype)))
        ⨟ passed s h sub w rest

    -- a value goes to the cells from one on
    pub put_into : Scope → ℕ → ℕ → Value → Emit
    put_into s h t (Number check e) = emit s h e ⨟ keep_checked s (h + 1) check.scalar t
    put_into s h t (Cells c) = composed s h t c

    pub composed : Scope → ℕ → ℕ → Composite → Emit
    composed s h t (WholeVariable at r selections subtype) = one s h (i.Local t) ⨟ address s (h + 1) (root_of s r) ⨟ selected s (h + 1 + 1) selections ⨟ one s (h + 1 + 1) (i.Copy (cells_of subtype))
    composed s h t (WholeConstant at r selections subtype) = one s h (i.Local t) ⨟ address s (h + 1) (constant_root_of s r) ⨟ selected s (h + 1 + 1) selections ⨟ one s (h + 1 + 1) (i.Copy (cells_of subtype))
    composed s h t (WholeTarget at subtype) = one s h (i.Local t) ⨟ address s (h + 1) s.target ⨟ one s (h + 1 + 1) (i.Copy (cells_of subtype))
    composed s h t (CompositeIf condition value otherwise) = emit s h condition ⨟ choose s h h (composed s h t value) (composed s h t otherwise)
    composed s h t (Aggregate at size associations) = one s h (i.Local t) ⨟ one s (h + 1) (i.Fill size (pos 0)) ⨟ associated s h t associations

    pub associated : Scope → ℕ → ℕ → Associations → Emit
    associated s h t NoAssociation = none
    associated s h t (Association runs None mentions value rest) =
        cond (is_repeated runs value) (repeating s h t (component (taking 2 s) h (s.free + 1) value) runs) (fillings s h t (width value) (is_plain value) (λ n. put_into s h (t + n) value) runs)
        ⨟ associated s h t rest
    associated s h t (Association runs (Some x) mentions value rest) =
        turnings s h t x.first (component (iterated_scope s x.parameter) (turn_height runs h) (s.free + 1 + 1) value) runs ⨟ associated s h t rest

    -- a value goes to where an address in a cell says; that of an array or record by way of cells of its own
    pub component : Scope → ℕ → (at : ℕ) → Value → Emit
    component s h at (Number check e) = one s h (i.LoadL at) ⨟ emit s (h + 1) e ⨟ checked s (h + 1 + 1) check.scalar ⨟ one s (h + 1 + 1) i.Store
    component s h at (Cells c) = composed (taking (composite_width c) s) h s.free c ⨟ one s h (i.LoadL at) ⨟ one (taking (composite_width c) s) (h + 1) (i.Local s.free) ⨟ one s (h + 1 + 1) (i.Copy (composite_width c))

    -- what is done where the filter passes (5.5)
    pub filtered : Scope → ℕ → Optional → Emit → Emit
    filtered s h Absent body = body
    filtered s h (Present e) body = emit s h e ⨟ when_ s h body

    -- an iteration (5.5, 5.5.2), with what is done in each turn in its scope
    pub iterated : Scope → ℕ → Option ℕ → Iteration → (Scope → Emit) → Emit
    iterated s h number (Range k reverse low high check filter) body =
        emit s h low ⨟ keep s (h + 1) s.free ⨟ emit (taking 1 s) h high ⨟ keep s (h + 1) (s.free + 1)
        ⨟ ascending s h s.free
        ⨟ when_ s h (bounds_code s h s.free check ⨟ looped s h true
        (λ exit. one s h i.Turn ⨟ filtered (range_scope s number k reverse exit) h filter (body (range_scope s number k reverse exit)))
        (λ head. one s h (counting reverse s.free head)))
    iterated s h number (Components k constant at r selections count stride dimensions filter) body =
        (address s h (array_root_of constant s r) ⨟ selected s (h + 1) selections ⨟ keep s (h + 1) s.free)
        ⨟ cond (nat_eq count 0) none
        (one s h (i.Push (pos 1)) ⨟ keep s (h + 1) (s.free + 1) ⨟ one s h (i.Push (pos count)) ⨟ keep s (h + 1) (s.free + 1 + 1)
        ⨟ looped s h true
        (λ exit. one s h i.Turn ⨟ filtered (item_scope s number constant k stride exit) h filter (body (item_scope s number constant k stride exit)))
        (λ head. stepping s h s.free stride (s.free + 1) head))

    -- from a cell on the first and the last chunk value, or the numbers of so many threads
    pub chunk_code : Scope → ℕ → Chunk → Emit
    chunk_code s h NoChunk = one s h (i.Push (pos 1)) ⨟ keep s (h + 1) s.free ⨟ one s h (i.Push (pos most_threads)) ⨟ keep s (h + 1) (s.free + 1)
    chunk_code s h (Count e) = one s h (i.Push (pos 1)) ⨟ keep s (h + 1) s.free ⨟ emit (taking 1 s) h e ⨟ one s (h + 1) (i.Push (pos most_threads)) ⨟ one s (h + 1 + 1) i.Min ⨟ keep s (h + 1) (s.free + 1) ⨟ raise_above s h s.free
    chunk_code s h (Each k low high check) =
        emit s h low ⨟ keep s (h + 1) s.free ⨟ emit (taking 1 s) h high ⨟ keep s (h + 1) (s.free + 1)
        ⨟ raise_above s h s.free ⨟ bounds_code s h s.free check
        ⨟ raise_beyond s h

    -- the first and the last loop value are in two cells, or the address of the array in one
    pub course_code : Scope → ℕ → Iteration → Emit
    course_code s h (Range k reverse low high check filter) =
        emit s h low ⨟ keep s (h + 1) s.free ⨟ emit (taking 1 s) h high ⨟ keep s (h + 1) (s.free + 1)
        ⨟ ascending s h s.free ⨟ when_ s h (bounds_code s h s.free check)
    course_code s h (Components k constant at r selections count stride dimensions filter) =
        address s h (array_root_of constant s r) ⨟ selected s (h + 1) selections ⨟ keep s (h + 1) s.free

    -- the turns of a thread, with what is done in each in its scope; the address of the array is in that cell around
    pub threaded : Scope → ℕ → Chunk → (around : ℕ) → Iteration → (Scope → Emit) → Emit
    threaded t h chunk around (Range k reverse low high check filter) body =
        turns_code (chunk_scope chunk (taking 2 t)) h (t.free + 2)
        (one (chunk_scope chunk (taking 2 t)) h i.Turn ⨟ filtered (turn_range t chunk k) h filter (body (turn_range t chunk k)))
    threaded t h chunk around (Components k constant at r selections count stride dimensions filter) body =
        items_code (chunk_scope chunk (taking 2 t)) h (t.free + 2) around stride count
        (one (chunk_scope chunk (taking 2 t)) h i.Turn ⨟ filtered (turn_component t chunk constant k stride) h filter (body (turn_component t chunk constant k stride)))
