-- The code of statements (5), declarations (3.11), handlers (11.2), output and input (A.10).
use Rattle.std.specs.Prelude.{ℕ, zero, suc, ◌+◌, ◌-◌, ℤ, pos, nat_eq, List, [], ◌∷◌, ◌++◌, length, Option, Some, None, Bool, true, false, cond, not, ◌&&◌, slice_get}
use Rattle.ada_base.specs.declared.operation.Base.TheVariants.{Modulo}
use Rattle.ada_base.specs.declared.reason.Reason.{Reason}
use Rattle.ada_base.specs.declared.reason.Reason.TheVariants as reason
use Rattle.behaviours.specs.Paths.{Entity, VariableOf, ConstantOf}
use Rattle.typed_tree.specs.declared.scalars.Class.{Class}
use Rattle.typed_tree.specs.declared.scalars.Class.TheVariants as class
use Rattle.typed_tree.specs.declared.scalars.Scalar.{Scalar}
use Rattle.typed_tree.specs.declared.statements.Span.{Span}
use Rattle.typed_tree.specs.declared.program.Field.{Field}
use Rattle.typed_tree.specs.declared.program.Object.{Object}
use Rattle.typed_tree.specs.Syntax as syntax
use Rattle.typed_tree.specs.Syntax.{Expr, Static, Optional, Absent, Present, Selections, Actuals, NoActual, In, InOut, Out, CompositeInOut, CompositeOut, Number, Cells, Pieces, NoPiece, Text, Image, Padded, Decls, NoDecl, DeclareDefault, DeclareVariable, DeclareConstant, Mentions, Iteration, Chunk, Stmt, Null, Assign, CallProcedure, Exit, Return, ReturnValue, Raise, Reraise, IfThen, Case, Loop, For, ParallelFor, Parallel, Block, Put, Get, Stmts, End, Then, Alternatives, NoAlternative, Alternative, Handled, Others, Reasons, Handlers, NoHandler, Handler, Arms, NoArm, Arm, Subtype, Program}
use Rattle.ada_meaning.specs.Values.{components, to_nat}
use Rattle.ada_meaning.specs.Meaning.{object_layout, arms_of}
use Rattle.stack_code.specs.declared.code.Around.{Around}
use Rattle.stack_code.specs.declared.code.Around.TheVariants.{Sub, Site}
use Rattle.stack_code.specs.declared.code.SiteKind.TheVariants as kind
use Rattle.stack_code.specs.declared.instr.Instr.{Instr}
use Rattle.stack_code.specs.declared.instr.Instr.TheVariants as i
use Rattle.stack_code.specs.Listing.{reason_number}
use Rattle.lower_emission.specs.declared.types.Where.{Where}
use Rattle.lower_emission.specs.declared.types.Named.{Named}
use Rattle.lower_emission.specs.declared.types.Level.{Level}
use Rattle.lower_emission.specs.declared.types.Level.TheVariants.{Own}
use Rattle.lower_emission.specs.declared.types.Leaving.{Leaving}
use Rattle.lower_emission.specs.declared.types.Leaving.TheVariants.{ByReturn, ByValue, ByEnd, ByLeave}
use Rattle.lower_emission.specs.Emits.{Emit}
use Rattle.lower_emission.specs.Scope.{Scope, own, taking, nested, thread_scope, with_object, with_target, with_handled, with_exit, with_entry, root_of, none, one, keep, set_instr, ◌⨟◌, choose, when_, looped, guarded, load_of, store_at, address_of}
use Rattle.lower_emission.specs.Emission.{lost, checked, address, is_whole, formal_of, passed, passing, cells_of, emit, selected, put_into, composed, composite_width, width, doubled, iterated, chunk_code, course_code, ends_code, loop_kind, fork_code, threaded, chunk_scope}

abbrev pub no_handler : Handlers → Bool
no_handler NoHandler = true
no_handler h = false

abbrev pub is_end : Stmts → Bool
is_end End = true
is_end s = false

-- ---- assignments (5.2)

-- a number is checked and goes to a cell, by one instruction to one of the own frame
abbrev pub store_checked : Scope → Scalar → Level → ℕ → Emit
store_checked s k Own n = one s 1 (set_instr k n)
store_checked s k level n = checked s 1 k ⨟ one s 1 (store_at level n)

-- a scalar goes to a part of what is named, whose value @ is
abbrev pub assigned : Scope → Option Named → Bool → Scalar → (moved : Emit) → (value : Scope → ℕ → Emit) → Emit
assigned s None whole k moved value = lost s 0
assigned s (Some n) whole k moved value =
    cond (whole && not n.through) (value (with_target n s) 0 ⨟ store_checked s k n.place.level n.place.cell)
    (one s 0 (address_of n) ⨟ moved ⨟ one s 1 i.Dup ⨟ keep s (1 + 1) s.free
    ⨟ value (with_target (record { through = true; place = own s.free; cells = 1 }) (taking 1 s)) 1 ⨟ checked s (1 + 1) k ⨟ one s (1 + 1) i.Store)

-- ---- choices (5.4), reasons (11.2)

abbrev pub in_span : Scope → ℕ → ℤ → ℤ → Emit
in_span s d low high = one s 0 (i.LoadL d) ⨟ one s 1 (i.Push low) ⨟ one s 2 i.Ge ⨟ one s 1 (i.LoadL d) ⨟ one s 2 (i.Push high) ⨟ one s 3 i.Le ⨟ one s 2 i.Min

-- whether the value is one of a choice
abbrev pub chosen : Scope → ℕ → List Span → Emit
chosen s d [] = one s 0 (i.Push (pos 0))
chosen s d (r ∷ rs) = in_span s d r.low r.high ⨟ choose s 0 1 (one s 0 (i.Push (pos 1))) (chosen s d rs)

abbrev pub has_reason : Scope → ℕ → List Reason → Emit
has_reason s d [] = one s 0 (i.Push (pos 0))
has_reason s d (r ∷ rs) = (one s 0 (i.LoadL d) ⨟ one s 1 (i.Push (pos (reason_number r))) ⨟ one s 2 i.Eq) ⨟ choose s 0 1 (one s 0 (i.Push (pos 1))) (has_reason s d rs)

abbrev pub handled_by : Handled → Emit → Emit → Scope → ℕ → Emit
handled_by Others stmts rest s d = stmts
handled_by (Reasons reasons) stmts rest s d = has_reason s d reasons ⨟ choose s 0 0 stmts rest

-- ---- leaving: exits (5.7), returns (6.5), raises (11.3)

abbrev pub returning : Scope → ℕ → Leaving → Emit
returning s h ByReturn = one s h i.Ret
returning s h ByValue = one s h (i.Push (pos 0)) ⨟ one s (h + 1) i.RetV
returning s h ByEnd = one s h i.Halt
returning s h ByLeave = one s h i.Leave

abbrev pub returning_value : Scope → Leaving → Emit
returning_value s ByReturn = one s 1 i.Ret
returning_value s ByValue = one s 1 i.RetV
returning_value s ByEnd = one s 1 i.Halt
returning_value s ByLeave = one s 1 i.LeaveV

-- an exit of a loop that isn't in the own body leaves the construct that holds the thread; outside threads no exit does
abbrev pub away : Scope → ℕ → Around → Emit
away s loop (Sub k) = lost s 0
away s loop (Site k) = one s 0 (i.Exit loop)

abbrev pub exiting : Scope → ℕ → Option ℕ → Emit
exiting s loop None = away s loop s.body
exiting s loop (Some to) = one s 0 (i.Jump to)

abbrev pub handled_target : Scope → Option Where → Emit
handled_target s None = lost s 0
handled_target s (Some w) = one s 0 (load_of w) ⨟ one s 1 i.Reraise

-- ---- output (A.10)

abbrev pub image_instr : Class → Instr
image_instr class.Boolean = i.Bool
image_instr (class.Integer (Modulo k)) = i.UImg
image_instr (class.Integer base) = i.Img
image_instr class.Universal = i.Img

abbrev pub send_instr : Bool → Instr
send_instr true = i.SendLn
send_instr false = i.Send

-- a static width
abbrev pub width_of : Expr → ℕ
width_of (Static at value literal mentions) = to_nat value
width_of e = 0

-- the line of values that stand in cells from one on
abbrev pub piece_texts : Scope → ℕ → Pieces → Emit
piece_texts s d NoPiece = none
piece_texts s d (Text bytes rest) = one s 0 (i.Words (s.text bytes)) ⨟ piece_texts s d rest
piece_texts s d (Image class e rest) = one s 0 (i.LoadL d) ⨟ one s 1 (image_instr class) ⨟ piece_texts s (d + 1) rest
piece_texts s d (Padded class e width rest) = one s 0 (i.LoadL d) ⨟ one s 1 (i.Wide (width_of width)) ⨟ piece_texts s (d + 1) rest

abbrev pub object_here : Scope → Entity → ℕ → Scope
object_here s x n = taking n (with_object x (record { through = false; place = own s.free; cells = n }) s)

-- ---- the loops that a text may leave by an exit

abbrev mutual
  pub stmt_exits : Stmt → List ℕ
  stmt_exits (Exit loop condition) = loop ∷ []
  stmt_exits (IfThen condition stmts otherwise) = exits_of stmts ++ exits_of otherwise
  stmt_exits (Case e alternatives) = case_exits alternatives
  stmt_exits (Loop number condition stmts) = exits_of stmts
  stmt_exits (For number iteration stmts) = exits_of stmts
  stmt_exits (ParallelFor number site chunk iteration stmts) = exits_of stmts
  stmt_exits (Parallel site count arms) = arm_exits arms
  stmt_exits (Block decls stmts handlers) = exits_of stmts ++ handler_exits handlers
  stmt_exits _ = []

  pub exits_of : Stmts → List ℕ
  exits_of End = []
  exits_of (Then first more) = stmt_exits first ++ exits_of more

  pub case_exits : Alternatives → List ℕ
  case_exits NoAlternative = []
  case_exits (Alternative others choices mentions stmts rest) = exits_of stmts ++ case_exits rest

  pub arm_exits : Arms → List ℕ
  arm_exits NoArm = []
  arm_exits (Arm stmts rest) = exits_of stmts ++ arm_exits rest

  pub handler_exits : Handlers → List ℕ
  handler_exits NoHandler = []
  handler_exits (Handler handled stmts rest) = exits_of stmts ++ handler_exits rest

-- ---- behind a fork (5.5, 5.6.1): the number above says how the construct was left, the one below is the value of a
-- return

-- whether it is so
abbrev pub left_by : Scope → (d way : ℕ) → Emit
left_by s d way = one s 0 (i.LoadL d) ⨟ one s 1 (i.Push (pos way)) ⨟ one s 2 i.Eq

-- whether a loop is the construct itself: a parallel loop has a number, a block has none
abbrev pub is_own : Option ℕ → ℕ → Bool
is_own None n = false
is_own (Some number) n = nat_eq number n

abbrev pub exit_code : Scope → ℕ → (number : Option ℕ) → ℕ → Emit
exit_code s d number n = cond (is_own number n) none (left_by s d (n + 3) ⨟ when_ s 0 (exiting s n (s.exits n)))

abbrev pub exits_code : Scope → ℕ → (number : Option ℕ) → List ℕ → Emit
exits_code s d number [] = none
exits_code s d number (n ∷ ns) = exit_code s d number n ⨟ exits_code s d number ns

abbrev pub left_returns : Scope → Emit
left_returns s =
    left_by s s.free 1 ⨟ when_ s 0 (returning s 0 s.leaving)
    ⨟ left_by s s.free 2 ⨟ when_ s 0 (one s 0 (i.LoadL (s.free + 1)) ⨟ returning_value s s.leaving)

-- what is left by none of them goes on behind the construct, or by the own loop's exit
abbrev pub left_code : Scope → (number : Option ℕ) → List ℕ → Emit
left_code s number loops =
    keep s 2 s.free ⨟ keep s 1 (s.free + 1) ⨟ one s 0 (i.LoadL s.free) ⨟ when_ s 0 (left_returns s ⨟ exits_code s s.free number loops)

module _ (program : Program) where
  -- ---- objects without an initial value (3.3.1)

  -- the first values of the cells of components, of which `within` gives those of a subtype from a cell on
  abbrev pub field_defaults : (within : ℕ → ℕ → Emit) → (t : ℕ) → List Field → Emit
  field_defaults within t [] = none
  field_defaults within t (f ∷ fs) = within t f.subtype ⨟ field_defaults within (t + cells_of program f.subtype) fs

  abbrev pub default_of : Scope → (within : ℕ → ℕ → Emit) → (t : ℕ) → Option Subtype → Emit
  default_of s within t None = none
  default_of s within t (Some (syntax.OfScalar k)) = one s 0 (i.Push k.low) ⨟ keep s 1 t
  default_of s within t (Some (syntax.Array dimensions component)) = within t component ⨟ doubled s 0 t (cells_of program component) (components dimensions) 1 (components dimensions)
  default_of s within t (Some (syntax.Record fields)) = field_defaults within t fields

  -- those of a subtype whose components are so many levels deep
  abbrev pub defaults_within : Scope → (levels t number : ℕ) → Emit
  defaults_within s zero t number = none
  defaults_within s (suc levels) t number = default_of s (defaults_within s levels) t (slice_get program.subtypes number)

  abbrev pub subtype_or_none : Option Object → ℕ
  subtype_or_none None = length program.subtypes
  subtype_or_none (Some o) = o.subtype

  abbrev pub defaulted : Scope → ℕ → ℕ → Emit
  defaulted s t x = defaults_within (taking (length (object_layout program x)) s) (length program.subtypes) t (subtype_or_none (slice_get program.objects x))

  -- declarations, and what follows in their scope
  abbrev pub declared : Scope → Decls → (Scope → Emit) → Emit
  declared s NoDecl rest = rest s
  declared s (DeclareDefault x more) rest = defaulted s s.free x ⨟ declared (object_here s (VariableOf x) (length (object_layout program x))) more rest
  declared s (DeclareVariable x initial more) rest = put_into program (taking (width program initial) s) 0 s.free initial ⨟ declared (object_here s (VariableOf x) (width program initial)) more rest
  declared s (DeclareConstant x initial more) rest = put_into program (taking (width program initial) s) 0 s.free initial ⨟ declared (object_here s (ConstantOf x) (width program initial)) more rest
  declared s (Mentions es more) rest = declared s more rest

  -- a call's formals are copied back from their cells (6.4.1)
  abbrev pub back_one : Scope → ℕ → Scalar → Emit
  back_one s d outer = one s 0 (i.LoadL d) ⨟ one s 1 (i.LoadL (d + 1)) ⨟ checked s 2 outer ⨟ one s 2 i.Store

  abbrev pub back_cells : Scope → ℕ → ℕ → Emit
  back_cells s d subtype = one s 0 (i.LoadL d) ⨟ one s 1 (i.Local (d + 1)) ⨟ one s 2 (i.Copy (cells_of program subtype))

  unfoldable pub back_code : Scope → ℕ → ℕ → Actuals → Emit
  back_code s sub w NoActual = none
  back_code s sub w (In formal value rest) = back_code s sub w rest
  back_code s sub w (InOut formal at r selections inner outer rest) = back_one s (formal_of program sub w (VariableOf formal)) outer ⨟ back_code s sub w rest
  back_code s sub w (Out formal at r selections inner outer rest) = back_one s (formal_of program sub w (VariableOf formal)) outer ⨟ back_code s sub w rest
  back_code s sub w (CompositeInOut formal at r selections subtype rest) = back_cells s (formal_of program sub w (VariableOf formal)) subtype ⨟ back_code s sub w rest
  back_code s sub w (CompositeOut formal at r selections subtype rest) = back_cells s (formal_of program sub w (VariableOf formal)) subtype ⨟ back_code s sub w rest

  -- the values of pieces go to cells
  unfoldable pub piece_values : Scope → Pieces → Emit
  piece_values s NoPiece = none
  piece_values s (Text bytes rest) = piece_values s rest
  piece_values s (Image class e rest) = emit program s 0 e ⨟ keep s 1 s.free ⨟ piece_values (taking 1 s) rest
  piece_values s (Padded class e width rest) = emit program s 0 e ⨟ keep s 1 s.free ⨟ piece_values (taking 1 s) rest

  -- ---- parallel constructs, with what emits the parts within

  abbrev pub parallel_for : Scope → (number site : ℕ) → Chunk → Iteration → (loops : List ℕ) → (Scope → Emit) → Emit
  parallel_for s number site chunk iteration loops body =
      one s 0 i.Nest ⨟ chunk_code program (nested s) 0 chunk ⨟ course_code program (taking 2 (nested s)) 0 iteration ⨟ ends_code (taking 2 (nested s)) 0 iteration
      ⨟ fork_code (nested s) 0 2 (loop_kind chunk) site s.free (one (nested s) (1 + 1 + 1 + 1) (i.Push (pos 0)))
      (threaded program (thread_scope site s) 0 chunk (s.free + 1 + 1) iteration body ⨟ one (chunk_scope chunk (taking 2 (thread_scope site s))) 0 i.End)
      ⨟ one (nested s) 2 i.Unnest ⨟ left_code (taking 2 (taking 2 s)) (Some number) loops

  -- whether a number is one of a share
  abbrev pub in_share : Scope → ℕ → Emit
  in_share t n = one t 0 (i.LoadL 2) ⨟ one t 1 (i.Push (pos n)) ⨟ one t 2 i.Le ⨟ one t 1 (i.Push (pos n)) ⨟ one t 2 (i.LoadL 3) ⨟ one t 3 i.Le ⨟ one t 2 i.Min

  -- the arms of a share, of those from a number on
  abbrev pub arms_code : Scope → ℕ → List Emit → Emit
  arms_code t n [] = none
  arms_code t n (a ∷ more) = (in_share t n ⨟ when_ t 0 a) ⨟ arms_code t (n + 1) more

  abbrev pub chunk_by : Optional → Chunk
  chunk_by Absent = syntax.NoChunk
  chunk_by (Present e) = syntax.Count e

  -- the threads' scope of a block, whose cells 2 and 3 have the numbers of the first arm and the last
  abbrev pub arm_scope : Scope → (site : ℕ) → Scope
  arm_scope s site = taking 2 (taking 2 (thread_scope site s))

  abbrev pub parallel_block : Scope → (site : ℕ) → Optional → (count : ℕ) → (loops : List ℕ) → (arms : Emit) → Emit
  parallel_block s site threads count loops arms =
      one s 0 i.Nest ⨟ chunk_code program (nested s) 0 (chunk_by threads) ⨟ one (nested s) 0 (i.Push (pos 0)) ⨟ one (nested s) 1 (i.Push (pos (count - 1)))
      ⨟ fork_code (nested s) 0 2 (kind.Block count) site s.free (one (nested s) (1 + 1 + 1 + 1) (i.Push (pos 0))) (arms ⨟ one (arm_scope s site) 0 i.End)
      ⨟ one (nested s) 2 i.Unnest ⨟ left_code (taking 2 s) None loops

  unfoldable mutual
    pub stmt : Scope → Stmt → Emit
    stmt s Null = none
    stmt s (Assign at r selections (Number check e)) =
        assigned s (root_of s r) (is_whole selections) check.scalar (selected program s 1 selections) (λ t h. emit program t h e)
    stmt s (Assign at r selections (Cells c)) =
        address s 0 (root_of s r) ⨟ selected program s 1 selections ⨟ keep s 1 s.free
        ⨟ composed program (with_target (record { through = true; place = own s.free; cells = composite_width program c }) (taking (composite_width program c) (taking 1 s))) 0 (s.free + 1) c
        ⨟ one s 0 (i.LoadL s.free) ⨟ one s 1 (i.Local (s.free + 1)) ⨟ one s 2 (i.Copy (composite_width program c))
    stmt s (CallProcedure at callee sub actuals) =
        passed program (passing program sub s) 0 sub s.free actuals ⨟ one s 0 (i.CallAt (sub + 1) s.free) ⨟ back_code s sub s.free actuals
    stmt s (Exit loop Absent) = exiting s loop (s.exits loop)
    stmt s (Exit loop (Present e)) = emit program s 0 e ⨟ when_ s 0 (exiting s loop (s.exits loop))
    stmt s Return = returning s 0 s.leaving
    stmt s (ReturnValue (Number check e)) = emit program s 0 e ⨟ checked s 1 check.scalar ⨟ returning_value s s.leaving
    stmt s (ReturnValue (Cells c)) = lost s 0
    stmt s (Raise r) = one s 0 (i.Raise r)
    stmt s Reraise = handled_target s s.handled
    stmt s (IfThen condition stmts otherwise) = emit program s 0 condition ⨟ cond (is_end otherwise) (when_ s 0 (all s stmts)) (choose s 0 0 (all s stmts) (all s otherwise))
    stmt s (Case e alternatives) = emit program s 0 e ⨟ keep s 1 s.free ⨟ cases (taking 1 s) s.free alternatives
    stmt s (Loop number Absent stmts) = looped s 0 false (λ exit. one s 0 i.Turn ⨟ all (with_exit number exit s) stmts) (λ head. one s 0 (i.Jump head))
    stmt s (Loop number (Present e) stmts) = looped s 0 false (λ exit. one s 0 i.Turn ⨟ all (with_exit number exit s) stmts) (λ head. emit program s 0 e ⨟ one s 1 (i.JTrue head))
    stmt s (For number iteration stmts) = iterated program s 0 (Some number) iteration (λ t. all t stmts)
    stmt s (ParallelFor number site chunk iteration stmts) = parallel_for s number site chunk iteration (exits_of stmts) (λ u. all u stmts)
    stmt s (Parallel site count arms) = parallel_block s site count (arms_of arms) (arm_exits arms) (arms_code (arm_scope s site) 0 (arm_codes (arm_scope s site) arms))
    stmt s (Block decls stmts handlers) =
        declared s decls (λ t. cond (no_handler handlers) (all t stmts)
        (guarded t (keep t 1 t.free ⨟ handling (with_handled (own t.free) (taking 1 t)) t.free handlers) (λ handler. all (with_entry handler t) stmts)))
    stmt s (Put at callee pieces line) = piece_values s pieces ⨟ piece_texts s s.free pieces ⨟ one s 0 (send_instr line)
    stmt s (Get at callee first r selections scalar) = address s 0 (root_of s r) ⨟ selected program s 1 selections ⨟ one s 1 i.Get ⨟ checked s 2 scalar ⨟ one s 2 i.Store

    pub all : Scope → Stmts → Emit
    all s End = none
    all s (Then first more) = stmt s first ⨟ all s more

    pub cases : Scope → ℕ → Alternatives → Emit
    cases s d NoAlternative = one s 0 (i.Raise reason.ConstraintError)
    cases s d (Alternative true choices mentions stmts rest) = all s stmts
    cases s d (Alternative false choices mentions stmts rest) = chosen s d choices ⨟ choose s 0 0 (all s stmts) (cases s d rest)

    -- with the number of what is handled in a cell
    pub handling : Scope → ℕ → Handlers → Emit
    handling s d NoHandler = one s 0 (i.LoadL d) ⨟ one s 1 i.Reraise
    handling s d (Handler handled stmts rest) = handled_by handled (all s stmts) (handling s d rest) s d

    pub arm_codes : Scope → Arms → List Emit
    arm_codes s NoArm = []
    arm_codes s (Arm stmts rest) = all s stmts ∷ arm_codes s rest
