-- What the machine does: one instruction of one path, as a function of the path's state.
use Rattle.std.specs.Prelude.{◌≡◌, ℕ, zero, suc, ◌+◌, ◌-◌, ℤ, pos, negsuc, List, [], ◌∷◌, ◌++◌, length, drop, take, Option, Some, None, slice_get, cond, nat_eq, nat_lt, nat_le, Bool, true, false}
use Rattle.ada_base.specs.declared.reason.Reason.{Reason}
use Rattle.ada_base.specs.declared.reason.Reason.TheVariants.{ConstraintError, StorageError}
use Rattle.stack_code.specs.declared.instr.Instr.{Instr}
use Rattle.stack_code.specs.declared.instr.Instr.TheVariants as instr
use Rattle.stack_code.specs.declared.code.Code.{Code}
use Rattle.stack_code.specs.declared.code.CodeSub.{CodeSub}
use Rattle.stack_code.specs.declared.code.Unwind.{Unwind}
use Rattle.stack_code.specs.declared.path.Asked.{Asked}
use Rattle.stack_code.specs.declared.path.Gave.{Gave}
use Rattle.stack_code.specs.declared.path.Gave.TheVariants as gave
use Rattle.stack_code.specs.declared.path.Io.{Io}
use Rattle.stack_code.specs.declared.path.Io.TheVariants as io
use Rattle.stack_code.specs.declared.path.Leave.{Leave}
use Rattle.stack_code.specs.declared.path.Leave.TheVariants.{Exit as Exits, Return as Returns, Raise as Raises}
use Rattle.stack_code.specs.declared.path.Round.{Round}
use Rattle.stack_code.specs.Listing.{reason_number}
use Rattle.ada_base.specs.Cells.{Cell, seen, written, zeros}
use Rattle.stack_code.specs.Deeds.{Deed, Lacks, GoesOn, Fails, Loads, Stores, Points, Turns, Calls, CallsAt, Combines, Draws, Repeats, Rounds, Ends, Leaves, Forks, Nests, Unnests, Writes, Sends, Gets, Gives, deed_of}

-- a body that waits for its call, which stands at that instruction, and where it goes on; what is its own: where its
-- operands and its frame begin, the constructs begun in it, the accumulators that its last fork kept, the parts that it
-- repeats, and where the cells ended
pub record Frame : Type 0 where
  pub at : ℕ
  pub to : ℕ
  pub floor : ℕ
  pub base : ℕ
  pub nest : ℕ
  pub kept : List ℤ
  pub rounds : List Round
  pub top : ℕ

pub record State : Type 0 where
  pub pc : ℕ
  -- the operands of all bodies that are active, the top first; those of the own body stand above so many
  pub stack : List ℤ
  pub floor : ℕ
  -- the constructs begun in the own body, and the accumulators that its last fork kept
  pub nest : ℕ
  pub kept : List ℤ
  -- the parts that are being repeated in the own body, the innermost first
  pub rounds : List Round
  -- where the own frame begins, and the frames outward from a thread's own
  pub base : ℕ
  pub outward : List ℕ
  -- the bodies that wait, the innermost first
  pub waiting : List Frame
  -- the active calls and constructs
  pub calls : ℕ
  pub nested : ℕ
  pub turns : ℕ
  -- the looks that may still be taken, if they are counted
  pub left : Option ℕ
  -- the line that is being built
  pub line : List ℕ
  -- an exception that is being raised
  pub raising : Option Reason
  pub cells : List Cell

pub data Stop : Type 0 where
  Done : (value : Option ℤ) → Stop
  Left : Leave → Stop
  Spent : Stop  -- the turns are at their limit
  Cut : Stop  -- the looks are used up
  Asks : Io → Stop
  Constructs : Asked → Stop  -- a fork is reached
  Stuck : Stop  -- a cell isn't there to read or to write, or an address is outside memory
  Astray : Stop  -- the code doesn't fit together

pub data Went : Type 0 where
  Goes : State → Went
  Stops : Stop → State → Went

-- ---- looks and cells

abbrev pub look_by : Option ℕ → State → (State → Went) → Went
look_by None s k = k s
look_by (Some zero) s k = Stops Cut s
look_by (Some (suc n)) s k = k (record s { left = Some n })

abbrev pub look : State → (State → Went) → Went
look s k = look_by s.left s k

abbrev pub with_value : Option ℤ → State → (ℤ → Went) → Went
with_value None s k = Stops Stuck s
with_value (Some v) s k = k v

abbrev pub with_cells : Option (List Cell) → State → (State → Went) → Went
with_cells None s k = Stops Stuck s
with_cells (Some cells) s k = k (record s { cells = cells })

-- an address of a cell, or the end of all cells
abbrev pub points : List Cell → ℤ → Bool
points cells (pos n) = nat_le n (length cells)
points cells (negsuc n) = false

abbrev pub if_pointing : Bool → State → Went → Went
if_pointing true s w = w
if_pointing false s w = Stops Stuck s

-- ---- the state that an instruction leads to

-- the bottom of a stack, of that height
abbrev pub cut : ℕ → List ℤ → List ℤ
cut height st = drop (length st - height) st

abbrev pub moved_to : ℕ → List ℤ → State → State
moved_to to st s = record s { pc = to; stack = st }

-- at the next instruction
abbrev pub on : List ℤ → State → State
on st s = record s { pc = s.pc + 1; stack = st }

abbrev pub failed : Reason → List ℤ → State → State
failed r st s = record s { stack = st; raising = Some r }

-- a body begins with the operands that it takes, above which is nothing
abbrev pub entered : CodeSub → (to : ℕ) → (kept : List ℤ) → State → State
entered f to kept s = record s {
  pc = f.entry;
  floor = length s.stack - f.takes;
  nest = 0;
  kept = [];
  rounds = [];
  base = length s.cells;
  waiting = record { at = s.pc; to = to; floor = s.floor; base = s.base; nest = s.nest; kept = kept; rounds = s.rounds; top = length s.cells } ∷ s.waiting;
  calls = s.calls + 1;
  cells = s.cells ++ zeros f.frame;
}

-- the same with its frame from a cell of the own one on, where the first values of its formals stand; it takes no operand
abbrev pub entered_at : CodeSub → (cell to : ℕ) → State → State
entered_at f n to s = record s {
  pc = f.entry;
  floor = length s.stack;
  nest = 0;
  kept = [];
  rounds = [];
  base = s.base + n;
  waiting = record { at = s.pc; to = to; floor = s.floor; base = s.base; nest = s.nest; kept = s.kept; rounds = s.rounds; top = length s.cells } ∷ s.waiting;
  calls = s.calls + 1;
  cells = s.cells ++ zeros (s.base + n + f.frame - length s.cells);
}

abbrev pub pushed_for : Option ℤ → List ℤ → List ℤ
pushed_for (Some v) st = v ∷ st
pushed_for None st = st

-- the body's end: what waits for it goes on at that instruction
abbrev pub ended : Frame → List Frame → ℕ → List ℤ → State → State
ended f fs to st s = record s {
  pc = to;
  stack = st;
  floor = f.floor;
  nest = f.nest;
  kept = f.kept;
  rounds = f.rounds;
  base = f.base;
  waiting = fs;
  calls = s.calls - 1;
  nested = s.nested - s.nest;
  cells = take f.top s.cells;
}

-- ---- raises (11.4)

-- the first entry that holds the instruction
abbrev pub entry_of : List Unwind → ℕ → Option Unwind
entry_of [] q = None
entry_of (u ∷ us) q = cond (nat_lt q u.from) (entry_of us q) (cond (nat_lt q u.to) (Some u) (entry_of us q))

-- the handler begins; accumulators that were to be combined are gone, and no part is repeated any more
abbrev pub handled : Unwind → Reason → State → State
handled u r s = record s {
  pc = u.handler;
  stack = pos (reason_number r) ∷ cut (s.floor + u.depth) s.stack;
  nest = u.nest;
  kept = [];
  rounds = [];
  nested = s.nested - (s.nest - u.nest);
  raising = None;
}

-- with no entry, the frame ends and the call raises
abbrev pub unwound : Reason → List Frame → State → Went
unwound r [] s = Stops (Left (Raises r)) s
unwound r (f ∷ fs) s = Goes (ended f fs f.at (cut s.floor s.stack) s)

abbrev pub raised : Reason → Option Unwind → State → Went
raised r (Some u) s = look s (λ s. Goes (handled u r s))
raised r None s = unwound r s.waiting s

-- ---- instructions

module _ (limit : ℕ) where
  abbrev pub turned : State → (State → Went) → Went
  turned s k = look s (λ s. cond (nat_lt s.turns limit) (k (record s { turns = s.turns + 1 })) (Stops Spent s))

  -- Storage_Error is raised where 1,000 calls are active (13.7)
  abbrev pub entering : CodeSub → (to : ℕ) → (kept : List ℤ) → State → Went
  entering f to kept s = cond (nat_lt s.calls 1000)
      (Goes (entered f to kept s))
      (Goes (failed StorageError (cut (length s.stack - f.takes) s.stack) s))

  -- a call takes a turn
  abbrev pub calling : CodeSub → (to : ℕ) → (kept : List ℤ) → State → Went
  calling f to kept s = turned s (λ s. entering f to kept s)

  -- so is Constraint_Error then, where its operands don't fit
  abbrev pub entering_at : CodeSub → (cell to : ℕ) → (fit : Bool) → State → Went
  entering_at f n to fit s = cond (nat_lt s.calls 1000)
      (cond fit (Goes (entered_at f n to s)) (Goes (failed ConstraintError s.stack s)))
      (Goes (failed StorageError s.stack s))

  abbrev pub calling_at : CodeSub → (cell to : ℕ) → (fit : Bool) → List ℤ → State → Went
  calling_at f n to fit st s = turned s (λ s. entering_at f n to fit (record s { stack = st }))

  -- calls the function with each accumulator that is left, and comes back here
  abbrev pub combining : CodeSub → ℤ → List ℤ → List ℤ → State → Went
  combining f acc st [] s = Goes (on (acc ∷ st) s)
  combining f acc st (part ∷ parts) s = turned s (λ s. entering f s.pc parts (record s { stack = part ∷ acc ∷ st }))

  -- pushes the next accumulator and 1, or 0 and 0 where none is left
  abbrev pub drawing : List ℤ → State → Went
  drawing [] s = Goes (on (pos 0 ∷ pos 0 ∷ s.stack) s)
  drawing (part ∷ parts) s = Goes (on (pos 1 ∷ part ∷ s.stack) (record s { kept = parts }))

  -- another round of a part follows, and begins at the one instruction: it does at the other
  abbrev pub another : (to head more : ℕ) → List Round → State → Went
  another to head zero rs s = Goes (on s.stack (record s { rounds = rs }))
  another to head (suc n) rs s = cond (nat_eq head to)
      (Goes (moved_to to s.stack (record s { rounds = record { more = n; head = head } ∷ rs })))
      (Goes (on s.stack (record s { rounds = rs })))

  abbrev pub rounding : ℕ → List Round → State → Went
  rounding to [] s = Goes (on s.stack s)
  rounding to (r ∷ rs) s = another to r.head r.more rs s

  abbrev pub ending : Option ℤ → List ℤ → List Frame → State → Went
  ending v st [] s = Stops Astray s
  ending v st (f ∷ fs) s = Goes (ended f fs f.to (pushed_for v (cut s.floor st)) s)

  abbrev pub nesting : State → Went
  nesting s = cond (nat_lt s.nested 16)
      (Goes (on s.stack (record s { nest = s.nest + 1; nested = s.nested + 1 })))
      (Goes (failed StorageError s.stack s))

  -- what an instruction asks for is done
  abbrev pub done : Deed → State → Went
  done Lacks s = Stops Astray s
  done (GoesOn to st) s = Goes (moved_to to st s)
  done (Fails r st) s = Goes (failed r st s)
  done (Loads a k) s = with_value (seen s.cells a) s (λ v. done (k v) s)
  done (Stores a v d) s = with_cells (written s.cells a v) s (λ s. done d s)
  done (Points a d) s = if_pointing (points s.cells a) s (done d s)
  done Turns s = turned s (λ s. Goes (on s.stack s))
  done (Calls f) s = calling f (s.pc + 1) s.kept s
  done (CallsAt f n to fit st) s = calling_at f n to fit st s
  done (Combines f acc st) s = combining f acc st s.kept s
  done Draws s = drawing s.kept s
  done (Repeats n) s = Goes (on s.stack (record s { rounds = record { more = n - 1; head = s.pc + 1 } ∷ s.rounds }))
  done (Rounds head) s = rounding head s.rounds s
  done (Ends v st) s = ending v st s.waiting s
  done (Leaves l st) s = Stops (Left l) (record s { stack = st })
  done (Forks q st) s = Stops (Constructs q) (record s { stack = st })
  done Nests s = look s nesting
  done Unnests s = Goes (on s.stack (record s { nest = s.nest - 1; nested = s.nested - 1 }))
  done (Writes text st) s = Goes (on st (record s { line = s.line ++ text }))
  done (Sends feed) s = Stops (Asks (io.Write (s.line ++ cond feed (10 ∷ []) []))) (record s { line = [] })
  done Gets s = Stops (Asks io.Take) s
  done (Gives v st) s = Stops (Done v) (record s { stack = st })

  module _ (c : Code) where
    abbrev pub acted : Option Instr → State → Went
    acted None s = Stops Astray s
    acted (Some i) s = done (deed_of c s.pc s.stack s.base s.outward i) s

    abbrev pub stepped : Option Reason → State → Went
    stepped None s = acted (slice_get c.instrs s.pc) s
    stepped (Some r) s = raised r (entry_of c.unwind s.pc) s

    -- one instruction, or one step of a raise
    abbrev pub step : State → Went
    step s = stepped s.raising s

    abbrev pub going : Went → (State → Went) → Went
    going (Goes s) k = k s
    going (Stops x s) k = Stops x s

    -- so many
    abbrev pub run : ℕ → State → Went
    run zero s = Goes s
    run (suc n) s = going (step s) (λ s. run n s)

    -- so many steps lead from one state to another
    pub record Comes (p q : State) : Type 0 where
      pub steps : ℕ
      pub leads : run steps p ≡ Goes q

    -- or to an end
    pub record Comes_to (p : State) (x : Stop) (q : State) : Type 0 where
      pub steps : ℕ
      pub leads : run steps p ≡ Stops x q

-- ---- answers

-- how a construct was left that wasn't left by a raise
abbrev pub left_as : Leave → List ℤ → List ℤ
left_as (Exits n) st = pos (3 + n) ∷ pos 0 ∷ st
left_as (Returns None) st = pos 1 ∷ pos 0 ∷ st
left_as (Returns (Some v)) st = pos 2 ∷ v ∷ st
left_as (Raises r) st = st

abbrev pub given_left : Leave → State → State
given_left (Raises r) s = record s { raising = Some r }
given_left l s = on (left_as l s.stack) s

-- the answer of a construct: a loop or block ended, or the accumulators of a reduction, of which all but the first are
-- kept, or it was left
abbrev pub after_fork : Gave → State → State
after_fork gave.Nothing s = on (pos 0 ∷ pos 0 ∷ s.stack) s
after_fork (gave.Numbers []) s = s
after_fork (gave.Numbers (v ∷ vs)) s = on (v ∷ s.stack) (record s { kept = vs })
after_fork (gave.Left l) s = given_left l s

abbrev pub after_get : Gave → State → State
after_get (gave.Numbers (v ∷ [])) s = on (v ∷ s.stack) s
after_get (gave.Left (Raises r)) s = record s { raising = Some r }
after_get _ s = s

abbrev pub after : Option Instr → Gave → State → State
after (Some (instr.Fork site)) g s = after_fork g (record s { kept = [] })
after (Some instr.Get) g s = after_get g s
after _ g s = on s.stack s

-- a path that asked goes on with its answer
abbrev pub resumed : Code → Gave → State → State
resumed c g s = after (slice_get c.instrs s.pc) g s

-- the frames that a path sees, the own first: a subprogram sees none but its own
abbrev pub outward_of : List Frame → List ℕ → List ℕ
outward_of [] outward = outward
outward_of (f ∷ fs) outward = []

abbrev pub sees : State → List ℕ
sees s = s.base ∷ outward_of s.waiting s.outward

-- ---- begins

-- a path at the entry of a body whose frame begins at that address
abbrev pub begun : (entry base : ℕ) → (outward : List ℕ) → (turns calls nested : ℕ) → (left : Option ℕ) → List Cell → State
begun entry base outward turns calls nested left cells = record {
  pc = entry;
  stack = [];
  floor = 0;
  nest = 0;
  kept = [];
  rounds = [];
  base = base;
  outward = outward;
  waiting = [];
  calls = calls;
  nested = nested;
  turns = turns;
  left = left;
  line = [];
  raising = None;
  cells = cells;
}
