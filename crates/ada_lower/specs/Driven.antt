-- A path of the machine with its input and output, and what it comes to.
use Rattle.std.specs.Prelude.{◌≡◌, ℕ, zero, suc, ◌-◌, max, min, ℤ, pos, ◌+ℤ◌, nat_eq, List, [], ◌∷◌, ◌++◌, length, take, Option, Some, None, Result, Ok, Err, Bool, true, false, slice_get, cond, ◌⊎◌}
use Rattle.std.specs.Int.{int_min, int_max}
use Rattle.ada_base.specs.Cuts.{evens}
use Rattle.ada_base.specs.declared.operation.Base.{Base}
use Rattle.ada_base.specs.declared.operation.Base.TheVariants.{Modulo}
use Rattle.ada_base.specs.declared.operation.Op.{Op}
use Rattle.ada_base.specs.declared.operation.Op.TheVariants as op
use Rattle.ada_base.specs.declared.reason.Reason.TheVariants as reason
use Rattle.behaviours.specs.Joins.{Share, deal}
use Rattle.typed_tree.specs.Syntax.{Program}
use Rattle.ada_meaning.specs.Values.{without_zeros}
use Rattle.ada_base.specs.Notes.{ThreadNote, Whole, NotBegun, CutAfter, ConstructNote, Schedule, InOrder, ByNotes}
use Rattle.stack_code.specs.declared.code.CodeSite.{CodeSite}
use Rattle.stack_code.specs.declared.code.SiteKind.{SiteKind}
use Rattle.stack_code.specs.declared.code.SiteKind.TheVariants as kind
use Rattle.stack_code.specs.declared.code.Reducer.{Reducer}
use Rattle.stack_code.specs.declared.path.Asked.{Asked}
use Rattle.stack_code.specs.declared.path.Gave.{Gave}
use Rattle.stack_code.specs.declared.path.Round.{Round}
use Rattle.stack_code.specs.Deeds.{on_range, applied, bit, truth, differ}
use Rattle.ada_base.specs.declared.reason.Reason.{Reason}
use Rattle.ada_base.specs.Input.{Held}
use Rattle.ada_meaning.specs.Deeds.{Deed, PutOut}
use Rattle.ada_meaning.specs.Stored.{also_done}
use Rattle.ada_lower.specs.Views.{access_by, viewed}
use Rattle.ada_lower.specs.Lending.{Owns}
use Rattle.ada_lower.specs.Asking.{Reads, Read, got}
use Rattle.stack_code.specs.declared.instr.Instr.{Instr}
use Rattle.stack_code.specs.declared.instr.Instr.TheVariants.{Jump}
use Rattle.stack_code.specs.declared.code.Code.{Code}
use Rattle.stack_code.specs.declared.code.Unwind.{Unwind}
use Rattle.stack_code.specs.declared.path.Gave.TheVariants as gave
use Rattle.stack_code.specs.declared.path.Io.TheVariants as io
use Rattle.stack_code.specs.declared.path.Leave.{Leave}
use Rattle.stack_code.specs.declared.path.Leave.TheVariants as leave
use Rattle.stack_code.specs.Listing.{reason_number}
use Rattle.ada_base.specs.Cells.{Cell, Mine, zeros}
use Rattle.stack_code.specs.Machine.{Frame, State, Stop, Done, Left, Spent, Cut, Asks, Constructs, Astray, Went, Goes, Stops, entry_of, ended, step, resumed, begun, sees}

-- input and output
pub record World : Type 0 where
  pub taken : ℕ
  pub held : Held
  pub input : List ℕ
  pub output : List ℕ
  -- how constructs are run, and the plan that cuts them
  pub notes : Schedule
  pub plan : ℕ → ℕ → List ℕ
  -- what was asked of the input and put out so far, in order, where that is kept
  pub done : Option (List Deed)

pub record Dyn : Type 0 where
  pub cells : List Cell
  pub turns : ℕ
  pub left : Option ℕ
  pub world : World

-- what only calls, constructs and parts that are repeated change
pub record Fixed : Type 0 where
  pub below : List ℤ
  pub nest : ℕ
  pub kept : List ℤ
  pub rounds : List Round
  pub base : ℕ
  pub outward : List ℕ
  pub waiting : List Frame
  pub calls : ℕ
  pub nested : ℕ
  -- the program whose threads are asked to run well on their views, if they are
  pub asked : Option Program

-- as many calls are active, and the same is asked
abbrev pub Alike : Fixed → Fixed → Type 0
Alike f g = (f.calls ≡ g.calls) × (f.asked ≡ g.asked)

pub record Path : Type 0 where
  pub state : State
  pub world : World

abbrev pub state_of : Fixed → ℕ → List ℤ → List ℕ → Option Reason → Dyn → State
state_of f q st line raising d = record {
  pc = q;
  stack = st ++ f.below;
  floor = length f.below;
  nest = f.nest;
  kept = f.kept;
  rounds = f.rounds;
  base = f.base;
  outward = f.outward;
  waiting = f.waiting;
  calls = f.calls;
  nested = f.nested;
  turns = d.turns;
  left = d.left;
  line = line;
  raising = raising;
  cells = d.cells;
}

abbrev pub path : Fixed → ℕ → List ℤ → List ℕ → Option Reason → Dyn → Path
path f q st line raising d = record { state = state_of f q st line raising d; world = d.world }

-- at an instruction, with these operands of the own body
abbrev pub at : Fixed → ℕ → List ℤ → Dyn → Path
at f q st d = path f q st [] None d

pub record Final : Type 0 where
  pub how : Stop
  pub dyn : Dyn

pub data Step : Type 0 where
  On : Path → Step
  Off : Final → Step
  -- a path stands at a fork
  Forks : Asked → Path → Step

abbrev pub off : Stop → Dyn → Step
off x d = Off (record { how = x; dyn = d })

abbrev pub on : Fixed → ℕ → List ℤ → Dyn → Step
on f q st d = On (at f q st d)

-- without the cells of calls
abbrev pub cut_to : ℕ → Dyn → Dyn
cut_to top d = record d { cells = take top d.cells }

abbrev pub clip : List Frame → Dyn → Dyn
clip [] d = d
clip (w ∷ ws) d = clip ws (cut_to w.top d)

-- where a path stops by itself
abbrev pub halt : Fixed → Stop → Dyn → Step
halt f x d = off x (clip f.waiting d)

abbrev pub dyn_of : State → World → Dyn
dyn_of s w = clip s.waiting (record { cells = s.cells; turns = s.turns; left = s.left; world = w })

-- ---- constructs: what the path that calls the machine does at a fork

-- what a thread's frame begins with: its chunk value; the initial value of a reduction; the first and the last of its loop
-- values or positions, or two of which the first is greater
abbrev pub span_cells : ℤ → ℕ → List Cell → List Cell
span_cells first zero rest = Mine (pos 1) ∷ Mine (pos 0) ∷ rest
span_cells first (suc n) rest = Mine first ∷ Mine (first +ℤ pos n) ∷ rest

abbrev pub thread_cells : (frame : ℕ) → Asked → Share → List Cell
thread_cells frame q j = Mine (q.chunk +ℤ pos j.number) ∷ Mine q.initial ∷ span_cells (q.first +ℤ pos j.first) j.size (zeros (frame - 4))

abbrev pub raw_of : State → World → Dyn
raw_of s w = record { cells = s.cells; turns = s.turns; left = s.left; world = w }

-- how iterations are dealt: by the plan, or evenly
abbrev pub sizes_for : (ℕ → ℕ → List ℕ) → SiteKind → Asked → List ℕ
sizes_for cuts kind.Loop q = cuts q.most q.count
sizes_for cuts kind.ChunkLoop q = evens q.count q.most
sizes_for cuts (kind.Block arms) q = evens q.count (min q.most q.count)
sizes_for cuts (kind.Reduction by) q = cuts q.most q.count
sizes_for cuts (kind.ChunkReduction by) q = without_zeros (evens q.count q.most)

-- what threads came to, and where the path goes on: with an answer, or it stops too
pub record Forked : Type 0 where
  pub dyn : Dyn
  pub how : Result Gave Stop

abbrev pub with_turns : ℕ → Dyn → Dyn
with_turns n d = record d { turns = n }

abbrev pub with_left : Option ℕ → Dyn → Dyn
with_left l d = record d { left = l }

abbrev pub with_notes : Schedule → Dyn → Dyn
with_notes n d = record d { world = record d.world { notes = n } }

abbrev pub gathered : List ℤ → Option ℤ → List ℤ
gathered vs None = vs
gathered vs (Some v) = vs ++ (v ∷ [])

-- the chosen thread, where those before it aren't begun and it goes to its end
abbrev pub alone : ℕ → List Share → List ThreadNote → Option Share
alone chosen (j ∷ js) (Whole ∷ ns) = cond (nat_eq j.number chosen) (Some j) None
alone chosen (j ∷ js) (NotBegun ∷ ns) = cond (nat_eq j.number chosen) None (alone chosen js ns)
alone chosen js ns = None

module _ (run : Step → Option Final) (start : Dyn → Share → Path) (top : ℕ) where
  -- a thread's end: the next ones go on, or the construct is left
  abbrev pub thread_ended : (Dyn → ℕ → Bool → List ℤ → Option Forked) → ℕ → Bool → List ℤ → Stop → Dyn → Option Forked
  thread_ended k most over vs (Done v) d = k d (max most d.turns) over (gathered vs v)
  thread_ended k most over vs Spent d = k d (max most d.turns) true vs
  thread_ended k most over vs (Left l) d = Some (record { dyn = with_turns (max most d.turns) d; how = Ok (gave.Left l) })
  thread_ended k most over vs x d = Some (record { dyn = with_turns (max most d.turns) d; how = Err x })

  abbrev pub thread_went : (Dyn → ℕ → Bool → List ℤ → Option Forked) → ℕ → Bool → List ℤ → Option Final → Option Forked
  thread_went k most over vs None = None
  thread_went k most over vs (Some e) = thread_ended k most over vs e.how (cut_to top e.dyn)

  -- threads in order on one memory, each of which counts its turns from the fork; one that is left is the last
  abbrev pub in_order : (from : ℕ) → List Share → Dyn → (most : ℕ) → (over : Bool) → List ℤ → Option Forked
  in_order from [] d most over vs = Some (record { dyn = with_turns most d; how = cond over (Err Spent) (Ok (gave.Numbers vs)) })
  in_order from (j ∷ js) d most over vs = thread_went (λ d most over vs. in_order from js d most over vs) most over vs (run (On (start (with_turns from d) j)))

  -- none is left
  abbrev pub unleft : Result Gave Stop → Result Gave Stop
  unleft (Ok (gave.Left l)) = Err Astray
  unleft x = x

  abbrev pub none_left : Schedule → Option Forked → Option Forked
  none_left notes None = None
  none_left notes (Some e) = Some (record { dyn = with_notes notes e.dyn; how = unleft e.how })

  -- how a thread's end fits its note, and by what it was left: the chosen one is, another one may come to any end of its
  -- own, or it is cut
  abbrev pub fits_chosen : Stop → Result (Option Leave) Stop
  fits_chosen (Left l) = Ok (Some l)
  fits_chosen Cut = Err Cut
  fits_chosen x = Err Astray

  abbrev pub fits_whole : Stop → Result (Option Leave) Stop
  fits_whole (Done v) = Ok None
  fits_whole (Left l) = Ok None
  fits_whole Spent = Ok None
  fits_whole Cut = Err Cut
  fits_whole x = Err Astray

  abbrev pub fits_cut : Stop → Result (Option Leave) Stop
  fits_cut Cut = Ok None
  fits_cut x = Err Astray

  abbrev pub or_else : Option Leave → Option Leave → Option Leave
  or_else None y = y
  or_else (Some x) y = Some x

  abbrev pub noted_ended : (Dyn → Option Leave → Option Forked) → Dyn → Result (Option Leave) Stop → Option Forked
  noted_ended k d (Ok x) = k d x
  noted_ended k d (Err x) = Some (record { dyn = d; how = Err x })

  abbrev pub noted_went : (Dyn → Option Leave → Option Forked) → (Stop → Result (Option Leave) Stop) → Dyn → Option Final → Option Forked
  noted_went k fits d None = None
  noted_went k fits d (Some e) = noted_ended k (record (cut_to top e.dyn) { turns = max d.turns e.dyn.turns; left = d.left; world = record e.dyn.world { notes = d.world.notes } }) (fits e.how)

  abbrev pub noted_thread : (from : ℕ) → (left : Option ℕ) → (Stop → Result (Option Leave) Stop) → (Dyn → Option Leave → Option Forked) → Dyn → Share → Option Forked
  noted_thread from left fits k d j = noted_went k fits d (run (On (start (with_notes InOrder (with_left left (with_turns from d))) j)))

  abbrev pub by_thread_note : (chosen : Bool) → ThreadNote → (from : ℕ) → (Dyn → Option Leave → Option Forked) → Dyn → Share → Option Forked
  by_thread_note true Whole from k d j = noted_thread from None fits_chosen k d j
  by_thread_note true NotBegun from k d j = Some (record { dyn = d; how = Err Astray })
  by_thread_note true (CutAfter looks) from k d j = Some (record { dyn = d; how = Err Astray })
  by_thread_note false Whole from k d j = noted_thread from None fits_whole k d j
  by_thread_note false NotBegun from k d j = k d None
  by_thread_note false (CutAfter looks) from k d j = noted_thread from (Some looks) fits_cut k d j

  abbrev pub left_by : Option Leave → Result Gave Stop
  left_by None = Err Astray
  left_by (Some l) = Ok (gave.Left l)

  -- threads by their notes, of which the chosen one is left
  abbrev pub chosen_threads : (from chosen : ℕ) → List Share → List ThreadNote → Dyn → Option Leave → Option Forked
  chosen_threads from chosen [] [] d how = Some (record { dyn = d; how = left_by how })
  chosen_threads from chosen [] (n ∷ ns) d how = Some (record { dyn = d; how = Err Astray })
  chosen_threads from chosen (j ∷ js) [] d how = Some (record { dyn = d; how = Err Astray })
  chosen_threads from chosen (j ∷ js) (n ∷ ns) d how = by_thread_note (nat_eq j.number chosen) n from (λ d x. chosen_threads from chosen js ns d (or_else x how)) d j

  abbrev pub by_note : ConstructNote → List Share → Dyn → Option Forked
  by_note note js d = elim note.chosen as (λ _. Option Forked) [
    | None ↦ none_left d.world.notes (in_order d.turns js (with_notes InOrder d) d.turns false [])
    | Some chosen ↦ chosen_threads d.turns chosen js note.threads d None
  ]

  -- in order, or an outermost construct by the next note
  abbrev pub by_notes : Schedule → List Share → Dyn → Option Forked
  by_notes InOrder js d = in_order d.turns js d d.turns false []
  by_notes (ByNotes []) js d = Some (record { dyn = d; how = Err Astray })
  by_notes (ByNotes (n ∷ ns)) js d = by_note n js (with_notes (ByNotes ns) d)

module _ (c : Code) where
  -- a thread at its entry, whose frame is on top
  abbrev pub thread_at : (base : ℕ) → CodeSite → Asked → Path → Dyn → Share → Path
  thread_at base site q p d j = record {
    state = begun site.entry base (sees p.state) d.turns p.state.calls p.state.nested d.left (d.cells ++ thread_cells site.frame q j);
    world = d.world;
  }

  -- a reduction's accumulators, combined from the left where that is by an operator; without a thread there is the initial
  -- value. A loop or block has no answer
  abbrev pub plain_applied : Op → Base → ℤ → ℤ → Option ℤ
  plain_applied op.And b x y = Some (int_min x y)
  plain_applied op.Or b x y = Some (int_max x y)
  plain_applied op.Xor b x y = Some (bit (differ (truth x) (truth y)))
  plain_applied op.Add b x y = on_range op.Add b x y
  plain_applied op.Sub b x y = on_range op.Sub b x y
  plain_applied op.Mul b x y = on_range op.Mul b x y
  plain_applied op.Div b x y = on_range op.Div b x y
  plain_applied op.Mod b x y = on_range op.Mod b x y
  plain_applied op.Rem b x y = on_range op.Rem b x y
  plain_applied op.Pow b x y = on_range op.Pow b x y
  plain_applied op.Max b x y = Some (int_max x y)
  plain_applied op.Min b x y = Some (int_min x y)

  -- on numbers of a modular type each operator is that of the type
  abbrev pub op_applied : Op → Base → ℤ → ℤ → Option ℤ
  op_applied o (Modulo k) x y = applied o (Modulo k) x y
  op_applied o b x y = plain_applied o b x y

  abbrev pub combine_by : Reducer → ℤ → ℤ → Option ℤ
  combine_by r x y = op_applied r.op r.base x y

  abbrev pub raised_or : Option ℤ → (ℤ → Gave) → Gave
  raised_or None k = gave.Left (leave.Raise reason.ConstraintError)
  raised_or (Some v) k = k v

  abbrev pub onto_by : Reducer → ℤ → List ℤ → Gave
  onto_by by a [] = gave.Numbers (a ∷ [])
  onto_by by a (b ∷ bs) = raised_or (combine_by by a b) (λ v. onto_by by v bs)

  abbrev pub combined_by : Option Reducer → ℤ → List ℤ → Gave
  combined_by by initial [] = gave.Numbers (initial ∷ [])
  combined_by None initial (v ∷ vs) = gave.Numbers (v ∷ vs)
  combined_by (Some by) initial (v ∷ vs) = onto_by by v vs

  abbrev pub answer_of : SiteKind → Asked → Gave → Gave
  answer_of (kind.Reduction by) q (gave.Numbers vs) = combined_by by q.initial vs
  answer_of (kind.ChunkReduction by) q (gave.Numbers vs) = combined_by by q.initial vs
  answer_of kind q (gave.Left l) = gave.Left l
  answer_of kind q x = gave.Nothing

  abbrev pub with_answer : (Gave → Gave) → Result Gave Stop → Result Gave Stop
  with_answer f (Ok x) = Ok (f x)
  with_answer f (Err x) = Err x

  abbrev pub answering : (Gave → Gave) → Option Forked → Option Forked
  answering f None = None
  answering f (Some e) = Some (record { dyn = e.dyn; how = with_answer f e.how })

  abbrev pub at_site : Option CodeSite → (Step → Option Final) → Asked → Path → Option Forked
  at_site None run q p = Some (record { dyn = raw_of p.state p.world; how = Err Astray })
  at_site (Some site) run q p =
      answering (answer_of site.kind q)
      (by_notes run (thread_at (length p.state.cells) site q p) (length p.state.cells) p.world.notes (deal 0 0 (sizes_for p.world.plan site.kind q)) (raw_of p.state p.world))

  abbrev pub fork : (Step → Option Final) → Asked → Path → Option Forked
  fork run q p = at_site (slice_get c.sites q.site) run q p

  -- the state in which the path goes on
  abbrev pub with_dyn : Dyn → State → State
  with_dyn d s = record s { turns = d.turns; left = d.left; cells = d.cells }

  abbrev pub fork_end : Result Gave Stop → Dyn → State → Step
  fork_end (Ok g) d s = On (record { state = resumed c g (with_dyn d s); world = d.world })
  fork_end (Err x) d s = off x (clip s.waiting d)

  abbrev pub fork_ended : Forked → Path → Step
  fork_ended e p = fork_end e.how e.dyn p.state

module _ (limit : ℕ) (c : Code) where
  -- what was read
  abbrev pub read_into : Reads → World → World
  read_into r w = record w { taken = r.taken; held = r.held; input = r.input; done = r.done }

  -- where a path stopped for a number
  abbrev pub given_got : Reads → Result ℤ (Option Reason) → State → World → Step
  given_got r (Ok v) s w = On (record { state = resumed c (gave.Numbers (v ∷ [])) (record s { turns = r.turns }); world = read_into r w })
  given_got r (Err (Some q)) s w = On (record { state = resumed c (gave.Left (leave.Raise q)) (record s { turns = r.turns }); world = read_into r w })
  given_got r (Err None) s w = off Spent (dyn_of (record s { turns = r.turns }) (read_into r w))

  abbrev pub after_got : Read ℤ → State → World → Step
  after_got r s w = given_got r.state r.end s w

  -- where a path stops for output or input it goes on, at a fork it stands
  abbrev pub answered : Stop → State → World → Step
  answered (Asks (io.Write bytes)) s w = On (record { state = resumed c gave.Nothing s; world = record w { output = w.output ++ bytes; done = also_done (PutOut bytes) w.done } })
  answered (Asks io.Take) s w = after_got (got limit (record { turns = s.turns; taken = w.taken; held = w.held; input = w.input; done = w.done })) s w
  answered (Constructs q) s w = Forks q (record { state = s; world = w })
  answered x s w = off x (dyn_of s w)

  abbrev pub driven : Went → World → Step
  driven (Goes s) w = On (record { state = s; world = w })
  driven (Stops x s) w = answered x s w

  abbrev pub drive : Path → Step
  drive p = driven (step limit c p.state) p.world

  abbrev pub after_fork : Option Forked → Path → (Step → Option Final) → Option Final
  after_fork None p run = None
  after_fork (Some e) p run = run (fork_ended c e p)

  abbrev pub halted : Step → Option Final
  halted (Off e) = Some e
  halted (On p) = None
  halted (Forks q p) = None

  abbrev pub onward : (Step → Option Final) → Step → Option Final
  onward run (Off e) = Some e
  onward run (On p) = run (drive p)
  onward run (Forks q p) = after_fork (fork c run q p) p run

  -- with so many steps at most; the threads of a construct take no more than what follows it
  abbrev pub goes : ℕ → Step → Option Final
  goes zero x = halted x
  goes (suc n) x = onward (goes n) x

  -- a step comes to an end
  abbrev pub Finally : Step → Final → Type 0
  Finally x e = (n : ℕ) × (goes n x ≡ Some e)

  -- a thread went well: it touched no cell that it hasn't
  abbrev pub WentWell : Stop → Type 0
  WentWell (Done v) = Unit {0}
  WentWell (Left l) = Unit {0}
  WentWell Spent = Unit {0}
  WentWell Cut = Unit {0}
  WentWell x = ⊥

  module _ (site : CodeSite) (q : Asked) (p : Path) where
    abbrev pub shares_at : List Share
    shares_at = deal 0 0 (sizes_for p.world.plan site.kind q)

    -- where a thread begins on its view, by who has each cell
    abbrev pub seen_at : (ℕ → Option ℕ) → Share → Dyn
    seen_at owner j = record (with_notes InOrder (with_left None (raw_of p.state p.world))) { cells = viewed (λ a. access_by (owner a) j.number) 0 p.state.cells }

    -- it comes to an end there, and goes well
    abbrev pub RunsWell : (ℕ → Option ℕ) → Share → Type 0
    RunsWell owner j = (e : Final) × Finally (On (thread_at c (length p.state.cells) site q p (seen_at owner j) j)) e × WentWell e.how

    -- the thread that the next note chooses so goes well on its view, whoever of those that are lent a cell has it
    abbrev pub IsFine : Schedule → Type 0
    IsFine InOrder = Unit {0}
    IsFine (ByNotes []) = Unit {0}
    IsFine (ByNotes (n ∷ ns)) = (chosen : ℕ) (j : Share) → n.chosen ≡ Some chosen → alone chosen shares_at n.threads ≡ Some j → (owner : ℕ → Option ℕ) → Owns site q (sees p.state) shares_at owner → RunsWell owner j

  -- what is asked of an outermost fork
  abbrev pub Fine : Asked → Path → Type 0
  Fine q p = (site : CodeSite) → slice_get c.sites q.site ≡ Some site → IsFine site q p p.world.notes

  -- within so many steps each fork that a path comes to is fine, where that is asked
  abbrev pub Along : (asked : Bool) → ℕ → Step → Type 0
  Along asked zero x = Unit {0}
  Along asked (suc n) (Off e) = Unit {0}
  Along asked (suc n) (On p) = Along asked n (drive p)
  Along asked (suc n) (Forks q p) = (asked ≡ true → Fine q p) × ((m : ℕ) (r : Forked) → fork c (goes m) q p ≡ Some r → Along asked n (fork_ended c r p))

  -- each fork that it comes to
  abbrev pub Safe : (asked : Bool) → Step → Type 0
  Safe asked x = (n : ℕ) → Along asked n x

  -- what the one comes to, the other does; where the forks of the one are fine, those of the other are
  pub record Comes (asked : Bool) (x y : Step) : Type 0 where
    pub to : (e : Final) → Finally y e → Finally x e
    pub safe : Safe asked y → Safe asked x

-- ---- raises

abbrev pub unnested : Fixed → Fixed
unnested f = record f { nest = 0; kept = []; rounds = []; nested = f.nested - (f.nest - 0) }

abbrev pub looked : Fixed → Option ℕ → Dyn → (Dyn → Step) → Step
looked f None d k = k d
looked f (Some zero) d k = halt f Cut d
looked f (Some (suc n)) d k = k (record d { left = Some n })

-- a raise goes to the handler, or to the call of the body
abbrev pub passed_on : Reason → List Frame → Fixed → Dyn → Step
passed_on r [] f d = halt f (Left (leave.Raise r)) d
passed_on r (w ∷ ws) f d = On (record { state = ended w ws w.at f.below (state_of f 0 [] [] (Some r) d); world = d.world })

abbrev pub thrown : Reason → Option ℕ → Fixed → Dyn → Step
thrown r (Some h) f d = looked f d.left d (λ d. on (unnested f) h (pos (reason_number r) ∷ []) d)
thrown r None f d = passed_on r f.waiting f d

-- ---- code that lies in a program's code

-- so many jumps lead from one place to another
abbrev pub Jumps : Code → ℕ → ℕ → ℕ → Type 0
Jumps c zero t u = t ≡ u
Jumps c (suc n) t u = (v : ℕ) × (slice_get c.instrs t ≡ Some (Jump v)) × Jumps c n v u

-- jumps lead from both places to one
pub record Meets (c : Code) (t u : ℕ) : Type 0 where
  pub place : ℕ
  pub first : ℕ
  pub second : ℕ
  pub here : Jumps c first t place
  pub there : Jumps c second u place

-- what stands for an instruction: the same one; for a jump also one that leads to the same
abbrev pub IsFor : Code → Option Instr → Instr → Type 0
IsFor c o i = (o ≡ Some i) ⊎ ((t : ℕ) × (u : ℕ) × (i ≡ Jump t) × (o ≡ Some (Jump u)) × Meets c t u)

-- what holds an instruction: none, or an entry whose handler jumps lead to
abbrev pub HeldBy : Code → Option Unwind → Option ℕ → Type 0
HeldBy c None None = Unit {0}
HeldBy c None (Some h) = ⊥
HeldBy c (Some u) None = ⊥
HeldBy c (Some u) (Some h) = Meets c h u.handler × (u.depth ≡ 0) × (u.nest ≡ 0)

pub record At (c : Code) (q : ℕ) (i : Instr) (entry : Option ℕ) : Type 0 where
  pub is : IsFor c (slice_get c.instrs q) i
  pub held : HeldBy c (entry_of c.unwind q) entry
