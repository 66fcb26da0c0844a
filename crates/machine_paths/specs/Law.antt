-- What is said of a machine's threads on workers.
use Rattle.std.specs.Prelude.{◌≡◌, ℕ, ◌+◌, ◌≤◌, Bool, false, map, ◌++◌, List, [], ◌∷◌, length, slice_get, Option, Some, None, Result}
use Rattle.ada_base.specs.Cells.{Cell, Mine}
use Rattle.ada_base.specs.Cuts.{Plan, cuts_of}
use Rattle.ada_base.specs.Notes.{ConstructNote, InOrder, ByNotes}
use Rattle.ada_workers.specs.Paths.{Fine, Frames}
use Rattle.ada_workers.specs.Orders.{Start}
use Rattle.ada_workers.specs.Joins.{Joined}
use Rattle.ada_workers.specs.Threads.{Touching, FineInOrder, IsOrdered}
use Rattle.ada_workers.specs.declared.construct.Over.{Over}
use Rattle.behaviours.specs.Joins.{Share, deal}
use Rattle.stack_code.specs.declared.code.Code.{Code}
use Rattle.stack_code.specs.declared.code.CodeSite.{CodeSite}
use Rattle.stack_code.specs.declared.path.Asked.{Asked}
use Rattle.stack_code.specs.declared.path.Io.{Io}
use Rattle.stack_code.specs.declared.path.Gave.{Gave}
use Rattle.stack_code.specs.Machine.{State, Stop, Asks, Left, Stops, step}
use Rattle.stack_code.specs.Machine as machine
use Rattle.ada_lower.specs.Driven.{World, Dyn, Path, Final, Step, On, Forks, in_order, by_note, thread_at, answered, answer_of, goes, Finally}
use Rattle.machine_paths.specs.Silent.{silently, Quietly, Leads, Reaches, AsksNothing, IsIn}
use Rattle.machine_paths.specs.Threads.{ThreadPath, inside, starts, outcome_of, enough, runs, touched}
use Rattle.machine_paths.specs.Noting.{note_by, turns_of, AnswerOf, AsThreads}
use Rattle.stack_code.specs.declared.code.Around.{Around}
use Rattle.stack_code.specs.declared.code.Around.TheVariants.{Site}
use Rattle.stack_code.specs.declared.code.SiteKind.{SiteKind}
use Rattle.stack_code.specs.declared.path.Leave.{Leave}
use Rattle.stack_code.specs.Answers.{OfKind}
use Rattle.stack_code.specs.Operands.{is_reduction}
use Rattle.stack_code.specs.Stands.{IsForward, Stands, Forked}
use Rattle.stack_code.specs.Valid.{IsValid}
use Rattle.machine_paths.specs.Hushed.{IsHushed, BeginsLater, LeavesWell, GaveWell}
use Rattle.machine_paths.specs.Starting.{thread_start, thread_starts}
use Rattle.machine_paths.specs.Constructing.{starts_at, with_schedule, ForksTo, came_to, answered_by}

-- ---- a thread keeps to its view
abbrev pub FrameLaw : Type 0
FrameLaw = Frames runs × Touching runs touched

-- ---- more steps change no end, and a thread's path does what the machine's path does
abbrev pub StepLaw : Type 0
StepLaw = (limit : ℕ) (c : Code) (n k : ℕ) (x : Step) (e : Final) → silently limit c n x ≡ Some e → (silently limit c (n + k) x ≡ Some e) × (goes limit c (n + k) x ≡ Some e)

-- it leaves its world as it was
abbrev pub WorldLaw : Type 0
WorldLaw = (limit : ℕ) (c : Code) (w : World) → w.notes ≡ InOrder → (x : Step) (e : Final) → IsIn w x → Quietly limit c x e → e.dyn.world ≡ w

-- where it isn't stuck, what it comes to in some number of steps is what it comes to
abbrev pub EndLaw : Type 0
EndLaw = (p : ThreadPath) (n : Option ℕ) (cs : List Cell) (e : Final) → Fine (runs p n cs).end → Quietly p.limit p.code (On (starts p n cs)) e → runs p n cs ≡ outcome_of p (Some e)

-- ---- where the machine comes, the path does
abbrev pub RunLaw : Type 0
RunLaw = (limit : ℕ) (c : Code) (p q : State) (w : World) → machine.Comes limit c p q
    → Reaches limit c (On (record { state = p; world = w })) (On (record { state = q; world = w })) × Leads limit c (On (record { state = p; world = w })) (On (record { state = q; world = w }))

abbrev pub StopLaw : Type 0
StopLaw = (limit : ℕ) (c : Code) (p : State) (x : Stop) (q : State) (w : World) → machine.Comes_to limit c p x q
    → Reaches limit c (On (record { state = p; world = w })) (answered limit c x q w) × (AsksNothing (Stops x q) → Leads limit c (On (record { state = p; world = w })) (answered limit c x q w))

-- a thread that asks comes to nothing
abbrev pub AskLaw : Type 0
AskLaw = (limit : ℕ) (c : Code) (p : State) (i : Io) (q : State) (w : World) (e : Final) → machine.Comes_to limit c p (Asks i) q → Quietly limit c (On (record { state = p; world = w })) e → ⊥

-- ---- threads of a construct
-- in a world with their plan the machine's threads are such paths
abbrev pub StartLaw : Type 0
StartLaw = (limit : ℕ) (c : Code) (plan : Plan) (site : CodeSite) (q : Asked) (p : Path) (top from : ℕ) (w : World) → w.plan ≡ cuts_of plan → (m : ℕ) → enough limit c ≤ m → (k before : ℕ) (sizes : List ℕ)
    → AsThreads (goes limit c m) (thread_at c top site q p) from w k (deal k before sizes) (thread_starts limit c plan site q p.state top from (deal k before sizes))

-- what run_threads answers is what the machine does by the note that is told
abbrev pub NoteLaw : Type 0
NoteLaw = (run : Step → Option Final) (start : Dyn → Share → Path) (top from : ℕ) (w : World) (chosen : Option ℕ) (js : List Share) (ss : List (Start ThreadPath)) (os : List (Over ThreadPath)) (cs ds : List Cell)
    → top ≡ length cs → AsThreads run start from w 0 js ss → Joined runs ss cs chosen os ds
    → (how : Result Gave Stop) × AnswerOf chosen os how
    × (by_note run start top (note_by chosen os) js (record { cells = cs; turns = from; left = None; world = w }) ≡ Some (record { dyn = record { cells = ds; turns = turns_of from os; left = None; world = w }; how = how }))

-- what run_in_order answers is what the machine does in order
abbrev pub OrderLaw : Type 0
OrderLaw = (run : Step → Option Final) (start : Dyn → Share → Path) (top from : ℕ) (w : World) (chosen : Option ℕ) (js : List Share) (ss : List (Start ThreadPath)) (os : List (Over ThreadPath)) (cs ds : List Cell)
    → top ≡ length cs → AsThreads run start from w 0 js ss → FineInOrder runs ss cs → IsOrdered runs ss cs chosen os ds
    → (how : Result Gave Stop) × AnswerOf chosen os how
    × (in_order run start top from js (record { cells = cs; turns = from; left = None; world = inside w }) from false [] ≡ Some (record { dyn = record { cells = ds; turns = turns_of from os; left = None; world = inside w }; how = how }))

-- so from a fork the path goes on with the answer that the workers gave: at an outermost construct by the note,
abbrev pub ConstructLaw : Type 0
ConstructLaw = (limit : ℕ) (c : Code) (plan : Plan) (q : Asked) (p : Path) (site : CodeSite) → slice_get c.sites q.site ≡ Some site → p.state.left ≡ None → p.world.plan ≡ cuts_of plan
    → (chosen : Option ℕ) (os : List (Over ThreadPath)) (ds : List Cell) → Joined runs (starts_at limit c plan site q p.state) p.state.cells chosen os ds
    → (how : Result Gave Stop) × AnswerOf chosen os how
    × ((ns : List ConstructNote) → Reaches limit c (Forks q (with_schedule (ByNotes (note_by chosen os ∷ ns)) p)) (answered_by c site q (with_schedule (ByNotes ns) p) ds (turns_of p.state.turns os) how))

-- and where constructs are run in order, in threads too
abbrev pub NestedLaw : Type 0
NestedLaw = (limit : ℕ) (c : Code) (plan : Plan) (q : Asked) (p : Path) (site : CodeSite) → slice_get c.sites q.site ≡ Some site → p.state.left ≡ None → p.world.plan ≡ cuts_of plan → p.world.notes ≡ InOrder
    → (chosen : Option ℕ) (os : List (Over ThreadPath)) (ds : List Cell) → FineInOrder runs (starts_at limit c plan site q p.state) p.state.cells → IsOrdered runs (starts_at limit c plan site q p.state) p.state.cells chosen os ds
    → (how : Result Gave Stop) × AnswerOf chosen os how
    × Reaches limit c (Forks q p) (answered_by c site q p ds (turns_of p.state.turns os) how) × Leads limit c (Forks q p) (answered_by c site q p ds (turns_of p.state.turns os) how)

-- what the threads of an outermost fork come to by that note, and what they come to in order, with so many steps and more
abbrev pub ForkLaw : Type 0
ForkLaw = (limit : ℕ) (c : Code) (plan : Plan) (q : Asked) (p : Path) (site : CodeSite) → slice_get c.sites q.site ≡ Some site → p.state.left ≡ None → p.world.plan ≡ cuts_of plan
    → (chosen : Option ℕ) (os : List (Over ThreadPath)) (ds : List Cell)
    → (Joined runs (starts_at limit c plan site q p.state) p.state.cells chosen os ds → (how : Result Gave Stop) × AnswerOf chosen os how
    × ((ns : List ConstructNote) → ForksTo limit c q (with_schedule (ByNotes (note_by chosen os ∷ ns)) p) (came_to c site q (with_schedule (ByNotes ns) p) ds (turns_of p.state.turns os) how)))
    × (p.world.notes ≡ InOrder → FineInOrder runs (starts_at limit c plan site q p.state) p.state.cells → IsOrdered runs (starts_at limit c plan site q p.state) p.state.cells chosen os ds
    → (how : Result Gave Stop) × AnswerOf chosen os how × ForksTo limit c q p (came_to c site q p ds (turns_of p.state.turns os) how))

-- ---- threads of hushed code
-- where the machine's thread comes to an end in some number of steps, `runs` comes to it
abbrev pub EnoughLaw : Type 0
EnoughLaw = (limit : ℕ) (c : Code) (told : ℕ → Bool) → IsValid c → IsForward c → BeginsLater c → IsHushed c told
    → (plan : Plan) (site : CodeSite) (q : Asked) (low : Around) (p : Path) → slice_get c.sites q.site ≡ Some site → Forked c low q.site p.state
    → (top from : ℕ) → from ≤ limit → (j : Share) (n : Option ℕ) (cs : List Cell) (w : World) → w.notes ≡ InOrder → w.plan ≡ cuts_of plan
    → (e : Final) → Finally limit c (On (thread_at c top site q p (record { cells = cs; turns = from; left = n; world = w }) j)) e
    → let s = thread_start limit c plan site q p.state top from j in runs s.path n (cs ++ map Mine s.own) ≡ outcome_of s.path (Some e)

-- valid code in which a thread stops by leaving, of a reduction, does so by a raise; so the answer of a construct is of its kind
abbrev pub LeaveLaw : Type 0
LeaveLaw = (limit : ℕ) (c : Code) (k : ℕ) (site : CodeSite) → IsValid c → slice_get c.sites k ≡ Some site → (s t : State) (l : Leave) → Stands c (Site k) s → step limit c s ≡ Stops (Left l) t → LeavesWell (is_reduction site.kind) l

abbrev pub AnswerLaw : Type 0
AnswerLaw = (c : Code) (k : SiteKind) (q : Asked) (g : Gave) → GaveWell (is_reduction k) g → OfKind k (answer_of c k q g)
