-- The laws that are proved.
use Rattle.std.proofs.Common.{◌≡◌, ℕ, zero, suc, ℤ, min, length, List, [], ◌∷◌, ◌++◌, Bool, true, false, not, inl, inr, refl, sym, ap, ap₂, subst, ◌∙◌, le_refl, append-nil, append_assoc}
use Rattle.typed_tree.specs.Syntax.{Program}
use Rattle.ada_base.specs.Cuts.{cuts_of}
use Rattle.behaviours.specs.Paths.{Exits, Returns, Raises, Entity, VariableOf, ConstantOf, Everywhere, Instance, Path, End, Gives, Leaves, Spent, Stopped, Scope, start, nothing_visible}
use Rattle.behaviours.specs.Events.{Trace, Puts, output_of}
use Rattle.behaviours.specs.Memory.{Memory, Fits, empty}
use Rattle.behaviours.specs.Behaviours.{asks_apart, asks_at_once}
use Rattle.ada_meaning.specs.Meaning
use Rattle.ada_meaning.specs.Meaning.{main, raises, outset, most_calls, object_layout}
use Rattle.ada_meaning.specs.Nonblocking.{KeepsRule}
use Rattle.ada_meaning.specs.Runs
use Rattle.ada_meaning.specs.Runs.{anything, of_subtype}
use Rattle.ada_meaning.specs.Planned
use Rattle.ada_meaning.specs.Planned.{Result, Planned, handled}
use Rattle.ada_meaning.specs.Sequential.{IsCalm}
use Rattle.ada_meaning.specs.Programs.{this, Setting, input_of, planned, sequential, values, with_final, finals}
use Rattle.ada_meaning.specs.Law.{Ending, Ended, Raised, TurnsSpent, ReadFault, WriteFault, NoMemory, Outcome, behaviour, BeginsRun, EndsAs, EndsItself, IsPermitted, IsPrefix, ending_of, outcome_of, StopsLaw, AloneLaw, AtOnceLaw, SilentLaw, OnlyLaw, OneLaw, IsPlan, IsSequential, SequentialLaw, OneSequentialLaw, SubtypeLaw, MoreWorkersLaw, with_one_worker}
use Rattle.ada_meaning.proofs.Agrees.{AgreesAt, Settled, output_of_append, gives-ne-stopped, leaves-ne-stopped, spent-ne-stopped}
use Rattle.ada_meaning.proofs.PlanLaw.{program_agrees}
use Rattle.ada_meaning.proofs.Prefixes.{BeginsAt, prefix_shorter, program_begins}
use Rattle.ada_meaning.proofs.Stops.{program_stops, program_safe}
use Rattle.ada_meaning.proofs.Ties.{Agree, fair_start}
use Rattle.ada_meaning.proofs.Follows.{EachOuter, Follows}
use Rattle.ada_meaning.proofs.SeqLaw.{program_follows}
use Rattle.ada_meaning.proofs.Wholes.{cuts_whole}
use Rattle.ada_meaning.proofs.Silence.{program_silent}
use Rattle.behaviours.proofs.Shuffle.{fits_append}
use Rattle.ada_meaning.proofs.Among.{apart_more, at_once_more, fewer_at_once, program_among}

pub stops_law : StopsLaw
stops_law program set keeps = program_stops Instance this anything asks_at_once set.limit (cuts_of set.plan) set.one program keeps nothing_visible start

pub alone_law : AloneLaw
alone_law program plan limit keeps = program_safe Instance this anything limit (cuts_of plan) program keeps nothing_visible start

pub silent_law : SilentLaw
silent_law program set keeps = program_silent set.limit (cuts_of set.plan) set.one program keeps nothing_visible start

pub at_once_law : AtOnceLaw
at_once_law program keeps free set =
    (program_among anything anything (λ cell v h. h) asks_at_once asks_apart fewer_at_once set.limit (cuts_of set.plan) set.one set.one (λ e. e) program keeps).safe nothing_visible start (free set)

pub subtype_law : SubtypeLaw
subtype_law program set keeps = (
  (program_among of_subtype anything (λ cell v h. tt) asks_at_once asks_at_once at_once_more set.limit (cuts_of set.plan) set.one set.one (λ e. e) program keeps).runs nothing_visible start,
  (λ free. (program_among of_subtype anything (λ cell v h. tt) asks_apart asks_apart apart_more set.limit (cuts_of set.plan) set.one set.one (λ e. e) program keeps).safe nothing_visible start (free set)),
)

-- threads taken in order, among threads taken as a setting says
module _ (program : Program) (set : Setting) (keeps : KeepsRule program) where
  wider : (tr : Trace Instance) (y : Bool) (path : Path Instance) (end : End (Unit {0})) → (behaviour program (with_one_worker set)).runs nothing_visible start tr y path end → (behaviour program set).runs nothing_visible start tr y path end
  wider = (program_among anything anything (λ cell v h. h) asks_at_once asks_at_once at_once_more set.limit (cuts_of set.plan) true set.one (λ e. refl) program keeps).runs nothing_visible start

  begins_wider : (front : Trace Instance) → BeginsRun program (with_one_worker set) front → BeginsRun program set front
  begins_wider front b = record { rest = b.rest; early = b.early; path = b.path; end = b.end; run = wider (front ++ b.rest) b.early b.path b.end b.run }

  ends_wider : (tr : Trace Instance) (path : Path Instance) (end : End (Unit {0})) (output : List ℕ) (e : Ending) → EndsAs program (with_one_worker set) tr path end output e → EndsAs program set tr path end output e
  ends_wider tr path end output Ended h = h
  ends_wider tr path end output (Raised r) h = h
  ends_wider tr path end output TurnsSpent h = h
  ends_wider tr path end output ReadFault (stopped, put, (b, begins)) = (stopped, put, (b, begins_wider _ begins))
  ends_wider tr path end output WriteFault (stopped, (passed, rest, put, begins)) = (stopped, (passed, rest, put, begins_wider _ begins))
  ends_wider tr path end output NoMemory h = h

pub more_workers_law : MoreWorkersLaw
more_workers_law program set input early o keeps run = record {
  trace = run.trace;
  path = run.path;
  end = run.end;
  run = wider program set keeps run.trace early run.path run.end run.run;
  fits = run.fits;
  ends = ends_wider program set keeps run.trace run.path run.end o.output o.ending run.ends;
  taken = run.taken;
  finals = run.finals;
}

-- what a run that ends by itself tells
ends : (program : Program) (set : Setting) (tr : Trace Instance) (path : Path Instance) (end : End (Unit {0})) (output : List ℕ) (e : Ending) → EndsItself e → EndsAs program set tr path end output e
    → (end ≡ Stopped → ⊥) × (output ≡ output_of tr) × (e ≡ ending_of end)
ends program set tr path end output Ended i h = (λ s. gives-ne-stopped (sym h.0 ∙ s), h.1, sym (ap ending_of h.0))
ends program set tr path end output (Raised r) i h = (λ s. leaves-ne-stopped (sym h.0 ∙ s), h.1, sym (ap ending_of h.0))
ends program set tr path end output TurnsSpent i h = (λ s. spent-ne-stopped (sym h.0 ∙ s), h.1, sym (ap ending_of h.0))
ends program set tr path end output ReadFault i h = absurd i
ends program set tr path end output WriteFault i h = absurd i
ends program set tr path end output NoMemory i h = absurd i

module _ (program : Program) (set : Setting) (input : List ℕ) (keeps : KeepsRule program) (free : (behaviour program set).safe nothing_visible start) where
  abbrev plan : Result (Unit {0})
  plan = planned program set.plan set.limit (input_of input)

  agrees : AgreesAt set.one (λ tr y p' e. (behaviour program set).runs nothing_visible start tr y p' e) (empty (input_of input)) plan
  agrees = program_agrees set.limit (cuts_of set.plan) set.one program keeps nothing_visible start (empty (input_of input)) free

  -- a settled run comes to what the planned run comes to
  settled : (early : Bool) (o : Outcome) → IsPermitted program set input early o → EndsItself o.ending → Settled set.one plan.early early → (o ≡ outcome_of program input plan) × (early ≡ plan.early)
  settled early o run itself st =
      let e = ends program set run.trace run.path run.end o.output o.ending itself run.ends in
      let a = agrees.only run.trace early run.path run.end run.run run.fits e.0 st in
      let output = e.1 ∙ sym a.3.out in
      let taken = run.taken ∙ ap (λ (p : Path Instance). min p.taken (length input)) a.0 in
      let last = run.finals ∙ ap₂ (λ m (p : Path Instance). finals program m p.globals) (sym a.3.memory) a.0 in
      let ending = e.2 ∙ ap ending_of a.1 in
      (λ i. record { output = output i; taken = taken i; finals = last i; ending = ending i }, a.2)

  -- where no construct of the planned run is left early, what a run put out is a prefix of what that puts out
  module _ (calm : plan.early ≡ false) where
    begins : BeginsAt set.one (λ tr y p' e. (behaviour program set).runs nothing_visible start tr y p' e) (empty (input_of input)) plan
    begins = program_begins set.limit (cuts_of set.plan) set.one program keeps nothing_visible start (empty (input_of input)) free

    put_whole : (tr : Trace Instance) (y : Bool) (path : Path Instance) (end : End (Unit {0})) → (behaviour program set).runs nothing_visible start tr y path end → Fits (empty (input_of input)) tr → IsPrefix (output_of tr) plan.output
    put_whole tr y path end run fits = begins tr [] y path end (subst (λ z. (behaviour program set).runs nothing_visible start z y path end) (sym (append-nil tr)) run) fits (inl calm)

    -- of the piece that failed a front may have passed
    put_broken : (tr : Trace Instance) (passed rest : List ℕ) → BeginsRun program set (tr ++ (Puts (passed ++ rest) ∷ [])) → Fits (empty (input_of input)) tr → IsPrefix (output_of tr ++ passed) plan.output
    put_broken tr passed rest run fits =
        let piece : Trace Instance = Puts (passed ++ rest) ∷ [] in
        let is : output_of (tr ++ piece) ≡ (output_of tr ++ passed) ++ rest =
        output_of_append tr piece ∙ ap (λ z. output_of tr ++ z) (append-nil (passed ++ rest)) ∙ sym (append_assoc (output_of tr) passed rest) in
        prefix_shorter (output_of tr ++ passed) rest plan.output
        (subst (λ z. IsPrefix z plan.output) is (begins (tr ++ piece) run.rest run.early run.path run.end run.run (fits_append tr piece (empty (input_of input)) fits (tt, tt)) (inl calm)))

    put_by : (tr : Trace Instance) (y : Bool) (path : Path Instance) (end : End (Unit {0})) (output : List ℕ) (e : Ending) → (behaviour program set).runs nothing_visible start tr y path end → Fits (empty (input_of input)) tr
        → EndsAs program set tr path end output e → IsPrefix output plan.output
    put_by tr y path end output Ended run fits h = subst (λ z. IsPrefix z plan.output) (sym h.1) (put_whole tr y path end run fits)
    put_by tr y path end output (Raised r) run fits h = subst (λ z. IsPrefix z plan.output) (sym h.1) (put_whole tr y path end run fits)
    put_by tr y path end output TurnsSpent run fits h = subst (λ z. IsPrefix z plan.output) (sym h.1) (put_whole tr y path end run fits)
    put_by tr y path end output ReadFault run fits h = subst (λ z. IsPrefix z plan.output) (sym h.1) (put_whole tr y path end run fits)
    put_by tr y path end output WriteFault run fits h = subst (λ z. IsPrefix z plan.output) (sym h.1.2) (put_broken tr h.1.0 h.1.1 h.1.3 fits)
    put_by tr y path end output NoMemory run fits h = subst (λ z. IsPrefix z plan.output) (sym h.1) (put_whole tr y path end run fits)

    puts_prefix : (early : Bool) (o : Outcome) → IsPermitted program set input early o → IsPrefix o.output plan.output
    puts_prefix early o run = put_by run.trace early run.path run.end o.output o.ending run.run run.fits run.ends

pub only_law : OnlyLaw
only_law program set input o o' early keeps free run itself run' itself' =
    let apart = at_once_law program keeps free set in
    let a = settled program set input keeps apart false o run itself (inr (inl refl)) in
    (settled program set input keeps apart early o' run' itself' (inl (sym a.1))).0 ∙ sym a.0

alone : (program : Program) (set : Setting) → KeepsRule program → set.one ≡ true → (behaviour program set).safe nothing_visible start
alone program set keeps one =
    subst (λ z. (main (Runs.operations Instance this anything asks_at_once set.limit (cuts_of set.plan) z) set.limit program).safe nothing_visible start) (sym one) (alone_law program set.plan set.limit keeps)

pub one_law : OneLaw
one_law program set input o o' early early' keeps one run itself run' itself' =
    let free = alone program set keeps one in
    (settled program set input keeps free early' o' run' itself' (inr (inr one))).0 ∙ sym (settled program set input keeps free early o run itself (inr (inr one))).0

-- the sequential law

-- only an exception leaves the main procedure
abbrev OnlyRaises : End (Unit {0}) → Type 0
OnlyRaises (Leaves (Exits n)) = ⊥
OnlyRaises (Leaves (Returns v)) = ⊥
OnlyRaises _ = Unit {0}

handled_raises : (s : Scope Instance) (r : Result (Unit {0})) (e : End (Unit {0})) → r.end ≡ e → OnlyRaises (handled s r e (λ how. not (raises how)) (λ _. Planned.ret tt)).end
handled_raises s r (Gives u) eq = subst OnlyRaises (sym eq) tt
handled_raises s r (Leaves (Exits n)) eq = tt
handled_raises s r (Leaves (Returns v)) eq = tt
handled_raises s r (Leaves (Raises x)) eq = subst OnlyRaises (sym eq) tt
handled_raises s r Spent eq = subst OnlyRaises (sym eq) tt
handled_raises s r Stopped eq = subst OnlyRaises (sym eq) tt

main_raises : (program : Program) (set : Setting) (input : List ℕ) → OnlyRaises (planned program set.plan set.limit (input_of input)).end
main_raises program set input =
    let ops = Planned.operations set.limit (cuts_of set.plan) in
    let r = Meaning.exec_body ops set.limit program (Meaning.call ops set.limit program most_calls) program.body Everywhere (outset 0) nothing_visible start (empty (input_of input)) in
    handled_raises nothing_visible r r.end refl

ends_as : (program : Program) (set : Setting) (tr : Trace Instance) (path : Path Instance) (end : End (Unit {0})) (output : List ℕ) → OnlyRaises end → output ≡ output_of tr → EndsAs program set tr path end output (ending_of end)
ends_as program set tr path (Gives u) output o h = (refl, h)
ends_as program set tr path (Leaves (Raises r)) output o h = (refl, h)
ends_as program set tr path (Leaves (Exits n)) output o h = absurd o
ends_as program set tr path (Leaves (Returns v)) output o h = absurd o
ends_as program set tr path Spent output o h = (refl, h)
ends_as program set tr path Stopped output o h = (refl, h)

-- the main procedure's variables have the same values
same_values : (m n : Memory) (x : Instance) (i k : ℕ) → x.thread ≡ [] → Agree [] m n → values m x i k ≡ values n x i k
same_values m n x i zero o a = refl
same_values m n x i (suc k) o a = ap₂ (λ (v : ℤ) vs. v ∷ vs) (a x x i (refl, o)) (same_values m n x (suc i) k o a)

same_final : (program : Program) (m n : Memory) (x : Instance) (y : Entity) (more more' : List (List ℤ)) → x.thread ≡ [] → Agree [] m n → more ≡ more' → with_final program m x y more ≡ with_final program n x y more'
same_final program m n x (VariableOf k) more more' o a e = ap₂ (λ (v : List ℤ) vs. v ∷ vs) (same_values m n x 0 (length (object_layout program k)) o a) e
same_final program m n x (ConstantOf k) more more' o a e = e

same_finals : (program : Program) (m n : Memory) (xs : List Instance) → EachOuter xs → Agree [] m n → finals program m xs ≡ finals program n xs
same_finals program m n [] o a = refl
same_finals program m n (x ∷ xs) o a = same_final program m n x x.object (finals program m xs) (finals program n xs) o.0 a (same_finals program m n xs o.1 a)

same_outcome : (program : Program) (input : List ℕ) (r s : Result (Unit {0})) → Follows true [] r s → outcome_of program input r ≡ outcome_of program input s
same_outcome program input r s f =
    let output = f.alike.output in
    let taken = ap (λ n. min n (length input)) f.alike.after.taken in
    let last = same_finals program r.memory s.memory r.path.globals f.alike.after.owned f.alike.after.agree ∙ ap (finals program s.memory) f.alike.after.globals in
    let ending = ap ending_of f.end in
    λ i. record { output = output i; taken = taken i; finals = last i; ending = ending i }

comes_to : (program : Program) (set : Setting) (input : List ℕ) → KeepsRule program → IsPlan set.plan → (behaviour program set).safe nothing_visible start → IsCalm (sequential program set.limit (input_of input)) → IsSequential program set input
comes_to program set input keeps positive free calm =
    let g = planned program set.plan set.limit (input_of input) in
    let s = sequential program set.limit (input_of input) in
    let m = empty (input_of input) in
    let lead = program_follows set.limit (cuts_of set.plan) (cuts_whole set.plan positive) program keeps [] nothing_visible nothing_visible (record { everywhere = λ x. tt; here = λ x. tt }) in
    let f = lead.lead start start m m
    (record { level = inl (refl, refl, refl); outer = λ e. refl; turns = le_refl 0; taken = refl; globals = refl; owned = tt; fair = fair_start start start; agree = λ x y i t. refl; held = refl; input = refl }) calm in
    let same = same_outcome program input g s f in
    let t = (agrees program set input keeps free).some f.alike.early in (
      λ early o run itself. (settled program set input keeps free early o run itself (inl f.alike.early)).0 ∙ same,
      subst (λ z. IsPermitted program set input false z) same
          (record {
            trace = t.trace;
            path = g.path;
            end = g.end;
            run = subst (λ z. (behaviour program set).runs nothing_visible start t.trace z g.path g.end) f.alike.early t.runs;
            fits = t.does.fits;
            ends = ends_as program set t.trace g.path g.end g.output (main_raises program set input) t.does.out;
            taken = refl;
            finals = ap (λ z. finals program z g.path.globals) t.does.memory;
          }),
      λ early o run. subst (λ (z : Outcome). IsPrefix o.output z.output) same (puts_prefix program set input keeps free f.alike.early early o run),
    )

pub sequential_law : SequentialLaw
sequential_law program set input keeps positive free calm = comes_to program set input keeps positive (at_once_law program keeps free set) calm

pub one_sequential_law : OneSequentialLaw
one_sequential_law program set input keeps positive one calm = comes_to program set input keeps positive (alone program set keeps one) calm
