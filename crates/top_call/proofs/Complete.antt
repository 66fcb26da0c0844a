-- What comes of an accepted text where no device fails.
use Rattle.std.proofs.Common.{◌≡◌, ◌⊎◌, ℕ, List, ◌++◌, Bool, true, false, inl, inr, refl, sym, ap, subst, ◌∙◌, append_assoc}
use Rattle.std.proofs.lemmas.List.{append-nil}
use Rattle.std.specs.Prelude.{⊤, drop, length}
use Rattle.ada_meaning.specs.Law as law
use Rattle.ada_meaning.specs.Law.{Ending, EndsItself, IsPermitted, Outcome}
use Rattle.ada_meaning.specs.Programs.{input_of, sequential}
use Rattle.ada_meaning.specs.Sequential.{IsCalm}
use Rattle.ada_port.specs.Ports.{Stream, Grows, IsTold, Rose, bytes_of}
use Rattle.ada_port.proofs.Faults.{Risen-after_same}
use Rattle.command_words.specs.Words.{Asked}
use Rattle.command_words.specs.declared.request.Mode.{Mode}
use Rattle.command_words.specs.declared.request.Mode.TheVariants as mode
use Rattle.driver.specs.Compile.{IsAccepted}
use Rattle.driver.specs.Compiled.{Compiled}
use Rattle.driver.specs.Running as running
use Rattle.driver.proofs.Only.{accepted_only}
use Rattle.run_reports.specs.Ends.{values_of}
use Rattle.run_reports.specs.Says.{Says, SaysNoMemory, SaysOrLacks, number_of}
use Rattle.run_reports.specs.Vars.{vars_lines}
use Rattle.run_reports.specs.declared.ends.RunEnd.{RunEnd}
use Rattle.run_reports.specs.declared.ends.RunEnd.TheVariants as run_end
use Rattle.run_reports.specs.declared.status.Status.{Status}
use Rattle.run_reports.specs.declared.status.Status.TheVariants as status
use Rattle.top_call.specs.Answer.{Answers, ChecksSo, Closes, Devices, EndsBy, EndsSoak, Lacked, ListsSo, OutFailed, Outside, RunsSo, SoaksSo, Whole, setting_for, unwritten}
use Rattle.top_call.specs.Causes.{ErrFails, Executes, IsDue, MemoryFails, Meets, OfDue, ShelfFails, sequential_of}
use Rattle.top_call.specs.Complete.{ComesTo, ComesToCalm, ComesToOnly, ComesToOrLacks, Completes, IsOrLacks, NoneRose, put_by_run, put_by_soak, put_of, status_of}
use Rattle.top_call.specs.Soak.{soak_lines}
use Rattle.top_call.proofs.Causes as causes
use Rattle.top_call.proofs.Variables.{appended}

-- what was said, where err didn't fail
module _ (given : Status) (old new : Stream) (fine : Rose old new → ⊥) where
  said : (due : Status) (line : List ℕ) → Says due line given old new → given ≡ due
  said due line (inl (is, grown)) = is
  said due line (inr (is, broke)) = absurd (fine broke.rose)

  said_or : (due : Status) (line : List ℕ) → SaysOrLacks due line given old new → (given ≡ due) ⊎ (given ≡ status.OutOfMemory)
  said_or due line (inl says) = inl (said due line says)
  said_or due line (inr lacks) = inr (said status.OutOfMemory _ lacks)

  -- and what was put, where out didn't
  closed : (bytes : List ℕ) (left out : Stream) → (Rose left out → ⊥) → Closes bytes given left out old new → ((given ≡ status.Done) × Grows left out bytes) ⊎ (given ≡ status.OutOfMemory)
  closed bytes left out none (Whole is grown same) = inl (is, grown)
  closed bytes left out none (OutFailed broke says) = absurd (none broke.rose)
  closed bytes left out none (Lacked front says) = inr (said status.OutOfMemory _ says)

-- ---- a run that ended by itself, its status, and what it put

module _ (OutTells : Type 0) (given : Status) (before now : Stream) (o : Outcome) (due : Ending → List ℕ) where
  pub record Came : Type 0 where
    pub itself : EndsItself o.ending
    pub status : given ≡ status_of o.ending
    pub put : OutTells → bytes_of now ≡ bytes_of before ++ due o.ending

  came : (e : Ending) → o.ending ≡ e → EndsItself e → given ≡ status_of e → (OutTells → bytes_of now ≡ bytes_of before ++ due e) → Came
  came e same itself is puts = record {
    itself = subst EndsItself (sym same) itself;
    status = is ∙ ap status_of (sym same);
    put = λ tells. puts tells ∙ ap (λ x. bytes_of before ++ due x) (sym same);
  }

  -- or memory ran out
  came_or : (e : Ending) → o.ending ≡ e → EndsItself e → (given ≡ status_of e) ⊎ (given ≡ status.OutOfMemory) → (OutTells → bytes_of now ≡ bytes_of before ++ due e) → Came ⊎ (given ≡ status.OutOfMemory)
  came_or e same itself (inl is) puts = inl (came e same itself is puts)
  came_or e same itself (inr lacks) puts = inr lacks

module _ (InTells OutTells : Type 0) (q : Asked) (c : Compiled) (given : Status) (before now : Devices) where
  -- of a run
  abbrev Ran : RunEnd → Stream → Type 0
  Ran end left = running.Runs InTells OutTells c.program (setting_for q.settings) end before.input now.input before.out left

  abbrev RunCame : Bool → Outcome → Type 0
  RunCame vars o = Came OutTells given before.out now.out o (λ e. put_by_run e vars c o) ⊎ (given ≡ status.OutOfMemory)

  -- of a run whose output memory held
  abbrev Held : RunEnd → Stream → Type 0
  Held end held = running.Runs InTells ⊤ c.program (setting_for q.settings) end before.input now.input unwritten held

  abbrev SoakCame : ℕ → List ℕ → Outcome → Type 0
  SoakCame n text o = Came OutTells given before.out now.out o (λ e. put_by_soak e n text o) ⊎ (given ≡ status.OutOfMemory)

  module _ (no_input : Rose before.input now.input → ⊥) (no_out : Rose before.out now.out → ⊥) (no_err : Rose before.err now.err → ⊥) where
    run_came : (vars : Bool) (end : RunEnd) (left : Stream) → (OutTells → IsTold left) → (ran : Ran end left) → EndsBy c vars end given left now.out before.err now.err → RunCame vars ran.run.outcome
    run_came true (run_end.Ended finals) left tells ran ends =
        go (closed given before.err now.err no_err (vars_lines c.finals (values_of c.program finals)) left now.out (λ rose. no_out (Risen-after_same ran.causes.1 rose)) ends)
      where
        put : Grows left now.out (vars_lines c.finals (values_of c.program finals)) → OutTells → bytes_of now.out ≡ bytes_of before.out ++ put_by_run law.Ended true c ran.run.outcome
        put grown told =
            let run = ran.run in
            let lines = vars_lines c.finals (values_of c.program finals) in
            appended left.told now.out.told lines (tells told) grown.told
            ∙ ap (λ z. z ++ lines) (run.output told)
            ∙ append_assoc (bytes_of before.out) run.outcome.output lines
            ∙ ap (λ vs. bytes_of before.out ++ (run.outcome.output ++ vars_lines c.finals vs)) (sym run.ends.1)

        go : ((given ≡ status.Done) × Grows left now.out (vars_lines c.finals (values_of c.program finals))) ⊎ (given ≡ status.OutOfMemory) → RunCame true ran.run.outcome
        go (inl (is, grown)) = inl (came OutTells given before.out now.out ran.run.outcome (λ e. put_by_run e true c ran.run.outcome) law.Ended ran.run.ends.0 tt is (put grown))
        go (inr lacks) = inr lacks
    run_came false (run_end.Ended finals) left tells ran ends =
        let o = ran.run.outcome in
        inl (came OutTells given before.out now.out o (λ e. put_by_run e false c o) law.Ended ran.run.ends.0 tt ends.0 (λ told. ap bytes_of ends.1 ∙ ran.run.output told))
    run_came vars (run_end.Raised why) left tells ran ends =
        let o = ran.run.outcome in
        came_or OutTells given before.out now.out o (λ e. put_by_run e vars c o) (law.Raised why) ran.run.ends tt (said_or given before.err now.err no_err status.Raised _ ends.1) (λ told. ap bytes_of ends.0 ∙ ran.run.output told)
    run_came vars (run_end.TurnsSpent turns) left tells ran ends =
        let o = ran.run.outcome in
        came_or OutTells given before.out now.out o (λ e. put_by_run e vars c o) law.TurnsSpent ran.run.ends.0 tt (said_or given before.err now.err no_err status.Spent _ ends.1) (λ told. ap bytes_of ends.0 ∙ ran.run.output told)
    run_came vars run_end.ReadFault left tells ran ends = absurd (no_input ran.causes.0)
    run_came vars run_end.WriteFault left tells ran ends = absurd (no_out (subst (λ (s : Stream). Rose before.out s) (sym ends.0) ran.causes.1))
    run_came vars run_end.NoMemory left tells ran ends = inr (said given before.err now.err no_err status.OutOfMemory _ ends.1)

    soak_came : (n : ℕ) (text : List ℕ) (end : RunEnd) (held : Stream) → (OutTells → IsTold before.out) → (ran : Held end held) → EndsSoak c (soak_lines n (length text) (bytes_of held)) end given before.out now.out before.err now.err
        → SoakCame n text ran.run.outcome
    soak_came n text (run_end.Ended finals) held tells ran (inl closes) = go (closed given before.err now.err no_err (soak_lines n (length text) (bytes_of held)) before.out now.out no_out closes) where
      put : Grows before.out now.out (soak_lines n (length text) (bytes_of held)) → OutTells → bytes_of now.out ≡ bytes_of before.out ++ put_by_soak law.Ended n text ran.run.outcome
      put grown told =
          appended before.out.told now.out.told (soak_lines n (length text) (bytes_of held)) (tells told) grown.told
          ∙ ap (λ h. bytes_of before.out ++ soak_lines n (length text) h) (ran.run.output tt)

      go : ((given ≡ status.Done) × Grows before.out now.out (soak_lines n (length text) (bytes_of held))) ⊎ (given ≡ status.OutOfMemory) → SoakCame n text ran.run.outcome
      go (inl (is, grown)) = inl (came OutTells given before.out now.out ran.run.outcome (λ e. put_by_soak e n text ran.run.outcome) law.Ended ran.run.ends.0 tt is (put grown))
      go (inr lacks) = inr lacks
    soak_came n text (run_end.Ended finals) held tells ran (inr lacks) = inr (said given before.err now.err no_err status.OutOfMemory _ lacks.1)
    soak_came n text (run_end.Raised why) held tells ran ends =
        let o = ran.run.outcome in
        came_or OutTells given before.out now.out o (λ e. put_by_soak e n text o) (law.Raised why) ran.run.ends tt (said_or given before.err now.err no_err status.Raised _ ends.1) (λ told. ap bytes_of ends.0 ∙ sym (append-nil (bytes_of before.out)))
    soak_came n text (run_end.TurnsSpent turns) held tells ran ends =
        let o = ran.run.outcome in
        came_or OutTells given before.out now.out o (λ e. put_by_soak e n text o) law.TurnsSpent ran.run.ends.0 tt (said_or given before.err now.err no_err status.Spent _ ends.1) (λ told. ap bytes_of ends.0 ∙ sym (append-nil (bytes_of before.out)))
    soak_came n text run_end.ReadFault held tells ran ends = absurd (no_input ran.causes.0)
    soak_came n text run_end.WriteFault held tells ran ends = inr (said given before.err now.err no_err status.OutOfMemory _ ends.1)
    soak_came n text run_end.NoMemory held tells ran ends = inr (said given before.err now.err no_err status.OutOfMemory _ ends.1)

-- ---- what a call came to

module _ (InTells OutTells : Type 0) (q : Asked) (c : Compiled) (text : List ℕ) (number : ℕ) (before now : Devices) where
  -- a permitted run that ended by itself
  pub record Carried : Type 0 where
    pub outcome : Outcome
    pub early : Bool
    pub on : List ℕ
    pub told : InTells → on ≡ bytes_of before.input
    pub permitted : IsPermitted c.program (setting_for q.settings) on early outcome
    pub calm : IsCalm (sequential c.program q.settings.turns (input_of on)) → EndsItself outcome.ending → outcome ≡ sequential_of q c on
    pub itself : EndsItself outcome.ending
    pub status : number ≡ number_of (status_of outcome.ending)
    pub put : OutTells → bytes_of now.out ≡ bytes_of before.out ++ put_of q.mode q.vars c text outcome
    pub left : InTells → bytes_of now.input ≡ drop outcome.taken on

  abbrev CarriedOrLacks : Type 0
  CarriedOrLacks = Carried ⊎ (number ≡ number_of status.OutOfMemory)

  comes : (k : Carried) (o : Outcome) → InTells → k.outcome ≡ o → ComesTo OutTells q c text o number before now
  comes k o tells same =
      let own : ComesTo OutTells q c text k.outcome number before now = record { status = k.status; put = k.put; rest = k.left tells ∙ ap (drop k.outcome.taken) (k.told tells) } in
      subst (λ (x : Outcome). ComesTo OutTells q c text x number before now) same own

  -- it is each run that is the only one
  comes_only : CarriedOrLacks → IsAccepted text c → InTells → (o : Outcome) (early : Bool) → IsPermitted c.program (setting_for q.settings) (bytes_of before.input) early o → EndsItself o.ending → running.IsSettled (setting_for q.settings) early
      → ComesToOrLacks OutTells q c text o number before now
  comes_only (inl k) accepted tells o early permitted itself settled =
      let on = bytes_of before.input in
      let only = accepted_only text c (setting_for q.settings) on early o accepted permitted settled itself in
      inl (comes k o tells (only k.early k.outcome (subst (λ w. IsPermitted c.program (setting_for q.settings) w k.early k.outcome) (k.told tells) k.permitted) k.itself))
  comes_only (inr lacks) accepted tells o early permitted itself settled = inr lacks

  -- and the sequential one, where that is calm
  comes_calm : CarriedOrLacks → InTells → IsCalm (sequential c.program q.settings.turns (input_of (bytes_of before.input))) → ComesToOrLacks OutTells q c text (sequential_of q c (bytes_of before.input)) number before now
  comes_calm (inl k) tells calm =
      let same = subst (λ w. IsCalm (sequential c.program q.settings.turns (input_of w)) → k.outcome ≡ sequential_of q c w) (k.told tells) (λ is. k.calm is k.itself) calm in
      inl (comes k (sequential_of q c (bytes_of before.input)) tells same)
  comes_calm (inr lacks) tells calm = inr lacks

  statuses : (e : Ending) → EndsItself e → number ≡ number_of (status_of e) → (number ≡ 0) ⊎ (number ≡ 4) ⊎ IsOrLacks number status.Spent
  statuses law.Ended itself is = inl is
  statuses (law.Raised why) itself is = inr (inl is)
  statuses law.TurnsSpent itself is = inr (inr (inl is))
  statuses law.ReadFault itself is = absurd itself
  statuses law.WriteFault itself is = absurd itself
  statuses law.NoMemory itself is = absurd itself

  one_of : CarriedOrLacks → (number ≡ 0) ⊎ (number ≡ 4) ⊎ IsOrLacks number status.Spent
  one_of (inl k) = statuses k.outcome.ending k.itself k.status
  one_of (inr lacks) = inr (inr (inr lacks))

-- ---- from what is met

module _ (InTells OutTells : Type 0) (q : Asked) (c : Compiled) (text : List ℕ) (number : ℕ) (before now : Outside) (none : NoneRose before now) where
  abbrev Carries : Type 0
  Carries = CarriedOrLacks InTells OutTells q c text number before.devices now.devices

  -- nothing was done only where memory ran out
  otherwise : {X : Type 0} (P : Devices → Devices → Status → Type 0) → ((given : Status) → number ≡ number_of given → P before.devices now.devices given → X ⊎ (number ≡ number_of status.OutOfMemory)) → Meets P number before now
      → X ⊎ (number ≡ number_of status.OutOfMemory)
  otherwise P go (inl (given, is, does)) = go given is does
  otherwise P go (inr (ShelfFails is rose same)) = absurd (none.shelf rose)
  otherwise P go (inr (ErrFails is rose same)) = absurd (none.err rose)
  otherwise P go (inr (MemoryFails is same)) = inr is

  of_run : q.mode ≡ mode.Run → Meets (RunsSo InTells OutTells q c) number before now → Carries
  of_run runs_it = otherwise (RunsSo InTells OutTells q c) go where
    go : (given : Status) → number ≡ number_of given → RunsSo InTells OutTells q c before.devices now.devices given → Carries
    go given is unit = put_in (run_came InTells OutTells q c given before.devices now.devices none.input none.out none.err q.vars unit.end unit.left unit.tells unit.runs unit.ends) where
      put_in : RunCame InTells OutTells q c given before.devices now.devices q.vars unit.runs.run.outcome → Carries
      put_in (inl k) =
          let run = unit.runs.run in
          inl (record {
            outcome = run.outcome;
            early = run.early;
            on = unit.runs.on;
            told = unit.runs.told;
            permitted = run.permitted;
            calm = run.calm;
            itself = k.itself;
            status = is ∙ ap number_of k.status;
            put = subst (λ m. OutTells → bytes_of now.devices.out ≡ bytes_of before.devices.out ++ put_of m q.vars c text run.outcome) (sym runs_it) k.put;
            left = run.left;
          })
      put_in (inr lacks) = inr (is ∙ ap number_of lacks)

  of_soak : (n : ℕ) → q.mode ≡ mode.Soak n → Meets (SoaksSo InTells OutTells q n text c) number before now → Carries
  of_soak n soaks_it = otherwise (SoaksSo InTells OutTells q n text c) go where
    go : (given : Status) → number ≡ number_of given → SoaksSo InTells OutTells q n text c before.devices now.devices given → Carries
    go given is unit = put_in (soak_came InTells OutTells q c given before.devices now.devices none.input none.out none.err n text unit.end unit.held unit.tells unit.runs unit.ends) where
      put_in : SoakCame InTells OutTells q c given before.devices now.devices n text unit.runs.run.outcome → Carries
      put_in (inl k) =
          let run = unit.runs.run in
          inl (record {
            outcome = run.outcome;
            early = run.early;
            on = unit.runs.on;
            told = unit.runs.told;
            permitted = run.permitted;
            calm = run.calm;
            itself = k.itself;
            status = is ∙ ap number_of k.status;
            put = subst (λ m. OutTells → bytes_of now.devices.out ≡ bytes_of before.devices.out ++ put_of m q.vars c text run.outcome) (sym soaks_it) k.put;
            left = run.left;
          })
      put_in (inr lacks) = inr (is ∙ ap number_of lacks)

  done : (bytes : List ℕ) (given : Status) → number ≡ number_of given → Closes bytes given before.devices.out now.devices.out before.devices.err now.devices.err → IsOrLacks number status.Done
  done bytes given is closes = go (closed given before.devices.err now.devices.err none.err bytes before.devices.out now.devices.out none.out closes) where
    go : ((given ≡ status.Done) × Grows before.devices.out now.devices.out bytes) ⊎ (given ≡ status.OutOfMemory) → IsOrLacks number status.Done
    go (inl (same, grown)) = inl (is ∙ ap number_of same)
    go (inr lacks) = inr (is ∙ ap number_of lacks)

  of_check : Meets ChecksSo number before now → IsOrLacks number status.Done
  of_check = otherwise ChecksSo (λ given is does. done _ given is does.1)

  of_list : Meets (ListsSo c) number before now → IsOrLacks number status.Done
  of_list = otherwise (ListsSo c) (λ given is does. done _ given is does.1.3)

-- ---- of a call

module _ {InTells OutTells : Type 0} (words : List (List ℕ)) (given : Status) (before now : Outside) (answers : Answers InTells OutTells words given before now) where
  executed : (q : Asked) (text : List ℕ) (c : Compiled) → IsDue words before.shelf q text c → NoneRose before now → (m : Mode) → q.mode ≡ m → Executes m → CarriedOrLacks InTells OutTells q c text (number_of given) before.devices now.devices
  executed q text c due none mode.Check is executes = absurd executes
  executed q text c due none mode.List is executes = absurd executes
  executed q text c due none mode.Run is executes = of_run InTells OutTells q c text (number_of given) before now none is (causes.runs words given before now answers q text c due is)
  executed q text c due none (mode.Soak n) is executes = of_soak InTells OutTells q c text (number_of given) before now none n is (causes.soaks words given before now answers q text c due n is)

  completed : (q : Asked) (text : List ℕ) (c : Compiled) → IsDue words before.shelf q text c → NoneRose before now → (m : Mode) → q.mode ≡ m → Completes m (number_of given)
  completed q text c due none mode.Check is = of_check InTells OutTells q c text (number_of given) before now none (causes.checks words given before now answers q text c due is)
  completed q text c due none mode.List is = of_list InTells OutTells q c text (number_of given) before now none (causes.lists words given before now answers q text c due is)
  completed q text c due none mode.Run is = one_of InTells OutTells q c text (number_of given) before.devices now.devices (executed q text c due none mode.Run is tt)
  completed q text c due none (mode.Soak n) is = one_of InTells OutTells q c text (number_of given) before.devices now.devices (executed q text c due none (mode.Soak n) is tt)

  pub complete : OfDue words before (λ q text c. NoneRose before now → Completes q.mode (number_of given))
  complete q text c due none = completed q text c due none q.mode refl

  pub only : OfDue words before (λ q text c. ComesToOnly InTells OutTells q c text (number_of given) before now)
  only q text c due none executes tells o early permitted itself settled =
      comes_only InTells OutTells q c text (number_of given) before.devices now.devices (executed q text c due none q.mode refl executes) due.accepted tells o early permitted itself settled

  pub calm : OfDue words before (λ q text c. ComesToCalm InTells OutTells q c text (number_of given) before now)
  calm q text c due none executes tells is = comes_calm InTells OutTells q c text (number_of given) before.devices now.devices (executed q text c due none q.mode refl executes) tells is
