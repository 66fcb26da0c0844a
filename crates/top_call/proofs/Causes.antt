-- The causes of the statuses, from what became of the words.
use Rattle.std.proofs.Common.{◌≡◌, ℕ, zero, suc, List, Bool, true, false, Option, Some, None, refl, sym, ap, subst, inl, inr, ◌∙◌}
use Rattle.std.specs.Prelude.{IfSome, length, option_map, ⊤}
use Rattle.ada_meaning.specs.Law as law
use Rattle.ada_meaning.specs.Law.{Ending}
use Rattle.ada_port.specs.Ports.{Stream, Texts, Rose, bytes_of, fetched}
use Rattle.ada_port.proofs.Faults.{Risen-after_same}
use Rattle.driver.specs.Compile.{IsAccepted, IsFaultOf}
use Rattle.driver.specs.Compiled.{Compiled}
use Rattle.driver.specs.Complaints.{Complaint}
use Rattle.driver.specs.Running as running
use Rattle.run_reports.specs.declared.ends.RunEnd.{RunEnd}
use Rattle.run_reports.specs.declared.ends.RunEnd.TheVariants as run_end
use Rattle.driver.proofs.Exact.{compiling_exact}
use Rattle.command_words.specs.Words.{Asked, asked}
use Rattle.command_words.specs.declared.request.Mode.{Mode}
use Rattle.command_words.specs.declared.request.Mode.TheVariants as mode
use Rattle.top_call.specs.Answer.{Answers, Wrong, Right, Stated, Unasked, AnswersFile, Unread, Read, Short, AnswersText, Refuses, Checks, Lists, Starts, Soaks, Lacks, ChecksSo, ListsSo, RunsSo, SoaksSo, RefusesSo, UsageSo, Closes, Whole, OutFailed, Lacked, Devices, EndsBy, EndsSoak, Fetches, IsFetched, Outside, Untouched, setting_for, text_by, text_of}
use Rattle.top_call.specs.Soak.{soak_lines, soak_text}
use Rattle.run_reports.specs.Says.{Says, SaysNoMemory, SaysOrLacks, number_of}
use Rattle.top_call.specs.Causes.{Asks, Cause, Executes, ShelfFails, ErrFails, MemoryFails, IsDue, MayEnd, Meets, OfDue}
use Rattle.run_reports.specs.declared.status.Status.{Status}
use Rattle.run_reports.specs.declared.status.Status.TheVariants as status

some_is : {A : Type 0} (x y : A) → (let a : Option A = Some x in a ≡ Some y) → x ≡ y
some_is x y e = cc

some_or_none : {A : Type 0} (x : A) → (let a : Option A = Some x in a ≡ None) → ⊥
some_or_none x e = absurd cc

-- ---- the text that is asked for

abbrev IsAsked : Option (List ℕ) → List ℕ → Type 0
IsAsked due text = IfSome due (λ x. text ≡ x)

same_text : (due : Option (List ℕ)) (whole text : List ℕ) → due ≡ Some whole → IsAsked due text → text ≡ whole
same_text due whole text has is = subst (λ (o : Option (List ℕ)). IfSome o (λ x. text ≡ x)) has is

fetched_is : (told : Option (List ℕ)) (text : List ℕ) → IsFetched told text → IsAsked (option_map fetched told) text
fetched_is None text is = is
fetched_is (Some whole) text is = is

fetched_for : (m : Mode) (told : Option (List ℕ)) (text : List ℕ) → Fetches m → IsFetched told text → IsAsked (text_by m told) text
fetched_for mode.Check told text fetches is = fetched_is told text is
fetched_for mode.Run told text fetches is = fetched_is told text is
fetched_for mode.List told text fetches is = fetched_is told text is
fetched_for (mode.Soak n) told text fetches is = absurd fetches

stated_for : (m : Mode) (n : ℕ) (told : Option (List ℕ)) → m ≡ mode.Soak n → IsAsked (text_by m told) (soak_text n)
stated_for m n told is = subst (λ (x : Mode). IsAsked (text_by x told) (soak_text n)) (sym is) refl

-- ---- each status by its cause

-- what is said is what is due, or err failed
says_cause : (C : Status → Type 0) (due given : Status) (line : List ℕ) (old new : Stream) → (Rose old new → C status.WriteFault) → C due → Says due line given old new → C given
says_cause C due given line old new rose own (inl (is, grown)) = subst C (sym is) own
says_cause C due given line old new rose own (inr (is, broke)) = subst C (sym is) (rose broke.rose)

or_lacks_cause : (C : Status → Type 0) (due given : Status) (line : List ℕ) (old new : Stream) → (Rose old new → C status.WriteFault) → C status.OutOfMemory → C due → SaysOrLacks due line given old new → C given
or_lacks_cause C due given line old new rose lack own (inl says) = says_cause C due given line old new rose own says
or_lacks_cause C due given line old new rose lack own (inr lacks) = says_cause C status.OutOfMemory given _ old new rose lack lacks

closes_cause : (C : Status → Type 0) (bytes : List ℕ) (given : Status) (o o' e e' : Stream) → (Rose e e' → C status.WriteFault) → (Rose o o' → C status.WriteFault) → C status.OutOfMemory → C status.Done → Closes bytes given o o' e e' → C given
closes_cause C bytes given o o' e e' err_rose out_rose lack own (Whole is grown same) = subst C (sym is) own
closes_cause C bytes given o o' e e' err_rose out_rose lack own (OutFailed broke says) = says_cause C status.WriteFault given _ e e' err_rose (out_rose broke.rose) says
closes_cause C bytes given o o' e e' err_rose out_rose lack own (Lacked front says) = says_cause C status.OutOfMemory given _ e e' err_rose lack says

module _ (InTells OutTells : Type 0) (words : List (List ℕ)) (before now : Outside) where
  err_fault : Rose before.devices.err now.devices.err → Cause InTells words before now status.WriteFault
  err_fault rose = inr rose

  module _ (q : Asked) (text : List ℕ) (asks : asked words ≡ Some q) (has : IsAsked (text_of q before.shelf) text) where
    asks_for : (c : Compiled) → IsAccepted text c → Asks words before.shelf q c
    asks_for c accepted = record { asks = asks; text = text; has = has; accepted = accepted }

    -- the run's outcome has the ending that the answer tells
    may_end : {Tells : Type 0} {out : Stream} (c : Compiled) (end : RunEnd) (ending : Ending) (left : Stream) → running.Runs InTells Tells c.program (setting_for q.settings) end before.devices.input now.devices.input out left
        → ((o : law.Outcome) → running.EndsAs c.program q.settings.turns end o → o.ending ≡ ending) → MayEnd InTells q c before.devices ending
    may_end c end ending left runs gives = let r = runs.run in (runs.on, (runs.told, (r.outcome, (r.early, r.permitted, gives r.outcome r.ends))))

    executes : q.mode ≡ mode.Run → Executes q.mode
    executes is = subst Executes (sym is) tt

    soaked : (n : ℕ) → q.mode ≡ mode.Soak n → Executes q.mode
    soaked n is = subst Executes (sym is) tt

    run_cause : (given : Status) (c : Compiled) (vars : Bool) (end : RunEnd) (left : Stream) → IsAccepted text c → q.mode ≡ mode.Run → q.vars ≡ vars
        → running.Runs InTells OutTells c.program (setting_for q.settings) end before.devices.input now.devices.input before.devices.out left
        → EndsBy c vars end given left now.devices.out before.devices.err now.devices.err → Cause InTells words before now given
    run_cause given c true (run_end.Ended finals) left accepted runs_it asks_vars runs ends =
        closes_cause (λ s. Cause InTells words before now s) _ given left now.devices.out before.devices.err now.devices.err err_fault
        (λ rose. inl (inr (inl (q, c, asks_for c accepted, inl (runs_it, asks_vars), ended)), out_rose rose)) tt (inr (q, c, asks_for c accepted, executes runs_it, ended)) ends
      where
        ended : MayEnd InTells q c before.devices law.Ended
        ended = may_end c (run_end.Ended finals) law.Ended left runs (λ o h. h.0)

        out_rose : Rose left now.devices.out → Rose before.devices.out now.devices.out
        out_rose rose = Risen-after_same runs.causes.1 rose
    run_cause given c false (run_end.Ended finals) left accepted runs_it asks_vars runs ends =
        subst (λ s. Cause InTells words before now s) (sym ends.0) (inr (q, c, asks_for c accepted, executes runs_it, may_end c (run_end.Ended finals) law.Ended left runs (λ o h. h.0)))
    run_cause given c vars (run_end.Raised why) left accepted runs_it asks_vars runs ends =
        or_lacks_cause (λ s. Cause InTells words before now s) status.Raised given _ before.devices.err now.devices.err err_fault tt
        (why, (q, c, asks_for c accepted, executes runs_it, may_end c (run_end.Raised why) (law.Raised why) left runs (λ o h. h))) ends.1
    run_cause given c vars (run_end.TurnsSpent turns) left accepted runs_it asks_vars runs ends =
        or_lacks_cause (λ s. Cause InTells words before now s) status.Spent given _ before.devices.err now.devices.err err_fault tt
        (q, c, asks_for c accepted, executes runs_it, may_end c (run_end.TurnsSpent turns) law.TurnsSpent left runs (λ o h. h.0)) ends.1
    run_cause given c vars run_end.ReadFault left accepted runs_it asks_vars runs ends =
        says_cause (λ s. Cause InTells words before now s) status.ReadFault given _ before.devices.err now.devices.err err_fault
        ((q, c, asks_for c accepted, executes runs_it, may_end c run_end.ReadFault law.ReadFault left runs (λ o h. h)), runs.causes.0) ends.1
    run_cause given c vars run_end.WriteFault left accepted runs_it asks_vars runs ends =
        says_cause (λ s. Cause InTells words before now s) status.WriteFault given _ before.devices.err now.devices.err err_fault
        (inl (inl (q, c, asks_for c accepted, runs_it, may_end c run_end.WriteFault law.WriteFault left runs (λ o h. h)), subst (λ (s : Stream). Rose before.devices.out s) (sym ends.0) runs.causes.1)) ends.1
    run_cause given c vars run_end.NoMemory left accepted runs_it asks_vars runs ends =
        says_cause (λ s. Cause InTells words before now s) status.OutOfMemory given _ before.devices.err now.devices.err err_fault tt ends.1

    soak_cause : {out : Stream} (given : Status) (c : Compiled) (n : ℕ) (lines : List ℕ) (end : RunEnd) (held : Stream) → IsAccepted text c → q.mode ≡ mode.Soak n
        → running.Runs InTells ⊤ c.program (setting_for q.settings) end before.devices.input now.devices.input out held
        → EndsSoak c lines end given before.devices.out now.devices.out before.devices.err now.devices.err → Cause InTells words before now given
    soak_cause given c n lines (run_end.Ended finals) held accepted soaks runs (inl closes) =
        closes_cause (λ s. Cause InTells words before now s) lines given before.devices.out now.devices.out before.devices.err now.devices.err err_fault
        (λ rose. inl (inr (inl (q, c, asks_for c accepted, inr (n, soaks), ended)), rose)) tt (inr (q, c, asks_for c accepted, soaked n soaks, ended)) closes
      where
        ended : MayEnd InTells q c before.devices law.Ended
        ended = may_end c (run_end.Ended finals) law.Ended held runs (λ o h. h.0)
    soak_cause given c n lines (run_end.Ended finals) held accepted soaks runs (inr lacks) =
        says_cause (λ s. Cause InTells words before now s) status.OutOfMemory given _ before.devices.err now.devices.err err_fault tt lacks.1
    soak_cause given c n lines (run_end.Raised why) held accepted soaks runs ends =
        or_lacks_cause (λ s. Cause InTells words before now s) status.Raised given _ before.devices.err now.devices.err err_fault tt
        (why, (q, c, asks_for c accepted, soaked n soaks, may_end c (run_end.Raised why) (law.Raised why) held runs (λ o h. h))) ends.1
    soak_cause given c n lines (run_end.TurnsSpent turns) held accepted soaks runs ends =
        or_lacks_cause (λ s. Cause InTells words before now s) status.Spent given _ before.devices.err now.devices.err err_fault tt
        (q, c, asks_for c accepted, soaked n soaks, may_end c (run_end.TurnsSpent turns) law.TurnsSpent held runs (λ o h. h.0)) ends.1
    soak_cause given c n lines run_end.ReadFault held accepted soaks runs ends =
        says_cause (λ s. Cause InTells words before now s) status.ReadFault given _ before.devices.err now.devices.err err_fault
        ((q, c, asks_for c accepted, soaked n soaks, may_end c run_end.ReadFault law.ReadFault held runs (λ o h. h)), runs.causes.0) ends.1
    soak_cause given c n lines run_end.WriteFault held accepted soaks runs ends =
        says_cause (λ s. Cause InTells words before now s) status.OutOfMemory given _ before.devices.err now.devices.err err_fault tt ends.1
    soak_cause given c n lines run_end.NoMemory held accepted soaks runs ends =
        says_cause (λ s. Cause InTells words before now s) status.OutOfMemory given _ before.devices.err now.devices.err err_fault tt ends.1

    text_cause : (given : Status) → AnswersText InTells OutTells q text given before.devices now.devices → Cause InTells words before now given
    text_cause given (Refuses fault is (same, says)) =
        or_lacks_cause (λ s. Cause InTells words before now s) status.Refused given _ before.devices.err now.devices.err err_fault tt (q, asks, never) says
      where
        never : (due : List ℕ) (c : Compiled) → text_of q before.shelf ≡ Some due → IsAccepted due c → ⊥
        never due c due_is accepted = compiling_exact.apart text c fault (subst (λ (t : List ℕ). IsAccepted t c) (sym (same_text (text_of q before.shelf) due text due_is has)) accepted) is
    text_cause given (Checks c accepted checks (same, closes)) =
        closes_cause (λ s. Cause InTells words before now s) _ given before.devices.out now.devices.out before.devices.err now.devices.err err_fault (λ rose. inl (inr (inr (q, c, asks_for c accepted, inl checks)), rose)) tt
        (inl (q, c, asks_for c accepted, inl checks)) closes
    text_cause given (Lists c accepted lists (same, (code, coded, stands, closes))) =
        closes_cause (λ s. Cause InTells words before now s) _ given before.devices.out now.devices.out before.devices.err now.devices.err err_fault (λ rose. inl (inr (inr (q, c, asks_for c accepted, inr lists)), rose)) tt
        (inl (q, c, asks_for c accepted, inr lists)) closes
    text_cause given (Starts c accepted runs_it run) = run_cause given c q.vars run.end run.left accepted runs_it refl run.runs run.ends
    text_cause given (Soaks c accepted n soaks run) = soak_cause given c n (soak_lines n (length text) (bytes_of run.held)) run.end run.held accepted soaks run.runs run.ends
    text_cause given (Lacks same says) = says_cause (λ s. Cause InTells words before now s) status.OutOfMemory given _ before.devices.err now.devices.err err_fault tt says

  file_cause : (q : Asked) (given : Status) → asked words ≡ Some q → Fetches q.mode → AnswersFile InTells OutTells q given before now → Cause InTells words before now given
  file_cause q given asks fetches (Unread rose same says) =
      or_lacks_cause (λ s. Cause InTells words before now s) status.ShelfFault given _ before.devices.err now.devices.err err_fault tt rose says
  file_cause q given asks fetches (Read text has same answers) = text_cause q text asks (fetched_for q.mode (before.shelf.told q.file) text fetches has) given answers
  file_cause q given asks fetches (Short same untouched says) = says_cause (λ s. Cause InTells words before now s) status.OutOfMemory given _ before.devices.err now.devices.err err_fault tt says

  pub caused : (given : Status) → Answers InTells OutTells words given before now → Cause InTells words before now given
  caused given (Wrong none same untouched says) = says_cause (λ s. Cause InTells words before now s) status.Usage given _ before.devices.err now.devices.err err_fault none says
  caused given (Right q asks fetches answers) = file_cause q given asks fetches answers
  caused given (Stated q asks n soaks same answers) = text_cause q (soak_text n) asks (stated_for q.mode n (before.shelf.told q.file) soaks) given answers
  caused given (Unasked same untouched says) = says_cause (λ s. Cause InTells words before now s) status.OutOfMemory given _ before.devices.err now.devices.err err_fault tt says

-- ---- what is due comes, or something failed

fails_says : (P : Devices → Devices → Status → Type 0) (given : Status) (before now : Outside) → Untouched before.devices now.devices → SaysNoMemory given before.devices.err now.devices.err → Meets P (number_of given) before now
fails_says P given before now same (inl (is, grown)) = inr (MemoryFails (ap number_of is) same)
fails_says P given before now same (inr (is, broke)) = inr (ErrFails (ap number_of is) broke.rose same)

unread_fails : (P : Devices → Devices → Status → Type 0) (given : Status) (line : List ℕ) (before now : Outside) → Rose before.shelf now.shelf → Untouched before.devices now.devices → SaysOrLacks status.ShelfFault line given before.devices.err now.devices.err → Meets P (number_of given) before now
unread_fails P given line before now rose same (inl (inl (is, grown))) = inr (ShelfFails (ap number_of is) rose same)
unread_fails P given line before now rose same (inl (inr (is, broke))) = inr (ErrFails (ap number_of is) broke.rose same)
unread_fails P given line before now rose same (inr lacks) = fails_says P given before now same lacks

-- what becomes of a text that is asked for
text_meets : {InTells OutTells : Type 0} (P : Devices → Devices → Status → Type 0) (words : List (List ℕ)) (given : Status) (before now : Outside) (q : Asked) (text : List ℕ) → asked words ≡ Some q → text_of q before.shelf ≡ Some text
    → (AnswersText InTells OutTells q text given before.devices now.devices → Meets P (number_of given) before now) → Answers InTells OutTells words given before now → Meets P (number_of given) before now
text_meets P words given before now q text asks has go (Wrong none same untouched says) = absurd (some_or_none q (sym asks ∙ none))
text_meets P words given before now q text asks has go (Unasked same untouched says) = fails_says P given before now untouched says
text_meets {InTells} {OutTells} P words given before now q text asks has go (Right r asks' fetches answers) =
    file (subst (λ (x : Asked). Fetches x.mode) one fetches) (subst (λ (x : Asked). AnswersFile InTells OutTells x given before now) one answers)
  where
    one : r ≡ q
    one = some_is r q (sym asks' ∙ asks)

    file : Fetches q.mode → AnswersFile InTells OutTells q given before now → Meets P (number_of given) before now
    file fetches (Unread rose same says) = unread_fails P given _ before now rose same says
    file fetches (Short same untouched says) = fails_says P given before now untouched says
    file fetches (Read own is same answers) =
        go (subst (λ (t : List ℕ). AnswersText InTells OutTells q t given before.devices now.devices) (same_text (text_of q before.shelf) text own has (fetched_for q.mode (before.shelf.told q.file) own fetches is)) answers)
text_meets {InTells} {OutTells} P words given before now q text asks has go (Stated r asks' n soaks same answers) =
    go (subst (λ (t : List ℕ). AnswersText InTells OutTells q t given before.devices now.devices) stated (subst (λ (x : Asked). AnswersText InTells OutTells x (soak_text n) given before.devices now.devices) one answers))
  where
    one : r ≡ q
    one = some_is r q (sym asks' ∙ asks)

    stated : soak_text n ≡ text
    stated = same_text (text_of q before.shelf) text (soak_text n) has (stated_for q.mode n (before.shelf.told q.file) (subst (λ (x : Asked). x.mode ≡ mode.Soak n) one soaks))

pub runs : {InTells OutTells : Type 0} (words : List (List ℕ)) (given : Status) (before now : Outside) → Answers InTells OutTells words given before now
    → OfDue words before (λ q text c. q.mode ≡ mode.Run → Meets (RunsSo InTells OutTells q c) (number_of given) before now)
runs {InTells} {OutTells} words given before now answers q text c due runs_it = text_meets (RunsSo InTells OutTells q c) words given before now q text due.asks due.told go answers where
  check_or_run : mode.Check ≡ mode.Run → ⊥
  check_or_run e = absurd cc

  list_or_run : mode.List ≡ mode.Run → ⊥
  list_or_run e = absurd cc

  soak_or_run : (n : ℕ) → mode.Soak n ≡ mode.Run → ⊥
  soak_or_run n e = absurd cc

  go : AnswersText InTells OutTells q text given before.devices now.devices → Meets (RunsSo InTells OutTells q c) (number_of given) before now
  go (Refuses fault is says) = absurd (compiling_exact.apart text c fault due.accepted is)
  go (Checks d is checks' closes) = absurd (check_or_run (sym checks' ∙ runs_it))
  go (Lists d is lists' closes) = absurd (list_or_run (sym lists' ∙ runs_it))
  go (Starts d is runs' run) = inl (given, refl, subst (λ (x : Compiled). RunsSo InTells OutTells q x before.devices now.devices given) (compiling_exact.one_result text d c is due.accepted) run)
  go (Soaks d is n soaks' run) = absurd (soak_or_run n (sym soaks' ∙ runs_it))
  go (Lacks same says) = fails_says (RunsSo InTells OutTells q c) given before now same says

pub checks : {InTells OutTells : Type 0} (words : List (List ℕ)) (given : Status) (before now : Outside) → Answers InTells OutTells words given before now
    → OfDue words before (λ q text c. q.mode ≡ mode.Check → Meets ChecksSo (number_of given) before now)
checks {InTells} {OutTells} words given before now answers q text c due checks_it = text_meets ChecksSo words given before now q text due.asks due.told go answers where
  run_or_check : mode.Run ≡ mode.Check → ⊥
  run_or_check e = absurd cc

  list_or_check : mode.List ≡ mode.Check → ⊥
  list_or_check e = absurd cc

  soak_or_check : (n : ℕ) → mode.Soak n ≡ mode.Check → ⊥
  soak_or_check n e = absurd cc

  go : AnswersText InTells OutTells q text given before.devices now.devices → Meets ChecksSo (number_of given) before now
  go (Refuses fault is says) = absurd (compiling_exact.apart text c fault due.accepted is)
  go (Checks d is checks' closes) = inl (given, refl, closes)
  go (Lists d is lists' closes) = absurd (list_or_check (sym lists' ∙ checks_it))
  go (Starts d is runs' run) = absurd (run_or_check (sym runs' ∙ checks_it))
  go (Soaks d is n soaks' run) = absurd (soak_or_check n (sym soaks' ∙ checks_it))
  go (Lacks same says) = fails_says ChecksSo given before now same says

pub lists : {InTells OutTells : Type 0} (words : List (List ℕ)) (given : Status) (before now : Outside) → Answers InTells OutTells words given before now
    → OfDue words before (λ q text c. q.mode ≡ mode.List → Meets (ListsSo c) (number_of given) before now)
lists {InTells} {OutTells} words given before now answers q text c due lists_it = text_meets (ListsSo c) words given before now q text due.asks due.told go answers where
  run_or_list : mode.Run ≡ mode.List → ⊥
  run_or_list e = absurd cc

  check_or_list : mode.Check ≡ mode.List → ⊥
  check_or_list e = absurd cc

  soak_or_list : (n : ℕ) → mode.Soak n ≡ mode.List → ⊥
  soak_or_list n e = absurd cc

  go : AnswersText InTells OutTells q text given before.devices now.devices → Meets (ListsSo c) (number_of given) before now
  go (Refuses fault is says) = absurd (compiling_exact.apart text c fault due.accepted is)
  go (Checks d is checks' closes) = absurd (check_or_list (sym checks' ∙ lists_it))
  go (Lists d is lists' closes) = inl (given, refl, subst (λ (x : Compiled). ListsSo x before.devices now.devices given) (compiling_exact.one_result text d c is due.accepted) closes)
  go (Starts d is runs' run) = absurd (run_or_list (sym runs' ∙ lists_it))
  go (Soaks d is n soaks' run) = absurd (soak_or_list n (sym soaks' ∙ lists_it))
  go (Lacks same says) = fails_says (ListsSo c) given before now same says

pub soaks : {InTells OutTells : Type 0} (words : List (List ℕ)) (given : Status) (before now : Outside) → Answers InTells OutTells words given before now
    → OfDue words before (λ q text c. (n : ℕ) → q.mode ≡ mode.Soak n → Meets (SoaksSo InTells OutTells q n text c) (number_of given) before now)
soaks {InTells} {OutTells} words given before now answers q text c due n soaks_it = text_meets (SoaksSo InTells OutTells q n text c) words given before now q text due.asks due.told go answers where
  check_or_soak : mode.Check ≡ mode.Soak n → ⊥
  check_or_soak e = absurd cc

  run_or_soak : mode.Run ≡ mode.Soak n → ⊥
  run_or_soak e = absurd cc

  list_or_soak : mode.List ≡ mode.Soak n → ⊥
  list_or_soak e = absurd cc

  one_number : (m : ℕ) → mode.Soak m ≡ mode.Soak n → m ≡ n
  one_number m e = cc

  go : AnswersText InTells OutTells q text given before.devices now.devices → Meets (SoaksSo InTells OutTells q n text c) (number_of given) before now
  go (Refuses fault is says) = absurd (compiling_exact.apart text c fault due.accepted is)
  go (Checks d is checks' closes) = absurd (check_or_soak (sym checks' ∙ soaks_it))
  go (Lists d is lists' closes) = absurd (list_or_soak (sym lists' ∙ soaks_it))
  go (Starts d is runs' run) = absurd (run_or_soak (sym runs' ∙ soaks_it))
  go (Soaks d is m soaks' run) =
      let of_one = subst (λ (x : Compiled). SoaksSo InTells OutTells q m text x before.devices now.devices given) (compiling_exact.one_result text d c is due.accepted) run in
      inl (given, refl, subst (λ k. SoaksSo InTells OutTells q k text c before.devices now.devices given) (one_number m (sym soaks' ∙ soaks_it)) of_one)
  go (Lacks same says) = fails_says (SoaksSo InTells OutTells q n text c) given before now same says

-- the text of a soak is the stated one
pub stated_text : (words : List (List ℕ)) (shelf : Texts) (q : Asked) (text : List ℕ) (c : Compiled) → IsDue words shelf q text c → (n : ℕ) → q.mode ≡ mode.Soak n → soak_text n ≡ text
stated_text words shelf q text c due n soaks_it = some_is (soak_text n) text (sym (ap (λ m. text_by m (shelf.told q.file)) soaks_it) ∙ due.told)

pub fetches_nothing : {InTells OutTells : Type 0} (words : List (List ℕ)) (given : Status) (before now : Outside) → Answers InTells OutTells words given before now → (q : Asked) (n : ℕ) → asked words ≡ Some q → q.mode ≡ mode.Soak n
    → now.shelf ≡ before.shelf
fetches_nothing words given before now (Wrong none same untouched says) q n asks soaks_it = same
fetches_nothing words given before now (Unasked same untouched says) q n asks soaks_it = same
fetches_nothing words given before now (Stated r asks' m soaks' same answers) q n asks soaks_it = same
fetches_nothing words given before now (Right r asks' fetches answers) q n asks soaks_it =
    absurd (subst Fetches soaks_it (subst (λ (x : Asked). Fetches x.mode) (some_is r q (sym asks' ∙ asks)) fetches))

pub refuses : {InTells OutTells : Type 0} (words : List (List ℕ)) (given : Status) (before now : Outside) → Answers InTells OutTells words given before now → (q : Asked) (text : List ℕ) (fault : Complaint) → asked words ≡ Some q → text_of q before.shelf ≡ Some text → IsFaultOf text fault
    → Meets (RefusesSo q fault) (number_of given) before now
refuses {InTells} {OutTells} words given before now answers q text fault asks has is_fault = text_meets (RefusesSo q fault) words given before now q text asks has go answers where
  go : AnswersText InTells OutTells q text given before.devices now.devices → Meets (RefusesSo q fault) (number_of given) before now
  go (Refuses own is says) = inl (given, refl, subst (λ (f : Complaint). RefusesSo q f before.devices now.devices given) (compiling_exact.one_fault text own fault is is_fault) says)
  go (Checks d is checks' closes) = absurd (compiling_exact.apart text d fault is is_fault)
  go (Lists d is lists' closes) = absurd (compiling_exact.apart text d fault is is_fault)
  go (Starts d is runs' run) = absurd (compiling_exact.apart text d fault is is_fault)
  go (Soaks d is n soaks' run) = absurd (compiling_exact.apart text d fault is is_fault)
  go (Lacks same says) = fails_says (RefusesSo q fault) given before now same says

pub wrong_words : {InTells OutTells : Type 0} (words : List (List ℕ)) (given : Status) (before now : Outside) → Answers InTells OutTells words given before now → asked words ≡ None → Meets UsageSo (number_of given) before now
wrong_words words given before now (Wrong none same untouched says) wrong = inl (given, refl, (untouched, says))
wrong_words words given before now (Right q asks fetches answers) wrong = absurd (some_or_none q (sym asks ∙ wrong))
wrong_words words given before now (Stated q asks n soaks' same answers) wrong = absurd (some_or_none q (sym asks ∙ wrong))
wrong_words words given before now (Unasked same untouched says) wrong = fails_says UsageSo given before now untouched says

-- ---- numbers of statuses

-- the status of a number
status_at : ℕ → Status
status_at zero = status.Done
status_at (suc zero) = status.Refused
status_at (suc (suc zero)) = status.Usage
status_at (suc (suc (suc zero))) = status.ShelfFault
status_at (suc (suc (suc (suc zero)))) = status.Raised
status_at (suc (suc (suc (suc (suc zero))))) = status.Spent
status_at (suc (suc (suc (suc (suc (suc zero)))))) = status.ReadFault
status_at (suc (suc (suc (suc (suc (suc (suc zero))))))) = status.WriteFault
status_at _ = status.OutOfMemory

numbered : (s : Status) → status_at (number_of s) ≡ s
unfolding status_at
numbered status.Done = refl
numbered status.Refused = refl
numbered status.Usage = refl
numbered status.ShelfFault = refl
numbered status.Raised = refl
numbered status.Spent = refl
numbered status.ReadFault = refl
numbered status.WriteFault = refl
numbered status.OutOfMemory = refl

pub same_status : (s t : Status) → number_of s ≡ number_of t → s ≡ t
same_status s t e = sym (numbered s) ∙ ap status_at e ∙ numbered t

-- the cause of a number's status
pub cause_of : {InTells OutTells : Type 0} (words : List (List ℕ)) (given due : Status) (before now : Outside) → Answers InTells OutTells words given before now → number_of given ≡ number_of due → Cause InTells words before now due
cause_of {InTells} {OutTells} words given due before now answers e = subst (λ s. Cause InTells words before now s) (same_status given due e) (caused InTells OutTells words before now given answers)
