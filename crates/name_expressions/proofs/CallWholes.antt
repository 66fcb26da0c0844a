-- Calls of subprograms, whose arguments have no fault.
use Rattle.std.proofs.Common.{◌≡◌, ◌≢◌, refl, sym, ap, ◌∙◌, ℕ, Bool, true, false, length, List, Option, Some, None, Result}
use Rattle.syntax_tree.specs.Syntax.{Args}
use Rattle.typed_tree.specs.Decoded.{Nothing, TypedPart}
use Rattle.name_expressions.proofs.Wholes.{clean, faulty}
use Rattle.name_rules.specs.Calls.{Calling, arguments, begun_call, call_given, complete, gives_in, profile_in, sub_call, takes_in}
use Rattle.name_rules.specs.Expressions.{Inside}
use Rattle.name_rules.specs.Found.{Denoted}
use Rattle.name_rules.specs.Judges.{part_if}
use Rattle.name_rules.specs.Judging.{Judging, given, some, ◌>>=◌}
use Rattle.name_rules.specs.declared.log.Log.{Log}
use Rattle.name_rules.specs.declared.log.Taken.{Taken}
use Rattle.name_rules.specs.declared.scope.Context.{Context}
use Rattle.name_rules.specs.declared.scope.Names.{Names}
use Rattle.name_rules.specs.declared.types.Scalar.{Scalar}
use Rattle.name_values.specs.Calling.{calling_of}
use Rattle.name_values.specs.declared.actuals.Calling.{Calling as KnownCalling}

-- a call of what takes and gives this, when its arguments are judged
abbrev completed : ℕ → ℕ → ℕ → ℕ → List Taken → Option Scalar → Calling → Judging (Option Denoted)
completed at first last n ts s c = complete at (length ts) c.late c >>= λ xs. given xs (λ ys. some (call_given first last n s ys))

-- the arguments from none on
judged_from : (names : Names) (inside : Inside) (here : Context) (as' : Args) (log now : Log) (ts us vs : List Taken) (begun done : KnownCalling) (z q p : TypedPart)
    → us ≡ ts → vs ≡ us → calling_of begun Nothing ≡ begun_call → z ≡ Nothing → arguments names inside here vs (calling_of begun z) as' log ≡ (calling_of done p, now)
    → arguments names inside here ts begun_call as' log ≡ (calling_of done p, now)
judged_from names inside here as' log now ts us vs begun done z q p e f g h i =
    ap (λ x. arguments names inside here x begun_call as' log) (sym (f ∙ e))
    ∙ (ap (λ c. arguments names inside here vs c as' log) (sym (ap (calling_of begun) h ∙ g)) ∙ i)

pub call_gone : (names : Names) (inside : Inside) (here : Context) (at first last number : ℕ) (as' : Args) (log now : Log) (us vs : List Taken) (begun done : KnownCalling) (z p : TypedPart) (m n : ℕ)
    → us ≡ takes_in (profile_in log number) → vs ≡ us → calling_of begun Nothing ≡ begun_call → z ≡ Nothing → arguments names inside here vs (calling_of begun z) as' log ≡ (calling_of done p, now)
    → m ≡ length log.faults → n ≡ length now.faults → n ≢ m
    → sub_call names inside here at first last number as' log ≡ (None, now)
unfolding sub_call
call_gone names inside here at first last number as' log now us vs begun done z p m n e f g h i j k l =
    faulty (arguments names inside here (takes_in (profile_in log number)) begun_call as') (completed at first last number (takes_in (profile_in log number)) (gives_in (profile_in log number)))
    log now (calling_of done p) m n (judged_from names inside here as' log now (takes_in (profile_in log number)) us vs begun done z p p e f g h i) j k l

call_kept : (names : Names) (inside : Inside) (here : Context) (at first last number : ℕ) (as' : Args) (log now : Log) (us vs : List Taken) (begun done : KnownCalling) (z p : TypedPart) (m n : ℕ)
    → us ≡ takes_in (profile_in log number) → vs ≡ us → calling_of begun Nothing ≡ begun_call → z ≡ Nothing → arguments names inside here vs (calling_of begun z) as' log ≡ (calling_of done p, now)
    → m ≡ length log.faults → n ≡ length now.faults → n ≡ m
    → sub_call names inside here at first last number as' log ≡ completed at first last number (takes_in (profile_in log number)) (gives_in (profile_in log number)) (calling_of done p) now
unfolding sub_call
call_kept names inside here at first last number as' log now us vs begun done z p m n e f g h i j k l =
    clean (arguments names inside here (takes_in (profile_in log number)) begun_call as') (completed at first last number (takes_in (profile_in log number)) (gives_in (profile_in log number)))
    log now (calling_of done p) m n (judged_from names inside here as' log now (takes_in (profile_in log number)) us vs begun done z p p e f g h i) j k l

-- what is complete, or isn't
completed_by : (at first last number count : ℕ) (ts : List Taken) (s : Option Scalar) (c : Calling) (log now : Log) (x : Option TypedPart)
    → count ≡ length ts → complete at count c.late c log ≡ (x, now) → completed at first last number ts s c log ≡ given x (λ ys. some (call_given first last number s ys)) now
completed_by at first last number count ts s c log now x e f = rw (sym e, f) refl

pub call_wrong : (names : Names) (inside : Inside) (here : Context) (at first last number count : ℕ) (as' : Args) (log now end : Log) (us vs : List Taken) (begun done : KnownCalling) (z p q : TypedPart) (m n : ℕ) (b : Bool)
    → us ≡ takes_in (profile_in log number) → vs ≡ us → calling_of begun Nothing ≡ begun_call → z ≡ Nothing → arguments names inside here vs (calling_of begun z) as' log ≡ (calling_of done p, now)
    → m ≡ length log.faults → n ≡ length now.faults → n ≡ m → count ≡ length us → complete at count done.late (calling_of done p) now ≡ (part_if b q, end) → b ≡ false
    → sub_call names inside here at first last number as' log ≡ (None, end)
call_wrong names inside here at first last number count as' log now end us vs begun done z p q m n b e f g h i j k l r t u =
    call_kept names inside here at first last number as' log now us vs begun done z p m n e f g h i j k l
    ∙ (completed_by at first last number count (takes_in (profile_in log number)) (gives_in (profile_in log number)) (calling_of done p) now end (part_if b q) (r ∙ ap length e) t
    ∙ ap (λ c. given (part_if c q) (λ ys. some (call_given first last number (gives_in (profile_in log number)) ys)) end) u)

pub call_whole : (names : Names) (inside : Inside) (here : Context) (at first last number count : ℕ) (as' : Args) (log now end : Log) (us vs : List Taken) (begun done : KnownCalling) (z p q : TypedPart) (m n : ℕ) (b : Bool) (gives : Option Scalar)
    → us ≡ takes_in (profile_in log number) → vs ≡ us → calling_of begun Nothing ≡ begun_call → z ≡ Nothing → arguments names inside here vs (calling_of begun z) as' log ≡ (calling_of done p, now)
    → m ≡ length log.faults → n ≡ length now.faults → n ≡ m → count ≡ length us → complete at count done.late (calling_of done p) now ≡ (part_if b q, end) → b ≡ true
    → gives ≡ gives_in (profile_in log number)
    → sub_call names inside here at first last number as' log ≡ some (call_given first last number gives q) end
call_whole names inside here at first last number count as' log now end us vs begun done z p q m n b gives e f g h i j k l r t u w =
    call_kept names inside here at first last number as' log now us vs begun done z p m n e f g h i j k l
    ∙ (completed_by at first last number count (takes_in (profile_in log number)) (gives_in (profile_in log number)) (calling_of done p) now end (part_if b q) (r ∙ ap length e) t
    ∙ (ap (λ c. given (part_if c q) (λ ys. some (call_given first last number (gives_in (profile_in log number)) ys)) end) u
    ∙ ap (λ (s : Option Scalar). some (call_given first last number s q) end) (sym w)))
