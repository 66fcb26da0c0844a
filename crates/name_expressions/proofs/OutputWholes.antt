-- Calls of predefined procedures, whose arguments have no fault.
use Rattle.std.proofs.Common.{◌≡◌, ◌≢◌, refl, sym, ◌∙◌, ℕ, Bool, true, false, length, Option, None}
use Rattle.std.specs.Prelude.{◌==◌, if◌then◌else◌}
use Rattle.syntax_tree.specs.Syntax as syntax
use Rattle.syntax_tree.specs.Syntax.{Args, Expr}
use Rattle.name_expressions.proofs.Puts.{number_only}
use Rattle.name_expressions.proofs.Wholes.{clean, faulty}
use Rattle.name_expressions.specs.Putting.{number_put, put_since}
use Rattle.name_rules.specs.Expressions.{Inside, expr}
use Rattle.name_rules.specs.Found.{Found}
use Rattle.name_rules.specs.Judging.{Judging, given, pure, where_clean, ◌>>=◌}
use Rattle.name_rules.specs.Output.{Putting, by_procedure, io_call, is_number_put, item_of, judged_arguments, no_name, nothing_put, others_alone, put_arguments}
use Rattle.name_rules.specs.declared.found.Put.{Put}
use Rattle.name_rules.specs.declared.found.Reach.{Reach}
use Rattle.name_rules.specs.declared.log.Log.{Log}
use Rattle.name_rules.specs.declared.scope.Context.{Context}
use Rattle.name_rules.specs.declared.scope.Names.{Names}
use Rattle.name_rules.specs.declared.types.Wanted.TheVariants as wanted

-- its first argument, and the others
abbrev judged : Names → Inside → Context → Reach → Put → Option ℕ → Expr → Args → Judging (Option Found × Putting)
judged names inside here reach p name e more = no_name name >>= λ u. expr names inside here wanted.Text e >>= judged_arguments names inside here reach p more

-- behind the first argument
judged_behind : (names : Names) (inside : Inside) (here : Context) (reach : Reach) (p : Put) (name : Option ℕ) (e : Expr) (more : Args) (x : Option Found) (log a b : Log)
    → no_name name log ≡ (tt, a) → expr names inside here wanted.Text e a ≡ (x, b) → judged names inside here reach p name e more log ≡ judged_arguments names inside here reach p more x b
judged_behind names inside here reach p name e more x log a b h i = rw (h, i) refl

judged_others : (names : Names) (inside : Inside) (here : Context) (reach : Reach) (p : Put) (more : Args) (x : Option Found) (b c : Log)
    → is_number_put p x ≡ false → others_alone names inside here more b ≡ (tt, c) → judged_arguments names inside here reach p more x b ≡ ((x, nothing_put 1 None), c)
judged_others names inside here reach p more x b c h i = rw (h, i) refl

pub procedure_gone : (names : Names) (inside : Inside) (here : Context) (at first last : ℕ) (p : Put) (reach : Reach) (name : Option ℕ) (e : Expr) (more : Args) (x : Option Found) (log a b c : Log) (m n : ℕ)
    → no_name name log ≡ (tt, a) → expr names inside here wanted.Text e a ≡ (x, b) → is_number_put p x ≡ false → others_alone names inside here more b ≡ (tt, c)
    → m ≡ length log.faults → n ≡ length c.faults → n ≢ m
    → io_call names inside here at first last p reach (syntax.AlsoArg (syntax.arg name e) more) log ≡ (None, c)
unfolding io_call
procedure_gone names inside here at first last p reach name e more x log a b c m n h i j k f g w =
    faulty (judged names inside here reach p name e more) (by_procedure at first last reach more p) log c (x, nothing_put 1 None) m n
    (judged_behind names inside here reach p name e more x log a b h i ∙ judged_others names inside here reach p more x b c j k) f g w

pub procedure_whole : (names : Names) (inside : Inside) (here : Context) (at first last : ℕ) (p : Put) (reach : Reach) (name : Option ℕ) (e : Expr) (more : Args) (x : Option Found) (log a b c : Log) (m n : ℕ)
    → no_name name log ≡ (tt, a) → expr names inside here wanted.Text e a ≡ (x, b) → is_number_put p x ≡ false → others_alone names inside here more b ≡ (tt, c)
    → m ≡ length log.faults → n ≡ length c.faults → n ≡ m
    → io_call names inside here at first last p reach (syntax.AlsoArg (syntax.arg name e) more) log ≡ by_procedure at first last reach more p (x, nothing_put 1 None) c
unfolding io_call
procedure_whole names inside here at first last p reach name e more x log a b c m n h i j k f g w =
    clean (judged names inside here reach p name e more) (by_procedure at first last reach more p) log c (x, nothing_put 1 None) m n
    (judged_behind names inside here reach p name e more x log a b h i ∙ judged_others names inside here reach p more x b c j k) f g w

-- what Put of a number judges of its arguments
abbrev number_judged : Names → Inside → Context → Reach → Option Found → Args → Judging Putting
number_judged names inside here reach x more = given x (item_of reach.integer_io) >>= λ e. put_arguments names inside here (nothing_put 1 e) more

number_arguments : (names : Names) (inside : Inside) (here : Context) (reach : Reach) (p : Put) (more : Args) (x : Option Found) (b : Log)
    → is_number_put p x ≡ true → judged_arguments names inside here reach p more x b ≡ (number_judged names inside here reach x more >>= λ r. pure (x, r)) b
number_arguments names inside here reach p more x b h = rw h refl

number_since : (at first last before : ℕ) (reach : Reach) (more : Args) (p : Put) (x : Option Found) (r : Putting) (log c : Log)
    → is_number_put p x ≡ true → before ≡ length log.faults
    → (if length log.faults == length c.faults then by_procedure at first last reach more p (x, r) else pure None) c ≡ put_since before at first last r c
number_since at first last before reach more p x r log c h i = rw (sym i, number_only at first last reach more p x r h) refl

clean_at : {A B : Type 0} (p : Judging A) (f : A → Judging (Option B)) (log c : Log) (a : A) → p log ≡ (a, c) → where_clean p f log ≡ (if length log.faults == length c.faults then f a else pure None) c
clean_at p f log c a e = rw e refl

pub number_whole : (names : Names) (inside : Inside) (here : Context) (at first last before : ℕ) (p : Put) (reach : Reach) (name : Option ℕ) (e : Expr) (more : Args) (x : Option Found) (log a b : Log)
    → no_name name log ≡ (tt, a) → expr names inside here wanted.Text e a ≡ (x, b) → is_number_put p x ≡ true → before ≡ length log.faults
    → io_call names inside here at first last p reach (syntax.AlsoArg (syntax.arg name e) more) log ≡ number_put names inside here before at first last reach x more b
unfolding io_call
number_whole names inside here at first last before p reach name e more x log a b h i j k =
    let r = number_judged names inside here reach x more b in
    clean_at (judged names inside here reach p name e more) (by_procedure at first last reach more p) log r.1 (x, r.0)
    (judged_behind names inside here reach p name e more x log a b h i ∙ number_arguments names inside here reach p more x b j)
    ∙ number_since at first last before reach more p x r.0 log r.1 j k
