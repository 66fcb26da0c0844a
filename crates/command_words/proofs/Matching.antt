-- What a parse of the words says of what they ask for.
use Rattle.std.proofs.Common.{◌≡◌, ◌∙◌, true, List, [], ◌∷◌, Option, None, Result, Ok, Err, IfOk, refl, sym, ap, inl, inr}
use Rattle.std.specs.Prelude.{MatchResult}
use Rattle.clap.proofs.OnLiterals.{clap_on_literals}
use Rattle.clap.specs.Faults.{fault_of, is_simple_and_free}
use Rattle.clap.specs.Kinds.{FailsBy, IsAmong, Kinds}
use Rattle.clap.specs.Matches.{found_of}
use Rattle.clap.specs.Simple.{App, HasMatchesOf, is_simple, matches_of}
use Rattle.clap.specs.Values.{kind_of}
use Rattle.clap.specs.Walk.{Text, rows_of}
use Rattle.clap.specs.declared.error.Error.{Error}
use Rattle.clap.specs.declared.error.kind.ErrorKind.{ErrorKind}
use Rattle.clap.specs.declared.error.kind.ErrorKind.TheVariants.{OutOfMemory}
use Rattle.clap.specs.declared.parser.matches.ArgMatches.{ArgMatches}
use Rattle.command_words.specs.Words.{asked, asked_by, command, faultless}

is_free : is_simple_and_free command ≡ true
unfolding clap_on_literals
is_free = refl

is_plain : is_simple command ≡ true
unfolding clap_on_literals
is_plain = refl

faulty : {X : Type 0} (k : ErrorKind) (kinds : Kinds) (x : Option X) → IsAmong k kinds → faultless kinds x ≡ None
faulty k [] x h = absurd h
faulty k (y ∷ ys) x h = refl

pub matched : (app : App) (words : List Text) (r : Result ArgMatches Error) → app ≡ command → (is_simple_and_free app ≡ true → FailsBy (fault_of app words) r)
    → IfOk r (HasMatchesOf app words)
    → MatchResult r (λ m. asked words ≡ asked_by (rows_of (found_of m))) (λ e. (kind_of e ≡ OutOfMemory → ⊥) → asked words ≡ None)
unfolding asked
matched app words (Ok m) is fails has =
    let none : fault_of command words ≡ [] = sym (ap (λ a. fault_of a words) is) ∙ fails (ap is_simple_and_free is ∙ is_free) in
    let rows : rows_of (found_of m) ≡ matches_of command words = (has (ap is_simple is ∙ is_plain)).0 ∙ ap (λ a. matches_of a words) is in
    ap (λ kinds. faultless kinds (asked_by (matches_of command words))) none ∙ ap asked_by (sym rows)
matched app words (Err e) is fails has = λ other. elim (fails (ap is_simple_and_free is ∙ is_free)) [
  | inl memory ↦ absurd (other memory)
  | inr among ↦ ap (λ a. faultless (fault_of a words) (asked_by (matches_of command words))) (sym is) ∙ faulty (kind_of e) (fault_of app words) (asked_by (matches_of command words)) among
]
