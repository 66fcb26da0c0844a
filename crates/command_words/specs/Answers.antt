-- How what is read answers to what is defined.
use Rattle.std.specs.Prelude.{◌≡◌, ◌<◌, ◌≤◌, ⊤, ℕ, false, All, List, Option, Some, None, Result, MatchResult}
use Rattle.ada_base.specs.Cuts as cuts
use Rattle.clap.specs.Matches.{found_of}
use Rattle.clap.specs.Walk.{Rule, rows_of, rule_of}
use Rattle.clap.specs.declared.builder.arg.Arg.{Arg}
use Rattle.clap.specs.declared.parser.matches.ArgMatches.{ArgMatches}
use Rattle.run_plan.specs.Plans.{HasNoZero, plan_of}
use Rattle.run_plan.specs.declared.plan.Plan.{Plan}
use Rattle.run_plan.specs.declared.plan.Setting.{Setting}
use Rattle.command_words.specs.Words.{Asked, Settings, asked, asked_by}
use Rattle.command_words.specs.declared.request.Mode.{Mode}
use Rattle.command_words.specs.declared.request.Request.{Request}
use Rattle.command_words.specs.declared.request.WordsFault.{WordsFault}
use Rattle.command_words.specs.declared.request.WordsFault.TheVariants.{Usage}

-- what is given is what is defined, and is sound; and where something is wrong nothing is defined. Want of memory says
-- nothing.
abbrev pub Gives : {X Y : Type 0} → (X → Type 0) → (X → Y) → Option Y → Result X WordsFault → Type 0
Gives Sound view defined given =
    MatchResult given (λ x. (defined ≡ Some (view x)) × Sound x) (λ fault. fault ≡ Usage → defined ≡ None)

-- a number within bounds
abbrev pub GivesWithin : ℕ → ℕ → Option ℕ → Result ℕ WordsFault → Type 0
GivesWithin low high = Gives (λ n. (low ≤ n) × (n ≤ high)) (λ n. n)

abbrev pub GivesPlan : Option cuts.Plan → Result Plan WordsFault → Type 0
GivesPlan = Gives HasNoZero plan_of

abbrev pub GivesMode : Option Mode → Result Mode WordsFault → Type 0
GivesMode = Gives (λ m. ⊤) (λ m. m)

-- sizes of chunks, as a list has them afterwards
abbrev pub GivesSizes : Option (List ℕ) → Result (Unit {0}) WordsFault → List ℕ → Type 0
GivesSizes defined given sizes = MatchResult given (λ _. (defined ≡ Some sizes) × All (λ size. 0 < size) sizes) (λ fault. fault ≡ Usage → defined ≡ None)

-- no number in a setting is 0
abbrev pub IsSound : Setting → Type 0
IsSound s = HasNoZero s.plan × (1 ≤ s.workers) × (1 ≤ s.turns)

abbrev pub settings_of : Setting → Settings
settings_of s = record { plan = plan_of s.plan; workers = s.workers; turns = s.turns }

abbrev pub GivesSetting : Option Settings → Result Setting WordsFault → Type 0
GivesSetting = Gives IsSound settings_of

abbrev pub asked_of : Request → Asked
asked_of r = record { mode = r.mode; file = r.file.now; settings = settings_of r.setting; vars = r.vars }

-- a request, whose setting is sound
abbrev pub GivesRequest : Option Asked → Result Request WordsFault → Type 0
GivesRequest = Gives (λ r. IsSound r.setting) asked_of

-- an argument that a parse reads so
abbrev pub IsArg : Rule → Arg → Type 0
IsArg rule arg = (rule_of arg ≡ rule) × (arg.global ≡ false)

-- the matches of the words, where they have some
abbrev pub GivesMatches : List (List ℕ) → Result ArgMatches WordsFault → Type 0
GivesMatches words given =
    MatchResult given (λ m. asked words ≡ asked_by (rows_of (found_of m))) (λ fault. fault ≡ Usage → asked words ≡ None)
