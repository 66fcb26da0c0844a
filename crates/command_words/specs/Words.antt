-- What the words ask for: MODE FILE [--workers N] [--chunks PLAN] [--turns K] [--vars].
use Rattle.std.specs.Prelude.{ℕ, Bool, true, false, List, [], ◌∷◌, codes, fold, Option, Some, None, option_map, if◌then◌else◌}
use Rattle.std.specs.Option.{option_map_or}
use Rattle.std.specs.Str.{bytes_eq}
use Rattle.ada_base.specs.Cuts.{Plan, Even}
use Rattle.clap.specs.Simple.{App, matches_of, new_app, new_rule, on_top, with_rule}
use Rattle.clap.specs.Faults.{fault_of}
use Rattle.clap.specs.Kinds.{Kinds}
use Rattle.clap.specs.Walk.{Row, Rule, first_of}
use Rattle.clap.specs.declared.builder.action.ArgAction.TheVariants.{SetTrue}
use Rattle.command_words.specs.Values.{number, plan, ◌>>=◌}
use Rattle.command_words.specs.declared.request.Mode.{Mode}
use Rattle.command_words.specs.declared.request.Mode.TheVariants as mode

-- ---- the command, as `clap` defines simple commands

-- a word that has to be there, an option with a value, and a flag
abbrev pub positional : List ℕ → Rule
positional name = record (new_rule name) { required = true }

abbrev pub option : List ℕ → Rule
option name = record (new_rule name) { long = Some name }

abbrev pub flag : List ℕ → Rule
flag name = record (new_rule name) { long = Some name; action = Some SetTrue }

-- no program's name is among the words, and there is no help; nor a version, where none is given
abbrev pub bare : App
bare = on_top (λ s. record s { no_binary_name = true; disable_help_flag = true }) (new_app (codes "ada_cmd"))

abbrev pub rules : List Rule
rules = positional (codes "mode") ∷ positional (codes "file") ∷ option (codes "workers")
    ∷ option (codes "chunks") ∷ option (codes "turns") ∷ flag (codes "vars") ∷ []

abbrev pub command : App
command = fold with_rule bare rules

-- ---- what the values mean

-- what a run is told beside its program
pub record Settings : Type 0 where
  pub plan : Plan
  pub workers : ℕ
  pub turns : ℕ

pub record Asked : Type 0 where
  pub mode : Mode
  pub file : List ℕ
  pub settings : Settings
  pub vars : Bool

-- the most statements of a soak
abbrev pub most_statements : ℕ
most_statements = 1000

-- a soak of so many statements, of which the word in the place of a file is the number
abbrev pub soak_of : List ℕ → Option Mode
soak_of file = option_map mode.Soak (number 1 most_statements file)

abbrev pub mode_named : List ℕ → List ℕ → Option Mode
mode_named text file = if bytes_eq text (codes "check") then Some mode.Check
    else if bytes_eq text (codes "run") then Some mode.Run
    else if bytes_eq text (codes "list") then Some mode.List
    else if bytes_eq text (codes "soak") then soak_of file
    else None

-- the name of the text, which in a soak is stated and not fetched
abbrev pub name_of : Mode → List ℕ → List ℕ
name_of (mode.Soak statements) file = codes "soak"
name_of m file = file

-- an option's value, or its default where it is absent
abbrev pub value_or : {X : Type 0} → X → (List ℕ → Option X) → Option (List ℕ) → Option X
value_or default read None = Some default
value_or default read (Some text) = read text

abbrev pub is_true : Option (List ℕ) → Bool
is_true text = option_map_or (λ t. bytes_eq t (codes "true")) text false

-- what is taken where an option is absent, and the most that one may be: 2 ^ 40 turns
abbrev pub usual_chunks : ℕ
usual_chunks = 8

abbrev pub usual_workers : ℕ
usual_workers = 4

abbrev pub most_workers : ℕ
most_workers = 64

abbrev pub usual_turns : ℕ
usual_turns = 1000000000

abbrev pub most_turns : ℕ
most_turns = 1099511627776

abbrev pub settings_by : List Row → Option Settings
settings_by rows = do
  p ← value_or (Even usual_chunks) plan (first_of (codes "chunks") rows)
  workers ← value_or usual_workers (number 1 most_workers) (first_of (codes "workers") rows)
  turns ← value_or usual_turns (number 1 most_turns) (first_of (codes "turns") rows)
  Some (record { plan = p; workers = workers; turns = turns })

abbrev pub asked_by : List Row → Option Asked
asked_by rows = do
  text ← first_of (codes "mode") rows
  file ← first_of (codes "file") rows
  m ← mode_named text file
  settings ← settings_by rows
  Some (record { mode = m; file = name_of m file; settings = settings; vars = is_true (first_of (codes "vars") rows) })

-- nothing where there is a fault
abbrev pub faultless : {X : Type 0} → Kinds → Option X → Option X
faultless [] x = x
faultless (kind ∷ kinds) x = None

-- what the words ask for. That is nothing where they are wrong: where the command has no matches for them, or a value
-- is not written as it should be.
unfoldable pub asked : List (List ℕ) → Option Asked
asked words = faultless (fault_of command words) (asked_by (matches_of command words))
