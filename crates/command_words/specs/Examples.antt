-- Words, and what they ask for.
use Rattle.std.specs.Prelude.{ℕ, zero, suc, ◌==◌, Bool, true, false, List, [], ◌∷◌, ◌++◌, codes, cond, Option, Some, None}
use Rattle.ada_base.specs.Cuts.{Plan, One, Even, Chunked, Listed}
use Rattle.command_words.specs.Words.{Asked}
use Rattle.command_words.specs.declared.request.Mode.{Mode}
use Rattle.command_words.specs.declared.request.Mode.TheVariants as mode
use Rattle.command_words.specs.declared.request.Mode.TheVariants.{Check, Run}

-- words, and what they ask for, found by hand; None where they are wrong
pub record Example : Type 0 where
  pub words : List (List ℕ)
  pub asks : Option Asked

-- the words of a text, with one space (32) between them
abbrev pub onto_first : ℕ → List (List ℕ) → List (List ℕ)
onto_first c [] = (c ∷ []) ∷ []
onto_first c (word ∷ words) = (c ∷ word) ∷ words

abbrev pub words_of : List ℕ → List (List ℕ)
words_of [] = [] ∷ []
words_of (c ∷ cs) = cond (c == 32) ([] ∷ words_of cs) (onto_first c (words_of cs))

abbrev pub request : Mode → List ℕ → Plan → ℕ → ℕ → Bool → Option Asked
request mode file plan workers turns vars =
    Some (record { mode = mode; file = file; settings = record { plan = plan; workers = workers; turns = turns }; vars = vars })

-- a request for t.ada to be run under a plan
abbrev pub planned : Plan → Option Asked
planned plan = request Run (codes "t.ada") plan 4 1000000000 false

abbrev pub row : List ℕ → Option Asked → Example
row text asks = record { words = words_of text; asks = asks }

-- so many times the size 7, with commas between
abbrev pub sevens : ℕ → List ℕ
sevens zero = []
sevens (suc zero) = codes "7"
sevens (suc (suc more)) = codes "7," ++ sevens (suc more)

abbrev pub all_sevens : ℕ → List ℕ
all_sevens zero = []
all_sevens (suc more) = 7 ∷ all_sevens more

-- ---- the words in their places, and the forms of options

abbrev pub forms : List Example
forms =
    row (codes "check t.ada") (request Check (codes "t.ada") (Even 8) 4 1000000000 false)
    ∷ row (codes "run t.ada") (planned (Even 8))
    ∷ row (codes "list t.ada") (request mode.List (codes "t.ada") (Even 8) 4 1000000000 false)
    ∷ row (codes "list list --vars") (request mode.List (codes "list") (Even 8) 4 1000000000 true)
    ∷ row (codes "run check") (request Run (codes "check") (Even 8) 4 1000000000 false)
    ∷ row (codes "run - --vars") (request Run (codes "-") (Even 8) 4 1000000000 true)
    ∷ row (codes "run -- --vars") (request Run (codes "--vars") (Even 8) 4 1000000000 false)
    ∷ row (codes "--vars run --workers 2 t.ada --turns 9 --chunks one") (request Run (codes "t.ada") One 2 9 true)
    ∷ row (codes "check --workers=2 --turns=9 --chunks=one t.ada") (request Check (codes "t.ada") One 2 9 false)
    ∷ record { words = []; asks = None }
    ∷ record { words = codes "run" ∷ [] ∷ []; asks = request Run [] (Even 8) 4 1000000000 false }
    ∷ row (codes "run") None
    ∷ row (codes "run t.ada u.ada") None
    ∷ row (codes "run -- t.ada --vars") None
    ∷ row (codes "run -t.ada") None
    ∷ row (codes "t.ada run") None
    ∷ row (codes "List t.ada") None
    ∷ row (codes "Run t.ada") None
    ∷ row (codes "runs t.ada") None
    ∷ row (codes "lists t.ada") None
    ∷ row (codes "soak 1") (request (mode.Soak 1) (codes "soak") (Even 8) 4 1000000000 false)
    ∷ row (codes "soak --workers 8 0001000 --vars --chunks one") (request (mode.Soak 1000) (codes "soak") One 8 1000000000 true)
    ∷ row (codes "soak") None
    ∷ row (codes "soak t.ada") None
    ∷ row (codes "soak 0") None
    ∷ row (codes "soak 1001") None
    ∷ row (codes "soak +1") None
    ∷ row (codes "soak 00000000000001") None
    ∷ row (codes "soak 1 --workers 65") None
    ∷ row (codes "soak 1 1") None
    ∷ row (codes "soaks 1") None
    ∷ row (codes "Soak 1") None
    ∷ row (codes "help") None
    ∷ row (codes "run t.ada --help") None
    ∷ row (codes "run t.ada -h") None
    ∷ row (codes "run t.ada --version") None
    ∷ row (codes "run t.ada -V") None
    ∷ row (codes "run t.ada --work 2") None
    ∷ row (codes "run t.ada -workers 2") None
    ∷ row (codes "run t.ada --workers") None
    ∷ row (codes "run t.ada --workers --vars") None
    ∷ row (codes "run t.ada --vars=true") None
    ∷ row (codes "run t.ada --vars --vars") None
    ∷ row (codes "run t.ada --workers 2 --workers 2") None
    ∷ row (codes "run t.ada --chunks one --chunks one") None
    ∷ row (codes "run t.ada --turns 9 --turns=9") None
    ∷ []

-- ---- numbers

abbrev pub numbers : List Example
numbers =
    row (codes "run t.ada --workers 1") (request Run (codes "t.ada") (Even 8) 1 1000000000 false)
    ∷ row (codes "run t.ada --workers 64") (request Run (codes "t.ada") (Even 8) 64 1000000000 false)
    ∷ row (codes "run t.ada --workers 0000000000064") (request Run (codes "t.ada") (Even 8) 64 1000000000 false)
    ∷ row (codes "run t.ada --turns 1") (request Run (codes "t.ada") (Even 8) 4 1 false)
    ∷ row (codes "run t.ada --turns 1099511627776") (request Run (codes "t.ada") (Even 8) 4 1099511627776 false)
    ∷ row (codes "run t.ada --workers 0") None
    ∷ row (codes "run t.ada --workers 65") None
    ∷ row (codes "run t.ada --workers 00000000000064") None
    ∷ row (codes "run t.ada --workers=") None
    ∷ row (codes "run t.ada --workers +4") None
    ∷ row (codes "run t.ada --workers=-4") None
    ∷ row (codes "run t.ada --workers 4a") None
    ∷ row (codes "run t.ada --workers 0x4") None
    ∷ row (codes "run t.ada --workers 1_0") None
    ∷ row (codes "check t.ada --workers 0") None
    ∷ row (codes "run t.ada --turns 0") None
    ∷ row (codes "check t.ada --turns 1099511627777") None
    ∷ row (codes "run t.ada --turns 10000000000000") None
    ∷ []

-- ---- plans

abbrev pub plans : List Example
plans =
    row (codes "run t.ada --chunks one") (planned One)
    ∷ row (codes "run t.ada --chunks even:1") (planned (Even 1))
    ∷ row (codes "run t.ada --chunks even:4096") (planned (Even 4096))
    ∷ row (codes "run t.ada --chunks sized:4294967295") (planned (Chunked 4294967295))
    ∷ row (codes "run t.ada --chunks list:5") (planned (Listed (5 ∷ [])))
    ∷ row (codes "run t.ada --chunks list:1,02,4294967295") (planned (Listed (1 ∷ 2 ∷ 4294967295 ∷ [])))
    ∷ row (codes "run t.ada --chunks list:" ++ sevens 64) (planned (Listed (all_sevens 64)))
    ∷ row (codes "run t.ada --chunks list:" ++ sevens 65) None
    ∷ row (codes "run t.ada --chunks two") None
    ∷ row (codes "run t.ada --chunks One") None
    ∷ row (codes "run t.ada --chunks one:1") None
    ∷ row (codes "run t.ada --chunks even") None
    ∷ row (codes "run t.ada --chunks even:") None
    ∷ row (codes "run t.ada --chunks even:0") None
    ∷ row (codes "run t.ada --chunks even:4097") None
    ∷ row (codes "run t.ada --chunks even:8:8") None
    ∷ row (codes "run t.ada --chunks sized:0") None
    ∷ row (codes "run t.ada --chunks sized:4294967296") None
    ∷ row (codes "run t.ada --chunks sized:1,2") None
    ∷ row (codes "run t.ada --chunks list:") None
    ∷ row (codes "run t.ada --chunks list:1,") None
    ∷ row (codes "run t.ada --chunks list:,1") None
    ∷ row (codes "run t.ada --chunks list:1,0") None
    ∷ row (codes "check t.ada --chunks list:1;2") None
    ∷ []
