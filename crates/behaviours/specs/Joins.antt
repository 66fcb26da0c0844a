-- The threads of a construct, and how their runs are joined to one (5.5, 5.6.1).
use Rattle.std.specs.Prelude.{◌≡◌, ℕ, suc, ◌+◌, max, ℤ, Option, List, [], ◌∷◌, ◌⊎◌, Bool, true, false, ◌||◌}
use Rattle.behaviours.specs.Paths.{Leave, End, Gives, Leaves, Spent, Stopped, Path}
use Rattle.behaviours.specs.Events.{Trace, Shuffle, in_order}

-- so many iterations from the first, and the number of their thread
pub record Share : Type 0 where
  pub number : ℕ
  pub first : ℕ
  pub size : ℕ

-- what the parameters of a construct are in one iteration: the value of the loop parameter, or for an iteration over an
-- array the first cell of the component and how many there are; and the value of the chunk parameter
pub record Now : Type 0 where
  pub loop : Option ℤ
  pub chunk : ℤ
  pub first : ℕ
  pub size : ℕ

-- where a construct stands in a program, and what its parameters are in each iteration of each thread
pub record Site : Type 0 where
  pub number : ℕ
  pub now : (thread iteration : ℕ) → Now

abbrev pub deal : ℕ → ℕ → List ℕ → List Share
deal number first [] = []
deal number first (n ∷ ns) = record { number = number; first = first; size = n } ∷ deal (suc number) (first + n) ns

-- from a path: a trace, whether a construct was left early, the path after it, and how it ends
abbrev pub Runs : Type 0 → Type 0 → Type 1
Runs P A = Path P → Trace P → Bool → Path P → End A → Type 0

-- a run that a thread has
pub record Ran (P A : Type 0) : Type 0 where
  pub trace : Trace P
  pub early : Bool
  pub path : Path P
  pub end : End A

module _ {P : Type 0} where
  abbrev pub traces : {A : Type 0} → List (Ran P A) → List (Trace P)
  traces [] = []
  traces (r ∷ rs) = r.trace ∷ traces rs

  abbrev pub EachRan : {A : Type 0} → (Share → Runs P A) → Path P → List Share → List (Ran P A) → Type 0
  EachRan {A} body p [] rs = rs ≡ []
  EachRan {A} body p (j ∷ js) rs = (r : Ran P A) × (more : List (Ran P A)) × (rs ≡ r ∷ more) × body j p r.trace r.early r.path r.end × EachRan body p js more

  -- the greatest count of turns
  abbrev pub most_turns : {A : Type 0} → ℕ → List (Ran P A) → ℕ
  most_turns n [] = n
  most_turns n (r ∷ rs) = max r.path.turns (most_turns n rs)

  abbrev pub some_early : {A : Type 0} → List (Ran P A) → Bool
  some_early [] = false
  some_early (r ∷ rs) = r.early || some_early rs

  abbrev pub AllGive : {A : Type 0} → List (Ran P A) → List A → Type 0
  AllGive {A} [] values = values ≡ []
  AllGive {A} (r ∷ rs) values = (a : A) × (more : List A) × (values ≡ a ∷ more) × (r.end ≡ Gives a) × AllGive rs more

  abbrev pub SomeEnds : {A : Type 0} → List (Ran P A) → End A → Type 0
  SomeEnds [] e = ⊥
  SomeEnds (r ∷ rs) e = (r.end ≡ e) ⊎ SomeEnds rs e

  abbrev pub NoneLeft : {A : Type 0} → List (Ran P A) → Type 0
  NoneLeft [] = Unit {0}
  NoneLeft (r ∷ rs) = ((x : Leave) → r.end ≡ Leaves x → ⊥) × (r.end ≡ Stopped → ⊥) × NoneLeft rs

  -- how a construct ends whose threads ended so
  abbrev pub Joins : {A : Type 0} → List (Ran P A) → End (List A) → Type 0
  Joins rs (Gives values) = AllGive rs values
  Joins rs (Leaves x) = SomeEnds rs (Leaves x)
  Joins rs Spent = NoneLeft rs × SomeEnds rs Spent
  Joins rs Stopped = Unit {0}

  -- threads that make no action and no turn
  abbrev pub Idle : {A : Type 0} → Path P → List (Ran P A) → Type 0
  Idle p [] = Unit {0}
  Idle p (r ∷ rs) = ((r.trace ≡ []) × (r.early ≡ false) × (r.path.turns ≡ p.turns) × (r.end ≡ Stopped)) × Idle p rs

  -- the first thread that ends so; those before it went to their ends, and those after it haven't begun
  abbrev pub FirstEnds : {A : Type 0} → Path P → List (Ran P A) → End A → Type 0
  FirstEnds p [] e = ⊥
  FirstEnds {A} p (r ∷ rs) e = ((r.end ≡ e) × Idle p rs) ⊎ ((((x : Leave) → r.end ≡ Leaves x → ⊥) × (r.end ≡ Stopped → ⊥)) × FirstEnds p rs e)

  -- the same where the threads are taken in order
  abbrev pub JoinsInOrder : {A : Type 0} → Path P → List (Ran P A) → End (List A) → Type 0
  JoinsInOrder p rs (Gives values) = AllGive rs values
  JoinsInOrder p rs (Leaves x) = FirstEnds p rs (Leaves x)
  JoinsInOrder p rs Spent = NoneLeft rs × SomeEnds rs Spent
  JoinsInOrder p rs Stopped = FirstEnds p rs Stopped ⊎ NoneLeft rs

  -- the trace and the end of a construct, in order or not
  abbrev pub Form : {A : Type 0} → Bool → Path P → List (Ran P A) → Trace P → End (List A) → Type 0
  Form true p rs tr e = (tr ≡ in_order (traces rs)) × JoinsInOrder p rs e
  Form false p rs tr e = Shuffle (traces rs) tr × Joins rs e
