-- What a reader has to do with a language.
use Rattle.std.specs.Prelude.{◌≡◌, ℕ, ◌<◌, List, [], ◌∷◌, ◌++◌, ◌⊎◌}
use Rattle.ada_base.specs.Symbols.{Symbol, Nested, Word, symbols_of}
use Rattle.syntax_readers.specs.Readers.{Answer, Found, Refused, TooDeep, Reader}
use Rattle.ada_base.specs.Languages.{Language, Begins, Inhabited}
use Rattle.ada_base.specs.Derivations.{AllWithin}
use Rattle.syntax_readers.specs.Sets.{Sets, Starts, Stops}

-- the symbols up to where the reader refused begin a word, or are none
abbrev pub RefusesWell : {A : Type 0} → (A → Language) → List Symbol → List Symbol → Type 0
RefusesWell L ts back = (front : List Symbol) × (ts ≡ front ++ back) × ((front ≡ []) ⊎ Begins L front)

-- the symbols up to where the reader went too deep, and the next one with them, begin a word
abbrev pub SinksWell : {A : Type 0} → (A → Language) → List Symbol → List Symbol → Type 0
SinksWell L ts back =
    (front : List Symbol) × (t : Symbol) × (rest : List Symbol) × (ts ≡ front ++ back) × (back ≡ t ∷ rest) × Begins L (front ++ t ∷ [])

-- the word was read, or the reader stopped at its first symbol that is too deep
abbrev pub Reads : ℕ → {A : Type 0} → A → Word → List Symbol → Answer A × List Symbol → Type 0
Reads limit a w rest answer =
    (AllWithin limit w × (answer ≡ (Found a, rest)))
    ⊎ ((f : Word) × (c : Nested) × (b : Word) × (w ≡ f ++ c ∷ b) × AllWithin limit f × (limit < c.depth)
    × (answer ≡ (TooDeep, c.symbol ∷ (symbols_of b ++ rest))))

-- what holds of a reader whatever the sets: it drops nothing, its answer hangs on the symbols up to the next one
-- alone, what it finds is derived, and where it stops it has come as far as some word goes
pub record Steady {A : Type 0} (L : A → Language) (p : Reader A) : Type 0 where
  pub suffix : (ts : List Symbol) → (front : List Symbol) × (ts ≡ front ++ (p ts).1)
  pub local : (xs r r' : List Symbol) (o : Answer A) (y : Symbol) (ys : List Symbol) → p (xs ++ r) ≡ (o, (y ∷ ys) ++ r) → p (xs ++ r') ≡ (o, (y ∷ ys) ++ r')
  pub sound : (ts : List Symbol) (a : A) (rest : List Symbol) → p ts ≡ (Found a, rest) → (w : Word) × L a w × (ts ≡ symbols_of w ++ rest)
  pub refused : (ts back : List Symbol) → p ts ≡ (Refused, back) → RefusesWell L ts back
  pub deep : (ts back : List Symbol) → p ts ≡ (TooDeep, back) → SinksWell L ts back

-- besides, the sets are right, and each word is read that ends where the reader stops
pub record Exact (limit : ℕ) {A : Type 0} (s : Sets) (L : A → Language) (p : Reader A) : Type 0 where
  pub steady : Steady L p
  pub starts : (a : A) (w : Word) → L a w → Starts s w
  pub whole : (a : A) (w : Word) (rest : List Symbol) → L a w → Stops s rest → Reads limit a w rest (p (symbols_of w ++ rest))

-- an exact reader of a language that has a word
pub record Rule (limit : ℕ) {A : Type 0} (s : Sets) (L : A → Language) (p : Reader A) : Type 0 where
  pub exact : Exact limit s L p
  pub sample : Inhabited L
