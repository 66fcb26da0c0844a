-- What functions say of the texts that they gather.
use Rattle.std.specs.Prelude.{◌≡◌, ℕ, ◌+◌, List, IsTrue}
use Rattle.lower_emission.specs.Texts.{gathered}
use Rattle.lower_code.specs.declared.gathering.Gathering.{Gathering}

-- if all had room, these were gathered
abbrev pub Gathers : List (List ℕ) → Gathering → Gathering → Type 0
Gathers ts before after = IsTrue after.whole → IsTrue before.whole × (after.texts ≡ gathered before.texts ts)

-- if all had room, it is as it was, and this is the next number
abbrev pub Counts : ℕ → Gathering → ℕ → Gathering → Type 0
Counts n before found after = IsTrue after.whole → IsTrue before.whole × ((after.texts ≡ before.texts) × (found ≡ n + 1))
