-- What follows the name of an instruction in its line, by kind.
use Rattle.std.specs.Prelude.{ℤ, pos, List, [], ◌∷◌}
use Rattle.code_listing.specs.declared.operands.Operands.{Operands}
use Rattle.code_listing.specs.declared.operands.Operands.TheVariants.{Nothing, Number, Signed, Two, Three, Both, Bounded, Indexed, Found, FoundBy}

abbrev pub numbers_of : Operands → List ℤ
numbers_of Nothing = []
numbers_of (Number n) = pos n ∷ []
numbers_of (Signed v) = v ∷ []
numbers_of (Two a b) = pos a ∷ pos b ∷ []
numbers_of (Three a b c) = pos a ∷ pos b ∷ pos c ∷ []
numbers_of (Both a b) = a ∷ b ∷ []
numbers_of (Bounded n lo hi) = pos n ∷ lo ∷ hi ∷ []
numbers_of (Indexed lo hi size) = lo ∷ hi ∷ pos size ∷ []
numbers_of (Found n lo hi size) = pos n ∷ lo ∷ hi ∷ pos size ∷ []
numbers_of (FoundBy g lo hi size n) = pos g ∷ lo ∷ hi ∷ pos size ∷ pos n ∷ []
