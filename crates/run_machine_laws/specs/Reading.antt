-- A Get of the machine's path, with what it asks for.
use Rattle.std.specs.Prelude.{◌≡◌, ℕ, zero, suc, ℤ, List, [], ◌∷◌, ◌++◌, Option, Some, None, Ok, Err}
use Rattle.ada_io.specs.declared.input.GetEnd.{GetEnd}
use Rattle.ada_io.specs.declared.input.GetEnd.TheVariants.{Number, Raise, ReadFault, Spent}
use Rattle.ada_io.specs.Gets.{Last, Open, AtEnd, Broken}
use Rattle.ada_meaning.specs.Deeds.{Deed, Asked}
use Rattle.ada_lower.specs.Asking.{Reads, Read, at}

-- what was done, where it is kept, and these deeds behind it
abbrev pub longer : Option (List Deed) → List Deed → Option (List Deed)
longer None ds = None
longer (Some es) ds = Some (es ++ ds)

-- so many bytes were asked for
abbrev pub askings : ℕ → List Deed
askings zero = []
askings (suc n) = askings n ++ (Asked ∷ [])

-- the one was done, and then more
abbrev pub Further : Option (List Deed) → Option (List Deed) → Type 0
Further o p = (ds : List Deed) × (p ≡ longer o ds)

-- what is left of the input behind what a source gave: nothing behind its end
abbrev pub IsRest : Last → List ℕ → Type 0
IsRest Open later = Unit {0}
IsRest AtEnd later = later ≡ []
IsRest Broken later = Unit {0}

-- a Get ends so: with a number, a raise, or spent turns; where the source failed, more was asked for than the path did so far
abbrev pub ReadsTo : Read ℤ → GetEnd → Reads → Type 0
ReadsTo r (Number v) t = r ≡ at t (Ok v)
ReadsTo r (Raise q) t = r ≡ at t (Err (Some q))
ReadsTo r Spent t = r ≡ at t (Err None)
ReadsTo r ReadFault t = Further t.done r.state.done
