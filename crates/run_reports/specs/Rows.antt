-- Lines of variables written by hand.
use Rattle.std.specs.Prelude.{◌≡◌, pos, negsuc, [], ◌∷◌, ◌++◌, codes}
use Rattle.run_reports.specs.Lines.{ended}
use Rattle.run_reports.specs.Vars.{vars_lines}
use Rattle.run_reports.specs.declared.ends.CellKind.TheVariants as kind

-- P : array (1 .. 3) of Integer, with 10, 18 and 27
abbrev pub ThreeCells : Type 0
ThreeCells = vars_lines (record { name = codes "P"; kinds = kind.Number ∷ kind.Number ∷ kind.Number ∷ [] } ∷ []) ((pos 10 ∷ pos 18 ∷ pos 27 ∷ []) ∷ []) ≡ ended (codes "P = 10 18 27")

-- X : Integer with -5, and B : Boolean with True
abbrev pub TwoLines : Type 0
TwoLines = vars_lines (record { name = codes "X"; kinds = kind.Number ∷ [] } ∷ record { name = codes "B"; kinds = kind.Truth ∷ [] } ∷ []) ((negsuc 4 ∷ []) ∷ (pos 1 ∷ []) ∷ []) ≡ ended (codes "X = -5") ++ ended (codes "B = TRUE")

-- H : array (1 .. 2) of a type mod 2 ** 64, with 7 and 18446744073709551615, which a cell keeps as -1
abbrev pub GreatestDigits : Type 0
GreatestDigits = vars_lines (record { name = codes "H"; kinds = kind.Digits ∷ kind.Digits ∷ [] } ∷ []) ((pos 7 ∷ negsuc 0 ∷ []) ∷ []) ≡ ended (codes "H = 7 18446744073709551615")
