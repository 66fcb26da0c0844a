-- The lines of the variables of the main procedure.
use Rattle.std.specs.Prelude.{ℕ, ℤ, pos, List, [], ◌∷◌, ◌++◌, codes}
use Rattle.std.specs.Fmt.{signed_decimal}
use Rattle.ada_base.specs.Image.{truth_image}
use Rattle.ada_base.specs.Operation.{turned}
use Rattle.ada_meaning.specs.Values.{truth}
use Rattle.run_reports.specs.declared.ends.CellKind.{CellKind}
use Rattle.run_reports.specs.declared.ends.CellKind.TheVariants as kind
use Rattle.run_reports.specs.declared.ends.Final.{Final}

-- a scalar cell: `TRUE` or `FALSE`, or in decimal, where a cell of a modular type may keep another number than its value
abbrev pub cell_text : CellKind → ℤ → List ℕ
cell_text kind.Truth value = truth_image (truth value)
cell_text kind.Number value = signed_decimal value
cell_text kind.Digits value = signed_decimal (turned value)

-- one space and its value for each cell
abbrev pub cells_text : List CellKind → List ℤ → List ℕ
cells_text [] values = []
cells_text (k ∷ ks) [] = []
cells_text (k ∷ ks) (v ∷ vs) = 32 ∷ (cell_text k v ++ cells_text ks vs)

abbrev pub vars_line : Final → List ℤ → List ℕ
vars_line variable values = variable.name ++ (codes " =" ++ (cells_text variable.kinds values ++ 10 ∷ []))

-- a line for each variable that has values
abbrev pub vars_lines : List Final → List (List ℤ) → List ℕ
vars_lines [] values = []
vars_lines (x ∷ xs) [] = []
vars_lines (x ∷ xs) (v ∷ vs) = vars_line x v ++ vars_lines xs vs

abbrev pub first_or_zero : List ℤ → ℤ
first_or_zero [] = pos 0
first_or_zero (v ∷ vs) = v
