-- Operands that have no parameter, with their parts: these are a list that grows.
use Rattle.std.specs.Prelude.{List, [], ◌∷◌, ◌++◌, Bool, true, false, Option, Some, None, reverse}
use Rattle.typed_tree.specs.Decoded.{TypedPart}
use Rattle.name_rules.specs.Found.{Found}
use Rattle.name_rules.specs.Judges.{found}
use Rattle.name_rules.specs.declared.found.Found.{Found as Known}
use Rattle.name_rules.specs.TypedParts.{left_of, right_of}

-- what is known of them the latest first, and their parts
abbrev pub latest_founds : List Known → TypedPart → List Found
latest_founds [] p = []
latest_founds (k ∷ ks) p = latest_founds ks (right_of p) ++ found k (left_of p) ∷ []

abbrev pub founds : List Known → TypedPart → List Found
founds ks p = latest_founds (reverse ks) p

-- the operands, where each could be judged
abbrev pub operands_of : Bool → List Known → TypedPart → Option (List Found)
operands_of false ks p = None
operands_of true ks p = Some (founds ks p)
