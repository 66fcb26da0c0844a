-- What the variables were when a run ended.
use Rattle.std.specs.Prelude.{ℤ, List}
use Rattle.ada_meaning.specs.Stored.{finals_of}
use Rattle.typed_tree.specs.Syntax.{Program}
use Rattle.run_reports.specs.declared.ends.Finals.{Finals}

-- the values of the main procedure's variables
abbrev pub values_of : Program → Finals → List (List ℤ)
values_of p f = finals_of p f.kept f.declared
