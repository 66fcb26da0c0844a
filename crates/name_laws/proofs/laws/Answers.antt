use Rattle.name_laws.proofs.laws.Goals as goal
use Rattle.name_laws.proofs.BasedLaw.{based_law}
use Rattle.name_laws.proofs.CellsFormed.{formed_law}
use Rattle.name_laws.proofs.Constants.{constants_law}
use Rattle.name_laws.proofs.Lying.{cells_law}
use Rattle.name_laws.proofs.Lookups.{hiding_law}
use Rattle.name_laws.proofs.MakesPrograms.{classes_law}
use Rattle.name_laws.proofs.Numbering.{symbol_law}
use Rattle.name_laws.proofs.Scopes.{scope_law}
use Rattle.name_laws.proofs.Statics.{static_law}
use Rattle.name_laws.proofs.Own.{main_name_law, own_name_law}

pub returns-clause-hiding : goal.returns-clause-hiding
returns-clause-hiding c = hiding_law

pub returns-clause-scopes : goal.returns-clause-scopes
returns-clause-scopes c = scope_law

pub returns-clause-own_name : goal.returns-clause-own_name
returns-clause-own_name c = own_name_law

pub returns-clause-main_name : goal.returns-clause-main_name
returns-clause-main_name c = main_name_law

pub returns-clause-cells : goal.returns-clause-cells
returns-clause-cells c = cells_law

pub returns-clause-formed : goal.returns-clause-formed
returns-clause-formed c = formed_law

pub returns-clause-symbols : goal.returns-clause-symbols
returns-clause-symbols c = symbol_law

pub returns-clause-constants : goal.returns-clause-constants
returns-clause-constants c = constants_law

pub returns-clause-statics : goal.returns-clause-statics
returns-clause-statics c = static_law

pub returns-clause-based : goal.returns-clause-based
returns-clause-based c = based_law

pub returns-clause-classes : goal.returns-clause-classes
returns-clause-classes c = classes_law
