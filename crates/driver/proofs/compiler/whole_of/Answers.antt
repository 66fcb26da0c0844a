use Rattle.std.proofs.Common.{sym}
use Rattle.typed_tree.specs.Programs.{program}
use Rattle.name_formed.proofs.FormsPrograms.{formed_programs_law}
use Rattle.name_symbols.specs.Naming.{names_of}
use Rattle.driver.specs.Compile.{naming, from_typed}
use Rattle.driver.proofs.Steps.{refuses_first}
use Rattle.syntax_nodes.specs.Trees.{program_of}
use Rattle.driver.proofs.compiler.whole_of.Goals as goal

pub returns-in-Err-clause-unit : goal.returns-in-Err-clause-unit
returns-in-Err-clause-unit c = refuses_first (naming c.args.tokens.now) (λ tree. from_typed c.args.tokens.now) (program_of c.args.tree.now) c.in-Err.refusal c.in-Err.ensures

-- the typed program of a text without a fault is formed, and names give it
pub checked-requires-clause-formed : goal.checked-requires-clause-formed
checked-requires-clause-formed c =
    let tree = program_of c.args.tree.now in
    formed_programs_law (names_of c.args.tokens.now tree) tree (program c.in-Ok.typed) (sym c.in-Ok.ensures)

pub checked-requires-clause-named : goal.checked-requires-clause-named
checked-requires-clause-named c =
    let tree = program_of c.args.tree.now in
    (names_of c.args.tokens.now tree, (tree, sym c.in-Ok.ensures))
