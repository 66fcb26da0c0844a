use Rattle.std.proofs.Common.{rules, tests}
use Rattle.std.proofs.lemmas.Iterator.Adapters.{YieldsList-from_rev_slice}
use Rattle.std.proofs.lemmas.Iterator.Search.{find_from_yields_List}
use Rattle.name_rules.specs.Statements.{is_name}
use Rattle.name_programs.proofs.transfers.loop_named.Goals as goal

pub returns-in-Some : goal.returns-in-Some
returns-in-Some c =
    let found = find_from_yields_List (λ l. is_name c.args.name l.symbol) _ _ c.find.result c.find.ensures.ran (YieldsList-from_rev_slice c.args.loops.now cc) (λ x b q k. search (rules, tests)) in
    rw c.in-Some.is at found

pub returns-in-None : goal.returns-in-None
returns-in-None c =
    let found = find_from_yields_List (λ l. is_name c.args.name l.symbol) _ _ c.find.result c.find.ensures.ran (YieldsList-from_rev_slice c.args.loops.now cc) (λ x b q k. search (rules, tests)) in
    rw c.in-None.is at found
