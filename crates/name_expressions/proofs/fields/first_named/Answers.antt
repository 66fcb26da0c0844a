use Rattle.std.proofs.Common.{rules, tests, ◌==◌}
use Rattle.std.proofs.lemmas.Iterator.{YieldsList-from_slice}
use Rattle.std.proofs.lemmas.Iterator.Search.{find_from_yields_List}
use Rattle.name_expressions.proofs.fields.first_named.Goals as goal

pub returns-in-Some : goal.returns-in-Some
returns-in-Some c =
    let found = find_from_yields_List (λ f. f.symbol == c.args.name) _ _ c.find.result c.find.ensures.ran (YieldsList-from_slice c.args.fields.now cc) (λ x b q k. search (rules, tests)) in
    rw c.in-Some.is at found

pub returns-in-None : goal.returns-in-None
returns-in-None c =
    let found = find_from_yields_List (λ f. f.symbol == c.args.name) _ _ c.find.result c.find.ensures.ran (YieldsList-from_slice c.args.fields.now cc) (λ x b q k. search (rules, tests)) in
    rw c.in-None.is at found
