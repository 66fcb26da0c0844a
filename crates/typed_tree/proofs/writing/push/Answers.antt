use Rattle.std.proofs.Common.{◌≡◌, length, [], ◌∷◌, ◌++◌, arith}
use Rattle.typed_tree.proofs.Pushing.{pushed}
use Rattle.typed_tree.proofs.writing.push.Goals as goal

pub returns-clause-ok : goal.returns-clause-ok
returns-clause-ok c =
    let e : c.push.new.self ≡ c.args.nodes.now ++ c.args.node ∷ [] = c.in_ok-push.ensures.ok in
    let z : c.in-Ok.id ≡ length c.args.nodes.now = omega (arith, c.in-Ok.ensures, c.len.ensures) in
    pushed _ _ _ _ e z
