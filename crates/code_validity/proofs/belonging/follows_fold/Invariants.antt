use Rattle.std.specs.Prelude.{◌↔◌}
use Rattle.stack_code.specs.Valid.{FollowsFold}
use Rattle.code_validity.proofs.belonging.follows_fold.Given as goal

abbrev pub invariant-loop-before : goal.invariant-loop-before
invariant-loop-before l = FollowsFold l.code l.before ↔ FollowsFold l.code l.at

abbrev pub decreases-loop-before : goal.decreases-loop-before
decreases-loop-before l = l.before
