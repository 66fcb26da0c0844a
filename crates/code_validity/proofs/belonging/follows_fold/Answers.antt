use Rattle.std.proofs.Common.{arith, true≢false, sym, ◌∙◌}
use Rattle.code_validity.proofs.Folds.{fold_past, fold_here}
use Rattle.code_validity.proofs.belonging.follows_fold.Goals as goal

pub loop-before-preserved : goal.loop-before-preserved
loop-before-preserved c =
    let f = fold_past c.args.code.now c.loop-before.before (omega arith) (c.is_unnest.ensures.0 c.if-not-is_unnest.false) in
    (λ h. c.loop-before.invariant.0 (f.1 h), λ h. f.0 (c.loop-before.invariant.1 h))

pub returns-then-not-is_unnest : goal.returns-then-not-is_unnest
returns-then-not-is_unnest c =
    let f = fold_here c.args.code.now c.loop-before.before (omega arith) (λ e. absurd (true≢false (sym (c.is_unnest.ensures.1 e) ∙ c.if-not-is_unnest.true))) in
    (λ h. c.loop-before.invariant.0 (f.1 (c.forks_fold.ensures.0 h)), λ h. c.forks_fold.ensures.1 (f.0 (c.loop-before.invariant.1 h)))
