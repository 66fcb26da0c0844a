-- Steps of a repeated multiplication.
use Rattle.std.proofs.Common.{◌≡◌, ℕ, suc, ◌+◌, ◌-◌, ◌*◌, ◌<◌, sym, ap, ◌∙◌, arith, add-zero}
use Rattle.syntax_lexer.specs.Reading.{limited, times}

pub times_more : (base n end turn next total : ℕ) → turn < end → next ≡ limited (n * base + 0) → times base n (end - turn) ≡ total → times base next (end - (turn + 1)) ≡ total
times_more base n end turn next total below e h =
    let left : end - turn ≡ suc (end - (turn + 1)) = omega arith in
    let same : next ≡ limited (n * base) = e ∙ ap limited (add-zero (n * base)) in
    ap (λ m. times base m (end - (turn + 1))) same ∙ (sym (ap (times base n) left) ∙ h)
