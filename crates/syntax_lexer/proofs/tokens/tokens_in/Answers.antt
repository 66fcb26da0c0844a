use Rattle.std.proofs.Common.{arith}
use Rattle.std.proofs.lemmas.Bool.{iff_false}
use Rattle.syntax_lexer.proofs.Reaching.{reaches_more, bytes_next}
use Rattle.syntax_lexer.proofs.tokens.tokens_in.Goals as goal

pub loop-found-preserved : goal.loop-found-preserved
loop-found-preserved c =
    let next = c.in-Ok.ensures in
    let bytes = bytes_next _ _ _ next.0 in (
      reaches_more _ _ _ _ _ _ _ _ c.loop-found.invariant.0 next.0 next.1 (iff_false c.is_end.ensures c.if-is_end.false) (λ e. absurd (omega arith)) c.in_ok-keep-2.ensures.ok,
      omega (arith, bytes, c.loop-found.invariant.1),
    )
