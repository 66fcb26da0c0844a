use Rattle.std.proofs.Common.{arith}
use Rattle.syntax_lexer.proofs.Edges.{bad_edge, wide_edge, long_edge}
use Rattle.syntax_lexer.proofs.text.fault_at.Goals as goal

pub place_of-requires-clause-boundary : goal.place_of-requires-clause-boundary
place_of-requires-clause-boundary c = bad_edge _ _ c.utf8.text (rw c.in-BadToken.is at c.requires.stops)

pub place_of-requires-clause-countable : goal.place_of-requires-clause-countable
place_of-requires-clause-countable c =
    let edge = bad_edge _ _ c.utf8.text (rw c.in-BadToken.is at c.requires.stops) in
    omega (arith, edge.0, c.requires.short)

pub place_of-requires-in-WideLiteral-clause-boundary : goal.place_of-requires-in-WideLiteral-clause-boundary
place_of-requires-in-WideLiteral-clause-boundary c = wide_edge _ _ c.utf8.text (rw c.in-WideLiteral.is at c.requires.stops)

pub place_of-requires-in-WideLiteral-clause-countable : goal.place_of-requires-in-WideLiteral-clause-countable
place_of-requires-in-WideLiteral-clause-countable c =
    let edge = wide_edge _ _ c.utf8.text (rw c.in-WideLiteral.is at c.requires.stops) in
    omega (arith, edge.0, c.requires.short)

pub place_of-requires-in-TooLong-clause-boundary : goal.place_of-requires-in-TooLong-clause-boundary
place_of-requires-in-TooLong-clause-boundary c = long_edge _ _ c.utf8.text (rw c.in-TooLong.is at c.requires.stops)

pub place_of-requires-in-TooLong-clause-countable : goal.place_of-requires-in-TooLong-clause-countable
place_of-requires-in-TooLong-clause-countable c =
    let edge = long_edge _ _ c.utf8.text (rw c.in-TooLong.is at c.requires.stops) in
    omega (arith, edge.0, c.requires.short)
