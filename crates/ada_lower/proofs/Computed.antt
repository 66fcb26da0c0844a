-- The rows, computed.
use Rattle.std.proofs.Common.{refl}
use Rattle.ada_lower.specs.Homes.{stmt_homes}
use Rattle.ada_lower.specs.Standings.{expr_standings, decls_standings, stmt_standings}
use Rattle.ada_lower.specs.LeaseRows.{Shares, Parts, Deals, Marks, Reaches, Nests, WayRows}

pub shares : Shares
unfolding stmt_homes stmt_standings decls_standings expr_standings
shares = refl

pub parts : Parts
unfolding stmt_homes stmt_standings decls_standings expr_standings
parts = refl

pub deals : Deals
unfolding stmt_homes stmt_standings decls_standings expr_standings
deals = refl

pub marks : Marks
unfolding stmt_homes stmt_standings decls_standings expr_standings
marks = refl

pub reaches : Reaches
unfolding stmt_homes stmt_standings decls_standings expr_standings
reaches = refl

pub nests : Nests
unfolding stmt_homes stmt_standings decls_standings expr_standings
nests = refl

pub ways : WayRows
ways = (refl, refl, refl, refl, refl, refl)
