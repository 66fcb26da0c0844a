-- Words for what the functions of the walks find.
use Rattle.std.specs.Prelude.{◌≡◌, ◌<◌, ◌≤◌, ℕ, suc, List, Option, Some, None, IfSome, IsTrue}
use Rattle.typed_tree.specs.declared.node.Node.{Node}
use Rattle.typed_tree.specs.Decoded.{chunk_at, composite_at, expr_at, iteration_at, stmt_at}
use Rattle.typed_tree.specs.Syntax.{Program}
use Rattle.ada_lower.specs.declared.types.Home.{Home}
use Rattle.ada_lower.specs.declared.types.Standing.{Standing}
use Rattle.ada_lower.specs.Homes.{stmt_homes}
use Rattle.ada_lower.specs.Standings.{chunk_standings, composite_standings, depth_in, expr_standings, goes_through_range, iteration_standings, stmt_standings, with_site}
use Rattle.lower_leases.specs.declared.exprs.Reduced.{Reduced}
use Rattle.lower_leases.specs.declared.homes.Housing.{Housing}
use Rattle.lower_leases.specs.declared.standings.Finding.{Finding}

module _ (nodes : List Node) (d : ℕ) (found : List Standing) where
  -- what is found of a part of which the rest is still to be gone through
  abbrev pub expr_left : Option ℕ → List Standing
  expr_left None = found
  expr_left (Some k) = expr_standings d (expr_at nodes k) found

  abbrev pub composite_left : Option ℕ → List Standing
  composite_left None = found
  composite_left (Some k) = composite_standings d (composite_at nodes k) found

  abbrev pub stmt_left : Option ℕ → List Standing
  stmt_left None = found
  stmt_left (Some k) = stmt_standings d (stmt_at nodes k) found

-- what is found of a reduction, by the numbers of its parts
abbrev pub reduced : List Node → ℕ → Option ℕ → Reduced → List Standing → List Standing
reduced nodes d site r found = expr_standings (depth_in d site) (expr_at nodes r.value) (iteration_standings d (depth_in d site) (iteration_at nodes r.iteration) (chunk_standings d (chunk_at nodes r.chunk) (expr_standings d (expr_at nodes r.initial) (with_site d site (goes_through_range (iteration_at nodes r.iteration)) found))))

abbrev pub homes_left : Program → List Node → (d n : ℕ) → List Home → Option ℕ → List Home
homes_left program nodes d n found None = found
homes_left program nodes d n found (Some k) = stmt_homes program d n (stmt_at nodes k) found

-- the rest stands before a number
abbrev pub IsBelow : ℕ → Option ℕ → Type 0
IsBelow id rest = IfSome rest (λ k. k < id)

-- the rest stands at a number or before it
abbrev pub IsWithin : ℕ → Option ℕ → Type 0
IsWithin id rest = IfSome rest (λ k. k ≤ id)

-- how far a loop over rests may still go
abbrev pub rest_size : Option ℕ → ℕ
rest_size None = 0
rest_size (Some k) = suc k

-- if all had room, what was found before had room, and this is what is found now
abbrev pub Finds : List Standing → Finding → Finding → Type 0
Finds found before after = IsTrue after.whole → IsTrue before.whole × (after.found ≡ found)

-- if all had room, all is as it was, and this is the number
abbrev pub Learns : ℕ → Finding → ℕ → Finding → Type 0
Learns n before result after = IsTrue after.whole → IsTrue before.whole × ((after.found ≡ before.found) × (result ≡ n))

-- the same of homes
abbrev pub Houses : List Home → Housing → Housing → Type 0
Houses found before after = IsTrue after.whole → IsTrue before.whole × (after.found ≡ found)

abbrev pub Counts : ℕ → Housing → ℕ → Housing → Type 0
Counts n before result after = IsTrue after.whole → IsTrue before.whole × ((after.found ≡ before.found) × (result ≡ n))
