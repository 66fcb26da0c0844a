use Rattle.std.proofs.Common.{◌≡◌, ◌++◌, drop, string_bytes}
use Rattle.stack_code.specs.Listing.{spaced}
use Rattle.code_listing.proofs.lines.put_numbers.Given as goal

abbrev pub invariant-loop-at : goal.invariant-loop-at
invariant-loop-at l = string_bytes l.text ++ spaced (drop l.at l.numbers) ≡ string_bytes l.initial.text ++ spaced l.numbers
