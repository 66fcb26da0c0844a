use Rattle.std.proofs.Common.{◌≡◌, ◌++◌, drop, string_bytes}
use Rattle.stack_code.specs.Listing.{lines_from, unwind_line}
use Rattle.code_listing.proofs.lines.put_unwinds.Given as goal

abbrev pub invariant-loop-number : goal.invariant-loop-number
invariant-loop-number l = string_bytes l.text ++ lines_from unwind_line l.number (drop l.number l.code.unwind) ≡ string_bytes l.initial.text ++ lines_from unwind_line 0 l.code.unwind
