use Rattle.std.proofs.Common.{◌≡◌, ◌++◌, drop, string_bytes}
use Rattle.stack_code.specs.Listing.{lines_from, instr_line}
use Rattle.code_listing.proofs.lines.put_instrs.Given as goal

abbrev pub invariant-loop-number : goal.invariant-loop-number
invariant-loop-number l = string_bytes l.text ++ lines_from instr_line l.number (drop l.number l.code.instrs) ≡ string_bytes l.initial.text ++ lines_from instr_line 0 l.code.instrs
