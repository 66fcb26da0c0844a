use Rattle.std.proofs.Common.{◌≡◌, ◌++◌, drop, string_bytes}
use Rattle.stack_code.specs.Listing.{lines_from, site_line}
use Rattle.code_listing.proofs.lines.put_sites.Given as goal

abbrev pub invariant-loop-number : goal.invariant-loop-number
invariant-loop-number l = string_bytes l.text ++ lines_from site_line l.number (drop l.number l.code.sites) ≡ string_bytes l.initial.text ++ lines_from site_line 0 l.code.sites
