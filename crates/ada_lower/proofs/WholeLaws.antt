-- The laws of whole programs.
use Rattle.std.proofs.Common.{None}
use Rattle.ada_lower.specs.Law.{WholeLaw, ValueLaw, ForwardLaw, ValidLaw, TablesLaw}
use Rattle.ada_lower.specs.FittedForks.{unleased}
use Rattle.ada_lower.proofs.Lent.{not_lending}
use Rattle.ada_lower.proofs.Whole.{whole_does, whole_gives}
use Rattle.ada_lower.proofs.ForwardStatements.{program_forward}
use Rattle.ada_lower.proofs.HeightsPrograms.{valid_code}
use Rattle.ada_lower.proofs.CodeTables.{code_is, tables_are}
use Rattle.ada_lower.proofs.Constructs.{sited_law}
use Rattle.ada_lower.proofs.Counted.{forks_law}

pub whole_law : WholeLaw
whole_law limit cuts within program c globals mains texts text frames slots frame depth low countable input before notes =
    let (h, w, l) = whole_does None unleased limit cuts (not_lending limit cuts unleased) within program c globals mains texts text frames slots frame depth countable low.closed low.same_texts low.code low.named low.subs low.main input before notes tt in
    (h, l)

pub value_law : ValueLaw
value_law limit cuts within program c globals mains texts text frames slots frame depth low countable input before notes e =
    whole_gives None unleased limit cuts (not_lending limit cuts unleased) within program c globals mains texts text frames slots frame depth countable low.closed low.same_texts low.code low.named low.subs low.main input before notes tt e

pub forward_law : ForwardLaw
forward_law program text c is = program_forward program text c is

pub valid_law : ValidLaw
valid_law program text c is tables ready filled = valid_code program text c is tables ready filled

pub tables_law : TablesLaw
tables_law program leases distinct rows nested leased = let sited = sited_law program nested rows in (code_is program leases, tables_are program leases sited (forks_law program sited distinct) leased)
