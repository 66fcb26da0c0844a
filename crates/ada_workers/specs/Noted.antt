-- What a note tells.
use Rattle.ada_base.specs.Notes as base
use Rattle.ada_workers.specs.declared.notes.ThreadNote.{ThreadNote}
use Rattle.ada_workers.specs.declared.notes.ThreadNote.TheVariants.{Whole, NotBegun, CutAfter}

abbrev pub told_note : ThreadNote → base.ThreadNote
told_note Whole = base.Whole
told_note NotBegun = base.NotBegun
told_note (CutAfter looks) = base.CutAfter looks
