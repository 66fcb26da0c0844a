-- The codes and the texts of notes.
use Rattle.std.specs.Prelude.{ℕ, List, codes}
use Rattle.driver.specs.declared.note.Note.{Note}
use Rattle.driver.specs.declared.note.Note.TheVariants as note

-- the number of a note's kind of fault
abbrev pub code_of : Note → ℕ
code_of note.NotUtf8 = 1
code_of note.NoToken = 2
code_of note.Syntax = 3
code_of note.LeftOut = 4
code_of note.UnknownName = 5
code_of note.DeclaredTwice = 5
code_of note.NotVisible = 5
code_of note.EndName = 5
code_of note.PolicyName = 5
code_of note.WrongType = 6
code_of note.NotStatic = 7
code_of note.StaticRange = 7
code_of note.BlockingCall = 8
code_of note.GlobalTouched = 9
code_of note.Clash = 10
code_of note.ChunkRule = 11
code_of note.ReductionRule = 11
code_of note.LimitPassed = 12

-- the text of a note: in front of the word that is left out, or of the place of the other part of a clash
abbrev pub note_text : Note → List ℕ
note_text note.NotUtf8 = codes "E01 text is not UTF-8"
note_text note.NoToken = codes "E02 no token begins here"
note_text note.Syntax = codes "E03 syntax"
note_text note.LeftOut = codes "E04 left out: "
note_text note.UnknownName = codes "E05 unknown name"
note_text note.DeclaredTwice = codes "E05 declared twice"
note_text note.NotVisible = codes "E05 not visible here"
note_text note.EndName = codes "E05 end name differs"
note_text note.PolicyName = codes "E05 policy name"
note_text note.WrongType = codes "E06 wrong type"
note_text note.NotStatic = codes "E07 not static"
note_text note.StaticRange = codes "E07 static value out of range"
note_text note.BlockingCall = codes "E08 blocking call"
note_text note.GlobalTouched = codes "E09 global variable in a parallel construct"
note_text note.Clash = codes "E10 clash with "
note_text note.ChunkRule = codes "E11 chunk rule"
note_text note.ReductionRule = codes "E11 reduction rule"
note_text note.LimitPassed = codes "E12 limit passed"
