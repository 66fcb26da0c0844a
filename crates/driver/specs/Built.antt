-- What is wrong with the names and types of a text.
use Rattle.ada_base.specs.Tokens.{Tokenized, place_of_token}
use Rattle.name_rules.specs.declared.log.Fault.{Fault}
use Rattle.name_rules.specs.declared.log.Rule.{Rule}
use Rattle.name_rules.specs.declared.log.Rule.TheVariants as rule
use Rattle.driver.specs.Complaints.{Complaint, complaint}
use Rattle.driver.specs.declared.note.Note.{Note}
use Rattle.driver.specs.declared.note.Note.TheVariants as note

-- what is said of a rule that is broken
abbrev pub note_of : Rule → Note
note_of rule.Unknown = note.UnknownName
note_of rule.Twice = note.DeclaredTwice
note_of rule.NotVisible = note.NotVisible
note_of rule.WrongEnd = note.EndName
note_of rule.PolicyName = note.PolicyName
note_of rule.WrongType = note.WrongType
note_of rule.NotStatic = note.NotStatic
note_of rule.StaticRange = note.StaticRange
note_of rule.ChunkRule = note.ChunkRule
note_of rule.ReduceRule = note.ReductionRule
note_of (rule.Limit bound) = note.LimitPassed

abbrev pub misnamed : Tokenized → Fault → Complaint
misnamed t f = complaint (note_of f.rule) (place_of_token t f.at)
