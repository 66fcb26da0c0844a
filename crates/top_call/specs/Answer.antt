-- The answers of the top call: what is put to out and to err, which devices failed, and the status.
use Rattle.std.specs.Prelude.{◌≡◌, ◌⊎◌, ⊤, ℕ, List, [], Bool, true, false, length, Option, Some, None, option_map, IfSome}
use Rattle.ada_meaning.specs.Programs.{Setting}
use Rattle.ada_port.specs.Ports.{Texts, Stream, Grows, GrowsByPrefix, Breaks, IsTold, Rose, bytes_of, fetched}
use Rattle.driver.specs.Coded.{HasCode, StandsFor}
use Rattle.driver.specs.Compile.{IsAccepted, IsFaultOf}
use Rattle.driver.specs.Compiled.{Compiled}
use Rattle.driver.specs.Complaints.{Complaint}
use Rattle.driver.specs.Lines.{line_of, IsLineOf}
use Rattle.driver.specs.declared.refusal.Refusal.{Refusal}
use Rattle.driver.specs.declared.refusal.Refusal.TheVariants as refusal
use Rattle.driver.specs.Running.{Runs, by_workers}
use Rattle.run_reports.specs.Ends.{values_of}
use Rattle.run_reports.specs.declared.ends.RunEnd.{RunEnd}
use Rattle.run_reports.specs.declared.ends.RunEnd.TheVariants as run_end
use Rattle.command_words.specs.Words.{Asked, Settings, asked}
use Rattle.command_words.specs.declared.request.Mode.{Mode}
use Rattle.command_words.specs.declared.request.Mode.TheVariants as mode
use Rattle.top_call.specs.Soak.{soak_lines, soak_text}
use Rattle.run_reports.specs.Lines.{ended, usage_line, unreadable_line, accepted_line, read_fault_line, write_fault_line, spent_line, unhandled_line}
use Rattle.run_reports.specs.Says.{Says, SaysNoMemory, SaysOrLacks}
use Rattle.run_reports.specs.Vars.{vars_lines}
use Rattle.stack_code.specs.Listing.{listing_of}
use Rattle.stack_code.specs.declared.code.Code.{Code}
use Rattle.run_reports.specs.declared.status.Status.{Status}
use Rattle.run_reports.specs.declared.status.Status.TheVariants as status

-- the devices around a call, as they are before it or after it
pub record Devices : Type 0 where
  pub input : Stream
  pub out : Stream
  pub err : Stream

abbrev pub devices : Stream → Stream → Stream → Devices
devices input out err = record { input = input; out = out; err = err }

pub record Outside : Type 0 where
  pub shelf : Texts
  pub devices : Devices

abbrev pub outside : Texts → Stream → Stream → Stream → Outside
outside shelf input out err = record { shelf = shelf; devices = devices input out err }

-- The work ends with these bytes on out: all of them, or a put failed, or memory ran out after some.
pub data Closes (bytes : List ℕ) (given : Status) (out out' err err' : Stream) : Type 0 where
  Whole : given ≡ status.Done → Grows out out' bytes → err' ≡ err → Closes bytes given out out' err err'
  OutFailed : Breaks out out' bytes → Says status.WriteFault write_fault_line given err err' → Closes bytes given out out' err err'
  Lacked : GrowsByPrefix out out' bytes → SaysNoMemory given err err' → Closes bytes given out out' err err'

-- the same, where memory may run out before anything is put
abbrev pub ClosesOrLacks : List ℕ → Status → Stream → Stream → Stream → Stream → Type 0
ClosesOrLacks bytes given out out' err err' = Closes bytes given out out' err err' ⊎ ((out' ≡ out) × SaysNoMemory given err err')

-- how a run ended, where out is as the run left it; its variables are written where they are asked for
abbrev pub EndsBy : Compiled → Bool → RunEnd → Status → Stream → Stream → Stream → Stream → Type 0
EndsBy c true (run_end.Ended finals) given out out' err err' = Closes (vars_lines c.finals (values_of c.program finals)) given out out' err err'
EndsBy c false (run_end.Ended finals) given out out' err err' = (given ≡ status.Done) × (out' ≡ out) × (err' ≡ err)
EndsBy c vars (run_end.Raised why) given out out' err err' = (out' ≡ out) × SaysOrLacks status.Raised (unhandled_line c.exceptions why) given err err'
EndsBy c vars (run_end.TurnsSpent turns) given out out' err err' = (out' ≡ out) × SaysOrLacks status.Spent (spent_line turns) given err err'
EndsBy c vars run_end.ReadFault given out out' err err' = (out' ≡ out) × Says status.ReadFault read_fault_line given err err'
EndsBy c vars run_end.WriteFault given out out' err err' = (out' ≡ out) × Says status.WriteFault write_fault_line given err err'
EndsBy c vars run_end.NoMemory given out out' err err' = (out' ≡ out) × SaysNoMemory given err err'

-- the setting of a run that is asked for
abbrev pub setting_for : Settings → Setting
setting_for s = by_workers s.plan s.workers s.turns

-- A unit was run under a setting, and its end was told. Where out tells what it holds, so did it as the run left it, before
-- lines of variables.
pub record RunsUnit (InTells OutTells : Type 0) (c : Compiled) (settings : Settings) (vars : Bool) (given : Status) (before now : Devices) : Type 0 where
  pub end : RunEnd
  pub left : Stream
  pub tells : OutTells → IsTold left
  pub runs : Runs InTells OutTells c.program (setting_for settings) end before.input now.input before.out left
  pub ends : EndsBy c vars end given left now.out before.err now.err

-- How a soak ended: after a normal end its lines are put out, and else nothing. What holds its output fails for want of
-- memory alone.
abbrev pub EndsSoak : Compiled → List ℕ → RunEnd → Status → Stream → Stream → Stream → Stream → Type 0
EndsSoak c lines (run_end.Ended finals) given out out' err err' = ClosesOrLacks lines given out out' err err'
EndsSoak c lines run_end.WriteFault given out out' err err' = (out' ≡ out) × SaysNoMemory given err err'
EndsSoak c lines end given out out' err err' = EndsBy c false end given out out' err err'

-- memory that holds output, before there is some
abbrev pub unwritten : Stream
unwritten = record { told = Some []; faults = 0 }

-- The unit of a soak's text was run under a setting, while memory held its output, and its end was told. Where out tells what it
-- holds, so did it before.
pub record RunsSoak (InTells OutTells : Type 0) (c : Compiled) (settings : Settings) (statements : ℕ) (text : List ℕ) (given : Status) (before now : Devices) : Type 0 where
  pub end : RunEnd
  pub held : Stream
  pub tells : OutTells → IsTold before.out
  pub runs : Runs InTells ⊤ c.program (setting_for settings) end before.input now.input unwritten held
  pub ends : EndsSoak c (soak_lines statements (length text) (bytes_of held)) end given before.out now.out before.err now.err

-- a text is fetched in each mode but a soak, of which it is stated
abbrev pub Fetches : Mode → Type 0
Fetches (mode.Soak n) = ⊥
Fetches m = ⊤

abbrev pub text_by : Mode → Option (List ℕ) → Option (List ℕ)
text_by (mode.Soak n) told = Some (soak_text n)
text_by m told = option_map fetched told

-- the text that is asked for, where the shelf tells it
abbrev pub text_of : Asked → Texts → Option (List ℕ)
text_of q shelf = text_by q.mode (shelf.told q.file)

-- the text that was fetched, of what is told
abbrev pub IsFetched : Option (List ℕ) → List ℕ → Type 0
IsFetched told text = IfSome told (λ whole. text ≡ fetched whole)

-- nothing was asked of the input, and nothing was put to out
pub record Untouched (before now : Devices) : Type 0 where
  pub input : now.input ≡ before.input
  pub out : now.out ≡ before.out

-- what is done in each mode, and of words and texts that are wrong, with the status that is given

abbrev pub ChecksSo : Devices → Devices → Status → Type 0
ChecksSo before now given = (now.input ≡ before.input) × Closes accepted_line given before.out now.out before.err now.err

-- the listing is put of code that stands for the program, and whose parallel constructs lend what their threads may write
abbrev pub ListsSo : Compiled → Devices → Devices → Status → Type 0
ListsSo c before now given = (now.input ≡ before.input) × ((code : Code) × HasCode c.program code × StandsFor c.program code × Closes (listing_of code) given before.out now.out before.err now.err)

abbrev pub RunsSo : (InTells OutTells : Type 0) → Asked → Compiled → Devices → Devices → Status → Type 0
RunsSo InTells OutTells q c before now given = RunsUnit InTells OutTells c q.settings q.vars given before now

abbrev pub SoaksSo : (InTells OutTells : Type 0) → Asked → (statements : ℕ) → (text : List ℕ) → Compiled → Devices → Devices → Status → Type 0
SoaksSo InTells OutTells q n text c before now given = RunsSoak InTells OutTells c q.settings n text given before now

abbrev pub RefusesSo : Asked → Complaint → Devices → Devices → Status → Type 0
RefusesSo q fault before now given = Untouched before now × SaysOrLacks status.Refused (ended (line_of q.file fault)) given before.err now.err

abbrev pub UsageSo : Devices → Devices → Status → Type 0
UsageSo before now given = Untouched before now × Says status.Usage usage_line given before.err now.err

-- what becomes of a text
pub data AnswersText (InTells OutTells : Type 0) (q : Asked) (text : List ℕ) (given : Status) (before now : Devices) : Type 0 where
  Refuses : (fault : Complaint) → IsFaultOf text fault → RefusesSo q fault before now given → AnswersText InTells OutTells q text given before now
  Checks : (c : Compiled) → IsAccepted text c → q.mode ≡ mode.Check → ChecksSo before now given → AnswersText InTells OutTells q text given before now
  Lists : (c : Compiled) → IsAccepted text c → q.mode ≡ mode.List → ListsSo c before now given → AnswersText InTells OutTells q text given before now
  Starts : (c : Compiled) → IsAccepted text c → q.mode ≡ mode.Run → RunsSo InTells OutTells q c before now given → AnswersText InTells OutTells q text given before now
  Soaks : (c : Compiled) → IsAccepted text c → (n : ℕ) → q.mode ≡ mode.Soak n → SoaksSo InTells OutTells q n text c before now given → AnswersText InTells OutTells q text given before now
  Lacks : Untouched before now → SaysNoMemory given before.err now.err → AnswersText InTells OutTells q text given before now

-- what becomes of a file, what is asked of it, and its text; where memory runs out before the text is there, nothing does
pub data AnswersFile (InTells OutTells : Type 0) (q : Asked) (given : Status) (before now : Outside) : Type 0 where
  Unread : Rose before.shelf now.shelf → Untouched before.devices now.devices
      → SaysOrLacks status.ShelfFault (unreadable_line q.file) given before.devices.err now.devices.err → AnswersFile InTells OutTells q given before now
  Read : (text : List ℕ) → IsFetched (before.shelf.told q.file) text → now.shelf.faults ≡ before.shelf.faults
      → AnswersText InTells OutTells q text given before.devices now.devices → AnswersFile InTells OutTells q given before now
  Short : now.shelf.faults ≡ before.shelf.faults → Untouched before.devices now.devices → SaysNoMemory given before.devices.err now.devices.err
      → AnswersFile InTells OutTells q given before now

-- what becomes of the words; where memory runs out before they are read, nothing does
pub data Answers (InTells OutTells : Type 0) (words : List (List ℕ)) (given : Status) (before now : Outside) : Type 0 where
  Wrong : asked words ≡ None → now.shelf ≡ before.shelf → Untouched before.devices now.devices → Says status.Usage usage_line given before.devices.err now.devices.err
      → Answers InTells OutTells words given before now
  Right : (q : Asked) → asked words ≡ Some q → Fetches q.mode → AnswersFile InTells OutTells q given before now → Answers InTells OutTells words given before now
  Stated : (q : Asked) → asked words ≡ Some q → (n : ℕ) → q.mode ≡ mode.Soak n → now.shelf ≡ before.shelf
      → AnswersText InTells OutTells q (soak_text n) given before.devices now.devices → Answers InTells OutTells words given before now
  Unasked : now.shelf ≡ before.shelf → Untouched before.devices now.devices → SaysNoMemory given before.devices.err now.devices.err → Answers InTells OutTells words given before now

-- the line on err for a refusal of the text in a file
abbrev pub IsRefusedLine : List ℕ → List ℕ → Refusal → List ℕ → Type 0
IsRefusedLine file text why whole = (line : List ℕ) × IsLineOf file text why line × (whole ≡ ended line)

abbrev pub SaysRefusal : List ℕ → List ℕ → Refusal → Status → Stream → Stream → Type 0
SaysRefusal file text refusal.OutOfMemory given old new = SaysNoMemory given old new
SaysRefusal file text (refusal.Refused code at other note) given old new =
    ((line : List ℕ) × IsRefusedLine file text (refusal.Refused code at other note) line × Says status.Refused line given old new)
    ⊎ SaysNoMemory given old new
