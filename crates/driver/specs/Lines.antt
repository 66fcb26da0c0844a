-- What is said of a refusal.
use Rattle.std.specs.Prelude.{◌≡◌, ◌⊎◌, ◌<◌, ℕ, List, [], ◌∷◌, ◌++◌, length, codes, decimal, Option, Some, None, slice_get}
use Rattle.ada_base.specs.Tokens.{Tokenized, place_of_token}
use Rattle.ada_base.specs.declared.place.Place.{Place}
use Rattle.ada_base.specs.declared.token.Kind.{Kind}
use Rattle.ada_base.specs.declared.token.Kind.TheVariants as kind
use Rattle.syntax_tree.specs.Words.{words, marks}
use Rattle.driver.specs.Compile.{IsFaultOf, refusal_of}
use Rattle.driver.specs.Complaints.{Complaint}
use Rattle.driver.specs.Notes.{note_text}
use Rattle.driver.specs.declared.note.Note.{Note}
use Rattle.driver.specs.declared.refusal.Refusal.{Refusal}
use Rattle.driver.specs.declared.refusal.Refusal.TheVariants.{Refused, OutOfMemory}

abbrev pub spelled : Option (List ℕ) → List ℕ
spelled None = []
spelled (Some text) = text

-- a kind of token that is left out: the word in lower case, the mark, or the kind of literal
abbrev pub left_out_text : Kind → List ℕ
left_out_text (kind.Word n) = spelled (slice_get words n)
left_out_text (kind.Mark n) = spelled (slice_get marks n)
left_out_text kind.Real = codes "real literal"
left_out_text _ = codes "character literal"

abbrev pub word_text : Option Kind → List ℕ
word_text None = []
word_text (Some kind) = left_out_text kind

-- a place as LINE:COLUMN
abbrev pub other_text : Option Place → List ℕ
other_text None = []
other_text (Some place) = decimal place.line ++ (58 ∷ decimal place.column)

-- FILE:LINE:COLUMN: and the note, with its word or its other place
abbrev pub said_at : List ℕ → Place → Note → List ℕ → Option Place → List ℕ
said_at file at note word other =
    file ++ (58 ∷ (decimal at.line ++ (58 ∷ (decimal at.column ++ (codes ": " ++ (note_text note ++ (word ++ other_text other)))))))

abbrev pub line_of : List ℕ → Complaint → List ℕ
line_of file fault = said_at file fault.at fault.note (word_text fault.left_out) fault.other

-- a refusal of a text has the line of the fault of the text that it tells
abbrev pub IsLineOf : List ℕ → List ℕ → Refusal → List ℕ → Type 0
IsLineOf file text (Refused code at other note) line =
    (fault : Complaint) × IsFaultOf text fault × (Refused code at other note ≡ refusal_of fault) × (line ≡ line_of file fault)
IsLineOf file text OutOfMemory line = line ≡ codes "out of memory"

-- the text has a fault of which this note speaks at this place
abbrev pub HasFaultAt : List ℕ → Note → Place → Type 0
HasFaultAt text note at = (fault : Complaint) × IsFaultOf text fault × (fault.note ≡ note) × (fault.at ≡ at)

-- the word is the one of the fault of the text
abbrev pub IsWordOf : List ℕ → List ℕ → Type 0
IsWordOf text word = (fault : Complaint) → IsFaultOf text fault → word ≡ word_text fault.left_out

-- a place stands before another in a text
abbrev pub Precedes : Place → Place → Type 0
Precedes a b = (a.line < b.line) ⊎ ((a.line ≡ b.line) × (a.column < b.column))

-- each token stands before those after it
abbrev pub StandInOrder : Tokenized → Type 0
StandInOrder t = (a b : ℕ) → a < b → b < length t.items → Precedes (place_of_token t a) (place_of_token t b)
