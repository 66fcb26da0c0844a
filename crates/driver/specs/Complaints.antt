-- What is wrong with a text, and where.
use Rattle.std.specs.Prelude.{ℕ, List, Bool, true, false, Option, Some, None}
use Rattle.ada_base.specs.Place.{place_at}
use Rattle.ada_base.specs.Tokens.{Tokenized, kind_at, place_of_token}
use Rattle.ada_base.specs.declared.place.Place.{Place}
use Rattle.ada_base.specs.declared.token.Kind.{Kind}
use Rattle.syntax_tree.specs.Faults.{LexicalFault}
use Rattle.syntax_tree.specs.Faults.LexicalFault.{TooManyBytes, NoCharacter, NoToken, TooWide, TooManyTokens}
use Rattle.syntax_tree.specs.Parsed.{is_left_out}
use Rattle.driver.specs.declared.note.Note.{Note}
use Rattle.driver.specs.declared.note.Note.TheVariants as note

-- what is said of a fault, its place, the place of the other part of a clash, and the kind of token that is left out
pub record Complaint : Type 0 where
  pub note : Note
  pub at : Place
  pub other : Option Place
  pub left_out : Option Kind

abbrev pub complaint : Note → Place → Complaint
complaint said place = record { note = said; at = place; other = None; left_out = None }

-- the first place of a text
abbrev pub beginning : Place
beginning = record { line = 1; column = 1 }

-- A lexical fault. The place of a byte at which no character begins counts the lines and characters before it; a text
-- with too many bytes is blamed at its beginning.
abbrev pub lexical : List ℕ → LexicalFault → Complaint
lexical text (TooManyBytes bytes) = complaint note.LimitPassed beginning
lexical text (NoCharacter at) = complaint note.NotUtf8 (place_at text at)
lexical text (NoToken place) = complaint note.NoToken place
lexical text (TooWide place) = complaint note.LimitPassed place
lexical text (TooManyTokens count place) = complaint note.LimitPassed place

abbrev pub left_out : Kind → Place → Complaint
left_out kind place = record { note = note.LeftOut; at = place; other = None; left_out = Some kind }

-- a token with which no program goes on, which may be one that the language leaves out
abbrev pub unexpected_kind : Bool → Kind → Place → Complaint
unexpected_kind true kind place = left_out kind place
unexpected_kind false kind place = complaint note.Syntax place

abbrev pub unexpected : Tokenized → ℕ → Complaint
unexpected t token = unexpected_kind (is_left_out (kind_at t.items token)) (kind_at t.items token) (place_of_token t token)

-- a token that stands too deep
abbrev pub too_deep : Tokenized → ℕ → Complaint
too_deep t token = complaint note.LimitPassed (place_of_token t token)

-- the call at a token, which breaks the rule on nonblocking text
abbrev pub blocking_call : Tokenized → ℕ → Complaint
blocking_call t token = complaint note.BlockingCall (place_of_token t token)

-- the name or call at a token, where a parallel construct touches a global variable against the strict rule
abbrev pub global_touched : Tokenized → ℕ → Complaint
global_touched t token = complaint note.GlobalTouched (place_of_token t token)

-- two effects at these tokens, which clash
abbrev pub clash_at : Place → Place → Complaint
clash_at place other = record { note = note.Clash; at = place; other = Some other; left_out = None }

abbrev pub clash : Tokenized → ℕ → ℕ → Complaint
clash t token other = clash_at (place_of_token t token) (place_of_token t other)
