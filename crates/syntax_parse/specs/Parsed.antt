-- What `parse` returns.
use Rattle.std.specs.Prelude.{◌≡◌, ℕ, List, true, false, Result, Ok, Err}
use Rattle.ada_base.specs.Tokens.{kind_at}
use Rattle.ada_base.specs.declared.token.Token.{Token}
use Rattle.syntax_readers.specs.Verdicts.{RightVerdict}
use Rattle.syntax_readers.specs.declared.failure.Refusal.{Refusal}
use Rattle.syntax_tree.specs.Grammar.{ProgramWords}
use Rattle.syntax_tree.specs.Parsed.{IsParsed, IsSyntaxFault, IsTooDeep, depth_limit, is_left_out}
use Rattle.syntax_tree.specs.Syntax.{Program}
use Rattle.syntax_nodes.specs.Trees.{Table, program_of}
use Rattle.syntax_parse.specs.declared.parser.ParseFault.{ParseFault}
use Rattle.syntax_parse.specs.declared.parser.ParseFault.TheVariants.{LeftOut, Unexpected, TooDeep, OutOfMemory}

-- the answer for a whole list of kinds is right, with a tree that stands for the program
abbrev pub JudgedTree : List ℕ → Result Table Refusal → Type 0
JudgedTree kinds (Ok tree) = RightVerdict depth_limit ProgramWords kinds (Ok (program_of tree))
JudgedTree kinds (Err refusal) = RightVerdict depth_limit ProgramWords kinds (Err refusal)

-- the tree of a text's tokens, or the first fault at a token that the language leaves out or at another, or the first
-- token that stands too deep, unless memory ran out
abbrev pub Parsed : List Token → Result Table ParseFault → Type 0
Parsed items (Ok tree) = IsParsed items (program_of tree)
Parsed items (Err (LeftOut token)) = IsSyntaxFault items token × (is_left_out (kind_at items token) ≡ true)
Parsed items (Err (Unexpected token)) = IsSyntaxFault items token × (is_left_out (kind_at items token) ≡ false)
Parsed items (Err (TooDeep token)) = IsTooDeep items token
Parsed items (Err OutOfMemory) = Unit {0}

-- the result is a tree of this program, unless memory ran out
abbrev pub GivesTree : Result Table ParseFault → Program → Type 0
GivesTree (Ok tree) program = program_of tree ≡ program
GivesTree (Err fault) program = fault ≡ OutOfMemory

-- the result is a first fault at this token, unless memory ran out
abbrev pub GivesFault : Result Table ParseFault → ℕ → Type 0
GivesFault (Ok tree) place = ⊥
GivesFault (Err (LeftOut token)) place = token ≡ place
GivesFault (Err (Unexpected token)) place = token ≡ place
GivesFault (Err (TooDeep token)) place = ⊥
GivesFault (Err OutOfMemory) place = Unit {0}

-- the result is that this token stands too deep, unless memory ran out
abbrev pub GivesTooDeep : Result Table ParseFault → ℕ → Type 0
GivesTooDeep (Ok tree) place = ⊥
GivesTooDeep (Err (LeftOut token)) place = ⊥
GivesTooDeep (Err (Unexpected token)) place = ⊥
GivesTooDeep (Err (TooDeep token)) place = token ≡ place
GivesTooDeep (Err OutOfMemory) place = Unit {0}
