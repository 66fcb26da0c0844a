-- What a text is compiled to, phase by phase, and the answers of compile.
use Rattle.std.specs.Prelude.{◌≡◌, ◌⊎◌, ⊤, ℕ, true, List, Option, Some, None, Result, Ok, Err}
use Rattle.ada_base.specs.Tokens.{Tokenized}
use Rattle.check_conflicts.specs.Answer.{HasNoClash, IsLeastClash, IsLeastTouched}
use Rattle.check_effects.specs.Conflicts.{IsStrict}
use Rattle.syntax_lexer.specs.Lexed.{AreLexed}
use Rattle.ada_meaning.specs.Nonblocking.{KeepsRule}
use Rattle.check_blocking.specs.Answer.{IsFirst}
use Rattle.syntax_tree.specs.Faults.{LexicalFault, IsFirstFault}
use Rattle.syntax_tree.specs.Parsed.{IsParsed, IsSyntaxFault, IsTooDeep}
use Rattle.syntax_tree.specs.Syntax as syntax
use Rattle.typed_tree.specs.Syntax as typed
use Rattle.name_rules.specs.Resolved.{TypedOf}
use Rattle.name_rules.specs.declared.log.Fault as names
use Rattle.name_programs.specs.Resolving.{IsTold}
use Rattle.name_symbols.specs.Naming.{names_of}
use Rattle.driver.specs.Complaints.{Complaint, lexical, unexpected, too_deep, blocking_call, global_touched, clash}
use Rattle.driver.specs.Built.{misnamed}
use Rattle.driver.specs.Notes.{code_of}
use Rattle.driver.specs.Phases.{Phase, followed}
use Rattle.driver.specs.Compiled.{Compiled, compiled, compiled_of}
use Rattle.driver.specs.declared.unit.Unit.{Unit}
use Rattle.driver.specs.declared.refusal.Refusal.{Refusal}
use Rattle.driver.specs.declared.refusal.Refusal.TheVariants.{Refused, OutOfMemory}

-- from a text to its tokens, within the limits of both; wrong is its first lexical fault (2.2)
abbrev pub lexing : Phase (List ℕ) Tokenized Complaint
lexing = record {
  right = AreLexed;
  wrong = λ text c. (fault : LexicalFault) × IsFirstFault text fault × (c ≡ lexical text fault);
}

-- from tokens to their tree within the limit of depth; wrong is the first fault or the first token that stands too deep,
-- whichever comes first (Annex P)
abbrev pub parsing : Phase Tokenized syntax.Program Complaint
parsing = record {
  right = λ t program. IsParsed t.items program;
  wrong = λ t c. ((token : ℕ) × IsSyntaxFault t.items token × (c ≡ unexpected t token))
      ⊎ ((token : ℕ) × IsTooDeep t.items token × (c ≡ too_deep t token));
}

-- from a tree to its typed program; wrong is the least fault of its names and types (3 to 11)
abbrev pub naming : Tokenized → Phase syntax.Program typed.Program Complaint
naming t = record {
  right = λ tree program. Some program ≡ TypedOf (names_of t tree) tree;
  wrong = λ tree c. (fault : names.Fault) × IsTold (names_of t tree) tree (Some fault) × (c ≡ misnamed t fault);
}

-- from a typed program that keeps the rule on nonblocking text to itself; wrong is the first call that breaks it (9.5)
abbrev pub blocking : Tokenized → Phase typed.Program typed.Program Complaint
blocking t = record {
  right = λ program same. KeepsRule program × (same ≡ program);
  wrong = λ program c. (at callee : ℕ) × IsFirst program at callee × (c ≡ blocking_call t at);
}

-- no effects of the threads of a parallel construct clash, and where the strict rule is asked for no global variable is
-- touched (9.10.1)
abbrev pub AreApart : typed.Program → Type 0
AreApart program = (program.strict ≡ true → IsStrict program) × HasNoClash program

-- from a typed program whose threads are apart to itself; wrong is the least breach of the strict rule, and where that
-- holds or isn't asked for the least clash
abbrev pub separating : Tokenized → Phase typed.Program typed.Program Complaint
separating t = record {
  right = λ program same. AreApart program × (same ≡ program);
  wrong = λ program c. ((program.strict ≡ true) × ((at object : ℕ) × IsLeastTouched program at object × (c ≡ global_touched t at)))
      ⊎ ((program.strict ≡ true → IsStrict program) × ((at other : ℕ) × IsLeastClash program at other × (c ≡ clash t at other)));
}

-- from a typed program to its unit
abbrev pub building : Tokenized → Phase typed.Program Compiled Complaint
building t = record { right = λ program unit. unit ≡ compiled t program; wrong = λ program c. ⊥ }

-- from a typed program, from a tree and from tokens to the unit
abbrev pub from_unblocked : Tokenized → Phase typed.Program Compiled Complaint
from_unblocked t = followed (separating t) (λ program. building t)

abbrev pub from_typed : Tokenized → Phase typed.Program Compiled Complaint
from_typed t = followed (blocking t) (λ program. from_unblocked t)

abbrev pub from_tree : Tokenized → Phase syntax.Program Compiled Complaint
from_tree t = followed (naming t) (λ tree. from_typed t)

abbrev pub from_tokens : Phase Tokenized Compiled Complaint
from_tokens = followed parsing from_tree

abbrev pub compiling : Phase (List ℕ) Compiled Complaint
compiling = followed lexing (λ text. from_tokens)

-- a text that is accepted, with what it is compiled to, and the fault of one that isn't
abbrev pub IsAccepted : List ℕ → Compiled → Type 0
IsAccepted text compiled = compiling.right text compiled

abbrev pub IsFaultOf : List ℕ → Complaint → Type 0
IsFaultOf text fault = compiling.wrong text fault

-- what is told of a fault: all but the kind of a token that is left out, which is found by its place
abbrev pub refusal_of : Complaint → Refusal
refusal_of c = Refused (code_of c.note) c.at c.other c.note

-- what is told of a fault of names and types; without one, that memory ran out
abbrev pub named_refusal : Tokenized → Option names.Fault → Refusal
named_refusal t None = OutOfMemory
named_refusal t (Some fault) = refusal_of (misnamed t fault)

-- a refusal for a fault of what a phase is given, or for want of memory
abbrev pub IsRefusal : {A B : Type 0} → Phase A B Complaint → A → Refusal → Type 0
IsRefusal p a OutOfMemory = ⊤
IsRefusal p a (Refused code at other note) = (c : Complaint) × p.wrong a c × (Refused code at other note ≡ refusal_of c)

-- the answer of a phase: its result, as see has it, or a refusal
abbrev pub Decides : {A B X : Type 0} → Phase A B Complaint → (X → B) → A → Result X Refusal → Type 0
Decides p see a (Ok x) = p.right a (see x)
Decides p see a (Err refusal) = IsRefusal p a refusal

abbrev pub IsRefusalOf : List ℕ → Refusal → Type 0
IsRefusalOf text refusal = IsRefusal compiling text refusal

-- the result is this unit, unless memory ran out
abbrev pub GivesUnit : Result Unit Refusal → Compiled → Type 0
GivesUnit (Ok unit) due = compiled_of unit ≡ due
GivesUnit (Err refusal) due = refusal ≡ OutOfMemory

-- the result is this refusal, unless memory ran out
abbrev pub GivesRefusal : Result Unit Refusal → Refusal → Type 0
GivesRefusal (Ok unit) due = ⊥
GivesRefusal (Err refusal) due = (refusal ≡ OutOfMemory) ⊎ (refusal ≡ due)
