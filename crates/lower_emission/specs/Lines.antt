-- How code is written by hand here: a line for each instruction, with its number and what holds before it.
use Rattle.std.specs.Prelude.{◌≡◌, ℕ, ◌+◌, nat_eq, pos, negsuc, List, [], ◌∷◌, Option, Some, None, Bool, true, false, ◌&&◌, map}
use Rattle.ada_meaning.specs.Rows.{integers, integer, number, stored}
use Rattle.typed_tree.specs.declared.scalars.Scalar.{Scalar}
use Rattle.typed_tree.specs.Syntax.{Subtype, OfScalar, Decls, DeclareVariable, Program}
use Rattle.stack_code.specs.declared.code.Around.{Around}
use Rattle.stack_code.specs.declared.code.Around.TheVariants.{Sub, Site}
use Rattle.stack_code.specs.declared.code.CodeSite.{CodeSite}
use Rattle.stack_code.specs.declared.code.CodeSub.{CodeSub}
use Rattle.stack_code.specs.declared.code.Lease.{Lease}
use Rattle.stack_code.specs.declared.code.Spot.{Spot}
use Rattle.stack_code.specs.declared.code.Unwind.{Unwind}
use Rattle.stack_code.specs.declared.instr.Instr.{Instr}
use Rattle.stack_code.specs.declared.instr.Instr.TheVariants as i
use Rattle.lower_emission.specs.Programs.{code_of}

pub record Line : Type 0 where
  pub number : ℕ
  pub spot : Spot
  pub instr : Instr

-- an instruction in a body, with the operands on its stack and the constructs begun
abbrev line : Around → ℕ → Option ℕ → (number stack : ℕ) → Instr → Line
line b nest held n stack instr = record { number = n; spot = record { body = b; stack = stack; nest = nest; held = held }; instr = instr }

-- of the main procedure
abbrev pub main : (number stack : ℕ) → Instr → Line
main = line (Sub 0) 0 None

-- within a construct that it began
abbrev pub begun : (number stack : ℕ) → Instr → Line
begun = line (Sub 0) 1 None

-- where a handler handles what is raised, given by its number, with so many constructs begun
abbrev pub guarded : (handler begun number stack : ℕ) → Instr → Line
guarded handler begun = line (Sub 0) begun (Some handler)

-- of the threads of the first construct
abbrev pub thread : (number stack : ℕ) → Instr → Line
thread = line (Site 0) 0 None

-- within a construct that they began, and of that one's threads
abbrev pub begun_thread : (number stack : ℕ) → Instr → Line
begun_thread = line (Site 0) 1 None

abbrev pub inner_thread : (number stack : ℕ) → Instr → Line
inner_thread = line (Site 1) 0 None

-- of the first subprogram, and within a construct that it began
abbrev pub within : (number stack : ℕ) → Instr → Line
within = line (Sub 1) 0 None

abbrev pub begun_within : (number stack : ℕ) → Instr → Line
begun_within = line (Sub 1) 1 None

-- the check of an Integer (3.5.4)
abbrev pub fits : Instr
fits = i.Range integer.low integer.high

-- which then goes to a cell of the own frame
abbrev pub integer_to : ℕ → Instr
integer_to n = i.SetL n integer.low integer.high

-- subtype Digit is Integer range 0 .. 9;
abbrev pub digit : Scalar
digit = record { class = integers; low = pos 0; high = pos 9 }

abbrev pub digits : Subtype
digits = OfScalar digit

abbrev pub is_digit : Instr
is_digit = i.Range digit.low digit.high

abbrev pub digit_to : ℕ → Instr
digit_to n = i.SetL n digit.low digit.high

-- subtype Signed is Integer range -9 .. 9;
abbrev pub signed : Scalar
signed = record { class = integers; low = negsuc 8; high = pos 9 }

abbrev pub is_signed : Instr
is_signed = i.Range signed.low signed.high

abbrev pub signed_to : ℕ → Instr
signed_to n = i.SetL n signed.low signed.high

-- an Integer with an initial value
abbrev pub set_to : (object value : ℕ) → Decls → Decls
set_to x v more = DeclareVariable x (stored (number (pos v))) more

-- lines are numbered from one on
abbrev pub is_counted : ℕ → List Line → Bool
is_counted n [] = true
is_counted n (l ∷ ls) = nat_eq l.number n && is_counted (n + 1) ls

-- a subprogram: its entry, its frame, its greatest height; all operands are in cells
abbrev pub procedure : (entry frame stack : ℕ) → CodeSub
procedure entry frame stack = record { entry = entry; frame = frame; stack = stack; takes = 0; gives = false }

abbrev pub function : (entry frame stack : ℕ) → CodeSub
function entry frame stack = record { entry = entry; frame = frame; stack = stack; takes = 0; gives = true }

abbrev pub no_leases : ℕ → List Lease
no_leases site = []

-- what a program's code is, with leases, handlers, constructs, subprograms and texts
abbrev pub IsCode : Program → (ℕ → List Lease) → List Line → List Unwind → List CodeSite → List CodeSub → List (List ℕ) → Type 0
IsCode program leases lines unwind sites subs texts =
    (is_counted 0 lines ≡ true)
    × (code_of program leases ≡ record { instrs = map (λ l. l.instr) lines; spots = map (λ l. l.spot) lines; unwind = unwind; sites = sites; subs = subs; texts = texts })

-- that of one without constructs, handlers, subprograms and texts, with its frame and its greatest height
abbrev pub IsPlain : Program → List Line → (frame stack : ℕ) → Type 0
IsPlain program lines frame stack = IsCode program no_leases lines [] [] (procedure 0 frame stack ∷ []) []
