-- Lines that are built and sent, and numbers that are read.
use Rattle.std.proofs.Common.{◌≡◌, ℕ, List, [], ◌∷◌, Some, ℤ, pos, negsuc, refl}
use Rattle.std.specs.Fmt.{digits}
use Rattle.ada_base.specs.declared.reason.Reason.TheVariants.{EndError}
use Rattle.stack_code.specs.declared.instr.Instr.{Instr}
use Rattle.stack_code.specs.declared.instr.Instr.TheVariants as i
use Rattle.stack_code.specs.declared.path.Gave.TheVariants.{Nothing, Numbers, Left as WasLeft}
use Rattle.stack_code.specs.declared.path.Leave.TheVariants.{Raise}
use Rattle.stack_code.specs.declared.path.Io.TheVariants.{Write, Take}
use Rattle.stack_code.specs.Machine.{State, Went, Goes, Stops, Asks, step, resumed}
use Rattle.tests_machine.specs.Samples.{code_of, fresh}

abbrev one : Instr → State → Went
one instr s = step 10 (code_of (instr ∷ []) []) s

-- with "x" built already, and 99 below the operands
abbrev built : List ℕ → List ℤ → State
built line st = record (fresh st) { line = line }

words : one (i.Words 0) (built (120 ∷ []) []) ≡ Goes (record (built (120 ∷ 65 ∷ 66 ∷ []) []) { pc = 1 })
words = refl

image : one i.Img (built (120 ∷ []) (negsuc 11 ∷ pos 99 ∷ [])) ≡ Goes (record (built (120 ∷ 45 ∷ 49 ∷ 50 ∷ []) (pos 99 ∷ [])) { pc = 1 })
unfolding digits
image = refl

image_positive : one i.Img (built [] (pos 7 ∷ [])) ≡ Goes (record (built (32 ∷ 55 ∷ []) []) { pc = 1 })
unfolding digits
image_positive = refl

-- numbers of modular types, as they are kept
number_image_least : one i.UImg (built [] (pos 0 ∷ pos 99 ∷ [])) ≡ Goes (record (built (32 ∷ 48 ∷ []) (pos 99 ∷ [])) { pc = 1 })
unfolding digits
number_image_least = refl

number_image_one : one i.UImg (built [] (pos 1 ∷ pos 99 ∷ [])) ≡ Goes (record (built (32 ∷ 49 ∷ []) (pos 99 ∷ [])) { pc = 1 })
unfolding digits
number_image_one = refl

number_image_half : one i.UImg (built [] (pos 9223372036854775807 ∷ pos 99 ∷ [])) ≡ Goes (record (built (32 ∷ 57 ∷ 50 ∷ 50 ∷ 51 ∷ 51 ∷ 55 ∷ 50 ∷ 48 ∷ 51 ∷ 54 ∷ 56 ∷ 53 ∷ 52 ∷ 55 ∷ 55 ∷ 53 ∷ 56 ∷ 48 ∷ 55 ∷ []) (pos 99 ∷ [])) { pc = 1 })
unfolding digits
number_image_half = refl

number_image_above : one i.UImg (built [] (negsuc 9223372036854775807 ∷ pos 99 ∷ [])) ≡ Goes (record (built (32 ∷ 57 ∷ 50 ∷ 50 ∷ 51 ∷ 51 ∷ 55 ∷ 50 ∷ 48 ∷ 51 ∷ 54 ∷ 56 ∷ 53 ∷ 52 ∷ 55 ∷ 55 ∷ 53 ∷ 56 ∷ 48 ∷ 56 ∷ []) (pos 99 ∷ [])) { pc = 1 })
unfolding digits
number_image_above = refl

number_image_greatest : one i.UImg (built [] (negsuc 0 ∷ pos 99 ∷ [])) ≡ Goes (record (built (32 ∷ 49 ∷ 56 ∷ 52 ∷ 52 ∷ 54 ∷ 55 ∷ 52 ∷ 52 ∷ 48 ∷ 55 ∷ 51 ∷ 55 ∷ 48 ∷ 57 ∷ 53 ∷ 53 ∷ 49 ∷ 54 ∷ 49 ∷ 53 ∷ []) (pos 99 ∷ [])) { pc = 1 })
unfolding digits
number_image_greatest = refl

number_image_added : one i.UImg (built (120 ∷ []) (negsuc 0 ∷ [])) ≡ Goes (record (built (120 ∷ 32 ∷ 49 ∷ 56 ∷ 52 ∷ 52 ∷ 54 ∷ 55 ∷ 52 ∷ 52 ∷ 48 ∷ 55 ∷ 51 ∷ 55 ∷ 48 ∷ 57 ∷ 53 ∷ 53 ∷ 49 ∷ 54 ∷ 49 ∷ 53 ∷ []) []) { pc = 1 })
unfolding digits
number_image_added = refl

truth : one i.Bool (built [] (pos 1 ∷ [])) ≡ Goes (record (built (84 ∷ 82 ∷ 85 ∷ 69 ∷ []) []) { pc = 1 })
truth = refl

falsity : one i.Bool (built [] (pos 0 ∷ [])) ≡ Goes (record (built (70 ∷ 65 ∷ 76 ∷ 83 ∷ 69 ∷ []) []) { pc = 1 })
falsity = refl

padded : one (i.Wide 4) (built [] (negsuc 11 ∷ [])) ≡ Goes (record (built (32 ∷ 45 ∷ 49 ∷ 50 ∷ []) []) { pc = 1 })
unfolding digits
padded = refl

too_wide : one (i.Wide 2) (built [] (negsuc 11 ∷ [])) ≡ Goes (record (built (45 ∷ 49 ∷ 50 ∷ []) []) { pc = 1 })
unfolding digits
too_wide = refl

sends : one i.Send (built (65 ∷ []) []) ≡ Stops (Asks (Write (65 ∷ []))) (built [] [])
sends = refl

sends_line : one i.SendLn (built (65 ∷ []) []) ≡ Stops (Asks (Write (65 ∷ 10 ∷ []))) (built [] [])
sends_line = refl

sent : resumed (code_of (i.Send ∷ []) []) Nothing (fresh (pos 99 ∷ [])) ≡ record (fresh (pos 99 ∷ [])) { pc = 1 }
sent = refl

gets : one i.Get (fresh []) ≡ Stops (Asks Take) (fresh [])
gets = refl

got : resumed (code_of (i.Get ∷ []) []) (Numbers (negsuc 4 ∷ [])) (fresh (pos 99 ∷ [])) ≡ record (fresh (negsuc 4 ∷ pos 99 ∷ [])) { pc = 1 }
got = refl

at_end : resumed (code_of (i.Get ∷ []) []) (WasLeft (Raise EndError)) (fresh (pos 99 ∷ [])) ≡ record (fresh (pos 99 ∷ [])) { raising = Some EndError }
at_end = refl
