-- Texts and their names.
use Rattle.std.proofs.Common.{◌≡◌, ◌↔◌, ℕ, Bool, true, false, IsTrue, List, ◌∷◌, map, Option, Some, Result, Ok, Err, IfOk, IfErr, refl, ap, ◌∙◌, string_bytes}
use Rattle.std.specs.Prelude.{Vec}
use Rattle.ada_port.specs.Ports.{Fetches, fetched}
use Rattle.std.specs.Str.{bytes_eq}
use Rattle.ada_port.specs.Shelves.{named_text, one_text, text_of}
use Rattle.ada_port.specs.declared.ports.ShelfFault.{ShelfFault}
use Rattle.ada_port.specs.declared.ports.ShelfFault.TheVariants as fault
use Rattle.ada_port.specs.declared.shelves.ShelfText.{ShelfText}

pub failed≢lacking : fault.Failed ≡ fault.OutOfMemory → ⊥
failed≢lacking e = cc

-- a copy in place of a fetch fails for want of memory alone
pub copied-fails : {V : Type 0} (answer : Result V ShelfFault) (fails : Bool) → IfErr answer (λ f. f ≡ fault.OutOfMemory) → fails ≡ false → (answer ≡ Err fault.Failed) ↔ IsTrue fails
copied-fails (Ok _) fails m f = (λ e. cc, λ e. cc)
copied-fails (Err fault.OutOfMemory) fails m f = (λ e. cc, λ e. cc)
copied-fails (Err fault.Failed) fails m f = (λ e. cc, λ e. cc)

pub copied-fetches : {A : Type 0} (text name : List ℕ) (answer : Result (Vec ℕ A) ShelfFault) → IfOk answer (λ bytes. bytes.items ≡ fetched text) → IfErr answer (λ f. f ≡ fault.OutOfMemory) → Fetches (one_text text) (one_text text) name answer
copied-fetches text name (Ok bytes) e m = record { given = e; told = λ _. refl; faults = refl }
copied-fetches text name (Err fault.OutOfMemory) e m = record { told = λ _. refl; faults = refl }
copied-fetches text name (Err fault.Failed) e m = absurd (failed≢lacking m)

-- the first text of several has the name, or not
pub text-found : (rest others : List ShelfText) (text : ShelfText) (name bytes : List ℕ) (told : Option (List ℕ)) → rest ≡ text ∷ others → bytes_eq (string_bytes text.name) name ≡ true → bytes ≡ text.bytes.items → text_of (map named_text rest) name ≡ told → Some bytes ≡ told
text-found rest others text name bytes told parts same b t = ap Some b ∙ first ∙ t
  where
    first : Some text.bytes.items ≡ text_of (map named_text rest) name
    first = rw (parts, same) refl

pub text-passed : (rest others : List ShelfText) (text : ShelfText) (name : List ℕ) (told : Option (List ℕ)) → rest ≡ text ∷ others → bytes_eq (string_bytes text.name) name ≡ false → text_of (map named_text rest) name ≡ told → text_of (map named_text others) name ≡ told
text-passed rest others text name told parts other t = first ∙ t
  where
    first : text_of (map named_text others) name ≡ text_of (map named_text rest) name
    first = rw (parts, other) refl
