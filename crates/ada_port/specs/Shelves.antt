-- A shelf in memory.
use Rattle.std.specs.Prelude.{ℕ, Bool, List, Option, Some, None, Result, Ok, Err, ◌==◌, ◌||◌, is_none, find, option_map, string_bytes}
use Rattle.std.specs.List.{list_any}
use Rattle.std.specs.Str.{bytes_eq}
use Rattle.ada_port.specs.Counts.{next_count}
use Rattle.ada_port.specs.Ports.{Texts}
use Rattle.ada_port.specs.declared.ports.ShelfFault.{ShelfFault}
use Rattle.ada_port.specs.declared.ports.ShelfFault.TheVariants as fault
use Rattle.ada_port.specs.declared.shelves.ShelfText.{ShelfText}

-- a text and its name
pub record NamedText : Type 0 where
  pub name : List ℕ
  pub bytes : List ℕ

abbrev pub named_text : ShelfText → NamedText
named_text t = record { name = string_bytes t.name; bytes = t.bytes.items }

-- the texts on a shelf, the numbers of the calls that fail, and how many calls were made and failed so far
pub record ShelfState : Type 0 where
  pub texts : List NamedText
  pub fails : List ℕ
  pub calls : ℕ
  pub faults : ℕ

-- the text of a name: of two texts with one name the first counts
abbrev pub text_of : List NamedText → List ℕ → Option (List ℕ)
text_of texts name = option_map (λ t. t.bytes) (find (λ t. bytes_eq t.name name) texts)

-- what is told of a shelf
abbrev pub texts_of : ShelfState → Texts
texts_of s = record { told = text_of s.texts; faults = s.faults }

-- a shelf that has this text for every name, and never fails
abbrev pub one_text : List ℕ → Texts
one_text text = record { told = λ _. Some text; faults = 0 }

-- a shelf that tells of no text, which has failed so often
abbrev pub untold : ℕ → Texts
untold faults = record { told = λ _. None; faults = faults }

-- the count of faults after a fetch: want of memory is none
abbrev pub fetch_counted : {T : Type 0} → Result T ShelfFault → ℕ → ℕ
fetch_counted (Ok _) faults = faults
fetch_counted (Err fault.OutOfMemory) faults = faults
fetch_counted (Err fault.Failed) faults = next_count faults

-- whether a fetch fails: its call is listed, or no text has the name
abbrev pub fetch_fails : ShelfState → List ℕ → Bool
fetch_fails s name = list_any (λ call. call == s.calls) s.fails || is_none (text_of s.texts name)

-- after a fetch: every call counts, and a failed one is a fault; nothing else changes
abbrev pub after_fetch : {T : Type 0} → ShelfState → Result T ShelfFault → ShelfState
after_fetch s (Ok _) = record s { calls = next_count s.calls }
after_fetch s (Err fault.OutOfMemory) = record s { calls = next_count s.calls }
after_fetch s (Err fault.Failed) = record s { calls = next_count s.calls; faults = next_count s.faults }
