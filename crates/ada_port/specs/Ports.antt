-- What contracts see of the outside, and what the calls on it do to that.
use Rattle.std.specs.Prelude.{◌≡◌, ℕ, List, [], ◌∷◌, ◌++◌, take, Option, Some, None, IsSome, IfSome, Result, Ok, Err, Vec}
use Rattle.std.specs.Io.KnownBytes.{Appends, Consumes, IsAtEnd}
use Rattle.ada_port.specs.Counts.{Risen}
use Rattle.ada_port.specs.declared.ports.Failed.{Failed}
use Rattle.ada_port.specs.declared.ports.ShelfFault.{ShelfFault}
use Rattle.ada_port.specs.declared.ports.ShelfFault.TheVariants as fault

-- what is told of a device's contents, and how often it has failed, up to the greatest u64
pub record Device (T : Type 0) : Type 0 where
  pub told : T
  pub faults : ℕ

-- a shelf: the text that it has for each name, where it tells
abbrev pub Texts : Type 0
Texts = Device (List ℕ → Option (List ℕ))

-- a source or a sink: the bytes that it has left or holds, where it tells
abbrev pub Stream : Type 0
Stream = Device (Option (List ℕ))

abbrev pub IsTold : Stream → Type 0
IsTold s = IsSome s.told

-- the bytes that are told, none where a stream doesn't tell
abbrev pub bytes_told : Option (List ℕ) → List ℕ
bytes_told None = []
bytes_told (Some bytes) = bytes

abbrev pub bytes_of : Stream → List ℕ
bytes_of s = bytes_told s.told

-- the count of faults rose
abbrev pub Rose : {T : Type 0} → Device T → Device T → Type 0
Rose old new = Risen old.faults new.faults

-- what a shelf gives of a text: all of it, or the first 1,048,577 bytes, one more than a text may have
abbrev pub fetched : List ℕ → List ℕ
fetched text = take 1048577 text

-- a shelf tells the same of each name
abbrev pub SameTexts : Texts → Texts → Type 0
SameTexts old new = (name : List ℕ) → new.told name ≡ old.told name

-- the text of a name was given, as far as a fetch gives it
pub record GivesText (old new : Texts) (name text : List ℕ) : Type 0 where
  pub given : IfSome (old.told name) (λ told. text ≡ fetched told)
  pub told : SameTexts old new
  pub faults : new.faults ≡ old.faults

-- no text was given, since the shelf failed
pub record FailsText (old new : Texts) : Type 0 where
  pub told : SameTexts old new
  pub rose : Rose old new

-- no text was given, for want of memory
pub record LacksMemory (old new : Texts) : Type 0 where
  pub told : SameTexts old new
  pub faults : new.faults ≡ old.faults

abbrev pub Fetches : {A : Type 0} → Texts → Texts → List ℕ → Result (Vec ℕ A) ShelfFault → Type 0
Fetches old new name (Ok text) = GivesText old new name text.items
Fetches old new name (Err fault.Failed) = FailsText old new
Fetches old new name (Err fault.OutOfMemory) = LacksMemory old new

-- A source gave these bytes, one after the other, and no call failed. Where it tells what it has left, that began with
-- them and lost them.
pub record Gives (old new : Stream) (bytes : List ℕ) : Type 0 where
  pub told : Consumes old.told new.told bytes
  pub faults : new.faults ≡ old.faults

-- a source gave these bytes and then told that none is left, and no call failed
pub record GivesAll (old new : Stream) (bytes : List ℕ) : Type 0 where
  pub told : Consumes old.told new.told bytes
  pub none : IsAtEnd new.told
  pub faults : new.faults ≡ old.faults

-- a source gave these bytes, and then it failed
pub record GivesUntil (old new : Stream) (bytes : List ℕ) : Type 0 where
  pub told : Consumes old.told new.told bytes
  pub rose : Rose old new

-- asking a source: the first byte is taken, or none is left; a fault takes nothing
abbrev pub Takes : Stream → Stream → Result (Option ℕ) Failed → Type 0
Takes old new (Ok (Some byte)) = Gives old new (byte ∷ [])
Takes old new (Ok None) = GivesAll old new []
Takes old new (Err _) = GivesUntil old new []

-- the bytes held have a prefix of these behind them, where they are told
abbrev pub AppendsPrefix : Option (List ℕ) → Option (List ℕ) → List ℕ → Type 0
AppendsPrefix old new bytes = (front : List ℕ) × (back : List ℕ) × (bytes ≡ front ++ back) × Appends old new front

-- These bytes were put, one piece after the other, and no put failed. Where the sink tells what it holds, they stand
-- behind that.
pub record Grows (old new : Stream) (bytes : List ℕ) : Type 0 where
  pub told : Appends old.told new.told bytes
  pub faults : new.faults ≡ old.faults

-- a prefix of these bytes was put, and no put failed
pub record GrowsByPrefix (old new : Stream) (bytes : List ℕ) : Type 0 where
  pub told : AppendsPrefix old.told new.told bytes
  pub faults : new.faults ≡ old.faults

-- a prefix of these bytes was put, and then a put failed
pub record Breaks (old new : Stream) (bytes : List ℕ) : Type 0 where
  pub told : AppendsPrefix old.told new.told bytes
  pub rose : Rose old new

-- a put: the piece is appended, or with a fault a prefix of it
abbrev pub Puts : Stream → Stream → List ℕ → Result (Unit {0}) Failed → Type 0
Puts old new piece (Ok _) = Grows old new piece
Puts old new piece (Err _) = Breaks old new piece
