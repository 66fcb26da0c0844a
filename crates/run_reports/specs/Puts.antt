-- What is put in several pieces.
use Rattle.std.specs.Prelude.{◌≡◌, ◌++◌, List, ℕ, Result, Ok, Err}
use Rattle.ada_port.specs.Ports.{Stream, Grows, GrowsByPrefix, Breaks}
use Rattle.run_reports.specs.declared.vars.Unput.{Unput}
use Rattle.run_reports.specs.declared.vars.Unput.TheVariants as unput

-- all of the bytes were put; or a put failed, or memory ran out, after some
abbrev pub Puts : List ℕ → Result (Unit {0}) Unput → Stream → Stream → Type 0
Puts bytes (Ok u) old new = Grows old new bytes
Puts bytes (Err unput.Failed) old new = Breaks old new bytes
Puts bytes (Err unput.OutOfMemory) old new = GrowsByPrefix old new bytes

-- so much of the whole was put, and a rest is still to come
pub record Putting (whole : List ℕ) (old now : Stream) (rest : List ℕ) : Type 0 where
  pub bytes : List ℕ
  pub grown : Grows old now bytes
  pub parts : whole ≡ bytes ++ rest
