-- A program with its code, as the laws of lowering ask.
use Rattle.std.specs.Prelude.{◌≡◌, ℕ, List, Option, Bool, Err}
use Rattle.behaviours.specs.Paths.{Entity}
use Rattle.typed_tree.specs.Syntax.{Program}
use Rattle.ada_base.specs.Notes.{Schedule}
use Rattle.ada_meaning.specs.Programs.{Setting}
use Rattle.ada_meaning.specs.Stored.{NoRoom, noted, noted_outset}
use Rattle.check_effects.specs.Accepted.{IsAccepted}
use Rattle.stack_code.specs.declared.code.Code.{Code}
use Rattle.stack_code.specs.Valid.{Has, IsCountable, IsValid}
use Rattle.ada_lower.specs.Sights.{Named}
use Rattle.ada_lower.specs.Leased.{leased}
use Rattle.ada_lower.specs.Law.{IsLowered, IsLoweredBy}
use Rattle.machine_paths.specs.Hushed.{BeginsLater, IsHushed}

-- with so many slots in its tables no run by notes lacks one
abbrev pub HasRoom : Program → ℕ → Type 0
HasRoom program slots = (set : Setting) (input before : List ℕ) (notes : Schedule) → ((noted program set).does (noted_outset slots input before notes)).end ≡ Err NoRoom → ⊥

-- Code of a program that was accepted, whose main frame has so many cells. What is listed here is to follow from that: the
-- code fits the program, with leases of what threads may write; it is valid, repeats no part too often for numbers of 64 bits, and
-- begins at its first instruction; its threads begin behind their forks, and ask for no input or output.
pub record IsLoaded (program : Program) (c : Code) (frame slots : ℕ) : Type 0 where
  pub accepted : IsAccepted program
  pub globals : ℕ → Entity → Option Named
  pub mains : Entity → Bool
  pub texts : List (List ℕ)
  pub text : List ℕ → ℕ
  pub frames : ℕ → ℕ
  pub depth : ℕ
  pub lowered : IsLowered program c globals mains texts text frames frame depth
  pub leased : IsLoweredBy (leased program) program c globals mains texts text frames frame depth
  pub valid : IsValid c
  pub countable : IsCountable c.instrs
  pub begins : Has c.subs 0 (λ s. s.entry ≡ 0)
  pub later : BeginsLater c
  pub quiet : ℕ → Bool
  pub hushed : IsHushed c quiet
  pub room : HasRoom program slots
