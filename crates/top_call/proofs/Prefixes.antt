-- What a run put out is a prefix of what a calm sequential run puts out.
use Rattle.std.proofs.Common.{◌≡◌, ℕ, [], false, inl, inr, refl, sym, ap, subst, ◌∙◌}
use Rattle.std.proofs.lemmas.List.{append-nil}
use Rattle.ada_meaning.specs.Law.{IsPrefix}
use Rattle.ada_meaning.specs.Programs.{input_of, sequential}
use Rattle.ada_meaning.specs.Sequential.{IsCalm}
use Rattle.ada_port.specs.Ports.{Stream, bytes_of}
use Rattle.driver.specs.Compiled.{Compiled}
use Rattle.run_reports.specs.declared.ends.RunEnd.{RunEnd}
use Rattle.run_reports.specs.declared.ends.RunEnd.TheVariants as run_end
use Rattle.run_reports.specs.declared.status.Status.{Status}
use Rattle.command_words.specs.Words.{Asked}
use Rattle.top_call.specs.Answer.{Devices, EndsBy, Outside, RunsSo, RunsUnit, Untouched}
use Rattle.top_call.specs.Causes.{ErrFails, MemoryFails, Meets, PutsPrefix, ShelfFails}

-- where no variables are asked for nothing is put out behind the run
as_left : (c : Compiled) (end : RunEnd) (given : Status) (left now err err' : Stream) → EndsBy c false end given left now err err' → now ≡ left
as_left c (run_end.Ended finals) given left now err err' ends = ends.1
as_left c (run_end.Raised why) given left now err err' ends = ends.0
as_left c (run_end.TurnsSpent turns) given left now err err' ends = ends.0
as_left c run_end.ReadFault given left now err err' ends = ends.0
as_left c run_end.WriteFault given left now err err' ends = ends.0
as_left c run_end.NoMemory given left now err err' ends = ends.0

module _ {InTells OutTells : Type 0} (q : Asked) (c : Compiled) where
  unit_puts : (given : Status) (before now : Devices) → q.vars ≡ false → RunsUnit InTells OutTells c q.settings q.vars given before now → PutsPrefix InTells OutTells q c before now
  unit_puts given before now none unit input out calm =
      let run = unit.runs.run in
      let ends = subst (λ vars. EndsBy c vars unit.end given unit.left now.out before.err now.err) none unit.ends in
      let left = as_left c unit.end given unit.left now.out before.err now.err ends in (
        run.outcome.output,
        ap bytes_of left ∙ run.output out,
        subst (λ w. IsCalm (sequential c.program q.settings.turns (input_of w)) → IsPrefix run.outcome.output (sequential c.program q.settings.turns (input_of w)).output) (unit.runs.told input) run.prefix calm,
      )

  nothing_puts : (before now : Devices) → Untouched before now → PutsPrefix InTells OutTells q c before now
  nothing_puts before now same input out calm =
      ([], ap bytes_of same.out ∙ sym (append-nil (bytes_of before.out)), ((sequential c.program q.settings.turns (input_of (bytes_of before.input))).output, refl))

  pub meets_puts : (number : ℕ) (before now : Outside) → q.vars ≡ false
      → Meets (RunsSo InTells OutTells q c) number before now → PutsPrefix InTells OutTells q c before.devices now.devices
  meets_puts number before now none (inl (given, is, unit)) = unit_puts given before.devices now.devices none unit
  meets_puts number before now none (inr (ShelfFails is rose same)) = nothing_puts before.devices now.devices same
  meets_puts number before now none (inr (ErrFails is rose same)) = nothing_puts before.devices now.devices same
  meets_puts number before now none (inr (MemoryFails is same)) = nothing_puts before.devices now.devices same
