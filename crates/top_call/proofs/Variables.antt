-- What is put out where the values of variables are asked for.
use Rattle.std.proofs.Common.{◌≡◌, ℕ, List, [], ◌++◌, Option, Some, None, true, inl, inr, refl, sym, ap, subst, ◌∙◌, append_assoc, arith, true≢false}
use Rattle.std.proofs.lemmas.List.{append-nil}
use Rattle.std.specs.Io.KnownBytes.{Appends}
use Rattle.std.specs.Prelude.{IsSome}
use Rattle.ada_meaning.specs.Law.{EndsItself, IsPrefix, Outcome}
use Rattle.ada_meaning.specs.Programs.{input_of, sequential}
use Rattle.ada_meaning.specs.Sequential.{IsCalm}
use Rattle.ada_port.specs.Ports.{AppendsPrefix, IsTold, Stream, bytes_of, bytes_told}
use Rattle.driver.specs.Compiled.{Compiled}
use Rattle.driver.specs.Running as running
use Rattle.run_reports.specs.Ends.{values_of}
use Rattle.run_reports.specs.Says.{Says, SaysNoMemory, SaysOrLacks}
use Rattle.run_reports.specs.Vars.{vars_lines}
use Rattle.run_reports.specs.declared.ends.Finals.{Finals}
use Rattle.run_reports.specs.declared.ends.RunEnd.{RunEnd}
use Rattle.run_reports.specs.declared.ends.RunEnd.TheVariants as run_end
use Rattle.run_reports.specs.declared.status.Status.{Status}
use Rattle.run_reports.specs.declared.status.Status.TheVariants as status
use Rattle.command_words.specs.Words.{Asked}
use Rattle.top_call.specs.Answer.{Closes, Devices, EndsBy, Lacked, OutFailed, Outside, RunsSo, Untouched, Whole, setting_for}
use Rattle.top_call.specs.Causes.{ErrFails, MemoryFails, Meets, PutsVars, PutsVarsPrefix, ShelfFails, sequential_of, with_vars}
use Rattle.top_call.proofs.Causes.{same_status}

-- ---- bytes of what tells

pub appended : (old new : Option (List ℕ)) (bytes : List ℕ) → IsSome old → Appends old new bytes → bytes_told new ≡ bytes_told old ++ bytes
appended None new bytes h g = absurd (true≢false (sym h))
appended (Some xs) None bytes h g = absurd g
appended (Some xs) (Some ys) bytes h g = g

-- all of the bytes, or those before a fault or want of memory
front_of : (bytes : List ℕ) (given : Status) (o o' e e' : Stream) → Closes bytes given o o' e e' → AppendsPrefix o.told o'.told bytes
front_of bytes given o o' e e' (Whole is grown same) = (bytes, [], sym (append-nil bytes), grown.told)
front_of bytes given o o' e e' (OutFailed broke says) = broke.told
front_of bytes given o o' e e' (Lacked front says) = front.told

prefix_longer : (part whole more : List ℕ) → IsPrefix part whole → IsPrefix part (whole ++ more)
prefix_longer part whole more (rest, e) = (rest ++ more, ap (λ z. z ++ more) e ∙ append_assoc part rest more)

-- ---- no status but that of a normal end

fault_done : status.WriteFault ≡ status.Done → ⊥
fault_done e = absurd cc

never : (due given : Status) (line : List ℕ) (old new : Stream) → (due ≡ status.Done → ⊥) → given ≡ status.Done → Says due line given old new → ⊥
never due given line old new other done (inl (is, grown)) = other (sym is ∙ done)
never due given line old new other done (inr (is, broke)) = fault_done (sym is ∙ done)

lacks_done : (given : Status) (old new : Stream) → given ≡ status.Done → SaysNoMemory given old new → ⊥
lacks_done given old new done says = never status.OutOfMemory given _ old new (λ e. absurd cc) done says

never_either : (due given : Status) (line : List ℕ) (old new : Stream) → (due ≡ status.Done → ⊥) → given ≡ status.Done → SaysOrLacks due line given old new → ⊥
never_either due given line old new other done (inl says) = never due given line old new other done says
never_either due given line old new other done (inr lacks) = lacks_done given old new done lacks

module _ (InTells OutTells : Type 0) (q : Asked) (c : Compiled) (given : Status) (before now : Devices) (left : Stream) (tells : OutTells → IsTold left) where
  abbrev Ran : RunEnd → Type 0
  Ran end = running.Runs InTells OutTells c.program (setting_for q.settings) end before.input now.input before.out left

  abbrev Ends : RunEnd → Type 0
  Ends end = EndsBy c true end given left now.out before.err now.err

  ended : (end : RunEnd) → given ≡ status.Done → Ran end → Ends end → PutsVars InTells OutTells q c before now
  ended (run_end.Ended finals) done runs (Whole is grown same) =
      let run = runs.run in
      let lines = vars_lines c.finals (values_of c.program finals) in
      record {
        on = runs.on;
        told = runs.told;
        outcome = run.outcome;
        early = run.early;
        permitted = run.permitted;
        ended = run.ends.0;
        written = λ out.
            appended left.told now.out.told lines (tells out) grown.told
            ∙ ap (λ z. z ++ lines) (run.output out)
            ∙ append_assoc (bytes_of before.out) run.outcome.output lines
            ∙ ap (λ vs. bytes_of before.out ++ (run.outcome.output ++ vars_lines c.finals vs)) (sym run.ends.1);
        only = λ settled. run.only settled (subst EndsItself (sym run.ends.0) tt);
        calm = λ calm. run.calm calm (subst EndsItself (sym run.ends.0) tt);
      }
  ended (run_end.Ended finals) done runs (OutFailed broke says) = absurd (never status.WriteFault given _ before.err now.err fault_done done says)
  ended (run_end.Ended finals) done runs (Lacked front says) = absurd (lacks_done given before.err now.err done says)
  ended (run_end.Raised why) done runs ends = absurd (never_either status.Raised given _ before.err now.err (λ e. absurd cc) done ends.1)
  ended (run_end.TurnsSpent turns) done runs ends = absurd (never_either status.Spent given _ before.err now.err (λ e. absurd cc) done ends.1)
  ended run_end.ReadFault done runs ends = absurd (never status.ReadFault given _ before.err now.err (λ e. absurd cc) done ends.1)
  ended run_end.WriteFault done runs ends = absurd (never status.WriteFault given _ before.err now.err fault_done done ends.1)
  ended run_end.NoMemory done runs ends = absurd (lacks_done given before.err now.err done ends.1)

  -- ---- a prefix, however the run ends

  module _ (input : InTells) (out : OutTells) (calm : IsCalm (sequential c.program q.settings.turns (input_of (bytes_of before.input)))) where
    abbrev due : Outcome
    due = sequential_of q c (bytes_of before.input)

    abbrev Put : Type 0
    Put = (part : List ℕ) × (bytes_of now.out ≡ bytes_of before.out ++ part) × IsPrefix part (with_vars c due)

    abbrev Told : RunEnd → Type 0
    Told end = running.TellsOf InTells OutTells c.program (setting_for q.settings) end (bytes_of before.input) (bytes_of now.input) (bytes_of before.out) (bytes_of left)

    told_of : (end : RunEnd) → Ran end → Told end
    told_of end runs = subst (λ z. running.TellsOf InTells OutTells c.program (setting_for q.settings) end z (bytes_of now.input) (bytes_of before.out) (bytes_of left)) (runs.told input) runs.run

    -- nothing behind the run
    short : (end : RunEnd) → now.out ≡ left → Told end → Put
    short end same run = (
      run.outcome.output,
      ap bytes_of same ∙ run.output out,
      prefix_longer run.outcome.output due.output (vars_lines c.finals due.finals) (run.prefix calm),
    )

    lines_behind : (finals : Finals) → Told (run_end.Ended finals) → AppendsPrefix left.told now.out.told (vars_lines c.finals (values_of c.program finals)) → Put
    lines_behind finals run (front, back, parts, grown) =
        let output = run.outcome.output in
        let same : run.outcome ≡ due = run.calm calm (subst EndsItself (sym run.ends.0) tt) in
        let lines : vars_lines c.finals run.outcome.finals ≡ front ++ back = ap (vars_lines c.finals) run.ends.1 ∙ parts in (
          output ++ front,
          appended left.told now.out.told front (tells out) grown ∙ ap (λ z. z ++ front) (run.output out) ∙ append_assoc (bytes_of before.out) output front,
          (back, ap (with_vars c) (sym same) ∙ ap (λ z. output ++ z) lines ∙ sym (append_assoc output front back)),
        )

    puts_front : (end : RunEnd) → Ran end → Ends end → Put
    puts_front (run_end.Ended finals) runs closes = lines_behind finals (told_of (run_end.Ended finals) runs) (front_of _ given left now.out before.err now.err closes)
    puts_front (run_end.Raised why) runs ends = short (run_end.Raised why) ends.0 (told_of (run_end.Raised why) runs)
    puts_front (run_end.TurnsSpent turns) runs ends = short (run_end.TurnsSpent turns) ends.0 (told_of (run_end.TurnsSpent turns) runs)
    puts_front run_end.ReadFault runs ends = short run_end.ReadFault ends.0 (told_of run_end.ReadFault runs)
    puts_front run_end.WriteFault runs ends = short run_end.WriteFault ends.0 (told_of run_end.WriteFault runs)
    puts_front run_end.NoMemory runs ends = short run_end.NoMemory ends.0 (told_of run_end.NoMemory runs)

-- ---- of a call

module _ (InTells OutTells : Type 0) (q : Asked) (c : Compiled) (number : ℕ) (before now : Outside) (asked_for : q.vars ≡ true) where
  ends_of : (given : Status) (unit : RunsSo InTells OutTells q c before.devices now.devices given) → EndsBy c true unit.end given unit.left now.devices.out before.devices.err now.devices.err
  ends_of given unit = subst (λ vars. EndsBy c vars unit.end given unit.left now.devices.out before.devices.err now.devices.err) asked_for unit.ends

  pub meets_vars : number ≡ 0 → Meets (RunsSo InTells OutTells q c) number before now → PutsVars InTells OutTells q c before.devices now.devices
  meets_vars zero (inl (given, is, unit)) = ended InTells OutTells q c given before.devices now.devices unit.left unit.tells unit.end (same_status given status.Done (sym is ∙ zero)) unit.runs (ends_of given unit)
  meets_vars zero (inr (ShelfFails is rose same)) = absurd (omega (arith, is, zero))
  meets_vars zero (inr (ErrFails is rose same)) = absurd (omega (arith, is, zero))
  meets_vars zero (inr (MemoryFails is same)) = absurd (omega (arith, is, zero))

  nothing_puts : Untouched before.devices now.devices → PutsVarsPrefix InTells OutTells q c before.devices now.devices
  nothing_puts same input out calm = ([], ap bytes_of same.out ∙ sym (append-nil (bytes_of before.devices.out)), (with_vars c (sequential_of q c (bytes_of before.devices.input)), refl))

  pub meets_prefix : Meets (RunsSo InTells OutTells q c) number before now → PutsVarsPrefix InTells OutTells q c before.devices now.devices
  meets_prefix (inl (given, is, unit)) = λ input out calm. puts_front InTells OutTells q c given before.devices now.devices unit.left unit.tells input out calm unit.end unit.runs (ends_of given unit)
  meets_prefix (inr (ShelfFails is rose same)) = nothing_puts same
  meets_prefix (inr (ErrFails is rose same)) = nothing_puts same
  meets_prefix (inr (MemoryFails is same)) = nothing_puts same
