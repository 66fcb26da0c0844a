-- A count that rose gives its status.
use Rattle.std.proofs.Common.{◌≡◌, ◌⊎◌, ◌<◌, ℕ, List, Bool, true, false, ap, inl, inr, ◌∙◌, arith}
use Rattle.std.specs.Prelude.{length}
use Rattle.ada_port.specs.Ports.{Texts, Stream, bytes_of}
use Rattle.driver.specs.Compiled.{Compiled}
use Rattle.driver.specs.Running as running
use Rattle.run_reports.specs.declared.ends.RunEnd.{RunEnd}
use Rattle.run_reports.specs.declared.ends.RunEnd.TheVariants as run_end
use Rattle.command_words.specs.Words.{Asked}
use Rattle.top_call.specs.Answer.{Answers, Wrong, Right, Stated, Unasked, AnswersFile, Unread, Read, Short, AnswersText, Refuses, Checks, Lists, Starts, Soaks, Lacks, Closes, ClosesOrLacks, Whole, OutFailed, Lacked, Devices, EndsBy, EndsSoak, Outside, Untouched, unwritten}
use Rattle.top_call.specs.Causes.{IsNotMadeGood}
use Rattle.top_call.specs.Soak.{soak_lines}
use Rattle.run_reports.specs.Says.{Says, SaysOrLacks, number_of}
use Rattle.run_reports.specs.declared.status.Status.{Status}
use Rattle.run_reports.specs.declared.status.Status.TheVariants as status

-- which status a risen count of faults gives
pub record Counts (given : Status) (before now : Outside) : Type 0 where
  pub out : before.devices.out.faults < now.devices.out.faults → given ≡ status.WriteFault
  pub err : before.devices.err.faults < now.devices.err.faults → given ≡ status.WriteFault
  pub input : before.devices.input.faults < now.devices.input.faults → (given ≡ status.ReadFault) ⊎ (given ≡ status.WriteFault)
  pub shelf : before.shelf.faults < now.shelf.faults → (given ≡ status.ShelfFault) ⊎ (given ≡ status.WriteFault) ⊎ (given ≡ status.OutOfMemory)

no_rise : (a b : ℕ) (P : Type 0) → b ≡ a → a < b → P
no_rise a b P e h = absurd (omega (arith, e, h))

err_says : (due given : Status) (line : List ℕ) (old new : Stream) → Says due line given old new → old.faults < new.faults → given ≡ status.WriteFault
err_says due given line old new (inl (is, grown)) h = no_rise old.faults new.faults (given ≡ status.WriteFault) grown.faults h
err_says due given line old new (inr (is, broke)) h = is

err_lacks : (due given : Status) (line : List ℕ) (old new : Stream) → SaysOrLacks due line given old new → old.faults < new.faults → given ≡ status.WriteFault
err_lacks due given line old new (inl says) h = err_says due given line old new says h
err_lacks due given line old new (inr says) h = err_says status.OutOfMemory given _ old new says h

faults_of : {s t : Stream} → t ≡ s → t.faults ≡ s.faults
faults_of e = ap (λ (x : Stream). x.faults) e

err_closes : (bytes : List ℕ) (given : Status) (o o' e e' : Stream) → Closes bytes given o o' e e' → e.faults < e'.faults → given ≡ status.WriteFault
err_closes bytes given o o' e e' (Whole is grown same) h = no_rise e.faults e'.faults (given ≡ status.WriteFault) (faults_of same) h
err_closes bytes given o o' e e' (OutFailed broke says) h = err_says status.WriteFault given _ e e' says h
err_closes bytes given o o' e e' (Lacked front says) h = err_says status.OutOfMemory given _ e e' says h

failed_says : (given : Status) (line : List ℕ) (old new : Stream) → Says status.WriteFault line given old new → given ≡ status.WriteFault
failed_says given line old new (inl (is, grown)) = is
failed_says given line old new (inr (is, broke)) = is

out_closes : (bytes : List ℕ) (given : Status) (o o' e e' : Stream) → Closes bytes given o o' e e' → o.faults < o'.faults → given ≡ status.WriteFault
out_closes bytes given o o' e e' (Whole is grown same) h = no_rise o.faults o'.faults (given ≡ status.WriteFault) grown.faults h
out_closes bytes given o o' e e' (OutFailed broke says) h = failed_says given _ e e' says
out_closes bytes given o o' e e' (Lacked front says) h = no_rise o.faults o'.faults (given ≡ status.WriteFault) front.faults h

err_closes_or : (bytes : List ℕ) (given : Status) (o o' e e' : Stream) → ClosesOrLacks bytes given o o' e e' → e.faults < e'.faults → given ≡ status.WriteFault
err_closes_or bytes given o o' e e' (inl closes) h = err_closes bytes given o o' e e' closes h
err_closes_or bytes given o o' e e' (inr lacks) h = err_says status.OutOfMemory given _ e e' lacks.1 h

out_closes_or : (bytes : List ℕ) (given : Status) (o o' e e' : Stream) → ClosesOrLacks bytes given o o' e e' → o.faults < o'.faults → given ≡ status.WriteFault
out_closes_or bytes given o o' e e' (inl closes) h = out_closes bytes given o o' e e' closes h
out_closes_or bytes given o o' e e' (inr lacks) h = no_rise o.faults o'.faults (given ≡ status.WriteFault) (faults_of lacks.0) h

-- of a run

module _ (c : Compiled) (given : Status) (before now : Devices) where
  err_run : (vars : Bool) (end : RunEnd) (left : Stream) → EndsBy c vars end given left now.out before.err now.err → before.err.faults < now.err.faults → given ≡ status.WriteFault
  err_run true (run_end.Ended finals) left ends h = err_closes _ given left now.out before.err now.err ends h
  err_run false (run_end.Ended finals) left ends h = no_rise before.err.faults now.err.faults (given ≡ status.WriteFault) (faults_of ends.2) h
  err_run vars (run_end.Raised why) left ends h = err_lacks status.Raised given _ before.err now.err ends.1 h
  err_run vars (run_end.TurnsSpent turns) left ends h = err_lacks status.Spent given _ before.err now.err ends.1 h
  err_run vars run_end.ReadFault left ends h = err_says status.ReadFault given _ before.err now.err ends.1 h
  err_run vars run_end.WriteFault left ends h = err_says status.WriteFault given _ before.err now.err ends.1 h
  err_run vars run_end.NoMemory left ends h = err_says status.OutOfMemory given _ before.err now.err ends.1 h

  same_out : (P : Type 0) (left : Stream) → left.faults ≡ before.out.faults → now.out ≡ left → before.out.faults < now.out.faults → P
  same_out P left e same h = no_rise before.out.faults now.out.faults P (faults_of same ∙ e) h

  out_run : (vars : Bool) (end : RunEnd) (left : Stream) → running.Causes end before.input now.input before.out left → EndsBy c vars end given left now.out before.err now.err → before.out.faults < now.out.faults → given ≡ status.WriteFault
  out_run true (run_end.Ended finals) left causes ends h = out_closes _ given left now.out before.err now.err ends (omega (arith, causes.1, h))
  out_run false (run_end.Ended finals) left causes ends h = same_out (given ≡ status.WriteFault) left causes.1 ends.1 h
  out_run vars (run_end.Raised why) left causes ends h = same_out (given ≡ status.WriteFault) left causes.1 ends.0 h
  out_run vars (run_end.TurnsSpent turns) left causes ends h = same_out (given ≡ status.WriteFault) left causes.1 ends.0 h
  out_run vars run_end.ReadFault left causes ends h = same_out (given ≡ status.WriteFault) left causes.1 ends.0 h
  out_run vars run_end.WriteFault left causes ends h = failed_says given _ before.err now.err ends.1
  out_run vars run_end.NoMemory left causes ends h = same_out (given ≡ status.WriteFault) left causes.1 ends.0 h

  abbrev Read' : Type 0
  Read' = (given ≡ status.ReadFault) ⊎ (given ≡ status.WriteFault)

  read_says : (line : List ℕ) → Says status.ReadFault line given before.err now.err → Read'
  read_says line (inl (is, grown)) = inl is
  read_says line (inr (is, broke)) = inr is

  input_run : (vars : Bool) (end : RunEnd) (left : Stream) → running.Causes end before.input now.input before.out left → EndsBy c vars end given left now.out before.err now.err → before.input.faults < now.input.faults → Read'
  input_run vars (run_end.Ended finals) left causes ends h = no_rise before.input.faults now.input.faults Read' causes.0 h
  input_run vars (run_end.Raised why) left causes ends h = no_rise before.input.faults now.input.faults Read' causes.0 h
  input_run vars (run_end.TurnsSpent turns) left causes ends h = no_rise before.input.faults now.input.faults Read' causes.0 h
  input_run vars run_end.ReadFault left causes ends h = read_says _ ends.1
  input_run vars run_end.WriteFault left causes ends h = no_rise before.input.faults now.input.faults Read' causes.0 h
  input_run vars run_end.NoMemory left causes ends h = no_rise before.input.faults now.input.faults Read' causes.0 h

  -- of a soak, of which memory holds the output

  err_soak : (lines : List ℕ) (end : RunEnd) → EndsSoak c lines end given before.out now.out before.err now.err → before.err.faults < now.err.faults → given ≡ status.WriteFault
  err_soak lines (run_end.Ended finals) ends h = err_closes_or lines given before.out now.out before.err now.err ends h
  err_soak lines (run_end.Raised why) ends h = err_lacks status.Raised given _ before.err now.err ends.1 h
  err_soak lines (run_end.TurnsSpent turns) ends h = err_lacks status.Spent given _ before.err now.err ends.1 h
  err_soak lines run_end.ReadFault ends h = err_says status.ReadFault given _ before.err now.err ends.1 h
  err_soak lines run_end.WriteFault ends h = err_says status.OutOfMemory given _ before.err now.err ends.1 h
  err_soak lines run_end.NoMemory ends h = err_says status.OutOfMemory given _ before.err now.err ends.1 h

  out_soak : (lines : List ℕ) (end : RunEnd) → EndsSoak c lines end given before.out now.out before.err now.err → before.out.faults < now.out.faults → given ≡ status.WriteFault
  out_soak lines (run_end.Ended finals) ends h = out_closes_or lines given before.out now.out before.err now.err ends h
  out_soak lines (run_end.Raised why) ends h = no_rise before.out.faults now.out.faults (given ≡ status.WriteFault) (faults_of ends.0) h
  out_soak lines (run_end.TurnsSpent turns) ends h = no_rise before.out.faults now.out.faults (given ≡ status.WriteFault) (faults_of ends.0) h
  out_soak lines run_end.ReadFault ends h = no_rise before.out.faults now.out.faults (given ≡ status.WriteFault) (faults_of ends.0) h
  out_soak lines run_end.WriteFault ends h = no_rise before.out.faults now.out.faults (given ≡ status.WriteFault) (faults_of ends.0) h
  out_soak lines run_end.NoMemory ends h = no_rise before.out.faults now.out.faults (given ≡ status.WriteFault) (faults_of ends.0) h

  input_soak : (out : Stream) (lines : List ℕ) (end : RunEnd) (held : Stream) → running.Causes end before.input now.input out held → EndsSoak c lines end given before.out now.out before.err now.err → before.input.faults < now.input.faults → Read'
  input_soak out lines (run_end.Ended finals) held causes ends h = no_rise before.input.faults now.input.faults Read' causes.0 h
  input_soak out lines (run_end.Raised why) held causes ends h = no_rise before.input.faults now.input.faults Read' causes.0 h
  input_soak out lines (run_end.TurnsSpent turns) held causes ends h = no_rise before.input.faults now.input.faults Read' causes.0 h
  input_soak out lines run_end.ReadFault held causes ends h = read_says _ ends.1
  input_soak out lines run_end.WriteFault held causes ends h = no_rise before.input.faults now.input.faults Read' causes.0 h
  input_soak out lines run_end.NoMemory held causes ends h = no_rise before.input.faults now.input.faults Read' causes.0 h

-- of a text

module _ (q : Asked) (text : List ℕ) (given : Status) (before now : Devices) where
  pub err_text : {InTells OutTells : Type 0} → AnswersText InTells OutTells q text given before now → before.err.faults < now.err.faults → given ≡ status.WriteFault
  err_text (Refuses fault is (same, says)) h = err_lacks status.Refused given _ before.err now.err says h
  err_text (Checks c is checks (same, closes)) h = err_closes _ given before.out now.out before.err now.err closes h
  err_text (Lists c is lists (same, (code, coded, stands, closes))) h = err_closes _ given before.out now.out before.err now.err closes h
  err_text (Starts c is runs run) h = err_run c given before now q.vars run.end run.left run.ends h
  err_text (Soaks c is n soaks run) h = err_soak c given before now (soak_lines n (length text) (bytes_of run.held)) run.end run.ends h
  err_text (Lacks same says) h = err_says status.OutOfMemory given _ before.err now.err says h

  pub out_text : {InTells OutTells : Type 0} → AnswersText InTells OutTells q text given before now → before.out.faults < now.out.faults → given ≡ status.WriteFault
  out_text (Refuses fault is (same, says)) h = no_rise before.out.faults now.out.faults (given ≡ status.WriteFault) (faults_of same.out) h
  out_text (Checks c is checks (same, closes)) h = out_closes _ given before.out now.out before.err now.err closes h
  out_text (Lists c is lists (same, (code, coded, stands, closes))) h = out_closes _ given before.out now.out before.err now.err closes h
  out_text (Starts c is runs run) h = out_run c given before now q.vars run.end run.left run.runs.causes run.ends h
  out_text (Soaks c is n soaks run) h = out_soak c given before now (soak_lines n (length text) (bytes_of run.held)) run.end run.ends h
  out_text (Lacks same says) h = no_rise before.out.faults now.out.faults (given ≡ status.WriteFault) (faults_of same.out) h

  pub input_text : {InTells OutTells : Type 0} → AnswersText InTells OutTells q text given before now → before.input.faults < now.input.faults → (given ≡ status.ReadFault) ⊎ (given ≡ status.WriteFault)
  input_text (Refuses fault is (same, says)) h = no_rise before.input.faults now.input.faults ((given ≡ status.ReadFault) ⊎ (given ≡ status.WriteFault)) (faults_of same.input) h
  input_text (Checks c is checks (same, closes)) h = no_rise before.input.faults now.input.faults ((given ≡ status.ReadFault) ⊎ (given ≡ status.WriteFault)) (faults_of same) h
  input_text (Lists c is lists (same, (code, coded, stands, closes))) h = no_rise before.input.faults now.input.faults ((given ≡ status.ReadFault) ⊎ (given ≡ status.WriteFault)) (faults_of same) h
  input_text (Starts c is runs run) h = input_run c given before now q.vars run.end run.left run.runs.causes run.ends h
  input_text (Soaks c is n soaks run) h = input_soak c given before now unwritten (soak_lines n (length text) (bytes_of run.held)) run.end run.held run.runs.causes run.ends h
  input_text (Lacks same says) h = no_rise before.input.faults now.input.faults ((given ≡ status.ReadFault) ⊎ (given ≡ status.WriteFault)) (faults_of same.input) h

abbrev Shelved : Status → Type 0
Shelved given = (given ≡ status.ShelfFault) ⊎ (given ≡ status.WriteFault) ⊎ (given ≡ status.OutOfMemory)

shelf_says : (given : Status) (line : List ℕ) (old new : Stream) → SaysOrLacks status.ShelfFault line given old new → Shelved given
shelf_says given line old new (inl (inl (is, grown))) = inl is
shelf_says given line old new (inl (inr (is, broke))) = inr (inl is)
shelf_says given line old new (inr (inl (is, grown))) = inr (inr is)
shelf_says given line old new (inr (inr (is, broke))) = inr (inl is)

untouched_counts : (given : Status) (before now : Outside) → Untouched before.devices now.devices → (before.devices.err.faults < now.devices.err.faults → given ≡ status.WriteFault) → (before.shelf.faults < now.shelf.faults → Shelved given) → Counts given before now
untouched_counts given before now same err shelf = record {
  out = λ h. no_rise before.devices.out.faults now.devices.out.faults (given ≡ status.WriteFault) (faults_of same.out) h;
  err = err;
  input = λ h. no_rise before.devices.input.faults now.devices.input.faults ((given ≡ status.ReadFault) ⊎ (given ≡ status.WriteFault)) (faults_of same.input) h;
  shelf = shelf;
}

file_counts : {InTells OutTells : Type 0} (q : Asked) (given : Status) (before now : Outside) → AnswersFile InTells OutTells q given before now → Counts given before now
file_counts q given before now (Unread rose same says) =
    untouched_counts given before now same (err_lacks status.ShelfFault given _ before.devices.err now.devices.err says) (λ h. shelf_says given _ before.devices.err now.devices.err says)
file_counts q given before now (Short same untouched says) =
    untouched_counts given before now untouched (err_says status.OutOfMemory given _ before.devices.err now.devices.err says) (λ h. no_rise before.shelf.faults now.shelf.faults (Shelved given) same h)
file_counts q given before now (Read text is same answers) = record {
  out = out_text q text given before.devices now.devices answers;
  err = err_text q text given before.devices now.devices answers;
  input = input_text q text given before.devices now.devices answers;
  shelf = λ h. no_rise before.shelf.faults now.shelf.faults (Shelved given) same h;
}

texts_of : {s t : Texts} → t ≡ s → t.faults ≡ s.faults
texts_of e = ap (λ (x : Texts). x.faults) e

counted : {InTells OutTells : Type 0} (words : List (List ℕ)) (given : Status) (before now : Outside) → Answers InTells OutTells words given before now → Counts given before now
counted words given before now (Wrong none same untouched says) =
    untouched_counts given before now untouched (err_says status.Usage given _ before.devices.err now.devices.err says) (λ h. no_rise before.shelf.faults now.shelf.faults (Shelved given) (texts_of same) h)
counted words given before now (Right q asks fetches answers) = file_counts q given before now answers
counted words given before now (Stated q asks n soaks same answers) = record {
  out = out_text q _ given before.devices now.devices answers;
  err = err_text q _ given before.devices now.devices answers;
  input = input_text q _ given before.devices now.devices answers;
  shelf = λ h. no_rise before.shelf.faults now.shelf.faults (Shelved given) (texts_of same) h;
}
counted words given before now (Unasked same untouched says) =
    untouched_counts given before now untouched (err_says status.OutOfMemory given _ before.devices.err now.devices.err says) (λ h. no_rise before.shelf.faults now.shelf.faults (Shelved given) (texts_of same) h)

read_number : (given : Status) → (given ≡ status.ReadFault) ⊎ (given ≡ status.WriteFault) → (number_of given ≡ 6) ⊎ (number_of given ≡ 7)
read_number given (inl is) = inl (ap number_of is)
read_number given (inr is) = inr (ap number_of is)

shelf_number : (given : Status) → (given ≡ status.ShelfFault) ⊎ (given ≡ status.WriteFault) ⊎ (given ≡ status.OutOfMemory) → (number_of given ≡ 3) ⊎ (number_of given ≡ 7) ⊎ (number_of given ≡ 8)
shelf_number given (inl is) = inl (ap number_of is)
shelf_number given (inr (inl is)) = inr (inl (ap number_of is))
shelf_number given (inr (inr is)) = inr (inr (ap number_of is))

pub not_made_good : {InTells OutTells : Type 0} (words : List (List ℕ)) (given : Status) (before now : Outside) → Answers InTells OutTells words given before now → IsNotMadeGood (number_of given) before now
not_made_good words given before now answers =
    let counts = counted words given before now answers in
    record {
      out = λ h. ap number_of (counts.out h);
      err = λ h. ap number_of (counts.err h);
      input = λ h. read_number given (counts.input h);
      shelf = λ h. shelf_number given (counts.shelf h);
    }
