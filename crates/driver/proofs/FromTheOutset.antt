-- A run of the machine is a run of a unit.
use Rattle.std.proofs.Common.{◌≡◌, ℕ, List, [], ◌∷◌, ◌++◌, length, drop, Bool, true, false, Err, inl, refl, sym, ap, ◌∙◌, subst}
use Rattle.std.proofs.Math.Seq.{drop-append_seam}
use Rattle.ada_base.specs.Cells.{Cell}
use Rattle.ada_meaning.specs.Law as law
use Rattle.ada_meaning.specs.Law.{Outcome}
use Rattle.ada_meaning.specs.Nonblocking.{KeepsRule}
use Rattle.ada_meaning.specs.Programs.{Setting, input_of, sequential}
use Rattle.ada_meaning.specs.Stored.{Fails, MemoryFault, finals_of, outset, outcome_of}
use Rattle.ada_meaning.specs.declared.slots.Variable.{Variable}
use Rattle.ada_meaning.proofs.StoredProof.{stored_law}
use Rattle.ada_port.specs.Ports.{Stream, bytes_of}
use Rattle.ada_lower.specs.Homes.{main_variables}
use Rattle.stack_code.specs.declared.code.Code.{Code}
use Rattle.typed_tree.specs.Syntax.{Program}
use Rattle.run_machine_laws.specs.Programs.{IsLoaded}
use Rattle.run_machine_laws.specs.Telling.{Tells, numbers}
use Rattle.run_machine.specs.Running as machine
use Rattle.run_machine.specs.Running.{ending_of}
use Rattle.run_machine.specs.declared.ends.How.{How}
use Rattle.run_machine.specs.declared.ends.How.TheVariants as how
use Rattle.run_outside.proofs.Getting.{some_input, told_input}
use Rattle.run_outside.specs.Outside.{Faults, Leaves, MayBe, Outside, fresh}
use Rattle.driver.specs.Kept.{IsRoom, read_over}
use Rattle.driver.specs.Running.{Causes, EndsAs, Runs, end_by}
use Rattle.driver.proofs.Only.{only_settled}
use Rattle.driver.proofs.Reading.{finals_read}
use Rattle.run_reports.specs.Ends.{values_of}
use Rattle.run_reports.specs.declared.ends.Finals.{Finals}
use Rattle.run_reports.specs.declared.ends.RunEnd.{RunEnd}
use Rattle.run_reports.specs.declared.ends.RunEnd.TheVariants as run_end

abbrev faults_of : Stream → Stream → Faults
faults_of input out = record { input = input.faults; output = out.faults }

both_same : (f g : Faults) → g ≡ f → (g.input ≡ f.input) × (g.output ≡ f.output)
both_same f g e = (ap (λ (x : Faults). x.input) e, ap (λ (x : Faults). x.output) e)

causes_of : (h : How) (limit : ℕ) (f : Finals) (i j o q : Stream) → machine.Causes h (faults_of i o) (faults_of j q) → Causes (end_by h limit f) i j o q
causes_of how.Ended limit f i j o q h = both_same (faults_of i o) (faults_of j q) h
causes_of (how.Raised reason) limit f i j o q h = both_same (faults_of i o) (faults_of j q) h
causes_of how.TurnsSpent limit f i j o q h = both_same (faults_of i o) (faults_of j q) h
causes_of how.ReadFault limit f i j o q h = h
causes_of how.WriteFault limit f i j o q h = h
causes_of how.NoMemory limit f i j o q h = both_same (faults_of i o) (faults_of j q) h

-- the answer is that of the run
ends_as : (p : Program) (h : How) (limit : ℕ) (f : Finals) (o : Outcome) → o.ending ≡ ending_of h → (ending_of h ≡ law.Ended → o.finals ≡ values_of p f) → EndsAs p limit (end_by h limit f) o
ends_as p how.Ended limit f o same left = (same, left refl)
ends_as p (how.Raised reason) limit f o same left = same
ends_as p how.TurnsSpent limit f o same left = (same, refl)
ends_as p how.ReadFault limit f o same left = same
ends_as p how.WriteFault limit f o same left = same
ends_as p how.NoMemory limit f o same left = same

-- the counts of devices that a run left so
faults_left : {InTells OutTells : Type 0} (o : Outside) (j q : Stream) → Leaves InTells OutTells o j q → faults_of j q ≡ o.faults
faults_left o j q l = ap (λ n. let f : Faults = record { input = n; output = q.faults } in f) l.input ∙ ap (λ n. let f : Faults = record { input = o.faults.input; output = n } in f) l.output

-- what a source that tells has left of an input that may be the whole one
left_over : {InTells OutTells : Type 0} (o : Outside) (j q : Stream) (w : List ℕ) → Leaves InTells OutTells o j q → MayBe InTells w o → InTells → bytes_of j ≡ drop (length o.came) w
unfolding MayBe
left_over o j q w left k told = left.coming ∙ sym (ap (drop (length o.came)) k.1.0 ∙ drop-append_seam o.came k.0 ∙ go _ k.1.1.0 (k.1.1.1 told) (left.over told))
  where
    go : (over : Bool) → (over ≡ true → k.0 ≡ []) → (over ≡ false → k.0 ≡ o.coming) → (over ≡ true → o.coming ≡ []) → k.0 ≡ o.coming
    go true none follows left = none refl ∙ sym (left refl)
    go false none follows left = follows refl

-- what was read has the variables' values
values_read : (p : Program) (variables : List Variable) (room f : Finals) (cells : List Cell) → variables ≡ main_variables p 0 p.body.decls → IsRoom variables room → f.kept ≡ read_over room.kept cells → f.declared ≡ room.declared
    → finals_of p (numbers cells) (main_variables p 0 p.body.decls) ≡ values_of p f
values_read p variables room f cells placed is read same =
    ap (finals_of p (numbers cells)) (sym placed)
    ∙ sym (finals_read p is.size variables cells is.within)
    ∙ (λ i. finals_of p (read_over (sym is.kept i) cells) (sym is.declared i))
    ∙ (λ i. finals_of p (sym read i) (sym same i))

-- a run of the machine from the outset
machine_runs : {InTells OutTells : Type 0} (p : Program) (set : Setting) (c : Code) (frame slots : ℕ) (variables : List Variable) (room f : Finals) (h : How) (t : Outside) (cells : List Cell) (i j o q : Stream)
    → IsLoaded p c frame slots → variables ≡ main_variables p 0 p.body.decls → IsRoom variables room → f.kept ≡ read_over room.kept cells → f.declared ≡ room.declared
    → machine.Runs InTells set c frame (bytes_of o) h (fresh i o) t cells → Leaves InTells OutTells t j q
    → Runs InTells OutTells p set (end_by h set.limit f) i j o q
machine_runs {InTells} p set c frame slots variables room f h t cells i j o q loaded placed is read same runs left =
    let some = some_input InTells t in
    let tells : Tells p set some.0 (ending_of h) runs.over.output (length t.came) cells = runs.tells p slots loaded some.0 some.1 in
    record {
      causes = causes_of h set.limit f i j o q (subst (machine.Causes h (faults_of i o)) (sym (faults_left t j q left)) runs.cause);
      on = some.0;
      told = λ told. told_input some.0 (fresh i o) told refl refl (runs.back.back some.0 some.1);
      run = record {
        outcome = record { output = runs.over.output; taken = length t.came; finals = tells.finals; ending = ending_of h };
        early = tells.early;
        permitted = tells.permitted;
        ends = ends_as p h set.limit f (record { output = runs.over.output; taken = length t.came; finals = tells.finals; ending = ending_of h }) refl (λ ended. tells.left ended ∙ values_read p variables room f cells placed is read same);
        left = λ told. left_over t j q some.0 left some.1 told;
        output = λ told. left.put told ∙ runs.over.put;
        only = λ settled itself. only_settled p set some.0 tells.early _ loaded.accepted tells.permitted settled itself;
        calm = tells.calm;
        prefix = tells.prefix;
      };
    }

-- from where the outside is fresh, and what is told of its end
pub machine_ran : (InTells OutTells : Type 0) (p : Program) (set : Setting) (c : Code) (frame : ℕ) (variables : List Variable) (room f : Finals) (h : How) (s t : Outside) (cells : List Cell) (j q : Stream) (end : RunEnd)
    → ((slots : ℕ) × IsLoaded p c frame slots) → variables ≡ main_variables p 0 p.body.decls → IsRoom variables room → f.kept ≡ read_over room.kept cells → f.declared ≡ room.declared
    → machine.Runs InTells set c frame s.put h s t cells → Leaves InTells OutTells t j q → end ≡ end_by h set.limit f
    → (i o : Stream) → s ≡ fresh i o → Runs InTells OutTells p set end i j o q
machine_ran InTells OutTells p set c frame variables room f h s t cells j q end loaded placed is read same runs left told i o begun =
    subst (λ (e : RunEnd). Runs InTells OutTells p set e i j o q) (sym told)
    (machine_runs p set c frame loaded.0 variables room f h t cells i j o q loaded.1 placed is read same (subst (λ (x : Outside). machine.Runs InTells set c frame x.put h x t cells) begun runs) left)

nothing_behind : (before : List ℕ) → drop (length before) before ≡ []
nothing_behind [] = refl
nothing_behind (b ∷ before) = nothing_behind before

-- a run that isn't begun
pub unbegun_runs : {InTells OutTells : Type 0} (p : Program) (set : Setting) (b n : Outside) (i j o q : Stream) → KeepsRule p → n ≡ fresh i o → b ≡ n → Leaves InTells OutTells b j q → Runs InTells OutTells p set run_end.NoMemory i j o q
unbegun_runs {InTells} {OutTells} p set b n i j o q rule new back left =
    let here : Leaves InTells OutTells (fresh i o) j q = subst (λ (x : Outside). Leaves InTells OutTells x j q) (back ∙ new) left in
    let both = stored_law p set 0 (bytes_of i) (bytes_of o) (Err (Fails MemoryFault)) (outset 0 (bytes_of i) (bytes_of o)) rule (inl (refl, refl)) in
    record {
      causes = (here.input, here.output);
      on = bytes_of i;
      told = λ told. refl;
      run = record {
        outcome = outcome_of p (bytes_of o) (Err (Fails MemoryFault)) (outset 0 (bytes_of i) (bytes_of o));
        early = both.1.0;
        permitted = both.1.1;
        ends = refl;
        left = λ told. here.coming;
        output = λ told. here.put told ∙ both.0;
        only = λ settled itself. absurd itself;
        calm = λ calm itself. absurd itself;
        prefix = λ calm. ((sequential p set.limit (input_of (bytes_of i))).output, ap (λ z. z ++ (sequential p set.limit (input_of (bytes_of i))).output) (sym (nothing_behind (bytes_of o))));
      };
    }
