-- The text of a soak, and a run of it whose output memory holds.
use Rattle.std.proofs.Common.{◌≡◌, ◌∙◌, ℕ, suc, List, [], ◌++◌, ap, append_assoc, inl, refl, subst, sym}
use Rattle.std.specs.Prelude.{⊤}
use Rattle.ada_meaning.specs.Programs.{Setting}
use Rattle.ada_port.specs.Ports.{Stream}
use Rattle.typed_tree.specs.Syntax.{Program}
use Rattle.driver.specs.Running.{Runs}
use Rattle.run_reports.specs.declared.ends.RunEnd.{RunEnd}
use Rattle.run_reports.specs.declared.status.Status.{Status}
use Rattle.command_words.specs.Words.{Asked}
use Rattle.command_words.specs.declared.request.Mode.{Mode}
use Rattle.command_words.specs.declared.request.Mode.TheVariants as mode
use Rattle.top_call.specs.Answer.{AnswersText, Closes, ClosesOrLacks, Devices, Fetches}
use Rattle.top_call.specs.Soak.{back, front, soak_text, statement, statements}

pub whole_text : (n number : ℕ) (text : List ℕ) → number ≡ n → text ≡ front ++ statements number → text ++ back ≡ soak_text n
unfolding soak_text
whole_text n number text last is =
    ap (λ t. t ++ back) is ∙ append_assoc front (statements number) back ∙ ap (λ k. front ++ (statements k ++ back)) last

pub one_more : (number next : ℕ) (text line : List ℕ) → suc number ≡ next → text ≡ front ++ statements number → line ≡ statement next → text ++ line ≡ front ++ statements next
one_more number next text line e is line_is =
    ap (λ t. t ++ line) is ∙ append_assoc front (statements number) line ∙ ap (λ l. front ++ (statements number ++ l)) (line_is ∙ ap statement (sym e)) ∙ ap (λ k. front ++ statements k) e

pub joined : (l₀ l₁ l₂ l₃ l₄ l₅ a b c d e : List ℕ) → l₀ ≡ [] → l₁ ≡ l₀ ++ a → l₂ ≡ l₁ ++ b → l₃ ≡ l₂ ++ c → l₄ ≡ l₃ ++ d → l₅ ≡ l₄ ++ e → l₅ ≡ a ++ (b ++ (c ++ (d ++ e)))
joined l₀ l₁ l₂ l₃ l₄ l₅ a b c d e none first second third fourth fifth =
    fifth ∙ ap (λ l. l ++ e) (fourth ∙ ap (λ l. l ++ d) (third ∙ ap (λ l. l ++ c) (second ∙ ap (λ l. l ++ b) (first ∙ ap (λ l. l ++ a) none))))
    ∙ append_assoc ((a ++ b) ++ c) d e ∙ append_assoc (a ++ b) c (d ++ e) ∙ append_assoc a b (c ++ (d ++ e))

-- what becomes of these bytes and of this text is what becomes of the same ones
pub same_lines : (lines due : List ℕ) (given : Status) (o o' e e' : Stream) → lines ≡ due → Closes lines given o o' e e' → ClosesOrLacks due given o o' e e'
same_lines lines due given o o' e e' is closes = inl (subst (λ (l : List ℕ). Closes l given o o' e e') is closes)

pub same_text : {InTells OutTells : Type 0} (q : Asked) (text due : List ℕ) (given : Status) (before now : Devices) → text ≡ due → AnswersText InTells OutTells q text given before now → AnswersText InTells OutTells q due given before now
same_text {InTells} {OutTells} q text due given before now is answers = subst (λ (t : List ℕ). AnswersText InTells OutTells q t given before now) is answers

-- what tells its bytes needs no premise
pub held_runs : {InTells OutTells : Type 0} (p : Program) (set : Setting) (end : RunEnd) (input input' out out' : Stream) → OutTells → Runs InTells OutTells p set end input input' out out' → Runs InTells ⊤ p set end input input' out out'
held_runs p set end input input' out out' tells runs = let run = runs.run in record {
  causes = runs.causes;
  on = runs.on;
  told = runs.told;
  run = record {
    outcome = run.outcome;
    early = run.early;
    permitted = run.permitted;
    ends = run.ends;
    left = run.left;
    output = λ t. run.output tells;
    only = run.only;
    calm = run.calm;
    prefix = run.prefix;
  };
}

pub fetches_else : (m : Mode) → ((n : ℕ) → m ≡ mode.Soak n → ⊥) → Fetches m
fetches_else mode.Check other = tt
fetches_else mode.Run other = tt
fetches_else mode.List other = tt
fetches_else (mode.Soak n) other = other n refl
