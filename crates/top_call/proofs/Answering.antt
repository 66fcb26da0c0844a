-- What is said of a refusal is what becomes of its text.
use Rattle.std.proofs.Common.{◌≡◌, ℕ, List, refl, ap, ◌∙◌, subst, inl, inr}
use Rattle.ada_port.specs.Ports.{Stream}
use Rattle.stack_code.specs.Listing.{listing_of}
use Rattle.stack_code.specs.declared.code.Code.{Code}
use Rattle.command_words.specs.declared.request.Mode.TheVariants as mode
use Rattle.driver.specs.Coded.{HasCode, StandsFor}
use Rattle.driver.specs.Compile.{IsAccepted, IsRefusalOf}
use Rattle.driver.specs.Compiled.{Compiled}
use Rattle.driver.specs.declared.refusal.Refusal.{Refusal}
use Rattle.driver.specs.declared.refusal.Refusal.TheVariants as refusal
use Rattle.command_words.specs.Words.{Asked}
use Rattle.top_call.specs.Answer.{AnswersText, Refuses, Lists, Lacks, ClosesOrLacks, SaysRefusal, devices}
use Rattle.run_reports.specs.Says.{Says}
use Rattle.run_reports.specs.Lines.{ended}
use Rattle.run_reports.specs.declared.status.Status.{Status}
use Rattle.run_reports.specs.declared.status.Status.TheVariants as status

pub refuses_text : {InTells OutTells : Type 0} (q : Asked) (text : List ℕ) (r : Refusal) (given : Status) (i o e e' : Stream) → IsRefusalOf text r → SaysRefusal q.file text r given e e' → AnswersText InTells OutTells q text given (devices i o e) (devices i o e')
refuses_text q text refusal.OutOfMemory given i o e e' is says = Lacks (record { input = refl; out = refl }) says
refuses_text q text (refusal.Refused code at other note) given i o e e' is (inr lacks) = Lacks (record { input = refl; out = refl }) lacks
refuses_text q text (refusal.Refused code at other note) given i o e e' is (inl (whole, (line, (fault, is_fault, same, line_is), ended_is), says)) =
    let P : List ℕ → Type 0 = λ l. Says status.Refused l given e e' in
    Refuses fault is_fault (record { input = refl; out = refl }, inl (subst P (ended_is ∙ ap ended line_is) says))

pub lists_text : {InTells OutTells : Type 0} (q : Asked) (text : List ℕ) (c : Compiled) (code : Code) (given : Status) (i o o' e e' : Stream) → IsAccepted text c → q.mode ≡ mode.List → HasCode c.program code → StandsFor c.program code → ClosesOrLacks (listing_of code) given o o' e e' → AnswersText InTells OutTells q text given (devices i o e) (devices i o' e')
lists_text q text c code given i o o' e e' accepted lists coded stands (inl closes) = Lists c accepted lists (refl, (code, coded, stands, closes))
lists_text q text c code given i o o' e e' accepted lists coded stands (inr (same, lacks)) = Lacks (record { input = refl; out = same }) lacks
