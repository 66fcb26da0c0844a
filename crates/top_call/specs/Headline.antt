-- The theorem of the product.
use Rattle.std.specs.Prelude.{◌≡◌, ℕ, List, Some, None, true, false}
use Rattle.ada_meaning.specs.Law.{IsRaceFree}
use Rattle.command_words.specs.Words.{Asked, asked}
use Rattle.command_words.specs.declared.request.Mode.TheVariants as mode
use Rattle.driver.specs.Compile.{IsAccepted, IsFaultOf}
use Rattle.driver.specs.Compiled.{Compiled}
use Rattle.driver.specs.Complaints.{Complaint}
use Rattle.run_reports.specs.Says.{number_of}
use Rattle.run_reports.specs.declared.status.Status.{Status}
use Rattle.top_call.specs.Answer.{ChecksSo, ListsSo, Outside, RefusesSo, RunsSo, SoaksSo, UsageSo, text_of}
use Rattle.top_call.specs.Causes.{Answered, Cause, IsNotMadeGood, Meets, OfDue, PutsPrefix, PutsVars, PutsVarsPrefix}
use Rattle.top_call.specs.Complete.{Completes, ComesToCalm, ComesToOnly, NoneRose}

-- What is promised of a call with these words, of the number of its status, and of the outside before it and after it. `InTells`
-- and `OutTells` hold where input and out tell their bytes. Where this or that is met, a device may have failed before it, or
-- memory run out.
pub record Headline (InTells OutTells : Type 0) (words : List (List ℕ)) (number : ℕ) (before now : Outside) : Type 0 where
  -- All of what follows at once, with what is put to err, and also where text, input or out aren't told.
  pub answer : Answered InTells OutTells words number before now
  -- No two threads of an accepted text touch one variable where one writes, under whatever plan, limit, number of workers and
  -- input.
  pub race_free : (text : List ℕ) (c : Compiled) → IsAccepted text c → IsRaceFree c.program
  -- An accepted text is run, as a permitted run does; or told to be accepted; or the code that stands for it is listed; or it
  -- is the stated text of a soak and run so, for which nothing is fetched.
  pub runs : OfDue words before (λ q text c. q.mode ≡ mode.Run → Meets (RunsSo InTells OutTells q c) number before now)
  pub checks : OfDue words before (λ q text c. q.mode ≡ mode.Check → Meets ChecksSo number before now)
  pub lists : OfDue words before (λ q text c. q.mode ≡ mode.List → Meets (ListsSo c) number before now)
  pub soaks : OfDue words before (λ q text c. (n : ℕ) → q.mode ≡ mode.Soak n → Meets (SoaksSo InTells OutTells q n text c) number before now)
  pub soak_fetches_nothing : (q : Asked) (n : ℕ) → asked words ≡ Some q → q.mode ≡ mode.Soak n → now.shelf ≡ before.shelf
  -- A text with a fault is refused by the line of that fault, and wrong words get the usage line.
  pub refuses : (q : Asked) (text : List ℕ) (fault : Complaint) → asked words ≡ Some q → text_of q before.shelf ≡ Some text
      → IsFaultOf text fault → Meets (RefusesSo q fault) number before now
  pub wrong_words : asked words ≡ None → Meets UsageSo number before now
  -- Where no device fails an accepted text gets 0 where it is checked or listed, and 0, 4 or 5 where it is run, or memory runs
  -- out.
  pub complete : OfDue words before (λ q text c. NoneRose before now → Completes q.mode number)
  -- Where it is run, status and bytes are then those of every permitted run that ends by itself, and left no parallel construct
  -- early or had one worker: so there is one such outcome.
  pub only : OfDue words before (λ q text c. ComesToOnly InTells OutTells q c text number before now)
  -- They are the sequential run's wherever that is calm: it ends within the limit, leaves no parallel construct early, and its
  -- parallel reductions are listed ones without partial overflow.
  pub calm : OfDue words before (λ q text c. ComesToCalm InTells OutTells q c text number before now)
  -- Whatever the status, also where a fault or want of memory stopped the run, a prefix of a calm sequential run's output is put.
  pub prefix : OfDue words before (λ q text c. q.mode ≡ mode.Run → q.vars ≡ false → PutsPrefix InTells OutTells q c before.devices now.devices)
  -- Where variables are asked for and the status is 0, a permitted run's output and then the lines of its final variables are
  -- put; and whatever the status, a prefix of a calm sequential run's.
  pub vars : OfDue words before (λ q text c. q.mode ≡ mode.Run → q.vars ≡ true → number ≡ 0 → PutsVars InTells OutTells q c before.devices now.devices)
  pub vars_prefix : OfDue words before (λ q text c. q.mode ≡ mode.Run → q.vars ≡ true → PutsVarsPrefix InTells OutTells q c before.devices now.devices)
  -- Each status comes by its cause alone.
  pub cause : (given : Status) → number ≡ number_of given → Cause InTells words before now given
  -- A call that failed is not made good: a count that is greater than before gives its status.
  pub counts : IsNotMadeGood number before now
