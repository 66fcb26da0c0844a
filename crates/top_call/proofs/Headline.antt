-- The theorem of the product, from what became of the words.
use Rattle.std.proofs.Common.{ℕ, List, refl}
use Rattle.run_reports.specs.Says.{number_of}
use Rattle.run_reports.specs.declared.status.Status.{Status}
use Rattle.driver.proofs.RaceFree.{accepted_race_free}
use Rattle.top_call.specs.Answer.{Answers, Outside}
use Rattle.top_call.specs.Headline.{Headline}
use Rattle.top_call.proofs.Causes as causes
use Rattle.top_call.proofs.Complete as complete
use Rattle.top_call.proofs.Counts as counts
use Rattle.top_call.proofs.Prefixes as prefixes
use Rattle.top_call.proofs.Variables as variables

pub headline : {InTells OutTells : Type 0} (words : List (List ℕ)) (given : Status) (before now : Outside) → Answers InTells OutTells words given before now → Headline InTells OutTells words (number_of given) before now
headline {InTells} {OutTells} words given before now answers = record {
  answer = (given, refl, answers);
  race_free = λ text c accepted. accepted_race_free text c accepted;
  runs = causes.runs words given before now answers;
  checks = causes.checks words given before now answers;
  lists = causes.lists words given before now answers;
  soaks = causes.soaks words given before now answers;
  soak_fetches_nothing = causes.fetches_nothing words given before now answers;
  refuses = causes.refuses words given before now answers;
  wrong_words = causes.wrong_words words given before now answers;
  complete = complete.complete words given before now answers;
  only = complete.only words given before now answers;
  calm = complete.calm words given before now answers;
  prefix = λ q text c due runs_it none. prefixes.meets_puts q c (number_of given) before now none (causes.runs words given before now answers q text c due runs_it);
  vars = λ q text c due runs_it vars zero. variables.meets_vars InTells OutTells q c (number_of given) before now vars zero (causes.runs words given before now answers q text c due runs_it);
  vars_prefix = λ q text c due runs_it vars. variables.meets_prefix InTells OutTells q c (number_of given) before now vars (causes.runs words given before now answers q text c due runs_it);
  cause = λ due same. causes.cause_of words given due before now answers same;
  counts = counts.not_made_good words given before now answers;
}
