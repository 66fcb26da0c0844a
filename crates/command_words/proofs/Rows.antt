-- What the words of each row ask for, by computation.
use Rattle.std.proofs.Common.{◌≡◌, refl, map}
use Rattle.clap.proofs.OnLiterals.{clap_on_literals}
use Rattle.command_words.specs.Values.{sizes}
use Rattle.command_words.specs.Words.{asked}
use Rattle.command_words.specs.Examples.{forms, numbers, plans}

pub forms_are : map (λ row. asked row.words) forms ≡ map (λ row. row.asks) forms
unfolding asked clap_on_literals
forms_are = refl

pub numbers_are : map (λ row. asked row.words) numbers ≡ map (λ row. row.asks) numbers
unfolding asked clap_on_literals
numbers_are = refl

pub plans_are : map (λ row. asked row.words) plans ≡ map (λ row. row.asks) plans
unfolding asked sizes clap_on_literals
plans_are = refl
