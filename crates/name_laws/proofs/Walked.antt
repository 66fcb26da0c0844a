-- Judgements of primaries, names and statements inside others that keep what each line of the log keeps.
use Rattle.syntax_tree.specs.Syntax.{Name, Primary, Stmt}
use Rattle.name_rules.specs.Expressions.{Inside}
use Rattle.name_rules.specs.Programs.{written_profile}
use Rattle.name_rules.specs.Statements.{Around}
use Rattle.name_rules.specs.declared.log.Log.{Log}
use Rattle.name_rules.specs.declared.log.Taken.{Taken}
use Rattle.name_rules.specs.declared.scope.Context.{Context}
use Rattle.name_rules.specs.declared.types.Scalar.{Scalar}
use Rattle.name_rules.specs.declared.types.Wanted.{Wanted}
use Rattle.std.specs.Prelude.{List, Option}
use Rattle.name_laws.proofs.Walk.{Keeps, Walk}

pub record KeepsInside (walk : Walk) (level : Inside) : Type 0 where
  pub primary : (here : Context) (p : Primary) (want : Wanted) → Keeps walk (level.primary here p want)
  pub name : (here : Context) (n : Name) → Keeps walk (level.name here n)

pub record KeepsAround (walk : Walk) (a : Around) : Type 0 where
  pub names : walk.Takes a.names
  pub level : KeepsInside walk a.level
  pub inner : KeepsInside walk a.inner
  pub within : (here : Context) (s : Stmt) → Keeps walk (a.within here s)

-- it holds of profiles that are written too; subprograms alone write them
pub record WalksProfiles (walk : Walk) : Type 0 where
  pub profile : (ts : List Taken) (s : Option Scalar) (log : Log) → walk.R log (written_profile ts s log).1
