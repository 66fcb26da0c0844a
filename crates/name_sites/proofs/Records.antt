-- How the parts of what is found on the way are counted, and judgements of what stands inside others.
use Rattle.std.proofs.Common.{List, Option, [], arith, ℕ, ◌+◌, ◌++◌, ◌∷◌, ◌≡◌}
use Rattle.syntax_tree.specs.Syntax.{Expr, Name, Primary, Stmt}
use Rattle.typed_tree.specs.Syntax.{Sub}
use Rattle.name_rules.specs.Aggregates.{Choosing', Component, Filling, Placing}
use Rattle.name_rules.specs.Calls.{Calling}
use Rattle.name_rules.specs.Cases.{Choosing}
use Rattle.name_rules.specs.Declarations.{Building, Dimensions, Initial}
use Rattle.name_rules.specs.Expressions.{Inside}
use Rattle.name_rules.specs.Iterations.{Chunked, Entered, Walked}
use Rattle.name_rules.specs.Output.{Putting}
use Rattle.name_rules.specs.Programs.{Declared', Whole}
use Rattle.name_rules.specs.Statements.{Around}
use Rattle.name_rules.specs.declared.found.Going.{Going}
use Rattle.name_rules.specs.declared.scope.Context.{Context}
use Rattle.name_rules.specs.declared.types.Wanted.{Wanted}
use Rattle.name_laws.proofs.Walk.{Keeps}
use Rattle.name_laws.proofs.Walked.{KeepsAround, KeepsInside}
use Rattle.typed_sites.specs.Sites.{in_number}
use Rattle.name_sites.proofs.Counts.{in_body, in_subs}
use Rattle.name_sites.proofs.Leaving.{leaving}
use Rattle.name_sites.proofs.Measures.{ListWhole, Measure, counted-by, list-size, option-of, part-measure, with-part}
use Rattle.name_sites.proofs.Spends.{Spends}

abbrev pub site-of : ℕ → Measure (Option ℕ)
site-of s = option-of (counted-by (λ n. in_number s n))

abbrev pub going-of : ℕ → Measure Going
going-of s = record { size = λ g. (site-of s).size g.site; Whole = λ g. (site-of s).Whole g.site }

abbrev pub sub-of : ℕ → Measure Sub
sub-of s = counted-by (λ u. in_body s u.body)

abbrev pub subs-of : ℕ → Measure (Option (List Sub))
subs-of s = option-of (counted-by (λ us. in_subs s us))

abbrev pub chunked-of : ℕ → Measure Chunked
chunked-of s = record { size = λ x. (option-of (part-measure s)).size x.chunk; Whole = λ x. (option-of (part-measure s)).Whole x.chunk }

abbrev pub walked-of : ℕ → Measure Walked
walked-of s = record { size = λ x. (option-of (part-measure s)).size x.made; Whole = λ x. (option-of (part-measure s)).Whole x.made }

abbrev pub entered-of : ℕ → Measure Entered
entered-of s = record { size = λ x. (site-of s).size x.construct + ((option-of (part-measure s)).size x.chunk + (option-of (part-measure s)).size x.iteration); Whole = λ x. (site-of s).Whole x.construct × (option-of (part-measure s)).Whole x.chunk × (option-of (part-measure s)).Whole x.iteration }

abbrev pub filling-of : ℕ → Measure Filling
filling-of s = record { size = λ x. (option-of (part-measure s)).size x.done; Whole = λ x. (option-of (part-measure s)).Whole x.done }

abbrev pub placing-of : ℕ → Measure Placing
placing-of s = record { size = λ x. (option-of (part-measure s)).size x.done + (option-of (option-of (part-measure s))).size x.rest; Whole = λ x. (option-of (part-measure s)).Whole x.done × (option-of (option-of (part-measure s))).Whole x.rest }

abbrev pub choosing-of : ℕ → Measure Choosing
choosing-of s = record { size = λ x. (part-measure s).size x.mentions; Whole = λ x. (part-measure s).Whole x.mentions }

abbrev pub chosen-of : ℕ → Measure Choosing'
chosen-of s = record { size = λ x. (part-measure s).size x.mentions; Whole = λ x. (part-measure s).Whole x.mentions }

abbrev pub calling-of : ℕ → Measure Calling
calling-of s = record { size = λ x. (option-of (part-measure s)).size x.actuals; Whole = λ x. (option-of (part-measure s)).Whole x.actuals }

abbrev pub putting-of : ℕ → Measure Putting
putting-of s = record { size = λ x. (option-of (part-measure s)).size x.item + (option-of (part-measure s)).size x.width; Whole = λ x. (option-of (part-measure s)).Whole x.item × (option-of (part-measure s)).Whole x.width }

abbrev pub initial-of : ℕ → Measure Initial
initial-of s = record { size = λ x. (option-of (part-measure s)).size x.stored; Whole = λ x. (option-of (part-measure s)).Whole x.stored }

abbrev pub building-of : ℕ → Measure Building
building-of s = record { size = λ x. (part-measure s).size x.mentions; Whole = λ x. (part-measure s).Whole x.mentions }

abbrev pub dimensions-of : ℕ → Measure Dimensions
dimensions-of s = record { size = λ x. (part-measure s).size x.mentions; Whole = λ x. (part-measure s).Whole x.mentions }

abbrev pub declared-of : ℕ → Measure Declared'
declared-of s = record { size = λ x. (option-of (part-measure s)).size x.decls + (subs-of s).size x.subs; Whole = λ x. (option-of (part-measure s)).Whole x.decls × (subs-of s).Whole x.subs }

abbrev pub whole-of : ℕ → Measure Whole
whole-of s = record { size = λ w. in_subs s w.subs + in_body s w.body; Whole = λ w. Unit {0} × Unit {0} }

-- ---- lists

pub list-sum : {A : Type 0} (m : Measure A) (a b : List A) → list-size m (a ++ b) ≡ list-size m a + list-size m b
list-sum m [] b = omega arith
list-sum m (x ∷ a) b = omega (arith, list-sum m a b)

pub list-whole : {A : Type 0} (m : Measure A) (a b : List A) → ListWhole m a → ListWhole m b → ListWhole m (a ++ b)
list-whole m [] b h k = k
list-whole m (x ∷ a) b h k = (h.0, list-whole m a b h.1 k)

pub subs-sum : (s : ℕ) (a b : List Sub) → in_subs s (a ++ b) ≡ in_subs s a + in_subs s b
subs-sum s [] b = omega arith
subs-sum s (x ∷ a) b = omega (arith, subs-sum s a b)

-- ---- what stands inside others

pub record SpendsInside (s : ℕ) (level : Inside) : Type 0 where
  pub keeps : KeepsInside leaving level
  pub primary : (here : Context) (p : Primary) (want : Wanted) → Spends s (option-of (with-part s)) 0 (level.primary here p want)
  pub name : (here : Context) (n : Name) → Spends s (option-of (with-part s)) 0 (level.name here n)

pub record SpendsAround (s : ℕ) (a : Around) : Type 0 where
  pub keeps : KeepsAround leaving a
  pub level : SpendsInside s a.level
  pub inner : SpendsInside s a.inner
  pub within : (here : Context) (t : Stmt) → Spends s (option-of (part-measure s)) 0 (a.within here t)

pub record SpendsComponent (s : ℕ) (component : Component) : Type 0 where
  pub keeps : (here : Context) (e : Expr) → Keeps leaving (component here e)
  pub gives : (here : Context) (e : Expr) → Spends s (option-of (part-measure s)) 0 (component here e)
