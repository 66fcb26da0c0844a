-- How the parts of what is found on the way are counted, and judgements of what stands inside others.
use Rattle.std.proofs.Common.{List, None, Option, Some, [], arith, refl, ℕ, ◌+◌, ◌++◌, ◌∷◌, ◌≡◌, ◌≤◌}
use Rattle.syntax_tree.specs.Syntax.{Expr, Name, Primary, Stmt}
use Rattle.typed_tree.specs.Decoded.{TypedPart, as_iteration}
use Rattle.typed_tree.specs.Syntax.{Iteration, Sub}
use Rattle.name_rules.specs.Aggregates.{Choosing', Component, Filling, Placing}
use Rattle.name_rules.specs.Calls.{Calling}
use Rattle.name_rules.specs.Cases.{Choosing}
use Rattle.name_rules.specs.Declarations.{Building, Dimensions, Initial}
use Rattle.name_rules.specs.Expressions.{Inside}
use Rattle.name_rules.specs.Iterations.{Chunked, Entered, Walked}
use Rattle.name_rules.specs.Output.{Putting}
use Rattle.name_rules.specs.Programs.{Declared', Whole}
use Rattle.name_rules.specs.Statements.{Around}
use Rattle.name_rules.specs.declared.found.Going.{Going}
use Rattle.name_rules.specs.declared.scope.Context.{Context}
use Rattle.name_rules.specs.declared.types.Wanted.{Wanted}
use Rattle.name_laws.proofs.Walk.{Keeps}
use Rattle.name_laws.proofs.Walked.{KeepsAround, KeepsInside}
use Rattle.name_scopes.proofs.Tallies.{Tally, in_body, in_iteration, in_subs, in_way, turned_by}
use Rattle.name_scopes.proofs.Leaving.{leaving}
use Rattle.name_scopes.proofs.Measures.{Formed, ListWhole, Measure, counted-by, list-size, option-of, part-measure, part-size, with-part}
use Rattle.name_scopes.proofs.Spends.{Spends}

abbrev pub site-of : Tally → Measure (Option ℕ)
site-of s = option-of (counted-by (λ n. s.number n))

abbrev pub going-of : Tally → Measure Going
going-of s = record { size = λ g. (site-of s).size g.site; Whole = λ g. (site-of s).Whole g.site }

abbrev pub sub-of : Tally → Measure Sub
sub-of s = counted-by (λ u. in_body s u.body)

abbrev pub subs-of : Tally → Measure (Option (List Sub))
subs-of s = option-of (counted-by (λ us. in_subs s us))

abbrev pub chunked-of : Tally → Measure Chunked
chunked-of s = record { size = λ x. (option-of (part-measure s)).size x.chunk; Whole = λ x. (option-of (part-measure s)).Whole x.chunk }

-- an iteration, of which a reduction counts for so much more at most
abbrev pub iterating-of : Tally → ℕ → Measure TypedPart
iterating-of s n = record { size = λ p. part-size s p; Whole = λ p. Formed s p × (in_way s (as_iteration p) ≤ n) }

pub iterating-size : (s : Tally) (n : ℕ) (x : Option TypedPart) → (option-of (iterating-of s n)).size x ≡ (option-of (part-measure s)).size x
iterating-size s n None = refl
iterating-size s n (Some x) = refl

abbrev pub components-of : Tally → Measure Iteration
components-of s = record { size = λ i. in_iteration s i; Whole = λ i. in_way s i ≤ 0 }

abbrev pub walked-of : Tally → Measure Walked
walked-of s = record { size = λ x. (option-of (part-measure s)).size x.made; Whole = λ x. (option-of (iterating-of s (turned_by s.backwards x.reverse))).Whole x.made }

abbrev pub entered-of : Tally → Measure Entered
entered-of s = record { size = λ x. (site-of s).size x.construct + ((option-of (part-measure s)).size x.chunk + (option-of (part-measure s)).size x.iteration); Whole = λ x. (site-of s).Whole x.construct × (option-of (part-measure s)).Whole x.chunk × (option-of (iterating-of s (turned_by s.backwards x.reverse))).Whole x.iteration }

abbrev pub filling-of : Tally → Measure Filling
filling-of s = record { size = λ x. (option-of (part-measure s)).size x.done; Whole = λ x. (option-of (part-measure s)).Whole x.done }

abbrev pub placing-of : Tally → Measure Placing
placing-of s = record { size = λ x. (option-of (part-measure s)).size x.done + (option-of (option-of (part-measure s))).size x.rest; Whole = λ x. (option-of (part-measure s)).Whole x.done × (option-of (option-of (part-measure s))).Whole x.rest }

abbrev pub choosing-of : Tally → Measure Choosing
choosing-of s = record { size = λ x. (part-measure s).size x.mentions; Whole = λ x. (part-measure s).Whole x.mentions }

abbrev pub chosen-of : Tally → Measure Choosing'
chosen-of s = record { size = λ x. (part-measure s).size x.mentions; Whole = λ x. (part-measure s).Whole x.mentions }

abbrev pub calling-of : Tally → Measure Calling
calling-of s = record { size = λ x. (option-of (part-measure s)).size x.actuals; Whole = λ x. (option-of (part-measure s)).Whole x.actuals }

abbrev pub putting-of : Tally → Measure Putting
putting-of s = record { size = λ x. (option-of (part-measure s)).size x.item + (option-of (part-measure s)).size x.width; Whole = λ x. (option-of (part-measure s)).Whole x.item × (option-of (part-measure s)).Whole x.width }

abbrev pub initial-of : Tally → Measure Initial
initial-of s = record { size = λ x. (option-of (part-measure s)).size x.stored; Whole = λ x. (option-of (part-measure s)).Whole x.stored }

abbrev pub building-of : Tally → Measure Building
building-of s = record { size = λ x. (part-measure s).size x.mentions; Whole = λ x. (part-measure s).Whole x.mentions }

abbrev pub dimensions-of : Tally → Measure Dimensions
dimensions-of s = record { size = λ x. (part-measure s).size x.mentions; Whole = λ x. (part-measure s).Whole x.mentions }

abbrev pub declared-of : Tally → Measure Declared'
declared-of s = record { size = λ x. (option-of (part-measure s)).size x.decls + (subs-of s).size x.subs; Whole = λ x. (option-of (part-measure s)).Whole x.decls × (subs-of s).Whole x.subs }

abbrev pub whole-of : Tally → Measure Whole
whole-of s = record { size = λ w. in_subs s w.subs + in_body s w.body; Whole = λ w. Unit {0} × Unit {0} }

-- ---- lists

pub list-sum : {A : Type 0} (m : Measure A) (a b : List A) → list-size m (a ++ b) ≡ list-size m a + list-size m b
list-sum m [] b = omega arith
list-sum m (x ∷ a) b = omega (arith, list-sum m a b)

pub list-whole : {A : Type 0} (m : Measure A) (a b : List A) → ListWhole m a → ListWhole m b → ListWhole m (a ++ b)
list-whole m [] b h k = k
list-whole m (x ∷ a) b h k = (h.0, list-whole m a b h.1 k)

pub subs-sum : (s : Tally) (a b : List Sub) → in_subs s (a ++ b) ≡ in_subs s a + in_subs s b
subs-sum s [] b = omega arith
subs-sum s (x ∷ a) b = omega (arith, subs-sum s a b)

-- ---- what stands inside others

pub record SpendsInside (s : Tally) (level : Inside) : Type 0 where
  pub keeps : KeepsInside leaving level
  pub primary : (here : Context) (p : Primary) (want : Wanted) → Spends s (option-of (with-part s)) 0 (level.primary here p want)
  pub name : (here : Context) (n : Name) → Spends s (option-of (with-part s)) 0 (level.name here n)

pub record SpendsAround (s : Tally) (a : Around) : Type 0 where
  pub keeps : KeepsAround leaving a
  pub level : SpendsInside s a.level
  pub inner : SpendsInside s a.inner
  pub within : (here : Context) (t : Stmt) → Spends s (option-of (part-measure s)) 0 (a.within here t)

pub record SpendsComponent (s : Tally) (component : Component) : Type 0 where
  pub keeps : (here : Context) (e : Expr) → Keeps leaving (component here e)
  pub gives : (here : Context) (e : Expr) → Spends s (option-of (part-measure s)) 0 (component here e)
