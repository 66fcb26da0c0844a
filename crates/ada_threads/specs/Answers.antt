-- What a construct answers by how its threads ended, and the path of its threads.
use Rattle.std.specs.Prelude.{◌≡◌, ℕ, ℤ, slice_get, Some, None, Result, Ok, Err}
use Rattle.ada_base.specs.Cuts.{Plan}
use Rattle.stack_code.specs.declared.code.Code.{Code}
use Rattle.stack_code.specs.declared.code.CodeSite.{CodeSite}
use Rattle.stack_code.specs.declared.code.SiteKind.{SiteKind}
use Rattle.stack_code.specs.declared.path.Asked.{Asked}
use Rattle.stack_code.specs.declared.path.Gave.{Gave}
use Rattle.stack_code.specs.declared.path.Gave.TheVariants as gave
use Rattle.stack_code.specs.Machine.{State, sees}
use Rattle.ada_lower.specs.Driven.{answer_of}
use Rattle.machine_paths.specs.Threads.{ThreadPath}
use Rattle.ada_threads.specs.declared.way.End.{End}
use Rattle.ada_threads.specs.declared.way.End.TheVariants as end
use Rattle.ada_threads.specs.declared.way.Way.{Way}
use Rattle.ada_threads.specs.declared.way.Way.TheVariants as way

abbrev pub Answers : SiteKind → ℤ → End → Result Gave Way → Type 0
Answers kind initial (end.Values vs) (Ok g) = (c : Code) (q : Asked) → q.initial ≡ initial → g ≡ answer_of c kind q (gave.Numbers vs)
Answers kind initial (end.Left l) (Ok g) = g ≡ gave.Left l
Answers kind initial end.Spent (Ok g) = ⊥
Answers kind initial end.Paused (Ok g) = ⊥
Answers kind initial end.NoMemory (Ok g) = ⊥
Answers kind initial (end.Values vs) (Err w) = w ≡ way.NoMemory
Answers kind initial (end.Left l) (Err w) = ⊥
Answers kind initial end.Spent (Err w) = w ≡ way.Spent
Answers kind initial end.Paused (Err w) = w ≡ way.Paused
Answers kind initial end.NoMemory (Err w) = w ≡ way.NoMemory

-- the path of a construct's threads, at whose fork a path stands
abbrev pub inner_path : ℕ → Code → Plan → ℕ → CodeSite → State → ThreadPath
inner_path limit c plan base site s = record { limit = limit; code = c; plan = plan; entry = site.entry; base = base; outward = sees s; turns = s.turns; calls = s.calls; nested = s.nested; how = None }

abbrev pub IsPathAt : ℕ → Code → Plan → ℕ → ℕ → State → ThreadPath → Type 0
IsPathAt limit c plan base k s p = (site : CodeSite) × (slice_get c.sites k ≡ Some site) × (p ≡ inner_path limit c plan base site s)
